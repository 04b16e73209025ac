-- A row is taken where all its cells are (rate_some, member_some), and else not, by the first that is not.
use Rattle.std.proofs.Common.{◌≡◌, ℕ, List, Option, Some, None, length, take, drop, sym, ap, ◌∙◌}
use Rattle.std.specs.Prelude.{Float}
use Rattle.std.specs.Float.{binary64}
use Rattle.std.specs.Float.Ieee.{of_bits}
use borrow.Author.Tests.{eq-eqb, ne_eqb}
use Rattle.fund.specs.Limits.{most_age, least_group, most_group, least_lives, most_lives}
use Rattle.fund.specs.SheetCells.{least_first, float_at, cell_of, whole_in, amount_of, rate_in, rate_joined, member_joined, rate_width, member_width, rate_row_of, member_row_of}

-- What is taken of the cell from `at` on.
pub taken : (row : List ℕ) (at : ℕ) {bits : ℕ} {x : Float} {cell : Option Float} {r s : Option ℕ} (f : Option Float → Option ℕ) → bits ≡ least_first (take 8 (drop at row)) → x ≡ of_bits binary64 bits →
    cell ≡ cell_of x → r ≡ f cell → r ≡ s → f (cell_of (float_at row at)) ≡ s
taken row at f bits x cell r s = sym (r ∙ ap f (cell ∙ ap cell_of (x ∙ ap (of_bits binary64) bits))) ∙ s

module _ (row : List ℕ) where
  pub rate_short : (length row ≡ rate_width → ⊥) → None ≡ rate_row_of row
  unfolding rate_row_of
  rate_short h = rw (ne_eqb (length row) rate_width h)

  pub member_short : (length row ≡ member_width → ⊥) → None ≡ member_row_of row
  unfolding member_row_of
  member_short h = rw (ne_eqb (length row) member_width h)

  module _ (long : length row ≡ rate_width) where
    pub rate_no_age : whole_in 0 most_age (cell_of (float_at row 0)) ≡ None → None ≡ rate_row_of row
    unfolding rate_row_of rate_joined
    rate_no_age n = rw (eq-eqb (length row) rate_width long, n)

    module _ {age : ℕ} (a : whole_in 0 most_age (cell_of (float_at row 0)) ≡ Some age) where
      pub rate_no_q : rate_in (cell_of (float_at row 8)) ≡ None → None ≡ rate_row_of row
      unfolding rate_row_of rate_joined
      rate_no_q n = rw (eq-eqb (length row) rate_width long, a, n)

      module _ {q : ℕ} (b : rate_in (cell_of (float_at row 8)) ≡ Some q) where
        pub rate_no_i : rate_in (cell_of (float_at row 16)) ≡ None → None ≡ rate_row_of row
        unfolding rate_row_of rate_joined
        rate_no_i n = rw (eq-eqb (length row) rate_width long, a, b, n)

        pub rate_some : {i : ℕ} → rate_in (cell_of (float_at row 16)) ≡ Some i → Some (record { age = age; q = q; i = i }) ≡ rate_row_of row
        unfolding rate_row_of rate_joined
        rate_some n = rw (eq-eqb (length row) rate_width long, a, b, n)

  module _ (long : length row ≡ member_width) where
    pub member_no_age : whole_in 0 most_age (cell_of (float_at row 0)) ≡ None → None ≡ member_row_of row
    unfolding member_row_of member_joined
    member_no_age n = rw (eq-eqb (length row) member_width long, n)

    module _ {age : ℕ} (a : whole_in 0 most_age (cell_of (float_at row 0)) ≡ Some age) where
      pub member_no_group : whole_in least_group most_group (cell_of (float_at row 8)) ≡ None → None ≡ member_row_of row
      unfolding member_row_of member_joined
      member_no_group n = rw (eq-eqb (length row) member_width long, a, n)

      module _ {group : ℕ} (b : whole_in least_group most_group (cell_of (float_at row 8)) ≡ Some group) where
        pub member_no_d : amount_of (cell_of (float_at row 16)) ≡ None → None ≡ member_row_of row
        unfolding member_row_of member_joined
        member_no_d n = rw (eq-eqb (length row) member_width long, a, b, n)

        module _ {d : ℕ} (h : amount_of (cell_of (float_at row 16)) ≡ Some d) where
          pub member_no_e : amount_of (cell_of (float_at row 24)) ≡ None → None ≡ member_row_of row
          unfolding member_row_of member_joined
          member_no_e n = rw (eq-eqb (length row) member_width long, a, b, h, n)

          module _ {e : ℕ} (k : amount_of (cell_of (float_at row 24)) ≡ Some e) where
            pub member_no_lives : whole_in least_lives most_lives (cell_of (float_at row 32)) ≡ None → None ≡ member_row_of row
            unfolding member_row_of member_joined
            member_no_lives n = rw (eq-eqb (length row) member_width long, a, b, h, k, n)

            pub member_some : {lives : ℕ} → whole_in least_lives most_lives (cell_of (float_at row 32)) ≡ Some lives → Some (record { age = age; group = group; d = d; e = e; lives = lives }) ≡ member_row_of row
            unfolding member_row_of member_joined
            member_some n = rw (eq-eqb (length row) member_width long, a, b, h, k, n)
