-- One k of the sums for a cell: what it adds where D is not 0 and where it is (added, added_none, added_empty), and that
-- the parts fit: the nearest part is at most 2|D|, the parts of R are at most |D| and 3×10^9.
use mathlib.Core.Path.{◌≡◌, sym, ap, ap₂, ◌∙◌}
use mathlib.Core.Bool.{false}
use Prim.Native.Nat.{ℕ, ◌+◌, ◌*◌, ◌^◌, ◌≤◌, ◌<◌}
use native.Mathlib.Nat as N
use native.Mathlib.Omega.{arith}
use lib.IntN.{ℤ, pos, negsuc, nat_abs, ◌+ℤ◌, ◌*ℤ◌, +ℤ_idr, zero-*ℤ}
use Rattle.rounding.specs.Rounding.{near, nearest, up}
use Rattle.rounding.specs.Word.{word}
use Rattle.rounding.proofs.Laws.{near_below, nearest_zero, up_least, up_zero}
use Rattle.rounding.proofs.Word.{Rounds, per_unit_is}
use Rattle.fund.specs.Transform.{unit}
use Rattle.fund.specs.Recursion.{Cell, Entry}
use Rattle.laws.specs.Cells.{add_f}
use Rattle.whole.specs.declared.Sums.{Sums}
use Rattle.whole.specs.Sign.{signed}
use Rattle.whole.specs.Sums.{sum_of, PartFits, WithPart}
use Rattle.recursion_limits.specs.Limits.{CellFits, most_error}
use Rattle.recursion.specs.Steps.{SumsFit, opposite, ProductAdded}
use Rattle.recursion.proofs.Opposite.{nearest_product}

unit_positive : 0 < unit
unfolding unit
unit_positive = omega arith

-- what a function of the crate rounding answers, for factors within its bounds
pub part_is : {round : ℕ → ℕ → ℕ} → Rounds round → (a b a' b' r : ℕ) → a ≡ a' → b ≡ b' → a' ≤ 10 ^ 18 → b' ≤ 10 ^ 13 →
    r ≡ word (round (a * b) (10 ^ 12)) → r ≡ round (a' * b') unit
unfolding unit
part_is {round} rounds a b a' b' r p q h g e =
    e
    ∙ ap₂ (λ a b. word (round (a * b) (10 ^ 12))) p q
    ∙ per_unit_is rounds a' b' h g

-- the rounded parts of one k: D×f to the nearest, |D|×R and H×(|f| + R) up
pub record Parts (k : Entry) (y : Cell) (n a b : ℕ) : Type 0 where
  pub near_is : n ≡ near (nat_abs k.D * nat_abs y.f) unit
  pub D_is : a ≡ up (nat_abs k.D * y.R) unit
  pub H_is : b ≡ up (k.H * (nat_abs y.f + y.R)) unit

pub record Within (k : Entry) (n a b : ℕ) : Type 0 where
  pub near_within : n ≤ 2 * nat_abs k.D
  pub D_within : a ≤ nat_abs k.D
  pub H_within : b ≤ 3 * most_error

zero_size : (z : ℤ) → nat_abs z ≡ 0 → z ≡ pos 0
zero_size (pos n) e = ap pos e
zero_size (negsuc n) e = absurd (omega arith)

module _ (k : Entry) (y : Cell) (limited : CellFits y) (error : k.H ≤ most_error) where
  near_most : near (nat_abs k.D * nat_abs y.f) unit ≤ 2 * nat_abs k.D
  unfolding unit
  near_most =
      near_below (nat_abs k.D * nat_abs y.f) unit (2 * nat_abs k.D) unit_positive
      (omega (arith, N.mul-le-mul_left (nat_abs k.D) limited.level))

  D_most : up (nat_abs k.D * y.R) unit ≤ nat_abs k.D
  unfolding unit
  D_most =
      let h : y.R ≤ 10 ^ 12 = omega (arith, limited.narrow) in
      up_least (nat_abs k.D * y.R) unit (nat_abs k.D) unit_positive (omega (arith, N.mul-le-mul_left (nat_abs k.D) h))

  pub H_most : up (k.H * (nat_abs y.f + y.R)) unit ≤ 3 * most_error
  unfolding unit
  H_most =
      let g : nat_abs y.f + y.R ≤ 3 * 10 ^ 12 = omega (arith, limited.level, limited.narrow) in
      up_least (k.H * (nat_abs y.f + y.R)) unit (3 * most_error) unit_positive (omega (arith, N.mul-le-mul error g))

  pub within : (n a b : ℕ) → Parts k y n a b → Within k n a b
  within n a b p =
      record {
        near_within = rw p.near_is near_most;
        D_within = rw p.D_is D_most;
        H_within = rw p.H_is H_most;
      }

  -- the sums with the parts fit a word
  pub part_fits : (s : Sums) → SumsFit s k y → (n a b : ℕ) → Parts k y n a b → PartFits s n (a + b)
  part_fits s f n a b p =
      let l = within n a b p in
      record {
        plus_fits = omega (arith, l.near_within, f.transform, f.plus_within);
        minus_fits = omega (arith, l.near_within, f.transform, f.minus_within);
        bound_fits = omega (arith, l.D_within, l.H_within, f.transform, f.bound_within);
      }

  -- a part more, of the product's sign, is one k more
  pub added : (s t : Sums) (n a b : ℕ) → Parts k y n a b → WithPart s (opposite k.D y.f) n (a + b) t → ProductAdded s k y t
  added s t n a b p w =
      let l = within n a b p in
      record {
        f_is =
            w.sum_is
            ∙ ap (λ z. sum_of s +ℤ z)
            (ap (signed (opposite k.D y.f)) p.near_is ∙ sym (nearest_product k.D y.f unit unit_positive));
        R_is = w.bound_is ∙ ap (λ z. s.bound + z) (ap₂ ◌+◌ p.D_is p.H_is);
        plus_within = omega (arith, w.plus_within, l.near_within);
        minus_within = omega (arith, w.minus_within, l.near_within);
        bound_within = omega (arith, w.bound_is, l.D_within, l.H_within);
      }

  -- D is 0
  add_f_none : nat_abs k.D ≡ 0 → add_f k y ≡ pos 0
  add_f_none e =
      ap (λ z. nearest (z *ℤ y.f) unit) (zero_size k.D e)
      ∙ ap (λ z. nearest z unit) (zero-*ℤ y.f)
      ∙ nearest_zero unit unit_positive

  up_none : (m n : ℕ) → m ≡ 0 → up (m * n) unit ≡ 0
  up_none m n e = ap (λ m. up (m * n) unit) e ∙ ap (λ m. up m unit) (N.zero-mul n) ∙ up_zero unit unit_positive

  pub added_none : (s t : Sums) (b : ℕ) → nat_abs k.D ≡ 0 → b ≡ up (k.H * (nat_abs y.f + y.R)) unit → WithPart s false 0 b t → ProductAdded s k y t
  added_none s t b e h w =
      record {
        f_is = w.sum_is ∙ ap (λ z. sum_of s +ℤ z) (sym (add_f_none e));
        R_is = omega (arith, w.bound_is, up_none (nat_abs k.D) y.R e, h);
        plus_within = omega (arith, w.plus_within);
        minus_within = omega (arith, w.minus_within);
        bound_within = omega (arith, w.bound_is, h, H_most);
      }

  pub added_empty : (s : Sums) → nat_abs k.D ≡ 0 → k.H ≡ 0 → ProductAdded s k y s
  added_empty s e h =
      record {
        f_is = sym (+ℤ_idr (sum_of s)) ∙ ap (λ z. sum_of s +ℤ z) (sym (add_f_none e));
        R_is = omega (arith, up_none (nat_abs k.D) y.R e, up_none k.H (nat_abs y.f + y.R) h);
        plus_within = omega arith;
        minus_within = omega arith;
        bound_within = omega arith;
      }
