-- The rows of a sheet are its chunks: none where no bytes are left (rows_none), else the first and those of the rest (rows_next).
use Rattle.std.proofs.Common.{◌≡◌, ℕ, suc, ◌+◌, ◌-◌, ◌*◌, ◌/◌, ◌≤◌, ◌<◌, List, [], ◌∷◌, ◌++◌, ⊎_elim, min, length, take, drop, sym, ap, ◌∙◌, append-nil, length-append, arith}
use mathlib.Core.Path.{ap₂}
use native.Mathlib.Nat.{add_comm, mul-suc, mul-zero, div-mul-le_self, lt-div-mul-add, le-div_iff_mul-le, div-lt_iff_lt-mul, le_of_suc-le-suc, le_antisymm}
use lib.ListN.{drop_of_length-le}
use lib.Seq.{drop-drop, take_all}
use Rattle.std.proofs.lemmas.Bool.{cases_lt}
use Rattle.std.proofs.lemmas.List.{nil_from_length}
use Rattle.std.proofs.Math.Seq.{take-append_seam, drop-append_seam}
use Rattle.fund.specs.Base.{table}
use Rattle.fund.specs.Sheets.{row_count, row_at, rows_of}
use Rattle.laws.specs.Tables.{table_first}

module _ (width : ℕ) (some : 0 < width) where
  between : (n q : ℕ) → q * width ≤ n → n < suc q * width → n / width ≡ q
  between n q low high = le_antisymm (le_of_suc-le-suc ((div-lt_iff_lt-mul some).1 high)) ((le-div_iff_mul-le some).1 low)

  pub rows_none : (s : List ℕ) → length s ≡ 0 → rows_of width s ≡ []
  unfolding rows_of row_count table
  rows_none s e =
      let z : (length s + (width - 1)) / width ≡ 0 = between _ 0 (omega arith) (omega arith) in
      rw z

  module _ (s x rest : List ℕ) (cut : s ≡ x ++ rest) (size : length x ≡ min width (length s)) (left : 0 < length s) where
    sizes : length s ≡ length x + length rest
    sizes = ap length cut ∙ length-append x rest

    count : row_count width s ≡ suc (row_count width rest)
    unfolding row_count
    count = ⊎_elim short long (cases_lt (length s) width)
      where
        short : length s < width → (length s + (width - 1)) / width ≡ suc ((length rest + (width - 1)) / width)
        short h =
            let none : (length rest + (width - 1)) / width ≡ 0 = between _ 0 (omega (arith, sizes)) (omega (arith, sizes)) in
            rw none (between _ 1 (omega (arith, sizes)) (omega (arith, sizes)))

        long : width ≤ length s → (length s + (width - 1)) / width ≡ suc ((length rest + (width - 1)) / width)
        long h =
            let low = div-mul-le_self (length rest + (width - 1)) width in
            let high = lt-div-mul-add {a = length rest + (width - 1)} some in
            between _ _ (omega (arith, sizes)) (omega (arith, sizes))

    first : take width s ≡ x
    first = ⊎_elim short long (cases_lt (length s) width)
      where
        short : length s < width → take width s ≡ x
        short h =
            let none : rest ≡ [] = nil_from_length rest (omega (arith, sizes)) in
            take_all width s (omega (arith, sizes)) ∙ cut ∙ rw (none, append-nil)

        long : width ≤ length s → take width s ≡ x
        long h = let w : width ≡ length x = omega (arith, sizes) in rw (w, cut) (take-append_seam x rest)

    others : drop width s ≡ rest
    others = ⊎_elim short long (cases_lt (length s) width)
      where
        short : length s < width → drop width s ≡ rest
        short h = drop_of_length-le s {i = width} (omega (arith, sizes)) ∙ sym (nil_from_length rest (omega (arith, sizes)))

        long : width ≤ length s → drop width s ≡ rest
        long h = let w : width ≡ length x = omega (arith, sizes) in rw (w, cut) (drop-append_seam x rest)

    at_first : row_at width s 0 ≡ x
    unfolding row_at
    at_first = ap (λ n. take width (drop n s)) (mul-zero width) ∙ first

    later : (k : ℕ) → row_at width s (suc k) ≡ row_at width rest k
    unfolding row_at
    later k = ap (take width) (ap (λ n. drop n s) (mul-suc width k ∙ add_comm (width * k) width) ∙ sym (drop-drop (width * k) width s) ∙ ap (drop (width * k)) others)

    pub rows_next : rows_of width s ≡ x ∷ rows_of width rest
    unfolding rows_of
    rows_next =
        ap (λ n. table n (row_at width s)) count ∙ table_first (row_count width rest) (row_at width s)
        ∙ ap₂ ◌∷◌ at_first (λ i. table (row_count width rest) (λ k. later k i))
