-- The rows of the triangle: a loop that makes the next row, and the sum of a row, which is at most the load of the life and a little for
-- each rounding.
use Rattle.std.specs.Prelude.{◌≡◌, refl, List, [], ◌∷◌, ◌++◌, length, get_or, take, drop, set, replicate}
use Rattle.std.proofs.Common.{sym, ap, ◌∙◌, add-one, take-append-drop, length-drop, get_or-drop, ext_get_or}
use Prim.Native.Nat.{ℕ, zero, suc, ◌+◌, ◌-◌, ◌*◌, ◌≤◌, ◌<◌}
use Rattle.std.proofs.Math.Nat as N
use native.Mathlib.Omega.{arith}
use Rattle.std.proofs.Math.Seq.{paste-suc}
use Rattle.rounding.specs.Rounding.{up}
use Rattle.rounding.proofs.Laws.{near_low, up_low}
use Rattle.fund.specs.declared.Life.{Life}
use Rattle.fund.specs.Base.{total}
use Rattle.fund.specs.Limits.{half_rate}
use Rattle.fund.specs.Folding.{claim, stay}
use Rattle.fund.specs.Transform.{unit, next_row, row}
use Rattle.laws.specs.Triangle.{v, length_row, zeros_at, beyond}

pub row_first : (m : Life) → 1000000000000 ∷ replicate 12 0 ≡ row m 0
unfolding row unit
row_first m = refl

-- ---- a loop that makes a row: the numbers before the column l, and zeros from there
abbrev pub row_up_to : Life → ℕ → ℕ → List ℕ
row_up_to m n l = take l (row m n) ++ drop l (replicate 13 0)

pub row_goes_on : (m : Life) (n l x : ℕ) → l < 13 → x ≡ v m n l → set (row_up_to m n l) l x ≡ row_up_to m n (l + 1)
row_goes_on m n l x h e =
    rw (e, add-one)
    (rw (N.zero-add l, N.zero-add (suc l)) at (paste-suc (replicate 13 0) 0 (row m n) l 0 (omega arith) (let g = length_row m n in omega arith)))

pub row_made : (m : Life) → claim m < half_rate → (n l : ℕ) → n < l → row_up_to m n l ≡ row m n
row_made m c n l h =
    ap (λ (r : List ℕ). take l (row m n) ++ r)
    (ext_get_or 0 (drop l (replicate 13 0)) (drop l (row m n))
    (length-drop l (replicate 13 0) ∙ sym (length-drop l (row m n) ∙ ap (λ k. k - l) (length_row m n)))
    (λ i g. get_or-drop l (replicate 13 0) i 0 ∙ zeros_at 13 (l + i) ∙ sym (get_or-drop l (row m n) i 0 ∙ beyond m c n (l + i) (omega arith))))
    ∙ take-append-drop l (row m n)

-- ---- the sum of a row
abbrev pub sum_row : List ℕ → ℕ
sum_row vs = total (λ v. v) vs

pub take_sum : (l : ℕ) (vs : List ℕ) → sum_row (take (suc l) vs) ≡ sum_row (take l vs) + get_or vs l 0
unfolding total
take_sum zero [] = refl
take_sum (suc l) [] = refl
take_sum zero (v ∷ vs) = omega arith
take_sum (suc l) (v ∷ vs) = let h = take_sum l vs in omega arith

pub take_sum_le : (l : ℕ) (vs : List ℕ) → sum_row (take l vs) ≤ sum_row vs
unfolding total
take_sum_le zero vs = omega arith
take_sum_le (suc l) [] = omega arith
take_sum_le (suc l) (v ∷ vs) = let h = take_sum_le l vs in omega arith

sum_zeros : (n : ℕ) → sum_row (replicate n 0) ≡ 0
unfolding total
sum_zeros zero = refl
sum_zeros (suc n) = let h = sum_zeros n in omega arith

next_sum : (m : Life) (left : ℕ) (vs : List ℕ) → 2 * stay m * sum_row (next_row m left vs) ≤ 2 * (m.q * (left + sum_row vs) + m.i * sum_row vs) + length vs * stay m
unfolding next_row total
next_sum m left [] = omega arith
next_sum m left (v ∷ vs) =
    let h = next_sum m v vs in
    let g = near_low (m.q * left + m.i * v) (stay m) in
    omega arith

module _ (m : Life) (c : claim m < half_rate) where
  next_sum_le : (vs : List ℕ) (k : ℕ) → length vs ≡ 13 → claim m * sum_row vs ≤ stay m * k → sum_row (next_row m 0 vs) ≤ k + 7
  next_sum_le vs k e h =
      let p : 0 < stay m = omega arith in
      let s = next_sum m 0 vs in
      let l : 13 * stay m ≡ length vs * stay m = ap (λ x. x * stay m) (sym e) in
      N.le_of_suc-le-suc (N.lt_of_mul-lt-mul_left (stay m) (omega (arith, N.mul-suc (stay m) (k + 7))))

  pub row_sum : (n : ℕ) → sum_row (row m (suc n)) ≤ up (unit * claim m) (stay m) + 7 * suc n
  unfolding row total
  row_sum zero =
      let z = sum_zeros 12 in
      let u : claim m * (unit + sum_row (replicate 12 0)) ≤ stay m * up (unit * claim m) (stay m) = rw z (omega (arith, up_low (unit * claim m) (stay m) (omega arith))) in
      omega (arith, next_sum_le (row m 0) (up (unit * claim m) (stay m)) (length_row m 0) u)
  row_sum (suc n) =
      let p : claim m ≤ stay m = omega arith in
      let s = next_sum_le (row m (suc n)) (sum_row (row m (suc n))) (length_row m (suc n)) (N.mul-le-mul_right (sum_row (row m (suc n))) p) in
      omega (arith, row_sum n)
