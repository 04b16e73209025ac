-- The numbers of the triangle. METHOD 4 (§4): "q + i is below 500,000 there, so a v is at most 10^12 and the sum before the division
-- below 5×10^17." Of every life of group 1 that passes 6, in every row and column (passes_6): v_most, sum_below_lem.
use Rattle.std.specs.Prelude.{◌≡◌, true, false, length, get_or, replicate}
use Rattle.std.proofs.Math.Path.{refl}
use Rattle.std.proofs.Common.{◌∙◌, ap}
use mathlib.Core.List.{List, [], ◌∷◌}
use Prim.Native.Nat.{ℕ, zero, suc, ◌+◌, ◌*◌, ◌^◌, ◌≤◌, ◌<◌}
use Rattle.std.proofs.Math.Nat as N
use native.Mathlib.Omega.{arith}
use Rattle.rounding.specs.Rounding.{near}
use Rattle.rounding.proofs.Laws.{near_below, near_zero}
use Rattle.fund.specs.declared.Life.{Life}
use Rattle.fund.specs.Limits.{half_rate}
use Rattle.fund.specs.Folding.{claim, stay, single}
use Rattle.fund.specs.Transform.{unit, next_row, row}
use Rattle.fund.specs.Refusals.{half}
use Rattle.laws.specs.Accepted.{not_half}

-- v(n,l), and its neighbour v(n,l-1), "missing neighbours 0"
abbrev pub v : Life → ℕ → ℕ → ℕ
v m n l = get_or (row m n) l 0

abbrev pub left : Life → ℕ → ℕ → ℕ
left m n l = get_or (0 ∷ row m n) l 0

-- "the sum before the division", of which v(n+1,l) is taken
abbrev pub step_sum : Life → ℕ → ℕ → ℕ
step_sum m n l = m.q * left m n l + m.i * v m n l

-- ---- every row has thirteen numbers, each from its two neighbours
length_next_row : (m : Life) (left : ℕ) (vs : List ℕ) → length (next_row m left vs) ≡ length vs
unfolding next_row
length_next_row m left [] = refl
length_next_row m left (v ∷ vs) = ap suc (length_next_row m v vs)

pub length_row : (m : Life) (n : ℕ) → length (row m n) ≡ 13
unfolding row
length_row m zero = refl
length_row m (suc n) = length_next_row m 0 (row m n) ∙ length_row m n

get_or_next_row : (m : Life) (left : ℕ) (vs : List ℕ) (l : ℕ) → l < length vs →
    get_or (next_row m left vs) l 0 ≡ near (m.q * get_or (left ∷ vs) l 0 + m.i * get_or vs l 0) (stay m)
unfolding next_row
get_or_next_row m left [] l h = absurd (omega arith)
get_or_next_row m left (v ∷ vs) zero h = refl
get_or_next_row m left (v ∷ vs) (suc l) h = get_or_next_row m v vs l (omega arith)

pub v_step : (m : Life) (n l : ℕ) → l ≤ 12 → v m (suc n) l ≡ near (step_sum m n l) (stay m)
unfolding row
v_step m n l h = get_or_next_row m 0 (row m n) l (let e = length_row m n in omega arith)

pub zeros_at : (n l : ℕ) → get_or {A = ℕ} (replicate n 0) l 0 ≡ 0
zeros_at zero l = refl
zeros_at (suc n) zero = refl
zeros_at (suc n) (suc l) = zeros_at n l

-- ---- q + i below 500,000
module _ (m : Life) (c : claim m < half_rate) where
  weighted : (k x y : ℕ) → x ≤ k → y ≤ k → m.q * x + m.i * y ≤ claim m * k
  weighted k x y hx hy = omega (arith, N.mul-le-mul_left m.q hx, N.mul-le-mul_left m.i hy)

  next_most : (x : ℕ) (vs : List ℕ) → x ≤ unit → ((l : ℕ) → get_or vs l 0 ≤ unit) → (l : ℕ) → get_or (next_row m x vs) l 0 ≤ unit
  unfolding next_row
  next_most x [] h a l = omega arith
  next_most x (y ∷ vs) h a zero =
      near_below (m.q * x + m.i * y) (stay m) unit (omega arith)
      (omega (arith, weighted unit x y h (a 0), N.mul-le-mul_right unit (let g : claim m ≤ stay m = omega arith in g)))
  next_most x (y ∷ vs) h a (suc l) = next_most y vs (a 0) (λ l. a (suc l)) l

  most : (n l : ℕ) → v m n l ≤ unit
  unfolding row
  most zero zero = N.le_refl unit
  most zero (suc l) = rw (zeros_at 12 l) (omega arith)
  most (suc n) l = next_most 0 (row m n) (omega arith) (most n) l

  left_most : (n l : ℕ) → left m n l ≤ unit
  left_most n zero = omega arith
  left_most n (suc l) = most n l

  pub v_most : (n l : ℕ) → v m n l ≤ 10 ^ 12
  unfolding unit
  v_most n l = most n l

  pub sum_below_lem : (n l : ℕ) → step_sum m n l < 5 * 10 ^ 17
  unfolding unit
  sum_below_lem n l = omega (arith, weighted unit (left m n l) (v m n l) (left_most n l) (most n l))

  -- row n has the columns 0 to n: behind them stand zeros
  next_beyond : (x : ℕ) (vs : List ℕ) (l : ℕ) → get_or (x ∷ vs) l 0 ≡ 0 → get_or vs l 0 ≡ 0 → get_or (next_row m x vs) l 0 ≡ 0
  unfolding next_row
  next_beyond x [] l h k = refl
  next_beyond x (y ∷ vs) zero h k = rw (h, k, N.mul-zero m.q, N.mul-zero m.i) (near_zero (stay m) (omega arith))
  next_beyond x (y ∷ vs) (suc l) h k = next_beyond y vs l h k

  pub beyond : (n l : ℕ) → n < l → v m n l ≡ 0
  unfolding row
  beyond n zero h = absurd (omega arith)
  beyond zero (suc l) h = zeros_at 12 l
  beyond (suc n) (suc l) h = next_beyond 0 (row m n) (suc l) (beyond n l (omega arith)) (beyond n (suc l) (omega arith))

pub passes_6 : (m : Life) → single m ≡ true → half m ≡ false → (n l : ℕ) → (v m n l ≤ 10 ^ 12) × (step_sum m n l < 5 * 10 ^ 17)
passes_6 m s e n l = let c = not_half m e s in (v_most m c n l, sum_below_lem m c n l)
