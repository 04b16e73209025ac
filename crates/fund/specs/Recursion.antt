-- METHOD 6: start, recursion and their bounds.
use Rattle.std.specs.Prelude.{List, [], ◌∷◌, ℕ, zero, suc, ◌+◌, ◌*◌, ◌^◌, ℤ, pos, nat_abs, ◌+ℤ◌, ◌*ℤ◌, if◌then◌else◌}
use Rattle.rounding.specs.Rounding.{near, nearest, up}
use Rattle.fund.specs.declared.Life.{Life}
use Rattle.fund.specs.Base.{total, sum, sumℤ, table, alternate}
use Rattle.fund.specs.Folding.{stay, single}
use Rattle.fund.specs.Transform.{unit, Term, D, H}

-- "Start: t(0) = 10^12, t(n) = nearest(t(n-1)×lambda/(n×10^12)), n to 63; their alternating sum, plus first."
unfoldable pub t : ℕ → ℕ → ℕ
t lambda zero = unit
t lambda (suc n) = near (t lambda n * lambda) (suc n * unit)

unfoldable pub alternating : ℕ → ℤ
alternating lambda = sumℤ 64 (λ n. alternate n (pos (t lambda n)))

-- "Multiply by p of each group 1 member in file order, nearest(·×p/10^6) each time: this is f(0)."
unfoldable pub multiplied : ℤ → List Life → ℤ
multiplied f [] = f
multiplied f (m ∷ ms) = multiplied (if single m then nearest (f *ℤ pos (stay m)) (10 ^ 6) else f) ms

unfoldable pub start : ℕ → List Life → ℤ
start lambda ms = multiplied (alternating lambda) ms

-- "Its bound: c(0) = 0, c(n) = up(c(n-1)×lambda/(n×10^12)) + 1, all c zero if lambda is 0; R(0) = sum of c to 63 plus the
-- number of group 1 members."
unfoldable pub c : ℕ → ℕ → ℕ
c zero n = 0
c (suc lambda) zero = 0
c (suc lambda) (suc n) = up (c (suc lambda) n * suc lambda) (suc n * unit) + 1

unfoldable pub start_bound : ℕ → List Life → ℕ
start_bound lambda ms = sum 64 (c lambda) + total (λ m. if single m then 1 else 0) ms

-- f(x) and R(x), and D(k) and H(k).
pub record Cell : Type 0 where
  pub f : ℤ
  pub R : ℕ

pub record Entry : Type 0 where
  pub D : ℤ
  pub H : ℕ

-- D(1), H(1) to D(X), H(X).
unfoldable pub entries : List Term → ℕ → List Entry
entries ts X = table X (λ k. record { D = D ts (suc k); H = H ts (suc k) })

-- The sums over k = 1 to x: D(1), D(2), .. meet f(x-1), f(x-2), .. to f(0).
unfoldable pub sum_r : List Entry → List Cell → ℕ
sum_r [] cells = 0
sum_r (k ∷ ks) [] = 0
sum_r (k ∷ ks) (y ∷ ys) = up (nat_abs k.D * y.R) unit + up (k.H * (nat_abs y.f + y.R)) unit + sum_r ks ys

unfoldable pub sum_f : List Entry → List Cell → ℤ
sum_f [] cells = pos 0
sum_f (k ∷ ks) [] = pos 0
sum_f (k ∷ ks) (y ∷ ys) = nearest (k.D *ℤ y.f) unit +ℤ sum_f ks ys

-- "R(x) = up((sum of up(|D(k)|×R(x-k)/10^12) + up(H(k)×(|f(x-k)| + R(x-k))/10^12))/x) + 1.
-- f(x) = nearest((sum of nearest(D(k)×f(x-k)/10^12))/x)."
unfoldable pub next_cell : List Entry → ℕ → List Cell → Cell
next_cell ks x before = record { f = nearest (sum_f ks before) x; R = up (sum_r ks before) x + 1 }

-- The cells of x, x-1, .. to 0.
unfoldable pub cells : List Entry → Cell → ℕ → List Cell
cells ks first zero = first ∷ []
cells ks first (suc x) =
    let before = cells ks first x in
    next_cell ks (suc x) before ∷ before
