-- The start's terms: t(n) and c(n) grow with lambda, so that their bounds for every lambda up to the most load are computed at
-- that load (t_within, c_within, c_sum). One more t(n) is added, or subtracted for an odd n (terms_more).
use mathlib.Core.Path.{◌≡◌, refl, sym, ap, ap₂, ◌∙◌}
use mathlib.Core.Bool.{Bool, true, false, ◌&&◌}
use mathlib.Core.Logic.{⊎_elim}
use Prim.Native.Nat.{ℕ, zero, suc, ◌+◌, ◌*◌, ◌%◌, ◌^◌, ◌≤◌, ◌<◌}
use native.Mathlib.Nat as N
use native.Mathlib.Omega.{arith}
use borrow.Author.Tests.{eqb-true, eqb-false}
use lib.Dec.{T, eqb, leb, leb→le}
use lib.IntN.{ℤ, pos, neg_ℤ, ◌+ℤ◌, neg_ℤ-neg_ℤ}
use mir.Facts.{and_yes}
use Rattle.rounding.specs.Rounding.{near, up}
use Rattle.rounding.proofs.Laws.{near_mono, up_mono, up_least}
use Rattle.fund.specs.Base.{sum, sumℤ, alternate}
use Rattle.fund.specs.Limits.{most_load}
use Rattle.fund.specs.Transform.{unit}
use Rattle.fund.specs.Recursion.{t, c}
use Rattle.whole.specs.declared.Sums.{Sums}
use Rattle.whole.specs.Sign.{signed}
use Rattle.whole.specs.Sums.{WithPart}
use Rattle.start.specs.Terms.{most_t, most_c, next_c, TermsTo}

-- ---- bounds
-- the first n values of a sequence are at most b, as one test
abbrev below : (ℕ → ℕ) → ℕ → ℕ → Bool
below g b zero = true
below g b (suc n) = leb (g n) b && below g b n

below_at : (g : ℕ → ℕ) (b n : ℕ) → T (below g b n) → (k : ℕ) → k < n → g k ≤ b
below_at g b zero t k h = absurd (omega arith)
below_at g b (suc n) t k h =
    let both = and_yes (leb (g n) b) (below g b n) t in
    ⊎_elim (λ e. rw e (leb→le (g n) b both.0)) (λ l. below_at g b n both.1 k l) (N.eq-or-lt_of_le (N.le_of_suc-le-suc h))

units_positive : (n : ℕ) → 0 < suc n * unit
unfolding unit
units_positive n = omega arith

t_mono : (l l' n : ℕ) → l ≤ l' → t l n ≤ t l' n
unfolding t
t_mono l l' zero h = N.le_refl unit
t_mono l l' (suc n) h = near_mono (t l n * l) (t l' n * l') (suc n * unit) (units_positive n) (N.mul-le-mul (t_mono l l' n h) h)

c_mono : (l l' n : ℕ) → l ≤ l' → c l n ≤ c l' n
unfolding c
c_mono zero l' n h = omega arith
c_mono (suc l) zero n h = absurd (omega arith)
c_mono (suc l) (suc l') zero h = N.le_refl 0
c_mono (suc l) (suc l') (suc n) h =
    let g = up_mono (c (suc l) n * suc l) (c (suc l') n * suc l') (suc n * unit) (units_positive n) (N.mul-le-mul (c_mono (suc l) (suc l') n h) h) in
    omega arith

t_test : T (below (t most_load) most_t 64)
unfolding t unit near
t_test = tt

c_test : T (below (c most_load) most_c 64)
unfolding c unit up
c_test = tt

c_sum_test : T (leb (sum 64 (c most_load)) 691)
unfolding sum c unit up
c_sum_test = tt

module _ (lambda : ℕ) (load : lambda ≤ most_load) where
  pub t_within : (n : ℕ) → n < 64 → t lambda n ≤ most_t
  t_within n h = N.le_trans (t_mono lambda most_load n load) (below_at (t most_load) most_t 64 t_test n h)

  pub c_within : (n : ℕ) → n < 64 → c lambda n ≤ most_c
  c_within n h = N.le_trans (c_mono lambda most_load n load) (below_at (c most_load) most_c 64 c_test n h)

  sum_mono : (n : ℕ) → sum n (c lambda) ≤ sum n (c most_load)
  unfolding sum
  sum_mono zero = N.le_refl 0
  sum_mono (suc n) = N.add-le-add (sum_mono n) (c_mono lambda most_load n load)

  pub c_sum : sum 64 (c lambda) ≤ 691
  c_sum = N.le_trans (sum_mono 64) (leb→le (sum 64 (c most_load)) 691 c_sum_test)

-- ---- one term more
pub t_next : (lambda n : ℕ) → t lambda (suc n) ≡ near (t lambda n * lambda) (suc n * 10 ^ 12)
unfolding t unit
t_next lambda n = refl

pub t_first : (lambda : ℕ) → t lambda 0 ≡ 10 ^ 12
unfolding t unit
t_first lambda = refl

pub c_first : (lambda : ℕ) → c lambda 0 ≡ 0
unfolding c
c_first zero = refl
c_first (suc lambda) = refl

pub c_next : (lambda n : ℕ) → c lambda (suc n) ≡ next_c lambda (c lambda n) (suc n)
unfolding c next_c unit
c_next zero n = refl
c_next (suc lambda) n = refl

pub next_none : (lambda c n : ℕ) → lambda ≡ 0 → next_c lambda c n ≡ 0
unfolding next_c
next_none zero c n e = refl
next_none (suc lambda) c n e = absurd (omega arith)

pub next_some : (lambda c n : ℕ) → (lambda ≡ 0 → ⊥) → next_c lambda c n ≡ up (c * lambda) (n * 10 ^ 12) + 1
unfolding next_c
next_some zero c n e = absurd (e refl)
next_some (suc lambda) c n e = refl

-- a product of a c(n) with lambda
pub product_within : (c lambda : ℕ) → c ≤ most_c → lambda ≤ most_load → c * lambda ≤ 10 ^ 16
product_within c lambda h g = omega (arith, N.mul-le-mul h g)

pub next_within : (lambda c n : ℕ) → c ≤ most_c → lambda ≤ most_load → 0 < n → next_c lambda c n ≤ 10 ^ 17
unfolding next_c
next_within zero c n h g k = omega arith
next_within (suc lambda) c n h g k =
    let w = up_least (c * suc lambda) (n * 10 ^ 12) (10 ^ 16) (omega arith) (omega (arith, N.mul-le-mul h g)) in
    omega arith

-- a term is subtracted for an odd n
alternate_is : (n : ℕ) (z : ℤ) → (n % 2 ≡ 0 → alternate n z ≡ z) × (n % 2 ≡ 1 → alternate n z ≡ neg_ℤ z)
unfolding alternate
alternate_is zero z = (λ e. refl, λ e. absurd (omega arith))
alternate_is (suc n) z =
    let h = alternate_is n z in (
      λ e. ap neg_ℤ (h.1 (omega arith)) ∙ neg_ℤ-neg_ℤ z,
      λ e. ap neg_ℤ (h.0 (omega arith)),
    )

alternate_signed : (n t : ℕ) (b : Bool) → eqb (n % 2) 1 ≡ b → alternate n (pos t) ≡ signed b t
alternate_signed n t true e = (alternate_is n (pos t)).1 (eqb-true (n % 2) 1 e)
alternate_signed n t false e =
    let even : n % 2 ≡ 1 → ⊥ = eqb-false (n % 2) 1 e in
    (alternate_is n (pos t)).0 (omega arith)

pub terms_none : (lambda : ℕ) (s : Sums) → (s.plus ≡ 0) × ((s.minus ≡ 0) × (s.bound ≡ 0)) → TermsTo lambda 0 s
unfolding sum sumℤ
terms_none lambda s e =
    record { sum_is = rw (e.0, e.1.0) refl; bound_is = e.1.1; plus_within = omega arith; minus_within = omega arith; bound_within = omega arith }

pub terms_more : (lambda n : ℕ) (s r : Sums) → lambda ≤ most_load → n < 64 → TermsTo lambda n s →
    WithPart s (eqb (n % 2) 1) (t lambda n) (c lambda n) r → TermsTo lambda (suc n) r
unfolding sum sumℤ
terms_more lambda n s r load h i w =
    let tw = t_within lambda load n h in
    let cw = c_within lambda load n h in
    record {
      sum_is = w.sum_is ∙ ap₂ ◌+ℤ◌ i.sum_is (sym (alternate_signed n (t lambda n) (eqb (n % 2) 1) refl));
      bound_is = w.bound_is ∙ ap (λ m. m + c lambda n) i.bound_is;
      plus_within = omega (arith, w.plus_within, i.plus_within);
      minus_within = omega (arith, w.minus_within, i.minus_within);
      bound_within = omega (arith, w.bound_is, i.bound_within);
    }
