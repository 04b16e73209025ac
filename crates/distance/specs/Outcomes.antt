-- All outcomes of the group 1 members: their weights add to 10^(6g) (weights_are), their weighted totals to the mean
-- (claims_are), and what they fall short of M by is the sum over x below M of the convolution's cells (shortfall_is). So the
-- excess over M is the totals less M, plus the shortfall (excess_is, excess_whole).
use Rattle.std.specs.Prelude.{◌≡◌, refl, Bool, true, false, List, [], ◌∷◌, ◌++◌, ℕ, zero, suc, ◌+◌, ◌-◌, ◌*◌, ◌^◌, leb, if◌then◌else◌}
use Rattle.std.proofs.Common.{sym, ◌∙◌, ap, ap₂, mul-add, add-mul, mul_assoc, mul_comm, mul_left_comm, mul-zero, zero-add, add_assoc, arith}
use Rattle.std.proofs.Math.Nat.{pow-succ'}
use Rattle.std.proofs.Math.Dec.{leb-zero, leb-suc-zero, leb-suc-suc}
use Rattle.algebra.specs.NatSum.{sum_n, sum_n_ext, sum_n_first, sum_n_zero}
use Rattle.fund.specs.declared.Life.{Life}
use Rattle.fund.specs.Base.{total}
use Rattle.fund.specs.Folding.{stay, single}
use Rattle.fund.specs.Exact.{singles, shifted, one, single_part, Outcome, after, outcomes, excess}
use Rattle.laws.specs.Accepted.{All, Limited}
use Rattle.laws.specs.Tables.{total_append}

-- the weighted sum of h of the totals claimed
abbrev pub expect : (ℕ → ℕ) → List Outcome → ℕ
expect h os = total (λ (o : Outcome). o.weight * h o.claimed) os

after_expect : (h : ℕ → ℕ) (rate amount : ℕ) (os : List Outcome) → expect h (after rate amount os) ≡ rate * expect (λ c. h (amount + c)) os
unfolding total after
after_expect h rate amount [] = sym (mul-zero rate)
after_expect h rate amount (o ∷ os) =
    ap₂ ◌+◌ (mul_assoc rate o.weight (h (amount + o.claimed))) (after_expect h rate amount os)
    ∙ sym (mul-add rate (o.weight * h (amount + o.claimed)) (expect (λ c. h (amount + c)) os))

expect_ext : (h k : ℕ → ℕ) → ((c : ℕ) → h c ≡ k c) → (os : List Outcome) → expect h os ≡ expect k os
unfolding total
expect_ext h k e [] = refl
expect_ext h k e (o ∷ os) = ap₂ (λ x y. o.weight * x + y) (e o.claimed) (expect_ext h k e os)

-- one more member
member_expect : (h : ℕ → ℕ) (m : Life) (ms : List Life) → single m ≡ true →
    expect h (outcomes (m ∷ ms)) ≡ stay m * expect h (outcomes ms) + (m.q * expect (λ c. h (m.d + c)) (outcomes ms) + m.i * expect (λ c. h (m.e + c)) (outcomes ms))
unfolding outcomes
member_expect h m ms s =
    ap (λ b. expect h (if b then after (stay m) 0 os ++ (after m.q m.d os ++ after m.i m.e os) else os)) s
    ∙ total_append (λ (o : Outcome). o.weight * h o.claimed) (after (stay m) 0 os) (after m.q m.d os ++ after m.i m.e os)
    ∙ ap₂ ◌+◌ (after_expect h (stay m) 0 os ∙ ap (λ y. stay m * y) (expect_ext (λ c. h (0 + c)) h (λ c. ap h (none c)) os))
    (total_append (λ (o : Outcome). o.weight * h o.claimed) (after m.q m.d os) (after m.i m.e os) ∙ ap₂ ◌+◌ (after_expect h m.q m.d os) (after_expect h m.i m.e os))
  where
    os : List Outcome
    os = outcomes ms

    none : (c : ℕ) → 0 + c ≡ c
    none c = omega arith

other_expect : (h : ℕ → ℕ) (m : Life) (ms : List Life) → single m ≡ false → expect h (outcomes (m ∷ ms)) ≡ expect h (outcomes ms)
unfolding outcomes
other_expect h m ms s = ap (λ b. expect h (if b then after (stay m) 0 (outcomes ms) ++ (after m.q m.d (outcomes ms) ++ after m.i m.e (outcomes ms)) else outcomes ms)) s

-- ---- what falls short of M: the sum over x below M of (M - x) g(x)
abbrev pub below : (ℕ → ℕ) → ℕ → ℕ
below g M = sum_n M (λ x. (M - x) * g x)

shifted_below : (g : ℕ → ℕ) (d M : ℕ) → below (shifted d g) M ≡ below g (M - d)
unfolding shifted
shifted_below g zero M =
    sum_n_ext M (λ x. (M - x) * shifted 0 g x) (λ x. (M - x) * g x) (λ x l. ap (λ b. (M - x) * (if b then g (x - 0) else 0)) (leb-zero x) ∙ ap (λ y. (M - x) * g y) (none x))
    ∙ ap (below g) (sym (none M))
  where
    none : (x : ℕ) → x - 0 ≡ x
    none x = omega arith
shifted_below g (suc d) zero = ap (below g) e
  where
    e : 0 ≡ 0 - suc d
    e = omega arith
shifted_below g (suc d) (suc M) =
    sum_n_first M (λ x. (suc M - x) * shifted (suc d) g x)
    ∙ ap₂ ◌+◌ (ap (λ b. (suc M - 0) * (if b then g (0 - suc d) else 0)) (leb-suc-zero d) ∙ mul-zero (suc M - 0))
    (sum_n_ext M (λ x. (suc M - suc x) * shifted (suc d) g (suc x)) (λ x. (M - x) * shifted d g x)
    (λ x l. ap₂ (λ k b. k * (if b then g (suc x - suc d) else 0)) (less M x) (leb-suc-suc d x) ∙ ap (λ y. (M - x) * (if leb d x then g y else 0)) (less x d))
    ∙ shifted_below g d M ∙ ap (below g) (sym (less M d)))
    ∙ zero-add (below g (suc M - suc d))
  where
    less : (x y : ℕ) → suc x - suc y ≡ x - y
    less x y = omega arith

sum_linear : (n p q i : ℕ) (k a b c : ℕ → ℕ) → sum_n n (λ x. k x * (p * a x + q * b x + i * c x)) ≡ p * sum_n n (λ x. k x * a x) + q * sum_n n (λ x. k x * b x) + i * sum_n n (λ x. k x * c x)
sum_linear zero p q i k a b c = omega (arith, mul-zero p, mul-zero q, mul-zero i)
sum_linear (suc n) p q i k a b c =
    omega (
      arith,
      sum_linear n p q i k a b c,
      mul-add (k n) (p * a n + q * b n) (i * c n),
      mul-add (k n) (p * a n) (q * b n),
      mul_left_comm (k n) p (a n),
      mul_left_comm (k n) q (b n),
      mul_left_comm (k n) i (c n),
      mul-add p (sum_n n (λ x. k x * a x)) (k n * a n),
      mul-add q (sum_n n (λ x. k x * b x)) (k n * b n),
      mul-add i (sum_n n (λ x. k x * c x)) (k n * c n),
    )

one_below : (M : ℕ) → below one M ≡ M
unfolding one
one_below zero = refl
one_below (suc M) = sum_n_first M (λ x. (suc M - x) * one x) ∙ omega (arith, sum_n_ext M (λ x. (suc M - suc x) * 0) (λ x. 0) (λ x l. mul-zero (suc M - suc x)), sum_n_zero M)

pub shortfall_is : (ms : List Life) (M : ℕ) → below (single_part ms) M ≡ expect (λ c. M - c) (outcomes ms)
unfolding single_part outcomes total
shortfall_is [] M = one_below M ∙ (let e : M ≡ 1 * (M - 0) + 0 = omega arith in e)
shortfall_is (m ∷ ms) M = go (single m) refl (shortfall_is ms)
  where
    g : ℕ → ℕ
    g = single_part ms

    go : (b : Bool) → single m ≡ b → ((M : ℕ) → below g M ≡ expect (λ c. M - c) (outcomes ms)) →
        below (λ x. if b then stay m * g x + m.q * shifted m.d g x + m.i * shifted m.e g x else g x) M ≡ expect (λ c. M - c) (outcomes (m ∷ ms))
    go false s ih = ih M ∙ sym (other_expect (λ c. M - c) m ms s)
    go true s ih =
        sum_linear M (stay m) m.q m.i (λ x. M - x) g (shifted m.d g) (shifted m.e g)
        ∙ ap₂ ◌+◌ (ap₂ ◌+◌ (ap (λ y. stay m * y) (ih M)) (ap (λ y. m.q * y) (moved m.d))) (ap (λ y. m.i * y) (moved m.e))
        ∙ add_assoc (stay m * expect (λ c. M - c) (outcomes ms)) (m.q * expect (λ c. M - (m.d + c)) (outcomes ms)) (m.i * expect (λ c. M - (m.e + c)) (outcomes ms))
        ∙ sym (member_expect (λ c. M - c) m ms s)
      where
        moved : (d : ℕ) → below (shifted d g) M ≡ expect (λ c. M - (d + c)) (outcomes ms)
        moved d = shifted_below g d M ∙ ih (M - d) ∙ expect_ext (λ c. M - d - c) (λ c. M - (d + c)) (λ c. omega arith) (outcomes ms)

-- ---- the weights and the weighted totals
six_more : (n : ℕ) → 10 ^ (6 * (1 + n)) ≡ 1000000 * 10 ^ (6 * n)
six_more n = ap (λ y. 10 ^ y) e ∙ simp pow-succ' (omega arith)
  where
    e : 6 * (1 + n) ≡ suc (suc (suc (suc (suc (suc (6 * n))))))
    e = omega arith

-- p + q + i = 1,000,000
whole : (m : Life) → Limited m → single m ≡ true → (x : ℕ) → stay m * x + (m.q * x + m.i * x) ≡ 1000000 * x
whole m c s x =
    let h = c s in
    let e : stay m + (m.q + m.i) ≡ 1000000 = omega arith in
    omega (arith, ap (λ y. y * x) e, add-mul (stay m) (m.q + m.i) x, add-mul m.q m.i x)

pub weights_are : (ms : List Life) → All Limited ms → expect (λ c. 1) (outcomes ms) ≡ 10 ^ (6 * singles ms)
unfolding singles outcomes total
weights_are [] c = refl
weights_are (m ∷ ms) c = go (single m) refl (weights_are ms c.1)
  where
    go : (b : Bool) → single m ≡ b → expect (λ c. 1) (outcomes ms) ≡ 10 ^ (6 * singles ms) → expect (λ c. 1) (outcomes (m ∷ ms)) ≡ 10 ^ (6 * ((if b then 1 else 0) + singles ms))
    go false s ih = other_expect (λ c. 1) m ms s ∙ ih ∙ ap (λ y. 10 ^ (6 * y)) e
      where
        e : singles ms ≡ 0 + singles ms
        e = omega arith
    go true s ih = member_expect (λ c. 1) m ms s ∙ whole m c.0 s (expect (λ c. 1) (outcomes ms)) ∙ ap (λ y. 1000000 * y) ih ∙ sym (six_more (singles ms))

expect_add : (d : ℕ) (os : List Outcome) → expect (λ c. d + c) os ≡ d * expect (λ c. 1) os + expect (λ c. c) os
unfolding total
expect_add d [] = omega (arith, mul-zero d)
expect_add d (o ∷ os) =
    omega (
      arith,
      expect_add d os,
      mul-add o.weight d o.claimed,
      mul_comm o.weight d,
      mul-add d (o.weight * 1) (expect (λ c. 1) os),
    )

-- group 1's q×d + i×e
unfoldable pub claims : List Life → ℕ
claims ms = total (λ m. if single m then m.q * m.d + m.i * m.e else 0) ms

pub claims_are : (ms : List Life) → All Limited ms → 1000000 * expect (λ c. c) (outcomes ms) ≡ claims ms * 10 ^ (6 * singles ms)
unfolding claims singles outcomes total
claims_are [] c = refl
claims_are (m ∷ ms) c = go (single m) refl (weights_are ms c.1) (claims_are ms c.1)
  where
    C : ℕ
    C = expect (λ c. c) (outcomes ms)

    G : ℕ
    G = 10 ^ (6 * singles ms)

    A : ℕ
    A = m.q * m.d + m.i * m.e

    go : (b : Bool) → single m ≡ b → expect (λ c. 1) (outcomes ms) ≡ G → 1000000 * C ≡ claims ms * G →
        1000000 * expect (λ c. c) (outcomes (m ∷ ms)) ≡ ((if b then A else 0) + claims ms) * 10 ^ (6 * ((if b then 1 else 0) + singles ms))
    go false s w ih = ap (λ y. 1000000 * y) (other_expect (λ c. c) m ms s) ∙ ih ∙ ap₂ (λ x y. x * 10 ^ (6 * y)) (none (claims ms)) (none (singles ms))
      where
        none : (x : ℕ) → x ≡ 0 + x
        none x = omega arith
    go true s w ih =
        ap (λ y. 1000000 * y) (member_expect (λ c. c) m ms s ∙ ap₂ (λ x y. stay m * C + (m.q * x + m.i * y)) (moved m.d) (moved m.e))
        ∙ (let e : 1000000 * (stay m * C + (m.q * (m.d * G + C) + m.i * (m.e * G + C))) ≡ (A + claims ms) * (1000000 * G) = multiplied in e)
        ∙ ap (λ y. (A + claims ms) * y) (sym (six_more (singles ms)))
      where
        moved : (d : ℕ) → expect (λ c. d + c) (outcomes ms) ≡ d * G + C
        moved d = expect_add d (outcomes ms) ∙ ap (λ y. d * y + C) w

        multiplied : 1000000 * (stay m * C + (m.q * (m.d * G + C) + m.i * (m.e * G + C))) ≡ (A + claims ms) * (1000000 * G)
        multiplied =
            omega (
              arith,
              ih,
              whole m c.0 s C,
              mul-add m.q (m.d * G) C,
              mul-add m.i (m.e * G) C,
              mul_assoc m.q m.d G,
              mul_assoc m.i m.e G,
              mul_left_comm (A + claims ms) 1000000 G,
              add-mul A (claims ms) G,
              add-mul (m.q * m.d) (m.i * m.e) G,
            )

-- ---- the excess: c - M plus M is c plus M - c, as whole numbers that are not negative
pub excess_is : (M : ℕ) (os : List Outcome) → excess M os + M * expect (λ c. 1) os ≡ expect (λ c. c) os + expect (λ c. M - c) os
unfolding excess total
excess_is M [] = omega (arith, mul-zero M)
excess_is M (o ∷ os) =
    let e : o.claimed - M + M ≡ o.claimed + (M - o.claimed) = omega arith in
    omega (
      arith,
      excess_is M os,
      ap (λ y. o.weight * y) e,
      mul-add o.weight (o.claimed - M) M,
      mul-add o.weight o.claimed (M - o.claimed),
      mul_comm o.weight M,
      mul-add M (o.weight * 1) (expect (λ c. 1) os),
    )

-- over 10^(6g)
pub excess_whole : (M : ℕ) (ms : List Life) → All Limited ms → excess M (outcomes ms) + M * 10 ^ (6 * singles ms) ≡ expect (λ c. c) (outcomes ms) + below (single_part ms) M
excess_whole M ms c =
    ap (λ y. excess M (outcomes ms) + M * y) (sym (weights_are ms c)) ∙ excess_is M (outcomes ms) ∙ ap (λ y. expect (λ c. c) (outcomes ms) + y) (sym (shortfall_is ms M))
