-- The powers and the logarithm of a member's series odds, with q / p at d and i / p at e: the n-th power has the triangle's row n, its
-- entry l at the place d l + e (n - l) (pow_rows). So θ of the logarithm cut at order r is the sum of the placed terms (log_rows).
use Rattle.std.specs.Prelude.{◌≡◌, refl, Bool, true, false, cond, T, eqb}
use Rattle.std.proofs.Common.{sym, ◌∙◌, ap₂, eqb→eq}
use Rattle.std.proofs.Math.Path.{ap}
use Prim.Native.Nat.{ℕ, zero, suc, ◌+◌ as ◌+ⁿ◌, ◌*◌ as ◌*ⁿ◌, ◌-◌ as ◌∸◌, ◌≤◌ as ◌≤ⁿ◌}
use native.Mathlib.Omega.{arith}
use Rattle.algebra.specs.Series as S
use Rattle.algebra.specs.SeriesRing as SR
use Rattle.algebra.specs.Solver.{ring1, ring2, ring4, ring5, 𝟎, 𝟏, ◌⊕◌, ◌⊗◌, ◌:=◌}
use Rattle.algebra.specs.Q.{ℚ, ℚ_ring, zero_q, one_q, ◌+ℚ◌, ◌*ℚ◌}
use Rattle.algebra.specs.Embedding.{nat}
use Rattle.algebra.specs.Quotient.{inv, over, over_suc}
use Rattle.algebra.specs.RationalSum.{sum, sum_ext, sum_add, sum_mul, sum_first}
use Rattle.algebra.specs.Power.{sgn}
use Rattle.algebra.specs.PowerSeries.{Ser, ◌⋆◌, ◌⊞◌, θ, zero_s, pow, product_ext, product_scale, const_product}
use Rattle.expansion.specs.Logarithm.{log_s}
use Rattle.expansion.specs.Place.{δ, place, δ_cond, one_δ, δ_product, shift_δ}
use Rattle.expansion.specs.Triangle.{left_q, rows_q, term_place, rows_q_split, rows_q_beyond}

abbrev pub odds : ℕ → ℕ → ℕ → ℕ → ℕ → Ser
odds q i p d e = place d (over (nat q) p) ⊞ place e (over (nat i) p)

-- ---- powers
abbrev pub row_series : ℕ → ℕ → ℕ → ℕ → ℕ → ℕ → Ser
row_series q i p d e n k = sum (suc n) (λ l. rows_q q i p n l *ℚ δ (term_place d e n l) k)

-- a sum of weights, moved by d
δ_product_sum : (N : ℕ) (c : ℕ → ℚ) (s : ℕ → ℕ) (d k : ℕ) → (δ d ⋆ (λ j. sum N (λ l. c l *ℚ δ (s l) j))) k ≡ sum N (λ l. c l *ℚ δ (d +ⁿ s l) k)
δ_product_sum zero c s d k = S.product_comm ℚ_ring k (δ d) zero_s ∙ SR.product_zero ℚ_ring k (δ d)
δ_product_sum (suc N) c s d k =
    SR.product_distrib ℚ_ring (δ d) (λ j. sum N (λ l. c l *ℚ δ (s l) j)) (place (s N) (c N)) k
    ∙ ap₂ ◌+ℚ◌ (δ_product_sum N c s d k) (S.product_comm ℚ_ring k (δ d) (place (s N) (c N)) ∙ product_scale k (c N) (δ (s N)) (δ d)
    ∙ ap (λ x. c N *ℚ x) one)
  where
    one : (δ (s N) ⋆ δ d) k ≡ δ (d +ⁿ s N) k
    one = S.product_comm ℚ_ring k (δ (s N)) (δ d) ∙ δ_product d (δ (s N)) k ∙ shift_δ d (s N) k

place_q : (d e n l : ℕ) → d +ⁿ term_place d e n l ≡ term_place d e (suc n) (suc l)
place_q d e n l = go (n ∸ l) (suc n ∸ suc l) (omega arith)
  where
    go : (a b : ℕ) → a ≡ b → d +ⁿ (d *ⁿ l +ⁿ e *ⁿ a) ≡ d *ⁿ suc l +ⁿ e *ⁿ b
    go a b h = ap (λ x. d +ⁿ (d *ⁿ l +ⁿ e *ⁿ x)) h ∙ (let g : d +ⁿ (d *ⁿ l +ⁿ e *ⁿ b) ≡ d *ⁿ suc l +ⁿ e *ⁿ b = omega arith in g)

place_i : (d e n l : ℕ) → l ≤ⁿ n → e +ⁿ term_place d e n l ≡ term_place d e (suc n) l
place_i d e n l h = go (n ∸ l) (suc n ∸ l) (omega arith)
  where
    go : (a b : ℕ) → suc a ≡ b → e +ⁿ (d *ⁿ l +ⁿ e *ⁿ a) ≡ d *ⁿ l +ⁿ e *ⁿ b
    go a b h = (let g : e +ⁿ (d *ⁿ l +ⁿ e *ⁿ a) ≡ d *ⁿ l +ⁿ e *ⁿ suc a = omega arith in g) ∙ ap (λ x. d *ⁿ l +ⁿ e *ⁿ x) h

module _ (q i p d e : ℕ) where
  abbrev a : ℚ
  a = over (nat q) p

  abbrev b : ℚ
  b = over (nat i) p

  abbrev v : ℕ → ℕ → ℚ
  v n l = rows_q q i p n l

  -- 1 at the place of the term (n, l)
  abbrev at_place : ℕ → ℕ → Ser
  at_place n l = δ (term_place d e n l)

  row_q : (n k : ℕ) → (δ d ⋆ row_series q i p d e n) k ≡ sum (suc (suc n)) (λ l. left_q (v n) l *ℚ at_place (suc n) l k)
  row_q n k =
      δ_product_sum (suc n) (v n) (term_place d e n) d k
      ∙ sum_ext (suc n) (λ l. v n l *ℚ δ (d +ⁿ term_place d e n l) k) (λ l. v n l *ℚ at_place (suc n) (suc l) k)
      (λ l h. ap (λ x. v n l *ℚ δ x k) (place_q d e n l))
      ∙ ring2 ℚ_ring (λ x y. x := 𝟎 ⊗ y ⊕ x) tt (sum (suc n) (λ l. v n l *ℚ at_place (suc n) (suc l) k)) (at_place (suc n) 0 k)
      ∙ sym (sum_first (suc n) (λ l. left_q (v n) l *ℚ at_place (suc n) l k))

  row_i : (n k : ℕ) → (δ e ⋆ row_series q i p d e n) k ≡ sum (suc (suc n)) (λ l. v n l *ℚ at_place (suc n) l k)
  row_i n k =
      δ_product_sum (suc n) (v n) (term_place d e n) e k
      ∙ sum_ext (suc n) (λ l. v n l *ℚ δ (e +ⁿ term_place d e n l) k) (λ l. v n l *ℚ at_place (suc n) l k)
      (λ l h. ap (λ x. v n l *ℚ δ x k) (place_i d e n l (omega arith)))
      ∙ ring2 ℚ_ring (λ x y. x := x ⊕ 𝟎 ⊗ y) tt (sum (suc n) (λ l. v n l *ℚ at_place (suc n) l k)) (at_place (suc n) (suc n) k)
      ∙ ap (λ x. sum (suc n) (λ l. v n l *ℚ at_place (suc n) l k) +ℚ x *ℚ at_place (suc n) (suc n) k)
      (sym (rows_q_beyond q i p n (suc n) (omega arith)))

  row_next : (n k : ℕ) → (odds q i p d e ⋆ row_series q i p d e n) k ≡ row_series q i p d e (suc n) k
  row_next n k =
      S.product_add ℚ_ring k (place d a) (place e b) (row_series q i p d e n)
      ∙ ap₂ ◌+ℚ◌ (product_scale k a (δ d) (row_series q i p d e n) ∙ ap (λ x. a *ℚ x) (row_q n k))
      (product_scale k b (δ e) (row_series q i p d e n) ∙ ap (λ x. b *ℚ x) (row_i n k))
      ∙ ap₂ ◌+ℚ◌ (sym (sum_mul (suc (suc n)) a f)) (sym (sum_mul (suc (suc n)) b g))
      ∙ sym (sum_add (suc (suc n)) (λ l. a *ℚ f l) (λ l. b *ℚ g l))
      ∙ sum_ext (suc (suc n)) (λ l. a *ℚ f l +ℚ b *ℚ g l) (λ l. v (suc n) l *ℚ at_place (suc n) l k) (λ l h.
      ring5 ℚ_ring (λ a b x y t. a ⊗ (x ⊗ t) ⊕ b ⊗ (y ⊗ t) := (a ⊗ x ⊕ b ⊗ y) ⊗ t) tt a b (left_q (v n) l) (v n l) (at_place (suc n) l k)
      ∙ ap (λ x. x *ℚ at_place (suc n) l k) (sym (rows_q_split q i p n l)))
    where
      f : ℕ → ℚ
      f l = left_q (v n) l *ℚ at_place (suc n) l k

      g : ℕ → ℚ
      g l = v n l *ℚ at_place (suc n) l k

  pub pow_rows : (n k : ℕ) → pow (odds q i p d e) n k ≡ row_series q i p d e n k
  unfolding rows_q
  pow_rows zero k = one_δ k ∙ ap (λ x. δ x k) first ∙ ring1 ℚ_ring (λ x. x := 𝟎 ⊕ 𝟏 ⊗ x) tt (δ (term_place d e 0 0) k)
    where
      first : 0 ≡ d *ⁿ 0 +ⁿ e *ⁿ (0 ∸ 0)
      first = omega arith
  pow_rows (suc n) k = product_ext k z z (pow z n) (row_series q i p d e n) (λ j l. refl) (λ j l. pow_rows n j) ∙ row_next n k
    where
      z : Ser
      z = odds q i p d e

-- ---- the logarithm
pub log_sum : (z : Ser) (r k : ℕ) → log_s z r k ≡ sum r (λ n. sgn n *ℚ inv n *ℚ pow z (suc n) k)
log_sum z zero k = refl
log_sum z (suc r) k = ap₂ ◌+ℚ◌ (log_sum z r k) (const_product (sgn r *ℚ inv r) (pow z (suc r)) k)

-- what the term (n + 1, l) adds at k
abbrev pub log_entry : ℕ → ℕ → ℕ → ℕ → ℕ → ℕ → ℕ → ℕ → ℚ
log_entry q i p d e k n l = let x = term_place d e (suc n) l in cond (eqb x k) (sgn n *ℚ over (nat x *ℚ rows_q q i p (suc n) l) (suc n)) zero_q

entry_is : (k n x : ℕ) (v : ℚ) → nat k *ℚ (sgn n *ℚ inv n) *ℚ (v *ℚ δ x k) ≡ cond (eqb x k) (sgn n *ℚ over (nat x *ℚ v) (suc n)) zero_q
entry_is k n x v = ap (λ y. nat k *ℚ (sgn n *ℚ inv n) *ℚ (v *ℚ y)) (δ_cond x k) ∙ go (eqb x k) (eqb→eq x k)
  where
    go : (b : Bool) → (T b → x ≡ k) → nat k *ℚ (sgn n *ℚ inv n) *ℚ (v *ℚ cond b one_q zero_q) ≡ cond b (sgn n *ℚ over (nat x *ℚ v) (suc n)) zero_q
    go true h = ring4 ℚ_ring (λ k s i v. k ⊗ (s ⊗ i) ⊗ (v ⊗ 𝟏) := s ⊗ (k ⊗ v ⊗ i)) tt (nat k) (sgn n) (inv n) v
        ∙ ap (λ y. sgn n *ℚ (nat y *ℚ v *ℚ inv n)) (sym (h tt)) ∙ ap (λ y. sgn n *ℚ y) (sym (over_suc (nat x *ℚ v) n))
    go false h = ring2 ℚ_ring (λ c v. c ⊗ (v ⊗ 𝟎) := 𝟎) tt (nat k *ℚ (sgn n *ℚ inv n)) v

pub log_rows : (q i p d e r k : ℕ) → θ (log_s (odds q i p d e) r) k ≡ sum r (λ n. sum (suc (suc n)) (log_entry q i p d e k n))
log_rows q i p d e r k =
    ap (λ x. nat k *ℚ x) (log_sum z r k)
    ∙ sym (sum_mul r (nat k) (λ n. sgn n *ℚ inv n *ℚ pow z (suc n) k))
    ∙ sum_ext r (λ n. nat k *ℚ (sgn n *ℚ inv n *ℚ pow z (suc n) k)) (λ n. sum (suc (suc n)) (log_entry q i p d e k n)) (λ n h. order n)
  where
    z : Ser
    z = odds q i p d e

    order : (n : ℕ) → nat k *ℚ (sgn n *ℚ inv n *ℚ pow z (suc n) k) ≡ sum (suc (suc n)) (log_entry q i p d e k n)
    order n =
        sym (ℚ_ring.mul_assoc (nat k) c (pow z (suc n) k))
        ∙ ap (λ x. nat k *ℚ c *ℚ x) (pow_rows q i p d e (suc n) k)
        ∙ sym (sum_mul (suc (suc n)) (nat k *ℚ c) f)
        ∙ sum_ext (suc (suc n)) (λ l. nat k *ℚ c *ℚ f l) (log_entry q i p d e k n)
        (λ l h. entry_is k n (term_place d e (suc n) l) (rows_q q i p (suc n) l))
      where
        c : ℚ
        c = sgn n *ℚ inv n

        f : ℕ → ℚ
        f l = rows_q q i p (suc n) l *ℚ δ (term_place d e (suc n) l) k
