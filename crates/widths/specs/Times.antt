-- Terms of equal lives: what c lives add to D and H is c times what one adds (sum_d_times, sum_h_times), and so are the sizes. So lines with
-- their lives give the D and the H of all lives (D_lines, H_lines), and the sizes of all their terms (size_lines_D, size_lines_H).
use Rattle.std.specs.Prelude.{◌≡◌, Bool, true, false, eqb, ℤ, pos, negsuc, neg_ℤ, nat_abs, ◌*ℤ◌, replicate, if◌then◌else◌}
use Rattle.std.proofs.Math.Path.{refl, sym, ap₂}
use Rattle.std.proofs.Common.{◌∙◌, ap, arith}
use mathlib.Core.List.{List, [], ◌∷◌, ◌++◌}
use Prim.Native.Nat.{ℕ, zero, suc, ◌+◌, ◌*◌}
use Rattle.std.proofs.Math.Nat as N
use Rattle.std.proofs.Math.IntN.{◌+ℤ◌, +ℤ_comm, +ℤ_assoc, +ℤ_idl, *ℤ_comm, *ℤ-zero, zero-*ℤ, suc_ℤ-*ℤ, pos-*ℤ-pos, pos-*ℤ-negsuc}
use Rattle.algebra.specs.Integer.{*ℤ_distrib, neg_ℤ_*ℤ}
use Rattle.fund.specs.declared.Frequencies.{Frequencies}
use Rattle.fund.specs.declared.Life.{Life}
use Rattle.fund.specs.declared.ModelPoint.{ModelPoint}
use Rattle.fund.specs.Base.{total}
use Rattle.fund.specs.Folding.{copies}
use Rattle.fund.specs.Transform.{Term, terms, sum_d, sum_h, D, H}
use Rattle.laws.specs.Terms.{sum_d_append, sum_h_append}
use Rattle.widths.specs.AddedTerms.{size_d, size_h, times, life_terms, point_terms, line_terms}
use Rattle.widths.specs.AddingLaws.{size_d_append, size_h_append}
use Rattle.widths.specs.Signed.{nat_abs_neg}
use Rattle.whole.specs.Sign.{signed}

pub times_append : (c : ℕ) (xs ys : List Term) → times c (xs ++ ys) ≡ times c xs ++ times c ys
unfolding times
times_append c [] ys = refl
times_append c (t ∷ xs) ys = ap (λ l. record { place = t.place; to_d = pos c *ℤ t.to_d; to_h = c * t.to_h } ∷ l) (times_append c xs ys)

pub times_none : (c : ℕ) → times c [] ≡ []
unfolding times
times_none c = refl

-- a list of terms that goes on, with each term c times
pub times_goes : (c : ℕ) (F G : ℕ → List Term) → ((l : ℕ) → F (suc l) ≡ F l ++ G l) → (l : ℕ) → times c (F (suc l)) ≡ times c (F l) ++ times c (G l)
times_goes c F G s l = ap (times c) (s l) ∙ times_append c (F l) (G l)

-- ---- sizes
nat_abs_times : (c : ℕ) (z : ℤ) → nat_abs (pos c *ℤ z) ≡ c * nat_abs z
nat_abs_times c (pos n) = ap nat_abs (pos-*ℤ-pos c n)
nat_abs_times c (negsuc n) = ap nat_abs (pos-*ℤ-negsuc c n) ∙ nat_abs_neg (pos (c * suc n))

-- a size with a sign, c times
pub times_signed : (c : ℕ) (minus : Bool) (size : ℕ) → pos c *ℤ signed minus size ≡ signed minus (c * size)
times_signed c true size = *ℤ_comm (pos c) (neg_ℤ (pos size)) ∙ neg_ℤ_*ℤ (pos size) (pos c) ∙ ap neg_ℤ (*ℤ_comm (pos size) (pos c) ∙ pos-*ℤ-pos c size)
times_signed c false size = pos-*ℤ-pos c size

pub size_d_times : (c : ℕ) (ts : List Term) → size_d (times c ts) ≡ c * size_d ts
unfolding times size_d total
size_d_times c [] = sym (N.mul-zero c)
size_d_times c (t ∷ ts) = ap₂ ◌+◌ (nat_abs_times c t.to_d) (size_d_times c ts) ∙ sym (N.mul-add c (nat_abs t.to_d) (size_d ts))

pub size_h_times : (c : ℕ) (ts : List Term) → size_h (times c ts) ≡ c * size_h ts
unfolding times size_h total
size_h_times c [] = sym (N.mul-zero c)
size_h_times c (t ∷ ts) = ap (λ s. c * t.to_h + s) (size_h_times c ts) ∙ sym (N.mul-add c t.to_h (size_h ts))

-- ---- D and H at a place
pub sum_d_times : (c k : ℕ) (ts : List Term) → sum_d k (times c ts) ≡ pos c *ℤ sum_d k ts
unfolding times sum_d
sum_d_times c k [] = sym (*ℤ-zero (pos c))
sum_d_times c k (t ∷ ts) =
    ap₂ ◌+ℤ◌ (part (eqb t.place k)) (sum_d_times c k ts) ∙ sym (*ℤ_distrib (pos c) (if eqb t.place k then t.to_d else pos 0) (sum_d k ts))
  where
    part : (b : Bool) → (if b then pos c *ℤ t.to_d else pos 0) ≡ pos c *ℤ (if b then t.to_d else pos 0)
    part true = refl
    part false = sym (*ℤ-zero (pos c))

pub sum_h_times : (c k : ℕ) (ts : List Term) → sum_h k (times c ts) ≡ c * sum_h k ts
unfolding times sum_h
sum_h_times c k [] = sym (N.mul-zero c)
sum_h_times c k (t ∷ ts) =
    ap₂ ◌+◌ (part (eqb t.place k)) (sum_h_times c k ts) ∙ sym (N.mul-add c (if eqb t.place k then t.to_h else 0) (sum_h k ts))
  where
    part : (b : Bool) → (if b then c * t.to_h else 0) ≡ c * (if b then t.to_h else 0)
    part true = refl
    part false = sym (N.mul-zero c)

-- ---- a quantity that adds up over lists of terms, and is c times as much for each term c times
module _ (X r : ℕ) (a : Frequencies) where
  terms_first : (m : Life) (n : ℕ) (ms : List Life) → terms X r a (replicate (suc n) m ++ ms) ≡ life_terms X r a m ++ terms X r a (replicate n m ++ ms)
  unfolding terms
  terms_first m n ms = refl

  copied_D : (k : ℕ) (m : Life) (n : ℕ) (ms : List Life) → sum_d k (terms X r a (replicate n m ++ ms)) ≡ pos n *ℤ sum_d k (life_terms X r a m) +ℤ sum_d k (terms X r a ms)
  copied_D k m zero ms = sym (ap (λ z. z +ℤ sum_d k (terms X r a ms)) (zero-*ℤ (sum_d k (life_terms X r a m))) ∙ +ℤ_idl (sum_d k (terms X r a ms)))
  copied_D k m (suc n) ms =
      let l = sum_d k (life_terms X r a m) in
      let s = sum_d k (terms X r a ms) in
      ap (sum_d k) (terms_first m n ms)
      ∙ sum_d_append k (life_terms X r a m) (terms X r a (replicate n m ++ ms))
      ∙ ap (λ z. l +ℤ z) (copied_D k m n ms)
      ∙ sym (+ℤ_assoc l (pos n *ℤ l) s)
      ∙ ap (λ z. z +ℤ s) (+ℤ_comm l (pos n *ℤ l) ∙ sym (suc_ℤ-*ℤ (pos n) l))

  copied : (size : List Term → ℕ) → ((xs ys : List Term) → size (xs ++ ys) ≡ size xs + size ys) → (m : Life) (n : ℕ) (ms : List Life) → size (terms X r a (replicate n m ++ ms)) ≡ n * size (life_terms X r a m) + size (terms X r a ms)
  copied size adds m zero ms = omega (arith, N.zero-mul (size (life_terms X r a m)))
  copied size adds m (suc n) ms =
      ap size (terms_first m n ms)
      ∙ adds (life_terms X r a m) (terms X r a (replicate n m ++ ms))
      ∙ omega (arith, copied size adds m n ms, N.suc-mul n (size (life_terms X r a m)))

  lines : (size : List Term → ℕ) → ((xs ys : List Term) → size (xs ++ ys) ≡ size xs + size ys) → ((c : ℕ) (ts : List Term) → size (times c ts) ≡ c * size ts) → (ps : List ModelPoint) → size (line_terms X r a ps) ≡ size (terms X r a (copies ps))
  unfolding line_terms copies terms
  lines size adds scales [] = refl
  lines size adds scales (p ∷ ps) =
      adds (point_terms X r a p) (line_terms X r a ps)
      ∙ ap₂ ◌+◌ (scales p.lives (life_terms X r a p.life)) (lines size adds scales ps)
      ∙ sym (copied size adds p.life p.lives (copies ps))

  pub size_lines_D : (ps : List ModelPoint) → size_d (line_terms X r a ps) ≡ size_d (terms X r a (copies ps))
  size_lines_D = lines size_d size_d_append size_d_times

  pub size_lines_H : (ps : List ModelPoint) → size_h (line_terms X r a ps) ≡ size_h (terms X r a (copies ps))
  size_lines_H = lines size_h size_h_append size_h_times

  lines_D : (k : ℕ) (ps : List ModelPoint) → sum_d k (line_terms X r a ps) ≡ sum_d k (terms X r a (copies ps))
  unfolding line_terms copies terms
  lines_D k [] = refl
  lines_D k (p ∷ ps) =
      sum_d_append k (point_terms X r a p) (line_terms X r a ps)
      ∙ ap₂ ◌+ℤ◌ (sum_d_times p.lives k (life_terms X r a p.life)) (lines_D k ps)
      ∙ sym (copied_D k p.life p.lives (copies ps))

  pub D_lines : (ps : List ModelPoint) (k : ℕ) → D (line_terms X r a ps) k ≡ D (terms X r a (copies ps)) k
  unfolding D
  D_lines ps zero = refl
  D_lines ps (suc k) = lines_D (suc k) ps

  pub H_lines : (ps : List ModelPoint) (k : ℕ) → H (line_terms X r a ps) k ≡ H (terms X r a (copies ps)) k
  unfolding H
  H_lines ps zero = refl
  H_lines ps (suc k) = lines (sum_h (suc k)) (sum_h_append (suc k)) (λ c. sum_h_times c (suc k)) ps
