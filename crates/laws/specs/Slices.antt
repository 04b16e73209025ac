-- Result slices and tables: a table depends on its entries alone (table_ext), a slice whose cells up to X are a table's and whose
-- others are blank is what a call leaves (fronted, lent_is), and the entries read from such slices are those of the terms (entries_are).
use Rattle.std.proofs.Math.Path.{◌≡◌}
use Rattle.std.specs.Prelude.{refl, List, [], ◌∷◌, ◌++◌, ℕ, zero, suc, ◌-◌, ◌<◌, ◌≤◌, ℤ, pos, take, drop, replicate}
use Rattle.std.proofs.Common.{sym, ◌∙◌, ap, ap₂, arith, take-append-drop}
use Rattle.std.proofs.Math.ListN.{get_or, get_or-append}
use Rattle.fund.specs.Base.{table}
use Rattle.fund.specs.Transform.{Term, D, H}
use Rattle.fund.specs.Recursion.{Entry, entries}
use Rattle.fund.specs.Answer.{lent}
use Rattle.laws.specs.Tables.{length_table, get_or_table}

pub table_ext : {A : Type 0} (n : ℕ) (g h : ℕ → A) → ((k : ℕ) → k < n → g k ≡ h k) → table n g ≡ table n h
unfolding table
table_ext zero g h e = refl
table_ext (suc n) g h e = ap₂ (λ l a. l ++ (a ∷ [])) (table_ext n g h (λ k l. e k (omega arith))) (e n (omega arith))

-- a cell of a table with something behind it
pub get_d_front : {A : Type 0} (n k : ℕ) (g : ℕ → A) (rest : List A) (a : A) → k < n → get_or (table n g ++ rest) k a ≡ g k
get_d_front n k g rest a l = get_or-append (table n g) rest a k (let w = length_table n g in omega arith) ∙ get_or_table n g k a l

drop_replicate : {A : Type 0} (k n : ℕ) (a : A) → drop k (replicate n a) ≡ replicate (n - k) a
drop_replicate zero n a = ap (λ m. replicate m a) (let z : n ≡ n - 0 = omega arith in z)
drop_replicate (suc k) zero a = ap (λ m. replicate m a) (let z : 0 ≡ 0 - suc k = omega arith in z)
drop_replicate (suc k) (suc n) a = drop_replicate k n a ∙ ap (λ m. replicate m a) (let z : n - k ≡ suc n - suc k = omega arith in z)

-- a slice that was blank, with its front filled
pub fronted : {A : Type 0} (blank : A) (n k : ℕ) (g : ℕ → A) (s : List A) → s ≡ table k g ++ drop k (replicate n blank) → s ≡ lent blank n (table k g)
unfolding lent
fronted blank n k g s e = e ∙ ap (λ u. table k g ++ u) (drop_replicate k n blank ∙ ap (λ m. replicate (n - m) blank) (sym (length_table k g)))

pub lent_is : {A : Type 0} (blank : A) (n X : ℕ) (g : ℕ → A) (s : List A) → take (suc X) s ≡ table (suc X) g → drop (suc X) s ≡ drop (suc X) (replicate n blank) → s ≡ lent blank n (table (suc X) g)
lent_is blank n X g s t d = fronted blank n (suc X) g s (sym (take-append-drop (suc X) s) ∙ ap₂ ◌++◌ t d)

module _ (ts : List Term) (X : ℕ) (d : List ℤ) (h : List ℕ) (rd : List ℤ) (rh : List ℕ)
    (d_is : d ≡ table (suc X) (D ts) ++ rd) (h_is : h ≡ table (suc X) (H ts) ++ rh) where
  pub D_at : (k : ℕ) → k ≤ X → get_or d k (pos 0) ≡ D ts k
  D_at k l = ap (λ s. get_or s k (pos 0)) d_is ∙ get_d_front (suc X) k (D ts) rd (pos 0) (omega arith)

  pub H_at : (k : ℕ) → k ≤ X → get_or h k 0 ≡ H ts k
  H_at k l = ap (λ s. get_or s k 0) h_is ∙ get_d_front (suc X) k (H ts) rh 0 (omega arith)

  pub entries_are : table X (λ k. record { D = get_or d (suc k) (pos 0); H = get_or h (suc k) 0 }) ≡ entries ts X
  unfolding entries
  entries_are = table_ext X (λ k. record { D = get_or d (suc k) (pos 0); H = get_or h (suc k) 0 }) (λ k. record { D = D ts (suc k); H = H ts (suc k) })
      (λ k l. same (D_at (suc k) (omega arith)) (H_at (suc k) (omega arith)))
    where
      same : {a b : ℤ} {x y : ℕ} → a ≡ b → x ≡ y → ◌≡◌ {A = Entry} (record { D = a; H = x }) (record { D = b; H = y })
      same p q = λ i. record { D = p i; H = q i }
