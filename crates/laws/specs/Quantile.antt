-- The answer at a level: what a scan of the sums tells of it (quantile_above, quantile_at, quantile_none), and what the answer says of the
-- sums (quantile_says).
use Rattle.std.specs.Prelude.{◌≡◌, refl, Bool, true, false, List, [], ◌∷◌, ℕ, zero, suc, min, ◌+◌, ◌<◌, ◌≤◌, ℤ, pos, length, take, if◌then◌else◌, None, Option, Some}
use Rattle.std.proofs.Common.{sym, ◌∙◌, subst, lt-ltb, le-ltb, length-take, get_or-take}
use Rattle.std.proofs.Math.Path.{ap}
use native.Mathlib.Omega.{arith}
use Rattle.std.proofs.Math.ListN.{get_or}
use Rattle.fund.specs.Base.{table}
use Rattle.fund.specs.Limits.{most_level}
use Rattle.fund.specs.Refusals.{first}
use Rattle.fund.specs.Quantile.{reaches, quantile, QuantileSays}
use Rattle.laws.specs.Accepted.{All, first_none}
use Rattle.laws.specs.Tables.{table_first}
use Rattle.laws.specs.Valued.{first_none_of, first_some_of}

-- the first elements of a list, as a table
pub take_table : {A : Type 0} (a : A) (n : ℕ) (l : List A) → take n l ≡ table (min n (length l)) (λ k. get_or l k a)
unfolding table
take_table a zero l = let e : min 0 (length l) ≡ 0 = omega arith in rw e refl
take_table a (suc n) [] = let e : min (suc n) 0 ≡ 0 = omega arith in rw e refl
take_table a (suc n) (x ∷ l) =
    let e : suc (min n (length l)) ≡ min (suc n) (suc (length l)) = omega arith in
    ap (λ t. x ∷ t) (take_table a n l)
    ∙ sym (table_first (min n (length l)) (λ k. get_or (x ∷ l) k a))
    ∙ ap (λ m. table m (λ k. get_or (x ∷ l) k a)) e

-- ---- a scan
module _ (level X : ℕ) (F : List ℤ) where
  pub quantile_above : most_level < level → quantile level X F ≡ None
  unfolding quantile
  quantile_above l = rw (lt-ltb _ _ l)

  module _ (l : level ≤ most_level) where
    pub quantile_at : (x : ℕ) → x ≤ X → x < length F → ((k : ℕ) → k < x → reaches level (get_or F k (pos 0)) ≡ false) → reaches level (get_or F x (pos 0)) ≡ true → quantile level X F ≡ Some x
    unfolding quantile
    quantile_at x within inside before met =
        ap (λ (b : Bool). if b then None else first (reaches level) 0 (take (suc X) F)) (le-ltb _ _ l)
        ∙ ap (λ t. first (reaches level) 0 t) (take_table (pos 0) (suc X) F)
        ∙ (first_some_of (reaches level) 0 (min (suc X) (length F)) x (λ k. get_or F k (pos 0)) (omega arith) before met)
        ∙ ap Some (let e : 0 + x ≡ x = omega arith in e)

    pub quantile_none : ((k : ℕ) → k ≤ X → k < length F → reaches level (get_or F k (pos 0)) ≡ false) → quantile level X F ≡ None
    unfolding quantile
    quantile_none all =
        ap (λ (b : Bool). if b then None else first (reaches level) 0 (take (suc X) F)) (le-ltb _ _ l)
        ∙ ap (λ t. first (reaches level) 0 t) (take_table (pos 0) (suc X) F)
        ∙ (first_none_of (reaches level) 0 (min (suc X) (length F)) (λ k. get_or F k (pos 0)) (λ k g. all k (omega arith) (omega arith)))

-- ---- what the answer says
-- the place that a search found
record Found {A : Type 0} (met : A → Bool) (at : ℕ) (l : List A) (a : A) (y : ℕ) : Type 0 where
  x : ℕ
  at_is : y ≡ at + x
  inside : x < length l
  met_is : met (get_or l x a) ≡ true
  before : (k : ℕ) → k < x → met (get_or l k a) ≡ false

found_later : {A : Type 0} (met : A → Bool) (at : ℕ) (b : A) (rest : List A) (a : A) (y : ℕ) → met b ≡ false → Found met (suc at) rest a y → Found met at (b ∷ rest) a y
found_later met at b rest a y e f = record { x = suc f.x; at_is = omega (arith, f.at_is); inside = omega (arith, f.inside); met_is = f.met_is; before = earlier }
  where
    earlier : (k : ℕ) → k < suc f.x → met (get_or (b ∷ rest) k a) ≡ false
    earlier zero g = e
    earlier (suc k) g = f.before k (omega arith)

found : {A : Type 0} (met : A → Bool) (at : ℕ) (l : List A) (a : A) (y : ℕ) → first met at l ≡ Some y → Found met at l a y
unfolding first
found met at [] a y e = let z : ◌≡◌ {A = ℕ} 0 1 = cc in absurd (omega arith)
found met at (b ∷ rest) a y e = go (met b) refl e (found met (suc at) rest a y)
  where
    go : (t : Bool) → met b ≡ t → (if t then Some at else first met (suc at) rest) ≡ Some y → (first met (suc at) rest ≡ Some y → Found met (suc at) rest a y) → Found met at (b ∷ rest) a y
    go true m h later = let z : at ≡ y = cc in record { x = 0; at_is = omega (arith, z); inside = omega arith; met_is = m; before = λ k g. absurd (omega arith) }
    go false m h later = found_later met at b rest a y m (later h)

all_at : {A : Type 0} (P : A → Type 0) (l : List A) (a : A) → All P l → (k : ℕ) → k < length l → P (get_or l k a)
all_at P [] a h k g = absurd (omega arith)
all_at P (b ∷ rest) a h zero g = h.0
all_at P (b ∷ rest) a h (suc k) g = all_at P rest a h.1 k (omega arith)

pub quantile_says : (level X : ℕ) (F : List ℤ) → level ≤ most_level → X < length F → QuantileSays level X F (quantile level X F)
unfolding quantile
quantile_says level X F l long =
    subst (λ (b : Bool). QuantileSays level X F (if b then None else first (reaches level) 0 (take (suc X) F))) (sym (le-ltb _ _ l)) (go (first (reaches level) 0 (take (suc X) F)) refl)
  where
    at_front : (y : ℕ) → y ≤ X → get_or (take (suc X) F) y (pos 0) ≡ get_or F y (pos 0)
    at_front y g = get_or-take (suc X) F y (pos 0) (omega arith)

    go : (o : Option ℕ) → first (reaches level) 0 (take (suc X) F) ≡ o → QuantileSays level X F o
    go None e = λ y g.
        ap (reaches level) (sym (at_front y g))
        ∙ all_at (λ z. reaches level z ≡ false) (take (suc X) F) (pos 0) (first_none (reaches level) 0 (take (suc X) F) e) y (omega (arith, length-take (suc X) F))
    go (Some y) e =
        let s = found (reaches level) 0 (take (suc X) F) (pos 0) y e in
        let same : y ≡ s.x = omega (arith, s.at_is) in
        let within : y ≤ X = omega (arith, s.inside, length-take (suc X) F, same) in
        record {
          inside = within;
          reached = ap (reaches level) (sym (at_front y within)) ∙ ap (λ k. reaches level (get_or (take (suc X) F) k (pos 0))) same ∙ s.met_is;
          before = λ k g. ap (reaches level) (sym (at_front k (omega arith))) ∙ s.before k (omega arith);
        }
