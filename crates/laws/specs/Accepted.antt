-- What acceptance says: none of the refusals' conditions holds (accepts). And what meets none of them is accepted (accepted_where).
use Rattle.std.specs.Prelude.{◌≡◌, refl, Bool, true, false, not, ◌&&◌, ◌||◌, List, [], ◌∷◌, ◌++◌, map, ℕ, zero, suc, ◌≤◌, ◌<◌, eqb, leb, replicate, if◌then◌else◌, None, Ok, Option, Some}
use Rattle.std.proofs.Common.{◌∙◌, ap, subst, arith, ltb-false, leb-false, le-ltb, eqb-true, eq-eqb}
use Rattle.std.proofs.lemmas.Bool.{lt-leb, not-false}
use Rattle.fund.specs.declared.Life.{Life}
use Rattle.fund.specs.declared.ModelPoint.{ModelPoint}
use Rattle.fund.specs.declared.Refusal.{Refusal}
use Rattle.fund.specs.Verdict.{Verdict}
use Rattle.fund.specs.Base.{table}
use Rattle.fund.specs.Limits.{half_rate, most_load, most_truncation, most_bound}
use Rattle.fund.specs.Reading.{FundFile}
use Rattle.fund.specs.Folding.{points, copies, lives, claim, single}
use Rattle.fund.specs.Transform.{load, truncation}
use Rattle.fund.specs.Recursion.{Cell}
use Rattle.fund.specs.Refusals.{first, unmatched, half, half_line, wide, Lengths, any_short, short, refuse, at0, valued, matched, verdict}
use Rattle.laws.specs.Tables.{table_first}

-- a fact of every element of a list
abbrev pub All : {A : Type 0} → (A → Type 0) → List A → Type 0
All P [] = Unit {0}
All P (a ∷ rest) = P a × All P rest

pub all_map : {A : Type 0} {P Q : A → Type 0} → ((a : A) → P a → Q a) → (l : List A) → All P l → All Q l
all_map f [] h = tt
all_map f (a ∷ rest) h = (f a h.0, all_map f rest h.1)

pub all_append : {A : Type 0} (P : A → Type 0) (l m : List A) → All P l → All P m → All P (l ++ m)
all_append P [] m h k = k
all_append P (a ∷ l) m h k = (h.0, all_append P l m h.1 k)

pub all_front : {A : Type 0} (P : A → Type 0) (l m : List A) → All P (l ++ m) → All P l
all_front P [] m h = tt
all_front P (a ∷ l) m h = (h.0, all_front P l m h.1)

pub all_of : {A B : Type 0} (P : B → Type 0) (f : A → B) → ((a : A) → P (f a)) → (l : List A) → All P (map f l)
all_of P f h [] = tt
all_of P f h (a ∷ l) = (h a, all_of P f h l)

pub all_table : {A : Type 0} (P : A → Type 0) (n : ℕ) (g : ℕ → A) → All P (table n g) → (x : ℕ) → x < n → P (g x)
unfolding table
all_table P zero g h x l = absurd (omega arith)
all_table P (suc n) g h zero l = (subst (All P) (table_first n g) h).0
all_table P (suc n) g h (suc x) l = all_table P n (λ k. g (suc k)) (subst (All P) (table_first n g) h).1 x (omega arith)

pub all_replicate : {A : Type 0} (P : A → Type 0) (n : ℕ) (a : A) → P a → All P (replicate n a)
all_replicate P zero a h = tt
all_replicate P (suc n) a h = (h, all_replicate P n a h)

-- what holds of the life of every line holds of all lives
pub all_copies : (P : Life → Type 0) (ps : List ModelPoint) → All (λ (p : ModelPoint). P p.life) ps → All P (copies ps)
unfolding copies
all_copies P [] h = tt
all_copies P (p ∷ ps) h = all_append P (replicate p.lives p.life) (copies ps) (all_replicate P p.lives p.life h.0) (all_copies P ps h.1)

pub or-false : (a b : Bool) → a || b ≡ false → (a ≡ false) × (b ≡ false)
or-false true b e = let z : ◌≡◌ {A = ℕ} 0 1 = ap (λ b. if b then 0 else 1) e in absurd (omega arith)
or-false false b e = (refl, e)

-- ---- the lengths of slices
pub long_all : (ns : List ℕ) (X : ℕ) → any_short ns X ≡ false → All (λ n. X < n) ns
unfolding any_short
long_all [] X e = tt
long_all (n ∷ rest) X e = let a = or-false (leb n X) (any_short rest X) e in (leb-false _ _ a.0, long_all rest X a.1)

pub all_long : (ns : List ℕ) (X : ℕ) → All (λ n. X < n) ns → any_short ns X ≡ false
unfolding any_short
all_long [] X h = refl
all_long (n ∷ rest) X h = rw (lt-leb n X h.0, all_long rest X h.1)

pub record Long (n : Lengths) (X : ℕ) : Type 0 where
  pub d_long : X < n.D
  pub h_long : X < n.H
  pub f_long : X < n.f
  pub r_long : X < n.R
  pub sums_long : X < n.F

pub long_of : (n : Lengths) (X : ℕ) → short n X ≡ false → Long n X
unfolding short
long_of n X e =
    let a = long_all (n.D ∷ n.H ∷ n.f ∷ n.R ∷ n.F ∷ []) X e in
    record { d_long = a.0; h_long = a.1.0; f_long = a.1.1.0; r_long = a.1.1.1.0; sums_long = a.1.1.1.1.0 }

-- ---- the chain of refusals
pub refuse_accepted : (why : Refusal) (o : Option ℕ) (after : Verdict) → refuse why o after ≡ Ok tt → (o ≡ None) × (after ≡ Ok tt)
unfolding refuse
refuse_accepted why None after e = (refl, e)
refuse_accepted why (Some place) after e = let z : ◌≡◌ {A = ℕ} 0 1 = cc in absurd (omega arith)

pub at0_none : (b : Bool) → at0 b ≡ None → b ≡ false
unfolding at0
at0_none true e = let z : ◌≡◌ {A = ℕ} 0 1 = cc in absurd (omega arith)
at0_none false e = refl

pub first_none : {A : Type 0} (met : A → Bool) (at : ℕ) (l : List A) → first met at l ≡ None → All (λ a. met a ≡ false) l
unfolding first
first_none met at [] e = tt
first_none met at (a ∷ rest) e = go (met a) refl e (first_none met (suc at) rest)
  where
    go : (b : Bool) → met a ≡ b → (if b then Some at else first met (suc at) rest) ≡ None → (first met (suc at) rest ≡ None → All (λ a. met a ≡ false) rest) → (met a ≡ false) × All (λ a. met a ≡ false) rest
    go true e f h = let z : ◌≡◌ {A = ℕ} 0 1 = cc in absurd (omega arith)
    go false e f h = (e, h f)

-- ---- what acceptance says of a fund
-- group 1's q + i is below a half
abbrev pub Limited : Life → Type 0
Limited m = single m ≡ true → claim m < half_rate

pub not_half : (m : Life) → half m ≡ false → Limited m
unfolding half
not_half m e s = leb-false half_rate (claim m) (rw s at e)

pub not_half_line : (p : ModelPoint) → half_line p ≡ false → Limited p.life
unfolding half_line
not_half_line p e = not_half p.life e

pub record Accepts (file : FundFile) (n : Lengths) (cells : List Cell) : Type 0 where
  pub editions : file.header.rates ≡ file.header.members
  pub deductible : file.header.deductible ≤ suc file.header.horizon
  pub matched : All (λ m. unmatched file.rates m ≡ false) file.members
  pub limited_lines : All (λ (p : ModelPoint). Limited p.life) (points file)
  pub limited_lives : All Limited (lives file)
  pub load_within : load file.header.frequency (lives file) ≤ most_load
  pub truncation_within : truncation file.header.order (lives file) ≤ most_truncation
  pub long : Long n file.header.horizon
  pub narrow : All (λ (y : Cell). y.R ≤ most_bound) cells

pub accepts : (file : FundFile) (n : Lengths) (cells : List Cell) → verdict file n cells ≡ Ok tt → Accepts file n cells
unfolding verdict matched valued wide lives
accepts file n cells e =
    let e3 = refuse_accepted _ _ _ e in
    let e4 = refuse_accepted _ _ _ e3.1 in
    let e5 = refuse_accepted _ _ _ e4.1 in
    let e6 = refuse_accepted _ _ _ e5.1 in
    let e7 = refuse_accepted _ _ _ e6.1 in
    let e8 = refuse_accepted _ _ _ e7.1 in
    let e9 = refuse_accepted _ _ _ e8.1 in
    let e10 = refuse_accepted _ _ _ e9.1 in
    let limited = all_map not_half_line (points file) (first_none _ _ _ e6.0) in
    record {
      editions = eqb-true _ _ (not-false (eqb file.header.rates file.header.members) (at0_none _ e3.0));
      deductible = ltb-false _ _ (at0_none _ e4.0);
      matched = first_none _ _ _ e5.0;
      limited_lines = limited;
      limited_lives = all_copies Limited (points file) limited;
      load_within = ltb-false _ _ (at0_none _ e7.0);
      truncation_within = ltb-false _ _ (at0_none _ e8.0);
      long = long_of n file.header.horizon (at0_none _ e9.0);
      narrow = all_map (λ (y : Cell). ltb-false most_bound y.R) cells (first_none _ _ _ e10.0);
    }

-- ---- the other way: what meets no condition
refuse_none : (why : Refusal) (o : Option ℕ) (after : Verdict) → o ≡ None → refuse why o after ≡ after
unfolding refuse
refuse_none why o after e = rw e

at0_false : (b : Bool) → b ≡ false → at0 b ≡ None
unfolding at0
at0_false b e = rw e

none_first : {A : Type 0} (met : A → Bool) (at : ℕ) (l : List A) → All (λ a. met a ≡ false) l → first met at l ≡ None
unfolding first
none_first met at [] h = refl
none_first met at (a ∷ rest) h = rw (h.0, none_first met (suc at) rest h.1)

half_not : (m : Life) → Limited m → half m ≡ false
unfolding half
half_not m h = go (single m) refl
  where
    go : (b : Bool) → single m ≡ b → single m && leb half_rate (claim m) ≡ false
    go true e = rw (e, lt-leb half_rate (claim m) (h e))
    go false e = rw e

half_line_not : (p : ModelPoint) → Limited p.life → half_line p ≡ false
unfolding half_line
half_line_not p h = half_not p.life h

of_long : (n : Lengths) (X : ℕ) → Long n X → short n X ≡ false
unfolding short
of_long n X l = all_long (n.D ∷ n.H ∷ n.f ∷ n.R ∷ n.F ∷ []) X (l.d_long, (l.h_long, (l.f_long, (l.r_long, (l.sums_long, tt)))))

pub accepted_where : (file : FundFile) (n : Lengths) (cells : List Cell) → Accepts file n cells → verdict file n cells ≡ Ok tt
unfolding verdict matched valued wide
accepted_where file n cells a =
    refuse_none _ _ _ (at0_false _ (ap not (eq-eqb file.header.rates file.header.members a.editions)))
    ∙ refuse_none _ _ _ (at0_false _ (le-ltb (suc file.header.horizon) file.header.deductible a.deductible))
    ∙ refuse_none _ _ _ (none_first _ _ _ a.matched)
    ∙ refuse_none _ _ _ (none_first _ _ _ (all_map half_line_not (points file) a.limited_lines))
    ∙ refuse_none _ _ _ (at0_false _ (le-ltb most_load (load file.header.frequency (lives file)) a.load_within))
    ∙ refuse_none _ _ _ (at0_false _ (le-ltb most_truncation (truncation file.header.order (lives file)) a.truncation_within))
    ∙ refuse_none _ _ _ (at0_false _ (of_long n file.header.horizon a.long))
    ∙ refuse_none _ _ _ (none_first _ _ _ (all_map (λ (y : Cell). le-ltb most_bound y.R) cells a.narrow))
