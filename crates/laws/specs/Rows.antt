-- A table of records, whose first rows are given and the others blank: its length, a row that is put behind the given
-- ones, and the given rows taken back.
use Rattle.std.specs.Prelude.{◌≡◌, refl, List, [], ◌∷◌, ◌++◌, ℕ, suc, ◌-◌, ◌≤◌, ◌<◌, length, take, set, replicate}
use Rattle.std.proofs.Common.{ap, arith, length-append}
use Rattle.std.proofs.lemmas.List.{length-replicate}
use Rattle.fund.specs.declared.Rate.{Rate}
use Rattle.fund.specs.declared.Member.{Member}
use Rattle.fund.specs.declared.Life.{Life}
use Rattle.fund.specs.declared.ModelPoint.{ModelPoint}
use Rattle.fund.specs.Answer.{lent}

-- A row whose numbers are all 0.
abbrev pub blank_rate : Rate
blank_rate = record { age = 0; q = 0; i = 0 }

abbrev pub blank_member : Member
blank_member = record { age = 0; group = 0; d = 0; e = 0; lives = 0 }

abbrev pub blank_life : Life
blank_life = record { group = 0; q = 0; i = 0; d = 0; e = 0 }

abbrev pub blank_point : ModelPoint
blank_point = record { life = blank_life; lives = 0 }

pub rows_length : {A : Type 0} (blank : A) (n : ℕ) (rows : List A) → length rows ≤ n → length (lent blank n rows) ≡ n
unfolding lent
rows_length blank n rows h =
    omega (arith, length-append rows (replicate (n - length rows) blank), length-replicate (n - length rows) blank)

put : {A : Type 0} (blank x : A) (rows : List A) (k : ℕ) → set (rows ++ replicate (suc k) blank) (length rows) x ≡ (rows ++ (x ∷ [])) ++ replicate k blank
put blank x [] k = refl
put blank x (r ∷ rows) k = ap (λ l. r ∷ l) (put blank x rows k)

pub rows_put : {A : Type 0} (blank x : A) (n : ℕ) (rows : List A) → length rows < n → set (lent blank n rows) (length rows) x ≡ lent blank n (rows ++ (x ∷ []))
unfolding lent
rows_put blank x n rows h =
    let e : n - length rows ≡ suc (n - length (rows ++ (x ∷ []))) = omega (arith, length-append rows (x ∷ [])) in
    rw e (put blank x rows (n - length (rows ++ (x ∷ []))))

pub front : {A : Type 0} (rows rest : List A) → take (length rows) (rows ++ rest) ≡ rows
front [] rest = refl
front (r ∷ rows) rest = ap (λ l. r ∷ l) (front rows rest)

pub rows_back : {A : Type 0} (blank : A) (n : ℕ) (rows : List A) → take (length rows) (lent blank n rows) ≡ rows
unfolding lent
rows_back blank n rows = front rows (replicate (n - length rows) blank)
