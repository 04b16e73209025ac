-- Laws of lists given by a sequence: table n g is g(0) to g(n-1), down_from g x is g(x) to g(0). And of sums over lists: over two, over a
-- sequence, and over one element many times.
use Rattle.std.specs.Prelude.{◌≡◌, refl, ℕ, zero, suc, ◌+◌, ◌*◌, ◌<◌, length, get_or, replicate}
use Rattle.std.proofs.Common.{sym, ◌∙◌, ap, ⊎_elim, eq-or-lt_of_le, le_of_suc-le-suc, zero-mul, suc-mul, arith, length-append}
use mathlib.Core.List.{List, [], ◌∷◌, ◌++◌, map, reverse, reverse-cons, map-append}
use Rattle.std.proofs.Math.ListN.{get_or-append}
use Rattle.std.proofs.lemmas.List.{get_or_at}
use Rattle.algebra.specs.NatSum.{sum_n}
use Rattle.fund.specs.Base.{total, table}

pub length_table : {A : Type 0} (n : ℕ) (g : ℕ → A) → length (table n g) ≡ n
unfolding table
length_table zero g = refl
length_table (suc n) g = length-append (table n g) (g n ∷ []) ∙ (let h = length_table n g in omega arith)

pub get_or_table : {A : Type 0} (n : ℕ) (g : ℕ → A) (k : ℕ) (a : A) → k < n → get_or (table n g) k a ≡ g k
unfolding table
get_or_table zero g k a h = absurd (omega arith)
get_or_table (suc n) g k a h =
    ⊎_elim
    (λ e. get_or_at (table n g) (g n) [] a k (length_table n g ∙ sym e) ∙ ap g (sym e))
    (λ l. get_or-append (table n g) (g n ∷ []) a k (let w = length_table n g in omega arith) ∙ get_or_table n g k a l)
    (eq-or-lt_of_le (le_of_suc-le-suc h))

pub map_table : {A B : Type 0} (f : A → B) (n : ℕ) (g : ℕ → A) → map f (table n g) ≡ table n (λ k. f (g k))
unfolding table
map_table f zero g = refl
map_table f (suc n) g = map-append f (table n g) (g n ∷ []) ∙ ap (λ l. l ++ (f (g n) ∷ [])) (map_table f n g)

pub table_first : {A : Type 0} (n : ℕ) (g : ℕ → A) → table (suc n) g ≡ g 0 ∷ table n (λ k. g (suc k))
unfolding table
table_first zero g = refl
table_first (suc n) g = ap (λ l. l ++ (g (suc n) ∷ [])) (table_first n g)

-- g(x), g(x-1), .. to g(0)
abbrev pub down_from : {A : Type 0} → (ℕ → A) → ℕ → List A
down_from g zero = g 0 ∷ []
down_from g (suc x) = g (suc x) ∷ down_from g x

pub reverse_down : {A : Type 0} (g : ℕ → A) (x : ℕ) → reverse (down_from g x) ≡ table (suc x) g
unfolding table
reverse_down g zero = refl
reverse_down g (suc x) = reverse-cons (g (suc x)) (down_from g x) ∙ ap (λ l. l ++ (g (suc x) ∷ [])) (reverse_down g x)

-- ---- sums over lists
pub total_append : {A : Type 0} (f : A → ℕ) (xs ys : List A) → total f (xs ++ ys) ≡ total f xs + total f ys
unfolding total
total_append f [] ys = omega arith
total_append f (x ∷ xs) ys = omega (arith, total_append f xs ys)

pub total_table : {A : Type 0} (f : A → ℕ) (n : ℕ) (g : ℕ → A) → total f (table n g) ≡ sum_n n (λ k. f (g k))
unfolding total table
total_table f zero g = refl
total_table f (suc n) g = total_append f (table n g) (g n ∷ []) ∙ omega (arith, total_table f n g)

pub total_replicate : {A : Type 0} (f : A → ℕ) (n : ℕ) (a : A) → total f (replicate n a) ≡ n * f a
unfolding total
total_replicate f zero a = omega (arith, zero-mul (f a))
total_replicate f (suc n) a = omega (arith, total_replicate f n a, suc-mul n (f a))
