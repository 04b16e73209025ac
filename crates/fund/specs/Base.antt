-- Words that the definitions share: sums, and text as bytes. And the library's choice by a test.
use Rattle.std.specs.Prelude.{List, [], ◌∷◌, ◌++◌, ℕ, zero, suc, ◌+◌, ℤ, pos, neg_ℤ, ◌+ℤ◌}
pub use Rattle.std.specs.Prelude.{if◌then◌else◌}
use Prim.Native.Char.{code}
use Prim.Native.String.{String, [] as ε, ◌∷◌ as ◌◂◌}

-- the sum of f over a list
unfoldable pub total : {A : Type 0} → (A → ℕ) → List A → ℕ
total f [] = 0
total f (a ∷ rest) = f a + total f rest

-- f(0) + .. + f(n-1), of whole numbers that are not negative and of whole numbers
unfoldable pub sum : ℕ → (ℕ → ℕ) → ℕ
sum zero f = 0
sum (suc n) f = sum n f + f n

unfoldable pub sumℤ : ℕ → (ℕ → ℤ) → ℤ
sumℤ zero f = pos 0
sumℤ (suc n) f = sumℤ n f +ℤ f n

-- g(0), .., g(n-1)
unfoldable pub table : {A : Type 0} → ℕ → (ℕ → A) → List A
table zero g = []
table (suc n) g = table n g ++ (g n ∷ [])

-- z for an even n, -z for an odd one
unfoldable pub alternate : ℕ → ℤ → ℤ
alternate zero z = z
alternate (suc n) z = neg_ℤ (alternate n z)

-- a text as its bytes
unfoldable pub bytes : String → List ℕ
bytes ε = []
bytes (c ◂ s) = code c ∷ bytes s
