-- What the functions of this crate answer: a rounded quotient as a word.
use Rattle.std.specs.Prelude.{cond, ◌||◌, ℕ, ◌*◌, ◌^◌, min, eqb, ltb}

abbrev pub largest : ℕ
largest = 18446744073709551615

-- A number as a word: the number itself, or the largest word where the number is larger.
unfoldable pub word : ℕ → ℕ
word x = min x largest

-- A product over n units, rounded, as a word. A product of 2^64 units or more gives the largest word, unless n is 0:
-- then it is the rounding's own value, whatever the product.
unfoldable pub scaled : (ℕ → ℕ → ℕ) → ℕ → ℕ → ℕ → ℕ
scaled round product n unit = cond (eqb n 0 || ltb product (2 ^ 64 * unit)) (word (round product (n * unit))) largest
