-- The list of the places of a transform, and entries so small that their products fit a word.
use Rattle.std.specs.Prelude.{◌≡◌, Bool, true, ◌⊎◌, List, [], ◌∷◌, ◌++◌, ℕ, zero, suc, ◌*◌, ◌^◌, ◌<◌, ◌≤◌, ℤ, pos, nat_abs, length, get_or}

-- D(k+1) and H(k+1) are 0
abbrev pub Blank : List ℤ → List ℕ → ℕ → Type 0
Blank d h k = (nat_abs (get_or d (suc k) (pos 0)) ≡ 0) × (get_or h (suc k) 0 ≡ 0)

-- Behind the j-th place of a list.
abbrev pub from : List ℕ → ℕ → ℕ
from list zero = 0
from list (suc j) = suc (get_or list j 0)

-- The list has places in rising order, and every k below X that is none of them is blank.
pub record Listed (X : ℕ) (d : List ℤ) (h : List ℕ) (list : List ℕ) : Type 0 where
  pub few : length list ≤ X
  pub reach : from list (length list) ≤ X
  pub rising : (j : ℕ) → j < length list → from list j ≤ get_or list j 0
  pub within : (j : ℕ) → j < length list → get_or list j 0 < X
  pub before : (j k : ℕ) → j < length list → from list j ≤ k → k < get_or list j 0 → Blank d h k
  pub behind : (k : ℕ) → from list (length list) ≤ k → k < X → Blank d h k

-- |D(k+1)| and H(k+1) so small that their products with a cell's figures fit a word
abbrev pub most_small_size : ℕ
most_small_size = 35 * 10 ^ 12

abbrev pub most_small_error : ℕ
most_small_error = 9 * 10 ^ 6

abbrev pub SmallSizes : ℕ → ℕ → Type 0
SmallSizes size error = (size ≤ most_small_size) × (error ≤ most_small_error)

abbrev pub SmallEntry : ℤ → ℕ → Type 0
SmallEntry d h = SmallSizes (nat_abs d) h

abbrev pub AllSmall : ℕ → List ℤ → List ℕ → Type 0
AllSmall X d h = (k : ℕ) → k < X → SmallEntry (get_or d (suc k) (pos 0)) (get_or h (suc k) 0)

-- a place is noted, where the entry is not blank
abbrev pub Noted : ℕ → ℕ → ℕ → List ℕ → Bool → List ℕ → Bool → Type 0
Noted size error k list small list' small' =
    ((size ≡ 0) × (error ≡ 0) × (list' ≡ list) × (small' ≡ small))
    ⊎ ((list' ≡ list ++ k ∷ []) × (small' ≡ true → (small ≡ true) × SmallSizes size error))

pub record PlacesOf (X : ℕ) (d : List ℤ) (h : List ℕ) (list : List ℕ) (small : Bool) : Type 0 where
  pub listed : Listed X d h list
  pub all_small : small ≡ true → AllSmall X d h
