-- METHOD 1: how a line is spelled: a key, then numbers between commas.
use Rattle.std.specs.Prelude.{Bool, true, false, not, ◌&&◌, ◌||◌, List, [], ◌∷◌, map, ℕ, ◌+◌, ◌-◌, ◌*◌, eqb, leb, length, if◌then◌else◌, None, Option, Some}
use Rattle.fund.specs.Limits.{most_digits}
use Rattle.fund.specs.Lines.{Line}

-- "Numbers are decimal, without sign, space or leading zero (0 itself is `0`), of one to seven digits."
unfoldable pub digits : List ℕ → Bool
digits [] = true
digits (b ∷ bs) = leb 48 b && leb b 57 && digits bs

unfoldable pub is_number : List ℕ → Bool
is_number [] = false
is_number (b ∷ bs) = digits (b ∷ bs) && leb (length (b ∷ bs)) most_digits && (not (eqb b 48) || eqb (length bs) 0)

unfoldable pub value_from : ℕ → List ℕ → ℕ
value_from n [] = n
value_from n (b ∷ bs) = value_from (10 * n + (b - 48)) bs

unfoldable pub value : List ℕ → ℕ
value text = value_from 0 text

-- What stands between commas (byte 44).
unfoldable pub in_first : ℕ → List (List ℕ) → List (List ℕ)
in_first b [] = (b ∷ []) ∷ []
in_first b (t ∷ ts) = (b ∷ t) ∷ ts

unfoldable pub fields : List ℕ → List (List ℕ)
fields [] = [] ∷ []
fields (b ∷ bs) =
    let after = fields bs in
    if eqb b 44 then [] ∷ after else in_first b after

unfoldable pub all_numbers : List (List ℕ) → Bool
all_numbers [] = true
all_numbers (t ∷ ts) = is_number t && all_numbers ts

-- The numbers of a text of just so many, or none where it is not spelled so.
unfoldable pub numbers : ℕ → List ℕ → Option (List ℕ)
numbers count text =
    let between = fields text in
    if eqb (length between) count && all_numbers between then Some (map value between) else None

-- What stands behind the key, or none where the text does not begin with it.
unfoldable pub behind : List ℕ → List ℕ → Option (List ℕ)
behind [] text = Some text
behind (k ∷ ks) [] = None
behind (k ∷ ks) (b ∷ bs) =
    let after = behind ks bs in
    if eqb k b then after else None

-- The numbers of a line `key=..`. "A last line without its line feed is form."
unfoldable pub spelled : List ℕ → ℕ → Line → Option (List ℕ)
spelled key count line =
    elim line.ended [
      | true ↦ elim (behind key line.text) [ None ↦ None | Some text ↦ numbers count text ]
      | false ↦ None
    ]
