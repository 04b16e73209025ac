-- What the functions on a text answer, in the words of the fund's definitions.
use Rattle.std.specs.Prelude.{◌≡◌, Bool, true, false, ◌&&◌, List, [], ◌∷◌, ℕ, suc, ◌^◌, eqb, leb, ltb, length, take, drop, replicate, Option, Some, None, option_map, IfSome, if◌then◌else◌}
use Rattle.fund.specs.Spelling.{digits, is_number, value, numbers}

-- How many bytes stand before the first `b`, or before the end where there is none.
unfoldable pub before : ℕ → List ℕ → ℕ
before b [] = 0
before b (x ∷ xs) = if eqb x b then 0 else suc (before b xs)

-- What stands behind a key of n bytes, where the text begins with it.
abbrev pub behind_if : Bool → ℕ → List ℕ → Option (List ℕ)
behind_if true n text = Some (drop n text)
behind_if false n text = None

-- The value of a text of digits alone, where it fits a word.
unfoldable pub value_in : List ℕ → Option ℕ
value_in text = if digits text && ltb (value text) (2 ^ 64) then Some (value text) else None

unfoldable pub number_in : List ℕ → Option ℕ
number_in text = if is_number text then Some (value text) else None

-- One digit or more, whose value fits a word.
unfoldable pub is_level : List ℕ → Bool
is_level text = ltb 0 (length text) && (digits text && ltb (value text) (2 ^ 64))

unfoldable pub level_in : List ℕ → Option ℕ
level_in text = if is_level text then Some (value text) else None

-- Just `count` numbers between commas, where these are at most five.
unfoldable pub few_numbers : ℕ → List ℕ → Option (List ℕ)
few_numbers count text = if leb count 5 then numbers count text else None

-- The numbers of the text, and zeros behind them.
pub record NumbersOf (count : ℕ) (text : List ℕ) (r : Option (List ℕ)) : Type 0 where
  pub numbers_are : option_map (take count) r ≡ few_numbers count text
  pub behind : IfSome r (λ values. drop count values ≡ drop count (replicate 5 0))
