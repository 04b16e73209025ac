-- A number of at most seven digits, written in decimal, is spelled as a number is, and it has its value (decimal_spelled).
use Rattle.std.specs.Prelude.{◌≡◌, refl, Bool, true, false, not, ◌&&◌, ◌||◌, List, [], ◌∷◌, ℕ, zero, suc, ◌+◌, ◌-◌, ◌*◌, ◌/◌, ◌%◌, ◌^◌, ◌≤◌, ◌<◌, ltb, length}
use Rattle.std.proofs.Common.{◌∙◌, ap, pow-suc, arith, ltb-true, ltb-false, le-leb, ne_eqb}
use Rattle.fund.specs.Spelling.{digits, is_number, value_from, value}
use Rattle.fund.specs.Listing.{digits_within, decimal}

-- a number has at most seven digits below this
abbrev pub seven_digits : ℕ
seven_digits = 10000000

pub and_both : (a b : Bool) → a ≡ true → b ≡ true → a && b ≡ true
and_both a b p q = rw (p, q)

pub or_first : (a b : Bool) → a ≡ true → a || b ≡ true
or_first a b p = rw p

digits_cons : (d : ℕ) (after : List ℕ) → d < 10 → digits after ≡ true → digits ((48 + d) ∷ after) ≡ true
unfolding digits
digits_cons d after h e = and_both _ _ (and_both _ _ (le-leb 48 (48 + d) (omega arith)) (le-leb (48 + d) 57 (omega arith))) e

value_cons : (n d : ℕ) (after : List ℕ) → value_from n ((48 + d) ∷ after) ≡ value_from (10 * n + d) after
unfolding value_from
value_cons n d after = let e : 10 * n + (48 + d - 48) ≡ 10 * n + d = omega arith in ap (λ m. value_from m after) e

-- The digits of N that are left to write, those of n, and the digits that stand behind them.
record Left (N n : ℕ) (after : List ℕ) : Type 0 where
  above : 1 ≤ n
  value_is : value_from n after ≡ N
  are_digits : digits after ≡ true
  places : ℕ
  few : n < 10 ^ places
  fit : places + length after ≤ 7

next_digit : (N n : ℕ) (after : List ℕ) → 10 ≤ n → Left N n after → Left N (n / 10) ((48 + n % 10) ∷ after)
next_digit N n after h k = go k.places k.few k.fit
  where
    go : (p : ℕ) → n < 10 ^ p → p + length after ≤ 7 → Left N (n / 10) ((48 + n % 10) ∷ after)
    go zero few fit = absurd (omega arith)
    go (suc p) few fit =
        let e : 10 * (n / 10) + n % 10 ≡ n = omega arith in
        record {
          above = omega arith;
          value_is = value_cons (n / 10) (n % 10) after ∙ ap (λ m. value_from m after) e ∙ k.value_is;
          are_digits = digits_cons (n % 10) after (omega arith) k.are_digits;
          places = p;
          few = omega (arith, pow-suc 10 p);
          fit = omega arith;
        }

-- A text that is spelled as a number, with its value.
pub record Spelled (n : ℕ) (text : List ℕ) : Type 0 where
  pub is_number_lem : is_number text ≡ true
  pub value_is : value text ≡ n

last_digit : (N n : ℕ) (after : List ℕ) → n < 10 → Left N n after → Spelled N ((48 + n) ∷ after)
unfolding is_number value
last_digit N n after h k = go k.places k.few k.fit
  where
    go : (p : ℕ) → n < 10 ^ p → p + length after ≤ 7 → Spelled N ((48 + n) ∷ after)
    go zero few fit = absurd (omega (arith, k.above))
    go (suc p) few fit =
        let e : 10 * 0 + n ≡ n = omega arith in
        record {
          is_number_lem =
              and_both _ _ (and_both _ _ (digits_cons n after h k.are_digits) (le-leb (suc (length after)) 7 (omega arith)))
              (or_first _ _ (ap not (ne_eqb (48 + n) 48 (λ z. omega (arith, k.above)))));
          value_is = value_cons 0 n after ∙ ap (λ m. value_from m after) e ∙ k.value_is;
        }

spelled_within : (most N n : ℕ) (after : List ℕ) → n ≤ most → Left N n after → Spelled N (digits_within most n after)
unfolding digits_within
spelled_within zero N n after h k = absurd (omega (arith, k.above))
spelled_within (suc most) N n after h k = go (ltb n 10) refl (λ g. spelled_within most N (n / 10) ((48 + n % 10) ∷ after) (omega arith) (next_digit N n after g k))
  where
    go : (b : Bool) → ltb n 10 ≡ b → (10 ≤ n → Spelled N (digits_within most (n / 10) ((48 + n % 10) ∷ after))) →
        Spelled N (elim b [ true ↦ (48 + n) ∷ after | false ↦ digits_within most (n / 10) ((48 + n % 10) ∷ after) ])
    go true e more = last_digit N n after (ltb-true n 10 e) k
    go false e more = more (ltb-false n 10 e)

pub decimal_spelled : (n : ℕ) → n < seven_digits → Spelled n (decimal n)
unfolding decimal digits_within is_number digits value value_from
decimal_spelled zero h = record { is_number_lem = refl; value_is = refl }
decimal_spelled (suc n) h =
    spelled_within (suc n) (suc n) (suc n) [] (omega arith)
    (record { above = omega arith; value_is = refl; are_digits = refl; places = 7; few = h; fit = omega arith })
