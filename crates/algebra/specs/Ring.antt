-- A commutative ring, as a record: its operations, their laws, and its whole numbers.
use Rattle.std.specs.Prelude.{◌≡◌, ℤ, pos, ◌+ℤ◌}

pub record CRing : Type 1 where
  pub Carrier : Type 0
  pub is_set : IsSet Carrier
  pub add : Carrier → Carrier → Carrier
  pub mul : Carrier → Carrier → Carrier
  pub neg : Carrier → Carrier
  pub zero# : Carrier
  pub one# : Carrier
  pub add_assoc : (a b c : Carrier) → add (add a b) c ≡ add a (add b c)
  pub add_comm : (a b : Carrier) → add a b ≡ add b a
  pub add-zero : (a : Carrier) → add a zero# ≡ a
  pub add_neg : (a : Carrier) → add a (neg a) ≡ zero#
  pub mul_assoc : (a b c : Carrier) → mul (mul a b) c ≡ mul a (mul b c)
  pub mul_comm : (a b : Carrier) → mul a b ≡ mul b a
  pub mul-one : (a : Carrier) → mul a one# ≡ a
  pub distrib : (a b c : Carrier) → mul a (add b c) ≡ add (mul a b) (mul a c)
  -- its whole numbers, however it writes them
  pub of_int : ℤ → Carrier
  pub of_int_one : of_int (pos 1) ≡ one#
  pub of_int_add : (a b : ℤ) → of_int (a +ℤ b) ≡ add (of_int a) (of_int b)
