-- Sums over lists: bounds of the parts are bounds of the sum.
use Rattle.std.specs.Prelude.{List, [], ◌∷◌, ℕ, ◌+◌, ◌*◌, ◌≤◌, length}
use Rattle.std.proofs.Common.{arith}
use Rattle.fund.specs.Base.{total}
use Rattle.laws.specs.Accepted.{All}

-- a bound of each part, b times another part and a constant
pub total_le : {A : Type 0} (P : A → Type 0) (f g : A → ℕ) (b c : ℕ) → ((a : A) → P a → f a ≤ b * (g a + c)) → (l : List A) → All P l → total f l ≤ b * (total g l + c * length l)
unfolding total
total_le P f g b c h [] p = omega arith
total_le P f g b c h (a ∷ rest) p =
    let x = h a p.0 in
    let y = total_le P f g b c h rest p.1 in
    omega arith

pub total_bound : {A : Type 0} (P : A → Type 0) (f : A → ℕ) (b : ℕ) → ((a : A) → P a → f a ≤ b) → (l : List A) → All P l → total f l ≤ b * length l
unfolding total
total_bound P f b h [] p = omega arith
total_bound P f b h (a ∷ rest) p =
    let x = h a p.0 in
    let y = total_bound P f b h rest p.1 in
    omega arith
