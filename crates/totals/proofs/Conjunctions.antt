-- What `a && b` tells: b where a holds (followed), and nothing where it fails (skipped).
use mathlib.Core.Path.{◌≡◌, sym, ◌∙◌}
use mathlib.Core.Bool.{Bool, false, true≢false}
use Prim.Native.Nat.{ℕ, ◌≤◌}
use lib.Dec.{leb}
use Rattle.laws.specs.Tells.{Tells, tells_le}

pub at_most : (m n : ℕ) → Tells (leb m n) (m ≤ n)
at_most m n = tells_le m n (λ h. h) (λ h. h)

pub followed : {P Q : Type 0} {b r : Bool} → P → Tells b Q → r ≡ b → Tells r (P × Q)
followed p t e = record { yes = λ s. (p, t.yes (sym e ∙ s)); no = λ h. e ∙ t.no h.1 }

pub skipped : {P Q : Type 0} {a r : Bool} → Tells a P → a ≡ false → r ≡ a → Tells r (P × Q)
skipped t f e = record { yes = λ s. absurd (true≢false (sym s ∙ e ∙ f)); no = λ h. e ∙ t.no h.0 }
