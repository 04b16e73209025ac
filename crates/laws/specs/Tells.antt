-- A test tells whether something holds (Tells), and what is known of such tests.
use Rattle.std.specs.Prelude.{◌≡◌, refl, Bool, true, false, ℕ, ◌≤◌, ◌<◌, leb, ltb, eqb}
use Rattle.std.proofs.Common.{sym, ◌∙◌, true≢false, leb-true, le-leb, ltb-true, lt-ltb, eqb-true, eq-eqb}

pub record Tells (r : Bool) (P : Type 0) : Type 0 where
  pub yes : r ≡ true → P
  pub no : P → r ≡ true

pub tells_yes : {P : Type 0} → P → Tells true P
tells_yes p = record { yes = λ e. p; no = λ q. refl }

pub tells_no : {P : Type 0} → (P → ⊥) → Tells false P
tells_no f = record { yes = λ e. absurd (true≢false (sym e)); no = λ q. absurd (f q) }

-- the same test of another statement
pub tells_as : {P Q : Type 0} {r : Bool} → Tells r P → (P → Q) → (Q → P) → Tells r Q
tells_as t f g = record { yes = λ e. f (t.yes e); no = λ q. t.no (g q) }

-- two tests of one statement
pub tells_same : {P : Type 0} (a b : Bool) → Tells a P → Tells b P → a ≡ b
tells_same true b s t = sym (t.no (s.yes refl))
tells_same false true s t = s.no (t.yes refl)
tells_same false false s t = refl

-- a test that failed
pub tells_not : {P : Type 0} {r : Bool} → Tells r P → r ≡ false → P → ⊥
tells_not t e p = true≢false (sym (t.no p) ∙ e)

-- comparisons
pub tells_le : {P : Type 0} (m n : ℕ) → (m ≤ n → P) → (P → m ≤ n) → Tells (leb m n) P
tells_le m n f g = record { yes = λ e. f (leb-true m n e); no = λ p. le-leb m n (g p) }

pub tells_lt : {P : Type 0} (m n : ℕ) → (m < n → P) → (P → m < n) → Tells (ltb m n) P
tells_lt m n f g = record { yes = λ e. f (ltb-true m n e); no = λ p. lt-ltb m n (g p) }

pub tells_eq : {P : Type 0} (m n : ℕ) → (m ≡ n → P) → (P → m ≡ n) → Tells (eqb m n) P
tells_eq m n f g = record { yes = λ e. f (eqb-true m n e); no = λ p. eq-eqb m n (g p) }
