-- A float that is the fraction a / c exactly (`Is x a c`; minus zero is 0), and its comparisons with a float that has no sign, as comparisons
-- of whole numbers: `eq→is` and `is→eq`, `lt→less` and `less→lt`.
use Rattle.std.specs.Prelude.{◌≡◌, refl, ◌⊎◌, ℕ, ◌+◌, ◌*◌, ◌≤◌, ◌<◌, Bool, true, false, ◌&&◌, ◌||◌, T, ltb, eqb, Float}
use Rattle.std.proofs.Common.{sym, ap, ◌∙◌, inl, inr, le_of_eq, le_of_lt, le_antisymm, lt_of_not-le, not-le_of_lt, mul_right_comm, zero-mul, arith, true≢false, eqb→eq, ltb→lt, lt→ltb}
use Rattle.std.proofs.Math.Nat.{eq_of_mul-eq-mul_right}
use Rattle.std.specs.Bool.{beq}
use Rattle.std.proofs.lemmas.Bool.{false≢true}
use Rattle.std.specs.Float.{nan, inf, fin}
use Rattle.std.specs.Float.Ieee.{up, down, below, lt, eq, le}
use Rattle.std.specs.Float.Ieee.Fits.{up_pos, down_pos, and_i, and_l, and_r, eq→eqb}
use Rattle.std.specs.Float.Ieee.Exact.{HasValue}
use Rattle.std.specs.Float.Ieee.Order.{transfer}
use Rattle.std.specs.Float.Ieee.Scale.{finite}

-- x is finite, not below zero, and a / c in size
abbrev pub Is : Float → ℕ → ℕ → Type 0
Is nan a c = ⊥
Is (inf s) a c = ⊥
Is (fin s m e) a c = (s ≡ true → m ≡ 0) × (m * up e * c ≡ a * down e)

pub has→is : (x : Float) (a c : ℕ) → HasValue x false a c → Is x a c
has→is nan a c h = h
has→is (inf s) a c h = h
has→is (fin s m e) a c h = ((λ t. absurd (true≢false (sym t ∙ h.0))), h.1)

-- ---- fractions
-- x / p is a / c and y / q is b / d: the products that the comparisons make are equal where a / c and b / d are
across : (x y p q a b c d : ℕ) → 0 < c → 0 < d → x * c ≡ a * p → y * d ≡ b * q → a * d ≡ b * c → x * q ≡ y * p
across x y p q a b c d C D h k e =
    le_antisymm (transfer x y p q a b c d C D h k (le_of_eq e)) (transfer y x q p b a d c D C k h (le_of_eq (sym e)))

-- and the other way round
pub back_le : (x y p q a b c d : ℕ) → 0 < p → 0 < q → x * c ≡ a * p → y * d ≡ b * q → x * q ≤ y * p → a * d ≤ b * c
back_le x y p q a b c d P Q h k l = transfer a b c d x y p q P Q (sym h) (sym k) l

-- ---- tests
or_split : (a b : Bool) → T (a || b) → T a ⊎ T b
or_split true b t = inl tt
or_split false b t = inr t

zero_num : (m u : ℕ) → m ≡ 0 → m * u ≡ 0
zero_num m u e = ap (λ (z : ℕ). z * u) e ∙ zero-mul u

level_true : (s : Bool) (a b : ℕ) → (s ≡ true → a ≡ 0) → a ≡ b → T (eqb a b && (beq s false || eqb a 0))
level_true true a b z e = and_i (eqb a b) (eqb a 0) (eq→eqb e) (eq→eqb (z refl))
level_true false a b z e = and_i (eqb a b) true (eq→eqb e) tt

-- ---- x is a / c, y is b / d and has no sign
-- x == y where the fractions are equal
pub is→eq : (x y : Float) (a c b d : ℕ) → 0 < c → 0 < d → Is x a c → HasValue y false b d → a * d ≡ b * c → T (eq x y)
unfolding eq
is→eq nan y a c b d C D h k e = absurd h
is→eq (inf s) y a c b d C D h k e = absurd h
is→eq (fin s m p) nan a c b d C D h k e = absurd k
is→eq (fin s m p) (inf t) a c b d C D h k e = absurd k
is→eq (fin s m p) (fin true n q) a c b d C D h k e = absurd (true≢false k.0)
is→eq (fin s m p) (fin false n q) a c b d C D h k e =
    level_true s (m * up p * down q) (n * up q * down p) (λ t. zero_num (m * up p) (down q) (zero_num m (up p) (h.0 t)))
    (across (m * up p) (n * up q) (down p) (down q) a b c d C D h.1 k.1 e)

-- and only there: what equals y is y's fraction
first_zero : (m u : ℕ) → 0 < u → m * u ≡ 0 → m ≡ 0
first_zero m u U e = eq_of_mul-eq-mul_right u U m 0 (e ∙ sym (zero-mul u))

level_sign : (s b : Bool) → s ≡ true → T (beq s false || b) → T b
level_sign true b e t = t
level_sign false b e t = absurd (false≢true e)

pub eq→is : (x y : Float) (b d : ℕ) → HasValue y false b d → T (eq x y) → Is x b d
unfolding eq
eq→is nan y b d k t = absurd t
eq→is (inf s) nan b d k t = absurd k
eq→is (inf s) (inf r) b d k t = absurd k
eq→is (inf s) (fin r n q) b d k t = absurd t
eq→is (fin s m p) nan b d k t = absurd k
eq→is (fin s m p) (inf r) b d k t = absurd k
eq→is (fin s m p) (fin true n q) b d k t = absurd (true≢false k.0)
eq→is (fin s m p) (fin false n q) b d k t =
    let x = m * up p * down q in
    let y = n * up q * down p in
    let e : x ≡ y = eqb→eq x y (and_l (eqb x y) (beq s false || eqb x 0) t) in
    let z = and_r (eqb x y) (beq s false || eqb x 0) t in (
      (λ r. first_zero m (up p) (up_pos p) (first_zero (m * up p) (down q) (down_pos q) (eqb→eq x 0 (level_sign s (eqb x 0) r z)))),
      eq_of_mul-eq-mul_right (down q) (down_pos q) (m * up p * d) (b * down p)
          (mul_right_comm (m * up p) d (down q) ∙ ap (λ (w : ℕ). w * d) e ∙ mul_right_comm (n * up q) (down p) d ∙ ap (λ (w : ℕ). w * down p) k.1 ∙ mul_right_comm b (down q) (down p)),
    )

-- two fractions of one float are equal
pub is_one : (x : Float) (a c b d : ℕ) → Is x a c → Is x b d → a * d ≡ b * c
is_one nan a c b d h k = absurd h
is_one (inf s) a c b d h k = absurd h
is_one (fin s m p) a c b d h k =
    let l : (q : ℕ) → 0 < q → m * up p * c ≡ a * q → m * up p * d ≡ b * q → a * d ≡ b * c = λ q Q e f. eq_of_mul-eq-mul_right q Q (a * d) (b * c)
    (mul_right_comm a d q ∙ ap (λ (w : ℕ). w * d) (sym e) ∙ mul_right_comm (m * up p) c d ∙ ap (λ (w : ℕ). w * c) f ∙ mul_right_comm b q c) in
    l (down p) (down_pos p) h.1 k.1

-- x < y where a / c is below b / d, and only there
below_true : (s : Bool) (a b : ℕ) → (s ≡ true → a ≡ 0) → a < b → T (below s a false b)
below_true true a b z h = lt→ltb 0 (a + b) (omega arith)
below_true false a b z h = lt→ltb a b h

below_lt : (s : Bool) (a b : ℕ) → (s ≡ true → a ≡ 0) → T (below s a false b) → a < b
below_lt true a b z t = let e : a ≡ 0 = z refl in let l : 0 < a + b = ltb→lt 0 (a + b) t in omega arith
below_lt false a b z t = ltb→lt a b t

pub lt→less : (x y : Float) (a c b d : ℕ) → 0 < c → 0 < d → Is x a c → HasValue y false b d → T (lt x y) → a * d < b * c
unfolding lt
lt→less nan y a c b d C D h k t = absurd h
lt→less (inf s) y a c b d C D h k t = absurd h
lt→less (fin s m p) nan a c b d C D h k t = absurd k
lt→less (fin s m p) (inf r) a c b d C D h k t = absurd k
lt→less (fin s m p) (fin true n q) a c b d C D h k t = absurd (true≢false k.0)
lt→less (fin s m p) (fin false n q) a c b d C D h k t =
    let l = below_lt s (m * up p * down q) (n * up q * down p) (λ r. zero_num (m * up p) (down q) (zero_num m (up p) (h.0 r))) t in
    lt_of_not-le (λ g. not-le_of_lt l (transfer (n * up q) (m * up p) (down q) (down p) b a d c D C k.1 h.1 g))

pub less→lt : (x y : Float) (a c b d : ℕ) → Is x a c → HasValue y false b d → a * d < b * c → T (lt x y)
unfolding lt
less→lt nan y a c b d h k l = absurd h
less→lt (inf s) y a c b d h k l = absurd h
less→lt (fin s m p) nan a c b d h k l = absurd k
less→lt (fin s m p) (inf r) a c b d h k l = absurd k
less→lt (fin s m p) (fin true n q) a c b d h k l = absurd (true≢false k.0)
less→lt (fin s m p) (fin false n q) a c b d h k l =
    below_true s (m * up p * down q) (n * up q * down p) (λ r. zero_num (m * up p) (down q) (zero_num m (up p) (h.0 r)))
    (lt_of_not-le (λ g. not-le_of_lt l (back_le (n * up q) (m * up p) (down q) (down p) b a d c (down_pos q) (down_pos p) k.1 h.1 g)))

-- ---- two floats with no sign
lt_or_eq : (a b : ℕ) → T (ltb a b || (eqb a b && true)) → a ≤ b
lt_or_eq a b t = elim (or_split (ltb a b) (eqb a b && true) t) [ inl u ↦ le_of_lt (ltb→lt a b u) | inr u ↦ le_of_eq (eqb→eq a b (and_l (eqb a b) true u)) ]

pub le→cross : (x y : Float) (a c b d : ℕ) → HasValue x false a c → HasValue y false b d → T (le x y) → a * d ≤ b * c
unfolding le
le→cross nan y a c b d h k t = absurd h
le→cross (inf s) y a c b d h k t = absurd h
le→cross (fin true m p) y a c b d h k t = absurd (true≢false h.0)
le→cross (fin false m p) nan a c b d h k t = absurd k
le→cross (fin false m p) (inf r) a c b d h k t = absurd k
le→cross (fin false m p) (fin true n q) a c b d h k t = absurd (true≢false k.0)
le→cross (fin false m p) (fin false n q) a c b d h k t =
    back_le (m * up p) (n * up q) (down p) (down q) a b c d (down_pos p) (down_pos q) h.1 k.1 (lt_or_eq (m * up p * down q) (n * up q * down p) t)

-- what lies between two finite floats is finite
pub between : (x y z : Float) → T (finite x) → T (finite z) → T (le x y) → T (le y z) → T (finite y)
unfolding le
between nan y z p q h k = absurd p
between (inf s) y z p q h k = absurd p
between (fin s m e) nan z p q h k = absurd h
between (fin s m e) (inf true) z p q h k = absurd h
between (fin s m e) (inf false) nan p q h k = absurd q
between (fin s m e) (inf false) (inf r) p q h k = absurd q
between (fin s m e) (inf false) (fin r n d) p q h k = absurd k
between (fin s m e) (fin t n d) z p q h k = tt
