-- The number of m + n bytes, least first, is the number of the first m and 256 to the power of m times that of the other n (`joined`).
use Rattle.std.specs.Prelude.{◌≡◌, refl, List, [], ◌∷◌, ℕ, zero, suc, ◌+◌, ◌*◌, ◌^◌, ◌≤◌, ◌<◌, length, take, drop, get_or}
use Rattle.std.proofs.Common.{sym, ap, ◌∙◌, pow-suc, add-zero, zero-add, suc-add, mul-one, mul_assoc, add-mul, add_assoc, arith, add-one, drop-cons, w64}
use Rattle.std.specs.Int.{from_le_bytes}
use Rattle.fund.specs.SheetCells.{least_first}

-- one byte more in front
front : (s : List ℕ) (at n : ℕ) → at < length s → least_first (take (suc n) (drop at s)) ≡ least_first (take n (drop (suc at) s)) * 256 + get_or s at 0
unfolding least_first
front s at n h = ap (λ (l : List ℕ). least_first (take (suc n) l)) (drop-cons s at 0 h)

none : (l : List ℕ) → least_first (take 0 l) ≡ 0
unfolding least_first
none l = refl

pub joined : (s : List ℕ) (at m n : ℕ) → at + m ≤ length s
    → least_first (take (m + n) (drop at s)) ≡ least_first (take n (drop (at + m) s)) * 256 ^ m + least_first (take m (drop at s))
joined s at zero n h = rw (zero-add, add-zero, none, mul-one, add-zero)
joined s at (suc m) n h =
    let x = least_first (take n (drop (at + suc m) s)) in
    let y = least_first (take m (drop (suc at) s)) in
    let b = get_or s at 0 in
    ap (λ (k : ℕ). least_first (take k (drop at s))) (suc-add m n) ∙ front s at (m + n) (omega arith)
    ∙ ap (λ (z : ℕ). z * 256 + b) (joined s (suc at) m n (omega arith) ∙ ap (λ (k : ℕ). least_first (take n (drop k s)) * 256 ^ m + y) (next at m))
    ∙ spread x (256 ^ m) y b ∙ ap (λ (z : ℕ). x * z + (y * 256 + b)) (sym (pow-suc 256 m)) ∙ ap (λ (z : ℕ). x * 256 ^ suc m + z) (sym (front s at m (omega arith)))
  where
    next : (a k : ℕ) → suc a + k ≡ a + suc k
    next a k = omega arith

    spread : (x p y b : ℕ) → (x * p + y) * 256 + b ≡ x * (p * 256) + (y * 256 + b)
    spread x p y b = rw (add-mul, mul_assoc, add_assoc)

-- one byte
pub one_byte : (s : List ℕ) (at : ℕ) → at < length s → least_first (take 1 (drop at s)) ≡ get_or s at 0
one_byte s at h = front s at 0 h ∙ ap (λ (z : ℕ). z * 256 + get_or s at 0) (none (drop (suc at) s)) ∙ zero-add (get_or s at 0)

-- the number of twice m bytes from those of its halves
pub halves : (s : List ℕ) (at m : ℕ) {high low : ℕ} → at + m ≤ length s → high ≡ least_first (take m (drop (at + m) s)) → low ≡ least_first (take m (drop at s))
    → high * 256 ^ m + low ≡ least_first (take (m + m) (drop at s))
halves s at m h p q = rw (p, q) (sym (joined s at m m h))

-- the number of eight bytes is that of the library's conversion
spelled_out : (a b c d e f g h : ℕ) → from_le_bytes w64 (a ∷ b ∷ c ∷ d ∷ e ∷ f ∷ g ∷ h ∷ []) ≡ least_first (a ∷ b ∷ c ∷ d ∷ e ∷ f ∷ g ∷ h ∷ [])
unfolding least_first
spelled_out a b c d e f g h = omega arith

next : (s : List ℕ) (at n then : ℕ) → at < length s → then ≡ at + 1 → take (suc n) (drop at s) ≡ get_or s at 0 ∷ take n (drop then s)
next s at n then h e = rw (drop-cons s at 0 h, e, add-one at)

pub eight : (s : List ℕ) (at : ℕ) → at + 8 ≤ length s → from_le_bytes w64 (get_or s at 0 ∷ get_or s (at + 1) 0 ∷ get_or s (at + 2) 0 ∷ get_or s (at + 3) 0 ∷ get_or s (at + 4) 0 ∷ get_or s (at + 5) 0 ∷ get_or s (at + 6) 0 ∷ get_or s (at + 7) 0 ∷ []) ≡ least_first (take 8 (drop at s))
eight s at h =
    spelled_out _ _ _ _ _ _ _ _
    ∙ ap least_first (sym (rw (
      next s at 7 (at + 1) (omega arith) refl,
      next s (at + 1) 6 (at + 2) (omega arith) (omega arith),
      next s (at + 2) 5 (at + 3) (omega arith) (omega arith),
      next s (at + 3) 4 (at + 4) (omega arith) (omega arith),
      next s (at + 4) 3 (at + 5) (omega arith) (omega arith),
      next s (at + 5) 2 (at + 6) (omega arith) (omega arith),
      next s (at + 6) 1 (at + 7) (omega arith) (omega arith),
      next s (at + 7) 0 (at + 8) (omega arith) (omega arith),
    )))
