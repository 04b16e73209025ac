-- What a file in memory is read as: where no read has failed, its first bytes, as many as the buffer has room for (first_bytes); which read fails (fails_at), that
-- a read that fails is not the end (ends_at), and that what is read is determined (one_answer).
use Rattle.std.specs.Prelude.{◌≡◌, refl, Bool, true, false, List, [], ◌∷◌, ℕ, zero, suc, ◌≤◌, ◌<◌, min, length, take}
use Rattle.std.proofs.Common.{sym, ◌∙◌, ap, arith}
use Rattle.std.proofs.Math.Numerals.{unary_clauses}
use Rattle.input.specs.Reads.{piece_at, Reads, full, fails, ends, more}

module _ {file pieces : List ℕ} {room : ℕ} where
  pub all_read : {size all : ℕ} → Reads file pieces room size all false → size ≤ room → size ≤ length file → all ≡ min room (length file)
  all_read (full h) a b = omega arith
  all_read (ends h p l) a b = omega arith
  all_read (more h p l r) a b = all_read r (omega arith) (omega arith)

  pub fails_at : {size all : ℕ} → Reads file pieces room size all true → (all < room) × (piece_at pieces all ≡ 0)
  fails_at (fails h z) = (h, z)
  fails_at (more h p l r) = fails_at r

  pub ends_at : {size all : ℕ} → Reads file pieces room size all false → all < room → 0 < piece_at pieces all
  ends_at (full h) k = absurd (omega arith)
  ends_at (ends h p l) k = p
  ends_at (more h p l r) k = ends_at r k

  -- how a file is read is determined
  pub one_answer : {size a b : ℕ} {f g : Bool} → Reads file pieces room size a f → Reads file pieces room size b g → (a ≡ b) × (f ≡ g)
  one_answer (full h) (full k) = (refl, refl)
  one_answer (full h) (fails k z) = absurd (omega arith)
  one_answer (full h) (ends k q m) = absurd (omega arith)
  one_answer (full h) (more k q m t) = absurd (omega arith)
  one_answer (fails h y) (full k) = absurd (omega arith)
  one_answer (fails h y) (fails k z) = (refl, refl)
  one_answer (fails h y) (ends k q m) = absurd (omega arith)
  one_answer (fails h y) (more k q m t) = absurd (omega arith)
  one_answer (ends h p l) (full k) = absurd (omega arith)
  one_answer (ends h p l) (fails k z) = absurd (omega arith)
  one_answer (ends h p l) (ends k q m) = (refl, refl)
  one_answer (ends h p l) (more k q m t) = absurd (omega arith)
  one_answer (more h p l r) (full k) = absurd (omega arith)
  one_answer (more h p l r) (fails k z) = absurd (omega arith)
  one_answer (more h p l r) (ends k q m) = absurd (omega arith)
  one_answer (more h p l r) (more k q m t) = one_answer r t

take_within : (n : ℕ) (l : List ℕ) → take (min n (length l)) l ≡ take n l
take_within zero [] = refl
take_within zero (x ∷ l) = simp unary_clauses
take_within (suc n) [] = simp unary_clauses
take_within (suc n) (x ∷ l) = simp unary_clauses (ap (λ (r : List ℕ). x ∷ r) (take_within n l))

pub first_bytes : {file pieces : List ℕ} (buffer : List ℕ) {size : ℕ} → Reads file pieces (length buffer) 0 size false → take size buffer ≡ take size file →
    take (length buffer) file ≡ take size buffer
first_bytes {file} buffer {size} r b = sym (take_within (length buffer) file) ∙ ap (λ (n : ℕ). take n file) (sym (all_read r (omega arith) (omega arith))) ∙ sym b
