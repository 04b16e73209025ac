-- Terms added to cells one by one: the cell at a place has gained the sum over the terms there, cells beyond the horizon are as they
-- were, and a slice with room for some terms has, after the first of them, room for the others.
use Rattle.std.specs.Prelude.{◌≡◌, refl, Bool, true, false, List, [], ◌∷◌, ◌++◌, ℕ, suc, ◌+◌, ◌≤◌, ◌<◌, eqb, ℤ, pos, nat_abs, ◌+ℤ◌, length, get_or, set, drop, if◌then◌else◌}
use Rattle.std.proofs.Common.{sym, ◌∙◌, ap, arith, eq-eqb, ne_eqb, eqb-true, length-set, get_or-set_same, get_or-set_other, drop-set-lt}
use Rattle.std.proofs.Math.Nat as N
use Rattle.std.proofs.lemmas.Bool.{eqb-false}
use Rattle.std.proofs.Math.IntN.{+ℤ_assoc, +ℤ_idl, +ℤ_idr}
use Rattle.fund.specs.Base.{total}
use Rattle.fund.specs.Transform.{Term, sum_d, sum_h}
use Rattle.laws.specs.Accepted.{All}
use Rattle.laws.specs.Tables.{total_append}
use Rattle.widths.specs.AddedTerms.{add_d, add_h, size_d, size_h, RoomD, RoomH}
use Rattle.widths.specs.Signed.{nat_abs_add}

-- ---- one after the other
pub add_d_append : (d : List ℤ) (xs ys : List Term) → add_d d (xs ++ ys) ≡ add_d (add_d d xs) ys
unfolding add_d
add_d_append d [] ys = refl
add_d_append d (t ∷ xs) ys = add_d_append (set d t.place (get_or d t.place (pos 0) +ℤ t.to_d)) xs ys

pub add_h_append : (h : List ℕ) (xs ys : List Term) → add_h h (xs ++ ys) ≡ add_h (add_h h xs) ys
unfolding add_h
add_h_append h [] ys = refl
add_h_append h (t ∷ xs) ys = add_h_append (set h t.place (get_or h t.place 0 + t.to_h)) xs ys

pub length_add_d : (d : List ℤ) (ts : List Term) → length (add_d d ts) ≡ length d
unfolding add_d
length_add_d d [] = refl
length_add_d d (t ∷ ts) = length_add_d (set d t.place (get_or d t.place (pos 0) +ℤ t.to_d)) ts ∙ length-set d t.place (get_or d t.place (pos 0) +ℤ t.to_d)

pub length_add_h : (h : List ℕ) (ts : List Term) → length (add_h h ts) ≡ length h
unfolding add_h
length_add_h h [] = refl
length_add_h h (t ∷ ts) = length_add_h (set h t.place (get_or h t.place 0 + t.to_h)) ts ∙ length-set h t.place (get_or h t.place 0 + t.to_h)

-- ---- the cell at a place, after a gain x at the place p
module _ {A : Type 0} (z : A) where
  gain_same : (l : List A) (p k : ℕ) (v : A) → k < length l → p ≡ k → get_or (set l p v) k z ≡ v
  gain_same l p k v h e = rw e (get_or-set_same l k v z h)

  gain_other : (l : List A) (p k : ℕ) (v : A) → (p ≡ k → ⊥) → get_or (set l p v) k z ≡ get_or l k z
  gain_other l p k v n = get_or-set_other l p k v z (λ e. n (sym e))

-- a place is this one or another
pub place_cases : {P : Type 0} (p k : ℕ) → (p ≡ k → P) → ((p ≡ k → ⊥) → P) → P
place_cases {P} p k f g = go (eqb p k) refl
  where
    go : (t : Bool) → eqb p k ≡ t → P
    go true e = f (eqb-true p k e)
    go false e = g (eqb-false p k e)

pub add_d_at : (d : List ℤ) (ts : List Term) (k : ℕ) → k < length d → get_or (add_d d ts) k (pos 0) ≡ get_or d k (pos 0) +ℤ sum_d k ts
unfolding add_d sum_d
add_d_at d [] k h = sym (+ℤ_idr (get_or d k (pos 0)))
add_d_at d (t ∷ ts) k h =
    let v = get_or d t.place (pos 0) +ℤ t.to_d in
    let l : k < length (set d t.place v) = simp length-set h in
    add_d_at (set d t.place v) ts k l
    ∙ place_cases t.place k
    (λ e. ap (λ x. x +ℤ sum_d k ts) (gain_same (pos 0) d t.place k v h e ∙ ap (λ p. get_or d p (pos 0) +ℤ t.to_d) e)
    ∙ +ℤ_assoc (get_or d k (pos 0)) t.to_d (sum_d k ts)
    ∙ ap (λ b. get_or d k (pos 0) +ℤ ((if b then t.to_d else pos 0) +ℤ sum_d k ts)) (sym (eq-eqb t.place k e)))
    (λ n. ap (λ x. x +ℤ sum_d k ts) (gain_other (pos 0) d t.place k v n)
    ∙ ap (λ x. get_or d k (pos 0) +ℤ x) (sym (+ℤ_idl (sum_d k ts)))
    ∙ ap (λ b. get_or d k (pos 0) +ℤ ((if b then t.to_d else pos 0) +ℤ sum_d k ts)) (sym (ne_eqb t.place k n)))

pub add_h_at : (h : List ℕ) (ts : List Term) (k : ℕ) → k < length h → get_or (add_h h ts) k 0 ≡ get_or h k 0 + sum_h k ts
unfolding add_h sum_h
add_h_at h [] k l = sym (N.add-zero (get_or h k 0))
add_h_at h (t ∷ ts) k l =
    let v = get_or h t.place 0 + t.to_h in
    let l' : k < length (set h t.place v) = simp length-set l in
    add_h_at (set h t.place v) ts k l'
    ∙ place_cases t.place k
    (λ e. ap (λ x. x + sum_h k ts) (gain_same 0 h t.place k v l e ∙ ap (λ p. get_or h p 0 + t.to_h) e)
    ∙ N.add_assoc (get_or h k 0) t.to_h (sum_h k ts)
    ∙ ap (λ b. get_or h k 0 + ((if b then t.to_h else 0) + sum_h k ts)) (sym (eq-eqb t.place k e)))
    (λ n. ap (λ x. x + sum_h k ts) (gain_other 0 h t.place k v n)
    ∙ ap (λ x. get_or h k 0 + x) (sym (N.zero-add (sum_h k ts)))
    ∙ ap (λ b. get_or h k 0 + ((if b then t.to_h else 0) + sum_h k ts)) (sym (ne_eqb t.place k n)))

-- ---- cells beyond every place
pub add_d_beyond : (X : ℕ) (d : List ℤ) (ts : List Term) → All (λ (t : Term). t.place ≤ X) ts → drop (suc X) (add_d d ts) ≡ drop (suc X) d
unfolding add_d
add_d_beyond X d [] a = refl
add_d_beyond X d (t ∷ ts) a =
    add_d_beyond X (set d t.place (get_or d t.place (pos 0) +ℤ t.to_d)) ts a.1
    ∙ drop-set-lt (suc X) d t.place (get_or d t.place (pos 0) +ℤ t.to_d) (omega (arith, a.0))

pub add_h_beyond : (X : ℕ) (h : List ℕ) (ts : List Term) → All (λ (t : Term). t.place ≤ X) ts → drop (suc X) (add_h h ts) ≡ drop (suc X) h
unfolding add_h
add_h_beyond X h [] a = refl
add_h_beyond X h (t ∷ ts) a =
    add_h_beyond X (set h t.place (get_or h t.place 0 + t.to_h)) ts a.1
    ∙ drop-set-lt (suc X) h t.place (get_or h t.place 0 + t.to_h) (omega (arith, a.0))

-- ---- sizes
pub size_d_append : (xs ys : List Term) → size_d (xs ++ ys) ≡ size_d xs + size_d ys
unfolding size_d
size_d_append xs ys = total_append (λ (t : Term). nat_abs t.to_d) xs ys

pub size_h_append : (xs ys : List Term) → size_h (xs ++ ys) ≡ size_h xs + size_h ys
unfolding size_h
size_h_append xs ys = total_append (λ (t : Term). t.to_h) xs ys

pub sum_d_le : (k : ℕ) (ts : List Term) → nat_abs (sum_d k ts) ≤ size_d ts
unfolding sum_d size_d total
sum_d_le k [] = omega arith
sum_d_le k (t ∷ ts) =
    let a = if eqb t.place k then t.to_d else pos 0 in
    omega (arith, nat_abs_add a (sum_d k ts), sum_d_le k ts, part (eqb t.place k) t.to_d)
  where
    part : (b : Bool) (z : ℤ) → nat_abs (if b then z else pos 0) ≤ nat_abs z
    part true z = N.le_refl (nat_abs z)
    part false z = omega arith

pub sum_h_le : (k : ℕ) (ts : List Term) → sum_h k ts ≤ size_h ts
unfolding sum_h size_h total
sum_h_le k [] = omega arith
sum_h_le k (t ∷ ts) = omega (arith, sum_h_le k ts, part (eqb t.place k) t.to_h)
  where
    part : (b : Bool) (x : ℕ) → (if b then x else 0) ≤ x
    part true x = N.le_refl x
    part false x = omega arith

-- ---- room for the first terms, and then for the others
module _ {X : ℕ} (xs ys : List Term) where
  pub room_d_first : {d : List ℤ} → RoomD X d (xs ++ ys) → RoomD X d xs
  room_d_first r = record { horizon = r.horizon; long = r.long; room = λ k l. omega (arith, r.room k l, size_d_append xs ys) }

  pub room_d_rest : {d : List ℤ} → RoomD X d (xs ++ ys) → RoomD X (add_d d xs) ys
  room_d_rest {d} r =
      record {
        horizon = r.horizon;
        long = omega (arith, r.long, length_add_d d xs);
        room =
            λ k l.
            let e = add_d_at d xs k (omega (arith, r.long)) in
            omega (arith, r.room k l, size_d_append xs ys, sum_d_le k xs, nat_abs_add (get_or d k (pos 0)) (sum_d k xs), ap nat_abs e);
      }

  pub room_h_first : {h : List ℕ} → RoomH X h (xs ++ ys) → RoomH X h xs
  room_h_first r = record { long = r.long; room = λ k l. omega (arith, r.room k l, size_h_append xs ys) }

  pub room_h_rest : {h : List ℕ} → RoomH X h (xs ++ ys) → RoomH X (add_h h xs) ys
  room_h_rest {h} r =
      record {
        long = omega (arith, r.long, length_add_h h xs);
        room =
            λ k l.
            omega (arith, r.room k l, size_h_append xs ys, sum_h_le k xs, add_h_at h xs k (omega (arith, r.long)));
      }
