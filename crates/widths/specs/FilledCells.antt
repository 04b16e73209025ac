-- A loop that adds lists of terms G(0), G(1), .. to D and H, for which F(k) are those of the first k turns: the invariant
-- (`Filling`), its start, its step and its end. Room for all of F(L) is room for each turn's terms.
use Rattle.std.specs.Prelude.{◌≡◌, List, [], ◌++◌, ℕ, zero, suc, ◌+◌, ◌≤◌, ◌<◌, ℤ, length}
use Rattle.std.proofs.Common.{sym, ◌∙◌, ap, ⊎_elim, append_assoc, append-nil, add-one, arith}
use Rattle.std.proofs.Math.Nat as N
use Rattle.fund.specs.Transform.{Term}
use Rattle.widths.specs.AddedTerms.{add_d, add_h, Room}
use Rattle.widths.specs.AddingLaws.{add_d_append, add_h_append, length_add_d, length_add_h, room_d_first, room_d_rest, room_h_first, room_h_rest}

pub record Filling (X : ℕ) (d₀ : List ℤ) (h₀ : List ℕ) (F : ℕ → List Term) (L k : ℕ) (d : List ℤ) (h : List ℕ) : Type 0 where
  pub room : Room X d₀ h₀ (F L)
  pub within : k ≤ L
  pub d_is : d ≡ add_d d₀ (F k)
  pub h_is : h ≡ add_h h₀ (F k)

-- a list of terms that goes on
record Goes (xs ys : List Term) : Type 0 where
  rest : List Term
  is : ys ≡ xs ++ rest

goes_end : {xs ys : List Term} → xs ≡ ys → Goes xs ys
goes_end {xs} e = record { rest = []; is = sym e ∙ sym (append-nil xs) }

pub begin : {X : ℕ} {d : List ℤ} {h : List ℕ} (F : ℕ → List Term) (L : ℕ) → F 0 ≡ [] → Room X d h (F L) → Filling X d h F L 0 d h
unfolding add_d add_h
begin {X} {d} {h} F L e r =
    record { room = r; within = omega arith; d_is = ap (add_d d) (sym e); h_is = ap (add_h h) (sym e) }

module _ (F G : ℕ → List Term) (s : (l : ℕ) → F (suc l) ≡ F l ++ G l) where
  goes : (k L : ℕ) → k ≤ L → Goes (F k) (F L)
  goes k zero u = goes_end (ap F (omega arith))
  goes k (suc L) u =
      ⊎_elim
      (λ e. goes_end (ap F e))
      (λ l.
      let g = goes k L (N.le_of_suc-le-suc l) in
      record { rest = g.rest ++ G L; is = s L ∙ ap (λ x. x ++ G L) g.is ∙ append_assoc (F k) g.rest (G L) })
      (N.eq-or-lt_of_le u)

  module _ {X L k : ℕ} {d₀ d : List ℤ} {h₀ h : List ℕ} (f : Filling X d₀ h₀ F L k d h) where
    whole : k < L → Goes (F k ++ G k) (F L)
    whole u = let g = goes (suc k) L u in record { rest = g.rest; is = g.is ∙ ap (λ x. x ++ g.rest) (s k) }

    pub turn_room : k < L → Room X d h (G k)
    turn_room u =
        let g = whole u in
        let to_d = rw g.is at f.room.in_d in
        let to_h = rw g.is at f.room.in_h in
        record {
          in_d = rw f.d_is (room_d_rest (F k) (G k) (room_d_first (F k ++ G k) g.rest to_d));
          in_h = rw f.h_is (room_h_rest (F k) (G k) (room_h_first (F k ++ G k) g.rest to_h));
        }

    pub turn : {d' : List ℤ} {h' : List ℕ} → k < L → d' ≡ add_d d (G k) → h' ≡ add_h h (G k) → Filling X d₀ h₀ F L (k + 1) d' h'
    turn u p q =
        let e : F k ++ G k ≡ F (k + 1) = sym (s k) ∙ ap F (sym (add-one k)) in
        record {
          room = f.room;
          within = omega arith;
          d_is = p ∙ ap (λ x. add_d x (G k)) f.d_is ∙ sym (add_d_append d₀ (F k) (G k)) ∙ ap (add_d d₀) e;
          h_is = q ∙ ap (λ x. add_h x (G k)) f.h_is ∙ sym (add_h_append h₀ (F k) (G k)) ∙ ap (add_h h₀) e;
        }

pub end_d : {X L k : ℕ} {d₀ d : List ℤ} {h₀ h : List ℕ} {F : ℕ → List Term} → Filling X d₀ h₀ F L k d h → L ≤ k → d ≡ add_d d₀ (F L)
end_d {d₀ = d₀} {F = F} f u = f.d_is ∙ ap (λ k. add_d d₀ (F k)) (N.le_antisymm f.within u)

pub end_h : {X L k : ℕ} {d₀ d : List ℤ} {h₀ h : List ℕ} {F : ℕ → List Term} → Filling X d₀ h₀ F L k d h → L ≤ k → h ≡ add_h h₀ (F L)
end_h {h₀ = h₀} {F = F} f u = f.h_is ∙ ap (λ k. add_h h₀ (F k)) (N.le_antisymm f.within u)

pub long_d : {X L k : ℕ} {d₀ d : List ℤ} {h₀ h : List ℕ} {F : ℕ → List Term} → Filling X d₀ h₀ F L k d h → length d ≡ length d₀
long_d {k = k} {d₀ = d₀} {F = F} f = ap length f.d_is ∙ length_add_d d₀ (F k)

pub long_h : {X L k : ℕ} {d₀ d : List ℤ} {h₀ h : List ℕ} {F : ℕ → List Term} → Filling X d₀ h₀ F L k d h → length h ≡ length h₀
long_h {k = k} {h₀ = h₀} {F = F} f = ap length f.h_is ∙ length_add_h h₀ (F k)
