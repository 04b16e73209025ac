-- Calls by a function that keeps the table lent to it: it passes a copy of the reference, and plain data x. The result, plain data, goes to a local
-- that holds nothing yet: n is the entry of its room, after the token and the reference.
--     calls_walk       the table is passed before x, as to a walk
--     calls_handed     the table is passed after x
-- Assumes `Logic`.
use types.Logic.{Logic}
use Rattle.std.specs.Borrow.{Bor}
use Rattle.std.specs.Prelude.{◌≡◌, ℕ, suc, List, [], ◌∷◌, length}
use Rattle.walks.specs.ByHand.{Ura, full_share, Callee, Ty, Operand, Body, named, place, seq, call, Val, ent, emp, Lft, Share, fat, froom, Env, Calls, Loops, spot_of, FmC, fact, Item, Post, Seq, Go, ‵, nth, put, ◌⊛◌, runs, ◌$◌, !, move, use0, use1, split, fjoin, Opds, SliceRefOf, yes, Is, RattleType, plain, slice_val, ShrSlice, shr_slice_copy, nothing, Ended, Clauses, AtExit, Triple}
use Rattle.walks.specs.Element.{Element, Of, element_row, element_row_laws}
use Rattle.walks.specs.Plain.{Plain}
use Rattle.walks.specs.Calls.{calls_into}
use Rattle.walks.specs.Walks.{Stated, tokens}
use Rattle.walks.specs.WalkForm.{walk_ended}

-- a function that is passed plain data and a table
abbrev pub handed_ended : Element → RattleType → RattleType → Ended
handed_ended L R X = record {
  signature = record { lifetimes = 1; outlives = []; params = plain (λ _. X) ∷ SliceRefOf (0 ∷ []) tt (plain (λ _. (element_row L))) (λ _. tt) ∷ []; result = plain (λ _. R) };
  kept = (yes, (yes, tt));
}

abbrev pub table_val : (L : Element) → Bor (List (Of L)) → Val
table_val L table = slice_val table.ref_ptr (length table.now)

abbrev pub lent : {M : Type 1} {𝓤 : Ura M} (L : Element) (κ : Lft) (table : Bor (List (Of L))) → Item 𝓤
lent L κ table = ‵ ((ShrSlice (named 0) κ (element_row L)).own_val table (table_val L table ∷ []))

module _ {M : Type 1} {𝓤 : Ura M} (𝓛 : Logic 𝓤) (L : Element) (κ : Lft) (q : Share) (table : Bor (List (Of L))) {R X : RattleType} {τ σ : Ty} (ρ : Plain R τ) (ξ : Plain X σ) (x : X.Denot) where
  open 𝓛 use {H}

  abbrev v : Val
  v = table_val L table

  module _ {Γ : List (Item 𝓤)} {E : Env 𝓤 H} {C : Calls 𝓤 H} {f : Callee} {xs : List Operand} {Λ : Loops 𝓤 H} {p : Post 𝓤 H} {i l : ℕ} {rest : Body} where
    pub calls_walk : (c : Clauses 𝓤 (walk_ended L R X)) (g : (c (κ, tt) (table, (x, tt))).ghost) (n : ℕ) → nth 𝓛 n Γ ≡ ‵ (froom τ l 0) → spot_of 𝓤 H E i ≡ (τ, l, 0) → FmC 𝓤 H 𝓛.laws C → Triple 𝓤 (C f) (Stated 𝓛 (walk_ended L R X) c)
        → ent 𝓤 (emp 𝓤) ((c (κ, tt) (table, (x, tt))).requires g)
        → {φ : R.Denot → Type 0} → ((r : R.Denot) (e : AtExit (walk_ended L R X) (κ, tt)) → ent 𝓤 ((c (κ, tt) (table, (x, tt))).ensures g r e) (fact 𝓤 (φ r)))
        → Is X x (ξ.val x ∷ []) → ((j : Item 𝓤) → Opds (Go {0}) 𝓛 (j ∷ lent L κ table ∷ Γ) E xs (v ∷ ξ.val x ∷ []))
        → let y : (Stated 𝓛 (walk_ended L R X) c).Ghost = (((κ, tt), (q, tt), tt, (table, (x, tt)), (v ∷ [], (ξ.val x ∷ [], tt))), g) in
        ((r : R.Denot) → φ r → Is R r (ρ.val r ∷ []) → Seq (Go {0}) 𝓛 (tokens 𝓛 (walk_ended L R X) c y ∷ lent L κ table ∷ put 𝓛 n (‵ (fat full_share τ l 0 (ρ.val r))) Γ) (runs C Λ E rest p))
        → Seq (Go {0}) 𝓛 (tokens 𝓛 (walk_ended L R X) c y ∷ lent L κ table ∷ Γ) (runs C Λ E (seq (call f xs (place i [])) rest) p)
    calls_walk c g n room spot fm met requires says is os k =
        move ! (1 ∷ []) $ use1 𝓛 (lent L κ table ⊛ lent L κ table) ((shr_slice_copy 𝓛 (named 0) κ (element_row L) (element_row_laws L)).twice table _) $ split ! $ nothing ! $ use0 𝓛 (‵ (X.own_val x (ξ.val x ∷ []))) (ξ.makes 𝓛 x _ is) $ fjoin ! $ move ! (1 ∷ 0 ∷ []) $ fjoin ! $ move ! (2 ∷ 0 ∷ []) $
        calls_into 𝓛 (walk_ended L R X) c _ ρ (suc n) room spot fm met requires says (os _) k

    pub calls_handed : (c : Clauses 𝓤 (handed_ended L R X)) (g : (c (κ, tt) (x, (table, tt))).ghost) (n : ℕ) → nth 𝓛 n Γ ≡ ‵ (froom τ l 0) → spot_of 𝓤 H E i ≡ (τ, l, 0) → FmC 𝓤 H 𝓛.laws C → Triple 𝓤 (C f) (Stated 𝓛 (handed_ended L R X) c)
        → ent 𝓤 (emp 𝓤) ((c (κ, tt) (x, (table, tt))).requires g)
        → {φ : R.Denot → Type 0} → ((r : R.Denot) (e : AtExit (handed_ended L R X) (κ, tt)) → ent 𝓤 ((c (κ, tt) (x, (table, tt))).ensures g r e) (fact 𝓤 (φ r)))
        → Is X x (ξ.val x ∷ []) → ((j : Item 𝓤) → Opds (Go {0}) 𝓛 (j ∷ lent L κ table ∷ Γ) E xs (ξ.val x ∷ v ∷ []))
        → let y : (Stated 𝓛 (handed_ended L R X) c).Ghost = (((κ, tt), (q, tt), tt, (x, (table, tt)), (ξ.val x ∷ [], (v ∷ [], tt))), g) in
        ((r : R.Denot) → φ r → Is R r (ρ.val r ∷ []) → Seq (Go {0}) 𝓛 (tokens 𝓛 (handed_ended L R X) c y ∷ lent L κ table ∷ put 𝓛 n (‵ (fat full_share τ l 0 (ρ.val r))) Γ) (runs C Λ E rest p))
        → Seq (Go {0}) 𝓛 (tokens 𝓛 (handed_ended L R X) c y ∷ lent L κ table ∷ Γ) (runs C Λ E (seq (call f xs (place i [])) rest) p)
    calls_handed c g n room spot fm met requires says is os k =
        move ! (1 ∷ []) $ use1 𝓛 (lent L κ table ⊛ lent L κ table) ((shr_slice_copy 𝓛 (named 0) κ (element_row L) (element_row_laws L)).twice table _) $ split ! $ nothing ! $ move ! (1 ∷ 0 ∷ []) $ fjoin ! $ use0 𝓛 (‵ (X.own_val x (ξ.val x ∷ []))) (ξ.makes 𝓛 x _ is) $ fjoin ! $ move ! (2 ∷ 0 ∷ []) $
        calls_into 𝓛 (handed_ended L R X) c _ ρ (suc n) room spot fm met requires says (os _) k
