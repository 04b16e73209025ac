-- Calls whose result, plain data, goes to a local that holds nothing yet.
--     calls_into       a call as of `calls_for`: n is the entry of the local's room
--     calls_plain      a call of a function to which plain data is passed only: `made` has what the `held` values own
--     ends_plain       a walk ends at a result that is plain data
-- Assumes `Logic`.
use Rattle.std.specs.Prelude.{◌≡◌, ℕ, suc, List, [], ◌∷◌}
use Rattle.std.proofs.Common.{sym, ap, subst}
use Rattle.walks.specs.ByHand.{Ura, full_share, Callee, Ty, Operand, Body, place, seq, call, Val, ent, emp, fat, froom, Env, Calls, Loops, spot_of, sem, FmC, fact, Item, Post, Seq, Go, ‵, nth, put, raw, mean, runs, lands, ◌$◌, ◌∵◌, !, qed, by, keep, drop as let_go, use0, fjoin, prop, done, Opds, init, stop, from, land, Is, RattleType, Denots, Valss, owns, type_at, nothing, only, Ended, Clauses, Lasts, AtExit, at_exit, lasts, Triple}
use Rattle.walks.specs.Plain.{Plain}
use Rattle.walks.specs.Walks.{Stated, tokens, passed, calls_for, ends, walks_at}
use types.Logic.{Logic, sem}

-- plain data that is passed
pub record Value : Type 2 where
  pub type : RattleType
  pub τ : Ty
  pub plain : Plain type τ
  pub value : type.Denot
  pub is : Is type value (plain.val value ∷ [])

abbrev pub held : {X : RattleType} {τ : Ty} (ρ : Plain X τ) (x : X.Denot) → Is X x (ρ.val x ∷ []) → Value
held {X} {τ} ρ x is = record { type = X; τ = τ; plain = ρ; value = x; is = is }

abbrev types_of : List Value → List RattleType
types_of [] = []
types_of (a ∷ zs) = a.type ∷ types_of zs

abbrev values : (zs : List Value) → Denots (types_of zs)
values [] = tt
values (a ∷ zs) = (a.value, values zs)

abbrev vals : (zs : List Value) → Valss (types_of zs)
vals [] = tt
vals (a ∷ zs) = (a.plain.val a.value ∷ [], vals zs)

module _ {M : Type 1} {𝓤 : Ura M} (𝓛 : Logic 𝓤) where
  open 𝓛 use {H}

  pub made : (zs : List Value) → ent 𝓤 (emp 𝓤) (sem 𝓛 (owns (types_of zs) (values zs) (vals zs)))
  made [] = qed 𝓛 [] ∵ nothing ! $ done !
  made (a ∷ zs) = qed 𝓛 [] ∵ use0 𝓛 (‵ (owns (types_of zs) (values zs) (vals zs))) (made zs) $ use0 𝓛 (‵ (a.type.own_val a.value (a.plain.val a.value ∷ []))) (a.plain.makes 𝓛 a.value _ a.is) $ fjoin ! $ done !

  module _ (T : Ended) (c : Clauses 𝓤 T) (y : (Stated 𝓛 T c).Ghost) {τ : Ty} (ρ : Plain (type_at T.signature.result y.0.0) τ) where
    abbrev Result : RattleType
    Result = type_at T.signature.result y.0.0

    abbrev kept : (r : Result.Denot) (v : Val) → Is Result r (v ∷ []) → Is Result r (ρ.val r ∷ [])
    kept r v is = subst (Is Result r) (ρ.tells r _ is) is

    module _ {Γ : List (Item 𝓤)} {E : Env 𝓤 H} {C : Calls 𝓤 H} {f : Callee} {xs : List Operand} {Λ : Loops 𝓤 H} {q : Post 𝓤 H} {i l : ℕ} {rest : Body} where
      pub calls_into : (n : ℕ) → nth 𝓛 n Γ ≡ ‵ (froom τ l 0) → spot_of 𝓤 H E i ≡ (τ, l, 0) → FmC 𝓤 H 𝓛.laws C → Triple 𝓤 (C f) (Stated 𝓛 T c) → ent 𝓤 (emp 𝓤) ((c y.0.0 y.0.3).requires y.1)
          → {φ : Result.Denot → Type 0} → ((r : Result.Denot) (e : AtExit T y.0.0) → ent 𝓤 ((c y.0.0 y.0.3).ensures y.1 r e) (fact 𝓤 (φ r)))
          → Opds (Go {0}) 𝓛 (raw ((Stated 𝓛 T c).pre y) ∷ Γ) E xs ((Stated 𝓛 T c).args y)
          → ((r : Result.Denot) → φ r → Is Result r (ρ.val r ∷ []) → Seq (Go {0}) 𝓛 (tokens 𝓛 T c y ∷ put 𝓛 n (‵ (fat full_share τ l 0 (ρ.val r))) Γ) (runs C Λ E rest q))
          → Seq (Go {0}) 𝓛 (tokens 𝓛 T c y ∷ passed 𝓛 T c y ∷ Γ) (runs C Λ E (seq (call f xs (place i [])) rest) q)
      calls_into n room spot fm met requires {φ} says os k = calls_for 𝓛 T c y ! fm met requires φ says os (λ v r holds is.
          subst (λ (u : Val). Seq (Go {0}) 𝓛 (‵ (Result.own_val r (u ∷ [])) ∷ tokens 𝓛 T c y ∷ Γ) (lands C Λ E (place i []) u rest q)) (sym (ap only (ρ.tells r _ is)))
          (land ! (from ! (walks_at spot (stop !))) (init ! (suc (suc n)) room (ρ.typed 𝓛 r (ρ.val r) (kept r v is))) $ let_go ! $ k r holds (kept r v is)))

      pub calls_plain : ent 𝓤 (emp 𝓤) (mean 𝓛 (tokens 𝓛 T c y)) → ent 𝓤 (emp 𝓤) (mean 𝓛 (passed 𝓛 T c y))
          → (n : ℕ) → nth 𝓛 n Γ ≡ ‵ (froom τ l 0) → spot_of 𝓤 H E i ≡ (τ, l, 0) → FmC 𝓤 H 𝓛.laws C → Triple 𝓤 (C f) (Stated 𝓛 T c) → ent 𝓤 (emp 𝓤) ((c y.0.0 y.0.3).requires y.1)
          → {φ : Result.Denot → Type 0} → ((r : Result.Denot) (e : AtExit T y.0.0) → ent 𝓤 ((c y.0.0 y.0.3).ensures y.1 r e) (fact 𝓤 (φ r)))
          → Opds (Go {0}) 𝓛 (raw ((Stated 𝓛 T c).pre y) ∷ Γ) E xs ((Stated 𝓛 T c).args y)
          → ((r : Result.Denot) → φ r → Is Result r (ρ.val r ∷ []) → Seq (Go {0}) 𝓛 (put 𝓛 n (‵ (fat full_share τ l 0 (ρ.val r))) Γ) (runs C Λ E rest q))
          → Seq (Go {0}) 𝓛 Γ (runs C Λ E (seq (call f xs (place i [])) rest) q)
      calls_plain alive own n room spot fm met requires says os k =
          use0 𝓛 (passed 𝓛 T c y) own $ use0 𝓛 (tokens 𝓛 T c y) alive $ calls_into n room spot fm met requires says os (λ r holds is. let_go ! $ k r holds is)

    pub ends_plain : {Γ : List (Item 𝓤)} (r : Result.Denot) → Is Result r (ρ.val r ∷ []) → (ws : Lasts T y.0.0 y.0.3) (none : ent 𝓤 (emp 𝓤) (sem 𝓛 (lasts T y.0.0 y.0.3 ws)))
        → ent 𝓤 (emp 𝓤) ((c y.0.0 y.0.3).ensures y.1 r (at_exit T y.0.0 y.0.3 ws)) → Seq (Go {0}) 𝓛 (tokens 𝓛 T c y ∷ Γ) (prop ((Stated 𝓛 T c).post y (ρ.val r)))
    ends_plain r is ws none ensures = keep ! (0 ∷ []) $ use0 𝓛 (‵ (Result.own_val r (ρ.val r ∷ []))) (ρ.makes 𝓛 r _ is) $ by ! (ends 𝓛 T c y (ρ.val r) r ws none ensures)
