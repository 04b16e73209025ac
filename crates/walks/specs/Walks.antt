-- What the walks by hand share: how one starts, calls and ends. Each step is at a contract, and at what the contract binds, y: the lifetimes, their
-- tokens' shares, the arguments and their machine values.
--     starts           a walk may start at the arguments' machine values written out
--     calls_leaving    a call of a function that meets its contract, which says φ of the result and of the last values.        calls_for    which says φ of the result
--     ends             a walk ends at a result of which the contract holds, where no parameter holds a `&mut`
-- and, for any code:
--     walks_at         a place is walked from a spot that is written out
--     cell             a local's value, from entry n of the context, which is its cell
use Rattle.std.specs.Prelude.{◌≡◌, ℕ, List, [], ◌∷◌}
use Rattle.std.proofs.Common.{sym, subst}
use Rattle.walks.specs.ByHand.{Ura, Callee, Place, PStep, Operand, Body, place, copy, seq, call, Val, ent, sep, emp, id⊢, Share, fat, Env, Spot, Calls, Loops, spot_of, sem, Fun, fact, Item, Post, Seq, ‵, nth, raw, ◌⊛◌, ⋆, some, later, runs, lands, ◌$◌, ◌∵◌, !, qed, move, drop as let_go, use0, use1, split, join, pick, show, frame, await, updating, at_once, done, Walks, Opd, Opds, look, stop, from, load, FmC, RattleType, flat, owns, Is, Are, Ises, Spells, Tellss, valss, shows, type_at, types_at, said, heard, peeks, calls_at, Ended, Clauses, ClausesAt, Lasts, AtExit, at_exit, ensured, lasts, closing, alive, on_entry, Back, triple_of, Contract, Triple}
use types.Logic.{Logic, sem}

module _ {M : Type 1} {𝓤 : Ura M} (𝓛 : Logic 𝓤) (T : Ended) (c : Clauses 𝓤 T) where
  open 𝓛 use {H}

  abbrev pub Stated : Contract 𝓤
  Stated = triple_of 𝓛 T.signature (closing 𝓛 T c)

  module _ (y : Stated.Ghost) where
    abbrev Types : List RattleType
    Types = types_at T.signature.params y.0.0

    abbrev Result : RattleType
    Result = type_at T.signature.result y.0.0

    abbrev At : ClausesAt 𝓤 T y.0.0
    At = c y.0.0 y.0.3

    abbrev pub tokens : Item 𝓤
    tokens = raw (alive 𝓛 T.signature y.0.0 y.0.1)

    abbrev pub passed : Item 𝓤
    passed = ‵ (owns Types y.0.3 y.0.4)

    -- from entry to exit of the code that runs as `run`
    abbrev pub Walk : Fun 𝓤 → Type 1
    Walk run = ent 𝓤 (on_entry 𝓛 T.signature y.0.0 y.0.1 y.0.3 y.0.4) (run (Stated.args y) (Stated.post y))

    -- `none`: nothing is said of last values
    pub ends : (v : Val) (r : Result.Denot) (ws : Lasts T y.0.0 y.0.3) (none : ent 𝓤 (emp 𝓤) (sem 𝓛 (lasts T y.0.0 y.0.3 ws)))
        (ensures : ent 𝓤 (emp 𝓤) (At.ensures y.1 r (at_exit T y.0.0 y.0.3 ws))) → ent 𝓤 (⋆ 𝓛 (‵ (Result.own_val r (v ∷ [])) ∷ tokens ∷ [])) (Stated.post y v)
    ends v r ws none ensures =
        qed 𝓛 (‵ (Result.own_val r (v ∷ [])) ∷ tokens ∷ []) ∵ updating ! $ at_once ! $
        show ! (λ (x : Result.Denot). sep 𝓤 (Back 𝓛 T.signature y.0 v x) (ensured 𝓛 T c y.0.0 y.0.3 y.1 x)) r $
        move ! (1 ∷ 0 ∷ []) $ join ! $ frame ! $
        show ! (λ (us : Lasts T y.0.0 y.0.3). sep 𝓤 (sem 𝓛 (lasts T y.0.0 y.0.3 us)) (At.ensures y.1 r (at_exit T y.0.0 y.0.3 us))) ws $
        use0 𝓛 (raw (At.ensures y.1 r (at_exit T y.0.0 y.0.3 ws))) ensures $ use0 𝓛 (‵ (lasts T y.0.0 y.0.3 ws)) none $ frame ! $ done !

    module _ {K : Type 0} {Γ : List (Item 𝓤)} {E : Env 𝓤 H} {C : Calls 𝓤 H} {f : Callee} {xs : List Operand} {Λ : Loops 𝓤 H} {q : Post 𝓤 H} {d : Place} {rest : Body} where
      pub calls_leaving : K → FmC 𝓤 H 𝓛.laws C → (met : Triple 𝓤 (C f) Stated) (requires : ent 𝓤 (emp 𝓤) (At.requires y.1))
          → (φ : Result.Denot → Lasts T y.0.0 y.0.3 → Type 0) → ((r : Result.Denot) (ws : Lasts T y.0.0 y.0.3) → ent 𝓤 (At.ensures y.1 r (at_exit T y.0.0 y.0.3 ws)) (fact 𝓤 (φ r ws)))
          → Opds K 𝓛 (raw (Stated.pre y) ∷ Γ) E xs (Stated.args y)
          → ((v : Val) (r : Result.Denot) (ws : Lasts T y.0.0 y.0.3) → φ r ws → Is Result r (v ∷ []) → Seq K 𝓛 (‵ (Result.own_val r (v ∷ [])) ∷ tokens ∷ ‵ (lasts T y.0.0 y.0.3 ws) ∷ Γ) (lands C Λ E d v rest q))
          → Seq K 𝓛 (tokens ∷ passed ∷ Γ) (runs C Λ E (seq (call f xs d) rest) q)
      calls_leaving t fm met requires φ says os k =
          join t $ use0 𝓛 (raw (At.requires y.1)) requires $ move t (1 ∷ 0 ∷ []) $ join t $ use1 𝓛 (raw (Stated.pre y)) (id⊢ 𝓤 _) $ calls_at t fm Stated met y os (λ v.
          use1 𝓛 (later (some (λ (r : Result.Denot). (tokens ⊛ ‵ (Result.own_val r (v ∷ []))) ⊛ some (λ (ws : Lasts T y.0.0 y.0.3). ‵ (lasts T y.0.0 y.0.3 ws) ⊛ raw (At.ensures y.1 r (at_exit T y.0.0 y.0.3 ws)))))) (id⊢ 𝓤 _) $ await t tt $ pick t (λ r. split t $
          move t (1 ∷ []) $ pick t (λ ws. split t $ move t (1 ∷ []) $ use1 𝓛 (raw (fact 𝓤 (φ r ws))) (says r ws) $ heard t (φ r ws) (λ holds. move t (1 ∷ []) $ split t $
          move t (1 ∷ []) $ peeks t Result (Is Result) (shows 𝓛 Result) r (v ∷ []) (λ is. k v r ws holds is)))))

      -- the same, where nothing need be had of the last values
      pub calls_for : K → FmC 𝓤 H 𝓛.laws C → (met : Triple 𝓤 (C f) Stated) (requires : ent 𝓤 (emp 𝓤) (At.requires y.1))
          → (φ : Result.Denot → Type 0) → ((r : Result.Denot) (e : AtExit T y.0.0) → ent 𝓤 (At.ensures y.1 r e) (fact 𝓤 (φ r)))
          → Opds K 𝓛 (raw (Stated.pre y) ∷ Γ) E xs (Stated.args y)
          → ((v : Val) (r : Result.Denot) → φ r → Is Result r (v ∷ []) → Seq K 𝓛 (‵ (Result.own_val r (v ∷ [])) ∷ tokens ∷ Γ) (lands C Λ E d v rest q))
          → Seq K 𝓛 (tokens ∷ passed ∷ Γ) (runs C Λ E (seq (call f xs d) rest) q)
      calls_for t fm met requires φ says os k = calls_leaving t fm met requires (λ r ws. φ r) (λ r ws. says r (at_exit T y.0.0 y.0.3 ws)) os (λ v r ws holds is. move t (2 ∷ []) $ let_go t $ k v r holds is)

  module _ (y : Stated.Ghost) (sp : Spells (Types y)) where
    abbrev spelt : Stated.Ghost
    spelt = ((y.0.0, y.0.1, y.0.2, y.0.3, valss (Types y) sp y.0.3), y.1)

    pub starts : Tellss (Types y) (Ises (Types y)) sp → (run : Fun 𝓤) → (Are (Types y) (Ises (Types y)) y.0.3 spelt.0.4 → Walk spelt run) → Walk y run
    starts tl run = said 𝓛 T.signature y.0.0 y.0.1 sp tl y.0.3 (λ us. run (flat (Types y) us) (Stated.post ((y.0.0, y.0.1, y.0.2, y.0.3, us), y.1))) y.0.4

module _ {M : Type 1} {𝓤 : Ura M} {𝓛 : Logic 𝓤} {K : Type 0} {Γ : List (Item 𝓤)} {E : Env 𝓤 𝓛.H} where
  open 𝓛 use {H}

  pub walks_at : {sp sp₁ sp₂ : Spot 𝓤 H} {st : List PStep} → sp ≡ sp₁ → Walks K 𝓛 Γ E sp₁ st sp₂ → Walks K 𝓛 Γ E sp st sp₂
  walks_at {sp} {sp₁} {sp₂} {st} e w = subst (λ (x : Spot 𝓤 H). Walks K 𝓛 Γ E x st sp₂) (sym e) w

  pub cell : K → (n : ℕ) {i : ℕ} {q : Share} {v : Val} → nth 𝓛 n Γ ≡ ‵ (fat q (spot_of 𝓤 H E i).0 (spot_of 𝓤 H E i).1 0 v) → Opd K 𝓛 Γ E (copy (place i [])) v
  cell t n e = load t (from t (stop t)) (look t n e)
