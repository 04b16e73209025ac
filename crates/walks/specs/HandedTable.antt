-- Functions `fn f(x: X, table: &[T]) -> R`, which hand the table on.
--     HandedWalk       what is left to show: the walk of the body, with x and the reference passed. n and m are the entries of their locals' rooms
--     handed_meets     the function then meets its contract, whose `requires` says Φ
use types.Logic.{Logic}
use denote.Slice.{shr_slice_vals}
use Rattle.std.specs.Borrow.{Bor}
use Rattle.std.specs.Prelude.{◌≡◌, ℕ, List, [], ◌∷◌}
use Rattle.walks.specs.ByHand.{full_share, Callee, Ty, Fn, Local, Body, local, value_local, via, mono_r, froom, Routines, Closed, fact, Seq, Go, nth, put, runs, at_ret, RattleType, on_entry, Ura, named, ent, Lft, Share, fat, Model, WpFn, Running, tables, Item, ‵, ◌$◌, ◌∵◌, !, qed, move, drop, fsplit, init, enter, params1, pass1, pass0, Is, shr_slice_Tells, shr_slice_Lawful, Clauses, Triple, entered, needs}
use Rattle.walks.specs.Element.{Element, Of, element_row}
use Rattle.walks.specs.FreedLocals.{Blocks, env, rooms, allocates}
use Rattle.walks.specs.Plain.{Plain}
use Rattle.walks.specs.TableCalls.{handed_ended, table_val, lent}
use Rattle.walks.specs.Walks.{Stated, tokens, passed, starts}
use Rattle.walks.specs.WalkForm.{slice}

abbrev pub handed_locals : Element → Ty → Ty → List Local → List Local
handed_locals L τ σ ls = local τ value_local ∷ local σ value_local ∷ local (slice L) value_local ∷ ls

abbrev pub handed_function : Element → Ty → Ty → List Local → Body → Fn
handed_function L τ σ ls body = record { lifetimes = 1; outlives = []; ty_params = []; givens = 0; params = 2; locals = handed_locals L τ σ ls; body = body }

module _ {M : Type 1} {𝓤 : Ura M} (𝓛 : Logic 𝓤) (𝓜 : Model 𝓤 𝓛.H) (𝓡 : Running 𝓤 𝓛.H 𝓜) (L : Element) {R X : RattleType} (τ : Ty) {σ : Ty} (ξ : Plain X σ) (c : Clauses 𝓤 (handed_ended L R X)) (ls : List Local) (body : Body) (env' : Routines) (Φ : X.Denot → List (Of L) → Type 0) (n m : ℕ) where
  open 𝓛 use {H}

  abbrev locals : List Local
  locals = handed_locals L τ σ ls

  module _ (κ : Lft) (q : Share) (x : X.Denot) (table : Bor (List (Of L))) (g : (c (κ, tt) (x, (table, tt))).ghost) where
    abbrev y : (Stated 𝓛 (handed_ended L R X) c).Ghost
    y = (((κ, tt), (q, tt), tt, (x, (table, tt)), (ξ.val x ∷ [], (table_val L table ∷ [], tt))), g)

    abbrev passed_x : Blocks locals → List (Item 𝓤)
    passed_x bs = put 𝓛 n (‵ (fat full_share σ bs.1.0 0 (ξ.val x))) (rooms 𝓤 H locals bs (tokens 𝓛 (handed_ended L R X) c y ∷ lent L κ table ∷ []))

    abbrev passed_table : Blocks locals → List (Item 𝓤)
    passed_table bs = put 𝓛 m (‵ (fat full_share (slice L) bs.1.1.0 0 (table_val L table))) (passed_x bs)

  abbrev pub HandedWalk : Type 1
  HandedWalk = (κ : Lft) (q : Share) (x : X.Denot) (table : Bor (List (Of L))) (g : (c (κ, tt) (x, (table, tt))).ghost) → Is X x (ξ.val x ∷ []) → Φ x table.now → (bs : Blocks locals)
      → Seq (Go {0}) 𝓛 (passed_table κ q x table g bs) (runs (tables 𝓤 H 𝓜 𝓡 env').C (tables 𝓤 H 𝓜 𝓡 env').Λ (env 𝓤 H locals bs) body (at_ret (env 𝓤 H locals bs) ((Stated 𝓛 (handed_ended L R X) c).post (y κ q x table g))))

  pub handed_meets : {name : Callee} → Closed 𝓤 H (tables 𝓤 H 𝓜 𝓡 env').C (tables 𝓤 H 𝓜 𝓡 env').Λ name (handed_function L τ σ ls body)
      → ((κ : Lft) (x : X.Denot) (table : Bor (List (Of L))) (g : (c (κ, tt) (x, (table, tt))).ghost) → ent 𝓤 ((c (κ, tt) (x, (table, tt))).requires g) (fact 𝓤 (Φ x table.now)))
      → ((bs : Blocks locals) (Γ : List (Item 𝓤)) → nth 𝓛 n (rooms 𝓤 H locals bs Γ) ≡ ‵ (froom σ bs.1.0 0))
      → ((bs : Blocks locals) (Γ : List (Item 𝓤)) (i : Item 𝓤) → nth 𝓛 m (put 𝓛 n i (rooms 𝓤 H locals bs Γ)) ≡ ‵ (froom (slice L) bs.1.1.0 0))
      → HandedWalk → Triple 𝓤 (𝓡.run (env' name)) (Stated 𝓛 (handed_ended L R X) c)
  handed_meets {name} unfolded requires first second walk =
      entered 𝓤 H (Stated 𝓛 (handed_ended L R X) c) (tables 𝓤 H 𝓜 𝓡 env').C (tables 𝓤 H 𝓜 𝓡 env').Λ name (handed_function L τ σ ls body) unfolded (λ z.
      via 𝓤 _ (mono_r 𝓤 (on_entry 𝓛 (handed_ended L R X).signature z.0.0 z.0.1 z.0.3 z.0.4) (requires z.0.0.0 z.0.3.0 z.0.3.1.0 z.1)) (needs 𝓤 _ _ (λ asks.
      starts 𝓛 (handed_ended L R X) c z ((λ x. ξ.val x ∷ []), (shr_slice_vals, tt)) (ξ.tells, (shr_slice_Tells (named 0) z.0.0.0 (element_row L), tt)) (WpFn 𝓤 H (tables 𝓤 H 𝓜 𝓡 env').C (tables 𝓤 H 𝓜 𝓡 env').Λ (handed_function L τ σ ls body)) (λ are.
      qed 𝓛 (tokens 𝓛 (handed_ended L R X) c (y z.0.0.0 z.0.1.0 z.0.3.0 z.0.3.1.0 z.1) ∷ passed 𝓛 (handed_ended L R X) c (y z.0.0.0 z.0.1.0 z.0.3.0 z.0.3.1.0 z.1) ∷ []) ∵ move ! (1 ∷ []) $ fsplit ! $ drop ! $ fsplit ! $ move ! (2 ∷ 0 ∷ []) $ move ! (2 ∷ []) $ drop ! $
      enter ! _ _ _ _ _ $ allocates ! (λ bs. params1 ! $ pass1 ! (init ! n (first bs _) (ξ.typed 𝓛 z.0.3.0 _ are.0)) $
      pass1 ! (init ! m (second bs _ _) ((shr_slice_Lawful 𝓛 (named 0) z.0.0.0 (element_row L)).typed z.0.3.1.0 _ are.1.0).0) $ pass0 ! $
      walk z.0.0.0 z.0.1.0 z.0.3.0 z.0.3.1.0 z.1 are.0 asks bs)))))
