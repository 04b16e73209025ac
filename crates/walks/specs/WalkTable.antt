-- A walk over a lent table, of the form that `WalkForm` writes out.
--     meets            a function of this form meets its contract, if its step meets its own
use types.Logic.{Logic, sem}
use denote.Slice.{shr_slice_vals}
use Rattle.std.specs.Borrow.{Bor}
use Rattle.std.specs.Prelude.{◌≡◌, Bool, true, false, not, ℕ, ◌+◌, ◌-◌, ◌*◌, ◌<◌, ◌≤◌, ◌^◌, T, length}
use Rattle.std.proofs.Math.Path.{refl, subst}
use Rattle.std.proofs.Common.{sym, ◌∙◌, ap, add-one, arith, nltb→le, lit<, drop-cons}
use mathlib.Core.WellFounded.InvImage
use mathlib.Core.WellFounded.{WellFounded}
use Rattle.std.proofs.Math.Nat as N
use mathlib.Core.List.{List, [], ◌∷◌}
use Rattle.std.proofs.Math.Dec.{ltb→lt}
use Rattle.std.proofs.Math.ListN.{get_or, drop}
use Rattle.std.proofs.Math.Seq.{drop-length}
use lib.WfN.{lt-wf_rel}
use Rattle.walks.specs.ByHand.{Ura, full_share, Callee, Operand, Ty, Body, RValue, named, w64, ty_bool, ty_ptr, place, copy, skip, seq, cond, exit, call, Val, vbool, vint, ent, emp, id⊢, Lft, Share, fat, froom, fdies, flft, ftrue, Model, Routines, Closed, Env, Calls, Loops, WpFn, Tables, exits, after_seq, after_block, after_turn, Wp, at_return, sem, FmC, Fun, fact_i, Running, tables, tables_of, Item, Post, Seq, Go, ‵, ◌⊛◌, runs, lands, prop, post, at_ret, any_q, ◌$◌, ◌∵◌, !, qed, by, move, keep, drop as let_go, use0, use1, split, join, fsplit, fjoin, frame, done, whole, sub, look_in, Opd, look, init, store, forget, stop, fld, from, load, lit, of_opd, bin, and_then, no_more, assigns, assigns_last, land, first, blocks, branches, skips, jumps, exec, loops, again, Below, returns, enter, alloc1, alloc0, params1, pass1, pass0, free0, yes, left, Is, RattleType, slice_val, ShrSlice, shr_slice_Tells, shr_slice_Lawful, nothing, Clauses, Ended, lasts, Triple, entered, framed}
use Rattle.walks.specs.Element.{Element, Of, element_row, mir_of, element_bytes, value_of, borrowed, copies_element}
use Rattle.walks.specs.FreedLocals.{frees_cell, frees_room}
use Rattle.walks.specs.Walks.{Stated, tokens, passed, Walk, starts, calls_for, ends, cell}
use Rattle.walks.specs.WalkForm.{word_ty, slice, operands, turn, rest, function, clause_in, clause_out, step_ended, walk_ended, pass, Says, step_clauses, walk_clauses, Facts, Extra, First}

-- the test of a `while`: it holds and the turn goes on, or it fails and the `exit` is taken
module _ {M : Type 1} {𝓤 : Ura M} {𝓛 : Logic 𝓤} {K : Type 0} {Γ : List (Item 𝓤)} {E : Env 𝓤 𝓛.H} {C : Calls 𝓤 𝓛.H} {Λ : Loops 𝓤 𝓛.H} {q : Post 𝓤 𝓛.H} where
  open 𝓛 use {H}

  pub tests : K → {t : Operand} {n : ℕ} {b : Body} {y : Bool} → Opd K 𝓛 Γ E t (vbool y) → (T y → Seq K 𝓛 Γ (runs C Λ E b q)) → (T (not y) → Seq K 𝓛 Γ (prop (post 𝓤 H q (exits n))))
      → Seq K 𝓛 Γ (runs C Λ E (seq (cond t skip (exit n)) b) q)
  tests k o held failed = first k $ branches k o (λ h. skips k $ record { prf = (held h).prf }) (λ h. jumps k $ record { prf = (failed h).prf })

-- the call of a step, with x or without
module _ {M : Type 1} {𝓤 : Ura M} (𝓛 : Logic 𝓤) {C : Calls 𝓤 𝓛.H} {Λ : Loops 𝓤 𝓛.H} (fm : FmC 𝓤 𝓛.H 𝓛.laws C) (L : Element) (R X : RattleType) (r : R.Denot) (w : Val) (m : Of L) (x : X.Denot) (u : Val)
    {Γ : List (Item 𝓤)} {E : Env 𝓤 𝓛.H} {q : Post 𝓤 𝓛.H} {rest : Body} {f : Callee} where
  calls_step : (p t : Bool) (S : Says L R X p t) → Triple 𝓤 (C f) (Stated 𝓛 (step_ended L R X p) (step_clauses L R X p t S 𝓤)) → S.asks r m (pass L R X p x)
      → ((i : Item 𝓤) → Opd (Go {0}) 𝓛 (i ∷ Γ) E (copy (place 3 [])) w) → ((i : Item 𝓤) → Opd (Go {0}) 𝓛 (i ∷ Γ) E (copy (place 8 [])) (value_of L m)) → ((i : Item 𝓤) → Opd (Go {0}) 𝓛 (i ∷ Γ) E (copy (place 2 [])) u)
      → ((w' : Val) (r' : R.Denot) → S.gives r m (pass L R X p x) r' → Is R r' (w' ∷ []) → Seq (Go {0}) 𝓛 (‵ (R.own_val r' (w' ∷ [])) ∷ Γ) (lands C Λ E (place 3 []) w' rest q))
      → Seq (Go {0}) 𝓛 (‵ (R.own_val r (w ∷ [])) ∷ ‵ ((element_row L).own_val m (value_of L m ∷ [])) ∷ ‵ (X.own_val x (u ∷ [])) ∷ Γ) (runs C Λ E (seq (call f (operands p) (place 3 [])) rest) q)
  calls_step true t S met asks or om ox k =
      let to : (Stated 𝓛 (step_ended L R X true) (step_clauses L R X true t S 𝓤)).Ghost = ((tt, tt, tt, (r, (m, (x, tt))), (w ∷ [], (value_of L m ∷ [], (u ∷ [], tt)))), tt) in
      nothing ! $ move ! (3 ∷ 0 ∷ []) $ fjoin ! $ move ! (2 ∷ 0 ∷ []) $ fjoin ! $ move ! (1 ∷ 0 ∷ []) $ fjoin ! $
      use0 𝓛 (tokens 𝓛 (step_ended L R X true) (step_clauses L R X true t S 𝓤) to) (id⊢ 𝓤 _) $
      calls_for 𝓛 (step_ended L R X true) (step_clauses L R X true t S 𝓤) to ! fm met (clause_in t 𝓤 _ asks) (S.gives r m x) (λ r e. id⊢ 𝓤 _)
      (and_then ! (or _) (and_then ! (om _) (and_then ! (ox _) (no_more !))))
      (λ w' r' gave is. move ! (1 ∷ []) $ let_go ! $ k w' r' gave is)
  calls_step false t S met asks or om ox k =
      let to : (Stated 𝓛 (step_ended L R X false) (step_clauses L R X false t S 𝓤)).Ghost = ((tt, tt, tt, (r, (m, tt)), (w ∷ [], (value_of L m ∷ [], tt))), tt) in
      move ! (2 ∷ []) $ let_go ! $ nothing ! $ move ! (2 ∷ 0 ∷ []) $ fjoin ! $ move ! (1 ∷ 0 ∷ []) $ fjoin ! $
      use0 𝓛 (tokens 𝓛 (step_ended L R X false) (step_clauses L R X false t S 𝓤) to) (id⊢ 𝓤 _) $
      calls_for 𝓛 (step_ended L R X false) (step_clauses L R X false t S 𝓤) to ! fm met (clause_in t 𝓤 _ asks) (S.gives r m tt) (λ r e. id⊢ 𝓤 _)
      (and_then ! (or _) (and_then ! (om _) (no_more !)))
      (λ w' r' gave is. move ! (1 ∷ []) $ let_go ! $ k w' r' gave is)

pub byte_fits : (s n k : ℕ) → k < n → n * s < 2 ^ 63 → k * s < 2 ^ 64
byte_fits s n k h g = let m = N.mul-le-mul_right s (N.le_of_lt h) in omega arith

pub next_fits : (n k : ℕ) → k < n → n < 2 ^ 64 → k + 1 < 2 ^ 64
next_fits n k h g = omega arith

pub nearer : (n k : ℕ) → k < n → n - (k + 1) < n - k
nearer n k h = omega arith

pub ended : (n k : ℕ) → k ≤ n → n ≤ k → k ≡ n
ended n k h g = omega arith

pub next_element : {T : Type 0} (blank : T) (ms : List T) (k : ℕ) → k < length ms → drop k ms ≡ get_or ms k blank ∷ drop (k + 1) ms
next_element blank ms k h = drop-cons ms k blank h ∙ ap (λ (j : ℕ). get_or ms k blank ∷ drop j ms) (sym (add-one k))

pub nothing_in : (n : ℕ) → 0 ≤ n
nothing_in n = omega arith

pub next_in_lem : (n k : ℕ) → k < n → k + 1 ≤ n
next_in_lem n k h = omega arith

module _ {M : Type 1} {𝓤 : Ura M} (𝓛 : Logic 𝓤) (𝓣 : Tables 𝓤 𝓛.H) (fm : FmC 𝓤 𝓛.H 𝓛.laws 𝓣.C) (L : Element) (R X : RattleType) (τ σ : Ty) (rv : RValue) (ρ : Extra R τ) (ξ : Extra X σ) (F : First R X ξ.plain.val rv)
    (p t : Bool) (S : Says L R X p t) (facts : Facts L R X p t S F.start) (f : Callee) (met : Triple 𝓤 (𝓣.C f) (Stated 𝓛 (step_ended L R X p) (step_clauses L R X p t S 𝓤))) where
  open 𝓛 use {H}

  abbrev T' : Ended
  T' = walk_ended L R X

  abbrev c : Clauses 𝓤 T'
  c = walk_clauses L R X p t S 𝓤

  abbrev Run : Fun 𝓤
  Run = WpFn 𝓤 H 𝓣.C 𝓣.Λ (function L τ σ rv p f)

  module _ (κ : Lft) (q : Share) (members : Bor (List (Of L))) (x : X.Denot) where
    abbrev ms : List (Of L)
    ms = members.now

    abbrev b : ℕ
    b = members.ref_ptr.0

    abbrev o : ℕ
    o = members.ref_ptr.1

    abbrev v : Val
    v = slice_val members.ref_ptr (length ms)

    abbrev u : Val
    u = ξ.plain.val x

    abbrev y : (Stated 𝓛 T' c).Ghost
    y = (((κ, tt), (q, tt), tt, (members, (x, tt)), (v ∷ [], (u ∷ [], tt))), tt)

    -- where a walk stands: at k, with the running value r
    pub record State : Type 0 where
      pub k : ℕ
      pub r : R.Denot
      pub w : Val
      pub is : Is R r (w ∷ [])
      pub within : k ≤ length ms
      pub inv : facts.Inv ms x (drop k ms) r

    abbrev ≺ : State → State → Type 0
    ≺ s t = length ms - s.k < length ms - t.k

    wf : WellFounded ≺
    wf = InvImage.wf {r = ◌<◌} (λ (s : State). length ms - s.k) lt-wf_rel.wf

    unsaid : ent 𝓤 (emp 𝓤) (sem 𝓛 (lasts T' (κ, tt) (members, (x, tt)) (tt, (ξ.last x, tt))))
    unsaid = qed 𝓛 [] ∵ nothing ! $ frame ! $ nothing ! $ use0 𝓛 (‵ (left (X.exit yes) x (ξ.last x))) (ξ.silent 𝓛 x) $ frame ! $ done !

    module _ (g : length ms < 2 ^ 64) (gb : length ms * element_bytes L < 2 ^ 63) (l₀ l₁ l₂ l₃ l₄ l₅ l₆ l₇ l₈ : ℕ) where
      abbrev En : Env 𝓤 H
      En = (τ, l₀) ∷ (slice L, l₁) ∷ (σ, l₂) ∷ (τ, l₃) ∷ (word_ty, l₄) ∷ (word_ty, l₅) ∷ (ty_bool, l₆) ∷ (ty_ptr, l₇) ∷ ((mir_of L), l₈) ∷ []

      abbrev At : State → List (Item 𝓤)
      At s = ‵ (R.own_val s.r (s.w ∷ [])) ∷ ‵ (borrowed L κ ms b o) ∷ ‵ (flft κ q) ∷ ‵ (X.own_val x (u ∷ []))
          ∷ ‵ (fat full_share τ l₃ 0 s.w) ∷ ‵ (fat full_share word_ty l₄ 0 (vint w64 s.k)) ∷ ‵ (froom word_ty l₅ 0) ∷ ‵ (froom ty_bool l₆ 0) ∷ ‵ (froom ty_ptr l₇ 0) ∷ ‵ (froom (mir_of L) l₈ 0)
          ∷ ‵ (fat full_share (slice L) l₁ 0 v) ∷ ‵ (fat full_share σ l₂ 0 u) ∷ ‵ (froom τ l₀ 0)
          ∷ ‵ (fdies τ l₀) ∷ ‵ (fdies (slice L) l₁) ∷ ‵ (fdies σ l₂) ∷ ‵ (fdies τ l₃) ∷ ‵ (fdies word_ty l₄) ∷ ‵ (fdies word_ty l₅) ∷ ‵ (fdies ty_bool l₆) ∷ ‵ (fdies ty_ptr l₇) ∷ ‵ (fdies (mir_of L) l₈) ∷ ‵ ftrue ∷ []

      turns : (s : State) → Seq (Go {0}) 𝓛 (At s) (runs 𝓣.C 𝓣.Λ En (turn L p f)
          (any_q (after_turn 𝓤 H (Below 𝓛 ≺ At s) (after_block 𝓤 H (after_seq 𝓤 H (Wp 𝓤 H 𝓣.C 𝓣.Λ En rest (at_return 𝓤 H En ((Stated 𝓛 T' c).post y))) (at_return 𝓤 H En ((Stated 𝓛 T' c).post y)))))))
      unfolding after_turn
      turns s =
          assigns ! (of_opd ! (load ! (from ! (fld ! refl (stop !))) (look_in ! 10 (sub ! 1 refl (whole !))))) (from ! (stop !)) (init ! 6 refl (tt, record { fits = g })) $
          assigns ! (bin ! (cell ! 5 refl) (cell ! 6 refl) tt) (from ! (stop !)) (init ! 7 refl (tt, tt)) $
          tests ! (cell ! 7 refl) (λ yes.
          let inside = ltb→lt s.k (length ms) yes in
          let small = byte_fits (element_bytes L) (length ms) s.k inside gb in
          let next = next_fits (length ms) s.k inside g in
          let m = get_or ms s.k L.blank in
          let to_come = drop (s.k + 1) ms in
          let inv = subst (λ (l : List (Of L)). facts.Inv ms x l s.r) (next_element L.blank ms s.k inside) s.inv in
          -- [what the running value owns; the borrow; the token; what x owns; _3; _4; _5; _6; _7; _8; _1; _2; _0; …]
          assigns ! (bin ! (cell ! 5 refl) (lit ! L.sized) (record { fits = small })) (from ! (stop !)) (store ! 6 refl (tt, record { fits = small })) $
          assigns ! (bin ! (load ! (from ! (fld ! refl (stop !))) (look_in ! 10 (sub ! 0 refl (whole !)))) (cell ! 6 refl) tt) (from ! (stop !)) (init ! 8 refl (tt, tt)) $
          move ! (1 ∷ 2 ∷ []) $ copies_element ! L 6 7 ms s.k b o inside refl refl refl refl $
          -- [the token; what the element owns; the borrow; what the running value owns; what x owns; _3; _4; _5; _6; _7; _8; _1; _2; _0; …]: what the step is passed
          move ! (4 ∷ []) $ use1 𝓛 (‵ (X.own_val x (u ∷ [])) ⊛ ‵ (X.own_val x (u ∷ []))) ((ξ.copies 𝓛).twice x _) $ split ! $ move ! (5 ∷ 3 ∷ 0 ∷ []) $
          calls_step 𝓛 fm L R X s.r s.w m x u p t S met (facts.asked ms x m to_come s.r inv)
          (λ i. cell ! 4 refl) (λ i. cell ! 9 refl) (λ i. cell ! 11 refl) (λ w r gave is.
          -- [what the new value owns; what x owns; the token; the borrow; _3; _4; _5; _6; _7; _8; _1; _2; _0; …]
          land ! (from ! (stop !)) (store ! 4 refl (ρ.plain.typed 𝓛 r w is)) $
          assigns_last ! (bin ! (cell ! 5 refl) (lit ! tt) (record { fits = next })) (from ! (stop !)) (store ! 5 refl (tt, record { fits = next })) $
          forget ! 6 refl $ forget ! 7 refl $ forget ! 8 refl $ forget ! 9 refl $ move ! (0 ∷ 3 ∷ 2 ∷ 1 ∷ []) $
          again ! ≺ At s (record { k = s.k + 1; r = r; w = w; is = is; within = next_in_lem (length ms) s.k inside; inv = facts.more ms x m to_come s.r inv r gave }) (nearer (length ms) s.k inside)))
          (λ no. exec ! 𝓣.C 𝓣.Λ En rest (at_ret En ((Stated 𝓛 T' c).post y)) $
          let done = ended (length ms) s.k s.within (nltb→le s.k (length ms) no) in
          assigns ! (of_opd ! (cell ! 4 refl)) (from ! (stop !)) (init ! 12 refl (ρ.plain.typed 𝓛 s.r s.w s.is)) $
          returns ! (look ! 12 refl) $ frees_cell ! 12 12 refl refl $ frees_cell ! 10 11 refl refl $ frees_cell ! 10 10 refl refl $ frees_cell ! 4 9 refl refl $
          frees_cell ! 4 8 refl refl $
          frees_cell ! 4 7 refl refl $ frees_cell ! 4 6 refl refl $ frees_room ! 4 5 refl refl $ frees_room ! 4 4 refl refl $ free0 ! $
          -- [what the result owns; the borrow; the token; what x owns; true]
          keep ! (2 ∷ 4 ∷ 0 ∷ []) $ join ! $ use1 𝓛 (tokens 𝓛 T' c y) (id⊢ 𝓤 _) $ move ! (1 ∷ 0 ∷ []) $
          by ! (ends 𝓛 T' c y s.w s.r (tt, (ξ.last x, tt)) unsaid (fact_i 𝓤 _ (emp 𝓤) (facts.all ms x s.r (subst (λ (l : List (Of L)). facts.Inv ms x l s.r) (ap (λ (k : ℕ). drop k ms) done ∙ drop-length ms) s.inv)))))

    walk : Is (ShrSlice (named 0) κ (element_row L)) members (v ∷ []) → Is X x (u ∷ []) → S.needs ms x → Walk 𝓛 T' c y Run
    walk is is_x needed =
        let zero = F.is x is_x in
        qed 𝓛 (tokens 𝓛 T' c y ∷ passed 𝓛 T' c y ∷ []) ∵ enter ! _ _ _ _ _ $
        alloc1 ! (λ l₀. alloc1 ! (λ l₁. alloc1 ! (λ l₂. alloc1 ! (λ l₃. alloc1 ! (λ l₄. alloc1 ! (λ l₅. alloc1 ! (λ l₆. alloc1 ! (λ l₇. alloc1 ! (λ l₈. alloc0 ! $ params1 ! $
        pass1 ! (init ! 14 refl ((shr_slice_Lawful 𝓛 (named 0) κ (element_row L)).typed members (v ∷ []) is).0) $
        pass1 ! (init ! 12 refl (ξ.plain.typed 𝓛 x u is_x)) $ pass0 ! $
        -- [room for _8; …; _7; …; _6; …; _5; …; _4; …; _3; …; _2; …; _1; …; room for _0; …; the token; what the members and x own]
        assigns ! (F.runs 𝓛 _ _ x (cell ! 12 refl)) (from ! (stop !)) (init ! 10 refl (ρ.plain.typed 𝓛 (F.start x) (F.val x) zero)) $
        assigns ! (of_opd ! (lit ! tt)) (from ! (stop !)) (init ! 8 refl (tt, record { fits = lit< tt })) $ first ! $ blocks ! $
        move ! (19 ∷ []) $ fsplit ! $ fsplit ! $ let_go ! $ move ! (1 ∷ []) $ fsplit ! $ move ! (21 ∷ []) $
        use1 𝓛 (‵ (flft κ q) ⊛ ‵ ftrue) (id⊢ 𝓤 _) $ split ! $
        use0 𝓛 (‵ (R.own_val (F.start x) (F.val x ∷ []))) (ρ.plain.makes 𝓛 (F.start x) (F.val x ∷ []) zero) $
        keep ! (0 ∷ 5 ∷ 1 ∷ 3 ∷ 16 ∷ 14 ∷ 12 ∷ 10 ∷ 8 ∷ 6 ∷ 20 ∷ 18 ∷ 22 ∷ 23 ∷ 21 ∷ 19 ∷ 17 ∷ 15 ∷ 13 ∷ 11 ∷ 9 ∷ 7 ∷ 2 ∷ []) $
        loops ! 𝓣 ≺ wf (At is.0.1.0 is.0.1.1 l₀ l₁ l₂ l₃ l₄ l₅ l₆ l₇ l₈) (turns is.0.1.0 is.0.1.1 l₀ l₁ l₂ l₃ l₄ l₅ l₆ l₇ l₈)
        (record { k = 0; r = F.start x; w = F.val x; is = zero; within = nothing_in (length ms); inv = facts.none ms x needed }))))))))))

  pub walks : Triple 𝓤 Run (Stated 𝓛 T' c)
  walks y = clause_out t 𝓤 _ _ (λ e. facts.free e y.0.3.0.now y.0.3.1.0) (λ needed.
      starts 𝓛 T' c y (shr_slice_vals, ((λ x. ξ.plain.val x ∷ []), tt)) (shr_slice_Tells (named 0) y.0.0.0 (element_row L), (ξ.plain.tells, tt)) Run
      (λ are. walk y.0.0.0 y.0.1.0 y.0.3.0 y.0.3.1.0 are.0 are.1.0 needed))

-- the same of a function's own routine: `name` and `env` are its key and what its calls mean
pub meets : {M : Type 1} {𝓤 : Ura M} (𝓛 : Logic 𝓤) (𝓜 : Model 𝓤 𝓛.H) (𝓡 : Running 𝓤 𝓛.H 𝓜) (L : Element) (R X : RattleType) (τ σ : Ty) (rv : RValue) (ρ : Extra R τ) (ξ : Extra X σ) (F : First R X ξ.plain.val rv)
    (p t : Bool) (S : Says L R X p t) (facts : Facts L R X p t S F.start) (env : Routines) (name step : Callee)
    → Closed 𝓤 𝓛.H (tables 𝓤 𝓛.H 𝓜 𝓡 env).C (tables 𝓤 𝓛.H 𝓜 𝓡 env).Λ name (function L τ σ rv p step)
    → Triple 𝓤 (𝓡.run (env step)) (Stated 𝓛 (step_ended L R X p) (step_clauses L R X p t S 𝓤)) → Triple 𝓤 (𝓡.run (env name)) (Stated 𝓛 (walk_ended L R X) (walk_clauses L R X p t S 𝓤))
unfolding tables_of
meets {𝓤 = 𝓤} 𝓛 𝓜 𝓡 L R X τ σ rv ρ ξ F p t S facts env name step unfolded met =
    entered 𝓤 𝓛.H (Stated 𝓛 (walk_ended L R X) (walk_clauses L R X p t S 𝓤)) (tables 𝓤 𝓛.H 𝓜 𝓡 env).C (tables 𝓤 𝓛.H 𝓜 𝓡 env).Λ name (function L τ σ rv p step) unfolded
    (walks 𝓛 (tables_of 𝓤 𝓛.H 𝓜 (tables 𝓤 𝓛.H 𝓜 𝓡 env)) (framed 𝓤 𝓛.H 𝓜 (tables 𝓤 𝓛.H 𝓜 𝓡 env)) L R X τ σ rv ρ ξ F p t S facts step met)
