-- The first elements of a local array, lent, and back.
--     shared_out           what is lent as one: the slice's one machine value, that the elements have room, their values under a name γ, and one fractured borrow of them all for κ
--     Kept                 what the lender keeps: the way back of what is lent, and the elements after
--     lends_first          the array in memory, with what it owns, gives shared_out on its first k elements, and Kept, for elements of any type
--     lends_first_slice    the same with a `&κ [T]` on them. Each is lent by itself and with no token (`Denote/Lends.antt`'s `Lent`), as a value is whose type is Copy
--     first_back           κ is dead: the array's memory is back, as room
-- and as steps, of an array that is passed by value, and whose first k elements are lent to a call:
--     lends_array          the code that copies it to its memory and makes the slice. The entries in the context, after what the array owns: a its cell, h that of the count,
--                          t, r and s the rooms for the copy, its reference and the slice, of which r, h and s are counted once the copy is away
--     takes_array          after the call: the lifetime ends, and the memory is room again
-- Assumes `Logic`.
use types.Logic.{Logic, sem}
use Rattle.std.specs.Borrow.{Bor}
use Rattle.std.specs.Prelude.{◌≡◌, length, take, drop}
use Rattle.std.proofs.Math.Path.{refl}
use Rattle.std.proofs.Common.{sym, subst, arith, take-append-drop, length-take}
use Prim.Native.Nat.{ℕ, suc, ◌+◌, ◌<◌, ◌≤◌, ◌^◌}
use mathlib.Core.List.{List, [], ◌∷◌, ◌++◌}
use Rattle.walks.specs.ByHand.{Ura, full_share, Ty, Lifetime, Body, named, erased, imm, w64, ty_array, ty_int, ty_ref, place, copy, rv_opd, addr_of, aggregate, seq, assign, Val, vint, vptr, ent, sep, ex, snd∗, Lft, Share, GName, Fml, fsep, fat, froom, fdead, flent, fres, fshr_bor, fhide, flft, Env, Calls, Loops, spot_of, sem, Item, Goal, Soaks, Post, Seq, Step, step, Go, nth, put, del, runs, ‵, ◌⊛◌, later, ◌$◌, ◌∵◌, !, qed, move, use1, use2, drop as let_go, rewrite, split, fsplit, fjoin, fpack, feq, feq_i, feq_l, frame, await, updating, at_once, show, done, cells, arr_parts, parts, agg, look, init, stop, from, load, addr, of_opd, and_then, no_more, assigns, lent_back, lft_new, lft_end, bor_new, bor_fracture, name_new, name_done, RattleType, Array, Array-Lawful, Is, Single, Array-whole, Array-apart, mem, lone, pointee, part_at, part_of, shares, shared_of, cell_at, slice_ty, slice_val, ShrSlice, shr_slice_at, coded_holeys, heres, elements_shared, Room, pure_i, Lent, Lent-nothing, Lent-both, Lent-map, at, cut_app, join_app, parts-cells, part_room, Room-take}
use denote.Struct.Laws as LL
use Rattle.walks.specs.Element.{Element, Of, element_row, mir_of}
use Rattle.walks.specs.FreedLocals.{pulls}
use Rattle.walks.specs.Walks.{walks_at}

module _ (R : RattleType) (n k b : ℕ) (xs : List R.Denot) where
  abbrev τ : Ty
  τ = ty_array (lone R.mir) n

  abbrev pub first : Bor (List R.Denot)
  first = record { ref_ptr = (b, 0); now = take k xs }

  abbrev pub shared_out : Lft → GName → List Val → Fml
  shared_out κ γ vs = fsep (shr_slice_at R first vs) (fsep (fres γ ((coded_holeys R).code (heres R (take k xs)))) (fshr_bor κ (λ p. (arr_parts (shares R) (length (take k xs))).part p (take k xs) b 0)))

  abbrev pub Kept : Lft → Fml
  Kept κ = fsep (flent κ ((arr_parts (shares R) (length (take k xs))).part full_share (take k xs) b 0)) (cells (mem R) (drop k xs) b (at 0 (mem R).size (length (take k xs))))

  module _ {M : Type 1} {𝓤 : Ura M} (𝓛 : Logic 𝓤) where
    open 𝓛 use {H, A}

    pub lends_first : Single R.mir → Room R n → (κ : Lft) (v : Val)
        → ent 𝓤 (sep 𝓤 (sem 𝓛 (fat full_share τ b 0 v)) (sem 𝓛 ((Array R n).own_val xs (v ∷ []))))
        (H.⇛ (ex 𝓤 (λ (γ : GName). sep 𝓤 (sem 𝓛 (shared_out κ γ (slice_val (b, 0) (length (take k xs)) ∷ []))) (sem 𝓛 (Kept κ)))))
    unfolding part_of
    lends_first one room κ v =
        let ys = take k xs in let Φ : Share → Fml = λ p. (arr_parts (shares R) (length ys)).part p ys b 0 in
        qed 𝓛 (‵ (fat full_share τ b 0 v) ∷ ‵ ((Array R n).own_val xs (v ∷ [])) ∷ []) ∵ updating ! $ use1 𝓛 (‵ (cell_at full_share (τ ∷ []) (v ∷ []) b 0)) (𝓛.laws.at_raw full_share τ b 0 v) $ fjoin ! $
        fpack ! (List Val) (λ us. fsep (cell_at full_share (τ ∷ []) us b 0) ((Array R n).own_val xs us)) (v ∷ []) $
        use1 𝓛 (‵ ((arr_parts (shares R) n).part full_share xs b 0)) (Array-apart 𝓛 R full_share one n xs b 0) $ fsplit ! $ feq_l ! (λ l.
        rewrite ! 0 (λ (F : Fml). ‵ F) (parts-cells R full_share xs b 0) refl $ rewrite ! 0 (λ (zs : List R.Denot). ‵ (cells (mem R) zs b 0)) (sym (take-append-drop k xs)) refl $
        use1 𝓛 (‵ (cells (mem R) ys b 0) ⊛ ‵ (cells (mem R) (drop k xs) b (at 0 (mem R).size (length ys)))) (cut_app 𝓛 (mem R) ys (drop k xs) b 0) $ split ! $
        -- [the elements that are lent; the elements after]
        rewrite ! 0 (λ (F : Fml). ‵ F) (sym (parts-cells R full_share ys b 0)) refl $ feq_i ! ℕ (length ys) (length ys) refl $ fjoin ! $
        bor_new ! tt κ $ bor_fracture ! tt Φ full_share $ name_new ! tt ((coded_holeys R).code (heres R ys)) (λ γ. name_done ! tt $ move ! (1 ∷ []) $ let_go ! $
        -- [the elements under γ; their fractured borrow; its way back; the elements after]
        fjoin ! $ at_once ! $ show ! (λ (γ' : GName). sep 𝓤 (sem 𝓛 (shared_out κ γ' (slice_val (b, 0) (length ys) ∷ []))) (sem 𝓛 (Kept κ))) γ $
        pure_i ! (shr_slice_at R first (slice_val (b, 0) (length ys) ∷ [])) (tt, (tt, tt)) (refl, Room-take R n k xs l room) $ fjoin ! $ frame ! $ fjoin ! $ done !))

    lends_each : ((x : R.Denot) (c o : ℕ) → Lent 𝓛 (part_at R full_share x c o) (shared_of R x c o)) → (ys : List R.Denot) (o : ℕ) → Lent 𝓛 (parts (mem R) (shares R) full_share ys b o) (elements_shared R ys b o)
    lends_each each [] o = Lent-nothing 𝓛
    lends_each each (y ∷ ys) o = Lent-both 𝓛 (part_at R full_share y b o) (parts (mem R) (shares R) full_share ys b (o + (mem R).size)) (shared_of R y b o) (elements_shared R ys b (o + (mem R).size)) (each y b o) (lends_each each ys (o + (mem R).size))

    -- `each`: an element is lent as `&` with no token, as one is whose type is Copy
    pub lends_first_slice : (each : (x : R.Denot) (c o : ℕ) → Lent 𝓛 (part_at R full_share x c o) (shared_of R x c o)) → Single R.mir → Room R n → (ℓ : Lifetime) (κ : Lft) (v : Val)
        → ent 𝓤 (sep 𝓤 (sem 𝓛 (fat full_share τ b 0 v)) (sem 𝓛 ((Array R n).own_val xs (v ∷ []))))
        (H.⇛ (sep 𝓤 (sem 𝓛 ((ShrSlice ℓ κ R).own_val first (slice_val (b, 0) (length (take k xs)) ∷ []))) (sem 𝓛 (Kept κ))))
    unfolding part_of
    lends_first_slice each one room ℓ κ v =
        let ys = take k xs in let P : Fml = (arr_parts (shares R) (length ys)).part full_share ys b 0 in let G : Fml = parts (mem R) (shares R) full_share ys b 0 in
        qed 𝓛 (‵ (fat full_share τ b 0 v) ∷ ‵ ((Array R n).own_val xs (v ∷ [])) ∷ []) ∵ updating ! $ use1 𝓛 (‵ (cell_at full_share (τ ∷ []) (v ∷ []) b 0)) (𝓛.laws.at_raw full_share τ b 0 v) $ fjoin ! $
        fpack ! (List Val) (λ us. fsep (cell_at full_share (τ ∷ []) us b 0) ((Array R n).own_val xs us)) (v ∷ []) $
        use1 𝓛 (‵ ((arr_parts (shares R) n).part full_share xs b 0)) (Array-apart 𝓛 R full_share one n xs b 0) $ fsplit ! $ feq_l ! (λ l.
        rewrite ! 0 (λ (F : Fml). ‵ F) (parts-cells R full_share xs b 0) refl $ rewrite ! 0 (λ (zs : List R.Denot). ‵ (cells (mem R) zs b 0)) (sym (take-append-drop k xs)) refl $
        use1 𝓛 (‵ (cells (mem R) ys b 0) ⊛ ‵ (cells (mem R) (drop k xs) b (at 0 (mem R).size (length ys)))) (cut_app 𝓛 (mem R) ys (drop k xs) b 0) $ split ! $
        -- [the elements that are lent; the elements after]
        rewrite ! 0 (λ (F : Fml). ‵ F) (sym (parts-cells R full_share ys b 0)) refl $ feq_i ! ℕ (length ys) (length ys) refl $ fjoin ! $
        use1 𝓛 (later (‵ (fhide (elements_shared R ys b 0 κ)) ⊛ ‵ (flent κ P)))
        (Lent-map 𝓛 P G (elements_shared R ys b 0) (snd∗ 𝓤 (sem 𝓛 (feq ℕ (length ys) (length ys))) (sem 𝓛 G)) (qed 𝓛 (‵ G ∷ []) {P = sem 𝓛 P} (feq_i ! ℕ (length ys) (length ys) refl $ fjoin ! $ done !)) (lends_each each ys 0) κ) $ await ! tt $ split ! $
        -- [the elements behind the slice; its way back; the elements after]
        at_once ! $ pure_i ! (shr_slice_at R first (slice_val (b, 0) (length ys) ∷ [])) (tt, (tt, tt)) (refl, Room-take R n k xs l room) $ fjoin ! $ frame ! $ fjoin ! $ done !)

    pub first_back : length xs ≡ n → (κ : Lft) → ent 𝓤 (sep 𝓤 (A.dead κ) (sem 𝓛 (Kept κ))) (H.⇛ (sem 𝓛 (froom τ b 0)))
    first_back l κ =
        qed 𝓛 (‵ (fdead κ) ∷ ‵ (Kept κ) ∷ []) ∵ updating ! $ move ! (1 ∷ []) $ fsplit ! $ move ! (2 ∷ 0 ∷ []) $ lent_back ! tt $ fsplit ! $ let_go ! $
        rewrite ! 0 (λ (F : Fml). ‵ F) (parts-cells R full_share (take k xs) b 0) refl $
        use2 𝓛 (‵ (cells (mem R) (take k xs ++ drop k xs) b 0)) (join_app 𝓛 (mem R) (take k xs) (drop k xs) b 0) $ rewrite ! 0 (λ (ys : List R.Denot). ‵ (cells (mem R) ys b 0)) (take-append-drop k xs) refl $
        rewrite ! 0 (λ (F : Fml). ‵ F) (sym (parts-cells R full_share xs b 0)) refl $ feq_i ! ℕ (length xs) n l $ fjoin ! $
        use1 𝓛 (‵ (part_at (Array R n) full_share xs b 0)) (Array-whole 𝓛 R full_share n xs b 0) $ use1 𝓛 (‵ (froom τ b 0)) (part_room 𝓛 (Array R n) xs b 0) $ at_once ! $ done !

-- the array in place i goes to place t, its reference to place r, and with the count in place j to place r + 1
abbrev pub lend_first : ℕ → ℕ → ℕ → ℕ → Body → Body
lend_first i t r j rest =
    seq (assign (place t []) (rv_opd (copy (place i [])))) (seq (assign (place r []) (addr_of (place t [])))
    (seq (assign (place (suc r) []) (aggregate (copy (place r []) ∷ copy (place j []) ∷ []))) rest))

abbrev pub slice_of : Element → Ty
slice_of L = slice_ty (ty_ref erased imm (pointee (element_row L).written))

module _ (L : Element) (n k : ℕ) (xs : List (Of L)) where
  taken : k ≤ n → length xs ≡ n → length (take k xs) ≡ k
  taken h e = omega (arith, length-take k xs)

  abbrev array : Ty
  array = ty_array (mir_of L) n

  module _ {M : Type 1} {𝓤 : Ura M} (𝓛 : Logic 𝓤) (Γ : List (Item 𝓤)) (l : ℕ) (v : Val) (t : ℕ) where
    abbrev copied : List (Item 𝓤)
    copied = del 𝓛 t (put 𝓛 t (‵ (fat full_share array l 0 v)) Γ)

    abbrev referred : ℕ → Ty → ℕ → List (Item 𝓤)
    referred r σ lr = put 𝓛 r (‵ (fat full_share (ty_ref erased imm σ) lr 0 (vptr l 0))) copied

  module _ {M : Type 1} {𝓤 : Ura M} {𝓛 : Logic 𝓤} {Γ : List (Item 𝓤)} {l : ℕ} where
    open 𝓛 use {H}

    pub lends_array : Single (element_row L).mir → Room (element_row L) n → k ≤ n → k < 2 ^ 64 → (v : Val) → Is (Array (element_row L) n) xs (v ∷ []) → length xs ≡ n → (a h t r s : ℕ)
        → {E : Env 𝓤 H} {C : Calls 𝓤 H} {Λ : Loops 𝓤 H} {q : Post 𝓤 H} {rest : Body} {i p u j la lh lr ls : ℕ} {σ : Ty}
        → spot_of 𝓤 H E i ≡ (array, la, 0) → spot_of 𝓤 H E p ≡ (array, l, 0) → spot_of 𝓤 H E u ≡ (ty_ref erased imm σ, lr, 0) → spot_of 𝓤 H E (suc u) ≡ (slice_of L, ls, 0) → spot_of 𝓤 H E j ≡ (ty_int w64, lh, 0)
        → nth 𝓛 a Γ ≡ ‵ (fat full_share array la 0 v) → nth 𝓛 t Γ ≡ ‵ (froom array l 0) → nth 𝓛 t (put 𝓛 t (‵ (fat full_share array l 0 v)) Γ) ≡ ‵ (fat full_share array l 0 v)
        → nth 𝓛 r (copied 𝓛 Γ l v t) ≡ ‵ (froom (ty_ref erased imm σ) lr 0) → nth 𝓛 r (referred 𝓛 Γ l v t r σ lr) ≡ ‵ (fat full_share (ty_ref erased imm σ) lr 0 (vptr l 0))
        → nth 𝓛 h (referred 𝓛 Γ l v t r σ lr) ≡ ‵ (fat full_share (ty_int w64) lh 0 (vint w64 k)) → nth 𝓛 s (referred 𝓛 Γ l v t r σ lr) ≡ ‵ (froom (slice_of L) ls 0)
        → ((ν : ℕ) → Seq (Go {0}) 𝓛 (‵ (flft (ν ∷ []) full_share) ∷ ‵ ((ShrSlice (named 0) (ν ∷ []) (element_row L)).own_val (first (element_row L) n k l xs) (slice_val (l, 0) (length (take k xs)) ∷ [])) ∷ ‵ (Kept (element_row L) n k l xs (ν ∷ []))
        ∷ put 𝓛 s (‵ (fat full_share (slice_of L) ls 0 (slice_val (l, 0) (length (take k xs))))) (referred 𝓛 Γ l v t r σ lr)) (runs C Λ E rest q))
        → Seq (Go {0}) 𝓛 (‵ ((Array (element_row L) n).own_val xs (v ∷ [])) ∷ Γ) (runs C Λ E (lend_first i p u j rest) q)
    lends_array one room few fits v is e a h t r s {E} {C} {Λ} {q} {rest} {lr = lr} {ls = ls} {σ = σ} ei ep eu es ej ca ct ct' cr cr' ch cs cont =
        assigns ! (of_opd ! (load ! (from ! (walks_at ei (stop !))) (look ! (suc a) ca))) (from ! (walks_at ep (stop !))) (init ! (suc t) ct ((Array-Lawful 𝓛 (element_row L) (LL.lawful L.type L.laws 𝓛) n).typed xs _ is).0) $
        lft_new ! tt (λ ν. pulls ! (suc (suc t)) ct' $ move ! (0 ∷ 2 ∷ []) $
        use2 𝓛 (later (‵ ((ShrSlice (named 0) (ν ∷ []) (element_row L)).own_val (first (element_row L) n k l xs) (slice_val (l, 0) (length (take k xs)) ∷ [])) ⊛ ‵ (Kept (element_row L) n k l xs (ν ∷ []))))
        (lends_first_slice (element_row L) n k l xs 𝓛 (λ x c o. (LL.copied L.type L.copied 𝓛).lends full_share x c o) one room (named 0) (ν ∷ []) v) $ await ! tt $ split ! $ move ! (2 ∷ []) $
        assigns ! (addr ! (from ! (walks_at ep (stop !)))) (from ! (walks_at eu (stop !))) (init ! (suc (suc (suc r))) cr (tt, tt)) $
        assigns ! (agg ! (and_then ! (load ! (from ! (walks_at eu (stop !))) (look ! (suc (suc (suc r))) cr')) (and_then ! (load ! (from ! (walks_at ej (stop !))) (look ! (suc (suc (suc h))) ch)) (no_more !)))) (from ! (walks_at es (stop !)))
        (init ! (suc (suc (suc s))) cs (tt, (tt, (record { fits = fits }, tt)))) $
        subst (λ (m : ℕ). Seq (Go {0}) 𝓛 (‵ (flft (ν ∷ []) full_share) ∷ ‵ ((ShrSlice (named 0) (ν ∷ []) (element_row L)).own_val (first (element_row L) n k l xs) (slice_val (l, 0) (length (take k xs)) ∷ [])) ∷ ‵ (Kept (element_row L) n k l xs (ν ∷ []))
        ∷ put 𝓛 s (‵ (fat full_share (slice_of L) ls 0 (slice_val (l, 0) m))) (referred 𝓛 Γ l v t r σ lr)) (runs C Λ E rest q)) (taken few e) (cont ν))

    pub takes_array : {G : Goal 𝓤 H} → Soaks G → length xs ≡ n → {ν : ℕ} → Step (Go {0}) 𝓛 (‵ (froom array l 0) ∷ Γ) G (‵ (flft (ν ∷ []) full_share) ∷ ‵ (Kept (element_row L) n k l xs (ν ∷ [])) ∷ Γ) G
    takes_array z e {ν} = step (λ s. lft_end ! z $ use2 𝓛 (later (‵ (froom array l 0))) (first_back (element_row L) n k l xs 𝓛 e (ν ∷ [])) $ await ! z $ s)
