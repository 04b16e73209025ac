-- An element of a lent table is copied into a local, for elements of any declared type.
--     Element               the type: its declaration, its laws, that it is Copy, what an index past the end would give, and that its size is a word
--     borrowed              what a `&[T]` owns of its elements, each shared by itself
--     borrowed_out          one fractured borrow of all of them
--     copies_element        the table's borrow and its token at the head of the context: the code copies what place j points at, the element at k, into place i.
--                           p is the entry of place j's cell after these two, and r that of the room for place i
--     copies_element_out    the same over borrowed_out
-- Assumes `Logic`.
use Rattle.std.specs.Prelude.{◌≡◌, refl, ℕ, suc, ◌+◌, ◌*◌, ◌^◌, ◌<◌, List, [], ◌∷◌, T, ltb, length, get_or}
use Rattle.std.proofs.Common.{sym, ◌∙◌, ap}
use Rattle.walks.specs.ByHand.{Ura, full_share, Ty, w64, Body, ty_ptr, deref, place, copy, rv_opd, seq, assign, Val, bits, vptr, Lft, Share, Fml, fsep, feq, fat, froom, flft, fshr_bor, fhide, Env, Calls, Loops, spot_of, Item, Post, Step, step, ‵, ◌⊛◌, nth, put, runs, ◌$◌, move, drop as let_go, use1, split, fsplit, fjoin, feq_i, shr_bor_dup, shr_bor-open, obor_close, look, look_raw, init, stop, hop, from, load, of_opd, assigns, elements_shared, arr_parts, parts, shares, Halves, Cuts-Halves, Cuts-both, Cuts-said, each_Cuts, place_is, elem_out, elem_back, looks_slice, shuts_slice, Is, shows, lone, mem, RattleType, RowLaws, Declared, row, shape, Recorded-row_laws, Struct, Struct-row_laws}
use denote.Struct.Laws as LL
use Rattle.walks.specs.Walks.{walks_at}
use types.Logic.{Logic}

pub record Element : Type 2 where
  pub type : Declared
  pub laws : LL.Laws type
  pub copied : LL.Copyables type.parts
  pub blank : type.D
  pub sized : T (ltb (mem (row type)).size (2 ^ bits w64))

abbrev pub Of : Element → Type 0
Of L = L.type.D

abbrev pub element_row : Element → RattleType
element_row L = row L.type

abbrev pub mir_of : Element → Ty
mir_of L = lone (element_row L).mir

abbrev pub element_bytes : Element → ℕ
element_bytes L = (mem (element_row L)).size

-- what a `&` to an element holds can be had twice
pub element_row_laws : (L : Element) → RowLaws (element_row L)
element_row_laws L = Recorded-row_laws (Struct (shape L.type)) L.type.D L.type.to L.type.to_one (Struct-row_laws (shape L.type) (LL.copy_row_laws L.type.parts L.copied))

abbrev pub value_of : (L : Element) → Of L → Val
value_of L m = LL.val L.type L.laws m

abbrev pub borrowed : (L : Element) → Lft → List (Of L) → ℕ → ℕ → Fml
borrowed L κ ms b o = fhide (elements_shared (element_row L) ms b o κ)

abbrev pub borrowed_out : (L : Element) → Lft → List (Of L) → ℕ → ℕ → Fml
borrowed_out L κ ms b o = fshr_bor κ (λ p. (arr_parts (shares (element_row L)) (length ms)).part p ms b o)

module _ {M : Type 1} {𝓤 : Ura M} (𝓛 : Logic 𝓤) where
  open 𝓛 use {H, A}

  -- the shares of elements side by side are halved and joined
  halves_out : (L : Element) (ms : List (Of L)) (b o : ℕ) → Halves 𝓤 H A (λ p. (arr_parts (shares (element_row L)) (length ms)).part p ms b o)
  halves_out L ms b o =
      let Φ : Share → Fml = λ p. parts (mem (element_row L)) (shares (element_row L)) p ms b o in let l : Fml = feq ℕ (length ms) (length ms) in
      Cuts-Halves 𝓛 (λ p. fsep l (Φ p)) (Cuts-both 𝓛 (λ _. l) Φ (Cuts-said 𝓛 l tt) (each_Cuts 𝓛 (element_row L) (LL.copied L.type L.copied 𝓛) ms b o))

module _ {M : Type 1} {𝓤 : Ura M} {𝓛 : Logic 𝓤} {K : Type 0} {Γ : List (Item 𝓤)} {E : Env 𝓤 𝓛.H} {C : Calls 𝓤 𝓛.H} {Λ : Loops 𝓤 𝓛.H} {post : Post 𝓤 𝓛.H} {rest : Body} where
  open 𝓛 use {H}

  pub copies_element : K → (L : Element) (p r : ℕ) {i j lp lm : ℕ} {κ : Lft} {q : Share} (ms : List (Of L)) (k b o : ℕ) → k < length ms
      → spot_of 𝓤 H E i ≡ ((mir_of L), lm, 0) → spot_of 𝓤 H E j ≡ (ty_ptr, lp, 0)
      → nth 𝓛 p Γ ≡ ‵ (fat full_share ty_ptr lp 0 (vptr b (k * element_bytes L + o))) → nth 𝓛 r Γ ≡ ‵ (froom (mir_of L) lm 0)
      → Step K 𝓛 (‵ (flft κ q) ∷ ‵ ((element_row L).own_val (get_or ms k L.blank) (value_of L (get_or ms k L.blank) ∷ [])) ∷ ‵ (borrowed L κ ms b o) ∷ put 𝓛 r (‵ (fat full_share (mir_of L) lm 0 (value_of L (get_or ms k L.blank)))) Γ) (runs C Λ E rest post)
      (‵ (borrowed L κ ms b o) ∷ ‵ (flft κ q) ∷ Γ) (runs C Λ E (seq (assign (place i []) (rv_opd (copy (place j (deref (mir_of L) ∷ []))))) rest) post)
  copies_element t L p r {i} {j} {lp} {lm} ms k b o inside ei ej ep er = step (λ s.
      let m = get_or ms k L.blank in
      looks_slice t tt (element_row L) (LL.copied L.type L.copied 𝓛) ms b o (λ q'.
      elem_out t (element_row L) (Is (element_row L)) (shows 𝓛 (element_row L)) (LL.vals L.type L.laws) (LL.tells L.type L.laws) q' ms k L.blank b o inside (λ is.
      -- [the life's cell; what it owns; the others; what shuts; the borrow; …]
      assigns t (of_opd t (load t (from t (walks_at ej (hop t (look t (suc (suc (suc (suc (suc p))))) (ep ∙ ap (λ (x : ℕ). ‵ (fat full_share ty_ptr lp 0 (vptr b x))) (sym (place_is (element_bytes L) o k)))) (stop t)))) (look_raw t 0 refl))) (from t (walks_at ei (stop t)))
      (init t (suc (suc (suc (suc (suc r))))) er ((LL.lawful L.type L.laws 𝓛).typed m _ is).0) $
      move t (1 ∷ []) $ use1 𝓛 (‵ ((element_row L).own_val m (value_of L m ∷ [])) ⊛ ‵ ((element_row L).own_val m (value_of L m ∷ []))) ((LL.copy L.type L.copied 𝓛).twice m _) $ split t $ move t (2 ∷ 0 ∷ 3 ∷ []) $
      elem_back t (element_row L) q' ms k L.blank (value_of L m ∷ []) b o inside $ move t (0 ∷ 2 ∷ []) $ shuts_slice t tt (element_row L) q' ms b o $ s)))

  pub copies_element_out : K → (L : Element) (p r : ℕ) {i j lp lm : ℕ} {κ : Lft} {q : Share} (ms : List (Of L)) (k b o : ℕ) → k < length ms
      → spot_of 𝓤 H E i ≡ ((mir_of L), lm, 0) → spot_of 𝓤 H E j ≡ (ty_ptr, lp, 0)
      → nth 𝓛 p Γ ≡ ‵ (fat full_share ty_ptr lp 0 (vptr b (k * element_bytes L + o))) → nth 𝓛 r Γ ≡ ‵ (froom (mir_of L) lm 0)
      → Step K 𝓛 (‵ (flft κ q) ∷ ‵ ((element_row L).own_val (get_or ms k L.blank) (value_of L (get_or ms k L.blank) ∷ [])) ∷ ‵ (borrowed_out L κ ms b o) ∷ put 𝓛 r (‵ (fat full_share (mir_of L) lm 0 (value_of L (get_or ms k L.blank)))) Γ) (runs C Λ E rest post)
      (‵ (borrowed_out L κ ms b o) ∷ ‵ (flft κ q) ∷ Γ) (runs C Λ E (seq (assign (place i []) (rv_opd (copy (place j (deref (mir_of L) ∷ []))))) rest) post)
  copies_element_out t L p r {i} {j} {lp} {lm} ms k b o inside ei ej ep er = step (λ s.
      let m = get_or ms k L.blank in
      shr_bor_dup t $ move t (0 ∷ 2 ∷ []) $ shr_bor-open t tt (halves_out 𝓛 L ms b o) (λ q'. move t (1 ∷ []) $ fsplit t $ let_go t $
      elem_out t (element_row L) (Is (element_row L)) (shows 𝓛 (element_row L)) (LL.vals L.type L.laws) (LL.tells L.type L.laws) q' ms k L.blank b o inside (λ is.
      -- [the life's cell; what it owns; the others; the open borrow; the borrow; …]
      assigns t (of_opd t (load t (from t (walks_at ej (hop t (look t (suc (suc (suc (suc (suc p))))) (ep ∙ ap (λ (x : ℕ). ‵ (fat full_share ty_ptr lp 0 (vptr b x))) (sym (place_is (element_bytes L) o k)))) (stop t)))) (look_raw t 0 refl))) (from t (walks_at ei (stop t)))
      (init t (suc (suc (suc (suc (suc r))))) er ((LL.lawful L.type L.laws 𝓛).typed m _ is).0) $
      move t (1 ∷ []) $ use1 𝓛 (‵ ((element_row L).own_val m (value_of L m ∷ [])) ⊛ ‵ ((element_row L).own_val m (value_of L m ∷ []))) ((LL.copy L.type L.copied 𝓛).twice m _) $ split t $ move t (2 ∷ 0 ∷ 3 ∷ []) $
      elem_back t (element_row L) q' ms k L.blank (value_of L m ∷ []) b o inside $ feq_i t ℕ (length ms) (length ms) refl $ fjoin t $ move t (2 ∷ 0 ∷ []) $ obor_close t tt $ let_go t $ s)))
