-- A `&κ mut [T]` that is lent again for a lifetime κ' of a call, and comes back: `Denote/Lend.antt`'s `lends_again` and `comes_back`, of a slice.
--     LentAgain        what the holder keeps while the slice is lent again under the name γ₁: the lender's part at κ', and its own borrow at κ, open, with both halves of its ghost variable
--     lends_again      own (the `&κ mut [T]` ((b, o), γ, ys)) ∗ [κ]_q  ⊢ ⇛ ∃ γ₁. own (the `&κ' mut [T]` ((b, o), γ₁, ys)) ∗ LentAgain γ₁
--     comes_back       given `Room` and that zs is as long as ys:  [†κ'] ∗ LentAgain γ₁ ∗ finally γ₁ zs  ⊢ ⇛ (own (the `&κ mut [T]` ((b, o), γ, zs)) ∗ [κ]_q)
-- and as steps:
--     lends            a slice and its token at the head of the context: a lifetime ν begins, for which the slice is lent again
--     last_slice       after a call: the last value of a slice that it was lent, as long as the first, comes off what the call says of last values
--     takes_back       ν's token, LentAgain and the last value at the head: ν ends, and the slice is back with its own token
-- Assumes `Logic`.
use types.Logic.{Logic, sem}
use denote.Slice.{mut_slice_at}
use Rattle.std.specs.Borrow.{MutBor}
use Rattle.std.specs.Prelude.{◌≡◌, ℕ, List, [], ◌∷◌, length}
use Rattle.std.proofs.Common.{sym, ap, subst}
use Rattle.walks.specs.ByHand.{Ura, full_share, Lifetime, Val, ent, sep, ex, Lft, GName, Share, Fml, fsep, flft, fdead, fobs, fauth, flent, fobor, feq, sem, Goal, Soaks, Seq, Step, step, Item, ‵, ◌⊛◌, some, later, ◌$◌, ◌∵◌, !, qed, move, use1, use2, use3, drop, split, pick, fsplit, fjoin, feq_l, frame, await, updating, at_once, show, done, cells, Arr, lft_new, lft_end, RattleType, pure_l, pure_i, mem, slice_val, MutSlice, heres, Room, finally, coded_holeys, Held, lends_slice, slice_back, index_row as row, whole_out, whole_in, opens_slice, closes_slice}

module _ (R : RattleType) (κ κ' : Lft) (q : Share) (γ : GName) (b o : ℕ) where
  abbrev at_list : GName → List R.Denot → MutBor (List R.Denot)
  at_list δ ys = record { ref_ptr = (b, o); ghost_name = δ; now = ys }

  abbrev pub LentAgain : GName → List R.Denot → Fml
  LentAgain γ₁ ys = fsep (flent κ' (Held R (length ys) b o γ₁)) (fsep (fobor κ q (Held R (length ys) b o γ)) (fsep (fobs γ ((coded_holeys R).code (heres R ys))) (fauth γ ((coded_holeys R).code (heres R ys)))))

  module _ {M : Type 1} {𝓤 : Ura M} (𝓛 : Logic 𝓤) (ℓ ℓ' : Lifetime) (ys : List R.Denot) where
    open 𝓛 use {H, A}

    abbrev vals : List Val
    vals = slice_val (b, o) (length ys) ∷ []

    pub lends_again : ent 𝓤 (sep 𝓤 (sem 𝓛 ((MutSlice ℓ κ R).own_val (at_list γ ys) vals)) (A.lft κ q))
        (H.⇛ (ex 𝓤 (λ (γ₁ : GName). sep 𝓤 (sem 𝓛 ((MutSlice ℓ' κ' R).own_val (at_list γ₁ ys) vals)) (sem 𝓛 (LentAgain γ₁ ys)))))
    lends_again =
        qed 𝓛 (‵ ((MutSlice ℓ κ R).own_val (at_list γ ys) vals) ∷ ‵ (flft κ q) ∷ []) ∵ updating ! $ fsplit ! $ pure_l ! (mut_slice_at R (at_list γ ys) vals) (λ p. fsplit ! $ opens_slice ! tt R ys b o $
        use1 𝓛 (‵ (cells (mem R) ys b o)) (whole_in 𝓛 R ys b o) $
        use1 𝓛 (later (some (λ (γ₁ : GName). ‵ ((MutSlice ℓ' κ' R).own_val (at_list γ₁ ys) vals) ⊛ ‵ (flent κ' (Held R (length ys) b o γ₁))))) (lends_slice 𝓛 R ℓ' κ' ys b o p.1) $ await ! tt $ pick ! (λ γ₁. split ! $
        -- [the new slice; the lender's part at κ'; the open borrow at κ; obs γ; auth γ]
        at_once ! $ show ! (λ (γ' : GName). sep 𝓤 (sem 𝓛 ((MutSlice ℓ' κ' R).own_val (at_list γ' ys) vals)) (sem 𝓛 (LentAgain γ' ys))) γ₁ $ frame ! $
        move ! (2 ∷ 3 ∷ []) $ fjoin ! $ move ! (2 ∷ 0 ∷ []) $ fjoin ! $ move ! (1 ∷ 0 ∷ []) $ fjoin ! $ done !))

    pub comes_back : (γ₁ : GName) (zs : List R.Denot) → Room R (length ys) → length zs ≡ length ys
        → ent 𝓤 (sep 𝓤 (A.dead κ') (sep 𝓤 (sem 𝓛 (LentAgain γ₁ ys)) (sem 𝓛 (finally R γ₁ zs)))) (H.⇛ (sep 𝓤 (sem 𝓛 ((MutSlice ℓ κ R).own_val (at_list γ zs) vals)) (A.lft κ q)))
    comes_back γ₁ zs room e =
        qed 𝓛 (‵ (fdead κ') ∷ ‵ (LentAgain γ₁ ys) ∷ ‵ (finally R γ₁ zs) ∷ []) ∵ updating ! $ move ! (1 ∷ []) $ fsplit ! $ move ! (2 ∷ 0 ∷ 3 ∷ []) $
        use3 𝓛 (later (‵ ((Arr (mem R) (length ys)).own_at zs b o))) (slice_back 𝓛 R κ' γ₁ zs (length ys) b o) $ await ! tt $ fsplit ! $ drop ! $ use1 𝓛 (‵ (row R full_share zs b o)) (whole_out 𝓛 R zs b o) $
        move ! (1 ∷ []) $ fsplit ! $ move ! (1 ∷ []) $ fsplit ! $ move ! (3 ∷ 2 ∷ 0 ∷ 1 ∷ []) $ closes_slice ! tt R ys zs e b o $ at_once ! $
        fjoin ! $ pure_i ! (mut_slice_at R (at_list γ zs) vals) (tt, (tt, tt)) (ap (λ (m : ℕ). slice_val (b, o) m ∷ []) (sym e), subst (Room R) (sym e) room) $ fjoin ! $ done !

abbrev owned : {M : Type 1} {𝓤 : Ura M} (R : RattleType) (b o : ℕ) → Lifetime → Lft → GName → List R.Denot → ℕ → Item 𝓤
owned R b o ℓ κ γ ys n = ‵ ((MutSlice ℓ κ R).own_val (record { ref_ptr = (b, o); ghost_name = γ; now = ys }) (slice_val (b, o) n ∷ []))

module _ {M : Type 1} {𝓤 : Ura M} {𝓛 : Logic 𝓤} {K : Type 0} {Γ : List (Item 𝓤)} {G : Goal 𝓤 𝓛.H} where
  pub lends : K → Soaks G → (R : RattleType) (ℓ ℓ' : Lifetime) {κ : Lft} {q : Share} (γ : GName) (b o : ℕ) (ys : List R.Denot)
      → ((ν : ℕ) (δ : GName) → Seq K 𝓛 (owned R b o ℓ' (ν ∷ []) δ ys (length ys) ∷ ‵ (LentAgain R κ (ν ∷ []) q γ b o δ ys) ∷ ‵ (flft (ν ∷ []) full_share) ∷ Γ) G)
      → Seq K 𝓛 (owned R b o ℓ κ γ ys (length ys) ∷ ‵ (flft κ q) ∷ Γ) G
  lends t z R ℓ ℓ' {κ} {q} γ b o ys k = lft_new t z (λ ν. move t (1 ∷ 2 ∷ []) $
      use2 𝓛 (later (some (λ (δ : GName). owned R b o ℓ' (ν ∷ []) δ ys (length ys) ⊛ ‵ (LentAgain R κ (ν ∷ []) q γ b o δ ys)))) (lends_again R κ (ν ∷ []) q γ b o 𝓛 ℓ ℓ' ys) $ await t z $ pick t (λ δ. split t $ k ν δ))

  pub takes_back : K → Soaks G → (R : RattleType) (ℓ : Lifetime) {κ : Lft} {q : Share} {ν : ℕ} {δ : GName} (γ : GName) (b o : ℕ) (ys zs : List R.Denot) → Room R (length ys) → length zs ≡ length ys
      → Step K 𝓛 (owned R b o ℓ κ γ zs (length ys) ∷ ‵ (flft κ q) ∷ Γ) G (‵ (flft (ν ∷ []) full_share) ∷ ‵ (LentAgain R κ (ν ∷ []) q γ b o δ ys) ∷ ‵ (finally R δ zs) ∷ Γ) G
  takes_back t z R ℓ {κ} {q} {ν} {δ} γ b o ys zs room e = step (λ s. lft_end t z $
      use3 𝓛 (later (owned R b o ℓ κ γ zs (length ys) ⊛ ‵ (flft κ q))) (comes_back R κ (ν ∷ []) q γ b o 𝓛 ℓ ℓ ys δ zs room e) $ await t z $ split t $ s)

  pub last_slice : K → {P Q : Fml} {X : Type 0} {x y : X} → (x ≡ y → Seq K 𝓛 (‵ Q ∷ ‵ P ∷ Γ) G) → Seq K 𝓛 (‵ (fsep (fsep P (feq X x y)) Q) ∷ Γ) G
  last_slice t k = fsplit t $ fsplit t $ move t (1 ∷ []) $ feq_l t (λ e. move t (1 ∷ []) $ k e)
