-- The code that lends a slice of words again, as it stands before a call that takes one, and its walk.
--     reborrow         the reference of the slice in place i goes to place j, and with its length to place j + 1
--     reborrows        its walk: s is the entry of the slice's cell in the context, r that of the room for the reference, and t that of the room for the new slice
-- Assumes `Logic`.
use Rattle.std.specs.Prelude.{◌≡◌, refl, ℕ, suc, ◌+◌, ◌<◌, ◌^◌, List, [], ◌∷◌}
use Rattle.std.proofs.Common.{sym, subst}
use Rattle.std.proofs.Math.Option.{some}
use Rattle.walks.specs.ByHand.{Ura, full_share, Ty, Tys, Sym, Body, erased, mut, w64, ty_int, ty_ref, ty_struct, deref, field, place, copy, seq, assign, addr_of, aggregate, get_v, set_v, Vals, vptr, vstruct, Share, fat, froom, Env, Calls, Loops, spot_of, field_at, Item, Post, Step, step, ‵, nth, put, runs, ◌$◌, Part, whole, sub, look_in, agg, Reads, look, init, stop, hop, fld, from, load, addr, and_then, no_more, assigns, slice_ty, slice_val}
use Rattle.walks.specs.Walks.{walks_at}
use types.Logic.{Logic}

abbrev word : Ty
word = ty_int w64

abbrev pub ref : Ty
ref = ty_ref erased mut word

abbrev pub reborrow : ℕ → ℕ → Body → Body
reborrow i j rest = seq (assign (place j []) (addr_of (place i (field 0 ∷ deref word ∷ [])))) (seq (assign (place (suc j) []) (aggregate (copy (place j []) ∷ copy (place i (field 1 ∷ [])) ∷ []))) rest)

module _ {M : Type 1} {𝓤 : Ura M} {𝓛 : Logic 𝓤} {K : Type 0} {Γ : List (Item 𝓤)} where
  -- a field of the struct in entry n
  look_field : K → (n k : ℕ) {q : Share} {ν : Sym} {τs : Tys} {b o : ℕ} {vs : Vals} {τ : Ty} {d : ℕ} → nth 𝓛 n Γ ≡ ‵ (fat q (ty_struct ν τs) b o (vstruct vs)) → field_at 0 τs k ≡ some (τ, d) → Reads K 𝓛 Γ τ b (o + d) (get_v vs k)
  look_field t n k {q} {ν} {τs} {b} {o} {vs} {τ} {d} e h =
      look_in t n (subst (λ (i : Item 𝓤). Part K 𝓛 i q τ b (o + d) (get_v vs k) (λ u. ‵ (fat q (ty_struct ν τs) b o (vstruct (set_v vs k u))))) (sym e) (sub t k h (whole t)))

module _ {M : Type 1} {𝓤 : Ura M} {𝓛 : Logic 𝓤} {K : Type 0} {Γ : List (Item 𝓤)} where
  open 𝓛 use {H}

  pub reborrows : K → (s r t : ℕ) {E : Env 𝓤 H} {C : Calls 𝓤 H} {Λ : Loops 𝓤 H} {q : Post 𝓤 H} {rest : Body} {i j : ℕ} {τ : Ty} {l lr lt b o n : ℕ}
      → spot_of 𝓤 H E i ≡ (slice_ty τ, l, 0) → spot_of 𝓤 H E j ≡ (ref, lr, 0) → spot_of 𝓤 H E (suc j) ≡ (slice_ty ref, lt, 0)
      → nth 𝓛 s Γ ≡ ‵ (fat full_share (slice_ty τ) l 0 (slice_val (b, o) n)) → nth 𝓛 r Γ ≡ ‵ (froom ref lr 0)
      → nth 𝓛 s (put 𝓛 r (‵ (fat full_share ref lr 0 (vptr b o))) Γ) ≡ ‵ (fat full_share (slice_ty τ) l 0 (slice_val (b, o) n))
      → nth 𝓛 r (put 𝓛 r (‵ (fat full_share ref lr 0 (vptr b o))) Γ) ≡ ‵ (fat full_share ref lr 0 (vptr b o))
      → nth 𝓛 t (put 𝓛 r (‵ (fat full_share ref lr 0 (vptr b o))) Γ) ≡ ‵ (froom (slice_ty ref) lt 0)
      → n < 2 ^ 64
      → Step K 𝓛 (put 𝓛 t (‵ (fat full_share (slice_ty ref) lt 0 (slice_val (b, o) n))) (put 𝓛 r (‵ (fat full_share ref lr 0 (vptr b o))) Γ)) (runs C Λ E rest q) Γ (runs C Λ E (reborrow i j rest) q)
  reborrows k s r t ei ej ek es er es' er' et fits = step (λ z.
      assigns k (addr k (from k (walks_at ei (fld k refl (hop k (look_field k s 0 es refl) (stop k)))))) (from k (walks_at ej (stop k))) (init k r er (tt, tt)) $
      assigns k (agg k (and_then k (load k (from k (walks_at ej (stop k))) (look k r er')) (and_then k (load k (from k (walks_at ei (fld k refl (stop k)))) (look_field k s 1 es' refl)) (no_more k)))) (from k (walks_at ek (stop k))) (init k t et (tt, (tt, (record { fits = fits }, tt)))) $ z)
