-- A function's locals. At its start:
--     allocates        room for each; `env` has them, at the blocks bs, and `rooms` is the context
-- At its end, one at a time, where entry n of the context is the local's cell, and entry m of the others says that it dies:
--     frees_cell       a cell that holds a value
--     frees_room       a cell that holds none
--     frees_cells      the cells of the first locals at once, with values vs: entry n is the first one's, the next entry says that it dies, and the next local's are the two before
-- At any place:
--     pulls            entry n goes to the head
-- Assumes `Logic`.
use Rattle.std.specs.Prelude.{◌≡◌, ℕ, ◌-◌, List, [], ◌∷◌, length}
use Rattle.std.proofs.Common.{sym, ap, subst, arith}
use Rattle.walks.specs.ByHand.{Ura, full_share, Ty, Local, local, Val, ent, sep, via, mono_l, mono_r, assoc', fat, froom, fdies, ftrue, Heap, Env, Item, Goal, Step, step, ◌$◌, move, Seq, aim, ‵, ⋆, mean, nth, del, pull, allocs, frees, alloc1, alloc0}
use types.Logic.{Logic}

module _ {M : Type 1} {𝓤 : Ura M} (𝓛 : Logic 𝓤) (Γ : List (Item 𝓤)) where
  open 𝓛 use {H}

  abbrev pulled : (n : ℕ) (j : Item 𝓤) → nth 𝓛 n Γ ≡ j → ent 𝓤 (⋆ 𝓛 Γ) (sep 𝓤 (mean 𝓛 j) (⋆ 𝓛 (del 𝓛 n Γ)))
  pulled n j e = subst (λ (i : Item 𝓤). ent 𝓤 (⋆ 𝓛 Γ) (sep 𝓤 (mean 𝓛 i) (⋆ 𝓛 (del 𝓛 n Γ)))) e (pull 𝓛 n Γ)

  abbrev freed : (E : Env 𝓤 H) (g : Goal 𝓤 H) (m : ℕ) (τ : Ty) (b : ℕ) → nth 𝓛 m Γ ≡ ‵ (fdies τ b) → ent 𝓤 (⋆ 𝓛 (del 𝓛 m Γ)) (aim 𝓤 H (frees E g))
      → ent 𝓤 (sep 𝓤 (H.room τ b 0) (⋆ 𝓛 Γ)) (aim 𝓤 H (frees ((τ, b) ∷ E) g))
  freed E g m τ b d s =
      via 𝓤 _ (mono_r 𝓤 (H.room τ b 0) (pulled m (‵ (fdies τ b)) d)) (via 𝓤 _ (assoc' 𝓤 (H.room τ b 0) (H.dies τ b) (⋆ 𝓛 (del 𝓛 m Γ))) (mono_r 𝓤 (sep 𝓤 (H.room τ b 0) (H.dies τ b)) s))

module _ {M : Type 1} {𝓤 : Ura M} {𝓛 : Logic 𝓤} {K : Type 0} {Γ : List (Item 𝓤)} {G : Goal 𝓤 𝓛.H} where
  pub pulls : K → (n : ℕ) {j : Item 𝓤} → nth 𝓛 n Γ ≡ j → Step K 𝓛 (j ∷ del 𝓛 n Γ) G Γ G
  pulls t n e = step (λ s. move t (n ∷ []) $ subst (λ (i : Item 𝓤). Seq K 𝓛 (i ∷ del 𝓛 n Γ) G) (sym e) s)

module _ {M : Type 1} {𝓤 : Ura M} {𝓛 : Logic 𝓤} {K : Type 0} {Γ : List (Item 𝓤)} {E : Env 𝓤 𝓛.H} {g : Goal 𝓤 𝓛.H} where
  pub frees_room : K → (n m : ℕ) {τ : Ty} {b : ℕ} → nth 𝓛 n Γ ≡ ‵ (froom τ b 0) → nth 𝓛 m (del 𝓛 n Γ) ≡ ‵ (fdies τ b)
      → Step K 𝓛 (del 𝓛 m (del 𝓛 n Γ)) (frees E g) Γ (frees ((τ, b) ∷ E) g)
  frees_room t n m {τ} {b} e d = step (λ s. record { prf = via 𝓤 _ (pulled 𝓛 Γ n (‵ (froom τ b 0)) e) (freed 𝓛 (del 𝓛 n Γ) E g m τ b d s.prf) })

  pub frees_cell : K → (n m : ℕ) {τ : Ty} {b : ℕ} {v : Val} → nth 𝓛 n Γ ≡ ‵ (fat full_share τ b 0 v) → nth 𝓛 m (del 𝓛 n Γ) ≡ ‵ (fdies τ b)
      → Step K 𝓛 (del 𝓛 m (del 𝓛 n Γ)) (frees E g) Γ (frees ((τ, b) ∷ E) g)
  frees_cell t n m {τ} {b} {v} e d = step (λ s. record {
    prf =
        via 𝓤 _ (pulled 𝓛 Γ n (‵ (fat full_share τ b 0 v)) e)
        (via 𝓤 _ (mono_l 𝓤 (⋆ 𝓛 (del 𝓛 n Γ)) (𝓛.laws.at_room τ b 0 v)) (freed 𝓛 (del 𝓛 n Γ) E g m τ b d s.prf));
  })

module _ {M : Type 1} {𝓤 : Ura M} (𝓛 : Logic 𝓤) where
  open 𝓛 use {H}

  abbrev head : List (Item 𝓤) → Item 𝓤
  head [] = ‵ ftrue
  head (i ∷ Γ) = i

  abbrev tail : List (Item 𝓤) → List (Item 𝓤)
  tail [] = []
  tail (i ∷ Γ) = Γ

  -- entries n and n + 1, then n - 2 and n - 1, and so on; and the others
  abbrev found : ℕ → List Val → List (Item 𝓤) → List (Item 𝓤)
  found n [] Γ = []
  found n (v ∷ vs) Γ = nth 𝓛 n Γ ∷ nth 𝓛 n (del 𝓛 n Γ) ∷ found (n - 2) vs (del 𝓛 n (del 𝓛 n Γ))

  abbrev others : ℕ → List Val → List (Item 𝓤) → List (Item 𝓤)
  others n [] Γ = Γ
  others n (v ∷ vs) Γ = others (n - 2) vs (del 𝓛 n (del 𝓛 n Γ))

  -- the cells of the first locals, with the values vs; and the locals after them
  abbrev cells : List Val → Env 𝓤 H → List (Item 𝓤)
  cells [] E = []
  cells (v ∷ vs) [] = []
  cells (v ∷ vs) ((τ, b) ∷ E) = ‵ (fat full_share τ b 0 v) ∷ ‵ (fdies τ b) ∷ cells vs E

  abbrev after : List Val → Env 𝓤 H → Env 𝓤 H
  after [] E = E
  after (v ∷ vs) [] = []
  after (v ∷ vs) (l ∷ E) = after vs E

module _ {M : Type 1} {𝓤 : Ura M} {𝓛 : Logic 𝓤} {K : Type 0} {g : Goal 𝓤 𝓛.H} where
  open 𝓛 use {H}

  pub frees_cells : K → {Γ : List (Item 𝓤)} {E : Env 𝓤 H} (n : ℕ) (vs : List Val) → found 𝓛 n vs Γ ≡ cells 𝓛 vs E → Step K 𝓛 (others 𝓛 n vs Γ) (frees (after 𝓛 vs E) g) Γ (frees E g)
  frees_cells t n [] e = step (λ s. s)
  frees_cells t {E = []} n (v ∷ vs) e = absurd (omega (arith, ap length e))
  frees_cells t {Γ = Γ} {E = (τ, b) ∷ E} n (v ∷ vs) e = step (λ s. frees_cell t n n (ap (head 𝓛) e) (ap (λ l. head 𝓛 (tail 𝓛 l)) e) $ frees_cells t {Γ = del 𝓛 n (del 𝓛 n Γ)} {E = E} (n - 2) vs (ap (λ l. tail 𝓛 (tail 𝓛 l)) e) $ s)

-- ---- at the start
abbrev pub Blocks : List Local → Type 0
Blocks [] = Unit {0}
Blocks (local τ h ∷ ls) = ℕ × Blocks ls

module _ {M : Type 1} (𝓤 : Ura M) (H : Heap 𝓤) where
  abbrev pub env : (ls : List Local) → Blocks ls → Env 𝓤 H
  env [] bs = []
  env (local τ h ∷ ls) bs = (τ, bs.0) ∷ env ls bs.1

  abbrev pub rooms : (ls : List Local) → Blocks ls → List (Item 𝓤) → List (Item 𝓤)
  rooms [] bs Γ = Γ
  rooms (local τ h ∷ ls) bs Γ = rooms ls bs.1 (‵ (froom τ bs.0 0) ∷ ‵ (fdies τ bs.0) ∷ Γ)

module _ {M : Type 1} {𝓤 : Ura M} {𝓛 : Logic 𝓤} {K : Type 0} where
  open 𝓛 use {H}

  pub allocates : K → {Γ : List (Item 𝓤)} {ls : List Local} {G : Env 𝓤 H → Goal 𝓤 H} → ((bs : Blocks ls) → Seq K 𝓛 (rooms 𝓤 H ls bs Γ) (G (env 𝓤 H ls bs))) → Seq K 𝓛 Γ (allocs ls G)
  allocates t {ls = []} k = alloc0 t $ k tt
  allocates t {Γ = Γ} {ls = local τ h ∷ ls} k = alloc1 t (λ b. allocates t {Γ = ‵ (froom τ b 0) ∷ ‵ (fdies τ b) ∷ Γ} {ls = ls} (λ bs. k (b, bs)))
