-- METHOD 4 and 5: from members to the transform: the terms that each life adds to D and to H, lambda, load, truncation figure and mean.
use Rattle.std.specs.Prelude.{Bool, ◌&&◌, ◌||◌, List, [], ◌∷◌, ◌++◌, ℕ, zero, suc, ◌+◌, ◌-◌, ◌*◌, ◌^◌, eqb, leb, ltb, ℤ, pos, ◌+ℤ◌, get_or, replicate, if◌then◌else◌}
use Rattle.rounding.specs.Rounding.{near, up}
use Rattle.fund.specs.declared.Frequencies.{Frequencies}
use Rattle.fund.specs.declared.Life.{Life}
use Rattle.fund.specs.Base.{total, alternate}
use Rattle.fund.specs.Folding.{claim, stay, single}

-- "A unit is 10^-12."
unfoldable pub unit : ℕ
unit = 10 ^ 12

-- Group 1: "v(0,0) = 10^12. For n from 1 to r, l from 0 to n: v(n,l) = nearest((q×v(n-1,l-1) + i×v(n-1,l))/p), missing
-- neighbours 0; a row of thirteen numbers, v(n,0) to v(n,12), passes from n to n + 1."
unfoldable pub next_row : Life → ℕ → List ℕ → List ℕ
next_row m left [] = []
next_row m left (v ∷ vs) = near (m.q * left + m.i * v) (stay m) ∷ next_row m v vs

unfoldable pub row : Life → ℕ → List ℕ
row m zero = unit ∷ replicate 12 0
row m (suc n) = next_row m 0 (row m n)

-- What is added to D and to H at a place.
pub record Term : Type 0 where
  pub place : ℕ
  pub to_d : ℤ
  pub to_h : ℕ

-- "Its place is x = d×l + e×(n-l)."
abbrev pub place_of : Life → ℕ → ℕ → ℕ
place_of m n l = m.d * l + m.e * (n - l)

-- "The term is placed if x is at most X, and q > 0 or l = 0, and i > 0 or l = n."
unfoldable pub placed : ℕ → Life → ℕ → ℕ → Bool
placed X m n l = leb (place_of m n l) X && (ltb 0 m.q || eqb l 0) && (ltb 0 m.i || eqb l n)

-- "A placed term adds nearest(x×v(n,l)/n) to D at x for odd n, subtracts it for even n, and adds x to H at x."
unfoldable pub term_of : Life → ℕ → ℕ → Term
term_of m n l =
    let x = place_of m n l in
    record { place = x; to_d = alternate (suc n) (pos (near (x * get_or (row m n) l 0) n)); to_h = x }

unfoldable pub row_terms : ℕ → Life → ℕ → ℕ → List Term
row_terms X m n zero = []
row_terms X m n (suc l) = row_terms X m n l ++ (if placed X m n l then term_of m n l ∷ [] else [])

unfoldable pub single_terms : ℕ → Life → ℕ → List Term
single_terms X m zero = []
single_terms X m (suc n) = single_terms X m n ++ row_terms X m (suc n) (suc (suc n))

-- METHOD 4 (§5): "a deceased member's place is filled at one frequency, a disabled member's at another". The weights of a member, for
-- `frequency=a,b`: q×a×1000 of death and i×b×1000 of disability.
unfoldable pub death_weight : Frequencies → Life → ℕ
death_weight ab m = m.q * ab.death * 1000

unfoldable pub disability_weight : Frequencies → Life → ℕ
disability_weight ab m = m.i * ab.disability * 1000

-- Group 2, "a with q and b with i": the death weight times d is added to D at d, and the disability weight times e to D at e, "where the
-- place is 1 to X. H gains nothing."
unfoldable pub replaced_term : ℕ → ℕ → ℕ → List Term
replaced_term X w k = if ltb 0 k && leb k X then record { place = k; to_d = pos (w * k); to_h = 0 } ∷ [] else []

unfoldable pub replaced_terms : ℕ → Frequencies → Life → List Term
replaced_terms X ab m = replaced_term X (death_weight ab m) m.d ++ replaced_term X (disability_weight ab m) m.e

-- All terms, member by member.
unfoldable pub terms : ℕ → ℕ → Frequencies → List Life → List Term
terms X r ab [] = []
terms X r ab (m ∷ ms) = (if single m then single_terms X m r else replaced_terms X ab m) ++ terms X r ab ms

-- D and H at a place: what the terms there add up to. "D(0) and H(0) are 0."
unfoldable pub sum_d : ℕ → List Term → ℤ
sum_d k [] = pos 0
sum_d k (t ∷ ts) = (if eqb t.place k then t.to_d else pos 0) +ℤ sum_d k ts

unfoldable pub sum_h : ℕ → List Term → ℕ
sum_h k [] = 0
sum_h k (t ∷ ts) = (if eqb t.place k then t.to_h else 0) + sum_h k ts

unfoldable pub D : List Term → ℕ → ℤ
D ts zero = pos 0
D ts (suc k) = sum_d (suc k) ts

unfoldable pub H : List Term → ℕ → ℕ
H ts zero = 0
H ts (suc k) = sum_h (suc k) ts

-- "Lambda is the sum of (q×a + i×b)×1000", in units, over group 2.
unfoldable pub lambda : Frequencies → List Life → ℕ
lambda ab ms = total (λ m. if single m then 0 else death_weight ab m + disability_weight ab m) ms

-- "Load: lambda plus, over group 1, up(10^12×(q+i)/p)."
unfoldable pub load : Frequencies → List Life → ℕ
load ab ms = lambda ab ms + total (λ m. if single m then up (unit * claim m) (stay m) else 0) ms

-- "Truncation figure E: over group 1, w(0) = 10^12, w(n) = up(w(n-1)×(q+i)/p); add up(w(r+1)×p/((p-q-i)×(r+1)))."
unfoldable pub w : Life → ℕ → ℕ
w m zero = unit
w m (suc n) = up (w m n * claim m) (stay m)

unfoldable pub truncation : ℕ → List Life → ℕ
truncation r ms = total (λ m. if single m then up (w m (suc r) * stay m) ((stay m - claim m) * suc r) else 0) ms

-- "Mean, in units: group 1 (q×d + i×e)×10^6"; group 2 the death weight times d and the disability weight times e. "Amounts beyond X count here."
unfoldable pub mean : Frequencies → List Life → ℕ
mean ab ms = total (λ m. if single m then (m.q * m.d + m.i * m.e) * 10 ^ 6 else death_weight ab m * m.d + disability_weight ab m * m.e) ms
