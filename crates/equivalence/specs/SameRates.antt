-- The rates count by q and i alone, whatever row holds them: where two searches give each member alike rates, the lines are the same
-- (same_points) and so are the members without a rate (same_unmatched). Two files that differ in their rate lines alone, and have alike rates
-- in force at each member's age, have the same answer but for the places of lines behind the rate lines (same_answers).
use Rattle.std.specs.Prelude.{◌≡◌, Bool, true, false, not, ◌||◌, List, [], ◌∷◌, map, ℕ, suc, ◌+◌, eqb, ltb, length, if◌then◌else◌, Err, None, Ok, Option, Some}
use Rattle.std.proofs.Math.Path.{refl, ap}
use Rattle.std.proofs.Common.{sym, ◌∙◌, arith}
use Rattle.fund.specs.declared.Fund.{Fund}
use Rattle.fund.specs.declared.Rate.{Rate}
use Rattle.fund.specs.declared.Member.{Member}
use Rattle.fund.specs.declared.Life.{Life}
use Rattle.fund.specs.declared.ModelPoint.{ModelPoint}
use Rattle.fund.specs.declared.Refusal.{Refusal}
use Rattle.fund.specs.declared.Refusal.TheVariants.{Edition, Deductible, Unmatched, Half, Load, Order, Short, Wide}
use Rattle.fund.specs.Verdict.{Verdict, refused_at}
use Rattle.fund.specs.Reading.{FundFile, read, reading}
use Rattle.fund.specs.Folding.{rate_in_force, folded, life, point, points, copies, lives}
use Rattle.fund.specs.Refusals.{number_of, first, unmatched, half_line, Lengths, refuse, at0, first_member, valued, matched, verdict}
use Rattle.fund.specs.Answer.{Answer, fund_cells, refused, accepted, answer_of, answer_to, answer}
use Rattle.laws.specs.Accepted.{All}

-- none and none, or the same q and i
abbrev pub Alike : Option Rate → Option Rate → Type 0
Alike None None = Unit {0}
Alike None (Some s) = ⊥
Alike (Some r) None = ⊥
Alike (Some r) (Some s) = (r.q ≡ s.q) × (r.i ≡ s.i)

pub alike_refl : (o : Option Rate) → Alike o o
alike_refl None = tt
alike_refl (Some r) = (refl, refl)

alike_folded : (o p : Option Rate) (m : Member) → Alike o p → folded o m ≡ folded p m
unfolding folded
alike_folded None None m k = refl
alike_folded None (Some s) m k = absurd k
alike_folded (Some r) None m k = absurd k
alike_folded (Some r) (Some s) m k = rw (k.0, k.1)

abbrev pub is_none : Option Rate → Bool
is_none o = elim o [ None ↦ true | Some r ↦ false ]

alike_none : (o p : Option Rate) → Alike o p → is_none o ≡ is_none p
alike_none None None k = refl
alike_none None (Some s) k = absurd k
alike_none (Some r) None k = absurd k
alike_none (Some r) (Some s) k = refl

first_same : {A : Type 0} (met met' : A → Bool) (l : List A) → All (λ a. met a ≡ met' a) l → (at : ℕ) → first met at l ≡ first met' at l
unfolding first
first_same met met' [] k at = refl
first_same met met' (a ∷ rest) k at = rw (k.0, first_same met met' rest k.1 (suc at))

-- a member line whose lives have this rate
abbrev pub point_at : Option Rate → Member → ModelPoint
point_at o m = record { life = folded o m; lives = m.lives }

-- the rates that two searches give to members
module _ (given given' : ℕ → Option Rate) where
  abbrev pub AlikeFor : List Member → Type 0
  AlikeFor members = All (λ (m : Member). Alike (given m.age) (given' m.age)) members

  pub same_points : (members : List Member) → AlikeFor members → map (λ (m : Member). point_at (given m.age) m) members ≡ map (λ (m : Member). point_at (given' m.age) m) members
  same_points [] k = refl
  same_points (m ∷ members) k = rw (alike_folded (given m.age) (given' m.age) m k.0, same_points members k.1)

  pub same_unmatched : (members : List Member) → AlikeFor members → (at : ℕ) → first (λ (m : Member). is_none (given m.age)) at members ≡ first (λ (m : Member). is_none (given' m.age)) at members
  same_unmatched members k at = first_same _ _ members (all members k) at
    where
      all : (ms : List Member) → AlikeFor ms → All (λ (m : Member). is_none (given m.age) ≡ is_none (given' m.age)) ms
      all [] k = tt
      all (m ∷ ms) k = (alike_none (given m.age) (given' m.age) k.0, all ms k.1)

-- ---- the verdict, by the places of 5 and 6 and the lives
abbrev pub verdict_for : Fund → Lengths → Option ℕ → Option ℕ → List Life → Verdict
verdict_for fund n five six ms =
    refuse Edition (at0 (not (eqb fund.rates fund.members)))
    (refuse Deductible (at0 (ltb (suc fund.horizon) fund.deductible))
    (refuse Unmatched five
    (refuse Half six (valued fund ms n (fund_cells fund ms)))))

-- ---- places that are others
abbrev pub moved : (ℕ → ℕ) → Option ℕ → Option ℕ
moved g None = None
moved g (Some place) = Some (g place)

pub first_moved : {A : Type 0} (met : A → Bool) (k at : ℕ) (l : List A) → first met (k + at) l ≡ moved (λ place. k + place) (first met at l)
unfolding first
first_moved met k at [] = refl
first_moved met k at (a ∷ rest) = go (met a) (ap (λ n. first met n rest) z ∙ first_moved met k (suc at) rest)
  where
    z : suc (k + at) ≡ k + suc at
    z = omega arith

    go : (b : Bool) → first met (suc (k + at)) rest ≡ moved (λ place. k + place) (first met (suc at) rest) →
        (if b then Some (k + at) else first met (suc (k + at)) rest) ≡ moved (λ place. k + place) (if b then Some at else first met (suc at) rest)
    go true e = refl
    go false e = e

-- The lines of 5 and 6 stand behind the rate lines; no other place that follows reading does.
abbrev pub later : (ℕ → ℕ) → Verdict → Verdict
later g (Ok tt) = (Ok tt)
later g (Err stop) = refused_at stop.why (if eqb (number_of stop.why) 5 || eqb (number_of stop.why) 6 then g stop.place else stop.place)

module _ (g : ℕ → ℕ) (why : Refusal) (v : Verdict) where
  stays : (o : Option ℕ) → ((place : ℕ) → later g (refused_at why place) ≡ refused_at why place) → later g (refuse why o v) ≡ refuse why o (later g v)
  unfolding refuse
  stays None h = refl
  stays (Some place) h = h place

  moves : (o : Option ℕ) → ((place : ℕ) → later g (refused_at why place) ≡ refused_at why (g place)) → later g (refuse why o v) ≡ refuse why (moved g o) (later g v)
  unfolding refuse
  moves None h = refl
  moves (Some place) h = h place

valued_stays : (g : ℕ → ℕ) (fund : Fund) (ms : List Life) (n : Lengths) → later g (valued fund ms n (fund_cells fund ms)) ≡ valued fund ms n (fund_cells fund ms)
unfolding valued
valued_stays g fund ms n =
    stays g Load _ _ (λ p. refl)
    ∙ ap (refuse Load _) (stays g Order _ _ (λ p. refl) ∙ ap (refuse Order _) (stays g Short _ _ (λ p. refl) ∙ ap (refuse Short _) (stays g Wide _ _ (λ p. refl))))

pub verdict_later : (g : ℕ → ℕ) (fund : Fund) (n : Lengths) (five six : Option ℕ) (ms : List Life) → verdict_for fund n (moved g five) (moved g six) ms ≡ later g (verdict_for fund n five six ms)
verdict_later g fund n five six ms =
    sym
    (stays g Edition _ _ (λ p. refl)
    ∙ ap (refuse Edition _) (stays g Deductible _ _ (λ p. refl)
    ∙ ap (refuse Deductible _) (moves g Unmatched _ five (λ p. refl)
    ∙ ap (refuse Unmatched _) (moves g Half _ six (λ p. refl) ∙ ap (refuse Half _) (valued_stays g fund ms n)))))

-- ---- two files
-- Two answers that are the same but for the places of 5 and 6: where the second has a place, the first has g of it.
pub record SameButPlaces (g : ℕ → ℕ) (a b : Answer) : Type 0 where
  pub verdict : a.verdict ≡ later g b.verdict
  pub figures : a.figures ≡ b.figures
  pub D : a.D ≡ b.D
  pub H : a.H ≡ b.H
  pub f : a.f ≡ b.f
  pub R : a.R ≡ b.R
  pub F : a.F ≡ b.F

module _ (header : Fund) (rates rates' : List Rate) (members : List Member) (k : ℕ) (more : length rates ≡ k + length rates') (alike : AlikeFor (rate_in_force rates) (rate_in_force rates') members) where
  abbrev fund : FundFile
  fund = record { header = header; rates = rates; members = members }

  abbrev fund' : FundFile
  fund' = record { header = header; rates = rates'; members = members }

  points_same : points fund ≡ points fund'
  unfolding points point life
  points_same = same_points (rate_in_force rates) (rate_in_force rates') members alike

  -- the exact values too are of the lives and the header alone
  pub lives_same : lives fund ≡ lives fund'
  unfolding lives
  lives_same = ap copies points_same

  first_line : first_member fund ≡ k + first_member fund'
  unfolding first_member
  first_line = omega (arith, more)

  five_moved : first (unmatched rates) (first_member fund) members ≡ moved (λ place. k + place) (first (unmatched rates') (first_member fund') members)
  unfolding unmatched
  five_moved =
      same_unmatched (rate_in_force rates) (rate_in_force rates') members alike (first_member fund)
      ∙ ap (λ at. first (unmatched rates') at members) first_line
      ∙ first_moved (unmatched rates') k (first_member fund') members

  six_moved : first half_line (first_member fund) (points fund) ≡ moved (λ place. k + place) (first half_line (first_member fund') (points fund'))
  six_moved = ap (first half_line (first_member fund)) points_same ∙ ap (λ at. first half_line at (points fund')) first_line ∙ first_moved half_line k (first_member fund') (points fund')

  verdict_moved : (n : Lengths) → verdict fund n (fund_cells header (lives fund)) ≡ later (λ place. k + place) (verdict fund' n (fund_cells header (lives fund')))
  unfolding verdict matched
  verdict_moved n =
      ap (λ o. verdict_for header n o (first half_line (first_member fund) (points fund)) (lives fund)) five_moved
      ∙ ap (λ o. verdict_for header n (moved (λ place. k + place) (first (unmatched rates') (first_member fund') members)) o (lives fund)) six_moved
      ∙ ap (verdict_for header n (moved (λ place. k + place) (first (unmatched rates') (first_member fund') members)) (moved (λ place. k + place) (first half_line (first_member fund') (points fund')))) lives_same
      ∙ verdict_later (λ place. k + place) header n (first (unmatched rates') (first_member fund') members) (first half_line (first_member fund') (points fund')) (lives fund')

  pub same_answers : (file file' : List ℕ) (n : Lengths) → reading file ≡ read fund → reading file' ≡ read fund' → SameButPlaces (λ place. k + place) (answer file n) (answer file' n)
  unfolding answer_to answer_of refused accepted
  same_answers file file' n is is' = rw (is, is', verdict_moved n) (go (verdict fund' n (fund_cells header (lives fund'))))
    where
      go : (v : Verdict) → SameButPlaces (λ place. k + place) (answer_of file n fund (later (λ place. k + place) v)) (answer_of file' n fund' v)
      go (Ok tt) = rw lives_same (record { verdict = refl; figures = refl; D = refl; H = refl; f = refl; R = refl; F = refl })
      go (Err stop) = record { verdict = refl; figures = refl; D = refl; H = refl; f = refl; R = refl; F = refl }
