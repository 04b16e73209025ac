-- The test of a header and a table tells whether they are in their ranges (inside_tells), and so do the program's (point_is, all_is, inside_is).
use mathlib.Core.Path.{◌≡◌, refl, sym, ap, ◌∙◌}
use native.Mathlib.Omega.{arith}
use lib.ListN.{length}
use Rattle.std.specs.List.{list_all}
use mathlib.Core.Bool.{Bool, true, false, true≢false, not, ◌&&◌, ◌||◌}
use mathlib.Core.List.{List, [], ◌∷◌}
use Prim.Native.Nat.{ℕ, min, ◌+◌, ◌≤◌}
use lib.Dec.{leb, ltb, eqb}
use Rattle.fund.specs.declared.Frequencies.{Frequencies}
use Rattle.fund.specs.declared.Fund.{Fund}
use Rattle.fund.specs.declared.Life.{Life}
use Rattle.fund.specs.declared.ModelPoint.{ModelPoint}
use Rattle.fund.specs.Folding.{claim, single}
use Rattle.fund.specs.Limits.{most_members, most_lives, half_rate}
use Rattle.laws.specs.Accepted.{All, Limited}
use Rattle.laws.specs.Copies.{lives_of}
use Rattle.laws.specs.Ranges.{FrequenciesOk}
use Rattle.laws.specs.Tells.{Tells, tells_as, tells_lt, tells_eq, tells_same}
use Rattle.widths.specs.Lives.{InRange}
use Rattle.totals.specs.Inside.{HeaderIn, frequencies_inside, header_inside, folded_rate, life_inside, point_inside, all_inside, inside}
use Rattle.totals.specs.Table.{PointIn, Points}
use Rattle.totals.proofs.Conjunctions.{at_most as le}

tells_and : {P Q : Type 0} (a b : Bool) → Tells a P → Tells b Q → Tells (a && b) (P × Q)
tells_and true b p q = record { yes = λ e. (p.yes refl, q.yes e); no = λ h. q.no h.1 }
tells_and false b p q = record { yes = λ e. absurd (true≢false (sym e)); no = λ h. absurd (true≢false (sym (p.no h.0))) }

tells_if : {P Q : Type 0} (a b : Bool) → Tells a P → Tells b Q → Tells (not a || b) (P → Q)
tells_if true b p q = record { yes = λ e h. q.yes e; no = λ f. q.no (f (p.yes refl)) }
tells_if false b p q = record { yes = λ e h. absurd (true≢false (sym (p.no h))); no = λ f. refl }

eq : (m n : ℕ) → Tells (eqb m n) (m ≡ n)
eq m n = tells_eq m n (λ h. h) (λ h. h)

frequencies_tell : (ab : Frequencies) → Tells (frequencies_inside ab) (FrequenciesOk ab)
unfolding frequencies_inside
frequencies_tell ab = tells_as (tells_and _ _ (le _ _) (le _ _)) (λ h. record { death = h.0; disability = h.1 }) (λ h. (h.death, h.disability))

header_tells : (fund : Fund) → Tells (header_inside fund) (HeaderIn fund)
unfolding header_inside
header_tells fund =
    tells_as
    (tells_and _ _ (le _ _) (tells_and _ _ (le _ _) (tells_and _ _ (frequencies_tell fund.frequency) (tells_and _ _ (le _ _) (tells_and _ _ (le _ _) (le _ _))))))
    (λ h. record { horizon = h.0; order = h.1.0; frequency = h.1.1.0; deductible = h.1.1.1.0; worth_least = h.1.1.1.1.0; worth_most = h.1.1.1.1.1 })
    (λ h. (h.horizon, (h.order, (h.frequency, (h.deductible, (h.worth_least, h.worth_most))))))

folded_tells : (rate amount : ℕ) → Tells (folded_rate rate amount) (amount ≡ 0 → rate ≡ 0)
unfolding folded_rate
folded_tells rate amount = tells_if (eqb amount 0) (eqb rate 0) (eq amount 0) (eq rate 0)

limited_tells : (m : Life) → Tells (not (single m) || ltb (claim m) half_rate) (Limited m)
limited_tells m = tells_if (single m) (ltb (claim m) half_rate) (record { yes = λ e. e; no = λ e. e }) (tells_lt _ _ (λ h. h) (λ h. h))

pub life_tells : (m : Life) → Tells (life_inside m) (InRange m)
unfolding life_inside
life_tells m =
    tells_as
    (tells_and _ _ (le _ _) (tells_and _ _ (le _ _) (tells_and _ _ (le _ _) (tells_and _ _ (limited_tells m)
    (tells_and _ _ (le _ _) (tells_and _ _ (le _ _) (tells_and _ _ (folded_tells m.q m.d) (folded_tells m.i m.e))))))))
    (λ h. record {
      group_least = h.0;
      group_most = h.1.0;
      rates = h.1.1.0;
      limited = h.1.1.1.0;
      death = h.1.1.1.1.0;
      disability = h.1.1.1.1.1.0;
      no_death = h.1.1.1.1.1.1.0;
      no_disability = h.1.1.1.1.1.1.1;
    })
    (λ h. (h.group_least, (h.group_most, (h.rates, (h.limited, (h.death, (h.disability, (h.no_death, h.no_disability))))))))

pub point_tells : (p : ModelPoint) → Tells (point_inside p) (PointIn p)
unfolding point_inside
point_tells p = tells_as (tells_and _ _ (life_tells p.life) (le _ _)) (λ h. record { life_in = h.0; lives_most = h.1 }) (λ h. (h.life_in, h.lives_most))

pub all_tells : (ps : List ModelPoint) → Tells (all_inside ps) (All PointIn ps)
unfolding all_inside
all_tells [] = record { yes = λ e. tt; no = λ h. refl }
all_tells (p ∷ ps) = tells_and (point_inside p) (all_inside ps) (point_tells p) (all_tells ps)

points_tell : (ps : List ModelPoint) → Tells (leb (lives_of ps) most_lives && all_inside ps) (Points ps)
points_tell ps = tells_as (tells_and _ (all_inside ps) (le (lives_of ps) most_lives) (all_tells ps)) (λ h. record { few = h.0; in_range = h.1 }) (λ h. (h.few, h.in_range))

pub inside_tells : (fund : Fund) (count : ℕ) (ps : List ModelPoint) → Tells (inside fund count ps) ((count ≤ most_members) × (HeaderIn fund × Points ps))
unfolding inside
inside_tells fund count ps = tells_and (leb count most_members) _ (le count most_members) (tells_and (header_inside fund) _ (header_tells fund) (points_tell ps))

-- ---- the tests that the program makes
pub point_is : (p : ModelPoint) (b r : Bool) → Tells b (InRange p.life) → r ≡ (b && leb p.lives most_lives) → r ≡ point_inside p
unfolding point_inside
point_is p b r t e = e ∙ ap (λ a. a && leb p.lives most_lives) (tells_same b (life_inside p.life) t (life_tells p.life))

pub all_is : (ps : List ModelPoint) → list_all point_inside ps ≡ all_inside ps
unfolding all_inside
all_is [] = refl
all_is (p ∷ ps) = ap (λ b. point_inside p && b) (all_is ps)

-- the count, then the header with the lives, capped above their limit, then the lines
pub inside_is : (fund : Fund) (ps : List ModelPoint) (k : ℕ) (b r : Bool) → k ≡ min (lives_of ps) (most_lives + 1) → Tells b ((k ≤ most_lives) × HeaderIn fund) →
    r ≡ (leb (length ps) most_members && (b && all_inside ps)) → r ≡ inside fund (length ps) ps
unfolding inside
inside_is fund ps k b r e t g =
    g
    ∙ ap (λ x. leb (length ps) most_members && x)
    (tells_same (b && all_inside ps) (header_inside fund && (leb (lives_of ps) most_lives && all_inside ps))
    (tells_and b (all_inside ps) t (all_tells ps))
    (tells_as (tells_and (header_inside fund) _ (header_tells fund) (tells_and (leb (lives_of ps) most_lives) (all_inside ps) (le _ _) (all_tells ps)))
    (λ h. ((omega (arith, e, h.1.0), h.0), h.1.1))
    (λ h. (h.0.1, (omega (arith, e, h.0.0), h.1)))))
