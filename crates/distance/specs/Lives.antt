-- The lives of a fund in the terms of the expansion: group 1 as its members, group 2 as the weights of its compound Poisson part.
use Rattle.std.specs.Prelude.{◌≡◌, refl, true, List, [], ◌∷◌, ℕ, suc, ◌-◌, ◌*◌, eqb, if◌then◌else◌, None, Option, Some}
use Rattle.std.proofs.Common.{ap, arith}
use Rattle.algebra.specs.Q.{ℚ}
use Rattle.algebra.specs.Embedding.{nat}
use Rattle.algebra.specs.Quotient.{over}
use Rattle.expansion.specs.Member.{Member}
use Rattle.expansion.specs.FoldedMember.{Folded, member}
use Rattle.rounding.specs.Rounding.{up}
use Rattle.fund.specs.declared.Rate.{Rate}
use Rattle.fund.specs.declared.Member.{Member as MemberRow}
use Rattle.fund.specs.declared.Frequencies.{Frequencies}
use Rattle.fund.specs.declared.Life.{Life}
use Rattle.fund.specs.Reading.{FundFile}
use Rattle.fund.specs.Folding.{rate_in_force, folded, life, lives, claim, stay, single}
use Rattle.fund.specs.Transform.{unit, w, lambda}
use Rattle.fund.specs.Exact.{weight_at}
use Rattle.laws.specs.Accepted.{All, Limited}
use Rattle.laws.specs.Copies.{all_lives}

-- a life's share of the truncation figure, in units
abbrev pub share_of : ℕ → Life → ℕ
share_of r m = up (w m (suc r) * stay m) ((stay m - claim m) * suc r)

abbrev pub member_of : ℕ → Life → Member
member_of r m = member m.q m.i (stay m) 1000000 m.d m.e (over (nat (share_of r m)) unit)

unfoldable pub members : ℕ → List Life → List Member
members r [] = []
members r (m ∷ ms) = if single m then member_of r m ∷ members r ms else members r ms

-- the weight at k and lambda, in whole
unfoldable pub W : Frequencies → List Life → ℕ → ℚ
W a ms k = over (nat (weight_at a ms k)) unit

unfoldable pub rate : Frequencies → List Life → ℚ
rate a ms = over (nat (lambda a ms)) unit

-- a rate with amount 0 is 0
pub record FoldedLife (m : Life) : Type 0 where
  pub q_folded : m.d ≡ 0 → m.q ≡ 0
  pub i_folded : m.e ≡ 0 → m.i ≡ 0

fold_rate : (d q : ℕ) → d ≡ 0 → (if eqb d 0 then 0 else q) ≡ 0
fold_rate d q h = ap (λ x. if eqb x 0 then 0 else q) h

folded_life : (o : Option Rate) (m : MemberRow) → FoldedLife (folded o m)
unfolding folded
folded_life None m = record { q_folded = λ h. refl; i_folded = λ h. refl }
folded_life (Some r) m = record { q_folded = fold_rate m.d r.q; i_folded = fold_rate m.e r.i }

pub all_folded : (file : FundFile) → All FoldedLife (lives file)
unfolding life
all_folded file = all_lives FoldedLife file (go file.members)
  where
    go : (l : List MemberRow) → All (λ m. FoldedLife (life file.rates m)) l
    go [] = tt
    go (m ∷ rest) = (folded_life (rate_in_force file.rates m.age) m, go rest)

-- a group 1 life that is accepted
pub limited_folded : (m : Life) → Limited m → FoldedLife m → single m ≡ true → Folded m.q m.i (stay m) 1000000 m.d m.e
limited_folded m c f s =
    let h = c s in
    record { half = omega arith; total = omega arith; q_folded = f.q_folded; i_folded = f.i_folded }
