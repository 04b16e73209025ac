-- The walk that multiplies by p of each group 1 member: what is multiplied so far, multiplied on by the lives of the lines to come, is the
-- whole product.
use Rattle.std.proofs.Common.{◌≡◌, ℕ, ◌+◌, ◌*◌, ◌≤◌, Bool, List, [], ◌∷◌, length, replicate, refl, sym, ap, ◌∙◌, arith}
use Rattle.std.proofs.Math.Nat as N
use Rattle.fund.specs.declared.ModelPoint.{ModelPoint}
use Rattle.fund.specs.Base.{total}
use Rattle.fund.specs.Folding.{copies}
use Rattle.fund.specs.Limits.{most_lives}
use Rattle.fund.specs.Recursion.{multiplied}
use Rattle.laws.specs.Accepted.{All}
use Rattle.laws.specs.Copies.{total_copies, length_copies}
use Rattle.widths.specs.Lives.{InRange}
use Rattle.widths.specs.PartBounds.{by_group}
use Rattle.widths.specs.Sums.{total_bound}
use Rattle.whole.specs.Sign.{signed}
use Rattle.totals.specs.declared.product.Product.{Product}
use Rattle.totals.specs.Table.{PointIn, Points, members_of_lem}
use Rattle.start.specs.Terms.{most_t}
use Rattle.totals.specs.Product.{count_one, Times, Multiplied}
use Rattle.totals.proofs.StartProduct.{multiplied_append}

pub record ProductSoFar (ps : List ModelPoint) (x : ℕ) (rest : List ModelPoint) (r : Product) : Type 0 where
  pub needed : Points ps × (x ≤ 200 * most_t)
  pub rest_in : All PointIn rest
  pub product : (s : Bool) → multiplied (signed s r.size) (copies rest) ≡ multiplied (signed s x) (copies ps)
  pub within : r.size ≤ x
  pub count : r.singles + total count_one (copies rest) ≡ total count_one (copies ps)

pub product_first : (ps : List ModelPoint) (x : ℕ) → Points ps × (x ≤ 200 * most_t) → ProductSoFar ps x ps (record { size = x; singles = 0 })
product_first ps x n = record { needed = n; rest_in = n.0.in_range; product = λ s. refl; within = N.le_refl x; count = N.zero-add (total count_one (copies ps)) }

pub product_more : (ps : List ModelPoint) (x : ℕ) (p : ModelPoint) (rest : List ModelPoint) (r : Product) → ProductSoFar ps x (p ∷ rest) r → (r' : Product) → Times p r r' → ProductSoFar ps x rest r'
unfolding copies total
product_more ps x p rest r i r' g =
    record {
      needed = i.needed;
      rest_in = i.rest_in.1;
      product = λ s. ap (λ f. multiplied f (copies rest)) (sym (g.size_is.product s)) ∙ sym (multiplied_append (signed s r.size) (replicate p.lives p.life) (copies rest)) ∙ i.product s;
      within = N.le_trans g.size_is.within i.within;
      count = omega (arith, i.count, g.count_is, total_copies count_one (p ∷ rest), total_copies count_one rest);
    }

-- the members of group 1 are some of the lives
count_most : (ps : List ModelPoint) → Points ps → total count_one (copies ps) ≤ length (copies ps)
count_most ps n = omega (arith, total_bound InRange count_one 1 (λ m r. by_group m 1 0 1 (λ e. omega arith) (omega arith)) (copies ps) (members_of_lem ps n).in_range)

pub product_asks : (ps : List ModelPoint) (x : ℕ) (p : ModelPoint) (rest : List ModelPoint) (r : Product) → ProductSoFar ps x (p ∷ rest) r →
    PointIn p × (r.size ≤ 200 * most_t) × (r.singles ≤ most_lives)
product_asks ps x p rest r i = (i.rest_in.0, omega (arith, i.within, i.needed.1), omega (arith, i.count, count_most ps i.needed.0, length_copies ps, i.needed.0.few))

pub product_all : (ps : List ModelPoint) (x : ℕ) (r : Product) → ProductSoFar ps x [] r → Multiplied (copies ps) x r
unfolding copies multiplied total
product_all ps x r i = record { size_is = record { product = λ s. sym (i.product s); within = i.within }; count = omega (arith, i.count); count_within = omega (arith, i.count, count_most ps i.needed.0) }
