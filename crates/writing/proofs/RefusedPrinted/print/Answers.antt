-- The key, the number with its comma, and the place with the line feed.
use mathlib.Core.Path.{◌≡◌}
use mathlib.Core.List.{[], ◌∷◌, ◌++◌, append_assoc}
use Prim.Native.Nat.{ℕ}
use Rattle.fund.specs.declared.Refusal.{Refusal}
use Rattle.fund.specs.Base.{bytes}
use Rattle.fund.specs.Refusals.{number_of}
use Rattle.fund.specs.Listing.{decimal, joined, refused_line}
use Rattle.writing.proofs.PieceLaws.{puts_as, puts_then}
use Rattle.writing.proofs.RefusedPrinted.print.Goals as goal

pieces : (why : Refusal) (place : ℕ) → refused_line why place ≡ bytes "refused=" ++ ((decimal (number_of why) ++ (44 ∷ [])) ++ (decimal place ++ (10 ∷ [])))
unfolding refused_line joined
pieces why place = simp append_assoc

pub returns : goal.returns
unfolding bytes
returns c = puts_as _ (pieces _ _) (puts_then c.key.ensures (puts_then (rw c.from.ensures at c.figure.ensures) c.figure-2.ensures))
