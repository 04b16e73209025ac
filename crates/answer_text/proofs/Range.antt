-- The range test as facts (in_range), and what `listing` writes where it holds and where it does not.
use mathlib.Core.Path.{◌≡◌, ap}
use mathlib.Core.Bool.{true, false}
use mathlib.Core.List.{List, [], append_assoc}
use Prim.Native.Nat.{ℕ, suc, ◌+◌, ◌≤◌, ◌<◌}
use native.Mathlib.Numerals.{add-one}
use native.Mathlib.Omega.{arith}
use Rattle.std.proofs.lemmas.Bool.Decides.{nat_tests}
use lib.IntN.{ℤ}
use lib.ListN.{length, take}
use Rattle.std.specs.Prelude.{if◌then◌else◌}
use Rattle.fund.specs.Limits.{most_horizon, most_truncation}
use Rattle.fund.specs.Answer.{Answer}
use Rattle.fund.specs.Listing.{printed, listed}
use Rattle.answer_text.specs.Shown.{room, bounded, printable, listing_of}
use Rattle.answer_text.specs.Pieces.{head, foot, accepted_lines, PrintableCells}

pub record Printable (E X cells : ℕ) (R : List ℕ) (sums size : ℕ) : Type 0 where
  pub horizon : X ≤ most_horizon
  pub enough_f : X < cells
  pub enough_R : X < length R
  pub enough_F : X < sums
  pub truncation : E ≤ most_truncation
  pub enough_text : room ≤ size
  pub bounds : bounded (take (suc X) R) ≡ true

pub in_range : (E X cells : ℕ) (R : List ℕ) (sums size : ℕ) → printable E X cells R sums size ≡ true → Printable E X cells R sums size
unfolding printable
in_range E X cells R sums size e =
    record {
      horizon = grind (arith, nat_tests, e);
      enough_f = grind (arith, nat_tests, e);
      enough_R = grind (arith, nat_tests, e);
      enough_F = grind (arith, nat_tests, e);
      truncation = grind (arith, nat_tests, e);
      enough_text = grind (arith, nat_tests, e);
      bounds = grind (arith, nat_tests, e);
    }

-- The figures of the cells 0 to X.
pub given : {E X : ℕ} (f : List ℤ) (R : List ℕ) (F : List ℤ) {size : ℕ} → Printable E X (length f) R (length F) size → PrintableCells E f R F (X + 1)
given f R F h =
    record {
      enough_f = omega arith;
      enough_R = omega arith;
      enough_F = omega arith;
      most = omega arith;
      truncation = h.truncation;
      bounds = rw add-one h.bounds;
    }

module _ (a : Answer) (X size : ℕ) where
  pub listing_out : printable a.figures.truncation X (length a.f) a.R (length a.F) size ≡ false → listing_of a X size ≡ []
  unfolding listing_of
  listing_out e = ap (λ b. if b then printed a X a.verdict else []) e

  pub listing_in : printable a.figures.truncation X (length a.f) a.R (length a.F) size ≡ true → listing_of a X size ≡ printed a X a.verdict
  unfolding listing_of
  listing_in e = ap (λ b. if b then printed a X a.verdict else []) e

  pub listed_lines : listed X a ≡ accepted_lines a.figures a.f a.R a.F (X + 1)
  unfolding listed accepted_lines head foot
  listed_lines = rw add-one (simp append_assoc)
