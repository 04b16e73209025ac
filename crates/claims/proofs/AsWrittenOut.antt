-- What is left is the answer to the file, and so that of the file with its member lines written out, but for the places of 5 and 6 (as_written_out).
use mathlib.Core.Path.{◌≡◌, refl, sym, ◌∙◌, ap}
use mathlib.Core.Bool.{◌||◌}
use mathlib.Core.List.{List}
use Prim.Native.Nat.{ℕ}
use lib.Dec.{eqb}
use lib.IntN.{ℤ}
use Rattle.fund.specs.Verdict.{Verdict}
use Rattle.std.specs.Prelude.{if◌then◌else◌, Err, Ok}
use Rattle.fund.specs.Reading.{FundFile, read, reading}
use Rattle.fund.specs.Refusals.{Lengths, number_in, place_in}
use Rattle.fund.specs.Quantile.{quantile_of}
use Rattle.fund.specs.Answer.{answer}
use Rattle.fund.specs.Listing.{horizon_in}
use Rattle.equivalence.specs.SameRates.{later}
use Rattle.equivalence.specs.WrittenOut.{out_file, out_place}
use Rattle.equivalence.specs.WrittenFile.{out_text, out_read, out_priced}
use Rattle.pricing.specs.Priced.{horizon_with}
use Rattle.claims.specs.Demands.{Received}
use Rattle.claims.specs.WrittenOut.{PricedWrittenOut}
use Rattle.claims.proofs.DemandsHold.{Answered}

-- a verdict with another place
module _ (g : ℕ → ℕ) where
  number_later : (v : Verdict) → number_in v ≡ number_in (later g v)
  number_later (Ok tt) = refl
  number_later (Err stop) = refl

  place_later : (v : Verdict) → place_in (later g v) ≡ (if eqb (number_in v) 5 || eqb (number_in v) 6 then g (place_in v) else place_in v)
  place_later (Ok tt) = refl
  place_later (Err stop) = refl

  horizon_later : (v : Verdict) (X : ℕ) → horizon_with v X ≡ horizon_with (later g v) X
  horizon_later (Ok tt) X = refl
  horizon_later (Err stop) X = refl

  quantile_later : (level X : ℕ) (F : List ℤ) (v : Verdict) → quantile_of level X F v ≡ quantile_of level X F (later g v)
  quantile_later level X F (Ok tt) = refl
  quantile_later level X F (Err stop) = refl

same_horizon : (fund : FundFile) → horizon_in (read fund) ≡ horizon_in (read (out_file fund))
unfolding horizon_in
same_horizon fund = refl

module _ (file : List ℕ) (level : ℕ) (n : Lengths) (o : Received) (k : Answered file (reading file) level n o) where
  pub as_written_out : PricedWrittenOut file level n o
  as_written_out fund is =
      let g = out_place fund in
      let v = (answer file n).verdict in
      let s = out_priced file fund is n in
      let w = sym s.verdict in
      record {
        number = k.refuses.number ∙ number_later g v ∙ ap number_in w;
        place = ap place_in s.verdict ∙ place_later g v ∙ ap (λ x. if eqb x 5 || eqb x 6 then g (place_in v) else place_in v) (sym k.refuses.number) ∙ ap (λ x. if eqb o.number 5 || eqb o.number 6 then g x else x) (sym k.refuses.place);
        horizon =
            k.horizon
            ∙ horizon_later g v (horizon_in (reading file))
            ∙ ap (λ x. horizon_with x (horizon_in (reading file))) w
            ∙ ap (horizon_with (answer (out_text file fund) n).verdict) (ap horizon_in is ∙ same_horizon fund ∙ ap horizon_in (sym (out_read file fund is)));
        method =
            record {
              figures = k.method.figures ∙ sym s.figures;
              D = k.method.D ∙ sym s.D;
              H = k.method.H ∙ sym s.H;
              f = k.method.f ∙ sym s.f;
              R = k.method.R ∙ sym s.R;
              F = k.method.F ∙ sym s.F;
            };
        quantile = k.quantile ∙ ap (λ fs. quantile_of level o.horizon fs v) (k.method.F ∙ sym s.F) ∙ quantile_later g level o.horizon (answer (out_text file fund) n).F v ∙ ap (quantile_of level o.horizon (answer (out_text file fund) n).F) w;
      }
