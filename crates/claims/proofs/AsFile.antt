-- What is left is the answer to the sheets, and so that of the file with the same rows (as_file).
use mathlib.Core.Path.{◌∙◌, ap}
use mathlib.Core.List.{List}
use Prim.Native.Nat.{ℕ}
use Rattle.fund.specs.Verdict.{Verdict}
use Rattle.fund.specs.Reading.{Reading}
use Rattle.fund.specs.Refusals.{Lengths, number_in, place_in}
use Rattle.fund.specs.Quantile.{quantile_of}
use Rattle.fund.specs.Answer.{Answer, answer_to, answer}
use Rattle.fund.specs.Listing.{horizon_in}
use Rattle.fund.specs.Sheets.{sheet_reading, file_with}
use Rattle.equivalence.specs.SheetFile.{same_reading}
use Rattle.equivalence.specs.SheetAnswer.{no_part, same_answer}
use Rattle.pricing.specs.Priced.{horizon_with}
use Rattle.claims.specs.Demands.{Received, part_bytes}
use Rattle.claims.specs.Sheets.{PricedAsFile}
use Rattle.claims.proofs.DemandsHold.{Answered}

module _ (header rates members : List ℕ) (level : ℕ) (n : Lengths) (o : Received) (k : Answered header (sheet_reading header rates members) level n o) where
  pub as_file : PricedAsFile header rates members level n o
  as_file =
      record {
        no_line_lem = λ alone e. k.refuses.line ∙ ap (part_bytes header) (no_part header alone e rates members n);
        same = λ alone rs ms e w.
            let s = same_answer header rates members rs ms alone e w n in
            let r = same_reading header rates members rs ms alone e w in
            let v = ap (λ (a : Answer). a.verdict) s in
            record {
              number = k.refuses.number ∙ ap number_in v;
              place = k.refuses.place ∙ ap place_in v;
              horizon = k.horizon ∙ ap (λ (x : Verdict). horizon_with x (horizon_in (sheet_reading header rates members))) v ∙ ap (λ (x : Reading). horizon_with (answer (file_with header rs ms) n).verdict (horizon_in x)) r;
              method =
                  record {
                    figures = k.method.figures ∙ ap (λ (a : Answer). a.figures) s;
                    D = k.method.D ∙ ap (λ (a : Answer). a.D) s;
                    H = k.method.H ∙ ap (λ (a : Answer). a.H) s;
                    f = k.method.f ∙ ap (λ (a : Answer). a.f) s;
                    R = k.method.R ∙ ap (λ (a : Answer). a.R) s;
                    F = k.method.F ∙ ap (λ (a : Answer). a.F) s;
                  };
              quantile = k.quantile ∙ ap (λ (fs : List _). quantile_of level o.horizon fs (answer_to header n (sheet_reading header rates members)).verdict) (k.method.F ∙ ap (λ (a : Answer). a.F) s) ∙ ap (quantile_of level o.horizon (answer (file_with header rs ms) n).F) v;
            };
      }
