-- Behind the header text: bytes are form at their line (more_bytes), and else the rows follow (rows_follow); where the header stops, so does reading (header_stops).
use mathlib.Core.Path.{◌≡◌, ap, ◌∙◌}
use mathlib.Core.List.{List, []}
use Prim.Native.Nat.{ℕ, suc, ◌+◌, ◌≤◌, ◌<◌}
use native.Mathlib.Omega.{arith}
use lib.ListN.{length, drop_of_length-le}
use Rattle.fund.specs.declared.Fund.{Fund}
use Rattle.fund.specs.declared.Refusal.TheVariants.{Form}
use Rattle.fund.specs.Lines.{lines_from}
use Rattle.fund.specs.Reading.{stopped, header_lines}
use Rattle.fund.specs.Sheets.{sheet_rows, read_sheet_rows, read_sheets, sheet_reading}
use Rattle.lines.specs.Header.{HeaderRead}
use Rattle.lines.proofs.Lines.{line_left}
use Rattle.std.specs.Prelude.{Ok, Err}
use Rattle.fund.specs.declared.Refused.{Refused}
use Rattle.sheet_reader.specs.Rows.{rows_from}

module _ (header rates members : List ℕ) where
  pub header_stops : {stop : Refused} → HeaderRead header (Err stop) → sheet_reading header rates members ≡ stopped stop.why stop.place
  unfolding sheet_reading
  header_stops e = e.same (read_sheets (sheet_rows rates members))

  module _ (fund : Fund) (at : ℕ) (e : HeaderRead header (Ok (fund, at))) where
    pub more_bytes : at < length header → sheet_reading header rates members ≡ stopped Form (length header_lines + 1)
    unfolding sheet_reading read_sheets
    more_bytes h =
        let w = line_left header at h in
        let z : suc (length header_lines) ≡ length header_lines + 1 = omega arith in
        e.same (read_sheets (sheet_rows rates members)) ∙ rw w.1.1 (ap (stopped Form) z)

    pub rows_follow : length header ≤ at → sheet_reading header rates members ≡ rows_from fund [] [] (sheet_rows rates members)
    unfolding sheet_reading read_sheets lines_from
    rows_follow h =
        let z : suc (length header_lines) ≡ suc (length header_lines + 0 + 0) = omega arith in
        e.same (read_sheets (sheet_rows rates members)) ∙ rw (drop_of_length-le header h) (ap (λ n. read_sheet_rows n fund [] [] (sheet_rows rates members)) z)
