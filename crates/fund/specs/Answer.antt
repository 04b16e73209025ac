-- METHOD 8: the answer of a pricing call, for given bytes and given lengths of the five result slices.
use Rattle.std.specs.Prelude.{Bool, true, false, List, ◌++◌, map, reverse, ℕ, zero, suc, ◌-◌, ℤ, pos, length, get_or, replicate, if◌then◌else◌, Err, Ok}
use Rattle.fund.specs.declared.Fund.{Fund}
use Rattle.fund.specs.declared.Life.{Life}
use Rattle.fund.specs.declared.Figures.{Figures}
use Rattle.fund.specs.declared.Refusal.{Refusal}
use Rattle.fund.specs.declared.Refusal.TheVariants.{Form, Range, Edition, Deductible, Unmatched, Half, Load, Order, Short, Wide, Cell as CellRefusal}
use Rattle.fund.specs.Verdict.{Verdict, refused_at}
use Rattle.fund.specs.Base.{table}
use Rattle.fund.specs.Lines.{Line, lines}
use Rattle.fund.specs.Reading.{FundFile, Reading, read, stopped, reading}
use Rattle.fund.specs.Folding.{lives}
use Rattle.fund.specs.Transform.{Term, terms, D, H, lambda, truncation, mean}
use Rattle.fund.specs.Recursion.{Cell, start, start_bound, entries, cells}
use Rattle.fund.specs.Premium.{premium, within}
use Rattle.fund.specs.Tariff.{gross}
use Rattle.fund.specs.Refusals.{Lengths, verdict}
use Rattle.fund.specs.Quantile.{running_sum}

-- The figures of the method's steps, whether the fund is accepted or not, from the header's figures and the lives: the terms,
-- the first cell, and the cells of 0 to X.
unfoldable pub fund_terms : Fund → List Life → List Term
fund_terms fund ms = terms fund.horizon fund.order fund.frequency ms

unfoldable pub fund_start : Fund → List Life → Cell
fund_start fund ms =
    let l = lambda fund.frequency ms in
    record { f = start l ms; R = start_bound l ms }

unfoldable pub fund_cells : Fund → List Life → List Cell
fund_cells fund ms = reverse (cells (entries (fund_terms fund ms) fund.horizon) (fund_start fund ms) fund.horizon)

unfoldable pub fund_truncation : Fund → List Life → ℕ
fund_truncation fund ms = truncation fund.order ms

unfoldable pub fund_mean : Fund → List Life → ℕ
fund_mean fund ms = mean fund.frequency ms

unfoldable pub fund_premium : Fund → List Life → ℤ
fund_premium fund ms = premium fund.deductible (fund_mean fund ms) (fund_cells fund ms)

unfoldable pub fund_within : Fund → List Life → ℕ
fund_within fund ms = within fund.deductible (fund_truncation fund ms) (fund_cells fund ms)

unfoldable pub fund_figures : Fund → List Life → Figures
fund_figures fund ms =
    record {
      truncation = fund_truncation fund ms;
      mean = fund_mean fund ms;
      premium = fund_premium fund ms;
      within = fund_within fund ms;
      gross = gross fund.deductible fund.worth (fund_premium fund ms) (fund_within fund ms);
    }

-- "zero for every figure"
abbrev pub no_figures : Figures
no_figures = record { truncation = 0; mean = 0; premium = pos 0; within = 0; gross = 0 }

-- A part of the host's bytes.
pub record Part : Type 0 where
  pub start : ℕ
  pub size : ℕ

abbrev pub empty : Part
empty = record { start = 0; size = 0 }

-- "For a line's refusal the host is handed that line itself, a part of its own bytes without the line feed; for place 0,
-- for number 10 and for a missing line, an empty part."
abbrev pub names_line : Refusal → Bool
names_line Form = true
names_line Range = true
names_line Edition = false
names_line Deductible = false
names_line Unmatched = true
names_line Half = true
names_line Load = false
names_line Order = false
names_line Short = false
names_line Wide = false
names_line CellRefusal = false

unfoldable pub line_at : List ℕ → ℕ → Part
line_at file zero = empty
line_at file (suc before) = get_or (map (λ (l : Line). record { start = l.start; size = length l.text }) (lines file)) before empty

unfoldable pub part : List ℕ → Verdict → Part
part file (Ok tt) = empty
part file (Err stop) = if names_line stop.why then line_at file stop.place else empty

pub record Answer : Type 0 where
  pub verdict : Verdict
  pub part : Part
  pub figures : Figures
  pub D : List ℤ
  pub H : List ℕ
  pub f : List ℤ
  pub R : List ℕ
  pub F : List ℤ

-- "zero for every figure, and zero in every lent result cell"
unfoldable pub refused : List ℕ → Lengths → Verdict → Answer
refused file n v =
    record {
      verdict = v;
      part = part file v;
      figures = no_figures;
      D = replicate n.D (pos 0);
      H = replicate n.H 0;
      f = replicate n.f (pos 0);
      R = replicate n.R 0;
      F = replicate n.F (pos 0);
    }

-- "cells beyond X are zero": n cells that begin with the given ones.
unfoldable pub lent : {A : Type 0} → A → ℕ → List A → List A
lent blank n values = values ++ replicate (n - length values) blank

unfoldable pub accepted : Fund → List Life → Lengths → Answer
accepted fund ms n =
    let X = fund.horizon in
    let ts = fund_terms fund ms in
    let cells = fund_cells fund ms in
    let fs = map (λ (y : Cell). y.f) cells in
    record {
      verdict = (Ok tt);
      part = empty;
      figures = fund_figures fund ms;
      D = lent (pos 0) n.D (table (suc X) (D ts));
      H = lent 0 n.H (table (suc X) (H ts));
      f = lent (pos 0) n.f fs;
      R = lent 0 n.R (map (λ (y : Cell). y.R) cells);
      F = lent (pos 0) n.F (table (suc X) (running_sum fs));
    }

unfoldable pub answer_of : List ℕ → Lengths → FundFile → Verdict → Answer
answer_of file n fund (Ok tt) = accepted fund.header (lives fund) n
answer_of file n fund (Err stop) = refused file n (Err stop)

-- Reading first (1 and 2), then 3 to 10.
unfoldable pub answer_to : List ℕ → Lengths → Reading → Answer
answer_to file n (read fund) = answer_of file n fund (verdict fund n (fund_cells fund.header (lives fund)))
answer_to file n (stopped why place) = refused file n (refused_at why place)

abbrev pub answer : List ℕ → Lengths → Answer
answer file n = answer_to file n (reading file)
