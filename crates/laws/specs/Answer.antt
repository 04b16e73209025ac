-- The answer of a call that accepts: a fund was read (accepted_read), no refusal's condition holds, and the answer is the fund's
-- figures (answer_accepted). The cells it leaves are those of the sequence (f_cell, R_cell). An empty file has no line (no_line_lem).
use Rattle.std.specs.Prelude.{◌≡◌, refl, Bool, true, false, List, [], map, ℕ, zero, suc, ◌-◌, ◌<◌, ◌≤◌, pos, length, replicate, if◌then◌else◌, Err, Ok}
use Rattle.std.proofs.Common.{sym, ◌∙◌, arith}
use Rattle.std.proofs.Math.Path.{ap}
use Rattle.std.proofs.Math.ListN.{get_or, get_or-append}
use Rattle.fund.specs.declared.Fund.{Fund}
use Rattle.fund.specs.declared.Life.{Life}
use Rattle.fund.specs.Verdict.{Verdict, refused_at}
use Rattle.fund.specs.Base.{table}
use Rattle.fund.specs.Lines.{lines, lines_from}
use Rattle.fund.specs.Reading.{FundFile, Reading, read, stopped}
use Rattle.fund.specs.Folding.{lives}
use Rattle.fund.specs.Recursion.{Cell}
use Rattle.fund.specs.Refusals.{Lengths, verdict}
use Rattle.fund.specs.Answer.{empty, names_line, line_at, part, fund_terms, fund_start, fund_cells, refused, lent, accepted, answer_of, answer_to}
use Rattle.laws.specs.Tables.{length_table, get_or_table, map_table}
use Rattle.laws.specs.Cells.{term_cell, cells_are}

pub record Read (r : Reading) : Type 0 where
  pub fund : FundFile
  pub is_read : r ≡ read fund

not_accepted : (text : List ℕ) (n : Lengths) (why : _) (place : ℕ) → (refused text n (refused_at why place)).verdict ≡ Ok tt → ⊥
unfolding refused
not_accepted text n why place e = let z : ◌≡◌ {A = ℕ} 0 1 = cc in omega arith

pub accepted_read : (text : List ℕ) (n : Lengths) (r : Reading) → (answer_to text n r).verdict ≡ Ok tt → Read r
unfolding answer_to
accepted_read text n (read fund) e = record { fund = fund; is_read = refl }
accepted_read text n (stopped why place) e = absurd (not_accepted text n why place e)

pub record Accepting (text : List ℕ) (n : Lengths) (r : Reading) (fund : FundFile) : Type 0 where
  pub verdict_is : verdict fund n (fund_cells fund.header (lives fund)) ≡ Ok tt
  pub answer_is : answer_to text n r ≡ accepted fund.header (lives fund) n

pub answer_accepted : (text : List ℕ) (n : Lengths) (r : Reading) (fund : FundFile) → r ≡ read fund → (answer_to text n r).verdict ≡ Ok tt → Accepting text n r fund
unfolding answer_to answer_of
answer_accepted text n r fund is e = go (verdict fund n (fund_cells fund.header (lives fund))) refl (ap (λ s. (answer_to text n s).verdict) (sym is) ∙ e)
  where
    go : (v : Verdict) → verdict fund n (fund_cells fund.header (lives fund)) ≡ v → (answer_of text n fund v).verdict ≡ Ok tt → Accepting text n r fund
    go (Ok tt) s h = record { verdict_is = s; answer_is = ap (answer_to text n) is ∙ ap (answer_of text n fund) s }
    go (Err stop) s h = absurd (not_accepted text n stop.why stop.place h)

lent_at : {A : Type 0} (blank : A) (n k x : ℕ) (g : ℕ → A) → x < k → get_or (lent blank n (table k g)) x blank ≡ g x
unfolding lent
lent_at blank n k x g l =
    get_or-append (table k g) (replicate (n - length (table k g)) blank) blank x (let w = length_table k g in omega arith) ∙ get_or_table k g x blank l

-- an empty file has no line to hand back
pub no_line_lem : (v : Verdict) → part [] v ≡ empty
unfolding part line_at lines lines_from
no_line_lem (Ok tt) = refl
no_line_lem (Err stop) = go (names_line stop.why) stop.place
  where
    go : (b : Bool) (at : ℕ) → (if b then line_at [] at else empty) ≡ empty
    go true zero = refl
    go true (suc before) = refl
    go false at = refl

-- ---- the cells
module _ (fund : Fund) (ms : List Life) where
  abbrev pub fund_cell : ℕ → Cell
  fund_cell = term_cell (fund_terms fund ms) fund.horizon (fund_start fund ms)

  pub fund_cells_are : fund_cells fund ms ≡ table (suc fund.horizon) fund_cell
  unfolding fund_cells
  fund_cells_are = cells_are _ (fund_start fund ms) fund.horizon

  pub f_cell : (n : Lengths) (x : ℕ) → x ≤ fund.horizon → get_or (accepted fund ms n).f x (pos 0) ≡ (fund_cell x).f
  unfolding accepted
  f_cell n x l =
      ap (λ c. get_or (lent (pos 0) n.f (map (λ (y : Cell). y.f) c)) x (pos 0)) fund_cells_are
      ∙ ap (λ c. get_or (lent (pos 0) n.f c) x (pos 0)) (map_table (λ (y : Cell). y.f) (suc fund.horizon) fund_cell)
      ∙ lent_at (pos 0) n.f (suc fund.horizon) x (λ k. (fund_cell k).f) (omega arith)

  pub R_cell : (n : Lengths) (x : ℕ) → x ≤ fund.horizon → get_or (accepted fund ms n).R x 0 ≡ (fund_cell x).R
  unfolding accepted
  R_cell n x l =
      ap (λ c. get_or (lent 0 n.R (map (λ (y : Cell). y.R) c)) x 0) fund_cells_are
      ∙ ap (λ c. get_or (lent 0 n.R c) x 0) (map_table (λ (y : Cell). y.R) (suc fund.horizon) fund_cell)
      ∙ lent_at 0 n.R (suc fund.horizon) x (λ k. (fund_cell k).R) (omega arith)
