-- The running sums of an answer: sums of equal cells are equal (running_lent), and F(x) of an accepted fund is the sum of the f that it
-- leaves, up to x (F_cell); its slice keeps its length (length_F). So the answer at a level says what it should of these sums (level_says).
use Rattle.std.specs.Prelude.{◌≡◌, refl, List, map, ℕ, zero, suc, ◌-◌, ◌<◌, ◌≤◌, ℤ, pos, ◌+ℤ◌, get_or, replicate, Ok}
use Rattle.std.proofs.Math.Path.{sym}
use Rattle.std.proofs.Common.{◌∙◌, ap, ap₂, arith}
use Rattle.std.proofs.Math.ListN.{length, length-append, length-replicate, get_or-append}
use Rattle.std.proofs.lemmas.List.{length-map}
use Rattle.fund.specs.declared.Fund.{Fund}
use Rattle.fund.specs.declared.Life.{Life}
use Rattle.fund.specs.Base.{sumℤ, table}
use Rattle.fund.specs.Limits.{most_level}
use Rattle.fund.specs.Reading.{FundFile, Reading, read}
use Rattle.fund.specs.Folding.{lives}
use Rattle.fund.specs.Recursion.{Cell}
use Rattle.fund.specs.Refusals.{Lengths}
use Rattle.fund.specs.Quantile.{running_sum, quantile_of, QuantileSays}
use Rattle.fund.specs.Answer.{fund_cells, lent, Answer, accepted, answer_to}
use Rattle.laws.specs.Accepted.{accepts}
use Rattle.laws.specs.Tables.{length_table, get_or_table}
use Rattle.laws.specs.Slices.{table_ext}
use Rattle.laws.specs.Answer.{fund_cell, fund_cells_are, answer_accepted}
use Rattle.laws.specs.Quantile.{quantile_says}

sums_ext : (n : ℕ) (g h : ℕ → ℤ) → ((k : ℕ) → k < n → g k ≡ h k) → sumℤ n g ≡ sumℤ n h
unfolding sumℤ
sums_ext zero g h e = refl
sums_ext (suc n) g h e = ap₂ ◌+ℤ◌ (sums_ext n g h (λ k l. e k (omega arith))) (e n (omega arith))

get_or_lent : {A : Type 0} (blank : A) (n : ℕ) (l : List A) (a : A) (x : ℕ) → x < length l → get_or (lent blank n l) x a ≡ get_or l x a
unfolding lent
get_or_lent blank n l a x h = get_or-append l (replicate (n - length l) blank) a x h

running_at : (n : ℕ) (fs : List ℤ) (x : ℕ) → x < length fs → running_sum (lent (pos 0) n fs) x ≡ running_sum fs x
unfolding running_sum
running_at n fs x h = sums_ext (suc x) (λ y. get_or (lent (pos 0) n fs) y (pos 0)) (λ y. get_or fs y (pos 0)) (λ k l. get_or_lent (pos 0) n fs (pos 0) k (omega arith))

pub running_lent : (n : ℕ) (fs : List ℤ) (X : ℕ) → X < length fs → table (suc X) (running_sum (lent (pos 0) n fs)) ≡ table (suc X) (running_sum fs)
running_lent n fs X h = table_ext (suc X) (running_sum (lent (pos 0) n fs)) (running_sum fs) (λ k l. running_at n fs k (omega arith))

module _ (fund : Fund) (ms : List Life) where
  abbrev pub fund_fs : List ℤ
  fund_fs = map (λ (y : Cell). y.f) (fund_cells fund ms)

  pub length_fs : length fund_fs ≡ suc fund.horizon
  length_fs = length-map (fund_cells fund ms) (λ (y : Cell). y.f) ∙ ap length (fund_cells_are fund ms) ∙ length_table (suc fund.horizon) (fund_cell fund ms)

  pub length_F : (n : Lengths) → fund.horizon < n.F → length (accepted fund ms n).F ≡ n.F
  unfolding accepted lent
  length_F n l =
      let t = table (suc fund.horizon) (running_sum fund_fs) in
      omega (arith, length-append t (replicate (n.F - length t) (pos 0)), length-replicate (n.F - length t) (pos 0), length_table (suc fund.horizon) (running_sum fund_fs))

  pub F_cell : (n : Lengths) (x : ℕ) → x ≤ fund.horizon → get_or (accepted fund ms n).F x (pos 0) ≡ sumℤ (suc x) (λ y. get_or (accepted fund ms n).f y (pos 0))
  unfolding accepted running_sum
  F_cell n x l =
      get_or_lent (pos 0) n.F (table (suc fund.horizon) (running_sum fund_fs)) (pos 0) x (let w = length_table (suc fund.horizon) (running_sum fund_fs) in omega arith)
      ∙ get_or_table (suc fund.horizon) (running_sum fund_fs) x (pos 0) (omega arith)
      ∙ sym (running_at n.f fund_fs x (let w = length_fs in omega arith))

pub level_says : (text : List ℕ) (n : Lengths) (r : Reading) (fund : FundFile) → r ≡ read fund → (answer_to text n r).verdict ≡ Ok tt → (level : ℕ) → level ≤ most_level →
    QuantileSays level fund.header.horizon (answer_to text n r).F (quantile_of level fund.header.horizon (answer_to text n r).F (answer_to text n r).verdict)
level_says text n r fund is e level l =
    let c = answer_accepted text n r fund is e in
    let long = (accepts fund n (fund_cells fund.header (lives fund)) c.verdict_is).long.sums_long in
    let F = ap (λ (a : Answer). length a.F) c.answer_is in
    rw e (quantile_says level fund.header.horizon (answer_to text n r).F l (omega (arith, F, length_F fund.header (lives fund) n long, long)))
