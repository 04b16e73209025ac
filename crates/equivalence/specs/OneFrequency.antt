-- METHOD 4 (§5): "A file with a = b gives the old figures." Where both frequencies are a, the answer is the one that the formulas for
-- group 2 with one frequency give (as_before), and the exact values and the exact premium are those of its weights (exact_as_before, premium_as_before).
use Rattle.std.specs.Prelude.{◌≡◌, Bool, true, false, eqb, ltb, ℤ, pos, neg_ℤ, ◌+ℤ◌, ◌-ℤ◌, ◌*ℤ◌, if◌then◌else◌, Err, Ok}
use Rattle.std.proofs.Math.Path.{refl, ap, ap₂, fun_ext}
use Rattle.std.proofs.Common.{sym, ◌∙◌, mul_assoc, mul_comm, arith}
use mathlib.Core.List.{List, [], ◌∷◌, ◌++◌, map, reverse}
use Prim.Native.Nat.{ℕ, zero, suc, ◌+◌, ◌-◌, ◌*◌, ◌^◌}
use Rattle.std.proofs.Math.Nat.{add-mul}
use Rattle.rounding.specs.Rounding.{up}
use Rattle.fund.specs.declared.Fund.{Fund}
use Rattle.fund.specs.declared.Frequencies.{Frequencies}
use Rattle.fund.specs.declared.Life.{Life}
use Rattle.fund.specs.declared.Figures.{Figures}
use Rattle.fund.specs.declared.Refusal.TheVariants.{Load, Order, Short, Wide}
use Rattle.fund.specs.Verdict.{Verdict, refused_at}
use Rattle.fund.specs.Base.{total, table, sumℤ}
use Rattle.fund.specs.Limits.{most_load, most_truncation}
use Rattle.fund.specs.Reading.{FundFile, Reading, read, stopped, reading}
use Rattle.fund.specs.Folding.{lives, claim, stay, single}
use Rattle.fund.specs.Transform.{unit, Term, death_weight, disability_weight, single_terms, replaced_term, replaced_terms, terms, D, H, lambda, load, truncation, mean}
use Rattle.fund.specs.Recursion.{Cell, start, start_bound, entries, cells}
use Rattle.fund.specs.Premium.{premium, within}
use Rattle.fund.specs.Tariff.{gross}
use Rattle.fund.specs.Quantile.{running_sum}
use Rattle.fund.specs.Refusals.{first, wide, Lengths, short, refuse, at0, valued, matched, verdict}
use Rattle.fund.specs.Answer.{fund_terms, fund_start, fund_cells, fund_truncation, fund_mean, fund_premium, fund_within, fund_figures, empty, Answer, refused, lent, accepted, answer_of, answer_to, answer}
use Rattle.fund.specs.Exact.{denominator, single_part, weight_at, fold, series, replaced_part, power, exponential, exact, exact_premium}
use Rattle.laws.specs.Weights.{by_thousand}

abbrev pub both : ℕ → Frequencies
both a = record { death = a; disability = a }

-- ---- the first delivery's formulas for group 2, of one frequency a
-- "q×a×1000×d is added to D at d, and i×a×1000×e to D at e, where the place is 1 to X."
unfoldable pub terms₁ : ℕ → ℕ → ℕ → List Life → List Term
terms₁ X r a [] = []
terms₁ X r a (m ∷ ms) =
    (if single m then single_terms X m r else replaced_term X (m.q * a * 1000) m.d ++ replaced_term X (m.i * a * 1000) m.e) ++ terms₁ X r a ms

-- "Lambda, in units, is the sum of (q + i)×a×1000."
unfoldable pub lambda₁ : ℕ → List Life → ℕ
lambda₁ a ms = total (λ m. if single m then 0 else (m.q + m.i) * a * 1000) ms

-- "Load: lambda plus, over group 1, up(10^12×(q+i)/p)."
unfoldable pub load₁ : ℕ → List Life → ℕ
load₁ a ms = lambda₁ a ms + total (λ m. if single m then up (unit * claim m) (stay m) else 0) ms

-- "Mean, in units: group 1 (q×d + i×e)×10^6; group 2 (q×d + i×e)×a×1000."
unfoldable pub mean₁ : ℕ → List Life → ℕ
mean₁ a ms = total (λ m. if single m then (m.q * m.d + m.i * m.e) * 10 ^ 6 else (m.q * m.d + m.i * m.e) * a * 1000) ms

-- "The weight at k, from 1 on, is the sum over group 2 of q×a×1000 where d = k and of i×a×1000 where e = k."
unfoldable pub weight_at₁ : ℕ → List Life → ℕ → ℕ
weight_at₁ a ms zero = 0
weight_at₁ a ms (suc k) =
    total (λ m. if single m then 0 else (if eqb m.d (suc k) then m.q * a * 1000 else 0) + (if eqb m.e (suc k) then m.i * a * 1000 else 0)) ms

-- ---- they are the two weights' where both frequencies are a
total_same : (f g : Life → ℕ) → ((m : Life) → f m ≡ g m) → (ms : List Life) → total f ms ≡ total g ms
unfolding total
total_same f g e [] = refl
total_same f g e (m ∷ ms) = ap₂ ◌+◌ (e m) (total_same f g e ms)

else_same : (b : Bool) (u v w : ℕ) → v ≡ w → (if b then u else v) ≡ (if b then u else w)
else_same true u v w e = refl
else_same false u v w e = e

module _ (a : ℕ) where
  pub terms_same : (X r : ℕ) (ms : List Life) → terms X r (both a) ms ≡ terms₁ X r a ms
  unfolding terms terms₁ replaced_terms death_weight disability_weight
  terms_same X r [] = refl
  terms_same X r (m ∷ ms) =
      ap (λ ts. (if single m then single_terms X m r else replaced_term X (m.q * a * 1000) m.d ++ replaced_term X (m.i * a * 1000) m.e) ++ ts) (terms_same X r ms)

  pub lambda_same : (ms : List Life) → lambda (both a) ms ≡ lambda₁ a ms
  unfolding lambda lambda₁ death_weight disability_weight
  lambda_same ms = total_same _ _ (λ m. else_same (single m) 0 _ _ (omega (arith, add-mul m.q m.i a))) ms

  pub load_same : (ms : List Life) → load (both a) ms ≡ load₁ a ms
  unfolding load load₁
  load_same ms = ap (λ l. l + total (λ m. if single m then up (unit * claim m) (stay m) else 0) ms) (lambda_same ms)

  moved : (rate amount : ℕ) → rate * a * 1000 * amount ≡ rate * amount * a * 1000
  moved rate amount =
      by_thousand (rate * a) amount ∙ ap (λ y. y * 1000) (mul_assoc rate a amount ∙ ap (λ y. rate * y) (mul_comm a amount) ∙ sym (mul_assoc rate amount a))

  pub mean_same : (ms : List Life) → mean (both a) ms ≡ mean₁ a ms
  unfolding mean mean₁ death_weight disability_weight
  mean_same ms =
      total_same _ _
      (λ m. else_same (single m) _ _ _ (omega (arith, moved m.q m.d, moved m.i m.e, add-mul (m.q * m.d) (m.i * m.e) a))) ms

  pub weights_same : (ms : List Life) → weight_at (both a) ms ≡ weight_at₁ a ms
  unfolding weight_at weight_at₁ death_weight disability_weight
  weights_same ms = fun_ext at
    where
      at : (k : ℕ) → weight_at (both a) ms k ≡ weight_at₁ a ms k
      at zero = refl
      at (suc k) = refl

-- ---- the answer as the definitions give it, with group 2's formulas left open: all that they are asked for is here
pub record Formulas : Type 0 where
  pub terms : List Term
  pub lambda : ℕ
  pub load : ℕ
  pub mean : ℕ

module _ (fund : Fund) (ms : List Life) (g : Formulas) where
  abbrev pub cells_by : List Cell
  cells_by = reverse (cells (entries g.terms fund.horizon) (record { f = start g.lambda ms; R = start_bound g.lambda ms }) fund.horizon)

  abbrev pub premium_by : ℤ
  premium_by = premium fund.deductible g.mean cells_by

  abbrev pub within_by : ℕ
  within_by = within fund.deductible (truncation fund.order ms) cells_by

  abbrev pub figures_by : Figures
  figures_by =
      record {
        truncation = truncation fund.order ms;
        mean = g.mean;
        premium = premium_by;
        within = within_by;
        gross = gross fund.deductible fund.worth premium_by within_by;
      }

  abbrev pub valued_by : Lengths → Verdict
  valued_by n =
      refuse Load (at0 (ltb most_load g.load))
      (refuse Order (at0 (ltb most_truncation (truncation fund.order ms)))
      (refuse Short (at0 (short n fund.horizon))
      (refuse Wide (first wide 0 cells_by) (Ok tt))))

  abbrev pub accepted_by : Lengths → Answer
  accepted_by n =
      record {
        verdict = (Ok tt);
        part = empty;
        figures = figures_by;
        D = lent (pos 0) n.D (table (suc fund.horizon) (D g.terms));
        H = lent 0 n.H (table (suc fund.horizon) (H g.terms));
        f = lent (pos 0) n.f (map (λ (y : Cell). y.f) cells_by);
        R = lent 0 n.R (map (λ (y : Cell). y.R) cells_by);
        F = lent (pos 0) n.F (table (suc fund.horizon) (running_sum (map (λ (y : Cell). y.f) cells_by)));
      }

abbrev pub fund_answer_by : Formulas → List ℕ → Lengths → FundFile → Verdict → Answer
fund_answer_by g file n fund (Ok tt) = accepted_by fund.header (lives fund) g n
fund_answer_by g file n fund (Err stop) = refused file n (Err stop)

abbrev pub fund_answered_by : Formulas → List ℕ → Lengths → FundFile → Answer
fund_answered_by g file n fund = fund_answer_by g file n fund (matched fund (valued_by fund.header (lives fund) g n))

abbrev pub answer_by : (Fund → List Life → Formulas) → List ℕ → Lengths → Reading → Answer
answer_by given file n (read fund) = fund_answered_by (given fund.header (lives fund)) file n fund
answer_by given file n (stopped why place) = refused file n (refused_at why place)

-- today's, and the first delivery's of a frequency a
abbrev pub formulas : ℕ → ℕ → Frequencies → List Life → Formulas
formulas X r ab ms = record { terms = terms X r ab ms; lambda = lambda ab ms; load = load ab ms; mean = mean ab ms }

abbrev pub formulas₁ : ℕ → ℕ → ℕ → List Life → Formulas
formulas₁ X r a ms = record { terms = terms₁ X r a ms; lambda = lambda₁ a ms; load = load₁ a ms; mean = mean₁ a ms }

formulas_same : (X r a : ℕ) (ms : List Life) → formulas X r (both a) ms ≡ formulas₁ X r a ms
formulas_same X r a ms = rw (terms_same a X r ms, lambda_same a ms, load_same a ms, mean_same a ms)

abbrev pub today : Fund → List Life → Formulas
today fund ms = formulas fund.horizon fund.order fund.frequency ms

abbrev pub document01 : ℕ → Fund → List Life → Formulas
document01 a fund ms = formulas₁ fund.horizon fund.order a ms

fund_answer_is : (file : List ℕ) (n : Lengths) (fund : FundFile) (v : Verdict) → answer_of file n fund v ≡ fund_answer_by (today fund.header (lives fund)) file n fund v
unfolding answer_of accepted fund_figures fund_premium fund_within fund_mean fund_truncation fund_cells fund_start fund_terms
fund_answer_is file n fund (Ok tt) = refl
fund_answer_is file n fund (Err stop) = refl

answer_by_lem : (file : List ℕ) (n : Lengths) (r : Reading) → answer_to file n r ≡ answer_by today file n r
unfolding answer_to verdict valued fund_cells fund_start fund_terms
answer_by_lem file n (read fund) = fund_answer_is file n fund _
answer_by_lem file n (stopped why place) = refl

-- With the two weights it is today's answer.
pub answer_is : (file : List ℕ) (n : Lengths) → answer file n ≡ answer_by today file n (reading file)
answer_is file n = answer_by_lem file n (reading file)

module _ (file : List ℕ) (fund : FundFile) (a : ℕ) (is : reading file ≡ read fund) (equal : fund.header.frequency ≡ both a) where
  same : today fund.header (lives fund) ≡ document01 a fund.header (lives fund)
  same = ap (λ ab. formulas fund.header.horizon fund.header.order ab (lives fund)) equal ∙ formulas_same fund.header.horizon fund.header.order a (lives fund)

  pub as_before : (n : Lengths) → answer file n ≡ answer_by (document01 a) file n (reading file)
  as_before n =
      answer_is file n ∙ ap (answer_by today file n) is ∙ ap (λ g. fund_answered_by g file n fund) same ∙ ap (answer_by (document01 a) file n) (sym is)

-- ---- the exact values, with the weights and lambda left open
module _ (X : ℕ) (weights : ℕ → ℕ) (l : ℕ) (ms : List Life) where
  abbrev pub exact_by : ℕ → ℤ
  exact_by x = series (power (neg_ℤ (pos l))) 63 *ℤ sumℤ (suc x) (λ k. pos (single_part ms k) *ℤ series (λ n. pos (fold n weights (x - k))) X)

  abbrev pub exact_premium_by : ℕ → ℕ → ℤ
  exact_premium_by M m = (pos m -ℤ pos (M * 10 ^ 12)) *ℤ pos (denominator X ms) +ℤ sumℤ M (λ x. pos ((M - x) * 10 ^ 12) *ℤ exact_by x)

module _ (X a : ℕ) (ms : List Life) where
  pub exact_as_before : (x : ℕ) → exact X (both a) ms x ≡ exact_by X (weight_at₁ a ms) (lambda₁ a ms) ms x
  unfolding exact exponential replaced_part
  exact_as_before x = ap₂ (λ w l. exact_by X w l ms x) (weights_same a ms) (lambda_same a ms)

  pub premium_as_before : (M m : ℕ) → exact_premium X M m (both a) ms ≡ exact_premium_by X (weight_at₁ a ms) (lambda₁ a ms) ms M m
  unfolding exact_premium exact exponential replaced_part
  premium_as_before M m = ap₂ (λ w l. exact_premium_by X w l ms M m) (weights_same a ms) (lambda_same a ms)
