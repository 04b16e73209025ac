-- What `answer_text::listing` shows of the call's answer is the listing of what was read (shown_is).
use mathlib.Core.Path.{◌≡◌, refl, sym, ◌∙◌, ap, subst}
use mathlib.Core.Bool.{Bool, true, false, ◌&&◌}
use mathlib.Core.List.{List, []}
use Prim.Native.Nat.{ℕ, suc, ◌≤◌}
use native.Mathlib.Omega.{arith}
use borrow.Author.Tests.{le-leb, lt-ltb}
use lib.Dec.{leb}
use lib.IntN.{ℤ, pos}
use lib.ListN.{length, take, replicate, length-take, length-replicate}
use Rattle.fund.specs.Verdict.{Verdict}
use Rattle.std.specs.Prelude.{Result, Err, Ok, if◌then◌else◌}
use Rattle.fund.specs.Limits.{most_horizon, most_truncation}
use Rattle.fund.specs.Reading.{FundFile, Reading, read, stopped}
use Rattle.fund.specs.declared.Cells.{Cells}
use Rattle.fund.specs.Cells.{slice_lengths}
use Rattle.fund.specs.Refusals.{Lengths}
use Rattle.fund.specs.Answer.{Answer, answer_to}
use Rattle.fund.specs.Listing.{listed, printed, horizon_in, enough, listing_to}
use Rattle.laws.specs.Ranges.{FundOk}
use Rattle.writing.specs.Writing.{Written}
use Rattle.answer_text.specs.Shown.{room, shown_answer, printable, listing_of}
use Rattle.pricing.specs.declared.Priced.{Priced}
use Rattle.pricing.specs.declared.NotPriced.{NotPriced}
use Rattle.pricing.specs.Priced.{verdict_in, figures_in, horizon_of, left_priced, horizon_with, Answers}
use Rattle.prefix.specs.Prefix.{most_bytes}
use Rattle.fund_printing.specs.declared.Asked.TheVariants.{Listing}
use Rattle.fund_printing.specs.Printed.{shown_to}
use Rattle.fund_printing.specs.Input.{HoldsFirst, ShowsFirst}
use Rattle.fund_printing.proofs.Bounded.{AnswerIn, bounded_first, answer_in}

-- what is written lies in the text
pub written_within : {piece before after : List ℕ} {size : ℕ} → Written piece before after size → (size ≤ length after) × (size ≡ length (take size after))
written_within {piece} {before} {after} {size} w =
    let n : size ≡ length (take size after) = w.whole ∙ ap length (sym w.start) in
    (omega (arith, n, length-take size after), n)

-- the result slices before the call
abbrev pub cells : List ℕ
cells = replicate (suc most_horizon) 0

abbrev pub signed_cells : List ℤ
signed_cells = replicate (suc most_horizon) (pos 0)

pub cells_length : length cells ≡ suc most_horizon
cells_length = length-replicate {A = ℕ} (suc most_horizon) 0

pub signed_length : length signed_cells ≡ suc most_horizon
signed_length = length-replicate {A = ℤ} (suc most_horizon) (pos 0)

abbrev pub lent_lengths : Lengths
lent_lengths = slice_lengths signed_cells cells signed_cells cells signed_cells

enough_lent : lent_lengths ≡ enough
enough_lent = rw (signed_length, cells_length)

pub answers_enough : (text : List ℕ) (r : Reading) (level : ℕ) (p : Result Priced NotPriced) (a : Answer) → Answers text r level p a (answer_to text lent_lengths r) → Answers text r level p a (answer_to text enough r)
answers_enough text r level p a k = subst (λ (n : Lengths). Answers text r level p a (answer_to text n r)) enough_lent k

horizon_most : (r : Reading) → ((fund : FundFile) → r ≡ read fund → FundOk fund) → (v : Verdict) → horizon_with v (horizon_in r) ≤ most_horizon
unfolding horizon_in
horizon_most r ok (Err stop) = omega arith
horizon_most (read fund) ok (Ok tt) = (ok fund refl).header.horizon
horizon_most (stopped why place) ok (Ok tt) = omega arith

-- a listing shows the same of a refusal for every horizon
printed_left : (p : Result Priced NotPriced) (c : Cells) (X : ℕ) (v : Verdict) →
    printed (shown_answer (verdict_in p) (figures_in p) c.f.now c.r.now c.sums.now) (horizon_with v X) v ≡ printed (left_priced p c) X v
unfolding printed listed
printed_left p c X (Ok tt) = refl
printed_left p c X (Err stop) = refl

module _ (text : List ℕ) (r : Reading) (ok : (fund : FundFile) → r ≡ read fund → FundOk fund) (level : ℕ) (p : Result Priced NotPriced) (c : Cells)
    (given : Answers text r level p (left_priced p c) (answer_to text lent_lengths r)) where
  k : Answers text r level p (left_priced p c) (answer_to text enough r)
  k = answers_enough text r level p (left_priced p c) given

  abbrev shown_one : Answer
  shown_one = shown_answer (verdict_in p) (figures_in p) c.f.now c.r.now c.sums.now

  within : AnswerIn enough (left_priced p c)
  within = rw k.answer (answer_in text enough r)

  X_most : horizon_of p ≤ most_horizon
  X_most = rw k.horizon (horizon_most r ok (verdict_in p))

  module _ (size : ℕ) where
    range_is : printable (figures_in p).truncation (horizon_of p) (length c.f.now) c.r.now (length c.sums.now) size ≡ leb room size
    unfolding printable
    range_is =
        rw (
          le-leb (horizon_of p) most_horizon X_most,
          lt-ltb (horizon_of p) (length c.f.now) (omega (arith, X_most, within.long_f)),
          lt-ltb (horizon_of p) (length c.r.now) (omega (arith, X_most, within.long_R)),
          lt-ltb (horizon_of p) (length c.sums.now) (omega (arith, X_most, within.long_F)),
          le-leb (figures_in p).truncation most_truncation within.truncation,
          bounded_first (suc (horizon_of p)) c.r.now within.bounds,
        )
        (both (leb room size))
      where
        both : (b : Bool) → b && true ≡ b
        both true = refl
        both false = refl

    pub shown_is : listing_of shown_one (horizon_of p) size ≡ shown_to Listing text r size
    unfolding listing_of listing_to
    shown_is =
        rw range_is
        (ap (λ (l : List ℕ). if leb room size then l else [])
        (ap (λ (X : ℕ). printed shown_one X (verdict_in p)) k.horizon
        ∙ printed_left p c (horizon_in r) (verdict_in p)
        ∙ ap (λ (a : Answer). printed a (horizon_in r) a.verdict) k.answer))

-- What is shown of a file that is the same for its first bytes.
pub shows_first : {of : List ℕ → ℕ → List ℕ} → ((n : ℕ) (file : List ℕ) (m : ℕ) → most_bytes ≤ n → of (take n file) m ≡ of file m) →
    (buffer : List ℕ) (size : ℕ) {before after : List ℕ} {n : ℕ} → HoldsFirst buffer size → Written (of (take size buffer) (length before)) before after n → ShowsFirst of buffer size before after n
shows_first {of} same buffer size {before} {after} {n} h w file e =
    subst (λ (l : List ℕ). Written l before after n) (ap (λ (f : List ℕ). of f (length before)) (sym e) ∙ same (length buffer) file (length before) h.enough) w
