-- What the public calls leave, as an outcome.
use Rattle.std.specs.Prelude.{◌≡◌, ◌&&◌, List, [], ℕ, zero, suc, ◌+◌, ◌-◌, ◌≤◌, leb, ℤ, length, get_or, take, drop, if◌then◌else◌, None, Option, Some, Result}
use Rattle.fund.specs.Refusals.{number_in, place_in}
use Rattle.fund.specs.declared.Cells.{Cells}
use Rattle.pricing.specs.declared.Priced.{Priced}
use Rattle.pricing.specs.declared.NotPriced.{NotPriced}
use Rattle.pricing.specs.Priced.{verdict_in, start_in, end_in, figures_in, horizon_of, quantile_told}
use Rattle.miguepo.specs.Bits.{read_signed}
use Rattle.claims.specs.Demands.{Received}

-- The bytes from start to end, and none where these lie outside the text.
abbrev pub bytes_between : List ℕ → ℕ → ℕ → List ℕ
bytes_between text start end = if leb start end && leb end (length text) then take (end - start) (drop start text) else []

-- Those that go with an answer: of a fund that is priced none.
abbrev pub handed : List ℕ → Result Priced NotPriced → List ℕ
handed text p = bytes_between text (start_in p) (end_in p)

abbrev pub priced : List ℕ → Result Priced NotPriced → Cells → Received
priced text p c =
    record {
      number = number_in (verdict_in p);
      place = place_in (verdict_in p);
      line = handed text p;
      horizon = horizon_of p;
      figures = figures_in p;
      quantile = quantile_told p;
      D = c.transform.now;
      H = c.h.now;
      f = c.f.now;
      R = c.r.now;
      F = c.sums.now;
    }

-- The answer at a level, from the two fields that tell it.
abbrev pub quantile_read : ℕ → ℕ → Option ℕ
quantile_read zero x = None
quantile_read (suc reached) x = Some x

-- The struct in C: it has twelve fields, and each is written. The line lies in the text. `reached` is 1 where there is an answer at the level, and `quantile` is its place; where
-- there is none, both are 0.
pub record ResultStruct (text result : List ℕ) (o : Received) : Type 0 where
  pub fields : length result ≡ 12
  pub inside : get_or result 2 0 + get_or result 3 0 ≤ length text
  pub reached : (x : ℕ) → o.quantile ≡ Some x → (get_or result 10 0 ≡ 1) × (get_or result 11 0 ≡ x)
  pub none : o.quantile ≡ None → (get_or result 10 0 ≡ 0) × (get_or result 11 0 ≡ 0)

-- The fields of a host's struct in C, in their order, each read as its type there.
abbrev pub hosted : List ℕ → List ℕ → List ℤ → List ℕ → List ℤ → List ℕ → List ℤ → Received
hosted text result d h f r s =
    record {
      number = get_or result 0 0;
      place = get_or result 1 0;
      line = take (get_or result 3 0) (drop (get_or result 2 0) text);
      horizon = get_or result 4 0;
      figures = record { truncation = get_or result 5 0; mean = get_or result 6 0; premium = read_signed (get_or result 7 0); within = get_or result 8 0; gross = get_or result 9 0 };
      quantile = quantile_read (get_or result 10 0) (get_or result 11 0);
      D = d;
      H = h;
      f = f;
      R = r;
      F = s;
    }

abbrev pub hosted_cells : List ℕ → List ℕ → Cells → Received
hosted_cells text result c = hosted text result c.transform.now c.h.now c.f.now c.r.now c.sums.now
