-- What the move between two funds that are accepted must say of the exact move, in whole numbers over the two denominators. The exact move is the exact premium of
-- the new fund less that of the old one.
use Rattle.std.specs.Prelude.{◌≡◌, List, ℕ, ◌*◌, ◌^◌, ◌≤◌, ℤ, pos, nat_abs, ◌-ℤ◌, ◌*ℤ◌, ◌≤ℤ◌}
use Rattle.fund.specs.declared.Fund.{Fund}
use Rattle.fund.specs.declared.Rate.{Rate}
use Rattle.fund.specs.Reading.{FundFile}
use Rattle.fund.specs.Tariff.{loading}
use Rattle.fund.specs.Distance.{file_denominator, exact_premium_of, exact_loaded_worth}
use Rattle.moves.specs.declared.Move.{Move}

-- The product of the two denominators, which the exact moves are multiplied by.
unfoldable pub both_denominators : FundFile → FundFile → ℕ
both_denominators old new = file_denominator old * file_denominator new

-- The exact premium of the new fund less that of the old one, times both denominators.
unfoldable pub exact_move : FundFile → FundFile → ℤ
exact_move old new = pos (file_denominator old) *ℤ exact_premium_of new -ℤ pos (file_denominator new) *ℤ exact_premium_of old

-- The same of the exact premiums' loaded worths, in centimes: times 10^15 and both denominators.
unfoldable pub exact_worth_move : FundFile → FundFile → ℤ
exact_worth_move old new = pos (file_denominator old) *ℤ exact_loaded_worth new -ℤ pos (file_denominator new) *ℤ exact_loaded_worth old

-- The exact move differs from the move of the premium by at most the sum of the two bounds, and lies between the two ends of its interval; the move of the
-- exact premium's loaded worth lies between the two ends of the gross premium's.
pub record ExactMove (old new : FundFile) (m : Move) : Type 0 where
  pub premium : nat_abs (pos (both_denominators old new) *ℤ m.premium -ℤ exact_move old new) ≤ both_denominators old new * m.arithmetic
  pub least : (pos (both_denominators old new) *ℤ m.least) ≤ℤ exact_move old new
  pub most : exact_move old new ≤ℤ (pos (both_denominators old new) *ℤ m.most)
  pub gross_least : (pos (both_denominators old new * 10 ^ 15) *ℤ m.gross_least) ≤ℤ exact_worth_move old new
  pub gross_most : exact_worth_move old new ≤ℤ (pos (both_denominators old new * 10 ^ 15) *ℤ m.gross_most)

-- The same terms and members under other rate lines.
unfoldable pub under_rates : FundFile → List Rate → FundFile
under_rates file rates = record { header = file.header; rates = rates; members = file.members }

-- The exact premium of a fund's terms and members under given rate lines, times the denominator.
unfoldable pub exact_under : FundFile → List Rate → ℤ
exact_under file rates = exact_premium_of (under_rates file rates)

-- The same terms: all of the header but the two editions.
pub record SameTerms (old new : Fund) : Type 0 where
  pub horizon : new.horizon ≡ old.horizon
  pub order : new.order ≡ old.order
  pub frequency : new.frequency ≡ old.frequency
  pub deductible : new.deductible ≡ old.deductible
  pub worth : new.worth ≡ old.worth

-- Where the files differ in editions and rate lines alone, the two exact premiums are those of the same terms and members under the old rates and under the
-- new ones, over one denominator; so the exact move is that of the rates. It differs from the premium's move by at most the sum of the two bounds, and lies in
-- the same intervals.
pub record RatesAlone (old new : FundFile) (m : Move) : Type 0 where
  pub terms : SameTerms old.header new.header
  pub members : new.members ≡ old.members
  pub denominator : file_denominator new ≡ file_denominator old
  pub old_exact : exact_premium_of old ≡ exact_under old old.rates
  pub new_exact : exact_premium_of new ≡ exact_under old new.rates
  pub premium : nat_abs (pos (file_denominator old) *ℤ m.premium -ℤ (exact_under old new.rates -ℤ exact_under old old.rates)) ≤ file_denominator old * m.arithmetic
  pub least : (pos (file_denominator old) *ℤ m.least) ≤ℤ (exact_under old new.rates -ℤ exact_under old old.rates)
  pub most : (exact_under old new.rates -ℤ exact_under old old.rates) ≤ℤ (pos (file_denominator old) *ℤ m.most)
  pub gross_least : (pos (file_denominator old * 10 ^ 15) *ℤ m.gross_least) ≤ℤ ((exact_under old new.rates -ℤ exact_under old old.rates) *ℤ pos (old.header.worth * loading old.header.deductible))
  pub gross_most : ((exact_under old new.rates -ℤ exact_under old old.rates) *ℤ pos (old.header.worth * loading old.header.deductible)) ≤ℤ (pos (file_denominator old * 10 ^ 15) *ℤ m.gross_most)
