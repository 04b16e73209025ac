-- Each field is the answer's (cited, so that what breaks it is refused at a fact); the premium is a word, which C reads from its bits.
use Rattle.std.specs.Prelude.{◌≡◌, refl, ℕ, ◌-◌, [], ◌∷◌, Option, Some, None}
use Rattle.std.specs.Option.{is_some, unwrap_or}
use Rattle.std.proofs.Common.{rules, w64, ◌∙◌, ap}
use mir.Val.{SFits, bool_byte}
use mir.Facts.{to_z-of_z}
use Rattle.fund.specs.Verdict.{Verdict}
use Rattle.fund.specs.Refusals.{number_in, place_in}
use Rattle.fund.specs.Quantile.{reached_in, quantile_in}
use Rattle.fund.specs.declared.Figures.{Figures}
use Rattle.miguepo.specs.Bits.{bits_of}
use Rattle.miguepo.specs.Host.{told_fields}
use Rattle.miguepo.proofs.Complement.{bits_read}
use Rattle.miguepo.proofs.fields.Goals as goal

reached_lem : (q : Option ℕ) → bool_byte (is_some q) ≡ reached_in q
reached_lem (Some x) = refl
reached_lem None = refl

place_lem : (q : Option ℕ) → unwrap_or q 0 ≡ quantile_in q
place_lem (Some x) = refl
place_lem None = refl

told : (v : Verdict) (start end X : ℕ) (f : Figures) (q : Option ℕ) (number place line size premium reached at : ℕ) →
    number ≡ number_in v → place ≡ place_in v → line ≡ start → size ≡ end - start → premium ≡ bits_of f.premium → reached ≡ reached_in q → at ≡ quantile_in q →
    number ∷ place ∷ line ∷ size ∷ X ∷ f.truncation ∷ f.mean ∷ premium ∷ f.within ∷ f.gross ∷ reached ∷ at ∷ [] ≡ told_fields v start end X f q
told v start end X f q number place line size premium reached at n p l s b r k = rw (n, p, l, s, b, r, k) refl

pub returns-clause-fields : goal.returns-clause-fields
returns-clause-fields c =
    let a = c.args in
    let fits : SFits w64 a.figures.premium = search rules in
    told a.verdict a.start a.end a.horizon a.figures a.quantile _ _ _ _ _ _ _ (search rules) (search rules) refl c.saturating_sub-line_size.ensures
    (c.bits-premium.ensures ∙ ap bits_of (to_z-of_z fits))
    (c.from-reached.ensures ∙ ap bool_byte c.is_some.ensures ∙ reached_lem a.quantile)
    (c.unwrap_or-quantile.ensures ∙ place_lem a.quantile)

pub returns-clause-read_back : goal.returns-clause-read_back
returns-clause-read_back c =
    let fits : SFits w64 c.args.figures.premium = search rules in
    bits_read _ fits
