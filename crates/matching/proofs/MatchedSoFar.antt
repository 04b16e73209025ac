-- The members before k are matched, and the next one is or is not (MatchedSoFar, unmatched_next, matched_next, all_matched); the refusals of rows (Rows' module).
use Rattle.std.specs.Prelude.{◌≡◌, refl, Bool, true, false, List, [], ◌∷◌, ◌++◌, map, ℕ, suc, ◌+◌, ◌<◌, ◌≤◌, length, take, drop, get_or, Option, None, Some, Ok, Err}
use Rattle.std.proofs.Common.{sym, ◌∙◌, ap, ap₂, arith, length-take-le}
use native.Mathlib.Numerals.{add-one}
use lib.Seq.{take-suc, drop-cons, take-length}
use lib.ListN.{length-map, drop_of_length-le}
use Rattle.std.proofs.lemmas.List.{map-append}
use Rattle.fund.specs.declared.Rate.{Rate}
use Rattle.fund.specs.declared.Member.{Member}
use Rattle.fund.specs.declared.ModelPoint.{ModelPoint}
use Rattle.fund.specs.declared.Refusal.TheVariants.{Unmatched}
use Rattle.fund.specs.Folding.{rate_in_force, folded, life, point}
use Rattle.fund.specs.Refusals.{first, unmatched, refuse}
use Rattle.laws.specs.Rows.{blank_member}
use Rattle.matching.specs.Matching.{with_points}
use Rattle.matching.specs.Points.{model_points}

module _ {A : Type 0} (met : A → Bool) (at : ℕ) (l : List A) (k : ℕ) (d : A) (less : k < length l) where
  first_here : met (get_or l k d) ≡ true → first met at (drop k l) ≡ Some at
  unfolding first
  first_here e = ap (first met at) (drop-cons l k d less) ∙ rw e refl

  first_next : met (get_or l k d) ≡ false → first met at (drop k l) ≡ first met (suc at) (drop (suc k) l)
  unfolding first
  first_next e = ap (first met at) (drop-cons l k d less) ∙ rw e refl

module _ (rates : List Rate) (m : Member) where
  is_unmatched : rate_in_force rates m.age ≡ None → unmatched rates m ≡ true
  unfolding unmatched
  is_unmatched e = rw (e, unmatched) refl

  is_matched : (r : Rate) → rate_in_force rates m.age ≡ Some r → unmatched rates m ≡ false
  unfolding unmatched
  is_matched r e = rw (e, unmatched) refl

  point_is : (r : Rate) → rate_in_force rates m.age ≡ Some r → record { life = folded (Some r) m; lives = m.lives } ≡ point rates m
  unfolding point life
  point_is r e = rw e refl

-- the answer of a search
stopped : (ps : List ModelPoint) (o : Option ℕ) (place : ℕ) → o ≡ Some place → Err (record { why = Unmatched; place = place }) ≡ with_points ps (refuse Unmatched o (Ok tt))
unfolding refuse with_points
stopped ps o place e = rw e refl

gone_through : (ps : List ModelPoint) (o : Option ℕ) → o ≡ None → Ok (record { items = ps }) ≡ with_points ps (refuse Unmatched o (Ok tt))
unfolding refuse with_points
gone_through ps o e = rw e refl

none_left : {A : Type 0} (met : A → Bool) (at : ℕ) (l : List A) → l ≡ [] → first met at l ≡ None
unfolding first
none_left met at l e = ap (first met at) e

pub record MatchedSoFar (rates : List Rate) (members : List Member) (line : ℕ) (points : List ModelPoint) (k : ℕ) : Type 0 where
  pub within : k ≤ length members
  pub points_are : points ≡ map (point rates) (take k members)
  pub rest : first (unmatched rates) line members ≡ first (unmatched rates) (line + k) (drop k members)

pub none_yet : (rates : List Rate) (members : List Member) (line : ℕ) (points : List ModelPoint) → points ≡ [] → MatchedSoFar rates members line points 0
none_yet rates members line points e = let z : line ≡ line + 0 = omega arith in record { within = omega arith; points_are = e; rest = ap (λ n. first (unmatched rates) n members) z }

module _ {rates : List Rate} {members : List Member} {line : ℕ} {points : List ModelPoint} {k : ℕ} (s : MatchedSoFar rates members line points k) where
  pub count : length points ≡ k
  count = ap length s.points_are ∙ length-map (take k members) (point rates) ∙ length-take-le k members s.within

  module _ (less : k < length members) where
    abbrev next : Member
    next = get_or members k blank_member

    pub unmatched_next : rate_in_force rates next.age ≡ None → Err (record { why = Unmatched; place = line + k }) ≡ model_points rates members line
    unfolding model_points
    unmatched_next e = stopped _ _ _ (s.rest ∙ first_here (unmatched rates) (line + k) members k blank_member less (is_unmatched rates next e))

    pub matched_next : (r : Rate) (x : ModelPoint) (after : List ModelPoint) → rate_in_force rates next.age ≡ Some r → x ≡ record { life = folded (Some r) next; lives = next.lives } →
        after ≡ points ++ (x ∷ []) → MatchedSoFar rates members line after (k + 1)
    matched_next r x after e is more =
        let at : suc (line + k) ≡ line + (k + 1) = omega arith in
        record {
          within = omega arith;
          points_are =
              more
              ∙ ap₂ (λ ps y. ps ++ (y ∷ [])) s.points_are (is ∙ point_is rates next r e)
              ∙ sym (map-append (point rates) (take k members) (next ∷ []))
              ∙ ap (map (point rates)) (sym (rw (add-one k) (take-suc members k blank_member less)));
          rest =
              s.rest
              ∙ first_next (unmatched rates) (line + k) members k blank_member less (is_matched rates next r e)
              ∙ ap₂ (λ n j. first (unmatched rates) n (drop j members)) at (sym (add-one k));
        }

  pub all_matched : k ≡ length members → Ok (record { items = points }) ≡ model_points rates members line
  unfolding model_points
  all_matched e =
      ap (λ ps. Ok (record { items = ps })) (s.points_are ∙ ap (map (point rates)) (ap (λ n. take n members) e ∙ take-length members))
      ∙ gone_through _ _ (s.rest ∙ none_left (unmatched rates) (line + k) (drop k members) (drop_of_length-le members (omega arith)))
