-- Laws of the copies of member lines (METHOD 3, §8). What adds up over the lives is, line by line, its part for one life times the lives
-- (total_copies): so the lives are as many as the lines say (length_copies). What holds of the life of each member line holds of all lives
-- (all_lives).
use Rattle.std.specs.Prelude.{◌≡◌, refl, List, [], ◌∷◌, ◌++◌, map, ℕ, ◌+◌, ◌*◌, length, replicate}
use Rattle.std.proofs.Common.{sym, ◌∙◌, ap, ap₂, append_assoc, length-append}
use Rattle.std.proofs.lemmas.List.{length-replicate}
use Rattle.fund.specs.declared.Rate.{Rate}
use Rattle.fund.specs.declared.Member.{Member}
use Rattle.fund.specs.declared.Life.{Life}
use Rattle.fund.specs.declared.ModelPoint.{ModelPoint}
use Rattle.fund.specs.Base.{total}
use Rattle.fund.specs.Reading.{FundFile, lives_in_all}
use Rattle.fund.specs.Folding.{life, point, points, copies, lives}
use Rattle.laws.specs.Accepted.{All, all_copies}
use Rattle.laws.specs.Tables.{total_append, total_replicate}

-- the lives of lines together
unfoldable pub lives_of : List ModelPoint → ℕ
lives_of ps = total (λ (p : ModelPoint). p.lives) ps

pub total_copies : (f : Life → ℕ) (ps : List ModelPoint) → total f (copies ps) ≡ total (λ (p : ModelPoint). p.lives * f p.life) ps
unfolding copies total
total_copies f [] = refl
total_copies f (p ∷ ps) =
    total_append f (replicate p.lives p.life) (copies ps) ∙ ap₂ ◌+◌ (total_replicate f p.lives p.life) (total_copies f ps)

pub length_copies : (ps : List ModelPoint) → length (copies ps) ≡ lives_of ps
unfolding copies lives_of total
length_copies [] = refl
length_copies (p ∷ ps) =
    length-append (replicate p.lives p.life) (copies ps) ∙ ap₂ ◌+◌ (length-replicate p.lives p.life) (length_copies ps)

-- the lives of a file's lines are those that its member lines say
pub lives_points : (file : FundFile) → lives_of (points file) ≡ lives_in_all file.members
unfolding points point lives_of lives_in_all total
lives_points file = go file.members
  where
    go : (ms : List Member) → total (λ (p : ModelPoint). p.lives) (map (point file.rates) ms) ≡ total (λ (m : Member). m.lives) ms
    go [] = refl
    go (m ∷ ms) = ap (λ s. m.lives + s) (go ms)

pub copies_append : (ps qs : List ModelPoint) → copies (ps ++ qs) ≡ copies ps ++ copies qs
unfolding copies
copies_append [] qs = refl
copies_append (p ∷ ps) qs = ap (λ l. replicate p.lives p.life ++ l) (copies_append ps qs) ∙ sym (append_assoc (replicate p.lives p.life) (copies ps) (copies qs))

all_points : (P : Life → Type 0) (rates : List Rate) (ms : List Member) → All (λ m. P (life rates m)) ms → All (λ (p : ModelPoint). P p.life) (map (point rates) ms)
unfolding point
all_points P rates [] h = tt
all_points P rates (m ∷ ms) h = (h.0, all_points P rates ms h.1)

pub all_lives : (P : Life → Type 0) (file : FundFile) → All (λ m. P (life file.rates m)) file.members → All P (lives file)
unfolding lives points
all_lives P file h = all_copies P (points file) (all_points P file.rates file.members h)
