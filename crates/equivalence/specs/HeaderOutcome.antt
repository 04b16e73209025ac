-- The header decides by itself: its lines stop reading, whatever follows them, or what follows them is read with their figures (header_outcome).
use Rattle.std.specs.Prelude.{◌≡◌, refl, ◌⊎◌, Bool, true, false, List, [], ◌∷◌, ◌++◌, ℕ, suc, ◌+◌, eqb, length, if◌then◌else◌, None, Option, Some}
use Rattle.std.proofs.Common.{sym, ◌∙◌, ap, inl, inr, true≢false, arith}
use Rattle.fund.specs.declared.Fund.{Fund}
use Rattle.fund.specs.declared.Refusal.{Refusal}
use Rattle.fund.specs.declared.Refusal.TheVariants.{Form, Range, Cell as CellRefusal}
use Rattle.fund.specs.Lines.{Line, begun, lines_from}
use Rattle.fund.specs.Spelling.{behind, numbers, spelled}
use Rattle.fund.specs.Reading.{Reading, stopped, in_ranges, HeaderLine, header_of, read_header}
use Rattle.laws.specs.Accepted.{All}

-- what follows a header
abbrev pub After : Type 0
After = ℕ → Fund → List Line → Reading

abbrev pub Ended : List Line → Type 0
Ended ls = All (λ (l : Line). l.ended ≡ true) ls

module _ (hs : List HeaderLine) (n : ℕ) (ns : List ℕ) (ls : List Line) where
  pub record Stops : Type 0 where
    pub why : Refusal
    pub place : ℕ
    pub stops : (after : After) → read_header after hs n ns ls ≡ stopped why place
    pub not_cell : why ≡ CellRefusal → ⊥

  -- A line for each header line, with its line feed, and then the lines that follow; others could stand in their place.
  pub record Passes : Type 0 where
    pub front : List Line
    pub rest : List Line
    pub lines_are : ls ≡ front ++ rest
    pub as_many : length front ≡ length hs
    pub ended : Ended front
    pub fund : Fund
    pub goes_on : (after : After) (more : List Line) → read_header after hs n ns (front ++ more) ≡ after (n + length hs) fund more

  pub passed : (k : Passes) (after : After) → read_header after hs n ns ls ≡ after (n + length hs) k.fund k.rest
  passed k after = ap (read_header after hs n ns) k.lines_are ∙ k.goes_on after k.rest

pub form_not_cell : Form ≡ CellRefusal → ⊥
form_not_cell e = let z : ◌≡◌ {A = ℕ} 0 1 = cc in omega arith

pub range_not_cell : Range ≡ CellRefusal → ⊥
range_not_cell e = let z : ◌≡◌ {A = ℕ} 0 1 = cc in omega arith

spelled_ended : (key : List ℕ) (count : ℕ) (l : Line) (v : List ℕ) → spelled key count l ≡ Some v → l.ended ≡ true
unfolding spelled
spelled_ended key count l v e = go l.ended e
  where
    go : (b : Bool) → elim b [ true ↦ elim (behind key l.text) [ None ↦ None | Some t ↦ numbers count t ] | false ↦ None ] ≡ Some v → b ≡ true
    go true h = refl
    go false h = let z : ◌≡◌ {A = ℕ} 0 1 = cc in absurd (omega arith)

pub header_outcome : (hs : List HeaderLine) (n : ℕ) (ns : List ℕ) (ls : List Line) → Stops hs n ns ls ⊎ Passes hs n ns ls
unfolding read_header
header_outcome [] n ns ls =
    let e : n ≡ n + 0 = omega arith in
    inr (record { front = []; rest = ls; lines_are = refl; as_many = refl; ended = tt; fund = header_of ns; goes_on = λ after more. ap (λ m. after m (header_of ns) more) e })
header_outcome (h ∷ hs) n ns [] = inl (record { why = Form; place = n; stops = λ after. refl; not_cell = form_not_cell })
header_outcome (h ∷ hs) n ns (l ∷ ls) = go (spelled h.key (length h.ranges) l) refl (λ vs. header_outcome hs (suc n) vs ls)
  where
    more_lines : (v : List ℕ) → spelled h.key (length h.ranges) l ≡ Some v → in_ranges h.ranges v ≡ true → Stops hs (suc n) (ns ++ v) ls ⊎ Passes hs (suc n) (ns ++ v) ls →
        Stops (h ∷ hs) n ns (l ∷ ls) ⊎ Passes (h ∷ hs) n ns (l ∷ ls)
    more_lines v s t (inl k) =
        inl (record { why = k.why; place = k.place; stops = λ after. rw (s, read_header) (rw t (k.stops after)); not_cell = k.not_cell })
    more_lines v s t (inr k) =
        let e : suc n + length hs ≡ n + suc (length hs) = omega arith in
        inr (record {
          front = l ∷ k.front;
          rest = k.rest;
          lines_are = ap (λ m. l ∷ m) k.lines_are;
          as_many = ap suc k.as_many;
          ended = (spelled_ended h.key (length h.ranges) l v s, k.ended);
          fund = k.fund;
          goes_on = λ after more. rw (s, read_header) (rw t (k.goes_on after more ∙ ap (λ m. after m k.fund more) e));
        })

    in_range : (v : List ℕ) → spelled h.key (length h.ranges) l ≡ Some v → (b : Bool) → in_ranges h.ranges v ≡ b → Stops hs (suc n) (ns ++ v) ls ⊎ Passes hs (suc n) (ns ++ v) ls →
        Stops (h ∷ hs) n ns (l ∷ ls) ⊎ Passes (h ∷ hs) n ns (l ∷ ls)
    in_range v s true t k = more_lines v s t k
    in_range v s false t k = inl (record { why = Range; place = n; stops = λ after. rw (s, read_header) (rw t); not_cell = range_not_cell })

    go : (o : Option (List ℕ)) → spelled h.key (length h.ranges) l ≡ o → ((vs : List ℕ) → Stops hs (suc n) vs ls ⊎ Passes hs (suc n) vs ls) →
        Stops (h ∷ hs) n ns (l ∷ ls) ⊎ Passes (h ∷ hs) n ns (l ∷ ls)
    go None s ih = inl (record { why = Form; place = n; stops = λ after. rw (s, read_header); not_cell = form_not_cell })
    go (Some v) s ih = in_range v s (in_ranges h.ranges v) refl (ih (ns ++ v))

-- ---- the text
-- A byte in front of lines that all end with their line feed, and of lines behind those.
begun_append : (at b : ℕ) (all ls more : List Line) → Ended (begun at b ls) → (Ended ls → all ≡ ls ++ more) → begun at b all ≡ begun at b ls ++ more
unfolding begun
begun_append at b all [] more h e = absurd (true≢false (sym h.0))
begun_append at b all (l ∷ ls) more h e = ap (begun at b) (e h)

-- The lines of a text that ends with a line feed, and of what follows it.
pub lines_append : (text rest : List ℕ) (at : ℕ) → Ended (lines_from at text) → lines_from at (text ++ rest) ≡ lines_from at text ++ lines_from (at + length text) rest
unfolding lines_from
lines_append [] rest at h = let e : at ≡ at + 0 = omega arith in ap (λ k. lines_from k rest) e
lines_append (b ∷ text) rest at h =
    let e : suc at + length text ≡ at + suc (length text) = omega arith in
    go (eqb b 10) (lines_from (suc at) text) (lines_from (suc at) (text ++ rest)) h
    (λ k. lines_append text rest (suc at) k ∙ ap (λ m. lines_from (suc at) text ++ lines_from m rest) e)
  where
    go : (t : Bool) (ls all : List Line) → Ended (if t then record { start = at; text = []; ended = true } ∷ ls else begun at b ls) → (Ended ls → all ≡ ls ++ lines_from (at + suc (length text)) rest) →
        (if t then record { start = at; text = []; ended = true } ∷ all else begun at b all) ≡ (if t then record { start = at; text = []; ended = true } ∷ ls else begun at b ls) ++ lines_from (at + suc (length text)) rest
    go true ls all h e = ap (λ m. record { start = at; text = []; ended = true } ∷ m) (e h.1)
    go false ls all h e = begun_append at b all ls (lines_from (at + suc (length text)) rest) h e
