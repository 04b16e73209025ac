-- The form of a walk over a lent table, for elements of any declared type and any step: functions
--     fn walk(table: &[T], x: X) -> R { let mut r = FIRST; let mut k: usize = 0; while k < table.len() { r = step(r, table[k], x); k += 1; } r }
-- with `fn step(r: R, m: T, x: X) -> R`, or with `step(r, table[k])`. Their MIR is `function`, but for T, R, X, FIRST and the step.
--     Extra, First     what is to be known of the type X, and of R and the value that r has at first
--     Says             what the step and the walk ask and give
--     Facts            what is to be shown of a walk, of lists and values alone: an invariant that holds at first, that a step keeps, and
--                      that says at the end what the walk gives
use Rattle.std.specs.Prelude.{◌≡◌, refl, Bool, true, false, List, [], ◌∷◌}
use Rattle.walks.specs.ByHand.{Ura, Callee, Operand, Ty, Fn, Body, RValue, named, imm, w64, ty_int, ty_bool, ty_ptr, ty_ref, deref, field, place, unsigned, copy, int, local, value_local, skip, seq, assign, block, loop, cond, exit, return, call, rv_opd, op2, add, mul, lt, offset, Val, SProp, ent, sep, emp, via, fst∗, id⊢, Env, sem, fact, fact_i, Item, Go, Opd, Rv, SliceRefOf, yes, Last, left, Is, Copy, pointee, RattleType, plain, slice_ty, Clauses, Ended, needs}
use Rattle.walks.specs.Plain.{Plain}
use Rattle.walks.specs.Element.{Element, Of, element_row, mir_of, element_bytes}
use types.Logic.{Logic, sem}

abbrev pub word_ty : Ty
word_ty = ty_int w64

abbrev pub slice : Element → Ty
slice L = slice_ty (ty_ref (named 0) imm (pointee (element_row L).written))

-- ---- the MIR. The locals: the result, the members, x, the running value, k, the count and the byte offset, the test, the element's place, the element
-- p: whether the step is passed x too
abbrev pub operands : Bool → List Operand
operands true = copy (place 3 []) ∷ copy (place 8 []) ∷ copy (place 2 []) ∷ []
operands false = copy (place 3 []) ∷ copy (place 8 []) ∷ []

abbrev pub turn : Element → Bool → Callee → Body
turn L p f =
    seq (assign (place 5 []) (rv_opd (copy (place 1 (field 1 ∷ [])))))
    (seq (assign (place 6 []) (op2 (lt unsigned) (copy (place 4 [])) (copy (place 5 []))))
    (seq (cond (copy (place 6 [])) skip (exit 1))
    (seq (assign (place 5 []) (op2 (mul unsigned) (copy (place 4 [])) (int w64 (element_bytes L))))
    (seq (assign (place 7 []) (op2 offset (copy (place 1 (field 0 ∷ []))) (copy (place 5 []))))
    (seq (assign (place 8 []) (rv_opd (copy (place 7 (deref (mir_of L) ∷ [])))))
    (seq (call f (operands p) (place 3 []))
    (assign (place 4 []) (op2 (add unsigned) (copy (place 4 [])) (int w64 1)))))))))

abbrev pub rest : Body
rest = seq (assign (place 0 []) (rv_opd (copy (place 3 [])))) return

abbrev pub function : Element → Ty → Ty → RValue → Bool → Callee → Fn
function L τ σ rv p f = record {
  lifetimes = 1;
  outlives = [];
  ty_params = [];
  givens = 0;
  params = 2;
  locals = local τ value_local ∷ local (slice L) value_local ∷ local σ value_local ∷ local τ value_local ∷ local word_ty value_local ∷ local word_ty value_local ∷ local ty_bool value_local ∷ local ty_ptr value_local ∷ local (mir_of L) value_local ∷ [];
  body = seq (assign (place 3 []) rv) (seq (assign (place 4 []) (rv_opd (int w64 0))) (seq (block (loop (turn L p f))) rest));
}

-- ---- the contracts. t: whether there is a `requires`
abbrev pub clause : Bool → {M : Type 1} (𝓤 : Ura M) → Type 0 → SProp 𝓤
clause true 𝓤 φ = fact 𝓤 φ
clause false 𝓤 φ = emp 𝓤

pub clause_in : (t : Bool) {M : Type 1} (𝓤 : Ura M) (φ : Type 0) → φ → ent 𝓤 (emp 𝓤) (clause t 𝓤 φ)
clause_in true 𝓤 φ h = fact_i 𝓤 φ (emp 𝓤) h
clause_in false 𝓤 φ h = id⊢ 𝓤 (emp 𝓤)

pub clause_out : (t : Bool) {M : Type 1} (𝓤 : Ura M) (φ : Type 0) (P : SProp 𝓤) {Q : SProp 𝓤} → (t ≡ false → φ) → (φ → ent 𝓤 P Q) → ent 𝓤 (sep 𝓤 P (clause t 𝓤 φ)) Q
clause_out true 𝓤 φ P h k = needs 𝓤 φ P k
clause_out false 𝓤 φ P h k = via 𝓤 P (fst∗ 𝓤 P (emp 𝓤)) (k (h refl))

module _ (L : Element) (R X : RattleType) where
  abbrev pub step_ended : Bool → Ended
  step_ended true = record {
    signature = record { lifetimes = 0; outlives = []; params = plain (λ _. R) ∷ plain (λ _. (element_row L)) ∷ plain (λ _. X) ∷ []; result = plain (λ _. R) };
    kept = (yes, (yes, (yes, tt)));
  }
  step_ended false = record { signature = record { lifetimes = 0; outlives = []; params = plain (λ _. R) ∷ plain (λ _. (element_row L)) ∷ []; result = plain (λ _. R) }; kept = (yes, (yes, tt)) }

  abbrev pub walk_ended : Ended
  walk_ended = record {
    signature = record { lifetimes = 1; outlives = []; params = SliceRefOf (0 ∷ []) tt (plain (λ _. (element_row L))) (λ _. tt) ∷ plain (λ _. X) ∷ []; result = plain (λ _. R) };
    kept = (yes, (yes, tt));
  }

  -- what a step is passed of x
  abbrev pub Passed : Bool → Type 0
  Passed true = X.Denot
  Passed false = Unit {0}

  abbrev pub pass : (p : Bool) → X.Denot → Passed p
  pass true x = x
  pass false x = tt

  pub record Says (p t : Bool) : Type 1 where
    pub asks : R.Denot → Of L → Passed p → Type 0
    pub gives : R.Denot → Of L → Passed p → R.Denot → Type 0
    pub needs : List (Of L) → X.Denot → Type 0
    pub ends : List (Of L) → X.Denot → R.Denot → Type 0

  abbrev pub step_clauses : (p t : Bool) → Says p t → {M : Type 1} (𝓤 : Ura M) → Clauses 𝓤 (step_ended p)
  step_clauses true t S 𝓤 κs a = record { ghost = Unit {0}; requires = λ _. clause t 𝓤 (S.asks a.0 a.1.0 a.1.1.0); ensures = λ _ r _. fact 𝓤 (S.gives a.0 a.1.0 a.1.1.0 r) }
  step_clauses false t S 𝓤 κs a = record { ghost = Unit {0}; requires = λ _. clause t 𝓤 (S.asks a.0 a.1.0 tt); ensures = λ _ r _. fact 𝓤 (S.gives a.0 a.1.0 tt r) }

  abbrev pub walk_clauses : (p t : Bool) → Says p t → {M : Type 1} (𝓤 : Ura M) → Clauses 𝓤 walk_ended
  walk_clauses p t S 𝓤 κs a = record { ghost = Unit {0}; requires = λ _. clause t 𝓤 (S.needs a.0.now a.1.0); ensures = λ _ r _. fact 𝓤 (S.ends a.0.now a.1.0 r) }

  -- Inv ms x rest r, where r is the running value and rest the members still to come
  pub record Facts (p t : Bool) (S : Says p t) (start : X.Denot → R.Denot) : Type 1 where
    pub free : t ≡ false → (ms : List (Of L)) (x : X.Denot) → S.needs ms x
    pub Inv : List (Of L) → X.Denot → List (Of L) → R.Denot → Type 0
    pub none : (ms : List (Of L)) (x : X.Denot) → S.needs ms x → Inv ms x ms (start x)
    pub asked : (ms : List (Of L)) (x : X.Denot) (m : Of L) (rest : List (Of L)) (r : R.Denot) → Inv ms x (m ∷ rest) r → S.asks r m (pass p x)
    pub more : (ms : List (Of L)) (x : X.Denot) (m : Of L) (rest : List (Of L)) (r : R.Denot) → Inv ms x (m ∷ rest) r → (r' : R.Denot) → S.gives r m (pass p x) r' → Inv ms x rest r'
    pub all : (ms : List (Of L)) (x : X.Denot) (r : R.Denot) → Inv ms x [] r → S.ends ms x r

-- plain data that a local of the MIR type σ holds, and that a function leaves as it is
pub record Extra (X : RattleType) (σ : Ty) : Type 2 where
  pub plain : Plain X σ
  pub copies : {M : Type 1} {𝓤 : Ura M} (𝓛 : Logic 𝓤) → Copy 𝓛 X
  pub last : (x : X.Denot) → Last (X.exit yes) x
  pub silent : {M : Type 1} {𝓤 : Ura M} (𝓛 : Logic 𝓤) (x : X.Denot) → ent 𝓤 (emp 𝓤) (sem 𝓛 (left (X.exit yes) x (last x)))

-- the running value at first, made of x
pub record First (R X : RattleType) (x_val : X.Denot → Val) (rv : RValue) : Type 2 where
  pub start : X.Denot → R.Denot
  pub val : X.Denot → Val
  pub is : (x : X.Denot) → Is X x (x_val x ∷ []) → Is R (start x) (val x ∷ [])
  pub runs : {M : Type 1} {𝓤 : Ura M} (𝓛 : Logic 𝓤) (Γ : List (Item 𝓤)) (E : Env 𝓤 𝓛.H) (x : X.Denot) → Opd (Go {0}) 𝓛 Γ E (copy (place 2 [])) (x_val x) → Rv (Go {0}) 𝓛 Γ E rv (val x)
