-- Plain data that a local of the MIR type τ holds: a word, a bool, a value of a declared type.
use Rattle.std.specs.Prelude.{[], ◌∷◌, T}
use Rattle.walks.specs.ByHand.{Ura, Ty, w64, ty_int, ty_bool, Val, WT, has_ty, vint, vbool, u64, bool, Is, Tells, Makes, lone, uint_Lawful, uint_Makes, uint_Tells, bool_Lawful, bool_Makes, bool_Tells, RattleType, Declared, row, fields, Plains}
use denote.Struct.Laws as LL
use types.Logic.{Logic}

pub record Plain (X : RattleType) (τ : Ty) : Type 2 where
  pub val : X.Denot → Val
  pub tells : Tells X (Is X) (λ x. val x ∷ [])
  pub typed : {M : Type 1} {𝓤 : Ura M} (𝓛 : Logic 𝓤) (x : X.Denot) (v : Val) → Is X x (v ∷ []) → T (has_ty τ v) × WT v
  pub makes : {M : Type 1} {𝓤 : Ura M} (𝓛 : Logic 𝓤) → Makes 𝓛 X (Is X)

abbrev pub word : Plain u64 (ty_int w64)
word = record { val = vint w64; tells = uint_Tells w64; typed = λ 𝓛 x v is. ((uint_Lawful 𝓛 w64).typed x (v ∷ []) is).0; makes = λ 𝓛. uint_Makes 𝓛 w64 }

abbrev pub flag : Plain bool ty_bool
flag = record { val = vbool; tells = bool_Tells; typed = λ 𝓛 x v is. ((bool_Lawful 𝓛).typed x (v ∷ []) is).0; makes = λ 𝓛. bool_Makes 𝓛 }

abbrev pub declared : (D : Declared) (laws : LL.Laws D) → Plains (fields D) → Plain (row D) (lone (row D).mir)
declared D laws plain = record { val = LL.val D laws; tells = LL.tells D laws; typed = λ 𝓛 x v is. ((LL.lawful D laws 𝓛).typed x (v ∷ []) is).0; makes = λ 𝓛. LL.makes D plain 𝓛 }
