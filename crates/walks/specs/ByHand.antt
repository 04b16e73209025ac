-- What a walk by hand names of the logic, passed on.
pub use base.Fraction.{full_share}
pub use seplogic.Ra.Ura.{Ura}
pub use mir.Fields.{get_v, set_v}
pub use mir.Syntax.{named, w64, Lifetime, Callee, Ty, Opd as Operand, Body, place, seq, call, ty_ptr, deref, copy, rv_opd, assign, Local, local, Fn, value_local, erased, imm, ty_array, ty_int, ty_ref, addr_of, aggregate, ty_bool, Tys, Sym, mut, ty_struct, field, Rv as RValue, unsigned, int, skip, block, loop, cond, exit, return, op2, add, mul, lt, offset, Place, Step as PStep}
pub use mir.Val.{Val, vint, vunit, bits, vptr, WT, has_ty, vbool, Vals, vstruct}
pub use base.Fml.{Lft, Share, GName, fat, flft, ftrue, Fml, fsep, fdead, fobs, fauth, flent, fobor, feq, froom, fshr_bor, fres, fhide, fdies}
pub use base.Logic.{SProp, ent, emp, id⊢, sep, ex, via, mono_l, mono_r, assoc', fst∗, snd∗, emp∗}
pub use prog.Memory.{field_at}
pub use prog.Model.{Model}
pub use prog.Routine.{Env as Routines}
pub use prog.Wp.{Heap, WpFn, Env, Calls, Loops, spot_of, Closed, Tables, exits, after_seq, after_block, Wp, at_return, Spot}
unfoldable pub use prog.Wp.{after_turn}
pub use ghost.Atoms.{Atoms}
pub use ghost.Rules.{Halves}
pub use types.Logic.{sem}
pub use sound.WpLaws.{WpFn-mono, FmC}
pub use contract.Monad.{Fun, fact_i, fact}
pub use contract.Running.{Running, tables}
unfoldable pub use contract.Running.{tables_of}
pub use types.Kit.{Item, ‵, ⋆, ◌⊛◌, ◌$◌, ◌∵◌, !, qed, by, move, keep, drop, use0, use1, split, join, rewrite, fsplit, fjoin, feq_i, suffices, frame, done, Goal, Soaks, Seq, Step, step, some, later, use2, use3, pick, feq_l, await, updating, now as at_once, show, Post, Go, nth, put, raw, mean, runs, lands, prop, aim, del, pull, allocs, frees, at_ret, fpack, post, any_q}
pub use types.Part.{whole, sub, look_in, agg, Part}
pub use types.Run.{look, init, stop, fld, from, load, lit, of_opd, unit_lit, and_then, no_more, assigns, land, returns, enter, params1, pass1, pass0, free0, Opds, look_raw, hop, alloc1, alloc0, addr, Reads, Opd, Rv, store, forget, bin, assigns_last, first, blocks, branches, skips, jumps, exec, loops, again, Below, Walks, returns_within}
pub use types.SemTy.{cells, Arr}
pub use types.Share.{arr_parts, parts}
pub use types.Tokens.{lft_new, lft_end, lent_back, bor_new, bor_fracture, name_new, name_done, shr_bor_dup, shr_bor-open, obor_close}
pub use denote.Array.{Array, array_vals, Array-Tells, Array-Lawful}
pub use denote.ArrayMemory.{Single, Array-whole, Array-apart}
pub use denote.Builtin.{i64, u64, bool, SliceRefOf}
pub use denote.Copied.{each_Cuts}
pub use denote.Exit.{yes, Last, left}
pub use denote.Index.{row as index_row, whole_out, whole_in, opens_slice, closes_slice, place_is, elem_out, elem_back, looks_slice, shuts_slice}
pub use denote.Laws.{Is, shows, Tells, Makes, Copy, Are, Ises, Spells, Tellss, valss}
pub use denote.Lend.{Held, lends_slice, slice_back}
pub use denote.Lends.{Lent, Lent-nothing, Lent-both, Lent-map}
pub use denote.Memory.{mem, lone, shares, shared_of, pointee, part_at, cell_at}
unfoldable pub use denote.Memory.{part_of}
pub use denote.Opens.{Cuts-Halves, Cuts-both, Cuts-said}
pub use denote.Plain.{uint_vals, uint_Tells, uint_Lawful, uint_Makes, bool_Lawful, bool_Makes, bool_Tells}
pub use denote.RattleType.{RattleType, RowLaws, Denots, Valss, owns, flat}
pub use Rattle.std.specs.Borrow.{Bor, MutBor}
pub use denote.Shadow.{pure_l, pure_i}
pub use denote.Signature.{type_at, plain, types_at}
pub use denote.Slice.{slice_val, ShrSlice, shr_slice_vals, mut_slice_vals, shr_slice_Tells, shr_slice_Lawful, MutSlice, heres, Room, finally, shr_slice_at, mut_slice_at, coded_holeys, elements_shared, slice_ty, shr_slice_copy}
pub use denote.Steps.{nothing, only, said, heard, peeks}
pub use denote.Struct.Declared.{Declared, row, fields, shape}
pub use denote.Struct.Recorded.{Recorded-row_laws}
pub use denote.Struct.Struct.{Plains, Struct, Struct-row_laws}
pub use denote.Triple.Call.{calls_at}
pub use denote.Triple.Clauses.{Clauses, lasts, Ended, Lasts, AtExit, at_exit, ClausesAt, ensured, closing}
pub use denote.Triple.Entry.{on_entry, alive}
pub use denote.Triple.Spec.{Back, triple_of}
pub use denote.Triple.Statement.{Triple, Contract}
pub use denote.Triple.Table.{entered, framed}
pub use denote.Triple.Walked.{needs}
pub use borrow.Rule.Array.Init.{part_room}
pub use borrow.Rule.Array.Share.{Room-take}
pub use borrow.Rule.Slice.Shared.{parts-cells}
pub use borrow.Table.Elements.{at, cut_app, join_app}
