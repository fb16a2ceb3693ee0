-- Names that many of the proofs here cite, passed on in one place.
pub use Prim.Native.Nat.{suc, ℕ, ◌+◌, ◌<◌, ◌^◌, ◌≤◌}
pub use base.Fml.{Fml, Lft, Share, flft, fsep, ftrue}
pub use base.Fraction.{full_share}
pub use base.Logic.{SProp, emp, ent, guard, id⊢, sep}
pub use contract.Monad.{fact}
pub use contract.Running.{MachineTables, Running, tables}
pub use denote.Array.{Array}
pub use denote.Builtin.{RefOf, u8, unit, usize}
pub use denote.Exit.{yes}
pub use denote.Memory.{part_at}
pub use denote.Plain.{uint_Tells, uint_vals}
pub use denote.RawPtr.{Ptr, RawPtr, block_ptr, in_a_block, lies_at, rawptr_vals}
pub use denote.RawPtr.Bytes.{bytes}
pub use denote.Ref.{Bor, shr_Tells, shr_vals}
pub use denote.Signature.{plain}
pub use denote.Steps.{heard, nothing}
pub use denote.Triple.Clauses.{Clauses}
pub use denote.Triple.Walked.{Goes-dropped, Stays, stay_dropped, walk_of}
pub use lib.Dec.{T, lit<}
pub use lib.ListN.{length}
pub use mathlib.Core.List.{List, [], ◌++◌, ◌∷◌}
pub use mathlib.Core.Path.{ap, refl, sym, ◌∙◌, ◌≡◌}
pub use mir.Syntax.{named, w64, w8}
pub use mir.Val.{Val, WT, has_ty, vcons, vint, vnil, vptr, vunit}
pub use native.Mathlib.Omega.{arith}
pub use prog.Model.{Model}
pub use prog.Wp.{Env}
pub use seplogic.Ra.Ura.{Ura}
pub use types.ByLocal.{alloc_all, env, free_all, get, holding, look_at, pass_all, sets, sets_last, through}
pub use types.Kit.{Item, Sq, at_ret, await, by, check, done, drop, feq_i, feq_l, fjoin, flt_i, flt_l, frame, fsplit, fsplit3, given, join, keep, later, learn}
pub use types.Kit.{mean, move, pick, qed, raw, rewrite, runs, some, split, suffices, use0, use1, use2, !, ‵, ⋆, ◌$◌, ◌∵◌, ◌⊛◌}
pub use types.Logic.{Logic, sem}
pub use types.Part.{agg, whole}
pub use types.Run.{and_then, blocks, enter, exec, first, fld, lit, no_more, of_opd, returns, stop}
pub use Rattle.std.proofs.raw_atomic.Walks.{leaves, proved}
pub use Rattle.std.specs.declared.alloc.Global.{Global}
pub use Rattle.core.proofs.slots.Bodies.{after}
pub use Rattle.rh_region.specs.Ownership.{block_owns}
pub use Rattle.rh_region.specs.Inner.OwnedRoom.{room_of, zeros_at}
unfoldable pub use Rattle.rh_region.specs.Zeros.{zeros}
pub use Rattle.rh_region.specs.declared.raw.Block.{Block}
