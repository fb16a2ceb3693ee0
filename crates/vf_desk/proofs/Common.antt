-- Names that many of the proofs here cite, passed on in one place.
pub use base.Fml.{fsep, ftrue}
pub use base.Logic.{SProp, emp, ent, fst∗, id⊢, never}
pub use borrow.Author.Tests.{tests}
pub use contract.Monad.{fact, fact_i}
pub use contract.Running.{tables}
pub use denote.Exit.{yes}
pub use denote.Param.{layout}
pub use denote.RattleType.{RattleType}
pub use denote.RawPtr.{Ptr, block_ptr, in_a_block, null_ptr, ptr_val}
pub use denote.Signature.{plain}
pub use denote.Steps.{nothing}
pub use denote.Triple.Walked.{Stays, stay_dropped, walk_of}
pub use mathlib.Core.List.{[], ◌++◌, ◌∷◌}
pub use mir.Raw.{raw as bare}
pub use mir.Syntax.{dnil}
pub use mir.Val.{Val, vptr}
pub use prog.Wp.{WpFn}
pub use types.ByLocal.{alloc_all, free_all, get, get_in, look_at, pass_all, sets}
pub use types.Kit.{by, fjoin, fsplit, keep, move, qed, raw, rewrite, split, suffices, use0, !, ‵, ◌$◌, ◌∵◌, ◌⊛◌}
pub use types.Logic.{sem}
pub use types.Part.{agg, sub, whole}
pub use types.Run.{and_then, enter, fld, no_more, of_opd, returns, stop}
pub use Rattle.std.proofs.Common.{Bool, Err, List, None, Ok, Some, ap, append-nil, append_assoc, arith, cond, drop, false, get_or, inl, inr, length}
pub use Rattle.std.proofs.Common.{length-append, length-take-le, min, refl, set, subst, suc, sym, take, take_all, true, zero, ℕ, ◌+◌, ◌-◌, ◌<◌, ◌∙◌, ◌≡◌, ◌≤◌}
pub use Rattle.std.proofs.lemmas.Int.{to_z-of_z}
pub use Rattle.std.proofs.raw_atomic.Walks.{leaves, proved_at}
pub use Rattle.std.specs.Box.Ownership.{box_owns}
pub use Rattle.std.specs.Int.{w32}
pub use Rattle.std.specs.Prelude.{IsSome, MatchResult, OnOk, Option, Result, find, if◌then◌else◌, is_some, map, nat_le, nat_lt, not, slice_get, ℤ, ◌==◌, ◌||◌}
pub use Rattle.std.specs.Prelude.{◌≢◌, ◌⊎◌}
pub use Rattle.std.specs.contracts.impls.GlobalAllocator.TheImpl.{ghosts}
pub use Rattle.core.proofs.alloc.Calls.{Goes-blank, handle_tells}
pub use Rattle.vf_desk.specs.Console.{filled_front}
pub use Rattle.vf_desk.specs.declared.console.Console.{Console}
unfoldable pub use Rattle.rh_defs.specs.Chain.{◌>>=◌}
pub use Rattle.rh_defs.specs.Desk.{Desk, Task}
unfoldable pub use Rattle.rh_defs.specs.Desk.{named}
pub use Rattle.rh_defs.specs.Forms.{is_name}
unfoldable pub use Rattle.rh_defs.specs.Range.{in_range}
pub use Rattle.rh_defs.specs.declared.command.Command.{Command}
pub use Rattle.rh_defs.specs.declared.question.Question.{Question}
pub use Rattle.vf_desk.specs.CallOutcome.{IsAsked, called, desk_by, in_form, number_or, status_of}
pub use Rattle.vf_desk.specs.DeskItems.{as_area, list_asked}
pub use Rattle.vf_desk.specs.DeskLines.{TakesLine}
pub use Rattle.vf_desk.specs.Inner.DeskLists.{filled_from}
pub use Rattle.vf_desk.specs.SeenDesk.{KeepsRest, SeenBy, console_in}
pub use Rattle.vf_desk.specs.DeskStatus.{closed_status}
pub use Rattle.vf_desk.specs.declared.call_outcome.CallOutcome.{CallOutcome}
pub use Rattle.vf_desk.specs.declared.open_desk.OpenDesk.{OpenDesk}
