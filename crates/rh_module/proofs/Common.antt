-- Names that many of the proofs here cite, passed on in one place.
pub use Rattle.std.proofs.Common.{Bool, List, ap, arith, eqb, false, inl, inr, length, neg_ℤ, negsuc, of_z, pos, refl, subst, suc, sym, to_z, true, zero, ℕ}
pub use Rattle.std.proofs.Common.{[], ◌%◌, ◌*◌, ◌+◌, ◌-ℤ◌, ◌-◌, ◌<◌, ◌^◌, ◌∙◌, ◌∷◌, ◌≡◌, ◌≤◌}
pub use Rattle.std.proofs.lemmas.Result.{err_from_is_err_and}
pub use Rattle.std.specs.Int.{w32}
pub use Rattle.std.specs.Prelude.{Err, FitsSigned, IfSome, IsOk, None, Ok, Option, Result, Some, ℤ}
pub use Rattle.rh_defs.proofs.HeapLaws.{heap_of-Spells}
pub use Rattle.rh_defs.proofs.MemoryLaws.{OnlyArea-from_Edited}
pub use Rattle.rh_defs.specs.Chain.{answer_of, left_of, no_answer}
pub use Rattle.rh_defs.specs.Heap.{Heap, extended, refusal_of}
pub use Rattle.rh_defs.specs.HeapImage.{IsImage}
pub use Rattle.rh_defs.specs.Memory.{IsOpen, Memory, OnlyArea, bytes}
pub use Rattle.rh_defs.specs.Pieces.{pages_for}
pub use Rattle.rh_defs.specs.declared.heap.HeapRefusal.{HeapRefusal}
pub use Rattle.rh_defs.specs.declared.sizes.TheConstants.{PAGE}
pub use Rattle.rh_heap.specs.declared.span.Span.{Span}
pub use Rattle.rh_module.specs.ModuleArea.{IsModule, SpellsModuleIn, module_heap_in}
pub use Rattle.rh_module.specs.ModuleCalls.{LeavesModule}
pub use Rattle.rh_module.specs.Inner.Lengths.{longer}
pub use Rattle.rh_module.specs.declared.module.Module.{Module}
