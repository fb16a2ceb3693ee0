-- What a call leaves, by what it is granted.
use Rattle.rh_module.proofs.Common.{◌≡◌, sym, ap, subst, ◌∙◌, Ok, Err, Memory, OnlyArea, bytes, Heap, answer_of, left_of, heap_of-Spells, Module, IsModule}
use Rattle.rh_module.proofs.Common.{SpellsModuleIn, module_heap_in, LeavesModule}
use Rattle.rh_defs.specs.Chain.{Granted}
use Rattle.rh_defs.specs.declared.refusal.Refusal.{Refusal}
use Rattle.rh_defs.proofs.MemoryLaws.{OnlyArea-self}
use Rattle.rh_module.proofs.SpanLaws.{is_module}

module _ {A : Type 0} (m n : Memory) (module_area : Module) (granted : Granted (Heap × A)) where
  -- it is done
  pub leaves : (h : Heap) (answer : A) → granted ≡ Ok (h, answer) → SpellsModuleIn n module_area h → OnlyArea m n module_area.area.0
      → LeavesModule m n module_area granted (Ok answer)
  leaves h answer e s only = record {
    answer = sym (ap answer_of e);
    heap = heap_of-Spells (bytes n module_area.area.0) 0 h s.spells ∙ sym (ap (left_of (module_heap_in m module_area)) e);
    spells = subst (λ g. SpellsModuleIn n module_area (left_of (module_heap_in m module_area) g)) (sym e) s;
    still = is_module n module_area h only.opened s;
    only = only;
    err = tt;
  }

  -- it is refused, and nothing has changed
  pub refuses : (refusal : Refusal) → granted ≡ Err refusal → n ≡ m → IsModule m module_area → LeavesModule m n module_area granted (Err refusal)
  refuses refusal e same s =
      let now = subst (λ i. IsModule i module_area) (sym same) s in
      let old : module_heap_in n module_area ≡ module_heap_in m module_area = ap (λ i. module_heap_in i module_area) same in
      record {
        answer = sym (ap answer_of e);
        heap = old ∙ sym (ap (left_of (module_heap_in m module_area)) e);
        spells = subst (λ g. SpellsModuleIn n module_area (left_of (module_heap_in m module_area) g)) (sym e)
            (subst (SpellsModuleIn n module_area) old now.spells);
        still = now;
        only = subst (λ i. OnlyArea m i module_area.area.0) (sym same) (OnlyArea-self m module_area.area.0 s.opened);
        err = same;
      }
