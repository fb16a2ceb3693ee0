-- What a call is granted, by the need that the heap answered.
use Rattle.rh_module.proofs.Common.{◌≡◌, ℕ, ◌+◌, ◌*◌, ◌<◌, ◌≤◌, to_z, of_z, refl, sym, ap, subst, ◌∙◌, arith, Result, Ok, Err, ℤ, FitsSigned, w32, PAGE}
use Rattle.rh_module.proofs.Common.{Memory, pages_for, Heap, refusal_of, HeapRefusal, Span, Module, IsModule, SpellsModuleIn, module_heap_in, longer}
use Rattle.rh_module.proofs.Common.{LeavesModule}
use Rattle.std.proofs.lemmas.Int.{to_z-of_z}
use Rattle.rh_defs.specs.Heap.{raised, block_at, claim_block, claim_need, resize_block, need_at}
use Rattle.rh_defs.specs.Module.{module_claim, module_resize, module_need_pages}
use Rattle.rh_defs.specs.declared.refusal.Refusal.TheVariants.{NoRoom}
use Rattle.rh_defs.proofs.ModuleLaws.{Grows, module_claim-zero, module_claim-short, module_claim-grows, module_need_pages-zero, module_need_pages-is}
use Rattle.rh_defs.proofs.ModuleLaws.{module_resize-refused, module_resize-short, module_resize-grows}
use Rattle.rh_defs.proofs.HeapGrowth.{claim-granted, resize-granted}
use Rattle.rh_defs.proofs.MemoryLaws.{OnlyArea-self}
use Rattle.rh_heap.specs.HeapCalls as heap_calls
use Rattle.rh_heap.specs.HeapSpans as spans
use Rattle.rh_module.proofs.SpanLaws.{span_of, old_heap}
use Rattle.rh_module.proofs.GrowthLaws.{Grown, done}

-- an amount, as the code passes it on
abbrev pub passed : ℤ → ℤ
passed delta = to_z w32 (of_z w32 delta)

-- a heap with no page more
longer_none : (h : Heap) → longer 0 h ≡ h
longer_none h = ap (λ (e : ℕ). let r : Heap = record h { end = e } in r) (let z : h.end + PAGE * 0 ≡ h.end = omega arith in z)

module _ {m : Memory} {module_area : Module} {span : Span} (at : span ≡ span_of module_area) (s : IsModule m module_area) where
  -- ---- claims
  asked : (r : Result ℕ HeapRefusal) (n : ℕ) → r ≡ claim_need n (spans.heap_in m span) → r ≡ claim_need n (module_heap_in m module_area)
  asked r n e = e ∙ ap (claim_need n) (old_heap at s)

  pub claim_refused : {refusal : HeapRefusal} (n : ℕ) → Err refusal ≡ claim_need n (spans.heap_in m span)
      → module_claim m.free n (module_heap_in m module_area) ≡ Err (refusal_of refusal)
  claim_refused {refusal} n e = module_claim-zero m.free n (module_heap_in m module_area) refusal (asked (Err refusal) n e)

  pub claim_no_room : {k pages : ℕ} (n : ℕ) → Ok k ≡ claim_need n (spans.heap_in m span) → pages ≡ pages_for k → m.free < pages
      → module_claim m.free n (module_heap_in m module_area) ≡ Err NoRoom
  claim_no_room {k} n e p l = module_claim-short m.free k n (module_heap_in m module_area) (asked (Ok k) n e) (rw (sym p) l)

  pub claim_grown : {k pages : ℕ} (n : ℕ) (later : Memory) → Ok k ≡ claim_need n (spans.heap_in m span) → pages ≡ pages_for k → pages ≤ m.free
      → SpellsModuleIn later module_area (longer pages (module_heap_in m module_area)) → Grown later module_area span (module_heap_in m module_area) k
      (claim_block n)
      (module_claim m.free n (module_heap_in m module_area))
  claim_grown {k} {pages} n later e p l long =
      record {
        grows = module_claim-grows m.free k n (module_heap_in m module_area) (asked (Ok k) n e)
            (rw (sym p) l);
        at = at;
        pages = pages;
        pages_are = p;
        long = long;
      }

  long_as_is : SpellsModuleIn m module_area (longer 0 (module_heap_in m module_area))
  long_as_is = subst (SpellsModuleIn m module_area) (sym (longer_none (module_heap_in m module_area))) s.spells

  -- a claim that the heap as it is grants
  pub claimed_here : (n : Memory) (k x : ℕ) → heap_calls.LeavesHeap m n span (claim_block k (spans.heap_in m span)) (Ok x)
      → LeavesModule m n module_area (module_claim m.free k (module_heap_in m module_area)) (Ok x)
  claimed_here n k x l =
      done (claim_grown {k = 0} {pages = 0} k m (claim-granted k x (spans.heap_in m span) l.answer) refl (omega arith) long_as_is) m n (Ok x) l x refl
      (OnlyArea-self m module_area.area.0 s.opened)

  pub need_pages_refused : {refusal : HeapRefusal} (n : ℕ) → Err refusal ≡ claim_need n (spans.heap_in m span)
      → module_need_pages n (module_heap_in m module_area) ≡ Err (refusal_of refusal)
  need_pages_refused {refusal} n e = module_need_pages-zero n (module_heap_in m module_area) refusal (asked (Err refusal) n e)

  pub need_pages_is : {k : ℕ} (n : ℕ) → Ok k ≡ claim_need n (spans.heap_in m span) → module_need_pages n (module_heap_in m module_area) ≡ Ok (pages_for k)
  need_pages_is {k} n e = module_need_pages-is k n (module_heap_in m module_area) (asked (Ok k) n e)

  -- ---- resizes
  module _ (address : ℕ) (delta : ℤ) (fits : FitsSigned w32 delta) where
    asked_at : (r : Result ℕ HeapRefusal) → r ≡ need_at address (passed delta) (spans.heap_in m span) → r ≡ need_at address delta (module_heap_in m module_area)
    asked_at r e = e ∙ ap (λ d. need_at address d (spans.heap_in m span)) (to_z-of_z w32 delta fits) ∙ ap (need_at address delta) (old_heap at s)

    pub resize_refused : {refusal : HeapRefusal} → Err refusal ≡ need_at address (passed delta) (spans.heap_in m span)
        → module_resize m.free address delta (module_heap_in m module_area) ≡ Err (refusal_of refusal)
    resize_refused {refusal} e = module_resize-refused m.free address delta (module_heap_in m module_area) refusal (asked_at (Err refusal) e)

    pub resize_no_room : {k pages : ℕ} → Ok k ≡ need_at address (passed delta) (spans.heap_in m span) → pages ≡ pages_for k → m.free < pages
        → module_resize m.free address delta (module_heap_in m module_area) ≡ Err NoRoom
    resize_no_room {k} e p l = module_resize-short m.free k address delta (module_heap_in m module_area) (asked_at (Ok k) e) (rw (sym p) l)

    pub resize_grown : {k pages : ℕ} (later : Memory) → Ok k ≡ need_at address (passed delta) (spans.heap_in m span) → pages ≡ pages_for k → pages ≤ m.free
        → SpellsModuleIn later module_area (longer pages (module_heap_in m module_area))
        → Grown later module_area span (module_heap_in m module_area) k (resize_block address (passed delta))
        (module_resize m.free address delta (module_heap_in m module_area))
    resize_grown {k} {pages} later e p l long =
        let h = module_heap_in m module_area in
        let done = module_resize-grows m.free k address delta h (asked_at (Ok k) e) (rw (sym p) l) in
        record {
          grows = subst (λ d. Grows (raised k h).end (resize_block address d (raised k h)) (module_resize m.free address delta h))
              (sym (to_z-of_z w32 delta fits))
              done;
          at = at;
          pages = pages;
          pages_are = p;
          long = long;
        }

    -- a resize that the heap as it is grants
    pub resized_here : (n : Memory) (x : ℕ) → heap_calls.LeavesHeap m n span (resize_block address (passed delta) (spans.heap_in m span)) (Ok x)
        → LeavesModule m n module_area (module_resize m.free address delta (module_heap_in m module_area)) (Ok x)
    resized_here n x l =
        let h = spans.heap_in m span in
        done (resize_grown {k = 0} {pages = 0} m (resize-granted (passed delta) (block_at address h) h x l.answer) refl (omega arith) long_as_is) m n (Ok x)
        l x refl (OnlyArea-self m module_area.area.0 s.opened)
