use Rattle.rh_store.proofs.Common.{◌≡◌, ◌+◌, ◌%◌, ℕ, false, List, [], ◌∷◌, length, refl, sym, ap, subst, ◌∙◌, arith, All, None, Area, MAX_AREAS, PAGE}
use Rattle.rh_store.proofs.Common.{contents, memory_of}
use Rattle.std.proofs.Math.ListN.{length-append}
use Rattle.rh_store.specs.Areas.{IsTidyArea, HasRoomFor}
use Rattle.rh_defs.proofs.MemoryLaws.{pages_below-none}
use Rattle.rh_store.proofs.AreasLaws.{contents-nil, contents-push, tidy-push, reserved-push, memory-fresh}
use Rattle.rh_store.proofs.plain.PlainStore.new.Goals as goal

pub loop-k-init : goal.loop-k-init
unfolding memory_of
loop-k-init c =
    let none = c.in_ok-areas.ensures.items in
    record {
      len = ap length none;
      tidy = λ k d h. absurd (let l = ap length none in omega arith);
      reserved = λ k d h. absurd (let l = ap length none in omega arith);
      closed = contents-nil c.in_ok-areas.areas.items none;
    }

pub loop-k-preserved : goal.loop-k-preserved
unfolding memory_of
loop-k-preserved c =
    let items = c.in_ok-push.ensures.items in
    let none = c.in_ok-bytes.ensures.items in
    let list = c.loop-k.areas.items in
    let so_far = c.loop-k.invariant in
    let a : Area = record { opened = false; bytes = c.in_ok-bytes.bytes } in
    record {
      len = ap length items ∙ length-append list (a ∷ []) ∙ ap (λ k. k + 1) so_far.len;
      tidy = subst (λ (l : List Area). All IsTidyArea l) (sym items) (tidy-push list a so_far.tidy
          (record { whole = ap (λ (l : List ℕ). length l % PAGE) none; empty = λ f. none }));
      reserved = subst (λ (l : List Area). All (HasRoomFor c.args.pages) l) (sym items)
          (reserved-push c.args.pages list a so_far.reserved (record { room = let exact = c.in_ok-bytes.ensures.exact in omega arith }));
      closed = subst (λ (l : List Area). (k : ℕ) → contents l k ≡ None) (sym items) (contents-push list a so_far.closed refl);
    }

pub invariant_of-result : goal.invariant_of-result
unfolding memory_of
invariant_of-result c = record {
  few = let most = c.requires.most in omega arith;
  kept = record {
    table = let l = c.loop-k.invariant.len in omega arith;
    tidy = c.loop-k.invariant.tidy;
    reserved = c.loop-k.invariant.reserved;
    ledger = let none = pages_below-none (contents c.loop-k.areas.items) MAX_AREAS c.loop-k.invariant.closed in omega arith;
  };
}

pub returns : goal.returns
unfolding memory_of
returns c = memory-fresh c.loop-k.areas.items c.args.pages c.loop-k.invariant.closed
