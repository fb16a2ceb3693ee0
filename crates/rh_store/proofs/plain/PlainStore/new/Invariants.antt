use Rattle.rh_store.proofs.Common.{◌≡◌, ℕ, length, All, None, contents}
use Rattle.rh_store.specs.Areas.{IsTidyArea, HasRoomFor}
use Rattle.rh_store.proofs.plain.PlainStore.new.Given as goal

abbrev pub invariant-loop-k : goal.invariant-loop-k
invariant-loop-k l = record {
  len : length l.areas.items ≡ l._k;
  tidy : All IsTidyArea l.areas.items;
  reserved : All (HasRoomFor l.pages) l.areas.items;
  closed : (k : ℕ) → contents l.areas.items k ≡ None;
}
