-- Why the laws of `Store` hold of the pages of lent bytes.
use Rattle.std.specs.Prelude.{◌≡◌, ℕ, ◌+◌, ◌*◌, ◌%◌, ◌≤◌, ◌==◌, List, length}
use Rattle.std.proofs.Common.{arith}
use Rattle.std.proofs.lemmas.List.{length-take-le}
use Rattle.rh_defs.specs.Memory.{Ledger, area_set, bytes, pages_below}
use Rattle.rh_defs.specs.declared.sizes.TheConstants.{MAX_AREAS, PAGE}
use Rattle.rh_lent_slot.specs.declared.pages.LentPages.{LentPages}
use Rattle.rh_lent_slot.specs.declared.pages_mut.LentPagesMut.{LentPagesMut}
use Rattle.rh_store.specs.Limits.{area_limit, pool_limit}
use Rattle.rh_store.specs.Inner.StoreLaws.{short_shown, whole_shown}
use Rattle.rh_lent_slot.specs.LentPages.{first_pages, lent_pages_memory, pages_memory_over, pages_memory_shown}

long : (b : List ℕ) (n : ℕ) → PAGE * n ≤ length b → length (first_pages n b) ≡ PAGE * n
long b n within = length-take-le (PAGE * n) b within

pub lent_small_law : (s : LentPagesMut) (id : ℕ) → length (bytes (lent_pages_memory s) id) ≤ area_limit
unfolding lent_pages_memory pages_memory_over area_set bytes
lent_small_law s id =
    short_shown (id == 0) _ area_limit (let l = long s.bytes.now s.pages s.within in let w = s.within in let f = s.few in omega arith)

pub lent_whole_law : (s : LentPagesMut) (id : ℕ) → length (bytes (lent_pages_memory s) id) % PAGE ≡ 0
unfolding lent_pages_memory pages_memory_over area_set bytes
lent_whole_law s id = whole_shown (id == 0) _ (let l = long s.bytes.now s.pages s.within in omega arith)

pub shown_pages_small_law : (s : LentPages) (id : ℕ) → length (bytes (pages_memory_shown s) id) ≤ area_limit
unfolding pages_memory_shown pages_memory_over area_set bytes
shown_pages_small_law s id =
    short_shown (id == 0) _ area_limit
    (let l = long s.bytes.now s.pages s.within in let w = s.within in let f = s.few in omega arith)

pub shown_whole_law : (s : LentPages) (id : ℕ) → length (bytes (pages_memory_shown s) id) % PAGE ≡ 0
unfolding pages_memory_shown pages_memory_over area_set bytes
shown_whole_law s id = whole_shown (id == 0) _ (let l = long s.bytes.now s.pages s.within in omega arith)

pub lent_within_law : (s : LentPagesMut) (id : ℕ)
    → PAGE * (lent_pages_memory s).free + length (bytes (lent_pages_memory s) id) ≤ PAGE * (lent_pages_memory s).pages
unfolding lent_pages_memory pages_memory_over area_set bytes
lent_within_law s id =
    let h = short_shown (id == 0) (first_pages s.pages s.bytes.now) (PAGE * s.pages) (let l = long s.bytes.now s.pages s.within in omega arith) in
    let w = s.within in
    omega arith

pub lent_few_law : (s : LentPagesMut) → (lent_pages_memory s).pages ≤ pool_limit
unfolding lent_pages_memory pages_memory_over
lent_few_law s = let f = s.few in omega arith

pub lent_ledger_law : (s : LentPagesMut) → Ledger (lent_pages_memory s) MAX_AREAS
unfolding lent_pages_memory pages_memory_over area_set pages_below
lent_ledger_law s = let l = long s.bytes.now s.pages s.within in let w = s.within in omega arith
