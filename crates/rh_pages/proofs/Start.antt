-- A store whose pages are all free, and areas that are opened and closed.
use Rattle.rh_pages.proofs.Common.{◌≡◌, ℕ, zero, suc, ◌+◌, ◌-◌, ◌*◌, ◌/◌, ◌<◌, ◌≤◌, Bool, true, false, inl, inr, List, [], ◌∷◌, ◌++◌, length, get_or, set}
use Rattle.rh_pages.proofs.Common.{replicate, refl, sym, ap, ◌∙◌, arith, Option, Some, None, unwrap_or, cases_eq, length-replicate, length_push, length-set}
use Rattle.rh_pages.proofs.Common.{get_or-set_other, PAGE, area_set, paged_bytes, list_at, paged_contents, paged_memory_in, IsPagedStore, times, times_all}
use Rattle.std.proofs.Math.Path.{fun_ext}
use Rattle.rh_defs.specs.Memory.{opened, fresh}
use Rattle.rh_defs.proofs.MemoryLaws.{pages_below-none}
use Rattle.rh_pages.proofs.Areas.{contents_marked, flagged, ledger_set, memory_set}
use Rattle.rh_pages.proofs.Chunks.{head_tells}
use Rattle.rh_pages.proofs.Counts.{times-push}

-- pages - 1, pages - 2 and so on, n numbers
abbrev pub from_top : ℕ → ℕ → List ℕ
from_top pages zero = []
from_top pages (suc n) = from_top pages n ++ (pages - 1 - n) ∷ []

pub length_top : (pages n : ℕ) → length (from_top pages n) ≡ n
length_top pages zero = refl
length_top pages (suc n) = let a = length_top pages n in let b = length_push (from_top pages n) (pages - 1 - n) in omega arith

times_past : (j pages n : ℕ) → n ≤ pages → pages ≤ j → times j (from_top pages n) ≡ 0
times_past j pages zero few le = refl
times_past j pages (suc n) few le =
    let a = times-push j (pages - 1 - n) (from_top pages n) in let b = times_past j pages n (omega arith) le in
    elim (head_tells (pages - 1 - n) j) [ inl h ↦ let e = h.0 in absurd (omega arith) | inr h ↦ let z = h.1 in omega arith ]

times_later : (j pages n : ℕ) → n + j < pages → times j (from_top pages n) ≡ 0
times_later j pages zero lt = refl
times_later j pages (suc n) lt =
    let a = times-push j (pages - 1 - n) (from_top pages n) in let b = times_later j pages n (omega arith) in
    elim (head_tells (pages - 1 - n) j) [ inl h ↦ let e = h.0 in absurd (omega arith) | inr h ↦ let z = h.1 in omega arith ]

times_top : (j pages n : ℕ) → n ≤ pages → times j (from_top pages n) ≤ 1
times_top j pages zero few = omega arith
times_top j pages (suc n) few = let a = times-push j (pages - 1 - n) (from_top pages n) in elim (head_tells (pages - 1 - n) j) [
  | inl h ↦ let e = h.0 in let o = h.1 in let b = times_later j pages n (omega arith) in omega arith
  | inr h ↦ let z = h.1 in let b = times_top j pages n (omega arith) in omega arith
]

times_none : (j n : ℕ) → times_all j (replicate n []) ≡ 0
times_none j zero = refl
times_none j (suc n) = let a = times_none j n in omega arith

list_none : (n j : ℕ) → list_at (replicate n []) j ≡ []
list_none zero j = refl
list_none (suc n) zero = refl
list_none (suc n) (suc j) = list_none n j

flag_none : (n j : ℕ) → get_or (replicate n false) j false ≡ false
flag_none zero j = refl
flag_none (suc n) zero = refl
flag_none (suc n) (suc j) = flag_none n j

module _ (r : List ℕ) (lists : List (List ℕ)) (flags : List Bool) (free : List ℕ) (pages limit : ℕ) (no_lists : lists ≡ replicate limit [])
    (no_flags : flags ≡ replicate limit false) (all : free ≡ from_top pages pages) where
  all_closed : (j : ℕ) → paged_contents r lists flags j ≡ None
  all_closed j = contents_marked r lists flags j false (ap (λ (l : List Bool). get_or l j false) no_flags ∙ flag_none limit j)

  count : length free ≡ pages
  count = ap length all ∙ length_top pages pages

  not_listed : (j : ℕ) → times_all j lists ≡ 0
  not_listed j = ap (times_all j) no_lists ∙ times_none j limit

  pub fresh_kept : length r ≡ PAGE * pages → IsPagedStore r lists flags free pages limit
  fresh_kept size = record {
    size = size;
    table = ap length no_lists ∙ length-replicate {A = List ℕ} limit [];
    flags = ap length no_flags ∙ length-replicate {A = Bool} limit false;
    once = λ j. let a = not_listed j in let b = ap (times j) all in let c = times_top j pages pages (omega arith) in omega arith;
    below = λ j h. let a = not_listed j in let b = ap (times j) all in let c = times_past j pages pages (omega arith) h in omega arith;
    empty = λ j off. ap (λ l. list_at l j) no_lists ∙ list_none limit j;
    ledger = let none = pages_below-none (paged_contents r lists flags) limit all_closed in let c = count in omega arith;
  }

  pub fresh_memory : paged_memory_in r lists flags free pages ≡ fresh pages
  unfolding fresh
  fresh_memory =
      let areas : paged_contents r lists flags ≡ (λ k. None) = fun_ext all_closed in λ i. record { area = areas i; free = count i; pages = pages; loan = 0 }

module _ (r : List ℕ) (lists : List (List ℕ)) (flags : List Bool) (free : List ℕ) (pages limit : ℕ) (ok : IsPagedStore r lists flags free pages limit) (id : ℕ)
    (lt : id < limit) where
  in_table : id < length flags
  in_table = let t = ok.flags in omega arith

  -- a closed area is opened
  module _ (off : get_or flags id false ≡ false) where
    no_pages : list_at lists id ≡ []
    no_pages = ok.empty id off

    pub was_closed : paged_contents r lists flags id ≡ None
    was_closed = contents_marked r lists flags id false off

    area_opened : paged_contents r lists (set flags id true) ≡ area_set (paged_contents r lists flags) id (Some [])
    area_opened = flagged r lists flags id true in_table ∙ ap (λ (l : List ℕ). area_set (paged_contents r lists flags) id (Some (paged_bytes r l))) no_pages

    pub opened_kept : IsPagedStore r lists (set flags id true) free pages limit
    opened_kept = record {
      size = ok.size;
      table = ok.table;
      flags = length-set flags id true ∙ ok.flags;
      once = ok.once;
      below = ok.below;
      empty = λ j h. elim (cases_eq j id) [
        | inl e ↦ ap (list_at lists) e ∙ no_pages
        | inr ne ↦ ok.empty j (sym (get_or-set_other flags id j true false ne) ∙ h)
      ];
      ledger = ledger_set (paged_contents r lists flags) (paged_contents r lists (set flags id true)) id (Some []) (length free)
          (length free) pages limit area_opened lt
          (ap (λ (o : Option (List ℕ)). length free + length (unwrap_or o []) / PAGE) (sym was_closed)) ok.ledger;
    }

    pub opened_memory : paged_memory_in r lists (set flags id true) free pages ≡ opened (paged_memory_in r lists flags free pages) id
    unfolding opened
    opened_memory = memory_set (paged_contents r lists flags) (paged_contents r lists (set flags id true)) id (Some []) (length free) pages area_opened

  -- an area without pages is closed
  module _ (none : list_at lists id ≡ []) (no_bytes : length (unwrap_or (paged_contents r lists flags id) []) ≡ 0) where
    area_closed : paged_contents r lists (set flags id false) ≡ area_set (paged_contents r lists flags) id None
    area_closed = flagged r lists flags id false in_table

    pub closed_kept : IsPagedStore r lists (set flags id false) free pages limit
    closed_kept = record {
      size = ok.size;
      table = ok.table;
      flags = length-set flags id false ∙ ok.flags;
      once = ok.once;
      below = ok.below;
      empty = λ j h. elim (cases_eq j id) [
        | inl e ↦ ap (list_at lists) e ∙ none
        | inr ne ↦ ok.empty j (sym (get_or-set_other flags id j false false ne) ∙ h)
      ];
      ledger = ledger_set (paged_contents r lists flags) (paged_contents r lists (set flags id false)) id None (length free)
          (length free) pages limit area_closed lt
          (ap (λ k. length free + k / PAGE) (sym no_bytes)) ok.ledger;
    }

    pub closed_memory : paged_memory_in r lists (set flags id false) free pages ≡ record
        { area = area_set (paged_contents r lists flags) id None; free = length free; pages = pages; loan = 0 }
    closed_memory = memory_set (paged_contents r lists flags) (paged_contents r lists (set flags id false)) id None (length free) pages area_closed
