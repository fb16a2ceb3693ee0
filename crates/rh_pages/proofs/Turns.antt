-- A page goes from the free list to the end of an area, and back.
use Rattle.rh_pages.proofs.Common.{◌≡◌, ◌≢◌, ℕ, ◌+◌, ◌-◌, ◌*◌, ◌/◌, ◌<◌, ◌≤◌, Bool, true, false, inl, inr, List, [], ◌∷◌, ◌++◌, length, take, replicate}
use Rattle.rh_pages.proofs.Common.{get_or, set, sym, ap, ◌∙◌, arith, length-append, append_assoc, Some, IsSome, unwrap_or, cases_eq, cases_lt, length_push}
use Rattle.rh_pages.proofs.Common.{length-set, get_or-set_same, get_or-set_other, PAGE, with_part, area_set, bytes, grown, shrunk, length-put, length-part}
use Rattle.rh_pages.proofs.Common.{paged_bytes, list_at, paged_contents, paged_memory_in, IsPagedStore, times, times_all, length-bytes}
use Rattle.std.proofs.lemmas.List.{append-nil, take_at}
use Rattle.rh_defs.proofs.BytesLaws.{part-put}
use Rattle.rh_defs.proofs.MemoryLaws.{pages_below-one}
use Rattle.rh_pages.specs.Pages.{page}
use Rattle.rh_pages.specs.Inner.PagedKept.{open_flag, numbered_paged_areas}
use Rattle.rh_pages.proofs.Areas.{rewritten, ledger_set, memory_set}
use Rattle.rh_pages.proofs.Chunks.{bytes_other}
use Rattle.rh_pages.proofs.Counts.{times-push, one_self, times_all-set, times_at}
use Rattle.rh_pages.proofs.Spots.{bytes_are, length_are}

bytes-push : (r : List ℕ) (k : ℕ) (xs : List ℕ) → paged_bytes r (xs ++ k ∷ []) ≡ paged_bytes r xs ++ page r k
bytes-push r k [] = append-nil (page r k)
bytes-push r k (x ∷ xs) = ap (λ l. page r x ++ l) (bytes-push r k xs) ∙ sym (append_assoc (page r x) (paged_bytes r xs) (page r k))

still_empty : (lists : List (List ℕ)) (flags : List Bool) (id : ℕ) (ks : List ℕ) → get_or flags id false ≡ true
    → ((j : ℕ) → get_or flags j false ≡ false → list_at lists j ≡ []) → (j : ℕ) → get_or flags j false ≡ false → list_at (set lists id ks) j ≡ []
still_empty lists flags id ks on empty j off = elim (cases_eq j id) [
  | inl e ↦ absurd (let q : true ≡ false = sym on ∙ ap (λ k. get_or flags k false) (sym e) ∙ off in cc)
  | inr ne ↦ get_or-set_other lists id j ks [] ne ∙ empty j off
]

module _ (r : List ℕ) (lists : List (List ℕ)) (flags : List Bool) (pool : List ℕ) (pages limit : ℕ) (ok : IsPagedStore r lists flags pool pages limit) (id : ℕ)
    (o : IsSome (paged_contents r lists flags id)) where
  inside : id < length lists
  inside = let a = numbered_paged_areas r lists flags pool pages limit id ok o in let b = ok.table in omega arith

  abbrev was : List ℕ
  was = bytes (paged_memory_in r lists flags pool pages) id

  -- an area and the free list have at most all pages
  pub room_left : length (list_at lists id) + length pool ≤ pages
  unfolding bytes
  room_left =
      let one = pages_below-one (paged_contents r lists flags) id limit (numbered_paged_areas r lists flags pool pages limit id ok o) in
      let long = length_are r lists flags pool pages limit ok id o in let sum = ok.ledger in omega arith

  -- a free page
  module _ (free : List ℕ) (k : ℕ) (popped : pool ≡ free ++ k ∷ []) where
    stands_free : times k pool ≡ times k free + 1
    stands_free = let a = ap (times k) popped in let b = times-push k k free in let c = one_self k in omega arith

    pub page_free : k < pages
    page_free = elim (cases_lt k pages) [
      | inl h ↦ h
      | inr h ↦ absurd (let a = ok.below k h in let b = stands_free in omega arith)
    ]

    pub page_within : PAGE * k + PAGE ≤ length r
    page_within = let a = page_free in let b = ok.size in omega arith

    nowhere : times_all k lists ≡ 0
    nowhere = let a = ok.once k in let b = stands_free in omega arith

    module _ (r' ws : List ℕ) (zeroed : r' ≡ with_part r (PAGE * k) ws) (lw : length ws ≡ PAGE) (lists' : List (List ℕ))
        (pushed : lists' ≡ set lists id (list_at lists id ++ k ∷ [])) where
      same : r' ≡ with_part r (PAGE * k + 0) ws
      same = let z : PAGE * k ≡ PAGE * k + 0 = omega arith in zeroed ∙ ap (λ p. with_part r p ws) z

      untouched : (ks : List ℕ) → times k ks ≡ 0 → paged_bytes r' ks ≡ paged_bytes r ks
      untouched ks none = ap (λ l. paged_bytes l ks) same ∙ bytes_other r k 0 ws (omega arith) page_within ks none

      none_at : (j : ℕ) → times k (list_at lists j) ≡ 0
      none_at j = let a = times_at k lists j in let b = nowhere in omega arith

      here : paged_bytes r' (list_at lists' id) ≡ was ++ ws
      here =
          ap (λ l. paged_bytes r' (list_at l id)) pushed
          ∙ ap (paged_bytes r') (get_or-set_same lists id (list_at lists id ++ k ∷ []) [] inside)
          ∙ bytes-push r' k (list_at lists id)
          ∙ ap (λ l. l ++ page r' k) (untouched (list_at lists id) (none_at id) ∙ sym (bytes_are r lists flags pool pages limit ok id o))
          ∙ ap (λ l. was ++ l) (ap (λ l. page l k) zeroed ∙ part-put r (PAGE * k) ws PAGE (sym lw) page_within)

      others : (j : ℕ) → j ≢ id → paged_bytes r' (list_at lists' j) ≡ paged_bytes r (list_at lists j)
      others j ne = ap (λ l. paged_bytes r' (list_at l j)) pushed ∙ ap (paged_bytes r') (get_or-set_other lists id j (list_at lists id ++ k ∷ []) [] ne)
          ∙ untouched (list_at lists j) (none_at j)

      area_grown : paged_contents r' lists' flags ≡ area_set (paged_contents r lists flags) id (Some (was ++ ws))
      area_grown = rewritten r r' lists lists' flags id (was ++ ws) o here others

      counted : (j : ℕ) → times_all j lists' + times j free ≡ times_all j lists + times j pool
      counted j =
          let a = ap (times_all j) pushed in let b = times_all-set j (list_at lists id ++ k ∷ []) lists id inside in
          let c = times-push j k (list_at lists id) in
          let d = ap (times j) popped in let e = times-push j k free in omega arith

      sum : length free + length (was ++ ws) / PAGE ≡ length pool + length (unwrap_or (paged_contents r lists flags id) []) / PAGE
      unfolding bytes
      sum =
          let long = length_are r lists flags pool pages limit ok id o in let all = length-append was ws in
          let a = ap length popped in let b = length_push free k in omega arith

      pub grown_kept : IsPagedStore r' lists' flags free pages limit
      grown_kept = record {
        size = ap length zeroed ∙ length-put r (PAGE * k) ws ∙ ok.size;
        table = ap length pushed ∙ length-set lists id (list_at lists id ++ k ∷ []) ∙ ok.table;
        flags = ok.flags;
        once = λ j. let a = counted j in let b = ok.once j in omega arith;
        below = λ j h. counted j ∙ ok.below j h;
        empty = λ j off. ap (λ l. list_at l j) pushed ∙ still_empty lists flags id (list_at lists id ++ k ∷ []) (open_flag r lists flags id o) ok.empty j off;
        ledger = ledger_set (paged_contents r lists flags) (paged_contents r' lists' flags) id (Some (was ++ ws)) (length pool)
            (length free) pages limit area_grown
            (numbered_paged_areas r lists flags pool pages limit id ok o) sum ok.ledger;
      }

      pub grown_memory : (n : ℕ) → n ≡ 1 → ws ≡ replicate (PAGE * n) 0 → paged_memory_in r' lists' flags free pages ≡ grown
          (paged_memory_in r lists flags pool pages) id n
      unfolding grown
      grown_memory n one zeros =
          let a = ap length popped in let b = length_push free k in let left : length free ≡ length pool - n = omega arith in
          memory_set (paged_contents r lists flags) (paged_contents r' lists' flags) id (Some (was ++ ws)) (length free) pages area_grown
          ∙ (λ i. record { area = area_set (paged_contents r lists flags) id (Some (was ++ zeros i)); free = left i; pages = pages; loan = 0 })

  -- the last page of an area
  module _ (ks : List ℕ) (k : ℕ) (popped : list_at lists id ≡ ks ++ k ∷ []) (lists' : List (List ℕ)) (cut : lists' ≡ set lists id ks) where
    joined : was ≡ paged_bytes r ks ++ page r k
    joined = bytes_are r lists flags pool pages limit ok id o ∙ ap (paged_bytes r) popped ∙ bytes-push r k ks

    area_shrunk : paged_contents r lists' flags ≡ area_set (paged_contents r lists flags) id (Some (paged_bytes r ks))
    area_shrunk = rewritten r r lists lists' flags id (paged_bytes r ks) o
        (ap (λ l. paged_bytes r (list_at l id)) cut ∙ ap (paged_bytes r) (get_or-set_same lists id ks [] inside))
        (λ j ne. ap (λ l. paged_bytes r (list_at l j)) cut ∙ ap (paged_bytes r) (get_or-set_other lists id j ks [] ne))

    module _ (free : List ℕ) (pushed : free ≡ pool ++ k ∷ []) where
      counted_back : (j : ℕ) → times_all j lists' + times j free ≡ times_all j lists + times j pool
      counted_back j =
          let a = ap (times_all j) cut in let b = times_all-set j ks lists id inside in let c = ap (times j) popped in let d = times-push j k ks in
          let e = ap (times j) pushed in let f = times-push j k pool in omega arith

      sum_back : length free + length (paged_bytes r ks) / PAGE ≡ length pool + length (unwrap_or (paged_contents r lists flags id) []) / PAGE
      unfolding bytes
      sum_back =
          let long = length_are r lists flags pool pages limit ok id o in let all = ap length popped in let one = length_push ks k in
          let less = length-bytes r ks in
          let a = ap length pushed in let b = length_push pool k in omega arith

      pub shrunk_kept : IsPagedStore r lists' flags free pages limit
      shrunk_kept = record {
        size = ok.size;
        table = ap length cut ∙ length-set lists id ks ∙ ok.table;
        flags = ok.flags;
        once = λ j. let a = counted_back j in let b = ok.once j in omega arith;
        below = λ j h. counted_back j ∙ ok.below j h;
        empty = λ j off. ap (λ l. list_at l j) cut ∙ still_empty lists flags id ks (open_flag r lists flags id o) ok.empty j off;
        ledger = ledger_set (paged_contents r lists flags) (paged_contents r lists' flags) id (Some (paged_bytes r ks)) (length pool)
            (length free) pages limit area_shrunk
            (numbered_paged_areas r lists flags pool pages limit id ok o) sum_back ok.ledger;
      }

      pub shrunk_memory : (n : ℕ) → n ≡ 1 → paged_memory_in r lists' flags free pages ≡ shrunk (paged_memory_in r lists flags pool pages) id n
      unfolding shrunk
      shrunk_memory n one =
          let a = ap length pushed in let b = length_push pool k in let more : length free ≡ length pool + n = omega arith in
          let c = ap length joined in let d = length-append (paged_bytes r ks) (page r k) in let e = length-part r (PAGE * k) PAGE in
          let less : length (paged_bytes r ks) ≡ length was - PAGE * n = omega arith in
          let front : paged_bytes r ks ≡ take (length was - PAGE * n) was =
          sym (ap (take (length was - PAGE * n)) joined ∙ take_at (paged_bytes r ks) (page r k) (length was - PAGE * n) less) in
          memory_set (paged_contents r lists flags) (paged_contents r lists' flags) id (Some (paged_bytes r ks)) (length free) pages area_shrunk
          ∙ (λ i. record { area = area_set (paged_contents r lists flags) id (Some (front i)); free = more i; pages = pages; loan = 0 })
