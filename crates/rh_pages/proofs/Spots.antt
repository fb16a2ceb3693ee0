-- A part of one page of an area: where it stands, how it is read, and what a write there does.
use Rattle.rh_pages.proofs.Common.{◌≡◌, ◌≢◌, ℕ, ◌+◌, ◌*◌, ◌/◌, ◌%◌, ◌<◌, ◌≤◌, Bool, inl, inr, List, [], length, get_or, refl, sym, ap, ◌∙◌, arith, Some}
use Rattle.rh_pages.proofs.Common.{IsSome, unwrap_or, cases_lt, PAGE, part, with_part, area_set, bytes, with_bytes, length-put, paged_bytes, list_at}
use Rattle.rh_pages.proofs.Common.{paged_contents}
use Rattle.rh_pages.proofs.Common.{paged_memory_in, IsPagedStore, times, length-bytes}
use Rattle.rh_pages.specs.Inner.Spots.{spot_in}
use Rattle.rh_pages.specs.Inner.PagedKept.{numbered_paged_areas}
use Rattle.rh_pages.proofs.Areas.{bytes_open, rewritten, ledger_set, memory_set}
use Rattle.rh_pages.proofs.Chunks.{bytes_read, bytes_other, bytes_same, stands}
use Rattle.rh_pages.proofs.Counts.{times_at, times_two}

pub record Spot (r : List ℕ) (lists : List (List ℕ)) (flags : List Bool) (free : List ℕ) (pages limit id at n : ℕ) : Type 0 where
  pub listed : at / PAGE < length (list_at lists id)
  pub small : get_or (list_at lists id) (at / PAGE) 0 < pages
  pub within : spot_in lists id at + n ≤ length r
  pub read : part r (spot_in lists id at) n ≡ part (bytes (paged_memory_in r lists flags free pages) id) at n
  pub kept : (ws : List ℕ) → length ws ≡ n → IsPagedStore (with_part r (spot_in lists id at) ws) lists flags free pages limit
  pub memory : (ws : List ℕ) → length ws ≡ n
      → paged_memory_in (with_part r (spot_in lists id at) ws) lists flags free pages ≡ with_bytes (paged_memory_in r lists flags free pages) id
      (with_part (bytes (paged_memory_in r lists flags free pages) id) at ws)

module _ (r : List ℕ) (lists : List (List ℕ)) (flags : List Bool) (free : List ℕ) (pages limit : ℕ) (ok : IsPagedStore r lists flags free pages limit) where
  -- a page that stands in an area is one of the region
  pub page_below : (id i : ℕ) → i < length (list_at lists id) → get_or (list_at lists id) i 0 < pages
  page_below id i li =
      let k = get_or (list_at lists id) i 0 in
      elim (cases_lt k pages) [
        | inl h ↦ h
        | inr h ↦ absurd (let a = ok.below k h in let b = stands k (list_at lists id) i li refl in let c = times_at k lists id in omega arith)
      ]

  module _ (id : ℕ) (o : IsSome (paged_contents r lists flags id)) where
    pub bytes_are : bytes (paged_memory_in r lists flags free pages) id ≡ paged_bytes r (list_at lists id)
    unfolding bytes
    bytes_are = bytes_open r lists flags id o

    pub length_are : length (bytes (paged_memory_in r lists flags free pages) id) ≡ PAGE * length (list_at lists id)
    length_are = ap length bytes_are ∙ length-bytes r (list_at lists id)

    module _ (at n : ℕ) (some : 0 < n) (inside : at + n ≤ length (bytes (paged_memory_in r lists flags free pages) id)) (fits : at % PAGE + n ≤ PAGE) where
      abbrev i : ℕ
      i = at / PAGE

      abbrev f : ℕ
      f = at % PAGE

      abbrev ks : List ℕ
      ks = list_at lists id

      abbrev k : ℕ
      k = get_or ks i 0

      abbrev was : List ℕ
      was = bytes (paged_memory_in r lists flags free pages) id

      listed : i < length ks
      listed = let long = length_are in omega arith

      is : PAGE * i + f ≡ at
      is = omega arith

      page_in : PAGE * k + PAGE ≤ length r
      page_in = let a = page_below id i listed in let b = ok.size in omega arith

      within : spot_in lists id at + n ≤ length r
      within = let a = page_in in omega arith

      read : part r (spot_in lists id at) n ≡ part was at n
      read = sym (bytes_read r ks i f n listed fits) ∙ ap (λ m. part (paged_bytes r ks) m n) is ∙ ap (λ l. part l at n) (sym bytes_are)

      module _ (ws : List ℕ) (lw : length ws ≡ n) where
        fit : f + length ws ≤ PAGE
        fit = omega arith

        one : times k ks ≤ 1
        one = let a = ok.once k in let b = times_at k lists id in omega arith

        none : (j : ℕ) → j ≢ id → times k (list_at lists j) ≡ 0
        none j ne = let a = ok.once k in let b = times_two k lists j id ne in let c = stands k ks i listed refl in omega arith

        here : paged_bytes (with_part r (spot_in lists id at) ws) ks ≡ with_part was at ws
        here = bytes_same r k f ws fit page_in ks i listed refl one ∙ ap (λ m. with_part (paged_bytes r ks) m ws) is ∙ ap (λ l. with_part l at ws)
            (sym bytes_are)

        changed : paged_contents (with_part r (spot_in lists id at) ws) lists flags ≡ area_set (paged_contents r lists flags) id (Some (with_part was at ws))
        changed = rewritten r (with_part r (spot_in lists id at) ws) lists lists flags id (with_part was at ws) o here
            (λ j ne. bytes_other r k f ws fit page_in (list_at lists j) (none j ne))

        sum : length free + length (with_part was at ws) / PAGE ≡ length free + length (unwrap_or (paged_contents r lists flags id) []) / PAGE
        unfolding bytes
        sum = ap (λ m. length free + m / PAGE) (length-put was at ws)

        is_kept : IsPagedStore (with_part r (spot_in lists id at) ws) lists flags free pages limit
        is_kept = record {
          size = length-put r (spot_in lists id at) ws ∙ ok.size;
          table = ok.table;
          flags = ok.flags;
          once = ok.once;
          below = ok.below;
          empty = ok.empty;
          ledger = ledger_set (paged_contents r lists flags) (paged_contents (with_part r (spot_in lists id at) ws) lists flags) id (Some (with_part was at ws))
              (length free)
              (length free) pages limit changed
              (numbered_paged_areas r lists flags free pages limit id ok o) sum ok.ledger;
        }

        is_memory : paged_memory_in (with_part r (spot_in lists id at) ws) lists flags free pages ≡ with_bytes (paged_memory_in r lists flags free pages) id
            (with_part was at ws)
        unfolding with_bytes
        is_memory = memory_set (paged_contents r lists flags) (paged_contents (with_part r (spot_in lists id at) ws) lists flags) id
            (Some (with_part was at ws)) (length free) pages
            changed

      pub spot : Spot r lists flags free pages limit id at n
      spot = record {
        listed = listed;
        small = page_below id i listed;
        within = within;
        read = read;
        kept = is_kept;
        memory = is_memory;
      }
