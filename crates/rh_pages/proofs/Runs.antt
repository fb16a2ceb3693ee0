-- Bytes of an area that lie side by side: where they stand, how they are read, and what a write there does.
use Rattle.rh_pages.proofs.Common.{◌≡◌, ℕ, zero, suc, ◌+◌, ◌-◌, ◌*◌, ◌/◌, ◌%◌, ◌<◌, ◌≤◌, Bool, inl, inr, List, ◌++◌, length, get_or, take, drop, sym, ap, ap₂}
use Rattle.rh_pages.proofs.Common.{subst, ◌∙◌, arith, IsSome, cases_lt, PAGE, part, with_part, Memory, IsOpen, bytes, with_bytes, PagedStore, list_at}
use Rattle.rh_pages.proofs.Common.{paged_contents, paged_memory_in, IsPagedStore, paged_memory, free_of, pages_of, region_of, length-put}
use Rattle.rh_pages.proofs.Common.{length-take, length-drop, MAX_AREAS}
use Rattle.std.proofs.lemmas.List.{take-append-drop}
use Rattle.rh_defs.proofs.BytesLaws.{part_more, put_more}
use Rattle.rh_defs.proofs.MemoryLaws.{IsOpen-with_bytes, bytes-with_bytes}
use Rattle.rh_pages.specs.Inner.Spots.{spot_in, IsTogether}
use Rattle.rh_pages.proofs.Spots.{Spot, spot}
use Rattle.rh_pages.proofs.Steps.{edited}
use Rattle.rh_pages.proofs.Seats.{Seat, at_spot}

-- fewer bytes of a run, from its beginning, and up to its end
pub fewer : (lists : List (List ℕ)) (id at n k : ℕ) → k ≤ n → IsTogether lists id at n → IsTogether lists id at k
fewer lists id at n k le run = λ i low lt. run i low (omega arith)

pub later : (lists : List (List ℕ)) (id end n k : ℕ) → k ≤ n → n ≤ end → IsTogether lists id (end - n) n → IsTogether lists id (end - k) k
later lists id end n k le all run = λ i low lt. run i (omega arith) (omega arith)

-- the bytes behind the first page of a run
behind : (lists : List (List ℕ)) (id at n k : ℕ) → at % PAGE + k ≡ PAGE → k < n → IsTogether lists id at n → IsTogether lists id (at + k) (n - k)
behind lists id at n k page less run = λ i low lt. run i (omega arith) (omega arith)

-- where they stand
on_from_spot : (lists : List (List ℕ)) (id at n k : ℕ) → at % PAGE + k ≡ PAGE → k < n → IsTogether lists id at n
    → spot_in lists id (at + k) ≡ spot_in lists id at + k
on_from_spot lists id at n k page less run =
    let i = at / PAGE in let ks = list_at lists id in
    let next = run i (omega arith) (omega arith) in
    let here : (at + k) / PAGE ≡ i + 1 = omega arith in
    let seen = ap (λ j. get_or ks j 0) here in
    let start : (at + k) % PAGE ≡ 0 = omega arith in omega arith

-- a run that goes past its first page, by that page and what is behind it
module _ (r : List ℕ) (lists : List (List ℕ)) (flags : List Bool) (free : List ℕ) (pages limit id at n k : ℕ) (less : k < n)
    (next : spot_in lists id (at + k) ≡ spot_in lists id at + k) (first : Spot r lists flags free pages limit id at k)
    (rest : Spot r lists flags free pages limit id (at + k) (n - k)) where
  abbrev p : ℕ
  p = spot_in lists id at

  abbrev m : Memory
  m = paged_memory_in r lists flags free pages

  abbrev b : List ℕ
  b = bytes m id

  all : k + (n - k) ≡ n
  all = omega arith

  whole : p + n ≤ length r
  whole = let there = rest.within in omega arith

  seen : part r p n ≡ part b at n
  seen =
      ap (part r p) (sym all) ∙ part_more r p k (n - k)
      ∙ ap₂ (λ x y. x ++ y) first.read (ap (λ q. part r q (n - k)) (sym next) ∙ rest.read)
      ∙ sym (part_more b at k (n - k)) ∙ ap (part b at) all

  module _ (ws : List ℕ) (lw : length ws ≡ n) where
    abbrev r' : List ℕ
    r' = with_part r p (take k ws)

    front : length (take k ws) ≡ k
    front = omega (arith, length-take k ws)

    back : length (drop k ws) ≡ n - k
    back = omega (arith, length-drop k ws)

    -- both writes are one
    joined : with_part r p ws ≡ with_part r' (spot_in lists id (at + k)) (drop k ws)
    joined =
        ap (with_part r p) (sym (take-append-drop k ws)) ∙ put_more r p (take k ws) (drop k ws)
        ∙ ap (λ q. with_part r' q (drop k ws)) (ap (λ j. p + j) front ∙ sym next)

    split : with_part (with_part b at (take k ws)) (at + k) (drop k ws) ≡ with_part b at ws
    split =
        ap (λ j. with_part (with_part b at (take k ws)) (at + j) (drop k ws)) (sym front)
        ∙ sym (put_more b at (take k ws) (drop k ws)) ∙ ap (with_part b at) (take-append-drop k ws)

    mid : paged_memory_in r' lists flags free pages ≡ with_bytes m id (with_part b at (take k ws))
    mid = first.memory (take k ws) front

    pub mid_open : IsOpen (paged_memory_in r' lists flags free pages) id
    mid_open = subst (λ w. IsOpen w id) (sym mid) (IsOpen-with_bytes m id (with_part b at (take k ws)))

    pub mid_kept : IsPagedStore r' lists flags free pages limit
    mid_kept = first.kept (take k ws) front

    pub mid_long : length (bytes (paged_memory_in r' lists flags free pages) id) ≡ length (with_part b at (take k ws))
    mid_long = ap (λ w. length (bytes w id)) mid ∙ ap length (bytes-with_bytes m id (with_part b at (take k ws)))

    module _ (last : Spot r' lists flags free pages limit id (at + k) (n - k)) where
      pub joined_kept : IsPagedStore (with_part r p ws) lists flags free pages limit
      joined_kept = subst (λ (x : List ℕ). IsPagedStore x lists flags free pages limit) (sym joined) (last.kept (drop k ws) back)

      pub joined_memory : paged_memory_in (with_part r p ws) lists flags free pages ≡ with_bytes m id (with_part b at ws)
      joined_memory =
          ap (λ (x : List ℕ). paged_memory_in x lists flags free pages) joined
          ∙ edited m (paged_memory_in r' lists flags free pages)
          (paged_memory_in (with_part r' (spot_in lists id (at + k)) (drop k ws)) lists flags free pages) id (with_part b at (take k ws))
          (λ l. with_part l (at + k) (drop k ws)) mid (last.memory (drop k ws) back)
          ∙ ap (with_bytes m id) split

-- a run of at most so many bytes, page by page
spots : (most : ℕ) (r : List ℕ) (lists : List (List ℕ)) (flags : List Bool) (free : List ℕ) (pages limit : ℕ) → IsPagedStore r lists flags free pages limit
    → (id : ℕ) → IsSome (paged_contents r lists flags id) → (at n : ℕ) → 0 < n → at + n ≤ length (bytes (paged_memory_in r lists flags free pages) id)
    → IsTogether lists id at n → n ≤ most → Spot r lists flags free pages limit id at n
spots zero r lists flags free pages limit ok id o at n some inside run few = absurd (omega arith)
spots (suc most) r lists flags free pages limit ok id o at n some inside run few = elim (cases_lt PAGE (at % PAGE + n)) [
  | inl long ↦
      let k = PAGE - at % PAGE in
      let page : at % PAGE + k ≡ PAGE = omega arith in
      let less : k < n = omega arith in
      let on = behind lists id at n k page less run in
      let next = on_from_spot lists id at n k page less run in
      let first = spot r lists flags free pages limit ok id o at k (omega arith) (omega arith) (omega arith) in
      let rest = spots most r lists flags free pages limit ok id o (at + k) (n - k) (omega arith) (omega arith) on (omega arith) in
      let last : (ws : List ℕ) → length ws ≡ n → Spot (with_part r (spot_in lists id at) (take k ws)) lists flags free pages limit id (at + k) (n - k) =
      λ ws l.
      let kept = mid_kept r lists flags free pages limit id at n k less next first rest ws l in
      let opened = mid_open r lists flags free pages limit id at n k less next first rest ws l in
      let same = mid_long r lists flags free pages limit id at n k less next first rest ws l in
      let long = length-put (bytes (paged_memory_in r lists flags free pages) id) at (take k ws) in
      spots most (with_part r (spot_in lists id at) (take k ws)) lists flags free pages limit kept id opened (at + k) (n - k) (omega arith) (omega arith) on
      (omega arith) in
      record {
        listed = first.listed;
        small = first.small;
        within = whole r lists flags free pages limit id at n k less next first rest;
        read = seen r lists flags free pages limit id at n k less next first rest;
        kept = λ ws l. joined_kept r lists flags free pages limit id at n k less next first rest ws l (last ws l);
        memory = λ ws l. joined_memory r lists flags free pages limit id at n k less next first rest ws l (last ws l);
      }
  | inr short ↦ spot r lists flags free pages limit ok id o at n some inside short
]

run_there : {G : _} {d : _} (s : PagedStore G d) (id at n : ℕ) → IsOpen (paged_memory s) id → 0 < n → at + n ≤ length (bytes (paged_memory s) id)
    → IsTogether (pages_of s) id at n → Spot (region_of s) (pages_of s) s.opened (free_of s) s.table.room MAX_AREAS id at n
unfolding paged_memory
run_there s id at n o some inside run =
    spots n (region_of s) (pages_of s) s.opened (free_of s) s.table.room MAX_AREAS s.kept id o at n some inside run (omega arith)

-- where the code finds a run
pub run_seat : {G : _} {d : _} (s : PagedStore G d) (id at n p : ℕ) → IsOpen (paged_memory s) id → 0 < n → at + n ≤ length (bytes (paged_memory s) id)
    → IsTogether (pages_of s) id at n → p ≡ spot_in (pages_of s) id at → Seat s id at n p
run_seat s id at n p o some inside run e = subst (Seat s id at n) (sym e) (at_spot s id at n (run_there s id at n o some inside run))

-- ---- a run of which the pages are looked at one after another

-- a run that ends with its first page
pub run_begun : (lists : List (List ℕ)) (id at n : ℕ) → at % PAGE + n ≤ PAGE → IsTogether lists id at n
run_begun lists id at n fits = λ i low lt. absurd (omega arith)

module _ (lists : List (List ℕ)) (id i number next : ℕ) (here : number ≡ get_or (list_at lists id) i 0) where
  -- one more page at its end
  pub run_longer : (at n : ℕ) → PAGE * (i + 1) ≡ at + n → next ≡ get_or (list_at lists id) (i + 1) 0 → next ≡ number + 1 → IsTogether lists id at n
      → IsTogether lists id at (n + PAGE)
  run_longer at n place there behind run = λ j low lt. elim (cases_lt (PAGE * (j + 1)) (at + n)) [
    | inl h ↦ run j low h
    | inr h ↦
        let same : i ≡ j = omega arith in
        subst (λ z. get_or (list_at lists id) (z + 1) 0 ≡ get_or (list_at lists id) z 0 + 1) same (omega arith)
  ]

  -- one more page at its beginning
  pub run_lower : (end n : ℕ) → PAGE * i + n ≡ end → 0 < i → next ≡ get_or (list_at lists id) (i - 1) 0 → next + 1 ≡ number → IsTogether lists id (end - n) n
      → IsTogether lists id (end - (n + PAGE)) (n + PAGE)
  run_lower end n place some there before run = λ j low lt. elim (cases_lt j i) [
    | inl h ↦
        let below : i - 1 ≡ j = omega arith in
        let above : i ≡ j + 1 = omega arith in
        let x = ap (λ z. get_or (list_at lists id) z 0) below in
        let y = ap (λ z. get_or (list_at lists id) z 0) above in omega arith
    | inr h ↦ run j (omega arith) (omega arith)
  ]
