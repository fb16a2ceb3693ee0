-- What each call is granted, by the words of the anchor.
use Rattle.rh_wide_slot.proofs.Common.{◌≡◌, ◌≢◌, ℕ, ◌+◌, ◌-◌, ◌<◌, ◌≤◌, inl, inr, Bool, true, false, List, [], ◌++◌, length, take, drop}
use Rattle.rh_wide_slot.proofs.Common.{refl, sym, ap, subst, ◌∙◌, arith, nat_lt, ◌||◌, Option, Some, None, Ok, Err, cases_lt, part, length-part}
use Rattle.rh_wide_slot.proofs.Common.{Leaves, row_place, row_size, wide_weight, row_block, spliced, WideSlot}
use Rattle.std.specs.Prelude.{ℤ, pos, negsuc}
use Rattle.std.proofs.Math.ListN.{drop_of_length-le}
use Rattle.std.proofs.lemmas.List.{append-nil, take_all}
use Rattle.rh_defs.specs.Chain.{Granted, found_or, ◌>>=◌}
use Rattle.rh_defs.specs.Heap.{fitted}
use Rattle.rh_defs.specs.Pieces.{moved, round_up, written, zeros}
use Rattle.rh_defs.specs.Slot.{opened_at, taken_out}
use Rattle.rh_defs.specs.Inner.Computing.{computing_chain}
use Rattle.rh_defs.specs.declared.refusal.Refusal.{Refusal}
use Rattle.rh_defs.specs.declared.refusal.Refusal.TheVariants.{AnchorInUse, BadRange, NoBlock, NoRoom}
use Rattle.rh_defs.proofs.Chains.{refuse_if-true, refuse_if-false}
use Rattle.rh_defs.proofs.HeapLists.{ltb_yes, ltb_no}
use Rattle.rh_wide_slot.specs.WideCalls.{Budged, LeavesBudged, LeavesWide}
unfoldable use Rattle.rh_wide_slot.specs.WideCalls.{wide_alloc, wide_budge, wide_extend, wide_free, wide_mid, wide_place, wide_put, wide_read, wide_size}
use Rattle.rh_wide_slot.proofs.EntryLaws.{no_block, a_block}
use Rattle.rh_wide_slot.proofs.EditLaws.{take_part, drop_part}

-- ---- a call that is refused, and one that is done

pub refuses : (b : List ℕ) (s : WideSlot) (k : ℕ) (granted : Granted (Option (List ℕ))) (r : Refusal) → granted ≡ Err r
    → LeavesWide b b s s k granted (Err r)
refuses b s k granted r e = subst (λ g. LeavesWide b b s s k g (Err r)) (sym e) (record { answer = refl; left = tt; err = (refl, refl) })

pub does : (b c : List ℕ) (s t : WideSlot) (k : ℕ) (granted : Granted (Option (List ℕ))) (block : Option (List ℕ)) → granted ≡ Ok block
    → Leaves b c s t k block → LeavesWide b c s t k granted (Ok tt)
does b c s t k granted block e l = subst (λ g. LeavesWide b c s t k g (Ok tt)) (sym e) (record { answer = refl; left = l; err = tt })

pub refuses_budge : (b : List ℕ) (s : WideSlot) (granted : Granted (ℕ × ℕ)) (r : Refusal) → granted ≡ Err r → LeavesBudged b b s s granted (Err r)
refuses_budge b s granted r e = subst (λ g. LeavesBudged b b s s g (Err r)) (sym e) (record { answer = refl; left = tt; err = (refl, refl) })

pub does_budge : (b c : List ℕ) (s t : WideSlot) (granted : Granted (ℕ × ℕ)) (by place : ℕ) → granted ≡ Ok (by, place) → Budged b c s t by
    → LeavesBudged b c s t granted (Ok place)
does_budge b c s t granted by place e l =
    subst (λ g. LeavesBudged b c s t g (Ok place)) (sym e) (record { answer = refl; left = l; err = tt })

-- ---- tests

or_left : (x y : Bool) → x ≡ true → (x || y) ≡ true
or_left x y e = ap (λ t. t || y) e

or_right : (x y : Bool) → x ≡ false → y ≡ true → (x || y) ≡ true
or_right x y e f = ap (λ t. t || y) e ∙ f

-- ---- where the anchor has no block

module _ (b : List ℕ) (k : ℕ) (none : row_place b k ≡ 0) where
  pub size_none : wide_size (row_block b k) ≡ Err NoBlock
  unfolding wide_size computing_chain
  size_none = ap wide_size (no_block b k none)

  pub place_none : wide_place b k ≡ Err NoBlock
  unfolding wide_place computing_chain
  place_none = ap (λ o. found_or o NoBlock >>= λ _. Ok (row_place b k)) (no_block b k none)

  pub free_none : wide_free (row_block b k) ≡ Err NoBlock
  unfolding wide_free computing_chain
  free_none = ap wide_free (no_block b k none)

  pub extend_none : (room n : ℕ) → wide_extend room n (row_block b k) ≡ Err NoBlock
  unfolding wide_extend computing_chain
  extend_none room n = ap (wide_extend room n) (no_block b k none)

  pub mid_none : (room offset : ℕ) (by : ℤ) → wide_mid room offset by (row_block b k) ≡ Err NoBlock
  unfolding wide_mid computing_chain
  mid_none room offset by = ap (wide_mid room offset by) (no_block b k none)

  pub put_none : (offset : ℕ) (new : List ℕ) → wide_put offset new (row_block b k) ≡ Err NoBlock
  unfolding wide_put computing_chain
  put_none offset new = ap (wide_put offset new) (no_block b k none)

  pub read_none : (offset n : ℕ) → wide_read offset n (row_block b k) ≡ Err NoBlock
  unfolding wide_read computing_chain
  read_none offset n = ap (wide_read offset n) (no_block b k none)

  pub alloc_full : (room n : ℕ) → room < wide_weight n → wide_alloc room n (row_block b k) ≡ Err NoRoom
  unfolding wide_alloc computing_chain
  alloc_full room n h =
      ap (wide_alloc room n) (no_block b k none) ∙ refuse_if-true (nat_lt room (wide_weight n)) NoRoom (Ok (Some (zeros n))) (ltb_yes room (wide_weight n) h)

  pub alloc_done : (room n : ℕ) → wide_weight n ≤ room → wide_alloc room n (row_block b k) ≡ Ok (Some (zeros n))
  unfolding wide_alloc computing_chain
  alloc_done room n h =
      ap (wide_alloc room n) (no_block b k none) ∙ refuse_if-false (nat_lt room (wide_weight n)) NoRoom (Ok (Some (zeros n))) (ltb_no room (wide_weight n) h)

-- ---- where it has one

module _ (b : List ℕ) (k size : ℕ) (used : row_place b k ≢ 0) (size_is : size ≡ row_size b k) where
  abbrev bytes : List ℕ
  bytes = part b (row_place b k) (row_size b k)

  long : length bytes ≡ size
  long = length-part b (row_place b k) (row_size b k) ∙ sym size_is

  pub size_done : wide_size (row_block b k) ≡ Ok size
  unfolding wide_size computing_chain
  size_done = ap wide_size (a_block b k used) ∙ ap Ok long

  pub place_done : wide_place b k ≡ Ok (row_place b k)
  unfolding wide_place computing_chain
  place_done = ap (λ o. found_or o NoBlock >>= λ _. Ok (row_place b k)) (a_block b k used)

  pub alloc_used : (room n : ℕ) → wide_alloc room n (row_block b k) ≡ Err AnchorInUse
  unfolding wide_alloc computing_chain
  alloc_used room n = ap (wide_alloc room n) (a_block b k used)

  pub free_done : wide_free (row_block b k) ≡ Ok None
  unfolding wide_free computing_chain
  free_done = ap wide_free (a_block b k used)

  module _ (room n : ℕ) where
    pub extend_full : nat_lt room (wide_weight n - wide_weight size) ≡ true → wide_extend room n (row_block b k) ≡ Err NoRoom
    unfolding wide_extend computing_chain
    extend_full h =
        ap (wide_extend room n) (a_block b k used)
        ∙ refuse_if-true (nat_lt room (wide_weight n - wide_weight (length bytes))) NoRoom (Ok (Some (fitted n bytes)))
        (ap (λ i. nat_lt room (wide_weight n - wide_weight i)) long ∙ h)

    fitted_spliced : fitted n bytes ≡ spliced size (size - n) (n - size) bytes
    fitted_spliced =
        let l = long in
        let tail : drop size bytes ≡ [] = drop_of_length-le bytes (omega arith) in
        let front : take n bytes ≡ take (size - (size - n)) bytes = elim (cases_lt n size) [
          | inl h ↦ ap (λ i. take i bytes) (omega arith)
          | inr h ↦ take_all n bytes (omega arith) ∙ sym (take_all (size - (size - n)) bytes (omega arith))
        ] in
        ap (λ l. l ++ zeros (n - length bytes)) front
        ∙ ap (λ l. take (size - (size - n)) bytes ++ l) (ap (λ i. zeros (n - i)) l ∙ sym (append-nil (zeros (n - size)))
        ∙ ap (λ l. zeros (n - size) ++ l) (sym tail))

    pub extend_done : nat_lt room (wide_weight n - wide_weight size) ≡ false
        → wide_extend room n (row_block b k) ≡ Ok (Some (spliced size (size - n) (n - size) bytes))
    unfolding wide_extend computing_chain
    extend_done h =
        ap (wide_extend room n) (a_block b k used)
        ∙ refuse_if-false (nat_lt room (wide_weight n - wide_weight (length bytes))) NoRoom (Ok (Some (fitted n bytes)))
        (ap (λ i. nat_lt room (wide_weight n - wide_weight i)) long ∙ h)
        ∙ ap (λ l. Ok (Some l)) fitted_spliced

  module _ (offset : ℕ) where
    pub put_past : (new : List ℕ) → size < offset + length new → wide_put offset new (row_block b k) ≡ Err BadRange
    unfolding wide_put computing_chain
    put_past new h =
        let l = long in
        ap (wide_put offset new) (a_block b k used)
        ∙ refuse_if-true (nat_lt (length bytes) (offset + length new)) BadRange (Ok (Some (written bytes offset new)))
        (ltb_yes (length bytes) (offset + length new) (omega arith))

    pub put_done : (new : List ℕ) → offset + length new ≤ size → wide_put offset new (row_block b k) ≡ Ok (Some (written bytes offset new))
    unfolding wide_put computing_chain
    put_done new h =
        let l = long in
        ap (wide_put offset new) (a_block b k used)
        ∙ refuse_if-false (nat_lt (length bytes) (offset + length new)) BadRange (Ok (Some (written bytes offset new)))
        (ltb_no (length bytes) (offset + length new) (omega arith))

    pub read_past : (n : ℕ) → size < offset + n → wide_read offset n (row_block b k) ≡ Err BadRange
    unfolding wide_read computing_chain
    read_past n h =
        let l = long in
        ap (wide_read offset n) (a_block b k used)
        ∙ refuse_if-true (nat_lt (length bytes) (offset + n)) BadRange (Ok (take n (drop offset bytes))) (ltb_yes (length bytes) (offset + n) (omega arith))

    pub read_done : (n : ℕ) → offset + n ≤ size → wide_read offset n (row_block b k) ≡ Ok (part b (row_place b k + offset) n)
    unfolding wide_read computing_chain
    read_done n h =
        let l = long in
        ap (wide_read offset n) (a_block b k used)
        ∙ refuse_if-false (nat_lt (length bytes) (offset + n)) BadRange (Ok (take n (drop offset bytes))) (ltb_no (length bytes) (offset + n) (omega arith))
        ∙ ap (λ l. Ok (take n l)) (drop_part b (row_place b k) (row_size b k) offset (omega arith))
        ∙ ap Ok (take_part b (row_place b k + offset) (row_size b k - offset) n (omega arith))

    module _ (by : ℤ) where
      pub mid_above : (room : ℕ) → size < offset → wide_mid room offset by (row_block b k) ≡ Err BadRange
      unfolding wide_mid computing_chain
      mid_above room h =
          let l = long in
          ap (wide_mid room offset by) (a_block b k used)
          ∙ refuse_if-true (nat_lt (length bytes) offset || nat_lt offset (taken_out by)) BadRange _
          (or_left _ _ (ltb_yes (length bytes) offset (omega arith)))

      module _ (out : ℕ) (out_is : out ≡ taken_out by) (inside : offset ≤ size) where
        pub mid_short : (room : ℕ) → offset < out → wide_mid room offset by (row_block b k) ≡ Err BadRange
        unfolding wide_mid computing_chain
        mid_short room h =
            let l = long in
            ap (wide_mid room offset by) (a_block b k used)
            ∙ refuse_if-true (nat_lt (length bytes) offset || nat_lt offset (taken_out by)) BadRange _
            (or_right _ _ (ltb_no (length bytes) offset (omega arith)) (ltb_yes offset (taken_out by) (omega arith)))

        module _ (put : ℕ) (put_is : put ≡ moved 0 by) (enough : out ≤ offset) (room : ℕ) where
          ranged : (nat_lt (length bytes) offset || nat_lt offset (taken_out by)) ≡ false
          ranged =
              let l = long in
              ap (λ t. t || nat_lt offset (taken_out by)) (ltb_no (length bytes) offset (omega arith)) ∙ ltb_no offset (taken_out by) (omega arith)

          new_size : (n : ℕ) (d : ℤ) → out ≡ taken_out d → put ≡ moved 0 d → moved n d ≡ n - out + put
          new_size n (pos i) eo ep = omega arith
          new_size n (negsuc i) eo ep = omega arith

          lacks : nat_lt room (wide_weight (moved (length bytes) by) - wide_weight (length bytes))
              ≡ nat_lt room (wide_weight (size - out + put) - wide_weight size)
          lacks =
              ap (λ i. nat_lt room (wide_weight i - wide_weight (length bytes))) (new_size (length bytes) by out_is put_is)
              ∙ ap (λ i. nat_lt room (wide_weight (i - out + put) - wide_weight i)) long

          opened : (d : ℤ) → out ≡ taken_out d → put ≡ moved 0 d → opened_at offset d bytes ≡ spliced offset out put bytes
          opened (pos i) eo ep =
              ap (λ j. take j bytes ++ (zeros i ++ drop offset bytes)) (let q : offset ≡ offset - out = omega arith in q)
              ∙ ap (λ j. take (offset - out) bytes ++ (zeros j ++ drop offset bytes)) (let q : i ≡ put = omega arith in q)
          opened (negsuc i) eo ep =
              ap (λ j. take j bytes ++ drop offset bytes) (let q : offset - (i + 1) ≡ offset - out = omega arith in q)
              ∙ ap (λ j. take (offset - out) bytes ++ (zeros j ++ drop offset bytes)) (let q : 0 ≡ put = omega arith in q)

          pub mid_full : nat_lt room (wide_weight (size - out + put) - wide_weight size) ≡ true → wide_mid room offset by (row_block b k) ≡ Err NoRoom
          unfolding wide_mid computing_chain
          mid_full h =
              ap (wide_mid room offset by) (a_block b k used)
              ∙ refuse_if-false (nat_lt (length bytes) offset || nat_lt offset (taken_out by)) BadRange _ ranged
              ∙ refuse_if-true (nat_lt room (wide_weight (moved (length bytes) by) - wide_weight (length bytes))) NoRoom
              (Ok (Some (opened_at offset by bytes))) (lacks ∙ h)

          pub mid_done : nat_lt room (wide_weight (size - out + put) - wide_weight size) ≡ false
              → wide_mid room offset by (row_block b k) ≡ Ok (Some (spliced offset out put bytes))
          unfolding wide_mid computing_chain
          mid_done h =
              ap (wide_mid room offset by) (a_block b k used)
              ∙ refuse_if-false (nat_lt (length bytes) offset || nat_lt offset (taken_out by)) BadRange _ ranged
              ∙ refuse_if-false (nat_lt room (wide_weight (moved (length bytes) by) - wide_weight (length bytes))) NoRoom
              (Ok (Some (opened_at offset by bytes))) (lacks ∙ h)
              ∙ ap (λ l. Ok (Some l)) (opened by out_is put_is)

-- ---- bytes below the blocks

pub budge_full : (room n : ℕ) (s : WideSlot) → room < round_up 8 n → wide_budge room n s ≡ Err NoRoom
unfolding wide_budge computing_chain
budge_full room n s h = refuse_if-true (nat_lt room (round_up 8 n)) NoRoom (Ok (round_up 8 n, s.base)) (ltb_yes room (round_up 8 n) h)

pub budge_done : (room n by : ℕ) (s : WideSlot) → by ≡ round_up 8 n → by ≤ room → wide_budge room n s ≡ Ok (by, s.base)
unfolding wide_budge computing_chain
budge_done room n by s e h =
    refuse_if-false (nat_lt room (round_up 8 n)) NoRoom (Ok (round_up 8 n, s.base)) (ltb_no room (round_up 8 n) (omega arith))
    ∙ ap (λ i. Ok (i, s.base)) (sym e)
