-- What is seen of a desk after each act on a message.
use Rattle.rh_safety.proofs.Common.{Body, Bool, Desk, Flex, Incoming, In_done, In_failed, Letter, List, None, Ok, Option, Parcel}
use Rattle.rh_safety.proofs.Common.{Part, Same, Scrap, Segment, Sending, Slot, Some, Split, Taking, Task, Transmit, [], ap, arith, block_of, blocks_of}
use Rattle.rh_safety.proofs.Common.{buffer_at, buffer_view, buffers_of, bytes_of, drop, either, eqb_tells, false, fetch_letter, field_is, first_is, flex_start}
use Rattle.rh_safety.proofs.Common.{free_anchor, free_pages, heap_block_at, how_many, if◌then◌else◌, inl, inr, ins_view, is_equal, is_full, is_going, is_some}
use Rattle.rh_safety.proofs.Common.{leb_tells, length, length-drop, length-replicate, length-take, live_of, load_letter, nat_eq, nat_lt, next_ref, none_some}
use Rattle.rh_safety.proofs.Common.{option_map, outs_view, put, refl, scrap_shortage, seen_letter, seen_scrap, send_letter, slot_alloc, slot_at, slot_block}
use Rattle.rh_safety.proofs.Common.{slot_claim, slot_is, suc, sym, take, take_all, taking_ended, task_of, transmit_letter, true, view, weight}
use Rattle.rh_safety.proofs.Common.{wider, with_sending, with_slot, with_taking, with_task, with_id, in_id, written, zero, zeros, ℕ, ◌++◌, ◌+◌, ◌<◌, ◌∙◌, ◌≡◌}
use Rattle.rh_safety.proofs.Common.{◌≤◌, Asked}
use Rattle.rh_defs.specs.declared.message.Body.TheVariants as body
use Rattle.rh_defs.specs.Heap.{block_room}
use Rattle.rh_defs.specs.Letters.{ack_letter, load_ack_letter}
use Rattle.rh_defs.specs.Places.{first_bytes, free_from, with_heap_bytes, written_in}
use Rattle.rh_defs.specs.RawTasks.{is_raw_at}
use Rattle.rh_defs.specs.Receiver as receiver
use Rattle.rh_defs.specs.Sender as sender
use Rattle.rh_defs.specs.Slot.{anchor_count, is_used}
use Rattle.rh_safety.proofs.Sight as sight
use Rattle.rh_safety.proofs.Acts.{Loads, Sends, append_of, claim_of, load_of, longer_of, part_of, poured, save_of, transmit_of}
use Rattle.rh_safety.proofs.Arrivals.{Began}
use Rattle.rh_safety.proofs.FlexMaps as flex
use Rattle.rh_safety.proofs.SeenBlocks.{added_map, added_still, alloc_is, not_some}
use Rattle.rh_safety.proofs.SeenDocuments.{IsLonger, block_there, buffer_is, ended_view, letter_of, longer_is}
use Rattle.rh_safety.proofs.SeenHeaps.{claim_is, claimed_free, claimed_map, claimed_still}
use Rattle.rh_safety.proofs.SeenSaves.{not_full}
use Rattle.rh_safety.proofs.SeenSends.{sent_slot, sent_view}
use Rattle.rh_safety.proofs.SeenTasks.{both_view}
use Rattle.rh_safety.proofs.SeenWrites.{buffer_found, front, written_map}

put_cong : {A : Type 0} (f g : ℕ → A) (k : ℕ) (v : A) → Same f g → Same (put f k v) (put g k v)
put_cong f g k v same a = elim (eqb_tells a k) [ inl w ↦ rw w.0 refl | inr w ↦ rw w.0 (same a) ]

-- an anchor that was free
free_is : (k n : ℕ) (s : Slot) (j : ℕ) → free_from k n s ≡ Some j → is_used j s ≡ false
free_is k zero s j q = absurd (none_some None refl q)
free_is k (suc n) s j q =
    either (λ (z : Option ℕ). z ≡ Some j → is_used j s ≡ false) (is_used k s) (free_from (k + 1) n s) (Some k)
    (λ e z. free_is (k + 1) n s j z) (λ e z. let same : k ≡ j = cc in ap (λ i. is_used i s) (sym same) ∙ e) q

-- what is seen once a part of the source S went into the buffer
abbrev pub gone : sight.Desk → ℕ → Transmit → List ℕ → List ℕ → sight.Desk
gone D h a S old =
    let x : Sending = a.transfer in
    let p : Part = sender.next_part a (length S) in
    sight.sent (record D {
      heap = put D.heap x.recipient (put (D.heap x.recipient) a.buffer (Some (take p.n (drop p.offset S) ++ drop p.n old)));
      sending = put D.sending h (sender.sent a p D.next_ref (D.sending h));
    }) h (seen_letter (transmit_letter h a p) D.next_ref)

-- the letter of a fetch
abbrev pub fetch_in : Parcel → ℕ → ℕ → Letter
fetch_in m buffer amount = letter_of m (body.RamFetch buffer amount)

-- the buffer that the fetch names
pub record Reaches (d : sight.Desk) (a : Transmit) : Type 0 where
  pub old : List ℕ
  pub there : d.heap a.transfer.recipient a.buffer ≡ Some old
  pub fits : a.room ≤ length old

-- the desk once the bytes of a transmit are in the document: fewer than the buffer has were the last
abbrev pub taken_desk : sight.Desk → ℕ → Taking → Letter → sight.Desk
taken_desk d h r l =
    let D = sight.longer d h r l.amount in
    if nat_lt l.amount (d.buf h) then sight.ended D h r (In_done r.id r.anchor (r.count + l.amount))
    else sight.fetched D h r l.amount l.me

few : (xs : List Incoming) → is_full is_going xs ≡ false → how_many is_going xs < 8
few xs q = elim (leb_tells (suc (how_many is_going xs)) 8) [
  | inl w ↦ w.1
  | inr w ↦ absurd (let a = w.0 in let b = not_full is_going xs q in (cc))
]

no_scrap : (v : Option Scrap) → is_some v ≡ false → option_map seen_scrap v ≡ None
no_scrap None q = refl
no_scrap (Some file) q = absurd (let z : Bool.true ≡ false = q in (cc))

module _ (d : Desk) (t : Task) (m : Parcel) (is : task_of t.handle d.tasks ≡ Some t) where
  abbrev h : ℕ
  h = t.handle

  live : (view d).live h ≡ true
  live = live_of d h t is

  pub buffer_size : (view d).buf h ≡ t.buffer
  buffer_size = field_is (λ y. y.buffer) 1 h d.tasks t is

  -- the bytes at an anchor
  block_seen : (k : ℕ) → (view d).block h k ≡ blocks_of t.slot k
  block_seen k = ap (λ (f : ℕ → Option (List ℕ)). f k) (field_is (λ y. blocks_of y.slot) (λ a. None) h d.tasks t is)

  pub source_seen : (x : Sending) (s : Split Flex) → slot_block x.anchor t.slot ≡ Ok s → (view d).block h x.anchor ≡ Some s.here.bytes
  source_seen x s e = block_seen x.anchor ∙ block_there x.anchor t.slot s e

  -- ---- the sender

  module _ (buffer n : ℕ) (x : Sending) (source : Split Flex) (r : Task) (sent : Desk) (s : Sends d t m buffer n x source r sent) where
    abbrev a : Transmit
    a = transmit_of d t m buffer n x

    abbrev p : Part
    p = part_of d t m buffer n x source

    abbrev S : List ℕ
    S = source.here.bytes

    pub recipient_lives : (view d).live x.recipient ≡ true
    recipient_lives = live_of d x.recipient r s.to

    -- the bytes are in the buffer
    pour_seen : (w : Reaches (view d) a) → view (poured d t m buffer n p source r sent) ≡
        sight.with_heap (sight.sent (view d) h (seen_letter (transmit_letter h a p) d.post.next_ref)) x.recipient buffer
        (Some (take p.n (drop x.count S) ++ drop p.n w.old))
    pour_seen w =
        let out = take p.n (drop x.count S) in
        let new : List ℕ = out ++ drop p.n w.old in
        let same : r.handle ≡ x.recipient = is_equal _ _ (first_is (λ (k : Task). nat_eq k.handle x.recipient) d.tasks r s.to).1 in
        let c = buffer_found buffer n r.slot w.old (ap (λ (g : ℕ → Option (List ℕ)). g buffer)
        (sym (field_is (λ y. buffers_of y.slot) (λ a. None) x.recipient d.tasks r s.to)) ∙ w.there) w.fits
        (heap_block_at buffer r.slot) refl in
        let len : length out ≡ p.n = simp length-take (let z = length-drop x.count S in omega arith) in
        let fits : length out ≤ length (bytes_of c.cut.here) = let y : length (bytes_of c.cut.here) ≡ length w.old =
        ap (λ (v : List ℕ). length v) c.bytes in let z = w.fits in omega arith in
        let letter = transmit_letter h a p in
        let v : view sent ≡ sight.sent (view d) h (seen_letter letter d.post.next_ref) = sent_view d sent letter s.letter live in
        let there : (view sent).live r.handle ≡ true = ap (λ (y : sight.Desk). y.live r.handle) v ∙ ap (view d).live same ∙ recipient_lives in
        let slot : slot_at sent r.handle ≡ r.slot = sent_slot d sent letter s.letter r.handle ∙ ap (slot_at d) same ∙ slot_is d x.recipient r s.to in
        let g : Slot → Slot = λ s. written_in buffer out (buffer_at buffer n s) s in
        let now : g r.slot ≡ with_heap_bytes c.cut 0 out r.slot = ap (λ o. written_in buffer out o r.slot) c.found in
        let bytes : written (bytes_of c.cut.here) 0 out ≡ new = ap (λ v. written v 0 out) c.bytes ∙ front p.n out w.old len in
        buffer_view sent r.handle buffer g (Some new) r.slot there slot
        (λ a. ap (λ (s : Slot). blocks_of s a) now)
        (λ k. ap (λ (s : Slot). buffers_of s k) now ∙ written_map buffer r.slot c.cut out c.is fits k ∙
        ap (λ v. put (buffers_of r.slot) buffer (Some v) k) bytes) ∙
        ap (λ k. sight.with_heap (view sent) k buffer (Some new)) same ∙
        ap (λ (y : sight.Desk). sight.with_heap y x.recipient buffer (Some new)) v

    pub sends_seen : (w : Reaches (view d) a) →
        view (with_sending h (sender.sent a p (next_ref d)) (poured d t m buffer n p source r sent)) ≡ gone (view d) h a S w.old
    sends_seen w =
        let v = pour_seen w in
        let edit = sender.sent a p (next_ref d) in
        outs_view _ h edit (ap (λ (y : sight.Desk). y.live h) v ∙ live) ∙ ap (λ (y : sight.Desk). record y { sending = put y.sending h (edit (y.sending h)) }) v

  -- the source becomes the scrap file
  pub saves_seen : (b : Body) (x : Sending) (s : Split Flex) (sent : Desk) → m.message.from ≡ x.recipient →
      send_letter (load_letter h (save_of d t m x) (length s.here.bytes)) (wider (scrap_shortage (length s.here.bytes) d) d) ≡ Ok sent →
      view (with_sending h (sender.saved (save_of d t m x) (next_ref d)) (record sent { scrap = Some (record { load = next_ref d; bytes = s.here.bytes }) })) ≡
      sight.filed (view d) h (letter_of m b) x s.here.bytes
  saves_seen b x s sent from e =
      let n : ℕ = length s.here.bytes in
      let letter = load_letter h (save_of d t m x) n in
      let v : view sent ≡ sight.sent (view d) h (seen_letter letter d.post.next_ref) = sent_view (wider (scrap_shortage n d) d) sent letter e live in
      let edit = sender.saved (save_of d t m x) (next_ref d) in
      let file : sight.Scrap = record { load = next_ref d; bytes = s.here.bytes } in
      outs_view (record sent { scrap = Some (record { load = next_ref d; bytes = s.here.bytes }) }) h edit (ap (λ (y : sight.Desk). y.live h) v ∙ live) ∙
      ap (λ (y : sight.Desk). record y { sending = put y.sending h (edit (y.sending h)); scrap = Some file }) v ∙
      ap (λ k. record (sight.sent (view d) h (seen_letter (record letter { to = k }) d.post.next_ref)) {
        sending = put (view d).sending h (edit ((view d).sending h));
        scrap = Some file;
      }) from

  -- there was none before
  pub none_before : is_some d.scrap ≡ false → (view d).scrap ≡ None
  none_before q = no_scrap d.scrap q

  -- ---- the receiver

  -- the desk with the anchor's empty block and the buffer at the address
  abbrev placed : ℕ → ℕ → List ℕ → sight.Desk
  placed k address bytes = record (view d) {
    heap = put (view d).heap h (put ((view d).heap h) address (Some bytes));
    block = put (view d).block h (put ((view d).block h) k (Some []));
  }

  -- a first fetch of n bytes was sent
  abbrev fetching : ℕ → ℕ → List ℕ → ℕ → sight.Desk
  fetching k address bytes n =
      let edit = receiver.taking_claimed (claim_of d t m) k address (next_ref d) in
      let y = sight.sent (placed k address bytes) h (seen_letter (fetch_letter h (receiver.first_fetch (claim_of d t m) address n)) d.post.next_ref) in
      record y { taking = put y.taking h (edit (y.taking h)) }

  pub claims_seen : (b : Body) (k : ℕ) (c p : _) (sent : Desk) → is_full is_going t.taking ≡ false → free_anchor t.slot ≡ Some k →
      slot_claim (free_pages d) t.buffer t.slot ≡ Ok c → slot_alloc (free_pages (with_slot h c.0 d)) k 0 c.0 ≡ Ok p →
      send_letter (fetch_letter h (receiver.first_fetch (claim_of d t m) c.1 t.buffer)) (with_slot h p.0 d) ≡ Ok sent →
      Began (view d) h (letter_of m b) (view (with_taking h (receiver.taking_claimed (claim_of d t m) k c.1 (next_ref d)) sent))
  unfolding with_task
  claims_seen b k c p sent room free claim alloc e =
      let bytes : List ℕ = zeros (block_room t.buffer) in
      let claimed = claim_is (free_pages d) t.buffer t.slot c claim in
      let added = alloc_is (free_pages (with_slot h c.0 d)) k 0 c.0 p alloc in
      let none : blocks_of t.slot k ≡ None = (flex.edits weight (flex_start t.slot) k t.slot.blocks).unused
      (not_some (block_of k t.slot) (free_is 0 anchor_count t.slot k free)) in
      let d1 : Desk = with_slot h p.0 d in
      let v1 : view d1 ≡ placed k c.1 bytes = both_view d h k c.1 (λ y. p.0) (Some []) (Some bytes) t.slot live (slot_is d h t is)
      (λ a. added_map k (zeros 0) c.0 p.0 added a ∙ put_cong (blocks_of c.0) (blocks_of t.slot) k (Some []) (claimed_still claimed) a)
      (λ a. added_still k (zeros 0) c.0 p.0 added a ∙ claimed_map claimed a) in
      let live1 : (view d1).live h ≡ true = ap (λ (y : sight.Desk). y.live h) v1 ∙ live in
      let letter = fetch_letter h (receiver.first_fetch (claim_of d t m) c.1 t.buffer) in
      let v2 : view sent ≡ sight.sent (view d1) h (seen_letter letter d.post.next_ref) = sent_view d1 sent letter e live1 in
      let edit = receiver.taking_claimed (claim_of d t m) k c.1 (next_ref d) in
      let v3 : view (with_taking h edit sent) ≡ fetching k c.1 bytes t.buffer =
      ins_view sent h edit (ap (λ (y : sight.Desk). y.live h) v2 ∙ live1) ∙ ap
      (λ (y : sight.Desk). record y { taking = put y.taking h (edit (y.taking h)) }) v2 ∙
      ap (λ (z : sight.Desk). let y = sight.sent z h (seen_letter letter d.post.next_ref) in record y { taking = put y.taking h (edit (y.taking h)) }) v1 in
      record {
        anchor = k;
        address = c.1;
        bytes = bytes;
        raw = is_raw_at m.message.from d;
        free_anchor = block_seen k ∙ none;
        free_address = ap (λ (g : ℕ → Option (List ℕ)). g c.1) (field_is (λ y. buffers_of y.slot) (λ a. None) h d.tasks t is) ∙ claimed_free claimed;
        size = let y = buffer_size in let z : length bytes ≡ block_room t.buffer = length-replicate (block_room t.buffer) 0 in omega arith;
        few = few ((view d).taking h) (ap (is_full is_going) (field_is (λ y. y.taking) [] h d.tasks t is) ∙ room);
        seen = v3 ∙ ap (fetching k c.1 bytes) (sym buffer_size);
      }

  -- and the record has the flag of its sender
  pub claims_raw : (b : Body) (k : ℕ) (c p : _) (sent : Desk) (room : is_full is_going t.taking ≡ false) (free : free_anchor t.slot ≡ Some k)
      (claim : slot_claim (free_pages d) t.buffer t.slot ≡ Ok c) (alloc : slot_alloc (free_pages (with_slot h c.0 d)) k 0 c.0 ≡ Ok p)
      (e : send_letter (fetch_letter h (receiver.first_fetch (claim_of d t m) c.1 t.buffer)) (with_slot h p.0 d) ≡ Ok sent) →
      (claims_seen b k c p sent room free claim alloc e).raw ≡ is_raw_at m.message.from d
  unfolding claims_seen with_task
  claims_raw b k c p sent room free claim alloc e = refl

  -- the same records, seen before and after an edit of the rest
  ins_after : {D E : sight.Desk} (e : Desk) (edit : List Incoming → List Incoming) → view e ≡ D → (view e).live h ≡ true →
      record D { taking = put D.taking h (edit (D.taking h)) } ≡ E → view (with_taking h edit e) ≡ E
  ins_after e edit v lives same =
      ins_view e h edit lives ∙ ap (λ (y : sight.Desk). record y { taking = put y.taking h (edit (y.taking h)) }) v ∙ same

  module _ (n : ℕ) (f : Taking) (longer : Desk) (l : longer_of d t m n f longer) where
    abbrev is_longer : IsLonger d t f.anchor (first_bytes n (heap_block_at f.buffer t.slot)) longer
    is_longer = longer_is d t f.anchor _ longer is l

    first_ : (o : Option (Split Segment)) → first_bytes n o ≡ take n (sight.bytes_of (option_map (λ (b : Split Segment). bytes_of b.here) o))
    first_ None = sym (take_all n [] (omega arith))
    first_ (Some b) = refl

    -- the document is longer
    longer_seen : view longer ≡ sight.longer (view d) h f n
    longer_seen =
        let w = is_longer in
        let bytes : first_bytes n (heap_block_at f.buffer t.slot) ≡ take n (sight.bytes_of ((view d).heap h f.buffer)) =
        first_ (heap_block_at f.buffer t.slot) ∙ ap (λ (o : Option (List ℕ)). take n (sight.bytes_of o)) (buffer_is f.buffer t.slot) ∙
        ap (λ (g : ℕ → Option (List ℕ)). take n (sight.bytes_of (g f.buffer))) (sym (field_is (λ y. buffers_of y.slot) (λ a. None) h d.tasks t is)) in
        let document : w.document ≡ sight.bytes_of ((view d).block h f.anchor) = ap sight.bytes_of (sym w.there ∙ sym (block_seen f.anchor)) in
        w.seen ∙ ap (λ (z : List ℕ). sight.with_block (view d) h f.anchor (Some (w.document ++ z))) bytes ∙
        ap (λ (z : List ℕ). sight.with_block (view d) h f.anchor (Some (z ++ take n (sight.bytes_of ((view d).heap h f.buffer))))) document

    -- its transfer ends, with the record written anew
    pub ends_seen : (v : Incoming) → view (taking_ended h f (λ ws. with_id in_id f.id v ws) longer) ≡
        sight.ended (sight.longer (view d) h f n) h f v
    ends_seen v = ended_view longer h f _ is_longer.live ∙ ap (λ (y : sight.Desk). sight.ended y h f v) longer_seen

    module _ (buffer : ℕ) where
      abbrev now : Bool → sight.Desk
      now last = if last then sight.ended (sight.longer (view d) h f n) h f (In_done f.id f.anchor (f.count + n))
          else sight.fetched (sight.longer (view d) h f n) h f n m.message.my_ref

      choose : (last : Bool) → nat_lt n t.buffer ≡ last → now last ≡ taken_desk (view d) h f (letter_of m (body.RamTransmit buffer n))
      choose last q = ap now (sym (ap (nat_lt n) buffer_size ∙ q))

      pub takes_last_seen : nat_lt n t.buffer ≡ true →
          view (taking_ended h f (receiver.finished (append_of d t m n f)) longer) ≡ taken_desk (view d) h f (letter_of m (body.RamTransmit buffer n))
      takes_last_seen less = ends_seen (In_done f.id f.anchor (f.count + n)) ∙ choose true less

      pub fetched_seen : (sent : Desk) → send_letter (fetch_letter h (receiver.next_fetch f m.message.my_ref t.buffer)) longer ≡ Ok sent →
          view (with_taking h (receiver.fetched (append_of d t m n f) (next_ref longer)) sent) ≡ now false
      fetched_seen sent e =
          let w = is_longer in
          let D : sight.Desk = sight.longer (view d) h f n in
          let letter : ℕ → _ = λ size. fetch_letter h (receiver.next_fetch f m.message.my_ref size) in
          let v2 : view sent ≡ sight.sent (view longer) h (seen_letter (letter t.buffer) longer.post.next_ref) = sent_view longer sent
          (letter t.buffer) e w.live in
          ins_after sent (receiver.fetched (append_of d t m n f) (next_ref longer)) v2 (ap (λ (y : sight.Desk). y.live h) v2 ∙ w.live)
          (ap (λ (z : sight.Desk). let y = sight.sent z h (seen_letter (letter t.buffer) longer.post.next_ref) in
          record y { taking = put y.taking h (receiver.fetched (append_of d t m n f) (next_ref longer) (y.taking h)) }) longer_seen ∙
          ap (λ (k : ℕ). let y = sight.sent D h (seen_letter (letter t.buffer) k) in record y {
            taking = put y.taking h
                (receiver.fetched (append_of d t m n f) k (y.taking h));
          })
          (ap (λ p. p.next_ref) w.post) ∙
          ap (λ (k : ℕ). let y = sight.sent D h (seen_letter (letter k) D.next_ref) in
          record y { taking = put y.taking h (receiver.fetched (append_of d t m n f) D.next_ref (y.taking h)) }) (sym buffer_size))

      pub takes_full_seen : (sent : Desk) → nat_lt n t.buffer ≡ false → send_letter (fetch_letter h (receiver.next_fetch f m.message.my_ref t.buffer)) longer
          ≡ Ok sent →
          view (with_taking h (receiver.fetched (append_of d t m n f) (next_ref longer)) sent) ≡ taken_desk (view d) h f
          (letter_of m (body.RamTransmit buffer n))
      takes_full_seen sent full e = fetched_seen sent e ∙ choose false full

  -- the sender is asked for a file
  pub asks_seen : (f : Taking) (sent : Desk) → send_letter (ack_letter h f) d ≡ Ok sent →
      view (taking_ended h f (receiver.asking f (next_ref d)) sent) ≡ sight.asked (view d) h f
  asks_seen f sent e =
      let v = sent_view d sent (ack_letter h f) e live in
      let edit = receiver.asking f (next_ref d) in
      ended_view sent h f edit (ap (λ (y : sight.Desk). y.live h) v ∙ live) ∙ ap (λ (y : sight.Desk). record y {
        heap = put y.heap h (put (y.heap h) f.buffer None);
        taking = put y.taking h (edit (y.taking h));
      }) v

  module _ (q : Asked) (file : Scrap) (longer : Desk) (w : Loads d t m q file longer) where
    copied_live : (view longer).live h ≡ true
    copied_live = (longer_is d t q.anchor file.bytes longer is w.longer_is).live

    -- the file is in the document
    copied_seen : view (record longer { scrap = None }) ≡ sight.copied (view d) h q file.bytes
    copied_seen =
        let z = longer_is d t q.anchor file.bytes longer is w.longer_is in
        let document : z.document ≡ sight.bytes_of ((view d).block h q.anchor) = ap sight.bytes_of (sym z.there ∙ sym (block_seen q.anchor)) in
        ap (λ (y : sight.Desk). record y { scrap = None }) z.seen ∙
        ap (λ (z : List ℕ). record (sight.with_block (view d) h q.anchor (Some (z ++ file.bytes))) { scrap = None }) document

    pub loads_only_seen : view (with_taking h (receiver.abandoned q (length file.bytes)) (record longer { scrap = None })) ≡
        sight.with_in (sight.copied (view d) h q file.bytes) h q (In_failed q.id q.anchor (length file.bytes))
    loads_only_seen = ins_after (record longer { scrap = None }) (receiver.abandoned q (length file.bytes)) copied_seen copied_live refl

    pub loads_seen : (b : Body) (sent : Desk) → m.message.from ≡ q.sender →
        send_letter (load_ack_letter h (load_of d t m q) (length file.bytes)) (record longer { scrap = None }) ≡ Ok sent →
        view (with_taking h (receiver.taking_loaded q (length file.bytes)) sent) ≡
        sight.told (sight.copied (view d) h q file.bytes) h (letter_of m b) q (length file.bytes)
    loads_seen b sent from e =
        let n = length file.bytes in
        let d1 : Desk = record longer { scrap = None } in
        let D : sight.Desk = sight.copied (view d) h q file.bytes in
        let letter = load_ack_letter h (load_of d t m q) n in
        let v2 : view sent ≡ sight.sent (view d1) h (seen_letter letter d1.post.next_ref) = sent_view d1 sent letter e copied_live in
        let edit = receiver.taking_loaded q n in
        let post = (longer_is d t q.anchor file.bytes longer is w.longer_is).post in
        ins_after sent edit v2 (ap (λ (y : sight.Desk). y.live h) v2 ∙ copied_live)
        (ap (λ (z : sight.Desk). let y = sight.sent z h (seen_letter letter d1.post.next_ref) in record y {
          taking = put y.taking h
              (edit (y.taking h));
        }) copied_seen ∙
        ap (λ (k : ℕ). let y = sight.sent D h (seen_letter letter k) in record y { taking = put y.taking h (edit (y.taking h)) }) (ap (λ p. p.next_ref) post) ∙
        ap (λ (k : ℕ). let y = sight.sent D h (seen_letter (record letter { to = k }) D.next_ref) in record y {
          taking = put y.taking h
              (edit (y.taking h));
        }) from)
