-- A file on its way: each turn brings it on, and after enough of them it is there.
use Rattle.std.proofs.Common.{◌≡◌, ℕ, ◌+◌, ◌-◌, ◌*◌, ◌<◌, ◌≤◌, true, false, refl, ap, sym, ◌∙◌, arith, List, [], ◌∷◌, ◌++◌, length, take, drop, length-append}
use Rattle.std.specs.Prelude.{min, nat_lt, Some, slice_get}
use Rattle.std.proofs.Math.Seq.{take-length}
use Rattle.std.proofs.lemmas.Option.{slice_get-get_or}
use Rattle.std.proofs.lemmas.List.{get_or_push}
use borrow.Author.Tests.{ltb-true, ltb-false}
use Rattle.rh_defs.specs.declared.message.Letter.{Letter}
use Rattle.rh_defs.specs.declared.transfer.Outgoing.{Outgoing}
use Rattle.rh_defs.specs.declared.transfer.Outgoing.TheVariants as outgoing
use Rattle.rh_defs.specs.declared.transfer.Incoming.{Incoming}
use Rattle.rh_defs.specs.declared.transfer.Incoming.TheVariants as incoming
use Rattle.callers.specs.Inner.HandOver.{IsOffered, IsAsked, IsAnswered, IsOver, open_at, went_at, fetching_at, taken_at, fetch_of, transmit_of, offer_of}

-- one letter more is the next one
slice_get-push : (mail : List Letter) (letter : Letter) (turn : ℕ) → length mail ≡ turn → slice_get (mail ++ letter ∷ []) turn ≡ Some letter
slice_get-push mail letter turn many =
    slice_get-get_or (mail ++ letter ∷ []) turn letter (omega (arith, length-append mail (letter ∷ []), many))
    ∙ ap Some (get_or_push mail letter letter turn many)

-- the offer is taken by a fetch
pub offered-next : (source document : List ℕ) (room turn : ℕ) (mail : List Letter) (sender : List Outgoing) (receiver : List Incoming)
    → IsOffered source turn mail sender receiver
    → IsAsked source room (turn + 1) (mail ++ fetch_of room 1 ∷ []) sender (fetching_at 0 (turn + 2)) document 0 1
offered-next source document room turn mail sender receiver h = record {
  many = rw (h.next, h.first) refl;
  next = rw (h.next, h.first) refl;
  sends = h.sends;
  takes = ap (fetching_at 0) (omega arith);
  front = refl;
  least = omega (arith, h.first);
  most = omega arith;
}

-- a fetch is answered by bytes
pub asked-next : (source document buffer : List ℕ) (room turn : ℕ) (mail : List Letter) (sender : List Outgoing)
    (receiver : List Incoming) (c last : ℕ)
    → IsAsked source room turn mail sender receiver document c last
    → (let n = min room (length source - c) in take n buffer ≡ take n (drop c source)
    → IsAnswered source room (turn + 1) (mail ++ transmit_of room (turn + 1) n ∷ []) (went_at room c n (turn + 2)) receiver document buffer c n (turn + 1))
asked-next source document buffer room turn mail sender receiver c last h moved = record {
  many = omega (arith, length-append mail (transmit_of room (turn + 1) (min room (length source - c)) ∷ []), h.many);
  next = slice_get-push mail _ (turn + 1) h.many;
  sends = ap (went_at room c (min room (length source - c))) (omega arith);
  takes = h.takes;
  front = h.front;
  bytes = moved;
  least = omega (arith, h.least);
  most = h.most;
  part = refl;
}

-- the bytes of a full buffer are asked on from
pub answered-next : (source document later buffer : List ℕ) (room turn : ℕ) (mail : List Letter) (sender : List Outgoing)
    (receiver : List Incoming) (c n fetch : ℕ)
    → IsAnswered source room turn mail sender receiver document buffer c n fetch → 0 < room → nat_lt n room ≡ false
    → take (c + n) later ≡ take (c + n) source
    → IsAsked source room (turn + 1) (mail ++ fetch_of room (turn + 1) ∷ []) sender (fetching_at (c + n) (turn + 2)) later (c + n) (turn + 1)
answered-next source document later buffer room turn mail sender receiver c n fetch h some full front = record {
  many = omega (arith, length-append mail (fetch_of room (turn + 1) ∷ []), h.many);
  next = slice_get-push mail _ (turn + 1) h.many;
  sends = h.sends ∙ rw full refl;
  takes = ap (fetching_at (c + n)) (omega arith);
  front = front;
  least = omega (arith, h.least, ltb-false n room full);
  most = omega (arith, h.most, h.part);
}

-- behind fewer bytes than the buffer has, the file is there
pub answered-over : (source document later buffer : List ℕ) (room turn : ℕ) (mail : List Letter) (sender : List Outgoing)
    (receiver : List Incoming) (c n fetch : ℕ)
    → IsAnswered source room turn mail sender receiver document buffer c n fetch → nat_lt n room ≡ true
    → length later ≡ length source → take (c + n) later ≡ take (c + n) source
    → IsOver source (turn + 1) mail sender (incoming.Done 1 0 (c + n) ∷ []) later
answered-over source document later buffer room turn mail sender receiver c n fetch h short same front =
    let all : c + n ≡ length source = omega (arith, h.most, h.part, ltb-true n room short) in record {
      many = omega (arith, h.many);
      sends = h.sends ∙ rw short (ap (λ k. outgoing.Done 1 k ∷ []) all);
      takes = ap (λ k. incoming.Done 1 0 k ∷ []) all;
      whole =
          sym (take-length later) ∙ ap (λ k. take k later) (same ∙ sym all) ∙ front ∙ ap (λ k. take k source) all ∙ take-length source;
    }
