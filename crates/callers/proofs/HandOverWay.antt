-- A file on its way: which message is the next one, and how far the file is behind it.
use Rattle.std.proofs.Common.{◌≡◌, ℕ, ◌+◌, ◌-◌, ◌<◌, ◌≤◌, Bool, true, false, zero, suc, refl, ap, sym, ◌∙◌, arith, List, [], ◌∷◌, ◌++◌, length, take, drop}
use Rattle.std.proofs.Common.{append-nil}
use Rattle.std.specs.Prelude.{min, nat_lt, Option, Some, None, slice_get, option_to_list}
use Rattle.std.proofs.Math.Seq.{take-add}
use Rattle.rh_defs.specs.Messages.{action_of}
use Rattle.rh_defs.specs.declared.message.Action.{Action}
use Rattle.rh_defs.specs.declared.message.Action.TheVariants as action
use Rattle.rh_defs.specs.declared.message.Letter.{Letter}
use Rattle.rh_defs.specs.declared.transfer.Outgoing.{Outgoing}
use Rattle.rh_defs.specs.declared.transfer.Incoming.{Incoming}
use Rattle.rh_defs.specs.declared.transfer.Incoming.TheVariants as incoming
use Rattle.callers.specs.Inner.HandOver.{IsOffered, IsAsked, IsAnswered, IsOver, IsOnItsWay, Offered, Asked, Answered, Over, offer_of, fetch_of, transmit_of}
use Rattle.callers.specs.Inner.HandOver.{answer_to, went_at, fetching_at, taken_at}
use Rattle.callers.proofs.HandOverSteps.{offered-next, asked-next, answered-next, answered-over}

-- what is there lies below the length
pub there : {A : Type 0} (xs : List A) (i : ℕ) (x : A) → slice_get xs i ≡ Some x → i < length xs
there [] zero x e = absurd (cc)
there [] (suc i) x e = absurd (cc)
there (y ∷ xs) zero x e = omega arith
there (y ∷ xs) (suc i) x e = omega (arith, there xs i x e)

same-action : (l letter : Letter) (a : Action) → Some l ≡ Some letter → action_of letter.body ≡ a → action_of l.body ≡ a
same-action l letter a e is = let same : l ≡ letter = cc in ap (λ (x : Letter). action_of x.body) same ∙ is

-- ---- which message is the next one

pub asked-of : (source : List ℕ) (room turn : ℕ) (mail : List Letter) (sender : List Outgoing) (receiver : List Incoming) (document buffer : List ℕ)
    (letter : Letter) → IsOnItsWay source room turn mail sender receiver document buffer → slice_get mail turn ≡ Some letter
    → action_of letter.body ≡ action.RamFetch
    → (c : ℕ) × (last : ℕ) × (letter ≡ fetch_of room last) × IsAsked source room turn mail sender receiver document c last
asked-of source room turn mail sender receiver document buffer letter (Offered h) at is =
    let e : Some (offer_of (length source)) ≡ Some letter = rw (h.next, h.first) at at in
    let b : action.DataSave ≡ action.RamFetch = same-action _ letter _ e is in absurd (cc)
asked-of source room turn mail sender receiver document buffer letter (Asked c last h) at is =
    let e : Some letter ≡ Some (fetch_of room last) = sym at ∙ h.next in
    let same : letter ≡ fetch_of room last = cc in (c, last, same, h)
asked-of source room turn mail sender receiver document buffer letter (Answered c n fetch h) at is =
    let e : Some (transmit_of room fetch n) ≡ Some letter = sym h.next ∙ at in
    let b : action.RamTransmit ≡ action.RamFetch = same-action _ letter _ e is in absurd (cc)
asked-of source room turn mail sender receiver document buffer letter (Over h) at is =
    absurd (omega (arith, there mail turn letter at, h.many))

pub answered-of : (source : List ℕ) (room turn : ℕ) (mail : List Letter) (sender : List Outgoing) (receiver : List Incoming)
    (document buffer : List ℕ) (letter : Letter) → IsOnItsWay source room turn mail sender receiver document buffer
    → slice_get mail turn ≡ Some letter → action_of letter.body ≡ action.RamTransmit
    → (c : ℕ) × (n : ℕ) × (fetch : ℕ) × (letter ≡ transmit_of room fetch n) × IsAnswered source room turn mail sender receiver document buffer c n fetch
answered-of source room turn mail sender receiver document buffer letter (Offered h) at is =
    let e : Some (offer_of (length source)) ≡ Some letter = rw (h.next, h.first) at at in
    let b : action.DataSave ≡ action.RamTransmit = same-action _ letter _ e is in absurd (cc)
answered-of source room turn mail sender receiver document buffer letter (Asked c last h) at is =
    let e : Some (fetch_of room last) ≡ Some letter = sym h.next ∙ at in
    let b : action.RamFetch ≡ action.RamTransmit = same-action _ letter _ e is in absurd (cc)
answered-of source room turn mail sender receiver document buffer letter (Answered c n fetch h) at is =
    let e : Some letter ≡ Some (transmit_of room fetch n) = sym at ∙ h.next in
    let same : letter ≡ transmit_of room fetch n = cc in (c, n, fetch, same, h)
answered-of source room turn mail sender receiver document buffer letter (Over h) at is =
    absurd (omega (arith, there mail turn letter at, h.many))

pub offered-of : (source : List ℕ) (room turn : ℕ) (mail : List Letter) (sender : List Outgoing) (receiver : List Incoming)
    (document buffer : List ℕ) (letter : Letter) → IsOnItsWay source room turn mail sender receiver document buffer
    → slice_get mail turn ≡ Some letter → (action_of letter.body ≡ action.RamFetch → ⊥) → (action_of letter.body ≡ action.RamTransmit → ⊥)
    → (letter ≡ offer_of (length source)) × IsOffered source turn mail sender receiver
offered-of source room turn mail sender receiver document buffer letter (Offered h) at no_fetch no_transmit =
    let e : Some (offer_of (length source)) ≡ Some letter = rw (h.next, h.first) at at in
    let same : letter ≡ offer_of (length source) = cc in (same, h)
offered-of source room turn mail sender receiver document buffer letter (Asked c last h) at no_fetch no_transmit =
    let e : Some letter ≡ Some (fetch_of room last) = sym at ∙ h.next in
    let same : letter ≡ fetch_of room last = cc in absurd (no_fetch (ap (λ (x : Letter). action_of x.body) same))
offered-of source room turn mail sender receiver document buffer letter (Answered c n fetch h) at no_fetch no_transmit =
    let e : Some letter ≡ Some (transmit_of room fetch n) = sym at ∙ h.next in
    let same : letter ≡ transmit_of room fetch n = cc in absurd (no_transmit (ap (λ (x : Letter). action_of x.body) same))
offered-of source room turn mail sender receiver document buffer letter (Over h) at no_fetch no_transmit =
    absurd (omega (arith, there mail turn letter at, h.many))

-- ---- how far it is behind that message

pub offered-way : (source document buffer : List ℕ) (room turn next : ℕ) (mail : List Letter) (sender : List Outgoing) (receiver after : List Incoming)
    (answer : Option Letter) → IsOffered source turn mail sender receiver → next ≡ turn + 2
    → (answer ≡ Some (fetch_of room 1)) × (after ≡ fetching_at 0 next)
    → IsOnItsWay source room (turn + 1) (mail ++ option_to_list answer) sender after document buffer
offered-way source document buffer room turn next mail sender receiver after answer h later done =
    let way : IsOnItsWay source room (turn + 1) (mail ++ fetch_of room 1 ∷ []) sender (fetching_at 0 (turn + 2)) document buffer =
    Asked 0 1 (offered-next source document room turn mail sender receiver h) in
    rw (done.0, done.1, later) way

pub asked-way : (source document buffer : List ℕ) (room turn next : ℕ) (mail : List Letter) (sender later : List Outgoing) (receiver : List Incoming)
    (answer : Option Letter) (c last : ℕ) → IsAsked source room turn mail sender receiver document c last → next ≡ turn + 2
    → (let n = min room (length source - c) in (answer ≡ Some (transmit_of room (turn + 1) n)) × (later ≡ went_at room c n next)
    × (take n buffer ≡ take n (drop c source)))
    → IsOnItsWay source room (turn + 1) (mail ++ option_to_list answer) later receiver document buffer
asked-way source document buffer room turn next mail sender later receiver answer c last h then_next done =
    let n : ℕ = min room (length source - c) in
    let way : IsOnItsWay source room (turn + 1) (mail ++ transmit_of room (turn + 1) n ∷ []) (went_at room c n (turn + 2)) receiver document buffer =
    Answered c n (turn + 1) (asked-next source document buffer room turn mail sender receiver c last h done.2) in
    rw (done.0, done.1, then_next) way

pub answered-way : (source document later buffer : List ℕ) (room turn next : ℕ) (mail : List Letter) (sender : List Outgoing)
    (receiver after : List Incoming) (answer : Option Letter) (c n fetch : ℕ)
    → IsAnswered source room turn mail sender receiver document buffer c n fetch → next ≡ turn + 2 → 0 < room → length later ≡ length source
    → (answer ≡ answer_to room (turn + 1) n) × (after ≡ taken_at room c n next) × (take (c + n) later ≡ take c document ++ take n buffer)
    → IsOnItsWay source room (turn + 1) (mail ++ option_to_list answer) sender after later buffer
answered-way source document later buffer room turn next mail sender receiver after answer c n fetch h then_next some same done =
    rw (done.0, done.1, then_next) (go (nat_lt n room) refl)
  where
    front : take (c + n) later ≡ take (c + n) source
    front = done.2 ∙ ap (λ l. l ++ take n buffer) h.front ∙ ap (λ l. take c source ++ l) h.bytes ∙ sym (take-add c n source)

    go : (short : Bool) → nat_lt n room ≡ short
        → IsOnItsWay source room (turn + 1) (mail ++ option_to_list (answer_to room (turn + 1) n)) sender (taken_at room c n (turn + 2)) later buffer
    go true e = rw (e, append-nil mail) (Over (answered-over source document later buffer room turn mail sender receiver c n fetch h e same front))
    go false e = rw e (Asked (c + n) (turn + 1) (answered-next source document later buffer room turn mail sender receiver c n fetch h some e front))
