use Rattle.rh_wimp.proofs.Common.{◌≡◌, ℕ, ◌+◌, ◌≤◌, List, length, take, refl, sym, ap, subst, ◌∙◌, arith, length-take, Some, Ok, Result, LONGEST_MESSAGE}
use Rattle.rh_wimp.proofs.Common.{part, module_heap_in, block_bytes, LinksAt, Parcel, encoded_length, padded, MessageFault, Message, has-less}
use Rattle.rh_wimp.proofs.Common.{encoded-most}
use Rattle.rh_wimp.proofs.Common.{room_enough, length_read, length-padded, message_read}
use Rattle.std.specs.Result.{IsOk}
use Rattle.rh_defs.specs.AnyMessage.{any_decoded}
use Rattle.rh_wimp.specs.Chains.{message_as}
use Rattle.rh_wimp.specs.Inner.ReadAs.{decoded_as}
use Rattle.rh_defs.proofs.AnyMessageLaws.{any-encoded}
use Rattle.rh_wimp.proofs.ItemLaws.{links-bytes, links-has}
use Rattle.rh_wimp.proofs.reading.read_into.Goals as goal
use Rattle.rh_wimp.proofs.reading.read_into.Goals.{After-read_word-length}
use Rattle.rh_wimp.proofs.reading.read_into.Given as given

pub read_word-length-requires-clause-block : goal.read_word-length-requires-clause-block
read_word-length-requires-clause-block g c =
    let m = g.S.Words.memory c.args.store.now in
    has-less c.args.block 28 12 (module_heap_in m c.args.module_area) (omega arith) (links-has c.requires.lies.1.1)

-- the length that is read
measured : (g : given.Over) (c : After-read_word-length g) (link : ℕ) (p : Parcel)
    → LinksAt (g.S.Words.memory c.args.store.now) c.args.module_area c.args.block link p
    → (c.read_word-length.result ≡ encoded_length p.message) × (c.read_word-length.result ≤ LONGEST_MESSAGE)
measured g c link p w =
    let k = encoded-most p.message w.lies.fits.name in
    let most = k.1 in
    let e = c.read_word-length.ensures (padded link p) (links-bytes w) ∙ length_read link p w.small w.lies.fits in
    (e, omega arith)

pub slice_bounds-bytes-end : goal.slice_bounds-bytes-end
slice_bounds-bytes-end g c =
    let l = c.requires.lies in
    let m = measured g (goal.at.slice_bounds-bytes-end g c).After-read_word-length l.0 l.1.0 l.1.1 in
    let few = m.1 in
    let n = c.requires.room in
    omega arith

pub slice_bounds-bytes-end-2 : goal.slice_bounds-bytes-end-2
slice_bounds-bytes-end-2 g c =
    let l = c.requires.lies in
    let m = measured g (goal.at.slice_bounds-bytes-end-2 g c).After-read_word-length l.0 l.1.0 l.1.1 in
    let few = m.1 in
    let n = c.requires.room in
    let t = length-take c.read_word-length.result c.args.buffer.now in
    omega arith

pub read_bytes-requires-clause-block : goal.read_bytes-requires-clause-block
read_bytes-requires-clause-block g c =
    let l = c.requires.lies in
    let m = measured g (goal.at.read_bytes-requires-clause-block g c).After-read_word-length l.0 l.1.0 l.1.1 in
    let is = m.0 in
    let few = m.1 in
    let t = length-take c.read_word-length.result c.args.buffer.now in
    let p : Parcel = l.1.0 in
    record {
      bytes = padded l.0 p;
      found = links-bytes l.1.1;
      room = omega (arith, length-padded l.0 p, room_enough (8 + encoded_length p.message));
    }

-- what is decoded
answered : (g : given.Over) (c : After-read_word-length g) (to : List ℕ) (result : Result Message MessageFault) (link : ℕ) (p : Parcel)
    → LinksAt (g.S.Words.memory c.args.store.now) c.args.module_area c.args.block link p
    → ((bytes : List ℕ) → block_bytes c.args.block (module_heap_in (g.S.Words.memory c.args.store.now) c.args.module_area) ≡ Some bytes
    → to ≡ part bytes 8 (length (take c.read_word-length.result c.args.buffer.now))) → result ≡ decoded_as c.args.played (any_decoded to)
    → result ≡ Ok (message_as c.args.played p.message)
answered g c to result link p w r e =
    let m = measured g c link p w in
    let is = m.0 in
    let few = m.1 in
    let n = c.requires.room in
    let t = length-take c.read_word-length.result c.args.buffer.now in
    let b = r (padded link p) (links-bytes w)
    ∙ message_read link p (length (take c.read_word-length.result c.args.buffer.now)) (omega arith) in
    e ∙ ap (λ x. decoded_as c.args.played (any_decoded x)) b ∙ ap (decoded_as c.args.played) (any-encoded p.message w.lies.fits)

pub unwrap-requires : goal.unwrap-requires
unwrap-requires g c =
    let l = c.requires.lies in
    subst IsOk (sym (answered g
    (goal.at.unwrap-requires g c).After-read_word-length c.read_bytes.new.to c.decode_as.result l.0 l.1.0 l.1.1 c.read_bytes.ensures
    c.decode_as.ensures)) refl

pub returns : goal.returns
returns g c = λ link p w.
    let e : ◌≡◌ {A = Result Message MessageFault} (Ok c.unwrap.result) (Ok (message_as c.args.played p.message)) =
    sym c.unwrap.ensures ∙ answered g (goal.at.returns g c).After-read_word-length c.read_bytes.new.to c.decode_as.result link p w c.read_bytes.ensures
    c.decode_as.ensures in
    cc
