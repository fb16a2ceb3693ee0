use Rattle.rh_wimp.proofs.Common.{◌≡◌, ℕ, ◌+◌, ◌≤◌, length, take, sym, ◌∙◌, arith, length-take, LONGEST_MESSAGE, Parcel, encoded, encoded_length, padded}
use Rattle.rh_wimp.proofs.Common.{has-less, room_enough, encoded-most, length-encoded, length_read, length-padded, message_read, module_heap_in, written}
use Rattle.rh_wimp.proofs.Common.{LinksAt}
use Rattle.rh_wimp.proofs.ItemLaws.{links-bytes, links-has}
use Rattle.rh_wimp.proofs.reading.copy_block.Goals as goal
use Rattle.rh_wimp.proofs.reading.copy_block.Goals.{After-read_word-length}
use Rattle.rh_wimp.proofs.reading.copy_block.Given as given

pub read_word-length-requires-clause-block : goal.read_word-length-requires-clause-block
read_word-length-requires-clause-block g c =
    let m = g.S.Words.memory c.args.store.now in
    has-less c.args.block 28 12 (module_heap_in m c.args.module_area) (omega arith) (links-has c.requires.lies.1.1)

-- the length that is read
measured : (g : given.Over) (c : After-read_word-length g) (link : ℕ) (p : Parcel) → LinksAt
    (g.S.Words.memory c.args.store.now) c.args.module_area c.args.block link p
    → (c.read_word-length.result ≡ encoded_length p.message) × (c.read_word-length.result ≤ LONGEST_MESSAGE)
measured g c link p w =
    let k = encoded-most p.message w.lies.fits.name in
    let most = k.1 in
    let e = c.read_word-length.ensures (padded link p) (links-bytes w) ∙ length_read link p w.small w.lies.fits in
    (e, omega arith)

pub slice_bounds-bytes-end : goal.slice_bounds-bytes-end
slice_bounds-bytes-end g c =
    let l = c.requires.lies in
    let m = measured g (goal.at.slice_bounds-bytes-end g c).After-read_word-length l.0 l.1.0 l.1.1 in
    let few = m.1 in
    let n = c.requires.room in
    omega arith

pub slice_bounds-bytes-end-2 : goal.slice_bounds-bytes-end-2
slice_bounds-bytes-end-2 g c =
    let l = c.requires.lies in
    let m = measured g (goal.at.slice_bounds-bytes-end-2 g c).After-read_word-length l.0 l.1.0 l.1.1 in
    let few = m.1 in
    let n = c.requires.room in
    let t = length-take c.read_word-length.result c.args.to.now in
    omega arith

pub read_bytes-requires-clause-block : goal.read_bytes-requires-clause-block
read_bytes-requires-clause-block g c =
    let l = c.requires.lies in
    let m = measured g (goal.at.read_bytes-requires-clause-block g c).After-read_word-length l.0 l.1.0 l.1.1 in
    let is = m.0 in
    let few = m.1 in
    let t = length-take c.read_word-length.result c.args.to.now in
    record {
      bytes = padded l.0 l.1.0;
      found = links-bytes l.1.1;
      room = omega (arith, length-padded l.0 l.1.0, room_enough (8 + encoded_length l.1.0.message));
    }

pub returns : goal.returns
returns g c = λ link p w.
    let m = measured g (goal.at.returns g c).After-read_word-length link p w in
    let is = m.0 in
    let few = m.1 in
    let n = c.requires.room in
    let t = length-take c.read_word-length.result c.args.to.now in
    let b = c.read_bytes.ensures (padded link p) (links-bytes w) ∙ message_read link p (length (take c.read_word-length.result c.args.to.now)) (omega arith) in
    let long = length-encoded p.message in
    written 0 c.read_word-length.result c.args.to.now c.read_bytes.new.to (encoded p.message) b (is ∙ sym long) (omega (arith, is, few, long, n))
