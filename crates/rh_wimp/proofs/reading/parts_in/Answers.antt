use Rattle.rh_wimp.proofs.Common.{◌≡◌, ℕ, ◌-◌, ◌≤◌, List, length, take, drop, replicate, ap, ◌∙◌, arith, Parcel, encoded}
use Rattle.rh_wimp.proofs.Common.{encoded_length, with_part, LinksAt, word}
use Rattle.std.proofs.lemmas.List.{length-replicate}
use Rattle.rh_defs.specs.AnyMessage.{data_bytes}
use Rattle.rh_wimp.proofs.HandedLaws.{bounds-there, bytes-there, length-there, sender-there}
use Rattle.rh_wimp.proofs.reading.parts_in.Goals as goal
use Rattle.rh_wimp.proofs.reading.parts_in.Goals.{After-get_word-from}
use Rattle.rh_wimp.proofs.reading.parts_in.Given as given

-- what is known of the block that was copied
record Copied (b : List ℕ) (end from : ℕ) (p : Parcel) : Type 0 where
  end_is : end ≡ encoded_length p.message
  from_is : from ≡ p.message.from
  low : 20 ≤ end
  high : end ≤ length b
  data_are : take (end - 20) (drop 20 b) ≡ data_bytes p.message.body

copied : (g : given.Over) (c : After-get_word-from g) (link : ℕ) (p : Parcel) → LinksAt
    (g.S.Words.memory c.args.store.now) c.args.module_area c.args.block link p
    → Copied c.copy_block.new.to c.get_word-end.result c.get_word-from.result p
copied g c link p w =
    let old : List ℕ = replicate 256 0 in
    let long : length old ≡ 256 = length-replicate {A = ℕ} 256 0 in
    let b = c.copy_block.ensures link p w in
    let fits = w.lies.fits in
    let n = bounds-there old p.message fits long in
    let end : c.get_word-end.result ≡ encoded_length p.message = c.get_word-end.ensures ∙ ap (λ l. word l 0) b ∙ length-there old p.message fits long in
    record {
      end_is = end;
      from_is = c.get_word-from.ensures ∙ ap (λ l. word l 4) b ∙ sender-there old p.message fits long;
      low = omega (arith, n.0, end);
      high = omega (arith, n.1, end, ap (λ l. length l) b);
      data_are = ap (λ l. take (c.get_word-end.result - 20) (drop 20 l)) b
          ∙ ap (λ k. take (k - 20) (drop 20 (with_part old 0 (encoded p.message)))) end ∙ bytes-there old p.message fits long;
    }

pub slice_bounds-data_of-count : goal.slice_bounds-data_of-count
slice_bounds-data_of-count g c =
    let l = c.requires.lies in
    let k = copied g (goal.at.slice_bounds-data_of-count g c).After-get_word-from l.0 l.1.0 l.1.1 in
    omega (arith, k.low, k.high)

pub slice_bounds-data_of-start : goal.slice_bounds-data_of-start
slice_bounds-data_of-start g c =
    let l = c.requires.lies in
    let k = copied g (goal.at.slice_bounds-data_of-start g c).After-get_word-from l.0 l.1.0 l.1.1 in
    omega (arith, k.low, k.high)

pub slice_bounds-data_of-end : goal.slice_bounds-data_of-end
slice_bounds-data_of-end g c =
    let l = c.requires.lies in
    let k = copied g (goal.at.slice_bounds-data_of-end g c).After-get_word-from l.0 l.1.0 l.1.1 in
    omega (arith, k.low, k.high)

pub returns : goal.returns
returns g c = λ link p w.
    let k = copied g (goal.at.returns g c).After-get_word-from link p w in
    ap (λ x. (x, c.data_of.result)) k.from_is ∙ ap (λ d. (p.message.from, d)) (c.data_of.ensures ∙ k.data_are)
