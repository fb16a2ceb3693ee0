use Rattle.rh_wimp.proofs.Common.{◌≡◌, ℕ, refl, sym, ap, subst, ◌∙◌, arith, Option, Some, IsSome, Parcel, code_number, padded, EventCode, has-less, code_read}
use Rattle.rh_wimp.proofs.Common.{module_heap_in, LinksAt}
use Rattle.rh_defs.specs.Messages.{code_at}
use Rattle.rh_defs.specs.declared.message.EventCode.TheVariants.{User, Recorded, Acknowledge}
use Rattle.rh_wimp.proofs.ItemLaws.{links-bytes, links-has}
use Rattle.rh_wimp.proofs.reading.code_in.Goals as goal
use Rattle.rh_wimp.proofs.reading.code_in.Goals.{After-from_number}
use Rattle.rh_wimp.proofs.reading.code_in.Given as given

pub read_word-requires-clause-block : goal.read_word-requires-clause-block
read_word-requires-clause-block g c =
    let m = g.S.Words.memory c.args.store.now in
    has-less c.args.block 28 8 (module_heap_in m c.args.module_area) (omega arith) (links-has c.requires.lies.1.1)

known : (code : EventCode) → code_at (code_number code) ≡ Some code
known User = refl
known Recorded = refl
known Acknowledge = refl

-- the code that is read
found : (g : given.Over) (c : After-from_number g) (link : ℕ) (p : Parcel) → LinksAt (g.S.Words.memory c.args.store.now) c.args.module_area c.args.block link p
    → c.from_number.result ≡ Some p.code
found g c link p w =
    c.from_number.ensures ∙ ap code_at (c.read_word.ensures (padded link p) (links-bytes w) ∙ code_read link p w.small w.lies.fits) ∙ known p.code

pub unwrap-requires : goal.unwrap-requires
unwrap-requires g c =
    let l = c.requires.lies in
    subst IsSome (sym (found g (goal.at.unwrap-requires g c).After-from_number l.0 l.1.0 l.1.1)) refl

pub returns : goal.returns
returns g c = λ link p w.
    let e : ◌≡◌ {A = Option EventCode} (Some c.unwrap.result) (Some p.code) = sym c.unwrap.ensures ∙ found g (goal.at.returns g c).After-from_number link p w in
    cc
