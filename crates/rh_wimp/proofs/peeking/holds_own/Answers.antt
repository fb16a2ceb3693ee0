use Rattle.rh_wimp.proofs.Common.{eqb, sym, ap, ◌∙◌, arith, ◌==◌, Parcel, padded, block_bytes, holds_such, has-less, from_read, module_heap_in}
use Rattle.rh_wimp.proofs.AnswerLaws.{held-has}
use Rattle.rh_wimp.proofs.ItemLaws.{nothing-held}
use Rattle.rh_wimp.proofs.SearchLaws.{held-some}
use Rattle.rh_wimp.proofs.peeking.holds_own.Goals as goal

pub returns-then-held-eq0 : goal.returns-then-held-eq0
returns-then-held-eq0 g c = λ o s.
    sym (ap (holds_such (λ (p : Parcel). p.message.from == c.args.handle))
    (nothing-held (module_heap_in (g.S.Words.memory c.args.store.now) c.args.module_area) o c.args.held s c.if-held-eq0.true))

pub read_word-requires-clause-block : goal.read_word-requires-clause-block
read_word-requires-clause-block g c =
    let h = module_heap_in (g.S.Words.memory c.args.store.now) c.args.module_area in
    let r = c.requires.held in
    has-less c.args.held 24 16 h (omega arith) (held-has h c.args.held r.0 r.1 c.if-held-eq0.false)

pub returns : goal.returns
returns g c = λ o s.
    let h = module_heap_in (g.S.Words.memory c.args.store.now) c.args.module_area in
    let w = held-some h c.args.held o s c.if-held-eq0.false in
    c.eq.ensures
    ∙ ap (λ n. eqb n c.args.handle) (c.read_word.ensures (padded 0 w.parcel) (ap (λ a. block_bytes a h) w.block ∙ w.lies.block)
    ∙ from_read 0 w.parcel (omega arith) w.lies.fits) ∙ sym (ap (holds_such (λ (p : Parcel). p.message.from == c.args.handle)) w.is)
