use Rattle.rh_wimp.proofs.Common.{◌<◌, length, refl, sym, ap, subst, ◌∙◌, Chains, ArePostChains, entry_at, Entry}
use Rattle.rh_wimp.proofs.AnswerLaws.{read_entry}
use Rattle.rh_wimp.proofs.PollLaws.{holds-one}
use Rattle.rh_wimp.proofs.queue.Queue.lift_held.Goals as goal

pub overflow_sub-self : goal.overflow_sub-self
overflow_sub-self c =
    let q : Chains = record { entries = c.self.inside.entries.items; live = c.self.inside.live; next_ref = c.self.inside.next_ref } in
    let h = c.requires.post.0 in
    let post = c.requires.post.1.0 in
    let s : ArePostChains h q post = subst (λ (k : Chains). ArePostChains h k post) (sym c.self.view_is) c.requires.post.1.1 in
    let l : c.args.at < length q.entries = subst (λ (k : Chains). c.args.at < length k.entries) (sym c.self.view_is) c.requires.within in
    let is = read_entry q.entries c.args.at c.index-entry.result.now l c.index-entry.ensures in
    (holds-one h q post (entry_at q.entries c.args.at).handle c.args.at s l refl (λ z. c.if-entry-eq0.false (ap (λ (e : Entry). e.held) is ∙ z))).live
