use Rattle.rh_pictures.proofs.Common.{List, ℕ, refl, subst, sym, IsTrue, Command, Reply, Desk, IsReordered, step, reply_to, Excerpts}
use Rattle.rh_defs.specs.declared.reply.Reply.TheVariants.{Done}
use Rattle.rh_defs.specs.Range.{in_range}
use Rattle.rh_defs.proofs.QuestionLaws.{asked-stays, question-text}
use Rattle.rh_session.proofs.RunLemmas.{command_text}
use Rattle.rh_pictures.specs.Deeds.{IsLikeReply}
use Rattle.rh_map.specs.Replies.{front_of}
use Rattle.rh_pictures.proofs.deeds.answer.Goals as goal

pub returns-in-Ask-clause-desk : goal.returns-in-Ask-clause-desk
returns-in-Ask-clause-desk g c =
    let d = g.D.Sight.desk c.args.drawn.now in
    let P : Command → Type 0 = λ z. IsReordered (step d z).0 d in
    let Q : Desk → Type 0 = λ z. IsReordered z d in
    subst P (sym c.in-Ask.is) (subst Q (sym (asked-stays d _)) (record { same = record { each = λ h. refl }; rest = refl }))

pub returns-in-Ask-clause-reply : goal.returns-in-Ask-clause-reply
returns-in-Ask-clause-reply g c =
    let d = g.D.Sight.desk c.args.drawn.now in
    let P : Command → Type 0 = λ z. IsLikeReply d z Done in
    subst P (sym c.in-Ask.is) (record { still = refl; marks = λ after b. refl })

pub excerpt_answer-count-requires : goal.excerpt_answer-count-requires
unfolding in_range
excerpt_answer-count-requires g c =
    let P : Command → Type 0 = λ z. IsTrue (in_range z) in
    subst P c.in-Ask.is c.requires.in_range

pub returns-in-Ask-clause-excerpt : goal.returns-in-Ask-clause-excerpt
unfolding in_range
returns-in-Ask-clause-excerpt g c =
    let d = g.D.Sight.desk c.args.drawn.now in
    let front = front_of c.excerpt_answer-count.new.front in
    let count = c.excerpt_answer-count.result in
    let R : Command → Type 0 = λ z. IsTrue (in_range z) in
    let P : Command → Type 0 = λ z. Excerpts front count (reply_to d z) in
    let Q : List ℕ → Type 0 = λ z. Excerpts front count z in
    subst P (sym c.in-Ask.is) (subst Q (sym (question-text d _ (subst R c.in-Ask.is c.requires.in_range))) c.excerpt_answer-count.ensures)

pub returns-clause-reply : goal.returns-clause-reply
returns-clause-reply g c =
    let d = g.D.Sight.desk c.args.drawn.now in
    let P : Reply → Type 0 = λ z. IsLikeReply d c.args.command.now z in
    subst P (sym (c.apply-reply.ensures.reply d (g.met.D.Drawn.seen c.args.drawn.now))) (record { still = refl; marks = λ after b. refl })

pub returns-clause-excerpt : goal.returns-clause-excerpt
returns-clause-excerpt g c =
    let d = g.D.Sight.desk c.args.drawn.now in
    let seen = g.met.D.Drawn.seen c.args.drawn.now in
    let said = command_text d c.args.command.now c.apply-reply.result c.handed-handed.result c.in_default.not-Ask
    (c.apply-reply.ensures.reply d seen) (c.handed-handed.ensures d seen) in
    let Q : List ℕ → Type 0 = λ z. Excerpts (front_of c.excerpt_reply-count.new.front) c.excerpt_reply-count.result z in
    subst Q said c.excerpt_reply-count.ensures
