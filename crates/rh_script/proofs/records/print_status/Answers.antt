use Rattle.rh_script.proofs.Common.{◌≡◌, ℕ, List, ◌++◌, Ok, Err, refl, sym, ap, map, codes, in_item, out_item}
use Rattle.rh_defs.specs.declared.question.Numbers.TheVariants as numbers
use Rattle.rh_defs.specs.declared.refusal.Refusal.{Refusal}
use Rattle.rh_defs.specs.declared.reply.Reply.TheVariants as reply
use Rattle.rh_defs.specs.declared.transfer.Incoming.{Incoming}
use Rattle.rh_defs.specs.declared.transfer.Outgoing.{Outgoing}
use Rattle.rh_defs.specs.Chain.{Granted, ◌>>=◌}
use Rattle.rh_defs.specs.Desk.{Desk, Task, named}
use Rattle.rh_defs.specs.Questions.{Nothing, Records, status, status_at}
use Rattle.rh_defs.specs.Text.{answer_text, first_line, later_lines, record_lines}
use Rattle.rh_script.proofs.PrintLemmas.{ok_same, refused_alike, refused_text}
use Rattle.rh_script.proofs.records.print_status.Goals as goal

told_text : (g : Granted Task) (h : ℕ) (out : List Outgoing) (taken : List Incoming)
    → (g >>= λ t. (let r : Granted (ℕ × List Outgoing × List Incoming) = Ok (t.handle, t.sending, t.taking) in r)) ≡ Ok (h, out, taken)
    → first_line (reply.Answered (numbers.StatusOf h)) Nothing
    ++ (record_lines (codes "out") (map out_item out) ++ record_lines (codes "in") (map in_item taken))
    ≡ answer_text (g >>= λ t. Ok (numbers.StatusOf t.handle, Records (map out_item t.sending) (map in_item t.taking)))
unfolding ◌>>=◌ answer_text first_line later_lines
told_text (Ok t) h out taken e =
    let same : ◌≡◌ {A = ℕ × List Outgoing × List Incoming} (t.handle, t.sending, t.taking) (h, out, taken) = ok_same e in
    let handle : h ≡ t.handle = ap (λ (p : ℕ × List Outgoing × List Incoming). p.0) (sym same) in
    let outs : out ≡ t.sending = ap (λ (p : ℕ × List Outgoing × List Incoming). p.1) (sym same) in
    let ins : taken ≡ t.taking = ap (λ (p : ℕ × List Outgoing × List Incoming). p.2) (sym same) in
    rw (handle, outs, ins) refl
told_text (Err r) h out taken e = absurd (cc)

module _ (d : Desk) (name : List ℕ) where
  status_text : (h : ℕ) (out : List Outgoing) (taken : List Incoming) → status_at d name ≡ Ok (h, out, taken)
      → first_line (reply.Answered (numbers.StatusOf h)) Nothing ++ (record_lines (codes "out") (map out_item out)
      ++ record_lines (codes "in") (map in_item taken)) ≡ answer_text (status d name)
  unfolding status_at status
  status_text h out taken e = told_text (named name d) h out taken e

  status_refused : (refusal : Refusal) → status_at d name ≡ Err refusal → status d name ≡ Err refusal
  unfolding status_at status
  status_refused refusal e = refused_alike (named name d) _ _ refusal e

pub returns-in-Ok : goal.returns-in-Ok
returns-in-Ok g c =
    rw (← status_text c.args.world.now.desk c.args.name.now c.in-Ok.records.0 c.in-Ok.records.1.now c.in-Ok.records.2.now c.in-Ok.ensures.ok)
    c.print_records.ensures

pub returns-in-Err : goal.returns-in-Err
returns-in-Err g c =
    rw (← refused_text _ _ (status_refused c.args.world.now.desk c.args.name.now _ c.in-Err.ensures.err)) c.put_first_line.ensures
