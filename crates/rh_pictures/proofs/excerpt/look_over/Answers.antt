use Rattle.rh_pictures.proofs.Common.{ap, arith, length, slice_get_within}
use Rattle.rh_pictures.proofs.AnswerLemmas.{small-all, small-more}
use Rattle.rh_pictures.proofs.excerpt.look_over.Goals as goal

pub overflow_add-i : goal.overflow_add-i
overflow_add-i g c =
    let s = c.in-Some.ensures.some in
    omega (arith, c.in-Some.ensures.few, slice_get_within (g.S.Sight.desk c.args.sight.now).tasks c.tasks.i s.0 s.1)

pub tasks-smaller : goal.tasks-smaller
tasks-smaller g c =
    let s = c.in-Some.ensures.some in
    omega (arith, slice_get_within (g.S.Sight.desk c.args.sight.now).tasks c.tasks.i s.0 s.1)

pub tasks-preserved : goal.tasks-preserved
tasks-preserved g c =
    let s = c.in-Some.ensures.some in
    let few = c.in-Some.ensures.records in
    let short = c.as_bytes-name.ensures.short in
    small-more (g.S.Sight.desk c.args.sight.now).tasks c.tasks.i s.0 c.tasks.invariant s.1 (record {
      name = omega (arith, ap length c.as_bytes-name.ensures.value, ap length s.2.name);
      sending = omega (arith, few.0, ap length s.2.sending);
      taking = omega (arith, few.1, ap length s.2.taking);
    })

pub returns : goal.returns
returns g c = record {
  few = c.in_default.ensures.few;
  each = small-all (g.S.Sight.desk c.args.sight.now).tasks c.tasks.i c.tasks.invariant c.in_default.ensures.none;
}
