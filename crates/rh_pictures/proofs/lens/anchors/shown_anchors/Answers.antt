use Rattle.rh_pictures.proofs.Common.{◌≡◌, ◌≤◌, ◌∙◌, ◌++◌, ◌∷◌, ◌+◌, [], ap, sym, arith, length, scene_at}
use Rattle.rh_pictures.proofs.ShownAnchorLemmas.{among_below, below-none, below-some}
use Rattle.rh_pictures.proofs.lens.anchors.shown_anchors.Goals as goal
use Rattle.rh_pictures.proofs.lens.anchors.shown_anchors.Goals.{in-Some, in_default}

pub loop-k-preserved : goal.loop-k-preserved
loop-k-preserved c =
    let k = c.loop-k.k in
    let low = c.loop-k-test.true in
    record {
      items = λ d t named blocks.
          let x = scene_at d c.args.step.now in
          elim c.match-anchor_if_shown.branch [
            | in-Some w ↦ ap (λ v. v.items) w.anchors-is ∙ (w.push.ensures.items
                ∙ (ap (λ z. z ++ w.in-Some.anchor ∷ []) (c.loop-k.invariant.items d t named blocks)
                ∙ below-some x t k w.in-Some.anchor (sym w.in-Some.is ∙ c.anchor_if_shown.ensures d t named blocks) (omega (arith, low))))
            | in_default w ↦ ap (λ v. v.items) w.anchors-is ∙ (c.loop-k.invariant.items d t named blocks
                ∙ below-none x t k (sym w.in_default.is ∙ c.anchor_if_shown.ensures d t named blocks) (omega (arith, low)))
          ];
      few = elim c.match-anchor_if_shown.branch [
        | in-Some w ↦ omega (arith, ap (λ v. length v.items) w.anchors-is, w.push.ensures.len, c.loop-k.invariant.few)
        | in_default w ↦ omega (arith, ap (λ v. length v.items) w.anchors-is, c.loop-k.invariant.few)
      ];
    }

pub returns : goal.returns
returns c = λ d t named blocks.
    let past = c.loop-k-test.false in
    let all : c.loop-k.k ≡ 64 = omega (arith, past, c.loop-k.auto.k-end) in
    c.loop-k.invariant.items d t named blocks ∙ ap (among_below (scene_at d c.args.step.now) t) all
