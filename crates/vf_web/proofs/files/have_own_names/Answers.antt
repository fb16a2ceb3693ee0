use Rattle.std.proofs.Common.{IfSome, false, ◌≡◌, arith, refl, Option, Some, None, sym, ◌∙◌}
use Rattle.rh_defs.specs.Files.{FileList}
use Rattle.vf_web.specs.Packed.{are_apart, packed_files}
use Rattle.vf_web.proofs.Listed.{apart-next, apart-none, is_some-front, listed-end}
use Rattle.vf_web.proofs.files.have_own_names.Goals as goal

pub find-requires : goal.find-requires
find-requires c = let i = c.loop-front.invariant in grind (arith, is_some-front)

pub returns-then-is_some : goal.returns-then-is_some
returns-then-is_some c =
    each (packed_files c.args.bytes.now) (λ files. false ≡ are_apart files) (λ files l.
    let i = c.loop-front.invariant files l in
    let e = apart-none _ _ _ i.0 i.1 (sym c.in-Some.ensures.value) (λ x h. grind arith) in
    sym (i.2 ∙ e))
  where
    each : (o : Option FileList) (P : FileList → Type 0) → ((x : FileList) → o ≡ Some x → P x) → IfSome o P
    each None P h = tt
    each (Some x) P h = h x refl

pub loop-front-preserved : goal.loop-front-preserved
loop-front-preserved c = λ files l.
    let i = c.loop-front.invariant files l in
    let n = apart-next _ _ _ i.0 i.1 (sym c.in-Some.ensures.value) (λ x h. grind arith) in
    (n.0, n.1, i.2 ∙ n.2)

pub returns : goal.returns
returns c = grind (arith, listed-end)
