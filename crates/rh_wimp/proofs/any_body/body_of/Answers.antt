use Rattle.rh_wimp.proofs.Common.{◌≡◌, ℕ, ◌+◌, ◌-◌, ◌<◌, ◌^◌, length, replicate, refl, ap, ◌∙◌, arith, part, word, word_bytes, with_part}
use Rattle.rh_defs.specs.AnyMessage.{body_of}
use Rattle.rh_defs.proofs.BytesLaws.{length-put}
use Rattle.rh_defs.proofs.MessageLaws.{whole-fits}
use Rattle.rh_wimp.proofs.AnyLaws.{action-there, data-there}
use Rattle.rh_wimp.proofs.any_body.body_of.Goals as goal
use Rattle.rh_wimp.proofs.any_body.body_of.Goals.{After-put_bytes}

-- the block has its length still
long : (c : After-put_bytes) → length c.put_bytes.new.out ≡ 256
long c = ap length c.put_bytes.ensures ∙ length-put c.put_word.new.out 20 c.as_slice-bytes.result.now ∙ ap length c.put_word.ensures
    ∙ length-put (replicate 256 0) 16 (word_bytes c.args.action)

pub any_body-requires-clause-high : goal.any_body-requires-clause-high
any_body-requires-clause-high c =
    let l = long (goal.at.any_body-requires-clause-high c).After-put_bytes in
    let w = whole-fits c.args.given.now c.requires in
    omega (arith, l, w.1, ap length c.as_slice-bytes.ensures.value)

pub any_body-requires-clause-whole : goal.any_body-requires-clause-whole
any_body-requires-clause-whole c =
    let w = whole-fits c.args.given.now c.requires in omega (arith, w.0, w.1, ap length c.as_slice-bytes.ensures.value)

pub returns : goal.returns
returns c =
    let a = c.args.action in
    let d = c.as_slice-bytes.result.now in
    let end : ℕ = 20 + length d in
    let w = whole-fits c.args.given.now c.requires in
    let few : a < 2 ^ 32 = omega arith in
    let there : word c.put_bytes.new.out 16 ≡ a =
    ap (λ b. word b 16) c.put_bytes.ensures ∙ ap (λ b. word (with_part b 20 d) 16) c.put_word.ensures ∙ action-there (replicate 256 0) a d refl few in
    let fits = ap length c.put_word.ensures ∙ length-put (replicate 256 0) 16 (word_bytes a) in
    let said : part c.put_bytes.new.out 20 (end - 20) ≡ c.args.given.now =
    ap (λ b. part b 20 (end - 20)) c.put_bytes.ensures
    ∙ data-there c.put_word.new.out d end refl (omega (arith, fits, w.1, ap length c.as_slice-bytes.ensures.value)) ∙ c.as_slice-bytes.ensures.value in
    c.any_body.ensures ∙ ap (λ n. body_of n (part c.put_bytes.new.out 20 (end - 20))) there ∙ ap (body_of a) said
