use Rattle.rh_wimp.proofs.Common.{◌≡◌, ℕ, ◌+◌, ◌-◌, ◌≤◌, List, length, take, drop, true, sym, ap, subst, ◌∙◌, arith, IfSome, part}
use Rattle.rh_defs.specs.Pathnames.{is_pathname}
use Rattle.rh_defs.proofs.BytesLaws.{part-drop, length-part}
use Rattle.rh_defs.proofs.MessageLaws.{name_is}
use Rattle.rh_wimp.proofs.decoding.read_name.Goals as goal

cut : (b : List ℕ) (n : ℕ) → 44 + n ≤ length b → take (44 + n - 44) (drop 44 b) ≡ part b 44 n
cut b n l = ap (λ k. take k (drop 44 b)) (let e : 44 + n - 44 ≡ n = omega arith in e) ∙ sym (part-drop b 44 n l)

pub unwrap-requires : goal.unwrap-requires
unwrap-requires c =
    let e = cut c.args.bytes.now c.args.n c.requires.within in
    let l = length-part c.args.bytes.now 44 c.args.n in
    c.new.ensures.found.1 (subst (λ xs. is_pathname xs ≡ true) (sym e) (name_is (part c.args.bytes.now 44 c.args.n) (omega arith) c.requires.plain))

pub returns : goal.returns
returns c = subst (λ o. IfSome o (λ name. name ≡ take (44 + c.args.n - 44) (drop 44 c.args.bytes.now))) c.unwrap.ensures c.new.ensures.value
    ∙ cut c.args.bytes.now c.args.n c.requires.within
