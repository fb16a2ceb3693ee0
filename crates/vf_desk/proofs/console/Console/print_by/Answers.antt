use Rattle.std.proofs.Common.{◌≡◌, ◌≤◌, arith, length, subst, take}
use Rattle.vf_desk.specs.Console.{Prints}
use Rattle.vf_desk.specs.Said.{said_text}
use Rattle.vf_desk.proofs.PrintLaws.{filled-whole, held-text, prints-some}
use Rattle.vf_desk.proofs.console.Console.print_by.Goals as goal

pub returns-then-length-held : goal.returns-then-length-held
returns-then-length-held c = λ d seen.
    let text = said_text d c.args.self.now.said in
    let long = c.put_text-length.ensures.length d seen in
    let same = c.put_text-length.auto.to in
    let all : c.put_text-length.result ≡ length text = omega (arith, long, same, c.if-length-held.true) in
    let room : length text ≤ length c.args.held.now = omega (arith, all, same, c.if-length-held.true) in
    let is : take c.put_text-length.result c.put_text-length.new.to ≡ text = held-text c.args.held.now (c.put_text-length.ensures.bytes d seen) all room in
    subst (λ t. Prints t c.args.to.now c.put_whole.new.to c.put_whole.result) is c.put_whole.ensures

pub returns : goal.returns
returns c = λ d seen.
    let text = said_text d c.args.self.now.said in
    let long = c.put_text-length.ensures.length d seen in
    let fit : length text ≤ length c.args.to.now = omega (arith, long, c.if-length-to.false) in
    prints-some fit (filled-whole text c.args.to.now fit) (c.put_text.ensures.bytes d seen) (omega (arith, fit, c.put_text.ensures.length d seen))
