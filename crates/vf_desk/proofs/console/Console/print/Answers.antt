use Rattle.std.proofs.Common.{subst}
use Rattle.vf_desk.specs.Console.{Prints}
use Rattle.vf_desk.proofs.console.Console.print.Goals as goal

pub returns-in-Some : goal.returns-in-Some
returns-in-Some c = λ d seen. subst (λ t. Prints t c.args.to.now c.put_whole.new.to c.put_whole.result) (c.in-Some.ensures d) c.put_whole.ensures
