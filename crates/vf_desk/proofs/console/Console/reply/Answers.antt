use Rattle.vf_desk.proofs.SaidLaws.{answers-quiet}
use Rattle.vf_desk.proofs.console.Console.reply.Goals as goal

pub returns-clause-desk : goal.returns-clause-desk
returns-clause-desk c = λ d seen. (c.apply-reply.ensures.steps d seen).1

pub returns-clause-text : goal.returns-clause-text
returns-clause-text c =
    (answers-quiet c.args.self.now.world.desk c.apply-reply.new.self.desk c.args.self.now.command c.apply-reply.result c.requires.command
    c.apply-reply.ensures.steps c.requires.quiet).text
