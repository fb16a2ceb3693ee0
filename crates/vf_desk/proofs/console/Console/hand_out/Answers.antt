use Rattle.vf_desk.proofs.SaidLaws.{answers-command}
use Rattle.vf_desk.proofs.console.Console.hand_out.Goals as goal

pub returns-clause-desk : goal.returns-clause-desk
returns-clause-desk c = λ d seen. (c.apply-reply.ensures.steps d seen).1

pub returns-clause-text : goal.returns-clause-text
returns-clause-text c =
    (answers-command c.args.self.now.world.desk c.apply-reply.new.self.desk c.args.self.now.command c.apply-reply.result c.handed-handed.result
    c.said_of-self.result c.requires.command c.apply-reply.ensures.steps c.handed-handed.ensures c.said_of-self.ensures).text
