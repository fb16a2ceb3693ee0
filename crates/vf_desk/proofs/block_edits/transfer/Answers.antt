use Rattle.vf_desk.proofs.BlockEditLaws.{edits-moved, edits-unmoved}
use Rattle.vf_desk.proofs.block_edits.transfer.Goals as goal

pub returns-in-Ok : goal.returns-in-Ok
returns-in-Ok c =
    edits-moved c.args.from c.args.address c.args.to c.args.address2 c.args.n (rw c.in-Ok.is at c.transfer_block.ensures.moves)

pub returns-in-Err : goal.returns-in-Err
returns-in-Err c =
    let not = rw c.in-Err.is at c.transfer_block.ensures.moves in
    edits-unmoved c.args.from c.args.address c.args.to c.args.address2 c.args.n c.in-Err.refusal not.0 not.1
