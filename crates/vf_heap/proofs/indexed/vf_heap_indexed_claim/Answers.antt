use Rattle.std.proofs.Common.{sym, ap}
use Rattle.rh_defs.specs.Heap.{claim_block}
use Rattle.rh_defs.specs.HeapImage.{heap_of}
use Rattle.rh_defs.specs.declared.heap.HeapRefusal.TheVariants.{NoRoom}
use Rattle.vf_heap.specs.HeapStatus.{status_of, number_or}
use Rattle.vf_heap.proofs.Claims.{claim_beyond, refused}
use Rattle.vf_heap.proofs.Maps.{stays}
use Rattle.vf_heap.proofs.indexed.vf_heap_indexed_claim.Goals as goal

pub returns-in-Ok-clause-refused : goal.returns-in-Ok-clause-refused
returns-in-Ok-clause-refused c = stays _ _ _ _ c.claim.ensures.same c.give_number.ensures.status

pub returns-in-Err-clause-status : goal.returns-in-Err-clause-status
returns-in-Err-clause-status c =
    sym (ap status_of (claim_beyond c.args.memory.now c.args.n c.requires.heap c.in-Err.ensures))

pub returns-in-Err-clause-address : goal.returns-in-Err-clause-address
returns-in-Err-clause-address c =
    let full = claim_beyond c.args.memory.now c.args.n c.requires.heap c.in-Err.ensures in
    sym (ap (λ granted. number_or granted c.args.address.now) full)

pub returns-in-Err-clause-left : goal.returns-in-Err-clause-left
returns-in-Err-clause-left c =
    let full = claim_beyond c.args.memory.now c.args.n c.requires.heap c.in-Err.ensures in
    refused c.args.memory.now NoRoom (claim_block c.args.n (heap_of c.args.memory.now 0)) full c.requires.heap
