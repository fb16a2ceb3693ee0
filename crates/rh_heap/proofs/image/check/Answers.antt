use Rattle.rh_heap.proofs.Common.{sym, BadLink}
use Rattle.rh_defs.specs.declared.heap.HeapFault.TheVariants.{BadDescriptor}
use Rattle.rh_defs.proofs.HeapFaults.{fault_of-descriptor}
use Rattle.rh_heap.proofs.CheckLaws.{refused, link_refused}
use Rattle.rh_heap.proofs.image.check.Goals as goal

pub returns-then-not-has_descriptor-clause-ok : goal.returns-then-not-has_descriptor-clause-ok
returns-then-not-has_descriptor-clause-ok c = refused _ BadDescriptor (fault_of-descriptor _ (sym c.if-not-has_descriptor.ensures))

pub returns-then-not-has_descriptor-clause-fault : goal.returns-then-not-has_descriptor-clause-fault
returns-then-not-has_descriptor-clause-fault c = sym (fault_of-descriptor _ (sym c.if-not-has_descriptor.ensures))

pub returns-then-not-is_link-clause-ok : goal.returns-then-not-is_link-clause-ok
returns-then-not-is_link-clause-ok c =
    refused _ BadLink (link_refused _ _ (sym c.if-not-has_descriptor.ensures) c.word_in-base.ensures.value (sym c.if-not-is_link.ensures))

pub returns-then-not-is_link-clause-fault : goal.returns-then-not-is_link-clause-fault
returns-then-not-is_link-clause-fault c =
    sym (link_refused _ _ (sym c.if-not-has_descriptor.ensures) c.word_in-base.ensures.value (sym c.if-not-is_link.ensures))
