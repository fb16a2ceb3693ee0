use Rattle.rh_map.proofs.Common.{append_assoc, append-nil}
use Rattle.rh_map.proofs.effects.bytes_copied.Goals as goal

pub returns-clause-value : goal.returns-clause-value
returns-clause-value c = simp (
  c.add_who.ensures.value,
  c.text-5.ensures,
  c.address-2.ensures.value,
  c.text-4.ensures,
  c.text-3.ensures,
  c.as_bytes.ensures.value,
  c.text-2.ensures,
  c.address.ensures.value,
  c.text.ensures,
  c.add_size.ensures.value,
  c.new-row.ensures,
  append_assoc,
  append-nil,
)
