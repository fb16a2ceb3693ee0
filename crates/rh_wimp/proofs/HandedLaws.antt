-- A message at the start of a lent block: its length, its sender and its data.
use Rattle.rh_wimp.proofs.Common.{◌≡◌, ℕ, ◌-◌, ◌≤◌, List, length, take, drop, sym, ap, ◌∙◌, arith, word, part, with_part, encoded, encoded_length, encoded-most}
use Rattle.rh_wimp.proofs.Common.{length-encoded, Message}
use Rattle.rh_defs.specs.AnyMessage.{data_bytes}
use Rattle.rh_defs.specs.Messages.{Fits}
use Rattle.rh_defs.proofs.AnyMessageLaws.{rest-is}
use Rattle.rh_defs.proofs.BytesLaws.{length-put, part-drop, part-part, part-put, word-part}
use Rattle.rh_defs.proofs.MessageLaws.{encoded-words}

module _ (b : List ℕ) (m : Message) (f : Fits m) (long : length b ≡ 256) where
  abbrev there : List ℕ
  there = with_part b 0 (encoded m)

  least : 20 ≤ encoded_length m
  least = (encoded-most m f.name).0

  most : encoded_length m ≤ 256
  most = (encoded-most m f.name).1

  front : part there 0 (encoded_length m) ≡ encoded m
  front = part-put b 0 (encoded m) (encoded_length m) (sym (length-encoded m)) (omega (arith, most, long))

  pub length-there : word there 0 ≡ encoded_length m
  length-there = sym (word-part there 0 (encoded_length m) 0 (omega (arith, least))) ∙ ap (λ l. word l 0) front ∙ (encoded-words m f).0

  pub sender-there : word there 4 ≡ m.from
  sender-there = sym (word-part there 0 (encoded_length m) 4 (omega (arith, least))) ∙ ap (λ l. word l 4) front ∙ (encoded-words m f).1.0

  pub bounds-there : (20 ≤ encoded_length m) × (encoded_length m ≤ length there)
  bounds-there = (least, omega (arith, most, long, length-put b 0 (encoded m)))

  pub bytes-there : take (encoded_length m - 20) (drop 20 there) ≡ data_bytes m.body
  bytes-there =
      sym (part-drop there 20 (encoded_length m - 20) (omega (arith, least, bounds-there.1)))
      ∙ sym (part-part there 0 (encoded_length m) 20 (encoded_length m - 20) (omega (arith, least)))
      ∙ ap (λ l. part l 20 (encoded_length m - 20)) front ∙ rest-is m
