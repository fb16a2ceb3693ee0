-- What a `&` to a block is made of: its two fields, which are plain words, the bound on its length, and its bytes. The right
-- to free the bytes stays behind until the `&` has ended.
use Rattle.rh_region.proofs.Common.{◌^◌, Ura, full_share, Fml, fsep, w8, Logic, Array, u8, lies_at, block_owns, Block}
use base.Fml.{flt}
use denote.Array.{Array-row_laws}
use denote.Param.Shared.{Sharables, copy_shared}
use denote.Plain.{uint_row_laws}
use denote.Shares.{Shares-Array}
use denote.Sharing.{ShrLaws, said}
use denote.SharingLaws.{beside_shr_laws, said_shr_laws}
use denote.Struct.Field.{RawPtr-field, usize-field, u8-field}
use denote.Struct.Laws.{RawPtr-copy, usize-copy, u8-copy}
use denote.Struct.Lending.{lent_at, lent_at_shr_laws, Lends, Lends-both, Lends-first, Lends-lies, Lends-said, of_Lends}
use Rattle.rh_region.specs.Ownership.{block_lent}
use Rattle.rh_region.specs.contracts.raw.Block as C
use Rattle.rh_region.proofs.HeapCalls.{right}
use Rattle.rh_region.proofs.raw.Block.TheLaw.Statement.{statement}

words : Sharables C.struct.parts
words = (copy_shared RawPtr-field RawPtr-copy, (copy_shared usize-field usize-copy, tt))

module _ (d : Block) where
  abbrev Small : Fml
  Small = flt d.len (2 ^ 63)

  abbrev Bytes : Fml
  Bytes = lies_at (Array u8 d.len) full_share d.start d.bytes

  -- what is lent can be copied and made shorter, as each of its two parts can
  lent_laws : ShrLaws (block_lent d.start d.len d.bytes)
  lent_laws = beside_shr_laws (said Small) (lent_at (Array u8 d.len) d.start d.bytes) (said_shr_laws Small tt)
      (lent_at_shr_laws (Array u8 d.len) (Array-row_laws u8 (uint_row_laws w8) d.len) d.start d.bytes)

  module _ {M : Type 1} {𝓤 : Ura M} (𝓛 : Logic 𝓤) where
    bytes_lent : Lends 𝓛 Bytes (lent_at (Array u8 d.len) d.start d.bytes) C.the_row.lives
    bytes_lent = Lends-lies 𝓛 (Array u8 d.len) C.the_row.lives d.start d.bytes
        (Shares-Array 𝓛 u8 tt d.len C.the_row.lives ((copy_shared u8-field u8-copy).shares M 𝓤 𝓛) d.bytes)

    block_is_lent : Lends 𝓛 (block_owns d.start d.len d.alloc d.bytes) (block_lent d.start d.len d.bytes) C.the_row.lives
    block_is_lent = Lends-both 𝓛 Small (fsep Bytes (right d.alloc d.len d.start)) (said Small) (lent_at (Array u8 d.len) d.start d.bytes) C.the_row.lives
        (Lends-said 𝓛 Small tt C.the_row.lives)
        (Lends-first 𝓛 Bytes (right d.alloc d.len d.start) (lent_at (Array u8 d.len) d.start d.bytes) C.the_row.lives bytes_lent)

pub shares : statement
shares = of_Lends C.struct C.the_codes C.the_heap C.the_lent (λ d p. lent_laws d) words (λ M 𝓤 𝓛 d p. block_is_lent d 𝓛)
