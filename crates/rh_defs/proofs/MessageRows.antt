-- Worked messages: their bytes, what the bytes spell, and the segment of the module area that each one takes.
use Rattle.rh_defs.proofs.Common.{◌≡◌, refl, ℕ, List, [], ◌∷◌, codes, Ok, Err, slice_set, take, segment_size, word, part, encoded, parcel_size, DataSave}
use Rattle.rh_defs.proofs.Common.{DataSaveAck, RamFetch, RamTransmit, Message}
use Rattle.rh_defs.specs.MessageImage.{decoded}
use Rattle.rh_defs.specs.declared.message.FileData.{FileData}
use Rattle.rh_defs.specs.declared.message.MessageFault.TheVariants.{BadLength, BadAction}
use Rattle.rh_defs.specs.Inner.Computing.{computing_messages}

-- a file of this desk: no place, and type &FFD
abbrev pub file : ℕ → List ℕ → FileData
file size name = record { window = 0; icon = 0; x = 0; y = 0; size = size; file_type = 0xffd; name = name }

-- DataSave ref 1, 5 bytes, leafname doc
abbrev pub data_save : Message
data_save = record { from = 1; my_ref = 1; your_ref = 0; body = DataSave (file 5 (codes "doc")) }

abbrev pub data_save_image : List ℕ
data_save_image = 48 ∷ 0 ∷ 0 ∷ 0 ∷ 1 ∷ 0 ∷ 0 ∷ 0 ∷ 1 ∷ 0 ∷ 0 ∷ 0 ∷ 0 ∷ 0 ∷ 0 ∷ 0 ∷ 1 ∷ 0 ∷ 0 ∷ 0 ∷ 0 ∷ 0 ∷ 0 ∷ 0 ∷ 0 ∷ 0 ∷ 0 ∷ 0 ∷ 0 ∷ 0 ∷ 0 ∷ 0 ∷ 0 ∷ 0 ∷ 0
    ∷ 0 ∷ 5 ∷ 0 ∷ 0 ∷ 0 ∷ 253 ∷ 15 ∷ 0 ∷ 0 ∷ 100 ∷ 111 ∷ 99 ∷ 0 ∷ []

pub data_save_bytes : encoded data_save ≡ data_save_image
unfolding computing_messages
data_save_bytes = refl

pub data_save_spelled : decoded data_save_image ≡ Ok data_save
unfolding decoded word part
data_save_spelled = refl

pub data_save_segment : segment_size (parcel_size data_save) ≡ 64
unfolding computing_messages
data_save_segment = refl

-- RAMFetch ref 2 in answer to 1, 100 bytes at most
abbrev pub ram_fetch : Message
ram_fetch = record { from = 1; my_ref = 2; your_ref = 1; body = RamFetch 0x8114 100 }

abbrev pub ram_fetch_image : List ℕ
ram_fetch_image = 28 ∷ 0 ∷ 0 ∷ 0 ∷ 1 ∷ 0 ∷ 0 ∷ 0 ∷ 2 ∷ 0 ∷ 0 ∷ 0 ∷ 1 ∷ 0 ∷ 0 ∷ 0 ∷ 6 ∷ 0 ∷ 0 ∷ 0 ∷ 20 ∷ 129 ∷ 0 ∷ 0 ∷ 100 ∷ 0 ∷ 0 ∷ 0 ∷ []

pub ram_fetch_bytes : encoded ram_fetch ≡ ram_fetch_image
unfolding computing_messages
ram_fetch_bytes = refl

pub ram_fetch_spelled : decoded ram_fetch_image ≡ Ok ram_fetch
unfolding decoded word part
ram_fetch_spelled = refl

pub ram_fetch_segment : segment_size (parcel_size ram_fetch) ≡ 40
unfolding computing_messages
ram_fetch_segment = refl

-- RAMTransmit ref 3 in answer to 2, 5 bytes
abbrev pub ram_transmit : Message
ram_transmit = record { from = 1; my_ref = 3; your_ref = 2; body = RamTransmit 0x8114 5 }

abbrev pub ram_transmit_image : List ℕ
ram_transmit_image = 28 ∷ 0 ∷ 0 ∷ 0 ∷ 1 ∷ 0 ∷ 0 ∷ 0 ∷ 3 ∷ 0 ∷ 0 ∷ 0 ∷ 2 ∷ 0 ∷ 0 ∷ 0 ∷ 7 ∷ 0 ∷ 0 ∷ 0 ∷ 20 ∷ 129 ∷ 0 ∷ 0 ∷ 5 ∷ 0 ∷ 0 ∷ 0 ∷ []

pub ram_transmit_bytes : encoded ram_transmit ≡ ram_transmit_image
unfolding computing_messages
ram_transmit_bytes = refl

pub ram_transmit_spelled : decoded ram_transmit_image ≡ Ok ram_transmit
unfolding decoded word part
ram_transmit_spelled = refl

pub ram_transmit_segment : segment_size (parcel_size ram_transmit) ≡ 40
unfolding computing_messages
ram_transmit_segment = refl

-- DataSaveAck ref 3 in answer to 1: the file won't be safe
abbrev pub data_save_ack : Message
data_save_ack = record { from = 2; my_ref = 3; your_ref = 1; body = DataSaveAck (file 0xffffffff (codes "<Wimp$Scrap>")) }

abbrev pub data_save_ack_image : List ℕ
data_save_ack_image = 60 ∷ 0 ∷ 0 ∷ 0 ∷ 2 ∷ 0 ∷ 0 ∷ 0 ∷ 3 ∷ 0 ∷ 0 ∷ 0 ∷ 1 ∷ 0 ∷ 0 ∷ 0 ∷ 2 ∷ 0 ∷ 0 ∷ 0 ∷ 0 ∷ 0 ∷ 0 ∷ 0 ∷ 0 ∷ 0 ∷ 0 ∷ 0 ∷ 0 ∷ 0 ∷ 0 ∷ 0 ∷ 0 ∷ 0
    ∷ 0 ∷ 0 ∷ 255 ∷ 255 ∷ 255 ∷ 255 ∷ 253 ∷ 15 ∷ 0 ∷ 0 ∷ 60 ∷ 87 ∷ 105 ∷ 109 ∷ 112 ∷ 36 ∷ 83 ∷ 99 ∷ 114 ∷ 97 ∷ 112 ∷ 62 ∷ 0 ∷ 0 ∷ 0 ∷ 0 ∷ []

pub data_save_ack_bytes : encoded data_save_ack ≡ data_save_ack_image
unfolding computing_messages
data_save_ack_bytes = refl

pub data_save_ack_spelled : decoded data_save_ack_image ≡ Ok data_save_ack
unfolding decoded word part
data_save_ack_spelled = refl

pub data_save_ack_segment : segment_size (parcel_size data_save_ack) ≡ 72
unfolding computing_messages
data_save_ack_segment = refl

-- bytes of a DataSave with one of them changed
abbrev pub changed : ℕ → ℕ → List ℕ
changed at x = slice_set data_save_image at x

-- a length of 49, one of 44, no zero byte behind the name, another action, and a byte too few
pub odd_length : decoded (changed 0 49) ≡ Err BadLength
unfolding decoded word part
odd_length = refl

pub no_name : decoded (changed 0 44) ≡ Err BadLength
unfolding decoded word part
no_name = refl

pub unended_name : decoded (changed 47 1) ≡ Err BadLength
unfolding decoded word part
unended_name = refl

pub other_action : decoded (changed 16 5) ≡ Err BadAction
unfolding decoded word part
other_action = refl

pub byte_missing : decoded (take 47 data_save_image) ≡ Err BadLength
unfolding decoded word part
byte_missing = refl
