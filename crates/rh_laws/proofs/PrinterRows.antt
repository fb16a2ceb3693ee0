-- Printed lines, worked; and what a printer must not do.
use Rattle.rh_laws.proofs.Common.{◌≡◌, true, false, [], ◌∷◌, refl, pos, negsuc, Some, Ok, Err, codes, digits, line_means, in_range, address}
use Rattle.std.specs.List.{repeat}
use Rattle.hex.specs.Hex.{encode_with}
use Rattle.rh_defs.specs.declared.command.Command.TheVariants as command
use Rattle.rh_defs.specs.declared.command.Manner.TheVariants as manner
use Rattle.rh_defs.specs.declared.fault.LineFault.TheVariants.{Word}
use Rattle.rh_defs.specs.Inner.Computing.{computing_line}
use Rattle.rh_laws.specs.Printer.{command_words, line_of, fits_a_line, has_sizes, can_be_spelled}

-- ---- lines

sender : line_of (command.Task (codes "edit") 4096 manner.File) ≡ codes "task edit 4096 file"
unfolding command_words digits
sender = refl

cut : line_of (command.Mid (codes "edit") 3 200 (negsuc 99)) ≡ codes "mid edit 3 200 -100"
unfolding command_words digits
cut = refl

written : line_of (command.Put (codes "a") 0 16 (0 ∷ 10 ∷ 255 ∷ [])) ≡ codes "put a 0 16 000aff"
unfolding command_words digits encode_with
written = refl

released : line_of (command.Release (codes "a") 4108) ≡ codes "release a &100C"
unfolding command_words digits address
released = refl

given_up : line_of (command.CancelIn (codes "b") (Some 7)) ≡ codes "cancel b in 7"
unfolding command_words digits
given_up = refl

module_block : line_of (command.RmaResize 20 (pos 8)) ≡ codes "rma resize &14 8"
unfolding command_words digits address
module_block = refl

-- ---- what fits

-- 507 bytes are the most that a line has room for
most : can_be_spelled (command.Put (codes "a") 0 0 (repeat 507 (1 ∷ []))) ≡ true
unfolding in_range has_sizes command_words digits encode_with
most = refl

too_many : fits_a_line (command.Put (codes "a") 0 0 (repeat 508 (1 ∷ []))) ≡ false
unfolding command_words digits encode_with
too_many = refl

-- ---- wrong printers

-- an address without its `&` isn't read
bare_address : line_means (codes "release a 100C") ≡ Err (Word 3)
unfolding computing_line
bare_address = refl

-- nor is 0 with a sign the shortest word for 0
signed_zero : line_means (codes "area 1 -0") ≡ Ok (Some (command.Area 1 (pos 0)))
unfolding computing_line
signed_zero = refl

-- a manner that is printed for each task is one word too many
plain_task : line_means (codes "task a 100 plain") ≡ Err (Word 4)
unfolding computing_line
plain_task = refl
