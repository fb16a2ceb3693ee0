use Rattle.vf_desk.proofs.Common.{◌≡◌, length, take, drop, min, sym, ap, ◌∙◌, arith, length-take-le, filled_front}
use Rattle.rh_script.specs.NamedSlots.{bytes_of_named}
use Rattle.rh_script.proofs.ReadLemmas.{answered_part, reads_part, size_read}
use Rattle.vf_desk.proofs.FillLaws.{filled-none}
use Rattle.vf_desk.proofs.ListLaws.{bytes-filled, no-shown-bytes, shown-bytes}
use Rattle.vf_desk.proofs.lists.list_bytes.Goals as goal

pub returns-in_default : goal.returns-in_default
returns-in_default c = rw (no-shown-bytes _ _ (size_read c.args.world.now.desk c.args.name.now c.args.anchor _ _ _ c.in_default.ensures).refused)
    (sym (filled-none c.args.to.now))

pub returns : goal.returns
returns c =
    let to = c.args.to.now in
    let count = c.min-count.result in
    let bytes = bytes_of_named c.args.name.now c.args.anchor c.args.world.now.desk in
    let size = size_read c.args.world.now.desk c.args.name.now c.args.anchor _ _ _ c.in-Ok.ensures in
    let of_size = size.size in
    let long : length (take count to) ≡ count = length-take-le count to (omega (arith, c.min-count.ensures)) in
    let read : c.show-read.new.to ≡ take (length (take count to)) (drop 0 bytes) =
    answered_part _ _ bytes (take count to) c.show-read.new.to 0 c.show-read.ensures
    (reads_part c.args.world.now.desk c.args.name.now c.args.anchor 0 (length (take count to))) (omega (arith, long, of_size, c.min-count.ensures)) in
    bytes-filled bytes to c.show-read.new.to count (c.min-count.ensures ∙ ap (min (length to)) of_size) (read ∙ ap (λ n. take n bytes) long)
    ∙ sym (ap (λ l. filled_front l to) (shown-bytes _ _ _ size.shown))
