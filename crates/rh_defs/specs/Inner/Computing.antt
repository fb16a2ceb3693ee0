-- What opens the definitions of whole files, for a proof that computes with them. Nothing here is to be believed.
use Rattle.rh_defs.specs.Chain.{◌>>=◌, ◌>>◌, refuse_if, found_or, or_else}
use Rattle.rh_defs.specs.Bytes.{word, part, word_bytes, with_part}
use Rattle.rh_defs.specs.Slot.{slot_begin, slot_alloc, slot_block, slot_size, slot_address, slot_free, slot_extend, slot_mid, slot_put, slot_read, slot_claim, slot_release, slot_resize, slot_take_pages}
use Rattle.rh_defs.specs.Module.{module_claim, module_free, module_resize, module_change, module_need_pages}
use Rattle.rh_defs.specs.Messages.{body_bytes, encoded, parcel_bytes, padded}
use Rattle.rh_defs.specs.Post.{post_is_message, post_is_live, post_join, sendable, post_send, post_send_pages, post_poll, post_death}
use Rattle.rh_defs.specs.Desk.{named, idle_block, idle_buffer, with_task, with_delivered, send_letter}
use Rattle.rh_defs.specs.Sender.{offer, cancel_sending}
use Rattle.rh_defs.specs.Receiver.{cancel_taking}
use Rattle.rh_defs.specs.OutgoingEvents.{transmit, save_scrap, send_with, perform_send, fail_sending}
use Rattle.rh_defs.specs.IncomingEvents.{taking_ended, appended, accept, fetch_more, took, append, ask, loaded, load_file, take_with, perform_take, ack_back}
use Rattle.rh_defs.specs.Transfer.{delivered, bounced_to, handled}
use Rattle.rh_defs.specs.MessageImage.{decoded}
use Rattle.rh_defs.specs.AnyMessage.{any_decoded}
use Rattle.rh_defs.specs.RawCommands.{send, ack, write, transfer, spool, scrap}
use Rattle.rh_defs.specs.Questions.{show, read, blocks, heap, status, blocks_at, heap_at, status_at, shown_at}
use Rattle.rh_defs.specs.Commands.{start_task, kill, alloc, load, put, free, extend, mid, claim, release, resize, budge, pages_after, change_module, change_pages, change_made, make, remove, own_block, rma_claim, rma_free, rma_resize, save, repeat, poll_taken, poll, cancel_in, cancel_out}
use Rattle.rh_defs.specs.Forms.{is_decimal}
use Rattle.rh_defs.specs.Grammar.{rows}
use Rattle.rh_defs.specs.Line.{name_at, number_at, bytes_read_at, delta_at, is_address, address_at, leaf_at, choice_at, data_read_at, choices_at, command_by, line_means}
use Rattle.rh_defs.specs.Text.{address, fault_text, first_line, later_lines, answer_text, reply_text}
use Rattle.std.specs.Fmt.{digits}

-- opens the steps of calls
unfoldable pub computing_chain : Unit {0}
unfolding ◌>>=◌ ◌>>◌ refuse_if found_or or_else
computing_chain = tt

-- opens slots
unfoldable pub computing_slot : Unit {0}
unfolding slot_begin slot_alloc slot_block slot_size slot_address slot_free slot_extend slot_mid slot_put slot_read
    slot_claim slot_release slot_resize slot_take_pages
computing_slot = tt

-- opens the module area
unfoldable pub computing_module : Unit {0}
unfolding module_claim module_free module_resize module_change module_need_pages
computing_module = tt

-- opens messages and their bytes
unfoldable pub computing_messages : Unit {0}
unfolding word part word_bytes body_bytes encoded parcel_bytes padded decoded any_decoded
computing_messages = tt

-- opens the post
unfoldable pub computing_post : Unit {0}
unfolding post_is_message post_is_live post_join sendable post_send post_send_pages post_poll post_death
computing_post = tt

-- opens desks
unfoldable pub computing_desk : Unit {0}
unfolding named idle_block idle_buffer with_task with_delivered send_letter
computing_desk = tt

-- opens transfers
unfoldable pub computing_transfers : Unit {0}
unfolding offer cancel_sending cancel_taking transmit save_scrap send_with perform_send fail_sending taking_ended
    appended accept fetch_more took append ask loaded load_file take_with perform_take ack_back delivered bounced_to
    handled
computing_transfers = tt

-- opens commands and questions
unfoldable pub computing_commands : Unit {0}
unfolding start_task kill alloc load put free extend mid claim release resize budge pages_after change_module
    change_pages change_made make remove own_block rma_claim rma_free rma_resize save repeat poll_taken poll cancel_in
    cancel_out send ack write transfer spool scrap show read blocks heap status blocks_at heap_at status_at shown_at
computing_commands = tt

-- opens all that a run computes with
unfoldable pub computing_runs : Unit {0}
unfolding computing_chain computing_slot computing_module with_part computing_messages computing_post computing_desk
    computing_transfers computing_commands
computing_runs = tt

-- opens the meaning of a line
unfoldable pub computing_line : Unit {0}
unfolding is_decimal name_at number_at bytes_read_at delta_at is_address address_at leaf_at choice_at data_read_at
    choices_at rows command_by line_means ◌>>=◌
computing_line = tt

-- opens the text of a reply
unfoldable pub computing_text : Unit {0}
unfolding digits address fault_text first_line later_lines answer_text reply_text
computing_text = tt

-- opens all that a script's text computes with
unfoldable pub computing_script : Unit {0}
unfolding computing_line computing_runs computing_text
computing_script = tt
