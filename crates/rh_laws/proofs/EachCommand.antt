-- What holds of each command: by which conditions it is refused, and that it does the same to a desk with its bytes renamed.
use Rattle.rh_laws.proofs.Common.{◌∙◌, ◌≡◌, refl, ℕ, ◌^◌, length, ap, Command, NoBlock, NotABlock, BadRange, BadSize, NoBudge}
use Rattle.rh_laws.proofs.Common.{NoRoom, Desk, free_pages, has_name, named, change, IsDesk, moved, length_with, slot_begin, slot_block, slot_extend}
use Rattle.rh_laws.proofs.Common.{slot_free, slot_mid, slot_put, slot_release, slot_resize, alloc, budge, claim, extend, free, kill, load, make, mid}
use Rattle.rh_laws.proofs.Common.{put, release, resize, start_task, ◌-◌, sym, subst}
use Rattle.rh_laws.proofs.Common.{find, length-map, NoTask}
use Rattle.rh_laws.proofs.Common.{slot_alloc, slot_claim, module_claim, save_letter}
use Rattle.rh_laws.proofs.Common.{next_ref, send_letter, with_taking, save, repeat, cancel_in, cancel_out, Follows}
use Rattle.rh_laws.proofs.Common.{follows-then, follows-equal}
use Rattle.rh_defs.specs.declared.command.Command.TheVariants as command
use Rattle.rh_defs.specs.Module.{module_free, module_resize}
use Rattle.rh_defs.specs.Commands.{remove, rma_claim, rma_free, rma_resize}
use Rattle.rh_defs.specs.Commands.{own_block}
use Rattle.rh_laws.specs.Conditions.{conditions, bytes_with, must_not_grow}
use Rattle.rh_laws.specs.RefusalRooms.{lacks}
use Rattle.rh_laws.proofs.RefusalSteps.{GoesBy, done, found_again, found_as, found_is, found_then, granted_then, in_steps, refused_if}
use Rattle.rh_laws.proofs.RefusalSteps.{refused_then}
use Rattle.rh_laws.proofs.Asked.{ask-goes, asked-renamed}
use Rattle.rh_laws.proofs.RefusalSends.{cancel_in-goes, cancel_out-goes, poll-goes, repeat-goes, save-goes}
use Rattle.rh_laws.proofs.RefusalAreas.{area-goes}
use Rattle.rh_laws.proofs.RefusalRaws.{raw-goes}
use Rattle.rh_laws.proofs.RefusalRoomLaws.{le_same, resize-short, room-same}
use Rattle.rh_laws.proofs.RefusalCalls.{idle-then, idle_buffer-then, any-found, file_named, loaded, alloc-then, claim-then, module_claim-then}
use Rattle.rh_laws.proofs.RefusalCalls.{own_block-then}
use Rattle.rh_defs.specs.declared.refusal.Refusal.TheVariants.{NoFile}
use Rattle.rh_defs.specs.declared.command.Command.TheVariants as command
use Rattle.rh_defs.specs.declared.reply.Reply.TheVariants as reply
use Rattle.rh_defs.specs.Commands.{with_released}
use Rattle.rh_defs.specs.Desk.{module_start}
use Rattle.rh_defs.specs.Receiver as receiver
use Rattle.rh_defs.proofs.Follows.{follows-same}
use Rattle.rh_laws.specs.Renaming.{renamed_slot, renamed_task, renamed, renamed_command}
use Rattle.rh_laws.proofs.RenamedParts.{By, follows-by, found-by, find-map}
use Rattle.rh_laws.proofs.RenamedSlots.{renamed_given, slot_put-renamed, slot_free-renamed, slot_release-renamed, slot_alloc-renamed}
use Rattle.rh_laws.proofs.RenamedSlots.{slot_extend-renamed, slot_mid-renamed, slot_claim-renamed, slot_resize-renamed}
use Rattle.rh_laws.proofs.RenamedDesks.{renamed_with, free-renamed, where-free, named-renamed, idle_block-renamed, idle_buffer-renamed}
use Rattle.rh_laws.proofs.RenamedDesks.{with_task-renamed, send_letter-renamed}
use Rattle.rh_laws.proofs.RenamedPolls.{poll-renamed}
use Rattle.rh_laws.proofs.RenamedRaws.{letter-renamed, raw-renamed, released-renamed}
use Rattle.rh_laws.proofs.RenamedSteps.{slot-back, is_file, renamed_file, start_task-renamed, kill-renamed, change_area-renamed}

-- ---- refusals

pub change-goes : (d : Desk) → IsDesk d → (c : Command) → GoesBy (change d c) (conditions d c)
unfolding kill named alloc load put slot_put slot_block free slot_free extend slot_extend mid slot_mid claim
    release slot_release resize slot_resize budge rma_claim rma_free module_free rma_resize module_resize make remove start_task slot_begin
change-goes d is (command.Task name buffer manner) =
    refused_then _ _ _ _ _ (any-found (has_name name) d.tasks) λ new.
    refused_then _ _ _ _ _ refl λ few.
    refused_then _ _ _ _ _ (le_same (2 ^ 32) d.next_handle 4294967296 d.next_handle (λ h. h) (λ h. h)) λ more.
    in_steps _ _ _ _ (refused_if _ _ NoRoom _ _ refl λ room. granted_then _ _ _ _ refl (done _ refl))
change-goes d is (command.Kill name) = found_then _ _ _ _ λ t e. done _ refl
change-goes d is (command.Alloc name k n) = found_then _ _ _ _ λ t e. rw e (alloc-then d t k n _ _ λ unused. done _ refl)
change-goes d is (command.Load name k file) =
    found_then _ _ _ _ λ t e. rw e (found_as _ _ _ _ _ (file_named file d.files) λ entry f. rw f
    (alloc-then d t k (length entry.1) _ _ λ unused.
    granted_then _ _ _ _ (loaded k entry.1 t.slot unused).granted (done _ refl)))
change-goes d is (command.Put name k offset bytes) =
    found_then _ _ _ _ λ t e. rw e (idle-then k t _ _ λ b f. rw f (found_again b NoBlock _ _ _
    (in_steps _ _ _ _ (refused_if _ _ BadRange _ _ refl λ no. granted_then _ _ _ _ refl (done _ refl)))))
change-goes d is (command.Free name k) =
    found_then _ _ _ _ λ t e. rw e (idle-then k t _ _ λ b f. rw f (found_again b NoBlock _ _ _
    (granted_then _ _ _ _ refl (done _ refl))))
change-goes d is (command.Extend name k n) =
    found_then _ _ _ _ λ t e. rw e (idle-then k t _ _ λ b f. rw f (found_again b NoBlock _ _ _
    (in_steps _ _ _ _ (refused_if _ _ NoRoom _ _ (room-same (free_pages d) (length_with b n t.slot) t.slot) λ fits.
    granted_then _ _ _ _ refl (done _ refl)))))
change-goes d is (command.Mid name k offset by) =
    found_then _ _ _ _ λ t e. rw e (idle-then k t _ _ λ b f. rw f (found_again b NoBlock _ _ _
    (in_steps _ _ _ _ (refused_if _ _ BadRange _ _ refl λ inside.
    in_steps _ _ _ _ (refused_if _ _ NoRoom _ _
    (room-same (free_pages d) (length_with b (moved (length b.here.bytes) by) t.slot) t.slot) λ fits.
    granted_then _ _ _ _ refl (done _ refl))))))
change-goes d is (command.Claim name n) = found_then _ _ _ _ λ t e. rw e (claim-then d t n _ λ p. done _ refl)
change-goes d is (command.Release name address) =
    found_then _ _ _ _ λ t e. rw e (idle_buffer-then address t _ _ λ b f. rw f (found_again b NotABlock _ _ _
    (granted_then _ _ _ _ refl (done _ refl))))
change-goes d is (command.Resize name address delta) =
    found_then _ _ _ _ λ t e. rw e (idle_buffer-then address t _ _ λ b f. rw f (found_again b NotABlock _ _ _
    (let short = resize-short (bytes_with delta b) b t.slot.heap in
    in_steps _ _ _ _ (refused_if _ _ BadSize _ _ refl λ some.
    in_steps _ _ _ _ (refused_if _ _ NoBudge _ _ (ap (λ (x : ℕ). must_not_grow x t) short) λ may.
    in_steps _ _ _ _ (refused_if _ _ NoRoom _ _ (ap (λ (x : ℕ). lacks x d) short) λ fits.
    granted_then _ _ _ _ refl (done _ refl)))))))
change-goes d is (command.Budge name on) = found_then _ _ _ _ λ t e. done _ refl
change-goes d is (command.Save name k to leaf) = save-goes d is name k to leaf
change-goes d is (command.Poll name) = poll-goes d is name
change-goes d is (command.CancelIn name id) = cancel_in-goes d is name id
change-goes d is (command.CancelOut name id) = cancel_out-goes d is name id
change-goes d is (command.Repeat name) = repeat-goes d is name
change-goes d is (command.Area k delta) = area-goes d is k delta
change-goes d is (command.Make most) = refused_then _ _ _ _ _ refl λ few. refused_then _ _ _ _ _ refl λ more. done _ refl
change-goes d is (command.Remove k) = found_then _ _ _ _ λ m e. done _ refl
change-goes d is (command.RmaClaim n) = module_claim-then d n _ λ c. done _ refl
change-goes d is (command.RmaFree address) =
    own_block-then d address _ _ λ b f. in_steps _ _ _ _ (granted_then _ b _ _ (found_is _ b NotABlock f)
    (granted_then _ _ _ _ refl (done _ refl)))
change-goes d is (command.RmaResize address delta) =
    own_block-then d address _ _ λ b f. rw f (found_again b NotABlock _ _ _
    (let short = resize-short (bytes_with delta b) b d.post.heap in
    in_steps _ _ _ _ (refused_if _ _ BadSize _ _ refl λ some.
    in_steps _ _ _ _ (refused_if _ _ NoRoom _ _ (ap (λ (x : ℕ). lacks x d) short) λ fits.
    granted_then _ _ _ _ refl (done _ refl)))))
change-goes d is (command.Ask q) = ask-goes d q
change-goes d is (command.Raw c) = raw-goes d is c

-- ---- bytes that are renamed

module _ (f : ℕ → ℕ) (zero-is : f 0 ≡ 0) where
  pub change-renamed : (d : Desk) (c : Command) → Follows (By (renamed_with f)) (change d c) (change (renamed f d) (renamed_command f c))
  unfolding alloc load put free extend mid claim release resize budge save repeat cancel_in cancel_out make remove rma_claim rma_free own_block rma_resize
  change-renamed d (command.Task name buffer manner) = start_task-renamed f d name buffer manner
  change-renamed d (command.Kill name) = kill-renamed f d name
  change-renamed d (command.Alloc name k n) =
      follows-by _ _ (named-renamed f name d) λ t.
      follows-by _ _ (where-free f d (λ m. slot_alloc m k n (renamed_slot f t.slot)) (slot_alloc-renamed f zero-is (free_pages d) k n t.slot)) λ p.
      Follows.both (slot-back f t.handle p.0 d (reply.Block p.1))
  change-renamed d (command.Load name k file) =
      follows-by _ _ (named-renamed f name d) λ t.
      follows-by _ _ (found-by (renamed_file f) (find (is_file file) d.files) _ NoFile
      (find-map (is_file file) (renamed_file f) (λ entry. refl) d.files)) λ entry.
      follows-by _ _ (subst (λ n. Follows (By (renamed_given f)) (slot_alloc (free_pages d) k (length entry.1) t.slot) (slot_alloc (free_pages
      (renamed f d)) k n (renamed_slot f t.slot))) (sym (length-map entry.1 f))
      (where-free f d (λ m. slot_alloc m k (length entry.1) (renamed_slot f t.slot)) (slot_alloc-renamed f zero-is (free_pages d) k
      (length entry.1) t.slot))) λ p.
      follows-by _ _ (slot_put-renamed f k 0 entry.1 p.0) λ s.
      Follows.both (slot-back f t.handle s d (reply.Block p.1))
  change-renamed d (command.Put name k offset bytes) =
      follows-by _ _ (named-renamed f name d) λ t. follows-by _ _ (idle_block-renamed f k t) λ b.
      follows-by _ _ (slot_put-renamed f k offset bytes t.slot) λ s. Follows.both (slot-back f t.handle s d reply.Done)
  change-renamed d (command.Free name k) =
      follows-by _ _ (named-renamed f name d) λ t. follows-by _ _ (idle_block-renamed f k t) λ b.
      follows-by _ _ (slot_free-renamed f k t.slot) λ s. Follows.both (slot-back f t.handle s d reply.Done)
  change-renamed d (command.Extend name k n) =
      follows-by _ _ (named-renamed f name d) λ t. follows-by _ _ (idle_block-renamed f k t) λ b.
      follows-by _ _ (where-free f d (λ m. slot_extend m k n (renamed_slot f t.slot)) (slot_extend-renamed f zero-is (free_pages d) k n t.slot)) λ s.
      Follows.both (slot-back f t.handle s d reply.Done)
  change-renamed d (command.Mid name k offset by) =
      follows-by _ _ (named-renamed f name d) λ t. follows-by _ _ (idle_block-renamed f k t) λ b.
      follows-by _ _ (where-free f d (λ m. slot_mid m k offset by (renamed_slot f t.slot)) (slot_mid-renamed f zero-is (free_pages d) k offset by t.slot)) λ s.
      Follows.both (slot-back f t.handle s d reply.Done)
  change-renamed d (command.Claim name n) =
      follows-by _ _ (named-renamed f name d) λ t.
      follows-by _ _ (where-free f d (λ m. slot_claim m n (renamed_slot f t.slot)) (slot_claim-renamed f zero-is (free_pages d) n t.slot)) λ p.
      Follows.both (slot-back f t.handle p.0 d (reply.Block p.1))
  change-renamed d (command.Release name address) =
      follows-by _ _ (named-renamed f name d) λ t. follows-by _ _ (idle_buffer-renamed f address t) λ b.
      follows-by _ _ (slot_release-renamed f address t.slot) λ s. Follows.both (slot-back f t.handle s d reply.Done)
  change-renamed d (command.Resize name address delta) =
      follows-by _ _ (named-renamed f name d) λ t. follows-by _ _ (idle_buffer-renamed f address t) λ b.
      follows-by _ _ (where-free f d (λ m. slot_resize m address delta (renamed_slot f t.slot)) (slot_resize-renamed f zero-is
      (free_pages d) address delta t.slot)) λ p.
      Follows.both (slot-back f t.handle p.0 d (reply.Block p.1))
  change-renamed d (command.Budge name on) =
      follows-by _ _ (named-renamed f name d) λ t.
      Follows.both (slot-back f t.handle (record t.slot { budging = on }) d (reply.WasBudging t.slot.budging))
  change-renamed d (command.Save name k to leaf) =
      follows-by _ _ (named-renamed f name d) λ t. follows-by _ _ (idle_block-renamed f k t) λ b. follows-then _ _ _ (
      follows-by _ _ (found-by (renamed_task f) (find (has_name to) d.tasks) _ NoTask (find-map (has_name to) (renamed_task f) (λ u. refl) d.tasks)) λ r.
      follows-by _ _ (subst (λ n. Follows (By (renamed f)) (send_letter (save_letter t.handle r.handle (length b.here.bytes) leaf) d) (send_letter
      (save_letter t.handle r.handle n leaf) (renamed f d))) (sym (length-map b.here.bytes f))
      (send_letter-renamed f (save_letter t.handle r.handle (length b.here.bytes) leaf) d)) λ sent. follows-then _ _ _ (
      Follows.both (ap (λ (e : Desk). (e, reply.Sent (next_ref d))) (with_task-renamed f t.handle _ _ sent (λ u. refl)))))
  change-renamed d (command.Poll name) = poll-renamed f zero-is d name
  change-renamed d (command.CancelIn name id) =
      follows-by _ _ (named-renamed f name d) λ t. follows-same _ _ _ λ records.
      Follows.both (
      ap (λ (e : Desk). (with_taking t.handle (λ old. records) e, reply.Done)) (released-renamed f zero-is t.handle (receiver.released_by id t.taking) d)
      ∙ ap (λ (e : Desk). (e, reply.Done))
      (with_task-renamed f t.handle _ _ (with_released t.handle (receiver.released_by id t.taking) d) (λ u. refl))
      )
  change-renamed d (command.CancelOut name id) =
      follows-by _ _ (named-renamed f name d) λ t. follows-same _ _ _ λ records.
      Follows.both (ap (λ (e : Desk). (e, reply.Done)) (with_task-renamed f t.handle _ _ d (λ u. refl)))
  change-renamed d (command.Repeat name) =
      follows-by _ _ (named-renamed f name d) λ t. follows-same _ _ _ λ last.
      follows-by _ _ (send_letter-renamed f (record last.0 { from = t.handle }) d) λ sent.
      Follows.both (ap (λ (e : Desk). (e, reply.Sent (next_ref d))) (letter-renamed f t.manner sent))
  change-renamed d (command.Area k delta) = change_area-renamed f d k delta
  change-renamed d (command.Make most) = follows-then _ _ _ (follows-then _ _ _ (Follows.both refl))
  change-renamed d (command.Remove k) = follows-same _ _ _ λ m. Follows.both refl
  change-renamed d (command.RmaClaim n) = follows-equal _ _ _ _ (ap (λ m. module_claim m n d.post.heap) (free-renamed f d)) λ c. Follows.both refl
  change-renamed d (command.RmaFree address) = follows-same _ _ _ λ b. follows-same _ _ _ λ h. Follows.both refl
  change-renamed d (command.RmaResize address delta) =
      follows-same _ _ _ λ b. follows-equal _ _ _ _ (ap (λ m. module_resize m (address - module_start) delta d.post.heap)
      (free-renamed f d)) λ c. Follows.both refl
  change-renamed d (command.Raw c) = raw-renamed f zero-is d c
  change-renamed d (command.Ask q) = follows-by _ _ (asked-renamed f d q) λ told. Follows.both refl
