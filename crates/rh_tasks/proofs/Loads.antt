-- A file loaded into a new block.
use Rattle.rh_tasks.proofs.Common.{◌≡◌, ℕ, ◌+◌, ◌≤◌, true, false, refl, ap, sym, subst, ◌∙◌, arith, List, [], length, Option, Some, None, find, Ok, Err, IsOk}
use Rattle.rh_tasks.proofs.Common.{option_map, Memory, FileList, Refusal, BadRange, Granted, ◌>>=◌, found_or, no_answer, answer_of, in_range, zeros, Slot}
use Rattle.rh_tasks.proofs.Common.{weight, flex_start, slot_alloc, slot_put, slot_block, OnGrant, Desk, free_pages, slot_in, LeavesSlotIn, Seat, MadeArea, Kept}
use Rattle.rh_tasks.proofs.Common.{desk_of, task_of, IsWorld, Owns, begins, ends, granted-same, lt-false, free-is, granted-keeps, Slid, found-named}
use Rattle.std.specs.Str.{bytes_eq}
use Rattle.std.proofs.lemmas.List.{length-replicate}
use Rattle.rh_defs.proofs.MemoryLaws.{OnlyArea-both}
use Rattle.rh_defs.specs.Files.{file_bytes}
use Rattle.rh_defs.specs.declared.refusal.Refusal.TheVariants.{NoFile}
use Rattle.rh_defs.specs.declared.reply.Reply.TheVariants as reply
use Rattle.rh_defs.specs.declared.command.Command.TheVariants as command
use Rattle.rh_defs.specs.Slot.{is_used, with_block}
use Rattle.rh_defs.proofs.Chains.{granted, granted-unless}
use Rattle.rh_defs.proofs.Anchors.{is_free}
use Rattle.rh_defs.proofs.SlotLaws.{block_of-at}
use Rattle.rh_defs.specs.Commands.{load}
use Rattle.rh_slot.specs.declared.slot.Slot as code
use Rattle.rh_tasks.proofs.Chains.{not-refused}
use Rattle.rh_tasks.proofs.Addresses.{grant-of}
use Rattle.rh_tasks.proofs.Leaves as leaves
use Rattle.rh_tasks.proofs.Moves.{slid-desk, slid-world}

-- ---- the file

pub record HasFile (name : List ℕ) (files : FileList) (bytes : List ℕ) : Type 0 where
  pub file : List ℕ × List ℕ
  pub found : find (λ file. bytes_eq file.0 name) files ≡ Some file
  pub bytes_are : file.1 ≡ bytes

of-some : (name : List ℕ) (files : FileList) (bytes : List ℕ) (o : Option (List ℕ × List ℕ)) → find (λ file. bytes_eq file.0 name) files ≡ o
    → option_map (λ file. file.1) o ≡ Some bytes → HasFile name files bytes
of-some name files bytes None e h = absurd (cc)
of-some name files bytes (Some file) e h = record { file = file; found = e; bytes_are = cc }

pub has-file : (name : List ℕ) (files : FileList) (bytes : List ℕ) → file_bytes name files ≡ Some bytes → HasFile name files bytes
has-file name files bytes h = of-some name files bytes (find (λ file. bytes_eq file.0 name) files) refl h

none-of : (o : Option (List ℕ × List ℕ)) → option_map (λ file. file.1) o ≡ None → o ≡ None
none-of None h = refl
none-of (Some file) h = absurd (cc)

pub no-file : (name : List ℕ) (files : FileList) → file_bytes name files ≡ None → found_or (find (λ file. bytes_eq file.0 name) files) NoFile ≡ Err NoFile
unfolding found_or
no-file name files h = let e = none-of (find (λ file. bytes_eq file.0 name) files) h in rw e refl

some-file : (o : Option (List ℕ × List ℕ)) (file : List ℕ × List ℕ) → o ≡ Some file → found_or o NoFile ≡ Ok file
unfolding found_or
some-file o file e = rw e refl

-- ---- the block that was put on top

record IsNew (k n : ℕ) (s : Slot) (p : Slot × ℕ) : Type 0 where
  unused : is_used k s ≡ false
  slot : p.0 ≡ with_block k (zeros n) s

alloc-new : (free k n : ℕ) (s : Slot) → OnGrant (IsNew k n s) (slot_alloc free k n s)
unfolding slot_alloc
alloc-new free k n s = granted-unless _ _ _ (λ e. granted-unless _ _ _ (λ f. granted (record { unused = e; slot = refl })))

new-block : (k n : ℕ) (s : Slot) → is_used k s ≡ false
    → slot_block k (with_block k (zeros n) s) ≡ Ok (record { before = s.blocks; here = record { anchor = k; bytes = zeros n }; after = [] })
unfolding slot_block found_or
new-block k n s unused =
    let e = block_of-at k (with_block k (zeros n) s) (record { before = s.blocks; here = record { anchor = k; bytes = zeros n }; after = [] }) refl
    (is_free weight k (flex_start s) s.blocks unused) refl in
    rw e refl

put-fits : (k n : ℕ) (bytes : List ℕ) (s : Slot) → is_used k s ≡ false → length bytes ≤ n → IsOk (slot_put k 0 bytes (with_block k (zeros n) s))
unfolding slot_put ◌>>=◌
put-fits k n bytes s unused fits =
    let e = new-block k n s unused in
    rw e (not-refused _ BadRange _ (lt-false (length (zeros n)) (0 + length bytes) (omega (arith, fits, length-replicate {A = ℕ} n 0))))

-- bytes that fit are written
pub new-fits : (free k n : ℕ) (bytes : List ℕ) (s : Slot) (p : Slot × ℕ) → slot_alloc free k n s ≡ Ok p → length bytes ≤ n → IsOk (slot_put k 0 bytes p.0)
new-fits free k n bytes s p e fits =
    let new = grant-of (alloc-new free k n s) e in
    let P : Slot → Type 0 = λ t. IsOk (slot_put k 0 bytes t) in
    subst P (sym new.slot) (put-fits k n bytes s new.unused fits)

answered-ok : {A : Type 0} (g : Granted A) → IsOk g → IsOk (answer_of (no_answer g))
answered-ok (Ok x) h = refl
answered-ok (Err r) h = absurd (cc)

pub put-answers : {m n : Memory} {slot : code.Slot} (g : Granted Slot) (r : Granted (Unit {0})) → LeavesSlotIn m n slot (no_answer g) r → IsOk g → IsOk r
put-answers g r l h = subst (λ x. IsOk x) (sym l.answer) (answered-ok g h)

-- ---- the command

module _ {m : Memory} {seats : List Seat} {made : List MadeArea} {files : FileList} {kept : Kept} {name : List ℕ} {slot : code.Slot}
    (w : IsWorld m seats made files kept) (o : Owns name seats slot) (k : ℕ) (file : List ℕ) where
  abbrev d : Desk
  d = desk_of m seats made files kept

  pub load-missing : file_bytes file files ≡ None → load d name k file ≡ Err NoFile
  unfolding load
  load-missing h = begins _ (found-named w o) (ends _ (no-file file files h))

  module _ (bytes : List ℕ) (has : file_bytes file files ≡ Some bytes) where
    the-file : HasFile file files bytes
    the-file = has-file file files bytes has

    the-alloc : slot_alloc (free_pages d) k (length the-file.file.1) (task_of m o.seat).slot ≡ slot_alloc m.free k (length bytes) (slot_in m slot)
    unfolding task_of
    the-alloc =
        ap (λ f. slot_alloc f k (length the-file.file.1) (slot_in m o.seat.slot)) (free-is w)
        ∙ ap (λ (b : List ℕ). slot_alloc m.free k (length b) (slot_in m o.seat.slot)) the-file.bytes_are
        ∙ ap (λ x. slot_alloc m.free k (length bytes) (slot_in m x)) o.slot_is

    pub load-refused : {n : Memory} {r : Refusal} → LeavesSlotIn m n slot (slot_alloc m.free k (length bytes) (slot_in m slot)) (Err r) → load d name k file
        ≡ Err r
    unfolding load
    load-refused l = begins _ (found-named w o) (begins _ (some-file _ _ the-file.found) (ends _ (the-alloc ∙ leaves.refused l)))

    module _ {n : Memory} {a : ℕ} (l : LeavesSlotIn m n slot (slot_alloc m.free k (length bytes) (slot_in m slot)) (Ok a)) where
      pub load-fits : IsOk (slot_put k 0 bytes (slot_in n slot))
      load-fits = new-fits m.free k (length bytes) bytes (slot_in m slot) (slot_in n slot, a) (leaves.granted l) (omega arith)

      module _ {p : Memory} (l2 : LeavesSlotIn n p slot (no_answer (slot_put k 0 bytes (slot_in n slot))) (Ok tt)) where
        slid : Slid m p slot
        slid = record { still = l2.still; only = OnlyArea-both m n p slot.area.0 l.only l2.only }

        the-put : slot_put k 0 the-file.file.1 (slot_in n slot) ≡ Ok (slot_in p slot)
        the-put = ap (λ b. slot_put k 0 b (slot_in n slot)) the-file.bytes_are ∙ leaves.changed l2

        pub load-done : load d name k file ≡ Ok (desk_of p seats made files kept, reply.Block a)
        unfolding load task_of
        load-done = begins _ (found-named w o) (begins _ (some-file _ _ the-file.found)
            (begins _ (the-alloc ∙ leaves.granted l) (begins _ the-put (granted-same (sym (slid-desk w o slid)) refl))))

        pub load-world : in_range (command.Load name k file) ≡ true → IsWorld p seats made files kept
        load-world ranged = slid-world w o slid (granted-keeps d _ (command.Load name k file) (reply.Block a) load-done ranged w.desk)
