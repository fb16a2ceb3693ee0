-- What is listed of a desk, from what its readers give.
use Rattle.vf_desk.proofs.Common.{◌≡◌, ℕ, zero, suc, List, [], ◌∷◌, ◌++◌, length, take, drop, min, refl, sym, ap, ◌∙◌, arith, subst, Ok, Err, Some, None}
use Rattle.vf_desk.proofs.Common.{Option, false, true, if◌then◌else◌, map, filled_front, Console, Question, ◌>>=◌, Desk, Task, named, list_asked, SeenBy}
use Rattle.rh_defs.specs.declared.question.BlockItem.{BlockItem}
use Rattle.rh_defs.specs.declared.refusal.Refusal.{Refusal}
use Rattle.rh_defs.specs.declared.transfer.Incoming.{Incoming}
use Rattle.rh_defs.specs.declared.transfer.Outgoing.{Outgoing}
use Rattle.rh_defs.specs.declared.question.Numbers.TheVariants as numbers
use Rattle.rh_defs.specs.Chain.{Granted}
use Rattle.rh_defs.specs.Questions.{Blocks, Bytes, Nothing, Records, block_items, in_item, out_item, status_at, Told, asked, blocks, status}
use Rattle.rh_defs.specs.Range.{can_be_asked}
use Rattle.rh_defs.proofs.QuestionLaws.{asked-alike}
use Rattle.rh_tasks.specs.WorldLists.{blocks_of}
use Rattle.rh_script.proofs.PrintLemmas.{refused_alike}
use Rattle.vf_desk.specs.DeskItems.{blocks_listed, bytes_listed, incoming_in, listed_with, outgoing_in}

pub map-map : {A B C : Type 0} (f : B → C) (g : A → B) (xs : List A) → map f (map g xs) ≡ map (λ x. f (g x)) xs
map-map f g [] = refl
map-map f g (x ∷ xs) = ap (λ l. f (g x) ∷ l) (map-map f g xs)

pub map-length : {A B : Type 0} (f : A → B) (xs : List A) → length (map f xs) ≡ length xs
map-length f [] = refl
map-length f (x ∷ xs) = ap suc (map-length f xs)

-- ---- flex blocks

listed_blocks : (g : Granted Task) (items : List BlockItem) → (g >>= λ t. Ok (block_items t.slot)) ≡ Ok items
    → blocks_listed (listed_with (g >>= λ t. Ok (numbers.BlockCount (length t.slot.blocks), Blocks (block_items t.slot)))) ≡ items
unfolding ◌>>=◌
listed_blocks (Ok t) items e = cc
listed_blocks (Err r) items e = absurd (cc)

pub blocks-listed : (d : Desk) (name : List ℕ) (items : List BlockItem) → blocks_of d name ≡ Ok items → blocks_listed (listed_with (blocks d name)) ≡ items
unfolding blocks_of blocks
blocks-listed d name items e = listed_blocks (named name d) items e

pub no-blocks-listed : (d : Desk) (name : List ℕ) (refusal : Refusal) → blocks_of d name ≡ Err refusal → blocks_listed (listed_with (blocks d name)) ≡ []
unfolding blocks_of blocks
no-blocks-listed d name refusal e = ap (λ a. blocks_listed (listed_with a)) (refused_alike (named name d) _ _ refusal e)

-- ---- records of transfers

-- what is listed of a task with these records
pub record Lists (answer : Granted Told) (sent : List Outgoing) (got : List Incoming) : Type 0 where
  pub out : outgoing_in (listed_with answer) ≡ map out_item sent
  pub taken : incoming_in (listed_with answer) ≡ map in_item got

listed_records : (g : Granted Task) (h : ℕ) (out : List Outgoing) (taken : List Incoming)
    → (g >>= λ t. (let r : Granted (ℕ × List Outgoing × List Incoming) = Ok (t.handle, t.sending, t.taking) in r)) ≡ Ok (h, out, taken)
    → Lists (g >>= λ t. Ok (numbers.StatusOf t.handle, Records (map out_item t.sending) (map in_item t.taking))) out taken
unfolding ◌>>=◌
listed_records (Ok t) h out taken e = record {
  out = ap (map out_item) (ap (λ (p : ℕ × List Outgoing × List Incoming). p.1) (same e));
  taken = ap (map in_item) (ap (λ (p : ℕ × List Outgoing × List Incoming). p.2) (same e));
}
  where
    same : {A : Type 0} {x y : A} → ◌≡◌ {A = Granted A} (Ok x) (Ok y) → x ≡ y
    same e = cc
listed_records (Err r) h out taken e = absurd (cc)

pub records-listed : (d : Desk) (name : List ℕ) (h : ℕ) (out : List Outgoing) (taken : List Incoming) → status_at d name ≡ Ok (h, out, taken)
    → Lists (status d name) out taken
unfolding status_at status
records-listed d name h out taken e = listed_records (named name d) h out taken e

pub no-records-listed : (d : Desk) (name : List ℕ) (refusal : Refusal) → status_at d name ≡ Err refusal → Lists (status d name) [] []
unfolding status_at status
no-records-listed d name refusal e =
    let is = refused_alike (named name d) _ _ refusal e in
    record { out = ap (λ a. outgoing_in (listed_with a)) is; taken = ap (λ a. incoming_in (listed_with a)) is }

-- ---- a block's bytes

-- the bytes that have room, and those that were there behind them
pub bytes-filled : (bytes old part : List ℕ) (n : ℕ) → n ≡ min (length old) (length bytes) → part ≡ take n bytes → part ++ drop n old ≡ filled_front bytes old
bytes-filled bytes old part n is read = ap (λ l. l ++ drop n old) read ∙ go bytes old n is
  where
    go : (bytes old : List ℕ) (n : ℕ) → n ≡ min (length old) (length bytes) → take n bytes ++ drop n old ≡ filled_front bytes old
    go [] [] zero is = refl
    go [] (y ∷ old) zero is = refl
    go [] [] (suc n) is = refl
    go [] (y ∷ old) (suc n) is = absurd (omega arith)
    go (x ∷ bytes) [] zero is = refl
    go (x ∷ bytes) [] (suc n) is = absurd (omega arith)
    go (x ∷ bytes) (y ∷ old) zero is = absurd (omega arith)
    go (x ∷ bytes) (y ∷ old) (suc n) is = ap (λ l. x ∷ l) (go bytes old n (omega arith))

pub shown-bytes : (answer : Granted Told) (size : ℕ) (bytes : List ℕ) → answer ≡ Ok (numbers.Shown size, Bytes bytes) → bytes_listed (listed_with answer)
    ≡ bytes
shown-bytes answer size bytes e = ap (λ a. bytes_listed (listed_with a)) e

pub no-shown-bytes : (answer : Granted Told) (refusal : Refusal) → answer ≡ Err refusal → bytes_listed (listed_with answer) ≡ []
no-shown-bytes answer refusal e = ap (λ a. bytes_listed (listed_with a)) e

-- ---- what is listed of a desk that a handle may be seen as

pub listed-open : {held : Option Console} {console : Console} → held ≡ Some console → (s : Option Desk) (q : Question) → SeenBy held s → can_be_asked q ≡ true
    → list_asked s q ≡ listed_with (asked console.world.desk q)
listed-open {held} {console} is s q seen ranged = go s (subst (λ h. SeenBy h s) is seen)
  where
    go : (s : Option Desk) → SeenBy (Some console) s → list_asked s q ≡ listed_with (asked console.world.desk q)
    go None seen = absurd seen
    go (Some d) seen = ap (λ b. if b then listed_with (asked d q) else Nothing) ranged ∙ ap listed_with (sym (asked-alike seen q))

-- a question that can't be asked
pub listed-bad : (s : Option Desk) (q : Question) → can_be_asked q ≡ false → list_asked s q ≡ Nothing
listed-bad None q bad = refl
listed-bad (Some d) q bad = ap (λ b. if b then listed_with (asked d q) else Nothing) bad

pub listed-closed : {held : Option Console} → held ≡ None → (s : Option Desk) (q : Question) → SeenBy held s → list_asked s q ≡ Nothing
listed-closed {held} is s q seen = go s (subst (λ h. SeenBy h s) is seen)
  where
    go : (s : Option Desk) → SeenBy None s → list_asked s q ≡ Nothing
    go None seen = refl
    go (Some d) seen = absurd seen
