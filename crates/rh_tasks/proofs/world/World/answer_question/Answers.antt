use Rattle.rh_tasks.proofs.Common.{Bool, true, false, not, bytes_held, holds, Slot}
use Rattle.rh_tasks.proofs.Common.{◌≡◌, ℕ, ◌+◌, List, length, refl, sym, arith, Option, Ok, Err, Result, nat_lt, take, drop, Refusal, BadRange}
use Rattle.rh_tasks.proofs.Common.{BlockItem, SegmentItem, Outgoing, Incoming, Granted, ◌>>=◌, ◌>>◌, refuse_if, Split, Flex, slot_block, Desk, named}
use Rattle.rh_tasks.proofs.Common.{lt-false, err_from_is_err_and}
use Rattle.std.specs.Result.{MatchResult}
use Rattle.rh_defs.specs.declared.question.Numbers.TheVariants as numbers
use Rattle.rh_defs.specs.Questions.{Bytes, shown_at, blocks_at, heap_at, status_at, show, read, blocks, heap, status}
use Rattle.rh_tasks.specs.Answer.{first_told}
use Rattle.rh_tasks.specs.Sights.{size_read}
use Rattle.rh_tasks.proofs.Told.{read-told, say}
use Rattle.rh_tasks.proofs.world.World.answer_question.Goals as goal

-- ---- what is read for each question

module _ (d : Desk) (name : List ℕ) where
  size-read : (g : Granted (Split Flex))
      → say (λ (p : ℕ × List ℕ). numbers.Shown p.0) (g >>= λ b. refuse_if (nat_lt (length b.here.bytes) (0 + 0)) BadRange
      >> Ok (length b.here.bytes, take 0 (drop 0 b.here.bytes)))
      ≡ first_told (g >>= λ b. Ok (numbers.Shown (length b.here.bytes), Bytes b.here.bytes))
  unfolding ◌>>=◌ ◌>>◌ refuse_if
  size-read (Err refusal) = refl
  size-read (Ok b) = rw (lt-false (length b.here.bytes) 0 (omega arith)) refl

  show-read : (k : ℕ) (r : Granted (ℕ × List ℕ)) → r ≡ shown_at d name k 0 0
      → say (λ (p : ℕ × List ℕ). numbers.Shown p.0) r ≡ first_told (show d name k)
  unfolding show shown_at
  show-read k = read-told _ (named name d) _ _ λ t. size-read (slot_block k t.slot)

  -- a size, where the bytes lie in a place of their own
  show-told : (k : ℕ) (r : Result ℕ Refusal) (old new : List ℕ)
      → MatchResult (shown_at d name k 0 0) (λ p. (r ≡ Ok p.0) × (new ≡ p.1)) (λ e. (r ≡ Err e) × (new ≡ old))
      → say (λ n. numbers.Shown n) r ≡ first_told (show d name k)
  show-told k r old new a = go (shown_at d name k 0 0) (show-read k _ refl) a
    where
      go : (g : Granted (ℕ × List ℕ)) → say (λ (p : ℕ × List ℕ). numbers.Shown p.0) g ≡ first_told (show d name k)
          → MatchResult g (λ p. (r ≡ Ok p.0) × (new ≡ p.1)) (λ e. (r ≡ Err e) × (new ≡ old)) → say (λ n. numbers.Shown n) r ≡ first_told (show d name k)
      go (Ok p) e a = rw (a.0, e) refl
      go (Err x) e a = rw (a.0, e) refl

  size-asked : (x n : ℕ) (s : Slot) → (t : Bool)
      → say (λ k. numbers.Shown k) (refuse_if (not t) BadRange >> Ok n)
      ≡ first_told (refuse_if (not t) BadRange >> Ok (numbers.Shown n, Bytes (bytes_held x n s)))
  unfolding ◌>>=◌ ◌>>◌ refuse_if
  size-asked x n s true = refl
  size-asked x n s false = refl

  range-told : (x n : ℕ) (r : Granted ℕ) → r ≡ size_read d name x n → say (λ k. numbers.Shown k) r ≡ first_told (read d name x n)
  unfolding read
  range-told x n = read-told _ (named name d) _ _ λ t. size-asked x n t.slot (holds x n t.slot)

  blocks-told : (r : Granted (ℕ × Option BlockItem)) → r ≡ blocks_at d name 0
      → say (λ (p : ℕ × Option BlockItem). numbers.BlockCount p.0) r ≡ first_told (blocks d name)
  unfolding blocks blocks_at
  blocks-told = read-told _ (named name d) _ _ λ t. refl

  heap-told : (r : Granted ((ℕ × ℕ × ℕ) × Option SegmentItem)) → r ≡ heap_at d name 0
      → say (λ (p : (ℕ × ℕ × ℕ) × Option SegmentItem). numbers.HeapSums p.0.0 p.0.1 p.0.2) r ≡ first_told (heap d name)
  unfolding heap heap_at
  heap-told = read-told _ (named name d) _ _ λ t. refl

  status-told : (r : Granted (ℕ × List Outgoing × List Incoming)) → r ≡ status_at d name
      → say (λ (p : ℕ × List Outgoing × List Incoming). numbers.StatusOf p.0) r ≡ first_told (status d name)
  unfolding status status_at
  status-told = read-told _ (named name d) _ _ λ t. refl

-- ---- what is told of it

pub returns-in_err-size-in-Show : goal.returns-in_err-size-in-Show
returns-in_err-size-in-Show g c =
    let p = err_from_is_err_and c.from_residual.result c.from_residual.ensures.1 in
    rw (p.1, p.2, c.in-Show.is) (show-told c.args.self.now.desk c.in-Show.name c.in-Show.anchor _ _ _ c.in_err-size-in-Show.ensures)

pub returns-in_err-blocks-in-Blocks : goal.returns-in_err-blocks-in-Blocks
returns-in_err-blocks-in-Blocks g c =
    let p = err_from_is_err_and c.from_residual-in_err-blocks-in-Blocks.result c.from_residual-in_err-blocks-in-Blocks.ensures.1 in
    rw (p.1, p.2, c.in-Blocks.is) (blocks-told c.args.self.now.desk c.in-Blocks.name _ c.in_err-blocks-in-Blocks.ensures)

pub returns-in_err-length-in-Heap : goal.returns-in_err-length-in-Heap
returns-in_err-length-in-Heap g c =
    let p = err_from_is_err_and c.from_residual-in_err-length-in-Heap.result c.from_residual-in_err-length-in-Heap.ensures.1 in
    rw (p.1, p.2, c.in-Heap.is) (heap-told c.args.self.now.desk c.in-Heap.name _ c.in_err-length-in-Heap.ensures)

pub returns-in_ok-size-in-Show : goal.returns-in_ok-size-in-Show
returns-in_ok-size-in-Show g c =
    rw (c.in-Show.is) (show-told c.args.self.now.desk c.in-Show.name c.in-Show.anchor _ _ _ c.in_ok-size-in-Show.ensures)

pub returns-in_err-size-in-Read : goal.returns-in_err-size-in-Read
returns-in_err-size-in-Read g c =
    let p = err_from_is_err_and c.from_residual-in_err-size-in-Read.result c.from_residual-in_err-size-in-Read.ensures.1 in
    rw (p.1, p.2, c.in-Read.is) (range-told c.args.self.now.desk c.in-Read.name c.in-Read.address c.in-Read.size _ c.in_err-size-in-Read.ensures.size)

pub returns-in_ok-size-in-Read : goal.returns-in_ok-size-in-Read
returns-in_ok-size-in-Read g c =
    rw (c.in-Read.is) (range-told c.args.self.now.desk c.in-Read.name c.in-Read.address c.in-Read.size _ c.in_ok-size-in-Read.ensures.size)

pub returns-in_ok-blocks-in-Blocks : goal.returns-in_ok-blocks-in-Blocks
returns-in_ok-blocks-in-Blocks g c = rw (c.in-Blocks.is) (blocks-told c.args.self.now.desk c.in-Blocks.name _ c.in_ok-blocks-in-Blocks.ensures)

pub returns-in_ok-length-in-Heap : goal.returns-in_ok-length-in-Heap
returns-in_ok-length-in-Heap g c = rw (c.in-Heap.is) (heap-told c.args.self.now.desk c.in-Heap.name _ c.in_ok-length-in-Heap.ensures)

pub returns-in-Ok : goal.returns-in-Ok
returns-in-Ok g c = rw (c.in-Status.is) (status-told c.args.self.now.desk c.in-Status.name _ (sym c.in-Ok.ensures.ok))

pub returns-in-Err : goal.returns-in-Err
returns-in-Err g c = rw (c.in-Status.is) (status-told c.args.self.now.desk c.in-Status.name _ (sym c.in-Err.ensures.err))
