-- What the form of a command says of its numbers.
use Rattle.rh_tasks.proofs.Common.{◌≡◌, ℕ, ◌<◌, true, arith, List, ℤ, anchor_count, nat_tests, in_range}
use Rattle.rh_defs.specs.Forms.{is_leaf}
use Rattle.rh_defs.specs.declared.command.Command.TheVariants as command
use Rattle.rh_defs.specs.declared.question.Question.{Question}
use Rattle.rh_defs.specs.Range.{can_be_asked}

pub alloc-anchor : (name : List ℕ) (k n : ℕ) → in_range (command.Alloc name k n) ≡ true → k < anchor_count
unfolding in_range
alloc-anchor name k n h = grind (arith, nat_tests)

pub load-anchor : (name : List ℕ) (k : ℕ) (file : List ℕ) → in_range (command.Load name k file) ≡ true → k < anchor_count
unfolding in_range
load-anchor name k file h = grind (arith, nat_tests)

pub put-anchor : (name : List ℕ) (k offset : ℕ) (bytes : List ℕ) → in_range (command.Put name k offset bytes) ≡ true → k < anchor_count
unfolding in_range
put-anchor name k offset bytes h = grind (arith, nat_tests)

pub free-anchor : (name : List ℕ) (k : ℕ) → in_range (command.Free name k) ≡ true → k < anchor_count
unfolding in_range
free-anchor name k h = grind (arith, nat_tests)

pub extend-anchor : (name : List ℕ) (k n : ℕ) → in_range (command.Extend name k n) ≡ true → k < anchor_count
unfolding in_range
extend-anchor name k n h = grind (arith, nat_tests)

pub mid-anchor : (name : List ℕ) (k offset : ℕ) (by : ℤ) → in_range (command.Mid name k offset by) ≡ true → k < anchor_count
unfolding in_range
mid-anchor name k offset by h = grind (arith, nat_tests)

pub ask-ranged : (q : Question) → in_range (command.Ask q) ≡ true → can_be_asked q ≡ true
unfolding in_range
ask-ranged q h = h

pub save-anchor : (name : List ℕ) (k : ℕ) (to leaf : List ℕ) → in_range (command.Save name k to leaf) ≡ true → k < anchor_count
unfolding in_range
save-anchor name k to leaf h = grind (arith, nat_tests)

pub save-leaf : (name : List ℕ) (k : ℕ) (to leaf : List ℕ) → in_range (command.Save name k to leaf) ≡ true → is_leaf leaf ≡ true
unfolding in_range
save-leaf name k to leaf h = grind (arith, nat_tests)

-- a `put` may be for any anchor
pub put-any : (name : List ℕ) (k other offset : ℕ) (bytes : List ℕ) → in_range (command.Put name k offset bytes) ≡ true → other < anchor_count
    → in_range (command.Put name other offset bytes) ≡ true
unfolding in_range
put-any name k other offset bytes h low = grind (arith, nat_tests)
