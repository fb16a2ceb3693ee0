-- Commands of arguments that may not be of their forms.
use Rattle.vf_desk.proofs.Common.{◌≡◌, ℕ, Bool, true, false, List, refl, sym, ap, ◌∙◌, nat_le, if◌then◌else◌, length, OnOk, Some, None, Result, Ok, Err}
use Rattle.vf_desk.proofs.Common.{Command, is_name, in_range, in_form}
use Rattle.std.specs.Prelude.{◌&&◌}
use Rattle.std.specs.Result.{is_err}
use Rattle.rh_defs.specs.declared.command.Command.TheVariants as command
use Rattle.rh_defs.specs.declared.raw_command.RawCommand.TheVariants as raw
use Rattle.std.proofs.lemmas.Bool.Decides.{nat_tests}
use Rattle.std.proofs.Common.{arith}
use Rattle.rh_defs.specs.Forms.{is_anchor, is_number}
use Rattle.rh_defs.specs.Grammar.{Anchor, Size}
use Rattle.rh_defs.specs.Range.{is_of}
use Rattle.vf_desk.specs.DeskForms.{anchor_in, name_read}

-- what isn't in range is no command
pub out-of-form : (c : Command) → in_range c ≡ false → None ≡ in_form c
out-of-form c bad = ap (λ (b : Bool). if b then Some c else None) (sym bad)

-- what is in range is one
pub in-its-form : (c : Command) → in_range c ≡ true → Some c ≡ in_form c
in-its-form c good = ap (λ (b : Bool). if b then Some c else None) (sym good)

-- bytes that are no name
pub no-name : (bytes : List ℕ) → None ≡ name_read bytes → is_name bytes ≡ false
no-name bytes none = go (is_name bytes) none
  where
    go : (b : Bool) → None ≡ (if b then Some bytes else None) → b ≡ false
    go false none = refl
    go true none = absurd (let bad : None ≡ Some bytes = none in cc)

-- bytes that are a name
pub a-name : (bytes name : List ℕ) → Some name ≡ name_read bytes → (name ≡ bytes) × (is_name bytes ≡ true)
a-name bytes name some = go (is_name bytes) refl some
  where
    go : (b : Bool) → is_name bytes ≡ b → Some name ≡ (if b then Some bytes else None) → (name ≡ bytes) × (is_name bytes ≡ true)
    go false test some = absurd (let bad : Some name ≡ None = some in cc)
    go true test some = (cc, test)

-- a number by its form, and as a slot has it
anchor-of : (k : ℕ) (b : Bool) → is_anchor k ≡ b → is_of Anchor k ≡ b
anchor-of k true h = grind (arith, nat_tests)
anchor-of k false h = grind (arith, nat_tests)

size-of : (n : ℕ) (b : Bool) → is_number n ≡ b → is_of Size n ≡ b
size-of n true h = grind (arith, nat_tests)
size-of n false h = grind (arith, nat_tests)

-- a number that is no anchor
pub no-anchor : (k : ℕ) → None ≡ anchor_in k → is_of Anchor k ≡ false
no-anchor k none = anchor-of k false (go (is_anchor k) none)
  where
    go : (b : Bool) → None ≡ (if b then Some k else None) → b ≡ false
    go false none = refl
    go true none = absurd (let bad : None ≡ Some k = none in cc)

-- a number that is one
pub an-anchor : (k anchor : ℕ) → Some anchor ≡ anchor_in k → (anchor ≡ k) × (is_of Anchor k ≡ true)
an-anchor k anchor some = go (is_anchor k) refl some
  where
    go : (b : Bool) → is_anchor k ≡ b → Some anchor ≡ (if b then Some k else None) → (anchor ≡ k) × (is_of Anchor k ≡ true)
    go false test some = absurd (let bad : Some anchor ≡ None = some in cc)
    go true test some = (cc, anchor-of k true test)

-- what holds where a call was done, of one that was
pub was-ok : {A E P : Type 0} (r : Result A E) → is_err r ≡ false → OnOk r P → P
was-ok (Ok x) done holds = holds
was-ok (Err e) done holds = absurd (cc)

-- tests of two parts
pub both-are : {a b c : Bool} → a ≡ true → b ≡ c → (a && b) ≡ c
both-are {a} {b} first second = ap (λ x. x && b) first ∙ second

pub first-fails : {a : Bool} (b : Bool) → a ≡ false → (a && b) ≡ false
first-fails {a} b first = ap (λ x. x && b) first

-- ---- whether bytes can be put, by what holds of the arguments

module _ (name bytes : List ℕ) (anchor offset : ℕ) where
  pub put-name : is_name name ≡ false → in_range (command.Put name anchor offset bytes) ≡ false
  unfolding in_range
  put-name a = rw a refl

  pub put-anchor : is_name name ≡ true → is_of Anchor anchor ≡ false → in_range (command.Put name anchor offset bytes) ≡ false
  unfolding in_range
  put-anchor a b = rw (a, b) refl

  pub put-number : is_name name ≡ true → is_of Anchor anchor ≡ true → is_number offset ≡ false → in_range (command.Put name anchor offset bytes) ≡ false
  unfolding in_range
  put-number a b c = rw (a, b, size-of offset false c) refl

  pub put-bytes : is_name name ≡ true → is_of Anchor anchor ≡ true → is_number offset ≡ true → nat_le 1 (length bytes) ≡ false
      → in_range (command.Put name anchor offset bytes) ≡ false
  unfolding in_range
  put-bytes a b c d = rw (a, b, size-of offset true c, d) refl

  pub put-good : is_name name ≡ true → is_of Anchor anchor ≡ true → is_number offset ≡ true → nat_le 1 (length bytes) ≡ true
      → in_range (command.Put name anchor offset bytes) ≡ true
  unfolding in_range
  put-good a b c d = rw (a, b, size-of offset true c, d) refl

-- ---- whether bytes can be written at an address

module _ (name bytes : List ℕ) (address : ℕ) where
  pub write-name : is_name name ≡ false → in_range (command.Raw (raw.Write name address bytes)) ≡ false
  unfolding in_range
  write-name a = rw a refl

  pub write-bytes : is_name name ≡ true → nat_le 1 (length bytes) ≡ false → in_range (command.Raw (raw.Write name address bytes)) ≡ false
  unfolding in_range
  write-bytes a b = rw (a, b) refl

  pub write-good : is_name name ≡ true → nat_le 1 (length bytes) ≡ true → in_range (command.Raw (raw.Write name address bytes)) ≡ true
  unfolding in_range
  write-good a b = rw (a, b) refl

-- ---- commands of arguments that are read as others are

-- what is no part of a command by its last test
pub last-fails : (a : Bool) → (a && false) ≡ false
last-fails true = refl
last-fails false = refl

-- two names that read the same, in a command that is out of range with what is no name
pub by-name : (C : List ℕ → Command) (n bytes : List ℕ) → name_read n ≡ name_read bytes
    → ((m : List ℕ) → is_name m ≡ false → in_range (C m) ≡ false) → in_form (C n) ≡ in_form (C bytes)
by-name C n bytes same bad = go (is_name n) (is_name bytes) refl refl same
  where
    go : (b d : Bool) → is_name n ≡ b → is_name bytes ≡ d → (if b then Some n else None) ≡ (if d then Some bytes else None)
        → in_form (C n) ≡ in_form (C bytes)
    go true true p q e = let is : n ≡ bytes = cc in ap (λ m. in_form (C m)) is
    go true false p q e = absurd (cc)
    go false true p q e = absurd (cc)
    go false false p q e = sym (out-of-form (C n) (bad n p)) ∙ out-of-form (C bytes) (bad bytes q)

-- the same of anchors
pub by-anchor : (C : ℕ → Command) (k anchor : ℕ) → anchor_in k ≡ anchor_in anchor
    → ((m : ℕ) → is_of Anchor m ≡ false → in_range (C m) ≡ false) → in_form (C k) ≡ in_form (C anchor)
by-anchor C k anchor same bad = go (is_anchor k) (is_anchor anchor) refl refl same
  where
    go : (b d : Bool) → is_anchor k ≡ b → is_anchor anchor ≡ d → (if b then Some k else None) ≡ (if d then Some anchor else None)
        → in_form (C k) ≡ in_form (C anchor)
    go true true p q e = let is : k ≡ anchor = cc in ap (λ m. in_form (C m)) is
    go true false p q e = absurd (cc)
    go false true p q e = absurd (cc)
    go false false p q e = sym (out-of-form (C k) (bad k (anchor-of k false p))) ∙ out-of-form (C anchor) (bad anchor (anchor-of anchor false q))
