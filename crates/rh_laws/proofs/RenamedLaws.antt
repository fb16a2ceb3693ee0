-- Commands, runs and answers on desks with their bytes renamed, and where shown bytes come from.
use Rattle.rh_laws.proofs.Common.{◌≡◌, ℕ, ◌+◌, Bool, true, false, cond, List, [], ◌∷◌, length, map, refl, sym, ap, ◌∙◌, arith, length-map, take-map, drop-map}
use Rattle.rh_laws.proofs.Common.{Ok, Err, ◌==◌, ◌||◌, nat_lt, take, drop, list_any, AllByRecursion, BadRange, Command, Granted, refuse_if, FileList, Desk}
use Rattle.rh_laws.proofs.Common.{Answer, Bytes, Told, asked, step, start_with, after, replies, Follows, follows-as}
use Rattle.rh_defs.specs.declared.command.Command.TheVariants as command
use Rattle.rh_defs.specs.declared.raw_command.RawCommand.TheVariants as raw
use Rattle.rh_defs.specs.declared.question.Question.TheVariants as question
use Rattle.rh_defs.specs.Questions.{Listed, shown_at}
use Rattle.rh_defs.proofs.Follows.{or_else-follows}
use Rattle.rh_laws.specs.Renaming.{renamed, renamed_files, renamed_command, renamed_listed, renamed_told, renamed_piece, StepsRenamed, ShowsRenamed}
use Rattle.rh_laws.specs.Renaming.{PiecesRenamed, AlwaysRenamed, has_byte, puts_byte, is_given, ShowsGiven}
use Rattle.rh_laws.proofs.RenamedParts.{By, follows-by}
use Rattle.rh_laws.proofs.RenamedSlots.{slot_block-renamed}
use Rattle.rh_laws.proofs.Asked.{asked-renamed}
use Rattle.rh_laws.proofs.RenamedDesks.{renamed_with, named-renamed}
use Rattle.rh_laws.proofs.EachCommand.{change-renamed}

-- ---- one command

pub steps-renamed : StepsRenamed
steps-renamed f e d c = or_else-follows (By (renamed_with f)) _ _ (change-renamed f e d c) (λ refusal. refl)

-- ---- what is shown

pub shows-renamed : ShowsRenamed
shows-renamed f e d q = go (asked-renamed f d q)
  where
    go : {x y : Granted Told} → Follows (By (λ (told : Told). (told.0, renamed_listed f told.1))) x y → y ≡ renamed_told f x
    go (Follows.both same) = ap (λ (told : Told). Ok told) same
    go Follows.neither = refl

pub pieces-renamed : PiecesRenamed
unfolding shown_at
pieces-renamed f e d name k offset n =
    go (follows-by _ _ (named-renamed f name d) λ t. follows-by _ _ (slot_block-renamed f k t.slot) λ b.
    follows-as _ _ _ _ (ap (λ m. refuse_if (nat_lt m (offset + n)) BadRange) (length-map b.here.bytes f))
    (Follows.both (
    ap (λ m. (m, take n (drop offset (map f b.here.bytes)))) (length-map b.here.bytes f)
    ∙ ap (λ l. (length b.here.bytes, take n l)) (drop-map f offset b.here.bytes)
    ∙ ap (λ l. (length b.here.bytes, l)) (take-map f n (drop offset b.here.bytes))
    )))
  where
    go : {x y : Granted (ℕ × List ℕ)} → Follows (By (λ (piece : ℕ × List ℕ). (piece.0, map f piece.1))) x y → y ≡ renamed_piece f x
    go (Follows.both same) = ap (λ (piece : ℕ × List ℕ). Ok piece) same
    go Follows.neither = refl

-- ---- runs

after-renamed : (f : ℕ → ℕ) → f 0 ≡ 0 → (commands : List Command) (d : Desk) → after (renamed f d) (map (renamed_command f) commands)
    ≡ renamed f (after d commands)
after-renamed f e [] d = refl
after-renamed f e (c ∷ commands) d =
    ap (λ (a : Answer). after a.0 (map (renamed_command f) commands)) (steps-renamed f e d c) ∙ after-renamed f e commands (step d c).0

replies-renamed : (f : ℕ → ℕ) → f 0 ≡ 0 → (commands : List Command) (d : Desk) → replies (renamed f d) (map (renamed_command f) commands) ≡ replies d commands
replies-renamed f e [] d = refl
replies-renamed f e (c ∷ commands) d =
    ap (λ (a : Answer). a.1 ∷ replies a.0 (map (renamed_command f) commands)) (steps-renamed f e d c)
    ∙ ap (λ l. (step d c).1 ∷ l) (replies-renamed f e commands (step d c).0)

pub always-renamed : AlwaysRenamed
always-renamed f e pool handle ref files commands = record {
  desk = after-renamed f e commands (start_with pool files handle ref);
  replies = replies-renamed f e commands (start_with pool files handle ref);
}

-- ---- where shown bytes come from

-- 0 stays 0, whether it passes a test or not
pub zero-stays : (b : Bool) → ◌≡◌ {A = ℕ} (cond b 0 0) 0
zero-stays true = refl
zero-stays false = refl

any-here : {A : Type 0} (test : A → Bool) (x : A) (xs : List A) → test x ≡ true → list_any test (x ∷ xs) ≡ true
any-here test x xs e = ap (λ b. b || list_any test xs) e

pub or-right : (a b : Bool) → b ≡ true → (a || b) ≡ true
or-right true b e = refl
or-right false b e = e

pub or-left : (a b : Bool) → a ≡ true → (a || b) ≡ true
or-left a b e = ap (λ c. c || b) e

-- bytes that all pass a test, and by it stay
pub stay : (test : ℕ → Bool) (bytes : List ℕ) → ((b : ℕ) → has_byte b bytes ≡ true → test b ≡ true) → map (λ b. cond (test b) b 0) bytes ≡ bytes
stay test [] all = refl
stay test (x ∷ xs) all =
    ap (λ t. cond t x 0 ∷ map (λ b. cond (test b) b 0) xs) (all x (or-left (x == x) (has_byte x xs) (same x)))
    ∙ ap (λ l. x ∷ l) (stay test xs (λ b e. all b (or-right (x == b) (has_byte b xs) e)))
  where
    same : (n : ℕ) → (n == n) ≡ true
    same n = grind arith

-- the commands stay whose bytes pass the test, and so do the files
commands-stay : (test : ℕ → Bool) (commands : List Command) → ((b : ℕ) → list_any (puts_byte b) commands ≡ true → test b ≡ true) →
    map (renamed_command (λ b. cond (test b) b 0)) commands ≡ commands
commands-stay test [] all = refl
commands-stay test (c ∷ commands) all =
    ap (λ d. d ∷ map (renamed_command (λ b. cond (test b) b 0)) commands) (one c (λ b e. all b (any-here (puts_byte b) c commands e)))
    ∙ ap (λ l. c ∷ l) (commands-stay test commands (λ b e. all b (or-right (puts_byte b c) (list_any (puts_byte b) commands) e)))
  where
    one : (c : Command) → ((b : ℕ) → puts_byte b c ≡ true → test b ≡ true) → renamed_command (λ b. cond (test b) b 0) c ≡ c
    one (command.Put name k offset bytes) all = ap (command.Put name k offset) (stay test bytes all)
    one (command.Raw (raw.Write name x bytes)) all = ap (λ l. command.Raw (raw.Write name x l)) (stay test bytes all)
    one c all = refl

files-stay : (test : ℕ → Bool) (files : FileList) → ((b : ℕ) → list_any (λ file. has_byte b file.1) files ≡ true → test b ≡ true) →
    renamed_files (λ b. cond (test b) b 0) files ≡ files
files-stay test [] all = refl
files-stay test (file ∷ files) all =
    ap (λ bytes. (file.0, bytes) ∷ renamed_files (λ b. cond (test b) b 0) files) (stay test file.1 (λ b e. all b (or-left (has_byte b file.1)
    (list_any (λ other. has_byte b other.1) files) e)))
    ∙ ap (λ l. file ∷ l) (files-stay test files (λ b e. all b (or-right (has_byte b file.1) (list_any (λ other. has_byte b other.1) files) e)))

-- bytes that stay pass the test, which 0 passes
pub pass : (test : ℕ → Bool) → test 0 ≡ true → (bytes : List ℕ) → map (λ b. cond (test b) b 0) bytes ≡ bytes → AllByRecursion (λ b. test b ≡ true) bytes
pass test zero-is [] e = tt
pass test zero-is (x ∷ xs) e = (one (test x) refl (heads e), pass test zero-is xs (tails e))
  where
    heads : {a b : ℕ} {more others : List ℕ} → ◌≡◌ {A = List ℕ} (a ∷ more) (b ∷ others) → a ≡ b
    heads e = cc

    tails : {a b : ℕ} {more others : List ℕ} → ◌≡◌ {A = List ℕ} (a ∷ more) (b ∷ others) → more ≡ others
    tails e = cc

    one : (t : Bool) → test x ≡ t → cond (test x) x 0 ≡ x → test x ≡ true
    one true is stays = is
    one false is stays = ap test (sym (sym (ap (λ t. cond t x 0) is) ∙ stays)) ∙ zero-is

abbrev listed_bytes : Listed → List ℕ
listed_bytes (Bytes bytes) = bytes
listed_bytes _ = []

abbrev bytes_of_told : Granted Told → List ℕ
bytes_of_told (Ok told) = listed_bytes told.1
bytes_of_told (Err refusal) = []

pub shows-given : ShowsGiven
shows-given pool handle ref files commands name k r bytes is =
    pass given refl bytes (ap bytes_of_told (sym (ap (renamed_told f) is) ∙ sym (shows-renamed f (zero-stays (given 0)) d
    (question.Show name k)) ∙ ap (λ (e : Desk). asked e (question.Show name k)) same ∙ is))
  where
    given : ℕ → Bool
    given b = is_given files commands b

    f : ℕ → ℕ
    f b = cond (given b) b 0

    d : Desk
    d = after (start_with pool files handle ref) commands

    same : renamed f d ≡ d
    same =
        sym (after-renamed f (zero-stays (given 0)) commands (start_with pool files handle ref))
        ∙ ap (λ l. after (start_with pool l handle ref) (map (renamed_command f) commands)) (files-stay given files λ b e. or-right (b == 0) _
        (or-right (list_any (puts_byte b) commands) _ e))
        ∙ ap (after (start_with pool files handle ref)) (commands-stay given commands λ b e. or-right (b == 0) _ (or-left (list_any
        (puts_byte b) commands) _ e))
