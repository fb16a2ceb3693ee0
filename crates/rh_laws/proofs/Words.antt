-- Words that are joined by spaces are found again.
use Rattle.rh_laws.proofs.Common.{◌≡◌, ℕ, Bool, true, false, ◌&&◌, not, List, [], ◌∷◌, length, refl, ◌∙◌, ap, arith, nat_le, nat_lt, ◌==◌, Some, Ok, list_all}
use Rattle.rh_laws.proofs.Common.{◌>>=◌, join_with_byte, nat_tests, space, Command, longest_line, is_skipped, command_of, line_means, and_left, and_right}
use Rattle.std.specs.List.{slice_split, filter}
use Rattle.std.proofs.lemmas.List.Splits.{slice_split_none, slice_split_at}
use Rattle.std.proofs.lemmas.List.Sums.{AllPass-from_list_all}
use Rattle.rh_defs.specs.Line.{words_of}

-- what passes one test passes another
pub all_pass : (p q : ℕ → Bool) (xs : List ℕ) → ((b : ℕ) → p b ≡ true → q b ≡ true) → list_all p xs ≡ true →
    list_all q xs ≡ true
all_pass p q [] passes h = refl
all_pass p q (x ∷ xs) passes h =
    rw (passes x (and_left (p x) (list_all p xs) h)) (all_pass p q xs passes (and_right (p x) (list_all p xs) h))

-- a byte that parts no words
abbrev pub is_inner : ℕ → Bool
is_inner b = not (b == space)

-- one byte or more, none of them a space
abbrev pub is_whole : List ℕ → Bool
is_whole w = nat_le 1 (length w) && list_all is_inner w

-- ---- what is joined is split again

not_true : (b : Bool) → not b ≡ true → b ≡ false
not_true true h = cc
not_true false h = refl

split_joined : (w : List ℕ) (ws : List (List ℕ)) → list_all is_whole (w ∷ ws) ≡ true →
    slice_split (λ b. b == space) (join_with_byte space (w ∷ ws)) ≡ w ∷ ws
split_joined w [] h =
    let inner = AllPass-from_list_all is_inner w (and_right (nat_le 1 (length w)) (list_all is_inner w) (and_left
    (is_whole w) true h)) in
    slice_split_none (λ b. b == space) w (λ k d l. not_true _ (inner k d l))
split_joined w (y ∷ ws) h =
    let inner = AllPass-from_list_all is_inner w (and_right (nat_le 1 (length w)) (list_all is_inner w) (and_left
    (is_whole w) (list_all is_whole (y ∷ ws)) h)) in
    slice_split_at (λ b. b == space) w space (join_with_byte space (y ∷ ws)) (λ k d l. not_true _ (inner k d l)) refl
    ∙ ap (λ v. w ∷ v) (split_joined y ws (and_right (is_whole w) (list_all is_whole (y ∷ ws)) h))

has_one : (n : ℕ) → nat_le 1 n ≡ true → not (n == 0) ≡ true
has_one n h = grind (arith, nat_tests, h)

-- no word is dropped
all_kept : (ws : List (List ℕ)) → list_all is_whole ws ≡ true → filter (λ w. not (length w == 0)) ws ≡ ws
all_kept [] h = refl
all_kept (w ∷ ws) h =
    let some : nat_le 1 (length w) ≡ true = and_left _ (list_all is_inner w) (and_left (is_whole w)
    (list_all is_whole ws) h) in
    rw (has_one (length w) some) (ap (λ v. w ∷ v) (all_kept ws (and_right (is_whole w) (list_all is_whole ws) h)))

pub words_joined : (w : List ℕ) (ws : List (List ℕ)) → list_all is_whole (w ∷ ws) ≡ true →
    words_of (join_with_byte space (w ∷ ws)) ≡ w ∷ ws
words_joined w ws h = ap (filter (λ w. not (length w == 0))) (split_joined w ws h) ∙ all_kept (w ∷ ws) h

-- ---- a line of words means the command that they spell

short : (n : ℕ) → nat_le n longest_line ≡ true → nat_lt longest_line n ≡ false
short n h = grind (arith, nat_tests, h)

pub line_joined : (w : List ℕ) (ws : List (List ℕ)) (c : Command) → list_all is_whole (w ∷ ws) ≡ true →
    nat_le (length (join_with_byte space (w ∷ ws))) longest_line ≡ true → is_skipped (w ∷ ws) ≡ false →
    command_of (w ∷ ws) ≡ Ok c → line_means (join_with_byte space (w ∷ ws)) ≡ Ok (Some c)
unfolding line_means ◌>>=◌
line_joined w ws c whole fits meant spelled =
    rw (short (length (join_with_byte space (w ∷ ws))) fits, words_joined w ws whole, meant, spelled) refl
