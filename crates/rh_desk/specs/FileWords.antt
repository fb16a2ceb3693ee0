-- The NAME=PATH words.
use Rattle.std.specs.Prelude.{◌≡◌, ◌≢◌, ◌⊎◌, ℕ, ◌==◌, ◌&&◌, not, Bool, false, List, ◌∷◌, ◌++◌, map, length, AllPairs, Contains}
use Rattle.std.specs.List.{AllPass, before_first, after_first}
use Rattle.rh_defs.specs.Forms.{is_name}

-- what stands before the first `=` of a word, and behind it
abbrev pub word_name : List ℕ → List ℕ
word_name word = before_first (λ b. b == 61) word

abbrev pub word_path : List ℕ → List ℕ
word_path word = after_first (λ b. b == 61) word

-- a name, `=` and a path of at least one byte
abbrev pub is_file_word : List ℕ → Bool
is_file_word word = is_name (word_name word) && not (length (word_path word) == 0)

-- each word is a NAME=PATH word, and no two have one name
pub record AreGood (words : List (List ℕ)) : Type 0 where
  pub formed : AllPass is_file_word words
  pub distinct : AllPairs (λ name later. name ≢ later) (map word_name words)

-- the first word that is no NAME=PATH word, or whose name a word before it has
pub record IsFirstBad (words : List (List ℕ)) (word : List ℕ) : Type 0 where
  pub before : List (List ℕ)
  pub behind : List (List ℕ)
  pub whole : words ≡ before ++ word ∷ behind
  pub good : AreGood before
  pub bad : (is_file_word word ≡ false) ⊎ Contains (map word_name before) (word_name word)
