-- How the words are looked over, one after the other.
use Rattle.std.proofs.Common.{◌≡◌, ◌≢◌, ◌⊎◌, inl, inr, refl, sym, ap, subst, ◌∙◌, ℕ, ◌+◌, ◌<◌, ◌≤◌, arith, Result, Ok, Err, OnOk, Bool, true, false, ◌||◌}
use Rattle.std.proofs.Common.{if◌then◌else◌, List, [], ◌∷◌, ◌++◌, length, map, drop, take, Option, Some, None, Bor}
use Rattle.std.proofs.Math.ListN.{get_or}
use Rattle.std.proofs.lemmas.List.{at_drop_more, get_or-map, length-map, map-append, map_more, take-append-drop, take_all}
use Rattle.std.proofs.lemmas.List.Elements.{All-more, All-nil, Contains-get_or}
use Rattle.std.proofs.lemmas.List.Folds.{list_any_at}
use Rattle.std.proofs.lemmas.List.Quantifiers.{all_pairs_push}
use Rattle.std.proofs.lemmas.Map.Views.{Contains-from_any}
use Rattle.std.proofs.lemmas.Slice.Eq.{bytes_eq-Decides}
use Rattle.std.specs.List.{AllPairs, Contains, list_any}
use Rattle.std.specs.Result.{IfErr, IsErrAnd, is_err}
use Rattle.std.specs.Str.{bytes_eq}
use Rattle.rh_defs.specs.Files.{FileList, has_file}
use Rattle.rh_desk.specs.FileWords.{AreGood, IsFirstBad, is_file_word, word_name, word_path}
use Rattle.rh_desk.specs.Inner.WordOfFile.{file_word}
use Rattle.rh_desk.specs.Telling.{Tells, TellsBadFile, TellsLoss, run_fault_text}
use Rattle.rh_lines.specs.Flow.{Output}
use Rattle.rh_session.specs.declared.status.RunFault.TheVariants.{NoMemory}
use Rattle.rh_desk.specs.declared.program_end.ProgramEnd.{ProgramEnd}
use Rattle.rh_desk.specs.declared.program_end.ProgramEnd.TheVariants.{Fault}

abbrev texts : List (Bor (List ℕ)) → List (List ℕ)
texts ws = map (λ w. w.now) ws

abbrev names : FileList → List (List ℕ)
names files = map (λ file. file.0) files

-- a name is given by the names alone
has_file-names : (name : List ℕ) (files : FileList) → has_file name files ≡ list_any (bytes_eq name) (names files)
has_file-names name [] = refl
has_file-names name (file ∷ files) = ap (λ b. bytes_eq name file.0 || b) (has_file-names name files)

some-if : {X : Type 0} (b : Bool) (x y : X) → Some x ≡ (if b then Some y else None) → (b ≡ true) × (x ≡ y)
some-if true x y e = (refl, (let f = e in cc))
some-if false x y e = absurd (let f = e in cc)

none-if : {X : Type 0} (b : Bool) (y : X) → None ≡ (if b then Some y else None) → b ≡ false
none-if true y e = absurd (let f = e in cc)
none-if false y e = refl

-- a word that is found has its name and its path
pub found-is : (word name path : List ℕ) → Some (name, path) ≡ file_word word → (is_file_word word ≡ true) × (name ≡ word_name word) × (path ≡ word_path word)
found-is word name path e =
    let s = some-if (is_file_word word) _ _ e in
    (s.0, ap (λ p. p.0) s.1, ap (λ p. p.1) s.1)

-- the word at a place
text-at : (ws : List (Bor (List ℕ))) (i : ℕ) (d : Bor (List ℕ)) → i < length ws → (i < length (texts ws)) × (get_or (texts ws) i d.now ≡ (get_or ws i d).now)
text-at ws i d inside = (subst (λ n. i < n) (sym (length-map ws (λ w. w.now))) inside, get_or-map (λ w. w.now) ws i d d.now inside)

-- no words are good words
pub good-none : AreGood []
good-none = record { formed = All-nil _; distinct = λ i j d below inside. absurd (omega arith) }

-- a name that none has differs from each
new-name : (name : List ℕ) (ns : List (List ℕ)) → list_any (bytes_eq name) ns ≡ false → (k : ℕ) (d : List ℕ) → k < length ns → get_or ns k d ≢ name
new-name name ns new k d inside same =
    let old : list_any (bytes_eq name) ns ≡ true = list_any_at (bytes_eq name) ns k d inside ((bytes_eq-Decides name (get_or ns k d)).1 (sym same)) in
    cc

-- good words and one with a name of its own
good-more : (ts : List (List ℕ)) (i : ℕ) (d : List ℕ) → i < length ts → is_file_word (get_or ts i d) ≡ true
    → list_any (bytes_eq (word_name (get_or ts i d))) (map word_name (take i ts)) ≡ false → AreGood (take i ts) → AreGood (take (i + 1) ts)
good-more ts i d inside formed new good = record {
  formed = All-more (λ word. is_file_word word ≡ true) ts i d inside good.formed formed;
  distinct = subst (AllPairs (λ name later. name ≢ later)) (sym (map_more word_name ts i d inside))
      (all_pairs_push (λ name later. name ≢ later) (map word_name (take i ts)) (word_name (get_or ts i d)) good.distinct (new-name _ _ new));
}

-- a word that is no good one behind good ones is the first bad one
first-bad : (ts : List (List ℕ)) (i : ℕ) (d word : List ℕ) → i < length ts → get_or ts i d ≡ word → AreGood (take i ts)
    → (is_file_word word ≡ false) ⊎ Contains (map word_name (take i ts)) (word_name word) → IsFirstBad ts word
first-bad ts i d word inside at good bad = record {
  before = take i ts;
  behind = drop (i + 1) ts;
  whole = sym (take-append-drop i ts) ∙ at_drop_more (λ xs. take i ts ++ xs) ts i d inside ∙ ap (λ w. take i ts ++ w ∷ drop (i + 1) ts) at;
  good = good;
  bad = bad;
}

-- a word that isn't found is the first bad one
pub bad-lost : (ws : List (Bor (List ℕ))) (i : ℕ) (d : Bor (List ℕ)) → i < length ws → None ≡ file_word (get_or ws i d).now → AreGood (take i (texts ws))
    → IsFirstBad (texts ws) (get_or ws i d).now
bad-lost ws i d inside lost good =
    let at = text-at ws i d inside in
    first-bad (texts ws) i d.now (get_or ws i d).now at.0 at.1 good (inl (none-if (is_file_word (get_or ws i d).now) _ lost))

-- so is one whose name was given before
pub bad-given : (files : FileList) (ws : List (Bor (List ℕ))) (i : ℕ) (d : Bor (List ℕ)) (name path : List ℕ) → i < length ws
    → Some (name, path) ≡ file_word (get_or ws i d).now
    → true ≡ has_file name files → names files ≡ map word_name (take i (texts ws)) → AreGood (take i (texts ws)) → IsFirstBad (texts ws) (get_or ws i d).now
bad-given files ws i d name path inside found old named good =
    let at = text-at ws i d inside in
    let is = found-is (get_or ws i d).now name path found in
    let held : list_any (bytes_eq (word_name (get_or ws i d).now)) (map word_name (take i (texts ws))) ≡ true =
    ap (λ ns. list_any (bytes_eq (word_name (get_or ws i d).now)) ns) (sym named) ∙ ap (λ n. list_any (bytes_eq n) (names files)) (sym is.1)
    ∙ sym (has_file-names name files) ∙ sym old in
    first-bad (texts ws) i d.now (get_or ws i d).now at.0 at.1 good (inr (Contains-from_any (λ x y. (bytes_eq-Decides x y).0) _ _ held))

-- behind good words one that is found and has a name of its own is good
pub good-new : (files : FileList) (ws : List (Bor (List ℕ))) (i : ℕ) (d : Bor (List ℕ)) (name path : List ℕ) → i < length ws
    → Some (name, path) ≡ file_word (get_or ws i d).now
    → false ≡ has_file name files → names files ≡ map word_name (take i (texts ws)) → AreGood (take i (texts ws)) → AreGood (take (i + 1) (texts ws))
good-new files ws i d name path inside found new named good =
    let at = text-at ws i d inside in
    let is = found-is (get_or ws i d).now name path found in
    let own : list_any (bytes_eq (word_name (get_or (texts ws) i d.now))) (map word_name (take i (texts ws))) ≡ false =
    ap (λ ns. list_any (bytes_eq (word_name (get_or (texts ws) i d.now))) ns) (sym named) ∙ ap (λ w. list_any (bytes_eq (word_name w)) (names files)) at.1
    ∙ ap (λ n. list_any (bytes_eq n) (names files)) (sym is.1) ∙ sym (has_file-names name files) ∙ sym new in
    good-more (texts ws) i d.now at.0 (ap is_file_word at.1 ∙ is.0) own good

-- the files that are there, and one more, have the names of the words so far
pub names-more : (files : FileList) (ws : List (Bor (List ℕ))) (i : ℕ) (d : Bor (List ℕ)) (name path bytes : List ℕ) → i < length ws
    → Some (name, path) ≡ file_word (get_or ws i d).now
    → names files ≡ map word_name (take i (texts ws)) → names (files ++ (name, bytes) ∷ []) ≡ map word_name (take (i + 1) (texts ws))
names-more files ws i d name path bytes inside found named =
    let at = text-at ws i d inside in
    map-append (λ file. file.0) files ((name, bytes) ∷ [])
    ∙ ap (λ ns. ns ++ name ∷ []) named
    ∙ ap (λ n. map word_name (take i (texts ws)) ++ n ∷ []) ((found-is (get_or ws i d).now name path found).1 ∙ ap word_name (sym at.1))
    ∙ sym (map_more word_name (texts ws) i d.now at.0)

-- the word at a place is one of the words
word-in : (ws : List (Bor (List ℕ))) (i : ℕ) (d : Bor (List ℕ)) → i < length ws → Contains (texts ws) (get_or ws i d).now
word-in ws i d inside =
    let at = text-at ws i d inside in
    subst (Contains (texts ws)) at.1 (Contains-get_or (texts ws) i d.now at.0)

-- the file of a word can't be had, or memory was refused
pub lost-file : {F : Type 0} (remaining : F → Option (List ℕ)) (old new : Output)
    (ws : List (Bor (List ℕ))) (i : ℕ) (d : Bor (List ℕ)) (name path : List ℕ) (ending : ProgramEnd)
    → i < length ws
    → Some (name, path) ≡ file_word (get_or ws i d).now → ending ≡ Fault
    → TellsLoss remaining old new path ⊎ Tells old new (run_fault_text NoMemory)
    → TellsBadFile remaining old new (texts ws) ending
lost-file remaining old new ws i d name path ending inside found fault (inl errors) =
    inr ((get_or ws i d).now, fault, word-in ws i d inside, subst (λ p. TellsLoss remaining old new p) (found-is (get_or ws i d).now name path found).2 errors)
lost-file remaining old new ws i d name path ending inside found fault (inr errors) = inl (inl (fault, errors))

-- past the last word all are good
pub all-good : (ws : List (Bor (List ℕ))) (i : ℕ) → length ws ≤ i → AreGood (take i (texts ws)) → AreGood (texts ws)
all-good ws i past good = subst AreGood (take_all i (texts ws) (subst (λ n. n ≤ i) (sym (length-map ws (λ w. w.now))) past)) good

-- the names of the words are those of their texts
names-of-texts : (ws : List (Bor (List ℕ))) → map word_name (texts ws) ≡ map (λ w. word_name w.now) ws
names-of-texts [] = refl
names-of-texts (w ∷ ws) = ap (λ ns. word_name w.now ∷ ns) (names-of-texts ws)

-- and the files have the names of all
pub all-named : (files : FileList) (ws : List (Bor (List ℕ))) (i : ℕ) → length ws ≤ i → names files ≡ map word_name (take i (texts ws))
    → names files ≡ map (λ w. word_name w.now) ws
all-named files ws i past named =
    named ∙ ap (map word_name) (take_all i (texts ws) (subst (λ n. n ≤ i) (sym (length-map ws (λ w. w.now))) past)) ∙ names-of-texts ws

-- what holds at Ok, where there is no Err
pub at-ok : {T E : Type 0} {P : Type 0} (r : Result T E) → false ≡ is_err r → OnOk r P → P
at-ok (Ok v) e p = p
at-ok (Err x) e p = absurd (let f = e in cc)

-- an error that a `?` hands on
pub at-err : {T E : Type 0} (P : E → Type 0) (e : E) (r : Result T E) → IsErrAnd r (λ x. x ≡ e) → P e → IfErr r P
at-err P e (Ok v) same p = absurd same
at-err P e (Err x) same p = subst P (sym same) p
