-- What was found is what is asked for.
use Rattle.std.proofs.Common.{◌≡◌, ◌≢◌, ◌≤◌, ap, arith, refl, subst, sym, ◌∙◌, ℕ, codes, List, [], map, Bool, true, false, Option, Some, None, Result, Ok}
use Rattle.std.proofs.Common.{Err, Bor, option_map, unwrap_or}
use Rattle.std.specs.Str.Parse.{ParsesUnsigned}
use Rattle.clap.specs.Words.{ReadsOne, Row, Text, first_of, one_of}
use Rattle.rh_desk.specs.declared.command_line.TheConstants.{PAGES}
use Rattle.rh_desk.specs.Requests.{AsksLens, AsksFor, AsksKind, AsksMarked, AsksPages}
use Rattle.rh_desk.specs.declared.request.ImageKind.TheVariants.{Heap, Slot}
use Rattle.rh_desk.specs.declared.request.Request.{Request}
use Rattle.rh_desk.specs.declared.request.Request.TheVariants.{Check, Run}
use Rattle.rh_defs.specs.declared.sizes.TheConstants.{MIN_PAGES}
use Rattle.rh_defs.specs.Forms.{most_pages}

-- the two halves of a value that is there
pub both-are : {X A B : Type 0} (f : X → A) (g : X → B) (o : Option X) (a : A) (b : B) → Some a ≡ option_map f o
    → Some b ≡ option_map {T = A × B} (λ p. p.1) (option_map {U = A × B} (λ x. (f x, g x)) o) → option_map {U = A × B} (λ x. (f x, g x)) o ≡ Some (a, b)
both-are f g (Some x) a b first second = let e = first in let h = second in cc
both-are f g None a b first second = absurd (let e = first in cc)

-- the pages that are read
pub pages-are : {E : Type 0} (G : List ℕ → Result ℕ E → Type 0) (text : Option Text) (read : Option ℕ)
    → ((t : List ℕ) (x : Result ℕ E) → G t x → ParsesUnsigned 32 10 t x)
    → (text ≡ None → read ≡ None) → ((t : List ℕ) → text ≡ Some t → ReadsOne G t read) → AsksPages text (unwrap_or read PAGES)
pages-are G None read parses none some = ap (λ r. unwrap_or r PAGES) (none refl)
pages-are G (Some t) (Some n) parses none some = λ numeral small. (parses t (Ok n) (some t refl)).1
pages-are G (Some t) None parses none some = λ numeral small. let got = some t refl in absurd (parses t (Err got.0) got.1 (numeral, small))

-- where pages in the range are asked for, those that are read are in the range
pub pages-fit : {E : Type 0} (G : List ℕ → Result ℕ E → Type 0) (text : Option Text) (read : Option ℕ)
    → ((t : List ℕ) (x : Result ℕ E) → G t x → ParsesUnsigned 32 10 t x)
    → (text ≡ None → read ≡ None) → ((t : List ℕ) → text ≡ Some t → ReadsOne G t read) → (pages : ℕ) → MIN_PAGES ≤ pages → pages ≤ most_pages
    → AsksPages text pages → (MIN_PAGES ≤ unwrap_or read PAGES) × (unwrap_or read PAGES ≤ most_pages)
pages-fit G text None parses none some pages least most asks = (omega arith, omega arith)
pages-fit G None (Some n) parses none some pages least most asks = absurd (let no = none refl in cc)
pages-fit G (Some t) (Some n) parses none some pages least most asks =
    let is = parses t (Ok n) (some t refl) in
    let same : pages ≡ n = asks is.0.0 is.0.1 ∙ sym is.1 in
    (subst (λ m. MIN_PAGES ≤ m) same least, subst (λ m. m ≤ most_pages) same most)

-- marked steps alone are asked for where the flag was found
pub marks-asked : (text : Option Text) (flag : Bool) → (text ≡ None → flag ≡ false) → (text ≡ Some (codes "true") → flag ≡ true)
    → (text ≡ Some (codes "false") → flag ≡ false) → AsksMarked text flag
marks-asked None flag none value other = none refl
marks-asked (Some t) flag none value other = (λ yes. value (ap Some yes), λ no. other (ap Some no))

-- a lens is asked for where the flag was found
pub lens-asked : (text : Option Text) (flag : Bool) → (text ≡ None → flag ≡ false) → (text ≡ Some (codes "false") → flag ≡ false) → flag ≡ true
    → AsksLens text (Some (record { width = 960; scale = 16 }))
lens-asked None flag none other is = absurd (let no = none refl in cc)
lens-asked (Some t) flag none other is = (λ yes. refl, λ no. absurd (let is_false = other (ap Some no) in cc))

-- and true scale where it wasn't
pub no-lens-asked : (text : Option Text) (flag : Bool) → (text ≡ Some (codes "true") → flag ≡ true) → flag ≡ false → AsksLens text None
no-lens-asked None flag value is = refl
no-lens-asked (Some t) flag value is = (λ yes. absurd (let is_true = value (ap Some yes) in cc), λ no. refl)

-- the words that are found, where there are any
pub words-are : (found : Option (Bor (List (Bor Text)))) (others : Bor (List (Bor Text))) (all : Option (List Text))
    → option_map (λ s. map (λ v. v.now) s.now) found ≡ all → others.now ≡ [] → map (λ v. v.now) (unwrap_or found others).now ≡ unwrap_or all []
words-are (Some s) others all same none = ap (λ a. unwrap_or a []) same
words-are None others all same none = ap (map (λ v. v.now)) none ∙ ap (λ a. unwrap_or a []) same

-- a slot is asked for where the flag was found
pub slot-asked : (text : Option Text) (flag : Bool) → (text ≡ None → flag ≡ false) → (text ≡ Some (codes "false") → flag ≡ false) → flag ≡ true
    → AsksKind text Slot
slot-asked None flag none other is = absurd (let no = none refl in cc)
slot-asked (Some t) flag none other is = (λ yes. refl, λ no. absurd (let is_false = other (ap Some no) in cc))

-- and a heap where it wasn't
pub heap-asked : (text : Option Text) (flag : Bool) → (text ≡ Some (codes "true") → flag ≡ true) → flag ≡ false → AsksKind text Heap
heap-asked None flag value is = refl
heap-asked (Some t) flag value is = (λ yes. absurd (let is_true = value (ap Some yes) in cc), λ no. refl)

-- a check without a file asks for nothing
pub asks-no-file : (name : Text) (rows : List Row) → name ≡ codes "check" → first_of (codes "file") rows ≡ None → (request : Request)
    → AsksFor (Some (name, rows)) request → ⊥
asks-no-file name rows is none (Check k file) asks = let some = asks.2 in cc
asks-no-file name rows is none (Run request) asks = asks.0 is

-- neither does a run without a script
pub asks-no-script : (name : Text) (rows : List Row) → name ≢ codes "check" → first_of (codes "script") rows ≡ None → (request : Request)
    → AsksFor (Some (name, rows)) request → ⊥
asks-no-script name rows other none (Check k file) asks = other asks.0
asks-no-script name rows other none (Run request) asks = let some = asks.2 in cc

-- nor one over pages out of the range
pub asks-no-pages : (name : Text) (rows : List Row) (pages : ℕ) → name ≢ codes "check"
    → ((asked : ℕ) → MIN_PAGES ≤ asked → asked ≤ most_pages → AsksPages (one_of (codes "pages") rows) asked → (MIN_PAGES ≤ pages) × (pages ≤ most_pages))
    → ((MIN_PAGES ≤ pages) × (pages ≤ most_pages) → ⊥) → (request : Request) → AsksFor (Some (name, rows)) request → ⊥
asks-no-pages name rows pages other fit out (Check k file) asks = other asks.0
asks-no-pages name rows pages other fit out (Run request) asks = out (fit request.pages request.fewest request.most asks.1)
