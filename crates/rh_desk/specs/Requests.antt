-- What the words ask for, by the values that were found for each.
use Rattle.std.specs.Prelude.{◌≡◌, ◌≢◌, ◌<◌, ◌^◌, ℕ, Bool, true, false, List, [], map, codes, Option, Some, None, unwrap_or}
use Rattle.std.specs.Str.Parse.{IsNumeral, digits_value, without_leading_plus}
use Rattle.clap.specs.Words.{Row, Text, all_of, first_of, one_of}
use Rattle.rh_pictures.specs.declared.lens.size.LensSize.{LensSize}
use Rattle.rh_desk.specs.declared.request.ImageKind.{ImageKind}
use Rattle.rh_desk.specs.declared.request.ImageKind.TheVariants.{Heap, Slot}
use Rattle.rh_desk.specs.declared.request.Request.{Request}
use Rattle.rh_desk.specs.declared.request.Request.TheVariants.{Check, Run}
use Rattle.rh_desk.specs.declared.request.Shown.{Shown}
use Rattle.rh_desk.specs.declared.request.Shown.TheVariants.{Replies, Explanations, Map, Sheet}

-- the number that is given, and else 64
abbrev pub AsksPages : Option Text → ℕ → Type 0
AsksPages None pages = pages ≡ 64
AsksPages (Some text) pages =
    let digits = without_leading_plus text in
    IsNumeral 10 digits → digits_value 10 digits < 2 ^ 32 → pages ≡ digits_value 10 digits

-- a slot where the flag was given, for which `clap` keeps `true`, and else a heap
abbrev pub AsksKind : Option Text → ImageKind → Type 0
AsksKind None k = k ≡ Heap
AsksKind (Some text) k = (text ≡ codes "true" → k ≡ Slot) × (text ≡ codes "false" → k ≡ Heap)

-- whether marked steps alone are asked for
abbrev pub AsksMarked : Option Text → Bool → Type 0
AsksMarked None marked = marked ≡ false
AsksMarked (Some text) marked = (text ≡ codes "true" → marked ≡ true) × (text ≡ codes "false" → marked ≡ false)

-- a lens of the size that sheets have
abbrev pub IsLensAsked : Option LensSize → Type 0
IsLensAsked lens = lens ≡ Some (record { width = 960; scale = 16 })

-- whether a lens is asked for
abbrev pub AsksLens : Option Text → Option LensSize → Type 0
AsksLens None lens = lens ≡ None
AsksLens (Some text) lens = (text ≡ codes "true" → IsLensAsked lens) × (text ≡ codes "false" → lens ≡ None)

-- what the subcommand's name and values ask to be written of a script
abbrev pub AsksShown : Text → List Row → Shown → Type 0
AsksShown name rows Replies = (name ≢ codes "map") × (name ≢ codes "draw") × (name ≢ codes "explain")
AsksShown name rows Explanations = name ≡ codes "explain"
AsksShown name rows (Map marked) = (name ≡ codes "map") × AsksMarked (one_of (codes "marked") rows) marked
AsksShown name rows (Sheet form) =
    (name ≡ codes "draw")
    × AsksMarked (one_of (codes "marked") rows) form.marked
    × AsksLens (one_of (codes "lens") rows) form.lens

-- the subcommand's name and values ask for just this
abbrev pub AsksFor : Option (Text × List Row) → Request → Type 0
AsksFor None request = ⊥
AsksFor (Some (name, rows)) (Check k file) =
    (name ≡ codes "check")
    × AsksKind (one_of (codes "slot") rows) k
    × (first_of (codes "file") rows ≡ Some file.now)
AsksFor (Some (name, rows)) (Run request) =
    (name ≢ codes "check")
    × AsksPages (one_of (codes "pages") rows) request.pages
    × (first_of (codes "script") rows ≡ Some request.script.now)
    × (map (λ word. word.now) request.files.now ≡ unwrap_or (all_of (codes "files") rows) [])
    × AsksShown name rows request.shown

-- there is nothing that they ask for
abbrev pub AsksNothing : Option (Text × List Row) → Type 0
AsksNothing found = (request : Request) → AsksFor found request → ⊥
