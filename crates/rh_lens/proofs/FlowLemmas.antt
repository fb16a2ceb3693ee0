-- The parts that are left of a band, with one piece more.
use Rattle.std.proofs.Common.{ℕ, ◌+◌, ◌<◌, ◌≡◌, Some, true, false, cond, arith, sym, ap, ◌∙◌, List, ◌∷◌, ◌++◌, append_assoc, map}
use Rattle.std.specs.Prelude.{nat_lt, if◌then◌else◌}
use Rattle.std.proofs.lemmas.Bool.Decides.{nat_tests}
use Rattle.std.proofs.lemmas.Grind.{flat_map-append}
use Rattle.rh_elements.specs.Tints.{tint_class}
use Rattle.rh_figure.specs.declared.piece.Piece.{Piece}
use Rattle.rh_lens.specs.Items.{Item, seen}
use Rattle.rh_lens.specs.LensParts.{part_text, sentence_of, sentences_of}
use Rattle.rh_lens.specs.LensArrows.{is_block_of, spot_of_block}
use Rattle.rh_lens.specs.LensSpots.{PartSpot, next_spot, next_x, rows_behind, spot_y, spots_from}
use Rattle.rh_lens.specs.PlacedSpots.{Spot, part_spot}
use Rattle.rh_lens.specs.Inner.Flows.{band_rest, flow_spots, sentences_left}
use Rattle.rh_lens.specs.declared.parts.Band.{Band}
use Rattle.rh_lens.specs.declared.sizes.TheConstants.{GAP}
use Rattle.rh_lens.specs.declared.spots.Flow.{Flow}
use Rattle.rh_sheet.specs.Markup.{escape, escaped_byte}

-- a piece without a byte isn't seen
seen-none : (p : Piece) (ps : List Piece) → p.size ≡ 0 → seen (p ∷ ps) ≡ seen ps
seen-none p ps e = ap (λ n. if nat_lt 0 n then p ∷ seen ps else seen ps) e

some-bytes : (n : ℕ) → 0 < n → nat_lt 0 n ≡ true
some-bytes n e = grind (arith, nat_tests)

seen-some : (p : Piece) (ps : List Piece) → 0 < p.size → seen (p ∷ ps) ≡ p ∷ seen ps
seen-some p ps some = ap (λ t. if t then p ∷ seen ps else seen ps) (some-bytes p.size some)

pub flow-none : (item : Piece → Item) (f : Flow) (p : Piece) (ps : List Piece) → p.size ≡ 0
    → flow_spots item f (p ∷ ps) ≡ flow_spots item f ps
flow-none item f p ps e = ap (λ qs. spots_from f.room f.scale f.x f.row (map item qs)) (seen-none p ps e)

-- where rows stand behind a part
abbrev pub behind-part : Flow → Spot → Flow
behind-part f p = record f { x = p.x + p.width + GAP; row = p.row }

pub flow-next : (item : Piece → Item) (f g : Flow) (p : Piece) (ps : List Piece) (q : Spot) → 0 < p.size
    → part_spot (item p) q ≡ next_spot f.room f.scale f.x f.row (item p) → g ≡ behind-part f q
    → flow_spots item f (p ∷ ps) ≡ part_spot (item p) q ∷ flow_spots item g ps
flow-next item f g p ps q some e ge =
    ap (λ qs. spots_from f.room f.scale f.x f.row (map item qs)) (seen-some p ps some)
    ∙ (ap (λ (r : PartSpot). r ∷ spots_from f.room f.scale (next_x r) r.row (map item (seen ps))) (sym e)
    ∙ ap (λ (h : Flow). part_spot (item p) q ∷ flow_spots item h ps) (sym ge))

-- a part was written, of what was left
pub part-written : (item : Piece → Item) (b : Band) (f g : Flow) (p : Piece) (ps : List Piece) (q : Spot)
    (old new : List ℕ) → flow_spots item f (p ∷ ps) ≡ part_spot (item p) q ∷ flow_spots item g ps
    → new ≡ old ++ part_text b.start (tint_class b.tint) b.room b.scale (b.left + q.x) (spot_y b.foot q.row) (part_spot (item p) q)
    → new ++ band_rest b (flow_spots item g ps) ≡ old ++ band_rest b (flow_spots item f (p ∷ ps))
part-written item b f g p ps q old new e written =
    ap (λ z. z ++ band_rest b (flow_spots item g ps)) written
    ∙ (append_assoc old (part_text b.start (tint_class b.tint) b.room b.scale (b.left + q.x) (spot_y b.foot q.row)
    (part_spot (item p) q)) (band_rest b (flow_spots item g ps))
    ∙ ap (λ qs. old ++ band_rest b qs) (sym e))

pub rows-with : (item : Piece → Item) (f g : Flow) (p : Piece) (ps : List Piece) (q : Spot) (n : ℕ)
    → flow_spots item f (p ∷ ps) ≡ part_spot (item p) q ∷ flow_spots item g ps
    → rows_behind n (flow_spots item f (p ∷ ps)) ≡ rows_behind (q.row + 1) (flow_spots item g ps)
rows-with item f g p ps q n e = ap (rows_behind n) e

-- ---- what is read out

pub sentences-none : (start : ℕ) (item : Piece → Item) (p : Piece) (ps : List Piece) → p.size ≡ 0
    → sentences_left start item (p ∷ ps) ≡ sentences_left start item ps
sentences-none start item p ps e = ap (λ qs. escape (sentences_of start (map item qs))) (seen-none p ps e)

sentences-some : (start : ℕ) (item : Piece → Item) (p : Piece) (ps : List Piece) → 0 < p.size
    → sentences_left start item (p ∷ ps) ≡ escape (sentence_of start (item p)) ++ sentences_left start item ps
sentences-some start item p ps some =
    ap (λ qs. escape (sentences_of start (map item qs))) (seen-some p ps some)
    ∙ flat_map-append escaped_byte (sentence_of start (item p)) (sentences_of start (map item (seen ps)))

-- a piece was read out, of those that were left
pub sentence-put : (start : ℕ) (item : Piece → Item) (p : Piece) (ps : List Piece) (old new : List ℕ) → 0 < p.size
    → new ≡ old ++ escape (sentence_of start (item p))
    → new ++ sentences_left start item ps ≡ old ++ sentences_left start item (p ∷ ps)
sentence-put start item p ps old new some put =
    ap (λ z. z ++ sentences_left start item ps) put
    ∙ (append_assoc old (escape (sentence_of start (item p))) (sentences_left start item ps)
    ∙ ap (λ z. old ++ z) (sym (sentences-some start item p ps some)))

-- ---- the spot of a block

pub spot-found : (k : ℕ) (q : PartSpot) (qs : List PartSpot) → is_block_of k q.item.piece.kind ≡ true → spot_of_block k (q ∷ qs) ≡ Some q
spot-found k q qs e = ap (λ t. cond t (Some q) (spot_of_block k qs)) e

pub spot-passed : (k : ℕ) (q : PartSpot) (qs : List PartSpot) → is_block_of k q.item.piece.kind ≡ false
    → spot_of_block k (q ∷ qs) ≡ spot_of_block k qs
spot-passed k q qs e = ap (λ t. cond t (Some q) (spot_of_block k qs)) e
