-- A whole map, from the lines that were taken.
use Rattle.rh_pictures.proofs.Common.{◌≡◌, ◌⊎◌, inl, inr, ℕ, Bool, false, List, [], map, refl, ap, ◌∙◌, subst, sym, append-nil, map-append, Desk, IsReordered}
use Rattle.rh_pictures.proofs.Common.{ended, kept, Text, Place, read_line, Mapper, TookLine}
use Rattle.std.specs.Io.KnownBytes.{IsAtEnd}
use Rattle.rh_session.specs.Taken.{Fed, FedAll, FedUntil, TookAll, TookFront, TookScript}
use Rattle.rh_figure.specs.Map.{place, read_lines}
use Rattle.rh_figure.specs.Whole.{IsMap}
use Rattle.rh_lines.specs.Flow.{Input, Output}
use Rattle.rh_session.specs.Outcome.{status_of}
use Rattle.rh_session.specs.declared.status.Status.{Status}
use Rattle.rh_pictures.specs.Mapped.{Mapped, MappedSoFar, MappedUntil}
use Rattle.rh_pictures.specs.DrawnPlaces.{IsFirst, TookRest}
use Rattle.rh_pictures.proofs.MapLemmas.{Stands, map-telling, map-text, took-end, took-one, was-bad}
use Rattle.rh_pictures.proofs.ScriptLemmas.{TakenScript, taken-lines, taken-script, text-of-all}

module _ {D : Type 0} {desk : D → Desk} {marked : Bool} {p : Place} {s : Mapper D} (is : Stands desk marked p s) (well : s.has_bad_line ≡ false) where
  -- the map of some complete lines
  lines-mapped : (t : Mapper D) (text : List ℕ) (lines : List Text) → TookAll (TookLine desk) s (map kept lines) t text
      → IsMap marked p (map read_line lines) text
  lines-mapped t text lines took =
      let all = taken-lines (map-telling marked) (Stands desk marked) was-bad (TookLine desk) (took-one desk marked) lines is took in
      record { stages = all.stages; lines = all.lines; shared = all.shared; is = all.text_is ∙ map-text marked p all.stages }

  -- a whole script, and its map
  script-taken : {t : Mapper D} {text : List ℕ} (bytes : List ℕ) → TookScript (TookLine desk) (TookRest desk) s bytes t text
      → TakenScript (map-telling marked) (λ _. []) was-bad p bytes t text
  script-taken bytes =
      taken-script (map-telling marked) (Stands desk marked) was-bad (TookLine desk) (took-one desk marked) (λ _. []) (TookRest desk)
      (took-end desk marked) bytes is well

  script-mapped : {t : Mapper D} {text : List ℕ} (bytes : List ℕ) → TookScript (TookLine desk) (TookRest desk) s bytes t text
      → IsMap marked p (read_lines bytes) text
  script-mapped bytes took =
      let all = script-taken bytes took in
      record {
        stages = all.stages;
        lines = all.lines;
        shared = all.shared;
        is = all.text_is ∙ (append-nil (text-of-all (map-telling marked) p all.stages) ∙ map-text marked p all.stages);
      }

  -- the map of a script that was read to its end
  pub mapped : {t : Mapper D} {before after : Input} {old new : Output} (status : Status)
      → FedAll (TookLine desk) (TookRest desk) before after s t old new → status ≡ status_of t.has_bad_line → Mapped marked p before after old new status
  mapped status fed told = record {
    bytes = fed.bytes;
    read = fed.read;
    at_end = fed.at_end;
    well = fed.well;
    text = fed.text;
    map = script-mapped fed.bytes fed.taken;
    written = fed.written;
    status_is = told ∙ ap status_of (script-taken fed.bytes fed.taken).bad_is;
  }

  -- the map of the complete lines that were read
  pub mapped_so_far : {t : Mapper D} {before after : Input} {old new : Output} → Fed (TookLine desk) before after s t old new
      → MappedSoFar marked p before after old new
  mapped_so_far {t} fed =
      record { bytes = fed.bytes; read = fed.read; text = fed.text; map = lines-mapped t fed.text (ended fed.bytes) fed.taken; written = fed.written }

  -- the writer failed
  pub mapped_until : {before after : Input} {old new : Output} → FedUntil (TookLine desk) (TookRest desk) before after s old new
      → MappedUntil marked p before after old new
  mapped_until {before} {after} {old} {new} fed = go fed.taken
    where
      go : TookFront (TookLine desk) s fed.bytes fed.text
          ⊎ (IsAtEnd after.left × (t : Mapper D) × TookScript (TookLine desk) (TookRest desk) s fed.bytes t fed.text)
          → MappedUntil marked p before after old new
      go (inl w) = record {
        bytes = fed.bytes;
        read = fed.read;
        reads = map read_line w.front;
        first = inl (map read_line w.behind, ap (map read_line) w.whole ∙ map-append read_line w.front w.behind);
        text = fed.text;
        map = lines-mapped w.taker fed.text w.front w.taken;
        broken = fed.broken;
      }
      go (inr (at_end, t, w)) = record {
        bytes = fed.bytes;
        read = fed.read;
        reads = read_lines fed.bytes;
        first = inr (at_end, refl);
        text = fed.text;
        map = script-mapped fed.bytes w;
        broken = fed.broken;
      }

-- before the first line
pub stands_first : {D : Type 0} {desk : D → Desk} {marked : Bool} {drawn : D} {s : Mapper D} (d : Desk) → IsReordered d (desk drawn) → IsFirst s drawn marked
    → Stands desk marked (place d 0 false) s
stands_first {D} {desk} {marked} {drawn} {s} d alike first =
    let P : D → Type 0 = λ z. IsReordered d (desk z) in
    record { desk_is = subst P (sym first.drawn_is) alike; lines = first.lines; wanted = first.wanted; marked_is = first.marked_is }
