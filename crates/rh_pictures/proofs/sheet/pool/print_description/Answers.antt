use Rattle.rh_pictures.proofs.Common.{◌≡◌, ◌++◌, [], ◌∷◌, length, ap, ap₂, sym, ◌∙◌, arith, append_assoc, codes, decimal, concat, flat_map, slice_get_within}
use Rattle.rh_pictures.proofs.Common.{Desk, Text, owner_name, Scene, Holding, holdings, left_from, left_less, escape, escaped_byte, scene_at, left_last}
use Rattle.rh_pictures.proofs.Common.{offered_as, who_seen}
use Rattle.rh_defs.specs.Desk.{free_pages}
use Rattle.rh_sheet.specs.Pool.{free_text, owner_sentence}
use Rattle.rh_pictures.proofs.ElementLemmas.{elements-none, elements-some}
use Rattle.rh_pictures.proofs.PlaceLemmas.{walk-less}
use Rattle.rh_pictures.proofs.sheet.pool.print_description.Goals as goal

abbrev sentence : Scene → Holding → Text
sentence x o = owner_sentence (owner_name x.desk o.0) (x.share.pages_of o.0)

abbrev free : Desk → Text
free d = free_text (free_pages d) d.pool ++ codes "."

-- how many pages are free, as it is put together
free-row : (f p : Text) → ((([] ++ f) ++ codes " of ") ++ p) ++ codes " free." ≡ concat (f ∷ codes " of " ∷ p ∷ codes " free" ∷ []) ++ codes "."
free-row f p =
    append_assoc (f ++ codes " of ") p (codes " free.")
    ∙ (append_assoc f (codes " of ") (p ++ codes " free.")
    ∙ sym (append_assoc f (codes " of " ++ (p ++ codes " free")) (codes ".")
    ∙ ap (λ z. f ++ (codes " of " ++ z)) (append_assoc p (codes " free") (codes "."))))

pub owners-init : goal.owners-init
owners-init g c =
    let d = g.S.Sight.desk c.args.sight.now in
    let x = scene_at d c.args.step.now in
    left_from _ (ap escape (append_assoc (flat_map (sentence x) (holdings d)) (free_text (free_pages d) d.pool) (codes ".")))

pub overflow_add-k : goal.overflow_add-k
overflow_add-k g c =
    omega (arith, c.in-Some.ensures.few, slice_get_within (holdings (g.S.Sight.desk c.args.sight.now)) c.owners.k _ c.in-Some.ensures.some.stands)

pub owners-smaller : goal.owners-smaller
owners-smaller g c = walk-less (holdings (g.S.Sight.desk c.args.sight.now)) c.owners.k _ c.in-Some.ensures.some.stands

pub owners-preserved : goal.owners-preserved
owners-preserved g c =
    let d = g.S.Sight.desk c.args.sight.now in
    let x = scene_at d c.args.step.now in
    let own = c.in-Some.ensures.some in
    left_less _ c.owners.invariant (elements-some escaped_byte (sentence x) (free d) (holdings d) c.owners.k _ own.stands)
    (offered_as _ (ap (λ n. escape (owner_sentence n (x.share.pages_of (who_seen c.in-Some.owner.named)))) own.owner.name) c.print_sentence.ensures)

pub returns : goal.returns
returns g c =
    let d = g.S.Sight.desk c.args.sight.now in
    let x = scene_at d c.args.step.now in
    let row : c.as_slice.result.now ≡ ((([] ++ decimal c.free_pages.result) ++ codes " of ")
    ++ decimal (length c.args.step.now.pages.now)) ++ codes " free." =
    c.as_slice.ensures
    ∙ (c.text-2.ensures
    ∙ ap (λ z. z ++ codes " free.") (c.decimal-2.ensures.value
    ∙ ap (λ z. z ++ decimal (length c.args.step.now.pages.now)) (c.text.ensures
    ∙ ap (λ z. z ++ codes " of ") (c.decimal.ensures.value ∙ ap (λ z. z ++ decimal c.free_pages.result) c.new-row.ensures)))) in
    let told : c.as_slice.result.now ≡ free d =
    row ∙ (free-row (decimal c.free_pages.result) (decimal (length c.args.step.now.pages.now))
    ∙ ap₂ (λ f p. free_text f p ++ codes ".") c.free_pages.ensures c.requires.all) in
    left_last _ c.owners.invariant
    (offered_as _ (ap escape told ∙ sym (elements-none escaped_byte (sentence x) (free d) (holdings d) c.owners.k c.in_default.ensures.none))
    c.put_escaped.ensures)
