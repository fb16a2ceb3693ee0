use Rattle.rh_pictures.proofs.Common.{◌≡◌, ℕ, List, [], ◌∷◌, length, take, drop, ap, ap₂, ◌∙◌, arith, codes, min, concat, taken_line, Text, owner_name}
use Rattle.rh_pictures.proofs.Common.{count_of, scene_at, offered_as, who_seen}
use Rattle.std.proofs.lemmas.List.{drop_min, take_min}
use Rattle.rh_figure.specs.Phrases.{listed_numbers}
use Rattle.rh_sheet.specs.Pool.{squares_text}
use Rattle.rh_pictures.specs.PaintedOwners.{name_seen}
use Rattle.rh_pictures.proofs.OwnerLemmas.{owner-few, owner-pages}
use Rattle.rh_pictures.proofs.TextPuts.{text_then}
use Rattle.rh_pictures.proofs.sheet.pool.print_owner_squares.Goals as goal

squares-same : (class class' tip tip' : Text) (ks ks' : List ℕ) → class ≡ class' → ks ≡ ks' → tip ≡ tip'
    → squares_text class ks tip ≡ squares_text class' ks' tip'
squares-same class class' tip tip' ks ks' a b e =
    ap (λ z. squares_text z ks tip) a ∙ (ap (λ z. squares_text class' z tip) b ∙ ap (squares_text class' ks') e)

-- the first pages of an owner, as many as it had
front-same : (n had count : ℕ) (found pages front : List ℕ) → front ≡ take had found → had ≡ min n (length found) → n ≡ count → found ≡ pages
    → front ≡ take count pages
front-same n had count found pages front a b e is =
    a ∙ (ap (λ k. take k found) b ∙ (take_min n found ∙ ap₂ take e is))

rest-same : (n had count : ℕ) (found pages rest : List ℕ) → rest ≡ drop had found → had ≡ min n (length found) → n ≡ count → found ≡ pages
    → rest ≡ drop count pages
rest-same n had count found pages rest a b e is =
    a ∙ (ap (λ k. drop k found) b ∙ (drop_min n found ∙ ap₂ drop e is))

pub pages_row-tip-requires : goal.pages_row-tip-requires
pages_row-tip-requires g c =
    let ps = c.args.step.now.pages.now in
    let is = owner-pages ps c.requires.step.shared c.requires.owner c.pages_of-pages.result.now c.pages_of-pages.ensures in
    omega (arith, ap length is, owner-few ps c.requires.step.shared c.requires.owner c.recall_desk.ensures c.requires.step.all)

pub takes_row-tip-requires : goal.takes_row-tip-requires
takes_row-tip-requires g c =
    let ps = c.args.step.now.pages.now in
    let is = owner-pages ps c.requires.step.shared c.requires.owner c.pages_of-pages.result.now c.pages_of-pages.ensures in
    omega (arith, c.split_at.ensures.back_len, ap length is, owner-few ps c.requires.step.shared c.requires.owner c.recall_desk.ensures c.requires.step.all)

pub returns : goal.returns
returns g c =
    let x = scene_at (g.S.Sight.desk c.args.sight.now) c.args.step.now in
    let named = c.args.owner.now.named in
    let found = c.pages_of-pages.result.now in
    let is = owner-pages c.args.step.now.pages.now c.requires.step.shared c.requires.owner found c.pages_of-pages.ensures in
    let count : c.count.result ≡ count_of (who_seen named) x.before.holdings = c.count.ensures ∙ ap (λ o. count_of o x.before.holdings) c.owner.ensures in
    let name : name_seen named ≡ owner_name x.desk (who_seen named) = c.requires.owner.name in
    let kept = squares-same _ _ _ _ _ _ (c.as_slice.ensures ∙ c.square_class.ensures.value)
    (front-same c.count.result c.min-had.result _ found _ _ c.split_at.ensures.front c.min-had.ensures count is)
    (c.as_slice-2.ensures ∙ (c.pages_row-tip.ensures.value ∙ ap₂ (λ n ns. concat (n ∷ codes ": page " ∷ listed_numbers ns ∷ [])) name is)) in
    let behind = rest-same c.count.result c.min-had.result _ found _ _ c.split_at.ensures.back c.min-had.ensures count is in
    let taken = squares-same _ _ _ _ _ _ (c.as_slice-3.ensures ∙ c.square_class-2.ensures.value) behind
    (c.as_slice-4.ensures ∙ (c.takes_row-tip.ensures.value ∙ ap₂ taken_line name behind)) in
    text_then _ _ _ (offered_as _ kept c.print_squares.ensures) (offered_as _ taken c.print_squares-2.ensures)
