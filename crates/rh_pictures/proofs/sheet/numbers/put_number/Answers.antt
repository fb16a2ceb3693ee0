use Rattle.rh_pictures.proofs.Common.{◌≡◌, ◌≢◌, ap, sym, ◌∙◌, arith, rules, get_or, length, insert, nat_le}
use Rattle.std.specs.List.{position}
use Rattle.rh_pictures.proofs.NumberLemmas.{insert-last, inserted-new, inserted-there, place-behind, place-found, place_of}
use Rattle.rh_pictures.proofs.sheet.numbers.put_number.Goals as goal

pub returns-in-Some-clause-value : goal.returns-in-Some-clause-value
returns-in-Some-clause-value c =
    let number = c.args.number in
    let items = c.args.numbers.now.items in
    let at = place-found number items c.in-Some.place (sym (c.place_in.ensures ∙ ap (position (λ m. nat_le number m)) c.deref.ensures.0) ∙ c.in-Some.is) in
    let read : get_or items c.in-Some.place 0 ≡ number = search rules in
    sym (inserted-there number items 0 (omega (arith, at.0, at.1)) (ap (λ j. get_or items j 0) (sym at.0) ∙ read))

pub returns-in-Some-2-clause-value : goal.returns-in-Some-2-clause-value
returns-in-Some-2-clause-value c =
    let number = c.args.number in
    let items = c.args.numbers.now.items in
    let at = place-found number items c.in-Some.place (sym (c.place_in.ensures ∙ ap (position (λ m. nat_le number m)) c.deref.ensures.0) ∙ c.in-Some.is) in
    let other : get_or items c.in-Some.place 0 ≢ number = search rules in
    c.insert.ensures.items
    ∙ (ap (λ j. insert items j number) at.0
    ∙ sym (inserted-new number items 0 (λ inside q. other (ap (λ j. get_or items j 0) at.0 ∙ q))))

pub returns-in-None-clause-value : goal.returns-in-None-clause-value
returns-in-None-clause-value c =
    let number = c.args.number in
    let items = c.args.numbers.now.items in
    let behind : length items ≡ place_of number items =
    place-behind number items (sym (c.place_in.ensures ∙ ap (position (λ m. nat_le number m)) c.deref.ensures.0) ∙ c.in-None.is) in
    c.push.ensures.items
    ∙ sym (inserted-new number items 0 (λ inside q. absurd (omega (arith, inside, behind)))
    ∙ (ap (λ j. insert items j number) (sym behind) ∙ insert-last items number))
