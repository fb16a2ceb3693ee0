use Rattle.std.proofs.Common.{ap₂}
use Rattle.rh_map.proofs.Common.{◌≡◌, ◌≢◌, ◌++◌, ap, sym, ◌∙◌, append_assoc, codes, cond_false, decimal, eqb, eqb_apart}
use Rattle.rh_map.proofs.effects.message_acknowledged.Goals as goal

pub returns-clause-value : goal.returns-clause-value
returns-clause-value c =
    let name = c.args.name.now in
    let ref = c.args.my_ref in
    let none = codes " holds no message" in
    let some = codes " acknowledges message " in
    let e1 : c.text.new.self ≡ name = c.text.ensures ∙ ap₂ (λ z n. z ++ n) c.new-row.ensures c.as_bytes.ensures.value in
    let e2 : c.text-2.new.self ≡ name ++ some = c.text-2.ensures ∙ ap (λ z. z ++ some) e1 in
    let e3 : c.decimal.new.self ≡ (name ++ some) ++ decimal ref = c.decimal.ensures.value ∙ ap₂ (λ z n. z ++ decimal n) e2 c.my_ref.view_is in
    let there : ref ≢ 0 = λ is. c.if-my_ref-eq0.false (c.my_ref.view_is ∙ is) in
    e3 ∙ (append_assoc name some (decimal ref) ∙ ap (λ said. name ++ said) (sym (cond_false (eqb ref 0) none (some ++ decimal ref) (eqb_apart ref 0 there))))
