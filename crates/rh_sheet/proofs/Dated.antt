-- Each message has one fate, and when it came to it is known.
use Rattle.std.proofs.Common.{◌≡◌, ℕ, zero, suc, ◌<◌, ◌≤◌, Bool, true, false, refl, ap, ◌∙◌, arith, List, [], ◌∷◌, ◌++◌}
use Rattle.std.specs.Prelude.{◌==◌, ◌&&◌, ◌||◌, not, drop, map, Option, Some, None}
use Rattle.rh_defs.specs.declared.message.Letter.{Letter}
use Rattle.rh_defs.specs.Desk.{task_at}
use Rattle.rh_figure.specs.Scene.{Scene, sent_by}
use Rattle.rh_sheet.specs.Fates.{Note, Fate, Queued, Taken, Held, Answered, Back, Returned}
use Rattle.rh_sheet.specs.Fates.{Vanished, Whereabouts, is_over, is_queued, is_gone, since, goes_back, with_fate}
use Rattle.rh_sheet.specs.Fates.{fate_behind, followed, new_notes, noted_with, whereabouts}
use Rattle.rh_sheet.specs.FateLaws.{has_come_back, IsDated, AreDated, HasOneFate}

-- ---- from fate to fate

-- a message is over just when it is gone
over-where-gone : (w : Whereabouts) (fate : Fate) → is_over (fate_behind w fate) ≡ (is_over fate || is_gone w)
over-where-gone w Queued = grind arith
over-where-gone w Held = grind arith
over-where-gone w Back = grind arith
over-where-gone w Taken = grind arith
over-where-gone w Answered = grind arith
over-where-gone w Returned = grind arith
over-where-gone w Vanished = grind arith

-- a message that waits has waited
never-queued-again : (w : Whereabouts) (fate : Fate) → is_queued (fate_behind w fate) ≡ true → is_queued fate ≡ true
never-queued-again w Queued = λ _. refl
never-queued-again w Held = grind arith
never-queued-again w Back = grind arith
never-queued-again w Taken = grind arith
never-queued-again w Answered = grind arith
never-queued-again w Returned = grind arith
never-queued-again w Vanished = grind arith

-- what came back was back, or went back
comes-back : (w : Whereabouts) (fate : Fate) → has_come_back (fate_behind w fate) ≡ true → has_come_back fate ≡ false
    → goes_back fate (fate_behind w fate) ≡ true
comes-back w Queued = grind arith
comes-back w Held = grind arith
comes-back w Back = grind arith
comes-back w Taken = grind arith
comes-back w Answered = grind arith
comes-back w Returned = grind arith
comes-back w Vanished = grind arith

-- what goes back waits no more
back-reached : (w : Whereabouts) (fate : Fate) → goes_back fate (fate_behind w fate) ≡ true → is_queued (fate_behind w fate) ≡ false
back-reached w Queued = grind arith
back-reached w Held = grind arith
back-reached w Back = grind arith
back-reached w Taken = grind arith
back-reached w Answered = grind arith
back-reached w Returned = grind arith
back-reached w Vanished = grind arith

-- what goes back is not over
back-from : (w : Whereabouts) (fate : Fate) → goes_back fate (fate_behind w fate) ≡ true → is_over fate ≡ false
back-from w Queued = λ _. refl
back-from w Held = λ _. refl
back-from w Back = λ _. refl
back-from w Taken = grind arith
back-from w Answered = grind arith
back-from w Returned = grind arith
back-from w Vanished = grind arith

queued-not-over : (fate : Fate) → is_queued fate ≡ true → is_over fate ≡ false
queued-not-over Queued q = refl
queued-not-over Held q = absurd (cc)
queued-not-over Back q = absurd (cc)
queued-not-over Taken q = absurd (cc)
queued-not-over Answered q = absurd (cc)
queued-not-over Returned q = absurd (cc)
queued-not-over Vanished q = absurd (cc)

-- what is over stays so
over-stays : (w : Whereabouts) (fate : Fate) → is_over fate ≡ true → fate_behind w fate ≡ fate
over-stays w Queued = λ o. absurd (cc)
over-stays w Held = λ o. absurd (cc)
over-stays w Back = λ o. absurd (cc)
over-stays w Taken = grind arith
over-stays w Answered = grind arith
over-stays w Returned = grind arith
over-stays w Vanished = grind arith

-- a task that took a message lives
taken-live : (w : Whereabouts) (fate : Fate) → w.live ≡ false → fate_behind w fate ≡ Taken → fate ≡ Taken
taken-live w Queued = grind arith
taken-live w Held = grind arith
taken-live w Back = grind arith
taken-live w Taken = grind arith
taken-live w Answered = grind arith
taken-live w Returned = grind arith
taken-live w Vanished = grind arith

-- a task that took a message back lives
returned-live : (w : Whereabouts) (fate : Fate) → w.live ≡ false → fate_behind w fate ≡ Returned → fate ≡ Returned
returned-live w Queued = grind arith
returned-live w Held = grind arith
returned-live w Back = grind arith
returned-live w Taken = grind arith
returned-live w Answered = grind arith
returned-live w Returned = grind arith
returned-live w Vanished = grind arith

-- a task for which a message vanished is dead
vanished-dead : (w : Whereabouts) (fate : Fate) → w.live ≡ true → fate_behind w fate ≡ Vanished → fate ≡ Vanished
vanished-dead w Queued = grind arith
vanished-dead w Held = grind arith
vanished-dead w Back = grind arith
vanished-dead w Taken = grind arith
vanished-dead w Answered = grind arith
vanished-dead w Returned = grind arith
vanished-dead w Vanished = grind arith

-- ---- steps

-- a step at which something happened isn't 0
since-zero : (b : Bool) (step known : ℕ) → 0 < step → (since b step known == 0) ≡ (not b && known == 0)
since-zero b step known some = grind arith

-- what is known stays, or the step is new
since-least : (b : Bool) (step known : ℕ) → known ≤ step → known ≤ since b step known
since-least b step known few = grind arith

since-most : (b : Bool) (step known : ℕ) → known ≤ step → since b step known ≤ step
since-most b step known few = grind arith

since-kept : (b : Bool) (step known : ℕ) → 0 < known → since b step known ≡ known
since-kept b step known some = grind arith

since-not : (step known : ℕ) → since false step known ≡ known
since-not step known = refl

-- ---- a note

no-way-back : (fate : Fate) → is_over fate ≡ true → goes_back fate fate ≡ false
no-way-back Queued o = refl
no-way-back Held o = refl
no-way-back Back o = refl
no-way-back Taken o = refl
no-way-back Answered o = refl
no-way-back Returned o = refl
no-way-back Vanished o = refl

over-not-queued : (fate : Fate) → is_over fate ≡ true → is_queued fate ≡ false
over-not-queued Queued o = absurd (cc)
over-not-queued Held o = refl
over-not-queued Back o = refl
over-not-queued Taken o = refl
over-not-queued Answered o = refl
over-not-queued Returned o = refl
over-not-queued Vanished o = refl

-- what is over stays
stays-over : (step next : ℕ) (w : Whereabouts) (n : Note) → IsDated step n → is_over n.fate ≡ true → followed next w n ≡ n
stays-over step next w n is over =
    let reached : 0 < n.reached = grind (arith, is.reached, over-not-queued n.fate over) in
    let ended : 0 < n.ended = grind (arith, is.over, over) in
    ap (λ f. with_fate next f n) (over-stays w n.fate over)
    ∙ (ap (λ r. record n {
      reached = r;
      back = since (goes_back n.fate n.fate) next n.back;
      ended = since (is_over n.fate) next n.ended;
    }) (since-kept (not (is_queued n.fate)) next n.reached reached)
    ∙ (ap (λ g. record n { back = since g next n.back; ended = since (is_over n.fate) next n.ended }) (no-way-back n.fate over)
    ∙ ap (λ e. record n { ended = e }) (since-kept (is_over n.fate) next n.ended ended)))

-- ---- its steps, by whether it was queued, over and back before (q, o, c) and behind a step (q', o', c'), and goes back (g)

reached-field : (q q' : Bool) (next r : ℕ) → 0 < next → (q' ≡ true → q ≡ true) → (r == 0) ≡ q → (since (not q') next r == 0) ≡ q'
reached-field q true next r some never is = is ∙ never refl
reached-field q false next r some never is = since-zero true next r some

out-field : (b : Bool) (sent step next r : ℕ) → step < next → sent ≤ step → (0 < r → sent ≤ r) × (r ≤ step)
    → (0 < since b next r → sent ≤ since b next r) × (since b next r ≤ next)
out-field b sent step next r later told is = (grind (arith, is.0, later, told), since-most b next r (omega (arith, is.1, later)))

back-field : (g q' : Bool) (step next r b : ℕ) → step < next → (g ≡ true → q' ≡ false)
    → (0 < b → (0 < r) × (r ≤ b)) × (b ≤ step) → r ≤ step
    → (0 < since g next b → (0 < since (not q') next r) × (since (not q') next r ≤ since g next b)) × (since g next b ≤ next)
back-field true true step next r b later waits is few = absurd (cc (waits refl))
back-field true false step next r b later waits is few = (
  λ some. (grind (arith, later), grind (arith, later, is.0, few)),
  since-most true next b (omega (arith, is.1, later)),
)
back-field false q' step next r b later waits is few = (
  λ some.
      let reached : 0 < r = (is.0 some).0 in
      let kept = since-kept (not q') next r reached in
      (omega (arith, kept, reached), omega (arith, kept, (is.0 some).1)),
  omega (arith, is.1, later),
)

over-field : (o o' : Bool) (next e : ℕ) → 0 < next → (o ≡ true → o' ≡ true) → (e == 0) ≡ not o → (since o' next e == 0) ≡ not o'
over-field o true next e some stays is = since-zero true next e some
over-field true false next e some stays is = absurd (cc (stays refl))
over-field false false next e some stays is = is

ended-field : (o o' g q' : Bool) (step next r b e : ℕ) → step < next → (g ≡ true → o ≡ false) → (o ≡ true → 0 < r)
    → (e == 0) ≡ not o → (0 < e → (r ≤ e) × (b ≤ e)) × (e ≤ step) → r ≤ step → b ≤ step
    → (0 < since o' next e → (since (not q') next r ≤ since o' next e) × (since g next b ≤ since o' next e)) × (since o' next e ≤ next)
ended-field true o' true q' step next r b e later from reached is told few low = absurd (cc (from refl))
ended-field true o' false q' step next r b e later from reached is told few low =
    let some : 0 < e = grind (arith, is) in
    let kept = since-kept o' next e some in
    let out = since-kept (not q') next r (reached refl) in (
      λ more. (omega (arith, kept, out, (told.0 some).0), omega (arith, kept, (told.0 some).1)),
      omega (arith, kept, told.1, later),
    )
ended-field false true g q' step next r b e later from reached is told few low =
    let none : e ≡ 0 = grind (arith, is) in
    let new : since true next e ≡ next = ap (since true next) none in
    let out = since-most (not q') next r (omega (arith, few, later)) in
    let back = since-most g next b (omega (arith, low, later)) in
    (λ more. (omega (arith, new, out), omega (arith, new, back)), omega (arith, new))
ended-field false false g q' step next r b e later from reached is told few low =
    let none : e ≡ 0 = grind (arith, is) in
    (λ more. absurd (omega (arith, none, more)), omega (arith, none))

came-field : (g c c' : Bool) (next b : ℕ) → 0 < next → (c' ≡ true → c ≡ false → g ≡ true) → (c ≡ true → 0 < b)
    → c' ≡ true → 0 < since g next b
came-field g true c' next b some comes told is = omega (arith, since-kept g next b (told refl), told refl)
came-field g false c' next b some comes told is =
    let goes : g ≡ true = comes is refl in
    grind (arith, since-zero g next b some, goes)

-- a note tells its message's fate behind a step
dated-one : (step next : ℕ) (w : Whereabouts) (n : Note) → step < next → IsDated step n → IsDated next (followed next w n)
dated-one step next w n later is =
    let f : Fate = fate_behind w n.fate in
    let some : 0 < next = omega (arith, later) in
    let reached : is_over n.fate ≡ true → 0 < n.reached = λ over. grind (arith, is.reached, over-not-queued n.fate over) in record {
      sent = (is.sent.0, omega (arith, is.sent.1, later));
      reached = reached-field (is_queued n.fate) (is_queued f) next n.reached some (never-queued-again w n.fate) is.reached;
      out = out-field (not (is_queued f)) n.sent step next n.reached later is.sent.1 is.out;
      came_back = came-field
          (goes_back n.fate f) (has_come_back n.fate) (has_come_back f) next n.back some (comes-back w n.fate) is.came_back;
      back = back-field
          (goes_back n.fate f) (is_queued f) step next n.reached n.back later (back-reached w n.fate) is.back is.out.1;
      over = over-field
          (is_over n.fate) (is_over f) next n.ended some
          (λ over. ap is_over (over-stays w n.fate over) ∙ over) is.over;
      ended = ended-field
          (is_over n.fate) (is_over f) (goes_back n.fate f) (is_queued f) step next n.reached n.back n.ended later
          (back-from w n.fate) reached is.over is.ended is.out.1 is.back.1;
    }

-- ---- all of them

dated-all : (step next : ℕ) (f : Note → Whereabouts) (notes : List Note) → step < next → AreDated step notes
    → AreDated next (map (λ (n : Note). followed next (f n) n) notes)
dated-all step next f [] later are = tt
dated-all step next f (n ∷ notes) later are =
    (dated-one step next (f n) n later are.0, dated-all step next f notes later are.1)

dated-both : (step : ℕ) (notes more : List Note) → AreDated step notes → AreDated step more → AreDated step (notes ++ more)
dated-both step [] more are too = too
dated-both step (n ∷ notes) more are too = (are.0, dated-both step notes more are.1 too)

dated-new : (step : ℕ) (sent : Option (Letter × ℕ)) → 0 < step → AreDated step (new_notes step sent)
dated-new step None some = tt
dated-new step (Some sent) some = (
  record {
    sent = (some, omega arith);
    reached = refl;
    out = (λ more. absurd (omega (arith, more)), omega arith);
    came_back = λ came. absurd (cc);
    back = (λ more. absurd (omega (arith, more)), omega arith);
    over = refl;
    ended = (λ more. absurd (omega (arith, more)), omega arith);
  },
  tt,
)

dated-drop : (step k : ℕ) (notes : List Note) → AreDated step notes → AreDated step (drop k notes)
dated-drop step zero notes are = are
dated-drop step (suc k) [] are = tt
dated-drop step (suc k) (n ∷ notes) are = dated-drop step k notes are.1

dated-noted : (step next : ℕ) (x : Scene) (sent : Option (Letter × ℕ)) (notes : List Note) → step < next → AreDated step notes
    → AreDated next (noted_with next x sent notes)
dated-noted step next x sent notes later are = dated-drop next _ _ (dated-both
    next _ (new_notes next sent) (dated-all step next (whereabouts x sent) notes later are)
    (dated-new next sent (omega (arith, later))))

pub has-one-fate : HasOneFate
has-one-fate = record {
  dated = λ step next x notes later are.
      dated-noted step next x (sent_by x.before (task_at x.before.handle x.desk)) notes later are;
  stays = stays-over;
  over = over-where-gone;
  taken = taken-live;
  returned = returned-live;
  vanished = vanished-dead;
}
