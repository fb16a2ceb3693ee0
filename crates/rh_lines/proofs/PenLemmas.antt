-- What a pen is offered, and what its writer takes of it.
use Rattle.std.proofs.Common.{◌≡◌, ℕ, ◌+◌, ◌-◌, ◌≤◌, ◌<◌, List, [], ◌∷◌, ◌++◌, length, take, drop, Option, Some, None, append_assoc, append-nil}
use Rattle.std.proofs.Common.{Bool, true, false, not, ◌&&◌, ◌||◌, if◌then◌else◌, refl, sym, ap, ◌∙◌, subst, arith}
use Rattle.std.proofs.Math.Seq.{take-add, take-append_seam, drop-append_seam}
use Rattle.std.proofs.lemmas.List.{take_rest, take-append-drop, nil_from_length, length-drop, length-take-le}
use Rattle.std.specs.Prelude.{nat_lt, ◌==◌, Result}
use Rattle.std.specs.Io.KnownBytes.{Appends}
use borrow.Author.Tests.{tests}
use Rattle.std.proofs.lemmas.Bool.Decides.{nat_tests}
use Rattle.rh_lines.specs.Flow.{Output, count_after, Puts}
use Rattle.rh_lines.specs.Pens.{bool_code, count_code, taken_code, output_code, writer_of, begun_of, text_of, offered_of}
use Rattle.rh_lines.specs.declared.sink.Sink.{Ghosts}
use Rattle.rh_lines.specs.declared.writer_pen.WriterPen.{WriterPen}
use Rattle.rh_lines.proofs.FlowLemmas.{Appends-more, count_after-more}

-- the first bytes, and then the first of the rest
pub first_next : (bytes : List ℕ) (n k : ℕ) → take n bytes ++ take k (take (length bytes - n) (drop n bytes)) ≡ take (n + k) bytes
first_next bytes n k = ap (λ l. take n bytes ++ take k l) (take_rest bytes n) ∙ sym (take-add n k bytes)

-- more of the bytes were taken
pub first_more : (a b c : Option (List ℕ)) (bytes : List ℕ) (n k : ℕ) → Appends a b (take n bytes)
    → Appends b c (take k (take (length bytes - n) (drop n bytes))) → Appends a c (take (n + k) bytes)
first_more a b c bytes n k p q =
    subst (λ (z : List ℕ). Appends a c z) (first_next bytes n k) (Appends-more a b c (take n bytes) (take k (take (length bytes - n) (drop n bytes))) p q)

pub first_few : (bytes : List ℕ) (n k : ℕ) → n < length bytes → k ≤ length (take (length bytes - n) (drop n bytes)) → n + k ≤ length bytes
first_few bytes n k h p = omega (arith, length-drop n bytes, ap length (take_rest bytes n))

pub first_counted : (a b c : Option ℕ) (bytes : List ℕ) (n k : ℕ) → k ≤ length (take (length bytes - n) (drop n bytes))
    → b ≡ count_after a (length (take n bytes)) → c ≡ count_after b k → c ≡ count_after a (length (take (n + k) bytes))
first_counted a b c bytes n k h p q =
    let rest : List ℕ = take (length bytes - n) (drop n bytes) in
    count_after-more a b c (take n bytes) (take k rest) p (q ∙ ap (λ m. count_after b m) (sym (length-take-le k rest h)))
    ∙ ap (λ l. count_after a (length l)) (first_next bytes n k)

or_none : (b : Bool) → (b || false) ≡ b
or_none true = refl
or_none false = refl

-- a write that took some bytes has not failed
pub first_well : (a b c : Bool) (k m : ℕ) → 0 < k → b ≡ a → c ≡ (b || ((k == 0) && not (m == 0))) → c ≡ a
first_well a b c k m h p q =
    let some : (k == 0) ≡ false = grind (arith, nat_tests) in
    q ∙ (ap (λ t. b || (t && not (m == 0))) some ∙ (or_none b ∙ p))

-- where no write has failed, nothing was offered in vain
pub nothing_behind : (f : Bool) (back : List ℕ) → f ≡ false → (not f && nat_lt 0 (length back)) ≡ false → back ≡ []
nothing_behind true back e n = absurd (cc)
nothing_behind false back e n = nil_from_length back (grind (arith, tests))

-- all of a text is behind the rest of it, where nothing was offered in vain
pub behind_none : (f : Bool) (front back bytes front' back' : List ℕ) (n : ℕ) → f ≡ false → (not f && nat_lt 0 (length back)) ≡ false
    → front' ≡ front ++ take n bytes → back' ≡ back ++ take (length bytes - n) (drop n bytes) → front' ++ back' ≡ (front ++ back) ++ bytes
behind_none f front back bytes front' back' n e none a b =
    let empty = nothing_behind f back e none in
    let rest : back' ≡ drop n bytes = b ∙ (ap (λ z. back ++ z) (take_rest bytes n) ∙ ap (λ z. z ++ drop n bytes) empty) in
    ap (λ z. z ++ back') a ∙ (ap (λ z. (front ++ take n bytes) ++ z) rest
    ∙ (append_assoc front (take n bytes) (drop n bytes) ∙ (ap (λ z. front ++ z) (take-append-drop n bytes)
    ∙ ap (λ z. z ++ bytes) (sym (ap (λ z. front ++ z) empty ∙ append-nil front)))))

-- where nothing is held
pub unheld : (text room : List ℕ) (n : ℕ) → n ≡ 0 → text ++ take n room ≡ text
unheld text room n e = ap (λ k. text ++ take k room) e ∙ append-nil text

-- a text behind what tells a pen from others, and more of it
pub coded_more : (name : ℕ) (head old new bytes : List ℕ) → new ≡ old ++ bytes
    → name ∷ length head ∷ (head ++ new) ≡ (name ∷ length head ∷ (head ++ old)) ++ bytes
coded_more name head old new bytes e =
    ap (λ l. name ∷ length head ∷ (head ++ l)) e ∙ ap (λ l. name ∷ length head ∷ l) (sym (append_assoc head old bytes))

-- what is behind the text without what is held
pub offered_more : (front back room bytes front' back' : List ℕ) (n : ℕ) → n ≡ 0 → front' ++ back' ≡ (front ++ back) ++ bytes
    → (front' ++ back') ++ take n room ≡ ((front ++ back) ++ take n room) ++ bytes
offered_more front back room bytes front' back' n e more =
    unheld (front' ++ back') room n e ∙ (more ∙ ap (λ z. z ++ bytes) (sym (unheld (front ++ back) room n e)))

-- the output that a list tells of
decode : List ℕ → Output
decode (f ∷ c ∷ n ∷ t ∷ bytes) = record {
  taken = if t == 0 then None else Some bytes;
  count = if c == 0 then None else Some n;
  failed = not (f == 0);
}
decode bytes = record { taken = None; count = None; failed = false }

decoded : (t : Option (List ℕ)) (k : Option ℕ) (f : Bool)
    → decode (bool_code f ∷ (count_code k ++ taken_code t)) ≡ record { taken = t; count = k; failed = f }
unfolding decode
decoded None None true = refl
decoded None None false = refl
decoded None (Some k) true = refl
decoded None (Some k) false = refl
decoded (Some t) None true = refl
decoded (Some t) None false = refl
decoded (Some t) (Some k) true = refl
decoded (Some t) (Some k) false = refl

output_same : (a b : Output) → output_code a ≡ output_code b → a ≡ b
unfolding output_code
output_same a b e = sym (decoded a.taken a.count a.failed) ∙ (ap decode e ∙ decoded b.taken b.count b.failed)

-- two lists with fronts of the same length
fronts_same : (a b s t : List ℕ) → length a ≡ length b → a ++ s ≡ b ++ t → a ≡ b
fronts_same a b s t n e = sym (take-append_seam a s) ∙ (ap (λ z. take (length a) z) e ∙ (ap (λ k. take k (b ++ t)) n ∙ take-append_seam b t))

rests_same : (a b s t : List ℕ) → length a ≡ length b → a ++ s ≡ b ++ t → s ≡ t
rests_same a b s t n e = sym (drop-append_seam a s) ∙ (ap (λ z. drop (length a) z) e ∙ (ap (λ k. drop k (b ++ t)) n ∙ drop-append_seam b t))

-- what a pen knows behind some writes
pub record Wrote {W : Type 0} {S : Ghosts W} (old new : WriterPen W S) (text : List ℕ) : Type 0 where
  pub same_reference : (writer_of new).ghost_name ≡ (writer_of old).ghost_name
  pub begun : begun_of new ≡ begun_of old
  pub text_is : text_of new ≡ text_of old ++ text

wrote_lists : (n n' : ℕ) (a a' : Output) (s s' t : List ℕ)
    → n' ∷ length (output_code a') ∷ (output_code a' ++ s') ≡ n ∷ length (output_code a) ∷ ((output_code a ++ s) ++ t)
    → (n' ≡ n) × ((a' ≡ a) × (s' ≡ s ++ t))
wrote_lists n n' a a' s s' t e =
    let long : length (output_code a') ≡ length (output_code a) = cc in
    let all : output_code a' ++ s' ≡ (output_code a ++ s) ++ t = cc in
    let split = all ∙ append_assoc (output_code a) s t in
    let name : n' ≡ n = cc in
    (name, (output_same a' a (fronts_same _ _ _ _ long split), rests_same _ _ _ _ long split))

pub wrote : {W : Type 0} {S : Ghosts W} (old new : WriterPen W S) (text : List ℕ) → offered_of new ≡ offered_of old ++ text → Wrote old new text
unfolding offered_of
wrote old new text e =
    let w = wrote_lists old.writer.ghost_name new.writer.ghost_name old.begun.output new.begun.output (text_of old) (text_of new) text e in
    record { same_reference = w.0; begun = w.1.0; text_is = w.1.1 }

-- what holds of all that was written with a new pen holds of this text
pub told_as : {W : Type 0} {S : Ghosts W} (P : Output → List ℕ → Type 0) (old new : WriterPen W S) (first : Output) (text : List ℕ)
    → offered_of new ≡ offered_of old ++ text → begun_of old ≡ first → text_of old ≡ [] → P (begun_of new) (text_of new) → P first text
told_as P old new first text e begun none p =
    let w = wrote old new text e in
    subst (λ (o : Output). P o text) (w.begun ∙ begun)
    (subst (λ (t : List ℕ). P (begun_of new) t) (w.text_is ∙ ap (λ z. z ++ text) none) p)

-- what a pen is asked at the end, as the writer's own
pub done_as : {E W : Type 0} {S : Ghosts W} (old new : WriterPen W S) (first last : Output) (text : List ℕ) (r : Result Unit E)
    → offered_of new ≡ offered_of old ++ text → begun_of old ≡ first → text_of old ≡ [] → Puts (begun_of new) last r (text_of new) → Puts first last r text
done_as old new first last text r e begun none p = told_as (λ o t. Puts o last r t) old new first text e begun none p
