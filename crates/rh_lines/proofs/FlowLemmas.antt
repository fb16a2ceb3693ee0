-- Writes, one after another.
use Rattle.std.proofs.Common.{◌≡◌, ℕ, List, [], ◌∷◌, ◌++◌, take, drop, Option, Some, None, Result, Ok, Err, append_assoc, sym, ◌∙◌, ap, refl, rules, arith}
use Rattle.std.proofs.Common.{length, ◌-◌, ◌+◌, ◌<◌, zero, suc, get_or, append-nil, length-append, subst}
use Rattle.std.specs.List.{flat_map}
use Rattle.std.proofs.lemmas.List.{take_more, take-append-drop, take_rest}
use Rattle.std.proofs.lemmas.Grind.{flat_map-append}
use Rattle.std.specs.Result.{IsErr}
use Rattle.std.specs.Io.KnownBytes.{Appends}
use Rattle.rh_lines.specs.Flow.{Output, Takes, Breaks, Puts, count_after}

pub Appends-more : (a b c : Option (List ℕ)) (x y : List ℕ) → Appends a b x → Appends b c y → Appends a c (x ++ y)
Appends-more None b c x y p q = tt
Appends-more (Some a) None c x y p q = absurd p
Appends-more (Some a) (Some b) None x y p q = absurd q
Appends-more (Some a) (Some b) (Some c) x y p q = q ∙ (ap (λ z. z ++ y) p ∙ append_assoc a x y)

pub Appends-none : (a : Option (List ℕ)) → Appends a a []
Appends-none None = tt
Appends-none (Some a) = search rules

-- no more bytes leave the count
pub count_after-none : (count : Option ℕ) → count ≡ count_after count 0
count_after-none None = refl
count_after-none (Some k) = ap Some (omega arith)

-- the count after some bytes, and then more
pub count_after-more : (a b c : Option ℕ) (x y : List ℕ) → b ≡ count_after a (length x) → c ≡ count_after b (length y)
    → c ≡ count_after a (length (x ++ y))
count_after-more None b c x y first then = then ∙ ap (λ d. count_after d (length y)) first
count_after-more (Some k) b c x y first then =
    let long = length-append x y in
    then ∙ ap (λ d. count_after d (length y)) first ∙ ap Some (omega arith)

-- nothing was written yet
pub takes_none : (s : Output) → Takes s s []
takes_none s = record { taken = Appends-none s.taken; counted = count_after-none s.count; failed = refl }

-- one write after another
pub takes_more : {s t u : Output} {x y : List ℕ} → Takes s t x → Takes t u y → Takes s u (x ++ y)
takes_more {s} {t} {u} {x} {y} p q =
    record {
      taken = Appends-more s.taken t.taken u.taken x y p.taken q.taken;
      counted = count_after-more s.count t.count u.count x y p.counted q.counted;
      failed = q.failed ∙ p.failed;
    }

-- a write that fails after others
pub takes_breaks : {s t u : Output} {x y : List ℕ} → Takes s t x → Breaks t u y → Breaks s u (x ++ y)
takes_breaks {s} {t} {u} {x} {y} p q = record {
  front = x ++ q.front;
  back = q.back;
  whole = ap (λ z. x ++ z) q.whole ∙ sym (append_assoc x q.front q.back);
  taken = Appends-more s.taken t.taken u.taken x q.front p.taken q.taken;
  counted = count_after-more s.count t.count u.count x q.front p.counted q.counted;
  failed = q.failed;
}

-- what would have been written after a failed write
pub breaks_before : {s t : Output} {x : List ℕ} (y : List ℕ) → Breaks s t x → Breaks s t (x ++ y)
breaks_before {s} {t} {x} y q = record {
  front = q.front;
  back = q.back ++ y;
  whole = ap (λ z. z ++ y) q.whole ∙ append_assoc q.front q.back y;
  taken = q.taken;
  counted = q.counted;
  failed = q.failed;
}

-- one write after another, which may fail
pub puts_more : {E : Type 0} {s t : Output} {x : List ℕ} {v : Unit {0}} (u : Output) (r : Result Unit E) (y : List ℕ) → Puts {E = E} s t (Ok v) x
    → Puts t u r y → Puts s u r (x ++ y)
puts_more u (Ok v) y p q = record { ok = takes_more p.ok q.ok; err = tt }
puts_more u (Err e) y p q = record { ok = tt; err = takes_breaks p.ok q.err }

-- what would have been written after a failed write
pub puts_before : {E : Type 0} {s t : Output} {x : List ℕ} {r : Result Unit E} (y : List ℕ) → Puts s t r x → IsErr r → Puts s t r (x ++ y)
puts_before {r = Ok v} y p e = absurd (cc)
puts_before {r = Err e} y p h = record { ok = tt; err = breaks_before y p.err }

-- a failed write, whose error is handed on
pub puts_stops : {E : Type 0} {s t : Output} {x : List ℕ} {e : E} (r : Result Unit E) → Puts s t (Err e) x → IsErr r → Puts s t r x
puts_stops (Ok v) p h = absurd (cc)
puts_stops (Err e) p h = record { ok = tt; err = p.err }

-- the front grows by n bytes of the rest
pub next_front : (bytes front rest : List ℕ) (n : ℕ) → bytes ≡ front ++ rest → bytes ≡ (front ++ take n rest) ++ take (length rest - n) (drop n rest)
next_front bytes front rest n e =
    e ∙ (ap (λ z. front ++ z) (sym (take-append-drop n rest) ∙ ap (λ z. take n rest ++ z) (sym (take_rest rest n)))
    ∙ sym (append_assoc front (take n rest) (take (length rest - n) (drop n rest))))

each_splits : {X : Type 0} (f : X → List ℕ) (xs : List X) (i : ℕ) (d : X) → i < length xs
    → flat_map f xs ≡ flat_map f (take i xs) ++ f (get_or xs i d) ++ flat_map f (drop (suc i) xs)
each_splits f [] i d h = absurd (omega arith)
each_splits f (x ∷ xs) zero d h = refl
each_splits f (x ∷ xs) (suc i) d h =
    ap (λ z. f x ++ z) (each_splits f xs i d (omega arith)) ∙ (ap (λ z. f x ++ z)
    (append_assoc (flat_map f (take i xs)) (f (get_or xs i d)) (flat_map f (drop (suc i) xs)))
    ∙ (sym (append_assoc (f x) (flat_map f (take i xs)) (f (get_or xs i d) ++ flat_map f (drop (suc i) xs)))
    ∙ sym (append_assoc (f x ++ flat_map f (take i xs)) (f (get_or xs i d)) (flat_map f (drop (suc i) xs)))))

pub each_more : {X : Type 0} (f : X → List ℕ) (xs : List X) (i : ℕ) (d : X) → i < length xs
    → flat_map f (take (i + 1) xs) ≡ flat_map f (take i xs) ++ f (get_or xs i d)
each_more f xs i d h = ap (flat_map f) (take_more xs i d h)
    ∙ (flat_map-append f (take i xs) (get_or xs i d ∷ []) ∙ ap (λ z. flat_map f (take i xs) ++ z) (append-nil (f (get_or xs i d))))

-- one more item of a list, of which each is written in turn
pub takes_each : {X : Type 0} (f : X → List ℕ) {s t u : Output} (xs : List X) (i : ℕ) (x d : X) → x ≡ get_or xs i d → i < length xs
    → Takes s t (flat_map f (take i xs)) → Takes t u (f x) → Takes s u (flat_map f (take (i + 1) xs))
takes_each f {s} {t} {u} xs i x d e h p q =
    let P : List ℕ → Type 0 = λ z. Takes s u z in
    subst P (ap (λ z. flat_map f (take i xs) ++ f z) e ∙ sym (each_more f xs i d h)) (takes_more p q)

-- the item that is not written whole
pub puts_each : {E X : Type 0} (f : X → List ℕ) {s t u : Output} (xs : List X) (i : ℕ) (x d : X) (e : E) (r : Result Unit E) → x ≡ get_or xs i d → IsErr r
    → i < length xs → Takes s t (flat_map f (take i xs)) → Puts t u (Err e) (f x) → Puts s u r (flat_map f xs)
puts_each {E} f {s} {t} {u} xs i x d e r k z h p q =
    let P : List ℕ → Type 0 = λ z. Breaks s u z in
    puts_stops {e = e} r (record {
      ok = tt;
      err = subst P (ap (λ z. (flat_map f (take i xs) ++ f z) ++ flat_map f (drop (suc i) xs)) k ∙ sym (each_splits f xs i d h))
          (breaks_before (flat_map f (drop (suc i) xs)) (takes_breaks p q.err));
    }) z

pub ruleset writing = (puts_more, puts_before, puts_stops)
