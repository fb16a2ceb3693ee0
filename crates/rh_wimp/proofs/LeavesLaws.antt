-- What a call leaves, by the post that it spells then.
use Rattle.rh_wimp.proofs.Common.{◌≡◌, ℕ, suc, ◌<◌, true, false, Bool, List, [], ◌∷◌, length, map, refl, sym, ap, ◌∙◌, arith, ◌==◌, ◌||◌}
use Rattle.rh_wimp.proofs.Common.{list_any, Heap, Memory, OnlyArea, Seat, Post, IsModule, Module, IsQueue, Chains, HasEntry, ArePostChains}
use Rattle.rh_wimp.proofs.Common.{SpellsPostIn, entry_at, Entry}
use Rattle.rh_defs.specs.Inner.PostHandles.{post_handles}
use Rattle.rh_wimp.specs.QueueCalls.{LeavesChains, handles_of}
use Rattle.rh_wimp.proofs.PostLaws.{eq_of, seat_at}
use Rattle.rh_wimp.proofs.SendLaws.{as_many, seated}

pub left : {m n : Memory} {module_area : Module} {q k : Chains} {next : Post → Post} → IsQueue m module_area q
    → ((post : Post) → SpellsPostIn m module_area q post → SpellsPostIn n module_area k (next post)) → IsModule n module_area → OnlyArea m n module_area.area.0
    → LeavesChains m n module_area q k next
left {next = next} old spells area only =
    record { spells = spells; still = record { area = area; post = next old.post; spells = spells old.post old.spells }; only = only }

-- ---- handles
alike : (es : List Entry) (seats : List Seat) → length seats ≡ length es → ((i : ℕ) → i < length es → (entry_at es i).handle ≡ (seat_at seats i).handle)
    → map (λ (e : Entry). e.handle) es ≡ map (λ (s : Seat). s.handle) seats
alike [] [] l f = refl
alike [] (s ∷ seats) l f = absurd (omega arith)
alike (e ∷ es) [] l f = absurd (omega arith)
alike (e ∷ es) (s ∷ seats) l f = ap (λ x. x ∷ map (λ (y : Entry). y.handle) es) (f 0 (omega arith))
    ∙ ap (λ r. s.handle ∷ r) (alike es seats (omega arith) (λ i b. f (suc i) (omega arith)))

-- the queue's handles are the post's
pub handles-are : (h : Heap) (q : Chains) (post : Post) → ArePostChains h q post → handles_of q ≡ post_handles post
handles-are h q post s = alike q.entries post.seats (as_many h q post s) (λ i l. (seated h q post i s l).handle)

pub handles-stay : (h g : Heap) (q k : Chains) (post next : Post) → ArePostChains h q post → ArePostChains g k next → post_handles next ≡ post_handles post
    → handles_of k ≡ handles_of q
handles-stay h g q k post next s t e = handles-are g k next t ∙ e ∙ sym (handles-are h q post s)

-- a handle that is among them is live
pub HasEntry-from_handles : (x : ℕ) (q : Chains) → list_any (λ h. h == x) (handles_of q) ≡ true → HasEntry x q
HasEntry-from_handles x q t = go q.entries t
  where
    go : (es : List Entry) → list_any (λ h. h == x) (map (λ (e : Entry). e.handle) es) ≡ true → (i : ℕ) × ((i < length es) × ((entry_at es i).handle ≡ x))
    go [] u = absurd cc
    go (e ∷ es) u = one (e.handle == x) refl u (go es)
      where
        one : (b : Bool) → (e.handle == x) ≡ b → (b || list_any (λ h. h == x) (map (λ (y : Entry). y.handle) es)) ≡ true
            → (list_any (λ h. h == x) (map (λ (y : Entry). y.handle) es) ≡ true → (i : ℕ) × ((i < length es) × ((entry_at es i).handle ≡ x)))
            → (i : ℕ) × ((i < length (e ∷ es)) × ((entry_at (e ∷ es) i).handle ≡ x))
        one true eb v f = (0, (omega arith, eq_of e.handle x eb))
        one false eb v f = let r = f v in (suc r.0, (let l = r.1.0 in omega arith, r.1.1))

either : (a : Bool) {b : Bool} → b ≡ true → (a || b) ≡ true
either true e = refl
either false e = e
