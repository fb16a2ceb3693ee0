-- The post as a value: what the queue's calls, and edits of other areas, do to it.
use Rattle.rh_wimp.proofs.Common.{◌≡◌, ◌≢◌, ℕ, zero, suc, ◌<◌, Bool, true, false, cond, List, [], ◌∷◌, ◌++◌, length, filter, refl, sym, ap, subst, ◌∙◌, arith}
use Rattle.rh_wimp.proofs.Common.{Option, Some, None, unwrap_or, ◌==◌, Heap, Memory, OnlyArea, bytes, Parcel, Seat, Post, post_join, IsModule, module_heap_in}
use Rattle.rh_wimp.proofs.Common.{Module, IsQueue, Chains, HasEntry, ArePostChains, SpellsPostIn, by_seats, in_order}
use Rattle.std.specs.List.{AllByRecursion}
use Rattle.rh_defs.specs.HeapImage.{heap_of}
use Rattle.rh_defs.specs.Laws as laws
use Rattle.rh_defs.specs.Order.{SameForEach, requeued}
use Rattle.rh_wimp.specs.QueueCalls.{Answers, LeavesChains}
use Rattle.rh_wimp.specs.Chains.{joined_chains}
use Rattle.rh_wimp.specs.QueueLaws.{HaveOnePost, IsSmallModule}
use Rattle.rh_wimp.specs.PostIn.{post_in, post_of}
use Rattle.rh_wimp.proofs.JoinLaws.{join-spells}
use Rattle.rh_wimp.proofs.OrderLaws.{HoldsOwn, by_seats-each, by_seats-length, own-seats}
use Rattle.rh_wimp.proofs.PostInLaws.{module-low, post_of-is, post_of-spells}
use Rattle.rh_wimp.proofs.PostLaws.{seat_at}
use Rattle.rh_wimp.proofs.SendLaws.{named}

-- ---- which post it is
-- the post that is read is spelled
pub post_in-spelled : (m : Memory) (module_area : Module) (q : Chains) → IsSmallModule m module_area → IsQueue m module_area q → SpellsPostIn m module_area q
    (post_in m module_area q)
post_in-spelled m module_area q small s = post_of-spells (module_heap_in m module_area) q s.post (module-low m module_area s.area small) s.spells

-- each post that is spelled, in order of seats, is the one that is read
pub post_in-is : (m : Memory) (module_area : Module) (q : Chains) (post : Post) → IsSmallModule m module_area → IsModule m module_area
    → SpellsPostIn m module_area q post
    → post_in m module_area q ≡ in_order post
post_in-is m module_area q post small s w = post_of-is (module_heap_in m module_area) q post (module-low m module_area s small) w

pub one-post : HaveOnePost
one-post m module_area q post small s w = (
  post_in-spelled m module_area q small
      (record { area = s; post = post; spells = w }),
  post_in-is m module_area q post small s w,
)

-- it is in order of seats
pub post_in-in_order : (m : Memory) (module_area : Module) (q : Chains) → IsSmallModule m module_area → IsQueue m module_area q → post_in m module_area q
    ≡ in_order (post_in m module_area q)
post_in-in_order m module_area q small s = post_in-is m module_area q (post_in m module_area q) small s.area (post_in-spelled m module_area q small s)

-- two posts that are spelled differ in the order of messages to different tasks alone
pub posts-alike : (m : Memory) (module_area : Module) (q : Chains) (post other : Post) → IsSmallModule m module_area → IsModule m module_area
    → SpellsPostIn m module_area q post
    → SpellsPostIn m module_area q other → in_order post ≡ in_order other
posts-alike m module_area q post other small s v w = sym (post_in-is m module_area q post small s v) ∙ post_in-is m module_area q other small s w

-- ---- what is held is for the handle that holds it
-- a post and the same post with its queue in another order
pub record IsRequeued (a b : Post) : Type 0 where
  pub same : SameForEach a.queued b.queued
  pub rest : b ≡ requeued b.queued a

own-one : (next h : ℕ) (o : Option Parcel) → laws.HoldsOwn next (record { handle = h; holds = o }) → (p : Parcel) → o ≡ Some p → p.to ≡ h
own-one next h None w p e = absurd cc
own-one next h (Some x) w p e = let same : x ≡ p = cc in ap (λ (y : Parcel). y.to) (sym same) ∙ w.own

own-each : (next : ℕ) (seats : List Seat) → AllByRecursion (laws.HoldsOwn next) seats → (i : ℕ) → i < length seats → HoldsOwn (seat_at seats i)
own-each next [] w i b = absurd (omega arith)
own-each next (s ∷ seats) w zero b = own-one next s.handle s.holds w.0
own-each next (s ∷ seats) w (suc i) b = own-each next seats w.1 i (omega arith)

pub in_order-own : (post : Post) → AllByRecursion (laws.HoldsOwn post.next_ref) post.seats → in_order post ≡ requeued (by_seats post.seats post.queued) post
in_order-own post w =
    ap (λ (l : List Seat). let x : Post = record { seats = l; queued = by_seats post.seats post.queued; heap = post.heap; next_ref = post.next_ref } in x)
    (own-seats post.seats (own-each post.next_ref post.seats w))

-- the post that is read is the one that is spelled, but for that order
pub post_in-requeued : (m : Memory) (module_area : Module) (q : Chains) (post : Post) → IsSmallModule m module_area → IsModule m module_area
    → SpellsPostIn m module_area q post
    → AllByRecursion (laws.HoldsOwn post.next_ref) post.seats → IsRequeued post (post_in m module_area q)
post_in-requeued m module_area q post small s w own =
    let same = named (module_heap_in m module_area) q post w in
    subst (IsRequeued post) (sym (post_in-is m module_area q post small s w ∙ in_order-own post own)) (record {
      same = record { each = λ h. sym (by_seats-each post.seats post.queued h same w.recipients) };
      rest = refl;
    })

-- ---- what every call keeps of a post
module _ (P : Parcel → Type 0) where
  all-both : (ps qs : List Parcel) → AllByRecursion P ps → AllByRecursion P qs → AllByRecursion P (ps ++ qs)
  all-both [] qs a b = b
  all-both (p ∷ ps) qs a b = (a.0, all-both ps qs a.1 b)

  all-some : (test : Parcel → Bool) (ps : List Parcel) → AllByRecursion P ps → AllByRecursion P (filter test ps)
  all-some test [] a = tt
  all-some test (p ∷ ps) a = go (test p) (all-some test ps a.1)
    where
      go : (t : Bool) → AllByRecursion P (filter test ps) → AllByRecursion P (cond t (p ∷ filter test ps) (filter test ps))
      go true r = (a.0, r)
      go false r = r

  all-by_seats : (seats : List Seat) (queue : List Parcel) → AllByRecursion P queue → AllByRecursion P (by_seats seats queue)
  all-by_seats [] queue a = tt
  all-by_seats (s ∷ seats) queue a = all-both (filter (λ (p : Parcel). p.to == s.handle) queue) (by_seats seats queue)
      (all-some (λ (p : Parcel). p.to == s.handle) queue a) (all-by_seats seats queue a)

pub in_order-keeps : (h : Heap) (q : Chains) (post : Post) → ArePostChains h q post → laws.IsPost post → laws.IsPost (in_order post)
in_order-keeps h q post s w =
    let n = by_seats-length post.seats post.queued (named h q post s) s.recipients in
    let few = w.few in
    subst laws.IsPost (sym (in_order-own post w.held)) (record {
      heap = w.heap;
      few = omega arith;
      refs = w.refs;
      queued = all-by_seats (laws.IsQueued post.next_ref post.seats) post.seats post.queued w.queued;
      held = w.held;
    })

-- ---- edits of other areas
bytes-stay : (m n : Memory) (id : ℕ) → n.area id ≡ m.area id → bytes n id ≡ bytes m id
unfolding bytes
bytes-stay m n id e = ap (λ o. unwrap_or o []) e

pub heap-stays : (m n : Memory) (module_area : Module) → n.area module_area.area.0 ≡ m.area module_area.area.0 → module_heap_in n module_area
    ≡ module_heap_in m module_area
heap-stays m n module_area e = ap (λ b. heap_of b 0) (bytes-stay m n module_area.area.0 e)

-- where the module area stays, so does the post
pub post_in-stays : (m n : Memory) (module_area : Module) (q : Chains) → n.area module_area.area.0 ≡ m.area module_area.area.0 → post_in n module_area q
    ≡ post_in m module_area q
post_in-stays m n module_area q e = ap (λ h. post_of h q) (heap-stays m n module_area e)

pub post_in-beside : (m n : Memory) (id : ℕ) (module_area : Module) (q : Chains) → OnlyArea m n id → module_area.area.0 ≢ id → post_in n module_area q
    ≡ post_in m module_area q
post_in-beside m n id module_area q only ne = post_in-stays m n module_area q (only.others module_area.area.0 ne)

pub spells-stays : (m n : Memory) (module_area : Module) (q : Chains) (post : Post) → n.area module_area.area.0 ≡ m.area module_area.area.0
    → SpellsPostIn m module_area q post
    → SpellsPostIn n module_area q post
spells-stays m n module_area q post e w = subst (λ h. ArePostChains h q post) (sym (heap-stays m n module_area e)) w

-- ---- calls of the queue
-- what a call answers
pub answered : {A : Type 0} (m : Memory) (module_area : Module) (q : Chains) (answer : Post → A) (result : A) → IsSmallModule m module_area
    → IsQueue m module_area q
    → Answers m module_area q answer result → result ≡ answer (post_in m module_area q)
answered m module_area q answer result small s a = a (post_in m module_area q) (post_in-spelled m module_area q small s)

-- the post that a call leaves
pub post_in-leaves : (m n : Memory) (module_area : Module) (q k : Chains) (next : Post → Post) → IsSmallModule m module_area → IsSmallModule n module_area
    → IsQueue m module_area q
    → LeavesChains m n module_area q k next → post_in n module_area k ≡ in_order (next (post_in m module_area q))
post_in-leaves m n module_area q k next small smaller s l =
    post_in-is n module_area k (next (post_in m module_area q)) smaller l.still.area
    (l.spells (post_in m module_area q) (post_in-spelled m module_area q small s))

-- a new queue has an empty post
pub post_in-starts : (m : Memory) (module_area : Module) (ref : ℕ)
    → post_in m module_area (record { entries = []; live = 0; next_ref = ref })
    ≡ record { seats = []; queued = []; heap = module_heap_in m module_area; next_ref = ref }
unfolding post_of
post_in-starts m module_area ref = refl

-- a handle that joins
pub post_in-joins : (m : Memory) (module_area : Module) (q : Chains) (h : ℕ) → IsSmallModule m module_area → IsQueue m module_area q → (HasEntry h q → ⊥)
    → post_in m module_area (joined_chains h q) ≡ in_order (post_join h (post_in m module_area q))
post_in-joins m module_area q h small s new =
    post_in-is m module_area (joined_chains h q) (post_join h (post_in m module_area q)) small s.area
    (join-spells (module_heap_in m module_area) q (post_in m module_area q) h (post_in-spelled m module_area q small s) new)
