-- Posts that differ in the order of messages to different handles alone, and the calls on them.
use Rattle.rh_defs.proofs.Common.{◌≡◌, ◌≢◌, ℕ, suc, ◌+◌, Bool, true, false, cond, refl, ap, sym, subst, ◌∙◌, arith, List, [], ◌∷◌, ◌++◌, length, Option, Some}
use Rattle.rh_defs.proofs.Common.{None, filter, not, ◌==◌, ◌||◌, nat_le, ◌^◌, eqb-true, eqb-false, Letter, ◌>>◌, refuse_if, total, Heap, module_claim, poked}
use Rattle.rh_defs.proofs.Common.{Parcel, is_recorded, parcel_bytes, parcel_size, Seat, Post, has_seat, held_by, with_held, answers_held, put_down, queued_in}
use Rattle.rh_defs.proofs.Common.{posted, message_of, sendable, post_send, as_returned, without_block, bounced, bounce_held, first_for, taken_from, post_poll}
use Rattle.rh_defs.proofs.Common.{bounce_all, post_death}
use Rattle.std.specs.List.{list_any}
use Rattle.std.proofs.lemmas.List.Elements.{filter-append}
use Rattle.rh_defs.specs.declared.refusal.Refusal.TheVariants.{NoTask, NoRefs, QueueFull}
use Rattle.rh_defs.specs.Post.{most_messages, count_held, holds_such, has_message, post_is_message, post_is_live, parcel_of, behind_first, held_or_released}
use Rattle.rh_defs.specs.Post.{taken}
use Rattle.rh_defs.specs.Order.{is_to, SameForEach, requeued}
use Rattle.rh_defs.proofs.Follows.{Follows, follows-same, follows-as}

-- ---- queues

pub same-append : (xs ys : List Parcel) (p : Parcel) → SameForEach xs ys → SameForEach (xs ++ p ∷ []) (ys ++ p ∷ [])
same-append xs ys p same = record {
  each = λ h.
      filter-append (is_to h) xs (p ∷ []) ∙ ap (λ zs. zs ++ filter (is_to h) (p ∷ [])) (same.each h) ∙ sym (filter-append (is_to h) ys (p ∷ []));
}

-- what taking the first message for a handle does to each handle's messages
abbrev Takes : ℕ → List Parcel → Option (Parcel × List Parcel) → Type 0
Takes h queue None = filter (is_to h) queue ≡ []
Takes h queue (Some t) =
    (filter (is_to h) queue ≡ t.0 ∷ filter (is_to h) t.1) × ((k : ℕ) → k ≢ h → filter (is_to k) queue ≡ filter (is_to k) t.1)

first_for-takes : (h : ℕ) (queue : List Parcel) → Takes h queue (first_for h queue)
first_for-takes h [] = refl
first_for-takes h (p ∷ queue) = go (p.to == h) refl (first_for h queue) (first_for-takes h queue)
  where
    -- the other handles' messages with p before them
    past : (k : ℕ) (rest : List Parcel) → filter (is_to k) queue ≡ filter (is_to k) rest → filter (is_to k) (p ∷ queue) ≡ filter (is_to k) (p ∷ rest)
    past k rest e =
        elim (p.to == k) as (λ b. cond b (p ∷ filter (is_to k) queue) (filter (is_to k) queue) ≡ cond b (p ∷ filter (is_to k) rest) (filter (is_to k) rest))
        [ true ↦ ap (λ zs. p ∷ zs) e | false ↦ e ]

    other : (k : ℕ) → p.to ≡ h → k ≢ h → (b : Bool) → (p.to == k) ≡ b → cond b (p ∷ filter (is_to k) queue) (filter (is_to k) queue) ≡ filter (is_to k) queue
    other k e ne true f = absurd (ne (sym (eqb-true p.to k f) ∙ e))
    other k e ne false f = refl

    go : (b : Bool) → (p.to == h) ≡ b → (o : Option (Parcel × List Parcel)) → Takes h queue o
        → Takes h (p ∷ queue) (cond b (Some (p, queue)) (behind_first p o))
    go true e o takes = (rw e refl, λ k ne. other k (eqb-true p.to h e) ne (p.to == k) refl)
    go false e None takes = rw e takes
    go false e (Some t) takes = (rw e takes.0, λ k ne. past k t.1 (takes.1 k ne))

-- the first messages for a handle are the same, and the rest differs alike
data TakeAlike : Option (Parcel × List Parcel) → Option (Parcel × List Parcel) → Type 0 where
  none : TakeAlike None None
  first : (p : Parcel) (rest other : List Parcel) → SameForEach rest other → TakeAlike (Some (p, rest)) (Some (p, other))

take-alike : (h : ℕ) (xs ys : List Parcel) → SameForEach xs ys → TakeAlike (first_for h xs) (first_for h ys)
take-alike h xs ys same = go (first_for h xs) (first_for h ys) (first_for-takes h xs) (first_for-takes h ys)
  where
    each : (rest other : List Parcel) → ((k : ℕ) → k ≢ h → filter (is_to k) xs ≡ filter (is_to k) rest)
        → ((k : ℕ) → k ≢ h → filter (is_to k) ys ≡ filter (is_to k) other)
        → filter (is_to h) rest ≡ filter (is_to h) other → (k : ℕ) (b : Bool) → (k == h) ≡ b → filter (is_to k) rest ≡ filter (is_to k) other
    each rest other f g here k true e = subst (λ j. filter (is_to j) rest ≡ filter (is_to j) other) (sym (eqb-true k h e)) here
    each rest other f g here k false e = sym (f k (eqb-false k h e)) ∙ same.each k ∙ g k (eqb-false k h e)

    go : (o o' : Option (Parcel × List Parcel)) → Takes h xs o → Takes h ys o' → TakeAlike o o'
    go None None a b = TakeAlike.none
    go None (Some t) a b = let s = same.each h in absurd (cc (a, b.0, s))
    go (Some t) None a b = let s = same.each h in absurd (cc (a.0, b, s))
    go (Some t) (Some u) a b =
        let s = same.each h in
        let p : u.0 ≡ t.0 = cc (a.0, b.0, s) in
        let rest : filter (is_to h) t.1 ≡ filter (is_to h) u.1 = cc (a.0, b.0, s) in
        subst (λ q. TakeAlike (Some t) (Some (q, u.1))) (sym p)
        (TakeAlike.first t.0 t.1 u.1 (record { each = λ k. each t.1 u.1 a.1 b.1 rest k (k == h) refl }))

equal : (n : ℕ) → (n == n) ≡ true
equal n = grind arith

-- the first message is the first one for its own handle
own-first : (p : Parcel) (xs : List Parcel) → first_for p.to (p ∷ xs) ≡ Some (p, xs)
own-first p xs = ap (λ b. cond b (Some (p, xs)) (behind_first p (first_for p.to xs))) (equal p.to)

-- what is added up over a queue, in whatever order
module _ {X : Type 0} (sum : List Parcel → X) (add : Parcel → X → X) (cons : (p : Parcel) (queue : List Parcel) → sum (p ∷ queue) ≡ add p (sum queue))
    (swap : (p q : Parcel) (x : X) → add p (add q x) ≡ add q (add p x)) where
  abbrev Adds : List Parcel → Option (Parcel × List Parcel) → Type 0
  Adds queue None = Unit {0}
  Adds queue (Some t) = sum queue ≡ add t.0 (sum t.1)

  first_for-adds : (h : ℕ) (queue : List Parcel) → Adds queue (first_for h queue)
  first_for-adds h [] = tt
  first_for-adds h (p ∷ queue) = go (p.to == h) (first_for h queue) (first_for-adds h queue)
    where
      go : (b : Bool) (o : Option (Parcel × List Parcel)) → Adds queue o → Adds (p ∷ queue) (cond b (Some (p, queue)) (behind_first p o))
      go true o adds = cons p queue
      go false None adds = tt
      go false (Some t) adds = cons p queue ∙ ap (add p) adds ∙ swap p t.0 (sum t.1) ∙ ap (add t.0) (sym (cons p t.1))

  pub same-sum : (xs ys : List Parcel) → SameForEach xs ys → sum xs ≡ sum ys
  same-sum [] [] same = refl
  same-sum [] (p ∷ ys) same =
      let empty : [] ≡ p ∷ filter (is_to p.to) ys = same.each p.to ∙ ap (λ b. cond b (p ∷ filter (is_to p.to) ys) (filter (is_to p.to) ys)) (equal p.to) in
      absurd (cc empty)
  same-sum (p ∷ xs) ys same =
      go (first_for p.to (p ∷ xs)) (first_for p.to ys) (take-alike p.to (p ∷ xs) ys same) (own-first p xs) (first_for-adds p.to ys)
      (λ other s. same-sum xs other s)
    where
      go : (o o' : Option (Parcel × List Parcel)) → TakeAlike o o' → o ≡ Some (p, xs) → Adds ys o'
          → ((other : List Parcel) → SameForEach xs other → sum xs ≡ sum other) → sum (p ∷ xs) ≡ sum ys
      go _ _ TakeAlike.none e adds rest = absurd cc
      go _ _ (TakeAlike.first q left other s) e adds rest =
          let pair : ◌≡◌ {A = Parcel × List Parcel} (q, left) (p, xs) = cc in
          let here : q ≡ p = ap (λ (t : Parcel × List Parcel). t.0) pair in
          let behind : left ≡ xs = ap (λ (t : Parcel × List Parcel). t.1) pair in
          cons p xs ∙ ap (add p) (rest other (subst (λ l. SameForEach l other) behind s)) ∙ sym (subst (λ a. sum ys ≡ add a (sum other)) here adds)

pub same-length : (xs ys : List Parcel) → SameForEach xs ys → length xs ≡ length ys
same-length xs ys same = same-sum (λ queue. length queue) (λ p n. suc n) (λ p queue. refl) (λ p q n. refl) xs ys same

pub same-any : (test : Parcel → Bool) (xs ys : List Parcel) → SameForEach xs ys → list_any test xs ≡ list_any test ys
same-any test xs ys same = same-sum (list_any test) (λ p b. test p || b) (λ p queue. refl) (λ p q b. swap (test p) (test q) b) xs ys same
  where
    swap : (a b c : Bool) → (a || (b || c)) ≡ (b || (a || c))
    swap true true c = refl
    swap true false c = refl
    swap false true c = refl
    swap false false c = refl

-- ---- what is asked of a post

pub has_message-same : (test : Parcel → Bool) (post : Post) (queue : List Parcel) → SameForEach post.queued queue
    → has_message test (requeued queue post) ≡ has_message test post
has_message-same test post queue same = ap (λ b. b || list_any (λ (s : Seat). holds_such test s.holds) post.seats) (sym (same-any test post.queued queue same))

pub is_live-same : (ref : ℕ) (post : Post) (queue : List Parcel) → SameForEach post.queued queue
    → post_is_live ref (requeued queue post) ≡ post_is_live ref post
unfolding post_is_live
is_live-same ref post queue same = has_message-same (λ (p : Parcel). p.message.my_ref == ref) post queue same

pub is_message-same : (block : ℕ) (post : Post) (queue : List Parcel) → SameForEach post.queued queue
    → post_is_message block (requeued queue post) ≡ post_is_message block post
unfolding post_is_message
is_message-same block post queue same = has_message-same (λ (p : Parcel). p.block == block) post queue same

pub sendable-same : (l : Letter) (post : Post) (queue : List Parcel) → SameForEach post.queued queue → sendable l (requeued queue post) ≡ sendable l post
unfolding sendable
sendable-same l post queue same =
    ap (λ n. refuse_if (not (has_seat l.to post.seats)) NoTask >> (refuse_if (nat_le (2 ^ 32) post.next_ref) NoRefs >> refuse_if
    (nat_le most_messages (n + total (λ (s : Seat). count_held s.holds) post.seats)) QueueFull))
    (sym (same-length post.queued queue same))

-- ---- two posts

-- the second is the first with another such queue
pub data PostAlike : Post → Post → Type 0 where
  alike : (post : Post) (queue : List Parcel) → SameForEach post.queued queue → PostAlike post (requeued queue post)

-- two posts, each with an answer, which is the same
pub data AnswerAlike {B : Type 0} : Post × B → Post × B → Type 0 where
  alike : (post : Post) (queue : List Parcel) (x : B) → SameForEach post.queued queue → AnswerAlike (post, x) (requeued queue post, x)

bounced-alike : (p : Parcel) (post : Post) (queue : List Parcel) → SameForEach post.queued queue → PostAlike (bounced p post) (bounced p (requeued queue post))
bounced-alike p post queue same = go (has_seat p.message.from post.seats)
  where
    back : List Parcel → Post
    back queue = record post {
      queued = queue ++ as_returned p ∷ [];
      heap = poked p.block 0 (parcel_bytes 0 (as_returned p)) post.heap;
    }

    go : (b : Bool) → PostAlike (cond b (back post.queued) (without_block p post)) (cond b (back queue) (without_block p (requeued queue post)))
    go true = PostAlike.alike (back post.queued) (queue ++ as_returned p ∷ []) (same-append post.queued queue (as_returned p) same)
    go false = PostAlike.alike (without_block p post) queue same

bounce_held-alike : (h : ℕ) (o : Option Parcel) (post : Post) (queue : List Parcel) → SameForEach post.queued queue
    → PostAlike (bounce_held h o post) (bounce_held h o (requeued queue post))
bounce_held-alike h None post queue same = PostAlike.alike post queue same
bounce_held-alike h (Some p) post queue same = bounced-alike p (record post { seats = with_held h None post.seats }) queue same

-- ---- polls

held_or_released-alike : (h : ℕ) (p : Parcel) (post : Post) (queue : List Parcel) → SameForEach post.queued queue
    → AnswerAlike (held_or_released h p post, Some p) (held_or_released h p (requeued queue post), Some p)
held_or_released-alike h p post queue same =
    elim (is_recorded p.code) as (λ b. AnswerAlike (cond b (record post { seats = with_held h (Some p) post.seats }) (without_block p post), Some p)
    (cond b (record post { queued = queue; seats = with_held h (Some p) post.seats }) (without_block p (requeued queue post)), Some p)) [
      | true ↦ AnswerAlike.alike (record post { seats = with_held h (Some p) post.seats }) queue (Some p) same
      | false ↦ AnswerAlike.alike (without_block p post) queue (Some p) same
    ]

taken_from-alike : (h : ℕ) (post : Post) (queue : List Parcel) → SameForEach post.queued queue → (o o' : Option (Parcel × List Parcel)) → TakeAlike o o'
    → AnswerAlike (taken_from h o post) (taken_from h o' (requeued queue post))
taken_from-alike h post queue same _ _ TakeAlike.none = AnswerAlike.alike post queue None same
taken_from-alike h post queue same _ _ (TakeAlike.first p rest other s) = held_or_released-alike h p (record post { queued = rest }) other s

taken-alike : (h : ℕ) {a b : Post} → PostAlike a b → AnswerAlike (taken h a) (taken h b)
taken-alike h (PostAlike.alike post queue same) =
    taken_from-alike h post queue same (first_for h post.queued) (first_for h queue) (take-alike h post.queued queue same)

pub post_poll-alike : (h : ℕ) (post : Post) (queue : List Parcel) → SameForEach post.queued queue
    → AnswerAlike (post_poll h post) (post_poll h (requeued queue post))
unfolding post_poll
post_poll-alike h post queue same = taken-alike h (bounce_held-alike h (held_by h post.seats) post queue same)

-- ---- deaths

bounce_all-alike : (gone : List Parcel) {a b : Post} → PostAlike a b → PostAlike (bounce_all gone a) (bounce_all gone b)
bounce_all-alike [] pair = pair
bounce_all-alike (p ∷ gone) pair = bounce_all-alike gone (one pair)
  where
    one : {a b : Post} → PostAlike a b
        → PostAlike (cond (is_recorded p.code) (bounced p a) (without_block p a)) (cond (is_recorded p.code) (bounced p b) (without_block p b))
    one (PostAlike.alike post queue same) =
        elim (is_recorded p.code) as (λ t. PostAlike (cond t (bounced p post) (without_block p post))
        (cond t (bounced p (requeued queue post)) (without_block p (requeued queue post))))
        [ true ↦ bounced-alike p post queue same | false ↦ PostAlike.alike (without_block p post) queue same ]

-- two tests may be made in either order
filter-swap : {A : Type 0} (f g : A → Bool) (xs : List A) → filter f (filter g xs) ≡ filter g (filter f xs)
filter-swap f g [] = refl
filter-swap {A} f g (x ∷ xs) = go (f x) (g x) refl refl (filter-swap f g xs)
  where
    go : (a b : Bool) → f x ≡ a → g x ≡ b → filter f (filter g xs) ≡ filter g (filter f xs)
        → filter f (cond b (x ∷ filter g xs) (filter g xs)) ≡ filter g (cond a (x ∷ filter f xs) (filter f xs))
    go true true e e' h =
        ap (λ t. cond t (x ∷ filter f (filter g xs)) (filter f (filter g xs))) e ∙ ap (λ l. x ∷ l) h
        ∙ sym (ap (λ t. cond t (x ∷ filter g (filter f xs)) (filter g (filter f xs))) e')
    go true false e e' h = h ∙ sym (ap (λ t. cond t (x ∷ filter g (filter f xs)) (filter g (filter f xs))) e')
    go false true e e' h = ap (λ t. cond t (x ∷ filter f (filter g xs)) (filter f (filter g xs))) e ∙ h
    go false false e e' h = h

-- of what passes a test the order differs alike
filter-same : (test : Parcel → Bool) (xs ys : List Parcel) → SameForEach xs ys → SameForEach (filter test xs) (filter test ys)
filter-same test xs ys same = record { each = λ h. filter-swap (is_to h) test xs ∙ ap (filter test) (same.each h) ∙ sym (filter-swap (is_to h) test ys) }

pub post_death-alike : (h : ℕ) (post : Post) (queue : List Parcel) → SameForEach post.queued queue
    → PostAlike (post_death h post) (post_death h (requeued queue post))
unfolding post_death
post_death-alike h post queue same =
    subst (λ gone. PostAlike (post_death h post) (bounce_all gone (bounce_held h (held_by h post.seats) (requeued (others queue) base)))) (same.each h)
    (bounce_all-alike (filter (λ (p : Parcel). p.to == h) post.queued)
    (bounce_held-alike h (held_by h post.seats) base (others queue) (filter-same (λ (p : Parcel). not (p.to == h)) post.queued queue same)))
  where
    others : List Parcel → List Parcel
    others queue = filter (λ (p : Parcel). not (p.to == h)) queue

    base : Post
    base = record post {
      seats = filter (λ (s : Seat). not (s.handle == h)) post.seats;
      queued = filter (λ (p : Parcel). not (p.to == h)) post.queued;
    }

-- ---- sends

posted-alike : (l : Letter) (there : Heap × ℕ) (post : Post) (queue : List Parcel) → SameForEach post.queued queue
    → AnswerAlike (posted l there post, post.next_ref) (posted l there (requeued queue post), post.next_ref)
posted-alike l there post queue same =
    let p : Parcel = parcel_of l post.next_ref there.1 in
    let more : SameForEach (post.queued ++ p ∷ []) (queue ++ p ∷ []) = same-append post.queued queue p same in
    elim (answers_held l.your_ref (held_by l.from post.seats)) as (λ b. AnswerAlike
    (cond b (put_down l.from (queued_in l there post)) (queued_in l there post), post.next_ref)
    (cond b (put_down l.from (queued_in l there (requeued queue post))) (queued_in l there (requeued queue post)), post.next_ref)) [
      | true ↦ AnswerAlike.alike (put_down l.from (queued_in l there post)) (queue ++ p ∷ []) post.next_ref more
      | false ↦ AnswerAlike.alike (queued_in l there post) (queue ++ p ∷ []) post.next_ref more
    ]

pub post_send-alike : (free : ℕ) (l : Letter) (post : Post) (queue : List Parcel) → SameForEach post.queued queue
    → Follows AnswerAlike (post_send free l post) (post_send free l (requeued queue post))
unfolding post_send
post_send-alike free l post queue same =
    follows-as (sendable l post) (sendable l (requeued queue post)) _ _ (sendable-same l post queue same)
    (follows-same (module_claim free (parcel_size (message_of l 0)) post.heap) _ _ λ there. Follows.both (posted-alike l there post queue same))
