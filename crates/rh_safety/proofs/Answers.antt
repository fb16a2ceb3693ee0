-- A message of a task with code of its own, and what the post has then, keep what is known.
use Rattle.rh_safety.proofs.Common.{◌≡◌, ℕ, Bool, true, false, None, refl, ap, ◌∙◌, subst, inl, inr, eqb_tells}
use Rattle.rh_safety.proofs.Common.{if◌then◌else◌, option_map, Ok, Desk, Post, send_letter, with_delivered, with_post, with_task, post_send}
use Rattle.rh_safety.proofs.Common.{free_pages, held_by, with_held, answers_held, put_down, queued_in, view, seen_parcel, seen_letter, seen_scrap, Offers}
use Rattle.rh_safety.proofs.Common.{Edits, Some, []}
use Rattle.rh_safety.proofs.Common.{LiveFile, put, Fits, HaveOwnSeats}
use Rattle.rh_defs.specs.declared.message.Letter.{Letter}
use Rattle.rh_defs.specs.Messages.{parcel_size}
use Rattle.rh_defs.specs.Module.{module_claim}
use Rattle.rh_defs.specs.Post.{message_of, posted, sendable}
use Rattle.rh_defs.specs.RawCommands.{after_answer}
use Rattle.rh_safety.specs.RawIds.{Gave}
use Rattle.rh_safety.proofs.Sight as sight
use Rattle.rh_safety.proofs.Keeps.{Tells, seen_stands}
use Rattle.rh_safety.proofs.Standing.{down_stands, foreign_stands, kept_stands, sent_masked}
use Rattle.rh_safety.proofs.SeenBlocks.{from_bind, from_test, ok_is}
use Rattle.rh_safety.proofs.SeenFiles.{delivered_live}
use Rattle.rh_safety.proofs.SeenPosts.{kept_is, with_scrap}
use Rattle.rh_safety.proofs.SeenSends.{held_put, held_seen, sent_view}

-- ---- seats after a send

posted_own : (l : Letter) (there : _) (q : Post) → HaveOwnSeats q → HaveOwnSeats (record q { seats = with_held l.from None q.seats }) →
    HaveOwnSeats (posted l there q)
posted_own l there q own down = go (answers_held l.your_ref (held_by l.from q.seats))
  where
    go : (b : Bool) → HaveOwnSeats (if b then put_down l.from (queued_in l there q) else queued_in l there q)
    go true = down
    go false = own

pub sent_own : (d e : Desk) (l : Letter) → send_letter l d ≡ Ok e → Fits d → HaveOwnSeats e.post
unfolding send_letter post_send with_task
sent_own d e l q f =
    let w = from_bind (post_send (free_pages d) l d.post) _ e q in
    let p = from_bind (module_claim (free_pages d) (parcel_size (message_of l 0)) d.post.heap) (λ there. Ok (posted l there d.post, d.post.next_ref))
    w.value (from_test (sendable l d.post) _ w.value w.first) in
    let post : posted l p.value d.post ≡ w.value.0 = ap (λ (y : Post × ℕ). y.0) (ok_is _ w.value p.rest) in
    subst (λ (y : Desk). HaveOwnSeats y.post) (ok_is _ e w.rest)
    (subst HaveOwnSeats post (posted_own l p.value d.post f.own (f.down l.from)))

-- ---- the desk after the message

pub answered_stands : {o : Offers} {e : Edits} {R : Gave} (d sent : Desk) (l : Letter) → send_letter l d ≡ Ok sent → Fits d →
    (view d).live l.from ≡ true → (view d).raw l.from ≡ true → Tells o e R (view d) →
    Tells (put o d.post.next_ref (Some [])) e (put R d.post.next_ref true) (view (after_answer sent))
unfolding with_delivered
answered_stands {o} {e} {R} d sent l q f live raw g =
    let h = l.from in
    let m = seen_letter l d.post.next_ref in
    let S = put R d.post.next_ref true in
    let v : view sent ≡ sight.sent (view d) h m = sent_view d sent l q live in
    let safe : LiveFile (view (after_answer sent)) = delivered_live sent sent.post (sent_own d sent l q f) in
    elim (kept_is sent.post sent.scrap) as (λ _. Tells (put o d.post.next_ref (Some [])) e S (view (after_answer sent))) [
      | inl kept ↦
          let seen : view (after_answer sent) ≡ sight.sent (view d) h m = ap (λ s. with_scrap (option_map seen_scrap s) (view sent)) kept ∙ v in
          seen_stands seen (kept_stands h m refl refl live raw g (subst LiveFile seen safe))
      | inr gone ↦
          let seen : view (after_answer sent) ≡ with_scrap None (sight.sent (view d) h m) =
          ap (λ s. with_scrap (option_map seen_scrap s) (view sent)) gone ∙ ap (with_scrap None) v in
          seen_stands seen (foreign_stands h m refl refl live raw g (with_scrap None (sight.sent (view d) h m))
          (ap (with_scrap None) (sent_masked h m refl refl live raw g)))
    ]

-- ---- what it holds put down

pub put_down_stands : {o : Offers} {e : Edits} {R : Gave} (d : Desk) (h : ℕ) → Fits d → Tells o e R (view d) →
    Tells o e R (view (with_delivered (put_down h d.post) d))
unfolding with_delivered
put_down_stands {o} {e} {R} d h f g =
    let p = put_down h d.post in
    let D : sight.Desk = record (view d) { held = put (view d).held h None } in
    let held : (k : ℕ) → held_seen p.seats k ≡ put (view d).held h None k = λ k. ap (option_map seen_parcel) (held_put h d.post.seats k) ∙
    elim (eqb_tells k h) as (λ _. option_map seen_parcel (put (λ j. held_by j d.post.seats) h None k) ≡ put (view d).held h None k) [
      | inl b ↦ rw b.0 refl
      | inr b ↦ rw b.0 refl
    ] in
    let v : view (with_post p d) ≡ D = λ i. record (view d) { held = λ k. held k i } in
    let safe : LiveFile (view (with_delivered p d)) = delivered_live d p (f.down h) in
    elim (kept_is p d.scrap) as (λ _. Tells o e R (view (with_delivered p d))) [
      | inl kept ↦
          let seen : view (with_delivered p d) ≡ D = ap (λ s. with_scrap (option_map seen_scrap s) (view (with_post p d))) kept ∙ v in
          seen_stands seen (down_stands h false (subst LiveFile seen safe) g)
      | inr gone ↦
          let seen : view (with_delivered p d) ≡ with_scrap None D = ap (λ s. with_scrap (option_map seen_scrap s) (view (with_post p d))) gone ∙
          ap (with_scrap None) v in
          seen_stands seen (down_stands h true (subst LiveFile seen safe) g)
    ]
