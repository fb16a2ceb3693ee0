-- A letter is sent just where the pages that the send takes are free.
use Rattle.rh_tasks.proofs.Common.{◌≡◌, ℕ, ◌+◌, ◌≤◌, ◌<◌, Bool, true, false, refl, ap, sym, ◌∙◌, Ok, Err, ◌==◌, nat_lt, Letter, Refusal, NoRoom, BadSize}
use Rattle.rh_tasks.proofs.Common.{Granted, ◌>>=◌, ◌>>◌, refuse_if, pages_for, Heap, need, claim_growing, module_claim, fetch_letter, Post, post_send}
use Rattle.rh_tasks.proofs.Common.{post_send_pages, begins, ends, lt-true, lt-false}
use Rattle.rh_defs.specs.declared.message.Body.TheVariants.{RamFetch}
use Rattle.rh_defs.specs.declared.transfer_action.Claim.{Claim}
use Rattle.rh_defs.specs.Heap.{as_granted}
use Rattle.rh_defs.specs.Module.{module_need_pages}
use Rattle.rh_defs.specs.Messages.{parcel_size}
use Rattle.rh_defs.specs.Post.{message_of, sendable, posted}
use Rattle.rh_defs.specs.Receiver.{first_fetch}
use Rattle.rh_defs.proofs.MessageLaws.{length-body}

-- the post after a send that has room, and the letter's ref
abbrev pub sent_post : Letter → Post → Post × ℕ
sent_post l post = (posted l (as_granted (claim_growing (parcel_size (message_of l 0)) post.heap)) post, post.next_ref)

-- what is given where so many pages are free, of so many that are taken
abbrev pub where_free : {A : Type 0} → ℕ → A → ℕ → Granted A
where_free free x pages = refuse_if (nat_lt free pages) NoRoom >>= (λ _. Ok x)

pub send-by_pages : (free : ℕ) (l : Letter) (post : Post) → post_send free l post ≡ (post_send_pages l post >>= where_free free (sent_post l post))
unfolding post_send post_send_pages module_claim module_need_pages ◌>>=◌ ◌>>◌ refuse_if
send-by_pages free l post = go (sendable l post) (parcel_size (message_of l 0) == 0) (need (parcel_size (message_of l 0)) post.heap)
    (as_granted (claim_growing (parcel_size (message_of l 0)) post.heap))
  where
    go : (s : Granted (Unit {0})) (none : Bool) (n : ℕ) (there : Heap × ℕ)
        → (s >> ((refuse_if none BadSize >>= (λ _. refuse_if (nat_lt free (pages_for n)) NoRoom >>= (λ _. Ok there)))
        >>= (λ there. Ok (posted l there post, post.next_ref))))
        ≡ ((s >> (refuse_if none BadSize >>= (λ _. Ok (pages_for n)))) >>= where_free {A = Post × ℕ} free (posted l there post, post.next_ref))
    go (Err r) none n there = refl
    go (Ok u) true n there = refl
    go (Ok u) false n there =
        elim (nat_lt free (pages_for n)) as (λ b. ((refuse_if b NoRoom >>= (λ _. Ok there)) >>= (λ there. Ok (posted l there post, post.next_ref))) ≡
        (refuse_if b NoRoom >>= (λ _. let r : Granted (Post × ℕ) = Ok (posted l there post, post.next_ref) in r)))
        [ true ↦ refl | false ↦ refl ]

module _ (free : ℕ) (l : Letter) (post : Post) where
  pub send-refused : {r : Refusal} → post_send_pages l post ≡ Err r → post_send free l post ≡ Err r
  send-refused e = send-by_pages free l post ∙ ends _ e

  module _ {pages : ℕ} (needs : post_send_pages l post ≡ Ok pages) where
    pub send-fits : pages ≤ free → post_send free l post ≡ Ok (sent_post l post)
    unfolding refuse_if ◌>>=◌
    send-fits room = send-by_pages free l post ∙ begins _ needs (ap (λ b. refuse_if b NoRoom >>= (λ _. Ok (sent_post l post))) (lt-false free pages room))

    pub send-lacks : free < pages → post_send free l post ≡ Err NoRoom
    unfolding refuse_if ◌>>=◌
    send-lacks short = send-by_pages free l post ∙ begins _ needs (ap (λ b. refuse_if b NoRoom >>= (λ _. Ok (sent_post l post))) (lt-true free pages short))

-- the pages of a fetch don't depend on its buffer's address
pub fetch-pages : (from : ℕ) (claim : Claim) (x y room : ℕ) (post : Post)
    → post_send_pages (fetch_letter from (first_fetch claim x room)) post ≡ post_send_pages (fetch_letter from (first_fetch claim y room)) post
unfolding post_send_pages sendable
fetch-pages from claim x y room post =
    ap (λ n. sendable (fetch_letter from (first_fetch claim x room)) post >> module_need_pages (8 + (16 + n)) post.heap)
    (length-body (RamFetch x room) ∙ sym (length-body (RamFetch y room)))
