-- What task 2 is handed after task 1 sent it a letter.
use Rattle.std.proofs.Common.{◌≡◌, ℕ, Bool, true, false, List, [], ◌∷◌, refl, ap, ◌∙◌}
use Rattle.std.specs.Prelude.{◌==◌, Option, Some, Ok, Err}
use Rattle.std.specs.List.{list_any}
use Rattle.std.specs.Option.{option_map}
use Rattle.rh_defs.specs.Chain.{Granted, ◌>>=◌, answer_of, left_of, outcome_of, refuse_if}
use Rattle.rh_defs.specs.Heap.{Heap, as_granted, claim_growing, need}
use Rattle.rh_defs.specs.Module.{module_claim}
use Rattle.rh_defs.specs.Messages.{parcel_size}
use Rattle.rh_defs.specs.Pieces.{lacks_pages}
use Rattle.rh_defs.specs.declared.refusal.Refusal.TheVariants.{NoRoom}
use Rattle.rh_defs.specs.Post.{Post, message_of, posted, post_send, post_poll}
use Rattle.rh_defs.specs.declared.message.Body.TheVariants.{RamFetch}
use Rattle.rh_defs.specs.declared.message.Event.{Event}
use Rattle.rh_defs.specs.declared.message.EventCode.TheVariants.{User}
use Rattle.rh_defs.specs.Inner.Computing.{computing_chain, computing_module, computing_messages, computing_post}
use Rattle.rh_wimp.specs.QueueCalls.{handles_of}
use Rattle.rh_wimp.specs.Chains.{Chains, HasEntry, event_of}
use Rattle.rh_wimp.proofs.LeavesLaws.{HasEntry-from_handles}
use Rattle.callers.specs.Wimp.{fetch, fetch_size, two_idle}

-- the event that a RAMFetch from task 1 to task 2 becomes
abbrev pub fetched : ℕ → ℕ → Option Event
fetched buffer n = Some (record { code = User; message = record { from = 1; my_ref = 1; your_ref = 0; body = RamFetch buffer n } })

claimed : (buffer n x : ℕ) (h : Heap) (q : Granted (Heap × ℕ))
    → ◌≡◌ {A = Granted ℕ} (Ok x) (answer_of (q >>= λ there. Ok (posted (fetch buffer n) there (two_idle h), 1)))
    → option_map event_of (post_poll 2 (left_of {B = ℕ} (two_idle h) (q >>= λ there. Ok (posted (fetch buffer n) there (two_idle h), 1)))).1 ≡ fetched buffer n
unfolding ◌>>=◌ post_poll
claimed buffer n x h (Ok there) e = refl
claimed buffer n x h (Err refusal) e = absurd cc

-- what the poll after a send answers
pub fetch-polled : (free buffer n x : ℕ) (h : Heap) → ◌≡◌ {A = Granted ℕ} (Ok x) (answer_of (post_send free (fetch buffer n) (two_idle h)))
    → option_map event_of (post_poll 2 (left_of (two_idle h) (post_send free (fetch buffer n) (two_idle h)))).1 ≡ fetched buffer n
unfolding computing_chain computing_post
fetch-polled free buffer n x h e = claimed buffer n x h (module_claim free (parcel_size (message_of (fetch buffer n) 0)) h) e

answered : {A B : Type 0} (q : Granted (A × B)) → outcome_of (answer_of q) ≡ outcome_of q
answered (Ok there) = refl
answered (Err refusal) = refl

posted_in : (buffer n : ℕ) (h : Heap) (q : Granted (Heap × ℕ))
    → outcome_of {A = Post × ℕ} (q >>= λ there. Ok (posted (fetch buffer n) there (two_idle h), 1)) ≡ outcome_of q
unfolding ◌>>=◌
posted_in buffer n h (Ok there) = refl
posted_in buffer n h (Err refusal) = refl

claimed_in : (t : Bool) (there : Heap × ℕ) → outcome_of (refuse_if t NoRoom >>= λ _. Ok there) ≡ refuse_if t NoRoom
unfolding ◌>>=◌ refuse_if
claimed_in true there = refl
claimed_in false there = refl

-- nothing but room for it may lack
sent : (free buffer n : ℕ) (h : Heap) → outcome_of (post_send free (fetch buffer n) (two_idle h)) ≡ refuse_if (lacks_pages free (need fetch_size h)) NoRoom
unfolding computing_chain computing_post computing_module computing_messages
sent free buffer n h =
    posted_in buffer n h (module_claim free (parcel_size (message_of (fetch buffer n) 0)) h)
    ∙ claimed_in (lacks_pages free (need fetch_size h)) (as_granted (claim_growing fetch_size h))

-- whether the send is granted
pub fetch-answer : (free buffer n : ℕ) (h : Heap) (r : Granted ℕ) → r ≡ answer_of (post_send free (fetch buffer n) (two_idle h))
    → outcome_of r ≡ refuse_if (lacks_pages free (need fetch_size h)) NoRoom
fetch-answer free buffer n h r e = ap (λ (x : Granted ℕ). outcome_of x) e ∙ answered (post_send free (fetch buffer n) (two_idle h)) ∙ sent free buffer n h

-- the second of two tasks is live still where the handles have stayed
pub second_live : (q k : Chains) → handles_of k ≡ handles_of q → handles_of q ≡ 1 ∷ 2 ∷ [] → HasEntry 2 k
second_live q k same is =
    let now : handles_of k ≡ 1 ∷ 2 ∷ [] = same ∙ is in
    HasEntry-from_handles 2 k (ap (λ (hs : List ℕ). list_any (λ h. h == 2) hs) now)
