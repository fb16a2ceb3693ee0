-- What a task holds, put down or not there.
use Rattle.rh_wimp.proofs.Common.{◌≡◌, ℕ, Bool, true, false, cond, List, [], ◌∷◌, refl, sym, ap, ◌∙◌, Option, None, ◌==◌, Heap, Parcel, Seat, Post, held_by}
use Rattle.rh_wimp.proofs.Common.{with_held}
use Rattle.rh_defs.specs.Inner.PostHandles.{post_handles}
use Rattle.rh_defs.specs.Post.{put_down, release_held}
use Rattle.rh_defs.proofs.PostLaws.{with_held-handles}

-- where a task holds nothing, there is nothing to put down
none-down : (x : ℕ) (seats : List Seat) → held_by x seats ≡ None → with_held x None seats ≡ seats
none-down x [] e = refl
none-down x (s ∷ seats) e = go (s.handle == x) e (none-down x seats)
  where
    go : (t : Bool) → cond t s.holds (held_by x seats) ≡ None → (held_by x seats ≡ None → with_held x None seats ≡ seats)
        → cond t (record s { holds = None } ∷ seats) (s ∷ with_held x None seats) ≡ s ∷ seats
    go true e f = ap (λ (o : Option Parcel). let t : Seat = record { handle = s.handle; holds = o } in t ∷ seats) (sym e)
    go false e f = ap (λ l. s ∷ l) (f e)

pub put-nothing : (x : ℕ) (post : Post) → held_by x post.seats ≡ None → put_down x post ≡ post
put-nothing x post e =
    ap (λ (l : List Seat). post_with l (release_held (held_by x post.seats) post.heap)) (none-down x post.seats e)
    ∙ ap (λ o. post_with post.seats (release_held o post.heap)) e
  where
    post_with : List Seat → Heap → Post
    post_with l h = record { seats = l; queued = post.queued; heap = h; next_ref = post.next_ref }

pub put_down-handles : (x : ℕ) (post : Post) → post_handles (put_down x post) ≡ post_handles post
put_down-handles x post = with_held-handles x None post.seats
