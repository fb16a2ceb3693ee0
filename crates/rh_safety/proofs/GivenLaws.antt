-- What a task holds of a transfer that a task with code of its own began is what its polls took.
use Rattle.rh_safety.proofs.Common.{◌≡◌, ℕ, ◌+◌, ◌≤◌, ◌<◌, Bool, true, false, if◌then◌else◌, List, [], ◌∷◌, ◌++◌, length, take, Option, Some, None}
use Rattle.rh_safety.proofs.Common.{refl, sym, ap, ◌∙◌, subst, inl, inr, arith, eqb_tells, ◌==◌, find, has_name, Body, Command, Outcome}
use Rattle.rh_safety.proofs.Common.{Reply, Parcel}
use Rattle.rh_safety.proofs.Common.{post_poll, Desk, Scrap, Task, Asked, Incoming, Taking, Offers, Edits, Has, put, put_same, put_other, field_is}
use Rattle.rh_safety.proofs.Common.{task_of, task_at}
use Rattle.rh_safety.proofs.Common.{view, blocks_of, Fits, first_is, is_equal, has_of, in_id, in_anchor, active_is, asking_is, fetches}
use Rattle.rh_safety.proofs.Common.{FoundActive, IsDesk}
use Rattle.rh_safety.proofs.Common.{next_ref, step, start_with, after, in_range, and_left, and_right, same_value, Offered, IsGood, Counted, Good}
use Rattle.std.specs.Prelude.{unwrap_or}
use Rattle.std.specs.List.{flat_map}
use Rattle.rh_defs.specs.declared.command.Command.TheVariants as command
use Rattle.rh_defs.specs.declared.message.Body.TheVariants as body
use Rattle.rh_defs.specs.declared.message.Letter.{Letter}
use Rattle.rh_defs.specs.declared.raw_command.RawCommand.TheVariants as raw
use Rattle.rh_defs.specs.declared.reply.Reply.TheVariants as reply
use Rattle.rh_defs.specs.declared.transfer.Incoming.TheVariants as incoming
use Rattle.rh_defs.specs.AnyMessage.{read_body}
use Rattle.rh_defs.specs.Desk.{kept_scrap}
use Rattle.rh_defs.specs.Files.{FileList}
use Rattle.rh_defs.specs.Laws.{IsStart}
use Rattle.rh_defs.specs.Range.{all_in_range}
use Rattle.rh_defs.specs.RawTasks.{is_raw_task}
use Rattle.rh_defs.specs.Receiver.{is_answer, is_load}
use Rattle.rh_defs.specs.Records.{active_of, asking_of}
use Rattle.rh_defs.proofs.Steps.{step-keeps, start-is}
use Rattle.rh_safety.specs.Buffers.{bytes_of_buffer}
use Rattle.rh_safety.specs.Counts.{AlwaysCounts, counted_in}
use Rattle.rh_safety.specs.Given.{Given, HoldsGiven, given, given_by, given_bytes, given_event, given_file, given_from, given_next, given_polled, is_bounce}
use Rattle.rh_safety.specs.Given.{takes_bytes, takes_file}
use Rattle.rh_safety.specs.Held.{document_of, edits_from, held_of, is_edited}
use Rattle.rh_safety.specs.Numbers.{GoUp, refs_in}
use Rattle.rh_safety.specs.Offered.{last_of, offered_last, repeated_next, saved_next}
use Rattle.rh_safety.specs.RawIds.{Gave, gave_from, gave_next, gave_sent, is_raw_id}
use Rattle.rh_safety.proofs.Arrivals.{take_whole}
use Rattle.rh_safety.proofs.HeldCounts.{shown_by, untouched}
use Rattle.rh_safety.proofs.Keeps.{Tells, strong}
use Rattle.rh_safety.proofs.Masks.{masked}
use Rattle.rh_safety.proofs.Numbers.{numbers-go-up}
use Rattle.rh_safety.proofs.SeenDesks.{fits}
use Rattle.rh_safety.proofs.SeenLaws.{block_is, start_stands, tells}
use Rattle.rh_safety.proofs.SeenTasks.{found_task}
use Rattle.rh_safety.proofs.ToldLaws.{last_other}
use Rattle.rh_safety.proofs.Tolds.{told_by, told_bytes, told_event, told_file, told_from, told_next, told_polled, told_sent}

-- ---- refs go up

rise_least : (least next : ℕ) (xs : List ℕ) → GoUp least next xs → least ≤ next
rise_least least next [] up = up
rise_least least next (x ∷ xs) up = let z = up.0 in let y = rise_least (x + 1) next xs up.1 in omega (arith, z, y)

next_least : (d : Desk) (c : Command) → next_ref d ≤ next_ref (step d c).0
next_least d c = rise_least (next_ref d) (next_ref (step d c).0) _ (numbers-go-up d (c ∷ [])).refs

-- a ref that a command answers isn't below the next one
sent_least : (d : Desk) (c : Command) (ref : ℕ) → (step d c).1 ≡ reply.Sent ref → next_ref d ≤ ref
sent_least d c ref q =
    (subst (λ (r : Reply). GoUp (next_ref d) (next_ref (step d c).0) (flat_map refs_in (r ∷ []))) q (numbers-go-up d (c ∷ [])).refs).0

-- ---- what is told and what was given

-- of ids of theirs they are one
pub record Links (p : Offers) (R : Gave) (G : Given) (next : ℕ) : Type 0 where
  pub theirs : (i : ℕ) → R i ≡ true → p i ≡ Some (G i)
  pub born : (i : ℕ) → next ≤ i → G i ≡ []

-- nothing more was given
links_less : {p : Offers} {R : Gave} {G : Given} {next later : ℕ} → next ≤ later → Links p R G next → Links p R G later
links_less le w = record { theirs = w.theirs; born = λ i low. w.born i (omega (arith, le, low)) }

-- a ref that isn't theirs offers
links_offered : {p : Offers} {R : Gave} {G : Given} {next : ℕ} (n : ℕ) (x : Option (List ℕ)) → R n ≡ false → Links p R G next → Links (put p n x) R G next
links_offered {p} {R} n x mine w = record {
  theirs = λ i q. put_other p n x i (λ eq. let z : true ≡ false = sym q ∙ ap R eq ∙ mine in (cc)) ∙ w.theirs i q;
  born = w.born;
}

-- one that is theirs offers nothing yet
links_sent : {p : Offers} {R : Gave} {G : Given} {next : ℕ} (n : ℕ) → next ≤ n → Links p R G next → Links (put p n (Some [])) (put R n true) G next
links_sent {p} {R} {G} n le w = record {
  theirs = λ i q. elim (eqb_tells i n) [
    | inl a ↦ ap (put p n (Some [])) a.1 ∙ put_same p n (Some []) ∙ ap (λ (x : List ℕ). Some x) (sym (ap G a.1 ∙ w.born n le))
    | inr a ↦ put_other p n (Some []) i a.1 ∙ w.theirs i (sym (put_other R n true i a.1) ∙ q)
  ];
  born = w.born;
}

-- more is given to a record
links_given : {p : Offers} {R : Gave} {G : Given} {next : ℕ} (n : ℕ) (x : List ℕ) (b : Bool) → R n ≡ b → n < next → Links p R G next →
    Links (if b then put p n (Some (unwrap_or (p n) [] ++ x)) else p) R (put G n (G n ++ x)) next
links_given {p} {R} {G} n x true its lt w = record {
  theirs = λ i q. elim (eqb_tells i n) [
    | inl a ↦ ap (put p n (Some (unwrap_or (p n) [] ++ x))) a.1 ∙ put_same p n (Some (unwrap_or (p n) [] ++ x)) ∙
        ap (λ (o : Option (List ℕ)). Some (unwrap_or o [] ++ x)) (w.theirs n its) ∙
        ap (λ (y : List ℕ). Some y) (sym (ap (put G n (G n ++ x)) a.1 ∙ put_same G n (G n ++ x)))
    | inr a ↦ put_other p n (Some (unwrap_or (p n) [] ++ x)) i a.1 ∙ w.theirs i q ∙ ap (λ (y : List ℕ). Some y) (sym (put_other G n (G n ++ x) i a.1))
  ];
  born = λ i le. put_other G n (G n ++ x) i (λ eq. omega (arith, le, lt, eq)) ∙ w.born i le;
}
links_given {p} {R} {G} n x false its lt w = record {
  theirs = λ i q. w.theirs i q ∙ ap (λ (y : List ℕ). Some y) (sym (put_other G n (G n ++ x) i (λ eq. let z : true ≡ false = sym q ∙ ap R eq ∙ its in (cc))));
  born = λ i le. put_other G n (G n ++ x) i (λ eq. omega (arith, le, lt, eq)) ∙ w.born i le;
}

module _ {p : Offers} {R : Gave} {G : Given} {next : ℕ} (w : Links p R G next) (t : Task)
    (below : (u : Incoming) → Has u t.taking → in_id u < next) where
  bytes_link : (v : Option Incoming) (n : ℕ) → ((f : Taking) → v ≡ Some (incoming.Fetching f) → Has (incoming.Fetching f) t.taking) →
      Links (told_bytes p R t v n) R (given_bytes G t v n) next
  bytes_link None n has = w
  bytes_link (Some (incoming.Fetching f)) n has =
      links_given f.id (take n (unwrap_or (bytes_of_buffer t.slot f.buffer) [])) (R f.id) refl (below (incoming.Fetching f) (has f refl)) w
  bytes_link (Some u) n has = w

  file_link : (v : Option Asked) (file : Option Scrap) → ((q : Asked) → v ≡ Some q → Has (incoming.Asking q) t.taking) →
      Links (told_file p R v file) R (given_file G v file) next
  file_link None file has = w
  file_link (Some q) None has = w
  file_link (Some q) (Some file) has = links_given q.id file.bytes (R q.id) refl (below (incoming.Asking q) (has q refl)) w

  found_in : (test : Taking → Bool) (f : Taking) → active_of test t.taking ≡ Some (incoming.Fetching f) → Has (incoming.Fetching f) t.taking
  found_in test f q = by (active_is test t.taking (incoming.Fetching f) q)
    where
      by : FoundActive test t.taking (incoming.Fetching f) → Has (incoming.Fetching f) t.taking
      by (fetches x has passes) = has

  by_link : (file : Option Scrap) (m : Parcel) (back : Bool) (b : Body) (o : Outcome) →
      Links (told_by p R t file m back b o) R (given_by G t file m back b o) next
  by_link file m false (body.RamTransmit buffer n) o = go (takes_bytes o)
    where
      test : Taking → Bool
      test = is_answer t.buffer m.message.from m.message.your_ref buffer n

      go : (c : Bool) → Links (if c then told_bytes p R t (active_of (is_answer t.buffer m.message.from m.message.your_ref buffer n) t.taking) n else p) R
          (if c then given_bytes G t (active_of (is_answer t.buffer m.message.from m.message.your_ref buffer n) t.taking) n else G) next
      go true = bytes_link _ n (found_in (is_answer t.buffer m.message.from m.message.your_ref buffer n))
      go false = w
  by_link file m false (body.DataLoad f) o = go (takes_file o)
    where
      go : (c : Bool) → Links (if c then told_file p R (asking_of (is_load m.message.from m.message.your_ref) t.taking) file else p) R
          (if c then given_file G (asking_of (is_load m.message.from m.message.your_ref) t.taking) file else G) next
      go true = file_link _ file (λ q found. (asking_is (is_load m.message.from m.message.your_ref) t.taking q found).0)
      go false = w
  by_link file m back b o = w

  event_link : (file : Option Scrap) (v : Option Parcel) (r : Reply) → Links (told_event p R t file v r) R (given_event G t file v r) next
  event_link file (Some m) (reply.Event code action mine yours o) = by_link file m (is_bounce m.code) (read_body m.message.body) o
  event_link file v r = w

-- a message of theirs
sent_link : {p : Offers} {R : Gave} {G : Given} {next : ℕ} (r : Reply) → ((ref : ℕ) → r ≡ reply.Sent ref → next ≤ ref) → Links p R G next →
    Links (told_sent p r) (gave_sent R r) G next
sent_link (reply.Sent ref) least w = links_sent ref (least ref refl) w
sent_link r least w = w

module _ {p : Offers} {e : Edits} {R : Gave} {G : Given} (d : Desk) (g : Tells p e R (view d)) (f : Fits d) (w : Links p R G (next_ref d)) where
  -- a new ref is nobody's yet
  new_mine : (ref : ℕ) → next_ref d ≤ ref → R ref ≡ false
  new_mine ref le = g.raws.refs ref le

  saved_link : (name : List ℕ) (k : ℕ) (r : Reply) → ((ref : ℕ) → r ≡ reply.Sent ref → next_ref d ≤ ref) → Links (saved_next p d name k r) R G (next_ref d)
  saved_link name k (reply.Sent ref) least = links_offered ref _ (new_mine ref (least ref refl)) w
  saved_link name k r least = w

  last_link : (ref : ℕ) (last : Option (Letter × ℕ)) → next_ref d ≤ ref → Links (offered_last p ref last) R G (next_ref d)
  last_link ref last le = record {
    theirs = λ i q. last_other p ref last i (λ eq. let z : true ≡ false = sym q ∙ ap R eq ∙ new_mine ref le in (cc)) ∙ w.theirs i q;
    born = w.born;
  }

  repeated_link : (name : List ℕ) (r : Reply) → ((ref : ℕ) → r ≡ reply.Sent ref → next_ref d ≤ ref) → Links (repeated_next p d name r) R G (next_ref d)
  repeated_link name (reply.Sent ref) least = last_link ref (last_of (find (has_name name) d.tasks)) (least ref refl)
  repeated_link name r least = w

  -- the ids of a task's records were given
  below : (t : Task) → task_of t.handle d.tasks ≡ Some t → (u : Incoming) → Has u t.taking → in_id u < next_ref d
  below t is u has =
      g.good.inv.order.in_below t.handle u
      (subst (λ (ws : List Incoming). Has u ws) (sym (field_is (λ y. y.taking) [] t.handle d.tasks t is)) has)

  polled_link : (v : Option Task) (name : List ℕ) (r : Reply) → find (has_name name) d.tasks ≡ v →
      Links (told_polled p R d v r) R (given_polled G d v r) (next_ref d)
  polled_link None name r found = w
  polled_link (Some t) name r found =
      event_link w t (below t (found_task (has_name name) d.tasks t f.handles found)) (kept_scrap (post_poll t.handle d.post).0 d.scrap)
      (post_poll t.handle d.post).1 r

  step_link : (c : Command) (r : Reply) → ((ref : ℕ) → r ≡ reply.Sent ref → next_ref d ≤ ref) →
      Links (told_next p R d c r) (gave_next R d c r) (given_next G d c r) (next_ref d)
  step_link (command.Save name k to leaf) r least = saved_link name k r least
  step_link (command.Repeat name) r least =
      elim (is_raw_task (find (has_name name) d.tasks)) as
      (λ b. Links (if b then told_sent p r else repeated_next p d name r) (if b then gave_sent R r else R) G (next_ref d)) [
        | true ↦ sent_link r least w
        | false ↦ repeated_link name r least
      ]
  step_link (command.Raw (raw.Send name recorded h ref a bytes)) r least = sent_link r least w
  step_link (command.Raw (raw.Spool name k h ref)) r least = sent_link r least w
  step_link (command.Poll name) r least = polled_link (find (has_name name) d.tasks) name r refl
  step_link c r least = w

-- ---- every run

-- what is known after commands
record Reached (p : Offers) (e : Edits) (R : Gave) (G : Given) (d : Desk) : Type 0 where
  tells_it : Tells p e R (view d)
  links : Links p R G (next_ref d)

reached_after : (cs : List Command) → all_in_range cs ≡ true → (d : Desk) {p : Offers} {e : Edits} {R : Gave} {G : Given} → IsDesk d →
    Reached p e R G d → Reached (told_from p R d cs) (edits_from e d cs) (gave_from R d cs) (given_from G d cs) (after d cs)
reached_after [] q d is w = w
reached_after (c ∷ cs) q d is w =
    let in_c : in_range c ≡ true = and_left (in_range c) _ q in
    let f = fits d is in
    reached_after cs (and_right (in_range c) _ q) (step d c).0 (step-keeps d c in_c is) (record {
      tells_it = tells c in_c d w.tells_it f;
      links = links_less (next_least d c) (step_link d w.tells_it f w.links c (step d c).1 (λ ref said. sent_least d c ref said));
    })

-- a document that counts all that its id offers
whole_of : (o : Offered) (w : Incoming) (bytes : Option (List ℕ)) (got all : List ℕ) → IsGood o w bytes → Counted o (in_id w) (counted_in w) →
    o (in_id w) ≡ Some all → bytes ≡ Some got → got ≡ all
whole_of o w bytes got all g c is q = by w g c is
  where
    front : (id n : ℕ) (x y : List ℕ) → o id ≡ Some x → o id ≡ Some y → o id ≡ Some all → n ≡ length y → bytes ≡ Some (take n x) → got ≡ all
    front id n x y p r s n_is there =
        let a : x ≡ all = same_value (o id) p s in
        let b : y ≡ all = same_value (o id) r s in
        let z : take n x ≡ got = same_value bytes there q in
        sym z ∙ ap (take n) a ∙ ap (λ k. take k all) (n_is ∙ ap (λ (v : List ℕ). length v) b) ∙ take_whole (length all) all refl

    by : (w : Incoming) → IsGood o w bytes → Counted o (in_id w) (counted_in w) → o (in_id w) ≡ Some all → got ≡ all
    by (incoming.Fetching f) g c is = front f.id f.count g.all c.all g.offered c.offered is c.whole g.there
    by (incoming.Draining f) g c is = front f.id f.count g.all c.all g.offered c.offered is c.whole g.there
    by (incoming.Asking a) g c is = front a.id 0 g.all c.all g.offered c.offered is c.whole g.there
    by (incoming.Failed i a n) g c is = front i n g.all c.all g.offered c.offered is c.whole g.there
    by (incoming.Done i a n) g c is = sym (same_value bytes g.there q) ∙ same_value (o i) g.offered is

module _ (pool handle ref : ℕ) (files : FileList) (cs : List Command) (from : IsStart pool handle ref)
    (ranged : all_in_range cs ≡ true) where
  abbrev d0 : Desk
  d0 = start_with pool files handle ref

  abbrev d : Desk
  d = after d0 cs

  abbrev R : Gave
  R = is_raw_id d0 cs

  abbrev e : Edits
  e = is_edited d0 cs

  positive : 0 < ref
  positive = omega (arith, from.first_ref)

  -- what is told of each id
  p : Offers
  p = told_from (start_stands handle ref positive).offers (λ i. false) d0 cs

  reached : Reached p e R (given d0 cs) d
  unfolding p
  reached = reached_after cs ranged d0 (start-is pool handle ref files from) (record {
    tells_it = strong (start_stands handle ref positive);
    links = record { theirs = λ i q. absurd (let z : false ≡ true = q in (cc)); born = λ i le. refl };
  })

  good : Good p e (masked R (view d))
  good = reached.tells_it.good

  module _ (h : ℕ) (t : Task) (w : Incoming) (at : task_at h d ≡ Some t) (has : Has w t.taking) (its : R (in_id w) ≡ true) where
    seen : Has w ((view d).taking h)
    seen = subst (λ (y : List Incoming). Has w y) (sym (field_is (λ y. y.taking) [] h d.tasks t at)) has

    counts : Counted p (in_id w) (counted_in w)
    counts = reached.tells_it.raws.exact h w seen its

    all_given : p (in_id w) ≡ Some (given d0 cs (in_id w))
    all_given = reached.links.theirs (in_id w) its

    count_given : counted_in w ≡ length (given d0 cs (in_id w))
    count_given = counts.whole ∙ ap (λ (v : List ℕ). length v) (same_value (p (in_id w)) counts.offered all_given)

    held_given : (got : List ℕ) → e h (in_id w) ≡ false → blocks_of t.slot (in_anchor w) ≡ Some got → got ≡ given d0 cs (in_id w)
    held_given got clean there =
        whole_of p w ((view d).block h (in_anchor w)) got (given d0 cs (in_id w)) (good.inv.ins.good h w seen (untouched (e h) w clean)) counts all_given
        (ap (λ (f : ℕ → Option (List ℕ)). f (in_anchor w)) (field_is (λ y. blocks_of y.slot) (λ a. None) h d.tasks t at) ∙ there)

  -- what is held of a transfer, by the task's record of it
  held_by_record : (id h : ℕ) (got : List ℕ) (t : Task) (o : Option Incoming) → task_at h d ≡ Some t → R id ≡ true →
      find (λ (r : Incoming). in_id r == id) t.taking ≡ o → document_of t (e h id) o ≡ Some got → got ≡ given d0 cs id
  held_by_record id h got t None at its found q = absurd (let z : None ≡ Some got = q in cc)
  held_by_record id h got t (Some w) at its found q =
      let which = first_is (λ (r : Incoming). in_id r == id) t.taking w found in
      let same : in_id w ≡ id = is_equal _ _ which.1 in
      let s = shown_by t w (e h id) got q in
      held_given h t w at which.0 (ap R same ∙ its) got (ap (e h) same ∙ s.clean) (block_is t.slot (in_anchor w) ∙ s.there) ∙ ap (given d0 cs) same

  held_at : (id h : ℕ) (got : List ℕ) (o : Option Task) → task_at h d ≡ o → R id ≡ true → held_of o id (e h id) ≡ Some got → got ≡ given d0 cs id
  held_at id h got None at its q = absurd (let z : None ≡ Some got = q in cc)
  held_at id h got (Some t) at its q = held_by_record id h got t (find (λ (r : Incoming). in_id r == id) t.taking) at its refl q

  holds_given : HoldsGiven d0 cs
  holds_given = record {
    holds = λ id h got its q. held_at id h got (task_at h d) refl its q;
    counts = λ h t w at has its. count_given h t w at (has_of t.taking w has) its;
  }

pub always_holds_given : AlwaysCounts HoldsGiven
always_holds_given pool handle ref files cs from ranged = holds_given pool handle ref files cs from ranged
