-- What a poll gives of a transfer that fetches: some of the first bytes of its buffer.
use Rattle.rh_laws.proofs.Common.{◌≡◌, ℕ, Bool, true, false, List, [], ◌∷◌, ◌++◌, take, unwrap_or, Option, Some, None, refl, sym, ap, ◌∙◌, subst}
use Rattle.rh_laws.proofs.Common.{if◌then◌else◌, inl, inr, eqb_tells, active_of, asking_of, asking_is, at_place, Ascend, Asked, Body, Command, Desk}
use Rattle.rh_laws.proofs.Common.{Has, Incoming, Outcome, Parcel, Reply, Scrap, Taking, Task, after, field_is, has_of, has_name, in_id, post_poll}
use Rattle.rh_laws.proofs.Common.{put_other, put_same, start_with, step, found_task, fits, view, IsDesk, after-is, start-is}
use Rattle.rh_defs.specs.declared.command.Command.TheVariants as command
use Rattle.rh_defs.specs.declared.message.Body.TheVariants as body
use Rattle.rh_defs.specs.declared.reply.Reply.TheVariants as reply
use Rattle.rh_defs.specs.declared.transfer.Incoming.TheVariants as incoming
use Rattle.rh_defs.specs.AnyMessage.{read_body}
use Rattle.rh_defs.specs.Desk.{kept_scrap}
use Rattle.rh_defs.specs.Receiver.{is_answer, is_load}
use Rattle.rh_safety.specs.Buffers.{bytes_of_buffer}
use Rattle.rh_safety.specs.Counts.{AlwaysCounts}
use Rattle.rh_safety.specs.Given.{Given, given, given_by, given_bytes, given_event, given_file, given_from, given_next, given_polled, is_bounce}
use Rattle.rh_safety.specs.Given.{takes_bytes, takes_file}
use Rattle.rh_safety.proofs.Basics.{FoundActive, active_is, fetches, one_of_id}
use Rattle.rh_safety.proofs.SeenLaws.{always}
use Rattle.rh_laws.specs.Contents.{GivesContents, contents}
use Rattle.rh_laws.proofs.ContentLaws.{always-has-contents}

-- ---- what one message gives

module _ (g : Given) (t : Task) (f : Taking) (has : Has (incoming.Fetching f) t.taking) (up : Ascend in_id t.taking) where
  abbrev bytes : List ℕ
  bytes = unwrap_or (bytes_of_buffer t.slot f.buffer) []

  abbrev Front : Given → Type 0
  Front v = (n : ℕ) × (v f.id ≡ g f.id ++ take n bytes)

  none : (v : Given) → v f.id ≡ g f.id → Front v
  none v same = (0, same ∙ sym (append-none (g f.id)))
    where
      append-none : (xs : List ℕ) → xs ++ take 0 bytes ≡ xs
      append-none [] = refl
      append-none (x ∷ xs) = ap (λ (ys : List ℕ). x ∷ ys) (append-none xs)

  -- a record of this id is this one
  same-record : (w : Incoming) → Has w t.taking → f.id ≡ in_id w → incoming.Fetching f ≡ w
  same-record w there same = one_of_id in_id t.taking (incoming.Fetching f) w up has there same

  bytes-front : (v : Option Incoming) (n : ℕ) → ((k : Taking) → v ≡ Some (incoming.Fetching k) → Has (incoming.Fetching k) t.taking) →
      Front (given_bytes g t v n)
  bytes-front None n there = none g refl
  bytes-front (Some (incoming.Fetching k)) n there = elim (eqb_tells f.id k.id) [
    | inl a ↦
        let one : f ≡ k = let z = same-record (incoming.Fetching k) (there k refl) a.1 in cc in
        subst (λ (j : Taking). Front (at_place g j.id (g j.id ++ take n (unwrap_or (bytes_of_buffer t.slot j.buffer) [])))) one
        (n, put_same g f.id (g f.id ++ take n bytes))
    | inr a ↦
        let more : List ℕ = take n (unwrap_or (bytes_of_buffer t.slot k.buffer) []) in
        none (given_bytes g t (Some (incoming.Fetching k)) n) (put_other g k.id (g k.id ++ more) f.id a.1)
  ]
  bytes-front (Some (incoming.Draining k)) n there = none g refl
  bytes-front (Some (incoming.Asking q)) n there = none g refl
  bytes-front (Some (incoming.Done i a k)) n there = none g refl
  bytes-front (Some (incoming.Failed i a k)) n there = none g refl

  file-front : (v : Option Asked) (file : Option Scrap) → ((q : Asked) → v ≡ Some q → Has (incoming.Asking q) t.taking) → Front (given_file g v file)
  file-front None file there = none g refl
  file-front (Some q) None there = none g refl
  file-front (Some q) (Some file) there =
      none (given_file g (Some q) (Some file)) (put_other g q.id (g q.id ++ file.bytes) f.id (λ same.
      let z = same-record (incoming.Asking q) (there q refl) same in absurd (cc)))

  found-in : (test : Taking → Bool) (k : Taking) → active_of test t.taking ≡ Some (incoming.Fetching k) → Has (incoming.Fetching k) t.taking
  found-in test k q = by (active_is test t.taking (incoming.Fetching k) q)
    where
      by : FoundActive test t.taking (incoming.Fetching k) → Has (incoming.Fetching k) t.taking
      by (fetches x there passes) = there

  by-front : (file : Option Scrap) (m : Parcel) (back : Bool) (b : Body) (o : Outcome) → Front (given_by g t file m back b o)
  by-front file m false (body.RamTransmit buffer n) o = go (takes_bytes o)
    where
      go : (c : Bool) → Front
          (if c then given_bytes g t (active_of (is_answer t.buffer m.message.from m.message.your_ref buffer n) t.taking) n else g)
      go true = bytes-front _ n (found-in (is_answer t.buffer m.message.from m.message.your_ref buffer n))
      go false = none g refl
  by-front file m false (body.DataLoad x) o = go (takes_file o)
    where
      go : (c : Bool) → Front (if c then given_file g (asking_of (is_load m.message.from m.message.your_ref) t.taking) file else g)
      go true = file-front _ file (λ q found. (asking_is (is_load m.message.from m.message.your_ref) t.taking q found).0)
      go false = none g refl
  by-front file m back b o = none g refl

  event-front : (file : Option Scrap) (v : Option Parcel) (r : Reply) → Front (given_event g t file v r)
  event-front file (Some m) (reply.Event code action mine yours o) = by-front file m (is_bounce m.code) (read_body m.message.body) o
  event-front file v r = none g refl

-- ---- one command more

given-more : (cs : List Command) (g : Given) (d : Desk) (c : Command) →
    given_from g d (cs ++ c ∷ []) ≡ given_next (given_from g d cs) (after d cs) c (step (after d cs) c).1
given-more [] g d c = refl
given-more (b ∷ cs) g d c = given-more cs (given_next g d b (step d b).1) (step d b).0 c

pub always-gives-contents : AlwaysCounts GivesContents
always-gives-contents pool handle ref files cs from ranged name t f found has its =
    let d0 : Desk = start_with pool files handle ref in
    let d : Desk = after d0 cs in
    let r : Reply = (step d (command.Poll name)).1 in
    let is : IsDesk d = after-is d0 cs ranged (start-is pool handle ref files from) in
    let at_ = found_task (has_name name) d.tasks t (fits d is).handles found in
    let up : Ascend in_id t.taking =
    subst (λ (ws : List Incoming). Ascend in_id ws) (field_is (λ y. y.taking) [] t.handle d.tasks t at_)
    (always (λ (e : Desk). (h : ℕ) → Ascend in_id ((view e).taking h)) (λ e w. w.stands.good.inv.order.ins) pool handle ref files cs from ranged t.handle) in
    let front = event-front (given d0 cs) t f (has_of t.taking (incoming.Fetching f) has) up
    (kept_scrap (post_poll t.handle d.post).0 d.scrap) (post_poll t.handle d.post).1 r in
    let there : bytes_of_buffer t.slot f.buffer ≡ Some (contents d0 cs t.handle f.id) =
    always-has-contents pool handle ref files cs from ranged t.handle t f at_ has its in (
      front.0,
      ap (λ (v : Given). v f.id) (given-more cs (λ i. []) d0 (command.Poll name))
          ∙ ap (λ v. given_polled (given d0 cs) d v r f.id) found
          ∙ front.1 ∙ ap (λ (o : Option (List ℕ)). given d0 cs f.id ++ take front.0 (unwrap_or o [])) there,
    )
