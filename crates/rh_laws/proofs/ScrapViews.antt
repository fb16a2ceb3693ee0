-- What the messages of a transfer by way of the scrap file make of what is seen of the desk, where nothing is refused.
use Rattle.rh_laws.proofs.Common.{Acknowledge, Asked, Body, Bool, Desk, Handled, Incoming, List, Parcel, Refusal, Scrap, Sending, Some, Taking, Task, []}
use Rattle.rh_laws.proofs.Common.{action_of, active_of}
use Rattle.rh_laws.proofs.Common.{answers_none, ap, asking_is, asking_of, eq-eqb, false, field_is, handled, inl, inr, length, open_is, open_of}
use Rattle.rh_laws.proofs.Common.{refl, same_value, subst, sym, task_of, true, view, ℕ, ◌&&◌, ◌==◌, ◌∙◌, ◌≡◌}
use Rattle.rh_defs.specs.declared.message.Action.TheVariants as action
use Rattle.rh_defs.specs.declared.message.Body.TheVariants as body
use Rattle.rh_defs.specs.declared.reply.Outcome.{Outcome}
use Rattle.rh_defs.specs.declared.reply.Outcome.TheVariants as outcome
use Rattle.rh_defs.specs.declared.transfer.Incoming.TheVariants as incoming
use Rattle.rh_defs.specs.declared.transfer.Outgoing.TheVariants as outgoing
use Rattle.rh_defs.specs.Sender as sender
use Rattle.rh_defs.specs.Receiver as receiver
use Rattle.rh_safety.specs.Alternation.{is_refusal}
use Rattle.rh_safety.proofs.Acts.{Act, abandons, asks, drained, fails, finishes, gives_up, handled-acts, is_back, is_file, loads, loads_only, refused, saves}
use Rattle.rh_safety.proofs.Acts.{sends, skips, unanswered}
use Rattle.rh_safety.proofs.Basics.{FoundActive, active_is, drains, fetches}
use Rattle.rh_safety.proofs.PollTurns.{unlike}
use Rattle.rh_safety.proofs.SeenActs.{asks_seen, loads_seen, saves_seen, source_seen}
use Rattle.rh_safety.proofs.SeenDocuments.{letter_of}
use Rattle.rh_safety.proofs.SeenTasks.{outs_view}
use Rattle.rh_safety.proofs.Common.{live_of}
use Rattle.rh_safety.proofs.Sight as sight

-- a message that came back
pub back_acts : (d : Desk) (t : Task) (p : Parcel) → p.code ≡ Acknowledge → Act d t p true p.message.body (handled d t p p.code)
back_acts d t p code = subst (λ b. Act d t p b p.message.body (handled d t p p.code)) (ap is_back code) (handled-acts d t p p.code)

module _ (d : Desk) (t : Task) (m : Parcel) (is : task_of t.handle d.tasks ≡ Some t) where
  abbrev h : ℕ
  h = t.handle

  abbrev from : ℕ
  from = m.message.from

  abbrev my : ℕ
  my = m.message.my_ref

  abbrev your : ℕ
  your = m.message.your_ref

  -- the records that are seen are the task's
  open_found : (test : Sending → Bool) (x : Sending) → open_of test ((view d).sending h) ≡ Some x → open_of test t.sending ≡ Some x
  open_found test x q = ap (open_of test) (sym (field_is (λ y. y.sending) [] h d.tasks t is)) ∙ q

  -- a fetch that the task doesn't answer
  pub ignored_goes : (b : Body) {y : Handled} → Act d t m false b y → action_of b ≡ action.RamFetch → answers_none t.manner ≡ true → view y.0 ≡ view d
  ignored_goes (body.RamFetch buffer n) (skips free) kind none = refl
  ignored_goes (body.RamFetch buffer n) (fails x o it why) kind none = unlike (rw none at it.passes)
  ignored_goes (body.RamFetch buffer n) (sends x s r sent it w) kind none = unlike (rw none at it.passes)
  ignored_goes (body.RamFetch buffer n) (gives_up f o it why) kind none = unlike it.passes
  ignored_goes (body.RamFetch buffer n) (abandons q o it why) kind none = unlike it.passes
  ignored_goes b a kind none = absurd cc

  -- a first fetch came back: the sender is asked for a file
  pub asked_goes : (b : Body) {y : Handled} → Act d t m true b y → action_of b ≡ action.RamFetch → (f : Taking) → f.count ≡ 0 →
      active_of (λ k. k.fetch == my) ((view d).taking h) ≡ Some (incoming.Fetching f) → is_refusal (action_of b) y.1 ≡ false →
      view y.0 ≡ sight.asked (view d) h f
  asked_goes (body.RamFetch buffer n) a kind f none there granted = by a granted
    where
      test : Taking → Bool
      test = λ k. k.fetch == my

      found : active_of test t.taking ≡ Some (incoming.Fetching f)
      found = ap (active_of test) (sym (field_is (λ y. y.taking) [] h d.tasks t is)) ∙ there

      one : (g : Taking) → active_of test t.taking ≡ Some (incoming.Fetching g) → g ≡ f
      one g e = let z : incoming.Fetching g ≡ incoming.Fetching f = same_value (active_of test t.taking) e found in cc

      by : {y : Handled} → Act d t m true (body.RamFetch buffer n) y → is_refusal action.RamFetch y.1 ≡ false → view y.0 ≡ sight.asked (view d) h f
      by (skips free) ok = lacks (active_is test t.taking (incoming.Fetching f) found)
        where
          lacks : {A : Type 0} {w : Incoming} → FoundActive test t.taking w → A
          lacks (fetches g has e) = unlike (sym (free.active g (inl has)) ∙ e)
          lacks (drains g has e) = unlike (sym (free.active g (inr has)) ∙ e)
      by (fails x o it why) ok = unlike it.passes
      by (abandons q o it why) ok = unlike it.passes
      by (asks g sent it first l) ok = asks_seen d t m is g sent l ∙ ap (sight.asked (view d) h) (one g it.found)
      by (gives_up g o it (drained e)) ok = absurd (let z : incoming.Draining g ≡ incoming.Fetching f = same_value (active_of test t.taking) e found in (cc))
      by (gives_up g o it (refused r e)) ok =
          absurd (let z : is_refusal action.RamFetch (outcome.Refused r) ≡ false = subst (λ o. is_refusal action.RamFetch o ≡ false) e ok in (cc))
      by (gives_up g o it (unanswered e back some)) ok =
          unlike (sym some ∙ ap (λ (u : Taking). u.count == 0) (one g e) ∙ eq-eqb f.count 0 none)
  asked_goes b a kind f none there granted = absurd cc

  -- a refusal that wasn't one
  refuses : {A : Type 0} (b : Body) (o : Outcome) (r : Refusal) → o ≡ outcome.Refused r → (is_refusal (action_of b) (outcome.Refused r) ≡ true) →
      is_refusal (action_of b) o ≡ false → A
  refuses b o r q is_so ok = unlike (sym (subst (λ o. is_refusal (action_of b) o ≡ false) q ok) ∙ is_so)

  -- a DataSaveAck: the source becomes the scrap file
  pub filed_goes : (b : Body) {y : Handled} → Act d t m false b y → action_of b ≡ action.DataSaveAck → (x : Sending) (bytes : List ℕ) →
      open_of (sender.asks_for from your) ((view d).sending h) ≡ Some x → from ≡ x.recipient → (view d).block h x.anchor ≡ Some bytes →
      is_refusal (action_of b) y.1 ≡ false → view y.0 ≡ sight.filed (view d) h (letter_of m b) x bytes
  filed_goes (body.DataSaveAck file) (skips free) kind x bytes found to there ok =
      let z = open_is (sender.asks_for from your) t.sending x (open_found _ x found) in unlike (sym (free.open_ x z.0) ∙ z.1)
  filed_goes (body.DataSaveAck file) (fails y o it why) kind x bytes found to there ok = refuses (body.DataSaveAck file) o why.0 why.1 refl ok
  filed_goes (body.DataSaveAck file) (gives_up f o it why) kind x bytes found to there ok = unlike it.passes
  filed_goes (body.DataSaveAck file) (abandons q o it why) kind x bytes found to there ok = unlike it.passes
  filed_goes (body.DataSaveAck file) (saves y s sent it source none l) kind x bytes found to there ok =
      let l_ = letter_of m (body.DataSaveAck file) in
      let same : y ≡ x = same_value (open_of (sender.asks_for from your) t.sending) it.found (open_found _ x found) in
      let all : s.here.bytes ≡ bytes = same_value ((view d).block h y.anchor) (source_seen d t m is y s source)
      (ap (λ (u : Sending). (view d).block h u.anchor) same ∙ there) in
      saves_seen d t m is (body.DataSaveAck file) y s sent (to ∙ ap (λ (u : Sending). u.recipient) (sym same)) l ∙
      ap (λ u. sight.filed (view d) h l_ u s.here.bytes) same ∙ ap (sight.filed (view d) h l_ x) all
  filed_goes b a kind x bytes found to there ok = absurd cc

  -- a DataLoadAck: all of the source was loaded
  pub done_goes : (b : Body) {y : Handled} → Act d t m false b y → action_of b ≡ action.DataLoadAck → (x : Sending) (bytes : List ℕ) →
      open_of (sender.is_loaded from your) ((view d).sending h) ≡ Some x → (view d).block h x.anchor ≡ Some bytes →
      is_refusal (action_of b) y.1 ≡ false → view y.0 ≡ sight.with_out (view d) h x (outgoing.Done x.id (length bytes))
  done_goes (body.DataLoadAck file) (skips free) kind x bytes found there ok =
      let z = open_is (sender.is_loaded from your) t.sending x (open_found _ x found) in unlike (sym (free.open_ x z.0) ∙ z.1)
  done_goes (body.DataLoadAck file) (fails y o it why) kind x bytes found there ok = refuses (body.DataLoadAck file) o why.0 why.1 refl ok
  done_goes (body.DataLoadAck file) (gives_up f o it why) kind x bytes found there ok = unlike it.passes
  done_goes (body.DataLoadAck file) (abandons q o it why) kind x bytes found there ok = unlike it.passes
  done_goes (body.DataLoadAck file) (finishes y s it source) kind x bytes found there ok =
      let same : y ≡ x = same_value (open_of (sender.is_loaded from your) t.sending) it.found (open_found _ x found) in
      let all : s.here.bytes ≡ bytes = same_value ((view d).block h y.anchor) (source_seen d t m is y s source)
      (ap (λ (u : Sending). (view d).block h u.anchor) same ∙ there) in
      outs_view d h (sender.sending_loaded y (length s.here.bytes)) (live_of d h t is) ∙
      ap (λ (u : Sending). sight.with_out (view d) h u (outgoing.Done u.id (length s.here.bytes))) same ∙
      ap (λ (z : List ℕ). sight.with_out (view d) h x (outgoing.Done x.id (length z))) all
  done_goes b a kind x bytes found there ok = absurd cc

  -- a DataLoad of the scrap file
  pub told_goes : (b : Body) {y : Handled} → Act d t m false b y → action_of b ≡ action.DataLoad → (q : Asked) (file : Scrap) → d.scrap ≡ Some file →
      file.load ≡ my → asking_of (receiver.is_load from your) ((view d).taking h) ≡ Some q → from ≡ q.sender → is_refusal (action_of b) y.1 ≡ false →
      view y.0 ≡ sight.told (sight.copied (view d) h q file.bytes) h (letter_of m b) q (length file.bytes)
  told_goes (body.DataLoad f) a kind q file there load asking to granted = by a granted
    where
      found : asking_of (receiver.is_load from your) t.taking ≡ Some q
      found = ap (asking_of (receiver.is_load from your)) (sym (field_is (λ y. y.taking) [] h d.tasks t is)) ∙ asking

      named : is_file my d.scrap ≡ true
      named = ap (is_file my) there ∙ eq-eqb file.load my load

      by : {y : Handled} → Act d t m false (body.DataLoad f) y → is_refusal action.DataLoad y.1 ≡ false →
          view y.0 ≡ sight.told (sight.copied (view d) h q file.bytes) h (letter_of m (body.DataLoad f)) q (length file.bytes)
      by (skips free) ok = let z = asking_is (receiver.is_load from your) t.taking q found in unlike (sym (free.asking q z.0) ∙ rw named z.1)
      by (fails x o it why) ok = unlike it.passes
      by (gives_up g o it why) ok = unlike it.passes
      by (abandons p o it why) ok = refuses (body.DataLoad f) o why.0 why.1 refl ok
      by (loads_only p g e r it w) ok = absurd (let z : is_refusal action.DataLoad (outcome.LoadedFailed (length g.bytes) r) ≡ false = ok in (cc))
      by (loads p g e sent it w l) ok =
          let same : p ≡ q = same_value (asking_of (receiver.is_load from your) t.taking)
          (subst (λ c. asking_of (λ u. c && receiver.is_load from your u) t.taking ≡ Some p) named it.found) found in
          let one : g ≡ file = same_value d.scrap w.there there in
          loads_seen d t m is p g e w (body.DataLoad f) sent (to ∙ ap (λ (u : Asked). u.sender) (sym same)) l ∙
          ap (λ (u : Scrap). sight.told (sight.copied (view d) h p u.bytes) h (letter_of m (body.DataLoad f)) p (length u.bytes)) one ∙
          ap (λ u. sight.told (sight.copied (view d) h u file.bytes) h (letter_of m (body.DataLoad f)) u (length file.bytes)) same
  told_goes b a kind q file there load asking to ok = absurd cc
