-- What holds of transfers whose sender says Done while messages go back, tasks begin and end, and transfers are given up.
use Rattle.rh_laws.proofs.Common.{Active, Bool, true, false, if◌then◌else◌, Has, List, None, Option, Some, Taking, [], ap, arith, inl, inr, out_id, put_other}
use Rattle.rh_laws.proofs.Common.{refl, subst, sym, ℕ, ◌<◌, ◌∙◌, ◌∷◌, ◌≡◌, ◌⊎◌}
use Rattle.rh_safety.specs.RawIds.{Gave}
use Rattle.rh_safety.proofs.Basics.{Has-append, Has-left}
use Rattle.rh_safety.proofs.Ends.{Asking, Draining, Fetching, In, In_done, In_failed, Letter, Message, Open, Out, Out_done, Out_failed, cancelled, in_id}
use Rattle.rh_safety.proofs.Ends.{put}
use Rattle.rh_safety.proofs.Invariant.{IsLive, Unread}
use Rattle.rh_safety.proofs.Moves.{Move, at_put, none_left}
use Rattle.rh_safety.proofs.Posts.{back_has, killed_known, returned_known, started_known, unheld}
use Rattle.rh_safety.proofs.Sends.{sent_knows, still_is}
use Rattle.rh_safety.proofs.Strangers.{held_known}
use Rattle.rh_safety.proofs.SeenPosts.{with_scrap}
use Rattle.rh_safety.proofs.Sight.{Desk, Scrap, back, for_others, killed, returned, sent, started}
use Rattle.rh_laws.proofs.Dones.{Begun, Like, Matched, ends-map, drains, edit-matched, fails, unchanged}
use Rattle.rh_laws.proofs.WantEdits.{has-others, killed-on, returned-on, started-on}
use Rattle.rh_laws.proofs.Wants.{Was, part}

-- blocks and the scrap file are others
pub framed-matched : {P : ℕ → Type 0} {R : Gave} (d : Desk) (bl hp : ℕ → ℕ → Option (List ℕ)) (sc : Option Scrap) → Matched P R d → Matched P R
    (record d { block = bl; heap = hp; scrap = sc })
framed-matched d bl hp sc f = record {
  unbegun = f.unbegun;
  first = f.first;
  ends = f.ends;
}

-- what a task held went back
pub returned-matched : {P : ℕ → Type 0} {R : Gave} (d : Desk) (k : ℕ) (o : Option Message) → d.held k ≡ o → Matched P R d → Matched P R (returned d k o)
returned-matched d k None is f = f
returned-matched d k (Some m) is f = edit-matched (record {
  on = λ ref. returned-on d k m is (part ref 0 0);
  knows = returned_known d k m is;
  taking = λ r v has. (v, (has, unchanged refl));
  sending = λ s v has. inl has;
  room = λ r v has. refl;
  stays = λ r v has y code to there. Has-left y d.queue (back d.live m) there;
}) f

pub returned-queue : (d : Desk) (k : ℕ) (o : Option Message) (m : Message) → Unread m → Has m (returned d k o).queue → Has m d.queue
returned-queue d k None m un has = has
returned-queue d k (Some y) m un has = elim (Has-append m d.queue (back d.live y) has) [
  | inl a ↦ a
  | inr a ↦ absurd (un (back_has (d.live y.letter.from) y m a).0)
]

pub killed-matched : {P : ℕ → Type 0} {R : Gave} (d : Desk) (k : ℕ) (sc : Option Scrap) → Matched P R d → Matched P R (with_scrap sc (killed d k))
killed-matched d k sc f = edit-matched (record {
  on = λ ref. killed-on d k sc (part ref 0 0);
  knows = killed_known d k;
  taking = λ r v has. (v, (none_left d.taking k r v has, unchanged refl));
  sending = λ s v has. inl (none_left d.sending k s v has);
  room = λ r v has. elim (at_put d.taking k [] r v has) [ inl z ↦ absurd z.1 | inr z ↦ put_other d.buf k 1 r z.0 ];
  stays = λ r v has y code to there. elim (at_put d.taking k [] r v has) [
    | inl z ↦ absurd z.1
    | inr z ↦ Has-left y (for_others k d.queue) _ (has-others k d.queue y there (λ e. z.0 (sym to ∙ e)))
  ];
}) f

pub started-matched : {P : ℕ → Type 0} {R : Gave} (d : Desk) (buf : ℕ) (deaf no_fetch raw : Bool) → Matched P R d → Matched P R
    (started d buf deaf no_fetch raw)
started-matched d buf deaf no_fetch raw f = edit-matched (record {
  on = λ ref. started-on d buf deaf no_fetch raw (part ref 0 0);
  knows = started_known d buf deaf no_fetch raw;
  taking = λ r v has. (v, (none_left d.taking d.next_handle r v has, unchanged refl));
  sending = λ s v has. inl (none_left d.sending d.next_handle s v has);
  room = λ r v has. elim (at_put d.taking d.next_handle [] r v has) [ inl z ↦ absurd z.1 | inr z ↦ put_other d.buf d.next_handle buf r z.0 ];
  stays = λ r v has y code to there. there;
}) f

-- ---- transfers are given up

module _ {P : ℕ → Type 0} {R : Gave} (d : Desk) (sd : ℕ → List Out) (tk : ℕ → List In) where
  pub records-matched : ((r : ℕ) (v : In) → Has v (tk r) → (u : In) × (Has u (d.taking r) × Like u v)) →
      ((s : ℕ) (v : Out) → Has v (sd s) → Has v (d.sending s) ⊎ ((i : ℕ) × ((n : ℕ) × (v ≡ Out_failed i n)))) → Matched P R d →
      Matched P R (record d { sending = sd; taking = tk })
  records-matched ins outs f = edit-matched (record {
    on = λ ref. record { queue = λ y has me. Was.in_queue y has refl; held = λ j y is me. Was.in_hand j is };
    knows = λ l kn. kn;
    taking = ins;
    sending = outs;
    room = λ r v has. refl;
    stays = λ r v has y code to there. there;
  }) f

pub failed-matched : {P : ℕ → Type 0} {R : Gave} (d : Desk) (sd : ℕ → List Out) →
    ((s : ℕ) (v : Out) → Has v (sd s) → Has v (d.sending s) ⊎ ((i : ℕ) × ((n : ℕ) × (v ≡ Out_failed i n)))) → Matched P R d →
    Matched P R (record d { sending = sd })
failed-matched d sd outs f = records-matched d sd d.taking (λ r v has. (v, (has, unchanged refl))) outs f

cancelled-like : (x : In) → Like x (cancelled x)
cancelled-like (Fetching f) = by f.raw
  where
    by : (b : Bool) → Like (Fetching f) (if b then In_failed f.id f.anchor f.count else Draining f)
    by true = fails f.id f.anchor f.count refl refl
    by false = drains f refl refl
cancelled-like (Draining f) = unchanged refl
cancelled-like (Asking q) = fails q.id q.anchor 0 refl refl
cancelled-like (In_done i a n) = unchanged refl
cancelled-like (In_failed i a n) = unchanged refl

pub cancelled-matched : {P : ℕ → Type 0} {R : Gave} (d : Desk) (k : ℕ) (x : In) (tk : ℕ → List In) → Has x (d.taking k) → Move in_id d.taking tk k (cancelled x)
    → Matched P R d →
    Matched P R (record d { taking = tk })
cancelled-matched d k x tk here move f = records-matched d d.sending tk ins (λ s v has. inl has) f
  where
    ins : (r : ℕ) (v : In) → Has v (tk r) → (u : In) × (Has u (d.taking r) × Like u v)
    ins r v has = elim (move r v has) [
      | inl z ↦ (v, (z.0, unchanged refl))
      | inr z ↦ (x, (subst (λ j. Has x (d.taking j)) (sym z.0) here, subst (Like x) (sym z.1) (cancelled-like x)))
    ]

-- ---- tasks with code of their own

-- such a task holds nothing more
pub down-matched : {P : ℕ → Type 0} {R : Gave} (d : Desk) (h : ℕ) (sc : Option Scrap) → Matched P R d →
    Matched P R (record d { held = put d.held h None; scrap = sc })
down-matched d h sc f = edit-matched (record {
  on = λ ref. record { queue = λ y has me. Was.in_queue y has refl; held = λ j y is me. Was.in_hand j (unheld d h j y is) };
  knows = λ l kn. held_known d (put d.held h None) (λ j y is. unheld d h j y is) l kn;
  taking = λ r v has. (v, (has, unchanged refl));
  sending = λ s v has. inl has;
  room = λ r v has. refl;
  stays = λ r v has y code to there. there;
}) f

-- it sends a message
module _ {P Q : ℕ → Type 0} {R : Gave} (d : Desk) (h : ℕ) (m : Message) (from : m.letter.from ≡ h) (me : m.letter.me ≡ d.next_ref)
    (none : (v : In) → Has v (d.taking h) → ⊥) (fetches : (r : ℕ) (t : Taking) → Active (d.taking r) t → t.fetch < d.next_ref)
    (ins : (r : ℕ) (v : In) → Has v (d.taking r) → in_id v < d.next_ref) (outs : (s : ℕ) (v : Out) → Has v (d.sending s) → out_id v < d.next_ref)
    (less : (ref : ℕ) → ref < d.next_ref → Q ref → P ref) (sc : Option Scrap) (f : Matched P R d) where
  abbrev E : Desk
  E = with_scrap sc (sent d h m)

  abbrev S : Gave
  S = put R d.next_ref true

  begun-id : (ref : ℕ) (v : Out) → Begun ref v → ref ≡ out_id v
  begun-id ref (Open x) b = sym b.0
  begun-id ref (Out_done i n) b = sym b
  begun-id ref (Out_failed i n) b = absurd b

  live-before : (ref : ℕ) → ref < d.next_ref → IsLive E.queue E.held ref → IsLive d.queue d.held ref
  live-before ref lt (IsLive.waits y has e) = elim (Has-append y d.queue (m ∷ []) has) [
    | inl z ↦ IsLive.waits y z e
    | inr z ↦ elim z [ inl one ↦ absurd (let q = ap (λ (n : Message). n.letter.me) one in omega (arith, q, e, me, lt)) | inr never ↦ absurd never ]
  ]
  live-before ref lt (IsLive.rests j y is e) = IsLive.rests j y (still_is d h m.letter.answers j y is) e

  active-id : (r : ℕ) (t : Taking) → Active (d.taking r) t → t.id < d.next_ref
  active-id r t (inl has) = ins r (Fetching t) has
  active-id r t (inr has) = ins r (Draining t) has

  not-of-it : (r : ℕ) (t : Taking) → Active (d.taking r) t → r ≡ h → ⊥
  not-of-it r t (inl has) e = none (Fetching t) (subst (λ j. Has (Fetching t) (d.taking j)) e has)
  not-of-it r t (inr has) e = none (Draining t) (subst (λ j. Has (Draining t) (d.taking j)) e has)

  pub sent-matched : Matched Q S E
  sent-matched = record {
    unbegun = λ ref q live s v has b.
        let lt : ref < d.next_ref = let z = outs s v has in let e = begun-id ref v b in omega (arith, z, e) in
        f.unbegun ref (less ref lt q) (live-before ref lt live) s v has b;
    first = λ r t act mine l k kn_l kn_k its_me its_from same. elim (sent_knows d h m from l kn_l) [
      | inr z ↦ absurd (not-of-it r t act (sym its_from ∙ ap (λ (y : Letter). y.from) z ∙ from))
      | inl z ↦ elim (sent_knows d h m from k kn_k) [
        | inr y ↦ absurd (let q = ap (λ (n : Letter). n.me) y in let b = fetches r t act in omega (arith, q, b, its_me, me))
        | inl y ↦
            let own : R t.id ≡ false = sym (put_other R d.next_ref true t.id (λ e. let b = active-id r t act in omega (arith, b, e))) ∙ mine in
            f.first r t act own l k z y its_me its_from same
      ]
    ];
    ends = λ s i n r w done has id. ends-map w refl (λ t is y fin there. Has-left y d.queue (m ∷ []) there) (f.ends s i n r w done has id);
  }
