-- Where no command starts a task with code of its own, the desk plays all tasks, and no ref is theirs: the laws are of all.
use Rattle.rh_safety.proofs.Common.{◌≡◌, ℕ, Bool, true, false, not, ◌||◌, List, [], ◌∷◌, ◌++◌, Option, Some, None, Ok, refl, sym, ap, ◌∙◌, subst, inl, inr}
use Rattle.rh_safety.proofs.Common.{if◌then◌else◌, ◌==◌, find, filter, refuse_if, Command, Manner, Parcel, post_poll, Desk, Task, has_name, named, task_at}
use Rattle.rh_safety.proofs.Common.{Answer}
use Rattle.rh_safety.proofs.Common.{start_task, kill, with_delivered, step, start_with, after, Has, first_is, in_id, is_found, bind, test, done, instead_of}
use Rattle.rh_defs.specs.declared.refusal.Refusal.TheVariants.{NoName, WrongManner}
use Rattle.rh_defs.specs.declared.command.Command.TheVariants as command
use Rattle.rh_defs.specs.declared.raw_command.RawCommand.TheVariants as raw
use Rattle.rh_defs.specs.Files.{FileList}
use Rattle.rh_defs.specs.RawCommands.{send, spool}
use Rattle.rh_defs.specs.RawTasks.{is_raw, is_raw_task}
use Rattle.rh_defs.specs.Runs.{start}
use Rattle.rh_defs.specs.Script.{commands_in, ended}
use Rattle.rh_safety.specs.Alternation.{Alternates, AllAlternate}
use Rattle.rh_safety.specs.Buffers.{takes_raw, HasBuffers, HasAllBuffers, HasGoodRanges, HasAllGoodRanges}
use Rattle.rh_safety.specs.Counts.{CountsAllOffered}
use Rattle.rh_safety.specs.Played.{AfterPlayed, WherePlayed}
use Rattle.rh_safety.specs.RawIds.{Gave, gave_from, gave_next, gave_sent, has_raw, is_raw_id, starts_raw}
use Rattle.rh_safety.specs.Safe.{AreAllSafe, ScriptsAreSafe}
use Rattle.rh_safety.specs.ScrapFile.{OwnsAnyScrapFile}
use Rattle.rh_safety.proofs.Alternations.{alternates}
use Rattle.rh_safety.proofs.HeldCounts.{always_counts_offered}
use Rattle.rh_safety.proofs.Lines.{commands_in_range, after_lines}
use Rattle.rh_safety.proofs.NameLaws.{stays}
use Rattle.rh_safety.proofs.ScrapLaws.{always_owns_scrap_file}
use Rattle.rh_safety.proofs.SeenBlocks.{not_refused}
use Rattle.rh_safety.proofs.SeenBuffers.{has_buffers}
use Rattle.rh_safety.proofs.SeenDesks.{fits}
use Rattle.rh_safety.proofs.SeenKeys.{Key, keys_of}
use Rattle.rh_safety.proofs.SeenLaws.{always, always_safe, first_start}
use Rattle.rh_safety.proofs.SeenRanges.{good_ranges}

-- ---- tasks that the desk plays

-- it plays each task of these keys
abbrev pub Plays : List Key → Type 0
Plays [] = Unit {0}
Plays (k ∷ keys) = (is_raw k.2 ≡ false) × Plays keys

pub task_plays : (ts : List Task) (t : Task) → Plays (keys_of ts) → Has t ts → is_raw t.manner ≡ false
task_plays [] t all has = absurd has
task_plays (y ∷ ts) t all (inl same) = subst (λ (z : Task). is_raw z.manner ≡ false) same all.0
task_plays (y ∷ ts) t all (inr has) = task_plays ts t all.1 has

plays_more : (ts : List Task) (t : Task) → Plays (keys_of ts) → is_raw t.manner ≡ false → Plays (keys_of (ts ++ t ∷ []))
plays_more [] t all its = (its, tt)
plays_more (y ∷ ts) t all its = (all.0, plays_more ts t all.1 its)

plays_less : (keep : Task → Bool) (ts : List Task) → Plays (keys_of ts) → Plays (keys_of (filter keep ts))
plays_less keep [] all = tt
plays_less keep (t ∷ ts) all = elim (keep t) as (λ b. Plays (keys_of (if b then t ∷ filter keep ts else filter keep ts))) [
  | true ↦ (all.0, plays_less keep ts all.1)
  | false ↦ plays_less keep ts all.1
]

-- ---- one command

module _ (d : Desk) (all : Plays (keys_of d.tasks)) where
  found_plays : (name : List ℕ) (t : Task) → find (has_name name) d.tasks ≡ Some t → is_raw t.manner ≡ false
  found_plays name t q = task_plays d.tasks t all (first_is (has_name name) d.tasks t q).0

  pub named_plays : (name : List ℕ) (t : Task) → named name d ≡ Ok t → is_raw t.manner ≡ false
  unfolding named
  named_plays name t q = found_plays name t (is_found (find (has_name name) d.tasks) NoName t q)

  abbrev Stays : Answer → Type 0
  Stays a = Plays (keys_of a.0.tasks)

  task_stays : (name : List ℕ) (buffer : ℕ) (manner : Manner) → is_raw manner ≡ false →
      Stays (step d (command.Task name buffer manner))
  unfolding start_task
  task_stays name buffer manner its = test Stays _ _ (instead_of d) (λ r. all) (λ u new. test Stays _ _ (instead_of d)
      (λ r. all) (λ v few. test Stays _ _ (instead_of d) (λ r. all) (λ w more. bind Stays _ _ (instead_of d) (λ r. all)
      (λ s begun. done Stays _ (instead_of d) (plays_more d.tasks _ all its)))))

  kill_stays : (name : List ℕ) → Stays (step d (command.Kill name))
  unfolding kill with_delivered
  kill_stays name = bind Stays _ _ (instead_of d) (λ r. all) (λ t q. done Stays _ (instead_of d)
      (plays_less (λ (u : Task). not (u.handle == t.handle)) d.tasks all))

  pub step_stays : (c : Command) → starts_raw c ≡ false → Stays (step d c)
  step_stays (command.Task name buffer manner) q = task_stays name buffer manner q
  step_stays (command.Kill name) q = kill_stays name
  step_stays c q = subst Plays (sym (stays d c refl)) all

  -- ---- no ref is theirs

  module _ (R : Gave) where
    abbrev Same : Answer → Type 0
    Same a = gave_sent R a.1 ≡ R

    refuses : (name : List ℕ) (t : Task) → named name d ≡ Ok t → (u : _) → refuse_if (not (is_raw t.manner)) WrongManner ≡ Ok u → ⊥
    refuses name t q u v = let z : true ≡ false = ap not (sym (named_plays name t q)) ∙ not_refused (not (is_raw t.manner)) WrongManner u v in (cc)

    send_same : (name : List ℕ) (recorded : Bool) (h ref a : ℕ) (bytes : Option (List ℕ)) →
        Same (step d (command.Raw (raw.Send name recorded h ref a bytes)))
    unfolding send
    send_same name recorded h ref a bytes = bind Same _ _ (instead_of d) (λ r. refl) (λ t q. bind Same _ _ (instead_of d) (λ r. refl)
        (λ sent w. test Same _ _ (instead_of d) (λ r. refl) (λ u v. absurd (refuses name t q u v))))

    spool_same : (name : List ℕ) (k h ref : ℕ) → Same (step d (command.Raw (raw.Spool name k h ref)))
    unfolding spool
    spool_same name k h ref = bind Same _ _ (instead_of d) (λ r. refl) (λ t q. bind Same _ _ (instead_of d) (λ r. refl) (λ b e.
        test Same _ _ (instead_of d) (λ r. refl) (λ u1 v1. test Same _ _ (instead_of d) (λ r. refl) (λ u2 v2.
        test Same _ _ (instead_of d) (λ r. refl) (λ u3 v3. bind Same _ _ (instead_of d) (λ r. refl) (λ sent w.
        test Same _ _ (instead_of d) (λ r. refl) (λ u v. absurd (refuses name t q u v))))))))

    none_raw : (name : List ℕ) (o : Option Task) → find (has_name name) d.tasks ≡ o → is_raw_task o ≡ false
    none_raw name None q = refl
    none_raw name (Some t) q = found_plays name t q

    pub step_same : (c : Command) → gave_next R d c (step d c).1 ≡ R
    step_same (command.Raw (raw.Send name recorded h ref a bytes)) = send_same name recorded h ref a bytes
    step_same (command.Raw (raw.Spool name k h ref)) = spool_same name k h ref
    step_same (command.Repeat name) = rw (none_raw name (find (has_name name) d.tasks) refl) refl
    step_same c = refl

-- ---- every run

pub neither : (b c : Bool) → (b || c) ≡ false → (b ≡ false) × (c ≡ false)
neither true c q = absurd (let z : Bool.true ≡ false = q in (cc))
neither false c q = (refl, q)

after_stays : (d : Desk) (cs : List Command) → has_raw cs ≡ false → Plays (keys_of d.tasks) → Plays (keys_of (after d cs).tasks)
after_stays d [] q all = all
after_stays d (c ∷ cs) q all =
    let w = neither (starts_raw c) (has_raw cs) q in after_stays (step d c).0 cs w.1 (step_stays d all c w.0)

after_same : (R : Gave) (d : Desk) (cs : List Command) → has_raw cs ≡ false → Plays (keys_of d.tasks) → gave_from R d cs ≡ R
after_same R d [] q all = refl
after_same R d (c ∷ cs) q all =
    let w = neither (starts_raw c) (has_raw cs) q in
    ap (λ (S : Gave). gave_from S (step d c).0 cs) (step_same d all R c) ∙
    after_same R (step d c).0 cs w.1 (step_stays d all c w.0)

module _ (pool handle ref : ℕ) (files : FileList) (cs : List Command) (q : has_raw cs ≡ false) where
  abbrev d0 : Desk
  d0 = start_with pool files handle ref

  pub no_raw_id : (id : ℕ) → is_raw_id d0 cs id ≡ false
  no_raw_id id = ap (λ (S : Gave). S id) (after_same (λ i. false) d0 cs q tt)

  all_play : (t : Task) → Has t (after d0 cs).tasks → is_raw t.manner ≡ false
  all_play t has = task_plays (after d0 cs).tasks t (after_stays d0 cs q tt) has

  pub live_plays : (h : ℕ) (t : Task) → task_at h (after d0 cs) ≡ Some t → is_raw t.manner ≡ false
  live_plays h t at = all_play t (first_is (λ (y : Task). y.handle == h) (after d0 cs).tasks t at).0

  pub plays_named : (name : List ℕ) (t : Task) → find (has_name name) (after d0 cs).tasks ≡ Some t → is_raw t.manner ≡ false
  plays_named name t is = all_play t (first_is (has_name name) (after d0 cs).tasks t is).0

  takes_none : (v : Option Parcel) → takes_raw v (after d0 cs) ≡ false
  takes_none None = refl
  takes_none (Some m) = go (task_at m.message.from (after d0 cs)) refl
    where
      go : (o : Option Task) → task_at m.message.from (after d0 cs) ≡ o → is_raw_task o ≡ false
      go None e = refl
      go (Some t) e = live_plays m.message.from t e

-- ---- the laws

pub all_safe : WherePlayed AreAllSafe
all_safe pool handle ref files cs from ranged q id h =
    always_safe pool handle ref files cs from ranged id h (no_raw_id pool handle ref files cs q id)

pub scripts_are_safe : ScriptsAreSafe
scripts_are_safe pages files script least most =
    let from = first_start pages least most in
    let cs = commands_in (ended script) in
    let ranged = commands_in_range (ended script) in
    record {
      desk = after_lines (start pages files) (ended script);
      safe = always_safe pages 1 1 files cs from ranged;
      all = λ q. all_safe pages 1 1 files cs from ranged q;
    }

pub all_counts : WherePlayed CountsAllOffered
all_counts pool handle ref files cs from ranged q h t w at has =
    always_counts_offered pool handle ref files cs from ranged h t w at has (no_raw_id pool handle ref files cs q (in_id w))

pub all_buffers : AfterPlayed HasAllBuffers
all_buffers pool handle ref files cs from ranged q m t u x address n a =
    always HasBuffers (λ d w. has_buffers d w.stands) pool handle ref files cs from ranged m t u x address n a
    (live_plays pool handle ref files cs q m.message.from u a.sender_is)

pub all_ranges : AfterPlayed HasAllGoodRanges
all_ranges pool handle ref files cs from ranged q name =
    always HasGoodRanges (λ d w. good_ranges d (fits d w.kept) w.stands) pool handle ref files cs from ranged name
    (λ t is. takes_none pool handle ref files cs q (post_poll t.handle (after (start_with pool files handle ref) cs).post).1)

pub all_alternate : AfterPlayed AllAlternate
all_alternate pool handle ref files cs from ranged q s r k leaf t u source id valid can =
    always Alternates alternates pool handle ref files cs from ranged s r k leaf t u source id
    (plays_named pool handle ref files cs q r u can.receiver_is) valid can

pub owns_any : AfterPlayed OwnsAnyScrapFile
owns_any pool handle ref files cs from ranged q file is =
    let none = no_raw_id pool handle ref files cs q in
    let w = always_owns_scrap_file pool handle ref files cs from ranged file is (none file.load) in
    (w.0, λ p live. w.1 p live (none p.message.my_ref))
