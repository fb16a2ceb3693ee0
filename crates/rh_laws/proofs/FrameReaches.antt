-- A task with code of its own changes another one by moving bytes alone, to a place that this one opened.
use Rattle.rh_laws.proofs.Common.{◌≡◌, ◌≢◌, ℕ, ◌+◌, Bool, true, false, ◌&&◌, List, [], ◌∷◌, Option, Some, None, refl, sym, ap, ◌∙◌, subst, ◌⊎◌}
use Rattle.rh_laws.proofs.Common.{inl, inr, arith}
use Rattle.rh_laws.proofs.Common.{if◌then◌else◌, ◌||◌, nat_le, nat_eq, list_any, find, option_map, eqb_tells, leb_tells, Body, Parcel, Command}
use Rattle.rh_laws.proofs.Common.{Manner, Desk, Task, has_name, task_at, held_by}
use Rattle.rh_laws.proofs.Common.{Answer, Incoming, start_task, step, and_left, and_right, contains_of, is_equal}
use Rattle.rh_defs.specs.declared.refusal.Refusal.TheVariants.{NameInUse}
use Rattle.rh_defs.specs.declared.command.Command.TheVariants as command
use Rattle.rh_defs.specs.declared.message.Body.TheVariants as body
use Rattle.rh_defs.specs.declared.raw_command.RawCommand.TheVariants as raw
use Rattle.rh_defs.specs.declared.transfer.Incoming.TheVariants as incoming
use Rattle.rh_defs.specs.AnyMessage.{read_body}
use Rattle.rh_defs.specs.Places.{bytes_held, written_held}
use Rattle.rh_defs.specs.RawTasks.{is_open_to, is_raw, names_range, opens_buffer, opens_range}
use Rattle.rh_defs.specs.Slot.{holds}
use Rattle.rh_safety.proofs.SeenBlocks.{not_refused}
use Rattle.rh_safety.proofs.SeenFiles.{passes}
use Rattle.rh_safety.proofs.SeenFrames.{instead_of, test}
use Rattle.std.specs.List.{Contains}
use Rattle.rh_laws.specs.Frame.{handle_named, IsInBuffer, IsInRange, MovesInto, MovesOpened, ReachesOpened, handle_of}
use Rattle.rh_laws.proofs.Frames.{leaves-others, moves-fit}
use Rattle.rh_laws.proofs.FrameSends.{poll-leaves}

-- ---- what is open

by-record : (from y n : ℕ) (r : Task) (w : Incoming) → Contains r.taking w → opens_buffer from r.buffer y n w ≡ true → IsInBuffer from r y n
by-record from y n r (incoming.Fetching f) has opens =
    let inside = and_right (nat_eq f.sender from) _ opens in
    record {
      into = f;
      fetches = has;
      from = is_equal _ _ (and_left (nat_eq f.sender from) _ opens);
      low = grind (arith, leb_tells f.buffer y, and_left (nat_le f.buffer y) _ inside);
      high = grind (arith, leb_tells (y + n) (f.buffer + r.buffer), and_right (nat_le f.buffer y) _ inside);
    }
by-record from y n r w has opens = absurd (let z : false ≡ true = opens in (cc))

by-fetch : (r : Task) (y n : ℕ) (p : Parcel) (b : Body) → read_body p.message.body ≡ b → p.message.from ≡ r.handle → names_range y n b ≡ true →
    holds y n r.slot ≡ true → IsInRange (Some p) r y n
by-fetch r y n p (body.RamFetch address room) is from inside whole = record {
  fetch = p;
  is_held = refl;
  from = from;
  address = address;
  room = room;
  asks = is;
  low = grind (arith, leb_tells address y, and_left (nat_le address y) _ inside);
  high = grind (arith, leb_tells (y + n) (address + room), and_right (nat_le address y) _ inside);
  whole = whole;
}
by-fetch r y n p b is from inside whole = absurd (let z : false ≡ true = inside in (cc))

by-range : (r : Task) (y n : ℕ) (held : Option Parcel) → opens_range r.handle y n held ≡ true → holds y n r.slot ≡ true → IsInRange held r y n
by-range r y n None opens whole = absurd (let z : false ≡ true = opens in (cc))
by-range r y n (Some p) opens whole =
    by-fetch r y n p (read_body p.message.body) refl (is_equal _ _ (and_left (nat_eq p.message.from r.handle) _ opens))
    (and_right (nat_eq p.message.from r.handle) _ opens) whole

-- one way or the other
abbrev Opened : ℕ → Option Parcel → Task → ℕ → ℕ → Type 0
Opened from held r y n = ((is_raw r.manner ≡ false) × IsInBuffer from r y n) ⊎ ((is_raw r.manner ≡ true) × IsInRange held r y n)

opened : (from : ℕ) (held : Option Parcel) (r : Task) (y n : ℕ) (b : Bool) → is_raw r.manner ≡ b → is_open_to from held r y n ≡ true →
    Opened from held r y n
opened from held r y n true its opens =
    let both : (opens_range r.handle y n held && holds y n r.slot) ≡ true = rw its at opens in
    inr (its, by-range r y n held (and_left _ (holds y n r.slot) both) (and_right (opens_range r.handle y n held) _ both))
opened from held r y n false its opens =
    let any : list_any (opens_buffer from r.buffer y n) r.taking ≡ true = rw its at opens in
    let w = passes (opens_buffer from r.buffer y n) r.taking any in
    inl (its, by-record from y n r w.0 (contains_of r.taking w.0 w.1.0) w.1.1)

-- ---- each command

-- a name that is in use
in-use : (name : List ℕ) (ts : List Task) (t : Task) → find (has_name name) ts ≡ Some t → list_any (has_name name) ts ≡ true
in-use name [] t q = absurd cc
in-use name (x ∷ ts) t q =
    elim (has_name name x) as (λ b. (if b then Some x else find (has_name name) ts) ≡ Some t → (b || list_any (has_name name) ts) ≡ true) [
      | true ↦ λ z. refl
      | false ↦ λ z. in-use name ts t z
    ] q

module _ (d : Desk) (name : List ℕ) (t r : Task) (h : ℕ) (found : find (has_name name) d.tasks ≡ Some t) (its : is_raw t.manner ≡ true)
    (ne : t.handle ≢ h) (at_ : task_at h d ≡ Some r) where
  abbrev Reaches : Command → Type 0
  Reaches c = (task_at h (step d c).0 ≡ Some r) ⊎ MovesOpened d c name t r (task_at h (step d c).0)

  own : handle_of name d ≡ Some t.handle
  own = ap (option_map (λ (u : Task). u.handle)) found

  not-here : handle_of name d ≢ Some h
  not-here e = let z : Some t.handle ≡ Some h = sym own ∙ e in ne (let y : t.handle ≡ h = cc in y)

  -- a task of this name is there
  starts : (buffer : ℕ) (manner : Manner) → Reaches (command.Task name buffer manner)
  unfolding start_task
  starts buffer manner =
      test (λ (a : Answer). (task_at h a.0 ≡ Some r) ⊎ MovesOpened d (command.Task name buffer manner) name t r (task_at h a.0)) _ _ (instead_of d)
      (λ x. inl at_) (λ u v.
      let z : true ≡ false = sym (in-use name d.tasks t found) ∙ not_refused (list_any (has_name name) d.tasks) NameInUse u v in absurd (cc))

  polls : Reaches (command.Poll name)
  polls = inl (ap (λ (ts : List Task). find (λ (u : Task). nat_eq u.handle h) ts) (poll-leaves d name t found its) ∙ at_)

  moves : (x k y n : ℕ) → Reaches (command.Raw (raw.Transfer name x k y n))
  moves x k y n = elim (eqb_tells k h) [
    | inl a ↦ subst (λ j. Reaches (command.Raw (raw.Transfer name x j y n))) (sym a.1) (here (moves-fit d name x h y n r at_))
    | inr a ↦ inl (leaves-others d (command.Raw (raw.Transfer name x k y n)) h refl not-here (λ e. a.1 (let z : k ≡ h = cc in z)) ∙ at_)
  ]
    where
      here : {now : Option Task} → (now ≡ Some r) ⊎ MovesInto d name x y n r now →
          (now ≡ Some r) ⊎ MovesOpened d (command.Raw (raw.Transfer name x h y n)) name t r now
      here (inl same) = inl same
      here (inr w) =
          let same : w.sender ≡ t = let z : Some w.sender ≡ Some t = sym w.is ∙ found in cc in
          inr (record {
            x = x;
            y = y;
            n = n;
            h = h;
            is = refl;
            opened = opened t.handle (held_by t.handle d.post.seats) r y n (is_raw r.manner) refl
                (subst (λ (u : Task). is_open_to u.handle (held_by u.handle d.post.seats) r y n ≡ true) same w.opened);
            moved = w.moved ∙ ap (λ (u : Task). Some (record r { slot = written_held y (bytes_held x n u.slot) r.slot })) same;
          })

pub reaches-opened : ReachesOpened
reaches-opened d (command.Task own buffer manner) name t r h is found its ne at_ =
    let same : own ≡ name = cc in
    subst (λ k. Reaches d name t r h found its ne at_ (command.Task k buffer manner)) (sym same) (starts d name t r h found its ne at_ buffer manner)
reaches-opened d (command.Poll own) name t r h is found its ne at_ =
    let same : own ≡ name = cc in
    subst (λ k. Reaches d name t r h found its ne at_ (command.Poll k)) (sym same) (polls d name t r h found its ne at_)
reaches-opened d (command.Raw (raw.Transfer own x k y n)) name t r h is found its ne at_ =
    let same : own ≡ name = cc in
    subst (λ j. Reaches d name t r h found its ne at_ (command.Raw (raw.Transfer j x k y n))) (sym same) (moves d name t r h found its ne at_ x k y n)
reaches-opened d (command.Ask q) name t r h is found its ne at_ = inl (leaves-others d (command.Ask q) h refl (λ e. cc) (λ e. cc) ∙ at_)
reaches-opened d c name t r h is found its ne at_ =
    inl (leaves-others d c h refl (λ e. not-here d name t r h found its ne at_ (ap (λ (o : Option (List ℕ)). handle_named o d) (sym is) ∙ e)) (λ e. cc) ∙ at_)
