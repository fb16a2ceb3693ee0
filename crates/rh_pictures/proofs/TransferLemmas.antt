-- The sides of transfers, task by task.
use Rattle.rh_pictures.proofs.Common.{◌≡◌, ℕ, Bool, true, false, arith, refl, ap, ap₂, sym, ◌∙◌, List, [], ◌∷◌, ◌++◌, length, map, Option, Some, None, ◌==◌}
use Rattle.rh_pictures.proofs.Common.{◌||◌, not, filter, find, flat_map, list_any, option_map, ne_eqb, map-append, Incoming, Outgoing, Task, in_item, out_item}
use Rattle.rh_pictures.proofs.Common.{in_id, Side, has_id, Text, append-nil, alone_among, comes_alone, goes_out, ins_named, outs_named}
use Rattle.std.proofs.lemmas.List.Elements.{filter-append}
use Rattle.std.proofs.lemmas.List.Folds.{find-append, list_any-append}
use Rattle.rh_defs.specs.declared.question.RecordItem.{RecordItem}
use Rattle.rh_defs.specs.declared.transfer.Incoming.TheVariants as incoming
use Rattle.rh_defs.specs.declared.transfer.Outgoing.TheVariants as outgoing
use Rattle.rh_defs.specs.Records.{out_id}
use Rattle.rh_figure.specs.Figure.{Transfer, transfers_of}
use Rattle.rh_pictures.proofs.TextWalks.{text-flat}
use Rattle.rh_pictures.proofs.UnderLemmas.{is_some, some-more}

-- ---- lists of lists

pub map-flat : {A B C : Type 0} (f : B → C) (g : A → List B) (xs : List A) → map f (flat_map g xs) ≡ flat_map (λ x. map f (g x)) xs
map-flat f g [] = refl
map-flat f g (x ∷ xs) = map-append f (g x) (flat_map g xs) ∙ ap (λ z. map f (g x) ++ z) (map-flat f g xs)

pub filter-flat : {A B : Type 0} (p : B → Bool) (g : A → List B) (xs : List A) → filter p (flat_map g xs) ≡ flat_map (λ x. filter p (g x)) xs
filter-flat p g [] = refl
filter-flat p g (x ∷ xs) = filter-append p (g x) (flat_map g xs) ∙ ap (λ z. filter p (g x) ++ z) (filter-flat p g xs)

-- ---- records by their ids

pub out-id : (r : Outgoing) → (out_item r).id ≡ out_id r
out-id (outgoing.Open x) = refl
out-id (outgoing.Done id count) = refl
out-id (outgoing.Failed id count) = refl

pub in-id : (r : Incoming) → (in_item r).id ≡ in_id r
in-id (incoming.Fetching f) = refl
in-id (incoming.Draining f) = refl
in-id (incoming.Asking q) = refl
in-id (incoming.Done id anchor count) = refl
in-id (incoming.Failed id anchor count) = refl

-- the sides of a task
abbrev pub outs : Task → List Side
outs t = outs_named t.name t.sending

abbrev pub ins : Task → List Side
ins t = ins_named t.name t.taking

pub find-in : (name : Text) (id : ℕ) (rs : List Incoming)
    → find (has_id id) (map (λ r. let s : Side = (name, in_item r) in s) rs) ≡ option_map (λ r. let s : Side = (name, in_item r) in s)
    (find (λ r. in_id r == id) rs)
find-in name id [] = refl
find-in name id (r ∷ rs) = go (in_id r == id) refl (find-in name id rs)
  where
    go : (b : Bool) → (in_id r == id) ≡ b
        → find (has_id id) (map (λ q. let s : Side = (name, in_item q) in s) rs) ≡ option_map (λ q. let s : Side = (name, in_item q) in s)
        (find (λ q. in_id q == id) rs)
        → find (has_id id) (map (λ q. let s : Side = (name, in_item q) in s) (r ∷ rs)) ≡ option_map (λ q. let s : Side = (name, in_item q) in s)
        (find (λ q. in_id q == id) (r ∷ rs))
    go true e rest = let k : ((in_item r).id == id) ≡ true = ap (λ n. n == id) (in-id r) ∙ e in rw (e, k) refl
    go false e rest = let k : ((in_item r).id == id) ≡ false = ap (λ n. n == id) (in-id r) ∙ e in rw (e, k) rest

pub any-out : (name : Text) (id : ℕ) (rs : List Outgoing)
    → list_any (has_id id) (map (λ r. let s : Side = (name, out_item r) in s) rs) ≡ list_any (λ r. out_id r == id) rs
any-out name id [] = refl
any-out name id (r ∷ rs) = ap₂ (λ a b. a || b) (ap (λ n. n == id) (out-id r)) (any-out name id rs)

-- ---- where the walk over the tasks is at a task

module _ (id : ℕ) (t : Task) (ts : List Task) where
  pub side-here : (r : Incoming) → find (λ q. in_id q == id) t.taking ≡ Some r → find (has_id id) (flat_map ins (t ∷ ts)) ≡ Some (t.name, in_item r)
  side-here r e =
      find-append (has_id id) (ins t) (flat_map ins ts)
      ∙ rw (find-in t.name id t.taking, e) refl

  pub side-past : find (λ q. in_id q == id) t.taking ≡ None → find (has_id id) (flat_map ins (t ∷ ts)) ≡ find (has_id id) (flat_map ins ts)
  side-past e =
      find-append (has_id id) (ins t) (flat_map ins ts)
      ∙ rw (find-in t.name id t.taking, e) refl

  pub side-told : (y : RecordItem) → Some y ≡ option_map in_item (find (λ q. in_id q == id) t.taking)
      → find (has_id id) (flat_map ins (t ∷ ts)) ≡ Some (t.name, y)
  side-told y e = go (find (λ q. in_id q == id) t.taking) refl e
    where
      go : (o : Option Incoming) → find (λ q. in_id q == id) t.taking ≡ o → Some y ≡ option_map in_item o
          → find (has_id id) (flat_map ins (t ∷ ts)) ≡ Some (t.name, y)
      go None k e = absurd (cc)
      go (Some r) k e = let same : y ≡ in_item r = cc in side-here r k ∙ ap (λ z. let s : Side = (t.name, z) in Some s) (sym same)

  pub side-untold : None ≡ option_map in_item (find (λ q. in_id q == id) t.taking)
      → find (has_id id) (flat_map ins (t ∷ ts)) ≡ find (has_id id) (flat_map ins ts)
  side-untold e = go (find (λ q. in_id q == id) t.taking) refl e
    where
      go : (o : Option Incoming) → find (λ q. in_id q == id) t.taking ≡ o → None ≡ option_map in_item o
          → find (has_id id) (flat_map ins (t ∷ ts)) ≡ find (has_id id) (flat_map ins ts)
      go None k e = side-past k
      go (Some r) k e = absurd (cc)

  pub out-step : (b : Bool) → list_any (λ q. out_id q == id) t.sending ≡ b
      → list_any (has_id id) (flat_map outs (t ∷ ts)) ≡ (b || list_any (has_id id) (flat_map outs ts))
  out-step b e =
      list_any-append (has_id id) (outs t) (flat_map outs ts)
      ∙ ap (λ z. z || list_any (has_id id) (flat_map outs ts)) (any-out t.name id t.sending ∙ e)

-- ---- whether there are any

abbrev pub are_some : {A B : Type 0} → List A → List B → Bool
are_some xs ys = not (length xs == 0) || not (length ys == 0)

nonempty : {A : Type 0} (x : A) (xs : List A) → (length (x ∷ xs) == 0) ≡ false
nonempty x xs = ne_eqb (length (x ∷ xs)) 0 (λ q. omega (arith, q))

or_true : (b : Bool) → (b || true) ≡ true
or_true true = refl
or_true false = refl

some-left : {A B : Type 0} (x : A) (xs : List A) (ys : List B) → are_some (x ∷ xs) ys ≡ true
some-left x xs ys = ap (λ z. not z || not (length ys == 0)) (nonempty x xs)

some-right : {A B : Type 0} (xs : List A) (y : B) (ys : List B) → are_some xs (y ∷ ys) ≡ true
some-right xs y ys = ap (λ z. not (length xs == 0) || not z) (nonempty y ys) ∙ or_true (not (length xs == 0))

pub some-here : (t : Task) (ts : List Task) → are_some t.sending t.taking ≡ true → are_some (flat_map outs (t ∷ ts)) (flat_map ins (t ∷ ts)) ≡ true
some-here t ts e = go t.sending t.taking e
  where
    go : (a : List Outgoing) (b : List Incoming) → are_some a b ≡ true
        → are_some (map (λ r. (t.name, out_item r)) a ++ flat_map outs ts) (map (λ r. (t.name, in_item r)) b ++ flat_map ins ts) ≡ true
    go [] [] e = absurd (cc)
    go (r ∷ rs) b e =
        some-left (t.name, out_item r) (map (λ q. (t.name, out_item q)) rs ++ flat_map outs ts) (map (λ q. (t.name, in_item q)) b ++ flat_map ins ts)
    go [] (r ∷ rs) e = some-right (flat_map outs ts) (t.name, in_item r) (map (λ q. (t.name, in_item q)) rs ++ flat_map ins ts)

pub some-past : (t : Task) (ts : List Task) → are_some t.sending t.taking ≡ false
    → are_some (flat_map outs (t ∷ ts)) (flat_map ins (t ∷ ts)) ≡ are_some (flat_map outs ts) (flat_map ins ts)
some-past t ts e = go t.sending t.taking e
  where
    go : (a : List Outgoing) (b : List Incoming) → are_some a b ≡ false
        → are_some (map (λ r. (t.name, out_item r)) a ++ flat_map outs ts) (map (λ r. (t.name, in_item r)) b ++ flat_map ins ts) ≡ are_some
        (flat_map outs ts) (flat_map ins ts)
    go [] [] e = refl
    go (r ∷ rs) b e = let k : false ≡ true = sym e ∙ some-left r rs b in absurd (cc)
    go [] (r ∷ rs) e = let k : false ≡ true = sym e ∙ some-right (let no : List Outgoing = [] in no) r rs in absurd (cc)

pub sides-some : (out in_ : List Side) → are_some out in_ ≡ is_some (transfers_of out in_)
sides-some [] [] = refl
sides-some (s ∷ out) in_ =
    ap (λ z. z || is_some in_) (some-more s out)
    ∙ sym (some-more (goes_out in_ s) (map (goes_out in_) out ++ map comes_alone (alone_among (s ∷ out) in_)))
sides-some [] (s ∷ in_) = some-more s in_ ∙ sym (some-more (comes_alone s) (map comes_alone (alone_among [] in_)))

-- ---- how transfers are shown

module _ (element : Transfer → List ℕ) where
  -- task by task
  pub outs-flat : (in_ : List Side) (ts : List Task)
      → flat_map element (map (goes_out in_) (flat_map outs ts)) ≡ flat_map (λ t. flat_map element (map (goes_out in_) (outs t))) ts
  outs-flat in_ ts = ap (flat_map element) (map-flat (goes_out in_) outs ts) ∙ text-flat element (λ t. map (goes_out in_) (outs t)) ts

  pub ins-flat : (out : List Side) (ts : List Task)
      → flat_map element (map comes_alone (alone_among out (flat_map ins ts))) ≡ flat_map (λ t. flat_map element (map comes_alone (alone_among out (ins t)))) ts
  ins-flat out ts =
      ap (λ z. flat_map element (map comes_alone z)) (filter-flat (λ (s : Side). not (list_any (has_id s.1.id) out)) ins ts)
      ∙ (ap (flat_map element) (map-flat comes_alone (λ t. alone_among out (ins t)) ts)
      ∙ text-flat element (λ t. map comes_alone (alone_among out (ins t))) ts)

  -- one whose transfer goes out isn't shown by itself
  module _ (out : List Side) (name : Text) (r : Incoming) where
    pub alone-none : list_any (has_id (in_id r)) out ≡ true → flat_map element (map comes_alone (alone_among out ((name, in_item r) ∷ []))) ≡ []
    alone-none e = let k : list_any (has_id (in_item r).id) out ≡ true = ap (λ n. list_any (has_id n) out) (in-id r) ∙ e in rw k refl

    pub alone-one : list_any (has_id (in_id r)) out ≡ false
        → flat_map element (map comes_alone (alone_among out ((name, in_item r) ∷ []))) ≡ element (comes_alone (name, in_item r))
    alone-one e =
        let k : list_any (has_id (in_item r).id) out ≡ false = ap (λ n. list_any (has_id n) out) (in-id r) ∙ e in
        rw k (append-nil (element (comes_alone (name, in_item r))))
