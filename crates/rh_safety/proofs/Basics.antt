-- Maps with a place written anew, tests, and lists.
use Rattle.std.proofs.Common.{◌≡◌, ◌≢◌, ℕ, zero, suc, ◌+◌, ◌≤◌, ◌<◌, Bool, true, false, not, ◌&&◌, ◌||◌, List, []}
use Rattle.std.proofs.Common.{◌∷◌, ◌++◌, length, take, drop, Option, Some, None, refl, sym, ap, ◌∙◌, subst, ◌⊎◌, inl}
use Rattle.std.proofs.Common.{inr, arith, length-append, length-take, length-drop}
use Rattle.std.specs.Prelude.{if◌then◌else◌, nat_eq, nat_le, ◌||◌, slice_index_or}
use Rattle.std.proofs.lemmas.Bool.Decides.{eqb_tells, leb_tells}
use Rattle.std.proofs.lemmas.List.{take-append-drop, drop-take, take-take}
use Rattle.std.proofs.Math.Seq.{take-append_seam}
use Rattle.std.specs.List.{Contains}
use Rattle.std.specs.Io.{StartsWith}
use Rattle.std.specs.Option.{option_map}
use Rattle.rh_safety.proofs.Ends.{IsPrefixOf, how_many, Message, Sending, Taking, Asked, Out, Open, Out_done}
use Rattle.rh_safety.proofs.Ends.{Active, Out_failed, In, Fetching, Draining, Asking, In_done, In_failed, Has, Pairwise, put}
use Rattle.rh_safety.proofs.Ends.{any, first, drop_first, one_more, with_id, find_open, find_active, find_asking, first_for, without_first}

-- what holds of the new value and of the old ones elsewhere holds everywhere
pub put_all : {A : Type 0} (P : ℕ → A → Type 0) (f : ℕ → A) (h : ℕ) (x : A) → P h x → ((k : ℕ) → k ≢ h → P k (f k)) →
    (k : ℕ) → P k (put f h x k)
put_all P f h x here there k =
    elim (eqb_tells k h) [ inl w ↦ rw w.0 (subst (λ j. P j x) (sym w.1) here) | inr w ↦ rw w.0 (there k w.1) ]

pub put_same : {A : Type 0} (f : ℕ → A) (h : ℕ) (x : A) → put f h x h ≡ x
put_same f h x = put_all (λ k v. k ≡ h → v ≡ x) f h x (λ e. refl) (λ k ne e. absurd (ne e)) h refl

pub put_other : {A : Type 0} (f : ℕ → A) (h : ℕ) (x : A) (k : ℕ) → k ≢ h → put f h x k ≡ f k
put_other f h x k ne = put_all (λ j v. j ≢ h → v ≡ f j) f h x (λ n. absurd (n refl)) (λ j n m. refl) k ne

-- tests
pub and_left : (a b : Bool) → (a && b) ≡ true → a ≡ true
and_left true b h = refl
and_left false b h = h

pub and_right : (a b : Bool) → (a && b) ≡ true → b ≡ true
and_right true b h = h
and_right false b h = absurd (cc)

pub not_true : (a : Bool) → not a ≡ true → a ≡ false
not_true true h = absurd (cc)
not_true false h = refl

pub is_equal : (a b : ℕ) → nat_eq a b ≡ true → a ≡ b
is_equal a b h = elim (eqb_tells a b) [ inl w ↦ w.1 | inr w ↦ absurd (let e = w.0 in (cc)) ]

pub not_equal : (a b : ℕ) → nat_eq a b ≡ false → a ≢ b
not_equal a b h = elim (eqb_tells a b) [ inl w ↦ absurd (let e = w.0 in (cc)) | inr w ↦ w.1 ]

pub none_some : {A : Type 0} {x : A} (o : Option A) → o ≡ None → o ≡ Some x → ⊥
none_some o p q = cc

pub same_value : {A : Type 0} {x y : A} (o : Option A) → o ≡ Some x → o ≡ Some y → x ≡ y
same_value o p q = cc

pub or_left : (a b : Bool) → (a || b) ≡ false → a ≡ false
or_left true b q = q
or_left false b q = refl

pub or_right : (a b : Bool) → (a || b) ≡ false → b ≡ false
or_right true b q = absurd (cc)
or_right false b q = q

-- lists

pub Has-append : {A : Type 0} (m : A) (xs ys : List A) → Has m (xs ++ ys) → Has m xs ⊎ Has m ys
Has-append m [] ys h = inr h
Has-append m (x ∷ xs) ys (inl e) = inl (inl e)
Has-append m (x ∷ xs) ys (inr h) = elim (Has-append m xs ys h) [ inl a ↦ inl (inr a) | inr b ↦ inr b ]

pub Has-left : {A : Type 0} (m : A) (xs ys : List A) → Has m xs → Has m (xs ++ ys)
Has-left m [] ys h = absurd h
Has-left m (x ∷ xs) ys (inl e) = inl e
Has-left m (x ∷ xs) ys (inr h) = inr (Has-left m xs ys h)

pub Has-right : {A : Type 0} (m : A) (xs ys : List A) → Has m ys → Has m (xs ++ ys)
Has-right m [] ys h = h
Has-right m (x ∷ xs) ys h = inr (Has-right m xs ys h)

pub is_either : (b : Bool) → (b ≡ true) ⊎ (b ≡ false)
is_either true = inl refl
is_either false = inr refl

-- what holds of one of two choices holds of the choice
pub either : {A : Type 0} (P : A → Type 0) (b : Bool) (x y : A) → (b ≡ true → P x) → (b ≡ false → P y) →
    P (if b then x else y)
either P true x y f g = f refl
either P false x y f g = g refl

pub any_none : {A : Type 0} (p : A → Bool) (xs : List A) (x : A) → any p xs ≡ false → Has x xs → p x ≡ false
any_none p [] x q h = absurd h
any_none p (y ∷ xs) x q (inl e) = ap p (sym e) ∙ or_left (p y) _ q
any_none p (y ∷ xs) x q (inr h) = any_none p xs x (or_right (p y) _ q) h

-- with one record written anew
pub with_old : {A : Type 0} (f : A → ℕ) (i : ℕ) (v : A) (xs : List A) (y : A) → Has y (with_id f i v xs) →
    (Has y xs × (f y ≢ i)) ⊎ (y ≡ v)
with_old f i v [] y h = absurd h
with_old f i v (x ∷ xs) y (inl e) = elim (eqb_tells (f x) i) [
  | inl w ↦ inr (let z : v ≡ y = rw w.0 at e in sym z)
  | inr w ↦ let z : x ≡ y = rw w.0 at e in inl (inl z, λ q. w.1 (ap f z ∙ q))
]
with_old f i v (x ∷ xs) y (inr h) = elim (with_old f i v xs y h) [ inl a ↦ inl (inr a.0, a.1) | inr b ↦ inr b ]

pub with_keeps : {A : Type 0} (f : A → ℕ) (i : ℕ) (v : A) (xs : List A) (y : A) → Has y xs → f y ≢ i →
    Has y (with_id f i v xs)
with_keeps f i v [] y h ne = absurd h
with_keeps f i v (x ∷ xs) y (inl e) ne = elim (eqb_tells (f x) i) [
  | inl w ↦ absurd (ne (ap f (sym e) ∙ w.1))
  | inr w ↦ inl (rw w.0 e)
]
with_keeps f i v (x ∷ xs) y (inr h) ne = inr (with_keeps f i v xs y h ne)

pub with_puts : {A : Type 0} (f : A → ℕ) (i : ℕ) (v : A) (xs : List A) (y : A) → Has y xs → f y ≡ i →
    Has v (with_id f i v xs)
with_puts f i v [] y h q = absurd h
with_puts f i v (x ∷ xs) y (inl e) q = elim (eqb_tells (f x) i) [
  | inl w ↦ inl (rw w.0 refl)
  | inr w ↦ absurd
      (w.1 (ap f e ∙ q))
]
with_puts f i v (x ∷ xs) y (inr h) q = inr (with_puts f i v xs y h q)

-- with one record gone
pub drop_old : {A : Type 0} (keep : A → Bool) (xs : List A) (y : A) → Has y (drop_first keep xs) → Has y xs
drop_old keep [] y h = h
drop_old keep (x ∷ xs) y h =
    either (λ z. Has y z → Has y (x ∷ xs)) (keep x) (x ∷ drop_first keep xs) xs (λ b k. elim k [
      | inl e ↦ inl e
      | inr
          j ↦ inr (drop_old keep xs y j)
    ]) (λ b k. inr k) h

pub drop_keeps : {A : Type 0} (keep : A → Bool) (xs : List A) (y : A) → Has y xs → keep y ≡ true →
    Has y (drop_first keep xs)
drop_keeps keep [] y h q = h
drop_keeps keep (x ∷ xs) y (inl e) q = let z : keep x ≡ true = ap keep e ∙ q in rw z (inl e)
drop_keeps keep (x ∷ xs) y (inr h) q = either (λ z. Has y z) (keep x) (x ∷ drop_first keep xs) xs (λ b.
    inr (drop_keeps keep xs y h q)) (λ b. h)

-- with one more record
pub more_old : {A : Type 0} (most : ℕ) (keep : A → Bool) (xs : List A) (v y : A) → Has y (one_more most keep xs v) →
    Has y xs ⊎ (y ≡ v)
more_old most keep xs v y h =
    elim (Has-append y (if nat_le most (length xs) then drop_first keep xs else xs) (v ∷ []) h) [
      | inl a ↦ inl (either (λ z. Has y z → Has y xs) (nat_le most (length xs)) (drop_first keep xs) xs (λ b k.
          drop_old keep xs y k) (λ b k. k) a)
      | inr a ↦ elim a [ inl e ↦ inr (sym e) | inr e ↦ absurd e ]
    ]

pub more_keeps : {A : Type 0} (most : ℕ) (keep : A → Bool) (xs : List A) (v y : A) → Has y xs → keep y ≡ true →
    Has y (one_more most keep xs v)
more_keeps most keep xs v y h q =
    Has-left y (if nat_le most (length xs) then drop_first keep xs else xs) (v ∷ [])
    (either (λ z. Has y z) (nat_le most (length xs)) (drop_first keep xs) xs (λ b. drop_keeps keep xs y h q) (λ b. h))

pub more_puts : {A : Type 0} (most : ℕ) (keep : A → Bool) (xs : List A) (v : A) → Has v (one_more most keep xs v)
more_puts most keep xs v = Has-right v (if nat_le most (length xs) then drop_first keep xs else xs) (v ∷ []) (inl refl)

-- what was found
pub first_is : {A : Type 0} (p : A → Bool) (xs : List A) (x : A) → first p xs ≡ Some x → Has x xs × (p x ≡ true)
first_is p [] x q = absurd (none_some None refl q)
first_is p (y ∷ xs) x q =
    either (λ z. z ≡ Some x → Has x (y ∷ xs) × (p x ≡ true)) (p y) (Some y) (first p xs)
    (λ r s. let z : y ≡ x = cc in (inl z, ap p (sym z) ∙ r)) (λ r s. let w = first_is p xs x s in (inr w.0, w.1)) q

-- nothing that passes is there, where none was found
first_none : {A : Type 0} (p : A → Bool) (xs : List A) (x : A) → first p xs ≡ None → Has x xs → p x ≡ false
first_none p [] x q has = absurd has
first_none p (y ∷ xs) x q has =
    either (λ z. z ≡ None → p x ≡ false) (p y) (Some y) (first p xs) (λ r s. absurd (none_some None refl (sym s)))
    (λ r s. elim has as (λ _. p x ≡ false) [ inl e ↦ ap p (sym e) ∙ r | inr k ↦ first_none p xs x s k ]) q

-- the three ways to look for a record, as the first that passes a test
abbrev opens : (Sending → Bool) → Out → Bool
opens p (Open x) = p x
opens p v = false

abbrev buffers : (Taking → Bool) → In → Bool
buffers p (Fetching f) = p f
buffers p (Draining f) = p f
buffers p w = false

abbrev asks : (Asked → Bool) → In → Bool
asks p (Asking q) = p q
asks p w = false

open_first : (p : Sending → Bool) (vs : List Out) → option_map Open (find_open p vs) ≡ first (opens p) vs
open_first p [] = refl
open_first p (Open y ∷ vs) = elim (p y) as (λ b. option_map Open (if b then Some y else find_open p vs) ≡
    (if b then Some (Open y) else first (opens p) vs)) [ true ↦ refl | false ↦ open_first p vs ]
open_first p (Out_done i n ∷ vs) = open_first p vs
open_first p (Out_failed i n ∷ vs) = open_first p vs

active_first : (p : Taking → Bool) (ws : List In) → find_active p ws ≡ first (buffers p) ws
active_first p [] = refl
active_first p (Fetching y ∷ ws) = ap (λ (o : Option In). if p y then Some (Fetching y) else o) (active_first p ws)
active_first p (Draining y ∷ ws) = ap (λ (o : Option In). if p y then Some (Draining y) else o) (active_first p ws)
active_first p (Asking y ∷ ws) = active_first p ws
active_first p (In_done i a n ∷ ws) = active_first p ws
active_first p (In_failed i a n ∷ ws) = active_first p ws

asking_first : (p : Asked → Bool) (ws : List In) → option_map Asking (find_asking p ws) ≡ first (asks p) ws
asking_first p [] = refl
asking_first p (Asking y ∷ ws) = elim (p y) as (λ b. option_map Asking (if b then Some y else find_asking p ws) ≡
    (if b then Some (Asking y) else first (asks p) ws)) [ true ↦ refl | false ↦ asking_first p ws ]
asking_first p (Fetching y ∷ ws) = asking_first p ws
asking_first p (Draining y ∷ ws) = asking_first p ws
asking_first p (In_done i a n ∷ ws) = asking_first p ws
asking_first p (In_failed i a n ∷ ws) = asking_first p ws

pub open_is : (p : Sending → Bool) (vs : List Out) (x : Sending) → find_open p vs ≡ Some x → Has (Open x) vs × (p x ≡ true)
open_is p vs x q = first_is (opens p) vs (Open x) (sym (open_first p vs) ∙ ap (option_map Open) q)

pub open_none : (p : Sending → Bool) (vs : List Out) (x : Sending) → find_open p vs ≡ None → Has (Open x) vs → p x ≡ false
open_none p vs x q has = first_none (opens p) vs (Open x) (sym (open_first p vs) ∙ ap (option_map Open) q) has

pub asking_is : (p : Asked → Bool) (ws : List In) (x : Asked) → find_asking p ws ≡ Some x → Has (Asking x) ws × (p x ≡ true)
asking_is p ws x q = first_is (asks p) ws (Asking x) (sym (asking_first p ws) ∙ ap (option_map Asking) q)

pub asking_none : (p : Asked → Bool) (ws : List In) (x : Asked) → find_asking p ws ≡ None → Has (Asking x) ws → p x ≡ false
asking_none p ws x q has = first_none (asks p) ws (Asking x) (sym (asking_first p ws) ∙ ap (option_map Asking) q) has

-- a record that holds a buffer and meets the test
pub data FoundActive (p : Taking → Bool) (ws : List In) : In → Type 0 where
  fetches : (t : Taking) → Has (Fetching t) ws → p t ≡ true → FoundActive p ws (Fetching t)
  drains : (t : Taking) → Has (Draining t) ws → p t ≡ true → FoundActive p ws (Draining t)

pub active_is : (p : Taking → Bool) (ws : List In) (w : In) → find_active p ws ≡ Some w → FoundActive p ws w
active_is p ws w q = let z = first_is (buffers p) ws w (sym (active_first p ws) ∙ q) in by w z.0 z.1
  where
    by : (w : In) → Has w ws → buffers p w ≡ true → FoundActive p ws w
    by (Fetching y) has e = fetches y has e
    by (Draining y) has e = drains y has e
    by _ has e = absurd cc

pub active_none : (p : Taking → Bool) (ws : List In) (f : Taking) → find_active p ws ≡ None → Active ws f → p f ≡ false
active_none p ws f q (inl has) = first_none (buffers p) ws (Fetching f) (sym (active_first p ws) ∙ q) has
active_none p ws f q (inr has) = first_none (buffers p) ws (Draining f) (sym (active_first p ws) ∙ q) has

-- pairs of a list
pub pair_append : {A : Type 0} (R : A → A → Type 0) (xs ys : List A) → Pairwise R xs → Pairwise R ys →
    ((x y : A) → Has x xs → Has y ys → R x y) → Pairwise R (xs ++ ys)
pair_append R [] ys p q f = q
pair_append R (x ∷ xs) ys p q f = (
  λ y h. elim (Has-append y xs ys h) [
    | inl a ↦ p.0 y a
    | inr b ↦ f x y (inl refl)
        b
  ],
  pair_append R xs ys p.1 q (λ a b h k. f a b (inr h) k),
)

-- how long a list is

pub length_with : {A : Type 0} (f : A → ℕ) (i : ℕ) (v : A) (xs : List A) → length (with_id f i v xs) ≡ length xs
length_with f i v [] = refl
length_with f i v (x ∷ xs) = ap suc (length_with f i v xs)

drop_shorter : {A : Type 0} (keep : A → Bool) (xs : List A) → how_many keep xs < length xs →
    length (drop_first keep xs) + 1 ≡ length xs
drop_shorter keep [] lt = absurd (omega arith)
drop_shorter keep (x ∷ xs) lt =
    elim (is_either (keep x)) [
      | inl w ↦ let r = drop_shorter keep xs (let z : how_many keep xs + 1 < suc (length xs) = rw w at lt in
          omega arith) in rw w (omega arith)
      | inr w ↦ rw w (omega arith)
    ]

pub length_more : {A : Type 0} (most : ℕ) (keep : A → Bool) (xs : List A) (v : A) → how_many keep xs < most →
    length xs ≤ most → length (one_more most keep xs v) ≤ most
length_more most keep xs v lt le =
    elim (leb_tells most (length xs)) [
      | inl w ↦ let r = drop_shorter keep xs (let z = w.1 in omega arith) in rw w.0 (simp length-append (omega arith))
      | inr w ↦ let z = w.1 in rw w.0 (simp length-append (omega arith))
    ]

-- records in the order of ids
abbrev pub Ascend : {A : Type 0} → (A → ℕ) → List A → Type 0
Ascend f xs = Pairwise (λ x y. f x < f y) xs

pub one_of_id : {A : Type 0} (f : A → ℕ) (xs : List A) (x y : A) → Ascend f xs → Has x xs → Has y xs → f x ≡ f y → x ≡ y
one_of_id f [] x y p h k e = absurd h
one_of_id f (z ∷ xs) x y p (inl a) (inl b) e = sym a ∙ b
one_of_id f (z ∷ xs) x y p (inl a) (inr k) e = let u = p.0 y k in let v : f z ≡ f x = ap f a in absurd (omega arith)
one_of_id f (z ∷ xs) x y p (inr h) (inl b) e = let u = p.0 x h in let v : f z ≡ f y = ap f b in absurd (omega arith)
one_of_id f (z ∷ xs) x y p (inr h) (inr k) e = one_of_id f xs x y p.1 h k e

with_after : {A : Type 0} (f : A → ℕ) (n i : ℕ) (v : A) (xs : List A) → f v ≡ i → ((y : A) → Has y xs → n < f y) →
    (y : A) → Has y (with_id f i v xs) → n < f y
with_after f n i v [] e g y h = absurd h
with_after f n i v (x ∷ xs) e g y (inl q) = elim (eqb_tells (f x) i) [
  | inl w ↦ let z : v ≡ y = rw w.0 at q in let u = g x (inl refl) in let a = w.1 in let b : f v ≡ f y = ap f z in
      omega arith
  | inr w ↦ let z : x ≡ y = rw w.0 at q in g y (inl z)
]
with_after f n i v (x ∷ xs) e g y (inr h) = with_after f n i v xs e (λ z k. g z (inr k)) y h

pub with_ascends : {A : Type 0} (f : A → ℕ) (i : ℕ) (v : A) (xs : List A) → f v ≡ i → Ascend f xs →
    Ascend f (with_id f i v xs)
with_ascends f i v [] e p = p
with_ascends f i v (x ∷ xs) e p =
    let same : f (if nat_eq (f x) i then v else x) ≡ f x = elim (eqb_tells (f x) i) [
      | inl w ↦ rw w.0 (e ∙ sym w.1)
      | inr w ↦ rw w.0 refl
    ] in
    (λ y h. let u = with_after f (f x) i v xs e p.0 y h in omega arith, with_ascends f i v xs e p.1)

drop_ascends : {A : Type 0} (f : A → ℕ) (keep : A → Bool) (xs : List A) → Ascend f xs → Ascend f (drop_first keep xs)
drop_ascends f keep [] p = p
drop_ascends f keep (x ∷ xs) p = either (λ z. Ascend f z) (keep x) (x ∷ drop_first keep xs) xs (λ b.
    (λ y h. p.0 y (drop_old keep xs y h), drop_ascends f keep xs p.1)) (λ b. p.1)

pub more_ascends : {A : Type 0} (f : A → ℕ) (most : ℕ) (keep : A → Bool) (xs : List A) (v : A) → Ascend f xs →
    ((x : A) → Has x xs → f x < f v) → Ascend f (one_more most keep xs v)
more_ascends f most keep xs v p g =
    pair_append (λ x y. f x < f y) (if nat_le most (length xs) then drop_first keep xs else xs) (v ∷ [])
    (either (λ z. Ascend f z) (nat_le most (length xs)) (drop_first keep xs) xs (λ b. drop_ascends f keep xs p) (λ b.
    p))
    (λ y h. absurd h, tt)
    (λ x y h k. elim k [
      | inl e ↦ let u = g x (either (λ z. Has x z → Has x xs) (nat_le most (length xs)) (drop_first keep xs) xs
          (λ b j. drop_old keep xs x j) (λ b j. j) h) in let z : f v ≡ f y = ap f e in omega arith
      | inr e ↦ absurd e
    ])

-- the queue
pub first_has : (h : ℕ) (q : List Message) (m : Message) → first_for h q ≡ Some m → Has m q × (m.to ≡ h)
first_has h [] m e = absurd (cc)
first_has h (x ∷ q) m e =
    elim (eqb_tells x.to h) [
      | inl w ↦ let s : x ≡ m = let z = rw w.0 at e in cc in (inl s, subst (λ (y : Message). y.to ≡ h) s w.1)
      | inr w ↦ let r = first_has h q m (rw w.0 at e) in (inr r.0, r.1)
    ]

pub without_has : (h : ℕ) (q : List Message) (m : Message) → Has m (without_first h q) → Has m q
without_has h [] m e = e
without_has h (x ∷ q) m e =
    elim (eqb_tells x.to h) [
      | inl w ↦ inr (rw w.0 at e)
      | inr w ↦ elim (let z : Has m (x ∷ without_first h q) = rw w.0 at e in z) [
        | inl s ↦ inl s
        | inr r ↦ inr
            (without_has h q m r)
      ]
    ]

-- bytes
pub take_more : (k n : ℕ) (xs : List ℕ) → take (k + n) xs ≡ take k xs ++ take n (drop k xs)
take_more k n xs = grind (arith, take-append-drop k (take (k + n) xs), drop-take k n xs, take-take k (k + n) xs)

pub length_take : (n : ℕ) (xs : List ℕ) → n ≤ length xs → length (take n xs) ≡ n
length_take n xs h = simp length-take (omega arith)

-- what a write of n bytes to the front leaves there
pub front_written : (n : ℕ) (new old : List ℕ) → length new ≡ n → take n (new ++ drop n old) ≡ new
front_written n new old e = subst (λ k. take k (new ++ drop n old) ≡ new) e (take-append_seam new (drop n old))

pub length_written : (n : ℕ) (new old : List ℕ) → length new ≡ n → n ≤ length old →
    length (new ++ drop n old) ≡ length old
length_written n new old e h = simp (length-append, length-drop) (omega arith)

-- ---- members and fronts, in the library's words

pub has_of : {A : Type 0} (xs : List A) (x : A) → Contains xs x → Has x xs
has_of [] x c = absurd (let l = c.1 in omega arith)
has_of (y ∷ ys) x c = go c.0 c.1 c.2 (has_of ys x)
  where
    go : (k : ℕ) → k < length (y ∷ ys) → slice_index_or (y ∷ ys) k x ≡ x → (Contains ys x → Has x ys) →
        (y ≡ x) ⊎ Has x ys
    go zero l e rest = inl e
    go (suc k) l e rest = inr (rest (k, omega arith, e))

pub contains_of : {A : Type 0} (xs : List A) (x : A) → Has x xs → Contains xs x
contains_of [] x q = absurd q
contains_of (y ∷ ys) x q = elim q as (λ _. Contains (y ∷ ys) x) [
  | inl e ↦ (zero, omega arith, e)
  | inr r ↦ let c = contains_of ys x r in (suc c.0, (let l = c.1 in omega arith), c.2)
]

pub front_of : (xs ys : List ℕ) → IsPrefixOf xs ys → StartsWith ys xs
front_of xs ys p = subst (λ zs. take (length xs) zs ≡ xs) p.1 (take-append_seam xs p.0)
