-- Buffers with the bytes that were moved there, and the records that they are of: what each edit of a slot and of records leaves.
use Rattle.rh_laws.proofs.Common.{◌≡◌, ◌≢◌, ℕ, true, false, List, [], ◌∷◌, Option, Some, None, sym, ap, ◌∙◌, inl, inr, Incoming, Taking, eqb_tells}
use Rattle.rh_laws.proofs.Common.{in_id, with_id, at_place, Has, none_some, put_other, put_same, Same, is_buffer_of, list_any}
use Rattle.rh_defs.specs.declared.transfer.Incoming.TheVariants as incoming
use Rattle.rh_defs.specs.Records.{is_going, one_more}
use Rattle.rh_safety.proofs.Basics.{any_none, more_old, with_old}

-- each record that fetches from a task with code of its own has just these bytes in its buffer
pub record Filled (g : ℕ → List ℕ) (m : ℕ → Option (List ℕ)) (ws : List Incoming) : Type 0 where
  pub each : (f : Taking) → Has (incoming.Fetching f) ws → f.raw ≡ true → m f.buffer ≡ Some (g f.id)

-- no two of the records have one buffer
abbrev pub Apart : List Incoming → Type 0
Apart ws = (f k : Taking) → Has (incoming.Fetching f) ws → Has (incoming.Fetching k) ws → f.buffer ≡ k.buffer → f.id ≡ k.id

module _ {g : ℕ → List ℕ} {m : ℕ → Option (List ℕ)} {ws : List Incoming} (all : Filled g m ws) where
  -- the same buffers
  pub same-filled : {n : ℕ → Option (List ℕ)} → Same n m → Filled g n ws
  same-filled same = record { each = λ f has its. same f.buffer ∙ all.each f has its }

  -- fewer records that fetch
  pub fewer-filled : (vs : List Incoming) → ((f : Taking) → Has (incoming.Fetching f) vs → Has (incoming.Fetching f) ws) → Filled g m vs
  fewer-filled vs old = record { each = λ f has its. all.each f (old f has) its }

  -- another block, or none, at an address that is no such record's buffer
  pub away-filled : (a : ℕ) (v : Option (List ℕ)) → ((f : Taking) → Has (incoming.Fetching f) ws → f.raw ≡ true → f.buffer ≢ a) →
      Filled g (at_place m a v) ws
  away-filled a v away = record { each = λ f has its. put_other m a v f.buffer (away f has its) ∙ all.each f has its }

  -- where there was no block
  pub free-filled : (a : ℕ) (v : Option (List ℕ)) → m a ≡ None → Filled g (at_place m a v) ws
  free-filled a v free =
      away-filled a v (λ f has its same. none_some (m a) free (ap m (sym same) ∙ all.each f has its))

  -- where no record has its buffer
  pub idle-filled : (a : ℕ) (v : Option (List ℕ)) → list_any (is_buffer_of a) ws ≡ false → Filled g (at_place m a v) ws
  idle-filled a v idle =
      away-filled a v (λ f has its same. elim (eqb_tells f.buffer a) [
        | inl w ↦ let z : true ≡ false = sym w.0 ∙ any_none (is_buffer_of a) ws (incoming.Fetching f) idle has in absurd (cc)
        | inr w ↦ w.1 same
      ])

  -- a record written anew that doesn't fetch any more
  pub renewed-filled : (id : ℕ) (v : Incoming) → ((f : Taking) → v ≡ incoming.Fetching f → Has (incoming.Fetching f) ws) →
      Filled g m (with_id in_id id v ws)
  renewed-filled id v old = fewer-filled (with_id in_id id v ws) (λ f has. elim (with_old in_id id v ws (incoming.Fetching f) has) [
    | inl a ↦ a.0
    | inr a ↦ old f (sym a)
  ])

  -- one that fetches on, by its buffer
  pub going-filled : (f : Taking) (k : Taking) → Has (incoming.Fetching f) ws → k.id ≡ f.id → k.buffer ≡ f.buffer → k.raw ≡ f.raw →
      Filled g m (with_id in_id f.id (incoming.Fetching k) ws)
  going-filled f k has id buffer raw = record {
    each = λ j there its. elim (with_old in_id f.id (incoming.Fetching k) ws (incoming.Fetching j) there) [
      | inl a ↦ all.each j a.0 its
      | inr a ↦
          let same : j ≡ k = cc in
          ap (λ (y : Taking). m y.buffer) same ∙ ap m buffer ∙ all.each f has (sym raw ∙ ap (λ (y : Taking). y.raw) (sym same) ∙ its)
          ∙ ap (λ i. Some (g i)) (sym id ∙ ap (λ (y : Taking). y.id) (sym same))
    ];
  }

  -- one that ends, and its buffer with it
  pub ended-filled : (f : Taking) (v : Incoming) → ((k : Taking) → Has (incoming.Fetching k) ws → k.buffer ≡ f.buffer → k.id ≡ f.id) →
      ((k : Taking) → v ≡ incoming.Fetching k → ⊥) → Filled g (at_place m f.buffer None) (with_id in_id f.id v ws)
  ended-filled f v apart ended = record {
    each = λ k there its. elim (with_old in_id f.id v ws (incoming.Fetching k) there) [
      | inl a ↦ put_other m f.buffer None k.buffer (λ same. a.1 (apart k a.0 same)) ∙ all.each k a.0 its
      | inr a ↦ absurd (ended k (sym a))
    ];
  }

  -- one more, with a buffer where there was no block
  pub begun-filled : (f : Taking) (bytes : List ℕ) → m f.buffer ≡ None → ((w : Incoming) → Has w ws → in_id w ≢ f.id) →
      Filled (at_place g f.id bytes) (at_place m f.buffer (Some bytes)) (one_more is_going (incoming.Fetching f) ws)
  begun-filled f bytes free new = record {
    each = λ k there its. elim (more_old 8 is_going ws (incoming.Fetching f) (incoming.Fetching k) there) [
      | inl a ↦
          (free-filled f.buffer (Some bytes) free).each k a its
          ∙ ap (λ (v : List ℕ). Some v) (sym (put_other g f.id bytes k.id (new (incoming.Fetching k) a)))
      | inr a ↦
          let same : k ≡ f = cc in
          ap (λ (y : Taking). at_place m f.buffer (Some bytes) y.buffer) same ∙ put_same m f.buffer (Some bytes)
          ∙ ap (λ (v : List ℕ). Some v) (sym (ap (λ (y : Taking). at_place g f.id bytes y.id) same ∙ put_same g f.id bytes))
    ];
  }

  -- bytes written into a record's buffer
  pub written-filled : (f : Taking) (bytes : List ℕ) → ((k : Taking) → Has (incoming.Fetching k) ws → k.id ≡ f.id → k.buffer ≡ f.buffer) →
      ((k : Taking) → Has (incoming.Fetching k) ws → k.buffer ≡ f.buffer → k.id ≡ f.id) →
      Filled (at_place g f.id bytes) (at_place m f.buffer (Some bytes)) ws
  written-filled f bytes one apart = record {
    each = λ k has its. elim (eqb_tells k.id f.id) [
      | inl a ↦
          ap (at_place m f.buffer (Some bytes)) (one k has a.1) ∙ put_same m f.buffer (Some bytes)
          ∙ ap (λ (v : List ℕ). Some v) (sym (ap (at_place g f.id bytes) a.1 ∙ put_same g f.id bytes))
      | inr a ↦
          put_other m f.buffer (Some bytes) k.buffer (λ same. a.1 (apart k has same)) ∙ all.each k has its
          ∙ ap (λ (v : List ℕ). Some v) (sym (put_other g f.id bytes k.id a.1))
    ];
  }

-- no records, no buffers
pub none-filled : {g : ℕ → List ℕ} {m : ℕ → Option (List ℕ)} {ws : List Incoming} → ws ≡ [] → Filled g m ws
none-filled {ws = ws} none = record { each = λ f has its. absurd (gone ws none f has) }
  where
    gone : (ws : List Incoming) → ws ≡ [] → (f : Taking) → Has (incoming.Fetching f) ws → ⊥
    gone [] e f has = has
    gone (w ∷ ws) e f has = absurd cc
