-- The post stays where blocks of others come and go.
use Rattle.rh_wimp.proofs.Common.{◌≡◌, ℕ, ◌<◌, ◌≢◌, inl, inr, length, sym, subst, ◌∙◌, cases_eq, List, [], ◌∷◌, Ok, Parcel, Heap, release_block, module_claim}
use Rattle.rh_wimp.proofs.Common.{block_bytes, SameShape, Post, AllLie, Chains, ArePostChains, Off, entry_at, row_at, rows_of, row_parcels, release-frees}
use Rattle.rh_wimp.proofs.Common.{module_claim-puts, module_claim-alike, release-alike}
use Rattle.rh_wimp.proofs.RowLaws.{agree-off, row-kept, row-fresh}
use Rattle.rh_wimp.proofs.SendLaws.{alike-ok}

-- the messages' blocks stay where but two others change
AllLie-but : (d k : Heap) (x y : ℕ) (ps : List Parcel) → ((b : ℕ) → b ≢ x → b ≢ y → block_bytes b k ≡ block_bytes b d) → Off x ps → Off y ps → AllLie d ps
    → AllLie k ps
AllLie-but d k x y [] s o r a = tt
AllLie-but d k x y (p ∷ ps) s o r a = (s p.block o.0 r.0 ∙ a.0, AllLie-but d k x y ps s o.1 r.1 a.1)

-- no message lies in the block
abbrev pub IsOff : ℕ → Post → Type 0
IsOff a post = (j : ℕ) → j < length (rows_of post) → Off a (row_parcels (row_at (rows_of post) j))

-- two blocks that hold no message change, in both heaps alike
module _ (h k : Heap) (q : Chains) (post : Post) (d : Heap) (x y : ℕ) where
  pub blocks-changed : ArePostChains h q post → IsOff x post → IsOff y post → SameShape k d
      → ((b : ℕ) → b ≢ x → b ≢ y → block_bytes b k ≡ block_bytes b h) → ((b : ℕ) → b ≢ x → b ≢ y → block_bytes b d ≡ block_bytes b post.heap)
      → block_bytes x k ≡ block_bytes x d → block_bytes y k ≡ block_bytes y d → ArePostChains k q (record post { heap = d })
  blocks-changed s off off' shape keeps keeps' same same' = record {
    rows = record {
      len = s.rows.len;
      each = λ i l. row-kept h k (entry_at q.entries i) (row_at (rows_of post) i)
          (agree-off h k x y (row_parcels (row_at (rows_of post) i)) (record { each = keeps }) (off i l) (off' i l)) (s.rows.each i l);
      own = s.rows.own;
      cross = s.rows.cross;
      handles = s.rows.handles;
    };
    linked = record {
      shape = shape;
      lie = λ i l. AllLie-but post.heap d x y (row_parcels (row_at (rows_of post) i)) keeps' (off i l) (off' i l) (s.linked.lie i l);
      others = λ b out. elim (cases_eq b x) [
        | inl z ↦ subst (λ m. block_bytes m k ≡ block_bytes m d) (sym z) same
        | inr ne ↦ elim (cases_eq b y) [
          | inl z ↦ subst (λ m. block_bytes m k ≡ block_bytes m d) (sym z) same'
          | inr nor ↦ keeps b ne nor ∙ s.linked.others b out ∙ sym (keeps' b ne nor)
        ]
      ];
    };
    live = s.live;
    recipients = s.recipients;
    few = s.few;
    next_ref = s.next_ref;
  }

-- one block that holds no message changes, in both heaps alike
module _ (h k : Heap) (q : Chains) (post : Post) (d : Heap) (a : ℕ) where
  pub block-changed : ArePostChains h q post → IsOff a post → SameShape k d
      → ((b : ℕ) → b ≢ a → block_bytes b k ≡ block_bytes b h) → ((b : ℕ) → b ≢ a → block_bytes b d ≡ block_bytes b post.heap)
      → block_bytes a k ≡ block_bytes a d → ArePostChains k q (record post { heap = d })
  block-changed s off shape keeps keeps' same = blocks-changed h k q post d a a s off off shape (λ b ne ne'. keeps b ne) (λ b ne ne'. keeps' b ne) same same

-- a block that others claim: the plain heap grants the same, and the post stays
pub record ClaimedBeside (h : Heap) (q : Chains) (post : Post) (free n : ℕ) (there : Heap × ℕ) : Type 0 where
  pub plain : Heap
  pub granted : module_claim free n post.heap ≡ Ok (plain, there.1)
  pub spells : ArePostChains there.0 q (record post { heap = plain })

pub claimed-beside : (h : Heap) (q : Chains) (post : Post) (free n : ℕ) (there : Heap × ℕ) → ArePostChains h q post → module_claim free n h ≡ Ok there
    → ClaimedBeside h q post free n there
claimed-beside h q post free n there s e =
    let d = alike-ok (module_claim free n h) (module_claim free n post.heap) there (module_claim-alike free n h post.heap s.linked.shape) e in
    let w = module_claim-puts free n h there e in
    let v = module_claim-puts free n post.heap (d.0, there.1) d.1.0 in
    record {
      plain = d.0;
      granted = d.1.0;
      spells = block-changed h there.0 q post d.0 there.1 s (λ j l. row-fresh h (entry_at q.entries j) (row_at (rows_of post) j) there.1 w.fresh
          (s.rows.each j l)) d.1.1 w.others v.others (w.here ∙ sym v.here);
    }

-- a block of others that is freed
pub freed-beside : (h : Heap) (q : Chains) (post : Post) (a : ℕ) → ArePostChains h q post → IsOff a post
    → ArePostChains (release_block a h) q (record post { heap = release_block a post.heap })
freed-beside h q post a s off =
    let w = release-frees a h in
    let v = release-frees a post.heap in
    block-changed h (release_block a h) q post (release_block a post.heap) a s off (release-alike a h post.heap s.linked.shape) w.others v.others
    (w.gone ∙ sym v.gone)
