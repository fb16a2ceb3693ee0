-- The first world over a store whose areas were furnished.
use Rattle.rh_tasks.proofs.Common.{◌≡◌, ℕ, ◌+◌, refl, ap, sym, subst, ◌∙◌, arith, [], ◌∷◌, None, Memory, FileList, Heap, empty_heap, page_size, used_pages}
use Rattle.rh_tasks.proofs.Common.{IsDesk}
use Rattle.rh_tasks.proofs.Common.{IsQueue, Chains, post_in, Kept, the_module, fixed_pages, scrap_of, desk_of, IsWorld}
use Rattle.rh_defs.specs.Forms.{first_made}
use Rattle.rh_defs.specs.Post as post
use Rattle.rh_defs.specs.Runs.{start_with}
use Rattle.rh_defs.specs.Laws.{IsStart}
use Rattle.rh_defs.proofs.Steps.{start-is}
use Rattle.rh_tasks.specs.declared.next_numbers.NextNumbers.{NextNumbers}
use Rattle.rh_wimp.proofs.PostCalls.{post_in-starts}
use Rattle.rh_tasks.specs.Inner.Start.{IsFurnished}

same-next : {a a' b b' : ℕ} → a ≡ a' → b ≡ b'
    → (let x : NextNumbers = record { handle = a; area = b } in x) ≡ (let y : NextNumbers = record { handle = a'; area = b' } in y)
same-next p q = cc

pub first-next : (n : NextNumbers) (handle : ℕ) → n.handle ≡ handle → n.area ≡ first_made → n ≡ record { handle = handle; area = first_made }
first-next n handle p q = same-next p q

module _ {m : Memory} {pages : ℕ} (f : IsFurnished m pages) (files : FileList) (handle ref : ℕ) where
  abbrev queue : Chains
  queue = record { entries = []; live = 0; next_ref = ref }

  abbrev kept : Kept
  kept = record { next = record { handle = handle; area = first_made }; queue = queue; scrap = None }

  six : {a b c d e : ℕ} → a ≡ 0 → b ≡ 0 → c ≡ 0 → d ≡ 0 → e ≡ 0 → a ∷ 0 ∷ b ∷ c ∷ d ∷ e ∷ [] ≡ 0 ∷ 0 ∷ 0 ∷ 0 ∷ 0 ∷ 0 ∷ []
  six p q r s t = cc

  areas : fixed_pages m ≡ 0 ∷ 0 ∷ 0 ∷ 0 ∷ 0 ∷ 0 ∷ []
  unfolding fixed_pages
  areas = six f.zero f.two f.three f.four f.five

  first_post : post_in m the_module queue ≡ record { seats = []; queued = []; heap = empty_heap page_size; next_ref = ref }
  first_post = post_in-starts m the_module ref ∙ ap (λ (h : Heap). let p : post.Post = record { seats = []; queued = []; heap = h; next_ref = ref } in p) f.heap

  pub first-desk : desk_of m [] [] files kept ≡ start_with pages files handle ref
  unfolding scrap_of
  first-desk =
      let p = areas in
      let q = first_post in
      rw (p, q, f.pages_are) refl

  first-ledger : m.free + used_pages (desk_of m [] [] files kept) ≡ m.pages
  first-ledger = omega (arith, ap used_pages first-desk, f.free, f.pages_are)

  pub first-world : IsStart pages handle ref → IsQueue m the_module queue → IsWorld m [] [] files kept
  first-world is starts = record {
    desk = subst IsDesk (sym first-desk) (start-is pages handle ref files is);
    areas = record {
      fixed_open = f.opened;
      module_area = f.module_area;
      slots = tt;
      made_open = tt;
      slots_above = tt;
      made_above = tt;
      slots_apart = tt;
      made_apart = tt;
      beside = tt;
      count = f.count;
    };
    queue = starts;
    scrap = omega arith;
    ledger = first-ledger;
  }
