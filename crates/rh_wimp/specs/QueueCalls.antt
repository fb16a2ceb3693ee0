-- What the queue's calls leave, and what they answer.
use Rattle.std.specs.Prelude.{◌≡◌, ℕ, List, map}
use Rattle.rh_defs.specs.Memory.{Memory, OnlyArea}
use Rattle.rh_defs.specs.Post.{Post}
use Rattle.rh_module.specs.ModuleArea.{IsModule}
use Rattle.rh_module.specs.declared.module.Module.{Module}
use Rattle.rh_wimp.specs.Chains.{Chains, SpellsPostIn}
use Rattle.rh_wimp.specs.declared.chain.Entry.{Entry}

-- the module area's bytes spell a heap, and with the queue's entries they spell a post
pub record IsQueue (m : Memory) (module_area : Module) (q : Chains) : Type 0 where
  pub area : IsModule m module_area
  pub post : Post
  pub spells : SpellsPostIn m module_area q post

-- the live handles, in the order in which they joined
abbrev pub handles_of : Chains → List ℕ
handles_of q = map (λ (e : Entry). e.handle) q.entries

-- The queue spells the next post, whichever it spelled; it still is a queue, and no other area has changed.
pub record LeavesChains (m n : Memory) (module_area : Module) (q k : Chains) (next : Post → Post) : Type 0 where
  pub spells : (post : Post) → SpellsPostIn m module_area q post → SpellsPostIn n module_area k (next post)
  pub still : IsQueue n module_area k
  pub only : OnlyArea m n module_area.area.0

-- the answer for the post that the queue spells
abbrev pub Answers : {A : Type 0} → Memory → Module → Chains → (Post → A) → A → Type 0
Answers m module_area q answer result = (post : Post) → SpellsPostIn m module_area q post → result ≡ answer post
