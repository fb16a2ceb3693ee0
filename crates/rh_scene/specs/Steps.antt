-- What a step's picture is drawn from.
use Rattle.std.specs.Prelude.{◌≡◌, ℕ, length}
use Rattle.std.specs.Option.{option_map}
use Rattle.rh_defs.specs.Desk.{Desk}
use Rattle.rh_figure.specs.Share.{IsShared}
use Rattle.rh_figure.specs.Scene as scene
use Rattle.rh_figure.specs.Scene.{Before, Scene, scene_of}
use Rattle.rh_scene.specs.declared.marks.Effect.{Effect}
use Rattle.rh_scene.specs.declared.marks.Effect.TheVariants as variant
use Rattle.rh_scene.specs.declared.marks.HeapBlock.{HeapBlock}
use Rattle.rh_scene.specs.declared.marks.Marks.{Marks}
use Rattle.rh_scene.specs.declared.step_sender.StepSender.{StepSender}
use Rattle.rh_scene.specs.declared.step.Step.{Step}
use Rattle.rh_scene.specs.SightMessages.{message_items}
use Rattle.rh_scene.specs.SightPages.{share_in}
use Rattle.rh_scene.specs.Seen.{letter_seen}

-- a block of a C heap by its task's handle and its address
abbrev pub block_seen : HeapBlock → ℕ × ℕ
block_seen b = (b.handle, b.address)

-- what it did that nothing in the desk behind it tells
abbrev pub effect_seen : Effect → scene.Effect
effect_seen variant.None = scene.NoEffect
effect_seen (variant.Begun name handle) = scene.Begun name.now handle
effect_seen (variant.Ended name) = scene.Ended name.now
effect_seen (variant.Budging name was on) = scene.Budging name.now was on
effect_seen (variant.Longer number bytes) = scene.Longer number bytes
effect_seen (variant.Shorter number bytes) = scene.Shorter number bytes
effect_seen (variant.Made number most) = scene.Made number most
effect_seen (variant.Removed number) = scene.Removed number
effect_seen (variant.GivenUp name) = scene.GivenUp name.now
effect_seen (variant.Written anchor offset bytes) = scene.Written anchor offset bytes.now
effect_seen (variant.Stored name address bytes) = scene.Stored name.now address bytes.now
effect_seen (variant.Copied name size address to place) = scene.Copied name.now size address to place
effect_seen (variant.Acknowledged name ref) = scene.Acknowledged name.now ref

-- what a command did
abbrev pub marks_seen : Marks → scene.Marks
marks_seen m = record {
  handle = m.handle;
  effect = effect_seen m.effect;
  heap_effect = m.heap_effect;
  put = m.put;
  heap = block_seen m.heap;
  module_block = m.module_block;
  sent = option_map letter_seen m.sent;
  taken = m.taken;
}

-- the task that may send a letter at a step, the ref that its letter would have, and the one that the command
-- acknowledges, as they were before the step
abbrev pub IsSender : StepSender → Before → Type 0
IsSender s b = (s.handle ≡ b.handle) × (s.next_ref ≡ b.next_ref) × (s.acknowledged ≡ b.acknowledged)

-- the scene that a step has on a desk
abbrev pub scene_at : Desk → Step → Scene
scene_at d step = scene_of d (share_in step.pages.now d) step.kept.now (marks_seen step.marks)

-- the step has the desk's messages, and its pages
pub record IsStepOf (d : Desk) (step : Step) : Type 0 where
  pub messages : step.messages.now ≡ message_items d
  pub all : length step.pages.now ≡ d.pool
  pub shared : IsShared (share_in step.pages.now d) d
