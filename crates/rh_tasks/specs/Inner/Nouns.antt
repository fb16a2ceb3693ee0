-- What a command on memory changes.
use Rattle.std.specs.Prelude.{Bool, true, false, ◌||◌}
use Rattle.rh_defs.specs.declared.command.Command.{Command}
use Rattle.rh_defs.specs.declared.command.Command.TheVariants as command

-- the flex blocks of a slot
abbrev pub changes_blocks : Command → Bool
changes_blocks (command.Alloc name anchor size) = true
changes_blocks (command.Load name anchor file) = true
changes_blocks (command.Put name anchor offset bytes) = true
changes_blocks (command.Free name anchor) = true
changes_blocks (command.Extend name anchor size) = true
changes_blocks (command.Mid name anchor offset by) = true
changes_blocks c = false

-- the C heap of a slot
abbrev pub changes_heap : Command → Bool
changes_heap (command.Claim name size) = true
changes_heap (command.Release name address) = true
changes_heap (command.Resize name address delta) = true
changes_heap (command.Budge name on) = true
changes_heap c = false

-- blocks of the module area
abbrev pub changes_module : Command → Bool
changes_module (command.RmaClaim size) = true
changes_module (command.RmaFree address) = true
changes_module (command.RmaResize address delta) = true
changes_module c = false

-- the length of an area, or which areas there are
abbrev pub changes_areas : Command → Bool
changes_areas (command.Area number delta) = true
changes_areas (command.Make most) = true
changes_areas (command.Remove number) = true
changes_areas c = false

-- any of these
abbrev pub changes_memory : Command → Bool
changes_memory c = changes_blocks c || (changes_heap c || (changes_module c || changes_areas c))
