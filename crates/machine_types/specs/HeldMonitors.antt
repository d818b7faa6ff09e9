-- The monitors that a thread holds: a list with one entry for each.
use Rattle.std.specs.Prelude.{ℕ, ◌+◌, ◌-◌, ◌*◌, ◌==◌, max, List, [], ◌∷◌, length, Option, Some}
use Rattle.std.specs.Prelude.{None, option_map, if◌then◌else◌}
use Rattle.checked_program.specs.MarkedProgram.{MarkedProgram}
use Rattle.checked_program.specs.LockTags.{TagShape}
use Rattle.checked_program.specs.declared.tag.Tags.{Tags}
use Rattle.jvm_types.specs.declared.limits.TheConstants.{MOST_FRAMES}
use Rattle.machine_types.specs.declared.lock.Held.{Held}

abbrev pub held_at : List Held → (m : ℕ) → Option Held
held_at [] m = None
held_at (h ∷ hs) m = if h.monitor == m then Some h else held_at hs m

abbrev pub depth_at : List Held → (m : ℕ) → Option ℕ
depth_at hs m = option_map (λ h. h.depth) (held_at hs m)

-- the entry of its monitor is replaced, or the entry is added
abbrev pub with_held : Held → List Held → List Held
with_held e [] = e ∷ []
with_held e (h ∷ hs) = if h.monitor == e.monitor then e ∷ hs else h ∷ with_held e hs

abbrev pub without_held : (m : ℕ) → List Held → List Held
without_held m [] = []
without_held m (h ∷ hs) = if h.monitor == m then hs else h ∷ without_held m hs

-- entered once more, and left once
abbrev pub deeper : Held → Held
deeper h = record h { depth = h.depth + 1 }

abbrev pub shallower : Held → Held
shallower h = record h { depth = h.depth - 1 }

-- ---- how many a thread may hold: each frame shows the monitor of its method and those of its tags

abbrev pub held_in_frame : Option TagShape → ℕ
held_in_frame None = 0
held_in_frame (Some f) = length f.held

abbrev pub most_in : List (Option TagShape) → ℕ
most_in [] = 0
most_in (f ∷ fs) = max (held_in_frame f) (most_in fs)

abbrev pub most_held : List Tags → ℕ
most_held [] = 0
most_held (t ∷ ts) = max (most_in t.frames) (most_held ts)

abbrev pub places_of : MarkedProgram → ℕ
places_of c = MOST_FRAMES * (1 + most_held c.tags)
