-- The monitors that a thread holds, as it keeps them.
use Rattle.std.specs.Prelude.{◌==◌, ℕ, List, Bool}
use Rattle.std.specs.List.{IsDistinct}
use Rattle.machine_types.specs.declared.lock.Held.{Held}

-- with how many entries there is room for
pub record HeldParts : Type 0 where
  pub entries : List Held
  pub places : ℕ

abbrev pub has_same_monitor : (g h : Held) → Bool
has_same_monitor g h = g.monitor == h.monitor

-- no two entries are of one monitor
abbrev pub AreOfOtherMonitors : List Held → Type 0
AreOfOtherMonitors held = IsDistinct has_same_monitor held
