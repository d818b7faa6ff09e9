-- The acts of the plain machine for which one event stands, as the code has them: at most two; and
-- an instruction's by what it does.
use Rattle.std.specs.Prelude.{◌<◌, ◌^◌, ℕ, List, [], ◌∷◌, Option, Some, None}
use Rattle.machine_types.specs.History.{Fate as TheFate, GoesOn, Fails, Finishes, instruction_acts}
use Rattle.machine_types.specs.Monitors.{Claim, Tries}
use Rattle.machine_types.specs.Threads.{Thread, head_of}
use Rattle.machine_types.specs.declared.attempt.AttemptHead.{AttemptHead}
use Rattle.machine_types.specs.declared.effect.Effect.{Effect}
use Rattle.machine_types.specs.declared.effect.Effect.TheVariants.{Notifies, NotifiesAll}
use Rattle.machine_types.specs.declared.plain.Act.{Act}
use Rattle.event_texts.specs.declared.doing.Doing.{Doing}
use Rattle.event_texts.specs.declared.fates.Fate.{Fate}
use Rattle.event_texts.specs.declared.fates.Fate.TheVariants as fates

abbrev pub listed : (first second : Option Act) → List Act
listed None second = []
listed (Some a) None = a ∷ []
listed (Some a) (Some b) = a ∷ b ∷ []

abbrev pub doing_acts : Thread → Option Doing → (got : ℕ) → List Act
doing_acts s None got = []
doing_acts s (Some d) got = instruction_acts s d.effect got

-- an object is told by a number of 32 bits
abbrev pub MonitorFits : Effect → Type 0
MonitorFits (Notifies m) = m < 2 ^ 32
MonitorFits (NotifiesAll m) = m < 2 ^ 32
MonitorFits e = Unit {0}

abbrev pub DoingFits : Option Doing → Type 0
DoingFits None = Unit {0}
DoingFits (Some d) = MonitorFits d.effect

-- the attempt on a monitor that the thread tries
abbrev pub tried : Claim → Option AttemptHead
tried (Tries a) = Some (head_of a)
tried claim = None

-- what becomes of an attempt, as the history of a run names it
abbrev pub fate_of : Fate → TheFate
fate_of fates.GoesOn = GoesOn
fate_of fates.Fails = Fails
fate_of fates.Finishes = Finishes
