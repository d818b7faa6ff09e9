-- Where a part of the run begins, its threads have no frame, hold no monitor and are in no attempt.
use Rattle.std.specs.Prelude.{◌≡◌, ℕ, zero, suc, List, [], ◌∷◌, slice_get, if◌then◌else◌}
use Rattle.std.specs.List.{AllByRecursion}
use Rattle.jvm_types.specs.declared.outcome.End.TheVariants as ends
use Rattle.checked_program.specs.MarkedProgram.{MarkedProgram}
use Rattle.machine_types.specs.Core.{Core, start, event, next, may_begin}
use Rattle.machine_types.specs.Events.{moved}
use Rattle.machine_types.specs.Structure.{Structure}
use Rattle.machine_types.specs.Threads.{Thread}
use Rattle.machine_types.specs.declared.config.Config.{Config}
use Rattle.machine_types.specs.declared.phase.Phase.{Phase}
use Rattle.machine_types.specs.declared.phase.Phase.TheVariants as phases
use Rattle.laws_threads.specs.StateLaws.{counted_of}

-- ---- who waits for its part: each worker until `init` has returned, and then thread 0 until
-- `done` begins

abbrev pub PartFits : (part : ℕ) → Phase → (workers : List Thread) → Type 0
PartFits zero phase workers = AllByRecursion (λ w. w.phase ≡ phases.Idle) workers
PartFits (suc zero) phase workers = phase ≡ phases.Ended ends.Returned
PartFits part phase workers = Unit {0}

-- by the part of thread 0
abbrev pub PartsFit : List Thread → Type 0
PartsFit [] = Unit {0}
PartsFit (x ∷ workers) = PartFits x.part x.phase workers

abbrev pub StartFitsParts : Type 0
StartFitsParts = (c : MarkedProgram) (cfg : Config) → PartsFit (start c cfg).threads

-- an event leaves a thread its part
abbrev pub EventsFitParts : Type 0
EventsFitParts =
    (c : MarkedProgram) (s : Core) (t : ℕ)
    → ((x : Thread) (got : ℕ) → (moved c x x.phase got).part ≡ x.part) → PartsFit s.threads
    → PartsFit (event c s t).threads

abbrev pub NextFitsParts : Type 0
NextFitsParts = (c : MarkedProgram) (s : Core) → PartsFit s.threads → PartsFit (next c s).threads

-- ---- so the threads of a part that begins are structured

abbrev pub counted_next : MarkedProgram → (was : ℕ → Phase) → Core → (u : ℕ) → Phase
counted_next c was s u =
    if may_begin s.threads then counted_of (was u) (slice_get (next c s).threads u) else was u

abbrev pub NextKeepsStructure : Type 0
NextKeepsStructure =
    (c : MarkedProgram) (was : ℕ → Phase) (s : Core) → PartsFit s.threads
    → Structure c was s.threads → Structure c (counted_next c was s) (next c s).threads
