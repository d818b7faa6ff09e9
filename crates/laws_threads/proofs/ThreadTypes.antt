-- A thread that goes on keeps the types of all that it holds.
use Rattle.std.proofs.Common.{◌≡◌, ℕ, zero, suc, ◌+◌, ◌-◌, ◌<◌, Bool, List, [], ◌∷◌, length, Option, Some, None, sym, subst, nat_lt, drop, IfSome, if◌then◌else◌}
use Rattle.jvm_types.specs.declared.program.Program.{Program}
use Rattle.checked_program.specs.MarkedProgram.{MarkedProgram}
use Rattle.machine_types.specs.{Elision.{put_back, fails}, Going.{with_phase, runs, failed_turn, goes_on, goes_on_if}, Lawful.NewFits, Onward.{Onward, Running, RootReturned}}
use Rattle.machine_types.specs.{Threads.{Frame, Attempt, Thread}, Typed.{Classes, FramesHold, AttemptHolds, ThreadHolds, PhaseHolds, IsObject}, declared.phase.Phase.Phase}
use Rattle.laws_threads.proofs.{Onwards.{frames_then, Keeps, AreInside, Onwards, IfOnwards}, Tests.either_way, ThreadMove.over_to}
use Rattle.jvm_types.specs.declared.outcome.End.TheVariants as ends
use Rattle.machine_types.specs.declared.phase.Phase.TheVariants as phases

-- ---- what a thread holds beside its phase

abbrev pub IsBasedIn : List Frame → Option Attempt → Type 0
IsBasedIn fs None = Unit {0}
IsBasedIn fs (Some a) = a.base < length fs

abbrev pub EntryInside : Program → Option Attempt → Type 0
EntryInside p attempt = IfSome attempt (λ a. a.entry.receiver < p.heap)

pub record Rests (c : MarkedProgram) (is : Classes) (s : Thread) : Type 0 where
  pub attempt : AttemptHolds c is s.frames s.attempt
  pub inside : AreInside c.program s.frames
  pub entry : EntryInside c.program s.attempt

-- ---- all that it holds

pub record TypedBy (c : MarkedProgram) (is : Classes) (s : Thread) : Type 0 where
  pub values : ThreadHolds c is s
  pub new : NewFits s.phase c.program.heap
  pub receivers : AreInside c.program s.frames
  pub entry : EntryInside c.program s.attempt

module _ (c : MarkedProgram) (is : Classes) where
  pub carries : (attempt : Option Attempt) (fs after : List Frame) → Keeps fs after → IsBasedIn fs attempt → IsBasedIn after attempt → AttemptHolds c is fs attempt → AttemptHolds c is after attempt
  carries None fs after k old new h = tt
  carries (Some a) fs after k old new h = (h.0, subst (λ (below : List Frame). FramesHold c is (a.entry ∷ below)) (sym (k a.base old new)) h.1)

  pub runs_typed : (s : Thread) → FramesHold c is s.frames → Rests c is s → TypedBy c is (runs s)
  runs_typed s h r = either_way (λ (b : Bool). TypedBy c is (with_phase s (if b then phases.Run else phases.Ending ends.Steps))) (nat_lt s.counts.instructions s.cfg.steps)
      (record { values = record { phase = h; attempt = r.attempt }; new = tt; receivers = r.inside; entry = r.entry })
      (record { values = record { phase = h; attempt = r.attempt }; new = tt; receivers = r.inside; entry = r.entry })

  -- to a phase of a monitor
  pub turn_typed : (s : Thread) (phase : Phase) → PhaseHolds c is phase s.frames → NewFits phase c.program.heap → FramesHold c is s.frames → Rests c is s → TypedBy c is (failed_turn s phase)
  turn_typed s phase h n f r = either_way (λ (b : Bool). TypedBy c is (record s { turns = s.turns + 1; phase = if b then phase else phases.Ending ends.Turns })) (nat_lt (s.turns + 1) s.cfg.turns)
      (record { values = record { phase = h; attempt = r.attempt }; new = n; receivers = r.inside; entry = r.entry })
      (record { values = record { phase = f; attempt = r.attempt }; new = tt; receivers = r.inside; entry = r.entry })

  -- ---- how it goes on

  pub goes_typed : (s : Thread) (o : Onward) → Onwards c is s.frames o → Rests c is s → IsBasedIn s.frames s.attempt → IsBasedIn (goes_on s o).frames (goes_on s o).attempt → TypedBy c is (goes_on s o)
  goes_typed s (Running fs) k r old new =
      runs_typed (record s { frames = fs }) k.holds (record { attempt = carries s.attempt s.frames fs k.keeps old new r.attempt; inside = k.inside r.inside; entry = r.entry })
  goes_typed s RootReturned k r old new = over_to (λ phase. TypedBy c is (record s { frames = []; phase = phase })) s.roots
      (λ e. record { values = record { phase = tt; attempt = carries s.attempt s.frames [] k.keeps old new r.attempt }; new = tt; receivers = tt; entry = r.entry })
      (λ number rest e. record { values = record { phase = tt; attempt = carries s.attempt s.frames [] k.keeps old new r.attempt }; new = tt; receivers = tt; entry = r.entry })
  goes_typed s o k r old new = record { values = record { phase = k.holds; attempt = carries s.attempt s.frames (frames_then o) k.keeps old new r.attempt }; new = tt; receivers = k.inside r.inside; entry = r.entry }

  pub goes_if_typed : (s : Thread) (o : Option Onward) → TypedBy c is s → IfOnwards c is s.frames o → Rests c is s → IsBasedIn s.frames s.attempt → IsBasedIn (goes_on_if s o).frames (goes_on_if s o).attempt → TypedBy c is (goes_on_if s o)
  goes_if_typed s None stays k r old new = stays
  goes_if_typed s (Some o) stays k r old new = goes_typed s o k r old new

  -- ---- an attempt fails, or goes on behind its check

  inside_below : (p : Program) (n : ℕ) (fs : List Frame) → AreInside p fs → AreInside p (drop n fs)
  inside_below p zero fs h = h
  inside_below p (suc n) [] h = tt
  inside_below p (suc n) (f ∷ fs) h = inside_below p n fs h.1

  pub fails_typed : (s : Thread) (a : Attempt) → s.attempt ≡ Some a → Rests c is s → TypedBy c is (fails s a)
  fails_typed s a e r =
      let back : IsObject is a.monitor × FramesHold c is (put_back a s.frames) = subst (AttemptHolds c is s.frames) e r.attempt in
      let entry : a.entry.receiver < c.program.heap = subst (EntryInside c.program) e r.entry in
      record { values = record { phase = back; attempt = tt }; new = tt; receivers = (entry, inside_below c.program (length s.frames - a.base) s.frames r.inside); entry = tt }
