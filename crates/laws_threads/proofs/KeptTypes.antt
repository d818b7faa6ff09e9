-- Every event keeps the types of its thread, as far as a thread alone can tell them.
use Rattle.std.proofs.Common.{ℕ, ◌<◌, ◌^◌, inr, List, Option, Some, None, subst, arith}
use Rattle.jvm_types.{specs.{ProgramInvariant.IsProgram, declared.{outcome.Thrown.Thrown, program.{Kind.Kind, Program.Program, Target.Target}}}, proofs.TypeOrder.subclass_self}
use Rattle.checked_program.specs.MarkedProgram.{MarkedProgram, IsMarked}
use Rattle.machine_types.specs.{Bounds.IsRooted, Events.moved, FoundWords.{WordFits, kind_content, field_content, effect_content, variable_content, content_at, run_content}, Frames.{Top, effect_at}}
use Rattle.machine_types.specs.{Lawful.{within, NewFits, IsTypedWithin}, ReadyObjects.ready, Structure.{IsAs, Stands, PhaseShows, AttemptStandsIn}, Threads.{Frame, Attempt, Thread}, Typed.KindHolds}
use Rattle.machine_types.{specs.{Typed.PhaseHolds, declared.{effect.Effect.{Effect, TheVariants.{Reads, Measures, Raises}}, lock.Held.Held, phase.Phase.Phase}}, proofs.ClassObjects.class_object_below}
use Rattle.laws_threads.{specs.{Allowed.IsByMachine, KeptTypes.TypesAreKept, TopFrames.IsAllowed}, proofs.KeptPhases.{NeedsShown, PhaseFinds, StartTyped, moved_typed}}
use Rattle.laws_threads.proofs.{Onwards.{HasObjects, FoundHolds}, Roots.starts_typed, ThreadTypes.{IsBasedIn, Rests, TypedBy}, TopEffects.effects_allowed}
use Rattle.jvm_types.specs.declared.outcome.Thrown.TheVariants as thrown
use Rattle.jvm_types.specs.declared.program.Kind.TheVariants as kinds
use Rattle.machine_types.specs.declared.phase.Phase.TheVariants as phases

-- ---- objects, as words of the heap

heap_objects : (p : Program) → IsProgram p → HasObjects p (within p)
heap_objects p is = record { out = omega (arith, is.heap_from); ready = ready_inside; classes = λ file few. omega (arith, class_object_below p file few, is.words); inside = λ class v h. h }
  where
    ready_inside : (x : Thrown) → IsByMachine x → ready x < p.heap
    ready_inside thrown.Throwable own = absurd own
    ready_inside thrown.Exception own = absurd own
    ready_inside thrown.Error own = absurd own
    ready_inside thrown.RuntimeException own = absurd own
    ready_inside thrown.InterruptedException own = absurd own
    ready_inside x own = omega (arith, is.heap_from)

-- ---- the word that is found

kind_found : (p : Program) (kind : Kind) (got : ℕ) → WordFits p (kind_content kind) got → KindHolds (within p) kind got
kind_found p (kinds.Ref class) got h = inr (class, h, subclass_self class)
kind_found p kind got h = h

effect_found : (p : Program) (at : Top) (e : Effect) (got : ℕ) → IsProgram p → IsAllowed p at e → WordFits p (effect_content p at.target e) got → FoundHolds p (within p) at.target e got
effect_found p at (Reads v) got is a h = λ f field. kind_found p f.kind got
    (subst (λ o. WordFits p (field_content o) got) field.there (subst (λ (t : Target). WordFits p (variable_content p t) got) field.named h))
effect_found p at (Measures x) got is a h = omega (arith, h.fits, is.heap_to)
effect_found p at (Raises x) got is a h = λ class e. a.1.1
effect_found p at e got is a h = tt

-- ---- what is known of the frames

pub based_in : (c : MarkedProgram) (was : Phase) (fs : List Frame) (held : List Held) (attempt : Option Attempt) → AttemptStandsIn c was fs held attempt → IsBasedIn fs attempt
based_in c was fs held None h = tt
based_in c was fs held (Some a) h = h.based

pub needs_shown : (c : MarkedProgram) (was phase : Phase) (fs : List Frame) (held : List Held) (attempt : Option Attempt) → IsAs phase was → Stands c was fs held attempt → NeedsShown c phase fs
needs_shown c was phases.Start fs held attempt e k = subst (λ x. PhaseShows c x fs k.shown held attempt) e k.phase_shows
needs_shown c was (phases.Element word stored) fs held attempt e k = subst (λ x. PhaseShows c x fs k.shown held attempt) e k.phase_shows
needs_shown c was (phases.Throw x class) fs held attempt e k = subst (λ x. PhaseShows c x fs k.shown held attempt) e k.phase_shows
needs_shown c was (phases.Leave m a) fs held attempt e k = subst (λ x. PhaseShows c x fs k.shown held attempt) e k.phase_shows
needs_shown c was (phases.FlatOut m a) fs held attempt e k =
    let grown : PhaseShows c (phases.FlatOut m a) fs k.shown held attempt = subst (λ x. PhaseShows c x fs k.shown held attempt) e k.phase_shows in
    grown.toward_shows
needs_shown c was phase fs held attempt e k = tt

-- ---- the law

module _ (c : MarkedProgram) (marked : IsMarked c) (s : Thread) (typed : IsTypedWithin c s) where
  finds : (phase : Phase) (got : ℕ) → PhaseHolds c (within c.program) phase s.frames → NewFits phase c.program.heap → WordFits c.program (content_at c s phase) got → PhaseFinds c (within c.program) phase s.frames got
  finds phases.Run got h new fits = λ at found.
      effect_found c.program at (effect_at c.program at) got marked.checked.program (effects_allowed c s.frames at marked h found) (subst (λ o. WordFits c.program (run_content c.program o) got) found fits)
  finds (phases.Element word stored) got h new fits = fits
  finds (phases.Made a word) got h new fits = new
  finds phase got h new fits = tt

  stays : TypedBy c (within c.program) s
  stays = record { values = typed.values; new = typed.new; receivers = typed.receivers; entry = typed.entry }

  rests : Rests c (within c.program) s
  rests = record { attempt = typed.values.attempt; inside = typed.receivers; entry = typed.entry }

  root_typed : (phase : Phase) → s.number < 2 ^ 32 → IsRooted c.program s → IsBasedIn s.frames s.attempt → NeedsShown c phase s.frames → StartTyped c (within c.program) s phase
  root_typed phases.Start small rooted based shows = λ new. starts_typed c marked (within c.program) s s.roots shows small rooted.roots stays rests based new
  root_typed phase small rooted based shows = tt

pub types_kept : TypesAreKept
types_kept c was next s got marked structured typed bounded rooted fits after =
    let based = based_in c was s.frames s.held s.attempt structured.attempt in
    let new = based_in c next (moved c s s.phase got).frames (moved c s s.phase got).held (moved c s s.phase got).attempt after.attempt in
    let shows = needs_shown c was s.phase s.frames s.held s.attempt structured.is_as structured.stands in
    let small : s.number < 2 ^ 32 = omega (arith, bounded.number, marked.checked.program.workers) in
    let t = moved_typed c marked (within c.program) (heap_objects c.program marked.checked.program) s (stays c marked s typed) (rests c marked s typed) based s.phase got
    (root_typed c marked s typed s.phase small rooted based shows) typed.values.phase shows (finds c marked s typed s.phase got typed.values.phase typed.new fits) new in
    record { values = t.values; new = t.new; receivers = t.receivers; entry = t.entry }
