-- An instruction that makes an object, or finds no room for it.
use Rattle.std.proofs.Common.{◌≡◌, ℕ, ◌+◌, ◌≤◌, nat_le, Bool, true, false, List, [], ◌∷◌, ◌++◌, Some, refl, sym, ap, subst, ◌∙◌, arith, slice_index, slice_set, if◌then◌else◌}
use Rattle.std.proofs.lemmas.Bool.Decides.{nat_tests}
use Rattle.jvm_types.specs.declared.{fixed_words.TheConstants.NEXT_FREE_WORD, outcome.Thrown.TheVariants.OutOfMemoryError}
use Rattle.machine_types.specs.{Events.moved, FoundWords.IsHeader, History.steps_of, PlainSteps.plain_run, Frames.{making, pushed}, Going.goes_on, Instructions.begun, NewObjects.size_by, Onward.{Running, threw}, PlainMemory.new_object}
use Rattle.machine_types.specs.{PlainState.{Plain, PlainThread, value_at, written, with_thread}, Threads.Thread, declared.{access.Access.TheVariants.Add, effect.Effect.TheVariants.Makes}}
use Rattle.laws_states.{proofs.Headers.made_header}
use Rattle.laws_simulation.{specs.StepsBeside.StepsBeside, proofs.{EventSteps.gone_on, GoingOnAlike.none_ends, MemoryParts.{rises, makes}, OwnThread.{own, under_way}}}
use Rattle.laws_simulation.proofs.RunScene.{Instruction, busy, makes_none, goes, may, wants, acts_are, moves, does}
use Rattle.laws_simulation.proofs.Scene.{Scene, GoesOn, Memory, steps_in}
use Rattle.machine_types.specs.PlainState as plain
use Rattle.machine_types.specs.declared.phase.Phase.TheVariants as phases
use Rattle.machine_types.specs.declared.plain.Act.TheVariants as acts

module _ (scene : Scene) where
  open scene use {turn, c, objects, s, t, x, q}
  open own turn use {plain as y}

  -- ---- an object is made

  module _ (word size : ℕ) (i : Instruction turn (Makes word size)) where
    open i use {runs, at}

    abbrev first : ℕ
    first = slice_index s.words NEXT_FREE_WORD

    abbrev words : List ℕ
    words = slice_set s.words NEXT_FREE_WORD (slice_index s.words NEXT_FREE_WORD + size)

    has_header : IsHeader c.program word × (size_by c.program word ≡ size)
    has_header = let k = may i in made_header c.program scene.marked.checked.program at.method k.1 word size k.4

    abbrev makes_it : Thread
    makes_it = record (begun x) { frames = making c.program at; phase = phases.Made q.next word }

    abbrev made_shown : PlainThread
    made_shown = plain.plain_goes_on y (Running (pushed q.next (making c.program at)))

    made_goes : GoesOn turn makes_it made_shown
    made_goes =
        let under = under_way turn (busy i) in
        record {
          held = refl;
          outside = scene.outside;
          part = refl;
          own = record {
            outside = record { frames = refl; status = refl; roots = under.roots };
            ended = under.ended ∙ sym (none_ends c.program x.part x.roots (phases.Made q.next word) under.runs refl);
          };
        }

    abbrev with_new : Plain
    with_new = record q { objects = q.objects ++ new_object q.next word size ∷ []; next = q.next + size }

    made_memory : q.next + size ≤ c.program.heap → Memory turn objects words with_new makes_it
    made_memory fits =
        subst (λ (n : ℕ). Memory turn objects (slice_set s.words NEXT_FREE_WORD (slice_index s.words NEXT_FREE_WORD + n)) (record q { objects = q.objects ++ new_object q.next word n ∷ []; next = q.next + n }) makes_it) has_header.1
        (makes scene word has_header.0 makes_it (makes_none i) refl (omega (arith, fits, has_header.1)))

    abbrev now : Thread
    now = goes_on (begun x) (threw OutOfMemoryError at)

    abbrev shown : PlainThread
    shown = plain.plain_goes_on y (threw OutOfMemoryError at)

    abbrev room : Bool
    room = nat_le (q.next + size) c.program.heap

    moves_as : (b : Bool) → room ≡ b → moved c x phases.Run first ≡ (if b then makes_it else now)
    moves_as b e = moves i first ∙ ap (λ (a : ℕ). if nat_le (a + size) c.program.heap then record (begun x) { frames = making c.program at; phase = phases.Made a word } else now) scene.beside.agrees.next
        ∙ ap (λ (b : Bool). if b then makes_it else now) e

    runs_as : (b : Bool) → room ≡ b → plain_run c.program q (steps_of t (acts.Do ∷ [])) ≡ Some (if b then with_thread with_new t made_shown else with_thread (record q { next = q.next + size }) t shown)
    runs_as b e = does i (if b then with_thread with_new t made_shown else with_thread (record q { next = q.next + size }) t shown)
        (ap (λ (b : Bool). Some (if b then with_thread with_new t made_shown else with_thread (record q { next = q.next + size }) t shown)) e)

    pub make_steps : StepsBeside c objects s t x q
    make_steps = (elim room as (λ (b : Bool). room ≡ b → StepsBeside c objects s t x q) [
      | true ↦ λ e. steps_in turn phases.Run runs objects (Some (Add NEXT_FREE_WORD size)) (acts.Do ∷ []) with_new makes_it made_shown refl (wants i) (acts_are i first) (moves_as true e) (λ h. cc) (runs_as true e) made_goes (made_memory (grind (arith, nat_tests, e)))
      | false ↦ λ e. steps_in turn phases.Run runs objects (Some (Add NEXT_FREE_WORD size)) (acts.Do ∷ []) (record q { next = q.next + size }) now shown refl (wants i) (acts_are i first) (moves_as false e) (λ h. cc) (runs_as false e)
          (goes i (threw OutOfMemoryError at)) (rises scene size now (makes_none i) (gone_on (begun x) (threw OutOfMemoryError at)).makes)
    ]) refl
