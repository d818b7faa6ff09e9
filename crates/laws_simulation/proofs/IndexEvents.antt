-- An instruction that looks for an element of an array: the element is read or stored in the next event, or there is none.
use Rattle.std.proofs.Common.{◌≡◌, ℕ, nat_lt, Bool, true, false, [], ◌∷◌, Option, Some, refl, sym, ap, ◌∙◌, slice_index, slice_set, option_map, option_and_then, if◌then◌else◌}
use Rattle.jvm_types.specs.declared.outcome.Thrown.TheVariants.{ArrayIndexOutOfBoundsException}
use Rattle.machine_types.specs.{Going.goes_on, Instructions.begun, Ints.low, Onward.threw, PlainInstructions.{plain_did, indexed_in}, PlainState.{Plain, PlainThread, value_at, written, with_thread}}
use Rattle.machine_types.specs.{Threads.Thread, Words.{header_length, header_word, value_word}, declared.{access.Access.TheVariants.Load, effect.Effect.TheVariants.Indexes}}
use Rattle.laws_states.specs.{Sites.HeaderOf}
use Rattle.laws_simulation.{specs.{StepsBeside.StepsBeside}, proofs.{EventSteps.gone_on, MemoryParts.stays, OwnThread.own, PlainValues.value_found}}
use Rattle.laws_simulation.proofs.RunScene.{Instruction, same_plain, still, status_fits, makes_none, goes, may, wants, acts_are, moves, does}
use Rattle.laws_simulation.proofs.Scene.{Scene, steps_in, looked}
use Rattle.machine_types.specs.PlainState as plain
use Rattle.machine_types.specs.declared.phase.Phase.TheVariants as phases
use Rattle.machine_types.specs.declared.plain.Act.TheVariants as acts

module _ (scene : Scene) where
  open scene use {turn, c, objects, s, t, x, q}
  open own turn use {plain as y}

  -- ---- an element is looked for

  module _ (array index : ℕ) (stored : Option ℕ)
      (i : Instruction turn (Indexes array index stored)) where
    open i use {runs, at}

    abbrev got : ℕ
    got = slice_index s.words (header_word array)

    abbrev there : ℕ → Bool
    there n = nat_lt (low index) (header_length n)

    header : value_at q (header_word array) ≡ Some got
    header =
        let object = (may i).1.2 in
        value_found scene.differ c objects s q scene.marked scene.facts.heap scene.beside (HeaderOf array) tt (object.0, object.1, object.2)

    abbrev looks_at : Thread
    looks_at = record (begun x) { phase = phases.Element (value_word array (low index)) stored }

    abbrev now : Thread
    now = goes_on (begun x) (threw ArrayIndexOutOfBoundsException at)

    abbrev shown : PlainThread
    shown = plain.plain_goes_on y (threw ArrayIndexOutOfBoundsException at)

    -- the element is read or stored in the next event
    pub index_steps : StepsBeside c objects s t x q
    index_steps = (elim (there got) as (λ (b : Bool). there got ≡ b → StepsBeside c objects s t x q) [
      | true ↦ λ e. steps_in turn phases.Run runs objects (Some (Load (header_word array))) [] q looks_at y refl (wants i) (acts_are i got ∙ ap (λ (b : Bool). if b then [] else acts.Do ∷ []) e) (moves i got ∙ ap (λ (b : Bool). if b then looks_at else now) e) (λ h. cc)
          (ap Some (sym (same_plain turn))) (still i (phases.Element (value_word array (low index)) stored) refl refl refl (status_fits turn phases.Run runs))
          (stays scene (slice_set s.words (header_word array) got) looks_at (looked s.words (header_word array)) (makes_none i) (λ a word e. cc))
      | false ↦ λ e. steps_in turn phases.Run runs objects (Some (Load (header_word array))) (acts.Do ∷ []) q now shown refl (wants i) (acts_are i got ∙ ap (λ (b : Bool). if b then [] else acts.Do ∷ []) e) (moves i got ∙ ap (λ (b : Bool). if b then looks_at else now) e) (λ h. cc)
          (does i (with_thread q t shown) (ap (option_and_then (λ (n : ℕ). plain_did c.program q t y at (Indexes array index stored) n)) header
          ∙ ap (λ (b : Bool). if b then option_map (indexed_in c.program q t y at (value_word array (low index)) stored) (value_at q (value_word array (low index))) else Some (with_thread q t shown)) e))
          (goes i (threw ArrayIndexOutOfBoundsException at))
          (stays scene (slice_set s.words (header_word array) got) now (looked s.words (header_word array)) (makes_none i) (gone_on (begun x) (threw ArrayIndexOutOfBoundsException at)).makes)
    ]) refl
