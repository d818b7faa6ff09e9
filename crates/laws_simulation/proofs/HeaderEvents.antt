-- The event that stores the header of a new object: the plain machine has the object already.
use Rattle.std.proofs.Common.{◌≡◌, ℕ, List, [], ◌∷◌, Some, refl, sym, ap, subst, ◌∙◌}
use Rattle.machine_types.specs.{Frames.pushed, Going.goes_on, NewObjects.size_by, Onward.Running, PlainMemory.{Object, new_object}}
use Rattle.machine_types.specs.{PlainState.{Plain, PlainThread, Status, with_thread}, Threads.{Frame, Thread}, Words.header_word, declared.{access.Access.TheVariants.Store}}
use Rattle.laws_simulation.{specs.{StepsBeside.StepsBeside}, proofs.{EventSteps.gone_on, OwnThread.{IsBusy, own, under_way}, RunScene.{same_plain, frames_are, status_fits}}}
use Rattle.laws_simulation.proofs.{Scene.{Scene, GoesOn, awake, counts_as, going, steps_in}, StoredHeader.stored}
use Rattle.machine_types.specs.PlainState as plain
use Rattle.machine_types.specs.declared.phase.Phase.TheVariants as phases

module _ (scene : Scene) (a word : ℕ) (made : scene.x.phase ≡ phases.Made a word) where
  open scene use {turn, c, objects, s, t, x, q}
  open own turn use {plain as y}

  abbrev now : Thread
  now = goes_on x (Running (pushed a x.frames))

  abbrev shown : PlainThread
  shown = plain.plain_goes_on y (Running (pushed a x.frames))

  abbrev later : List Object
  later = new_object a word (size_by c.program word) ∷ objects

  goes : GoesOn turn now shown
  goes = going turn x y (Running (pushed a x.frames)) refl scene.outside refl
      (awake turn (phases.Made a word) (counts_as turn (phases.Made a word) made) (λ r h. h))
      (under_way turn (subst IsBusy (sym made) tt))

  -- its plain thread has the object on its stack
  same_shown : shown ≡ y
  same_shown =
      let frames : y.frames ≡ pushed a x.frames = frames_are turn (phases.Made a word) made in
      let status : y.status ≡ plain.Run = status_fits turn (phases.Made a word) made in
      ap (λ (fs : List Frame). record y { frames = fs; status = plain.Run }) (sym frames) ∙ ap (λ (z : Status). record y { status = z }) (sym status)

  pub header_steps : StepsBeside c objects s t x q
  header_steps = steps_in turn (phases.Made a word) made later (Some (Store (header_word a) word)) [] q now shown refl refl refl refl (λ h. cc)
      (ap Some (sym (ap (with_thread q t) same_shown ∙ same_plain turn))) goes (stored scene a word made now (gone_on x (Running (pushed a x.frames))).makes)
