-- The event that begins a root: in the plain machine its part is due.
use Rattle.std.proofs.Common.{◌≡◌, inl, inr, ℕ, zero, suc, nat_lt, ◌≤◌, Bool, true, false, List, [], ◌∷◌, Option, Some, None, refl, sym, ap, subst, ◌∙◌, arith, slice_get, slice_set, option_map, ◌&&◌, drop, if◌then◌else◌, IsTrue}
use Rattle.std.specs.List.{list_all, AllByRecursion}
use Rattle.jvm_types.specs.{Numbers.has_number, declared.{outcome.{End.End, Thrown.TheVariants.StackOverflowError}, program.{MethodInfo.MethodInfo, Program.Program}}}
use Rattle.machine_types.specs.{Accesses.found_by, Agreement.{roots_shown, start_status}, Bounds.{FramesFit, part_roots}, Core.{event, event_of}, Events.{thread_started, wanted, moved}}
use Rattle.machine_types.specs.{Frames.{entry_frame, has_room}, Going.{goes_on, goes_on_if}, Onward.{Onward, Running, Uncaught, root_arguments, rooted}, Parts.done_roots}
use Rattle.machine_types.specs.{PlainState.{Plain, PlainThread, with_thread}, PlainSteps.{init_has_returned, is_over, is_due, plain_begins, plain_begun, may_do_done}, Threads.{Frame, Thread}}
use Rattle.machine_types.{specs.declared.{phase.Phase.Phase}, proofs.Lists.got_when_set}
use Rattle.laws_threads.proofs.KeptRoots.{roots_within, there}
use Rattle.laws_states.{specs.{PartsLaws.EventsKeepParts, PartsStand.DoneRoots}, proofs.Lists.same_or_not}
use Rattle.laws_simulation.{specs.{StandsBeside.{ends_shown, end_of_done}, StepsBeside.StepsBeside}, proofs.{Assembled.one_step, EventSteps.gone_on, GoingOnAlike.{PartRuns, ends_before}}}
use Rattle.laws_simulation.proofs.{MemoryParts.stays, OwnThread.own, PartsDue.{rests_between, idle_workers, first_there, workers_over, init_returned}, RunScene.status_fits}
use Rattle.laws_simulation.proofs.Scene.{Scene, GoesOn, awake, counts_as, going, steps_in}
use Rattle.jvm_types.specs.declared.outcome.End.TheVariants as ends
use Rattle.machine_types.specs.PlainState as plain
use Rattle.machine_types.specs.declared.phase.Phase.TheVariants as phases
use Rattle.machine_types.specs.declared.plain.Act.TheVariants as acts

-- ---- how a root goes on: the thread is not to begin another one

left_by : (p : Program) (z : Thread) (b : Bool) (frames : List Frame) → DoneRoots p (goes_on z (if b then Running frames else Uncaught StackOverflowError)).phase z.roots → z.roots ≡ []
left_by p z true frames h = (elim (nat_lt z.counts.instructions z.cfg.steps) as (λ (b : Bool). DoneRoots p (if b then phases.Run else phases.Ending ends.Steps) z.roots → z.roots ≡ [])
    [ true ↦ λ h. h | false ↦ λ h. h ]) h
left_by p z false frames h = h

roots_on : (z : Thread) (b : Bool) (frames : List Frame) → (goes_on z (if b then Running frames else Uncaught StackOverflowError)).roots ≡ z.roots
roots_on z true frames = refl
roots_on z false frames = refl

none_done : (roots : List ℕ) → end_of_done roots phases.Start ≡ []
none_done [] = refl
none_done (number ∷ roots) = refl

module _ (scene : Scene) (keeps : EventsKeepParts) (starts : scene.x.phase ≡ phases.Start) where
  open scene use {turn, states, c, cfg, objects, was, s, t, x, q}
  open own turn use {plain as y}

  lives : x.phase ≡ phases.Ended ends.Returned → ⊥
  lives h = let both : phases.Start ≡ phases.Ended ends.Returned = sym starts ∙ h in cc

  status : y.status ≡ start_status x.part
  status = status_fits turn phases.Start starts

  ended : y.ended ≡ ends_shown c.program x.part phases.Start
  ended = (own turn).ended ∙ ap (ends_shown c.program x.part) starts

  roots_are : y.roots ≡ roots_shown c.program x.part phases.Start x.roots
  roots_are = (own turn).fits.roots ∙ ap (λ (z : Phase). roots_shown c.program x.part z x.roots) starts

  -- ---- a root, which is a method

  record Root : Type 0 where
    number : ℕ
    rest : List ℕ
    roots : x.roots ≡ number ∷ rest
    m : MethodInfo
    method : slice_get c.program.methods number ≡ Some m

  module _ (root : Root) where
    open root use {number, rest, roots, m, method}

    abbrev onward : Onward
    onward = rooted c.program t number m

    abbrev begins_as : Thread
    begins_as = record x { roots = rest }

    abbrev plain_as : PlainThread
    plain_as = record y { roots = rest }

    moves : moved c x phases.Start 0 ≡ goes_on begins_as onward
    moves =
        ap (thread_started c.program x) roots
        ∙ (ap (λ (o : Option MethodInfo). goes_on_if begins_as (option_map (rooted c.program x.number number) o)) method
        ∙ ap (λ (n : ℕ). goes_on begins_as (rooted c.program n number m)) (let k = scene.facts.threads.own t x scene.here in k.number))

    root_begins : plain_begun c.program t y (number ∷ rest) ≡ Some (plain.plain_goes_on plain_as onward)
    root_begins = ap (option_map (λ (m : MethodInfo). plain.plain_goes_on plain_as (rooted c.program t number m))) method

    -- ---- of `done` no root is left

    after : (event c s t).threads ≡ slice_set s.threads t (goes_on begins_as onward)
    after =
        ap (λ (o : Option Thread). (event_of c s t o).threads) scene.here
        ∙ (ap (λ (z : Phase). slice_set s.threads t (moved c x z (found_by s.words (wanted c x z)))) starts
        ∙ ap (slice_set s.threads t) moves)

    none_left : t ≡ 0 → 2 ≤ x.part → rest ≡ []
    none_left first two =
        let stands = keeps c cfg s t scene.marked scene.facts.threads scene.facts.parts in
        let there : slice_get (event c s t).threads 0 ≡ Some (goes_on begins_as onward) =
        ap (λ (xs : List Thread). slice_get xs 0) after ∙ (ap (slice_get (slice_set s.threads t (goes_on begins_as onward))) (sym first) ∙ got_when_set s.threads t x (goes_on begins_as onward) scene.here) in
        let done : DoneRoots c.program (goes_on begins_as onward).phase (goes_on begins_as onward).roots = stands.done (goes_on begins_as onward) there (subst (λ (n : ℕ). 2 ≤ n) (sym (gone_on begins_as onward).part) two) in
        left_by c.program begins_as (has_room c.program [] m) (entry_frame number m (root_arguments t m) ∷ [])
        (subst (DoneRoots c.program (goes_on begins_as onward).phase) (roots_on begins_as (has_room c.program [] m) (entry_frame number m (root_arguments t m) ∷ [])) done)

    -- ---- its part is due

    record Due (part : ℕ) : Type 0 where
      due : is_due q.threads t y.ended ≡ true
      ended : y.ended ≡ ends_before part
      runs : PartRuns c.program part rest
      begins_is : plain_begins c.program t y y.status ≡ Some (plain.plain_goes_on plain_as onward)

    by_number : (n : ℕ) → t ≡ n → is_due q.threads t y.ended ≡ is_due q.threads n y.ended
    by_number n e = ap (λ (k : ℕ). is_due q.threads k y.ended) e

    -- a worker that begins tells that `init` has returned
    worker_due : (u : ℕ) → t ≡ suc u → init_has_returned q.threads ≡ true
    worker_due u e =
        let first = first_there s.threads t x scene.here in
        init_returned states first.0 first.1 (λ none.
        let idle = idle_workers s.threads first.0 x u scene.facts.threads.parts first.1 none (ap (slice_get s.threads) (sym e) ∙ scene.here) in
        let both : phases.Start ≡ phases.Idle = sym starts ∙ idle in cc)

    no_part : (n : ℕ) → x.part ≡ suc n → t ≡ 0
    no_part n e = elim (same_or_not t 0) [ inl h ↦ h | inr d ↦ let none : x.part ≡ 0 = (let k = scene.facts.threads.own t x scene.here in k.part d) in absurd (omega (arith, e, none)) ]

    first_here : t ≡ 0 → slice_get s.threads 0 ≡ Some x
    first_here e = ap (slice_get s.threads) (sym e) ∙ scene.here

    due_in : (part : ℕ) → x.part ≡ part → Due part
    due_in zero e =
        let none : y.ended ≡ [] = ended ∙ ap (λ (n : ℕ). ends_shown c.program n phases.Start) e in
        record {
          due = (elim t as (λ (n : ℕ). t ≡ n → (n ≡ 0 → is_due q.threads 0 y.ended ≡ true) → is_due q.threads t y.ended ≡ true)
              [ zero ↦ λ e first. by_number 0 e ∙ first refl | suc u ↦ λ e first. by_number (suc u) e ∙ worker_due u e ]) refl (λ h. ap (is_due q.threads 0) none);
          ended = none;
          runs = tt;
          begins_is =
              ap (plain_begins c.program t y) (status ∙ ap start_status e)
              ∙ (ap (plain_begun c.program t y) (roots_are ∙ (ap (λ (n : ℕ). roots_shown c.program n phases.Start x.roots) e ∙ roots)) ∙ root_begins);
        }
    due_in (suc zero) e =
        let rests = rests_between s.threads x scene.facts.threads.parts (first_here (no_part 0 e)) e in
        absurd (lives rests)
    due_in (suc (suc n)) e =
        let first = no_part (suc n) e in
        let two : 2 ≤ x.part = omega (arith, e) in
        let once : y.ended ≡ ends.Returned ∷ [] = ended ∙ (ap (λ (k : ℕ). ends_shown c.program k phases.Start) e ∙ ap (λ (es : List End). ends.Returned ∷ es) (none_done (done_roots c.program))) in
        let all : x.roots ≡ done_roots c.program = subst (λ (z : Phase). DoneRoots c.program z x.roots) starts (scene.facts.parts.done x (first_here first) two) in
        let init : init_has_returned q.threads ≡ true = init_returned states x (first_here first) (λ h. omega (arith, h, e)) in
        let workers = workers_over states x (first_here first) two in
        record {
          due = by_number 0 first ∙ (ap (is_due q.threads 0) once ∙ (ap (λ (b : Bool). b && list_all (λ (w : PlainThread). is_over w.status) (drop 1 q.threads)) init ∙ workers));
          ended = once;
          runs = (none_left first two, λ none. (let clash : number ∷ rest ≡ [] = sym roots ∙ (all ∙ none) in cc));
          begins_is =
              ap (plain_begins c.program t y) (status ∙ ap start_status e)
              ∙ (ap (λ (b : Bool). if b then plain_begun c.program t y (done_roots c.program) else None) (ap (λ (k : ℕ). may_do_done k y.ended) first ∙ ap (may_do_done 0) once)
              ∙ (ap (plain_begun c.program t y) (sym all ∙ roots) ∙ root_begins));
        }

    due_now : Due x.part
    due_now = due_in x.part refl

    -- ---- the event

    abbrev now : Thread
    now = goes_on begins_as onward

    abbrev shown : PlainThread
    shown = plain.plain_goes_on plain_as onward

    goes : GoesOn turn now shown
    goes = going turn begins_as plain_as onward refl scene.outside refl
        (awake turn phases.Start (counts_as turn phases.Start starts) (λ r h. h)) (record { roots = refl; ended = due_now.ended; runs = due_now.runs })

    root_steps : StepsBeside c objects s t x q
    root_steps = steps_in turn phases.Start starts objects None (acts.Begin ∷ []) q now shown refl refl refl moves (λ h. cc)
        (one_step c.program q (with_thread q t shown) t y acts.Begin (own turn).here
        (ap (λ (b : Bool). if b then option_map (with_thread q t) (plain_begins c.program t y y.status) else None) due_now.due ∙ ap (option_map (with_thread q t)) due_now.begins_is))
        goes (stays scene s.words now refl (λ a word h. let both : phases.Start ≡ phases.Made a word = sym starts ∙ h in cc) (gone_on begins_as onward).makes)

  by_roots : (roots : List ℕ) → x.roots ≡ roots → FramesFit phases.Start x.frames roots → AllByRecursion (λ n. IsTrue (has_number (part_roots c.program x.number x.part) n)) roots → StepsBeside c objects s t x q
  by_roots [] e fit all = absurd fit
  by_roots (number ∷ rest) e fit all = let m = there c.program.methods number (roots_within c.program x.number x.part number all.0) in root_steps (record { number = number; rest = rest; roots = e; m = m.0; method = m.1 })

  pub start_steps : StepsBeside c objects s t x q
  start_steps =
      let k = scene.facts.threads.lawful t x scene.here in
      let rooted = k.rooted in
      by_roots x.roots refl (subst (λ (z : Phase). FramesFit z x.frames x.roots) starts rooted.frames) rooted.roots
