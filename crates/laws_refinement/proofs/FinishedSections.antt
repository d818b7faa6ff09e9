-- Where a section is done that ran without its lock, its entry, what it did and its exit are a run of the plain machine, to a state
-- that the new one stands beside.
use Rattle.std.proofs.Common.{◌≡◌, inl, inr, ℕ, suc, cond, List, [], ◌∷◌, Option, Some, None, refl, sym, ap, ◌∙◌, subst, arith, slice_index, slice_set}
use Rattle.jvm_types.specs.declared.{fixed_words.TheConstants.NEXT_FREE_WORD, outcome.End.TheVariants.Returned}
use Rattle.machine_types.specs.{Accesses.found_by, Agreement.{ThreadFits, depth_for}, Attempts.Owes, Core.{Core, event}, Counting.{run_at, take_at, count_along}, Elision.elided, Events.wanted}
use Rattle.machine_types.specs.{Going.goes_on, HeldMonitors.held_at, History.{Fate, Finishes, Past, fate, shown_at, shown_by, steps_of}, LockWords.lock_of, Onward.{Onward, after}, OwnedPlaces.Stores}
use Rattle.machine_types.specs.{Owners.{hold_by_word, lock_at, owner_at, references_of}, PlainMemory.Object, PlainState.{Plain, PlainThread, Holding, value_at, holding_at}, PlainSteps.plain_run}
use Rattle.machine_types.specs.{Replay.{replayed, at_entry, at_present}, Structure.{IsAs, Stands}, Threads.{Attempt, Thread}, Typed.{AttemptHolds, HasClass, PhaseHolds}, Worlds.World}
use Rattle.machine_types.{specs.declared.{lock.LockWord.{LockWord, TheVariants.Free}, phase.Phase.Phase, plain.Act.Act}, proofs.{AttemptReplay.hold, PlainStepLaws.none_left}}
use Rattle.laws_threads.proofs.{Releases.goes_behind, ThreadMove.{goes_held, goes_attempt}}
use Rattle.laws_states.{specs.{HeapFacts.{objects_after, objects_by, objects_of}, PartsStand.DoneRoots, SiteLaws.SitesDiffer, Sites.HasObject}, proofs.Lists.{contained_got, same_or_not}}
use Rattle.laws_states.proofs.{LockViews.not_held, Phases.IsOldPhase, WordViews.{lock_of_word, object_has}}
use Rattle.laws_simulation.{specs.StandsBeside.{StandsBeside, end_of_done}, proofs.{Assembled.{moved_beside}, GoingOnAlike.{IsUnderWay, OwnFits, going_alike, none_ends}}}
use Rattle.laws_simulation.proofs.{HoldingsAlike.{alike_kept, free_then, put_else, without_else}, Landing.never_made, Moving.{goes_old, goes_part}, OwnBits.{IsAwake, no_own_bit}, OwnThread.part_runs}
use Rattle.laws_simulation.proofs.WaitBits.{same_wait_bit}
use Rattle.laws_refinement.{specs.ElidedSteps.{FinishesBeside, SectionsFinish, found_of}, proofs.{Playing.{Player, has_bit, plain_fits, plain_there}, DoneSections.{IsDone, is_done, as_noted, event_is}, FinishedPlaces.staying_value}}
use Rattle.laws_refinement.proofs.{WholeSections.{IsWhole, whole, holdings_behind, at_end, behind_section, section_acts}}
use Rattle.machine_types.specs.PlainState as plain
use Rattle.machine_types.specs.declared.phase.Phase.TheVariants as phases

-- ---- holdings: the monitor is free before and behind, and the others are as they were

same_behind : (hs : List Holding) (m t inner n : ℕ) → holding_at hs m ≡ None → holding_at (holdings_behind hs m t inner) n ≡ holding_at hs n
same_behind hs m t inner n free = elim (same_or_not m n) [
  | inl e ↦ subst (λ (i : ℕ). holding_at (holdings_behind hs m t inner) i ≡ holding_at hs i) e (none_left m _ ∙ sym free)
  | inr d ↦ without_else n m _ d ∙ put_else n (hold m t (suc inner)) _ d ∙ put_else n (hold m t 1) hs d
]

module _ (differ : SitesDiffer) (player : Player) (d : IsDone player.x player.a player.x.phase (found_by player.s.words (wanted player.c player.x player.x.phase))) where
  open player use {states, c, objects, was, s, t, x, a, q, marked, facts, beside, here as there, tries}

  -- ---- the phase that counts

  counts : was t ≡ phases.Leave a.monitor d.after_it
  counts = let st = facts.structure t x there in subst (λ (phase : Phase). IsAs phase (was t)) d.leaves st.is_as

  -- ---- the monitor is an object, and free

  monitor_object : HasObject objects a.monitor
  monitor_object =
      let object = (subst (λ (o : Option Attempt). AttemptHolds c (HasClass objects) x.frames o) tries (facts.heap.typed.threads t x there).attempt).0.1 in
      (object.0, object.1, object.2)

  lock_is : lock_at (references_of objects) s.words a.monitor ≡ Free a.noted
  lock_is = ap (λ b. cond b (lock_of (slice_index s.words a.monitor)) (Free 0)) (object_has objects a.monitor monitor_object) ∙ ap lock_of (as_noted c s t x a there d) ∙ lock_of_word (Free a.noted)

  free : holding_at q.holdings a.monitor ≡ None
  free = free_then q.holdings s.threads beside.agrees.monitors a.monitor
      (λ u y here. let owns = facts.owners.each u y here in not_held (held_at y.held a.monitor) (sym (owns.holds a.monitor) ∙ ap (λ (l : LockWord). hold_by_word u l (owner_at s.words)) lock_is))

  -- ---- its plain thread

  abbrev twin : PlainThread
  twin = (plain_there player).0

  under_way : (n : Past) → IsUnderWay c.program x.part x.roots (at_end x a (was t) n twin.ended)
  under_way n =
      let runs = part_runs player.member (λ e. let bad : phases.Leave a.monitor d.after_it ≡ phases.Ended Returned = sym d.leaves ∙ e in cc) (subst (λ (phase : Phase). DoneRoots c.program phase x.roots) d.leaves) in
      record {
        roots = refl;
        ended = beside.ends t x twin there (plain_there player).1 ∙ none_ends c.program x.part x.roots x.phase runs (ap (λ (phase : Phase). end_of_done (0 ∷ []) phase) d.leaves);
        runs = runs;
      }

  -- ---- how it goes on

  goes : (o : Onward) × (after c.program x.frames d.after_it ≡ Some o)
  goes =
      let st = facts.structure t x there in
      let stands : Stands c (phases.Leave a.monitor d.after_it) x.frames x.held x.attempt = subst (λ (phase : Phase). Stands c phase x.frames x.held x.attempt) counts st.stands in
      let typed = facts.heap.typed.threads t x there in
      let holds : PhaseHolds c (HasClass objects) (phases.Leave a.monitor d.after_it) x.frames = subst (λ (phase : Phase). PhaseHolds c (HasClass objects) phase x.frames) d.leaves typed.phase in
      let g = goes_behind (HasClass objects) c marked a.monitor stands.shown d.after_it x.frames stands.show stands.phase_shows holds in
      (g.onward, g.is)

  -- ---- the state behind the section

  module _ (n : Past) where
    abbrev after_all : Plain
    after_all = behind_section q t x a (was t) n twin.ended goes.0

    abbrev behind : Thread
    behind = goes_on (elided x) goes.0

    alike : OwnFits c.program (has_bit player) behind (plain.plain_goes_on (at_end x a (was t) n twin.ended) goes.0)
    alike = going_alike c.program (has_bit player) (λ m. same_wait_bit c.program objects s q beside.known beside.others facts.heap.new_objects t m
        ∙ no_own_bit (references_of objects) was s facts.owners facts.waiting t x there (subst IsAwake (sym counts) tt) m) (elided x) (at_end x a (was t) n twin.ended) goes.0 (under_way n)

    stands_then : StandsBeside c.program objects (record { words = s.words; threads = slice_set s.threads t behind }) after_all
    stands_then = moved_beside player.member s.words behind (holdings_behind q.holdings a.monitor t a.inner) (plain.plain_goes_on (at_end x a (was t) n twin.ended) goes.0) q.prints (record {
      fits = subst (λ (o : Option Attempt). ThreadFits c.program (has_bit player) behind o (plain.plain_goes_on (at_end x a (was t) n twin.ended) goes.0)) (sym (goes_attempt (elided x) goes.0)) alike.outside;
      ended = alike.ended;
      places = λ i v e. refl;
      next = refl;
      printed = beside.agrees.prints;
      bits = λ u m e. refl;
      alike = λ u m. ap (depth_for u) (same_behind q.holdings a.monitor t a.inner m free) ∙ alike_kept q.holdings s.threads beside.agrees.monitors t x behind there (goes_held (elided x) goes.0) u m;
      old = λ i word e. never_made x.phase i word (subst IsOldPhase (sym d.leaves) tt) e;
      new = λ i word e. never_made behind.phase i word (goes_old (elided x) goes.0) e;
      part = goes_part (elided x) goes.0;
      rests = λ e. absurd (let bad : phases.Leave a.monitor d.after_it ≡ phases.Ended Returned = sym d.leaves ∙ e in cc);
    })

    stands_behind : StandsBeside c.program (objects_after c.program s t objects) (event c s t) after_all
    stands_behind =
        let same : objects_after c.program s t objects ≡ objects = ap (λ (o : Option Thread). objects_of c.program o objects) there ∙ ap (λ (phase : Phase). objects_by c.program phase objects) d.leaves in
        let is : event c s t ≡ record { words = s.words; threads = slice_set s.threads t behind } = event_is c s t x a there d goes.0 goes.1 in
        subst (λ (os : List Object). StandsBeside c.program os (event c s t) after_all) (sym same) (subst (λ (r : Core). StandsBeside c.program objects r after_all) (sym is) stands_then)

    -- ---- the section as a whole

    module _ (stores : Stores) (w : World) (owes : Owes c stores objects w s t (was t) x x.attempt n) where
      leads : replayed c.program a.monitor (value_at q) n.due (at_entry x a twin.ended) ≡ Some (at_present x a (was t) n.pending twin.ended)
      leads =
          let due : Owes c stores objects w s t (was t) x (Some a) n = subst (λ (o : Option Attempt). Owes c stores objects w s t (was t) x o n) tries owes in
          due.1 (as_noted c s t x a there d) (value_at q) (λ i k. staying_value differ states stores w (slice_index s.words NEXT_FREE_WORD) t a.monitor i k) twin.ended

      is_whole : IsWhole c.program q t x a (was t) n twin.ended goes.0
      is_whole = whole (record {
        p = c.program;
        q = q;
        t = t;
        x = x;
        a = a;
        z = twin;
        here = (plain_there player).1;
        fits = plain_fits player;
        free = free;
        some = λ none. (let k = monitor_object in let begins = facts.heap.apart.begin k.1.0 k.0 (contained_got objects k.0 k.1) in omega (arith, begins, k.2, none));
        was = was t;
        d = n;
        leads = leads;
      }) d.after_it goes.0 counts d.outermost goes.1

      pub finishes_beside : fate c x a x.phase (found_by s.words (wanted c x x.phase)) ≡ Finishes → FinishesBeside c objects s t x n q
      finishes_beside ends_so =
          let got : ℕ = found_by s.words (wanted c x x.phase) in
          let acts_are : section_acts n ≡ shown_at c x x.attempt got n = sym (ap (λ (o : Option Attempt). shown_at c x o got n) tries ∙ ap (λ (f : Fate). shown_by f n) ends_so) in
          record {
            after = after_all;
            run = subst (λ (acts : List Act). plain_run c.program q (steps_of t acts) ≡ Some after_all) acts_are is_whole.run;
            beside = stands_behind;
            prints = refl;
            instructions = subst (λ (acts : List Act). count_along c.program (run_at t) (steps_of t acts) q ≡ n.pending) acts_are is_whole.instructions;
            sections = subst (λ (acts : List Act). count_along c.program (take_at t) (steps_of t acts) q ≡ 1) acts_are is_whole.sections;
          }

pub sections_finish : SitesDiffer → SectionsFinish
sections_finish differ c cfg objects was frozen own after w later s t x a d q k beside tries owes ends_so =
    let player : Player = record {
      member = record { states = record { c = c; cfg = cfg; objects = objects; was = was; s = s; q = q; marked = k.marked; facts = k.facts; beside = beside }; t = t; x = x; here = k.thread };
      a = a;
      tries = tries;
    } in
    finishes_beside differ player (is_done c x a x.phase (found_of c s x) tries ends_so) d own.stores w owes ends_so
