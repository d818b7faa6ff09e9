-- A run stands for a plain run, event by event, with the objects that are under construction and with what is due of attempts.
use Rattle.std.proofs.Common.{◌≡◌, ◌≢◌, ℕ, ◌+◌, Bool, true, false, List, [], ◌∷◌, ◌++◌, length, Option, Some, None, refl, sym, ap, ◌∙◌, subst, arith, append_assoc, ◌==◌, replicate, slice_get, slice_set, slice_index_or, if◌then◌else◌}
use Rattle.std.{proofs.lemmas.{Bool.Decides.{nat_tests, Decides-eqb}, List.{append-nil, get_or-set_other, get_or-set_same, length-replicate, length-set}, Option.slice_get_within}}
use Rattle.lists.proofs.ListLaws.{same_some}
use Rattle.checked_program.specs.MarkedProgram.{MarkedProgram, IsMarked}
use Rattle.machine_types.specs.{Attempts.{OwesNothing, Owes, Attempts}, Construction.{AreFrozen, AreOwned, Construction, Owning}}
use Rattle.machine_types.specs.Core.{Core, Happening, Of, NextPart, start, event, event_of, may_begin, next, all_happened, core, outcome}
use Rattle.machine_types.specs.{Counting.{run_at, take_at, count_along, CountsFit, AreCounted}, Events.moved, Facts.FactsBeside, Faithful.{EndsFit, PrintsFit, IsSilent, IsFaithful}}
use Rattle.machine_types.specs.History.{Past, no_past, Told, told_start, past_after, pasts_after, told, all_told, shown_at, steps_of, shown_of, shown, shadow_from, shadow, past}
use Rattle.machine_types.specs.{OwnedPlaces.{Stores, nowhere}, PlainLaws.InstructionsChangeMemory, PlainMemory.{Object, start_objects}, PlainState.{Plain, plain_start}, PlainSteps.plain_run}
use Rattle.machine_types.specs.{Settings.AreSettings, StartLaws.phase_at_start, Threads.{Attempt, Thread}, Worlds.World, declared.{config.Config.Config, phase.Phase.Phase, plain.PlainStep.PlainStep}}
use Rattle.machine_types.proofs.Lists.{got_when_set}
use Rattle.laws_threads.{specs.{GivenThread.GivenIsKept, PartLaws.counted_next, StateLaws.{counted_of, counted_after}}, proofs.StateSteps.{set_other as got_other}}
use Rattle.laws_states.specs.{HeapFacts.objects_after, RunFacts.HaveWidth, StateFacts.StateFacts}
use Rattle.laws_objects.specs.ConstructionLaws.{no_builders, BuildsOn}
use Rattle.laws_simulation.{specs.{OutcomeLaws.WorkersKeepNone, StandsBeside.StandsBeside}, proofs.{EndedParts.ends_are_those, OutcomePrints.{next_keeps_prints, start_has_prints}}}
use Rattle.laws_simulation.proofs.{PlainCounts.others_are_not_counted, WorkerEnds.{events_keep_none, next_keeps_none, start_keeps_none}}
use Rattle.laws_refinement.specs.{ElidedSteps.{EventStands, found_of}, FaithfulRuns.{AreEventLaws, AreElidedLaws, RunsFollow}, RunsStand.{told_after, RunStands, RunsStand}}
use Rattle.laws_refinement.proofs.{Attempting.event_at, EventMoves.{MovesIn, event_moves}, MoreSteps.{run_on, count_on, all_one, recounted, counted_at_start}, NextUntried.{none_tries, same_threads}}
use Rattle.laws_refinement.proofs.{SameCounts.{came_from, counted_same}}

-- ---- what holds after a list of events, with its plain steps

-- the counts of a thread with its past, along the steps from the start
abbrev Counted : MarkedProgram → (steps : List PlainStep) → (t : ℕ) → Thread → Past → Type 0
Counted c steps t x d = CountsFit x d (count_along c.program (run_at t) steps (plain_start c.program)) (count_along c.program (take_at t) steps (plain_start c.program))

record Shadowed (c : MarkedProgram) (cfg : Config) (frozen owned : ℕ → Bool) (s : Core) (pasts : List Past) (steps : List PlainStep) : Type 0 where
  objects : List Object
  was : ℕ → Phase
  world : World
  facts : StateFacts c cfg objects was s
  stores : Stores
  built : Construction c frozen (record { owned = owned; stores = stores }) world was objects s
  state : Plain
  run : plain_run c.program (plain_start c.program) steps ≡ Some state
  beside : StandsBeside c.program objects s state
  many : length pasts ≡ c.program.workers + 1
  owes : (t : ℕ) (x : Thread) → slice_get s.threads t ≡ Some x → Owes c stores objects world s t (was t) x x.attempt (slice_index_or pasts t no_past)
  counts : (t : ℕ) (x : Thread) → slice_get s.threads t ≡ Some x → Counted c steps t x (slice_index_or pasts t no_past)
  prints : PrintsFit (outcome s) state
  keep_none : WorkersKeepNone s.threads

-- ---- what is due outside attempts

owes_none : (c : MarkedProgram) (stores : Stores) (objects : List Object) (w : World) (s : Core) (t : ℕ) (was : Phase) (x : Thread) (o : Option Attempt) (d : Past) → o ≡ None → OwesNothing d → Owes c stores objects w s t was x o d
owes_none c stores objects w s t was x o d e k = subst (λ (a : Option Attempt). Owes c stores objects w s t was x a d) (sym e) k

-- the laws that a run follows from, and what it begins with
record Beginning : Type 0 where
  given : GivenIsKept
  memory : InstructionsChangeMemory
  laws : AreEventLaws
  elided : AreElidedLaws
  c : MarkedProgram
  cfg : Config
  frozen : ℕ → Bool
  frozen_are : AreFrozen c frozen
  owned : ℕ → Bool
  owned_are : AreOwned c owned
  marked : IsMarked c
  width : HaveWidth cfg
  settings : AreSettings cfg

module _ (beginning : Beginning) where
  open beginning use {given, memory, laws, elided, c, cfg, frozen, frozen_are, owned, owned_are, marked, width, settings}

  abbrev Follows : Core → List Past → List PlainStep → Type 0
  Follows = Shadowed c cfg frozen owned

  abbrev owning : Stores → Owning
  owning stores = record { owned = owned; stores = stores }

  -- ---- an event of a thread

  module _ (s : Core) (pasts : List Past) (steps : List PlainStep) (l : Follows s pasts steps) (t : ℕ) (x : Thread) (there : slice_get s.threads t ≡ Some x) where
    abbrev now : Thread
    now = moved c x x.phase (found_of c s x)

    abbrev past_now : Past
    past_now = past_after c x x.attempt (found_of c s x) (slice_index_or pasts t no_past)

    abbrev more : List PlainStep
    more = steps_of t (shown_at c x x.attempt (found_of c s x) (slice_index_or pasts t no_past))

    builds : BuildsOn c l.objects l.was s t frozen (owning l.stores) l.world
    builds = elided.events_built c cfg l.objects l.was s t frozen (owning l.stores) l.world marked width l.facts l.built

    facts_after : StateFacts c cfg (objects_after c.program s t l.objects) (counted_after c l.was s t) (event c s t)
    facts_after = laws.events_state c cfg l.objects l.was s t marked width l.facts

    turns : EventStands c cfg l.objects l.was frozen (owning l.stores) (owning builds.stores) l.world builds.later s t x
    turns = record {
      marked = marked;
      width = width;
      thread = there;
      facts = l.facts;
      built = l.built;
      facts_after = facts_after;
      built_after = builds.keeps;
      kept = builds.kept;
      goes_on = builds.goes_on;
      guards = λ outside. elided.guards c cfg l.objects l.was frozen (owning l.stores) l.world s t x marked width l.facts l.built there outside;
    }

    moves : MovesIn c l.objects s t x (slice_index_or pasts t no_past) l.state x.attempt
    moves = event_moves memory laws elided (event_at c cfg l.objects l.was frozen (owning l.stores) (owning builds.stores) l.world builds.later s t x turns)
        (slice_index_or pasts t no_past) l.state l.beside (l.owes t x there)

    -- it is the one that moved, or another that is as it was
    by_thread : (P : ℕ → Thread → Type 0) → P t (moved c x x.phase (found_of c s x)) → ((u : ℕ) (z : Thread) → (u == t) ≡ false → slice_get s.threads u ≡ Some z → P u z)
        → (u : ℕ) (z : Thread) → slice_get (event c s t).threads u ≡ Some z → P u z
    by_thread P here other u z e = (elim (u == t) as (λ (b : Bool). (u == t) ≡ b → slice_get (slice_set s.threads t (moved c x x.phase (found_of c s x))) u ≡ Some z → P u z) [
      | true ↦ λ d f.
          let same = (Decides-eqb u t).0 d in
          let is : moved c x x.phase (found_of c s x) ≡ z = same_some (sym (got_when_set s.threads t x (moved c x x.phase (found_of c s x)) there)
          ∙ ap (slice_get (slice_set s.threads t (moved c x x.phase (found_of c s x)))) (sym same) ∙ f) in
          subst (λ (n : ℕ). P n z) (sym same) (subst (λ (v : Thread). P t v) is here)
      | false ↦ λ d f. other u z d (sym (got_other s.threads t u (moved c x x.phase (found_of c s x)) d) ∙ f)
    ]) refl (ap (λ (threads : List Thread). slice_get threads u) (sym (ap (λ (o : Option Thread). (event_of c s t o).threads) there)) ∙ e)

    apart : (u t : ℕ) → (u == t) ≡ false → u ≢ t
    apart u t d e = absurd (grind (arith, nat_tests, d, e))

    -- the pasts then: one is new
    past_here : slice_index_or (slice_set pasts t past_now) t no_past ≡ past_now
    past_here = get_or-set_same pasts t past_now no_past (omega (arith, slice_get_within s.threads t x there, l.facts.threads.count, l.many))

    past_other : (u : ℕ) → (u == t) ≡ false → slice_index_or (slice_set pasts t past_now) u no_past ≡ slice_index_or pasts u no_past
    past_other u e = get_or-set_other pasts t u past_now no_past (apart u t e)

    abbrev owed : ℕ → Thread → Type 0
    owed u z = Owes c builds.stores (objects_after c.program s t l.objects) builds.later (event c s t) u (counted_after c l.was s t u) z z.attempt (slice_index_or (slice_set pasts t past_now) u no_past)

    abbrev counted : ℕ → Thread → Type 0
    counted u z = Counted c (steps ++ more) u z (slice_index_or (slice_set pasts t past_now) u no_past)

    counted_here : counted t now
    counted_here =
        let q = plain_start c.program in
        let takes = count_on c.program (take_at t) steps more q l.state l.run in
        let k = moves.counts (count_along c.program (run_at t) steps q) (count_along c.program (take_at t) steps q) (l.counts t x there) in
        subst (λ (p : Past). Counted c (steps ++ more) t now p) (sym past_here) (recounted now k (sym (count_on c.program (run_at t) steps more q l.state l.run)) (sym takes))

    counted_other : (u : ℕ) (z : Thread) → (u == t) ≡ false → slice_get s.threads u ≡ Some z → counted u z
    counted_other u z e f =
        let q = plain_start c.program in
        let nothing = others_are_not_counted c.program t u (shown_at c x x.attempt (found_of c s x) (slice_index_or pasts t no_past)) l.state (apart u t e) in
        let runs = count_on c.program (run_at u) steps more q l.state l.run in
        let takes = count_on c.program (take_at u) steps more q l.state l.run in
        subst (λ (p : Past). Counted c (steps ++ more) u z p) (sym (past_other u e)) (recounted z (l.counts u z f) (omega (arith, runs, nothing.runs)) (omega (arith, takes, nothing.takes)))

    goes_on : Follows (event c s t) (slice_set pasts t past_now) (steps ++ more)
    goes_on = record {
      objects = objects_after c.program s t l.objects;
      was = counted_after c l.was s t;
      world = builds.later;
      facts = facts_after;
      stores = builds.stores;
      built = builds.keeps;
      state = moves.after;
      run = run_on c.program steps more (plain_start c.program) l.state l.run ∙ moves.run;
      beside = moves.beside;
      many = length-set pasts t past_now ∙ l.many;
      owes = by_thread owed
          (subst (λ (p : Past). Owes c builds.stores (objects_after c.program s t l.objects) builds.later (event c s t) t (counted_after c l.was s t t) now now.attempt p) (sym past_here)
          (elided.own_keeps c cfg l.objects l.was frozen (owning l.stores) (owning builds.stores) l.world builds.later s t x (slice_index_or pasts t no_past) turns (l.owes t x there)))
          (λ u z e f. subst (λ (p : Past). Owes c builds.stores (objects_after c.program s t l.objects) builds.later (event c s t) u (counted_after c l.was s t u) z z.attempt p) (sym (past_other u e))
          (elided.others_keep c cfg l.objects l.was frozen (owning l.stores) (owning builds.stores) l.world builds.later s t u x z (slice_index_or pasts u no_past) turns (apart u t e) f (l.owes u z f)));
      counts = by_thread counted counted_here counted_other;
      prints = moves.prints l.prints;
      keep_none = events_keep_none given c s t l.keep_none;
    }

  -- ---- where a part begins

  module _ (s : Core) (pasts : List Past) (steps : List PlainStep) (l : Follows s pasts steps) where
    abbrev IsKept : (t : ℕ) → Thread → Type 0
    IsKept t z = Owes c l.stores l.objects l.world (next c s) t (counted_next c l.was s t) z z.attempt (slice_index_or pasts t no_past) × Counted c steps t z (slice_index_or pasts t no_past)

    -- of one that begins its part, when none is in an attempt, or of a thread as it was
    kept : (b : Bool) → may_begin s.threads ≡ b → (t : ℕ) (z : Thread) → slice_get (next c s).threads t ≡ Some z → IsKept t z
    kept true may t z e =
        let k = came_from c.program s.threads t z l.facts.threads.parts e in
        let none : k.old.attempt ≡ None = none_tries c l.was s.threads may l.facts.threads.parts l.facts.structure t k.old k.there in
        let nothing : OwesNothing (slice_index_or pasts t no_past) = subst (λ (a : Option Attempt). Owes c l.stores l.objects l.world s t (l.was t) k.old a (slice_index_or pasts t no_past)) none (l.owes t k.old k.there) in (
          owes_none c l.stores l.objects l.world (next c s) t (counted_next c l.was s t) z z.attempt (slice_index_or pasts t no_past) (k.same.attempt ∙ none) nothing,
          counted_same k.old z (slice_index_or pasts t no_past) _ _ none k.same (l.counts t k.old k.there),
        )
    kept false may t z e =
        let there : slice_get s.threads t ≡ Some z = ap (λ (threads : List Thread). slice_get threads t) (sym (same_threads c.program s.threads may)) ∙ e in
        let counted : counted_next c l.was s t ≡ l.was t = ap (λ (b : Bool). if b then counted_of (l.was t) (slice_get (next c s).threads t) else l.was t) may in (
          subst (λ (phase : Phase). Owes c l.stores l.objects l.world (next c s) t phase z z.attempt (slice_index_or pasts t no_past)) (sym counted)
              ((elim z.attempt as (λ (o : Option Attempt). Owes c l.stores l.objects l.world s t (l.was t) z o (slice_index_or pasts t no_past)
              → Owes c l.stores l.objects l.world (next c s) t (l.was t) z o (slice_index_or pasts t no_past)) [ None ↦ λ k. k | Some a ↦ λ k. k ]) (l.owes t z there)),
          l.counts t z there,
        )

    begins : Follows (next c s) pasts steps
    begins = record {
      objects = l.objects;
      was = counted_next c l.was s;
      world = l.world;
      facts = laws.next_state c cfg l.objects l.was s marked (laws.parts c cfg marked settings) l.facts;
      stores = l.stores;
      built = elided.next_built c cfg l.objects l.was s frozen (owning l.stores) l.world marked l.facts l.built;
      state = l.state;
      run = l.run;
      beside = laws.next_beside c cfg l.objects l.was s l.state marked l.facts l.beside;
      many = l.many;
      owes = λ t z e. (kept (may_begin s.threads) refl t z e).0;
      counts = λ t z e. (kept (may_begin s.threads) refl t z e).1;
      prints = next_keeps_prints c s l.state l.prints;
      keep_none = next_keeps_none c s l.keep_none;
    }

  -- ---- the start

  start_stands : Follows (start c cfg) (replicate (c.program.workers + 1) no_past) []
  start_stands = record {
    objects = start_objects c.program;
    was = phase_at_start c cfg;
    world = no_builders;
    facts = laws.start_state c cfg marked (laws.parts c cfg marked settings);
    stores = nowhere;
    built = elided.start_built c cfg frozen owned marked frozen_are owned_are;
    state = plain_start c.program;
    run = refl;
    beside = laws.start_beside c cfg marked;
    many = length-replicate (c.program.workers + 1) no_past;
    owes = λ t x e.
        let nothing : OwesNothing (slice_index_or (replicate (c.program.workers + 1) no_past) t no_past) =
        subst OwesNothing (sym (all_one (c.program.workers + 1) t no_past)) (record { due = refl; pending = refl }) in
        owes_none c nowhere (start_objects c.program) no_builders (start c cfg) t (phase_at_start c cfg t) x x.attempt (slice_index_or (replicate (c.program.workers + 1) no_past) t no_past) (laws.start_untried c cfg t x e) nothing;
    counts = λ t x e. subst (λ (p : Past). Counted c [] t x p) (sym (all_one (c.program.workers + 1) t no_past)) (counted_at_start c cfg t x e);
    prints = start_has_prints c cfg;
    keep_none = start_keeps_none c cfg;
  }

  -- ---- a list of events

  one : (w : Told) (steps : List PlainStep) (h : Happening) → Follows w.core w.pasts steps → Follows (told c w h).core (told c w h).pasts (steps ++ shown c w h)
  one w steps (Of t) l = (elim (slice_get w.core.threads t) as (λ (o : Option Thread). slice_get w.core.threads t ≡ o → Follows (event c w.core t) (pasts_after c w t o) (steps ++ shown_of c w t o)) [
    | None ↦ λ e. subst (λ (s : Core). Follows s w.pasts (steps ++ [])) (sym (ap (event_of c w.core t) e)) (subst (λ (ss : List PlainStep). Follows w.core w.pasts ss) (sym (append-nil steps)) l)
    | Some x ↦ λ e. goes_on w.core w.pasts steps l t x e
  ]) refl
  one w steps NextPart l = subst (λ (ss : List PlainStep). Follows (next c w.core) w.pasts ss) (sym (append-nil steps)) (begins w.core w.pasts steps l)

  all : (hs : List Happening) (w : Told) (steps : List PlainStep) → Follows w.core w.pasts steps → Follows (all_told c w hs).core (all_told c w hs).pasts (steps ++ shadow_from c w hs)
  all [] w steps l = subst (λ (ss : List PlainStep). Follows w.core w.pasts ss) (sym (append-nil steps)) l
  all (h ∷ hs) w steps l =
      subst (λ (ss : List PlainStep). Follows (all_told c (told c w h) hs).core (all_told c (told c w h) hs).pasts ss) (append_assoc steps (shown c w h) (shadow_from c (told c w h) hs))
      (all hs (told c w h) (steps ++ shown c w h) (one w steps h l))

  core_told : (hs : List Happening) (w : Told) → (all_told c w hs).core ≡ all_happened c w.core hs
  core_told [] w = refl
  core_told (h ∷ hs) w = core_told hs (told c w h)

  -- after a list of events from the start
  told_is : (hs : List Happening) → (told_after c cfg hs).core ≡ core c cfg hs
  unfolding core
  told_is hs = core_told hs (told_start c cfg)

  reached : (hs : List Happening) → Follows (core c cfg hs) (told_after c cfg hs).pasts (shadow c cfg hs)
  unfolding shadow
  reached hs = subst (λ (s : Core). Follows s (told_after c cfg hs).pasts (shadow_from c (told_start c cfg) hs)) (told_is hs) (all hs (told_start c cfg) [] start_stands)

  -- ---- a run is faithful

  counted_of_all : (hs : List Happening) → AreCounted c cfg hs
  unfolding past
  counted_of_all hs t x e = (reached hs).counts t x e

  silent_of : (hs : List Happening) (t : ℕ) → IsSilent c (core c cfg hs) t
  silent_of hs t x a e f = let l = reached hs in elided.silent c cfg l.objects l.was (core c cfg hs) t x a marked width l.facts e f

  faithful : (hs : List Happening) → IsFaithful c cfg hs
  faithful hs = record {
    plain = λ before rest e. (let l = reached before in record { state = l.state; run = l.run; agrees = l.beside.agrees; prints = l.prints });
    counts = λ before rest e. counted_of_all before;
    silent = λ before rest t e. silent_of before t;
    ends = λ r over. (let l = reached hs in subst (λ (q : Plain). EndsFit c.program (outcome (core c cfg hs)) q) (same_some (sym l.run ∙ r.run))
        (ends_are_those c cfg l.objects l.was (core c cfg hs) l.state marked l.facts l.beside l.keep_none over));
  }

  -- ---- with all facts

  abbrev with_pasts : (hs : List Happening) (s : Core) → Told
  with_pasts hs s = record { core = s; pasts = (told_after c cfg hs).pasts }

  joined_of : (w : Told) (steps : List PlainStep) (l : Follows w.core w.pasts steps) → FactsBeside c cfg w l.state
  joined_of w steps l = record {
    facts = record {
      was = l.was;
      objects = l.objects;
      world = l.world;
      frozen = frozen;
      owning = owning l.stores;
      own = l.facts.threads.own;
      started = l.facts.heap.started;
      apart = l.facts.heap.apart;
      unused = l.facts.heap.unused;
      structure = l.facts.structure;
      owners = l.facts.owners;
      waiting = l.facts.waiting;
      typed = l.facts.heap.typed;
      new_objects = l.facts.heap.new_objects;
      construction = l.built;
      attempts = record { each = l.owes };
    };
    agrees = l.beside.agrees;
    objects = l.beside.known;
    statics = l.beside.apart.there;
  }

  stands : (hs : List Happening) → RunStands c cfg hs
  stands hs = let l = reached hs in record {
    objects = l.objects;
    was = l.was;
    world = l.world;
    frozen = frozen;
    frozen_are = frozen_are;
    owning = owning l.stores;
    facts = l.facts;
    built = l.built;
    pasts = l.many;
    told_is = told_is hs;
    attempts = subst (λ (s : Core). Attempts c l.stores l.objects l.world l.was (with_pasts hs s)) (sym (told_is hs)) (record { each = l.owes });
    state = l.state;
    run = l.run;
    beside = l.beside;
    joined = subst (λ (s : Core). FactsBeside c cfg (with_pasts hs s) l.state) (sym (told_is hs)) (joined_of (with_pasts hs (core c cfg hs)) (shadow c cfg hs) l);
    counts = counted_of_all hs;
    prints = l.prints;
    keep_none = l.keep_none;
    guards = λ t x there outside. elided.guards c cfg l.objects l.was frozen (owning l.stores) l.world (core c cfg hs) t x marked width l.facts l.built there outside;
    silent = silent_of hs;
  }

abbrev beginning_of : GivenIsKept → InstructionsChangeMemory → AreEventLaws → AreElidedLaws → (c : MarkedProgram) (cfg : Config) → IsMarked c → HaveWidth cfg → AreSettings cfg → Beginning
beginning_of given memory laws elided c cfg marked width settings =
    let test = elided.frozen_test c marked.marks in
    let owned = elided.owned_test c marked.marks in
    record {
      given = given;
      memory = memory;
      laws = laws;
      elided = elided;
      c = c;
      cfg = cfg;
      frozen = test.0;
      frozen_are = test.1;
      owned = owned.0;
      owned_are = owned.1;
      marked = marked;
      width = width;
      settings = settings;
    }

pub runs_follow : GivenIsKept → InstructionsChangeMemory → RunsFollow
runs_follow given memory laws elided c cfg hs marked width settings = faithful (beginning_of given memory laws elided c cfg marked width settings) hs

pub runs_stand : GivenIsKept → InstructionsChangeMemory → AreEventLaws → AreElidedLaws → RunsStand
runs_stand given memory laws elided c cfg hs marked width settings = stands (beginning_of given memory laws elided c cfg marked width settings) hs
