-- Every event of a run leaves locks and waiting bits as it should.
use Rattle.std.proofs.Common.{◌≡◌, ℕ, List, [], ◌∷◌, Option, Some, refl, sym, subst, slice_get}
use Rattle.machine_types.specs.{Accesses.found_by, Core.{Core, Happening, Of, NextPart, all_happened, core, start, event, event_of, next}, Events.{wanted, moved}, Owners.{locks_in, references_of}}
use Rattle.machine_types.specs.{PlainMemory.{Object, start_objects}, StartLaws.phase_at_start, Threads.Thread, declared.phase.Phase.Phase}
use Rattle.laws_threads.{specs.{PartLaws.counted_next, StateLaws.counted_after}, proofs.StateSteps.set_there}
use Rattle.laws_states.specs.{ChangeLaws.{all_objects, run_objects, LocksFollow, CountsFollow, BitsFollow, EventsRespectOwners, RunsRespectOwners}, HeapFacts.{objects_of, objects_after}}
use Rattle.laws_states.specs.{RunLaws.PartsKeepThreads, SiteLaws.{EventsReachSites, SitesDiffer, SitesLieInside}, StateFacts.StateFacts}
use Rattle.laws_states.{specs.StateLaws.{ProgramsKeepThreads, StartHasState, EventsKeepState, NextKeepsState}, proofs.{EventBits.bits_by_phase, EventCounts.counts_by_phase, EventLocks.locks_by_phase}}
use Rattle.laws_states.proofs.Movers.{mover_of, known_sites, lawful_state}

pub events_respect_owners : SitesDiffer → SitesLieInside → EventsReachSites → EventsRespectOwners
events_respect_owners differ inside reach c cfg objects was s t x marked facts e =
    let is_as = (facts.structure t x e).is_as in
    let sites = known_sites differ inside reach in
    let base = lawful_state c cfg objects s marked facts.heap facts.threads in
    let mover = mover_of (record { base = base; was = was; structure = facts.structure; owners = facts.owners }) t x e in
    record {
      locks_follow = subst (λ (o : Option Thread). LocksFollow (locks_in (references_of objects) s.words) (locks_in (references_of (objects_of c.program o objects)) (event_of c s t o).words) t cfg.range x.held) (sym e)
          (locks_by_phase sites mover x.phase refl is_as);
      counts_follow = λ y at. subst (λ (z : Thread). CountsFollow (locks_in (references_of objects) s.words) x.held z.held)
          (set_there s.threads t x (moved c x x.phase (found_by s.words (wanted c x x.phase))) y e (subst (λ (o : Option Thread). slice_get (event_of c s t o).threads t ≡ Some y) e at))
          (counts_by_phase sites mover x.phase refl);
      bits_follow = subst (λ (o : Option Thread). BitsFollow s.words (event_of c s t o).words t x.phase) (sym e) (bits_by_phase sites mover facts.records x.phase refl is_as);
    }

pub runs_respect_owners : ProgramsKeepThreads → StartHasState → EventsKeepState → NextKeepsState → EventsRespectOwners → RunsRespectOwners
unfolding core
runs_respect_owners keep begin on_event on_next follow c cfg hs t x marked width set e =
    let k = facts_behind hs (start c cfg) (start_objects c.program) (phase_at_start c cfg) (begin c cfg marked parts) in
    follow c cfg (run_objects c cfg hs) k.0 (core c cfg hs) t x marked k.1 e
  where
    parts : PartsKeepThreads c cfg
    parts = keep c cfg marked set

    -- the facts go along a list of events, with the objects
    facts_behind : (hs : List Happening) (s : Core) (objects : List Object) (was : ℕ → Phase) → StateFacts c cfg objects was s → (now : ℕ → Phase) × StateFacts c cfg (all_objects c s objects hs) now (all_happened c s hs)
    facts_behind [] s objects was k = (was, k)
    facts_behind (Of t ∷ hs) s objects was k = facts_behind hs (event c s t) (objects_after c.program s t objects) (counted_after c was s t) (on_event c cfg objects was s t marked width k)
    facts_behind (NextPart ∷ hs) s objects was k = facts_behind hs (next c s) objects (counted_next c was s) (on_next c cfg objects was s marked parts k)
