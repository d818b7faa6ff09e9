-- What the law of an event begins with: a state, the thread that moves, what is known of both.
use Rattle.std.proofs.{Common.{◌≡◌, ℕ, ◌≤◌, Bool, cond, List, Some, None, sym, ap, ◌∙◌, subst, arith, slice_get}, lemmas.Bool.ne_eqb}
use Rattle.checked_program.specs.MarkedProgram.{MarkedProgram, IsMarked}
use Rattle.machine_types.specs.{Bounds.PhaseFits, Core.Core, Events.wanted, FoundWords.content_at, Lawful.IsLawful, Owners.{Locks, Owns, Owners, locks_in, references_of}, PlainMemory.Object}
use Rattle.machine_types.specs.{Structure.{PhaseShows, IsStructured, Structure}, Threads.Thread, Waiting.Waiting, declared.{config.Config.Config, phase.Phase.Phase}}
use Rattle.laws_threads.specs.StateLaws.{counted_of, counted_phase_at}
use Rattle.laws_states.specs.{HeapFacts.HeapFacts, RunFacts.AreThreads, SharedWords.RecordsFit, SiteLaws.{EventsReachSites, SitesDiffer, SitesLieInside}, Sites.ReachesIf}

-- which word an event accesses, and that no two things share one
pub record KnownSites : Type 0 where
  pub differ : SitesDiffer
  pub inside : SitesLieInside
  pub reach : EventsReachSites

abbrev pub known_sites : SitesDiffer → SitesLieInside → EventsReachSites → KnownSites
known_sites differ inside reach = record { differ = differ; inside = inside; reach = reach }

-- ---- what the words hold of objects

pub record HeapState : Type 0 where
  pub c : MarkedProgram
  pub marked : IsMarked c
  pub objects : List Object
  pub s : Core
  pub facts : HeapFacts c objects s

pub record HeapMover : Type 0 where
  pub state : HeapState
  pub t : ℕ
  pub x : Thread
  pub there : slice_get state.s.threads t ≡ Some x
  pub lawful : IsLawful state.c x

abbrev pub heap_state : (c : MarkedProgram) (marked : IsMarked c) (objects : List Object) (s : Core)
    → HeapFacts c objects s → HeapState
heap_state c marked objects s facts =
    record { c = c; marked = marked; objects = objects; s = s; facts = facts }

abbrev pub heap_mover : (c : MarkedProgram) (marked : IsMarked c) (objects : List Object) (s : Core)
    → HeapFacts c objects s → (t : ℕ) (x : Thread) → slice_get s.threads t ≡ Some x → IsLawful c x
    → HeapMover
heap_mover c marked objects s facts t x there lawful =
    let state = heap_state c marked objects s facts in
    record { state = state; t = t; x = x; there = there; lawful = lawful }

pub few_threads : (mover : HeapMover) → mover.x.number ≤ 8
few_threads m = omega (arith, m.lawful.bounded.number, m.state.marked.checked.program.workers)

-- ---- and the threads are lawful

pub record LawfulState : Type 0 where
  pub heap : HeapState
  pub cfg : Config
  pub threads : AreThreads heap.c cfg heap.s

abbrev pub lawful_state : (c : MarkedProgram) (cfg : Config) (objects : List Object) (s : Core)
    → IsMarked c → HeapFacts c objects s → AreThreads c cfg s → LawfulState
lawful_state c cfg objects s marked facts threads =
    record { heap = heap_state c marked objects s facts; cfg = cfg; threads = threads }

abbrev pub lawful_mover : (state : LawfulState) (t : ℕ) (x : Thread)
    → slice_get state.heap.s.threads t ≡ Some x → HeapMover
lawful_mover state t x there =
    let lawful = state.threads.lawful t x there in
    record { state = state.heap; t = t; x = x; there = there; lawful = lawful }

-- ---- and who holds which lock, by the phase of each thread that counts

pub record LockState : Type 0 where
  pub base : LawfulState
  pub was : ℕ → Phase
  pub structure : Structure base.heap.c was base.heap.s.threads
  pub owners : Owners (references_of base.heap.objects) was base.heap.s

abbrev pub locks_of : HeapState → Locks
locks_of state = locks_in (references_of state.objects) state.s.words

pub record LockMover : Type 0 where
  pub state : LockState
  pub t : ℕ
  pub x : Thread
  pub there : slice_get state.base.heap.s.threads t ≡ Some x
  pub lawful : IsLawful state.base.heap.c x
  pub structured : IsStructured state.base.heap.c (state.was t) x
  pub number : x.number ≡ t
  pub own : Owns (locks_of state.base.heap) state.owners.count t (state.was t) x
  pub most : (m : ℕ) → state.owners.count m ≤ x.cfg.range

abbrev pub mover_of : (state : LockState) (t : ℕ) (x : Thread)
    → slice_get state.base.heap.s.threads t ≡ Some x → LockMover
mover_of state t x there = record {
  state = state;
  t = t;
  x = x;
  there = there;
  lawful = state.base.threads.lawful t x there;
  structured = state.structure t x there;
  number = (state.base.threads.own t x there).number;
  own = state.owners.each t x there;
  most = λ m. state.owners.within m t x there;
}

abbrev pub on_heap : LockMover → HeapMover
on_heap m =
    record { state = m.state.base.heap; t = m.t; x = m.x; there = m.there; lawful = m.lawful }

module _ (mover : LockMover) where
  open mover use {t, x, there, lawful, structured, state.was}
  open mover.state.base.heap use {c, marked, objects, s, facts}

  pub fits_bounds : (phase : Phase) → x.phase ≡ phase → PhaseFits phase
  fits_bounds phase e = subst PhaseFits e lawful.bounded.phase

  abbrev Shows : Phase → Type 0
  Shows phase = PhaseShows c phase x.frames structured.stands.shown x.held x.attempt

  pub phase_shows : (phase : Phase) → was t ≡ phase → Shows phase
  phase_shows phase e = subst Shows e structured.stands.phase_shows

  abbrev Reached : Phase → Type 0
  Reached phase = ReachesIf c.program objects s (content_at c x phase) (wanted c x phase)

  pub phase_reaches : KnownSites → (phase : Phase) → x.phase ≡ phase → Reached phase
  phase_reaches sites phase e =
      subst Reached e (sites.reach c objects s t x marked facts there lawful)

-- where there is no thread t, the phases that count stay
pub phase_stays : (was : ℕ → Phase) (threads : List Thread) (t u : ℕ) (y : Thread)
    → slice_get threads t ≡ None → slice_get threads u ≡ Some y
    → counted_phase_at was t threads u ≡ was u
phase_stays was threads t u y none there =
    let bad : u ≡ t → Some y ≡ None = λ e. sym there ∙ ap (slice_get threads) e ∙ none in
    ap (λ (b : Bool). cond b (counted_of (was t) (slice_get threads t)) (was u))
    (ne_eqb u t (λ e. let same = bad e in cc))

-- ---- and who waits

pub record WaitMover : Type 0 where
  pub mover : LockMover
  pub records : RecordsFit mover.state.base.heap.s.words
  pub waiting : Waiting mover.state.was mover.state.base.heap.s

-- ---- a phase by which a thread owns what the words say of it

abbrev pub OwnsAs : LockMover → Phase → Type 0
OwnsAs m was = Owns (locks_of m.state.base.heap) m.state.owners.count m.t was m.x
