-- An event keeps what holds of the words in every reached state, and its thread stays lawful.
use Rattle.std.proofs.{Common.{◌≡◌, ℕ, zero, suc, ◌<◌, ◌^◌, List, ◌∷◌, Option, Some, None, refl, ap, ◌∙◌, slice_get, slice_index, slice_set}, lemmas.List.length-set}
use Rattle.machine_types.specs.{Accesses.{accessed, left_by, found_by, words_after}, Core.{event, event_of}, Events.{wanted, moved}, Facts.IsThread, Lawful.IsLawful, Threads.Thread}
use Rattle.machine_types.specs.declared.access.Access.{Access, TheVariants.Rest}
use Rattle.laws_threads.specs.{GivenThread.{Given, given_of, GivenIsKept}, LawfulLaws.LawfulIsKept, PartLaws.{PartsFit, EventsFitParts}}
use Rattle.laws_states.specs.{FoundLaws.HeapWordsFit, HeapFacts.objects_after, HeapLaws.EventsKeepHeap, KeptWords.{EventsKeepLocks, EventsKeepRecords, EventsKeepCounters}, LeftWords.LeftMayStand}
use Rattle.laws_states.specs.{RunFacts.{AreThreads, RunFacts}, RunLaws.{EventsKeepFacts, EventsKeepThreads, ReachedFits}, SiteLaws.{EventsReachSites, SitesLieInside}}
use Rattle.laws_states.proofs.{PartsEvents.at_each, Reached.{leaves_small, RunState, WordLaws}}

set_each : (P : ℕ → Type 0) (words : List ℕ) (w v : ℕ) → P v → ((i : ℕ) → P (slice_index words i)) → (i : ℕ) → P (slice_index (slice_set words w v) i)
set_each P (n ∷ ns) zero v h all zero = h
set_each P (n ∷ ns) (suc w) v h all zero = all zero
set_each P (n ∷ ns) (suc w) v h all (suc i) = set_each P ns w v h (λ j. all (suc j)) i
set_each P words w v h all i = all i

module _ (laws : WordLaws) (state : RunState) (t : ℕ) where
  open state use {c, cfg, s, marked, threads, facts}

  -- ---- each word stays a number of 64 bits

  module _ (x : Thread) (there : slice_get s.threads t ≡ Some x) where
    small_by : (o : Option Access) → wanted c x x.phase ≡ o → (i : ℕ) → slice_index (words_after s.words o) i < 2 ^ 64
    small_by None e i = facts.small i
    small_by (Some Rest) e i = facts.small i
    small_by (Some a) e i = set_each (λ n. n < 2 ^ 64) s.words (accessed a) (left_by a (slice_index s.words (accessed a))) (leaves_small laws state t x there a e) facts.small i

  words_small : (o : Option Thread) → slice_get s.threads t ≡ o → (i : ℕ) → slice_index (event_of c s t o).words i < 2 ^ 64
  words_small None e i = facts.small i
  words_small (Some x) e i = small_by x e (wanted c x x.phase) refl i

  -- ---- all that holds of the words

  event_keeps : EventsKeepHeap → EventsKeepLocks → EventsKeepRecords → EventsKeepCounters → RunFacts c cfg (event c s t)
  event_keeps heap locks records counters = record {
    objects = objects_after c.program s t facts.objects;
    heap = heap c facts.objects s t marked facts.heap (threads.lawful t);
    locks = locks c cfg facts.objects s t marked facts.heap threads facts.locks;
    records = records c cfg facts.objects s t marked facts.heap threads facts.records;
    counters = counters c cfg facts.objects s t marked facts.heap threads facts.counters;
    small = words_small (slice_get s.threads t) refl;
  }

pub events_keep_facts : SitesLieInside → EventsReachSites → HeapWordsFit → LeftMayStand → EventsKeepHeap → EventsKeepLocks → EventsKeepRecords → EventsKeepCounters → EventsKeepFacts
events_keep_facts inside reach fit leaves heap locks records counters c cfg s t marked width threads facts =
    let state : RunState = record { c = c; cfg = cfg; s = s; marked = marked; width = width; threads = threads; facts = facts } in
    event_keeps (record { inside = inside; reach = reach; fit = fit; leaves = leaves }) state t heap locks records counters

-- ---- the threads

module _ (given : GivenIsKept) (state : RunState) (t : ℕ) where
  open state use {c, cfg, s, marked, width, threads, facts}

  module _ (x : Thread) (there : slice_get s.threads t ≡ Some x) where
    abbrev now : Thread
    now = moved c x x.phase (found_by s.words (wanted c x x.phase))

    now_thread : IsLawful c now → IsThread c cfg t now
    now_thread lawful =
        let own : IsThread c cfg t x = threads.own t x there in
        let same : given_of now ≡ given_of x = given c x x.phase (found_by s.words (wanted c x x.phase)) in
        record {
          number = ap (λ (g : Given). g.number) same ∙ own.number;
          program = ap (λ (g : Given). g.program) same ∙ own.program;
          settings = ap (λ (g : Given). g.cfg) same ∙ own.settings;
          rooted = lawful.rooted;
          part = λ n. ap (λ (g : Given). g.part) same ∙ own.part n;
        }

    thread_kept : IsLawful c now → PartsFit (event_of c s t (Some x)).threads → AreThreads c cfg (event_of c s t (Some x))
    thread_kept lawful parts = record {
      count = length-set s.threads t now ∙ threads.count;
      own = at_each s.threads t x now (λ u y. IsThread c cfg u y) there (now_thread lawful) threads.own;
      lawful = at_each s.threads t x now (λ u y. IsLawful c y) there lawful threads.lawful;
      parts = parts;
    }

  threads_kept : LawfulIsKept → ReachedFits → EventsFitParts → AreThreads c cfg (event_of c s t (slice_get s.threads t))
  threads_kept lawfully reached parts = by_thread (slice_get s.threads t) refl (parts c s t (λ x got. ap (λ (g : Given). g.part) (given c x x.phase got)) threads.parts)
    where
      by_thread : (o : Option Thread) → slice_get s.threads t ≡ o → PartsFit (event_of c s t o).threads → AreThreads c cfg (event_of c s t o)
      by_thread None e k = threads
      by_thread (Some x) e k = thread_kept x e (lawfully c x _ marked (threads.lawful t x e) (reached c cfg s t x marked width threads facts e).found) k

pub events_keep_threads : GivenIsKept → LawfulIsKept → ReachedFits → EventsFitParts → EventsKeepThreads
events_keep_threads given lawfully reached parts c cfg s t marked width threads facts =
    threads_kept given (record { c = c; cfg = cfg; s = s; marked = marked; width = width; threads = threads; facts = facts }) t lawfully reached parts
