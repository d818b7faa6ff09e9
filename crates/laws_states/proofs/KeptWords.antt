-- An event keeps what stands in the words for locking, and how far the counters have come.
use Rattle.std.proofs.Common.{◌≡◌, ℕ, Option, Some, None, refl, ap, sym, subst, slice_get}
use Rattle.machine_types.specs.{Accesses.{found_by, words_after}, Core.event_of, Events.{wanted, moved}, Frames.top_of, Lawful.IsLawful, Threads.Thread}
use Rattle.machine_types.specs.declared.{access.Access.TheVariants.Add, config.Config.Config}
use Rattle.laws_states.specs.{Counters.CountersFit, HeapFacts.objects_of, KeptWords.{EventsKeepLocks, EventsKeepRecords, EventsKeepCounters, SumsFit}, LeftWords.LeftMayStand}
use Rattle.laws_states.{specs.{SharedWords.{LocksFit, RecordsFit}, SiteLaws.{EventsReachSites, SitesDiffer, SitesLieInside}}, proofs.CountedEvents.{holds_flat, event_counts}}
use Rattle.laws_states.proofs.{EventWords.{phase_stores, records_fit, locks_fit, counters_grow}, LeftSmall.adds_few, Sums.{begun_once, drawn_now_once, sums_fit, counters_after}}
use Rattle.laws_states.proofs.Movers.{KnownSites, known_sites, LawfulState, lawful_state, lawful_mover}

module _ (state : LawfulState) (t : ℕ) where
  open state use {cfg, threads, heap.{c, objects, s}}

  settings : (x : Thread) → slice_get s.threads t ≡ Some x → x.cfg.range ≡ cfg.range
  settings x there = ap (λ (k : Config). k.range) (threads.own t x there).settings

  module _ (sites : KnownSites) where
    counters_kept : (o : Option Thread) → slice_get s.threads t ≡ o → CountersFit c.program s → CountersFit c.program (event_of c s t o)
    counters_kept None there fit = fit
    counters_kept (Some x) there fit =
        let k : IsLawful c x = threads.lawful t x there in
        let grow = counters_grow (lawful_mover state t x there) sites in
        counters_after c.program s.threads s.words (words_after s.words (wanted c x x.phase)) t x (moved c x x.phase (found_by s.words (wanted c x x.phase))) x.phase _ there refl fit
        (event_counts c x x.phase (found_by s.words (wanted c x x.phase)) refl (holds_flat c k.was x k.structured)) grow.free grow.tickets grow.records

    module _ (leaves : LeftMayStand) where
      locks_kept : (o : Option Thread) → slice_get s.threads t ≡ o → LocksFit cfg.range objects s.words → LocksFit cfg.range (objects_of c.program o objects) (event_of c s t o).words
      locks_kept None there fit = fit
      locks_kept (Some x) there fit =
          let same = settings x there in
          subst (λ (n : ℕ). LocksFit n (objects_of c.program (Some x) objects) (words_after s.words (wanted c x x.phase))) same
          (locks_fit (lawful_mover state t x there) sites leaves (subst (λ (n : ℕ). LocksFit n objects s.words) (sym same) fit))

      records_kept : (o : Option Thread) → slice_get s.threads t ≡ o → RecordsFit s.words → RecordsFit (event_of c s t o).words
      records_kept None there fit = fit
      records_kept (Some x) there fit = records_fit (lawful_mover state t x there) sites leaves fit

pub events_keep_locks : SitesDiffer → SitesLieInside → EventsReachSites → LeftMayStand → EventsKeepLocks
events_keep_locks differ inside reach leaves c cfg objects s t marked heap threads = locks_kept (lawful_state c cfg objects s marked heap threads) t (known_sites differ inside reach) leaves (slice_get s.threads t) refl

pub events_keep_records : SitesDiffer → SitesLieInside → EventsReachSites → LeftMayStand → EventsKeepRecords
events_keep_records differ inside reach leaves c cfg objects s t marked heap threads = records_kept (lawful_state c cfg objects s marked heap threads) t (known_sites differ inside reach) leaves (slice_get s.threads t) refl

pub events_keep_counters : SitesDiffer → SitesLieInside → EventsReachSites → EventsKeepCounters
events_keep_counters differ inside reach c cfg objects s t marked heap threads = counters_kept (lawful_state c cfg objects s marked heap threads) t (known_sites differ inside reach) (slice_get s.threads t) refl

pub all_sums_fit : SumsFit
all_sums_fit c cfg objects s t x word v marked width heap threads fit there wants =
    let state = lawful_state c cfg objects s marked heap threads in
    let adds = adds_few c x x.phase (Add word v) wants (phase_stores (lawful_mover state t x there)) in
    sums_fit state width fit (Add word v) _ _ (begun_once x.phase (top_of c.program x.frames)) (drawn_now_once x.phase) adds word v refl
