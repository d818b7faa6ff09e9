-- What the access of a thread finds in a reached state, and what it leaves.
use Rattle.std.proofs.Common.{◌≡◌, ℕ, ◌<◌, ◌^◌, List, length, Option, Some, None, refl, ap, sym, subst, arith, IfSome, slice_get, slice_index}
use Rattle.jvm_types.specs.declared.program.Program.{Program}
use Rattle.checked_program.specs.MarkedProgram.{MarkedProgram, IsMarked}
use Rattle.machine_types.specs.{Accesses.{accessed, left_by, found_by}, Core.Core, Events.wanted, FoundWords.{Content, Lock, Owner, Bits, HasCount, WordFits, content_at}, Frames.top_of}
use Rattle.machine_types.specs.{Lawful.IsLawful, LockWords.lock_of, PlainMemory.Object, Threads.Thread, declared.access.Access.{Access, TheVariants.Rest}}
use Rattle.machine_types.specs.declared.{config.Config.Config, lock.LockWord.LockWord}
use Rattle.laws_states.specs.{FoundLaws.{IsOfHeap, HeapWordsFit}, LeftWords.LeftMayStand, RunFacts.{HaveWidth, AreThreads, RunFacts, AccessFits}, RunLaws.ReachedFits}
use Rattle.laws_states.specs.{SharedWords.{CountsTo, IsLock, MayStand, LocksFit, RecordsFit}, SiteLaws.{EventsReachSites, SitesLieInside}}
use Rattle.laws_states.{specs.Sites.{Site, OwnerOf, BitsOf, LockOf, site_word, IsThere, Suits, IsAccessOf, Reaches, ReachesIf}, proofs.{EventWords.phase_stores, LeftSmall.{adds_few, left_small}}}
use Rattle.laws_states.proofs.{LeftStands.word_is_lock, Movers.{LawfulState, lawful_state, lawful_mover, few_threads}, Sums.{begun_once, drawn_now_once, sums_fit}}
use Rattle.machine_types.specs.declared.lock.LockWord.TheVariants as locks

-- ---- what may stand there fits

few_counts : (range : ℕ) (lock : LockWord) → range < 2 ^ 32 → CountsTo range lock → HasCount lock
few_counts range (locks.Free c) few h = omega (arith, few, h)
few_counts range lock few h = tt

-- 0 is a free lock, no owner, and nobody who waits
zero_stands : (range : ℕ) (content : Content) → MayStand range content 0
zero_stands range Lock = word_is_lock range (locks.Free 0) (omega arith)
zero_stands range Owner = omega arith
zero_stands range Bits = omega arith
zero_stands range content = tt

site_stands : (p : Program) (objects : List Object) (s : Core) (range : ℕ) → LocksFit range objects s.words → RecordsFit s.words → (content : Content) (site : Site) → Suits content site → IsThere p objects s site
    → MayStand range content (slice_index s.words (site_word site))
site_stands p objects s range fit records Lock (LockOf reference) suits there = subst (λ (n : ℕ). IsLock range (slice_index s.words n)) there.2 (fit there.0 there.1)
site_stands p objects s range fit records Owner (OwnerOf r) suits there = records.owners r there
site_stands p objects s range fit records Bits (BitsOf r) suits there = records.bits r there
site_stands p objects s range fit records content site suits there = first_of (assumption, grind arith)

-- what is known of the word that an event accesses
pub record WordLaws : Type 0 where
  pub inside : SitesLieInside
  pub reach : EventsReachSites
  pub fit : HeapWordsFit
  pub leaves : LeftMayStand

-- a state that a run reaches
pub record RunState : Type 0 where
  pub c : MarkedProgram
  pub cfg : Config
  pub s : Core
  pub marked : IsMarked c
  pub width : HaveWidth cfg
  pub threads : AreThreads c cfg s
  pub facts : RunFacts c cfg s

module _ (laws : WordLaws) (state : RunState) where
  open laws use {inside, reach, fit, leaves}
  open state use {c, cfg, s, marked, width, threads, facts}

  abbrev lawful_one : LawfulState
  lawful_one = lawful_state c cfg facts.objects s marked facts.heap threads

  module _ (t : ℕ) (x : Thread) (there : slice_get s.threads t ≡ Some x) where
    lawful : IsLawful c x
    lawful = threads.lawful t x there

    reaches : ReachesIf c.program facts.objects s (content_at c x x.phase) (wanted c x x.phase)
    reaches = reach c facts.objects s t x marked facts.heap there lawful

    -- ---- it is inside

    lies_inside : (a : Access) → Reaches c.program facts.objects s (content_at c x x.phase) a → accessed a < length s.words
    lies_inside Rest k = omega (arith, facts.heap.unused.many, marked.checked.program.heap_from)
    lies_inside a k = subst (λ (n : ℕ). n < length s.words) (sym k.word) (inside c facts.objects s k.site marked facts.heap k.there)

    -- ---- what it finds may stand there

    word_stands : (a : Access) → IsAccessOf c.program facts.objects s (content_at c x x.phase) a → MayStand cfg.range (content_at c x x.phase) (slice_index s.words (accessed a))
    word_stands a k = subst (λ (n : ℕ). MayStand cfg.range (content_at c x x.phase) (slice_index s.words n)) (sym k.word)
        (site_stands c.program facts.objects s cfg.range facts.locks facts.records (content_at c x x.phase) k.site k.suits k.there)

    found_stands : (a : Option Access) → ReachesIf c.program facts.objects s (content_at c x x.phase) a → MayStand cfg.range (content_at c x x.phase) (found_by s.words a)
    found_stands None k = zero_stands cfg.range (content_at c x x.phase)
    found_stands (Some Rest) k = zero_stands cfg.range (content_at c x x.phase)
    found_stands (Some a) k = word_stands a k

    found_fits : WordFits c.program (content_at c x x.phase) (found_by s.words (wanted c x x.phase))
    found_fits = by_content (content_at c x x.phase) refl (found_stands (wanted c x x.phase) reaches)
      where
        of_heap : (k : Content) → content_at c x x.phase ≡ k → IsOfHeap k → WordFits c.program k (found_by s.words (wanted c x x.phase))
        of_heap k e is = subst (λ (n : Content). WordFits c.program n (found_by s.words (wanted c x x.phase))) e
            (fit c facts.objects s t x marked facts.heap there lawful (subst IsOfHeap (sym e) is))

        by_content : (k : Content) → content_at c x x.phase ≡ k → MayStand cfg.range k (found_by s.words (wanted c x x.phase)) → WordFits c.program k (found_by s.words (wanted c x x.phase))
        by_content Lock e h = (h.is, few_counts cfg.range (lock_of (found_by s.words (wanted c x x.phase))) width.range h.counts)
        by_content Owner e h = h
        by_content Bits e h = h
        by_content k e h = of_heap k e tt

    -- ---- what it leaves is a number of 64 bits

    settings : x.cfg.range ≡ cfg.range
    settings = ap (λ (k : Config). k.range) (threads.own t x there).settings

    left_at_site : (a : Access) → wanted c x x.phase ≡ Some a → IsAccessOf c.program facts.objects s (content_at c x x.phase) a → left_by a (slice_index s.words (accessed a)) < 2 ^ 64
    left_at_site a e k =
        let stores = phase_stores (lawful_mover lawful_one t x there) in
        let sum = sums_fit lawful_one width facts.counters a _ _ (begun_once x.phase (top_of c.program x.frames)) (drawn_now_once x.phase) (adds_few c x x.phase a e stores) in
        let found = subst (λ (n : ℕ). MayStand n (content_at c x x.phase) (slice_index s.words (accessed a))) (sym settings) (word_stands a k) in
        let left = leaves c x a (slice_index s.words (accessed a)) (few_threads (lawful_mover lawful_one t x there)) lawful.bounded e found in
        left_small c x x.phase a (slice_index s.words (accessed a)) (omega (arith, settings, width.range)) e (facts.small (accessed a)) sum stores left

    left_small_by : (a : Access) → wanted c x x.phase ≡ Some a → Reaches c.program facts.objects s (content_at c x x.phase) a → left_by a (slice_index s.words (accessed a)) < 2 ^ 64
    left_small_by Rest e k = facts.small 0
    left_small_by a e k = left_at_site a e k

    pub leaves_small : (a : Access) → wanted c x x.phase ≡ Some a → left_by a (slice_index s.words (accessed a)) < 2 ^ 64
    leaves_small a e = left_small_by a e (subst (ReachesIf c.program facts.objects s (content_at c x x.phase)) e reaches)

    pub fits_so : AccessFits c s x
    fits_so = record {
      inside = (elim (wanted c x x.phase) as (λ (o : Option Access). ReachesIf c.program facts.objects s (content_at c x x.phase) o → IfSome o (λ a. accessed a < length s.words))
          [ None ↦ λ k. tt | Some a ↦ λ k. lies_inside a k ]) reaches;
      sum = by_sum (wanted c x x.phase) refl;
      found = found_fits;
    }
      where
        by_sum : (o : Option Access) → wanted c x x.phase ≡ o → IfSome o (λ a. left_by a (slice_index s.words (accessed a)) < 2 ^ 64)
        by_sum None e = tt
        by_sum (Some a) e = leaves_small a e

pub reached_fits : SitesLieInside → EventsReachSites → HeapWordsFit → LeftMayStand → ReachedFits
reached_fits inside reach fit leaves c cfg s t x marked width threads facts there =
    fits_so (record { inside = inside; reach = reach; fit = fit; leaves = leaves }) (record { c = c; cfg = cfg; s = s; marked = marked; width = width; threads = threads; facts = facts }) t x there
