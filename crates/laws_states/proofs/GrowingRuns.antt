-- A run with one happening more, and that its states keep their sizes.
use Rattle.std.proofs.Common.{◌≡◌, ℕ, ◌+◌, List, [], ◌∷◌, ◌++◌, length, length-set, Option, Some, None, refl, sym, ap, ◌∙◌, slice_get, slice_set}
use Rattle.std.proofs.lemmas.List.{length-map, FromFn.length-map-range_with_len}
use Rattle.jvm_types.specs.declared.program.Program.{Program}
use Rattle.checked_program.specs.MarkedProgram.{MarkedProgram}
use Rattle.machine_types.specs.Accesses.{accessed, performed, words_after}
use Rattle.machine_types.specs.Core.{Core, Happening, Of, NextPart, all_happened, core, event, event_of, happened, next_threads, start, start_thread}
use Rattle.machine_types.{specs.{Events.wanted, Threads.Thread, declared.access.Access.{Access, TheVariants.Rest}}, proofs.Lists.got_when_set}
use Rattle.laws_states.{specs.GrowingRuns.{OneMoreHappens, RunsKeepSizes, behind, ThreadsStayOfRuns}, proofs.LeftAsTheyWere.next_left}

-- ---- one happening more

pub all_append : (c : MarkedProgram) (s : Core) (hs es : List Happening) → all_happened c s (hs ++ es) ≡ all_happened c (all_happened c s hs) es
all_append c s [] es = refl
all_append c s (h ∷ hs) es = all_append c (happened c s h) hs es

pub one_more : OneMoreHappens
unfolding core
one_more c cfg front h = all_append c (start c cfg) front (h ∷ [])

-- what each happening keeps
pub along : (P : Core → Type 0) (c : MarkedProgram) → ((s : Core) (h : Happening) → P s → P (happened c s h)) → (s : Core) (hs : List Happening) → P s → P (all_happened c s hs)
along P c keeps s [] k = k
along P c keeps s (h ∷ hs) k = along P c keeps (happened c s h) hs (keeps s h k)

-- what an event of a thread of a state leaves
pub event_is : (c : MarkedProgram) (s : Core) (t : ℕ) (x : Thread) → slice_get s.threads t ≡ Some x → event c s t ≡ record { words = words_after s.words (wanted c x x.phase); threads = slice_set s.threads t (behind c s.words x) }
event_is c s t x e = ap (event_of c s t) e

pub threads_stay : ThreadsStayOfRuns
threads_stay c cfg hs t x at =
    (hs ++ Of t ∷ [], ap (λ (s : Core). slice_get s.threads t) (one_more c cfg hs (Of t) ∙ event_is c (core c cfg hs) t x at) ∙ got_when_set (core c cfg hs).threads t x (behind c (core c cfg hs).words x) at)

-- ---- words

performed_long : (words : List ℕ) (a : Access) → length (performed words a) ≡ length words
performed_long words Rest = refl
performed_long words a = length-set words (accessed a) _

after_long : (words : List ℕ) (o : Option Access) → length (words_after words o) ≡ length words
after_long words None = refl
after_long words (Some a) = performed_long words a

event_words : (c : MarkedProgram) (s : Core) (t : ℕ) (o : Option Thread) → length (event_of c s t o).words ≡ length s.words
event_words c s t None = refl
event_words c s t (Some x) = after_long s.words (wanted c x x.phase)

happened_words : (c : MarkedProgram) (s : Core) (h : Happening) → length (happened c s h).words ≡ length s.words
happened_words c s (Of t) = event_words c s t (slice_get s.threads t)
happened_words c s NextPart = refl

-- ---- threads

event_threads : (c : MarkedProgram) (s : Core) (t : ℕ) (o : Option Thread) → length (event_of c s t o).threads ≡ length s.threads
event_threads c s t None = refl
event_threads c s t (Some x) = length-set s.threads t _

pub next_long : (p : Program) (threads : List Thread) → length (next_threads p threads) ≡ length threads
next_long p threads = sym (length-map (next_threads p threads) (λ (x : Thread). x.number))
    ∙ ap length (next_left (λ (x : Thread). x.number) (λ roots x. refl) (λ x part first. refl) p threads) ∙ length-map threads (λ (x : Thread). x.number)

happened_threads : (c : MarkedProgram) (s : Core) (h : Happening) → length (happened c s h).threads ≡ length s.threads
happened_threads c s (Of t) = event_threads c s t (slice_get s.threads t)
happened_threads c s NextPart = next_long c.program s.threads

pub runs_keep_sizes : RunsKeepSizes
unfolding core
runs_keep_sizes c cfg hs = record {
  words = along (λ s. length s.words ≡ length (start c cfg).words) c (λ s h k. happened_words c s h ∙ k) (start c cfg) hs refl;
  threads = along (λ s. length s.threads ≡ c.program.workers + 1) c (λ s h k. happened_threads c s h ∙ k) (start c cfg) hs (length-map-range_with_len (start_thread c cfg) 0 (c.program.workers + 1));
}
