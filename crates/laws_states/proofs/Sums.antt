-- How far the counters have come, by what all threads have done.
use Rattle.std.proofs.Common.{◌≡◌, ◌⊎◌, inl, inr, ℕ, suc, ◌+◌, ◌*◌, ◌<◌, ◌≤◌, ◌^◌, List, [], ◌∷◌, length, Option, Some, None, refl, ap, sym, subst, arith, slice_get, slice_index, slice_set}
use Rattle.std.{specs.List.sum_by, proofs.lemmas.{List.Sums.{sum_by-cons, sum_by-set}, Option.{slice_get_within, get_or_from_slice_get}}}
use Rattle.lists.proofs.ListLaws.{same_some}
use Rattle.jvm_types.specs.declared.{fixed_words.TheConstants.{NEXT_FREE_WORD, NEXT_TICKET_WORD, NEXT_RECORD_WORD}, outcome.End.End, program.Program.Program}
use Rattle.machine_types.specs.{Accesses.accessed, Bounds.{StepsFit, flat_held}, Frames.Top, Threads.Thread, declared.access.Access.{Access, TheVariants.Add}}
use Rattle.machine_types.specs.declared.{config.Config.Config, phase.Phase.Phase}
use Rattle.laws_threads.proofs.ThreadMove.{begun_by}
use Rattle.laws_states.{specs.{Counters.{CountersFit, most_size, drawn_for_flat, instructions_of, taken_of}, RunFacts.HaveWidth}, proofs.CountedEvents.{Counted, drawn_by}}
use Rattle.laws_states.proofs.{LeftSmall.{AddsFew, SumFits}, Movers.LawfulState}
use Rattle.jvm_types.specs.declared.outcome.End.TheVariants as ends
use Rattle.machine_types.specs.declared.phase.Phase.TheVariants as phases

-- ---- sums over threads

pub sum_set : {X : Type 0} (f : X → ℕ) (xs : List X) (i : ℕ) (x y : X) → slice_get xs i ≡ Some x → sum_by f (slice_set xs i y) + f x ≡ sum_by f xs + f y
sum_set f xs i x y e = subst (λ (z : _). sum_by f (slice_set xs i y) + f z ≡ sum_by f xs + f y) (get_or_from_slice_get xs i x x e) (sum_by-set f xs i y x (slice_get_within xs i x e))

-- where each one is at most 2^32
sum_few : {X : Type 0} (f : X → ℕ) (xs : List X) → ((i : ℕ) (x : X) → slice_get xs i ≡ Some x → f x ≤ 4294967296) → sum_by f xs ≤ 4294967296 * length xs
sum_few f [] h = omega arith
sum_few f (x ∷ xs) h = omega (arith, sum_by-cons f x xs, h 0 x refl, sum_few f xs (λ i y e. h (suc i) y e))

drawn_at_end : (e : End) → (drawn_for_flat (phases.Ending e) ≤ 1) × (drawn_for_flat (phases.Ended e) ≤ 1)
drawn_at_end ends.Records = (omega arith, omega arith)
drawn_at_end e = (omega arith, omega arith)

drawn_once : (phase : Phase) → drawn_for_flat phase ≤ 1
drawn_once (phases.Ending e) = (drawn_at_end e).0
drawn_once (phases.Ended e) = (drawn_at_end e).1
drawn_once phase = omega arith

steps_few : (phase : Phase) (n most : ℕ) → StepsFit phase n most → n ≤ most
steps_few phases.Run n most h = omega (arith, h)
steps_few phase n most h = h

pub begun_once : (phase : Phase) (at : Option Top) → begun_by phase at ≤ 1
begun_once phases.Run None = omega arith
begun_once phase at = omega arith

pub drawn_now_once : (phase : Phase) → drawn_by phase ≤ 1
drawn_now_once (phases.Grow m toward) = omega arith
drawn_now_once phase = omega arith

module _ (state : LawfulState) (width : HaveWidth state.cfg) where
  open state use {cfg, threads, heap.{c, marked, s}}

  few_instructions : (t : ℕ) (x : Thread) → slice_get s.threads t ≡ Some x → x.counts.instructions < 4294967296
  few_instructions t x e =
      omega (arith, steps_few x.phase x.counts.instructions x.cfg.steps ((threads.lawful t x e).bounded).steps, (ap (λ (k : Config). k.steps) (threads.own t x e).settings), width.steps)

  few_taken : (t : ℕ) (x : Thread) → slice_get s.threads t ≡ Some x → x.counts.locked + drawn_for_flat x.phase ≤ 4294967296
  few_taken t x e = omega (arith, ((threads.lawful t x e).bounded).sections, drawn_once x.phase, few_instructions t x e)

  few_threads : length s.threads ≤ 9
  few_threads = omega (arith, threads.count, marked.checked.program.workers)

  instructions_few : instructions_of s.threads ≤ 38654705664
  instructions_few = omega (arith, few_threads, sum_few (λ x. x.counts.instructions) s.threads (λ i x e. omega (arith, few_instructions i x e)))

  taken_few : taken_of s.threads ≤ 38654705664
  taken_few = omega (arith, few_threads, sum_few (λ x. x.counts.locked + drawn_for_flat x.phase) s.threads few_taken)

  -- no sum passes 64 bits
  pub sums_fit : CountersFit c.program s → (access : Access) (began drew : ℕ) → began ≤ 1 → drew ≤ 1 → AddsFew access began drew → SumFits access (slice_index s.words (accessed access))
  sums_fit counters access began drew one once few w v e =
      let same : Add w v ≡ access = same_some e in
      subst (λ (a : Access). slice_index s.words (accessed a) + v < 2 ^ 64) same
      (by_word (subst (λ (a : Access). AddsFew a began drew) (sym same) few) (subst (λ (a : Access). AddsFew a began drew) (sym same) few).counted)
    where
      at : (n : ℕ) → w ≡ n → slice_index s.words w ≡ slice_index s.words n
      at n k = ap (slice_index s.words) k

      by_word : AddsFew (Add w v) began drew → (w ≡ NEXT_FREE_WORD) ⊎ (w ≡ NEXT_TICKET_WORD) ⊎ (w ≡ NEXT_RECORD_WORD) → slice_index s.words w + v < 2 ^ 64
      by_word few (inl k) = omega (arith, at NEXT_FREE_WORD k, few.free k, one, counters.free, instructions_few, marked.checked.program.words, marked.checked.program.heap_to)
      by_word few (inr (inl k)) = omega (arith, at NEXT_TICKET_WORD k, few.tickets k, one, counters.tickets, instructions_few)
      by_word few (inr (inr k)) = omega (arith, at NEXT_RECORD_WORD k, few.records k, once, counters.records, taken_few)

-- ---- an event

-- where the counters grow by what the thread has done
pub counters_after : (p : Program) (threads : List Thread) (words after : List ℕ) (t : ℕ) (x y : Thread) (phase : Phase) (began : ℕ) → slice_get threads t ≡ Some x → x.phase ≡ phase → CountersFit p (record { words = words; threads = threads })
    → Counted began (drawn_by phase) phase x y
    → slice_index after NEXT_FREE_WORD ≤ slice_index words NEXT_FREE_WORD + most_size * began → slice_index after NEXT_TICKET_WORD ≤ slice_index words NEXT_TICKET_WORD + began → slice_index after NEXT_RECORD_WORD ≤ slice_index words NEXT_RECORD_WORD + drawn_by phase
    → CountersFit p (record { words = after; threads = slice_set threads t y })
counters_after p threads words after t x y phase began e at fit counted free tickets records =
    let instructions = sum_set (λ z. z.counts.instructions) threads t x y e in
    let flat = sum_set (λ z. flat_held z.held) threads t x y e in
    record {
      free = omega (arith, free, fit.free, instructions, counted.instructions);
      tickets = omega (arith, tickets, fit.tickets, instructions, counted.instructions);
      records = omega (arith, records, fit.records, flat, (sum_set (λ z. z.counts.locked + drawn_for_flat z.phase) threads t x y e), counted.taken, (ap drawn_for_flat at));
    }
