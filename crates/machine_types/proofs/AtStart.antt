-- The facts at the start of a run.
use Rattle.std.proofs.Common.{◌≡◌, ◌<◌, ℕ, zero, suc, ◌+◌, ◌*◌, ◌-◌, Bool, true, false, List, [], ◌∷◌, ◌++◌, Some, None, refl, sym, ◌∙◌, ap, subst, arith, map, not, flat_map, replicate, slice_get, slice_index, slice_index_or, Contains, IsTrue, ◌==◌}
use Rattle.std.specs.{Int.Bits.and_zero_l, List.{AllByRecursion, range_with_len}}
use Rattle.lists.proofs.TestLaws.{first_true, second_true, same_number}
use Rattle.jvm_types.specs.{Numbers.{has_flag, has_number}, ProgramInvariant.words_of, declared.{fixed_words.TheConstants.MONITOR_RECORDS, program.Program.Program}}
use Rattle.checked_program.specs.MarkedProgram.{MarkedProgram}
use Rattle.machine_types.specs.{Attempts.OwesNothing, Bounds.FramesFit, Construction.{Owning, ThreadKeeps}, Core.{start, start_thread, part_phase}, Facts.IsThread, History.{Past, no_past, told_start, past_at}}
use Rattle.machine_types.specs.{Monitors.bit_of, Parts.init_roots, PlainMemory.Object, ReadyObjects.ready_classes, StartLaws.phase_at_start}
use Rattle.machine_types.specs.{StartWords.{start_words, object_words, class_words, classes_of}, Structure.{IsStructured, Structure}, Threads.{Thread, fresh}, Typed.{Classes, HasClass, ThreadHolds}}
use Rattle.machine_types.specs.{Waiting.{is_bit_set, Waits, Waiting}, Words.bits_word, Worlds.{Builder, World, IsOwnOrFinished, IsViewOf}, declared.{config.Config.Config, lock.Held.Held}}
use Rattle.machine_types.specs.declared.phase.Phase.{Phase}
use Rattle.jvm_types.specs.declared.outcome.End.TheVariants as ends
use Rattle.machine_types.specs.declared.phase.Phase.TheVariants as phases

-- ---- each thread is a fresh one

pub thread_in : {X : Type 0} (f : ℕ → X) (from n t : ℕ) (s : X) → slice_get (map f (range_with_len from n)) t ≡ Some s → f (from + t) ≡ s
thread_in f from zero t s e = cc
thread_in f from (suc n) zero s e = let x : f from ≡ s = cc in let y : from ≡ from + 0 = omega arith in subst (λ (i : ℕ). f i ≡ s) y x
thread_in f from (suc n) (suc t) s e = let y : (from + 1) + t ≡ from + suc t = omega arith in subst (λ (i : ℕ). f i ≡ s) y (thread_in f (from + 1) n t s e)

pub is_start_thread : (c : MarkedProgram) (cfg : Config) (t : ℕ) (s : Thread) → slice_get (start c cfg).threads t ≡ Some s → start_thread c cfg t ≡ s
is_start_thread c cfg t s e = let y : 0 + t ≡ t = omega arith in subst (λ (i : ℕ). start_thread c cfg i ≡ s) y (thread_in (start_thread c cfg) 0 (c.program.workers + 1) t s e)

pub data IsFreshPhase : Phase → Type 0 where
  starts : IsFreshPhase phases.Start
  idles : IsFreshPhase phases.Idle
  is_over : IsFreshPhase (phases.Ended ends.Returned)

part_is_fresh : (roots : List ℕ) → IsFreshPhase (part_phase roots)
part_is_fresh [] = is_over
part_is_fresh (number ∷ roots) = starts

-- ---- what each thread was given

pub all_among : (ys xs : List ℕ) → ((n : ℕ) → has_number xs n ≡ true → has_number ys n ≡ true) → AllByRecursion (λ n. IsTrue (has_number ys n)) xs
all_among ys [] among = tt
all_among ys (x ∷ xs) among = (among x (first_true (x == x) (has_number xs x) (same_number x x refl)), all_among ys xs (λ n e. among n (second_true (x == n) (has_number xs n) e)))

part_frames : (roots : List ℕ) → FramesFit (part_phase roots) [] roots
part_frames [] = tt
part_frames (number ∷ roots) = refl

is_thread : (c : MarkedProgram) (cfg : Config) (t : ℕ) → IsThread c cfg t (start_thread c cfg t)
is_thread c cfg zero = record {
  number = refl;
  program = refl;
  settings = refl;
  rooted = record { roots = all_among (init_roots c.program) (init_roots c.program) (λ n e. e); frames = part_frames (init_roots c.program) };
  part = λ n. refl;
}
is_thread c cfg (suc t) = record { number = refl; program = refl; settings = refl; rooted = record { roots = tt; frames = tt }; part = λ n. refl }

pub has_threads : (c : MarkedProgram) (cfg : Config) (t : ℕ) (x : Thread) → slice_get (start c cfg).threads t ≡ Some x → IsThread c cfg t x
has_threads c cfg t x e = subst (λ (y : Thread). IsThread c cfg t y) (is_start_thread c cfg t x e) (is_thread c cfg t)

-- ---- structure

fresh_is_structured : (m c : MarkedProgram) (cfg : Config) (t : ℕ) (phase : Phase) (roots : List ℕ) → IsFreshPhase phase → IsStructured m phase (fresh c cfg t phase roots)
fresh_is_structured m c cfg t _ roots starts = record { is_as = refl; stands = record { shown = []; show = refl; depths = λ n. refl; once = tt; phase_shows = refl }; attempt = tt }
fresh_is_structured m c cfg t _ roots idles = record { is_as = refl; stands = record { shown = []; show = refl; depths = λ n. refl; once = tt; phase_shows = refl }; attempt = tt }
fresh_is_structured m c cfg t _ roots is_over = record { is_as = refl; stands = record { shown = []; show = refl; depths = λ n. refl; once = tt; phase_shows = refl }; attempt = tt }

structured : (m c : MarkedProgram) (cfg : Config) (i : ℕ) → IsStructured m (phase_at_start c cfg i) (start_thread c cfg i)
structured m c cfg zero = fresh_is_structured m c cfg 0 (part_phase (init_roots c.program)) (init_roots c.program) (part_is_fresh (init_roots c.program))
structured m c cfg (suc i) = fresh_is_structured m c cfg (suc i) phases.Idle [] idles

pub is_structured : (c : MarkedProgram) (cfg : Config) → Structure c (phase_at_start c cfg) (start c cfg).threads
is_structured c cfg t s e = subst (λ (x : Thread). IsStructured c (phase_at_start c cfg t) x) (is_start_thread c cfg t s e) (structured c c cfg t)

-- ---- types

fresh_holds : (m : MarkedProgram) (is : Classes) (c : MarkedProgram) (cfg : Config) (t : ℕ) (phase : Phase) (roots : List ℕ) → IsFreshPhase phase → ThreadHolds m is (fresh c cfg t phase roots)
fresh_holds m is c cfg t _ roots starts = record { phase = tt; attempt = tt }
fresh_holds m is c cfg t _ roots idles = record { phase = tt; attempt = tt }
fresh_holds m is c cfg t _ roots is_over = record { phase = tt; attempt = tt }

holds : (m : MarkedProgram) (is : Classes) (c : MarkedProgram) (cfg : Config) (i : ℕ) → ThreadHolds m is (start_thread c cfg i)
holds m is c cfg zero = fresh_holds m is c cfg 0 (part_phase (init_roots c.program)) (init_roots c.program) (part_is_fresh (init_roots c.program))
holds m is c cfg (suc i) = fresh_holds m is c cfg (suc i) phases.Idle [] idles

pub is_typed : (c : MarkedProgram) (cfg : Config) (objects : List Object) (t : ℕ) (x : Thread) → slice_get (start c cfg).threads t ≡ Some x → ThreadHolds c (HasClass objects) x
is_typed c cfg objects t x e = subst (λ (y : Thread). ThreadHolds c (HasClass objects) y) (is_start_thread c cfg t x e) (holds c (HasClass objects) c cfg t)

-- ---- construction

none_held : (w : World) (next t : ℕ) (h : Held) → Contains [] h → IsOwnOrFinished w next t h.monitor
none_held w next t h k = let lt : k.0 < 0 = k.1 in absurd (grind arith)

-- outside an attempt a thread sees the world as it is
sees_all : (w : World) (t : ℕ) → IsViewOf w w t None
sees_all w t = record {
  same = λ e v. refl;
  others = λ v f. refl;
  own = λ v b d e k h. let g : Some b ≡ Some d = sym e ∙ h in let i : b ≡ d = cc in subst (λ (x : Builder). x.thread ≡ t) i k;
}

fresh_keeps : (m : MarkedProgram) (frozen : ℕ → Bool) (own : Owning) (w : World) (next : ℕ) (c : MarkedProgram) (cfg : Config) (t i : ℕ) (phase : Phase) (roots : List ℕ) → IsFreshPhase phase → ThreadKeeps m frozen own w next t phase (fresh c cfg i phase roots)
fresh_keeps m frozen own w next c cfg t i _ roots starts = record { now = w; now_is = sees_all w t; now_world = λ k. k; frames = tt; phase = tt; held = λ h k. none_held w next t h k; attempt = tt }
fresh_keeps m frozen own w next c cfg t i _ roots idles = record { now = w; now_is = sees_all w t; now_world = λ k. k; frames = tt; phase = tt; held = λ h k. none_held w next t h k; attempt = tt }
fresh_keeps m frozen own w next c cfg t i _ roots is_over = record { now = w; now_is = sees_all w t; now_world = λ k. k; frames = tt; phase = tt; held = λ h k. none_held w next t h k; attempt = tt }

thread_keeps : (m : MarkedProgram) (frozen : ℕ → Bool) (own : Owning) (w : World) (next : ℕ) (c : MarkedProgram) (cfg : Config) (t i : ℕ) → ThreadKeeps m frozen own w next t (phase_at_start c cfg i) (start_thread c cfg i)
thread_keeps m frozen own w next c cfg t zero = fresh_keeps m frozen own w next c cfg t 0 (part_phase (init_roots c.program)) (init_roots c.program) (part_is_fresh (init_roots c.program))
thread_keeps m frozen own w next c cfg t (suc i) = fresh_keeps m frozen own w next c cfg t (suc i) phases.Idle [] idles

pub keeps : (c : MarkedProgram) (cfg : Config) (frozen : ℕ → Bool) (own : Owning) (w : World) (next t : ℕ) (x : Thread) → slice_get (start c cfg).threads t ≡ Some x → ThreadKeeps c frozen own w next t (phase_at_start c cfg t) x
keeps c cfg frozen own w next t x e = subst (λ (y : Thread). ThreadKeeps c frozen own w next t (phase_at_start c cfg t) y) (is_start_thread c cfg t x e) (thread_keeps c frozen own w next c cfg t t)

-- ---- attempts

in_replicated : (n t : ℕ) → slice_index_or (replicate n no_past) t no_past ≡ no_past
in_replicated zero t = refl
in_replicated (suc n) zero = refl
in_replicated (suc n) (suc t) = in_replicated n t

pub owes_nothing : (c : MarkedProgram) (cfg : Config) (t : ℕ) → OwesNothing (past_at (told_start c cfg) t)
owes_nothing c cfg t = subst (λ (d : Past). OwesNothing d) (sym (in_replicated (c.program.workers + 1) t)) (record { due = refl; pending = refl })

-- ---- waiting

none_set : (u : ℕ) → has_flag u 0 ≡ false
none_set u = ap (λ (n : ℕ). not (n == 0)) (and_zero_l u)

-- behind the first four words the monitor records are 0
in_zeros : (n k : ℕ) (xs ys zs : List ℕ) → k < n → slice_index (replicate n 0 ++ xs ++ ys ++ zs) k ≡ 0
in_zeros zero k xs ys zs lt = absurd (grind arith)
in_zeros (suc n) zero xs ys zs lt = refl
in_zeros (suc n) (suc k) xs ys zs lt = in_zeros n k xs ys zs (omega arith)

bits_are_zero : (p : Program) (r : ℕ) → r < MONITOR_RECORDS → slice_index (start_words p) (bits_word r) ≡ 0
bits_are_zero p r lt =
    let y : suc (suc (suc (suc (1 + 2 * r)))) ≡ 5 + 2 * r = omega arith in
    subst (λ (k : ℕ). slice_index (start_words p) k ≡ 0) y (in_zeros (2 * MONITOR_RECORDS) (1 + 2 * r) (flat_map object_words ready_classes) (flat_map (class_words p.fields) (classes_of p)) (replicate (p.heap - words_of p) 0) (omega arith))

none_is_set : (p : Program) (r u : ℕ) → r < MONITOR_RECORDS → is_bit_set (start_words p) r u ≡ true → ⊥
none_is_set p r u lt e = let h : has_flag (bit_of u) 0 ≡ true = subst (λ (n : ℕ). has_flag (bit_of u) n ≡ true) (bits_are_zero p r lt) e in let g : false ≡ true = sym (none_set (bit_of u)) ∙ h in cc

fresh_waits : (words : List ℕ) (t : ℕ) (phase : Phase) → ((r : ℕ) → r < MONITOR_RECORDS → is_bit_set words r t ≡ true → ⊥) → IsFreshPhase phase → Waits words t phase
fresh_waits words t _ none starts = record { only = λ r lt e. absurd (none r lt e); must = tt }
fresh_waits words t _ none idles = record { only = λ r lt e. absurd (none r lt e); must = tt }
fresh_waits words t _ none is_over = record { only = λ r lt e. absurd (none r lt e); must = tt }

pub phase_is_fresh : (c : MarkedProgram) (cfg : Config) (t : ℕ) → IsFreshPhase (phase_at_start c cfg t)
phase_is_fresh c cfg zero = part_is_fresh (init_roots c.program)
phase_is_fresh c cfg (suc t) = idles

pub waits : (c : MarkedProgram) (cfg : Config) → Waiting (phase_at_start c cfg) (start c cfg)
waits c cfg = record {
  each = λ t x e. fresh_waits (start_words c.program) t (phase_at_start c cfg t) (λ r lt g. none_is_set c.program r t lt g) (phase_is_fresh c cfg t);
  others = λ r t lt e. absurd (none_is_set c.program r t lt e);
}
