-- A sure word fits; and the threads of the start.
use Rattle.std.proofs.Common.{◌≡◌, ℕ, zero, suc, ◌<◌, ◌≤◌, ◌^◌, ◌/◌, ◌%◌, nat_le, Bool, true, false, Option, Some, None, refl, sym, subst, map, ◌+◌, arith, slice_get, if◌then◌else◌}
use Rattle.std.{specs.List.range_with_len, proofs.lemmas.Bool.Decides.nat_tests}
use Rattle.lists.proofs.TestLaws.{both_are_true}
use Rattle.jvm_types.specs.declared.program.{Program.Program, Target.Target}
use Rattle.checked_program.specs.MarkedProgram.{MarkedProgram}
use Rattle.machine_types.specs.{Core.{start, start_thread}, Elision.{is_checked, looks}, Events.wanted, FoundWords.{Lock, HasCount, WordFits, effect_content, run_content, leave_content, content_at}}
use Rattle.machine_types.specs.{Frames.{Top, top_of, effect_at}, Instructions.{effect_wants, run_wants}, Lawful.IsLawful, LockWords.{lock_by, is_lock_word}, Monitors.{Claim, Has, claim}}
use Rattle.machine_types.specs.{Settings.AreSettings, Threads.{Thread, Attempt}, declared.{access.Access.{Access, TheVariants.Add}, config.Config.Config, effect.Effect.Effect}}
use Rattle.machine_types.specs.declared.{effect.Effect.TheVariants.{Goes, Calls, Writes, Indexes, Measures, Raises, Reads}, lock.Kept.Kept, phase.Phase.Phase}
use Rattle.laws_states.proofs.StartThreads.{start_threads}
use Rattle.machine_tests.specs.SureWords.{is_small_lock, is_sure}
use Rattle.machine_types.specs.declared.lock.Kept.TheVariants as keeps
use Rattle.machine_types.specs.declared.phase.Phase.TheVariants as phases

-- ---- locks

has_count : (kind upper : ℕ) → upper < 2 ^ 61 → HasCount (lock_by kind upper)
has_count zero upper low = low
has_count (suc zero) upper low = tt
has_count (suc (suc zero)) upper low = tt
has_count (suc (suc (suc kind))) upper low = tt

small_fits : (p : Program) (word : ℕ) → is_small_lock word ≡ true → WordFits p Lock word
small_fits p word e =
    let parts = both_are_true (is_lock_word word) (nat_le word 9) e in
    let low : word ≤ 9 = (let test : nat_le word 9 ≡ true = parts.1 in grind (arith, nat_tests, test)) in
    (parts.0, has_count (word % 4) (word / 4) (omega (arith, low)))

left_fits : (p : Program) (k : Claim) (word : ℕ) → is_small_lock word ≡ true → WordFits p (leave_content k) word
left_fits p (Has h) word e = by_kept h.kept
  where
    by_kept : (kept : Kept) → WordFits p (leave_content (Has (record h { kept = kept }))) word
    by_kept (keeps.Flat c) = small_fits p word e
    by_kept (keeps.Fat r) = (let test : nat_le word 9 ≡ true = (both_are_true (is_lock_word word) (nat_le word 9) e).1 in grind (arith, nat_tests, test))
left_fits p k word e = small_fits p word e

-- ---- an instruction that adds to a word

no_look : (o : Option Attempt) (i n : ℕ) → looks o ≡ Some (Add i n) → ⊥
no_look None i n e = cc
no_look (Some a) i n e = cc

added_fits : (p : Program) (s : Thread) (pc : ℕ) (target : Target) (e : Effect) (i n word : ℕ) → effect_wants s pc e ≡ Some (Add i n) → WordFits p (effect_content p target e) word
added_fits p s pc target (Goes to made) i n word w = absurd (by_check (is_checked pc (Goes to made)) w)
  where
    by_check : (b : Bool) → (if b then looks s.attempt else None) ≡ Some (Add i n) → ⊥
    by_check true k = no_look s.attempt i n k
    by_check false k = cc
added_fits p s pc target (Calls number) i n word w = absurd (no_look s.attempt i n w)
added_fits p s pc target (Writes v stored) i n word w = absurd (cc)
added_fits p s pc target (Reads v) i n word w = absurd (cc)
added_fits p s pc target (Indexes array index stored) i n word w = absurd (cc)
added_fits p s pc target (Measures array) i n word w = absurd (cc)
added_fits p s pc target (Raises x) i n word w = absurd (cc)
added_fits p s pc target e i n word w = tt

run_fits : (p : Program) (s : Thread) (o : Option Top) (i n word : ℕ) → run_wants p s o ≡ Some (Add i n) → WordFits p (run_content p o) word
run_fits p s None i n word w = tt
run_fits p s (Some at) i n word w = added_fits p s at.frame.pc at.target (effect_at p at) i n word w

-- ---- all phases

pub sure_fits : (c : MarkedProgram) (s : Thread) (phase : Phase) (access : Access) (word : ℕ) → wanted c s phase ≡ Some access → is_sure phase access word ≡ true → WordFits c.program (content_at c s phase) word
sure_fits c s phases.Run (Add i n) word w e = run_fits c.program s (top_of c.program s.frames) i n word w
sure_fits c s (phases.Made a header) access word w e = tt
sure_fits c s (phases.Enter m tried) access word w e = small_fits c.program word e
sure_fits c s (phases.Acquire m) access word w e = small_fits c.program word e
sure_fits c s (phases.Take m count) access word w e = small_fits c.program word e
sure_fits c s (phases.Leave m a) access word w e = left_fits c.program (claim s m) word e
sure_fits c s (phases.Grow m toward) access word w e = tt
sure_fits c s (phases.FlatOut m a) access word w e = small_fits c.program word e
sure_fits c s (phases.Ending end) access word w e = tt
sure_fits c s phase access word w e = absurd (let bad : false ≡ true = e in cc)

-- ---- thread 0 at the start

first_of : (thread : ℕ → Thread) (n : ℕ) → 0 < n → slice_get (map thread (range_with_len 0 n)) 0 ≡ Some (thread 0)
first_of thread zero some = absurd (omega (arith, some))
first_of thread (suc n) some = refl

first_there : (c : MarkedProgram) (cfg : Config) → slice_get (start c cfg).threads 0 ≡ Some (start_thread c cfg 0)
first_there c cfg = first_of (start_thread c cfg) (c.program.workers + 1) (omega arith)

pub first_is_lawful : (c : MarkedProgram) (cfg : Config) (x : Thread) → x ≡ start_thread c cfg 0 → AreSettings cfg → IsLawful c x
first_is_lawful c cfg x e set = subst (IsLawful c) (sym e) ((start_threads c cfg set).lawful 0 (start_thread c cfg 0) (first_there c cfg))
