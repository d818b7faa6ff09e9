-- How far a run is, along its parts.
use Rattle.std.proofs.Common.{◌≡◌, ℕ, zero, suc, ◌+◌, ◌<◌, Bool, true, false, List, [], ◌∷◌, Option, Some, None, option_map, refl, sym, ap, subst, ◌∙◌, arith, nat_lt, slice_get}
use Rattle.std.proofs.lemmas.Bool.Decides.{nat_tests}
use Rattle.jvm_types.specs.declared.{outcome.Outcome.Outcome, program.Program.Program}
use Rattle.machine_types.specs.{Core.{core, is_live_thread, may_begin, next_threads, part_begins}, Threads.Thread}
use Rattle.laws_threads.specs.GivenThread.{Given, given_of}
use Rattle.run_parts.specs.Ended.{IsEndOfRun}
use Rattle.table_rule.specs.Views.{View, held_in, HasThreads}
use Rattle.table_runner.specs.{Ending.IsOutcome, Handed.Handed, Running.{AreDeadBelow, HaveEnded, IsAlone, IsRunOn, IsWaiting, NoWorkerLivesIn}, Sharing.IsNextPart}
use mathlib.Core.Logic.{dite}
use native.Mathlib.Decide.{ℕ_discrete}

-- ---- events of one thread

part_of_given : (o p : Option Thread) → option_map given_of o ≡ option_map given_of p
    → option_map (λ x. x.part) o ≡ option_map (λ x. x.part) p
part_of_given None None e = refl
part_of_given None (Some y) e = absurd (cc)
part_of_given (Some x) None e = absurd (cc)
part_of_given (Some x) (Some y) e = let same : given_of x ≡ given_of y = cc in ap (λ (g : Given). Some g.part) same

-- those of thread 0
pub alone_on : (part : ℕ) (h after : Handed) → IsRunOn 0 h after → IsAlone part h.threads
    → IsAlone part after.threads
alone_on part h after r k = record {
  part_is = part_of_given (held_in after.threads 0) (held_in h.threads 0) r.given ∙ k.part_is;
  workers = λ u. ap is_live_thread (r.others (suc u) (λ e. absurd (omega (arith, e)))) ∙ k.workers u;
}

-- those of a worker
pub waiting_as : (v w : View) → held_in w 0 ≡ held_in v 0 → IsWaiting v → IsWaiting w
waiting_as v w e k = record { part_is = ap (option_map (λ x. x.part)) e ∙ k.part_is; first = ap is_live_thread e ∙ k.first }

pub dead_on : (n : ℕ) (h after : Handed) → IsRunOn (n + 1) h after
    → is_live_thread (held_in after.threads (n + 1)) ≡ false → AreDeadBelow (n + 1) h.threads
    → AreDeadBelow ((n + 1) + 1) after.threads
dead_on n h after r dead k u above below = dite (ℕ_discrete u (n + 1))
    (λ same. ap (λ m. is_live_thread (held_in after.threads m)) same ∙ dead)
    (λ other. ap is_live_thread (r.others u other) ∙ k u above (omega (arith, below, other)))

-- ---- no worker is live

no_thread_lives : (o : Option Thread) → o ≡ None → is_live_thread o ≡ false
no_thread_lives o e = ap is_live_thread e

pub no_worker_lives : (n : ℕ) (v : View) → AreDeadBelow (n + 1) v → ((t : ℕ) → n < t → held_in v t ≡ None)
    → NoWorkerLivesIn v
no_worker_lives n v dead none u = by_place (nat_lt n (suc u)) refl
  where
    by_place : (b : Bool) → nat_lt n (suc u) ≡ b → is_live_thread (held_in v (suc u)) ≡ false
    by_place true e = no_thread_lives (held_in v (suc u)) (none (suc u) (grind (arith, nat_tests, e)))
    by_place false e = dead (suc u) (omega arith) (grind (arith, nat_tests, e))

none_live : (v : View) → is_live_thread (held_in v 0) ≡ false → NoWorkerLivesIn v → (t : ℕ)
    → is_live_thread (held_in v t) ≡ false
none_live v first workers zero = first
none_live v first workers (suc t) = workers t

-- ---- the begin of a part

same_lists : (xs ys : List Thread) → ((t : ℕ) → slice_get xs t ≡ slice_get ys t) → xs ≡ ys
same_lists [] [] e = refl
same_lists [] (y ∷ ys) e = let bad : None ≡ Some y = e 0 in absurd (cc)
same_lists (x ∷ xs) [] e = let bad : Some x ≡ None = e 0 in absurd (cc)
same_lists (x ∷ xs) (y ∷ ys) e = let two : Some x ≡ Some y = e 0 in let one : x ≡ y = cc in ap (λ z. z ∷ xs) one
    ∙ ap (λ zs. y ∷ zs) (same_lists xs ys (λ t. e (suc t)))

held_once : (v : View) (xs ys : List Thread) → HasThreads v xs → HasThreads v ys → xs ≡ ys
held_once v xs ys h k = same_lists xs ys (λ t. sym (h t) ∙ k t)

-- where none may begin
pub over_now : (h after : Handed) → IsNextPart h after false → after ≡ h
    → is_live_thread (held_in h.threads 0) ≡ false → NoWorkerLivesIn h.threads → HaveEnded after.threads
over_now h after next e first workers = subst (λ (k : Handed). HaveEnded k.threads) (sym e) (record {
  dead = none_live h.threads first workers;
  last = λ ts holds. ap may_begin (held_once h.threads ts next.threads holds next.held) ∙ sym next.may;
})

begun_by : (p : Program) (x : Thread) (workers : List Thread) → true ≡ may_begin (x ∷ workers)
    → next_threads p (x ∷ workers) ≡ part_begins p x.part x workers
begun_by p x workers may = rw (sym may) refl

part_at : (x : Thread) (n : ℕ) (o : Option Thread) → o ≡ Some x → option_map (λ y. y.part) o ≡ Some n
    → x.part ≡ n
part_at x n None e k = absurd (cc)
part_at x n (Some y) e k = let same : y ≡ x = cc in let part : y.part ≡ n = cc in ap (λ (z : Thread). z.part) (sym same)
    ∙ part

-- the workers' begins: thread 0 waits for them
pub waits_now : (h after : Handed) → IsNextPart h after true → IsAlone 0 h.threads
    → is_live_thread (held_in h.threads 0) ≡ false → IsWaiting after.threads
waits_now h after next alone dead = by_threads next.threads next.held next.may next.begun
  where
    by_threads : (ts : List Thread) → HasThreads h.threads ts → true ≡ may_begin ts
        → HasThreads after.threads (next_threads h.program.program ts) → IsWaiting after.threads
    by_threads [] held may begun = absurd (cc)
    by_threads (x ∷ workers) held may begun =
        let part : x.part ≡ 0 = part_at x 0 (held_in h.threads 0) (held 0) alone.part_is in
        let are : next_threads h.program.program (x ∷ workers) ≡ part_begins h.program.program 0 x workers = begun_by h.program.program x workers may
        ∙ ap (λ n. part_begins h.program.program n x workers) part in
        let now : HasThreads after.threads (part_begins h.program.program 0 x workers) = subst (HasThreads after.threads) are begun in
        record { part_is = ap (option_map (λ y. y.part)) (now 0); first = ap is_live_thread (now 0) ∙ sym (ap is_live_thread (held 0)) ∙ dead }

-- `done` begins: each worker is over
pub done_now : (h after : Handed) → IsNextPart h after true → IsWaiting h.threads → NoWorkerLivesIn h.threads
    → IsAlone 2 after.threads
done_now h after next waiting dead = by_threads next.threads next.held next.may next.begun
  where
    by_threads : (ts : List Thread) → HasThreads h.threads ts → true ≡ may_begin ts
        → HasThreads after.threads (next_threads h.program.program ts) → IsAlone 2 after.threads
    by_threads [] held may begun = absurd (cc)
    by_threads (x ∷ workers) held may begun =
        let part : x.part ≡ 1 = part_at x 1 (held_in h.threads 0) (held 0) waiting.part_is in
        let are : next_threads h.program.program (x ∷ workers) ≡ part_begins h.program.program 1 x workers = begun_by h.program.program x workers may
        ∙ ap (λ n. part_begins h.program.program n x workers) part in
        let now : HasThreads after.threads (part_begins h.program.program 1 x workers) = subst (HasThreads after.threads) are begun in
        record { part_is = ap (option_map (λ y. y.part)) (now 0); workers = λ u. ap is_live_thread (now (suc u) ∙ sym (held (suc u))) ∙ dead u }

-- ---- the end

none_begins_again : (x : Thread) (workers : List Thread) (n : ℕ) → x.part ≡ n → n ≡ 2
    → may_begin (x ∷ workers) ≡ false
none_begins_again x workers n e two = let part : x.part ≡ 2 = e ∙ two in rw part refl

-- behind `done`
pub over_then : (v : View) → IsAlone 2 v → is_live_thread (held_in v 0) ≡ false → HaveEnded v
over_then v alone first = record { dead = none_live v first alone.workers; last = last }
  where
    last : (ts : List Thread) → HasThreads v ts → may_begin ts ≡ false
    last [] holds = refl
    last (x ∷ workers) holds = none_begins_again x workers 2 (part_at x 2 (held_in v 0) (holds 0) alone.part_is) refl

pub end_of_run : (h : Handed) (o : Outcome) → IsOutcome h o → HaveEnded h.threads
    → IsEndOfRun h.program h.cfg o
end_of_run h o outcome ended = (outcome.0, record { dead = λ t. ap is_live_thread (sym (outcome.1 t)) ∙ ended.dead t; last = ended.last (core h.program h.cfg outcome.0).threads outcome.1 }, outcome.2)
