-- Hands that hold all threads of a run.
use Rattle.std.proofs.Common.{◌≡◌, ℕ, zero, suc, ◌+◌, ◌<◌, ◌≤◌, List, [], ◌∷◌, Option, Some, None, refl, sym, ap, ◌∙◌, arith, slice_get, IsSome}
use Rattle.jvm_types.specs.declared.outcome.{End.End, ThreadReport.ThreadReport}
use Rattle.checked_program.specs.MarkedProgram.{MarkedProgram}
use Rattle.machine_types.specs.{Core.{Happening, core, done_end}, Threads.Thread, declared.config.Config.Config}
use Rattle.laws_states.{specs.GrowingRuns.IsOfRun, proofs.GrowingRuns.runs_keep_sizes}
use Rattle.table_rule.{specs.Views.{View, held_in, AllFollow, EachFollows, HasThreads, HoldsAll, ShowsRun}, proofs.{Entries.got_within, WholeViews.{whole_run, whole_holds}}}
use Rattle.table_runner.{specs.{Ending.{IsOutcome, reported}, Handed.{Handed, AreHands, EachStands}}, proofs.Reports.all_reported}
use lib.ListN.{get_elem?}
use mathlib.Core.Option.{some}

each_follows : (c : MarkedProgram) (cfg : Config) (t : ℕ) (o p : Option Thread) → EachStands c cfg t o p
    → EachFollows c o p
each_follows c cfg t None None k = tt
each_follows c cfg t None (Some y) k = absurd k
each_follows c cfg t (Some x) None k = absurd k
each_follows c cfg t (Some x) (Some y) k = k.0

pub all_follow : (h : Handed) → AreHands h → AllFollow h.program h.view h.threads
all_follow h k t = each_follows h.program h.cfg t (held_in h.view t) (held_in h.threads t) (k.each t)

pub each_of_run : (c : MarkedProgram) (cfg : Config) (t : ℕ) (o : Option Thread) (y : Thread)
    → EachStands c cfg t o (Some y) → IsOfRun c cfg t y
each_of_run c cfg t None y k = absurd k
each_of_run c cfg t (Some x) y k = k.1

-- ---- their threads as a list

pub threads_of : View → List Thread
threads_of [] = []
threads_of (None ∷ v) = threads_of v
threads_of (Some x ∷ v) = x ∷ threads_of v

none_there : (v : View) → ((t : ℕ) → held_in v t ≡ None) → threads_of v ≡ []
unfolding threads_of
none_there [] none = refl
none_there (None ∷ v) none = none_there v (λ t. none (suc t))
none_there (Some x ∷ v) none = let bad : Some x ≡ None = none 0 in absurd (cc)

holds_front : (v : View) (n : ℕ) → ((t : ℕ) → t < n → IsSome (held_in v t))
    → ((t : ℕ) → n ≤ t → held_in v t ≡ None) → HasThreads v (threads_of v)
unfolding threads_of
holds_front [] n there none t = refl
holds_front (None ∷ v) zero there none t = none t (omega arith)
    ∙ ap (λ (xs : List Thread). slice_get xs t) (sym (none_there v (λ u. none (suc u) (omega arith))))
holds_front (None ∷ v) (suc n) there none t = let bad = there 0 (omega arith) in absurd (cc)
holds_front (Some x ∷ v) zero there none t = let bad : Some x ≡ None = none 0 (omega arith) in absurd (cc)
holds_front (Some x ∷ v) (suc n) there none zero = refl
holds_front (Some x ∷ v) (suc n) there none (suc t) = holds_front v n (λ u lt. there (suc u) (omega (arith, lt))) (λ u le. none (suc u) (omega (arith, le))) t

pub none_beyond : (c : MarkedProgram) (cfg : Config) (t : ℕ) (o p : Option Thread) → EachStands c cfg t o p
    → c.program.workers + 1 ≤ t → p ≡ None
none_beyond c cfg t o None k le = refl
none_beyond c cfg t o (Some y) k le =
    let run = each_of_run c cfg t o y k in
    let lt = got_within (core c cfg run.0).threads t y run.1 in
    absurd (omega (arith, lt, le, (runs_keep_sizes c cfg run.0).threads))

pub holds_its : (h : Handed) → AreHands h → HoldsAll h.program h.threads
    → HasThreads h.threads (threads_of h.threads)
holds_its h k all = holds_front h.threads (h.program.program.workers + 1) (λ t lt. all t (omega (arith, lt))) (λ t le. none_beyond h.program h.cfg t (held_in h.view t) (held_in h.threads t) (k.each t) le)

-- ---- what the run came to

done_is : (ts : List Thread) (o : Option Thread) (done : End) → o ≡ slice_get ts 0 → IsSome o
    → ((x : Thread) → o ≡ Some x → done ≡ done_end (x ∷ [])) → done ≡ done_end ts
done_is [] None done e there is = let bad = there in absurd (cc)
done_is [] (Some y) done e there is = absurd (cc)
done_is (x ∷ ts) o done e there is = is x e

pub ends : (h : Handed)
    (words : List ℕ) (views : List View) (id : ℕ) (threads : List ThreadReport) (done : End) → AreHands h
    → HoldsAll h.program h.threads → ShowsRun h.program h.cfg words views → get_elem? views id ≡ some h.view
    → threads ≡ reported h.threads → ((x : Thread) → held_in h.threads 0 ≡ Some x → done ≡ done_end (x ∷ [])) → IsOutcome h (record { threads = threads; done = done })
ends h words views id threads done k all run at is ends_so =
    let hs : List Happening = whole_run h.program h.cfg words views id h.view h.threads run at (all_follow h k) all in
    let holds : HasThreads h.threads (core h.program h.cfg hs).threads = whole_holds h.program h.cfg words views id h.view h.threads run at (all_follow h k) all in (
      hs,
      holds,
      (λ i. record {
        threads = (is ∙ all_reported h.threads (core h.program h.cfg hs).threads holds) i;
        done = done_is (core h.program h.cfg hs).threads (held_in h.threads 0) done (holds 0) (all 0 (omega arith)) ends_so i;
      }),
    )
