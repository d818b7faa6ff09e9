-- When a run is over its parts ended as those of the plain state.
use Rattle.std.proofs.Common.{◌≡◌, ◌≤◌, ◌<◌, inl, inr, ℕ, zero, suc, Bool, true, false, cond, List, [], ◌∷◌, length, Option, Some, None, refl, sym, ap, ◌∙◌, subst, arith, ◌&&◌, if◌then◌else◌, option_map, nat_lt, slice_get}
use Rattle.std.{specs.List.list_all, proofs.lemmas.{Bool.cases_Bool, Option.slice_get-map}}
use Rattle.lists.proofs.ListLaws.{same_some}
use Rattle.jvm_types.specs.declared.{outcome.{End.End, ThreadReport.ThreadReport}, program.Program.Program}
use Rattle.checked_program.specs.MarkedProgram.{MarkedProgram}
use Rattle.machine_types.specs.Agreement.{LimitFits, IsWaiter, IsTurning, EndingFits, StatusFits, ThreadFits, has_wait_bit}
use Rattle.machine_types.specs.{Core.{is_live, is_live_thread, ended_by, may_begin, may_begin_by, end_or_not_run, reported_end, report_of, done_end}, Faithful.EndFits, Owners.references_of}
use Rattle.machine_types.specs.{Parts.{done_roots, has_returned, has_finished}, PlainState.{Plain, PlainThread, Status}, PlainSteps.{first_is_return, is_over, is_done_due, end_at, first_end}}
use Rattle.machine_types.specs.{Structure.{IsLimitAt, IsAs, Stands, AttemptStands, AttemptStandsIn, IsStructured}, Threads.{Attempt, Frame, Thread}, declared.{lock.Held.Held, phase.Phase.Phase}}
use Rattle.laws_states.specs.PartsStand.{FirstFits, HasFinished, PartsStand}
use Rattle.laws_simulation.{specs.{OutcomeLaws.EndsAreThose, StandsBeside.{own_end, end_of_done, ends_shown}}, proofs.{Assembled.got_same_length, PartsDue.all_true}}
use Rattle.jvm_types.specs.declared.outcome.End.TheVariants as ends
use Rattle.machine_types.specs.PlainState as plain
use Rattle.machine_types.specs.PlainSteps as steps
use Rattle.machine_types.specs.declared.phase.Phase.TheVariants as phases

-- ---- one part that is over

own_first : (phase : Phase) → is_live phase ≡ false → EndFits (end_or_not_run phase) (slice_get (own_end phase) 0)
own_first phases.Idle d = refl
own_first (phases.Ended e) d = elim e as (λ (e : End). EndFits e (slice_get (own_end (phases.Ended e)) 0))
    [ ends.Returned ↦ refl | ends.Uncaught x ↦ refl | limit ↦ refl ]
own_first phase d = absurd (cc)

one_at_most : (b : Bool) (e : End) → slice_get (cond b (e ∷ []) []) 1 ≡ None
one_at_most true e = refl
one_at_most false e = refl

own_second : (phase : Phase) → slice_get (own_end phase) 1 ≡ None
own_second (phases.Ending e) = one_at_most (has_finished e) e
own_second (phases.Ended e) = one_at_most (has_finished e) e
own_second phase = refl

own_returned : (phase : Phase) → is_live phase ≡ false → first_is_return (own_end phase) ≡ ended_by has_returned phase
own_returned (phases.Ended e) d = elim e as (λ (e : End). first_is_return (own_end (phases.Ended e)) ≡ has_returned e)
    [ ends.Returned ↦ refl | ends.Uncaught x ↦ refl | limit ↦ refl ]
own_returned (phases.Ending e) d = absurd (cc)
own_returned phase d = refl

first_ended : (p : Program) (part : ℕ) (phase : Phase) (first : Option End) → is_live phase ≡ false → FirstFits part first → EndFits (reported_end phase first) (slice_get (ends_shown p part phase) 0)
first_ended p zero phase first d f = subst (λ (o : Option End). EndFits (reported_end phase o) (slice_get (own_end phase) 0)) (sym f) (own_first phase d)
first_ended p (suc zero) phase first d f = subst (λ (o : Option End). EndFits (reported_end phase o) (Some ends.Returned)) (sym f) refl
first_ended p (suc (suc part)) phase first d f = subst (λ (o : Option End). EndFits (reported_end phase o) (Some ends.Returned)) (sym f) refl

-- ---- a plain thread is over where its part has finished

-- a thread that a limit ended is not
limit_not_over : (bit : ℕ → Bool) (status : Status) (Awake : Type 0) → LimitFits bit status Awake → (Awake → is_over status ≡ false) → is_over status ≡ false
limit_not_over bit status Awake fits awake = elim (cases_Bool (is_over status)) [ inl e ↦ awake (fits.awake (λ m. not_waiting m (bit m) refl e)) | inr e ↦ e ]
  where
    not_waiting : (m : ℕ) (b : Bool) → bit m ≡ b → is_over status ≡ true → bit m ≡ false
    not_waiting m false g e = g
    not_waiting m true g e = let w = fits.waits m g in let no : is_over status ≡ false = ap is_over w.1 in absurd (cc)

over_outside : (bit : ℕ → Bool) (x : Thread) (phase : Phase) (status : Status) → is_live phase ≡ false → StatusFits bit x phase status → is_over status ≡ ended_by has_finished phase
over_outside bit x phases.Idle status d fits = ap is_over fits
over_outside bit x (phases.Ended e) status d fits = (elim e as (λ (e : End). EndingFits bit x.held e status → is_over status ≡ has_finished e) [
  | ends.Steps ↦ λ f. limit_not_over bit status (status ≡ plain.Run) f (λ k. ap is_over k)
  | ends.Prints ↦ λ f. limit_not_over bit status (status ≡ plain.Run) f (λ k. ap is_over k)
  | ends.Records ↦ λ f. limit_not_over bit status (IsWaiter x.held status) f (λ k. ap is_over k.1)
  | ends.Turns ↦ λ f. limit_not_over bit status (IsTurning status) f turning
  | e ↦ λ f. ap is_over f
]) fits
  where
    turning : IsTurning status → is_over status ≡ false
    turning (inl k) = ap is_over k.1
    turning (inr k) = ap is_over k.2
over_outside bit x phase status d fits = absurd (cc)

-- no part ends by itself in an attempt
not_inside : (c : MarkedProgram) (phase was : Phase) (frames : List Frame) (held : List Held) (a : Attempt) → IsAs phase was → Stands c was frames held (Some a) → AttemptStands c was frames held a → ended_by has_finished phase ≡ false
not_inside c (phases.Ended e) was frames held a is stands inside = (elim e as (λ (e : End). IsLimitAt e (phases.Ended e) was → has_finished e ≡ false)
    [ ends.Returned ↦ λ k. absurd (none ends.Returned k refl) | ends.Uncaught class ↦ λ k. absurd (none (ends.Uncaught class) k refl) | limit ↦ λ k. refl ]) is
  where
    none : (e : End) → was ≡ phases.Ended e → has_finished e ≡ true → ⊥
    none e k f =
        let empty : frames ≡ [] = (subst (λ (phase : Phase). Stands c phase frames held (Some a)) k stands).phase_shows in
        let size : length frames ≡ 0 = ap length empty in
        let based = inside.based in
        omega (arith, size, based)
not_inside c phase was frames held a is stands inside = refl

thread_over : (c : MarkedProgram) (bit : ℕ → Bool) (was : Phase) (x : Thread) (y : PlainThread) → is_live x.phase ≡ false → IsStructured c was x → ThreadFits c.program bit x x.attempt y → is_over y.status ≡ ended_by has_finished x.phase
thread_over c bit was x y d structured fits = by_attempt x.attempt fits structured.stands structured.attempt
  where
    by_attempt : (o : Option Attempt) → ThreadFits c.program bit x o y → Stands c was x.frames x.held o → AttemptStandsIn c was x.frames x.held o → is_over y.status ≡ ended_by has_finished x.phase
    by_attempt None f stands inside = over_outside bit x x.phase y.status d f.status
    by_attempt (Some a) f stands inside = ap is_over f.status ∙ sym (not_inside c x.phase was x.frames x.held a structured.is_as stands inside)

-- ---- all workers

same_all : {A B : Type 0} (f : A → Bool) (g : B → Bool) (xs : List A) (ys : List B) → length ys ≡ length xs → ((i : ℕ) (x : A) (y : B) → slice_get xs i ≡ Some x → slice_get ys i ≡ Some y → g y ≡ f x) → list_all g ys ≡ list_all f xs
same_all f g [] [] e all = refl
same_all f g [] (y ∷ ys) e all = absurd (omega (arith, e))
same_all f g (x ∷ xs) [] e all = absurd (omega (arith, e))
same_all f g (x ∷ xs) (y ∷ ys) e all = ap (λ (b : Bool). b && list_all g ys) (all 0 x y refl refl) ∙ ap (λ (b : Bool). f x && b) (same_all f g xs ys (omega (arith, e)) (λ i v w h k. all (suc i) v w h k))

has_finished_all : (phase : Phase) → HasFinished phase → ended_by has_finished phase ≡ true
has_finished_all (phases.Ended e) f = f
has_finished_all phase f = absurd f

-- ---- how `done` ended

abbrev done_at : (roots : List ℕ) → (ended : List End) → (workers : Bool) → Option End
done_at [] ended workers = if first_is_return ended && workers then Some ends.Returned else None
done_at (number ∷ roots) ended workers = slice_get ended 1

abbrev done_by : (roots : List ℕ) → List PlainThread → Option End
done_by [] threads = if is_done_due threads then Some ends.Returned else None
done_by (number ∷ roots) threads = end_at 1 (slice_get threads 0)

done_as : (roots : List ℕ) (y : PlainThread) (ws : List PlainThread) → done_by roots (y ∷ ws) ≡ done_at roots y.ended (list_all (λ w. is_over w.status) ws)
done_as [] y ws = refl
done_as (number ∷ roots) y ws = refl

done_is : (p : Program) (q : Plain) → steps.plain_done_end p q ≡ done_by (done_roots p) q.threads
done_is p q = (elim (done_roots p) as (λ (roots : List ℕ). done_roots p ≡ roots → steps.plain_done_end p q ≡ done_by roots q.threads) [ [] ↦ λ e. rw e refl | number ∷ roots ↦ λ e. rw e refl ]) refl

at_part : (p : Program) (n : ℕ) (roots : List ℕ) (phase : Phase) (workers : List Thread) → done_roots p ≡ roots → n ≤ 2 → is_live phase ≡ false → may_begin_by n phase workers ≡ false
    → (2 ≤ n → roots ≡ [] → phase ≡ phases.Ended ends.Returned) → (2 ≤ n → list_all (λ w. ended_by has_finished w.phase) workers ≡ true)
    → EndFits (cond (nat_lt n 2) ends.NotRun (end_or_not_run phase)) (done_at roots (ends_shown p n phase) (list_all (λ w. ended_by has_finished w.phase) workers))
at_part p zero [] phase workers e few d last empty all = ap (λ (b : Bool). cond (b && list_all (λ (w : Thread). ended_by has_finished w.phase) workers) (Some ends.Returned) None) (own_returned phase d ∙ last)
at_part p zero (number ∷ roots) phase workers e few d last empty all = own_second phase
at_part p (suc zero) [] phase workers e few d last empty all = ap (λ (b : Bool). cond b (Some ends.Returned) None) last
at_part p (suc zero) (number ∷ roots) phase workers e few d last empty all = refl
at_part p (suc (suc k)) [] phase workers e few d last empty all =
    let two : suc (suc k) ≡ 2 = omega (arith, few) in
    let due = all (omega arith) in
    subst (λ (m : ℕ). EndFits (cond (nat_lt m 2) ends.NotRun (end_or_not_run phase)) (cond (list_all (λ (w : Thread). ended_by has_finished w.phase) workers) (Some ends.Returned) None)) (sym two)
    (subst (λ (ph : Phase). EndFits (end_or_not_run ph) (cond (list_all (λ (w : Thread). ended_by has_finished w.phase) workers) (Some ends.Returned) None)) (sym (empty (omega arith) refl))
    (ap (λ (b : Bool). cond b (Some ends.Returned) None) due))
at_part p (suc (suc k)) (number ∷ roots) phase workers e few d last empty all =
    let two : suc (suc k) ≡ 2 = omega (arith, few) in
    subst (λ (m : ℕ). EndFits (cond (nat_lt m 2) ends.NotRun (end_or_not_run phase)) (slice_get (end_of_done (done_roots p) phase) 0)) (sym two)
    (subst (λ (rs : List ℕ). EndFits (end_or_not_run phase) (slice_get (end_of_done rs phase) 0)) (sym e) (own_first phase d))

done_lists : (p : Program) (threads : List Thread) (ps : List PlainThread) → length ps ≡ length threads → 0 < length threads
    → ((t : ℕ) (x : Thread) → slice_get threads t ≡ Some x → is_live x.phase ≡ false) → may_begin threads ≡ false → PartsStand p threads → ((x : Thread) → slice_get threads 0 ≡ Some x → 2 ≤ x.part → done_roots p ≡ [] → x.phase ≡ phases.Ended ends.Returned)
    → ((t : ℕ) (x : Thread) (y : PlainThread) → slice_get threads t ≡ Some x → slice_get ps t ≡ Some y → is_over y.status ≡ ended_by has_finished x.phase)
    → ((t : ℕ) (x : Thread) (y : PlainThread) → slice_get threads t ≡ Some x → slice_get ps t ≡ Some y → y.ended ≡ ends_shown p x.part x.phase)
    → EndFits (done_end threads) (done_by (done_roots p) ps)
done_lists p [] ps e some dead last parts stands over ended = absurd (omega (arith, some))
done_lists p (x ∷ workers) [] e some dead last parts stands over ended = absurd (omega (arith, e))
done_lists p (x ∷ workers) (y ∷ ws) e some dead last parts stands over ended =
    let same : list_all (λ (w : PlainThread). is_over w.status) ws ≡ list_all (λ (w : Thread). ended_by has_finished w.phase) workers =
    same_all (λ (w : Thread). ended_by has_finished w.phase) (λ (w : PlainThread). is_over w.status) workers ws (omega (arith, e)) (λ i v w h k. over (suc i) v w h k) in
    subst (λ (o : Option End). EndFits (done_end (x ∷ workers)) o) (sym (done_as (done_roots p) y ws ∙ ap (done_at (done_roots p) y.ended) same ∙ ap (λ (es : List End). done_at (done_roots p) es (list_all (λ (w : Thread). ended_by has_finished w.phase) workers)) (ended 0 x y refl refl)))
    (at_part p x.part (done_roots p) x.phase workers refl (parts.few x refl) (dead 0 x refl) last (λ two none. stands x refl two none)
    (λ two. all_true (λ (w : Thread). ended_by has_finished w.phase) workers (λ i w f. has_finished_all w.phase (parts.workers x w i refl two f))))

-- ---- all of it

pub ends_are_those : EndsAreThose
ends_are_those c cfg objects was s q marked facts beside keep_none over = record { threads = λ t r e. reported t r (slice_get s.threads t) refl (sym (slice_get-map report_of s.threads t) ∙ e); done = done }
  where
    dead : (t : ℕ) (x : Thread) → slice_get s.threads t ≡ Some x → is_live x.phase ≡ false
    dead t x e = ap is_live_thread (sym e) ∙ over.dead t

    first_fits : (t : ℕ) (x : Thread) → slice_get s.threads t ≡ Some x → FirstFits x.part x.first
    first_fits zero x e = facts.parts.first x e
    first_fits (suc t) x e =
        let part : x.part ≡ 0 = (facts.threads.own (suc t) x e).part (λ d. absurd (omega (arith, d))) in
        let first : x.first ≡ None = keep_none (suc t) x e (λ d. absurd (omega (arith, d))) in
        subst (λ (n : ℕ). FirstFits n x.first) (sym part) first

    reported : (t : ℕ) (r : ThreadReport) (o : Option Thread) → slice_get s.threads t ≡ o → option_map report_of o ≡ Some r → EndFits r.end (first_end q t)
    reported t r None e f = absurd (cc)
    reported t r (Some x) e f =
        let place = got_same_length s.threads q.threads t x beside.agrees.many e in
        let at : first_end q t ≡ slice_get (ends_shown c.program x.part x.phase) 0 = ap (end_at 0) place.1 ∙ ap (λ (es : List End). slice_get es 0) (beside.ends t x place.0 e place.1) in
        subst (λ (z : ThreadReport). EndFits z.end (first_end q t)) (same_some f)
        (subst (λ (o : Option End). EndFits (reported_end x.phase x.first) o) (sym at) (first_ended c.program x.part x.phase x.first (dead t x e) (first_fits t x e)))

    done : EndFits (done_end s.threads) (steps.plain_done_end c.program q)
    done =
        let count = facts.threads.count in
        subst (λ (o : Option End). EndFits (done_end s.threads) o) (sym (done_is c.program q))
        (done_lists c.program s.threads q.threads beside.agrees.many (omega (arith, count)) dead over.last facts.parts beside.done
        (λ t x y e f. thread_over c (has_wait_bit (references_of q.objects) s.words t) (was t) x y (dead t x e) (facts.structure t x e) (beside.agrees.threads t x y e f)) beside.ends)
