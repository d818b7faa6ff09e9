-- A run that is over and of which no limit ended a part stands at a plain state without a step.
use Rattle.std.proofs.Common.{◌≡◌, ◌≤◌, ◌<◌, ℕ, zero, suc, Bool, true, false, List, [], ◌∷◌, length, Option, Some, None, refl, sym, ap, ◌∙◌, subst, arith, ◌&&◌, option_map, slice_get, if◌then◌else◌}
use Rattle.std.specs.List.{list_all, AllByRecursion}
use Rattle.jvm_types.specs.declared.outcome.End.{End}
use Rattle.jvm_types.specs.declared.outcome.End.TheVariants as ends
use Rattle.jvm_types.specs.declared.program.Program.{Program}
use Rattle.checked_program.specs.MarkedProgram.{MarkedProgram}
use Rattle.machine_types.specs.Agreement.{ThreadFits, StatusFits, has_wait_bit}
use Rattle.machine_types.specs.Core.{Core, ended_by, may_begin, may_begin_by}
use Rattle.machine_types.specs.Owners.{references_of}
use Rattle.machine_types.specs.Parts.{done_roots, has_returned, has_finished}
use Rattle.machine_types.specs.PlainState.{Plain, PlainThread, Status, with_thread}
use Rattle.machine_types.specs.PlainSteps.{plain_step, step_of, step_at, plain_begins, plain_begun, may_do_done, is_due, init_has_returned, first_is_return}
use Rattle.machine_types.specs.Structure.{IsAs, Stands, AttemptStands, AttemptStandsIn, IsStructured}
use Rattle.machine_types.specs.Threads.{Thread, Attempt, Frame}
use Rattle.machine_types.specs.declared.lock.Held.{Held}
use Rattle.machine_types.specs.declared.phase.Phase.{Phase}
use Rattle.machine_types.specs.declared.phase.Phase.TheVariants as phases
use Rattle.machine_types.specs.declared.plain.Act.{Act}
use Rattle.machine_types.specs.declared.plain.Act.TheVariants as acts
use Rattle.machine_types.specs.PlainState as plain
use Rattle.laws_threads.specs.PartLaws.{PartsFit, PartFits}
use Rattle.machine_types.specs.Faithful.{IsOver}
use Rattle.machine_types.specs.PlainMemory.{Object}
use Rattle.machine_types.specs.declared.config.Config.{Config}
use Rattle.laws_states.specs.PartsStand.{HasFinished}
use Rattle.laws_states.specs.StateFacts.{StateFacts}
use Rattle.laws_simulation.specs.StandsBeside.{StandsBeside, own_end, end_of_done, ends_shown}
use Rattle.plain_orders.specs.Orders.{HasNoStep}
use Rattle.plain_orders.proofs.EndedAlone.{EndedAlone}

-- ---- the status of a thread that has ended, or has not begun

no_frames : (c : MarkedProgram) (phase was : Phase) (frames : List Frame) (held : List Held) (a : Attempt) → was ≡ phase
    → (Stands c phase frames held (Some a) → frames ≡ []) → Stands c was frames held (Some a) → AttemptStands c was frames held a → ⊥
no_frames c phase was frames held a k none stands inside =
    let empty : frames ≡ [] = none (subst (λ (z : Phase). Stands c z frames held (Some a)) k stands) in
    let size : length frames ≡ 0 = ap length empty in
    let based = inside.based in
    omega (arith, size, based)

module _ (c : MarkedProgram) (bit : ℕ → Bool) (was : Phase) (x : Thread) (y : PlainThread) (structured : IsStructured c was x) where
  ended_status : (e : End) (o : Option Attempt) → x.phase ≡ phases.Ended e → has_finished e ≡ true → ThreadFits c.program bit x o y
      → Stands c was x.frames x.held o → AttemptStandsIn c was x.frames x.held o → y.status ≡ plain.Ended e
  ended_status ends.Returned None k f fits stands inside = subst (λ (z : Phase). StatusFits bit x z y.status) k fits.status
  ended_status (ends.Uncaught class) None k f fits stands inside = subst (λ (z : Phase). StatusFits bit x z y.status) k fits.status
  ended_status ends.Returned (Some a) k f fits stands inside =
      absurd (no_frames c (phases.Ended ends.Returned) was x.frames x.held a (subst (λ (z : Phase). IsAs z was) k structured.is_as) (λ v. v.phase_shows) stands inside)
  ended_status (ends.Uncaught class) (Some a) k f fits stands inside =
      absurd (no_frames c (phases.Ended (ends.Uncaught class)) was x.frames x.held a (subst (λ (z : Phase). IsAs z was) k structured.is_as) (λ v. v.phase_shows) stands inside)
  ended_status e o k f fits stands inside = absurd (not_so f)
    where
      not_so : false ≡ true → ⊥
      not_so g = cc

  idle_status : (o : Option Attempt) → x.phase ≡ phases.Idle → ThreadFits c.program bit x o y
      → Stands c was x.frames x.held o → AttemptStandsIn c was x.frames x.held o → y.status ≡ plain.Ready
  idle_status None k fits stands inside = subst (λ (z : Phase). StatusFits bit x z y.status) k fits.status
  idle_status (Some a) k fits stands inside =
      absurd (no_frames c phases.Idle was x.frames x.held a (subst (λ (z : Phase). IsAs z was) k structured.is_as) (λ v. v.phase_shows) stands inside)

-- ---- such a thread has no step

no_step : (p : Program) (q : Plain) (t : ℕ) (y : PlainThread) (act : Act) (e : End) → y.status ≡ plain.Ended e → plain_begins p t y (plain.Ended e) ≡ None
    → step_of p q t act (Some y) ≡ None
no_step p q t y act e k none = ap (step_at p q t y act) k ∙ by_act act
  where
    by_due : (b : Bool) → (if b then option_map (with_thread q t) (plain_begins p t y (plain.Ended e)) else None) ≡ None
    by_due true = ap (option_map (with_thread q t)) none
    by_due false = refl

    by_act : (a : Act) → step_at p q t y a (plain.Ended e) ≡ None
    by_act acts.Begin = by_due (is_due q.threads t y.ended)
    by_act a = refl

no_ready : (p : Program) (q : Plain) (t : ℕ) (y : PlainThread) (act : Act) → y.status ≡ plain.Ready → is_due q.threads t y.ended ≡ false
    → step_of p q t act (Some y) ≡ None
no_ready p q t y act k none = ap (step_at p q t y act) k ∙ by_act act
  where
    by_act : (a : Act) → step_at p q t y a plain.Ready ≡ None
    by_act acts.Begin = ap (λ (b : Bool). if b then option_map (with_thread q t) (plain_begins p t y plain.Ready) else None) none
    by_act a = refl

-- ---- of a worker, and of thread 0

worker_begins_not : (p : Program) (u : ℕ) (y : PlainThread) (e : End) → plain_begins p (suc u) y (plain.Ended e) ≡ None
worker_begins_not p u y ends.Returned = refl
worker_begins_not p u y e = refl

finished : (phase : Phase) → HasFinished phase → (e : End) × (phase ≡ phases.Ended e) × (has_finished e ≡ true)
finished (phases.Ended e) f = (e, refl, f)
finished phase f = absurd f

all_idle : (ws : List Thread) (u : ℕ) (w : Thread) → AllByRecursion (λ w. w.phase ≡ phases.Idle) ws → slice_get ws u ≡ Some w → w.phase ≡ phases.Idle
all_idle [] u w v e = cc
all_idle (z ∷ zs) zero w v e = ap (λ (k : Thread). k.phase) (same z w e) ∙ v.0
  where
    same : (a b : Thread) → Some a ≡ Some b → b ≡ a
    same a b h = cc
all_idle (z ∷ zs) (suc u) w v e = all_idle zs u w v.1 e

all_finished : (ws : List Thread) → ((u : ℕ) (w : Thread) → slice_get ws u ≡ Some w → HasFinished w.phase) → list_all (λ w. ended_by has_finished w.phase) ws ≡ true
all_finished [] f = refl
all_finished (z ∷ zs) f = ap (λ b. b && list_all (λ w. ended_by has_finished w.phase) zs) (by_phase z.phase (f 0 z refl)) ∙ all_finished zs (λ u w e. f (suc u) w e)
  where
    by_phase : (phase : Phase) → HasFinished phase → ended_by has_finished phase ≡ true
    by_phase (phases.Ended e) g = g
    by_phase phase g = absurd g

same_length : {A B : Type 0} (xs : List A) (ys : List B) (i : ℕ) (y : B) → length ys ≡ length xs → slice_get ys i ≡ Some y → (x : A) × (slice_get xs i ≡ Some x)
same_length [] [] i y e k = cc
same_length [] (b ∷ bs) i y e k = absurd (omega (arith, e))
same_length (a ∷ xs) [] i y e k = cc
same_length (a ∷ xs) (b ∷ bs) zero y e k = (a, refl)
same_length (a ∷ xs) (b ∷ bs) (suc i) y e k = same_length xs bs i y (omega (arith, e)) k

-- thread 0 by its part
first_begins_not : (p : Program) (part : ℕ) (y : PlainThread) (e : End) → has_finished e ≡ true → 2 ≤ part
    → y.ended ≡ ends_shown p part (phases.Ended e) → plain_begins p 0 y (plain.Ended e) ≡ None
first_begins_not p zero y e f l k = absurd (omega (arith, l))
first_begins_not p (suc zero) y e f l k = absurd (omega (arith, l))
first_begins_not p (suc (suc n)) y (ends.Uncaught class) f l k = refl
first_begins_not p (suc (suc n)) y ends.Returned f l k = by_roots (done_roots p) (k)
  where
    either : (b : Bool) → (if b then plain_begun p 0 y [] else None) ≡ None
    either true = refl
    either false = refl

    by_roots : (roots : List ℕ) → y.ended ≡ ends.Returned ∷ end_of_done roots (phases.Ended ends.Returned)
        → (if may_do_done 0 y.ended then plain_begun p 0 y roots else None) ≡ None
    by_roots [] g = either (may_do_done 0 y.ended)
    by_roots (number ∷ roots) g = ap (λ (es : List End). if may_do_done 0 es then plain_begun p 0 y (number ∷ roots) else None) g
first_begins_not p (suc (suc n)) y e f l k = absurd (not_so f)
  where
    not_so : false ≡ true → ⊥
    not_so g = cc

uncaught_begins_not : (p : Program) (t : ℕ) (y : PlainThread) (e : End) → has_finished e ≡ true → has_returned e ≡ false → plain_begins p t y (plain.Ended e) ≡ None
uncaught_begins_not p t y (ends.Uncaught class) f g = refl
uncaught_begins_not p t y ends.Returned f g = cc
uncaught_begins_not p t y e f g = absurd (not_so f)
  where
    not_so : false ≡ true → ⊥
    not_so h = cc

not_first : (e : End) → has_finished e ≡ true → has_returned e ≡ false → first_is_return (own_end (phases.Ended e)) ≡ false
not_first (ends.Uncaught class) f g = refl
not_first ends.Returned f g = cc
not_first e f g = absurd (not_so f)
  where
    not_so : false ≡ true → ⊥
    not_so h = cc

-- ---- thread 0 and the parts

head_is : {A : Type 0} (z x : A) (zs : List A) → slice_get (z ∷ zs) 0 ≡ Some x → z ≡ x
head_is z x zs e = cc

idle_case : (threads : List Thread) (x : Thread) → slice_get threads 0 ≡ Some x → x.part ≡ 0 → PartsFit threads → may_begin threads ≡ false
    → (ended_by has_returned x.phase ≡ false) × ((u : ℕ) (w : Thread) → slice_get threads (suc u) ≡ Some w → w.phase ≡ phases.Idle)
idle_case [] x e k fits last = cc
idle_case (z ∷ zs) x e k fits last =
    let same = head_is z x zs e in
    let part : z.part ≡ 0 = ap (λ (w : Thread). w.part) same ∙ k in (
      sym (ap (λ (w : Thread). ended_by has_returned w.phase) same) ∙ subst (λ (n : ℕ). may_begin_by n z.phase zs ≡ false) part last,
      λ u w f. all_idle zs u w (subst (λ (n : ℕ). PartFits n z.phase zs) part fits) f,
    )

one_case : (threads : List Thread) (x : Thread) → slice_get threads 0 ≡ Some x → x.part ≡ 1 → may_begin threads ≡ false
    → ((u : ℕ) (w : Thread) → slice_get threads (suc u) ≡ Some w → HasFinished w.phase) → ⊥
one_case [] x e k last all = cc
one_case (z ∷ zs) x e k last all =
    let part : z.part ≡ 1 = ap (λ (w : Thread). w.part) (head_is z x zs e) ∙ k in
    let not : list_all (λ w. ended_by has_finished w.phase) zs ≡ false = subst (λ (n : ℕ). may_begin_by n z.phase zs ≡ false) part last in
    let yes = all_finished zs all in
    both (list_all (λ w. ended_by has_finished w.phase) zs) yes not
  where
    both : (b : Bool) → b ≡ true → b ≡ false → ⊥
    both b f g = cc

init_by : (ps : List PlainThread) (y : PlainThread) → slice_get ps 0 ≡ Some y → init_has_returned ps ≡ first_is_return y.ended
init_by [] y e = cc
init_by (z ∷ zs) y e = ap (λ (w : PlainThread). first_is_return w.ended) (head_is z y zs e)

some_first : {A : Type 0} (xs : List A) → 0 < length xs → (x : A) × (slice_get xs 0 ≡ Some x)
some_first [] l = absurd (omega (arith, l))
some_first (x ∷ xs) l = (x, refl)

pub over_runs_rest : (c : MarkedProgram) (cfg : Config) (objects : List Object) (was : ℕ → Phase) (s : Core) (q : Plain)
    → StateFacts c cfg objects was s → StandsBeside c.program objects s q → IsOver s → EndedAlone s.threads → HasNoStep (plain_step c.program) q
over_runs_rest c cfg objects was s q facts beside over alone step = by_thread (slice_get q.threads step.thread) refl
  where
    p : Program
    p = c.program

    bit : ℕ → ℕ → Bool
    bit t = has_wait_bit (references_of q.objects) s.words t

    begin : (x : Thread) × (slice_get s.threads 0 ≡ Some x)
    begin = let n = facts.threads.count in some_first s.threads (omega (arith, n))

    end : (e : End) × (begin.0.phase ≡ phases.Ended e) × (has_finished e ≡ true)
    end = finished begin.0.phase (alone.first begin.0 begin.1)

    ended_at : (t : ℕ) (x : Thread) (y : PlainThread) (e : End) → slice_get s.threads t ≡ Some x → slice_get q.threads t ≡ Some y → x.phase ≡ phases.Ended e → has_finished e ≡ true
        → y.status ≡ plain.Ended e
    ended_at t x y e at_s at_q k f =
        let z = facts.structure t x at_s in
        ended_status c (has_wait_bit (references_of q.objects) s.words t) (was t) x y z e x.attempt k f (beside.agrees.threads t x y at_s at_q) z.stands z.attempt

    none_for : (t : ℕ) (act : Act) (y : PlainThread) (n : ℕ) → slice_get q.threads t ≡ Some y → begin.0.part ≡ n → step_of p q t act (Some y) ≡ None
    none_for zero act y zero at k =
        let idle = idle_case s.threads begin.0 begin.1 k facts.threads.parts over.last in
        let not : has_returned end.0 ≡ false = sym (ap (ended_by has_returned) end.1) ∙ idle.0 in
        no_step p q 0 y act end.0 (ended_at 0 begin.0 y end.0 begin.1 at end.1 end.2) (uncaught_begins_not p 0 y end.0 end.2 not)
    none_for (suc u) act y zero at k =
        let idle = idle_case s.threads begin.0 begin.1 k facts.threads.parts over.last in
        let not : has_returned end.0 ≡ false = sym (ap (ended_by has_returned) end.1) ∙ idle.0 in
        let x = same_length s.threads q.threads (suc u) y beside.agrees.many at in
        let z = facts.structure (suc u) x.0 x.1 in
        let ready : y.status ≡ plain.Ready =
        idle_status c (has_wait_bit (references_of q.objects) s.words (suc u)) (was (suc u)) x.0 y z x.0.attempt (idle.1 u x.0 x.1) (beside.agrees.threads (suc u) x.0 y x.1 at) z.stands z.attempt in
        let first = same_length q.threads s.threads 0 begin.0 (sym beside.agrees.many) begin.1 in
        let shown : first.0.ended ≡ own_end (phases.Ended end.0) =
        beside.ends 0 begin.0 first.0 begin.1 first.1 ∙ ap (λ (n : ℕ). ends_shown p n begin.0.phase) k ∙ ap own_end end.1 in
        no_ready p q (suc u) y act ready (init_by q.threads first.0 first.1 ∙ ap first_is_return shown ∙ not_first end.0 end.2 not)
    none_for t act y (suc zero) at k =
        absurd (one_case s.threads begin.0 begin.1 k over.last (λ u w f. alone.workers begin.0 w u begin.1 (omega (arith, k)) f))
    none_for zero act y (suc (suc n)) at k =
        let shown : y.ended ≡ ends_shown p begin.0.part (phases.Ended end.0) =
        beside.ends 0 begin.0 y begin.1 at ∙ ap (ends_shown p begin.0.part) end.1 in
        no_step p q 0 y act end.0 (ended_at 0 begin.0 y end.0 begin.1 at end.1 end.2) (first_begins_not p begin.0.part y end.0 end.2 (omega (arith, k)) shown)
    none_for (suc u) act y (suc (suc n)) at k =
        let x = same_length s.threads q.threads (suc u) y beside.agrees.many at in
        let e = finished x.0.phase (alone.workers begin.0 x.0 u begin.1 (omega (arith, k)) x.1) in
        no_step p q (suc u) y act e.0 (ended_at (suc u) x.0 y e.0 x.1 at e.1 e.2) (worker_begins_not p u y e.0)

    by_thread : (o : Option PlainThread) → slice_get q.threads step.thread ≡ o → plain_step p q step ≡ None
    by_thread None e = ap (step_of p q step.thread step.act) e
    by_thread (Some y) e = ap (step_of p q step.thread step.act) e ∙ none_for step.thread step.act y begin.0.part e refl
