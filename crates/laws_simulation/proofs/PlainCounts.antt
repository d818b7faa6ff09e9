-- What steps of the plain machine count.
use Rattle.std.{proofs.Common.{◌≡◌, ◌≢◌, ℕ, ◌+◌, Bool, true, false, List, [], ◌∷◌, ◌++◌, Option, Some, None, refl, ap, ◌∙◌, arith, ◌==◌, ◌&&◌, option_and_then, slice_get}, specs.List.AllByRecursion}
use Rattle.std.proofs.lemmas.Bool.{and_right, Decides.nat_tests}
use Rattle.jvm_types.specs.declared.program.Program.{Program}
use Rattle.machine_types.specs.{Counting.{is_instruction, is_free, is_take, one_if, step_count, run_at, take_at, count_from, count_along}, History.steps_of}
use Rattle.machine_types.specs.{PlainState.{Plain, PlainThread, Status, holding_at}, PlainSteps.{plain_step, plain_run}, declared.plain.{Act.Act, PlainStep.PlainStep}}
use Rattle.laws_simulation.specs.OutcomeLaws.{CountsAppend, OthersAreNotCounted}
use Rattle.machine_types.specs.PlainState as plain
use Rattle.machine_types.specs.declared.plain.Act.TheVariants as acts

-- ---- a run and what follows it

pub counts_append : CountsAppend
counts_append p count [] ys q = omega arith
counts_append p count (step ∷ xs) ys q = let k = by_step (plain_step p q step) (λ r. counts_append p count xs ys r) in omega (arith, k)
  where
    by_step : (o : Option Plain) → ((r : Plain) → count_along p count (xs ++ ys) r ≡ count_along p count xs r + count_from (count_along p count ys) (plain_run p r xs))
        → count_from (count_along p count (xs ++ ys)) o ≡ count_from (count_along p count xs) o + count_from (count_along p count ys) (option_and_then (λ r. plain_run p r xs) o)
    by_step None more = omega arith
    by_step (Some r) more = more r

-- ---- steps that never count

abbrev pub NeverCount : (count : Plain → PlainStep → ℕ) → (t : ℕ) → List Act → Type 0
NeverCount count t acts = AllByRecursion (λ (act : Act). (q : Plain) → count q (record { thread = t; act = act }) ≡ 0) acts

pub none_along : (p : Program) (count : Plain → PlainStep → ℕ) (t : ℕ) (acts : List Act) (q : Plain) → NeverCount count t acts → count_along p count (steps_of t acts) q ≡ 0
none_along p count t [] q all = refl
none_along p count t (act ∷ acts) q all =
    let first = all.0 q in
    let rest = (elim (plain_step p q (record { thread = t; act = act })) as (λ (o : Option Plain). ((r : Plain) → count_along p count (steps_of t acts) r ≡ 0) → count_from (count_along p count (steps_of t acts)) o ≡ 0)
    [ None ↦ λ more. refl | Some r ↦ λ more. more r ]) (λ r. none_along p count t acts r all.1) in
    omega (arith, first, rest)

-- only the first one does
pub first_along : (p : Program) (count : Plain → PlainStep → ℕ) (t : ℕ) (act : Act) (acts : List Act) (q : Plain) → NeverCount count t acts
    → count_along p count (steps_of t (act ∷ acts)) q ≡ count q (record { thread = t; act = act })
first_along p count t act acts q all = let rest = elim (plain_step p q (record { thread = t; act = act })) as (λ (o : Option Plain). count_from (count_along p count (steps_of t acts)) o ≡ 0)
    [ None ↦ refl | Some r ↦ none_along p count t acts r all ] in omega (arith, rest)

-- ---- those of other threads

other_count : (test : Act → Status → Bool) (t u : ℕ) (act : Act) (o : Option PlainThread) → u ≢ t → step_count test u (record { thread = t; act = act }) o ≡ 0
other_count test t u act None d = refl
other_count test t u act (Some x) d =
    let apart : (t u : ℕ) → u ≢ t → (t == u) ≡ false = λ t u d. grind (arith, nat_tests, d) in
    ap (λ (b : Bool). one_if (b && test act x.status)) (apart t u d)

pub others_are_not_counted : OthersAreNotCounted
others_are_not_counted p t u acts q d = record {
  runs = none_along p (run_at u) t acts q (never_run acts);
  takes = none_along p (take_at u) t acts q (never_take acts);
}
  where
    never_run : (acts : List Act) → NeverCount (run_at u) t acts
    never_run [] = tt
    never_run (act ∷ acts) = (λ q. other_count is_instruction t u act (slice_get q.threads t) d, never_run acts)

    never_take : (acts : List Act) → NeverCount (take_at u) t acts
    never_take [] = tt
    never_take (act ∷ acts) = (λ q. other_count (is_take q.holdings) t u act (slice_get q.threads t) d, never_take acts)

-- ---- acts that count in no state

no_count : (test : Act → Status → Bool) (t u : ℕ) (act : Act) (o : Option PlainThread) → ((status : Status) → test act status ≡ false) → step_count test u (record { thread = t; act = act }) o ≡ 0
no_count test t u act None none = refl
no_count test t u act (Some x) none = ap one_if (and_right (t == u) (test act x.status) (none x.status))

abbrev pub is_do : Act → Bool
is_do acts.Do = true
is_do act = false

abbrev pub is_enter : Act → Bool
is_enter acts.Enter = true
is_enter act = false

never_runs : (act : Act) (status : Status) → is_do act ≡ false → is_instruction act status ≡ false
never_runs acts.Do status e = absurd (cc)
never_runs act status e = refl

never_takes : (q : Plain) (act : Act) (status : Status) → is_enter act ≡ false → is_take q.holdings act status ≡ false
never_takes q acts.Enter status e = absurd (cc)
never_takes q act status e = refl

pub not_run : (t : ℕ) (q : Plain) (act : Act) → is_do act ≡ false → run_at t q (record { thread = t; act = act }) ≡ 0
not_run t q act e = no_count is_instruction t t act (slice_get q.threads t) (λ status. never_runs act status e)

pub not_taken : (t : ℕ) (q : Plain) (act : Act) → is_enter act ≡ false → take_at t q (record { thread = t; act = act }) ≡ 0
not_taken t q act e = no_count (is_take q.holdings) t t act (slice_get q.threads t) (λ status. never_takes q act status e)

-- ---- an act of a thread x of number t

itself : (t : ℕ) (b : Bool) → one_if ((t == t) && b) ≡ one_if b
itself t b =
    let same : (t : ℕ) → (t == t) ≡ true = λ t. grind (arith, nat_tests) in
    ap (λ (s : Bool). one_if (s && b)) (same t)

pub did_run : (t : ℕ) (q : Plain) (x : PlainThread) → slice_get q.threads t ≡ Some x → x.status ≡ plain.Run → run_at t q (record { thread = t; act = acts.Do }) ≡ 1
did_run t q x e s = ap (step_count is_instruction t (record { thread = t; act = acts.Do })) e ∙ itself t (is_instruction acts.Do x.status) ∙ ap (λ (status : Status). one_if (is_instruction acts.Do status)) s

-- what an exception does to a frame is no instruction
pub did_throw : (t : ℕ) (q : Plain) (x : PlainThread) (r : ℕ) (class : _) → slice_get q.threads t ≡ Some x → x.status ≡ plain.Throw r class → run_at t q (record { thread = t; act = acts.Do }) ≡ 0
did_throw t q x r class e s = ap (step_count is_instruction t (record { thread = t; act = acts.Do })) e ∙ itself t (is_instruction acts.Do x.status) ∙ ap (λ (status : Status). one_if (is_instruction acts.Do status)) s

pub did_enter : (t m : ℕ) (q : Plain) (x : PlainThread) → slice_get q.threads t ≡ Some x → x.status ≡ plain.Enter m → take_at t q (record { thread = t; act = acts.Enter }) ≡ one_if (is_free (holding_at q.holdings m))
did_enter t m q x e s = ap (step_count (is_take q.holdings) t (record { thread = t; act = acts.Enter })) e ∙ itself t (is_take q.holdings acts.Enter x.status) ∙ ap (λ (status : Status). one_if (is_take q.holdings acts.Enter status)) s
