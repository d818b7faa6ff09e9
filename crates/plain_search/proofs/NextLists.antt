-- Lists of the states that come next, as they grow: one step after the other.
use Rattle.std.proofs.Common.{◌≡◌, ◌≢◌, ◌<◌, ◌≤◌, ◌+◌, ℕ, List, [], ◌∷◌, ◌++◌, Option, Some, None, length, refl, sym, ap, ◌∙◌, subst, arith, slice_get}
use mathlib.Core.Logic.{dite}
use native.Mathlib.Decide.{ℕ_discrete}
use Rattle.jvm_types.specs.declared.program.Program.{Program}
use Rattle.machine_types.specs.PlainState as plain
use Rattle.machine_types.specs.PlainState.{Plain, PlainThread, Status}
use Rattle.machine_types.specs.PlainSteps.{plain_step, step_at, step_of}
use Rattle.machine_types.specs.declared.plain.Act.{Act}
use Rattle.machine_types.specs.declared.plain.Act.TheVariants as acts
use Rattle.machine_types.specs.declared.plain.PlainStep.{PlainStep}
use Rattle.history_rule.specs.Steps.{Played}
use Rattle.plain_orders.proofs.Swaps.{one_state}
use Rattle.plain_search.specs.declared.row.Row.{Row}
use Rattle.plain_search.specs.Nexts.{LeadsLocallyBy, IsNextRow, HasNextBy, HasNexts}
use Rattle.plain_search.specs.Rows.{IsLonger, IsStateIn, AreStatesIn}
use Rattle.plain_search.proofs.RowLists.{still_in, last_in, within}

pub still_next : (P : Row → Type 0) (q : Played) (old new : List Row) (step : PlainStep) → IsLonger P old new → HasNextBy q old step → HasNextBy q new step
still_next P q old new step g h y e = let z = h y e in (z.0, z.1, still_in P old new z.0 g z.2)

pub added_next : (q : Played) (old new : List Row) (r : Row) → IsNextRow q r → new ≡ old ++ r ∷ [] → HasNextBy q new r.step
added_next q old new r v e y f =
    let b = v.behind in
    (r.plain.state, subst (λ (u : Plain). LeadsLocallyBy q u r.plain.state) (one_state (plain_step q.program.program q.state r.step) b.0 y b.1 f) b.2, last_in old new r e)

pub none_next : (q : Played) (rows : List Row) (step : PlainStep) → plain_step q.program.program q.state step ≡ None → HasNextBy q rows step
none_next q rows step t y e = absurd (no y (sym t ∙ e))
  where
    no : (y : Plain) → None ≡ Some y → ⊥
    no y g = cc

-- those that were found are among others
pub next_among : (q : Played) (rows more : List Row) → HasNexts q more → AreStatesIn rows more → HasNexts q rows
next_among q rows more h v step y e =
    let z = h step y e in
    let i = z.2 in
    (z.0, z.1, subst (IsStateIn rows) i.3 (v i.0 i.1 i.2))

-- ---- wakings of each thread

abbrev Wakings : Played → List Row → (t n : ℕ) → Type 0
Wakings q rows t n = (u : ℕ) → u < n → HasNextBy q rows (record { thread = t; act = acts.Notify (Some u) })

pub none_below : (q : Played) (rows : List Row) (t : ℕ) → Wakings q rows t 0
none_below q rows t u l = absurd (omega (arith, l))

pub one_below : (P : Row → Type 0) (q : Played) (old new : List Row) (t n : ℕ) → IsLonger P old new → Wakings q old t n
    → HasNextBy q new (record { thread = t; act = acts.Notify (Some n) }) → Wakings q new t (n + 1)
one_below P q old new t n g all here u l = dite (ℕ_discrete u n)
    (λ (e : u ≡ n). subst (λ (k : ℕ). HasNextBy q new (record { thread = t; act = acts.Notify (Some k) })) (sym e) here)
    (λ (e : u ≢ n). still_next P q old new (record { thread = t; act = acts.Notify (Some u) }) g (all u (omega (arith, l, e))))

none_at : (p : Program) (q : Plain) (t u : ℕ) (x : PlainThread) (status : Status) → slice_get q.threads u ≡ None → step_at p q t x (acts.Notify (Some u)) status ≡ None
none_at p q t u x plain.Ready e = refl
none_at p q t u x plain.Run e = refl
none_at p q t u x (plain.Throw r class) e = refl
none_at p q t u x (plain.Enter m) e = refl
none_at p q t u x (plain.Leave m a) e = refl
none_at p q t u x (plain.Wait m) e = refl
none_at p q t u x (plain.Notify m) e = rw e refl
none_at p q t u x (plain.NotifyAll m) e = refl
none_at p q t u x (plain.Waiting m depth) e = refl
none_at p q t u x (plain.Woken m depth) e = refl
none_at p q t u x (plain.Ended end) e = refl

none_of : (p : Program) (q : Plain) (t u : ℕ) (o : Option PlainThread) → slice_get q.threads u ≡ None → step_of p q t (acts.Notify (Some u)) o ≡ None
none_of p q t u None e = refl
none_of p q t u (Some x) e = none_at p q t u x x.status e

pub all_below : (q : Played) (rows : List Row) (t n : ℕ) → length q.state.threads ≤ n → Wakings q rows t n → (u : ℕ) → HasNextBy q rows (record { thread = t; act = acts.Notify (Some u) })
all_below q rows t n l all u = by_there (slice_get q.state.threads u) refl
  where
    by_there : (o : Option PlainThread) → slice_get q.state.threads u ≡ o → HasNextBy q rows (record { thread = t; act = acts.Notify (Some u) })
    by_there None e = none_next q rows (record { thread = t; act = acts.Notify (Some u) }) (none_of q.program.program q.state t u (slice_get q.state.threads t) e)
    by_there (Some x) e = all u (let w = within q.state.threads u x e in omega (arith, w, l))

-- ---- all acts of a thread

pub all_acts : (q : Played) (rows : List Row) (t : ℕ) → HasNextBy q rows (record { thread = t; act = acts.Begin }) → HasNextBy q rows (record { thread = t; act = acts.Do }) → HasNextBy q rows (record { thread = t; act = acts.Enter })
    → HasNextBy q rows (record { thread = t; act = acts.Exit }) → HasNextBy q rows (record { thread = t; act = acts.Wait }) → HasNextBy q rows (record { thread = t; act = acts.Notify None }) → HasNextBy q rows (record { thread = t; act = acts.NotifyAll })
    → HasNextBy q rows (record { thread = t; act = acts.Retake }) → ((u : ℕ) → HasNextBy q rows (record { thread = t; act = acts.Notify (Some u) })) → (act : Act) → HasNextBy q rows (record { thread = t; act = act })
all_acts q rows t a b c d e f g h i acts.Begin = a
all_acts q rows t a b c d e f g h i acts.Do = b
all_acts q rows t a b c d e f g h i acts.Enter = c
all_acts q rows t a b c d e f g h i acts.Exit = d
all_acts q rows t a b c d e f g h i acts.Wait = e
all_acts q rows t a b c d e f g h i (acts.Notify None) = f
all_acts q rows t a b c d e f g h i (acts.Notify (Some u)) = i u
all_acts q rows t a b c d e f g h i acts.NotifyAll = g
all_acts q rows t a b c d e f g h i acts.Retake = h

-- ---- all threads

abbrev ByThreads : Played → List Row → (n : ℕ) → Type 0
ByThreads q rows n = (t : ℕ) → t < n → (act : Act) → HasNextBy q rows (record { thread = t; act = act })

pub no_thread : (q : Played) (rows : List Row) → ByThreads q rows 0
no_thread q rows t l act = absurd (omega (arith, l))

pub one_thread : (P : Row → Type 0) (q : Played) (old new : List Row) (n : ℕ) → IsLonger P old new → ByThreads q old n
    → ((act : Act) → HasNextBy q new (record { thread = n; act = act })) → ByThreads q new (n + 1)
one_thread P q old new n g all here t l act = dite (ℕ_discrete t n)
    (λ (e : t ≡ n). subst (λ (k : ℕ). HasNextBy q new (record { thread = k; act = act })) (sym e) (here act))
    (λ (e : t ≢ n). still_next P q old new (record { thread = t; act = act }) g (all t (omega (arith, l, e)) act))

pub all_threads : (q : Played) (rows : List Row) (n : ℕ) → length q.state.threads ≤ n → ByThreads q rows n → HasNexts q rows
all_threads q rows n l all step = by_there (slice_get q.state.threads step.thread) refl
  where
    by_there : (o : Option PlainThread) → slice_get q.state.threads step.thread ≡ o → HasNextBy q rows step
    by_there None e = none_next q rows step (ap (step_of q.program.program q.state step.thread step.act) e)
    by_there (Some x) e = all step.thread (let w = within q.state.threads step.thread x e in omega (arith, w, l)) step.act
