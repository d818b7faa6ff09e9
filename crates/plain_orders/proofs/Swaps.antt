-- A local step and a step of another thread swap.
use Rattle.std.proofs.Common.{◌≡◌, ◌≢◌, ℕ, Bool, true, false, Option, Some, None, refl, sym, ap, ◌∙◌, subst, option_map, slice_get, if◌then◌else◌}
use Rattle.jvm_types.specs.declared.program.Program.{Program}
use Rattle.machine_types.specs.Onward.{Onward}
use Rattle.machine_types.specs.PlainState.{Plain, PlainThread, Status, plain_goes_on, with_thread, with_status}
use Rattle.machine_types.specs.PlainSteps.{plain_step, step_at, step_of, is_due, plain_begins, waits_on, woken, is_over}
use Rattle.machine_types.specs.declared.plain.Act.{Act}
use Rattle.machine_types.specs.declared.plain.Act.TheVariants as acts
use Rattle.machine_types.specs.declared.plain.PlainStep.{PlainStep}
use Rattle.machine_types.specs.PlainState as plain
use Rattle.machine_types.specs.Onward as onward
use Rattle.plain_orders.specs.LocalSteps.{onward_alone, stays_live, gone_alone, is_there, is_local_of, is_local, LocalStepsSwap, LocalStepsAreAlone}
use Rattle.plain_orders.specs.Orders.{AreLocal}
use Rattle.plain_orders.proofs.OwnSteps.{live_onward, local_steps_are_own}
use Rattle.plain_orders.proofs.Beside.{Changed, IsQuiet, step_beside, got_else}

no_onward : (o : Onward) → None ≡ Some o → ⊥
no_onward o e = cc

no_state : (s : Plain) → None ≡ Some s → ⊥
no_state s e = cc

not_true : false ≡ true → ⊥
not_true e = cc

-- a status in which nothing is waited for, and no part has ended
quiet_in : (x : PlainThread) (status : Status) → x.status ≡ status → ((m : ℕ) → waits_on m status ≡ false)
    → ((m : ℕ) → with_status x (woken m status) ≡ with_status x status) → is_over status ≡ false → IsQuiet x
quiet_in x status e f g h = record {
  waits = λ m. ap (waits_on m) e ∙ f m;
  wakes = λ m. ap (λ s. with_status x (woken m s)) e ∙ g m ∙ ap (with_status x) (sym e);
  over = ap is_over e ∙ h;
}

before : (p : Program) (x : PlainThread) (status : Status) (o : Onward) → x.status ≡ status → onward_alone p x status ≡ Some o → IsQuiet x
before p x plain.Run o e f = quiet_in x plain.Run e (λ m. refl) (λ m. refl) refl
before p x (plain.Throw r c) o e f = quiet_in x (plain.Throw r c) e (λ m. refl) (λ m. refl) refl
before p x status o e f = absurd (no_onward o f)

behind : (x : PlainThread) (o : Onward) → stays_live o ≡ Some o → IsQuiet (plain_goes_on x o) × ((plain_goes_on x o).ended ≡ x.ended)
behind x onward.RootReturned e = absurd (no_onward onward.RootReturned e)
behind x (onward.Uncaught c) e = absurd (no_onward (onward.Uncaught c) e)
behind x (onward.Running fs) e = (record { waits = λ m. refl; wakes = λ m. refl; over = refl }, refl)
behind x (onward.Throwing r c fs) e = (record { waits = λ m. refl; wakes = λ m. refl; over = refl }, refl)
behind x (onward.Entering m fs) e = (record { waits = λ n. refl; wakes = λ n. refl; over = refl }, refl)
behind x (onward.Leaving m a fs) e = (record { waits = λ n. refl; wakes = λ n. refl; over = refl }, refl)

-- what is known of a local step
abbrev pub Known : Program → Plain → PlainStep → Type 0
Known p q a =
    (x : PlainThread) × (y : PlainThread) × (slice_get q.threads a.thread ≡ Some x) × (gone_alone p x ≡ Some y) × (a.act ≡ acts.Do)

there : (o : Option PlainThread) → is_there o ≡ true → (y : PlainThread) × (o ≡ Some y)
there None e = absurd (not_true e)
there (Some y) e = (y, refl)

known_by : (p : Program) (act : Act) (o : Option PlainThread) → is_local_of p act o ≡ true
    → (x : PlainThread) × (y : PlainThread) × (o ≡ Some x) × (gone_alone p x ≡ Some y) × (act ≡ acts.Do)
known_by p acts.Do (Some x) e = let k = there (gone_alone p x) e in (x, k.0, refl, k.1, refl)
known_by p act o e = absurd (not_true e)

pub known : (p : Program) (q : Plain) (a : PlainStep) → is_local p q a ≡ true → Known p q a
known p q a e = known_by p a.act (slice_get q.threads a.thread) e

pub one_state : (o : Option Plain) (r s : Plain) → o ≡ Some r → o ≡ Some s → r ≡ s
one_state o r s e f = cc

swapped : (p : Program) (q s : Plain) (t u : ℕ) (act : Act) (x y : PlainThread) (o : Option PlainThread) → u ≢ t
    → slice_get q.threads t ≡ Some x → gone_alone p x ≡ Some y → step_of p q u act o ≡ Some s
    → (slice_get s.threads t ≡ Some x) × (step_of p (with_thread q t y) u act o ≡ Some (with_thread s t y))
swapped p q s t u act x y None n here gone e = absurd (no_state s e)
swapped p q s t u act x y (Some w) n here gone e =
    let k = live_onward (onward_alone p x x.status) x y gone in
    let after = behind x k.0 k.2 in
    let changed : Changed q = record {
      t = t;
      x = x;
      y = y;
      here = here;
      quiet = before p x x.status k.0 refl k.1;
      quiet_too = subst IsQuiet k.3 after.0;
      ends = subst (λ (z : PlainThread). z.ended ≡ x.ended) k.3 after.1;
    } in
    let both = step_beside p q changed u w n act w.status in
    (both.1 s e, both.0 ∙ ap (option_map (λ (z : Plain). with_thread z t y)) e)

pub local_steps_swap : LocalStepsSwap
local_steps_swap p q r s a b local apart first second =
    let k = known p q a local in
    let made : plain_step p q a ≡ Some (with_thread q a.thread k.1) =
    ap (λ (act : Act). plain_step p q (record { thread = a.thread; act = act })) k.4 ∙ local_steps_are_own p q a.thread k.0 k.1 k.2 k.3 in
    let now : with_thread q a.thread k.1 ≡ r = one_state (plain_step p q a) (with_thread q a.thread k.1) r made first in
    let n : b.thread ≢ a.thread = λ e. apart (sym e) in
    let both = swapped p q s a.thread b.thread b.act k.0 k.1 (slice_get q.threads b.thread) n k.2 k.3 second in
    let is_so : is_local p s a ≡ true =
    ap (λ (act : Act). is_local_of p act (slice_get s.threads a.thread)) k.4 ∙ ap (is_local_of p acts.Do) both.0 ∙ ap is_there k.3 in
    let again : plain_step p s a ≡ Some (with_thread s a.thread k.1) =
    ap (λ (act : Act). plain_step p s (record { thread = a.thread; act = act })) k.4 ∙ local_steps_are_own p s a.thread k.0 k.1 both.0 k.3 in
    let other : plain_step p (with_thread q a.thread k.1) b ≡ Some (with_thread s a.thread k.1) =
    ap (step_of p (with_thread q a.thread k.1) b.thread b.act) (got_else q.threads a.thread b.thread k.1 n) ∙ both.1 in
    (is_so, with_thread s a.thread k.1, again, subst (λ (z : Plain). plain_step p z b ≡ Some (with_thread s a.thread k.1)) now other)

-- a thread that is about to make an instruction, or to hand on an exception, has no other step
only_do : (p : Program) (q s : Plain) (t : ℕ) (x : PlainThread) (act : Act) (status : Status) (o : Onward) → onward_alone p x status ≡ Some o
    → step_at p q t x act status ≡ Some s → act ≡ acts.Do
only_do p q s t x acts.Do status o e f = refl
only_do p q s t x acts.Begin plain.Run o e f = absurd (not_due (is_due q.threads t x.ended) f)
  where
    not_due : (b : Bool) → (if b then option_map (with_thread q t) (plain_begins p t x plain.Run) else None) ≡ Some s → ⊥
    not_due true g = no_state s g
    not_due false g = no_state s g
only_do p q s t x acts.Begin (plain.Throw r c) o e f = absurd (not_due (is_due q.threads t x.ended) f)
  where
    not_due : (b : Bool) → (if b then option_map (with_thread q t) (plain_begins p t x (plain.Throw r c)) else None) ≡ Some s → ⊥
    not_due true g = no_state s g
    not_due false g = no_state s g
only_do p q s t x act plain.Run o e f = absurd (no_state s f)
only_do p q s t x act (plain.Throw r c) o e f = absurd (no_state s f)
only_do p q s t x act status o e f = absurd (no_onward o e)

same_step : (a b : PlainStep) → a.thread ≡ b.thread → a.act ≡ b.act → a ≡ b
same_step a b e f =
    ap (λ (t : ℕ). record { thread = t; act = a.act }) e ∙ ap (λ (act : Act). record { thread = b.thread; act = act }) f

pub local_steps_are_alone : LocalStepsAreAlone
local_steps_are_alone p q s a b local same step =
    let k = known p q a local in
    let o = live_onward (onward_alone p k.0 k.0.status) k.0 k.1 k.3 in
    let here : step_of p q b.thread b.act (Some k.0) ≡ Some s =
    ap (step_of p q b.thread b.act) (sym (ap (slice_get q.threads) (sym same) ∙ k.2)) ∙ step in
    let act : b.act ≡ acts.Do = only_do p q s b.thread k.0 b.act k.0.status o.0 o.1 here in
    same_step a b same (k.4 ∙ sym act)

-- so the sets that cover the runs of the plain machine may leave out what lies between local steps
pub are_local : (p : Program) → AreLocal (λ (a : PlainStep). a.thread) (plain_step p) (is_local p)
are_local p = record {
  swaps = λ s x y a b l n e f. local_steps_swap p s x y a b l n e f;
  alone = λ s y a b l w e. local_steps_are_alone p s y a b l w e;
}
