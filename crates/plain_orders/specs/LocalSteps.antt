-- Steps of the plain machine that touch the thread alone that makes them: instructions that read
-- and write no place, and exceptions that are handed on.
use Rattle.std.specs.Prelude.{◌≡◌, ◌≢◌, ℕ, Bool, true, false, Option, Some, None}
use Rattle.std.specs.Prelude.{option_map, option_and_then, slice_get}
use Rattle.jvm_types.specs.declared.program.Program.{Program}
use Rattle.machine_types.specs.Frames.{Top, top_of, effect_at}
use Rattle.machine_types.specs.Onward.{Onward, Running, done, returns}
use Rattle.machine_types.specs.Onward.{RootReturned, Uncaught, dispatched}
use Rattle.machine_types.specs.PlainState.{Plain, PlainThread, Status, plain_goes_on, Run, Throw}
use Rattle.machine_types.specs.PlainState.{with_thread}
use Rattle.machine_types.specs.PlainSteps.{plain_step}
use Rattle.machine_types.specs.declared.effect.Effect.{Effect}
use Rattle.machine_types.specs.declared.effect.Effect.TheVariants as effects
use Rattle.machine_types.specs.declared.plain.Act.{Act}
use Rattle.machine_types.specs.declared.plain.Act.TheVariants as acts
use Rattle.machine_types.specs.declared.plain.PlainStep.{PlainStep}

-- a return to a caller, out of no monitor
abbrev pub returned_alone : Onward → Option Onward
returned_alone (Running frames) = Some (Running frames)
returned_alone o = None

-- how a thread goes on by an effect of which its frames alone tell; None: by another
abbrev pub own_onward : Program → Top → Effect → Option Onward
own_onward p at (effects.Goes to made) = done p at (effects.Goes to made) 0
own_onward p at (effects.Throws x) = done p at (effects.Throws x) 0
own_onward p at (effects.Calls number) = done p at (effects.Calls number) 0
own_onward p at (effects.Enters m) = done p at (effects.Enters m) 0
own_onward p at effects.Returns = returned_alone (returns p at)
own_onward p at e = None

abbrev pub onward_alone : Program → PlainThread → Status → Option Onward
onward_alone p x Run = option_and_then (λ at. own_onward p at (effect_at p at)) (top_of p x.frames)
onward_alone p x (Throw r class) = dispatched p r class x.frames
onward_alone p x status = None

-- it ends no part
abbrev pub stays_live : Onward → Option Onward
stays_live RootReturned = None
stays_live (Uncaught class) = None
stays_live o = Some o

-- what a step that touches the thread alone makes of it; None: its next step is no such
abbrev pub gone_alone : Program → PlainThread → Option PlainThread
gone_alone p x =
    option_map (plain_goes_on x) (option_and_then stays_live (onward_alone p x x.status))

abbrev pub is_there : {A : Type 0} → Option A → Bool
is_there None = false
is_there (Some a) = true

abbrev pub is_local_of : Program → Act → Option PlainThread → Bool
is_local_of p acts.Do (Some x) = is_there (gone_alone p x)
is_local_of p act o = false

-- a step of a thread that touches nothing but that
abbrev pub is_local : Program → Plain → PlainStep → Bool
is_local p q step = is_local_of p step.act (slice_get q.threads step.thread)

-- ---- laws

-- the step makes of the thread what it alone tells
abbrev pub LocalStepsAreOwn : Type 0
LocalStepsAreOwn =
    (p : Program) (q : Plain) (t : ℕ) (x y : PlainThread) → slice_get q.threads t ≡ Some x
    → gone_alone p x ≡ Some y
    → plain_step p q (record { thread = t; act = acts.Do }) ≡ Some (with_thread q t y)

-- it comes to the same before and behind a step of another thread
abbrev pub LocalStepsSwap : Type 0
LocalStepsSwap =
    (p : Program) (q r s : Plain) (a b : PlainStep) → is_local p q a ≡ true
    → a.thread ≢ b.thread → plain_step p q a ≡ Some r → plain_step p q b ≡ Some s
    → (is_local p s a ≡ true)
    × (u : Plain) × (plain_step p s a ≡ Some u) × (plain_step p r b ≡ Some u)

-- and its thread has no other step
abbrev pub LocalStepsAreAlone : Type 0
LocalStepsAreAlone =
    (p : Program) (q s : Plain) (a b : PlainStep) → is_local p q a ≡ true
    → a.thread ≡ b.thread → plain_step p q b ≡ Some s → a ≡ b
