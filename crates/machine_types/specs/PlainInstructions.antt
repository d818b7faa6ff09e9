-- What the plain machine makes of one instruction.
use Rattle.std.specs.Prelude.{ℕ, ◌+◌, ◌==◌, nat_lt, nat_le, [], ◌∷◌, ◌++◌, Option, Some, None}
use Rattle.std.specs.Prelude.{option_map, option_and_then, if◌then◌else◌}
use Rattle.jvm_types.specs.declared.outcome.Thrown.TheVariants.{NullPointerException}
use Rattle.jvm_types.specs.declared.outcome.Thrown.TheVariants.{IllegalMonitorStateException}
use Rattle.jvm_types.specs.declared.outcome.Thrown.TheVariants.{OutOfMemoryError}
use Rattle.jvm_types.specs.declared.outcome.Thrown.TheVariants.{ArrayIndexOutOfBoundsException}
use Rattle.jvm_types.specs.declared.program.Program.{Program}
use Rattle.machine_types.specs.Effects.{Effect, Writes, Indexes, Makes, Prints, Returns, Leaves}
use Rattle.machine_types.specs.Effects.{Waits, Notifies, NotifiesAll, read_by}
use Rattle.machine_types.specs.Frames.{Top, effect_at, went_on, making, pushed}
use Rattle.machine_types.specs.Ints.{low, int_of}
use Rattle.machine_types.specs.Onward.{Onward, Running, threw, returns, done}
use Rattle.machine_types.specs.Onward as onward
use Rattle.machine_types.specs.PlainMemory.{new_object}
use Rattle.machine_types.specs.PlainState.{Plain, PlainThread, Status, value_at, written}
use Rattle.machine_types.specs.PlainState.{holding_at, is_holder, with_thread, plain_goes_on}
use Rattle.machine_types.specs.PlainState as plain
use Rattle.machine_types.specs.Words.{header_length, value_word, variable_word}

-- ---- elements

abbrev pub indexed_in : Program → Plain → (t : ℕ) → PlainThread → Top → (word : ℕ) → Option ℕ
    → (value : ℕ) → Plain
indexed_in p q t x at word None value =
    with_thread q t (plain_goes_on x (Running (went_on p at value)))
indexed_in p q t x at word (Some v) value =
    with_thread (written q word v) t (plain_goes_on x (Running (went_on p at 0)))

abbrev pub plain_indexed : Program → Plain → (t : ℕ) → PlainThread → Top → (array index : ℕ)
    → Option ℕ → (count : ℕ) → Option Plain
plain_indexed p q t x at array index stored count =
    if nat_lt index count
    then option_map (indexed_in p q t x at (value_word array index) stored)
    (value_at q (value_word array index))
    else Some (with_thread q t (plain_goes_on x (threw ArrayIndexOutOfBoundsException at)))

-- ---- new objects: the number for the next reference rises whether or not the object fits

abbrev pub plain_made : Program → Plain → (t : ℕ) → PlainThread → Top → (word size : ℕ) → Plain
plain_made p q t x at word size =
    if nat_le (q.next + size) p.heap
    then with_thread
    (record q { objects = q.objects ++ new_object q.next word size ∷ []; next = q.next + size })
    t (plain_goes_on x (Running (pushed q.next (making p at))))
    else with_thread (record q { next = q.next + size }) t
    (plain_goes_on x (threw OutOfMemoryError at))

-- ---- what asks that the thread holds a monitor

abbrev pub if_plain_held : Plain → (t m : ℕ) → PlainThread → Top → (more : PlainThread)
    → PlainThread
if_plain_held q t m x at more =
    if is_holder t (holding_at q.holdings m) then more
    else plain_goes_on x (threw IllegalMonitorStateException at)

abbrev pub if_left : Plain → (t : ℕ) → PlainThread → Top → Onward → PlainThread
if_left q t x at (onward.Leaving m a frames) =
    if_plain_held q t m x at (plain_goes_on x (onward.Leaving m a frames))
if_left q t x at o = plain_goes_on x o

abbrev pub plain_leaves : Program → Plain → (t : ℕ) → PlainThread → Top → (m : ℕ) → PlainThread
plain_leaves p q t x at m =
    if m == 0 then plain_goes_on x (threw NullPointerException at)
    else if_left q t x at (onward.Leaving m onward.Next (went_on p at 0))

-- the instruction is done, and a status says what is left to do
abbrev pub plain_leaving : Program → PlainThread → Top → Status → PlainThread
plain_leaving p x at status = record x { frames = went_on p at 0; status = status }

-- ---- all instructions, by the effect and the word that stands at the place that it reads

abbrev pub plain_did : Program → Plain → (t : ℕ) → PlainThread → Top → Effect → (got : ℕ)
    → Option Plain
plain_did p q t x at (Writes v word) got =
    option_map (λ was.
    with_thread (written q (variable_word v) word) t (plain_goes_on x (Running (went_on p at 0))))
    (value_at q (variable_word v))
plain_did p q t x at (Indexes array index stored) got =
    plain_indexed p q t x at array (low index) stored (header_length got)
plain_did p q t x at (Makes word size) got = Some (plain_made p q t x at word size)
plain_did p q t x at (Prints n) got =
    Some (with_thread
    (record q { prints = q.prints ++ record { thread = t; value = int_of n } ∷ [] }) t
    (plain_goes_on x (Running (went_on p at 0))))
plain_did p q t x at Returns got = Some (with_thread q t (if_left q t x at (returns p at)))
plain_did p q t x at (Leaves m) got = Some (with_thread q t (plain_leaves p q t x at m))
plain_did p q t x at (Waits m) got =
    Some (with_thread q t (if_plain_held q t m x at (plain_leaving p x at (plain.Wait m))))
plain_did p q t x at (Notifies m) got =
    Some (with_thread q t (if_plain_held q t m x at (plain_leaving p x at (plain.Notify m))))
plain_did p q t x at (NotifiesAll m) got =
    Some (with_thread q t (if_plain_held q t m x at (plain_leaving p x at (plain.NotifyAll m))))
plain_did p q t x at e got = option_map (λ o. with_thread q t (plain_goes_on x o)) (done p at e got)

-- 0 where nothing is read
abbrev pub got_by : (memory : ℕ → Option ℕ) → Option ℕ → Option ℕ
got_by memory None = Some 0
got_by memory (Some x) = memory x

abbrev pub instructed_by : Program → Plain → (t : ℕ) → PlainThread → Top → Effect → Option Plain
instructed_by p q t x at e =
    option_and_then (λ got. plain_did p q t x at e got) (got_by (value_at q) (read_by e))

-- None: no step
abbrev pub plain_instructed : Program → Plain → (t : ℕ) → PlainThread → Option Top → Option Plain
plain_instructed p q t x None = None
plain_instructed p q t x (Some at) = instructed_by p q t x at (effect_at p at)
