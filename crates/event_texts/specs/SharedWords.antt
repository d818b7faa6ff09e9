-- Which word the next event of a thread accesses, by what the word is to the program.
use Rattle.std.specs.Prelude.{ℕ, Option, Some, None}
use Rattle.std.specs.Option.{option_map}
use Rattle.jvm_types.specs.declared.program.Target.{Target}
use Rattle.jvm_types.specs.declared.program.Target.TheVariants as targets
use Rattle.machine_types.specs.declared.effect.Effect.{Effect}
use Rattle.machine_types.specs.declared.effect.Variable.{Variable}
use Rattle.machine_types.specs.declared.effect.Variable.TheVariants.{Instance, Static}
use Rattle.machine_types.specs.declared.effect.Effect.TheVariants.{Reads, Writes, Indexes, Measures}
use Rattle.machine_types.specs.declared.effect.Effect.TheVariants.{Raises, Makes, Prints}
use Rattle.machine_types.specs.HeldMonitors.{held_at}
use Rattle.machine_types.specs.Ints.{low}
use Rattle.machine_types.specs.Threads.{Thread, head_of}
use Rattle.machine_types.specs.declared.phase.Phase.{Phase}
use Rattle.machine_types.specs.declared.attempt.AttemptHead.{AttemptHead}
use Rattle.machine_types.specs.declared.lock.Held.{Held}
use Rattle.machine_types.specs.declared.lock.Kept.{Kept}
use Rattle.machine_types.specs.declared.lock.Kept.TheVariants as keeps
use Rattle.machine_types.specs.declared.phase.Phase.TheVariants as phases
use Rattle.event_texts.specs.declared.doing.Doing.{Doing}
pub use Rattle.event_texts.specs.declared.words.SharedWord.{SharedWord}
pub use Rattle.event_texts.specs.declared.words.SharedWord.TheVariants.{Null, NextFree, NextTicket}
pub use Rattle.event_texts.specs.declared.words.SharedWord.TheVariants.{NextRecord, Owner, Waiting}
pub use Rattle.event_texts.specs.declared.words.SharedWord.TheVariants.{Lock, Header, Field}
pub use Rattle.event_texts.specs.declared.words.SharedWord.TheVariants.{StaticField, Element}

-- ---- an instruction: the field that it names, the header that it reads, a counter, or the lock
-- word of the attempt

abbrev pub tried_lock : Option AttemptHead → SharedWord
tried_lock None = Null
tried_lock (Some a) = Lock a.monitor

abbrev pub variable_named : Target → Variable → SharedWord
variable_named (targets.Field number) (Instance reference index) = Field reference number
variable_named (targets.Field number) (Static word) = StaticField number
variable_named target v = Null

abbrev pub effect_word : Option AttemptHead → Target → Effect → SharedWord
effect_word attempt target (Reads v) = variable_named target v
effect_word attempt target (Writes v word) = variable_named target v
effect_word attempt target (Indexes array index stored) = Header array
effect_word attempt target (Measures array) = Header array
effect_word attempt target (Raises x) = Header x
effect_word attempt target (Makes word size) = NextFree
effect_word attempt target (Prints n) = NextTicket
effect_word attempt target e = tried_lock attempt

abbrev pub run_word : Option AttemptHead → Option Doing → SharedWord
run_word attempt None = Null
run_word attempt (Some d) = effect_word attempt d.target d.effect

abbrev pub element_by : Effect → SharedWord
element_by (Indexes array index stored) = Element array (low index)
element_by e = Null

abbrev pub element_of : Option Doing → SharedWord
element_of None = Null
element_of (Some d) = element_by d.effect

-- ---- a release: of a fat lock the owner of its record

abbrev pub kept_word : (m : ℕ) → Kept → SharedWord
kept_word m (keeps.Flat c) = Lock m
kept_word m (keeps.Fat r) = Owner m r

abbrev pub leave_word : (m : ℕ) → Option Held → SharedWord
leave_word m None = Lock m
leave_word m (Some h) = kept_word m h.kept

-- ---- all phases

abbrev pub shared_word_of : Thread → Option Doing → Phase → SharedWord
shared_word_of s d phases.Run = run_word (option_map head_of s.attempt) d
shared_word_of s d (phases.Element word stored) = element_of d
shared_word_of s d (phases.Made a word) = Header a
shared_word_of s d (phases.Throw x class) = tried_lock (option_map head_of s.attempt)
shared_word_of s d (phases.Enter m tried) = Lock m
shared_word_of s d (phases.Acquire m) = Lock m
shared_word_of s d (phases.Take m count) = Lock m
shared_word_of s d (phases.Flag m u) = Lock m
shared_word_of s d (phases.TakeFat m r) = Owner m r
shared_word_of s d (phases.Leave m a) = leave_word m (held_at s.held m)
shared_word_of s d (phases.Grow m toward) = NextRecord
shared_word_of s d (phases.FlatOut m a) = Lock m
shared_word_of s d (phases.Own m r toward) = Owner m r
shared_word_of s d (phases.FatIn m r toward) = Lock m
shared_word_of s d (phases.WaitBit m r) = Waiting m r
shared_word_of s d (phases.WaitOut m r) = Owner m r
shared_word_of s d (phases.WaitLook m r depth) = Waiting m r
shared_word_of s d (phases.Retake m r depth) = Owner m r
shared_word_of s d (phases.NotifyLook m r) = Waiting m r
shared_word_of s d (phases.NotifyOne m r u) = Waiting m r
shared_word_of s d (phases.NotifyAll m r) = Waiting m r
shared_word_of s d phase = Null
