-- Which words an event may find, by what stands at the word that it accesses.
use Rattle.std.specs.Prelude.{◌≡◌, ◌≢◌, ◌<◌, ◌≤◌, ℕ, ◌+◌, ◌^◌, true, length, Option, Some, None}
use Rattle.std.specs.Prelude.{IsTrue, IsSome, slice_get}
use Rattle.jvm_types.specs.ClassNames.{is_class}
use Rattle.jvm_types.specs.declared.class_numbers.TheConstants.{CLASS_ITSELF, INT_ARRAY_CLASS}
use Rattle.jvm_types.specs.declared.limits.TheConstants.{MOST_WORKERS}
use Rattle.jvm_types.specs.declared.program.FieldInfo.{FieldInfo}
use Rattle.jvm_types.specs.declared.program.Kind.{Kind}
use Rattle.jvm_types.specs.declared.program.Kind.TheVariants as kinds
use Rattle.jvm_types.specs.declared.program.Program.{Program}
use Rattle.jvm_types.specs.declared.program.Target.{Target}
use Rattle.jvm_types.specs.declared.program.Target.TheVariants as targets
use Rattle.machine_types.specs.Effects.{Effect, Goes, Reads, Writes, Indexes, Measures, Raises}
use Rattle.machine_types.specs.Effects.{Calls}
use Rattle.machine_types.specs.Frames.{Top, top_of, effect_at}
use Rattle.machine_types.specs.LockWords.{LockWord, lock_of, is_lock_word}
use Rattle.machine_types.specs.LockWords as locks
use Rattle.machine_types.specs.Monitors.{Claim, Has, claim}
use Rattle.machine_types.specs.ReadyObjects.{thrown_of}
use Rattle.checked_program.specs.MarkedProgram.{MarkedProgram}
use Rattle.machine_types.specs.Threads.{Thread, Phase}
use Rattle.machine_types.specs.Words.{header_class, header_length}
use Rattle.machine_types.specs.declared.lock.Kept.{Kept}
use Rattle.machine_types.specs.declared.lock.Kept.TheVariants as keeps
use Rattle.machine_types.specs.declared.phase.Phase.TheVariants as phases

-- ---- what stands at a word

pub data Content : Type 0 where
  Lock : Content
  Owner : Content
  Bits : Content
  Header : Content
  -- the header of a throwable
  ThrowableHeader : Content
  -- a place of type I or Z, or an element
  IntPlace : Content
  -- a place of a reference type
  ReferencePlace : Content
  -- a word that is counted up, word 0, or the header of a new object, which is stored for the first
  -- time
  Any : Content

-- counts stay far below what a word holds
abbrev pub most_count : ℕ
most_count = 2 ^ 61

abbrev pub HasCount : LockWord → Type 0
HasCount (locks.Free c) = c < most_count
HasCount lock = Unit {0}

-- a class that has objects, or a class itself; only arrays have a length
pub record IsHeader (p : Program) (word : ℕ) : Type 0 where
  pub class : header_class word ≢ CLASS_ITSELF
      → IsTrue (is_class (length p.names) (header_class word))
  pub unsized : header_class word ≢ INT_ARRAY_CLASS → header_length word ≡ 0
  pub fits : header_length word ≤ p.heap

abbrev pub WordFits : Program → Content → (word : ℕ) → Type 0
WordFits p Lock word = (is_lock_word word ≡ true) × HasCount (lock_of word)
WordFits p Owner word = word ≤ MOST_WORKERS + 1
WordFits p Bits word = word < 2 ^ (MOST_WORKERS + 1)
WordFits p Header word = IsHeader p word
WordFits p ThrowableHeader word = IsHeader p word × IsSome (thrown_of (header_class word))
WordFits p IntPlace word = word < 2 ^ 32
WordFits p ReferencePlace word = word < p.heap
WordFits p Any word = Unit {0}

-- ---- what an event accesses

abbrev pub kind_content : Kind → Content
kind_content (kinds.Ref class) = ReferencePlace
kind_content kind = IntPlace

abbrev pub field_content : Option FieldInfo → Content
field_content None = Any
field_content (Some f) = kind_content f.kind

abbrev pub variable_content : Program → Target → Content
variable_content p (targets.Field number) = field_content (slice_get p.fields number)
variable_content p target = Any

abbrev pub effect_content : Program → Target → Effect → Content
effect_content p target (Goes to made) = Lock
effect_content p target (Calls number) = Lock
effect_content p target (Reads v) = variable_content p target
effect_content p target (Writes v word) = variable_content p target
effect_content p target (Indexes array index stored) = Header
effect_content p target (Measures array) = Header
effect_content p target (Raises x) = ThrowableHeader
effect_content p target e = Any

abbrev pub run_content : Program → Option Top → Content
run_content p None = Any
run_content p (Some at) = effect_content p at.target (effect_at p at)

-- a monitor is left at its lock word, or at the owner of its record
abbrev pub leave_content : Claim → Content
leave_content (Has h) = by_kept h.kept
  where
    by_kept : Kept → Content
    by_kept (keeps.Flat c) = Lock
    by_kept (keeps.Fat r) = Owner
leave_content claim = Lock

abbrev pub content_at : MarkedProgram → Thread → Phase → Content
content_at c s phases.Run = run_content c.program (top_of c.program s.frames)
content_at c s (phases.Element word stored) = IntPlace
content_at c s (phases.Throw x class) = Lock
content_at c s (phases.Enter m tried) = Lock
content_at c s (phases.Acquire m) = Lock
content_at c s (phases.Take m count) = Lock
content_at c s (phases.Flag m u) = Lock
content_at c s (phases.TakeFat m r) = Owner
content_at c s (phases.Leave m a) = leave_content (claim s m)
content_at c s (phases.FlatOut m a) = Lock
content_at c s (phases.Own m r toward) = Owner
content_at c s (phases.FatIn m r toward) = Lock
content_at c s (phases.WaitBit m r) = Bits
content_at c s (phases.WaitOut m r) = Owner
content_at c s (phases.WaitLook m r depth) = Bits
content_at c s (phases.Retake m r depth) = Owner
content_at c s (phases.NotifyLook m r) = Bits
content_at c s (phases.NotifyOne m r u) = Bits
content_at c s (phases.NotifyAll m r) = Bits
content_at c s phase = Any

-- the word that the next event of a thread finds fits what it accesses
abbrev pub Fits : MarkedProgram → Thread → (got : ℕ) → Type 0
Fits c s got = WordFits c.program (content_at c s s.phase) got
