-- The words that events access, each by what stands there: which word it is, and when it is there.
use Rattle.std.specs.Prelude.{◌≡◌, ℕ, ◌<◌, ◌≤◌, List, length, Contains, Option, Some, None}
use Rattle.std.specs.Prelude.{slice_get}
use Rattle.jvm_types.specs.declared.program.Program.{Program}
use Rattle.machine_types.specs.Accesses.{accessed}
use Rattle.machine_types.specs.declared.access.Access.{Access}
use Rattle.machine_types.specs.declared.access.Access.TheVariants.{Load, Store, Cas, Add, Or, And}
use Rattle.machine_types.specs.declared.access.Access.TheVariants.{Rest}
use Rattle.machine_types.specs.Core.{Core}
use Rattle.machine_types.specs.FoundWords.{Content, Lock, Owner, Bits, Header, ThrowableHeader}
use Rattle.machine_types.specs.FoundWords.{IntPlace, ReferencePlace, Any}
use Rattle.machine_types.specs.PlainMemory.{Object, StaticValue, start_statics}
use Rattle.machine_types.specs.Threads.{Thread}
use Rattle.machine_types.specs.Words.{owner_word, bits_word, header_word, value_word}
use Rattle.jvm_types.specs.declared.fixed_words.TheConstants.{NEXT_FREE_WORD, NEXT_RECORD_WORD}
use Rattle.jvm_types.specs.declared.fixed_words.TheConstants.{MONITOR_RECORDS}
use Rattle.machine_types.specs.declared.phase.Phase.TheVariants as phases

pub data Site : Type 0 where
  -- the next free word, the next ticket or the next monitor record
  Counter : (word : ℕ) → Site
  -- of a monitor record
  OwnerOf : (r : ℕ) → Site
  BitsOf : (r : ℕ) → Site
  -- of an object
  LockOf : (reference : ℕ) → Site
  HeaderOf : (reference : ℕ) → Site
  -- a field or an element
  ValueOf : (reference index : ℕ) → Site
  -- of an object whose header is not stored yet
  NewHeaderOf : (reference : ℕ) → Site
  StaticAt : (word : ℕ) → Site

abbrev pub site_word : Site → ℕ
site_word (Counter word) = word
site_word (OwnerOf r) = owner_word r
site_word (BitsOf r) = bits_word r
site_word (LockOf reference) = reference
site_word (HeaderOf reference) = header_word reference
site_word (ValueOf reference index) = value_word reference index
site_word (NewHeaderOf reference) = header_word reference
site_word (StaticAt word) = word

-- ---- when it is there

abbrev pub HasObject : List Object → (reference : ℕ) → Type 0
HasObject objects reference = (o : Object) × Contains objects o × (o.reference ≡ reference)

abbrev pub HasValueAt : List Object → (reference index : ℕ) → Type 0
HasValueAt objects reference index =
    (o : Object) × Contains objects o × (o.reference ≡ reference) × (index < length o.values)

-- a thread has made it, and is about to store its header
abbrev pub HasNew : Core → (reference : ℕ) → Type 0
HasNew s reference =
    (t : ℕ) × (x : Thread) × (word : ℕ) × (slice_get s.threads t ≡ Some x)
    × (x.phase ≡ phases.Made reference word)

abbrev pub HasStatic : Program → (word : ℕ) → Type 0
HasStatic p word = (v : StaticValue) × Contains (start_statics p) v × (v.word ≡ word)

-- in a state with these objects
abbrev pub IsThere : Program → List Object → Core → Site → Type 0
IsThere p objects s (Counter word) = (NEXT_FREE_WORD ≤ word) × (word ≤ NEXT_RECORD_WORD)
IsThere p objects s (OwnerOf r) = r < MONITOR_RECORDS
IsThere p objects s (BitsOf r) = r < MONITOR_RECORDS
IsThere p objects s (LockOf reference) = HasObject objects reference
IsThere p objects s (HeaderOf reference) = HasObject objects reference
IsThere p objects s (ValueOf reference index) = HasValueAt objects reference index
IsThere p objects s (NewHeaderOf reference) = HasNew s reference
IsThere p objects s (StaticAt word) = HasStatic p word

-- ---- what an event accesses

abbrev pub Suits : Content → Site → Type 0
Suits Lock (LockOf reference) = Unit {0}
Suits Owner (OwnerOf r) = Unit {0}
Suits Bits (BitsOf r) = Unit {0}
Suits Header (HeaderOf reference) = Unit {0}
Suits ThrowableHeader (HeaderOf reference) = Unit {0}
Suits IntPlace (ValueOf reference index) = Unit {0}
Suits IntPlace (StaticAt word) = Unit {0}
Suits ReferencePlace (ValueOf reference index) = Unit {0}
Suits ReferencePlace (StaticAt word) = Unit {0}
Suits Any (Counter word) = Unit {0}
Suits Any (NewHeaderOf reference) = Unit {0}
Suits content site = ⊥

pub record IsAccessOf (p : Program) (objects : List Object) (s : Core) (content : Content)
    (access : Access) : Type 0 where
  pub site : Site
  pub there : IsThere p objects s site
  pub word : accessed access ≡ site_word site
  pub suits : Suits content site

-- an end is told by no access to a word
abbrev pub Reaches : Program → List Object → Core → Content → Access → Type 0
Reaches p objects s content Rest = Unit {0}
Reaches p objects s content (Load w) = IsAccessOf p objects s content (Load w)
Reaches p objects s content (Store w v) = IsAccessOf p objects s content (Store w v)
Reaches p objects s content (Cas w is v) = IsAccessOf p objects s content (Cas w is v)
Reaches p objects s content (Add w v) = IsAccessOf p objects s content (Add w v)
Reaches p objects s content (Or w v) = IsAccessOf p objects s content (Or w v)
Reaches p objects s content (And w v) = IsAccessOf p objects s content (And w v)

abbrev pub ReachesIf : Program → List Object → Core → Content → Option Access → Type 0
ReachesIf p objects s content None = Unit {0}
ReachesIf p objects s content (Some access) = Reaches p objects s content access
