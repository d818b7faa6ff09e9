-- The search through what a section calls, breadth first, and the walk to a method that calls
-- itself.
use Rattle.std.specs.Prelude.{◌≡◌, ◌<◌, ◌≤◌, ◌+◌, ◌-◌, ◌*◌, ◌/◌, ℕ, zero, suc, Bool, true, false}
use Rattle.std.specs.Prelude.{not, ◌&&◌, ◌==◌, nat_lt, if◌then◌else◌, List, [], ◌∷◌, ◌++◌, length}
use Rattle.std.specs.Prelude.{Option, Some, None, slice_get, slice_set, slice_index, slice_index_or}
use Rattle.std.specs.List.{count_by}
use Rattle.jvm_types.specs.declared.program.MethodInfo.{MethodInfo}
use Rattle.jvm_types.specs.declared.program.Program.{Program}
use Rattle.checked_program.specs.LockTags.{TagShape}
use Rattle.checked_program.specs.TaggedCode.{Tagged}
use Rattle.checked_program.specs.Sections.{Section, IsOwn}
use Rattle.checked_program.specs.Marks.{Callee, callee, Calls, BreaksAt, CalleeBreaks}
use Rattle.checked_program.specs.Marks.{class_of_method}
use Rattle.checked_program.specs.declared.tag.Tags.{Tags}
use Rattle.checked_program.specs.declared.section.Mode.{Mode}
use Rattle.checked_program.specs.declared.section.Uses.{Uses}
use Rattle.guard_analysis.specs.CallGraph.{node_of, mode_at, call_at}
use Rattle.guard_analysis.specs.Faults.{fault_at}
use Rattle.mark_reasons.specs.Firsts.{IsFirst}
use Rattle.mark_reasons.specs.Reasons.{IsWay, BeginsOwn, LeadsToFault, callee_of, mark_by}
use Rattle.mark_reasons.specs.Reasons.{own_callee}
use Rattle.mark_reasons.specs.declared.search.Entry.{Entry}
use Rattle.mark_reasons.specs.declared.search.Fault.{Fault}
use Rattle.mark_reasons.specs.declared.search.Search.{Search}
use Rattle.mark_reasons.specs.declared.reason.Site.{Site}

-- ---- the nodes of the graph of calls

-- where sections on a class are on this one
abbrev pub callee_at : (class node : ℕ) → Callee
callee_at class a = callee (a / 3) (mode_at class a)

-- the class of a section's method
abbrev pub class_of_section : Program → Section → ℕ
class_of_section p s = class_of_method (slice_get p.methods s.method)

-- ---- the search

-- a called node is added where it was not seen
abbrev pub search_visited : Search → Option ℕ → (caller at : ℕ) → Search
search_visited w None caller at = w
search_visited w (Some j) caller at =
    if nat_lt j (length w.seen) && not (slice_index_or w.seen j false)
    then record {
      seen = slice_set w.seen j true;
      queue = w.queue ++ record { node = j; caller = caller; at = at } ∷ [];
    } else w

-- with what each of the first numbers calls
abbrev pub visits : (ℕ → Option ℕ) → Search → (caller : ℕ) → ℕ → Search
visits calls w caller zero = w
visits calls w caller (suc i) = search_visited (visits calls w caller i) (calls i) caller i

-- ---- what the search goes by

-- what the instruction of a number calls, of a method as it is called
abbrev pub node_call : Program → Option MethodInfo → Option Tags → Mode → ℕ → Option ℕ
node_call p (Some m) (Some t) mode i =
    call_at p mode (slice_get m.code i) (slice_get m.targets i) (slice_get t.frames i)
node_call p m t mode i = None

abbrev pub node_fault : Program → Uses → (mi : ℕ) → Option MethodInfo → Option Tags → Mode → ℕ → ℕ
node_fault p uses mi (Some m) (Some t) mode i =
    fault_at p uses mi i mode (slice_get m.code i) (slice_get m.targets i) (slice_get t.frames i)
node_fault p uses mi m t mode i = 0

abbrev pub node_size : Option MethodInfo → Option Tags → ℕ
node_size (Some m) (Some t) = length m.code
node_size m t = 0

-- with all that it calls
abbrev pub node_visits : Program → Option MethodInfo → Option Tags → Mode → Search → (caller : ℕ)
    → Search
node_visits p (Some m) (Some t) mode w caller =
    visits (node_call p (Some m) (Some t) mode) w caller (length m.code)
node_visits p m t mode w caller = w

-- the first instruction that breaks a rule
abbrev pub IsFirstFaultOf : Program → Uses → (mi : ℕ) → Option MethodInfo → Option Tags → Mode
    → Option ℕ → Type 0
IsFirstFaultOf p uses mi (Some m) (Some t) mode found =
    IsFirst (λ i. nat_lt 0 (node_fault p uses mi (Some m) (Some t) mode i)) (length m.code) found
IsFirstFaultOf p uses mi m t mode found = found ≡ None

-- of an own instruction of a section that runs its method so
abbrev pub own_call : Program → Mode → MethodInfo → List (Option TagShape) → List Bool → ℕ
    → Option ℕ
own_call p mode m frames own i =
    if slice_index_or own i false
    then call_at p mode (slice_get m.code i) (slice_get m.targets i) (slice_get frames i)
    else None

abbrev pub calls_of : Program → List Tags → (class node : ℕ) → ℕ → Option ℕ
calls_of p tags class a i =
    node_call p (slice_get p.methods (a / 3)) (slice_get tags (a / 3)) (mode_at class a) i

abbrev pub node_fault_of : Program → Uses → List Tags → (class node : ℕ) → ℕ → ℕ
node_fault_of p uses tags class a i =
    node_fault p uses (a / 3) (slice_get p.methods (a / 3)) (slice_get tags (a / 3))
    (mode_at class a) i

-- ---- its course

abbrev pub HasNode : List Entry → ℕ → Type 0
HasNode queue j = (t : ℕ) × (e : Entry) × (slice_get queue t ≡ Some e) × (e.node ≡ j)

-- called by an own instruction, or by an entry among the first ones
abbrev pub HasNodeBy : List Entry → (node count : ℕ) → Type 0
HasNodeBy queue j count =
    (t : ℕ) × (e : Entry) × (slice_get queue t ≡ Some e) × (e.node ≡ j) × (e.caller ≤ count)

-- each entry was called by no later one than the entries behind it, and by one among the first
pub record IsOrdered (queue : List Entry) (count : ℕ) : Type 0 where
  pub before : (t : ℕ) (e : Entry) → slice_get queue t ≡ Some e → e.caller ≤ count
  pub order : (t u : ℕ) (e b : Entry) → t ≤ u → slice_get queue t ≡ Some e
      → slice_get queue u ≡ Some b → e.caller ≤ b.caller

-- a node is called by an own instruction, or by one of the method of an entry among the first
abbrev pub IsCalled : Program → Tagged → Section → List Entry → (count caller at node : ℕ) → Type 0
IsCalled p tags s queue count zero at node =
    IsOwn p tags s.method s.spot at
    × Calls p tags (own_callee p s) at (callee_at (class_of_section p s) node)
IsCalled p tags s queue count (suc c) at node =
    (c < count) × (b : Entry) × (slice_get queue c ≡ Some b)
    × Calls p tags (callee_at (class_of_section p s) b.node) at
    (callee_at (class_of_section p s) node)

pub record IsSearchSound (p : Program) (tags : Tagged) (s : Section) (n : ℕ) (w : Search)
    : Type 0 where
  pub long : length w.seen ≡ n
  pub marked : (j : ℕ) → slice_index_or w.seen j false ≡ true → HasNode w.queue j
  pub called : (t : ℕ) (e : Entry) → slice_get w.queue t ≡ Some e
      → IsCalled p tags s w.queue t e.caller e.at e.node

-- the first k entries are done: none breaks a rule, and what they call is found
pub record Searching (p : Program) (tags : Tagged) (uses : Uses) (s : Section) (n k : ℕ)
    (w : Search) : Type 0 where
  pub sound : IsSearchSound p tags s n w
  pub ordered : IsOrdered w.queue k
  pub begun : (i : ℕ) (b : Callee) → IsOwn p tags s.method s.spot i
      → Calls p tags (own_callee p s) i b → HasNodeBy w.queue (node_of b) 0
  pub closed : (t i : ℕ) (e : Entry) (b : Callee) → t < k → slice_get w.queue t ≡ Some e
      → Calls p tags (callee_at (class_of_section p s) e.node) i b
      → HasNodeBy w.queue (node_of b) (suc t)
  pub sane : (t i r : ℕ) (e : Entry) → t < k → slice_get w.queue t ≡ Some e
      → BreaksAt p tags uses (callee_at (class_of_section p s) e.node) i r → ⊥

-- ---- the way to an entry

abbrev pub site_at : (class node at : ℕ) → Site
site_at class node at = record { method = node / 3; mode = mode_at class node; at = at }

abbrev pub own_site : Mode → (method at : ℕ) → Site
own_site mode method at = record { method = method; mode = mode; at = at }

-- the instructions by which the search came to an entry, from the section's own on
pub data IsBack (class : ℕ) (own : Mode) (method : ℕ) (queue : List Entry) : ℕ → List Site
    → Type 0 where
  from_section : (t : ℕ) (e : Entry) → slice_get queue t ≡ Some e → e.caller ≡ 0
      → IsBack class own method queue t (own_site own method e.at ∷ [])
  from_entry : (t c : ℕ) (e b : Entry) (front : List Site) → slice_get queue t ≡ Some e
      → e.caller ≡ suc c → slice_get queue c ≡ Some b → IsBack class own method queue c front
      → IsBack class own method queue t (front ++ site_at class b.node e.at ∷ [])

-- each entry was called by one before it
abbrev pub AreCalledBefore : List Entry → Type 0
AreCalledBefore queue = (t : ℕ) (e : Entry) → slice_get queue t ≡ Some e → e.caller ≤ t

-- None: nothing that the section calls breaks a rule
abbrev pub IsFaultFound : Program → Tagged → Uses → Section → Option Fault → Type 0
IsFaultFound p tags uses s None = CalleeBreaks p tags uses s → ⊥
IsFaultFound p tags uses s (Some fault) =
    LeadsToFault p tags uses s fault.way fault.site fault.rule × (mark_by fault.way fault.rule ≡ 6)

-- what is left to do
abbrev pub unseen : List Bool → ℕ
unseen seen = count_by (λ b. not b) seen

abbrev pub left_of : Search → ℕ → ℕ
left_of w k = 2 * unseen w.seen + length w.queue - k

-- ---- the walk to a method that calls itself

-- a call of a node that leads to a cycle
abbrev pub turns : List Bool → Option ℕ → Bool
turns recurs None = false
turns recurs (Some y) = slice_index_or recurs y false

-- the first such call
abbrev pub IsFirstTurn : Program → List Bool → Option MethodInfo → Option Tags → Mode → Option ℕ
    → Type 0
IsFirstTurn p recurs (Some m) (Some t) mode found =
    IsFirst (λ i. turns recurs (node_call p (Some m) (Some t) mode i)) (length m.code) found
IsFirstTurn p recurs m t mode found = found ≡ None

-- of each node that the way came to, one more than the number of its instruction
abbrev pub ArePlaces : (class : ℕ) → List Site → List ℕ → Type 0
ArePlaces class way places =
    (j : ℕ) → 0 < slice_index places j
    → (x : Site) × (slice_get way (slice_index places j - 1) ≡ Some x)
    × (callee_of x ≡ callee_at class j)

-- the way leads to a node that leads to a cycle
pub record Walking (p : Program) (tags : Tagged) (s : Section) (recurs : List Bool) (n node : ℕ)
    (way : List Site) (places : List ℕ) : Type 0 where
  pub leads : IsWay p tags (own_callee p s) way (callee_at (class_of_section p s) node)
  pub own : BeginsOwn p tags s way
  pub flagged : slice_index_or recurs node false ≡ true
  pub inside : node < n
  pub long : length places ≡ n
  pub noted : ArePlaces (class_of_section p s) way places

abbrev pub unplaced : List ℕ → ℕ
unplaced places = count_by (λ n. n == 0) places

-- ---- own instructions

-- an own instruction breaks the rule
abbrev pub own_breaks : Program → Uses → Mode → (mi : ℕ) → MethodInfo → Tags → List Bool
    → (rule : ℕ) → ℕ → Bool
own_breaks p uses mode mi m t own rule i =
    slice_index_or own i false && (node_fault p uses mi (Some m) (Some t) mode i == rule)
