-- Verification by inference of types (JVMS 4.10.2): the rules at one instruction, its edges, and
-- the visits. The instruction that is visited next is the waiting one of least pc; the standard
-- leaves this open.
use Rattle.std.specs.Prelude.{◌≡◌, ◌≢◌, ◌≤◌, IsTrue, IsSomeAnd, ℕ, suc, ◌+◌, ◌-◌, Bool, true, false}
use Rattle.std.specs.Prelude.{not, ◌&&◌, ◌||◌, ◌==◌, nat_lt, nat_le, if◌then◌else◌, List, [], ◌∷◌}
use Rattle.std.specs.Prelude.{◌++◌, length, map, Option, Some, None, Result, Ok, Err, slice_get}
use Rattle.std.specs.Prelude.{slice_set}
use Rattle.std.specs.List.{list_any, filter, AllByRecursion, AllZip}
use Rattle.jvm_types.specs.Numbers.{has_number}
use Rattle.jvm_types.specs.ClassTree.{is_subclass}
use Rattle.jvm_types.specs.CodeTable.{row, branches_to, falls_through, stack_after, locals_after}
use Rattle.jvm_types.specs.CodeTable.{is_init}
use Rattle.jvm_types.specs.declared.op_row.Want.{Want}
use Rattle.jvm_types.specs.declared.op_row.Want.TheVariants.{AnyValue, AnInt, AnObject}
use Rattle.jvm_types.specs.declared.op_row.Want.TheVariants.{AnyReference, AHolder, ToStart}
use Rattle.jvm_types.specs.declared.op_row.OpRow.{OpRow}
use Rattle.jvm_types.specs.CodeGrammar.{IsCode}
use Rattle.jvm_types.specs.declared.class_file.Handler.{Handler}
use Rattle.jvm_types.specs.Types.{TypeFrame, is_below, is_uninitialised, is_new, same_type}
use Rattle.jvm_types.specs.Types.{same_frame, frame_below, meet_frames, entry_type_frame}
use Rattle.jvm_types.specs.declared.code.Insn.{Insn}
use Rattle.jvm_types.specs.declared.code.Op.{Op}
use Rattle.jvm_types.specs.declared.code.Op.TheVariants as ops
use Rattle.jvm_types.specs.declared.typing.VType.{VType}
use Rattle.jvm_types.specs.declared.typing.VType.TheVariants.{Int, Ref, This, New, Top}
use Rattle.jvm_types.specs.declared.typing.Typing.{Typing}
use Rattle.jvm_types.specs.declared.program.Kind.{Kind}
use Rattle.jvm_types.specs.declared.program.Kind.TheVariants as kinds
use Rattle.jvm_types.specs.declared.program.Target.{Target}
use Rattle.jvm_types.specs.declared.program.Target.TheVariants as targets
use Rattle.jvm_types.specs.declared.program.Row.{Row}
use Rattle.jvm_types.specs.declared.program.MethodInfo.{MethodInfo}
use Rattle.jvm_types.specs.declared.program.Program.{Program}
use Rattle.jvm_types.specs.declared.refusal.VRule.{VRule}
use Rattle.jvm_types.specs.declared.refusal.VRule.TheVariants.{V1, V2, V3, V4, V5, V6, V7, V8}
use Rattle.jvm_types.specs.declared.class_numbers.TheConstants.{OBJECT_CLASS, THROWABLE_CLASS}

-- ---- the values that an instruction takes and reads

-- the class that the `new` at a pc names
abbrev pub new_class : List Insn → List Target → ℕ → Option ℕ
new_class (insn ∷ insns) (targets.Class class ∷ ts) pc =
    if insn.pc == pc then Some class else new_class insns ts pc
new_class (insn ∷ insns) (t ∷ ts) pc = new_class insns ts pc
new_class insns ts pc = None

abbrev pub is_class_of : Option ℕ → ℕ → Bool
is_class_of None class = false
is_class_of (Some c) class = c == class

-- V7: an uninitialised value where none may stand, or an `<init>` on an initialised one. `putfield`
-- of a field of the own class on the uninitialised `this` is accepted, since javac writes it for
-- inner classes.
abbrev pub misuses : MethodInfo → Want → VType → Bool
misuses m AnyValue t = false
misuses m AnyReference t = false
misuses m (ToStart class) (Ref c) = true
misuses m (ToStart class) t = false
misuses m (AHolder class) This = not (class == m.class)
misuses m want t = is_uninitialised t

-- V4 where it does not: the value is of the type that is asked for
abbrev pub suits : MethodInfo → Want → VType → Bool
suits m AnyValue t = true
suits m AnInt t = is_below t Int
suits m (AnObject class) t = is_below t (Ref class)
suits m AnyReference t = is_uninitialised t || is_below t (Ref OBJECT_CLASS)
suits m (AHolder class) This = class == m.class
suits m (AHolder class) t = is_below t (Ref class)
suits m (ToStart class) This = class == m.class || class == OBJECT_CLASS
suits m (ToStart class) (New pc) = is_class_of (new_class m.code m.targets pc) class
suits m (ToStart class) t = false

-- whether some value that is taken, or the local that is read, has the fault
abbrev pub some_taken : (Want → VType → Bool) → List Want → List VType → Bool
some_taken fault (want ∷ wants) (t ∷ ts) = fault want t || some_taken fault wants ts
some_taken fault wants ts = false

abbrev pub is_fault_at_local : (Want → VType → Bool) → Want → Option VType → Bool
is_fault_at_local fault want None = false
is_fault_at_local fault want (Some t) = fault want t

abbrev pub some_read : (Want → VType → Bool) → Option (ℕ × Want) → List VType → Bool
some_read fault None locals = false
some_read fault (Some read) locals = is_fault_at_local fault read.1 (slice_get locals read.0)

abbrev pub some_operand : (Want → VType → Bool) → OpRow → TypeFrame → Bool
some_operand fault r f = some_taken fault r.takes f.stack || some_read fault r.reads f.locals

-- ---- the rules at one instruction

-- the first rule of a list that is broken
abbrev pub first_broken : List (Bool × VRule) → Option VRule
first_broken [] = None
first_broken (test ∷ tests) = if test.0 then Some test.1 else first_broken tests

-- V1: the stack has too few values
abbrev pub takes_too_many : OpRow → TypeFrame → Bool
takes_too_many r f = nat_lt (length f.stack) (length r.takes)

-- V2: the stack would pass max_stack
abbrev pub gives_too_many : MethodInfo → OpRow → TypeFrame → Bool
gives_too_many m r f = nat_lt m.max_stack (length f.stack - length r.takes + length r.gives)

-- V3: a local at or above max_locals, or arguments that do not fit in max_locals
abbrev pub names_no_local : {A : Type 0} → MethodInfo → Option (ℕ × A) → Bool
names_no_local m None = false
names_no_local m (Some local) = nat_le m.max_locals local.0

abbrev pub lacks_locals : MethodInfo → OpRow → TypeFrame → Bool
lacks_locals m r f =
    names_no_local m r.reads || names_no_local m r.writes || nat_lt m.max_locals (length f.locals)

-- whether a handler row covers a pc (JVMS 2.10)
abbrev pub covers : ℕ → Row → Bool
covers pc handler = nat_le handler.start pc && nat_lt pc handler.end

abbrev pub is_return : Op → Bool
is_return ops.Ireturn = true
is_return ops.Areturn = true
is_return ops.Return = true
is_return op = false

-- V7, its cases: a misused value; one that is uninitialised at a branch to a pc at or before it;
-- one that is uninitialised by `new` in a local where a handler row covers, where the standard
-- forbids `this` too; an `<init>` that returns before `this` is initialised.
abbrev pub misuses_object : MethodInfo → Insn → OpRow → TypeFrame → Bool
misuses_object m insn r f =
    some_operand (misuses m) r f
    || (list_any (λ to. nat_le to insn.pc) (branches_to insn.op)
    && (list_any is_uninitialised f.stack || list_any is_uninitialised f.locals))
    || (list_any (covers insn.pc) m.rows && list_any is_new f.locals)
    || (is_return insn.op && not f.ready)

-- V4: a value of another type
abbrev pub mistypes : MethodInfo → OpRow → TypeFrame → Bool
mistypes m r f = some_operand (λ want t. not (suits m want t)) r f

-- V8: a return instruction that does not fit the descriptor
abbrev pub returns_wrongly : Op → Option Kind → Bool
returns_wrongly ops.Return None = false
returns_wrongly ops.Return result = true
returns_wrongly ops.Ireturn (Some kinds.Int) = false
returns_wrongly ops.Ireturn (Some kinds.Bool) = false
returns_wrongly ops.Ireturn result = true
returns_wrongly ops.Areturn (Some (kinds.Ref class)) = false
returns_wrongly ops.Areturn result = true
returns_wrongly op result = false

-- V6: the code falls off its end
abbrev pub falls_off : List Insn → Insn → Bool
falls_off code insn = falls_through insn.op && not (list_any (λ other. other.pc == insn.next) code)

-- the rules that are tested before an edge is brought, in their order
abbrev pub broken_before : MethodInfo → Insn → OpRow → TypeFrame → Option VRule
broken_before m insn r f = first_broken
    ((takes_too_many r f, V1) ∷ (gives_too_many m r f, V2) ∷ (lacks_locals m r f, V3)
    ∷ (misuses_object m insn r f, V7) ∷ (mistypes m r f, V4) ∷ [])

-- and after its normal edges were
abbrev pub broken_after : MethodInfo → Insn → Option VRule
broken_after m insn =
    first_broken ((returns_wrongly insn.op m.result, V8) ∷ (falls_off m.code insn, V6) ∷ [])

-- ---- the frame after an instruction

-- the object that an `<init>` is called on, and its class
abbrev pub started : ℕ → List Want → List VType → Option (VType × ℕ)
started own (ToStart class ∷ wants) (This ∷ ts) = Some (This, own)
started own (ToStart class ∷ wants) (t ∷ ts) = Some (t, class)
started own (want ∷ wants) (t ∷ ts) = started own wants ts
started own wants ts = None

-- every place that has the object
abbrev pub initialised : VType → ℕ → List VType → List VType
initialised t class ts = map (λ u. if same_type t u then Ref class else u) ts

abbrev pub after_start : Option (VType × ℕ) → TypeFrame → TypeFrame
after_start None f = f
after_start (Some object) f =
    record {
      stack = initialised object.0 object.1 f.stack;
      locals = initialised object.0 object.1 f.locals;
      ready = f.ready || same_type object.0 This;
    }

abbrev pub frame_after : MethodInfo → OpRow → TypeFrame → TypeFrame
frame_after m r f = after_start (started m.class r.takes f.stack)
    (record {
      stack = stack_after Top (λ t. t) r f.stack f.locals;
      locals = locals_after Top (λ t. t) r.writes f.stack f.locals;
      ready = f.ready;
    })

-- ---- edges

-- the pcs that an instruction goes on at
abbrev pub edges : Insn → List ℕ
edges insn = branches_to insn.op ++ (if falls_through insn.op then insn.next ∷ [] else [])

-- the class that a handler row catches: Throwable where its catch type is 0
abbrev pub caught_class : Row → ℕ
caught_class handler = if handler.catch_class == 0 then THROWABLE_CLASS else handler.catch_class

-- the frame at a handler: the locals as they are before the instruction, and the one exception on
-- the stack
abbrev pub frame_at_handler : Row → TypeFrame → TypeFrame
frame_at_handler handler f =
    record { stack = Ref (caught_class handler) ∷ []; locals = f.locals; ready = f.ready }

-- the rules of a covering row but V5: V2 at the instruction, V4 at the handler
abbrev pub catch_fault : MethodInfo → ℕ → Row → Option (VRule × ℕ)
catch_fault m pc handler =
    if m.max_stack == 0 then Some (V2, pc) else
    if not (is_subclass (caught_class handler) THROWABLE_CLASS) then Some (V4, handler.handler) else
    None

-- ---- visits

-- what is known of an instruction in the course of the visits: the frame that its edges met in, and
-- whether that has changed since it was visited
pub record Node : Type 0 where
  pub frame : Option TypeFrame
  pub waits : Bool

abbrev pub node_at : List Node → ℕ → Node
node_at nodes i = unwrapped (slice_get nodes i)
  where
    unwrapped : Option Node → Node
    unwrapped None = record { frame = None; waits = false }
    unwrapped (Some node) = node

-- at the start pc 0 waits with the entry frame
abbrev pub first_nodes : MethodInfo → List Insn → List Node
first_nodes m [] = []
first_nodes m (insn ∷ insns) =
    record { frame = Some (entry_type_frame m); waits = true }
    ∷ map (λ other. record { frame = None; waits = false }) insns

-- an edge brings a frame
abbrev pub node_met : Node → Option TypeFrame → TypeFrame → Node
node_met node None f = record { frame = Some f; waits = true }
node_met node (Some g) f = with_frame (meet_frames g f)
  where
    with_frame : TypeFrame → Node
    with_frame h = record { frame = Some h; waits = node.waits || not (same_frame g h) }

abbrev pub brought : List Insn → ℕ → TypeFrame → List Node → List Node
brought (insn ∷ insns) to f (node ∷ nodes) =
    if insn.pc == to then node_met node node.frame f ∷ nodes else node ∷ brought insns to f nodes
brought insns to f nodes = nodes

abbrev pub all_brought : List Insn → List ℕ → TypeFrame → List Node → List Node
all_brought code [] f nodes = nodes
all_brought code (to ∷ tos) f nodes = all_brought code tos f (brought code to f nodes)

-- V5: of the instructions where an edge is brought, the first whose frame has another depth
abbrev pub has_other_depth : Option TypeFrame → ℕ → Bool
has_other_depth None depth = false
has_other_depth (Some f) depth = not (length f.stack == depth)

abbrev pub clash : List Insn → List ℕ → ℕ → List Node → Option ℕ
clash (insn ∷ insns) tos depth (node ∷ nodes) =
    if has_number tos insn.pc && has_other_depth node.frame depth then Some insn.pc
    else clash insns tos depth nodes
clash insns tos depth nodes = None

-- the edges to the handlers of the covering rows, row by row
abbrev pub unless_caught : Option (VRule × ℕ) → Option ℕ → Result (List Node) (VRule × ℕ)
    → Result (List Node) (VRule × ℕ)
unless_caught (Some fault) at more = Err fault
unless_caught None (Some at) more = Err (V5, at)
unless_caught None None more = more

abbrev pub handled : MethodInfo → ℕ → TypeFrame → List Row → List Node
    → Result (List Node) (VRule × ℕ)
handled m pc f [] nodes = Ok nodes
handled m pc f (handler ∷ handlers) nodes =
    unless_caught (catch_fault m pc handler) (clash m.code (handler.handler ∷ []) 1 nodes)
    (handled m pc f handlers (brought m.code handler.handler (frame_at_handler handler f) nodes))

-- one visit of an instruction with its frame: its rules, its normal edges, then those to handlers
abbrev pub unless_broken : ℕ → Option VRule → Result (List Node) (VRule × ℕ)
    → Result (List Node) (VRule × ℕ)
unless_broken pc (Some rule) more = Err (rule, pc)
unless_broken pc None more = more

abbrev pub unless_clash : Option ℕ → Result (List Node) (VRule × ℕ) → Result (List Node) (VRule × ℕ)
unless_clash (Some at) more = Err (V5, at)
unless_clash None more = more

abbrev pub covering : MethodInfo → ℕ → List Row
covering m pc = filter (covers pc) m.rows

abbrev pub gone_on : MethodInfo → Insn → TypeFrame → TypeFrame → List Node
    → Result (List Node) (VRule × ℕ)
gone_on m insn f after nodes =
    unless_clash (clash m.code (edges insn) (length after.stack) nodes)
    (unless_broken insn.pc (broken_after m insn)
    (handled m insn.pc f (covering m insn.pc) (all_brought m.code (edges insn) after nodes)))

abbrev pub visited_row : MethodInfo → Insn → OpRow → TypeFrame → List Node
    → Result (List Node) (VRule × ℕ)
visited_row m insn r f nodes =
    unless_broken insn.pc (broken_before m insn r f) (gone_on m insn f (frame_after m r f) nodes)

abbrev pub visited_insn : Program → MethodInfo → Option Insn → Option Target → Option TypeFrame
    → List Node → Result (List Node) (VRule × ℕ)
visited_insn p m (Some insn) (Some target) (Some f) nodes =
    visited_row m insn (row p m insn.pc target insn.op) f nodes
visited_insn p m insn target f nodes = Ok nodes

-- the visit of the instruction of this number, which then waits no more unless an edge to itself
-- changes it
abbrev pub visited : Program → MethodInfo → ℕ → List Node → Result (List Node) (VRule × ℕ)
visited p m i nodes = visited_node (node_at nodes i)
  where
    visited_node : Node → Result (List Node) (VRule × ℕ)
    visited_node node =
        visited_insn p m (slice_get m.code i) (slice_get m.targets i) node.frame
        (slice_set nodes i (record node { waits = false }))

-- the waiting instruction of least pc, by its number
abbrev pub waiting_from : ℕ → List Node → Option ℕ
waiting_from i [] = None
waiting_from i (node ∷ nodes) = if node.waits then Some i else waiting_from (suc i) nodes

abbrev pub next_visit : List Node → Option ℕ
next_visit nodes = waiting_from 0 nodes

-- the visits of a method from some nodes on, by the numbers of the instructions, until nothing
-- waits
abbrev pub Visits : Program → MethodInfo → List Node → List ℕ → List Node → Type 0
Visits p m nodes [] last = (next_visit nodes ≡ None) × (last ≡ nodes)
Visits p m nodes (i ∷ is) last =
    (next_visit nodes ≡ Some i) × (mid : List Node) × (visited p m i nodes ≡ Ok mid)
    × Visits p m mid is last

-- the visits until one breaks a rule; there is at least that one
abbrev pub Breaks : Program → MethodInfo → List Node → List ℕ → VRule × ℕ → Type 0
Breaks p m nodes [] fault = ⊥
Breaks p m nodes (i ∷ []) fault = (next_visit nodes ≡ Some i) × (visited p m i nodes ≡ Err fault)
Breaks p m nodes (i ∷ j ∷ is) fault =
    (next_visit nodes ≡ Some i) × (mid : List Node) × (visited p m i nodes ≡ Ok mid)
    × Breaks p m mid (j ∷ is) fault

-- ---- the answer

-- no visit of the method breaks a rule, and these are the last frames; an instruction that no visit
-- reached has none
pub record HasTyping (p : Program) (m : MethodInfo) (frames : List (Option TypeFrame))
    : Type 0 where
  pub visits : List ℕ
  pub last : List Node
  pub made : Visits p m (first_nodes m m.code) visits last
  pub are : frames ≡ map (λ node. node.frame) last

-- the typing of a method
abbrev pub IsTypingOf : Program → MethodInfo → Typing → Type 0
IsTypingOf p m t = HasTyping p m t.frames

-- a method is refused by a rule, at a pc
pub record IsRefused (p : Program) (m : MethodInfo) (rule : VRule) (pc : ℕ) : Type 0 where
  pub visits : List ℕ
  pub broken : Breaks p m (first_nodes m m.code) visits (rule, pc)

-- ---- the laws

-- the frame at a pc
abbrev pub frame_at : List Insn → List (Option TypeFrame) → ℕ → Option TypeFrame
frame_at (insn ∷ insns) (frame ∷ frames) pc =
    if insn.pc == pc then frame else frame_at insns frames pc
frame_at insns frames pc = None

-- the frame that an edge brings is at or below the frame at its target
abbrev pub FrameFits : List Insn → List (Option TypeFrame) → TypeFrame → ℕ → Type 0
FrameFits code frames f to = IsSomeAnd (frame_at code frames to) (λ g. IsTrue (frame_below f g))

-- at an instruction with this frame no rule is broken, and each edge fits the frame at its target
pub record IsSound (m : MethodInfo) (insn : Insn) (r : OpRow) (frames : List (Option TypeFrame))
    (f : TypeFrame) : Type 0 where
  pub before : broken_before m insn r f ≡ None
  pub after : broken_after m insn ≡ None
  pub edges_fit : AllByRecursion (FrameFits m.code frames (frame_after m r f)) (edges insn)
  pub rows_hold : AllByRecursion (λ handler. catch_fault m insn.pc handler ≡ None)
      (covering m insn.pc)
  pub handlers_fit : AllByRecursion
      (λ handler. FrameFits m.code frames (frame_at_handler handler f) handler.handler)
      (covering m insn.pc)

-- an assignment of frames that meets all rows and edges, and under which no instruction breaks a
-- rule
pub record IsAssignment (p : Program) (m : MethodInfo) (frames : List (Option TypeFrame))
    : Type 0 where
  pub long : length frames ≡ length m.code
  pub entry : FrameFits m.code frames (entry_type_frame m) 0
  pub sound : (i : ℕ) (insn : Insn) (target : Target) (f : TypeFrame)
      → slice_get m.code i ≡ Some insn → slice_get m.targets i ≡ Some target
      → slice_get frames i ≡ Some (Some f)
      → IsSound m insn (row p m insn.pc target insn.op) frames f

-- where one assignment has a frame the other has one, at or above it
abbrev pub IsFrameBelow : Option TypeFrame → Option TypeFrame → Type 0
IsFrameBelow None g = Unit {0}
IsFrameBelow (Some f) g = IsSomeAnd g (λ h. IsTrue (frame_below f h))

abbrev pub AreFramesBelow : List (Option TypeFrame) → List (Option TypeFrame) → Type 0
AreFramesBelow frames others =
    (i : ℕ) (f g : Option TypeFrame) → slice_get frames i ≡ Some f → slice_get others i ≡ Some g
    → IsFrameBelow f g

-- what the laws ask of a method: that its instructions follow one another and each has a target, as
-- linking leaves them
pub record IsLaidOut (m : MethodInfo) : Type 0 where
  pub bytes : List ℕ
  pub handlers : List Handler
  pub code : IsCode bytes handlers m.code
  pub rows : AllZip
      (λ r (h : Handler). (r.start ≡ h.start) × (r.end ≡ h.end) × (r.handler ≡ h.handler)) m.rows
      handlers
  pub targets : length m.targets ≡ length m.code

-- the local law: a typing is such an assignment
abbrev pub LocalLaw : Type 0
LocalLaw =
    (p : Program) (m : MethodInfo) (frames : List (Option TypeFrame)) → IsLaidOut m
    → HasTyping p m frames → IsAssignment p m frames

-- the frame law: each frame of a typing has max_locals locals and at most max_stack values on its
-- stack, and outside an `<init>` its `this` is initialised
abbrev pub FrameLaw : Type 0
FrameLaw =
    (p : Program) (m : MethodInfo) (frames : List (Option TypeFrame)) → IsLaidOut m
    → HasTyping p m frames → (i : ℕ) (f : TypeFrame) → slice_get frames i ≡ Some (Some f)
    → (length f.locals ≡ m.max_locals) × (length f.stack ≤ m.max_stack)
    × (is_init m ≡ false → f.ready ≡ true)

-- the least law: a typing is at or below every assignment; and a refusal by a rule other than V7
-- comes only where there is none. An uninitialised value that met another is of no known type, and
-- V7 asks nothing of that: so V7 is left out.
abbrev pub LeastLaw : Type 0
LeastLaw =
    (p : Program) (m : MethodInfo) (frames others : List (Option TypeFrame)) → IsLaidOut m
    → IsAssignment p m others → HasTyping p m frames → AreFramesBelow frames others

abbrev pub RefusalLaw : Type 0
RefusalLaw =
    (p : Program) (m : MethodInfo) (others : List (Option TypeFrame)) (rule : VRule) (pc : ℕ)
    → IsLaidOut m → IsRefused p m rule pc → rule ≢ V7 → IsAssignment p m others → ⊥
