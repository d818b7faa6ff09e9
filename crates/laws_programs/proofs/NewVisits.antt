-- In the course of the visits each value that a `new` made and no `<init>` was called on is behind its `new`.
use Rattle.std.proofs.Common.{◌≡◌, ℕ, zero, suc, ◌-◌, ◌<◌, Bool, true, false, cond, List, [], ◌∷◌, ◌++◌, length, map, replicate, Option, Some, None, Ok, refl, sym, ap, subst, arith, ◌==◌, slice_get}
use Rattle.std.{specs.List.AllByRecursion, proofs.lemmas.Bool.{cond_both, eqb-true}}
use Rattle.jvm_types.specs.{CodeGrammar.SpellsInsns, CodeTable.{row, type_of, is_init}, Members.is_static, Types.{TypeFrame, if_same_place, meet, meets, receiver_types, entry_type_frame}}
use Rattle.jvm_types.specs.Verifying.{Node, node_at, first_nodes, node_met, brought, all_brought, handled, covering, frame_at_handler, frame_after, edges, clash, catch_fault, broken_before, broken_after, gone_on, visited_row, visited_insn, visited, Visits}
use Rattle.jvm_types.specs.declared.{code.Insn.Insn, op_row.OpRow.OpRow, program.{Kind.Kind, MethodInfo.MethodInfo, Program.Program, Row.Row, Target.Target}, typing.VType.VType}
use Rattle.jvm_types.{specs.declared.typing.VType.TheVariants.{Int, Null, Ref, This, New, Top}, proofs.EachAfter.all_append}
use Rattle.laws_programs.{specs.NewLaws.{IsNewBefore, AreBehind, NewIsBehind}, proofs.{LeastFrames.some_front, LocalEdges.uncaught, LocalRisen.frames_of, LocalVisit.{unclashed, cleared_frames}, VisitsEnd.cleared}}
use Rattle.laws_programs.proofs.{NewEdges.stays_behind, VisitsEnd.unless_broken_ok}
use Rattle.jvm_types.specs.declared.program.Kind.TheVariants as kinds

-- ---- the frame at the start has none

kind_behind : (pc : ℕ) (kind : Kind) → IsNewBefore pc (type_of kind)
kind_behind pc kinds.Int = tt
kind_behind pc kind = tt

kinds_behind : (pc : ℕ) (ks : List Kind) → AllByRecursion (IsNewBefore pc) (map type_of ks)
kinds_behind pc [] = tt
kinds_behind pc (kind ∷ ks) = (kind_behind pc kind, kinds_behind pc ks)

tops_behind : (pc n : ℕ) → AllByRecursion (IsNewBefore pc) (replicate n Top)
tops_behind pc zero = tt
tops_behind pc (suc n) = (tt, tops_behind pc n)

receiver_behind : (pc : ℕ) (static init : Bool) (class : ℕ) → AllByRecursion (IsNewBefore pc) (cond static [] (cond init This (Ref class) ∷ []))
receiver_behind pc true init class = tt
receiver_behind pc false true class = (tt, tt)
receiver_behind pc false false class = (tt, tt)

entry_behind : (m : MethodInfo) (pc : ℕ) → AreBehind pc (entry_type_frame m)
entry_behind m pc = record {
  stack = tt;
  locals = all_append (IsNewBefore pc) (receiver_types m ++ map type_of m.args) _
      (all_append (IsNewBefore pc) (receiver_types m) (map type_of m.args) (receiver_behind pc (is_static m.flags) (is_init m) m.class) (kinds_behind pc m.args)) (tops_behind pc (m.max_locals - length (receiver_types m ++ map type_of m.args)));
}

-- ---- where two edges meet

meet_behind : (pc : ℕ) (t u : VType) → IsNewBefore pc t → IsNewBefore pc (meet t u)
meet_behind pc Int Int h = tt
meet_behind pc Null Null h = tt
meet_behind pc Null (Ref class) h = tt
meet_behind pc (Ref class) Null h = tt
meet_behind pc (Ref class) (Ref other) h = tt
meet_behind pc This This h = tt
meet_behind pc (New p) (New q) h = elim (p == q) as (λ t. IsNewBefore pc (if_same_place t (New p))) [ true ↦ h | false ↦ tt ]
meet_behind pc t u h = tt

meets_behind : (pc : ℕ) (ts us : List VType) → AllByRecursion (IsNewBefore pc) ts → AllByRecursion (IsNewBefore pc) (meets ts us)
meets_behind pc (t ∷ ts) (u ∷ us) h = (meet_behind pc t u h.0, meets_behind pc ts us h.1)
meets_behind pc ts us h = tt

-- ---- nodes

abbrev IsFrameBehind : ℕ → Option TypeFrame → Type 0
IsFrameBehind pc None = Unit {0}
IsFrameBehind pc (Some f) = AreBehind pc f

-- each frame is behind at its instruction
abbrev AllBehind : List Insn → List (Option TypeFrame) → Type 0
AllBehind (insn ∷ code) (frame ∷ frames) = IsFrameBehind insn.pc frame × AllBehind code frames
AllBehind code frames = Unit {0}

frame_behind : (code : List Insn) (frames : List (Option TypeFrame)) (i : ℕ) (insn : Insn) (frame : Option TypeFrame) → AllBehind code frames → slice_get code i ≡ Some insn → slice_get frames i ≡ Some frame → IsFrameBehind insn.pc frame
frame_behind (x ∷ code) (g ∷ frames) zero insn frame h e d =
    let same : x ≡ insn = cc in
    let is : g ≡ frame = cc in
    subst (λ (o : Option TypeFrame). IsFrameBehind insn.pc o) is (subst (λ (y : Insn). IsFrameBehind y.pc g) same h.0)
frame_behind (x ∷ code) (g ∷ frames) (suc i) insn frame h e d = frame_behind code frames i insn frame h.1 e d
frame_behind code frames i insn frame h e d = absurd (cc)

node_behind : (code : List Insn) (nodes : List Node) (i : ℕ) (insn : Insn) (f : TypeFrame) → AllBehind code (frames_of nodes) → slice_get code i ≡ Some insn → (node_at nodes i).frame ≡ Some f → AreBehind insn.pc f
node_behind (x ∷ code) (node ∷ nodes) zero insn f h e d =
    let same : x ≡ insn = cc in
    subst (λ (o : Option TypeFrame). IsFrameBehind insn.pc o) d (subst (λ (y : Insn). IsFrameBehind y.pc node.frame) same h.0)
node_behind (x ∷ code) (node ∷ nodes) (suc i) insn f h e d = node_behind code nodes i insn f h.1 e d
node_behind code nodes i insn f h e d = absurd (cc)

none_at : (code : List Insn) → AllBehind code (frames_of (map (λ other. record { frame = None; waits = false }) code))
none_at [] = tt
none_at (insn ∷ code) = (tt, none_at code)

first_behind : (m : MethodInfo) (code : List Insn) → AllBehind code (frames_of (first_nodes m code))
first_behind m [] = tt
first_behind m (insn ∷ code) = (entry_behind m insn.pc, none_at code)

-- ---- edges

joined_behind : (pc : ℕ) (node : Node) (frame : Option TypeFrame) (f : TypeFrame) → AreBehind pc f → IsFrameBehind pc frame → IsFrameBehind pc (node_met node frame f).frame
joined_behind pc node None f h k = h
joined_behind pc node (Some g) f h k = record { stack = meets_behind pc g.stack f.stack k.stack; locals = meets_behind pc g.locals f.locals k.locals }

brought_behind : (code : List Insn) (to : ℕ) (f : TypeFrame) (nodes : List Node) → AreBehind to f → AllBehind code (frames_of nodes) → AllBehind code (frames_of (brought code to f nodes))
brought_behind (insn ∷ code) to f (node ∷ nodes) h k = cond_both (insn.pc == to) (node_met node node.frame f ∷ nodes) (node ∷ brought code to f nodes) (λ ns. AllBehind (insn ∷ code) (frames_of ns))
    (λ e. (joined_behind insn.pc node node.frame f (subst (λ (pc : ℕ). AreBehind pc f) (sym (eqb-true insn.pc to e)) h) k.0, k.1)) (λ e. (k.0, brought_behind code to f nodes h k.1))
brought_behind code to f nodes h k = k

all_brought_behind : (code : List Insn) (tos : List ℕ) (f : TypeFrame) (nodes : List Node) → AllByRecursion (λ to. AreBehind to f) tos → AllBehind code (frames_of nodes) → AllBehind code (frames_of (all_brought code tos f nodes))
all_brought_behind code [] f nodes h k = k
all_brought_behind code (to ∷ tos) f nodes h k = all_brought_behind code tos f (brought code to f nodes) h.1 (brought_behind code to f nodes h.0 k)

handled_behind : (m : MethodInfo) (pc : ℕ) (f : TypeFrame) (handlers : List Row) (nodes mid : List Node) → AllByRecursion (λ (handler : Row). AreBehind handler.handler (frame_at_handler handler f)) handlers
    → AllBehind m.code (frames_of nodes) → handled m pc f handlers nodes ≡ Ok mid → AllBehind m.code (frames_of mid)
handled_behind m pc f [] nodes mid h k e = let same : nodes ≡ mid = cc in subst (λ (ns : List Node). AllBehind m.code (frames_of ns)) same k
handled_behind m pc f (handler ∷ handlers) nodes mid h k e =
    let next : List Node = brought m.code handler.handler (frame_at_handler handler f) nodes in
    let parts = uncaught (catch_fault m pc handler) (clash m.code (handler.handler ∷ []) 1 nodes) (handled m pc f handlers next) mid e in
    handled_behind m pc f handlers next mid h.1 (brought_behind m.code handler.handler (frame_at_handler handler f) nodes h.0 k) parts.2

-- ---- visits

module _ (p : Program) (m : MethodInfo) where
  row_behind : (insn : Insn) (target : Target) (f : TypeFrame) (nodes mid : List Node) → insn.pc < insn.next → AreBehind insn.pc f → AllBehind m.code (frames_of nodes)
      → visited_row m insn (row p m insn.pc target insn.op) f nodes ≡ Ok mid → AllBehind m.code (frames_of mid)
  row_behind insn target f nodes mid after a k e =
      let r : OpRow = row p m insn.pc target insn.op in
      let g : TypeFrame = frame_after m r f in
      let next : List Node = all_brought m.code (edges insn) g nodes in
      let before = unless_broken_ok insn.pc (broken_before m insn r f) (gone_on m insn f g nodes) mid e in
      let apart = unclashed (clash m.code (edges insn) (length g.stack) nodes) _ mid before.1 in
      let later = unless_broken_ok insn.pc (broken_after m insn) (handled m insn.pc f (covering m insn.pc) next) mid apart.1 in
      let behind = stays_behind p m insn target f after before.0 a in
      handled_behind m insn.pc f (covering m insn.pc) next mid behind.1 (all_brought_behind m.code (edges insn) g nodes behind.0 k) later.1

  insn_behind : (insn : Option Insn) (target : Option Target) (frame : Option TypeFrame) (nodes mid : List Node) → ((x : Insn) → insn ≡ Some x → x.pc < x.next) → ((x : Insn) (f : TypeFrame) → insn ≡ Some x → frame ≡ Some f → AreBehind x.pc f)
      → AllBehind m.code (frames_of nodes) → visited_insn p m insn target frame nodes ≡ Ok mid → AllBehind m.code (frames_of mid)
  insn_behind (Some insn) (Some target) (Some f) nodes mid after a k e = row_behind insn target f nodes mid (after insn refl) (a insn f refl refl) k e
  insn_behind insn target frame nodes mid after a k e = let same : nodes ≡ mid = cc in subst (λ (ns : List Node). AllBehind m.code (frames_of ns)) same k

  visit_behind : ((i : ℕ) (x : Insn) → slice_get m.code i ≡ Some x → x.pc < x.next) → (i : ℕ) (nodes mid : List Node) → AllBehind m.code (frames_of nodes) → visited p m i nodes ≡ Ok mid → AllBehind m.code (frames_of mid)
  visit_behind after i nodes mid k e =
      insn_behind (slice_get m.code i) (slice_get m.targets i) (node_at nodes i).frame (cleared nodes i) mid (after i) (λ x f c d. node_behind m.code nodes i x f k c d)
      (subst (λ (fs : List (Option TypeFrame)). AllBehind m.code fs) (sym (cleared_frames nodes i)) k) e

  visits_behind : ((i : ℕ) (x : Insn) → slice_get m.code i ≡ Some x → x.pc < x.next) → (is : List ℕ) (nodes last : List Node) → AllBehind m.code (frames_of nodes) → Visits p m nodes is last → AllBehind m.code (frames_of last)
  visits_behind after [] nodes last k v = subst (λ (ns : List Node). AllBehind m.code (frames_of ns)) (sym v.1) k
  visits_behind after (i ∷ is) nodes last k v = visits_behind after is v.1 last (visit_behind after i nodes v.1 k v.2) v.3

-- ---- the law

goes_on : (pc : ℕ) (insns : List Insn) (bytes : List ℕ) (i : ℕ) (insn : Insn) → SpellsInsns pc insns bytes → slice_get insns i ≡ Some insn → insn.pc < insn.next
goes_on pc [] bytes i insn s e = absurd (cc)
goes_on pc (x ∷ insns) bytes zero insn s e =
    let same : x ≡ insn = cc in
    omega (arith, s.3, s.4, some_front pc x.op s.0 s.5, ap (λ (y : Insn). y.pc) same, ap (λ (y : Insn). y.next) same)
goes_on pc (x ∷ insns) bytes (suc i) insn s e = goes_on x.next insns s.1 i insn s.6 e

pub new_behind : NewIsBehind
new_behind p m frames i insn f laid typed e d =
    let last = visits_behind p m (λ j x c. goes_on 0 m.code laid.bytes j x laid.code.spelled c) typed.visits (first_nodes m m.code) typed.last (first_behind m m.code) typed.made in
    frame_behind m.code frames i insn (Some f) (subst (λ (fs : List (Option TypeFrame)). AllBehind m.code fs) (sym typed.are) last) e d
