-- The visits of a method end: each makes the work that is left less. A visit clears one flag, and a node that begins to
-- wait has a frame that went down; one without a frame is above all frames that a method can have.
use Rattle.std.proofs.Common.{◌≡◌, ℕ, zero, suc, ◌+◌, ◌-◌, ◌*◌, ◌<◌, ◌≤◌, Bool, true, false, List, [], ◌∷◌, length, map, Option, Some, None, Result, Ok, refl, ap, subst, arith, ◌||◌, not, ◌==◌, if◌then◌else◌, slice_get, slice_set}
use Rattle.std.{specs.List.AllByRecursion, proofs.lemmas.{Bool.{cond_both, Decides.nat_tests}, List.{length-append, length-drop, length-map}}}
use Rattle.jvm_types.specs.{CodeTable.{row, stack_after, locals_after}, Types.{TypeFrame, meet_frames, same_frame, entry_type_frame}, declared.{code.Insn.Insn, op_row.OpRow.OpRow, program.Row.Row}}
use Rattle.jvm_types.specs.Verifying.{Node, node_at, first_nodes, node_met, brought, all_brought, clash, frame_at_handler, catch_fault, unless_caught, handled, unless_broken, unless_clash, covering, edges, takes_too_many, gives_too_many, broken_before, broken_after, started, initialised, after_start, frame_after, gone_on, visited_row, visited_insn, visited, waiting_from, next_visit, IsLaidOut}
use Rattle.jvm_types.specs.declared.{program.{MethodInfo.MethodInfo, Program.Program, Target.Target}, refusal.VRule.{VRule, TheVariants.{V1, V2}}, typing.VType.{VType, TheVariants.Top}}
use Rattle.laws_programs.proofs.{FrameBounds.locals_kept, VisitsEndRanks.{Falls, types_rank, types_falls, types_small, meets_short}}

-- ---- bounds on the frames

-- a stack of at most max_stack, and no more locals than the entry frame has
pub record IsWithin (m : MethodInfo) (f : TypeFrame) : Type 0 where
  pub stack : length f.stack ≤ m.max_stack
  pub locals : length f.locals ≤ length (entry_type_frame m).locals

abbrev pub IsFrameKept : MethodInfo → Option TypeFrame → Type 0
IsFrameKept m None = Unit {0}
IsFrameKept m (Some f) = IsWithin m f

pub record IsKept (m : MethodInfo) (nodes : List Node) : Type 0 where
  pub frames : AllByRecursion (λ (node : Node). IsFrameKept m node.frame) nodes

-- ---- the work that is left

-- what is counted of one instruction: a frame twice, so that it may begin to wait where it goes down
frame_rank : MethodInfo → Option TypeFrame → ℕ
frame_rank m None = 7 * (m.max_stack + length (entry_type_frame m).locals) + 2
frame_rank m (Some f) = types_rank f

flag : Bool → ℕ
flag true = 1
flag false = 0

weight : MethodInfo → Option TypeFrame → Bool → ℕ
weight m frame waits = 2 * frame_rank m frame + flag waits

pub work : MethodInfo → List Node → ℕ
work m [] = 0
work m (node ∷ nodes) = weight m node.frame node.waits + work m nodes

-- ---- an edge

-- what an edge leaves of a node, or a visit of the nodes: the bounds hold, and there is no more work
record Lowers (m : MethodInfo) (nodes mid : List Node) : Type 0 where
  kept : IsKept m mid
  less : work m mid ≤ work m nodes

meet_within : (m : MethodInfo) (g f : TypeFrame) → IsWithin m g → IsWithin m (meet_frames g f)
meet_within m g f h = record { stack = omega (arith, h.stack, meets_short g.stack f.stack); locals = omega (arith, h.locals, meets_short g.locals f.locals) }

within_rank : (m : MethodInfo) (f : TypeFrame) → IsWithin m f → frame_rank m (Some f) < frame_rank m None
unfolding frame_rank
within_rank m f h = omega (arith, types_small f (m.max_stack + length (entry_type_frame m).locals) (omega (arith, h.stack, h.locals)))

first_weight : (m : MethodInfo) (f : TypeFrame) (waits : Bool) → IsWithin m f → weight m (Some f) true ≤ weight m None waits
unfolding weight flag
first_weight m f waits h = omega (arith, within_rank m f h)

again_weight : (m : MethodInfo) (g h : TypeFrame) (same waits : Bool) → Falls same (types_rank h) (types_rank g) → weight m (Some h) (waits || not same) ≤ weight m (Some g) waits
unfolding weight flag frame_rank
again_weight m g h true true falls = omega (arith, falls)
again_weight m g h false true falls = omega (arith, falls)
again_weight m g h same waits falls = omega (arith, falls)

joined_within : (m : MethodInfo) (node : Node) (o : Option TypeFrame) (f : TypeFrame) → IsFrameKept m o → IsWithin m f → IsFrameKept m (node_met node o f).frame
joined_within m node None f g h = h
joined_within m node (Some g) f k h = meet_within m g f k

joined_weight : (m : MethodInfo) (node : Node) (o : Option TypeFrame) (f : TypeFrame) → IsWithin m f → weight m (node_met node o f).frame (node_met node o f).waits ≤ weight m o node.waits
joined_weight m node None f h = first_weight m f node.waits h
joined_weight m node (Some g) f h = again_weight m g (meet_frames g f) (same_frame g (meet_frames g f)) node.waits (types_falls g f)

-- ---- steps on the nodes

same_nodes : (m : MethodInfo) (nodes : List Node) → IsKept m nodes → Lowers m nodes nodes
same_nodes m nodes k = record { kept = k; less = omega arith }

then_lowers : (m : MethodInfo) (nodes mid last : List Node) → Lowers m nodes mid → Lowers m mid last → Lowers m nodes last
then_lowers m nodes mid last a b = record { kept = b.kept; less = omega (arith, a.less, b.less) }

-- a step on the first node, and one on the others
on_first : (m : MethodInfo) (node after : Node) (nodes : List Node) → IsFrameKept m after.frame → weight m after.frame after.waits ≤ weight m node.frame node.waits → IsKept m (node ∷ nodes)
    → Lowers m (node ∷ nodes) (after ∷ nodes)
unfolding work
on_first m node after nodes f w k = record { kept = record { frames = (f, k.frames.1) }; less = omega (arith, w) }

on_others : (m : MethodInfo) (node : Node) (nodes after : List Node) → IsFrameKept m node.frame → Lowers m nodes after → Lowers m (node ∷ nodes) (node ∷ after)
unfolding work
on_others m node nodes after f a = record { kept = record { frames = (f, a.kept.frames) }; less = omega (arith, a.less) }

brought_lowers : (m : MethodInfo) (code : List Insn) (to : ℕ) (f : TypeFrame) (nodes : List Node) → IsWithin m f → IsKept m nodes → Lowers m nodes (brought code to f nodes)
brought_lowers m [] to f nodes h k = same_nodes m nodes k
brought_lowers m (insn ∷ insns) to f [] h k = same_nodes m [] k
brought_lowers m (insn ∷ insns) to f (node ∷ nodes) h k = cond_both (insn.pc == to) (node_met node node.frame f ∷ nodes) (node ∷ brought insns to f nodes) (Lowers m (node ∷ nodes))
    (λ e. on_first m node (node_met node node.frame f) nodes (joined_within m node node.frame f k.frames.0 h) (joined_weight m node node.frame f h) k)
    (λ e. on_others m node nodes (brought insns to f nodes) k.frames.0 (brought_lowers m insns to f nodes h (record { frames = k.frames.1 })))

all_brought_lowers : (m : MethodInfo) (code : List Insn) (tos : List ℕ) (f : TypeFrame) (nodes : List Node) → IsWithin m f → IsKept m nodes → Lowers m nodes (all_brought code tos f nodes)
all_brought_lowers m code [] f nodes h k = same_nodes m nodes k
all_brought_lowers m code (to ∷ tos) f nodes h k =
    let first = brought_lowers m code to f nodes h k in
    then_lowers m nodes (brought code to f nodes) (all_brought code tos f (brought code to f nodes)) first (all_brought_lowers m code tos f (brought code to f nodes) h first.kept)

-- ---- what a visit that breaks no rule went on with

pub unless_broken_ok : (pc : ℕ) (x : Option VRule) (more : Result (List Node) (VRule × ℕ)) (mid : List Node) → unless_broken pc x more ≡ Ok mid → (x ≡ None) × (more ≡ Ok mid)
unless_broken_ok pc None more mid e = (refl, e)
unless_broken_ok pc (Some rule) more mid e = absurd (cc)

unless_clash_ok : (x : Option ℕ) (more : Result (List Node) (VRule × ℕ)) (mid : List Node) → unless_clash x more ≡ Ok mid → more ≡ Ok mid
unless_clash_ok None more mid e = e
unless_clash_ok (Some at) more mid e = absurd (cc)

unless_caught_ok : (x : Option (VRule × ℕ)) (y : Option ℕ) (more : Result (List Node) (VRule × ℕ)) (mid : List Node) → unless_caught x y more ≡ Ok mid → (x ≡ None) × (more ≡ Ok mid)
unless_caught_ok None None more mid e = (refl, e)
unless_caught_ok x y more mid e = absurd (cc)

-- ---- the frame after an instruction, and at a handler

room_at_handler : (m : MethodInfo) (pc : ℕ) (handler : Row) → catch_fault m pc handler ≡ None → 1 ≤ m.max_stack
room_at_handler m pc handler e = cond_both (m.max_stack == 0) (Some (V2, pc)) _ (λ (o : Option (VRule × ℕ)). o ≡ None → 1 ≤ m.max_stack) (λ f g. absurd (cc)) (λ f g. grind (arith, nat_tests, f)) e

handler_within : (m : MethodInfo) (handler : Row) (f : TypeFrame) → 1 ≤ m.max_stack → IsWithin m f → IsWithin m (frame_at_handler handler f)
handler_within m handler f room h = record { stack = omega (arith, room); locals = h.locals }

room_after : (m : MethodInfo) (insn : Insn) (r : OpRow) (f : TypeFrame) → broken_before m insn r f ≡ None → length f.stack - length r.takes + length r.gives ≤ m.max_stack
room_after m insn r f e =
    let fits : gives_too_many m r f ≡ false = second_test (takes_too_many r f) (gives_too_many m r f) _ e in
    grind (arith, nat_tests, fits)
  where
    second_test : (a b : Bool) (more : Option VRule) → (if a then Some V1 else if b then Some V2 else more) ≡ None → b ≡ false
    second_test false false more g = refl
    second_test a b more g = absurd (cc)

stack_length : (r : OpRow) (stack locals : List VType) → length (stack_after Top (λ t. t) r stack locals) ≡ length stack - length r.takes + length r.gives
stack_length r stack locals = grind (arith, length-append, length-drop, length-map)

pub initialised_length : (t : VType) (class : ℕ) (ts : List VType) → length (initialised t class ts) ≡ length ts
initialised_length t class [] = refl
initialised_length t class (u ∷ ts) = ap suc (initialised_length t class ts)

started_within : (m : MethodInfo) (object : Option (VType × ℕ)) (f : TypeFrame) → IsWithin m f → IsWithin m (after_start object f)
started_within m None f h = h
started_within m (Some object) f h = record {
  stack = omega (arith, h.stack, initialised_length object.0 object.1 f.stack);
  locals = omega (arith, h.locals, initialised_length object.0 object.1 f.locals);
}

after_within : (m : MethodInfo) (insn : Insn) (r : OpRow) (f : TypeFrame) → broken_before m insn r f ≡ None → IsWithin m f → IsWithin m (frame_after m r f)
after_within m insn r f e h =
    let moved : TypeFrame = record { stack = stack_after Top (λ t. t) r f.stack f.locals; locals = locals_after Top (λ t. t) r.writes f.stack f.locals; ready = f.ready } in
    started_within m (started m.class r.takes f.stack) moved (record {
      stack = omega (arith, room_after m insn r f e, stack_length r f.stack f.locals);
      locals = omega (arith, h.locals, locals_kept r.writes f.stack f.locals);
    })

-- ---- one visit

handled_lowers : (m : MethodInfo) (pc : ℕ) (f : TypeFrame) (handlers : List Row) (nodes mid : List Node) → IsWithin m f → IsKept m nodes → handled m pc f handlers nodes ≡ Ok mid → Lowers m nodes mid
handled_lowers m pc f [] nodes mid h k e =
    let same : nodes ≡ mid = cc in
    subst (λ (n : List Node). Lowers m nodes n) same (same_nodes m nodes k)
handled_lowers m pc f (handler ∷ handlers) nodes mid h k e =
    let after = brought m.code handler.handler (frame_at_handler handler f) nodes in
    let goes_on = unless_caught_ok (catch_fault m pc handler) (clash m.code (handler.handler ∷ []) 1 nodes) (handled m pc f handlers after) mid e in
    let first = brought_lowers m m.code handler.handler (frame_at_handler handler f) nodes (handler_within m handler f (room_at_handler m pc handler goes_on.0) h) k in
    then_lowers m nodes after mid first (handled_lowers m pc f handlers after mid h first.kept goes_on.1)

row_lowers : (m : MethodInfo) (insn : Insn) (r : OpRow) (f : TypeFrame) (nodes mid : List Node) → IsWithin m f → IsKept m nodes → visited_row m insn r f nodes ≡ Ok mid → Lowers m nodes mid
row_lowers m insn r f nodes mid h k e =
    let after = frame_after m r f in
    let brought_all = all_brought m.code (edges insn) after nodes in
    let before = unless_broken_ok insn.pc (broken_before m insn r f) (gone_on m insn f after nodes) mid e in
    let caught = handled m insn.pc f (covering m insn.pc) brought_all in
    let edges_go_on = unless_clash_ok (clash m.code (edges insn) (length after.stack) nodes) (unless_broken insn.pc (broken_after m insn) caught) mid before.1 in
    let rows_go_on = unless_broken_ok insn.pc (broken_after m insn) caught mid edges_go_on in
    let first = all_brought_lowers m m.code (edges insn) after nodes (after_within m insn r f before.0 h) k in
    then_lowers m nodes brought_all mid first (handled_lowers m insn.pc f (covering m insn.pc) brought_all mid h first.kept rows_go_on.1)

insn_lowers : (p : Program) (m : MethodInfo) (insn : Option Insn) (target : Option Target) (frame : Option TypeFrame) (nodes mid : List Node) → IsFrameKept m frame → IsKept m nodes
    → visited_insn p m insn target frame nodes ≡ Ok mid → Lowers m nodes mid
insn_lowers p m (Some insn) (Some target) (Some f) nodes mid h k e = row_lowers m insn (row p m insn.pc target insn.op) f nodes mid h k e
insn_lowers p m insn target frame nodes mid h k e =
    let same : nodes ≡ mid = cc in
    subst (λ (n : List Node). Lowers m nodes n) same (same_nodes m nodes k)

-- the nodes where one waits no more
abbrev pub cleared : List Node → ℕ → List Node
cleared nodes i = slice_set nodes i (record (node_at nodes i) { waits = false })

frame_at_kept : (m : MethodInfo) (nodes : List Node) (i : ℕ) → IsKept m nodes → IsFrameKept m (node_at nodes i).frame
frame_at_kept m [] i k = tt
frame_at_kept m (node ∷ nodes) zero k = k.frames.0
frame_at_kept m (node ∷ nodes) (suc i) k = frame_at_kept m nodes i (record { frames = k.frames.1 })

cleared_kept : (m : MethodInfo) (nodes : List Node) (i : ℕ) → IsKept m nodes → IsKept m (cleared nodes i)
cleared_kept m [] i k = k
cleared_kept m (node ∷ nodes) zero k = record { frames = (k.frames.0, k.frames.1) }
cleared_kept m (node ∷ nodes) (suc i) k = record { frames = (k.frames.0, (cleared_kept m nodes i (record { frames = k.frames.1 })).frames) }

visit_lowers : (p : Program) (m : MethodInfo) (nodes mid : List Node) (i : ℕ) → IsKept m nodes → visited p m i nodes ≡ Ok mid → Lowers m (cleared nodes i) mid
visit_lowers p m nodes mid i k e = insn_lowers p m (slice_get m.code i) (slice_get m.targets i) (node_at nodes i).frame (cleared nodes i) mid (frame_at_kept m nodes i k) (cleared_kept m nodes i k) e

-- the flag of the instruction that is visited next
record IsCleared (m : MethodInfo) (nodes : List Node) (from i : ℕ) : Type 0 where
  at : ℕ
  there : i ≡ from + at
  less : work m (cleared nodes at) < work m nodes

first_clears : (m : MethodInfo) (node : Node) (nodes : List Node) → node.waits ≡ true → work m (cleared (node ∷ nodes) 0) < work m (node ∷ nodes)
unfolding work weight flag
first_clears m node nodes e = rw e (omega arith)

next_clears : (m : MethodInfo) (nodes : List Node) (from i : ℕ) → waiting_from from nodes ≡ Some i → IsCleared m nodes from i
unfolding work
next_clears m [] from i e = absurd (cc)
next_clears m (node ∷ nodes) from i e = cond_both node.waits (Some from) (waiting_from (suc from) nodes) (λ o. o ≡ Some i → IsCleared m (node ∷ nodes) from i)
    (λ f g. let here : from ≡ i = cc in record { at = 0; there = omega (arith, here); less = first_clears m node nodes f })
    (λ f g. let later = next_clears m nodes (suc from) i g in record { at = suc later.at; there = omega (arith, later.there); less = omega (arith, later.less) }) e

-- ---- the laws of one visit

pub first_kept : (m : MethodInfo) → IsLaidOut m → IsKept m (first_nodes m m.code)
first_kept m laid = started_kept m.code
  where
    untouched : (insns : List Insn) → AllByRecursion (λ (node : Node). IsFrameKept m node.frame) (map (λ (other : Insn). record { frame = None; waits = false }) insns)
    untouched [] = tt
    untouched (insn ∷ insns) = (tt, untouched insns)

    started_kept : (insns : List Insn) → IsKept m (first_nodes m insns)
    started_kept [] = record { frames = tt }
    started_kept (insn ∷ insns) = record { frames = (record { stack = omega arith; locals = omega arith }, untouched insns) }

pub visit_keeps : (p : Program) (m : MethodInfo) (nodes mid : List Node) (i : ℕ) → IsLaidOut m → IsKept m nodes → visited p m i nodes ≡ Ok mid → IsKept m mid
visit_keeps p m nodes mid i laid k e = (visit_lowers p m nodes mid i k e).kept

pub visit_works : (p : Program) (m : MethodInfo) (nodes mid : List Node) (i : ℕ) → IsLaidOut m → IsKept m nodes → next_visit nodes ≡ Some i → visited p m i nodes ≡ Ok mid → work m mid < work m nodes
visit_works p m nodes mid i laid k next e =
    let clears = next_clears m nodes 0 i next in
    let here : i ≡ clears.at = omega (arith, clears.there) in
    let lowers : Lowers m (cleared nodes clears.at) mid = visit_lowers p m nodes mid clears.at k (subst (λ (j : ℕ). visited p m j nodes ≡ Ok mid) here e) in
    omega (arith, clears.less, lowers.less)
