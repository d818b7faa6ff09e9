-- Verification's own definitions of visits say what those for frames of any kind say of its plan.
use Rattle.std.proofs.Common.{◌≡◌, ◌≢◌, ◌⊎◌, inl, inr, ℕ, zero, suc, Bool, true, false, not, List, [], ◌∷◌, ◌++◌, length, map, Option, Some, None, Result, Ok, Err, refl, sym, ap, ◌∙◌, subst, arith, ◌==◌, ◌&&◌, if◌then◌else◌, slice_get, slice_set}
use Rattle.std.{specs.Option.option_map, proofs.lemmas.{Bool.{cases_eq, eq-eqb, ne_eqb}, List.map-set, Option.slice_get-map}}
use Rattle.jvm_types.specs.{CodeTable.row, Numbers.has_number, Types.{TypeFrame, same_type, same_ready, same_frame, all_pairs, meets, entry_type_frame}}
use Rattle.jvm_types.specs.{Verifying.{edges, covering, broken_before, broken_after, frame_after, frame_at_handler, catch_fault, IsRefused, HasTyping}, declared.{code.Insn.Insn, op_row.OpRow.OpRow}}
use Rattle.jvm_types.specs.declared.{program.{MethodInfo.MethodInfo, Program.Program, Row.Row, Target.Target}, refusal.VRule.{VRule, TheVariants.V5}, typing.VType.{VType, TheVariants.{Ref, New}}}
use Rattle.checked_program.specs.Visits.{Act, PlanNode, unreached, joined, edge_brought, edges_brought, clashes_with, meeting_clash, unless_meeting_clash, acted, acts_on, plan_visited, visited_node, first_waiting, next_waiting, nodes_for, plan_nodes, PlanVisits, PlanBreaks, HasFrames, IsBroken}
use Rattle.code_visits.specs.Level.{IsLawfulMeeting}
use Rattle.code_visits.specs.TypePlan.{type_local_count, type_meeting, break_at, break_by, goes_typed, handled_acts, later_acts, gone_acts, type_acts, type_acts_at, type_plan, typed_node, typed}
use Rattle.jvm_types.specs.Verifying as typing

-- ---- how frames meet

pub meets_length : (ts us : List VType) → length ts ≡ length us → length (meets ts us) ≡ length us
meets_length [] [] e = refl
meets_length [] (u ∷ us) e = absurd (omega (arith, e))
meets_length (t ∷ ts) [] e = absurd (omega (arith, e))
meets_length (t ∷ ts) (u ∷ us) e = ap suc (meets_length ts us (omega (arith, e)))

pub as_deep : (m n : ℕ) → not (m == n) ≡ false → m ≡ n
as_deep m n e = by_cases (cases_eq m n)
  where
    by_cases : (m ≡ n) ⊎ (m ≢ n) → m ≡ n
    by_cases (inl d) = d
    by_cases (inr d) = let wrong : true ≡ false = ap not (sym (ne_eqb m n d)) ∙ e in absurd (cc)

pub not_other : (m n : ℕ) → m ≡ n → not (m == n) ≡ false
not_other m n e = ap not (eq-eqb m n e)

type_self : (t : VType) → same_type t t ≡ true
type_self (Ref c) = eq-eqb c c refl
type_self (New p) = eq-eqb p p refl
type_self t = refl

types_self : (ts : List VType) → all_pairs same_type ts ts ≡ true
types_self [] = refl
types_self (t ∷ ts) = rw (type_self t) (types_self ts)

ready_self : (a : Bool) → same_ready a a ≡ true
ready_self true = refl
ready_self false = refl

same_self : (f : TypeFrame) → same_frame f f ≡ true
same_self f = rw (types_self f.stack, types_self f.locals) (ready_self f.ready)

pub types_meet : IsLawfulMeeting type_meeting type_local_count
types_meet = record {
  same = same_self;
  apart = λ f. not_other (length f.stack) (length f.stack) refl;
  met_apart = λ g f e. not_other (length (meets g.stack f.stack)) (length f.stack) (meets_length g.stack f.stack (as_deep (length g.stack) (length f.stack) e));
  met_wide = λ g f e. meets_length g.locals f.locals e;
}

-- ---- nodes

abbrev typed_done : Result (List (PlanNode TypeFrame)) (VRule × ℕ) → Result (List typing.Node) (VRule × ℕ)
typed_done (Ok nodes) = Ok (typed nodes)
typed_done (Err fault) = Err fault

joined_node : (node : typing.Node) (waits : Bool) (frame : Option TypeFrame) (f : TypeFrame) → node.waits ≡ waits → typed_node (joined type_meeting waits frame f) ≡ typing.node_met node frame f
joined_node node waits None f e = refl
joined_node node waits (Some g) f e = rw e refl

typed_brought : (code : List Insn) (to : ℕ) (f : TypeFrame) (nodes : List (PlanNode TypeFrame)) → typed (edge_brought type_meeting code to f nodes) ≡ typing.brought code to f (typed nodes)
typed_brought [] to f [] = refl
typed_brought [] to f (node ∷ nodes) = refl
typed_brought (insn ∷ insns) to f [] = refl
typed_brought (insn ∷ insns) to f (node ∷ nodes) = by_test (insn.pc == to) (typed_brought insns to f nodes)
  where
    by_test : (t : Bool) → typed (edge_brought type_meeting insns to f nodes) ≡ typing.brought insns to f (typed nodes)
        → typed (if t then joined type_meeting node.waits node.frame f ∷ nodes else node ∷ edge_brought type_meeting insns to f nodes)
        ≡ (if t then typing.node_met (typed_node node) node.frame f ∷ typed nodes else typed_node node ∷ typing.brought insns to f (typed nodes))
    by_test true h = ap (λ x. x ∷ typed nodes) (joined_node (typed_node node) node.waits node.frame f refl)
    by_test false h = ap (λ l. typed_node node ∷ l) h

typed_all : (code : List Insn) (tos : List ℕ) (f : TypeFrame) (nodes : List (PlanNode TypeFrame)) → typed (edges_brought type_meeting code tos f nodes) ≡ typing.all_brought code tos f (typed nodes)
typed_all code [] f nodes = refl
typed_all code (to ∷ tos) f nodes = typed_all code tos f (edge_brought type_meeting code to f nodes) ∙ ap (λ l. typing.all_brought code tos f l) (typed_brought code to f nodes)

clashes_alike : (frame : Option TypeFrame) (f : TypeFrame) → clashes_with type_meeting frame f ≡ typing.has_other_depth frame (length f.stack)
clashes_alike None f = refl
clashes_alike (Some g) f = refl

typed_clash : (code : List Insn) (tos : List ℕ) (f : TypeFrame) (nodes : List (PlanNode TypeFrame)) → meeting_clash type_meeting code tos f nodes ≡ typing.clash code tos (length f.stack) (typed nodes)
typed_clash [] tos f [] = refl
typed_clash [] tos f (node ∷ nodes) = refl
typed_clash (insn ∷ insns) tos f [] = refl
typed_clash (insn ∷ insns) tos f (node ∷ nodes) =
    ap (λ (b : Bool). if has_number tos insn.pc && b then Some insn.pc else meeting_clash type_meeting insns tos f nodes) (clashes_alike node.frame f)
    ∙ ap (λ (o : Option ℕ). if has_number tos insn.pc && typing.has_other_depth node.frame (length f.stack) then Some insn.pc else o) (typed_clash insns tos f nodes)

-- ---- one visit

-- the acts of one row, and those behind it, by the rule that the row breaks and the clash of its edge
abbrev row_acted : Option (VRule × ℕ) → Option ℕ → Result (List (PlanNode TypeFrame)) (VRule × ℕ) → Result (List (PlanNode TypeFrame)) (VRule × ℕ)
row_acted None o more = unless_meeting_clash V5 o more
row_acted (Some fault) o more = Err (fault.0, fault.1)

row_is : (m : MethodInfo) (fault : Option (VRule × ℕ)) (to : ℕ) (g : TypeFrame) (acts : List (Act TypeFrame VRule)) (nodes : List (PlanNode TypeFrame))
    → acted type_meeting m.code ((break_at fault ++ goes_typed (to ∷ []) g ∷ []) ++ acts) nodes ≡ row_acted fault (meeting_clash type_meeting m.code (to ∷ []) g nodes) (acted type_meeting m.code acts (edge_brought type_meeting m.code to g nodes))
row_is m None to g acts nodes = refl
row_is m (Some fault) to g acts nodes = refl

row_typed : (fault : Option (VRule × ℕ)) (o : Option ℕ) (more : Result (List (PlanNode TypeFrame)) (VRule × ℕ)) → typed_done (row_acted fault o more) ≡ typing.unless_caught fault o (typed_done more)
row_typed None None more = refl
row_typed None (Some at) more = refl
row_typed (Some fault) o more = refl

typed_handled : (m : MethodInfo) (pc : ℕ) (f : TypeFrame) (rows : List Row) (nodes : List (PlanNode TypeFrame)) → typed_done (acted type_meeting m.code (handled_acts m pc f rows) nodes) ≡ typing.handled m pc f rows (typed nodes)
typed_handled m pc f [] nodes = refl
typed_handled m pc f (row ∷ rows) nodes =
    let g : TypeFrame = frame_at_handler row f in
    let mid : List (PlanNode TypeFrame) = edge_brought type_meeting m.code row.handler g nodes in
    let fault : Option (VRule × ℕ) = catch_fault m pc row in
    ap typed_done (row_is m fault row.handler g (handled_acts m pc f rows) nodes)
    ∙ row_typed fault (meeting_clash type_meeting m.code (row.handler ∷ []) g nodes) (acted type_meeting m.code (handled_acts m pc f rows) mid)
    ∙ ap (λ (o : Option ℕ). typing.unless_caught fault o (typed_done (acted type_meeting m.code (handled_acts m pc f rows) mid))) (typed_clash m.code (row.handler ∷ []) g nodes)
    ∙ ap (λ d. typing.unless_caught fault (typing.clash m.code (row.handler ∷ []) 1 (typed nodes)) d) (typed_handled m pc f rows mid ∙ ap (λ l. typing.handled m pc f rows l) (typed_brought m.code row.handler g nodes))

typed_gone : (m : MethodInfo) (insn : Insn) (f after : TypeFrame) (nodes : List (PlanNode TypeFrame)) → typed_done (acted type_meeting m.code (gone_acts m insn f after) nodes) ≡ typing.gone_on m insn f after (typed nodes)
typed_gone m insn f after nodes = by_clash (meeting_clash type_meeting m.code (edges insn) after nodes) ∙ ap (λ o. typing.unless_clash o last) (typed_clash m.code (edges insn) after nodes)
  where
    mid : List (PlanNode TypeFrame)
    mid = edges_brought type_meeting m.code (edges insn) after nodes

    last : Result (List typing.Node) (VRule × ℕ)
    last = typing.unless_broken insn.pc (broken_after m insn) (typing.handled m insn.pc f (covering m insn.pc) (typing.all_brought m.code (edges insn) after (typed nodes)))

    by_rule : (o : Option VRule) → typed_done (acted type_meeting m.code (break_by insn.pc o ++ handled_acts m insn.pc f (covering m insn.pc)) mid)
        ≡ typing.unless_broken insn.pc o (typing.handled m insn.pc f (covering m insn.pc) (typing.all_brought m.code (edges insn) after (typed nodes)))
    by_rule (Some rule) = refl
    by_rule None = typed_handled m insn.pc f (covering m insn.pc) mid ∙ ap (λ l. typing.handled m insn.pc f (covering m insn.pc) l) (typed_all m.code (edges insn) after nodes)

    by_clash : (o : Option ℕ) → typed_done (unless_meeting_clash V5 o (acted type_meeting m.code (later_acts m insn f) mid)) ≡ typing.unless_clash o last
    by_clash (Some at) = refl
    by_clash None = by_rule (broken_after m insn)

typed_row : (m : MethodInfo) (insn : Insn) (r : OpRow) (f : TypeFrame) (nodes : List (PlanNode TypeFrame)) → typed_done (acted type_meeting m.code (type_acts m insn r f) nodes) ≡ typing.visited_row m insn r f (typed nodes)
typed_row m insn r f nodes = by_rule (broken_before m insn r f)
  where
    by_rule : (o : Option VRule) → typed_done (acted type_meeting m.code (break_by insn.pc o ++ gone_acts m insn f (frame_after m r f)) nodes) ≡ typing.unless_broken insn.pc o (typing.gone_on m insn f (frame_after m r f) (typed nodes))
    by_rule (Some rule) = refl
    by_rule None = typed_gone m insn f (frame_after m r f) nodes

typed_insn : (p : Program) (m : MethodInfo) (insn : Option Insn) (target : Option Target) (f : TypeFrame) (nodes : List (PlanNode TypeFrame)) → typed_done (acted type_meeting m.code (type_acts_at p m insn target f) nodes) ≡ typing.visited_insn p m insn target (Some f) (typed nodes)
typed_insn p m None target f nodes = refl
typed_insn p m (Some insn) None f nodes = refl
typed_insn p m (Some insn) (Some target) f nodes = typed_row m insn (row p m insn.pc target insn.op) f nodes

typed_frame : (p : Program) (m : MethodInfo) (i : ℕ) (frame : Option TypeFrame) (nodes : List (PlanNode TypeFrame))
    → typed_done (acted type_meeting m.code (acts_on (type_plan p m) i frame) nodes) ≡ typing.visited_insn p m (slice_get m.code i) (slice_get m.targets i) frame (typed nodes)
typed_frame p m i None nodes = no_frame (slice_get m.code i) (slice_get m.targets i)
  where
    no_frame : (insn : Option Insn) (target : Option Target) → Ok (typed nodes) ≡ typing.visited_insn p m insn target None (typed nodes)
    no_frame None target = refl
    no_frame (Some insn) None = refl
    no_frame (Some insn) (Some target) = refl
typed_frame p m i (Some f) nodes = typed_insn p m (slice_get m.code i) (slice_get m.targets i) f nodes

typed_visited : (p : Program) (m : MethodInfo) (i : ℕ) (nodes : List (PlanNode TypeFrame)) → typed_done (plan_visited (type_plan p m) i nodes) ≡ typing.visited p m i (typed nodes)
typed_visited p m i nodes = by_node (slice_get nodes i) refl
  where
    set_none : (l : List typing.Node) (i : ℕ) (node : typing.Node) → slice_get l i ≡ None → slice_set l i node ≡ l
    set_none [] i node e = refl
    set_none (x ∷ xs) zero node e = absurd (cc)
    set_none (x ∷ xs) (suc i) node e = ap (λ l. x ∷ l) (set_none xs i node e)

    there : (o : Option (PlanNode TypeFrame)) → slice_get nodes i ≡ o → slice_get (typed nodes) i ≡ option_map typed_node o
    there o e = slice_get-map typed_node nodes i ∙ ap (option_map typed_node) e

    by_node : (o : Option (PlanNode TypeFrame)) → slice_get nodes i ≡ o → typed_done (visited_node (type_plan p m) i o nodes) ≡ typing.visited p m i (typed nodes)
    by_node None e = rw (there None e, set_none (typed nodes) i (record { frame = None; waits = false }) (there None e)) (typed_frame p m i None nodes)
    by_node (Some node) e = rw (there (Some node) e)
        (typed_frame p m i node.frame (slice_set nodes i (record node { waits = false })) ∙ ap (λ l. typing.visited_insn p m (slice_get m.code i) (slice_get m.targets i) node.frame l) (map-set typed_node nodes i (record node { waits = false })))

done_is : (d : Result (List (PlanNode TypeFrame)) (VRule × ℕ)) (mid : List (PlanNode TypeFrame)) → d ≡ Ok mid → typed_done d ≡ Ok (typed mid)
done_is d mid e = ap typed_done e

pub visited_typed : (p : Program) (m : MethodInfo) (i : ℕ) (nodes mid : List (PlanNode TypeFrame)) → plan_visited (type_plan p m) i nodes ≡ Ok mid → typing.visited p m i (typed nodes) ≡ Ok (typed mid)
visited_typed p m i nodes mid e = sym (typed_visited p m i nodes) ∙ done_is (plan_visited (type_plan p m) i nodes) mid e

broken_typed : (p : Program) (m : MethodInfo) (i : ℕ) (nodes : List (PlanNode TypeFrame)) (fault : VRule × ℕ) → plan_visited (type_plan p m) i nodes ≡ Err fault → typing.visited p m i (typed nodes) ≡ Err fault
broken_typed p m i nodes fault e = sym (typed_visited p m i nodes) ∙ ap typed_done e

-- ---- all visits

waiting_typed : (k : ℕ) (nodes : List (PlanNode TypeFrame)) → typing.waiting_from k (typed nodes) ≡ first_waiting k nodes
waiting_typed k [] = refl
waiting_typed k (node ∷ nodes) = ap (λ o. if node.waits then Some k else o) (waiting_typed (suc k) nodes)

pub next_typed : (nodes : List (PlanNode TypeFrame)) (o : Option ℕ) → next_waiting nodes ≡ o → typing.next_visit (typed nodes) ≡ o
next_typed nodes o e = waiting_typed 0 nodes ∙ e

pub first_typed : (p : Program) (m : MethodInfo) → typed (plan_nodes (type_plan p m)) ≡ typing.first_nodes m m.code
first_typed p m = first_of m.code
  where
    others : (insns : List Insn) → typed (map (λ (other : Insn). unreached) insns) ≡ map (λ (other : Insn). record { frame = None; waits = false }) insns
    others [] = refl
    others (insn ∷ insns) = ap (λ (l : List typing.Node). record { frame = None; waits = false } ∷ l) (others insns)

    first_of : (insns : List Insn) → typed (nodes_for (entry_type_frame m) insns) ≡ typing.first_nodes m insns
    first_of [] = refl
    first_of (insn ∷ insns) = ap (λ (l : List typing.Node). record { frame = Some (entry_type_frame m); waits = true } ∷ l) (others insns)

visits_typed : (p : Program) (m : MethodInfo) (visits : List ℕ) (nodes last : List (PlanNode TypeFrame)) → PlanVisits (type_plan p m) nodes visits last → typing.Visits p m (typed nodes) visits (typed last)
visits_typed p m [] nodes last v = (next_typed nodes None v.0, ap typed v.1)
visits_typed p m (i ∷ is) nodes last v = (next_typed nodes (Some i) v.0, typed v.1, visited_typed p m i nodes v.1 v.2, visits_typed p m is v.1 last v.3)

breaks_typed : (p : Program) (m : MethodInfo) (visits : List ℕ) (nodes : List (PlanNode TypeFrame)) (fault : VRule × ℕ) → PlanBreaks (type_plan p m) nodes visits fault → typing.Breaks p m (typed nodes) visits fault
breaks_typed p m [] nodes fault b = b
breaks_typed p m (i ∷ []) nodes fault b = (next_typed nodes (Some i) b.0, broken_typed p m i nodes fault b.1)
breaks_typed p m (i ∷ j ∷ is) nodes fault b = (next_typed nodes (Some i) b.0, typed b.1, visited_typed p m i nodes b.1 b.2, breaks_typed p m (j ∷ is) b.1 fault b.3)

-- ---- the answer

frames_typed : (nodes : List (PlanNode TypeFrame)) → map (λ (node : PlanNode TypeFrame). node.frame) nodes ≡ map (λ (node : typing.Node). node.frame) (typed nodes)
frames_typed [] = refl
frames_typed (node ∷ nodes) = ap (λ l. node.frame ∷ l) (frames_typed nodes)

pub has_typing : (p : Program) (m : MethodInfo) (frames : List (Option TypeFrame)) → HasFrames (type_plan p m) frames → HasTyping p m frames
has_typing p m frames h = record {
  visits = h.visits;
  last = typed h.last;
  made = subst (λ (l : List typing.Node). typing.Visits p m l h.visits (typed h.last)) (first_typed p m) (visits_typed p m h.visits (plan_nodes (type_plan p m)) h.last h.made);
  are = h.are ∙ frames_typed h.last;
}

pub is_refused : (p : Program) (m : MethodInfo) (rule : VRule) (pc : ℕ) → IsBroken (type_plan p m) rule pc → IsRefused p m rule pc
is_refused p m rule pc h = record {
  visits = h.visits;
  broken = subst (λ (l : List typing.Node). typing.Breaks p m l h.visits (rule, pc)) (first_typed p m) (breaks_typed p m h.visits (plan_nodes (type_plan p m)) (rule, pc) h.broken);
}
