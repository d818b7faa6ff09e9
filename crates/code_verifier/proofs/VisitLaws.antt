-- One visit, step by step.
use Rattle.std.{proofs.{Common.{◌≡◌, ℕ, false, List, [], ◌∷◌, length, Option, Some, None, Result, Ok, Err, refl, sym, subst, ap, ◌∙◌, slice_get}, lemmas.List.length-map}, specs.Option.IfSome}
use Rattle.jvm_types.specs.{CodeTable.row, Types.{TypeFrame, entry_type_frame}}
use Rattle.jvm_types.specs.Verifying.{started, after_start, frame_after, mistypes, broken_before, broken_after, catch_fault, covering, edges, takes_too_many, gives_too_many, lacks_locals, misuses_object}
use Rattle.jvm_types.specs.declared.{code.Insn.Insn, op_row.OpRow.OpRow, program.{MethodInfo.MethodInfo, Program.Program, Row.Row, Target.Target}, refusal.VRule.VRule}
use Rattle.jvm_types.specs.declared.{refusal.VRule.TheVariants.{V1, V2, V3, V4, V7}, typing.VType.VType}
use Rattle.laws_programs.proofs.FrameBounds.{unbroken, locals_kept}
use Rattle.checked_program.specs.Visits.{PlanNode, acts_on}
use Rattle.code_visits.specs.{Analyses.Leaves, Level.AreLevel, TypePlan.{type_meeting, goes_typed, caught_acts, handled_acts, later_acts, gone_acts, type_acts, type_plan, type_local_count}}
use Rattle.code_visits.{specs.{Waiting.plan_node_at, declared.stop.Stop.Stop}, proofs.{ActLaws.{then_acted, leaves_first}, ClashLaws.wide_at}}
use Rattle.code_verifier.specs.Visiting.{HasLocals, HaveLocals, KeptTypeFrame, IsPrepared, Prepares, type_acts_done}
use Rattle.code_visits.specs.declared.stop.Stop.TheVariants as stops

-- ---- before the edges

pub none_mistyped : (m : MethodInfo) (insn : Insn) (r : OpRow) (f : TypeFrame) → broken_before m insn r f ≡ None → mistypes m r f ≡ false
none_mistyped m insn r f e =
    let one = unbroken (takes_too_many r f) V1 ((gives_too_many m r f, V2) ∷ (lacks_locals m r f, V3) ∷ (misuses_object m insn r f, V7) ∷ (mistypes m r f, V4) ∷ []) e in
    let two = unbroken (gives_too_many m r f) V2 ((lacks_locals m r f, V3) ∷ (misuses_object m insn r f, V7) ∷ (mistypes m r f, V4) ∷ []) one.1 in
    let three = unbroken (lacks_locals m r f) V3 ((misuses_object m insn r f, V7) ∷ (mistypes m r f, V4) ∷ []) two.1 in
    let four = unbroken (misuses_object m insn r f) V7 ((mistypes m r f, V4) ∷ []) three.1 in
    (unbroken (mistypes m r f) V4 [] four.1).0

-- ---- as many locals

started_length : (object : Option (VType × ℕ)) (f : TypeFrame) → length (after_start object f).locals ≡ length f.locals
started_length None f = refl
started_length (Some object) f = length-map f.locals _

after_length : (m : MethodInfo) (r : OpRow) (f : TypeFrame) → length (frame_after m r f).locals ≡ length f.locals
after_length m r f = started_length (started m.class r.takes f.stack) _ ∙ locals_kept r.writes f.stack f.locals

pub after_wide : (m : MethodInfo) (insn : Insn) (r : OpRow) (f after : TypeFrame) (kept : Option TypeFrame) → IsPrepared m insn r f after kept → HasLocals m f → HasLocals m after
after_wide m insn r f after kept p h = ap (λ (s : TypeFrame). length s.locals) p.after_is ∙ after_length m r f ∙ h

pub kept_wide : (m : MethodInfo) (pc : ℕ) (f : TypeFrame) (kept : Option TypeFrame) → KeptTypeFrame m pc f kept → HasLocals m f → IfSome kept (HasLocals m)
kept_wide m pc f None k h = tt
kept_wide m pc f (Some g) k h = ap (λ (s : TypeFrame). length s.locals) k ∙ h

pub found_wide : (m : MethodInfo) (nodes : List (PlanNode TypeFrame)) (i : ℕ) (f : TypeFrame) → HaveLocals m nodes → Some f ≡ (plan_node_at nodes i).frame → HasLocals m f
found_wide m nodes i f level e = subst (λ (o : Option TypeFrame). IfSome o (HasLocals m)) (sym e) (wide_at type_local_count (type_local_count (entry_type_frame m)) nodes i level.wide)

pub level_for : (m : MethodInfo) (nodes : List (PlanNode TypeFrame)) (f : TypeFrame) → HasLocals m f → HaveLocals m nodes → AreLevel type_local_count (type_local_count f) m.code nodes
level_for m nodes f k level = subst (λ (n : ℕ). AreLevel type_local_count n m.code nodes) (sym k) level

pub level_from : (m : MethodInfo) (nodes : List (PlanNode TypeFrame)) (f : TypeFrame) → HasLocals m f → AreLevel type_local_count (type_local_count f) m.code nodes → HaveLocals m nodes
level_from m nodes f k level = subst (λ (n : ℕ). AreLevel type_local_count n m.code nodes) k level

-- ---- the parts of a visit

pub gone_first : (m : MethodInfo) (insn : Insn) (f after : TypeFrame) (tos : List ℕ) (nodes mid last : List (PlanNode TypeFrame)) (e : Stop VRule) → tos ≡ edges insn
    → Leaves {B = Unit {0}} (type_acts_done m (goes_typed tos after ∷ []) nodes) mid (Err e) → Leaves {B = Unit {0}} (type_acts_done m (gone_acts m insn f after) nodes) last (Err e)
gone_first m insn f after tos nodes mid last e t h = leaves_first (Unit {0}) (Unit {0}) type_meeting m.code (goes_typed (edges insn) after ∷ []) (later_acts m insn f) nodes mid last e
    (subst (λ (l : List ℕ). Leaves {B = Unit {0}} (type_acts_done m (goes_typed l after ∷ []) nodes) mid (Err e)) t h)

gone_then : (m : MethodInfo) (insn : Insn) (f after : TypeFrame) (tos : List ℕ) (nodes mid : List (PlanNode TypeFrame)) → tos ≡ edges insn
    → type_acts_done m (goes_typed tos after ∷ []) nodes ≡ Ok mid → type_acts_done m (gone_acts m insn f after) nodes ≡ type_acts_done m (later_acts m insn f) mid
gone_then m insn f after tos nodes mid t a = then_acted type_meeting m.code (goes_typed (edges insn) after ∷ []) (later_acts m insn f) nodes mid (ap (λ l. type_acts_done m (goes_typed l after ∷ []) nodes) (sym t) ∙ a)

pub gone_broken : (m : MethodInfo) (insn : Insn) (f after : TypeFrame) (tos : List ℕ) (nodes mid : List (PlanNode TypeFrame)) (rule : VRule) → tos ≡ edges insn
    → type_acts_done m (goes_typed tos after ∷ []) nodes ≡ Ok mid → broken_after m insn ≡ Some rule → type_acts_done m (gone_acts m insn f after) nodes ≡ Err (rule, insn.pc)
gone_broken m insn f after tos nodes mid rule t a e = gone_then m insn f after tos nodes mid t a ∙ rw e refl

pub gone_by : (m : MethodInfo) (insn : Insn) (f after : TypeFrame) (tos : List ℕ) (nodes mid last : List (PlanNode TypeFrame)) (result : Result (Unit {0}) (Stop VRule)) → tos ≡ edges insn
    → type_acts_done m (goes_typed tos after ∷ []) nodes ≡ Ok mid → broken_after m insn ≡ None → Leaves (type_acts_done m (handled_acts m insn.pc f (covering m insn.pc)) mid) last result
    → Leaves (type_acts_done m (gone_acts m insn f after) nodes) last result
gone_by m insn f after tos nodes mid last result t a e h = rw (gone_then m insn f after tos nodes mid t a, e) h

pub unprepared : (m : MethodInfo) (insn : Insn) (r : OpRow) (f : TypeFrame) (e : Stop VRule) (nodes last : List (PlanNode TypeFrame)) → Prepares m insn r f (Err e) → Leaves {B = Unit {0}} (type_acts_done m (type_acts m insn r f) nodes) last (Err e)
unprepared m insn r f stops.Memory nodes last p = tt
unprepared m insn r f (stops.Refused rule pc) nodes last p = rw (p.0, p.1) refl

pub prepared : (m : MethodInfo) (insn : Insn) (r : OpRow) (f after : TypeFrame) (kept : Option TypeFrame) (nodes last : List (PlanNode TypeFrame)) (result : Result (Unit {0}) (Stop VRule))
    → IsPrepared m insn r f after kept → Leaves (type_acts_done m (gone_acts m insn f after) nodes) last result → Leaves (type_acts_done m (type_acts m insn r f) nodes) last result
prepared m insn r f after kept nodes last result p h = rw (p.unbroken, ← p.after_is) h

pub leaves_at : (p : Program) (m : MethodInfo) (i : ℕ) (nodes mid : List (PlanNode TypeFrame)) (result : Result (Unit {0}) (Stop VRule)) (insn : Insn) (target : Target) (f : TypeFrame) (r : OpRow)
    → slice_get m.code i ≡ Some insn → slice_get m.targets i ≡ Some target → (plan_node_at nodes i).frame ≡ Some f → r ≡ row p m insn.pc target insn.op
    → Leaves (type_acts_done m (type_acts m insn r f) nodes) mid result → Leaves (type_acts_done m (acts_on (type_plan p m) i (plan_node_at nodes i).frame) nodes) mid result
leaves_at p m i nodes mid result insn target f r a b d e h = rw (d, a, b, ← e) h

pub unframed : (p : Program) (m : MethodInfo) (i : ℕ) (nodes : List (PlanNode TypeFrame)) → (plan_node_at nodes i).frame ≡ None → type_acts_done m (acts_on (type_plan p m) i (plan_node_at nodes i).frame) nodes ≡ Ok nodes
unframed p m i nodes e = rw e refl

pub no_insn : (p : Program) (m : MethodInfo) (i : ℕ) (nodes : List (PlanNode TypeFrame)) → slice_get m.code i ≡ None → type_acts_done m (acts_on (type_plan p m) i (plan_node_at nodes i).frame) nodes ≡ Ok nodes
no_insn p m i nodes e = by_frame (plan_node_at nodes i).frame
  where
    by_frame : (o : Option TypeFrame) → type_acts_done m (acts_on (type_plan p m) i o) nodes ≡ Ok nodes
    by_frame None = refl
    by_frame (Some f) = rw e refl

pub no_target : (p : Program) (m : MethodInfo) (i : ℕ) (nodes : List (PlanNode TypeFrame)) → slice_get m.targets i ≡ None → type_acts_done m (acts_on (type_plan p m) i (plan_node_at nodes i).frame) nodes ≡ Ok nodes
no_target p m i nodes e = by_frame (plan_node_at nodes i).frame (slice_get m.code i) refl
  where
    by_frame : (o : Option TypeFrame) (insn : Option Insn) → slice_get m.code i ≡ insn → type_acts_done m (acts_on (type_plan p m) i o) nodes ≡ Ok nodes
    by_frame None insn k = refl
    by_frame (Some f) None k = rw k refl
    by_frame (Some f) (Some insn) k = rw (k, e) refl

-- ---- the handlers, row by row

pub caught_broken : (m : MethodInfo) (pc : ℕ) (f : TypeFrame) (row : Row) (nodes : List (PlanNode TypeFrame)) (fault : VRule × ℕ) → catch_fault m pc row ≡ Some fault → type_acts_done m (caught_acts m pc f row) nodes ≡ Err (fault.0, fault.1)
caught_broken m pc f row nodes fault e = rw e refl

pub row_done : (m : MethodInfo) (pc : ℕ) (f : TypeFrame) (rows rest : List Row) (row : Row) (nodes mid : List (PlanNode TypeFrame)) (whole : Result (List (PlanNode TypeFrame)) (VRule × ℕ)) → rows ≡ row ∷ rest
    → type_acts_done m (handled_acts m pc f rows) nodes ≡ whole → type_acts_done m (caught_acts m pc f row) nodes ≡ Ok mid → type_acts_done m (handled_acts m pc f rest) mid ≡ whole
row_done m pc f rows rest row nodes mid whole e inv l =
    sym (then_acted type_meeting m.code (caught_acts m pc f row) (handled_acts m pc f rest) nodes mid l) ∙ ap (λ rows. type_acts_done m (handled_acts m pc f rows) nodes) (sym e) ∙ inv

pub row_stopped : (m : MethodInfo) (pc : ℕ) (f : TypeFrame) (rows rest : List Row) (row : Row) (nodes mid last : List (PlanNode TypeFrame)) (whole : Result (List (PlanNode TypeFrame)) (VRule × ℕ)) (e : Stop VRule) → rows ≡ row ∷ rest
    → type_acts_done m (handled_acts m pc f rows) nodes ≡ whole → Leaves {B = Unit {0}} (type_acts_done m (caught_acts m pc f row) nodes) mid (Err e) → Leaves {B = Unit {0}} whole last (Err e)
row_stopped m pc f rows rest row nodes mid last whole e k inv h = subst (λ w. Leaves {B = Unit {0}} w last (Err e)) (ap (λ rows. type_acts_done m (handled_acts m pc f rows) nodes) (sym k) ∙ inv)
    (leaves_first (Unit {0}) (Unit {0}) type_meeting m.code (caught_acts m pc f row) (handled_acts m pc f rest) nodes mid last e h)
