-- One visit, act by act.
use Rattle.std.proofs.Common.{◌≡◌, ℕ, Bool, true, false, List, [], ◌∷◌, ◌++◌, Some, Result, Ok, Err, refl, sym, ap, ◌∙◌, subst, slice_get}
use Rattle.jvm_types.specs.{CodeTable.row, Verifying.edges, declared.{code.Insn.Insn, op_row.OpRow.OpRow, program.{MethodInfo.MethodInfo, Program.Program, Target.Target}, refusal.SRule.SRule}}
use Rattle.jvm_types.specs.declared.refusal.SRule.TheVariants.{S1, S2, S4}
use Rattle.checked_program.specs.{LockTags.TagShape, Tagging.{tag_meeting, tag_plan, tag_acts, break_if, catchers, tags_after, tags_at_handler, enters_untagged, exits_other, leaves_held}}
use Rattle.checked_program.specs.Visits.{acts_on}
use Rattle.code_visits.{specs.{Analyses.Leaves, Waiting.plan_node_at, declared.stop.Stop.Stop}, proofs.ActLaws.{then_acted, leaves_first}}
use Rattle.monitor_tags.specs.{Visiting.{Nodes, Done, does, goes_along, to_handlers, IsGoing, TagsPrepared, first_tag_rule}, declared.visit.Going.Going}
use Rattle.code_visits.specs.declared.stop.Stop.TheVariants as stops

-- ---- what an instruction does

pub acts_are : (m : MethodInfo) (insn : Insn) (r : OpRow) (f : TagShape) → enters_untagged insn.op f.stack ≡ false → exits_other insn.op f.stack f.held ≡ false
    → tag_acts m insn r f ≡ (goes_along (edges insn) (tags_after insn r f) ∷ []) ++ (to_handlers (tags_at_handler f) (catchers m insn) ++ break_if (leaves_held m insn f.held) S4 insn.pc)
acts_are m insn r f a b = rw (a, b) refl

pub unprepared : (m : MethodInfo) (insn : Insn) (r : OpRow) (f : TagShape) (e : Stop SRule) (nodes last : Nodes) → TagsPrepared m insn r f (Err e) → Leaves {B = Unit {0}} (does m (tag_acts m insn r f) nodes) last (Err e)
unprepared m insn r f stops.Memory nodes last p = tt
unprepared m insn r f (stops.Refused rule pc) nodes last p = by_tests (enters_untagged insn.op f.stack) (exits_other insn.op f.stack f.held) refl refl p.0
  where
    by_tests : (a b : Bool) → enters_untagged insn.op f.stack ≡ a → exits_other insn.op f.stack f.held ≡ b → first_tag_rule a b ≡ Some rule → does m (tag_acts m insn r f) nodes ≡ Err (rule, pc)
    by_tests true b x y e = let same : S1 ≡ rule = cc in rw (x, ← same, p.1) refl
    by_tests false true x y e = let same : S2 ≡ rule = cc in rw (x, y, ← same, p.1) refl
    by_tests false false x y e = absurd (cc)

-- behind the first edges, which leave these nodes, come those to handlers, and S4
behind_edges : (m : MethodInfo) (insn : Insn) (r : OpRow) (f : TagShape) (g : Going) (tos : List ℕ) (nodes mid : Nodes) → IsGoing m insn r f g → tos ≡ edges insn → does m (goes_along tos g.after ∷ []) nodes ≡ Ok mid
    → does m (tag_acts m insn r f) nodes ≡ does m (to_handlers (tags_at_handler f) (catchers m insn) ++ break_if (leaves_held m insn f.held) S4 insn.pc) mid
behind_edges m insn r f g tos nodes mid k t a =
    let first : does m (goes_along (edges insn) (tags_after insn r f) ∷ []) nodes ≡ Ok mid = ap (λ (s : TagShape). does m (goes_along (edges insn) s ∷ []) nodes) (sym k.after) ∙ ap (λ l. does m (goes_along l g.after ∷ []) nodes) (sym t) ∙ a in
    ap (λ acts. does m acts nodes) (acts_are m insn r f k.enters k.exits)
    ∙ then_acted tag_meeting m.code (goes_along (edges insn) (tags_after insn r f) ∷ []) (to_handlers (tags_at_handler f) (catchers m insn) ++ break_if (leaves_held m insn f.held) S4 insn.pc) nodes mid first

pub went : (m : MethodInfo) (insn : Insn) (r : OpRow) (f : TagShape) (g : Going) (tos : List ℕ) (nodes mid last : Nodes) → IsGoing m insn r f g → tos ≡ edges insn → does m (goes_along tos g.after ∷ []) nodes ≡ Ok mid
    → does m (to_handlers (tags_at_handler f) (catchers m insn)) mid ≡ Ok last → does m (tag_acts m insn r f) nodes ≡ does m (break_if g.leaves S4 insn.pc) last
went m insn r f g tos nodes mid last k t a b = behind_edges m insn r f g tos nodes mid k t a
    ∙ then_acted tag_meeting m.code (to_handlers (tags_at_handler f) (catchers m insn)) (break_if (leaves_held m insn f.held) S4 insn.pc) mid last b ∙ ap (λ x. does m (break_if x S4 insn.pc) last) (sym k.leaves)

pub stopped : (m : MethodInfo) (insn : Insn) (r : OpRow) (f : TagShape) (g : Going) (tos : List ℕ) (nodes mid last : Nodes) (e : Stop SRule) → IsGoing m insn r f g → tos ≡ edges insn → does m (goes_along tos g.after ∷ []) nodes ≡ Ok mid
    → Leaves {B = Unit {0}} (does m (to_handlers (tags_at_handler f) (catchers m insn)) mid) last (Err e) → Leaves {B = Unit {0}} (does m (tag_acts m insn r f) nodes) last (Err e)
stopped m insn r f g tos nodes mid last e k t a b = subst (λ (w : Done). Leaves {B = Unit {0}} w last (Err e)) (sym (behind_edges m insn r f g tos nodes mid k t a))
    (leaves_first (Unit {0}) (Unit {0}) tag_meeting m.code (to_handlers (tags_at_handler f) (catchers m insn)) (break_if (leaves_held m insn f.held) S4 insn.pc) mid last last e b)

-- ---- the visit

pub leaves_at : (p : Program) (m : MethodInfo) (i : ℕ) (nodes mid : Nodes) (result : Result (Unit {0}) (Stop SRule)) (insn : Insn) (target : Target) (f : TagShape) (r : OpRow)
    → slice_get m.code i ≡ Some insn → slice_get m.targets i ≡ Some target → (plan_node_at nodes i).frame ≡ Some f → r ≡ row p m insn.pc target insn.op
    → Leaves (does m (tag_acts m insn r f) nodes) mid result → Leaves (does m (acts_on (tag_plan p m) i (plan_node_at nodes i).frame) nodes) mid result
leaves_at p m i nodes mid result insn target f r a b d e h = rw (d, a, b, ← e) h
