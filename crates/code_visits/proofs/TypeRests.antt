-- The order of frames of types in which a meeting goes up, of frames of any number of locals; and what is kept of the nodes of
-- verification.
use Rattle.std.proofs.{Common.{◌≡◌, ◌≢◌, ℕ, Bool, true, false, not, ◌&&◌, ◌||◌, List, [], ◌∷◌, length, Some, Ok, refl, sym, ap, ◌∙◌, ◌++◌}, Math.Bool.or-not_self}
use Rattle.jvm_types.specs.{Types.{TypeFrame, is_below, meet, meets, meet_frames}, Verifying.IsLaidOut, declared.{program.{MethodInfo.MethodInfo, Program.Program}, typing.VType.VType, refusal.VRule.VRule}}
use Rattle.jvm_types.proofs.FrameOrder.{ready_trans, ready_left, ready_right}
use Rattle.code_table.specs.PcTables.{Ascend}
use Rattle.laws_programs.proofs.{LocalRisen.same_frames, Orders.{types_ordered, meet_is_least}}
use Rattle.checked_program.specs.Visits.{Act, PlanNode, acted}
use Rattle.laws_sections.proofs.{VisitedNodes.{Orders, Sound}, VisitPaths.IsGoing}
use Rattle.code_visits.specs.{Analyses.{Ends, AreUnderVisit}, TypePlan.{type_meeting, type_local_count, type_plan, TypesKept, types_work}, Waiting.plan_node_at}
use Rattle.code_visits.proofs.{RestLaws.{Absorbs, ends_going, taken_sound, rest_first, sound_parts, sound_on, done_length}, TypeVisits.{as_deep, not_other, meets_length, types_meet}, TypesEnd.types_end}

-- place by place, as far as there are places in the second
abbrev pub AreTypesBelow : List VType → List VType → Type 0
AreTypesBelow ts [] = Unit {0}
AreTypesBelow [] (u ∷ us) = ⊥
AreTypesBelow (t ∷ ts) (u ∷ us) = (is_below t u ≡ true) × AreTypesBelow ts us

pub record IsTypedBelow (f g : TypeFrame) : Type 0 where
  pub deep : length f.stack ≡ length g.stack
  pub stack : AreTypesBelow f.stack g.stack
  pub locals : AreTypesBelow f.locals g.locals
  pub ready : (f.ready || not g.ready) ≡ true

-- ---- it is an order

list_self : (ts : List VType) → AreTypesBelow ts ts
list_self [] = tt
list_self (t ∷ ts) = (types_ordered.reflexive t, list_self ts)

list_trans : (ts us xs : List VType) → AreTypesBelow ts us → AreTypesBelow us xs → AreTypesBelow ts xs
list_trans ts us [] a b = tt
list_trans ts [] (x ∷ xs) a b = absurd b
list_trans [] (u ∷ us) (x ∷ xs) a b = absurd a
list_trans (t ∷ ts) (u ∷ us) (x ∷ xs) a b = (types_ordered.transitive t u x a.0 b.0, list_trans ts us xs a.1 b.1)

list_left : (ts us : List VType) → AreTypesBelow ts (meets ts us)
list_left [] us = tt
list_left (t ∷ ts) [] = tt
list_left (t ∷ ts) (u ∷ us) = (meet_is_least.first t u, list_left ts us)

list_right : (ts us : List VType) → AreTypesBelow us (meets ts us)
list_right [] us = tt
list_right (t ∷ ts) [] = tt
list_right (t ∷ ts) (u ∷ us) = (meet_is_least.second t u, list_right ts us)

as_deep_as : (g f : TypeFrame) → type_meeting.clashes g f ≡ false → length (meets g.stack f.stack) ≡ length f.stack
as_deep_as g f e = meets_length g.stack f.stack (as_deep (length g.stack) (length f.stack) e)

pub type_order : Orders type_meeting IsTypedBelow
type_order = record {
  self = λ f. record { deep = refl; stack = list_self f.stack; locals = list_self f.locals; ready = or-not_self f.ready };
  trans = λ f g h a b. record {
    deep = a.deep ∙ b.deep;
    stack = list_trans f.stack g.stack h.stack a.stack b.stack;
    locals = list_trans f.locals g.locals h.locals a.locals b.locals;
    ready = ready_trans f.ready g.ready h.ready a.ready b.ready;
  };
  left = λ g f e. record {
    deep = as_deep (length g.stack) (length f.stack) e ∙ sym (as_deep_as g f e);
    stack = list_left g.stack f.stack;
    locals = list_left g.locals f.locals;
    ready = ready_left g.ready f.ready;
  };
  right = λ g f e. record { deep = sym (as_deep_as g f e); stack = list_right g.stack f.stack; locals = list_right g.locals f.locals; ready = ready_right g.ready f.ready };
  equal = same_frames;
  own = types_meet.apart;
  again = types_meet.met_apart;
}

-- ---- a frame that another is below stays where they meet

met_type : (t u : VType) → is_below t u ≡ true → meet u t ≡ u
met_type t u h = types_ordered.antisymmetric (meet u t) u (meet_is_least.least u t u (types_ordered.reflexive u) h) (meet_is_least.first u t)

met_list : (ts us : List VType) → AreTypesBelow ts us → meets us ts ≡ us
met_list ts [] a = refl
met_list [] (u ∷ us) a = absurd a
met_list (t ∷ ts) (u ∷ us) a = ap (λ x. x ∷ meets us ts) (met_type t u a.0) ∙ ap (λ l. u ∷ l) (met_list ts us a.1)

met_ready : (a b : Bool) → (a || not b) ≡ true → (b && a) ≡ b
met_ready true true h = refl
met_ready true false h = refl
met_ready false true h = absurd (cc)
met_ready false false h = refl

met_frame : (f g : TypeFrame) → IsTypedBelow f g → meet_frames g f ≡ g
met_frame f g b = λ i. record { stack = met_list f.stack g.stack b.stack i; locals = met_list f.locals g.locals b.locals i; ready = met_ready f.ready g.ready b.ready i }

pub types_absorb : Absorbs type_meeting IsTypedBelow
types_absorb = record { apart = λ f g b. not_other (length g.stack) (length f.stack) (sym b.deep); met = met_frame }

-- ---- what is kept of the nodes

-- and those that do not wait are sound
abbrev pub TypesRest : Program → MethodInfo → List (PlanNode TypeFrame) → Type 0
TypesRest p m nodes = TypesKept m nodes × IsGoing (type_plan p m) IsTypedBelow type_order nodes

pub types_rest : (p : Program) (m : MethodInfo) → IsLaidOut m → Ends (type_plan p m) (λ nodes. TypesRest p m nodes) (λ nodes. types_work m nodes)
types_rest p m laid = ends_going (type_plan p m) IsTypedBelow type_order (λ nodes. TypesKept m nodes) (λ nodes. types_work m nodes) (types_end p m laid)

-- ---- acts that leave the nodes

-- these acts leave the nodes as they are
abbrev pub AreTypesSound : MethodInfo → List (PlanNode TypeFrame) → List (Act TypeFrame VRule) → Type 0
AreTypesSound m nodes acts = Sound type_meeting IsTypedBelow type_order m.code nodes acts

pub types_taken : (p : Program) (m : MethodInfo) (nodes : List (PlanNode TypeFrame)) (i j : ℕ) (f : TypeFrame) → AreUnderVisit (λ ns. TypesRest p m ns) i nodes → j ≢ i → (plan_node_at nodes j).waits ≡ false → Some f ≡ (plan_node_at nodes j).frame
    → AreTypesSound m nodes ((type_plan p m).acts j f)
types_taken p m nodes i j f t n w e = taken_sound (type_plan p m) IsTypedBelow type_order (λ ns. TypesKept m ns) nodes i j f t n w e

pub types_left_out : (m : MethodInfo) (nodes : List (PlanNode TypeFrame)) (acts others : List (Act TypeFrame VRule)) → Ascend 0 m.code → length nodes ≡ length m.code → AreTypesSound m nodes acts
    → acted type_meeting m.code (acts ++ others) nodes ≡ acted type_meeting m.code others nodes
types_left_out m nodes acts others ascend long s = rest_first type_meeting IsTypedBelow type_order types_absorb type_local_count types_meet m.code ascend nodes acts others long s

pub types_parts : (m : MethodInfo) (nodes : List (PlanNode TypeFrame)) (acts others : List (Act TypeFrame VRule)) → AreTypesSound m nodes (acts ++ others) → AreTypesSound m nodes acts × AreTypesSound m nodes others
types_parts m nodes acts others s = sound_parts type_meeting IsTypedBelow type_order m.code nodes acts others s

pub types_sound_on : (m : MethodInfo) (acts others : List (Act TypeFrame VRule)) (nodes mid : List (PlanNode TypeFrame)) → acted type_meeting m.code acts nodes ≡ Ok mid → AreTypesSound m nodes others → AreTypesSound m mid others
types_sound_on m acts others nodes mid e s = sound_on type_meeting IsTypedBelow type_order m.code acts others nodes mid e s

pub types_long : (m : MethodInfo) (acts : List (Act TypeFrame VRule)) (nodes mid : List (PlanNode TypeFrame)) → acted type_meeting m.code acts nodes ≡ Ok mid → length nodes ≡ length mid
types_long m acts nodes mid e = done_length type_meeting IsTypedBelow type_order m.code acts nodes mid e
