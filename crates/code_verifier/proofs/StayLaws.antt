-- Frames that stay as they are where they meet others.
use Rattle.std.proofs.Common.{◌≡◌, ℕ, zero, suc, ◌+◌, Bool, true, false, not, List, [], ◌∷◌, drop, length, Option, Some, None, Ok, refl, sym, subst, ap, ◌∙◌, add-one, arith, ◌&&◌, ◌||◌, if◌then◌else◌, slice_get}
use Rattle.std.specs.Option.{IfSome}
use Rattle.jvm_types.specs.{Types.{TypeFrame, filled, same_type, meet, all_pairs, meets, meet_frames, same_frame}, declared.{program.MethodInfo.MethodInfo, refusal.VRule.TheVariants.V5}}
use Rattle.jvm_types.specs.declared.typing.VType.{VType, TheVariants.Ref}
use Rattle.laws_programs.proofs.LocalRisen.{same_frames}
use Rattle.code_table.specs.PcTables.{number_at, Ascend}
use Rattle.checked_program.specs.Visits.{PlanNode, edge_brought, clashes_with, meeting_clash, unless_meeting_clash}
use Rattle.code_visits.{specs.{Analyses.clash_place, TypePlan.{type_meeting, goes_typed, type_local_count}, Waiting.plan_node_at}, proofs.{BroughtLaws.{at_place, brought_at}, ClashLaws.clash_at}}
use Rattle.code_visits.proofs.{StayLaws.stays_there, TypeVisits.{not_other, types_meet}}
use Rattle.code_verifier.{specs.Visiting.{HasLocals, HaveLocals, type_acts_done, with_object_stack}, proofs.FrameLaws.frames_told}

-- ---- types

stay_more : (ts us : List VType) (i : ℕ) (t u : VType) → slice_get ts i ≡ Some t → slice_get us i ≡ Some u
    → all_pairs same_type (drop i ts) (meets (drop i ts) (drop i us)) ≡ (same_type t (meet t u) && all_pairs same_type (drop (suc i) ts) (meets (drop (suc i) ts) (drop (suc i) us)))
stay_more [] us i t u e f = absurd (cc)
stay_more (x ∷ xs) [] i t u e f = absurd (cc)
stay_more (x ∷ xs) (y ∷ ys) zero t u e f =
    let same : x ≡ t = cc in
    let other : y ≡ u = cc in
    rw (same, other) refl
stay_more (x ∷ xs) (y ∷ ys) (suc i) t u e f = stay_more xs ys i t u e f

pub stay_stop : (ts us : List VType) (i : ℕ) (t u : VType) (whole : Bool) → slice_get ts i ≡ Some t → slice_get us i ≡ Some u → false ≡ same_type t (meet t u)
    → all_pairs same_type (drop i ts) (meets (drop i ts) (drop i us)) ≡ whole → false ≡ whole
stay_stop ts us i t u whole e f s h =
    ap (λ b. b && all_pairs same_type (drop (suc i) ts) (meets (drop (suc i) ts) (drop (suc i) us))) s ∙ sym (stay_more ts us i t u e f) ∙ h

pub stay_on : (ts us : List VType) (i : ℕ) (t u : VType) (whole : Bool) → slice_get ts i ≡ Some t → slice_get us i ≡ Some u → true ≡ same_type t (meet t u)
    → all_pairs same_type (drop i ts) (meets (drop i ts) (drop i us)) ≡ whole → all_pairs same_type (drop (i + 1) ts) (meets (drop (i + 1) ts) (drop (i + 1) us)) ≡ whole
stay_on ts us i t u whole e f s h =
    rw add-one (ap (λ b. b && all_pairs same_type (drop (suc i) ts) (meets (drop (suc i) ts) (drop (suc i) us))) s ∙ sym (stay_more ts us i t u e f) ∙ h)

-- ---- a frame

one_type : (ts : List VType) (t : VType) → length ts ≡ 1 → slice_get ts 0 ≡ Some t → ts ≡ t ∷ []
one_type [] t l e = absurd (cc)
one_type (x ∷ []) t l e = let same : x ≡ t = cc in ap (λ y. y ∷ []) same
one_type (x ∷ y ∷ ts) t l e = absurd (omega (arith, l))

ready_stays : (was both : Bool) → (was && not both) ≡ false → (was && not (was && both)) ≡ false
ready_stays true true e = refl
ready_stays true false e = e
ready_stays false both e = refl

by_told : (s l was both same : Bool) → ((not s || not l) || (was && not (was && both))) ≡ not same → s ≡ true → l ≡ true → (was && not both) ≡ false → same ≡ true
by_told true true was both true told es el er = refl
by_told true true was both false told es el er = absurd (let bad : true ≡ false = sym told ∙ ready_stays was both er in cc)
by_told false l was both same told es el er = absurd (cc)
by_told true false was both same told es el er = absurd (cc)

one_pair : (ts : List VType) (t u : VType) → ts ≡ t ∷ [] → same_type t (meet t u) ≡ true → all_pairs same_type ts (meets ts (u ∷ [])) ≡ true
one_pair ts t u e s = ap (λ xs. all_pairs same_type xs (meets xs (u ∷ []))) e ∙ ap (λ b. b && true) s

pub frame_stays : (frame f : TypeFrame) (class : ℕ) (first : List VType) (t : VType) → length frame.locals ≡ length f.locals → filled (length frame.locals) first ≡ frame.locals
    → length frame.stack ≡ 1 → slice_get frame.stack 0 ≡ Some t → same_type t (meet t (Ref class)) ≡ true → all_pairs same_type first (meets first f.locals) ≡ true → (frame.ready && not f.ready) ≡ false
    → same_frame frame (meet_frames frame (with_object_stack class f)) ≡ true
frame_stays frame f class first t long fill deep top one all ready =
    by_told (all_pairs same_type frame.stack (meets frame.stack (Ref class ∷ []))) (all_pairs same_type first (meets first f.locals)) frame.ready f.ready
    (same_frame frame (meet_frames frame (with_object_stack class f)))
    (frames_told frame (with_object_stack class f) first (not (all_pairs same_type frame.stack (meets frame.stack (Ref class ∷ [])))) (not (all_pairs same_type first (meets first f.locals))) frame.ready f.ready long fill refl refl refl refl)
    (one_pair frame.stack t (Ref class) (one_type frame.stack t deep top) one) all ready

-- ---- an edge that adds nothing

-- of an instruction whose frame has one value on its stack and stays as it is
pub adds_none : (m : MethodInfo) (to i : ℕ) (g f : TypeFrame) (nodes : List (PlanNode TypeFrame)) → Ascend 0 m.code → HaveLocals m nodes → number_at m.code to ≡ Some i → Some g ≡ (plan_node_at nodes i).frame
    → length f.stack ≡ 1 → length g.stack ≡ 1 → same_frame g (meet_frames g f) ≡ true → type_acts_done m (goes_typed (to ∷ []) f ∷ []) nodes ≡ Ok nodes
adds_none m to i g f nodes a level place there one deep same =
    let apart : clashes_with type_meeting (plan_node_at nodes i).frame f ≡ false = ap (λ o. clashes_with type_meeting o f) (sym there) ∙ not_other (length g.stack) (length f.stack) (deep ∙ sym one) in
    let clear : meeting_clash type_meeting m.code (to ∷ []) f nodes ≡ None =
    clash_at type_meeting 0 m.code to f nodes a ∙ ap (λ o. clash_place type_meeting o to f nodes) place ∙ ap (λ (b : Bool). if b then Some to else None) apart in
    let stays : edge_brought type_meeting m.code to f nodes ≡ nodes =
    brought_at type_meeting m.code to f nodes level.long ∙ ap (λ o. at_place type_meeting o f nodes) place
    ∙ stays_there type_meeting type_local_count nodes i g f types_meet there (sym (same_frames g (meet_frames g f) same)) in
    ap (λ (o : Option ℕ). unless_meeting_clash V5 o (Ok (edge_brought type_meeting m.code to f nodes))) clear ∙ ap Ok stays

pub as_wide : (m : MethodInfo) (f : TypeFrame) (o : Option TypeFrame) (g : TypeFrame) → HasLocals m f → IfSome o (HasLocals m) → Some g ≡ o → type_local_count g ≡ type_local_count f
as_wide m f o g h k e = subst (λ (x : Option TypeFrame). IfSome x (HasLocals m)) (sym e) k ∙ sym h
