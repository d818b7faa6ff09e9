-- Which edges bring a frame that may not meet the one at their target, edge by edge.
use Rattle.std.proofs.Common.{◌≡◌, ◌≢◌, ℕ, zero, suc, ◌<◌, ◌≤◌, ◌⊎◌, inl, inr, min, Bool, true, false, List, [], ◌∷◌, ◌++◌, Option, Some, None, refl, sym, ap, ◌∙◌, arith, ◌==◌, ◌||◌, ◌&&◌, if◌then◌else◌}
use Rattle.std.{specs.{List.AllByRecursion, Option.{option_map, IfSome}}, proofs.lemmas.Bool.{cases_eq, eq-eqb, ne_eqb}}
use Rattle.jvm_types.specs.{Numbers.has_number, declared.code.Insn.Insn}
use Rattle.code_table.specs.PcTables.{number_at, Ascend}
use Rattle.checked_program.specs.Visits.{Meeting, PlanNode, joined, edge_brought, meeting_clash, clashes_with}
use Rattle.code_visits.specs.{Analyses.{lesser, clash_place}, Level.{IsLawfulMeeting, IsAsWide, AreLevel}, Waiting.plan_node_at}

-- ---- the least pc of several

pub clash_none : {A : Type 0} (d : Meeting A) (code : List Insn) (f : A) (nodes : List (PlanNode A)) → meeting_clash d code [] f nodes ≡ None
clash_none d [] f nodes = refl
clash_none d (insn ∷ insns) f [] = refl
clash_none d (insn ∷ insns) f (node ∷ nodes) = clash_none d insns f nodes

-- None, or a pc from one on
abbrev IsFrom : ℕ → Option ℕ → Type 0
IsFrom low None = Unit {0}
IsFrom low (Some pc) = low ≤ pc

clash_from : {A : Type 0} (d : Meeting A) (low n : ℕ) (code : List Insn) (tos : List ℕ) (f : A) (nodes : List (PlanNode A)) → Ascend low code → n ≤ low → IsFrom n (meeting_clash d code tos f nodes)
clash_from d low n [] tos f nodes a h = tt
clash_from d low n (insn ∷ insns) tos f [] a h = tt
clash_from d low n (insn ∷ insns) tos f (node ∷ nodes) a h = by_test (has_number tos insn.pc && clashes_with d node.frame f) (clash_from d (suc insn.pc) n insns tos f nodes a.1 (omega (arith, a.0, h)))
  where
    by_test : (t : Bool) → IsFrom n (meeting_clash d insns tos f nodes) → IsFrom n (if t then Some insn.pc else meeting_clash d insns tos f nodes)
    by_test true more = omega (arith, a.0, h)
    by_test false more = more

lesser_left : (pc : ℕ) (other : Option ℕ) → IsFrom (suc pc) other → lesser (Some pc) other ≡ Some pc
lesser_left pc None h = refl
lesser_left pc (Some at) h = let least : min pc at ≡ pc = omega (arith, h) in ap Some least

lesser_right : (pc : ℕ) (other : Option ℕ) → IsFrom (suc pc) other → lesser other (Some pc) ≡ Some pc
lesser_right pc None h = refl
lesser_right pc (Some at) h = let least : min at pc ≡ pc = omega (arith, h) in ap Some least

lesser_same : (pc : ℕ) → lesser (Some pc) (Some pc) ≡ Some pc
lesser_same pc = let least : min pc pc ≡ pc = omega arith in ap Some least

pub clash_more : {A : Type 0} (d : Meeting A) (low : ℕ) (code : List Insn) (to : ℕ) (tos : List ℕ) (f : A) (nodes : List (PlanNode A)) → Ascend low code
    → meeting_clash d code (to ∷ tos) f nodes ≡ lesser (meeting_clash d code (to ∷ []) f nodes) (meeting_clash d code tos f nodes)
clash_more d low [] to tos f nodes a = refl
clash_more d low (insn ∷ insns) to tos f [] a = refl
clash_more d low (insn ∷ insns) to tos f (node ∷ nodes) a =
    by_tests (to == insn.pc) (has_number tos insn.pc) (clashes_with d node.frame f) (meeting_clash d insns (to ∷ []) f nodes) (meeting_clash d insns tos f nodes)
    (clash_from d (suc insn.pc) (suc insn.pc) insns (to ∷ []) f nodes a.1 (omega arith)) (clash_from d (suc insn.pc) (suc insn.pc) insns tos f nodes a.1 (omega arith))
    (clash_more d (suc insn.pc) insns to tos f nodes a.1)
  where
    by_tests : (s t other : Bool) (left right : Option ℕ) → IsFrom (suc insn.pc) left → IsFrom (suc insn.pc) right → meeting_clash d insns (to ∷ tos) f nodes ≡ lesser left right
        → (if (s || t) && other then Some insn.pc else meeting_clash d insns (to ∷ tos) f nodes)
        ≡ lesser (if (s || false) && other then Some insn.pc else left) (if t && other then Some insn.pc else right)
    by_tests true true true left right h k e = sym (lesser_same insn.pc)
    by_tests true true false left right h k e = e
    by_tests true false true left right h k e = sym (lesser_left insn.pc right k)
    by_tests true false false left right h k e = e
    by_tests false true true left right h k e = sym (lesser_right insn.pc left h)
    by_tests false true false left right h k e = e
    by_tests false false true left right h k e = e
    by_tests false false false left right h k e = e

pub lesser_assoc : (a b c : Option ℕ) → lesser (lesser a b) c ≡ lesser a (lesser b c)
lesser_assoc None b c = refl
lesser_assoc (Some x) None c = refl
lesser_assoc (Some x) (Some y) None = refl
lesser_assoc (Some x) (Some y) (Some z) = let least : min (min x y) z ≡ min x (min y z) = omega arith in ap Some least

pub lesser_none : (a : Option ℕ) → lesser a None ≡ a
lesser_none None = refl
lesser_none (Some x) = refl

-- ---- of one edge

one_on : {A : Type 0} (d : Meeting A) (o : Option ℕ) (to : ℕ) (f : A) (node : PlanNode A) (nodes : List (PlanNode A)) → clash_place d o to f nodes ≡ clash_place d (option_map suc o) to f (node ∷ nodes)
one_on d None to f node nodes = refl
one_on d (Some i) to f node nodes = refl

no_clash_behind : {A : Type 0} (d : Meeting A) (low : ℕ) (code : List Insn) (to : ℕ) (f : A) (nodes : List (PlanNode A)) → Ascend low code → to < low → meeting_clash d code (to ∷ []) f nodes ≡ None
no_clash_behind d low [] to f nodes a h = refl
no_clash_behind d low (insn ∷ insns) to f [] a h = refl
no_clash_behind d low (insn ∷ insns) to f (node ∷ nodes) a h = rw (ne_eqb to insn.pc (omega (arith, a.0, h))) (no_clash_behind d (suc insn.pc) insns to f nodes a.1 (omega (arith, a.0, h)))

no_node : {A : Type 0} (d : Meeting A) (o : Option ℕ) (to : ℕ) (f : A) → None ≡ clash_place d o to f []
no_node d None to f = refl
no_node d (Some i) to f = refl

pub clash_at : {A : Type 0} (d : Meeting A) (low : ℕ) (code : List Insn) (to : ℕ) (f : A) (nodes : List (PlanNode A)) → Ascend low code → meeting_clash d code (to ∷ []) f nodes ≡ clash_place d (number_at code to) to f nodes
clash_at d low [] to f nodes a = refl
clash_at d low (insn ∷ insns) to f [] a = no_node d (number_at (insn ∷ insns) to) to f
clash_at d low (insn ∷ insns) to f (node ∷ nodes) a = by_pc (cases_eq insn.pc to) (clash_at d (suc insn.pc) insns to f nodes a.1)
  where
    by_clash : insn.pc ≡ to → (t : Bool) → meeting_clash d insns (to ∷ []) f nodes ≡ None → (if t then Some insn.pc else meeting_clash d insns (to ∷ []) f nodes) ≡ (if t then Some to else None)
    by_clash e true h = ap Some e
    by_clash e false h = h

    by_pc : (insn.pc ≡ to) ⊎ (insn.pc ≢ to) → meeting_clash d insns (to ∷ []) f nodes ≡ clash_place d (number_at insns to) to f nodes
        → meeting_clash d (insn ∷ insns) (to ∷ []) f (node ∷ nodes) ≡ clash_place d (number_at (insn ∷ insns) to) to f (node ∷ nodes)
    by_pc (inl e) h = rw (eq-eqb to insn.pc (sym e), eq-eqb insn.pc to e) (by_clash e (clashes_with d node.frame f) (no_clash_behind d (suc insn.pc) insns to f nodes a.1 (omega (arith, e))))
    by_pc (inr e) h = rw (ne_eqb to insn.pc (λ f. e (sym f)), ne_eqb insn.pc to e) (h ∙ one_on d (number_at insns to) to f node nodes)

-- ---- where none clashes

left_none : (a b : Option ℕ) → lesser a b ≡ None → a ≡ None
left_none None b e = refl
left_none (Some x) None e = absurd (cc)
left_none (Some x) (Some y) e = absurd (cc)

right_none : (a b : Option ℕ) → lesser a b ≡ None → b ≡ None
right_none None b e = e
right_none (Some x) None e = refl
right_none (Some x) (Some y) e = absurd (cc)

pub first_none : {A : Type 0} (d : Meeting A) (code : List Insn) (to : ℕ) (tos : List ℕ) (f : A) (nodes : List (PlanNode A)) → Ascend 0 code → meeting_clash d code (to ∷ tos) f nodes ≡ None → meeting_clash d code (to ∷ []) f nodes ≡ None
first_none d code to tos f nodes a e = left_none (meeting_clash d code (to ∷ []) f nodes) (meeting_clash d code tos f nodes) (sym (clash_more d 0 code to tos f nodes a) ∙ e)

pub others_none : {A : Type 0} (d : Meeting A) (code : List Insn) (to : ℕ) (tos : List ℕ) (f : A) (nodes : List (PlanNode A)) → Ascend 0 code → meeting_clash d code (to ∷ tos) f nodes ≡ None → meeting_clash d code tos f nodes ≡ None
others_none d code to tos f nodes a e = right_none (meeting_clash d code (to ∷ []) f nodes) (meeting_clash d code tos f nodes) (sym (clash_more d 0 code to tos f nodes a) ∙ e)

pub wide_at : {A : Type 0} (width : A → ℕ) (places : ℕ) (nodes : List (PlanNode A)) (i : ℕ) → AllByRecursion (λ (node : PlanNode A). IfSome node.frame (λ g. width g ≡ places)) nodes → IfSome (plan_node_at nodes i).frame (λ g. width g ≡ places)
wide_at width places [] i all = tt
wide_at width places (node ∷ nodes) zero all = all.0
wide_at width places (node ∷ nodes) (suc i) all = wide_at width places nodes i all.1

fits_frame : {A : Type 0} (d : Meeting A) (width : A → ℕ) (frame : Option A) (f : A) (to : ℕ) → (if clashes_with d frame f then Some to else None) ≡ None → IfSome frame (λ g. width g ≡ width f) → IsAsWide d width frame f
fits_frame d width None f to e h = tt
fits_frame d width (Some g) f to e h = (by_clash (d.clashes g f) e, h)
  where
    by_clash : (b : Bool) → (if b then Some to else None) ≡ None → b ≡ false
    by_clash true e = absurd (cc)
    by_clash false e = refl

pub fits_at : {A : Type 0} (d : Meeting A) (width : A → ℕ) (code : List Insn) (nodes : List (PlanNode A)) (to i : ℕ) (f : A) → Ascend 0 code → AreLevel width (width f) code nodes → meeting_clash d code (to ∷ []) f nodes ≡ None → number_at code to ≡ Some i
    → IsAsWide d width (plan_node_at nodes i).frame f
fits_at d width code nodes to i f a level e p = fits_frame d width (plan_node_at nodes i).frame f to
    (ap (λ o. clash_place d o to f nodes) (sym p) ∙ sym (clash_at d 0 code to f nodes a) ∙ e) (wide_at width (width f) nodes i level.wide)

joined_apart : {A : Type 0} (d : Meeting A) (width : A → ℕ) (waits : Bool) (frame : Option A) (f : A) → IsLawfulMeeting d width → clashes_with d frame f ≡ false → clashes_with d (joined d waits frame f).frame f ≡ false
joined_apart d width waits None f law e = law.apart f
joined_apart d width waits (Some g) f law e = law.met_apart g f e

-- an edge that brings a frame leaves none that clashes with it
pub still_none : {A : Type 0} (d : Meeting A) (width : A → ℕ) (code : List Insn) (tos : List ℕ) (to : ℕ) (f : A) (nodes : List (PlanNode A)) → IsLawfulMeeting d width → meeting_clash d code tos f nodes ≡ None → meeting_clash d code tos f (edge_brought d code to f nodes) ≡ None
still_none d width [] tos to f nodes law e = refl
still_none d width (insn ∷ insns) tos to f [] law e = refl
still_none d width (insn ∷ insns) tos to f (node ∷ nodes) law e = by_tests (insn.pc == to) (has_number tos insn.pc) (clashes_with d node.frame f) refl refl e (still_none d width insns tos to f nodes law)
  where
    by_tests : (t s c : Bool) → has_number tos insn.pc ≡ s → clashes_with d node.frame f ≡ c → (if s && c then Some insn.pc else meeting_clash d insns tos f nodes) ≡ None
        → (meeting_clash d insns tos f nodes ≡ None → meeting_clash d insns tos f (edge_brought d insns to f nodes) ≡ None)
        → meeting_clash d (insn ∷ insns) tos f (if t then joined d node.waits node.frame f ∷ nodes else node ∷ edge_brought d insns to f nodes) ≡ None
    by_tests t true true a b e more = absurd (cc)
    by_tests true true false a b e more = rw (a, joined_apart d width node.waits node.frame f law b) e
    by_tests true false c a b e more = rw a e
    by_tests false true false a b e more = rw (a, b) (more e)
    by_tests false false c a b e more = rw a (more e)

-- the edges but the last, and the last, where none of all clashes
pub parts_none : {A : Type 0} (d : Meeting A) (code : List Insn) (tos : List ℕ) (last : ℕ) (f : A) (nodes : List (PlanNode A)) → Ascend 0 code → meeting_clash d code (tos ++ last ∷ []) f nodes ≡ None
    → (meeting_clash d code tos f nodes ≡ None) × (meeting_clash d code (last ∷ []) f nodes ≡ None)
parts_none d code [] last f nodes a e = (clash_none d code f nodes, e)
parts_none d code (to ∷ tos) last f nodes a e =
    let rest = parts_none d code tos last f nodes a (others_none d code to (tos ++ last ∷ []) f nodes a e) in
    (clash_more d 0 code to tos f nodes a ∙ ap (λ o. lesser o (meeting_clash d code tos f nodes)) (first_none d code to (tos ++ last ∷ []) f nodes a e) ∙ rest.0, rest.1)
