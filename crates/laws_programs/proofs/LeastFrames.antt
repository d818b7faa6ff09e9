-- What edges bring to nodes whose frames are at or below those of an assignment.
use Rattle.std.proofs.Common.{◌≡◌, ⊎_elim, ℕ, zero, suc, ◌<◌, Bool, true, false, not, ◌&&◌, List, [], ◌∷◌, length, map, Option, Some, None, refl, ap, sym, subst, ◌∙◌, arith, eqb-true, eq-eqb, ne_eqb, ◌==◌, if◌then◌else◌, IsSomeAnd, IsTrue, slice_get, slice_set}
use Rattle.std.{specs.List.{AllByRecursion, AllZip}, proofs.lemmas.Bool.{and_parts, cond_both, false_from_ne_true, true≢false, or_cases, or_from, or_left, or_right}}
use Rattle.jvm_types.specs.{CodeGrammar.{SpellsInsns, SpellsOp, is_start}, Numbers.has_number, Types.{TypeFrame, frame_below}}
use Rattle.jvm_types.specs.{Verifying.{Node, node_at, node_met, brought, all_brought, has_other_depth, clash, frame_at, FrameFits, IsFrameBelow}, declared.code.{Insn.Insn, Op.Op}}
use Rattle.jvm_types.proofs.FrameOrder.{pairs_length, stack_below, types_trans, types_meet_least}

-- ---- frames that may be missing

-- the frame is at or below one that is there
abbrev pub IsBelowSome : TypeFrame → Option TypeFrame → Type 0
IsBelowSome f o = IsSomeAnd o (λ g. IsTrue (frame_below f g))

pub below_some : (f g : TypeFrame) (o : Option TypeFrame) → frame_below f g ≡ true → IsBelowSome g o → IsBelowSome f o
below_some f g None h k = k
below_some f g (Some other) h k = types_trans f g other h k

pub fits_below : (code : List Insn) (others : List (Option TypeFrame)) (f g : TypeFrame) → frame_below f g ≡ true → (tos : List ℕ)
    → AllByRecursion (FrameFits code others g) tos → AllByRecursion (FrameFits code others f) tos
fits_below code others f g h [] k = tt
fits_below code others f g h (to ∷ tos) k = (below_some f g (frame_at code others to) h k.0, fits_below code others f g h tos k.1)

-- ---- nodes

-- each frame that is there is at or below the frame of the assignment at the same instruction
abbrev pub IsNodeBelow : Node → Option TypeFrame → Type 0
IsNodeBelow node g = IsFrameBelow node.frame g

abbrev pub AreBelow : List Node → List (Option TypeFrame) → Type 0
AreBelow nodes others = AllZip IsNodeBelow nodes others

joined_below : (node : Node) (o : Option TypeFrame) (f : TypeFrame) (g : Option TypeFrame) → IsFrameBelow o g → IsBelowSome f g → IsNodeBelow (node_met node o f) g
joined_below node (Some e) f (Some g) h k = types_meet_least e f g h k
joined_below node o f g h k = k

pub brought_below : (code : List Insn) (to : ℕ) (f : TypeFrame) (nodes : List Node) (others : List (Option TypeFrame)) → AreBelow nodes others → FrameFits code others f to
    → AreBelow (brought code to f nodes) others
brought_below (insn ∷ insns) to f (node ∷ nodes) [] below fits = absurd below
brought_below (insn ∷ insns) to f (node ∷ nodes) (g ∷ others) below fits =
    (elim (insn.pc == to) as (λ b. IsBelowSome f (if b then g else frame_at insns others to)
    → AreBelow (if b then node_met node node.frame f ∷ nodes else node ∷ brought insns to f nodes) (g ∷ others)) [
      | true ↦ λ fit. (joined_below node node.frame f g below.0 fit, below.1)
      | false ↦ λ fit. (below.0, brought_below insns to f nodes others below.1 fit)
    ]) fits
brought_below code to f nodes others below fits = below

pub all_brought_below : (code : List Insn) (tos : List ℕ) (f : TypeFrame) (nodes : List Node) (others : List (Option TypeFrame)) → AreBelow nodes others
    → AllByRecursion (FrameFits code others f) tos → AreBelow (all_brought code tos f nodes) others
all_brought_below code [] f nodes others below fits = below
all_brought_below code (to ∷ tos) f nodes others below fits =
    all_brought_below code tos f (brought code to f nodes) others (brought_below code to f nodes others below fits.0) fits.1

-- a visited node waits no more
pub quiet_below : (nodes : List Node) (others : List (Option TypeFrame)) (i : ℕ) → AreBelow nodes others
    → AreBelow (slice_set nodes i (record (node_at nodes i) { waits = false })) others
quiet_below (node ∷ nodes) [] i below = absurd below
quiet_below (node ∷ nodes) (g ∷ others) (suc i) below = (below.0, quiet_below nodes others i below.1)
quiet_below nodes others i below = below

-- the frame of the assignment at an instruction that has one
pub record Above (f : TypeFrame) (others : List (Option TypeFrame)) (i : ℕ) : Type 0 where
  pub frame : TypeFrame
  pub is : slice_get others i ≡ Some (Some frame)
  pub below : frame_below f frame ≡ true

pub frame_above : (nodes : List Node) (others : List (Option TypeFrame)) (i : ℕ) (f : TypeFrame) → AreBelow nodes others → (node_at nodes i).frame ≡ Some f → Above f others i
frame_above (node ∷ nodes) (g ∷ others) zero f below e = by_frame g (subst (λ (o : Option TypeFrame). IsFrameBelow o g) e below.0)
  where
    by_frame : (o : Option TypeFrame) → IsBelowSome f o → Above f (o ∷ others) zero
    by_frame None h = absurd h
    by_frame (Some h) k = record { frame = h; is = refl; below = k }
frame_above (node ∷ nodes) (g ∷ others) (suc i) f below e =
    let more = frame_above nodes others i f below.1 e in record { frame = more.frame; is = more.is; below = more.below }
frame_above nodes others i f below e = absurd (first_of (assumption, cc))

pub frames_below : (nodes : List Node) (others : List (Option TypeFrame)) → AreBelow nodes others → (i : ℕ) (f g : Option TypeFrame)
    → slice_get (map (λ node. node.frame) nodes) i ≡ Some f → slice_get others i ≡ Some g → IsFrameBelow f g
frames_below (node ∷ nodes) (h ∷ others) below zero f g e d =
    let at : node.frame ≡ f = cc in
    let above : h ≡ g = cc in
    subst (λ (o : Option TypeFrame). IsFrameBelow o g) at (subst (λ (o : Option TypeFrame). IsFrameBelow node.frame o) above below.0)
frames_below (node ∷ nodes) (h ∷ others) below (suc i) f g e d = frames_below nodes others below.1 i f g e d
frames_below nodes others below i f g e d = absurd (first_of (assumption, cc))

-- ---- each pc has one instruction

abbrev pub AreDistinct : List Insn → Type 0
AreDistinct [] = Unit {0}
AreDistinct (insn ∷ insns) = (is_start insns insn.pc ≡ false) × AreDistinct insns

pub some_front : (pc : ℕ) (op : Op) (bytes : List ℕ) → SpellsOp pc op bytes → 0 < length bytes
some_front pc op bytes h = rw h.is (omega arith)

starts_later : (pc : ℕ) (insns : List Insn) (bytes : List ℕ) (at : ℕ) → SpellsInsns pc insns bytes → at < pc → is_start insns at ≡ false
starts_later pc [] bytes at h k = refl
starts_later pc (insn ∷ insns) bytes at h k =
    let some : 0 < length h.0 = some_front pc insn.op h.0 h.5 in
    or_from (insn.pc == at) (is_start insns at) (ne_eqb insn.pc at (λ e. omega (arith, e, h.3))) (starts_later insn.next insns h.1 at h.6 (omega (arith, h.4)))

pub distinct : (pc : ℕ) (insns : List Insn) (bytes : List ℕ) → SpellsInsns pc insns bytes → AreDistinct insns
distinct pc [] bytes h = tt
distinct pc (insn ∷ insns) bytes h =
    let some : 0 < length h.0 = some_front pc insn.op h.0 h.5 in
    (starts_later insn.next insns h.1 insn.pc h.6 (omega (arith, h.3, h.4)), distinct insn.next insns h.1 h.6)

-- ---- depths

depth_is : (o g : Option TypeFrame) (f : TypeFrame) → IsFrameBelow o g → IsBelowSome f g → has_other_depth o (length f.stack) ≡ false
depth_is None g f h k = refl
depth_is (Some e) None f h k = absurd k
depth_is (Some e) (Some g) f h k =
    let depth : length e.stack ≡ length f.stack = pairs_length e.stack g.stack (stack_below e g h) ∙ sym (pairs_length f.stack g.stack (stack_below f g k)) in
    ap not (eq-eqb (length e.stack) (length f.stack) depth)

-- where the frame fits each target, no target has a frame of another depth
abbrev FitsEach : List Insn → List (Option TypeFrame) → List ℕ → TypeFrame → Type 0
FitsEach code others tos f = (to : ℕ) → has_number tos to ≡ true → is_start code to ≡ true → FrameFits code others f to

fits_later : (insn : Insn) (insns : List Insn) (g : Option TypeFrame) (others : List (Option TypeFrame)) (tos : List ℕ) (f : TypeFrame) → is_start insns insn.pc ≡ false
    → FitsEach (insn ∷ insns) (g ∷ others) tos f → FitsEach insns others tos f
fits_later insn insns g others tos f once fits to h k = cond_both (insn.pc == to) g (frame_at insns others to) (λ o. IsBelowSome f o → IsBelowSome f (frame_at insns others to))
    (λ e fit. let other : is_start insns insn.pc ≡ true = subst (λ (n : ℕ). is_start insns n ≡ true) (sym (eqb-true insn.pc to e)) k in absurd (cc)) (λ e fit. fit)
    (fits to h (or_right (insn.pc == to) (is_start insns to) k))

fits_here : (insn : Insn) (insns : List Insn) (g : Option TypeFrame) (others : List (Option TypeFrame)) (tos : List ℕ) (f : TypeFrame)
    → FitsEach (insn ∷ insns) (g ∷ others) tos f → has_number tos insn.pc ≡ true → IsBelowSome f g
fits_here insn insns g others tos f fits h =
    let same : (insn.pc == insn.pc) ≡ true = eq-eqb insn.pc insn.pc refl in
    subst (λ (b : Bool). IsBelowSome f (if b then g else frame_at insns others insn.pc)) same (fits insn.pc h (or_left (insn.pc == insn.pc) (is_start insns insn.pc) same))

no_clash_each : (code : List Insn) (tos : List ℕ) (f : TypeFrame) (nodes : List Node) (others : List (Option TypeFrame)) → AreDistinct code → AreBelow nodes others
    → FitsEach code others tos f → clash code tos (length f.stack) nodes ≡ None
no_clash_each (insn ∷ insns) tos f (node ∷ nodes) [] once below fits = absurd below
no_clash_each (insn ∷ insns) tos f (node ∷ nodes) (g ∷ others) once below fits =
    let more = no_clash_each insns tos f nodes others once.1 below.1 (fits_later insn insns g others tos f once.0 fits) in
    let quiet : (has_number tos insn.pc && has_other_depth node.frame (length f.stack)) ≡ false = false_from_ne_true (has_number tos insn.pc && has_other_depth node.frame (length f.stack)) (λ e.
    let parts = and_parts (has_number tos insn.pc) (has_other_depth node.frame (length f.stack)) e in
    true≢false (sym parts.1 ∙ depth_is node.frame g f below.0 (fits_here insn insns g others tos f fits parts.0))) in
    rw quiet more
no_clash_each code tos f nodes others once below fits = refl

fits_each : (code : List Insn) (others : List (Option TypeFrame)) (f : TypeFrame) (tos : List ℕ) → AllByRecursion (FrameFits code others f) tos → FitsEach code others tos f
fits_each code others f [] fits to h k = absurd (cc)
fits_each code others f (first ∷ tos) fits to h k = ⊎_elim
    (λ (e : (first == to) ≡ true). subst (FrameFits code others f) (eqb-true first to e) fits.0)
    (λ (e : has_number tos to ≡ true). fits_each code others f tos fits.1 to e k) (or_cases (first == to) (has_number tos to) h)

pub no_clash : (code : List Insn) (tos : List ℕ) (f : TypeFrame) (nodes : List Node) (others : List (Option TypeFrame)) → AreDistinct code → AreBelow nodes others
    → AllByRecursion (FrameFits code others f) tos → clash code tos (length f.stack) nodes ≡ None
no_clash code tos f nodes others once below fits = no_clash_each code tos f nodes others once below (fits_each code others f tos fits)
