-- What the nodes are after a frame was brought along edges.
use Rattle.std.{proofs.Common.{◌≡◌, ℕ, Bool, true, false, cond, not, ◌||◌, List, [], ◌∷◌, length, Option, Some, None, refl, sym, ap, ◌∙◌, subst, arith, ◌==◌}, specs.List.AllByRecursion}
use Rattle.std.proofs.lemmas.Bool.{cond_both, not-false, or_parts}
use Rattle.jvm_types.specs.{CodeGrammar.is_start, Types.{TypeFrame, meet_frames, same_frame}, Verifying.{Node, node_met, brought, frame_at, FrameFits, IsFrameBelow}, declared.code.Insn.Insn}
use Rattle.jvm_types.{specs.declared.program.MethodInfo.MethodInfo, proofs.FrameOrder.{types_self, types_meet_left, types_meet_right}}
use Rattle.laws_programs.proofs.{FrameBounds.{IsBounded, meets_length, meet_bounded}, LocalRisen.{IsRisen, AreRisen, all_risen_self, frames_of, same_frames}}

abbrev pub IsFrameBounded : MethodInfo → Option TypeFrame → Type 0
IsFrameBounded m None = Unit {0}
IsFrameBounded m (Some f) = IsBounded m f

abbrev pub AreBounded : MethodInfo → List Node → Type 0
AreBounded m nodes = AllByRecursion (IsFrameBounded m) (frames_of nodes)

-- where there is a frame, its stack has this depth
abbrev pub IsDeep : ℕ → Option TypeFrame → Type 0
IsDeep depth None = Unit {0}
IsDeep depth (Some f) = length f.stack ≡ depth

-- a test that decides between two lists decides between their heads and between their tails
by_parts : {A : Type 0} (t : Bool) (x y : A) (xs ys : List A) → cond t x y ∷ cond t xs ys ≡ cond t (x ∷ xs) (y ∷ ys)
by_parts true x y xs ys = refl
by_parts false x y xs ys = refl

module _ (m : MethodInfo) (f : TypeFrame) (b : IsBounded m f) where
  -- ---- one node

  joined_risen : (waits : Bool) (frame : Option TypeFrame) → IsFrameBounded m frame → IsDeep (length f.stack) frame
      → IsRisen (record { frame = frame; waits = waits }) (node_met (record { frame = frame; waits = waits }) frame f)
  joined_risen waits None c d = record { frame = tt; kept = λ e. absurd (cc) }
  joined_risen waits (Some g) c d = record { frame = types_meet_left g f d (omega (arith, c.locals, b.locals)); kept = kept }
    where
      kept : (waits || not (same_frame g (meet_frames g f))) ≡ false → (waits ≡ false) × (Some g ≡ Some (meet_frames g f))
      kept e =
          let parts = or_parts waits (not (same_frame g (meet_frames g f))) e in
          (parts.0, ap Some (same_frames g (meet_frames g f) (not-false (same_frame g (meet_frames g f)) parts.1)))

  joined_fits : (waits : Bool) (frame : Option TypeFrame) → IsFrameBounded m frame → IsDeep (length f.stack) frame → IsFrameBelow (Some f) (node_met (record { frame = frame; waits = waits }) frame f).frame
  joined_fits waits None c d = types_self f
  joined_fits waits (Some g) c d = types_meet_right g f d (omega (arith, c.locals, b.locals))

  joined_bounded : (waits : Bool) (frame : Option TypeFrame) → IsFrameBounded m frame → IsFrameBounded m (node_met (record { frame = frame; waits = waits }) frame f).frame
  joined_bounded waits None c = b
  joined_bounded waits (Some g) c = meet_bounded m g f c b

  joined_deep : (waits : Bool) (frame : Option TypeFrame) (depth : ℕ) → length f.stack ≡ depth → IsDeep depth frame → IsDeep depth (node_met (record { frame = frame; waits = waits }) frame f).frame
  joined_deep waits None depth e d = e
  joined_deep waits (Some g) depth e d = meets_length g.stack f.stack (d ∙ sym e) ∙ d

  -- ---- one edge

  module _ (to : ℕ) where
    pub brought_risen : (code : List Insn) (nodes : List Node) → AreBounded m nodes → IsDeep (length f.stack) (frame_at code (frames_of nodes) to) → AreRisen nodes (brought code to f nodes)
    brought_risen [] nodes c d = all_risen_self nodes
    brought_risen (insn ∷ code) [] c d = tt
    brought_risen (insn ∷ code) (node ∷ nodes) c d =
        (elim (insn.pc == to) as (λ t. IsDeep (length f.stack) (cond t node.frame (frame_at code (frames_of nodes) to))
        → AreRisen (node ∷ nodes) (cond t (node_met node node.frame f ∷ nodes) (node ∷ brought code to f nodes))) [
          | true ↦ λ d. (joined_risen node.waits node.frame c.0 d, all_risen_self nodes)
          | false ↦ λ d. ((all_risen_self (node ∷ [])).0, brought_risen code nodes c.1 d)
        ]) d

    pub brought_bounded : (code : List Insn) (nodes : List Node) → AreBounded m nodes → AreBounded m (brought code to f nodes)
    brought_bounded (insn ∷ code) (node ∷ nodes) c = cond_both (insn.pc == to) (node_met node node.frame f ∷ nodes) (node ∷ brought code to f nodes) (AreBounded m)
        (λ e. (joined_bounded node.waits node.frame c.0, c.1)) (λ e. (c.0, brought_bounded code nodes c.1))
    brought_bounded code nodes c = c

    -- the depth at any pc stays
    pub brought_deep : (depth pc : ℕ) → length f.stack ≡ depth → (code : List Insn) (nodes : List Node) → IsDeep depth (frame_at code (frames_of nodes) pc)
        → IsDeep depth (frame_at code (frames_of (brought code to f nodes)) pc)
    brought_deep depth pc e (insn ∷ code) (node ∷ nodes) d =
        subst (λ (ns : List Node). IsDeep depth (frame_at (insn ∷ code) (frames_of ns) pc)) (by_parts (insn.pc == to) (node_met node node.frame f) node nodes (brought code to f nodes))
        (by_tests (insn.pc == to) (insn.pc == pc) d (λ d. brought_deep depth pc e code nodes d))
      where
        by_tests : (t u : Bool) → IsDeep depth (cond u node.frame (frame_at code (frames_of nodes) pc))
            → (IsDeep depth (frame_at code (frames_of nodes) pc) → IsDeep depth (frame_at code (frames_of (brought code to f nodes)) pc))
            → IsDeep depth (cond u (cond t (node_met node node.frame f) node).frame (frame_at code (frames_of (cond t nodes (brought code to f nodes))) pc))
        by_tests true true d more = joined_deep node.waits node.frame depth e d
        by_tests false false d more = more d
        by_tests t u d more = d
    brought_deep depth pc e code nodes d = tt

    pub brought_fits : (code : List Insn) (nodes : List Node) → AreBounded m nodes → is_start code to ≡ true → length nodes ≡ length code → IsDeep (length f.stack) (frame_at code (frames_of nodes) to)
        → FrameFits code (frames_of (brought code to f nodes)) f to
    brought_fits (insn ∷ code) (node ∷ nodes) c s l d =
        subst (λ (ns : List Node). FrameFits (insn ∷ code) (frames_of ns) f to) (by_parts (insn.pc == to) (node_met node node.frame f) node nodes (brought code to f nodes))
        (by_test (insn.pc == to) s d (λ s d. brought_fits code nodes c.1 s (omega arith) d))
      where
        by_test : (t : Bool) → (t || is_start code to) ≡ true → IsDeep (length f.stack) (cond t node.frame (frame_at code (frames_of nodes) to))
            → (is_start code to ≡ true → IsDeep (length f.stack) (frame_at code (frames_of nodes) to) → FrameFits code (frames_of (brought code to f nodes)) f to)
            → IsFrameBelow (Some f) (cond t (cond t (node_met node node.frame f) node).frame (frame_at code (frames_of (cond t nodes (brought code to f nodes))) to))
        by_test true s d more = joined_fits node.waits node.frame c.0 d
        by_test false s d more = more s d
    brought_fits code nodes c s l d = absurd (first_of (cc, omega arith))
