-- An edge that fits leads to an instruction with a frame, and the frame at its pc is that of its number.
use Rattle.std.proofs.Common.{◌≡◌, ℕ, zero, suc, true, false, cond, List, [], ◌∷◌, Option, Some, None, refl, sym, ap, ◌∙◌, subst, arith, ◌==◌, slice_get, IsSomeAnd, IsTrue}
use Rattle.std.proofs.lemmas.Bool.{cond_both, or_parts, Decides.nat_tests}
use Rattle.jvm_types.specs.{CodeGrammar.is_start, Types.{TypeFrame, frame_below}, Verifying.{frame_at, FrameFits}, declared.code.Insn.Insn}
use Rattle.laws_programs.{specs.EdgeLaws.{EdgesLand, FramesAreNumbered, FramesAreFound}, proofs.LeastFrames.{AreDistinct, distinct}}

-- ---- an edge

landing : (code : List Insn) (frames : List (Option TypeFrame)) (f : TypeFrame) (to : ℕ) → FrameFits code frames f to
    → (i : ℕ) × (insn : Insn) × (g : TypeFrame) × (slice_get code i ≡ Some insn) × (insn.pc ≡ to) × (slice_get frames i ≡ Some (Some g)) × (frame_below f g ≡ true)
landing (insn ∷ code) (frame ∷ frames) f to h =
    cond_both (insn.pc == to) frame (frame_at code frames to) (λ o. IsSomeAnd o (λ g. IsTrue (frame_below f g)) → Found) (λ e. here frame refl (grind (arith, nat_tests, e)))
    (λ e h. let l = landing code frames f to h in (suc l.0, l.1, l.2, l.3, l.4, l.5, l.6)) h
  where
    Found : Type 0
    Found = (i : ℕ) × (x : Insn) × (g : TypeFrame) × (slice_get (insn ∷ code) i ≡ Some x) × (x.pc ≡ to) × (slice_get (frame ∷ frames) i ≡ Some (Some g)) × (frame_below f g ≡ true)

    here : (o : Option TypeFrame) → frame ≡ o → (insn.pc ≡ to) → IsSomeAnd o (λ g. IsTrue (frame_below f g)) → Found
    here None e same h = absurd h
    here (Some g) e same h = (0, insn, g, refl, same, ap (λ (o : Option TypeFrame). Some o) e, h)
landing code frames f to h = absurd h

pub lands : EdgesLand
lands m frames f to h = let l = landing m.code frames f to h in record { number = l.0; insn = l.1; frame = l.2; there = l.3; starts = l.4; has = l.5; fits = l.6 }

-- ---- the frame at a pc

pub not_first : (insns : List Insn) (i : ℕ) (x : Insn) (pc : ℕ) → is_start insns pc ≡ false → slice_get insns i ≡ Some x → (pc == x.pc) ≡ false
not_first [] i x pc n e = absurd (cc)
not_first (y ∷ insns) zero x pc n e = let same : y ≡ x = cc in let no : (x.pc == pc) ≡ false = subst (λ (z : Insn). (z.pc == pc) ≡ false) same (or_parts (y.pc == pc) (is_start insns pc) n).0 in grind (arith, nat_tests, no)
not_first (y ∷ insns) (suc i) x pc n e = not_first insns i x pc (or_parts (y.pc == pc) (is_start insns pc) n).1 e

standing : (code : List Insn) (frames : List (Option TypeFrame)) (i : ℕ) (x : Insn) (o : Option TypeFrame) → AreDistinct code → slice_get code i ≡ Some x → slice_get frames i ≡ Some o → frame_at code frames x.pc ≡ o
standing (y ∷ code) (frame ∷ frames) zero x o d e f =
    let same : y ≡ x = cc in
    let is : frame ≡ o = cc in
    ap (λ t. cond t frame (frame_at code frames x.pc)) (subst (λ (z : Insn). (z.pc == x.pc) ≡ true) (sym same) (grind (arith, nat_tests))) ∙ is
standing (y ∷ code) (frame ∷ frames) (suc i) x o d e f =
    ap (λ t. cond t frame (frame_at code frames x.pc)) (not_first code i x y.pc d.0 e) ∙ standing code frames i x o d.1 e f
standing code frames i x o d e f = absurd (cc)

pub stand : FramesAreNumbered
stand m frames i insn o laid e f = standing m.code frames i insn o (distinct 0 m.code laid.bytes laid.code.spelled) e f

-- ---- the instruction of a frame

found_at : (code : List Insn) (frames : List (Option TypeFrame)) (pc : ℕ) (f : TypeFrame) → frame_at code frames pc ≡ Some f
    → (i : ℕ) × (insn : Insn) × (slice_get code i ≡ Some insn) × (insn.pc ≡ pc) × (slice_get frames i ≡ Some (Some f))
found_at (insn ∷ code) (frame ∷ frames) pc f e = cond_both (insn.pc == pc) frame (frame_at code frames pc)
    (λ o. o ≡ Some f → (i : ℕ) × (x : Insn) × (slice_get (insn ∷ code) i ≡ Some x) × (x.pc ≡ pc) × (slice_get (frame ∷ frames) i ≡ Some (Some f)))
    (λ h e. (0, insn, refl, grind (arith, nat_tests, h), ap (λ (o : Option TypeFrame). Some o) e)) (λ h e. let l = found_at code frames pc f e in (suc l.0, l.1, l.2, l.3, l.4)) e
found_at code frames pc f e = absurd (cc)

pub found : FramesAreFound
found m frames pc f e = let l = found_at m.code frames pc f e in record { number = l.0; insn = l.1; there = l.2; starts = l.3; has = l.4 }
