-- The bounds of the frames of a typing: as many locals as max_locals, since the visit of pc 0 passed V3.
use Rattle.std.proofs.Common.{◌≡◌, ℕ, suc, ◌-◌, ◌≤◌, false, ◌||◌, ltb, List, [], ◌∷◌, length, replicate, Option, Some, None, refl, sym, ap, ◌∙◌, subst, length-append, arith, ◌==◌, slice_get}
use Rattle.std.{specs.List.AllByRecursion, proofs.lemmas.{Bool.{cond_both, or_parts, ltb-false, Decides.nat_tests}, List.length-replicate}}
use Rattle.jvm_types.specs.{CodeTable.row, Types.{TypeFrame, filled, entry_type_frame}, declared.{code.Insn.Insn, op_row.OpRow.OpRow, program.{MethodInfo.MethodInfo, Program.Program, Target.Target}}}
use Rattle.jvm_types.specs.{Verifying.{names_no_local, lacks_locals, first_nodes, frame_at, FrameFits, IsFrameBelow, HasTyping, IsLaidOut, FrameLaw}, declared.typing.VType.{VType, TheVariants.Top}}
use Rattle.laws_programs.proofs.{FrameBounds.{IsBounded, within_locals}, LocalBrought.IsFrameBounded, LocalGoing.{at_index, begins, first_going, all_go, local_law}}

filled_length : (n : ℕ) (ts : List VType) → n ≤ length (filled n ts)
filled_length n ts = omega (arith, length-append ts (replicate (n - length ts) Top), length-replicate (n - length ts) Top)

few_locals : (m : MethodInfo) (r : OpRow) (f : TypeFrame) → lacks_locals m r f ≡ false → length f.locals ≤ m.max_locals
few_locals m r f e = ltb-false m.max_locals (length f.locals) (or_parts (names_no_local m r.reads || names_no_local m r.writes) (ltb m.max_locals (length f.locals)) e).1

-- the first instruction has a frame
entry_there : (insn : Insn) (code : List Insn) (frames : List (Option TypeFrame)) (f : TypeFrame) → insn.pc ≡ 0 → FrameFits (insn ∷ code) frames f 0 → (g : TypeFrame) × (slice_get frames 0 ≡ Some (Some g))
entry_there insn code [] f e h = absurd h
entry_there insn code (Some g ∷ frames) f e h = (g, refl)
entry_there insn code (None ∷ frames) f e h =
    absurd (cond_both (insn.pc == 0) None (frame_at code frames 0) (λ o. IsFrameBelow (Some f) o → ⊥) (λ t h. h) (λ t. absurd (grind (arith, nat_tests, e, t))) h)

-- and a target
target_there : (targets : List Target) (n : ℕ) → length targets ≡ suc n → (target : Target) × (slice_get targets 0 ≡ Some target)
target_there [] n e = absurd (omega arith)
target_there (target ∷ targets) n e = (target, refl)

module _ (p : Program) (m : MethodInfo) (frames : List (Option TypeFrame)) (laid : IsLaidOut m) (typed : HasTyping p m frames) where
  bounded : AllByRecursion (IsFrameBounded m) frames
  bounded = subst (λ (fs : List (Option TypeFrame)). AllByRecursion (IsFrameBounded m) fs) (sym typed.are)
      (all_go p m laid typed.visits (first_nodes m m.code) typed.last (first_going p m laid) typed.made).0.bounded

  bounded_at : (i : ℕ) (f : TypeFrame) → slice_get frames i ≡ Some (Some f) → IsBounded m f
  bounded_at i f e = at_index (IsFrameBounded m) frames i (Some f) bounded e

  pub entry_locals : length (entry_type_frame m).locals ≡ m.max_locals
  entry_locals =
      let a = local_law p m frames laid typed in
      let b = begins m laid in
      let first = entry_there b.0 b.1 frames (entry_type_frame m) b.3 (subst (λ (code : List Insn). FrameFits code frames (entry_type_frame m) 0) b.2 a.entry) in
      let target = target_there m.targets (length b.1) (laid.targets ∙ ap length b.2) in
      let r : OpRow = row p m b.0.pc target.0 b.0.op in
      let sound = a.sound 0 b.0 target.0 first.0 (ap (λ (code : List Insn). slice_get code 0) b.2) target.1 first.1 in
      let few : length first.0.locals ≤ m.max_locals = few_locals m r first.0 (within_locals m b.0 r first.0 sound.before) in
      let many : m.max_locals ≤ length (entry_type_frame m).locals = filled_length m.max_locals _ in
      let same : length first.0.locals ≡ length (entry_type_frame m).locals = (bounded_at 0 first.0 first.1).locals in
      omega (arith, few, many, same)

pub frame_law : FrameLaw
frame_law p m frames laid typed i f e =
    let b : IsBounded m f = bounded_at p m frames laid typed i f e in
    (b.locals ∙ entry_locals p m frames laid typed, b.stack, b.ready)
