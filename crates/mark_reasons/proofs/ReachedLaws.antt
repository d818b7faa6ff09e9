-- Whether some path reaches a section, from the code of its method.
use Rattle.std.{proofs.Common.{◌≡◌, ℕ, ◌<◌, Bool, true, false, ◌&&◌, List, length, Option, Some, None, refl, sym, ap, subst, ◌∙◌, arith, ◌==◌, slice_get}, specs.Option.is_some}
use Rattle.std.proofs.lemmas.{Bool.{and_parts, Decides.nat_tests}, Option.slice_get_within}
use Rattle.jvm_types.specs.{ProgramInvariant.IsProgram, declared.{code.{Insn.Insn, Op.Op}, program.{MethodInfo.MethodInfo, Program.Program}}}
use Rattle.checked_program.specs.{TaggedCode.tagged_by, declared.{section.Spot.TheVariants.{Method, Block}, tag.Tags.Tags}}
use Rattle.guard_analysis.proofs.{BlockMarks.stands, CallEdges.with_tags}
use Rattle.mark_reasons.specs.{OwnFlags.is_reached, ReachedSpots.{begins_at, block_begins, is_monitorenter, IsFirstBegin, TellsReached}, Reasons.IsSpotReached}
use Rattle.mark_reasons.proofs.OwnLaws.{code_is, frame_is, reached_parts, target_is}
use Rattle.jvm_types.specs.declared.code.Op.TheVariants as ops

is_enter : (op : Op) → is_monitorenter op ≡ true → op ≡ ops.Monitorenter
is_enter ops.Monitorenter e = refl
is_enter op e = absurd (let bad : false ≡ true = e in cc)

begin_parts : (o : Option Insn) (insn : Insn) (pc : ℕ) → o ≡ Some insn → begins_at o pc ≡ true → (insn.op ≡ ops.Monitorenter) × (insn.pc ≡ pc)
begin_parts o insn pc e h =
    let both = and_parts (is_monitorenter insn.op) (insn.pc == pc) (sym (ap (λ x. begins_at x pc) e) ∙ h) in
    (is_enter insn.op both.0, let test : (insn.pc == pc) ≡ true = both.1 in let same : insn.pc ≡ pc = grind (arith, nat_tests) in same)

module _ (p : Program) (tags : List Tags) (is : IsProgram p) (mi pc : ℕ) where
  module _ (m : MethodInfo) (t : Tags) (at_m : slice_get p.methods mi ≡ Some m) (at_t : slice_get tags mi ≡ Some t) where
    reached_here : (i : ℕ) → block_begins m t.frames pc i ≡ true → IsSpotReached p (tagged_by tags) mi (Block pc)
    reached_here i h =
        let both = and_parts (begins_at (slice_get m.code i) pc) (is_reached m t.frames i) h in
        let r = reached_parts (slice_get m.code i) (slice_get m.targets i) (slice_get t.frames i) both.1 in
        let begins = begin_parts (slice_get m.code i) r.0 pc r.3 both.0 in
        (i, r.2, record { m = m; insn = r.0; target = r.1; at = stands p tags is mi m t at_m at_t i r.0 r.1 r.2 r.3 r.4 r.5; pc_is = begins.1; enters = begins.0 })

    begins_there : (s : IsSpotReached p (tagged_by tags) mi (Block pc)) → (s.0 < length m.code) × (block_begins m t.frames pc s.0 ≡ true)
    begins_there s =
        let b = s.2 in
        let code : slice_get m.code s.0 ≡ Some b.insn = code_is p tags is mi m t at_m at_t s.0 b.m b.insn b.target s.1 b.at in
        let target : slice_get m.targets s.0 ≡ Some b.target = target_is p tags is mi m t at_m at_t s.0 b.m b.insn b.target s.1 b.at in
        let frame : slice_get t.frames s.0 ≡ Some (Some s.1) = frame_is p tags is mi m t at_m at_t s.0 b.m b.insn b.target s.1 b.at in
        let op : b.insn.op ≡ ops.Monitorenter = b.enters in
        let same : (b.insn.pc == pc) ≡ true = (let is_pc : b.insn.pc ≡ pc = b.pc_is in grind (arith, nat_tests)) in
        (slice_get_within m.code s.0 b.insn code, rw (code, target, frame, op, same) refl)

  reached_by : (om : Option MethodInfo) (ot : Option Tags) → slice_get p.methods mi ≡ om → slice_get tags mi ≡ ot → (found : Option ℕ) → IsFirstBegin pc om ot found → TellsReached p (tagged_by tags) mi (Block pc) (is_some found)
  reached_by (Some m) (Some t) e f (Some i) h = reached_here m t e f i h.1
  reached_by (Some m) (Some t) e f None h = λ s. let there = begins_there m t e f s in let bad : true ≡ false = sym there.1 ∙ h s.0 there.0 in cc
  reached_by (Some m) None e f (Some i) h = absurd (cc)
  reached_by (Some m) None e f None h = λ s. let has = with_tags p tags is mi s.2.at.frames s.2.at.of_method in let bad : None ≡ Some has.0 = sym f ∙ has.1 in cc
  reached_by None ot e f (Some i) h = absurd (cc)
  reached_by None ot e f None h = λ s. let bad : None ≡ Some s.2.m = sym e ∙ s.2.at.in_program in cc

  pub tells_reached : (found : Option ℕ) → IsFirstBegin pc (slice_get p.methods mi) (slice_get tags mi) found → TellsReached p (tagged_by tags) mi (Block pc) (is_some found)
  tells_reached found h = reached_by (slice_get p.methods mi) (slice_get tags mi) refl refl found h
