use Rattle.std.proofs.{Common.{◌∙◌, ap, sym, subst, refl, slice_get}, lemmas.Result.IfOk-weaker}
use Rattle.jvm_types.specs.declared.program.MethodInfo.{MethodInfo}
use Rattle.code_table.specs.PcTables.{number_at}
use Rattle.checked_program.specs.{Marks.IsOnOwn, TaggedCode.tagged_by, declared.section.Spot.Spot}
use Rattle.mark_reasons.{specs.OwnFlags.{AreOwn, OwnOrElsewhere, IsBlockAnswer}, proofs.OwnLaws.{method_own, no_number, block_answer}}
use Rattle.mark_reasons.proofs.own.own_flags.Goals as goal

pub returns-in-Method : goal.returns-in-Method
returns-in-Method c = subst (λ (s : Spot). AreOwn c.args.p.now (tagged_by c.args.tags.now) c.args.method s c.in_ok-reached_flags-in-Method.field-0) (sym c.in-Method.is)
    (method_own c.args.p.now c.args.tags.now c.requires.program c.args.method c.args.m.now c.args.t.now c.requires.there c.requires.tagged c.in_ok-reached_flags-in-Method.field-0 c.in_ok-reached_flags-in-Method.ensures)

pub returns-in-Some : goal.returns-in-Some
returns-in-Some c = IfOk-weaker c.block_at.result _ _ (λ found h.
    subst (λ (s : Spot). OwnOrElsewhere c.args.p.now (tagged_by c.args.tags.now) c.args.method s found) (sym c.in-Block.is)
    (block_answer c.args.p.now c.args.tags.now c.requires.program c.args.method c.args.m.now c.args.t.now c.requires.there c.requires.tagged c.in-Block.pc c.in-Some.enter
    (ap (λ (x : MethodInfo). number_at x.code c.in-Block.pc) (sym c.in_ok-indexed-in-Block.ensures) ∙ sym c.in-Some.ensures)
    (slice_get c.args.m.now.code c.in-Some.enter) found refl
    (subst (λ (x : MethodInfo). IsBlockAnswer x c.args.t.now.frames c.in-Some.enter (slice_get x.code c.in-Some.enter) found) c.in_ok-indexed-in-Block.ensures h))) c.block_at.ensures

pub returns : goal.returns
returns c = subst (λ (s : Spot). IsOnOwn c.args.p.now (tagged_by c.args.tags.now) c.args.method s → ⊥) (sym c.in-Block.is)
    (no_number c.args.p.now c.args.tags.now c.requires.program c.args.method c.args.m.now c.args.t.now c.requires.there c.requires.tagged c.in-Block.pc
    (ap (λ (x : MethodInfo). number_at x.code c.in-Block.pc) (sym c.in_ok-indexed-in-Block.ensures) ∙ sym c.in-None.ensures))
