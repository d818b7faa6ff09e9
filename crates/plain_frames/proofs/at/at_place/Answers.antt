use Rattle.std.{proofs.Common.{sym, ap, ◌∙◌}, specs.Option.option_copied}
use Rattle.jvm_types.proofs.EachAfter.{drop_got}
use Rattle.plain_frames.proofs.TopPlaces.{no_frame, no_method, no_number, no_insn, no_target, placed}
use Rattle.plain_frames.proofs.at.at_place.Goals as goal

pub returns-in_err-frame : goal.returns-in_err-frame
returns-in_err-frame c = c.from_residual.ensures ∙ no_frame c.args.p.now.program c.args.frames.now c.args.down (sym c.get.ensures.value ∙ ap option_copied c.in_err-frame.was)

pub returns-in_err-method : goal.returns-in_err-method
returns-in_err-method c =
    let frame = sym c.get.ensures.value ∙ ap option_copied c.in_ok-frame.was in
    let method = rw (c.program.ensures.program, c.method.ensures) at (sym c.get-2.ensures.value ∙ ap option_copied c.in_err-method.was) in
    c.from_residual-in_err-method.ensures ∙ no_method c.args.p.now.program c.args.frames.now c.args.down _ frame method

pub returns-in_err-number : goal.returns-in_err-number
returns-in_err-number c =
    let frame = sym c.get.ensures.value ∙ ap option_copied c.in_ok-frame.was in
    let method = rw (c.program.ensures.program, c.method.ensures) at (sym c.get-2.ensures.value ∙ ap option_copied c.in_ok-method.was) in
    let number = rw (c.method-2.ensures, c.pc.ensures) at (sym c.number_at.ensures ∙ c.in_err-number.was) in
    c.from_residual-in_err-number.ensures ∙ no_number c.args.p.now.program c.args.frames.now c.args.down _ _ frame method number

pub returns-in_err-insn : goal.returns-in_err-insn
returns-in_err-insn c =
    let frame = sym c.get.ensures.value ∙ ap option_copied c.in_ok-frame.was in
    let method = rw (c.program.ensures.program, c.method.ensures) at (sym c.get-2.ensures.value ∙ ap option_copied c.in_ok-method.was) in
    let number = rw (c.method-2.ensures, c.pc.ensures) at (sym c.number_at.ensures ∙ c.in_ok-number.was) in
    let insn = sym c.get-3.ensures.value ∙ ap option_copied c.in_err-insn.was in
    c.from_residual-in_err-insn.ensures ∙ no_insn c.args.p.now.program c.args.frames.now c.args.down _ _ _ frame method number insn

pub returns-in_err-target : goal.returns-in_err-target
returns-in_err-target c =
    let frame = sym c.get.ensures.value ∙ ap option_copied c.in_ok-frame.was in
    let method = rw (c.program.ensures.program, c.method.ensures) at (sym c.get-2.ensures.value ∙ ap option_copied c.in_ok-method.was) in
    let number = rw (c.method-2.ensures, c.pc.ensures) at (sym c.number_at.ensures ∙ c.in_ok-number.was) in
    let insn = sym c.get-3.ensures.value ∙ ap option_copied c.in_ok-insn.was in
    let target = sym c.get-4.ensures.value ∙ ap option_copied c.in_err-target.was in
    c.from_residual-in_err-target.ensures ∙ no_target c.args.p.now.program c.args.frames.now c.args.down _ _ _ _ frame method number insn target

pub invariant_of-result : goal.invariant_of-result
invariant_of-result c = drop_got c.args.frames.now c.args.down _ (sym c.get.ensures.value ∙ ap option_copied c.in_ok-frame.was)

pub returns : goal.returns
returns c =
    let frame = sym c.get.ensures.value ∙ ap option_copied c.in_ok-frame.was in
    let method = rw (c.program.ensures.program, c.method.ensures) at (sym c.get-2.ensures.value ∙ ap option_copied c.in_ok-method.was) in
    let number = rw (c.method-2.ensures, c.pc.ensures) at (sym c.number_at.ensures ∙ c.in_ok-number.was) in
    let insn = sym c.get-3.ensures.value ∙ ap option_copied c.in_ok-insn.was in
    let target = sym c.get-4.ensures.value ∙ ap option_copied c.in_ok-target.was in
    placed c.args.p.now.program c.args.frames.now c.args.down _ _ _ _ _ frame method number insn target
