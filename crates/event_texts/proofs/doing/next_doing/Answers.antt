use Rattle.std.{proofs.Common.{◌≡◌, ◌<◌, ◌∙◌, sym, ap, Some, None, length, arith, slice_get}, specs.Option.{option_copied, option_map}}
use Rattle.checked_program.specs.CodeIndex.{number_in}
use Rattle.machine_types.specs.Effects.{effect}
use Rattle.frames.specs.FrameLists.{top}
use Rattle.event_texts.{specs.Doings.doing_at, proofs.TopByNumber.{both_there, no_insn, no_target, none_there}}
use Rattle.event_texts.proofs.doing.next_doing.Goals as goal

pub returns-in_default-number_at : goal.returns-in_default-number_at
returns-in_default-number_at c =
    let p = c.args.p.now.program in
    let frames = c.args.s.now.frames in
    let m = c.in-Some.m.now in
    let some : 0 < length frames = omega (arith, c.depth.ensures.depth, c.if-depth-eq0.false) in
    let method : slice_get p.methods (top frames).method ≡ Some m = rw (c.program.ensures.program, c.method.ensures) at (sym c.in-Some.ensures.value) in
    let number : number_in (slice_get p.methods (top frames).method) (top frames).pc ≡ None = rw (c.method-2.ensures, c.pc-pc.ensures) at (sym c.number_at.ensures ∙ c.in_default-number_at.is) in
    sym (ap (option_map (doing_at p)) (none_there p frames m some method number))

pub returns-in_default-get : goal.returns-in_default-get
returns-in_default-get c =
    let p = c.args.p.now.program in
    let frames = c.args.s.now.frames in
    let m = c.in-Some.m.now in
    let i = c.in-Some-number_at.i in
    let some : 0 < length frames = omega (arith, c.depth.ensures.depth, c.if-depth-eq0.false) in
    let method : slice_get p.methods (top frames).method ≡ Some m = rw (c.program.ensures.program, c.method.ensures) at (sym c.in-Some.ensures.value) in
    let number : number_in (slice_get p.methods (top frames).method) (top frames).pc ≡ Some i = rw (c.method-2.ensures, c.pc-pc.ensures) at (sym c.number_at.ensures ∙ c.in-Some-number_at.is) in
    let none : slice_get m.code i ≡ None = sym c.get-2.ensures.value ∙ ap option_copied c.in_default-get.is in
    sym (ap (option_map (doing_at p)) (no_insn p frames m i some method number none))

pub returns-in_default-get-2 : goal.returns-in_default-get-2
returns-in_default-get-2 c =
    let p = c.args.p.now.program in
    let frames = c.args.s.now.frames in
    let m = c.in-Some.m.now in
    let i = c.in-Some-number_at.i in
    let some : 0 < length frames = omega (arith, c.depth.ensures.depth, c.if-depth-eq0.false) in
    let method : slice_get p.methods (top frames).method ≡ Some m = rw (c.program.ensures.program, c.method.ensures) at (sym c.in-Some.ensures.value) in
    let number : number_in (slice_get p.methods (top frames).method) (top frames).pc ≡ Some i = rw (c.method-2.ensures, c.pc-pc.ensures) at (sym c.number_at.ensures ∙ c.in-Some-number_at.is) in
    let none : slice_get m.targets i ≡ None = sym c.get-3.ensures.value ∙ ap option_copied c.in_default-get-2.is in
    sym (ap (option_map (doing_at p)) (no_target p frames m i some method number none))

pub returns : goal.returns
returns c =
    let p = c.args.p.now.program in
    let frames = c.args.s.now.frames in
    let m = c.in-Some.m.now in
    let i = c.in-Some-number_at.i in
    let insn = c.in-Some-get.insn.now in
    let target = c.in-Some-get-2.target.now in
    let some : 0 < length frames = omega (arith, c.depth.ensures.depth, c.if-depth-eq0.false) in
    let method : slice_get p.methods (top frames).method ≡ Some m = rw (c.program.ensures.program, c.method.ensures) at (sym c.in-Some.ensures.value) in
    let number : number_in (slice_get p.methods (top frames).method) (top frames).pc ≡ Some i = rw (c.method-2.ensures, c.pc-pc.ensures) at (sym c.number_at.ensures ∙ c.in-Some-number_at.is) in
    let does : c.effect-effect.result ≡ effect p insn.next target insn.op (top frames).locals (top frames).stack = rw (c.program-2.ensures.program, c.locals.ensures, c.stack.ensures) at c.effect-effect.ensures in
    (λ j. Some (record { pc = c.pc-pc.ensures j; effect = does j; target = target }))
    ∙ sym (ap (option_map (doing_at p)) (both_there p frames m i insn target some method number (sym c.in-Some-get.ensures.value) (sym c.in-Some-get-2.ensures.value)))
