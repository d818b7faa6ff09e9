use Rattle.std.proofs.Common.{◌≡◌, ◌∙◌, ◌-◌, sym, ap, [], take, drop}
use Rattle.jvm_types.specs.declared.program.Program.{Program}
use Rattle.frames.{specs.{RootLists.{RootLists, first_roots, later_roots}, ThreadParts.start_phase}, proofs.{FewMethods.few_methods, StartLaws.started}}
use Rattle.frames.proofs.thread_state.ThreadState.start.Goals as goal

pub of-requires : goal.of-requires
of-requires c = rw c.program.ensures.program (few_methods c.args.p.now.program c.program.ensures.marked.checked.program)

pub returns : goal.returns
returns c =
    let p = c.args.p.now in
    let number = c.args.number in
    let r = c.roots.inside in
    let here : RootLists = record { left = take (r.until - r.begun) (drop r.begun r.numbers); later = drop r.later r.numbers } in
    let same : here ≡ c.in_ok-roots.roots = c.roots.view_is in
    started p c.args.cfg.now number
    c.of-2.result.told c.of-3.result.told c.of-4.result.told c.in_ok-new.field-0 c.in_ok-with_places.field-0.entries c.in_ok-with_room.field-0.items here c.start_phase-phase.result
    (c.of-2.ensures ∙ c.typings.ensures.typings) (c.of-3.ensures ∙ c.tags.ensures.tags) (c.of-4.ensures ∙ c.marks.ensures.marks)
    (c.in_ok-new.ensures ∙ ap (λ (q : Program). record { program = q; frames = [] }) c.program-2.ensures.program)
    c.in_ok-with_places.ensures.0 c.in_ok-with_room.ensures.items
    (same ∙ c.in_ok-roots.ensures ∙ ap (λ (q : Program). record { left = first_roots q number; later = later_roots q number }) c.program.ensures.program)
    (c.start_phase-phase.ensures ∙ ap (λ (x : RootLists). start_phase number x.left) (sym same))
