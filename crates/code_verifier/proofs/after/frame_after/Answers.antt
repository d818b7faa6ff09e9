use Rattle.std.proofs.Common.{◌≡◌, ap, ◌∙◌}
use Rattle.jvm_types.specs.Verifying.{started}
use Rattle.code_verifier.proofs.StartedLaws.{object_known}
use Rattle.code_verifier.proofs.after.frame_after.Goals as goal

pub start_object-ready-requires : goal.start_object-ready-requires
start_object-ready-requires c =
    let object : c.started-object.result ≡ started c.args.m.now.class c.args.row.now.takes c.args.f.now.stack = c.started-object.ensures
    ∙ ap (λ l. started c.args.m.now.class l c.stack.result.now) c.as_slice.ensures ∙ ap (λ l. started c.args.m.now.class c.args.row.now.takes l) c.stack.ensures in
    rw object (object_known c.args.m.now c.args.row.now c.args.f.now c.requires)
