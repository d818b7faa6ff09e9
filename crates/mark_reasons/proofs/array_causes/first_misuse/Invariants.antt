use Rattle.std.proofs.Common.{ℕ, ◌<◌, None}
use Rattle.checked_program.specs.TaggedCode.{tagged_by}
use Rattle.mark_reasons.specs.ArrayCauses.{IsMisuseIn}
use Rattle.mark_reasons.proofs.array_causes.first_misuse.Given as goal

abbrev pub invariant-loop-method : goal.invariant-loop-method
invariant-loop-method l =
    (u : ℕ) → u < l.method → IsMisuseIn l.p (tagged_by l.tags) l.class l.field u None
