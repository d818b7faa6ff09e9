-- Of no field anything was found yet.
use Rattle.std.proofs.Common.{◌≡◌, ℕ, zero, suc, ◌∙◌, sym, ap, length, List, Option, Some, None, slice_get, replicate}
use Rattle.std.proofs.lemmas.List.{length-replicate}
use Rattle.jvm_types.specs.declared.program.Program.{Program}
use Rattle.checked_program.specs.TaggedCode.{Tagged}
use Rattle.mark_reasons.specs.{Causes.IsCauseMemo, declared.{cause.Cause.Cause, cause_memo.CauseMemo.CauseMemo}}

none_found : (n fi : ℕ) (cause : Cause) (xs : List (Option Cause)) → xs ≡ replicate n None → slice_get xs fi ≡ Some (Some cause) → ⊥
none_found n fi cause xs e h = by_number n fi (sym (ap (λ (ys : List (Option Cause)). slice_get ys fi) e) ∙ h)
  where
    by_number : (n fi : ℕ) → slice_get (replicate n None) fi ≡ Some (Some cause) → ⊥
    by_number zero fi h = cc
    by_number (suc n) zero h = cc
    by_number (suc n) (suc fi) h = by_number n fi h

pub nothing_found : (p : Program) (tags : Tagged) (memo : CauseMemo) (n : ℕ) → n ≡ length p.fields → memo.arrays.causes.items ≡ replicate n None → memo.fields.causes.items ≡ replicate n None → IsCauseMemo p tags memo
nothing_found p tags memo n long a f = record {
  arrays = record { long = ap length a ∙ length-replicate n None ∙ long; each = λ fi cause h. absurd (none_found n fi cause memo.arrays.causes.items a h) };
  fields = record { long = ap length f ∙ length-replicate n None ∙ long; each = λ fi cause h. absurd (none_found n fi cause memo.fields.causes.items f h) };
}
