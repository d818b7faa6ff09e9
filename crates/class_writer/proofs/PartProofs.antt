-- Writing a Code attribute, whose body was written by itself.
use Rattle.std.proofs.Common.{◌≡◌, ◌<◌, ◌^◌, ℕ, List, ◌++◌, length, Result, Ok, Err, ◌∙◌, subst, append_assoc}
use Rattle.jvm_types.specs.{Counts.CodeFits, Numbers.{u2, u4}, Spelling.{code_body, member_attr}, declared.class_file.Code.Code}
use Rattle.class_writer.specs.{Writing.{Writes, CodePartsFit}, declared.error.WriteError.{WriteError, TheVariants.{Memory, TooLarge, NoSpelling}}}
use Rattle.jvm_types.specs.declared.class_file.MemberAttr.TheVariants as member_attrs

-- the body that was written by itself is the body of the attribute
written_whole : {A : Type 0} (c : Code) (old mid new : List ℕ) (r : Result A WriteError) → CodePartsFit c → mid ≡ old ++ u2 c.name
    → Writes (length (code_body c) < 2 ^ 32) (length (code_body c) < 2 ^ 32) (u4 (length (code_body c)) ++ code_body c) mid new r → Writes (CodeFits c) (CodeFits c) (member_attr (member_attrs.Code c)) old new r
written_whole c old mid new (Ok u) parts at w = (
  record { body = w.0; bytes = parts.bytes; rows = parts.rows; attrs = parts.attrs },
  subst (λ (x : List ℕ). new ≡ x ++ (u4 (length (code_body c)) ++ code_body c)) at w.1 ∙ append_assoc old (u2 c.name) (u4 (length (code_body c)) ++ code_body c),
)
written_whole c old mid new (Err Memory) parts at w = tt
written_whole c old mid new (Err TooLarge) parts at w = λ fits. w fits.body
written_whole c old mid new (Err NoSpelling) parts at w = w

pub code_writes : {A : Type 0} (c : Code) (body old mid new : List ℕ) (r : Result A WriteError) → CodePartsFit c → body ≡ code_body c → mid ≡ old ++ u2 c.name
    → Writes (length body < 2 ^ 32) (length body < 2 ^ 32) (u4 (length body) ++ body) mid new r → Writes (CodeFits c) (CodeFits c) (member_attr (member_attrs.Code c)) old new r
code_writes c body old mid new r parts is at w =
    written_whole c old mid new r parts at (subst (λ (x : List ℕ). Writes (length x < 2 ^ 32) (length x < 2 ^ 32) (u4 (length x) ++ x) mid new r) is w)
