-- Objects and static fields at the start.
use Rattle.std.{proofs.Common.{◌≡◌, ℕ, suc, ◌+◌, ◌-◌, ◌<◌, List, [], ◌∷◌, ◌++◌, length, ap, ◌∙◌, append_assoc, arith}, specs.List.range_with_len}
use Rattle.jvm_types.specs.declared.{class_numbers.TheConstants.CLASS_ITSELF, fixed_words.TheConstants.OBJECT_HEAD_WORDS, outcome.Thrown.Thrown, program.FieldInfo.FieldInfo}
use Rattle.machine_types.{specs.{PlainMemory.{Object, class_objects}, ReadyObjects.{class_of, ready}, StartWords.statics_of}, proofs.ClassObjects.at_reference}

abbrev pub ready_object : Thrown → Object
ready_object x = record { reference = ready x; class = class_of x; values = [] }

range_step : (first i count : ℕ) → i < count → range_with_len (first + i) (count - i) ≡ (first + i) ∷ range_with_len (first + (i + 1)) (count - (i + 1))
range_step first i count l =
    let more : count - i ≡ suc (count - (i + 1)) = omega (arith, l) in
    let next : (first + i) + 1 ≡ first + (i + 1) = omega arith in
    ap (range_with_len (first + i)) more ∙ ap (λ (k : ℕ). (first + i) ∷ range_with_len k (count - (i + 1))) next

-- one class more
pub classes_step : (fields : List FieldInfo) (before : List Object) (reference first i count : ℕ) → i < count
    → (before ++ at_reference reference ∷ []) ++ class_objects fields (reference + (OBJECT_HEAD_WORDS + length (statics_of fields (first + i)))) (range_with_len (first + (i + 1)) (count - (i + 1)))
    ≡ before ++ class_objects fields reference (range_with_len (first + i) (count - i))
classes_step fields before reference first i count l =
    let n = length (statics_of fields (first + i)) in
    let next : reference + (OBJECT_HEAD_WORDS + n) ≡ reference + OBJECT_HEAD_WORDS + n = omega arith in
    rw (range_step first i count l, next) (append_assoc before (at_reference reference ∷ []) _)
