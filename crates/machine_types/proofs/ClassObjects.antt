-- The class of each file is an object at the start of a run.
use Rattle.std.{proofs.{Common.{◌≡◌, ℕ, zero, suc, ◌+◌, ◌*◌, ◌<◌, List, [], ◌∷◌, length, ap, arith, Contains}, lemmas.List.Elements.Contains-append_right}, specs.List.range_with_len}
use Rattle.jvm_types.specs.{ClassNames.file_class, ProgramInvariant.words_of, declared.{class_numbers.TheConstants.CLASS_ITSELF, fixed_words.TheConstants.{FIRST_CLASS_WORD, OBJECT_HEAD_WORDS}}}
use Rattle.jvm_types.specs.declared.program.{FieldInfo.FieldInfo, Program.Program}
use Rattle.checked_program.specs.CodeIndex.{statics_below}
use Rattle.machine_types.specs.{PlainMemory.{Object, class_objects}, StartLaws.ClassObjectsStand, StartWords.{statics_of, classes_of}, Words.class_object}
use Rattle.machine_types.proofs.PlacesAtStart.{below_at_most, none_below, one_class_more, class_from, ready_objects}

abbrev pub at_reference : (reference : ℕ) → Object
at_reference reference = record { reference = reference; class = CLASS_ITSELF; values = [] }

-- the class with a number, among those from a class on whose words begin at a reference
class_there : (fields : List FieldInfo) (count class reference number d : ℕ) → number < count → reference + 2 * number + statics_below (class + number) fields ≡ d + statics_below class fields
    → Contains (class_objects fields reference (range_with_len class count)) (at_reference d)
class_there fields zero class reference number d few e = absurd (omega (arith, few))
class_there fields (suc count) class reference zero d few e =
    let at : statics_below (class + 0) fields ≡ statics_below class fields = ap (λ (c : ℕ). statics_below c fields) (omega arith) in
    let same : reference ≡ d = omega (arith, e, at) in
    (0, omega arith, ap at_reference same)
class_there fields (suc count) class reference (suc number) d few e =
    let next : ℕ = reference + OBJECT_HEAD_WORDS + length (statics_of fields class) in
    let at : statics_below ((class + 1) + number) fields ≡ statics_below (class + suc number) fields = ap (λ (c : ℕ). statics_below c fields) (omega arith) in
    Contains-append_right (at_reference reference ∷ []) (class_objects fields next (range_with_len (class + 1) count)) (at_reference d)
    (class_there fields count (class + 1) next number d (omega (arith, few)) (omega (arith, e, at, one_class_more class fields)))

-- it is one of the words that the program takes
pub class_object_below : (p : Program) (file : ℕ) → file < length p.names → class_object p file < words_of p
class_object_below p file few = omega (arith, few, below_at_most (file_class file) p.fields)

pub class_objects_stand : ClassObjectsStand
class_objects_stand p file is few =
    let before : statics_below (file_class 0) p.fields ≡ 0 = none_below (file_class 0) p.fields (class_from p is) in
    Contains-append_right ready_objects (class_objects p.fields FIRST_CLASS_WORD (classes_of p)) (at_reference (class_object p file))
    (class_there p.fields (length p.names) (file_class 0) FIRST_CLASS_WORD file (class_object p file) few (omega (arith, before)))
