-- What is said of a refusal: the names are those of its place in the class that the file spells.
use Rattle.std.specs.Prelude.{◌≡◌, ℕ, ◌==◌, bytes_eq, Bool, ◌&&◌, List, [], ◌∷◌, ◌++◌, drop, map}
use Rattle.std.specs.Prelude.{codes}
use Rattle.std.specs.Prelude.{slice_get, Option, Some, None, if◌then◌else◌}
use Rattle.std.specs.List.{AllZip}
use Rattle.std.specs.Option.{option_and_then, unwrap_or}
use Rattle.json_lines.specs.declared.form.Form.{Form}
use Rattle.jvm_types.specs.ClassGrammar.{Spells}
use Rattle.jvm_types.specs.ClassNames.{class_name, text_at}
use Rattle.jvm_types.specs.Linked.{code_of}
use Rattle.jvm_types.specs.declared.class_file.ClassFile.{ClassFile}
use Rattle.jvm_types.specs.declared.class_file.Constant.{Constant}
use Rattle.jvm_types.specs.declared.class_file.Member.{Member}
use Rattle.jvm_types.specs.declared.refusal.KRule.TheVariants.{K1}
use Rattle.jvm_types.specs.declared.refusal.LRule.TheVariants.{L1, L4}
use Rattle.jvm_types.specs.declared.refusal.Rule.{Rule}
use Rattle.jvm_types.specs.declared.refusal.Rule.TheVariants as rules
use Rattle.jvm_types.specs.declared.refusal.Place.{Place}
use Rattle.jvm_types.specs.declared.refusal.TheConstants.{NO_METHOD}
use Rattle.run_texts.specs.Refusal.{refusal_words, rule_text}
use Rattle.tellings.specs.Forms.{told_in}
use Rattle.refusal_places.specs.Naming.{class_facts}
use Rattle.refusal_places.specs.OpcodeMends.{opcode_mend}
use Rattle.refusal_places.specs.Roots.{wrong_root_from}
use Rattle.refusal_places.specs.Sentences.{instead, means}
use Rattle.refusal_places.specs.Spots.{spot}
use Rattle.refusal_places.specs.declared.explaining.Told.{Told}
use Rattle.tellings.specs.declared.facts.Fact.{Fact}
use Rattle.tellings.specs.declared.facts.Fact.TheVariants.{Words, Text, Count}
use Rattle.tellings.specs.declared.keys.Key.TheVariants as keys
use Rattle.refusal_places.specs.declared.roots.Root.{Root}
use Rattle.refusal_places.specs.declared.spots.Spot.{Spot}
use Rattle.refusal_places.specs.declared.spots.Spot.TheVariants.{Offset, Method, Instruction, Use}

-- ---- the classes

-- the bytes of a file spell the class; None: they spell none
abbrev pub IsClassSpelled : List ℕ → Option ClassFile → Type 0
IsClassSpelled bytes (Some class) = Spells bytes class
IsClassSpelled bytes None = (class : ClassFile) → ¬ Spells bytes class

-- the name of the class of each file, empty where it spells none
abbrev pub spelled_name : Option ClassFile → List ℕ
spelled_name None = []
spelled_name (Some class) = class_name class

abbrev pub spelled_names : List (Option ClassFile) → List (List ℕ)
spelled_names found = map spelled_name found

-- the class of a file by its number
abbrev pub class_among : List (Option ClassFile) → (file : ℕ) → Option ClassFile
class_among found file = option_and_then (λ class. class) (slice_get found file)

-- ---- what is told of

-- L4 stands at the first file; where a method to begin with is a wrong one, it is told of that
abbrev pub told_root : Place → Option Root → Told
told_root place None = record { file = place.file; spot = spot (rules.L L4) place }
told_root place (Some root) = record { file = root.file; spot = Method root.method }

abbrev pub told_of : Rule → Place → List (Option ClassFile) → Told
told_of (rules.L L4) place found = told_root place (wrong_root_from 0 found)
told_of rule place found = record { file = place.file; spot = spot rule place }

-- of a file that spells no class there is the offset alone
abbrev pub offset_facts : Spot → List Fact
offset_facts (Offset at) = Count keys.Offset at ∷ []
offset_facts s = []

abbrev pub found_facts : (names : List (List ℕ)) → Option ClassFile → Spot → List Fact
found_facts names None s = offset_facts s
found_facts names (Some class) s = class_facts names class s

-- ---- what to write instead

-- of an instruction that K1 refuses its mend
abbrev pub mend_of : (code : List ℕ) → List ℕ
mend_of [] = instead (rules.K K1)
mend_of (opcode ∷ rest) = opcode_mend opcode

abbrev pub mend_in : (pc : ℕ) → Option Member → List ℕ
mend_in pc None = instead (rules.K K1)
mend_in pc (Some m) = mend_of (drop pc (code_of m.attrs).bytes)

-- the method that other machines begin with
abbrev pub is_main : List Constant → Member → Bool
is_main pool m =
    bytes_eq (text_at pool m.name) (codes "main")
    && bytes_eq (text_at pool m.descriptor) (codes "([Ljava/lang/String;)V")

abbrev pub main_mend : List Constant → Option Member → List ℕ
main_mend pool None = instead (rules.L L1)
main_mend pool (Some m) =
    if is_main pool m then codes "public static void init(), without arguments"
    else instead (rules.L L1)

abbrev pub instead_in : Rule → Spot → Option ClassFile → List ℕ
instead_in (rules.K K1) (Instruction method pc) (Some class) =
    mend_in pc (slice_get class.methods method)
instead_in (rules.L L1) (Use method pc) (Some class) =
    main_mend class.constants (slice_get class.methods method)
instead_in rule s found = instead rule

-- ---- the whole

-- the line of the refusal; an object has its rule and the numbers of its place
unfoldable pub method_number_facts : ℕ → List Fact
method_number_facts method =
    if method == NO_METHOD then [] else Count keys.MethodNumber method ∷ []

abbrev pub refusal_facts : Rule → Place → List Fact
refusal_facts rule place =
    Words (refusal_words rule place) ∷ Text keys.Rule (rule_text rule)
    ∷ Count keys.FileNumber place.file
    ∷ method_number_facts place.method ++ Count keys.At place.at ∷ []

-- a file by its name and what there is told of, the rule in a sentence, and what to write instead
abbrev pub told_facts : Rule → (name : List ℕ) → (names : List (List ℕ)) → Option ClassFile → Spot
    → List Fact
told_facts rule name names class s =
    Text keys.File name ∷ found_facts names class s ++ Text keys.Means (means rule)
    ∷ Text keys.Instead (instead_in rule s class) ∷ []

abbrev pub facts_of : Rule → (files : List (List ℕ)) → List (Option ClassFile) → Told → List Fact
facts_of rule files found told =
    told_facts rule (unwrap_or (slice_get files told.file) []) (spelled_names found)
    (class_among found told.file) told.spot

-- The text tells this of the refusal, of files with these names, in the classes that their contents
-- spell. No contents: a file was too long to be read.
pub record Explains (form : Form) (rule : Rule) (place : Place) (files : List (List ℕ))
    (contents : List (List ℕ)) (text : List ℕ) : Type 0 where
  pub found : List (Option ClassFile)
  pub are : AllZip IsClassSpelled contents found
  pub told : text
      ≡ told_in form (codes "refusal")
      (refusal_facts rule place ++ facts_of rule files found (told_of rule place found))
