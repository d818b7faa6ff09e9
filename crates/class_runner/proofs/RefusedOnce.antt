-- One rule refuses some files, at one place.
use Rattle.std.{proofs.Common.{◌≡◌, ℕ, inl, inr, List, [], ◌∷◌, Option, Some, None, refl, sym, subst, ap, ◌∙◌}, specs.List.AllZip}
use Rattle.std.proofs.lemmas.Option.{none-some}
use Rattle.jvm_types.specs.{ClassGrammar.Spells, LinkFaults.{LinkFault, link_fault, in_file, in_method, IsLinked}, Members.{Declared, declared_methods}, Verifying.{IsTypingOf, IsRefused}}
use Rattle.jvm_types.specs.declared.{class_file.ClassFile.ClassFile, code.Insn.Insn, program.{MethodInfo.MethodInfo, Program.Program}, refusal.{CRule.CRule, KRule.KRule, LRule.LRule, Place.Place}}
use Rattle.jvm_types.specs.declared.refusal.{Rule.{Rule, TheVariants.{C, K, L, V, S, A}}, SRule.SRule, VRule.VRule}
use Rattle.laws_programs.proofs.OneTyping.{no_refusal, one_refusal}
use Rattle.checked_program.specs.{CheckedProgram.AreTypings, Tagging.{IsTaggingOf, IsTagRefused}}
use Rattle.laws_sections.proofs.TagAnswers.{no_refusal as no_tag_refusal, one_refusal_all}
use Rattle.class_runner.specs.Loading.{AreRead, IsFirstRefused, IsFirstUntyped, IsFirstUntagged, IsUnlinked, IsUntyped, IsUntagged, IsRefusedBy, read_fault, decode_fault}
use Rattle.class_runner.{specs.LoadingLaws.FilesHaveOneRefusal, proofs.LoadedOnce.{classes_once, read_once, same_program, no_read_fault, no_decode_fault, none_untyped}}

abbrev Same : Rule → Rule → Place → Place → Type 0
Same rule other place at = (rule ≡ other) × (place ≡ at)

abbrev fault : Rule → Place → Rule × Place
fault rule place = (rule, place)

abbrev link_fault_of : LRule → Place → LinkFault
link_fault_of rule place = (rule, place)

same_fault : (o : Option (Rule × Place)) (rule other : Rule) (place at : Place) → o ≡ Some (rule, place) → o ≡ Some (other, at) → Same rule other place at
same_fault o rule other place at e f =
    let both : fault rule place ≡ fault other at = cc in
    (ap (λ x. x.0) both, ap (λ x. x.1) both)

same_link_fault : (o : Option LinkFault) (rule other : LRule) (place at : Place) → o ≡ Some (rule, place) → o ≡ Some (other, at) → Same (L rule) (L other) place at
same_link_fault o rule other place at e f =
    let both : link_fault_of rule place ≡ link_fault_of other at = cc in
    (ap (λ x. L x.0) both, ap (λ x. x.1) both)

-- ---- what is refused later was let pass by the stages before

-- files that are linked or refused in linking were read
pub record WereRead (files : List (List ℕ)) : Type 0 where
  pub classes : List ClassFile
  pub code : List (List Insn)
  pub read : AreRead files classes code

read_at_l : (files : List (List ℕ)) (heap workers : ℕ) (rule : LRule) (place : Place) → IsUnlinked files heap workers rule place → WereRead files
read_at_l files heap workers rule place u = record { classes = u.classes; code = u.code; read = u.read }

read_at_v : (files : List (List ℕ)) (heap workers : ℕ) (rule : VRule) (place : Place) → IsRefusedBy files heap workers (V rule) place → WereRead files
read_at_v files heap workers rule place u = record { classes = u.classes; code = u.code; read = u.read }

read_at_s : (files : List (List ℕ)) (heap workers : ℕ) (rule : SRule) (place : Place) → IsRefusedBy files heap workers (S rule) place → WereRead files
read_at_s files heap workers rule place u = record { classes = u.classes; code = u.code; read = u.read }

never_c : (files classes : _) (rule : CRule) (place : Place) → AllZip Spells files classes → read_fault 0 files ≡ Some (C rule, place) → ⊥
never_c files classes rule place spelled r = none-some (C rule, place) (sym (no_read_fault 0 files classes spelled) ∙ r)

never_k : (files : List (List ℕ)) (heap workers : ℕ) (rule : KRule) (place : Place) → WereRead files → IsRefusedBy files heap workers (K rule) place → ⊥
never_k files heap workers rule place w (classes, spelled, found) =
    let same : w.classes ≡ classes = classes_once files w.classes classes w.read.spelled spelled in
    none-some (K rule, place) (sym (no_decode_fault (declared_methods w.classes) w.code w.read.decoded) ∙ ap (λ (cs : List ClassFile). decode_fault (declared_methods cs)) same ∙ found)

-- files that are linked are not refused in linking
never_unlinked : (files : List (List ℕ)) (heap workers : ℕ) (rule : LRule) (place : Place) (cs : List ClassFile) (code : List (List Insn)) (p : Program) → AreRead files cs code → IsLinked cs code heap workers p → IsUnlinked files heap workers rule place → ⊥
never_unlinked files heap workers rule place cs code p read linked u =
    let same = read_once files cs u.classes code u.code read u.read in
    none-some (rule, place) (sym linked.unrefused ∙ (λ i. link_fault (same.0 i) (same.1 i) heap workers) ∙ u.fault)

never_v : (files : List (List ℕ)) (heap workers : ℕ) (rule : LRule) (other : VRule) (place at : Place) → IsUnlinked files heap workers rule place → IsUntyped files heap workers other at → ⊥
never_v files heap workers rule other place at unlinked u = never_unlinked files heap workers rule place u.classes u.code u.program u.read u.linked unlinked

never_s : (files : List (List ℕ)) (heap workers : ℕ) (rule : LRule) (other : SRule) (place at : Place) → IsUnlinked files heap workers rule place → IsUntagged files heap workers other at → ⊥
never_s files heap workers rule other place at unlinked u = never_unlinked files heap workers rule place u.classes u.code u.program u.read u.linked unlinked

-- files of which a method is refused by its tags have typings
never_both_checks : (files : List (List ℕ)) (heap workers : ℕ) (rule : VRule) (other : SRule) (place at : Place) → IsUntyped files heap workers rule place → IsUntagged files heap workers other at → ⊥
never_both_checks files heap workers rule other place at u w =
    let same = read_once files w.classes u.classes w.code u.code w.read u.read in
    let program : w.program ≡ u.program = same_program w.classes u.classes w.code u.code heap workers w.program u.program same.0 same.1 w.linked u.linked in
    none_untyped u.program (declared_methods u.classes) u.program.methods w.typings rule place (subst (λ (p : Program). AreTypings p p.methods w.typings) program w.typed) u.first

-- ---- each stage refuses once

once_k : (files : List (List ℕ)) (heap workers : ℕ) (rule other : KRule) (place at : Place) → IsRefusedBy files heap workers (K rule) place → IsRefusedBy files heap workers (K other) at → Same (K rule) (K other) place at
once_k files heap workers rule other place at (cs, spelled, here) (ds, spells, there) =
    let same : cs ≡ ds = classes_once files cs ds spelled spells in
    same_fault (decode_fault (declared_methods cs)) (K rule) (K other) place at here (ap (λ (xs : List ClassFile). decode_fault (declared_methods xs)) same ∙ there)

once_l : (files : List (List ℕ)) (heap workers : ℕ) (rule other : LRule) (place at : Place) → IsUnlinked files heap workers rule place → IsUnlinked files heap workers other at → Same (L rule) (L other) place at
once_l files heap workers rule other place at u w =
    let same = read_once files u.classes w.classes u.code w.code u.read w.read in
    same_link_fault (link_fault u.classes u.code heap workers) rule other place at u.fault ((λ i. link_fault (same.0 i) (same.1 i) heap workers) ∙ w.fault)

-- the first method that a check refuses is one
first_once : {T R : Type 0} (has : MethodInfo → T → Type 0) (refuses : MethodInfo → R → ℕ → Type 0) → ((m : MethodInfo) (t : T) (rule : R) (pc : ℕ) → has m t → refuses m rule pc → ⊥)
    → ((m : MethodInfo) (rule other : R) (pc at : ℕ) → refuses m rule pc → refuses m other at → (rule ≡ other) × (pc ≡ at)) → (ds : List Declared) (ms : List MethodInfo) (rule other : R) (place at : Place)
    → IsFirstRefused has refuses rule ds ms place → IsFirstRefused has refuses other ds ms at → (rule ≡ other) × (place ≡ at)
first_once has refuses never one [] ms rule other place at h k = absurd h
first_once has refuses never one (d ∷ ds) [] rule other place at h k = absurd h
first_once has refuses never one (d ∷ ds) (m ∷ ms) rule other place at h k = elim h [
  | inl refused ↦ elim k [
    | inl again ↦
        let same = one m rule other place.at at.at refused.0 again.0 in
        (same.0, refused.1 ∙ ap (in_method d.file d.place) same.1 ∙ sym again.1)
    | inr (t, passed, later) ↦ absurd (never m t rule place.at passed refused.0)
  ]
  | inr (t, passed, later) ↦ elim k [
    | inl again ↦ absurd (never m t other at.at passed again.0)
    | inr (u, also, after) ↦ first_once has refuses never one ds ms rule other place at later after
  ]
]

once_v : (files : List (List ℕ)) (heap workers : ℕ) (rule other : VRule) (place at : Place) → IsUntyped files heap workers rule place → IsUntyped files heap workers other at → Same (V rule) (V other) place at
once_v files heap workers rule other place at u w =
    let same = read_once files w.classes u.classes w.code u.code w.read u.read in
    let program : w.program ≡ u.program = same_program w.classes u.classes w.code u.code heap workers w.program u.program same.0 same.1 w.linked u.linked in
    let first = subst (λ (p : Program). IsFirstUntyped p (declared_methods u.classes) p.methods other at) program (subst (λ (cs : List ClassFile). IsFirstUntyped w.program (declared_methods cs) w.program.methods other at) same.0 w.first) in
    let one = first_once (IsTypingOf u.program) (IsRefused u.program) (λ m t r pc x y. no_refusal u.program m t.frames r pc x y) (one_refusal u.program) (declared_methods u.classes) u.program.methods rule other place at u.first first in
    (ap V one.0, one.1)

once_s : (files : List (List ℕ)) (heap workers : ℕ) (rule other : SRule) (place at : Place) → IsUntagged files heap workers rule place → IsUntagged files heap workers other at → Same (S rule) (S other) place at
once_s files heap workers rule other place at u w =
    let same = read_once files w.classes u.classes w.code u.code w.read u.read in
    let program : w.program ≡ u.program = same_program w.classes u.classes w.code u.code heap workers w.program u.program same.0 same.1 w.linked u.linked in
    let first = subst (λ (p : Program). IsFirstUntagged p (declared_methods u.classes) p.methods other at) program (subst (λ (cs : List ClassFile). IsFirstUntagged w.program (declared_methods cs) w.program.methods other at) same.0 w.first) in
    let one = first_once (IsTaggingOf u.program) (IsTagRefused u.program) (λ m t r pc x y. no_tag_refusal u.program m t.frames r pc x y) (one_refusal_all u.program) (declared_methods u.classes) u.program.methods rule other place at u.first first in
    (ap S one.0, one.1)

-- ---- the whole

pub refused_once : FilesHaveOneRefusal
refused_once files heap workers (C rule) (C other) place at r s = same_fault (read_fault 0 files) (C rule) (C other) place at r s
refused_once files heap workers (C rule) (K other) place at r s = absurd (never_c files s.0 rule place s.1 r)
refused_once files heap workers (C rule) (L other) place at r s = let w = read_at_l files heap workers other at s in absurd (never_c files w.classes rule place w.read.spelled r)
refused_once files heap workers (C rule) (V other) place at r s = absurd (never_c files s.classes rule place s.read.spelled r)
refused_once files heap workers (K rule) (C other) place at r s = absurd (never_c files r.0 other at r.1 s)
refused_once files heap workers (K rule) (K other) place at r s = once_k files heap workers rule other place at r s
refused_once files heap workers (K rule) (L other) place at r s = absurd (never_k files heap workers rule place (read_at_l files heap workers other at s) r)
refused_once files heap workers (K rule) (V other) place at r s = absurd (never_k files heap workers rule place (read_at_v files heap workers other at s) r)
refused_once files heap workers (L rule) (C other) place at r s = let w = read_at_l files heap workers rule place r in absurd (never_c files w.classes other at w.read.spelled s)
refused_once files heap workers (L rule) (K other) place at r s = absurd (never_k files heap workers other at (read_at_l files heap workers rule place r) s)
refused_once files heap workers (L rule) (L other) place at r s = once_l files heap workers rule other place at r s
refused_once files heap workers (L rule) (V other) place at r s = absurd (never_v files heap workers rule other place at r s)
refused_once files heap workers (V rule) (C other) place at r s = absurd (never_c files r.classes other at r.read.spelled s)
refused_once files heap workers (V rule) (K other) place at r s = absurd (never_k files heap workers other at (read_at_v files heap workers rule place r) s)
refused_once files heap workers (V rule) (L other) place at r s = absurd (never_v files heap workers other rule at place s r)
refused_once files heap workers (V rule) (V other) place at r s = once_v files heap workers rule other place at r s
refused_once files heap workers (C rule) (S other) place at r s = absurd (never_c files s.classes rule place s.read.spelled r)
refused_once files heap workers (K rule) (S other) place at r s = absurd (never_k files heap workers rule place (read_at_s files heap workers other at s) r)
refused_once files heap workers (L rule) (S other) place at r s = absurd (never_s files heap workers rule other place at r s)
refused_once files heap workers (V rule) (S other) place at r s = absurd (never_both_checks files heap workers rule other place at r s)
refused_once files heap workers (S rule) (C other) place at r s = absurd (never_c files r.classes other at r.read.spelled s)
refused_once files heap workers (S rule) (K other) place at r s = absurd (never_k files heap workers other at (read_at_s files heap workers rule place r) s)
refused_once files heap workers (S rule) (L other) place at r s = absurd (never_s files heap workers other rule at place s r)
refused_once files heap workers (S rule) (V other) place at r s = absurd (never_both_checks files heap workers other rule at place s r)
refused_once files heap workers (S rule) (S other) place at r s = once_s files heap workers rule other place at r s
refused_once files heap workers (C rule) (A other) place at r s = absurd s
refused_once files heap workers (K rule) (A other) place at r s = absurd s
refused_once files heap workers (L rule) (A other) place at r s = absurd s
refused_once files heap workers (V rule) (A other) place at r s = absurd s
refused_once files heap workers (S rule) (A other) place at r s = absurd s
refused_once files heap workers (A rule) other place at r s = absurd r
