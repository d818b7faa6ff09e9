-- Some files are loaded to one program, and no such files are refused.
use Rattle.std.proofs.Common.{◌≡◌, ℕ, suc, ◌+◌, inl, inr, List, [], ◌∷◌, length, Some, None, Result, Ok, Err, IfOk, IfErr, refl, sym, subst, ap, ◌∙◌}
use Rattle.std.{specs.List.{AllZip, AllByRecursion, zip}, proofs.lemmas.Slice.Zip.AllZip-long}
use Rattle.std.proofs.lemmas.Option.{none-some}
use Rattle.jvm_types.specs.{ClassGrammar.{IsClass, Spells}, LinkFaults.{LinkFault, link_fault, IsLinked}, Linkable.IsDecoded, Linked.{code_of, scope_of, linked_methods, program_of}}
use Rattle.jvm_types.specs.{Members.{Declared, declared_methods}, ReadingClass.{fault_of, class_fault}, Targets.Scope, Verifying.{IsTypingOf, IsRefused}, declared.class_file.ClassFile.ClassFile}
use Rattle.jvm_types.specs.declared.{code.Insn.Insn, program.{MethodInfo.MethodInfo, Program.Program}, refusal.{Place.Place, Rule.TheVariants.{C, K, L, V, S, A}, SRule.SRule, VRule.VRule}}
use Rattle.jvm_types.{specs.declared.typing.Typing.Typing, proofs.{ClassLawProofs.one_class, ClassReads.read_again, CodeLaws.faultless, CodeOnce.once}}
use Rattle.laws_programs.proofs.OneTyping.{one_typing, no_refusal}
use Rattle.checked_program.specs.{CheckedProgram.AreTypings, MarkedProgram.{MarkedProgram, AreTaggings}, Marks.AreMarks, TaggedCode.tagged_by, Tagging.{IsTaggingOf, IsTagRefused}}
use Rattle.checked_program.specs.declared.{section.SectionMark.SectionMark, tag.Tags.Tags}
use Rattle.laws_sections.proofs.{OneMarks.one_mark, TagAnswers.{no_refusal as no_tag_refusal}}
use Rattle.monitor_tags.proofs.OneAnswer.{one_of}
use Rattle.class_runner.specs.Loading.{AreRead, IsLoaded, IsAccepted, IsFirstRefused, IsFirstUntyped, IsFirstUntagged, IsUntyped, IsUntagged, IsNotLoaded, read_fault, decode_fault}
use Rattle.class_runner.specs.{LoadingLaws.{LoadedAccepted, AcceptedNotRefused}, Stages.IsLinkedFrom, declared.loading.FileError.{FileError, TheVariants.{Memory, Refused}}}

-- ---- each stage answers one thing

each_once : {A B : Type 0} (R : A → B → Type 0) → ((x : A) (y z : B) → R x y → R x z → y ≡ z) → (xs : List A) (ys zs : List B) → AllZip R xs ys → AllZip R xs zs → ys ≡ zs
each_once R one [] [] [] h k = refl
each_once R one [] [] (z ∷ zs) h k = absurd k
each_once R one [] (y ∷ ys) zs h k = absurd h
each_once R one (x ∷ xs) [] zs h k = absurd h
each_once R one (x ∷ xs) (y ∷ ys) [] h k = absurd k
each_once R one (x ∷ xs) (y ∷ ys) (z ∷ zs) h k = λ i. one x y z h.0 k.0 i ∷ each_once R one xs ys zs h.1 k.1 i

pub classes_once : (files : List (List ℕ)) (cs ds : List ClassFile) → AllZip Spells files cs → AllZip Spells files ds → cs ≡ ds
classes_once files cs ds h k = each_once Spells one_class files cs ds h k

code_once : (ds : List Declared) (code others : List (List Insn)) → AllZip IsDecoded ds code → AllZip IsDecoded ds others → code ≡ others
code_once ds code others h k = each_once IsDecoded (λ d i j p q. once (code_of d.member.attrs).bytes (code_of d.member.attrs).rows (code_of d.member.attrs).rows i j p q) ds code others h k

-- frames are all that a typing has, and all that tags have
same_typing : (p : Program) (m : MethodInfo) (t u : Typing) → IsTypingOf p m t → IsTypingOf p m u → t ≡ u
same_typing p m t u h k =
    let frames : t.frames ≡ u.frames = one_typing p m t.frames u.frames h k in
    λ i. record { frames = frames i }

typings_once : (p : Program) (ms : List MethodInfo) (ts us : List Typing) → AreTypings p ms ts → AreTypings p ms us → ts ≡ us
typings_once p ms ts us h k = each_once (IsTypingOf p) (same_typing p) ms ts us h k

tags_once : (p : Program) (ms : List MethodInfo) (ts us : List Tags) → AreTaggings p ms ts → AreTaggings p ms us → ts ≡ us
tags_once p ms ts us h k = each_once (IsTaggingOf p) (one_of p) ms ts us h k

-- ---- the same files are loaded to the same

-- two ways to read them are one
pub read_once : (files : List (List ℕ)) (cs ds : List ClassFile) (code others : List (List Insn)) → AreRead files cs code → AreRead files ds others → (cs ≡ ds) × (code ≡ others)
read_once files cs ds code others a b =
    let same : ds ≡ cs = classes_once files ds cs b.spelled a.spelled in
    (sym same, code_once (declared_methods cs) code others a.decoded (subst (λ (xs : List ClassFile). AllZip IsDecoded (declared_methods xs) others) same b.decoded))

pub same_program : (cs ds : List ClassFile) (code others : List (List Insn)) (heap workers : ℕ) (p q : Program) → cs ≡ ds → code ≡ others → IsLinked cs code heap workers p → IsLinked ds others heap workers q → p ≡ q
same_program cs ds code others heap workers p q e f a b = a.is ∙ (λ i. program_of (e i) (f i) heap workers) ∙ sym b.is

abbrev marked : Program → List Typing → List Tags → List SectionMark → MarkedProgram
marked p ts gs ms = record { program = p; typings = ts; tags = gs; marks = ms }

-- two checks of one program
same_checked : (p : Program) (ts us : List Typing) (gs hs : List Tags) (ms ns : List SectionMark) → AreTypings p p.methods ts → AreTypings p p.methods us → AreTaggings p p.methods gs → AreTaggings p p.methods hs
    → AreMarks p (tagged_by gs) ms → AreMarks p (tagged_by hs) ns → marked p ts gs ms ≡ marked p us hs ns
same_checked p ts us gs hs ms ns t u g h m n =
    let typings : ts ≡ us = typings_once p p.methods ts us t u in
    let tags : gs ≡ hs = tags_once p p.methods gs hs g h in
    let marks : ms ≡ ns = one_mark p (tagged_by gs) ms ns m (subst (λ (x : List Tags). AreMarks p (tagged_by x) ns) (sym tags) n) in
    λ i. marked p (typings i) (tags i) (marks i)

checked_once : (p : Program) (d : MarkedProgram) (ts : List Typing) (gs : List Tags) (ms : List SectionMark) → p ≡ d.program → AreTypings p p.methods ts → AreTypings d.program d.program.methods d.typings
    → AreTaggings p p.methods gs → AreTaggings d.program d.program.methods d.tags → AreMarks p (tagged_by gs) ms → AreMarks d.program (tagged_by d.tags) d.marks → marked p ts gs ms ≡ d
checked_once p d ts gs ms e t u g h m n =
    same_checked p ts d.typings gs d.tags ms d.marks t (subst (λ (q : Program). AreTypings q q.methods d.typings) (sym e) u) g (subst (λ (q : Program). AreTaggings q q.methods d.tags) (sym e) h) m
    (subst (λ (q : Program). AreMarks q (tagged_by d.tags) d.marks) (sym e) n)
    ∙ ap (λ (q : Program). marked q d.typings d.tags d.marks) e

pub loaded_once : (files : List (List ℕ)) (heap workers : ℕ) (c d : MarkedProgram) → IsLoaded files heap workers c → IsLoaded files heap workers d → c ≡ d
loaded_once files heap workers c d a b =
    let read = read_once files a.classes b.classes a.code b.code a.read b.read in
    let k = a.checked.passed in
    let l = b.checked.passed in
    checked_once c.program d c.typings c.tags c.marks (same_program a.classes b.classes a.code b.code heap workers c.program d.program read.0 read.1 k.linked l.linked) k.typed l.typed k.tagged l.tagged a.checked.marked b.checked.marked

-- ---- files that are accepted are not refused

is_faultless : (bytes : List ℕ) (c : ClassFile) → Spells bytes c → class_fault bytes ≡ None
unfolding class_fault
is_faultless bytes c h = ap (fault_of (length bytes)) (read_again bytes c h)

pub no_read_fault : (file : ℕ) (files : List (List ℕ)) (cs : List ClassFile) → AllZip Spells files cs → read_fault file files ≡ None
no_read_fault file [] cs h = refl
no_read_fault file (bytes ∷ files) [] h = absurd h
no_read_fault file (bytes ∷ files) (c ∷ cs) h = rw (is_faultless bytes c h.0) (no_read_fault (file + 1) files cs h.1)

pub no_decode_fault : (ds : List Declared) (code : List (List Insn)) → AllZip IsDecoded ds code → decode_fault ds ≡ None
no_decode_fault [] code h = refl
no_decode_fault (d ∷ ds) [] h = absurd h
no_decode_fault (d ∷ ds) (insns ∷ code) h = rw (faultless (code_of d.member.attrs).bytes (code_of d.member.attrs).rows insns h.0) (no_decode_fault ds code h.1)

-- where all have what a check finds, it refuses none
none_refused : {T R : Type 0} (has : MethodInfo → T → Type 0) (refuses : MethodInfo → R → ℕ → Type 0) → ((m : MethodInfo) (t : T) (rule : R) (pc : ℕ) → has m t → refuses m rule pc → ⊥)
    → (rule : R) (ds : List Declared) (ms : List MethodInfo) (ts : List T) (place : Place) → AllZip has ms ts → IsFirstRefused has refuses rule ds ms place → ⊥
none_refused has refuses never rule [] ms ts place h k = absurd k
none_refused has refuses never rule (d ∷ ds) [] ts place h k = absurd k
none_refused has refuses never rule (d ∷ ds) (m ∷ ms) [] place h k = absurd h
none_refused has refuses never rule (d ∷ ds) (m ∷ ms) (t ∷ ts) place h k = elim k [
  | inl refused ↦ never m t rule place.at h.0 refused.0
  | inr (u, passed, later) ↦ none_refused has refuses never rule ds ms ts place h.1 later
]

pub none_untyped : (p : Program) (ds : List Declared) (ms : List MethodInfo) (ts : List Typing) (rule : VRule) (place : Place) → AreTypings p ms ts → IsFirstUntyped p ds ms rule place → ⊥
none_untyped p ds ms ts rule place h k = none_refused (IsTypingOf p) (IsRefused p) (λ m t r pc x y. no_refusal p m t.frames r pc x y) rule ds ms ts place h k

pub none_untagged : (p : Program) (ds : List Declared) (ms : List MethodInfo) (ts : List Tags) (rule : SRule) (place : Place) → AreTaggings p ms ts → IsFirstUntagged p ds ms rule place → ⊥
none_untagged p ds ms ts rule place h k = none_refused (IsTaggingOf p) (IsTagRefused p) (λ m t r pc x y. no_tag_refusal p m t.frames r pc x y) rule ds ms ts place h k

never_linked : (files : List (List ℕ)) (heap workers : ℕ) (w : IsAccepted files heap workers) (cs : List ClassFile) (code : List (List Insn)) (fault : LinkFault) → AreRead files cs code → link_fault cs code heap workers ≡ Some fault → ⊥
never_linked files heap workers w cs code fault read refused =
    let same = read_once files w.classes cs w.code code w.read read in
    none-some fault (sym w.passed.linked.unrefused ∙ (λ i. link_fault (same.0 i) (same.1 i) heap workers) ∙ refused)

-- files that pass are linked to one program
pub passed_program : (files : List (List ℕ)) (heap workers : ℕ) (w : IsAccepted files heap workers) (cs : List ClassFile) (code : List (List Insn)) (p : Program) → AreRead files cs code → IsLinked cs code heap workers p → (w.classes ≡ cs) × (w.program ≡ p)
passed_program files heap workers w cs code p read linked =
    let same = read_once files w.classes cs w.code code w.read read in
    (same.0, same_program w.classes cs w.code code heap workers w.program p same.0 same.1 w.passed.linked linked)

pub never_untyped : (files : List (List ℕ)) (heap workers : ℕ) (rule : VRule) (place : Place) → IsAccepted files heap workers → IsUntyped files heap workers rule place → ⊥
never_untyped files heap workers rule place w u =
    let same = passed_program files heap workers w u.classes u.code u.program u.read u.linked in
    none_untyped u.program (declared_methods u.classes) u.program.methods w.typings rule place (subst (λ (p : Program). AreTypings p p.methods w.typings) same.1 w.passed.typed) u.first

pub never_untagged : (files : List (List ℕ)) (heap workers : ℕ) (rule : SRule) (place : Place) → IsAccepted files heap workers → IsUntagged files heap workers rule place → ⊥
never_untagged files heap workers rule place w u =
    let same = passed_program files heap workers w u.classes u.code u.program u.read u.linked in
    none_untagged u.program (declared_methods u.classes) u.program.methods w.tags rule place (subst (λ (p : Program). AreTaggings p p.methods w.tags) same.1 w.passed.tagged) u.first

pub accepted : LoadedAccepted
accepted files heap workers c l = record { classes = l.classes; code = l.code; program = c.program; typings = c.typings; tags = c.tags; read = l.read; passed = l.checked.passed }

pub never_refused : AcceptedNotRefused
never_refused files heap workers (C rule) place w r = none-some (C rule, place) (sym (no_read_fault 0 files w.classes w.read.spelled) ∙ r)
never_refused files heap workers (K rule) place w (classes, spelled, fault) =
    let same : w.classes ≡ classes = classes_once files w.classes classes w.read.spelled spelled in
    none-some (K rule, place) (sym (no_decode_fault (declared_methods w.classes) w.code w.read.decoded) ∙ ap (λ (cs : List ClassFile). decode_fault (declared_methods cs)) same ∙ fault)
never_refused files heap workers (L rule) place w u = never_linked files heap workers w u.classes u.code (rule, place) u.read u.fault
never_refused files heap workers (V rule) place w r = never_untyped files heap workers rule place w r
never_refused files heap workers (S rule) place w r = never_untagged files heap workers rule place w r
never_refused files heap workers (A rule) place w r = r

pub only_memory : (files : List (List ℕ)) (heap workers : ℕ) (e : FileError) → IsAccepted files heap workers → IsNotLoaded files heap workers e → e ≡ Memory
only_memory files heap workers Memory w r = refl
only_memory files heap workers (Refused rule place) w r = absurd (never_refused files heap workers rule place w r)

-- ---- what one stage gives the next

pub spelled_long : (files : List (List ℕ)) (cs : List ClassFile) → AllZip Spells files cs → length cs ≡ length files
spelled_long files cs h = AllZip-long Spells files cs h

pub spelled_classes : (files : List (List ℕ)) (cs : List ClassFile) → AllZip Spells files cs → AllByRecursion IsClass cs
spelled_classes [] [] h = tt
spelled_classes [] (c ∷ cs) h = absurd h
spelled_classes (bytes ∷ files) [] h = absurd h
spelled_classes (bytes ∷ files) (c ∷ cs) h = (h.0.is, spelled_classes files cs h.1)

-- there are as many methods as are declared
methods_long : (s : Scope) (ds : List Declared) (code : List (List Insn)) → AllZip IsDecoded ds code → length (linked_methods s (zip ds code)) ≡ length ds
methods_long s [] [] h = refl
methods_long s [] (insns ∷ code) h = absurd h
methods_long s (d ∷ ds) [] h = absurd h
methods_long s (d ∷ ds) (insns ∷ code) h = ap suc (methods_long s ds code h.1)

pub linked_long : (cs : List ClassFile) (code : List (List Insn)) (heap workers : ℕ) (p : Program) → AllZip IsDecoded (declared_methods cs) code → IsLinked cs code heap workers p → length p.methods ≡ length (declared_methods cs)
linked_long cs code heap workers p decoded linked = ap (λ (q : Program). length q.methods) linked.is ∙ methods_long (scope_of cs) (declared_methods cs) code decoded

pub loaded : (files : List (List ℕ)) (heap workers : ℕ) (cs : List ClassFile) (p : Program) (ts : List Typing) (gs : List Tags) (ms : List SectionMark) → AllZip Spells files cs → IsLinkedFrom cs heap workers p → AreTypings p p.methods ts
    → AreTaggings p p.methods gs → AreMarks p (tagged_by gs) ms → IsLoaded files heap workers (marked p ts gs ms)
loaded files heap workers cs p ts gs ms spelled linked typed tagged marks = record {
  classes = cs;
  code = linked.code;
  read = record { spelled = spelled; decoded = linked.decoded };
  checked = record { passed = record { linked = linked.linked; typed = typed; tagged = tagged }; marked = marks };
}

-- ---- the clauses

pub if_other : (files : List (List ℕ)) (heap workers : ℕ) (c : MarkedProgram) (r : Result MarkedProgram FileError) → IfOk r (λ d. IsLoaded files heap workers d) → IsLoaded files heap workers c → IfOk r (λ d. d ≡ c)
if_other files heap workers c (Ok d) found l = loaded_once files heap workers d c found l
if_other files heap workers c (Err e) found l = tt

pub if_refused : (files : List (List ℕ)) (heap workers : ℕ) (r : Result MarkedProgram FileError) → IfErr r (λ e. IsNotLoaded files heap workers e) → IsAccepted files heap workers → IfErr r (λ e. e ≡ Memory)
if_refused files heap workers (Ok d) h w = tt
if_refused files heap workers (Err e) h w = only_memory files heap workers e w h
