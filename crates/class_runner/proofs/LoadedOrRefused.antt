-- Every list of files is accepted, or a rule refuses it: stage by stage.
use Rattle.std.proofs.Common.{◌≡◌, ℕ, suc, ◌+◌, ◌<◌, ◌≤◌, inl, inr, Bool, true, false, Decides, List, [], ◌∷◌, ◌++◌, length, map, take, Option, Some, None, refl, sym, subst, ap, ◌∙◌, arith, ◌⊎◌, slice_get}
use Rattle.std.specs.List.{AllZip, AllByRecursion}
use Rattle.jvm_types.specs.{ClassGrammar.{IsByte, IsClass, IsMethod, IsMethodAttr, Spells}, CodeFault.code_fault, LinkFaults.{LinkFault, link_fault, in_file, in_method, IsLinked}}
use Rattle.jvm_types.specs.{Linkable.{IsDecoded, IsLinkable}, Linked.{code_of, program_of}, Members.{Declared, declared_from, declared_by, declared_methods}, ProgramInvariant.IsProgram}
use Rattle.jvm_types.specs.{ReadingClass.class_fault, Types.TypeFrame, Verifying.{IsLaidOut, IsRefused, IsTypingOf, HasTyping}, declared.class_file.{ClassFile.ClassFile, Constant.Constant}}
use Rattle.jvm_types.specs.declared.{class_file.{Member.Member, MemberAttr.MemberAttr}, code.Insn.Insn, program.{MethodInfo.MethodInfo, Program.Program}, refusal.{CRule.CRule, KRule.KRule}}
use Rattle.jvm_types.specs.declared.{refusal.{LRule.LRule, Place.Place, Rule.{Rule, TheVariants.{C, K, L, V, S, A}}, SRule.SRule, VRule.VRule}, typing.Typing.Typing}
use Rattle.jvm_types.proofs.{ClassLawProofs.spelled_or_faulty, CodeExact.exact, EachAfter.all_append, LinkedLaws.linked_is_program}
use Rattle.laws_programs.proofs.{CodeOrder.laid_out, VisitsEndAnswer.typed_or_refused}
use Rattle.checked_program.specs.{CheckedProgram.AreTypings, LockTags.TagShape, Tagging.{IsTaggingOf, IsTagRefused}, declared.tag.Tags.Tags}
use Rattle.laws_sections.proofs.TagAnswers.{tagged_or_refused_all as tagged_or_refused}
use Rattle.class_runner.specs.Loading.{AreRead, ArePassed, IsAccepted, IsFirstRefused, IsUnlinked, IsUntyped, IsUntagged, IsRefusedBy, read_fault, decode_fault}
use Rattle.class_runner.{specs.LoadingLaws.{IsLoadable, AcceptedOrRefused}, proofs.LoadedOnce.{spelled_long, spelled_classes, linked_long}}
use Rattle.jvm_types.specs.declared.class_file.MemberAttr.TheVariants as member_attrs

-- ---- C: reading

abbrev IsRead : ℕ → List (List ℕ) → Type 0
IsRead file files = ((classes : List ClassFile) × AllZip Spells files classes) ⊎ ((rule : CRule) × (place : Place) × (read_fault file files ≡ Some (C rule, place)))

all_read : (file : ℕ) (files : List (List ℕ)) → AllByRecursion (AllByRecursion IsByte) files → IsRead file files
all_read file [] h = inl ([], tt)
all_read file (bytes ∷ files) h = by_fault (class_fault bytes) refl (all_read (file + 1) files h.1)
  where
    by_fault : (o : Option (CRule × ℕ)) → class_fault bytes ≡ o → IsRead (file + 1) files → IsRead file (bytes ∷ files)
    by_fault (Some f) e rest = inr (f.0, in_file file f.1, rw e refl)
    by_fault None e (inl (classes, spelled)) = let one = (spelled_or_faulty bytes h.0).0 e in inl (one.0 ∷ classes, (one.1, spelled))
    by_fault None e (inr (rule, place, fault)) = inr (rule, place, rw e fault)

-- ---- K: decoding

abbrev HasBytes : Declared → Type 0
HasBytes d = AllByRecursion IsByte (code_of d.member.attrs).bytes

attrs_bytes : (pool : List Constant) (attrs : List MemberAttr) → AllByRecursion (IsMethodAttr pool) attrs → AllByRecursion IsByte (code_of attrs).bytes
attrs_bytes pool [] h = tt
attrs_bytes pool (member_attrs.Code code ∷ attrs) h = h.0.bytes
attrs_bytes pool (member_attrs.ConstantValue name value ∷ attrs) h = absurd h.0
attrs_bytes pool (member_attrs.Other a ∷ attrs) h = attrs_bytes pool attrs h.1

own_bytes : (file : ℕ) (pool : List Constant) (place : ℕ) (ms : List Member) → AllByRecursion (IsMethod pool) ms → AllByRecursion HasBytes (declared_from file pool place ms)
own_bytes file pool place [] h = tt
own_bytes file pool place (m ∷ ms) h = (attrs_bytes pool m.attrs h.0.member.attrs.each, own_bytes file pool (place + 1) ms h.1)

methods_bytes : (file : ℕ) (cs : List ClassFile) → AllByRecursion IsClass cs → AllByRecursion HasBytes (declared_by (λ c. c.methods) file cs)
methods_bytes file [] h = tt
methods_bytes file (c ∷ cs) h = all_append HasBytes (declared_from file c.constants 0 c.methods) (declared_by (λ x. x.methods) (file + 1) cs) (own_bytes file c.constants 0 c.methods h.0.methods.each) (methods_bytes (file + 1) cs h.1)

abbrev AreDecoded : List Declared → Type 0
AreDecoded ds = ((code : List (List Insn)) × AllZip IsDecoded ds code) ⊎ ((rule : KRule) × (place : Place) × (decode_fault ds ≡ Some (K rule, place)))

all_decoded : (ds : List Declared) → AllByRecursion HasBytes ds → AreDecoded ds
all_decoded [] h = inl ([], tt)
all_decoded (d ∷ ds) h = by_fault (code_fault (code_of d.member.attrs).bytes (code_of d.member.attrs).rows) refl (all_decoded ds h.1)
  where
    by_fault : (o : Option (KRule × ℕ)) → code_fault (code_of d.member.attrs).bytes (code_of d.member.attrs).rows ≡ o → AreDecoded ds → AreDecoded (d ∷ ds)
    by_fault (Some f) e rest = inr (f.0, in_method d.file d.place f.1, rw e refl)
    by_fault None e (inl (code, decoded)) = let one = exact (code_of d.member.attrs).bytes (code_of d.member.attrs).rows h.0 e in inl (one.0 ∷ code, (one.1, decoded))
    by_fault None e (inr (rule, place, fault)) = inr (rule, place, rw e fault)

-- ---- methods

abbrev typing_of : List (Option TypeFrame) → Typing
typing_of frames = record { frames = frames }

each : {X : Type 0} (P : X → Type 0) (xs : List X) → ((i : ℕ) (x : X) → slice_get xs i ≡ Some x → P x) → AllByRecursion P xs
each P [] h = tt
each P (x ∷ xs) h = (h 0 x refl, each P xs (λ i y e. h (suc i) y e))

methods_laid : (p : Program) → IsProgram p → AllByRecursion IsLaidOut p.methods
methods_laid p is = each IsLaidOut p.methods (λ i m e. laid_out p (take i p.methods) m (is.methods i m e))

-- ---- checks of methods, one by one

abbrev AreFound : {T R : Type 0} → (MethodInfo → T → Type 0) → (MethodInfo → R → ℕ → Type 0) → List Declared → List MethodInfo → Type 0
AreFound {T = T} {R = R} has refuses ds ms = ((ts : List T) × AllZip has ms ts) ⊎ ((rule : R) × (place : Place) × IsFirstRefused has refuses rule ds ms place)

abbrev IsTold : {T R : Type 0} → (MethodInfo → T → Type 0) → (MethodInfo → R → ℕ → Type 0) → MethodInfo → Type 0
IsTold {T = T} {R = R} has refuses m = ((t : T) × has m t) ⊎ ((rule : R) × (pc : ℕ) × refuses m rule pc)

all_found : {T R : Type 0} (has : MethodInfo → T → Type 0) (refuses : MethodInfo → R → ℕ → Type 0) → ((m : MethodInfo) → IsLaidOut m → IsTold has refuses m)
    → (ds : List Declared) (ms : List MethodInfo) → length ms ≡ length ds → AllByRecursion IsLaidOut ms → AreFound has refuses ds ms
all_found has refuses tells [] [] long h = inl ([], tt)
all_found has refuses tells [] (m ∷ ms) long h = absurd (omega arith)
all_found has refuses tells (d ∷ ds) [] long h = absurd (omega arith)
all_found has refuses tells (d ∷ ds) (m ∷ ms) long h = by_one has refuses d ds m ms (tells m h.0) (all_found has refuses tells ds ms (omega (arith, long)) h.1)
  where
    by_one : {T R : Type 0} (has : MethodInfo → T → Type 0) (refuses : MethodInfo → R → ℕ → Type 0) (d : Declared) (ds : List Declared) (m : MethodInfo) (ms : List MethodInfo) → IsTold has refuses m → AreFound has refuses ds ms → AreFound has refuses (d ∷ ds) (m ∷ ms)
    by_one has refuses d ds m ms (inr (rule, pc, refused)) rest = inr (rule, in_method d.file d.place pc, inl (refused, refl))
    by_one has refuses d ds m ms (inl (t, passed)) (inl (ts, are)) = inl (t ∷ ts, (passed, are))
    by_one has refuses d ds m ms (inl (t, passed)) (inr (rule, place, later)) = inr (rule, place, inr (t, passed, later))

one_typed : (p : Program) (m : MethodInfo) → IsLaidOut m → IsTold (IsTypingOf p) (IsRefused p) m
one_typed p m laid = elim (typed_or_refused p m laid) [
  | inl (frames, typed) ↦ inl (typing_of frames, typed)
  | inr refused ↦ inr refused
]

one_tagged : (p : Program) (m : MethodInfo) → IsLaidOut m → IsTold (IsTaggingOf p) (IsTagRefused p) m
one_tagged p m laid = elim (tagged_or_refused p m laid) [
  | inl (frames, tagged) ↦ inl (record { frames = frames }, tagged)
  | inr refused ↦ inr refused
]

-- ---- the whole

abbrev IsAnswered : List (List ℕ) → (heap workers : ℕ) → Type 0
IsAnswered files heap workers = IsAccepted files heap workers ⊎ ((rule : Rule) × (place : Place) × IsRefusedBy files heap workers rule place)

-- files that are linked are typed and tagged, or refused
linked_answered : (files : List (List ℕ)) (heap workers : ℕ) (cs : List ClassFile) (code : List (List Insn)) (p : Program) → AreRead files cs code → IsLinked cs code heap workers p → IsProgram p → IsAnswered files heap workers
linked_answered files heap workers cs code p read linked is = by_types (all_found (IsTypingOf p) (IsRefused p) (one_typed p) (declared_methods cs) p.methods many laid)
  where
    many : length p.methods ≡ length (declared_methods cs)
    many = linked_long cs code heap workers p read.decoded linked

    laid : AllByRecursion IsLaidOut p.methods
    laid = methods_laid p is

    by_tags : (ts : List Typing) → AreTypings p p.methods ts → AreFound (IsTaggingOf p) (IsTagRefused p) (declared_methods cs) p.methods → IsAnswered files heap workers
    by_tags ts typed (inr (rule, place, untagged)) = inr (S rule, place, record { classes = cs; code = code; program = p; typings = ts; read = read; linked = linked; typed = typed; first = untagged })
    by_tags ts typed (inl (gs, tagged)) = inl (record { classes = cs; code = code; program = p; typings = ts; tags = gs; read = read; passed = record { linked = linked; typed = typed; tagged = tagged } })

    by_types : AreFound (IsTypingOf p) (IsRefused p) (declared_methods cs) p.methods → IsAnswered files heap workers
    by_types (inr (rule, place, untyped)) = inr (V rule, place, record { classes = cs; code = code; program = p; read = read; linked = linked; first = untyped })
    by_types (inl (ts, typed)) = by_tags ts typed (all_found (IsTaggingOf p) (IsTagRefused p) (one_tagged p) (declared_methods cs) p.methods many laid)

-- files whose methods are decoded are linked, or refused
decoded_answered : (files : List (List ℕ)) (heap workers : ℕ) (cs : List ClassFile) (code : List (List Insn)) → IsLoadable files heap workers → AreRead files cs code → IsAnswered files heap workers
decoded_answered files heap workers cs code able read = by_fault (link_fault cs code heap workers) refl
  where
    many : length cs ≡ length files
    many = spelled_long files cs read.spelled

    by_fault : (o : Option LinkFault) → link_fault cs code heap workers ≡ o → IsAnswered files heap workers
    by_fault (Some fault) e = inr (L fault.0, fault.1, record { classes = cs; code = code; read = read; fault = e })
    by_fault None e =
        let linked : IsLinked cs code heap workers (program_of cs code heap workers) = record { unrefused = e; is = refl } in
        let linkable : IsLinkable cs code heap workers = record {
          some_file = omega (arith, many, able.some_file);
          few_files = omega (arith, many, able.few_files);
          classes = spelled_classes files cs read.spelled;
          decoded = read.decoded;
          few_workers = able.few_workers;
          heap_from = able.heap_from;
          heap_to = able.heap_to;
        } in
        linked_answered files heap workers cs code (program_of cs code heap workers) read linked (linked_is_program cs code heap workers (program_of cs code heap workers) linkable linked)

pub accepted_or_refused : AcceptedOrRefused
accepted_or_refused files heap workers able = by_classes (all_read 0 files able.bytes)
  where
    by_code : (cs : List ClassFile) → AllZip Spells files cs → AreDecoded (declared_methods cs) → IsAnswered files heap workers
    by_code cs spelled (inr (rule, place, fault)) = inr (K rule, place, (cs, spelled, fault))
    by_code cs spelled (inl (code, decoded)) = decoded_answered files heap workers cs code able (record { spelled = spelled; decoded = decoded })

    by_classes : IsRead 0 files → IsAnswered files heap workers
    by_classes (inr (rule, place, fault)) = inr (C rule, place, fault)
    by_classes (inl (cs, spelled)) = by_code cs spelled (all_decoded (declared_methods cs) (methods_bytes 0 cs (spelled_classes files cs spelled)))
