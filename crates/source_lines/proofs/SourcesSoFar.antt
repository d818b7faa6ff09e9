-- The sources of the files so far.
use Rattle.std.{proofs.Common.{◌≡◌, ◌<◌, ℕ, ◌+◌, List, [], ◌∷◌, ◌++◌, length, map, refl, sym, ap, ◌∙◌, append_assoc, arith}, specs.List.AllZip}
use Rattle.std.proofs.lemmas.List.{append-nil, length-append, map-append}
use Rattle.jvm_types.specs.{ClassGrammar.Spells, Members.{declared_by, declared_from}}
use Rattle.jvm_types.specs.declared.class_file.{ClassFile.ClassFile, Constant.Constant, Member.Member}
use Rattle.source_lines.specs.Sources.{class_source, declared_lines, method_lines, sources_of, with_class}
use Rattle.source_lines.specs.declared.sources.{MethodLines.MethodLines, Sources.Sources}

abbrev pub with_classes : Sources → List ClassFile → Sources
with_classes s [] = s
with_classes s (c ∷ cs) = with_classes (with_class s c) cs

-- of some files the last ones are left, and those of their classes complete the sources
abbrev pub AreAdded : (files rest : List (List ℕ)) → Sources → Type 0
AreAdded files rest s = (classes : List ClassFile) → AllZip Spells files classes → (left : List ClassFile) × AllZip Spells rest left × (with_classes s left ≡ with_classes (sources_of []) classes)

pub none_added : (files : List (List ℕ)) → AreAdded files files (sources_of [])
none_added files classes all = (classes, all, refl)

pub one_more : (files more : List (List ℕ)) (file : List ℕ) (s new : Sources) → ((c : ClassFile) → Spells file c → new ≡ with_class s c) → AreAdded files (file ∷ more) s → AreAdded files more new
one_more files more file s new add so classes all = let left = so classes all in by_left left.0 left.1 left.2
  where
    by_left : (left : List ClassFile) → AllZip Spells (file ∷ more) left → with_classes s left ≡ with_classes (sources_of []) classes → (after : List ClassFile) × AllZip Spells more after × (with_classes new after ≡ with_classes (sources_of []) classes)
    by_left [] a is = absurd a
    by_left (c ∷ cs) a is = (cs, a.1, ap (λ (x : Sources). with_classes x cs) (add c a.0) ∙ is)

lines_of_file : (file place : ℕ) (pool : List Constant) (ms : List Member) → map (method_lines file pool) ms ≡ map declared_lines (declared_from file pool place ms)
lines_of_file file place pool [] = refl
lines_of_file file place pool (m ∷ ms) = λ i. method_lines file pool m ∷ lines_of_file file (place + 1) pool ms i

abbrev lines_from : ℕ → List ClassFile → List MethodLines
lines_from file cs = map declared_lines (declared_by (λ c. c.methods) file cs)

all_with : (s : Sources) (cs : List ClassFile) → with_classes s cs ≡ record { files = s.files ++ map class_source cs; methods = s.methods ++ lines_from (length s.files) cs }
all_with s [] = λ i. record { files = sym (append-nil s.files) i; methods = sym (append-nil s.methods) i }
all_with s (c ∷ cs) = all_with (with_class s c) cs ∙ (λ i. record { files = append_assoc s.files (class_source c ∷ []) (map class_source cs) i; methods = lines i })
  where
    next : length (s.files ++ class_source c ∷ []) ≡ length s.files + 1
    next = length-append s.files (class_source c ∷ [])

    here : List MethodLines
    here = map (method_lines (length s.files) c.constants) c.methods

    lines : (s.methods ++ map (method_lines (length s.files) c.constants) c.methods) ++ lines_from (length (s.files ++ class_source c ∷ [])) cs ≡ s.methods ++ lines_from (length s.files) (c ∷ cs)
    lines = append_assoc s.methods (map (method_lines (length s.files) c.constants) c.methods) (lines_from (length (s.files ++ class_source c ∷ [])) cs)
        ∙ (λ i. s.methods ++ (lines_of_file (length s.files) 0 c.constants c.methods i ++ lines_from (next i) cs))
        ∙ ap (λ (ls : List MethodLines). s.methods ++ ls) (sym (map-append declared_lines (declared_from (length s.files) c.constants 0 c.methods) (declared_by (λ c. c.methods) (length s.files + 1) cs)))

pub all_added : (files rest : List (List ℕ)) (s : Sources) → length rest < 1 → AreAdded files rest s → (classes : List ClassFile) → AllZip Spells files classes → s ≡ sources_of classes
all_added files (file ∷ rest) s none so classes all = absurd (omega (arith, none))
all_added files [] s none so classes all = let left = so classes all in by_left left.0 left.1 left.2
  where
    by_left : (left : List ClassFile) → AllZip Spells [] left → with_classes s left ≡ with_classes (sources_of []) classes → s ≡ sources_of classes
    by_left [] a is = is ∙ all_with (sources_of []) classes
    by_left (c ∷ cs) a is = absurd a
