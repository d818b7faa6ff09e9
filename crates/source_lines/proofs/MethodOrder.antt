-- The methods of a linked program are those of the files in their order.
use Rattle.std.proofs.Common.{◌≡◌, ◌<◌, ℕ, zero, suc, List, [], ◌∷◌, length, map, Option, None, Some, refl, ap, subst, ◌∙◌, slice_get, arith}
use Rattle.std.{specs.{List.zip, Option.{option_map, unwrap_or}}, proofs.lemmas.{List.FromFn.get_or-map-range_with_len, Option.{slice_get-map, unwrap_or-slice_get}}}
use Rattle.jvm_types.specs.{Linked.{code_of, linked_method, scope_of}, Members.{Declared, declared_methods}, Targets.Scope}
use Rattle.jvm_types.specs.declared.{class_file.ClassFile.ClassFile, code.Insn.Insn, program.{MethodInfo.MethodInfo, Program.Program}}
use Rattle.source_lines.specs.{LineTables.line_number, SourceLines.latest_among, declared.sources.MethodLines.MethodLines}
use Rattle.source_lines.specs.Sources.{IsToldOf, SourcesAreInOrder, class_source, declared_lines, file_among, line_among, line_at, source_at, sources_of}

-- the method of that number is made of the one that is declared by that number
linked_at : (s : Scope) (ds : List Declared) (code : List (List Insn)) (number : ℕ) (m : MethodInfo) → slice_get (map (λ x. linked_method s x.0 x.1) (zip ds code)) number ≡ Some m → (d : Declared) × (insns : List Insn) × (slice_get ds number ≡ Some d) × (m ≡ linked_method s d insns)
linked_at s [] code number m e = absurd (cc)
linked_at s (d ∷ ds) [] number m e = absurd (cc)
linked_at s (d ∷ ds) (insns ∷ code) zero m e = (d, insns, refl, cc)
linked_at s (d ∷ ds) (insns ∷ code) (suc number) m e = linked_at s ds code number m e

-- ---- what is told of it

told_at : (classes : List ClassFile) (number : ℕ) (d : Declared) → slice_get (declared_methods classes) number ≡ Some d → slice_get (sources_of classes).methods number ≡ Some (declared_lines d)
told_at classes number d e = slice_get-map declared_lines (declared_methods classes) number ∙ ap (option_map declared_lines) e

source_told : (classes : List ClassFile) (number : ℕ) (d : Declared) (c : ClassFile) → slice_get (declared_methods classes) number ≡ Some d → slice_get classes d.file ≡ Some c → source_at (sources_of classes) number ≡ class_source c
source_told classes number d c e h = ap (file_among (sources_of classes).files) (told_at classes number d e)
    ∙ ap (λ (o : Option (Option (List ℕ))). unwrap_or o None) (slice_get-map class_source classes d.file ∙ ap (option_map class_source) h)

line_told : (classes : List ClassFile) (number pc : ℕ) (d : Declared) → slice_get (declared_methods classes) number ≡ Some d → pc < length (code_of d.member.attrs).bytes → line_at (sources_of classes) number pc ≡ line_number (latest_among d.pool pc None (code_of d.member.attrs).attrs)
line_told classes number pc d e h = ap (λ (o : Option MethodLines). line_among o pc) (told_at classes number d e)
    ∙ unwrap_or-slice_get (declared_lines d).lines pc None
    ∙ get_or-map-range_with_len (λ i. line_number (latest_among d.pool i None (code_of d.member.attrs).attrs)) 0 (length (code_of d.member.attrs).bytes) pc pc None h (omega arith)

told_of : (classes : List ClassFile) (code : List (List Insn)) (number : ℕ) (m : MethodInfo) (s : Scope) (d : Declared) (insns : List Insn) → slice_get (declared_methods classes) number ≡ Some d → m ≡ linked_method s d insns → IsToldOf classes number m d
told_of classes code number m s d insns e is = record {
  declared = e;
  class = ap (λ (x : MethodInfo). x.class) is;
  name = ap (λ (x : MethodInfo). x.name) is;
  descriptor = ap (λ (x : MethodInfo). x.descriptor) is;
  source = λ c h. source_told classes number d c e h;
  lines = λ pc h. line_told classes number pc d e h;
}

pub in_order : SourcesAreInOrder
in_order classes code heap workers p linked number m e =
    let found = linked_at (scope_of classes) (declared_methods classes) code number m (subst (λ (q : Program). slice_get q.methods number ≡ Some m) linked.is e) in
    (found.0, told_of classes code number m (scope_of classes) found.0 found.1 found.2 found.3)
