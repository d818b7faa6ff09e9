-- What files are linked to keeps the invariant of a program.
use Rattle.std.proofs.Common.{◌<◌, ◌≡◌, ℕ, ◌+◌, ◌*◌, ◌≤◌, Bool, true, false, not, ◌&&◌, ◌||◌, ltb, List, [], ◌∷◌, ◌++◌, map, length, Option, Some, None, is_none, refl, sym, ap, ◌∙◌, subst, arith, ◌==◌}
use Rattle.std.{specs.{List.{AllByRecursion, AllZip, zip, list_any}, Option.unwrap_or}, proofs.lemmas.{Bool.{or_parts, ltb-false, lt-ltb}, List.{length-map, map_push}}}
use Rattle.jvm_types.specs.{ClassGrammar.{FieldsFit, IsClass}, ClassNames.{class_name, class_names, file_class}, Descriptors.{Signature, method_signature}, Layout.{laid_out_fields, fixed_words}}
use Rattle.jvm_types.specs.LinkFaults.{first_fault, in_file, in_method, insn_fault, row_fault, uses_fault, class_pass, member_pass, use_pass, root_pass, word_pass, is_run, is_wrong_method, is_run_method}
use Rattle.jvm_types.specs.{LinkLaws.LinksToProgram, Linkable.{IsDecoded, IsLinkable}}
use Rattle.jvm_types.specs.Linked.{scope_of, coded_methods, code_of, site_of, resolved_target, resolved_row, resolved_signature, linked_method, linked_methods, program_of}
use Rattle.jvm_types.specs.Members.{Declared, class_of_declared, descriptor_of, declared_from, declared_by, declared_methods}
use Rattle.jvm_types.specs.{ProgramInvariant.{IsFieldOf, IsTargetOf, IsRowOf, IsCaught, is_same_method, IsMethodOf, statics_among, IsProgram}, Targets.Scope, declared.class_file.ClassFile.ClassFile}
use Rattle.jvm_types.specs.declared.{class_file.{Constant.Constant, Handler.Handler, Member.{Member as ClassMember}}, code.Insn.Insn, fixed_words.TheConstants.FIRST_CLASS_WORD}
use Rattle.jvm_types.{specs.declared.{program.{MethodInfo.MethodInfo, Program.Program}, refusal.LRule.TheVariants.{L4, L8}}, proofs.EachAfter.{EachAfter, at_number, all_append, all_weaker}}
use Rattle.jvm_types.proofs.{KindLaws.{KnownSignature, signature_in}, LayoutLaws.{fields_placed, words_counted}}
use Rattle.jvm_types.proofs.{PassLaws.{neither, no_rule, untested, two_untested, nowhere, names_distinct, is_same_declared, DeclaredFits, methods_declared}, ScopeLaws.scope_fits}
use Rattle.jvm_types.proofs.{SizeLaws.program_within, TargetLaws.{ScopeFits, target_fits, catch_fits}}

-- ---- one method

is_signature : (o : Option Signature) (none : Signature) → is_none o ≡ false → o ≡ Some (record { args = (unwrap_or o none).args; result = (unwrap_or o none).result })
is_signature None none e = absurd cc
is_signature (Some s) none e = refl

rows_kept : (s : Scope) (pool : List Constant) (rows : List Handler) → AllZip IsRowOf rows (map (resolved_row s pool) rows)
rows_kept s pool [] = tt
rows_kept s pool (h ∷ rows) = (record { start = refl; «end» = refl; handler = refl }, rows_kept s pool rows)

module _ (p : Program) (s : Scope) (fit : ScopeFits p s) where
  ordered : (before : List (Declared × List Insn)) (d : Declared) → AllByRecursion (λ e. e.file ≤ d.file) (map (λ m. m.0) before) → AllByRecursion (λ e. e.class ≤ class_of_declared d) (linked_methods s before)
  ordered [] d h = tt
  ordered (m ∷ before) d h = (omega (arith, h.0), ordered before d h.1)

  distinct : (before : List (Declared × List Insn)) (d : Declared) (insns : List Insn) → AllByRecursion (λ e. is_same_declared e d ≡ false) (map (λ m. m.0) before)
      → AllByRecursion (λ e. is_same_method e (linked_method s d insns) ≡ false) (linked_methods s before)
  distinct [] d insns h = tt
  distinct (m ∷ before) d insns h = (h.0, distinct before d insns h.1)

  targets : (d : Declared) → AllByRecursion FieldsFit d.pool → (insns : List Insn) → AllByRecursion (λ insn. insn_fault s d insn ≡ None) insns
      → AllZip (λ insn target. IsTargetOf p (site_of d) insn.op target) insns (map (resolved_target s (site_of d) d.pool) insns)
  targets d f [] h = tt
  targets d f (insn ∷ insns) h = (target_fits p s fit (site_of d) (omega arith) d.pool f insn.op (no_rule (in_method d.file d.place insn.pc) _ h.0), targets d f insns h.1)

  caught : (d : Declared) → AllByRecursion FieldsFit d.pool → (rows : List Handler) → AllByRecursion (λ h. row_fault s d h ≡ None) rows
      → AllByRecursion (λ r. IsCaught p r.catch_class) (map (resolved_row s d.pool) rows)
  caught d f [] h = tt
  caught d f (row ∷ rows) h = (catch_fits p s fit (site_of d) (omega arith) d.pool f row.catch_type (no_rule (in_method d.file d.place row.start) _ h.0), caught d f rows h.1)

  method_fits : (before : List (Declared × List Insn)) (d : Declared) (insns : List Insn) → DeclaredFits s.names (map (λ m. m.0) before) d → IsDecoded d insns
      → uses_fault s (d, insns) ≡ None → is_wrong_method d ≡ false → AllByRecursion FieldsFit d.pool → IsMethodOf p (linked_methods s before) (linked_method s d insns)
  method_fits before d insns h decoded uses root f =
      let parts = neither (first_fault (map (insn_fault s d) insns)) (first_fault (map (row_fault s d) (code_of d.member.attrs).rows)) uses in
      let types : Signature = resolved_signature s (descriptor_of d) in
      let described : method_signature p.names (descriptor_of d) ≡ Some (record { args = types.args; result = types.result }) =
      subst (λ (names : List (List ℕ)). method_signature names (descriptor_of d) ≡ Some (record { args = types.args; result = types.result })) fit.names
      (is_signature (method_signature s.names (descriptor_of d)) (record { args = []; result = None }) h.described) in
      let known : KnownSignature p types = signature_in p (descriptor_of d) types described in
      let files : length s.names ≡ length p.names = ap length fit.names in
      record {
        class = (omega arith, omega (arith, h.file, files));
        ordered = ordered before d h.ordered;
        distinct = distinct before d insns h.distinct;
        described = described;
        args = known.args;
        result = known.result;
        coded = record { bytes = (code_of d.member.attrs).bytes; handlers = (code_of d.member.attrs).rows; code = decoded; rows = rows_kept s d.pool (code_of d.member.attrs).rows };
        targets = targets d f insns (nowhere (insn_fault s d) insns parts.0);
        caught = caught d f (code_of d.member.attrs).rows (nowhere (row_fault s d) (code_of d.member.attrs).rows parts.1);
        root = root;
        unsynchronized = h.unsynchronized;
      }

  methods_fit : (before : List (Declared × List Insn)) (ds : List Declared) (code : List (List Insn)) → EachAfter (DeclaredFits s.names) (map (λ m. m.0) before) ds → AllZip IsDecoded ds code
      → AllByRecursion (λ m. uses_fault s m ≡ None) (zip ds code) → list_any is_wrong_method ds ≡ false → AllByRecursion (λ d. AllByRecursion FieldsFit d.pool) ds
      → EachAfter (IsMethodOf p) (linked_methods s before) (linked_methods s (zip ds code))
  methods_fit before [] [] h decoded uses root f = tt
  methods_fit before [] (insns ∷ code) h decoded uses root f = absurd decoded
  methods_fit before (d ∷ ds) [] h decoded uses root f = absurd decoded
  methods_fit before (d ∷ ds) (insns ∷ code) h decoded uses root f =
      let roots = or_parts (is_wrong_method d) (list_any is_wrong_method ds) root in
      let later : EachAfter (DeclaredFits s.names) (map (λ m. m.0) (before ++ (d, insns) ∷ [])) ds =
      subst (λ (b : List Declared). EachAfter (DeclaredFits s.names) b ds) (sym (map_push (λ (m : Declared × List Insn). m.0) before (d, insns))) h.1 in (
        method_fits before d insns h.0 decoded.0 uses.0 roots.0 f.0,
        subst (λ (b : List MethodInfo). EachAfter (IsMethodOf p) b (linked_methods s (zip ds code))) (map_push (λ (m : Declared × List Insn). linked_method s m.0 m.1) before (d, insns))
            (methods_fit (before ++ (d, insns) ∷ []) ds code later decoded.1 uses.1 roots.1 f.1),
      )

-- ---- the pools of all methods

own_pool : (file : ℕ) (pool : List Constant) (number : ℕ) (ms : List ClassMember) → AllByRecursion FieldsFit pool → AllByRecursion (λ d. AllByRecursion FieldsFit d.pool) (declared_from file pool number ms)
own_pool file pool number [] h = tt
own_pool file pool number (m ∷ ms) h = (h, own_pool file pool (number + 1) ms h)

all_pools : (file : ℕ) (cs : List ClassFile) → AllByRecursion IsClass cs → AllByRecursion (λ d. AllByRecursion FieldsFit d.pool) (declared_by (λ c. c.methods) file cs)
all_pools file [] h = tt
all_pools file (c ∷ cs) h = all_append (λ d. AllByRecursion FieldsFit d.pool) (declared_from file c.constants 0 c.methods) (declared_by (λ c. c.methods) (file + 1) cs)
    (own_pool file c.constants 0 c.methods h.0.pool.fields) (all_pools (file + 1) cs h.1)

-- ---- `run` and the words

run_same : (s : Scope) (ds : List Declared) (code : List (List Insn)) → AllZip IsDecoded ds code
    → list_any is_run_method ds ≡ list_any (λ m. (m.class == file_class 0) && is_run m.name m.descriptor) (linked_methods s (zip ds code))
run_same s [] [] h = refl
run_same s [] (insns ∷ code) h = absurd h
run_same s (d ∷ ds) [] h = absurd h
run_same s (d ∷ ds) (insns ∷ code) h = ap (λ b. is_run_method d || b) (run_same s ds code h.1)

run_there : (some there : Bool) → some && not there ≡ false → some ≡ true → there ≡ true
run_there some true e f = refl
run_there true false e f = absurd cc
run_there false false e f = absurd cc

-- ---- the whole

abbrev program_fits : (files : List ClassFile) (code : List (List Insn)) (heap workers : ℕ) → IsLinkable files code heap workers
    → class_pass files ≡ None → member_pass files ≡ None → use_pass files code ≡ None → root_pass files workers ≡ None → word_pass files heap ≡ None
    → IsProgram (program_of files code heap workers)
program_fits files code heap workers able classes members uses roots words =
    let p : Program = program_of files code heap workers in
    let count : length (class_names files) ≡ length files = length-map files class_name in
    let wrong = two_untested (list_any is_wrong_method (declared_methods files)) (ltb 0 workers && not (list_any is_run_method (declared_methods files))) L4 L4 (no_rule (in_file 0 0) _ roots) in
    let fixed : fixed_words files ≤ heap = ltb-false heap (fixed_words files) (untested (ltb heap (fixed_words files)) L8 [] (no_rule (in_file 0 0) _ words)).0 in
    let counted : fixed_words files ≡ FIRST_CLASS_WORD + 2 * length files + statics_among (laid_out_fields (class_names files) files) = words_counted (class_names files) files in
    let size = program_within (scope_of files) files code able.classes able.decoded in
    let fields : EachAfter (IsFieldOf p) [] (laid_out_fields (class_names files) files) =
    fields_placed p files (sym count) (all_weaker IsClass (λ (c : ClassFile). AllByRecursion FieldsFit c.constants × (length c.fields < 65536)) (λ c h. (h.pool.fields, h.fields.count)) files able.classes) in
    let methods : EachAfter (IsMethodOf p) [] (linked_methods (scope_of files) (coded_methods files code)) =
    methods_fit p (scope_of files) (scope_fits files code heap workers able.decoded) [] (declared_methods files) code (methods_declared files members) able.decoded
    (nowhere (uses_fault (scope_of files)) (coded_methods files code) uses) wrong.0 (all_pools 0 files able.classes) in
    record {
      some_file = omega (arith, able.some_file, count);
      files = omega (arith, able.few_files, count);
      workers = able.few_workers;
      heap_from = able.heap_from;
      heap_to = able.heap_to;
      words = omega (arith, fixed, counted, count);
      names = names_distinct files classes;
      fields = λ number f e. at_number (IsFieldOf p) (laid_out_fields (class_names files) files) number f fields e;
      methods = λ number m e. at_number (IsMethodOf p) (linked_methods (scope_of files) (coded_methods files code)) number m methods e;
      run = λ some. sym (run_same (scope_of files) (declared_methods files) code able.decoded) ∙ run_there (ltb 0 workers) (list_any is_run_method (declared_methods files)) wrong.1 (lt-ltb 0 workers some);
      size = omega (arith, size, able.few_files);
    }

pub linked_is_program : LinksToProgram
linked_is_program files code heap workers program able linked =
    let one = neither (class_pass files) (first_fault (member_pass files ∷ use_pass files code ∷ root_pass files workers ∷ word_pass files heap ∷ [])) linked.unrefused in
    let two = neither (member_pass files) (first_fault (use_pass files code ∷ root_pass files workers ∷ word_pass files heap ∷ [])) one.1 in
    let three = neither (use_pass files code) (first_fault (root_pass files workers ∷ word_pass files heap ∷ [])) two.1 in
    let four = neither (root_pass files workers) (first_fault (word_pass files heap ∷ [])) three.1 in
    let five = neither (word_pass files heap) None four.1 in
    subst IsProgram (sym linked.is) (program_fits files code heap workers able one.0 two.0 three.0 four.0 five.0)
