-- The linked program of some class files: names are resolved, and each field has its place.
use Rattle.std.specs.Prelude.{ℕ, List, [], ◌∷◌, ◌++◌, map, None}
use Rattle.std.specs.Option.{unwrap_or}
use Rattle.std.specs.Result.{result_unwrap_or}
use Rattle.std.specs.List.{zip}
use Rattle.jvm_types.specs.ClassNames.{class_names}
use Rattle.jvm_types.specs.Descriptors.{Signature, method_signature}
use Rattle.jvm_types.specs.Members.{built_in_fields, built_in_methods, Declared, class_of_declared}
use Rattle.jvm_types.specs.Members.{name_of, descriptor_of, declared_fields, declared_methods}
use Rattle.jvm_types.specs.Members.{entries_from, MethodSite}
use Rattle.jvm_types.specs.Targets.{Scope, target_of, catch_class}
use Rattle.jvm_types.specs.Layout.{laid_out_fields}
use Rattle.jvm_types.specs.declared.class_file.Constant.{Constant}
use Rattle.jvm_types.specs.declared.class_file.Handler.{Handler}
use Rattle.jvm_types.specs.declared.class_file.Code.{Code}
use Rattle.jvm_types.specs.declared.class_file.MemberAttr.{MemberAttr}
use Rattle.jvm_types.specs.declared.class_file.MemberAttr.TheVariants as member_attrs
use Rattle.jvm_types.specs.declared.class_file.ClassFile.{ClassFile}
use Rattle.jvm_types.specs.declared.code.Insn.{Insn}
use Rattle.jvm_types.specs.declared.program.Target.{Target}
use Rattle.jvm_types.specs.declared.program.Target.TheVariants as targets
use Rattle.jvm_types.specs.declared.program.Row.{Row}
use Rattle.jvm_types.specs.declared.program.MethodInfo.{MethodInfo}
use Rattle.jvm_types.specs.declared.program.Program.{Program}

-- what the names of some files may name
abbrev pub scope_of : List ClassFile → Scope
scope_of files = record {
  names = class_names files;
  fields = built_in_fields ++ entries_from targets.Field 0 (declared_fields files);
  methods = built_in_methods ++ entries_from targets.Method 0 (declared_methods files);
}

-- the methods of all files, in order, each with its instructions, where `code` has the instructions
-- of all methods in order
abbrev pub coded_methods : List ClassFile → List (List Insn) → List (Declared × List Insn)
coded_methods files code = zip (declared_methods files) code

-- the one Code attribute of a method (JVMS 4.7.3); every method of a class that is read has it
abbrev pub no_code : Code
no_code = record { max_stack = 0; max_locals = 0; bytes = []; rows = []; attrs = []; name = 0 }

abbrev pub code_of : List MemberAttr → Code
code_of [] = no_code
code_of (member_attrs.Code code ∷ attrs) = code
code_of (attr ∷ attrs) = code_of attrs

abbrev pub site_of : Declared → MethodSite
site_of d = record { class = class_of_declared d; name = name_of d }

-- In what follows a name that does not resolve has some value. A program with such a name is
-- refused.
abbrev pub resolved_target : Scope → MethodSite → List Constant → Insn → Target
resolved_target s site pool insn = result_unwrap_or (target_of s site pool insn.op) targets.Nothing

abbrev pub resolved_row : Scope → List Constant → Handler → Row
resolved_row s pool h =
    record {
      start = h.start;
      end = h.end;
      handler = h.handler;
      catch_class = result_unwrap_or (catch_class s pool h.catch_type) 0;
    }

abbrev pub resolved_signature : Scope → List ℕ → Signature
resolved_signature s text =
    unwrap_or (method_signature s.names text) (record { args = []; result = None })

abbrev pub linked_method : Scope → Declared → List Insn → MethodInfo
linked_method s d insns =
    let code : Code = code_of d.member.attrs in
    let types : Signature = resolved_signature s (descriptor_of d) in
    record {
      class = class_of_declared d;
      flags = d.member.flags;
      name = name_of d;
      descriptor = descriptor_of d;
      args = types.args;
      result = types.result;
      max_stack = code.max_stack;
      max_locals = code.max_locals;
      code = insns;
      targets = map (resolved_target s (site_of d) d.pool) insns;
      rows = map (resolved_row s d.pool) code.rows;
    }

abbrev pub linked_methods : Scope → List (Declared × List Insn) → List MethodInfo
linked_methods s methods = map (λ m. linked_method s m.0 m.1) methods

-- the program of files that no rule of linking refuses
abbrev pub program_of : List ClassFile → List (List Insn) → (heap workers : ℕ) → Program
program_of files code heap workers = record {
  names = class_names files;
  fields = laid_out_fields (class_names files) files;
  methods = linked_methods (scope_of files) (coded_methods files code);
  heap = heap;
  workers = workers;
}
