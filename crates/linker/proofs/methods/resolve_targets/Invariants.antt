use Rattle.std.proofs.Common.{◌≡◌, map, take, drop}
use Rattle.jvm_types.specs.{LinkFaults.{first_fault, insn_fault}, Linked.{scope_of, site_of, resolved_target}}
use Rattle.linker.specs.Linking.{method_of}
use Rattle.linker.proofs.methods.resolve_targets.Given as goal

abbrev pub invariant-loop-insn : goal.invariant-loop-insn
invariant-loop-insn l = record {
  made : l.targets ≡ map (resolved_target (scope_of l.file.files) (site_of (method_of l.file l.number l.method)) l.file.class.constants) (take l.insn-index l.insns);
  left : first_fault (map (insn_fault (scope_of l.file.files) (method_of l.file l.number l.method)) (drop l.insn-index l.insns))
      ≡ first_fault (map (insn_fault (scope_of l.file.files) (method_of l.file l.number l.method)) l.insns);
}
