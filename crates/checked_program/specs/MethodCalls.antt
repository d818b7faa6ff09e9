-- The graph of all calls: an edge from each method to each that an instruction of its code calls,
-- reached or not; and which methods are called from one.
use Rattle.std.specs.Prelude.{◌≡◌, ◌+◌, ◌<◌, ◌↔◌, ℕ, zero, suc, Bool, true, false, nat_lt}
use Rattle.std.specs.Prelude.{if◌then◌else◌, List, length, replicate, Option, Some, None, slice_get}
use Rattle.std.specs.Prelude.{slice_index_or, slice_set}
use Rattle.jvm_types.specs.declared.code.Insn.{Insn}
use Rattle.jvm_types.specs.declared.program.Target.{Target}
use Rattle.jvm_types.specs.declared.program.MethodInfo.{MethodInfo}
use Rattle.jvm_types.specs.declared.program.Program.{Program}
use Rattle.checked_program.specs.Marks.{called_method}
use Rattle.checked_program.specs.Reach.{HasCalls, size_of}
use Rattle.checked_program.specs.CallEdges.{no_edges, with_edge}
use Rattle.checked_program.specs.declared.call_edges.Graph.{Graph}

-- what an instruction with its target calls
abbrev pub called_by : Option Insn → Option Target → Option ℕ
called_by (Some insn) (Some target) = called_method insn.op target
called_by insn target = None

-- a call of one of so many methods
abbrev pub among : ℕ → Option ℕ → Option ℕ
among methods None = None
among methods (Some u) = if nat_lt u methods then Some u else None

abbrev pub method_call : ℕ → MethodInfo → ℕ → Option ℕ
method_call methods m i = among methods (called_by (slice_get m.code i) (slice_get m.targets i))

-- with the calls of the first instructions of a method
abbrev pub calls_before : ℕ → MethodInfo → ℕ → Graph → ℕ → Graph
calls_before methods m a g zero = g
calls_before methods m a g (suc i) =
    with_edge a (calls_before methods m a g i) (method_call methods m i)

abbrev pub calls_from : ℕ → Option MethodInfo → ℕ → Graph → Graph
calls_from methods None a g = g
calls_from methods (Some m) a g = calls_before methods m a g (length m.code)

-- the calls of the first methods
abbrev pub method_calls : List MethodInfo → ℕ → Graph
method_calls ms zero = no_edges
method_calls ms (suc a) = calls_from (length ms) (slice_get ms a) a (method_calls ms a)

abbrev pub only_one : ℕ → ℕ → List Bool
only_one methods mi = slice_set (replicate methods false) mi true

-- of each method, whether calls lead to it from one
abbrev pub AreReached : Program → ℕ → List Bool → Type 0
AreReached p mi found =
    (u : ℕ) → u < length p.methods
    → (slice_index_or found u false ≡ true) ↔ ((vs : List ℕ) × HasCalls p mi vs u)

abbrev pub size_if : Bool → Option MethodInfo → ℕ
size_if false om = 0
size_if true om = size_of om

-- the instructions of those of the first methods that are found
abbrev pub size_found : List MethodInfo → List Bool → ℕ → ℕ
size_found ms found zero = 0
size_found ms found (suc u) =
    size_found ms found u + size_if (slice_index_or found u false) (slice_get ms u)
