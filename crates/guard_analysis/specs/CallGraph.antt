-- The graph of calls. Its nodes are the methods, each three times: as it is called on the section's
-- object, as it is called off it, and as sections on a class call it, whichever class that is; its
-- edges are the calls of reached instructions.
use Rattle.std.specs.Prelude.{◌≡◌, ◌+◌, ◌*◌, ◌/◌, ◌%◌, ℕ, zero, suc, ◌==◌, nat_lt, if◌then◌else◌}
use Rattle.std.specs.Prelude.{List, length, Option, Some, None, slice_get}
use Rattle.jvm_types.specs.declared.code.Insn.{Insn}
use Rattle.jvm_types.specs.declared.code.Op.{Op}
use Rattle.jvm_types.specs.declared.program.Target.{Target}
use Rattle.jvm_types.specs.declared.program.MethodInfo.{MethodInfo}
use Rattle.jvm_types.specs.declared.program.Program.{Program}
use Rattle.checked_program.specs.LockTags.{TagShape}
use Rattle.checked_program.specs.TaggedCode.{Tagged}
use Rattle.checked_program.specs.Marks.{Callee, Calls, called_method, receiver_tag, called_mode}
use Rattle.checked_program.specs.declared.tag.Tag.{Tag}
use Rattle.checked_program.specs.declared.tag.Tags.{Tags}
use Rattle.checked_program.specs.declared.section.Mode.{Mode}
use Rattle.checked_program.specs.declared.section.Mode.TheVariants.{OnThis, OffThis, OnClass}
use Rattle.graph_closure.specs.Walks.{IsEdge}
use Rattle.checked_program.specs.CallEdges.{no_edges, with_edge}
use Rattle.checked_program.specs.declared.call_edges.Graph.{Graph}

-- ---- nodes

abbrev pub mode_number : Mode → ℕ
mode_number OnThis = 0
mode_number OffThis = 1
mode_number (OnClass class) = 2

abbrev pub node_of : Callee → ℕ
node_of a = 3 * a.method + mode_number a.mode

-- how the method of a node is called, where sections on a class are on this one
abbrev pub mode_by : (class rest : ℕ) → Mode
mode_by class rest = if rest == 0 then OnThis else if rest == 1 then OffThis else OnClass class

abbrev pub mode_at : (class node : ℕ) → Mode
mode_at class a = mode_by class (a % 3)

-- the edges are the calls
pub record AreCalls (p : Program) (tags : Tagged) (from to : List ℕ) : Type 0 where
  pub there : (a b : Callee) (i : ℕ) → Calls p tags a i b → IsEdge from to (node_of a) (node_of b)
  pub only : (a : Callee) (y : ℕ) → IsEdge from to (node_of a) y
      → (b : Callee) × (node_of b ≡ y) × ((i : ℕ) × Calls p tags a i b)

-- ---- edges, one call after the other

abbrev pub node_in : ℕ → Option ℕ → Mode → Option ℕ
node_in methods None mode = None
node_in methods (Some u) mode = if nat_lt u methods then Some (3 * u + mode_number mode) else None

abbrev pub call_node : Program → Mode → Op → Target → List Tag → Option ℕ
call_node p mode op target stack =
    node_in (length p.methods) (called_method op target)
    (called_mode mode (receiver_tag p op target stack))

-- the call of the instruction of a number, with its target and its tags
abbrev pub call_at : Program → Mode → Option Insn → Option Target → Option (Option TagShape)
    → Option ℕ
call_at p mode (Some insn) (Some target) (Some (Some f)) = call_node p mode insn.op target f.stack
call_at p mode insn target f = None

-- with the calls of the first instructions of the method of a node
abbrev pub edges_before : Program → MethodInfo → List (Option TagShape) → ℕ → Graph → ℕ → Graph
edges_before p m frames a g zero = g
edges_before p m frames a g (suc i) =
    with_edge a (edges_before p m frames a g i)
    (call_at p (mode_at 0 a) (slice_get m.code i) (slice_get m.targets i) (slice_get frames i))

abbrev pub node_edges : Program → Option MethodInfo → Option Tags → ℕ → Graph → Graph
node_edges p (Some m) (Some t) a g = edges_before p m t.frames a g (length m.code)
node_edges p m t a g = g

-- the calls of the first nodes
abbrev pub graph_before : Program → List Tags → ℕ → Graph
graph_before p tags zero = no_edges
graph_before p tags (suc a) =
    node_edges p (slice_get p.methods (a / 3)) (slice_get tags (a / 3)) a (graph_before p tags a)

abbrev pub call_graph : Program → List Tags → Graph
call_graph p tags = graph_before p tags (3 * length p.methods)
