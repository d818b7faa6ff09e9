-- What an event finds of objects and places is what it is read as.
use Rattle.std.specs.Prelude.{◌≡◌, ℕ, List, Some, slice_get}
use Rattle.checked_program.specs.MarkedProgram.{MarkedProgram, IsMarked}
use Rattle.machine_types.specs.Accesses.{found_by}
use Rattle.machine_types.specs.Core.{Core}
use Rattle.machine_types.specs.Events.{wanted}
use Rattle.machine_types.specs.FoundWords.{Content, Lock, Owner, Bits, content_at, Fits}
use Rattle.machine_types.specs.Lawful.{IsLawful}
use Rattle.machine_types.specs.PlainMemory.{Object}
use Rattle.machine_types.specs.Threads.{Thread}
use Rattle.laws_states.specs.HeapFacts.{HeapFacts}

-- no lock word, and no word of a monitor record
abbrev pub IsOfHeap : Content → Type 0
IsOfHeap Lock = ⊥
IsOfHeap Owner = ⊥
IsOfHeap Bits = ⊥
IsOfHeap content = Unit {0}

abbrev pub HeapWordsFit : Type 0
HeapWordsFit = (c : MarkedProgram) (objects : List Object) (s : Core) (t : ℕ) (x : Thread)
    → IsMarked c → HeapFacts c objects s → slice_get s.threads t ≡ Some x → IsLawful c x
    → IsOfHeap (content_at c x x.phase) → Fits c x (found_by s.words (wanted c x x.phase))
