-- The parts of a lawful state, each kept by a law of its own, make a lawful state again.
use Rattle.machine_types.specs.{Events.moved, Threads.Thread}
use Rattle.laws_threads.specs.{BoundLaws.BoundsAreKept, KeptTypes.TypesAreKept, LawfulLaws.LawfulIsKept, RootLaws.RootsAreKept, StructureLaws.{counted_by, StaysStructured, StructureIsKept}}

pub lawful_kept : StructureIsKept → TypesAreKept → BoundsAreKept → RootsAreKept → LawfulIsKept
lawful_kept structure types bounds roots c s got marked h fits =
    let now : Thread = moved c s s.phase got in
    let structured : StaysStructured c h.was now = structure c h.was s got marked h.structured h.typed h.rooted in
    record {
      was = counted_by h.was now.phase;
      structured = structured;
      typed = types c h.was (counted_by h.was now.phase) s got marked h.structured h.typed h.bounded h.rooted fits structured;
      bounded = bounds c h.was s got marked h.structured h.typed h.bounded fits;
      rooted = roots c s got h.rooted;
    }
