-- The thread at the start of a run.
use Rattle.std.proofs.Common.{◌≡◌, ℕ, zero, suc, List, [], None, refl}
use Rattle.jvm_types.specs.declared.{outcome.Print.Print, typing.Typing.Typing}
use Rattle.checked_program.specs.{MarkedProgram.MarkedProgram, declared.{section.SectionMark.SectionMark, tag.Tags.Tags}}
use Rattle.machine_types.specs.{Core.start_thread, Threads.{Thread, no_counts, fresh}, declared.{config.Config.Config, lock.Held.Held, phase.Phase.Phase}}
use Rattle.frames.specs.{FrameLists.Frames, RootLists.{RootLists, first_roots, later_roots}, ThreadParts.start_phase}

start_is : (c : MarkedProgram) (cfg : Config) (number : ℕ)
    → fresh c cfg number (start_phase number (first_roots c.program number)) (first_roots c.program number) ≡ start_thread c cfg number
start_is c cfg zero = refl
start_is c cfg (suc t) = refl

abbrev with_parts : Config → (number : ℕ) → (typings : List Typing) → (tags : List Tags) → (marks : List SectionMark) → Frames → List Held → List Print → RootLists → Phase → Thread
with_parts cfg number typings tags marks fs held prints roots phase = record {
  program = record { program = fs.program; typings = typings; tags = tags; marks = marks };
  cfg = cfg;
  number = number;
  phase = phase;
  frames = fs.frames;
  held = held;
  attempt = None;
  roots = roots.left;
  turns = 0;
  counts = no_counts;
  prints = prints;
  part = 0;
  first = None;
}

pub started : (c : MarkedProgram) (cfg : Config) (number : ℕ) (typings : List Typing) (tags : List Tags) (marks : List SectionMark) (fs : Frames) (held : List Held) (prints : List Print) (roots : RootLists) (phase : Phase)
    → typings ≡ c.typings → tags ≡ c.tags → marks ≡ c.marks → fs ≡ record { program = c.program; frames = [] } → held ≡ [] → prints ≡ []
    → roots ≡ record { left = first_roots c.program number; later = later_roots c.program number } → phase ≡ start_phase number roots.left
    → with_parts cfg number typings tags marks fs held prints roots phase ≡ start_thread c cfg number
started c cfg number typings tags marks fs held prints roots phase a b d e f g h k = rw (k, h, g, f, e, d, b, a) (start_is c cfg number)
