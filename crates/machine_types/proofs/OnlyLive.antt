-- An event of a thread that is not live changes nothing.
use Rattle.std.proofs.Common.{◌≡◌, ℕ, false, Option, Some, None, refl, ap, slice_get}
use Rattle.checked_program.specs.MarkedProgram.{MarkedProgram}
use Rattle.machine_types.specs.{Accesses.found_by, Core.{Core, accessed_by, event_of, is_live, is_live_thread}, EventLaws.OnlyLiveChange, Events.{wanted, moved}, Threads.{Thread, Phase}}
use Rattle.machine_types.proofs.Lists.{set_as_it_is}
use Rattle.machine_types.specs.declared.phase.Phase.TheVariants as phases

at_rest : (s : Core) (t : ℕ) (x : Thread) → slice_get s.threads t ≡ Some x → accessed_by s t None x ≡ s
at_rest s t x e = ap (λ threads. record s { threads = threads }) (set_as_it_is s.threads t x e)

by_phase : (c : MarkedProgram) (s : Core) (t : ℕ) (x : Thread) (phase : Phase) → slice_get s.threads t ≡ Some x → is_live phase ≡ false
    → accessed_by s t (wanted c x phase) (moved c x phase (found_by s.words (wanted c x phase))) ≡ s
by_phase c s t x phases.Idle e d = at_rest s t x e
by_phase c s t x (phases.Ended how) e d = at_rest s t x e
by_phase c s t x phase e d = cc

by_thread : (c : MarkedProgram) (s : Core) (t : ℕ) (x : Option Thread) → slice_get s.threads t ≡ x → is_live_thread x ≡ false → event_of c s t x ≡ s
by_thread c s t None e d = refl
by_thread c s t (Some x) e d = by_phase c s t x x.phase e d

pub only_live_change : OnlyLiveChange
only_live_change c s t d = by_thread c s t (slice_get s.threads t) refl d
