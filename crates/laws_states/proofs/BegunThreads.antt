-- Where a part of the run begins, each thread is as it was, but for the roots and the phase that its part begins with.
use Rattle.std.proofs.Common.{◌≡◌, ◌⊎◌, inl, inr, ℕ, zero, suc, Bool, true, false, List, [], ◌∷◌, Some, refl, slice_get, if◌then◌else◌}
use Rattle.jvm_types.specs.declared.program.Program.{Program}
use Rattle.machine_types.specs.{Core.{part_phase, may_begin, with_roots, how_ended, part_begins, next_threads}, Parts.{run_roots, done_roots}, Threads.Thread, declared.phase.Phase.Phase}
use Rattle.laws_states.proofs.Lists.{first_each, mapped_each}
use Rattle.jvm_types.specs.declared.outcome.End.TheVariants as ends
use Rattle.machine_types.specs.declared.phase.Phase.TheVariants as phases

abbrev pub StartsOrEnded : Phase → Type 0
StartsOrEnded phases.Start = Unit {0}
StartsOrEnded (phases.Ended ends.Returned) = Unit {0}
StartsOrEnded phase = ⊥

pub record Begins (x y : Thread) : Type 0 where
  pub frames : y.frames ≡ x.frames
  pub held : y.held ≡ x.held
  pub attempt : y.attempt ≡ x.attempt
  pub cfg : y.cfg ≡ x.cfg
  pub phase : (y.phase ≡ x.phase) ⊎ StartsOrEnded y.phase

same_thread : (x : Thread) → Begins x x
same_thread x = record { frames = refl; held = refl; attempt = refl; cfg = refl; phase = inl refl }

fresh_phase : (roots : List ℕ) → StartsOrEnded (part_phase roots)
fresh_phase [] = tt
fresh_phase (number ∷ roots) = tt

with_part : (x y : Thread) (roots : List ℕ) → y.frames ≡ x.frames → y.held ≡ x.held → y.attempt ≡ x.attempt → y.cfg ≡ x.cfg → Begins x (with_roots roots y)
with_part x y roots f h a c = record { frames = f; held = h; attempt = a; cfg = c; phase = inr (fresh_phase roots) }

part_begun : (p : Program) (part : ℕ) (x : Thread) (workers : List Thread) (u : ℕ) (y : Thread) → slice_get (part_begins p part x workers) u ≡ Some y → (z : Thread) × (slice_get (x ∷ workers) u ≡ Some z) × Begins z y
part_begun p zero x workers = mapped_each (λ u y. (z : Thread) × (slice_get (x ∷ workers) u ≡ Some z) × Begins z y) (record x { part = 1; first = how_ended x.phase }) (with_roots (run_roots p)) workers
    (x, refl, record { frames = refl; held = refl; attempt = refl; cfg = refl; phase = inl refl }) (λ u w e. (w, e, with_part w w (run_roots p) refl refl refl refl))
part_begun p (suc part) x workers = first_each (λ u y. (z : Thread) × (slice_get (x ∷ workers) u ≡ Some z) × Begins z y) (with_roots (done_roots p) (record x { part = 2 })) workers
    (x, refl, with_part x (record x { part = 2 }) (done_roots p) refl refl refl refl) (λ u w e. (w, e, same_thread w))

pub begun : (p : Program) (threads : List Thread) (u : ℕ) (y : Thread) → slice_get (next_threads p threads) u ≡ Some y → (z : Thread) × (slice_get threads u ≡ Some z) × Begins z y
begun p [] u y e = absurd (cc)
begun p (x ∷ workers) u y e = (elim (may_begin (x ∷ workers)) as
    (λ (b : Bool). slice_get (if b then part_begins p x.part x workers else x ∷ workers) u ≡ Some y → (z : Thread) × (slice_get (x ∷ workers) u ≡ Some z) × Begins z y)
    [ true ↦ λ e. part_begun p x.part x workers u y e | false ↦ λ e. (y, e, same_thread y) ]) e
