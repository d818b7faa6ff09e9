-- Where a part of the run begins, no object is made or finished.
use Rattle.std.proofs.Common.{◌≡◌, inl, inr, ℕ, Bool, true, false, List, Some, refl, ap, sym, subst, Contains, slice_get, if◌then◌else◌}
use Rattle.machine_types.specs.{Construction.Construction, Core.{may_begin, next}, Structure.{IsAs, IsStructured}, Threads.{Frame, Thread}, Worlds.{Builder, IsViewOf, IsOwnOrFinished}}
use Rattle.machine_types.specs.declared.{lock.Held.Held, phase.Phase.{Phase, TheVariants.{Ended, Start}}}
use Rattle.laws_threads.specs.{PartLaws.{NextKeepsStructure, counted_next}, StateLaws.counted_of, StructureLaws.counted_by}
use Rattle.laws_states.proofs.BegunThreads.{StartsOrEnded, Begins, begun}
use Rattle.laws_objects.{specs.ConstructionLaws.NextKeepsConstruction, proofs.{Buildings.{Building, in_world, TriesIn, ThreadIn, BuiltState, building_in}, CountedPhases.{PhaseFits, counted_fits}}}
use Rattle.laws_objects.proofs.LostObjects.{SeenByAll, LostIn}
use Rattle.jvm_types.specs.declared.outcome.End.TheVariants as ends

-- ---- one thread

module _ (building : Building) (was : Phase) (z y : Thread) (begins : Begins z y) (k : ThreadIn building was z) where
  open building use {c, w, next, t}

  abbrev Fits : List Frame → Phase → Type 0
  Fits = PhaseFits (in_world building k.now)

  stays : (now : Phase) → Fits y.frames now → ThreadIn building now y
  stays now fits = record {
    now = k.now;
    now_is = subst (IsViewOf k.now w t) (sym begins.attempt) k.now_is;
    now_world = k.now_world;
    frames = fits.0;
    phase = fits.1;
    held = subst (λ (held : List Held). (h : Held) → Contains held h → IsOwnOrFinished w next t h.monitor) (sym begins.held) k.held;
    attempt = subst (λ (fs : List Frame). TriesIn building fs y.attempt) (sym begins.frames) (subst (TriesIn building z.frames) (sym begins.attempt) k.attempt);
  }

  same_fits : (phase : Phase) → Fits z.frames phase → Fits y.frames phase
  same_fits phase = subst (λ (fs : List Frame). Fits fs phase) (sym begins.frames)

  -- of the same phase, or without frames
  fits_now : IsAs z.phase was → IsStructured c (counted_by was y.phase) y → Fits y.frames (counted_by was y.phase)
  fits_now is_as stands = elim begins.phase [
    | inl e ↦ subst (λ (phase : Phase). Fits y.frames (counted_by was phase)) (sym e) (same_fits (counted_by was z.phase) (counted_fits (in_world building k.now) z.frames was z.phase is_as (k.frames, k.phase)))
    | inr f ↦ fresh y.phase refl f stands
  ]
    where
      fresh : (phase : Phase) → y.phase ≡ phase → StartsOrEnded phase → IsStructured c (counted_by was phase) y → Fits y.frames (counted_by was phase)
      fresh Start e f s = subst (λ (fs : List Frame). Fits fs Start) (sym s.stands.phase_shows) (tt, tt)
      fresh (Ended ends.Returned) e f s = subst (λ (fs : List Frame). Fits fs (Ended ends.Returned)) (sym s.stands.phase_shows) (tt, tt)
      fresh phase e f s = absurd f

-- ---- all of them

module _ (structured : NextKeepsStructure) (state : BuiltState) where
  open state use {constructed, c, frozen, owning, w, was, objects, s, con as k, facts}

  -- it sees the world as it did
  record Kept (u : ℕ) (phase : Phase) (y : Thread) : Type 0 where
    keeps : ThreadIn (building_in state u) phase y
    lost : (v : ℕ) (b : Builder) → SeenByAll constructed v b → keeps.now v ≡ Some b

  as_now : (u : ℕ) (y : Thread) (now : Phase) (z : Thread) (g : slice_get s.threads u ≡ Some z) (b : Begins z y) → PhaseFits (in_world (building_in state u) (k.each u z g).now) y.frames now → Kept u now y
  unfolding stays
  as_now u y now z g b fits = record { keeps = stays (building_in state u) (was u) z y b (k.each u z g) now fits; lost = λ v d all. all u z g }

  each : (u : ℕ) (y : Thread) → slice_get (next c s).threads u ≡ Some y → Kept u (counted_next c was s u) y
  each u y e =
      let b = begun c.program s.threads u y e in
      by_test (may_begin s.threads) b.0 b.1 b.2 (structured c was s facts.threads.parts facts.structure u y e)
    where
      by_test : (may : Bool) (z : Thread) → slice_get s.threads u ≡ Some z → Begins z y → IsStructured c (if may then counted_of (was u) (slice_get (next c s).threads u) else was u) y
          → Kept u (if may then counted_of (was u) (slice_get (next c s).threads u) else was u) y
      by_test true z g b stands =
          let counted = ap (counted_of (was u)) e in
          subst (λ (phase : Phase). Kept u phase y) (sym counted)
          (as_now u y (counted_by (was u) y.phase) z g b (fits_now (building_in state u) (was u) z y b (k.each u z g) (facts.structure u z g).is_as (subst (λ (phase : Phase). IsStructured c phase y) counted stands)))
      by_test false z g b stands =
          let j = k.each u z g in
          as_now u y (was u) z g b (same_fits (building_in state u) (was u) z y b j (was u) (j.frames, j.phase))

  pub record NextBuilds : Type 0 where
    pub keeps : Construction c frozen owning w (counted_next c was s) objects (next c s)
    pub lost : (v : ℕ) (b : Builder) → LostIn constructed v b → LostIn (record { c = c; frozen = frozen; owning = owning; w = w; was = counted_next c was s; objects = objects; s = next c s; con = keeps }) v b

  pub next_builds : NextBuilds
  next_builds = record {
    keeps = record { frozen_are = k.frozen_are; owned_are = k.owned_are; world = k.world; each = λ u y e. (each u y e).keeps; places = k.places };
    lost = λ v b l. record { item = l.item; is = l.is; seen = λ u y e. (each u y e).lost v b l.seen };
  }

pub next_keeps : NextKeepsStructure → NextKeepsConstruction
next_keeps structured c cfg objects was s frozen owning w marked facts k = (next_builds structured (record {
  constructed = record { c = c; frozen = frozen; owning = owning; w = w; was = was; objects = objects; s = s; con = k };
  cfg = cfg;
  marked = marked;
  facts = facts;
})).keeps
