-- Where a part of the run begins, each thread holds what it held.
use Rattle.std.proofs.Common.{⊎_elim, ◌≡◌, inl, inr, ℕ, ◌≤◌, Bool, true, false, cond, List, Option, Some, refl, ap, sym, subst, ◌∙◌, arith, slice_get}
use Rattle.std.{specs.List.{sum, sum_by}, proofs.lemmas.List.Sums.sum-map}
use Rattle.jvm_types.specs.declared.{outcome.End.End, program.Program.Program}
use Rattle.machine_types.specs.{Core.{may_begin, with_roots, next_threads, next}, HeldMonitors.held_at}
use Rattle.machine_types.specs.{Owners.{Locks, locks_in, hold_by_list, drawn_by, Knows, PhaseSaw, AttemptSawIn, IsKeptIn, Owns, one_if_flat}}
use Rattle.machine_types.specs.{Structure.IsAs, Threads.{Attempt, Thread}, declared.{config.Config.Config, lock.Held.Held, phase.Phase.Phase}}
use Rattle.laws_threads.specs.{PartLaws.counted_next, StateLaws.counted_of, StructureLaws.counted_by}
use Rattle.laws_states.{specs.OwnersLaws.NextKeepsOwners, proofs.{BegunThreads.{StartsOrEnded, Begins, begun}, LeftAsTheyWere.next_left, CountedPhases.{turned_keeps, counted_keeps, IsPlain, plain_knows, plain_saw}}}
use Rattle.jvm_types.specs.declared.outcome.End.TheVariants as ends
use Rattle.machine_types.specs.declared.phase.Phase.TheVariants as phases

-- ---- sums over threads stay

next_sum : (f : Thread → ℕ) → ((roots : List ℕ) (x : Thread) → f (with_roots roots x) ≡ f x) → ((x : Thread) (part : ℕ) (first : Option End) → f (record x { part = part; first = first }) ≡ f x)
    → (p : Program) (threads : List Thread) → sum_by f (next_threads p threads) ≡ sum_by f threads
next_sum f rooted counted p threads = sym (sum-map f (next_threads p threads)) ∙ ap sum (next_left f rooted counted p threads) ∙ sum-map f threads

-- ---- one thread

fresh_plain : (was phase : Phase) → StartsOrEnded phase → IsPlain (counted_by was phase)
fresh_plain was phases.Start fresh = tt
fresh_plain was (phases.Ended ends.Returned) fresh = tt
fresh_plain was phase fresh = absurd fresh

fresh_draws_none : (phase : Phase) (r : ℕ) → StartsOrEnded phase → drawn_by phase ≡ Some r → ⊥
fresh_draws_none phases.Start r fresh e = cc
fresh_draws_none (phases.Ended ends.Returned) r fresh e = cc
fresh_draws_none phase r fresh e = absurd fresh

module _ (v : Locks) (count : ℕ → ℕ) (u : ℕ) (z y : Thread) (begins : Begins z y) where
  stays : (was : Phase) → Owns v count u was z → (now : Phase) → Knows v u now → PhaseSaw v count now → Owns v count u now y
  stays was owns now knows saw = record {
    holds = λ m. owns.holds m ∙ ap (λ (hs : List Held). hold_by_list (held_at hs m)) (sym begins.held);
    knows = knows;
    keeps_count = λ m. subst (λ (hs : List Held). IsKeptIn (held_at hs m) (count m)) (sym begins.held) (owns.keeps_count m);
    take = saw;
    attempt = subst (λ (cfg : Config). AttemptSawIn v count cfg y.attempt) (sym begins.cfg) (subst (λ (a : Option Attempt). AttemptSawIn v count z.cfg a) (sym begins.attempt) owns.attempt);
  }

  counted_stays : (was : Phase) → Owns v count u was z → IsAs z.phase was → Owns v count u (counted_by was y.phase) y
  counted_stays was owns is_as = elim begins.phase [
    | inl e ↦ subst (λ (phase : Phase). Owns v count u (counted_by was phase) y) (sym e)
        (stays was owns (counted_by was z.phase) (counted_keeps (Knows v u) was z.phase is_as owns.knows (turned_keeps (Knows v u) (λ m. tt) was owns.knows))
        (counted_keeps (PhaseSaw v count) was z.phase is_as owns.take (turned_keeps (PhaseSaw v count) (λ m. tt) was owns.take)))
    | inr fresh ↦ let plain = fresh_plain was y.phase fresh in stays was owns (counted_by was y.phase) (plain_knows v u (counted_by was y.phase) plain) (plain_saw v count (counted_by was y.phase) plain)
  ]

drew_before : (z y : Thread) (r : ℕ) → Begins z y → drawn_by y.phase ≡ Some r → drawn_by z.phase ≡ Some r
drew_before z y r begins e = ⊎_elim (λ (same : y.phase ≡ z.phase). ap drawn_by (sym same) ∙ e) (λ (fresh : StartsOrEnded y.phase). absurd (fresh_draws_none y.phase r fresh e)) begins.phase

-- ---- all

pub next_keeps_owners : NextKeepsOwners
next_keeps_owners c references was s structure owners = record {
  count = owners.count;
  locks_are = owners.locks_are;
  each = each_owns;
  apart = λ t u x y e f d r g h.
      let k = begun c.program s.threads t x e in
      let l = begun c.program s.threads u y f in
      owners.apart t u k.0 l.0 k.1 l.1 d r (drew_before k.0 x r k.2 g) (drew_before l.0 y r l.2 h);
  within = λ m t x e. let k = begun c.program s.threads t x e in subst (λ (cfg : Config). owners.count m ≤ cfg.range) (sym k.2.cfg) (owners.within m t k.0 k.1);
  few = λ m.
      let flat = next_sum (λ x. one_if_flat (hold_by_list (held_at x.held m))) (λ roots x. refl) (λ n first x. refl) c.program s.threads in
      omega (arith, flat, (next_sum (λ x. x.counts.locked) (λ roots x. refl) (λ n first x. refl) c.program s.threads), (owners.few m));
}
  where
    each_owns : (u : ℕ) (y : Thread) → slice_get (next_threads c.program s.threads) u ≡ Some y → Owns (locks_in references s.words) owners.count u (counted_next c was s u) y
    each_owns u y e = by_thread (begun c.program s.threads u y e)
      where
        by_thread : (z : Thread) × (slice_get s.threads u ≡ Some z) × Begins z y → Owns (locks_in references s.words) owners.count u (counted_next c was s u) y
        by_thread k = by_test (may_begin s.threads)
          where
            owns : Owns (locks_in references s.words) owners.count u (was u) k.0
            owns = owners.each u k.0 k.1

            by_test : (b : Bool) → Owns (locks_in references s.words) owners.count u (cond b (counted_of (was u) (slice_get (next c s).threads u)) (was u)) y
            by_test true = subst (λ (o : Option Thread). Owns (locks_in references s.words) owners.count u (counted_of (was u) o) y) (sym e) (counted_stays (locks_in references s.words) owners.count u k.0 y k.2 (was u) owns (structure u k.0 k.1).is_as)
            by_test false = stays (locks_in references s.words) owners.count u k.0 y k.2 (was u) owns (was u) owns.knows owns.take
