-- The start of a run stands beside the start of the plain machine.
use Rattle.std.proofs.Common.{◌≡◌, ℕ, zero, suc, ◌≤◌, List, [], ◌∷◌, refl, sym, subst, inl, arith}
use Rattle.checked_program.specs.MarkedProgram.{MarkedProgram}
use Rattle.machine_types.specs.{Core.{start_thread, part_phase}, Parts.init_roots, PlainState.{PlainThread, plain_start, first_thread}, StartLaws.{StartAgrees, StartLiesApart}, Threads.Thread}
use Rattle.machine_types.{specs.declared.config.Config.Config, proofs.{AtStart.is_start_thread, PlainAtStart.plain_thread}}
use Rattle.laws_simulation.specs.{StandsBeside.{own_end, ends_shown}, StepsBeside.StartStandsBesidePlain}
use Rattle.machine_types.specs.PlainState as plain
use Rattle.machine_types.specs.declared.phase.Phase.TheVariants as phases

ends : (c : MarkedProgram) (cfg : Config) (t : ℕ) → (plain.plain_start_thread c.program t).ended ≡ ends_shown c.program (start_thread c cfg t).part (start_thread c cfg t).phase
ends c cfg zero = elim (init_roots c.program) as (λ (roots : List ℕ). (first_thread roots).ended ≡ own_end (part_phase roots)) [ [] ↦ refl | number ∷ roots ↦ refl ]
ends c cfg (suc t) = refl

none_made : (c : MarkedProgram) (cfg : Config) (t a word : ℕ) → (start_thread c cfg t).phase ≡ phases.Made a word → ⊥
none_made c cfg zero a word e = (elim (init_roots c.program) as (λ (roots : List ℕ). (a word : ℕ) → part_phase roots ≡ phases.Made a word → ⊥)
    [ [] ↦ λ a word e. cc | number ∷ roots ↦ λ a word e. cc ]) a word e
none_made c cfg (suc t) a word e = cc

pub start_beside : StartAgrees → StartLiesApart → StartStandsBesidePlain
start_beside agrees lies c cfg marked = record {
  agrees = agrees c cfg marked.checked.program;
  known = λ o k. (o, k, refl, refl, refl);
  others = λ e k. inl (e, k, refl);
  new_objects = λ t x a word e m. absurd (none_made c cfg t a word (subst (λ (z : Thread). z.phase ≡ phases.Made a word) (sym (is_start_thread c cfg t x e)) m));
  apart = lies c.program marked.checked.program;
  done = λ x e two none. absurd (let k : 2 ≤ (start_thread c cfg 0).part = subst (λ (z : Thread). 2 ≤ z.part) (sym (is_start_thread c cfg 0 x e)) two in omega (arith, k));
  ends = λ t x y e f. subst (λ (z : PlainThread). z.ended ≡ ends_shown c.program x.part x.phase) (plain_thread c.program t y f) (subst (λ (z : Thread). (plain.plain_start_thread c.program t).ended ≡ ends_shown c.program z.part z.phase) (is_start_thread c cfg t x e) (ends c cfg t));
}
