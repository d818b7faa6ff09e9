-- An event leaves what a thread was given as it was.
use Rattle.std.proofs.Common.{◌≡◌, ℕ, Option, Some, refl, ◌∙◌}
use Rattle.checked_program.specs.MarkedProgram.{MarkedProgram}
use Rattle.machine_types.specs.{Events.moved, Going.goes_on_if, Onward.Onward, Threads.Thread, declared.phase.Phase.Phase}
use Rattle.laws_threads.{specs.GivenThread.given_of, proofs.ThreadMove.{Move, becomes, by_move, of_mover, same_onward}}
use Rattle.laws_threads.proofs.ThreadMove as moves

goes_if : (s : Thread) (o : Option Onward) → given_of (goes_on_if s o) ≡ given_of s
goes_if = same_onward given_of (λ s frames phase turns. refl)

given_moved : (c : MarkedProgram) (s : Thread) (got : ℕ) (was : Phase) (k : Move c s got was) → given_of (becomes c s got was k) ≡ given_of s
given_moved c s got was (moves.goes o k) = goes_if s (Some o)
given_moved c s got was (moves.gives_up m a k) = goes_if _ _
given_moved c s got _ (moves.leaves_outer m a h l t) = goes_if _ _
given_moved c s got _ (moves.leaves_inside m a t inner k e) = goes_if _ _
given_moved c s got _ (moves.finishes_try m a t k e y) = goes_if _ _
given_moved c s got _ (moves.starts number roots e) = goes_if _ _
given_moved c s got was k = refl

pub same_given : (c : MarkedProgram) (s : Thread) (phase : Phase) (got : ℕ) → given_of (moved c s phase got) ≡ given_of s
same_given c s phase got = by_move (λ y. given_of y ≡ given_of s) c s phase got
    (λ k. given_moved c _ got phase k ∙ of_mover (λ y. given_of y ≡ given_of s) c.program phase s refl refl)
