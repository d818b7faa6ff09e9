-- An event inside an attempt only looks, so it changes no word.
use Rattle.std.proofs.Common.{ℕ, List, Option, Some, None, refl, sym, ap, ◌∙◌, subst}
use Rattle.checked_program.specs.MarkedProgram.{MarkedProgram}
use Rattle.machine_types.specs.{Core.event_of, Events.wanted, Threads.{Attempt, Thread}, declared.{access.Access.{Access, TheVariants.Load}, phase.Phase.{Phase, TheVariants.Ending}}}
use Rattle.laws_threads.specs.{InsideEffects.InsideMayDo, InsideMoves.ElementsInside}
use Rattle.laws_simulation.proofs.EventSteps.{LeavesWords, load_leaves}
use Rattle.laws_refinement.{specs.{ElidedSteps.AttemptsAreSilent, Entries.{IsLook, OnlyLooks}}, proofs.{Inside.{Inside, is_inside}, Looks.only_looks}}

look_leaves : (words : List ℕ) (access : Option Access) → IsLook access → LeavesWords words access
look_leaves words None k = refl
look_leaves words (Some (Load w)) k = load_leaves words w
look_leaves words (Some access) k = absurd k

looks_leave : (words : List ℕ) (phase : Phase) (access : Option Access) → OnlyLooks phase access → LeavesWords words access
looks_leave words (Ending e) access k = subst (LeavesWords words) (sym k.0) refl
looks_leave words phase access k = look_leaves words access k

pub words_stay : (words : List ℕ) (c : MarkedProgram) (x : Thread) (a : Attempt) → Inside c x a → LeavesWords words (wanted c x x.phase)
words_stay words c x a k = looks_leave words x.phase (wanted c x x.phase) (only_looks c x a x.phase k.known)

pub attempts_are_silent : InsideMayDo → ElementsInside → AttemptsAreSilent
attempts_are_silent may_do elements c cfg objects was s t x a marked width facts here attempt =
    ap (λ (o : Option Thread). (event_of c s t o).words) here ∙ words_stay s.words c x a (is_inside may_do elements c marked x a attempt (was t) (facts.structure t x here))
