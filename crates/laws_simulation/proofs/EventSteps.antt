-- What an event of a thread outside attempts leaves as it is.
use Rattle.std.proofs.Common.{◌≡◌, ℕ, Bool, true, false, cond, List, [], ◌∷◌, Option, Some, None, refl, ap}
use Rattle.jvm_types.specs.declared.{program.Program.Program}
use Rattle.machine_types.specs.{Accesses.{words_after}, Elision.{is_checked, if_same}}
use Rattle.machine_types.specs.{Frames.{Top}, Going.{goes_on, root_over}}
use Rattle.machine_types.specs.{Instructions.{did, instructed}, Onward.{Onward, Running, Throwing, Entering, Leaving, RootReturned, Uncaught}}
use Rattle.machine_types.specs.{Threads.{Attempt, Thread}}
use Rattle.machine_types.specs.declared.{access.Access.{Access, TheVariants.Load}, effect.Effect.Effect}
use Rattle.laws_states.{proofs.WordViews.set_self}
use Rattle.jvm_types.specs.declared.outcome.End.TheVariants as ends
use Rattle.machine_types.specs.declared.phase.Phase.TheVariants as phases

-- outside attempts nothing is checked
pub not_checked : (p : Program) (x : Thread) (at : Top) (e : Effect) (got : ℕ) → x.attempt ≡ None → instructed p x at e got ≡ did p x at e got
not_checked p x at e got none = elim (is_checked at.frame.pc e) as (λ (b : Bool). cond b (if_same x x.attempt got (did p x at e got)) (did p x at e got) ≡ did p x at e got)
    [ true ↦ ap (λ (a : Option Attempt). if_same x a got (did p x at e got)) none | false ↦ refl ]

-- ---- accesses that leave the words as they are

abbrev pub LeavesWords : List ℕ → Option Access → Type 0
LeavesWords words access = words_after words access ≡ words

pub load_leaves : (words : List ℕ) (w : ℕ) → LeavesWords words (Some (Load w))
load_leaves words w = set_self words w

-- ---- a thread that goes on

-- it has its part, what it holds and its attempt, and makes no object
pub record WentOn (z y : Thread) : Type 0 where
  pub part : y.part ≡ z.part
  pub held : y.held ≡ z.held
  pub attempt : y.attempt ≡ z.attempt
  pub makes : (a word : ℕ) → y.phase ≡ phases.Made a word → ⊥

pub run_made : (b : Bool) (a word : ℕ) → cond b phases.Run (phases.Ending ends.Steps) ≡ phases.Made a word → ⊥
run_made true a word e = cc
run_made false a word e = cc

pub gone_on : (z : Thread) (o : Onward) → WentOn z (goes_on z o)
gone_on z (Running frames) = record { part = refl; held = refl; attempt = refl; makes = λ a word e. run_made _ a word e }
gone_on z (Throwing x class frames) = record { part = refl; held = refl; attempt = refl; makes = λ a word e. cc }
gone_on z (Entering m frames) = record { part = refl; held = refl; attempt = refl; makes = λ a word e. cc }
gone_on z (Leaving m a frames) = record { part = refl; held = refl; attempt = refl; makes = λ a word e. cc }
gone_on z RootReturned = record {
  part = refl;
  held = refl;
  attempt = refl;
  makes = elim z.roots as (λ (roots : List ℕ). (a word : ℕ) → root_over roots ≡ phases.Made a word → ⊥)
      [ [] ↦ λ a word e. cc | number ∷ roots ↦ λ a word e. cc ];
}
gone_on z (Uncaught class) = record { part = refl; held = refl; attempt = refl; makes = λ a word e. cc }
