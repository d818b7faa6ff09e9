-- A monitor that a thread is to leave is one that it holds, or that of its attempt.
use Rattle.std.proofs.{Common.{◌≡◌, ℕ, ◌+◌, ◌<◌, Bool, true, false, Option, Some, None, List, refl, ap, subst, arith, ◌==◌, ◌≢◌, if◌then◌else◌}, lemmas.Bool.Decides.nat_tests}
use Rattle.checked_program.specs.MarkedProgram.{MarkedProgram, IsMarked}
use Rattle.machine_types.specs.{HeldMonitors.held_at, Monitors.{Tries, HasNot, claim_by}, Structure.{Stands, tried_depth, once_at}, Threads.{Frame, Attempt}, Typed.{Classes, AfterHolds}}
use Rattle.machine_types.specs.declared.{lock.Held.Held, phase.{After.After, Phase.TheVariants.Leave}}
use Rattle.laws_threads.proofs.{HeldLists.depth_by, Releases.goes_behind}

once_here : (m : ℕ) → 0 < once_at m m
once_here m = let same : (m == m) ≡ true = grind (arith, nat_tests) in rw same (omega arith)

claimed : (m : ℕ) (held : Option Held) (attempt : Option Attempt) → 0 < depth_by held + tried_depth m attempt → claim_by m held attempt ≢ HasNot
claimed m (Some h) attempt some = λ e. cc
claimed m None None some = absurd (omega (arith, some))
claimed m None (Some a) some = (elim (a.monitor == m) as (λ (b : Bool). 0 < 0 + (if b then a.inner + 1 else 0) → (if b then Tries a else HasNot) ≢ HasNot)
    [ true ↦ λ some. λ e. cc | false ↦ λ some. absurd (omega (arith, some)) ]) some

-- its entry is shown, or it is the exit's own
pub leaves_claimed : (is : Classes) (c : MarkedProgram) (m : ℕ) (a : After) (fs : List Frame) (held : List Held) (attempt : Option Attempt) → IsMarked c → Stands c (Leave m a) fs held attempt → AfterHolds c is a fs
    → claim_by m (held_at held m) attempt ≢ HasNot
leaves_claimed is c m a fs held attempt marked k holds =
    claimed m (held_at held m) attempt (omega (arith, once_here m, (goes_behind is c marked m k.shown a fs k.show k.phase_shows holds).counts m, k.depths m))

-- that of an attempt is its monitor
pub tried_at : (m : ℕ) (held : Option Held) (attempt : Option Attempt) (a : Attempt) → claim_by m held attempt ≡ Tries a → (attempt ≡ Some a) × (a.monitor ≡ m)
tried_at m (Some h) attempt a e = absurd (cc)
tried_at m None None a e = absurd (cc)
tried_at m None (Some b) a e = (elim (b.monitor == m) as (λ (t : Bool). (b.monitor == m) ≡ t → (if t then Tries b else HasNot) ≡ Tries a → (Some b ≡ Some a) × (a.monitor ≡ m))
    [ true ↦ λ t e. let one : b ≡ a = cc in (ap Some one, subst (λ (k : Attempt). k.monitor ≡ m) one (grind (arith, nat_tests, t))) | false ↦ λ t e. absurd (cc) ]) refl e
