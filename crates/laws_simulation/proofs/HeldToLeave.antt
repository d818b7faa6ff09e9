-- A monitor that a thread outside attempts is to leave is one that it holds.
use Rattle.std.proofs.{Common.{◌≡◌, ℕ, ◌+◌, ◌<◌, ◌≤◌, Bool, true, false, cond, List, Option, Some, None, refl, sym, ◌∙◌, arith, slice_get, ◌==◌}, lemmas.Bool.Decides.nat_tests}
use Rattle.jvm_types.specs.declared.fixed_words.TheConstants.{FIRST_READY_WORD}
use Rattle.checked_program.specs.MarkedProgram.{MarkedProgram, IsMarked}
use Rattle.machine_types.specs.{Core.Core, HeldMonitors.held_at, PlainMemory.Object, Structure.{count_in, held_depth, once_at}, Threads.{Frame, Thread}}
use Rattle.machine_types.specs.{Typed.{Classes, AfterHolds, HasClass, IsObject}, declared.{lock.Held.Held, phase.After.After}}
use Rattle.laws_threads.proofs.{GoingOn.LeavingShows, HeldBounds.found, HeldLists.{depth_none, held_monitor}, Releases.goes_behind}
use Rattle.laws_states.{specs.HeapFacts.HeapFacts, proofs.{Lists.contained_got, Phases.some_of}}
use Rattle.machine_types.specs.declared.phase.After.TheVariants as afters

pub record IsHeld (held : List Held) (m : ℕ) : Type 0 where
  pub entry : Held
  pub is : held_at held m ≡ Some entry

once_here : (m k : ℕ) → k ≡ 1 → once_at m m ≡ k
once_here m k one = (elim (m == m) as (λ (b : Bool). b ≡ true → cond b 1 0 ≡ k) [ true ↦ λ e. sym one | false ↦ λ e. absurd (cc) ]) (grind (arith, nat_tests))

some_held : (m : ℕ) (held : List Held) (o : Option Held) → held_at held m ≡ o → 0 < held_depth m held → IsHeld held m
some_held m held None e lt = absurd (let none : held_depth m held ≡ 0 = depth_none m held e in omega arith)
some_held m held (Some h) e lt = record { entry = h; is = e }

-- the entry is shown, or it is the exit's own
module _ (is : Classes) (c : MarkedProgram) (m : ℕ) (fs : List Frame) (shown : List ℕ)
    (held : List Held) (marked : IsMarked c)
    (depth : count_in m shown ≡ held_depth m held + 0) where
  pub leaves_held : (a : After) → LeavingShows c m a fs shown → AfterHolds c is a fs → IsHeld held m
  leaves_held a k holds =
      let g = goes_behind is c marked m k.now a fs k.show k.leaves holds in
      let behind = g.counts m in
      let before = k.counts m in
      some_held m held (held_at held m) refl (omega (arith, once_here m 1 refl, behind, before, depth))

  pub exits_held : LeavingShows c m afters.Next fs shown → IsHeld held m
  exits_held k = let before = k.counts m in some_held m held (held_at held m) refl (omega (arith, once_here m 1 refl, before, depth))

-- and an object, so it is not null
pub held_not_null : (c : MarkedProgram) (objects : List Object) (s : Core) (t : ℕ) (x : Thread) (m : ℕ) → HeapFacts c objects s → slice_get s.threads t ≡ Some x → IsHeld x.held m → (m == 0) ≡ false
held_not_null c objects s t x m heap here k =
    let some : (n a : ℕ) → n ≡ a → FIRST_READY_WORD ≤ n → (a == 0) ≡ false = λ n a e h. grind (arith, nat_tests, e, h) in
    let object : IsObject (HasClass objects) k.entry.monitor = some_of (λ (g : Held). IsObject (HasClass objects) g.monitor) (held_at x.held m) k.entry k.is (found (λ g. IsObject (HasClass objects) g.monitor) m x.held (heap.monitors t x here).held) in
    let low : FIRST_READY_WORD ≤ object.1.0.reference = heap.apart.begin object.1.1.0 object.1.0 (contained_got objects object.1.0 object.1.1) in
    some (object.1.0.reference) m (object.1.2 ∙ held_monitor m x.held k.entry k.is) low
