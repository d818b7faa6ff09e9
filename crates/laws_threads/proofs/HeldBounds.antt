-- The bounds of what a thread holds, when a monitor is put on the held list or taken from it.
use Rattle.std.{proofs.{Common.{◌≡◌, ℕ, ◌+◌, ◌≤◌, Bool, List, [], ◌∷◌, Some, arith, ◌==◌, IfSome, if◌then◌else◌}, lemmas.Bool.Decides.nat_tests}, specs.List.AllByRecursion}
use Rattle.machine_types.specs.{Bounds.{KeptFits, flat_held}, HeldMonitors.{held_at, with_held, without_held}, declared.lock.{Held.Held}}
use Rattle.laws_threads.proofs.{HeldLists.held_monitor, Tests.either_way}

-- ---- each monitor

module _ (P : Held → Type 0) where
  pub each_put : (e : Held) (hs : List Held) → P e → AllByRecursion P hs → AllByRecursion P (with_held e hs)
  each_put e [] h all = (h, tt)
  each_put e (g ∷ hs) h all = either_way (λ (b : Bool). AllByRecursion P (with_held e hs) → AllByRecursion P (if b then e ∷ hs else g ∷ with_held e hs)) (g.monitor == e.monitor)
      (λ more. (h, all.1))
      (λ more. (all.0, more)) (each_put e hs h all.1)

  pub each_without : (m : ℕ) (hs : List Held) → AllByRecursion P hs → AllByRecursion P (without_held m hs)
  each_without m [] all = tt
  each_without m (g ∷ hs) all = either_way (λ (b : Bool). AllByRecursion P (without_held m hs) → AllByRecursion P (if b then hs else g ∷ without_held m hs)) (g.monitor == m)
      (λ more. all.1)
      (λ more. (all.0, more)) (each_without m hs all.1)

  pub found : (m : ℕ) (hs : List Held) → AllByRecursion P hs → IfSome (held_at hs m) P
  found m [] all = tt
  found m (g ∷ hs) all = either_way (λ (b : Bool). IfSome (held_at hs m) P → IfSome (if b then Some g else held_at hs m) P) (g.monitor == m) (λ more. all.0) (λ more. more) (found m hs all.1)

-- ---- flat locks

abbrev pub flat : Held → ℕ
flat h = flat_held (h ∷ [])

pub flat_put : (e : Held) (hs : List Held) → flat_held (with_held e hs) ≤ flat e + flat_held hs
flat_put e [] = omega arith
flat_put e (g ∷ hs) = grind (arith, nat_tests, flat_put e hs)

pub flat_without : (m : ℕ) (hs : List Held) → flat_held (without_held m hs) ≤ flat_held hs
flat_without m [] = omega arith
flat_without m (g ∷ hs) = grind (arith, nat_tests, flat_without m hs)

-- what stands in place of the entry of its monitor
pub flat_refit : (m : ℕ) (hs : List Held) (h e : Held) → held_at hs m ≡ Some h → e.monitor ≡ h.monitor → flat_held (with_held e hs) + flat h ≡ flat e + flat_held hs
flat_refit m [] h e found same = absurd (cc)
flat_refit m (g ∷ hs) h e found same = grind (arith, nat_tests, found, same, held_monitor m (g ∷ hs) h found, λ (f : held_at hs m ≡ Some h). flat_refit m hs h e f same)

-- ---- one lock is at most one flat lock

pub flat_at_most_one : (h : Held) → flat h ≤ 1
flat_at_most_one h = grind arith

-- ---- all bounds of what is held

pub record HeldFit (held : List Held) (instructions inflated locked : ℕ) : Type 0 where
  pub kept : AllByRecursion (λ h. KeptFits h.kept) held
  pub depths : AllByRecursion (λ h. h.depth ≤ instructions) held
  pub inflated_few : inflated + flat_held held ≤ locked
