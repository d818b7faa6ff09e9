-- The entry of a monitor that a thread holds: it is of that monitor, and what it keeps is within its bounds.
use Rattle.std.{proofs.{Common.{◌≡◌, ℕ, Bool, true, false, List, [], ◌∷◌, Option, Some, refl, subst, arith, ◌==◌, if◌then◌else◌}, lemmas.Bool.Decides.nat_tests}, specs.List.AllByRecursion}
use Rattle.machine_types.specs.{Bounds.KeptFits, HeldMonitors.held_at, declared.lock.Held.Held}

abbrev pub AllFit : List Held → Type 0
AllFit hs = AllByRecursion (λ h. KeptFits h.kept) hs

first_or_later : (b : Bool) (h e : Held) (o : Option Held) → KeptFits h.kept → (o ≡ Some e → KeptFits e.kept) → (if b then Some h else o) ≡ Some e → KeptFits e.kept
first_or_later true h e o k more q = let same : h ≡ e = cc in subst (λ (x : Held). KeptFits x.kept) same k
first_or_later false h e o k more q = more q

pub kept_fits : (hs : List Held) (m : ℕ) (h : Held) → AllFit hs → held_at hs m ≡ Some h → KeptFits h.kept
kept_fits [] m h all q = cc
kept_fits (x ∷ xs) m h (k, all) q = first_or_later (x.monitor == m) x h (held_at xs m) k (λ r. kept_fits xs m h all r) q

held_of : (b : Bool) (m : ℕ) (x h : Held) (o : Option Held) → (x.monitor == m) ≡ b → (o ≡ Some h → h.monitor ≡ m) → (if b then Some x else o) ≡ Some h → h.monitor ≡ m
held_of true m x h o t more q = let same : x ≡ h = cc in subst (λ (y : Held). y.monitor ≡ m) same (grind (arith, nat_tests, t))
held_of false m x h o t more q = more q

-- the entry of a monitor is one of its own
pub held_is_of : (hs : List Held) (m : ℕ) (h : Held) → held_at hs m ≡ Some h → h.monitor ≡ m
held_is_of [] m h q = cc
held_is_of (x ∷ xs) m h q = held_of (x.monitor == m) m x h (held_at xs m) refl (λ r. held_is_of xs m h r) q
