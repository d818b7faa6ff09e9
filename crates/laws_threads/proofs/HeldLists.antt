-- What is held of a monitor when one was put on the held list, or taken from it.
use Rattle.std.{specs.Prelude.unwrap_or, proofs.{Common.{◌≡◌, ℕ, ◌+◌, ◌<◌, Bool, cond, List, [], ◌∷◌, Option, Some, None, refl, ap, arith, ◌==◌, option_map}, lemmas.Bool.Decides.nat_tests}}
use Rattle.machine_types.specs.{HeldMonitors.{held_at, with_held, without_held, shallower}, Structure.{AreHeldOnce, held_depth, once_at}, declared.lock.{Held.Held, Kept.Kept}}
use Rattle.laws_threads.proofs.Tests.{either_way}

-- ---- what stands there

abbrev pub depth_by : Option Held → ℕ
depth_by o = unwrap_or (option_map (λ (h : Held). h.depth) o) 0

pub held_monitor : (m : ℕ) (hs : List Held) (h : Held) → held_at hs m ≡ Some h → h.monitor ≡ m
held_monitor m [] h e = absurd (cc)
held_monitor m (g ∷ hs) h e = grind (arith, nat_tests, e, held_monitor m hs h)

pub depth_some : (m : ℕ) (hs : List Held) (h : Held) → held_at hs m ≡ Some h → held_depth m hs ≡ h.depth
depth_some m hs h e = ap depth_by e

pub depth_none : (m : ℕ) (hs : List Held) → held_at hs m ≡ None → held_depth m hs ≡ 0
depth_none m hs e = ap depth_by e

-- what is held is entered
pub held_positive : (m : ℕ) (hs : List Held) (h : Held) → AreHeldOnce hs → held_at hs m ≡ Some h → 0 < h.depth
held_positive m [] h a e = absurd (cc)
held_positive m (g ∷ hs) h a e = grind (arith, nat_tests, e, a.1, held_positive m hs h a.2)

-- ---- put

pub held_put : (m : ℕ) (h : Held) (hs : List Held) → held_at (with_held h hs) m ≡ cond (h.monitor == m) (Some h) (held_at hs m)
held_put m h [] = refl
held_put m h (g ∷ hs) = grind (arith, nat_tests, held_put m h hs)

pub depth_put : (m : ℕ) (h : Held) (hs : List Held) → held_depth m (with_held h hs) ≡ cond (h.monitor == m) h.depth (held_depth m hs)
depth_put m h hs = grind (arith, nat_tests, held_put m h hs)

pub held_there : (n : ℕ) (h : Held) (hs : List Held) → h.monitor ≡ n → held_at (with_held h hs) n ≡ Some h
held_there n h hs e = grind (arith, nat_tests, held_put n h hs, e)

pub once_put : (h : Held) (hs : List Held) → 0 < h.depth → AreHeldOnce hs → AreHeldOnce (with_held h hs)
once_put h [] d a = (refl, d, tt)
once_put h (g ∷ hs) d a = either_way (λ (b : Bool). (g.monitor == h.monitor) ≡ b → AreHeldOnce (cond b (h ∷ hs) (g ∷ with_held h hs))) (g.monitor == h.monitor)
    (λ t. (grind (arith, nat_tests, t, a.0), d, a.2))
    (λ t. (grind (arith, nat_tests, t, a.0, held_put g.monitor h hs), a.1, once_put h hs d a.2)) refl

-- ---- taken away

pub held_without : (m n : ℕ) (hs : List Held) → AreHeldOnce hs → held_at (without_held n hs) m ≡ cond (n == m) None (held_at hs m)
held_without m n [] a = grind (arith, nat_tests)
held_without m n (g ∷ hs) a = grind (arith, nat_tests, held_without m n hs a.2, a.0)

pub depth_without : (m n : ℕ) (hs : List Held) → AreHeldOnce hs → held_depth m (without_held n hs) ≡ cond (n == m) 0 (held_depth m hs)
depth_without m n hs a = grind (arith, nat_tests, held_without m n hs a)

pub once_without : (n : ℕ) (hs : List Held) → AreHeldOnce hs → AreHeldOnce (without_held n hs)
once_without n [] a = tt
once_without n (g ∷ hs) a = either_way (λ (b : Bool). AreHeldOnce (cond b hs (g ∷ without_held n hs))) (g.monitor == n) a.2 (grind (arith, nat_tests, a.0, held_without g.monitor n hs a.2), a.1, once_without n hs a.2)

pub none_held : (n : ℕ) (hs : List Held) → AreHeldOnce hs → held_at (without_held n hs) n ≡ None
none_held n hs a = grind (arith, nat_tests, held_without n n hs a)

-- ---- one entry less

pub record OneLess (n : ℕ) (held less : List Held) : Type 0 where
  pub depths : (m : ℕ) → held_depth m less + once_at n m ≡ held_depth m held
  pub once : AreHeldOnce less

pub lowered : (n : ℕ) (held : List Held) (h : Held) → AreHeldOnce held → held_at held n ≡ Some h → 1 < h.depth → OneLess n held (with_held (shallower h) held)
lowered n held h a e d = record {
  depths = λ m. grind (arith, nat_tests, depth_put m (shallower h) held, held_monitor n held h e, depth_some n held h e, d);
  once = once_put (shallower h) held (omega arith) a;
}

pub released : (n : ℕ) (held : List Held) → AreHeldOnce held → held_depth n held ≡ 1 → OneLess n held (without_held n held)
released n held a d = record { depths = λ m. grind (arith, nat_tests, depth_without m n held a, d); once = once_without n held a }

-- ---- kept otherwise, as deep as before

pub refitted_depth : (n m : ℕ) (kept : Kept) (held : List Held) (h : Held) → held_at held n ≡ Some h → held_depth m (with_held (record h { kept = kept }) held) ≡ held_depth m held
refitted_depth n m kept held h e = grind (arith, nat_tests, depth_put m (record h { kept = kept }) held, held_monitor n held h e, depth_some n held h e)
