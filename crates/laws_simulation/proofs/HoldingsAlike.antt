-- What the plain machine's holdings say of who holds a monitor is what the threads' own lists say, also where a thread takes a
-- monitor or lets it go.
use Rattle.std.proofs.Common.{◌≡◌, ◌≢◌, inl, inr, ℕ, Bool, true, false, cond, List, [], ◌∷◌, Option, Some, None, refl, sym, ap, ◌∙◌, subst, arith, not, ◌==◌, option_map, slice_get, slice_set}
use Rattle.std.proofs.lemmas.Bool.{ne_eqb, Decides.{nat_tests, Decides-eqb}}
use Rattle.machine_types.specs.{Agreement.{depth_for, depth_of}, HeldMonitors.{held_at, depth_at, with_held, without_held}, PlainState.{Holding, holding_at, with_holding, without_holding, is_holder}}
use Rattle.machine_types.{specs.{Structure.AreHeldOnce, Threads.Thread, declared.lock.Held.Held}, proofs.{Lists.{got_when_set, got_other}, PlainStepLaws.is_same}}
use Rattle.laws_threads.proofs.HeldLists.{held_put, held_without}
use Rattle.laws_states.proofs.Lists.{same_or_not}

-- of each thread and each monitor
abbrev pub HoldAlike : List Holding → List Thread → Type 0
HoldAlike holdings threads = (t m : ℕ) → depth_for t (holding_at holdings m) ≡ depth_of (slice_get threads t) m

-- ---- holdings, where one is put or taken away

pub holding_put : (m : ℕ) (h : Holding) (hs : List Holding) → holding_at (with_holding h hs) m ≡ cond (h.monitor == m) (Some h) (holding_at hs m)
holding_put m h [] = refl
holding_put m h (g ∷ hs) = by_test (g.monitor == h.monitor) refl (g.monitor == m) refl (holding_put m h hs)
  where
    by_test : (b : Bool) → (g.monitor == h.monitor) ≡ b → (d : Bool) → (g.monitor == m) ≡ d → holding_at (with_holding h hs) m ≡ cond (h.monitor == m) (Some h) (holding_at hs m)
        → holding_at (cond b (h ∷ hs) (g ∷ with_holding h hs)) m ≡ cond (h.monitor == m) (Some h) (cond d (Some g) (holding_at hs m))
    by_test true t d u more = at (h.monitor == m) d (same (h.monitor == m) refl d u)
      where
        same : (x : Bool) → (h.monitor == m) ≡ x → (d : Bool) → (g.monitor == m) ≡ d → x ≡ d
        same x e d u = let one : g.monitor ≡ h.monitor = grind (arith, nat_tests, t) in sym e ∙ ap (λ (n : ℕ). n == m) (sym one) ∙ u

        at : (x d : Bool) → x ≡ d → cond x (Some h) (holding_at hs m) ≡ cond x (Some h) (cond d (Some g) (holding_at hs m))
        at true d e = refl
        at false true e = absurd (cc)
        at false false e = refl
    by_test false t true u more = (elim (h.monitor == m) as (λ (x : Bool). (h.monitor == m) ≡ x → cond (g.monitor == m) (Some g) (holding_at (with_holding h hs) m) ≡ cond x (Some h) (Some g)) [
      | true ↦ λ e. let one : h.monitor ≡ m = grind (arith, nat_tests, e) in let two : g.monitor ≡ m = grind (arith, nat_tests, u) in absurd (grind (arith, nat_tests, t, one, two))
      | false ↦ λ e. ap (λ (b : Bool). cond b (Some g) (holding_at (with_holding h hs) m)) u
    ]) refl
    by_test false t false u more = ap (λ (b : Bool). cond b (Some g) (holding_at (with_holding h hs) m)) u ∙ more

pub holding_without : (m n : ℕ) (hs : List Holding) → holding_at (without_holding n hs) m ≡ cond (n == m) None (holding_at hs m)
holding_without m n [] = elim (n == m) as (λ (b : Bool). holding_at [] m ≡ cond b (holding_at [] m) (holding_at [] m)) [ true ↦ refl | false ↦ refl ]
holding_without m n (h ∷ hs) = by_test (h.monitor == n) refl (h.monitor == m) refl (n == m) refl (holding_without m n hs)
  where
    by_test : (b : Bool) → (h.monitor == n) ≡ b → (d : Bool) → (h.monitor == m) ≡ d → (x : Bool) → (n == m) ≡ x → holding_at (without_holding n hs) m ≡ cond (n == m) None (holding_at hs m)
        → holding_at (cond (not b) (h ∷ without_holding n hs) (without_holding n hs)) m ≡ cond x None (cond d (Some h) (holding_at hs m))
    by_test true t d u true v more = more ∙ ap (λ (b : Bool). cond b None (holding_at hs m)) v
    by_test true t true u false v more = let one : h.monitor ≡ n = grind (arith, nat_tests, t) in let two : h.monitor ≡ m = grind (arith, nat_tests, u) in absurd (grind (arith, nat_tests, v, one, two))
    by_test true t false u false v more = more ∙ ap (λ (b : Bool). cond b None (holding_at hs m)) v
    by_test false t true u true v more = let one : n ≡ m = grind (arith, nat_tests, v) in let two : h.monitor ≡ m = grind (arith, nat_tests, u) in absurd (grind (arith, nat_tests, t, one, two))
    by_test false t true u false v more = ap (λ (b : Bool). cond b (Some h) (holding_at (without_holding n hs) m)) u
    by_test false t false u x v more = ap (λ (b : Bool). cond b (Some h) (holding_at (without_holding n hs) m)) u ∙ more ∙ ap (λ (b : Bool). cond b None (holding_at hs m)) v

pub put_else : (m : ℕ) (h : Holding) (hs : List Holding) → h.monitor ≢ m → holding_at (with_holding h hs) m ≡ holding_at hs m
put_else m h hs d = holding_put m h hs ∙ ap (λ (b : Bool). cond b (Some h) (holding_at hs m)) (ne_eqb h.monitor m d)

pub without_else : (m n : ℕ) (hs : List Holding) → n ≢ m → holding_at (without_holding n hs) m ≡ holding_at hs m
without_else m n hs d = holding_without m n hs ∙ ap (λ (b : Bool). cond b None (holding_at hs m)) (ne_eqb n m d)

-- ---- the holder

pub own_depth : (t : ℕ) (h : Holding) → h.holder ≡ t → depth_for t (Some h) ≡ Some h.depth
own_depth t h e = ap (λ (b : Bool). cond b (Some h.depth) None) (ap (λ (n : ℕ). n == t) e ∙ is_same t)

pub other_depth : (u : ℕ) (h : Holding) → h.holder ≢ u → depth_for u (Some h) ≡ None
other_depth u h d = ap (λ (b : Bool). cond b (Some h.depth) None) (ne_eqb h.holder u d)

-- a thread that has a depth is the holder
pub record IsHolding (o : Option Holding) (t m depth : ℕ) : Type 0 where
  pub holding : Holding
  pub is : o ≡ Some holding
  pub holder : holding.holder ≡ t
  pub depth_is : holding.depth ≡ depth

pub holding_is : (o : Option Holding) (t m depth : ℕ) → depth_for t o ≡ Some depth → IsHolding o t m depth
holding_is None t m depth e = absurd (cc)
holding_is (Some h) t m depth e = (elim (h.holder == t) as (λ (b : Bool). (h.holder == t) ≡ b → cond b (Some h.depth) None ≡ Some depth → IsHolding (Some h) t m depth)
    [ true ↦ λ g f. record { holding = h; is = refl; holder = (Decides-eqb h.holder t).0 g; depth_is = cc } | false ↦ λ g f. absurd (cc) ]) refl e

-- where no thread has a depth nobody holds
pub nobody_holds : (o : Option Holding) → ((t : ℕ) → depth_for t o ≡ None) → o ≡ None
nobody_holds None e = refl
nobody_holds (Some h) e = let own = own_depth h.holder h refl in let none = e h.holder in absurd (let bad : Some h.depth ≡ None = sym own ∙ none in cc)

pub holder_is : (o : Option Holding) (t depth : ℕ) → depth_for t o ≡ Some depth → is_holder t o ≡ true
holder_is o t depth e = let h = holding_is o t 0 depth e in ap (is_holder t) h.is ∙ ap (λ (n : ℕ). n == t) h.holder ∙ is_same t

pub no_holder : (o : Option Holding) (t : ℕ) → depth_for t o ≡ None → is_holder t o ≡ false
no_holder None t e = refl
no_holder (Some h) t e = (elim (h.holder == t) as (λ (b : Bool). (h.holder == t) ≡ b → cond b (Some h.depth) None ≡ None → (h.holder == t) ≡ false)
    [ true ↦ λ g f. absurd (cc) | false ↦ λ g f. g ]) refl e

-- no other thread than the holder has a depth
pub alone : (o : Option Holding) (t u depth : ℕ) → depth_for t o ≡ Some depth → u ≢ t → depth_for u o ≡ None
alone o t u depth e d = let h = holding_is o t 0 depth e in ap (depth_for u) h.is ∙ other_depth u h.holding (λ f. d (sym f ∙ h.holder))

-- ---- a thread's list against the holdings

module _ (holdings : List Holding) (threads : List Thread)
    (alike : HoldAlike holdings threads) where
  pub depth_is_held : (t m : ℕ) (x : Thread) → slice_get threads t ≡ Some x → depth_for t (holding_at holdings m) ≡ depth_at x.held m
  depth_is_held t m x there = alike t m ∙ ap (λ (o : Option Thread). depth_of o m) there

  pub held_depth_is : (t m : ℕ) (x : Thread) (h : Held) → slice_get threads t ≡ Some x → held_at x.held m ≡ Some h → depth_for t (holding_at holdings m) ≡ Some h.depth
  held_depth_is t m x h there e = depth_is_held t m x there ∙ ap (option_map (λ (g : Held). g.depth)) e

  pub holds_then : (t m : ℕ) (x : Thread) (h : Held) → slice_get threads t ≡ Some x → held_at x.held m ≡ Some h → IsHolding (holding_at holdings m) t m h.depth
  holds_then t m x h there e = holding_is (holding_at holdings m) t m h.depth (held_depth_is t m x h there e)

  pub is_holder_then : (t m : ℕ) (x : Thread) (h : Held) → slice_get threads t ≡ Some x → held_at x.held m ≡ Some h → is_holder t (holding_at holdings m) ≡ true
  is_holder_then t m x h there e = holder_is (holding_at holdings m) t h.depth (held_depth_is t m x h there e)

  pub no_holder_then : (t m : ℕ) (x : Thread) → slice_get threads t ≡ Some x → held_at x.held m ≡ None → is_holder t (holding_at holdings m) ≡ false
  no_holder_then t m x there e = no_holder (holding_at holdings m) t (depth_is_held t m x there ∙ ap (option_map (λ (g : Held). g.depth)) e)

  -- a monitor that no thread has is held by nobody
  pub free_then : (m : ℕ) → ((t : ℕ) (x : Thread) → slice_get threads t ≡ Some x → held_at x.held m ≡ None) → holding_at holdings m ≡ None
  free_then m none = nobody_holds (holding_at holdings m) (λ t. alike t m ∙ by_thread t (slice_get threads t) refl)
    where
      by_thread : (t : ℕ) (o : Option Thread) → slice_get threads t ≡ o → depth_of o m ≡ None
      by_thread t None e = refl
      by_thread t (Some x) e = ap (option_map (λ (g : Held). g.depth)) (none t x e)

  -- ---- thread t has moved from x to y

  module _ (t : ℕ) (x y : Thread) (there : slice_get threads t ≡ Some x) where
    now_own : (later : List Holding) (m : ℕ) → depth_for t (holding_at later m) ≡ depth_at y.held m → depth_for t (holding_at later m) ≡ depth_of (slice_get (slice_set threads t y) t) m
    now_own later m e = e ∙ ap (λ (o : Option Thread). depth_of o m) (sym (got_when_set threads t x y there))

    now_else : (later : List Holding) (u m : ℕ) → u ≢ t → depth_for u (holding_at later m) ≡ depth_for u (holding_at holdings m) → depth_for u (holding_at later m) ≡ depth_of (slice_get (slice_set threads t y) u) m
    now_else later u m d e = e ∙ alike u m ∙ ap (λ (o : Option Thread). depth_of o m) (sym (got_other threads t u y d))

    -- by cases on the thread
    pub alike_by : (later : List Holding) → ((m : ℕ) → depth_for t (holding_at later m) ≡ depth_at y.held m) → ((u m : ℕ) → u ≢ t → depth_for u (holding_at later m) ≡ depth_for u (holding_at holdings m))
        → HoldAlike later (slice_set threads t y)
    alike_by later own others u m = elim (same_or_not u t)
        [ inl e ↦ subst (λ (k : ℕ). depth_for k (holding_at later m) ≡ depth_of (slice_get (slice_set threads t y) k) m) (sym e) (now_own later m (own m)) | inr d ↦ now_else later u m d (others u m d) ]

    -- it holds what it held
    pub alike_kept : y.held ≡ x.held → HoldAlike holdings (slice_set threads t y)
    alike_kept e = alike_by holdings (λ m. depth_is_held t m x there ∙ ap (λ (hs : List Held). depth_at hs m) (sym e)) (λ u m d. refl)

    -- what is held of n has changed alike
    pub alike_set : (later : List Holding) (n : ℕ) (h : Option Holding) (e : Option Held) → ((m : ℕ) → holding_at later m ≡ cond (n == m) h (holding_at holdings m)) → ((m : ℕ) → held_at y.held m ≡ cond (n == m) e (held_at x.held m))
        → depth_for t h ≡ option_map (λ (g : Held). g.depth) e → ((u : ℕ) → u ≢ t → depth_for u h ≡ depth_for u (holding_at holdings n)) → HoldAlike later (slice_set threads t y)
    alike_set later n h e now held own others = alike_by later (λ m. own_of m (n == m) refl) (λ u m d. other_of u m d (n == m) refl)
      where
        own_of : (m : ℕ) (b : Bool) → (n == m) ≡ b → depth_for t (holding_at later m) ≡ depth_at y.held m
        own_of m true f = ap (depth_for t) (now m ∙ ap (λ (d : Bool). cond d h (holding_at holdings m)) f) ∙ own ∙ sym (ap (option_map (λ (g : Held). g.depth)) (held m ∙ ap (λ (d : Bool). cond d e (held_at x.held m)) f))
        own_of m false f = ap (depth_for t) (now m ∙ ap (λ (d : Bool). cond d h (holding_at holdings m)) f) ∙ depth_is_held t m x there ∙ sym (ap (option_map (λ (g : Held). g.depth)) (held m ∙ ap (λ (d : Bool). cond d e (held_at x.held m)) f))

        other_of : (u m : ℕ) → u ≢ t → (b : Bool) → (n == m) ≡ b → depth_for u (holding_at later m) ≡ depth_for u (holding_at holdings m)
        other_of u m d true f = ap (depth_for u) (now m ∙ ap (λ (b : Bool). cond b h (holding_at holdings m)) f) ∙ others u d ∙ ap (λ (k : ℕ). depth_for u (holding_at holdings k)) ((Decides-eqb n m).0 f)
        other_of u m d false f = ap (depth_for u) (now m ∙ ap (λ (b : Bool). cond b h (holding_at holdings m)) f)

    -- it holds n at another depth, and no other thread does
    pub alike_put : (n : ℕ) (h : Held) → h.monitor ≡ n → y.held ≡ with_held h x.held → ((u : ℕ) → u ≢ t → depth_for u (holding_at holdings n) ≡ None)
        → HoldAlike (with_holding (record { monitor = n; holder = t; depth = h.depth }) holdings) (slice_set threads t y)
    alike_put n h at e none =
        let one : Holding = record { monitor = n; holder = t; depth = h.depth } in
        alike_set (with_holding one holdings) n (Some one) (Some h) (λ m. holding_put m one holdings)
        (λ m. ap (λ (hs : List Held). held_at hs m) e ∙ held_put m h x.held ∙ ap (λ (k : ℕ). cond (k == m) (Some h) (held_at x.held m)) at)
        (own_depth t one refl) (λ u d. other_depth u one (λ g. d (sym g)) ∙ sym (none u d))

    -- it has let n go
    pub alike_dropped : (n : ℕ) → y.held ≡ without_held n x.held → AreHeldOnce x.held → ((u : ℕ) → u ≢ t → depth_for u (holding_at holdings n) ≡ None) → HoldAlike (without_holding n holdings) (slice_set threads t y)
    alike_dropped n e once none = alike_set (without_holding n holdings) n None None (λ m. holding_without m n holdings)
        (λ m. ap (λ (hs : List Held). held_at hs m) e ∙ held_without m n x.held once) refl (λ u d. sym (none u d))
