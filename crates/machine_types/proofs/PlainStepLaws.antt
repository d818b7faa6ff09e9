-- Laws of the plain machine's steps.
use Rattle.std.proofs.Common.{◌≡◌, ◌≢◌, ℕ, zero, suc, ◌+◌, Bool, true, false, List, [], ◌∷◌, Option, Some, None, refl, sym, ap, ◌∙◌, subst, arith, cond, not, ◌==◌, ◌||◌, option_map, slice_get, slice_set, if◌then◌else◌}
use Rattle.std.{specs.List.list_any, proofs.lemmas.Bool.{eqb-true, ne_eqb, Decides.nat_tests}}
use Rattle.jvm_types.specs.declared.program.Program.{Program}
use Rattle.machine_types.specs.{Agreement.depth_for, Onward.{Onward, After, after}}
use Rattle.machine_types.specs.PlainLaws.{Steps, is_for, NoOtherStep, EntersAlone, RetakesAlone, one_deeper, EntersDeeper, ExitsShallower, WaitGivesUp, RetakeGivesBack, NobodyWaits, NotifyWakes}
use Rattle.machine_types.specs.PlainState.{Plain, PlainThread, Holding, Status, holding_at, with_holding, without_holding, held_by, let_go, with_thread, with_status, plain_goes_on}
use Rattle.machine_types.specs.{PlainSteps.{is_due, plain_begins, plain_entered, left, exited, waited, waits_on, woken, wakes_one, retaken, step_at, step_of}, declared.plain.Act.Act}
use Rattle.machine_types.proofs.Lists.{got_when_set, got_other}
use Rattle.jvm_types.specs.declared.outcome.End.TheVariants as ends
use Rattle.machine_types.specs.PlainState as plain
use Rattle.machine_types.specs.declared.plain.Act.TheVariants as acts

-- ---- an act is a step in no status but those that it is for

no_root : (p : Program) (t : ℕ) (x : PlainThread) (status : Status) → is_for acts.Begin status ≡ false → plain_begins p t x status ≡ None
no_root p t x plain.Ready d = cc
no_root p t x (plain.Ended ends.Returned) d = cc
no_root p t x status d = refl

either : (b : Bool) (o : Option Plain) → o ≡ None → (if b then o else None) ≡ None
either true o e = e
either false o e = refl

no_step : (p : Program) (q : Plain) (t : ℕ) (x : PlainThread) (act : Act) (status : Status) → is_for act status ≡ false → step_at p q t x act status ≡ None
no_step p q t x acts.Begin status d = either (is_due q.threads t x.ended) (option_map (with_thread q t) (plain_begins p t x status)) (ap (option_map (with_thread q t)) (no_root p t x status d))
no_step p q t x acts.Do plain.Run d = cc
no_step p q t x acts.Do (plain.Throw r class) d = cc
no_step p q t x acts.Enter (plain.Enter m) d = cc
no_step p q t x acts.Exit (plain.Leave m a) d = cc
no_step p q t x acts.Wait (plain.Wait m) d = cc
no_step p q t x (acts.Notify one) (plain.Notify m) d = cc
no_step p q t x acts.NotifyAll (plain.NotifyAll m) d = cc
no_step p q t x acts.Retake (plain.Woken m depth) d = cc
no_step p q t x act status d = refl

pub no_other_step : NoOtherStep
no_other_step p q t x act e d = ap (step_of p q t act) e ∙ no_step p q t x act x.status d

-- ---- the step of a thread by its status

pub by_status : (p : Program) (q r : Plain) (t : ℕ) (x : PlainThread) (act : Act) (status : Status) → Steps p q r t x act → x.status ≡ status → step_at p q t x act status ≡ Some r
by_status p q r t x act status h s = sym (ap (step_of p q t act) h.thread ∙ ap (step_at p q t x act) s) ∙ h.to

-- ---- holders

pub is_same : (n : ℕ) → (n == n) ≡ true
is_same n = grind (arith, nat_tests)

-- of another thread than the holder
none_for : (t u : ℕ) (h : Holding) → (h.holder == t) ≡ true → u ≢ t → depth_for u (Some h) ≡ None
none_for t u h e n = rw (ne_eqb h.holder u (λ i. n (sym i ∙ eqb-true h.holder t e))) refl

pub own_for : (t : ℕ) (h : Holding) → (h.holder == t) ≡ true → depth_for t (Some h) ≡ Some h.depth
own_for t h e = rw e refl

pub found_when_put : (e : Holding) (hs : List Holding) → holding_at (with_holding e hs) e.monitor ≡ Some e
found_when_put e [] = rw (is_same e.monitor) refl
found_when_put e (h ∷ hs) = by_test (h.monitor == e.monitor) refl (found_when_put e hs)
  where
    by_test : (b : Bool) → (h.monitor == e.monitor) ≡ b → holding_at (with_holding e hs) e.monitor ≡ Some e → holding_at (if b then e ∷ hs else h ∷ with_holding e hs) e.monitor ≡ Some e
    by_test true t r = rw (is_same e.monitor) refl
    by_test false t r = rw t r

held_in : (q : Plain) (t m depth : ℕ) → depth_for t (holding_at (held_by q m t depth).holdings m) ≡ Some depth
held_in q t m depth = rw (found_when_put (record { monitor = m; holder = t; depth = depth }) q.holdings) (rw (is_same t) refl)

-- ---- Enter

alone_by : (q r : Plain) (t u : ℕ) (h : Holding) (b : Bool) → (h.holder == t) ≡ b → (if b then Some r else None) ≡ Some q → u ≢ t → depth_for u (Some h) ≡ None
alone_by q r t u h true e s n = none_for t u h e n
alone_by q r t u h false e s n = cc

enters_by : (q r : Plain) (t u m : ℕ) (x : PlainThread) (h : Option Holding) → plain_entered q t m x h ≡ Some r → u ≢ t → depth_for u h ≡ None
enters_by q r t u m x None e n = refl
enters_by q r t u m x (Some h) e n = alone_by r _ t u h (h.holder == t) refl e n

pub enters_alone : EntersAlone
enters_alone p q r t u m x h s n = enters_by q r t u m x (holding_at q.holdings m) (by_status p q r t x acts.Enter (plain.Enter m) h s) n

deeper_by : (q r : Plain) (t m : ℕ) (x : PlainThread) (h : Holding) (b : Bool) → (h.holder == t) ≡ b
    → (if b then Some (with_thread (held_by q m t (h.depth + 1)) t (with_status x plain.Run)) else None) ≡ Some r → depth_for t (holding_at r.holdings m) ≡ Some (one_deeper (depth_for t (Some h)))
deeper_by q r t m x h true e s =
    let is : with_thread (held_by q m t (h.depth + 1)) t (with_status x plain.Run) ≡ r = cc in
    rw (own_for t h e) (subst (λ (z : Plain). depth_for t (holding_at z.holdings m) ≡ Some (h.depth + 1)) is (held_in q t m (h.depth + 1)))
deeper_by q r t m x h false e s = cc

deepens_by : (q r : Plain) (t m : ℕ) (x : PlainThread) (h : Option Holding) → plain_entered q t m x h ≡ Some r → depth_for t (holding_at r.holdings m) ≡ Some (one_deeper (depth_for t h))
deepens_by q r t m x None e =
    let is : with_thread (held_by q m t 1) t (with_status x plain.Run) ≡ r = cc in
    subst (λ (z : Plain). depth_for t (holding_at z.holdings m) ≡ Some 1) is (held_in q t m 1)
deepens_by q r t m x (Some h) e = deeper_by q r t m x h (h.holder == t) refl e

pub enters_deeper : EntersDeeper
enters_deeper p q r t m x h s = deepens_by q r t m x (holding_at q.holdings m) (by_status p q r t x acts.Enter (plain.Enter m) h s)

-- ---- Exit

shallower_by : (p : Program) (q r : Plain) (t m depth : ℕ) (a : After) (x : PlainThread) (h : Holding) (b : Bool) → (h.holder == t) ≡ b → h.depth ≡ suc (suc depth)
    → (if b then option_map (λ o. with_thread (left q t m h.depth) t (plain_goes_on x o)) (after p x.frames a) else None) ≡ Some r → depth_for t (holding_at r.holdings m) ≡ Some (suc depth)
shallower_by p q r t m depth a x h true e d s = by_onward (after p x.frames a) (subst (λ (n : ℕ). option_map (λ o. with_thread (left q t m n) t (plain_goes_on x o)) (after p x.frames a) ≡ Some r) d s)
  where
    by_onward : (o : Option Onward) → option_map (λ o. with_thread (left q t m (suc (suc depth))) t (plain_goes_on x o)) o ≡ Some r → depth_for t (holding_at r.holdings m) ≡ Some (suc depth)
    by_onward None f = cc
    by_onward (Some o) f =
        let is : with_thread (held_by q m t (suc depth)) t (plain_goes_on x o) ≡ r = cc in
        subst (λ (z : Plain). depth_for t (holding_at z.holdings m) ≡ Some (suc depth)) is (held_in q t m (suc depth))
shallower_by p q r t m depth a x h false e d s = cc

pub depth_is : (t n : ℕ) (h : Holding) (b : Bool) → (h.holder == t) ≡ b → (if b then Some h.depth else None) ≡ Some n → h.depth ≡ n
depth_is t n h true e s = cc
depth_is t n h false e s = cc

exits_by : (p : Program) (q r : Plain) (t m depth : ℕ) (a : After) (x : PlainThread) (h : Option Holding) → depth_for t h ≡ Some (suc (suc depth)) → exited p q t m a x h ≡ Some r
    → depth_for t (holding_at r.holdings m) ≡ Some (suc depth)
exits_by p q r t m depth a x None d e = cc
exits_by p q r t m depth a x (Some h) d e = shallower_by p q r t m depth a x h (h.holder == t) refl (depth_is t (suc (suc depth)) h (h.holder == t) refl d) e

pub exits_shallower : ExitsShallower
exits_shallower p q r t m depth a x h s d = exits_by p q r t m depth a x (holding_at q.holdings m) d (by_status p q r t x acts.Exit (plain.Leave m a) h s)

-- ---- Wait and Retake

-- a monitor that is let go has no holder
pub none_left : (m : ℕ) (hs : List Holding) → holding_at (without_holding m hs) m ≡ None
none_left m [] = refl
none_left m (h ∷ hs) = by_test (h.monitor == m) refl (none_left m hs)
  where
    by_test : (b : Bool) → (h.monitor == m) ≡ b → holding_at (without_holding m hs) m ≡ None → holding_at (cond (not b) (h ∷ without_holding m hs) (without_holding m hs)) m ≡ None
    by_test true t r = r
    by_test false t r = rw t r

abbrev GivesUp : Plain → Plain → ℕ → ℕ → PlainThread → Option Holding → Type 0
GivesUp q r t m x h = (depth : ℕ) × (depth_for t h ≡ Some depth) × (slice_get r.threads t ≡ Some (record x { status = plain.Waiting m depth })) × ((u : ℕ) → depth_for u (holding_at r.holdings m) ≡ None)

gives_up_by : (q r : Plain) (t m : ℕ) (x : PlainThread) (h : Holding) (b : Bool) → (h.holder == t) ≡ b → slice_get q.threads t ≡ Some x
    → (if b then Some (with_thread (let_go q m) t (with_status x (plain.Waiting m h.depth))) else None) ≡ Some r → GivesUp q r t m x (Some h)
gives_up_by q r t m x h true e g s =
    let is : with_thread (let_go q m) t (with_status x (plain.Waiting m h.depth)) ≡ r = cc in (
      h.depth,
      own_for t h e,
      subst (λ (z : Plain). slice_get z.threads t ≡ Some (record x { status = plain.Waiting m h.depth })) is (got_when_set q.threads t x _ g),
      λ u. subst (λ (z : Plain). depth_for u (holding_at z.holdings m) ≡ None) is (ap (depth_for u) (none_left m q.holdings)),
    )
gives_up_by q r t m x h false e g s = cc

waits_by : (q r : Plain) (t m : ℕ) (x : PlainThread) (h : Option Holding) → slice_get q.threads t ≡ Some x → waited q t m x h ≡ Some r → GivesUp q r t m x h
waits_by q r t m x None g e = cc
waits_by q r t m x (Some h) g e = gives_up_by q r t m x h (h.holder == t) refl g e

pub wait_gives_up : WaitGivesUp
wait_gives_up p q r t m x h s = waits_by q r t m x (holding_at q.holdings m) h.thread (by_status p q r t x acts.Wait (plain.Wait m) h s)

retakes_by : (q r : Plain) (t u m depth : ℕ) (x : PlainThread) (h : Option Holding) → retaken q t m depth x h ≡ Some r → depth_for u h ≡ None
retakes_by q r t u m depth x None e = refl
retakes_by q r t u m depth x (Some h) e = cc

pub retakes_alone : RetakesAlone
retakes_alone p q r t u m depth x h s = retakes_by q r t u m depth x (holding_at q.holdings m) (by_status p q r t x acts.Retake (plain.Woken m depth) h s)

gives_back_by : (q r : Plain) (t m depth : ℕ) (x : PlainThread) (h : Option Holding) → retaken q t m depth x h ≡ Some r → depth_for t (holding_at r.holdings m) ≡ Some depth
gives_back_by q r t m depth x None e =
    let is : with_thread (held_by q m t depth) t (with_status x plain.Run) ≡ r = cc in
    subst (λ (z : Plain). depth_for t (holding_at z.holdings m) ≡ Some depth) is (held_in q t m depth)
gives_back_by q r t m depth x (Some h) e = cc

pub retake_gives_back : RetakeGivesBack
retake_gives_back p q r t m depth x h s = gives_back_by q r t m depth x (holding_at q.holdings m) (by_status p q r t x acts.Retake (plain.Woken m depth) h s)

-- ---- Notify

any_of : (m u depth : ℕ) (ts : List PlainThread) (y : PlainThread) → slice_get ts u ≡ Some y → y.status ≡ plain.Waiting m depth → list_any (λ w. waits_on m w.status) ts ≡ true
any_of m u depth [] y e s = cc
any_of m zero depth (w ∷ ws) y e s =
    let same : w ≡ y = cc in
    let waits : waits_on m w.status ≡ true = subst (λ (z : Status). waits_on m z ≡ true) (sym (ap (λ (z : PlainThread). z.status) same ∙ s)) (is_same m) in
    rw waits refl
any_of m (suc u) depth (w ∷ ws) y e s = or_true (waits_on m w.status) (list_any (λ v. waits_on m v.status) ws) (any_of m u depth ws y e s)
  where
    or_true : (a b : Bool) → b ≡ true → (a || b) ≡ true
    or_true true b r = refl
    or_true false b r = r

nobody_by : (q r : Plain) (t : ℕ) (x : PlainThread) (b : Bool) → b ≡ true → (if b then None else Some (with_thread q t (with_status x plain.Run))) ≡ Some r → ⊥
nobody_by q r t x true e f = cc
nobody_by q r t x false e f = cc

pub nobody_waits : NobodyWaits
nobody_waits p q r t u m depth x y h s e w =
    nobody_by q r t x (list_any (λ v. waits_on m v.status) q.threads) (any_of m u depth q.threads y e w) (by_status p q r t x (acts.Notify None) (plain.Notify m) h s)

abbrev Wakes : Plain → Plain → ℕ → ℕ → Type 0
Wakes q r u m = (y : PlainThread) × (depth : ℕ) × (slice_get q.threads u ≡ Some y) × (y.status ≡ plain.Waiting m depth) × (slice_get r.threads u ≡ Some (record y { status = plain.Woken m depth }))

-- the thread that notifies is none that waits
others : (q : Plain) (t u n m depth : ℕ) (x y : PlainThread) → slice_get q.threads t ≡ Some x → x.status ≡ plain.Notify m → slice_get q.threads u ≡ Some y → y.status ≡ plain.Waiting n depth → u ≢ t
others q t u n m depth x y g s e w same =
    let here : slice_get q.threads t ≡ Some y = subst (λ (k : ℕ). slice_get q.threads k ≡ Some y) same e in
    let one : x ≡ y = cc in
    let clash : plain.Notify m ≡ plain.Waiting n depth = sym s ∙ ap (λ (z : PlainThread). z.status) one ∙ w in cc

woken_by : (q r : Plain) (t u n m depth : ℕ) (x y : PlainThread) (b : Bool) → (n == m) ≡ b → u ≢ t → slice_get q.threads u ≡ Some y → y.status ≡ plain.Waiting n depth
    → option_map (λ z. with_thread z t (with_status x plain.Run)) (if b then Some (with_thread q u (with_status y (if b then plain.Woken n depth else plain.Waiting n depth))) else None) ≡ Some r
    → Wakes q r u m
woken_by q r t u n m depth x y true e apart g s f =
    let is : with_thread (with_thread q u (with_status y (plain.Woken n depth))) t (with_status x plain.Run) ≡ r = cc in
    let got : slice_get (slice_set (slice_set q.threads u (with_status y (plain.Woken n depth))) t (with_status x plain.Run)) u ≡ Some (with_status y (plain.Woken n depth))
    = got_other (slice_set q.threads u (with_status y (plain.Woken n depth))) t u (with_status x plain.Run) apart ∙ got_when_set q.threads u y _ g in
    let same : n ≡ m = eqb-true n m e in (
      y,
      depth,
      g,
      subst (λ (k : ℕ). y.status ≡ plain.Waiting k depth) same s,
      subst (λ (k : ℕ). slice_get r.threads u ≡ Some (with_status y (plain.Woken k depth))) same (subst (λ (z : Plain). slice_get z.threads u ≡ Some (with_status y (plain.Woken n depth))) is got),
    )
woken_by q r t u n m depth x y false e apart g s f = cc

wakes_by : (q r : Plain) (t u m : ℕ) (x y : PlainThread) (status : Status) → slice_get q.threads t ≡ Some x → x.status ≡ plain.Notify m → slice_get q.threads u ≡ Some y → y.status ≡ status
    → option_map (λ z. with_thread z t (with_status x plain.Run)) (if waits_on m status then Some (with_thread q u (with_status y (woken m status))) else None) ≡ Some r → Wakes q r u m
wakes_by q r t u m x y (plain.Waiting n depth) g s e w f = woken_by q r t u n m depth x y (n == m) refl (others q t u n m depth x y g s e w) e w f
wakes_by q r t u m x y status g s e w f = cc

by_waiter : (q r : Plain) (t u m : ℕ) (x : PlainThread) (o : Option PlainThread) → slice_get q.threads t ≡ Some x → x.status ≡ plain.Notify m → slice_get q.threads u ≡ o
    → option_map (λ z. with_thread z t (with_status x plain.Run)) (wakes_one q m u o) ≡ Some r → Wakes q r u m
by_waiter q r t u m x None g s e f = cc
by_waiter q r t u m x (Some y) g s e f = wakes_by q r t u m x y y.status g s e refl f

pub notify_wakes : NotifyWakes
notify_wakes p q r t u m x h s = by_waiter q r t u m x (slice_get q.threads u) h.thread s refl (by_status p q r t x (acts.Notify (Some u)) (plain.Notify m) h s)
