-- How events of a machine, and the begin of a part, lead a run on.
use Rattle.std.proofs.Common.{◌≡◌, ℕ, zero, suc, ◌+◌, ◌-◌, ◌<◌, ◌≤◌, Bool, true, false, List, [], ◌∷◌, ◌++◌, length, Some, None, Result, Ok, Err, refl, sym, ap, subst, ◌∙◌, append_assoc, append-nil, arith, nat_lt, nat_le, ◌&&◌, ◌||◌, if◌then◌else◌, find, replicate, slice_get, IfOk}
use Rattle.std.{specs.{List.{flat_map, range_with_len}, Option.option_or}, proofs.lemmas.Bool.Decides.nat_tests}
use Rattle.jvm_types.specs.declared.outcome.Outcome.{Outcome}
use Rattle.checked_program.specs.MarkedProgram.{MarkedProgram}
use Rattle.machine_types.specs.Core.{Core, Happening, Of, NextPart, all_happened, core, event, happened, is_live_thread, lives, may_begin, next, outcome, start}
use Rattle.machine_types.specs.{Schedules.{IsSchedule, Stage, First, Ordered, Last, turn_of, turn_at, part_turn, ordered, round_turn, is_live_worker, live_from}, Threads.Thread}
use Rattle.machine_types.{specs.declared.config.Config.Config, proofs.OnlyLive.only_live_change}
use Rattle.laws_states.{specs.WorkLeft.all_work, proofs.GrowingRuns.all_append}
use Rattle.laws_refinement.specs.ScheduleOver.{SchedulesEndOver}
use Rattle.run_parts.specs.Ended.{IsEndOfRun}
use Rattle.replay_runner.specs.Running.{Running, events, run_on}
use Rattle.green_runner.specs.{Turning.{Comes, IsRunFinished, IsLedByOrder, IsSameRun, NoWorkerLives}, Turns.{IsRunInTurns, one_round, rounds}}
use mathlib.Core.Logic.{dite}
use native.Mathlib.Decide.{ℕ_discrete}

-- ---- lists of happenings

-- at a stage at which the same comes next
schedule_as : (c : MarkedProgram) (stage other : Stage) (s : Core) (hs : List Happening)
    → turn_at other s ≡ turn_at stage s → IsSchedule c stage s hs → IsSchedule c other s hs
schedule_as c stage other s [] e k = e ∙ k
schedule_as c stage other s (h ∷ hs) e k = (k.0, e ∙ k.1, k.2)

-- ---- from a stage and a state to others

module _ (c : MarkedProgram) where
  pub comes_itself : (f : List ℕ → Stage) (s : Core) → Comes c f s f s
  comes_itself f s = record { happenings = []; leads = λ rest hs k. k; state = refl }

  pub comes_both : (f g h : List ℕ → Stage) (s t u : Core) → Comes c f s g t → Comes c g t h u → Comes c f s h u
  comes_both f g h s t u a b = record {
    happenings = a.happenings ++ b.happenings;
    leads = λ rest hs k. subst (IsSchedule c (f rest) s) (sym (append_assoc a.happenings b.happenings hs)) (a.leads rest (b.happenings ++ hs) (b.leads rest hs k));
    state = all_append c s a.happenings b.happenings ∙ ap (λ (z : Core). all_happened c z b.happenings) a.state ∙ b.state;
  }

  pub comes_as : (f g : List ℕ → Stage) (s : Core) → ((rest : List ℕ) → turn_at (f rest) s ≡ turn_at (g rest) s) → Comes c f s g s
  comes_as f g s e = record { happenings = []; leads = λ rest hs k. schedule_as c (g rest) (f rest) s hs (e rest) k; state = refl }

  pub comes_by : (f g : List ℕ → Stage) (s : Core) (h : Happening) → ((rest : List ℕ) → turn_at (f rest) s ≡ turn_of h (g rest)) → Comes c f s g (happened c s h)
  comes_by f g s h e = record { happenings = h ∷ []; leads = λ rest hs k. (g rest, e rest, k); state = refl }

  -- where some of the order comes first
  pub comes_under : (order : List ℕ) (f g : List ℕ → Stage) (s t : Core) → Comes c f s g t → Comes c (λ rest. f (order ++ rest)) s (λ rest. g (order ++ rest)) t
  comes_under order f g s t a = record { happenings = a.happenings; leads = λ rest. a.leads (order ++ rest); state = a.state }

  comes_to : (f g : List ℕ → Stage) (s t u : Core) → t ≡ u → Comes c f s g t → Comes c f s g u
  comes_to f g s t u e a = subst (Comes c f s g) e a

  -- ---- thread 0

  first_event : (f : List ℕ → Stage) (s : Core) → (lives s 0 ≡ true → (rest : List ℕ) → turn_at (f rest) s ≡ turn_of (Of 0) (f rest))
      → Comes c f s f (event c s 0)
  first_event f s turn = by_lives (lives s 0) refl
    where
      by_lives : (b : Bool) → lives s 0 ≡ b → Comes c f s f (event c s 0)
      by_lives true live = comes_by f f s (Of 0) (turn live)
      by_lives false dead = comes_to f f s s (event c s 0) (sym (only_live_change c s 0 dead)) (comes_itself f s)

  first_events : (f : List ℕ → Stage) → ((s : Core) → lives s 0 ≡ true → (rest : List ℕ) → turn_at (f rest) s ≡ turn_of (Of 0) (f rest))
      → (n : ℕ) (s : Core) → Comes c f s f (events c s 0 n)
  first_events f turn zero s = comes_itself f s
  first_events f turn (suc n) s = comes_both f f f s (events c s 0 n) (events c s 0 (suc n)) (first_events f turn n s) (first_event f (events c s 0 n) (turn (events c s 0 n)))

  pub init_events : (n : ℕ) (s : Core) → Comes c (λ rest. First rest) s (λ rest. First rest) (events c s 0 n)
  init_events = first_events (λ rest. First rest) (λ s live rest. ap (λ (b : Bool). if b then turn_of (Of 0) (First rest) else part_turn s (Ordered rest)) live)

  pub done_events : (n : ℕ) (s : Core) → Comes c (λ rest. Last) s (λ rest. Last) (events c s 0 n)
  done_events = first_events (λ rest. Last) (λ s live rest. ap (λ (b : Bool). if b then turn_of (Of 0) Last else None) live)

  -- ---- an order

  pub order_both : (m n : List ℕ) (s t u : Core) → Comes c (λ rest. Ordered (m ++ rest)) s (λ rest. Ordered rest) t
      → Comes c (λ rest. Ordered (n ++ rest)) t (λ rest. Ordered rest) u
      → Comes c (λ rest. Ordered ((m ++ n) ++ rest)) s (λ rest. Ordered rest) u
  order_both m n s t u a b =
      let first : Comes c (λ rest. Ordered ((m ++ n) ++ rest)) s (λ rest. Ordered (m ++ (n ++ rest))) s = comes_as (λ rest. Ordered ((m ++ n) ++ rest)) (λ rest. Ordered (m ++ (n ++ rest))) s (λ rest. ap (λ o. turn_at (Ordered o) s) (append_assoc m n rest)) in
      let under : Comes c (λ rest. Ordered (m ++ (n ++ rest))) s (λ rest. Ordered (n ++ rest)) t = record { happenings = a.happenings; leads = λ rest. a.leads (n ++ rest); state = a.state } in
      comes_both (λ rest. Ordered ((m ++ n) ++ rest)) (λ rest. Ordered (m ++ (n ++ rest))) (λ rest. Ordered rest) s s u first
      (comes_both (λ rest. Ordered (m ++ (n ++ rest))) (λ rest. Ordered (n ++ rest)) (λ rest. Ordered rest) s t u under b)

  -- the turn of a worker's event
  pub order_event : (t : ℕ) (s : Core) → 0 < t → Comes c (λ rest. Ordered (t ∷ rest)) s (λ rest. Ordered rest) (event c s t)
  order_event t s some = by_lives (lives s t) refl
    where
      is_worker : nat_lt 0 t ≡ true
      is_worker = grind (arith, nat_tests, some)

      by_lives : (b : Bool) → lives s t ≡ b → Comes c (λ rest. Ordered (t ∷ rest)) s (λ rest. Ordered rest) (event c s t)
      by_lives true live = comes_by (λ rest. Ordered (t ∷ rest)) (λ rest. Ordered rest) s (Of t)
          (λ rest. ap (λ (b : Bool). if b then turn_of (Of t) (Ordered rest) else ordered s rest) (ap (λ (b : Bool). b && lives s t) is_worker ∙ live))
      by_lives false dead = comes_to (λ rest. Ordered (t ∷ rest)) (λ rest. Ordered rest) s s (event c s t) (sym (only_live_change c s t dead))
          (comes_as (λ rest. Ordered (t ∷ rest)) (λ rest. Ordered rest) s
          (λ rest. ap (λ (b : Bool). if b then turn_of (Of t) (Ordered rest) else ordered s rest) (ap (λ (b : Bool). b && lives s t) is_worker ∙ dead)))

  is_none : (b d : Bool) → d ≡ false → (b && d) ≡ false
  is_none true d dead = dead
  is_none false d dead = refl

  -- turns of a worker that is not live are passed over
  pub order_passed : (k t : ℕ) (s : Core) → lives s t ≡ false → Comes c (λ rest. Ordered (replicate k t ++ rest)) s (λ rest. Ordered rest) s
  order_passed zero t s dead = comes_itself (λ rest. Ordered rest) s
  order_passed (suc k) t s dead = comes_both (λ rest. Ordered (replicate (suc k) t ++ rest)) (λ rest. Ordered (replicate k t ++ rest)) (λ rest. Ordered rest) s s s
      (comes_as (λ rest. Ordered (replicate (suc k) t ++ rest)) (λ rest. Ordered (replicate k t ++ rest)) s
      (λ rest. ap (λ (b : Bool). if b then turn_of (Of t) (Ordered (replicate k t ++ rest)) else ordered s (replicate k t ++ rest)) (is_none (nat_lt 0 t) (lives s t) dead)))
      (order_passed k t s dead)

  -- ---- no worker is live

  none_found : (s : Core) → NoWorkerLives s → (from a n : ℕ) → find (λ t. nat_le from t && lives s t) (range_with_len (suc a) n) ≡ None
  none_found s dead from a zero = refl
  none_found s dead from a (suc n) =
      let next : suc a + 1 ≡ suc (suc a) = omega arith in
      ap (λ (b : Bool). if b then Some (suc a) else find (λ t. nat_le from t && lives s t) (range_with_len (suc a + 1) n)) (is_none (nat_le from (suc a)) (lives s (suc a)) (dead a))
      ∙ ap (λ m. find (λ t. nat_le from t && lives s t) (range_with_len m n)) next
      ∙ none_found s dead from (suc a) n

  none_next : (s : Core) → NoWorkerLives s → turn_at (Ordered []) s ≡ part_turn s Last
  none_next s dead = ap (λ o. round_turn s (option_or o (live_from s 1))) (none_found s dead 1 0 (length s.threads))
      ∙ ap (round_turn s) (none_found s dead 1 0 (length s.threads))

  no_worker : (s : Core) → NoWorkerLives s → (u : ℕ) → is_live_worker s u ≡ false
  no_worker s dead zero = refl
  no_worker s dead (suc u) = is_none (nat_lt 0 (suc u)) (lives s (suc u)) (dead u)

  -- then the order is passed over
  pub order_over : (s : Core) → NoWorkerLives s → (order : List ℕ) → turn_at (Ordered order) s ≡ part_turn s Last
  order_over s dead [] = none_next s dead
  order_over s dead (t ∷ order) =
      ap (λ (b : Bool). if b then turn_of (Of t) (Ordered order) else ordered s order) (no_worker s dead t)
      ∙ order_over s dead order

  -- ---- the begin of a part

  pub workers_begin : (s : Core) → lives s 0 ≡ false → may_begin s.threads ≡ true → Comes c (λ rest. First rest) s (λ rest. Ordered rest) (next c s)
  workers_begin s dead may = comes_by (λ rest. First rest) (λ rest. Ordered rest) s NextPart
      (λ rest. ap (λ (b : Bool). if b then turn_of (Of 0) (First rest) else part_turn s (Ordered rest)) dead
      ∙ ap (λ (b : Bool). if b then turn_of NextPart (Ordered rest) else None) may)

  pub done_begins : (s : Core) → NoWorkerLives s → may_begin s.threads ≡ true → Comes c (λ rest. Ordered rest) s (λ rest. Last) (next c s)
  done_begins s dead may = comes_by (λ rest. Ordered rest) (λ rest. Last) s NextPart
      (λ rest. order_over s dead rest ∙ ap (λ (b : Bool). if b then turn_of NextPart Last else None) may)

  -- ---- the end

  pub no_workers : (s : Core) → lives s 0 ≡ false → may_begin s.threads ≡ false → (rest : List ℕ) → turn_at (First rest) s ≡ None
  no_workers s dead may rest = ap (λ (b : Bool). if b then turn_of (Of 0) (First rest) else part_turn s (Ordered rest)) dead
      ∙ ap (λ (b : Bool). if b then turn_of NextPart (Ordered rest) else None) may

  pub no_done : (s : Core) → NoWorkerLives s → may_begin s.threads ≡ false → (rest : List ℕ) → turn_at (Ordered rest) s ≡ None
  no_done s dead may rest = order_over s dead rest ∙ ap (λ (b : Bool). if b then turn_of NextPart Last else None) may

  pub no_more : (s : Core) → lives s 0 ≡ false → turn_at Last s ≡ None
  no_more s dead = ap (λ (b : Bool). if b then turn_of (Of 0) Last else None) dead

-- ---- a machine

pub gives_none : (m : Running) → IsLedByOrder m [] m
gives_none m = record { same = refl; comes = comes_itself m.program (λ rest. Ordered rest) m.core }

-- the program of the machine stays
pub gives_both : (m n r : Running) (a b : List ℕ) → IsLedByOrder m a n → IsLedByOrder n b r → IsLedByOrder m (a ++ b) r
gives_both m n r a b f g =
    let program : n.program ≡ m.program = ap (λ (z : Running). z.program) f.same in
    record {
      same = g.same ∙ ap (λ (z : Running). record z { core = r.core }) f.same;
      comes = order_both m.program a b m.core n.core r.core f.comes (subst (λ (c : MarkedProgram). Comes c (λ rest. Ordered (b ++ rest)) n.core (λ rest. Ordered rest) r.core) program g.comes);
    }

pub gives_event : (m n : Running) (t : ℕ) → 0 < t → n ≡ record m { core = event m.program m.core t } → IsLedByOrder m (t ∷ []) n
gives_event m n t some e = subst (IsLedByOrder m (t ∷ [])) (sym e) (record { same = refl; comes = order_event m.program t m.core some })

pub gives_passed : (m : Running) (k t : ℕ) → lives m.core t ≡ false → IsLedByOrder m (replicate k t) m
gives_passed m k t dead = record { same = refl; comes = order_passed m.program k t m.core dead }

-- an order that is the same
pub gives_as : (m n : Running) (a b : List ℕ) → a ≡ b → IsLedByOrder m a n → IsLedByOrder m b n
gives_as m n a b e g = subst (λ (o : List ℕ). IsLedByOrder m o n) e g

-- ---- turns

pub turn_more : (k t : ℕ) → replicate k t ++ t ∷ [] ≡ replicate (suc k) t
turn_more zero t = refl
turn_more (suc k) t = ap (λ o. t ∷ o) (turn_more k t)

pub turn_rest : (k turn t : ℕ) → k ≤ turn → replicate k t ++ replicate (turn - k) t ≡ replicate turn t
turn_rest zero turn t le = let e : turn - 0 ≡ turn = omega arith in ap (λ n. replicate n t) e
turn_rest (suc k) zero t le = absurd (omega (arith, le))
turn_rest (suc k) (suc turn) t le =
    let e : suc turn - suc k ≡ turn - k = omega arith in
    ap (λ n. t ∷ (replicate k t ++ replicate n t)) e ∙ ap (λ o. t ∷ o) (turn_rest k turn t (omega (arith, le)))

-- the turns of the workers below a number, and of the next one
pub round_more : (turn a n : ℕ) → flat_map (replicate turn) (range_with_len a n) ++ replicate turn (a + n) ≡ flat_map (replicate turn) (range_with_len a (suc n))
round_more turn a zero = let e : a + 0 ≡ a = omega arith in ap (replicate turn) e ∙ sym (append-nil (replicate turn a))
round_more turn a (suc n) =
    let e : a + suc n ≡ (a + 1) + n = omega arith in
    append_assoc (replicate turn a) (flat_map (replicate turn) (range_with_len (a + 1) n)) (replicate turn (a + suc n))
    ∙ ap (λ m. replicate turn a ++ (flat_map (replicate turn) (range_with_len (a + 1) n) ++ replicate turn m)) e
    ∙ ap (λ o. replicate turn a ++ o) (round_more turn (a + 1) n)

pub rounds_more : (turn workers n : ℕ) → rounds turn workers n ++ one_round turn workers ≡ rounds turn workers (suc n)
rounds_more turn workers zero = sym (append-nil (one_round turn workers))
rounds_more turn workers (suc n) =
    append_assoc (one_round turn workers) (rounds turn workers n) (one_round turn workers)
    ∙ ap (λ o. one_round turn workers ++ o) (rounds_more turn workers n)

rounds_both : (turn workers n more : ℕ) → rounds turn workers (n + more) ≡ rounds turn workers n ++ rounds turn workers more
rounds_both turn workers zero more = let e : 0 + more ≡ more = omega arith in ap (rounds turn workers) e
rounds_both turn workers (suc n) more =
    let e : suc n + more ≡ suc (n + more) = omega arith in
    ap (rounds turn workers) e ∙ ap (λ o. one_round turn workers ++ o) (rounds_both turn workers n more)
    ∙ sym (append_assoc (one_round turn workers) (rounds turn workers n) (rounds turn workers more))

-- ---- the end of a run

-- where nothing comes next
pub finishes : (m n : Running) (f g : List ℕ → Stage) → IsSameRun m n → Comes m.program f m.core g n.core → ((rest : List ℕ) → turn_at (g rest) n.core ≡ None) → IsRunFinished m f n
finishes m n f g same a end = record {
  same = same;
  happenings = a.happenings ++ [];
  schedule = λ rest. a.leads rest [] (end rest);
  state = ap (all_happened m.program m.core) (append-nil a.happenings) ∙ a.state;
}

-- behind what came first
pub finishes_behind : (m n r : Running) (f g : List ℕ → Stage) → IsSameRun m n → Comes m.program f m.core g n.core → IsRunFinished n g r → IsRunFinished m f r
finishes_behind m n r f g same a k =
    let program : n.program ≡ m.program = ap (λ (z : Running). z.program) same in
    record {
      same = k.same ∙ ap (λ (z : Running). record z { core = r.core }) same;
      happenings = a.happenings ++ k.happenings;
      schedule = λ rest. a.leads rest k.happenings (subst (λ (c : MarkedProgram). IsSchedule c (g rest) n.core k.happenings) program (k.schedule rest));
      state = all_append m.program m.core a.happenings k.happenings ∙ ap (λ (z : Core). all_happened m.program z k.happenings) a.state
          ∙ ap (λ (c : MarkedProgram). all_happened c n.core k.happenings) (sym program) ∙ k.state;
    }

pub in_turns : (c : MarkedProgram) (cfg : Config) (turn n : ℕ) (m r : Running) (o : Outcome) → m ≡ record { program = c; cfg = cfg; core = start c cfg }
    → IsRunFinished m (λ rest. First (rounds turn c.program.workers n ++ rest)) r → o ≡ outcome r.core → IsRunInTurns c cfg turn o
unfolding core
in_turns c cfg turn n m r o e k is =
    let s : IsRunFinished (record { program = c; cfg = cfg; core = start c cfg }) (λ rest. First (rounds turn c.program.workers n ++ rest)) r = subst (λ (z : Running). IsRunFinished z (λ rest. First (rounds turn c.program.workers n ++ rest)) r) e k in
    (s.happenings, (n, λ more. subst (λ (order : List ℕ). IsSchedule c (First order) (start c cfg) s.happenings) (sym (rounds_both turn c.program.workers n more)) (s.schedule (rounds turn c.program.workers more))), is ∙ ap outcome (sym s.state))

-- ---- the loops over events and over workers

-- behind some events of a worker's turn
pub record MidTurn (m : Running) (t made : ℕ) (n : Running) : Type 0 where
  pub gives : IsLedByOrder m (replicate made t) n
  pub none : made ≡ 0 → n ≡ m
  pub live : 0 < made → lives m.core t ≡ true
  pub less : 0 < made → all_work n.core < all_work m.core

pub mid_begins : (m : Running) (t : ℕ) → MidTurn m t 0 m
mid_begins m t = record { gives = gives_none m; none = λ e. refl; live = λ lt. absurd (omega (arith, lt)); less = λ lt. absurd (omega (arith, lt)) }

pub mid_more : (m n r : Running) (t made : ℕ) → 0 < t → MidTurn m t made n → lives n.core t ≡ true → r ≡ record n { core = event n.program n.core t }
    → all_work r.core < all_work n.core → MidTurn m t (made + 1) r
mid_more m n r t made some k live e less = record {
  gives = gives_as m r (replicate made t ++ t ∷ []) (replicate (made + 1) t) (turn_more made t ∙ ap (λ i. replicate i t) next) (gives_both m n r (replicate made t) (t ∷ []) k.gives (gives_event n r t some e));
  none = λ e. absurd (omega (arith, e));
  live = λ lt. by_made made refl;
  less = λ lt. by_less made refl;
}
  where
    next : suc made ≡ made + 1
    next = omega arith

    by_made : (i : ℕ) → made ≡ i → lives m.core t ≡ true
    by_made zero is = ap (λ (z : Running). lives z.core t) (sym (k.none is)) ∙ live
    by_made (suc i) is = k.live (omega (arith, is))

    by_less : (i : ℕ) → made ≡ i → all_work r.core < all_work m.core
    by_less zero is = subst (λ (z : Running). all_work r.core < all_work z.core) (k.none is) less
    by_less (suc i) is = let was : all_work n.core < all_work m.core = k.less (omega (arith, is)) in omega (arith, was, less)

-- the whole of a turn: whether the worker was live
pub record IsTurn (m : Running) (t turn : ℕ) (live : Bool) (n : Running) : Type 0 where
  pub live_is : live ≡ lives m.core t
  pub gives : IsLedByOrder m (replicate turn t) n
  pub still : live ≡ false → n ≡ m
  pub less : live ≡ true → all_work n.core < all_work m.core

pub turn_full : (m n : Running) (t turn made : ℕ) → 0 < turn → made ≡ turn → MidTurn m t made n → IsTurn m t turn true n
turn_full m n t turn made some is k = record {
  live_is = sym (k.live (omega (arith, some, is)));
  gives = subst (λ i. IsLedByOrder m (replicate i t) n) is k.gives;
  still = λ e. absurd (let bad : true ≡ false = e in cc);
  less = λ e. k.less (omega (arith, some, is));
}

pub turn_over : (m n r : Running) (t turn made : ℕ) → made < turn → MidTurn m t made n → lives n.core t ≡ false → r ≡ n → IsTurn m t turn (nat_lt 0 made) r
turn_over m n r t turn made lt k dead e = subst (IsTurn m t turn (nat_lt 0 made)) (sym e) (by_made made refl)
  where
    above : (i : ℕ) → nat_lt 0 (suc i) ≡ true
    above i = grind (arith, nat_tests)

    all : IsLedByOrder m (replicate turn t) n
    all = gives_as m n (replicate made t ++ replicate (turn - made) t) (replicate turn t) (turn_rest made turn t (omega (arith, lt))) (gives_both m n n (replicate made t) (replicate (turn - made) t) k.gives (gives_passed n (turn - made) t dead))

    by_made : (i : ℕ) → made ≡ i → IsTurn m t turn (nat_lt 0 i) n
    by_made zero is = record {
      live_is = sym (ap (λ (z : Running). lives z.core t) (sym (k.none is)) ∙ dead);
      gives = all;
      still = λ f. k.none is;
      less = λ f. absurd (let bad : false ≡ true = f in cc);
    }
    by_made (suc i) is = record {
      live_is = above i ∙ sym (k.live (omega (arith, is)));
      gives = all;
      still = λ f. absurd (let bad : true ≡ false = sym (above i) ∙ f in cc);
      less = λ f. k.less (omega (arith, is));
    }

-- behind the turns of some workers
pub record MidRound (m : Running) (turn i : ℕ) (some : Bool) (n : Running) : Type 0 where
  pub gives : IsLedByOrder m (flat_map (replicate turn) (range_with_len 1 i)) n
  pub still : some ≡ false → n ≡ m
  pub dead : some ≡ false → (u : ℕ) → u < i → lives m.core (suc u) ≡ false
  pub less : some ≡ true → all_work n.core < all_work m.core

pub round_begins : (m : Running) (turn : ℕ) → MidRound m turn 0 false m
round_begins m turn = record { gives = gives_none m; still = λ e. refl; dead = λ e u lt. absurd (omega (arith, lt)); less = λ e. absurd (let bad : false ≡ true = e in cc) }

pub round_on : (m n r : Running) (turn i : ℕ) (some live : Bool) → MidRound m turn i some n → IsTurn n (i + 1) turn live r → MidRound m turn (i + 1) (some || live) r
round_on m n r turn i some live k l = record {
  gives = gives_as m r (flat_map (replicate turn) (range_with_len 1 i) ++ replicate turn (1 + i)) (flat_map (replicate turn) (range_with_len 1 (i + 1)))
      (round_more turn 1 i ∙ ap (λ j. flat_map (replicate turn) (range_with_len 1 j)) next)
      (gives_both m n r (flat_map (replicate turn) (range_with_len 1 i)) (replicate turn (1 + i)) k.gives (subst (λ t. IsLedByOrder n (replicate turn t) r) one l.gives));
  still = λ e. l.still (neither some live e).1 ∙ k.still (neither some live e).0;
  dead = λ e u lt. dite (ℕ_discrete u i)
      (λ same. ap (λ j. lives m.core (suc j)) same ∙ ap (lives m.core) next ∙ ap (λ (z : Running). lives z.core (i + 1)) (sym (k.still (neither some live e).0)) ∙ sym l.live_is ∙ (neither some live e).1)
      (λ other. k.dead (neither some live e).0 u (omega (arith, lt, other)));
  less = less some live k l;
}
  where
    next : suc i ≡ i + 1
    next = omega arith

    one : i + 1 ≡ 1 + i
    one = omega arith

    neither : (a b : Bool) → (a || b) ≡ false → (a ≡ false) × (b ≡ false)
    neither true b e = absurd (let bad : true ≡ false = e in cc)
    neither false b e = (refl, e)

    less : (a b : Bool) → MidRound m turn i a n → IsTurn n (i + 1) turn b r → (a || b) ≡ true → all_work r.core < all_work m.core
    less true true f g e = let first : all_work n.core < all_work m.core = f.less refl in let second : all_work r.core < all_work n.core = g.less refl in omega (arith, first, second)
    less true false f g e = subst (λ (z : Running). all_work z.core < all_work m.core) (sym (g.still refl)) (f.less refl)
    less false true f g e = subst (λ (z : Running). all_work r.core < all_work z.core) (f.still refl) (g.less refl)
    less false false f g e = absurd (let bad : false ≡ true = e in cc)

-- no worker beyond the last one
pub round_dead : (m n : Running) (turn workers : ℕ) → workers + 1 ≡ length m.core.threads → MidRound m turn workers false n → NoWorkerLives n.core
round_dead m n turn workers long k u = ap (λ (z : Running). lives z.core (suc u)) (k.still refl) ∙ by_place (nat_lt u workers) refl
  where
    beyond : (xs : List Thread) (j : ℕ) → length xs ≤ j → is_live_thread (slice_get xs j) ≡ false
    beyond [] j le = refl
    beyond (x ∷ xs) zero le = absurd (omega (arith, le))
    beyond (x ∷ xs) (suc j) le = beyond xs j (omega (arith, le))

    by_place : (b : Bool) → nat_lt u workers ≡ b → lives m.core (suc u) ≡ false
    by_place true e = k.dead refl u (grind (arith, nat_tests, e))
    by_place false e = let le : workers ≤ u = grind (arith, nat_tests, e) in beyond m.core.threads (suc u) (omega (arith, le, long))

-- ---- `done`

pub done_ran : (m n r : Running) (k : ℕ) → NoWorkerLives m.core → may_begin m.core.threads ≡ true → n ≡ record m { core = next m.program m.core }
    → r ≡ run_on n 0 k → lives r.core 0 ≡ false → IsRunFinished m (λ rest. Ordered rest) r
done_ran m n r k dead may begins runs over =
    let z : Running = record m { core = events m.program (next m.program m.core) 0 k } in
    let is : r ≡ z = runs ∙ ap (λ (y : Running). run_on y 0 k) begins in
    subst (IsRunFinished m (λ rest. Ordered rest)) (sym is)
    (finishes m z (λ rest. Ordered rest) (λ rest. Last) refl
    (comes_both m.program (λ rest. Ordered rest) (λ rest. Last) (λ rest. Last) m.core (next m.program m.core) z.core (done_begins m.program m.core dead may) (done_events m.program k (next m.program m.core)))
    (λ rest. no_more m.program z.core (ap (λ (y : Running). lives y.core 0) (sym is) ∙ over)))

pub no_done_begins : (m r : Running) → NoWorkerLives m.core → may_begin m.core.threads ≡ false → r ≡ m → IsRunFinished m (λ rest. Ordered rest) r
no_done_begins m r dead may is = subst (IsRunFinished m (λ rest. Ordered rest)) (sym is)
    (finishes m m (λ rest. Ordered rest) (λ rest. Ordered rest) refl (comes_itself m.program (λ rest. Ordered rest) m.core) (no_done m.program m.core dead may))

-- ---- the workers, and `done`

pub workers_ran : (m n r : Running) (order : List ℕ) → IsLedByOrder m order n → IsRunFinished n (λ rest. Ordered rest) r → IsRunFinished m (λ rest. Ordered (order ++ rest)) r
workers_ran m n r order g k = finishes_behind m n r (λ rest. Ordered (order ++ rest)) (λ rest. Ordered rest) g.same g.comes k

-- ---- `init`, and what comes behind it

init_ran : (m n : Running) (k : ℕ) → n ≡ run_on m 0 k → IsSameRun m n × Comes m.program (λ rest. First rest) m.core (λ rest. First rest) n.core
init_ran m n k runs =
    let z : Running = run_on m 0 k in
    subst (λ (y : Running). IsSameRun m y × Comes m.program (λ rest. First rest) m.core (λ rest. First rest) y.core) (sym runs) (refl, init_events m.program k m.core)

pub init_alone : (m n r : Running) (k : ℕ) (order : List ℕ) → n ≡ run_on m 0 k → lives n.core 0 ≡ false → may_begin n.core.threads ≡ false → r ≡ n
    → IsRunFinished m (λ rest. First (order ++ rest)) r
init_alone m n r k order runs over may is =
    let ran = init_ran m n k runs in
    let program : n.program ≡ m.program = ap (λ (z : Running). z.program) ran.0 in
    subst (IsRunFinished m (λ rest. First (order ++ rest))) (sym is)
    (finishes m n (λ rest. First (order ++ rest)) (λ rest. First (order ++ rest)) ran.0 (comes_under m.program order (λ rest. First rest) (λ rest. First rest) m.core n.core ran.1)
    (λ rest. no_workers m.program n.core over may (order ++ rest)))

pub init_first : (m n b r : Running) (k : ℕ) (order : List ℕ) → n ≡ run_on m 0 k → lives n.core 0 ≡ false → may_begin n.core.threads ≡ true
    → b ≡ record n { core = next n.program n.core } → IsRunFinished b (λ rest. Ordered (order ++ rest)) r → IsRunFinished m (λ rest. First (order ++ rest)) r
init_first m n b r k order runs over may begins rest_of =
    let ran = init_ran m n k runs in
    let program : n.program ≡ m.program = ap (λ (z : Running). z.program) ran.0 in
    let begun : Comes n.program (λ rest. First rest) n.core (λ rest. Ordered rest) b.core = subst (λ (z : Running). Comes n.program (λ rest. First rest) n.core (λ rest. Ordered rest) z.core) (sym begins) (workers_begin n.program n.core over may) in
    let here : Comes m.program (λ rest. First rest) n.core (λ rest. Ordered rest) b.core = subst (λ (c : MarkedProgram). Comes c (λ rest. First rest) n.core (λ rest. Ordered rest) b.core) program begun in
    let same : IsSameRun m b = begins ∙ ap (λ (z : Running). record z { core = next n.program n.core }) ran.0 ∙ ap (λ (s : Core). record m { core = s }) (sym (ap (λ (z : Running). z.core) begins)) in
    finishes_behind m b r (λ rest. First (order ++ rest)) (λ rest. Ordered (order ++ rest)) same
    (comes_both m.program (λ rest. First (order ++ rest)) (λ rest. First (order ++ rest)) (λ rest. Ordered (order ++ rest)) m.core n.core b.core
    (comes_under m.program order (λ rest. First rest) (λ rest. First rest) m.core n.core ran.1)
    (comes_under m.program order (λ rest. First rest) (λ rest. Ordered rest) n.core b.core here)) rest_of

-- one round more
pub one_round_more : (m n r : Running) (turn workers k : ℕ) → IsLedByOrder m (rounds turn workers k) n → IsLedByOrder n (one_round turn workers) r
    → (j : ℕ) × IsLedByOrder m (rounds turn workers j) r
one_round_more m n r turn workers k f g =
    (suc k, gives_as m r (rounds turn workers k ++ one_round turn workers) (rounds turn workers (suc k)) (rounds_more turn workers k) (gives_both m n r (rounds turn workers k) (one_round turn workers) f g))

-- a run in turns ends where the run is over
pub turned_end : SchedulesEndOver → {E : Type 0} (c : MarkedProgram) (cfg : Config) (turn : ℕ) (r : Result Outcome E) → IfOk r (IsRunInTurns c cfg turn)
    → IfOk r (IsEndOfRun c cfg)
turned_end over c cfg turn (Ok o) k = (k.0, over c cfg (rounds turn c.program.workers (k.1.0 + 0)) k.0 (k.1.1 0), k.2)
turned_end over c cfg turn (Err e) k = k
