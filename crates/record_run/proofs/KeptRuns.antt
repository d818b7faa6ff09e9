-- The order that is kept leads the machine to its state.
use Rattle.std.proofs.Common.{◌≡◌, ◌≤◌, ◌<◌, inl, inr, ℕ, zero, suc, Bool, true, false, List, [], ◌∷◌, ◌++◌, ◌+◌, length, Option, Some, None, refl, sym, ap, subst, ◌∙◌, arith, MatchOption, nat_lt, ◌&&◌}
use Rattle.std.proofs.lemmas.{Bool.Decides.nat_tests, List.length-append}
use Rattle.lists.proofs.ListLaws.{same_some}
use Rattle.jvm_types.specs.declared.outcome.Outcome.{Outcome}
use Rattle.checked_program.specs.MarkedProgram.{MarkedProgram}
use Rattle.machine_types.specs.{Core.{Core, event, lives, next, outcome, start}, Schedules.{First, Ordered, is_live_worker}, declared.config.Config.Config}
use Rattle.replay_runner.{specs.{Replays.{GoesToEnd, HasLedTo}, Running.{Running, events}}, proofs.{ManyEvents.goes_in_init, Turns.{led_both, led_itself, ordered_turn, replayed, workers_turn}}}
use Rattle.record_run.specs.{Kept.{HaveBegun, IsFull, IsKeptOf, IsRecordOfProgram, IsRecordOf, Kept, NamedRecord}, Recordings.{AreLiveWorkers, IsRecorded, after_order}}

pub same_program : (run : Option NamedRecord) (c : MarkedProgram) (k : Kept) → IsRecordOfProgram run c → IsKeptOf run k → c ≡ k.machine.program
same_program run c k of kept = ap (λ (n : NamedRecord). n.program) (same_some (sym of.2 ∙ kept.named))

-- ---- an event more

event_behind : (c : MarkedProgram) (s : Core) (order : List ℕ) (t : ℕ) → after_order c s (order ++ t ∷ []) ≡ event c (after_order c s order) t
event_behind c s [] t = refl
event_behind c s (u ∷ order) t = event_behind c (event c s u) order t

live_behind : (c : MarkedProgram) (s : Core) (order : List ℕ) (t : ℕ) → AreLiveWorkers c s order → is_live_worker (after_order c s order) t ≡ true → AreLiveWorkers c s (order ++ t ∷ [])
live_behind c s [] t l e = (e, tt)
live_behind c s (u ∷ order) t l e = (l.0, live_behind c (event c s u) order t l.1 e)

abbrev pub with_event : Kept → (t : ℕ) → Kept
with_event k t = record { machine = record k.machine { core = event k.machine.program k.machine.core t }; order = k.order ++ t ∷ []; most = k.most }

pub keeps_event : (run : Option NamedRecord) (k : Kept) (t : ℕ) → IsKeptOf run k → is_live_worker k.machine.core t ≡ true → length k.order < k.most → IsKeptOf run (with_event k t)
keeps_event run k t h live room = record {
  named = h.named;
  few = (let one : length (k.order ++ t ∷ []) ≡ length k.order + 1 = length-append k.order (t ∷ []) in omega (arith, one, room));
  at = h.at;
  begin = h.begin;
  live = live_behind k.machine.program h.at k.order t h.live (ap (λ (s : Core). is_live_worker s t) (sym h.led) ∙ live);
  led = ap (λ (s : Core). event k.machine.program s t) h.led ∙ sym (event_behind k.machine.program h.at k.order t);
}

pub begins : (run : Option NamedRecord) (m : Running) (order : List ℕ) (most : ℕ) → run ≡ Some (record { program = m.program; cfg = m.cfg; most = most }) → HaveBegun m.program m.cfg m.core → order ≡ [] → IsKeptOf run (record { machine = m; order = order; most = most })
begins run m order most named begun none = subst (λ (ts : List ℕ). IsKeptOf run (record { machine = m; order = ts; most = most })) (sym none) (record { named = named; few = omega arith; at = m.core; begin = begun; live = tt; led = refl })

-- what a machine and an order came to
pub kept_on : (run : Option NamedRecord) (k : Kept) (m : Running) (order : List ℕ) (t : ℕ) → m ≡ record k.machine { core = event k.machine.program k.machine.core t } → order ≡ k.order ++ t ∷ [] → IsKeptOf run k → is_live_worker k.machine.core t ≡ true → length k.order < k.most → IsKeptOf run (record { machine = m; order = order; most = k.most })
kept_on run k m order t e is h live room = subst (IsKeptOf run) (λ i. record { machine = sym e i; order = sym is i; most = k.most }) (keeps_event run k t h live room)

-- ---- whose turn comes next

worker_lives : (s : Core) (t : ℕ) → lives s t ≡ true → 1 ≤ t → is_live_worker s t ≡ true
worker_lives s t live one = let some : nat_lt 0 t ≡ true = grind (arith, nat_tests, one) in ap (λ (b : Bool). b && lives s t) some ∙ live

no_worker_lives : (s : Core) → ((t : ℕ) → 1 ≤ t → lives s t ≡ false) → (t : ℕ) → is_live_worker s t ≡ false
no_worker_lives s dead zero = refl
no_worker_lives s dead (suc t) = let some : nat_lt 0 (suc t) ≡ true = grind (arith, nat_tests) in ap (λ (b : Bool). b && lives s (suc t)) some ∙ dead (suc t) (omega arith)

pub next_is : (k : Kept) (r : Option ℕ) → length k.order < k.most → MatchOption r ((t : ℕ) → 1 ≤ t → lives k.machine.core t ≡ false) (λ t. (lives k.machine.core t ≡ true) × (1 ≤ t) × (t ≤ 8))
    → MatchOption r (IsFull k) (λ t. (length k.order < k.most) × (is_live_worker k.machine.core t ≡ true) × (t ≤ 8))
next_is k None room h = inr (no_worker_lives k.machine.core h)
next_is k (Some t) room h = (room, worker_lives k.machine.core t h.0 h.1, h.2)

-- ---- a replay by the order

-- it comes to the begin of the workers
begin_at : (c : MarkedProgram) (cfg : Config) (s : Core) (order : List ℕ) → HaveBegun c cfg s → HasLedTo c (First order) (start c cfg) (Ordered order) s
begin_at c cfg s order b =
    let m : Running = record { program = c; cfg = cfg; core = start c cfg } in
    let behind : Core = events c (start c cfg) 0 b.begin.count in
    let begun : HasLedTo c (First order) (start c cfg) (Ordered order) (next c behind) =
    led_both c (First order) (First order) (Ordered order) (start c cfg) behind (next c behind) (goes_in_init m order b.begin.count).leads (workers_turn c behind order b.begin.init_over b.returned) in
    subst (λ (z : Core). HasLedTo c (First order) (start c cfg) (Ordered order) z) (sym b.begin.begun) begun

-- and makes the events of the order
order_made : (c : MarkedProgram) (s : Core) (order : List ℕ) → AreLiveWorkers c s order → HasLedTo c (Ordered order) s (Ordered []) (after_order c s order)
order_made c s [] live = led_itself c (Ordered []) s
order_made c s (t ∷ order) live = led_both c (Ordered (t ∷ order)) (Ordered order) (Ordered []) s (event c s t) (after_order c (event c s t) order) (ordered_turn c s t order live.0) (order_made c (event c s t) order live.1)

pub finishes : (run : Option NamedRecord) (k : Kept) (n : Running) (o : Outcome) → IsKeptOf run k → IsFull k → GoesToEnd k.machine (Ordered []) n → o ≡ outcome n.core → IsRecordOf run (record { outcome = o; order = k.order })
finishes run k n o h full goes is = subst (λ (z : Option NamedRecord). IsRecordOf z (record { outcome = o; order = k.order })) (sym h.named) made
  where
    c : MarkedProgram
    c = k.machine.program

    cfg : Config
    cfg = k.machine.cfg

    there : HasLedTo c (First k.order) (start c cfg) (Ordered []) k.machine.core
    there = subst (λ (z : Core). HasLedTo c (First k.order) (start c cfg) (Ordered []) z) (sym h.led) (led_both c (First k.order) (Ordered k.order) (Ordered []) (start c cfg) h.at (after_order c h.at k.order) (begin_at c cfg h.at k.order h.begin) (order_made c h.at k.order h.live))

    whole : IsFull k → length k.order < k.most → (t : ℕ) → is_live_worker (after_order c h.at k.order) t ≡ false
    whole (inl many) fewer t = absurd (omega (arith, many, fewer))
    whole (inr dead) fewer t = ap (λ (z : Core). is_live_worker z t) (sym h.led) ∙ dead t

    made : IsRecorded c cfg k.most k.order o
    made = record {
      replayed = replayed c cfg k.order goes.0 n.core o (led_both c (First k.order) (Ordered []) goes.0 (start c cfg) k.machine.core n.core there goes.1.leads) goes.2 is;
      few = h.few;
      at = h.at;
      begin = h.begin.begin;
      live = h.live;
      whole = whole full;
    }
