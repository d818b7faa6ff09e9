-- What an event does to the numbers of a thread that bound the counters.
use Rattle.std.proofs.Common.{◌≡◌, ℕ, ◌+◌, ◌-◌, ◌≤◌, Bool, true, false, List, [], ◌∷◌, Option, Some, None, refl, ap, subst, arith, sym, ◌==◌, if◌then◌else◌}
use Rattle.jvm_types.specs.declared.program.Program.{Program}
use Rattle.checked_program.specs.MarkedProgram.{MarkedProgram}
use Rattle.machine_types.specs.{Bounds.flat_held, Elision.{elided, fails}, Events.moved, Frames.{top_of, went_on}, Going.{with_phase, failed_turn, goes_on_if}}
use Rattle.machine_types.specs.{HeldMonitors.{held_at, with_held, without_held, shallower}, Instructions.printed, Onward.{Onward, Running, after}, Structure.{IsFlat, IsStructured, Stands}}
use Rattle.machine_types.specs.{Threads.{Thread, Attempt}, declared.{lock.{Held.Held, Kept.Kept}, phase.Phase.Phase}}
use Rattle.laws_threads.proofs.HeldBounds.{flat, flat_put, flat_without, flat_refit}
use Rattle.laws_threads.proofs.ThreadMove.{Lacks, GoesBy, Checks, LeadsTo, TurnsTo, Move, becomes, counting, begun_by, counted_move, looks_in, takes_in}
use Rattle.laws_states.{specs.Counters.drawn_for_flat, proofs.SameTally.{Tally, goes_if}}
use Rattle.machine_types.specs.declared.lock.Kept.TheVariants as keeps
use Rattle.machine_types.specs.declared.phase.Phase.TheVariants as phases
use Rattle.laws_threads.proofs.ThreadMove as moves

-- ---- flat locks that are held

-- the entry that is taken from the list
flat_left : (m : ℕ) (hs : List Held) (h : Held) → held_at hs m ≡ Some h → flat_held (without_held m hs) + flat h ≡ flat_held hs
flat_left m [] h e = absurd (cc)
flat_left m (g ∷ hs) h e = by_test (g.monitor == m) e (λ f. flat_left m hs h f)
  where
    by_test : (b : Bool) → (if b then Some g else held_at hs m) ≡ Some h → (held_at hs m ≡ Some h → flat_held (without_held m hs) + flat h ≡ flat_held hs)
        → flat_held (if b then hs else g ∷ without_held m hs) + flat h ≡ flat_held (g ∷ hs)
    by_test true f more = let same : g ≡ h = cc in subst (λ (x : Held). flat_held hs + flat x ≡ flat_held (g ∷ hs)) same (omega arith)
    by_test false f more = let k = more f in omega (arith, k)

flat_is_one : (h : Held) → IsFlat (Some h) → flat h ≡ 1
flat_is_one h f = ap (λ (k : Kept). flat (record h { kept = k })) f.1

refitted : (m : ℕ) (hs : List Held) (h : Held) (depth : ℕ) → held_at hs m ≡ Some h → flat_held (with_held (record h { depth = depth }) hs) ≡ flat_held hs
refitted m hs h depth e = let k = flat_refit m hs h (record h { depth = depth }) e refl in omega (arith, k)

-- ---- what an event does

-- a record is drawn
abbrev pub drawn_by : Phase → ℕ
drawn_by (phases.Grow m toward) = 1
drawn_by phase = 0

pub record Counted (began drew : ℕ) (phase : Phase) (s x : Thread) : Type 0 where
  pub instructions : s.counts.instructions + began ≤ x.counts.instructions
  pub taken : drew + flat_held x.held + (s.counts.locked + drawn_for_flat phase) ≤ flat_held s.held + (x.counts.locked + drawn_for_flat x.phase)

-- ---- all moves

-- the lock that a record was drawn for
abbrev pub HoldsFlat : Phase → List Held → Type 0
HoldsFlat (phases.FlatOut m a) held = IsFlat (held_at held m)
HoldsFlat (phases.FatIn m r toward) held = IsFlat (held_at held m)
HoldsFlat phase held = Unit {0}

pub holds_flat : (c : MarkedProgram) (was : Phase) (s : Thread) → IsStructured c was s → HoldsFlat s.phase s.held
holds_flat c was s h = by_phase s.phase h
  where
    by_phase : (phase : Phase) → IsStructured c was (record s { phase = phase }) → HoldsFlat phase s.held
    by_phase (phases.FlatOut m a) h = let stands : Stands c (phases.FlatOut m a) s.frames s.held s.attempt = subst (λ (phase : Phase). Stands c phase s.frames s.held s.attempt) h.is_as h.stands in stands.phase_shows.flat
    by_phase (phases.FatIn m r toward) h = let stands : Stands c (phases.FatIn m r toward) s.frames s.held s.attempt = subst (λ (phase : Phase). Stands c phase s.frames s.held s.attempt) h.is_as h.stands in stands.phase_shows.flat
    by_phase phase h = tt

-- a record that is drawn, or was
abbrev drawn_in : Phase → ℕ
drawn_in was = drawn_by was + drawn_for_flat was

leads_drawn : (p : Program) (s : Thread) (got : ℕ) (was now : Phase) → LeadsTo p s got was now → drawn_in was ≤ drawn_for_flat now
leads_drawn p s got was _ (moves.to_take m count k e) = looks_in (λ (w : Phase). drawn_in w ≤ 0) m was k (λ tried. omega arith) (omega arith)
leads_drawn p s got was _ (moves.to_take_fat m r k e) = looks_in (λ (w : Phase). drawn_in w ≤ 0) m was k (λ tried. omega arith) (omega arith)
leads_drawn p s got was now k = omega arith

turns_drawn : (s : Thread) (got : ℕ) (was now : Phase) → TurnsTo s got was now → drawn_in was ≤ 0
turns_drawn s got was _ (moves.looks_again m k) = looks_in (λ (w : Phase). drawn_in w ≤ 0) m was k (λ tried. omega arith) (omega arith)
turns_drawn s got was _ (moves.flags m u k e) = looks_in (λ (w : Phase). drawn_in w ≤ 0) m was k (λ tried. omega arith) (omega arith)
turns_drawn s got was now k = omega arith

goes_drawn : (p : Program) (s : Thread) (got : ℕ) (was : Phase) (o : Onward) → GoesBy p s got was o → drawn_in was ≤ 0
goes_drawn p s got _ _ (moves.by_all m r) = omega arith
goes_drawn p s got was o k = omega arith

checks_drawn : (p : Program) (s : Thread) (t : Attempt) (was : Phase) → Checks p s t was → drawn_in was ≤ 0
checks_drawn p s t _ (moves.at_throw x class) = omega arith
checks_drawn p s t was k = omega arith

lacks_drawn : (c : MarkedProgram) (s : Thread) (got : ℕ) (was : Phase) → Lacks c s got was → drawn_in was ≤ drawn_for_flat was
lacks_drawn c s got _ moves.idle = omega arith
lacks_drawn c s got was k = omega arith

at_most_one : (m : ℕ) (k : Kept) → flat (record { monitor = m; kept = k; depth = 1 }) ≤ 1
at_most_one m (keeps.Flat c) = omega arith
at_most_one m (keeps.Fat r) = omega arith

module _ (c : MarkedProgram) (s : Thread) (got began i : ℕ) (few : s.counts.instructions + began ≤ i) where
  abbrev Counts : Phase → Thread → Type 0
  Counts was y = Counted began (drawn_by was) was s y

  -- it holds what it held
  as_held : (was : Phase) (y : Thread) → y.held ≡ s.held → y.counts.locked ≡ s.counts.locked → y.counts.instructions ≡ i → drawn_in was ≤ drawn_for_flat y.phase → Counts was y
  as_held was y e l n d = let held : flat_held y.held ≡ flat_held s.held = ap flat_held e in record { instructions = omega (arith, n, few); taken = omega (arith, held, l, d) }

  -- it goes on from z
  onward : (was : Phase) (z : Thread) (o : Option Onward) → z.counts.instructions ≡ i → drawn_in was + flat_held z.held + s.counts.locked ≤ flat_held s.held + z.counts.locked → Counts was (goes_on_if z o)
  onward was z o n k =
      let same = goes_if z o in
      let held : flat_held (goes_on_if z o).held ≡ flat_held z.held = ap (λ (t : Tally). flat_held t.held) same in
      let locked : (goes_on_if z o).counts.locked ≡ z.counts.locked = ap (λ (t : Tally). t.locked) same in
      record { instructions = omega (arith, n, few, (ap (λ (t : Tally). t.instructions) same)); taken = omega (arith, k, held, locked) }

  as_before : (was : Phase) (z : Thread) (o : Option Onward) → z.held ≡ s.held → z.counts.locked ≡ s.counts.locked → z.counts.instructions ≡ i → drawn_in was ≤ 0 → Counts was (goes_on_if z o)
  as_before was z o e l n d = let held : flat_held z.held ≡ flat_held s.held = ap flat_held e in onward was z o n (omega (arith, held, l, d))

  move_counts : (was : Phase) (k : Move c (counting i s) got was) → s.phase ≡ was → HoldsFlat was s.held → Counts was (becomes c (counting i s) got was k)
  move_counts was (moves.stays k) e h = as_held was (counting i s) refl refl refl (subst (λ (w : Phase). drawn_in was ≤ drawn_for_flat w) (sym e) (lacks_drawn c (counting i s) got was k))
  move_counts was (moves.goes o k) e h = as_before was (counting i s) (Some o) refl refl refl (goes_drawn c.program (counting i s) got was o k)
  move_counts was (moves.fails_in t f d k) e h = as_held was (fails (counting i s) t) refl refl refl (let none = checks_drawn c.program (counting i s) t was k in omega (arith, none))
  move_counts was (moves.leads now k) e h = as_held was (with_phase (counting i s) now) refl refl refl (leads_drawn c.program (counting i s) got was now k)
  move_counts was (moves.turns now k) e h = as_held was (failed_turn (counting i s) now) refl refl refl (let none = turns_drawn (counting i s) got was now k in omega (arith, none))
  move_counts _ (moves.makes at word size f l t) e h = as_held phases.Run (becomes c (counting i s) got phases.Run (moves.makes at word size f l t)) refl refl refl (omega arith)
  move_counts _ (moves.prints at n f l t) e h = as_before phases.Run (printed (counting i s) got n) (Some (Running (went_on c.program at 0))) refl refl refl (omega arith)
  move_counts _ (moves.asks_to_wait at m g now f l t k) e h = as_held phases.Run (becomes c (counting i s) got phases.Run (moves.asks_to_wait at m g now f l t k)) refl refl refl (omega arith)
  move_counts _ (moves.asks at m g now f y l k) e h = as_held phases.Run (becomes c (counting i s) got phases.Run (moves.asks at m g now f y l k)) refl refl refl (omega arith)
  move_counts _ (moves.enters_again m n g l) e h = let same = refitted m s.held g (g.depth + 1) l in record { instructions = few; taken = omega (arith, same) }
  move_counts _ (moves.enters_inside m n t k) e h = record { instructions = few; taken = omega arith }
  move_counts _ (moves.begins_to_try m n noted f below l may free last unheld) e h = record { instructions = few; taken = omega arith }
  move_counts was (moves.takes_lock m kept k) e h =
      let none : drawn_in was ≤ 0 = takes_in (λ (w : Phase). drawn_in w ≤ 0) got m was kept k (λ count. omega arith) (λ r. omega arith) in
      record { instructions = few; taken = omega (arith, none, flat_put (record { monitor = m; kept = kept; depth = 1 }) s.held, at_most_one m kept) }
  move_counts _ (moves.gives_up m a (moves.on_leave g l t)) e h = onward (phases.Leave m a) (record (counting i s) { held = without_held m s.held }) (after c.program s.frames a) refl (omega (arith, flat_without m s.held))
  move_counts _ (moves.gives_up m a moves.flat_out) e h = let one = flat_of m s.held h in onward (phases.FlatOut m a) (record (counting i s) { held = without_held m s.held }) (after c.program s.frames a) refl (omega (arith, one))
    where
      flat_of : (m : ℕ) (hs : List Held) → IsFlat (held_at hs m) → flat_held (without_held m hs) + 1 ≡ flat_held hs
      flat_of m hs f = (elim (held_at hs m) as (λ (o : Option Held). held_at hs m ≡ o → IsFlat o → flat_held (without_held m hs) + 1 ≡ flat_held hs)
          [ None ↦ λ e f. absurd f | Some g ↦ λ e f. let left = flat_left m hs g e in let one = flat_is_one g f in omega (arith, left, one) ]) refl f
  move_counts _ (moves.leaves_outer m a g l t) e h = let same = refitted m s.held g (g.depth - 1) l in onward (phases.Leave m a) (record (counting i s) { held = with_held (shallower g) s.held }) (after c.program s.frames a) refl (omega (arith, same))
  move_counts _ (moves.leaves_inside m a t inner k l) e h = as_before (phases.Leave m a) (record (counting i s) { attempt = Some (record t { inner = inner }) }) (after c.program s.frames a) refl refl refl (omega arith)
  move_counts _ (moves.finishes_try m a t k l y) e h = as_before (phases.Leave m a) (elided (counting i s)) (after c.program s.frames a) refl refl refl (omega arith)
  move_counts _ (moves.fattens_lock m r toward g l) e h =
      record { instructions = few; taken = omega (arith, (flat_refit m s.held g (record g { kept = keeps.Fat r }) l refl), (flat_is_one g (subst IsFlat l h))) }
  move_counts _ (moves.gives_up_to_wait m r g l) e h = record { instructions = few; taken = omega (arith, flat_without m s.held) }
  move_counts _ (moves.retakes_lock m r depth t) e h = let new : Held = record { monitor = m; kept = keeps.Fat r; depth = depth } in record { instructions = few; taken = omega (arith, flat_put new s.held) }
  move_counts _ (moves.starts number roots l) e h = as_before phases.Start (record (counting i s) { roots = roots }) _ refl refl refl (omega arith)

pub event_counts : (c : MarkedProgram) (s : Thread) (phase : Phase) (got : ℕ) → s.phase ≡ phase → HoldsFlat phase s.held → Counted (begun_by phase (top_of c.program s.frames)) (drawn_by phase) phase s (moved c s phase got)
event_counts c s phase got e h = counted_move (Counted (begun_by phase (top_of c.program s.frames)) (drawn_by phase) phase s) c s phase got
    (λ i n k. move_counts c s got (begun_by phase (top_of c.program s.frames)) i (omega (arith, n)) phase k e h)
