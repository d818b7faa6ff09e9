-- What an event outside an attempt leaves: the thread in no attempt, and at an entry only where an instruction brings it to a new
-- one; or in the attempt that it begins at the entry where it is. No attempt has failed by it.
use Rattle.std.proofs.Common.{◌≡◌, ◌⊎◌, inl, inr, ℕ, suc, ◌+◌, ◌-◌, arith, length, nat_lt, Bool, true, false, cond, drop, List, [], ◌∷◌, Option, Some, None, refl, sym, subst, ◌∙◌, option_map, slice_get, if◌then◌else◌}
use Rattle.jvm_types.specs.{Members.is_synchronized, declared.{outcome.Thrown.{Thrown, TheVariants.StackOverflowError}, program.{MethodInfo.MethodInfo, Program.Program, Row.Row}}}
use Rattle.checked_program.specs.MarkedProgram.{MarkedProgram}
use Rattle.machine_types.specs.{Elision.{may_try, put_back}, Events.moved, Frames.{Top, frames_of, top_of, went_on, has_room, entry_frame, monitor_of, returned, handler_at}}
use Rattle.machine_types.specs.{Going.{with_phase, runs, failed_turn, goes_on, goes_on_if, goes_after}, HeldMonitors.{held_at, with_held, without_held, shallower, deeper}, Instructions.printed}
use Rattle.machine_types.specs.{LockWords.lock_of, Monitors.{takes, retakes, Tries, claim, grown}}
use Rattle.machine_types.specs.{Onward.{Onward, Running, Entering, Leaving, RootReturned, Uncaught, root_arguments, rooted, back, unwound, handed, after}, ReadyObjects.class_of}
use Rattle.machine_types.specs.{Threads.{Frame, Attempt, Thread}, declared.{lock.{Kept.Kept, LockWord.TheVariants.Free}, phase.{After.After, Phase.Phase, Toward.{Toward, TheVariants.{Leave, Wait}}}}}
use Rattle.laws_threads.proofs.ThreadMove.{Lacks, GoesBy, LeadsTo, TurnsTo, GivesUp, Asks, WaitsFrom, Move, begun_attempt, becomes, tried_attempt, counting, any_move, runs_to, turns_to, over_to, same_onward}
use Rattle.jvm_types.specs.declared.outcome.End.TheVariants as ends
use Rattle.machine_types.specs.declared.phase.After.TheVariants as afters
use Rattle.machine_types.specs.declared.phase.Phase.TheVariants as phases
use Rattle.laws_threads.proofs.ThreadMove as moves

-- a thread is to enter a monitor
abbrev pub is_entering : Phase → Bool
is_entering (phases.Enter m tried) = true
is_entering phase = false

-- only an instruction brings a thread to an entry, and there none has been tried
abbrev pub ComesNew : (was now : Phase) → Type 0
ComesNew was (phases.Enter m tried) = (was ≡ phases.Run) × (tried ≡ 0)
ComesNew was now = Unit {0}

-- the thread runs, or the limit of instructions has ended it
abbrev pub IsAtInstruction : Phase → Type 0
IsAtInstruction phase = (phase ≡ phases.Run) ⊎ (phase ≡ phases.Ending ends.Steps)

-- thread x begins the attempt a by the word that it found, and is y then
pub record Begins (c : MarkedProgram) (x y : Thread) (got : ℕ) (a : Attempt) : Type 0 where
  pub tried : ℕ
  pub enters : x.phase ≡ phases.Enter a.monitor tried
  pub may : may_try c x tried ≡ true
  pub not_held : held_at x.held a.monitor ≡ None
  pub is_free : lock_of got ≡ Free a.noted
  pub not_last : nat_lt a.noted x.cfg.range ≡ true
  pub number : a.number ≡ tried + 1
  pub failed : y.counts.failed ≡ x.counts.failed
  pub frames : put_back a y.frames ≡ y.frames
  pub inner : a.inner ≡ 0
  pub phase : IsAtInstruction y.phase

abbrev pub MovesTo : MarkedProgram → (x y : Thread) → (got : ℕ) → Option Attempt → Type 0
MovesTo c x y got None = ComesNew x.phase y.phase × (y.counts.failed ≡ x.counts.failed)
MovesTo c x y got (Some a) = Begins c x y got a

-- a thread that runs is at no entry
pub in_run : (b : Bool) → is_entering (cond b phases.Run (phases.Ending ends.Steps)) ≡ false
in_run true = refl
in_run false = refl

-- ---- ways to go on that lead to no entry, unless from an instruction

abbrev MayCome : (was : Phase) → Option Onward → Type 0
MayCome was None = Unit {0}
MayCome was (Some (Entering m frames)) = was ≡ phases.Run
MayCome was (Some o) = Unit {0}

module _ (was : Phase) where
  from_run : was ≡ phases.Run → (o : Option Onward) → MayCome was o
  from_run e None = tt
  from_run e (Some (Entering m frames)) = e
  from_run e (Some o) = tt

  back_comes : (fs : List Frame) → MayCome was (Some (back fs))
  back_comes [] = tt
  back_comes (f ∷ fs) = tt

  unwound_comes : (x : ℕ) (class : Thrown) (fs : List Frame) → MayCome was (Some (unwound x class fs))
  unwound_comes x class [] = tt
  unwound_comes x class (f ∷ fs) = tt

  handed_comes : (p : Program) (x : ℕ) (class : Thrown) (at : Top) (r : Option Row) → MayCome was (Some (handed p x class at r))
  handed_comes p x class at (Some r) = tt
  handed_comes p x class at None =
      elim (is_synchronized at.method.flags) as (λ (b : Bool). MayCome was (Some (if b then Leaving (monitor_of p at.method at.frame) (afters.Unwind x class) (frames_of at) else unwound x class at.below)))
      [ true ↦ tt | false ↦ unwound_comes x class at.below ]

  after_comes : (p : Program) (fs : List Frame) (a : After) → MayCome was (after p fs a)
  after_comes p fs afters.Next = tt
  after_comes p fs afters.Return = elim (top_of p fs) as (λ (top : Option Top). MayCome was (option_map (λ at. back (returned p at)) top)) [ None ↦ tt | Some at ↦ back_comes (returned p at) ]
  after_comes p fs (afters.Unwind x class) = unwound_comes x class (drop 1 fs)

  rooted_comes : (p : Program) (t number : ℕ) (o : Option MethodInfo) → MayCome was (option_map (rooted p t number) o)
  rooted_comes p t number None = tt
  rooted_comes p t number (Some m) = elim (has_room p [] m) as (λ (b : Bool). MayCome was (Some (if b then Running (entry_frame number m (root_arguments t m) ∷ []) else Uncaught StackOverflowError))) [ true ↦ tt | false ↦ tt ]

-- ---- by its move

goes_come : (p : Program) (s : Thread) (got : ℕ) (was : Phase) (o : Onward) → GoesBy p s got was o → MayCome was (Some o)
goes_come p s got _ o (moves.by_effect at e _ found is silent d) = from_run phases.Run refl (Some o)
goes_come p s got _ _ (moves.by_handler z class at found) = handed_comes _ p z class at (handler_at (class_of class) at)
goes_come p s got was o k = tt

lacks_new : (c : MarkedProgram) (s : Thread) (got : ℕ) (was : Phase) → Lacks c s got was → ComesNew was was
lacks_new c s got _ moves.idle = tt
lacks_new c s got was k = tt

leads_new : (p : Program) (s : Thread) (got : ℕ) (was now : Phase) → LeadsTo p s got was now → ComesNew was now
leads_new p s got _ _ (moves.to_acquire m tried free) = tt
leads_new p s got was now k = tt

turns_new : (s : Thread) (got : ℕ) (was now : Phase) → TurnsTo s got was now → ComesNew was now
turns_new s got was _ (moves.looks_again m k) = tt
turns_new s got was now k = tt

gives_up_new : (s : Thread) (m : ℕ) (a : After) (was : Phase) → GivesUp s m a was → ComesNew was was
gives_up_new s m a _ (moves.on_leave h e t) = tt
gives_up_new s m a _ moves.flat_out = tt

waits_new : (m : ℕ) (kept : Kept) (now : Phase) → WaitsFrom m kept now → ComesNew phases.Run now
waits_new m _ _ (moves.grows_first count) = tt
waits_new m _ _ (moves.waits_fat r) = tt

asks_new : (m : ℕ) (kept : Kept) (now : Phase) → Asks m kept now → ComesNew phases.Run now
asks_new m _ _ (moves.looks_who r) = tt
asks_new m _ _ (moves.clears_all r) = tt

grown_new : (was : Phase) (m r : ℕ) (toward : Toward) → ComesNew was (grown m r toward)
grown_new was m r (Leave a) = tt
grown_new was m r Wait = tt

goes_new : (was : Phase) (s : Thread) (o : Onward) → MayCome was (Some o) → ComesNew was (goes_on s o).phase
goes_new was s (Running frames) may = runs_to (ComesNew was) s tt tt
goes_new was s (Entering m frames) may = (may, refl)
goes_new was s RootReturned may = over_to (ComesNew was) s.roots (λ e. tt) (λ number rest e. tt)
goes_new was s o may = tt

module _ (c : MarkedProgram) (x : Thread) (got : ℕ) (none : x.attempt ≡ None) where
  abbrev Moves : Thread → Type 0
  Moves y = MovesTo c x y got y.attempt

  -- it stays in no attempt
  out : (was : Phase) → x.phase ≡ was → (y : Thread) → y.attempt ≡ None → y.counts.failed ≡ x.counts.failed → ComesNew was y.phase → Moves y
  out was here y e f k = subst (MovesTo c x y got) (sym e) (subst (λ (w : Phase). ComesNew w y.phase) (sym here) k, f)

  on : (was : Phase) → x.phase ≡ was → (s : Thread) (o : Onward) → s.attempt ≡ None → s.counts.failed ≡ x.counts.failed → MayCome was (Some o) → Moves (goes_on s o)
  on was here s o e f may = out was here (goes_on s o) (same_onward (λ (s : Thread). s.attempt) (λ s frames phase turns. refl) s (Some o) ∙ e)
      (same_onward (λ (s : Thread). s.counts.failed) (λ s frames phase turns. refl) s (Some o) ∙ f) (goes_new was s o may)

  on_if : (was : Phase) → x.phase ≡ was → (s : Thread) (o : Option Onward) → s.attempt ≡ None → s.counts.failed ≡ x.counts.failed → MayCome was o → ComesNew was s.phase → Moves (goes_on_if s o)
  on_if was here s None e f may k = out was here s e f k
  on_if was here s (Some o) e f may k = on was here s o e f may

  left : (was : Phase) → x.phase ≡ was → ComesNew was was → (s : Thread) (a : After) → s.attempt ≡ None → s.counts.failed ≡ x.counts.failed → s.phase ≡ x.phase → Moves (goes_after c.program s a)
  left was here k s a e f same = on_if was here s (after c.program s.frames a) e f (after_comes was c.program s.frames a) (subst (ComesNew was) (sym (same ∙ here)) k)

  no_claim : {P : Type 0} (m : ℕ) (t : Attempt) → claim x m ≡ Tries t → P
  no_claim m t e = let bad : Some t ≡ None = sym (tried_attempt m (held_at x.held m) x.attempt t e) ∙ none in absurd (cc)

  move_enters : (n : ℕ) (was : Phase) (k : Move c (counting n x) got was) → x.phase ≡ was → Moves (becomes c (counting n x) got was k)
  move_enters n was (moves.stays k) e = out was e (counting n x) none refl (subst (ComesNew was) (sym e) (lacks_new c (counting n x) got was k))
  move_enters n was (moves.goes o k) e = on was e (counting n x) o none refl (goes_come c.program (counting n x) got was o k)
  move_enters n was (moves.fails_in t f d k) e = let bad : Some t ≡ None = sym f ∙ none in absurd (cc)
  move_enters n was (moves.leads now k) e = out was e (with_phase (counting n x) now) none refl (leads_new c.program (counting n x) got was now k)
  move_enters n was (moves.turns now k) e = out was e (failed_turn (counting n x) now) none refl (turns_to (ComesNew was) (counting n x) now (turns_new (counting n x) got was now k) tt)
  move_enters n _ (moves.makes at word size f l t) e = out phases.Run e (becomes c (counting n x) got phases.Run (moves.makes at word size f l t)) none refl tt
  move_enters n _ (moves.prints at i f l t) e = on phases.Run e (printed (counting n x) got i) (Running (went_on c.program at 0)) none refl tt
  move_enters n _ (moves.asks_to_wait at m h now f l t k) e = out phases.Run e (becomes c (counting n x) got phases.Run (moves.asks_to_wait at m h now f l t k)) none refl (waits_new m h.kept now k)
  move_enters n _ (moves.asks at m h now f y l k) e = out phases.Run e (becomes c (counting n x) got phases.Run (moves.asks at m h now f y l k)) none refl (asks_new m h.kept now k)
  move_enters n _ (moves.enters_again m tried h l) e =
      let s : Thread = record (counting n x) { held = with_held (deeper h) x.held } in out (phases.Enter m tried) e (runs s) none refl (runs_to (ComesNew (phases.Enter m tried)) s tt tt)
  move_enters n _ (moves.enters_inside m tried t k) e = no_claim m t k
  move_enters n _ (moves.begins_to_try m tried noted f below l may free last unheld) e = record {
    tried = tried;
    enters = e;
    may = may;
    not_held = moves.not_held m (held_at x.held m) x.attempt unheld;
    is_free = free;
    not_last = last;
    number = refl;
    failed = refl;
    frames = subst (λ (gs : List Frame). put_back (begun_attempt m noted tried f below) gs ≡ gs) (sym l) (let one : suc (length below) - length below ≡ 1 = omega arith in rw one refl);
    inner = refl;
    phase = runs_to IsAtInstruction (counting n x) (inl refl) (inr refl);
  }
  move_enters n was (moves.takes_lock m kept k) e = out was e (takes (counting n x) m kept) none refl (runs_to (ComesNew was) (counting n x) tt tt)
  move_enters n was (moves.gives_up m a k) e = left was e (gives_up_new (counting n x) m a was k) (record (counting n x) { held = without_held m x.held }) a none refl refl
  move_enters n _ (moves.leaves_outer m a h l t) e = left (phases.Leave m a) e tt (record (counting n x) { held = with_held (shallower h) x.held }) a none refl refl
  move_enters n _ (moves.leaves_inside m a t inner k l) e = no_claim m t k
  move_enters n _ (moves.finishes_try m a t k l y) e = no_claim m t k
  move_enters n _ (moves.fattens_lock m r toward h l) e = out (phases.FatIn m r toward) e (becomes c (counting n x) got (phases.FatIn m r toward) (moves.fattens_lock m r toward h l)) none refl (grown_new (phases.FatIn m r toward) m r toward)
  move_enters n _ (moves.gives_up_to_wait m r h l) e = out (phases.WaitOut m r) e (becomes c (counting n x) got (phases.WaitOut m r) (moves.gives_up_to_wait m r h l)) none refl tt
  move_enters n _ (moves.retakes_lock m r depth t) e = out (phases.Retake m r depth) e (retakes (counting n x) m r depth) none refl (runs_to (ComesNew (phases.Retake m r depth)) (counting n x) tt tt)
  move_enters n _ (moves.starts number roots l) e = on_if phases.Start e (record (counting n x) { roots = roots }) (option_map (rooted c.program x.number number) (slice_get c.program.methods number)) none refl
      (rooted_comes phases.Start c.program x.number number (slice_get c.program.methods number)) (subst (ComesNew phases.Start) (sym e) tt)

  pub outside_moves : (phase : Phase) → x.phase ≡ phase → Moves (moved c x phase got)
  outside_moves phase e = any_move Moves c x phase got (λ n k. move_enters n phase k e)
