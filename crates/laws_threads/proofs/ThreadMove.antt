-- What an event makes of its thread: one of these moves, each with what led to it. A law that every event keeps something is a
-- match on them.
use Rattle.std.proofs.Common.{◌≡◌, ℕ, zero, suc, ◌+◌, ◌==◌, nat_lt, Bool, true, false, List, [], ◌∷◌, length, Option, Some, None, refl, sym, subst, arith, nat_le, slice_get, option_map, ◌&&◌}
use Rattle.std.proofs.{Common.{if◌then◌else◌, IfSome}, lemmas.Bool.{cond_both, Decides.nat_tests}}
use Rattle.lists.proofs.TestLaws.{both_are_true}
use Rattle.jvm_types.specs.{Numbers.has_flag, declared.{fixed_words.TheConstants.MONITOR_RECORDS, limits.TheConstants.{FLAG_FROM, MOST_ATTEMPTS}, outcome.{End.End, Thrown.Thrown}}}
use Rattle.jvm_types.specs.declared.{outcome.Thrown.TheVariants.{ArrayIndexOutOfBoundsException, OutOfMemoryError, IllegalMonitorStateException}, program.Program.Program}
use Rattle.checked_program.specs.MarkedProgram.{MarkedProgram}
use Rattle.machine_types.specs.{Elision.{enters_marked, may_try, begins, tries, is_checked, is_same, fails, if_same, elided}, Events.{thread_started, element_made, moved}, Ints.low}
use Rattle.machine_types.specs.{Frames.{Top, top_of, effect_at, went_on, making, pushed, handler_at}, Going.{with_phase, runs, failed_turn, root_over, goes_on, goes_on_if, goes_after}}
use Rattle.machine_types.specs.{HeldMonitors.{held_at, with_held, without_held, deeper, shallower}, Instructions.{has_print_left, begun, printed, if_held, waits, notifies, did, instructed, ran}}
use Rattle.machine_types.specs.{LockWords.{word_of_lock, lock_of}, Onward.{Onward, Running, Throwing, Entering, Leaving, RootReturned, Uncaught, threw, rooted, handed, done}, ReadyObjects.class_of}
use Rattle.machine_types.specs.Monitors.{Claim, Has, Tries, HasNot, claim_by, claim, acquires, enter_moves, takes, finishes, released, lets_go, leave_moves, grows_not, grown, fattens, bit_of, goes_to_wait, retakes, lowest_of}
use Rattle.machine_types.specs.{Threads.{Frame, Attempt, Thread}, Words.{header_length, value_word}, declared.{effect.Effect.Effect, lock.{Held.Held, Kept.Kept, LockWord.LockWord}, phase.After.After}}
use Rattle.machine_types.specs.declared.{effect.Effect.TheVariants.{Indexes, Makes, Prints, Waits, Notifies, NotifiesAll}, phase.{Phase.Phase, Toward.Toward}}
use Rattle.laws_threads.proofs.Tests.{either_way}
use Rattle.jvm_types.specs.declared.outcome.End.TheVariants as ends
use Rattle.machine_types.specs.declared.lock.Kept.TheVariants as keeps
use Rattle.machine_types.specs.declared.lock.LockWord.TheVariants as locks
use Rattle.machine_types.specs.declared.phase.Phase.TheVariants as phases
use Rattle.machine_types.specs.declared.phase.Toward.TheVariants as towards

-- ---- what led to a move, by the phase that the thread was in

-- it looks at the lock word of a monitor that it enters
pub data Looks (s : Thread) (m : ℕ) : Phase → Type 0 where
  entering : (tried : ℕ) → claim s m ≡ HasNot → Looks s m (phases.Enter m tried)
  acquiring : Looks s m (phases.Acquire m)

-- an effect of which `done` says all
abbrev pub IsByDone : Effect → Type 0
IsByDone (Indexes array index stored) = ⊥
IsByDone (Makes word size) = ⊥
IsByDone (Prints n) = ⊥
IsByDone (Waits m) = ⊥
IsByDone (Notifies m) = ⊥
IsByDone (NotifiesAll m) = ⊥
IsByDone e = Unit {0}

-- it notifies one or all
pub data IsNotify (p : Program) (at : Top) (m : ℕ) : Type 0 where
  of_one : effect_at p at ≡ Notifies m → IsNotify p at m
  of_all : effect_at p at ≡ NotifiesAll m → IsNotify p at m

-- what the machine throws in place of an effect
pub data Refuses (p : Program) (got : ℕ) (at : Top) : Thrown → Type 0 where
  past_end : (array index : ℕ) (stored : Option ℕ) → effect_at p at ≡ Indexes array index stored → nat_lt (low index) (header_length got) ≡ false → Refuses p got at ArrayIndexOutOfBoundsException
  no_memory : (word size : ℕ) → effect_at p at ≡ Makes word size → Refuses p got at OutOfMemoryError
  waits_unheld : (m : ℕ) → effect_at p at ≡ Waits m → Refuses p got at IllegalMonitorStateException
  notifies_unheld : (m : ℕ) → IsNotify p at m → Refuses p got at IllegalMonitorStateException

-- what its event takes is not there
pub data Lacks (c : MarkedProgram) (s : Thread) (got : ℕ) : Phase → Type 0 where
  idle : Lacks c s got phases.Idle
  over : (e : End) → Lacks c s got (phases.Ended e)
  no_root : s.roots ≡ [] → Lacks c s got phases.Start
  no_instruction : top_of c.program s.frames ≡ None → Lacks c s got phases.Run
  no_way : (at : Top) (e : Effect) → top_of c.program s.frames ≡ Some at → effect_at c.program at ≡ e → IsByDone e → done c.program at e got ≡ None → Lacks c s got phases.Run
  no_place : (word : ℕ) (stored : Option ℕ) → top_of c.program s.frames ≡ None → Lacks c s got (phases.Element word stored)
  no_catcher : (x : ℕ) (class : Thrown) → top_of c.program s.frames ≡ None → Lacks c s got (phases.Throw x class)
  no_claim : (m : ℕ) (a : After) → claim s m ≡ HasNot → Lacks c s got (phases.Leave m a)
  not_fat : (m r : ℕ) (toward : Toward) → held_at s.held m ≡ None → Lacks c s got (phases.FatIn m r toward)
  not_waiting : (m r : ℕ) → held_at s.held m ≡ None → Lacks c s got (phases.WaitOut m r)

pub data GoesBy (p : Program) (s : Thread) (got : ℕ) : Phase → Onward → Type 0 where
  by_effect : (at : Top) (e : Effect) (o : Onward) → top_of p s.frames ≡ Some at → effect_at p at ≡ e → IsByDone e → done p at e got ≡ Some o → GoesBy p s got phases.Run o
  by_machine : (at : Top) (class : Thrown) → top_of p s.frames ≡ Some at → Refuses p got at class → GoesBy p s got phases.Run (threw class at)
  by_nobody : (at : Top) (m count : ℕ) (h : Held) → top_of p s.frames ≡ Some at → IsNotify p at m → held_at s.held m ≡ Some h → h.kept ≡ keeps.Flat count → GoesBy p s got phases.Run (Running (went_on p at 0))
  by_element : (word : ℕ) (stored : Option ℕ) (at : Top) → top_of p s.frames ≡ Some at → GoesBy p s got (phases.Element word stored) (Running (went_on p at (element_made stored got)))
  by_object : (a word : ℕ) → GoesBy p s got (phases.Made a word) (Running (pushed a s.frames))
  by_handler : (x : ℕ) (class : Thrown) (at : Top) → top_of p s.frames ≡ Some at → GoesBy p s got (phases.Throw x class) (handed p x class at (handler_at (class_of class) at))
  by_none : (m r : ℕ) → (got == 0) ≡ true → GoesBy p s got (phases.NotifyLook m r) (Running s.frames)
  by_one : (m r u : ℕ) → GoesBy p s got (phases.NotifyOne m r u) (Running s.frames)
  by_all : (m r : ℕ) → GoesBy p s got (phases.NotifyAll m r) (Running s.frames)

-- an attempt finds that its lock word is another
pub data Checks (p : Program) (s : Thread) (t : Attempt) : Phase → Type 0 where
  at_instruction : (at : Top) → top_of p s.frames ≡ Some at → is_checked at.frame.pc (effect_at p at) ≡ true → Checks p s t phases.Run
  at_throw : (x : ℕ) (class : Thrown) → Checks p s t (phases.Throw x class)
  at_end : (m : ℕ) (a : After) → claim s m ≡ Tries t → t.inner ≡ 0 → Checks p s t (phases.Leave m a)

-- to another phase, and no more
pub data LeadsTo (p : Program) (s : Thread) (got : ℕ) : Phase → Phase → Type 0 where
  to_acquire : (m tried : ℕ) → claim s m ≡ HasNot → LeadsTo p s got (phases.Enter m tried) (phases.Acquire m)
  to_take : {was : Phase} (m count : ℕ) → Looks s m was → lock_of got ≡ locks.Free count → LeadsTo p s got was (phases.Take m count)
  to_take_fat : {was : Phase} (m r : ℕ) → Looks s m was → lock_of got ≡ locks.Fat r → LeadsTo p s got was (phases.TakeFat m r)
  from_flag : (m u : ℕ) → LeadsTo p s got (phases.Flag m u) (phases.Acquire m)
  to_grow : (m count : ℕ) (a : After) (h : Held) → held_at s.held m ≡ Some h → nat_lt 1 h.depth ≡ false → h.kept ≡ keeps.Flat count → LeadsTo p s got (phases.Leave m a) (phases.Grow m (towards.Leave a))
  to_own : (m : ℕ) (toward : Toward) → nat_lt got MONITOR_RECORDS ≡ true → LeadsTo p s got (phases.Grow m toward) (phases.Own m got toward)
  to_flat_out : (m : ℕ) (a : After) → nat_lt got MONITOR_RECORDS ≡ false → LeadsTo p s got (phases.Grow m (towards.Leave a)) (phases.FlatOut m a)
  to_no_record : (m : ℕ) → nat_lt got MONITOR_RECORDS ≡ false → LeadsTo p s got (phases.Grow m towards.Wait) (phases.Ending ends.Records)
  to_fat_in : (m r : ℕ) (toward : Toward) → LeadsTo p s got (phases.Own m r toward) (phases.FatIn m r toward)
  to_wait_out : (m r : ℕ) → LeadsTo p s got (phases.WaitBit m r) (phases.WaitOut m r)
  to_retake : (m r depth : ℕ) → has_flag (bit_of s.number) got ≡ false → LeadsTo p s got (phases.WaitLook m r depth) (phases.Retake m r depth)
  to_notify_one : (m r : ℕ) → (got == 0) ≡ false → LeadsTo p s got (phases.NotifyLook m r) (phases.NotifyOne m r (lowest_of got))
  to_end : (e : End) → LeadsTo p s got (phases.Ending e) (phases.Ended e)
  to_element : (at : Top) (array index : ℕ) (stored : Option ℕ) → top_of p s.frames ≡ Some at → effect_at p at ≡ Indexes array index stored → nat_lt (low index) (header_length got) ≡ true
      → LeadsTo p s got phases.Run (phases.Element (value_word array (low index)) stored)
  to_no_print : (at : Top) (n : ℕ) → top_of p s.frames ≡ Some at → effect_at p at ≡ Prints n → has_print_left s ≡ false → LeadsTo p s got phases.Run (phases.Ending ends.Prints)

-- by a turn that failed
pub data TurnsTo (s : Thread) (got : ℕ) : Phase → Phase → Type 0 where
  looks_again : {was : Phase} (m : ℕ) → Looks s m was → TurnsTo s got was (phases.Acquire m)
  flags : {was : Phase} (m u : ℕ) → Looks s m was → lock_of got ≡ locks.Held u → TurnsTo s got was (phases.Flag m u)
  takes_not : (m count : ℕ) → (got == word_of_lock (locks.Free count)) ≡ false → TurnsTo s got (phases.Take m count) (phases.Acquire m)
  takes_not_fat : (m r : ℕ) → (got == 0) ≡ false → TurnsTo s got (phases.TakeFat m r) (phases.TakeFat m r)
  waits_on : (m r depth : ℕ) → has_flag (bit_of s.number) got ≡ true → TurnsTo s got (phases.WaitLook m r depth) (phases.WaitLook m r depth)
  retakes_not : (m r depth : ℕ) → (got == 0) ≡ false → TurnsTo s got (phases.Retake m r depth) (phases.Retake m r depth)

-- it takes the lock
pub data Takes (got m : ℕ) : Phase → Kept → Type 0 where
  a_flat : (count : ℕ) → (got == word_of_lock (locks.Free count)) ≡ true → Takes got m (phases.Take m count) (keeps.Flat count)
  a_fat : (r : ℕ) → (got == 0) ≡ true → Takes got m (phases.TakeFat m r) (keeps.Fat r)

-- it gives the lock up
pub data GivesUp (s : Thread) (m : ℕ) (a : After) : Phase → Type 0 where
  on_leave : (h : Held) → held_at s.held m ≡ Some h → nat_lt 1 h.depth ≡ false → GivesUp s m a (phases.Leave m a)
  flat_out : GivesUp s m a (phases.FlatOut m a)

-- behind a wait or a notification that its instruction asks for; the lock of the monitor is held so
pub data Asks (m : ℕ) : Kept → Phase → Type 0 where
  looks_who : (r : ℕ) → Asks m (keeps.Fat r) (phases.NotifyLook m r)
  clears_all : (r : ℕ) → Asks m (keeps.Fat r) (phases.NotifyAll m r)

pub data WaitsFrom (m : ℕ) : Kept → Phase → Type 0 where
  grows_first : (count : ℕ) → WaitsFrom m (keeps.Flat count) (phases.Grow m towards.Wait)
  waits_fat : (r : ℕ) → WaitsFrom m (keeps.Fat r) (phases.WaitBit m r)

-- ---- the moves

pub data Move (c : MarkedProgram) (s : Thread) (got : ℕ) : Phase → Type 0 where
  stays : {was : Phase} → Lacks c s got was → Move c s got was
  goes : {was : Phase} (o : Onward) → GoesBy c.program s got was o → Move c s got was
  fails_in : {was : Phase} (t : Attempt) → s.attempt ≡ Some t → is_same t got ≡ false → Checks c.program s t was → Move c s got was
  leads : {was : Phase} (now : Phase) → LeadsTo c.program s got was now → Move c s got was
  turns : {was : Phase} (now : Phase) → TurnsTo s got was now → Move c s got was
  -- an instruction
  makes : (at : Top) (word size : ℕ) → top_of c.program s.frames ≡ Some at → effect_at c.program at ≡ Makes word size → nat_le (got + size) c.program.heap ≡ true → Move c s got phases.Run
  prints : (at : Top) (n : ℕ) → top_of c.program s.frames ≡ Some at → effect_at c.program at ≡ Prints n → has_print_left s ≡ true → Move c s got phases.Run
  asks_to_wait : (at : Top) (m : ℕ) (h : Held) (now : Phase) → top_of c.program s.frames ≡ Some at → effect_at c.program at ≡ Waits m → held_at s.held m ≡ Some h → WaitsFrom m h.kept now → Move c s got phases.Run
  asks : (at : Top) (m : ℕ) (h : Held) (now : Phase) → top_of c.program s.frames ≡ Some at → IsNotify c.program at m → held_at s.held m ≡ Some h → Asks m h.kept now → Move c s got phases.Run
  -- an entry
  enters_again : (m tried : ℕ) (h : Held) → held_at s.held m ≡ Some h → Move c s got (phases.Enter m tried)
  enters_inside : (m tried : ℕ) (t : Attempt) → claim s m ≡ Tries t → Move c s got (phases.Enter m tried)
  begins_to_try : (m tried noted : ℕ) (f : Frame) (below : List Frame) → s.frames ≡ f ∷ below → may_try c s tried ≡ true → lock_of got ≡ locks.Free noted → nat_lt noted s.cfg.range ≡ true → claim s m ≡ HasNot → Move c s got (phases.Enter m tried)
  takes_lock : {was : Phase} (m : ℕ) (kept : Kept) → Takes got m was kept → Move c s got was
  -- an exit
  gives_up : {was : Phase} (m : ℕ) (a : After) → GivesUp s m a was → Move c s got was
  leaves_outer : (m : ℕ) (a : After) (h : Held) → held_at s.held m ≡ Some h → nat_lt 1 h.depth ≡ true → Move c s got (phases.Leave m a)
  leaves_inside : (m : ℕ) (a : After) (t : Attempt) (inner : ℕ) → claim s m ≡ Tries t → t.inner ≡ suc inner → Move c s got (phases.Leave m a)
  finishes_try : (m : ℕ) (a : After) (t : Attempt) → claim s m ≡ Tries t → t.inner ≡ 0 → is_same t got ≡ true → Move c s got (phases.Leave m a)
  -- a fat lock, and waiting
  fattens_lock : (m r : ℕ) (toward : Toward) (h : Held) → held_at s.held m ≡ Some h → Move c s got (phases.FatIn m r toward)
  gives_up_to_wait : (m r : ℕ) (h : Held) → held_at s.held m ≡ Some h → Move c s got (phases.WaitOut m r)
  retakes_lock : (m r depth : ℕ) → (got == 0) ≡ true → Move c s got (phases.Retake m r depth)
  -- the next root
  starts : (number : ℕ) (roots : List ℕ) → s.roots ≡ number ∷ roots → Move c s got phases.Start

-- the attempt that an entry begins
abbrev pub begun_attempt : (m noted tried : ℕ) → Frame → (below : List Frame) → Attempt
begun_attempt m noted tried f below = record { monitor = m; noted = noted; base = length below; number = tried + 1; inner = 0; entry = f }

abbrev pub becomes : (c : MarkedProgram) (s : Thread) (got : ℕ) (was : Phase) → Move c s got was → Thread
becomes c s got was (stays k) = s
becomes c s got was (goes o k) = goes_on s o
becomes c s got was (fails_in t e d k) = fails s t
becomes c s got was (leads now k) = with_phase s now
becomes c s got was (turns now k) = failed_turn s now
becomes c s got _ (makes at word size e f t) = record s { frames = making c.program at; phase = phases.Made got word }
becomes c s got _ (prints at n e f t) = goes_on (printed s got n) (Running (went_on c.program at 0))
becomes c s got _ (asks_to_wait at m h now e f l k) = record s { frames = went_on c.program at 0; phase = now; turns = 0 }
becomes c s got _ (asks at m h now e y l k) = record s { frames = went_on c.program at 0; phase = now }
becomes c s got _ (enters_again m tried h l) = runs (record s { held = with_held (deeper h) s.held })
becomes c s got _ (enters_inside m tried t k) = runs (record s { attempt = Some (record t { inner = t.inner + 1 }) })
becomes c s got _ (begins_to_try m tried noted f below e y l t free) = runs (record s { attempt = Some (begun_attempt m noted tried f below) })
becomes c s got was (takes_lock m kept k) = takes s m kept
becomes c s got was (gives_up m a k) = lets_go c.program s m a
becomes c s got _ (leaves_outer m a h l t) = goes_after c.program (record s { held = with_held (shallower h) s.held }) a
becomes c s got _ (leaves_inside m a t inner k e) = goes_after c.program (record s { attempt = Some (record t { inner = inner }) }) a
becomes c s got _ (finishes_try m a t k e y) = goes_after c.program (elided s) a
becomes c s got _ (fattens_lock m r toward h l) = record s { held = with_held (record h { kept = keeps.Fat r }) s.held; counts = record s.counts { inflated = s.counts.inflated + 1 }; phase = grown m r toward }
becomes c s got _ (gives_up_to_wait m r h l) = record s { held = without_held m s.held; phase = phases.WaitLook m r h.depth }
becomes c s got _ (retakes_lock m r depth e) = retakes s m r depth
becomes c s got _ (starts number roots e) = goes_on_if (record s { roots = roots }) (option_map (rooted c.program s.number number) (slice_get c.program.methods number))

-- ---- the thread that moves: an instruction is counted before it does anything

abbrev pub counted_at : Option Top → Thread → Thread
counted_at None s = s
counted_at (Some at) s = begun s

abbrev pub mover : Program → Phase → Thread → Thread
mover p phases.Run s = counted_at (top_of p s.frames) s
mover p phase s = s

-- ---- each event is one of them

-- a thread that a move makes
pub record IsMoved (c : MarkedProgram) (s : Thread) (got : ℕ) (was : Phase) (y : Thread) : Type 0 where
  pub move : Move c s got was
  pub is : y ≡ becomes c s got was move

pub has_held : (m : ℕ) (held : Option Held) (attempt : Option Attempt) (h : Held) → claim_by m held attempt ≡ Has h → held ≡ Some h
has_held m (Some k) attempt h e = cc
has_held m None None h e = absurd (cc)
has_held m None (Some a) h e = either_way (λ (b : Bool). (if b then Tries a else HasNot) ≡ Has h → None ≡ Some h) (a.monitor == m) (λ e. absurd (cc)) (λ e. absurd (cc)) e

pub tried_attempt : (m : ℕ) (held : Option Held) (attempt : Option Attempt) (a : Attempt) → claim_by m held attempt ≡ Tries a → attempt ≡ Some a
tried_attempt m (Some h) attempt a e = absurd (cc)
tried_attempt m None None a e = absurd (cc)
tried_attempt m None (Some b) a e = either_way (λ (t : Bool). (if t then Tries b else HasNot) ≡ Tries a → Some b ≡ Some a) (b.monitor == m) (λ e. cc) (λ e. absurd (cc)) e

pub tried_monitor : (m : ℕ) (held : Option Held) (attempt : Option Attempt) (a : Attempt) → claim_by m held attempt ≡ Tries a → a.monitor ≡ m
tried_monitor m (Some h) attempt a e = absurd (cc)
tried_monitor m None None a e = absurd (cc)
tried_monitor m None (Some b) a e = grind (arith, nat_tests, e)

pub not_held : (m : ℕ) (held : Option Held) (attempt : Option Attempt) → claim_by m held attempt ≡ HasNot → held ≡ None
not_held m (Some h) attempt e = absurd (cc)
not_held m None attempt e = refl

module _ (c : MarkedProgram) (s : Thread) (got : ℕ) where
  abbrev Made : Phase → Thread → Type 0
  Made was y = IsMoved c s got was y

  -- ---- the next instruction

  module _ (at : Top) (found : top_of c.program s.frames ≡ Some at) where
    done_made : (e : Effect) → effect_at c.program at ≡ e → IsByDone e → (o : Option Onward) → done c.program at e got ≡ o → Made phases.Run (goes_on_if s o)
    done_made e is silent None d = record { move = stays (no_way at e found is silent d); is = refl }
    done_made e is silent (Some o) d = record { move = goes o (by_effect at e o found is silent d); is = refl }

    thrown_made : (class : Thrown) → Refuses c.program got at class → Made phases.Run (goes_on s (threw class at))
    thrown_made class k = record { move = goes (threw class at) (by_machine at class found k); is = refl }

    if_held_made : (m : ℕ) (o : Option Held) → held_at s.held m ≡ o → Refuses c.program got at IllegalMonitorStateException → (more : Kept → Thread) → ((h : Held) → held_at s.held m ≡ Some h → Made phases.Run (more h.kept)) → Made phases.Run (if_held s at o more)
    if_held_made m None e k more f = thrown_made IllegalMonitorStateException k
    if_held_made m (Some h) e k more f = f h e

    waits_made : (m : ℕ) → effect_at c.program at ≡ Waits m → (h : Held) → held_at s.held m ≡ Some h → (k : Kept) → h.kept ≡ k → Made phases.Run (waits (record s { frames = went_on c.program at 0 }) m k)
    waits_made m is h e (keeps.Flat count) l = record { move = asks_to_wait at m h (phases.Grow m towards.Wait) found is e (subst (λ (k : Kept). WaitsFrom m k (phases.Grow m towards.Wait)) (sym l) (grows_first count)); is = refl }
    waits_made m is h e (keeps.Fat r) l = record { move = asks_to_wait at m h (phases.WaitBit m r) found is e (subst (λ (k : Kept). WaitsFrom m k (phases.WaitBit m r)) (sym l) (waits_fat r)); is = refl }

    notifies_made : (m : ℕ) (phase : ℕ → Phase) → IsNotify c.program at m → ((r : ℕ) → Asks m (keeps.Fat r) (phase r)) → (h : Held) → held_at s.held m ≡ Some h → (k : Kept) → h.kept ≡ k
        → Made phases.Run (notifies (record s { frames = went_on c.program at 0 }) phase k)
    notifies_made m phase y asked h e (keeps.Flat count) l = record { move = goes (Running (went_on c.program at 0)) (by_nobody at m count h found y e l); is = refl }
    notifies_made m phase y asked h e (keeps.Fat r) l = record { move = asks at m h (phase r) found y e (subst (λ (k : Kept). Asks m k (phase r)) (sym l) (asked r)); is = refl }

    did_made : (e : Effect) → effect_at c.program at ≡ e → Made phases.Run (did c.program s at e got)
    did_made (Indexes array index stored) is = cond_both (nat_lt (low index) (header_length got)) _ _ (Made phases.Run)
        (λ t. record { move = leads (phases.Element (value_word array (low index)) stored) (to_element at array index stored found is t); is = refl }) (λ t. thrown_made ArrayIndexOutOfBoundsException (past_end array index stored is t))
    did_made (Makes word size) is = cond_both (nat_le (got + size) c.program.heap) _ _ (Made phases.Run) (λ t. record { move = makes at word size found is t; is = refl }) (λ t. thrown_made OutOfMemoryError (no_memory word size is))
    did_made (Prints n) is = cond_both (has_print_left s) _ _ (Made phases.Run) (λ t. record { move = prints at n found is t; is = refl }) (λ t. record { move = leads (phases.Ending ends.Prints) (to_no_print at n found is t); is = refl })
    did_made (Waits m) is = if_held_made m (held_at s.held m) refl (waits_unheld m is) (waits (record s { frames = went_on c.program at 0 }) m) (λ h e. waits_made m is h e h.kept refl)
    did_made (Notifies m) is = if_held_made m (held_at s.held m) refl (notifies_unheld m (of_one is)) (notifies (record s { frames = went_on c.program at 0 }) (phases.NotifyLook m)) (λ h e. notifies_made m (phases.NotifyLook m) (of_one is) looks_who h e h.kept refl)
    did_made (NotifiesAll m) is = if_held_made m (held_at s.held m) refl (notifies_unheld m (of_all is)) (notifies (record s { frames = went_on c.program at 0 }) (phases.NotifyAll m)) (λ h e. notifies_made m (phases.NotifyAll m) (of_all is) clears_all h e h.kept refl)
    did_made e is = done_made e is tt (done c.program at e got) refl

  -- behind a check
  checked_made : (was : Phase) (o : Option Attempt) → s.attempt ≡ o → ((t : Attempt) → Checks c.program s t was) → (more : Thread) → Made was more → Made was (if_same s o got more)
  checked_made was None e k more f = f
  checked_made was (Some t) e k more f = cond_both (is_same t got) _ _ (Made was) (λ y. f) (λ y. record { move = fails_in t e y (k t); is = refl })

  instructed_made : (at : Top) → top_of c.program s.frames ≡ Some at → Made phases.Run (instructed c.program s at (effect_at c.program at) got)
  instructed_made at found = cond_both (is_checked at.frame.pc (effect_at c.program at)) _ _ (Made phases.Run)
      (λ t. checked_made phases.Run s.attempt refl (λ a. at_instruction at found t) _ (did_made at found (effect_at c.program at) refl)) (λ t. did_made at found (effect_at c.program at) refl)

  -- ---- an entry

  acquired_made : (m : ℕ) (was : Phase) → Looks s m was → (lock : LockWord) → lock_of got ≡ lock → Made was (acquires s m lock)
  acquired_made m was k (locks.Free count) e = record { move = leads (phases.Take m count) (to_take m count k e); is = refl }
  acquired_made m was k (locks.Held u) e = either_way (λ (b : Bool). Made was (failed_turn s (if b then phases.Acquire m else phases.Flag m u))) (nat_lt (s.turns + 1) FLAG_FROM)
      (record { move = turns (phases.Acquire m) (looks_again m k); is = refl })
      (record { move = turns (phases.Flag m u) (flags m u k e); is = refl })
  acquired_made m was k (locks.Flagged u) e = record { move = turns (phases.Acquire m) (looks_again m k); is = refl }
  acquired_made m was k (locks.Fat r) e = record { move = leads (phases.TakeFat m r) (to_take_fat m r k e); is = refl }

  module _ (m tried : ℕ) where
    -- a section is marked in a frame
    begins_made : (noted : ℕ) (fs : List Frame) → s.frames ≡ fs → may_try c s tried ≡ true → claim s m ≡ HasNot → lock_of got ≡ locks.Free noted → nat_lt noted s.cfg.range ≡ true → Made (phases.Enter m tried) (begins s fs m noted (tried + 1))
    begins_made noted [] e y free l t =
        let marked : enters_marked c s.frames ≡ true = (both_are_true (s.cfg.elide && nat_lt tried MOST_ATTEMPTS) (enters_marked c s.frames) y).1 in
        let bad : enters_marked c [] ≡ true = subst (λ (fs : List Frame). enters_marked c fs ≡ true) e marked in absurd (cc)
    begins_made noted (f ∷ below) e y free l t = record { move = begins_to_try m tried noted f below e y l t free; is = refl }

    acquires_next : claim s m ≡ HasNot → Made (phases.Enter m tried) (with_phase s (phases.Acquire m))
    acquires_next free = record { move = leads (phases.Acquire m) (to_acquire m tried free); is = refl }

    tried_made : may_try c s tried ≡ true → claim s m ≡ HasNot → (lock : LockWord) → lock_of got ≡ lock → Made (phases.Enter m tried) (tries s m tried lock)
    tried_made y free (locks.Free count) e = cond_both (nat_lt count s.cfg.range) _ _ (Made (phases.Enter m tried)) (begins_made count s.frames refl y free e) (λ t. acquires_next free)
    tried_made y free lock e = acquires_next free

    entered_made : (may : Bool) → may_try c s tried ≡ may → (k : Claim) → claim s m ≡ k → Made (phases.Enter m tried) (enter_moves s m tried may k got)
    entered_made may y (Has h) e = record { move = enters_again m tried h (has_held m (held_at s.held m) s.attempt h e); is = refl }
    entered_made may y (Tries t) e = record { move = enters_inside m tried t e; is = refl }
    entered_made true y HasNot e = tried_made y e (lock_of got) refl
    entered_made false y HasNot e = acquired_made m (phases.Enter m tried) (entering tried e) (lock_of got) refl

  -- ---- an exit

  module _ (m : ℕ) (a : After) where
    released_made : (h : Held) → held_at s.held m ≡ Some h → nat_lt 1 h.depth ≡ false → (k : Kept) → h.kept ≡ k → Made (phases.Leave m a) (released c.program s m a k got)
    released_made h e t (keeps.Flat count) l = cond_both (got == word_of_lock (locks.Held s.number)) _ _ (Made (phases.Leave m a))
        (λ y. record { move = gives_up m a (on_leave h e t); is = refl }) (λ y. record { move = leads (phases.Grow m (towards.Leave a)) (to_grow m count a h e t l); is = refl })
    released_made h e t (keeps.Fat r) l = record { move = gives_up m a (on_leave h e t); is = refl }

    finished_made : (t : Attempt) → claim s m ≡ Tries t → (inner : ℕ) → t.inner ≡ inner → Made (phases.Leave m a) (finishes c.program s a t inner got)
    finished_made t k zero i = cond_both (is_same t got) _ _ (Made (phases.Leave m a))
        (λ y. record { move = finishes_try m a t k i y; is = refl }) (λ y. record { move = fails_in t (tried_attempt m (held_at s.held m) s.attempt t k) y (at_end m a k i); is = refl })
    finished_made t k (suc inner) i = record { move = leaves_inside m a t inner k i; is = refl }

    left_made : (k : Claim) → claim s m ≡ k → Made (phases.Leave m a) (leave_moves c.program s m a k got)
    left_made (Has h) e = let there = has_held m (held_at s.held m) s.attempt h e in
        cond_both (nat_lt 1 h.depth) _ _ (Made (phases.Leave m a)) (λ t. record { move = leaves_outer m a h there t; is = refl }) (λ t. released_made h there t h.kept refl)
    left_made (Tries t) e = finished_made t e t.inner refl
    left_made HasNot e = record { move = stays (no_claim m a e); is = refl }

  -- ---- a fat lock, and waiting

  not_grown_made : (m : ℕ) (toward : Toward) → nat_lt got MONITOR_RECORDS ≡ false → Made (phases.Grow m toward) (grows_not s m toward)
  not_grown_made m (towards.Leave a) t = record { move = leads (phases.FlatOut m a) (to_flat_out m a t); is = refl }
  not_grown_made m towards.Wait t = record { move = leads (phases.Ending ends.Records) (to_no_record m t); is = refl }

  fattened_made : (m r : ℕ) (toward : Toward) (o : Option Held) → held_at s.held m ≡ o → Made (phases.FatIn m r toward) (fattens s m r toward o)
  fattened_made m r toward None e = record { move = stays (not_fat m r toward e); is = refl }
  fattened_made m r toward (Some h) e = record { move = fattens_lock m r toward h e; is = refl }

  gone_to_wait_made : (m r : ℕ) (o : Option Held) → held_at s.held m ≡ o → Made (phases.WaitOut m r) (goes_to_wait s m r o)
  gone_to_wait_made m r None e = record { move = stays (not_waiting m r e); is = refl }
  gone_to_wait_made m r (Some h) e = record { move = gives_up_to_wait m r h e; is = refl }

  -- ---- what is at the top

  element_at : (word : ℕ) (stored : Option ℕ) (o : Option Top) → top_of c.program s.frames ≡ o → Made (phases.Element word stored) (goes_on_if s (option_map (λ at. Running (went_on c.program at (element_made stored got))) o))
  element_at word stored None e = record { move = stays (no_place word stored e); is = refl }
  element_at word stored (Some at) e = record { move = goes (Running (went_on c.program at (element_made stored got))) (by_element word stored at e); is = refl }

  thrown_at : (x : ℕ) (class : Thrown) (o : Option Top) → top_of c.program s.frames ≡ o → Made (phases.Throw x class) (goes_on_if s (option_map (λ at. handed c.program x class at (handler_at (class_of class) at)) o))
  thrown_at x class None e = record { move = stays (no_catcher x class e); is = refl }
  thrown_at x class (Some at) e = record { move = goes (handed c.program x class at (handler_at (class_of class) at)) (by_handler x class at e); is = refl }

  started_made : (roots : List ℕ) → s.roots ≡ roots → Made phases.Start (thread_started c.program s roots)
  started_made [] e = record { move = stays (no_root e); is = refl }
  started_made (number ∷ roots) e = record { move = starts number roots e; is = refl }

pub ran_made : (c : MarkedProgram) (s : Thread) (got : ℕ) (o : Option Top) → top_of c.program s.frames ≡ o → IsMoved c (counted_at o s) got phases.Run (ran c.program s o got)
ran_made c s got None e = record { move = stays (no_instruction e); is = refl }
ran_made c s got (Some at) e = instructed_made c (begun s) got at e

pub moved_is : (c : MarkedProgram) (s : Thread) (phase : Phase) (got : ℕ) → IsMoved c (mover c.program phase s) got phase (moved c s phase got)
moved_is c s phases.Idle got = record { move = stays idle; is = refl }
moved_is c s phases.Start got = started_made c s got s.roots refl
moved_is c s phases.Run got = ran_made c s got (top_of c.program s.frames) refl
moved_is c s (phases.Element word stored) got = element_at c s got word stored (top_of c.program s.frames) refl
moved_is c s (phases.Made a word) got = record { move = goes (Running (pushed a s.frames)) (by_object a word); is = refl }
moved_is c s (phases.Throw x class) got = checked_made c s got (phases.Throw x class) s.attempt refl (λ t. at_throw x class) _ (thrown_at c s got x class (top_of c.program s.frames) refl)
moved_is c s (phases.Enter m tried) got = entered_made c s got m tried (may_try c s tried) refl (claim s m) refl
moved_is c s (phases.Acquire m) got = acquired_made c s got m (phases.Acquire m) acquiring (lock_of got) refl
moved_is c s (phases.Take m count) got = cond_both (got == word_of_lock (locks.Free count)) _ _ (IsMoved c s got (phases.Take m count))
    (λ t. record { move = takes_lock m (keeps.Flat count) (a_flat count t); is = refl }) (λ t. record { move = turns (phases.Acquire m) (takes_not m count t); is = refl })
moved_is c s (phases.Flag m u) got = record { move = leads (phases.Acquire m) (from_flag m u); is = refl }
moved_is c s (phases.TakeFat m r) got = cond_both (got == 0) _ _ (IsMoved c s got (phases.TakeFat m r))
    (λ t. record { move = takes_lock m (keeps.Fat r) (a_fat r t); is = refl }) (λ t. record { move = turns (phases.TakeFat m r) (takes_not_fat m r t); is = refl })
moved_is c s (phases.Leave m a) got = left_made c s got m a (claim s m) refl
moved_is c s (phases.Grow m toward) got = cond_both (nat_lt got MONITOR_RECORDS) _ _ (IsMoved c s got (phases.Grow m toward))
    (λ t. record { move = leads (phases.Own m got toward) (to_own m toward t); is = refl }) (not_grown_made c s got m toward)
moved_is c s (phases.FlatOut m a) got = record { move = gives_up m a flat_out; is = refl }
moved_is c s (phases.Own m r toward) got = record { move = leads (phases.FatIn m r toward) (to_fat_in m r toward); is = refl }
moved_is c s (phases.FatIn m r toward) got = fattened_made c s got m r toward (held_at s.held m) refl
moved_is c s (phases.WaitBit m r) got = record { move = leads (phases.WaitOut m r) (to_wait_out m r); is = refl }
moved_is c s (phases.WaitOut m r) got = gone_to_wait_made c s got m r (held_at s.held m) refl
moved_is c s (phases.WaitLook m r depth) got = cond_both (has_flag (bit_of s.number) got) _ _ (IsMoved c s got (phases.WaitLook m r depth))
    (λ t. record { move = turns (phases.WaitLook m r depth) (waits_on m r depth t); is = refl }) (λ t. record { move = leads (phases.Retake m r depth) (to_retake m r depth t); is = refl })
moved_is c s (phases.Retake m r depth) got = cond_both (got == 0) _ _ (IsMoved c s got (phases.Retake m r depth))
    (λ t. record { move = retakes_lock m r depth t; is = refl }) (λ t. record { move = turns (phases.Retake m r depth) (retakes_not m r depth t); is = refl })
moved_is c s (phases.NotifyLook m r) got = cond_both (got == 0) _ _ (IsMoved c s got (phases.NotifyLook m r))
    (λ t. record { move = goes (Running s.frames) (by_none m r t); is = refl }) (λ t. record { move = leads (phases.NotifyOne m r (lowest_of got)) (to_notify_one m r t); is = refl })
moved_is c s (phases.NotifyOne m r u) got = record { move = goes (Running s.frames) (by_one m r u); is = refl }
moved_is c s (phases.NotifyAll m r) got = record { move = goes (Running s.frames) (by_all m r); is = refl }
moved_is c s (phases.Ending e) got = record { move = leads (phases.Ended e) (to_end e); is = refl }
moved_is c s (phases.Ended e) got = record { move = stays (over e); is = refl }

-- ---- laws of every event

-- from what holds of the thread that moves
pub by_move : (P : Thread → Type 0) (c : MarkedProgram) (s : Thread) (phase : Phase) (got : ℕ) → ((k : Move c (mover c.program phase s) got phase) → P (becomes c (mover c.program phase s) got phase k)) → P (moved c s phase got)
by_move P c s phase got f = let k = moved_is c s phase got in subst P (sym k.is) (f k.move)

pub of_mover : (P : Thread → Type 0) (p : Program) (phase : Phase) (s : Thread) → P s → P (begun s) → P (mover p phase s)
of_mover P p phases.Run s h k = elim (top_of p s.frames) as (λ o. P (counted_at o s)) [ None ↦ h | Some at ↦ k ]
of_mover P p phase s h k = h

pub each_move : (P : Thread → Type 0) (c : MarkedProgram) (s : Thread) (phase : Phase) (got : ℕ) → ((k : Move c s got phase) → P (becomes c s got phase k)) → ((k : Move c (begun s) got phase) → P (becomes c (begun s) got phase k)) → P (moved c s phase got)
each_move P c s phase got f g = by_move P c s phase got (of_mover (λ (y : Thread). (k : Move c y got phase) → P (becomes c y got phase k)) c.program phase s f g)

-- the thread, where it has begun so many instructions
abbrev pub counting : (n : ℕ) → Thread → Thread
counting n s = record s { counts = record s.counts { instructions = n } }

-- however many it has begun
pub any_move : (P : Thread → Type 0) (c : MarkedProgram) (s : Thread) (phase : Phase) (got : ℕ) → ((n : ℕ) (k : Move c (counting n s) got phase) → P (becomes c (counting n s) got phase k)) → P (moved c s phase got)
any_move P c s phase got f = each_move P c s phase got (f s.counts.instructions) (f (s.counts.instructions + 1))

-- how many instructions an event begins
abbrev pub begun_by : Phase → Option Top → ℕ
begun_by phases.Run (Some at) = 1
begun_by phase at = 0

pub counted_move : (P : Thread → Type 0) (c : MarkedProgram) (s : Thread) (phase : Phase) (got : ℕ)
    → ((n : ℕ) → s.counts.instructions + begun_by phase (top_of c.program s.frames) ≡ n → (k : Move c (counting n s) got phase) → P (becomes c (counting n s) got phase k)) → P (moved c s phase got)
counted_move P c s phase got f = by_move P c s phase got (by_phase phase f)
  where
    by_phase : (phase : Phase) → ((n : ℕ) → s.counts.instructions + begun_by phase (top_of c.program s.frames) ≡ n → (k : Move c (counting n s) got phase) → P (becomes c (counting n s) got phase k))
        → (k : Move c (mover c.program phase s) got phase) → P (becomes c (mover c.program phase s) got phase k)
    by_phase phases.Run f = (elim (top_of c.program s.frames) as (λ o. ((n : ℕ) → s.counts.instructions + begun_by phases.Run o ≡ n → (k : Move c (counting n s) got phases.Run) → P (becomes c (counting n s) got phases.Run k))
        → (k : Move c (counted_at o s) got phases.Run) → P (becomes c (counted_at o s) got phases.Run k)) [ None ↦ λ f. f s.counts.instructions (omega arith) | Some at ↦ λ f. f (s.counts.instructions + 1) refl ]) f
    by_phase phase f = f s.counts.instructions (omega arith)

-- either way
pub if_either : {A : Type 0} (P : A → Type 0) (b : Bool) (x y : A) → P x → P y → P (if b then x else y)
if_either P b x y h k = cond_both b x y P (λ t. h) (λ t. k)

-- whatever an option is mapped to
pub if_mapped : {A B : Type 0} (P : B → Type 0) (o : Option A) (more : A → B) → ((a : A) → P (more a)) → IfSome (option_map more o) P
if_mapped P None more f = tt
if_mapped P (Some a) more f = f a

-- ---- the phases that led to a move

pub looks_in : (P : Phase → Type 0) {s : Thread} (m : ℕ) (was : Phase) → Looks s m was → ((tried : ℕ) → P (phases.Enter m tried)) → P (phases.Acquire m) → P was
looks_in P m _ (entering tried free) f h = f tried
looks_in P m _ acquiring f h = h

pub takes_in : (P : Phase → Type 0) (got m : ℕ) (was : Phase) (kept : Kept) → Takes got m was kept → ((count : ℕ) → P (phases.Take m count)) → ((r : ℕ) → P (phases.TakeFat m r)) → P was
takes_in P got m _ _ (a_flat count t) f g = f count
takes_in P got m _ _ (a_fat r t) f g = g r

pub gives_up_in : (P : Phase → Type 0) (s : Thread) (m : ℕ) (a : After) (was : Phase) → GivesUp s m a was → P (phases.Leave m a) → P (phases.FlatOut m a) → P was
gives_up_in P s m a _ (on_leave h e t) k l = k
gives_up_in P s m a _ flat_out k l = l

-- ---- the phases that a thread may come to as it goes on

pub runs_to : (P : Phase → Type 0) (s : Thread) → P phases.Run → P (phases.Ending ends.Steps) → P (runs s).phase
runs_to P s h k = cond_both (nat_lt s.counts.instructions s.cfg.steps) phases.Run (phases.Ending ends.Steps) P (λ t. h) (λ t. k)

pub turns_to : (P : Phase → Type 0) (s : Thread) (phase : Phase) → P phase → P (phases.Ending ends.Turns) → P (failed_turn s phase).phase
turns_to P s phase h k = cond_both (nat_lt (s.turns + 1) s.cfg.turns) phase (phases.Ending ends.Turns) P (λ t. h) (λ t. k)

pub over_to : (P : Phase → Type 0) (roots : List ℕ) → (roots ≡ [] → P (phases.Ending ends.Returned)) → ((number : ℕ) (rest : List ℕ) → roots ≡ number ∷ rest → P phases.Start) → P (root_over roots)
over_to P [] h k = h refl
over_to P (number ∷ roots) h k = k number roots refl

-- ---- what a thread's way onward does not touch

-- only frames, phase and turns are others
pub same_onward : {A : Type 0} (f : Thread → A) → ((s : Thread) (frames : List Frame) (phase : Phase) (turns : ℕ) → f (record s { frames = frames; phase = phase; turns = turns }) ≡ f s)
    → (s : Thread) (o : Option Onward) → f (goes_on_if s o) ≡ f s
same_onward f same s None = refl
same_onward f same s (Some (Running frames)) = same s frames (runs s).phase s.turns
same_onward f same s (Some (Throwing x class frames)) = same s frames (phases.Throw x class) s.turns
same_onward f same s (Some (Entering m frames)) = same s frames (phases.Enter m 0) 0
same_onward f same s (Some (Leaving m a frames)) = same s frames (phases.Leave m a) s.turns
same_onward f same s (Some RootReturned) = same s [] (root_over s.roots) s.turns
same_onward f same s (Some (Uncaught class)) = same s [] (phases.Ending (ends.Uncaught class)) s.turns

pub goes_held : (s : Thread) (o : Onward) → (goes_on s o).held ≡ s.held
goes_held s o = same_onward (λ (s : Thread). s.held) (λ s frames phase turns. refl) s (Some o)

pub goes_attempt : (s : Thread) (o : Onward) → (goes_on s o).attempt ≡ s.attempt
goes_attempt s o = same_onward (λ (s : Thread). s.attempt) (λ s frames phase turns. refl) s (Some o)

-- the phases that it comes to
abbrev pub IsOnward : Phase → Type 0
IsOnward phases.Start = Unit {0}
IsOnward phases.Run = Unit {0}
IsOnward (phases.Throw x class) = Unit {0}
IsOnward (phases.Enter m tried) = Unit {0}
IsOnward (phases.Leave m a) = Unit {0}
IsOnward (phases.Ending e) = Unit {0}
IsOnward phase = ⊥

pub onward_to : (P : Phase → Type 0) → ((phase : Phase) → IsOnward phase → P phase) → (s : Thread) (o : Onward) → P (goes_on s o).phase
onward_to P f s (Running frames) = runs_to P s (f phases.Run tt) (f (phases.Ending ends.Steps) tt)
onward_to P f s (Throwing x class frames) = f (phases.Throw x class) tt
onward_to P f s (Entering m frames) = f (phases.Enter m 0) tt
onward_to P f s (Leaving m a frames) = f (phases.Leave m a) tt
onward_to P f s RootReturned = over_to P s.roots (λ e. f (phases.Ending ends.Returned) tt) (λ number rest e. f phases.Start tt)
onward_to P f s (Uncaught class) = f (phases.Ending (ends.Uncaught class)) tt

pub onward_if_to : (P : Phase → Type 0) → ((phase : Phase) → IsOnward phase → P phase) → (s : Thread) (o : Option Onward) → P s.phase → P (goes_on_if s o).phase
onward_if_to P f s None h = h
onward_if_to P f s (Some o) h = onward_to P f s o
