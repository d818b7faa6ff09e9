-- What the plain steps of an event print.
use Rattle.std.proofs.Common.{◌≡◌, ℕ, ℤ, ◌+◌, nat_lt, Bool, true, false, cond, List, [], ◌∷◌, ◌++◌, Option, Some, None, refl, sym, ap, ◌∙◌, subst, ◌==◌, nat_le, option_map, option_and_then, slice_get}
use Rattle.std.specs.List.{AllByRecursion}
use Rattle.lists.proofs.ListLaws.{same_some}
use Rattle.jvm_types.specs.declared.{code.Op.Op, outcome.{Print.Print, Thrown.TheVariants.NullPointerException}, program.{Program.Program, Target.Target}}
use Rattle.checked_program.specs.MarkedProgram.{MarkedProgram, IsMarked}
use Rattle.machine_types.specs.{Agreement.{StatusFits, frames_shown, has_wait_bit}, Effects.{effect, unless_null, read_by}, Frames.{Top, top_of, effect_at}, HeldMonitors.held_at}
use Rattle.machine_types.specs.{History.{acts_of, steps_of, act_if, notified_by, release_acts}, Instructions.has_print_left, Ints.{low, int_of}, LockWords.word_of_lock, Monitors.claim_by, Onward.done}
use Rattle.machine_types.specs.{Owners.references_of, PlainInstructions.{plain_did, indexed_in, plain_instructed, got_by}, PlainLaws.InstructionsChangeMemory}
use Rattle.machine_types.specs.{PlainState.{Plain, PlainThread, Printed, Status, value_at, with_thread, plain_goes_on}, PlainSteps.{plain_run, step_of}, Structure.{TopIs, is_element_op}}
use Rattle.machine_types.specs.{Threads.{Frame, Thread}, Words.{header_length, value_word, variable_word}, declared.effect.Effect.Effect}
use Rattle.machine_types.specs.declared.{effect.Effect.TheVariants.{Writes, Indexes, Makes, Prints, Returns, Leaves, Waits, Notifies, NotifiesAll, Stuck, Throws}, lock.{Held.Held}}
use Rattle.machine_types.specs.declared.{phase.Phase.Phase, plain.Act.Act}
use Rattle.laws_threads.proofs.Landing.{stand_top}
use Rattle.laws_simulation.proofs.{CountedEvents.{AreQuiet, quiet_acts, notes, first_by, first_step, effect_print, top_print, new_print}, OwnThread.own, PlainCounts.is_do, Turns.Turn}
use Rattle.jvm_types.specs.declared.code.Op.TheVariants as ops
use Rattle.machine_types.specs.History as history
use Rattle.machine_types.specs.PlainState as plain
use Rattle.machine_types.specs.declared.lock.LockWord.TheVariants as locks
use Rattle.machine_types.specs.declared.phase.Phase.TheVariants as phases
use Rattle.machine_types.specs.declared.plain.Act.TheVariants as acts

-- ---- one instruction

abbrev pub with_printed : (t : ℕ) → List Printed → Option ℤ → List Printed
with_printed t ps None = ps
with_printed t ps (Some v) = ps ++ record { thread = t; value = v } ∷ []

abbrev pub value_of : Effect → Option ℤ
value_of (Prints n) = Some (int_of n)
value_of e = None

-- q and r have printed the same
kept_put : (q r z : Plain) (t : ℕ) (y : PlainThread) → with_thread z t y ≡ r → z.prints ≡ q.prints → r.prints ≡ q.prints
kept_put q r z t y e k = sym (ap (λ (w : Plain). w.prints) e) ∙ k

kept_mapped : {X : Type 0} (q r z : Plain) (t : ℕ) (f : X → PlainThread) (o : Option X) → option_map (λ v. with_thread z t (f v)) o ≡ Some r → z.prints ≡ q.prints → r.prints ≡ q.prints
kept_mapped q r z t f None e k = absurd (cc)
kept_mapped q r z t f (Some v) e k = kept_put q r z t (f v) (same_some e) k

kept_written : {X : Type 0} (q r z : Plain) (t : ℕ) (y : PlainThread) (o : Option X) → option_map (λ v. with_thread z t y) o ≡ Some r → z.prints ≡ q.prints → r.prints ≡ q.prints
kept_written q r z t y None e k = absurd (cc)
kept_written q r z t y (Some v) e k = kept_put q r z t y (same_some e) k

kept_element : (p : Program) (q r : Plain) (t : ℕ) (x : PlainThread) (at : Top) (word : ℕ) (stored : Option ℕ) (o : Option ℕ) → option_map (indexed_in p q t x at word stored) o ≡ Some r → r.prints ≡ q.prints
kept_element p q r t x at word stored None e = absurd (cc)
kept_element p q r t x at word None (Some v) e = sym (ap (λ (w : Plain). w.prints) (same_some e))
kept_element p q r t x at word (Some new) (Some v) e = sym (ap (λ (w : Plain). w.prints) (same_some e))

kept_indexed : (q r : Plain) (b : Bool) (o : Option Plain) (z : Plain) → cond b o (Some z) ≡ Some r → (o ≡ Some r → r.prints ≡ q.prints) → z.prints ≡ q.prints → r.prints ≡ q.prints
kept_indexed q r true o z e more k = more e
kept_indexed q r false o z e more k = sym (ap (λ (w : Plain). w.prints) (same_some e)) ∙ k

kept_made : (q y z r : Plain) (b : Bool) → cond b y z ≡ r → y.prints ≡ q.prints → z.prints ≡ q.prints → r.prints ≡ q.prints
kept_made q y z r true e k l = sym (ap (λ (w : Plain). w.prints) e) ∙ k
kept_made q y z r false e k l = sym (ap (λ (w : Plain). w.prints) e) ∙ l

did_print : (p : Program) (q r : Plain) (t : ℕ) (x : PlainThread) (at : Top) (e : Effect) (got : ℕ) → plain_did p q t x at e got ≡ Some r → r.prints ≡ with_printed t q.prints (value_of e)
did_print p q r t x at (Writes v word) got s = kept_written q r _ t _ (value_at q (variable_word v)) s refl
did_print p q r t x at (Indexes array index stored) got s = kept_indexed q r (nat_lt (low index) (header_length got)) _ _ s (λ k. kept_element p q r t x at (value_word array (low index)) stored _ k) refl
did_print p q r t x at (Makes word size) got s = kept_made q _ _ r (nat_le (q.next + size) p.heap) (same_some s) refl refl
did_print p q r t x at (Prints n) got s = sym (ap (λ (w : Plain). w.prints) (same_some s))
did_print p q r t x at Returns got s = kept_put q r q t _ (same_some s) refl
did_print p q r t x at (Leaves m) got s = kept_put q r q t _ (same_some s) refl
did_print p q r t x at (Waits m) got s = kept_put q r q t _ (same_some s) refl
did_print p q r t x at (Notifies m) got s = kept_put q r q t _ (same_some s) refl
did_print p q r t x at (NotifiesAll m) got s = kept_put q r q t _ (same_some s) refl
did_print p q r t x at e got s = kept_mapped q r q t (plain_goes_on x) (done p at e got) s refl

got_print : (p : Program) (q r : Plain) (t : ℕ) (x : PlainThread) (at : Top) (e : Effect) (o : Option ℕ) → option_and_then (λ got. plain_did p q t x at e got) o ≡ Some r → r.prints ≡ with_printed t q.prints (value_of e)
got_print p q r t x at e None s = absurd (cc)
got_print p q r t x at e (Some got) s = did_print p q r t x at e got s

pub instruction_prints : (p : Program) (q r : Plain) (t : ℕ) (x : PlainThread) (at : Top) → plain_instructed p q t x (Some at) ≡ Some r → r.prints ≡ with_printed t q.prints (value_of (effect_at p at))
instruction_prints p q r t x at s = got_print p q r t x at (effect_at p at) (got_by (value_at q) (read_by (effect_at p at))) s

-- ---- acts that are no instructions

abbrev AreOthers : List Act → Type 0
AreOthers acts = AllByRecursion (λ act. is_do act ≡ false) acts

other_prints : (memory : InstructionsChangeMemory) (p : Program) (q r : Plain) (t : ℕ) (act : Act) (o : Option PlainThread) → slice_get q.threads t ≡ o → step_of p q t act o ≡ Some r → is_do act ≡ false → r.prints ≡ q.prints
other_prints memory p q r t act None e s d = absurd (cc)
other_prints memory p q r t act (Some x) e s d =
    let no_do : (act : Act) → is_do act ≡ false → act ≡ acts.Do → ⊥ = λ act d k. let is : is_do act ≡ true = ap is_do k in cc in
    (memory p q r t x act (record { thread = e; to = ap (step_of p q t act) e ∙ s }) (λ k. no_do act d k.0)).prints

others_print : (memory : InstructionsChangeMemory) (p : Program) (t : ℕ) (more : List Act) (q r : Plain) → plain_run p q (steps_of t more) ≡ Some r → AreOthers more → r.prints ≡ q.prints
others_print memory p t [] q r run k = sym (ap (λ (w : Plain). w.prints) (same_some run))
others_print memory p t (act ∷ more) q r run k =
    let f = first_step p q r (record { thread = t; act = act }) (steps_of t more) run in
    others_print memory p t more f.to r f.rest k.1 ∙ other_prints memory p q f.to t act (slice_get q.threads t) refl f.first k.0

other_if : (b : Bool) (act : Act) → is_do act ≡ false → AreOthers (act_if b act)
other_if true act d = (d, tt)
other_if false act d = tt

others_of : (acts : List Act) → AreQuiet acts → AreOthers acts
others_of [] k = tt
others_of (act ∷ acts) k = (k.0.0, others_of acts k.1)

-- ---- no element is printed

abbrev PrintsNot : Effect → Type 0
PrintsNot e = value_of e ≡ None

null_prints_not : (a : ℕ) (e : Effect) → PrintsNot e → PrintsNot (unless_null a e)
null_prints_not a e k = elim (a == 0) as (λ (b : Bool). PrintsNot (cond b (Throws NullPointerException) e)) [ true ↦ refl | false ↦ k ]

element_prints_not : (p : Program) (next : ℕ) (target : Target) (op : Op) (stored : Option ℕ) (l s : List ℕ) → is_element_op stored op ≡ true → PrintsNot (effect p next target op l s)
element_prints_not p next target ops.Iaload stored l (i ∷ a ∷ s) k = null_prints_not a (Indexes a i None) refl
element_prints_not p next target ops.Iastore stored l (v ∷ i ∷ a ∷ s) k = null_prints_not a (Indexes a i (Some v)) refl
element_prints_not p next target op None l s k = cc
element_prints_not p next target op (Some v) l s k = cc

abbrev pub ElementShows : Program → Phase → List Frame → Type 0
ElementShows p (phases.Element word stored) frames = (at : Top) → top_of p frames ≡ Some at → value_of (effect_at p at) ≡ None
ElementShows p phase frames = Unit {0}

pub element_shows : (c : MarkedProgram) (word : ℕ) (stored : Option ℕ) (frames : List Frame) → IsMarked c → TopIs c (is_element_op stored) frames → ElementShows c.program (phases.Element word stored) frames
element_shows c word stored [] marked top at e = absurd top
element_shows c word stored (f ∷ fs) marked top at e =
    subst (λ (z : Top). value_of (effect_at c.program z) ≡ None) (same_some (sym (stand_top c marked f fs top.0) ∙ e)) (element_prints_not c.program top.0.insn.next top.0.target top.0.insn.op stored f.locals f.stack top.1)

-- ---- all phases

-- s is the thread, and x its plain one
module _ (memory : InstructionsChangeMemory) (turn : Turn) (after : Plain) (got : ℕ) where
  open turn use {c, q, t, x as s}
  open own turn use {plain as x, here as there}

  abbrev at_phase : Phase → Thread
  at_phase phase = record s { attempt = None; phase = phase }

  others : (more : List Act) → plain_run c.program q (steps_of t more) ≡ Some after → AreOthers more → after.prints ≡ q.prints
  others more run k = others_print memory c.program t more q after run k

  instruction : (at : Top) (more : List Act) → x.status ≡ plain.Run → top_of c.program x.frames ≡ Some at → plain_run c.program q (steps_of t (acts.Do ∷ more)) ≡ Some after → AreOthers more
      → after.prints ≡ with_printed t q.prints (value_of (effect_at c.program at))
  instruction at more status top run k =
      let step = first_by c.program q after t x acts.Do plain.Run more there status run in
      others_print memory c.program t more step.0 after step.2 k ∙ instruction_prints c.program q step.0 t x at (ap (plain_instructed c.program q t x) (sym top) ∙ step.1)

  by_effect : (at : Top) (e : Effect) → effect_at c.program at ≡ e → x.status ≡ plain.Run → top_of c.program x.frames ≡ Some at → plain_run c.program q (steps_of t (history.instruction_acts (at_phase phases.Run) e got)) ≡ Some after
      → after.prints ≡ with_printed t q.prints (option_map (λ (p : Print). p.value) (effect_print (at_phase phases.Run) e got))
  by_effect at (Indexes array index stored) is status top run = (elim (nat_lt (low index) (header_length got)) as (λ (b : Bool). plain_run c.program q (steps_of t (cond b [] (acts.Do ∷ []))) ≡ Some after → after.prints ≡ q.prints)
      [ true ↦ λ r. others [] r tt | false ↦ λ r. instruction at [] status top r tt ∙ ap (λ (e : Effect). with_printed t q.prints (value_of e)) is ]) run
  by_effect at (Prints n) is status top run = by_test (has_print_left s) run
    where
      by_test : (b : Bool) → plain_run c.program q (steps_of t (act_if b acts.Do)) ≡ Some after → after.prints ≡ with_printed t q.prints (option_map (λ (p : Print). p.value) (cond b (Some (record { ticket = got; value = int_of n })) None))
      by_test true r = instruction at [] status top r tt ∙ ap (λ (e : Effect). with_printed t q.prints (value_of e)) is
      by_test false r = others [] r tt
  by_effect at (Notifies m) is status top run =
      let k = notes turn after got (held_at s.held m) (acts.Notify None) refl refl in
      instruction at k.more status top (subst (λ (all : List Act). plain_run c.program q (steps_of t all) ≡ Some after) k.is run) (others_of k.more k.quiet) ∙ ap (λ (e : Effect). with_printed t q.prints (value_of e)) is
  by_effect at (NotifiesAll m) is status top run =
      let k = notes turn after got (held_at s.held m) acts.NotifyAll refl refl in
      instruction at k.more status top (subst (λ (all : List Act). plain_run c.program q (steps_of t all) ≡ Some after) k.is run) (others_of k.more k.quiet) ∙ ap (λ (e : Effect). with_printed t q.prints (value_of e)) is
  by_effect at Stuck is status top run = others [] run tt
  by_effect at e is status top run = instruction at [] status top run tt ∙ ap (λ (e : Effect). with_printed t q.prints (value_of e)) is

  by_top : (o : Option Top) → top_of c.program x.frames ≡ o → x.status ≡ plain.Run → plain_run c.program q (steps_of t (history.run_acts c (at_phase phases.Run) o got)) ≡ Some after
      → after.prints ≡ with_printed t q.prints (option_map (λ (p : Print). p.value) (top_print c.program (at_phase phases.Run) o got))
  by_top None top status run = others [] run tt
  by_top (Some at) top status run = by_effect at (effect_at c.program at) refl status top run

  element : (o : Option Top) → top_of c.program x.frames ≡ o → ((at : Top) → o ≡ Some at → value_of (effect_at c.program at) ≡ None) → x.status ≡ plain.Run → plain_run c.program q (steps_of t (acts.Do ∷ [])) ≡ Some after → after.prints ≡ q.prints
  element None top shows status run =
      let step = first_by c.program q after t x acts.Do plain.Run [] there status run in
      let none : plain_instructed c.program q t x None ≡ Some step.0 = ap (plain_instructed c.program q t x) (sym top) ∙ step.1 in
      absurd (cc)
  element (Some at) top shows status run = instruction at [] status top run tt ∙ ap (with_printed t q.prints) (shows at refl)

  thrown : (r : ℕ) (class : _) → x.status ≡ plain.Throw r class → plain_run c.program q (steps_of t (acts.Do ∷ [])) ≡ Some after → after.prints ≡ q.prints
  thrown r class status run =
      let runs_not : plain.Throw r class ≡ plain.Run → ⊥ = λ e. cc in
      let f = first_step c.program q after (record { thread = t; act = acts.Do }) [] run in
      others_print memory c.program t [] f.to after f.rest tt
      ∙ (memory c.program q f.to t x acts.Do (record { thread = there; to = f.first }) (λ k. runs_not (sym status ∙ k.1))).prints

  pub printed_at : (phase : Phase) → StatusFits (has_wait_bit (references_of q.objects) turn.s.words t) (at_phase phase) phase x.status → x.frames ≡ frames_shown phase s.frames → ElementShows c.program phase s.frames
      → plain_run c.program q (steps_of t (acts_of c (at_phase phase) phase got)) ≡ Some after
      → after.prints ≡ with_printed t q.prints (option_map (λ (p : Print). p.value) (new_print c.program (at_phase phase) phase got))
  printed_at phases.Run status frames shows run = by_top (top_of c.program s.frames) (ap (top_of c.program) frames) status run
  printed_at (phases.Element word stored) status frames shows run = element (top_of c.program s.frames) (ap (top_of c.program) frames) shows status run
  printed_at (phases.Throw r class) status frames shows run = thrown r class status run
  printed_at (phases.Enter m number) status frames shows run = (elim (held_at s.held m) as (λ (o : Option Held). plain_run c.program q (steps_of t (history.enter_acts (claim_by m o None))) ≡ Some after → after.prints ≡ q.prints)
      [ None ↦ λ r. others [] r tt | Some h ↦ λ r. others (acts.Enter ∷ []) r (refl, tt) ]) run
  printed_at (phases.Take m count) status frames shows run = others _ run (other_if (got == word_of_lock (locks.Free count)) acts.Enter refl)
  printed_at (phases.TakeFat m r) status frames shows run = others _ run (other_if (got == 0) acts.Enter refl)
  printed_at (phases.Ending e) status frames shows run = others [] run tt
  printed_at (phases.Ended e) status frames shows run = others [] run tt
  printed_at phase status frames shows run = others (acts_of c (at_phase phase) phase got) run (others_of (acts_of c (at_phase phase) phase got) (quiet_acts turn after got phase tt (at_phase phase)))
