-- A thread inside an attempt: its top frame, what that may do, and what stays as frames come and go.
use Rattle.std.proofs.Common.{◌≡◌, ◌⊎◌, inr, ⊎_elim, ℕ, ◌<◌, ◌≤◌, true, List, [], ◌∷◌, length, Option, Some, None, refl, sym, ◌∙◌, subst, arith}
use Rattle.lists.proofs.TestLaws.{first_true}
use Rattle.jvm_types.specs.{Members.is_synchronized, ProgramInvariant.site_in, Verifying.is_return, declared.code.Op.Op}
use Rattle.checked_program.specs.{LockTags.TagShape, MarkedProgram.{MarkedProgram, IsMarked}, SectionLaws.{HasThis, ReadsOnly}}
use Rattle.laws_sections.proofs.MarkedReads.{on_receiver}
use Rattle.machine_types.specs.{Elision.put_back, Frames.{Top, effect_at, monitor_of, top_row}, Shown.{Shows, Show}, Standing.{Standing, Operands, Whole, tags_of}}
use Rattle.machine_types.specs.{Structure.{IsPhaseInside, Stands, AttemptStands, AttemptStandsIn, Finishes, RunsSection, frames_inside, section_of}, Threads.{Frame, Attempt}}
use Rattle.machine_types.specs.declared.{effect.Effect.{Effect, TheVariants.{Indexes, Calls, Returns, Leaves}}, lock.Held.Held, phase.Phase.Phase}
use Rattle.laws_threads.{specs.InsideEffects.{MayDo, InsideMayDo, TakesOwned}, proofs.{Base.{entry_of, of_monitor}, CallOps.called_on, EffectOps.{Does, does}, FrameReturns.leaves_none, FramesInside.one_more}}
use Rattle.laws_threads.proofs.{SectionFrames.{have_this, part_of, Runs, runs_of, row_stands, on_object, on_class, reads, exits, locking_on}, Standings.{top_here, top_at_standing, one_tags}}
use Rattle.jvm_types.specs.declared.code.Op.TheVariants as ops
use Rattle.machine_types.specs.declared.phase.Phase.TheVariants as phases

-- ---- the top frame of an attempt

pub base_below : (a : Attempt) (f : Frame) (below : List Frame) → a.base < length (f ∷ below) → a.base ≤ length below
base_below a f below l = omega (arith, l)

pub runs_inside : (c : MarkedProgram) (phase : Phase) (f : Frame) (below : List Frame) (held : List Held) (a : Attempt) (k : AttemptStands c phase (f ∷ below) held a) → (Finishes a phase (frames_inside a (f ∷ below)) → ⊥) → Runs c a f (frames_inside a below)
runs_inside c phase f below held a k never = runs_of c a f (frames_inside a below) (subst (RunsSection c a) (one_more a f below (base_below a f below k.based)) (⊎_elim (λ x. absurd (never x)) (λ x. x) k.frames))

-- a thread inside an attempt: its top frame and those below, what it holds, and how the attempt and the thread stand in its phase
pub record InAttempt (c : MarkedProgram) (phase : Phase) : Type 0 where
  pub frame : Frame
  pub below : List Frame
  pub held : List Held
  pub attempt : Attempt
  pub tries : AttemptStands c phase (frame ∷ below) held attempt
  pub agrees : Stands c phase (frame ∷ below) held (Some attempt)

-- in another phase, with other frames inside, and so many entries
pub stands_on : (c : MarkedProgram) (phase other : Phase) (fs gs : List Frame) (held : List Held) (a : Attempt) (n : ℕ) → AttemptStands c phase fs held a → IsPhaseInside a.monitor other → a.base < length gs → put_back a gs ≡ put_back a fs → Finishes (record a { inner = n }) other (frames_inside a gs) ⊎ RunsSection c a (frames_inside a gs)
    → AttemptStands c other gs held (record a { inner = n })
stands_on c phase other fs gs held a n k inside based same frames = record {
  inside = inside;
  not_held = k.not_held;
  based = based;
  goes_back = subst (λ hs. Stands c (phases.Enter a.monitor a.number) hs held None) (sym same) k.goes_back;
  monitor = k.monitor;
  uses = k.uses;
  are_uses = k.are_uses;
  marked = k.marked;
  frames = frames;
}

-- with the same frames
pub stays : (c : MarkedProgram) (phase other : Phase) (f : Frame) (below : List Frame) (held : List Held) (a : Attempt) → AttemptStands c phase (f ∷ below) held a → IsPhaseInside a.monitor other → (Finishes a phase (frames_inside a (f ∷ below)) → ⊥) → AttemptStands c other (f ∷ below) held a
stays c phase other f below held a k inside never = stands_on c phase other (f ∷ below) (f ∷ below) held a a.inner k inside k.based refl (inr (⊎_elim (λ x. absurd (never x)) (λ x. x) k.frames))

-- ---- what the top frame may do

module _ (c : MarkedProgram) (marked : IsMarked c) where
  -- the tags of `this` on its stack
  pub stack_this : (f : Frame) (k : Standing c f) (own : List ℕ) → Shows c Whole f own → HasThis f.receiver k.tags.stack f.stack
  stack_this f k own s = subst (λ (x : TagShape). HasThis f.receiver x.stack f.stack) (one_tags c marked f s.stands k) (have_this s.choice f.receiver s.stands.tags.stack f.stack s.stack)

  pub top_shows : (o : Operands) (f : Frame) (below : List Frame) (shown : List ℕ) → Show c o (f ∷ below) shown → (own : List ℕ) × Shows c o f own
  top_shows o f below shown s = (s.0, s.3)

  -- where it holds no tag, the frame of a synchronized method has the section's monitor
  pub locking : (phase : Phase) (f : Frame) (below : List Frame) (held : List Held) (a : Attempt) → AttemptStands c phase (f ∷ below) held a → (rest : List Frame) (r : Runs c a f rest) → r.stands.tags.held ≡ []
      → is_synchronized r.stands.method.flags ≡ true → monitor_of c.program r.stands.method f ≡ a.monitor
  locking phase f below held a k [] r none synchronized = of_monitor c marked a f r (entry_of c marked a phase (f ∷ below) held k) none
  locking phase f below held a k (b ∷ rest) r none synchronized = locking_on c marked a k.uses k.are_uses k.marked k.monitor f b rest r synchronized

  module _ (phase : Phase) (f : Frame) (below : List Frame) (held : List Held) (a : Attempt) (k : AttemptStands c phase (f ∷ below) held a) (r : Runs c a f (frames_inside a below)) (this : HasThis f.receiver r.stands.tags.stack f.stack) where
    abbrev top : Top
    top = top_here c f below r.stands

    pub top_does : Does c a.monitor r.stands.insn.op r.stands.target f.stack (effect_at c.program top)
    top_does =
        let s = r.stands in
        does c a.monitor r.mode a.entry.receiver f.method s.number (on_object c marked a k.monitor f (frames_inside a below) r) (on_class c marked a k.monitor f (frames_inside a below) r) s.method s.insn.pc s.insn.next (top_row c.program top) s.target s.insn.op f.locals f.stack (row_stands c marked f.method s.number s.method s.insn s.target s.tags s.at)
        (reads c marked a k.uses k.are_uses k.marked f (frames_inside a below) r f.stack this)

    pub calls_on : (number : ℕ) → Does c a.monitor r.stands.insn.op r.stands.target f.stack (Calls number) → MayDo c a.monitor top (Calls number)
    calls_on number d called there synchronized =
        let s = r.stands in
        called_on c.program number called there f.stack (tags_of c) r.mode a.entry.receiver a.monitor f.method s.number (on_object c marked a k.monitor f (frames_inside a below) r) (on_class c marked a k.monitor f (frames_inside a below) r) (site_in s.method) s.insn.pc s.insn.op s.target (top_row c.program top) (row_stands c marked f.method s.number s.method s.insn s.target s.tags s.at) d.0 d.1
        (reads c marked a k.uses k.are_uses k.marked f (frames_inside a below) r f.stack this) synchronized

    pub leaves_on : (n : ℕ) → Does c a.monitor r.stands.insn.op r.stands.target f.stack (Leaves n) → n ≡ a.monitor
    leaves_on n d = sym d.1 ∙ exits c marked a k.uses k.are_uses k.marked k.monitor f (frames_inside a below) r f.stack this d.0

    -- an `iaload` takes an array that the monitor's object owns
    pub takes_owned : r.stands.insn.op ≡ ops.Iaload → TakesOwned c a.monitor top
    takes_owned e =
        let own = subst (λ (op : Op). ReadsOnly c.program (tags_of c) r.mode a.entry.receiver f.method r.stands.number op r.stands.target f.stack) e (reads c marked a k.uses k.are_uses k.marked f (frames_inside a below) r f.stack this) in
        record {
          stands = r.stands;
          owned = own.1;
          receiver = on_receiver c.program (tags_of c) (section_of a) a.entry.receiver (part_of f r.stands.number) r.parts r.mode r.are own.0 ∙ on_object c marked a k.monitor f (frames_inside a below) r own.0;
        }

    may : (e : Effect) → Does c a.monitor r.stands.insn.op r.stands.target f.stack e → MayDo c a.monitor top e
    may (Indexes array index None) d = takes_owned d
    may (Calls number) d = calls_on number d
    may Returns d = locking phase f below held a k (frames_inside a below) r (leaves_none c marked f r.stands (first_true (is_return r.stands.insn.op) _ d))
    may (Leaves n) d = leaves_on n d
    may e d = d

    pub top_may : MayDo c a.monitor top (effect_at c.program top)
    top_may = may (effect_at c.program top) top_does

pub not_finished : (a : Attempt) (fs : List Frame) → Finishes a phases.Run fs → ⊥
not_finished a fs x = let bad = x.leaves in cc

-- from an instruction to a phase of any section
pub stays_in : (c : MarkedProgram) (other : Phase) (fs : List Frame) (held : List Held) (o : Option Attempt) → ((m : ℕ) → IsPhaseInside m other) → AttemptStandsIn c phases.Run fs held o → AttemptStandsIn c other fs held o
stays_in c other fs held None inside k = tt
stays_in c other [] held (Some a) inside k = let based : a.base < 0 = k.based in absurd (omega (arith, based))
stays_in c other (f ∷ below) held (Some a) inside k = stays c phases.Run other f below held a k (inside a.monitor) (not_finished a (frames_inside a (f ∷ below)))

pub inside_may : InsideMayDo
inside_may c [] held a at marked k s e = absurd (cc)
inside_may c (f ∷ below) held a at marked k s e =
    let r = runs_inside c phases.Run f below held a k (not_finished a (frames_inside a (f ∷ below))) in
    let shows = top_shows c marked Whole f below s.shown s.show in
    let this = stack_this c marked f r.stands shows.0 shows.1 in
    subst (λ t. MayDo c a.monitor t (effect_at c.program t)) (top_at_standing c marked f below r.stands at e) (top_may c marked phases.Run f below held a k r this)
