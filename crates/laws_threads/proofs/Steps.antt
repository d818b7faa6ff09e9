-- An attempt stands behind each instruction that may stand inside it.
use Rattle.std.proofs.{Common.{◌≡◌, inl, inr, ⊎_elim, ℕ, ◌≤◌, true, List, [], ◌∷◌, length, Option, Some, None, refl, sym, ap, ◌∙◌, subst, arith, slice_get, option_map}, lemmas.Bool.cond_both}
use Rattle.lists.proofs.{ListLaws.same_some, TestLaws.first_true}
use Rattle.jvm_types.specs.{CodeTable.falls_through, Members.is_synchronized, Numbers.has_number, ProgramInvariant.site_in, Verifying.{edges, is_return}, declared.code.{Insn.Insn, Op.Op}}
use Rattle.jvm_types.specs.declared.{outcome.Thrown.{Thrown, TheVariants.StackOverflowError}, program.{MethodInfo.MethodInfo, Target.Target}}
use Rattle.checked_program.specs.{MarkedProgram.{MarkedProgram, IsMarked}, SectionLaws.{HasThis, ReadsOnly}, TaggedCode.{onward, row_of}, Tagging.tags_after, declared.section.Mode.Mode}
use Rattle.machine_types.specs.Frames.{Top, effect_at, top_row, frame_on, went, went_on, waiting, taken_from, frames_of, has_room, entry_frame, arguments_of, monitor_of, given_back, returned}
use Rattle.machine_types.specs.{Onward.{Onward, Running, Throwing, Entering, Leaving, threw, entered, called, back, returns, done}, ReadyObjects.{ready, thrown_of}, Threads.{Frame, Attempt}}
use Rattle.machine_types.specs.{Standing.{Standing, Whole, tags_of}, Structure.{IsPhaseInside, AttemptStands, Finishes, RunsSection, frames_inside, is_element_op}, Words.{header_class, header_length}}
use Rattle.machine_types.specs.declared.{effect.Effect.{Effect, TheVariants.{Goes, Throws, Reads, Measures, Raises, Calls, Returns, Enters, Leaves}}, phase.Phase.Phase}
use Rattle.laws_threads.specs.InsideMoves.{GoesOnInside, OnwardStands, GoesAlong, StepsInside, ReadsElement, ElementsInside}
use Rattle.laws_threads.proofs.{AttemptMoves.{not_alone, next_edge, put_back_top, along, returned_on}, Base.{own_part, entry_of, as_many_at_exit, none_inside}, CallOps.is_receiver}
use Rattle.laws_threads.proofs.{EffectOps.{Does, GoesElsewhere, goes_behind, OnlyLeaves, exit_leaves}, FrameReturns.leaves_none, FramesInside.{one_more, put_back_over, alone_inside}}
use Rattle.laws_threads.proofs.{Inside.{InAttempt, base_below, runs_inside, stands_on, stays, stack_this, top_shows, top_does, takes_owned, locking, calls_on, leaves_on, not_finished}, Leaves.lands}
use Rattle.laws_threads.proofs.{SectionFrames.{Runs, IsExitOf, moved, invoked, reads, row_stands}, Standings.{top_here, top_at_standing, stands_too, one_insn}, ThreadMove.if_either}
use Rattle.jvm_types.specs.declared.code.Op.TheVariants as ops
use Rattle.machine_types.specs.declared.phase.After.TheVariants as afters
use Rattle.machine_types.specs.declared.phase.Phase.TheVariants as phases

module _ (c : MarkedProgram) (marked : IsMarked c) (thread : InAttempt c phases.Run) where
  open thread use {frame as f, below, held, attempt as a, tries as k, agrees as s}

  abbrev r : Runs c a f (frames_inside a below)
  r = runs_inside c phases.Run f below held a k (not_finished a (frames_inside a (f ∷ below)))

  abbrev top : Top
  top = top_here c f below r.stands

  low : a.base ≤ length below
  low = base_below a f below k.based

  this : HasThis f.receiver r.stands.tags.stack f.stack
  this = let shows = top_shows c marked Whole f below s.shown s.show in stack_this c marked f r.stands shows.0 shows.1

  -- the effect, of an instruction that a section may have
  abbrev Is : Effect → Type 0
  Is e = effect_at c.program top ≡ e

  abbrev DoesIt : Effect → Type 0
  DoesIt e = Does c a.monitor r.stands.insn.op r.stands.target f.stack e

  no_exit : (e : Effect) → Is e → r.stands.insn.op ≡ ops.Monitorexit → OnlyLeaves e
  no_exit e is x = subst OnlyLeaves is (exit_leaves c.program r.stands.insn.next r.stands.target r.stands.insn.op f.locals f.stack x)

  falls : (e : Effect) → Is e → (GoesElsewhere e → ⊥) → falls_through r.stands.insn.op ≡ true
  falls e is never = goes_behind c.program r.stands.insn.next r.stands.target r.stands.insn.op f.locals f.stack (λ h. never (subst GoesElsewhere is h))

  -- ---- along an edge

  goes : (to made : ℕ) → has_number (edges r.stands.insn) to ≡ true → (r.stands.insn.op ≡ ops.Monitorexit → ⊥) → OnwardStands c (Running (went c.program top to made)) → AttemptStands c phases.Run (went c.program top to made) held a
  goes to made edge never l =
      along c marked phases.Run f held a below phases.Run k r (frame_on (top_row c.program top) to made f) l (tags_after r.stands.insn (row_of c.program r.stands.method r.stands.insn r.stands.target) r.stands.tags) refl refl
      (onward l.insn (subst (λ pc. has_number (edges r.stands.insn) pc ≡ true) (sym l.pc_is) edge)) tt never

  goes_on : (e : Effect) (made : ℕ) → Is e → (GoesElsewhere e → ⊥) → (OnlyLeaves e → ⊥) → OnwardStands c (Running (went_on c.program top made)) → AttemptStands c phases.Run (went_on c.program top made) held a
  goes_on e made is behind never l = goes r.stands.insn.next made (next_edge r.stands.insn (falls e is behind)) (λ x. never (no_exit e is x)) l

  -- ---- monitors

  enters : (n : ℕ) → Is (Enters n) → n ≡ a.monitor → OnwardStands c (Entering n (went_on c.program top 0)) → AttemptStands c (phases.Enter n 0) (went_on c.program top 0) held a
  enters n is on l =
      along c marked phases.Run f held a below (phases.Enter n 0) k r (frame_on (top_row c.program top) r.stands.insn.next 0 f) l (tags_after r.stands.insn (row_of c.program r.stands.method r.stands.insn r.stands.target) r.stands.tags) refl refl
      (onward l.insn (subst (λ pc. has_number (edges r.stands.insn) pc ≡ true) (sym l.pc_is) (next_edge r.stands.insn (falls (Enters n) is (λ x. x))))) on (λ x. no_exit (Enters n) is x)

  -- at the exit of the block no other entry is left
  finishes : (n : ℕ) → n ≡ a.monitor → (rest : List Frame) (q : Runs c a f rest) → rest ≡ [] → a.base ≡ length below → IsExitOf c marked a f q.stands → Finishes a (phases.Leave n afters.Next) (frame_on (top_row c.program top) r.stands.insn.next 0 f ∷ [])
  finishes n on (b ∷ rest) q z base x = absurd (cc)
  finishes n on [] q z base x =
      let part = own_part c a f q in
      let entry = entry_of c marked a phases.Run (f ∷ below) held k in
      record {
        leaves = ap (λ i. phases.Leave i afters.Next) on;
        outermost = none_inside c marked a f q entry Whole phases.Run below held s.shown k base s.show (λ p. let d = s.depths p in omega (arith, d)) (as_many_at_exit c marked a f q entry x);
        frame = frame_on (top_row c.program top) r.stands.insn.next 0 f;
        alone = refl;
        method = part.method;
        receiver = part.receiver;
      }

  leaves : (n : ℕ) → Is (Leaves n) → DoesIt (Leaves n) → OnwardStands c (Leaving n afters.Next (went_on c.program top 0)) → AttemptStands c (phases.Leave n afters.Next) (went_on c.program top 0) held a
  leaves n is d l =
      let g = frame_on (top_row c.program top) r.stands.insn.next 0 f in
      let on : n ≡ a.monitor = leaves_on c marked phases.Run f below held a k r this n d in
      let edge : has_number (edges r.stands.insn) l.insn.pc ≡ true = subst (λ pc. has_number (edges r.stands.insn) pc ≡ true) (sym l.pc_is) (next_edge r.stands.insn (falls (Leaves n) is (λ x. x))) in
      let inside : frames_inside a (g ∷ below) ≡ g ∷ frames_inside a below = one_more a g below low in
      stands_on c phases.Run (phases.Leave n afters.Next) (f ∷ below) (g ∷ below) held a a.inner k on k.based (put_back_top a f g below low)
      (⊎_elim
      (λ (runs : RunsSection c a (g ∷ frames_inside a below)). inr (subst (RunsSection c a) (sym inside) runs))
      (λ (x : (frames_inside a below ≡ []) × IsExitOf c marked a f r.stands).
      inl (subst (Finishes a (phases.Leave n afters.Next)) (sym (inside ∙ ap (λ fs. g ∷ fs) x.0)) (finishes n on (frames_inside a below) r x.0 (alone_inside a below low x.0) x.1)))
      (moved c marked a f g (frames_inside a below) r l (tags_after r.stands.insn (row_of c.program r.stands.method r.stands.insn r.stands.target) r.stands.tags) refl refl (onward l.insn edge)))

  -- ---- exceptions

  throws : (x : ℕ) (class : Thrown) → AttemptStands c (phases.Throw x class) (f ∷ below) held a
  throws x class = stays c phases.Run (phases.Throw x class) f below held a k tt (not_finished a (frames_inside a (f ∷ below)))

  raises : (o : Option Thrown) (x : ℕ) (result : Onward) → option_map (λ class. Throwing x class (f ∷ below)) o ≡ Some result → GoesOnInside c result held a
  raises None x result e = absurd (cc)
  raises (Some class) x result e = subst (λ y. GoesOnInside c y held a) (same_some e) (throws x class)

  -- ---- calls

  module _ (number : ℕ) (callee : MethodInfo) (there : slice_get c.program.methods number ≡ Some callee) (d : DoesIt (Calls number)) where
    abbrev g : Frame
    g = entry_frame number callee (arguments_of c.program top)

    abbrev caller : Frame
    caller = taken_from c.program top

    calls : (other : Phase) → Standing c g → IsPhaseInside a.monitor other → AttemptStands c other (g ∷ caller ∷ below) held a
    calls other l inside =
        let m = r.stands.method in
        let insn = r.stands.insn in
        let receives = is_receiver c.program number callee there f.stack (site_in m) insn.pc r.stands.target insn.op (top_row c.program top) (row_stands c marked f.method r.stands.number m insn r.stands.target r.stands.tags r.stands.at) d.0 d.1 in
        let runs = invoked c marked a f caller g (frames_inside a below) r (stands_too c f caller.stack f.locals r.stands) l f.stack refl refl refl this d.0 receives in
        let over : a.base ≤ length (caller ∷ below) = omega (arith, low) in
        let frames : frames_inside a (g ∷ caller ∷ below) ≡ g ∷ caller ∷ frames_inside a below = one_more a g (caller ∷ below) over ∙ ap (λ fs. g ∷ fs) (one_more a caller below low) in
        stands_on c phases.Run other (f ∷ below) (g ∷ caller ∷ below) held a a.inner k inside (omega (arith, low)) (put_back_over a g (caller ∷ below) over ∙ put_back_top a f caller below low) (inr (subst (RunsSection c a) (sym frames) runs))

    invokes : OnwardStands c (called c.program top number callee) → GoesOnInside c (called c.program top number callee) held a
    invokes = if_either (λ o. OnwardStands c o → GoesOnInside c o held a) (has_room c.program (frames_of top) callee) (entered c.program callee g (waiting c.program top)) (threw StackOverflowError top)
        (cond_both (is_synchronized callee.flags) (Entering (monitor_of c.program callee g) (g ∷ caller ∷ below)) (Running (g ∷ caller ∷ below)) (λ o. OnwardStands c o → GoesOnInside c o held a)
        (λ q l. calls (phases.Enter (monitor_of c.program callee g) 0) l (calls_on c marked phases.Run f below held a k r this number d callee there q)) (λ q l. calls phases.Run l tt))
        (λ l. throws (ready StackOverflowError) StackOverflowError)

  called_by : (number : ℕ) (o : Option MethodInfo) → slice_get c.program.methods number ≡ o → DoesIt (Calls number) → (result : Onward) → option_map (called c.program top number) o ≡ Some result → OnwardStands c result → GoesOnInside c result held a
  called_by number None there d result e l = absurd (cc)
  called_by number (Some callee) there d result e l = lands c held a (called c.program top number callee) result (invokes number callee there d) e l

  -- ---- returns

  none_held : is_return r.stands.insn.op ≡ true → r.stands.tags.held ≡ []
  none_held q = leaves_none c marked f r.stands (first_true (is_return r.stands.insn.op) _ q)

  returns_by : DoesIt Returns → OnwardStands c (returns c.program top) → GoesOnInside c (returns c.program top) held a
  returns_by d = cond_both (is_synchronized r.stands.method.flags) (Leaving (monitor_of c.program r.stands.method f) afters.Return (f ∷ below)) (back (returned c.program top)) (λ o. OnwardStands c o → GoesOnInside c o held a)
      (λ q l. stays c phases.Run (phases.Leave (monitor_of c.program r.stands.method f) afters.Return) f below held a k (locking c marked phases.Run f below held a k (frames_inside a below) r (none_held d) q) (not_finished a (frames_inside a (f ∷ below))))
      (λ q l. returned_on c marked phases.Run f held a below a.inner (given_back r.stands.insn.op f.stack) k r (not_alone c marked phases.Run f held a below k r (none_held d) q) l)

  -- ---- all effects

  onwards : (e : Effect) → Is e → DoesIt e → GoesAlong r.stands.insn e → (got : ℕ) (result : Onward) → done c.program top e got ≡ Some result → OnwardStands c result → GoesOnInside c result held a
  onwards (Goes to made) is d edge got result e l = lands c held a (Running (went c.program top to made)) result (goes to made edge (no_exit (Goes to made) is)) e l
  onwards (Throws x) is d edge got result e l = lands c held a (threw x top) result (λ st. throws (ready x) x) e l
  onwards (Reads v) is d edge got result e l = lands c held a (Running (went_on c.program top got)) result (goes_on (Reads v) got is (λ x. x) (λ x. x)) e l
  onwards (Measures array) is d edge got result e l = lands c held a (Running (went_on c.program top (header_length got))) result (goes_on (Measures array) (header_length got) is (λ x. x) (λ x. x)) e l
  onwards (Raises x) is d edge got result e l = raises (thrown_of (header_class got)) x result e
  onwards (Calls number) is d edge got result e l = called_by number (slice_get c.program.methods number) refl d result e l
  onwards Returns is d edge got result e l = lands c held a (returns c.program top) result (returns_by d) e l
  onwards (Enters n) is d edge got result e l = lands c held a (Entering n (went_on c.program top 0)) result (enters n is d) e l
  onwards (Leaves n) is d edge got result e l = lands c held a (Leaving n afters.Next (went_on c.program top 0)) result (leaves n is d) e l
  onwards w is d edge got result e l = absurd (first_of (assumption, cc))

  pub steps : (got : ℕ) (result : Onward) → GoesAlong r.stands.insn (effect_at c.program top) → done c.program top (effect_at c.program top) got ≡ Some result → OnwardStands c result → GoesOnInside c result held a
  steps got result edge e l = onwards (effect_at c.program top) refl (top_does c marked phases.Run f below held a k r this) edge got result e l

pub steps_inside : StepsInside
steps_inside c [] held a at got result marked k s t edge e l = absurd (cc)
steps_inside c (f ∷ below) held a at got result marked k s t edge e l =
    let thread : InAttempt c phases.Run = record { frame = f; below = below; held = held; attempt = a; tries = k; agrees = s } in
    let same = top_at_standing c marked f below (r c marked thread).stands at t in
    subst (λ x. GoesAlong x.insn (effect_at c.program x) → done c.program x (effect_at c.program x) got ≡ Some result → OnwardStands c result → GoesOnInside c result held a) same (steps c marked thread got result) edge e l

-- ---- elements

-- an instruction of a section that is at an element reads it
reads_element : (c : MarkedProgram) (mode : Mode) (o method place : ℕ) (stored : Option ℕ) (op : Op) (target : Target) (vs : List ℕ) → is_element_op stored op ≡ true → ReadsOnly c.program (tags_of c) mode o method place op target vs → (stored ≡ None) × (op ≡ ops.Iaload)
reads_element c mode o method place None ops.Iaload target vs e h = (refl, refl)
reads_element c mode o method place (Some v) ops.Iastore target vs e h = absurd h
reads_element c mode o method place stored op target vs e h = absurd (cc)

element_not_finished : (a : Attempt) (word : ℕ) (stored : Option ℕ) (fs : List Frame) → Finishes a (phases.Element word stored) fs → ⊥
element_not_finished a word stored fs x = let bad = x.leaves in cc

module _ (c : MarkedProgram) (marked : IsMarked c) (word : ℕ) (stored : Option ℕ) (thread : InAttempt c (phases.Element word stored)) where
  open thread use {frame as f, below, held, attempt as a, tries as k, agrees as s}

  -- it stands as before the instruction
  abbrev before : InAttempt c phases.Run
  before = record {
    frame = f;
    below = below;
    held = held;
    attempt = a;
    tries = stays c (phases.Element word stored) phases.Run f below held a k tt (element_not_finished a word stored (frames_inside a (f ∷ below)));
    agrees = record { shown = s.shown; show = s.show; depths = s.depths; once = s.once; phase_shows = tt };
  }

  abbrev runs : Runs c a f (frames_inside a below)
  runs = r c marked before

  at_element : (stored ≡ None) × (runs.stands.insn.op ≡ ops.Iaload)
  at_element =
      reads_element c runs.mode a.entry.receiver f.method runs.stands.number stored runs.stands.insn.op runs.stands.target f.stack
      (ap (λ (i : Insn). is_element_op stored i.op) (one_insn c marked f runs.stands s.phase_shows.0) ∙ s.phase_shows.1)
      (reads c marked a k.uses k.are_uses k.marked f (frames_inside a below) runs f.stack (this c marked before))

  element : ReadsElement c stored held a (top_here c f below runs.stands)
  element = record {
    read = at_element.0;
    owned = takes_owned c marked phases.Run f below held a before.tries runs (this c marked before) at_element.1;
    goes_on = λ value l. goes c marked before runs.stands.insn.next value (next_edge runs.stands.insn (ap falls_through at_element.1)) (λ x. let bad : ops.Iaload ≡ ops.Monitorexit = sym at_element.1 ∙ x in cc) l;
  }

pub elements_inside : ElementsInside
elements_inside c word stored [] held a at marked k s t = absurd s.phase_shows
elements_inside c word stored (f ∷ below) held a at marked k s t =
    let thread : InAttempt c (phases.Element word stored) = record { frame = f; below = below; held = held; attempt = a; tries = k; agrees = s } in
    subst (λ x. ReadsElement c stored held a x) (top_at_standing c marked f below (runs c marked word stored thread).stands at t) (element c marked word stored thread)
