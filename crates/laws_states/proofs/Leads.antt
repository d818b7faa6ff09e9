-- What an event makes of its thread: the monitors that it holds stay objects, an element that it is about to access is there,
-- and an object that it makes begins at the next free word.
use Rattle.std.proofs.Common.{◌≡◌, ℕ, ◌+◌, ◌<◌, ◌≤◌, Bool, true, false, List, [], ◌∷◌, length, Option, Some, None, refl, ap, sym, subst, ◌∙◌, arith, ◌==◌, nat_lt, nat_le, slice_index, if◌then◌else◌}
use Rattle.std.proofs.lemmas.Bool.Decides.{nat_tests}
use Rattle.lists.proofs.ListLaws.{same_some}
use Rattle.jvm_types.specs.declared.{class_numbers.TheConstants.INT_ARRAY_CLASS, code.Op.Op, fixed_words.TheConstants.NEXT_FREE_WORD, program.{Program.Program, Target.Target}}
use Rattle.checked_program.specs.{MarkedProgram.MarkedProgram, TaggedCode.row_of}
use Rattle.machine_types.specs.{Accesses.{found_by, words_after}, Core.Core, Effects.effect, Events.{wanted, moved}, FoundWords.IsHeader, Frames.{Top, top_of, effect_at, making}, Going.with_phase}
use Rattle.machine_types.specs.{Instructions.{effect_wants, run_wants, begun}, Ints.low, NewObjects.size_by, PlainMemory.Object, Structure.is_element_op, Threads.{Frame, Thread}}
use Rattle.machine_types.specs.{Typed.{FrameHolds, FramesHold, IsElementOn, HasElement, HasElementOn, HasElementIn, HasClass, PhaseHolds}, Words.{header_length, header_word, value_word}}
use Rattle.machine_types.specs.declared.{effect.Effect.{Effect, TheVariants.{Throws, Indexes, Makes}}, phase.Phase.Phase}
use Rattle.laws_threads.{specs.Allowed.{IsOf, Allowed}, proofs.{ElementEffects.element_at, Landing.stand_top, Standings.top_here, ThreadMove.{Lacks, LeadsTo, Move, becomes, each_move}}}
use Rattle.laws_threads.proofs.TopEffects.{allowed_here}
use Rattle.laws_states.{specs.HeapFacts.{IsWaitOn, HoldsObjects}, proofs.{Accesses.out_there, Found.length_found, Headers.made_header, Lists.set_here}}
use Rattle.laws_states.proofs.{Movers.HeapState, Quiet.{AllHeld, QuietPhase, Quiet, KnowsObject, quiet_moved}}
use Rattle.jvm_types.specs.declared.code.Op.TheVariants as ops
use Rattle.jvm_types.specs.declared.outcome.Thrown.TheVariants as thrown
use Rattle.machine_types.specs.declared.phase.Phase.TheVariants as phases
use Rattle.laws_threads.proofs.ThreadMove as moves

-- ---- the element that an instruction names stands on the stack

abbrev OnStack : (a : ℕ) → Option ℕ → List ℕ → Type 0
OnStack a None (i ∷ b ∷ s) = b ≡ a
OnStack a (Some v) (w ∷ i ∷ b ∷ s) = b ≡ a
OnStack a stored s = ⊥

by_null : (b i a j : ℕ) (stored other : Option ℕ) (t : Bool) → (if t then Throws thrown.NullPointerException else Indexes b i stored) ≡ Indexes a j other → b ≡ a
by_null b i a j stored other true e = absurd (cc)
by_null b i a j stored other false e = cc

on_stack : (p : Program) (next : ℕ) (target : Target) (op : Op) (l s : List ℕ) (a i : ℕ) (stored : Option ℕ) → is_element_op stored op ≡ true → effect p next target op l s ≡ Indexes a i stored → OnStack a stored s
on_stack p next target ops.Iaload l (j ∷ b ∷ s) a i None t e = by_null b j a i None None (b == 0) e
on_stack p next target ops.Iastore l (w ∷ j ∷ b ∷ s) a i (Some v) t e = by_null b j a i (Some w) (Some v) (b == 0) e
on_stack p next target op l s a i None t e = absurd (cc)
on_stack p next target op l s a i (Some v) t e = absurd (cc)

has_on : (objects : List Object) (stored : Option ℕ) (stack : List ℕ) (a i : ℕ) → OnStack a stored stack → IsElementOn (value_word a i) stored stack → HasElement objects a i → HasElementOn objects stored stack
has_on objects None (j ∷ b ∷ s) a i on e k = record { object = k.object; there = k.there; is = k.is ∙ sym on; below = (let same : j ≡ i = omega (arith, e, on) in subst (λ n. n < length k.object.values) (sym same) k.below) }
has_on objects (Some v) (w ∷ j ∷ b ∷ s) a i on e k = record { object = k.object; there = k.there; is = k.is ∙ sym on; below = (let same : j ≡ i = omega (arith, e.0, on) in subst (λ n. n < length k.object.values) (sym same) k.below) }
has_on objects stored stack a i on e k = absurd (assumption)

-- ---- a new object

pub record MadeNow (p : Program) (s : Core) (after : List ℕ) (a word : ℕ) : Type 0 where
  pub at : a ≡ slice_index s.words NEXT_FREE_WORD
  pub next : slice_index after NEXT_FREE_WORD ≡ a + size_by p word
  pub room : a + size_by p word ≤ p.heap
  pub header : IsHeader p word

pub record Leads (c : MarkedProgram) (objects : List Object) (s : Core) (after : List ℕ) (x : Thread) : Type 0 where
  pub monitors : HoldsObjects (HasClass objects) x
  pub element : (word : ℕ) (stored : Option ℕ) → x.phase ≡ phases.Element word stored → HasElementIn objects stored x.frames
  pub made : (a word : ℕ) → x.phase ≡ phases.Made a word → MadeNow c.program s after a word

module _ (state : HeapState) (after : List ℕ) where
  open state use {c, marked, objects, s, facts}

  waits_of : (phase : Phase) → QuietPhase (HasClass objects) phase → IsWaitOn (HasClass objects) phase
  waits_of (phases.WaitLook m r depth) q = q
  waits_of phase q = assumption

  pub quiet_leads : (x : Thread) → Quiet (HasClass objects) x → Leads c objects s after x
  quiet_leads x q = record {
    monitors = record { held = q.held; waits = waits_of x.phase q.phase };
    element = λ word stored e. absurd (subst (QuietPhase (HasClass objects)) e q.phase);
    made = λ a word e. absurd (subst (QuietPhase (HasClass objects)) e q.phase);
  }

  -- ---- an element, and a new object

  record InFrame (x : Thread) : Type 0 where
    f : Frame
    fs : List Frame
    h : FrameHolds c (HasClass objects) 0 f
    there : x.frames ≡ f ∷ fs

  module _ (x : Thread) (top : InFrame x) (held : AllHeld (HasClass objects) x.held) where
    open top use {f, fs, h, there}

    index_leads : (a i : ℕ) (stored : Option ℕ) (got : ℕ) (k : IsOf (HasClass objects) INT_ARRAY_CLASS a) → OnStack a stored f.stack → IsElementOn (value_word a (low i)) stored f.stack → got ≡ slice_index s.words (header_word a)
        → nat_lt (low i) (header_length got) ≡ true → Leads c objects s after (with_phase x (phases.Element (value_word a (low i)) stored))
    index_leads a i stored got k on e g t =
        let long : header_length got ≡ length k.2.0.values = ap header_length g ∙ length_found c marked objects s facts a k in
        let less : low i < header_length got = grind (arith, nat_tests, t) in
        let below : low i < length k.2.0.values = omega (arith, less, long) in
        let has : HasElementIn objects stored x.frames = subst (HasElementIn objects stored) (sym there) (has_on objects stored f.stack a (low i) on e (record { object = k.2.0; there = k.2.1; is = k.2.2; below = below })) in
        record {
          monitors = record { held = held; waits = tt };
          element = λ word v e. let same : stored ≡ v = cc in subst (λ z. HasElementIn objects z x.frames) same has;
          made = λ b word e. absurd (cc);
        }

    make_leads : (frames : List Frame) (word size got : ℕ) → IsHeader c.program word × (size_by c.program word ≡ size) → (got ≡ slice_index s.words NEXT_FREE_WORD) × (slice_index after NEXT_FREE_WORD ≡ got + size)
        → nat_le (got + size) c.program.heap ≡ true → Leads c objects s after (record x { frames = frames; phase = phases.Made got word })
    make_leads frames word size got k g t =
        let room : got + size ≤ c.program.heap = grind (arith, nat_tests, t) in
        let now : MadeNow c.program s after got word = record { at = g.0; next = omega (arith, g.1, k.1); room = omega (arith, room, k.1); header = k.0 } in
        record {
          monitors = record { held = held; waits = tt };
          element = λ w v e. absurd (cc);
          made = λ b w e. let at : got ≡ b = cc in let is : word ≡ w = cc in subst (λ z. MadeNow c.program s after z w) at (subst (MadeNow c.program s after got) is now);
        }

    -- what the instruction may do
    allowed : (at : Top) (e : Effect) → top_of c.program x.frames ≡ Some at → effect_at c.program at ≡ e
        → (effect_at c.program (top_here c f fs h.stands) ≡ e) × Allowed c.program h.stands.method (HasClass objects) h.stands.insn h.stands.target (row_of c.program h.stands.method h.stands.insn h.stands.target) f.stack e
    allowed at e found is =
        let here : effect_at c.program (top_here c f fs h.stands) ≡ e = ap (effect_at c.program) (sym (same_some (sym found ∙ ap (top_of c.program) there ∙ stand_top c marked f fs h.stands))) ∙ is in
        (here, subst (λ (e : Effect). Allowed c.program h.stands.method (HasClass objects) h.stands.insn h.stands.target (row_of c.program h.stands.method h.stands.insn h.stands.target) f.stack e) here (allowed_here c marked (HasClass objects) (out_there c marked objects s facts) f h))

  -- ---- all moves

  abbrev Gets : Effect → (got : ℕ) → Type 0
  Gets (Indexes a i stored) got = got ≡ slice_index s.words (header_word a)
  Gets (Makes word size) got = (got ≡ slice_index s.words NEXT_FREE_WORD) × (slice_index after NEXT_FREE_WORD ≡ got + size)
  Gets e got = Unit {0}

  -- what the instruction at hand found
  abbrev Finds : Phase → List Frame → (got : ℕ) → Type 0
  Finds phases.Run frames got = (at : Top) → top_of c.program frames ≡ Some at → Gets (effect_at c.program at) got
  Finds was frames got = Unit {0}

  in_frames : (y : Thread) (got : ℕ) (fs : List Frame) → y.frames ≡ fs → FramesHold c (HasClass objects) fs → (at : Top) (e : Effect) → top_of c.program y.frames ≡ Some at → effect_at c.program at ≡ e
      → InFrame y
  in_frames y got [] there h at e found is = absurd (let none : None ≡ Some at = sym (ap (top_of c.program) there) ∙ found in cc)
  in_frames y got (f ∷ fs) there h at e found is = record { f = f; fs = fs; h = h.0; there = there }

  leads_to : (y : Thread) (got : ℕ) (was now : Phase) (k : LeadsTo c.program y got was now) → AllHeld (HasClass objects) y.held → PhaseHolds c (HasClass objects) was y.frames → KnowsObject (HasClass objects) was → y.phase ≡ was → Finds was y.frames got
      → Leads c objects s after (with_phase y now)
  leads_to y got _ _ (moves.to_element at a i stored found is t) held h o same finds =
      let in_frame = in_frames y got y.frames refl h at (Indexes a i stored) found is in
      let here = allowed y in_frame held at (Indexes a i stored) found is in
      let stands = in_frame.h.stands in
      let op = element_at c.program stands.insn.next stands.target stands.insn.op in_frame.f.locals in_frame.f.stack a i stored here.0 in
      index_leads y in_frame held a i stored got here.1.1 (on_stack c.program stands.insn.next stands.target stands.insn.op in_frame.f.locals in_frame.f.stack a i stored op here.0) here.1.2
      (subst (λ (e : Effect). Gets e got) is (finds at found)) t
  leads_to y got was now k held h o same finds = quiet_leads _ (quiet_moved (HasClass objects) c y got was (moves.leads now k) tt held o same)

  stays_leads : (y : Thread) (got : ℕ) (was : Phase) (k : Lacks c y got was) → AllHeld (HasClass objects) y.held → PhaseHolds c (HasClass objects) was y.frames → KnowsObject (HasClass objects) was → y.phase ≡ was → Leads c objects s after y
  stays_leads y got _ (moves.no_place word stored none) held h o same = absurd (stands y.frames none h)
    where
      stands : (fs : List Frame) → top_of c.program fs ≡ None → PhaseHolds c (HasClass objects) (phases.Element word stored) fs → ⊥
      stands [] none h = h.0
      stands (f ∷ fs) none h = let bad : None ≡ Some (top_here c f fs h.1.0.stands) = sym none ∙ stand_top c marked f fs h.1.0.stands in absurd (cc)
  stays_leads y got was k held h o same = quiet_leads y (quiet_moved (HasClass objects) c y got was (moves.stays k) tt held o same)

  move_leads : (y : Thread) (got : ℕ) (was : Phase) (k : Move c y got was) → AllHeld (HasClass objects) y.held → PhaseHolds c (HasClass objects) was y.frames → KnowsObject (HasClass objects) was → y.phase ≡ was → Finds was y.frames got
      → Leads c objects s after (becomes c y got was k)
  move_leads y got was (moves.stays k) held h o same finds = stays_leads y got was k held h o same
  move_leads y got was (moves.leads now k) held h o same finds = leads_to y got was now k held h o same finds
  move_leads y got _ (moves.makes at word size found is t) held h o same finds =
      let in_frame = in_frames y got y.frames refl h at (Makes word size) found is in
      let here = allowed y in_frame held at (Makes word size) found is in
      make_leads y in_frame held (making c.program at) word size got
      (made_header c.program marked.checked.program in_frame.h.stands.method here.1.1 word size here.1.4) (subst (λ (e : Effect). Gets e got) is (finds at found)) t
  move_leads y got was k held h o same finds = quiet_leads _ (quiet_moved (HasClass objects) c y got was k tt held o same)

-- ---- all phases

module _ (state : HeapState) where
  open state use {c, marked, objects, s, facts}

  gets : (x : Thread) (pc : ℕ) (e : Effect) → Gets state (words_after s.words (effect_wants x pc e)) e (found_by s.words (effect_wants x pc e))
  gets x pc (Indexes a i stored) = refl
  gets x pc (Makes word size) =
      (refl, set_here s.words NEXT_FREE_WORD (slice_index s.words NEXT_FREE_WORD + size) (omega (arith, facts.unused.many, marked.checked.program.heap_from)))
  gets x pc e = tt

  -- the object of a monitor phase
  knows : (phase : Phase) (fs : List Frame) → PhaseHolds c (HasClass objects) phase fs → IsWaitOn (HasClass objects) phase → KnowsObject (HasClass objects) phase
  knows (phases.Take m count) fs h w = h.0
  knows (phases.TakeFat m r) fs h w = h.0
  knows phase fs h w = assumption

  finds : (x : Thread) (phase : Phase) → Finds state (words_after s.words (wanted c x phase)) phase x.frames (found_by s.words (wanted c x phase))
  finds x phases.Run = λ at found. subst (λ (o : Option Top). Gets state (words_after s.words (run_wants c.program x o)) (effect_at c.program at) (found_by s.words (run_wants c.program x o))) (sym found) (gets x at.frame.pc (effect_at c.program at))
  finds x phase = tt

  pub phase_leads : (x : Thread) (phase : Phase) → x.phase ≡ phase → AllHeld (HasClass objects) x.held → PhaseHolds c (HasClass objects) phase x.frames → IsWaitOn (HasClass objects) phase
      → Leads c objects s (words_after s.words (wanted c x phase)) (moved c x phase (found_by s.words (wanted c x phase)))
  phase_leads x phase e held h w = each_move (Leads c objects s (words_after s.words (wanted c x phase))) c x phase (found_by s.words (wanted c x phase))
      (λ k. move_leads state (words_after s.words (wanted c x phase)) x (found_by s.words (wanted c x phase)) phase k held h (knows phase x.frames h w) e (finds x phase))
      (λ k. move_leads state (words_after s.words (wanted c x phase)) (begun x) (found_by s.words (wanted c x phase)) phase k held h (knows phase x.frames h w) e (finds x phase))
