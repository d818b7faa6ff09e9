-- The event that begins an instruction keeps the types of all that its thread holds.
use Rattle.std.{proofs.Common.{◌≡◌, ℕ, ◌<◌, ◌≤◌, inl, inr, List, [], ◌∷◌, ◌++◌, length, Option, Some, None, refl, ap, sym, subst, ◌∙◌, arith, map, drop}, specs.List.AllByRecursion}
use Rattle.std.proofs.lemmas.Bool.Decides.{nat_tests}
use Rattle.lists.proofs.ListLaws.{same_some}
use Rattle.jvm_types.specs.{CodeTable.{value_of, locals_after}, ProgramInvariant.IsProgram, Verifying.edges, declared.{op_row.{Given.{Given, TheVariants.Fresh}, OpRow.OpRow}, outcome.Thrown.Thrown}}
use Rattle.jvm_types.{specs.declared.{program.{MethodInfo.MethodInfo, Program.Program}, typing.VType.{VType, TheVariants.{Ref, New}}}, proofs.TypeOrder.subclass_self}
use Rattle.checked_program.specs.{MarkedProgram.{MarkedProgram, IsMarked}, TaggedCode.row_of}
use Rattle.machine_types.specs.{Frames.{effect_at, went_on, making, pushed, Top, top_of}, Ints.low, Onward.{Onward, Running, threw, done}, Threads.Frame, Typed.{Classes, Holds, FrameHolds, HoldBelow}}
use Rattle.machine_types.specs.{Typed.{FramesHold, ElementStands, with_object}, Words.{header_class, value_word}, declared.effect.Effect.{Effect, TheVariants.{Indexes, Makes, Notifies, NotifiesAll}}}
use Rattle.laws_threads.{specs.Allowed.{OneOf, HasRowTypes, GivenHolds, WriteHolds, MadeAs, Allowed, IsByMachine}, proofs.{Doing.{runs_on, throws_it, does_it}, Landing.stand_top}}
use Rattle.laws_threads.proofs.{Lifts.{frame_up, below_up}, Onwards.{Keeps, keeps_top, HasObjects, FoundHolds, AreInside, Onwards, IfOnwards}, Standings.top_here}
use Rattle.laws_threads.proofs.{ThreadMove.{IsNotify, of_one, of_all, Refuses, past_end}, TopEffects.{made_size, allowed_here}, TypedMoves.goes}

-- ---- a new object is of its class

made_holds : (p : Program) (m : MethodInfo) (is : Classes) (type : VType) (word size a : ℕ) → IsProgram p → MadeAs p m type word size → Holds m (with_object is (header_class word) a) type a
made_holds p m is (New pc) word size a program h = (h.0, h.1, inr ((let small : h.0 < 65536 = grind (arith, nat_tests, program.files, h.2) in omega (arith, small)) ∙ ap header_class (sym h.3), refl))
made_holds p m is (Ref class) word size a program h = inr (class, inr (h.0 ∙ omega arith ∙ ap header_class (sym h.3), refl), subclass_self class)
made_holds p m is type word size a program h = absurd (assumption)

module _ (c : MarkedProgram) (marked : IsMarked c) (is : Classes) (has : HasObjects c.program is) where
  -- ---- the frame at the top

  -- what its instruction is allowed
  abbrev AllowedIn : (f : Frame) → FrameHolds c is 0 f → Effect → Type 0
  AllowedIn f h e = Allowed c.program h.stands.method is h.stands.insn h.stands.target (row_of c.program h.stands.method h.stands.insn h.stands.target) f.stack e

  allowed_in : (f : Frame) (fs : List Frame) (h : FrameHolds c is 0 f) (e : Effect) → effect_at c.program (top_here c f fs h.stands) ≡ e → AllowedIn f h e
  allowed_in f fs h e same = subst (AllowedIn f h) same (allowed_here c marked is has.out f h)

  -- what holds where a frame stands holds at the top
  at_top : (P : List Frame → Top → Type 0) → ((f : Frame) (fs : List Frame) (h : FrameHolds c is 0 f) → HoldBelow c is f.method fs → P (f ∷ fs) (top_here c f fs h.stands))
      → (fs : List Frame) (at : Top) → FramesHold c is fs → top_of c.program fs ≡ Some at → P fs at
  at_top P more [] at h found = absurd (cc)
  at_top P more (f ∷ fs) at h found = subst (P (f ∷ fs)) (same_some (sym (stand_top c marked f fs h.0.stands) ∙ found)) (more f fs h.0 h.1)

  -- ---- how it goes on

  pub does_at : (e : Effect) (got : ℕ) (o : Onward) (fs : List Frame) (at : Top) → FramesHold c is fs → top_of c.program fs ≡ Some at → effect_at c.program at ≡ e → FoundHolds c.program is at.target (effect_at c.program at) got
      → done c.program at e got ≡ Some o → Onwards c is fs o
  does_at e got o =
      at_top (λ fs at. effect_at c.program at ≡ e → FoundHolds c.program is at.target (effect_at c.program at) got → done c.program at e got ≡ Some o → Onwards c is fs o)
      (λ f fs h b same found d. subst (IfOnwards c is (f ∷ fs)) d (does_it c marked is has f fs h b e got same (allowed_in f fs h e same) (subst (λ e. FoundHolds c.program is h.stands.target e got) same found)))

  refused : (class : Thrown) (got : ℕ) (at : Top) → Refuses c.program got at class → IsByMachine class
  refused _ got at (past_end array index stored e t) = tt
  refused _ got at k = tt

  pub refuses_at : (class : Thrown) (got : ℕ) (fs : List Frame) (at : Top) → FramesHold c is fs → top_of c.program fs ≡ Some at → Refuses c.program got at class → Onwards c is fs (threw class at)
  refuses_at class got fs at h found k = let own = refused class got at k in at_top (λ fs at. Onwards c is fs (threw class at)) (λ f fs h b. throws_it c marked is has f fs h b class own) fs at h found

  -- with nothing made
  pub goes_at : (e : Effect) → ((f : Frame) (h : FrameHolds c is 0 f) → AllowedIn f h e → OneOf (edges h.stands.insn) h.stands.insn.next × HasRowTypes h.stands.method is (row_of c.program h.stands.method h.stands.insn h.stands.target) 0)
      → (fs : List Frame) (at : Top) → FramesHold c is fs → top_of c.program fs ≡ Some at → effect_at c.program at ≡ e → Onwards c is fs (Running (went_on c.program at 0))
  goes_at e on = at_top (λ fs at. effect_at c.program at ≡ e → Onwards c is fs (Running (went_on c.program at 0)))
      (λ f fs h b same. let k = on f h (allowed_in f fs h e same) in runs_on c marked is has f fs h b h.stands.insn.next 0 k.0 k.1)

  pub notifies_at : (m : ℕ) (fs : List Frame) (at : Top) → FramesHold c is fs → top_of c.program fs ≡ Some at → IsNotify c.program at m → Onwards c is fs (Running (went_on c.program at 0))
  notifies_at m fs at h found (of_one e) = goes_at (Notifies m) (λ f h a. (a.0, a.2)) fs at h found e
  notifies_at m fs at h found (of_all e) = goes_at (NotifiesAll m) (λ f h a. (a.0, a.2)) fs at h found e

  -- ---- an element

  pub finds_element : (array index : ℕ) (stored : Option ℕ) (fs : List Frame) (at : Top) → FramesHold c is fs → top_of c.program fs ≡ Some at → effect_at c.program at ≡ Indexes array index stored → ElementStands (value_word array (low index)) stored fs
  finds_element array index stored = at_top (λ fs at. effect_at c.program at ≡ Indexes array index stored → ElementStands (value_word array (low index)) stored fs) (λ f fs h b same. (allowed_in f fs h (Indexes array index stored) same).2)

  -- ---- a new object

  pushes : (f : Frame) (fs : List Frame) (h : FrameHolds c is 0 f) → HoldBelow c is f.method fs → (a word size : ℕ) (type : VType) → OneOf (edges h.stands.insn) h.stands.insn.next → (row_of c.program h.stands.method h.stands.insn h.stands.target).gives ≡ Fresh type ∷ []
      → (row_of c.program h.stands.method h.stands.insn h.stands.target).writes ≡ None → MadeAs c.program h.stands.method type word size
      → FramesHold c (with_object is (header_class word) a) (pushed a (making c.program (top_here c f fs h.stands)))
  pushes f fs h b a word size type edge gives writes made_as =
      let r : OpRow = row_of c.program h.stands.method h.stands.insn h.stands.target in
      let more : Classes = with_object is (header_class word) a in
      let up : (class v : ℕ) → is class v → more class v = λ class v k. inl k in
      let holds = made_holds c.program h.stands.method is type word size a marked.checked.program made_as in
      let given : HasRowTypes h.stands.method more r a =
      (subst (λ (gs : List Given). AllByRecursion (GivenHolds h.stands.method more a) gs) (sym gives) (holds, tt), subst (λ o. WriteHolds h.stands.method more a o) (sym writes) tt) in
      let on = goes c marked more f (frame_up is more up c 0 f h) h.stands.insn.next a edge given in
      let stacked = subst (λ (gs : List Given). FrameHolds c more 0 (record f { pc = h.stands.insn.next; stack = map (value_of 0 (λ type. a) f.stack f.locals) gs ++ drop (length r.takes) f.stack; locals = locals_after 0 (λ type. a) r.writes f.stack f.locals })) gives on in
      (subst (λ o. FrameHolds c more 0 (record f { pc = h.stands.insn.next; stack = a ∷ drop (length r.takes) f.stack; locals = locals_after 0 (λ type. a) o f.stack f.locals })) writes stacked, below_up is more up c f.method fs b)

  -- it is in the heap, and only the frame at the top changes
  pub record MakesAt (a word size : ℕ) (fs : List Frame) (at : Top) : Type 0 where
    pub holds : FramesHold c (with_object is (header_class word) a) (pushed a (making c.program at))
    pub keeps : Keeps fs (making c.program at)
    pub inside : AreInside c.program fs → AreInside c.program (making c.program at)
    pub least : 2 ≤ size

  pub makes_at : (a word size : ℕ) (fs : List Frame) (at : Top) → FramesHold c is fs → top_of c.program fs ≡ Some at → effect_at c.program at ≡ Makes word size → MakesAt a word size fs at
  makes_at a word size = at_top (λ fs at. effect_at c.program at ≡ Makes word size → MakesAt a word size fs at)
      (λ f fs h b same. let k = allowed_in f fs h (Makes word size) same in
      record { holds = pushes f fs h b a word size k.1 k.0 k.2 k.3 k.4; keeps = keeps_top f _ fs; inside = λ all. all; least = (made_size c marked h.stands.method k.1 word size k.4).0 })
