-- What an instruction does keeps the types of its thread's frames, whatever its effect.
use Rattle.std.proofs.{Common.{◌≡◌, ℕ, ◌<◌, inl, Bool, List, ◌∷◌, length, Option, Some, None, refl, sym, subst, arith, slice_get, drop, option_map, if◌then◌else◌}, lemmas.Bool.cond_both}
use Rattle.jvm_types.specs.{ClassNames.file_of_class, Members.{is_static, is_synchronized}, ProgramInvariant.site_in, Verifying.edges, declared.class_numbers.TheConstants.CLASS_ITSELF}
use Rattle.jvm_types.specs.declared.{op_row.OpRow.OpRow, outcome.Thrown.Thrown, program.{MethodInfo.MethodInfo, Target.Target}}
use Rattle.laws_programs.specs.TargetLaws.{HasRow}
use Rattle.checked_program.specs.{MarkedProgram.{MarkedProgram, IsMarked}, Marks.called_method, TaggedCode.row_of}
use Rattle.machine_types.specs.{Effects.effect, Frames.{first_or_null, monitor_of, effect_at, frame_on, went, went_on, waiting, has_room, entry_frame, arguments_of}}
use Rattle.machine_types.specs.{Onward.{Running, Throwing, Entering, threw, entered, called, done}, ReadyObjects.{class_of, thrown_of}, Threads.Frame}
use Rattle.machine_types.specs.{Typed.{Classes, FrameHolds, HoldBelow, FramesHold, IsObject}, Words.{header_class, header_length}, declared.effect.Effect.Effect}
use Rattle.machine_types.specs.declared.effect.Effect.TheVariants.{Goes, Throws, Reads, Writes, Measures, Raises, Prints, Calls, Returns, Enters, Leaves}
use Rattle.laws_threads.{specs.Allowed.{OneOf, HasRowTypes, IsByMachine, Allowed}, proofs.{CalledEntries.{call_values, enters}, Calls.{call_row, call_receiver}, Landing.rules_at, Standings.top_here}}
use Rattle.laws_threads.proofs.{EffectsOfInsns.{Fits, IsCalling, effect_fits}, Onwards.{Keeps, keeps_all, keeps_top, keeps_push, HasObjects, FoundHolds, Onwards, IfOnwards, goes_out}}
use Rattle.laws_threads.proofs.{Tests.either_way, ThreadMove.if_either, TopEffects.taken_here, TypedMoves.{goes, waits}, Values.ValuesHold}
use Rattle.jvm_types.specs.declared.outcome.Thrown.TheVariants as thrown
use Rattle.jvm_types.specs.declared.program.Target.TheVariants as targets
use Rattle.jvm_types.specs.Types as types

module _ (c : MarkedProgram) (marked : IsMarked c) (is : Classes) (has : HasObjects c.program is) (f : Frame) (fs : List Frame) (h : FrameHolds c is 0 f) (b : HoldBelow c is f.method fs) where
  pub runs_on : (to made : ℕ) → OneOf (edges h.stands.insn) to → HasRowTypes h.stands.method is (row_of c.program h.stands.method h.stands.insn h.stands.target) made
      → Onwards c is (f ∷ fs) (Running (went c.program (top_here c f fs h.stands) to made))
  runs_on to made edge gives = record {
    holds = (goes c marked is f h to made edge gives, b);
    keeps = keeps_top f (frame_on (row_of c.program h.stands.method h.stands.insn h.stands.target) to made f) fs;
    inside = λ all. all;
  }

  pub throws_it : (x : Thrown) → IsByMachine x → Onwards c is (f ∷ fs) (threw x (top_here c f fs h.stands))
  throws_it x own = record { holds = (has.ready x own, (inl h, b)); keeps = keeps_all (f ∷ fs); inside = λ all. all }

  -- ---- a call

  module _ (number : ℕ) (m : MethodInfo) (t : h.stands.target ≡ targets.Method number) (e : slice_get c.program.methods number ≡ Some m)
      (calls : effect c.program h.stands.insn.next h.stands.target h.stands.insn.op f.locals f.stack ≡ Calls number) where
    abbrev frame : Frame
    frame = entry_frame number m (arguments_of c.program (top_here c f fs h.stands))

    entry_values : ValuesHold m is (types.entry_type_frame m) frame
    entry_values =
        let k = h.stands in
        let r : OpRow = row_of c.program k.method k.insn k.target in
        let has_row : HasRow c.program (site_in k.method) k.insn.pc (targets.Method number) k.insn.op r = subst (λ (x : Target). HasRow c.program (site_in k.method) k.insn.pc x k.insn.op r) t (rules_at c marked f k).has_row in
        let calls : effect c.program k.insn.next (targets.Method number) k.insn.op f.locals f.stack ≡ Calls number = subst (λ (x : Target). effect c.program k.insn.next x k.insn.op f.locals f.stack ≡ Calls number) t calls in
        call_values k.method is m (marked.checked.program.methods number m e).class.0 number r f.stack (call_row c.program (site_in k.method) k.insn.pc number k.insn.op r m e has_row)
        (taken_here c marked is has.out f h)
        (λ s. call_receiver c.program (site_in k.method) k.insn.pc k.insn.next number number k.insn.op r m f.locals f.stack e has_row calls s)

    call_names : called_method h.stands.insn.op h.stands.target ≡ Some number
    call_names =
        let k = h.stands in
        let fits : IsCalling c.program k.insn k.target f.stack number = subst (Fits c.program k.method k.insn k.target f.stack) calls (effect_fits c.program k.method k.insn.pc k.insn.next k.target k.insn.op f.locals f.stack (rules_at c marked f k).has_row) in
        fits.names

    -- the receiver of the new frame lies in the heap, also the 0 of a static method
    entry_inside : frame.receiver < c.program.heap
    entry_inside = either_way (λ (s : Bool). is_static m.flags ≡ s → frame.receiver < c.program.heap) (is_static m.flags)
        (λ s. subst (λ b. (if b then 0 else first_or_null (arguments_of c.program (top_here c f fs h.stands))) < c.program.heap) (sym s) (omega (arith, marked.checked.program.heap_from)))
        (λ s. has.inside m.class _ (entry_values.receiver s)) refl

    -- the monitor of the new frame, where its method is synchronized, is an object that is there
    entry_object : IsObject is (monitor_of c.program m frame)
    entry_object = cond_both (is_static m.flags) _ _ (IsObject is)
        (λ s. let class = (marked.checked.program.methods number m e).class in (CLASS_ITSELF, has.classes (file_of_class m.class) (omega (arith, class)))) (λ s. (m.class, entry_values.receiver s))

    calls_it : Onwards c is (f ∷ fs) (called c.program (top_here c f fs h.stands) number m)
    calls_it = if_either (Onwards c is (f ∷ fs)) (has_room c.program (f ∷ fs) m) (entered c.program m frame (waiting c.program (top_here c f fs h.stands))) (threw thrown.StackOverflowError (top_here c f fs h.stands))
        (if_either (Onwards c is (f ∷ fs)) (is_synchronized m.flags) (Entering (monitor_of c.program m frame) (frame ∷ waiting c.program (top_here c f fs h.stands))) (Running (frame ∷ waiting c.program (top_here c f fs h.stands)))
        (record { holds = (entry_object, typed); keeps = pushed; inside = λ all. (entry_inside, all) })
        (record { holds = typed; keeps = pushed; inside = λ all. (entry_inside, all) }))
        (throws_it thrown.StackOverflowError tt)
      where
        waiting_frame : Frame
        waiting_frame = record f { stack = drop (length (row_of c.program h.stands.method h.stands.insn h.stands.target).takes) f.stack }

        typed : FramesHold c is (frame ∷ waiting_frame ∷ fs)
        typed = (enters c marked is number m (arguments_of c.program (top_here c f fs h.stands)) e entry_values, (waits c marked is f h number call_names, b))

        pushed : Keeps (f ∷ fs) (frame ∷ waiting_frame ∷ fs)
        pushed = keeps_push f frame waiting_frame fs

  -- ---- an exception that the program throws

  raises_it : (x got : ℕ) (o : Option Thrown) → thrown_of (header_class got) ≡ o → ((class : Thrown) → thrown_of (header_class got) ≡ Some class → is (class_of class) x)
      → IfOnwards c is (f ∷ fs) (option_map (λ class. Throwing x class (f ∷ fs)) o)
  raises_it x got None e k = tt
  raises_it x got (Some class) e k = record { holds = (k class e, (inl h, b)); keeps = keeps_all (f ∷ fs); inside = λ all. all }

  enters_it : (m made : ℕ) → IsObject is m → OneOf (edges h.stands.insn) h.stands.insn.next → HasRowTypes h.stands.method is (row_of c.program h.stands.method h.stands.insn h.stands.target) made
      → Onwards c is (f ∷ fs) (Entering m (went_on c.program (top_here c f fs h.stands) made))
  enters_it m made object edge gives = record {
    holds = (object, (goes c marked is f h h.stands.insn.next made edge gives, b));
    keeps = keeps_top f (frame_on (row_of c.program h.stands.method h.stands.insn h.stands.target) h.stands.insn.next made f) fs;
    inside = λ all. all;
  }

  -- ---- all of them

  pub does_it : (e : Effect) (got : ℕ) → effect_at c.program (top_here c f fs h.stands) ≡ e
      → Allowed c.program h.stands.method is h.stands.insn h.stands.target (row_of c.program h.stands.method h.stands.insn h.stands.target) f.stack e → FoundHolds c.program is h.stands.target e got
      → IfOnwards c is (f ∷ fs) (done c.program (top_here c f fs h.stands) e got)
  does_it (Goes to made) got e a found = runs_on to made a.0 a.1
  does_it (Throws x) got e a found = throws_it x a.1
  does_it (Reads v) got e a found = runs_on h.stands.insn.next got a.0 (a.3 got (found a.1 a.2))
  does_it (Writes v word) got e a found = runs_on h.stands.insn.next 0 a.0 a.4
  does_it (Measures x) got e a found = runs_on h.stands.insn.next (header_length got) a.0 (a.2 (header_length got) found)
  does_it (Raises x) got e a found = raises_it x got (thrown_of (header_class got)) refl found
  does_it (Prints n) got e a found = runs_on h.stands.insn.next 0 a.0 a.2
  does_it (Calls number) got e a found = subst (λ o. IfOnwards c is (f ∷ fs) (option_map (called c.program (top_here c f fs h.stands) number) o)) (sym a.2) (calls_it number a.0 a.1 a.2 e)
  does_it Returns got e a found = goes_out c marked is f fs h a b
  does_it (Enters m) got e a found = enters_it m 0 (a.1.1, a.1.2) a.0 a.2
  does_it (Leaves m) got e a found = record {
    holds = (goes c marked is f h h.stands.insn.next 0 a.0 a.2, b);
    keeps = keeps_top f (frame_on (row_of c.program h.stands.method h.stands.insn h.stands.target) h.stands.insn.next 0 f) fs;
    inside = λ all. all;
  }
  does_it w got e a found = tt
