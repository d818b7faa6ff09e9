-- Once the `<init>` of a frozen class has thrown, nobody has its object.
use Rattle.std.proofs.Common.{◌≡◌, ℕ, inl, inr, Bool, true, false, List, [], ◌∷◌, ◌++◌, length, Option, Some, None, sym, ap, ◌∙◌, subst, arith, nat_lt, if◌then◌else◌, slice_get}
use Rattle.lists.proofs.ListLaws.{same_some}
use Rattle.jvm_types.specs.declared.{outcome.{End.TheVariants.Steps, Thrown.Thrown}, program.MethodInfo.MethodInfo}
use Rattle.checked_program.specs.MarkedProgram.{MarkedProgram}
use Rattle.machine_types.specs.{Accesses.found_by, Construction.Throws as Loose, Core.{Core, Happening, Of, event, event_of, all_happened, core}, Events.{wanted, moved}, Frames.returned}
use Rattle.machine_types.{specs.{Going.{root_over, goes_on}, Onward.back, PlainMemory.Object, Threads.{Frame, Thread}, Worlds.{Begun, builder}, declared.phase.Phase.Phase}, proofs.Lists.got_when_set}
use Rattle.laws_threads.specs.StateLaws.{counted_after}
use Rattle.laws_states.specs.{ChangeLaws.run_objects, HeapFacts.objects_after}
use Rattle.laws_objects.{specs.UnfinishedObjects.{IsInitOn, ThrowsOut, NobodyHas, ThrownInitsLeaveNoUse}, proofs.Buildings.{Building, in_world, FramesIn, ThreadIn, building_in}}
use Rattle.laws_objects.proofs.BuiltRuns.{Run, state_of, TellsClass, tells_class, AreBuiltLaws, BuiltThere, LostThere, BuiltIn, reached, all_lost, lost_behind, core_more, objects_more}
use Rattle.laws_objects.proofs.{FrameChanges.{frame_at, counted_below, top_here, none_begun, Stay, IsUnwound, FramesGo, frames_go}, LosingInits.init_begun, WorldChanges.none_some}
use Rattle.machine_types.specs.declared.phase.Phase.TheVariants as phases

-- ---- the thread behind its event

pub moved_is : (c : MarkedProgram) (s : Core) (t : ℕ) (x y : Thread) → slice_get s.threads t ≡ Some x → slice_get (event c s t).threads t ≡ Some y → moved c x x.phase (found_by s.words (wanted c x x.phase)) ≡ y
moved_is c s t x y here behind =
    let there : slice_get (event_of c s t (Some x)).threads t ≡ Some y = subst (λ (o : Option Thread). slice_get (event_of c s t o).threads t ≡ Some y) here behind in
    same_some (sym (got_when_set s.threads t x (moved c x x.phase (found_by s.words (wanted c x x.phase))) here) ∙ there)

-- one that returns throws nothing
back_throws_not : (s : Thread) (fs : List Frame) (x : ℕ) (class : Thrown) → (goes_on s (back fs)).phase ≡ phases.Throw x class → ⊥
back_throws_not s [] x class = elim s.roots as (λ (roots : List ℕ). root_over roots ≡ phases.Throw x class → ⊥) [ [] ↦ λ e. cc | number ∷ roots ↦ λ e. cc ]
back_throws_not s (f ∷ fs) x class = elim (nat_lt s.counts.instructions s.cfg.steps) as (λ (b : Bool). (if b then phases.Run else phases.Ending Steps) ≡ phases.Throw x class → ⊥) [ true ↦ λ e. cc | false ↦ λ e. cc ]

-- ---- it has been left by an exception

module _ (c : MarkedProgram) (was : Phase) (v : ℕ) (s : Core) (t : ℕ) (k : ThrowsOut c v s t) where
  -- so it went
  pub record GoesAway : Type 0 where
    pub unwound : IsUnwound was k.thread k.later
    pub ended : k.later.attempt ≡ None
    pub init : IsInitOn c v unwound.frame

  top_of_both : (f : Frame) (below : List Frame) → k.thread.frames ≡ f ∷ below → k.frame ≡ f
  top_of_both f below e = let same : k.frame ∷ k.below ≡ f ∷ below = sym k.frames ∙ e in cc

  pub goes_away : FramesGo c was k.thread k.later → GoesAway
  goes_away (inl stays) =  -- frames are more than those below their top
      let there = subst (Stay k.thread.frames) k.gone stays.frames (length k.below) k.frame
      (subst (λ (gs : List Frame). frame_at (length k.below) gs ≡ Some k.frame) (sym k.frames) (top_here k.frame k.below)) in
      absurd (let few = counted_below (length k.below) k.below there.0 there.1 in omega (arith, few))
  goes_away (inr (inl r)) = absurd (back_throws_not r.from (returned c.program r.at) k.thrown k.class (ap (λ (z : Thread). z.phase) (sym r.is) ∙ k.throws))
  goes_away (inr (inr (inl u))) = record {
    unwound = u;
    ended = none_begun k.thread.attempt k.later.attempt k.thread.frames k.later.frames u.tries k.outside (omega (arith, ap length k.gone, ap length k.frames));
    init = subst (IsInitOn c v) (top_of_both u.frame u.below u.frames) k.init;
  }
  goes_away (inr (inr (inr failed))) = absurd (none_some k.thread.attempt failed.attempt k.outside failed.tried)

-- ---- every run

module _ (run : Run) (hs : List Happening) (t v : ℕ) (es : List Happening) (k : ThrowsOut run.c v (core run.c run.cfg hs) t) (tells : run.frozen k.init.method.class ≡ true) where
  open run use {c, cfg, frozen}

  state : BuiltIn c cfg frozen (run_objects c cfg hs) (core c cfg hs)
  state = reached run hs

  stood : BuiltThere c cfg frozen (run_objects c cfg hs) state.was (core c cfg hs)
  stood = state.there

  abbrev building : Building
  building = building_in (state_of run (run_objects c cfg hs) state.was (core c cfg hs) stood) t

  keeps : ThreadIn building (state.was t) k.thread
  keeps = stood.built.each t k.thread k.there

  is_later : moved c k.thread k.thread.phase (found_by (core c cfg hs).words (wanted c k.thread k.thread.phase)) ≡ k.later
  is_later = moved_is c (core c cfg hs) t k.thread k.later k.there k.behind

  away : GoesAway c (state.was t) v (core c cfg hs) t k
  away = goes_away c (state.was t) v (core c cfg hs) t k (subst (FramesGo c (state.was t) k.thread) is_later
      (frames_go c (state.was t) k.thread (found_by (core c cfg hs).words (wanted c k.thread k.thread.phase)) (stood.facts.structure t k.thread k.there)))

  young : frozen away.init.method.class ≡ true
  young =
      let same : k.init.method ≡ away.init.method = same_some (sym k.init.there ∙ ap (λ (f : Frame). slice_get c.program.methods f.method) (top_of_both c (state.was t) v (core c cfg hs) t k away.unwound.frame away.unwound.below away.unwound.frames) ∙ away.init.there) in
      ap (λ (m : MethodInfo). frozen m.class) (sym same) ∙ tells

  begun : stood.world v ≡ Some (builder t (length away.unwound.below) Begun)
  begun =
      let seen : Building = in_world building keeps.now in
      let frames : FramesIn seen Loose (away.unwound.frame ∷ away.unwound.below) = subst (FramesIn seen Loose) away.unwound.frames (away.unwound.carries.frames seen keeps.frames) in
      sym (keeps.now_is.same k.outside v) ∙ init_begun seen (length away.unwound.below) v Loose away.unwound.frame frames.0 away.init young

  nobody : NobodyHas c v (run_objects c cfg (hs ++ Of t ∷ es)) (core c cfg (hs ++ Of t ∷ es))
  nobody =
      subst (λ (r : Core). NobodyHas c v (run_objects c cfg (hs ++ Of t ∷ es)) r) (sym (core_more c cfg hs (Of t ∷ es)))
      (subst (λ (os : List Object). NobodyHas c v os (all_happened c (core c cfg hs) (Of t ∷ es))) (sym (objects_more c cfg hs (Of t ∷ es)))
      (all_lost run es (objects_after c.program (core c cfg hs) t (run_objects c cfg hs)) (counted_after c state.was (core c cfg hs) t) (event c (core c cfg hs) t) v
      (subst (λ (y : Thread). (u : IsUnwound (state.was t) k.thread y) → y.attempt ≡ None → (i : IsInitOn c v u.frame) → frozen i.method.class ≡ true → stood.world v ≡ Some (builder t (length u.below) Begun)
      → LostThere c cfg frozen v (objects_after c.program (core c cfg hs) t (run_objects c cfg hs)) (counted_after c state.was (core c cfg hs) t) (event c (core c cfg hs) t)) is_later
      (lost_behind run (run_objects c cfg hs) state.was (core c cfg hs) stood t v k.thread k.there) away.unwound away.ended away.init young begun)))

pub thrown_leave_no_use : AreBuiltLaws → ThrownInitsLeaveNoUse
thrown_leave_no_use laws c cfg hs t v es marked width settings k =
    let test : TellsClass c k.init.method.class = tells_class laws.frozen_test c marked k.init.method.class k.init.frozen in
    nobody (record { laws = laws; c = c; cfg = cfg; frozen = test.frozen; are = test.are; marked = marked; width = width; settings = settings }) hs t v es k test.tells
