-- Where a frame stands, and that it stands at the target of an edge when it has gone there.
use Rattle.std.proofs.Common.{◌≡◌, ℕ, List, ◌∷◌, Option, Some, ap, sym, subst, ◌∙◌, slice_get, map}
use Rattle.lists.proofs.ListLaws.{same_some}
use Rattle.jvm_types.specs.{Types.TypeFrame, Verifying.IsLaidOut, declared.{program.MethodInfo.MethodInfo, typing.Typing.Typing}}
use Rattle.laws_programs.proofs.{CodeOrder.{methods_laid_out, one_number, have_targets}, EdgeTargets.lands}
use Rattle.checked_program.specs.{CheckedLaws.{IsPlace, HoldsAtInstruction}, LockTags.{TagShape, IsShapeBelow}, MarkedProgram.{MarkedProgram, IsMarked, checked_part}, TaggedCode.row_of}
use Rattle.checked_program.{specs.Tagging.IsTagAssignment, proofs.CheckedPlaces.{checked_sound, places_hold_all}}
use Rattle.laws_sections.proofs.VisitsLocal.{landing}
use Rattle.machine_types.specs.{Frames.top_of, Standing.{Standing, tags_of}, Threads.Frame, Typed.{Classes, FrameHolds}}
use Rattle.laws_threads.proofs.{FramePlaces.{has_top, sound_at}, Lists.mapped_at, Values.{ValuesHold, values_below}}
use Rattle.jvm_types.specs.Verifying as types
use Rattle.checked_program.specs.Tagging as tagging
use Rattle.checked_program.specs.Visits as visits

-- ---- where frames stand

module _ (c : MarkedProgram) (marked : IsMarked c) where
  pub laid_at : (number : ℕ) (m : MethodInfo) → slice_get c.program.methods number ≡ Some m → IsLaidOut m
  laid_at number m e = methods_laid_out c.program number m marked.checked.program e

  -- what the frame stands at is found by its pc
  pub stand_top : (f : Frame) (fs : List Frame) (k : Standing c f) → top_of c.program (f ∷ fs) ≡ Some (record { frame = f; below = fs; method = k.method; insn = k.insn; target = k.target })
  stand_top f fs k = has_top c marked f fs k

  -- ---- what holds there

  pub place_of : (f : Frame) (k : Standing c f) → IsPlace (checked_part c) k.method k.frames k.number k.insn k.target k.types
  place_of f k =
      let t = checked_sound (checked_part c) f.method k.method marked.checked k.at.in_program in
      let there = mapped_at (λ (t : Typing). t.frames) c.typings f.method k.frames k.types_of_method in
      let same : there.0 ≡ t.0 = same_some (sym there.1 ∙ t.1) in
      record { method = f.method; typing = t.0; in_program = k.at.in_program; its_typing = t.1; its_frames = sym there.2 ∙ ap (λ (t : Typing). t.frames) same; in_code = k.at.in_code; its_target = k.at.names; has = k.types_are }

  pub rules_at : (f : Frame) (k : Standing c f) → HoldsAtInstruction c.program k.method k.frames k.insn k.target k.types
  rules_at f k = places_hold_all (checked_part c) k.method k.frames k.number k.insn k.target k.types marked.checked (place_of f k)

  pub tag_rules_at : (f : Frame) (k : Standing c f) → tagging.IsTagSound k.method k.insn (row_of c.program k.method k.insn k.target) k.at.frames k.tags
  tag_rules_at f k = sound_at c marked f k

  -- ---- where a frame lands

  module _ (is : Classes) where
    pub land : (g : Frame) (m : MethodInfo) (frames : List (Option TypeFrame)) (tags : List (Option TagShape)) (after : TypeFrame) (h : TagShape) → slice_get c.program.methods g.method ≡ Some m
        → slice_get (map (λ t. t.frames) c.typings) g.method ≡ Some frames → slice_get (tags_of c) g.method ≡ Some tags → types.FrameFits m.code frames after g.pc → visits.EdgeFits IsShapeBelow m.code tags h g.pc
        → ValuesHold m is after g → FrameHolds c is 0 g
    land g m frames tags after h e t u fits below values =
        let l = lands m frames after g.pc fits in
        let n = landing IsShapeBelow m.code tags h g.pc below in
        let same = one_number m n.number l.number n.insn l.insn (laid_at g.method m e) n.there l.there (n.starts ∙ sym l.starts) in
        let target = have_targets c.program g.method l.number m l.insn marked.checked.program e l.there in
        let v = values_below m is after l.frame g l.fits values in
        record {
          stands = record {
            number = l.number;
            method = m;
            insn = l.insn;
            target = target.0;
            tags = n.frame;
            at = record { in_program = e; in_code = l.there; names = target.1; frames = tags; of_method = u; frame = subst (λ i. slice_get tags i ≡ Some (Some n.frame)) same n.has };
            frames = frames;
            types_of_method = t;
            types = l.frame;
            types_are = l.has;
            pc_is = l.starts;
          };
          stack = v.stack;
          locals = v.locals;
          receiver = v.receiver;
        }
