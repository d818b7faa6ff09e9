-- What a method of a marked program has: its types and its tags, under their local laws.
use Rattle.std.{proofs.Common.{◌≡◌, ℕ, suc, Bool, false, cond, List, [], ◌∷◌, map, Option, Some, None, refl, sym, ap, ◌∙◌, subst, arith, ◌==◌, slice_get}, specs.List.AllByRecursion}
use Rattle.std.proofs.lemmas.Bool.{or_parts, Decides.nat_tests}
use Rattle.lists.proofs.ListLaws.{same_some}
use Rattle.jvm_types.specs.{Types.TypeFrame, Verifying.{IsLaidOut, HasTyping}, declared.{code.Insn.Insn, program.{MethodInfo.MethodInfo, Program.Program}, typing.Typing.Typing}}
use Rattle.checked_program.specs.{LockTags.{TagShape, same_tag}, MarkedProgram.{MarkedProgram, IsMarked, checked_part}, Tagging.{HasTagging, IsTaggingOf, IsTagAssignment}}
use Rattle.checked_program.{specs.{Visits.frame_at_pc, declared.tag.{Tag.{Tag, TheVariants.{Untagged, This, At}}, Tags.Tags}}, proofs.CheckedPlaces.checked_sound}
use Rattle.laws_sections.{specs.ReachLaws.is_held, proofs.{TagFree.own_tag_free, TagLocal.tag_local_law}}
use Rattle.machine_types.specs.{Shown.{IsMade, AreMade, held_tags}, Standing.tags_of}
use Rattle.laws_threads.proofs.{Lists.{zip_at, zip_has, map_at}, Tests.either_way}
use Rattle.jvm_types.specs.Verifying as types

-- ---- a method

pub record IsMethod (p : Program) (m : MethodInfo) (tags : List (Option TagShape)) (frames : List (Option TypeFrame)) : Type 0 where
  pub laid : IsLaidOut m
  pub typed : HasTyping p m frames
  pub types : types.IsAssignment p m frames
  pub tagged : HasTagging p m tags
  pub sound : IsTagAssignment p m tags

module _ (c : MarkedProgram) (is : IsMarked c) where
  -- each method, at its number
  pub record MethodAt (mi : ℕ) (m : MethodInfo) : Type 0 where
    pub tags : List (Option TagShape)
    pub frames : List (Option TypeFrame)
    pub its_tags : slice_get (tags_of c) mi ≡ Some tags
    pub its_types : slice_get (map (λ t. t.frames) c.typings) mi ≡ Some frames
    pub holds : IsMethod c.program m tags frames

  pub method_at : (mi : ℕ) (m : MethodInfo) → slice_get c.program.methods mi ≡ Some m → MethodAt mi m
  method_at mi m e =
      let s = checked_sound (checked_part c) mi m is.checked e in
      let t = zip_has (IsTaggingOf c.program) c.program.methods c.tags mi m is.tags e in
      let tagged = zip_at (IsTaggingOf c.program) c.program.methods c.tags mi m t.0 is.tags e t.1 in
      record {
        tags = t.0.frames;
        frames = s.0.frames;
        its_tags = map_at (λ (x : Tags). x.frames) c.tags mi t.0 t.1;
        its_types = map_at (λ (x : Typing). x.frames) c.typings mi s.0 s.1;
        holds = record { laid = s.2.laid; typed = s.2.typed; types = s.2.sound; tagged = tagged; sound = tag_local_law c.program m s.0.frames t.0.frames s.2.laid s.2.typed tagged };
      }

  -- with the lists of tags and of types that are found there
  pub method_with : (mi : ℕ) (m : MethodInfo) (tags : List (Option TagShape)) (frames : List (Option TypeFrame)) → slice_get c.program.methods mi ≡ Some m
      → slice_get (tags_of c) mi ≡ Some tags → slice_get (map (λ t. t.frames) c.typings) mi ≡ Some frames → IsMethod c.program m tags frames
  method_with mi m tags frames e t f =
      let a = method_at mi m e in
      subst (λ (x : List (Option TagShape)). IsMethod c.program m x frames) (same_some (sym a.its_tags ∙ t))
      (subst (λ (x : List (Option TypeFrame)). IsMethod c.program m a.tags x) (same_some (sym a.its_types ∙ f)) a.holds)

-- ---- instructions by their pcs

-- the instruction of a frame at a pc
pub found_at : {A : Type 0} (code : List Insn) (frames : List (Option A)) (pc : ℕ) (f : A) → frame_at_pc code frames pc ≡ Some f
    → (i : ℕ) × (insn : Insn) × (slice_get code i ≡ Some insn) × (insn.pc ≡ pc) × (slice_get frames i ≡ Some (Some f))
found_at [] frames pc f e = absurd (cc)
found_at (insn ∷ code) [] pc f e = absurd (cc)
found_at {A} (insn ∷ code) (frame ∷ frames) pc f e = either_way (λ (t : Bool). (insn.pc == pc) ≡ t → cond t frame (frame_at_pc code frames pc) ≡ Some f
    → (i : ℕ) × (x : Insn) × (slice_get (insn ∷ code) i ≡ Some x) × (x.pc ≡ pc) × (slice_get (frame ∷ frames) i ≡ Some (Some f))) (insn.pc == pc)
    (λ h e. (0, insn, refl, grind (arith, nat_tests, h), ap (λ (o : Option A). Some o) e))
    (λ h e. let l = found_at code frames pc f e in (suc l.0, l.1, l.2, l.3, l.4)) refl e

-- ---- tags

-- no tag is held where its `dup` stands
free_in : (pc : ℕ) (ts : List Tag) → is_held (At pc) ts ≡ false → AllByRecursion (λ t. same_tag (At pc) t ≡ false) ts
free_in pc [] e = tt
free_in pc (t ∷ ts) e = let parts = or_parts (same_tag (At pc) t) (is_held (At pc) ts) e in (parts.0, free_in pc ts parts.1)

module _ (p : Program) (m : MethodInfo) (tags : List (Option TagShape)) (frames : List (Option TypeFrame)) (is : IsMethod p m tags frames) where
  pub free_at : (i : ℕ) (insn : Insn) (f : TagShape) → slice_get m.code i ≡ Some insn → slice_get tags i ≡ Some (Some f) → AllByRecursion (λ t. same_tag (At insn.pc) t ≡ false) f.held
  free_at i insn f e t = free_in insn.pc f.held (own_tag_free p m frames tags is.laid is.typed is.tagged i insn f e t)

  is_made : (t : Tag) → IsMade m.code tags t
  is_made Untagged = tt
  is_made This = tt
  is_made (At pc) = by_frame (frame_at_pc m.code tags pc) refl
    where
      by_frame : (o : Option TagShape) → frame_at_pc m.code tags pc ≡ o → AllByRecursion (λ t. same_tag (At pc) t ≡ false) (held_tags o)
      by_frame None e = tt
      by_frame (Some f) e = let l = found_at m.code tags pc f e in subst (λ (n : ℕ). AllByRecursion (λ t. same_tag (At n) t ≡ false) f.held) l.3 (free_at l.0 l.1 f l.2 l.4)

  all_made : (ts : List Tag) → AllByRecursion (IsMade m.code tags) ts
  all_made [] = tt
  all_made (t ∷ ts) = (is_made t, all_made ts)

  pub are_made : (f : TagShape) → AreMade m.code tags f
  are_made f = record { stack = all_made f.stack; locals = all_made f.locals; held = all_made f.held }
