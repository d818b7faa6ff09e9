-- Where frames stand: one number for each, and the top of a thread is what stands there.
use Rattle.std.proofs.Common.{◌≡◌, ℕ, List, ◌∷◌, Some, sym, ap, ◌∙◌, subst, slice_get}
use Rattle.lists.proofs.ListLaws.{same_some}
use Rattle.jvm_types.specs.{Verifying.IsLaidOut, declared.program.MethodInfo.MethodInfo}
use Rattle.checked_program.specs.{MarkedProgram.{MarkedProgram, IsMarked}, SectionLaws.AreTagged, TaggedCode.IsAt}
use Rattle.machine_types.specs.{Frames.{Top, top_of}, Standing.{Standing, tags_of}, Threads.Frame}
use Rattle.laws_threads.proofs.{FramePlaces.{of_standing, one_standing, has_top}, MarkedMethods.method_at}

pub are_tagged : (c : MarkedProgram) → IsMarked c → AreTagged c.program (tags_of c)
are_tagged c marked mi m e = let a = method_at c marked mi m e in (a.tags, a.its_tags, a.holds.tagged)

abbrev pub top_here : (c : MarkedProgram) (f : Frame) (below : List Frame) → Standing c f → Top
top_here c f below k = record { frame = f; below = below; method = k.method; insn = k.insn; target = k.target }

module _ (c : MarkedProgram) (marked : IsMarked c) where
  pub laid : (f : Frame) (k : Standing c f) → IsLaidOut k.method
  laid f k = (of_standing c marked f k).laid

  pub one_method : (f g : Frame) (k : Standing c f) (l : Standing c g) → f.method ≡ g.method → k.method ≡ l.method
  one_method f g k l e = let same : Some k.method ≡ Some l.method = sym k.at.in_program ∙ ap (λ mi. slice_get c.program.methods mi) e ∙ l.at.in_program in cc

  -- one frame stands at one instruction
  pub one_tags : (f : Frame) (k l : Standing c f) → k.tags ≡ l.tags
  one_tags f k l = (one_standing c marked f k l).tags

  pub one_insn : (f : Frame) (k l : Standing c f) → k.insn ≡ l.insn
  one_insn f k l = (one_standing c marked f k l).insn

  -- the instruction of another standing, with the first one's method
  pub at_of : (f g : Frame) (k : Standing c f) (l : Standing c g) → f.method ≡ g.method → IsAt c.program (tags_of c) f.method l.number k.method l.insn l.target l.tags
  at_of f g k l e = subst (λ (m : MethodInfo). IsAt c.program (tags_of c) f.method l.number m l.insn l.target l.tags) (sym (one_method f g k l e)) (subst (λ mi. IsAt c.program (tags_of c) mi l.number l.method l.insn l.target l.tags) (sym e) l.at)

  -- so the top of a thread is what stands there
  pub top_at_standing : (f : Frame) (below : List Frame) (k : Standing c f) (at : Top) → top_of c.program (f ∷ below) ≡ Some at → top_here c f below k ≡ at
  top_at_standing f below k at e = same_some (sym (has_top c marked f below k) ∙ e)

-- a frame stands where one of the same method and pc does
abbrev pub stands_too : (c : MarkedProgram) (f : Frame) (stack locals : List ℕ) → Standing c f → Standing c (record f { stack = stack; locals = locals })
stands_too c f stack locals k = record { number = k.number; method = k.method; insn = k.insn; target = k.target; tags = k.tags; at = k.at; frames = k.frames; types_of_method = k.types_of_method; types = k.types; types_are = k.types_are; pc_is = k.pc_is }
