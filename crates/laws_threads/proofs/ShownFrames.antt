-- What a frame shows where an edge leads to, and the top frame of a thread as the laws have it.
use Rattle.std.proofs.Common.{◌≡◌, ℕ, List, [], ◌∷◌, ◌++◌, map, Option, Some, sym, ap, ◌∙◌, subst}
use Rattle.lists.proofs.ListLaws.{same_some}
use Rattle.jvm_types.specs.declared.program.MethodInfo.{MethodInfo}
use Rattle.checked_program.specs.{CheckedLaws.HoldsAtInstruction, LockTags.{TagShape, AreTagsBelow, IsShapeBelow}, MarkedProgram.{MarkedProgram, IsMarked}, declared.tag.Tag.Tag}
use Rattle.machine_types.specs.{Frames.{Top, top_of, effect_at}, Shown.{tag_value, HaveValues, StackShows, shown_entries, Shows, ShowBelow, Show, own_entry}, Standing.{Standing, Operands, Whole}}
use Rattle.machine_types.specs.Threads.{Frame}
use Rattle.laws_threads.proofs.{EffectsOfInsns.{Fits, effect_fits}, FramePlaces.{of_standing, Lands, lands, top_by, has_top}, Landing.rules_at, MarkedMethods.are_made, TagValues.weaker}
use Rattle.checked_program.specs.Visits as visits

module _ (c : MarkedProgram) (is : IsMarked c) where
  -- ---- where an edge leads

  pub shows_landed : (operands : Operands) (f : Frame) (m : MethodInfo) (tags : List (Option TagShape)) (brought : TagShape) (choice : ℕ → ℕ) → Lands c is f m tags brought → HaveValues choice f.receiver brought.locals f.locals
      → ((ts : List Tag) → AreTagsBelow brought.stack ts → StackShows operands choice f.receiver ts f.stack) → Shows c operands f (shown_entries c.program choice m brought f)
  shows_landed operands f m tags brought choice l locals stack = record {
    stands = l.stands;
    made = are_made c.program l.stands.method l.stands.at.frames l.stands.frames (of_standing c is f l.stands) l.stands.tags;
    choice = choice;
    locals = weaker choice f.receiver brought.locals l.stands.tags.locals f.locals l.below.locals locals;
    stack = stack l.stands.tags.stack l.below.stack;
    shown_are = ap (λ (ts : List Tag). map (tag_value choice f.receiver) ts ++ own_entry c.program m f) l.below.held ∙ ap (λ (x : MethodInfo). map (tag_value choice f.receiver) l.stands.tags.held ++ own_entry c.program x f) (sym l.method);
  }

  -- the frame f goes on at a pc
  pub landed : (f : Frame) (k : Standing c f) (brought : TagShape) (to : ℕ) (locals stack : List ℕ) → visits.EdgeFits IsShapeBelow k.method.code k.at.frames brought to
      → Lands c is (record f { pc = to; locals = locals; stack = stack }) k.method k.at.frames brought
  landed f k brought to locals stack fits = lands c is (record f { pc = to; locals = locals; stack = stack }) k.method k.at.frames brought k.at.in_program k.at.of_method fits

  pub whole_landed : (f : Frame) (m : MethodInfo) (tags : List (Option TagShape)) (brought : TagShape) (choice : ℕ → ℕ) → Lands c is f m tags brought → HaveValues choice f.receiver brought.locals f.locals
      → HaveValues choice f.receiver brought.stack f.stack → Shows c Whole f (shown_entries c.program choice m brought f)
  whole_landed f m tags brought choice l locals stack = shows_landed Whole f m tags brought choice l locals (λ ts below. weaker choice f.receiver brought.stack ts f.stack below stack)

  -- ---- the top frame

  pub by_top : (operands : Operands) (P : List Frame → List ℕ → Top → Type 0)
      → ((f : Frame) (below : List Frame) (own rest : List ℕ) (top : Shows c operands f own) → ShowBelow c f.method below rest → P (f ∷ below) (own ++ rest) (top_by c is f below top.stands))
      → (fs : List Frame) (shown : List ℕ) (at : Top) → top_of c.program fs ≡ Some at → Show c operands fs shown → P fs shown at
  by_top operands P each [] shown at e s = absurd (cc)
  by_top operands P each (f ∷ below) shown at e s =
      let same : top_by c is f below s.3.stands ≡ at = same_some (sym (has_top c is f below s.3.stands) ∙ e) in
      subst (λ (x : Top). P (f ∷ below) shown x) same (subst (λ (xs : List ℕ). P (f ∷ below) xs (top_by c is f below s.3.stands)) (sym s.2) (each f below s.0 s.1 s.3 s.4))

  -- ---- the checks at an instruction

  pub holds_at : (f : Frame) (k : Standing c f) → HoldsAtInstruction c.program k.method k.frames k.insn k.target k.types
  holds_at f k = rules_at c is f k

  pub fits_at : (f : Frame) (below : List Frame) (k : Standing c f) → Fits c.program k.method k.insn k.target f.stack (effect_at c.program (top_by c is f below k))
  fits_at f below k = effect_fits c.program k.method k.insn.pc k.insn.next k.target k.insn.op f.locals f.stack (rules_at c is f k).has_row
