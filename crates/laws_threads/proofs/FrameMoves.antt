-- Moves of the top frame within its method.
use Rattle.std.{proofs.Common.{◌≡◌, ℕ, Bool, true, false, ◌||◌, List, [], ◌∷◌, ◌++◌, map, drop, length, Option, None, refl, sym, ap, ◌∙◌, subst, arith, ◌==◌}, specs.List.AllByRecursion}
use Rattle.std.proofs.lemmas.Bool.Decides.{nat_tests}
use Rattle.jvm_types.specs.{CodeTable.{row, value_of, stack_after, locals_after, move_row}, Numbers.has_number, Verifying.edges, declared.{code.Op.Op, op_row.Given.{Given, TheVariants.Taken}}}
use Rattle.jvm_types.specs.declared.op_row.OpRow.{OpRow}
use Rattle.checked_program.specs.{LockTags.{TagShape, without, IsShapeBelow}, MarkedProgram.{MarkedProgram, IsMarked}, TaggedCode.row_of, Tagging.{moved_tags, tags_by_op, tags_after}, Visits.EdgeFits}
use Rattle.checked_program.specs.declared.tag.Tag.{Tag, TheVariants.{Untagged, At}}
use Rattle.machine_types.specs.{Frames.frame_on, Shown.{tag_value, HaveValues, own_entry, Shows}, Standing.{Standing, Whole, Lacking}, Threads.Frame}
use Rattle.laws_threads.{specs.MoveLaws.is_lock_op, proofs.{EffectsOfInsns.{is_dup, IsMaking}, FramePlaces.{of_standing, sound_at}, MarkedMethods.free_at}}
use Rattle.laws_threads.proofs.{ShownFrames.{landed, whole_landed, shows_landed}, TagValues.{weaker, dropped, row_stack, row_locals, chosen, rechosen, values_kept, chosen_there}, Tests.either_way}
use Rattle.jvm_types.specs.declared.code.Op.TheVariants as ops
use Rattle.jvm_types.specs.declared.stack_move.StackMove.TheVariants as moves

-- ---- edges

pub picked : (P : ℕ → Type 0) (to : ℕ) (tos : List ℕ) → AllByRecursion P tos → has_number tos to ≡ true → P to
picked P to [] h e = absurd (cc)
picked P to (x ∷ tos) h e = either_way (λ (b : Bool). (x == to) ≡ b → (b || has_number tos to) ≡ true → (has_number tos to ≡ true → P to) → P to) (x == to)
    (λ t e more. let same : x ≡ to = grind (arith, nat_tests, t) in subst P same h.0)
    (λ t e more. more e) refl e (λ e. picked P to tos h.1 e)

pub plain_after : (pc : ℕ) (r : OpRow) (op : Op) (ts : List Tag) (f : TagShape) → is_lock_op op ≡ false → is_dup op ≡ false → tags_by_op pc r op ts f ≡ moved_tags r f
plain_after pc r (ops.Stack moves.Dup) ts f e d = absurd (cc)
plain_after pc r ops.Monitorenter ts f e d = absurd (cc)
plain_after pc r ops.Monitorexit ts f e d = absurd (cc)
plain_after pc r op ts f e d = refl

dup_is : (op : Op) → is_dup op ≡ true → op ≡ ops.Stack moves.Dup
dup_is (ops.Stack moves.Dup) e = refl
dup_is op e = absurd (cc)

-- the tags behind a `dup` at a pc
abbrev marked_by : (pc : ℕ) → TagShape → List Tag → TagShape
marked_by pc was ts = record { stack = At pc ∷ At pc ∷ without pc ts; locals = without pc was.locals; held = was.held }

module _ (c : MarkedProgram) (is : IsMarked c) where
  abbrev pub the_row : (f : Frame) → Standing c f → OpRow
  the_row f k = row_of c.program k.method k.insn k.target

  pub edge_fits : (f : Frame) (k : Standing c f) (to : ℕ) → has_number (edges k.insn) to ≡ true → EdgeFits IsShapeBelow k.method.code k.at.frames (tags_after k.insn (the_row f k) k.tags) to
  edge_fits f k to edge = picked (EdgeFits IsShapeBelow k.method.code k.at.frames (tags_after k.insn (the_row f k) k.tags)) to (edges k.insn) (sound_at c is f k).edges_fit edge

  -- the frame shows what it did, with another choice of values
  again : (f : Frame) (own : List ℕ) (top : Shows c Whole f own) (brought : TagShape) (choice : ℕ → ℕ) (to : ℕ) (locals stack : List ℕ) → EdgeFits IsShapeBelow top.stands.method.code top.stands.at.frames brought to
      → HaveValues choice f.receiver brought.locals locals → HaveValues choice f.receiver brought.stack stack → map (tag_value choice f.receiver) brought.held ≡ map (tag_value top.choice f.receiver) top.stands.tags.held
      → Shows c Whole (record f { pc = to; locals = locals; stack = stack }) own
  again f own top brought choice to locals stack fits hl hs same =
      subst (λ (xs : List ℕ). Shows c Whole (record f { pc = to; locals = locals; stack = stack }) xs) (ap (λ (xs : List ℕ). xs ++ own_entry c.program top.stands.method f) same ∙ sym top.shown_are)
      (whole_landed c is (record f { pc = to; locals = locals; stack = stack }) top.stands.method top.stands.at.frames brought choice (landed c is f top.stands brought to locals stack fits) hl hs)

  -- by its row alone
  by_row : (f : Frame) (own : List ℕ) (top : Shows c Whole f own) (to made : ℕ) → EdgeFits IsShapeBelow top.stands.method.code top.stands.at.frames (moved_tags (the_row f top.stands) top.stands.tags) to
      → Shows c Whole (frame_on (the_row f top.stands) to made f) own
  by_row f own top to made fits =
      let r : OpRow = the_row f top.stands in
      again f own top (moved_tags r top.stands.tags) top.choice to (locals_after 0 (λ type. made) r.writes f.stack f.locals) (stack_after 0 (λ type. made) r f.stack f.locals) fits
      (row_locals top.choice f.receiver 0 (λ type. made) top.stands.tags.stack top.stands.tags.locals f.stack f.locals top.stack top.locals r.writes)
      (row_stack top.choice f.receiver 0 (λ type. made) top.stands.tags.stack top.stands.tags.locals f.stack f.locals top.stack top.locals r)
      refl

  -- a `dup` of an untagged value: its tag has that value from then on
  pub doubled : (f : Frame) (own : List ℕ) (top : Shows c Whole f own) (to made : ℕ) → top.stands.insn.op ≡ ops.Stack moves.Dup → has_number (edges top.stands.insn) to ≡ true → Shows c Whole (frame_on (the_row f top.stands) to made f) own
  doubled f own top to made dup edge =
      by_tags top.stands.tags.stack (subst (λ (op : Op). EdgeFits IsShapeBelow top.stands.method.code top.stands.at.frames (tags_by_op top.stands.insn.pc (the_row f top.stands) op top.stands.tags.stack top.stands.tags) to) dup (edge_fits f top.stands to edge)) top.stack
    where
      by_stack : (vs : List ℕ) (ts : List Tag) → f.stack ≡ vs → HaveValues top.choice f.receiver (Untagged ∷ ts) vs → EdgeFits IsShapeBelow top.stands.method.code top.stands.at.frames (marked_by top.stands.insn.pc top.stands.tags ts) to
          → Shows c Whole (frame_on (the_row f top.stands) to made f) own
      by_stack [] ts e h fits = absurd h
      by_stack (v ∷ vs) ts e h fits =
          subst (λ (x : OpRow). Shows c Whole (frame_on x to made f) own) (sym (ap (λ (op : Op). row c.program top.stands.method top.stands.insn.pc top.stands.target op) dup))
          (again f own top (marked_by top.stands.insn.pc top.stands.tags ts) (chosen top.stands.insn.pc v top.choice) to f.locals (stack_after 0 (λ type. made) (move_row moves.Dup) f.stack f.locals) fits
          (rechosen top.choice f.receiver top.stands.insn.pc v top.stands.tags.locals f.locals top.locals)
          (subst (λ (ws : List ℕ). HaveValues (chosen top.stands.insn.pc v top.choice) f.receiver (At top.stands.insn.pc ∷ At top.stands.insn.pc ∷ without top.stands.insn.pc ts) (stack_after 0 (λ type. made) (move_row moves.Dup) ws f.locals)) (sym e)
          (chosen_there top.choice f.receiver top.stands.insn.pc v, (chosen_there top.choice f.receiver top.stands.insn.pc v, rechosen top.choice f.receiver top.stands.insn.pc v ts vs h.1)))
          (values_kept top.choice f.receiver top.stands.insn.pc v top.stands.tags.held
          (free_at c.program top.stands.method top.stands.at.frames top.stands.frames (of_standing c is f top.stands) top.stands.number top.stands.insn top.stands.tags top.stands.at.in_code top.stands.at.frame)))

      by_tags : (ts : List Tag) → EdgeFits IsShapeBelow top.stands.method.code top.stands.at.frames (tags_by_op top.stands.insn.pc (the_row f top.stands) (ops.Stack moves.Dup) ts top.stands.tags) to → HaveValues top.choice f.receiver ts f.stack
          → Shows c Whole (frame_on (the_row f top.stands) to made f) own
      by_tags (Untagged ∷ ts) fits h = by_stack f.stack ts refl h fits
      by_tags ts fits h = by_row f own top to made fits

  pub moved : (f : Frame) (own : List ℕ) (top : Shows c Whole f own) (to made : ℕ) → is_lock_op top.stands.insn.op ≡ false → has_number (edges top.stands.insn) to ≡ true → Shows c Whole (frame_on (the_row f top.stands) to made f) own
  moved f own top to made free edge = either_way (λ (b : Bool). is_dup top.stands.insn.op ≡ b → Shows c Whole (frame_on (the_row f top.stands) to made f) own) (is_dup top.stands.insn.op)
      (λ e. doubled f own top to made (dup_is top.stands.insn.op e) edge)
      (λ e. by_row f own top to made (subst (λ (g : TagShape). EdgeFits IsShapeBelow top.stands.method.code top.stands.at.frames g to)
      (plain_after top.stands.insn.pc (the_row f top.stands) top.stands.insn.op top.stands.tags.stack top.stands.tags free e) (edge_fits f top.stands to edge))) refl

  -- ---- a new object

  pub making_frame : (f : Frame) (own : List ℕ) (top : Shows c Whole f own) → IsMaking c.program top.stands.method top.stands.insn top.stands.target
      → Shows c Lacking (record f { pc = top.stands.insn.next; stack = drop (length (the_row f top.stands).takes) f.stack }) own
  making_frame f own top a =
      let k = top.stands in
      let r : OpRow = the_row f k in
      let fits : EdgeFits IsShapeBelow k.method.code k.at.frames (moved_tags r k.tags) k.insn.next =
      subst (λ (g : TagShape). EdgeFits IsShapeBelow k.method.code k.at.frames g k.insn.next) (plain_after k.insn.pc r k.insn.op k.tags.stack k.tags a.move.0 a.no_dup) (edge_fits f k k.insn.next a.move.1) in
      let tagged : (moved_tags r k.tags).stack ≡ Untagged ∷ drop (length r.takes) k.tags.stack =
      ap (λ (gs : List Given). map (value_of Untagged (λ t. Untagged) k.tags.stack k.tags.locals) gs ++ drop (length r.takes) k.tags.stack) a.gives in
      let rest : HaveValues top.choice f.receiver (drop (length r.takes) k.tags.stack) (drop (length r.takes) f.stack) = dropped top.choice f.receiver (length r.takes) k.tags.stack f.stack top.stack in
      let locals : HaveValues top.choice f.receiver (moved_tags r k.tags).locals f.locals =
      subst (λ (o : Option (ℕ × Given)). HaveValues top.choice f.receiver (locals_after Untagged (λ t. Untagged) o k.tags.stack k.tags.locals) f.locals) (sym a.writes) top.locals in
      subst (λ (xs : List ℕ). Shows c Lacking (record f { pc = k.insn.next; stack = drop (length r.takes) f.stack }) xs) (sym top.shown_are)
      (shows_landed c is Lacking (record f { pc = k.insn.next; stack = drop (length r.takes) f.stack }) k.method k.at.frames (moved_tags r k.tags) top.choice (landed c is f k (moved_tags r k.tags) k.insn.next f.locals (drop (length r.takes) f.stack) fits) locals
      (λ ts below v. weaker top.choice f.receiver (moved_tags r k.tags).stack ts (v ∷ drop (length r.takes) f.stack) below
      (subst (λ (us : List Tag). HaveValues top.choice f.receiver us (v ∷ drop (length r.takes) f.stack)) (sym tagged) (tt, rest))))

-- when its reference is pushed
pub pushed_frame : (c : MarkedProgram) (f : Frame) (own : List ℕ) (v : ℕ) → Shows c Lacking f own → Shows c Whole (record f { stack = v ∷ f.stack }) own
pushed_frame c f own v s = record {
  stands = record { number = s.stands.number; method = s.stands.method; insn = s.stands.insn; target = s.stands.target; tags = s.stands.tags; at = s.stands.at; frames = s.stands.frames; types_of_method = s.stands.types_of_method; types = s.stands.types; types_are = s.stands.types_are; pc_is = s.stands.pc_is };
  made = s.made;
  choice = s.choice;
  locals = s.locals;
  stack = s.stack v;
  shown_are = s.shown_are;
}
