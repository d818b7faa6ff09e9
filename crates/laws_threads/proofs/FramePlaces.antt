-- Where frames stand: the instruction of a pc is one, and an edge leads to one.
use Rattle.std.proofs.{Common.{◌≡◌, ℕ, zero, suc, true, cond, List, [], ◌∷◌, Option, Some, None, refl, sym, ap, ◌∙◌, subst, arith, ◌==◌, slice_get, IsSomeAnd}, lemmas.Bool.Decides.nat_tests}
use Rattle.lists.proofs.ListLaws.{same_some}
use Rattle.jvm_types.specs.{Verifying.IsLaidOut, declared.{code.Insn.Insn, program.MethodInfo.MethodInfo}}
use Rattle.laws_programs.proofs.{CodeOrder.{one_number, have_targets}, EdgeTargets.not_first, LeastFrames.{AreDistinct, distinct}}
use Rattle.checked_program.specs.{LockTags.{TagShape, IsShapeBelow}, MarkedProgram.{MarkedProgram, IsMarked}, TaggedCode.row_of, Tagging.IsTagSound, Visits.{frame_at_pc, EdgeFits}}
use Rattle.laws_sections.proofs.TagReach.{tagged_typed}
use Rattle.machine_types.specs.{Frames.{Top, at_pc, top_at, top_in, top_of}, Standing.{Standing, tags_of}, Threads.Frame}
use Rattle.laws_threads.{specs.StandingLaws.{IsSame, OneStanding, IsTop, TopsStand, FramesHaveTops}, proofs.MarkedMethods.{IsMethod, MethodAt, method_at, method_with, found_at}}

-- ---- the item at a pc

pub at_number : {A : Type 0} (code : List Insn) (xs : List A) (i : ℕ) (insn : Insn) (x : A) → AreDistinct code → slice_get code i ≡ Some insn → slice_get xs i ≡ Some x → at_pc code xs insn.pc ≡ Some x
at_number [] xs i insn x d e f = absurd (cc)
at_number (y ∷ code) [] i insn x d e f = absurd (cc)
at_number {A} (y ∷ code) (z ∷ xs) zero insn x d e f =
    let same : y ≡ insn = same_some e in
    ap (λ t. cond t (Some z) (at_pc code xs insn.pc)) (subst (λ (w : Insn). (w.pc == insn.pc) ≡ true) (sym same) (grind (arith, nat_tests))) ∙ f
at_number (y ∷ code) (z ∷ xs) (suc i) insn x d e f =
    ap (λ t. cond t (Some z) (at_pc code xs insn.pc)) (not_first code i insn y.pc d.0 e) ∙ at_number code xs i insn x d.1 e f

module _ (c : MarkedProgram) (is : IsMarked c) where
  -- ---- a frame

  pub of_standing : (f : Frame) (k : Standing c f) → IsMethod c.program k.method k.at.frames k.frames
  of_standing f k = method_with c is f.method k.method k.at.frames k.frames k.at.in_program k.at.of_method k.types_of_method

  pub sound_at : (f : Frame) (k : Standing c f) → IsTagSound k.method k.insn (row_of c.program k.method k.insn k.target) k.at.frames k.tags
  sound_at f k = (of_standing f k).sound.sound k.number k.insn k.target k.tags k.at.in_code k.at.names k.at.frame

  same_number : (m n : MethodInfo) (i j : ℕ) (a b : Insn) → IsLaidOut m → m ≡ n → slice_get m.code i ≡ Some a → slice_get n.code j ≡ Some b → a.pc ≡ b.pc → i ≡ j
  same_number m n i j a b laid s e f q = one_number m i j a b laid e (subst (λ (x : MethodInfo). slice_get x.code j ≡ Some b) (sym s) f) q

  same_item : {A : Type 0} (xs ys : List A) (i j : ℕ) (x y : A) → xs ≡ ys → i ≡ j → slice_get xs i ≡ Some x → slice_get ys j ≡ Some y → x ≡ y
  same_item {A} xs ys i j x y s t e f = same_some (sym e ∙ ap (λ (zs : List A). slice_get zs i) s ∙ ap (slice_get ys) t ∙ f)

  pub one_standing : (f : Frame) (k other : Standing c f) → IsSame c f k other
  one_standing f k other =
      let method : k.method ≡ other.method = same_some (sym k.at.in_program ∙ other.at.in_program) in
      let all_tags : k.at.frames ≡ other.at.frames = same_some (sym k.at.of_method ∙ other.at.of_method) in
      let all_types : k.frames ≡ other.frames = same_some (sym k.types_of_method ∙ other.types_of_method) in
      let number : k.number ≡ other.number =
      same_number k.method other.method k.number other.number k.insn other.insn (of_standing f k).laid method k.at.in_code other.at.in_code (k.pc_is ∙ sym other.pc_is) in
      record {
        number = number;
        method = method;
        insn = same_item k.method.code other.method.code k.number other.number k.insn other.insn (ap (λ (m : MethodInfo). m.code) method) number k.at.in_code other.at.in_code;
        target = same_item k.method.targets other.method.targets k.number other.number k.target other.target (ap (λ (m : MethodInfo). m.targets) method) number k.at.names other.at.names;
        all_tags = all_tags;
        tags = same_some (same_item k.at.frames other.at.frames k.number other.number (Some k.tags) (Some other.tags) all_tags number k.at.frame other.at.frame);
        types = same_some (same_item k.frames other.frames k.number other.number (Some k.types) (Some other.types) all_types number k.types_are other.types_are);
      }

  -- ---- the top frame

  abbrev pub top_by : (f : Frame) (below : List Frame) → Standing c f → Top
  top_by f below k = record { frame = f; below = below; method = k.method; insn = k.insn; target = k.target }

  pub has_top : (f : Frame) (below : List Frame) (k : Standing c f) → top_of c.program (f ∷ below) ≡ Some (top_by f below k)
  has_top f below k =
      let laid = (of_standing f k).laid in
      let d : AreDistinct k.method.code = distinct 0 k.method.code laid.bytes laid.code.spelled in
      let insn : at_pc k.method.code k.method.code f.pc ≡ Some k.insn = subst (λ (n : ℕ). at_pc k.method.code k.method.code n ≡ Some k.insn) k.pc_is (at_number k.method.code k.method.code k.number k.insn k.insn d k.at.in_code k.at.in_code) in
      let target : at_pc k.method.code k.method.targets f.pc ≡ Some k.target = subst (λ (n : ℕ). at_pc k.method.code k.method.targets n ≡ Some k.target) k.pc_is (at_number k.method.code k.method.targets k.number k.insn k.target d k.at.in_code k.at.names) in
      ap (top_in f below) k.at.in_program ∙ ap (λ o. top_at f below k.method o (at_pc k.method.code k.method.targets f.pc)) insn ∙ ap (top_at f below k.method (Some k.insn)) target

  -- ---- where an edge leads

  -- a frame at the pc of an edge stands there, with weaker tags
  pub record Lands (f : Frame) (m : MethodInfo) (tags : List (Option TagShape)) (brought : TagShape) : Type 0 where
    pub stands : Standing c f
    pub method : stands.method ≡ m
    pub all_tags : stands.at.frames ≡ tags
    pub below : IsShapeBelow brought stands.tags

  pub lands : (f : Frame) (m : MethodInfo) (tags : List (Option TagShape)) (brought : TagShape) → slice_get c.program.methods f.method ≡ Some m → slice_get (tags_of c) f.method ≡ Some tags
      → EdgeFits IsShapeBelow m.code tags brought f.pc → Lands f m tags brought
  lands f m tags brought e t h = by_frame (frame_at_pc m.code tags f.pc) refl h
    where
      by_frame : (o : Option TagShape) → frame_at_pc m.code tags f.pc ≡ o → IsSomeAnd o (λ g. IsShapeBelow brought g) → Lands f m tags brought
      by_frame None q h = absurd h
      by_frame (Some g) q h =
          let a : MethodAt c is f.method m = method_at c is f.method m e in
          let of = method_with c is f.method m tags a.frames e t a.its_types in
          let l = found_at m.code tags f.pc g q in
          let target = have_targets c.program f.method l.0 m l.1 is.checked.program e l.2 in
          let types = tagged_typed c.program m a.frames tags of.laid of.typed of.tagged l.0 g l.4 in
          record {
            stands = record {
              number = l.0;
              method = m;
              insn = l.1;
              target = target.0;
              tags = g;
              at = record { in_program = e; in_code = l.2; names = target.1; frames = tags; of_method = t; frame = l.4 };
              frames = a.frames;
              types_of_method = a.its_types;
              types = types.0;
              types_are = types.1;
              pc_is = l.3;
            };
            method = refl;
            all_tags = refl;
            below = h;
          }

-- ---- the laws

pub one_standing_law : OneStanding
one_standing_law c f k other is = one_standing c is f k other

pub tops_stand_law : TopsStand
tops_stand_law c [] operands shown at is s e = absurd (cc)
tops_stand_law c (f ∷ below) operands shown at is s e =
    let k = s.3.stands in
    let same : top_by c is f below k ≡ at = same_some (sym (has_top c is f below k) ∙ e) in
    subst (λ (x : Top). (l : Standing c x.frame) × IsTop c (f ∷ below) x l) same (k, record { frames = refl; method = refl; insn = refl; target = refl })

pub have_tops_law : FramesHaveTops
have_tops_law c f below operands shown is s = (top_by c is f below s.3.stands, has_top c is f below s.3.stands)
