-- No instruction holds the tag that a `dup` there would make: every tag, wherever it is, is one whose `dup` does not hold it.
use Rattle.std.proofs.Common.{◌≡◌, ⊎_elim, ℕ, zero, suc, ◌-◌, true, false, List, [], ◌∷◌, map, drop, length, replicate, Option, Some, None, refl, sym, ap, ◌∙◌, subst, slice_get, slice_set, slice_index_or}
use Rattle.std.{specs.List.AllByRecursion, proofs.lemmas.Bool.{cases_Bool, cond_both, or_cases}}
use Rattle.jvm_types.specs.{CodeTable.{row, value_of, locals_after}, Members.is_static, Verifying.IsLaidOut, declared.{code.{Insn.Insn, Op.Op}, op_row.Given.Given}}
use Rattle.jvm_types.{specs.declared.{op_row.{Given.TheVariants.{Fresh, Taken, Local}, OpRow.OpRow}, program.MethodInfo.MethodInfo}, proofs.EachAfter.all_append}
use Rattle.laws_programs.proofs.CodeOrder.{one_number}
use Rattle.checked_program.specs.{LockTags.{TagShape, same_tag, without, entry_tags, IsTagBelow, AreTagsBelow, IsShapeBelow}, Tagging.{moved_tags, tags_by_op, tags_at_handler}, declared.tag.Tag.Tag}
use Rattle.checked_program.specs.declared.tag.Tag.TheVariants.{Untagged, This, At}
use Rattle.laws_sections.{specs.ReachLaws.{OwnTagIsFree, is_held}, proofs.{TagLocal.tag_local_law, TagOrder.one_tag, TagReach.{all_have, one_there}}}
use Rattle.jvm_types.specs.declared.code.Op.TheVariants as ops
use Rattle.jvm_types.specs.declared.stack_move.StackMove.TheVariants as moves

-- ---- where a tag is held

held_tag : (t : Tag) (ts : List Tag) (P : Tag → Type 0) → is_held t ts ≡ true → AllByRecursion P ts → P t
held_tag t [] P e h = absurd (cc)
held_tag t (u ∷ ts) P e h =
    ⊎_elim (λ (s : same_tag t u ≡ true). subst P (sym (one_tag t u s)) h.0) (λ (e : is_held t ts ≡ true). held_tag t ts P e h.1) (or_cases (same_tag t u) (is_held t ts) e)

-- ---- tags whose `dup` does not hold them

module _ (m : MethodInfo) (frames : List (Option TagShape)) (laid : IsLaidOut m) where
  -- no `dup` at the pc of the tag holds it
  abbrev IsFree : Tag → Type 0
  IsFree (At pc) = (j : ℕ) (insn : Insn) (g : TagShape) → slice_get m.code j ≡ Some insn → insn.pc ≡ pc → slice_get frames j ≡ Some (Some g) → is_held (At pc) g.held ≡ false
  IsFree t = Unit {0}

  record AreFree (f : TagShape) : Type 0 where
    stack : AllByRecursion IsFree f.stack
    locals : AllByRecursion IsFree f.locals
    held : AllByRecursion IsFree f.held

  own_free : (i : ℕ) (insn : Insn) (f : TagShape) → slice_get m.code i ≡ Some insn → slice_get frames i ≡ Some (Some f) → AreFree f → is_held (At insn.pc) f.held ≡ false
  own_free i insn f c e h = ⊎_elim (λ (t : is_held (At insn.pc) f.held ≡ true). held_tag (At insn.pc) f.held IsFree t h.held i insn f c refl e) (λ t. t) (cases_Bool (is_held (At insn.pc) f.held))

  -- along an edge
  free_tag : (t u : Tag) → IsTagBelow t u → IsFree t → IsFree u
  free_tag t (At pc) b h = subst IsFree b h
  free_tag t u b h = tt

  free_tags : (ts us : List Tag) → AreTagsBelow ts us → AllByRecursion IsFree ts → AllByRecursion IsFree us
  free_tags ts [] b h = tt
  free_tags [] (u ∷ us) b h = absurd b
  free_tags (t ∷ ts) (u ∷ us) b h = (free_tag t u b.0 h.0, free_tags ts us b.1 h.1)

  free_falls : (f g : TagShape) → IsShapeBelow f g → AreFree f → AreFree g
  free_falls f g b h = record { stack = free_tags f.stack g.stack b.stack h.stack; locals = free_tags f.locals g.locals b.locals h.locals; held = subst (AllByRecursion IsFree) b.held h.held }

  -- at the start
  untagged_free : (n : ℕ) → AllByRecursion IsFree (replicate n Untagged)
  untagged_free zero = tt
  untagged_free (suc n) = (tt, untagged_free n)

  entry_free : AreFree (entry_tags m)
  entry_free = record {
    stack = tt;
    locals = cond_both (is_static m.flags) (replicate m.max_locals Untagged) (This ∷ replicate (m.max_locals - 1) Untagged) (AllByRecursion IsFree)
        (λ e. untagged_free m.max_locals) (λ e. (tt, untagged_free (m.max_locals - 1)));
    held = tt;
  }

  -- after an instruction
  free_at : (i : ℕ) (ts : List Tag) → AllByRecursion IsFree ts → IsFree (slice_index_or ts i Untagged)
  free_at i [] h = tt
  free_at zero (t ∷ ts) h = h.0
  free_at (suc i) (t ∷ ts) h = free_at i ts h.1

  free_drop : (n : ℕ) (ts : List Tag) → AllByRecursion IsFree ts → AllByRecursion IsFree (drop n ts)
  free_drop zero ts h = h
  free_drop (suc n) [] h = tt
  free_drop (suc n) (t ∷ ts) h = free_drop n ts h.1

  free_set : (i : ℕ) (t : Tag) (ts : List Tag) → IsFree t → AllByRecursion IsFree ts → AllByRecursion IsFree (slice_set ts i t)
  free_set i t [] one h = tt
  free_set zero t (u ∷ ts) one h = (one, h.1)
  free_set (suc i) t (u ∷ ts) one h = (h.0, free_set i t ts one h.1)

  free_without : (pc : ℕ) (ts : List Tag) → AllByRecursion IsFree ts → AllByRecursion IsFree (without pc ts)
  free_without pc [] h = tt
  free_without pc (t ∷ ts) h = (cond_both (same_tag t (At pc)) Untagged t IsFree (λ e. tt) (λ e. h.0), free_without pc ts h.1)

  free_value : (f : TagShape) (given : Given) → AreFree f → IsFree (value_of Untagged (λ type. Untagged) f.stack f.locals given)
  free_value f (Fresh type) h = tt
  free_value f (Taken place) h = free_at place f.stack h.stack
  free_value f (Local i) h = free_at i f.locals h.locals

  free_values : (f : TagShape) (gives : List Given) → AreFree f → AllByRecursion IsFree (map (value_of Untagged (λ type. Untagged) f.stack f.locals) gives)
  free_values f [] h = tt
  free_values f (given ∷ gives) h = (free_value f given h, free_values f gives h)

  free_locals : (f : TagShape) (write : Option (ℕ × Given)) → AreFree f → AllByRecursion IsFree (locals_after Untagged (λ type. Untagged) write f.stack f.locals)
  free_locals f None h = h.locals
  free_locals f (Some write) h = free_set write.0 _ f.locals (free_value f write.1 h) h.locals

  free_moved : (r : OpRow) (f : TagShape) → AreFree f → AreFree (moved_tags r f)
  free_moved r f h = record {
    stack = all_append IsFree (map (value_of Untagged (λ type. Untagged) f.stack f.locals) r.gives) (drop (length r.takes) f.stack) (free_values f r.gives h) (free_drop (length r.takes) f.stack h.stack);
    locals = free_locals f r.writes h;
    held = h.held;
  }

  free_by_op : (pc : ℕ) (r : OpRow) (op : Op) (ts : List Tag) (f : TagShape) → ts ≡ f.stack → IsFree (At pc) → AreFree f → AreFree (tags_by_op pc r op ts f)
  free_by_op pc r (ops.Stack moves.Dup) (Untagged ∷ ts) f e own h =
      record { stack = (own, (own, free_without pc ts (subst (AllByRecursion IsFree) (sym e) h.stack).1)); locals = free_without pc f.locals h.locals; held = h.held }
  free_by_op pc r ops.Monitorenter (t ∷ ts) f e own h =
      let moved = free_moved r f h in
      record { stack = moved.stack; locals = moved.locals; held = ((subst (AllByRecursion IsFree) (sym e) h.stack).0, h.held) }
  free_by_op pc r ops.Monitorexit ts f e own h =
      let moved = free_moved r f h in
      record { stack = moved.stack; locals = moved.locals; held = free_drop 1 f.held h.held }
  free_by_op pc r op ts f e own h = free_moved r f h

  -- the tag that is made there is free, since the instruction does not hold it
  made_free : (i : ℕ) (insn : Insn) (f : TagShape) → slice_get m.code i ≡ Some insn → slice_get frames i ≡ Some (Some f) → AreFree f → IsFree (At insn.pc)
  made_free i insn f c e h j other g d at k =
      let same : j ≡ i = one_number m j i other insn laid d c at in
      subst (λ (x : TagShape). is_held (At insn.pc) x.held ≡ false) (one_there (slice_get frames i) f g e (ap (slice_get frames) (sym same) ∙ k)) (own_free i insn f c e h)

  free_caught : (f : TagShape) → AreFree f → AreFree (tags_at_handler f)
  free_caught f h = record { stack = (tt, tt); locals = h.locals; held = h.held }

pub own_tag_free : OwnTagIsFree
own_tag_free p m types frames laid typed tagged i insn f c e =
    own_free m frames laid i insn f c e
    (all_have p m frames laid (tag_local_law p m types frames laid typed tagged) (AreFree m frames laid) (entry_free m frames laid) (free_falls m frames laid) (free_caught m frames laid)
    (λ j other target g d t k h. free_by_op m frames laid other.pc (row p m other.pc target other.op) other.op g.stack g refl (made_free m frames laid j other g d k h) h)
    tagged i f e)
