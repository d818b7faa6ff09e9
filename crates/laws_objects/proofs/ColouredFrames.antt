-- A frame whose stack has a colour is of a method of the field's class, and no static one.
use Rattle.std.proofs.Common.{◌≡◌, ℕ, zero, suc, ◌-◌, Bool, true, false, List, [], ◌∷◌, ◌++◌, map, drop, length, replicate, Option, Some, None, refl, sym, ap, ◌∙◌, subst, ◌==◌, if◌then◌else◌, slice_get, slice_set, slice_index_or}
use Rattle.std.proofs.lemmas.Bool.{eqb-true, false_from_ne_true, true_from_ne_false}
use Rattle.lists.proofs.ListLaws.{same_some}
use Rattle.jvm_types.specs.{CodeTable.{row, value_of, locals_after}, Members.is_static, declared.{code.{Insn.Insn, Op.Op}, op_row.{Given.{Given, TheVariants.{Fresh, Taken, Local}}, OpRow.OpRow}}}
use Rattle.jvm_types.specs.declared.program.{MethodInfo.MethodInfo, Target.{Target, TheVariants.Field}}
use Rattle.checked_program.specs.{Colours.{ColourShape, is_read_of, IsColouring}, LockTags.{TagShape, is_this, same_tag, without, IsTagBelow, AreTagsBelow}, MarkedProgram.{MarkedProgram, IsMarked}}
use Rattle.checked_program.specs.{OwnedArrays.{GetsOnThis, IsOwnedArrayField, IsOwnedAt}, TaggedCode.{IsAt, row_of}, Tagging.{moved_tags, tags_by_op}, declared.tag.Tag.{Tag, TheVariants.{Untagged, This, At}}}
use Rattle.laws_sections.proofs.{ArrayColours.{HasNoColour, each_reached, none_after, none_at_all, none_first, none_replicate, other_class}, TagReach.all_have}
use Rattle.machine_types.specs.{Standing.{Standing, tags_of}, Threads.Frame}
use Rattle.laws_threads.proofs.{MarkedMethods.method_at, Standings.are_tagged}
use Rattle.jvm_types.specs.declared.code.Op.TheVariants as ops
use Rattle.jvm_types.specs.declared.stack_move.StackMove.TheVariants as moves

-- ---- tags without `this`

abbrev Hides : List Tag → Type 0
Hides ts = (k : ℕ) → is_this (slice_index_or ts k Untagged) ≡ false

hides_none : Hides []
hides_none k = refl

hides_first : (t : Tag) (ts : List Tag) → is_this t ≡ false → Hides ts → Hides (t ∷ ts)
hides_first t ts e h zero = e
hides_first t ts e h (suc k) = h k

hides_untagged : (n : ℕ) → Hides (replicate n Untagged)
hides_untagged (suc n) (suc k) = hides_untagged n k
hides_untagged n k = refl

hides_set : (ts : List Tag) (i : ℕ) (t : Tag) → is_this t ≡ false → Hides ts
    → Hides (slice_set ts i t)
hides_set (u ∷ ts) zero t e h zero = e
hides_set (u ∷ ts) (suc i) t e h (suc k) = hides_set ts i t e (λ j. h (suc j)) k
hides_set ts i t e h k = h k

hides_both : (ts us : List Tag) → Hides ts → Hides us → Hides (ts ++ us)
hides_both [] us a b k = b k
hides_both (t ∷ ts) us a b zero = a zero
hides_both (t ∷ ts) us a b (suc k) = hides_both ts us (λ j. a (suc j)) b k

hides_drop : (n : ℕ) (ts : List Tag) → Hides ts → Hides (drop n ts)
hides_drop (suc n) (t ∷ ts) h k = hides_drop n ts (λ j. h (suc j)) k
hides_drop n ts h k = h k

hides_without : (pc : ℕ) (ts : List Tag) → Hides ts → Hides (without pc ts)
hides_without pc [] h k = refl
hides_without pc (t ∷ ts) h zero = elim (same_tag t (At pc)) as (λ (b : Bool). is_this (if b then Untagged else t) ≡ false) [ true ↦ refl | false ↦ h zero ]
hides_without pc (t ∷ ts) h (suc k) = hides_without pc ts (λ j. h (suc j)) k

hides_value : (stack locals : List Tag) (given : Given) → Hides stack → Hides locals
    → is_this (value_of Untagged (λ type. Untagged) stack locals given) ≡ false
hides_value stack locals (Fresh type) a b = refl
hides_value stack locals (Taken place) a b = a place
hides_value stack locals (Local i) a b = b i

hides_values : (stack locals : List Tag) (gives : List Given) → Hides stack → Hides locals
    → Hides (map (value_of Untagged (λ type. Untagged) stack locals) gives)
hides_values stack locals [] a b k = refl
hides_values stack locals (given ∷ gives) a b zero = hides_value stack locals given a b
hides_values stack locals (given ∷ gives) a b (suc k) = hides_values stack locals gives a b k

-- ---- along edges

tag_falls : (t u : Tag) → IsTagBelow t u → is_this t ≡ false → is_this u ≡ false
tag_falls t This b h = ap is_this (sym b) ∙ h
tag_falls t u b h = refl

tags_fall : (ts us : List Tag) → AreTagsBelow ts us → Hides ts → Hides us
tags_fall ts [] b h k = refl
tags_fall [] (u ∷ us) b h k = absurd b
tags_fall (t ∷ ts) (u ∷ us) b h zero = tag_falls t u b.0 (h zero)
tags_fall (t ∷ ts) (u ∷ us) b h (suc k) = tags_fall ts us b.1 (λ j. h (suc j)) k

record HasNoThis (f : TagShape) : Type 0 where
  stack : Hides f.stack
  locals : Hides f.locals

moved_hides : (r : OpRow) (f : TagShape) → HasNoThis f → HasNoThis (moved_tags r f)
moved_hides r f h = record {
  stack = hides_both (map (value_of Untagged (λ type. Untagged) f.stack f.locals) r.gives)
      (drop (length r.takes) f.stack) (hides_values f.stack f.locals r.gives h.stack h.locals)
      (hides_drop (length r.takes) f.stack h.stack);
  locals = by_write r.writes;
}
  where
    by_write : (w : Option (ℕ × Given)) → Hides
        (locals_after Untagged (λ type. Untagged) w f.stack f.locals)
    by_write None = h.locals
    by_write (Some write) = hides_set f.locals write.0 _
        (hides_value f.stack f.locals write.1 h.stack h.locals) h.locals

op_hides : (pc : ℕ) (r : OpRow) (op : Op) (ts : List Tag) (f : TagShape) → ts ≡ f.stack
    → HasNoThis f → HasNoThis (tags_by_op pc r op ts f)
op_hides pc r (ops.Stack moves.Dup) (Untagged ∷ ts) f e h =
    let all : Hides (Untagged ∷ ts) = subst Hides (sym e) h.stack in
    let rest : Hides (without pc ts) = hides_without pc ts (λ k. all (suc k)) in
    record {
      stack = hides_first (At pc) (At pc ∷ without pc ts) refl
          (hides_first (At pc) (without pc ts) refl rest);
      locals =
          hides_without pc f.locals h.locals;
    }
op_hides pc r ops.Monitorenter (t ∷ ts) f e h = let k =
    moved_hides r f h in record { stack = k.stack; locals = k.locals }
op_hides pc r ops.Monitorexit ts f e h = let k =
    moved_hides r f h in record { stack = k.stack; locals = k.locals }
op_hides pc r op ts f e h = moved_hides r f h

module _ (c : MarkedProgram) (marked : IsMarked c) (mi : ℕ) where
  -- no value of a static method has the tag
  static_hides : (i : ℕ) (m : MethodInfo) (insn : Insn) (target : Target) (f : TagShape)
      → IsAt c.program (tags_of c) mi i m insn target f → is_static m.flags ≡ true → HasNoThis f
  static_hides i m insn target f at static =
      let a = method_at c marked mi m at.in_program in
      let same : at.frames ≡ a.tags = same_some (sym at.of_method ∙ a.its_tags) in
      all_have c.program m a.tags a.holds.laid a.holds.sound HasNoThis
      (record {
        stack = hides_none;
        locals = subst (λ (b : Bool). Hides (if b then replicate m.max_locals Untagged else This ∷ replicate (m.max_locals - 1) Untagged)) (sym static) (hides_untagged m.max_locals);
      })
      (λ f g b h. record { stack = tags_fall f.stack g.stack b.stack h.stack; locals = tags_fall f.locals g.locals b.locals h.locals })
      (λ f h. record { stack = hides_first Untagged [] refl hides_none; locals = h.locals })
      (λ j other next g d t k h. op_hides other.pc
      (row c.program m other.pc next other.op) other.op g.stack g refl h)
      a.holds.tagged i f (ap (λ (fs : List (Option TagShape)). slice_get fs i) (sym same)
      ∙ at.frame)

  -- ---- so nothing of it has a colour

  module _ (fi : ℕ) (o : IsOwnedArrayField c.program (tags_of c) fi) where
    reads_this : (op : Op) (target : Target) (f : TagShape) → is_read_of fi op target ≡ true
        → GetsOnThis fi op target f → slice_index_or f.stack 0 Untagged ≡ This
    reads_this (ops.Getfield n) (Field other) f e g = g (eqb-true other fi e)
    reads_this op target f e g = absurd (let bad : false ≡ true = e in cc)

    static_none : (colours : ℕ → ColourShape) → IsColouring c.program (tags_of c) mi fi colours
        → (i : ℕ) (m : MethodInfo) (insn : Insn) (target : Target) (f : TagShape)
        → IsAt c.program (tags_of c) mi i m insn target f → is_static m.flags ≡ true
        → HasNoColour (colours i)
    static_none colours k i m insn target f at =
        each_reached c.program (tags_of c) marked.checked.program (are_tagged c marked) mi
        (λ i m insn target f. is_static m.flags ≡ true → HasNoColour (colours i))
        (λ m insn target f at static. subst HasNoColour (sym (k.entry m insn target f at))
        (record { stack = none_at_all; locals = none_replicate m.max_locals }))
        (λ i j m insn other target next f g from to goes h static. subst HasNoColour
        (sym (k.onward i j m insn other target next f g from to goes))
        (none_after fi insn target (row_of c.program m insn target) (colours i)
        (false_from_ne_true (is_read_of fi insn.op target) (λ e.
        let on : slice_index_or f.stack 0 Untagged ≡ This = reads_this insn.op target f e (o.read mi i m insn target f from) in
        let bad : true ≡ false = sym (ap is_this on) ∙ (static_hides i m insn target f from static).stack 0 in
        cc)) (h static)))
        (λ i j m insn other target next f g from to goes h static. subst HasNoColour
        (sym (k.caught i j m insn other target next f g from to goes))
        (record { stack = none_first [] none_at_all; locals = (h static).locals }))
        i m insn target f at

-- ---- a frame with a coloured slot

module _ (c : MarkedProgram) (marked : IsMarked c) (f : Frame) (k : Standing c f) (place : ℕ)
    (o : IsOwnedAt c.program (tags_of c) f.method k.number place) where
  no_colour : HasNoColour (o.colours k.number) → ⊥
  no_colour none = let bad : true ≡ false = sym o.coloured ∙ none.stack place in cc

  pub coloured_instance : is_static k.method.flags ≡ false
  coloured_instance = false_from_ne_true (is_static k.method.flags)
      (λ e. no_colour (static_none c marked f.method o.fi o.owned o.colours o.colouring k.number k.method k.insn k.target k.tags k.at e))

  pub coloured_class : k.method.class ≡ o.owned.field.class
  coloured_class = eqb-true k.method.class o.owned.field.class (true_from_ne_false (k.method.class == o.owned.field.class)
      (λ e. no_colour (other_class c.program (tags_of c) marked.checked.program (are_tagged c marked) o.fi o.owned f.method o.colours
      o.colouring k.method k.at.in_program e k.number k.insn k.target k.tags k.at)))
