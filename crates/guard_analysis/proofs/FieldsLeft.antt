-- A field that no instruction of a method of its class puts out has a colouring there, and is read, written and used as an owned
-- one is.
use Rattle.std.proofs.Common.{◌≡◌, ℕ, zero, suc, Bool, true, false, not, ◌&&◌, List, [], ◌∷◌, length, length-set, replicate, Option, Some, None, refl, sym, ap, ◌∙◌, subst, arith, ◌==◌, slice_get, slice_index_or}
use Rattle.std.{specs.List.list_any, proofs.lemmas.{Bool.{and_from, and_parts, eqb-true, eq-eqb, true≢false, not-true}, List.length-replicate, Option.same_Some}}
use Rattle.jvm_types.specs.{CodeTable.{stack_after, locals_after}, Numbers.has_number, Verifying.edges, declared.{code.{Insn.Insn, Op.Op}, op_row.Given.Given}}
use Rattle.jvm_types.specs.declared.program.{MethodInfo.MethodInfo, Program.Program, Target.Target}
use Rattle.code_table.{specs.PcTables.{number_at, Ascend}, proofs.NumbersExact.number_here}
use Rattle.checked_program.specs.{Colours.{ColourShape, entry_colours, is_read_of, colours_after, colours_at_handler, is_coloured}, FrozenPlaces.{is_field_of, stands_guarded, PutsGuarded}, LockTags.{TagShape, is_this}}
use Rattle.checked_program.specs.OwnedArrays.{GetsOnThis, StoresNew, PutsNew, may_take_array, TakesArrayWell, StoresGuarded, UsesArrayWell}
use Rattle.checked_program.specs.{TaggedCode.{IsAt, row_of}, Tagging.catchers, declared.tag.Tag.TheVariants.Untagged}
use Rattle.checked_program.proofs.FrozenChecks.{that_is_this}
use Rattle.laws_sections.proofs.ArrayColours.{NoneOf, none_replicate, locals_kept}
use Rattle.guard_analysis.specs.{ColourVisits.{is_array_field, field_colours_after, of_field, colour_at}, FieldUses.writes_guarded, OwnedFound.{colours_of, is_making_array, is_newarray, stores_new, branched_flags}}
use Rattle.guard_analysis.specs.declared.colouring.Colour.{Colour, TheVariants.Plain}
use Rattle.guard_analysis.proofs.ColourChecks.{IsOther, coloured, deeper, BringsOther, UsesOther, InsnOther, uses, takes, onward, caught}
use Rattle.guard_analysis.proofs.{ColourFrames.{read_is, after_is}, ColourPaths.{first_stays, shape_of, has_colours}, FieldColours.{ColouredField, field_named}, FieldUseLaws.guard_parts, FlagsPut.is_set, MethodChecks.{branched_is, handler_there, OtherAt}}
use Rattle.jvm_types.specs.declared.code.Op.TheVariants as ops
use Rattle.jvm_types.specs.declared.program.Target.TheVariants as targets

-- ---- lists of flags

same_bit : (x y : Bool) → ((x ≡ y → ⊥) → ⊥) → x ≡ y
same_bit true false h = absurd (h (λ e. true≢false e))
same_bit false true h = absurd (h (λ e. true≢false (sym e)))
same_bit x y h = refl

-- whether they are equal is decided
same_flags : (xs ys : List Bool) → ((xs ≡ ys → ⊥) → ⊥) → xs ≡ ys
same_flags [] [] h = refl
same_flags (x ∷ xs) (y ∷ ys) h =
    let first : x ≡ y = same_bit x y (λ k. h (λ e. k (cc))) in
    let more : xs ≡ ys = same_flags xs ys (λ k. h (λ e. k (cc))) in
    cc
same_flags xs ys h = absurd (h (λ e. cc))

none_is_replicate : (n : ℕ) (xs : List Bool) → length xs ≡ n → NoneOf xs → xs ≡ replicate n false
none_is_replicate zero [] l none = refl
none_is_replicate (suc n) (x ∷ xs) l none =
    let first : x ≡ false = none 0 in
    let more : xs ≡ replicate n false = none_is_replicate n xs (omega (arith, l)) (λ k. none (suc k)) in
    cc
none_is_replicate n xs l none = absurd (omega (arith, l))

locals_long : (made : Bool) (w : Option (ℕ × Given)) (stack locals : List Bool) → length (locals_after false (λ type. made) w stack locals) ≡ length locals
locals_long made None stack locals = refl
locals_long made (Some write) stack locals = length-set locals write.0 _

-- ---- what is done with the field itself

module _ (p : Program) (m : MethodInfo) (branched : List Bool) (i fi : ℕ) (array : is_array_field p fi ≡ true) where
  both_fine : (other : ℕ) (t : Bool) → other ≡ fi → ((is_array_field p other && not t) ≡ true → ⊥) → t ≡ true
  both_fine other true e never = refl
  both_fine other false e never = absurd (never (and_from (is_array_field p other) (not false) (ap (is_array_field p) e ∙ array) refl))

  pub gets_on_this : (op : Op) (target : Target) (f : TagShape) (stack : List Colour) → (UsesOther p m branched i op target f stack fi → ⊥) → GetsOnThis fi op target f
  gets_on_this (ops.Getfield n) (targets.Field other) f stack never = λ (e : other ≡ fi).
      that_is_this (slice_index_or f.stack 0 Untagged) (both_fine other (is_this (slice_index_or f.stack 0 Untagged)) e (λ h. never (h, ap (λ (x : ℕ). Some x) e)))
  gets_on_this op target f stack never = tt

  put_fine : (n other : ℕ) (f : TagShape) (stack : List Colour) → (UsesOther p m branched i (ops.Putfield n) (targets.Field other) f stack fi → ⊥) → other ≡ fi → (writes_guarded m f ≡ true) × (stores_new m branched i ≡ true)
  put_fine n other f stack never e =
      let parts = and_parts (writes_guarded m f) (stores_new m branched i) (both_fine other (writes_guarded m f && stores_new m branched i) e (λ h. never (h, ap (λ (x : ℕ). Some x) e))) in
      (parts.0, parts.1)

  pub puts_guarded : (op : Op) (target : Target) (f : TagShape) (stack : List Colour) → (UsesOther p m branched i op target f stack fi → ⊥) → PutsGuarded fi m op target f
  puts_guarded (ops.Putfield n) (targets.Field other) f stack never = λ (e : other ≡ fi). guard_parts (slice_index_or f.stack 1 Untagged) (stands_guarded m f) (put_fine n other f stack never e).0
  puts_guarded op target f stack never = tt

  pub puts_new : (pc : ℕ) (op : Op) (target : Target) (f : TagShape) (stack : List Colour) → (stores_new m branched i ≡ true → StoresNew m i pc) → (UsesOther p m branched i op target f stack fi → ⊥) → PutsNew fi m i pc op target
  puts_new pc (ops.Putfield n) (targets.Field other) f stack is never = λ (e : other ≡ fi). is (put_fine n other f stack never e).1
  puts_new pc op target f stack is never = tt

  pub stores_guarded : (op : Op) (target : Target) (f : TagShape) (stack : List Colour) (locals : List Bool) → (UsesOther p m branched i op target f stack fi → ⊥) → StoresGuarded m op f (record { stack = of_field fi stack; locals = locals })
  stores_guarded ops.Iastore target f stack locals never = λ h. by_test (stands_guarded m f) refl h
    where
      by_test : (t : Bool) → stands_guarded m f ≡ t → is_coloured (of_field fi stack) 2 ≡ true → t ≡ true
      by_test true e h = refl
      by_test false e h = absurd (never (e, field_named fi (colour_at stack 2) (read_is p fi array 2 stack ∙ h)))
  stores_guarded op target f stack locals never = tt

-- ---- right after a `newarray`

newarray_there : (o : Option Insn) → is_newarray o ≡ true → (insn : Insn) × (o ≡ Some insn) × (insn.op ≡ ops.Newarray)
newarray_there None e = absurd (let bad : false ≡ true = e in cc)
newarray_there (Some insn) e = (insn, refl, by_op insn.op e)
  where
    by_op : (op : Op) → is_making_array op ≡ true → op ≡ ops.Newarray
    by_op ops.Newarray e = refl
    by_op op e = absurd (let bad : false ≡ true = e in cc)

pub stores_new_there : (m : MethodInfo) (i : ℕ) (insn : Insn) → Ascend 0 m.code → slice_get m.code i ≡ Some insn → stores_new m (branched_flags m) i ≡ true → StoresNew m i insn.pc
stores_new_there m zero insn up c e = absurd (let bad : false ≡ true = e in cc)
stores_new_there m (suc before) insn up c e =
    let parts = and_parts (is_newarray (slice_get m.code before)) (not (is_set (branched_flags m) (suc before))) e in
    let there = newarray_there (slice_get m.code before) parts.0 in
    record { before = before; follows = refl; insn = there.0; is = there.1; makes = there.2; only = sym (branched_is m (suc before) insn up c) ∙ not-true (is_set (branched_flags m) (suc before)) parts.1 }

-- ---- a method of the class

abbrev stack_or : Option (Option (List Colour)) → List Colour
stack_or (Some (Some cs)) = cs
stack_or o = []

module _ (place : ColouredField) (own : place.field.class ≡ place.m.class) (none : (i : ℕ) → OtherAt place.p place.m place.shapes (branched_flags place.m) place.frames place.fi i → ⊥) where
  open place use {method, p, tags, mi, m, is, up, frames, has, fi, there, array}

  -- an instruction with its colours
  record IsHere (i : ℕ) (insn : Insn) (target : Target) (f : TagShape) : Type 0 where
    pub stack : List Colour
    pub stands : slice_get frames i ≡ Some (Some stack)
    pub not_other : InsnOther p m (branched_flags m) frames i insn target (row_of p m insn target) f stack fi → ⊥

  here : (i : ℕ) (insn : Insn) (target : Target) (f : TagShape) → IsAt p tags mi i m insn target f → IsHere i insn target f
  here i insn target f at =
      let cs = has_colours method i insn target f at in
      record {
        stack = cs.0;
        stands = cs.1;
        not_other = λ x. none i (record { insn = insn; target = target; f = f; stack = cs.0; is_insn = at.in_code; is_target = at.names; is_frame = shape_of method i insn target f at; is_stack = cs.1; other = x });
      }

  abbrev stack_at : ℕ → List Colour
  stack_at i = stack_or (slice_get frames i)

  abbrev shape : ℕ → ColourShape
  shape i = record { stack = of_field fi (stack_at i); locals = replicate m.max_locals false }

  stack_is : (i : ℕ) (cs : List Colour) → slice_get frames i ≡ Some (Some cs) → stack_at i ≡ cs
  stack_is i cs e = ap stack_or e

  -- what an edge brings stands there
  same_there : (cs : List Colour) (pc j : ℕ) (ds : List Colour) → (BringsOther p m frames fi cs pc → ⊥) → number_at m.code pc ≡ Some j → slice_get frames j ≡ Some (Some ds) → of_field fi cs ≡ of_field fi ds
  same_there cs pc j ds never n e = by_length (length cs == length ds) refl
    where
      not_one : IsOther p m.class fi cs ds → ⊥
      not_one x = never (record { there = ds; is = ap (colours_of frames) n ∙ e; other = x })

      by_length : (t : Bool) → (length cs == length ds) ≡ t → of_field fi cs ≡ of_field fi ds
      by_length true l = same_flags (of_field fi cs) (of_field fi ds) (λ h. not_one (coloured (eqb-true (length cs) (length ds) l) h))
      by_length false l = absurd (not_one (deeper l (ap (is_field_of m.class) there ∙ eq-eqb place.field.class m.class own)))

  takes_well : (i : ℕ) (insn : Insn) (target : Target) (f : TagShape) → IsAt p tags mi i m insn target f → TakesArrayWell p m insn target (shape i)
  takes_well i insn target f at k low h = by_test (may_take_array insn.op k) refl
    where
      x : IsHere i insn target f
      x = here i insn target f at

      in_stack : is_coloured (of_field fi x.stack) k ≡ true
      in_stack = subst (λ (cs : List Colour). is_coloured (of_field fi cs) k ≡ true) (stack_is i x.stack x.stands) h

      by_test : (t : Bool) → may_take_array insn.op k ≡ t → t ≡ true
      by_test true e = refl
      by_test false e = absurd (x.not_other (takes (k, low, e, field_named fi (colour_at x.stack k) (read_is p fi array k x.stack ∙ in_stack))))

  stores_well : (i : ℕ) (insn : Insn) (target : Target) (f : TagShape) → IsAt p tags mi i m insn target f → StoresGuarded m insn.op f (shape i)
  stores_well i insn target f at =
      let x = here i insn target f at in
      subst (λ (cs : List Colour). StoresGuarded m insn.op f (record { stack = of_field fi cs; locals = replicate m.max_locals false })) (sym (stack_is i x.stack x.stands))
      (stores_guarded p m (branched_flags m) i fi array insn.op target f x.stack (replicate m.max_locals false) (λ u. x.not_other (uses u)))

  -- ---- the colouring

  at_entry : (insn : Insn) (target : Target) (f : TagShape) → IsAt p tags mi 0 m insn target f → shape 0 ≡ entry_colours m
  at_entry insn target f at =
      let x = here 0 insn target f at in
      let first : stack_at 0 ≡ [] = stack_is 0 x.stack x.stands ∙ first_stays p m frames insn x.stack has at.in_code x.stands in
      ap (λ (cs : List Colour). record { stack = of_field fi cs; locals = replicate m.max_locals false }) first

  goes_on : (i j : ℕ) (insn other : Insn) (target next : Target) (f g : TagShape) → IsAt p tags mi i m insn target f → IsAt p tags mi j m other next g → has_number (edges insn) other.pc ≡ true → shape j ≡ colours_after fi insn target (row_of p m insn target) (shape i)
  goes_on i j insn other target next f g from to goes = λ k. record { stack = on_stack k; locals = on_locals k }
    where
      none_local : NoneOf (replicate m.max_locals false)
      none_local = none_replicate m.max_locals

      x : IsHere i insn target f
      x = here i insn target f from

      y : IsHere j other next g
      y = here j other next g to

      on_stack : of_field fi (stack_at j) ≡ stack_after false (λ type. is_read_of fi insn.op target) (row_of p m insn target) (of_field fi (stack_at i)) (replicate m.max_locals false)
      on_stack =
          ap (of_field fi) (stack_is j y.stack y.stands)
          ∙ sym (same_there (field_colours_after p insn target (row_of p m insn target) x.stack) other.pc j y.stack (λ b. x.not_other (onward (other.pc, goes, b))) (number_here 0 m.code j other up to.in_code) y.stands)
          ∙ after_is p fi array (replicate m.max_locals false) none_local insn target (row_of p m insn target) x.stack
          ∙ ap (λ (cs : List Colour). stack_after false (λ type. is_read_of fi insn.op target) (row_of p m insn target) (of_field fi cs) (replicate m.max_locals false)) (sym (stack_is i x.stack x.stands))

      after : List Bool
      after = locals_after false (λ type. is_read_of fi insn.op target) (row_of p m insn target).writes (of_field fi (stack_at i)) (replicate m.max_locals false)

      on_locals : replicate m.max_locals false ≡ after
      on_locals = sym (none_is_replicate m.max_locals after (locals_long (is_read_of fi insn.op target) (row_of p m insn target).writes (of_field fi (stack_at i)) (replicate m.max_locals false) ∙ length-replicate m.max_locals false)
          (locals_kept p m insn.pc fi target insn.op (shape i) none_local (takes_well i insn target f from)))

  is_caught : (i j : ℕ) (insn other : Insn) (target next : Target) (f g : TagShape) → IsAt p tags mi i m insn target f → IsAt p tags mi j m other next g → list_any (λ handler. handler.handler == other.pc) (catchers m insn) ≡ true
      → shape j ≡ colours_at_handler (shape i)
  is_caught i j insn other target next f g from to goes =
      let x = here i insn target f from in
      let y = here j other next g to in
      let there : of_field fi (Plain ∷ []) ≡ of_field fi y.stack =
      same_there (Plain ∷ []) other.pc j y.stack (λ b. x.not_other (caught (other.pc, handler_there (catchers m insn) other.pc ∙ goes, b))) (number_here 0 m.code j other up to.in_code) y.stands in
      ap (λ (stack : List Bool). record { stack = stack; locals = replicate m.max_locals false }) (ap (of_field fi) (stack_is j y.stack y.stands) ∙ sym there)

  -- an instruction of the method is one of this
  on_method : (i : ℕ) (insn : Insn) (target : Target) (f : TagShape) (n : MethodInfo) (P : MethodInfo → Type 0) → IsAt p tags mi i n insn target f → (IsAt p tags mi i m insn target f → P m) → P n
  on_method i insn target f n P at h =
      let same : n ≡ m = same_Some n m (sym at.in_program ∙ is) in
      subst P (sym same) (h (subst (λ (k : MethodInfo). IsAt p tags mi i k insn target f) same at))

  pub used_well : UsesArrayWell p tags mi fi
  used_well = record {
    colours = shape;
    colouring = record {
      entry = λ n insn target f at. on_method 0 insn target f n (λ k. shape 0 ≡ entry_colours k) at (λ a. at_entry insn target f a);
      onward = λ i j n insn other target next f g from to goes. on_method i insn target f n (λ k. IsAt p tags mi j k other next g → shape j ≡ colours_after fi insn target (row_of p k insn target) (shape i)) from
          (λ a b. goes_on i j insn other target next f g a b goes) to;
      caught = λ i j n insn other target next f g from to. on_method i insn target f n (λ k. IsAt p tags mi j k other next g → list_any (λ handler. handler.handler == other.pc) (catchers k insn) ≡ true → shape j ≡ colours_at_handler (shape i)) from
          (λ a b goes. is_caught i j insn other target next f g a b goes) to;
    };
    taken = λ i n insn target f at. on_method i insn target f n (λ k. TakesArrayWell p k insn target (shape i)) at (takes_well i insn target f);
    stored = λ i n insn target f at. on_method i insn target f n (λ k. StoresGuarded k insn.op f (shape i)) at (stores_well i insn target f);
  }

  -- ---- reads and writes of the field

  pub reads_well : (i : ℕ) (insn : Insn) (target : Target) (f : TagShape) → IsAt p tags mi i m insn target f → GetsOnThis fi insn.op target f
  reads_well i insn target f at = let x = here i insn target f at in gets_on_this p m (branched_flags m) i fi array insn.op target f x.stack (λ u. x.not_other (uses u))

  pub writes_well : (i : ℕ) (insn : Insn) (target : Target) (f : TagShape) → IsAt p tags mi i m insn target f → PutsGuarded fi m insn.op target f
  writes_well i insn target f at = let x = here i insn target f at in puts_guarded p m (branched_flags m) i fi array insn.op target f x.stack (λ u. x.not_other (uses u))

  pub writes_new : (i : ℕ) (insn : Insn) (target : Target) (f : TagShape) → IsAt p tags mi i m insn target f → PutsNew fi m i insn.pc insn.op target
  writes_new i insn target f at =
      let x = here i insn target f at in
      puts_new p m (branched_flags m) i fi array insn.pc insn.op target f x.stack (stores_new_there m i insn up at.in_code) (λ u. x.not_other (uses u))
