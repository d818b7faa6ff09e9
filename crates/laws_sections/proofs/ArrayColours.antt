-- A colouring is determined from the entry; and what is coloured for an owned array field stays on the stack.
use Rattle.std.proofs.Common.{◌≡◌, ◌<◌, ℕ, zero, suc, length, Bool, true, false, List, [], ◌∷◌, ◌++◌, map, drop, replicate, Option, Some, None, ◌≢◌, ◌⊎◌, inl, inr, ⊎_elim, refl, sym, ap, ◌∙◌, subst, arith, ◌==◌, not, ◌&&◌, IsSomeAnd, slice_get, slice_set}
use Rattle.std.{specs.List.list_any, proofs.lemmas.{Bool.{cases_eq, eqb-true, eq-eqb}, Option.{same_Some, slice_get_within}}}
use Rattle.jvm_types.specs.CodeTable.{row, constant_row, get_row, get_static_row, put_row, put_static_row, virtual_row, special_row, static_row, value_of, stack_after, locals_after}
use Rattle.jvm_types.specs.{Members.{MethodSite, is_private, is_final, is_hidden, is_other_sort, initializes, first_rule, field_rule}, Numbers.has_number, ProgramInvariant.{IsProgram, IsFieldTarget, IsTargetOf, site_in}, Verifying.edges}
use Rattle.jvm_types.specs.declared.{code.{Insn.Insn, Op.Op}, op_row.{Given.{Given, TheVariants.{Fresh, Taken, Local}}, OpRow.OpRow}, program.{FieldInfo.FieldInfo, MethodInfo.MethodInfo}}
use Rattle.jvm_types.specs.declared.{program.{Program.Program, Target.Target}, refusal.LRule.TheVariants.{L2, L3, L7}}
use Rattle.checked_program.specs.{Colours.{ColourShape, is_read_of, colours_after, colours_at_handler, is_coloured, IsColouring}, FrozenPlaces.stands_guarded, LockTags.TagShape}
use Rattle.checked_program.specs.OwnedArrays.{may_take_array, TakesArrayWell, StoresGuarded, UsesArrayWell, IsOwnedArrayField, IsOwnedAt, owns_arrays, AreUses}
use Rattle.checked_program.specs.{SectionLaws.{AreTagged, OneColouring, KeepsArray, ArrayLaw, ElementWriteLaw, OwnedIsDecided}, TaggedCode.{Tagged, IsAt, IsInstructionReached, row_of}, Tagging.catchers}
use Rattle.checked_program.{specs.declared.section.Uses.Uses, proofs.NamedFields.target_named}
use Rattle.laws_sections.proofs.{FieldWrites.{in_init, or_three}, TaggedPaths.{IsEdgeTo, all_reach}}
use Rattle.jvm_types.specs.declared.code.Op.TheVariants as ops
use Rattle.jvm_types.specs.declared.program.Target.TheVariants as targets

-- ---- the instructions of a method, by its number

module _ (p : Program) (tags : Tagged) (program : IsProgram p) (all : AreTagged p tags) (mi : ℕ) where
  -- of a reached instruction
  abbrev pub AtEach : ((i : ℕ) (m : MethodInfo) (insn : Insn) (target : Target) (f : TagShape) → Type 0) → ℕ → Type 0
  AtEach Q i = (m : MethodInfo) (insn : Insn) (target : Target) (f : TagShape) → IsAt p tags mi i m insn target f → Q i m insn target f

  module _ (Q : (i : ℕ) (m : MethodInfo) (insn : Insn) (target : Target) (f : TagShape) → Type 0) (start : AtEach Q 0)
      (onward : (i j : ℕ) (m : MethodInfo) (insn other : Insn) (target next : Target) (f g : TagShape) → IsAt p tags mi i m insn target f → IsAt p tags mi j m other next g → has_number (edges insn) other.pc ≡ true
      → Q i m insn target f → Q j m other next g)
      (caught : (i j : ℕ) (m : MethodInfo) (insn other : Insn) (target next : Target) (f g : TagShape) → IsAt p tags mi i m insn target f → IsAt p tags mi j m other next g → list_any (λ handler. handler.handler == other.pc) (catchers m insn) ≡ true
      → Q i m insn target f → Q j m other next g) where
    -- by paths from the start
    pub each_reached : (i : ℕ) → AtEach Q i
    each_reached i m insn target f at =
        let t = all mi m at.in_program in
        let from : (i j : ℕ) (a b : Insn) (x : Target) (u v : TagShape) → IsEdgeTo p m t.0 t.2 i j a b x u v → IsAt p tags mi i m a x u =
        λ i j a b x u v e. record { in_program = at.in_program; in_code = e.code; names = e.names; frames = t.0; of_method = t.1; frame = e.frame } in
        let moved : (i j : ℕ) (a b : Insn) (x : Target) (u v : TagShape) (e : IsEdgeTo p m t.0 t.2 i j a b x u v)
        → ((y : Target) → IsAt p tags mi j m b y v → Q i m a x u → Q j m b y v) → AtEach Q i → AtEach Q j =
        λ i j a b x u v e step before n o y w to.
        let is_m : n ≡ m = same_Some n m (sym to.in_program ∙ at.in_program) in
        let is_insn : o ≡ b = same_Some o b (sym to.in_code ∙ ap (λ (k : MethodInfo). slice_get k.code j) is_m ∙ e.to_code) in
        let is_frame : w ≡ v = same_frame w v (sym to.frame ∙ ap (λ (l : List (Option TagShape)). slice_get l j) (same_Some to.frames t.0 (sym to.of_method ∙ t.1)) ∙ e.to_frame) in
        let shown : IsAt p tags mi j m b y v = record {
          in_program = at.in_program;
          in_code = e.to_code;
          names = ap (λ (k : MethodInfo). slice_get k.targets j) (sym is_m) ∙ to.names;
          frames = t.0;
          of_method = t.1;
          frame = e.to_frame;
        } in
        subst (λ (k : MethodInfo). Q j k o y w) (sym is_m) (subst (λ (k : Insn). Q j m k y w) (sym is_insn) (subst (λ (k : TagShape). Q j m b y k) (sym is_frame) (step y shown (before m a x u (from i j a b x u v e))))) in
        all_reach p m t.0 t.2 (AtEach Q) start
        (λ i j a b x u v e goes before. moved i j a b x u v e (λ y to q. onward i j m a b x y u v (from i j a b x u v e) to goes q) before)
        (λ i j a b x u v e goes before. moved i j a b x u v e (λ y to q. caught i j m a b x y u v (from i j a b x u v e) to goes q) before)
        i f (ap (λ (l : List (Option TagShape)). slice_get l i) (sym (same_Some at.frames t.0 (sym at.of_method ∙ t.1))) ∙ at.frame) m insn target f at
      where
        same_frame : (u v : TagShape) → Some (Some u) ≡ Some (Some v) → u ≡ v
        same_frame u v e = cc

pub one_colouring : OneColouring
one_colouring p tags mi fi i m insn target f colours others program all a b at = each_reached p tags program all mi (λ i m insn target f. colours i ≡ others i)
    (λ m insn target f at. a.entry m insn target f at ∙ sym (b.entry m insn target f at))
    (λ i j m insn other target next f g from to goes e.
    a.onward i j m insn other target next f g from to goes ∙ ap (colours_after fi insn target (row_of p m insn target)) e ∙ sym (b.onward i j m insn other target next f g from to goes))
    (λ i j m insn other target next f g from to goes e. a.caught i j m insn other target next f g from to goes ∙ ap colours_at_handler e ∙ sym (b.caught i j m insn other target next f g from to goes))
    i m insn target f at

-- ---- places without a colour

abbrev pub NoneOf : List Bool → Type 0
NoneOf xs = (k : ℕ) → is_coloured xs k ≡ false

pub none_at_all : NoneOf []
none_at_all k = refl

pub none_first : (xs : List Bool) → NoneOf xs → NoneOf (false ∷ xs)
none_first xs h zero = refl
none_first xs h (suc k) = h k

pub none_replicate : (n : ℕ) → NoneOf (replicate n false)
none_replicate (suc n) (suc k) = none_replicate n k
none_replicate n _ = refl

pub none_set : (xs : List Bool) (i : ℕ) (b : Bool) → b ≡ false → NoneOf xs → NoneOf (slice_set xs i b)
none_set (x ∷ xs) zero b e h zero = e
none_set (x ∷ xs) (suc i) b e h zero = h zero
none_set (x ∷ xs) (suc i) b e h (suc k) = none_set xs i b e (λ j. h (suc j)) k
none_set xs i b e h x = h x

pub none_append : (xs ys : List Bool) → NoneOf xs → NoneOf ys → NoneOf (xs ++ ys)
none_append [] ys a b k = b k
none_append (x ∷ xs) ys a b zero = a zero
none_append (x ∷ xs) ys a b (suc k) = none_append xs ys (λ j. a (suc j)) b k

pub none_drop : (n : ℕ) (xs : List Bool) → NoneOf xs → NoneOf (drop n xs)
none_drop (suc n) (x ∷ xs) h k = none_drop n xs (λ j. h (suc j)) k
none_drop n xs h k = h k

none_value : (stack locals : List Bool) (given : Given) → NoneOf stack → NoneOf locals → value_of false (λ type. false) stack locals given ≡ false
none_value stack locals (Fresh type) a b = refl
none_value stack locals (Taken place) a b = a place
none_value stack locals (Local i) a b = b i

none_values : (stack locals : List Bool) (gives : List Given) → NoneOf stack → NoneOf locals → NoneOf (map (value_of false (λ type. false) stack locals) gives)
none_values stack locals [] a b k = refl
none_values stack locals (given ∷ gives) a b zero = none_value stack locals given a b
none_values stack locals (given ∷ gives) a b (suc k) = none_values stack locals gives a b k

pub record HasNoColour (f : ColourShape) : Type 0 where
  pub stack : NoneOf f.stack
  pub locals : NoneOf f.locals

pub none_after : (fi : ℕ) (insn : Insn) (target : Target) (r : OpRow) (f : ColourShape) → is_read_of fi insn.op target ≡ false → HasNoColour f → HasNoColour (colours_after fi insn target r f)
none_after fi insn target r f e h = record {
  stack = subst (λ (made : Bool). NoneOf (stack_after false (λ type. made) r f.stack f.locals)) (sym e)
      (none_append (map (value_of false (λ type. false) f.stack f.locals) r.gives) (drop (length r.takes) f.stack) (none_values f.stack f.locals r.gives h.stack h.locals) (none_drop (length r.takes) f.stack h.stack));
  locals = subst (λ (made : Bool). NoneOf (locals_after false (λ type. made) r.writes f.stack f.locals)) (sym e) (by_writes r.writes);
}
  where
    by_writes : (w : Option (ℕ × Given)) → NoneOf (locals_after false (λ type. false) w f.stack f.locals)
    by_writes None = h.locals
    by_writes (Some write) = none_set f.locals write.0 _ (none_value f.stack f.locals write.1 h.stack h.locals) h.locals

-- ---- only a method of the class reads a private field

no_rule : (a b c : Bool) → first_rule ((a, L2) ∷ (b, L3) ∷ (c, L7) ∷ []) ≡ None → b ≡ false
no_rule false false c e = refl
no_rule a b c e = absurd (cc)

own_field : (p : Program) (fi : ℕ) (field : FieldInfo) (site : MethodSite) (writes : Bool) → slice_get p.fields fi ≡ Some field → is_private field.flags ≡ true → IsFieldTarget p site false writes (targets.Field fi) → field.class ≡ site.class
own_field p fi field site writes there private named =
    let rule : field_rule false writes site field.class field.flags ≡ None = subst (λ (o : Option FieldInfo). IsSomeAnd o (λ f. field_rule false writes site f.class f.flags ≡ None)) there named in
    eqb-true field.class site.class (in_init (is_private field.flags) (field.class == site.class)
    (no_rule (is_other_sort false field.flags) (is_hidden site field.class field.flags) (writes && is_final field.flags && not (initializes site false field.class)) rule) private)

pub reads_own : (p : Program) (fi : ℕ) (field : FieldInfo) (m : MethodInfo) (op : Op) (target : Target) → slice_get p.fields fi ≡ Some field → is_private field.flags ≡ true → IsTargetOf p (site_in m) op target → is_read_of fi op target ≡ true → field.class ≡ m.class
reads_own p fi field m (ops.Getfield i) (targets.Field other) there private named e =
    own_field p fi field (site_in m) false there private (subst (λ (n : ℕ). IsFieldTarget p (site_in m) false false (targets.Field n)) (eqb-true other fi e) named)
reads_own p fi field m op target there private named e = absurd (let bad : false ≡ true = e in cc)

-- nor writes it
pub writes_own : (p : Program) (fi : ℕ) (field : FieldInfo) (m : MethodInfo) (i other : ℕ) → slice_get p.fields fi ≡ Some field → is_private field.flags ≡ true → IsTargetOf p (site_in m) (ops.Putfield i) (targets.Field other) → other ≡ fi → field.class ≡ m.class
writes_own p fi field m i other there private named same = own_field p fi field (site_in m) true there private (subst (λ (n : ℕ). IsFieldTarget p (site_in m) false true (targets.Field n)) same named)

-- ---- an instruction writes a colour to no local, if it takes no coloured value but as an array

-- a row by what is found, which writes nothing whether it is found or not
none_written : {A : Type 0} (row_by : Option A → OpRow) → (row_by None).writes ≡ None → ((x : A) → (row_by (Some x)).writes ≡ None) → (o : Option A) → (row_by o).writes ≡ None
none_written row_by e each None = e
none_written row_by e each (Some x) = each x

no_constant_write : (p : Program) (pc : ℕ) (target : Target) (op : Op) → (constant_row p pc target op).writes ≡ None
no_constant_write p pc (targets.Field fi) (ops.Getstatic i) = none_written get_static_row refl (λ field. refl) (slice_get p.fields fi)
no_constant_write p pc (targets.Field fi) (ops.Putstatic i) = none_written put_static_row refl (λ field. refl) (slice_get p.fields fi)
no_constant_write p pc (targets.Field fi) (ops.Getfield i) = none_written get_row refl (λ field. refl) (slice_get p.fields fi)
no_constant_write p pc (targets.Field fi) (ops.Putfield i) = none_written put_row refl (λ field. refl) (slice_get p.fields fi)
no_constant_write p pc (targets.Method u) (ops.Invokevirtual i) = none_written virtual_row refl (λ m. refl) (slice_get p.methods u)
no_constant_write p pc (targets.Method u) (ops.Invokespecial i) = none_written special_row refl (λ m. refl) (slice_get p.methods u)
no_constant_write p pc (targets.Method u) (ops.Invokestatic i) = none_written static_row refl (λ m. refl) (slice_get p.methods u)
no_constant_write p pc target op = refl

-- such an instruction
abbrev TakesWell : OpRow → Op → ColourShape → Type 0
TakesWell r op f = (k : ℕ) → k < length r.takes → is_coloured f.stack k ≡ true → may_take_array op k ≡ true

not_taken : (b : Bool) → (b ≡ true → false ≡ true) → b ≡ false
not_taken true h = absurd (let bad : false ≡ true = h refl in cc)
not_taken false h = refl

unwritten : (w : Option (ℕ × Given)) (made : Bool) (f : ColourShape) → w ≡ None → NoneOf f.locals → NoneOf (locals_after false (λ type. made) w f.stack f.locals)
unwritten w made f e h = subst (λ (o : Option (ℕ × Given)). NoneOf (locals_after false (λ type. made) o f.stack f.locals)) (sym e) h

pub locals_kept : (p : Program) (m : MethodInfo) (pc fi : ℕ) (target : Target) (op : Op) (f : ColourShape) → NoneOf f.locals → TakesWell (row p m pc target op) op f
    → NoneOf (locals_after false (λ type. is_read_of fi op target) (row p m pc target op).writes f.stack f.locals)
locals_kept p m pc fi target (ops.Istore i) f h t = none_set f.locals i (is_coloured f.stack 0) (not_taken (is_coloured f.stack 0) (λ c. t 0 (omega arith) c)) h
locals_kept p m pc fi target (ops.Astore i) f h t = none_set f.locals i (is_coloured f.stack 0) (not_taken (is_coloured f.stack 0) (λ c. t 0 (omega arith) c)) h
locals_kept p m pc fi target (ops.Iinc i n) f h t = none_set f.locals i false refl h
locals_kept p m pc fi target (ops.Ldc i) f h t = unwritten _ _ f (no_constant_write p pc target (ops.Ldc i)) h
locals_kept p m pc fi target (ops.LdcW i) f h t = unwritten _ _ f (no_constant_write p pc target (ops.LdcW i)) h
locals_kept p m pc fi target (ops.Getstatic i) f h t = unwritten _ _ f (no_constant_write p pc target (ops.Getstatic i)) h
locals_kept p m pc fi target (ops.Putstatic i) f h t = unwritten _ _ f (no_constant_write p pc target (ops.Putstatic i)) h
locals_kept p m pc fi target (ops.Getfield i) f h t = unwritten _ _ f (no_constant_write p pc target (ops.Getfield i)) h
locals_kept p m pc fi target (ops.Putfield i) f h t = unwritten _ _ f (no_constant_write p pc target (ops.Putfield i)) h
locals_kept p m pc fi target (ops.Invokevirtual i) f h t = unwritten _ _ f (no_constant_write p pc target (ops.Invokevirtual i)) h
locals_kept p m pc fi target (ops.Invokespecial i) f h t = unwritten _ _ f (no_constant_write p pc target (ops.Invokespecial i)) h
locals_kept p m pc fi target (ops.Invokestatic i) f h t = unwritten _ _ f (no_constant_write p pc target (ops.Invokestatic i)) h
locals_kept p m pc fi target (ops.New i) f h t = unwritten _ _ f (no_constant_write p pc target (ops.New i)) h
locals_kept p m pc fi target op f h t = h

-- ---- the laws

module _ (p : Program) (tags : Tagged) (program : IsProgram p) (all : AreTagged p tags) (fi : ℕ) (o : IsOwnedArrayField p tags fi) (mi : ℕ) (colours : ℕ → ColourShape) (c : IsColouring p tags mi fi colours) where
  -- in a method of another class nothing is coloured
  pub other_class : (m : MethodInfo) → slice_get p.methods mi ≡ Some m → (m.class == o.field.class) ≡ false → (i : ℕ) (insn : Insn) (target : Target) (f : TagShape) → IsAt p tags mi i m insn target f → HasNoColour (colours i)
  other_class m there other i insn target f at = each_reached p tags program all mi (λ i m insn target f. HasNoColour (colours i))
      (λ m insn target f at. subst HasNoColour (sym (c.entry m insn target f at)) (record { stack = none_at_all; locals = none_replicate m.max_locals }))
      (λ i j n insn next_insn target next f g from to goes h. subst HasNoColour (sym (c.onward i j n insn next_insn target next f g from to goes))
      (none_after fi insn target (row_of p n insn target) (colours i) (no_read i n insn target f from) h))
      (λ i j n insn next_insn target next f g from to goes h. subst HasNoColour (sym (c.caught i j n insn next_insn target next f g from to goes)) (record { stack = none_first [] none_at_all; locals = h.locals }))
      i m insn target f at
    where
      is_false : (b : Bool) → (b ≡ true → ⊥) → b ≡ false
      is_false true h = absurd (h refl)
      is_false false h = refl

      no_read : (i : ℕ) (n : MethodInfo) (insn : Insn) (target : Target) (f : TagShape) → IsAt p tags mi i n insn target f → is_read_of fi insn.op target ≡ false
      no_read i n insn target f at = is_false (is_read_of fi insn.op target) (λ e.
          let own : o.field.class ≡ n.class = reads_own p fi o.field n insn.op target o.is o.private (target_named p tags mi i n insn target f program at) e in
          let bad : true ≡ false = sym (eq-eqb m.class o.field.class (sym (own ∙ ap (λ (x : MethodInfo). x.class) (same_Some n m (sym at.in_program ∙ there))))) ∙ other in
          cc)

  -- in one of the class it is used well
  module _ (u : UsesArrayWell p tags mi fi) where
    same_colours : (i : ℕ) (m : MethodInfo) (insn : Insn) (target : Target) (f : TagShape) → IsAt p tags mi i m insn target f → u.colours i ≡ colours i
    same_colours i m insn target f at = one_colouring p tags mi fi i m insn target f u.colours colours program all u.colouring c at

    taken_well : (i : ℕ) (m : MethodInfo) (insn : Insn) (target : Target) (f : TagShape) → IsAt p tags mi i m insn target f → TakesArrayWell p m insn target (colours i)
    taken_well i m insn target f at = subst (TakesArrayWell p m insn target) (same_colours i m insn target f at) (u.taken i m insn target f at)

    no_local : (i : ℕ) (m : MethodInfo) (insn : Insn) (target : Target) (f : TagShape) → IsAt p tags mi i m insn target f → NoneOf (colours i).locals
    no_local i m insn target f at = each_reached p tags program all mi (λ i m insn target f. NoneOf (colours i).locals)
        (λ m insn target f at. subst (λ (s : ColourShape). NoneOf s.locals) (sym (c.entry m insn target f at)) (none_replicate m.max_locals))
        (λ i j m insn other target next f g from to goes h. subst (λ (s : ColourShape). NoneOf s.locals) (sym (c.onward i j m insn other target next f g from to goes))
        (locals_kept p m insn.pc fi target insn.op (colours i) h (taken_well i m insn target f from)))
        (λ i j m insn other target next f g from to goes h. subst (λ (s : ColourShape). NoneOf s.locals) (sym (c.caught i j m insn other target next f g from to goes)) h)
        i m insn target f at

  keeps_array : (i : ℕ) (m : MethodInfo) (insn : Insn) (target : Target) (f : TagShape) → IsAt p tags mi i m insn target f → KeepsArray p m insn target (colours i)
  keeps_array i m insn target f at = by_class (m.class == o.field.class) refl
    where
      by_class : (b : Bool) → (m.class == o.field.class) ≡ b → KeepsArray p m insn target (colours i)
      by_class true e = let u = o.used mi m at.in_program (eqb-true m.class o.field.class e) in record { locals = no_local u i m insn target f at; taken = taken_well u i m insn target f at }
      by_class false e =
          let none = other_class m at.in_program e i insn target f at in
          record { locals = none.locals; taken = λ k l h. absurd (let bad : true ≡ false = sym h ∙ none.stack k in cc) }

  element_guarded : (i : ℕ) (m : MethodInfo) (insn : Insn) (target : Target) (f : TagShape) → IsAt p tags mi i m insn target f → insn.op ≡ ops.Iastore → is_coloured (colours i).stack 2 ≡ true → stands_guarded m f ≡ true
  element_guarded i m insn target f at e h = by_class (m.class == o.field.class) refl
    where
      by_class : (b : Bool) → (m.class == o.field.class) ≡ b → stands_guarded m f ≡ true
      by_class true k =
          let u = o.used mi m at.in_program (eqb-true m.class o.field.class k) in
          let stored : StoresGuarded m ops.Iastore f (u.colours i) = subst (λ (op : Op). StoresGuarded m op f (u.colours i)) e (u.stored i m insn target f at) in
          stored (subst (λ (s : ColourShape). is_coloured s.stack 2 ≡ true) (sym (same_colours u i m insn target f at)) h)
      by_class false k = absurd (let bad : true ≡ false = sym h ∙ (other_class m at.in_program k i insn target f at).stack 2 in cc)

pub array_law : ArrayLaw
array_law p tags fi mi i m insn target f colours program all o c at = keeps_array p tags program all fi o mi colours c i m insn target f at

pub element_write_law : ElementWriteLaw
element_write_law p tags mi i m insn target f program all at e k =
    or_three _ _ _ (element_guarded p tags program all k.fi k.owned mi k.colours k.colouring i m insn target f at e k.coloured)

-- ---- a place of a stack is coloured for some owned field, or for none: a search through the fields

module _ (p : Program) (tags : Tagged) (program : IsProgram p) (all : AreTagged p tags) (mi i k : ℕ) (here : IsInstructionReached p tags mi i) where
  open here use {m, insn, target, f, at}

  abbrev Found : Type 0
  Found = IsOwnedAt p tags mi i k

  by_sorts : true ≡ false → ⊥
  by_sorts x = cc

  -- for this field
  abbrev IsNotBy : ℕ → Type 0
  IsNotBy fi = (o : Found) → o.fi ≡ fi → ⊥

  by_colour : (fi : ℕ) (own : IsOwnedArrayField p tags fi) (u : UsesArrayWell p tags mi fi) (b : Bool) → is_coloured (u.colours i).stack k ≡ b → Found ⊎ IsNotBy fi
  by_colour fi own u true e = inl (record { fi = fi; owned = own; colours = u.colours; colouring = u.colouring; coloured = e })
  by_colour fi own u false e = inr (λ o same.
      let there : IsColouring p tags mi fi o.colours = subst (λ (n : ℕ). IsColouring p tags mi n o.colours) same o.colouring in
      by_sorts (sym o.coloured ∙ ap (λ (s : ColourShape). is_coloured s.stack k) (one_colouring p tags mi fi i m insn target f o.colours u.colours program all there u.colouring at) ∙ e))

  by_class : (fi : ℕ) (own : IsOwnedArrayField p tags fi) (b : Bool) → (m.class == own.field.class) ≡ b → Found ⊎ IsNotBy fi
  by_class fi own true e = let u = own.used mi m at.in_program (eqb-true m.class own.field.class e) in by_colour fi own u (is_coloured (u.colours i).stack k) refl
  by_class fi own false e = inr (λ o same.
      let there : IsColouring p tags mi fi o.colours = subst (λ (n : ℕ). IsColouring p tags mi n o.colours) same o.colouring in
      by_sorts (sym o.coloured ∙ (other_class p tags program all fi own mi o.colours there m at.in_program e i insn target f at).stack k))

  module _ (uses : Uses) (a : AreUses p tags uses) where
    by_owner : (fi : ℕ) (b : Bool) → owns_arrays uses fi ≡ b → Found ⊎ IsNotBy fi
    by_owner fi true e = let own = (a.owners fi).0 e in by_class fi own (m.class == own.field.class) refl
    by_owner fi false e = inr (λ o same.
        by_sorts (sym ((a.owners fi).1 (subst (λ (n : ℕ). IsOwnedArrayField p tags n) same o.owned)) ∙ e))

    search : (n : ℕ) → Found ⊎ ((o : Found) → o.fi < n → ⊥)
    search zero = inr (λ o l. omega (arith, l))
    search (suc n) = either (search n) (by_owner n (owns_arrays uses n) refl)
      where
        either : Found ⊎ ((o : Found) → o.fi < n → ⊥) → Found ⊎ IsNotBy n → Found ⊎ ((o : Found) → o.fi < suc n → ⊥)
        either (inl x) y = inl x
        either (inr none) (inl x) = inl x
        either (inr none) (inr last) = inr (λ o l. ⊎_elim (λ (q : o.fi ≡ n). last o q) (λ (q : o.fi ≢ n). none o (omega (arith, l, q))) (cases_eq o.fi n))

    decided : Found ⊎ (Found → ⊥)
    decided = ⊎_elim
        (λ (x : Found). inl x) (λ (none : (o : Found) → o.fi < length p.fields → ⊥). inr (λ o. none o (slice_get_within p.fields o.fi o.owned.field o.owned.is))) (search (length p.fields))

pub owned_is_decided : OwnedIsDecided
owned_is_decided p tags uses mi i k m insn target f program all a at = decided p tags program all mi i k (record { m = m; insn = insn; target = target; f = f; at = at }) uses a
