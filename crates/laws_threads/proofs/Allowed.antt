-- The effect of each instruction is one that its row allows, where its operands are what the row takes.
use Rattle.std.proofs.Common.{◌≡◌, ℕ, ◌<◌, ◌^◌, ◌⊎◌, inl, inr, Bool, true, false, List, [], ◌∷◌, ◌++◌, length, Option, Some, None, refl, ap, sym, subst, ◌∙◌, arith, nat_lt, ◌==◌, ◌||◌, slice_get, slice_index, IsSomeAnd}
use Rattle.std.proofs.lemmas.Bool.Decides.{nat_tests}
use Rattle.lists.proofs.ListLaws.{all_weaker}
use Rattle.jvm_types.specs.CodeTable.{row, type_of, want_of, constant_row, stack_row, get_static_row, put_static_row, get_row, put_row}
use Rattle.jvm_types.specs.{Members.{is_static, MethodSite, field_rule}, Numbers.has_number, ProgramInvariant.{IsClassOf, IsFieldTarget, IsTargetOf, site_in}, Verifying.{edges, new_class}}
use Rattle.jvm_types.specs.declared.{class_numbers.TheConstants.{OBJECT_CLASS, INT_ARRAY_CLASS, PRINT_STREAM_CLASS, THROWABLE_CLASS}, code.{Insn.Insn, Op.Op}, op_row.{Given.{Given, TheVariants.Fresh}, OpRow.OpRow, Want.{Want, TheVariants.AnObject}}}
use Rattle.jvm_types.specs.declared.{outcome.Thrown.Thrown, program.{FieldInfo.FieldInfo, Kind.Kind, MethodInfo.MethodInfo, Program.Program, Target.Target}}
use Rattle.jvm_types.proofs.TypeOrder.{subclass_self}
use Rattle.laws_programs.proofs.TargetRows.{targets_rows}
use Rattle.machine_types.specs.{Effects.{variable_of, kept, at_local, effect}, Ints.{low, word_of, added}, ReadyObjects.out_object, Typed.{Classes, IsNullOr, KindHolds, Holds, IsElementOn}}
use Rattle.machine_types.specs.{Words.value_word, declared.effect.Effect.{Effect, TheVariants.{Goes, Reads, Writes}}}
use Rattle.machine_types.proofs.EffectCases.{Comes, lacks, goes, refuses, reads_static, writes_static, reads_field, writes_field, loads_element, stores_element, measures, raises, makes_object, makes_int_array, prints, calls, calls_fixed, returns, enters, leaves, waits, notifies, notifies_all, GivenMade, WriteMade, RowMade, HasConstant, HasTaken, IsRefusal, uses_local, low_lt, comes}
use Rattle.laws_threads.{specs.Allowed.{IsOf, IsNamedField, WantHolds, TakenHold, GivenHolds, WriteHolds, HasRowTypes, HasLocal, IsByMachine, OneOf, Allowed}, proofs.EffectsOfInsns.suited}
use Rattle.laws_threads.proofs.Tests.{either_way}
use Rattle.jvm_types.specs.declared.code.Op.TheVariants as ops
use Rattle.jvm_types.specs.declared.outcome.Thrown.TheVariants as thrown
use Rattle.jvm_types.specs.declared.program.Kind.TheVariants as kinds
use Rattle.jvm_types.specs.declared.program.Target.TheVariants as targets
use Rattle.jvm_types.specs.declared.typing.VType.TheVariants as types

low_small : (n : ℕ) → n < 2 ^ 32 → low n ≡ n
low_small n h = omega arith

by_machine : (x : Thrown) → IsRefusal x → IsByMachine x
by_machine thrown.NullPointerException h = tt
by_machine thrown.ArithmeticException h = tt
by_machine thrown.NegativeArraySizeException h = tt
by_machine thrown.OutOfMemoryError h = tt
by_machine x h = absurd h

one_of : (ns : List ℕ) (n : ℕ) → has_number ns n ≡ true → OneOf ns n
one_of [] n h = absurd (cc)
one_of (x ∷ xs) n h = either_way (λ (b : Bool). (x == n) ≡ b → (b || has_number xs n) ≡ true → (has_number xs n ≡ true → OneOf xs n) → (n ≡ x) ⊎ OneOf xs n) (x == n)
    (λ e k more. inl (grind (arith, nat_tests, e)))
    (λ e k more. inr (more k)) refl h (one_of xs n)

module _ (p : Program) (m : MethodInfo) (is : Classes) (stack : List ℕ) where
  abbrev Allows : Insn → Target → OpRow → Effect → Type 0
  Allows insn target r e = Allowed p m is insn target r stack e

  -- ---- objects

  an_object : (a class : ℕ) → (a == 0) ≡ false → IsNullOr is class a → IsOf is class a
  an_object a class e (inl h) = absurd (grind (arith, nat_tests, e, h))
  an_object a class e (inr h) = (grind (arith, nat_tests, e), h.0, h.1, h.2)

  is_static_of : (static writes : Bool) (site : MethodSite) (class flags : ℕ) → field_rule static writes site class flags ≡ None → is_static flags ≡ static
  is_static_of true writes site class flags e = grind (arith, nat_tests, e)
  is_static_of false writes site class flags e = grind (arith, nat_tests, e)

  kind_given : (kind : Kind) (v : ℕ) → KindHolds is kind v → Holds m is (type_of kind) v
  kind_given kinds.Int v h = h
  kind_given kind v h = h

  kind_kept : (kind : Kind) (v : ℕ) → WantHolds m is (want_of kind) v → KindHolds is kind (kept kind v)
  kind_kept kinds.Bool v h = omega arith
  kind_kept kind v h = h

  static_variable : (f : FieldInfo) (number : ℕ) → slice_get p.fields number ≡ Some f → is_static f.flags ≡ true → IsNamedField p is (targets.Field number) (variable_of f 0) f
  static_variable f number e s = record { number = number; named = refl; there = e; reference = 0; variable = refl; holder = λ h. absurd (let bad : true ≡ false = sym s ∙ h in cc) }

  field_variable : (f : FieldInfo) (number a : ℕ) → slice_get p.fields number ≡ Some f → IsOf is f.class a → IsNamedField p is (targets.Field number) (variable_of f a) f
  field_variable f number a e o = record { number = number; named = refl; there = e; reference = a; variable = refl; holder = λ h. o }

  -- the value at a place of a row that takes so many
  pub below_args : (wants : List Want) (want : Want) (s : List ℕ) → TakenHold m is (wants ++ want ∷ []) s → (v : ℕ) × (slice_get s (length wants) ≡ Some v) × WantHolds m is want v
  below_args [] want (v ∷ s) h = (v, refl, h.0)
  below_args (w ∷ ws) want (v ∷ s) h = below_args ws want s h.1
  below_args ws want s h = absurd (assumption)

  has_taken : (wants : List Want) (s : List ℕ) → TakenHold m is wants s → HasTaken wants s
  has_taken [] s h = tt
  has_taken (want ∷ wants) (v ∷ s) h = has_taken wants s h.1
  has_taken (want ∷ wants) [] h = absurd h

  -- ---- all instructions

  module _ (pc next : ℕ) (out : is PRINT_STREAM_CLASS out_object) where
    abbrev pub at : Op → Insn
    at op = record { pc = pc; next = next; op = op }

    -- what a row asks of a stack and locals
    abbrev pub Operands : OpRow → (l s : List ℕ) → Type 0
    Operands r l s = TakenHold m is r.takes s × HasLocal r.reads l × HasLocal r.writes l

    -- the class that a `new` at this pc makes
    abbrev pub MakesAt : Target → Type 0
    MakesAt (targets.Class class) = (new_class m.code m.targets pc ≡ Some class) × IsClassOf p class
    MakesAt target = Unit {0}

    -- ---- values that are made

    given_holds : (made : ℕ) (given : Given) → GivenMade made given → GivenHolds m is made given
    given_holds made (Fresh types.Int) h = h
    given_holds made (Fresh types.Null) h = h
    given_holds made (Fresh (types.Ref class)) h =
        subst (λ (k : ℕ). IsNullOr is k made) (sym h.0) (subst (λ (v : ℕ). IsNullOr is PRINT_STREAM_CLASS v) (sym h.1) (inr (PRINT_STREAM_CLASS, out, subclass_self PRINT_STREAM_CLASS)))
    given_holds made (Fresh type) h = absurd h
    given_holds made given h = tt

    write_holds : (made : ℕ) (write : Option (ℕ × Given)) → WriteMade made write → WriteHolds m is made write
    write_holds made None h = tt
    write_holds made (Some write) h = given_holds made write.1 h

    row_types : (r : OpRow) (made : ℕ) → RowMade r made → HasRowTypes m is r made
    row_types r made h = (all_weaker (GivenMade made) (GivenHolds m is made) (given_holds made) r.gives h.0, write_holds made r.writes h.1)

    -- ---- what a constant names

    abbrev Takes : Target → Op → List ℕ → Type 0
    Takes target op s = TakenHold m is (row p m pc target op).takes s

    module _ (number : ℕ) (f : FieldInfo) (there : slice_get p.fields number ≡ Some f) where
      at_field : (row_by : Option FieldInfo → OpRow) (op : Op) (e : Effect) → Allows (at op) (targets.Field number) (row_by (Some f)) e → Allows (at op) (targets.Field number) (row_by (slice_get p.fields number)) e
      at_field row_by op e k = subst (λ (o : Option FieldInfo). Allows (at op) (targets.Field number) (row_by o) e) (sym there) k

      taken_by : (row_by : Option FieldInfo → OpRow) (s : List ℕ) → TakenHold m is (row_by (slice_get p.fields number)).takes s → TakenHold m is (row_by (Some f)).takes s
      taken_by row_by s h = subst (λ (o : Option FieldInfo). TakenHold m is (row_by o).takes s) there h

      sort_of : (static writes : Bool) → IsFieldTarget p (site_in m) static writes (targets.Field number) → is_static f.flags ≡ static
      sort_of static writes k =
          is_static_of static writes (site_in m) f.class f.flags (subst (λ (o : Option FieldInfo). IsSomeAnd o (λ f. field_rule static writes (site_in m) f.class f.flags ≡ None)) there k)

    -- an object that waits or is notified
    on_top : (target : Target) (op : Op) (a : ℕ) (s : List ℕ) → HasConstant p pc next target op → (a == 0) ≡ false → constant_row p pc target op ≡ stack_row (AnObject OBJECT_CLASS ∷ []) [] → Takes target op (a ∷ s)
        → OneOf (edges (at op)) next × (IsOf is OBJECT_CLASS a) × HasRowTypes m is (row p m pc target op) 0
    on_top target op a s named z its h =
        let row_is : row p m pc target op ≡ stack_row (AnObject OBJECT_CLASS ∷ []) [] = named.2 m ∙ its in
        let taken = subst (λ (r : OpRow). TakenHold m is r.takes (a ∷ s)) row_is h in
        (one_of (edges (at op)) next named.0.1, an_object a OBJECT_CLASS z taken.0, subst (λ (r : OpRow). HasRowTypes m is r 0) (sym row_is) (tt, tt))

    allowed : (target : Target) (op : Op) (s : List ℕ) (e : Effect) → Comes p pc next target op s e → stack ≡ s → Takes target op s → uses_local op ≡ false → MakesAt target → IsTargetOf p (site_in m) op target → Allows (at op) target (row p m pc target op) e
    allowed _ _ _ _ (lacks target op s lack) q h u n k = absurd (lack m k (has_taken (row p m pc target op).takes s h) u)
    allowed _ _ _ _ (goes target op s to made leads r) q h u n k = (one_of (edges (at op)) to leads.1, row_types (row p m pc target op) made (r m))
    allowed _ _ _ _ (refuses target op s x own t) q h u n k = (t (suited p m pc next target op (targets_rows p m pc target op k)), by_machine x own)
    allowed _ _ _ _ (reads_static i number s f there) q h u n k =
        at_field number f there get_static_row (ops.Getstatic i) (Reads (variable_of f 0)) (inl refl, f, static_variable f number there (sort_of number f there true false k), λ v o. ((kind_given f.kind v o, tt), tt))
    allowed _ _ _ _ (writes_static i number v s f there) q h u n k =
        let taken : TakenHold m is (put_static_row (Some f)).takes (v ∷ s) = taken_by number f there put_static_row (v ∷ s) h in
        at_field number f there put_static_row (ops.Putstatic i) (Writes (variable_of f 0) (kept f.kind v)) (inl refl, f, static_variable f number there (sort_of number f there true true k), kind_kept f.kind v taken.0, (tt, tt))
    allowed _ _ _ _ (reads_field i number a s f there z) q h u n k =
        let taken : TakenHold m is (get_row (Some f)).takes (a ∷ s) = taken_by number f there get_row (a ∷ s) h in
        at_field number f there get_row (ops.Getfield i) (Reads (variable_of f a)) (inl refl, f, field_variable f number a there (an_object a f.class z taken.0), λ v o. ((kind_given f.kind v o, tt), tt))
    allowed _ _ _ _ (writes_field i number v a s f there z) q h u n k =
        let taken : TakenHold m is (put_row (Some f)).takes (v ∷ a ∷ s) = taken_by number f there put_row (v ∷ a ∷ s) h in
        at_field number f there put_row (ops.Putfield i) (Writes (variable_of f a) (kept f.kind v)) (inl refl, f, field_variable f number a there (an_object a f.class z taken.1.0), kind_kept f.kind v taken.0, (tt, tt))
    allowed _ _ _ _ (loads_element target i a s z) q h u n k =
        (inl refl, an_object a INT_ARRAY_CLASS z h.1.0, subst (λ (st : List ℕ). IsElementOn (value_word a (low i)) None st) (sym q) (ap (value_word a) (low_small i h.0)), tt, λ v e. ((e, tt), tt))
    allowed _ _ _ _ (stores_element target v i a s z) q h u n k =
        (inl refl, an_object a INT_ARRAY_CLASS z h.1.1.0, subst (λ (st : List ℕ). IsElementOn (value_word a (low i)) (Some v) st) (sym q) (ap (value_word a) (low_small i h.1.0), refl), h.0, λ v e. (tt, tt))
    allowed _ _ _ _ (measures target a s z) q h u n k = (inl refl, an_object a INT_ARRAY_CLASS z h.0, λ v e. ((e, tt), tt))
    allowed _ _ _ _ (raises target x s z) q h u n k = (refl, an_object x THROWABLE_CLASS z h.0)
    allowed _ _ _ _ (makes_object class op s named) q h u n k =
        (one_of (edges (at op)) next named.0.1, types.New pc, ap (λ (r : OpRow). r.gives) (named.2 m), ap (λ (r : OpRow). r.writes) (named.2 m), (class, n.0, n.1, refl, refl))
    allowed _ _ _ _ (makes_int_array target count s room) q h u n k = (inl refl, types.Ref INT_ARRAY_CLASS, refl, refl, (refl, low count, grind (arith, nat_tests, room), refl, refl))
    allowed _ _ _ _ (prints op v a s named) q h u n k =
        let taken = subst (λ (r : OpRow). TakenHold m is r.takes (v ∷ a ∷ s)) (named.2 m) h in
        (one_of (edges (at op)) next named.0.1, taken.0, subst (λ (r : OpRow). HasRowTypes m is r 0) (sym (named.2 m)) (tt, tt))
    allowed _ _ _ _ (calls op number receiver s called names there on top) q h u n k = (called, refl, there)
    allowed _ _ _ _ (calls_fixed i number s called there) q h u n k = (called, refl, there)
    allowed _ _ _ _ (returns target op s ends top) q h u n k = ends
    allowed _ _ _ _ (enters target a s z) q h u n k = (inl refl, an_object a OBJECT_CLASS z h.0, (tt, tt))
    allowed _ _ _ _ (leaves target a s) q h u n k = (inl refl, h.0, (tt, tt))
    allowed _ _ _ _ (waits op a s named t z) q h u n k = on_top targets.Wait op a s named z refl h
    allowed _ _ _ _ (notifies op a s named t z) q h u n k = on_top targets.Notify op a s named z refl h
    allowed _ _ _ _ (notifies_all op a s named t z) q h u n k = on_top targets.NotifyAll op a s named z refl h

    -- the local is there
    at_its_local : (target : Target) (op : Op) (i : ℕ) (l : List ℕ) (e : Effect) → i < length l → Allows (at op) target (row p m pc target op) e → Allows (at op) target (row p m pc target op) (at_local i l e)
    at_its_local target op i l e h k = let there : nat_lt i (length l) ≡ true = grind (arith, nat_tests, h) in rw there k

    pub effect_allowed : (target : Target) (op : Op) (l s : List ℕ) → stack ≡ s → Operands (row p m pc target op) l s → MakesAt target → IsTargetOf p (site_in m) op target
        → Allows (at op) target (row p m pc target op) (effect p next target op l s)
    effect_allowed target (ops.Iload i) l s q h n k = at_its_local target (ops.Iload i) i l (Goes next 0) h.1 (inl refl, ((tt, tt), tt))
    effect_allowed target (ops.Aload i) l s q h n k = at_its_local target (ops.Aload i) i l (Goes next 0) h.1 (inl refl, ((tt, tt), tt))
    effect_allowed target (ops.Istore i) l (a ∷ s) q h n k = at_its_local target (ops.Istore i) i l (Goes next 0) h.2 (inl refl, (tt, tt))
    effect_allowed target (ops.Astore i) l (a ∷ s) q h n k = at_its_local target (ops.Astore i) i l (Goes next 0) h.2 (inl refl, (tt, tt))
    effect_allowed target (ops.Istore i) l [] q h n k = absurd h.0
    effect_allowed target (ops.Astore i) l [] q h n k = absurd h.0
    effect_allowed target (ops.Iinc i d) l s q h n k = at_its_local target (ops.Iinc i d) i l (Goes next (added (slice_index l i) (word_of d))) h.1 (inl refl, (tt, low_lt _))
    effect_allowed target op l s q h n k = allowed target op s _ (comes p pc next target op l s) q h.0 refl n k
