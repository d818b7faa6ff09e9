-- What an instruction does that breaks no rule of a section, by its effect.
use Rattle.std.proofs.Common.{◌≡◌, ◌⊎◌, inl, inr, ℕ, Bool, true, false, List, [], ◌∷◌, length, Some, None, refl, sym, ap, ◌∙◌, subst, slice_get, slice_index, if◌then◌else◌}
use Rattle.lists.proofs.ListLaws.{same_some}
use Rattle.jvm_types.specs.{ClassNames.file_of_class, CodeTable.falls_through, Members.is_static, ProgramInvariant.site_in, Verifying.is_return, declared.{code.Op.Op, op_row.OpRow.OpRow}}
use Rattle.jvm_types.specs.declared.program.{FieldInfo.FieldInfo, MethodInfo.MethodInfo, Program.Program, Target.Target}
use Rattle.laws_programs.specs.TargetLaws.{HasRow}
use Rattle.checked_program.specs.{FrozenPlaces.{IsFrozenField, IsFrozenStatic, IsGuardedField}, MarkedProgram.MarkedProgram, Marks.called_method, SectionLaws.{IsOwnStatic, ReadsOnly}}
use Rattle.checked_program.specs.declared.section.Mode.{Mode, TheVariants.{OnThis, OnClass}}
use Rattle.machine_types.specs.{Effects.{variable_of, effect}, Standing.tags_of, Words.class_object, declared.effect.{Effect.Effect, Variable.TheVariants.{Instance, Static}}}
use Rattle.machine_types.specs.declared.effect.Effect.TheVariants.{Reads, Writes, Indexes, Measures, Makes, Prints, Calls, Returns, Enters, Leaves, Waits, Notifies, NotifiesAll, Stuck}
use Rattle.machine_types.proofs.EffectCases.{Comes, reads_static, writes_static, reads_field, writes_field, loads_element, stores_element, measures, makes_object, makes_int_array, prints, calls, calls_fixed, returns, enters, leaves, waits, notifies, notifies_all, comes}
use Rattle.laws_threads.{specs.InsideEffects.{IsStayingStatic, MayRead}, proofs.Tests.either_way}
use Rattle.jvm_types.specs.declared.code.Op.TheVariants as ops
use Rattle.jvm_types.specs.declared.program.Target.TheVariants as targets

-- a call of an instance method finds its receiver below the arguments
abbrev pub HasReceiver : Program → Op → (number : ℕ) → List ℕ → Type 0
HasReceiver p (ops.Invokestatic i) number s = Unit {0}
HasReceiver p op number s = (called : MethodInfo) × (receiver : ℕ) × (slice_get p.methods number ≡ Some called) × (slice_get s (length called.args) ≡ Some receiver)

-- What an instruction of a section on the object m does, by its effect: where that is a call, a return or an exit, which
-- instruction it is.
abbrev pub Does : MarkedProgram → (m : ℕ) → Op → Target → List ℕ → Effect → Type 0
Does c m op target s (Reads v) = MayRead c m v
Does c m op target s (Writes v word) = ⊥
Does c m op target s (Indexes array index None) = op ≡ ops.Iaload
Does c m op target s (Indexes array index (Some v)) = ⊥
Does c m op target s (Makes word size) = ⊥
Does c m op target s (Prints n) = ⊥
Does c m op target s (Calls number) = (called_method op target ≡ Some number) × HasReceiver c.program op number s
Does c m op target s Returns = is_return op ≡ true
Does c m op target s (Enters n) = n ≡ m
Does c m op target s (Leaves n) = (op ≡ ops.Monitorexit) × (slice_index s 0 ≡ n)
Does c m op target s (Waits n) = ⊥
Does c m op target s (Notifies n) = ⊥
Does c m op target s (NotifiesAll n) = ⊥
Does c m op target s e = Unit {0}

-- a call that is on a receiver finds it
receiver_there : (p : Program) (op : Op) (number receiver : ℕ) (s : List ℕ) (called : MethodInfo) → slice_get p.methods number ≡ Some called → slice_get s (length called.args) ≡ Some receiver → HasReceiver p op number s
receiver_there p (ops.Invokestatic i) number receiver s called there on = tt
receiver_there p op number receiver s called there on = (called, receiver, there, on)

module _ (c : MarkedProgram) (m : ℕ) where
  -- ---- what a constant names, in a frame that is run so, of a section whose own frame has the receiver o, at a place of a method

  module _ (mode : Mode) (o method place : ℕ) (on : mode ≡ OnThis → o ≡ m) (in_class : (class : ℕ) → mode ≡ OnClass class → class_object c.program (file_of_class class) ≡ m) where
    own_stays : (fi a : ℕ) → IsFrozenField c.program (tags_of c) fi ⊎ (IsGuardedField c.program (tags_of c) fi × (mode ≡ OnThis) × (a ≡ o)) → IsFrozenField c.program (tags_of c) fi ⊎ (IsGuardedField c.program (tags_of c) fi × (a ≡ m))
    own_stays fi a (inl f) = inl f
    own_stays fi a (inr g) = inr (g.0, g.2 ∙ on g.1)

    own_sort : (fi : ℕ) (field : FieldInfo) → slice_get c.program.fields fi ≡ Some field → IsFrozenStatic c.program fi ⊎ IsOwnStatic c.program (tags_of c) mode fi → is_static field.flags ≡ true
    own_sort fi field e (inl s) = subst (λ (x : FieldInfo). is_static x.flags ≡ true) (same_some (sym s.is ∙ e)) s.static
    own_sort fi field e (inr s) = let g = s.guarded in subst (λ (x : FieldInfo). is_static x.flags ≡ true) (same_some (sym g.is ∙ e)) g.static

    own_static : (fi : ℕ) (field : FieldInfo) → slice_get c.program.fields fi ≡ Some field → IsFrozenStatic c.program fi ⊎ IsOwnStatic c.program (tags_of c) mode fi → IsStayingStatic c m field.index
    own_static fi field e (inl s) = record { number = fi; field = field; is = e; static = own_sort fi field e (inl s); place = refl; stays = inl s }
    own_static fi field e (inr s) =
        let g = s.guarded in
        let same : g.field ≡ field = same_some (sym g.is ∙ e) in
        record {
          number = fi;
          field = field;
          is = e;
          static = own_sort fi field e (inr s);
          place = refl;
          stays = inr (g, ap (λ (x : FieldInfo). class_object c.program (file_of_class x.class)) (sym same) ∙ in_class g.field.class s.own);
        }

    got_own : (fi : ℕ) (field : FieldInfo) → slice_get c.program.fields fi ≡ Some field → IsFrozenStatic c.program fi ⊎ IsOwnStatic c.program (tags_of c) mode fi → MayRead c m (variable_of field 0)
    got_own fi field e h = either_way (λ (b : Bool). b ≡ true → MayRead c m (if b then Static field.index else Instance 0 field.index)) (is_static field.flags)
        (λ q. own_static fi field e h)
        (λ q. absurd (cc)) (own_sort fi field e h)

    got_field : (fi a : ℕ) (field : FieldInfo) → slice_get c.program.fields fi ≡ Some field → is_static field.flags ≡ false → IsFrozenField c.program (tags_of c) fi ⊎ (IsGuardedField c.program (tags_of c) fi × (a ≡ m)) → MayRead c m (variable_of field a)
    got_field fi a field e sort stays = either_way (λ (b : Bool). b ≡ false → MayRead c m (if b then Static field.index else Instance a field.index)) (is_static field.flags)
        (λ q. absurd (cc))
        (λ q. record { number = fi; field = field; is = e; place = refl; stays = stays }) sort

    module _ (mi : MethodInfo) (pc next : ℕ) (r : OpRow) where
      abbrev Row : Target → Op → Type 0
      Row target op = HasRow c.program (site_in mi) pc target op r

      abbrev Reading : Target → Op → List ℕ → Type 0
      Reading target op s = ReadsOnly c.program (tags_of c) mode o method place op target s

      -- what no instruction of a section names
      abbrev Barred : Target → Type 0
      Barred (targets.Class class) = Unit {0}
      Barred targets.Println = Unit {0}
      Barred targets.Wait = Unit {0}
      Barred targets.Notify = Unit {0}
      Barred targets.NotifyAll = Unit {0}
      Barred target = ⊥

      barred : (target : Target) (op : Op) (s : List ℕ) → Barred target → Row target op → Reading target op s → ⊥
      barred (targets.Class class) (ops.New i) s b k h = h
      barred targets.Println (ops.Invokevirtual i) s b k h = h
      barred targets.Wait (ops.Invokevirtual i) s b k h = h
      barred targets.Notify (ops.Invokevirtual i) s b k h = h
      barred targets.NotifyAll (ops.Invokevirtual i) s b k h = h
      barred target op s b k h = absurd (assumption)

      does_by : (target : Target) (op : Op) (s : List ℕ) (e : Effect) → Comes c.program pc next target op s e → Row target op → Reading target op s → Does c m op target s e
      does_by _ _ _ _ (reads_static i number s f there) k h = got_own number f there h
      does_by _ _ _ _ (reads_field i number a s f there z) k h =
          got_field number a f there (ap (λ (x : FieldInfo). is_static x.flags) (same_some (sym there ∙ k.there)) ∙ k.sort) (own_stays number a h)
      does_by _ _ _ _ (writes_static i number v s f there) k h = absurd h
      does_by _ _ _ _ (writes_field i number v a s f there z) k h = absurd h
      does_by _ _ _ _ (loads_element target i a s z) k h = refl
      does_by _ _ _ _ (stores_element target v i a s z) k h = absurd h
      does_by _ _ _ _ (makes_object class op s named) k h = barred (targets.Class class) op s tt k h
      does_by _ _ _ _ (makes_int_array target n s room) k h = absurd h
      does_by _ _ _ _ (prints op n a s named) k h = barred targets.Println op (n ∷ a ∷ s) tt k h
      does_by _ _ _ _ (calls op number receiver s called names there on top) k h = (names, receiver_there c.program op number receiver s called there on)
      does_by _ _ _ _ (calls_fixed i number s called there) k h = (refl, tt)
      does_by _ _ _ _ (returns target op s is top) k h = is
      does_by _ _ _ _ (enters target n s z) k h = h.1 ∙ on h.0
      does_by _ _ _ _ (leaves target n s) k h = (refl, refl)
      does_by _ _ _ _ (waits op n s named t z) k h = barred targets.Wait op (n ∷ s) tt k h
      does_by _ _ _ _ (notifies op n s named t z) k h = barred targets.Notify op (n ∷ s) tt k h
      does_by _ _ _ _ (notifies_all op n s named t z) k h = barred targets.NotifyAll op (n ∷ s) tt k h
      does_by target op s e came k h = tt

    pub does : (mi : MethodInfo) (pc next : ℕ) (r : OpRow) (target : Target) (op : Op) (l s : List ℕ) → HasRow c.program (site_in mi) pc target op r → ReadsOnly c.program (tags_of c) mode o method place op target s
        → Does c m op target s (effect c.program next target op l s)
    does mi pc next r target op l s k h = does_by mi pc next r target op s _ (comes c.program pc next target op l s) k h

-- ---- where an instruction does not go on behind itself

abbrev pub GoesElsewhere : Effect → Type 0
GoesElsewhere (Reads v) = ⊥
GoesElsewhere (Measures a) = ⊥
GoesElsewhere (Enters n) = ⊥
GoesElsewhere (Leaves n) = ⊥
GoesElsewhere (Calls n) = ⊥
GoesElsewhere e = Unit {0}

-- an instruction that calls a method falls through, and is no `monitorexit`
pub call_falls : (op : Op) (target : Target) (u : ℕ) → called_method op target ≡ Some u → falls_through op ≡ true
call_falls (ops.Invokevirtual i) target u e = refl
call_falls (ops.Invokespecial i) target u e = refl
call_falls (ops.Invokestatic i) target u e = refl
call_falls op target u e = absurd (cc)

elsewhere : (p : Program) (next : ℕ) (target : Target) (op : Op) (s : List ℕ) (e : Effect) → Comes p 0 next target op s e → falls_through op ≡ false → GoesElsewhere e
elsewhere p next _ _ _ _ (reads_static i number s f there) h = absurd (let bad : true ≡ false = h in cc)
elsewhere p next _ _ _ _ (reads_field i number a s f there z) h = absurd (let bad : true ≡ false = h in cc)
elsewhere p next _ _ _ _ (measures target a s z) h = absurd (let bad : true ≡ false = h in cc)
elsewhere p next _ _ _ _ (calls op number receiver s called names there on top) h = absurd (let bad : true ≡ false = sym (call_falls op (targets.Method number) number names) ∙ h in cc)
elsewhere p next _ _ _ _ (calls_fixed i number s called there) h = absurd (let bad : true ≡ false = h in cc)
elsewhere p next _ _ _ _ (enters target n s z) h = absurd (let bad : true ≡ false = h in cc)
elsewhere p next _ _ _ _ (leaves target n s) h = absurd (let bad : true ≡ false = h in cc)
elsewhere p next target op s e came h = tt

pub goes_behind : (p : Program) (next : ℕ) (target : Target) (op : Op) (l s : List ℕ) → (GoesElsewhere (effect p next target op l s) → ⊥) → falls_through op ≡ true
goes_behind p next target op l s h = either_way (λ (b : Bool). falls_through op ≡ b → b ≡ true) (falls_through op)
    (λ e. refl)
    (λ e. absurd (h (elsewhere p next target op s _ (comes p 0 next target op l s) e))) refl

-- only an exit leaves a monitor as its instruction
abbrev pub OnlyLeaves : Effect → Type 0
OnlyLeaves (Leaves n) = Unit {0}
OnlyLeaves Stuck = Unit {0}
OnlyLeaves e = ⊥

pub exit_leaves : (p : Program) (next : ℕ) (target : Target) (op : Op) (l s : List ℕ) → op ≡ ops.Monitorexit → OnlyLeaves (effect p next target op l s)
exit_leaves p next target op l s e = subst (λ o. OnlyLeaves (effect p next target o l s)) (sym e) (elim s as (λ s. OnlyLeaves (effect p next target ops.Monitorexit l s)) [ [] ↦ tt | a ∷ s ↦ tt ])
