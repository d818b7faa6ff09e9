-- What an effect makes, stores, throws or locks is finished, where what its instruction takes is.
use Rattle.std.proofs.Common.{◌≡◌, ℕ, true, false, List, [], ◌∷◌, Option, Some, None, refl, ap, sym, subst, ◌∙◌, slice_get}
use Rattle.std.specs.List.{AllByRecursion}
use Rattle.lists.proofs.ListLaws.{all_weaker, same_some}
use Rattle.jvm_types.specs.{CodeTable.{type_of, want_of, row, constant_row, stack_row, get_static_row, put_static_row, get_row, put_row}, declared.class_numbers.TheConstants.OBJECT_CLASS}
use Rattle.jvm_types.specs.declared.{code.Op.{Op, TheVariants.Getfield}, op_row.{Given.{Given, TheVariants.Fresh}, OpRow.OpRow, Want.{Want, TheVariants.{AnObject, ToStart}}}}
use Rattle.jvm_types.specs.declared.{program.{FieldInfo.FieldInfo, Kind.{Kind, TheVariants.Ref}, MethodInfo.MethodInfo, Program.Program, Target.Target}, typing.VType.VType}
use Rattle.laws_programs.specs.TargetLaws.{has_constant}
use Rattle.machine_types.specs.{Effects.{effect, kept, variable_of}, ReadyObjects.out_object, declared.effect.Effect.Effect}
use Rattle.machine_types.specs.declared.effect.Effect.TheVariants.{Goes, Reads, Writes, Indexes, Measures, Raises, Makes, Prints, Enters, Leaves, Waits, Notifies, NotifiesAll}
use Rattle.machine_types.proofs.EffectCases.{Comes, goes, reads_static, writes_static, reads_field, writes_field, loads_element, stores_element, measures, raises, makes_object, makes_int_array, prints, enters, leaves, waits, notifies, notifies_all, GivenMade, WriteMade, HasConstant, comes}
use Rattle.laws_objects.proofs.Operands.{TakenOld, WantOld, takes_any, is_getfield}
use Rattle.jvm_types.specs.declared.program.Target.TheVariants as targets
use Rattle.jvm_types.specs.declared.typing.VType.TheVariants as types

-- ---- values that are made

abbrev pub KindOld : (ℕ → Type 0) → Kind → (v : ℕ) → Type 0
KindOld Old (Ref class) v = Old v
KindOld Old kind v = Unit {0}

-- null, or finished; nothing that is uninitialised is made so
abbrev pub TypeOld : (ℕ → Type 0) → VType → (made : ℕ) → Type 0
TypeOld Old types.Null made = made ≡ 0
TypeOld Old (types.Ref class) made = Old made
TypeOld Old types.This made = ⊥
TypeOld Old (types.New pc) made = ⊥
TypeOld Old type made = Unit {0}

abbrev pub GivenOld : (ℕ → Type 0) → (made : ℕ) → Given → Type 0
GivenOld Old made (Fresh type) = TypeOld Old type made
GivenOld Old made given = Unit {0}

abbrev pub WriteOld : (ℕ → Type 0) → (made : ℕ) → Option (ℕ × Given) → Type 0
WriteOld Old made None = Unit {0}
WriteOld Old made (Some write) = GivenOld Old made write.1

abbrev pub RowOld : (ℕ → Type 0) → OpRow → (made : ℕ) → Type 0
RowOld Old r made = AllByRecursion (GivenOld Old made) r.gives × WriteOld Old made r.writes

-- a row that starts nothing
abbrev pub StartsNone : Want → Type 0
StartsNone (ToStart class) = ⊥
StartsNone want = Unit {0}

-- ---- effects

abbrev pub Built : (ℕ → Type 0) → Program → Target → OpRow → Effect → Type 0
Built Old p target r (Goes to made) = RowOld Old r made
Built Old p target r (Reads v) = (number : ℕ) (f : FieldInfo) → target ≡ targets.Field number → slice_get p.fields number ≡ Some f → (got : ℕ) → KindOld Old f.kind got → RowOld Old r got
Built Old p target r (Writes v word) = ((number : ℕ) (f : FieldInfo) → target ≡ targets.Field number → slice_get p.fields number ≡ Some f → KindOld Old f.kind word) × RowOld Old r 0
Built Old p target r (Indexes a i stored) = (got : ℕ) → RowOld Old r got
Built Old p target r (Measures a) = (got : ℕ) → RowOld Old r got
Built Old p target r (Raises x) = Old x
Built Old p target r (Makes word size) = AllByRecursion StartsNone r.takes
Built Old p target r (Prints n) = RowOld Old r 0
Built Old p target r (Enters m) = Old m × RowOld Old r 0
Built Old p target r (Leaves m) = Old m × RowOld Old r 0
Built Old p target r (Waits m) = Old m × RowOld Old r 0
Built Old p target r (Notifies m) = Old m × RowOld Old r 0
Built Old p target r (NotifiesAll m) = Old m × RowOld Old r 0
Built Old p target r e = Unit {0}

module _ (Old : ℕ → Type 0) (out : Old out_object) (p : Program) (m : MethodInfo) (pc next : ℕ) where
  abbrev Is : Target → OpRow → Effect → Type 0
  Is target r e = Built Old p target r e

  kind_old : (kind : Kind) (v : ℕ) → KindOld Old kind v → TypeOld Old (type_of kind) v
  kind_old (Ref class) v h = h
  kind_old kind v h = tt

  kept_old : (kind : Kind) (v : ℕ) → WantOld Old (want_of kind) v → KindOld Old kind (kept kind v)
  kept_old (Ref class) v h = h
  kept_old kind v h = tt

  same_field : (number other : ℕ) (f g : FieldInfo) → targets.Field number ≡ targets.Field other → slice_get p.fields number ≡ Some f → slice_get p.fields other ≡ Some g → f ≡ g
  same_field number other f g t e h = let same : number ≡ other = cc in same_some (sym e ∙ ap (slice_get p.fields) same ∙ h)

  -- a value that is made with nothing that is shared is finished
  given_old : (made : ℕ) (given : Given) → GivenMade made given → GivenOld Old made given
  given_old made (Fresh (types.Ref class)) h = subst Old (sym h.1) out
  given_old made given h = assumption

  write_old : (made : ℕ) (write : Option (ℕ × Given)) → WriteMade made write → WriteOld Old made write
  write_old made None h = tt
  write_old made (Some write) h = given_old made write.1 h

  -- the row of a field
  field_got : (number : ℕ) (f : FieldInfo) → slice_get p.fields number ≡ Some f → (other : ℕ) (g : FieldInfo) → targets.Field number ≡ targets.Field other → slice_get p.fields other ≡ Some g → (got : ℕ) → KindOld Old g.kind got → TypeOld Old (type_of f.kind) got
  field_got number f e other g t h got k = kind_old f.kind got (subst (λ (x : FieldInfo). KindOld Old x.kind got) (sym (same_field number other f g t e h)) k)

  field_put : (number v : ℕ) (f : FieldInfo) → slice_get p.fields number ≡ Some f → WantOld Old (want_of f.kind) v → (other : ℕ) (g : FieldInfo) → targets.Field number ≡ targets.Field other → slice_get p.fields other ≡ Some g → KindOld Old g.kind (kept f.kind v)
  field_put number v f e h other g t k = subst (λ (x : FieldInfo). KindOld Old x.kind (kept f.kind v)) (same_field number other f g t e k) (kept_old f.kind v h)

  -- a `getfield` names a field
  abbrev pub NamesField : Target → Op → Type 0
  NamesField target op = is_getfield op ≡ true → (number : ℕ) × (target ≡ targets.Field number)

  -- what names no field is no `getfield`, and takes what stands on top
  taken_plain : (op : Op) (target : Target) → ((number : ℕ) → target ≡ targets.Field number → ⊥) → NamesField target op → has_constant op ≡ true → takes_any op ≡ false
  taken_plain (Getfield i) target never names h = let n = names refl in absurd (never n.0 n.1)
  taken_plain op target never names h = cc

  abbrev Takes : Target → Op → List ℕ → Type 0
  Takes target op s = takes_any op ≡ false → TakenOld Old (row p m pc target op).takes s

  -- an object that waits or is notified
  on_top : (target : Target) (op : Op) (a : ℕ) (s : List ℕ) → HasConstant p pc next target op → ((number : ℕ) → target ≡ targets.Field number → ⊥) → constant_row p pc target op ≡ stack_row (AnObject OBJECT_CLASS ∷ []) [] → NamesField target op → Takes target op (a ∷ s)
      → Old a × RowOld Old (row p m pc target op) 0
  on_top target op a s k never is n h =
      let its : row p m pc target op ≡ stack_row (AnObject OBJECT_CLASS ∷ []) [] = k.2 m ∙ is in
      let taken = subst (λ (r : OpRow). TakenOld Old r.takes (a ∷ s)) its (h (taken_plain op target never n k.1)) in
      (taken.0, subst (λ (r : OpRow). RowOld Old r 0) (sym its) (tt, tt))

  built : (target : Target) (op : Op) (s : List ℕ) (e : Effect) → Comes p pc next target op s e → NamesField target op → Takes target op s → Is target (row p m pc target op) e
  built _ _ _ _ (goes target op s to made k r) n h = (all_weaker (GivenMade made) (GivenOld Old made) (given_old made) (row p m pc target op).gives (r m).0, write_old made (row p m pc target op).writes (r m).1)
  built _ _ _ _ (reads_static i number s f there) n h =
      subst (λ (o : Option FieldInfo). Is (targets.Field number) (get_static_row o) (Reads (variable_of f 0))) (sym there) (λ other g t k got o. ((field_got number f there other g t k got o, tt), tt))
  built _ _ _ _ (writes_static i number v s f there) n h =
      let taken : TakenOld Old (put_static_row (Some f)).takes (v ∷ s) = subst (λ (o : Option FieldInfo). TakenOld Old (put_static_row o).takes (v ∷ s)) there (h refl) in
      subst (λ (o : Option FieldInfo). Is (targets.Field number) (put_static_row o) (Writes (variable_of f 0) (kept f.kind v))) (sym there) (field_put number v f there taken.0, (tt, tt))
  built _ _ _ _ (reads_field i number a s f there z) n h =
      subst (λ (o : Option FieldInfo). Is (targets.Field number) (get_row o) (Reads (variable_of f a))) (sym there) (λ other g t k got o. ((field_got number f there other g t k got o, tt), tt))
  built _ _ _ _ (writes_field i number v a s f there z) n h =
      let taken : TakenOld Old (put_row (Some f)).takes (v ∷ a ∷ s) = subst (λ (o : Option FieldInfo). TakenOld Old (put_row o).takes (v ∷ a ∷ s)) there (h refl) in
      subst (λ (o : Option FieldInfo). Is (targets.Field number) (put_row o) (Writes (variable_of f a) (kept f.kind v))) (sym there) (field_put number v f there taken.0, (tt, tt))
  built _ _ _ _ (loads_element target i a s z) n h = λ got. ((tt, tt), tt)
  built _ _ _ _ (stores_element target v i a s z) n h = λ got. (tt, tt)
  built _ _ _ _ (measures target a s z) n h = λ got. ((tt, tt), tt)
  built _ _ _ _ (raises target x s z) n h = (h refl).0
  built _ _ _ _ (makes_object class op s k) n h = subst (λ (r : OpRow). AllByRecursion StartsNone r.takes) (sym (k.2 m)) tt
  built _ _ _ _ (makes_int_array target count s room) n h = (tt, tt)
  built _ _ _ _ (prints op v a s k) n h = subst (λ (r : OpRow). RowOld Old r 0) (sym (k.2 m)) (tt, tt)
  built _ _ _ _ (enters target a s z) n h = ((h refl).0, (tt, tt))
  built _ _ _ _ (leaves target a s) n h = ((h refl).0, (tt, tt))
  built _ _ _ _ (waits op a s k t z) n h = on_top targets.Wait op a s k (λ number e. cc) refl n h
  built _ _ _ _ (notifies op a s k t z) n h = on_top targets.Notify op a s k (λ number e. cc) refl n h
  built _ _ _ _ (notifies_all op a s k t z) n h = on_top targets.NotifyAll op a s k (λ number e. cc) refl n h
  built target op s e k n h = tt

  pub effect_built : (target : Target) (op : Op) (l s : List ℕ) → NamesField target op → (takes_any op ≡ false → TakenOld Old (row p m pc target op).takes s) → Is target (row p m pc target op) (effect p next target op l s)
  effect_built target op l s n h = built target op s _ (comes p pc next target op l s) n h
