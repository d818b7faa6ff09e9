-- Values that an instruction takes as references to objects are finished: an `<init>` of a frozen class gives its `this` to none.
use Rattle.std.proofs.Common.{◌≡◌, ◌≢◌, ℕ, zero, suc, ◌<◌, Bool, true, false, not, ◌&&◌, List, [], ◌∷◌, length, Option, Some, refl, subst, sym, arith, ◌==◌, slice_get, slice_index_or}
use Rattle.std.{specs.List.AllByRecursion, proofs.lemmas.Bool.or_parts}
use Rattle.lists.proofs.TestLaws.{is_true}
use Rattle.jvm_types.specs.{CodeTable.{any_values, move_takes, put_row, row}, Types.is_below, Verifying.{suits, some_taken}, declared.{code.Op.Op, op_row.Want.{Want, TheVariants.AnObject}}}
use Rattle.jvm_types.specs.declared.{program.{FieldInfo.FieldInfo, MethodInfo.MethodInfo, Program.Program, Target.{Target, TheVariants.{Field, Init}}}, typing.VType.{VType, TheVariants.{Null, Ref}}}
use Rattle.checked_program.specs.{Colours.is_read_of, FrozenPlaces.may_take, OwnedArrays.may_take_array, declared.tag.Tag.{Tag, TheVariants.{Untagged, This}}}
use Rattle.machine_types.specs.{Construction.{puts_owned, builds, makes_frozen, SlotByType, SlotIs, SlotsAre, Runs, IsFresh}, Standing.row_at, Threads.Frame, Worlds.IsFinished}
use Rattle.laws_objects.proofs.{Buildings.{Building, FrameIn}, KeptFrames.plain_stack, Landing.inside_at, Moves.{Suit, suit_at}, Slots.plainly}
use Rattle.jvm_types.specs.declared.code.Op.TheVariants as ops

-- ---- what is taken

abbrev pub WantOld : (ℕ → Type 0) → Want → (v : ℕ) → Type 0
WantOld Old (AnObject class) v = Old v
WantOld Old want v = Unit {0}

abbrev pub TakenOld : (ℕ → Type 0) → List Want → List ℕ → Type 0
TakenOld Old (want ∷ wants) (v ∷ vs) = WantOld Old want v × TakenOld Old wants vs
TakenOld Old wants vs = Unit {0}

-- an `<init>` of a frozen class takes no `this` as an object
abbrev pub NoThis : Want → Tag → Type 0
NoThis (AnObject class) g = g ≢ This
NoThis want g = Unit {0}

abbrev pub TakesNoThis : List Want → List Tag → Type 0
TakesNoThis (want ∷ wants) (g ∷ gs) = NoThis want g × TakesNoThis wants gs
TakesNoThis wants gs = Unit {0}

module _ (m : MethodInfo) (Old : ℕ → Type 0) (null : Old 0) (Fresh : ℕ → ℕ → Type 0) (own : Bool) (young : ℕ → Bool) (receiver : ℕ) where
  ref_old : (u : VType) (class v : ℕ) → is_below u (Ref class) ≡ true → SlotByType Old Fresh young u v → Old v
  ref_old Null class v b h = subst Old (sym h) null
  ref_old (Ref d) class v b h = h
  ref_old u class v b h = absurd (cc)

  object_old : (o : Bool) (u : VType) (g : Tag) (class v : ℕ) → (o ≡ true → g ≢ This) → is_below u (Ref class) ≡ true → SlotIs Old Fresh o young receiver u g v → Old v
  object_old true u g class v n b h = ref_old u class v b (plainly Old Fresh young receiver u g v (n refl) h).1
  object_old false u g class v n b h = ref_old u class v b h

  want_old : (want : Want) (u : VType) (g : Tag) (v : ℕ) → (own ≡ true → NoThis want g) → suits m want u ≡ true → SlotIs Old Fresh own young receiver u g v → WantOld Old want v
  want_old (AnObject class) u g v n s h = object_old own u g class v n s h
  want_old want u g v n s h = tt

  pub taken_old : (wants : List Want) (us : List VType) (gs : List Tag) (vs : List ℕ) → (own ≡ true → TakesNoThis wants gs) → Suit m wants us → SlotsAre (SlotIs Old Fresh own young receiver) us gs vs → TakenOld Old wants vs
  taken_old [] us gs vs n s h = tt
  taken_old (want ∷ wants) [] [] [] n s h = tt
  taken_old (want ∷ wants) (u ∷ us) (g ∷ gs) (v ∷ vs) n s h =
      let parts = or_parts (not (suits m want u)) (some_taken (λ want u. not (suits m want u)) wants us) s in
      (want_old want u g v (λ o. (n o).0) (is_true (suits m want u) parts.0) h.0, taken_old wants us gs vs (λ o. (n o).1) parts.1 h.1)
  taken_old wants us gs vs n s h = absurd h

-- ---- `this` is taken as an object by `getfield` alone

abbrev pub is_object : Want → Bool
is_object (AnObject class) = true
is_object want = false

abbrev pub object_at : List Want → ℕ → Bool
object_at [] k = false
object_at (want ∷ wants) zero = is_object want
object_at (want ∷ wants) (suc k) = object_at wants k

-- an instruction that may take an array of an owned field as an object
abbrev pub takes_any : Op → Bool
takes_any (ops.Getfield i) = true
takes_any ops.Iaload = true
takes_any ops.Iastore = true
takes_any ops.Arraylength = true
takes_any op = false

abbrev pub is_getfield : Op → Bool
is_getfield (ops.Getfield i) = true
is_getfield op = false

module _ (p : Program) (m : MethodInfo) (pc class : ℕ) where
  none_at : (wants : List Want) → AllByRecursion (λ want. is_object want ≡ false) wants → (k : ℕ) → object_at wants k ≡ false
  none_at [] a k = refl
  none_at (want ∷ wants) a zero = a.0
  none_at (want ∷ wants) a (suc k) = none_at wants a.1 k

  any_value : (n : ℕ) → AllByRecursion (λ want. is_object want ≡ false) (any_values n)
  any_value zero = tt
  any_value (suc n) = (refl, any_value n)

  put_free : (f : Option FieldInfo) (o : Bool) (k : ℕ) → object_at (put_row f).takes k ≡ true → ((k == 1) && o) ≡ false
  put_free (Some f) o zero e = refl
  put_free (Some f) o (suc zero) e = absurd (cc)
  put_free f o k e = absurd (cc)

  -- what is taken as an object has no tag of `this`, but by `getfield`, and is no array of an owned field, but by four instructions
  pub object_free : (op : Op) (target : Target) (k : ℕ) → object_at (row p m pc target op).takes k ≡ true
      → (is_getfield op ≡ false → may_take p class op target k ≡ false) × (takes_any op ≡ false → may_take_array op k ≡ false)
  object_free (ops.Stack move) target k e = absurd (let z = none_at (any_values (move_takes move)) (any_value (move_takes move)) k in cc)
  object_free (ops.Putfield i) (Field f) k e = (λ g. put_free (slice_get p.fields f) _ k e, λ g. refl)
  object_free (ops.Invokespecial i) (Init started) zero e = absurd (cc)
  object_free (ops.Invokespecial i) (Init started) (suc k) e = absurd (cc)
  object_free op target k e = (λ g. cc, λ g. cc)

-- a `getfield` is among them
pub no_getfield : (op : Op) → takes_any op ≡ false → is_getfield op ≡ false
no_getfield (ops.Getfield i) e = absurd (cc)
no_getfield op e = refl

pub no_read : (fi : ℕ) (op : Op) (target : Target) → is_getfield op ≡ false → is_read_of fi op target ≡ true → ⊥
no_read fi (ops.Getfield i) target e h = (let bad : true ≡ false = e in cc)
no_read fi op target e h = (let bad : false ≡ true = h in cc)

takes_no_this : (wants : List Want) (gs : List Tag) → ((k : ℕ) → k < length wants → object_at wants k ≡ true → slice_index_or gs k Untagged ≢ This) → TakesNoThis wants gs
takes_no_this (want ∷ wants) (g ∷ gs) f = (one want (λ e. f 0 (omega arith) e), takes_no_this wants gs (λ k l e. f (suc k) (omega (arith, l)) e))
  where
    one : (want : Want) → (is_object want ≡ true → g ≢ This) → NoThis want g
    one (AnObject class) f = f refl
    one want f = tt
takes_no_this wants gs f = tt

-- so each object that is taken is finished
module _ (building : Building) where
  open building use {design, c, marked, frozen, owning, w, next, t}

  pub takes_old : (h : ℕ) (f : Frame) (k : FrameIn building h Runs f) → IsFinished w next 0 → is_getfield k.stands.insn.op ≡ false → puts_owned owning.owned k.stands.insn.op k.stands.target ≡ false → TakenOld (IsFinished w next) (row_at c f k.stands).takes f.stack
  takes_old h f k null get plain =
      taken_old k.stands.method (IsFinished w next) null (IsFresh w t h Runs) (builds frozen k.stands.method) (makes_frozen frozen k.stands.method) f.receiver (row_at c f k.stands).takes k.stands.types.stack k.stands.tags.stack f.stack
      (λ own. takes_no_this (row_at c f k.stands).takes k.stands.tags.stack
      (λ n l e this. (let may = (inside_at design f k.stands own).taken k.stands.number k.stands.insn k.stands.target k.stands.tags k.stands.at n l this in
      let free = (object_free c.program k.stands.method k.stands.insn.pc k.stands.method.class k.stands.insn.op k.stands.target n e).0 get in cc))) (suit_at c marked f k.stands)
      (plain_stack building h f k plain)
