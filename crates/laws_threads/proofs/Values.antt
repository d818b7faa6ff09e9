-- Values and the order of types; what a row asks of values is there under a typing.
use Rattle.std.proofs.Common.{◌≡◌, ℕ, zero, suc, ◌⊎◌, inl, inr, Bool, true, false, not, ◌||◌, List, [], ◌∷◌, length, Option, Some, None, refl, ap, sym, subst, ◌∙◌, arith, nat_lt, ◌==◌, slice_set, slice_index_or, map, drop, ◌++◌}
use Rattle.std.{specs.List.{AllZip, AllByRecursion}, proofs.lemmas.Bool.{or_parts, Decides.nat_tests}}
use Rattle.lists.proofs.TestLaws.{is_true, both_are_true}
use Rattle.jvm_types.specs.{ClassTree.is_subclass, CodeTable.{value_of, locals_after}, Members.is_static, Types.{TypeFrame, is_below, all_pairs, frame_below}}
use Rattle.jvm_types.specs.{Verifying.{suits, some_taken, new_class, is_class_of}, declared.{class_numbers.TheConstants.OBJECT_CLASS, op_row.Given.{Given, TheVariants.{Fresh, Taken, Local}}}}
use Rattle.jvm_types.specs.declared.{op_row.{Want.{Want, TheVariants.{AnyValue, AnInt, AnObject, AnyReference, AHolder, ToStart}}}, program.MethodInfo.MethodInfo, typing.VType.VType}
use Rattle.jvm_types.{specs.declared.typing.VType.TheVariants.{Int, Null, Ref, This, New, Top}, proofs.{FrameOrder.{stack_below, locals_below}, TypeOrder.{subclass_self, subclass_trans}}}
use Rattle.machine_types.specs.{Threads.Frame, Typed.{Classes, IsNullOr, Holds}}
use Rattle.laws_threads.{specs.Allowed.{WantHolds, TakenHold, GivenHolds, WriteHolds}, proofs.Tests.either_way}

-- the values of a frame have the types of a typing
pub record ValuesHold (m : MethodInfo) (is : Classes) (g : TypeFrame) (f : Frame) : Type 0 where
  pub stack : AllZip (Holds m is) g.stack f.stack
  pub locals : AllZip (Holds m is) g.locals f.locals
  pub receiver : is_static m.flags ≡ false → is m.class f.receiver

pub same_class : (c : Option ℕ) (d class : ℕ) → c ≡ Some d → is_class_of c class ≡ true → class ≡ d
same_class None d class e h = absurd (cc)
same_class (Some c) d class e h = let same : c ≡ d = cc in grind (arith, nat_tests, same, h)

module _ (m : MethodInfo) (is : Classes) where
  -- ---- a value of a type is of every type above it

  up : (v c d : ℕ) → is_subclass c d ≡ true → IsNullOr is c v → IsNullOr is d v
  up v c d h (inl e) = inl e
  up v c d h (inr (k, e, below)) = inr (k, e, subclass_trans k c d below h)

  pub holds_below : (t u : VType) (v : ℕ) → is_below t u ≡ true → Holds m is t v → Holds m is u v
  holds_below t Top v h k = tt
  holds_below Int Int v h k = k
  holds_below Null Null v h k = k
  holds_below Null (Ref class) v h k = inl k
  holds_below (Ref c) (Ref d) v h k = up v c d h k
  holds_below This This v h k = k
  holds_below (New p) (New q) v h k = (k.0, ap (new_class m.code m.targets) (grind (arith, nat_tests, h)) ∙ k.1, k.2)
  holds_below t u v h k = absurd (cc)

  pub all_below : (ts us : List VType) (s : List ℕ) → all_pairs is_below ts us ≡ true → AllZip (Holds m is) ts s → AllZip (Holds m is) us s
  all_below [] [] s h k = k
  all_below (t ∷ ts) (u ∷ us) (v ∷ s) h k =
      let parts = both_are_true (is_below t u) (all_pairs is_below ts us) h in
      (holds_below t u v parts.0 k.0, all_below ts us s parts.1 k.1)
  all_below ts us s h k = absurd (first_of (assumption, cc))

  pub values_below : (g h : TypeFrame) (f : Frame) → frame_below g h ≡ true → ValuesHold m is g f → ValuesHold m is h f
  values_below g h f e k = record {
    stack = all_below g.stack h.stack f.stack (stack_below g h e) k.stack;
    locals = all_below g.locals h.locals f.locals (locals_below g h e) k.locals;
    receiver = k.receiver;
  }

  -- ---- what a row takes

  this_is : (class v : ℕ) → (class == m.class) ≡ true → is m.class v → is class v
  this_is class v e h = let same : m.class ≡ class = grind (arith, nat_tests, e) in subst (λ (c : ℕ). is c v) same h

  pub want_holds : (want : Want) (t : VType) (v : ℕ) → suits m want t ≡ true → Holds m is t v → WantHolds m is want v
  want_holds AnyValue t v h k = tt
  want_holds AnInt t v h k = holds_below t Int v h k
  want_holds (AnObject class) t v h k = holds_below t (Ref class) v h k
  want_holds AnyReference t v h k = tt
  want_holds (AHolder class) This v h k = inr (class, this_is class v h k, subclass_self class)
  want_holds (AHolder class) Null v h k = inl k
  want_holds (AHolder class) (Ref c) v h k = up v c class h k
  want_holds (ToStart class) This v h k = either_way (λ (b : Bool). (class == m.class) ≡ b → (b || (class == OBJECT_CLASS)) ≡ true → (is class v) ⊎ (class ≡ OBJECT_CLASS)) (class == m.class)
      (λ e h. inl (this_is class v e k))
      (λ e h. inr (grind (arith, nat_tests, h))) refl h
  want_holds (ToStart class) (New pc) v h k = inl (subst (λ (c : ℕ). is c v) (sym (same_class (new_class m.code m.targets pc) k.0 class k.1 h)) k.2)
  want_holds want t v h k = absurd (cc)

  -- where no rule is broken, the values on top are what the row takes
  pub taken_hold : (wants : List Want) (ts : List VType) (s : List ℕ) → nat_lt (length ts) (length wants) ≡ false → some_taken (λ want t. not (suits m want t)) wants ts ≡ false
      → AllZip (Holds m is) ts s → TakenHold m is wants s
  taken_hold [] ts s e h k = tt
  taken_hold (want ∷ wants) (t ∷ ts) (v ∷ s) e h k =
      let parts = or_parts (not (suits m want t)) (some_taken (λ want t. not (suits m want t)) wants ts) h in
      (want_holds want t v (is_true (suits m want t) parts.0) k.0, taken_hold wants ts s (grind (arith, nat_tests, e)) parts.1 k.1)
  taken_hold wants ts s e h k = absurd (first_of (assumption, grind (arith, nat_tests, e)))

  -- ---- what a row gives

  item_holds : (ts : List VType) (s : List ℕ) (i : ℕ) → AllZip (Holds m is) ts s → Holds m is (slice_index_or ts i Top) (slice_index_or s i 0)
  item_holds [] [] i k = tt
  item_holds (t ∷ ts) (v ∷ s) zero k = k.0
  item_holds (t ∷ ts) (v ∷ s) (suc i) k = item_holds ts s i k.1
  item_holds ts s i k = absurd (assumption)

  value_holds : (ts ls : List VType) (s l : List ℕ) (made : ℕ) (given : Given) → AllZip (Holds m is) ts s → AllZip (Holds m is) ls l → GivenHolds m is made given
      → Holds m is (value_of Top (λ t. t) ts ls given) (value_of 0 (λ t. made) s l given)
  value_holds ts ls s l made (Fresh type) f g h = h
  value_holds ts ls s l made (Taken place) f g h = item_holds ts s place f
  value_holds ts ls s l made (Local i) f g h = item_holds ls l i g

  pub rest_holds : (n : ℕ) (ts : List VType) (s : List ℕ) → AllZip (Holds m is) ts s → AllZip (Holds m is) (drop n ts) (drop n s)
  rest_holds zero ts s k = k
  rest_holds (suc n) [] [] k = k
  rest_holds (suc n) (t ∷ ts) (v ∷ s) k = rest_holds n ts s k.1
  rest_holds (suc n) ts s k = absurd (assumption)

  pub stack_holds : (gives : List Given) (ts ls : List VType) (s l : List ℕ) (made : ℕ) (us : List VType) (u : List ℕ) → AllZip (Holds m is) ts s → AllZip (Holds m is) ls l
      → AllByRecursion (GivenHolds m is made) gives → AllZip (Holds m is) us u
      → AllZip (Holds m is) (map (value_of Top (λ t. t) ts ls) gives ++ us) (map (value_of 0 (λ t. made) s l) gives ++ u)
  stack_holds [] ts ls s l made us u f g h k = k
  stack_holds (given ∷ gives) ts ls s l made us u f g h k = (value_holds ts ls s l made given f g h.0, stack_holds gives ts ls s l made us u f g h.1 k)

  set_holds : (ls : List VType) (l : List ℕ) (i : ℕ) (t : VType) (v : ℕ) → AllZip (Holds m is) ls l → Holds m is t v → AllZip (Holds m is) (slice_set ls i t) (slice_set l i v)
  set_holds [] [] i t v k h = k
  set_holds (u ∷ ls) (w ∷ l) zero t v k h = (h, k.1)
  set_holds (u ∷ ls) (w ∷ l) (suc i) t v k h = (k.0, set_holds ls l i t v k.1 h)
  set_holds ls l i t v k h = absurd (assumption)

  pub locals_hold : (write : Option (ℕ × Given)) (ts ls : List VType) (s l : List ℕ) (made : ℕ) → AllZip (Holds m is) ts s → AllZip (Holds m is) ls l → WriteHolds m is made write
      → AllZip (Holds m is) (locals_after Top (λ t. t) write ts ls) (locals_after 0 (λ t. made) write s l)
  locals_hold None ts ls s l made f g h = g
  locals_hold (Some write) ts ls s l made f g h = set_holds ls l write.0 _ _ g (value_holds ts ls s l made write.1 f g h)
