-- Of a type that suits a want every type below it does, and uninitialised types are below themselves and Top alone.
use Rattle.std.proofs.Common.{◌≡◌, ℕ, Bool, true, false, ◌||◌, ◌⊎◌, ⊎_elim, refl, ap, sym, subst, inl, inr, ◌∙◌, arith, eqb-true, if◌then◌else◌}
use Rattle.std.proofs.lemmas.Bool.{or_cases, or_left, or_right, Decides.nat_tests}
use Rattle.jvm_types.specs.{Types.{is_below, is_uninitialised, same_type}, Verifying.suits, declared.{class_numbers.TheConstants.OBJECT_CLASS, op_row.Want.Want}}
use Rattle.jvm_types.specs.declared.{op_row.Want.TheVariants.{AnyValue, AnInt, AnObject, AnyReference, AHolder, ToStart}, program.MethodInfo.MethodInfo, typing.VType.VType}
use Rattle.jvm_types.{specs.declared.typing.VType.TheVariants.{Int, Ref, This, New, Top}, proofs.TypeOrder.{below_top, below_trans, subclass_self}}

-- ---- uninitialised types

pub below_object : (t u : VType) → is_uninitialised u ≡ true → is_below t u ≡ true → t ≡ u
below_object This This e h = refl
below_object (New p) (New q) e h = ap New (eqb-true p q h)
below_object t This e h = absurd (cc)
below_object t (New q) e h = absurd (cc)
below_object t u e h = absurd (cc)

pub above_object : (t u : VType) → is_uninitialised t ≡ true → is_below t u ≡ true → (t ≡ u) ⊎ (u ≡ Top)
above_object t Top e h = inr refl
above_object This This e h = inl refl
above_object (New p) (New q) e h = inl (ap New (eqb-true p q h))
above_object This u e h = absurd (cc)
above_object (New p) u e h = absurd (cc)
above_object t u e h = absurd (cc)

pub same_object : (o t : VType) → is_uninitialised o ≡ true → same_type o t ≡ true → o ≡ t
same_object This This e h = refl
same_object (New p) (New q) e h = ap New (eqb-true p q h)
same_object o t e h = absurd (cc)

pub same_self : (o : VType) → is_uninitialised o ≡ true → same_type o o ≡ true
same_self This e = refl
same_self (New p) e = grind (arith, nat_tests)
same_self o e = absurd (cc)

-- where a value is the object, what is below it is
same_below : (o t u : VType) → is_uninitialised o ≡ true → is_below t u ≡ true → same_type o u ≡ true → same_type o t ≡ true
same_below o t u e h s =
    let at : o ≡ u = same_object o u e s in
    let below : t ≡ u = below_object t u (subst (λ (v : VType). is_uninitialised v ≡ true) at e) h in
    subst (λ (v : VType). same_type o v ≡ true) (at ∙ sym below) (same_self o e)

-- and where it is not, but one below it is, nothing is known of it
same_above : (o t u : VType) → is_uninitialised o ≡ true → is_below t u ≡ true → same_type o t ≡ true → same_type o u ≡ false → u ≡ Top
same_above o t u e h s d = ⊎_elim (λ (at : o ≡ u). let s : same_type o u ≡ true = subst (λ (v : VType). same_type o v ≡ true) at (same_self o e) in absurd (cc)) (λ (top : u ≡ Top). top)
    (above_object o u e (subst (λ (v : VType). is_below v u ≡ true) (sym (same_object o t e s)) h))

pub one_initialised : (o : VType) (class : ℕ) (t u : VType) → is_uninitialised o ≡ true → is_below t u ≡ true
    → is_below (if same_type o t then Ref class else t) (if same_type o u then Ref class else u) ≡ true
one_initialised o class t u e h = by_tests (same_type o t) (same_type o u) refl refl
  where
    by_tests : (a b : Bool) → same_type o t ≡ a → same_type o u ≡ b → is_below (if a then Ref class else t) (if b then Ref class else u) ≡ true
    by_tests true true a b = subclass_self class
    by_tests true false a b = subst (λ (v : VType). is_below (Ref class) v ≡ true) (sym (same_above o t u e h a b)) (below_top (Ref class))
    by_tests false true a b = let c : same_type o t ≡ true = same_below o t u e h b in absurd (cc)
    by_tests false false a b = h

-- ---- wants

-- the receiver of an `<init>`
pub suits_start : (m : MethodInfo) (class : ℕ) (t : VType) → suits m (ToStart class) t ≡ true → is_uninitialised t ≡ true
suits_start m class This h = refl
suits_start m class (New pc) h = refl
suits_start m class t h = absurd (cc)

holder_below : (m : MethodInfo) (class : ℕ) (t u : VType) → is_below t u ≡ true → suits m (AHolder class) u ≡ true → suits m (AHolder class) t ≡ true
holder_below m class This This h k = k
holder_below m class t This h k = absurd (cc)
holder_below m class This u h k = absurd (cc)
holder_below m class t u h k = below_trans t u (Ref class) h k

reference_below : (t u : VType) → is_below t u ≡ true → (is_uninitialised u || is_below u (Ref OBJECT_CLASS)) ≡ true → (is_uninitialised t || is_below t (Ref OBJECT_CLASS)) ≡ true
reference_below t u h k = ⊎_elim
    (λ (e : is_uninitialised u ≡ true). or_left (is_uninitialised t) (is_below t (Ref OBJECT_CLASS)) (subst (λ (v : VType). is_uninitialised v ≡ true) (sym (below_object t u e h)) e))
    (λ (e : is_below u (Ref OBJECT_CLASS) ≡ true). or_right (is_uninitialised t) (is_below t (Ref OBJECT_CLASS)) (below_trans t u (Ref OBJECT_CLASS) h e))
    (or_cases (is_uninitialised u) (is_below u (Ref OBJECT_CLASS)) k)

pub suits_below : (m : MethodInfo) (want : Want) (t u : VType) → is_below t u ≡ true → suits m want u ≡ true → suits m want t ≡ true
suits_below m AnyValue t u h k = refl
suits_below m AnInt t u h k = below_trans t u Int h k
suits_below m (AnObject class) t u h k = below_trans t u (Ref class) h k
suits_below m AnyReference t u h k = reference_below t u h k
suits_below m (AHolder class) t u h k = holder_below m class t u h k
suits_below m (ToStart class) t u h k = subst (λ (v : VType). suits m (ToStart class) v ≡ true) (sym (below_object t u (suits_start m class u k) h)) k
