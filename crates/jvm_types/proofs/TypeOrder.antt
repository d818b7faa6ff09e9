-- The order of types: it is one, and a meet is the least type that both are below.
use Rattle.std.{proofs.{Common.{◌≡◌, ℕ, Bool, true, false, List, [], ◌∷◌, refl, ap, sym, subst, ◌∙◌, arith, ◌||◌, ◌==◌, if◌then◌else◌}, lemmas.Bool.Decides.nat_tests}, specs.List.AllByRecursion}
use Rattle.lists.proofs.ListLaws.{all_weaker}
use Rattle.jvm_types.specs.{ClassTree.{super_class, ancestors, is_subclass, first_above, common_ancestor}, Numbers.has_number, Types.{is_below, meet, if_same_place}}
use Rattle.jvm_types.{specs.declared.{class_numbers.TheConstants.OBJECT_CLASS, typing.VType.{VType, TheVariants.{Int, Null, Ref, This, New, Top}}}, proofs.ClassCases.by_class}

-- ---- lists of numbers

here : (x y : ℕ) (xs : List ℕ) → x ≡ y → has_number (x ∷ xs) y ≡ true
here x y xs e = first_true (x == y) (has_number xs y) (grind (arith, nat_tests, e))
  where
    first_true : (a b : Bool) → a ≡ true → (a || b) ≡ true
    first_true a b e = rw e refl

there : (x y : ℕ) (xs : List ℕ) → has_number xs y ≡ true → has_number (x ∷ xs) y ≡ true
there x y xs h = second_true (x == y) (has_number xs y) h
  where
    second_true : (a b : Bool) → b ≡ true → (a || b) ≡ true
    second_true true b e = refl
    second_true false b e = e

-- what holds at each number of a list holds at one that is in it
pub pick : {P : Type 0} (xs : List ℕ) (y : ℕ) → has_number xs y ≡ true → AllByRecursion (λ x. x ≡ y → P) xs → P
pick [] y h f = absurd (cc)
pick (x ∷ xs) y h f = by_first (x == y) refl h f.0 (λ g. pick xs y g f.1)
  where
    by_first : {P : Type 0} (t : Bool) → (x == y) ≡ t → (t || has_number xs y) ≡ true → (x ≡ y → P) → (has_number xs y ≡ true → P) → P
    by_first true e h f more = f (grind (arith, nat_tests, e))
    by_first false e h f more = more h

-- what holds of all numbers holds of one among them
pub picked : (P : ℕ → Type 0) (xs : List ℕ) (y : ℕ) → AllByRecursion P xs → has_number xs y ≡ true → P y
picked P xs y all there = pick {P = P y} xs y there (all_weaker P (λ x. x ≡ y → P y) (λ x h e. subst P e h) xs all)

abbrev AllIn : List ℕ → List ℕ → Type 0
AllIn ys xs = AllByRecursion (λ x. has_number ys x ≡ true) xs

within : (xs ys : List ℕ) (y : ℕ) → AllIn ys xs → has_number xs y ≡ true → has_number ys y ≡ true
within [] ys y all h = absurd (cc)
within (x ∷ xs) ys y all h = by_first (x == y) refl h all.0 (λ g. within xs ys y all.1 g)
  where
    by_first : (t : Bool) → (x == y) ≡ t → (t || has_number xs y) ≡ true → has_number ys x ≡ true → (has_number xs y ≡ true → has_number ys y ≡ true) → has_number ys y ≡ true
    by_first true e h f more = let same : x ≡ y = grind (arith, nat_tests, e) in subst (λ (z : ℕ). has_number ys z ≡ true) same f
    by_first false e h f more = more h

-- ---- the tree

-- no class is more than four steps from Object
four_up : (c : ℕ) → super_class (super_class (super_class (super_class c))) ≡ OBJECT_CLASS
four_up = by_class (λ c. super_class (super_class (super_class (super_class c))) ≡ OBJECT_CLASS) (refl, (refl, (refl, (refl, (refl, (refl, (refl, (refl, (refl, (refl, (refl, (refl, (refl, (refl, (refl, (refl, tt)))))))))))))))) (λ c. refl)

five_up : (c : ℕ) → super_class (super_class (super_class (super_class c))) ≡ super_class (super_class (super_class (super_class (super_class c))))
five_up c = four_up c ∙ ap super_class (sym (four_up c))

six_up : (c : ℕ) → super_class (super_class (super_class (super_class c))) ≡ super_class (super_class (super_class (super_class (super_class (super_class c)))))
six_up c = five_up c ∙ ap super_class (five_up c)

seven_up : (c : ℕ) → super_class (super_class (super_class (super_class c))) ≡ super_class (super_class (super_class (super_class (super_class (super_class (super_class c))))))
seven_up c = five_up c ∙ ap super_class (six_up c)

eight_up : (c : ℕ) → super_class (super_class (super_class (super_class c))) ≡ super_class (super_class (super_class (super_class (super_class (super_class (super_class (super_class c)))))))
eight_up c = five_up c ∙ ap super_class (seven_up c)

-- the place of an ancestor
at0 : (c y : ℕ) → c ≡ y → has_number (ancestors c) y ≡ true
at0 c y e = here c y (super_class c ∷ super_class (super_class c) ∷ super_class (super_class (super_class c)) ∷ super_class (super_class (super_class (super_class c))) ∷ []) e

at1 : (c y : ℕ) → super_class c ≡ y → has_number (ancestors c) y ≡ true
at1 c y e = there c y (super_class c ∷ super_class (super_class c) ∷ super_class (super_class (super_class c)) ∷ super_class (super_class (super_class (super_class c))) ∷ []) (here (super_class c) y (super_class (super_class c) ∷ super_class (super_class (super_class c)) ∷ super_class (super_class (super_class (super_class c))) ∷ []) e)

at2 : (c y : ℕ) → super_class (super_class c) ≡ y → has_number (ancestors c) y ≡ true
at2 c y e = there c y (super_class c ∷ super_class (super_class c) ∷ super_class (super_class (super_class c)) ∷ super_class (super_class (super_class (super_class c))) ∷ []) (there (super_class c) y (super_class (super_class c) ∷ super_class (super_class (super_class c)) ∷ super_class (super_class (super_class (super_class c))) ∷ []) (here (super_class (super_class c)) y (super_class (super_class (super_class c)) ∷ super_class (super_class (super_class (super_class c))) ∷ []) e))

at3 : (c y : ℕ) → super_class (super_class (super_class c)) ≡ y → has_number (ancestors c) y ≡ true
at3 c y e = there c y (super_class c ∷ super_class (super_class c) ∷ super_class (super_class (super_class c)) ∷ super_class (super_class (super_class (super_class c))) ∷ []) (there (super_class c) y (super_class (super_class c) ∷ super_class (super_class (super_class c)) ∷ super_class (super_class (super_class (super_class c))) ∷ []) (there (super_class (super_class c)) y (super_class (super_class (super_class c)) ∷ super_class (super_class (super_class (super_class c))) ∷ []) (here (super_class (super_class (super_class c))) y (super_class (super_class (super_class (super_class c))) ∷ []) e)))

at4 : (c y : ℕ) → super_class (super_class (super_class (super_class c))) ≡ y → has_number (ancestors c) y ≡ true
at4 c y e = there c y (super_class c ∷ super_class (super_class c) ∷ super_class (super_class (super_class c)) ∷ super_class (super_class (super_class (super_class c))) ∷ []) (there (super_class c) y (super_class (super_class c) ∷ super_class (super_class (super_class c)) ∷ super_class (super_class (super_class (super_class c))) ∷ []) (there (super_class (super_class c)) y (super_class (super_class (super_class c)) ∷ super_class (super_class (super_class (super_class c))) ∷ []) (there (super_class (super_class (super_class c))) y (super_class (super_class (super_class (super_class c))) ∷ []) (here (super_class (super_class (super_class (super_class c)))) y [] e))))

-- the ancestors of an ancestor are ancestors
above : (c d : ℕ) → has_number (ancestors c) d ≡ true → AllIn (ancestors c) (ancestors d)
above c d h = pick (ancestors c) d h (
  λ e. subst (λ (z : ℕ). AllIn (ancestors c) (ancestors z)) e (at0 c c refl, (at1 c (super_class c) refl, (at2 c (super_class (super_class c)) refl, (at3 c (super_class (super_class (super_class c))) refl, (at4 c (super_class (super_class (super_class (super_class c)))) refl, tt))))),
  (
    λ e. subst (λ (z : ℕ). AllIn (ancestors c) (ancestors z)) e (at1 c (super_class c) refl, (at2 c (super_class (super_class c)) refl, (at3 c (super_class (super_class (super_class c))) refl, (at4 c (super_class (super_class (super_class (super_class c)))) refl, (at4 c (super_class (super_class (super_class (super_class (super_class c))))) (five_up c), tt))))),
    (
      λ e. subst (λ (z : ℕ). AllIn (ancestors c) (ancestors z)) e (at2 c (super_class (super_class c)) refl, (at3 c (super_class (super_class (super_class c))) refl, (at4 c (super_class (super_class (super_class (super_class c)))) refl, (at4 c (super_class (super_class (super_class (super_class (super_class c))))) (five_up c), (at4 c (super_class (super_class (super_class (super_class (super_class (super_class c)))))) (six_up c), tt))))),
      (
        λ e. subst (λ (z : ℕ). AllIn (ancestors c) (ancestors z)) e (at3 c (super_class (super_class (super_class c))) refl, (at4 c (super_class (super_class (super_class (super_class c)))) refl, (at4 c (super_class (super_class (super_class (super_class (super_class c))))) (five_up c), (at4 c (super_class (super_class (super_class (super_class (super_class (super_class c)))))) (six_up c), (at4 c (super_class (super_class (super_class (super_class (super_class (super_class (super_class c))))))) (seven_up c), tt))))),
        (
          λ e. subst (λ (z : ℕ). AllIn (ancestors c) (ancestors z)) e (at4 c (super_class (super_class (super_class (super_class c)))) refl, (at4 c (super_class (super_class (super_class (super_class (super_class c))))) (five_up c), (at4 c (super_class (super_class (super_class (super_class (super_class (super_class c)))))) (six_up c), (at4 c (super_class (super_class (super_class (super_class (super_class (super_class (super_class c))))))) (seven_up c), (at4 c (super_class (super_class (super_class (super_class (super_class (super_class (super_class (super_class c)))))))) (eight_up c), tt))))),
          tt,
        ),
      ),
    ),
  ),
)

pub subclass_self : (c : ℕ) → is_subclass c c ≡ true
unfolding is_subclass
subclass_self c = at0 c c refl

pub subclass_object : (c : ℕ) → is_subclass c OBJECT_CLASS ≡ true
unfolding is_subclass
subclass_object c = at4 c OBJECT_CLASS (four_up c)

pub subclass_trans : (c d e : ℕ) → is_subclass c d ≡ true → is_subclass d e ≡ true → is_subclass c e ≡ true
unfolding is_subclass
subclass_trans c d e h k = within (ancestors d) (ancestors c) e (above c d h) k

-- ---- the nearest common ancestor

first_left : (c d : ℕ) (xs : List ℕ) → AllIn (ancestors c) xs → has_number (ancestors c) (first_above d xs) ≡ true
first_left c d [] all = at4 c OBJECT_CLASS (four_up c)
first_left c d (x ∷ xs) all = by_first (is_subclass d x) all.0 (first_left c d xs all.1)
  where
    by_first : (t : Bool) → has_number (ancestors c) x ≡ true → has_number (ancestors c) (first_above d xs) ≡ true → has_number (ancestors c) (if t then x else first_above d xs) ≡ true
    by_first true h more = h
    by_first false h more = more

first_right : (d : ℕ) (xs : List ℕ) → is_subclass d (first_above d xs) ≡ true
first_right d [] = subclass_object d
first_right d (x ∷ xs) = by_first (is_subclass d x) refl (first_right d xs)
  where
    by_first : (t : Bool) → is_subclass d x ≡ t → is_subclass d (first_above d xs) ≡ true → is_subclass d (if t then x else first_above d xs) ≡ true
    by_first true e more = e
    by_first false e more = more

-- each number of a list is below those that follow it
abbrev Chain : List ℕ → Type 0
Chain [] = Unit {0}
Chain (x ∷ xs) = AllIn (ancestors x) (x ∷ xs) × Chain xs

chain : (c : ℕ) → Chain (ancestors c)
chain c = ((at0 c c refl, (at1 c (super_class c) refl, (at2 c (super_class (super_class c)) refl, (at3 c (super_class (super_class (super_class c))) refl, (at4 c (super_class (super_class (super_class (super_class c)))) refl, tt))))), ((at0 (super_class c) (super_class c) refl, (at1 (super_class c) (super_class (super_class c)) refl, (at2 (super_class c) (super_class (super_class (super_class c))) refl, (at3 (super_class c) (super_class (super_class (super_class (super_class c)))) refl, tt)))), ((at0 (super_class (super_class c)) (super_class (super_class c)) refl, (at1 (super_class (super_class c)) (super_class (super_class (super_class c))) refl, (at2 (super_class (super_class c)) (super_class (super_class (super_class (super_class c)))) refl, tt))), ((at0 (super_class (super_class (super_class c))) (super_class (super_class (super_class c))) refl, (at1 (super_class (super_class (super_class c))) (super_class (super_class (super_class (super_class c)))) refl, tt)), ((at0 (super_class (super_class (super_class (super_class c)))) (super_class (super_class (super_class (super_class c)))) refl, tt), tt)))))

as_subclass : (c d : ℕ) → has_number (ancestors c) d ≡ true → is_subclass c d ≡ true
unfolding is_subclass
as_subclass c d h = h

as_ancestor : (c d : ℕ) → is_subclass c d ≡ true → has_number (ancestors c) d ≡ true
unfolding is_subclass
as_ancestor c d h = h

first_least : (d e : ℕ) (xs : List ℕ) → Chain xs → has_number xs e ≡ true → is_subclass d e ≡ true → is_subclass (first_above d xs) e ≡ true
first_least d e [] links h k = absurd (cc)
first_least d e (x ∷ xs) links h k = by_first (is_subclass d x) refl (λ g. first_least d e xs links.1 g k)
  where
    in_rest : (t : Bool) → (x == e) ≡ t → is_subclass d x ≡ false → (t || has_number xs e) ≡ true → has_number xs e ≡ true
    in_rest true f g h = let same : x ≡ e = grind (arith, nat_tests, f) in absurd (cc)
    in_rest false f g h = h

    by_first : (t : Bool) → is_subclass d x ≡ t → (has_number xs e ≡ true → is_subclass (first_above d xs) e ≡ true) → is_subclass (if t then x else first_above d xs) e ≡ true
    by_first true f more = as_subclass x e (within (x ∷ xs) (ancestors x) e links.0 h)
    by_first false f more = more (in_rest (x == e) refl f h)

pub common_left : (c d : ℕ) → is_subclass c (common_ancestor c d) ≡ true
unfolding is_subclass common_ancestor
common_left c d = first_left c d (ancestors c) (above c c (at0 c c refl))

pub common_right : (c d : ℕ) → is_subclass d (common_ancestor c d) ≡ true
unfolding common_ancestor
common_right c d = first_right d (ancestors c)

pub common_least : (c d e : ℕ) → is_subclass c e ≡ true → is_subclass d e ≡ true → is_subclass (common_ancestor c d) e ≡ true
unfolding common_ancestor
common_least c d e h k = first_least d e (ancestors c) (chain c) (as_ancestor c e h) k

-- ---- types

pub below_self : (t : VType) → is_below t t ≡ true
below_self (Ref c) = subclass_self c
below_self (New pc) = grind (arith, nat_tests)
below_self t = refl

pub below_top : (t : VType) → is_below t Top ≡ true
below_top t = refl

from_top : (t v : VType) → is_below Top v ≡ true → is_below t v ≡ true
from_top t Top k = below_top t
from_top t v k = absurd (cc)

null_below : (d : ℕ) (v : VType) → is_below (Ref d) v ≡ true → is_below Null v ≡ true
null_below d Null k = refl
null_below d (Ref e) k = refl
null_below d Top k = refl
null_below d v k = absurd (cc)

class_below : (c d : ℕ) (v : VType) → is_subclass c d ≡ true → is_below (Ref d) v ≡ true → is_below (Ref c) v ≡ true
class_below c d (Ref e) h k = subclass_trans c d e h k
class_below c d Top h k = refl
class_below c d v h k = absurd (cc)

place_below : (p q : ℕ) (v : VType) → (p == q) ≡ true → is_below (New q) v ≡ true → is_below (New p) v ≡ true
place_below p q (New r) h k = grind (arith, nat_tests, h, k)
place_below p q Top h k = refl
place_below p q v h k = absurd (cc)

pub below_trans : (t u v : VType) → is_below t u ≡ true → is_below u v ≡ true → is_below t v ≡ true
below_trans t Top v h k = from_top t v k
below_trans Int Int v h k = k
below_trans Null Null v h k = k
below_trans Null (Ref d) v h k = null_below d v k
below_trans (Ref c) (Ref d) v h k = class_below c d v h k
below_trans This This v h k = k
below_trans (New p) (New q) v h k = place_below p q v h k
below_trans t u v h k = absurd (cc)

below_place : (t : VType) (b : Bool) → is_below t t ≡ true → is_below t (if_same_place b t) ≡ true
below_place t true h = h
below_place t false h = below_top t

pub meet_left : (t u : VType) → is_below t (meet t u) ≡ true
meet_left Int Int = refl
meet_left Null Null = refl
meet_left This This = refl
meet_left Top Top = refl
meet_left (Ref c) Null = subclass_self c
meet_left (Ref c) (Ref d) = common_left c d
meet_left (New p) (New q) = below_place (New p) (p == q) (below_self (New p))
meet_left t u = refl

other_place : (p q : ℕ) (b : Bool) → (p == q) ≡ b → is_below (New q) (if_same_place b (New p)) ≡ true
other_place p q true e = grind (arith, nat_tests, e)
other_place p q false e = refl

pub meet_right : (t u : VType) → is_below u (meet t u) ≡ true
meet_right Int Int = refl
meet_right Null Null = refl
meet_right This This = refl
meet_right Top Top = refl
meet_right Null (Ref d) = subclass_self d
meet_right (Ref c) (Ref d) = common_right c d
meet_right (New p) (New q) = other_place p q (p == q) refl
meet_right t u = refl

one_place : (p q r : ℕ) (b : Bool) → (p == q) ≡ b → (p == r) ≡ true → (q == r) ≡ true → is_below (if_same_place b (New p)) (New r) ≡ true
one_place p q r true e f g = f
one_place p q r false e f g = grind (arith, nat_tests, e, f, g)

pub meet_least : (t u v : VType) → is_below t v ≡ true → is_below u v ≡ true → is_below (meet t u) v ≡ true
meet_least t u Top h k = below_top (meet t u)
meet_least Int Int v h k = k
meet_least Null Null v h k = k
meet_least Null (Ref d) v h k = k
meet_least (Ref c) Null v h k = h
meet_least (Ref c) (Ref d) (Ref e) h k = common_least c d e h k
meet_least This This v h k = k
meet_least (New p) (New q) (New r) h k = one_place p q r (p == q) refl h k
meet_least t u v h k = absurd (cc)
