-- Laws of lists and of answers that belong to no crate.
use Rattle.std.{proofs.{Common.{◌≡◌, List, [], ◌∷◌, ◌++◌, map, Some, ◌∙◌}, lemmas.List.append_assoc}, specs.List.AllByRecursion}

-- one item more is read, and the rest is as before
pub one_more : {A : Type 0} (front : List A) (x : A) (more all : List A) → front ++ x ∷ more ≡ all → (front ++ x ∷ []) ++ more ≡ all
one_more front x more all h = append_assoc front (x ∷ []) more ∙ h

pub all_mapped : {X Y : Type 0} (P : Y → Type 0) (f : X → Y) → ((x : X) → P (f x)) → (xs : List X) → AllByRecursion P (map f xs)
all_mapped P f h [] = tt
all_mapped P f h (x ∷ xs) = (h x, all_mapped P f h xs)

pub all_weaker : {X : Type 0} (P Q : X → Type 0) → ((x : X) → P x → Q x) → (xs : List X) → AllByRecursion P xs → AllByRecursion Q xs
all_weaker P Q w [] h = tt
all_weaker P Q w (x ∷ xs) h = (w x h.0, all_weaker P Q w xs h.1)

pub same_some : {X : Type 0} {x y : X} → Some x ≡ Some y → x ≡ y
same_some e = cc
