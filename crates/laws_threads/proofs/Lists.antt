-- Items of lists, and lists whose items are related.
use Rattle.std.{specs.List.AllZip, proofs.Common.{◌≡◌, ℕ, option_map, zero, suc, List, [], ◌∷◌, ◌++◌, length, Some, refl, ap, sym, subst, ◌∙◌, slice_get, map, reverse}}
use Rattle.std.proofs.lemmas.{List.{reverse-append, map-append, reverse-reverse}, Option.slice_get-map, Slice.Zip.AllZip-long}
use Rattle.lists.proofs.ListLaws.{same_some}
use Rattle.jvm_types.proofs.ScopeLaws.{zip_append}

-- ---- items

-- an item of a list that was mapped
pub mapped_at : {A B : Type 0} (g : A → B) (xs : List A) (i : ℕ) (y : B) → slice_get (map g xs) i ≡ Some y → (x : A) × (slice_get xs i ≡ Some x) × (g x ≡ y)
mapped_at g [] i y e = absurd (cc)
mapped_at g (x ∷ xs) zero y e = (x, refl, same_some e)
mapped_at g (x ∷ xs) (suc i) y e = mapped_at g xs i y e

pub map_at : {A B : Type 0} (g : A → B) (xs : List A) (i : ℕ) (x : A) → slice_get xs i ≡ Some x → slice_get (map g xs) i ≡ Some (g x)
map_at g xs i x e = slice_get-map g xs i ∙ ap (option_map g) e

-- ---- lists whose items are related

pub zip_at : {A B : Type 0} (R : A → B → Type 0) (xs : List A) (ys : List B) (i : ℕ) (x : A) (y : B) → AllZip R xs ys → slice_get xs i ≡ Some x → slice_get ys i ≡ Some y → R x y
zip_at R [] ys i x y all e f = absurd (cc)
zip_at R (a ∷ xs) [] i x y all e f = absurd all
zip_at R (a ∷ xs) (b ∷ ys) zero x y all e f = let e : a ≡ x = cc in let f : b ≡ y = cc in subst (λ z. R z y) e (subst (λ z. R a z) f all.0)
zip_at R (a ∷ xs) (b ∷ ys) (suc i) x y all e f = zip_at R xs ys i x y all.1 e f

pub zip_has : {A B : Type 0} (R : A → B → Type 0) (xs : List A) (ys : List B) (i : ℕ) (x : A) → AllZip R xs ys → slice_get xs i ≡ Some x → (y : B) × (slice_get ys i ≡ Some y)
zip_has R [] ys i x all e = absurd (cc)
zip_has R (a ∷ xs) [] i x all e = absurd all
zip_has R (a ∷ xs) (b ∷ ys) zero x all e = (b, refl)
zip_has R (a ∷ xs) (b ∷ ys) (suc i) x all e = zip_has R xs ys i x all.1 e

pub zip_length : {A B : Type 0} (R : A → B → Type 0) (xs : List A) (ys : List B) → AllZip R xs ys → length xs ≡ length ys
zip_length R xs ys f = sym (AllZip-long R xs ys f)

pub zip_reverse : {A B : Type 0} (R : A → B → Type 0) (xs : List A) (ys : List B) → AllZip R xs ys → AllZip R (reverse xs) (reverse ys)
zip_reverse R [] [] f = f
zip_reverse R (x ∷ xs) (y ∷ ys) f = rw (reverse-append (x ∷ []) xs, reverse-append (y ∷ []) ys) (zip_append R (reverse xs) (x ∷ []) (reverse ys) (y ∷ []) (zip_reverse R xs ys f.1) (f.0, tt))
zip_reverse R xs ys f = absurd (assumption)

-- ---- maps

map_reverse : {A B : Type 0} (f : A → B) (xs : List A) → map f (reverse xs) ≡ reverse (map f xs)
map_reverse f [] = refl
map_reverse f (x ∷ xs) = ap (map f) (reverse-append (x ∷ []) xs) ∙ map-append f (reverse xs) (x ∷ []) ∙ ap (λ ys. ys ++ f x ∷ []) (map_reverse f xs) ∙ sym (reverse-append (f x ∷ []) (map f xs))

pub reverse_map : {A B : Type 0} (f : A → B) (xs : List A) → reverse (map f (reverse xs)) ≡ map f xs
reverse_map f xs = ap reverse (map_reverse f xs) ∙ reverse-reverse (map f xs)
