-- How long a stack is.
use Rattle.std.proofs.{Common.{◌≡◌, List, length, reverse}, lemmas.List.length-reverse}

pub length_reversed : {A : Type 0} → (xs : List A) → length (reverse xs) ≡ length xs
length_reversed xs = length-reverse xs
