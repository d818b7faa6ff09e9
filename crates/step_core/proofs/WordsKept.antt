-- A load leaves the words as they are.
use Rattle.std.proofs.{Common.{◌≡◌, ℕ, List}, lemmas.List.set-get_or}
use Rattle.machine_types.specs.{Accesses.performed, declared.access.Access.TheVariants.Load}

pub load_keeps : (words : List ℕ) (w : ℕ) → performed words (Load w) ≡ words
load_keeps words w = set-get_or words w 0
