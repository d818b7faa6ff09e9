-- What clap finds in the words.
use Rattle.std.proofs.{Common.{◌≡◌, false, length, List, [], ◌∷◌, Some, None, if◌then◌else◌, refl, ap, ◌∙◌, arith}, lemmas.Bool.ne_eqb}
use Rattle.clap.specs.{Faults.fault_of, Kinds.{IsAmong, Kinds}, Simple.{App, matches_of}, Walk.{Row, Text, is_empty}, declared.error.kind.ErrorKind.ErrorKind}
use Rattle.command_words.specs.Words.{found_in_words}

calm : (faults : Kinds) (rows : List Row) → faults ≡ [] → Some rows ≡ (if is_empty faults then Some rows else None)
calm faults rows none = rw none refl

faulty : (faults : Kinds) (rows : List Row) (k : ErrorKind) → IsAmong k faults → None ≡ (if is_empty faults then Some rows else None)
faulty [] rows k among = absurd among
faulty (x ∷ xs) rows k among =
    let some : is_empty (x ∷ xs) ≡ false = ne_eqb (length (x ∷ xs)) 0 (λ e. omega arith) in
    rw some refl

pub found_rows : (a : App) (words : List Text) (rows : List Row) → fault_of a words ≡ [] → rows ≡ matches_of a words → Some rows ≡ found_in_words a words
unfolding found_in_words
found_rows a words rows none found_in = ap Some found_in ∙ calm (fault_of a words) (matches_of a words) none

pub found_none : (a : App) (words : List Text) (k : ErrorKind) → IsAmong k (fault_of a words) → None ≡ found_in_words a words
unfolding found_in_words
found_none a words k among = faulty (fault_of a words) (matches_of a words) k among
