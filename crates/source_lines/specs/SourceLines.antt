-- The line of the source that an instruction comes from, where the class has line numbers (JVMS
-- 4.7.8, 4.7.9).
use Rattle.std.specs.Prelude.{ℕ, ◌+◌, ◌*◌, nat_le, Bool, ◌&&◌, bytes_eq, List, [], ◌∷◌, drop, codes}
use Rattle.std.specs.Prelude.{Option, Some, None, if◌then◌else◌}
use Rattle.jvm_types.specs.ClassNames.{text_at}
use Rattle.jvm_types.specs.declared.class_file.Attr.{Attr}
use Rattle.jvm_types.specs.declared.class_file.Constant.{Constant}
use Rattle.source_lines.specs.declared.line_starts.LineStart.{LineStart}

abbrev pub number_of_bytes : (high low : ℕ) → ℕ
number_of_bytes high low = high * 256 + low

-- a pc and a line, each of two bytes
abbrev pub start_of : (a b c d : ℕ) → LineStart
start_of a b c d = record { pc = number_of_bytes a b; line = number_of_bytes c d }

-- where lines begin, of the bytes behind the count of a LineNumberTable: each a pc and a line
abbrev pub starts_in : List ℕ → List LineStart
starts_in (a ∷ b ∷ c ∷ d ∷ rest) = start_of a b c d ∷ starts_in rest
starts_in rest = []

-- an attribute of this name
abbrev pub is_named : List Constant → List ℕ → Attr → Bool
is_named pool name attr = bytes_eq (text_at pool attr.name) name

-- what an attribute of code has of them; there may be several of that name, and other attributes
-- have none
abbrev pub starts_of : List Constant → Attr → List LineStart
starts_of pool attr =
    if is_named pool (codes "LineNumberTable") attr then starts_in (drop 2 attr.body) else []

-- Of what was found before, and a start: the one that begins later, and not behind the pc.
abbrev pub later : ℕ → Option LineStart → LineStart → Option LineStart
later pc None start = if nat_le start.pc pc then Some start else None
later pc (Some found) start =
    if nat_le start.pc pc && nat_le found.pc start.pc then Some start else Some found

-- the last of those that begin latest, and not behind the pc
abbrev pub latest_start : ℕ → Option LineStart → List LineStart → Option LineStart
latest_start pc found [] = found
latest_start pc found (start ∷ starts) = latest_start pc (later pc found start) starts

-- and the one among all attributes of the code
abbrev pub latest_among : List Constant → ℕ → Option LineStart → List Attr → Option LineStart
latest_among pool pc found [] = found
latest_among pool pc found (attr ∷ attrs) =
    latest_among pool pc (latest_start pc found (starts_of pool attr)) attrs

-- the first two bytes of a body as an index
abbrev pub first_index : List ℕ → Option ℕ
first_index (high ∷ low ∷ rest) = Some (number_of_bytes high low)
first_index body = None

abbrev pub name_at : List Constant → Option ℕ → Option (List ℕ)
name_at pool None = None
name_at pool (Some i) = Some (text_at pool i)

-- the name of the source, of the first attribute of the class that has it
abbrev pub source_name : List Constant → List Attr → Option (List ℕ)
source_name pool [] = None
source_name pool (attr ∷ attrs) =
    if is_named pool (codes "SourceFile") attr then name_at pool (first_index attr.body)
    else source_name pool attrs
