-- The line of each pc of a code, where its class has line numbers (JVMS 4.7.8).
use Rattle.std.specs.Prelude.{ℕ, List, [], ◌∷◌, length, map, Option, Some, None, slice_set}
use Rattle.std.specs.List.{range_with_len}
use Rattle.std.specs.Option.{option_or}
use Rattle.jvm_types.specs.declared.class_file.Attr.{Attr}
use Rattle.jvm_types.specs.declared.class_file.Code.{Code}
use Rattle.jvm_types.specs.declared.class_file.Constant.{Constant}
use Rattle.source_lines.specs.SourceLines.{latest_among, starts_of}
use Rattle.source_lines.specs.declared.line_starts.LineStart.{LineStart}

abbrev pub line_number : Option LineStart → Option ℕ
line_number None = None
line_number (Some start) = Some start.line

-- of the instruction at each pc, from 0 on
abbrev pub lines_of : List Constant → Code → List (Option ℕ)
lines_of pool code =
    map (λ pc. line_number (latest_among pool pc None code.attrs))
    (range_with_len 0 (length code.bytes))

-- ---- how they are found: those of the pcs at which lines begin, then those of all behind these

-- of two lines that begin at one pc the later counts
abbrev pub marked : List LineStart → List (Option ℕ) → List (Option ℕ)
marked [] lines = lines
marked (start ∷ starts) lines = marked starts (slice_set lines start.pc (Some start.line))

abbrev pub marked_among : List Constant → List Attr → List (Option ℕ) → List (Option ℕ)
marked_among pool [] lines = lines
marked_among pool (attr ∷ attrs) lines =
    marked_among pool attrs (marked (starts_of pool attr) lines)

abbrev pub carried : (before : Option ℕ) → List (Option ℕ) → List (Option ℕ)
carried before [] = []
carried before (line ∷ lines) = option_or line before ∷ carried (option_or line before) lines
