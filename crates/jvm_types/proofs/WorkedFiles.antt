-- Worked files: what the definitions give, computed. A class that adds and prints has no fault, nor has one with fields, two
-- methods and a table of handlers; then come the first faults of changed files.
use Rattle.std.proofs.Common.{◌≡◌, ℕ, List, [], ◌∷◌, ◌++◌, ◌+◌, take, Option, Some, None, refl, map, slice_set}
use Rattle.jvm_types.specs.ReadingClass.{attr_at, table_row_at, code_at, code_attr, value_attr, field_attr_at, method_attr_at, member_at, field_at, method_at, class_at, read_class, class_fault}
use Rattle.jvm_types.specs.ReadingPool.{index_at, text_wanted, utf8_at, one_at, two_at, word_entry_at, wide_at, tagged_at, constant_at, entries_at, both_wanted, entry_wanted, entries_wanted, pool_at}
use Rattle.jvm_types.specs.{ReadingSteps.{u1_at, u2_at, u4_at, byte_run_at, many_at, counted_at, whole, in_body}, declared.refusal.CRule.{CRule, TheVariants.{C1, C2, C3, C4, C5, C6, C7, C8, C9}}}

adds : List ℕ
adds = 202 ∷ 254 ∷ 186 ∷ 190 ∷ 0 ∷ 0 ∷ 0 ∷ 50 ∷ 0 ∷ 20 ∷ 1 ∷ 0 ∷ 1 ∷ 65 ∷ 7 ∷ 0 ∷ 1 ∷ 1 ∷ 0 ∷ 16 ∷ 106 ∷ 97 ∷ 118 ∷
    97 ∷ 47 ∷ 108 ∷ 97 ∷ 110 ∷ 103 ∷ 47 ∷ 79 ∷ 98 ∷ 106 ∷ 101 ∷ 99 ∷ 116 ∷ 7 ∷ 0 ∷ 3 ∷ 1 ∷ 0 ∷ 4 ∷ 105 ∷ 110 ∷
    105 ∷ 116 ∷ 1 ∷ 0 ∷ 3 ∷ 40 ∷ 41 ∷ 86 ∷ 1 ∷ 0 ∷ 4 ∷ 67 ∷ 111 ∷ 100 ∷ 101 ∷ 1 ∷ 0 ∷ 16 ∷ 106 ∷ 97 ∷ 118 ∷ 97 ∷
    47 ∷ 108 ∷ 97 ∷ 110 ∷ 103 ∷ 47 ∷ 83 ∷ 121 ∷ 115 ∷ 116 ∷ 101 ∷ 109 ∷ 7 ∷ 0 ∷ 8 ∷ 1 ∷ 0 ∷ 3 ∷ 111 ∷ 117 ∷ 116 ∷
    1 ∷ 0 ∷ 21 ∷ 76 ∷ 106 ∷ 97 ∷ 118 ∷ 97 ∷ 47 ∷ 105 ∷ 111 ∷ 47 ∷ 80 ∷ 114 ∷ 105 ∷ 110 ∷ 116 ∷ 83 ∷ 116 ∷ 114 ∷
    101 ∷ 97 ∷ 109 ∷ 59 ∷ 12 ∷ 0 ∷ 10 ∷ 0 ∷ 11 ∷ 9 ∷ 0 ∷ 9 ∷ 0 ∷ 12 ∷ 1 ∷ 0 ∷ 19 ∷ 106 ∷ 97 ∷ 118 ∷ 97 ∷ 47 ∷
    105 ∷ 111 ∷ 47 ∷ 80 ∷ 114 ∷ 105 ∷ 110 ∷ 116 ∷ 83 ∷ 116 ∷ 114 ∷ 101 ∷ 97 ∷ 109 ∷ 7 ∷ 0 ∷ 14 ∷ 1 ∷ 0 ∷ 7 ∷
    112 ∷ 114 ∷ 105 ∷ 110 ∷ 116 ∷ 108 ∷ 110 ∷ 1 ∷ 0 ∷ 4 ∷ 40 ∷ 73 ∷ 41 ∷ 86 ∷ 12 ∷ 0 ∷ 16 ∷ 0 ∷ 17 ∷ 10 ∷ 0 ∷
    15 ∷ 0 ∷ 18 ∷ 0 ∷ 33 ∷ 0 ∷ 2 ∷ 0 ∷ 4 ∷ 0 ∷ 0 ∷ 0 ∷ 0 ∷ 0 ∷ 1 ∷ 0 ∷ 9 ∷ 0 ∷ 5 ∷ 0 ∷ 6 ∷ 0 ∷ 1 ∷ 0 ∷ 7 ∷ 0 ∷
    0 ∷ 0 ∷ 22 ∷ 0 ∷ 3 ∷ 0 ∷ 0 ∷ 0 ∷ 0 ∷ 0 ∷ 10 ∷ 178 ∷ 0 ∷ 13 ∷ 5 ∷ 6 ∷ 96 ∷ 182 ∷ 0 ∷ 19 ∷ 177 ∷ 0 ∷ 0 ∷ 0 ∷
    0 ∷ 0 ∷ 0 ∷ []

pair : List ℕ
pair = 202 ∷ 254 ∷ 186 ∷ 190 ∷ 0 ∷ 0 ∷ 0 ∷ 50 ∷ 0 ∷ 42 ∷ 1 ∷ 0 ∷ 1 ∷ 80 ∷ 7 ∷ 0 ∷ 1 ∷ 1 ∷ 0 ∷ 16 ∷ 106 ∷ 97 ∷ 118 ∷
    97 ∷ 47 ∷ 108 ∷ 97 ∷ 110 ∷ 103 ∷ 47 ∷ 79 ∷ 98 ∷ 106 ∷ 101 ∷ 99 ∷ 116 ∷ 7 ∷ 0 ∷ 3 ∷ 1 ∷ 0 ∷ 1 ∷ 97 ∷ 1 ∷ 0 ∷
    1 ∷ 73 ∷ 1 ∷ 0 ∷ 1 ∷ 98 ∷ 1 ∷ 0 ∷ 1 ∷ 112 ∷ 1 ∷ 0 ∷ 3 ∷ 76 ∷ 80 ∷ 59 ∷ 1 ∷ 0 ∷ 6 ∷ 60 ∷ 105 ∷ 110 ∷ 105 ∷
    116 ∷ 62 ∷ 1 ∷ 0 ∷ 3 ∷ 40 ∷ 41 ∷ 86 ∷ 1 ∷ 0 ∷ 4 ∷ 67 ∷ 111 ∷ 100 ∷ 101 ∷ 1 ∷ 0 ∷ 3 ∷ 115 ∷ 101 ∷ 116 ∷ 1 ∷
    0 ∷ 4 ∷ 40 ∷ 73 ∷ 41 ∷ 86 ∷ 1 ∷ 0 ∷ 3 ∷ 115 ∷ 117 ∷ 109 ∷ 1 ∷ 0 ∷ 3 ∷ 40 ∷ 41 ∷ 73 ∷ 1 ∷ 0 ∷ 4 ∷ 105 ∷ 110 ∷
    105 ∷ 116 ∷ 12 ∷ 0 ∷ 10 ∷ 0 ∷ 11 ∷ 10 ∷ 0 ∷ 4 ∷ 0 ∷ 18 ∷ 10 ∷ 0 ∷ 2 ∷ 0 ∷ 18 ∷ 12 ∷ 0 ∷ 5 ∷ 0 ∷ 6 ∷ 9 ∷ 0 ∷
    2 ∷ 0 ∷ 21 ∷ 12 ∷ 0 ∷ 7 ∷ 0 ∷ 6 ∷ 9 ∷ 0 ∷ 2 ∷ 0 ∷ 23 ∷ 12 ∷ 0 ∷ 8 ∷ 0 ∷ 9 ∷ 9 ∷ 0 ∷ 2 ∷ 0 ∷ 25 ∷ 12 ∷ 0 ∷
    13 ∷ 0 ∷ 14 ∷ 10 ∷ 0 ∷ 2 ∷ 0 ∷ 27 ∷ 12 ∷ 0 ∷ 15 ∷ 0 ∷ 16 ∷ 10 ∷ 0 ∷ 2 ∷ 0 ∷ 29 ∷ 1 ∷ 0 ∷ 16 ∷ 106 ∷ 97 ∷
    118 ∷ 97 ∷ 47 ∷ 108 ∷ 97 ∷ 110 ∷ 103 ∷ 47 ∷ 83 ∷ 121 ∷ 115 ∷ 116 ∷ 101 ∷ 109 ∷ 7 ∷ 0 ∷ 31 ∷ 1 ∷ 0 ∷ 3 ∷ 111 ∷
    117 ∷ 116 ∷ 1 ∷ 0 ∷ 21 ∷ 76 ∷ 106 ∷ 97 ∷ 118 ∷ 97 ∷ 47 ∷ 105 ∷ 111 ∷ 47 ∷ 80 ∷ 114 ∷ 105 ∷ 110 ∷ 116 ∷ 83 ∷
    116 ∷ 114 ∷ 101 ∷ 97 ∷ 109 ∷ 59 ∷ 12 ∷ 0 ∷ 33 ∷ 0 ∷ 34 ∷ 9 ∷ 0 ∷ 32 ∷ 0 ∷ 35 ∷ 1 ∷ 0 ∷ 19 ∷ 106 ∷ 97 ∷ 118 ∷
    97 ∷ 47 ∷ 105 ∷ 111 ∷ 47 ∷ 80 ∷ 114 ∷ 105 ∷ 110 ∷ 116 ∷ 83 ∷ 116 ∷ 114 ∷ 101 ∷ 97 ∷ 109 ∷ 7 ∷ 0 ∷ 37 ∷ 1 ∷
    0 ∷ 7 ∷ 112 ∷ 114 ∷ 105 ∷ 110 ∷ 116 ∷ 108 ∷ 110 ∷ 12 ∷ 0 ∷ 39 ∷ 0 ∷ 14 ∷ 10 ∷ 0 ∷ 38 ∷ 0 ∷ 40 ∷ 0 ∷ 32 ∷ 0 ∷
    2 ∷ 0 ∷ 4 ∷ 0 ∷ 0 ∷ 0 ∷ 3 ∷ 0 ∷ 2 ∷ 0 ∷ 5 ∷ 0 ∷ 6 ∷ 0 ∷ 0 ∷ 0 ∷ 2 ∷ 0 ∷ 7 ∷ 0 ∷ 6 ∷ 0 ∷ 0 ∷ 0 ∷ 8 ∷ 0 ∷ 8 ∷
    0 ∷ 9 ∷ 0 ∷ 0 ∷ 0 ∷ 4 ∷ 0 ∷ 0 ∷ 0 ∷ 10 ∷ 0 ∷ 11 ∷ 0 ∷ 1 ∷ 0 ∷ 12 ∷ 0 ∷ 0 ∷ 0 ∷ 17 ∷ 0 ∷ 1 ∷ 0 ∷ 1 ∷ 0 ∷ 0 ∷
    0 ∷ 5 ∷ 42 ∷ 183 ∷ 0 ∷ 19 ∷ 177 ∷ 0 ∷ 0 ∷ 0 ∷ 0 ∷ 0 ∷ 32 ∷ 0 ∷ 13 ∷ 0 ∷ 14 ∷ 0 ∷ 1 ∷ 0 ∷ 12 ∷ 0 ∷ 0 ∷ 0 ∷
    23 ∷ 0 ∷ 2 ∷ 0 ∷ 2 ∷ 0 ∷ 0 ∷ 0 ∷ 11 ∷ 42 ∷ 27 ∷ 181 ∷ 0 ∷ 22 ∷ 42 ∷ 27 ∷ 181 ∷ 0 ∷ 24 ∷ 177 ∷ 0 ∷ 0 ∷ 0 ∷ 0 ∷
    0 ∷ 0 ∷ 0 ∷ 15 ∷ 0 ∷ 16 ∷ 0 ∷ 1 ∷ 0 ∷ 12 ∷ 0 ∷ 0 ∷ 0 ∷ 49 ∷ 0 ∷ 2 ∷ 0 ∷ 3 ∷ 0 ∷ 0 ∷ 0 ∷ 21 ∷ 42 ∷ 89 ∷ 76 ∷
    194 ∷ 42 ∷ 180 ∷ 0 ∷ 22 ∷ 42 ∷ 180 ∷ 0 ∷ 24 ∷ 96 ∷ 43 ∷ 195 ∷ 172 ∷ 77 ∷ 43 ∷ 195 ∷ 44 ∷ 191 ∷ 0 ∷ 2 ∷ 0 ∷
    4 ∷ 0 ∷ 15 ∷ 0 ∷ 16 ∷ 0 ∷ 0 ∷ 0 ∷ 16 ∷ 0 ∷ 19 ∷ 0 ∷ 16 ∷ 0 ∷ 0 ∷ 0 ∷ 0 ∷ 0 ∷ 8 ∷ 0 ∷ 17 ∷ 0 ∷ 11 ∷ 0 ∷ 1 ∷
    0 ∷ 12 ∷ 0 ∷ 0 ∷ 0 ∷ 66 ∷ 0 ∷ 2 ∷ 0 ∷ 0 ∷ 0 ∷ 0 ∷ 0 ∷ 54 ∷ 187 ∷ 0 ∷ 2 ∷ 89 ∷ 183 ∷ 0 ∷ 20 ∷ 179 ∷ 0 ∷ 26 ∷
    178 ∷ 0 ∷ 26 ∷ 7 ∷ 182 ∷ 0 ∷ 28 ∷ 178 ∷ 0 ∷ 36 ∷ 178 ∷ 0 ∷ 26 ∷ 182 ∷ 0 ∷ 30 ∷ 182 ∷ 0 ∷ 41 ∷ 178 ∷ 0 ∷ 36 ∷
    178 ∷ 0 ∷ 26 ∷ 182 ∷ 0 ∷ 30 ∷ 182 ∷ 0 ∷ 41 ∷ 178 ∷ 0 ∷ 36 ∷ 178 ∷ 0 ∷ 26 ∷ 182 ∷ 0 ∷ 30 ∷ 182 ∷ 0 ∷ 41 ∷
    177 ∷ 0 ∷ 0 ∷ 0 ∷ 0 ∷ 0 ∷ 0 ∷ []

-- the file that adds, with one byte or two bytes changed
one : ℕ → ℕ → List ℕ
unfolding adds
one at byte = slice_set adds at byte

two : ℕ → ℕ → ℕ → List ℕ
unfolding adds
two at byte next = slice_set (slice_set adds at byte) (at + 1) next

-- a pool of one Long, at the last index
long : List ℕ
long = 202 ∷ 254 ∷ 186 ∷ 190 ∷ 0 ∷ 0 ∷ 0 ∷ 50 ∷ 0 ∷ 2 ∷ 5 ∷ 0 ∷ 0 ∷ 0 ∷ 0 ∷ 0 ∷ 0 ∷ 0 ∷ 7 ∷ 0 ∷ 33 ∷ []

files : List (List ℕ)
unfolding adds pair one two long
files = adds ∷ pair
    ∷ [] ∷ take 3 (one 0 0) ∷ one 0 0 ∷ one 7 51 ∷ one 7 44 ∷ take 7 adds
    ∷ one 10 2 ∷ two 15 0 20 ∷ slice_set (two 15 0 20) 168 2 ∷ one 13 0 ∷ two 8 0 0 ∷ long ∷ one 178 0
    ∷ one 198 21 ∷ one 198 23 ∷ one 198 255 ∷ one 220 1 ∷ two 185 1 9 ∷ two 185 4 9 ∷ two 193 0 5
    ∷ take 222 adds ∷ (adds ++ 0 ∷ []) ∷ []

faults : List (Option (CRule × ℕ))
faults = None ∷ None
    ∷ Some (C3, 0) ∷ Some (C3, 0) ∷ Some (C1, 0) ∷ Some (C2, 6) ∷ Some (C2, 6) ∷ Some (C3, 6)
    ∷ Some (C4, 10) ∷ Some (C5, 15) ∷ Some (C4, 168) ∷ Some (C6, 13) ∷ Some (C5, 12) ∷ Some (C5, 10) ∷ Some (C5, 177)
    ∷ Some (C7, 195) ∷ Some (C7, 195) ∷ Some (C3, 199) ∷ Some (C7, 195) ∷ Some (C9, 185) ∷ Some (C9, 185) ∷ Some (C9, 185)
    ∷ Some (C3, 221) ∷ Some (C8, 223) ∷ []

worked : map class_fault files ≡ faults
unfolding adds pair one two long files faults u1_at u2_at u4_at byte_run_at many_at counted_at whole in_body index_at text_wanted utf8_at one_at two_at word_entry_at wide_at tagged_at constant_at entries_at both_wanted entry_wanted entries_wanted pool_at attr_at table_row_at code_at code_attr value_attr field_attr_at method_attr_at member_at field_at method_at class_at read_class class_fault
worked = refl
