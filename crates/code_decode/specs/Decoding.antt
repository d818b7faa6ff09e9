-- What the steps of decoding answer, in terms of the instructions that the bytes are.
use Rattle.std.specs.Prelude.{◌≡◌, ℕ, ℤ, ◌≤◌, ◌<◌, List, [], ◌∷◌, length, map, drop, nat_abs, ◌+◌}
use Rattle.std.specs.Prelude.{◌++◌, Bool, false, slice_index_or, Option, Some, None, Result, Ok}
use Rattle.std.specs.Prelude.{Err}
use Rattle.jvm_types.specs.Numbers.{has_number}
use Rattle.jvm_types.specs.CodeTable.{Form}
use Rattle.jvm_types.specs.CodeFault.{Extent, Outline, s4_of, landing, offsets, table_of}
use Rattle.jvm_types.specs.CodeFault.{table_extent, lookup_extent, known_extent, extent_of}
use Rattle.jvm_types.specs.CodeFault.{outlines}
use Rattle.jvm_types.specs.declared.code.Case.{Case}
use Rattle.jvm_types.specs.declared.code.Op.{Op}
use Rattle.jvm_types.specs.declared.code.Op.TheVariants.{Tableswitch}
use Rattle.jvm_types.specs.declared.refusal.KRule.{KRule}
use Rattle.jvm_types.specs.declared.refusal.KRule.TheVariants.{K2}
use Rattle.jvm_types.specs.ReadCode.{op_of, table_op, lookup_op, insns_of}
use Rattle.code_decode.specs.declared.operands.Found.{Found}
use Rattle.code_decode.specs.declared.sweep.Sweep.{Sweep}
use Rattle.code_decode.specs.declared.sweep.Branching.{Branching}
use Rattle.code_decode.specs.declared.error.CodeError.{CodeError}
use Rattle.code_decode.specs.declared.error.CodeError.TheVariants as errors
use Rattle.code_decode.specs.declared.operands.Stop.{Stop}
use Rattle.code_decode.specs.declared.operands.Stop.TheVariants.{Memory, Rule}

-- the first byte
abbrev pub first_of : List ℕ → ℕ
first_of [] = 0
first_of (b ∷ bytes) = b

-- a number of so many bytes
abbrev pub GivesNumber : {A : Type 0} → ℕ → A → List ℕ → Result A Stop → Type 0
GivesNumber size number bytes (Ok n) = (size ≤ length bytes) × (n ≡ number)
GivesNumber size number bytes (Err Memory) = ⊥
GivesNumber size number bytes (Err (Rule rule)) = (length bytes < size) × (rule ≡ K2)

-- what is known of an instruction that was found
abbrev pub extent : Found → Extent
extent found = record { size = found.size; targets = found.targets }

-- an instruction, unless memory ran out
abbrev pub IsSized : Op → ℕ → List ℤ → Result Found Stop → Type 0
IsSized op size targets (Ok found) =
    (found.op ≡ op) × (found.size ≡ size) × (found.targets ≡ targets)
IsSized op size targets (Err Memory) = Unit {0}
IsSized op size targets (Err (Rule rule)) = ⊥

abbrev pub IsSwitchTable : ℕ → ℕ → ℤ → ℕ → List ℕ → Result Found Stop → Type 0
IsSwitchTable pc pad low n body (Ok found) =
    (table_of pc pad n body ≡ Ok (extent found))
    × (found.op
    ≡ Tableswitch (nat_abs (landing pc (s4_of body))) low
    (map nat_abs (offsets pc n (drop 12 body))))
IsSwitchTable pc pad low n body (Err Memory) = Unit {0}
IsSwitchTable pc pad low n body (Err (Rule rule)) = table_of pc pad n body ≡ Err rule

-- the first pair of a `lookupswitch`
abbrev pub case_of : ℕ → List ℕ → Case
case_of pc bytes =
    record { key = s4_of bytes; target = nat_abs (landing pc (s4_of (drop 4 bytes))) }

abbrev pub IsTable : ℕ → ℕ → List ℕ → Result Found Stop → Type 0
IsTable pc pad body (Ok found) =
    (table_extent pc pad body ≡ Ok (extent found)) × (found.op ≡ table_op pc body)
IsTable pc pad body (Err Memory) = Unit {0}
IsTable pc pad body (Err (Rule rule)) = table_extent pc pad body ≡ Err rule

abbrev pub IsLookup : ℕ → ℕ → List ℕ → Result Found Stop → Type 0
IsLookup pc pad body (Ok found) =
    (lookup_extent pc pad body ≡ Ok (extent found)) × (found.op ≡ lookup_op pc body)
IsLookup pc pad body (Err Memory) = Unit {0}
IsLookup pc pad body (Err (Rule rule)) = lookup_extent pc pad body ≡ Err rule

-- the instruction of an opcode with this form
abbrev pub IsDecodeStep : ℕ → Option Form → List ℕ → Result Found Stop → Type 0
IsDecodeStep pc form rest (Err Memory) = Unit {0}
IsDecodeStep pc form rest (Err (Rule rule)) = known_extent pc form rest ≡ Err rule
IsDecodeStep pc None rest (Ok found) = ⊥
IsDecodeStep pc (Some f) rest (Ok found) =
    (extent_of pc f rest ≡ Ok (extent found)) × (found.op ≡ op_of pc f rest)

-- ---- the sweep

abbrev pub OutlinesRead : Type 0
OutlinesRead = Result (List Outline) (KRule × ℕ)

-- what was found before, and what is found behind it
abbrev pub with_front : List Outline → OutlinesRead → OutlinesRead
with_front front (Ok others) = Ok (front ++ others)
with_front front (Err fault) = Err fault

abbrev pub outline : Branching → Outline
outline b = record { pc = b.pc; targets = b.targets }

-- a mark at each of these numbers, and at no other
abbrev pub AreMarkedAt : List Bool → List ℕ → Type 0
AreMarkedAt marks starts = (i : ℕ) → slice_index_or marks i false ≡ has_number starts i

abbrev pub branch_starts : List Branching → List ℕ
branch_starts branchings = map (λ b. b.pc) branchings

-- the code was swept up to a pc, from which some bytes still belong to the instruction before
pub record Swept (code : List ℕ) (pc skip : ℕ) (s : Sweep) : Type 0 where
  pub outlines_read : with_front (map outline s.branchings) (outlines skip pc (drop pc code))
      ≡ outlines 0 0 code
  pub insns_read : s.insns.items ++ insns_of skip pc (drop pc code) ≡ insns_of 0 0 code
  pub marked : AreMarkedAt s.starts (branch_starts s.branchings)
  pub length_is : length s.starts ≡ pc

-- the code has a fault of the sweep, unless memory ran out
abbrev pub IsSweepFault : List ℕ → CodeError → Type 0
IsSweepFault code errors.Memory = Unit {0}
IsSweepFault code (errors.Refused rule at) = outlines 0 0 code ≡ Err (rule, at)

-- the sweep went on by one byte
abbrev pub Advances : List ℕ → ℕ → Sweep → Result ℕ CodeError → Type 0
Advances code pc s (Ok skip) = Swept code (pc + 1) skip s
Advances code pc s (Err e) = IsSweepFault code e

-- the whole code was swept
abbrev pub IsSwept : List ℕ → Result Sweep CodeError → Type 0
IsSwept code (Ok s) =
    (outlines 0 0 code ≡ Ok (map outline s.branchings)) × (s.insns.items ≡ insns_of 0 0 code)
    × AreMarkedAt s.starts (branch_starts s.branchings)
IsSwept code (Err e) = IsSweepFault code e
