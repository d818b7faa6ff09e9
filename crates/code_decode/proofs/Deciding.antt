-- The first fault by marks is the first fault of the code.
use Rattle.std.proofs.Common.{◌≡◌, ℕ, suc, ◌+◌, ◌<◌, ◌≤◌, ◌^◌, ℤ, Bool, true, false, List, [], ◌∷◌, length, map, Some, None, Result, Ok, Err, refl, sym, ap, subst, arith, slice_index_or, nat_lt, nat_abs, IfOk, IfErr, ◌==◌, ◌||◌}
use Rattle.std.{specs.List.AllByRecursion, proofs.lemmas.Bool.Decides.nat_tests}
use Rattle.jvm_types.specs.{CodeFault.{Outline, outlines, all_at, branch_fault, row_fits, handler_fault, or_else, code_fault}, CodeGrammar.IsCode, ReadCode.insns_of}
use Rattle.jvm_types.{specs.declared.{class_file.Handler.Handler, code.Insn.Insn, refusal.KRule.{KRule, TheVariants.K5}}, proofs.{CodeExact.read_is_code, CodeLaws.{faultless, size_holds}, CodeOnce.once}}
use Rattle.code_decode.specs.{Decoding.{outline, AreMarkedAt, branch_starts}, Marking.{all_marked, unmarked_branch, marked_row, unmarked_row, IsCodeDecoded, IsWantOfMemory}}
use Rattle.code_decode.specs.declared.{error.CodeError.{CodeError, TheVariants.{Memory, Refused}}, sweep.Branching.Branching}

all_same : (marks : List Bool) (starts : List ℕ) (tos : List ℤ) → AreMarkedAt marks starts → all_marked marks tos ≡ all_at starts tos
all_same marks starts [] h = refl
all_same marks starts (to ∷ tos) h = rw (h (nat_abs to)) (rw (all_same marks starts tos h) refl)

branch_same : (marks : List Bool) (starts : List ℕ) (bs : List Branching) → AreMarkedAt marks starts → unmarked_branch marks bs ≡ branch_fault starts (map outline bs)
branch_same marks starts [] h = refl
branch_same marks starts (b ∷ bs) h = rw (all_same marks starts b.targets h) (rw (branch_same marks starts bs h) refl)

row_same : (marks : List Bool) (starts : List ℕ) (size : ℕ) (h : Handler) → AreMarkedAt marks starts → marked_row marks size h ≡ row_fits starts size h
row_same marks starts size h m = rw (m h.start) (rw (m h.end) (rw (m h.handler) refl))

rows_same : (marks : List Bool) (starts : List ℕ) (size number : ℕ) (hs : List Handler) → AreMarkedAt marks starts → unmarked_row marks size number hs ≡ handler_fault starts size number hs
rows_same marks starts size number [] m = refl
rows_same marks starts size number (h ∷ hs) m = rw (row_same marks starts size h m) (rw (rows_same marks starts size (number + 1) hs m) refl)

pcs_same : (bs : List Branching) → map (λ (r : Outline). r.pc) (map outline bs) ≡ branch_starts bs
pcs_same [] = refl
pcs_same (b ∷ bs) = ap (λ ns. b.pc ∷ ns) (pcs_same bs)

pub no_size : (code : List ℕ) (rows : List Handler) → (length code == 0 || nat_lt 65535 (length code)) ≡ true → code_fault code rows ≡ Some (K5, 0)
no_size code rows e = rw e refl

pub read_fault : (code : List ℕ) (rows : List Handler) (rule : KRule) (at : ℕ) → 0 < length code → length code ≤ 65535 → outlines 0 0 code ≡ Err (rule, at) → code_fault code rows ≡ Some (rule, at)
read_fault code rows rule at some few e = rw (size_holds (length code) some few) (rw e refl)

pub by_marks : (code : List ℕ) (rows : List Handler) (marks : List Bool) (bs : List Branching) → 0 < length code → length code ≤ 65535 → outlines 0 0 code ≡ Ok (map outline bs) → AreMarkedAt marks (branch_starts bs)
    → code_fault code rows ≡ or_else (unmarked_branch marks bs) (unmarked_row marks (length code) 0 rows)
by_marks code rows marks bs some few e m =
    rw (size_holds (length code) some few) (rw e (rw (pcs_same bs) (rw (branch_same marks (branch_starts bs) bs m) (rw (rows_same marks (branch_starts bs) (length code) 0 rows m) refl))))

pub are_bytes : (bytes : List ℕ) → ((i : ℕ) → slice_index_or bytes i 0 < 2 ^ 8) → AllByRecursion (λ b. b < 2 ^ 8) bytes
are_bytes [] h = tt
are_bytes (b ∷ bytes) h = (h 0, are_bytes bytes (λ i. h (suc i)))

pub is_code : (code : List ℕ) (rows : List Handler) (insns : List Insn) → ((i : ℕ) → slice_index_or code i 0 < 2 ^ 8) → insns ≡ insns_of 0 0 code → code_fault code rows ≡ None → IsCode code rows insns
is_code code rows insns b e h = subst (λ (x : List Insn). IsCode code rows x) (sym e) (read_is_code code rows (are_bytes code b) h)

pub only_by : (code : List ℕ) (rows : List Handler) (r : Result (List Insn) CodeError) → IfOk r (λ insns. IsCode code rows insns) → (insns : List Insn) → IsCode code rows insns → IfOk r (λ found. found ≡ insns)
only_by code rows (Ok found) h insns k = once code rows rows found insns h k
only_by code rows (Err e) h insns k = tt

pub spelled_by : (code : List ℕ) (rows : List Handler) (r : Result (List Insn) CodeError) → IsCodeDecoded code rows r → (insns : List Insn) → IsCode code rows insns → IfErr r (λ e. IsWantOfMemory e)
spelled_by code rows (Ok found) h insns k = tt
spelled_by code rows (Err Memory) h insns k = tt
spelled_by code rows (Err (Refused rule at)) h insns k = let f : code_fault code rows ≡ None = faultless code rows insns k in absurd (cc)
