-- Code breaks no rule, and spells one list of instructions.
use Rattle.std.proofs.Common.{◌≡◌, ℕ, ◌+◌, ◌<◌, ◌≤◌, pos, Bool, true, false, List, [], ◌∷◌, ◌++◌, length, map, Option, Some, None, Ok, refl, ap, inl, inr, ◌∙◌, arith, ◌⊎◌, ◌&&◌, ◌||◌, ◌==◌, nat_lt, if◌then◌else◌, IsSomeAnd}
use Rattle.std.{specs.List.AllByRecursion, proofs.lemmas.Bool.Decides.nat_tests}
use Rattle.lists.proofs.{ListLaws.all_mapped, TestLaws.{same_number, second_true}}
use Rattle.jvm_types.specs.CodeFault.{Outline, known_extent, outlines, all_at, branch_fault, row_fits, handler_fault, CodeIsFaultless}
use Rattle.jvm_types.specs.CodeGrammar.{SpellsOperands, SpellsOp, SpellsInsns, is_start, IsStart, RowFits}
use Rattle.jvm_types.specs.{CodeTable.{Form, Plain, all_moves, move_opcode, constants, loads, stores, stack_moves, arithmetic, control, references, form_of, branches_to, FormRows, first_row}, Numbers.has_number}
use Rattle.jvm_types.{specs.declared.{class_file.Handler.Handler, code.{Insn.Insn, Op.{Op, TheVariants.Stack}}}, proofs.CodeReading.{not_negative, FormLaw, extent_with, extent_back}}

-- ---- the forms of the table

abbrev pub FormHolds : Option Form → Type 0
FormHolds None = Unit {0}
FormHolds (Some f) = FormLaw f

by_test : (t : Bool) (x y : Option Form) → FormHolds x → FormHolds y → FormHolds (if t then x else y)
by_test true x y h k = h
by_test false x y h k = k

first_holds : (rs : FormRows) → AllByRecursion (λ r. FormLaw r.1) rs → FormHolds (first_row rs)
first_holds [] h = tt
first_holds (r ∷ rs) h = by_test r.0 (Some r.1) (first_row rs) h.0 (first_holds rs h.1)

constants_hold : (b : ℕ) → AllByRecursion (λ r. FormLaw r.1) (constants b)
constants_hold b = (refl, (refl, (refl, (λ n. refl, (λ n. refl, (λ n. refl, (λ n. refl, tt)))))))

loads_hold : (b : ℕ) → AllByRecursion (λ r. FormLaw r.1) (loads b)
loads_hold b = (λ n. refl, (λ n. refl, (refl, (refl, (refl, tt)))))

stores_hold : (b : ℕ) → AllByRecursion (λ r. FormLaw r.1) (stores b)
stores_hold b = (λ n. refl, (λ n. refl, (refl, (refl, (refl, tt)))))

stack_moves_hold : (b : ℕ) → AllByRecursion (λ r. FormLaw r.1) (stack_moves b)
stack_moves_hold b = all_mapped (λ (r : Bool × Form). FormLaw r.1) (λ move. (b == move_opcode move, Plain (Stack move))) (λ move. refl) all_moves

arithmetic_hold : (b : ℕ) → AllByRecursion (λ r. FormLaw r.1) (arithmetic b)
arithmetic_hold b = (refl, (refl, (refl, (refl, (refl, (refl, (refl, (refl, (refl, (refl, (refl, (refl, (λ i n. refl, (refl, (refl, (refl, tt))))))))))))))))

control_hold : (b : ℕ) → AllByRecursion (λ r. FormLaw r.1) (control b)
control_hold b = (
  λ n. refl,
  (
    λ n. refl,
    (
      λ n. refl,
      (
        λ n. refl,
        (
          λ n. refl,
          (
            λ n. refl,
            (
              λ n. refl,
              (
                λ n. refl,
                (
                  λ n. refl,
                  (
                    λ n. refl,
                    (
                      λ n. refl,
                      (
                        λ n. refl,
                        (λ n. refl, (λ n. refl, (λ n. refl, (tt, (tt, (refl, (refl, (refl, tt)))))))),
                      ),
                    ),
                  ),
                ),
              ),
            ),
          ),
        ),
      ),
    ),
  ),
)

references_hold : (b : ℕ) → AllByRecursion (λ r. FormLaw r.1) (references b)
references_hold b = (λ n. refl, (λ n. refl, (λ n. refl, (λ n. refl, (λ n. refl, (λ n. refl, (λ n. refl, (λ n. refl, (refl, (refl, (refl, (refl, (refl, (λ n. refl, (λ n. refl, (λ n. refl, tt))))))))))))))))

group : (t : Bool) (rs : FormRows) (y : Option Form) → AllByRecursion (λ r. FormLaw r.1) rs → FormHolds y → FormHolds (if t then first_row rs else y)
group t rs y h k = by_test t (first_row rs) y (first_holds rs h) k

pub form_holds : (b : ℕ) → FormHolds (form_of b)
form_holds b =
    group (nat_lt b 0x15) (constants b) _ (constants_hold b) (group (nat_lt b 0x36) (loads b) _ (loads_hold b) (group (nat_lt b 0x57) (stores b) _ (stores_hold b)
    (group (nat_lt b 0x60) (stack_moves b) _ (stack_moves_hold b) (group (nat_lt b 0x99) (arithmetic b) _ (arithmetic_hold b) (group (nat_lt b 0xb2) (control b) (first_row (references b)) (control_hold b)
    (first_holds (references b) (references_hold b)))))))

-- ---- reading instructions back

pub known_back : (pc : ℕ) (o : Option Form) (op : Op) (operands rest : List ℕ) → FormHolds o → IsSomeAnd o (λ f. SpellsOperands pc f op operands)
    → known_extent pc o (operands ++ rest) ≡ extent_with (length operands) (branches_to op)
known_back pc None op operands rest law h = absurd h
known_back pc (Some f) op operands rest law h = extent_back pc f op operands rest law h

skipped : (front rest : List ℕ) (pc next : ℕ) → next ≡ pc + length front → outlines (length front) pc (front ++ rest) ≡ outlines 0 next rest
skipped [] rest pc next e = ap (λ n. outlines 0 n rest) (omega (arith, e))
skipped (b ∷ front) rest pc next e = skipped front rest (pc + 1) next (omega (arith, e))

abbrev pub outline_of : Insn → Outline
outline_of insn = record { pc = insn.pc; targets = map pos (branches_to insn.op) }

one_back : (pc next : ℕ) (op : Op) (front rest : List ℕ) (others : List Outline) → SpellsOp pc op front → next ≡ pc + length front → outlines 0 next rest ≡ Ok others
    → outlines 0 pc (front ++ rest) ≡ Ok (record { pc = pc; targets = map pos (branches_to op) } ∷ others)
one_back pc next op front rest others h e more =
    let at : next ≡ pc + 1 + length h.operands = omega (arith, e, ap length h.is) in
    rw h.is (rw (known_back pc (form_of h.opcode) op h.operands rest (form_holds h.opcode) h.spelled) (rw (skipped h.operands rest (pc + 1) next at) (rw more refl)))

pub outlines_back : (pc : ℕ) (insns : List Insn) (bytes : List ℕ) → SpellsInsns pc insns bytes → outlines 0 pc bytes ≡ Ok (map outline_of insns)
outlines_back pc [] bytes h = rw h refl
outlines_back pc (insn ∷ insns) bytes h = rw h.2 (rw h.3 (one_back pc insn.next insn.op h.0 h.1 (map outline_of insns) h.5 h.4 (outlines_back insn.next insns h.1 h.6)))

-- ---- targets and rows

pub starts_of : (insns : List Insn) (to : ℕ) → has_number (map (λ r. r.pc) (map outline_of insns)) to ≡ is_start insns to
starts_of [] to = refl
starts_of (insn ∷ insns) to = rw (starts_of insns to) refl

all_start : (all : List Insn) (tos : List ℕ) → AllByRecursion (IsStart all) tos → all_at (map (λ r. r.pc) (map outline_of all)) (map pos tos) ≡ true
all_start all [] h = refl
all_start all (to ∷ tos) h = rw (not_negative to) (rw (starts_of all to) (rw h.0 (all_start all tos h.1)))

no_branch_fault : (all insns : List Insn) → AllByRecursion (λ insn. AllByRecursion (IsStart all) (branches_to insn.op)) insns
    → branch_fault (map (λ r. r.pc) (map outline_of all)) (map outline_of insns) ≡ None
no_branch_fault all [] h = refl
no_branch_fault all (insn ∷ insns) h = rw (all_start all (branches_to insn.op) h.0) (no_branch_fault all insns h.1)

is_less : (m n : ℕ) → m < n → nat_lt m n ≡ true
is_less m n h = grind (arith, nat_tests)

four_true : (a b c d : Bool) → a ≡ true → b ≡ true → c ≡ true → d ≡ true → (a && b && c && d) ≡ true
four_true a b c d e f g h = rw e (rw f (rw g (rw h refl)))

end_fits : (all : List Insn) (size end : ℕ) → IsStart all end ⊎ (end ≡ size) → (has_number (map (λ r. r.pc) (map outline_of all)) end || end == size) ≡ true
end_fits all size end (inl h) = rw (starts_of all end) (rw h refl)
end_fits all size end (inr e) = second_true _ (end == size) (same_number end size e)

one_row : (all : List Insn) (size : ℕ) (h : Handler) → RowFits all size h → row_fits (map (λ r. r.pc) (map outline_of all)) size h ≡ true
one_row all size h fit = four_true _ _ _ _ (is_less h.start h.end fit.ordered) (starts_of all h.start ∙ fit.start) (end_fits all size h.end fit.end) (starts_of all h.handler ∙ fit.handler)

no_handler_fault : (all : List Insn) (size number : ℕ) (hs : List Handler) → AllByRecursion (RowFits all size) hs → handler_fault (map (λ r. r.pc) (map outline_of all)) size number hs ≡ None
no_handler_fault all size number [] h = refl
no_handler_fault all size number (row ∷ rows) h = rw (one_row all size row h.0) (no_handler_fault all size (number + 1) rows h.1)

pub size_holds : (n : ℕ) → 0 < n → n ≤ 65535 → (n == 0 || nat_lt 65535 n) ≡ false
size_holds n h k = grind (arith, nat_tests)

pub faultless : CodeIsFaultless
faultless bytes rows insns code = rw (size_holds (length bytes) code.some code.short) (rw (outlines_back 0 insns bytes code.spelled)
    (rw (no_branch_fault insns insns code.targets) (no_handler_fault insns (length bytes) 0 rows code.rows_fit)))
