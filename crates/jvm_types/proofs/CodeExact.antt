-- Bytes that break no rule are code: the instructions that are read off them are spelled by them.
use Rattle.std.proofs.Common.{◌≡◌, ℕ, zero, suc, ◌+◌, ◌<◌, ◌≤◌, ℤ, pos, Bool, true, false, List, [], ◌∷◌, length, map, Option, Some, None, Result, Ok, Err, refl, ap, sym, subst, inl, inr, ◌∙◌, arith, ◌⊎◌, take, drop, nat_abs, int_lt, nat_lt, not, ◌&&◌, ◌||◌, ◌==◌, if◌then◌else◌, IsSomeAnd}
use Rattle.std.{specs.List.AllByRecursion, proofs.lemmas.{Bool.Decides.nat_tests, List.{take-append-drop, length-take-le}}}
use Rattle.lists.proofs.TestLaws.{both_are_true}
use Rattle.jvm_types.specs.CodeFault.{Extent, Outline, known_extent, outline_followed, with_rest, outlines, is_at, all_at, branch_fault, row_fits, handler_fault, or_else, outline_fault, code_fault, FaultlessIsCode}
use Rattle.jvm_types.specs.{CodeGrammar.{SpellsOperands, SpellsInsns, IsStart, RowFits, IsCode}, CodeTable.{Form, form_of, branches_to}, Numbers.has_number, ReadCode.{op_of, with_insn, insns_of}}
use Rattle.jvm_types.{specs.declared.{class_file.Handler.Handler, code.Insn.Insn, refusal.KRule.{KRule, TheVariants.{K3, K4, K5}}}, proofs.CodeLaws.{outline_of, outlines_back, starts_of}}
use Rattle.jvm_types.proofs.CodeWhole.{Lands, AreBytes, IsWhole, whole, count_is_whole}

-- ---- the instructions

abbrev AllLand : List Outline → Type 0
AllLand rs = AllByRecursion (λ r. AllByRecursion Lands r.targets) rs

-- what follows an instruction
abbrev Follows : ℕ → List ℕ → Type 0
Follows pc rest = (skip : ℕ) (others : List Outline) → skip ≤ length rest → outlines skip pc rest ≡ Ok others → AllLand others → SpellsInsns (pc + skip) (insns_of skip pc rest) (drop skip rest)

with_rest_is : (pc : ℕ) (e : Extent) (rs : List Outline) (rest : List ℕ) → with_rest pc (Ok e) (λ size. outlines size (pc + 1) rest) ≡ Ok rs
    → (others : List Outline) × (outlines e.size (pc + 1) rest ≡ Ok others) × (rs ≡ record { pc = pc; targets = e.targets } ∷ others)
with_rest_is pc e rs rest h = by_rest (outlines e.size (pc + 1) rest) refl h
  where
    by_rest : (y : Result (List Outline) (KRule × ℕ)) → outlines e.size (pc + 1) rest ≡ y → outline_followed (record { pc = pc; targets = e.targets }) y ≡ Ok rs
        → (others : List Outline) × (outlines e.size (pc + 1) rest ≡ Ok others) × (rs ≡ record { pc = pc; targets = e.targets } ∷ others)
    by_rest (Ok others) f g = (others, f, cc)
    by_rest (Err fault) f g = absurd (cc)

at_insn : (pc b : ℕ) (rest : List ℕ) (rs : List Outline) (o : Option Form) (x : Result Extent KRule) → AreBytes rest → form_of b ≡ o → known_extent pc o rest ≡ x
    → with_rest pc x (λ size. outlines size (pc + 1) rest) ≡ Ok rs → AllLand rs → Follows (pc + 1) rest → SpellsInsns pc (with_insn pc o x rest (λ size. insns_of size (pc + 1) rest)) (b ∷ rest)
at_insn pc b rest rs None (Ok e) bs f k h l more = absurd (cc)
at_insn pc b rest rs o (Err rule) bs f k h l more = absurd (cc)
at_insn pc b rest rs (Some f) (Ok e) bs is k h l more =
    let j : (others : List Outline) × (outlines e.size (pc + 1) rest ≡ Ok others) × (rs ≡ record { pc = pc; targets = e.targets } ∷ others) = with_rest_is pc e rs rest h in
    let l' : AllLand (record { pc = pc; targets = e.targets } ∷ j.0) = subst (λ (x : List Outline). AllLand x) j.2 l in
    let w : IsWhole pc f rest e = whole pc f rest e bs k l'.0 in (
      b ∷ take e.size rest,
      drop e.size rest,
      ap (λ x. b ∷ x) (sym (take-append-drop e.size rest)),
      refl,
      omega (arith, length-take-le e.size rest w.within),
      record { opcode = b; operands = take e.size rest; is = refl; spelled = subst (λ (o : Option Form). IsSomeAnd o (λ f'. SpellsOperands pc f' (op_of pc f rest) (take e.size rest))) (sym is) w.spelled },
      more e.size j.0 w.within j.1 l'.1,
    )

spelled_from : (skip pc : ℕ) (bytes : List ℕ) (rs : List Outline) → AreBytes bytes → skip ≤ length bytes → outlines skip pc bytes ≡ Ok rs → AllLand rs
    → SpellsInsns (pc + skip) (insns_of skip pc bytes) (drop skip bytes)
spelled_from zero pc [] rs b h e l = refl
spelled_from (suc skip) pc [] rs b h e l = absurd (omega (arith, h))
spelled_from (suc skip) pc (x ∷ rest) rs b h e l =
    let at : pc + 1 + skip ≡ pc + suc skip = omega arith in
    subst (λ (n : ℕ). SpellsInsns n (insns_of skip (pc + 1) rest) (drop skip rest)) at (spelled_from skip (pc + 1) rest rs b.1 (omega (arith, h)) e l)
spelled_from zero pc (x ∷ rest) rs b h e l =
    let at : pc ≡ pc + 0 = omega arith in
    subst (λ (n : ℕ). SpellsInsns n (insns_of zero pc (x ∷ rest)) (x ∷ rest)) at
    (at_insn pc x rest rs (form_of x) (known_extent pc (form_of x) rest) b.1 refl refl e l (λ skip others f g m. spelled_from skip (pc + 1) rest others b.1 f g m))

spelled : (bytes : List ℕ) (rs : List Outline) → AreBytes bytes → outlines 0 0 bytes ≡ Ok rs → AllLand rs → SpellsInsns 0 (insns_of 0 0 bytes) bytes
spelled bytes rs b e l = spelled_from 0 0 bytes rs b (omega arith) e l

-- ---- targets and rows

lands : (starts : List ℕ) (to : ℤ) → is_at starts to ≡ true → Lands to
lands starts to e = let both = both_are_true (not (int_lt to (pos 0))) (has_number starts (nat_abs to)) e in not_below to (int_lt to (pos 0)) refl both.0
  where
    not_below : (to : ℤ) (t : Bool) → int_lt to (pos 0) ≡ t → not t ≡ true → Lands to
    not_below to true f g = absurd (cc)
    not_below to false f g = count_is_whole to f

all_land : (starts : List ℕ) (tos : List ℤ) → all_at starts tos ≡ true → AllByRecursion Lands tos
all_land starts [] e = tt
all_land starts (to ∷ tos) e = let both = both_are_true (is_at starts to) (all_at starts tos) e in (lands starts to both.0, all_land starts tos both.1)

abbrev AllStart : List ℕ → List Outline → Type 0
AllStart starts rs = AllByRecursion (λ r. all_at starts r.targets ≡ true) rs

branches_are : (starts : List ℕ) (rs : List Outline) → branch_fault starts rs ≡ None → AllStart starts rs
branches_are starts [] e = tt
branches_are starts (r ∷ rs) e = by_first (all_at starts r.targets) refl e (λ f. branches_are starts rs f)
  where
    by_first : (t : Bool) → all_at starts r.targets ≡ t → (if t then branch_fault starts rs else Some (K3, r.pc)) ≡ None → (branch_fault starts rs ≡ None → AllStart starts rs) → AllStart starts (r ∷ rs)
    by_first true f g more = (f, more g)
    by_first false f g more = absurd (cc)

all_lands : (starts : List ℕ) (rs : List Outline) → AllStart starts rs → AllLand rs
all_lands starts [] h = tt
all_lands starts (r ∷ rs) h = (all_land starts r.targets h.0, all_lands starts rs h.1)

abbrev starts_in : List Insn → List ℕ
starts_in insns = map (λ r. r.pc) (map outline_of insns)

each_start : (all : List Insn) (tos : List ℕ) → all_at (starts_in all) (map pos tos) ≡ true → AllByRecursion (IsStart all) tos
each_start all [] e = tt
each_start all (to ∷ tos) e =
    let both = both_are_true (is_at (starts_in all) (pos to)) (all_at (starts_in all) (map pos tos)) e in
    let here = both_are_true (not (int_lt (pos to) (pos 0))) (has_number (starts_in all) to) both.0 in
    (sym (starts_of all to) ∙ here.1, each_start all tos both.1)

targets_start : (all insns : List Insn) → AllStart (starts_in all) (map outline_of insns) → AllByRecursion (λ insn. AllByRecursion (IsStart all) (branches_to insn.op)) insns
targets_start all [] h = tt
targets_start all (insn ∷ insns) h = (each_start all (branches_to insn.op) h.0, targets_start all insns h.1)

is_start_or_end : (all : List Insn) (end size : ℕ) → (has_number (starts_in all) end || end == size) ≡ true → IsStart all end ⊎ (end ≡ size)
is_start_or_end all end size e = by_start (has_number (starts_in all) end) refl e
  where
    by_start : (t : Bool) → has_number (starts_in all) end ≡ t → (t || end == size) ≡ true → IsStart all end ⊎ (end ≡ size)
    by_start true f g = inl (sym (starts_of all end) ∙ f)
    by_start false f g = inr (grind (arith, nat_tests, g))

row_is : (all : List Insn) (size : ℕ) (h : Handler) → row_fits (starts_in all) size h ≡ true → RowFits all size h
row_is all size h e =
    let last = both_are_true (nat_lt h.start h.end && has_number (starts_in all) h.start && (has_number (starts_in all) h.end || h.end == size)) (has_number (starts_in all) h.handler) e in
    let third = both_are_true (nat_lt h.start h.end && has_number (starts_in all) h.start) (has_number (starts_in all) h.end || h.end == size) last.0 in
    let second = both_are_true (nat_lt h.start h.end) (has_number (starts_in all) h.start) third.0 in
    record { ordered = grind (arith, nat_tests, second.0); start = sym (starts_of all h.start) ∙ second.1; end = is_start_or_end all h.end size third.1; handler = sym (starts_of all h.handler) ∙ last.1 }

rows_are : (all : List Insn) (size number : ℕ) (hs : List Handler) → handler_fault (starts_in all) size number hs ≡ None → AllByRecursion (RowFits all size) hs
rows_are all size number [] e = tt
rows_are all size number (h ∷ hs) e = by_first (row_fits (starts_in all) size h) refl e (λ f. rows_are all size (number + 1) hs f)
  where
    by_first : (t : Bool) → row_fits (starts_in all) size h ≡ t → (if t then handler_fault (starts_in all) size (number + 1) hs else Some (K4, number)) ≡ None
        → (handler_fault (starts_in all) size (number + 1) hs ≡ None → AllByRecursion (RowFits all size) hs) → AllByRecursion (RowFits all size) (h ∷ hs)
    by_first true f g more = (row_is all size h f, more g)
    by_first false f g more = absurd (cc)

-- ---- the law

or_none : {A : Type 0} (x y : Option A) → or_else x y ≡ None → (x ≡ None) × (y ≡ None)
or_none None y e = (refl, e)
or_none (Some x) y e = absurd (cc)

code_of : (bytes : List ℕ) (rows : List Handler) (rs : List Outline) → AreBytes bytes → 0 < length bytes → length bytes ≤ 65535 → outlines 0 0 bytes ≡ Ok rs
    → branch_fault (map (λ r. r.pc) rs) rs ≡ None → handler_fault (map (λ r. r.pc) rs) (length bytes) 0 rows ≡ None → IsCode bytes rows (insns_of 0 0 bytes)
code_of bytes rows rs b some short e branches rows_none =
    let starts : AllStart (map (λ r. r.pc) rs) rs = branches_are (map (λ r. r.pc) rs) rs branches in
    let are : SpellsInsns 0 (insns_of 0 0 bytes) bytes = spelled bytes rs b e (all_lands (map (λ r. r.pc) rs) rs starts) in
    let same : rs ≡ map outline_of (insns_of 0 0 bytes) = same_ok rs (map outline_of (insns_of 0 0 bytes)) (sym e ∙ outlines_back 0 (insns_of 0 0 bytes) bytes are) in
    record {
      some = some;
      short = short;
      spelled = are;
      targets = targets_start (insns_of 0 0 bytes) (insns_of 0 0 bytes) (subst (λ (x : List Outline). AllStart (map (λ r. r.pc) x) x) same starts);
      rows_fit = rows_are (insns_of 0 0 bytes) (length bytes) 0 rows (subst (λ (x : List Outline). handler_fault (map (λ r. r.pc) x) (length bytes) 0 rows ≡ None) same rows_none);
    }
  where
    same_ok : (xs ys : List Outline) → ◌≡◌ {A = Result (List Outline) (KRule × ℕ)} (Ok xs) (Ok ys) → xs ≡ ys
    same_ok xs ys f = cc

some_bytes : (n : ℕ) → (n == 0 || nat_lt 65535 n) ≡ false → 0 < n
some_bytes n f = grind (arith, nat_tests, f)

few_bytes : (n : ℕ) → (n == 0 || nat_lt 65535 n) ≡ false → n ≤ 65535
few_bytes n f = grind (arith, nat_tests, f)

-- the instructions that are read off the bytes
pub read_is_code : (bytes : List ℕ) (rows : List Handler) → AreBytes bytes → code_fault bytes rows ≡ None → IsCode bytes rows (insns_of 0 0 bytes)
read_is_code bytes rows b h = by_size (length bytes == 0 || nat_lt 65535 (length bytes)) refl h
  where
    by_outlines : (y : Result (List Outline) (KRule × ℕ)) → 0 < length bytes → length bytes ≤ 65535 → outlines 0 0 bytes ≡ y → outline_fault y (length bytes) rows ≡ None → IsCode bytes rows (insns_of 0 0 bytes)
    by_outlines (Err fault) some short e h = absurd (cc)
    by_outlines (Ok rs) some short e h = let none = or_none (branch_fault (map (λ r. r.pc) rs) rs) (handler_fault (map (λ r. r.pc) rs) (length bytes) 0 rows) h in
        code_of bytes rows rs b some short e none.0 none.1

    by_size : (t : Bool) → (length bytes == 0 || nat_lt 65535 (length bytes)) ≡ t → (if t then Some (K5, 0) else outline_fault (outlines 0 0 bytes) (length bytes) rows) ≡ None → IsCode bytes rows (insns_of 0 0 bytes)
    by_size true f h = absurd (cc)
    by_size false f h = by_outlines (outlines 0 0 bytes) (some_bytes (length bytes) f) (few_bytes (length bytes) f) refl h

pub exact : FaultlessIsCode
exact bytes rows b h = (insns_of 0 0 bytes, read_is_code bytes rows b h)
