-- The marks of a program stand in the order of its methods and of their spots, so that those before and behind a section need not
-- be looked at.
use Rattle.std.proofs.Common.{◌≡◌, ℕ, zero, suc, ◌+◌, ◌<◌, ◌≤◌, ◌⊎◌, inl, inr, Bool, true, false, List, [], ◌∷◌, ◌++◌, Some, None, map, take, drop, length, ◌-◌, refl, sym, ap, subst, ◌∙◌, arith, slice_get, slice_index_or, ◌==◌, ◌&&◌, ◌||◌, nat_lt, filter_map, if◌then◌else◌}
use Rattle.std.{specs.List.AllZip, proofs.{Math.Seq.take-length, lemmas.{Bool.{ne_eqb, Decides.nat_tests}, List.length-drop, Option.slice_get-get_or}}}
use Rattle.jvm_types.specs.{CodeGrammar.SpellsInsns, Members.is_synchronized, declared.{code.{Insn.Insn, Op.Op}, program.{MethodInfo.MethodInfo, Program.Program}}}
use Rattle.checked_program.specs.{MarkedProgram.{MarkedProgram, IsMarked}, Marks.IsMarkOf, Sections.{Section, block_at, sections_from}, TaggedCode.{Tagged, tagged_by}}
use Rattle.checked_program.specs.declared.section.{SectionMark.SectionMark, Spot.{Spot, TheVariants.{Method, Block}}, Uses.Uses}
use Rattle.machine_types.specs.Sections.{is_marked, is_same_spot}
use Rattle.step_core.specs.MarkOrder.{AscendFrom, IsFrom, rank, stands_before}
use Rattle.jvm_types.specs.declared.code.Op.TheVariants as ops

-- ---- the order of places

-- from one place on, from another on
from_on : (m k n j q r : ℕ) → IsFrom m k n j → IsFrom n j q r → IsFrom m k q r
from_on m k n j q r (inl a) (inl b) = inl (omega (arith, a, b))
from_on m k n j q r (inl a) (inr b) = inl (omega (arith, a, b.0))
from_on m k n j q r (inr a) (inl b) = inl (omega (arith, a.0, b))
from_on m k n j q r (inr a) (inr b) = inr (omega (arith, a.0, b.0), omega (arith, a.1, b.1))

lower : (m k j n r : ℕ) → k ≤ j → IsFrom m j n r → IsFrom m k n r
lower m k j n r h (inl a) = inl a
lower m k j n r h (inr a) = inr (a.0, omega (arith, a.1, h))

higher : (m k n j r : ℕ) → j ≤ r → IsFrom m k n j → IsFrom m k n r
higher m k n j r h (inl a) = inl a
higher m k n j r h (inr a) = inr (a.0, omega (arith, a.1, h))

here : (m k j : ℕ) → k ≤ j → IsFrom m k m j
here m k j h = inr (refl, h)

-- behind one place, behind another
behind_on : (m k n j q r : ℕ) → IsFrom m (suc k) n j → IsFrom n (suc j) q r → IsFrom m (suc k) q r
behind_on m k n j q r a b = from_on m (suc k) n j q r a (lower n j (suc j) q r (omega arith) b)

told : (m k n j : ℕ) (t u v : Bool) → nat_lt m n ≡ t → (m == n) ≡ u → nat_lt k j ≡ v → (t || (u && v)) ≡ true → IsFrom m (suc k) n j
told m k n j true u v e f g h = inl (grind (arith, nat_tests, e))
told m k n j false true true e f g h = inr (grind (arith, nat_tests, f), grind (arith, nat_tests, g))
told m k n j false true false e f g h = absurd (cc)
told m k n j false false v e f g h = absurd (cc)

pub is_told : (m k n j : ℕ) → stands_before m k n j ≡ true → IsFrom m (suc k) n j
is_told m k n j h = told m k n j (nat_lt m n) (m == n) (nat_lt k j) refl refl refl h

-- ---- the marks of a program ascend

ascend_on : (q r m k : ℕ) (marks : List SectionMark) → IsFrom q r m k → AscendFrom m k marks → AscendFrom q r marks
ascend_on q r m k [] l h = tt
ascend_on q r m k (mark ∷ marks) l h = (from_on q r m k mark.method (rank mark.spot) l h.0, h.1)

block_is : (pc : ℕ) (op : Op) → (block_at pc op ≡ None) ⊎ (block_at pc op ≡ Some (Block pc))
block_is pc ops.Monitorenter = inr refl
block_is pc op = inl refl

module _ (p : Program) (tags : Tagged) (uses : Uses) where
  abbrev section_in : ℕ → Spot → Section
  section_in mi spot = record { method = mi; spot = spot }

  abbrev Mark : List Section → List SectionMark → Type 0
  Mark sections marks = AllZip (IsMarkOf p tags uses) sections marks

  -- a mark of this spot, and those behind it
  first_ascends : (mi least : ℕ) (spot : Spot) (others : List Section) (marks : List SectionMark) → least ≤ rank spot → Mark (section_in mi spot ∷ others) marks
      → ((ms : List SectionMark) → Mark others ms → AscendFrom mi (suc (rank spot)) ms) → AscendFrom mi least marks
  first_ascends mi least spot others [] le all more = absurd all
  first_ascends mi least spot others (mark ∷ marks) le all more =
      let method : mark.method ≡ mi = all.0.method in
      let at : mark.spot ≡ spot = all.0.spot in
      rw (method, at) (here mi least (rank spot) le, more marks all.1)

  -- the blocks of code from a pc on
  blocks_ascend : (mi pc : ℕ) (insns : List Insn) (bytes : List ℕ) (rest : List Section) (marks : List SectionMark) → SpellsInsns pc insns bytes
      → Mark (map (section_in mi) (filter_map (λ insn. block_at insn.pc insn.op) insns) ++ rest) marks
      → ((ms : List SectionMark) → Mark rest ms → AscendFrom (suc mi) 0 ms) → AscendFrom mi (pc + 1) marks
  blocks_ascend mi pc [] bytes rest marks s all more = ascend_on mi (pc + 1) (suc mi) 0 marks (inl (omega arith)) (more marks all)
  blocks_ascend mi pc (x ∷ insns) bytes rest marks s all more = by_block (block_is x.pc x.op) (λ ms others. blocks_ascend mi x.next insns s.1 rest ms s.6 others more)
    where
      by_block : (block_at x.pc x.op ≡ None) ⊎ (block_at x.pc x.op ≡ Some (Block x.pc))
          → ((ms : List SectionMark) → Mark (map (section_in mi) (filter_map (λ insn. block_at insn.pc insn.op) insns) ++ rest) ms → AscendFrom mi (x.next + 1) ms) → AscendFrom mi (pc + 1) marks
      by_block (inl e) onward = ascend_on mi (pc + 1) mi (x.next + 1) marks (here mi (pc + 1) (x.next + 1) (omega (arith, s.4))) (onward marks (rw e at all))
      by_block (inr e) onward =
          first_ascends mi (pc + 1) (Block x.pc) (map (section_in mi) (filter_map (λ insn. block_at insn.pc insn.op) insns) ++ rest) marks (omega (arith, s.3)) (rw e at all)
          (λ ms others. ascend_on mi (suc (x.pc + 1)) mi (x.next + 1) ms (here mi (suc (x.pc + 1)) (x.next + 1) (omega (arith, s.3, s.4, ap length s.5.is))) (onward ms others))

  whole_ascends : (mi : ℕ) (locks : Bool) (spots : List Spot) (rest : List Section) (marks : List SectionMark)
      → Mark (map (section_in mi) ((if locks then Method ∷ [] else []) ++ spots) ++ rest) marks
      → ((ms : List SectionMark) → Mark (map (section_in mi) spots ++ rest) ms → AscendFrom mi 1 ms) → AscendFrom mi 0 marks
  whole_ascends mi true spots rest marks all more = first_ascends mi 0 Method (map (section_in mi) spots ++ rest) marks (omega arith) all more
  whole_ascends mi false spots rest marks all more = ascend_on mi 0 mi 1 marks (here mi 0 1 (omega arith)) (more marks all)

  sections_ascend : (mi : ℕ) (ms : List MethodInfo) (marks : List SectionMark)
      → ((i : ℕ) (m : MethodInfo) → slice_get ms i ≡ Some m → (bytes : List ℕ) × SpellsInsns 0 m.code bytes) → Mark (sections_from mi ms) marks → AscendFrom mi 0 marks
  sections_ascend mi [] [] spelled all = tt
  sections_ascend mi [] (mark ∷ marks) spelled all = absurd all
  sections_ascend mi (m ∷ ms) marks spelled all =
      let own = spelled 0 m refl in
      whole_ascends mi (is_synchronized m.flags) (filter_map (λ insn. block_at insn.pc insn.op) m.code) (sections_from (suc mi) ms) marks all
      (λ others zipped. blocks_ascend mi 0 m.code own.0 (sections_from (suc mi) ms) others own.1 zipped (λ rest more. sections_ascend (suc mi) ms rest (λ i. spelled (suc i)) more))

pub marks_ascend : (c : MarkedProgram) → IsMarked c → AscendFrom 0 0 c.marks
marks_ascend c h =
    sections_ascend c.program (tagged_by c.tags) h.marks.uses 0 c.program.methods c.marks
    (λ i m e. let coded = (h.checked.program.methods i m e).coded in (coded.bytes, coded.code.spelled)) h.marks.each

-- ---- a part of them does

pub rest_is : (n : ℕ) (marks : List SectionMark) → take (length marks - n) (drop n marks) ≡ drop n marks
rest_is n marks = ap (λ (k : ℕ). take k (drop n marks)) (sym (length-drop n marks)) ∙ take-length (drop n marks)

first_on : (m k : ℕ) → IsFrom 0 0 m k
first_on zero k = inr (refl, omega arith)
first_on (suc m) k = inl (omega arith)

pub drop_ascends : (n : ℕ) (marks : List SectionMark) → AscendFrom 0 0 marks → AscendFrom 0 0 (drop n marks)
drop_ascends zero marks h = h
drop_ascends (suc n) [] h = tt
drop_ascends (suc n) (mark ∷ marks) h = drop_ascends n marks (ascend_on 0 0 mark.method (suc (rank mark.spot)) marks (first_on mark.method (suc (rank mark.spot))) h.1)

-- all of them behind a number
pub rest_ascends : (n : ℕ) (marks : List SectionMark) → AscendFrom 0 0 marks → AscendFrom 0 0 (take (length marks - n) (drop n marks))
rest_ascends n marks h = subst (AscendFrom 0 0) (sym (rest_is n marks)) (drop_ascends n marks h)

-- ---- looking for a section

-- what stands for a mark behind the last one
abbrev no_mark : SectionMark
no_mark = record { method = 0; spot = Method; mark = 0 }

same_next : (n k : ℕ) → (n == k) ≡ (n + 1 == k + 1)
same_next n k = grind (arith, nat_tests)

by_rank : (spot other : Spot) → is_same_spot spot other ≡ (rank spot == rank other)
by_rank Method Method = refl
by_rank (Block pc) (Block at) = same_next pc at
by_rank Method (Block at) = sym (ne_eqb 0 (at + 1) (λ e. omega (arith, e)))
by_rank (Block pc) Method = sym (ne_eqb (pc + 1) 0 (λ e. omega (arith, e)))

and_not : (t u : Bool) → u ≡ false → (t && u) ≡ false
and_not true u e = e
and_not false u e = refl

apart : (m k n j : ℕ) → IsFrom m (suc k) n j → (m == n && k == j) ≡ false
apart m k n j (inl a) = ap (λ (t : Bool). t && k == j) (ne_eqb m n (λ e. omega (arith, a, e)))
apart m k n j (inr a) = and_not (m == n) (k == j) (ne_eqb k j (λ e. omega (arith, a.1, e)))

apart_before : (m k n j : ℕ) → IsFrom n (suc j) m k → (m == n && k == j) ≡ false
apart_before m k n j (inl a) = ap (λ (t : Bool). t && k == j) (ne_eqb m n (λ e. omega (arith, a, e)))
apart_before m k n j (inr a) = and_not (m == n) (k == j) (ne_eqb k j (λ e. omega (arith, a.1, e)))

module _ (method : ℕ) (spot : Spot) where
  pass_over : (mark : SectionMark) (marks : List SectionMark) → (mark.method == method && rank mark.spot == rank spot) ≡ false → is_marked (mark ∷ marks) method spot ≡ is_marked marks method spot
  pass_over mark marks e =
      ap (λ (b : Bool). if b then mark.mark == 0 else is_marked marks method spot) (ap (λ (t : Bool). mark.method == method && t) (by_rank mark.spot spot) ∙ e)

  stands_at : (m k i : ℕ) (marks : List SectionMark) (mark : SectionMark) → AscendFrom m k marks → slice_get marks i ≡ Some mark → IsFrom m k mark.method (rank mark.spot)
  stands_at m k i [] mark h e = absurd (let bad : None ≡ Some mark = e in cc)
  stands_at m k zero (x ∷ marks) mark h e = let same : x ≡ mark = cc in subst (λ (y : SectionMark). IsFrom m k y.method (rank y.spot)) same h.0
  stands_at m k (suc i) (x ∷ marks) mark h e =
      from_on m k x.method (rank x.spot) mark.method (rank mark.spot) h.0
      (lower x.method (rank x.spot) (suc (rank x.spot)) mark.method (rank mark.spot) (omega arith) (stands_at x.method (suc (rank x.spot)) i marks mark h.1 e))

  -- the marks as far as one that stands before
  past : (m k i : ℕ) (marks : List SectionMark) (mark : SectionMark) → AscendFrom m k marks → slice_get marks i ≡ Some mark → IsFrom mark.method (suc (rank mark.spot)) method (rank spot)
      → is_marked (drop (suc i) marks) method spot ≡ is_marked marks method spot
  past m k i [] mark h e l = absurd (let bad : None ≡ Some mark = e in cc)
  past m k zero (x ∷ marks) mark h e l =
      let same : mark ≡ x = cc in
      sym (pass_over x marks (apart x.method (rank x.spot) method (rank spot) (subst (λ (y : SectionMark). IsFrom y.method (suc (rank y.spot)) method (rank spot)) same l)))
  past m k (suc i) (x ∷ marks) mark h e l =
      let before : IsFrom x.method (suc (rank x.spot)) method (rank spot) =
      behind_on x.method (rank x.spot) mark.method (rank mark.spot) method (rank spot) (stands_at x.method (suc (rank x.spot)) i marks mark h.1 e) l in
      past x.method (suc (rank x.spot)) i marks mark h.1 e l ∙ sym (pass_over x marks (apart x.method (rank x.spot) method (rank spot) before))

  pub past_one : (i : ℕ) (marks : List SectionMark) → AscendFrom 0 0 marks → i < length marks
      → stands_before (slice_index_or marks i no_mark).method (rank (slice_index_or marks i no_mark).spot) method (rank spot) ≡ true
      → is_marked (drop (i + 1) marks) method spot ≡ is_marked marks method spot
  past_one i marks h within l =
      let next : i + 1 ≡ suc i = omega arith in
      let mark = slice_index_or marks i no_mark in
      ap (λ (n : ℕ). is_marked (drop n marks) method spot) next
      ∙ past 0 0 i marks mark h (slice_get-get_or marks i no_mark within) (is_told mark.method (rank mark.spot) method (rank spot) l)

  -- and from one that stands behind it on
  none_behind : (m k : ℕ) (marks : List SectionMark) → AscendFrom m k marks → IsFrom method (suc (rank spot)) m k → is_marked marks method spot ≡ false
  none_behind m k [] h l = refl
  none_behind m k (x ∷ marks) h l =
      let behind : IsFrom method (suc (rank spot)) x.method (rank x.spot) = from_on method (suc (rank spot)) m k x.method (rank x.spot) l h.0 in
      pass_over x marks (apart_before x.method (rank x.spot) method (rank spot) behind)
      ∙ none_behind x.method (suc (rank x.spot)) marks h.1 (higher method (suc (rank spot)) x.method (rank x.spot) (suc (rank x.spot)) (omega arith) behind)

  none_from : (m k i : ℕ) (marks : List SectionMark) (mark : SectionMark) → AscendFrom m k marks → slice_get marks i ≡ Some mark → IsFrom method (suc (rank spot)) mark.method (rank mark.spot)
      → is_marked (drop i marks) method spot ≡ false
  none_from m k i [] mark h e l = absurd (let bad : None ≡ Some mark = e in cc)
  none_from m k zero (x ∷ marks) mark h e l =
      let same : mark ≡ x = cc in
      none_behind x.method (rank x.spot) (x ∷ marks) (here x.method (rank x.spot) (rank x.spot) (omega arith), h.1)
      (subst (λ (y : SectionMark). IsFrom method (suc (rank spot)) y.method (rank y.spot)) same l)
  none_from m k (suc i) (x ∷ marks) mark h e l = none_from x.method (suc (rank x.spot)) i marks mark h.1 e l

  pub none_at : (i : ℕ) (marks : List SectionMark) → AscendFrom 0 0 marks → i < length marks
      → stands_before method (rank spot) (slice_index_or marks i no_mark).method (rank (slice_index_or marks i no_mark).spot) ≡ true → is_marked (drop i marks) method spot ≡ false
  none_at i marks h within l =
      let mark = slice_index_or marks i no_mark in
      none_from 0 0 i marks mark h (slice_get-get_or marks i no_mark within) (is_told method (rank spot) mark.method (rank mark.spot) l)
