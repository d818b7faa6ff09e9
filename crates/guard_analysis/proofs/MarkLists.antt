-- Marks one behind the other complete the marks of all sections.
use Rattle.std.proofs.Common.{◌≡◌, ℕ, zero, suc, ◌+◌, ◌<◌, ◌≤◌, true, List, [], ◌∷◌, ◌++◌, length, map, drop, Option, Some, None, refl, sym, ap, subst, ◌∙◌, arith, append_assoc, if◌then◌else◌, slice_get, slice_index}
use Rattle.std.{specs.{List.{AllZip, filter_map, cons_option}, Option.option_to_list}, proofs.lemmas.List.{map-append, drop_all}}
use Rattle.jvm_types.specs.{Members.is_synchronized, declared.{code.{Insn.Insn, Op.Op}, program.{MethodInfo.MethodInfo, Program.Program}}}
use Rattle.checked_program.specs.{LockTags.TagShape, MarkedProgram.AreTaggings, Marks.IsMarkOf, Sections.{Section, block_at, spots_of, sections, sections_from}, TaggedCode.Tagged}
use Rattle.checked_program.specs.declared.{section.{SectionMark.SectionMark, Spot.{Spot, TheVariants.{Method, Block}}, Uses.Uses}, tag.Tags.Tags}
use Rattle.guard_analysis.specs.{BlockWalks.IsInside, SectionGrades.{IsFirstOf, IsBlockMark, section_in, sections_at, whole_of, Continues, Marks, MarksUpTo}}
use Rattle.guard_analysis.proofs.SectionMarks.{adds_one}
use Rattle.jvm_types.specs.declared.code.Op.TheVariants as ops

-- ---- one mark

pub first_mark : (m : MethodInfo) (frames : List (Option TagShape)) (depth enter : ℕ) (grades : List ℕ) (n : ℕ) (o : Option ℕ) → IsFirstOf (IsInside m frames depth enter) (λ i. slice_index grades i) n → Some depth ≡ o → IsBlockMark m frames grades enter o n
first_mark m frames depth enter grades n o x g = subst (λ d. IsBlockMark m frames grades enter d n) g x

module _ (p : Program) (tags : Tagged) (uses : Uses) (mi : ℕ) where
  pub marks_block : (o : Option Insn) (insn : Insn) (old new : List SectionMark) (n : ℕ) → o ≡ Some insn → insn.op ≡ ops.Monitorenter → new ≡ old ++ record { method = mi; spot = Block insn.pc; mark = n } ∷ []
      → IsMarkOf p tags uses (section_in mi (Block insn.pc)) (record { method = mi; spot = Block insn.pc; mark = n }) → Marks p tags uses (sections_at mi o) old new
  marks_block o insn old new n e f g is all rest c =
      let one : sections_at mi o ≡ section_in mi (Block insn.pc) ∷ [] = ap (sections_at mi) e ∙ ap (λ (op : Op). map (section_in mi) (option_to_list (block_at insn.pc op))) f in
      subst (λ l. Continues p tags uses all rest l) (sym g)
      (adds_one p tags uses (section_in mi (Block insn.pc)) (record { method = mi; spot = Block insn.pc; mark = n }) all rest old is (subst (λ l. Continues p tags uses all (l ++ rest) old) one c))

  pub marks_whole : (m : MethodInfo) (old new : List SectionMark) (n : ℕ) → is_synchronized m.flags ≡ true → new ≡ old ++ record { method = mi; spot = Method; mark = n } ∷ []
      → IsMarkOf p tags uses (section_in mi Method) (record { method = mi; spot = Method; mark = n }) → Marks p tags uses (map (section_in mi) (whole_of m)) old new
  marks_whole m old new n e g is all rest c =
      let one : whole_of m ≡ Method ∷ [] = ap (λ b. if b then Method ∷ [] else []) e in
      subst (λ l. Continues p tags uses all rest l) (sym g)
      (adds_one p tags uses (section_in mi Method) (record { method = mi; spot = Method; mark = n }) all rest old is (subst (λ l. Continues p tags uses all (map (section_in mi) l ++ rest) old) one c))

  -- ---- the blocks of a method

  abbrev blocks_of : List Insn → List Section
  blocks_of code = map (section_in mi) (filter_map (λ insn. block_at insn.pc insn.op) code)

  first_block : (o : Option Spot) (spots : List Spot) → map (section_in mi) (cons_option o spots) ≡ map (section_in mi) (option_to_list o) ++ map (section_in mi) spots
  first_block None spots = refl
  first_block (Some spot) spots = refl

  blocks_next : (code : List Insn) (i : ℕ) → i < length code → blocks_of (drop i code) ≡ sections_at mi (slice_get code i) ++ blocks_of (drop (suc i) code)
  blocks_next [] i l = absurd (omega (arith, l))
  blocks_next (insn ∷ code) zero l = first_block (block_at insn.pc insn.op) (filter_map (λ x. block_at x.pc x.op) code)
  blocks_next (insn ∷ code) (suc i) l = blocks_next code i (omega (arith, l))

  pub blocks_go_on : (code : List Insn) (i : ℕ) (old mid new : List SectionMark) → i < length code → MarksUpTo p tags uses mi code i old mid → Marks p tags uses (sections_at mi (slice_get code i)) mid new → MarksUpTo p tags uses mi code (i + 1) old new
  blocks_go_on code i old mid new l h k all rest c =
      let next : i + 1 ≡ suc i = omega arith in
      let shown : blocks_of (drop i code) ++ rest ≡ sections_at mi (slice_get code i) ++ (blocks_of (drop (suc i) code) ++ rest) = ap (λ x. x ++ rest) (blocks_next code i l) ∙ append_assoc (sections_at mi (slice_get code i)) (blocks_of (drop (suc i) code)) rest in
      subst (λ n. Continues p tags uses all (blocks_of (drop n code) ++ rest) new) (sym next)
      (k all (blocks_of (drop (suc i) code) ++ rest) (subst (λ x. Continues p tags uses all x mid) shown (h all rest c)))

  pub blocks_end : (code : List Insn) (i : ℕ) (old new : List SectionMark) → length code ≤ i → MarksUpTo p tags uses mi code i old new → Marks p tags uses (blocks_of code) old new
  blocks_end code i old new l h all rest c = subst (λ x. Continues p tags uses all (blocks_of x ++ rest) new) (drop_all i code l) (h all rest c)

  pub both_marked : (m : MethodInfo) (old mid new : List SectionMark) → Marks p tags uses (map (section_in mi) (whole_of m)) old mid → Marks p tags uses (blocks_of m.code) mid new → Marks p tags uses (map (section_in mi) (spots_of m)) old new
  both_marked m old mid new h k all rest c =
      let blocks : List Spot = filter_map (λ insn. block_at insn.pc insn.op) m.code in
      let parts : map (section_in mi) (spots_of m) ++ rest ≡ map (section_in mi) (whole_of m) ++ (blocks_of m.code ++ rest) =
      ap (λ x. x ++ rest) (map-append (section_in mi) (whole_of m) blocks) ∙ append_assoc (map (section_in mi) (whole_of m)) (map (section_in mi) blocks) rest in
      k all rest (h all (blocks_of m.code ++ rest) (subst (λ x. Continues p tags uses all x old) parts c))

  pub both_marked_in : (m n : MethodInfo) (old mid new : List SectionMark) → n ≡ m → Marks p tags uses (map (section_in mi) (whole_of m)) old mid → Marks p tags uses (blocks_of n.code) mid new → Marks p tags uses (map (section_in mi) (spots_of m)) old new
  both_marked_in m n old mid new e h k = both_marked m old mid new h (subst (λ (x : MethodInfo). Marks p tags uses (blocks_of x.code) mid new) e k)

-- ---- all methods

sections_next : (ms : List MethodInfo) (n i : ℕ) (m : MethodInfo) → slice_get ms i ≡ Some m → sections_from n (drop i ms) ≡ map (section_in n) (spots_of m) ++ sections_from (suc n) (drop (suc i) ms)
sections_next [] n i m e = absurd (let bad : None ≡ Some m = e in cc)
sections_next (x ∷ ms) n zero m e = let same : x ≡ m = cc in rw same refl
sections_next (x ∷ ms) n (suc i) m e = sections_next ms n i m e

module _ (p : Program) (tags : Tagged) (uses : Uses) where
  pub methods_go_on : (i : ℕ) (m : MethodInfo) (old new : List SectionMark) → slice_get p.methods i ≡ Some m → Continues p tags uses (sections p) (sections_from i (drop i p.methods)) old → Marks p tags uses (map (section_in i) (spots_of m)) old new
      → Continues p tags uses (sections p) (sections_from (i + 1) (drop (i + 1) p.methods)) new
  methods_go_on i m old new e h k =
      let next : i + 1 ≡ suc i = omega arith in
      subst (λ n. Continues p tags uses (sections p) (sections_from n (drop n p.methods)) new) (sym next)
      (k (sections p) (sections_from (suc i) (drop (suc i) p.methods)) (subst (λ x. Continues p tags uses (sections p) x old) (sections_next p.methods i i m e) h))

  append_none : {A : Type 0} (xs : List A) → xs ++ [] ≡ xs
  append_none [] = refl
  append_none (x ∷ xs) = ap (λ l. x ∷ l) (append_none xs)

  pub methods_end : (i : ℕ) (marks : List SectionMark) → length p.methods ≤ i → Continues p tags uses (sections p) (sections_from i (drop i p.methods)) marks → AllZip (IsMarkOf p tags uses) (sections p) marks
  methods_end i marks l h = subst (λ x. AllZip (IsMarkOf p tags uses) (sections p) x) (append_none marks) (h [] (subst (λ x. AllZip (IsMarkOf p tags uses) (sections_from i x) []) (sym (drop_all i p.methods l)) tt))

pub taggings_long : (p : Program) (ms : List MethodInfo) (ts : List Tags) → AreTaggings p ms ts → length ms ≤ length ts
taggings_long p [] ts h = omega arith
taggings_long p (m ∷ ms) [] h = absurd h
taggings_long p (m ∷ ms) (t ∷ ts) h = let more : length ms ≤ length ts = taggings_long p ms ts h.1 in omega (arith, more)
