-- The first rule that forbids an own instruction is the mark of the section.
use Rattle.std.{proofs.Common.{◌≡◌, ℕ, zero, suc, ◌<◌, ◌≤◌, false, List, [], ◌∷◌, ◌++◌, length, Some, refl, sym, ap, subst, ◌∙◌, arith, append_assoc, ◌==◌, slice_get, slice_index}, specs.List.AllZip}
use Rattle.std.proofs.lemmas.{Bool.Decides.nat_tests, Option.{slice_get_within, same_Some}}
use Rattle.jvm_types.specs.declared.program.{MethodInfo.MethodInfo, Program.Program}
use Rattle.checked_program.specs.{Marks.{Applies, elsewhere, itself, called, recurring, IsOnOwn, turn, HasMark, IsMarkOf}, Sections.{Section, mode_of_method, section_mode, IsOwn}}
use Rattle.checked_program.specs.{TaggedCode.{Tagged, IsInstructionReached}, declared.section.{Mode.Mode, SectionMark.SectionMark, Spot.TheVariants.Method, Uses.Uses}}
use Rattle.guard_analysis.{specs.SectionGrades.{earliest_before, Forbids, breaks, calls, recurs, IsGrade, AreGrades, IsFirstOf, section_in, Continues}, proofs.Earliest.{earliest_is}}
use Rattle.guard_analysis.proofs.Grading.{forbids_low}

-- ---- one section

module _ (p : Program) (tags : Tagged) (uses : Uses) (s : Section) where
  applies_of : (i n : ℕ) → IsOwn p tags s.method s.spot i → Forbids p tags uses (section_mode p s) s.method i n → Applies p tags uses s n
  applies_of i n o (breaks k b) = itself (record { i = i; own = o; breaks = b })
  applies_of i n o (calls first c l) = called refl (record { called = l.called; is_called = record { i = i; first = first; own = o; calls = c; over = l.over; through = l.through }; i = l.i; n = l.n; breaks = l.breaks })
  applies_of i n o (recurs first c l) = recurring refl (record { called = l.called; is_called = record { i = i; first = first; own = o; calls = c; over = l.over; through = l.through }; recurs = l.recurs })

  forbids_of : IsOnOwn p tags s.method s.spot → (n : ℕ) → Applies p tags uses s n → (i : ℕ) × (IsOwn p tags s.method s.spot i) × Forbids p tags uses (section_mode p s) s.method i n
  forbids_of on n (elsewhere e f) = absurd (f on)
  forbids_of on n (itself b) = (b.i, b.own, breaks n b.breaks)
  forbids_of on n (called e b) = (
    b.is_called.i,
    b.is_called.own,
    subst (λ x. Forbids p tags uses (section_mode p s) s.method b.is_called.i x) (sym e)
        (calls b.is_called.first b.is_called.calls (record { called = b.called; over = b.is_called.over; through = b.is_called.through; i = b.i; n = b.n; breaks = b.breaks })),
  )
  forbids_of on n (recurring e b) = (
    b.is_called.i,
    b.is_called.own,
    subst (λ x. Forbids p tags uses (section_mode p s) s.method b.is_called.i x) (sym e)
        (recurs b.is_called.first b.is_called.calls (record { called = b.called; over = b.is_called.over; through = b.is_called.through; recurs = b.recurs })),
  )

  turn_is : (n : ℕ) → n ≤ 7 → turn n ≡ n
  turn_is n l = let test : (n == 8) ≡ false = grind (arith, nat_tests) in rw test refl

  module _ (on : IsOnOwn p tags s.method s.spot) (IsOne : ℕ → Type 0) (rule : ℕ → ℕ) (grades : (i : ℕ) → IsOne i → IsGrade p tags uses (section_mode p s) s.method i (rule i)) (own : (i : ℕ) → IsOne i → 0 < rule i → IsOwn p tags s.method s.spot i)
      (all : (i : ℕ) → IsOwn p tags s.method s.spot i → IsOne i) where
    least : (n x : ℕ) → IsFirstOf IsOne rule n → Applies p tags uses s x → (0 < n) × (n ≤ x) × (x ≤ 7)
    least n x e a =
        let f = forbids_of on x a in
        let one = all f.0 f.1 in
        let g = (grades f.0 one).first x f.2 in
        let low : x ≤ 7 = (forbids_low p tags uses (section_mode p s) s.method f.0 x f.2).1 in
        let below : rule f.0 ≤ x = g.1 in
        let r = e.first f.0 one g.0 (omega (arith, below, low)) in
        let under : n ≤ rule f.0 = r.1 in
        (r.0, omega (arith, under, below), low)

    pub has_first : (n : ℕ) → IsFirstOf IsOne rule n → HasMark p tags uses s n
    has_first zero e = λ x a. let some : 0 < 0 = (least 0 x e a).0 in omega (arith, some)
    has_first (suc n) e =
        let t = e.some (omega arith) in
        let some : 0 < rule t.0 = omega (arith, t.2) in
        let forbids : Forbids p tags uses (section_mode p s) s.method t.0 (suc n) = subst (λ x. Forbids p tags uses (section_mode p s) s.method t.0 x) t.2 ((grades t.0 t.1).forbids some) in
        let low : suc n ≤ 7 = (forbids_low p tags uses (section_mode p s) s.method t.0 (suc n) forbids).1 in (
          applies_of t.0 (suc n) (own t.0 t.1 some) forbids,
          λ x l a. let r = least (suc n) x e a in let under : suc n ≤ x = r.1 in let small : x ≤ 7 = r.2 in omega (arith, l, under, turn_is (suc n) low, turn_is x small),
        )

  -- a block that is not on this
  pub has_elsewhere : (IsOnOwn p tags s.method s.spot → ⊥) → HasMark p tags uses s 8
  has_elsewhere off = (elsewhere refl off, λ x l a. let bad : turn x < 0 = l in absurd (omega (arith, bad)))

-- ---- a method's own section

module _ (p : Program) (tags : Tagged) (uses : Uses) (mi : ℕ) (m : MethodInfo) (at_m : slice_get p.methods mi ≡ Some m) where
  pub reached_of : (mode : Mode) (i n : ℕ) → Forbids p tags uses mode mi i n → IsInstructionReached p tags mi i
  reached_of mode i n (breaks k b) = record { m = b.m; insn = b.insn; target = b.target; f = b.f; at = b.at }
  reached_of mode i n (calls first c l) = record { m = c.m; insn = c.insn; target = c.target; f = c.f; at = c.at }
  reached_of mode i n (recurs first c l) = record { m = c.m; insn = c.insn; target = c.target; f = c.f; at = c.at }

  inside_of : (i : ℕ) → IsInstructionReached p tags mi i → i < length m.code
  inside_of i r = let same : r.m ≡ m = same_Some r.m m (sym r.at.in_program ∙ at_m) in subst (λ (x : MethodInfo). i < length x.code) same (slice_get_within r.m.code i r.insn r.at.in_code)

  pub whole_marked : (grades : List ℕ) → AreGrades p tags uses (mode_of_method (Some m)) mi m grades → IsMarkOf p tags uses (section_in mi Method) (record { method = mi; spot = Method; mark = earliest_before (λ i. slice_index grades i) (length grades) })
  whole_marked grades given =
      let mode : mode_of_method (Some m) ≡ section_mode p (section_in mi Method) = ap mode_of_method (sym at_m) in
      let are : AreGrades p tags uses (section_mode p (section_in mi Method)) mi m grades = subst (λ x. AreGrades p tags uses x mi m grades) mode given in
      record {
        method = refl;
        spot = refl;
        mark_is = has_first p tags uses (section_in mi Method) tt (λ i. i < length grades) (λ i. slice_index grades i)
            (λ t l. are.each t (omega (arith, l, are.long)))
            (λ t l h. reached_of (section_mode p (section_in mi Method)) t (slice_index grades t) ((are.each t (omega (arith, l, are.long))).forbids h))
            (λ i r. let low : i < length m.code = inside_of i r in omega (arith, low, are.long))
            (earliest_before (λ i. slice_index grades i) (length grades))
            (let first = earliest_is (λ i. slice_index grades i) (length grades) in record { some = first.some; first = λ t l h low. first.first t l h });
      }

-- ---- marks one behind the other

pub adds_one : (p : Program) (tags : Tagged) (uses : Uses) (s : Section) (mark : SectionMark) (all rest : List Section) (marks : List SectionMark) → IsMarkOf p tags uses s mark → Continues p tags uses all (s ∷ rest) marks
    → Continues p tags uses all rest (marks ++ mark ∷ [])
adds_one p tags uses s mark all rest marks is c more r = subst (λ l. AllZip (IsMarkOf p tags uses) all l) (sym (append_assoc marks (mark ∷ []) more)) (c (mark ∷ more) (is, r))
