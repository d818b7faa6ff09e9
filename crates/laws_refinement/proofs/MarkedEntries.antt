-- The test by which a thread tries a section finds the mark 0 of the section that its top frame enters, and nothing else.
use Rattle.std.{proofs.Common.{◌≡◌, ℕ, zero, suc, ◌<◌, Bool, true, false, cond, List, [], ◌∷◌, length, refl, sym, ap, ◌∙◌, subst, arith, ◌==◌, ◌&&◌, Contains, slice_index_or}, specs.List.AllZip}
use Rattle.std.proofs.lemmas.Bool.Decides.{Decides-eqb}
use Rattle.lists.proofs.TestLaws.{both_true, both_are_true, same_number}
use Rattle.jvm_types.specs.declared.program.Program.{Program}
use Rattle.checked_program.specs.{MarkedProgram.{MarkedProgram, IsMarked}, Marks.{HasMark, IsMarkOf}, Sections.{Section, sections}, TaggedCode.Tagged, declared.section.SectionMark.SectionMark}
use Rattle.checked_program.specs.declared.section.{Spot.{Spot, TheVariants.{Method, Block}}, Uses.Uses}
use Rattle.machine_types.specs.{Elision.enters_marked, Sections.{entered_at, is_same_spot, is_marked}, Standing.tags_of, Threads.Frame}
use Rattle.laws_refinement.specs.EntryLaws.{BeginsBehind, IsAtMarked}

-- ---- a spot and the pc at which its section begins

begins_behind : (spot : Spot) (pc : ℕ) → is_same_spot spot (entered_at pc) ≡ true → BeginsBehind spot pc
begins_behind Method zero e = refl
begins_behind (Block enter) (suc pc) e = let same : enter ≡ pc = (Decides-eqb enter pc).0 e in omega (arith, same)
begins_behind spot pc e = absurd (let bad : false ≡ true = e in cc)

is_entered : (spot : Spot) (pc : ℕ) → BeginsBehind spot pc → spot ≡ entered_at pc
is_entered Method zero k = refl
is_entered (Block enter) (suc pc) k = let same : enter ≡ pc = omega (arith, k) in ap Block same
is_entered spot pc k = absurd (omega (arith, k))

-- ---- from the test to the mark

module _ (method pc : ℕ) where
  -- a mark that the test finds
  record Found (marks : List SectionMark) : Type 0 where
    mark : SectionMark
    there : Contains marks mark
    of_method : mark.method ≡ method
    spot : BeginsBehind mark.spot pc
    none : mark.mark ≡ 0

  found : (marks : List SectionMark) → is_marked marks method (entered_at pc) ≡ true → Found marks
  found [] e = absurd (let bad : false ≡ true = e in cc)
  found (m ∷ ms) e = by_test ((m.method == method) && is_same_spot m.spot (entered_at pc)) refl e (found ms)
    where
      by_test : (b : Bool) → ((m.method == method) && is_same_spot m.spot (entered_at pc)) ≡ b → cond b (m.mark == 0) (is_marked ms method (entered_at pc)) ≡ true
          → (is_marked ms method (entered_at pc) ≡ true → Found ms) → Found (m ∷ ms)
      by_test true same e more =
          let both = both_are_true (m.method == method) (is_same_spot m.spot (entered_at pc)) same in
          record { mark = m; there = (0, omega arith, refl); of_method = (Decides-eqb m.method method).0 both.0; spot = begins_behind m.spot pc both.1; none = (Decides-eqb m.mark 0).0 e }
      by_test false same e more =
          let k = more e in
          record { mark = k.mark; there = (suc k.there.0, omega (arith, k.there.1), k.there.2); of_method = k.of_method; spot = k.spot; none = k.none }

pub at_mark : (c : MarkedProgram) (frames : List Frame) → enters_marked c frames ≡ true → IsAtMarked c frames
at_mark c [] e = absurd (let bad : false ≡ true = e in cc)
at_mark c (f ∷ below) e =
    let k = found f.method f.pc c.marks e in
    record { frame = f; below = below; is = refl; mark = k.mark; there = k.there; of_method = k.of_method; spot = k.spot; none = k.none }

-- ---- from the mark to the test: a section has one mark, wherever it is listed

module _ (p : Program) (tags : Tagged) (uses : Uses) (method pc : ℕ) where
  abbrev here : Section
  here = record { method = method; spot = entered_at pc }

  mark_here : (s : Section) (m : SectionMark) → IsMarkOf p tags uses s m → m.method ≡ method → m.spot ≡ entered_at pc → HasMark p tags uses here m.mark
  mark_here s m k method_is spot_is = subst (λ x. HasMark p tags uses x m.mark) (λ i. record { method = (sym k.method ∙ method_is) i; spot = (sym k.spot ∙ spot_is) i }) k.mark_is

  module _ (mark : SectionMark) (of_method : mark.method ≡ method) (of_spot : mark.spot ≡ entered_at pc) where
    is_free : (ss : List Section) (marks : List SectionMark) → AllZip (IsMarkOf p tags uses) ss marks → (k : ℕ) → k < length marks → slice_index_or marks k mark ≡ mark → mark.mark ≡ 0 → HasMark p tags uses here 0
    is_free ss [] all k below e none = absurd (omega (arith, below))
    is_free [] (m ∷ ms) all k below e none = absurd all
    is_free (s ∷ ss) (m ∷ ms) all zero below e none = subst (HasMark p tags uses here) none (mark_here s mark (subst (IsMarkOf p tags uses s) e all.0) of_method of_spot)
    is_free (s ∷ ss) (m ∷ ms) all (suc k) below e none = is_free ss ms all.1 k (omega (arith, below)) e none

    same_section : ((mark.method == method) && is_same_spot mark.spot (entered_at pc)) ≡ true
    same_section = both_true (mark.method == method) (is_same_spot mark.spot (entered_at pc)) (same_number mark.method method of_method)
        (subst (λ (spot : Spot). is_same_spot spot (entered_at pc) ≡ true) (sym of_spot)
        (elim (entered_at pc) as (λ (spot : Spot). is_same_spot spot spot ≡ true) [ Method ↦ refl | Block n ↦ same_number n n refl ]))

    passes : HasMark p tags uses here 0 → (ss : List Section) (marks : List SectionMark) → AllZip (IsMarkOf p tags uses) ss marks → (k : ℕ) → k < length marks → slice_index_or marks k mark ≡ mark → is_marked marks method (entered_at pc) ≡ true
    passes free ss [] all k below e = absurd (omega (arith, below))
    passes free [] (m ∷ ms) all k below e = absurd all
    passes free (s ∷ ss) (m ∷ ms) all k below e = by_test ((m.method == method) && is_same_spot m.spot (entered_at pc)) refl k below e (passes free ss ms all.1)
      where
        by_test : (b : Bool) → ((m.method == method) && is_same_spot m.spot (entered_at pc)) ≡ b → (k : ℕ) → k < length (m ∷ ms) → slice_index_or (m ∷ ms) k mark ≡ mark
            → ((j : ℕ) → j < length ms → slice_index_or ms j mark ≡ mark → is_marked ms method (entered_at pc) ≡ true) → cond b (m.mark == 0) (is_marked ms method (entered_at pc)) ≡ true
        by_test true same k below e more =
            let both = both_are_true (m.method == method) (is_same_spot m.spot (entered_at pc)) same in
            same_number m.mark 0 ((elim m.mark as (λ (n : ℕ). HasMark p tags uses here n → n ≡ 0) [ zero ↦ λ k. refl | suc n ↦ λ k. absurd (free (suc n) k.0) ])
            (mark_here s m all.0 ((Decides-eqb m.method method).0 both.0) (is_entered m.spot pc (begins_behind m.spot pc both.1))))
        by_test false same zero below e more =
            let bad : true ≡ false = sym same_section ∙ ap (λ (x : SectionMark). (x.method == method) && is_same_spot x.spot (entered_at pc)) (sym e) ∙ same in absurd (cc)
        by_test false same (suc k) below e more = more k (omega (arith, below)) e

pub enters_by_mark : (c : MarkedProgram) → IsMarked c → (frames : List Frame) → IsAtMarked c frames → enters_marked c frames ≡ true
enters_by_mark c marked frames at =
    let spot : at.mark.spot ≡ entered_at at.frame.pc = is_entered at.mark.spot at.frame.pc at.spot in
    subst (λ (fs : List Frame). enters_marked c fs ≡ true) (sym at.is) (passes
    c.program (tags_of c) marked.marks.uses at.frame.method at.frame.pc at.mark at.of_method spot
    (is_free c.program (tags_of c) marked.marks.uses at.frame.method at.frame.pc at.mark at.of_method spot (sections c.program) c.marks marked.marks.each at.there.0 at.there.1 at.there.2 at.none)
    (sections c.program) c.marks marked.marks.each at.there.0 at.there.1 at.there.2)
