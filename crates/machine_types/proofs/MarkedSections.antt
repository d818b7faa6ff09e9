-- A section that the machine takes as marked has the mark 0.
use Rattle.std.proofs.Common.{◌≡◌, ℕ, Bool, true, false, cond, List, [], ◌∷◌, refl, sym, ◌∙◌, subst, arith, ◌==◌, ◌&&◌, Contains}
use Rattle.std.{specs.List.AllZip, proofs.lemmas.{Bool.eqb-true, List.Elements.Contains-append_right}}
use Rattle.lists.proofs.TestLaws.{both_are_true}
use Rattle.jvm_types.specs.declared.program.Program.{Program}
use Rattle.checked_program.specs.{Marks.{HasMark, IsMarkOf}, Sections.{Section, sections}, TaggedCode.Tagged, declared.section.{SectionMark.SectionMark, Spot.Spot}}
use Rattle.checked_program.specs.declared.section.{Spot.TheVariants.{Method, Block}, Uses.Uses}
use Rattle.machine_types.specs.{MarkLaws.MarkedHasMark, Sections.{is_same_spot, is_marked}, Standing.tags_of}

same_spot : (a b : Spot) → is_same_spot a b ≡ true → a ≡ b
same_spot Method Method e = refl
same_spot (Block pc) (Block other) e = let same : pc ≡ other = eqb-true pc other e in cc
same_spot Method (Block other) e = absurd (let bad : false ≡ true = e in cc)
same_spot (Block pc) Method e = absurd (let bad : false ≡ true = e in cc)

module _ (p : Program) (tags : Tagged) (uses : Uses) (method : ℕ) (spot : Spot) where
  abbrev sought : Section
  sought = record { method = method; spot = spot }

  -- it is one of these, and no rule applies to it
  abbrev IsFree : List Section → Type 0
  IsFree ss = Contains ss sought × HasMark p tags uses sought 0

  found : (s : Section) (ss : List Section) (mark : SectionMark) → IsMarkOf p tags uses s mark → ((mark.method == method) && is_same_spot mark.spot spot) ≡ true → (mark.mark == 0) ≡ true → IsFree (s ∷ ss)
  found s ss mark k same none =
      let both = both_are_true (mark.method == method) (is_same_spot mark.spot spot) same in
      let of_method : s.method ≡ method = sym k.method ∙ eqb-true mark.method method both.0 in
      let of_spot : s.spot ≡ spot = sym k.spot ∙ same_spot mark.spot spot both.1 in
      let is : s ≡ sought = λ i. record { method = of_method i; spot = of_spot i } in
      ((0, omega arith, is), subst (λ x. HasMark p tags uses x 0) is (subst (λ n. HasMark p tags uses s n) (eqb-true mark.mark 0 none) k.mark_is))

  has_mark : (ss : List Section) (marks : List SectionMark) → AllZip (IsMarkOf p tags uses) ss marks → is_marked marks method spot ≡ true → IsFree ss
  has_mark ss [] all e = absurd (let bad : false ≡ true = e in cc)
  has_mark [] (mark ∷ marks) all e = absurd all
  has_mark (s ∷ ss) (mark ∷ marks) all e = by_test ((mark.method == method) && is_same_spot mark.spot spot) refl e (has_mark ss marks all.1)
    where
      by_test : (b : Bool) → ((mark.method == method) && is_same_spot mark.spot spot) ≡ b → cond b (mark.mark == 0) (is_marked marks method spot) ≡ true → (is_marked marks method spot ≡ true → IsFree ss) → IsFree (s ∷ ss)
      by_test true same e more = found s ss mark all.0 same e
      by_test false same e more = let k = more e in (Contains-append_right (s ∷ []) ss sought k.0, k.1)

pub marked_has_mark : MarkedHasMark
marked_has_mark c method spot k e = (has_mark c.program (tags_of c) k.uses method spot (sections c.program) c.marks k.each e).1
