-- The reason of a mark, from what was found, and the reasons of all marks.
use Rattle.std.proofs.Common.{◌≡◌, ℕ, zero, suc, ◌+◌, ◌<◌, ◌≤◌, Bool, true, false, ◌&&◌, List, [], ◌∷◌, ◌++◌, length, Option, Some, None, refl, sym, ap, subst, ◌∙◌, arith, ⊎_elim, ◌==◌, slice_get, slice_index_or}
use Rattle.std.{specs.List.AllZip, proofs.lemmas.{Bool.{and_parts, Decides.nat_tests}, List.length-append, Option.same_Some}}
use Rattle.jvm_types.specs.{ProgramInvariant.IsProgram, declared.{limits.TheConstants.MOST_INSTRUCTIONS, program.{MethodInfo.MethodInfo, Program.Program}}}
use Rattle.checked_program.specs.{MarkedProgram.{MarkedProgram, IsMarked}, Marks.{BreaksAt, OwnBreaks, HasMark, IsMarkOf, AreMarks}, OwnedArrays.AreUses}
use Rattle.checked_program.specs.{Sections.{Section, sections, section_mode, IsOwn}, TaggedCode.{Tagged, tagged_by}, declared.{section.{SectionMark.SectionMark, Uses.Uses}, tag.Tags.Tags}}
use Rattle.checked_program.proofs.CalledMethods.{methods_few}
use Rattle.laws_sections.proofs.OneMarks.{one_use}
use Rattle.guard_analysis.proofs.{CalleesFound.breaks_one, Grading.fault_known}
use Rattle.mark_reasons.specs.{Firsts.IsFirst, OwnFlags.AreOwn, Reasons.{own_callee, marked_section, LeadsToFault, AreMarked, FirstReasons, IsExplained}, Searches.{node_fault, own_breaks, own_site}}
use Rattle.mark_reasons.{specs.declared.reason.Reason.Reason, proofs.{Nodes.inside_breaks, SearchLaws.last_got}}

-- ---- an own instruction

module _ (p : Program) (uses : Uses) (tags : List Tags) (is : IsProgram p) (s : Section) (m : MethodInfo) (t : Tags) (own : List Bool)
    (at_m : slice_get p.methods s.method ≡ Some m) (at_t : slice_get tags s.method ≡ Some t) (are : AreOwn p (tagged_by tags) s.method s.spot own) where
  -- one that breaks a rule passes the test
  own_here : (rule i : ℕ) → IsOwn p (tagged_by tags) s.method s.spot i → BreaksAt p (tagged_by tags) uses (own_callee p s) i rule → own_breaks p uses (section_mode p s) s.method m t own rule i ≡ true
  own_here rule i o b =
      let fault : node_fault p uses s.method (Some m) (Some t) (section_mode p s) i ≡ rule = fault_known p uses tags is s.method m t at_m at_t (section_mode p s) i rule b in
      let test : (node_fault p uses s.method (Some m) (Some t) (section_mode p s) i == rule) ≡ true = grind (arith, nat_tests) in
      let flag : slice_index_or own i false ≡ true = are.all i o in
      rw (flag, test) refl

  own_before : (rule i : ℕ) → ((j : ℕ) → j < i → own_breaks p uses (section_mode p s) s.method m t own rule j ≡ false) → (j : ℕ) → j < i → IsOwn p (tagged_by tags) s.method s.spot j → BreaksAt p (tagged_by tags) uses (own_callee p s) j rule → ⊥
  own_before rule i none j l o b = let bad : true ≡ false = sym (own_here rule j o b) ∙ none j l in cc

  pub own_is_fault : (rule i : ℕ) → 0 < rule → own_breaks p uses (section_mode p s) s.method m t own rule i ≡ true → ((j : ℕ) → j < i → own_breaks p uses (section_mode p s) s.method m t own rule j ≡ false) → LeadsToFault p (tagged_by tags) uses s [] (own_site (section_mode p s) s.method i) rule
  own_is_fault rule i l e none =
      let both = and_parts (slice_index_or own i false) (node_fault p uses s.method (Some m) (Some t) (section_mode p s) i == rule) e in
      let test : (node_fault p uses s.method (Some m) (Some t) (section_mode p s) i == rule) ≡ true = both.1 in
      let same : node_fault p uses s.method (Some m) (Some t) (section_mode p s) i ≡ rule = grind (arith, nat_tests) in
      let some : 0 < node_fault p uses s.method (Some m) (Some t) (section_mode p s) i = omega (arith, l, same) in
      record { leads = refl; own = are.only i both.0; breaks = subst (λ r. BreaksAt p (tagged_by tags) uses (own_callee p s) i r) same (breaks_one p uses tags is (own_callee p s) m t i at_m at_t some); first = own_before rule i none; shortest = λ x xs site r leads o breaks. let less : 0 ≤ suc (length xs) = omega arith in less }

  pub own_none : (rule : ℕ) → OwnBreaks p (tagged_by tags) uses s rule → IsFirst (λ i. own_breaks p uses (section_mode p s) s.method m t own rule i) (length m.code) None → ⊥
  own_none rule o none =
      let bad : true ≡ false = sym (own_here rule o.i o.own o.breaks) ∙ none o.i (inside_breaks p uses tags is s.method m t at_m at_t (section_mode p s) o.i rule o.breaks) in
      cc

-- ---- all marks

module _ (p : Program) (tags : Tagged) (uses : Uses) where
  one_marked : (s : Section) (mark : SectionMark) → IsMarkOf p tags uses s mark → HasMark p tags uses (marked_section mark) mark.mark
  one_marked s mark h = subst (λ (x : Section). HasMark p tags uses x mark.mark) (same s mark h) h.mark_is
    where
      same : (s : Section) (mark : SectionMark) → IsMarkOf p tags uses s mark → s ≡ marked_section mark
      same s mark h = λ i. record { method = sym h.method i; spot = sym h.spot i }

  all_marked : (ss : List Section) (marks : List SectionMark) → AllZip (IsMarkOf p tags uses) ss marks → AreMarked p tags uses marks
  all_marked [] [] h i mark e = absurd (let bad : None ≡ Some mark = e in cc)
  all_marked [] (n ∷ marks) h i mark e = absurd h
  all_marked (s ∷ ss) [] h i mark e = absurd h
  all_marked (s ∷ ss) (n ∷ marks) h zero mark e = subst (λ (x : SectionMark). HasMark p tags uses (marked_section x) x.mark) (same_Some n mark e) (one_marked s n h.0)
  all_marked (s ∷ ss) (n ∷ marks) h (suc i) mark e = all_marked ss marks h.1 i mark e

  pub marks_are : (marks : List SectionMark) → AreUses p tags uses → AreMarks p tags marks → AreMarked p tags uses marks
  marks_are marks u h = all_marked (sections p) marks (subst (λ (x : Uses). AllZip (IsMarkOf p tags x) (sections p) marks) (one_use p tags h.uses uses h.are_uses u) h.each)

  pub no_reasons : (marks : List SectionMark) (reasons : List (Option Reason)) → reasons ≡ [] → FirstReasons p tags uses marks 0 reasons
  no_reasons marks reasons e = record { long = ap length e; each = λ i mark reason g h. absurd (let bad : None ≡ Some reason = ap (λ xs. slice_get xs i) (sym e) ∙ h in cc) }

  pub one_reason_more : (marks : List SectionMark) (count : ℕ) (reasons new : List (Option Reason)) (mark : SectionMark) (reason : Option Reason) → FirstReasons p tags uses marks count reasons → slice_get marks count ≡ Some mark → IsExplained p tags uses mark reason
      → new ≡ reasons ++ reason ∷ [] → FirstReasons p tags uses marks (count + 1) new
  one_reason_more marks count reasons new mark reason h g is e = subst (FirstReasons p tags uses marks (count + 1)) (sym e)
      (record {
        long = length-append reasons (reason ∷ []) ∙ ap (λ n. n + 1) h.long;
        each = λ i x r k l. ⊎_elim (λ (q : slice_get reasons i ≡ Some r). h.each i x r k q)
            (λ q. let here : i ≡ count = q.0 ∙ h.long in let same : x ≡ mark = same_Some x mark (sym k ∙ ap (λ n. slice_get marks n) here ∙ g) in
            subst (λ (y : SectionMark). IsExplained p tags uses y r) (sym same) (subst (λ (y : Option Reason). IsExplained p tags uses mark y) (sym q.1) is))
            (last_got reasons reason i r l);
      })

  pub all_reasons : (marks : List SectionMark) (reasons : List (Option Reason)) → length reasons ≡ length marks → ((i : ℕ) (mark : SectionMark) (reason : Option Reason) → slice_get marks i ≡ Some mark → slice_get reasons i ≡ Some reason → IsExplained p tags uses mark reason)
      → AllZip (IsExplained p tags uses) marks reasons
  all_reasons [] [] l h = tt
  all_reasons [] (r ∷ reasons) l h = absurd (omega (arith, l))
  all_reasons (m ∷ marks) [] l h = absurd (omega (arith, l))
  all_reasons (m ∷ marks) (r ∷ reasons) l h = (h 0 m r refl refl, all_reasons marks reasons (omega (arith, l)) (λ i mark reason g k. h (suc i) mark reason g k))

  pub reasons_long : (marks : List SectionMark) (reasons : List (Option Reason)) → AllZip (IsExplained p tags uses) marks reasons → length reasons ≡ length marks
  reasons_long [] [] h = refl
  reasons_long [] (r ∷ reasons) h = absurd h
  reasons_long (m ∷ marks) [] h = absurd h
  reasons_long (m ∷ marks) (r ∷ reasons) h = ap suc (reasons_long marks reasons h.1)

pub marked_shown : (c : MarkedProgram) (p : Program) (tags : List Tags) (marks : List SectionMark) (uses : Uses) → IsMarked c → p ≡ c.program → tags ≡ c.tags → marks ≡ c.marks → AreUses p (tagged_by tags) uses → AreMarked p (tagged_by tags) uses marks
marked_shown c p tags marks uses m e f g u = marks_are p (tagged_by tags) uses marks u
    (subst (λ (x : Program). AreMarks x (tagged_by tags) marks) (sym e) (subst (λ (x : List Tags). AreMarks c.program (tagged_by x) marks) (sym f) (subst (AreMarks c.program (tagged_by c.tags)) (sym g) m.marks)))

pub few_shown : (c : MarkedProgram) (p : Program) → IsMarked c → p ≡ c.program → length p.methods ≤ MOST_INSTRUCTIONS
few_shown c p m e = methods_few p (subst IsProgram (sym e) m.checked.program)
