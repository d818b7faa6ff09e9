-- What is told of sections, one after another: how it goes on, and its fronts.
use Rattle.std.proofs.Common.{◌≡◌, ℕ, zero, suc, ◌+◌, List, [], ◌∷◌, ◌++◌, length, take, Option, Some, None, Result, Ok, Err, inr, refl, sym, ap, subst, append_assoc, ◌∙◌, arith, slice_get}
use Rattle.std.{specs.Option.option_map, proofs.lemmas.List.append-nil}
use Rattle.checked_program.specs.{MarkedProgram.MarkedProgram, OwnedArrays.AreUses, TaggedCode.{Tagged, tagged_by}, declared.{section.{SectionMark.SectionMark, Uses.Uses}, tag.Tags.Tags}}
use Rattle.host_io.specs.Faults.{CountsFault}
use Rattle.source_lines.specs.declared.sources.Sources.{Sources}
use Rattle.json_lines.specs.declared.form.Form.{Form}
use Rattle.jvm_types.specs.declared.program.Program.{Program}
use Rattle.mark_reasons.specs.{MarksTold.{AreMarksWritten, AreSectionsTold, AreSectionsWritten, none, more, HasAdded, IsFrontOfSections, IsSectionWritten, SectionTold, SectionBegun, SectionsSoFar, section_text}, Reasons.{AreReasons}, SharedWays.last_after}
use Rattle.mark_reasons.specs.declared.telling.MarksError.{MarksError, TheVariants.{Memory, Failed}}
use Rattle.mark_reasons.specs.declared.{reason.Reason.Reason, shared.LastWay.LastWay}
use Rattle.mark_reasons.proofs.ExplainLaws.{all_reasons, no_reasons, one_reason_more}

-- ---- texts that are added

pub added_none : (told : Option (List ℕ)) → told ≡ option_map (λ t. t ++ []) told
added_none None = refl
added_none (Some t) = ap Some (sym (append-nil t))

pub added_both : (told mid now : Option (List ℕ)) (a b : List ℕ) → mid ≡ option_map (λ t. t ++ a) told → now ≡ option_map (λ t. t ++ b) mid → now ≡ option_map (λ t. t ++ (a ++ b)) told
added_both None mid now a b e f = rw (f, e) refl
added_both (Some t) mid now a b e f = rw (f, e) (ap Some (regrouped t a b))
  where
    regrouped : (t a b : List ℕ) → t ++ a ++ b ≡ t ++ (a ++ b)
    regrouped t a b = simp append_assoc

take_of_both : (a b : List ℕ) (n : ℕ) → a ++ take n b ≡ take (length a + n) (a ++ b)
take_of_both [] b n = ap (λ k. take k b) (omega arith)
take_of_both (x ∷ a) b n =
    let more : suc (length a + n) ≡ length (x ∷ a) + n = omega arith in
    ap (λ (xs : List ℕ). x ∷ xs) (take_of_both a b n) ∙ ap (λ (k : ℕ). take k (x ∷ (a ++ b))) more

whole_of : (a : List ℕ) → a ≡ take (length a) a
whole_of [] = refl
whole_of (x ∷ a) = ap (λ (xs : List ℕ). x ∷ xs) (whole_of a)

take_one_more : {X : Type 0} (xs : List X) (i : ℕ) (x : X) → slice_get xs i ≡ Some x → take (i + 1) xs ≡ take i xs ++ x ∷ []
take_one_more [] i x e = absurd (let bad : None ≡ Some x = e in cc)
take_one_more (y ∷ xs) zero x e = ap (λ z. z ∷ []) (same_some y x e)
  where
    same_some : {X : Type 0} (y x : X) → Some y ≡ Some x → y ≡ x
    same_some y x e = cc
take_one_more (y ∷ xs) (suc i) x e =
    let less : suc i + 1 ≡ suc (i + 1) = omega arith in
    ap (λ (k : ℕ). take k (y ∷ xs)) less ∙ ap (λ zs. y ∷ zs) (take_one_more xs i x e)

take_whole : {X : Type 0} (xs : List X) → take (length xs) xs ≡ xs
take_whole [] = refl
take_whole (x ∷ xs) = ap (λ zs. x ∷ zs) (take_whole xs)

-- all sections, with a reason of each mark
pub record AllTold (form : Form) (p : Program) (sources : Sources) (tags : Tagged) (marks : List SectionMark) (text : List ℕ) : Type 0 where
  pub reasons : List (Option Reason)
  pub are_reasons : AreReasons p tags marks reasons
  pub last : Option LastWay
  pub told : AreSectionsTold form p sources marks reasons text last

module _ (form : Form) (p : Program) (sources : Sources) (tags : Tagged) (uses : Uses) (marks : List SectionMark) where
  pub at_start : (told : Option (List ℕ)) → SectionsSoFar form p sources tags uses marks 0 None told told
  at_start told = record { reasons = []; first = no_reasons p tags uses marks [] refl; text = []; sections = none; is = added_none told }

  -- with the section of a number
  goes_on : (count : ℕ) (mark : SectionMark) (reasons : List (Option Reason)) (reason : Option Reason) (text : List ℕ) (last : Option LastWay) → slice_get marks count ≡ Some mark → AreSectionsTold form p sources (take count marks) reasons text last
      → AreSectionsTold form p sources (take (count + 1) marks) (reasons ++ reason ∷ []) (text ++ section_text form p sources last mark reason) (last_after last mark reason)
  goes_on count mark reasons reason text last g t = subst (λ (ms : List SectionMark). AreSectionsTold form p sources ms (reasons ++ reason ∷ []) (text ++ section_text form p sources last mark reason) (last_after last mark reason)) (sym (take_one_more marks count mark g)) (more (take count marks) reasons text last mark reason t)

  pub one_more : (count : ℕ) (mark : SectionMark) (last next : Option LastWay) (told mid now : Option (List ℕ)) → SectionsSoFar form p sources tags uses marks count last told mid → slice_get marks count ≡ Some mark → SectionTold form p sources tags uses last mark mid now next
      → SectionsSoFar form p sources tags uses marks (count + 1) next told now
  one_more count mark last next told mid now s g t = record {
    reasons = s.reasons ++ t.reason ∷ [];
    first = one_reason_more p tags uses marks count s.reasons (s.reasons ++ t.reason ∷ []) mark t.reason s.first g t.explains refl;
    text = s.text ++ section_text form p sources last mark t.reason;
    sections = subst (λ (o : Option LastWay). AreSectionsTold form p sources (take (count + 1) marks) (s.reasons ++ t.reason ∷ []) (s.text ++ section_text form p sources last mark t.reason) o) (sym t.is_last) (goes_on count mark s.reasons t.reason s.text last g s.sections);
    is = added_both told mid now s.text (section_text form p sources last mark t.reason) s.is t.text;
  }

  -- what was written is a front, where nothing more comes
  pub front_now : (count : ℕ) (last : Option LastWay) (told mid now : Option (List ℕ)) → SectionsSoFar form p sources tags uses marks count last told mid → now ≡ mid → HasAdded told now (IsFrontOfSections form p sources tags uses marks)
  front_now count last told mid now s e = (s.text, record { count = count; reasons = s.reasons; first = s.first; whole = s.text; last = last; told = s.sections; n = length s.text; is_front = whole_of s.text }, e ∙ s.is)

  -- and with a front of the next section
  pub front_more : (count : ℕ) (mark : SectionMark) (last : Option LastWay) (told mid now : Option (List ℕ)) → SectionsSoFar form p sources tags uses marks count last told mid → slice_get marks count ≡ Some mark → SectionBegun form p sources tags uses last mark mid now → HasAdded told now (IsFrontOfSections form p sources tags uses marks)
  front_more count mark last told mid now s g b = (
    s.text ++ take b.n (section_text form p sources last mark b.reason),
    record {
      count = count + 1;
      reasons = s.reasons ++ b.reason ∷ [];
      first = one_reason_more p tags uses marks count s.reasons (s.reasons ++ b.reason ∷ []) mark b.reason s.first g b.explains refl;
      whole = s.text ++ section_text form p sources last mark b.reason;
      last = last_after last mark b.reason;
      told = goes_on count mark s.reasons b.reason s.text last g s.sections;
      n = length s.text + b.n;
      is_front = take_of_both s.text (section_text form p sources last mark b.reason) b.n;
    },
    added_both told mid now s.text (take b.n (section_text form p sources last mark b.reason)) s.is b.text,
  )

  -- a section that was not written whole ends them
  pub broken_off : (count : ℕ) (mark : SectionMark) (last : Option LastWay) (told mid now : Option (List ℕ)) (from between to : ℕ) (e : MarksError) (r : Result (Unit {0}) MarksError) → r ≡ Err e → SectionsSoFar form p sources tags uses marks count last told mid → slice_get marks count ≡ Some mark → between ≡ from
      → IsSectionWritten form p sources tags uses last mark mid now between to (Err e) → AreSectionsWritten form p sources tags uses marks told now from to r
  broken_off count mark last told mid now from between to Memory r is s g calm w = subst (λ (x : Result (Unit {0}) MarksError). AreSectionsWritten form p sources tags uses marks told now from to x) (sym is) (w.0 ∙ calm, front_now count last told mid now s w.1)
  broken_off count mark last told mid now from between to Failed r is s g calm w = subst (λ (x : Result (Unit {0}) MarksError). AreSectionsWritten form p sources tags uses marks told now from to x) (sym is) (subst (λ (f : ℕ). CountsFault f to) calm w.0, front_more count mark last told mid now s g w.1)

  -- all sections were written
  pub all_told : (last : Option LastWay) (told now : Option (List ℕ)) → SectionsSoFar form p sources tags uses marks (length marks) last told now → AreUses p tags uses → HasAdded told now (AllTold form p sources tags marks)
  all_told last told now s u = (s.text, record { reasons = s.reasons; are_reasons = record { uses = uses; are_uses = u; each = all_reasons p tags uses marks s.reasons s.first.long s.first.each }; last = last; told = subst (λ (ms : List SectionMark). AreSectionsTold form p sources ms s.reasons s.text last) (take_whole marks) s.sections }, s.is)

-- the marks of a program, as its parts show them
of_program : {A : Type 0} (form : Form) (c : MarkedProgram) (sources : Sources) (uses : Uses) (told now : Option (List ℕ)) (from to : ℕ) (r : Result A MarksError) → AreUses c.program (tagged_by c.tags) uses → AreSectionsWritten form c.program sources (tagged_by c.tags) uses c.marks told now from to r → AreMarksWritten form c sources told now from to r
of_program form c sources uses told now from to (Ok done) u w =
    let t = all_told form c.program sources (tagged_by c.tags) uses c.marks w.1.0 told now w.1.1 u in
    (w.0, (t.0, record { reasons = t.1.reasons; are_reasons = t.1.are_reasons; last = t.1.last; told = t.1.told }, t.2))
of_program form c sources uses told now from to (Err Memory) u w = (w.0, (w.1.0, inr (uses, u, w.1.1), w.1.2))
of_program form c sources uses told now from to (Err Failed) u w = (w.0, (w.1.0, inr (uses, u, w.1.1), w.1.2))

pub marks_written : {A : Type 0} (form : Form) (c : MarkedProgram) (sources : Sources) (p : Program) (tags : List Tags) (uses : Uses) (marks : List SectionMark) (told now : Option (List ℕ)) (from to : ℕ) (r : Result A MarksError) → p ≡ c.program → tags ≡ c.tags → marks ≡ c.marks → AreUses p (tagged_by tags) uses
    → AreSectionsWritten form p sources (tagged_by tags) uses marks told now from to r → AreMarksWritten form c sources told now from to r
marks_written form c sources p tags uses marks told now from to r e f g u w =
    of_program form c sources uses told now from to r (subst (λ (x : Program). AreUses x (tagged_by c.tags) uses) e (subst (λ (ts : List Tags). AreUses p (tagged_by ts) uses) f u))
    (subst (λ (x : Program). AreSectionsWritten form x sources (tagged_by c.tags) uses c.marks told now from to r) e
    (subst (λ (ts : List Tags). AreSectionsWritten form p sources (tagged_by ts) uses c.marks told now from to r) f
    (subst (λ (ms : List SectionMark). AreSectionsWritten form p sources (tagged_by tags) uses ms told now from to r) g w)))
