-- The frames of an attempt are of different methods, which its section's method is or calls; so no more instructions stand ahead of
-- them than these methods have.
use Rattle.std.proofs.Common.{◌≡◌, ◌≢◌, inl, inr, ℕ, zero, suc, ◌+◌, ◌-◌, ◌≤◌, nat_le, Bool, true, false, List, [], ◌∷◌, ◌++◌, length, take, Option, Some, None, refl, sym, ap, subst, ◌∙◌, arith, slice_get, if◌then◌else◌}
use Rattle.std.{specs.List.{AllZip, Contains, sum_by}, proofs.lemmas.{Bool.Decides.nat_tests, List.Sums.sum_by-cons}}
use Rattle.jvm_types.specs.declared.program.{MethodInfo.MethodInfo, Program.Program}
use Rattle.checked_program.specs.{MarkedProgram.MarkedProgram, Marks.{Calls, callee}, Reach.{HasCall, HasCalls, IsReach, size_of}, SectionLaws.{ApartLaw, HaveOwnMethods, AreParts, HasNone, Part}}
use Rattle.checked_program.{specs.{Sections.Section, TaggedCode.Tagged, declared.section.Mode.Mode}, proofs.SumsOfSome.{IsWithout, without}}
use Rattle.machine_types.specs.{Standing.tags_of, Structure.{AttemptStands, Finishes, IsPart, RunsSection, frames_inside, section_of}, Threads.{Attempt, Frame}, declared.lock.Held.Held}
use Rattle.machine_types.specs.declared.phase.Phase.{Phase}
use Rattle.laws_refinement.proofs.InstructionsAhead.{ahead, ahead_in, all_ahead, no_more_than}

-- ---- a sum over some of a list

-- of parts of different methods
sum_within : (f : ℕ → ℕ) (parts : List Part) (ns : List ℕ) → HaveOwnMethods parts → ((u : ℕ) → (k : ℕ) × (part : Part) × (slice_get parts k ≡ Some part) × (part.method ≡ u) → Contains ns u) → sum_by (λ (q : Part). f q.method) parts ≤ sum_by f ns
sum_within f [] ns apart there = omega arith
sum_within f (q ∷ parts) ns apart there =
    let m : IsWithout f q.method ns = without f q.method ns (there q.method (0, q, refl, refl)) in
    let more : sum_by (λ (r : Part). f r.method) parts ≤ sum_by f m.rest = sum_within f parts m.rest apart.1 (λ u among. m.others u (differs parts u apart.0 among) (there u (suc among.0, among.1, among.2, among.3))) in
    omega (arith, more, m.sum, sum_by-cons (λ (r : Part). f r.method) q parts)
  where
    differs : (rest : List Part) (u : ℕ) → HasNone q.method rest → (k : ℕ) × (part : Part) × (slice_get rest k ≡ Some part) × (part.method ≡ u) → u ≢ q.method
    differs [] u none (k, part, e, is) = absurd (cc)
    differs (r ∷ rest) u none (zero, part, e, is) = λ same. none.0 (let one : r ≡ part = cc in ap (λ (y : Part). y.method) one ∙ is ∙ same)
    differs (r ∷ rest) u none (suc k, part, e, is) = differs rest u none.1 (k, part, e, is)

-- ---- the methods of the parts are reached

one_more_call : (p : Program) (mi v u : ℕ) (vs : List ℕ) → HasCalls p mi vs v → HasCall p v u → HasCalls p mi (vs ++ u ∷ []) u
one_more_call p mi v u [] is call = (subst (λ (n : ℕ). HasCall p n u) (sym is) call, refl)
one_more_call p mi v u (w ∷ vs) calls call = (calls.0, one_more_call p w v u vs calls.1 call)

call_of : (p : Program) (tags : Tagged) (v i u : ℕ) (was mode : Mode) → Calls p tags (callee v was) i (callee u mode) → HasCall p v u
call_of p tags v i u was mode k = record { m = k.m; in_program = k.at.in_program; i = i; insn = k.insn; in_code = k.at.in_code; target = k.target; names = k.at.names; called = k.called }

top_reached : (p : Program) (tags : Tagged) (s : Section) (o : ℕ) (q : Part) (parts : List Part) (mode : Mode) → AreParts p tags s o (q ∷ parts) mode → (vs : List ℕ) × HasCalls p s.method vs q.method
top_reached p tags s o q [] mode are = ([], sym are.method)
top_reached p tags s o q (r ∷ parts) mode are =
    let below = top_reached p tags s o r parts are.0 are.1 in
    (below.0 ++ q.method ∷ [], one_more_call p s.method r.method q.method below.0 below.1 (call_of p tags r.method r.at q.method are.0 mode are.2))

each_reached : (p : Program) (tags : Tagged) (s : Section) (o : ℕ) (parts : List Part) (mode : Mode) → AreParts p tags s o parts mode → (k : ℕ) (part : Part) → slice_get parts k ≡ Some part → (vs : List ℕ) × HasCalls p s.method vs part.method
each_reached p tags s o [] mode are k part e = absurd are
each_reached p tags s o (q ∷ parts) mode are zero part e =
    let same : q ≡ part = cc in
    subst (λ (r : Part). (vs : List ℕ) × HasCalls p s.method vs r.method) same (top_reached p tags s o q parts mode are)
each_reached p tags s o (q ∷ []) mode are (suc k) part e = absurd (cc)
each_reached p tags s o (q ∷ r ∷ parts) mode are (suc k) part e = each_reached p tags s o (r ∷ parts) are.0 are.1 k part e

-- ---- the frames

frame_few : (p : Program) (f : Frame) → ahead p f ≤ size_of (slice_get p.methods f.method)
frame_few p f = elim (slice_get p.methods f.method) as (λ (o : Option MethodInfo). ahead_in f.pc o ≤ size_of o) [ None ↦ omega arith | Some m ↦ no_more_than f.pc m.code ]

abbrev size_at : Program → ℕ → ℕ
size_at p u = size_of (slice_get p.methods u)

-- those that count are the frames inside
counted_inside : (p : Program) (base : ℕ) (fs : List Frame) → all_ahead p base fs ≡ sum_by (ahead p) (take (length fs - base) fs)
counted_inside p base [] = elim (0 - base) as (λ (n : ℕ). 0 ≡ sum_by (ahead p) (take n [])) [ zero ↦ refl | suc n ↦ refl ]
counted_inside p base (f ∷ fs) = by_test (counted_inside p base fs) (nat_le base (length fs)) refl
  where
    by_test : all_ahead p base fs ≡ sum_by (ahead p) (take (length fs - base) fs) → (b : Bool) → nat_le base (length fs) ≡ b → (if b then ahead p f else 0) + all_ahead p base fs ≡ sum_by (ahead p) (take (suc (length fs) - base) (f ∷ fs))
    by_test behind true e =
        let one : suc (length fs) - base ≡ suc (length fs - base) = grind (arith, nat_tests, e) in
        ap (λ (n : ℕ). ahead p f + n) behind ∙ sym (sum_by-cons (ahead p) f (take (length fs - base) fs)) ∙ sym (ap (λ (n : ℕ). sum_by (ahead p) (take n (f ∷ fs))) one)
    by_test behind false e =
        let none : suc (length fs) - base ≡ 0 = grind (arith, nat_tests, e) in
        let no_more : length fs - base ≡ 0 = grind (arith, nat_tests, e) in
        (omega arith) ∙ behind ∙ ap (λ (n : ℕ). sum_by (ahead p) (take n fs)) no_more ∙ sym (ap (λ (n : ℕ). sum_by (ahead p) (take n (f ∷ fs))) none)

frames_few : (c : MarkedProgram) (fs : List Frame) (parts : List Part) → AllZip (IsPart c) fs parts → sum_by (ahead c.program) fs ≤ sum_by (λ (q : Part). size_at c.program q.method) parts
frames_few c [] [] zip = omega arith
frames_few c (f ∷ fs) (q ∷ parts) zip =
    let same : size_at c.program q.method ≡ size_at c.program f.method = ap (λ (r : Part). size_at c.program r.method) zip.0.1 in
    omega (arith, same, frame_few c.program f, frames_few c fs parts zip.1, sum_by-cons (ahead c.program) f fs, sum_by-cons (λ (r : Part). size_at c.program r.method) q parts)
frames_few c fs parts zip = absurd zip

module _ (apart : ApartLaw) (c : MarkedProgram) (n : ℕ) (a : Attempt) (reach : IsReach c.program a.entry.method n) where
  in_section : (phase : Phase) (fs : List Frame) (held : List Held) → AttemptStands c phase fs held a → RunsSection c a (frames_inside a fs) → sum_by (ahead c.program) (frames_inside a fs) ≤ n
  in_section phase fs held k run =
      let distinct : HaveOwnMethods run.0 = apart c.program (tags_of c) k.uses (section_of a) a.entry.receiver run.0 run.1 k.marked run.3 in
      let within : sum_by (λ (q : Part). size_at c.program q.method) run.0 ≤ sum_by (size_at c.program) reach.methods = sum_within (size_at c.program) run.0 reach.methods distinct
      (λ u among. let calls = each_reached c.program (tags_of c) (section_of a) a.entry.receiver run.0 run.1 run.3 among.0 among.1 among.2 in reach.all u calls.0 (subst (λ (v : ℕ). HasCalls c.program a.entry.method calls.0 v) among.3 calls.1)) in
      omega (arith, frames_few c (frames_inside a fs) run.0 run.2, within, reach.count)

  at_exit : (phase : Phase) (fs : List Frame) → Finishes a phase fs → sum_by (ahead c.program) fs ≤ n
  at_exit phase fs k =
      let few : ahead c.program k.frame ≤ size_at c.program a.entry.method = subst (λ (u : ℕ). ahead c.program k.frame ≤ size_at c.program u) k.method (frame_few c.program k.frame) in
      let sum = (without (size_at c.program) a.entry.method reach.methods (reach.all a.entry.method [] refl)).sum in
      subst (λ (gs : List Frame). sum_by (ahead c.program) gs ≤ n) (sym k.alone) (omega (arith, few, sum, reach.count))

  pub reached_ahead : (phase : Phase) (fs : List Frame) (held : List Held) → AttemptStands c phase fs held a → all_ahead c.program a.base fs ≤ n
  reached_ahead phase fs held k = rw (counted_inside c.program a.base fs) ((elim k.frames [ inl exit ↦ at_exit phase (frames_inside a fs) exit | inr run ↦ in_section phase fs held k run ]))
