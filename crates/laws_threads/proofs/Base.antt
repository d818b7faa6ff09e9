-- The frame of an attempt's entry, when it is the top one: where it can return or end, and how often the monitor is still
-- entered.
use Rattle.std.{proofs.Common.{◌≡◌, ◌≢◌, ◌⊎◌, inl, inr, ⊎_elim, ℕ, zero, suc, ◌+◌, ◌<◌, true, List, [], ◌∷◌, length, Some, refl, sym, ap, ◌∙◌, subst, arith, slice_get}, specs.List.AllZip}
use Rattle.lists.proofs.ListLaws.{same_some}
use Rattle.jvm_types.specs.{Members.is_synchronized, declared.{code.Insn.Insn, program.{MethodInfo.MethodInfo, Target.Target}}}
use Rattle.checked_program.specs.{LockTags.TagShape, MarkedProgram.{MarkedProgram, IsMarked}, SectionLaws.{Part, IsSectionPart, AreParts, HasEntryDepth, IsExit}, Sections.{BeginsAt, IsOwn, IsInBlock}}
use Rattle.checked_program.specs.{TaggedCode.IsAt, declared.section.Spot.TheVariants.Block}
use Rattle.laws_sections.proofs.SectionMoves.{own_deep}
use Rattle.machine_types.specs.{Frames.{monitor_by, monitor_of}, Sections.entered_at, Shown.{Shows, Show}, Standing.{Standing, Operands, Whole, tags_of}, Threads.{Frame, Attempt}}
use Rattle.machine_types.specs.{Structure.{IsPart, IsBehindEntry, AttemptStands, section_of, count_in, held_depth, tried_depth}, declared.{lock.Held.Held, phase.Phase.Phase}}
use Rattle.laws_threads.proofs.{FramesInside.put_back_alone, SectionEntries.{Entered, entered_before, just_before, next_later, none_held, Took, took}, SectionFrames.{part_of, Runs}}
use Rattle.laws_threads.proofs.{ShownLengths.{own_count, shown_length, none_inner}, Standings.{laid, one_method, one_tags}}

-- the only frame inside is the section's own
pub own_part : (c : MarkedProgram) (a : Attempt) (f : Frame) (r : Runs c a f []) → IsSectionPart c.program (tags_of c) (section_of a) a.entry.receiver (part_of f r.stands.number) r.mode
own_part c a f r = only r.parts r.others r.are
  where
    only : (parts : List Part) → AllZip (IsPart c) [] parts → AreParts c.program (tags_of c) (section_of a) a.entry.receiver (part_of f r.stands.number ∷ parts) r.mode → IsSectionPart c.program (tags_of c) (section_of a) a.entry.receiver (part_of f r.stands.number) r.mode
    only [] zip are = are
    only (b ∷ parts) zip are = absurd zip

module _ (c : MarkedProgram) (marked : IsMarked c) (a : Attempt) where
  -- the frame of the entry, as it entered the section
  pub record Entry : Type 0 where
    pub stands : Standing c a.entry
    pub how : ((a.entry.pc ≡ 0) × (is_synchronized stands.method.flags ≡ true) × (monitor_of c.program stands.method a.entry ≡ a.monitor)) ⊎ Entered c a.entry stands

  pub entry_of : (phase : Phase) (fs : List Frame) (held : List Held) → AttemptStands c phase fs held a → Entry
  entry_of phase fs held k =
      let enters = k.goes_back.phase_shows.enters in
      record {
        stands = enters.0;
        how = ⊎_elim
            (λ (h : (a.entry.pc ≡ 0) × (is_synchronized enters.0.method.flags ≡ true) × (monitor_of c.program enters.0.method a.entry ≡ a.monitor)). inl h)
            (λ (h : IsBehindEntry enters.0.method.code a.entry.pc × (enters.0.tags.held ≢ [])). inr (entered_before c marked a.entry enters.0 h.0))
            enters.1;
      }

  -- behind a `monitorenter` the pc is not 0
  not_first : (e : Standing c a.entry) → Entered c a.entry e → a.entry.pc ≡ 0 → ⊥
  not_first e x z = let up = next_later e.method x.at x.insn (laid c marked a.entry e) x.there in omega (arith, up, z, x.next)

  -- ---- with no held tag the section is the method's

  module _ (f : Frame) (r : Runs c a f []) (entry : Entry) where
    last : IsSectionPart c.program (tags_of c) (section_of a) a.entry.receiver (part_of f r.stands.number) r.mode
    last = own_part c a f r

    same_method : r.stands.method ≡ entry.stands.method
    same_method = one_method c marked f a.entry r.stands entry.stands last.method

    in_block : (pc : ℕ) → a.entry.pc ≡ suc pc → IsInBlock c.program (tags_of c) f.method pc r.stands.number
    in_block pc e = subst (λ mi. IsInBlock c.program (tags_of c) mi pc r.stands.number) (sym last.method) (subst (λ s. IsOwn c.program (tags_of c) a.entry.method s r.stands.number) (ap entered_at e) last.own)

    pub at_method : r.stands.tags.held ≡ [] → a.entry.pc ≡ 0
    at_method none = by_pc a.entry.pc refl
      where
        by_pc : (n : ℕ) → a.entry.pc ≡ n → n ≡ 0
        by_pc zero e = refl
        by_pc (suc pc) e =
            let k = r.stands in
            let b = in_block pc e in
            let deep : length b.f.held < length k.tags.held = own_deep c.program (tags_of c) f.method pc k.number k.method k.insn k.target k.tags b k.at in
            absurd (omega (arith, deep, ap length none))

    pub of_synchronized : r.stands.tags.held ≡ [] → is_synchronized r.stands.method.flags ≡ true
    of_synchronized none = ⊎_elim
        (λ (h : (a.entry.pc ≡ 0) × (is_synchronized entry.stands.method.flags ≡ true) × (monitor_of c.program entry.stands.method a.entry ≡ a.monitor)). ap (λ (m : MethodInfo). is_synchronized m.flags) same_method ∙ h.1)
        (λ (x : Entered c a.entry entry.stands). absurd (not_first entry.stands x (at_method none)))
        entry.how

    -- and its monitor is that of the attempt
    pub of_monitor : r.stands.tags.held ≡ [] → monitor_of c.program r.stands.method f ≡ a.monitor
    of_monitor none = ⊎_elim
        (λ (h : (a.entry.pc ≡ 0) × (is_synchronized entry.stands.method.flags ≡ true) × (monitor_of c.program entry.stands.method a.entry ≡ a.monitor)).
        ap (λ (m : MethodInfo). monitor_by c.program m f.receiver) same_method ∙ ap (monitor_by c.program entry.stands.method) last.receiver ∙ h.2)
        (λ (x : Entered c a.entry entry.stands). absurd (not_first entry.stands x (at_method none)))
        entry.how

    -- ---- it has as many held tags as it had at the entry

    pub as_many : r.stands.tags.held ≡ [] → length r.stands.tags.held ≡ length entry.stands.tags.held
    as_many none = ap length none ∙ sym (ap length (none_held c marked a.entry entry.stands (at_method none)))

    pub as_many_at_exit : IsExit c.program (tags_of c) a.entry.method (section_of a).spot r.stands.insn r.stands.tags → length r.stands.tags.held ≡ length entry.stands.tags.held
    as_many_at_exit x = by_pc a.entry.pc refl
      where
        behind : (pc : ℕ) → a.entry.pc ≡ suc pc → Entered c a.entry entry.stands
        behind pc e = ⊎_elim (λ (h : (a.entry.pc ≡ 0) × (is_synchronized entry.stands.method.flags ≡ true) × (monitor_of c.program entry.stands.method a.entry ≡ a.monitor)). absurd (omega (arith, e, h.0))) (λ (h : Entered c a.entry entry.stands). h) entry.how

        by_depth : (pc : ℕ) → a.entry.pc ≡ suc pc → HasEntryDepth c.program (tags_of c) a.entry.method (Block pc) x.depth → length r.stands.tags.held ≡ length entry.stands.tags.held
        by_depth pc e (enter, g, b, depth) =
            let begins : BeginsAt c.program (tags_of c) a.entry.method pc enter g = b in
            let k = entry.stands in
            let h = behind pc e in
            let method : begins.m ≡ k.method = same_some (sym begins.at.in_program ∙ k.at.in_program) in
            let at : IsAt c.program (tags_of c) a.entry.method enter k.method begins.insn begins.target g = subst (λ m. IsAt c.program (tags_of c) a.entry.method enter m begins.insn begins.target g) method begins.at in
            let place : enter ≡ h.at = just_before c marked a.entry k h enter begins.insn at.in_code (ap suc begins.pc_is ∙ sym e) in
            let same : begins.insn ≡ h.insn = same_some (sym at.in_code ∙ ap (λ n. slice_get k.method.code n) place ∙ h.there) in
            let here : IsAt c.program (tags_of c) a.entry.method h.at k.method h.insn begins.target g = subst (λ n. IsAt c.program (tags_of c) a.entry.method n k.method h.insn begins.target g) place (subst (λ i. IsAt c.program (tags_of c) a.entry.method enter k.method i begins.target g) same at) in
            let more : length k.tags.held ≡ suc (length g.held) = one_more g h.insn begins.target (took c marked a.entry k h begins.target g here) in
            let deep : length r.stands.tags.held ≡ suc x.depth = x.last in
            let of_entry : x.depth ≡ length g.held = depth in
            omega (arith, more, deep, of_entry)
          where
            one_more : (g : TagShape) (insn : Insn) (target : Target) → Took c marked a.entry entry.stands g insn target → length entry.stands.tags.held ≡ suc (length g.held)
            one_more g insn target t = ap length t.held

        by_pc : (n : ℕ) → a.entry.pc ≡ n → length r.stands.tags.held ≡ length entry.stands.tags.held
        by_pc zero e = absurd (subst (λ s. HasEntryDepth c.program (tags_of c) a.entry.method s x.depth) (ap entered_at e) x.of_entry)
        by_pc (suc pc) e = by_depth pc e (subst (λ s. HasEntryDepth c.program (tags_of c) a.entry.method s x.depth) (ap entered_at e) x.of_entry)

    -- so no entry of the monitor is left inside
    pub none_inside : (o : Operands) (phase : Phase) (below : List Frame) (held : List Held) (shown : List ℕ) → (k : AttemptStands c phase (f ∷ below) held a) → a.base ≡ length below → Show c o (f ∷ below) shown
        → ((m : ℕ) → count_in m shown ≡ held_depth m held + tried_depth m (Some a)) → length r.stands.tags.held ≡ length entry.stands.tags.held → a.inner ≡ 0
    none_inside o phase below held shown k base show counts many =
        none_inner c marked o a f below held shown k.goes_back.shown show (subst (λ fs. Show c Whole fs k.goes_back.shown) (put_back_alone a f below base) k.goes_back.show) counts (λ m. let d = k.goes_back.depths m in omega (arith, d)) alike
      where
        alike : (own other : List ℕ) → Shows c o f own → Shows c Whole a.entry other → length own ≡ length other
        alike own other s t =
            let first : length s.stands.tags.held ≡ length r.stands.tags.held = ap (λ (x : TagShape). length x.held) (one_tags c marked f s.stands r.stands) in
            let second : length t.stands.tags.held ≡ length entry.stands.tags.held = ap (λ (x : TagShape). length x.held) (one_tags c marked a.entry t.stands entry.stands) in
            let method : own_count s.stands.method ≡ own_count t.stands.method = ap own_count (one_method c marked f a.entry s.stands t.stands last.method) in
            let long = shown_length c o f own s in
            let other_long = shown_length c Whole a.entry other t in
            omega (arith, first, second, method, long, other_long, many)
