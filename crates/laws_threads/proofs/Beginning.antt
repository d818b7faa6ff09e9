-- An attempt stands as it begins: its frame is at the first own instruction of a marked section, on its receiver.
use Rattle.std.proofs.Common.{◌≡◌, ◌≢◌, ◌⊎◌, inl, inr, ⊎_elim, ℕ, zero, suc, Bool, true, cond, List, [], ◌∷◌, ◌++◌, length, map, Option, Some, None, refl, sym, ap, ◌∙◌, subst, arith, slice_get, slice_index_or, if◌then◌else◌}
use Rattle.std.proofs.lemmas.Bool.{cases_eq}
use Rattle.lists.proofs.ListLaws.{same_some}
use Rattle.jvm_types.specs.{ClassNames.file_of_class, Members.{is_static, is_synchronized}, declared.{code.Insn.Insn, program.MethodInfo.MethodInfo}}
use Rattle.laws_programs.proofs.CodeOrder.{have_targets}
use Rattle.checked_program.specs.{LockTags.TagShape, MarkedProgram.{MarkedProgram, IsMarked}, Marks.{HasMark, IsOnOwn, elsewhere}, SectionLaws.IsSectionPart}
use Rattle.checked_program.specs.{Sections.{section_mode, mode_of_method, mode_of_spot, BeginsAt, IsOwn, IsInBlock}, TaggedCode.{IsAt, IsInstructionReached}}
use Rattle.checked_program.specs.declared.{section.{Mode.TheVariants.{OnThis, OnClass}, Spot.TheVariants.{Method, Block}, Uses.Uses}, tag.Tag.{Tag, TheVariants.{Untagged, This, At}}}
use Rattle.laws_sections.proofs.SectionCalls.{begin_law}
use Rattle.machine_types.specs.{Frames.monitor_of, MarkLaws.MarkedHasMark, Sections.entered_at, Shown.{tag_value, own_entry, Shows}, Standing.{Standing, Whole, tags_of}}
use Rattle.machine_types.specs.{Structure.{IsBehindEntry, Stands, RunsSection, mode_monitor, section_monitor, section_of, frames_inside}, Threads.{Frame, Attempt}, Words.class_object}
use Rattle.laws_threads.{specs.InsideMoves.BeginsAttempt, proofs.{AttemptMoves.only_entry, FramesInside.{put_back_alone, one_more}}}
use Rattle.laws_threads.proofs.{SectionEntries.{Entered, entered_before, just_before, next_later, Took, took}, SectionFrames.part_of, Standings.{laid, one_tags}, Tests.either_way}
use Rattle.machine_types.specs.declared.phase.Phase.TheVariants as phases

-- a tag is `this` or not
is_this_or : (t : Tag) → (t ≡ This) ⊎ (t ≡ This → ⊥)
is_this_or This = inl refl
is_this_or Untagged = inr (λ e. cc)
is_this_or (At n) = inr (λ e. cc)

module _ (c : MarkedProgram) (marked : IsMarked c) (f : Frame) (k : Standing c f) (e : Entered c f k) where
  -- the `monitorenter` is reached with `this` on top, at the pc before
  record IsOnReceiver (pc : ℕ) : Type 0 where
    pc_is : e.insn.pc ≡ pc
    tags : TagShape
    there : slice_get k.at.frames e.at ≡ Some (Some tags)
    this : slice_index_or tags.stack 0 Untagged ≡ This

  decided : (pc : ℕ) (o : Option (Option TagShape)) → slice_get k.at.frames e.at ≡ o → IsOnReceiver pc ⊎ (IsOnReceiver pc → ⊥)
  decided pc None q = inr (λ x. let z : None ≡ Some (Some x.tags) = sym q ∙ x.there in cc)
  decided pc (Some None) q = inr (λ x. let z : Some None ≡ Some (Some x.tags) = sym q ∙ x.there in cc)
  decided pc (Some (Some tags)) q = ⊎_elim
      (λ (p : e.insn.pc ≡ pc). ⊎_elim
      (λ (t : slice_index_or tags.stack 0 Untagged ≡ This). inl (record { pc_is = p; tags = tags; there = q; this = t }))
      (λ (t : slice_index_or tags.stack 0 Untagged ≡ This → ⊥). inr (λ x. t (ap (λ (y : TagShape). slice_index_or y.stack 0 Untagged) (same_some (same_some (sym q ∙ x.there))) ∙ x.this)))
      (is_this_or (slice_index_or tags.stack 0 Untagged)))
      (λ (p : e.insn.pc ≢ pc). inr (λ x. p x.pc_is))
      (cases_eq e.insn.pc pc)

  on_receiver : (pc : ℕ) → suc pc ≡ f.pc → IsOnOwn c.program (tags_of c) f.method (Block pc) → IsOnReceiver pc
  on_receiver pc before (enter, g, b, this) =
      let begins : BeginsAt c.program (tags_of c) f.method pc enter g = b in
      let there : slice_get k.method.code enter ≡ Some begins.insn = subst (λ (m : MethodInfo). slice_get m.code enter ≡ Some begins.insn) (same_some (sym begins.at.in_program ∙ k.at.in_program)) begins.at.in_code in
      let same : enter ≡ e.at = just_before c marked f k e enter begins.insn there (ap suc begins.pc_is ∙ before) in
      let same_insn : e.insn ≡ begins.insn = same_some (sym e.there ∙ ap (λ n. slice_get k.method.code n) (sym same) ∙ there) in
      let same_frames : k.at.frames ≡ begins.at.frames = same_some (sym k.at.of_method ∙ begins.at.of_method) in
      record { pc_is = ap (λ (x : Insn). x.pc) same_insn ∙ begins.pc_is; tags = g; there = ap (λ fs. slice_get fs e.at) same_frames ∙ ap (λ n. slice_get begins.at.frames n) (sym same) ∙ begins.at.frame; this = this }

  -- so it is where the block is marked
  by_mark : (pc : ℕ) (uses : Uses) → suc pc ≡ f.pc → HasMark c.program (tags_of c) uses (record { method = f.method; spot = Block pc }) 0 → IsOnReceiver pc
  by_mark pc uses before mark = ⊎_elim (λ x. x) (λ (no : IsOnReceiver pc → ⊥). absurd (mark 8 (elsewhere refl (λ on. no (on_receiver pc before on))))) (decided pc (slice_get k.at.frames e.at) refl)

  -- the frame is at an own instruction of the block, and the innermost held tag is `this`
  record BlockBegins (pc : ℕ) : Type 0 where
    own : IsInBlock c.program (tags_of c) f.method pc k.number
    outer : List Tag
    held : k.tags.held ≡ This ∷ outer

  first_of : (ts rest : List Tag) (t : Tag) → ts ≡ t ∷ rest → slice_index_or ts 0 Untagged ≡ This → t ≡ This
  first_of ts rest t e q = let h : slice_index_or (t ∷ rest) 0 Untagged ≡ This = subst (λ xs. slice_index_or xs 0 Untagged ≡ This) e q in h

  block_begins : (pc : ℕ) → IsOnReceiver pc → BlockBegins pc
  block_begins pc x =
      let target = have_targets c.program f.method e.at k.method e.insn marked.checked.program k.at.in_program e.there in
      let at : IsAt c.program (tags_of c) f.method e.at k.method e.insn target.0 x.tags = record { in_program = k.at.in_program; in_code = e.there; names = target.1; frames = k.at.frames; of_method = k.at.of_method; frame = x.there } in
      let t : Took c marked f k x.tags e.insn target.0 = took c marked f k e target.0 x.tags at in
      let own : IsInBlock c.program (tags_of c) f.method e.insn.pc k.number = begin_law c.program (tags_of c) f.method e.at k.number k.method e.insn k.insn target.0 k.target x.tags k.tags t.taken_tag t.others at k.at e.enters t.stack t.edge t.brings in
      record { own = subst (λ n. IsInBlock c.program (tags_of c) f.method n k.number) x.pc_is own; outer = x.tags.held; held = t.held ∙ ap (λ y. y ∷ x.tags.held) (first_of x.tags.stack t.others t.taken_tag t.stack x.this) }

-- ---- the monitor is the receiver

-- the innermost entry that is shown
innermost : (c : MarkedProgram) (marked : IsMarked c) (f : Frame) (k : Standing c f) (own rest outer : List ℕ) (m : ℕ) (held : List Tag) → (s : Shows c Whole f own) → k.tags.held ≡ This ∷ held → own ++ rest ≡ m ∷ outer → f.receiver ≡ m
innermost c marked f k own rest outer m held s h e =
    let tags : s.stands.tags.held ≡ This ∷ held = ap (λ (x : TagShape). x.held) (one_tags c marked f s.stands k) ∙ h in
    let shown : own ≡ f.receiver ∷ (map (tag_value s.choice f.receiver) held ++ own_entry c.program s.stands.method f) = s.shown_are ∙ ap (λ ts. map (tag_value s.choice f.receiver) ts ++ own_entry c.program s.stands.method f) tags in
    let first : f.receiver ∷ ((map (tag_value s.choice f.receiver) held ++ own_entry c.program s.stands.method f) ++ rest) ≡ m ∷ outer = ap (λ xs. xs ++ rest) (sym shown) ∙ e in cc

-- ---- the law

pub begins : MarkedHasMark → BeginsAttempt
begins marked_mark c m tried noted number f below held marked stands not_held enters = record {
  inside = tt;
  not_held = not_held;
  based = omega arith;
  goes_back = subst (λ fs. Stands c (phases.Enter m number) fs held None) (sym (put_back_alone a f below refl)) back;
  monitor = found.0;
  uses = marked.marks.uses;
  are_uses = marked.marks.are_uses;
  marked = mark;
  frames = inr (subst (RunsSection c a) (sym inside) ((part_of f k.number ∷ []), section_mode c.program (section_of a), ((k, refl), tt), found.1));
}
  where
    a : Attempt
    a = record { monitor = m; noted = noted; base = length below; number = number; inner = 0; entry = f }

    k : Standing c f
    k = stands.phase_shows.enters.0

    mark : HasMark c.program (tags_of c) marked.marks.uses (section_of a) 0
    mark = marked_mark c f.method (entered_at f.pc) marked.marks enters

    back : Stands c (phases.Enter m number) (f ∷ below) held None
    back = record { shown = stands.shown; show = stands.show; depths = stands.depths; once = stands.once; phase_shows = stands.phase_shows }

    inside : frames_inside a (f ∷ below) ≡ f ∷ []
    inside = one_more a f below (omega arith) ∙ ap (λ fs. f ∷ fs) (only_entry a below refl)

    part : IsOwn c.program (tags_of c) f.method (section_of a).spot k.number → IsSectionPart c.program (tags_of c) (section_of a) f.receiver (part_of f k.number) (section_mode c.program (section_of a))
    part own = record { method = refl; receiver = refl; own = own; mode_is = refl }

    -- its monitor is that of the section, and its frame the section's
    Begins : Type 0
    Begins = (m ≡ section_monitor c.program (section_of a) f.receiver) × IsSectionPart c.program (tags_of c) (section_of a) f.receiver (part_of f k.number) (section_mode c.program (section_of a))

    reached : IsInstructionReached c.program (tags_of c) f.method k.number
    reached = record { m = k.method; insn = k.insn; target = k.target; f = k.tags; at = k.at }

    behind : (e : Entered c f k) (n : ℕ) → f.pc ≡ n → Begins
    behind e zero q = absurd (let up = next_later k.method e.at e.insn (laid c marked f k) e.there in omega (arith, up, q, e.next))
    behind e (suc pc) q =
        let spot : (section_of a).spot ≡ Block pc = ap entered_at q in
        let x = by_mark c marked f k e pc marked.marks.uses (sym q) (subst (λ s. HasMark c.program (tags_of c) marked.marks.uses (record { method = f.method; spot = s }) 0) spot mark) in
        let b = block_begins c marked f k e pc x in
        let receiver : f.receiver ≡ m = (let shows = stands.show in innermost c marked f k shows.0 shows.1 stands.phase_shows.outer m b.outer shows.3 b.held (sym shows.2 ∙ stands.phase_shows.innermost)) in
        let on_this : section_monitor c.program (section_of a) f.receiver ≡ f.receiver = ap (λ s. mode_monitor c.program f.receiver (mode_of_spot (slice_get c.program.methods f.method) s)) spot in
        (sym (on_this ∙ receiver), part (subst (λ s. IsOwn c.program (tags_of c) f.method s k.number) (sym spot) b.own))

    -- the monitor of a whole method's section is that of its frame
    of_method : f.pc ≡ 0 → monitor_of c.program k.method f ≡ m → m ≡ section_monitor c.program (section_of a) f.receiver
    of_method first on =
        let spot : (section_of a).spot ≡ Method = ap entered_at first in
        let mode : section_mode c.program (section_of a) ≡ mode_of_method (Some k.method) = ap (mode_of_spot (slice_get c.program.methods f.method)) spot ∙ ap mode_of_method k.at.in_program in
        sym on ∙ either_way (λ (b : Bool). cond b (class_object c.program (file_of_class k.method.class)) f.receiver ≡ mode_monitor c.program f.receiver (if b then OnClass k.method.class else OnThis)) (is_static k.method.flags) refl refl
        ∙ ap (mode_monitor c.program f.receiver) (sym mode)

    found : Begins
    found = ⊎_elim
        (λ (h : (f.pc ≡ 0) × (is_synchronized k.method.flags ≡ true) × (monitor_of c.program k.method f ≡ m)). (of_method h.0 h.2, part (subst (λ s. IsOwn c.program (tags_of c) f.method s k.number) (sym (ap entered_at h.0)) reached)))
        (λ (h : IsBehindEntry k.method.code f.pc × (k.tags.held ≢ [])). behind (entered_before c marked f k h.0) f.pc refl)
        stands.phase_shows.enters.1
