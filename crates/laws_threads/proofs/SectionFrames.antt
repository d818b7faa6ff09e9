-- The frames of a section as their top one moves, calls, returns and ends, and what a mark says of the top one.
use Rattle.std.proofs.Common.{◌≡◌, ◌⊎◌, inl, inr, ⊎_elim, ℕ, zero, suc, Bool, true, false, not, cond, List, [], ◌∷◌, Some, refl, sym, ap, ◌∙◌, subst, arith, slice_get, slice_index}
use Rattle.std.{specs.List.AllZip, proofs.lemmas.Bool.not_from_false}
use Rattle.lists.proofs.{ListLaws.same_some, TestLaws.both_true}
use Rattle.jvm_types.specs.{ClassNames.file_of_class, Members.{is_static, is_synchronized}, ProgramInvariant.{IsTargetOf, site_in}, declared.{code.{Insn.Insn, Op.Op}, op_row.OpRow.OpRow}}
use Rattle.jvm_types.specs.declared.program.{MethodInfo.MethodInfo, Program.Program, Target.Target}
use Rattle.laws_programs.{specs.TargetLaws.HasRow, proofs.{CodeOrder.have_targets, TargetRows.targets_rows}}
use Rattle.checked_program.specs.{LockTags.TagShape, MarkedProgram.{MarkedProgram, IsMarked}}
use Rattle.checked_program.specs.Marks.{HasMark, Calls, callee, called_method, is_locking, is_class_locking, is_own_object, is_own_class, class_of_method, receiver_tag, called_mode, section_fault, call_fault, enter_fault}
use Rattle.checked_program.specs.{OwnedArrays.{reads_owned, AreUses}, SectionLaws.{Part, AreParts, IsSectionPart, IsExit, HasThis, ReadsOnly}, Sections.section_mode, TaggedCode.{IsAt, Goes, row_of}}
use Rattle.checked_program.specs.declared.{section.{Mode.{Mode, TheVariants.{OnThis, OnClass}}, Uses.Uses}, tag.Tag.{Tag, TheVariants.{Untagged, This}}}
use Rattle.laws_sections.{specs.FrameLaws.{IsReceiver, mode_of_call}, proofs.{MarkedReads.{own_object, own_class, own_no_fault, called_no_fault, read_law}, MonitorExits.{held_law, exit_law}}}
use Rattle.laws_sections.proofs.{SectionCalls.{invoke_law, mode_law}, SectionMoves.move_law}
use Rattle.machine_types.specs.{Frames.monitor_of, Shown.{HasValue, HaveValues}, Standing.{Standing, tags_of}, Structure.{IsPart, RunsSection, mode_monitor, section_monitor, section_of}}
use Rattle.machine_types.specs.{Threads.{Frame, Attempt}, Words.class_object}
use Rattle.laws_threads.proofs.Standings.{are_tagged, at_of}
use Rattle.jvm_types.specs.declared.code.Op.TheVariants as ops
use Rattle.jvm_types.specs.declared.program.Target.TheVariants as targets

-- ---- values of tags

-- every place with the tag of `this` has the receiver
pub have_this : (choice : ℕ → ℕ) (receiver : ℕ) (ts : List Tag) (vs : List ℕ) → HaveValues choice receiver ts vs → HasThis receiver ts vs
have_this choice receiver [] vs h k e = absurd (let bad : Untagged ≡ This = e in cc)
have_this choice receiver (t ∷ ts) [] h k e = absurd h
have_this choice receiver (t ∷ ts) (v ∷ vs) h zero e = subst (λ x. HasValue choice receiver x v) e h.0
have_this choice receiver (t ∷ ts) (v ∷ vs) h (suc k) e = have_this choice receiver ts vs h.1 k e

-- ---- methods and instructions of a program

pub is_locked : (p : Program) (u : ℕ) (m : MethodInfo) → slice_get p.methods u ≡ Some m → is_synchronized m.flags ≡ true → is_static m.flags ≡ false → is_locking (slice_get p.methods u) ≡ true
is_locked p u m there synchronized instance = ap is_locking there ∙ both_true (is_synchronized m.flags) (not (is_static m.flags)) synchronized (not_from_false (is_static m.flags) instance)

pub is_class_locked : (p : Program) (u : ℕ) (m : MethodInfo) → slice_get p.methods u ≡ Some m → is_synchronized m.flags ≡ true → is_static m.flags ≡ true → is_class_locking (slice_get p.methods u) ≡ true
is_class_locked p u m there synchronized static = ap is_class_locking there ∙ both_true (is_synchronized m.flags) (is_static m.flags) synchronized static

pub row_stands : (c : MarkedProgram) → IsMarked c → (mi i : ℕ) (m : MethodInfo) (insn : Insn) (target : Target) (u : TagShape) → IsAt c.program (tags_of c) mi i m insn target u → HasRow c.program (site_in m) insn.pc target insn.op (row_of c.program m insn target)
row_stands c marked mi i m insn target u at =
    let t = have_targets c.program mi i m insn marked.checked.program at.in_program at.in_code in
    let same : t.0 ≡ target = same_some (sym t.1 ∙ at.names) in
    targets_rows c.program m insn.pc target insn.op (subst (λ x. IsTargetOf c.program (site_in m) insn.op x) same t.2)

-- ---- the frames of an attempt, the top one apart

abbrev pub part_of : Frame → (number : ℕ) → Part
part_of f number = record { method = f.method; at = number; receiver = f.receiver }

pub record Runs (c : MarkedProgram) (a : Attempt) (f : Frame) (rest : List Frame) : Type 0 where
  pub stands : Standing c f
  pub parts : List Part
  pub others : AllZip (IsPart c) rest parts
  pub mode : Mode
  pub are : AreParts c.program (tags_of c) (section_of a) a.entry.receiver (part_of f stands.number ∷ parts) mode

pub runs_of : (c : MarkedProgram) (a : Attempt) (f : Frame) (rest : List Frame) → RunsSection c a (f ∷ rest) → Runs c a f rest
runs_of c a f rest ([], mode, zip, are) = absurd zip
runs_of c a f rest (b ∷ bs, mode, zip, are) = record { stands = zip.0.0; parts = bs; others = zip.1; mode = mode; are = subst (λ x. AreParts c.program (tags_of c) (section_of a) a.entry.receiver (x ∷ bs) mode) zip.0.1 are }

pub section_of_runs : (c : MarkedProgram) (a : Attempt) (f : Frame) (rest : List Frame) → Runs c a f rest → RunsSection c a (f ∷ rest)
section_of_runs c a f rest r = (part_of f r.stands.number ∷ r.parts, r.mode, ((r.stands, refl), r.others), r.are)

none_left : (c : MarkedProgram) (rest : List Frame) (parts : List Part) → AllZip (IsPart c) rest parts → parts ≡ [] → rest ≡ []
none_left c [] parts zip e = refl
none_left c (f ∷ rest) [] zip e = absurd zip
none_left c (f ∷ rest) (b ∷ parts) zip e = absurd (cc)

module _ (c : MarkedProgram) (marked : IsMarked c) (a : Attempt) where
  -- ---- moves

  abbrev pub IsExitOf : (f : Frame) → Standing c f → Type 0
  IsExitOf f k = IsExit c.program (tags_of c) a.entry.method (section_of a).spot k.insn k.tags

  -- the top frame goes along an edge
  pub moved : (f g : Frame) (rest : List Frame) (r : Runs c a f rest) (l : Standing c g) (h : TagShape) → g.method ≡ f.method → g.receiver ≡ f.receiver
      → Goes c.program r.stands.method r.stands.insn r.stands.target r.stands.tags l.insn h → RunsSection c a (g ∷ rest) ⊎ ((rest ≡ []) × IsExitOf f r.stands)
  moved f g rest r l h same_method same_receiver goes =
      let k = r.stands in
      let to = at_of c marked f g k l (sym same_method) in
      let held = held_law c.program (tags_of c) f.method k.number l.number k.method k.insn l.insn k.target l.target k.tags l.tags h (are_tagged c marked) k.at to goes in
      ⊎_elim
      (λ (are : AreParts c.program (tags_of c) (section_of a) a.entry.receiver (part_of f l.number ∷ r.parts) r.mode). inl (part_of f l.number ∷ r.parts, r.mode, ((l, λ i. record { method = sym same_method i; at = l.number; receiver = sym same_receiver i }), r.others), are))
      (λ (x : (r.parts ≡ []) × IsExit c.program (tags_of c) a.entry.method (section_of a).spot k.insn k.tags). inr (none_left c rest r.parts r.others x.0, x.1))
      (move_law c.program (tags_of c) (section_of a) a.entry.receiver l.number (part_of f k.number) r.parts r.mode k.method k.insn l.insn k.target l.target k.tags l.tags h r.are k.at to goes held)

  -- ---- calls and returns

  pub invoked : (f b g : Frame) (rest : List Frame) (r : Runs c a f rest) (lower : Standing c b) (l : Standing c g) (stack : List ℕ) → b.method ≡ f.method → b.receiver ≡ f.receiver → lower.number ≡ r.stands.number
      → HasThis f.receiver r.stands.tags.stack stack → called_method r.stands.insn.op r.stands.target ≡ Some g.method → IsReceiver c.program r.stands.insn.op g.method stack g.receiver → RunsSection c a (g ∷ b ∷ rest)
  invoked f b g rest r lower l stack same_method same_receiver same_number this call is =
      let k = r.stands in
      let mode = mode_of_call c.program r.mode k.insn.op k.target k.tags.stack in
      let are = invoke_law c.program (tags_of c) (section_of a) a.entry.receiver (part_of g l.number) (part_of f k.number) r.parts r.mode k.method k.insn k.target k.tags stack r.are k.at this call is in (
        part_of g l.number ∷ part_of f k.number ∷ r.parts,
        mode,
        ((l, refl), ((lower, λ i. record { method = sym same_method i; at = sym same_number i; receiver = sym same_receiver i }), r.others)),
        are,
      )

  -- the calling frame is the top one, and still at its call
  pub record Caller (f b : Frame) (rest : List Frame) (upper : Runs c a f (b ∷ rest)) : Type 0 where
    pub runs : Runs c a b rest
    pub call : Calls c.program (tags_of c) (callee b.method runs.mode) runs.stands.number (callee f.method upper.mode)
    pub on : upper.mode ≡ OnThis → f.receiver ≡ a.entry.receiver

  pub caller : (f b : Frame) (rest : List Frame) (r : Runs c a f (b ∷ rest)) → Caller f b rest r
  caller f b rest r = by_parts r.parts r.others r.are
    where
      by_parts : (parts : List Part) → AllZip (IsPart c) (b ∷ rest) parts → AreParts c.program (tags_of c) (section_of a) a.entry.receiver (part_of f r.stands.number ∷ parts) r.mode → Caller f b rest r
      by_parts [] zip are = absurd zip
      by_parts (x ∷ parts) zip are =
          let all = subst (λ y. AreParts c.program (tags_of c) (section_of a) a.entry.receiver (part_of f r.stands.number ∷ y ∷ parts) r.mode) zip.0.1 are in
          record { runs = record { stands = zip.0.0; parts = parts; others = zip.1; mode = all.0; are = all.1 }; call = all.2; on = all.3 }

  -- ---- the monitor, by how the top frame is run

  pub on_object : a.monitor ≡ section_monitor c.program (section_of a) a.entry.receiver → (f : Frame) (rest : List Frame) (r : Runs c a f rest) → r.mode ≡ OnThis → a.entry.receiver ≡ a.monitor
  on_object on f rest r e =
      let mode = (mode_law c.program (tags_of c) (section_of a) a.entry.receiver (part_of f r.stands.number ∷ r.parts) r.mode r.are).0 e in
      sym (on ∙ ap (mode_monitor c.program a.entry.receiver) mode)

  pub on_class : a.monitor ≡ section_monitor c.program (section_of a) a.entry.receiver → (f : Frame) (rest : List Frame) (r : Runs c a f rest) (class : ℕ) → r.mode ≡ OnClass class → class_object c.program (file_of_class class) ≡ a.monitor
  on_class on f rest r class e =
      let mode = ((mode_law c.program (tags_of c) (section_of a) a.entry.receiver (part_of f r.stands.number ∷ r.parts) r.mode r.are).1 class).0 e in
      sym (on ∙ ap (mode_monitor c.program a.entry.receiver) mode)

  -- ---- marks

  module _ (uses : Uses) (are_uses : AreUses c.program (tags_of c) uses) (mark : HasMark c.program (tags_of c) uses (section_of a) 0) where
    no_fault : (f : Frame) (rest : List Frame) (r : Runs c a f rest) (m : MethodInfo) (insn : Insn) (target : Target) (u : TagShape) → IsAt c.program (tags_of c) f.method r.stands.number m insn target u → section_fault c.program uses.fields r.mode insn.op target u.stack (reads_owned uses f.method r.stands.number) ≡ 0
    no_fault f rest r m insn target u at = by_parts r.parts r.are
      where
        by_parts : (parts : List Part) → AreParts c.program (tags_of c) (section_of a) a.entry.receiver (part_of f r.stands.number ∷ parts) r.mode → section_fault c.program uses.fields r.mode insn.op target u.stack (reads_owned uses f.method r.stands.number) ≡ 0
        by_parts [] are =
            let last : IsSectionPart c.program (tags_of c) (section_of a) a.entry.receiver (part_of f r.stands.number) r.mode = are in
            subst (λ was. section_fault c.program uses.fields was insn.op target u.stack (reads_owned uses f.method r.stands.number) ≡ 0) (sym last.mode_is)
            (subst (λ (mi : ℕ). section_fault c.program uses.fields (section_mode c.program (section_of a)) insn.op target u.stack (reads_owned uses mi r.stands.number) ≡ 0) (sym last.method) (own_no_fault c.program (tags_of c) uses (section_of a) r.stands.number m insn target u mark last.own (subst (λ mi. IsAt c.program (tags_of c) mi r.stands.number m insn target u) last.method at)))
        by_parts (b ∷ parts) are = called_no_fault c.program (tags_of c) uses (section_of a) a.entry.receiver r.stands.number (part_of f r.stands.number) b parts r.mode m insn target u mark are at

    pub reads : (f : Frame) (rest : List Frame) (r : Runs c a f rest) (stack : List ℕ) → HasThis f.receiver r.stands.tags.stack stack → ReadsOnly c.program (tags_of c) r.mode a.entry.receiver f.method r.stands.number r.stands.insn.op r.stands.target stack
    reads f rest r stack this =
        let k = r.stands in
        read_law c.program (tags_of c) uses (section_of a) a.entry.receiver (part_of f k.number) r.parts r.mode k.method k.insn k.target k.tags stack marked.checked.program are_uses mark r.are k.at this

    on_mode : (f : Frame) (rest : List Frame) (r : Runs c a f rest) → r.mode ≡ OnThis → f.receiver ≡ a.entry.receiver
    on_mode f rest r e = by_parts r.parts r.are
      where
        by_parts : (parts : List Part) → AreParts c.program (tags_of c) (section_of a) a.entry.receiver (part_of f r.stands.number ∷ parts) r.mode → f.receiver ≡ a.entry.receiver
        by_parts [] are = let last : IsSectionPart c.program (tags_of c) (section_of a) a.entry.receiver (part_of f r.stands.number) r.mode = are in last.receiver
        by_parts (b ∷ parts) are = are.3 e

    -- a `monitorexit` leaves the section's monitor
    pub exits : a.monitor ≡ section_monitor c.program (section_of a) a.entry.receiver → (f : Frame) (rest : List Frame) (r : Runs c a f rest) (stack : List ℕ) → HasThis f.receiver r.stands.tags.stack stack → r.stands.insn.op ≡ ops.Monitorexit → slice_index stack 0 ≡ a.monitor
    exits on f rest r stack this e =
        let k = r.stands in
        let x = exit_law c.program (tags_of c) uses (section_of a) a.entry.receiver (part_of f k.number) r.parts r.mode k.method k.insn k.target k.tags are_uses (are_tagged c marked) mark r.are k.at e in
        this 0 x.1 ∙ on_mode f rest r x.0 ∙ on_object on f rest r x.0

    own_true : (b : Bool) → enter_fault b ≡ 0 → b ≡ true
    own_true true e = refl
    own_true false e = absurd (omega (arith, e))

    called_own : (locking b : Bool) → locking ≡ true → call_fault locking b ≡ 0 → b ≡ true
    called_own true b e z = own_true b z
    called_own false b e z = absurd (cc)

    -- a synchronized method is called on the section's object, or it is a static one of the section's class
    data IsOwnCall (called : MethodInfo) (mode : Mode) (op : Op) (target : Target) (ts : List Tag) : Type 0 where
      on_this : is_static called.flags ≡ false → is_own_object mode (receiver_tag c.program op target ts) ≡ true → IsOwnCall called mode op target ts
      in_class : is_static called.flags ≡ true → mode ≡ OnClass called.class → IsOwnCall called mode op target ts

    own_call : (u : ℕ) (called : MethodInfo) (mi : MethodInfo) (pc : ℕ) (op : Op) (target : Target) (row : OpRow) (mode : Mode) (ts : List Tag) (owned : Bool) → slice_get c.program.methods u ≡ Some called → is_synchronized called.flags ≡ true
        → called_method op target ≡ Some u → HasRow c.program (site_in mi) pc target op row → section_fault c.program uses.fields mode op target ts owned ≡ 0 → IsOwnCall called mode op target ts
    own_call u called mi pc (ops.Invokevirtual i) (targets.Method v) row mode ts owned there synchronized call k z =
        let instance : is_static called.flags ≡ false = subst (λ (m : MethodInfo). is_static m.flags ≡ false) (same_some (sym k.there ∙ ap (λ x. slice_get c.program.methods x) (same_some call) ∙ there)) k.sort in
        on_this instance (called_own (is_locking (slice_get c.program.methods v)) _ (ap (λ x. is_locking (slice_get c.program.methods x)) (same_some call) ∙ is_locked c.program u called there synchronized instance) z)
    own_call u called mi pc (ops.Invokespecial i) (targets.Method v) row mode ts owned there synchronized call k z =
        let instance : is_static called.flags ≡ false = subst (λ (m : MethodInfo). is_static m.flags ≡ false) (same_some (sym k.there ∙ ap (λ x. slice_get c.program.methods x) (same_some call) ∙ there)) k.sort in
        on_this instance (called_own (is_locking (slice_get c.program.methods v)) _ (ap (λ x. is_locking (slice_get c.program.methods x)) (same_some call) ∙ is_locked c.program u called there synchronized instance) z)
    own_call u called mi pc (ops.Invokestatic i) (targets.Method v) row mode ts owned there synchronized call k z =
        let static : is_static called.flags ≡ true = subst (λ (m : MethodInfo). is_static m.flags ≡ true) (same_some (sym k.there ∙ ap (λ x. slice_get c.program.methods x) (same_some call) ∙ there)) k.sort in
        let own : is_own_class mode (class_of_method (slice_get c.program.methods v)) ≡ true =
        called_own (is_class_locking (slice_get c.program.methods v)) _ (ap (λ x. is_class_locking (slice_get c.program.methods x)) (same_some call) ∙ is_class_locked c.program u called there synchronized static) z in
        let same : class_of_method (slice_get c.program.methods v) ≡ called.class = ap (λ x. class_of_method (slice_get c.program.methods x)) (same_some call) ∙ ap class_of_method there in
        in_class static (own_class mode (class_of_method (slice_get c.program.methods v)) own ∙ ap (λ (x : ℕ). OnClass x) same)
    own_call u called mi pc op target row mode ts owned there synchronized call k z = absurd (cc)

    -- the frame of a synchronized method that is called has the section's monitor
    pub locking_on : a.monitor ≡ section_monitor c.program (section_of a) a.entry.receiver → (f b : Frame) (rest : List Frame) (r : Runs c a f (b ∷ rest)) → is_synchronized r.stands.method.flags ≡ true → monitor_of c.program r.stands.method f ≡ a.monitor
    locking_on on f b rest r synchronized =
        let x = caller f b rest r in
        let z = no_fault b rest x.runs x.call.m x.call.insn x.call.target x.call.f x.call.at in
        let own = own_call f.method r.stands.method x.call.m x.call.insn.pc x.call.insn.op x.call.target (row_of c.program x.call.m x.call.insn x.call.target) x.runs.mode x.call.f.stack (reads_owned uses b.method x.runs.stands.number) r.stands.at.in_program synchronized x.call.called
        (row_stands c marked b.method x.runs.stands.number x.call.m x.call.insn x.call.target x.call.f x.call.at) z in
        by_call x own
      where
        by_call : (x : Caller f b rest r) → IsOwnCall r.stands.method x.runs.mode x.call.insn.op x.call.target x.call.f.stack → monitor_of c.program r.stands.method f ≡ a.monitor
        by_call x (on_this instance own) =
            let own_mode = own_object x.runs.mode (receiver_tag c.program x.call.insn.op x.call.target x.call.f.stack) own in
            let mode : r.mode ≡ OnThis = x.call.mode_is ∙ ap (λ (m : Mode). called_mode m (receiver_tag c.program x.call.insn.op x.call.target x.call.f.stack)) own_mode.0 ∙ ap (called_mode OnThis) own_mode.1 in
            ap (λ (s : Bool). cond s (class_object c.program (file_of_class r.stands.method.class)) f.receiver) instance ∙ x.on mode ∙ on_object on f (b ∷ rest) r mode
        by_call x (in_class static mode) =
            ap (λ (s : Bool). cond s (class_object c.program (file_of_class r.stands.method.class)) f.receiver) static ∙ on_class on b rest x.runs r.stands.method.class mode
