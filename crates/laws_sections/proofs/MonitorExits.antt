-- A marked section leaves no monitor but its own: each monitor is entered on the section's object, so the innermost held tag
-- is that of the object, and a `monitorexit` takes the innermost.
use Rattle.std.proofs.Common.{◌≡◌, ℕ, ◌<◌, Bool, true, false, not, List, [], ◌∷◌, length, Some, refl, sym, ap, ◌∙◌, subst, arith, ⊎_elim, inl, inr, ◌⊎◌, slice_get, slice_index_or}
use Rattle.jvm_types.specs.declared.{code.Insn.Insn, program.{MethodInfo.MethodInfo, Program.Program, Target.Target}}
use Rattle.checked_program.specs.{LockTags.{TagShape, same_tag}, Marks.{section_fault, enter_fault, is_own_object, HasMark, IsOnOwn, elsewhere}, OwnedArrays.reads_owned}
use Rattle.checked_program.specs.{SectionLaws.{IsSectionPart, AreTagged, ExitLaw}, Sections.{Section, section_mode, mode_of_spot, IsDeep, StaysDeep, BeginsAt, IsInBlock, IsOwn}}
use Rattle.checked_program.specs.{TaggedCode.{Tagged, IsAt, IsReachedEdge, Goes}, Tagging.{is_innermost, exits_other, HasTagging}, declared.section.{FieldUse.FieldUse, Mode.Mode}}
use Rattle.checked_program.specs.declared.{section.{Mode.TheVariants.OnThis, Spot.{Spot, TheVariants.{Method, Block}}, Uses.Uses}, tag.Tag.{Tag, TheVariants.{Untagged, This, At}}}
use Rattle.laws_sections.{specs.FrameLaws.{HeldLaw, BlockLaw}, proofs.HeldTags.{one_first, AreOwn, own_along, sound_at, framed_first, held_kept, all_own}}
use Rattle.laws_sections.proofs.{MarkedReads.{own_object, own_no_fault, called_no_fault}, SectionMoves.{one_frame, deep_more, own_deep}, VisitedNodes.IsFirstOf}
use Rattle.jvm_types.specs.declared.code.Op.TheVariants as ops

-- ---- what a mark says of a `monitorenter` and the tags of a `monitorexit`

enters_own : (t : Bool) → enter_fault t ≡ 0 → t ≡ true
enters_own true e = refl
enters_own false e = absurd (omega (arith, e))

fault_own : (p : Program) (uses : List FieldUse) (mode : Mode) (insn : Insn) (target : Target) (ts : List Tag) (owned : Bool) → insn.op ≡ ops.Monitorenter → section_fault p uses mode insn.op target ts owned ≡ 0 → is_own_object mode (slice_index_or ts 0 Untagged) ≡ true
fault_own p uses mode insn target ts owned e none = enters_own (is_own_object mode (slice_index_or ts 0 Untagged)) (subst (λ op. section_fault p uses mode op target ts owned ≡ 0) e none)

-- the tag that is left is the innermost held one
innermost : (mode : Mode) (t : Tag) (held : List Tag) → not (is_innermost t held) ≡ false → (0 < length held → is_own_object mode (slice_index_or held 0 Untagged) ≡ true) → (mode ≡ OnThis) × (t ≡ This)
innermost mode Untagged held e own = absurd (let bad : true ≡ false = e in cc)
innermost mode t [] e own = absurd (none t e)
  where
    none : (t : Tag) → not (is_innermost t []) ≡ false → ⊥
    none Untagged e = cc
    none t e = cc
innermost mode This (u ∷ held) e own = ((own_object mode u (own (omega arith))).0, refl)
innermost mode (At pc) (u ∷ held) e own = absurd (let bad : true ≡ false = subst (λ x. not (same_tag (At pc) x) ≡ false) ((own_object mode u (own (omega arith))).1) e in cc)

exits_innermost : (mode : Mode) (ts held : List Tag) → exits_other ops.Monitorexit ts held ≡ false → (0 < length held → is_own_object mode (slice_index_or held 0 Untagged) ≡ true) → (mode ≡ OnThis) × (slice_index_or ts 0 Untagged ≡ This)
exits_innermost mode [] held e own = absurd (let bad : true ≡ false = e in cc)
exits_innermost mode (t ∷ ts) held e own = innermost mode t held e own

-- ---- the instructions of a tagged program

module _ (p : Program) (tags : Tagged) (tagged : AreTagged p tags) where
  tagging_at : (mi i : ℕ) (m : MethodInfo) (insn : Insn) (target : Target) (f : TagShape) (at : IsAt p tags mi i m insn target f) → HasTagging p m at.frames
  tagging_at mi i m insn target f at =
      let t = tagged mi m at.in_program in
      subst (HasTagging p m) (let e : Some t.0 ≡ Some at.frames = sym t.1 ∙ at.of_method in cc) t.2

  exit_at : (mi i : ℕ) (m : MethodInfo) (insn : Insn) (target : Target) (f : TagShape) → IsAt p tags mi i m insn target f → exits_other insn.op f.stack f.held ≡ false
  exit_at mi i m insn target f at = (sound_at p m at.frames (tagging_at mi i m insn target f at) i insn target f at.in_code at.names at.frame).exits

  -- the number of an instruction with tags is known by its pc
  one_start : (mi i j : ℕ) (m n : MethodInfo) (insn other : Insn) (target next : Target) (f g : TagShape) → IsAt p tags mi i m insn target f → IsAt p tags mi j n other next g → insn.pc ≡ other.pc → i ≡ j
  one_start mi i j m n insn other target next f g a b same =
      let first = framed_first p m a.frames (tagging_at mi i m insn target f a) i insn f a.in_code a.frame in
      let other_first = framed_first p n b.frames (tagging_at mi j n other next g b) j other g b.in_code b.frame in
      let method : n ≡ m = (let e : Some n ≡ Some m = sym b.in_program ∙ a.in_program in cc) in
      one_first m.code other.pc i j (subst (λ pc. IsFirstOf m.code pc i) same first) (subst (λ (x : MethodInfo). IsFirstOf x.code other.pc j) method other_first)

  edge_held : (mi i j : ℕ) (m : MethodInfo) (insn other : Insn) (target next : Target) (f g h : TagShape) → IsAt p tags mi i m insn target f → IsAt p tags mi j m other next g → Goes p m insn target f other h → h.held ≡ g.held
  edge_held mi i j m insn other target next f g h a b goes =
      let same : b.frames ≡ a.frames = (let e : Some b.frames ≡ Some a.frames = sym b.of_method ∙ a.of_method in cc) in
      held_kept p m a.frames (tagging_at mi i m insn target f a) i j insn other target f g h a.in_code a.names a.frame b.in_code (subst (λ fs. slice_get fs j ≡ Some (Some g)) same b.frame) goes

  -- ---- a method all of whose monitors are entered on the section's object

  abbrev Enters : Mode → ℕ → Type 0
  Enters mode mi = (i : ℕ) (m : MethodInfo) (insn : Insn) (target : Target) (f : TagShape) → IsAt p tags mi i m insn target f → insn.op ≡ ops.Monitorenter → is_own_object mode (slice_index_or f.stack 0 Untagged) ≡ true

  exits_whole : (mode : Mode) (mi i : ℕ) (m : MethodInfo) (insn : Insn) (target : Target) (f : TagShape) → Enters mode mi → IsAt p tags mi i m insn target f → insn.op ≡ ops.Monitorexit → (mode ≡ OnThis) × (slice_index_or f.stack 0 Untagged ≡ This)
  exits_whole mode mi i m insn target f enters at exits =
      let own : AreOwn mode 0 f.held = all_own p m at.frames (tagging_at mi i m insn target f at) mode
      (λ j x t g c n e. enters j m x t g (record { in_program = at.in_program; in_code = c; names = n; frames = at.frames; of_method = at.of_method; frame = e })) i f at.frame in
      exits_innermost mode f.stack f.held (subst (λ op. exits_other op f.stack f.held ≡ false) exits (exit_at mi i m insn target f at)) (λ l. own 0 (omega (arith, l)))

  -- ---- a block on the section's object

  module _ (uses : Uses) (s : Section) (mark : HasMark p tags uses s 0) (pc : ℕ) (is_block : s.spot ≡ Block pc) where
    -- but for so many outermost ones, the held tags of the instruction are of the section's object
    abbrev OwnFrom : ℕ → ℕ → Type 0
    OwnFrom depth i = (m : MethodInfo) (insn : Insn) (target : Target) (f : TagShape) → IsAt p tags s.method i m insn target f → AreOwn OnThis depth f.held

    own_edge : (depth i j : ℕ) → OwnFrom depth i → IsReachedEdge p tags s.method i j
        → ((m : MethodInfo) (insn : Insn) (target : Target) (f : TagShape) → IsAt p tags s.method i m insn target f → insn.op ≡ ops.Monitorenter → is_own_object OnThis (slice_index_or f.stack 0 Untagged) ≡ true) → OwnFrom depth j
    own_edge depth i j own e enters m insn target g at =
        let brought : AreOwn OnThis depth e.h.held = own_along p e.m OnThis depth e.insn e.other e.target e.f e.h (enters e.m e.insn e.target e.f e.from) e.goes (own e.m e.insn e.target e.f e.from) in
        let kept : AreOwn OnThis depth e.g.held = subst (AreOwn OnThis depth) (edge_held s.method i j e.m e.insn e.other e.target e.next e.f e.g e.h e.from e.to e.goes) brought in
        subst (λ (x : TagShape). AreOwn OnThis depth x.held) (one_frame p tags s.method j e.m m e.other insn e.next target e.g g e.to at) kept

    enters_inside : (i : ℕ) → IsInBlock p tags s.method pc i → (m : MethodInfo) (insn : Insn) (target : Target) (f : TagShape) → IsAt p tags s.method i m insn target f → insn.op ≡ ops.Monitorenter
        → is_own_object OnThis (slice_index_or f.stack 0 Untagged) ≡ true
    enters_inside i inside m insn target f at e =
        let own : IsOwn p tags s.method s.spot i = subst (λ spot. IsOwn p tags s.method spot i) (sym is_block) inside in
        let on_this : section_mode p s ≡ OnThis = ap (mode_of_spot (slice_get p.methods s.method)) is_block in
        fault_own p uses.fields OnThis insn target f.stack (reads_owned uses s.method i) e (subst (λ (x : Mode). section_fault p uses.fields x insn.op target f.stack (reads_owned uses s.method i) ≡ 0) on_this (own_no_fault p tags uses s i m insn target f mark own at))

    first_deep : (depth i : ℕ) (over : List ℕ) (j : ℕ) → StaysDeep p tags s.method depth i over j → IsDeep p tags s.method depth i
    first_deep depth i [] j stays = stays.1
    first_deep depth i (k ∷ over) j stays = stays.0

    module _ (enter first : ℕ) (f : TagShape) (begins : BeginsAt p tags s.method pc enter f) (edge : IsReachedEdge p tags s.method enter first) where
      along : (i : ℕ) (before : List ℕ) → StaysDeep p tags s.method (length f.held) first before i → (over : List ℕ) (j : ℕ) → StaysDeep p tags s.method (length f.held) i over j → OwnFrom (length f.held) i → OwnFrom (length f.held) j
      along i before reached [] j stays own = subst (OwnFrom (length f.held)) stays.0 own
      along i before reached (k ∷ over) j stays own =
          let inside : IsInBlock p tags s.method pc i = record { enter = enter; f = f; begins = begins; first = first; edge = edge; over = before; stays = reached } in
          let more = deep_more p tags s.method (length f.held) first before i k reached stays.1 (first_deep (length f.held) k over j stays.2) in
          along k more.0 more.1 over j stays.2 (own_edge (length f.held) i k own stays.1 (enters_inside i inside))

    own_inside : (i : ℕ) (inside : IsInBlock p tags s.method pc i) → slice_index_or inside.f.stack 0 Untagged ≡ This → OwnFrom (length inside.f.held) i
    own_inside i inside this =
        let b : BeginsAt p tags s.method pc inside.enter inside.f = inside.begins in
        let outside : OwnFrom (length inside.f.held) inside.enter =
        λ m insn target g at k l. let same : inside.f ≡ g = one_frame p tags s.method inside.enter b.m m b.insn insn b.target target inside.f g b.at at in absurd (omega (arith, l, ap (λ (x : TagShape). length x.held) same)) in
        let enters : (m : MethodInfo) (insn : Insn) (target : Target) (g : TagShape) → IsAt p tags s.method inside.enter m insn target g → insn.op ≡ ops.Monitorenter → is_own_object OnThis (slice_index_or g.stack 0 Untagged) ≡ true =
        λ m insn target g at e. let same : inside.f ≡ g = one_frame p tags s.method inside.enter b.m m b.insn insn b.target target inside.f g b.at at in
        subst (λ (x : TagShape). is_own_object OnThis (slice_index_or x.stack 0 Untagged) ≡ true) same (subst (λ t. is_own_object OnThis t ≡ true) (sym this) refl) in
        along inside.enter inside.first inside.f b inside.edge inside.first [] (refl, first_deep (length inside.f.held) inside.first inside.over i inside.stays) inside.over i inside.stays (own_edge (length inside.f.held) inside.enter inside.first outside inside.edge enters)

    exits_block : (i : ℕ) (m : MethodInfo) (insn : Insn) (target : Target) (f : TagShape) (inside : IsInBlock p tags s.method pc i) → slice_index_or inside.f.stack 0 Untagged ≡ This → IsAt p tags s.method i m insn target f → insn.op ≡ ops.Monitorexit
        → slice_index_or f.stack 0 Untagged ≡ This
    exits_block i m insn target f inside this at exits =
        let own : AreOwn OnThis (length inside.f.held) f.held = own_inside i inside this m insn target f at in
        let deep : length inside.f.held < length f.held = own_deep p tags s.method pc i m insn target f inside at in
        (exits_innermost OnThis f.stack f.held (subst (λ op. exits_other op f.stack f.held ≡ false) exits (exit_at s.method i m insn target f at)) (λ l. own 0 (omega (arith, deep)))).1

    -- the block that the section begins with is the one of that pc
    starts_on_this : (i : ℕ) (m : MethodInfo) (insn : Insn) (target : Target) (f : TagShape) → IsAt p tags s.method i m insn target f → insn.pc ≡ pc → IsOnOwn p tags s.method (Block pc) → slice_index_or f.stack 0 Untagged ≡ This
    starts_on_this i m insn target f at pc_is on =
        let a : BeginsAt p tags s.method pc on.0 on.1 = on.2 in
        let place : on.0 ≡ i = one_start s.method on.0 i a.m m a.insn insn a.target target on.1 f a.at at (a.pc_is ∙ sym pc_is) in
        let same : on.1 ≡ f = one_frame p tags s.method i a.m m a.insn insn a.target target on.1 f (subst (λ n. IsAt p tags s.method n a.m a.insn a.target on.1) place a.at) at in
        subst (λ (x : TagShape). slice_index_or x.stack 0 Untagged ≡ This) same on.3

    on_this : (i : ℕ) (inside : IsInBlock p tags s.method pc i) → IsOnOwn p tags s.method (Block pc) → slice_index_or inside.f.stack 0 Untagged ≡ This
    on_this i inside on = let b : BeginsAt p tags s.method pc inside.enter inside.f = inside.begins in starts_on_this inside.enter b.m b.insn b.target inside.f b.at b.pc_is on

    -- a tag is `this` or not, so that it is `this` where it can't but be
    is_this_or : (t : Tag) → (t ≡ This) ⊎ (t ≡ This → ⊥)
    is_this_or This = inl refl
    is_this_or t = inr (λ e. cc)

    -- a marked block is on `this`, so what follows from that holds
    by_mark : (t : Tag) → (IsOnOwn p tags s.method (Block pc) → t ≡ This) → t ≡ This
    by_mark t h = ⊎_elim (λ e. e) (λ (no : t ≡ This → ⊥). absurd (mark 8 (elsewhere refl (λ on. no (h (subst (IsOnOwn p tags s.method) is_block on)))))) (is_this_or t)

    exits_inside : (i : ℕ) (m : MethodInfo) (insn : Insn) (target : Target) (f : TagShape) → IsInBlock p tags s.method pc i → IsAt p tags s.method i m insn target f → insn.op ≡ ops.Monitorexit → slice_index_or f.stack 0 Untagged ≡ This
    exits_inside i m insn target f inside at exits = by_mark (slice_index_or f.stack 0 Untagged) (λ on. exits_block i m insn target f inside (on_this i inside on) at exits)

    starts_inside : (i : ℕ) (m : MethodInfo) (insn : Insn) (target : Target) (f : TagShape) → IsAt p tags s.method i m insn target f → insn.pc ≡ pc → slice_index_or f.stack 0 Untagged ≡ This
    starts_inside i m insn target f at pc_is = by_mark (slice_index_or f.stack 0 Untagged) (λ on. starts_on_this i m insn target f at pc_is on)

-- ---- the laws

pub held_law : HeldLaw
held_law p tags mi i j m insn other target next f g h tagged from to goes = edge_held p tags tagged mi i j m insn other target next f g h from to goes

pub block_law : BlockLaw
block_law p tags uses s i receiver m insn target f stack tagged k spot at enters this = this 0 (starts_inside p tags tagged uses s k insn.pc spot i m insn target f at refl)

pub exit_law : ExitLaw
exit_law p tags uses s o a (b ∷ parts) mode m insn target f u tagged k h at exits =
    exits_whole p tags tagged mode a.method a.at m insn target f (λ i n x t g at e. fault_own p uses.fields mode x t g.stack (reads_owned uses a.method i) e (called_no_fault p tags uses s o i a b parts mode n x t g k h at)) at exits
exit_law p tags uses s o a [] mode m insn target f u tagged k h at exits =
    let last : IsSectionPart p tags s o a mode = h in
    let left = by_spot s.spot refl last.own (subst (λ mi. IsAt p tags mi a.at m insn target f) last.method at) in
    (last.mode_is ∙ left.0, left.1)
  where
    by_spot : (spot : Spot) → s.spot ≡ spot → IsOwn p tags s.method s.spot a.at → IsAt p tags s.method a.at m insn target f → (section_mode p s ≡ OnThis) × (slice_index_or f.stack 0 Untagged ≡ This)
    by_spot Method e own at =
        exits_whole p tags tagged (section_mode p s) s.method a.at m insn target f
        (λ i n x t g at e'. fault_own p uses.fields (section_mode p s) x t g.stack (reads_owned uses s.method i) e' (own_no_fault p tags uses s i n x t g k (subst (λ spot. IsOwn p tags s.method spot i) (sym e) (record { m = n; insn = x; target = t; f = g; at = at })) at)) at exits
    by_spot (Block pc) e own at = (ap (mode_of_spot (slice_get p.methods s.method)) e, exits_inside p tags tagged uses s k pc e a.at m insn target f (subst (λ spot. IsOwn p tags s.method spot a.at) e own) at exits)
