-- One visit: no rule is broken at the instruction, and what it brings fits.
use Rattle.std.proofs.Common.{◌≡◌, ℕ, zero, suc, Bool, true, false, cond, not, ◌&&◌, ◌||◌, List, [], ◌∷◌, length, Option, Some, None, Result, Ok, refl, sym, ap, ◌∙◌, subst, length-set, ◌==◌, slice_get}
use Rattle.std.{specs.List.{AllByRecursion, list_any}, proofs.lemmas.Bool.not-false}
use Rattle.jvm_types.specs.{CodeGrammar.is_start, CodeTable.{row, branches_to, falls_through}, Types.TypeFrame, declared.{code.Insn.Insn, op_row.OpRow.OpRow, program.{MethodInfo.MethodInfo, Row.Row}}}
use Rattle.jvm_types.specs.Verifying.{Node, node_at, broken_before, broken_after, returns_wrongly, falls_off, edges, frame_after, all_brought, clash, covering, handled, unless_broken, unless_clash, gone_on, visited_row, visited_insn, visited, frame_at_handler, FrameFits, IsSound}
use Rattle.jvm_types.{specs.declared.{program.{Program.Program, Target.Target}, refusal.VRule.{VRule, TheVariants.{V6, V8}}}, proofs.EachAfter.{all_append, all_weaker}}
use Rattle.laws_programs.proofs.{FrameBounds.{IsBounded, unbroken, after_bounded}, LocalBrought.{IsFrameBounded, AreBounded}, LocalEdges.{Carries, all_carried, all_fit, edges_deep, Handles, handles}}
use Rattle.laws_programs.proofs.{LocalRisen.{AreRisen, all_risen_self, all_risen_trans, risen_length, frames_of, fits_risen}, VisitsEnd.{cleared, unless_broken_ok}}

-- ---- where an instruction leads to

-- an instruction begins at the targets of its branch, and at the handlers of the rows that cover it
pub record Leads (m : MethodInfo) (insn : Insn) : Type 0 where
  pub branches : AllByRecursion (λ to. is_start m.code to ≡ true) (branches_to insn.op)
  pub handlers : AllByRecursion (λ handler. is_start m.code handler.handler ≡ true) (covering m insn.pc)

start_is : (code : List Insn) (pc : ℕ) → list_any (λ other. other.pc == pc) code ≡ is_start code pc
start_is [] pc = refl
start_is (insn ∷ code) pc = ap (λ (b : Bool). (insn.pc == pc) || b) (start_is code pc)

next_starts : (code : List Insn) (next : ℕ) (falls : Bool) → (falls && not (is_start code next)) ≡ false → AllByRecursion (λ to. is_start code to ≡ true) (cond falls (next ∷ []) [])
next_starts code next false e = tt
next_starts code next true e = (not-false (is_start code next) e, tt)

edges_start : (m : MethodInfo) (insn : Insn) → Leads m insn → falls_off m.code insn ≡ false → AllByRecursion (λ to. is_start m.code to ≡ true) (edges insn)
edges_start m insn h e =
    all_append (λ to. is_start m.code to ≡ true) (branches_to insn.op) (cond (falls_through insn.op) (insn.next ∷ []) []) h.branches
    (next_starts m.code insn.next (falls_through insn.op) (subst (λ (t : Bool). (falls_through insn.op && not t) ≡ false) (start_is m.code insn.next) e))

-- ---- what fits goes on to fit

pub sound_risen : (m : MethodInfo) (insn : Insn) (r : OpRow) (f : TypeFrame) (xs ys : List Node) → AreRisen xs ys → IsSound m insn r (frames_of xs) f → IsSound m insn r (frames_of ys) f
sound_risen m insn r f xs ys h s = record {
  before = s.before;
  after = s.after;
  edges_fit = all_weaker (FrameFits m.code (frames_of xs) (frame_after m r f)) (FrameFits m.code (frames_of ys) (frame_after m r f)) (λ to k. fits_risen m.code xs ys (frame_after m r f) to h k) (edges insn) s.edges_fit;
  rows_hold = s.rows_hold;
  handlers_fit = all_weaker (λ (handler : Row). FrameFits m.code (frames_of xs) (frame_at_handler handler f) handler.handler) (λ (handler : Row). FrameFits m.code (frames_of ys) (frame_at_handler handler f) handler.handler)
      (λ handler k. fits_risen m.code xs ys (frame_at_handler handler f) handler.handler h k) (covering m insn.pc) s.handlers_fit;
}

-- ---- a visit that breaks no rule

pub unclashed : (at : Option ℕ) (more : Result (List Node) (VRule × ℕ)) (mid : List Node) → unless_clash at more ≡ Ok mid → (at ≡ None) × (more ≡ Ok mid)
unclashed (Some at) more mid e = absurd (cc)
unclashed None more mid e = (refl, e)

falls_on : (m : MethodInfo) (insn : Insn) → broken_after m insn ≡ None → falls_off m.code insn ≡ false
falls_on m insn e = (unbroken (falls_off m.code insn) V6 [] (unbroken (returns_wrongly insn.op m.result) V8 ((falls_off m.code insn, V6) ∷ []) e).1).0

module _ (m : MethodInfo) (insn : Insn) (r : OpRow) (f : TypeFrame) (leads : Leads m insn) (b : IsBounded m f) where
  row_visit : (nodes mid : List Node) → AreBounded m nodes → length nodes ≡ length m.code → visited_row m insn r f nodes ≡ Ok mid → Carries m nodes mid × IsSound m insn r (frames_of mid) f
  row_visit nodes mid c l e =
      let after : TypeFrame = frame_after m r f in
      let next : List Node = all_brought m.code (edges insn) after nodes in
      let before = unless_broken_ok insn.pc (broken_before m insn r f) (gone_on m insn f after nodes) mid e in
      let apart = unclashed (clash m.code (edges insn) (length after.stack) nodes) (unless_broken insn.pc (broken_after m insn) (handled m insn.pc f (covering m insn.pc) next)) mid before.1 in
      let later = unless_broken_ok insn.pc (broken_after m insn) (handled m insn.pc f (covering m insn.pc) next) mid apart.1 in
      let bound : IsBounded m after = after_bounded m insn r f before.0 b in
      let deep = edges_deep m.code (edges insn) (length after.stack) nodes apart.0 in
      let carries : Carries m nodes next = all_carried m after bound m.code (edges insn) nodes c deep in
      let fit : AllByRecursion (FrameFits m.code (frames_of next) after) (edges insn) = all_fit m after bound m.code (edges insn) nodes c l (edges_start m insn leads (falls_on m insn later.0)) deep in
      let more : Handles m insn.pc f (covering m insn.pc) next mid =
      handles m insn.pc f b (covering m insn.pc) next mid carries.bounded (sym (risen_length nodes next carries.risen) ∙ l) leads.handlers later.1 in (
        record { risen = all_risen_trans nodes next mid carries.risen more.carries.risen; bounded = more.carries.bounded },
        record {
          before = before.0;
          after = later.0;
          edges_fit = all_weaker (FrameFits m.code (frames_of next) after) (FrameFits m.code (frames_of mid) after) (λ to k. fits_risen m.code next mid after to more.carries.risen k) (edges insn) fit;
          rows_hold = more.hold;
          handlers_fit = more.fit;
        },
      )

insn_carries : (p : Program) (m : MethodInfo) (insn : Option Insn) (target : Option Target) (frame : Option TypeFrame) (nodes mid : List Node) → ((x : Insn) → insn ≡ Some x → Leads m x) → IsFrameBounded m frame
    → AreBounded m nodes → length nodes ≡ length m.code → visited_insn p m insn target frame nodes ≡ Ok mid → Carries m nodes mid
insn_carries p m (Some insn) (Some target) (Some f) nodes mid leads b c l e = (row_visit m insn (row p m insn.pc target insn.op) f (leads insn refl) b nodes mid c l e).0
insn_carries p m insn target frame nodes mid leads b c l e = let same : nodes ≡ mid = cc in
    record { risen = subst (λ (ns : List Node). AreRisen nodes ns) same (all_risen_self nodes); bounded = subst (λ (ns : List Node). AreBounded m ns) same c }

-- what a visit of an instruction with a frame is
as_row : (p : Program) (m : MethodInfo) (insn : Option Insn) (target : Option Target) (frame : Option TypeFrame) (nodes mid : List Node) (x : Insn) (t : Target) (f : TypeFrame) → insn ≡ Some x → target ≡ Some t → frame ≡ Some f
    → visited_insn p m insn target frame nodes ≡ Ok mid → visited_row m x (row p m x.pc t x.op) f nodes ≡ Ok mid
as_row p m insn target frame nodes mid x t f c d g e = rw (c, d, g) at e

-- ---- the node that is visited

-- it waits no more
pub cleared_frames : (nodes : List Node) (i : ℕ) → frames_of (cleared nodes i) ≡ frames_of nodes
cleared_frames (node ∷ nodes) (suc i) = ap (λ (fs : List (Option TypeFrame)). node.frame ∷ fs) (cleared_frames nodes i)
cleared_frames nodes i = refl

node_bounded : (m : MethodInfo) (nodes : List Node) (i : ℕ) → AreBounded m nodes → IsFrameBounded m (node_at nodes i).frame
node_bounded m [] i c = tt
node_bounded m (node ∷ nodes) zero c = c.0
node_bounded m (node ∷ nodes) (suc i) c = node_bounded m nodes i c.1

module _ (p : Program) (m : MethodInfo) (nodes mid : List Node) (i : ℕ) (leads : (x : Insn) → slice_get m.code i ≡ Some x → Leads m x) (bounded : AreBounded m nodes) (long : length nodes ≡ length m.code) (made : visited p m i nodes ≡ Ok mid) where
  still_bounded : AreBounded m (cleared nodes i)
  still_bounded = subst (λ (fs : List (Option TypeFrame)). AllByRecursion (IsFrameBounded m) fs) (sym (cleared_frames nodes i)) bounded

  still_long : length (cleared nodes i) ≡ length m.code
  still_long = length-set _ _ _ ∙ long

  pub visit_carries : Carries m (cleared nodes i) mid
  visit_carries = insn_carries p m (slice_get m.code i) (slice_get m.targets i) (node_at nodes i).frame (cleared nodes i) mid leads (node_bounded m nodes i bounded) still_bounded still_long made

  pub visit_sound : (insn : Insn) (target : Target) (f : TypeFrame) → slice_get m.code i ≡ Some insn → slice_get m.targets i ≡ Some target → (node_at nodes i).frame ≡ Some f
      → IsSound m insn (row p m insn.pc target insn.op) (frames_of mid) f
  visit_sound insn target f c t e =
      let bound : IsBounded m f = subst (λ (frame : Option TypeFrame). IsFrameBounded m frame) e (node_bounded m nodes i bounded) in
      let visit : visited_row m insn (row p m insn.pc target insn.op) f (cleared nodes i) ≡ Ok mid =
      as_row p m (slice_get m.code i) (slice_get m.targets i) (node_at nodes i).frame (cleared nodes i) mid insn target f c t e made in
      (row_visit m insn (row p m insn.pc target insn.op) f (leads insn c) bound (cleared nodes i) mid still_bounded still_long visit).1
