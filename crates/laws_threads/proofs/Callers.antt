-- Who goes on behind a return, and who catches an exception.
use Rattle.std.proofs.Common.{◌≡◌, ℕ, zero, suc, ◌<◌, ◌≤◌, inl, inr, Bool, true, false, ◌||◌, ◌&&◌, List, [], ◌∷◌, length, Option, Some, None, refl, ap, sym, subst, ◌∙◌, arith, ◌==◌, slice_get, drop, if◌then◌else◌}
use Rattle.std.{specs.List.{AllByRecursion, filter}, proofs.lemmas.{Bool.Decides.nat_tests, List.length-drop}}
use Rattle.lists.proofs.ListLaws.{same_some}
use Rattle.jvm_types.specs.{ClassTree.is_subclass, CodeTable.result_of, ProgramInvariant.site_in, Verifying.{edges, covers, catch_fault, frame_at_handler, FrameFits}, declared.code.{Insn.Insn, Op.Op}}
use Rattle.jvm_types.specs.declared.{op_row.OpRow.OpRow, program.{MethodInfo.MethodInfo, Row.Row, Target.Target}, refusal.VRule.VRule, typing.VType.VType}
use Rattle.laws_programs.{specs.{RuleLaws.ReturnsWell, TargetLaws.HasRow}, proofs.{EdgeTargets.lands, RuleUses.returns_suit_all}}
use Rattle.checked_program.specs.{MarkedProgram.{MarkedProgram, IsMarked}, Marks.called_method, TaggedCode.row_of}
use Rattle.machine_types.specs.{Frames.{Top, given_back, handler_of, handler_at}, Lawful.within, Standing.Standing, Threads.Frame}
use Rattle.machine_types.specs.Typed.{Holds as HasType, FrameHolds, WaitHolds, HoldBelow, ThrownHolds}
use Rattle.laws_threads.{specs.{Allowed.OneOf, TopFrames.{BelowFits, CallerFits, ReturnsFit, HandlerFits, HandlersFit}}, proofs.{Calls.{CallRow, call_row}, Landing.{stand_top, rules_at}}}
use Rattle.laws_threads.proofs.{Lists.zip_length, Standings.top_here, TopEffects.goes_to, TopStand.stands_here}
use Rattle.jvm_types.specs.declared.code.Op.TheVariants as ops
use Rattle.jvm_types.specs.declared.program.Target.TheVariants as targets

-- ---- calls

-- a call of a method of the program goes on at the following instruction
pub call_edge : (insn : Insn) (target : Target) (number : ℕ) → called_method insn.op target ≡ Some number → OneOf (edges insn) insn.next
call_edge insn target number e = by_op insn.pc insn.next insn.op target e
  where
    by_op : (pc next : ℕ) (op : Op) (target : Target) → called_method op target ≡ Some number → OneOf (edges (record { pc = pc; next = next; op = op })) next
    by_op pc next (ops.Invokevirtual i) target e = inl refl
    by_op pc next (ops.Invokespecial i) target e = inl refl
    by_op pc next (ops.Invokestatic i) target e = inl refl
    by_op pc next op target e = absurd (let bad : None ≡ Some number = e in cc)

-- the target names the method
pub call_target : (op : Op) (target : Target) (number : ℕ) → called_method op target ≡ Some number → target ≡ targets.Method number
call_target (ops.Invokevirtual i) (targets.Method u) number e = ap targets.Method (same_some e)
call_target (ops.Invokespecial i) (targets.Method u) number e = ap targets.Method (same_some e)
call_target (ops.Invokestatic i) (targets.Method u) number e = ap targets.Method (same_some e)
call_target op target number e = absurd (let bad : None ≡ Some number = e in cc)

module _ (c : MarkedProgram) (marked : IsMarked c) where
  pub row_of_call : (g : Frame) (k : Standing c g) (number : ℕ) (called : MethodInfo) → called_method k.insn.op k.target ≡ Some number → slice_get c.program.methods number ≡ Some called
      → CallRow called (row_of c.program k.method k.insn k.target)
  row_of_call g k number called e there =
      call_row c.program (site_in k.method) k.insn.pc number k.insn.op (row_of c.program k.method k.insn k.target) called there
      (subst (λ (x : Target). HasRow c.program (site_in k.method) k.insn.pc x k.insn.op (row_of c.program k.method k.insn k.target)) (call_target k.insn.op k.target number e) (rules_at c marked g k).has_row)

-- ---- returns

given_few : (op : Op) (m : MethodInfo) (ts : List VType) (s : List ℕ) → ReturnsWell m op ts → length (given_back op s) ≤ length (result_of m)
given_few ops.Ireturn m ts [] w = omega arith
given_few ops.Ireturn m ts (a ∷ s) w = rw w.described (omega arith)
given_few ops.Areturn m ts [] w = omega arith
given_few ops.Areturn m ts (a ∷ s) w = rw w.described (omega arith)
given_few op m ts s w = omega arith

module _ (c : MarkedProgram) (marked : IsMarked c) (f : Frame) (h : FrameHolds c (within c.program) 0 f) where
  pub returns_well : ReturnsWell h.stands.method h.stands.insn.op h.stands.types.stack
  returns_well =
      let rules = rules_at c marked f h.stands in
      returns_suit_all c.program h.stands.method h.stands.insn h.stands.target h.stands.types rules.rules rules.sound.after

  caller_fits : (g : Frame) (gs : List Frame) → WaitHolds c (within c.program) f.method g → CallerFits c.program (g ∷ gs) (given_back h.stands.insn.op f.stack)
  caller_fits g gs w =
      let k = w.holds.stands in
      let call = row_of_call c marked g k f.method h.stands.method w.calls h.stands.at.in_program in
      let rules = rules_at c marked g k in
      let few = given_few h.stands.insn.op h.stands.method h.stands.types.stack f.stack returns_well in
      let same = zip_length (HasType k.method (within c.program)) (drop w.count k.types.stack) g.stack w.holds.stack in
      record {
        caller = top_here c g gs k;
        stands = stands_here c marked (within c.program) g gs w.count w.holds;
        room = grind (arith, nat_tests, few, rules.rules.gives, ap (λ (x : OpRow). length x.gives) call.is, same, length-drop w.count k.types.stack, w.taken);
        begins = (goes_to c marked g gs k k.insn.next (call_edge k.insn k.target f.method w.calls)).begins;
      }

  pub below_fits : (fs : List Frame) → HoldBelow c (within c.program) f.method fs → BelowFits c.program fs (given_back h.stands.insn.op f.stack)
  below_fits [] b = tt
  below_fits (g ∷ gs) b = caller_fits g gs b.0

pub returns_fit : ReturnsFit
returns_fit c [] at marked h e r = absurd (cc)
returns_fit c (f ∷ fs) at marked h e r =
    let same : top_here c f fs h.0.stands ≡ at = same_some (sym (stand_top c marked f fs h.0.stands) ∙ e) in
    subst (λ (x : Top). BelowFits c.program x.below (given_back x.insn.op x.frame.stack)) same (below_fits c marked f h.0 fs h.1)

-- ---- handlers

-- the row that catches is one of those that cover
pub handler_in : (P : Row → Type 0) (pc class : ℕ) (rows : List Row) (handler : Row) → AllByRecursion P (filter (covers pc) rows) → handler_of pc class rows ≡ Some handler
    → P handler × ((handler.catch_class == 0 || is_subclass class handler.catch_class) ≡ true)
handler_in P pc class [] handler all e = absurd (cc)
handler_in P pc class (r ∷ rs) handler all e = by_cover (covers pc r) (r.catch_class == 0 || is_subclass class r.catch_class) refl all e (handler_in P pc class rs handler)
  where
    by_cover : (a b : Bool) → (r.catch_class == 0 || is_subclass class r.catch_class) ≡ b → AllByRecursion P (if a then r ∷ filter (covers pc) rs else filter (covers pc) rs)
        → (if a && b then Some r else handler_of pc class rs) ≡ Some handler
        → (AllByRecursion P (filter (covers pc) rs) → handler_of pc class rs ≡ Some handler → P handler × ((handler.catch_class == 0 || is_subclass class handler.catch_class) ≡ true))
        → P handler × ((handler.catch_class == 0 || is_subclass class handler.catch_class) ≡ true)
    by_cover true true g all e more = let same : r ≡ handler = same_some e in (subst P same all.0, subst (λ (h : Row). (h.catch_class == 0 || is_subclass class h.catch_class) ≡ true) same g)
    by_cover true false g all e more = more all.1 e
    by_cover false b g all e more = more all e

room_there : (most : ℕ) (fault : VRule × ℕ) (more : Option (VRule × ℕ)) → (if most == 0 then Some fault else more) ≡ None → 0 < most
room_there zero fault more e = absurd (cc)
room_there (suc most) fault more e = omega arith

module _ (c : MarkedProgram) (marked : IsMarked c) where
  pub handler_fits : (f : Frame) (fs : List Frame) (k : Standing c f) (class : ℕ) (r : Row) → handler_of f.pc class k.method.rows ≡ Some r → HandlerFits (top_here c f fs k) r
  handler_fits f fs k class r e =
      let rules = rules_at c marked f k in
      let e : handler_of k.insn.pc class k.method.rows ≡ Some r = subst (λ (pc : ℕ). handler_of pc class k.method.rows ≡ Some r) (sym k.pc_is) e in
      let fits = (handler_in (λ h. FrameFits k.method.code k.frames (frame_at_handler h k.types) h.handler) k.insn.pc class k.method.rows r rules.sound.handlers_fit e).0 in
      let l = lands k.method k.frames (frame_at_handler r k.types) r.handler fits in
      let room = (handler_in (λ h. catch_fault k.method k.insn.pc h ≡ None) k.insn.pc class k.method.rows r rules.sound.rows_hold e).0 in
      record { begins = record { number = l.number; insn = l.insn; there = l.there; starts = l.starts }; room = room_there k.method.max_stack _ _ room }

pub handlers_fit : HandlersFit
handlers_fit c [] at class r marked h e catches = absurd (cc)
handlers_fit c (f ∷ fs) at class r marked h e catches = elim h.0 as (λ (_ : ThrownHolds c (within c.program) f). HandlerFits at r) [ inl k ↦ of_top k.stands | inr w ↦ of_top w.1.holds.stands ]
  where
    of_top : (k : Standing c f) → HandlerFits at r
    of_top k =
        let same : top_here c f fs k ≡ at = same_some (sym (stand_top c marked f fs k) ∙ e) in
        subst (λ (x : Top). HandlerFits x r) same (handler_fits c marked f fs k class r (subst (λ (x : Top). handler_at class x ≡ Some r) (sym same) catches))
