-- The effect of the instruction at which typed frames stand is allowed, and what it names is there.
use Rattle.std.proofs.Common.{◌≡◌, ℕ, ◌<◌, ◌≤◌, ◌^◌, inl, inr, Bool, true, false, List, [], ◌∷◌, ◌++◌, length, Some, refl, ap, sym, subst, ◌∙◌, arith, ◌==◌, slice_get, slice_index, if◌then◌else◌}
use Rattle.std.proofs.lemmas.{Bool.{cond_both, Decides.nat_tests}, Option.get_or_from_slice_get}
use Rattle.lists.proofs.{ListLaws.same_some, TestLaws.{first_true, second_true}}
use Rattle.jvm_types.specs.{CodeTable.{arguments, is_init}, Members.{MethodSite, is_static}, Numbers.has_number, ProgramInvariant.{IsClassOf, site_in}}
use Rattle.jvm_types.specs.{Verifying.{IsLaidOut, edges, frame_after, FrameFits}, declared.{class_numbers.TheConstants.{OBJECT_CLASS, PRINT_STREAM_CLASS}, code.{Insn.Insn, Op.Op}, op_row.Given.Given}}
use Rattle.jvm_types.specs.declared.{op_row.{Given.TheVariants.Fresh, OpRow.OpRow, Want.Want}, program.{FieldInfo.FieldInfo, MethodInfo.MethodInfo, Program.Program, Target.Target}, typing.VType.VType}
use Rattle.jvm_types.specs.declared.typing.VType.TheVariants.{Ref, New}
use Rattle.laws_programs.{specs.{EntryLaws.receiver_count, TargetLaws.HasRow}, proofs.{CodeOrder.class_of_the_new, EdgeTargets.lands, FieldOrder.{statics_inside, instances_inside}}}
use Rattle.checked_program.{specs.{CheckedLaws.receiver_want, MarkedProgram.{MarkedProgram, IsMarked, checked_part}, TaggedCode.row_of}, proofs.{CheckedPlaces.called_fit_all, FewFields.few_fields}}
use Rattle.laws_sections.proofs.HiddenThis.{long_arguments}
use Rattle.machine_types.specs.{Effects.effect, Frames.{Top, effect_at}, Lawful.within, ReadyObjects.out_object, Standing.Standing, Threads.Frame, Typed.{Classes, IsNullOr, FrameHolds}}
use Rattle.machine_types.specs.{Words.variable_word, declared.effect.Effect.{Effect, TheVariants.{Goes, Throws, Reads, Writes, Raises, Makes, Prints, Calls, Returns, Leaves, Stuck}}}
use Rattle.machine_types.specs.declared.effect.Variable.{Variable}
use Rattle.laws_threads.specs.{Allowed.{IsOf, IsNamedField, WantHolds, TakenHold, OneOf, MadeAs, Allowed}, TopFrames.{GoesTo, IsReference, CallFits, MakesFit, IsAllowed, EffectsAreAllowed}}
use Rattle.laws_threads.proofs.{Allowed.{MakesAt, below_args, effect_allowed}, Calls.{CallRow, call_row, takes_arguments, HasReceiver, call_receiver, receiver_first}}
use Rattle.laws_threads.proofs.{Landing.{laid_at, rules_at, stand_top}, Standings.top_here, TopStand.row_here, Typing.{operands, edge_at}}
use Rattle.jvm_types.specs.declared.code.Op.TheVariants as ops
use Rattle.jvm_types.specs.declared.program.Target.TheVariants as targets

-- ---- the effect is allowed

class_named : (p : Program) (site : MethodSite) (pc class : ℕ) (op : Op) (r : OpRow) → HasRow p site pc (targets.Class class) op r → IsClassOf p class
class_named p site pc class (ops.New i) r h = h.1
class_named p site pc class op r h = absurd (assumption)

module _ (c : MarkedProgram) (marked : IsMarked c) (is : Classes) (out : is PRINT_STREAM_CLASS out_object) where
  makes_at : (m : MethodInfo) (i : ℕ) (insn : Insn) (target : Target) (r : OpRow) → IsLaidOut m → slice_get m.code i ≡ Some insn → slice_get m.targets i ≡ Some target
      → HasRow c.program (site_in m) insn.pc target insn.op r → MakesAt c.program m is [] insn.pc insn.next out target
  makes_at m i insn (targets.Class class) r laid e t h = (class_of_the_new m i insn class laid e t, class_named c.program (site_in m) insn.pc class insn.op r h)
  makes_at m i insn target r laid e t h = tt

  pub taken_here : (f : Frame) (h : FrameHolds c is 0 f) → TakenHold h.stands.method is (row_of c.program h.stands.method h.stands.insn h.stands.target).takes f.stack
  taken_here f h =
      let rules = rules_at c marked f h.stands in
      operands h.stands.method is (row_of c.program h.stands.method h.stands.insn h.stands.target) h.stands.types f rules.rules.takes rules.rules.types (record { stack = h.stack; locals = h.locals; receiver = h.receiver })

  pub allowed_here : (f : Frame) (h : FrameHolds c is 0 f)
      → Allowed c.program h.stands.method is h.stands.insn h.stands.target (row_of c.program h.stands.method h.stands.insn h.stands.target) f.stack
      (effect c.program h.stands.insn.next h.stands.target h.stands.insn.op f.locals f.stack)
  allowed_here f h =
      let k = h.stands in
      let rules = rules_at c marked f k in
      let fits = row_here c marked is f h in
      effect_allowed c.program k.method is f.stack k.insn.pc k.insn.next out k.target k.insn.op f.locals f.stack refl
      (taken_here f h, fits.reads, fits.writes)
      (makes_at k.method k.number k.insn k.target (row_of c.program k.method k.insn k.target) (laid_at c marked f.method k.method k.at.in_program) k.at.in_code k.at.names rules.has_row)
      rules.names

-- ---- where it goes on

pub number_in : (tos : List ℕ) (to : ℕ) → OneOf tos to → has_number tos to ≡ true
number_in [] to h = absurd h
number_in (x ∷ xs) to (inl e) = first_true (x == to) (has_number xs to) (grind (arith, nat_tests, e))
number_in (x ∷ xs) to (inr h) = second_true (x == to) (has_number xs to) (number_in xs to h)

module _ (c : MarkedProgram) (marked : IsMarked c) (f : Frame) (fs : List Frame) (k : Standing c f) where
  pub goes_to : (to : ℕ) → OneOf (edges k.insn) to → GoesTo (top_here c f fs k) to
  goes_to to edge =
      let rules = rules_at c marked f k in
      let after = frame_after k.method (row_of c.program k.method k.insn k.target) k.types in
      let fits : FrameFits k.method.code k.frames after to = edge_at k.method (within c.program) k.method.code k.frames after (edges k.insn) to rules.sound.edges_fit edge in
      let l = lands k.method k.frames after to fits in
      record { edge = number_in (edges k.insn) to edge; begins = record { number = l.number; insn = l.insn; there = l.there; starts = l.starts } }

-- ---- what it names

module _ (c : MarkedProgram) (marked : IsMarked c) where
  of_heap : (class v : ℕ) → IsOf (within c.program) class v → IsReference c.program v
  of_heap class v o = (o.0, o.2)

  variable_small : (target : Target) (v : Variable) (f : FieldInfo) → IsNamedField c.program (within c.program) target v f → variable_word v < 2 ^ 32
  variable_small target v f at =
      let is = marked.checked.program in
      subst (λ (w : Variable). variable_word w < 2 ^ 32) (sym at.variable) (cond_both (is_static f.flags) _ _ (λ (w : Variable). variable_word w < 2 ^ 32)
      (λ e. let inside = statics_inside c.program at.number f is at.there e in omega (arith, inside.1, is.words, is.heap_to))
      (λ e. let inside = instances_inside c.program at.number f is at.there e in let holder = at.holder e in omega (arith, inside, few_fields c.program f.class is, holder.2, is.heap_to)))

  pub made_size : (m : MethodInfo) (type : VType) (word size : ℕ) → MadeAs c.program m type word size → (2 ≤ size) × (size < 2 ^ 32)
  made_size m (New pc) word size h = (omega (arith, h.4), omega (arith, h.4, few_fields c.program h.0 marked.checked.program))
  made_size m (Ref class) word size h = (omega (arith, h.4), omega (arith, h.4, h.2, marked.checked.program.heap_to))
  made_size m type word size h = absurd (assumption)

  module _ (f : Frame) (fs : List Frame) (h : FrameHolds c (within c.program) 0 f) where
    out : out_object < c.program.heap
    out = omega (arith, marked.checked.program.heap_from)

    makes_fit : (word size : ℕ) (type : VType) → OneOf (edges h.stands.insn) h.stands.insn.next → (row_of c.program h.stands.method h.stands.insn h.stands.target).gives ≡ Fresh type ∷ []
        → MadeAs c.program h.stands.method type word size → MakesFit c.program (top_here c f fs h.stands) size
    makes_fit word size type edge gives made =
        let fits = row_here c marked (within c.program) f h in
        let sizes = made_size h.stands.method type word size made in
        record { goes = goes_to c marked f fs h.stands h.stands.insn.next edge; least = sizes.0; most = sizes.1; room = omega (arith, fits.gives, ap (λ (gs : List Given). length gs) gives) }

    -- the receiver of a call
    receiver_inside : (b : Bool) (class v : ℕ) → 17 ≤ class → WantHolds h.stands.method (within c.program) (receiver_want b class) v → 0 < v → v < c.program.heap
    receiver_inside true class v file (inl w) some = w
    receiver_inside true class v file (inr w) some = absurd (omega (arith, w, file))
    receiver_inside false class v file (inl w) some = absurd (omega (arith, w, some))
    receiver_inside false class v file (inr w) some = w.1

    call_inside : (called : MethodInfo) (number : ℕ) → slice_get c.program.methods number ≡ Some called → (r : OpRow) → CallRow called r → TakenHold h.stands.method (within c.program) r.takes f.stack
        → is_static called.flags ≡ false → HasReceiver called f.stack → IsReference c.program (slice_index f.stack (length called.args))
    call_inside called number e r call taken s has =
        let v = has.0 in
        let index = get_or_from_slice_get f.stack (length called.args) v 0 has.1 in
        let file = (marked.checked.program.methods number called e).class.0 in
        elim call.by as (λ _. IsReference c.program (slice_index f.stack (length called.args))) [
          | inl k ↦
              let takes : r.takes ≡ arguments called ++ receiver_want (is_init called) called.class ∷ [] = ap (λ (x : OpRow). x.takes) call.is ∙ k.1 in
              let want = receiver_want (is_init called) called.class in
              let at = below_args c.program h.stands.method (within c.program) [] (arguments called) want f.stack (subst (λ (ws : List Want). TakenHold h.stands.method (within c.program) ws f.stack) takes taken) in
              let there : slice_get f.stack (length called.args) ≡ Some at.0 = subst (λ (n : ℕ). slice_get f.stack n ≡ Some at.0) (long_arguments called) at.1 in
              let same : at.0 ≡ v = same_some (sym there ∙ has.1) in
              let inside = receiver_inside (is_init called) called.class at.0 file at.2 (subst (λ (n : ℕ). 0 < n) (sym same) has.2) in
              subst (IsReference c.program) (same ∙ sym index) (subst (λ (n : ℕ). 0 < n) (sym same) has.2, inside)
          | inr k ↦ absurd (let bad : true ≡ false = sym k.0 ∙ s in cc)
        ]

    call_fits : (number : ℕ) (called : MethodInfo) → h.stands.target ≡ targets.Method number → slice_get c.program.methods number ≡ Some called
        → effect c.program h.stands.insn.next h.stands.target h.stands.insn.op f.locals f.stack ≡ Calls number → CallFits c.program (top_here c f fs h.stands) number
    call_fits number called t e calls =
        let k = h.stands in
        let r : OpRow = row_of c.program k.method k.insn k.target in
        let fits = row_here c marked (within c.program) f h in
        let has_row : HasRow c.program (site_in k.method) k.insn.pc (targets.Method number) k.insn.op r = subst (λ (x : Target). HasRow c.program (site_in k.method) k.insn.pc x k.insn.op r) t (rules_at c marked f k).has_row in
        let call = call_row c.program (site_in k.method) k.insn.pc number k.insn.op r called e has_row in
        let taken = taken_here c marked (within c.program) out f h in
        let calls : effect c.program k.insn.next (targets.Method number) k.insn.op f.locals f.stack ≡ Calls number = subst (λ (x : Target). effect c.program k.insn.next x k.insn.op f.locals f.stack ≡ Calls number) t calls in
        let has : is_static called.flags ≡ false → HasReceiver called f.stack = λ s. call_receiver c.program (site_in k.method) k.insn.pc k.insn.next number number k.insn.op r called f.locals f.stack e has_row calls s in
        let count = takes_arguments called r call in
        record {
          called = called;
          there = e;
          taken = count;
          arguments = omega (arith, count, fits.takes);
          locals = called_fit_all (checked_part c) number called marked.checked e;
          receiver = λ s. call_inside called number e r call taken s (has s);
          entry = cond_both (is_static called.flags) _ _ (λ n. n < c.program.heap) (λ s. omega (arith, marked.checked.program.heap_from)) (λ s.
              let v = has s in
              let one : receiver_count called ≡ 1 = ap (λ b. if b then 0 else 1) s in
              let first = receiver_first (length called.args) (length r.takes) f.stack v.0 v.1 (omega (arith, count, one)) in
              let index = get_or_from_slice_get f.stack (length called.args) v.0 0 v.1 in
              subst (λ (n : ℕ). n < c.program.heap) (index ∙ sym first) (call_inside called number e r call taken s v).1);
        }

    allowed_as : (e : Effect) → effect_at c.program (top_here c f fs h.stands) ≡ e
        → Allowed c.program h.stands.method (within c.program) h.stands.insn h.stands.target (row_of c.program h.stands.method h.stands.insn h.stands.target) f.stack e → IsAllowed c.program (top_here c f fs h.stands) e
    allowed_as (Goes to made) e a = goes_to c marked f fs h.stands to a.0
    allowed_as (Throws x) e a = a.0
    allowed_as (Reads v) e a = (goes_to c marked f fs h.stands h.stands.insn.next a.0, variable_small h.stands.target v a.1 a.2)
    allowed_as (Writes v word) e a = (goes_to c marked f fs h.stands h.stands.insn.next a.0, variable_small h.stands.target v a.1 a.2)
    allowed_as (Raises x) e a = (a.0, of_heap _ x a.1)
    allowed_as (Makes word size) e a = makes_fit word size a.1 a.0 a.2 a.4
    allowed_as (Prints n) e a = (goes_to c marked f fs h.stands h.stands.insn.next a.0, a.1)
    allowed_as (Calls number) e a = call_fits number a.0 a.1 a.2 e
    allowed_as Returns e a = a
    allowed_as (Leaves m) e a = (goes_to c marked f fs h.stands h.stands.insn.next a.0, elim a.1 as (λ (_ : IsNullOr (within c.program) OBJECT_CLASS m). m < c.program.heap) [ inl z ↦ omega (arith, z, marked.checked.program.heap_from) | inr o ↦ o.1 ])
    allowed_as Stuck e a = absurd a
    allowed_as w e a = (goes_to c marked f fs h.stands h.stands.insn.next a.0, of_heap _ _ a.1)

pub effects_allowed : EffectsAreAllowed
effects_allowed c [] at marked h e = absurd (cc)
effects_allowed c (f ∷ fs) at marked h e =
    let same : top_here c f fs h.0.stands ≡ at = same_some (sym (stand_top c marked f fs h.0.stands) ∙ e) in
    subst (λ (x : Top). IsAllowed c.program x (effect_at c.program x)) same
    (allowed_as c marked f fs h.0 (effect_at c.program (top_here c f fs h.0.stands)) refl (allowed_here c marked (within c.program) (out c marked f fs h.0) f h.0))
