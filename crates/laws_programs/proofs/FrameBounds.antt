-- What every frame has in the course of the visits: as many locals as the entry frame, a stack within max_stack,
-- and outside an `<init>` its `this` initialised.
use Rattle.std.proofs.Common.{◌≡◌, ℕ, suc, ◌+◌, ◌-◌, ◌≤◌, Bool, true, false, cond, not, List, [], ◌∷◌, length, Option, Some, None, refl, ap, ◌∙◌, arith, length-append, length-drop, length-set, ◌==◌}
use Rattle.std.proofs.lemmas.{Bool.{ltb-false, and_from, or_left, Decides.nat_tests}, List.length-map}
use Rattle.jvm_types.specs.{ClassTree.is_subclass, CodeTable.{stack_after, locals_after, is_init}, Types.{TypeFrame, meets, meet_frames, entry_type_frame, same_type}}
use Rattle.jvm_types.specs.Verifying.{first_broken, takes_too_many, gives_too_many, lacks_locals, misuses_object, mistypes, broken_before, started, after_start, frame_after, catch_fault, caught_class, frame_at_handler}
use Rattle.jvm_types.specs.declared.{class_numbers.TheConstants.THROWABLE_CLASS, code.Insn.Insn, op_row.{Given.Given, OpRow.OpRow}, program.{MethodInfo.MethodInfo, Row.Row}, refusal.VRule.VRule}
use Rattle.jvm_types.specs.declared.{refusal.VRule.TheVariants.{V1, V2, V3, V4, V7}, typing.VType.{VType, TheVariants.{This, Top}}}
use Rattle.laws_programs.proofs.VisitsEndRanks.{meets_short}

pub record IsBounded (m : MethodInfo) (f : TypeFrame) : Type 0 where
  pub locals : length f.locals ≡ length (entry_type_frame m).locals
  pub stack : length f.stack ≤ m.max_stack
  pub ready : is_init m ≡ false → f.ready ≡ true

pub entry_bounded : (m : MethodInfo) → IsBounded m (entry_type_frame m)
entry_bounded m = record { locals = refl; stack = omega arith; ready = λ e. ap not e }

-- ---- where two edges meet

pub meets_length : (ts us : List VType) → length ts ≡ length us → length (meets ts us) ≡ length ts
meets_length [] us e = refl
meets_length (t ∷ ts) [] e = absurd (omega arith)
meets_length (t ∷ ts) (u ∷ us) e = ap suc (meets_length ts us (omega arith))

pub meet_bounded : (m : MethodInfo) (f g : TypeFrame) → IsBounded m f → IsBounded m g → IsBounded m (meet_frames f g)
meet_bounded m f g b c = record {
  locals = omega (arith, meets_length f.locals g.locals (omega (arith, b.locals, c.locals)), b.locals);
  stack = omega (arith, meets_short f.stack g.stack, b.stack);
  ready = λ e. and_from f.ready g.ready (b.ready e) (c.ready e);
}

-- ---- the rules that hold

pub unbroken : (test : Bool) (rule : VRule) (tests : List (Bool × VRule)) → first_broken ((test, rule) ∷ tests) ≡ None → (test ≡ false) × (first_broken tests ≡ None)
unbroken true rule tests e = absurd (cc)
unbroken false rule tests e = (refl, e)

-- V2 and V3 hold
pub within_stack : (m : MethodInfo) (insn : Insn) (r : OpRow) (f : TypeFrame) → broken_before m insn r f ≡ None → gives_too_many m r f ≡ false
within_stack m insn r f e =
    let one = unbroken (takes_too_many r f) V1 ((gives_too_many m r f, V2) ∷ (lacks_locals m r f, V3) ∷ (misuses_object m insn r f, V7) ∷ (mistypes m r f, V4) ∷ []) e in
    (unbroken (gives_too_many m r f) V2 ((lacks_locals m r f, V3) ∷ (misuses_object m insn r f, V7) ∷ (mistypes m r f, V4) ∷ []) one.1).0

pub within_locals : (m : MethodInfo) (insn : Insn) (r : OpRow) (f : TypeFrame) → broken_before m insn r f ≡ None → lacks_locals m r f ≡ false
within_locals m insn r f e =
    let one = unbroken (takes_too_many r f) V1 ((gives_too_many m r f, V2) ∷ (lacks_locals m r f, V3) ∷ (misuses_object m insn r f, V7) ∷ (mistypes m r f, V4) ∷ []) e in
    let two = unbroken (gives_too_many m r f) V2 ((lacks_locals m r f, V3) ∷ (misuses_object m insn r f, V7) ∷ (mistypes m r f, V4) ∷ []) one.1 in
    (unbroken (lacks_locals m r f) V3 ((misuses_object m insn r f, V7) ∷ (mistypes m r f, V4) ∷ []) two.1).0

-- ---- the frame after an instruction

started_bounded : (m : MethodInfo) (object : Option (VType × ℕ)) (f : TypeFrame) → IsBounded m f → IsBounded m (after_start object f)
started_bounded m None f b = b
started_bounded m (Some object) f b = record {
  locals = length-map f.locals _ ∙ b.locals;
  stack = simp length-map b.stack;
  ready = λ e. or_left f.ready (same_type object.0 This) (b.ready e);
}

pub locals_kept : (write : Option (ℕ × Given)) (stack locals : List VType) → length (locals_after Top (λ t. t) write stack locals) ≡ length locals
locals_kept None stack locals = refl
locals_kept (Some write) stack locals = length-set _ _ _

after_stack : (m : MethodInfo) (r : OpRow) (f : TypeFrame) → gives_too_many m r f ≡ false → length (stack_after Top (λ t. t) r f.stack f.locals) ≤ m.max_stack
after_stack m r f e =
    let fits : length f.stack - length r.takes + length r.gives ≤ m.max_stack = ltb-false m.max_stack (length f.stack - length r.takes + length r.gives) e in
    simp (length-append, length-map, length-drop) (omega (arith, fits))

pub after_bounded : (m : MethodInfo) (insn : Insn) (r : OpRow) (f : TypeFrame) → broken_before m insn r f ≡ None → IsBounded m f → IsBounded m (frame_after m r f)
after_bounded m insn r f e b =
    let next : TypeFrame = record { stack = stack_after Top (λ t. t) r f.stack f.locals; locals = locals_after Top (λ t. t) r.writes f.stack f.locals; ready = f.ready } in
    started_bounded m (started m.class r.takes f.stack) next
    (record { locals = locals_kept r.writes f.stack f.locals ∙ b.locals; stack = after_stack m r f (within_stack m insn r f e); ready = b.ready })

-- ---- the frame at a handler

untaken : (a b : Bool) (x y : VRule × ℕ) → cond a (Some x) (cond b (Some y) None) ≡ None → a ≡ false
untaken true b x y e = absurd (cc)
untaken false b x y e = refl

some_room : (n : ℕ) → (n == 0) ≡ false → 1 ≤ n
some_room n e = grind (arith, nat_tests, e)

pub handler_bounded : (m : MethodInfo) (pc : ℕ) (handler : Row) (f : TypeFrame) → catch_fault m pc handler ≡ None → IsBounded m f → IsBounded m (frame_at_handler handler f)
handler_bounded m pc handler f e b = record {
  locals = b.locals;
  stack = some_room m.max_stack (untaken (m.max_stack == 0) (not (is_subclass (caught_class handler) THROWABLE_CLASS)) (V2, pc) (V4, handler.handler) e);
  ready = b.ready;
}
