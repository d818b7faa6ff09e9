-- The object that an `<init>` is called on, looked for among the values that are taken.
use Rattle.std.proofs.Common.{◌≡◌, ℕ, zero, suc, ◌<◌, Bool, true, false, not, List, [], ◌∷◌, length, drop, Option, Some, None, refl, sym, ap, ◌∙◌, arith, ◌||◌, slice_get, slice_index_or}
use Rattle.std.specs.Option.{IfSome}
use Rattle.jvm_types.specs.{CodeFault.or_else, CodeTable.{stack_after, locals_after}, Types.{TypeFrame, filled, is_uninitialised}}
use Rattle.jvm_types.specs.{Verifying.{started, suits, some_taken, some_read, mistypes, after_start, frame_after}, declared.op_row.{OpRow.OpRow, Want.{Want, TheVariants.ToStart}}}
use Rattle.jvm_types.specs.declared.{program.MethodInfo.MethodInfo, typing.VType.{VType, TheVariants.{This, New, Top}}}

started_first : (own : ℕ) (want : Want) (t : VType) (wants : List Want) (ts : List VType) → started own (want ∷ wants) (t ∷ ts) ≡ or_else (started own (want ∷ []) (t ∷ [])) (started own wants ts)
started_first own (ToStart class) This wants ts = refl
started_first own (ToStart class) t wants ts = refl
started_first own want t wants ts = refl

started_at : (own : ℕ) (takes : List Want) (stack : List VType) (i : ℕ) (d : Want) (t : VType) → i < length takes → slice_get stack i ≡ Some t
    → started own (drop i takes) (drop i stack) ≡ or_else (started own (slice_index_or takes i d ∷ []) (t ∷ [])) (started own (drop (suc i) takes) (drop (suc i) stack))
started_at own [] stack i d t h e = absurd (omega (arith, h))
started_at own (a ∷ takes) [] i d t h e = absurd (cc)
started_at own (a ∷ takes) (u ∷ us) zero d t h e = let same : u ≡ t = cc in rw same (started_first own a t takes us)
started_at own (a ∷ takes) (u ∷ us) (suc i) d t h e = started_at own takes us i d t (omega (arith, h)) e

none_started : (own : ℕ) (wants : List Want) → started own wants [] ≡ None
none_started own [] = refl
none_started own (ToStart class ∷ wants) = refl
none_started own (want ∷ wants) = refl

pub started_past : (own : ℕ) (takes : List Want) (stack : List VType) (i : ℕ) → slice_get stack i ≡ None → started own (drop i takes) (drop i stack) ≡ None
started_past own [] stack zero e = refl
started_past own [] stack (suc i) e = refl
started_past own (a ∷ takes) [] zero e = none_started own (a ∷ takes)
started_past own (a ∷ takes) [] (suc i) e = none_started own (drop i takes)
started_past own (a ∷ takes) (u ∷ us) zero e = absurd (cc)
started_past own (a ∷ takes) (u ∷ us) (suc i) e = started_past own takes us i e

pub started_found : (own : ℕ) (takes : List Want) (stack : List VType) (i : ℕ) (d : Want) (t : VType) (found : VType × ℕ) (whole : Option (VType × ℕ)) → i < length takes → slice_get stack i ≡ Some t
    → Some found ≡ started own (slice_index_or takes i d ∷ []) (t ∷ []) → started own (drop i takes) (drop i stack) ≡ whole → Some found ≡ whole
started_found own takes stack i d t found whole h e f inv = ap (λ o. or_else o (started own (drop (suc i) takes) (drop (suc i) stack))) f ∙ sym (started_at own takes stack i d t h e) ∙ inv

pub started_more : (own : ℕ) (takes : List Want) (stack : List VType) (i : ℕ) (d : Want) (t : VType) (whole : Option (VType × ℕ)) → i < length takes → slice_get stack i ≡ Some t
    → None ≡ started own (slice_index_or takes i d ∷ []) (t ∷ []) → started own (drop i takes) (drop i stack) ≡ whole
    → started own (drop (suc i) takes) (drop (suc i) stack) ≡ whole
started_more own takes stack i d t whole h e f inv = ap (λ o. or_else o (started own (drop (suc i) takes) (drop (suc i) stack))) f ∙ sym (started_at own takes stack i d t h e) ∙ inv

-- ---- where the values that are taken are of the types that are asked for, it is uninitialised

second : (a b : Bool) → (a || b) ≡ false → b ≡ false
second true b e = absurd (cc)
second false b e = e

first : (a b : Bool) → (a || b) ≡ false → a ≡ false
first true b e = absurd (cc)
first false b e = refl

taken_known : (m : MethodInfo) (wants : List Want) (ts : List VType) → some_taken (λ want t. not (suits m want t)) wants ts ≡ false → IfSome (started m.class wants ts) (λ o. is_uninitialised o.0 ≡ true)
taken_known m [] ts e = tt
taken_known m (ToStart class ∷ wants) [] e = tt
taken_known m (ToStart class ∷ wants) (This ∷ ts) e = refl
taken_known m (ToStart class ∷ wants) (New pc ∷ ts) e = refl
taken_known m (ToStart class ∷ wants) (t ∷ ts) e = absurd (cc)
taken_known m (want ∷ wants) [] e = tt
taken_known m (want ∷ wants) (t ∷ ts) e = taken_known m wants ts (second (not (suits m want t)) (some_taken (λ want t. not (suits m want t)) wants ts) e)

pub object_known : (m : MethodInfo) (r : OpRow) (f : TypeFrame) → mistypes m r f ≡ false → IfSome (started m.class r.takes f.stack) (λ o. is_uninitialised o.0 ≡ true)
object_known m r f e = taken_known m r.takes f.stack (first (some_taken (λ want t. not (suits m want t)) r.takes f.stack) (some_read (λ want t. not (suits m want t)) r.reads f.locals) e)

-- ---- the frame after an instruction, made of its stack and first locals

pub after_made : (m : MethodInfo) (r : OpRow) (f : TypeFrame) (object : Option (VType × ℕ)) (takes : List Want) (stack locals stack' locals' : List VType) (ready after : Bool) (n : ℕ)
    → object ≡ started m.class takes f.stack → takes ≡ r.takes → stack ≡ stack_after Top (λ t. t) r f.stack f.locals
    → filled (length f.locals) locals ≡ locals_after Top (λ t. t) r.writes f.stack f.locals → ready ≡ f.ready → n ≡ length f.locals
    → ((k : ℕ) → after_start object (record { stack = stack; locals = filled k locals; ready = ready }) ≡ record { stack = stack'; locals = filled k locals'; ready = after })
    → record { stack = stack'; locals = filled n locals'; ready = after } ≡ frame_after m r f
after_made m r f object takes stack locals stack' locals' ready after n eo et es el er en h =
    rw en (sym (h (length f.locals)) ∙ rw (eo, et, es, el, er) refl)
