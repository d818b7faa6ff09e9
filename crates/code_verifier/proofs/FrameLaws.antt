-- Frames by the first of their locals, with nothing known of the others.
use Rattle.std.proofs.Common.{◌≡◌, ℕ, zero, suc, ◌+◌, ◌-◌, ◌≤◌, min, Bool, true, false, not, List, [], ◌∷◌, ◌++◌, length, map, reverse, drop, replicate, Option, Some, refl, sym, ap, ◌∙◌, arith, ◌||◌, ◌&&◌, if◌then◌else◌, slice_set, slice_index_or}
use Rattle.std.proofs.Math.Bool.{or-false}
use Rattle.std.{specs.List.list_any, proofs.lemmas.List.{reverse-append, map-append, length-map, length-set, replicate-append-replicate}}
use Rattle.jvm_types.specs.CodeTable.{value_of, stack_after, locals_after}
use Rattle.jvm_types.specs.{Types.{TypeFrame, filled, is_uninitialised, is_new, same_type, same_ready, same_frame, all_pairs, meet, meets, meet_frames}, Verifying.{initialised, after_start}}
use Rattle.jvm_types.specs.declared.{op_row.{Given.{Given, TheVariants.{Fresh, Taken, Local}}, OpRow.OpRow}, typing.VType.{VType, TheVariants.{Int, Null, Ref, This, New, Top}}}
use Rattle.jvm_types.proofs.FilledLaws.{length_filled}

-- ---- whether some place has a property

or_comm : (a b : Bool) → (a || b) ≡ (b || a)
or_comm true true = refl
or_comm true false = refl
or_comm false true = refl
or_comm false false = refl

any_append : (p : VType → Bool) (xs ys : List VType) → list_any p (xs ++ ys) ≡ (list_any p xs || list_any p ys)
any_append p [] ys = refl
any_append p (x ∷ xs) ys = by_first (p x) (any_append p xs ys)
  where
    by_first : (b : Bool) → list_any p (xs ++ ys) ≡ (list_any p xs || list_any p ys) → (b || list_any p (xs ++ ys)) ≡ ((b || list_any p xs) || list_any p ys)
    by_first true e = refl
    by_first false e = e

pub any_reverse : (p : VType → Bool) (xs : List VType) → list_any p (reverse xs) ≡ list_any p xs
any_reverse p [] = refl
any_reverse p (x ∷ xs) = ap (λ l. list_any p l) (reverse-append (x ∷ []) xs) ∙ any_append p (reverse xs) (x ∷ []) ∙ ap (λ b. b || (p x || false)) (any_reverse p xs)
    ∙ ap (λ b. list_any p xs || b) (or-false (p x)) ∙ or_comm (list_any p xs) (p x)

any_unknown : (p : VType → Bool) → p Top ≡ false → (k : ℕ) → list_any p (replicate k Top) ≡ false
any_unknown p e zero = refl
any_unknown p e (suc k) = rw e (any_unknown p e k)

pub any_filled : (p : VType → Bool) → p Top ≡ false → (n : ℕ) (ts : List VType) → list_any p (filled n ts) ≡ list_any p ts
any_filled p e n ts = any_append p ts (replicate (n - length ts) Top) ∙ ap (λ b. list_any p ts || b) (any_unknown p e (n - length ts)) ∙ or-false (list_any p ts)

-- of a stack, by its slice with the top last, and of locals, by the first of them
pub any_stack : (p : VType → Bool) (slice stack : List VType) → reverse slice ≡ stack → list_any p slice ≡ list_any p stack
any_stack p slice stack e = sym (any_reverse p slice) ∙ ap (λ l. list_any p l) e

pub any_locals : (p : VType → Bool) → p Top ≡ false → (slice locals : List VType) → filled (length locals) slice ≡ locals → list_any p slice ≡ list_any p locals
any_locals p u slice locals e = sym (any_filled p u (length locals) slice) ∙ ap (λ l. list_any p l) e

pub uninitialised_stack : (slice stack : List VType) → reverse slice ≡ stack → list_any is_uninitialised slice ≡ list_any is_uninitialised stack
uninitialised_stack slice stack e = any_stack is_uninitialised slice stack e

pub uninitialised_locals : (slice locals : List VType) → filled (length locals) slice ≡ locals → list_any is_uninitialised slice ≡ list_any is_uninitialised locals
uninitialised_locals slice locals e = any_locals is_uninitialised refl slice locals e

pub new_locals : (slice locals : List VType) → filled (length locals) slice ≡ locals → list_any is_new slice ≡ list_any is_new locals
new_locals slice locals e = any_locals is_new refl slice locals e

-- ---- where two meet

meets_unknown : (k : ℕ) (us : List VType) → length us ≡ k → meets (replicate k Top) us ≡ replicate k Top
meets_unknown zero us e = refl
meets_unknown (suc k) [] e = absurd (omega (arith, e))
meets_unknown (suc k) (u ∷ us) e = ap (λ l. Top ∷ l) (meets_unknown k us (omega (arith, e)))

meets_first : (ts us : List VType) (k : ℕ) → length us ≡ length ts + k → meets (ts ++ replicate k Top) us ≡ meets ts us ++ replicate k Top
meets_first [] us k e = meets_unknown k us (omega (arith, e))
meets_first (t ∷ ts) [] k e = absurd (omega (arith, e))
meets_first (t ∷ ts) (u ∷ us) k e = ap (λ l. meet t u ∷ l) (meets_first ts us k (omega (arith, e)))

pub length_meets : (ts us : List VType) → length ts ≤ length us → length (meets ts us) ≡ length ts
length_meets [] us e = refl
length_meets (t ∷ ts) [] e = absurd (omega (arith, e))
length_meets (t ∷ ts) (u ∷ us) e = ap suc (length_meets ts us (omega (arith, e)))

same_unknown : (k : ℕ) → all_pairs same_type (replicate k Top) (replicate k Top) ≡ true
same_unknown zero = refl
same_unknown (suc k) = same_unknown k

same_first : (ts us : List VType) (k : ℕ) → length ts ≡ length us → all_pairs same_type (ts ++ replicate k Top) (us ++ replicate k Top) ≡ all_pairs same_type ts us
same_first [] [] k e = same_unknown k
same_first [] (u ∷ us) k e = absurd (omega (arith, e))
same_first (t ∷ ts) [] k e = absurd (omega (arith, e))
same_first (t ∷ ts) (u ∷ us) k e = ap (λ b. same_type t u && b) (same_first ts us k (omega (arith, e)))

short : (n : ℕ) (ts us : List VType) → length us ≡ length (filled n ts) → length ts ≤ length us
short n ts us e = omega (arith, e, length_filled n ts)

pub meets_filled : (n : ℕ) (ts us : List VType) → length us ≡ length (filled n ts) → meets (filled n ts) us ≡ filled n (meets ts us)
meets_filled n ts us e =
    let others : length us ≡ length ts + (n - length ts) = omega (arith, e, length_filled n ts) in
    meets_first ts us (n - length ts) others ∙ ap (λ k. meets ts us ++ replicate (n - k) Top) (sym (length_meets ts us (short n ts us e)))

pub same_filled : (n : ℕ) (ts us : List VType) → length us ≡ length (filled n ts) → all_pairs same_type (filled n ts) (filled n (meets ts us)) ≡ all_pairs same_type ts (meets ts us)
same_filled n ts us e =
    let long : length (meets ts us) ≡ length ts = length_meets ts us (short n ts us e) in
    ap (λ k. all_pairs same_type (filled n ts) (meets ts us ++ replicate (n - k) Top)) long ∙ same_first ts (meets ts us) (n - length ts) (sym long)

-- the frame where two meet, made of the stack and of the first locals
pub frames_met : (frame other : TypeFrame) (n : ℕ) (first met_locals met_stack : List VType) (ready : Bool) → n ≡ length frame.locals → length frame.locals ≡ length other.locals → filled (length frame.locals) first ≡ frame.locals
    → met_stack ≡ meets frame.stack other.stack → met_locals ≡ meets first other.locals → ready ≡ (frame.ready && other.ready)
    → record { stack = met_stack; locals = filled n met_locals; ready = ready } ≡ meet_frames frame other
frames_met frame other n first met_locals met_stack ready en long ef es el er =
    let others : length other.locals ≡ length (filled (length frame.locals) first) = sym long ∙ ap length (sym ef) in
    let locals : filled (length frame.locals) (meets first other.locals) ≡ meets frame.locals other.locals = sym (meets_filled (length frame.locals) first other.locals others) ∙ ap (λ l. meets l other.locals) ef in
    rw (en, es, el, er, locals) refl

told_by : (s l w o : Bool) → ((not s || not l) || (w && not (w && o))) ≡ not (s && l && same_ready w (w && o))
told_by true true true true = refl
told_by true true true false = refl
told_by true true false o = refl
told_by true false true o = refl
told_by true false false o = refl
told_by false l true o = refl
told_by false l false o = refl

-- and whether that is another than the first
pub frames_told : (frame other : TypeFrame) (first : List VType) (a b was both : Bool) → length frame.locals ≡ length other.locals → filled (length frame.locals) first ≡ frame.locals
    → a ≡ not (all_pairs same_type frame.stack (meets frame.stack other.stack)) → b ≡ not (all_pairs same_type first (meets first other.locals)) → was ≡ frame.ready → both ≡ other.ready
    → ((a || b) || (was && not (was && both))) ≡ not (same_frame frame (meet_frames frame other))
frames_told frame other first a b was both long ef ea eb ew eo =
    let others : length other.locals ≡ length (filled (length frame.locals) first) = sym long ∙ ap length (sym ef) in
    let locals : all_pairs same_type first (meets first other.locals) ≡ all_pairs same_type frame.locals (meets frame.locals other.locals) =
    sym (same_filled (length frame.locals) first other.locals others) ∙ ap (λ l. all_pairs same_type (filled (length frame.locals) first) l) (sym (meets_filled (length frame.locals) first other.locals others))
    ∙ ap (λ l. all_pairs same_type l (meets l other.locals)) ef in
    rw (ea, eb, ew, eo, locals) (told_by (all_pairs same_type frame.stack (meets frame.stack other.stack)) (all_pairs same_type frame.locals (meets frame.locals other.locals)) frame.ready other.ready)

-- ---- where an `<init>` is called

initialised_unknown : (object : VType) (class : ℕ) → same_type object Top ≡ false → (k : ℕ) → initialised object class (replicate k Top) ≡ replicate k Top
initialised_unknown object class e zero = refl
initialised_unknown object class e (suc k) = rw e (ap (λ l. Top ∷ l) (initialised_unknown object class e k))

pub initialised_filled : (object : VType) (class n : ℕ) (ts : List VType) → same_type object Top ≡ false → initialised object class (filled n ts) ≡ filled n (initialised object class ts)
initialised_filled object class n ts e =
    map-append (λ u. if same_type object u then Ref class else u) ts (replicate (n - length ts) Top)
    ∙ ap (λ l. initialised object class ts ++ l) (initialised_unknown object class e (n - length ts))
    ∙ ap (λ k. initialised object class ts ++ replicate (n - k) Top) (sym (length-map ts (λ u. if same_type object u then Ref class else u)))

known : (object : VType) → is_uninitialised object ≡ true → same_type object Top ≡ false
known This e = refl
known (New pc) e = refl
known Int e = absurd (cc)
known Null e = absurd (cc)
known (Ref class) e = absurd (cc)
known Top e = absurd (cc)

pub object_started : (object : VType) (class : ℕ) (stack locals stack' locals' : List VType) (ready after : Bool) → is_uninitialised object ≡ true
    → stack' ≡ initialised object class stack → locals' ≡ initialised object class locals → after ≡ (ready || same_type object This)
    → (n : ℕ) → after_start (Some (object, class)) (record { stack = stack; locals = filled n locals; ready = ready }) ≡ record { stack = stack'; locals = filled n locals'; ready = after }
object_started object class stack locals stack' locals' ready after u es el ea n = rw (es, el, ea, initialised_filled object class n locals (known object u)) refl

-- ---- where a local is written

append_assoc : (xs ys zs : List VType) → (xs ++ ys) ++ zs ≡ xs ++ (ys ++ zs)
append_assoc [] ys zs = refl
append_assoc (x ∷ xs) ys zs = ap (λ l. x ∷ l) (append_assoc xs ys zs)

pub filled_more : (n count : ℕ) (ts : List VType) → count ≤ n → filled n (filled count ts) ≡ filled n ts
filled_more n count ts h =
    let all : (count - length ts) + (n - length (filled count ts)) ≡ n - length ts = omega (arith, h, length_filled count ts) in
    append_assoc ts (replicate (count - length ts) Top) (replicate (n - length (filled count ts)) Top)
    ∙ ap (λ l. ts ++ l) (replicate-append-replicate (count - length ts) (n - length (filled count ts)) Top) ∙ ap (λ k. ts ++ replicate k Top) all

-- the value of a place that is not among the first locals is that of one of which nothing is known
index_unknown : (k i : ℕ) → slice_index_or (replicate k Top) i Top ≡ Top
index_unknown zero i = refl
index_unknown (suc k) zero = refl
index_unknown (suc k) (suc i) = index_unknown k i

index_filled : (ts : List VType) (k i : ℕ) → slice_index_or (ts ++ replicate k Top) i Top ≡ slice_index_or ts i Top
index_filled [] k i = index_unknown k i
index_filled (t ∷ ts) k zero = refl
index_filled (t ∷ ts) k (suc i) = index_filled ts k i

value_known : (n : ℕ) (stack first : List VType) (given : Given) → value_of Top (λ t. t) stack first given ≡ value_of Top (λ t. t) stack (filled n first) given
value_known n stack first (Fresh t) = refl
value_known n stack first (Taken place) = refl
value_known n stack first (Local i) = sym (index_filled first (n - length first) i)

values_known : (n : ℕ) (stack first : List VType) (gives : List Given) → map (value_of Top (λ t. t) stack first) gives ≡ map (value_of Top (λ t. t) stack (filled n first)) gives
values_known n stack first [] = refl
values_known n stack first (given ∷ gives) =
    ap (λ t. t ∷ map (value_of Top (λ t. t) stack first) gives) (value_known n stack first given)
    ∙ ap (λ ts. value_of Top (λ t. t) stack (filled n first) given ∷ ts) (values_known n stack first gives)

pub stack_known : (r : OpRow) (stack first locals : List VType) → filled (length locals) first ≡ locals → stack_after Top (λ t. t) r stack first ≡ stack_after Top (λ t. t) r stack locals
stack_known r stack first locals e =
    ap (λ ts. ts ++ drop (length r.takes) stack) (values_known (length locals) stack first r.gives) ∙ ap (λ l. stack_after Top (λ t. t) r stack l) e

set_first : (ts : List VType) (i k : ℕ) (t : VType) → min (suc i) (length ts + k) ≤ length ts → slice_set (ts ++ replicate k Top) i t ≡ slice_set ts i t ++ replicate k Top
set_first [] i zero t h = refl
set_first [] i (suc k) t h = absurd (omega (arith, h))
set_first (x ∷ xs) zero k t h = refl
set_first (x ∷ xs) (suc i) k t h = ap (λ l. x ∷ l) (set_first xs i k t (omega (arith, h)))

set_filled : (n : ℕ) (ts : List VType) (i : ℕ) (t : VType) → min (suc i) n ≤ length ts → slice_set (filled n ts) i t ≡ filled n (slice_set ts i t)
set_filled n ts i t h = set_first ts i (n - length ts) t (omega (arith, h)) ∙ ap (λ k. slice_set ts i t ++ replicate (n - k) Top) (sym (length-set ts i t))

-- a local is written among the first of them, or is none of them
pub local_written : (writes : Option (ℕ × Given)) (stack locals first : List VType) (i : ℕ) (given : Given) → writes ≡ Some (i, given) → filled (length locals) first ≡ locals → min (suc i) (length locals) ≤ length first
    → filled (length locals) (locals_after Top (λ t. t) writes stack first) ≡ locals_after Top (λ t. t) writes stack locals
local_written writes stack locals first i given ew ef h =
    rw ew (
    sym (set_filled (length locals) first i (value_of Top (λ t. t) stack first given) h)
    ∙ ap (λ t. slice_set (filled (length locals) first) i t) (value_known (length locals) stack first given)
    ∙ ap (λ l. slice_set l i (value_of Top (λ t. t) stack l given)) ef
    )
