-- What the rules say where none is broken.
use Rattle.std.proofs.Common.{◌≡◌, ℕ, zero, suc, ◌+◌, ◌<◌, ◌≤◌, Bool, true, false, not, ◌||◌, List, [], ◌∷◌, ◌++◌, length, map, reverse, take, Option, Some, None, refl, sym, ap, ◌∙◌, subst, arith, length-append, nat_lt, nat_le, slice_get}
use Rattle.std.proofs.lemmas.{Bool.{and_from, leb-false, ltb-false, not-false, or_parts}, List.{length-map, length-reverse}}
use Rattle.jvm_types.specs.{CodeTable.{type_of, want_of, arguments, returned_want, row}, Types.{TypeFrame, is_below, all_pairs}}
use Rattle.jvm_types.specs.Verifying.{takes_too_many, gives_too_many, lacks_locals, misuses_object, mistypes, misuses, suits, some_taken, some_read, is_fault_at_local, some_operand, names_no_local, returns_wrongly, falls_off}
use Rattle.jvm_types.specs.declared.{code.{Insn.Insn, Op.Op}, op_row.{OpRow.OpRow, Want.{Want, TheVariants.AnInt}}, program.{Kind.Kind, MethodInfo.MethodInfo, Program.Program, Target.Target}}
use Rattle.jvm_types.specs.declared.{refusal.VRule.TheVariants.{V1, V2, V3, V4, V6, V7, V8}, typing.VType.VType}
use Rattle.laws_programs.{specs.RuleLaws.{RulesHold, UnbrokenHold, TakenAreGood, ReadIsGood, ArgumentsSuit, ReceiverIsGood, ReturnsTop, ReturnsWell, ReturnsSuit}, proofs.FrameBounds.unbroken}
use Rattle.jvm_types.specs.declared.code.Op.TheVariants as ops
use Rattle.jvm_types.specs.declared.program.Kind.TheVariants as kinds

-- ---- the rules

pub hold : UnbrokenHold
hold m insn r f e =
    let one = unbroken (takes_too_many r f) V1 ((gives_too_many m r f, V2) ∷ (lacks_locals m r f, V3) ∷ (misuses_object m insn r f, V7) ∷ (mistypes m r f, V4) ∷ []) e in
    let two = unbroken (gives_too_many m r f) V2 ((lacks_locals m r f, V3) ∷ (misuses_object m insn r f, V7) ∷ (mistypes m r f, V4) ∷ []) one.1 in
    let three = unbroken (lacks_locals m r f) V3 ((misuses_object m insn r f, V7) ∷ (mistypes m r f, V4) ∷ []) two.1 in
    let four = unbroken (misuses_object m insn r f) V7 ((mistypes m r f, V4) ∷ []) three.1 in
    let five = unbroken (mistypes m r f) V4 [] four.1 in
    record { takes = one.0; gives = two.0; locals = three.0; objects = four.0; types = five.0 }

-- V7's first case
operands_free : (a b c d : Bool) → (a || b || c || d) ≡ false → a ≡ false
operands_free true b c d h = absurd (cc)
operands_free false b c d h = refl

pub unmisused : (m : MethodInfo) (insn : Insn) (r : OpRow) (f : TypeFrame) → RulesHold m insn r f → some_operand (misuses m) r f ≡ false
unmisused m insn r f rules = operands_free _ _ _ _ rules.objects

-- ---- values that are taken

tall : (r : OpRow) (f : TypeFrame) → takes_too_many r f ≡ false → length r.takes ≤ length f.stack
tall r f e = ltb-false (length f.stack) (length r.takes) e

-- a value for each that is asked for
value_at : (wants : List Want) (ts : List VType) (k : ℕ) (want : Want) → length wants ≤ length ts → slice_get wants k ≡ Some want → (t : VType) × (slice_get ts k ≡ Some t)
value_at (w ∷ wants) (t ∷ ts) zero want h e = (t, refl)
value_at (w ∷ wants) (t ∷ ts) (suc k) want h e = value_at wants ts k want (omega (arith, h)) e
value_at wants ts k want h e = absurd (first_of (cc, omega (arith, h)))

taken_fine : (fault : Want → VType → Bool) (wants : List Want) (ts : List VType) (k : ℕ) (want : Want) (t : VType) → some_taken fault wants ts ≡ false → slice_get wants k ≡ Some want → slice_get ts k ≡ Some t → fault want t ≡ false
taken_fine fault (w ∷ wants) (u ∷ ts) zero want t h e f =
    let a : w ≡ want = cc in
    let b : u ≡ t = cc in
    ap (λ (x : Want). fault x t) (sym a) ∙ ap (λ (x : VType). fault w x) (sym b) ∙ (or_parts (fault w u) (some_taken fault wants ts) h).0
taken_fine fault (w ∷ wants) (u ∷ ts) (suc k) want t h e f = taken_fine fault wants ts k want t (or_parts (fault w u) (some_taken fault wants ts) h).1 e f
taken_fine fault wants ts k want t h e f = absurd (cc)

-- the values that are taken are without a fault where the operands are
some_taken_free : (fault : Want → VType → Bool) (r : OpRow) (f : TypeFrame) → some_operand fault r f ≡ false → some_taken fault r.takes f.stack ≡ false
some_taken_free fault r f e = (or_parts (some_taken fault r.takes f.stack) (some_read fault r.reads f.locals) e).0

pub taken_good : TakenAreGood
taken_good m insn r f k want rules e =
    let at = value_at r.takes f.stack k want (tall r f rules.takes) e in (
      at.0,
      at.1,
      (
        not-false (suits m want at.0) (taken_fine (λ w t. not (suits m w t)) r.takes f.stack k want at.0 (some_taken_free (λ w t. not (suits m w t)) r f rules.types) e at.1),
        taken_fine (misuses m) r.takes f.stack k want at.0 (some_taken_free (misuses m) r f (unmisused m insn r f rules)) e at.1,
      ),
    )

-- ---- the local that is read

local_at : (ts : List VType) (i : ℕ) → i < length ts → (t : VType) × (slice_get ts i ≡ Some t)
local_at [] i h = absurd (omega (arith, h))
local_at (t ∷ ts) zero h = (t, refl)
local_at (t ∷ ts) (suc i) h = local_at ts i (omega (arith, h))

read_fine : (fault : Want → VType → Bool) (reads : Option (ℕ × Want)) (ts : List VType) (local : ℕ) (want : Want) (t : VType) → some_read fault reads ts ≡ false → reads ≡ Some (local, want)
    → slice_get ts local ≡ Some t → fault want t ≡ false
read_fine fault reads ts local want t h e g =
    subst (λ (o : Option VType). is_fault_at_local fault want o ≡ false) g (subst (λ (o : Option (ℕ × Want)). some_read fault o ts ≡ false) e h)

below_locals : (m : MethodInfo) (reads : Option (ℕ × Want)) (local : ℕ) (want : Want) → reads ≡ Some (local, want) → names_no_local m reads ≡ false → local < m.max_locals
below_locals m reads local want e h =
    let there : nat_le m.max_locals local ≡ false = subst (λ (o : Option (ℕ × Want)). names_no_local m o ≡ false) e h in
    leb-false m.max_locals local there

pub read_good : ReadIsGood
read_good m insn r f local want rules long e =
    let within = below_locals m r.reads local want e (or_parts (names_no_local m r.reads) (names_no_local m r.writes) (or_parts (names_no_local m r.reads || names_no_local m r.writes) (nat_lt m.max_locals (length f.locals)) rules.locals).0).0 in
    let at = local_at f.locals local (omega (arith, within, long)) in
    let types = (or_parts (some_taken (λ w t. not (suits m w t)) r.takes f.stack) (some_read (λ w t. not (suits m w t)) r.reads f.locals) rules.types).1 in
    let objects = (or_parts (some_taken (misuses m) r.takes f.stack) (some_read (misuses m) r.reads f.locals) (unmisused m insn r f rules)).1 in (
      at.0,
      at.1,
      (
        not-false (suits m want at.0) (read_fine (λ w t. not (suits m w t)) r.reads f.locals local want at.0 types e at.1),
        read_fine (misuses m) r.reads f.locals local want at.0 objects e at.1,
      ),
    )

-- ---- the arguments of a call

kind_suits : (m : MethodInfo) (kind : Kind) (t : VType) → suits m (want_of kind) t ≡ true → is_below t (type_of kind) ≡ true
kind_suits m kinds.Int t e = e
kind_suits m kind t e = e

wanted_suit : (m : MethodInfo) (ks : List Kind) (more : List Want) (ts : List VType) → length ks ≤ length ts → some_taken (λ w t. not (suits m w t)) (map want_of ks ++ more) ts ≡ false
    → all_pairs is_below (take (length ks) ts) (map type_of ks) ≡ true
wanted_suit m [] more ts h e = refl
wanted_suit m (kind ∷ ks) more [] h e = absurd (omega (arith, h))
wanted_suit m (kind ∷ ks) more (t ∷ ts) h e =
    let parts = or_parts (not (suits m (want_of kind) t)) (some_taken (λ w t. not (suits m w t)) (map want_of ks ++ more) ts) e in
    and_from (is_below t (type_of kind)) (all_pairs is_below (take (length ks) ts) (map type_of ks)) (kind_suits m kind t (not-false (suits m (want_of kind) t) parts.0)) (wanted_suit m ks more ts (omega (arith, h)) parts.1)

as_many : (called : MethodInfo) (more : List Want) → length (arguments called ++ more) ≡ length called.args + length more
as_many called more = length-append (arguments called) more ∙ ap (λ n. n + length more) (length-map (reverse called.args) want_of ∙ length-reverse called.args)

pub arguments_suit_all : ArgumentsSuit
arguments_suit_all m called insn r f receiver rules e =
    let few : length (reverse called.args) ≤ length f.stack = omega (arith, tall r f rules.takes, ap length e, as_many called receiver, length-reverse called.args) in
    let fine : some_taken (λ w t. not (suits m w t)) (arguments called ++ receiver) f.stack ≡ false =
    subst (λ (ws : List Want). some_taken (λ w t. not (suits m w t)) ws f.stack ≡ false) e (some_taken_free (λ w t. not (suits m w t)) r f rules.types) in
    subst (λ (n : ℕ). all_pairs is_below (take n f.stack) (map type_of (reverse called.args)) ≡ true) (length-reverse called.args) (wanted_suit m (reverse called.args) receiver f.stack few fine)

last_is : (xs : List Want) (want : Want) → slice_get (xs ++ want ∷ []) (length xs) ≡ Some want
last_is [] want = refl
last_is (x ∷ xs) want = last_is xs want

pub receiver_good : ReceiverIsGood
receiver_good m called insn r f want rules e =
    let many : length (arguments called) ≡ length called.args = length-map (reverse called.args) want_of ∙ length-reverse called.args in
    taken_good m insn r f (length called.args) want rules
    (ap (λ (ws : List Want). slice_get ws (length called.args)) e ∙ subst (λ (n : ℕ). slice_get (arguments called ++ want ∷ []) n ≡ Some want) many (last_is (arguments called) want))

-- ---- returns

int_result : (o : Option Kind) → returns_wrongly ops.Ireturn o ≡ false → (kind : Kind) × (o ≡ Some kind) × (want_of kind ≡ AnInt)
int_result (Some kinds.Int) e = (kinds.Int, refl, refl)
int_result (Some kinds.Bool) e = (kinds.Bool, refl, refl)
int_result o e = absurd (cc)

object_result : (o : Option Kind) → returns_wrongly ops.Areturn o ≡ false → (kind : Kind) × (o ≡ Some kind) × (want_of kind ≡ returned_want o)
object_result (Some (kinds.Ref class)) e = (kinds.Ref class, refl, refl)
object_result o e = absurd (cc)

no_result : (o : Option Kind) → returns_wrongly ops.Return o ≡ false → o ≡ None
no_result None e = refl
no_result (Some kind) e = absurd (cc)

top_suits : (m : MethodInfo) (insn : Insn) (r : OpRow) (f : TypeFrame) (want : Want) → RulesHold m insn r f → r.takes ≡ want ∷ [] → (kind : Kind) × (m.result ≡ Some kind) × (want_of kind ≡ want) → ReturnsTop m f.stack
top_suits m insn r f want rules e k =
    let at = taken_good m insn r f 0 want rules (ap (λ (ws : List Want). slice_get ws 0) e) in
    record { kind = k.0; type = at.0; described = k.1; top = at.1; fits = kind_suits m k.0 at.0 (ap (λ (w : Want). suits m w at.0) k.2 ∙ at.2.0) }

by_op : (p : Program) (m : MethodInfo) (pc next : ℕ) (target : Target) (f : TypeFrame) (op : Op) → RulesHold m (record { pc = pc; next = next; op = op }) (row p m pc target op) f
    → returns_wrongly op m.result ≡ false → ReturnsWell m op f.stack
by_op p m pc next target f ops.Return rules e = no_result m.result e
by_op p m pc next target f ops.Ireturn rules e = top_suits m (record { pc = pc; next = next; op = ops.Ireturn }) (row p m pc target ops.Ireturn) f AnInt rules refl (int_result m.result e)
by_op p m pc next target f ops.Areturn rules e = top_suits m (record { pc = pc; next = next; op = ops.Areturn }) (row p m pc target ops.Areturn) f (returned_want m.result) rules refl (object_result m.result e)
by_op p m pc next target f op rules e = tt

pub returns_suit_all : ReturnsSuit
returns_suit_all p m insn target f rules e =
    by_op p m insn.pc insn.next target f insn.op rules (unbroken (returns_wrongly insn.op m.result) V8 ((falls_off m.code insn, V6) ∷ []) e).0
