-- Which fields the checks of one instruction put out: those whose colours an edge does not bring, and those that it takes or
-- stores otherwise than an owned one.
use Rattle.std.proofs.Common.{◌≡◌, ◌<◌, ◌≢◌, ℕ, zero, suc, Bool, true, false, List, [], ◌∷◌, length, map, Option, Some, None, refl, sym, ap, ◌∙◌, subst, arith, ⊎_elim, ◌⊎◌, inl, inr, ◌==◌, ◌&&◌, ◌||◌, not, if◌then◌else◌, slice_get, slice_index_or}
use Rattle.std.proofs.lemmas.{Bool.{cases_eq, eqb-true, eq-eqb, or_left, or_right, true≢false, Decides.nat_tests}, List.length-map, Option.same_Some}
use Rattle.jvm_types.specs.{Numbers.has_number, Verifying.edges, declared.{code.{Insn.Insn, Op.Op}, op_row.OpRow.OpRow, program.{MethodInfo.MethodInfo, Program.Program, Target.Target}}}
use Rattle.code_table.specs.PcTables.{number_at}
use Rattle.checked_program.specs.{FrozenPlaces.{is_field_of, stands_guarded}, LockTags.{TagShape, is_this}, OwnedArrays.may_take_array, Tagging.catchers, declared.tag.Tag.TheVariants.Untagged}
use Rattle.guard_analysis.specs.{ColourVisits.{is_array_field, field_colours_after, same_colour, is_colour_of, of_field, colour_at}, FieldUses.{writes_guarded, field_noted}}
use Rattle.guard_analysis.specs.OwnedFound.{named_by, colour_out, differ_out, compared_before, compared, compared_with, compared_at, compared_each, colours_of, class_out, taken_before, stores_new, used_out, insn_out, handlers_of}
use Rattle.guard_analysis.{specs.declared.colouring.Colour.{Colour, TheVariants.{Plain, Of}}, proofs.FlagsPut.{Puts, puts_none, puts_then, puts_so, puts_noted, puts_if, puts_unless, puts_class}}
use Rattle.jvm_types.specs.declared.code.Op.TheVariants as ops
use Rattle.jvm_types.specs.declared.program.Target.TheVariants as targets

-- ---- two places

abbrev pub Differs : (fi : ℕ) → Colour → Colour → Type 0
Differs fi c d = is_colour_of fi c ≡ is_colour_of fi d → ⊥

abbrev NamesOne : (fi : ℕ) → Colour → Colour → Type 0
NamesOne fi c d = (same_colour c d ≡ false) × ((named_by c ≡ Some fi) ⊎ (named_by d ≡ Some fi))

own_test : (x fi : ℕ) → Some x ≡ Some fi → (x == fi) ≡ true
own_test x fi e = eq-eqb x fi (same_Some x fi e)

differs_so : (fi : ℕ) (c d : Colour) → NamesOne fi c d → Differs fi c d
differs_so fi Plain Plain h = absurd (true≢false h.0)
differs_so fi Plain (Of y) (s, inl e) = absurd (cc)
differs_so fi Plain (Of y) (s, inr e) = λ same. true≢false (sym (own_test y fi e) ∙ sym same)
differs_so fi (Of x) Plain (s, inl e) = λ same. true≢false (sym (own_test x fi e) ∙ same)
differs_so fi (Of x) Plain (s, inr e) = absurd (cc)
differs_so fi (Of x) (Of y) (s, inl e) = λ same.
    let this : x ≡ fi = same_Some x fi e in
    let other : y ≡ fi = eqb-true y fi (sym same ∙ own_test x fi e) in
    true≢false (sym (eq-eqb x y (this ∙ sym other)) ∙ s)
differs_so fi (Of x) (Of y) (s, inr e) = λ same.
    let this : y ≡ fi = same_Some y fi e in
    let other : x ≡ fi = eqb-true x fi (same ∙ own_test y fi e) in
    true≢false (sym (eq-eqb x y (other ∙ sym this)) ∙ s)

names_by : (x fi : ℕ) (t : Bool) → (x == fi) ≡ t → (t ≡ false → ⊥) → Some x ≡ Some fi
names_by x fi true e h = ap (λ (n : ℕ). Some n) (eqb-true x fi e)
names_by x fi false e h = absurd (h refl)

names_so : (fi : ℕ) (c d : Colour) → Differs fi c d → NamesOne fi c d
names_so fi Plain Plain h = absurd (h refl)
names_so fi Plain (Of y) h = (refl, inr (names_by y fi (y == fi) refl (λ e. h (sym e))))
names_so fi (Of x) Plain h = (refl, inl (names_by x fi (x == fi) refl (λ e. h e)))
names_so fi (Of x) (Of y) h = by_tests (x == fi) (y == fi) refl refl
  where
    apart : (b : Bool) → (x == y) ≡ b → (x == y) ≡ false
    apart false e = e
    apart true e = absurd (h (ap (λ (n : ℕ). n == fi) (eqb-true x y e)))

    by_tests : (s t : Bool) → (x == fi) ≡ s → (y == fi) ≡ t → NamesOne fi (Of x) (Of y)
    by_tests true t e f = (apart (x == y) refl, inl (ap (λ (n : ℕ). Some n) (eqb-true x fi e)))
    by_tests false true e f = (apart (x == y) refl, inr (ap (λ (n : ℕ). Some n) (eqb-true y fi f)))
    by_tests false false e f = absurd (h (e ∙ sym f))

pub puts_differ : (outs : List Bool) (c d : Colour) → Puts outs (differ_out outs c d) (λ fi. Differs fi c d)
puts_differ outs c d = puts_so outs (differ_out outs c d) (λ fi. NamesOne fi c d) (λ fi. Differs fi c d)
    (puts_unless (same_colour c d) outs (colour_out (colour_out outs c) d) (λ fi. (named_by c ≡ Some fi) ⊎ (named_by d ≡ Some fi))
    (puts_then outs (colour_out outs c) (colour_out (colour_out outs c) d) (λ fi. named_by c ≡ Some fi) (λ fi. named_by d ≡ Some fi) (puts_noted outs (named_by c)) (puts_noted (colour_out outs c) (named_by d))))
    (λ fi h. differs_so fi c d h) (λ fi h. names_so fi c d h)

-- ---- two frames

abbrev pub DiffersBefore : (fi : ℕ) → List Colour → List Colour → ℕ → Type 0
DiffersBefore fi cs ds n = (j : ℕ) × (j < n) × Differs fi (colour_at cs j) (colour_at ds j)

puts_before : (outs : List Bool) (cs ds : List Colour) (n : ℕ) → Puts outs (compared_before outs cs ds n) (λ fi. DiffersBefore fi cs ds n)
puts_before outs cs ds zero = puts_so outs outs (λ fi. ⊥) (λ fi. DiffersBefore fi cs ds 0) (puts_none outs) (λ fi x. absurd x) (λ fi x. omega (arith, x.1))
puts_before outs cs ds (suc n) = puts_so outs (compared_before outs cs ds (suc n)) (λ fi. DiffersBefore fi cs ds n ⊎ Differs fi (colour_at cs n) (colour_at ds n)) (λ fi. DiffersBefore fi cs ds (suc n))
    (puts_then outs (compared_before outs cs ds n) (compared_before outs cs ds (suc n)) (λ fi. DiffersBefore fi cs ds n) (λ fi. Differs fi (colour_at cs n) (colour_at ds n))
    (puts_before outs cs ds n) (puts_differ (compared_before outs cs ds n) (colour_at cs n) (colour_at ds n)))
    (λ fi x. ⊎_elim (λ (y : DiffersBefore fi cs ds n). (y.0, omega (arith, y.1), y.2)) (λ y. (n, omega arith, y)) x)
    (λ fi x. ⊎_elim (λ (q : x.0 ≡ n). inr (subst (λ (j : ℕ). Differs fi (colour_at cs j) (colour_at ds j)) q x.2)) (λ (q : x.0 ≢ n). inl (x.0, omega (arith, x.1, q), x.2)) (cases_eq x.0 n))

abbrev pub HaveNotOneColour : (fi : ℕ) → List Colour → List Colour → Type 0
HaveNotOneColour fi cs ds = of_field fi cs ≡ of_field fi ds → ⊥

-- lists of one length that differ differ at a place
differ_there : (fi : ℕ) (cs ds : List Colour) → length cs ≡ length ds → HaveNotOneColour fi cs ds → DiffersBefore fi cs ds (length cs)
differ_there fi [] [] l h = absurd (h refl)
differ_there fi [] (d ∷ ds) l h = absurd (omega (arith, l))
differ_there fi (c ∷ cs) [] l h = absurd (omega (arith, l))
differ_there fi (c ∷ cs) (d ∷ ds) l h = by_bits (is_colour_of fi c) (is_colour_of fi d) refl refl (λ k. differ_there fi cs ds (omega (arith, l)) k)
  where
    later : DiffersBefore fi cs ds (length cs) → DiffersBefore fi (c ∷ cs) (d ∷ ds) (suc (length cs))
    later x = (suc x.0, omega (arith, x.1), x.2)

    with_heads : (b : Bool) → is_colour_of fi c ≡ b → is_colour_of fi d ≡ b → of_field fi cs ≡ of_field fi ds → of_field fi (c ∷ cs) ≡ of_field fi (d ∷ ds)
    with_heads b e f k = ap (λ (x : Bool). x ∷ of_field fi cs) (e ∙ sym f) ∙ ap (λ (xs : List Bool). is_colour_of fi d ∷ xs) k

    by_bits : (s t : Bool) → is_colour_of fi c ≡ s → is_colour_of fi d ≡ t → (HaveNotOneColour fi cs ds → DiffersBefore fi cs ds (length cs)) → DiffersBefore fi (c ∷ cs) (d ∷ ds) (suc (length cs))
    by_bits true true e f more = later (more (λ k. h (with_heads true e f k)))
    by_bits false false e f more = later (more (λ k. h (with_heads false e f k)))
    by_bits true false e f more = (0, omega arith, λ k. true≢false (sym e ∙ k ∙ f))
    by_bits false true e f more = (0, omega arith, λ k. true≢false (sym f ∙ sym k ∙ e))

-- and that differ at a place differ
places_so : (fi j : ℕ) (cs ds : List Colour) → of_field fi cs ≡ of_field fi ds → is_colour_of fi (colour_at cs j) ≡ is_colour_of fi (colour_at ds j)
places_so fi j cs ds e = read j cs ∙ ap (λ (xs : List Bool). slice_index_or xs j false) e ∙ sym (read j ds)
  where
    read : (j : ℕ) (cs : List Colour) → is_colour_of fi (colour_at cs j) ≡ slice_index_or (of_field fi cs) j false
    read j [] = refl
    read zero (c ∷ cs) = refl
    read (suc j) (c ∷ cs) = read j cs

-- in a method of a class: they differ there, or have different depths and it is a field of the class
pub data IsOther (p : Program) (class fi : ℕ) (cs ds : List Colour) : Type 0 where
  coloured : length cs ≡ length ds → HaveNotOneColour fi cs ds → IsOther p class fi cs ds
  deeper : (length cs == length ds) ≡ false → is_field_of class (slice_get p.fields fi) ≡ true → IsOther p class fi cs ds

pub puts_compared : (p : Program) (class : ℕ) (outs : List Bool) (cs ds : List Colour) → Puts outs (compared p class outs cs ds) (λ fi. IsOther p class fi cs ds)
puts_compared p class outs cs ds = by_length (length cs == length ds) refl
  where
    before_there : (length cs == length ds) ≡ true → (fi : ℕ) → IsOther p class fi cs ds → DiffersBefore fi cs ds (length cs)
    before_there e fi (coloured l x) = differ_there fi cs ds l x
    before_there e fi (deeper d x) = absurd (true≢false (sym e ∙ d))

    class_there : (length cs == length ds) ≡ false → (fi : ℕ) → IsOther p class fi cs ds → is_field_of class (slice_get p.fields fi) ≡ true
    class_there e fi (coloured l x) = absurd (true≢false (sym (eq-eqb (length cs) (length ds) l) ∙ e))
    class_there e fi (deeper d x) = x

    by_length : (t : Bool) → (length cs == length ds) ≡ t → Puts outs (if t then compared_before outs cs ds (length cs) else class_out p class outs) (λ fi. IsOther p class fi cs ds)
    by_length true e = puts_so outs (compared_before outs cs ds (length cs)) (λ fi. DiffersBefore fi cs ds (length cs)) (λ fi. IsOther p class fi cs ds) (puts_before outs cs ds (length cs))
        (λ fi x. coloured (eqb-true (length cs) (length ds) e) (λ same. x.2 (places_so fi x.0 cs ds same))) (before_there e)
    by_length false e = puts_so outs (class_out p class outs) (λ fi. is_field_of class (slice_get p.fields fi) ≡ true) (λ fi. IsOther p class fi cs ds) (puts_class p class outs) (λ fi x. deeper e x) (class_there e)

-- ---- the frame that an edge brings, with the one that stands at its target

pub record BringsOther (p : Program) (m : MethodInfo) (frames : List (Option (List Colour))) (fi : ℕ) (cs : List Colour) (pc : ℕ) : Type 0 where
  pub there : List Colour
  pub is : colours_of frames (number_at m.code pc) ≡ Some (Some there)
  pub other : IsOther p m.class fi cs there

puts_with : (p : Program) (class : ℕ) (outs : List Bool) (cs : List Colour) (o : Option (Option (List Colour))) → Puts outs (compared_with p class outs cs o) (λ fi. (ds : List Colour) × (o ≡ Some (Some ds)) × IsOther p class fi cs ds)
puts_with p class outs cs (Some (Some ds)) = puts_so outs (compared p class outs cs ds) (λ fi. IsOther p class fi cs ds) (λ fi. (es : List Colour) × (Some (Some ds) ≡ Some (Some es)) × IsOther p class fi cs es) (puts_compared p class outs cs ds)
    (λ fi x. (ds, refl, x)) (λ fi x. let same : x.0 ≡ ds = sym (same_Some ds x.0 (same_Some (Some ds) (Some x.0) x.1)) in subst (λ (es : List Colour). IsOther p class fi cs es) same x.2)
puts_with p class outs cs (Some None) = puts_so outs outs (λ fi. ⊥) (λ fi. (ds : List Colour) × (Some None ≡ Some (Some ds)) × IsOther p class fi cs ds) (puts_none outs) (λ fi x. absurd x) (λ fi x. let e : Some None ≡ Some (Some x.0) = x.1 in cc)
puts_with p class outs cs None = puts_so outs outs (λ fi. ⊥) (λ fi. (ds : List Colour) × (None ≡ Some (Some ds)) × IsOther p class fi cs ds) (puts_none outs) (λ fi x. absurd x) (λ fi x. let e : None ≡ Some (Some x.0) = x.1 in cc)

puts_at : (p : Program) (m : MethodInfo) (frames : List (Option (List Colour))) (outs : List Bool) (cs : List Colour) (pc : ℕ) → Puts outs (compared_at p m frames outs cs pc) (λ fi. BringsOther p m frames fi cs pc)
puts_at p m frames outs cs pc = puts_so outs (compared_at p m frames outs cs pc) (λ fi. (ds : List Colour) × (colours_of frames (number_at m.code pc) ≡ Some (Some ds)) × IsOther p m.class fi cs ds) (λ fi. BringsOther p m frames fi cs pc)
    (puts_with p m.class outs cs (colours_of frames (number_at m.code pc))) (λ fi x. record { there = x.0; is = x.1; other = x.2 }) (λ fi x. (x.there, x.is, x.other))

abbrev pub BringsOtherTo : Program → MethodInfo → List (Option (List Colour)) → (fi : ℕ) → List Colour → List ℕ → Type 0
BringsOtherTo p m frames fi cs tos = (to : ℕ) × (has_number tos to ≡ true) × BringsOther p m frames fi cs to

pub puts_each : (p : Program) (m : MethodInfo) (frames : List (Option (List Colour))) (outs : List Bool) (cs : List Colour) (tos : List ℕ) → Puts outs (compared_each p m frames outs cs tos) (λ fi. BringsOtherTo p m frames fi cs tos)
puts_each p m frames outs cs [] = puts_so outs outs (λ fi. ⊥) (λ fi. BringsOtherTo p m frames fi cs []) (puts_none outs) (λ fi x. absurd x) (λ fi x. let e : false ≡ true = x.1 in cc)
puts_each p m frames outs cs (to ∷ tos) =
    let next : List Bool = compared_at p m frames outs cs to in
    puts_so outs (compared_each p m frames next cs tos) (λ fi. BringsOther p m frames fi cs to ⊎ BringsOtherTo p m frames fi cs tos) (λ fi. BringsOtherTo p m frames fi cs (to ∷ tos))
    (puts_then outs next (compared_each p m frames next cs tos) (λ fi. BringsOther p m frames fi cs to) (λ fi. BringsOtherTo p m frames fi cs tos) (puts_at p m frames outs cs to) (puts_each p m frames next cs tos))
    (λ fi x. ⊎_elim (λ (y : BringsOther p m frames fi cs to). (to, or_left (to == to) (has_number tos to) (eq-eqb to to refl), y)) (λ (y : BringsOtherTo p m frames fi cs tos). (y.0, or_right (to == y.0) (has_number tos y.0) y.1, y.2)) x)
    (λ fi x. by_test fi (to == x.0) refl x.1 x.2)
  where
    by_test : (fi : ℕ) {there : ℕ} (t : Bool) → (to == there) ≡ t → (to == there || has_number tos there) ≡ true → BringsOther p m frames fi cs there → BringsOther p m frames fi cs to ⊎ BringsOtherTo p m frames fi cs tos
    by_test fi {there = there} true e h b = inl (subst (λ (n : ℕ). BringsOther p m frames fi cs n) (sym (eqb-true to there e)) b)
    by_test fi {there = there} false e h b = inr (there, subst (λ (x : Bool). (x || has_number tos there) ≡ true) e h, b)

-- ---- the values that an instruction takes

abbrev pub TakesOther : Op → (fi : ℕ) → List Colour → ℕ → Type 0
TakesOther op fi stack n = (k : ℕ) × (k < n) × (may_take_array op k ≡ false) × (named_by (colour_at stack k) ≡ Some fi)

pub puts_taken : (outs : List Bool) (op : Op) (stack : List Colour) (n : ℕ) → Puts outs (taken_before outs op stack n) (λ fi. TakesOther op fi stack n)
puts_taken outs op stack zero = puts_so outs outs (λ fi. ⊥) (λ fi. TakesOther op fi stack 0) (puts_none outs) (λ fi x. absurd x) (λ fi x. omega (arith, x.1))
puts_taken outs op stack (suc n) =
    let before : List Bool = taken_before outs op stack n in
    puts_so outs (taken_before outs op stack (suc n)) (λ fi. TakesOther op fi stack n ⊎ ((may_take_array op n ≡ false) × (named_by (colour_at stack n) ≡ Some fi))) (λ fi. TakesOther op fi stack (suc n))
    (puts_then outs before (taken_before outs op stack (suc n)) (λ fi. TakesOther op fi stack n) (λ fi. (may_take_array op n ≡ false) × (named_by (colour_at stack n) ≡ Some fi)) (puts_taken outs op stack n)
    (puts_unless (may_take_array op n) before (colour_out before (colour_at stack n)) (λ fi. named_by (colour_at stack n) ≡ Some fi) (puts_noted before (named_by (colour_at stack n)))))
    (λ fi x. ⊎_elim (λ (y : TakesOther op fi stack n). (y.0, omega (arith, y.1), y.2, y.3)) (λ y. (n, omega arith, y.0, y.1)) x)
    (λ fi x. ⊎_elim (λ (q : x.0 ≡ n). inr (subst (λ (j : ℕ). (may_take_array op j ≡ false) × (named_by (colour_at stack j) ≡ Some fi)) q (x.2, x.3))) (λ (q : x.0 ≢ n). inl (x.0, omega (arith, x.1, q), x.2, x.3)) (cases_eq x.0 n))

-- ---- what an instruction does with the field itself

abbrev pub GetsOther : Program → (fi : ℕ) → (other : ℕ) → TagShape → Type 0
GetsOther p fi other f = ((is_array_field p other && not (is_this (slice_index_or f.stack 0 Untagged))) ≡ true) × (Some other ≡ Some fi)

abbrev pub PutsOther : Program → MethodInfo → (branched : List Bool) → (i fi other : ℕ) → TagShape → Type 0
PutsOther p m branched i fi other f = ((is_array_field p other && not (writes_guarded m f && stores_new m branched i)) ≡ true) × (Some other ≡ Some fi)

abbrev pub UsesOther : Program → MethodInfo → (branched : List Bool) → (i : ℕ) → Op → Target → TagShape → List Colour → (fi : ℕ) → Type 0
UsesOther p m branched i (ops.Getfield n) (targets.Field other) f stack fi = GetsOther p fi other f
UsesOther p m branched i (ops.Putfield n) (targets.Field other) f stack fi = PutsOther p m branched i fi other f
UsesOther p m branched i ops.Iastore target f stack fi = (stands_guarded m f ≡ false) × (named_by (colour_at stack 2) ≡ Some fi)
UsesOther p m branched i op target f stack fi = ⊥

pub puts_used : (p : Program) (m : MethodInfo) (branched : List Bool) (i : ℕ) (op : Op) (target : Target) (f : TagShape) (stack : List Colour) (outs : List Bool)
    → Puts outs (used_out p m branched i op target f stack outs) (λ fi. UsesOther p m branched i op target f stack fi)
puts_used p m branched i (ops.Getfield n) (targets.Field other) f stack outs = puts_if (is_array_field p other && not (is_this (slice_index_or f.stack 0 Untagged))) outs (field_noted outs (Some other)) (λ fi. Some other ≡ Some fi) (puts_noted outs (Some other))
puts_used p m branched i (ops.Putfield n) (targets.Field other) f stack outs = puts_if (is_array_field p other && not (writes_guarded m f && stores_new m branched i)) outs (field_noted outs (Some other)) (λ fi. Some other ≡ Some fi) (puts_noted outs (Some other))
puts_used p m branched i ops.Iastore target f stack outs = puts_unless (stands_guarded m f) outs (colour_out outs (colour_at stack 2)) (λ fi. named_by (colour_at stack 2) ≡ Some fi) (puts_noted outs (named_by (colour_at stack 2)))
puts_used p m branched i op target f stack outs = puts_none outs

-- ---- all that an instruction does

pub data InsnOther (p : Program) (m : MethodInfo) (branched : List Bool) (frames : List (Option (List Colour))) (i : ℕ) (insn : Insn) (target : Target) (r : OpRow) (f : TagShape) (stack : List Colour) (fi : ℕ) : Type 0 where
  uses : UsesOther p m branched i insn.op target f stack fi → InsnOther p m branched frames i insn target r f stack fi
  takes : TakesOther insn.op fi stack (length r.takes) → InsnOther p m branched frames i insn target r f stack fi
  onward : BringsOtherTo p m frames fi (field_colours_after p insn target r stack) (edges insn) → InsnOther p m branched frames i insn target r f stack fi
  caught : BringsOtherTo p m frames fi (Plain ∷ []) (handlers_of (catchers m insn)) → InsnOther p m branched frames i insn target r f stack fi

pub puts_insn : (p : Program) (m : MethodInfo) (branched : List Bool) (frames : List (Option (List Colour))) (i : ℕ) (insn : Insn) (target : Target) (r : OpRow) (f : TagShape) (stack : List Colour) (outs : List Bool)
    → Puts outs (insn_out p m branched frames i insn target r f stack outs) (λ fi. InsnOther p m branched frames i insn target r f stack fi)
puts_insn p m branched frames i insn target r f stack outs =
    let first : List Bool = used_out p m branched i insn.op target f stack outs in
    let second : List Bool = taken_before first insn.op stack (length r.takes) in
    let third : List Bool = compared_each p m frames second (field_colours_after p insn target r stack) (edges insn) in
    let last : List Bool = compared_each p m frames third (Plain ∷ []) (handlers_of (catchers m insn)) in
    let P : ℕ → Type 0 = UsesOther p m branched i insn.op target f stack in
    let Q : ℕ → Type 0 = λ fi. TakesOther insn.op fi stack (length r.takes) in
    let R : ℕ → Type 0 = λ fi. BringsOtherTo p m frames fi (field_colours_after p insn target r stack) (edges insn) in
    let S : ℕ → Type 0 = λ fi. BringsOtherTo p m frames fi (Plain ∷ []) (handlers_of (catchers m insn)) in
    puts_so outs last (λ fi. ((P fi ⊎ Q fi) ⊎ R fi) ⊎ S fi) (λ fi. InsnOther p m branched frames i insn target r f stack fi)
    (puts_then outs third last (λ fi. (P fi ⊎ Q fi) ⊎ R fi) S
    (puts_then outs second third (λ fi. P fi ⊎ Q fi) R (puts_then outs first second P Q (puts_used p m branched i insn.op target f stack outs) (puts_taken first insn.op stack (length r.takes)))
    (puts_each p m frames second (field_colours_after p insn target r stack) (edges insn)))
    (puts_each p m frames third (Plain ∷ []) (handlers_of (catchers m insn))))
    (λ fi x. ⊎_elim (λ y. ⊎_elim (λ z. ⊎_elim (λ u. uses u) (λ u. takes u) z) (λ z. onward z) y) (λ y. caught y) x)
    (λ fi x. parts fi x)
  where
    parts : (fi : ℕ) → InsnOther p m branched frames i insn target r f stack fi → ((UsesOther p m branched i insn.op target f stack fi ⊎ TakesOther insn.op fi stack (length r.takes)) ⊎ BringsOtherTo p m frames fi (field_colours_after p insn target r stack) (edges insn))
        ⊎ BringsOtherTo p m frames fi (Plain ∷ []) (handlers_of (catchers m insn))
    parts fi (uses u) = inl (inl (inl u))
    parts fi (takes u) = inl (inl (inr u))
    parts fi (onward u) = inl (inr u)
    parts fi (caught u) = inr u
