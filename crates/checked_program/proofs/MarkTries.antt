-- Marks of small programs: each mark, with the rules that go before it refuted.
use Rattle.std.proofs.{Common.{◌≡◌, ◌<◌, ℕ, Bool, true, false, [], ◌∷◌, Some, refl, sym, subst, arith, ◌==◌, ◌&&◌, ◌||◌, not, slice_index_or}, lemmas.Bool.{eqb-true, and_parts}}
use Rattle.std.{specs.List.AllZip, proofs.lemmas.Bool.Decides.nat_tests}
use Rattle.jvm_types.specs.declared.{code.Insn.Insn, program.{MethodInfo.MethodInfo, Target.Target}}
use Rattle.checked_program.specs.{LockTags.{TagShape, is_this}, OwnedArrays.reads_owned, Sections.{Section, sections, section_mode}, TaggedCode.{Tagged, IsAt}, declared.section.{Mode.Mode, Spot.Spot}}
use Rattle.checked_program.specs.Marks.{Callee, callee, called_method, receiver_tag, called_mode, section_fault, IsCalledBy, CallsItself, Applies, elsewhere, itself, called, recurring, IsOnOwn, turn, HasMark, IsMarkOf, AreMarks}
use Rattle.checked_program.specs.declared.section.{FieldUse.TheVariants.{Frozen, Guarded, Open}, Mode.TheVariants.{OnThis, OffThis}, SectionMark.SectionMark, Spot.TheVariants.{Method, Block}}
use Rattle.checked_program.{specs.declared.{section.Uses.Uses, tag.Tag.{Tag, TheVariants.{Untagged, This}}}, proofs.{EachReached.{Test, all_in, in_method}, OwnedChecks.{no_elements, no_owners}}}
use Rattle.checked_program.proofs.{MarkChecks.{first_is, none_applies, none_broken, not_beyond, call_is_ok, called_is_ok, none_ok, none_is_called, IsClosed, calls_to, all_from}, UseTries.uses_of_many}
use Rattle.checked_program.proofs.TriedPrograms.{many, tags_of}

abbrev tags : Tagged
tags = tags_of many

-- the two ints are guarded and the final field frozen
abbrev uses : Uses
uses = record { fields = Guarded ∷ Guarded ∷ Open ∷ Frozen ∷ []; owners = no_owners many; elements = no_elements many }

abbrev section : ℕ → Spot → Section
section mi spot = record { method = mi; spot = spot }

all_sections : sections many ≡ section 1 Method ∷ section 2 (Block 3) ∷ section 3 Method ∷ section 4 Method ∷ section 5 Method ∷ section 6 Method ∷ section 8 Method ∷ section 10 Method
    ∷ section 11 (Block 6) ∷ section 12 Method ∷ section 13 Method ∷ []
all_sections = refl

-- a method's own section breaks a rule at its instruction of a number
abbrev OfMethod : ℕ → ℕ → Type 0
OfMethod mi n = HasMark many tags uses (section mi Method) n

breaks_own : (mi i n : ℕ) (m : MethodInfo) (insn : Insn) (target : Target) (f : TagShape) → IsAt many tags mi i m insn target f → section_fault many uses.fields (section_mode many (section mi Method)) insn.op target f.stack (reads_owned uses mi i) ≡ n → 0 < n → Applies many tags uses (section mi Method) n
breaks_own mi i n m insn target f at e some = itself (record { i = i; own = record { m = m; insn = insn; target = target; f = f; at = at }; breaks = record { m = m; insn = insn; target = target; f = f; at = at; fault_is = e; some = some } })

writes : OfMethod 1 1
writes = (breaks_own 1 2 1 _ _ _ _ (record { in_program = refl; in_code = refl; names = refl; frames = _; of_method = refl; frame = refl }) refl (omega arith), first_is many tags uses (section 1 Method) 1 (omega arith) tt refl (λ lt c. not_beyond 1 (omega arith) lt))

allocates : OfMethod 3 2
allocates = (breaks_own 3 0 2 _ _ _ _ (record { in_program = refl; in_code = refl; names = refl; frames = _; of_method = refl; frame = refl }) refl (omega arith), first_is many tags uses (section 3 Method) 2 (omega arith) tt refl (λ lt c. not_beyond 2 (omega arith) lt))

enters_another : OfMethod 4 3
enters_another = (breaks_own 4 2 3 _ _ _ _ (record { in_program = refl; in_code = refl; names = refl; frames = _; of_method = refl; frame = refl }) refl (omega arith), first_is many tags uses (section 4 Method) 3 (omega arith) tt refl (λ lt c. not_beyond 3 (omega arith) lt))

notifies : OfMethod 5 4
notifies = (breaks_own 5 1 4 _ _ _ _ (record { in_program = refl; in_code = refl; names = refl; frames = _; of_method = refl; frame = refl }) refl (omega arith), first_is many tags uses (section 5 Method) 4 (omega arith) tt refl (λ lt c. not_beyond 4 (omega arith) lt))

reads_static : OfMethod 6 5
reads_static = (breaks_own 6 0 5 _ _ _ _ (record { in_program = refl; in_code = refl; names = refl; frames = _; of_method = refl; frame = refl }) refl (omega arith), first_is many tags uses (section 6 Method) 5 (omega arith) tt refl (λ lt c. not_beyond 5 (omega arith) lt))

-- ---- through calls

called_by : (mi i : ℕ) (first : Callee) (m : MethodInfo) (insn : Insn) (target : Target) (f : TagShape) → IsAt many tags mi i m insn target f → called_method insn.op target ≡ Some first.method
    → first.mode ≡ called_mode (section_mode many (section mi Method)) (receiver_tag many insn.op target f.stack) → IsCalledBy many tags (section mi Method) first
called_by mi i first m insn target f at e mode = record {
  i = i;
  first = first;
  own = record { m = m; insn = insn; target = target; f = f; at = at };
  calls = record { m = m; insn = insn; target = target; f = f; at = at; called = e; mode_is = mode };
  over = [];
  through = refl;
}

-- a method on this that prints
calls_a_printer : OfMethod 8 6
calls_a_printer = (
  called refl (record {
    called = callee 7 OnThis;
    is_called = called_by 8 1 (callee 7 OnThis) _ _ _ _ (record { in_program = refl; in_code = refl; names = refl; frames = _; of_method = refl; frame = refl }) refl refl;
    i = 2;
    n = 4;
    breaks = record { m = _; insn = _; target = _; f = _; at = (record { in_program = refl; in_code = refl; names = refl; frames = _; of_method = refl; frame = refl }); fault_is = refl; some = omega arith };
  }),
  first_is many tags uses (section 8 Method) 6 (omega arith) tt refl (λ lt c. not_beyond 6 (omega arith) lt),
)

-- the block of another object, off this: there its monitor is another
sums_another : OfMethod 13 6
sums_another = (
  called refl (record {
    called = callee 2 OffThis;
    is_called = called_by 13 1 (callee 2 OffThis) _ _ _ _ (record { in_program = refl; in_code = refl; names = refl; frames = _; of_method = refl; frame = refl }) refl refl;
    i = 3;
    n = 3;
    breaks = record { m = _; insn = _; target = _; f = _; at = (record { in_program = refl; in_code = refl; names = refl; frames = _; of_method = refl; frame = refl }); fault_is = refl; some = omega arith };
  }),
  first_is many tags uses (section 13 Method) 6 (omega arith) tt refl (λ lt c. not_beyond 6 (omega arith) lt),
)

-- a method that calls itself, and breaks no rule
abbrev is_again : Callee → Bool
is_again a = a.method == 9

again_in_modes : (mode : Mode) → (all_in (calls_to is_again many mode) many tags 9 ≡ true) × (all_from 8 many tags uses (callee 9 mode) ≡ true)
again_in_modes OnThis = (refl, refl)
again_in_modes mode = (refl, refl)

again_is_closed : IsClosed many tags is_again
again_is_closed a e = subst (λ (u : ℕ). all_in (calls_to is_again many a.mode) many tags u ≡ true) (sym (eqb-true a.method 9 e)) (again_in_modes a.mode).0

again_breaks_none : (a : Callee) → is_again a ≡ true → all_from 8 many tags uses a ≡ true
again_breaks_none a e = subst (λ (u : ℕ). all_from 8 many tags uses (callee u a.mode) ≡ true) (sym (eqb-true a.method 9 e)) (again_in_modes a.mode).1

calls_again : OfMethod 10 7
calls_again = (
  recurring refl (record {
    called = callee 9 OnThis;
    is_called = called_by 10 1 (callee 9 OnThis) _ _ _ _ (record { in_program = refl; in_code = refl; names = refl; frames = _; of_method = refl; frame = refl }) refl refl;
    recurs = record { first = callee 9 OffThis; calls = (1, record { m = _; insn = _; target = _; f = _; at = (record { in_program = refl; in_code = refl; names = refl; frames = _; of_method = refl; frame = refl }); called = refl; mode_is = refl }); over = []; mode = OffThis; through = refl };
  }),
  first_is many tags uses (section 10 Method) 7 (omega arith) tt refl (λ lt c. none_broken many tags uses c.called c.i c.n
      (again_breaks_none c.called (called_is_ok many tags (section 10 Method) is_again c.called again_is_closed refl c.is_called)) c.breaks),
)

-- ---- blocks

-- a block on another value than `this`
abbrev other_at_six : Test
other_at_six m insn target f = not (insn.pc == 6) || not (is_this (slice_index_or f.stack 0 Untagged))

is_not_this : (pc : ℕ) (t : Tag) → not (pc == 6) || not (is_this t) ≡ true → pc ≡ 6 → t ≡ This → ⊥
is_not_this pc This e h k = grind (arith, nat_tests)
is_not_this pc t e h k = cc

none_before_eight : (k : ℕ) → turn k < 0 → ⊥
none_before_eight k lt = grind arith

locks_a_field : HasMark many tags uses (section 11 (Block 6)) 8
locks_a_field = (elsewhere refl (λ on. is_not_this _ _ (in_method other_at_six many tags 11 refl on.0 on.2.m on.2.insn on.2.target on.1 on.2.at) on.2.pc_is on.3), λ k lt a. none_before_eight k lt)

sums_on_this : IsOnOwn many tags 2 (Block 3)
sums_on_this = (3, _, record { m = _; insn = _; target = _; at = record { in_program = refl; in_code = refl; names = refl; frames = _; of_method = refl; frame = refl }; pc_is = refl; enters = refl }, refl)

sums : HasMark many tags uses (section 2 (Block 3)) 0
sums = none_applies many tags uses (section 2 (Block 3)) sums_on_this refl (λ c. none_is_called many tags (section 2 (Block 3)) c.called refl c.is_called) (λ c. none_is_called many tags (section 2 (Block 3)) c.called refl c.is_called)

-- ---- a section that calls the block on this

abbrev is_on : Mode → Bool
is_on OnThis = true
is_on mode = false

abbrev is_sum : Callee → Bool
is_sum a = (a.method == 2) && is_on a.mode

is_sum_method : (a : Callee) → is_sum a ≡ true → a.method ≡ 2
is_sum_method a e = eqb-true a.method 2 (and_parts (a.method == 2) (is_on a.mode) e).0

sum_calls_none : (mode : Mode) → (all_in (calls_to is_sum many mode) many tags 2 ≡ true) × (all_in (calls_to none_ok many mode) many tags 2 ≡ true)
sum_calls_none OnThis = (refl, refl)
sum_calls_none mode = (refl, refl)

sum_keeps : (mode : Mode) → is_on mode ≡ true → all_from 8 many tags uses (callee 2 mode) ≡ true
sum_keeps OnThis e = refl
sum_keeps mode e = cc

sum_is_closed : IsClosed many tags is_sum
sum_is_closed a e = subst (λ (u : ℕ). all_in (calls_to is_sum many a.mode) many tags u ≡ true) (sym (is_sum_method a e)) (sum_calls_none a.mode).0

sum_breaks_none : (a : Callee) → is_sum a ≡ true → all_from 8 many tags uses a ≡ true
sum_breaks_none a e = subst (λ (u : ℕ). all_from 8 many tags uses (callee u a.mode) ≡ true) (sym (is_sum_method a e)) (sum_keeps a.mode (and_parts (a.method == 2) (is_on a.mode) e).1)

twice_calls_sum : (b : Callee) → IsCalledBy many tags (section 12 Method) b → is_sum b ≡ true
twice_calls_sum b c = called_is_ok many tags (section 12 Method) is_sum b sum_is_closed refl c

none_itself : (u : ℕ) → u ≡ 2 → CallsItself many tags u → ⊥
none_itself u e c =
    let all : all_in (calls_to none_ok many OffThis) many tags u ≡ true = subst (λ (v : ℕ). all_in (calls_to none_ok many OffThis) many tags v ≡ true) (sym e) (sum_calls_none OffThis).1 in
    let h : false ≡ true = call_is_ok many tags none_ok (callee u OffThis) c.first c.calls.0 all c.calls.1 in cc

twice_is_marked : OfMethod 12 0
twice_is_marked = none_applies many tags uses (section 12 Method) tt refl
    (λ c. none_broken many tags uses c.called c.i c.n (sum_breaks_none c.called (twice_calls_sum c.called c.is_called)) c.breaks)
    (λ c. none_itself c.called.method (is_sum_method c.called (twice_calls_sum c.called c.is_called)) c.recurs)

-- ---- all of the program's sections

abbrev mark : ℕ → Spot → ℕ → SectionMark
mark mi spot n = record { method = mi; spot = spot; mark = n }

-- the mark of a section of the program
is_mark : (s : Section) (n : ℕ) → HasMark many tags uses s n → IsMarkOf many tags uses s (mark s.method s.spot n)
is_mark s n h = record { method = refl; spot = refl; mark_is = h }

all_marks : AreMarks many tags (mark 1 Method 1 ∷ mark 2 (Block 3) 0 ∷ mark 3 Method 2 ∷ mark 4 Method 3 ∷ mark 5 Method 4 ∷ mark 6 Method 5 ∷ mark 8 Method 6 ∷ mark 10 Method 7
    ∷ mark 11 (Block 6) 8 ∷ mark 12 Method 0 ∷ mark 13 Method 6 ∷ [])
all_marks = record {
  uses = uses;
  are_uses = uses_of_many;
  each = (is_mark _ 1 writes, (is_mark _ 0 sums, (is_mark _ 2 allocates, (is_mark _ 3 enters_another, (is_mark _ 4 notifies, (is_mark _ 5 reads_static, through_calls))))));
}
  where
    through_calls : AllZip (IsMarkOf many tags uses) (section 8 Method ∷ section 10 Method ∷ section 11 (Block 6) ∷ section 12 Method ∷ section 13 Method ∷ [])
        (mark 8 Method 6 ∷ mark 10 Method 7 ∷ mark 11 (Block 6) 8 ∷ mark 12 Method 0 ∷ mark 13 Method 6 ∷ [])
    through_calls = (is_mark _ 6 calls_a_printer, (is_mark _ 7 calls_again, (is_mark _ 8 locks_a_field, (is_mark _ 0 twice_is_marked, (is_mark _ 6 sums_another, tt)))))
