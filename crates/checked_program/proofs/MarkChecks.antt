-- Tests of a program that is written out, from which its marks follow.
use Rattle.std.proofs.Common.{◌≡◌, ◌<◌, ◌≤◌, ℕ, Bool, true, false, List, [], ◌∷◌, Option, Some, None, refl, subst, arith, ◌==◌, ◌&&◌, ◌||◌, nat_le, nat_lt, if◌then◌else◌}
use Rattle.std.proofs.lemmas.Bool.Decides.{nat_tests}
use Rattle.jvm_types.specs.declared.{code.Insn.Insn, program.{MethodInfo.MethodInfo, Program.Program, Target.Target}}
use Rattle.checked_program.specs.Marks.{Callee, callee, called_method, receiver_tag, called_mode, Calls, CallsThrough, IsCalledBy, section_fault, BreaksAt, CalleeBreaks, CalleeRecurs, Applies, elsewhere, itself, called, recurring, IsOnOwn, turn}
use Rattle.checked_program.specs.{LockTags.TagShape, OwnedArrays.reads_owned, Sections.{Section, section_mode}, TaggedCode.{Tagged, IsAt}, declared.section.{Mode.Mode, Spot.TheVariants.Method, Uses.Uses}}
use Rattle.checked_program.proofs.{EachReached.{Test, NumberedTest, all_in, in_method, all_numbered, in_numbered}, TriedPrograms.tags_of}

-- ---- sections of small programs

-- a synchronized method
abbrev pub section : ℕ → Section
section mi = record { method = mi; spot = Method }

-- an instruction of its own breaks a rule
pub breaks_own : (p : Program) (uses : Uses) (mi i n : ℕ) (m : MethodInfo) (insn : Insn) (target : Target) (f : TagShape) → IsAt p (tags_of p) mi i m insn target f
    → section_fault p uses.fields (section_mode p (section mi)) insn.op target f.stack (reads_owned uses mi i) ≡ n → 0 < n → Applies p (tags_of p) uses (section mi) n
breaks_own p uses mi i n m insn target f at e some = itself (record { i = i; own = record { m = m; insn = insn; target = target; f = f; at = at }; breaks = record { m = m; insn = insn; target = target; f = f; at = at; fault_is = e; some = some } })

-- ---- an earlier rule is broken by no instruction

abbrev pub is_from : ℕ → ℕ → Bool
is_from n f = (f == 0) || (nat_le n f && nat_lt f 8)

abbrev pub breaks_from : ℕ → Program → Uses → Callee → NumberedTest
breaks_from n p uses a i m insn target f = is_from n (section_fault p uses.fields a.mode insn.op target f.stack (reads_owned uses a.method i))

-- the instructions of a method, as a section runs it
abbrev pub all_from : ℕ → Program → Tagged → Uses → Callee → Bool
all_from n p tags uses a = all_numbered (breaks_from n p uses a) p tags a.method

pub not_earlier_by : (b : Bool) (n k f : ℕ) → (k == 8) ≡ b → is_from n f ≡ true → f ≡ k → 0 < k → (if b then 0 else k) < n → ⊥
not_earlier_by true n k f e t h some lt = grind (arith, nat_tests)
not_earlier_by false n k f e t h some lt = grind (arith, nat_tests)

pub not_earlier : (n k f : ℕ) → is_from n f ≡ true → f ≡ k → 0 < k → turn k < n → ⊥
not_earlier n k f t h some lt = not_earlier_by (k == 8) n k f refl t h some lt

pub beyond_six : (n k : ℕ) → k ≡ 6 → turn k < n → 6 < n
beyond_six n k e lt = subst (λ (j : ℕ). turn j < n) e lt

pub beyond_seven : (n k : ℕ) → k ≡ 7 → turn k < n → 7 < n
beyond_seven n k e lt = subst (λ (j : ℕ). turn j < n) e lt

-- no rule before n applies, if through calls none of M1 to M5 is broken where n is 7
pub first_is : (p : Program) (tags : Tagged) (uses : Uses) (s : Section) (n : ℕ) → n ≤ 7 → IsOnOwn p tags s.method s.spot → all_from n p tags uses (callee s.method (section_mode p s)) ≡ true
    → (6 < n → CalleeBreaks p tags uses s → ⊥) → (k : ℕ) → turn k < n → Applies p tags uses s k → ⊥
first_is p tags uses s n few on all through k lt (elsewhere e off) = off on
first_is p tags uses s n few on all through k lt (itself b) = not_earlier n k _ (in_numbered (breaks_from n p uses (callee s.method (section_mode p s))) p tags s.method all b.i b.breaks.m b.breaks.insn b.breaks.target b.breaks.f b.breaks.at) b.breaks.fault_is b.breaks.some lt
first_is p tags uses s n few on all through k lt (called e c) = through (beyond_six n k e lt) c
first_is p tags uses s n few on all through k lt (recurring e c) = let h : 7 < n = beyond_seven n k e lt in grind arith

pub not_beyond : (n : ℕ) → n ≤ 6 → 6 < n → ⊥
not_beyond n few lt = grind arith

-- ---- no rule is broken at all

pub breaks_none : (n : ℕ) → is_from 8 n ≡ true → (k : ℕ) → n ≡ k → 0 < k → ⊥
breaks_none n t k h some = grind (arith, nat_tests)

pub none_broken : (p : Program) (tags : Tagged) (uses : Uses) (a : Callee) (i n : ℕ) → all_from 8 p tags uses a ≡ true → BreaksAt p tags uses a i n → ⊥
none_broken p tags uses a i n all b = breaks_none _ (in_numbered (breaks_from 8 p uses a) p tags a.method all i b.m b.insn b.target b.f b.at) n b.fault_is b.some

pub none_applies : (p : Program) (tags : Tagged) (uses : Uses) (s : Section) → IsOnOwn p tags s.method s.spot → all_from 8 p tags uses (callee s.method (section_mode p s)) ≡ true
    → (CalleeBreaks p tags uses s → ⊥) → (CalleeRecurs p tags s → ⊥) → (k : ℕ) → Applies p tags uses s k → ⊥
none_applies p tags uses s on all through back k (elsewhere e off) = off on
none_applies p tags uses s on all through back k (itself b) = none_broken p tags uses (callee s.method (section_mode p s)) b.i k all b.breaks
none_applies p tags uses s on all through back k (called e c) = through c
none_applies p tags uses s on all through back k (recurring e c) = back c

-- ---- what is called stays among some callees

abbrev pub to_some : (Callee → Bool) → Option ℕ → Mode → Bool
to_some ok None mode = true
to_some ok (Some u) mode = ok (callee u mode)

abbrev pub calls_to : (Callee → Bool) → Program → Mode → Test
calls_to ok p mode m insn target f = to_some ok (called_method insn.op target) (called_mode mode (receiver_tag p insn.op target f.stack))

pub call_is_ok : (p : Program) (tags : Tagged) (ok : Callee → Bool) (a b : Callee) (i : ℕ) → all_in (calls_to ok p a.mode) p tags a.method ≡ true → Calls p tags a i b → ok b ≡ true
call_is_ok p tags ok a b i all c =
    let t : to_some ok (called_method c.insn.op c.target) (called_mode a.mode (receiver_tag p c.insn.op c.target c.f.stack)) ≡ true = in_method (calls_to ok p a.mode) p tags a.method all i c.m c.insn c.target c.f c.at in
    let u : to_some ok (Some b.method) (called_mode a.mode (receiver_tag p c.insn.op c.target c.f.stack)) ≡ true = subst (λ (o : Option ℕ). to_some ok o (called_mode a.mode (receiver_tag p c.insn.op c.target c.f.stack)) ≡ true) c.called t in
    rw c.mode_is u

abbrev pub IsClosed : Program → Tagged → (Callee → Bool) → Type 0
IsClosed p tags ok = (a : Callee) → ok a ≡ true → all_in (calls_to ok p a.mode) p tags a.method ≡ true

pub all_are_ok : (p : Program) (tags : Tagged) (ok : Callee → Bool) → IsClosed p tags ok → (cs : List Callee) (a b : Callee) → ok a ≡ true → CallsThrough p tags a cs b → ok b ≡ true
all_are_ok p tags ok closed [] a b e t = subst (λ (c : Callee). ok c ≡ true) t e
all_are_ok p tags ok closed (c ∷ cs) a b e t = all_are_ok p tags ok closed cs c b (call_is_ok p tags ok a c t.0.0 (closed a e) t.0.1) t.1

pub called_is_ok : (p : Program) (tags : Tagged) (s : Section) (ok : Callee → Bool) (b : Callee) → IsClosed p tags ok → all_in (calls_to ok p (section_mode p s)) p tags s.method ≡ true → IsCalledBy p tags s b → ok b ≡ true
called_is_ok p tags s ok b closed all c = all_are_ok p tags ok closed c.over c.first b (call_is_ok p tags ok (callee s.method (section_mode p s)) c.first c.i all c.calls) c.through

abbrev pub none_ok : Callee → Bool
none_ok a = false

pub none_is_called : (p : Program) (tags : Tagged) (s : Section) (b : Callee) → all_in (calls_to none_ok p (section_mode p s)) p tags s.method ≡ true → IsCalledBy p tags s b → ⊥
none_is_called p tags s b all c = let e : false ≡ true = called_is_ok p tags s none_ok b (λ a e. absurd (by_false e)) all c in by_false e
  where
    by_false : false ≡ true → ⊥
    by_false e = cc
