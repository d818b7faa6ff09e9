-- How many instructions stand at and behind the pcs of the frames of an attempt: each instruction that goes on takes one away.
use Rattle.std.proofs.Common.{◌≡◌, ℕ, suc, ◌+◌, ◌<◌, ◌≤◌, nat_le, Bool, true, false, List, [], ◌∷◌, ◌++◌, length, Option, Some, None, refl, sym, ap, subst, ◌∙◌, arith, ◌==◌, slice_get, if◌then◌else◌}
use Rattle.std.proofs.lemmas.Bool.Decides.{nat_tests}
use Rattle.lists.proofs.ListLaws.{same_some}
use Rattle.jvm_types.specs.declared.{code.Insn.Insn, program.{MethodInfo.MethodInfo, Program.Program, Target.Target}}
use Rattle.laws_programs.proofs.CodeOrder.{methods_laid_out}
use Rattle.checked_program.specs.MarkedProgram.{MarkedProgram, IsMarked}
use Rattle.machine_types.specs.{Frames.{Top, at_pc, top_at, top_in, top_of, given, given_back, returned}, Threads.Frame}
use Rattle.laws_threads.proofs.SectionEntries.{next_later}

-- ---- in one method

abbrev pub at_or_behind : (pc : ℕ) → List Insn → ℕ
at_or_behind pc [] = 0
at_or_behind pc (insn ∷ insns) = (if nat_le pc insn.pc then 1 else 0) + at_or_behind pc insns

pub no_more_than : (pc : ℕ) (code : List Insn) → at_or_behind pc code ≤ length code
no_more_than pc [] = omega arith
no_more_than pc (insn ∷ insns) = grind (arith, nat_tests, no_more_than pc insns)

one_later : (pc to k : ℕ) → pc ≤ to → (if nat_le to k then 1 else 0) ≤ (if nat_le pc k then 1 else 0)
one_later pc to k h = grind (arith, nat_tests, h)

fewer_later : (pc to : ℕ) (code : List Insn) → pc ≤ to → at_or_behind to code ≤ at_or_behind pc code
fewer_later pc to [] h = omega arith
fewer_later pc to (insn ∷ insns) h = omega (arith, one_later pc to insn.pc h, fewer_later pc to insns h)

-- past an instruction that stands at the pc
pub one_fewer : {A : Type 0} (pc to : ℕ) (code : List Insn) (xs : List A) (x : A) → at_pc code xs pc ≡ Some x → pc < to → suc (at_or_behind to code) ≤ at_or_behind pc code
one_fewer {A} pc to (insn ∷ insns) (y ∷ ys) x e h = by_test (insn.pc == pc) refl e (λ e. one_fewer pc to insns ys x e h)
  where
    by_test : (b : Bool) → (insn.pc == pc) ≡ b → (if b then Some y else at_pc insns ys pc) ≡ Some x → (at_pc insns ys pc ≡ Some x → suc (at_or_behind to insns) ≤ at_or_behind pc insns)
        → suc (at_or_behind to (insn ∷ insns)) ≤ at_or_behind pc (insn ∷ insns)
    by_test true k e more = grind (arith, nat_tests, k, h, fewer_later pc to insns (omega (arith, h)))
    by_test false k e more = omega (arith, one_later pc to insn.pc (omega (arith, h)), more e)
one_fewer pc to code xs x e h = absurd (cc)

-- ---- in one frame

abbrev pub ahead_in : (pc : ℕ) → Option MethodInfo → ℕ
ahead_in pc None = 0
ahead_in pc (Some m) = at_or_behind pc m.code

abbrev pub ahead : Program → Frame → ℕ
ahead p f = ahead_in f.pc (slice_get p.methods f.method)

-- ---- the top frame

pub record IsTop (p : Program) (f : Frame) (fs : List Frame) (at : Top) : Type 0 where
  pub frame : at.frame ≡ f
  pub below : at.below ≡ fs
  pub method : slice_get p.methods f.method ≡ Some at.method
  pub insn : at_pc at.method.code at.method.code f.pc ≡ Some at.insn

top_is : (p : Program) (f : Frame) (fs : List Frame) (m : MethodInfo) (o : Option Insn) (q : Option Target) (at : Top) → slice_get p.methods f.method ≡ Some m → at_pc m.code m.code f.pc ≡ o → top_at f fs m o q ≡ Some at → IsTop p f fs at
top_is p f fs m (Some insn) (Some target) at there found e = subst (λ (k : Top). IsTop p f fs k) (same_some e) (record { frame = refl; below = refl; method = there; insn = found })
top_is p f fs m o q at there found e = absurd (cc)

top_in_is : (p : Program) (f : Frame) (fs : List Frame) (o : Option MethodInfo) (at : Top) → slice_get p.methods f.method ≡ o → top_in f fs o ≡ Some at → IsTop p f fs at
top_in_is p f fs None at there e = absurd (cc)
top_in_is p f fs (Some m) at there e = top_is p f fs m (at_pc m.code m.code f.pc) (at_pc m.code m.targets f.pc) at there refl e

pub is_top : (p : Program) (f : Frame) (fs : List Frame) (at : Top) → top_of p (f ∷ fs) ≡ Some at → IsTop p f fs at
is_top p f fs at e = top_in_is p f fs (slice_get p.methods f.method) at refl e

-- where its instruction stands in the code
stands_at : {A : Type 0} (pc : ℕ) (code : List Insn) (xs : List A) (x : A) → at_pc code xs pc ≡ Some x → (i : ℕ) × (insn : Insn) × (slice_get code i ≡ Some insn) × (insn.pc ≡ pc) × (slice_get xs i ≡ Some x)
stands_at {A} pc (insn ∷ insns) (y ∷ ys) x e = by_test (insn.pc == pc) refl e (λ e. stands_at pc insns ys x e)
  where
    by_test : (b : Bool) → (insn.pc == pc) ≡ b → (if b then Some y else at_pc insns ys pc) ≡ Some x
        → (at_pc insns ys pc ≡ Some x → (i : ℕ) × (other : Insn) × (slice_get insns i ≡ Some other) × (other.pc ≡ pc) × (slice_get ys i ≡ Some x))
        → (i : ℕ) × (other : Insn) × (slice_get (insn ∷ insns) i ≡ Some other) × (other.pc ≡ pc) × (slice_get (y ∷ ys) i ≡ Some x)
    by_test true k e more = (0, insn, refl, grind (arith, nat_tests, k), e)
    by_test false k e more = let m = more e in (suc m.0, m.1, m.2, m.3, m.4)
stands_at pc code xs x e = absurd (cc)

pub next_is_later : (c : MarkedProgram) (f : Frame) (fs : List Frame) (at : Top) → IsMarked c → IsTop c.program f fs at → f.pc < at.insn.next
next_is_later c f fs at marked k =
    let s = stands_at f.pc at.method.code at.method.code at.insn k.insn in
    let later : at.insn.pc < at.insn.next = next_later at.method s.0 at.insn (methods_laid_out c.program f.method at.method marked.checked.program k.method) s.4 in
    omega (arith, ap (λ (i : Insn). i.pc) (sym (same_some (sym s.2 ∙ s.4))) ∙ s.3, later)

-- ---- in the frames of an attempt, which stand on those below it

abbrev pub all_ahead : Program → (base : ℕ) → List Frame → ℕ
all_ahead p base [] = 0
all_ahead p base (f ∷ fs) = (if nat_le base (length fs) then ahead p f else 0) + all_ahead p base fs

module _ (p : Program) (base : ℕ) (f : Frame) (fs : List Frame) (at : Top) (k : IsTop p f fs at) where
  -- the same frame at another pc
  goes_later : (g : Frame) → g.method ≡ f.method → f.pc < g.pc → suc (ahead p g) ≤ ahead p f
  goes_later g same later =
      rw (ap (ahead_in g.pc) (ap (λ (n : ℕ). slice_get p.methods n) same ∙ k.method)) (rw (ap (ahead_in f.pc) k.method) (one_fewer f.pc g.pc at.method.code at.method.code at.insn k.insn later))

  some_ahead : 1 ≤ ahead p f
  some_ahead = rw (ap (ahead_in f.pc) k.method) (omega (arith, one_fewer f.pc (suc f.pc) at.method.code at.method.code at.insn k.insn (omega arith)))

  -- the top frame goes on
  pub top_goes_on : (g : Frame) → base ≤ length fs → g.method ≡ f.method → f.pc < g.pc → 1 + all_ahead p base (g ∷ fs) ≤ all_ahead p base (f ∷ fs)
  top_goes_on g based same later = grind (arith, nat_tests, based, goes_later g same later)

  -- or is left
  pub top_is_left : base ≤ length fs → 1 + all_ahead p base fs ≤ all_ahead p base (f ∷ fs)
  top_is_left based = grind (arith, nat_tests, based, some_ahead)

-- the frame that called goes on behind its call
module _ (c : MarkedProgram) (marked : IsMarked c) (base : ℕ) where
  caller_on : (result : List ℕ) (f : Frame) (fs : List Frame) (o : Option Top) → top_of c.program (f ∷ fs) ≡ o → all_ahead c.program base (given result o) ≤ all_ahead c.program base (f ∷ fs)
  caller_on result f fs None e = omega arith
  caller_on result f fs (Some at) e =
      let k : IsTop c.program f fs at = is_top c.program f fs at e in
      by_frames (record at.frame { pc = at.insn.next; stack = result ++ at.frame.stack }) at.below k.below (ap (λ (g : Frame). g.method) k.frame) (next_is_later c f fs at marked k) k
    where
      by_frames : (g : Frame) (below : List Frame) → below ≡ fs → g.method ≡ f.method → f.pc < g.pc → IsTop c.program f fs at → all_ahead c.program base (g ∷ below) ≤ all_ahead c.program base (f ∷ fs)
      by_frames g below same m later k = rw same (grind (arith, nat_tests, goes_later c.program base f fs at k g m later))

  behind_caller : (result : List ℕ) (below : List Frame) → all_ahead c.program base (given result (top_of c.program below)) ≤ all_ahead c.program base below
  behind_caller result [] = omega arith
  behind_caller result (f ∷ fs) = caller_on result f fs (top_of c.program (f ∷ fs)) refl

  pub returned_on : (at : Top) → all_ahead c.program base (returned c.program at) ≤ all_ahead c.program base at.below
  returned_on at = behind_caller (given_back at.insn.op at.frame.stack) at.below
