-- A test that each reached instruction of a method passes, for programs that are written out, by computing.
use Rattle.std.proofs.{Common.{◌≡◌, ℕ, zero, suc, Bool, true, List, ◌∷◌, Option, Some, None, subst, ◌&&◌, slice_get}, lemmas.Bool.and_parts}
use Rattle.jvm_types.specs.declared.{code.Insn.Insn, program.{MethodInfo.MethodInfo, Program.Program, Target.Target}}
use Rattle.checked_program.specs.{LockTags.TagShape, TaggedCode.{Tagged, IsAt}}

abbrev pub Test : Type 0
Test = MethodInfo → Insn → Target → TagShape → Bool

-- by the number of the instruction besides
abbrev pub NumberedTest : Type 0
NumberedTest = ℕ → Test

abbrev pub all_reached : (ℕ → Insn → Target → TagShape → Bool) → List Insn → List Target → List (Option TagShape) → Bool
all_reached q (insn ∷ insns) (target ∷ targets) (None ∷ frames) = all_reached (λ i. q (suc i)) insns targets frames
all_reached q (insn ∷ insns) (target ∷ targets) (Some f ∷ frames) = q 0 insn target f && all_reached (λ i. q (suc i)) insns targets frames
all_reached q insns targets frames = true

pub by_number : (q : ℕ → Insn → Target → TagShape → Bool) (insns : List Insn) (targets : List Target) (frames : List (Option TagShape)) → all_reached q insns targets frames ≡ true
    → (i : ℕ) (a : Insn) (b : Target) (g : TagShape) → slice_get insns i ≡ Some a → slice_get targets i ≡ Some b → slice_get frames i ≡ Some (Some g) → q i a b g ≡ true
by_number q (insn ∷ insns) (target ∷ targets) (Some f ∷ frames) all zero a b g e h k =
    let x : insn ≡ a = cc in let y : target ≡ b = cc in let z : f ≡ g = cc in
    let t : q 0 insn target f ≡ true = (and_parts (q 0 insn target f) (all_reached (λ i. q (suc i)) insns targets frames) all).0 in
    subst (λ (i : Insn). q 0 i b g ≡ true) x (subst (λ (t : Target). q 0 insn t g ≡ true) y (subst (λ (s : TagShape). q 0 insn target s ≡ true) z t))
by_number q (insn ∷ insns) (target ∷ targets) (None ∷ frames) all (suc i) a b g e h k = by_number (λ i. q (suc i)) insns targets frames all i a b g e h k
by_number q (insn ∷ insns) (target ∷ targets) (Some f ∷ frames) all (suc i) a b g e h k =
    by_number (λ i. q (suc i)) insns targets frames (and_parts (q 0 insn target f) (all_reached (λ i. q (suc i)) insns targets frames) all).1 i a b g e h k
by_number q insns targets frames all i a b g e h k = cc

abbrev pub all_of : NumberedTest → Option MethodInfo → Option (List (Option TagShape)) → Bool
all_of q (Some m) (Some frames) = all_reached (λ i. q i m) m.code m.targets frames
all_of q m frames = true

-- the reached instructions of the method of a number
abbrev pub all_numbered : NumberedTest → Program → Tagged → ℕ → Bool
all_numbered q p tags mi = all_of q (slice_get p.methods mi) (slice_get tags mi)

pub in_numbered : (q : NumberedTest) (p : Program) (tags : Tagged) (mi : ℕ) → all_numbered q p tags mi ≡ true
    → (i : ℕ) (m : MethodInfo) (insn : Insn) (target : Target) (f : TagShape) → IsAt p tags mi i m insn target f → q i m insn target f ≡ true
in_numbered q p tags mi all i m insn target f at =
    let e : all_of q (Some m) (Some at.frames) ≡ true = subst (λ (o : Option MethodInfo). all_of q o (Some at.frames) ≡ true) at.in_program
    (subst (λ (o : Option (List (Option TagShape))). all_of q (slice_get p.methods mi) o ≡ true) at.of_method all) in
    by_number (λ i. q i m) m.code m.targets at.frames e i insn target f at.in_code at.names at.frame

abbrev pub all_in : Test → Program → Tagged → ℕ → Bool
all_in q p tags mi = all_numbered (λ i. q) p tags mi

pub in_method : (q : Test) (p : Program) (tags : Tagged) (mi : ℕ) → all_in q p tags mi ≡ true
    → (i : ℕ) (m : MethodInfo) (insn : Insn) (target : Target) (f : TagShape) → IsAt p tags mi i m insn target f → q m insn target f ≡ true
in_method q p tags mi all i m insn target f at = in_numbered (λ i. q) p tags mi all i m insn target f at
