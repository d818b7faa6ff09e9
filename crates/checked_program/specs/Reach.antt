-- How many instructions a call of a method may begin at the most, where no method is entered twice
-- and no branch goes back: those of the method and of all that it calls.
use Rattle.std.specs.Prelude.{◌≡◌, ℕ, ◌==◌, List, [], ◌∷◌, length, Option, Some, None, slice_get}
use Rattle.std.specs.List.{Contains, IsDistinct, sum_by}
use Rattle.jvm_types.specs.declared.code.Insn.{Insn}
use Rattle.jvm_types.specs.declared.program.Target.{Target}
use Rattle.jvm_types.specs.declared.program.MethodInfo.{MethodInfo}
use Rattle.jvm_types.specs.declared.program.Program.{Program}
use Rattle.checked_program.specs.Marks.{called_method}

-- some instruction of a method calls another; all of its code counts, reached or not
pub record HasCall (p : Program) (mi u : ℕ) : Type 0 where
  pub m : MethodInfo
  pub in_program : slice_get p.methods mi ≡ Some m
  pub i : ℕ
  pub insn : Insn
  pub in_code : slice_get m.code i ≡ Some insn
  pub target : Target
  pub names : slice_get m.targets i ≡ Some target
  pub called : called_method insn.op target ≡ Some u

-- through calls, over these; none is a way too
abbrev pub HasCalls : Program → ℕ → List ℕ → ℕ → Type 0
HasCalls p mi [] u = mi ≡ u
HasCalls p mi (v ∷ vs) u = HasCall p mi v × HasCalls p v vs u

abbrev pub size_of : Option MethodInfo → ℕ
size_of None = 0
size_of (Some m) = length m.code

-- the instructions of the method and of each other that it calls, each counted once
pub record IsReach (p : Program) (mi n : ℕ) : Type 0 where
  pub methods : List ℕ
  pub distinct : IsDistinct (λ u v. u == v) methods
  pub called : (u : ℕ) → Contains methods u → (vs : List ℕ) × HasCalls p mi vs u
  pub all : (u : ℕ) (vs : List ℕ) → HasCalls p mi vs u → Contains methods u
  pub count : n ≡ sum_by (λ u. size_of (slice_get p.methods u)) methods
