-- Which instructions have an effect: where it goes on in its frame, what it takes from the stack, and whether it can throw.
use Rattle.std.proofs.Common.{◌≡◌, ℕ, Bool, true, false, List, [], ◌∷◌, Some, None, refl, sym, ◌∙◌, subst, slice_get}
use Rattle.lists.proofs.ListLaws.{same_some}
use Rattle.jvm_types.specs.{CodeTable.{row, can_throw}, Members.is_static, Numbers.has_number, ProgramInvariant.site_in, Verifying.{edges, is_return}, declared.code.{Insn.Insn, Op.Op}}
use Rattle.jvm_types.specs.declared.{class_numbers.TheConstants.INT_ARRAY_CLASS, op_row.Given.TheVariants.Fresh, program.{MethodInfo.MethodInfo, Program.Program, Target.Target}, typing.VType.VType}
use Rattle.laws_programs.specs.TargetLaws.{HasRow}
use Rattle.checked_program.specs.Marks.{called_method}
use Rattle.machine_types.specs.{Effects.effect, declared.effect.Effect.{Effect, TheVariants.{Goes, Throws, Reads, Writes, Indexes, Measures, Raises, Makes, Prints, Calls, Returns, Enters, Leaves, Waits, Notifies, NotifiesAll, Stuck}}}
use Rattle.machine_types.proofs.EffectCases.{Comes, lacks, goes, refuses, loads_element, stores_element, raises, makes_object, makes_int_array}
use Rattle.machine_types.proofs.EffectCases.{prints, calls, calls_fixed, returns, enters, leaves, waits, notifies, notifies_all, HasTop, HasReturned, LeadsTo, locks, suits, next_edge, comes}
use Rattle.laws_threads.specs.MoveLaws.{is_lock_op}
use Rattle.jvm_types.specs.declared.code.Op.TheVariants as ops
use Rattle.jvm_types.specs.declared.stack_move.StackMove.TheVariants.{Dup}
use Rattle.jvm_types.specs.declared.program.Target.TheVariants as targets
use Rattle.jvm_types.specs.declared.typing.VType.TheVariants as types

-- ---- what an effect says of its instruction

-- it enters and leaves no monitor, and the pc is one of its edges
abbrev pub IsMove : Insn → (to : ℕ) → Type 0
IsMove insn to = (is_lock_op insn.op ≡ false) × (has_number (edges insn) to ≡ true)

-- whether it is a `dup`, which makes tags
abbrev pub is_dup : Op → Bool
is_dup (ops.Stack Dup) = true
is_dup op = false

-- it goes on with one new value alone
pub record IsMaking (p : Program) (m : MethodInfo) (insn : Insn) (target : Target) : Type 0 where
  pub move : IsMove insn insn.next
  pub no_dup : is_dup insn.op ≡ false
  pub throws : can_throw insn.op ≡ true
  pub type : VType
  pub gives : (row p m insn.pc target insn.op).gives ≡ Fresh type ∷ []
  pub writes : (row p m insn.pc target insn.op).writes ≡ None

-- it calls a method of the program, and the receiver of an instance method is on the stack
pub record IsCalling (p : Program) (insn : Insn) (target : Target) (s : List ℕ) (number : ℕ) : Type 0 where
  pub names : called_method insn.op target ≡ Some number
  pub called : MethodInfo
  pub there : slice_get p.methods number ≡ Some called
  pub receiver : is_static called.flags ≡ false → HasTop s

abbrev pub IsOnTop : (m : ℕ) → List ℕ → Type 0
IsOnTop m s = (rest : List ℕ) × (s ≡ m ∷ rest)

abbrev pub Fits : Program → MethodInfo → Insn → Target → List ℕ → Effect → Type 0
Fits p m insn target s (Goes to made) = IsMove insn to
Fits p m insn target s (Throws x) = can_throw insn.op ≡ true
Fits p m insn target s (Reads v) = IsMove insn insn.next
Fits p m insn target s (Writes v word) = IsMove insn insn.next
Fits p m insn target s (Indexes array index stored) = IsMove insn insn.next × (can_throw insn.op ≡ true)
Fits p m insn target s (Measures array) = IsMove insn insn.next
Fits p m insn target s (Raises x) = can_throw insn.op ≡ true
Fits p m insn target s (Makes word size) = IsMaking p m insn target
Fits p m insn target s (Prints n) = IsMove insn insn.next
Fits p m insn target s (Calls number) = IsCalling p insn target s number
Fits p m insn target s Returns = (is_return insn.op ≡ true) × HasReturned insn.op s
Fits p m insn target s (Enters n) = (insn.op ≡ ops.Monitorenter) × IsOnTop n s
Fits p m insn target s (Leaves n) = (insn.op ≡ ops.Monitorexit) × IsOnTop n s
Fits p m insn target s (Waits n) = IsMove insn insn.next × (can_throw insn.op ≡ true)
Fits p m insn target s (Notifies n) = IsMove insn insn.next × (can_throw insn.op ≡ true)
Fits p m insn target s (NotifiesAll n) = IsMove insn insn.next × (can_throw insn.op ≡ true)
Fits p m insn target s Stuck = Unit {0}

-- ---- all instructions

module _ (p : Program) (m : MethodInfo) (pc next : ℕ) where
  abbrev at : Op → Insn
  at op = record { pc = pc; next = next; op = op }

  abbrev Row : Op → Target → Type 0
  Row op target = HasRow p (site_in m) pc target op (row p m pc target op)

  lock_op : (op : Op) → is_lock_op op ≡ locks op
  lock_op ops.Monitorenter = refl
  lock_op ops.Monitorexit = refl
  lock_op op = refl

  moves : (op : Op) (to : ℕ) → LeadsTo pc next op to → IsMove (at op) to
  moves op to k = (lock_op op ∙ k.0, k.1)

  pub suited : (target : Target) (op : Op) → Row op target → suits target op ≡ true
  suited targets.Println (ops.Invokevirtual i) h = refl
  suited targets.Wait (ops.Invokevirtual i) h = refl
  suited targets.Notify (ops.Invokevirtual i) h = refl
  suited targets.NotifyAll (ops.Invokevirtual i) h = refl
  suited targets.Println op h = absurd h
  suited targets.Wait op h = absurd h
  suited targets.Notify op h = absurd h
  suited targets.NotifyAll op h = absurd h
  suited target op h = refl

  new_made : (class : ℕ) (op : Op) → Row op (targets.Class class) → IsMaking p m (at op) (targets.Class class)
  new_made class (ops.New i) h = record { move = (refl, next_edge next); no_dup = refl; throws = refl; type = types.New pc; gives = refl; writes = refl }
  new_made class op h = absurd h

  fits : (target : Target) (op : Op) (s : List ℕ) (e : Effect) → Comes p pc next target op s e → Row op target → Fits p m (at op) target s e
  fits _ _ _ _ (lacks target op s lack) h = tt
  fits _ _ _ _ (goes target op s to made k r) h = moves op to k
  fits _ _ _ _ (refuses target op s x is t) h = t (suited target op h)
  fits _ _ _ _ (loads_element target i a s z) h = ((refl, next_edge next), refl)
  fits _ _ _ _ (stores_element target v i a s z) h = ((refl, next_edge next), refl)
  fits _ _ _ _ (raises target x s z) h = refl
  fits _ _ _ _ (makes_object class op s k) h = new_made class op h
  fits _ _ _ _ (makes_int_array target n s room) h = record { move = (refl, next_edge next); no_dup = refl; throws = refl; type = types.Ref INT_ARRAY_CLASS; gives = refl; writes = refl }
  fits _ _ _ _ (prints op n a s k) h = moves op next k.0
  fits _ _ _ _ (calls op number receiver s called names there on top) h = record { names = names; called = called; there = there; receiver = λ e. top }
  fits _ _ _ _ (calls_fixed i number s called there) h =
      let same : h.method ≡ called = same_some (sym h.there ∙ there) in
      let static : is_static called.flags ≡ true = subst (λ (x : MethodInfo). is_static x.flags ≡ true) same h.sort in
      record { names = refl; called = called; there = there; receiver = λ e. absurd (let bad : true ≡ false = sym static ∙ e in cc) }
  fits _ _ _ _ (returns target op s is top) h = (is, top)
  fits _ _ _ _ (enters target n s z) h = (refl, (s, refl))
  fits _ _ _ _ (leaves target n s) h = (refl, (s, refl))
  fits _ _ _ _ (waits op n s k t z) h = (moves op next k.0, t (suited targets.Wait op h))
  fits _ _ _ _ (notifies op n s k t z) h = (moves op next k.0, t (suited targets.Notify op h))
  fits _ _ _ _ (notifies_all op n s k t z) h = (moves op next k.0, t (suited targets.NotifyAll op h))
  fits _ _ _ _ k h = (refl, next_edge next)

  pub effect_fits : (target : Target) (op : Op) (l s : List ℕ) → Row op target → Fits p m (at op) target s (effect p next target op l s)
  effect_fits target op l s h = fits target op s _ (comes p pc next target op l s) h
