-- A property of types that every row keeps: what a row makes has it, and so what is there afterwards.
use Rattle.std.proofs.Common.{ℕ, zero, suc, List, [], ◌∷◌, ◌++◌, map, Option, Some, None, drop, length, slice_get, slice_set, slice_index_or}
use Rattle.std.{specs.{List.AllByRecursion, Option.{option_map, option_to_list}}, proofs.lemmas.Bool.cond_both}
use Rattle.jvm_types.proofs.MoveLaws.{all_moved}
use Rattle.jvm_types.specs.CodeTable.{type_of, row, constant_row, get_static_row, get_row, put_row, put_static_row, virtual_row, special_row, static_row, value_of, stack_after, locals_after}
use Rattle.jvm_types.specs.{Types.{TypeFrame, same_type}, Verifying.{frame_after, after_start, started, initialised}, declared.class_numbers.TheConstants.{INT_ARRAY_CLASS, PRINT_STREAM_CLASS}}
use Rattle.jvm_types.specs.declared.{code.Op.Op, op_row.{Given.{Given, TheVariants.{Fresh, Taken, Local}}, OpRow.OpRow}, program.{Kind.Kind, MethodInfo.MethodInfo}}
use Rattle.jvm_types.specs.declared.{program.{Program.Program, Target.Target}, typing.VType.{VType, TheVariants.{Int, Null, Ref, New, Top}}}
use Rattle.jvm_types.specs.declared.code.Op.TheVariants as ops
use Rattle.jvm_types.specs.declared.program.Kind.TheVariants as kinds
use Rattle.jvm_types.specs.declared.program.Target.TheVariants as targets

module _ (P : VType → Type 0) (top : P Top) where
  at_all : (ts : List VType) (k : ℕ) → AllByRecursion P ts → P (slice_index_or ts k Top)
  at_all [] k a = top
  at_all (t ∷ ts) zero a = a.0
  at_all (t ∷ ts) (suc k) a = at_all ts k a.1

  all_append : (ts us : List VType) → AllByRecursion P ts → AllByRecursion P us → AllByRecursion P (ts ++ us)
  all_append [] us a b = b
  all_append (t ∷ ts) us a b = (a.0, all_append ts us a.1 b)

  all_drop : (k : ℕ) (ts : List VType) → AllByRecursion P ts → AllByRecursion P (drop k ts)
  all_drop (suc k) (t ∷ ts) a = all_drop k ts a.1
  all_drop k ts a = a

  all_set : (ts : List VType) (k : ℕ) (t : VType) → P t → AllByRecursion P ts → AllByRecursion P (slice_set ts k t)
  all_set [] k t h a = a
  all_set (u ∷ ts) zero t h a = (h, a.1)
  all_set (u ∷ ts) (suc k) t h a = (a.0, all_set ts k t h a.1)

  -- what a row makes anew has the property
  abbrev pub IsFine : Given → Type 0
  IsFine (Fresh t) = P t
  IsFine g = Unit {0}

  abbrev pub IsFineWrite : Option (ℕ × Given) → Type 0
  IsFineWrite None = Unit {0}
  IsFineWrite (Some w) = IsFine w.1

  value_fine : (stack locals : List VType) (g : Given) → IsFine g → AllByRecursion P stack → AllByRecursion P locals → P (value_of Top (λ t. t) stack locals g)
  value_fine stack locals (Fresh t) h a b = h
  value_fine stack locals (Taken k) h a b = at_all stack k a
  value_fine stack locals (Local k) h a b = at_all locals k b

  values_fine : (stack locals : List VType) (gs : List Given) → AllByRecursion IsFine gs → AllByRecursion P stack → AllByRecursion P locals → AllByRecursion P (map (value_of Top (λ t. t) stack locals) gs)
  values_fine stack locals [] h a b = tt
  values_fine stack locals (g ∷ gs) h a b = (value_fine stack locals g h.0 a b, values_fine stack locals gs h.1 a b)

  locals_fine : (w : Option (ℕ × Given)) (stack locals : List VType) → IsFineWrite w → AllByRecursion P stack → AllByRecursion P locals → AllByRecursion P (locals_after Top (λ t. t) w stack locals)
  locals_fine None stack locals h a b = b
  locals_fine (Some w) stack locals h a b = all_set locals w.0 (value_of Top (λ t. t) stack locals w.1) (value_fine stack locals w.1 h a b) b

  all_initialised : ((c : ℕ) → P (Ref c)) → (t : VType) (class : ℕ) (ts : List VType) → AllByRecursion P ts → AllByRecursion P (initialised t class ts)
  all_initialised refs t class [] a = tt
  all_initialised refs t class (u ∷ ts) a = (cond_both (same_type t u) (Ref class) u P (λ e. refs class) (λ e. a.0), all_initialised refs t class ts a.1)

  after_fine : ((c : ℕ) → P (Ref c)) → (o : Option (VType × ℕ)) (f : TypeFrame) → AllByRecursion P f.stack → AllByRecursion P f.locals → AllByRecursion P (after_start o f).stack × AllByRecursion P (after_start o f).locals
  after_fine refs None f a b = (a, b)
  after_fine refs (Some o) f a b = (all_initialised refs o.0 o.1 f.stack a, all_initialised refs o.0 o.1 f.locals b)

  pub types_fine : ((c : ℕ) → P (Ref c)) → (m : MethodInfo) (r : OpRow) (f : TypeFrame) → AllByRecursion IsFine r.gives → IsFineWrite r.writes → AllByRecursion P f.stack → AllByRecursion P f.locals
      → AllByRecursion P (frame_after m r f).stack × AllByRecursion P (frame_after m r f).locals
  types_fine refs m r f g w a b = after_fine refs (started m.class r.takes f.stack) (record { stack = stack_after Top (λ t. t) r f.stack f.locals; locals = locals_after Top (λ t. t) r.writes f.stack f.locals; ready = f.ready })
      (all_append (map (value_of Top (λ t. t) f.stack f.locals) r.gives) (drop (length r.takes) f.stack) (values_fine f.stack f.locals r.gives g a b) (all_drop (length r.takes) f.stack a))
      (locals_fine r.writes f.stack f.locals w a b)

  module _ (int : P Int) (null : P Null) (refs : (c : ℕ) → P (Ref c)) where
    pub kind_fine : (k : Kind) → P (type_of k)
    kind_fine (kinds.Ref c) = refs c
    kind_fine k = int

    result_fine : (r : Option Kind) → AllByRecursion IsFine (option_to_list (option_map (λ kind. Fresh (type_of kind)) r))
    result_fine None = tt
    result_fine (Some k) = (kind_fine k, tt)

    abbrev pub FineRow : OpRow → Type 0
    FineRow r = AllByRecursion IsFine r.gives × IsFineWrite r.writes

    -- the row of what is found, or of nothing
    found_fine : {A : Type 0} (row_by : Option A → OpRow) → FineRow (row_by None) → ((x : A) → FineRow (row_by (Some x))) → (o : Option A) → FineRow (row_by o)
    found_fine row_by none some None = none
    found_fine row_by none some (Some x) = some x

    constant_fine : (p : Program) (pc : ℕ) → P (New pc) → (target : Target) (op : Op) → FineRow (constant_row p pc target op)
    constant_fine p pc new (targets.Value n) op = ((int, tt), tt)
    constant_fine p pc new (targets.Class class) op = ((new, tt), tt)
    constant_fine p pc new (targets.Field f) (ops.Getstatic i) = found_fine get_static_row (tt, tt) (λ x. ((kind_fine x.kind, tt), tt)) (slice_get p.fields f)
    constant_fine p pc new (targets.Field f) (ops.Putstatic i) = found_fine put_static_row (tt, tt) (λ x. (tt, tt)) (slice_get p.fields f)
    constant_fine p pc new (targets.Field f) (ops.Getfield i) = found_fine get_row (tt, tt) (λ x. ((kind_fine x.kind, tt), tt)) (slice_get p.fields f)
    constant_fine p pc new (targets.Field f) (ops.Putfield i) = found_fine put_row (tt, tt) (λ x. (tt, tt)) (slice_get p.fields f)
    constant_fine p pc new (targets.Method f) (ops.Invokevirtual i) = found_fine virtual_row (tt, tt) (λ x. (result_fine x.result, tt)) (slice_get p.methods f)
    constant_fine p pc new (targets.Method f) (ops.Invokespecial i) = found_fine special_row (tt, tt) (λ x. (result_fine x.result, tt)) (slice_get p.methods f)
    constant_fine p pc new (targets.Method f) (ops.Invokestatic i) = found_fine static_row (tt, tt) (λ x. (result_fine x.result, tt)) (slice_get p.methods f)
    constant_fine p pc new targets.Out op = ((refs PRINT_STREAM_CLASS, tt), tt)
    constant_fine p pc new target op = (tt, tt)

    pub row_fine : (p : Program) (m : MethodInfo) (pc : ℕ) → P (New pc) → (target : Target) (op : Op) → FineRow (row p m pc target op)
    row_fine p m pc new target (ops.Ldc i) = constant_fine p pc new target (ops.Ldc i)
    row_fine p m pc new target (ops.LdcW i) = constant_fine p pc new target (ops.LdcW i)
    row_fine p m pc new target (ops.Getstatic i) = constant_fine p pc new target (ops.Getstatic i)
    row_fine p m pc new target (ops.Putstatic i) = constant_fine p pc new target (ops.Putstatic i)
    row_fine p m pc new target (ops.Getfield i) = constant_fine p pc new target (ops.Getfield i)
    row_fine p m pc new target (ops.Putfield i) = constant_fine p pc new target (ops.Putfield i)
    row_fine p m pc new target (ops.Invokevirtual i) = constant_fine p pc new target (ops.Invokevirtual i)
    row_fine p m pc new target (ops.Invokespecial i) = constant_fine p pc new target (ops.Invokespecial i)
    row_fine p m pc new target (ops.Invokestatic i) = constant_fine p pc new target (ops.Invokestatic i)
    row_fine p m pc new target (ops.New i) = constant_fine p pc new target (ops.New i)
    row_fine p m pc new target ops.Newarray = ((refs INT_ARRAY_CLASS, tt), tt)
    row_fine p m pc new target (ops.Stack move) = (all_moved IsFine (λ place. tt) move, tt)
    row_fine p m pc new target op = assumption
