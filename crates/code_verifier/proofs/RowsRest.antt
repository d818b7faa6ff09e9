-- Handler rows that an instruction may leave out: another that rests brought their handlers the same locals.
use Rattle.std.proofs.Common.{◌≡◌, ◌≢◌, ◌<◌, ◌≤◌, ℕ, suc, Bool, true, false, not, ◌&&◌, ◌+◌, nat_le, nat_lt, List, [], ◌∷◌, ◌++◌, length, Option, Some, None, Ok, refl, sym, ap, ◌∙◌, subst, arith, ◌==◌, if◌then◌else◌, slice_get}
use Rattle.std.{specs.{List.{AllByRecursion, filter}, Option.IfSome}, proofs.lemmas.Bool.Decides.nat_tests}
use Rattle.jvm_types.specs.CodeTable.{row as row_of}
use Rattle.jvm_types.specs.{ClassTree.is_subclass, Types.{TypeFrame, filled, same_type, all_pairs}, Verifying.{covers, covering, caught_class, catch_fault, frame_at_handler, broken_before, broken_after, edges, frame_after}}
use Rattle.jvm_types.specs.declared.{code.Insn.Insn, op_row.OpRow.OpRow, program.{MethodInfo.MethodInfo, Program.Program, Row.Row, Target.Target}, refusal.VRule.{VRule, TheVariants.{V2, V4}}, typing.VType.VType}
use Rattle.jvm_types.specs.declared.class_numbers.TheConstants.{THROWABLE_CLASS}
use Rattle.laws_programs.proofs.LocalRisen.{same_lists}
use Rattle.code_table.specs.PcTables.{Ascend}
use Rattle.handler_rows.specs.HandlerRows.{is_picked, picked}
use Rattle.checked_program.specs.Visits.{Act, PlanNode, acted}
use Rattle.code_visits.specs.TypePlan.{type_meeting, break_at, break_by, goes_typed, caught_acts, handled_acts, later_acts, gone_acts, type_acts, type_acts_at}
use Rattle.code_visits.proofs.{RestLaws.same_behind, TypeRests.{AreTypesSound, types_left_out, types_parts, types_sound_on, types_long}}
use Rattle.code_verifier.specs.Visiting.{DoRowsRest, HasSameLocals, type_acts_done}

-- ---- the rows that are left out

-- rows rest on
pub rest_on : (m : MethodInfo) (pc from : ℕ) (f : TypeFrame) (rows : List Row) (acts : List (Act TypeFrame VRule)) (nodes mid : List (PlanNode TypeFrame)) → acted type_meeting m.code acts nodes ≡ Ok mid → DoRowsRest m pc f from nodes rows → DoRowsRest m pc f from mid rows
rest_on m pc from f [] acts nodes mid e h = tt
rest_on m pc from f (row ∷ rows) acts nodes mid e h = (λ c n. types_sound_on m acts (caught_acts m pc f row) nodes mid e (h.0 c n), rest_on m pc from f rows acts nodes mid e h.1)

pub kept_rest_on : (m : MethodInfo) (pc from : ℕ) (kept : Option TypeFrame) (acts : List (Act TypeFrame VRule)) (nodes mid : List (PlanNode TypeFrame)) → acted type_meeting m.code acts nodes ≡ Ok mid
    → IfSome kept (λ f. DoRowsRest m pc f from nodes m.rows) → IfSome kept (λ f. DoRowsRest m pc f from mid m.rows)
kept_rest_on m pc from None acts nodes mid e h = tt
kept_rest_on m pc from (Some f) acts nodes mid e h = rest_on m pc from f m.rows acts nodes mid e h

-- what the rows that cover a pc do is what those of them do that begin at another or behind it
pub few_rows : (m : MethodInfo) (pc from : ℕ) (f : TypeFrame) (rows : List Row) (nodes : List (PlanNode TypeFrame)) → Ascend 0 m.code → length nodes ≡ length m.code → DoRowsRest m pc f from nodes rows
    → type_acts_done m (handled_acts m pc f (picked pc from rows)) nodes ≡ type_acts_done m (handled_acts m pc f (filter (covers pc) rows)) nodes
few_rows m pc from f [] nodes ascend long rest = refl
few_rows m pc from f (row ∷ rows) nodes ascend long rest =
    by_tests (covers pc row) (nat_le from row.start) refl refl (λ ns l h. few_rows m pc from f rows ns ascend l h)
  where
    by_tests : (t u : Bool) → covers pc row ≡ t → nat_le from row.start ≡ u
        → ((ns : List (PlanNode TypeFrame)) → length ns ≡ length m.code → DoRowsRest m pc f from ns rows → type_acts_done m (handled_acts m pc f (picked pc from rows)) ns ≡ type_acts_done m (handled_acts m pc f (filter (covers pc) rows)) ns)
        → type_acts_done m (handled_acts m pc f (if t && u then row ∷ picked pc from rows else picked pc from rows)) nodes ≡ type_acts_done m (handled_acts m pc f (if t then row ∷ filter (covers pc) rows else filter (covers pc) rows)) nodes
    by_tests false u c n more = more nodes long rest.1
    by_tests true true c n more = same_behind type_meeting m.code (caught_acts m pc f row) (handled_acts m pc f (picked pc from rows)) (handled_acts m pc f (filter (covers pc) rows)) nodes
        (λ mid e. more mid (sym (types_long m (caught_acts m pc f row) nodes mid e) ∙ long) (rest_on m pc from f rows (caught_acts m pc f row) nodes mid e rest.1))
    by_tests true false c n more = more nodes long rest.1 ∙ sym (types_left_out m nodes (caught_acts m pc f row) (handled_acts m pc f (filter (covers pc) rows)) ascend long (rest.0 c n))

-- ---- where another instruction rests

-- from pc 0 on none is left out
pub none_rests : (m : MethodInfo) (pc : ℕ) (f : TypeFrame) (nodes : List (PlanNode TypeFrame)) (rows : List Row) → DoRowsRest m pc f 0 nodes rows
none_rests m pc f nodes [] = tt
none_rests m pc f nodes (row ∷ rows) = (λ c n. absurd (never row.start n), none_rests m pc f nodes rows)
  where
    never : (start : ℕ) → nat_le 0 start ≡ false → ⊥
    never start n = grind (arith, nat_tests, n)

pub kept_none_rests : (m : MethodInfo) (pc : ℕ) (nodes : List (PlanNode TypeFrame)) (kept : Option TypeFrame) → IfSome kept (λ f. DoRowsRest m pc f 0 nodes m.rows)
kept_none_rests m pc nodes None = tt
kept_none_rests m pc nodes (Some f) = none_rests m pc f nodes m.rows

-- of rows that cover the other pc
all_covering : (m : MethodInfo) (at : ℕ) (g : TypeFrame) (nodes : List (PlanNode TypeFrame)) (rows : List Row) → AreTypesSound m nodes (handled_acts m at g (filter (covers at) rows)) → AllByRecursion (λ row. covers at row ≡ true → AreTypesSound m nodes (caught_acts m at g row)) rows
all_covering m at g nodes [] s = tt
all_covering m at g nodes (row ∷ rows) s = by_test (covers at row) refl s (λ h. all_covering m at g nodes rows h)
  where
    by_test : (t : Bool) → covers at row ≡ t → AreTypesSound m nodes (handled_acts m at g (if t then row ∷ filter (covers at) rows else filter (covers at) rows))
        → (AreTypesSound m nodes (handled_acts m at g (filter (covers at) rows)) → AllByRecursion (λ row. covers at row ≡ true → AreTypesSound m nodes (caught_acts m at g row)) rows)
        → AllByRecursion (λ row. covers at row ≡ true → AreTypesSound m nodes (caught_acts m at g row)) (row ∷ rows)
    by_test true c s more = let parts = types_parts m nodes (caught_acts m at g row) (handled_acts m at g (filter (covers at) rows)) s in (λ e. parts.0, more parts.1)
    by_test false c s more = (λ e. absurd (let bad : false ≡ true = sym c ∙ e in cc), more s)

-- a row that breaks no rule at one pc breaks none at another
abbrev fault_by : Bool → Bool → ℕ → ℕ → Option (VRule × ℕ)
fault_by t u pc to = if t then Some (V2, pc) else if u then Some (V4, to) else None

no_fault : (m : MethodInfo) (at pc : ℕ) (row : Row) → catch_fault m at row ≡ None → catch_fault m pc row ≡ None
no_fault m at pc row e = by_tests (m.max_stack == 0) (not (is_subclass (caught_class row) THROWABLE_CLASS)) e
  where
    by_tests : (t u : Bool) → fault_by t u at row.handler ≡ None → fault_by t u pc row.handler ≡ None
    by_tests true u e = absurd (cc)
    by_tests false true e = absurd (cc)
    by_tests false false e = refl

one_row : (m : MethodInfo) (at pc : ℕ) (f g : TypeFrame) (nodes : List (PlanNode TypeFrame)) (row : Row) → HasSameLocals f g → AreTypesSound m nodes (caught_acts m at g row) → AreTypesSound m nodes (caught_acts m pc f row)
one_row m at pc f g nodes row same s =
    let frames : frame_at_handler row g ≡ frame_at_handler row f = λ i. record { stack = (frame_at_handler row g).stack; locals = sym same.0 i; ready = sym same.1 i } in
    by_fault (catch_fault m at row) refl (subst (λ (h : TypeFrame). AreTypesSound m nodes (break_at (catch_fault m at row) ++ goes_typed (row.handler ∷ []) h ∷ [])) frames s)
  where
    goes : List (Act TypeFrame VRule)
    goes = goes_typed (row.handler ∷ []) (frame_at_handler row f) ∷ []

    by_fault : (o : Option (VRule × ℕ)) → catch_fault m at row ≡ o → AreTypesSound m nodes (break_at o ++ goes) → AreTypesSound m nodes (break_at (catch_fault m pc row) ++ goes)
    by_fault None e s = subst (λ (o : Option (VRule × ℕ)). AreTypesSound m nodes (break_at o ++ goes)) (sym (no_fault m at pc row e)) s
    by_fault (Some fault) e s = absurd s.0

covers_both : (pc at start end : ℕ) → at < pc → (nat_le start pc && nat_lt pc end) ≡ true → nat_le (at + 1) start ≡ false → (nat_le start at && nat_lt at end) ≡ true
covers_both pc at start end h c n = grind (arith, nat_tests, h, c, n)

rows_rest : (m : MethodInfo) (at pc : ℕ) (f g : TypeFrame) (nodes : List (PlanNode TypeFrame)) (rows : List Row) → at < pc → HasSameLocals f g → AllByRecursion (λ row. covers at row ≡ true → AreTypesSound m nodes (caught_acts m at g row)) rows
    → DoRowsRest m pc f (at + 1) nodes rows
rows_rest m at pc f g nodes [] h same all = tt
rows_rest m at pc f g nodes (row ∷ rows) h same all = (λ c n. one_row m at pc f g nodes row same (all.0 (covers_both pc at row.start row.end h c n)), rows_rest m at pc f g nodes rows h same all.1)

-- what an instruction with a frame brought to handlers
handled_rest : (m : MethodInfo) (insn : Insn) (r : OpRow) (g : TypeFrame) (nodes : List (PlanNode TypeFrame)) → AreTypesSound m nodes (type_acts m insn r g) → AreTypesSound m nodes (handled_acts m insn.pc g (covering m insn.pc))
handled_rest m insn r g nodes s =
    let gone = types_parts m nodes (break_by insn.pc (broken_before m insn r g)) (gone_acts m insn g (frame_after m r g)) s in
    (types_parts m nodes (break_by insn.pc (broken_after m insn)) (handled_acts m insn.pc g (covering m insn.pc)) gone.1.1).1

pub rests_behind : (p : Program) (m : MethodInfo) (j pc : ℕ) (other : Insn) (target : Target) (f g : TypeFrame) (nodes : List (PlanNode TypeFrame)) → slice_get m.code j ≡ Some other → slice_get m.targets j ≡ Some target
    → AreTypesSound m nodes (type_acts_at p m (slice_get m.code j) (slice_get m.targets j) g) → other.pc < pc → HasSameLocals f g → DoRowsRest m pc f (other.pc + 1) nodes m.rows
rests_behind p m j pc other target f g nodes c t s h same =
    let acts : AreTypesSound m nodes (type_acts_at p m (Some other) (Some target) g) =
    subst (λ (o : Option Target). AreTypesSound m nodes (type_acts_at p m (Some other) o g)) t (subst (λ (o : Option Insn). AreTypesSound m nodes (type_acts_at p m o (slice_get m.targets j) g)) c s) in
    rows_rest m other.pc pc f g nodes m.rows h same (all_covering m other.pc g nodes m.rows (handled_rest m other (row_of p m other.pc target other.op) g nodes acts))

pub same_first : (f g : TypeFrame) (locals others : List VType) → length f.locals ≡ length g.locals → filled (length f.locals) locals ≡ f.locals → filled (length g.locals) others ≡ g.locals → all_pairs same_type locals others ≡ true → f.locals ≡ g.locals
same_first f g locals others long a b e = sym a ∙ ap (λ ts. filled (length f.locals) ts) (same_lists locals others e) ∙ ap (λ n. filled n others) long ∙ b
