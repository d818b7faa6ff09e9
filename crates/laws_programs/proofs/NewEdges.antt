-- A value that a `new` made and no `<init>` was called on stays behind its `new` along each edge.
use Rattle.std.proofs.Common.{◌≡◌, ℕ, suc, ◌<◌, ◌≤◌, Bool, true, false, not, ◌&&◌, ◌||◌, List, [], ◌∷◌, None, refl, arith, ⊎_elim, ◌==◌, nat_le, if◌then◌else◌}
use Rattle.std.{specs.List.{AllByRecursion, list_any, filter}, proofs.lemmas.Bool.{and_parts, cases_lt, cond_both, eqb-true, le-leb, or_cases, or_left, or_parts, or_right}}
use Rattle.jvm_types.specs.{CodeTable.{row, branches_to, falls_through}, Numbers.has_number, Types.{TypeFrame, is_below, all_pairs, is_new, is_uninitialised}, declared.code.{Insn.Insn, Op.Op}}
use Rattle.jvm_types.specs.{Verifying.{broken_before, some_operand, misuses, is_return, frame_after, frame_at_handler, covers}, declared.program.{MethodInfo.MethodInfo, Program.Program, Row.Row}}
use Rattle.jvm_types.{specs.declared.{program.Target.Target, typing.VType.{VType, TheVariants.{New, Top}}}, proofs.{EachAfter.all_append, FrameOrder.{stack_below, locals_below}}}
use Rattle.laws_programs.{specs.NewLaws.{IsNewBefore, AreBehind, NewStaysBehind, BehindRises}, proofs.{LocalEdges.{picks, second_false}, RowsKeep.{IsFine, IsFineWrite, types_fine, row_fine}}}
use Rattle.laws_programs.proofs.RuleUses.{hold}
use Rattle.jvm_types.specs.declared.code.Op.TheVariants as ops

-- ---- behind their `new`

rises : (pc to : ℕ) → pc ≤ to → (ts : List VType) → AllByRecursion (IsNewBefore pc) ts → AllByRecursion (IsNewBefore to) ts
rises pc to l [] a = tt
rises pc to l (t ∷ ts) a = (one t a.0, rises pc to l ts a.1)
  where
    one : (t : VType) → IsNewBefore pc t → IsNewBefore to t
    one (New q) h = omega (arith, h, l)
    one t h = tt

-- none at all
abbrev IsNoNew : VType → Type 0
IsNoNew t = is_new t ≡ false

none_behind : (to : ℕ) (ts : List VType) → AllByRecursion IsNoNew ts → AllByRecursion (IsNewBefore to) ts
none_behind to [] a = tt
none_behind to (t ∷ ts) a = (one t a.0, none_behind to ts a.1)
  where
    one : (t : VType) → is_new t ≡ false → IsNewBefore to t
    one (New q) h = absurd (let bad : true ≡ false = h in cc)
    one t h = tt

-- a branch makes nothing
branch_fine : (P : VType → Type 0) (top : P Top) (p : Program) (m : MethodInfo) (pc : ℕ) (target : Target) (op : Op) (to : ℕ) → has_number (branches_to op) to ≡ true
    → AllByRecursion (IsFine P top) (row p m pc target op).gives × IsFineWrite P top (row p m pc target op).writes
branch_fine P top p m pc target (ops.If c t) to b = (tt, tt)
branch_fine P top p m pc target (ops.IfIcmp c t) to b = (tt, tt)
branch_fine P top p m pc target (ops.IfAcmpeq t) to b = (tt, tt)
branch_fine P top p m pc target (ops.IfAcmpne t) to b = (tt, tt)
branch_fine P top p m pc target (ops.Ifnull t) to b = (tt, tt)
branch_fine P top p m pc target (ops.Ifnonnull t) to b = (tt, tt)
branch_fine P top p m pc target (ops.Goto t) to b = (tt, tt)
branch_fine P top p m pc target (ops.GotoW t) to b = (tt, tt)
branch_fine P top p m pc target (ops.Tableswitch otherwise low ts) to b = (tt, tt)
branch_fine P top p m pc target (ops.Lookupswitch otherwise cs) to b = (tt, tt)
branch_fine P top p m pc target op to b = absurd (let bad : false ≡ true = b in cc)

-- the cases of V7
record AreSpared (m : MethodInfo) (insn : Insn) (f : TypeFrame) : Type 0 where
  branches : (list_any (λ to. nat_le to insn.pc) (branches_to insn.op) && (list_any is_uninitialised f.stack || list_any is_uninitialised f.locals)) ≡ false
  handlers : (list_any (covers insn.pc) m.rows && list_any is_new f.locals) ≡ false

spared : (p : Program) (m : MethodInfo) (insn : Insn) (target : Target) (f : TypeFrame) → broken_before m insn (row p m insn.pc target insn.op) f ≡ None → AreSpared m insn f
spared p m insn target f e =
    let r = row p m insn.pc target insn.op in
    let a = list_any (λ to. nat_le to insn.pc) (branches_to insn.op) && (list_any is_uninitialised f.stack || list_any is_uninitialised f.locals) in
    let b = list_any (covers insn.pc) m.rows && list_any is_new f.locals in
    let s = some_operand (misuses m) r f in
    let x = or_parts ((s || a) || b) (is_return insn.op && not f.ready) (hold m insn r f e).objects in
    let y = or_parts (s || a) b x.0 in
    record { branches = (or_parts s a y.0).1; handlers = y.1 }

pub none_of : (test : VType → Bool) (ts : List VType) → list_any test ts ≡ false → AllByRecursion (λ t. test t ≡ false) ts
none_of test [] e = tt
none_of test (t ∷ ts) e = let h = or_parts (test t) (list_any test ts) e in (h.0, none_of test ts h.1)

weaker : (ts : List VType) → AllByRecursion (λ t. is_uninitialised t ≡ false) ts → AllByRecursion IsNoNew ts
weaker [] a = tt
weaker (t ∷ ts) a = (one t a.0, weaker ts a.1)
  where
    one : (t : VType) → is_uninitialised t ≡ false → is_new t ≡ false
    one (New q) h = h
    one t h = refl

reaches_back : (pc : ℕ) (tos : List ℕ) (to : ℕ) → has_number tos to ≡ true → to ≤ pc → list_any (λ t. nat_le t pc) tos ≡ true
reaches_back pc [] to b l = absurd (let bad : false ≡ true = b in cc)
reaches_back pc (t ∷ tos) to b l = ⊎_elim (λ (e : (t == to) ≡ true). or_left (nat_le t pc) (list_any (λ u. nat_le u pc) tos) (le-leb t pc (omega (arith, l, eqb-true t to e))))
    (λ (h : has_number tos to ≡ true). or_right (nat_le t pc) (list_any (λ u. nat_le u pc) tos) (reaches_back pc tos to h l)) (or_cases (t == to) (has_number tos to) b)

module _ (p : Program) (m : MethodInfo) (insn : Insn) (target : Target) (f : TypeFrame) (ok : broken_before m insn (row p m insn.pc target insn.op) f ≡ None) (a : AreBehind insn.pc f) where
  after_all : AreBehind (suc insn.pc) (frame_after m (row p m insn.pc target insn.op) f)
  after_all =
      let fine = row_fine (IsNewBefore (suc insn.pc)) tt tt tt (λ c. tt) p m insn.pc (omega arith) target insn.op in
      let h = types_fine (IsNewBefore (suc insn.pc)) tt (λ c. tt) m (row p m insn.pc target insn.op) f fine.0 fine.1 (rises insn.pc (suc insn.pc) (omega arith) f.stack a.stack) (rises insn.pc (suc insn.pc) (omega arith) f.locals a.locals) in
      record { stack = h.0; locals = h.1 }

  after_branch : (to : ℕ) → has_number (branches_to insn.op) to ≡ true → AreBehind to (frame_after m (row p m insn.pc target insn.op) f)
  after_branch to b = ⊎_elim
      (λ (l : insn.pc < to). record { stack = rises (suc insn.pc) to l (frame_after m (row p m insn.pc target insn.op) f).stack after_all.stack; locals = rises (suc insn.pc) to l (frame_after m (row p m insn.pc target insn.op) f).locals after_all.locals })
      (λ (l : to ≤ insn.pc). back (reaches_back insn.pc (branches_to insn.op) to b l))
      (cases_lt insn.pc to)
    where
      back : list_any (λ t. nat_le t insn.pc) (branches_to insn.op) ≡ true → AreBehind to (frame_after m (row p m insn.pc target insn.op) f)
      back e =
          let none = or_parts (list_any is_uninitialised f.stack) (list_any is_uninitialised f.locals) (second_false (list_any (λ t. nat_le t insn.pc) (branches_to insn.op)) (list_any is_uninitialised f.stack || list_any is_uninitialised f.locals) (spared p m insn target f ok).branches e) in
          let fine = branch_fine IsNoNew refl p m insn.pc target insn.op to b in
          let h = types_fine IsNoNew refl (λ c. refl) m (row p m insn.pc target insn.op) f fine.0 fine.1 (weaker f.stack (none_of is_uninitialised f.stack none.0)) (weaker f.locals (none_of is_uninitialised f.locals none.1)) in
          record { stack = none_behind to (frame_after m (row p m insn.pc target insn.op) f).stack h.0; locals = none_behind to (frame_after m (row p m insn.pc target insn.op) f).locals h.1 }

  at_handler : (handler : Row) (to : ℕ) → list_any (covers insn.pc) m.rows ≡ true → AreBehind to (frame_at_handler handler f)
  at_handler handler to e = record { stack = (tt, tt); locals = none_behind to f.locals (none_of is_new f.locals (second_false (list_any (covers insn.pc) m.rows) (list_any is_new f.locals) (spared p m insn target f ok).handlers e)) }

-- ---- all edges

next_behind : (pc next : ℕ) (falls : Bool) (f : TypeFrame) → pc < next → AreBehind (suc pc) f → AllByRecursion (λ to. AreBehind to f) (if falls then next ∷ [] else [])
next_behind pc next false f h a = tt
next_behind pc next true f h a = (record { stack = rises (suc pc) next h f.stack a.stack; locals = rises (suc pc) next h f.locals a.locals }, tt)

-- what holds of each row where some row covers holds of the rows that do
covering_all : (P : Row → Type 0) (pc : ℕ) (rows : List Row) → ((handler : Row) → list_any (covers pc) rows ≡ true → P handler) → AllByRecursion P (filter (covers pc) rows)
covering_all P pc [] h = tt
covering_all P pc (r ∷ rows) h =
    let more : AllByRecursion P (filter (covers pc) rows) = covering_all P pc rows (λ handler e. h handler (or_right (covers pc r) (list_any (covers pc) rows) e)) in
    cond_both (covers pc r) (r ∷ filter (covers pc) rows) (filter (covers pc) rows) (AllByRecursion P) (λ e. (h r (or_left (covers pc r) (list_any (covers pc) rows) e), more)) (λ e. more)

pub stays_behind : NewStaysBehind
stays_behind p m insn target f after ok a =
    let g : TypeFrame = frame_after m (row p m insn.pc target insn.op) f in (
      all_append (λ to. AreBehind to g) (branches_to insn.op) (if falls_through insn.op then insn.next ∷ [] else []) (picks (λ to. AreBehind to g) (branches_to insn.op) (after_branch p m insn target f ok a))
          (next_behind insn.pc insn.next (falls_through insn.op) g after (after_all p m insn target f ok a)),
      covering_all (λ (handler : Row). AreBehind handler.handler (frame_at_handler handler f)) insn.pc m.rows (λ handler e. at_handler p m insn target f ok a handler handler.handler e),
    )

-- ---- frames that are above

behind_above : (pc : ℕ) (us vs : List VType) → all_pairs is_below us vs ≡ true → AllByRecursion (IsNewBefore pc) us → AllByRecursion (IsNewBefore pc) vs
behind_above pc [] [] e a = tt
behind_above pc (u ∷ us) (v ∷ vs) e a = let parts = and_parts (is_below u v) (all_pairs is_below us vs) e in (one u v parts.0 a.0, behind_above pc us vs parts.1 a.1)
  where
    one : (u v : VType) → is_below u v ≡ true → IsNewBefore pc u → IsNewBefore pc v
    one (New q) (New r) b h = let same : q ≡ r = eqb-true q r b in omega (arith, h, same)
    one u (New r) b h = absurd (cc)
    one u v b h = tt
behind_above pc us vs e a = absurd (cc)

pub behind_rises : BehindRises
behind_rises pc f g e a = record { stack = behind_above pc f.stack g.stack (stack_below f g e) a.stack; locals = behind_above pc f.locals g.locals (locals_below f g e) a.locals }
