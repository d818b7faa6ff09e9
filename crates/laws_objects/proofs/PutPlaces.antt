-- An array is stored in an owned field right behind the `newarray` that made it: no other instruction leads there, no handler and no call.
use Rattle.std.proofs.Common.{◌≡◌, ℕ, suc, ◌⊎◌, inl, inr, Bool, true, false, ◌||◌, ◌&&◌, List, [], ◌∷◌, ◌++◌, length, Some, refl, sym, ap, ◌∙◌, subst, arith, ◌==◌, slice_get, if◌then◌else◌}
use Rattle.std.{specs.List.list_any, proofs.lemmas.Bool.{cases_Bool, Decides.nat_tests, false_from_ne_true}}
use Rattle.lists.proofs.{ListLaws.same_some, TestLaws.{first_true, second_true}}
use Rattle.jvm_types.specs.{ClassTree.is_subclass, CodeTable.{branches_to, falls_through}, Numbers.has_number, Verifying.{covers, edges, IsLaidOut}, declared.code.{Insn.Insn, Op.Op}}
use Rattle.jvm_types.specs.declared.{code.Op.TheVariants.{Newarray, Putfield}, program.{MethodInfo.MethodInfo, Row.Row, Target.{Target, TheVariants.Field}}}
use Rattle.laws_programs.proofs.CodeOrder.{one_number, short, follows, have_targets}
use Rattle.checked_program.specs.{LockTags.TagShape, MarkedProgram.{MarkedProgram, IsMarked}, OwnedArrays.{StoresNew, PutsNew}, TaggedCode.IsAt}
use Rattle.machine_types.specs.{Construction.{Owning, AreOwned, puts_owned}, Frames.handler_of, Standing.tags_of}
use Rattle.laws_threads.proofs.{MarkedMethods.method_at, Throws.any_at}

abbrev pub is_newarray : Op → Bool
is_newarray Newarray = true
is_newarray op = false

-- no other instruction is one
pub newarray_is : (op : Op) → is_newarray op ≡ true → op ≡ Newarray
newarray_is Newarray e = refl
newarray_is op e = absurd (let bad : false ≡ true = e in cc)

-- ---- branches

pub by_append : (xs ys : List ℕ) (n : ℕ) → has_number (xs ++ ys) n ≡ true → (has_number xs n ≡ true) ⊎ (has_number ys n ≡ true)
by_append [] ys n e = inr e
by_append (x ∷ xs) ys n e = elim (cases_Bool (x == n)) [
  | inl t ↦ inl (first_true (x == n) (has_number xs n) t)
  | inr t ↦ elim (by_append xs ys n (rw t at e)) [ inl h ↦ inl (second_true (x == n) (has_number xs n) h) | inr h ↦ inr h ]
]

by_fall : (b : Bool) (next n : ℕ) → has_number (if b then next ∷ [] else []) n ≡ true → n ≡ next
by_fall true next n e = let t : (next == n || false) ≡ true = e in grind (arith, nat_tests, t)
by_fall false next n e = absurd (cc)

row_handles : (pc class : ℕ) (rows : List Row) (r : Row) → handler_of pc class rows ≡ Some r → (n : ℕ) → n ≡ r.handler → list_any (λ (q : Row). q.handler == n) rows ≡ true
row_handles pc class [] r e n same = absurd (cc)
row_handles pc class (q ∷ rows) r e n same = by_test (covers pc q && (q.catch_class == 0 || is_subclass class q.catch_class)) e (λ more. row_handles pc class rows r more n same)
  where
    by_test : (b : Bool) → (if b then Some q else handler_of pc class rows) ≡ Some r → (handler_of pc class rows ≡ Some r → list_any (λ (q : Row). q.handler == n) rows ≡ true) → (q.handler == n || list_any (λ (q : Row). q.handler == n) rows) ≡ true
    by_test true e more = let is : q ≡ r = same_some e in first_true (q.handler == n) (list_any (λ (q : Row). q.handler == n) rows) (subst (λ (x : Row). (x.handler == n) ≡ true) (sym is) (grind (arith, nat_tests, same)))
    by_test false e more = second_true (q.handler == n) (list_any (λ (q : Row). q.handler == n) rows) (more e)

module _ (c : MarkedProgram) (marked : IsMarked c) (owning : Owning) (owns : AreOwned c owning.owned) where
  pub stores_new : (mi j : ℕ) (m : MethodInfo) (other : Insn) (next : Target) (u : TagShape) → IsAt c.program (tags_of c) mi j m other next u → puts_owned owning.owned other.op next ≡ true → StoresNew m j other.pc
  stores_new mi j m other next u at e = by_op other.op next e (λ fi owned. (owns.those fi owned).new mi j m other next u at)
    where
      by_op : (op : Op) (target : Target) → puts_owned owning.owned op target ≡ true → ((fi : ℕ) → owning.owned fi ≡ true → PutsNew fi m j other.pc op target) → StoresNew m j other.pc
      by_op (Putfield i) (Field fi) e h = h fi e refl
      by_op op target e h = absurd (let bad : false ≡ true = e in cc)

  module _ (mi j : ℕ) (m : MethodInfo) (other : Insn) (next : Target) (u : TagShape) (at : IsAt c.program (tags_of c) mi j m other next u) where
    laid : IsLaidOut m
    laid = (method_at c marked mi m at.in_program).holds.laid

    -- by an edge, behind another instruction
    pub edge_plain : (i : ℕ) (insn : Insn) → slice_get m.code i ≡ Some insn → has_number (edges insn) other.pc ≡ true → is_newarray insn.op ≡ false → puts_owned owning.owned other.op next ≡ false
    edge_plain i insn e edge op = false_from_ne_true (puts_owned owning.owned other.op next) (λ puts. by_new (stores_new mi j m other next u at puts))
      where
        by_new : StoresNew m j other.pc → ⊥
        by_new s = elim (by_append (branches_to insn.op) (if falls_through insn.op then insn.next ∷ [] else []) other.pc edge) [
          | inl h ↦ (let bad : true ≡ false = sym (first_true (list_any (λ (x : Insn). has_number (branches_to x.op) other.pc) m.code) (list_any (λ (q : Row). q.handler == other.pc) m.rows) (any_at (λ (x : Insn). has_number (branches_to x.op) other.pc) m.code i insn e h)) ∙ s.only in cc)
          | inr h ↦ by_next (follows m i insn laid e) (by_fall (falls_through insn.op) insn.next other.pc h)
        ]
          where
            by_next : ((x : Insn) × (slice_get m.code (suc i) ≡ Some x) × (x.pc ≡ insn.next)) ⊎ ((suc i ≡ length m.code) × (insn.next ≡ length laid.bytes)) → other.pc ≡ insn.next → ⊥
            by_next (inl x) same =
                let number : j ≡ suc i = one_number m j (suc i) other x.0 laid at.in_code x.1 (same ∙ sym x.2) in
                let before : s.before ≡ i = omega (arith, number, s.follows) in
                let one : s.insn ≡ insn = same_some (sym s.is ∙ (ap (slice_get m.code) before ∙ e)) in
                (let bad : false ≡ true = sym op ∙ (ap (λ (x : Insn). is_newarray x.op) (sym one) ∙ ap is_newarray s.makes) in cc)
            by_next (inr x) same = let below = (short m j other laid at.in_code).0 in omega (arith, below, same, x.1)

    -- at a handler
    pub handler_plain : (pc class : ℕ) (r : Row) → handler_of pc class m.rows ≡ Some r → other.pc ≡ r.handler → puts_owned owning.owned other.op next ≡ false
    handler_plain pc class r e same = false_from_ne_true (puts_owned owning.owned other.op next) (λ puts.
        (let s = stores_new mi j m other next u at puts in
        let bad : true ≡ false = sym (second_true (list_any (λ (x : Insn). has_number (branches_to x.op) other.pc) m.code) (list_any (λ (q : Row). q.handler == other.pc) m.rows) (row_handles pc class m.rows r e other.pc same)) ∙ s.only in
        cc))

    -- where the method begins
    pub first_plain : j ≡ 0 → puts_owned owning.owned other.op next ≡ false
    first_plain e = false_from_ne_true (puts_owned owning.owned other.op next) (λ puts. (let s = stores_new mi j m other next u at puts in let f = s.follows in omega (arith, e, f)))

  -- what follows an instruction may store what that makes
  pub next_puts : (mi i : ℕ) (m : MethodInfo) (insn : Insn) → slice_get c.program.methods mi ≡ Some m → slice_get m.code i ≡ Some insn
      → (puts : Bool) × ((j : ℕ) (other : Insn) (next : Target) (u : TagShape) → IsAt c.program (tags_of c) mi j m other next u → other.pc ≡ insn.next → puts_owned owning.owned other.op next ≡ puts)
  next_puts mi i m insn there e = elim (follows m i insn whole e) [
    | inl x ↦ let target = have_targets c.program mi (suc i) m x.0 marked.checked.program there x.1 in (
      puts_owned owning.owned x.0.op target.0,
      λ j other next u at same.
          (let number : j ≡ suc i = one_number m j (suc i) other x.0 whole at.in_code x.1 (same ∙ sym x.2) in
          let one : other ≡ x.0 = same_some (sym at.in_code ∙ (ap (slice_get m.code) number ∙ x.1)) in
          let names : next ≡ target.0 = same_some (sym at.names ∙ (ap (slice_get m.targets) number ∙ target.1)) in
          ap (λ (y : Insn). puts_owned owning.owned y.op next) one ∙ ap (puts_owned owning.owned x.0.op) names),
    )
    | inr x ↦ (false, λ j other next u at same. absurd (let below = (short m j other whole at.in_code).0 in omega (arith, below, same, x.1)))
  ]
    where
      whole : IsLaidOut m
      whole = (method_at c marked mi m there).holds.laid
