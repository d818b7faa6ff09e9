-- Where a place has `this`, before an instruction and after it.
use Rattle.std.proofs.Common.{◌≡◌, ◌≢◌, ℕ, zero, suc, ◌+◌, ◌-◌, ◌<◌, ◌≤◌, Bool, true, false, not, ◌&&◌, ◌||◌, List, [], ◌∷◌, ◌++◌, length, map, drop, Option, Some, None, refl, sym, ap, subst, ◌∙◌, arith, ⊎_elim, ◌==◌, nat_lt, if◌then◌else◌, slice_get, slice_set, slice_index_or}
use Rattle.std.{specs.List.list_all, proofs.{Math.Bool.and-true, lemmas.Bool.{cases_eq, and_from, eq-eqb, ltb-true, ltb-false, ne_eqb, and_parts}}}
use Rattle.std.proofs.lemmas.{List.{length-map, length-set, get_or_append_left, get_or-append-add, get_or-map, get_or-drop, get_or-set_same, get_or-set_other, get_or_past, Folds.list_all-append}, Option.slice_get-get_or}
use Rattle.jvm_types.specs.{CodeTable.{row, value_of, stack_after, locals_after}, declared.{code.{Insn.Insn, Op.Op}, op_row.{Given.{Given, TheVariants.{Fresh, Taken, Local}}, OpRow.OpRow}}}
use Rattle.jvm_types.specs.declared.program.{MethodInfo.MethodInfo, Program.Program, Target.Target}
use Rattle.checked_program.specs.{FrozenPlaces.{KeepThis, KeepsThis}, LockTags.{TagShape, is_this, same_tag, without}, TaggedCode.row_of, Tagging.{moved_tags, tags_by_op, tags_after, tags_at_handler}}
use Rattle.checked_program.{specs.declared.tag.Tag.{Tag, TheVariants.{Untagged, This, At}}, proofs.FrozenChecks.{that_is_this, implied}}
use Rattle.frozen_classes.specs.KeptThis.{all_before, this_at, given_this, some_given_this, stack_this_after, local_this_after, with_number, numbers_where, places_after, places_caught, keeps_places}
use Rattle.jvm_types.specs.declared.code.Op.TheVariants as ops
use Rattle.jvm_types.specs.declared.stack_move.StackMove.TheVariants as moves

-- ---- tests

pub implies : (a b : Bool) → (a ≡ true → b ≡ true) → not a || b ≡ true
implies true b h = h refl
implies false b h = refl

-- ---- the first numbers

pub all_each : (q : ℕ → Bool) (n k : ℕ) → all_before q n ≡ true → k < n → q k ≡ true
all_each q zero k e l = absurd (omega (arith, l))
all_each q (suc n) k e l = ⊎_elim (λ (h : k ≡ n). subst (λ (j : ℕ). q j ≡ true) (sym h) (and_parts (all_before q n) (q n) e).1) (λ (h : k ≢ n). all_each q n k (and_parts (all_before q n) (q n) e).0 (omega (arith, l, h))) (cases_eq k n)

pub all_from : (q : ℕ → Bool) (n : ℕ) → ((k : ℕ) → k < n → q k ≡ true) → all_before q n ≡ true
all_from q zero h = refl
all_from q (suc n) h = and_from (all_before q n) (q n) (all_from q n (λ k l. h k (omega (arith, l)))) (h n (omega arith))

-- ---- keeping

pub this_within : (ts : List Tag) (k : ℕ) → this_at ts k ≡ true → k < length ts
this_within [] k e = absurd (let bad : false ≡ true = e in cc)
this_within (t ∷ ts) zero e = omega arith
this_within (t ∷ ts) (suc k) e = omega (arith, this_within ts k e)

-- a test of the numbers that pass another
tests_same : (p q : ℕ → Bool) (n : ℕ) → list_all p (numbers_where q n) ≡ all_before (λ k. not (q k) || p k) n
tests_same p q zero = refl
tests_same p q (suc n) = by_test (q n) (tests_same p q n)
  where
    by_test : (b : Bool) → list_all p (numbers_where q n) ≡ all_before (λ k. not (q k) || p k) n
        → list_all p (with_number (numbers_where q n) n b) ≡ (all_before (λ k. not (q k) || p k) n && (not b || p n))
    by_test true e = list_all-append p (numbers_where q n) (n ∷ []) ∙ ap (λ (b : Bool). list_all p (numbers_where q n) && b) (and-true (p n)) ∙ ap (λ (b : Bool). b && p n) e
    by_test false e = e ∙ sym (and-true (all_before (λ k. not (q k) || p k) n))

-- a test of places that finds where a list has `this`
module _ (ts us : List Tag) (test : ℕ → Bool) (n : ℕ) (same : (k : ℕ) → this_at ts k ≡ test k) (within : (k : ℕ) → test k ≡ true → k < n) where
  pub keep_from : list_all (λ k. this_at us k) (numbers_where test n) ≡ true → KeepThis ts us
  keep_from e k h =
      let has : test k ≡ true = sym (same k) ∙ ap is_this h in
      let all : all_before (λ k. not (test k) || this_at us k) n ≡ true = sym (tests_same (λ k. this_at us k) test n) ∙ e in
      that_is_this (slice_index_or us k Untagged) (implied (test k) (this_at us k) (all_each (λ k. not (test k) || this_at us k) n k all (within k has)) has)

  pub keep_to : KeepThis ts us → list_all (λ k. this_at us k) (numbers_where test n) ≡ true
  keep_to h = tests_same (λ k. this_at us k) test n ∙ all_from (λ k. not (test k) || this_at us k) n (λ k l. implies (test k) (this_at us k) (λ e. ap is_this (h k (that_is_this (slice_index_or ts k Untagged) (same k ∙ e)))))

-- ---- what an instruction leaves on the stack

given_is : (f : TagShape) (given : Given) → is_this (value_of Untagged (λ type. Untagged) f.stack f.locals given) ≡ given_this f given
given_is f (Fresh type) = refl
given_is f (Taken place) = refl
given_is f (Local i) = refl

moved_stack : (r : OpRow) (f : TagShape) (k : ℕ) → this_at (stack_after Untagged (λ type. Untagged) r f.stack f.locals) k ≡ stack_this_after r f k
moved_stack r f k = by_test (nat_lt k (length r.gives)) refl
  where
    by_test : (b : Bool) → nat_lt k (length r.gives) ≡ b
        → this_at (map (value_of Untagged (λ type. Untagged) f.stack f.locals) r.gives ++ drop (length r.takes) f.stack) k ≡ (if b then some_given_this f (slice_get r.gives k) else this_at f.stack (length r.takes + (k - length r.gives)))
    by_test true e =
        let low : k < length r.gives = ltb-true k (length r.gives) e in
        let long : length (map (value_of Untagged (λ type. Untagged) f.stack f.locals) r.gives) ≡ length r.gives = length-map r.gives (value_of Untagged (λ type. Untagged) f.stack f.locals) in
        let left : slice_index_or (map (value_of Untagged (λ type. Untagged) f.stack f.locals) r.gives ++ drop (length r.takes) f.stack) k Untagged ≡ slice_index_or (map (value_of Untagged (λ type. Untagged) f.stack f.locals) r.gives) k Untagged =
        get_or_append_left (map (value_of Untagged (λ type. Untagged) f.stack f.locals) r.gives) (drop (length r.takes) f.stack) Untagged k (omega (arith, low, long)) in
        let mapped : slice_index_or (map (value_of Untagged (λ type. Untagged) f.stack f.locals) r.gives) k Untagged ≡ value_of Untagged (λ type. Untagged) f.stack f.locals (slice_index_or r.gives k (Taken 0)) =
        get_or-map (value_of Untagged (λ type. Untagged) f.stack f.locals) r.gives k (Taken 0) Untagged low in
        ap is_this (left ∙ mapped) ∙ given_is f (slice_index_or r.gives k (Taken 0)) ∙ sym (ap (some_given_this f) (slice_get-get_or r.gives k (Taken 0) low))
    by_test false e =
        let high : length r.gives ≤ k = ltb-false k (length r.gives) e in
        let long : length (map (value_of Untagged (λ type. Untagged) f.stack f.locals) r.gives) ≡ length r.gives = length-map r.gives (value_of Untagged (λ type. Untagged) f.stack f.locals) in
        let right : slice_index_or (map (value_of Untagged (λ type. Untagged) f.stack f.locals) r.gives ++ drop (length r.takes) f.stack) (length (map (value_of Untagged (λ type. Untagged) f.stack f.locals) r.gives) + (k - length r.gives)) Untagged ≡ slice_index_or (drop (length r.takes) f.stack) (k - length r.gives) Untagged =
        get_or-append-add (map (value_of Untagged (λ type. Untagged) f.stack f.locals) r.gives) (drop (length r.takes) f.stack) (k - length r.gives) Untagged in
        let place : length (map (value_of Untagged (λ type. Untagged) f.stack f.locals) r.gives) + (k - length r.gives) ≡ k = omega (arith, high, long) in
        ap is_this (subst (λ (j : ℕ). slice_index_or (map (value_of Untagged (λ type. Untagged) f.stack f.locals) r.gives ++ drop (length r.takes) f.stack) j Untagged ≡ slice_index_or (drop (length r.takes) f.stack) (k - length r.gives) Untagged) place right
        ∙ get_or-drop (length r.takes) f.stack (k - length r.gives) Untagged)

-- a fresh tag of `dup` is not that of `this`, nor was the one that it takes away
untag_one : (pc : ℕ) (t : Tag) → is_this (if same_tag t (At pc) then Untagged else t) ≡ is_this t
untag_one pc Untagged = refl
untag_one pc This = refl
untag_one pc (At q) = by_test (q == pc)
  where
    by_test : (b : Bool) → is_this (if b then Untagged else At q) ≡ false
    by_test true = refl
    by_test false = refl

this_without : (pc : ℕ) (ts : List Tag) (k : ℕ) → this_at (without pc ts) k ≡ this_at ts k
this_without pc [] k = refl
this_without pc (t ∷ ts) zero = untag_one pc t
this_without pc (t ∷ ts) (suc k) = this_without pc ts k

dup_stack : (p : Program) (m : MethodInfo) (pc : ℕ) (target : Target) (ts locals : List Tag) (k : ℕ) → this_at (At pc ∷ At pc ∷ without pc ts) k ≡ this_at (stack_after Untagged (λ type. Untagged) (row p m pc target (ops.Stack moves.Dup)) (Untagged ∷ ts) locals) k
dup_stack p m pc target ts locals (suc (suc k)) = this_without pc ts k
dup_stack p m pc target ts locals k = refl

same_stack : (p : Program) (m : MethodInfo) (target : Target) (pc : ℕ) (op : Op) (ts : List Tag) (f : TagShape) → f.stack ≡ ts → (k : ℕ) → this_at (tags_by_op pc (row p m pc target op) op ts f).stack k ≡ this_at (moved_tags (row p m pc target op) f).stack k
same_stack p m target pc (ops.Stack moves.Dup) (Untagged ∷ ts) f e k = subst (λ (l : List Tag). this_at (At pc ∷ At pc ∷ without pc ts) k ≡ this_at (stack_after Untagged (λ type. Untagged) (row p m pc target (ops.Stack moves.Dup)) l f.locals) k) (sym e) (dup_stack p m pc target ts f.locals k)
same_stack p m target pc ops.Monitorenter (t ∷ ts) f e k = refl
same_stack p m target pc op ts f e k = refl

same_locals : (p : Program) (m : MethodInfo) (target : Target) (pc : ℕ) (op : Op) (ts : List Tag) (f : TagShape) (k : ℕ) → this_at (tags_by_op pc (row p m pc target op) op ts f).locals k ≡ this_at (moved_tags (row p m pc target op) f).locals k
same_locals p m target pc (ops.Stack moves.Dup) (Untagged ∷ ts) f k = this_without pc f.locals k
same_locals p m target pc ops.Monitorenter (t ∷ ts) f k = refl
same_locals p m target pc op ts f k = refl

-- ---- what it leaves in locals

set_this : (ls : List Tag) (i : ℕ) (v : Tag) (k : ℕ) → this_at (slice_set ls i v) k ≡ (if (k == i) && nat_lt k (length ls) then is_this v else this_at ls k)
set_this ls i v k = ⊎_elim (λ (q : k ≡ i). here q) (λ (q : k ≢ i). rw (ne_eqb k i q) (ap is_this (get_or-set_other ls i k v Untagged q))) (cases_eq k i)
  where
    at_i : (b : Bool) → nat_lt i (length ls) ≡ b → this_at (slice_set ls i v) i ≡ (if b then is_this v else this_at ls i)
    at_i true e = ap is_this (get_or-set_same ls i v Untagged (ltb-true i (length ls) e))
    at_i false e =
        let high : length ls ≤ i = ltb-false i (length ls) e in
        let long : length (slice_set ls i v) ≡ length ls = length-set ls i v in
        ap is_this (get_or_past (slice_set ls i v) i Untagged (omega (arith, high, long)) ∙ sym (get_or_past ls i Untagged high))

    here : k ≡ i → this_at (slice_set ls i v) k ≡ (if (k == i) && nat_lt k (length ls) then is_this v else this_at ls k)
    here q = rw (eq-eqb k i q) (subst (λ (j : ℕ). this_at (slice_set ls i v) j ≡ (if nat_lt j (length ls) then is_this v else this_at ls j)) (sym q) (at_i (nat_lt i (length ls)) refl))

moved_locals : (writes : Option (ℕ × Given)) (f : TagShape) (k : ℕ) → this_at (locals_after Untagged (λ type. Untagged) writes f.stack f.locals) k ≡ local_this_after writes f k
moved_locals None f k = refl
moved_locals (Some write) f k = rw (← given_is f write.1) (set_this f.locals write.0 (value_of Untagged (λ type. Untagged) f.stack f.locals write.1) k)

-- ---- no test looks further than the places that there are

stack_within : (r : OpRow) (f : TagShape) (k : ℕ) → stack_this_after r f k ≡ true → k < length r.gives + length f.stack
stack_within r f k e = by_test (nat_lt k (length r.gives)) refl e
  where
    by_test : (b : Bool) → nat_lt k (length r.gives) ≡ b → (if b then some_given_this f (slice_get r.gives k) else this_at f.stack (length r.takes + (k - length r.gives))) ≡ true → k < length r.gives + length f.stack
    by_test true h x = omega (arith, ltb-true k (length r.gives) h)
    by_test false h x = omega (arith, ltb-false k (length r.gives) h, this_within f.stack (length r.takes + (k - length r.gives)) x)

locals_within : (writes : Option (ℕ × Given)) (f : TagShape) (k : ℕ) → local_this_after writes f k ≡ true → k < length f.locals
locals_within None f k e = this_within f.locals k e
locals_within (Some write) f k e = by_test (k == write.0) (nat_lt k (length f.locals)) refl e
  where
    by_test : (b c : Bool) → nat_lt k (length f.locals) ≡ c → (if b && c then given_this f write.1 else this_at f.locals k) ≡ true → k < length f.locals
    by_test true true h x = ltb-true k (length f.locals) h
    by_test b c h x = this_within f.locals k x

-- ---- along an edge

module _ (p : Program) (m : MethodInfo) (insn : Insn) (target : Target) (f g : TagShape) where
  stack_same : (k : ℕ) → this_at (tags_after insn (row_of p m insn target) f).stack k ≡ stack_this_after (row_of p m insn target) f k
  stack_same k = same_stack p m target insn.pc insn.op f.stack f refl k ∙ moved_stack (row_of p m insn target) f k

  locals_same : (k : ℕ) → this_at (tags_after insn (row_of p m insn target) f).locals k ≡ local_this_after (row_of p m insn target).writes f k
  locals_same k = same_locals p m target insn.pc insn.op f.stack f k ∙ moved_locals (row_of p m insn target).writes f k

  pub after_from : keeps_places (places_after (row_of p m insn target) f) g ≡ true → KeepsThis (tags_after insn (row_of p m insn target) f) g
  after_from e =
      let parts = and_parts (list_all (λ k. this_at g.stack k) (places_after (row_of p m insn target) f).stack) (list_all (λ k. this_at g.locals k) (places_after (row_of p m insn target) f).locals) e in
      record {
        stack = keep_from (tags_after insn (row_of p m insn target) f).stack g.stack (stack_this_after (row_of p m insn target) f) (length (row_of p m insn target).gives + length f.stack) stack_same (stack_within (row_of p m insn target) f) parts.0;
        locals = keep_from (tags_after insn (row_of p m insn target) f).locals g.locals (local_this_after (row_of p m insn target).writes f) (length f.locals) locals_same (locals_within (row_of p m insn target).writes f) parts.1;
      }

  pub after_to : KeepsThis (tags_after insn (row_of p m insn target) f) g → keeps_places (places_after (row_of p m insn target) f) g ≡ true
  after_to h = and_from (list_all (λ k. this_at g.stack k) (places_after (row_of p m insn target) f).stack) (list_all (λ k. this_at g.locals k) (places_after (row_of p m insn target) f).locals)
      (keep_to (tags_after insn (row_of p m insn target) f).stack g.stack (stack_this_after (row_of p m insn target) f) (length (row_of p m insn target).gives + length f.stack) stack_same (stack_within (row_of p m insn target) f) h.stack)
      (keep_to (tags_after insn (row_of p m insn target) f).locals g.locals (local_this_after (row_of p m insn target).writes f) (length f.locals) locals_same (locals_within (row_of p m insn target).writes f) h.locals)

pub caught_from : (f g : TagShape) → keeps_places (places_caught f) g ≡ true → KeepsThis (tags_at_handler f) g
caught_from f g e = record { stack = no_stack; locals = keep_from f.locals g.locals (λ k. this_at f.locals k) (length f.locals) (λ k. refl) (this_within f.locals) e }
  where
    no_stack : KeepThis (Untagged ∷ []) g.stack
    no_stack zero h = cc
    no_stack (suc k) h = cc

pub caught_to : (f g : TagShape) → KeepsThis (tags_at_handler f) g → keeps_places (places_caught f) g ≡ true
caught_to f g h = keep_to f.locals g.locals (λ k. this_at f.locals k) (length f.locals) (λ k. refl) (this_within f.locals) h.locals
