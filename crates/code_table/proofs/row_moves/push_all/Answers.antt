use Rattle.std.proofs.{Common.{◌≡◌, ℕ, ◌+◌, ◌-◌, ◌<◌, ◌≤◌, List, ◌∷◌, ◌++◌, length, map, drop, refl, ap, ◌∙◌, sym, arith, slice_index_or}, lemmas.List.{drop_more, drop_all}}
use Rattle.jvm_types.specs.{CodeTable.value_of, declared.op_row.Given.Given}
use Rattle.code_table.proofs.row_moves.push_all.Goals as goal

one_more : {A : Type 0} (v : Given → A) (gives : List Given) (i : ℕ) (d : Given) (base : List A) → 0 < i → i ≤ length gives
    → v (slice_index_or gives (i - 1) d) ∷ (map v (drop i gives) ++ base) ≡ map v (drop (i - 1) gives) ++ base
one_more v gives i d base h k =
    let next : i - 1 + 1 ≡ i = omega arith in
    sym (ap (λ l. map v l ++ base) (drop_more gives (i - 1) d (omega arith)) ∙ ap (λ n. v (slice_index_or gives (i - 1) d) ∷ (map v (drop n gives) ++ base)) next)

none_pushed : {A : Type 0} (v : Given → A) (gives : List Given) (base : List A) → base ≡ map v (drop (length gives) gives) ++ base
none_pushed v gives base = rw (drop_all (length gives) gives (omega arith)) refl

push_more : {A : Type 0} (v : Given → A) (gives : List Given) (i : ℕ) (d : Given) (base before after : List A) (t : A) → 0 < i → i ≤ length gives → t ≡ v (slice_index_or gives (i - 1) d)
    → after ≡ t ∷ before → before ≡ map v (drop i gives) ++ base → after ≡ map v (drop (i - 1) gives) ++ base
push_more v gives i d base before after t lo hi e a b =
    a ∙ ap (λ l. t ∷ l) b ∙ ap (λ u. u ∷ (map v (drop i gives) ++ base)) e ∙ one_more v gives i d base lo hi

all_pushed : {A : Type 0} (v : Given → A) (gives : List Given) (i : ℕ) (base after : List A) → i ≤ 0 → after ≡ map v (drop i gives) ++ base → after ≡ map v gives ++ base
all_pushed v gives i base after h e = let none : i ≡ 0 = omega arith in e ∙ ap (λ n. map v (drop n gives) ++ base) none

pub loop-i-init : goal.loop-i-init
loop-i-init g c = none_pushed (λ left. value_of (g.M.Making.none c.args.making.now) (g.M.Making.made c.args.making.now) c.args.stack.now c.args.locals.now left) c.args.gives.now c.args.pushed.now

pub loop-i-preserved : goal.loop-i-preserved
loop-i-preserved g c = push_more (λ left. value_of (g.M.Making.none c.args.making.now) (g.M.Making.made c.args.making.now) c.args.stack.now c.args.locals.now left) c.args.gives.now c.loop-i.i _ c.args.pushed.now c.loop-i.pushed c.push.new.self c.value_of.result
    c.loop-i-test.true c.loop-i.auto.i c.value_of.ensures c.in_ok-push.ensures.ok c.loop-i.invariant

pub returns : goal.returns
returns g c = all_pushed (λ left. value_of (g.M.Making.none c.args.making.now) (g.M.Making.made c.args.making.now) c.args.stack.now c.args.locals.now left) c.args.gives.now c.loop-i.i c.args.pushed.now c.loop-i.pushed c.loop-i-test.false c.loop-i.invariant
