use Rattle.std.proofs.{Common.{◌≡◌, ℕ, ◌+◌, ◌-◌, ◌<◌, ◌≤◌, List, ◌∷◌, ◌++◌, length, map, drop, refl, ap, ◌∙◌, sym, arith, slice_index_or}, lemmas.List.{drop_more, drop_all}}
use Rattle.jvm_types.specs.{CodeTable.value_of, declared.op_row.Given.Given}
use Rattle.checked_program.specs.declared.tag.Tag.{Tag, TheVariants.Untagged}
use Rattle.monitor_tags.proofs.after.push_all.Goals as goal

one_more : (v : Given → Tag) (gives : List Given) (i : ℕ) (d : Given) (base : List Tag) → 0 < i → i ≤ length gives
    → v (slice_index_or gives (i - 1) d) ∷ (map v (drop i gives) ++ base) ≡ map v (drop (i - 1) gives) ++ base
one_more v gives i d base h k =
    let next : i - 1 + 1 ≡ i = omega arith in
    sym (ap (λ l. map v l ++ base) (drop_more gives (i - 1) d (omega arith)) ∙ ap (λ n. v (slice_index_or gives (i - 1) d) ∷ (map v (drop n gives) ++ base)) next)

none_pushed : (v : Given → Tag) (gives : List Given) (base : List Tag) → base ≡ map v (drop (length gives) gives) ++ base
none_pushed v gives base = rw (drop_all (length gives) gives (omega arith)) refl

push_more : (v : Given → Tag) (gives : List Given) (i : ℕ) (d : Given) (base before after : List Tag) (t : Tag) → 0 < i → i ≤ length gives → t ≡ v (slice_index_or gives (i - 1) d)
    → after ≡ t ∷ before → before ≡ map v (drop i gives) ++ base → after ≡ map v (drop (i - 1) gives) ++ base
push_more v gives i d base before after t lo hi e a b =
    a ∙ ap (λ l. t ∷ l) b ∙ ap (λ u. u ∷ (map v (drop i gives) ++ base)) e ∙ one_more v gives i d base lo hi

all_pushed : (v : Given → Tag) (gives : List Given) (i : ℕ) (base after : List Tag) → i ≤ 0 → after ≡ map v (drop i gives) ++ base → after ≡ map v gives ++ base
all_pushed v gives i base after h e = let none : i ≡ 0 = omega arith in e ∙ ap (λ n. map v (drop n gives) ++ base) none

pub loop-i-init : goal.loop-i-init
loop-i-init c = none_pushed (λ left. value_of Untagged (λ type. Untagged) c.args.f.now.stack c.args.f.now.locals left) c.args.gives.now c.args.stack.now

pub loop-i-preserved : goal.loop-i-preserved
loop-i-preserved c = push_more (λ left. value_of Untagged (λ type. Untagged) c.args.f.now.stack c.args.f.now.locals left) c.args.gives.now c.loop-i.i _ c.args.stack.now c.loop-i.stack c.push.new.self c.tag_given.result
    c.loop-i-test.true c.loop-i.auto.i c.tag_given.ensures c.in_ok-push.ensures.ok c.loop-i.invariant

pub returns : goal.returns
returns c = all_pushed (λ left. value_of Untagged (λ type. Untagged) c.args.f.now.stack c.args.f.now.locals left) c.args.gives.now c.loop-i.i c.args.stack.now c.loop-i.stack c.loop-i-test.false c.loop-i.invariant
