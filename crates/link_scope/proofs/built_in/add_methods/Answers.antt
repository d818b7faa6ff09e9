use Rattle.std.{proofs.Common.{subst, List, ◌≡◌, ◌++◌, ◌-◌, map, arith, ℕ}, specs.List.range_with_len}
use Rattle.jvm_types.specs.Members.{Entry, init_of}
use Rattle.link_scope.{specs.{BuiltIn.first_methods, MemberTables.Adds}, proofs.TableLaws.{adds_next, inits_next}}
use Rattle.link_scope.proofs.built_in.add_methods.Goals as goal

pub loop-class-preserved : goal.loop-class-preserved
loop-class-preserved c = subst (λ (xs : List Entry). Adds c.args.texts.now.numbers c.args.table.now c.add.new.table xs) (inits_next c.loop-class.class (omega arith))
    (adds_next c.args.texts.now.numbers _ _ _ _ _ _ c.loop-class.invariant c.in_ok-add.ensures c.init_of.ensures)

pub returns : goal.returns
returns c = let e : c.loop-class.class - 4 ≡ 12 = omega arith in
    subst (λ (n : ℕ). Adds c.args.texts.now.numbers c.args.table.now c.loop-class.table (first_methods ++ map init_of (range_with_len 4 n))) e c.loop-class.invariant
