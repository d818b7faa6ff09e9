use Rattle.std.proofs.Common.{◌++◌, ◌∷◌, [], sym, subst}
use Rattle.std.specs.List.{AllByRecursion}
use Rattle.plain_search.specs.Rows.{IsSearchRow}
use Rattle.plain_search.proofs.RowLists.{append_nil, no_longer, longer_twice, none_in, more_in, moved_over, first_part, last_part}
use Rattle.plain_search.proofs.rows.add_all.Goals as goal

pub loop-row-init : goal.loop-row-init
loop-row-init c = record {
  there = ([], sym (append_nil c.args.more.items), none_in c.args.rows.now.items);
  own = c.requires;
  longer = no_longer (IsSearchRow c.args.p.now) c.args.rows.now.items;
}

pub loop-row-preserved : goal.loop-row-preserved
loop-row-preserved c =
    let v = c.loop-row.invariant.there in
    let parts : AllByRecursion (IsSearchRow c.args.p.now) (c.take_last.new.rows.items ++ c.in-Some.row ∷ []) =
    subst (AllByRecursion (IsSearchRow c.args.p.now)) c.in-Some.ensures c.loop-row.invariant.own in
    let own = (last_part (IsSearchRow c.args.p.now) c.take_last.new.rows.items (c.in-Some.row ∷ []) parts).0 in
    let longer = c.add.ensures.longer c.args.p.now own in
    record {
      there = (
        c.in-Some.row ∷ v.0,
        moved_over c.args.more.items c.loop-row.left.items c.take_last.new.rows.items v.0 c.in-Some.row v.1 c.in-Some.ensures,
        more_in (IsSearchRow c.args.p.now) c.loop-row.rows.items c.add.new.rows.items v.0 c.in-Some.row longer v.2 c.in_ok-add.ensures.there,
      );
      own = first_part (IsSearchRow c.args.p.now) c.take_last.new.rows.items (c.in-Some.row ∷ []) parts;
      longer = longer_twice (IsSearchRow c.args.p.now) c.args.rows.now.items c.loop-row.rows.items c.add.new.rows.items c.loop-row.invariant.longer longer;
    }

pub returns-in_err-add-clause-longer : goal.returns-in_err-add-clause-longer
returns-in_err-add-clause-longer c =
    let parts : AllByRecursion (IsSearchRow c.args.p.now) (c.take_last.new.rows.items ++ c.in-Some.row ∷ []) =
    subst (AllByRecursion (IsSearchRow c.args.p.now)) c.in-Some.ensures c.loop-row.invariant.own in
    let own = (last_part (IsSearchRow c.args.p.now) c.take_last.new.rows.items (c.in-Some.row ∷ []) parts).0 in
    longer_twice (IsSearchRow c.args.p.now) c.args.rows.now.items c.loop-row.rows.items c.add.new.rows.items c.loop-row.invariant.longer (c.in_err-add.ensures.longer c.args.p.now own)
