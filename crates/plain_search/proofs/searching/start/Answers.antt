use Rattle.std.proofs.Common.{ap, subst, List}
use Rattle.history_rule.specs.Steps.{Played}
use Rattle.plain_search.specs.declared.row.Row.{Row}
use Rattle.plain_search.specs.Rows.{IsLonger, IsSearchRow}
use Rattle.plain_search.proofs.ReachedRows.{start_reached}
use Rattle.plain_search.proofs.TakenRows.{begun_sound}
use Rattle.plain_search.proofs.searching.start.Goals as goal

pub returns-clause-sound : goal.returns-clause-sound
returns-clause-sound c =
    let own = ap (λ (q : Played). q.program) c.in_ok-plain.ensures in
    let state = ap (λ (q : Played). q.state) c.in_ok-plain.ensures in
    begun_sound c.args.p.now _
    (subst (λ (xs : List Row). IsLonger (IsSearchRow c.args.p.now) xs c.add.new.rows.items) c.new-rows.ensures.items
    (c.in_ok-add.ensures.longer c.args.p.now (start_reached c.args.p.now _ own state)))
    c.new-rests.ensures.items
