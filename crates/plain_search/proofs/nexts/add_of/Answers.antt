use Rattle.std.proofs.Common.{None}
use Rattle.machine_types.specs.declared.plain.Act.TheVariants as acts
use Rattle.plain_search.specs.Nexts.{IsNextRow}
use Rattle.plain_search.proofs.RowLists.{longer_twice}
use Rattle.plain_search.proofs.NextLists.{still_next, all_acts}
use Rattle.plain_search.proofs.nexts.add_of.Goals as goal

pub returns-clause-there : goal.returns-clause-there
returns-clause-there c =
    let l8 = c.in_ok-add_notifies.ensures.longer in
    let l7 = longer_twice (IsNextRow c.args.q.now) c.add_by-7.new.rows.items c.add_by-8.new.rows.items c.add_notifies.new.rows.items c.in_ok-add_by-8.ensures.longer l8 in
    let l6 = longer_twice (IsNextRow c.args.q.now) c.add_by-6.new.rows.items c.add_by-7.new.rows.items c.add_notifies.new.rows.items c.in_ok-add_by-7.ensures.longer l7 in
    let l5 = longer_twice (IsNextRow c.args.q.now) c.add_by-5.new.rows.items c.add_by-6.new.rows.items c.add_notifies.new.rows.items c.in_ok-add_by-6.ensures.longer l6 in
    let l4 = longer_twice (IsNextRow c.args.q.now) c.add_by-4.new.rows.items c.add_by-5.new.rows.items c.add_notifies.new.rows.items c.in_ok-add_by-5.ensures.longer l5 in
    let l3 = longer_twice (IsNextRow c.args.q.now) c.add_by-3.new.rows.items c.add_by-4.new.rows.items c.add_notifies.new.rows.items c.in_ok-add_by-4.ensures.longer l4 in
    let l2 = longer_twice (IsNextRow c.args.q.now) c.add_by-2.new.rows.items c.add_by-3.new.rows.items c.add_notifies.new.rows.items c.in_ok-add_by-3.ensures.longer l3 in
    let l1 = longer_twice (IsNextRow c.args.q.now) c.add_by.new.rows.items c.add_by-2.new.rows.items c.add_notifies.new.rows.items c.in_ok-add_by-2.ensures.longer l2 in
    all_acts c.args.q.now c.add_notifies.new.rows.items c.args.thread
    (still_next (IsNextRow c.args.q.now) c.args.q.now c.add_by.new.rows.items c.add_notifies.new.rows.items (record { thread = c.args.thread; act = acts.Begin }) l1 c.in_ok-add_by.ensures.there)
    (still_next (IsNextRow c.args.q.now) c.args.q.now c.add_by-2.new.rows.items c.add_notifies.new.rows.items (record { thread = c.args.thread; act = acts.Do }) l2 c.in_ok-add_by-2.ensures.there)
    (still_next (IsNextRow c.args.q.now) c.args.q.now c.add_by-3.new.rows.items c.add_notifies.new.rows.items (record { thread = c.args.thread; act = acts.Enter }) l3 c.in_ok-add_by-3.ensures.there)
    (still_next (IsNextRow c.args.q.now) c.args.q.now c.add_by-4.new.rows.items c.add_notifies.new.rows.items (record { thread = c.args.thread; act = acts.Exit }) l4 c.in_ok-add_by-4.ensures.there)
    (still_next (IsNextRow c.args.q.now) c.args.q.now c.add_by-5.new.rows.items c.add_notifies.new.rows.items (record { thread = c.args.thread; act = acts.Wait }) l5 c.in_ok-add_by-5.ensures.there)
    (still_next (IsNextRow c.args.q.now) c.args.q.now c.add_by-6.new.rows.items c.add_notifies.new.rows.items (record { thread = c.args.thread; act = acts.Notify None }) l6 c.in_ok-add_by-6.ensures.there)
    (still_next (IsNextRow c.args.q.now) c.args.q.now c.add_by-7.new.rows.items c.add_notifies.new.rows.items (record { thread = c.args.thread; act = acts.NotifyAll }) l7 c.in_ok-add_by-7.ensures.there)
    (still_next (IsNextRow c.args.q.now) c.args.q.now c.add_by-8.new.rows.items c.add_notifies.new.rows.items (record { thread = c.args.thread; act = acts.Retake }) l8 c.in_ok-add_by-8.ensures.there)
    c.in_ok-add_notifies.ensures.there

pub returns-clause-longer : goal.returns-clause-longer
returns-clause-longer c =
    let l8 = c.in_ok-add_notifies.ensures.longer in
    let l7 = longer_twice (IsNextRow c.args.q.now) c.add_by-7.new.rows.items c.add_by-8.new.rows.items c.add_notifies.new.rows.items c.in_ok-add_by-8.ensures.longer l8 in
    let l6 = longer_twice (IsNextRow c.args.q.now) c.add_by-6.new.rows.items c.add_by-7.new.rows.items c.add_notifies.new.rows.items c.in_ok-add_by-7.ensures.longer l7 in
    let l5 = longer_twice (IsNextRow c.args.q.now) c.add_by-5.new.rows.items c.add_by-6.new.rows.items c.add_notifies.new.rows.items c.in_ok-add_by-6.ensures.longer l6 in
    let l4 = longer_twice (IsNextRow c.args.q.now) c.add_by-4.new.rows.items c.add_by-5.new.rows.items c.add_notifies.new.rows.items c.in_ok-add_by-5.ensures.longer l5 in
    let l3 = longer_twice (IsNextRow c.args.q.now) c.add_by-3.new.rows.items c.add_by-4.new.rows.items c.add_notifies.new.rows.items c.in_ok-add_by-4.ensures.longer l4 in
    let l2 = longer_twice (IsNextRow c.args.q.now) c.add_by-2.new.rows.items c.add_by-3.new.rows.items c.add_notifies.new.rows.items c.in_ok-add_by-3.ensures.longer l3 in
    let l1 = longer_twice (IsNextRow c.args.q.now) c.add_by.new.rows.items c.add_by-2.new.rows.items c.add_notifies.new.rows.items c.in_ok-add_by-2.ensures.longer l2 in
    longer_twice (IsNextRow c.args.q.now) c.args.rows.now.items c.add_by.new.rows.items c.add_notifies.new.rows.items c.in_ok-add_by.ensures.longer l1
