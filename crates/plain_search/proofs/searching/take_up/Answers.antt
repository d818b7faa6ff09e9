use Rattle.std.proofs.Common.{refl, subst}
use Rattle.plain_search.specs.Nexts.{HasNexts, IsNextRow}
use Rattle.plain_search.specs.Rows.{IsSearchRow}
use Rattle.plain_search.proofs.RowLists.{got_index, one_of_all, all_weaker}
use Rattle.plain_search.proofs.ReachedRows.{next_reached}
use Rattle.plain_search.proofs.TakenRows.{noted_sound, noted_taken, more_sound, more_taken}
use Rattle.plain_search.proofs.searching.take_up.Goals as goal

pub returns-then-are_none-clause-sound : goal.returns-then-are_none-clause-sound
returns-then-are_none-clause-sound c =
    let at = got_index c.args.s.now.rows.items c.args.i c.index.result.now c.requires.place c.index.ensures in
    let row = one_of_all (IsSearchRow c.args.p.now) c.args.s.now.rows.items c.args.i c.index.result.now c.requires.sound.rows at in
    let nexts = subst (HasNexts c.index.result.now.plain) (c.are_none.ensures.none c.if-are_none.true) c.in_ok-rows.ensures.there in
    noted_sound c.args.p.now c.args.s.now (record { rows = c.args.s.now.rows; rests = c.push.new.self; table = c.args.s.now.table }) c.args.i c.index.result.now at row.own nexts refl c.in_ok-push.ensures.items c.requires.sound

pub returns-then-are_none-clause-taken : goal.returns-then-are_none-clause-taken
returns-then-are_none-clause-taken c =
    let at = got_index c.args.s.now.rows.items c.args.i c.index.result.now c.requires.place c.index.ensures in
    let row = one_of_all (IsSearchRow c.args.p.now) c.args.s.now.rows.items c.args.i c.index.result.now c.requires.sound.rows at in
    let nexts = subst (HasNexts c.index.result.now.plain) (c.are_none.ensures.none c.if-are_none.true) c.in_ok-rows.ensures.there in
    λ yes t. noted_taken c.args.p.now c.args.s.now (record { rows = c.args.s.now.rows; rests = c.push.new.self; table = c.args.s.now.table }) c.args.i c.index.result.now at row.own nexts refl c.in_ok-push.ensures.items t

pub add_all-requires : goal.add_all-requires
add_all-requires c =
    let at = got_index c.args.s.now.rows.items c.args.i c.index.result.now c.requires.place c.index.ensures in
    let row = one_of_all (IsSearchRow c.args.p.now) c.args.s.now.rows.items c.args.i c.index.result.now c.requires.sound.rows at in
    all_weaker (IsNextRow c.index.result.now.plain) (IsSearchRow c.args.p.now) c.in_ok-rows.rows.items
    (λ x v. next_reached c.args.p.now c.index.result.now.plain x row.own row.reached v) c.in_ok-rows.ensures.nexts

pub returns-in_err-add_all-clause-sound : goal.returns-in_err-add_all-clause-sound
returns-in_err-add_all-clause-sound c =
    let at = got_index c.args.s.now.rows.items c.args.i c.index.result.now c.requires.place c.index.ensures in
    let row = one_of_all (IsSearchRow c.args.p.now) c.args.s.now.rows.items c.args.i c.index.result.now c.requires.sound.rows at in
    more_sound c.args.p.now c.args.s.now _ c.args.i c.index.result.now at row.own c.in_err-add_all.ensures.longer refl c.requires.sound

pub returns-clause-sound : goal.returns-clause-sound
returns-clause-sound c =
    let at = got_index c.args.s.now.rows.items c.args.i c.index.result.now c.requires.place c.index.ensures in
    let row = one_of_all (IsSearchRow c.args.p.now) c.args.s.now.rows.items c.args.i c.index.result.now c.requires.sound.rows at in
    more_sound c.args.p.now c.args.s.now _ c.args.i c.index.result.now at row.own c.in_ok-add_all.ensures.longer refl c.requires.sound

pub returns-clause-taken : goal.returns-clause-taken
returns-clause-taken c =
    let at = got_index c.args.s.now.rows.items c.args.i c.index.result.now c.requires.place c.index.ensures in
    let row = one_of_all (IsSearchRow c.args.p.now) c.args.s.now.rows.items c.args.i c.index.result.now c.requires.sound.rows at in
    λ yes t. more_taken c.args.p.now c.args.s.now _ c.args.i c.index.result.now at row.own c.in_ok-add_all.ensures.longer refl c.in_ok-rows.rows.items c.in_ok-rows.ensures.there c.in_ok-rows.ensures.nexts
    (c.are_none.ensures.some c.if-are_none.false) c.in_ok-add_all.ensures.there t
