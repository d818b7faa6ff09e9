use Rattle.std.proofs.Common.{◌≡◌, refl, sym, ap, subst, ◌∙◌, true, false, arith, IsSome}
use Rattle.atomic_table.specs.Seated.{TableId}
use Rattle.checked_program.specs.MarkedProgram.{MarkedProgram}
use Rattle.machine_types.specs.declared.config.Config.{Config}
use Rattle.table_rule.specs.Views.{held_in, HoldsAll}
use Rattle.table_runner.specs.{Handed.{Handed, AreHands}, Running.AreSame, Sharing.{CanBegin, HasBegun, IsNextPart}}
use Rattle.table_runner.proofs.HandedThreads.{counted_hands}
use Rattle.table_runner.proofs.NextHands.{are_next, can_begin, is_next, next_of, none_next, room_next, same_next}
use Rattle.table_runner.proofs.hands.Hands.next.Goals as goal

pub begin-requires-clause-begins : goal.begin-requires-clause-begins
begin-requires-clause-begins c =
    let h : Handed = record { program = c.self.inside.program.told; cfg = c.self.inside.cfg; table_id = c.self.inside.seat.table_id; steps = c.self.inside.seat.steps; threads = c.self.inside.threads; view = c.self.inside.seat.view } in
    let program : c.args.table.now.program ≡ h.program = c.requires.table.1 ∙ ap (λ (k : Handed). k.program) (sym c.self.view_is) in
    let cfg : c.args.table.now.cfg ≡ h.cfg = c.requires.table.2 ∙ ap (λ (k : Handed). k.cfg) (sym c.self.view_is) in
    let all : HoldsAll h.program h.threads = subst (λ (k : Handed). HoldsAll k.program k.threads) (sym c.self.view_is) c.requires.all in
    let can : CanBegin h.program h.cfg h.view c.begin_parts.new.threads = can_begin c.parts_keep_threads.ensures c.runs_have_state.ensures c.shares_are_next.ensures h c.begin_parts.new.threads c.may_begin.result c.self.invariant.0 all c.may_begin.ensures c.if-not-may_begin.false c.begin_parts.ensures in
    subst (λ (q : MarkedProgram). CanBegin q c.args.table.now.cfg h.view c.begin_parts.new.threads) (sym program) (subst (λ (d : Config). CanBegin h.program d h.view c.begin_parts.new.threads) (sym cfg) can)

pub invariant_of-self : goal.invariant_of-self
invariant_of-self c =
    let h : Handed = record { program = c.self.inside.program.told; cfg = c.self.inside.cfg; table_id = c.self.inside.seat.table_id; steps = c.self.inside.seat.steps; threads = c.self.inside.threads; view = c.self.inside.seat.view } in
    let program : c.args.table.now.program ≡ h.program = c.requires.table.1 ∙ ap (λ (k : Handed). k.program) (sym c.self.view_is) in
    let cfg : c.args.table.now.cfg ≡ h.cfg = c.requires.table.2 ∙ ap (λ (k : Handed). k.cfg) (sym c.self.view_is) in
    let all : HoldsAll h.program h.threads = subst (λ (k : Handed). HoldsAll k.program k.threads) (sym c.self.view_is) c.requires.all in
    let begun = subst (λ (d : Config). HasBegun (record { program = h.program; cfg = d; threads = c.begin_parts.new.threads }) c.begin.new.seat.view) cfg (subst (λ (q : MarkedProgram). HasBegun (record { program = q; cfg = c.args.table.now.cfg; threads = c.begin_parts.new.threads }) c.begin.new.seat.view) program c.begin.ensures.begins) in
    let some : IsSome (held_in h.threads 0) = all 0 (omega arith) in (
      counted_hands (record h { table_id = c.begin.new.seat.table_id; threads = c.begin_parts.new.threads; view = c.begin.new.seat.view }) c.begin.new.seat.steps
          (subst (λ (z : TableId). AreHands (record h { table_id = z; threads = c.begin_parts.new.threads; view = c.begin.new.seat.view })) (sym c.begin.ensures.seat.0) (are_next h c.begin_parts.new.threads c.begin.new.seat.view c.self.invariant.0 begun)),
      room_next h.threads c.begin_parts.new.threads (held_in h.threads 0) c.self.inside.reports refl some c.begin_parts.ensures c.self.invariant.1,
    )

pub returns-clause-next : goal.returns-clause-next
returns-clause-next c =
    let h : Handed = record { program = c.self.inside.program.told; cfg = c.self.inside.cfg; table_id = c.self.inside.seat.table_id; steps = c.self.inside.seat.steps; threads = c.self.inside.threads; view = c.self.inside.seat.view } in
    let all : HoldsAll h.program h.threads = subst (λ (k : Handed). HoldsAll k.program k.threads) (sym c.self.view_is) c.requires.all in
    let next = next_of c.parts_keep_threads.ensures c.runs_have_state.ensures c.shares_are_next.ensures h c.begin_parts.new.threads c.may_begin.result c.self.invariant.0 c.may_begin.ensures c.if-not-may_begin.false c.begin_parts.ensures in
    let after : Handed = record h { table_id = c.begin.new.seat.table_id; steps = c.begin.new.seat.steps; threads = c.begin_parts.new.threads; view = c.begin.new.seat.view } in
    let is : IsNextPart h after c.may_begin.result = is_next h c.begin_parts.new.threads c.begin.new.seat.view c.begin.new.seat.table_id c.begin.new.seat.steps c.may_begin.result c.self.invariant.0 all c.may_begin.ensures next c.begin.ensures.seat.0 c.begin.ensures.begins.view c.begin.ensures.seat.2 in
    subst (λ (k : Handed). IsNextPart k after true) c.self.view_is (subst (IsNextPart h after) c.if-not-may_begin.false is)

pub returns-then-not-may_begin-clause-next : goal.returns-then-not-may_begin-clause-next
returns-then-not-may_begin-clause-next c =
    let h : Handed = record { program = c.self.inside.program.told; cfg = c.self.inside.cfg; table_id = c.self.inside.seat.table_id; steps = c.self.inside.seat.steps; threads = c.self.inside.threads; view = c.self.inside.seat.view } in
    let all : HoldsAll h.program h.threads = subst (λ (k : Handed). HoldsAll k.program k.threads) (sym c.self.view_is) c.requires.all in
    let is : IsNextPart h h c.may_begin.result = none_next h c.may_begin.result c.self.invariant.0 all c.may_begin.ensures c.if-not-may_begin.true in
    subst (λ (k : Handed). IsNextPart k k false) c.self.view_is (subst (IsNextPart h h) c.if-not-may_begin.true is)

pub returns-clause-same : goal.returns-clause-same
returns-clause-same c =
    let h : Handed = record { program = c.self.inside.program.told; cfg = c.self.inside.cfg; table_id = c.self.inside.seat.table_id; steps = c.self.inside.seat.steps; threads = c.self.inside.threads; view = c.self.inside.seat.view } in
    let all : HoldsAll h.program h.threads = subst (λ (k : Handed). HoldsAll k.program k.threads) (sym c.self.view_is) c.requires.all in
    subst (λ (k : Handed). AreSame k (record h { table_id = c.begin.new.seat.table_id; steps = c.begin.new.seat.steps; threads = c.begin_parts.new.threads; view = c.begin.new.seat.view })) c.self.view_is
    (same_next h c.begin_parts.new.threads c.begin.new.seat.view c.begin.new.seat.table_id c.begin.new.seat.steps (all 0 (omega arith)) c.begin_parts.ensures c.begin.ensures.seat.0)
