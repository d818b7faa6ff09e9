use Rattle.std.proofs.{Common.{arith, ap, ◌++◌, ◌∷◌, [], List}, lemmas.List.FromFn.map-range_with_len_more}
use Rattle.machine_types.specs.PlainState.{PlainThread, plain_start_thread}
use Rattle.plain_threads.proofs.threads.Threads.start.Goals as goal

pub loop-number-preserved : goal.loop-number-preserved
loop-number-preserved c =
    let more = map-range_with_len_more (plain_start_thread c.args.p.now.program) 0 c.loop-number.number c.loop-number.number (omega arith) in
    rw (c.in_ok-push.ensures.items, c.in_ok-start.ensures, more)
    (ap (λ (xs : List PlainThread). xs ++ plain_start_thread c.args.p.now.program c.loop-number.number ∷ []) c.loop-number.invariant)
