use Rattle.std.proofs.Common.{◌≡◌, ◌<◌, ap, sym, ◌∙◌, arith}
use Rattle.machine_types.specs.Core.{next_threads}
use Rattle.replay_runner.{specs.Running.{Running, parts_left}, proofs.LessWork.{alone_parts, next_parts}}
use Rattle.replay_runner.proofs.ending.finish.Goals as goal

pub loop-locked-smaller : goal.loop-locked-smaller
loop-locked-smaller g c =
    let was = c.loop-locked.locked in
    let begun = c.next.new.self in
    let on = c.run_alone.ensures.on in
    let fewer : parts_left (next_threads was.program.program was.core.threads) < parts_left was.core.threads = next_parts was.program.program was.core.threads (sym c.next.ensures.may ∙ c.loop-locked-test.true) in
    let there : parts_left begun.core.threads ≡ parts_left (next_threads was.program.program was.core.threads) = ap (λ (m : Running). parts_left m.core.threads) c.next.ensures.next in
    let alone : parts_left c.run_alone.new.self.core.threads ≡ parts_left begun.core.threads = ap (λ (m : Running). parts_left m.core.threads) on.1 ∙ alone_parts c.given_is_kept.ensures begun.program begun.core 0 on.0 in
    omega (arith, fewer, there, alone, c.run_live-in-loop-locked.ensures.parts)
