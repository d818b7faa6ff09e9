use Rattle.std.proofs.Common.{◌≤◌, ◌+◌, suc, false, arith, slice_get, slice_index_or}
use Rattle.checked_program.{specs.MethodCalls.{size_found, size_if}, proofs.ReachedMethods.found_fits}
use Rattle.checked_program.proofs.reached_code.size_found.Goals as goal

pub overflow_add-total : goal.overflow_add-total
overflow_add-total c =
    let few : size_found c.args.p.now.methods c.args.found.now c.loop-u.u + size_if (slice_index_or c.args.found.now c.loop-u.u false) (slice_get c.args.p.now.methods c.loop-u.u) ≤ 67108864 =
    found_fits c.args.p.now.methods c.args.found.now (suc c.loop-u.u) 67108864 c.requires.size in
    omega (arith, few, c.loop-u.invariant, c.size_if-total.ensures)

pub overflow_cast-result : goal.overflow_cast-result
overflow_cast-result c =
    let few : size_found c.args.p.now.methods c.args.found.now c.loop-u.u ≤ 67108864 = found_fits c.args.p.now.methods c.args.found.now c.loop-u.u 67108864 c.requires.size in
    omega (arith, few, c.loop-u.invariant)
