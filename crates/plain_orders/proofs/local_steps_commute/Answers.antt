use Rattle.plain_orders.proofs.OwnSteps.{local_steps_are_own}
use Rattle.plain_orders.proofs.Swaps.{local_steps_swap, local_steps_are_alone}
use Rattle.plain_orders.proofs.local_steps_commute.Goals as goal

pub returns-clause-own : goal.returns-clause-own
returns-clause-own c = local_steps_are_own

pub returns-clause-swap : goal.returns-clause-swap
returns-clause-swap c = local_steps_swap

pub returns-clause-alone : goal.returns-clause-alone
returns-clause-alone c = local_steps_are_alone
