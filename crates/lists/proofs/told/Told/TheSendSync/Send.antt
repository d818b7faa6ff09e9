-- It owns nothing, so it may go to another thread.
use Rattle.lists.specs.contracts.told.Told.{the_row, the_type}
use denote.{Param.Send.{IsSend, owning_send, sendable}, RattleType.RattleType}

pub send : (A : RattleType) → IsSend A → IsSend (the_row A)
send A a = owning_send (the_type A) (search sendable, tt) (λ d. tt) (λ k x w. tt)
