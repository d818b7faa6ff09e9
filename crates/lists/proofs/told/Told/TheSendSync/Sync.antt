-- A borrow of it has nothing in memory, so it may be shared as it may be sent.
use Rattle.lists.specs.contracts.told.Told as Told
use Rattle.lists.proofs.told.Told.TheSendSync.Send.{send}
use denote.{Memory.raw_all, Param.Send.{IsSend, IsSync, whole-keyless}, RattleType.RattleType}

pub sync : (A : RattleType) → IsSend A → IsSync (Told.the_row A)
sync A a = record { shared = λ d b o κ q. whole-keyless (raw_all (Told.the_row A).mir) (Told.the_row A).own_val (send A a).owned q d b o }
