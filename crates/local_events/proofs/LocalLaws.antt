-- Events of one thread that want no access, one after the other.
use Rattle.std.proofs.Common.{◌≡◌, ℕ, zero, suc, None, refl, sym, ap, ◌∙◌}
use Rattle.checked_program.specs.MarkedProgram.{MarkedProgram}
use Rattle.machine_types.specs.{Events.{wanted, moved}, Threads.Thread}
use Rattle.local_events.specs.Locals.{AfterLocals, FollowsItself, FollowsOn}

local_more : (k : ℕ) (c : MarkedProgram) (x y : Thread) → AfterLocals c x k y → wanted c y y.phase ≡ None
    → AfterLocals c x (suc k) (moved c y y.phase 0)
local_more zero c x y e none = (ap (λ (z : Thread). wanted c z z.phase) (sym e) ∙ none, ap (λ (z : Thread). moved c z z.phase 0) e)
local_more (suc k) c x y e none = (e.0, local_more k c (moved c x x.phase 0) y e.1 none)

pub follows_on : FollowsOn
follows_on c x y follows none = (suc follows.0, local_more follows.0 c x y follows.1 none)

pub follows_itself : FollowsItself
follows_itself c x = (zero, refl)
