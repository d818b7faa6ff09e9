-- Who held the monitor for which a thread had made all its turns, by its word and what was found
-- there: the number of the thread and 1, or 0.
use Rattle.std.specs.Prelude.{ℕ, zero, suc, ◌/◌, ◌%◌}
use Rattle.jvm_types.specs.declared.outcome.End.{End}
use Rattle.jvm_types.specs.declared.outcome.End.TheVariants as ends
use Rattle.event_texts.specs.SharedWords.{SharedWord, Owner, Lock}
use Rattle.event_texts.specs.declared.sights.Before.{Before}

-- by the kind of a lock word and what stands above it: a free lock and a fat one name no thread
abbrev pub lock_owner : (kind upper : ℕ) → ℕ
lock_owner zero n = 0
lock_owner (suc zero) n = 0
lock_owner kind n = n

abbrev pub owner_in : SharedWord → (found : ℕ) → ℕ
owner_in (Lock m) n = lock_owner (n % 4) (n / 4)
owner_in (Owner m r) n = n
owner_in word n = 0

-- where the limit of turns ended it
abbrev pub holder : End → Before → ℕ
holder ends.Turns b = owner_in b.word b.found
holder end b = 0
