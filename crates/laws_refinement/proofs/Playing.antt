-- What a law of an attempt and the plain machine begins with: a thread in the attempt, of a reached state that stands beside a plain
-- one, and its plain thread.
use Rattle.std.proofs.Common.{◌≡◌, ℕ, Bool, Option, Some, subst, slice_get}
use Rattle.machine_types.specs.{Agreement.{AttemptFits, ThreadFits, has_wait_bit}, Owners.references_of, PlainState.PlainThread, Threads.Attempt}
use Rattle.laws_simulation.proofs.{Assembled.got_same_length, Turns.Member}

pub record Player : Type 0 where
  pub member : Member
  pub open member use *
  pub a : Attempt
  pub tries : x.attempt ≡ Some a

module _ (player : Player) where
  open player use {c, s, q, beside, t, x, here, a, tries}

  abbrev pub has_bit : ℕ → Bool
  has_bit = has_wait_bit (references_of q.objects) s.words t

  pub plain_there : (z : PlainThread) × (slice_get q.threads t ≡ Some z)
  plain_there = got_same_length s.threads q.threads t x beside.agrees.many here

  pub plain_fits : AttemptFits x a plain_there.0
  plain_fits = subst (λ (o : Option Attempt). ThreadFits c.program has_bit x o plain_there.0) tries (beside.agrees.threads t x plain_there.0 here plain_there.1)
