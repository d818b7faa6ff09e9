-- Most events leave a thread in a plain phase, and its attempt as it was or none.
use Rattle.std.proofs.Common.{◌≡◌, ℕ, zero, suc, ◌<◌, nat_lt, Bool, true, false, cond, Option, Some, None, refl, sym, subst}
use Rattle.jvm_types.specs.declared.program.Program.{Program}
use Rattle.checked_program.specs.MarkedProgram.{MarkedProgram}
use Rattle.machine_types.specs.{Elision.{is_same, elided}, Events.moved, Frames.went_on, Going.{goes_on, goes_on_if}, Instructions.printed, Monitors.finishes, Onward.{Onward, Running, RootReturned}}
use Rattle.machine_types.specs.{Owners.{Locks, IsSeen, AttemptSawIn}, Threads.{Thread, Attempt}, declared.{config.Config.Config, phase.{After.After, Phase.Phase}}}
use Rattle.laws_threads.proofs.ThreadMove.{LeadsTo, TurnsTo, Move, becomes, counting, any_move, if_either, looks_in, takes_in, gives_up_in, over_to, same_onward}
use Rattle.laws_states.proofs.{CalmMoves.{waits_in, asks_in}, CountedPhases.IsPlain, SameTally.LeavesLocks}
use Rattle.jvm_types.specs.declared.outcome.End.TheVariants as ends
use Rattle.machine_types.specs.declared.phase.Phase.TheVariants as phases
use Rattle.laws_threads.proofs.ThreadMove as moves

-- ---- the attempt is none, or looks back at what it looked at

abbrev pub LooksBack : (new old : Option Attempt) → Type 0
LooksBack None old = Unit {0}
LooksBack (Some b) None = ⊥
LooksBack (Some b) (Some a) = (b.monitor ≡ a.monitor) × (b.noted ≡ a.noted)

pub same_look : (a : Option Attempt) → LooksBack a a
same_look None = tt
same_look (Some a) = (refl, refl)

pub looks_saw : (v : Locks) (count : ℕ → ℕ) (cfg : Config) (new old : Option Attempt) → LooksBack new old → AttemptSawIn v count cfg old → AttemptSawIn v count cfg new
looks_saw v count cfg None old k saw = tt
looks_saw v count cfg (Some b) None k saw = absurd k
looks_saw v count cfg (Some b) (Some a) k saw = record {
  seen = subst (λ (m : ℕ). IsSeen (v.lock m) b.noted (count m)) (sym k.0) (subst (λ (n : ℕ). IsSeen (v.lock a.monitor) n (count a.monitor)) (sym k.1) saw.seen);
  not_last = subst (λ (n : ℕ). n < cfg.range) (sym k.1) saw.not_last;
}

-- ---- how threads go on

pub record Plainly (old : Option Attempt) (y : Thread) : Type 0 where
  pub phase : IsPlain y.phase
  pub attempt : LooksBack y.attempt old

pub runs_plain : (b : Bool) → IsPlain (cond b phases.Run (phases.Ending ends.Steps))
runs_plain true = tt
runs_plain false = tt

module _ (old : Option Attempt) where
  goes : (s : Thread) (o : Onward) → LooksBack s.attempt old → Plainly old (goes_on s o)
  goes s (Running frames) k = record { phase = runs_plain (nat_lt s.counts.instructions s.cfg.steps); attempt = k }
  goes s RootReturned k = record { phase = over_to IsPlain s.roots (λ e. tt) (λ number rest e. tt); attempt = k }
  goes s o k = record { phase = tt; attempt = k }

  pub goes_if : (s : Thread) (o : Option Onward) → IsPlain s.phase → LooksBack s.attempt old → Plainly old (goes_on_if s o)
  goes_if s None p k = record { phase = p; attempt = k }
  goes_if s (Some o) p k = goes s o k

-- ---- events that leave locks alone

abbrev Never : Phase → Type 0
Never phase = LeavesLocks phase → ⊥

leads_plain : (p : Program) (s : Thread) (got : ℕ) (was now : Phase) → LeadsTo p s got was now → LeavesLocks was → IsPlain now
leads_plain p s got was _ (moves.to_take m count k e) n = absurd (looks_in Never m was k (λ tried n. n) (λ n. n) n)
leads_plain p s got was _ (moves.to_take_fat m r k e) n = absurd (looks_in Never m was k (λ tried n. n) (λ n. n) n)
leads_plain p s got was now k n = assumption

turns_never : (s : Thread) (got : ℕ) (was now : Phase) → TurnsTo s got was now → Never was
turns_never s got was _ (moves.looks_again m k) n = looks_in Never m was k (λ tried n. n) (λ n. n) n
turns_never s got was _ (moves.flags m u k e) n = looks_in Never m was k (λ tried n. n) (λ n. n) n
turns_never s got was now k n = n

plain_moved : (c : MarkedProgram) (s : Thread) (got : ℕ) (was : Phase) (k : Move c s got was) → LeavesLocks was → IsPlain s.phase → Plainly s.attempt (becomes c s got was k)
plain_moved c s got was (moves.stays k) n h = record { phase = h; attempt = same_look s.attempt }
plain_moved c s got was (moves.goes o k) n h = goes s.attempt s o (same_look s.attempt)
plain_moved c s got was (moves.fails_in t e d k) n h = record { phase = tt; attempt = tt }
plain_moved c s got was (moves.leads now k) n h = record { phase = leads_plain c.program s got was now k n; attempt = same_look s.attempt }
plain_moved c s got was (moves.turns now k) n h = absurd (turns_never s got was now k n)
plain_moved c s got _ (moves.makes at word size e f t) n h = record { phase = tt; attempt = same_look s.attempt }
plain_moved c s got _ (moves.prints at i e f t) n h = goes s.attempt (printed s got i) (Running (went_on c.program at 0)) (same_look s.attempt)
plain_moved c s got _ (moves.asks_to_wait at m e now f l t k) n h = record { phase = waits_in IsPlain m e.kept now k tt (λ r. tt); attempt = same_look s.attempt }
plain_moved c s got _ (moves.asks at m e now f y l k) n h = record { phase = asks_in IsPlain m e.kept now k (λ r. tt) (λ r. tt); attempt = same_look s.attempt }
plain_moved c s got _ (moves.starts number roots e) n h = goes_if s.attempt (record s { roots = roots }) _ h (same_look s.attempt)
plain_moved c s got was (moves.takes_lock m kept k) n h = absurd (takes_in Never got m was kept k (λ count n. n) (λ r n. n) n)
plain_moved c s got was (moves.gives_up m a k) n h = absurd (gives_up_in Never s m a was k (λ n. n) (λ n. n) n)
plain_moved c s got _ k n h = absurd n

pub moves_plainly : (c : MarkedProgram) (s : Thread) (phase : Phase) (got : ℕ) → LeavesLocks phase → IsPlain s.phase → Plainly s.attempt (moved c s phase got)
moves_plainly c s phase got n h = any_move (Plainly s.attempt) c s phase got (λ i k. plain_moved c (counting i s) got phase k n h)

-- ---- an attempt's section is left

pub finished : (p : Program) (s : Thread) (a : After) (t : Attempt) (inner got : ℕ) → IsPlain s.phase → s.attempt ≡ Some t → Plainly s.attempt (finishes p s a t inner got)
finished p s a t zero got plain e = if_either (Plainly s.attempt) (is_same t got) _ _ (goes_if s.attempt (elided s) _ plain tt) (record { phase = tt; attempt = tt })
finished p s a t (suc inner) got plain e = goes_if s.attempt (record s { attempt = Some (record t { inner = inner }) }) _ plain (subst (LooksBack (Some (record t { inner = inner }))) (sym e) (refl, refl))

-- a thread that goes on tries what it tried
pub goes_attempt : (s : Thread) (o : Option Onward) → (goes_on_if s o).attempt ≡ s.attempt
goes_attempt = same_onward (λ (s : Thread). s.attempt) (λ s frames phase turns. refl)
