-- A section that an attempt has done, as a run of the plain machine: its entry, what is due and its exit; and what they count.
use Rattle.std.proofs.{Common.{◌≡◌, ◌≢◌, ℕ, suc, ◌+◌, List, [], ◌∷◌, ◌++◌, Option, Some, None, refl, ap, ◌∙◌, arith, option_and_then, slice_get, slice_set}, lemmas.List.set-set}
use Rattle.jvm_types.specs.declared.{outcome.End.End, program.Program.Program}
use Rattle.machine_types.specs.{Agreement.AttemptFits, Counting.{is_free, one_if, run_at, take_at, count_from, count_along}, History.{Past, steps_of}, Onward.{Onward, after}}
use Rattle.machine_types.specs.PlainState.{Plain, PlainThread, Holding, value_at, holding_at, with_holding, without_holding, let_go, with_thread}
use Rattle.machine_types.specs.{PlainSteps.{plain_entered, plain_run, plain_step, step_at, step_of}, Replay.{Alone, replayed, at_entry, at_present, begun_and_done, status_inside}, Threads.{Attempt, Thread}}
use Rattle.machine_types.{specs.declared.{phase.{After.After, Phase.Phase}, plain.Act.Act}, proofs.AttemptReplay.{hold, stands_as, Stands, stands_after}}
use Rattle.laws_simulation.proofs.{LockPlain.exits, PlainCounts.{none_along, did_enter, not_run, not_taken}}
use Rattle.laws_refinement.proofs.PlayedDue.{Played, played}
use Rattle.machine_types.specs.PlainState as plain
use Rattle.machine_types.specs.declared.phase.Phase.TheVariants as phases
use Rattle.machine_types.specs.declared.plain.Act.TheVariants as acts

-- the monitor is held at its entry, and inside, and then let go
abbrev pub holdings_behind : List Holding → (m t inner : ℕ) → List Holding
holdings_behind hs m t inner = without_holding m (with_holding (hold m t (suc inner)) (with_holding (hold m t 1) hs))

-- the plain thread at the end of the section
abbrev pub at_end : Thread → Attempt → Phase → Past → (ended : List End) → PlainThread
at_end x a was d ended = let y : Alone = at_present x a was d.pending ended in y.thread

abbrev pub section_acts : Past → List Act
section_acts d = acts.Enter ∷ d.due ++ acts.Exit ∷ []

-- it goes on as o says
abbrev pub behind_section : Plain → (t : ℕ) → Thread → Attempt → Phase → Past → (ended : List End) → Onward → Plain
behind_section q t x a was d ended o = record q { holdings = holdings_behind q.holdings a.monitor t a.inner; threads = slice_set q.threads t (plain.plain_goes_on (at_end x a was d ended) o) }

pub record IsWhole (p : Program) (q : Plain) (t : ℕ) (x : Thread) (a : Attempt) (was : Phase) (d : Past) (ended : List End) (o : Onward) : Type 0 where
  pub run : plain_run p q (steps_of t (section_acts d)) ≡ Some (behind_section q t x a was d ended o)
  pub instructions : count_along p (run_at t) (steps_of t (section_acts d)) q ≡ d.pending
  pub sections : count_along p (take_at t) (steps_of t (section_acts d)) q ≡ 1

-- where the plain thread z of an attempt on a free monitor comes by what is due
pub record Section : Type 0 where
  pub p : Program
  pub q : Plain
  pub t : ℕ
  pub x : Thread
  pub a : Attempt
  pub z : PlainThread
  pub here : slice_get q.threads t ≡ Some z
  pub fits : AttemptFits x a z
  pub free : holding_at q.holdings a.monitor ≡ None
  pub some : a.monitor ≢ 0
  pub was : Phase
  pub d : Past
  pub leads : replayed p a.monitor (value_at q) d.due (at_entry x a z.ended) ≡ Some (at_present x a was d.pending z.ended)

module _ (section : Section) where
  open section use {p, q, t, x, a, z, here, fits, free, some, was, d, leads}

  abbrev first : Alone
  first = at_entry x a z.ended

  abbrev inside : Plain
  inside = stands_as q t a.monitor (at_entry x a z.ended)

  abbrev present : Alone
  present = at_present x a was d.pending z.ended

  -- ---- its entry

  enters : plain_step p q (record { thread = t; act = acts.Enter }) ≡ Some inside
  enters =
      let same : (record z { status = plain.Run }) ≡ first.thread = λ i. record { frames = fits.frames i; status = plain.Run; roots = fits.roots i; ended = z.ended } in
      ap (step_of p q t acts.Enter) here
      ∙ ap (step_at p q t z acts.Enter) fits.status
      ∙ ap (plain_entered q t a.monitor z) free ∙ ap (λ (w : PlainThread). Some (stands_as q t a.monitor (record { thread = w; depth = 1; begun = 0 }))) same

  -- ---- what is due

  at_first : Stands inside t a.monitor first
  at_first = stands_after q t a.monitor z first here

  plays : Played p inside t a.monitor d.due (acts.Exit ∷ []) first present
  plays = played p inside t a.monitor d.due (acts.Exit ∷ []) first present at_first some leads

  at_last : Stands (stands_as inside t a.monitor present) t a.monitor present
  at_last = stands_after inside t a.monitor first.thread present at_first.thread

  -- ---- its exit

  module _ (after_it : After) (o : Onward) (leaves : was ≡ phases.Leave a.monitor after_it) (outermost : a.inner ≡ 0) (goes : after p x.frames after_it ≡ Some o) where
    abbrev last : Plain
    last = stands_as inside t a.monitor present

    exits_it : plain_run p last (steps_of t (acts.Exit ∷ [])) ≡ Some (with_thread (let_go last a.monitor) t (plain.plain_goes_on (at_end x a was d z.ended) o))
    exits_it = exits p last t (at_end x a was d z.ended) at_last.thread a.monitor 1 after_it o (ap status_inside leaves) (record {
      holding = hold a.monitor t (suc a.inner);
      is = at_last.holding;
      holder = refl;
      depth_is = ap suc outermost;
    }) goes

    threads_are : slice_set (slice_set (slice_set q.threads t first.thread) t (at_end x a was d z.ended)) t (plain.plain_goes_on (at_end x a was d z.ended) o) ≡ slice_set q.threads t (plain.plain_goes_on (at_end x a was d z.ended) o)
    threads_are = set-set (slice_set q.threads t first.thread) t (at_end x a was d z.ended) (plain.plain_goes_on (at_end x a was d z.ended) o)
        ∙ set-set q.threads t first.thread (plain.plain_goes_on (at_end x a was d z.ended) o)

    pub whole : IsWhole p q t x a was d z.ended o
    whole =
        let no_runs : count_along p (run_at t) (steps_of t (acts.Exit ∷ [])) last ≡ 0 = none_along p (run_at t) t (acts.Exit ∷ []) last (λ r. not_run t r acts.Exit refl, tt) in
        let no_takes : count_along p (take_at t) (steps_of t (acts.Exit ∷ [])) last ≡ 0 = none_along p (take_at t) t (acts.Exit ∷ []) last (λ r. not_taken t r acts.Exit refl, tt) in
        record {
          run = ap (λ (r : Option Plain). option_and_then (λ v. plain_run p v (steps_of t (d.due ++ acts.Exit ∷ []))) r) enters
              ∙ plays.run ∙ exits_it ∙ ap (λ (ts : List PlainThread). Some (record q { holdings = holdings_behind q.holdings a.monitor t a.inner; threads = ts })) threads_are;
          instructions = ap (λ (r : Option Plain). run_at t q (record { thread = t; act = acts.Enter }) + count_from (count_along p (run_at t) (steps_of t (d.due ++ acts.Exit ∷ []))) r) enters
              ∙ omega (arith, not_run t q acts.Enter refl, plays.runs, no_runs, ap (λ (phase : Phase). begun_and_done phase d.pending) leaves);
          sections = ap (λ (r : Option Plain). take_at t q (record { thread = t; act = acts.Enter }) + count_from (count_along p (take_at t) (steps_of t (d.due ++ acts.Exit ∷ []))) r) enters
              ∙ omega (arith, did_enter t a.monitor q z here fits.status ∙ ap (λ (h : Option Holding). one_if (is_free h)) free, plays.takes ∙ no_takes);
        }
