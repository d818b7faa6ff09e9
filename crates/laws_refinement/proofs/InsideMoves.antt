-- What a thread becomes by an event inside an attempt: it goes on in frames that are those of the entry but for what the section
-- added, or the attempt fails, or the section is done.
use Rattle.std.proofs.Common.{◌≡◌, ℕ, zero, suc, ◌+◌, ◌<◌, nat_lt, Bool, true, false, cond, length, Option, Some, None, refl, sym, ap, ◌∙◌, subst, arith, option_map}
use Rattle.checked_program.{specs.MarkedProgram.MarkedProgram, proofs.FilledTags.some_fewer}
use Rattle.machine_types.specs.{Elision.{may_try, put_back, is_same, is_checked, fails, elided}, Events.{element_made, moved}, Frames.{Top, top_of, effect_at, went_on}}
use Rattle.machine_types.specs.{Going.{with_phase, goes_on, goes_on_if, goes_after}, History.{Fate, GoesOn, Fails, Finishes, fate, fate_by, run_fate, leave_fate, with_begun}}
use Rattle.machine_types.specs.{Instructions.{begun, did, instructed, ran}, Monitors.{Claim, finishes, enter_moves, leave_moves}, Onward.{Onward, Running, dispatched, after, done}}
use Rattle.machine_types.specs.{Threads.{Attempt, Thread}, declared.{effect.{Effect.{Effect, TheVariants.Reads}, Variable.TheVariants.Static}, phase.{After.After, Phase.Phase}}}
use Rattle.laws_threads.specs.{EntryFrames.{KeepsEntry, StepsKeepEntry, ThrowsKeepEntry, LeavesKeepEntry}, InsideEffects.MayDo}
use Rattle.laws_refinement.proofs.{Checks.{checked, did_by, instructed_by}, Inside.{Inside, KnownInside}}
use Rattle.machine_types.specs.declared.phase.Phase.TheVariants as phases

-- ---- what a thread x is when it has become y

-- with so many instructions begun, and so many sections done
pub record Keeps (x y : Thread) (instructions sections : ℕ) : Type 0 where
  pub held : y.held ≡ x.held
  pub roots : y.roots ≡ x.roots
  pub part : y.part ≡ x.part
  pub prints : y.prints ≡ x.prints
  pub begun : y.counts.instructions ≡ instructions
  pub done : y.counts.elided + y.counts.locked ≡ sections

-- the attempt a is now this one, and the frames of its entry are as they were
pub record StaysIn (x y : Thread) (a : Attempt) : Type 0 where
  pub attempt : Attempt
  pub is : y.attempt ≡ Some attempt
  pub monitor : attempt.monitor ≡ a.monitor
  pub frames : attempt.base < length y.frames → put_back attempt y.frames ≡ put_back a x.frames

-- it is about to enter again
pub record Failed (x y : Thread) (a : Attempt) : Type 0 where
  pub attempt : y.attempt ≡ None
  pub frames : y.frames ≡ put_back a x.frames
  pub phase : y.phase ≡ phases.Enter a.monitor a.number

-- it goes on behind the section
pub record IsDone (c : MarkedProgram) (x y : Thread) : Type 0 where
  pub behind : After
  pub goes : y ≡ goes_after c.program (elided x) behind

abbrev pub HasFate : MarkedProgram → Thread → Thread → Attempt → Fate → Type 0
HasFate c x y a GoesOn = StaysIn x y a
HasFate c x y a Fails = Failed x y a
HasFate c x y a Finishes = IsDone c x y

abbrev pub sections_of : Thread → ℕ
sections_of x = x.counts.elided + x.counts.locked

abbrev pub sections_by : ℕ → Fate → ℕ
sections_by n Finishes = n + 1
sections_by n fate = n

-- by an event in a phase
pub record Moves (c : MarkedProgram) (x y : Thread) (a : Attempt) (phase : Phase) (fate : Fate) : Type 0 where
  pub keeps : Keeps x y (with_begun x.counts.instructions phase) (sections_by (sections_of x) fate)
  pub has : HasFate c x y a fate

-- ---- a thread z that goes on and becomes y

pub record Went (b : Attempt) (z y : Thread) : Type 0 where
  pub keeps : Keeps z y z.counts.instructions (sections_of z)
  pub attempt : y.attempt ≡ z.attempt
  pub frames : b.base < length y.frames → put_back b y.frames ≡ put_back b z.frames

same_keeps : (z : Thread) → Keeps z z z.counts.instructions (sections_of z)
same_keeps z = record { held = refl; roots = refl; part = refl; prints = refl; begun = refl; done = refl }

pub went : (b : Attempt) (z : Thread) (o : Onward) → b.base < length z.frames → KeepsEntry b z.frames o → Went b z (goes_on z o)
went b z (Running frames) based k = record { keeps = record { held = refl; roots = refl; part = refl; prints = refl; begun = refl; done = refl }; attempt = refl; frames = k based }
went b z o based k = record { keeps = record { held = refl; roots = refl; part = refl; prints = refl; begun = refl; done = refl }; attempt = refl; frames = k based }

pub went_if : (b : Attempt) (z : Thread) (o : Option Onward) → b.base < length z.frames → ((onward : Onward) → o ≡ Some onward → KeepsEntry b z.frames onward) → Went b z (goes_on_if z o)
went_if b z None based k = record { keeps = same_keeps z; attempt = refl; frames = λ l. refl }
went_if b z (Some onward) based k = went b z onward based (k onward refl)

-- ---- the three fates

-- z: the thread with its instruction begun, or as it was
module _ (c : MarkedProgram) (x : Thread) (a : Attempt) (phase : Phase) where
  -- b: the attempt with how often the monitor was entered inside
  goes_inside : (z y : Thread) (b : Attempt) → Keeps x z (with_begun x.counts.instructions phase) (sections_of x) → z.attempt ≡ Some b → z.frames ≡ x.frames → b.monitor ≡ a.monitor → put_back b x.frames ≡ put_back a x.frames → Went b z y → Moves c x y a phase GoesOn
  goes_inside z y b first tried frames monitor entry w = record {
    keeps = record {
      held = w.keeps.held ∙ first.held;
      roots = w.keeps.roots ∙ first.roots;
      part = w.keeps.part ∙ first.part;
      prints = w.keeps.prints ∙ first.prints;
      begun = w.keeps.begun ∙ first.begun;
      done = w.keeps.done ∙ first.done;
    };
    has = record { attempt = b; is = w.attempt ∙ tried; monitor = monitor; frames = λ l. w.frames l ∙ ap (put_back b) frames ∙ entry };
  }

  fails_inside : (z : Thread) → Keeps x z (with_begun x.counts.instructions phase) (sections_of x) → z.frames ≡ x.frames → Moves c x (fails z a) a phase Fails
  fails_inside z first frames = record {
    keeps = record { held = first.held; roots = first.roots; part = first.part; prints = first.prints; begun = first.begun; done = first.done };
    has = record { attempt = refl; frames = ap (put_back a) frames; phase = refl };
  }

-- ---- all phases

module _ (steps : StepsKeepEntry) (throws : ThrowsKeepEntry) (leaves : LeavesKeepEntry) (c : MarkedProgram) (x : Thread) (a : Attempt) (tried : x.attempt ≡ Some a) (based : a.base < length x.frames) (got : ℕ) where
  now_begun : Keeps x (begun x) (x.counts.instructions + 1) (sections_of x)
  now_begun = record { held = refl; roots = refl; part = refl; prints = refl; begun = refl; done = refl }

  instructed_inside : (at : Top) (e : Effect) → top_of c.program x.frames ≡ Some at → MayDo c a.monitor at e
      → Moves c x (instructed c.program (begun x) at e got) a phases.Run (cond (is_checked at.frame.pc e) (fate_by (is_same a got) GoesOn) GoesOn)
  instructed_inside at e f may = instructed_by (λ y fate. Moves c x y a phases.Run fate) c.program a (begun x) at e got tried
      (goes_inside c x a phases.Run (begun x) (did c.program (begun x) at e got) a now_begun tried refl refl refl on) (fails_inside c x a phases.Run (begun x) now_begun refl)
    where
      on : Went a (begun x) (did c.program (begun x) at e got)
      on = did_by (Went a (begun x)) c a.monitor (begun x) at got (λ word. record { keeps = record { held = refl; roots = refl; part = refl; prints = refl; begun = refl; done = refl }; attempt = refl; frames = λ l. refl })
          (λ by n. went_if a (begun x) (done c.program at by n) based (λ onward is. steps c.program x.frames a at by n onward f is)) e may

  -- an exit, which may be the last
  finishes_inside : (n : ℕ) (e : After) (inner : ℕ) → Moves c x (finishes c.program x e a inner got) a (phases.Leave n e) (cond (nat_lt 0 inner) GoesOn (fate_by (is_same a got) Finishes))
  finishes_inside n e zero = by_test (is_same a got)
    where
      ended : Went a (elided x) (goes_after c.program (elided x) e)
      ended = went_if a (elided x) (after c.program x.frames e) based (λ onward is. leaves c.program x.frames a e onward is)

      by_test : (b : Bool) → Moves c x (cond b (goes_after c.program (elided x) e) (fails x a)) a (phases.Leave n e) (fate_by b Finishes)
      by_test true = record {
        keeps = record {
          held = ended.keeps.held;
          roots = ended.keeps.roots;
          part = ended.keeps.part;
          prints = ended.keeps.prints;
          begun = ended.keeps.begun;
          done = let k : _ ≡ (x.counts.elided + 1) + x.counts.locked = ended.keeps.done in omega (arith, k);
        };
        has = record { behind = e; goes = refl };
      }
      by_test false = fails_inside c x a (phases.Leave n e) x (same_keeps x) refl
  finishes_inside n e (suc inner) =
      let b : Attempt = record a { inner = inner } in
      let z : Thread = record x { attempt = Some b } in
      subst (λ (some : Bool). Moves c x (goes_after c.program z e) a (phases.Leave n e) (cond some GoesOn (fate_by (is_same a got) Finishes))) (sym (some_fewer inner))
      (goes_inside c x a (phases.Leave n e) z (goes_after c.program z e) b (record { held = refl; roots = refl; part = refl; prints = refl; begun = refl; done = refl }) refl refl refl refl
      (went_if b z (after c.program x.frames e) based (λ onward is. leaves c.program x.frames b e onward is)))

  moves_at : (phase : Phase) → KnownInside c x a phase → Moves c x (moved c x phase got) a phase (fate c x a phase got)
  moves_at phases.Run k = subst (λ (o : Option Top). Moves c x (ran c.program x o got) a phases.Run (run_fate c a o got)) (sym k.found) (instructed_inside k.at (effect_at c.program k.at) k.found k.may)
  moves_at (phases.Element word stored) k =
      let phase : Phase = phases.Element word stored in
      let made : ℕ = element_made stored got in
      let o : Option Onward = option_map (λ at. Running (went_on c.program at made)) (top_of c.program x.frames) in
      goes_inside c x a phase x (goes_on_if x o) a (same_keeps x) tried refl refl refl (went_if a x o based (λ onward is. steps c.program x.frames a k.at (Reads (Static 0)) made onward k.found
      (sym (ap (option_map (λ at. Running (went_on c.program at made))) k.found) ∙ is)))
  moves_at (phases.Throw r class) k =
      let phase : Phase = phases.Throw r class in
      checked (λ y fate. Moves c x y a phase fate) a x (goes_on_if x (dispatched c.program r class x.frames)) got x.attempt tried
      (goes_inside c x a phase x (goes_on_if x (dispatched c.program r class x.frames)) a (same_keeps x) tried refl refl refl
      (went_if a x (dispatched c.program r class x.frames) based (λ onward is. throws c.program x.frames a r class onward is))) (fails_inside c x a phase x (same_keeps x) refl)
  moves_at (phases.Enter n number) k = subst (λ (claim : Claim). Moves c x (enter_moves x n number (may_try c x number) claim got) a (phases.Enter n number) GoesOn) (sym k)
      (let b : Attempt = record a { inner = a.inner + 1 } in
      let z : Thread = record x { attempt = Some b } in
      goes_inside c x a (phases.Enter n number) z (goes_on z (Running x.frames)) b (record { held = refl; roots = refl; part = refl; prints = refl; begun = refl; done = refl }) refl refl refl refl
      (went b z (Running x.frames) based (λ k l. refl)))
  moves_at (phases.Leave n e) k = subst (λ (claim : Claim). Moves c x (leave_moves c.program x n e claim got) a (phases.Leave n e) (leave_fate claim got)) (sym k) (finishes_inside n e a.inner)
  moves_at (phases.Ending e) k = goes_inside c x a (phases.Ending e) x (with_phase x (phases.Ended e)) a (same_keeps x) tried refl refl refl
      (record { keeps = record { held = refl; roots = refl; part = refl; prints = refl; begun = refl; done = refl }; attempt = refl; frames = λ l. refl })
  moves_at (phases.Ended e) k = goes_inside c x a (phases.Ended e) x x a (same_keeps x) tried refl refl refl (record { keeps = same_keeps x; attempt = refl; frames = λ l. refl })
  moves_at phase k = absurd k

-- the event of a thread inside an attempt
pub moves_inside : StepsKeepEntry → ThrowsKeepEntry → LeavesKeepEntry → (c : MarkedProgram) (x : Thread) (a : Attempt) → Inside c x a → (got : ℕ) → Moves c x (moved c x x.phase got) a x.phase (fate c x a x.phase got)
moves_inside steps throws leaves c x a k got = moves_at steps throws leaves c x a k.attempt k.based got x.phase k.known
