-- In every run an attempt begins where it is due, and nowhere else; then it stays the same one until it ends, and its events only
-- look.
use Rattle.std.proofs.Common.{◌≡◌, ℕ, zero, suc, ◌+◌, ◌*◌, ◌/◌, ◌%◌, ◌<◌, nat_lt, Bool, true, false, cond, List, [], ◌∷◌, length, Option, Some, None, refl, sym, ap, ◌∙◌, subst, arith, ◌&&◌, slice_get, slice_index}
use Rattle.std.proofs.lemmas.Bool.{lt-ltb, ltb-true}
use Rattle.lists.proofs.{ListLaws.same_some, TestLaws.{both_true, both_are_true}}
use Rattle.checked_program.specs.MarkedProgram.{MarkedProgram, IsMarked}
use Rattle.machine_types.specs.{Accesses.found_by, Core.{Core, Happening, core}, Elision.{begins, tries, may_try, enters_marked}, Events.{wanted, moved}, Going.with_phase, HeldMonitors.held_at}
use Rattle.machine_types.specs.{History.{Fate, GoesOn, Fails, Finishes, fate}, LockWords.{word_of_lock, lock_by, lock_of}, Monitors.{Claim, HasNot, claim, claim_by, enter_wants, enter_moves}}
use Rattle.machine_types.specs.{Settings.AreSettings, Threads.{Attempt, Frame, Thread}, declared.{access.Access.TheVariants.Load, config.Config.Config, lock.Held.Held, phase.Phase.Phase}}
use Rattle.laws_threads.specs.{InsideEffects.InsideMayDo, InsideMoves.ElementsInside}
use Rattle.laws_states.{specs.{RunFacts.HaveWidth, StateLaws.{ProgramsKeepThreads, RunsHaveState, IsInState}}, proofs.WordViews.lock_of_word}
use Rattle.laws_objects.proofs.ThrownInits.{moved_is}
use Rattle.laws_refinement.specs.{Entries.{failed_here, KeepsCount}, EntryLaws.{ThreadsKeepCount, IsAttemptDue, HasBegunAttempt, DueBegin, BegunAreDue, AttemptsStay, AttemptsOnlyLook}}
use Rattle.laws_refinement.proofs.{Inside.{Inside, is_inside}, Looks.only_looks, MarkedEntries.{at_mark, enters_by_mark}, OutsideEntries.{Begins, MovesTo, outside_moves}}
use Rattle.laws_refinement.proofs.Within.{HasFate, inside_moves}
use Rattle.machine_types.specs.declared.lock.LockWord.TheVariants as locks
use Rattle.machine_types.specs.declared.phase.Phase.TheVariants as phases

-- ---- the lock word of an entry

-- a thread that neither holds a monitor nor tries it
claims_none : (x : Thread) (m : ℕ) → x.attempt ≡ None → held_at x.held m ≡ None → claim x m ≡ HasNot
claims_none x m outside not_held = ap (λ (h : Option Held). claim_by m h x.attempt) not_held ∙ ap (claim_by m None) outside

wants_load : (c : MarkedProgram) (x : Thread) (m tried : ℕ) → x.phase ≡ phases.Enter m tried → x.attempt ≡ None → held_at x.held m ≡ None → wanted c x x.phase ≡ Some (Load m)
wants_load c x m tried enters outside not_held = ap (λ (phase : Phase). wanted c x phase) enters ∙ ap (λ (q : Claim). enter_wants m q) (claims_none x m outside not_held)

at_entry : (c : MarkedProgram) (s : Core) (x : Thread) (m tried : ℕ) → x.phase ≡ phases.Enter m tried → x.attempt ≡ None → held_at x.held m ≡ None → found_by s.words (wanted c x x.phase) ≡ slice_index s.words m
at_entry c s x m tried enters outside not_held = ap (found_by s.words) (wants_load c x m tried enters outside not_held)

-- a word that is read as free is that of a free lock
free_word : (word count : ℕ) → lock_of word ≡ locks.Free count → word ≡ word_of_lock (locks.Free count)
free_word word count e = by_kind (word % 4) (word / 4) refl refl e
  where
    by_kind : (kind upper : ℕ) → word % 4 ≡ kind → word / 4 ≡ upper → lock_by kind upper ≡ locks.Free count → word ≡ 4 * count
    by_kind zero upper k u f = let same : upper ≡ count = cc in omega (arith, k, u, same)
    by_kind (suc (suc zero)) upper k u f = absurd (cc)
    by_kind kind upper k u f = absurd (cc)

-- a thread that keeps how many attempts have failed since it came to its entry
record Entering : Type 0 where
  c : MarkedProgram
  is_marked : IsMarked c
  cfg : Config
  s : Core
  x : Thread
  failed : ℕ
  settings : x.cfg ≡ cfg
  kept : KeepsCount x.attempt x.phase failed

abbrev entering_at : RunsHaveState → ProgramsKeepThreads → ThreadsKeepCount → (c : MarkedProgram) (cfg : Config) (hs : List Happening) (t : ℕ) (x : Thread) → IsMarked c → HaveWidth cfg → AreSettings cfg → slice_get (core c cfg hs).threads t ≡ Some x → Entering
entering_at runs parts counted c cfg hs t x marked width settings here = record {
  c = c;
  is_marked = marked;
  cfg = cfg;
  s = core c cfg hs;
  x = x;
  failed = failed_here c cfg hs t;
  settings = ((runs c cfg hs marked width (parts c cfg marked settings)).facts.threads.own t x here).settings;
  kept = (counted c cfg hs t marked width settings).kept x here;
}

tried_are : (entering : Entering) (m tried : ℕ) → entering.x.phase ≡ phases.Enter m tried → entering.x.attempt ≡ None → tried ≡ entering.failed
tried_are k m tried enters outside = subst (λ (phase : Phase). KeepsCount None phase k.failed) enters (subst (λ (o : Option Attempt). KeepsCount o k.x.phase k.failed) outside k.kept)

-- ---- where one is due

module _ (entering : Entering) (m count : ℕ) (due : IsAttemptDue entering.c entering.cfg entering.s entering.x entering.failed m count) where
  open entering use {c, is_marked, cfg, s, x, failed, settings}

  marked_there : enters_marked c x.frames ≡ true
  marked_there = enters_by_mark c is_marked x.frames due.marked

  same_count : due.tried ≡ failed
  same_count = tried_are entering m due.tried due.enters due.outside

  may : may_try c x due.tried ≡ true
  may = both_true (x.cfg.elide && nat_lt due.tried 2) (enters_marked c x.frames)
      (both_true x.cfg.elide (nat_lt due.tried 2) (ap (λ (k : Config). k.elide) settings ∙ due.elides) (lt-ltb due.tried 2 (subst (λ (n : ℕ). n < 2) (sym same_count) due.few))) marked_there

  loads : wanted c x x.phase ≡ Some (Load m)
  loads = wants_load c x m due.tried due.enters due.outside due.not_held

  begun_at : (fs : List Frame) → x.frames ≡ fs → HasBegunAttempt c x (begins x fs m count (due.tried + 1)) failed m count
  begun_at [] e = let bad : false ≡ true = subst (λ (gs : List Frame). enters_marked c gs ≡ true) e marked_there in absurd (cc)
  begun_at (f ∷ below) e =
      record {
        loads = loads;
        attempt = record { monitor = m; noted = count; base = length below; number = due.tried + 1; inner = 0; entry = f };
        is = refl;
        monitor = refl;
        noted = refl;
        number = ap (λ (n : ℕ). n + 1) same_count;
        inner = refl;
        below = below;
        entry = e;
        base = refl;
        phase = refl;
        frames = refl;
        held = refl;
        turns = refl;
      }

  moves : moved c x x.phase (found_by s.words (wanted c x x.phase)) ≡ begins x x.frames m count (due.tried + 1)
  moves = by_found (found_by s.words (wanted c x x.phase)) (ap lock_of (at_entry c s x m due.tried due.enters due.outside due.not_held ∙ due.is_free) ∙ lock_of_word (locks.Free count))
    where
      by_found : (got : ℕ) → lock_of got ≡ locks.Free count → moved c x x.phase got ≡ begins x x.frames m count (due.tried + 1)
      by_found got free = ap (λ (phase : Phase). moved c x phase got) due.enters
          ∙ ap (λ (q : Claim). enter_moves x m due.tried (may_try c x due.tried) q got) (claims_none x m due.outside due.not_held)
          ∙ ap (λ (b : Bool). enter_moves x m due.tried b HasNot got) may
          ∙ ap (tries x m due.tried) free
          ∙ ap (λ (b : Bool). cond b (begins x x.frames m count (due.tried + 1)) (with_phase x (phases.Acquire m))) (lt-ltb count x.cfg.range (subst (λ (k : Config). count < k.range) (sym settings) due.not_last))

  begun : HasBegunAttempt c x (moved c x x.phase (found_by s.words (wanted c x x.phase))) failed m count
  begun = subst (λ (y : Thread). HasBegunAttempt c x y failed m count) (sym moves) (begun_at x.frames refl)

pub due_begin : RunsHaveState → ProgramsKeepThreads → ThreadsKeepCount → DueBegin
due_begin runs parts counted c cfg hs t x y m count marked width settings here there due =
    subst (λ (z : Thread). HasBegunAttempt c x z (failed_here c cfg hs t) m count) (moved_is c (core c cfg hs) t x y here there)
    (begun (entering_at runs parts counted c cfg hs t x marked width settings here) m count due)

-- ---- where one has begun

module _ (entering : Entering) (y : Thread) (a : Attempt) (outside : entering.x.attempt ≡ None) where
  open entering use {c, cfg, s, x, failed, settings}

  was_due : Begins c x y (found_by s.words (wanted c x x.phase)) a → IsAttemptDue c cfg s x failed a.monitor a.noted
  was_due b =
      let elides_few = both_are_true (x.cfg.elide && nat_lt b.tried 2) (enters_marked c x.frames) b.may in
      let elides = both_are_true x.cfg.elide (nat_lt b.tried 2) elides_few.0 in
      record {
        tried = b.tried;
        enters = b.enters;
        marked = at_mark c x.frames elides_few.1;
        elides = ap (λ (k : Config). k.elide) (sym settings) ∙ elides.0;
        not_held = b.not_held;
        outside = outside;
        few = subst (λ (n : ℕ). n < 2) (tried_are entering a.monitor b.tried b.enters outside) (ltb-true b.tried 2 elides.1);
        is_free = sym (at_entry c s x a.monitor b.tried b.enters outside b.not_held) ∙ free_word (found_by s.words (wanted c x x.phase)) a.noted b.is_free;
        not_last = subst (λ (k : Config). a.noted < k.range) settings (ltb-true a.noted x.cfg.range b.not_last);
      }

pub begun_are_due : RunsHaveState → ProgramsKeepThreads → ThreadsKeepCount → BegunAreDue
begun_are_due runs parts counted c cfg hs t x y a marked width settings here there outside begins =
    let s : Core = core c cfg hs in
    let got : ℕ = found_by s.words (wanted c x x.phase) in
    let z : Thread = moved c x x.phase got in
    let begun : Begins c x z got a = subst (MovesTo c x z got) (ap (λ (k : Thread). k.attempt) (moved_is c s t x y here there) ∙ begins) (outside_moves c x got outside x.phase refl) in (
      was_due (entering_at runs parts counted c cfg hs t x marked width settings here) z a outside begun,
      wants_load c x a.monitor begun.tried begun.enters outside begun.not_held,
    )

-- ---- one that is open

module _ (x : Thread) (a b : Attempt) (y : Thread) (still : y.attempt ≡ Some b) where
  stays : (f : Fate) → HasFate x y a f → b ≡ record a { inner = b.inner }
  stays GoesOn k =
      let same : b ≡ record a { inner = k.0 } = same_some (sym still ∙ k.1) in
      same ∙ ap (λ (n : ℕ). let now : Attempt = record a { inner = n } in now) (sym (ap (λ (d : Attempt). d.inner) same))
  stays Fails k = absurd (let bad : Some b ≡ None = sym still ∙ k.outside in cc)
  stays Finishes k = absurd (let bad : Some b ≡ None = sym still ∙ k.0 in cc)

module _ (may_do : InsideMayDo) (elements : ElementsInside) (runs : RunsHaveState) (parts : ProgramsKeepThreads) where
  pub in_attempt : (c : MarkedProgram) (cfg : Config) (hs : List Happening) (t : ℕ) (x : Thread) (a : Attempt) → IsMarked c → HaveWidth cfg → AreSettings cfg → slice_get (core c cfg hs).threads t ≡ Some x → x.attempt ≡ Some a → Inside c x a
  in_attempt c cfg hs t x a marked width settings here tries =
      let state : IsInState c cfg (core c cfg hs) = runs c cfg hs marked width (parts c cfg marked settings) in
      is_inside may_do elements c marked x a tries (state.was t) (state.facts.structure t x here)

  pub attempts_stay : AttemptsStay
  attempts_stay c cfg hs t x y a b marked width settings here there tries still =
      let s : Core = core c cfg hs in
      let got : ℕ = found_by s.words (wanted c x x.phase) in
      let same : moved c x x.phase got ≡ y = moved_is c s t x y here there in
      stays x a b (moved c x x.phase got) (ap (λ (k : Thread). k.attempt) same ∙ still) (fate c x a x.phase got) (inside_moves c x a (in_attempt c cfg hs t x a marked width settings here tries) got)

  pub attempts_only_look : AttemptsOnlyLook
  attempts_only_look c cfg hs t x a marked width settings here tries = only_looks c x a x.phase (in_attempt c cfg hs t x a marked width settings here tries).known
