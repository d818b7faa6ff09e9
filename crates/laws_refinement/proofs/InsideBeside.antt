-- While a section that was entered without its lock is not done, its thread stands for one that is still about to enter: the same
-- plain state stands beside.
use Rattle.std.proofs.Common.{◌≡◌, ℕ, ◌<◌, Bool, true, false, List, [], ◌∷◌, length, Option, Some, refl, sym, ap, ◌∙◌, subst, slice_get, slice_set, if◌then◌else◌}
use Rattle.jvm_types.specs.declared.{outcome.End.{End, TheVariants.Returned}, program.Program.Program}
use Rattle.checked_program.specs.MarkedProgram.{MarkedProgram}
use Rattle.machine_types.specs.{Agreement.{AttemptFits, StatusFits, ThreadFits, frames_shown, roots_shown}, Core.{Core, event, event_of}, Events.moved, History.{Fate, GoesOn, Fails, Finishes, fate}}
use Rattle.machine_types.{specs.{Parts.has_finished, PlainMemory.Object, PlainState.PlainThread, Threads.{Attempt, Thread}, declared.phase.Phase.Phase}, proofs.Lists.{set_as_it_is, got_when_set}}
use Rattle.laws_threads.specs.{EntryFrames.{StepsKeepEntry, ThrowsKeepEntry, LeavesKeepEntry}, InsideEffects.InsideMayDo, InsideMoves.ElementsInside, StateLaws.counted_after}
use Rattle.laws_states.specs.{HeapFacts.{objects_by, objects_of}, StateLaws.EventsKeepState}
use Rattle.laws_simulation.{specs.StandsBeside.{StandsBeside, ends_shown, own_end}, proofs.{Assembled.moved_beside, HoldingsAlike.alike_kept, Moved.ends_alike}}
use Rattle.laws_refinement.{specs.ElidedSteps.{AttemptsStandBeside, IsNotFinished, found_of}, proofs.{Playing.{Player, has_bit, plain_fits, plain_there}, Inside.{Inside, KnownInside, is_inside}, InsideMoves.{Moves, moves_inside}}}
use Rattle.laws_refinement.proofs.InsideWords.{words_stay}
use Rattle.machine_types.specs.PlainState as plain
use Rattle.machine_types.specs.declared.phase.Phase.TheVariants as phases

-- ---- inside an attempt a part neither ends by itself nor makes an object

pub record IsStill (p : Program) (objects : List Object) (phase : Phase) : Type 0 where
  pub own : own_end phase ≡ []
  pub makes : (r word : ℕ) → phase ≡ phases.Made r word → ⊥
  pub rests : phase ≡ phases.Ended Returned → ⊥
  pub same : objects_by p phase objects ≡ objects

by_end : (e : End) → has_finished e ≡ false → (if has_finished e then e ∷ [] else []) ≡ []
by_end e k = ap (λ (b : Bool). if b then e ∷ [] else []) k

still_inside : (c : MarkedProgram) (objects : List Object) (x : Thread) (a : Attempt) (phase : Phase) → KnownInside c x a phase → IsStill c.program objects phase
still_inside c objects x a (phases.Ending e) k = record { own = by_end e k; makes = λ r word e. cc; rests = λ e. cc; same = refl }
still_inside c objects x a (phases.Ended e) k =
    let ended_by : phases.Ended e ≡ phases.Ended Returned → e ≡ Returned = λ same. cc in
    record { own = by_end e k; makes = λ r word e. cc; rests = λ same. (let clash : true ≡ false = sym (ap has_finished (ended_by same)) ∙ k in cc); same = refl }
still_inside c objects x a (phases.Made r word) k = absurd k
still_inside c objects x a phase k = record { own = refl; makes = λ r word e. cc; rests = λ e. cc; same = refl }

-- ---- the thread still fits its plain thread

fits_still : (p : Program) (bit : ℕ → Bool) (c : MarkedProgram) (x y : Thread) (a : Attempt) (f : Fate) (v : PlainThread) → IsNotFinished f → Moves c x y a x.phase f → ((b : Attempt) → y.attempt ≡ Some b → b.base < length y.frames)
    → AttemptFits x a v → ThreadFits p bit y y.attempt v
fits_still p bit c x y a GoesOn v way m based fits = subst (λ (o : Option Attempt). ThreadFits p bit y o v) (sym m.has.is) (record {
  frames = fits.frames ∙ sym (m.has.frames (based m.has.attempt m.has.is));
  status = fits.status ∙ ap plain.Enter (sym m.has.monitor);
  roots = fits.roots ∙ sym m.keeps.roots;
})
fits_still p bit c x y a Fails v way m based fits = subst (λ (o : Option Attempt). ThreadFits p bit y o v) (sym m.has.attempt) (record {
  frames = fits.frames ∙ sym m.has.frames ∙ ap (λ (phase : Phase). frames_shown phase y.frames) (sym m.has.phase);
  status = subst (λ (phase : Phase). StatusFits bit y phase v.status) (sym m.has.phase) fits.status;
  roots = fits.roots ∙ sym m.keeps.roots ∙ ap (λ (phase : Phase). roots_shown p y.part phase y.roots) (sym m.has.phase);
})
fits_still p bit c x y a Finishes v way m based fits = absurd way

-- ---- the whole

module _ (player : Player) (y : Thread) (f : Fate) (before : IsStill player.c.program player.objects player.x.phase) (m : Moves player.c player.x y player.a player.x.phase f) where
  open player use {c, objects, s, t, x, a, q, beside, here}

  abbrev v : PlainThread
  v = (plain_there player).0

  pub same_beside : IsNotFinished f → ((b : Attempt) → y.attempt ≡ Some b → b.base < length y.frames) → IsStill c.program objects y.phase → StandsBeside c.program objects (record { words = s.words; threads = slice_set s.threads t y }) q
  same_beside way based still =
      subst (λ (plains : List PlainThread). StandsBeside c.program objects (record { words = s.words; threads = slice_set s.threads t y }) (record q { threads = plains })) (set_as_it_is q.threads t v (plain_there player).1)
      (moved_beside player.member s.words y q.holdings v q.prints (record {
        fits = fits_still c.program (has_bit player) c x y a f v way m based (plain_fits player);
        ended = beside.ends t x v here (plain_there player).1 ∙ sym (ap (λ (part : ℕ). ends_shown c.program part y.phase) m.keeps.part ∙ ends_alike c.program x.part y.phase x.phase (still.own ∙ sym before.own));
        places = λ n w e. refl;
        next = refl;
        printed = beside.agrees.prints;
        bits = λ u n d. refl;
        alike = alike_kept q.holdings s.threads beside.agrees.monitors t x y here m.keeps.held;
        old = before.makes;
        new = still.makes;
        part = m.keeps.part;
        rests = λ e. absurd (before.rests e);
      }))

-- the thread as it is later
pub record Later (c : MarkedProgram) (objects : List Object) (y : Thread) : Type 0 where
  pub based : (b : Attempt) → y.attempt ≡ Some b → b.base < length y.frames
  pub still : IsStill c.program objects y.phase

later_by : (c : MarkedProgram) (objects : List Object) (x y : Thread) (a : Attempt) (phase : Phase) (f : Fate) → IsNotFinished f → Moves c x y a phase f → ((b : Attempt) → y.attempt ≡ Some b → Inside c y b) → Later c objects y
later_by c objects x y a phase GoesOn way m inside = record { based = λ b e. (inside b e).based; still = still_inside c objects y m.has.attempt y.phase (inside m.has.attempt m.has.is).known }
later_by c objects x y a phase Fails way m inside = record {
  based = λ b e. (inside b e).based;
  still = subst (IsStill c.program objects) (sym m.has.phase) (record { own = refl; makes = λ r word e. cc; rests = λ e. cc; same = refl });
}
later_by c objects x y a phase Finishes way m inside = absurd way

pub attempts_stand_beside : InsideMayDo → ElementsInside → StepsKeepEntry → ThrowsKeepEntry → LeavesKeepEntry → EventsKeepState → AttemptsStandBeside
attempts_stand_beside may_do elements steps throws leaves keep c cfg objects was s t x a q marked width facts beside here tried way =
    let player : Player = record {
      member = record { states = record { c = c; cfg = cfg; objects = objects; was = was; s = s; q = q; marked = marked; facts = facts; beside = beside }; t = t; x = x; here = here };
      a = a;
      tries = tried;
    } in
    let y = moved c x x.phase (found_of c s x) in
    let inside = is_inside may_do elements c marked x a tried (was t) (facts.structure t x here) in
    let m = moves_inside steps throws leaves c x a inside (found_of c s x) in
    let before = still_inside c objects x a x.phase inside.known in
    let after = keep c cfg objects was s t marked width facts in
    let there : slice_get (event c s t).threads t ≡ Some y = ap (λ (o : Option Thread). slice_get (event_of c s t o).threads t) here ∙ got_when_set s.threads t x y here in
    let later = later_by c objects x y a x.phase (fate c x a x.phase (found_of c s x)) way m (λ b e. is_inside may_do elements c marked y b e (counted_after c was s t t) (after.structure t y there)) in
    let stands = same_beside player y (fate c x a x.phase (found_of c s x)) before m way later.based later.still in
    subst (λ (os : List Object). StandsBeside c.program os (event c s t) q) (sym (ap (λ (o : Option Thread). objects_of c.program o objects) here ∙ before.same))
    (subst (λ (r : Core). StandsBeside c.program objects r q) (sym (ap (event_of c s t) here))
    (subst (λ (words : List ℕ). StandsBeside c.program objects (record { words = words; threads = slice_set s.threads t y }) q) (sym (words_stay s.words c x a inside)) stands))
