-- A thread that has moved keeps what construction says of it, in and outside of an attempt.
use Rattle.std.proofs.Common.{◌≡◌, ◌≢◌, ℕ, ◌-◌, ◌<◌, ◌≤◌, inl, inr, Bool, cond, List, [], ◌∷◌, length, drop, Option, Some, None, refl, sym, ap, ◌∙◌, subst, arith, ◌==◌, nat_lt, Contains, IfSome}
use Rattle.std.{specs.List.AllByRecursion, proofs.lemmas.Bool.{cases_Bool, eqb-true, eqb-false}}
use Rattle.jvm_types.specs.ProgramInvariant.{words_of}
use Rattle.laws_programs.proofs.LocalGoing.{at_index}
use Rattle.checked_program.specs.MarkedProgram.{MarkedProgram}
use Rattle.machine_types.specs.{Construction.{Runs, PhaseKeeps}, Elision.put_back, Going.{root_over, runs, goes_on}, HeldMonitors.{held_at, with_held, without_held}}
use Rattle.machine_types.specs.{Onward.{Onward, Running, Throwing, Entering, Leaving, RootReturned, Uncaught}, OwnedPlaces.Stores, Structure.{IsStructured, AttemptStandsIn}}
use Rattle.machine_types.specs.{Threads.{Frame, Attempt, Thread}, Worlds.{Lost, Builder, World, IsFinished, IsOwnOrFinished, IsWorld, IsViewOf, GoesOn}, declared.{lock.Held.Held, phase.Phase.Phase}}
use Rattle.laws_threads.{specs.{EntryFrames.{frames_in, KeepsEntry}, StructureLaws.counted_by}, proofs.{HeldBounds.{each_put, each_without, found}, Tests.either_way, ThreadMove.{goes_held, goes_attempt}}}
use Rattle.laws_states.proofs.Lists.{contained_got, contains_first, contains_more}
use Rattle.laws_objects.proofs.{Buildings.{Building, in_world, in_later, with_stores, FramesIn, PhaseIn, TriesIn, AttemptIn, ThreadIn}, CountedPhases.PhaseFits}
use Rattle.laws_objects.proofs.{KeptFrames.{KeepsAt, phase_frames_kept, phase_kept, attempt_kept}, Moves.Steps, Onwards.OnwardKeeps, Views.{own_or_not, known_on}}
use Rattle.laws_objects.proofs.WorldChanges.{none_some, goes_by, goes_same, goes_both, world_same, KeepsLost}
use Rattle.jvm_types.specs.declared.outcome.End.TheVariants as ends
use Rattle.machine_types.specs.declared.phase.Phase.TheVariants as phases

-- ---- what is kept of a thread, in a world that it leaves

-- seen: the world as the thread saw it before
pub record Moved (b : Building) (seen : World) (more : ℕ) (was : Phase) (y : Thread) : Type 0 where
  pub later : World
  pub goes : GoesOn b.w later b.next more b.t 0
  pub world : IsWorld b.w (words_of b.c.program) b.next → IsWorld later (words_of b.c.program) more
  pub keeps : ThreadIn (in_later b later more) was y
  pub lost : (v : ℕ) (d : Builder) → d.item ≡ Lost → b.w v ≡ Some d → seen v ≡ Some d → (later v ≡ Some d) × (keeps.now v ≡ Some d)

-- into this world, which the thread sees
pub record MovedTo (b : Building) (seen : World) (more : ℕ) (was : Phase) (y : Thread) (z : World) : Type 0 where
  pub moves : Moved b seen more was y
  pub is_later : moves.later ≡ z
  pub is_now : moves.keeps.now ≡ z

-- as the thread sees it
-- b: in the world as it was
pub record Sees (b : Building) (more : ℕ) (was : Phase) (y : Thread) : Type 0 where
  pub later : World
  pub goes : GoesOn b.w later b.next more b.t 0
  pub world : IsWorld b.w (words_of b.c.program) b.next → IsWorld later (words_of b.c.program) more
  pub lost : KeepsLost b.w later
  pub fits : PhaseFits (in_later b later more) y.frames was

-- ---- monitors that are held

abbrev pub AreKnown : World → (next t : ℕ) → List Held → Type 0
AreKnown w next t hs = AllByRecursion (λ (h : Held). IsOwnOrFinished w next t h.monitor) hs

all_of : {A : Type 0} (P : A → Type 0) (xs : List A) → ((x : A) → Contains xs x → P x) → AllByRecursion P xs
all_of P [] f = tt
all_of P (x ∷ xs) f = (f x (contains_first x xs), all_of P xs (λ y k. f y (contains_more x xs y k)))

of_all : {A : Type 0} (P : A → Type 0) (xs : List A) → AllByRecursion P xs → (x : A) → Contains xs x → P x
of_all P xs all x k = at_index P xs k.0 x all (contained_got xs x k)

pub known_at : (w : World) (next t m : ℕ) (hs : List Held) (h : Held) → AreKnown w next t hs → held_at hs m ≡ Some h → IsOwnOrFinished w next t h.monitor
known_at w next t m hs h k e = subst (λ (o : Option Held). IfSome o (λ (g : Held). IsOwnOrFinished w next t g.monitor)) e (found (λ (g : Held). IsOwnOrFinished w next t g.monitor) m hs k)

pub known_with : (w : World) (next t : ℕ) (h : Held) (hs : List Held) → IsOwnOrFinished w next t h.monitor → AreKnown w next t hs → AreKnown w next t (with_held h hs)
known_with w next t h hs n k = each_put (λ (g : Held). IsOwnOrFinished w next t g.monitor) h hs n k

pub known_without : (w : World) (next t m : ℕ) (hs : List Held) → AreKnown w next t hs → AreKnown w next t (without_held m hs)
known_without w next t m hs k = each_without (λ (g : Held). IsOwnOrFinished w next t g.monitor) m hs k

-- ---- attempts

-- it is as it was but for its nested entries; or it has ended
abbrev pub AttemptFrom : Option Attempt → Option Attempt → Type 0
AttemptFrom None None = Unit {0}
AttemptFrom None (Some b) = ⊥
AttemptFrom (Some a) None = Unit {0}
AttemptFrom (Some a) (Some b) = (b.monitor ≡ a.monitor) × (b.base ≡ a.base) × (b.entry ≡ a.entry)

pub from_same : (o : Option Attempt) → AttemptFrom o o
from_same None = tt
from_same (Some a) = (refl, refl, refl)

-- the frames below its section are the same
abbrev pub EntryKept : Option Attempt → Option Attempt → (fs gs : List Frame) → Type 0
EntryKept (Some a) (Some b) fs gs = put_back a gs ≡ put_back a fs
EntryKept o p fs gs = Unit {0}

-- one with so many entries inside
pub deeper_from : (o : Option Attempt) (a : Attempt) (inner : ℕ) → o ≡ Some a → AttemptFrom o (Some (record a { inner = inner }))
deeper_from o a inner e = subst (λ (o : Option Attempt). AttemptFrom o (Some (record a { inner = inner }))) (sym e) (refl, refl, refl)

pub entry_same : (o p : Option Attempt) (fs : List Frame) → EntryKept o p fs fs
entry_same (Some a) (Some b) fs = refl
entry_same o p fs = tt

-- ---- how a thread goes on

pub goes_frames : (s : Thread) (o : Onward) → (goes_on s o).frames ≡ frames_in o
goes_frames s (Running fs) = refl
goes_frames s o = refl

-- ---- an attempt is based below the frames inside it

abbrev pub BasedIn : Option Attempt → List Frame → Type 0
BasedIn None fs = Unit {0}
BasedIn (Some a) fs = a.base < length fs

pub based_in : (c : MarkedProgram) (phase : Phase) (fs : List Frame) (held : List Held) (o : Option Attempt) → AttemptStandsIn c phase fs held o → BasedIn o fs
based_in c phase fs held None a = tt
based_in c phase fs held (Some b) a = a.based

-- ---- worlds

same_view : (w : World) (t : ℕ) (o : Option Attempt) → IsViewOf w w t o
same_view w t o = record { same = λ e v. refl; others = λ v n. refl; own = λ v b d e m f. (let same : b ≡ d = cc in sym (ap (λ (x : Builder). x.thread) same) ∙ m) }

module _ (w now : World) (t : ℕ) (o : Option Attempt) (view : IsViewOf now w t o) where
  view_goes : (next : ℕ) → GoesOn w now next next t 0
  view_goes next = goes_by w now next next t (omega arith) (λ v k. view.others v (λ b e. absurd (none_some (w v) b k.1 e)) ∙ k.1)
      (λ v b n e. view.others v (λ d f. (let same : b ≡ d = cc in λ s. n (ap (λ (x : Builder). x.thread) same ∙ s))) ∙ e) (λ v b n e. elim (own_or_not w t v) [ inl k ↦ absurd (n (view.own v k.0 b k.1 k.2 e)) | inr k ↦ sym (view.others v k) ∙ e ])

  -- as long as the attempt goes on
  view_on : (later : World) (first next : ℕ) (b : Attempt) → GoesOn now later next next t 0 → IsWorld later first next → IsViewOf later w t (Some b)
  view_on later first next b goes is = record { same = λ e. absurd (cc); others = λ v n. by_was v n (w v) refl; own = λ v d x e m f. elim (cases_Bool (x.thread == t)) [ inl s ↦ eqb-true x.thread t s | inr s ↦ view.own v d x e m (goes.no_more v x (eqb-false x.thread t s) f) ] }
    where
      by_later : (v : ℕ) → now v ≡ None → (o : Option Builder) → later v ≡ o → later v ≡ None
      by_later v e None f = f
      by_later v e (Some d) f = goes.finished v ((is.inside v d f).1, e)

      by_was : (v : ℕ) → ((d : Builder) → w v ≡ Some d → d.thread ≢ t) → (o : Option Builder) → w v ≡ o → later v ≡ w v
      by_was v n None e = by_later v (view.others v n ∙ e) (later v) refl ∙ sym e
      by_was v n (Some d) e = goes.others v d (n d e) (view.others v n ∙ e) ∙ sym e

-- ---- a thread

module _ (building : Building) (was : Phase) (x : Thread) (k : ThreadIn building was x) (is_world : IsWorld building.w (words_of building.c.program) building.next) where
  open building use {c, owning, w, next, t}

  pub held_known : AreKnown w next t x.held
  held_known = all_of (λ (h : Held). IsOwnOrFinished w next t h.monitor) x.held k.held

  pub now_world : IsWorld k.now (words_of c.program) next
  now_world = k.now_world is_world

  -- it is in no attempt then, or no longer; more words may be taken then
  pub in_none : (after : Stores) (more : ℕ) (now : Phase) (y : Thread) → y.attempt ≡ None → AreKnown w next t y.held → (s : Sees (in_world (with_stores building after) k.now) more now y) → MovedTo (with_stores building after) k.now more now y s.later
  in_none after more now y f held s =
      let goes = goes_both w k.now s.later next next more t (view_goes w k.now t x.attempt k.now_is next) s.goes in
      record {
        moves = record {
          later = s.later;
          goes = goes;
          world = λ z. s.world now_world;
          keeps = record {
            now = s.later;
            now_is = same_view s.later t y.attempt;
            now_world = λ z. z;
            frames = s.fits.0;
            phase = s.fits.1;
            held = λ h there. known_on w s.later next more t t goes h.monitor (of_all (λ (h : Held). IsOwnOrFinished w next t h.monitor) y.held held h there);
            attempt = subst (TriesIn (in_later (with_stores building after) s.later more) y.frames) (sym f) tt;
          };
          lost = λ v b item e h. (s.lost v b item h, s.lost v b item h);
        };
        is_later = refl;
        is_now = refl;
      }

  pub moved_on : (now : Phase) (y : Thread) → AreKnown w next t y.held → AttemptFrom x.attempt y.attempt → EntryKept x.attempt y.attempt x.frames y.frames → Sees (in_world building k.now) next now y → Moved building k.now next now y
  moved_on now y held from entry s = by_both x.attempt refl y.attempt refl from entry
    where
      by_both : (o : Option Attempt) → x.attempt ≡ o → (p : Option Attempt) → y.attempt ≡ p → AttemptFrom o p → EntryKept o p x.frames y.frames → Moved building k.now next now y
      by_both None e (Some b) f from entry = absurd from
      by_both (Some a) e (Some b) f from entry =
          let kept : AttemptIn building x.frames a = subst (TriesIn building x.frames) e k.attempt in
          let same : put_back b y.frames ≡ put_back a y.frames = λ i. from.2 i ∷ drop (length y.frames - from.1 i) y.frames in
          record {
            later = w;
            goes = goes_same w next next t (omega arith);
            world = λ z. z;
            keeps = record {
              now = s.later;
              now_is = subst (IsViewOf s.later w t) (sym f) (view_on w k.now t x.attempt k.now_is s.later (words_of c.program) next b s.goes (s.world now_world));
              now_world = λ z. s.world now_world;
              frames = s.fits.0;
              phase = s.fits.1;
              held = of_all (λ (h : Held). IsOwnOrFinished w next t h.monitor) y.held held;
              attempt = subst (TriesIn building y.frames) (sym f) (record { monitor = subst (IsOwnOrFinished w next t) (sym from.0) kept.monitor; goes_back = subst (FramesIn building Runs) (sym (same ∙ entry)) kept.goes_back });
            };
            lost = λ v d item e h. (e, s.lost v d item h);
          }
      by_both o e None f from entry = (in_none owning.stores next now y f held s).moves

  -- into the world as it was
  as_it_was : (phase : Phase) (y : Thread) → y.held ≡ x.held → PhaseIn building phase y.frames → PhaseKeeps w next t phase → TriesIn building y.frames y.attempt → Moved building k.now next phase y
  as_it_was phase y held frames keeps tries = record {
    later = w;
    goes = goes_same w next next t (omega arith);
    world = λ z. z;
    keeps = record {
      now = w;
      now_is = same_view w t y.attempt;
      now_world = λ z. z;
      frames = frames;
      phase = keeps;
      held = subst (λ (hs : List Held). (h : Held) → Contains hs h → IsOwnOrFinished w next t h.monitor) (sym held) k.held;
      attempt = tries;
    };
    lost = λ v b item e f. (e, e);
  }

  -- an attempt fails
  pub failed : (a : Attempt) (y : Thread) → x.attempt ≡ Some a → y.frames ≡ put_back a x.frames → y.held ≡ x.held → y.attempt ≡ None → Moved building k.now next (phases.Enter a.monitor a.number) y
  failed a y e frames held none =
      let kept : AttemptIn building x.frames a = subst (TriesIn building x.frames) e k.attempt in
      as_it_was (phases.Enter a.monitor a.number) y held (subst (FramesIn building Runs) (sym frames) kept.goes_back) kept.monitor (subst (TriesIn building y.frames) (sym none) tt)

  -- an attempt begins
  pub begun : (m tried : ℕ) (a : Attempt) (f : Frame) (below : List Frame) (y : Thread) → was ≡ phases.Enter m tried → x.attempt ≡ None → x.frames ≡ f ∷ below → y.frames ≡ x.frames → y.held ≡ x.held → y.attempt ≡ Some a → a.monitor ≡ m → a.base ≡ length below → a.entry ≡ f
      → Moved building k.now next phases.Run y
  begun m tried a f below y is none there frames held e monitor base entry =
      let back : k.now ≡ w = (λ i. λ v. k.now_is.same none v i) in
      let stood : FramesIn building Runs x.frames = subst (λ (z : World). FramesIn (in_world building z) Runs x.frames) back (subst (λ (phase : Phase). PhaseIn (in_world building k.now) phase x.frames) is k.frames) in
      let known : IsOwnOrFinished w next t m = subst (λ (z : World). IsOwnOrFinished z next t m) back (subst (PhaseKeeps k.now next t) is k.phase) in
      let one : length (f ∷ below) - length below ≡ 1 = omega arith in
      let whole : put_back a y.frames ≡ x.frames = ap (put_back a) (frames ∙ there) ∙ (λ i. entry i ∷ drop (length (f ∷ below) - base i) (f ∷ below)) ∙ ap (λ (n : ℕ). f ∷ drop n (f ∷ below)) one ∙ sym there in
      as_it_was phases.Run y held (subst (FramesIn building Runs) (sym frames) stood) tt
      (subst (TriesIn building y.frames) (sym e) (record { monitor = subst (IsOwnOrFinished w next t) (sym monitor) known; goes_back = subst (FramesIn building Runs) (sym whole) stood }))

  -- ---- it goes on

  -- outside an attempt, where other arrays were stored then
  pub runs_to : (after : Stores) (s : Thread) (fs : List Frame) (o : Steps k.now next t (λ z. FramesIn (in_world (with_stores building after) z) Runs fs)) → s.attempt ≡ None → AreKnown w next t s.held
      → MovedTo (with_stores building after) k.now next (counted_by was (runs (record s { frames = fs })).phase) (runs (record s { frames = fs })) o.later
  runs_to after s fs o none held = either_way (λ (left : Bool). MovedTo (with_stores building after) k.now next (counted_by was (cond left phases.Run (phases.Ending ends.Steps))) (record s { frames = fs; phase = cond left phases.Run (phases.Ending ends.Steps) }) o.later)
      (nat_lt s.counts.instructions s.cfg.steps)
      (in_none after next phases.Run (record s { frames = fs; phase = phases.Run }) none held (record { later = o.later; goes = o.goes; world = o.world (words_of c.program); lost = o.lost; fits = (o.keeps, tt) }))
      (in_none after next (counted_by was (phases.Ending ends.Steps)) (record s { frames = fs; phase = phases.Ending ends.Steps }) none held (record { later = o.later; goes = o.goes; world = o.world (words_of c.program); lost = o.lost; fits = (o.keeps, tt) }))

  pub onward_sees : (s : Thread) (o : Onward) → Steps k.now next t (λ z. OnwardKeeps (in_world building z) o) → Sees (in_world building k.now) next (counted_by was (goes_on s o).phase) (goes_on s o)
  onward_sees s (Running fs) o = either_way (λ (left : Bool). Sees (in_world building k.now) next (counted_by was (cond left phases.Run (phases.Ending ends.Steps))) (record s { frames = fs; phase = cond left phases.Run (phases.Ending ends.Steps) }))
      (nat_lt s.counts.instructions s.cfg.steps)
      (record { later = o.later; goes = o.goes; world = o.world (words_of c.program); lost = o.lost; fits = (o.keeps, tt) })
      (record { later = o.later; goes = o.goes; world = o.world (words_of c.program); lost = o.lost; fits = (o.keeps, tt) })
  onward_sees s (Throwing e class fs) o = record { later = o.later; goes = o.goes; world = o.world (words_of c.program); lost = o.lost; fits = (o.keeps.1, o.keeps.0) }
  onward_sees s (Entering m fs) o = record { later = o.later; goes = o.goes; world = o.world (words_of c.program); lost = o.lost; fits = (o.keeps.1, o.keeps.0) }
  onward_sees s (Leaving m a fs) o = record { later = o.later; goes = o.goes; world = o.world (words_of c.program); lost = o.lost; fits = (o.keeps.2, (o.keeps.0, o.keeps.1)) }
  onward_sees s RootReturned o = elim s.roots as (λ (roots : List ℕ). Sees (in_world building k.now) next (counted_by was (root_over roots)) (record s { frames = []; phase = root_over roots })) [
    | [] ↦ record { later = o.later; goes = o.goes; world = o.world (words_of c.program); lost = o.lost; fits = (tt, tt) }
    | number ∷ roots ↦ record { later = o.later; goes = o.goes; world = o.world (words_of c.program); lost = o.lost; fits = (tt, tt) }
  ]
  onward_sees s (Uncaught class) o = record { later = o.later; goes = o.goes; world = o.world (words_of c.program); lost = o.lost; fits = (tt, tt) }

  pub onward_moves : (s : Thread) (o : Onward) → IsStructured c was x → IsStructured c (counted_by was (goes_on s o).phase) (goes_on s o) → AreKnown w next t s.held → AttemptFrom x.attempt s.attempt → ((a : Attempt) → x.attempt ≡ Some a → KeepsEntry a x.frames o)
      → Steps k.now next t (λ z. OnwardKeeps (in_world building z) o) → Moved building k.now next (counted_by was (goes_on s o).phase) (goes_on s o)
  onward_moves s o stood stands held from keeps step =
      moved_on (counted_by was (goes_on s o).phase) (goes_on s o) (subst (AreKnown w next t) (sym (goes_held s o)) held) (subst (AttemptFrom x.attempt) (sym (goes_attempt s o)) from)
      (entry x.attempt refl (goes_on s o).attempt (subst (AttemptFrom x.attempt) (sym (goes_attempt s o)) from) (based_in c was x.frames x.held x.attempt stood.attempt) (based_in c (counted_by was (goes_on s o).phase) (goes_on s o).frames (goes_on s o).held (goes_on s o).attempt stands.attempt))
      (onward_sees s o step)
    where
      entry : (p : Option Attempt) → x.attempt ≡ p → (q : Option Attempt) → AttemptFrom p q → BasedIn p x.frames → BasedIn q (goes_on s o).frames → EntryKept p q x.frames (goes_on s o).frames
      entry (Some a) e (Some b) from low high =
          let there : a.base < length (frames_in o) = subst (λ (fs : List Frame). a.base < length fs) (goes_frames s o) (subst (λ (n : ℕ). n < length (goes_on s o).frames) from.1 high) in
          subst (λ (fs : List Frame). put_back a fs ≡ put_back a x.frames) (sym (goes_frames s o)) (keeps a e low there)
      entry p e q from low high = tt

-- ---- more words are taken meanwhile

module _ (building : Building) (seen : World) (more : ℕ) (was : Phase) (y : Thread) where
  open building use {c, w, next, t}

  pub moved_more : IsWorld w (words_of c.program) next → next ≤ more → Moved building seen next was y → Moved building seen more was y
  moved_more is grows m =
      let k = m.keeps in
      let old : (v : World) (u : ℕ) → IsFinished v next u → IsFinished v more u = λ v u o. ((let l = o.0 in omega (arith, l, grows)), o.1) in
      let known : (v : World) (u : ℕ) → IsOwnOrFinished v next t u → IsOwnOrFinished v more t u = λ v u o. ((let l = o.0 in omega (arith, l, grows)), o.1) in
      let same : (v : World) (h : ℕ) → KeepsAt v v t h = λ v h u i e. e in
      record {
        later = m.later;
        goes = record { grows = grows; finished = m.goes.finished; others = m.goes.others; no_more = m.goes.no_more; lower = m.goes.lower };
        world = λ z. world_same m.later (words_of c.program) next more (m.world is) grows;
        keeps = record {
          now = k.now;
          now_is = k.now_is;
          now_world = λ z. world_same k.now (words_of c.program) next more (k.now_world (m.world is)) grows;
          frames = phase_frames_kept (in_world building k.now) k.now more grows (old k.now) (same k.now) (known k.now) was y.frames k.frames;
          phase = phase_kept (in_world building k.now) k.now more grows (old k.now) (same k.now) (known k.now) was k.phase;
          held = λ h there. known m.later h.monitor (k.held h there);
          attempt = attempt_kept (in_world building m.later) m.later more grows (old m.later) (same m.later) (known m.later) y.frames y.attempt k.attempt;
        };
        lost = m.lost;
      }

  pub moved_more_to : (z : World) → IsWorld w (words_of c.program) next → next ≤ more → MovedTo building seen next was y z → MovedTo building seen more was y z
  unfolding moved_more
  moved_more_to z is grows m = record { moves = moved_more is grows m.moves; is_later = m.is_later; is_now = m.is_now }
