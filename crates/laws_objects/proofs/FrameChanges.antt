-- What an event makes of the frames of its thread: each stays at its height, of its method and on its receiver, or the top one has
-- returned, or an exception has left it, or an attempt has failed.
use Rattle.std.proofs.Common.{◌≡◌, ℕ, ◌+◌, ◌-◌, ◌<◌, ◌⊎◌, inl, inr, Bool, true, false, List, [], ◌∷◌, length, drop, Option, Some, None, refl, sym, ap, ◌∙◌, subst, arith, ◌==◌, option_map, slice_get, if◌then◌else◌}
use Rattle.std.proofs.lemmas.Bool.{cases_Bool, eq-eqb, eqb-true, ne_eqb}
use Rattle.lists.proofs.ListLaws.{same_some}
use Rattle.jvm_types.specs.{Members.is_synchronized, declared.{outcome.Thrown.{Thrown, TheVariants.StackOverflowError}, program.{MethodInfo.MethodInfo, Program.Program, Row.Row}}}
use Rattle.checked_program.specs.MarkedProgram.{MarkedProgram}
use Rattle.machine_types.specs.{Construction.{Throws as Loose, PhaseKeeps}, Elision.{put_back, elided}, Events.{element_made, moved}}
use Rattle.machine_types.specs.Frames.{Top, top_of, frames_of, went, went_on, waiting, taken_from, making, pushed, has_room, entry_frame, arguments_of, monitor_of, returned, handler_at}
use Rattle.machine_types.specs.{Going.{runs, goes_on, goes_on_if}, HeldMonitors.{held_at, with_held, without_held, shallower}, Instructions.{made, printed}}
use Rattle.machine_types.specs.{Onward.{Onward, Running, Throwing, Entering, Leaving, threw, entered, called, rooted, back, unwound, handed, after, done}, ReadyObjects.{class_of, thrown_of}}
use Rattle.machine_types.specs.{Structure.{IsStructured, IsAs, Stands, AttemptStandsIn}, Threads.{Frame, Attempt, Thread}, Words.{header_class, header_length}, Worlds.{World, IsFinished}}
use Rattle.machine_types.specs.declared.{effect.Effect.{Effect, TheVariants.{Goes, Throws, Reads, Measures, Raises, Prints, Calls, Returns}}, phase.After.{After, TheVariants.{Next, Return, Unwind}}}
use Rattle.machine_types.{specs.declared.phase.Phase.{Phase, TheVariants.{FlatOut, Leave}}, proofs.PlainPartLaws.frames_are}
use Rattle.laws_threads.{specs.EntryFrames.{frames_in, KeepsEntry}, proofs.{AttemptMoves.put_back_top, EntryKept.{steps_kept, throws_kept, leaves_kept}, Inside.base_below, MonitorEntries.none_tried}}
use Rattle.laws_threads.proofs.ThreadMove.{GoesBy, Move, becomes, begun_attempt, counting, any_move, gives_up_in, tried_attempt, goes_attempt}
use Rattle.laws_objects.proofs.{Buildings.{Building, FramesIn, PhaseIn}, ThreadMoves.{AreKnown, AttemptFrom, deeper_from, from_same, known_at, known_with, known_without, goes_frames}}
use Rattle.laws_threads.proofs.ThreadMove as moves

-- ---- the frame that has so many below it

abbrev pub frame_at : (h : ℕ) → List Frame → Option Frame
frame_at h [] = None
frame_at h (f ∷ fs) = if length fs == h then Some f else frame_at h fs

pub counted_below : (h : ℕ) (fs : List Frame) (f : Frame) → frame_at h fs ≡ Some f → h < length fs
counted_below h [] f e = absurd (cc)
counted_below h (g ∷ fs) f e =
    elim (cases_Bool (length fs == h)) [ inl t ↦ let s = eqb-true (length fs) h t in omega (arith, s) | inr t ↦ let l = counted_below h fs f (rw t at e) in omega (arith, l) ]

pub top_here : (f : Frame) (fs : List Frame) → frame_at (length fs) (f ∷ fs) ≡ Some f
top_here f fs = ap (λ (b : Bool). if b then Some f else frame_at (length fs) fs) (eq-eqb (length fs) (length fs) refl)

pub under : (h : ℕ) (g : Frame) (fs : List Frame) (f : Frame) → frame_at h fs ≡ Some f → frame_at h (g ∷ fs) ≡ Some f
under h g fs f e = ap (λ (b : Bool). if b then Some g else frame_at h fs) (ne_eqb (length fs) h (let l = counted_below h fs f e in λ s. omega (arith, l, s))) ∙ e

pub top_or : (h : ℕ) (g : Frame) (fs : List Frame) (f : Frame) → frame_at h (g ∷ fs) ≡ Some f → ((length fs ≡ h) × (g ≡ f)) ⊎ (frame_at h fs ≡ Some f)
top_or h g fs f e = elim (cases_Bool (length fs == h)) [ inl t ↦ inl (eqb-true (length fs) h t, same_some (rw t at e)) | inr t ↦ inr (rw t at e) ]

-- ---- frames that stay

abbrev pub AreAlike : Frame → Frame → Type 0
AreAlike f g = (g.method ≡ f.method) × (g.receiver ≡ f.receiver)

abbrev pub Stay : (fs gs : List Frame) → Type 0
Stay fs gs = (h : ℕ) (f : Frame) → frame_at h fs ≡ Some f → (g : Frame) × (frame_at h gs ≡ Some g) × AreAlike f g

pub stay_same : (fs : List Frame) → Stay fs fs
stay_same fs h f e = (f, e, (refl, refl))

pub in_place : (f g : Frame) (fs : List Frame) → AreAlike f g → Stay (f ∷ fs) (g ∷ fs)
in_place f g fs alike h k e = elim (top_or h f fs k e) [ inl p ↦ (g, subst (λ (i : ℕ). frame_at i (g ∷ fs) ≡ Some g) p.0 (top_here g fs), subst (λ (n : Frame). AreAlike n g) p.1 alike) | inr p ↦ (k, under h g fs k p, (refl, refl)) ]

above : (f g n : Frame) (fs : List Frame) → AreAlike f g → Stay (f ∷ fs) (n ∷ g ∷ fs)
above f g n fs alike h k e = let s = in_place f g fs alike h k e in (s.0, under h n (g ∷ fs) s.0 s.1, s.2)

-- ---- how a thread goes on

abbrev IsAway : (x : ℕ) → Thrown → List Frame → Onward → Type 0
IsAway x class fs o = (f : Frame) × (below : List Frame) × (fs ≡ f ∷ below) × (o ≡ unwound x class below)

-- by an instruction; x and class: what is thrown, or is to be thrown on
abbrev OnwardGoes : Program → List Frame → Onward → Type 0
OnwardGoes p fs o = Stay fs (frames_in o) ⊎ ((at : Top) × (top_of p fs ≡ Some at) × (o ≡ back (returned p at)))

module _ (p : Program) (at : Top) where
  entered_goes : (m : MethodInfo) (g : Frame) (b : Bool) → Stay (frames_of at) (frames_in (if b then Entering (monitor_of p m g) (g ∷ waiting p at) else Running (g ∷ waiting p at)))
  entered_goes m g true = above at.frame (taken_from p at) g at.below (refl, refl)
  entered_goes m g false = above at.frame (taken_from p at) g at.below (refl, refl)

  called_goes : (number : ℕ) (m : MethodInfo) (b : Bool) → Stay (frames_of at) (frames_in (if b then entered p m (entry_frame number m (arguments_of p at)) (waiting p at) else threw StackOverflowError at))
  called_goes number m true = entered_goes m (entry_frame number m (arguments_of p at)) (is_synchronized m.flags)
  called_goes number m false = stay_same (frames_of at)

  went_goes : (to made : ℕ) → Stay (frames_of at) (went p at to made)
  went_goes to made = in_place at.frame _ at.below (refl, refl)

  -- one by one
  abbrev Done : Option Onward → Type 0
  Done None = Unit {0}
  Done (Some o) = OnwardGoes p (frames_of at) o

  instruction_goes : (top : top_of p (frames_of at) ≡ Some at) (e : Effect) (got : ℕ) → Done (done p at e got)
  instruction_goes top (Goes to made) got = inl (went_goes to made)
  instruction_goes top (Throws x) got = inl (stay_same (frames_of at))
  instruction_goes top (Reads v) got = inl (went_goes at.insn.next got)
  instruction_goes top (Measures array) got = inl (went_goes at.insn.next (header_length got))
  instruction_goes top (Raises x) got = elim (thrown_of (header_class got)) as (λ (o : Option Thrown). Done (option_map (λ class. Throwing x class (frames_of at)) o))
      [ None ↦ tt | Some class ↦ inl (stay_same (frames_of at)) ]
  instruction_goes top (Calls number) got = elim (slice_get p.methods number) as (λ (o : Option MethodInfo). Done (option_map (called p at number) o))
      [ None ↦ tt | Some m ↦ inl (called_goes number m (has_room p (frames_of at) m)) ]
  instruction_goes top Returns got = elim (is_synchronized at.method.flags) as (λ (b : Bool). OnwardGoes p (frames_of at)
      (if b then Leaving (monitor_of p at.method at.frame) Return (frames_of at) else back (returned p at)))
      [ true ↦ inl (stay_same (frames_of at)) | false ↦ inr (at, top, refl) ]
  instruction_goes top e got = first_of (assumption, search (inl, went_goes at.insn.next 0))

  -- an exception
  handed_goes : (x : ℕ) (class : Thrown) (o : Option Row) → Stay (frames_of at) (frames_in (handed p x class at o)) ⊎ IsAway x class (frames_of at) (handed p x class at o)
  handed_goes x class (Some r) = inl (in_place at.frame _ at.below (refl, refl))
  handed_goes x class None =
      elim (is_synchronized at.method.flags) as (λ (b : Bool). Stay (frames_of at) (frames_in (if b then Leaving (monitor_of p at.method at.frame) (Unwind x class) (frames_of at) else unwound x class at.below))
      ⊎ IsAway x class (frames_of at) (if b then Leaving (monitor_of p at.method at.frame) (Unwind x class) (frames_of at) else unwound x class at.below)) [ true ↦ inl (stay_same (frames_of at)) | false ↦ inr (at.frame, at.below, refl, refl) ]

-- ---- a thread goes on

-- as an attempt goes on, or begins
abbrev pub TriesGo : (o p : Option Attempt) → (fs gs : List Frame) → Type 0
TriesGo o None fs gs = Unit {0}
TriesGo None (Some b) fs gs = (gs ≡ fs) × (put_back b fs ≡ fs)
TriesGo (Some a) (Some b) fs gs = (b.base ≡ a.base) × (b.entry ≡ a.entry) × (a.base < length fs → a.base < length gs → put_back a gs ≡ put_back a fs)

tries_from : (o p : Option Attempt) (fs gs : List Frame) → AttemptFrom o p → ((a : Attempt) → a.base < length fs → a.base < length gs → put_back a gs ≡ put_back a fs) → TriesGo o p fs gs
tries_from None (Some b) fs gs from k = absurd from
tries_from (Some a) (Some b) fs gs from k = (from.1, from.2, k a)
tries_from o None fs gs from k = tt

-- none begins where a frame has gone
pub none_begun : (o p : Option Attempt) (fs gs : List Frame) → TriesGo o p fs gs → o ≡ None → length gs < length fs → p ≡ None
none_begun None (Some b) fs gs tries e l = absurd (omega (arith, l, ap length tries.0))
none_begun (Some a) (Some b) fs gs tries e l = absurd (cc)
none_begun o None fs gs tries e l = refl

pub record StaysSo (x y : Thread) : Type 0 where
  pub frames : Stay x.frames y.frames
  pub tries : TriesGo x.attempt y.attempt x.frames y.frames

-- the top frame has returned
pub record HasReturned (c : MarkedProgram) (x y : Thread) : Type 0 where
  pub at : Top
  pub top : top_of c.program x.frames ≡ Some at
  pub from : Thread
  pub is : y ≡ goes_on from (back (returned c.program at))
  pub tries : TriesGo x.attempt y.attempt x.frames y.frames

-- what a thread of this phase throws, and its frames, as construction has them
pub record Carries (was : Phase) (fs : List Frame) (v : ℕ) : Type 0 where
  pub finished : (w : World) (next t : ℕ) → PhaseKeeps w next t was → IsFinished w next v
  pub frames : (b : Building) → PhaseIn b was fs → FramesIn b Loose fs

-- an exception has left it; what the thread holds was known before
pub record IsUnwound (was : Phase) (x y : Thread) : Type 0 where
  pub frame : Frame
  pub below : List Frame
  pub frames : x.frames ≡ frame ∷ below
  pub from : Thread
  pub thrown : ℕ
  pub class : Thrown
  pub is : y ≡ goes_on from (unwound thrown class below)
  pub tries : TriesGo x.attempt y.attempt x.frames y.frames
  pub known : (w : World) (next t : ℕ) → AreKnown w next t x.held → AreKnown w next t from.held
  pub carries : Carries was x.frames thrown

pub record HasFailed (x y : Thread) : Type 0 where
  pub attempt : Attempt
  pub tried : x.attempt ≡ Some attempt
  pub frames : y.frames ≡ put_back attempt x.frames
  pub ended : y.attempt ≡ None

abbrev pub FramesGo : MarkedProgram → (was : Phase) → (x y : Thread) → Type 0
FramesGo c was x y = StaysSo x y ⊎ HasReturned c x y ⊎ IsUnwound was x y ⊎ HasFailed x y

module _ (c : MarkedProgram) (was : Phase) (x : Thread) where
  abbrev Go : Thread → Type 0
  Go y = FramesGo c was x y

  -- with its frames as they were
  still : (y : Thread) → y.frames ≡ x.frames → AttemptFrom x.attempt y.attempt → Go y
  still y frames from = inl (record {
    frames = subst (Stay x.frames) (sym frames) (stay_same x.frames);
    tries = tries_from x.attempt y.attempt x.frames y.frames from (λ a l m. ap (put_back a) frames);
  })

  -- a thread that stands as it did, but for what it holds and counts
  pub record Stood (s : Thread) : Type 0 where
    pub frames : s.frames ≡ x.frames
    pub tries : AttemptFrom x.attempt s.attempt
    pub known : (w : World) (next t : ℕ) → AreKnown w next t x.held → AreKnown w next t s.held

  tries_on : (s : Thread) → Stood s → (o : Onward) → ((a : Attempt) → KeepsEntry a x.frames o) → TriesGo x.attempt (goes_on s o).attempt x.frames (goes_on s o).frames
  tries_on s stood o entry = tries_from x.attempt (goes_on s o).attempt x.frames (goes_on s o).frames (subst (AttemptFrom x.attempt) (sym (goes_attempt s o)) stood.tries)
      (λ a l m. ap (put_back a) (goes_frames s o) ∙ entry a l (subst (λ (fs : List Frame). a.base < length fs) (goes_frames s o) m))

  on : (s : Thread) → Stood s → (o : Onward) → Stay x.frames (frames_in o) → ((a : Attempt) → KeepsEntry a x.frames o) → Go (goes_on s o)
  on s stood o stay entry = inl (record { frames = subst (Stay x.frames) (sym (goes_frames s o)) stay; tries = tries_on s stood o entry })

  -- ---- behind a monitor, or by an exception

  -- what it throws where it does so
  abbrev CarriesIn : After → Type 0
  CarriesIn a = (v : ℕ) (class : Thrown) → a ≡ Unwind v class → Carries was x.frames v

  goes_behind : (a : After) (s : Thread) → Stood s → CarriesIn a → Go (goes_on_if s (after c.program x.frames a))
  goes_behind Next s stood carried = on s stood (Running x.frames) (stay_same x.frames) (λ a. leaves_kept c.program x.frames a Next (Running x.frames) refl)
  goes_behind Return s stood carried = by_top (top_of c.program x.frames) refl
    where
      by_top : (o : Option Top) → top_of c.program x.frames ≡ o → Go (goes_on_if s (option_map (λ at. back (returned c.program at)) o))
      by_top None e = still s stood.frames stood.tries
      by_top (Some at) e = inr (inl (record {
        at = at;
        top = e;
        from = s;
        is = refl;
        tries = tries_on s stood (back (returned c.program at)) (λ a. leaves_kept c.program x.frames a Return (back (returned c.program at)) (ap (option_map (λ at. back (returned c.program at))) e));
      }))
  goes_behind (Unwind v class) s stood carried = by_frames x.frames refl
    where
      by_frames : (fs : List Frame) → x.frames ≡ fs → Go (goes_on s (unwound v class (drop 1 fs)))
      by_frames [] e = inl (record {
        frames = λ h f at. absurd (let none : frame_at h [] ≡ Some f = subst (λ (fs : List Frame). frame_at h fs ≡ Some f) e at in cc);
        tries = tries_from x.attempt s.attempt x.frames [] stood.tries (λ a l m. absurd (omega (arith, m)));
      })
      by_frames (f ∷ below) e = inr (inr (inl (record {
        frame = f;
        below = below;
        frames = e;
        from = s;
        thrown = v;
        class = class;
        is = refl;
        tries = tries_on s stood (unwound v class below) (λ a. leaves_kept c.program x.frames a (Unwind v class) (unwound v class below) (ap (λ (fs : List Frame). Some (unwound v class (drop 1 fs))) e));
        known = stood.known;
        carries = carried v class refl;
      })))

  -- in a phase that throws behind a monitor, or may
  carries : (to : After → Phase) → ((w : World) (next t v : ℕ) (class : Thrown) → PhaseKeeps w next t (to (Unwind v class)) → IsFinished w next v)
      → ((b : Building) (v : ℕ) (class : Thrown) → PhaseIn b (to (Unwind v class)) x.frames → FramesIn b Loose x.frames)
      → (a : After) → was ≡ to a → CarriesIn a
  carries to finished frames a e v class is =
      let now : was ≡ to (Unwind v class) = e ∙ ap to is in
      record {
        finished = λ w next t k. finished w next t v class (subst (λ (p : Phase). PhaseKeeps w next t p) now k);
        frames = λ b k. frames b v class (subst (λ (p : Phase). PhaseIn b p x.frames) now k);
      }

  leaves_carry : (m : ℕ) (a : After) → was ≡ Leave m a → CarriesIn a
  leaves_carry m = carries (Leave m) (λ w next t v class k. k.1) (λ b v class k. k)

  -- ---- all moves, whatever it has counted

  module _ (n got : ℕ) where
    abbrev s : Thread
    s = counting n x

    stood : Stood s
    stood = record { frames = refl; tries = from_same x.attempt; known = λ w next t k. k }

    there : (at : Top) → top_of c.program x.frames ≡ Some at → frames_of at ≡ x.frames
    there at top = frames_are c.program x.frames at top

    -- ---- it goes on

    onward : (at : Top) → top_of c.program x.frames ≡ Some at → (o : Onward) → OnwardGoes c.program (frames_of at) o → ((a : Attempt) → KeepsEntry a x.frames o) → Go (goes_on s o)
    onward at top o (inl stay) entry = on s stood o (subst (λ (fs : List Frame). Stay fs (frames_in o)) (there at top) stay) entry
    onward at top o (inr is_back) entry = inr (inl (record { at = is_back.0; top = subst (λ (fs : List Frame). top_of c.program fs ≡ Some is_back.0) (there at top) is_back.1; from = s; is = ap (goes_on s) is_back.2; tries = tries_on s stood o entry }))

    goes_next : (at : Top) → top_of c.program x.frames ≡ Some at → (made : ℕ) → Go (goes_on s (Running (went_on c.program at made)))
    goes_next at top made = onward at top (Running (went_on c.program at made)) (inl (went_goes c.program at at.insn.next made)) (λ a. steps_kept c.program x.frames a at (Goes at.insn.next made) 0 (Running (went_on c.program at made)) top refl)

    pushed_goes : (v : ℕ) (fs : List Frame) → x.frames ≡ fs → Go (goes_on s (Running (pushed v fs)))
    pushed_goes v [] e = on s stood (Running []) (subst (Stay x.frames) e (stay_same x.frames)) (λ b l m. absurd (omega (arith, m)))
    pushed_goes v (f ∷ below) e = on s stood (Running (pushed v (f ∷ below)))
        (subst (λ (fs : List Frame). Stay fs (record f { stack = v ∷ f.stack } ∷ below)) (sym e) (in_place f (record f { stack = v ∷ f.stack }) below (refl, refl)))
        (λ b l m. put_back_top b f (record f { stack = v ∷ f.stack }) below (base_below b f below m) ∙ ap (put_back b) (sym e))

    throws_on : (v : ℕ) (class : Thrown) → Carries was x.frames v → (at : Top) → top_of c.program x.frames ≡ Some at → Go (goes_on s (handed c.program v class at (handler_at (class_of class) at)))
    throws_on v class carried at top = elim (handed_goes c.program at v class (handler_at (class_of class) at)) [
      | inl stay ↦ onward at top (handed c.program v class at (handler_at (class_of class) at)) (inl stay) entry
      | inr away ↦ inr (inr (inl (record {
        frame = away.0;
        below = away.1;
        frames = sym (there at top) ∙ away.2;
        from = s;
        thrown = v;
        class = class;
        is = ap (goes_on s) away.3;
        tries = tries_on s stood (handed c.program v class at (handler_at (class_of class) at)) entry;
        known = λ w next t k. k;
        carries = carried;
      })))
    ]
      where
        entry : (a : Attempt) → KeepsEntry a x.frames (handed c.program v class at (handler_at (class_of class) at))
        entry a = throws_kept c.program x.frames a v class (handed c.program v class at (handler_at (class_of class) at)) (ap (option_map (λ at. handed c.program v class at (handler_at (class_of class) at))) top)

    goes_go : (phase : Phase) (o : Onward) → GoesBy c.program s got phase o → IsAs phase was → Go (goes_on s o)
    goes_go _ o (moves.by_effect at e _ top same silent d) is =
        onward at top o (subst (Done c.program at) d (instruction_goes c.program at (ap (top_of c.program) (there at top) ∙ top) e got)) (λ a. steps_kept c.program x.frames a at e got o top d)
    goes_go _ _ (moves.by_machine at class top k) is = onward at top (threw class at) (inl (stay_same (frames_of at))) (λ a. steps_kept c.program x.frames a at (Throws class) 0 (threw class at) top refl)
    goes_go _ _ (moves.by_nobody at m count h top k l y) is = goes_next at top 0
    goes_go _ _ (moves.by_element word stored at top) is = goes_next at top (element_made stored got)
    goes_go _ _ (moves.by_object a word) is = pushed_goes a x.frames refl
    goes_go _ _ (moves.by_handler v class at top) is = throws_on v class
        (record { finished = λ w next t k. subst (λ (p : Phase). PhaseKeeps w next t p) is k; frames = λ b k. subst (λ (p : Phase). PhaseIn b p x.frames) is k }) at top
    goes_go phase o k is = on s stood (Running x.frames) (stay_same x.frames) (λ a. leaves_kept c.program x.frames a Next (Running x.frames) refl)

    -- the next root, with no frame yet
    starts_go : x.frames ≡ [] → (y : Thread) → Stood y → (o : Option Onward) → Go (goes_on_if y o)
    starts_go none y stood None = still y stood.frames stood.tries
    starts_go none y stood (Some o) =
        on y stood o (λ h f e. absurd (let bad : frame_at h [] ≡ Some f = subst (λ (fs : List Frame). frame_at h fs ≡ Some f) none e in cc)) (λ a l. absurd (let few = ap length none in omega (arith, few, l)))

    -- ---- its instruction is done, and it goes to another phase

    did_so : (at : Top) → top_of c.program x.frames ≡ Some at → (y : Thread) → y.frames ≡ went_on c.program at 0 → y.attempt ≡ x.attempt → Go y
    did_so at top y is tried = inl (record {
      frames = subst (Stay x.frames) (sym is) (subst (λ (fs : List Frame). Stay fs (went_on c.program at 0)) (there at top) (went_goes c.program at at.insn.next 0));
      tries = tries_from x.attempt y.attempt x.frames y.frames (subst (AttemptFrom x.attempt) (sym tried) (from_same x.attempt))
          (λ a l m. ap (put_back a) is ∙ steps_kept c.program x.frames a at (Prints 0) 0 (Running (went_on c.program at 0)) top refl l (subst (λ (fs : List Frame). a.base < length fs) is m));
    })

    -- ---- each of them

    move_goes : (phase : Phase) (k : Move c s got phase) → IsAs phase was → Stands c was x.frames x.held x.attempt → AttemptStandsIn c was x.frames x.held x.attempt → Go (becomes c s got phase k)
    move_goes phase (moves.goes o k) is stands inside = goes_go phase o k is
    move_goes phase (moves.fails_in t e d k) is stands inside = inr (inr (inr (record { attempt = t; tried = e; frames = refl; ended = refl })))
    move_goes _ (moves.makes at word size top e t) is stands inside = inl (record {
      frames = subst (λ (fs : List Frame). Stay fs (making c.program at)) (there at top) (in_place at.frame _ at.below (refl, refl));
      tries = tries_from x.attempt x.attempt x.frames (making c.program at) (from_same x.attempt)
          (λ b l m. put_back_top b at.frame (record (taken_from c.program at) { pc = at.insn.next }) at.below (base_below b at.frame at.below m) ∙ ap (put_back b) (there at top));
    })
    move_goes _ (moves.prints at v top e t) is stands inside = did_so at top (goes_on (printed s got v) (Running (went_on c.program at 0))) refl refl
    move_goes _ (moves.asks_to_wait at m h now top e l k) is stands inside = did_so at top _ refl refl
    move_goes _ (moves.asks at m h now top y l k) is stands inside = did_so at top _ refl refl
    move_goes _ (moves.enters_inside m tried t k) is stands inside =
        still (runs (record s { attempt = Some (record t { inner = t.inner + 1 }) })) refl (deeper_from x.attempt t (t.inner + 1) (tried_attempt m (held_at x.held m) x.attempt t k))
    move_goes _ (moves.begins_to_try m tried noted f below e y l t free) is stands inside =
        let a : Attempt = begun_attempt m noted tried f below in
        let one : length (f ∷ below) - length below ≡ 1 = omega arith in
        let none : x.attempt ≡ None = none_tried c m tried x.frames x.held (held_at x.held m) x.attempt free (subst (λ (p : Phase). AttemptStandsIn c p x.frames x.held x.attempt) is inside) in
        inl (record { frames = stay_same x.frames; tries = subst (λ (o : Option Attempt). TriesGo o (Some a) x.frames x.frames) (sym none) (refl, subst (λ (fs : List Frame). put_back a fs ≡ fs) (sym e) (ap (λ (n : ℕ). f ∷ drop n (f ∷ below)) one)) })
    move_goes phase (moves.gives_up m a k) is stands inside =
        goes_behind a (record s { held = without_held m x.held }) (record { frames = refl; tries = from_same x.attempt; known = λ w next t k. known_without w next t m x.held k })
        (gives_up_in (λ (phase : Phase). IsAs phase was → CarriesIn a) s m a phase k (leaves_carry m a) (carries (FlatOut m) (λ w next t v class k. k.1) (λ b v class k. k) a) is)
    move_goes _ (moves.leaves_outer m a h e t) is stands inside = goes_behind a (record s { held = with_held (shallower h) x.held })
        (record { frames = refl; tries = from_same x.attempt; known = λ w next t k. known_with w next t (shallower h) x.held (known_at w next t m x.held h k e) k }) (leaves_carry m a is)
    move_goes _ (moves.leaves_inside m a t inner k e) is stands inside = goes_behind a (record s { attempt = Some (record t { inner = inner }) })
        (record { frames = refl; tries = deeper_from x.attempt t inner (tried_attempt m (held_at x.held m) x.attempt t k); known = λ w next t k. k }) (leaves_carry m a is)
    move_goes _ (moves.finishes_try m a t k e y) is stands inside = goes_behind a (elided s)
        (record { frames = refl; tries = (subst (λ (o : Option Attempt). AttemptFrom o None) (sym (tried_attempt m (held_at x.held m) x.attempt t k)) tt); known = λ w next t k. k }) (leaves_carry m a is)
    move_goes _ (moves.starts number roots e) is stands inside =
        starts_go (subst (λ (p : Phase). Stands c p x.frames x.held x.attempt) is stands).phase_shows (record s { roots = roots })
        (record { frames = refl; tries = from_same x.attempt; known = λ w next t k. k })
        (option_map (rooted c.program x.number number) (slice_get c.program.methods number))
    move_goes phase k is stands inside = still (becomes c s got phase k) refl (from_same x.attempt)

  pub frames_go : (got : ℕ) → IsStructured c was x → Go (moved c x x.phase got)
  frames_go got stood = any_move Go c x x.phase got (λ n k. move_goes n got x.phase k stood.is_as stood.stands stood.attempt)
