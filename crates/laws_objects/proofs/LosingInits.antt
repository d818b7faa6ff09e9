-- An object whose `<init>` an exception has left is lost from then on.
use Rattle.std.proofs.Common.{inl, inr, ◌≡◌, ◌≢◌, ℕ, ◌<◌, ◌≤◌, Bool, true, false, List, [], ◌∷◌, length, Some, None, refl, sym, ap, ◌∙◌, subst, arith, ◌==◌, if◌then◌else◌}
use Rattle.std.proofs.lemmas.Bool.{cases_Bool, eq-eqb, eqb-true, ne_eqb}
use Rattle.lists.proofs.{ListLaws.same_some, TestLaws.both_true}
use Rattle.jvm_types.specs.{CodeTable.is_init, ProgramInvariant.words_of, declared.{outcome.{End.TheVariants.Uncaught, Thrown.Thrown}, program.MethodInfo.MethodInfo}}
use Rattle.machine_types.specs.{Construction.{builds, Throws as Loose, BuilderTurn, ReceiverIs}, Going.goes_on, Onward.unwound, Threads.{Frame, Thread}}
use Rattle.machine_types.specs.{Worlds.{Lost, Begun, Builder, builder, World, IsFinished, IsWorld, GoesOn}, declared.phase.Phase.{Phase, TheVariants.{Ending, Throw}}}
use Rattle.laws_threads.{specs.StructureLaws.counted_by, proofs.ThreadMove.goes_held}
use Rattle.laws_objects.{specs.UnfinishedObjects.IsInitOn, proofs.{Buildings.{Building, in_world, FrameIn, BelowIn, FramesIn, ThreadIn}, CountedPhases.PhaseFits, FrameChanges.IsUnwound}}
use Rattle.laws_objects.proofs.{KeptFrames.{KeepsUnder, frames_kept}, Onwards.OnwardKeeps, ThreadMoves.{MovedTo, Sees, AreKnown, held_known, in_none, moved_more_to}, ThrowingFrames.frames_unwound}
use Rattle.laws_objects.proofs.WorldChanges.{none_some, goes_by, lost, KeepsLost}

-- ---- the world in which it is lost

abbrev pub losing : World → (v : ℕ) → Builder → World
losing w v b u = if u == v then Some (lost b) else w u

pub losing_here : (w : World) (v : ℕ) (b : Builder) → losing w v b v ≡ Some (lost b)
losing_here w v b = ap (λ (x : Bool). if x then Some (lost b) else w v) (eq-eqb v v refl)

losing_there : (w : World) (v : ℕ) (b : Builder) (u : ℕ) → u ≢ v → losing w v b u ≡ w u
losing_there w v b u n = ap (λ (x : Bool). if x then Some (lost b) else w u) (ne_eqb u v n)

module _ (w : World) (v t : ℕ) (b : Builder) (is : w v ≡ Some b) (mine : b.thread ≡ t) (unfinished : b.item ≢ Lost) where
  -- one builder, and another
  same_builder : (u : ℕ) (j : Builder) → w u ≡ Some j → u ≡ v → b ≡ j
  same_builder u j e s = let here : w v ≡ Some j = subst (λ (x : ℕ). w x ≡ Some j) s e in same_some (sym is ∙ here)

  losing_back : (u : ℕ) (j : Builder) → losing w v b u ≡ Some j → j ≢ lost b → w u ≡ Some j
  losing_back u j e n = (elim (u == v) as (λ (x : Bool). (if x then Some (lost b) else w u) ≡ Some j → w u ≡ Some j) [ true ↦ λ e. absurd (n (sym (same_some e))) | false ↦ λ e. e ]) e

  losing_old : (next u : ℕ) → IsFinished w next u → IsFinished (losing w v b) next u
  losing_old next u o = (o.0, losing_there w v b u (λ s. none_some (w v) b (subst (λ (x : ℕ). w x ≡ None) s o.1) is) ∙ o.1)

  losing_goes : (next : ℕ) → GoesOn w (losing w v b) next next t 0
  losing_goes next = goes_by w (losing w v b) next next t (omega arith) (λ u o. (losing_old next u o).1)
      (λ u j n e. losing_there w v b u (λ s. n (sym (ap (λ (i : Builder). i.thread) (same_builder u j e s)) ∙ mine)) ∙ e) (λ u j n e. losing_back u j e (λ s. n (ap (λ (i : Builder). i.thread) s ∙ mine)))

  losing_world : (first next : ℕ) → IsWorld w first next → IsWorld (losing w v b) first next
  losing_world first next k = record {
    one = λ u x j n e f. k.one u x j n (losing_back u j e (λ s. n (ap (λ (i : Builder). i.item) s))) (losing_back x j f (λ s. n (ap (λ (i : Builder). i.item) s)));
    inside = λ u j e. elim (cases_Bool (u == v)) [ inl s ↦ subst (λ (y : ℕ). (first ≤ y) × (y < next)) (sym (eqb-true u v s)) (k.inside v b is) | inr s ↦ k.inside u j (rw s at e) ];
    room = k.room;
  }

  losing_lost : KeepsLost w (losing w v b)
  losing_lost u j item e = losing_there w v b u (λ s. unfinished (ap (λ (i : Builder). i.item) (same_builder u j e s) ∙ item)) ∙ e

  losing_under : (h : ℕ) → h ≤ b.height → KeepsUnder w (losing w v b) t h
  losing_under h l i less u x e = losing_there w v b u (λ s. (let same : b.height ≡ i = ap (λ (j : Builder). j.height) (same_builder u (builder t i x) e s) in omega (arith, same, less, l))) ∙ e

-- the frames below stand there
module _ (building : Building) (v : ℕ) (b : Builder) (is : building.w v ≡ Some b) (mine : b.thread ≡ building.t) (unfinished : b.item ≢ Lost) where
  open building use {w, next, t}

  losing_keeps : (x : ℕ) (class : Thrown) (f : Frame) (fs : List Frame) → length fs ≤ b.height → BelowIn building f fs → IsFinished w next x → OnwardKeeps (in_world building (losing w v b)) (unwound x class fs)
  losing_keeps x class f [] high keeps old = tt
  losing_keeps x class f (g ∷ gs) high keeps old = (
    losing_old w v t b is mine unfinished next x old,
    frames_kept building (losing w v b) next (losing_old w v t b is mine unfinished next) Loose (g ∷ gs) (losing_under w v t b is mine unfinished (length (g ∷ gs)) high) (frames_unwound building f (g ∷ gs) keeps),
  )

-- ---- the receiver of an `<init>` of a frozen class is begun

module _ (building : Building) where
  open building use {c, frozen, w, next, t}

  pub init_begun : (h v : ℕ) (turn : BuilderTurn) (f : Frame) → FrameIn building h turn f → (k : IsInitOn c v f) → frozen k.method.class ≡ true → w v ≡ Some (builder t h Begun)
  init_begun h v turn f kept k young =
      let same : k.method ≡ kept.stands.method = same_some (sym k.there ∙ kept.stands.at.in_program) in
      let own : builds frozen kept.stands.method ≡ true = subst (λ (m : MethodInfo). builds frozen m ≡ true) same (both_true (is_init k.method) (frozen k.method.class) k.init young) in
      subst (λ (a : ℕ). w a ≡ Some (builder t h Begun)) k.receiver (subst (λ (b : Bool). ReceiverIs w next t h b f.receiver) own kept.receiver)

-- ---- a thread leaves it

module _ (building : Building) (was : Phase) (x : Thread) (k : ThreadIn building was x) (world : IsWorld building.w (words_of building.c.program) building.next) where
  open building use {c, frozen, owning, w, next, t}

  -- the world as the thread sees it
  abbrev seen : Building
  seen = in_world building k.now

  module _ (v : ℕ) (b : Builder) (begun : k.now v ≡ Some b) (mine : b.thread ≡ t) (unfinished : b.item ≢ Lost) where
    sees_lost : (now : Phase) (y : Thread) → PhaseFits (in_world building (losing k.now v b)) y.frames now → Sees seen next now y
    sees_lost now y fits = record { later = losing k.now v b; goes = losing_goes k.now v t b begun mine unfinished next; world = losing_world k.now v t b begun mine unfinished (words_of c.program) next; lost = losing_lost k.now v t b begun mine unfinished; fits = fits }

    away_to : (s : Thread) (thrown : ℕ) (class : Thrown) (fs : List Frame) → OnwardKeeps (in_world building (losing k.now v b)) (unwound thrown class fs) → (goes_on s (unwound thrown class fs)).attempt ≡ None → AreKnown w next t (goes_on s (unwound thrown class fs)).held
        → MovedTo building k.now next (counted_by was (goes_on s (unwound thrown class fs)).phase) (goes_on s (unwound thrown class fs)) (losing k.now v b)
    unfolding sees_lost
    away_to s thrown class [] keeps none held =
        let y : Thread = record s { frames = []; phase = Ending (Uncaught class) } in
        in_none building was x k world owning.stores next (counted_by was (Ending (Uncaught class))) y none held (sees_lost (counted_by was (Ending (Uncaught class))) y (tt, tt))
    away_to s thrown class (g ∷ gs) keeps none held =
        let y : Thread = record s { frames = g ∷ gs; phase = Throw thrown class } in
        in_none building was x k world owning.stores next (counted_by was (Throw thrown class)) y none held (sees_lost (counted_by was (Throw thrown class)) y (keeps.1, keeps.0))

  pub leaves_lost : (more v : ℕ) (y : Thread) → next ≤ more → (u : IsUnwound was x y) → y.attempt ≡ None → (i : IsInitOn c v u.frame) → frozen i.method.class ≡ true
      → MovedTo building k.now more (counted_by was y.phase) y (losing k.now v (builder t (length u.below) Begun))
  leaves_lost more v y grows u none i young =
      let b : Builder = builder t (length u.below) Begun in
      let frames : FramesIn seen Loose (u.frame ∷ u.below) = subst (FramesIn seen Loose) u.frames (u.carries.frames seen k.frames) in
      let begun : k.now v ≡ Some (builder t (length u.below) Begun) = init_begun seen (length u.below) v Loose u.frame frames.0 i young in
      let old : IsFinished k.now next u.thrown = u.carries.finished k.now next t k.phase in
      let keeps : OnwardKeeps (in_world building (losing k.now v b)) (unwound u.thrown u.class u.below) = losing_keeps seen v b begun refl (λ e. cc) u.thrown u.class u.frame u.below (omega arith) frames.1 old in
      let held : AreKnown w next t (goes_on u.from (unwound u.thrown u.class u.below)).held = subst (AreKnown w next t) (sym (goes_held u.from (unwound u.thrown u.class u.below))) (u.known w next t (held_known building was x k world)) in
      let ended : (goes_on u.from (unwound u.thrown u.class u.below)).attempt ≡ None = subst (λ (z : Thread). z.attempt ≡ None) u.is none in
      moved_more_to building k.now more (counted_by was y.phase) y (losing k.now v b) world grows
      (subst (λ (z : Thread). MovedTo building k.now next (counted_by was z.phase) z (losing k.now v b)) (sym u.is) (away_to v b begun refl (λ e. cc) u.from u.thrown u.class u.below keeps ended held))
