-- As long as the `<init>` of a frozen class has not returned, no place and no other thread has its object.
use Rattle.std.proofs.Common.{◌≡◌, ℕ, suc, ◌-◌, ◌<◌, ◌⊎◌, inl, inr, Bool, true, List, [], ◌∷◌, length, drop, Option, Some, None, refl, sym, ap, ◌∙◌, subst, arith, slice_get}
use Rattle.std.proofs.lemmas.List.{length-drop}
use Rattle.jvm_types.specs.declared.outcome.Thrown.{Thrown}
use Rattle.checked_program.specs.MarkedProgram.{MarkedProgram}
use Rattle.machine_types.specs.{Construction.{BuilderTurn, Runs, WaitsFor, made_world, turn_by}, Elision.put_back, Going.goes_on, Onward.{back, unwound}, Structure.{operands_in, IsStructured}}
use Rattle.machine_types.specs.{Threads.{Frame, Attempt, Thread}, Worlds.{Item, Begun, Lost, Builder, builder}, declared.phase.Phase.{Phase, TheVariants.Made}}
use Rattle.laws_objects.{specs.UnfinishedObjects.IsInitOn, proofs.Buildings.{Building, in_world, BelowIn, FramesIn, PhaseIn, AttemptIn, TriesIn, ThreadIn}}
use Rattle.laws_objects.proofs.{FrameChanges.{frame_at, counted_below, top_or, in_place, Stay, TriesGo}, LosingInits.init_begun, ThreadMoves.{BasedIn, based_in}}
use Rattle.laws_objects.proofs.WorldChanges.{given_back, finished_back}

-- ---- some frame at a height is an `<init>` of a class that the test tells, on the object v

pub record IsYoung (c : MarkedProgram) (frozen : ℕ → Bool) (v : ℕ) (f : Frame) : Type 0 where
  pub init : IsInitOn c v f
  pub young : frozen init.method.class ≡ true

pub record HasInit (c : MarkedProgram) (frozen : ℕ → Bool) (h v : ℕ) (fs : List Frame) : Type 0 where
  pub frame : Frame
  pub there : frame_at h fs ≡ Some frame
  pub is : IsYoung c frozen v frame

pub init_stays : (c : MarkedProgram) (frozen : ℕ → Bool) (h v : ℕ) (fs gs : List Frame) → Stay fs gs → HasInit c frozen h v fs → HasInit c frozen h v gs
init_stays c frozen h v fs gs stay k =
    let to = stay h k.frame k.there in
    let i = k.is.init in
    record {
      frame = to.0;
      there = to.1;
      is = record {
        init = record { method = i.method; there = ap (λ (n : ℕ). slice_get c.program.methods n) to.2.0 ∙ i.there; init = i.init; frozen = i.frozen; receiver = to.2.1 ∙ i.receiver };
        young = k.is.young;
      };
    }

-- at the top, or below it
pub init_splits : (c : MarkedProgram) (frozen : ℕ → Bool) (h v : ℕ) (f : Frame) (fs : List Frame) → HasInit c frozen h v (f ∷ fs) → ((length fs ≡ h) × IsYoung c frozen v f) ⊎ HasInit c frozen h v fs
init_splits c frozen h v f fs k = elim (top_or h f fs k.frame k.there) [ inl p ↦ inl (p.0, subst (IsYoung c frozen v) (sym p.1) k.is) | inr p ↦ inr (record { frame = k.frame; there = p; is = k.is }) ]

-- ---- its object is begun

module _ (building : Building) (h v : ℕ) where
  open building use {c, frozen, w, t}

  below_begun : (g : Frame) (fs : List Frame) → BelowIn building g fs → HasInit c frozen h v fs → w v ≡ Some (builder t h Begun)
  below_begun g [] keeps k = absurd (let e = k.there in cc)
  below_begun g (f ∷ fs) keeps k = elim (init_splits c frozen h v f fs k) [
    | inl p ↦ subst (λ (i : ℕ). w v ≡ Some (builder t i Begun)) p.0 (init_begun building (length fs) v (WaitsFor g.receiver keeps.0.begun) f keeps.0.keeps p.1.init p.1.young)
    | inr k ↦ below_begun f fs keeps.1 k
  ]

  frames_begun : (turn : BuilderTurn) (fs : List Frame) → FramesIn building turn fs → HasInit c frozen h v fs → w v ≡ Some (builder t h Begun)
  frames_begun turn [] keeps k = absurd (let e = k.there in cc)
  frames_begun turn (f ∷ fs) keeps k = elim (init_splits c frozen h v f fs k) [ inl p ↦ subst (λ (i : ℕ). w v ≡ Some (builder t i Begun)) p.0 (init_begun building (length fs) v turn f keeps.0 p.1.init p.1.young) | inr k ↦ below_begun f fs keeps.1 k ]

  -- also before the header of a new object is stored
  made_begun : (a height : ℕ) (item : Option Item) → (item ≡ Some Begun → ⊥) → made_world w a t height item v ≡ Some (builder t h Begun) → w v ≡ Some (builder t h Begun)
  made_begun a height (Some x) other e = elim (given_back w a (builder t height x) v (builder t h Begun) e) [
    | inl g ↦ absurd (other (ap (λ (b : Builder). Some b.item) (sym g.1)))
    | inr (inl g) ↦ g.1
    | inr (inr g) ↦ absurd (let i : Begun ≡ Lost = ap (λ (b : Builder). b.item) g.2 in cc)
  ]
  made_begun a height None other e = finished_back w a v (builder t h Begun) e

module _ (building : Building) (h v : ℕ) where
  open building use {c, frozen, w, t}

  phase_begun : (phase : Phase) (fs : List Frame) → PhaseIn building phase fs → HasInit c frozen h v fs → w v ≡ Some (builder t h Begun)
  phase_begun (Made a word) [] keeps k = absurd (let e = k.there in cc)
  phase_begun (Made a word) (f ∷ fs) keeps k =
      made_begun building h v a (length (f ∷ fs) - 1) keeps.item keeps.not_begun
      (frames_begun (in_world building (made_world w a t (length (f ∷ fs) - 1) keeps.item)) h v Runs (record f { stack = a ∷ f.stack } ∷ fs) keeps.keep
      (init_stays c frozen h v (f ∷ fs) (record f { stack = a ∷ f.stack } ∷ fs) (in_place f (record f { stack = a ∷ f.stack }) fs (refl, refl)) k))
  phase_begun phase fs keeps k = frames_begun building h v (turn_by (operands_in phase)) fs keeps k

-- ---- a thread is inside it, and so it would be if its attempt failed

abbrev pub HasBack : MarkedProgram → (frozen : ℕ → Bool) → (h v : ℕ) → Option Attempt → List Frame → Type 0
HasBack c frozen h v None fs = Unit {0}
HasBack c frozen h v (Some a) fs = HasInit c frozen h v (put_back a fs)

pub record IsInside (c : MarkedProgram) (frozen : ℕ → Bool) (h v : ℕ) (x : Thread) : Type 0 where
  pub now : HasInit c frozen h v x.frames
  pub goes_back : HasBack c frozen h v x.attempt x.frames

-- in the world, as well as the thread sees it
pub world_begun : (b : Building) (h v : ℕ) (was : Phase) (x : Thread) (k : ThreadIn b was x) → IsInside b.c b.frozen h v x → b.w v ≡ Some (builder b.t h Begun)
world_begun b h v was x k i = by_attempt x.attempt refl
  where
    by_attempt : (o : Option Attempt) → x.attempt ≡ o → b.w v ≡ Some (builder b.t h Begun)
    by_attempt None e = sym (k.now_is.same e v) ∙ phase_begun (in_world b k.now) h v was x.frames k.frames i.now
    by_attempt (Some a) e =
        let keeps : AttemptIn b x.frames a = subst (TriesIn b x.frames) e k.attempt in
        frames_begun b h v Runs (put_back a x.frames) keeps.goes_back (subst (λ (o : Option Attempt). HasBack b.c b.frozen h v o x.frames) e i.goes_back)

-- ---- an attempt that begins or goes on

pub put_back_low : (c : MarkedProgram) (frozen : ℕ → Bool) (h v : ℕ) (a : Attempt) (fs : List Frame) → HasInit c frozen h v (put_back a fs) → h < suc a.base
put_back_low c frozen h v a fs k =
    let low = counted_below h (put_back a fs) k.frame k.there in
    let long : length (drop (length fs - a.base) fs) ≡ length fs - (length fs - a.base) = length-drop (length fs - a.base) fs in
    omega (arith, low, long)

pub has_back_on : (c : MarkedProgram) (frozen : ℕ → Bool) (h v : ℕ) (o p : Option Attempt) (fs gs : List Frame) → TriesGo o p fs gs → BasedIn o fs → BasedIn p gs → HasInit c frozen h v fs → HasBack c frozen h v o fs → HasBack c frozen h v p gs
has_back_on c frozen h v None (Some b) fs gs tries low high k back = subst (HasInit c frozen h v) (sym (ap (put_back b) tries.0 ∙ tries.1)) k
has_back_on c frozen h v (Some a) (Some b) fs gs tries low high k back =
    let there : a.base < length gs = subst (λ (n : ℕ). n < length gs) tries.0 high in
    let same : put_back b gs ≡ put_back a gs = λ i. tries.1 i ∷ drop (length gs - tries.0 i) gs in
    subst (HasInit c frozen h v) (sym (same ∙ tries.2 low there)) back
has_back_on c frozen h v o None fs gs tries low high k back = tt

pub based_of : (c : MarkedProgram) (was : Phase) (x : Thread) → IsStructured c was x → BasedIn x.attempt x.frames
based_of c was x k = based_in c was x.frames x.held x.attempt k.attempt

-- ---- the frames behind a return and behind an exception

pub back_frames : (s : Thread) (fs : List Frame) → (goes_on s (back fs)).frames ≡ fs
back_frames s [] = refl
back_frames s (f ∷ fs) = refl

pub away_frames : (s : Thread) (x : ℕ) (class : Thrown) (fs : List Frame) → (goes_on s (unwound x class fs)).frames ≡ fs
away_frames s x class [] = refl
away_frames s x class (f ∷ fs) = refl
