-- Which parts of the plain run are due, by how far the parts of the run have come.
use Rattle.std.proofs.Common.{◌≡◌, ◌≢◌, ℕ, zero, suc, ◌≤◌, Bool, true, List, [], ◌∷◌, length, Option, Some, None, refl, sym, ap, subst, ◌∙◌, arith, slice_get, ◌&&◌, drop}
use Rattle.std.specs.List.{list_all, AllByRecursion}
use Rattle.jvm_types.specs.declared.outcome.End.{End}
use Rattle.laws_programs.proofs.LocalGoing.{at_index}
use Rattle.checked_program.specs.MarkedProgram.{MarkedProgram}
use Rattle.machine_types.specs.{Agreement.{EndingFits, ThreadFits, has_wait_bit, StatusFits}, Owners.references_of, Parts.has_finished, PlainState.{PlainThread, Status}}
use Rattle.machine_types.specs.{PlainSteps.{first_is_return, init_has_returned, is_over}, Structure.{IsStructured, IsAs, IsLimitAt, PhaseShows, AttemptStandsIn}, Threads.{Attempt, Thread}}
use Rattle.machine_types.specs.declared.{lock.Held.Held, phase.Phase.Phase}
use Rattle.laws_threads.specs.PartLaws.{PartFits, PartsFit}
use Rattle.laws_states.specs.PartsStand.{HasFinished}
use Rattle.laws_simulation.{specs.StandsBeside.ends_shown, proofs.{Assembled.got_same_length, Turns.States}}
use Rattle.jvm_types.specs.declared.outcome.End.TheVariants as ends
use Rattle.machine_types.specs.declared.phase.Phase.TheVariants as phases

-- ---- threads by the part of thread 0

-- workers wait for `init`
pub idle_workers : (threads : List Thread) (x z : Thread) (u : ℕ) → PartsFit threads → slice_get threads 0 ≡ Some x → x.part ≡ 0 → slice_get threads (suc u) ≡ Some z → z.phase ≡ phases.Idle
idle_workers [] x z u fit e f g = absurd (cc)
idle_workers (w ∷ workers) x z u fit e f g =
    let one : w ≡ x = cc in
    let idle : AllByRecursion (λ (v : Thread). v.phase ≡ phases.Idle) workers = subst (λ (n : ℕ). PartFits n w.phase workers) (ap (λ (v : Thread). v.part) one ∙ f) fit in
    at_index (λ (v : Thread). v.phase ≡ phases.Idle) workers u z idle g

-- thread 0 rests between `init` and `done`
pub rests_between : (threads : List Thread) (x : Thread) → PartsFit threads → slice_get threads 0 ≡ Some x → x.part ≡ 1 → x.phase ≡ phases.Ended ends.Returned
rests_between [] x fit e f = absurd (cc)
rests_between (w ∷ workers) x fit e f =
    let one : w ≡ x = cc in
    subst (λ (n : ℕ). PartFits n x.phase workers) f (subst (λ (v : Thread). PartFits v.part v.phase workers) one fit)

pub first_there : {X : Type 0} (xs : List X) (i : ℕ) (x : X) → slice_get xs i ≡ Some x → (y : X) × (slice_get xs 0 ≡ Some y)
first_there [] i x e = absurd (cc)
first_there (y ∷ xs) i x e = (y, refl)

-- ---- a thread whose part has ended by itself

pub record IsFinished (z : Thread) : Type 0 where
  pub «end» : End
  pub phase : z.phase ≡ phases.Ended «end»
  pub by_itself : has_finished «end» ≡ true

pub finished : (z : Thread) (phase : Phase) → z.phase ≡ phase → HasFinished phase → IsFinished z
finished z (phases.Ended e) f h = record { «end» = e; phase = f; by_itself = h }
finished z phase f h = absurd h

no_limit : (e : End) (was : Phase) → has_finished e ≡ true → IsLimitAt e (phases.Ended e) was → was ≡ phases.Ended e
no_limit ends.Returned was h k = k
no_limit (ends.Uncaught class) was h k = k
no_limit e was h k = absurd (cc)

-- it is in no attempt
pub no_attempt : (c : MarkedProgram) (was : Phase) (z : Thread) (e : End) → has_finished e ≡ true → z.phase ≡ phases.Ended e → IsStructured c was z → z.attempt ≡ None
no_attempt c was z e by_itself ended k = (elim z.attempt as (λ (a : Option Attempt). z.attempt ≡ a → a ≡ None) [
  | None ↦ λ f. refl
  | Some a ↦ λ f.
      let as_it_is : IsAs (phases.Ended e) was = subst (λ (p : Phase). IsAs p was) ended k.is_as in
      let was_is : was ≡ phases.Ended e = no_limit e was by_itself as_it_is in
      let stands = k.stands in
      let frames : z.frames ≡ [] = subst (λ (p : Phase). PhaseShows c p z.frames stands.shown z.held z.attempt) was_is stands.phase_shows in
      let tried : AttemptStandsIn c was z.frames z.held (Some a) = subst (λ (o : Option Attempt). AttemptStandsIn c was z.frames z.held o) f k.attempt in
      absurd (omega (arith, tried.based, ap (λ fs. length fs) frames))
]) refl

over_by : (bit : ℕ → Bool) (held : List Held) (e : End) (status : Status) → has_finished e ≡ true → EndingFits bit held e status → is_over status ≡ true
over_by bit held ends.Returned status h k = ap is_over k
over_by bit held (ends.Uncaught class) status h k = ap is_over k
over_by bit held e status h k = absurd (cc)

-- ---- plain threads

pub first_returned : (threads : List PlainThread) (y : PlainThread) → slice_get threads 0 ≡ Some y → first_is_return y.ended ≡ true → init_has_returned threads ≡ true
first_returned [] y e h = absurd (cc)
first_returned (w ∷ workers) y e h = let one : w ≡ y = cc in ap (λ (v : PlainThread). first_is_return v.ended) one ∙ h

pub all_true : {A : Type 0} (f : A → Bool) (xs : List A) → ((i : ℕ) (x : A) → slice_get xs i ≡ Some x → f x ≡ true) → list_all f xs ≡ true
all_true f [] all = refl
all_true f (x ∷ xs) all = ap (λ (b : Bool). b && list_all f xs) (all 0 x refl) ∙ all_true f xs (λ i v e. all (suc i) v e)

all_behind : (ys : List PlainThread) → ((i : ℕ) (w : PlainThread) → slice_get ys (suc i) ≡ Some w → is_over w.status ≡ true) → list_all (λ (w : PlainThread). is_over w.status) (drop 1 ys) ≡ true
all_behind [] each = refl
all_behind (y ∷ ys) each = all_true (λ (w : PlainThread). is_over w.status) ys each

module _ (states : States) where
  open states use {c, was, s, q, facts, beside}

  -- a thread that has finished is over in the plain machine
  pub is_over_too : (u : ℕ) (z : Thread) (w : PlainThread) → slice_get s.threads u ≡ Some z → slice_get q.threads u ≡ Some w → HasFinished z.phase → is_over w.status ≡ true
  is_over_too u z w e f h =
      let k = finished z z.phase refl h in
      let none = no_attempt c (was u) z k.end k.by_itself k.phase (facts.structure u z e) in
      let fits = subst (λ (a : Option Attempt). ThreadFits c.program (has_wait_bit (references_of q.objects) s.words u) z a w) none (beside.agrees.threads u z w e f) in
      over_by (has_wait_bit (references_of q.objects) s.words u) z.held k.end w.status k.by_itself (subst (λ (p : Phase). StatusFits (has_wait_bit (references_of q.objects) s.words u) z p w.status) k.phase fits.status)

  pub workers_over : (x : Thread) → slice_get s.threads 0 ≡ Some x → 2 ≤ x.part → list_all (λ (w : PlainThread). is_over w.status) (drop 1 q.threads) ≡ true
  workers_over x e two = all_behind q.threads (λ i w f.
      let z = got_same_length q.threads s.threads (suc i) w (sym beside.agrees.many) f in
      is_over_too (suc i) z.0 w z.1 f (facts.parts.workers x z.0 i e two z.1))

  -- behind `init`, which has returned
  pub init_returned : (x : Thread) → slice_get s.threads 0 ≡ Some x → x.part ≢ 0 → init_has_returned q.threads ≡ true
  init_returned x e n =
      let y = got_same_length s.threads q.threads 0 x beside.agrees.many e in
      first_returned q.threads y.0 y.1 (ap first_is_return (beside.ends 0 x y.0 e y.1) ∙ by_part x.part n)
    where
      by_part : (part : ℕ) → part ≢ 0 → first_is_return (ends_shown c.program part x.phase) ≡ true
      by_part zero n = absurd (n refl)
      by_part (suc zero) n = refl
      by_part (suc (suc part)) n = refl
