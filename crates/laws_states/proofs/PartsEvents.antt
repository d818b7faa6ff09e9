-- Whatever event happens, the parts of the run stand as the threads say.
use Rattle.std.proofs.Common.{◌≡◌, inl, inr, ℕ, suc, ◌≤◌, List, [], ◌∷◌, Option, Some, None, refl, ap, sym, subst, ◌∙◌, option_map, slice_get, slice_set}
use Rattle.lists.proofs.ListLaws.{same_some}
use Rattle.jvm_types.specs.declared.program.{MethodInfo.MethodInfo, Program.Program}
use Rattle.laws_programs.specs.RootLaws.{OneMethod}
use Rattle.checked_program.specs.MarkedProgram.{MarkedProgram, IsMarked}
use Rattle.machine_types.specs.{Accesses.found_by, Bounds.{FramesFit, IsRooted}, Core.{Core, event_of}, Events.{wanted, thread_started, moved}, Going.goes_on_if, Onward.rooted}
use Rattle.machine_types.{specs.{Threads.{Frame, Thread}, declared.{config.Config.Config, phase.Phase.Phase}}, proofs.Lists.{got_when_set, got_other}}
use Rattle.laws_threads.specs.{GivenThread.{Given, given_of, GivenIsKept}, RootLaws.RootsAreKept}
use Rattle.laws_states.{specs.{PartsLaws.EventsKeepParts, PartsStand.{FirstFits, HasReturned, HasFinished, DoneRoots, PartsStand}, RunFacts.AreThreads}, proofs.{DoneRoot.one_done, Lists.same_or_not}}
use Rattle.laws_states.proofs.RootMoves.{RootFits, IsNoStart, moved_stays, root_goes}
use Rattle.jvm_types.specs.declared.outcome.End.TheVariants as ends
use Rattle.machine_types.specs.declared.phase.Phase.TheVariants as phases

-- ---- one thread of a list is changed

pub at_each : (threads : List Thread) (t : ℕ) (x now : Thread) (P : (u : ℕ) → Thread → Type 0) → slice_get threads t ≡ Some x → P t now → ((u : ℕ) (y : Thread) → slice_get threads u ≡ Some y → P u y)
    → (u : ℕ) (y : Thread) → slice_get (slice_set threads t now) u ≡ Some y → P u y
at_each threads t x now P there here others u y e = elim (same_or_not u t) [
  | inl k ↦
      let at : slice_get (slice_set threads t now) t ≡ Some y = subst (λ (n : ℕ). slice_get (slice_set threads t now) n ≡ Some y) k e in
      subst (λ (n : ℕ). P n y) (sym k) (subst (P t) (same_some (sym (got_when_set threads t x now there) ∙ at)) here)
  | inr d ↦ others u y (sym (got_other threads t u now d) ∙ e)
]

-- ---- roots by the phase

pub fits_of : (phase : Phase) (frames : List Frame) (roots : List ℕ) → FramesFit phase frames roots → (HasReturned phase → roots ≡ []) → RootFits phase roots
fits_of phases.Start frames [] fits none = absurd fits
fits_of (phases.Ending ends.Returned) frames roots fits none = none tt
fits_of (phases.Ended ends.Returned) frames roots fits none = none tt
fits_of phase frames roots fits none = tt

returned_none : (phase : Phase) (roots : List ℕ) → RootFits phase roots → HasReturned phase → roots ≡ []
returned_none (phases.Ending ends.Returned) roots fits has = fits
returned_none (phases.Ended ends.Returned) roots fits has = fits
returned_none phase roots fits has = absurd has

done_at : (p : Program) (phase : Phase) (roots : List ℕ) → IsNoStart phase → roots ≡ [] → DoneRoots p phase roots
done_at p phases.Start roots n e = absurd n
done_at p phase roots n e = e

not_started : (phase : Phase) (roots : List ℕ) → RootFits phase roots → roots ≡ [] → IsNoStart phase
not_started phases.Start [] fits e = fits
not_started phases.Start (number ∷ roots) fits e = absurd (cc)
not_started phase roots fits e = tt

-- ---- one thread

module _ (c : MarkedProgram) (x : Thread) (got : ℕ) where
  -- the root that is next is a method, since the thread would lack a root else
  record Begun (roots : List ℕ) (y : Thread) : Type 0 where
    fits : RootFits y.phase y.roots
    last : roots ≡ [] → IsNoStart y.phase × (y.roots ≡ [])

  begun : (number : ℕ) (rest : List ℕ) → x.phase ≡ phases.Start → (o : Option MethodInfo) → FramesFit (goes_on_if (record x { roots = rest }) (option_map (rooted c.program x.number number) o)).phase
      (goes_on_if (record x { roots = rest }) (option_map (rooted c.program x.number number) o)).frames (goes_on_if (record x { roots = rest }) (option_map (rooted c.program x.number number) o)).roots
      → Begun rest (goes_on_if (record x { roots = rest }) (option_map (rooted c.program x.number number) o))
  begun number rest e None fits = record {
    fits = fits_of x.phase x.frames rest fits (λ has. absurd (subst HasReturned e has));
    last = λ none. absurd (subst (FramesFit phases.Start x.frames) none (subst (λ (p : Phase). FramesFit p x.frames rest) e fits));
  }
  begun number rest e (Some m) fits =
      let k = root_goes c (record { s = x; Bare = ⊥; none = λ q. absurd q; not = λ q. absurd q }) 0 number m rest in
      record { fits = k.0.fits; last = λ none. (k.1, k.0.keeps.same ∙ none) }

  module _ (fits : IsRooted c.program x) (returned : HasReturned x.phase → x.roots ≡ []) where
    -- what it comes to in a phase
    abbrev Comes : Phase → Type 0
    Comes phase = RootFits (moved c x phase got).phase (moved c x phase got).roots × (DoneRoots c.program x.phase x.roots → DoneRoots c.program (moved c x phase got).phase (moved c x phase got).roots)

    done_before : (phase : Phase) → IsNoStart phase → x.phase ≡ phase → DoneRoots c.program x.phase x.roots → x.roots ≡ []
    done_before phases.Start n e h = absurd n
    done_before phase n e h = subst (λ (p : Phase). DoneRoots c.program p x.roots) e h

    on : (phase : Phase) → IsNoStart phase → x.phase ≡ phase → Comes phase
    on phase n e =
        let old : RootFits phase x.roots = subst (λ (p : Phase). RootFits p x.roots) e (fits_of x.phase x.frames x.roots fits.frames returned) in
        let k = moved_stays c (record { s = x; Bare = ⊥; none = λ q. absurd q; not = λ q. absurd q }) got phase n e old in
        (k.fits, λ h. let none = k.keeps.same ∙ done_before phase n e h in done_at c.program (moved c x phase got).phase (moved c x phase got).roots (not_started (moved c x phase got).phase (moved c x phase got).roots k.fits none) none)

    starts : OneMethod → IsMarked c → x.phase ≡ phases.Start → (roots : List ℕ) → x.roots ≡ roots → IsRooted c.program (thread_started c.program x roots)
        → RootFits (thread_started c.program x roots).phase (thread_started c.program x roots).roots × (DoneRoots c.program x.phase x.roots → DoneRoots c.program (thread_started c.program x roots).phase (thread_started c.program x roots).roots)
    starts one marked e [] f now = absurd (subst (FramesFit phases.Start x.frames) f (subst (λ (p : Phase). FramesFit p x.frames x.roots) e fits.frames))
    starts one marked e (number ∷ rest) f now =
        let k = begun number rest e (slice_get c.program.methods number) now.frames in (
          k.fits,
          λ h.
              let last = k.last (one_done one c.program number rest marked.checked.program (sym (subst (λ (p : Phase). DoneRoots c.program p x.roots) e h) ∙ f)) in
              done_at c.program (thread_started c.program x (number ∷ rest)).phase (thread_started c.program x (number ∷ rest)).roots last.0 last.1,
        )

    comes : OneMethod → IsMarked c → (phase : Phase) → x.phase ≡ phase → IsRooted c.program (moved c x phase got) → Comes phase
    comes one marked phases.Start e now = starts one marked e x.roots refl now
    comes one marked phase e now = on phase tt e

-- a thread that has finished stays as it is
finished_stays : (c : MarkedProgram) (x : Thread) (got : ℕ) (phase : Phase) → x.phase ≡ phase → HasFinished phase → HasFinished (moved c x phase got).phase
finished_stays c x got (phases.Ended reason) e h = subst HasFinished (sym e) h
finished_stays c x got phase e h = absurd h

-- ---- all threads

-- what is known of every event
record KnownParts : Type 0 where
  one : OneMethod
  given : GivenIsKept
  rooted_on : RootsAreKept

module _ (laws : KnownParts) (c : MarkedProgram) (cfg : Config) (s : Core) (t : ℕ) (marked : IsMarked c) (threads : AreThreads c cfg s) (stand : PartsStand c.program s.threads) where
  open laws use {one, given, rooted_on}

  module _ (x : Thread) (there : slice_get s.threads t ≡ Some x) where
    abbrev now : Thread
    now = moved c x x.phase (found_by s.words (wanted c x x.phase))

    came : RootFits now.phase now.roots × (DoneRoots c.program x.phase x.roots → DoneRoots c.program now.phase now.roots)
    came = comes c x (found_by s.words (wanted c x x.phase)) (threads.own t x there).rooted (stand.returned t x there) one marked x.phase refl
        (rooted_on c x (found_by s.words (wanted c x x.phase)) (threads.own t x there).rooted)

    same : given_of now ≡ given_of x
    same = given c x x.phase (found_by s.words (wanted c x x.phase))

    part : now.part ≡ x.part
    part = ap (λ (g : Given). g.part) same

    at_zero : t ≡ 0 → slice_get s.threads 0 ≡ Some x
    at_zero e = subst (λ (n : ℕ). slice_get s.threads n ≡ Some x) e there

    kept : PartsStand c.program (slice_set s.threads t now)
    kept = record {
      first = λ y e. at_each s.threads t x now (λ u y. u ≡ 0 → FirstFits y.part y.first) there
          (λ k. subst (λ (n : ℕ). FirstFits n now.first) (sym part) (subst (FirstFits x.part) (sym (ap (λ (g : Given). g.first) same)) (stand.first x (at_zero k))))
          (λ u y e k. stand.first y (subst (λ (n : ℕ). slice_get s.threads n ≡ Some y) k e)) 0 y e refl;
      few = λ y e. at_each s.threads t x now (λ u y. u ≡ 0 → y.part ≤ 2) there
          (λ k. subst (λ (n : ℕ). n ≤ 2) (sym part) (stand.few x (at_zero k)))
          (λ u y e k. stand.few y (subst (λ (n : ℕ). slice_get s.threads n ≡ Some y) k e)) 0 y e refl;
      workers = λ y z u e late f. workers_done y e late u z f;
      done = λ y e. at_each s.threads t x now (λ u y. u ≡ 0 → 2 ≤ y.part → DoneRoots c.program y.phase y.roots) there
          (λ k late. came.1 (stand.done x (at_zero k) (subst (λ (n : ℕ). 2 ≤ n) part late)))
          (λ u y e k. stand.done y (subst (λ (n : ℕ). slice_get s.threads n ≡ Some y) k e)) 0 y e refl;
      returned = at_each s.threads t x now (λ u y. HasReturned y.phase → y.roots ≡ []) there (returned_none now.phase now.roots came.0) stand.returned;
    }
      where
        -- the thread 0 that there was had as many parts
        was_first : (y : Thread) → slice_get (slice_set s.threads t now) 0 ≡ Some y → (z : Thread) × (slice_get s.threads 0 ≡ Some z) × (y.part ≡ z.part)
        was_first y e = at_each s.threads t x now (λ u y. u ≡ 0 → (z : Thread) × (slice_get s.threads 0 ≡ Some z) × (y.part ≡ z.part)) there
            (λ k. (x, at_zero k, part)) (λ u y e k. (y, subst (λ (n : ℕ). slice_get s.threads n ≡ Some y) k e, refl)) 0 y e refl

        workers_done : (y : Thread) → slice_get (slice_set s.threads t now) 0 ≡ Some y → 2 ≤ y.part → (u : ℕ) (z : Thread) → slice_get (slice_set s.threads t now) (suc u) ≡ Some z → HasFinished z.phase
        workers_done y e late u z f =
            let old = was_first y e in
            let was_late : 2 ≤ old.0.part = subst (λ (n : ℕ). 2 ≤ n) old.2 late in
            at_each s.threads t x now (λ k q. k ≡ suc u → HasFinished q.phase) there
            (λ k. finished_stays c x (found_by s.words (wanted c x x.phase)) x.phase refl (stand.workers old.0 x u old.1 was_late (subst (λ (n : ℕ). slice_get s.threads n ≡ Some x) k there)))
            (λ k q g h. stand.workers old.0 q u old.1 was_late (subst (λ (n : ℕ). slice_get s.threads n ≡ Some q) h g)) (suc u) z f refl

  all_kept : (o : Option Thread) → slice_get s.threads t ≡ o → PartsStand c.program (event_of c s t o).threads
  all_kept None e = stand
  all_kept (Some x) e = kept x e

pub events_keep_parts : OneMethod → GivenIsKept → RootsAreKept → EventsKeepParts
events_keep_parts one given rooted_on c cfg s t marked threads stand = all_kept (record { one = one; given = given; rooted_on = rooted_on }) c cfg s t marked threads stand (slice_get s.threads t) refl
