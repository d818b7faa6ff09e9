-- An attempt stands behind an exit of its monitor that is not the last one.
use Rattle.std.proofs.Common.{inr, ◌≡◌, ⊎_elim, ℕ, suc, ◌+◌, Bool, List, [], ◌∷◌, length, Some, refl, sym, ap, ◌∙◌, subst, arith, option_map}
use Rattle.lists.proofs.ListLaws.{same_some}
use Rattle.jvm_types.specs.declared.code.Op.{Op}
use Rattle.checked_program.specs.{LockTags.TagShape, MarkedProgram.{MarkedProgram, IsMarked}}
use Rattle.machine_types.specs.{Frames.{top_of, given, given_back, returned}, Onward.{Onward, Running, back, unwound}, Threads.{Frame, Attempt}, declared.{lock.Held.Held, phase.After.After}}
use Rattle.machine_types.specs.Structure.{IsLeaving, Stands, AttemptStands, Finishes, frames_inside, operands_after, TopLeaves, count_in, held_depth, tried_depth}
use Rattle.laws_threads.{specs.InsideMoves.{GoesOnInside, OnwardStands, LeavesInside}, proofs.{AttemptMoves.{only_entry, returned_on, unwound_on}, Base.{entry_of, as_many, none_inside}}}
use Rattle.laws_threads.proofs.{Inside.{runs_inside, stands_on}, SectionFrames.Runs, FramePlaces.has_top, Standings.one_tags}
use Rattle.machine_types.specs.declared.phase.After.TheVariants as afters
use Rattle.machine_types.specs.declared.phase.Phase.TheVariants as phases

-- how a thread goes on is known
pub lands : (c : MarkedProgram) (held : List Held) (a : Attempt) (o onward : Onward) → (OnwardStands c o → GoesOnInside c o held a) → Some o ≡ Some onward → OnwardStands c onward → GoesOnInside c onward held a
lands c held a o onward h q st = subst (λ x. GoesOnInside c x held a) (same_some q) (h (subst (OnwardStands c) (sym (same_some q)) st))

module _ (c : MarkedProgram) (marked : IsMarked c) (m : ℕ) (e : After) (held : List Held) (a : Attempt) (n : ℕ) (inner : a.inner ≡ suc n) where
  -- it is no last look at the lock word
  never_finished : (fs : List Frame) → Finishes a (phases.Leave m e) fs → ⊥
  never_finished fs x = let last = x.outermost in omega (arith, last, inner)

  next : (fs : List Frame) (k : AttemptStands c (phases.Leave m e) fs held a) → GoesOnInside c (Running fs) held (record a { inner = n })
  next fs k = stands_on c (phases.Leave m e) phases.Run fs fs held a n k tt k.based refl (inr (⊎_elim (λ x. absurd (never_finished (frames_inside a fs) x)) (λ x. x) k.frames))

  -- behind a return or an exception the frame of the entry would leave the monitor for the last time
  not_entry : (f : Frame) (below : List Frame) (k : AttemptStands c (phases.Leave m e) (f ∷ below) held a) (s : Stands c (phases.Leave m e) (f ∷ below) held (Some a)) (r : Runs c a f (frames_inside a below)) → ((p : ℕ) → count_in p s.shown ≡ held_depth p held + tried_depth p (Some a)) → r.stands.tags.held ≡ [] → a.base ≡ length below → ⊥
  not_entry f below k s r counts none base = let last = alone (frames_inside a below) r (only_entry a below base) none in omega (arith, last, inner)
    where
      alone : (rest : List Frame) (q : Runs c a f rest) → rest ≡ [] → q.stands.tags.held ≡ [] → a.inner ≡ 0
      alone (b ∷ rest) q z h = absurd (cc)
      alone [] q z h =
          let entry = entry_of c marked a (phases.Leave m e) (f ∷ below) held k in
          none_inside c marked a f q entry (operands_after e) (phases.Leave m e) below held s.shown k base s.show counts (as_many c marked a f q entry h)

  top_runs : (f : Frame) (below : List Frame) (k : AttemptStands c (phases.Leave m e) (f ∷ below) held a) → Runs c a f (frames_inside a below)
  top_runs f below k = runs_inside c (phases.Leave m e) f below held a k (never_finished (frames_inside a (f ∷ below)))

  none_held : (f : Frame) (below : List Frame) (test : Op → Bool) (r : Runs c a f (frames_inside a below)) → TopLeaves c m test (f ∷ below) → r.stands.tags.held ≡ []
  none_held f below test r (k, leaves, passes) = let at : IsLeaving c m f k = leaves in ap (λ (x : TagShape). x.held) (one_tags c marked f r.stands k) ∙ at.none

pub leaves_inside : LeavesInside
leaves_inside c m afters.Next fs held a n onward marked k s inner goes st = lands c held (record a { inner = n }) (Running fs) onward (λ l. next c marked m afters.Next held a n inner fs k) goes st
leaves_inside c m afters.Return [] held a n onward marked k s inner goes st = absurd s.phase_shows
leaves_inside c m (afters.Unwind x class) [] held a n onward marked k s inner goes st = absurd s.phase_shows
leaves_inside c m afters.Return (f ∷ below) held a n onward marked k s inner goes st =
    let r = top_runs c marked m afters.Return held a n inner f below k in
    let none = none_held c marked m afters.Return held a n inner f below _ r s.phase_shows in
    let result = given_back r.stands.insn.op f.stack in
    lands c held (record a { inner = n }) (back (given result (top_of c.program below))) onward
    (λ l. returned_on c marked (phases.Leave m afters.Return) f held a below n result k r (not_entry c marked m afters.Return held a n inner f below k s r (λ p. let d = s.depths p in omega (arith, d)) none) l)
    (sym (ap (option_map (λ at. back (returned c.program at))) (has_top c marked f below r.stands)) ∙ goes) st
leaves_inside c m (afters.Unwind x class) (f ∷ below) held a n onward marked k s inner goes st =
    let r = top_runs c marked m (afters.Unwind x class) held a n inner f below k in
    let none = none_held c marked m (afters.Unwind x class) held a n inner f below _ r s.phase_shows in
    lands c held (record a { inner = n }) (unwound x class below) onward
    (λ l. unwound_on c marked (phases.Leave m (afters.Unwind x class)) f held a below n x class k r (not_entry c marked m (afters.Unwind x class) held a n inner f below k s r (λ p. let d = s.depths p in omega (arith, d)) none)) goes st
