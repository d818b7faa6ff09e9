-- Once the lock word of an attempt is no longer as it was noted, each instruction that it begins takes one away of those ahead of its
-- frames, whatever happens.
use Rattle.std.proofs.Common.{◌≡◌, ◌≢◌, inl, inr, ℕ, zero, suc, ◌+◌, ◌≤◌, Bool, true, false, List, [], ◌∷◌, ◌++◌, map, drop, Option, Some, None, refl, sym, ap, subst, ◌∙◌, arith, ◌==◌, slice_get, if◌then◌else◌}
use Rattle.std.proofs.lemmas.Bool.{eqb-false, ne_eqb, Decides.Decides-eqb}
use Rattle.lists.proofs.ListLaws.{same_some}
use Rattle.jvm_types.specs.declared.program.Program.{Program}
use Rattle.checked_program.specs.{MarkedProgram.{MarkedProgram, IsMarked}, SectionLaws.ApartLaw}
use Rattle.machine_types.specs.{Accesses.found_by, Core.{Core, Happening, Of, NextPart, core, event_of, happened, how_ended, may_begin, next_threads, part_begins, part_phase, with_roots}}
use Rattle.machine_types.specs.{Elision.is_same, Events.{wanted, moved}, LockWords.word_of_lock, Parts.{run_roots, done_roots}, Settings.AreSettings, Structure.AttemptStandsIn}
use Rattle.machine_types.{specs.{Threads.{Attempt, Frame, Thread}, declared.{access.Access.TheVariants.Load, config.Config.Config, phase.Phase.Phase}}, proofs.Lists.{got_when_set, got_other}}
use Rattle.laws_threads.specs.{InsideEffects.InsideMayDo, InsideMoves.ElementsInside}
use Rattle.laws_states.{specs.{RunFacts.HaveWidth, RunSafety.{IsSafe, RunsAreSafe}}, proofs.GrowingRuns.one_more}
use Rattle.laws_refinement.{specs.TornRuns.{attempt_in, begun_in, begun_of, begun_by, begun_inside, if_open, IsTorn, NotedNeverReturns, TornRunsAreShort}, proofs.Inside.{Inside, is_inside}}
use Rattle.laws_refinement.proofs.{InstructionsAhead.all_ahead, LateEvents.{Falls, goes_on_with, late, left_in}, ReachedAhead.reached_ahead, SameCounts.IsPassedOn}
use Rattle.machine_types.specs.declared.lock.LockWord.TheVariants as locks
use Rattle.machine_types.specs.declared.phase.After.TheVariants as afters
use Rattle.machine_types.specs.declared.phase.Phase.TheVariants as phases

-- ---- an attempt that is over begins nothing

none_begun : (c : MarkedProgram) (s : Core) (t : ℕ) (hs : List Happening) → attempt_in (slice_get s.threads t) ≡ None → begun_inside c s t hs ≡ 0
none_begun c s t [] e = refl
none_begun c s t (h ∷ hs) e = ap (λ (o : Option Attempt). if_open o (begun_by s t h + begun_inside c (happened c s h) t hs)) e

-- ---- the begin of a part

-- a thread keeps its attempt and its frames, and its phase, unless a part of its own begins
pub record IsPassed (x y : Thread) : Type 0 where
  pub attempt : y.attempt ≡ x.attempt
  pub frames : y.frames ≡ x.frames
  pub phase : IsPassedOn x.phase y.phase

abbrev HasPassed : List Thread → (t : ℕ) → Thread → Type 0
HasPassed threads t x = (y : Thread) × (slice_get threads t ≡ Some y) × IsPassed x y

stays : (x y : Thread) → y.attempt ≡ x.attempt → y.frames ≡ x.frames → y.phase ≡ x.phase → IsPassed x y
stays x y a f p = record { attempt = a; frames = f; phase = inl p }

with_each : (roots : List ℕ) (xs : List Thread) (t : ℕ) (x : Thread) → slice_get xs t ≡ Some x → HasPassed (map (with_roots roots) xs) t x
with_each roots [] t x e = absurd (cc)
with_each roots (z ∷ zs) zero x e = (with_roots roots z, refl, subst (λ (w : Thread). IsPassed w (with_roots roots z)) (same_some e) (record { attempt = refl; frames = refl; phase = inr (roots, refl) }))
with_each roots (z ∷ zs) (suc t) x e = with_each roots zs t x e

passed : (p : Program) (part : ℕ) (z : Thread) (workers : List Thread) (t : ℕ) (x : Thread) → slice_get (z ∷ workers) t ≡ Some x → HasPassed (part_begins p part z workers) t x
passed p zero z workers zero x e =
    let y : Thread = record z { part = 1; first = how_ended z.phase } in
    (y, refl, subst (λ (w : Thread). IsPassed w y) (same_some e) (stays z y refl refl refl))
passed p zero z workers (suc t) x e = with_each (run_roots p) workers t x e
passed p (suc part) z workers zero x e =
    let y : Thread = with_roots (done_roots p) (record z { part = 2 }) in
    (y, refl, subst (λ (w : Thread). IsPassed w y) (same_some e) (record { attempt = refl; frames = refl; phase = inr (done_roots p, refl) }))
passed p (suc part) z workers (suc t) x e = (x, e, stays x x refl refl refl)

next_passed : (p : Program) (threads : List Thread) (t : ℕ) (x : Thread) → slice_get threads t ≡ Some x → HasPassed (next_threads p threads) t x
next_passed p [] t x e = absurd (cc)
next_passed p (z ∷ workers) t x e = elim (may_begin (z ∷ workers)) as (λ (b : Bool). HasPassed (if b then part_begins p z.part z workers else z ∷ workers) t x) [ true ↦ passed p z.part z workers t x e | false ↦ (x, e, stays x x refl refl refl) ]

part_left : (p : Program) (base : ℕ) (x y : Thread) → IsPassed x y → left_in p base y.phase y.frames ≤ left_in p base x.phase x.frames
part_left p base x y k = rw k.frames (by_phase k.phase)
  where
    by_phase : IsPassedOn x.phase y.phase → left_in p base y.phase x.frames ≤ left_in p base x.phase x.frames
    by_phase (inl e) = rw e (omega arith)
    by_phase (inr k) = rw k.1 ((elim k.0 as (λ (roots : List ℕ). left_in p base (part_phase roots) x.frames ≤ left_in p base x.phase x.frames) [ [] ↦ omega arith | number ∷ roots ↦ omega arith ]))

-- ---- what happens next

module _ (may_do : InsideMayDo) (elements : ElementsInside) (safe : RunsAreSafe) (c : MarkedProgram) (cfg : Config) (marked : IsMarked c) (width : HaveWidth cfg) (set : AreSettings cfg) (t : ℕ) where
  abbrev left_of : Attempt → Thread → ℕ
  left_of a x = left_in c.program a.base x.phase x.frames

  -- behind it the thread is there, and its attempt goes on so
  abbrev Leaves : (a : Attempt) (n k : ℕ) → Core → Type 0
  Leaves a n k s = (y : Thread) × (slice_get s.threads t ≡ Some y) × Falls c.program a n k y

  module _ (front : List Happening) (x : Thread) (a : Attempt) (there : slice_get (core c cfg front).threads t ≡ Some x) (tries : x.attempt ≡ Some a) where
    abbrev s : Core
    s = core c cfg front

    as_it_was : (s : Core) → slice_get s.threads t ≡ Some x → Leaves a (left_of a x) 0 s
    as_it_was s e = (x, e, goes_on_with c.program a (left_of a x) 0 a.inner x tries (omega arith))

    own : IsTorn s.words a → (o : Option Thread) → slice_get s.threads t ≡ o → Leaves a (left_of a x) (begun_of o) (event_of c s t o)
    own torn None e = absurd (let bad : None ≡ Some x = sym e ∙ there in cc)
    own torn (Some y) e =
        let got : ℕ = found_by s.words (wanted c x x.phase) in
        let now : Thread = moved c x x.phase got in
        let k : IsSafe c s x = safe c cfg front t x marked width set there in
        let inside : Inside c x a = is_inside may_do elements c marked x a tries k.lawful.was k.lawful.structured in
        let missed : wanted c x x.phase ≡ Some (Load a.monitor) → is_same a got ≡ false = λ w.
        ne_eqb got (word_of_lock (locks.Free a.noted)) (λ same. torn (sym (ap (found_by s.words) w) ∙ same)) in
        let falls : Falls c.program a (left_of a x) (begun_in x.phase) now = late c marked x a tries x.phase got refl inside.known inside.based k.goes k.access.found missed in
        subst (λ (z : Thread). Leaves a (left_of a x) (begun_in z.phase) (event_of c s t (Some z))) (same_some (sym there ∙ e)) (now, got_when_set s.threads t x now there, falls)

    other : (u : ℕ) → t ≢ u → (o : Option Thread) → slice_get s.threads u ≡ o → Leaves a (left_of a x) 0 (event_of c s u o)
    other u apart None e = as_it_was s there
    other u apart (Some y) e = as_it_was (event_of c s u (Some y)) (got_other s.threads u t (moved c y y.phase (found_by s.words (wanted c y y.phase))) apart ∙ there)

    one : (h : Happening) → IsTorn s.words a → Leaves a (left_of a x) (begun_by s t h) (happened c s h)
    one (Of u) torn = (elim (u == t) as (λ (b : Bool). (u == t) ≡ b → Leaves a (left_of a x) (if b then begun_of (slice_get s.threads t) else 0) (happened c s (Of u))) [
      | true ↦ λ e. subst (λ (v : ℕ). Leaves a (left_of a x) (begun_of (slice_get s.threads t)) (happened c s (Of v))) (sym ((Decides-eqb u t).0 e)) (own torn (slice_get s.threads t) refl)
      | false ↦ λ e. other u (λ same. eqb-false u t e (sym same)) (slice_get s.threads u) refl
    ]) refl
    one NextPart torn =
        let k = next_passed c.program s.threads t x there in
        (k.0, k.1, goes_on_with c.program a (left_of a x) 0 a.inner k.0 (k.2.attempt ∙ tries) (omega (arith, part_left c.program a.base x k.0 k.2)))

  -- ---- and so on

  module _ (never : NotedNeverReturns) where
    each : (more front : List Happening) (x : Thread) (a : Attempt) → slice_get (core c cfg front).threads t ≡ Some x → x.attempt ≡ Some a → IsTorn (core c cfg front).words a → begun_inside c (core c cfg front) t more ≤ left_of a x
    each [] front x a there tries torn = omega arith
    each (h ∷ more) front x a there tries torn =
        let k = one front x a there tries h torn in
        by_attempt k.0 k.1 k.2 k.0.attempt refl (λ b e away. each more (front ++ h ∷ []) k.0 b (ap (λ (r : Core). slice_get r.threads t) (one_more c cfg front h) ∙ k.1) e away)
      where
        s : Core
        s = core c cfg front

        r : Core
        r = happened c s h

        opened : begun_inside c s t (h ∷ more) ≡ begun_by s t h + begun_inside c r t more
        opened = ap (λ (o : Option Thread). if_open (attempt_in o) (begun_by s t h + begun_inside c r t more)) there ∙ ap (λ (o : Option Attempt). if_open o (begun_by s t h + begun_inside c r t more)) tries

        by_attempt : (y : Thread) → slice_get r.threads t ≡ Some y → Falls c.program a (left_of a x) (begun_by s t h) y → (o : Option Attempt) → y.attempt ≡ o
            → ((b : Attempt) → y.attempt ≡ Some b → IsTorn (core c cfg (front ++ h ∷ [])).words b → begun_inside c (core c cfg (front ++ h ∷ [])) t more ≤ left_of b y) → begun_inside c s t (h ∷ more) ≤ left_of a x
        by_attempt y e k None over on = rw opened (omega (arith, none_begun c r t more (ap attempt_in e ∙ over), k.few))
        by_attempt y e k (Some b) is on =
            let same = k.same b is in
            let away : IsTorn (core c cfg (front ++ h ∷ [])).words b = subst (λ (q : Core). IsTorn q.words b) (sym (one_more c cfg front h))
            (subst (λ (q : Attempt). IsTorn r.words q) (sym same.1) (never c cfg front h t a (record { marked = marked; width = width; settings = set; thread = x; there = there; tries = tries }) torn)) in
            rw opened (omega (arith, subst (λ (q : Core). begun_inside c q t more ≤ left_of b y) (one_more c cfg front h) (on b is away), ap (λ (q : Attempt). left_of q y) same.1, k.fewer b is))

-- ---- the whole

fewer_below : (p : Program) (base : ℕ) (fs : List Frame) → all_ahead p base (drop 1 fs) ≤ all_ahead p base fs
fewer_below p base [] = omega arith
fewer_below p base (f ∷ fs) = omega arith

all_within : (p : Program) (base : ℕ) (phase : Phase) (fs : List Frame) (n : ℕ) → all_ahead p base fs ≤ n → left_in p base phase fs ≤ n
all_within p base (phases.Leave m afters.Return) fs n h = omega (arith, h, fewer_below p base fs)
all_within p base phase fs n h = omega (arith, h)

pub torn_runs_are_short : InsideMayDo → ElementsInside → RunsAreSafe → ApartLaw → NotedNeverReturns → TornRunsAreShort
torn_runs_are_short may_do elements safe apart never c cfg hs more t n a k torn reach =
    let x : Thread = k.thread in
    let at : IsSafe c (core c cfg hs) x = safe c cfg hs t x k.marked k.width k.settings k.there in
    let whole = reached_ahead apart c n a reach at.lawful.was x.frames x.held (subst (λ (o : Option Attempt). AttemptStandsIn c at.lawful.was x.frames x.held o) k.tries at.lawful.structured.attempt) in
    omega (arith, each may_do elements safe c cfg k.marked k.width k.settings t never more hs x a k.there k.tries torn, all_within c.program a.base x.phase x.frames n whole)
