-- In every run an object is finished by the return of its own `<init>` alone: until then no place and no other thread has it.
use Rattle.std.proofs.Common.{◌≡◌, ℕ, zero, suc, ◌<◌, ◌⊎◌, inl, inr, Bool, List, [], ◌∷◌, ◌++◌, length, Option, Some, None, refl, sym, ap, ◌∙◌, subst, arith, ◌==◌, slice_get, slice_index, get_or, arith}
use Rattle.std.proofs.lemmas.{Bool.{cases_Bool, eqb-true, eqb-false}, Option.{slice_get_within, slice_get-get_or}}
use Rattle.lists.proofs.ListLaws.{same_some}
use Rattle.jvm_types.specs.declared.{fixed_words.TheConstants.NEXT_FREE_WORD}
use Rattle.checked_program.specs.MarkedProgram.{MarkedProgram}
use Rattle.machine_types.specs.{Accesses.found_by, Core.{Core, Happening, Of, NextPart, event, event_of, next, all_happened, core}, Events.{wanted, moved}}
use Rattle.machine_types.specs.{Frames.{Top, top_of, frames_of, given, given_back, returned}, PlainMemory.Object, Standing.Standing, Structure.IsStructured, Threads.{Frame, Attempt, Thread}}
use Rattle.machine_types.{specs.{Worlds.{Begun, Builder, builder}, declared.{config.Config.Config, phase.Phase.{Phase, TheVariants.Made}}}, proofs.{Lists.got_when_set, PlainPartLaws.frames_are}}
use Rattle.laws_threads.{specs.{PartLaws.counted_next, StateLaws.counted_after}, proofs.{Landing.stand_top}}
use Rattle.laws_states.{specs.{ChangeLaws.{all_objects, run_objects}, HeapFacts.objects_after}, proofs.{BegunThreads.{begun as begun_there}, GrowingRuns.next_long, Lists.contained_got}}
use Rattle.laws_objects.{specs.UnfinishedObjects.{ReturnsFrom, NeverReturns, NoOtherHas, FinishedByOwnReturn}, proofs.Buildings.{Building, in_world, PhaseIn, ThreadIn, building_in}}
use Rattle.laws_objects.proofs.BuiltRuns.{Run, state_of, TellsClass, tells_class, AreBuiltLaws, BuiltThere, LostThere, BuiltIn, event_there, next_there, event_lost, next_lost, nobody_has, reached, lost_behind, core_more, objects_more}
use Rattle.laws_objects.proofs.{FrameChanges.{frame_at, under, top_here, in_place, none_begun, TriesGo, IsUnwound, FramesGo, frames_go}, ThreadMoves.BasedIn}
use Rattle.laws_objects.proofs.UnreturnedInits.{IsYoung, HasInit, init_stays, init_splits, HasBack, IsInside, world_begun, put_back_low, based_of, has_back_on, back_frames, away_frames}
use Rattle.laws_objects.proofs.Unused.{uses_not, places_have_not}

-- ---- the thread behind an event of its own

-- the second frame stands, whatever phase counts
second_stands : (b : Building) (phase : Phase) (f g : Frame) (fs : List Frame) → PhaseIn b phase (f ∷ g ∷ fs) → Standing b.c g
second_stands b (Made a word) f g fs k = k.keep.1.0.keeps.stands
second_stands b phase f g fs k = k.1.0.keeps.stands

module _ (building : Building) (h v : ℕ) (was : Phase) (x : Thread) (keeps : ThreadIn building was x) (inside : IsInside building.c building.frozen h v x) where
  open building use {c, marked, frozen}

  returned_has : (at : Top) → x.frames ≡ frames_of at → HasInit c frozen h v at.below → HasInit c frozen h v (returned c.program at)
  returned_has at there k = by_below at.below refl k
    where
      by_below : (fs : List Frame) → at.below ≡ fs → HasInit c frozen h v fs → HasInit c frozen h v (given (given_back at.insn.op at.frame.stack) (top_of c.program fs))
      by_below [] e k = absurd (let none = k.there in cc)
      by_below (g ∷ gs) e k =
          let frames : PhaseIn (in_world building keeps.now) was (at.frame ∷ g ∷ gs) = subst (PhaseIn (in_world building keeps.now) was) (there ∙ ap (λ (fs : List Frame). at.frame ∷ fs) e) keeps.frames in
          let stands : Standing c g = second_stands (in_world building keeps.now) was at.frame g gs frames in
          subst (λ (o : Option Top). HasInit c frozen h v (given (given_back at.insn.op at.frame.stack) o)) (sym (stand_top c marked g gs stands))
          (init_stays c frozen h v (g ∷ gs) (record g { pc = stands.insn.next; stack = given_back at.insn.op at.frame.stack ++ g.stack } ∷ gs) (in_place g (record g { pc = stands.insn.next; stack = given_back at.insn.op at.frame.stack ++ g.stack }) gs (refl, refl)) k)

  -- it is inside still, or an exception has left it
  pub record HasLeft (y : Thread) : Type 0 where
    pub unwound_by : IsUnwound was x y
    pub ended : y.attempt ≡ None
    pub is : IsYoung c frozen v unwound_by.frame
    pub high : length unwound_by.below ≡ h

  inside_behind : (y : Thread) → BasedIn x.attempt x.frames → BasedIn y.attempt y.frames → TriesGo x.attempt y.attempt x.frames y.frames → HasInit c frozen h v y.frames → IsInside c frozen h v y
  inside_behind y low high tries k = record { now = k; goes_back = has_back_on c frozen h v x.attempt y.attempt x.frames y.frames tries low high inside.now inside.goes_back }

  left : (y : Thread) (u : IsUnwound was x y) → BasedIn y.attempt y.frames → length u.below ≡ h → IsYoung c frozen v u.frame → HasLeft y
  left y u high e is = record { unwound_by = u; ended = by_attempts x.attempt refl y.attempt refl; is = is; high = e }
    where
      frames : y.frames ≡ u.below
      frames = ap (λ (z : Thread). z.frames) u.is ∙ away_frames u.from u.thrown u.class u.below

      by_attempts : (o : Option Attempt) → x.attempt ≡ o → (p : Option Attempt) → y.attempt ≡ p → y.attempt ≡ None
      by_attempts o q None r = r
      by_attempts None q p r = none_begun x.attempt y.attempt x.frames y.frames u.tries q (omega (arith, ap length frames, ap length u.frames))
      by_attempts (Some a) q (Some b) r =
          let tries : TriesGo (Some a) (Some b) x.frames y.frames = subst (λ (p : Option Attempt). TriesGo (Some a) p x.frames y.frames) r (subst (λ (o : Option Attempt). TriesGo o y.attempt x.frames y.frames) q u.tries) in
          let low = put_back_low c frozen h v a x.frames (subst (λ (o : Option Attempt). HasBack c frozen h v o x.frames) q inside.goes_back) in
          let based : b.base < length y.frames = subst (λ (p : Option Attempt). BasedIn p y.frames) r high in
          let few : length y.frames ≡ h = ap length frames ∙ e in
          let same = tries.0 in
          absurd (omega (arith, low, based, few, same))

  pub goes_inside : (y : Thread) → BasedIn x.attempt x.frames → BasedIn y.attempt y.frames → FramesGo c was x y → ((at : Top) → top_of c.program x.frames ≡ Some at → IsYoung c frozen v at.frame → y.frames ≡ returned c.program at → ⊥) → IsInside c frozen h v y ⊎ HasLeft y
  goes_inside y low high (inl stays) never = inl (inside_behind y low high stays.tries (init_stays c frozen h v x.frames y.frames stays.frames inside.now))
  goes_inside y low high (inr (inl r)) never = elim (init_splits c frozen h v r.at.frame r.at.below (subst (HasInit c frozen h v) there inside.now)) [
    | inl p ↦ absurd (never r.at r.top p.1 frames)
    | inr k ↦ inl (inside_behind y low high r.tries (subst (HasInit c frozen h v) (sym frames) (returned_has r.at there k)))
  ]
    where
      there : x.frames ≡ frames_of r.at
      there = sym (frames_are c.program x.frames r.at r.top)

      frames : y.frames ≡ returned c.program r.at
      frames = ap (λ (z : Thread). z.frames) r.is ∙ back_frames r.from (returned c.program r.at)
  goes_inside y low high (inr (inr (inl u))) never = elim (init_splits c frozen h v u.frame u.below (subst (HasInit c frozen h v) u.frames inside.now)) [
    | inl p ↦ inr (left y u high p.0 p.1)
    | inr k ↦ inl (inside_behind y low high u.tries (subst (HasInit c frozen h v) (sym (ap (λ (z : Thread). z.frames) u.is ∙ away_frames u.from u.thrown u.class u.below)) k))
  ]
  goes_inside y low high (inr (inr (inr f))) never = inl (record {
    now = subst (HasInit c frozen h v) (sym f.frames) (subst (λ (o : Option Attempt). HasBack c frozen h v o x.frames) f.tried inside.goes_back);
    goes_back = subst (λ (o : Option Attempt). HasBack c frozen h v o y.frames) (sym f.ended) tt;
  })

-- ---- a state in which it is unfinished

record InsideThere (c : MarkedProgram) (cfg : Config) (frozen : ℕ → Bool) (t h v : ℕ) (objects : List Object) (was : ℕ → Phase) (s : Core) : Type 0 where
  there : BuiltThere c cfg frozen objects was s
  thread : Thread
  here : slice_get s.threads t ≡ Some thread
  inside : IsInside c frozen h v thread

module _ (run : Run) (t h v : ℕ) where
  open run use {laws, c, cfg, frozen}

  abbrev Unfinished : List Object → (ℕ → Phase) → Core → Type 0
  Unfinished objects was s = InsideThere c cfg frozen t h v objects was s ⊎ LostThere c cfg frozen v objects was s

  module _ (objects : List Object) (was : ℕ → Phase) (s : Core) (k : InsideThere c cfg frozen t h v objects was s) where
    begun : k.there.world v ≡ Some (builder t h Begun)
    begun = world_begun (building_in (state_of run objects was s k.there) t) h v (was t) k.thread (k.there.built.each t k.thread k.here) k.inside

    no_other : NoOtherHas c v t objects s
    no_other = record {
      places = places_have_not c k.there.owning k.there.world (slice_index s.words NEXT_FREE_WORD) v objects s.words (builder t h Begun) begun k.there.built.places;
      threads = λ u x apart here. (
          let keeps = k.there.built.each u x here in
          let seen : keeps.now v ≡ Some (builder t h Begun) = keeps.now_is.others v (λ b e. (let same : builder t h Begun ≡ b = same_some (sym begun ∙ e) in λ z. apart (sym z ∙ sym (ap (λ (i : Builder). i.thread) same)))) ∙ begun in
          uses_not (building_in (state_of run objects was s k.there) u) v (was u) x keeps k.there.built.world (k.there.facts.structure u x here).is_as
          (record { built = builder t h Begun; is = seen; other = λ i y n s. apart (sym (ap (λ (j : Builder). j.thread) s)) })
          );
    }

    -- an event of the thread itself
    is_now : slice_get (event c s t).threads t ≡ Some (moved c k.thread k.thread.phase (found_by s.words (wanted c k.thread k.thread.phase)))
    is_now = ap (λ (o : Option Thread). slice_get (event_of c s t o).threads t) k.here ∙ got_when_set s.threads t k.thread (moved c k.thread k.thread.phase (found_by s.words (wanted c k.thread k.thread.phase))) k.here

    behind : BuiltThere c cfg frozen (objects_after c.program s t objects) (counted_after c was s t) (event c s t)
    behind = event_there run objects was s k.there t

    own_event : (ReturnsFrom c v s t → ⊥) → Unfinished (objects_after c.program s t objects) (counted_after c was s t) (event c s t)
    own_event never = elim (goes_inside (building_in (state_of run objects was s k.there) t) h v (was t) k.thread keeps k.inside (moved c k.thread k.thread.phase (found_by s.words (wanted c k.thread k.thread.phase)))
        (based_of c (was t) k.thread stood)
        (based_of c (counted_after c was s t t) (moved c k.thread k.thread.phase (found_by s.words (wanted c k.thread k.thread.phase))) stands)
        (frames_go c (was t) k.thread (found_by s.words (wanted c k.thread k.thread.phase)) stood)
        (λ at top is frames. never (record { thread = k.thread; there = k.here; top = at; is_top = top; init = is.init; later = moved c k.thread k.thread.phase (found_by s.words (wanted c k.thread k.thread.phase)); behind = is_now; gone = frames }))) [
          | inl inside ↦ inl (record { there = behind; thread = moved c k.thread k.thread.phase (found_by s.words (wanted c k.thread k.thread.phase)); here = is_now; inside = inside })
          | inr left ↦ inr (lost_behind run objects was s k.there t v k.thread k.here left.unwound_by left.ended left.is.init left.is.young
              (subst (λ (n : ℕ). k.there.world v ≡ Some (builder t n Begun)) (sym left.high) begun))
        ]
      where
        keeps : ThreadIn (building_in (state_of run objects was s k.there) t) (was t) k.thread
        keeps = k.there.built.each t k.thread k.here

        stood : IsStructured c (was t) k.thread
        stood = k.there.facts.structure t k.thread k.here

        stands : IsStructured c (counted_after c was s t t) (moved c k.thread k.thread.phase (found_by s.words (wanted c k.thread k.thread.phase)))
        stands = behind.facts.structure t (moved c k.thread k.thread.phase (found_by s.words (wanted c k.thread k.thread.phase))) is_now

    next_part : InsideThere c cfg frozen t h v objects (counted_next c was s) (next c s)
    next_part =
        let many = slice_get_within s.threads t k.thread k.here in
        let y : Thread = get_or (next c s).threads t k.thread in
        let there : slice_get (next c s).threads t ≡ Some y = slice_get-get_or (next c s).threads t k.thread (omega (arith, many, next_long c.program s.threads)) in
        let b = begun_there c.program s.threads t y there in
        let same : b.0 ≡ k.thread = same_some (sym b.1 ∙ k.here) in
        let frames : y.frames ≡ k.thread.frames = b.2.frames ∙ ap (λ (z : Thread). z.frames) same in
        let attempt : y.attempt ≡ k.thread.attempt = b.2.attempt ∙ ap (λ (z : Thread). z.attempt) same in
        record {
          there = next_there run objects was s k.there;
          thread = y;
          here = there;
          inside = record {
            now = subst (HasInit c frozen h v) (sym frames) k.inside.now;
            goes_back = subst (λ (o : Option Attempt). HasBack c frozen h v o y.frames) (sym attempt) (subst (HasBack c frozen h v k.thread.attempt) (sym frames) k.inside.goes_back);
          };
        }

  -- ---- whatever happens

  one_event : (objects : List Object) (was : ℕ → Phase) (s : Core) (u : ℕ) → (ReturnsFrom c v s u → ⊥) → Unfinished objects was s → Unfinished (objects_after c.program s u objects) (counted_after c was s u) (event c s u)
  one_event objects was s u never (inr lost) = inr (event_lost run objects was s v u lost)
  one_event objects was s u never (inl k) = elim (cases_Bool (u == t)) [
    | inl e ↦ subst (λ (n : ℕ). Unfinished (objects_after c.program s n objects) (counted_after c was s n) (event c s n)) (sym (eqb-true u t e)) (own_event objects was s k (subst (λ (n : ℕ). ReturnsFrom c v s n → ⊥) (eqb-true u t e) never))
    | inr e ↦ inl (record { there = event_there run objects was s k.there u; thread = k.thread; here = laws.others c s u t (λ i. eqb-false u t e (sym i)) ∙ k.here; inside = k.inside })
  ]

  all_unfinished : (es : List Happening) (objects : List Object) (was : ℕ → Phase) (s : Core) → NeverReturns c v s es → InsideThere c cfg frozen t h v objects was s ⊎ LostThere c cfg frozen v objects was s → NoOtherHas c v t (all_objects c s objects es) (all_happened c s es)
  all_unfinished [] objects was s never (inl k) = no_other objects was s k
  all_unfinished [] objects was s never (inr lost) = let all = nobody_has run objects was s v lost in record { places = all.places; threads = λ u x apart here. all.threads u x here }
  all_unfinished (Of u ∷ es) objects was s never k = all_unfinished es (objects_after c.program s u objects) (counted_after c was s u) (event c s u) never.1 (one_event objects was s u never.0 k)
  all_unfinished (NextPart ∷ es) objects was s never (inl k) = all_unfinished es objects (counted_next c was s) (next c s) never (inl (next_part objects was s k))
  all_unfinished (NextPart ∷ es) objects was s never (inr lost) = all_unfinished es objects (counted_next c was s) (next c s) never (inr (next_lost run objects was s v lost))

-- ---- a frame of a list is at some height

at_height : (fs : List Frame) (i : ℕ) (f : Frame) → slice_get fs i ≡ Some f → (h : ℕ) × (frame_at h fs ≡ Some f)
at_height [] i f e = absurd (cc)
at_height (g ∷ fs) zero f e = (length fs, top_here g fs ∙ e)
at_height (g ∷ fs) (suc i) f e = let k = at_height fs i f e in (k.0, under k.0 g fs f k.1)

pub finished_by_return : AreBuiltLaws → FinishedByOwnReturn
finished_by_return laws c cfg hs t v es marked width settings k never =
    let test : TellsClass c k.init.method.class = tells_class laws.frozen_test c marked k.init.method.class k.init.frozen in
    let run : Run = record { laws = laws; c = c; cfg = cfg; frozen = test.frozen; are = test.are; marked = marked; width = width; settings = settings } in
    let state : BuiltIn c cfg test.frozen (run_objects c cfg hs) (core c cfg hs) = reached run hs in
    let high = at_height k.thread.frames k.among.0 k.frame (contained_got k.thread.frames k.frame k.among) in
    let there : InsideThere c cfg test.frozen t high.0 v (run_objects c cfg hs) state.was (core c cfg hs) = record {
      there = state.there;
      thread = k.thread;
      here = k.there;
      inside = record { now = record { frame = k.frame; there = high.1; is = record { init = k.init; young = test.tells } }; goes_back = subst (λ (o : Option Attempt). HasBack c test.frozen high.0 v o k.thread.frames) (sym k.outside) tt };
    } in
    subst (λ (r : Core). NoOtherHas c v t (run_objects c cfg (hs ++ es)) r) (sym (core_more c cfg hs es))
    (subst (λ (os : List Object). NoOtherHas c v t os (all_happened c (core c cfg hs) es)) (sym (objects_more c cfg hs es))
    (all_unfinished run t high.0 v es (run_objects c cfg hs) state.was (core c cfg hs) never (inl there)))
