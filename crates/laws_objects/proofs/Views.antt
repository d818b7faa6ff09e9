-- What a thread sees of the world, as another thread's event or one of its own changes it.
use Rattle.std.proofs.Common.{◌≡◌, ◌≢◌, ℕ, ◌≤◌, ◌<◌, ◌⊎◌, inl, inr, Bool, Option, Some, None, refl, sym, ap, ◌∙◌, subst, arith, ◌==◌, if◌then◌else◌}
use Rattle.std.proofs.lemmas.Bool.{cases_Bool, true_from_ne_false, eq-eqb, eqb-true, ne_eqb, eqb-false}
use Rattle.jvm_types.specs.ProgramInvariant.{words_of}
use Rattle.machine_types.specs.{Threads.{Attempt, Thread}, Worlds.{Lost, Builder, builder, World, IsFinished, IsOwnOrFinished, IsWorld, IsViewOf, GoesOn}, declared.phase.Phase.Phase}
use Rattle.laws_objects.proofs.{Buildings.{Building, in_world, in_later, ThreadIn}, KeptFrames.{KeepsAt, phase_frames_kept, phase_kept, attempt_kept}, WorldChanges.none_some}

-- ---- whether a thread builds an object

abbrev pub IsOwnIn : World → (u v : ℕ) → Type 0
IsOwnIn w u v = (b : Builder) × (w v ≡ Some b) × (b.thread ≡ u)

abbrev pub IsNoneOf : World → (u v : ℕ) → Type 0
IsNoneOf w u v = (b : Builder) → w v ≡ Some b → b.thread ≢ u

pub own_or_not : (w : World) (u v : ℕ) → IsOwnIn w u v ⊎ IsNoneOf w u v
own_or_not w u v = (elim (w v) as (λ (o : Option Builder). w v ≡ o → IsOwnIn w u v ⊎ IsNoneOf w u v) [
  | None ↦ λ e. inr (λ b f. absurd (none_some (w v) b e f))
  | Some b ↦ λ e. elim (cases_Bool (b.thread == u)) [
    | inl t ↦ inl (b, e, eqb-true b.thread u t)
    | inr t ↦ inr (λ d f s. eqb-false b.thread u t (let same : b ≡ d = cc in ap (λ (x : Builder). x.thread) same ∙ s))
  ]
]) refl

-- a number below the next word is known to a thread or another builds it
pub known_on : (w later : World) (next more t u : ℕ) → GoesOn w later next more t 0 → (v : ℕ) → IsOwnOrFinished w next u v → IsOwnOrFinished later more u v
known_on w later next more t u goes v k = ((let l = k.0 in let g = goes.grows in omega (arith, l, g)), λ b e. eqb-true b.thread u (true_from_ne_false (b.thread == u) (λ s. was b (eqb-false b.thread u s) e (w v) refl)))
  where
    was : (b : Builder) → b.thread ≢ u → later v ≡ Some b → (o : Option Builder) → w v ≡ o → ⊥
    was b n e None f = none_some (later v) b (goes.finished v (k.0, f)) e
    was b n e (Some d) f = let mine : d.thread ≡ u = k.1 d f in elim (cases_Bool (d.thread == t)) [
      | inl o ↦  -- its builder is t, and so u is; b is another's, who built it before
          let before = goes.no_more v b (λ s. n (s ∙ sym (eqb-true d.thread t o) ∙ mine)) e in
          let same : d ≡ b = cc in
          n (sym (ap (λ (x : Builder). x.thread) same) ∙ mine)
      | inr o ↦ let stays = goes.others v d (eqb-false d.thread t o) f in
          let same : d ≡ b = cc in
          n (sym (ap (λ (x : Builder). x.thread) same) ∙ mine)
    ]

pub finished_on : (w later : World) (next more t : ℕ) → GoesOn w later next more t 0 → (v : ℕ) → IsFinished w next v → IsFinished later more v
finished_on w later next more t goes v k = ((let l = k.0 in let g = goes.grows in omega (arith, l, g)), goes.finished v k)

-- ---- what another thread sees then: what it builds as it saw that, all else as it is now

abbrev pub own_or : (u : ℕ) → Option Builder → (mine rest : Option Builder) → Option Builder
own_or u None mine rest = rest
own_or u (Some b) mine rest = if b.thread == u then mine else rest

abbrev pub merged : (u : ℕ) (w now later : World) → World
merged u w now later v = own_or u (w v) (now v) (later v)

-- building: the world before the event of thread t; another thread stands in it
module _ (building : Building) (later : World) (more t : ℕ) (goes : GoesOn building.w later building.next more t 0) (differ : building.t ≢ t) where
  open building use {c, w, next, t as u}

  -- ---- as the thread sees it

  module _ (now : World) (attempt : Option Attempt) (view : IsViewOf now w u attempt) where
    merged_own : (v : ℕ) → IsOwnIn w u v → merged u w now later v ≡ now v
    merged_own v k = ap (λ o. own_or u o (now v) (later v)) k.1 ∙ ap (λ (x : Bool). if x then now v else later v) (eq-eqb k.0.thread u k.2)

    merged_rest : (v : ℕ) → IsNoneOf w u v → merged u w now later v ≡ later v
    merged_rest v n = (elim (w v) as (λ (o : Option Builder). w v ≡ o → own_or u o (now v) (later v) ≡ later v)
        [ None ↦ λ e. refl | Some b ↦ λ e. ap (λ (x : Bool). if x then now v else later v) (ne_eqb b.thread u (n b e)) ]) refl

    merged_by : (v : ℕ) (P : Option Builder → Type 0) → (IsOwnIn w u v → P (now v)) → (IsNoneOf w u v → P (later v)) → P (merged u w now later v)
    merged_by v P own rest = elim (own_or_not w u v) [ inl k ↦ subst P (sym (merged_own v k)) (own k) | inr n ↦ subst P (sym (merged_rest v n)) (rest n) ]

    -- what u builds stays
    own_later : (v : ℕ) (b : Builder) → b.thread ≡ u → w v ≡ Some b → later v ≡ Some b
    own_later v b m e = goes.others v b (λ s. differ (sym m ∙ s)) e

    own_before : (v : ℕ) (b : Builder) → b.thread ≡ u → later v ≡ Some b → w v ≡ Some b
    own_before v b m e = goes.no_more v b (λ s. differ (sym m ∙ s)) e

    merged_view : IsViewOf (merged u w now later) later u attempt
    merged_view = record {
      same = λ none v. elim (own_or_not w u v) [ inl k ↦ merged_own v k ∙ view.same none v ∙ k.1 ∙ sym (own_later v k.0 k.2 k.1) | inr n ↦ merged_rest v n ];
      others = λ v n. merged_rest v (λ b e m. n b (own_later v b m e) m);
      own = λ v b d e m f. let was = own_before v b m e in view.own v b d was m (sym (merged_own v (b, was, m)) ∙ f);
    }

    merged_world : (first : ℕ) → IsWorld now first next → IsWorld later first more → IsWorld (merged u w now later) first more
    merged_world first a b = record {
      one = λ v x d n e f. both v x d n (own_or_not w u v) (own_or_not w u x) e f;
      inside = λ v d. merged_by v (λ (o : Option Builder). o ≡ Some d → (first ≤ v) × (v < more)) (λ k e. (let i = a.inside v d e in (i.0, (let l = i.1 in let g = goes.grows in omega (arith, l, g))))) (λ n. b.inside v d);
      room = b.room;
    }
      where
        mixed : (v x : ℕ) (d : Builder) → IsOwnIn w u v → IsNoneOf w u x → merged u w now later v ≡ Some d → merged u w now later x ≡ Some d → ⊥
        mixed v x d k n e f =
            let mine : d.thread ≡ u = view.own v k.0 d k.1 k.2 (sym (merged_own v k) ∙ e) in
            n d (own_before x d mine (sym (merged_rest x n) ∙ f)) mine

        both : (v x : ℕ) (d : Builder) → d.item ≢ Lost → IsOwnIn w u v ⊎ IsNoneOf w u v → IsOwnIn w u x ⊎ IsNoneOf w u x → merged u w now later v ≡ Some d → merged u w now later x ≡ Some d → v ≡ x
        both v x d n (inl k) (inl l) e f = a.one v x d n (sym (merged_own v k) ∙ e) (sym (merged_own x l) ∙ f)
        both v x d n (inl k) (inr l) e f = absurd (mixed v x d k l e f)
        both v x d n (inr k) (inl l) e f = absurd (mixed x v d l k f e)
        both v x d n (inr k) (inr l) e f = b.one v x d n (sym (merged_rest v k) ∙ e) (sym (merged_rest x l) ∙ f)

    merged_known : (v : ℕ) → IsOwnOrFinished now next u v → IsOwnOrFinished (merged u w now later) more u v
    merged_known v k = (
      (let l = k.0 in let g = goes.grows in omega (arith, l, g)),
      λ b. merged_by v (λ (o : Option Builder). o ≡ Some b → b.thread ≡ u) (λ o. k.1 b) (λ n e. (elim (now v) as (λ (o : Option Builder). now v ≡ o → b.thread ≡ u) [
        | None ↦ λ f. absurd (none_some (later v) b (goes.finished v (k.0, sym (view.others v n) ∙ f)) e)
        | Some d ↦ λ f. absurd (n d (sym (view.others v n) ∙ f) (k.1 d f))
      ]) refl),
    )

  -- ---- so it keeps what it has

  pub other_keeps : (was : Phase) (x : Thread) → IsWorld w (words_of c.program) next → ThreadIn building was x → ThreadIn (in_later building later more) was x
  other_keeps was x world k =
      let by = merged_by k.now x.attempt k.now_is in
      let old : (v : ℕ) → IsFinished k.now next v → IsFinished (merged u w k.now later) more v = λ v f.
      ((let l = f.0 in let g = goes.grows in omega (arith, l, g)), by v (λ (o : Option Builder). o ≡ None) (λ o. f.1) (λ n. goes.finished v (f.0, sym (k.now_is.others v n) ∙ f.1))) in
      let keeps : (h : ℕ) → KeepsAt k.now (merged u w k.now later) u h = λ h v i e. by v (λ (o : Option Builder). o ≡ Some (builder u h i)) (λ m. e)
      (λ n. absurd (n (builder u h i) (sym (k.now_is.others v n) ∙ e) refl)) in
      let known = merged_known k.now x.attempt k.now_is in
      record {
        now = merged u w k.now later;
        now_is = merged_view k.now x.attempt k.now_is;
        now_world = λ is. merged_world k.now x.attempt k.now_is (words_of c.program) (k.now_world world) is;
        frames = phase_frames_kept (in_world building k.now) (merged u w k.now later) more goes.grows old keeps known was x.frames k.frames;
        phase = phase_kept (in_world building k.now) (merged u w k.now later) more goes.grows old keeps known was k.phase;
        held = λ h there. known_on w later next more t u goes h.monitor (k.held h there);
        attempt = attempt_kept building later more goes.grows (finished_on w later next more t goes) (λ h v i e. goes.others v (builder u h i) differ e) (known_on w later next more t u goes) x.frames x.attempt k.attempt;
      }

  -- what is lost behind the event is so for a thread that did not build it, or that saw it lost
  pub other_lost : (was : Phase) (x : Thread) (world : IsWorld w (words_of c.program) next) (k : ThreadIn building was x) (v : ℕ) (b before : Builder) → w v ≡ Some before → later v ≡ Some b → (before.thread ≢ u) ⊎ (k.now v ≡ Some b)
      → (other_keeps was x world k).now v ≡ Some b
  unfolding other_keeps
  other_lost was x world k v b before e f g =
      let rest : (if before.thread == u then k.now v else later v) ≡ Some b = elim (cases_Bool (before.thread == u)) [ inl s ↦ rw s (elim g [ inl n ↦ absurd (n (eqb-true before.thread u s)) | inr h ↦ h ]) | inr s ↦ rw s f ] in
      ap (λ (o : Option Builder). own_or u o (k.now v) (later v)) e ∙ rest
