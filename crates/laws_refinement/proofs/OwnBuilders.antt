-- The object that an `<init>` of a frozen class is on is built by the thread that runs it.
use Rattle.std.proofs.{Common.{◌≡◌, ℕ, ◌-◌, Bool, true, false, List, [], ◌∷◌, length, Option, Some, None, refl, sym, ap, ◌∙◌, subst, ◌==◌, if◌then◌else◌}, lemmas.Bool.Decides.Decides-eqb}
use Rattle.lists.proofs.{ListLaws.same_some, TestLaws.both_true}
use Rattle.jvm_types.specs.{CodeTable.is_init, declared.program.MethodInfo.MethodInfo}
use Rattle.checked_program.specs.MarkedProgram.{MarkedProgram}
use Rattle.machine_types.specs.{Construction.{Owning, builds, ReceiverIs, FramesKeep, PhaseKeepsFrames, ThreadKeeps, BuilderTurn, Runs, turn_by, made_world}, Frames.pushed, Guards.MakesObject}
use Rattle.machine_types.specs.{Structure.operands_in, Threads.{Frame, Thread}, Worlds.{Builder, Item, Header, Begun, Lost, World, builder, lost_if, same_builder}, declared.phase.Phase.Phase}
use Rattle.laws_refinement.proofs.FieldWriters.{TopIsOf}
use Rattle.machine_types.specs.declared.phase.Phase.TheVariants as phases

-- the thread builds the object
abbrev pub IsOwn : World → (t r : ℕ) → Type 0
IsOwn w t r = (b : Builder) × (w r ≡ Some b) × (b.thread ≡ t)

-- ---- before a new object is pushed

lost_own : (b : Builder) (t : ℕ) (o : Option Builder) (d : Builder) → lost_if b o ≡ Some d → d.thread ≡ t → (e : Builder) × (o ≡ Some e) × (e.thread ≡ t)
lost_own b t None d e own = absurd (cc)
lost_own b t (Some f) d e own = (elim (same_builder b f) as (λ (same : Bool). (if same then Some (record f { item = Lost }) else Some f) ≡ Some d → (e : Builder) × (Some f ≡ Some e) × (e.thread ≡ t))
    [ true ↦ λ e. (f, refl, ap (λ (g : Builder). g.thread) (same_some e) ∙ own) | false ↦ λ e. (f, refl, ap (λ (g : Builder). g.thread) (same_some e) ∙ own) ]) e

made_own : (w : World) (t a r height : ℕ) (item : Option Item) (d : Builder) → IsOwn w t a → made_world w a t height item r ≡ Some d → d.thread ≡ t → IsOwn w t r
made_own w t a r height (Some item) d new e own = (elim (r == a) as (λ (same : Bool). (r == a) ≡ same → (if same then Some (builder t height item) else lost_if (builder t height item) (w r)) ≡ Some d → IsOwn w t r)
    [ true ↦ λ f e. subst (IsOwn w t) (sym ((Decides-eqb r a).0 f)) new | false ↦ λ f e. lost_own (builder t height item) t (w r) d e own ]) refl e
made_own w t a r height None d new e own = (elim (r == a) as (λ (same : Bool). (r == a) ≡ same → (if same then None else w r) ≡ Some d → IsOwn w t r)
    [ true ↦ λ f e. absurd (cc) | false ↦ λ f e. (d, e, own) ]) refl e

-- ---- the receiver of the top frame

module _ (c : MarkedProgram) (frozen : ℕ → Bool) (own : Owning) (next t r class : ℕ) (is_frozen : frozen class ≡ true) where
  top_builds : (w : World) (turn : BuilderTurn) (fs : List Frame) → FramesKeep c frozen own w next t turn fs → MakesObject c r fs → TopIsOf c.program class fs → IsOwn w t r
  top_builds w turn [] k makes top = absurd makes
  top_builds w turn (f ∷ fs) k (m, there, init, receiver) (n, known, of_class) =
      let method = k.0.stands.method in
      let first : m ≡ method = same_some (sym there ∙ k.0.stands.at.in_program) in
      let second : n ≡ method = same_some (sym known ∙ k.0.stands.at.in_program) in
      let builds_it : builds frozen method ≡ true = both_true (is_init method) (frozen method.class) (ap is_init (sym first) ∙ init) (ap frozen (ap (λ (g : MethodInfo). g.class) (sym second) ∙ sym of_class) ∙ is_frozen) in
      (builder t (length fs) Begun, ap w (sym receiver) ∙ subst (λ (own : Bool). ReceiverIs w next t (length fs) own f.receiver) builds_it k.0.receiver, refl)

  phase_builds : (w : World) (phase : Phase) (fs : List Frame) → PhaseKeepsFrames c frozen own w next t phase fs → MakesObject c r fs → TopIsOf c.program class fs → IsOwn w t r
  phase_builds w (phases.Made a word) [] k makes top = absurd makes
  phase_builds w (phases.Made a word) (f ∷ fs) k makes top =
      let h = top_builds (made_world w a t (length (f ∷ fs) - 1) k.item) Runs (pushed a (f ∷ fs)) k.keep makes top in
      made_own w t a r (length (f ∷ fs) - 1) k.item h.0 (builder t (length (f ∷ fs) - 1) Header, k.now, refl) h.1 h.2
  phase_builds w phase fs k makes top = top_builds w (turn_by (operands_in phase)) fs k makes top

  -- outside an attempt the thread sees the world as it is
  pub makes_own : (w : World) (was : Phase) (x : Thread) → ThreadKeeps c frozen own w next t was x → x.attempt ≡ None → MakesObject c r x.frames → TopIsOf c.program class x.frames → IsOwn w t r
  makes_own w was x k outside makes top =
      let h = phase_builds k.now was x.frames k.frames makes top in
      (h.0, sym (k.now_is.same outside r) ∙ h.1, h.2)
