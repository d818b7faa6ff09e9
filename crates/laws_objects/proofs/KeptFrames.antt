-- Frames and threads that an event does not touch stand as they did in the world that it leaves.
use Rattle.std.proofs.Common.{◌≡◌, ℕ, ◌-◌, ◌<◌, ◌≤◌, inl, inr, Bool, true, false, List, [], ◌∷◌, length, drop, Option, Some, None, refl, sym, ap, ◌∙◌, subst, arith, ◌==◌, if◌then◌else◌}
use Rattle.jvm_types.specs.declared.{program.MethodInfo.MethodInfo, typing.VType.{VType, TheVariants.New}}
use Rattle.checked_program.specs.declared.tag.Tag.{Tag}
use Rattle.machine_types.specs.Construction.{if_so, builds, makes_frozen, SlotsAre, BuilderTurn, Runs, WaitsFor, Throws, FreshAtCall, IsFresh, ReceiverIs, SlotOf, StackWith, StackIs, puts_owned, made_world, turn_by, AfterKeeps, TowardKeeps, PhaseKeeps}
use Rattle.machine_types.specs.{Elision.put_back, Frames.pushed, Standing.row_at, Structure.operands_in, Threads.{Frame, Attempt}}
use Rattle.machine_types.specs.{Worlds.{Item, Header, Made, Begun, Unstored, Builder, builder, World, IsFinished, IsOwnOrFinished}, declared.phase.{After.After, Phase.Phase, Toward.Toward}}
use Rattle.laws_threads.proofs.Tests.{either_way}
use Rattle.laws_objects.proofs.{Buildings.{Building, in_world, in_later, FrameIn, WaitIn, BelowIn, FramesIn, PhaseIn, TriesIn}, Slots.{slots_map, slot_later}}
use Rattle.laws_objects.proofs.WorldChanges.{given_here, given_keeps, given_none, given_gone, given_back, given_none_back}
use Rattle.machine_types.specs.declared.phase.After.TheVariants as afters
use Rattle.machine_types.specs.declared.phase.Phase.TheVariants as phases
use Rattle.machine_types.specs.declared.phase.Toward.TheVariants as towards

-- what the thread t builds at a height
abbrev pub KeepsAt : World → World → (t h : ℕ) → Type 0
KeepsAt w z t h = (v : ℕ) (x : Item) → w v ≡ Some (builder t h x) → z v ≡ Some (builder t h x)

-- at each height below this one
abbrev pub KeepsUnder : World → World → (t height : ℕ) → Type 0
KeepsUnder w z t height = (h : ℕ) → h < height → KeepsAt w z t h

-- ---- frames

module _ (building : Building) (z : World) (more : ℕ) (old : (v : ℕ) → IsFinished building.w building.next v → IsFinished z more v) where
  open building use {c, frozen, owning, w, next, t}

  at_call_kept : (h receiver : ℕ) (begun : Option (VType × ℕ)) → KeepsAt w z t h → (q v : ℕ) → FreshAtCall w t h receiver begun q v → FreshAtCall z t h receiver begun q v
  at_call_kept h receiver (Some (New r, class)) keeps q v f =
      either_way (λ (b : Bool). if_so b (v ≡ receiver) (w v ≡ Some (builder t h (Made q))) → if_so b (v ≡ receiver) (z v ≡ Some (builder t h (Made q)))) (q == r) (λ e. e) (keeps v (Made q)) f
  at_call_kept h receiver begun keeps q v f = keeps v (Made q) f

  fresh_kept : (h : ℕ) (turn : BuilderTurn) → KeepsAt w z t h → (q v : ℕ) → IsFresh w t h turn q v → IsFresh z t h turn q v
  fresh_kept h Runs keeps q v f = keeps v (Made q) f
  fresh_kept h (WaitsFor receiver begun) keeps q v f = at_call_kept h receiver begun keeps q v f
  fresh_kept h Throws keeps q v f = tt

  slots_kept : (h : ℕ) (turn : BuilderTurn) → KeepsAt w z t h → (m : MethodInfo) (receiver : ℕ) (ts : List VType) (gs : List Tag) (vs : List ℕ)
      → SlotsAre (SlotOf frozen w next t h turn m receiver) ts gs vs → SlotsAre (SlotOf frozen z more t h turn m receiver) ts gs vs
  slots_kept h turn keeps m receiver ts gs vs a = slots_map (SlotOf frozen w next t h turn m receiver) (SlotOf frozen z more t h turn m receiver)
      (slot_later (IsFinished w next) (IsFinished z more) (IsFresh w t h turn) (IsFresh z t h turn) old (makes_frozen frozen m) (λ q v y f. fresh_kept h turn keeps q v f) (builds frozen m) receiver) ts gs vs a

  receiver_kept : (h : ℕ) → KeepsAt w z t h → (own : Bool) (a : ℕ) → ReceiverIs w next t h own a → ReceiverIs z more t h own a
  receiver_kept h keeps true a r = keeps a Begun r
  receiver_kept h keeps false a r = old a r

  -- an array that is still to be stored is on the top
  with_kept : (h : ℕ) → KeepsAt w z t h → (m : MethodInfo) (receiver : ℕ) (puts : Bool) (ts : List VType) (gs : List Tag) (vs : List ℕ)
      → StackWith (SlotOf frozen w next t h Runs m receiver) (λ v. w v ≡ Some (builder t h Unstored)) puts ts gs vs → StackWith (SlotOf frozen z more t h Runs m receiver) (λ v. z v ≡ Some (builder t h Unstored)) puts ts gs vs
  with_kept h keeps m receiver true (u ∷ ts) (g ∷ gs) (v ∷ vs) a = (keeps v Unstored a.0, slots_kept h Runs keeps m receiver ts gs vs a.1)
  with_kept h keeps m receiver puts ts gs vs a = slots_kept h Runs keeps m receiver ts gs vs a

  stack_kept : (h : ℕ) (turn : BuilderTurn) → KeepsAt w z t h → (m : MethodInfo) (receiver : ℕ) (puts : Bool) (n : ℕ) (ts : List VType) (gs : List Tag) (vs : List ℕ)
      → StackIs (SlotOf frozen w next t h turn m receiver) (λ v. w v ≡ Some (builder t h Unstored)) puts turn n ts gs vs → StackIs (SlotOf frozen z more t h turn m receiver) (λ v. z v ≡ Some (builder t h Unstored)) puts turn n ts gs vs
  stack_kept h Throws keeps m receiver puts n ts gs vs a = tt
  stack_kept h Runs keeps m receiver puts n ts gs vs a = with_kept h keeps m receiver puts ts gs vs a
  stack_kept h (WaitsFor b o) keeps m receiver puts n ts gs vs a = slots_kept h (WaitsFor b o) keeps m receiver (drop n ts) (drop n gs) vs a

  pub frame_kept : (h : ℕ) (turn : BuilderTurn) (f : Frame) → KeepsAt w z t h → FrameIn building h turn f → FrameIn (in_later building z more) h turn f
  frame_kept h turn f keeps k = record {
    stands = k.stands;
    receiver = receiver_kept h keeps (builds frozen k.stands.method) f.receiver k.receiver;
    stack = stack_kept h turn keeps k.stands.method f.receiver (puts_owned owning.owned k.stands.insn.op k.stands.target) (length (row_at c f k.stands).takes) k.stands.types.stack k.stands.tags.stack f.stack k.stack;
    locals = slots_kept h turn keeps k.stands.method f.receiver k.stands.types.locals k.stands.tags.locals f.locals k.locals;
    arrays = k.arrays;
    no_arrays = k.no_arrays;
  }

  pub wait_kept : (h callee receiver : ℕ) (f : Frame) → KeepsAt w z t h → WaitIn building h callee receiver f → WaitIn (in_later building z more) h callee receiver f
  unfolding frame_kept
  wait_kept h callee receiver f keeps k = record { begun = k.begun; keeps = frame_kept h (WaitsFor receiver k.begun) f keeps k.keeps; calls = k.calls; begun_is = k.begun_is }

  pub below_kept : (g : Frame) (fs : List Frame) → KeepsUnder w z t (length fs) → BelowIn building g fs → BelowIn (in_later building z more) g fs
  below_kept g [] keeps k = tt
  below_kept g (f ∷ fs) keeps k = (wait_kept (length fs) g.method g.receiver f (keeps (length fs) (omega arith)) k.0, below_kept f fs (λ h l. keeps h (omega (arith, l))) k.1)

  pub frames_kept : (turn : BuilderTurn) (fs : List Frame) → KeepsUnder w z t (length fs) → FramesIn building turn fs → FramesIn (in_later building z more) turn fs
  frames_kept turn [] keeps k = tt
  frames_kept turn (f ∷ fs) keeps k = (frame_kept (length fs) turn f (keeps (length fs) (omega arith)) k.0, below_kept f fs (λ h l. keeps h (omega (arith, l))) k.1)

-- where the top is not to be stored
module _ (building : Building) where
  open building use {frozen, owning, w, next, t}

  pub plain_stack : (h : ℕ) (f : Frame) (k : FrameIn building h Runs f) → puts_owned owning.owned k.stands.insn.op k.stands.target ≡ false
      → SlotsAre (SlotOf frozen w next t h Runs k.stands.method f.receiver) k.stands.types.stack k.stands.tags.stack f.stack
  plain_stack h f k plain = subst (λ (b : Bool). StackWith (SlotOf frozen w next t h Runs k.stands.method f.receiver) (λ v. w v ≡ Some (builder t h Unstored)) b k.stands.types.stack k.stands.tags.stack f.stack) plain k.stack

-- ---- the same with the object of a header that is still to be stored

made_keeps : (w z : World) (t h a height : ℕ) (item : Option Item) → KeepsAt w z t h → KeepsAt (made_world w a t height item) (made_world z a t height item) t h
made_keeps w z t h a height (Some item) keeps v x e =
    let k : Builder = builder t height item in
    elim (given_back w a k v (builder t h x) e) [
      | inl g ↦ rw (g.0, g.1) (given_here z a k)
      | inr (inl g) ↦ given_keeps z a k v (builder t h x) (keeps v x g.1) g.0 g.2
      | inr (inr g) ↦
          let is : builder t h k.item ≡ k = rw (ap (λ (i : Builder). i.thread) g.2, ap (λ (i : Builder). i.height) g.2) refl in
          given_gone z a k v (subst (λ (i : Builder). z v ≡ Some i) is (keeps v k.item (subst (λ (i : Builder). w v ≡ Some i) (sym is) g.1))) g.0 ∙ ap (λ (i : Builder). Some i) (sym g.2)
    ]
made_keeps w z t h a height None keeps v x e = (elim (v == a) as (λ (b : Bool). (if b then None else w v) ≡ Some (builder t h x) → (if b then None else z v) ≡ Some (builder t h x)) [ true ↦ λ e. e | false ↦ λ e. keeps v x e ]) e

made_old : (w z : World) (next more a t height : ℕ) (item : Option Item) → ((v : ℕ) → IsFinished w next v → IsFinished z more v) → next ≤ more → (v : ℕ) → IsFinished (made_world w a t height item) next v → IsFinished (made_world z a t height item) more v
made_old w z next more a t height (Some item) old grows v o =
    ((let l = o.0 in omega (arith, l, grows)), (let e = given_none_back w a (builder t height item) v o.1 in given_none z a (builder t height item) v (old v (o.0, e.1)).1 e.0))
made_old w z next more a t height None old grows v o =
    ((let l = o.0 in omega (arith, l, grows)), either_way (λ (b : Bool). (if b then None else w v) ≡ None → (if b then None else z v) ≡ None) (v == a) (λ e. refl) (λ e. (old v (o.0, e)).1) o.1)

-- ---- what a thread holds

module _ (building : Building) (z : World) (more : ℕ) (grows : building.next ≤ more) (old : (v : ℕ) → IsFinished building.w building.next v → IsFinished z more v) (keeps : (h : ℕ) → KeepsAt building.w z building.t h) (known : (v : ℕ) → IsOwnOrFinished building.w building.next building.t v → IsOwnOrFinished z more building.t v) where
  open building use {w, next, t}

  pub phase_frames_kept : (phase : Phase) (fs : List Frame) → PhaseIn building phase fs → PhaseIn (in_later building z more) phase fs
  phase_frames_kept (phases.Made a word) fs k = record {
    item = k.item;
    not_begun = k.not_begun;
    now = keeps (length fs - 1) a Header k.now;
    keep = frames_kept (in_world building (made_world w a t (length fs - 1) k.item)) (made_world z a t (length fs - 1) k.item) more
        (made_old w z next more a t (length fs - 1) k.item old grows) Runs (pushed a fs)
        (λ h l. made_keeps w z t h a (length fs - 1) k.item (keeps h)) k.keep;
  }
  phase_frames_kept phase fs k = frames_kept building z more old (turn_by (operands_in phase)) fs (λ h l. keeps h) k

  after_kept : (a : After) → AfterKeeps w next a → AfterKeeps z more a
  after_kept (afters.Unwind x class) k = old x k
  after_kept a k = tt

  toward_kept : (d : Toward) → TowardKeeps w next d → TowardKeeps z more d
  toward_kept (towards.Leave a) k = after_kept a k
  toward_kept towards.Wait k = tt

  pub phase_kept : (phase : Phase) → PhaseKeeps w next t phase → PhaseKeeps z more t phase
  phase_kept (phases.Throw x class) k = old x k
  phase_kept phase k = first_of (assumption, search known, search (known, after_kept), search (known, toward_kept))

  pub attempt_kept : (fs : List Frame) (o : Option Attempt) → TriesIn building fs o → TriesIn (in_later building z more) fs o
  attempt_kept fs None k = tt
  attempt_kept fs (Some a) k = record { monitor = known a.monitor k.monitor; goes_back = frames_kept building z more old Runs (put_back a fs) (λ h l. keeps h) k.goes_back }
