-- An array is stored in an owned field: frames and threads that do not have it stand as before.
use Rattle.std.proofs.Common.{◌≡◌, ◌≢◌, ℕ, suc, ◌-◌, ◌<◌, inl, inr, Bool, true, false, List, [], ◌∷◌, length, drop, Option, Some, None, refl, sym, ap, ◌∙◌, subst, arith, ◌==◌}
use Rattle.std.proofs.lemmas.Bool.{ne_eqb}
use Rattle.lists.proofs.ListLaws.{same_some}
use Rattle.jvm_types.specs.declared.{program.MethodInfo.MethodInfo, typing.VType.VType}
use Rattle.checked_program.specs.{MarkedProgram.MarkedProgram, declared.tag.Tag.Tag}
use Rattle.machine_types.specs.Construction.{puts_owned, builds, makes_frozen, if_so, SlotByType, OwnSlot, SlotIs, SlotsAre, StackWith, StackIs, BuilderTurn, Runs, WaitsFor, Throws, FreshAtCall, IsFresh, ReceiverIs, SlotOf, IsNoStored, IsNoStoredLocal, IsArraySlot, SlotsFrom, ArraysIn, made_world, turn_by}
use Rattle.machine_types.specs.{Elision.put_back, Frames.pushed, OwnedPlaces.{Stores, with_stored, IsStoredAt, IsStoredNowhere}, Standing.{Operands, Thrown, row_at}, Structure.operands_in}
use Rattle.machine_types.specs.{Threads.{Frame, Attempt, Thread}, Worlds.{Item, Header, Made, Begun, Unstored, Builder, builder, World, IsFinished}, declared.phase.Phase.Phase}
use Rattle.laws_threads.proofs.Tests.{either_way}
use Rattle.laws_objects.proofs.{Buildings.{Building, in_world, with_stores, FrameIn, WaitIn, BelowIn, FramesIn, PhaseIn, TriesIn, ThreadIn}, Slots.{slots_map, slot_later, plainly, not_this}}
use Rattle.laws_objects.proofs.WorldChanges.{none_some, given_keeps, finished_there}
use Rattle.jvm_types.specs.declared.typing.VType.TheVariants as types
use Rattle.machine_types.specs.declared.phase.Phase.TheVariants as phases

-- an array that was stored nowhere, and that its builder stores next
pub record NewArray (stores : Stores) : Type 0 where
  pub array : ℕ
  pub word : ℕ
  pub unstored : stores array ≡ None
  pub zero_apart : 0 ≢ array
  pub k : Builder
  pub is_new : k.item ≡ Unstored

-- ---- one slot

module _ (stores : Stores) (new : NewArray stores) where
  open new use {array, word, unstored, zero_apart}

  abbrev pub after : Stores
  after = with_stored stores array word

  pub kept_there : (v : ℕ) → v ≢ array → after v ≡ stores v
  kept_there v n = rw (ne_eqb v array n) refl

  pub stored_on : (v place : ℕ) → stores v ≡ Some place → after v ≡ Some place
  stored_on v place e = kept_there v (λ s. none_some (stores array) place unstored (subst (λ (x : ℕ). stores x ≡ Some place) s e)) ∙ e

  pub at_on : (place v : ℕ) → IsStoredAt stores place v → IsStoredAt after place v
  at_on place v (inl e) = inl e
  at_on place v (inr e) = inr (stored_on v place e)

  pub nowhere_on : (v : ℕ) → v ≢ array → IsStoredNowhere stores v → IsStoredNowhere after v
  nowhere_on v n e = kept_there v n ∙ e

  -- another value
  abbrev pub Apart : ℕ → Type 0
  Apart v = v ≢ array

  abbrev IsSure : (Fresh : ℕ → ℕ → Type 0) → VType → Type 0
  IsSure Fresh types.Int = ⊥
  IsSure Fresh types.Top = ⊥
  IsSure Fresh (types.New q) = (v : ℕ) → Fresh q v → v ≢ array
  IsSure Fresh type = Unit {0}

  module _ (Fresh : ℕ → ℕ → Type 0) (young : ℕ → Bool) (receiver : ℕ) (receiver_apart : receiver ≢ array) where
    clear_type : (t : VType) (v : ℕ) → SlotByType Apart Fresh young t v → IsSure Fresh t → Apart v
    clear_type types.Null v h s = subst Apart (sym h) zero_apart
    clear_type (types.New q) v h s = (elim (young q) as (λ (b : Bool). if_so b (Fresh q v) (Apart v) → Apart v) [ true ↦ λ h. s v h | false ↦ λ h. h ]) h
    clear_type t v h s = assumption

    clear_slot : (own : Bool) (t : VType) (g : Tag) (v : ℕ) → SlotIs Apart Fresh own young receiver t g v → IsSure Fresh t → Apart v
    clear_slot false t g v h s = clear_type t v h s
    clear_slot true t g v h s = elim (not_this g) [
      | inl e ↦ let same : v ≡ receiver = subst (λ (x : Tag). OwnSlot Apart Fresh young receiver t x v) e h in subst Apart (sym same) receiver_apart
      | inr n ↦ clear_type t v (plainly Apart Fresh young receiver t g v n h).1 s
    ]

    slot_on : ((q v : ℕ) → Fresh q v → Apart v) → (own : Bool) (t : VType) (g : Tag) (v : ℕ) → SlotIs Apart Fresh own young receiver t g v → IsNoStored stores t v → IsNoStored after t v
    slot_on fresh own types.Int g v s h = tt
    slot_on fresh own types.Top g v s h = tt
    slot_on fresh own (types.New q) g v s h = nowhere_on v (clear_slot own (types.New q) g v s (fresh q)) h
    slot_on fresh own t g v s h = nowhere_on v (clear_slot own t g v s tt) h

    thrown_on : (own : Bool) (t : VType) (g : Tag) (v : ℕ) → SlotIs Apart Fresh own young receiver t g v → IsNoStoredLocal stores Throws t v → IsNoStoredLocal after Throws t v
    thrown_on own types.Int g v s h = tt
    thrown_on own types.Top g v s h = tt
    thrown_on own (types.New q) g v s h = tt
    thrown_on own t g v s h = nowhere_on v (clear_slot own t g v s tt) h

  -- a value that is another, of any type
  other_on : (t : VType) (v : ℕ) → Apart v → IsNoStored stores t v → IsNoStored after t v
  other_on types.Int v n h = tt
  other_on t v n h = first_of (assumption, search nowhere_on)

  -- ---- lists of slots

  pub from_on : (R : VType → Tag → ℕ → Type 0) (Is Be : (place : ℕ) → VType → (v : ℕ) → Type 0) → ((n : ℕ) (t : VType) (g : Tag) (v : ℕ) → R t g v → Is n t v → Be n t v)
      → (n : ℕ) (ts : List VType) (gs : List Tag) (vs : List ℕ) → SlotsAre R ts gs vs → SlotsFrom Is n ts vs → SlotsFrom Be n ts vs
  from_on R Is Be f n (t ∷ ts) [] (v ∷ vs) s a = absurd s
  from_on R Is Be f n (t ∷ ts) (g ∷ gs) (v ∷ vs) s a = (f n t g v s.0 a.0, from_on R Is Be f (suc n) ts gs vs s.1 a.1)
  from_on R Is Be f n ts gs vs s a = tt

  pub array_on : (c : MarkedProgram) (f : Frame) (number n : ℕ) (t : VType) (v : ℕ) → (IsNoStored stores t v → IsNoStored after t v) → IsArraySlot c stores f number n t v → IsArraySlot c after f number n t v
  array_on c f number n t v on a = record { owned = λ o place is. at_on place v (a.owned o place is); other = λ none. on (a.other none) }

-- ---- frames, in a world in which the array is still to be stored

module _ (building : Building) (new : NewArray building.owning.stores) (is : building.w new.array ≡ Some new.k) where
  open building use {c, frozen, owning, w, next, t}
  open new use {array, word, k, is_new}

  abbrev pub behind : Building
  behind = with_stores building (with_stored owning.stores array word)

  old_apart : (v : ℕ) → IsFinished w next v → v ≢ array
  old_apart v o s = none_some (w array) k (subst (λ (x : ℕ). w x ≡ None) s o.1) is

  built_apart : (v : ℕ) (b : Builder) → w v ≡ Some b → b ≢ k → v ≢ array
  built_apart v b e n s = n (let at : w array ≡ Some b = subst (λ (x : ℕ). w x ≡ Some b) s e in let same : Some b ≡ Some k = sym at ∙ is in cc)

  item_apart : (h : ℕ) (x : Item) → x ≢ Unstored → builder t h x ≢ k
  item_apart h x n s = n (ap (λ (b : Builder). b.item) s ∙ is_new)

  -- a call's receiver is another
  abbrev TurnApart : BuilderTurn → Type 0
  TurnApart Runs = Unit {0}
  TurnApart (WaitsFor receiver begun) = receiver ≢ array
  TurnApart Throws = Unit {0}

  at_call : (h receiver : ℕ) (begun : Option (VType × ℕ)) → receiver ≢ array → (q v : ℕ) → FreshAtCall w t h receiver begun q v → v ≢ array
  at_call h receiver (Some (types.New r, class)) n q v f = either_way (λ (b : Bool). if_so b (v ≡ receiver) (w v ≡ Some (builder t h (Made q))) → v ≢ array) (q == r)
      (λ f. subst (λ (x : ℕ). x ≢ array) (sym f) n) (λ f. built_apart v (builder t h (Made q)) f (item_apart h (Made q) (λ s. cc))) f
  at_call h receiver begun n q v f = built_apart v (builder t h (Made q)) f (item_apart h (Made q) (λ s. cc))

  pub receiver_apart : (h : ℕ) (own : Bool) (r : ℕ) → ReceiverIs w next t h own r → r ≢ array
  receiver_apart h true r e = built_apart r (builder t h Begun) e (item_apart h Begun (λ s. cc))
  receiver_apart h false r e = old_apart r e

  slots_apart : (h : ℕ) (turn : BuilderTurn) (Fresh : ℕ → ℕ → Type 0) → ((q v : ℕ) → IsFresh w t h turn q v → Fresh q v) → (m : MethodInfo) (receiver : ℕ) (ts : List VType) (gs : List Tag) (vs : List ℕ)
      → SlotsAre (SlotOf frozen w next t h turn m receiver) ts gs vs → SlotsAre (SlotIs (λ v. v ≢ array) Fresh (builds frozen m) (makes_frozen frozen m) receiver) ts gs vs
  slots_apart h turn Fresh fresh m receiver ts gs vs = slots_map (SlotOf frozen w next t h turn m receiver) (SlotIs (λ v. v ≢ array) Fresh (builds frozen m) (makes_frozen frozen m) receiver)
      (slot_later (IsFinished w next) (λ v. v ≢ array) (IsFresh w t h turn) Fresh old_apart (makes_frozen frozen m) (λ q v y f. fresh q v f) (builds frozen m) receiver) ts gs vs

  module _ (h : ℕ) (f : Frame) (m : MethodInfo) (apart : f.receiver ≢ array) (number : ℕ) where
    pub arrays_from : (turn : BuilderTurn) → ((q v : ℕ) → IsFresh w t h turn q v → v ≢ array) → (n : ℕ) (ts : List VType) (gs : List Tag) (vs : List ℕ) → SlotsAre (SlotOf frozen w next t h turn m f.receiver) ts gs vs
        → SlotsFrom (IsArraySlot c owning.stores f number) n ts vs → SlotsFrom (IsArraySlot c (with_stored owning.stores array word) f number) n ts vs
    arrays_from turn fresh n ts gs vs s a =
        from_on owning.stores new (SlotIs (λ v. v ≢ array) (λ q v. v ≢ array) (builds frozen m) (makes_frozen frozen m) f.receiver) (IsArraySlot c owning.stores f number) (IsArraySlot c (with_stored owning.stores array word) f number)
        (λ i u g v r a. array_on owning.stores new c f number i u v (slot_on owning.stores new (λ q v. v ≢ array) (makes_frozen frozen m) f.receiver apart (λ q v e. e) (builds frozen m) u g v r) a)
        n ts gs vs (slots_apart h turn (λ q v. v ≢ array) fresh m f.receiver ts gs vs s) a

    pub locals_from : (turn : BuilderTurn) → ((q v : ℕ) → IsFresh w t h turn q v → v ≢ array) → (n : ℕ) (ts : List VType) (gs : List Tag) (vs : List ℕ) → SlotsAre (SlotOf frozen w next t h turn m f.receiver) ts gs vs
        → SlotsFrom (λ place. IsNoStored owning.stores) n ts vs → SlotsFrom (λ place. IsNoStored (with_stored owning.stores array word)) n ts vs
    locals_from turn fresh n ts gs vs s a =
        from_on owning.stores new (SlotIs (λ v. v ≢ array) (λ q v. v ≢ array) (builds frozen m) (makes_frozen frozen m) f.receiver) (λ place. IsNoStored owning.stores) (λ place. IsNoStored (with_stored owning.stores array word))
        (λ i u g v r a. slot_on owning.stores new (λ q v. v ≢ array) (makes_frozen frozen m) f.receiver apart (λ q v e. e) (builds frozen m) u g v r a)
        n ts gs vs (slots_apart h turn (λ q v. v ≢ array) fresh m f.receiver ts gs vs s) a

    -- with what is stored next on the top
    arrays_with : builder t h Unstored ≢ k → (puts : Bool) (ts : List VType) (gs : List Tag) (vs : List ℕ) → StackWith (SlotOf frozen w next t h Runs m f.receiver) (λ v. w v ≡ Some (builder t h Unstored)) puts ts gs vs
        → SlotsFrom (IsArraySlot c owning.stores f number) 0 ts vs → SlotsFrom (IsArraySlot c (with_stored owning.stores array word) f number) 0 ts vs
    arrays_with other true (u ∷ ts) (g ∷ gs) (v ∷ vs) s a = (
      array_on owning.stores new c f number 0 u v (other_on owning.stores new u v (built_apart v (builder t h Unstored) s.0 other)) a.0,
      arrays_from Runs (λ q v e. built_apart v (builder t h (Made q)) e (item_apart h (Made q) (λ s. cc))) 1 ts gs vs s.1 a.1,
    )
    arrays_with other puts ts gs vs s a = arrays_from Runs (λ q v e. built_apart v (builder t h (Made q)) e (item_apart h (Made q) (λ s. cc))) 0 ts gs vs s a

    arrays_on : builder t h Unstored ≢ k → (turn : BuilderTurn) → TurnApart turn → (puts : Bool) (count : ℕ) (ts : List VType) (gs : List Tag) (vs : List ℕ)
        → StackIs (SlotOf frozen w next t h turn m f.receiver) (λ v. w v ≡ Some (builder t h Unstored)) puts turn count ts gs vs
        → ArraysIn (IsArraySlot c owning.stores f number) turn count ts vs → ArraysIn (IsArraySlot c (with_stored owning.stores array word) f number) turn count ts vs
    arrays_on other Runs n puts count ts gs vs s a = arrays_with other puts ts gs vs s a
    arrays_on other (WaitsFor receiver begun) n puts count ts gs vs s a = arrays_from (WaitsFor receiver begun) (at_call h receiver begun n) count (drop count ts) (drop count gs) vs s a
    arrays_on other Throws n puts count ts gs vs s a = tt

    locals_on : (turn : BuilderTurn) → TurnApart turn → (ts : List VType) (gs : List Tag) (vs : List ℕ) → SlotsAre (SlotOf frozen w next t h turn m f.receiver) ts gs vs
        → SlotsFrom (λ place. IsNoStoredLocal owning.stores turn) 0 ts vs → SlotsFrom (λ place. IsNoStoredLocal (with_stored owning.stores array word) turn) 0 ts vs
    locals_on Runs n ts gs vs s a = locals_from Runs (λ q v e. built_apart v (builder t h (Made q)) e (item_apart h (Made q) (λ s. cc))) 0 ts gs vs s a
    locals_on (WaitsFor receiver begun) n ts gs vs s a = locals_from (WaitsFor receiver begun) (at_call h receiver begun n) 0 ts gs vs s a
    locals_on Throws n ts gs vs s a =
        from_on owning.stores new (SlotIs (λ v. v ≢ array) (λ q v. Unit {0}) (builds frozen m) (makes_frozen frozen m) f.receiver) (λ place. IsNoStoredLocal owning.stores Throws) (λ place. IsNoStoredLocal (with_stored owning.stores array word) Throws)
        (λ i u g v r a. thrown_on owning.stores new (λ q v. Unit {0}) (makes_frozen frozen m) f.receiver apart (builds frozen m) u g v r a)
        0 ts gs vs (slots_apart h Throws (λ q v. Unit {0}) (λ q v e. tt) m f.receiver ts gs vs s) a

  pub frame_on : (h : ℕ) (turn : BuilderTurn) (f : Frame) → builder t h Unstored ≢ k → TurnApart turn → FrameIn building h turn f → FrameIn behind h turn f
  frame_on h turn f other n j =
      let apart = receiver_apart h (builds frozen j.stands.method) f.receiver j.receiver in
      record {
        stands = j.stands;
        receiver = j.receiver;
        stack = j.stack;
        locals = j.locals;
        arrays = arrays_on h f j.stands.method apart j.stands.number other turn n (puts_owned owning.owned j.stands.insn.op j.stands.target) (length (row_at c f j.stands).takes) j.stands.types.stack j.stands.tags.stack f.stack j.stack j.arrays;
        no_arrays = locals_on h f j.stands.method apart j.stands.number turn n j.stands.types.locals j.stands.tags.locals f.locals j.locals j.no_arrays;
      }

  wait_on : (h callee receiver : ℕ) (f : Frame) → builder t h Unstored ≢ k → receiver ≢ array → WaitIn building h callee receiver f → WaitIn behind h callee receiver f
  unfolding frame_on
  wait_on h callee receiver f other n j = record { begun = j.begun; keeps = frame_on h (WaitsFor receiver j.begun) f other n j.keeps; calls = j.calls; begun_is = j.begun_is }

  pub below_on : (g : Frame) (fs : List Frame) → ((i : ℕ) → i < length fs → builder t i Unstored ≢ k) → g.receiver ≢ array → BelowIn building g fs → BelowIn behind g fs
  below_on g [] other n j = tt
  below_on g (f ∷ fs) other n j = (
    wait_on (length fs) g.method g.receiver f (other (length fs) (omega arith)) n j.0,
    below_on f fs (λ i l. other i (omega (arith, l))) (receiver_apart (length fs) (builds frozen j.0.keeps.stands.method) f.receiver j.0.keeps.receiver) j.1,
  )

  pub frames_on : (turn : BuilderTurn) (fs : List Frame) → TurnApart turn → ((i : ℕ) → i < length fs → builder t i Unstored ≢ k) → FramesIn building turn fs → FramesIn behind turn fs
  frames_on turn [] n other j = tt
  frames_on turn (f ∷ fs) n other j = (
    frame_on (length fs) turn f (other (length fs) (omega arith)) n j.0,
    below_on f fs (λ i l. other i (omega (arith, l))) (receiver_apart (length fs) (builds frozen j.0.stands.method) f.receiver j.0.receiver) j.1,
  )

-- ---- another thread

module _ (building : Building) (new : NewArray building.owning.stores) (is : building.w new.array ≡ Some new.k) (differ : new.k.thread ≢ building.t) where
  open building use {w, t as u}
  open new use {array, k}

  -- in another world
  abbrev before : World → Building
  before v = in_world building v

  abbrev stored_in : World → Building
  stored_in v = with_stores (in_world building v) (with_stored building.owning.stores array new.word)

  not_mine : (i : ℕ) (x : Item) → builder u i x ≢ k
  not_mine i x s = differ (ap (λ (b : Builder). b.thread) (sym s))

  made_is : (v : World) → v array ≡ Some k → (a height : ℕ) → v a ≡ Some (builder u height Header) → (o : Option Item) → made_world v a u height o array ≡ Some k
  made_is v e a height h o =
      let apart : array ≢ a = λ s. (let same : Some (builder u height Header) ≡ Some k = sym h ∙ (ap v (sym s) ∙ e) in let one : builder u height Header ≡ k = cc in not_mine height Header one) in
      elim o as (λ (o : Option Item). made_world v a u height o array ≡ Some k) [ Some y ↦ given_keeps v a (builder u height y) array k e apart (λ s. not_mine height y (sym s)) | None ↦ finished_there v a array apart ∙ e ]

  phase_on : (v : World) → v array ≡ Some k → (phase : Phase) (fs : List Frame) → PhaseIn (before v) phase fs → PhaseIn (stored_in v) phase fs
  phase_on v e (phases.Made a header) fs j = record {
    item = j.item;
    not_begun = j.not_begun;
    now = j.now;
    keep = frames_on (before (made_world v a u (length fs - 1) j.item)) new (made_is v e a (length fs - 1) j.now j.item) Runs (pushed a fs) tt (λ i l. not_mine i Unstored) j.keep;
  }
  phase_on v e phase fs j = frames_on (before v) new e (turn_by (operands_in phase)) fs (elim (operands_in phase) as (λ (o : Operands). TurnApart (before v) new e (turn_by o)) [ Thrown ↦ tt | _ ↦ tt ]) (λ i l. not_mine i Unstored) j

  attempt_on : (v : World) → v array ≡ Some k → (fs : List Frame) (o : Option Attempt) → TriesIn (before v) fs o → TriesIn (stored_in v) fs o
  attempt_on v e fs None j = tt
  attempt_on v e fs (Some a) j = record { monitor = j.monitor; goes_back = frames_on (before v) new e Runs (put_back a fs) tt (λ i l. not_mine i Unstored) j.goes_back }

  pub thread_on : (was : Phase) (x : Thread) → ThreadIn building was x → ThreadIn (stored_in w) was x
  thread_on was x j =
      let seen : j.now array ≡ Some k = j.now_is.others array (λ b e. (let same : b ≡ k = same_some (sym e ∙ is) in λ s. differ (ap (λ (i : Builder). i.thread) (sym same) ∙ s))) ∙ is in
      record { now = j.now; now_is = j.now_is; now_world = j.now_world; frames = phase_on j.now seen was x.frames j.frames; phase = j.phase; held = j.held; attempt = attempt_on w is x.frames x.attempt j.attempt }

  -- it sees the world as before
  pub thread_sees : (was : Phase) (x : Thread) (j : ThreadIn building was x) → (thread_on was x j).now ≡ j.now
  unfolding thread_on
  thread_sees was x j = refl
