-- A call: the caller waits, and the called frame has what the caller gave it. An `<init>` of a frozen class begins on what a
-- `new` of the caller made.
use Rattle.std.proofs.Common.{inl, inr, ◌≡◌, ◌≢◌, ℕ, suc, ◌<◌, Bool, true, false, not, List, [], ◌∷◌, ◌++◌, length, map, drop, Option, Some, None, refl, sym, ap, ◌∙◌, subst, arith, ◌==◌, slice_get, slice_index_or, reverse}
use Rattle.std.{specs.List.AllByRecursion, proofs.lemmas.Bool.{cases_Bool, or_parts, eqb-false, Decides.Decides-eqb}}
use Rattle.lists.proofs.TestLaws.{is_true}
use Rattle.jvm_types.specs.{CodeTable.{arguments, want_of}, Verifying.{suits, some_taken, started}, declared.{code.Op.{Op, TheVariants.{Invokevirtual, Putfield}}, op_row.Want.Want}}
use Rattle.jvm_types.specs.declared.{op_row.Want.TheVariants.ToStart, program.{Kind.{Kind, TheVariants.Int}, MethodInfo.MethodInfo, Target.Target}, typing.VType.{VType, TheVariants.{New, This}}}
use Rattle.checked_program.specs.{MarkedProgram.MarkedProgram, Marks.called_method, OwnedArrays.may_take_array, declared.tag.Tag.{Tag, TheVariants.Untagged}}
use Rattle.machine_types.specs.Construction.{puts_owned, builds, makes_frozen, if_so, SlotsAre, Runs, WaitsFor, FreshAtCall, IsFresh, ReceiverIs, SlotOf, IsArraySlot}
use Rattle.machine_types.specs.{Standing.{Standing, row_at}, Threads.Frame, Worlds.{Made, Begun, Lost, Builder, builder, World, IsFinished, with_builder}}
use Rattle.laws_objects.proofs.{ArraySlots.{from_drop, from_map}, Buildings.{Building, in_world, FrameIn, WaitIn, BelowIn}, BuiltEffects.StartsNone, KeptFrames.{below_kept, plain_stack}}
use Rattle.laws_objects.proofs.{Moves.{StartsOld, Suit, suits_later}, Operands.takes_any, PutPlaces.is_newarray, Slots.{slots_map, slots_drop, slot_later}}
use Rattle.laws_objects.proofs.WorldChanges.{item_is, none_some, given_keeps, given_none}

-- ---- below a frame it counts which method it is of, and its receiver

module _ (building : Building) where
  pub below_moved : (f : Frame) (pc : ℕ) (stack locals : List ℕ) (fs : List Frame) → BelowIn building f fs → BelowIn building (record f { pc = pc; stack = stack; locals = locals }) fs
  below_moved f pc stack locals [] k = tt
  below_moved f pc stack locals (g ∷ fs) k = k

-- ---- the caller

-- a call stores nothing, and takes no coloured value
pub call_stores : (owned : ℕ → Bool) (op : Op) (target : Target) (callee : ℕ) → called_method op target ≡ Some callee → puts_owned owned op target ≡ false
call_stores owned (Putfield i) target callee e = absurd (let bad : None ≡ Some callee = e in cc)
call_stores owned op target callee e = refl

pub call_takes : (op : Op) (target : Target) (callee : ℕ) → called_method op target ≡ Some callee → (takes_any op ≡ false) × ((k : ℕ) → may_take_array op k ≡ false) × (is_newarray op ≡ false)
call_takes (Invokevirtual i) target callee e = (refl, λ k. refl, refl)
call_takes op target callee e = (cc, λ k. cc, cc)

abbrev pub waits_on : (c : MarkedProgram) (f : Frame) → Standing c f → Frame
waits_on c f k = record f { stack = drop (length (row_at c f k).takes) f.stack }

abbrev pub stands_waiting : (c : MarkedProgram) (f : Frame) (k : Standing c f) → Standing c (waits_on c f k)
stands_waiting c f k = record { number = k.number; method = k.method; insn = k.insn; target = k.target; tags = k.tags; at = k.at; frames = k.frames; types_of_method = k.types_of_method; types = k.types; types_are = k.types_are; pc_is = k.pc_is }

module _ (building : Building) (h : ℕ) (f : Frame) (k : FrameIn building h Runs f) (callee : ℕ) (calls : called_method k.stands.insn.op k.stands.target ≡ Some callee) where
  open building use {c, frozen, owning, w, next, t}

  -- of a method that is no `<init>` of a frozen class, or of one on `this`
  wait_fresh : (young : ℕ → Bool) (receiver : ℕ) (o : Option (VType × ℕ)) → StartsOld young o → (q v : ℕ) → young q ≡ true → w v ≡ Some (builder t h (Made q)) → FreshAtCall w t h receiver o q v
  wait_fresh young receiver (Some (New r, class)) s q v y e =
      elim (cases_Bool (q == r)) [ inl z ↦ absurd (let bad : true ≡ false = sym y ∙ ap young ((Decides-eqb q r).0 z) ∙ s in cc) | inr z ↦ rw z e ]
  wait_fresh young receiver o s q v y e = e

  -- in a world that keeps what it has, where its slots are as it waits
  pub waits_in : (z : World) (receiver : ℕ) (o : Option (VType × ℕ)) → o ≡ started k.stands.method.class (row_at c f k.stands).takes k.stands.types.stack → ((v : ℕ) → IsFinished w next v → IsFinished z next v)
      → ((q v : ℕ) → makes_frozen frozen k.stands.method q ≡ true → w v ≡ Some (builder t h (Made q)) → FreshAtCall z t h receiver o q v) → ReceiverIs z next t h (builds frozen k.stands.method) f.receiver → WaitIn (in_world building z) h callee receiver (waits_on c f k.stands)
  waits_in z receiver o begun old fresh own = record {
    begun = o;
    keeps = record {
      stands = stands_waiting c f k.stands;
      receiver = own;
      stack = moved (drop n k.stands.types.stack) (drop n k.stands.tags.stack) (drop n f.stack)
          (slots_drop (SlotOf frozen w next t h Runs k.stands.method f.receiver) n k.stands.types.stack k.stands.tags.stack f.stack (plain_stack building h f k (call_stores owning.owned k.stands.insn.op k.stands.target callee calls)));
      locals = moved k.stands.types.locals k.stands.tags.locals f.locals k.locals;
      arrays = from_map (IsArraySlot c owning.stores f k.stands.number) (IsArraySlot c owning.stores (waits_on c f k.stands) k.stands.number)
          (λ i u v a. record { owned = λ o word is. a.owned o word is; other = λ none. a.other none }) n (drop n k.stands.types.stack) (drop n f.stack)
          (from_drop (IsArraySlot c owning.stores f k.stands.number) n 0 n k.stands.types.stack f.stack (omega arith) k.arrays);
      no_arrays = k.no_arrays;
    };
    calls = calls;
    begun_is = begun;
  }
    where
      n : ℕ
      n = length (row_at c f k.stands).takes

      moved : (ts : List VType) (gs : List Tag) (vs : List ℕ) → SlotsAre (SlotOf frozen w next t h Runs k.stands.method f.receiver) ts gs vs → SlotsAre (SlotOf frozen z next t h (WaitsFor receiver o) k.stands.method f.receiver) ts gs vs
      moved = slots_map (SlotOf frozen w next t h Runs k.stands.method f.receiver) (SlotOf frozen z next t h (WaitsFor receiver o) k.stands.method f.receiver)
          (slot_later (IsFinished w next) (IsFinished z next) (IsFresh w t h Runs) (IsFresh z t h (WaitsFor receiver o)) old (makes_frozen frozen k.stands.method) fresh (builds frozen k.stands.method) f.receiver)

  pub caller_waits : (receiver : ℕ) → StartsOld (makes_frozen frozen k.stands.method) (started k.stands.method.class (row_at c f k.stands).takes k.stands.types.stack) → WaitIn building h callee receiver (waits_on c f k.stands)
  caller_waits receiver old =
      let o = started k.stands.method.class (row_at c f k.stands).takes k.stands.types.stack in
      waits_in w receiver o refl (λ v k. k) (wait_fresh (makes_frozen frozen k.stands.method) receiver o old) k.receiver

-- ---- in the world where an object of the caller is begun

module _ (building : Building) (h a q : ℕ) (one : (v u : ℕ) (b : Builder) → b.item ≢ Lost → building.w v ≡ Some b → building.w u ≡ Some b → v ≡ u) (is : building.w a ≡ Some (builder building.t h (Made q))) where
  open building use {c, frozen, w, next, t}

  abbrev pub begun_world : World
  begun_world = with_builder w a (builder t (suc h) Begun)

  pub old_begun : (v : ℕ) → IsFinished w next v → IsFinished begun_world next v
  old_begun v o = (o.0, given_none w a (builder t (suc h) Begun) v o.1 (λ e. none_some (w a) (builder t h (Made q)) (subst (λ (x : ℕ). w x ≡ None) e o.1) is))

  fresh_begun : (r v : ℕ) → w v ≡ Some (builder t h (Made r)) → if_so (r == q) (v ≡ a) (begun_world v ≡ Some (builder t h (Made r)))
  fresh_begun r v e = elim (cases_Bool (r == q)) [
    | inl z ↦ rw z (one v a (builder t h (Made q)) (λ i. cc) (subst (λ (x : ℕ). w v ≡ Some (builder t h (Made x))) ((Decides-eqb r q).0 z) e) is)
    | inr z ↦ rw z (given_keeps w a (builder t (suc h) Begun) v (builder t h (Made r)) e
        (λ s. eqb-false r q z (let k = item_is (w a) t h t h (Made r) (Made q) (subst (λ (x : ℕ). w x ≡ Some (builder t h (Made r))) s e) is in (let i = k.1 in cc)))
        (λ s. (let i : Made r ≡ Begun = ap (λ (b : Builder). b.item) s in cc)))
  ]

  receiver_begun : (own : Bool) (b : ℕ) → ReceiverIs w next t h own b → ReceiverIs begun_world next t h own b
  receiver_begun true b r = given_keeps w a (builder t (suc h) Begun) b (builder t h Begun) r
      (λ s. (let k = item_is (w a) t h t h Begun (Made q) (subst (λ (x : ℕ). w x ≡ Some (builder t h Begun)) s r) is in (let i = k.1 in cc)))
      (λ s. (let i : h ≡ suc h = ap (λ (b : Builder). b.height) s in omega (arith, i)))
  receiver_begun false b r = old_begun b r

  pub young_waits : (f : Frame) (k : FrameIn building h Runs f) (callee class : ℕ) → called_method k.stands.insn.op k.stands.target ≡ Some callee
      → started k.stands.method.class (row_at c f k.stands).takes k.stands.types.stack ≡ Some (New q, class) → WaitIn (in_world building begun_world) h callee a (waits_on c f k.stands)
  young_waits f k callee class calls begun =
      waits_in building h f k callee calls begun_world a (Some (New q, class)) (sym begun) old_begun (λ r v y. fresh_begun r v) (receiver_begun (builds frozen k.stands.method) f.receiver k.receiver)

  -- the frames below wait on
  pub below_begun : (g : Frame) (fs : List Frame) → length fs ≡ h → BelowIn building g fs → BelowIn (in_world building begun_world) g fs
  below_begun g fs l k = below_kept building begun_world next old_begun g fs (λ i less v x e. given_keeps w a (builder t (suc h) Begun) v (builder t i x) e
      (λ s. (let u = item_is (w a) t i t h x (Made q) (subst (λ (y : ℕ). w y ≡ Some (builder t i x)) s e) is in (let z = u.0 in omega (arith, z, l, less))))
      (λ s. (let z : i ≡ suc h = ap (λ (b : Builder). b.height) s in omega (arith, z, l, less)))) k

-- ---- the receiver stands below the arguments

pub record ReceiverAt (m : MethodInfo) (R : VType → Tag → ℕ → Type 0) (own class : ℕ) (n : ℕ) (us : List VType) (gs : List Tag) (vs : List ℕ) (o : Option (VType × ℕ)) : Type 0 where
  pub type : VType
  pub tag : Tag
  pub value : ℕ
  pub type_is : slice_get us n ≡ Some type
  pub tag_is : slice_index_or gs n Untagged ≡ tag
  pub value_is : slice_get vs n ≡ Some value
  pub slot : R type tag value
  pub suits_it : suits m (ToStart class) type ≡ true
  pub begun : o ≡ started own (ToStart class ∷ []) (type ∷ [])

pub start_slot : (m : MethodInfo) (R : VType → Tag → ℕ → Type 0) (own class : ℕ) (front : List Want) (us : List VType) (gs : List Tag) (vs : List ℕ) → AllByRecursion StartsNone front → length front < length vs → SlotsAre R us gs vs
    → Suit m (front ++ ToStart class ∷ []) us → ReceiverAt m R own class (length front) us gs vs (started own (front ++ ToStart class ∷ []) us)
start_slot m R own class [] (u ∷ us) (g ∷ gs) (v ∷ vs) none l slots s = record {
  type = u;
  tag = g;
  value = v;
  type_is = refl;
  tag_is = refl;
  value_is = refl;
  slot = slots.0;
  suits_it = is_true (suits m (ToStart class) u) (or_parts (not (suits m (ToStart class) u)) (some_taken (λ want u. not (suits m want u)) [] us) s).0;
  begun = same u;
}
  where
    same : (u : VType) → started own (ToStart class ∷ []) (u ∷ us) ≡ started own (ToStart class ∷ []) (u ∷ [])
    same This = refl
    same u = refl
start_slot m R own class (ToStart d ∷ front) us gs vs none l slots s = absurd none.0
start_slot m R own class (want ∷ front) (u ∷ us) (g ∷ gs) (v ∷ vs) none l slots s =
    let k = start_slot m R own class front us gs vs none.1 (omega (arith, l)) slots.1 (suits_later m want u (front ++ ToStart class ∷ []) us s) in
    record { type = k.type; tag = k.tag; value = k.value; type_is = k.type_is; tag_is = k.tag_is; value_is = k.value_is; slot = k.slot; suits_it = k.suits_it; begun = k.begun }
start_slot m R own class front [] [] (v ∷ vs) none l slots s = absurd slots
start_slot m R own class front [] (g ∷ gs) vs none l slots s = absurd slots
start_slot m R own class front us gs vs none l slots s = absurd (first_of (assumption, omega (arith, l)))

-- the arguments start nothing
kinds_start : (ks : List Kind) → AllByRecursion StartsNone (map want_of ks)
kinds_start [] = tt
kinds_start (Int ∷ ks) = (tt, kinds_start ks)
kinds_start (kind ∷ ks) = (tt, kinds_start ks)

pub arguments_start : (called : MethodInfo) → AllByRecursion StartsNone (arguments called)
arguments_start called = kinds_start (reverse called.args)

-- a row that starts nothing
pub none_started : (own : ℕ) (wants : List Want) (us : List VType) → AllByRecursion StartsNone wants → started own wants us ≡ None
none_started own (ToStart class ∷ wants) us n = absurd n.0
none_started own (want ∷ wants) (u ∷ us) n = none_started own wants us n.1
none_started own wants us n = refl
