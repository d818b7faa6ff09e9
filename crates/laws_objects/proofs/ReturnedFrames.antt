-- A return: the caller goes on behind its call. Where an `<init>` of a frozen class returns, its object is finished.
use Rattle.std.proofs.Common.{◌≡◌, ℕ, zero, suc, ◌+◌, inl, inr, Bool, true, false, not, ◌&&◌, List, [], ◌∷◌, ◌++◌, length, map, drop, Option, Some, None, refl, sym, ap, ◌∙◌, subst, arith, ◌==◌, slice_get, slice_index_or}
use Rattle.std.{specs.{List.AllByRecursion, Option.{option_map, option_to_list}}, proofs.lemmas.Bool.{cases_Bool, or_parts, eq-eqb, eqb-true, ne_eqb}}
use Rattle.lists.proofs.{ListLaws.same_some, TestLaws.is_true}
use Rattle.jvm_types.specs.{CodeTable.{type_of, arguments, is_init, result_of, value_of, stack_after, locals_after, row}, Numbers.has_number, Types.{TypeFrame, is_below}}
use Rattle.jvm_types.specs.{Verifying.{suits, some_taken, new_class, started, initialised, after_start, frame_after, edges, is_return}, declared.{code.{Insn.Insn, Op.Op}, op_row.Given.Given}}
use Rattle.jvm_types.specs.declared.{op_row.{Given.TheVariants.Fresh as Anew, OpRow.OpRow, Want.{Want, TheVariants.{AnInt, AnObject, ToStart}}}, program.Kind.{Kind, TheVariants.Ref}}
use Rattle.jvm_types.{specs.declared.{program.{MethodInfo.MethodInfo, Target.Target}, typing.VType.VType}, proofs.EachAfter.all_append}
use Rattle.laws_programs.{specs.RuleLaws.{ReturnsWell, ReturnsTop}, proofs.RuleUses.returns_suit_all}
use Rattle.checked_program.specs.{CheckedLaws.receiver_want, LockTags.TagShape, TaggedCode.IsAt, Tagging.moved_tags, declared.tag.Tag.{Tag, TheVariants.Untagged}}
use Rattle.machine_types.specs.Construction.{puts_owned, builds, makes_frozen, if_so, SlotsAre, Runs, WaitsFor, FreshAtCall, IsFresh, ReceiverIs, SlotOf, IsNoStored, IsArraySlot, SlotsFrom}
use Rattle.machine_types.specs.{Frames.given_back, OwnedPlaces.IsStoredNowhere, Standing.{Standing, row_at, tags_of}, Threads.Frame, Worlds.{Made, Begun, Builder, builder, World, IsFinished}}
use Rattle.laws_threads.proofs.{Callers.{call_edge, row_of_call}, Calls.CallRow, Landing.rules_at, TopEffects.number_in}
use Rattle.laws_objects.proofs.{ArrayFrames.takes_clean, ArrayMoves.{GivenClean, WriteClean, SourceFine, stack_clean, each_source, dropped_at}}
use Rattle.laws_objects.proofs.ArraySlots.{IsStart, each_from, no_stored_along, array_along, stack_begun, locals_begun}
use Rattle.laws_objects.proofs.{Buildings.{Building, LawfulBuilding, in_world, FrameIn, WaitIn, BelowIn, FramesIn, null, inside}, BuiltEffects.{KindOld, StartsNone}}
use Rattle.laws_objects.proofs.{CalledFrames.{call_takes, below_moved, arguments_start, none_started}, Calling.class_frozen, KeptFrames.{below_kept, plain_stack}}
use Rattle.laws_objects.proofs.Moves.{Steps, stays, drops, StartsOld, StartsYoung, Starts, starts, is_start, Suit, suit_at, tags_fine, old_started, lands_behind, receiver_without, slots_finished}
use Rattle.laws_objects.proofs.{Operands.{TakenOld, takes_any, no_read, no_getfield, takes_old}, PutPlaces.edge_plain, Slots.{slots_map, slots_long, slot_later, made_slot}}
use Rattle.laws_objects.proofs.WorldChanges.{without, without_gone, without_keeps, finished_without}
use Rattle.jvm_types.specs.declared.code.Op.TheVariants as ops
use Rattle.jvm_types.specs.declared.typing.VType.TheVariants as types

-- ---- results

-- a reference that is returned is finished, or null
abbrev pub ResultOld : (ℕ → Type 0) → Option Kind → List ℕ → Type 0
ResultOld Old None [] = Unit {0}
ResultOld Old (Some kind) (v ∷ []) = KindOld Old kind v
ResultOld Old result vs = ⊥

top_result : (m : MethodInfo) (Old : ℕ → Type 0) (R : VType → Tag → ℕ → Type 0) (us : List VType) (gs : List Tag) (s : List ℕ) → ReturnsTop m us → SlotsAre R us gs s → ((kind : Kind) (a : ℕ) (rest : List ℕ) → m.result ≡ Some kind → s ≡ a ∷ rest → KindOld Old kind a)
    → (a : ℕ) × (rest : List ℕ) × (s ≡ a ∷ rest) × ResultOld Old m.result (a ∷ [])
top_result m Old R [] gs s w slots k = absurd (let e = w.top in cc)
top_result m Old R (u ∷ us) (g ∷ gs) (a ∷ s) w slots k = (a, s, refl, subst (λ (o : Option Kind). ResultOld Old o (a ∷ [])) (sym w.described) (k w.kind a s w.described refl))
top_result m Old R us gs s w slots k = absurd slots

module _ (building : Building) (h : ℕ) (null : IsFinished building.w building.next 0) (f : Frame) (k : FrameIn building h Runs f) where
  open building use {c, marked, frozen, owning, w, next, t}

  abbrev m : MethodInfo
  m = k.stands.method

  returns_well : ReturnsWell m k.stands.insn.op k.stands.types.stack
  returns_well =
      let rules = rules_at c marked f k.stands in
      returns_suit_all c.program m k.stands.insn k.stands.target k.stands.types rules.rules rules.sound.after

  -- by what is taken
  result_of_op : (Old : ℕ → Type 0) (op : Op) → is_return op ≡ true → ReturnsWell m op k.stands.types.stack → puts_owned owning.owned k.stands.insn.op k.stands.target ≡ false → TakenOld Old (row c.program m k.stands.insn.pc k.stands.target op).takes f.stack
      → Suit m (row c.program m k.stands.insn.pc k.stands.target op).takes k.stands.types.stack → ResultOld Old m.result (given_back op f.stack)
  result_of_op Old ops.Return r well plain old suit = subst (λ (o : Option Kind). ResultOld Old o []) (sym well) tt
  result_of_op Old ops.Ireturn r well plain old suit =
      let top = top_result m Old (SlotOf frozen w next t h Runs m f.receiver) k.stands.types.stack k.stands.tags.stack f.stack well (plain_stack building h f k plain) (λ kind a rest e s. an_int kind a e) in
      subst (λ (s : List ℕ). ResultOld Old m.result (given_back ops.Ireturn s)) (sym top.2) top.3
    where
      an_int : (kind : Kind) (a : ℕ) → m.result ≡ Some kind → KindOld Old kind a
      an_int (Ref class) a e = absurd (no_reference k.stands.types.stack well suit)
        where
          below_both : (u : VType) → is_below u types.Int ≡ true → is_below u (types.Ref class) ≡ true → ⊥
          below_both types.Int i b = cc
          below_both u i b = cc

          no_reference : (us : List VType) → ReturnsTop m us → Suit m (AnInt ∷ []) us → ⊥
          no_reference [] w s = (let e = w.top in cc)
          no_reference (u ∷ us) w s =
              let same : u ≡ w.type = same_some w.top in
              let kind : w.kind ≡ Ref class = same_some (sym w.described ∙ e) in
              let int : is_below u types.Int ≡ true = is_true (is_below u types.Int) (or_parts (not (is_below u types.Int)) (some_taken (λ want t. not (suits m want t)) [] us) s).0 in
              below_both u int (subst (λ (x : VType). is_below x (types.Ref class) ≡ true) (sym same) (subst (λ (x : Kind). is_below w.type (type_of x) ≡ true) kind w.fits))
      an_int kind a e = tt
  result_of_op Old ops.Areturn r well plain old suit =
      let top = top_result m Old (SlotOf frozen w next t h Runs m f.receiver) k.stands.types.stack k.stands.tags.stack f.stack well (plain_stack building h f k plain) (λ kind a rest e s. an_object kind a rest s (subst (λ (o : Option Kind). TakenOld Old (Rattle.jvm_types.specs.CodeTable.returned_want o ∷ []) f.stack) e old)) in
      subst (λ (s : List ℕ). ResultOld Old m.result (given_back ops.Areturn s)) (sym top.2) top.3
    where
      an_object : (kind : Kind) (a : ℕ) (rest : List ℕ) → f.stack ≡ a ∷ rest → TakenOld Old (Rattle.jvm_types.specs.CodeTable.returned_want (Some kind) ∷ []) f.stack → KindOld Old kind a
      an_object (Ref class) a rest e h = (subst (TakenOld Old (AnObject class ∷ [])) e h).0
      an_object kind a rest e h = tt
  result_of_op Old op r well plain old suit = absurd (let bad : false ≡ true = r in cc)

  return_takes : (op : Op) → is_return op ≡ true → takes_any op ≡ false
  return_takes (ops.Getfield i) r = absurd (cc)
  return_takes op r = cc

  return_stores : (op : Op) (target : Target) → is_return op ≡ true → puts_owned owning.owned op target ≡ false
  return_stores (ops.Putfield i) target r = absurd (cc)
  return_stores op target r = refl

  -- what a return gives back is finished
  pub result_old : is_return k.stands.insn.op ≡ true → ResultOld (IsFinished w next) m.result (given_back k.stands.insn.op f.stack)
  result_old r =
      let plain = return_stores k.stands.insn.op k.stands.target r in
      result_of_op (IsFinished w next) k.stands.insn.op r returns_well plain (takes_old building h f k null (no_getfield k.stands.insn.op (return_takes k.stands.insn.op r)) plain) (suit_at c marked f k.stands)

  -- and was stored nowhere
  pub result_clean : is_return k.stands.insn.op ≡ true → ResultOld (IsStoredNowhere owning.stores) m.result (given_back k.stands.insn.op f.stack)
  result_clean r =
      result_of_op (IsStoredNowhere owning.stores) k.stands.insn.op r returns_well (return_stores k.stands.insn.op k.stands.target r) (takes_clean building h f k (return_takes k.stands.insn.op r)) (suit_at c marked f k.stands)

-- ---- what started stands below the arguments

started_class : (own q d class : ℕ) (front : List Want) (us : List VType) → AllByRecursion StartsNone front → started own (front ++ ToStart class ∷ []) us ≡ Some (types.New q, d) → d ≡ class
started_class own q d class [] (types.This ∷ us) n e = absurd (let is : Some (types.This, own) ≡ Some (types.New q, d) = e in let same : types.This ≡ types.New q = ap (λ (x : VType × ℕ). x.0) (same_some is) in cc)
started_class own q d class [] (u ∷ us) n e = let is : Some (u, class) ≡ Some (types.New q, d) = e in ap (λ (x : VType × ℕ). x.1) (sym (same_some is))
started_class own q d class (ToStart x ∷ front) us n e = absurd n.0
started_class own q d class (want ∷ front) (u ∷ us) n e = started_class own q d class front us n.1 e
started_class own q d class front [] n e = absurd (cc)

-- ---- places below those that a call took

padded : ℕ → List ℕ → List ℕ
padded zero xs = xs
padded (suc n) xs = 0 ∷ padded n xs

at_padded : (n : ℕ) (xs : List ℕ) (q m : ℕ) → m ≡ n + q → slice_index_or (padded n xs) m 0 ≡ slice_index_or xs q 0
unfolding padded
at_padded zero xs q m e = let same : m ≡ q = omega (arith, e) in ap (λ (i : ℕ). slice_index_or xs i 0) same
at_padded (suc n) xs q zero e = absurd (omega (arith, e))
at_padded (suc n) xs q (suc m) e = at_padded n xs q m (omega (arith, e))

-- ---- the caller

-- the frame g that waited, its method called, and what that gives back
pub record Resuming (lawful : LawfulBuilding) : Type 0 where
  pub number : ℕ
  pub receiver : ℕ
  pub called : MethodInfo
  pub there : slice_get lawful.c.program.methods number ≡ Some called
  pub g : Frame
  pub gs : List Frame
  pub wait : WaitIn lawful.building (length gs) number receiver g
  pub below : BelowIn lawful.building g gs
  pub stands : ReceiverIs lawful.w lawful.next lawful.t (suc (length gs)) (builds lawful.frozen called) receiver
  pub result : List ℕ
  pub old_result : ResultOld (IsFinished lawful.w lawful.next) called.result result
  pub clean_result : ResultOld (IsStoredNowhere lawful.owning.stores) called.result result

module _ (lawful : LawfulBuilding) (resuming : Resuming lawful) where
  open lawful use {building, c, marked, frozen, owning, owns, w, next, t, fine}
  open resuming use {number, receiver, called, there, g, gs, wait, below, stands, result, old_result, clean_result}

  abbrev k : Standing c g
  k = wait.keeps.stands

  abbrev r : OpRow
  r = row_at c g wait.keeps.stands

  abbrev resumed : Frame
  resumed = record g { pc = wait.keeps.stands.insn.next; stack = result ++ g.stack }

  call : CallRow called r
  call = row_of_call c marked g k number called wait.calls there

  gives_are : r.gives ≡ result_of called
  gives_are = ap (λ (x : OpRow). x.gives) call.is

  writes_none : r.writes ≡ None
  writes_none = ap (λ (x : OpRow). x.writes) call.is

  -- with the result on the stack
  abbrev IsWaiting : VType → Tag → ℕ → Type 0
  IsWaiting = SlotOf frozen w next t (length gs) (WaitsFor receiver wait.begun) wait.keeps.stands.method g.receiver

  kind_slot : (kind : Kind) (v : ℕ) → KindOld (IsFinished w next) kind v → IsWaiting (type_of kind) Untagged v
  kind_slot (Ref class) v o = made_slot (IsFinished w next) (null lawful) (IsFresh w t (length gs) (WaitsFor receiver wait.begun)) (builds frozen k.method) (makes_frozen frozen k.method) g.receiver (builds frozen k.method) (types.Ref class) v (λ e. cc) o
  kind_slot kind v o = made_slot (IsFinished w next) (null lawful) (IsFresh w t (length gs) (WaitsFor receiver wait.begun)) (builds frozen k.method) (makes_frozen frozen k.method) g.receiver (builds frozen k.method) types.Int v (λ e. cc) tt

  pushed : (o : Option Kind) (vs : List ℕ) → ResultOld (IsFinished w next) o vs → (st lt : List VType) (sg lg : List Tag) (us : List VType) (hs : List Tag) (ns : List ℕ) → SlotsAre IsWaiting us hs ns
      → SlotsAre IsWaiting (map (value_of types.Top (λ t. t) st lt) (option_to_list (option_map (λ kind. Anew (type_of kind)) o)) ++ us) (map (value_of Untagged (λ t. Untagged) sg lg) (option_to_list (option_map (λ kind. Anew (type_of kind)) o)) ++ hs) (vs ++ ns)
  pushed None [] e st lt sg lg us hs ns s = s
  pushed (Some kind) (v ∷ []) e st lt sg lg us hs ns s = (kind_slot kind v e, s)
  pushed o vs e st lt sg lg us hs ns s = absurd e

  stack_waits : SlotsAre IsWaiting (stack_after types.Top (λ t. t) r k.types.stack k.types.locals) (moved_tags r k.tags).stack (result ++ g.stack)
  stack_waits =
      subst (λ (xs : List Given). SlotsAre IsWaiting (map (value_of types.Top (λ t. t) k.types.stack k.types.locals) xs ++ drop (length r.takes) k.types.stack) (map (value_of Untagged (λ t. Untagged) k.tags.stack k.tags.locals) xs ++ drop (length r.takes) k.tags.stack) (result ++ g.stack)) (sym gives_are)
      (pushed called.result result old_result k.types.stack k.types.locals k.tags.stack k.tags.locals (drop (length r.takes) k.types.stack) (drop (length r.takes) k.tags.stack) g.stack wait.keeps.stack)

  locals_wait : SlotsAre IsWaiting (locals_after types.Top (λ t. t) r.writes k.types.stack k.types.locals) (moved_tags r k.tags).locals g.locals
  locals_wait =
      subst (λ (o : Option (ℕ × Given)). SlotsAre IsWaiting (locals_after types.Top (λ t. t) o k.types.stack k.types.locals) (locals_after Untagged (λ t. Untagged) o k.tags.stack k.tags.locals) g.locals) (sym writes_none) wait.keeps.locals

  -- ---- arrays that were stored: the result is none, and the others are where they were

  before : TypeFrame
  before = record { stack = stack_after types.Top (λ t. t) r k.types.stack k.types.locals; locals = locals_after types.Top (λ t. t) r.writes k.types.stack k.types.locals; ready = k.types.ready }

  is_begun_type : IsStart (started k.method.class r.takes k.types.stack)
  is_begun_type = is_start k.method (makes_frozen frozen k.method) (started k.method.class r.takes k.types.stack) (starts k.method (makes_frozen frozen k.method) r.takes k.types.stack (suit_at c marked g k))

  kind_type : (kind : Kind) (v : ℕ) → KindOld (IsStoredNowhere owning.stores) kind v → IsNoStored owning.stores (type_of kind) v
  kind_type (Ref class) v h = h
  kind_type kind v h = tt

  made_by : (o : Option Kind) (vs : List ℕ) → ResultOld (IsStoredNowhere owning.stores) o vs
      → (made : ℕ) × ((sv lv : List ℕ) → map (value_of 0 (λ t. made) sv lv) (option_to_list (option_map (λ kind. Anew (type_of kind)) o)) ≡ vs)
      × AllByRecursion (GivenClean owning.stores made) (option_to_list (option_map (λ kind. Anew (type_of kind)) o))
  made_by None [] h = (0, λ sv lv. refl, tt)
  made_by (Some kind) (v ∷ []) h = (v, λ sv lv. refl, (kind_type kind v h, tt))
  made_by o vs h = absurd h

  fresh_only : (P : Given → Type 0) → ((t : VType) → P (Anew t)) → (o : Option Kind) → AllByRecursion P (option_to_list (option_map (λ kind. Anew (type_of kind)) o))
  fresh_only P f None = tt
  fresh_only P f (Some kind) = (f (type_of kind), tt)

  module _ (j : ℕ) (other : Insn) (target : Target) (u : TagShape) (at : IsAt c.program (tags_of c) g.method j wait.keeps.stands.method other target u) (edge : has_number (edges wait.keeps.stands.insn) other.pc ≡ true) where
    slot_behind : (q : ℕ) → IsArraySlot c owning.stores g k.number (length r.takes + q) (slice_index_or k.types.stack (length r.takes + q) types.Top) (slice_index_or (padded (length r.takes) g.stack) (length r.takes + q) 0)
    slot_behind q =
        let waits = each_from (IsArraySlot c owning.stores g k.number) (λ n. record { owned = λ o word is. inl refl; other = λ none. tt }) (length r.takes) (drop (length r.takes) k.types.stack) g.stack
        (slots_long IsWaiting (drop (length r.takes) k.types.stack) (drop (length r.takes) k.tags.stack) g.stack wait.keeps.stack) wait.keeps.arrays q (length r.takes + q) refl in
        subst (λ (t : VType). IsArraySlot c owning.stores g k.number (length r.takes + q) t (slice_index_or (padded (length r.takes) g.stack) (length r.takes + q) 0)) (sym (dropped_at types.Top (length r.takes) k.types.stack q (length r.takes + q) refl))
        (subst (IsArraySlot c owning.stores g k.number (length r.takes + q) (slice_index_or (drop (length r.takes) k.types.stack) q types.Top)) (sym (at_padded (length r.takes) g.stack q (length r.takes + q) refl)) waits)

    arrays_on : SlotsFrom (IsArraySlot c owning.stores (record g { pc = wait.keeps.stands.insn.next; stack = result ++ g.stack }) j) 0 (frame_after k.method r k.types).stack (result ++ g.stack)
    unfolding before
    arrays_on =
        let made = made_by called.result result clean_result in
        let same : map (value_of 0 (λ t. made.0) (padded (length r.takes) g.stack) g.locals) r.gives ≡ result = ap (map (value_of 0 (λ t. made.0) (padded (length r.takes) g.stack) g.locals)) gives_are ∙ made.1 (padded (length r.takes) g.stack) g.locals in
        let clean : AllByRecursion (GivenClean owning.stores made.0) r.gives = subst (AllByRecursion (GivenClean owning.stores made.0)) (sym gives_are) made.2 in
        let written : WriteClean owning.stores made.0 r.writes = subst (WriteClean owning.stores made.0) (sym writes_none) tt in
        stack_begun (IsArraySlot c owning.stores (record g { pc = wait.keeps.stands.insn.next; stack = result ++ g.stack }) j) (array_along c owning.stores (record g { pc = wait.keeps.stands.insn.next; stack = result ++ g.stack }) j)
        (started k.method.class r.takes k.types.stack) is_begun_type before 0 (result ++ g.stack)
        (subst (λ (vs : List ℕ). SlotsFrom (IsArraySlot c owning.stores (record g { pc = wait.keeps.stands.insn.next; stack = vs ++ g.stack }) j) 0 (stack_after types.Top (λ t. t) r k.types.stack k.types.locals) (vs ++ g.stack)) same
        (stack_clean c marked owning.stores g k k.types.stack k.types.locals (padded (length r.takes) g.stack) g.locals made.0 k.insn.next g.stack g.locals
        (λ q. at_padded (length r.takes) g.stack q (length r.takes + q) refl)
        (record { read = λ fi reads word is. absurd (no_read fi k.insn.op k.target (no_getfield k.insn.op (call_takes k.insn.op k.target number wait.calls).0) reads.1); other = λ none. (clean, written); written = written })
        j other target u at edge
        (each_source (SourceFine c marked owning.stores g k k.types.stack k.types.locals (padded (length r.takes) g.stack) g.locals made.0) (length r.takes) slot_behind r.gives
        (subst (AllByRecursion (SourceFine c marked owning.stores g k k.types.stack k.types.locals (padded (length r.takes) g.stack) g.locals made.0)) (sym gives_are) (fresh_only _ (λ t. tt) called.result)))))

  locals_on : SlotsFrom (λ place. IsNoStored owning.stores) 0 (frame_after k.method r k.types).locals g.locals
  unfolding before
  locals_on = locals_begun (λ place. IsNoStored owning.stores) (no_stored_along owning.stores) (started k.method.class r.takes k.types.stack) is_begun_type before 0 g.locals
      (subst (λ (o : Option (ℕ × Given)). SlotsFrom (λ place. IsNoStored owning.stores) 0 (locals_after types.Top (λ t. t) o k.types.stack k.types.locals) g.locals) (sym writes_none) wait.keeps.no_arrays)

  -- in a world where the slots are of the types behind the call
  landed : (z : World) → IsFinished z next 0 → ReceiverIs z next t (length gs) (builds frozen k.method) g.receiver
      → SlotsAre (SlotOf frozen z next t (length gs) Runs k.method g.receiver) (frame_after k.method r k.types).stack (moved_tags r k.tags).stack (result ++ g.stack)
      → SlotsAre (SlotOf frozen z next t (length gs) Runs k.method g.receiver) (frame_after k.method r k.types).locals (moved_tags r k.tags).locals g.locals → FrameIn (in_world building z) (length gs) Runs resumed
  landed z none own stack locals =
      let edge = call_edge k.insn k.target number wait.calls in
      let edge_is : has_number (edges k.insn) k.insn.next ≡ true = number_in (edges k.insn) k.insn.next edge in
      let fine = tags_fine (IsFinished z next) none (IsFresh z t (length gs) Runs) (builds frozen k.method) (makes_frozen frozen k.method) g.receiver c.program k.method k.insn.pc k.target k.insn.op k.tags.stack k.tags.locals k.tags.held
      (frame_after k.method r k.types).stack (frame_after k.method r k.types).locals (result ++ g.stack) g.locals (stack, locals) in
      lands_behind (in_world building z) (length gs) none g k k.insn.next (result ++ g.stack) g.locals edge false
      (record {
        put = λ j other target u at same. edge_plain c marked owning owns g.method j k.method other target u at k.number k.insn k.at.in_code (subst (λ (pc : ℕ). has_number (edges k.insn) pc ≡ true) (sym same) edge_is) (call_takes k.insn.op k.target number wait.calls).2;
        arrays = λ j other target u at same. arrays_on j other target u at (subst (λ (pc : ℕ). has_number (edges k.insn) pc ≡ true) (sym same) edge_is);
        locals = locals_on;
      })
      own fine.0 fine.1

  -- ---- of a method that is no `<init>` of a frozen class, or of one on `this`

  again : (o : Option (VType × ℕ)) → StartsOld (makes_frozen frozen k.method) o → (q v : ℕ) → makes_frozen frozen k.method q ≡ true → FreshAtCall w t (length gs) receiver o q v → w v ≡ Some (builder t (length gs) (Made q))
  again (Some (types.New x, class)) s q v y e =
      elim (cases_Bool (q == x)) [ inl z ↦ absurd (let bad : true ≡ false = sym y ∙ ap (makes_frozen frozen k.method) (eqb-true q x z) ∙ s in cc) | inr z ↦ rw z at e ]
  again o s q v y e = e

  resumes_old : StartsOld (makes_frozen frozen k.method) (started k.method.class r.takes k.types.stack) → FrameIn building (length gs) Runs resumed
  resumes_old old =
      let after = old_started (IsFinished w next) (null lawful) (IsFresh w t (length gs) Runs) (builds frozen k.method) (makes_frozen frozen k.method) g.receiver (started k.method.class r.takes k.types.stack) old
      (record { stack = stack_after types.Top (λ t. t) r k.types.stack k.types.locals; locals = locals_after types.Top (λ t. t) r.writes k.types.stack k.types.locals; ready = k.types.ready })
      (moved_tags r k.tags) (result ++ g.stack) g.locals (runs _ _ _ stack_waits, runs _ _ _ locals_wait) in
      landed w (null lawful) wait.keeps.receiver after.0 after.1
    where
      runs : (us : List VType) (hs : List Tag) (ns : List ℕ) → SlotsAre IsWaiting us hs ns → SlotsAre (SlotOf frozen w next t (length gs) Runs k.method g.receiver) us hs ns
      runs = slots_map IsWaiting (SlotOf frozen w next t (length gs) Runs k.method g.receiver)
          (slot_later (IsFinished w next) (IsFinished w next) (IsFresh w t (length gs) (WaitsFor receiver wait.begun)) (IsFresh w t (length gs) Runs) (λ v o. o) (makes_frozen frozen k.method)
          (again wait.begun (subst (StartsOld (makes_frozen frozen k.method)) (sym wait.begun_is) old)) (builds frozen k.method) g.receiver)

  -- ---- of an `<init>` on what a `new` of the caller made

  module _ (y : StartsYoung k.method (makes_frozen frozen k.method) (started k.method.class r.takes k.types.stack)) where
    abbrev gone : Builder
    gone = builder t (suc (length gs)) Begun

    abbrev z : World
    z = without w (builder t (suc (length gs)) Begun)

    -- the method is such an `<init>`
    called_builds : builds frozen called ≡ true
    called_builds = elim call.by [
      | inl s ↦ by_init (is_init called) refl (takes_are (arguments called ++ receiver_want (is_init called) called.class ∷ []) s.1)
      | inr s ↦ absurd (nothing (subst (AllByRecursion StartsNone) (sym (takes_are (arguments called) s.1)) (arguments_start called)))
    ]
      where
        takes_are : (ws : List Want) → call.takes ≡ ws → r.takes ≡ ws
        takes_are ws e = ap (λ (x : OpRow). x.takes) call.is ∙ e

        nothing : AllByRecursion StartsNone r.takes → ⊥
        nothing n = let none = none_started k.method.class r.takes k.types.stack n in (let bad : None ≡ Some (types.New y.pc, y.class) = sym none ∙ y.is in cc)

        by_init : (b : Bool) → is_init called ≡ b → r.takes ≡ arguments called ++ receiver_want b called.class ∷ [] → builds frozen called ≡ true
        by_init false e takes = absurd (nothing (subst (AllByRecursion StartsNone) (sym takes) (all_append StartsNone (arguments called) (AnObject called.class ∷ []) (arguments_start called) (tt, tt))))
        by_init true e takes =
            let class : y.class ≡ called.class = started_class k.method.class y.pc y.class called.class (arguments called) k.types.stack (arguments_start called) (ap (λ (ws : List Want). started k.method.class ws k.types.stack) (sym takes) ∙ y.is) in
            ap (λ (b : Bool). b && frozen called.class) e ∙ sym (ap frozen class) ∙ sym (class_frozen frozen (new_class k.method.code k.method.targets y.pc) y.class y.of_class) ∙ y.young_is

    is_begun : w receiver ≡ Some (builder t (suc (length gs)) Begun)
    is_begun = subst (λ (b : Bool). ReceiverIs w next t (suc (length gs)) b receiver) called_builds stands

    finish : (us : List VType) (hs : List Tag) (ns : List ℕ) → SlotsAre IsWaiting us hs ns → SlotsAre (SlotOf frozen z next t (length gs) Runs k.method g.receiver) (initialised (types.New y.pc) y.class us) hs ns
    finish us hs ns s =
        slots_finished (IsFinished w next) (IsFinished z next) (IsFresh w t (length gs) (WaitsFor receiver (Some (types.New y.pc, y.class)))) (IsFresh z t (length gs) Runs) (makes_frozen frozen k.method) y.pc (finished_without w next gone)
        (λ v young e. let same : v ≡ receiver = subst (λ (b : Bool). if_so b (v ≡ receiver) (w v ≡ Some (builder t (length gs) (Made y.pc)))) (eq-eqb y.pc y.pc refl) e in
        subst (IsFinished z next) (sym same) (inside lawful receiver gone is_begun, without_gone w gone receiver is_begun))
        (λ x v n young e. without_keeps w gone v (builder t (length gs) (Made x)) (subst (λ (b : Bool). if_so b (v ≡ receiver) (w v ≡ Some (builder t (length gs) (Made x)))) (ne_eqb x y.pc n) e)
        (λ s. (let i : length gs ≡ suc (length gs) = ap (λ (b : Builder). b.height) s in omega (arith, i)))) y.class g.receiver (builds frozen k.method) us hs ns
        (subst (λ (o : Option (VType × ℕ)). SlotsAre (SlotOf frozen w next t (length gs) (WaitsFor receiver o) k.method g.receiver) us hs ns) (wait.begun_is ∙ y.is) s)

    resumes_young : FrameIn (in_world building z) (length gs) Runs resumed
    resumes_young =
        let before : TypeFrame = record { stack = stack_after types.Top (λ t. t) r k.types.stack k.types.locals; locals = locals_after types.Top (λ t. t) r.writes k.types.stack k.types.locals; ready = k.types.ready } in
        let same : after_start (Some (types.New y.pc, y.class)) before ≡ frame_after k.method r k.types = ap (λ o. after_start o before) (sym y.is) in
        landed z (finished_without w next gone 0 (null lawful)) (receiver_without w next t (length gs) gone (λ s. (let i : length gs ≡ suc (length gs) = ap (λ (b : Builder). b.height) s in omega (arith, i))) (builds frozen k.method) g.receiver wait.keeps.receiver)
        (subst (λ (a : TypeFrame). SlotsAre (SlotOf frozen z next t (length gs) Runs k.method g.receiver) a.stack (moved_tags r k.tags).stack (result ++ g.stack)) same (finish _ _ _ stack_waits))
        (subst (λ (a : TypeFrame). SlotsAre (SlotOf frozen z next t (length gs) Runs k.method g.receiver) a.locals (moved_tags r k.tags).locals g.locals) same (finish _ _ _ locals_wait))

  pub resumes : Steps w next t (λ z. FramesIn (in_world building z) Runs (resumed ∷ gs))
  resumes = by_start (starts k.method (makes_frozen frozen k.method) r.takes k.types.stack (suit_at c marked g k))
    where
      by_start : Starts k.method (makes_frozen frozen k.method) (started k.method.class r.takes k.types.stack) → Steps w next t (λ z. FramesIn (in_world building z) Runs (resumed ∷ gs))
      by_start (inl old) = stays w next t (λ z. FramesIn (in_world building z) Runs (resumed ∷ gs)) (resumes_old old, below_moved building g k.insn.next (result ++ g.stack) g.locals gs below)
      by_start (inr y) =
          let stay = below_kept building (without w (builder t (suc (length gs)) Begun)) next (finished_without w next (builder t (suc (length gs)) Begun)) g gs
          (λ i less v x e. without_keeps w (builder t (suc (length gs)) Begun) v (builder t i x) e (λ s. (let n : i ≡ suc (length gs) = ap (λ (b : Builder). b.height) s in omega (arith, n, less)))) below in
          drops w next t (builder t (suc (length gs)) Begun) (λ z. FramesIn (in_world building z) Runs (resumed ∷ gs)) refl (λ e. cc)
          (resumes_young y, below_moved (in_world building (without w (builder t (suc (length gs)) Begun))) g k.insn.next (result ++ g.stack) g.locals gs stay)
