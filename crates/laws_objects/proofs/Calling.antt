-- A method is called: the caller waits below the frame of the called method.
use Rattle.std.proofs.Common.{◌≡◌, ◌≢◌, ℕ, suc, ◌+◌, ◌<◌, ◌≤◌, inl, inr, Bool, true, false, not, ◌&&◌, ◌||◌, List, [], ◌∷◌, ◌++◌, length, Option, Some, None, refl, sym, ap, ◌∙◌, subst, arith, ◌==◌, slice_get, slice_index_or, reverse, take, get_or, if◌then◌else◌}
use Rattle.std.{specs.List.AllByRecursion, proofs.lemmas.{Bool.{cases_Bool, eqb-true, Decides.nat_tests}, List.length-append, Option.{get_or_from_slice_get, slice_get-get_or}}}
use Rattle.lists.proofs.ListLaws.{same_some}
use Rattle.jvm_types.specs.{CodeTable.{arguments, is_init}, Members.{MethodSite, is_static, is_init_name, is_class_init_name}, ProgramInvariant.site_in}
use Rattle.jvm_types.specs.{Verifying.{suits, new_class, is_class_of, started}, declared.{class_numbers.TheConstants.OBJECT_CLASS, code.Op.Op, op_row.{OpRow.OpRow, Want.Want}}}
use Rattle.jvm_types.{specs.declared.{op_row.Want.TheVariants.{AnObject, ToStart}, program.{MethodInfo.MethodInfo, Program.Program, Target.Target}, typing.VType.VType}, proofs.EachAfter.all_append}
use Rattle.laws_programs.{specs.{EntryLaws.receiver_count, TargetLaws.HasRow}, proofs.LocalGoing.at_index}
use Rattle.checked_program.specs.{CheckedLaws.receiver_want, FrozenPlaces.may_take, MarkedProgram.checked_part, Marks.called_method, declared.tag.Tag.Tag}
use Rattle.checked_program.{specs.declared.tag.Tag.TheVariants.{Untagged, This}, proofs.CheckedPlaces.called_fit_all}
use Rattle.machine_types.specs.Construction.{puts_owned, is_frozen_class, builds, makes_frozen, if_so, SlotByType, SlotIs, Runs, IsFresh, ReceiverIs, SlotOf, IsNoStored}
use Rattle.machine_types.specs.{Frames.{entry_frame, first_or_null}, OwnedPlaces.IsStoredNowhere, Standing.row_at, Threads.Frame, Worlds.{Made, Begun, Builder, builder, World, IsFinished, IsOwnOrFinished, with_builder}}
use Rattle.laws_threads.proofs.{Callers.row_of_call, Calls.{CallRow, deepest_first}, Landing.rules_at}
use Rattle.laws_objects.proofs.{ArrayFrames.{stack_long, slot_of, takes_clean}, ArrayMoves.not_owned, Buildings.{LawfulBuilding, in_world, FrameIn, WaitIn, BelowIn, FramesIn, null}}
use Rattle.laws_objects.proofs.BuiltEffects.{StartsNone}
use Rattle.laws_objects.proofs.CalledFrames.{call_stores, call_takes, below_moved, waits_on, caller_waits, begun_world, old_begun, young_waits, below_begun, ReceiverAt, start_slot, arguments_start, none_started}
use Rattle.laws_objects.proofs.{EnteredFrames.{ArgsOld, args_map, static_args, instance_args, static_enters, instance_enters}, KeptFrames.plain_stack, Landing.{inside_at, no_this_at}}
use Rattle.laws_objects.proofs.{Moves.{Steps, stays, StartsOld, Suit, suit_at}, Operands.{TakenOld, no_getfield, takes_old}, Slots.plainly}
use Rattle.laws_objects.proofs.WorldChanges.{finished_known, none_some, given_here, world_given, goes_given, lost_given, not_lost}
use Rattle.jvm_types.specs.declared.code.Op.TheVariants as ops
use Rattle.jvm_types.specs.declared.program.Target.TheVariants as targets
use Rattle.jvm_types.specs.declared.typing.VType.TheVariants as types

-- ---- calls

calls_take_none : (p : Program) (class : ℕ) (op : Op) (target : Target) (number k : ℕ) → called_method op target ≡ Some number → may_take p class op target k ≡ false
calls_take_none p class (ops.Invokespecial i) (targets.Method u) number k e = refl
calls_take_none p class op target number k e = cc

taken_at : (Old : ℕ → Type 0) (front : List Want) (class : ℕ) (s : List ℕ) (v : ℕ) → TakenOld Old (front ++ AnObject class ∷ []) s → slice_get s (length front) ≡ Some v → Old v
taken_at Old [] class (x ∷ s) v h e = subst Old (same_some e) h.0
taken_at Old (want ∷ front) class (x ∷ s) v h e = taken_at Old front class s v h.1 e
taken_at Old front class [] v h e = absurd (cc)

-- a static method that is called is no `<init>`
static_no_init : (p : Program) (site : MethodSite) (pc number : ℕ) (op : Op) (target : Target) (r : OpRow) (called : MethodInfo) → called_method op target ≡ Some number → slice_get p.methods number ≡ Some called → HasRow p site pc target op r
    → is_static called.flags ≡ true → is_init called ≡ false
static_no_init p site pc number (ops.Invokevirtual i) (targets.Method u) r called e there h s =
    let same : h.method ≡ called = same_some (sym h.there ∙ ap (slice_get p.methods) (same_some e) ∙ there) in
    let bad : true ≡ false = sym s ∙ sym (ap (λ (m : MethodInfo). is_static m.flags) same) ∙ h.sort in absurd (cc)
static_no_init p site pc number (ops.Invokespecial i) (targets.Method u) r called e there h s =
    let same : h.method ≡ called = same_some (sym h.there ∙ ap (slice_get p.methods) (same_some e) ∙ there) in
    let bad : true ≡ false = sym s ∙ sym (ap (λ (m : MethodInfo). is_static m.flags) same) ∙ h.sort in absurd (cc)
static_no_init p site pc number (ops.Invokestatic i) (targets.Method u) r called e there h s =
    let same : h.method ≡ called = same_some (sym h.there ∙ ap (slice_get p.methods) (same_some e) ∙ there) in
    subst (λ (m : MethodInfo). is_init m ≡ false) same (no_init (is_static h.method.flags) (is_init_name h.method.name) (is_class_init_name h.method.name) h.fits)
  where
    no_init : (a b d : Bool) → (a && not (b || d)) ≡ true → b ≡ false
    no_init true false d e = refl
    no_init a b d e = absurd (cc)
static_no_init p site pc number op target r called e there h s = absurd (let bad : None ≡ Some number = e in cc)

pub not_built : (frozen : ℕ → Bool) (m : MethodInfo) → is_init m ≡ false → builds frozen m ≡ false
not_built frozen m e = ap (λ (b : Bool). b && frozen m.class) e

built : (frozen : ℕ → Bool) (m : MethodInfo) → is_init m ≡ true → builds frozen m ≡ frozen m.class
built frozen m e = ap (λ (b : Bool). b && frozen m.class) e

pub class_frozen : (frozen : ℕ → Bool) (o : Option ℕ) (class : ℕ) → is_class_of o class ≡ true → is_frozen_class frozen o ≡ frozen class
class_frozen frozen None class e = absurd (cc)
class_frozen frozen (Some d) class e = ap frozen (eqb-true d class e)

module _ (lawful : LawfulBuilding) (f : Frame) (fs : List Frame) (k : FrameIn lawful.building (length fs) Runs f) (below : BelowIn lawful.building f fs) (number : ℕ) (called : MethodInfo) (there : slice_get lawful.c.program.methods number ≡ Some called) (calls : called_method k.stands.insn.op k.stands.target ≡ Some number) where
  open lawful use {building, design, c, marked, frozen, owning, w, next, t, is_world}

  abbrev pub CallKeeps : (args : List ℕ) → World → Type 0
  CallKeeps args z = FramesIn (in_world building z) Runs (entry_frame number called args ∷ waits_on c f k.stands ∷ fs) × IsOwnOrFinished z next t (entry_frame number called args).receiver

  abbrev m : MethodInfo
  m = k.stands.method

  abbrev r : OpRow
  r = row_at c f k.stands

  call : CallRow called r
  call = row_of_call c marked f k.stands number called calls there

  tall : length r.takes ≤ length f.stack
  tall =
      let e = (rules_at c marked f k.stands).rules.takes in
      let s = stack_long building (length fs) f k in
      grind (arith, nat_tests, e, s)

  plain_here : puts_owned owning.owned k.stands.insn.op k.stands.target ≡ false
  plain_here = call_stores owning.owned k.stands.insn.op k.stands.target number calls

  taken : TakenOld (IsFinished w next) r.takes f.stack
  taken = takes_old building (length fs) f k (null lawful) (no_getfield k.stands.insn.op (call_takes k.stands.insn.op k.stands.target number calls).0) plain_here

  taken_clean : TakenOld (IsStoredNowhere owning.stores) r.takes f.stack
  taken_clean = takes_clean building (length fs) f k (call_takes k.stands.insn.op k.stands.target number calls).0

  fits : receiver_count called + length called.args ≤ called.max_locals
  fits = called_fit_all (checked_part c) number called marked.checked there

  -- the frames below the caller
  waits_below : BelowIn building (waits_on c f k.stands) fs
  waits_below = below_moved building f f.pc (waits_on c f k.stands).stack f.locals fs below

  -- in the same world
  same_world : (args : List ℕ) → StartsOld (makes_frozen frozen m) (started m.class r.takes k.stands.types.stack) → FrameIn building (suc (length fs)) Runs (entry_frame number called args)
      → IsOwnOrFinished w next t (entry_frame number called args).receiver → Steps w next t (CallKeeps args)
  same_world args old callee known = stays w next t (CallKeeps args) ((callee, (caller_waits building (length fs) f k number calls (entry_frame number called args).receiver old, waits_below)), known)

  nothing_started : AllByRecursion StartsNone r.takes → StartsOld (makes_frozen frozen m) (started m.class r.takes k.stands.types.stack)
  nothing_started none = subst (StartsOld (makes_frozen frozen m)) (sym (none_started m.class r.takes k.stands.types.stack none)) tt

  -- ---- a static method

  calls_static : is_static called.flags ≡ true → r.takes ≡ arguments called → Steps w next t (CallKeeps (reverse (take (length r.takes) f.stack)))
  calls_static static takes =
      let init = static_no_init c.program (site_in m) k.stands.insn.pc number k.stands.insn.op k.stands.target r called calls there (rules_at c marked f k.stands).has_row static in
      let args_all : (Old : ℕ → Type 0) → TakenOld Old r.takes f.stack → ArgsOld Old called.args (reverse (take (length r.takes) f.stack)) = λ Old taken.
      subst (λ (n : ℕ). ArgsOld Old called.args (reverse (take n f.stack))) (sym (ap (length {A = Want}) takes))
      (static_args Old called f.stack (subst (λ (ws : List Want). length ws ≤ length f.stack) takes tall) (subst (λ (ws : List Want). TakenOld Old ws f.stack) takes taken)) in
      same_world (reverse (take (length r.takes) f.stack)) (nothing_started (subst (AllByRecursion StartsNone) (sym takes) (arguments_start called)))
      (static_enters building (suc (length fs)) (null lawful) number called there (reverse (take (length r.takes) f.stack)) static (not_built frozen called init) (omega (arith, fits)) (args_all (IsFinished w next) taken) (args_all (IsStoredNowhere owning.stores) taken_clean))
      (subst (IsOwnOrFinished w next t) (sym (ap (λ (b : Bool). if b then 0 else first_or_null (reverse (take (length r.takes) f.stack))) static)) (finished_known w next t 0 (null lawful)))

  -- ---- an instance method

  module _ (static : is_static called.flags ≡ false) (takes : r.takes ≡ arguments called ++ receiver_want (is_init called) called.class ∷ []) (a : ℕ) (rest : List ℕ) (at : slice_get f.stack (length (arguments called)) ≡ Some a) (args : reverse (take (length r.takes) f.stack) ≡ a ∷ rest) where
    receiver_is : (entry_frame number called (a ∷ rest)).receiver ≡ a
    receiver_is = ap (λ (b : Bool). if b then 0 else a) static

    rest_all : (Old : ℕ → Type 0) → TakenOld Old r.takes f.stack → ArgsOld Old called.args rest
    rest_all Old taken = instance_args Old called (receiver_want (is_init called) called.class) f.stack rest a (subst (λ (ws : List Want). length ws ≤ length f.stack) takes tall) (subst (λ (ws : List Want). TakenOld Old ws f.stack) takes taken)
        (ap (λ (ws : List Want). reverse (take (length ws) f.stack)) (sym takes) ∙ args)

    rest_old : ArgsOld (IsFinished w next) called.args rest
    rest_old = rest_all (IsFinished w next) taken

    rest_clean : ArgsOld (IsStoredNowhere owning.stores) called.args rest
    rest_clean = rest_all (IsStoredNowhere owning.stores) taken_clean

    one_more : 1 + length called.args ≤ called.max_locals
    one_more = let one : receiver_count called ≡ 1 = ap (λ (b : Bool). if b then 0 else 1) static in omega (arith, fits, one)

    -- a receiver that is finished
    calls_old : builds frozen called ≡ false → IsFinished w next a → IsStoredNowhere owning.stores a → StartsOld (makes_frozen frozen m) (started m.class r.takes k.stands.types.stack) → Steps w next t (CallKeeps (a ∷ rest))
    calls_old own old clean starts =
        same_world (a ∷ rest) starts (instance_enters building (suc (length fs)) (null lawful) number called there a rest static one_more rest_old (subst (λ (b : Bool). ReceiverIs w next t (suc (length fs)) b a) (sym own) old) clean rest_clean)
        (subst (IsOwnOrFinished w next t) (sym receiver_is) (finished_known w next t a old))

    -- an `<init>`
    module _ (init : is_init called ≡ true) where
      takes_start : r.takes ≡ arguments called ++ ToStart called.class ∷ []
      takes_start = takes ∙ ap (λ (b : Bool). arguments called ++ receiver_want b called.class ∷ []) init

      place : ReceiverAt m (SlotOf frozen w next t (length fs) Runs m f.receiver) m.class called.class (length (arguments called)) k.stands.types.stack k.stands.tags.stack f.stack (started m.class (arguments called ++ ToStart called.class ∷ []) k.stands.types.stack)
      place = start_slot m (SlotOf frozen w next t (length fs) Runs m f.receiver) m.class called.class (arguments called) k.stands.types.stack k.stands.tags.stack f.stack (arguments_start called)
          (omega (arith, tall, ap (length {A = Want}) takes_start, length-append (arguments called) (ToStart called.class ∷ []))) (plain_stack building (length fs) f k plain_here)
          (subst (λ (ws : List Want). Suit m ws k.stands.types.stack) takes_start (suit_at c marked f k.stands))

      -- in an `<init>` of a frozen class it is not `this`
      other_tag : builds frozen m ≡ true → (g : Tag) → slice_index_or k.stands.tags.stack (length (arguments called)) Untagged ≡ g → g ≢ This
      other_tag own g e s =
          let inside : length (arguments called) < length r.takes = omega (arith, ap (length {A = Want}) takes_start, length-append (arguments called) (ToStart called.class ∷ [])) in
          let may = (inside_at design f k.stands own).taken k.stands.number k.stands.insn k.stands.target k.stands.tags k.stands.at (length (arguments called)) inside (e ∙ s) in
          let free = calls_take_none c.program m.class k.stands.insn.op k.stands.target number (length (arguments called)) calls in
          (let bad : true ≡ false = sym may ∙ free in cc)

      -- so the slot goes by its type, which is not `this` there
      plain : (own : Bool) → builds frozen m ≡ own → (u : VType) (g : Tag) (v : ℕ) → (own ≡ true → g ≢ This) → SlotIs (IsFinished w next) (IsFresh w t (length fs) Runs) own (makes_frozen frozen m) f.receiver u g v
          → (own ≡ true → u ≢ types.This) × SlotByType (IsFinished w next) (IsFresh w t (length fs) Runs) (makes_frozen frozen m) u v
      plain true e u g v n s = let p = plainly (IsFinished w next) (IsFresh w t (length fs) Runs) (makes_frozen frozen m) f.receiver u g v (n refl) s in (λ o. p.0, p.1)
      plain false e u g v n s = (λ o. absurd (let bad : false ≡ true = o in cc), s)

      begun_is : (o : Option (VType × ℕ)) → started m.class (arguments called ++ ToStart called.class ∷ []) k.stands.types.stack ≡ o → started m.class r.takes k.stands.types.stack ≡ o
      begun_is o e = ap (λ (ws : List Want). started m.class ws k.stands.types.stack) takes_start ∙ e

      -- and it was stored nowhere
      receiver_clean : (u : VType) → slice_get k.stands.types.stack (length (arguments called)) ≡ Some u → IsNoStored owning.stores u a
      receiver_clean u type =
          let n : ℕ = length (arguments called) in
          let inside : length (arguments called) < length r.takes = omega (arith, ap (length {A = Want}) takes_start, length-append (arguments called) (ToStart called.class ∷ [])) in
          let slot = slot_of building (length fs) f k n in
          subst (λ (x : VType). IsNoStored owning.stores x a) (get_or_from_slice_get k.stands.types.stack n u types.Top type)
          (subst (IsNoStored owning.stores (slice_index_or k.stands.types.stack n types.Top)) (get_or_from_slice_get f.stack n a 0 at)
          (slot.other (not_owned c marked owning.stores f k.stands n inside ((call_takes k.stands.insn.op k.stands.target number calls).1 n))))

      -- what a `new` of the caller made
      calls_new : (y : Bool) → frozen called.class ≡ y → (q : ℕ) → is_class_of (new_class m.code m.targets q) called.class ≡ true → started m.class r.takes k.stands.types.stack ≡ Some (types.New q, called.class)
          → SlotByType (IsFinished w next) (IsFresh w t (length fs) Runs) (makes_frozen frozen m) (types.New q) a → IsStoredNowhere owning.stores a → Steps w next t (CallKeeps (a ∷ rest))
      calls_new false e q of begun s clean =
          let young : makes_frozen frozen m q ≡ false = class_frozen frozen (new_class m.code m.targets q) called.class of ∙ e in
          calls_old (built frozen called init ∙ e) (subst (λ (b : Bool). if_so b (w a ≡ Some (builder t (length fs) (Made q))) (IsFinished w next a)) young s) clean
          (subst (StartsOld (makes_frozen frozen m)) (sym begun) young)
      calls_new true e q of begun s clean =
          let young : makes_frozen frozen m q ≡ true = class_frozen frozen (new_class m.code m.targets q) called.class of ∙ e in
          let is : w a ≡ Some (builder t (length fs) (Made q)) = subst (λ (b : Bool). if_so b (w a ≡ Some (builder t (length fs) (Made q))) (IsFinished w next a)) young s in
          let now : begun_world building (length fs) a q is_world.one is a ≡ Some (builder t (suc (length fs)) Begun) = given_here w a (builder t (suc (length fs)) Begun) in
          let old = old_begun building (length fs) a q is_world.one is in
          let inside = is_world.inside a (builder t (length fs) (Made q)) is in
          record {
            later = with_builder w a (builder t (suc (length fs)) Begun);
            goes = goes_given w next next t a (builder t (suc (length fs)) Begun) (omega arith) refl (λ o. none_some (w a) (builder t (length fs) (Made q)) o.1 is) (λ j h. (let same : builder t (length fs) (Made q) ≡ j = cc in ap (λ (b : Builder). b.thread) (sym same)));
            world = λ least z. let i = z.inside a (builder t (length fs) (Made q)) is in world_given w least next next a (builder t (suc (length fs)) Begun) z (omega arith) i.0 i.1;
            lost = lost_given w a (builder t (suc (length fs)) Begun) (λ b h. not_lost (w a) (builder t (length fs) (Made q)) b (λ e. cc) is h);
            keeps = (
              (
                instance_enters (in_world building (with_builder w a (builder t (suc (length fs)) Begun))) (suc (length fs)) (old 0 (null lawful)) number called there a rest static one_more (args_map (IsFinished w next) (IsFinished (with_builder w a (builder t (suc (length fs)) Begun)) next) old called.args rest rest_old)
                    (subst (λ (b : Bool). ReceiverIs (with_builder w a (builder t (suc (length fs)) Begun)) next t (suc (length fs)) b a) (sym (built frozen called init ∙ e)) now) clean rest_clean,
                (
                  subst (λ (x : ℕ). WaitIn (in_world building (with_builder w a (builder t (suc (length fs)) Begun))) (length fs) number x (waits_on c f k.stands)) (sym receiver_is)
                      (young_waits building (length fs) a q is_world.one is f k number called.class calls begun),
                  below_begun building (length fs) a q is_world.one is (waits_on c f k.stands) fs refl waits_below,
                ),
              ),
              subst (IsOwnOrFinished (with_builder w a (builder t (suc (length fs)) Begun)) next t) (sym receiver_is) (inside.1, λ b h. (let same : builder t (suc (length fs)) Begun ≡ b = cc in ap (λ (x : Builder). x.thread) (sym same))),
            );
          }

      -- on `this`
      calls_this : (y : Bool) → frozen called.class ≡ y → started m.class r.takes k.stands.types.stack ≡ Some (types.This, m.class) → slice_get k.stands.types.stack (length (arguments called)) ≡ Some types.This
          → ((called.class == m.class) || (called.class == OBJECT_CLASS)) ≡ true → (builds frozen m ≡ true → ⊥) → IsFinished w next a → IsStoredNowhere owning.stores a → Steps w next t (CallKeeps (a ∷ rest))
      calls_this false e begun type suits_it own old clean = calls_old (built frozen called init ∙ e) old clean (subst (StartsOld (makes_frozen frozen m)) (sym begun) tt)
      calls_this true e begun type suits_it own old clean = absurd (elim (cases_Bool (called.class == m.class)) [
        | inl q ↦
            let same : called.class ≡ m.class = grind (arith, nat_tests, q) in
            elim (cases_Bool (is_init m)) [
              | inl i ↦ own (built frozen m i ∙ sym (ap frozen same) ∙ e)
              | inr i ↦ at_index (λ u. u ≢ types.This) k.stands.types.stack (length (arguments called)) types.This (no_this_at design f k.stands i).stack type refl
            ]
        | inr q ↦
            let here : (false || (called.class == OBJECT_CLASS)) ≡ true = rw q at suits_it in
            let object : called.class ≡ OBJECT_CLASS = grind (arith, nat_tests, here) in
            let file : 17 ≤ called.class = (marked.checked.program.methods number called there).class.0 in
            omega (arith, object, file)
      ])

      calls_init : Steps w next t (CallKeeps (a ∷ rest))
      calls_init = by_type place.type refl place.suits_it
        where
          by_plain : (builds frozen m ≡ true → place.type ≢ types.This) × SlotByType (IsFinished w next) (IsFresh w t (length fs) Runs) (makes_frozen frozen m) place.type a
          by_plain = subst (λ (v : ℕ). (builds frozen m ≡ true → place.type ≢ types.This) × SlotByType (IsFinished w next) (IsFresh w t (length fs) Runs) (makes_frozen frozen m) place.type v) (same_some (sym place.value_is ∙ at))
              (plain (builds frozen m) refl place.type place.tag place.value (λ own. other_tag own place.tag place.tag_is) place.slot)

          by_type : (u : VType) → place.type ≡ u → suits m (ToStart called.class) u ≡ true → Steps w next t (CallKeeps (a ∷ rest))
          by_type types.This e s =
              calls_this (frozen called.class) refl (begun_is (Some (types.This, m.class)) (place.begun ∙ ap (λ (x : VType). started m.class (ToStart called.class ∷ []) (x ∷ [])) e)) (place.type_is ∙ ap (λ (x : VType). Some x) e) s
              (λ own. by_plain.0 own e) (subst (λ (x : VType). SlotByType (IsFinished w next) (IsFresh w t (length fs) Runs) (makes_frozen frozen m) x a) e by_plain.1) (receiver_clean types.This (place.type_is ∙ ap (λ (x : VType). Some x) e))
          by_type (types.New q) e s =
              calls_new (frozen called.class) refl q s (begun_is (Some (types.New q, called.class)) (place.begun ∙ ap (λ (x : VType). started m.class (ToStart called.class ∷ []) (x ∷ [])) e))
              (subst (λ (x : VType). SlotByType (IsFinished w next) (IsFresh w t (length fs) Runs) (makes_frozen frozen m) x a) e by_plain.1) (receiver_clean (types.New q) (place.type_is ∙ ap (λ (x : VType). Some x) e))
          by_type u e s = absurd (cc)

    calls_instance : Steps w next t (CallKeeps (a ∷ rest))
    calls_instance = elim (cases_Bool (is_init called)) [
      | inl init ↦ calls_init init
      | inr init ↦
          let takes_object : r.takes ≡ arguments called ++ AnObject called.class ∷ [] = takes ∙ ap (λ (b : Bool). arguments called ++ receiver_want b called.class ∷ []) init in
          calls_old (not_built frozen called init) (taken_at (IsFinished w next) (arguments called) called.class f.stack a (subst (λ (ws : List Want). TakenOld (IsFinished w next) ws f.stack) takes_object taken) at)
          (taken_at (IsStoredNowhere owning.stores) (arguments called) called.class f.stack a (subst (λ (ws : List Want). TakenOld (IsStoredNowhere owning.stores) ws f.stack) takes_object taken_clean) at)
          (nothing_started (subst (AllByRecursion StartsNone) (sym takes_object) (all_append StartsNone (arguments called) (AnObject called.class ∷ []) (arguments_start called) (tt, tt))))
    ]

  pub calls_it : Steps w next t (CallKeeps (reverse (take (length r.takes) f.stack)))
  calls_it = elim call.by [
    | inl s ↦ let takes = takes_are (arguments called ++ receiver_want (is_init called) called.class ∷ []) s.1 in
        let count : length r.takes ≡ suc (length (arguments called)) = omega (arith, ap (length {A = Want}) takes, length-append (arguments called) (receiver_want (is_init called) called.class ∷ [])) in
        let v : (v : ℕ) × (slice_get f.stack (length (arguments called)) ≡ Some v) = (get_or f.stack (length (arguments called)) 0, slice_get-get_or f.stack (length (arguments called)) 0 (omega (arith, tall, count))) in
        let deepest = deepest_first (length (arguments called)) f.stack v.0 v.1 in
        let args : reverse (take (length r.takes) f.stack) ≡ v.0 ∷ deepest.0 = ap (λ (n : ℕ). reverse (take n f.stack)) count ∙ deepest.1 in
        subst (λ (xs : List ℕ). Steps w next t (CallKeeps xs)) (sym args) (calls_instance s.0 takes v.0 deepest.0 v.1 args)
    | inr s ↦ calls_static s.0 (takes_are (arguments called) s.1)
  ]
    where
      takes_are : (ws : List Want) → call.takes ≡ ws → r.takes ≡ ws
      takes_are ws e = ap (λ (x : OpRow). x.takes) call.is ∙ e
