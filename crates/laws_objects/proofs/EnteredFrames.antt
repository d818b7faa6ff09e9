-- The frame of a method that is called, and that of a root.
use Rattle.std.proofs.Common.{◌≡◌, ℕ, zero, suc, ◌+◌, ◌-◌, ◌≤◌, Bool, true, false, List, [], ◌∷◌, ◌++◌, length, map, replicate, Some, refl, sym, ap, ◌∙◌, subst, arith, slice_get, reverse, take, if◌then◌else◌}
use Rattle.std.{specs.List.AllZip, proofs.lemmas.List.{length-map, reverse-append}}
use Rattle.lists.proofs.TestLaws.{both_are_true}
use Rattle.jvm_types.specs.{CodeTable.{type_of, want_of, arguments, is_init}, Members.is_static, declared.{code.Insn.Insn, op_row.Want.Want, program.Kind.{Kind, TheVariants.Ref}}}
use Rattle.jvm_types.specs.declared.{program.{MethodInfo.MethodInfo, Target.Target}, typing.VType.VType}
use Rattle.laws_programs.proofs.{CodeOrder.one_number, LocalGoing.begins}
use Rattle.checked_program.specs.{LockTags.{TagShape, entry_tags}, TaggedCode.IsAt, declared.tag.Tag.{Tag, TheVariants.{Untagged, This}}}
use Rattle.machine_types.specs.{Construction.{builds, makes_frozen, SlotIs, SlotsAre, Runs, IsFresh, ReceiverIs, SlotOf, IsNoStored, SlotsFrom}, Frames.{entry_frame, first_or_null}, OwnedPlaces.{Stores, IsStoredNowhere}, Standing.tags_of}
use Rattle.machine_types.specs.Worlds.{IsFinished}
use Rattle.laws_threads.proofs.{Lists.{zip_reverse, reverse_map}, MarkedMethods.method_at}
use Rattle.laws_objects.proofs.{Buildings.{Building, FrameIn}, Landing.land, Operands.{WantOld, TakenOld}, PutPlaces.first_plain, Slots.{top_slot, made_slot, ref_slot}}
use Rattle.jvm_types.specs.Types as types
use Rattle.jvm_types.specs.declared.typing.VType.TheVariants as vtypes

-- ---- arguments

-- a reference is finished, or null
abbrev pub ArgsOld : (ℕ → Type 0) → List Kind → List ℕ → Type 0
ArgsOld Old [] [] = Unit {0}
ArgsOld Old (Ref class ∷ args) (v ∷ vs) = Old v × ArgsOld Old args vs
ArgsOld Old (kind ∷ args) (v ∷ vs) = ArgsOld Old args vs
ArgsOld Old args vs = ⊥

pub args_map : (Old More : ℕ → Type 0) → ((v : ℕ) → Old v → More v) → (args : List Kind) (vs : List ℕ) → ArgsOld Old args vs → ArgsOld More args vs
args_map Old More f [] [] h = tt
args_map Old More f (Ref class ∷ args) (v ∷ vs) h = (f v h.0, args_map Old More f args vs h.1)
args_map Old More f (kind ∷ args) (v ∷ vs) h = args_map Old More f args vs h
args_map Old More f args vs h = absurd h

module _ (Old : ℕ → Type 0) where
  taken_zip : (wants : List Want) (vs : List ℕ) → length wants ≤ length vs → TakenOld Old wants vs → AllZip (WantOld Old) wants (take (length wants) vs)
  taken_zip [] vs l h = tt
  taken_zip (want ∷ wants) (v ∷ vs) l h = (h.0, taken_zip wants vs (omega (arith, l)) h.1)
  taken_zip (want ∷ wants) [] l h = absurd (omega (arith, l))

  in_order : (wants : List Want) (s : List ℕ) → length wants ≤ length s → TakenOld Old wants s → AllZip (WantOld Old) (reverse wants) (reverse (take (length wants) s))
  in_order wants s l h = zip_reverse (WantOld Old) wants (take (length wants) s) (taken_zip wants s l h)

  args_zip : (args : List Kind) (vs : List ℕ) → AllZip (WantOld Old) (map want_of args) vs → ArgsOld Old args vs
  args_zip [] [] f = tt
  args_zip (Ref class ∷ args) (v ∷ vs) f = (f.0, args_zip args vs f.1)
  args_zip (kind ∷ args) (v ∷ vs) f = args_zip args vs f.1
  args_zip args vs f = absurd f

  pub static_args : (called : MethodInfo) (s : List ℕ) → length (arguments called) ≤ length s → TakenOld Old (arguments called) s → ArgsOld Old called.args (reverse (take (length (arguments called)) s))
  static_args called s l h = args_zip called.args _ (subst (λ (ws : List Want). AllZip (WantOld Old) ws (reverse (take (length (arguments called)) s))) (reverse_map want_of called.args) (in_order (arguments called) s l h))

  -- the receiver stands first
  pub instance_args : (called : MethodInfo) (want : Want) (s args : List ℕ) (a : ℕ) → length (arguments called ++ want ∷ []) ≤ length s → TakenOld Old (arguments called ++ want ∷ []) s
      → reverse (take (length (arguments called ++ want ∷ [])) s) ≡ a ∷ args → ArgsOld Old called.args args
  instance_args called want s args a l h is =
      let wants_in_order : reverse (arguments called ++ want ∷ []) ≡ want ∷ map want_of called.args = reverse-append (arguments called) (want ∷ []) ∙ ap (λ (ws : List Want). want ∷ ws) (reverse_map want_of called.args) in
      let all : AllZip (WantOld Old) (want ∷ map want_of called.args) (a ∷ args) = subst (λ (vs : List ℕ). AllZip (WantOld Old) (want ∷ map want_of called.args) vs) is
      (subst (λ (ws : List Want). AllZip (WantOld Old) ws (reverse (take (length (arguments called ++ want ∷ [])) s))) wants_in_order (in_order (arguments called ++ want ∷ []) s l h)) in
      args_zip called.args args all.1

module _ (Old : ℕ → Type 0) (null : Old 0) (Fresh : ℕ → ℕ → Type 0) (own : Bool) (young : ℕ → Bool) (receiver : ℕ) where
  abbrev R : VType → Tag → ℕ → Type 0
  R = SlotIs Old Fresh own young receiver

  rest_slots : (n : ℕ) → SlotsAre R (replicate n vtypes.Top) (replicate n Untagged) (replicate n 0)
  rest_slots zero = tt
  rest_slots (suc n) = (top_slot Old null Fresh own young receiver own, rest_slots n)

  pub args_slots : (args : List Kind) (vs : List ℕ) (n : ℕ) → length args ≤ n → ArgsOld Old args vs
      → SlotsAre R (map type_of args ++ replicate (n - length args) vtypes.Top) (replicate n Untagged) (vs ++ replicate (n - length vs) 0)
  args_slots [] [] n l h = let e : n - 0 ≡ n = omega arith in rw e (rest_slots n)
  args_slots (Ref c ∷ args) (v ∷ vs) (suc n) l h = let e : suc n - suc (length args) ≡ n - length args = omega arith in let f : suc n - suc (length vs) ≡ n - length vs = omega arith in rw (e, f) (ref_slot Old null Fresh own young receiver own c v h.0, args_slots args vs n (omega (arith, l)) h.1)
  args_slots (kind ∷ args) (v ∷ vs) (suc n) l h = let e : suc n - suc (length args) ≡ n - length args = omega arith in let f : suc n - suc (length vs) ≡ n - length vs = omega arith in rw (e, f) (made_slot Old null Fresh own young receiver own vtypes.Int v (λ e. cc) tt, args_slots args vs n (omega (arith, l)) h)
  args_slots args vs n l h = absurd (first_of (assumption, omega (arith, l)))

-- ---- none of them was stored

module _ (stores : Stores) where
  rest_none : (n k : ℕ) → SlotsFrom (λ place. IsNoStored stores) k (replicate n vtypes.Top) (replicate n 0)
  rest_none zero k = tt
  rest_none (suc n) k = (tt, rest_none n (suc k))

  args_none : (args : List Kind) (vs : List ℕ) (n k : ℕ) → length args ≤ n → ArgsOld (IsStoredNowhere stores) args vs
      → SlotsFrom (λ place. IsNoStored stores) k (map type_of args ++ replicate (n - length args) vtypes.Top) (vs ++ replicate (n - length vs) 0)
  args_none [] [] n k l h = let e : n - 0 ≡ n = omega arith in rw e (rest_none n k)
  args_none (Ref c ∷ args) (v ∷ vs) (suc n) k l h = let e : suc n - suc (length args) ≡ n - length args = omega arith in let f : suc n - suc (length vs) ≡ n - length vs = omega arith in rw (e, f) (h.0, args_none args vs n (suc k) (omega (arith, l)) h.1)
  args_none (kind ∷ args) (v ∷ vs) (suc n) k l h = let e : suc n - suc (length args) ≡ n - length args = omega arith in let f : suc n - suc (length vs) ≡ n - length vs = omega arith in rw (e, f) (tt, args_none args vs n (suc k) (omega (arith, l)) h)
  args_none args vs n k l h = absurd (first_of (assumption, omega (arith, l)))

  receiver_none : (class : ℕ) (init : Bool) (a : ℕ) → IsStoredNowhere stores a → IsNoStored stores (if init then vtypes.This else vtypes.Ref class) a
  receiver_none class true a h = h
  receiver_none class false a h = h

-- ---- the frame

module _ (building : Building) (h : ℕ) (null : IsFinished building.w building.next 0) (number : ℕ) (called : MethodInfo) (there : slice_get building.c.program.methods number ≡ Some called) where
  open building use {design, c, marked, frozen, are, owning, owns, w, next, t}

  is_first : (j : ℕ) (other : Insn) (target : Target) (u : TagShape) → IsAt c.program (tags_of c) number j called other target u → other.pc ≡ 0 → j ≡ 0
  is_first j other target u at starts =
      let laid = (method_at c marked number called there).holds.laid in
      let b = begins called laid in
      let first : slice_get called.code 0 ≡ Some b.0 = ap (λ (code : List Insn). slice_get code 0) b.2 in
      one_number called j 0 other b.0 laid at.in_code first (starts ∙ sym b.3)

  -- with the slots of its locals
  enters : (args : List ℕ) → ReceiverIs w next t h (builds frozen called) (entry_frame number called args).receiver
      → SlotsAre (SlotOf frozen w next t h Runs called (entry_frame number called args).receiver) (types.entry_type_frame called).locals (entry_tags called).locals (entry_frame number called args).locals
      → SlotsFrom (λ place. IsNoStored owning.stores) 0 (types.entry_type_frame called).locals (entry_frame number called args).locals
      → FrameIn building h Runs (entry_frame number called args)
  enters args receiver locals none =
      let at = method_at c marked number called there in
      land building h null false (entry_frame number called args) called at.frames at.tags (types.entry_type_frame called) (entry_tags called) there at.its_types at.its_tags at.holds.types.entry at.holds.sound.entry
      (λ own j other next' u at starts. let parts = both_are_true (is_init called) (frozen called.class) own in
      (are.those called.class parts.1 number called there refl parts.0).entered other next' u
      (subst (λ (i : ℕ). IsAt c.program (tags_of c) number i called other next' u) (is_first j other next' u at starts) at))
      (record {
        put = λ j other next u at starts. first_plain c marked owning owns number j called other next u at (is_first j other next u at starts);
        arrays = λ j other next u at starts. tt;
        locals = none;
      })
      receiver tt locals

  -- a static method, also a root
  pub static_enters : (args : List ℕ) → is_static called.flags ≡ true → builds frozen called ≡ false → length called.args ≤ called.max_locals → ArgsOld (IsFinished w next) called.args args → ArgsOld (IsStoredNowhere owning.stores) called.args args → FrameIn building h Runs (entry_frame number called args)
  static_enters args static own few old clean =
      enters args
      (subst (λ (b : Bool). ReceiverIs w next t h b (entry_frame number called args).receiver) (sym own) (subst (IsFinished w next) (sym (ap (λ (b : Bool). if b then 0 else first_or_null args) static)) null))
      (subst (λ (gs : List Tag). SlotsAre (SlotOf frozen w next t h Runs called (entry_frame number called args).receiver) (types.entry_type_frame called).locals gs (entry_frame number called args).locals) (sym tags_are)
      (subst (λ (us : List VType). SlotsAre (SlotOf frozen w next t h Runs called (entry_frame number called args).receiver) us (replicate called.max_locals Untagged) (entry_frame number called args).locals) (sym types_are)
      (args_slots (IsFinished w next) null (IsFresh w t h Runs) (builds frozen called) (makes_frozen frozen called) (entry_frame number called args).receiver called.args args called.max_locals few old)))
      (subst (λ (us : List VType). SlotsFrom (λ place. IsNoStored owning.stores) 0 us (entry_frame number called args).locals) (sym types_are) (args_none owning.stores called.args args called.max_locals 0 few clean))
    where
      tags_are : (entry_tags called).locals ≡ replicate called.max_locals Untagged
      tags_are = ap (λ (b : Bool). if b then replicate called.max_locals Untagged else This ∷ replicate (called.max_locals - 1) Untagged) static

      types_are : (types.entry_type_frame called).locals ≡ map type_of called.args ++ replicate (called.max_locals - length called.args) vtypes.Top
      types_are = let l = length-map called.args type_of in
          ap (λ (b : Bool). types.filled called.max_locals ((if b then [] else (if is_init called then vtypes.This else vtypes.Ref called.class) ∷ []) ++ map type_of called.args)) static
          ∙ ap (λ (n : ℕ). map type_of called.args ++ replicate (called.max_locals - n) vtypes.Top) l

  abbrev Is : ℕ → VType → Tag → ℕ → Type 0
  Is receiver = SlotOf frozen w next t h Runs called receiver

  abbrev first : VType
  first = if is_init called then vtypes.This else vtypes.Ref called.class

  first_slot : (own init : Bool) (a : ℕ) → ReceiverIs w next t h own a → SlotIs (IsFinished w next) (IsFresh w t h Runs) own (makes_frozen frozen called) a (if init then vtypes.This else vtypes.Ref called.class) This a
  first_slot true init a r = refl
  first_slot false true a r = r
  first_slot false false a r = r

  -- of an instance: an `<init>` that is begun, or any other
  pub instance_enters : (a : ℕ) (args : List ℕ) → is_static called.flags ≡ false → 1 + length called.args ≤ called.max_locals → ArgsOld (IsFinished w next) called.args args → ReceiverIs w next t h (builds frozen called) a → IsStoredNowhere owning.stores a → ArgsOld (IsStoredNowhere owning.stores) called.args args
      → FrameIn building h Runs (entry_frame number called (a ∷ args))
  instance_enters a args static few old stands a_clean clean =
      enters (a ∷ args) (subst (ReceiverIs w next t h (builds frozen called)) (sym receiver) stands)
      (subst (λ (gs : List Tag). SlotsAre (Is (entry_frame number called (a ∷ args)).receiver) (types.entry_type_frame called).locals gs (entry_frame number called (a ∷ args)).locals) (sym tags_are)
      (subst (λ (us : List VType). SlotsAre (Is (entry_frame number called (a ∷ args)).receiver) us (This ∷ replicate (called.max_locals - 1) Untagged) (entry_frame number called (a ∷ args)).locals) (sym types_are)
      (subst (λ (vs : List ℕ). SlotsAre (Is (entry_frame number called (a ∷ args)).receiver) (first ∷ map type_of called.args ++ replicate (called.max_locals - 1 - length called.args) vtypes.Top) (This ∷ replicate (called.max_locals - 1) Untagged) vs) (sym values_are) (
        subst (λ (x : ℕ). SlotIs (IsFinished w next) (IsFresh w t h Runs) (builds frozen called) (makes_frozen frozen called) x first This a) (sym receiver) (first_slot (builds frozen called) (is_init called) a stands),
        args_slots (IsFinished w next) null (IsFresh w t h Runs) (builds frozen called) (makes_frozen frozen called) (entry_frame number called (a ∷ args)).receiver called.args args (called.max_locals - 1) (omega (arith, few)) old,
      ))))
      (subst (λ (us : List VType). SlotsFrom (λ place. IsNoStored owning.stores) 0 us (entry_frame number called (a ∷ args)).locals) (sym types_are)
      (subst (λ (vs : List ℕ). SlotsFrom (λ place. IsNoStored owning.stores) 0 (first ∷ map type_of called.args ++ replicate (called.max_locals - 1 - length called.args) vtypes.Top) vs) (sym values_are)
      (receiver_none owning.stores called.class (is_init called) a a_clean, args_none owning.stores called.args args (called.max_locals - 1) 1 (omega (arith, few)) clean)))
    where
      receiver : (entry_frame number called (a ∷ args)).receiver ≡ a
      receiver = ap (λ (b : Bool). if b then 0 else a) static

      tags_are : (entry_tags called).locals ≡ This ∷ replicate (called.max_locals - 1) Untagged
      tags_are = ap (λ (b : Bool). if b then replicate called.max_locals Untagged else This ∷ replicate (called.max_locals - 1) Untagged) static

      types_are : (types.entry_type_frame called).locals ≡ first ∷ map type_of called.args ++ replicate (called.max_locals - 1 - length called.args) vtypes.Top
      types_are = let l = length-map called.args type_of in
          ap (λ (b : Bool). types.filled called.max_locals ((if b then [] else first ∷ []) ++ map type_of called.args)) static
          ∙ ap (λ (n : ℕ). first ∷ map type_of called.args ++ replicate n vtypes.Top) (omega (arith, l))

      values_are : (entry_frame number called (a ∷ args)).locals ≡ a ∷ args ++ replicate (called.max_locals - 1 - length args) 0
      values_are = ap (λ (n : ℕ). a ∷ args ++ replicate n 0) (omega arith)
