-- The frame that a call makes has the types of the called method's start.
use Rattle.std.{specs.List.AllZip, proofs.Common.{◌≡◌, ℕ, zero, suc, ◌-◌, ◌<◌, ◌≤◌, ◌⊎◌, inl, inr, Bool, true, false, List, [], ◌∷◌, ◌++◌, length, Some, ap, sym, subst, ◌∙◌, arith, slice_get, map}}
use Rattle.std.proofs.{Common.{reverse, take, replicate, if◌then◌else◌}, lemmas.{Bool.cond_both, List.{reverse-append, length-append}}}
use Rattle.jvm_types.specs.{CodeTable.{want_of, type_of, arguments, is_init}, Members.is_static, Types.{TypeFrame, filled, receiver_types}, declared.op_row.{OpRow.OpRow, Want.Want}}
use Rattle.jvm_types.{specs.declared.{program.{Kind.Kind, MethodInfo.MethodInfo}, typing.{VType.{VType, TheVariants.{Ref, This, Top}}}}, proofs.{ScopeLaws.zip_append, TypeOrder.subclass_self}}
use Rattle.laws_programs.proofs.ClassTreeLaws.{files_alone}
use Rattle.checked_program.specs.{CheckedLaws.receiver_want, LockTags.entry_tags, MarkedProgram.{MarkedProgram, IsMarked}}
use Rattle.laws_sections.proofs.HiddenThis.{long_arguments}
use Rattle.machine_types.specs.{Frames.entry_frame, Typed.{Classes, Holds, FrameHolds}}
use Rattle.laws_threads.{specs.Allowed.{WantHolds, TakenHold}, proofs.{Calls.{CallRow, HasReceiver, deepest_first}, Landing.land, MarkedMethods.method_at}}
use Rattle.laws_threads.proofs.{Lists.{zip_length, zip_reverse, reverse_map}, Values.ValuesHold}
use Rattle.jvm_types.specs.Types as types
use Rattle.jvm_types.specs.declared.program.Kind.TheVariants as kinds

-- ---- arguments

module _ (m : MethodInfo) (is : Classes) where
  taken_zip : (wants : List Want) (s : List ℕ) → TakenHold m is wants s → AllZip (WantHolds m is) wants (take (length wants) s)
  taken_zip [] s h = tt
  taken_zip (want ∷ wants) (v ∷ s) h = (h.0, taken_zip wants s h.1)
  taken_zip (want ∷ wants) [] h = absurd h

  -- the values that a row takes, in order
  in_order : (wants : List Want) (s : List ℕ) → TakenHold m is wants s → AllZip (WantHolds m is) (reverse wants) (reverse (take (length wants) s))
  in_order wants s h = zip_reverse (WantHolds m is) wants (take (length wants) s) (taken_zip wants s h)

  module _ (called : MethodInfo) where
    zip_fill : (n : ℕ) → AllZip (Holds called is) (replicate n Top) (replicate n 0)
    zip_fill zero = tt
    zip_fill (suc n) = (tt, zip_fill n)

    kind_arg : (kind : Kind) (v : ℕ) → WantHolds m is (want_of kind) v → Holds called is (type_of kind) v
    kind_arg kinds.Int v h = h
    kind_arg kind v h = h

    kind_args : (args : List Kind) (s : List ℕ) → AllZip (WantHolds m is) (map want_of args) s → AllZip (Holds called is) (map type_of args) s
    kind_args [] [] h = h
    kind_args (k ∷ ks) (v ∷ s) h = (kind_arg k v h.0, kind_args ks s h.1)
    kind_args ks s h = absurd (assumption)

    -- the wants of a call, in order: the receiver, then the arguments
    wants_in_order : (want : Want) → reverse (arguments called ++ want ∷ []) ≡ want ∷ map want_of called.args
    wants_in_order want = reverse-append (arguments called) (want ∷ []) ∙ ap (λ (ws : List Want). want ∷ ws) (reverse_map want_of called.args)

    -- the locals that begin with these values
    pub locals_filled : (ts : List VType) (vs : List ℕ) → AllZip (Holds called is) ts vs → AllZip (Holds called is) (filled called.max_locals ts) (vs ++ replicate (called.max_locals - length vs) 0)
    locals_filled ts vs zip =
        zip_append (Holds called is) ts (replicate (called.max_locals - length ts) Top) vs (replicate (called.max_locals - length vs) 0) zip
        (subst (λ (n : ℕ). AllZip (Holds called is) (replicate (called.max_locals - length ts) Top) (replicate (called.max_locals - n) 0)) (zip_length (Holds called is) ts vs zip)
        (zip_fill (called.max_locals - length ts)))

    -- the values of the frame of a static method
    pub static_values : (number : ℕ) (vs : List ℕ) → is_static called.flags ≡ true → AllZip (Holds called is) (map type_of called.args) vs → ValuesHold called is (types.entry_type_frame called) (entry_frame number called vs)
    static_values number vs s zip = record {
      stack = tt;
      locals = subst (λ (b : Bool). AllZip (Holds called is) (filled called.max_locals ((if b then [] else (if is_init called then This else Ref called.class) ∷ []) ++ map type_of called.args)) (vs ++ replicate (called.max_locals - length vs) 0))
          (sym s) (locals_filled (map type_of called.args) vs zip);
      receiver = λ e. absurd (let bad : true ≡ false = sym s ∙ e in cc);
    }

    -- those of the frame of an instance method
    instance_values : (number v : ℕ) (args : List ℕ) → is_static called.flags ≡ false → is called.class v → AllZip (Holds called is) (map type_of called.args) args
        → ValuesHold called is (types.entry_type_frame called) (entry_frame number called (v ∷ args))
    instance_values number v args s k zip = record {
      stack = tt;
      locals = subst (λ (b : Bool). AllZip (Holds called is) (filled called.max_locals ((if b then [] else (if is_init called then This else Ref called.class) ∷ []) ++ map type_of called.args)) ((v ∷ args) ++ replicate (called.max_locals - length (v ∷ args)) 0))
          (sym s) (locals_filled ((if is_init called then This else Ref called.class) ∷ map type_of called.args) (v ∷ args) (cond_both (is_init called) This (Ref called.class) (λ t. Holds called is t v) (λ e. k) (λ e. inr (called.class, k, subclass_self called.class)), zip));
      receiver = λ e. subst (λ (b : Bool). is called.class (if b then 0 else v)) (sym s) k;
    }

    -- ---- a call

    module _ (file : 17 ≤ called.class) where
      receiver_is : (b : Bool) (v : ℕ) → WantHolds m is (receiver_want b called.class) v → 0 < v → is called.class v
      receiver_is true v (inl k) some = k
      receiver_is true v (inr e) some = absurd (omega (arith, e, file))
      receiver_is false v (inl z) some = absurd (omega (arith, z, some))
      receiver_is false v (inr k) some = subst (λ (d : ℕ). is d v) (files_alone k.0 called.class file k.2) k.1

      pub call_values : (number : ℕ) (r : OpRow) (s : List ℕ) → CallRow called r → TakenHold m is r.takes s → (is_static called.flags ≡ false → HasReceiver called s)
          → ValuesHold called is (types.entry_type_frame called) (entry_frame number called (reverse (take (length r.takes) s)))
      call_values number r s call taken has = by_kind call.by
        where
          ordered : (wants : List Want) → call.takes ≡ wants → AllZip (WantHolds m is) (reverse wants) (reverse (take (length r.takes) s))
          ordered wants e =
              let takes : r.takes ≡ wants = ap (λ (x : OpRow). x.takes) call.is ∙ e in
              subst (λ (ws : List Want). AllZip (WantHolds m is) (reverse ws) (reverse (take (length r.takes) s))) takes (in_order r.takes s taken)

          by_kind : ((is_static called.flags ≡ false) × (call.takes ≡ arguments called ++ receiver_want (is_init called) called.class ∷ [])) ⊎ ((is_static called.flags ≡ true) × (call.takes ≡ arguments called))
              → ValuesHold called is (types.entry_type_frame called) (entry_frame number called (reverse (take (length r.takes) s)))
          by_kind (inl k) =
              let v = has k.0 in
              let want = receiver_want (is_init called) called.class in
              let count : length r.takes ≡ suc (length called.args) = ap (λ (x : OpRow). length x.takes) call.is ∙ ap length k.1 ∙ omega (arith, length-append (arguments called) (want ∷ []), long_arguments called) in
              let first = deepest_first (length called.args) s v.0 v.1 in
              let zip = subst (λ (ws : List Want). AllZip (WantHolds m is) ws (reverse (take (length r.takes) s))) (wants_in_order want) (ordered (arguments called ++ want ∷ []) k.1) in
              let all : reverse (take (length r.takes) s) ≡ v.0 ∷ first.0 = ap (λ n. reverse (take n s)) count ∙ first.1 in
              let each = subst (λ (vs : List ℕ). AllZip (WantHolds m is) (want ∷ map want_of called.args) vs) all zip in
              subst (λ (vs : List ℕ). ValuesHold called is (types.entry_type_frame called) (entry_frame number called vs)) (sym all) (instance_values number v.0 first.0 k.0 (receiver_is (is_init called) v.0 each.0 v.2) (kind_args called.args first.0 each.1))
          by_kind (inr k) =
              let zip = subst (λ (ws : List Want). AllZip (WantHolds m is) ws (reverse (take (length r.takes) s))) (reverse_map want_of called.args) (ordered (arguments called) k.1) in
              static_values number (reverse (take (length r.takes) s)) k.0 (kind_args called.args (reverse (take (length r.takes) s)) zip)

-- ---- the frame

module _ (c : MarkedProgram) (marked : IsMarked c) (is : Classes) where
  -- a frame with the values of a method's start stands at its start
  pub enters : (number : ℕ) (called : MethodInfo) (vs : List ℕ) → slice_get c.program.methods number ≡ Some called → ValuesHold called is (types.entry_type_frame called) (entry_frame number called vs)
      → FrameHolds c is 0 (entry_frame number called vs)
  enters number called vs e values =
      let a = method_at c marked number called e in
      land c marked is (entry_frame number called vs) called a.frames a.tags (types.entry_type_frame called) (entry_tags called) e a.its_types a.its_tags a.holds.types.entry a.holds.sound.entry values
