-- Outside an `<init>` no value has the type of an uninitialised `this`.
use Rattle.std.{proofs.Common.{◌≡◌, ◌≢◌, ℕ, zero, suc, ◌-◌, Bool, true, false, cond, List, [], ◌∷◌, ◌++◌, length, map, replicate, Option, Some, refl, slice_get}, specs.List.AllByRecursion}
use Rattle.lists.proofs.TestLaws.{both_are_true}
use Rattle.jvm_types.specs.{CodeTable.{row, is_init, type_of}, Members.is_static, Types.{TypeFrame, is_below, all_pairs, receiver_types}, Verifying.{HasTyping, IsLaidOut}, declared.program.Kind.Kind}
use Rattle.jvm_types.{specs.declared.{program.{Kind.TheVariants.Int, MethodInfo.MethodInfo, Program.Program}, typing.VType.{VType, TheVariants.{Ref, This, Top}}}, proofs.EachAfter.all_append}
use Rattle.jvm_types.proofs.FrameOrder.{stack_below, locals_below}
use Rattle.laws_programs.proofs.RowsKeep.{types_fine, row_fine}
use Rattle.checked_program.specs.{LockTags.TagShape, Tagging.HasTagging}
use Rattle.laws_objects.proofs.TaggedTypes.{all_have}

abbrev pub IsOther : VType → Type 0
IsOther t = t ≢ This

pub record HaveNoThis (g : TypeFrame) : Type 0 where
  pub stack : AllByRecursion IsOther g.stack
  pub locals : AllByRecursion IsOther g.locals

-- only `this` is below `this`
pub other_above : (t u : VType) → is_below t u ≡ true → t ≢ This → u ≢ This
other_above This u b n = absurd (n refl)
other_above t This b n = absurd (cc)
other_above t u b n = λ e. cc

others_above : (ts us : List VType) → all_pairs is_below ts us ≡ true → AllByRecursion IsOther ts → AllByRecursion IsOther us
others_above [] [] e a = tt
others_above (t ∷ ts) (u ∷ us) e a = let parts = both_are_true (is_below t u) (all_pairs is_below ts us) e in (other_above t u parts.0 a.0, others_above ts us parts.1 a.1)
others_above ts us e a = absurd (cc)

kinds_other : (ks : List Kind) → AllByRecursion IsOther (map type_of ks)
kinds_other [] = tt
kinds_other (Int ∷ ks) = ((λ e. cc), kinds_other ks)
kinds_other (kind ∷ ks) = ((λ e. cc), kinds_other ks)

tops_other : (n : ℕ) → AllByRecursion IsOther (replicate n Top)
tops_other zero = tt
tops_other (suc n) = ((λ e. cc), tops_other n)

receiver_other : (static init : Bool) (class : ℕ) → init ≡ false → AllByRecursion IsOther (cond static [] (cond init This (Ref class) ∷ []))
receiver_other true init class e = tt
receiver_other false init class e = rw e ((λ h. cc), tt)

-- wherever tagging reaches
pub no_this : (p : Program) (m : MethodInfo) (frames : List (Option TypeFrame)) (tags : List (Option TagShape)) → IsLaidOut m → HasTyping p m frames → HasTagging p m tags → is_init m ≡ false
    → (i : ℕ) (g : TypeFrame) (f : TagShape) → slice_get frames i ≡ Some (Some g) → slice_get tags i ≡ Some (Some f) → HaveNoThis g
no_this p m frames tags laid typed tagged init =
    all_have p m frames laid typed (λ g f. HaveNoThis g) (record {
      start = record {
        stack = tt;
        locals = all_append IsOther (receiver_types m ++ map type_of m.args) _ (all_append IsOther (receiver_types m) (map type_of m.args) (receiver_other (is_static m.flags) (is_init m) m.class init) (kinds_other m.args))
            (tops_other (m.max_locals - length (receiver_types m ++ map type_of m.args)));
      };
      rises = λ g h f e k. record { stack = others_above g.stack h.stack (stack_below g h e) k.stack; locals = others_above g.locals h.locals (locals_below g h e) k.locals };
      meets = λ g f h a b. a;
      onward = λ insn target g f k.
          let fine = row_fine IsOther (λ e. cc) (λ e. cc) (λ e. cc) (λ c e. cc) p m insn.pc (λ e. cc) target insn.op in
          let h = types_fine IsOther (λ e. cc) (λ c e. cc) m (row p m insn.pc target insn.op) g fine.0 fine.1 k.stack k.locals in
          record { stack = h.0; locals = h.1 };
      caught = λ handler g f k. record { stack = ((λ e. cc), tt); locals = k.locals };
    }) tags tagged
