-- A program of one class without members, on which the tests try a thread.
use Rattle.std.proofs.{Common.{◌≡◌, ℕ, zero, suc, ◌≤◌, false, List, [], ◌∷◌, take, length, Some, refl, subst, arith, codes, slice_get}, lemmas.Option.slice_get_within}
use Rattle.jvm_types.specs.{LinkFaults.is_taken, ProgramInvariant.IsProgram, declared.program.Program.Program}
use Rattle.checked_program.{specs.{MarkedProgram.IsMarked, TaggedCode.tagged_by}, proofs.OwnedChecks.none_are_read}

abbrev empty : Program
empty = record { names = codes "A" ∷ []; fields = []; methods = []; heap = 4096; workers = 0 }

nothing_there : {A : Type 0} (xs : List A) (i : ℕ) (x : A) → length xs ≤ 0 → slice_get xs i ≡ Some x → ⊥
nothing_there xs i x l e = omega (arith, l, slice_get_within xs i x e)

names_apart : (number : ℕ) (name : List ℕ) → slice_get (codes "A" ∷ []) number ≡ Some name → is_taken (take number (codes "A" ∷ [])) name ≡ false
names_apart zero name e =
    let same : codes "A" ≡ name = cc in
    subst (λ (n : List ℕ). is_taken [] n ≡ false) same refl
names_apart (suc number) name e = absurd (nothing_there [] number name (omega arith) e)

empty_is_program : IsProgram empty
empty_is_program = record {
  some_file = omega arith;
  files = omega arith;
  workers = omega arith;
  heap_from = omega arith;
  heap_to = omega arith;
  words = omega arith;
  names = names_apart;
  fields = (λ number f e. absurd (nothing_there empty.fields number f (omega arith) e));
  methods = (λ number m e. absurd (nothing_there empty.methods number m (omega arith) e));
  run = (λ l. absurd (omega (arith, l)));
  size = omega arith;
}

pub empty_is_marked : IsMarked (record { program = record { names = codes "A" ∷ []; fields = []; methods = []; heap = 4096; workers = 0 }; typings = []; tags = []; marks = [] })
empty_is_marked = record {
  checked = record { program = empty_is_program; typings = tt };
  tags = tt;
  marks = record {
    uses = record { fields = []; owners = []; elements = [] };
    are_uses = none_are_read empty (tagged_by []) [] refl refl (record { long = refl; each = λ fi u e. absurd (nothing_there [] fi u (omega arith) e) });
    each = tt;
  };
}
