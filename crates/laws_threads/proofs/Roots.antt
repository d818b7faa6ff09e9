-- The frame of a root is typed: it is a static method that takes nothing or the number of the thread.
use Rattle.std.{specs.List.{AllZip, AllByRecursion}, proofs.lemmas.{Bool.{cond_both, Decides.nat_tests}, Slice.Eq.bytes_eq-Decides}}
use Rattle.std.proofs.Common.{◌≡◌, ℕ, zero, suc, ◌+◌, ◌<◌, ◌^◌, ◌⊎◌, inl, inr, Bool, true, ◌&&◌, ◌||◌, List, [], ◌∷◌, ◌++◌, length, Option, Some, None, refl, ap, sym, subst, ◌∙◌, arith, ◌==◌, nat_lt, codes, bytes_eq, slice_get, map, option_map, if◌then◌else◌, IsTrue}
use Rattle.lists.proofs.{ListLaws.same_some, TestLaws.{both_true, both_are_true, second_true}}
use Rattle.jvm_types.specs.{ClassNames.file_class, CodeTable.type_of, LinkFaults.{is_run}, Members.{is_static, is_class_init_name}, Numbers.has_number, ProgramInvariant.IsProgram}
use Rattle.jvm_types.specs.declared.{outcome.Thrown.TheVariants.StackOverflowError, program.{Kind.Kind, MethodInfo.MethodInfo, Program.Program}}
use Rattle.laws_programs.{specs.RootLaws.IsRoot, proofs.RootMethods.{class_inits, entries, run_root}}
use Rattle.checked_program.specs.MarkedProgram.{MarkedProgram, IsMarked}
use Rattle.machine_types.specs.{Bounds.part_roots, Events.thread_started, Frames.{has_room, entry_frame, first_or_null}, Onward.{Running, Uncaught, root_arguments, rooted}}
use Rattle.machine_types.specs.{Parts.{numbers_of, is_entry_named, entries_named, init_roots}, Threads.Thread, Typed.{Classes, Holds}}
use Rattle.laws_threads.proofs.{Tests.either_way, ThreadMove.if_either}
use Rattle.laws_threads.proofs.{CalledEntries.{static_values, enters}, Onwards.{keeps_none, Onwards, IfOnwards}, ThreadTypes.{IsBasedIn, Rests, TypedBy, goes_if_typed}}
use Rattle.jvm_types.specs.declared.program.Kind.TheVariants as kinds

-- ---- the methods with these numbers

pub record Numbered (test : MethodInfo → Bool) (ms : List MethodInfo) (n k : ℕ) : Type 0 where
  pub at : ℕ
  pub method : MethodInfo
  pub number : k ≡ n + at
  pub there : slice_get ms at ≡ Some method
  pub passes : test method ≡ true

pub numbered : (test : MethodInfo → Bool) (ms : List MethodInfo) (n k : ℕ) → has_number (numbers_of test n ms) k ≡ true → Numbered test ms n k
numbered test [] n k e = absurd (cc)
numbered test (m ∷ ms) n k e = either_way (λ (b : Bool). test m ≡ b → has_number (if b then n ∷ numbers_of test (suc n) ms else numbers_of test (suc n) ms) k ≡ true → Numbered test (m ∷ ms) n k) (test m)
    (λ t e. either_way (λ (b : Bool). (n == k) ≡ b → (b || has_number (numbers_of test (suc n) ms) k) ≡ true → Numbered test (m ∷ ms) n k) (n == k)
    (λ h e. record { at = 0; method = m; number = grind (arith, nat_tests, h); there = refl; passes = t }) (λ h e. later (numbered test ms (suc n) k e)) refl e)
    (λ t e. later (numbered test ms (suc n) k e)) refl e
  where
    later : Numbered test ms (suc n) k → Numbered test (m ∷ ms) n k
    later x = record { at = suc x.at; method = x.method; number = omega (arith, x.number); there = x.there; passes = x.passes }

-- a number of one list or the other
pub numbers_in : (xs ys : List ℕ) (k : ℕ) {P : Type 0} → has_number (xs ++ ys) k ≡ true → (has_number xs k ≡ true → P) → (has_number ys k ≡ true → P) → P
numbers_in [] ys k e f g = g e
numbers_in (x ∷ xs) ys k {P} e f g = either_way (λ (b : Bool). (b || has_number (xs ++ ys) k) ≡ true → ((b || has_number xs k) ≡ true → P) → P) (x == k)
    (λ e f. f refl)
    (λ e f. numbers_in xs ys k e f g) e f

-- ---- what they take

-- nothing, or an int
abbrev pub IsSomeRoot : MethodInfo → Type 0
IsSomeRoot m = IsRoot m [] ⊎ IsRoot m (kinds.Int ∷ [])

module _ (p : Program) (is : IsProgram p) where
  entry_root : (name : List ℕ) (at : ℕ) (m : MethodInfo) → (bytes_eq name (codes "init") || bytes_eq name (codes "done")) ≡ true → (bytes_eq m.name name ≡ true → m.name ≡ name) → slice_get p.methods at ≡ Some m
      → is_entry_named name (codes "()V") m ≡ true → IsSomeRoot m
  entry_root name at m one same e h =
      let parts = both_are_true ((m.class == file_class 0) && bytes_eq m.name name) (bytes_eq m.descriptor (codes "()V")) h in
      let names = both_are_true (m.class == file_class 0) (bytes_eq m.name name) parts.0 in
      let class : m.class ≡ file_class 0 = grind (arith, nat_tests, names.0) in
      let name_is = same names.1 in
      let entry = second_true (is_run m.name m.descriptor) _ (both_true (bytes_eq m.descriptor (codes "()V")) (bytes_eq m.name (codes "init") || bytes_eq m.name (codes "done")) parts.1
      (subst (λ (n : List ℕ). (bytes_eq n (codes "init") || bytes_eq n (codes "done")) ≡ true) (sym name_is) one)) in
      either_way (λ (b : Bool). is_run m.name m.descriptor ≡ b → IsSomeRoot m) (is_run m.name m.descriptor) (λ r. inr (run_root p at m is e class r)) (λ r. inl (entries p at m is e class entry r)) refl

  run_root_of : (at : ℕ) (m : MethodInfo) → slice_get p.methods at ≡ Some m → is_entry_named (codes "run") (codes "(I)V") m ≡ true → IsSomeRoot m
  run_root_of at m e h =
      let parts = both_are_true ((m.class == file_class 0) && bytes_eq m.name (codes "run")) (bytes_eq m.descriptor (codes "(I)V")) h in
      let names = both_are_true (m.class == file_class 0) (bytes_eq m.name (codes "run")) parts.0 in
      let class : m.class ≡ file_class 0 = grind (arith, nat_tests, names.0) in
      inr (run_root p at m is e class (both_true (bytes_eq m.name (codes "run")) (bytes_eq m.descriptor (codes "(I)V")) names.1 parts.1))

  -- the method of a number that is in a list
  abbrev Roots : List ℕ → Type 0
  Roots numbers = (k : ℕ) (m : MethodInfo) → has_number numbers k ≡ true → slice_get p.methods k ≡ Some m → IsSomeRoot m

  of_numbers : (test : MethodInfo → Bool) → ((at : ℕ) (m : MethodInfo) → slice_get p.methods at ≡ Some m → test m ≡ true → IsSomeRoot m) → Roots (numbers_of test 0 p.methods)
  of_numbers test root k m h e =
      let x = numbered test p.methods 0 k h in
      let there : slice_get p.methods k ≡ Some x.method = ap (slice_get p.methods) (omega (arith, x.number)) ∙ x.there in
      let same : x.method ≡ m = same_some (sym there ∙ e) in
      root k m e (subst (λ (y : MethodInfo). test y ≡ true) same x.passes)

  either : (xs ys : List ℕ) → Roots xs → Roots ys → Roots (xs ++ ys)
  either xs ys f g k m h e = numbers_in xs ys k h (λ h. f k m h e) (λ h. g k m h e)

  same_text : (text other : List ℕ) → bytes_eq text other ≡ true → text ≡ other
  same_text text other e = (bytes_eq-Decides text other).0 e

  inits : Roots (init_roots p)
  inits = either (numbers_of (λ m. is_class_init_name m.name) 0 p.methods) (entries_named p (codes "init") (codes "()V"))
      (of_numbers (λ m. is_class_init_name m.name) (λ at m e h. inl (class_inits p at m is e h)))
      (of_numbers (is_entry_named (codes "init") (codes "()V")) (λ at m e h. entry_root (codes "init") at m refl (same_text m.name (codes "init")) e h))

  pub part_root : (number part k : ℕ) (m : MethodInfo) → has_number (part_roots p number part) k ≡ true → slice_get p.methods k ≡ Some m → IsSomeRoot m
  part_root zero zero k m h e = inits k m h e
  part_root zero (suc zero) k m h e = inits k m h e
  part_root zero (suc (suc part)) k m h e = of_numbers (is_entry_named (codes "done") (codes "()V")) (λ at m e h. entry_root (codes "done") at m refl (same_text m.name (codes "done")) e h) k m h e
  part_root (suc number) part k m h e = of_numbers (is_entry_named (codes "run") (codes "(I)V")) run_root_of k m h e

-- ---- their frames

module _ (c : MarkedProgram) (marked : IsMarked c) (is : Classes) where
  root_values : (t number : ℕ) (m : MethodInfo) → t < 2 ^ 32 → IsSomeRoot m → slice_get c.program.methods number ≡ Some m → Onwards c is [] (rooted c.program t number m)
  root_values t number m small root e = if_either (Onwards c is []) (has_room c.program [] m) (Running (entry_frame number m (root_arguments t m) ∷ [])) (Uncaught StackOverflowError)
      (record {
        holds = (enters c marked is number m (root_arguments t m) e (static_values m is m number (root_arguments t m) (given root).0 (given root).1), tt);
        keeps = λ base old new. absurd (omega (arith, old));
        inside = λ all. (cond_both (is_static m.flags) 0 (first_or_null (root_arguments t m)) (λ n. n < c.program.heap) (λ s. omega (arith, marked.checked.program.heap_from)) (λ s. absurd (let g = (given root).0 in cc)), tt);
      })
      (record { holds = tt; keeps = keeps_none []; inside = λ all. tt })
    where
      given : IsSomeRoot m → (is_static m.flags ≡ true) × AllZip (Holds m is) (map type_of m.args) (root_arguments t m)
      given (inl r) = (r.static, subst (λ (args : List Kind). AllZip (Holds m is) (map type_of args) (if nat_lt 0 (length args) then t ∷ [] else [])) (sym r.args) tt)
      given (inr r) = (r.static, subst (λ (args : List Kind). AllZip (Holds m is) (map type_of args) (if nat_lt 0 (length args) then t ∷ [] else [])) (sym r.args) (small, tt))

  pub starts_typed : (s : Thread) (roots : List ℕ) → s.frames ≡ [] → s.number < 2 ^ 32 → AllByRecursion (λ number. IsTrue (has_number (part_roots c.program s.number s.part) number)) roots → TypedBy c is s → Rests c is s
      → IsBasedIn s.frames s.attempt → IsBasedIn (thread_started c.program s roots).frames (thread_started c.program s roots).attempt → TypedBy c is (thread_started c.program s roots)
  starts_typed s [] none small all stays rests old new = stays
  starts_typed s (number ∷ roots) none small all stays rests old new =
      goes_if_typed c is (record s { roots = roots }) (option_map (rooted c.program s.number number) (slice_get c.program.methods number))
      (record { values = record { phase = stays.values.phase; attempt = stays.values.attempt }; new = stays.new; receivers = stays.receivers; entry = stays.entry })
      (subst (λ fs. IfOnwards c is fs (option_map (rooted c.program s.number number) (slice_get c.program.methods number))) (sym none) (by_method (slice_get c.program.methods number) refl))
      (record { attempt = rests.attempt; inside = rests.inside; entry = rests.entry }) old new
    where
      by_method : (o : Option MethodInfo) → slice_get c.program.methods number ≡ o → IfOnwards c is [] (option_map (rooted c.program s.number number) o)
      by_method None e = tt
      by_method (Some m) e = root_values s.number number m small (part_root c.program marked.checked.program s.number s.part number m all.0 e) e
