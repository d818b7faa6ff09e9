-- The frame of a root keeps what construction says: it is a static method, no `<init>`, and takes nothing or an int.
use Rattle.std.proofs.Common.{◌≡◌, ℕ, zero, suc, inl, inr, Bool, true, false, ◌&&◌, List, [], ◌∷◌, length, Option, Some, None, refl, ap, sym, subst, ◌∙◌, arith, ◌==◌, nat_lt, codes, bytes_eq, slice_get, option_map, if◌then◌else◌, IsTrue}
use Rattle.std.{specs.List.AllByRecursion, proofs.lemmas.Slice.Eq.bytes_eq-Decides}
use Rattle.lists.proofs.{ListLaws.same_some, TestLaws.{both_are_true}}
use Rattle.jvm_types.specs.{ClassNames.file_class, CodeTable.is_init, Members.is_class_init_name, Numbers.has_number}
use Rattle.jvm_types.specs.declared.{outcome.Thrown.TheVariants.StackOverflowError, program.{Kind.Kind, MethodInfo.MethodInfo, Program.Program}}
use Rattle.checked_program.{specs.MarkedProgram.checked_part, proofs.CheckedPlaces.called_fit_all}
use Rattle.machine_types.specs.{Bounds.part_roots, Events.thread_started, Frames.{has_room, entry_frame}, Onward.{Running, Uncaught, root_arguments, rooted}, OwnedPlaces.IsStoredNowhere}
use Rattle.machine_types.specs.{Parts.{numbers_of, is_entry_named, entries_named, init_roots}, Worlds.IsFinished, declared.phase.Phase.TheVariants.Start}
use Rattle.laws_threads.{specs.StructureLaws.StaysStructured, proofs.{Roots.{IsSomeRoot, part_root, numbered}, ThreadMove.counting}}
use Rattle.laws_objects.proofs.{Buildings.{LawfulBuilding, Moving, in_world, null, sees}, Calling.not_built, EnteredFrames.{ArgsOld, static_enters}, MonitorMoves.{Goal, none_in, held, goes_if, never}}
use Rattle.laws_objects.proofs.{Moves.stays, Onwards.{OnwardKeeps, IfKeeps}, PutPlaces.by_append, ThreadMoves.from_same}

-- ---- the methods with these numbers

module _ (p : Program) where
  abbrev NoInits : List ℕ → Type 0
  NoInits numbers = (k : ℕ) (m : MethodInfo) → has_number numbers k ≡ true → slice_get p.methods k ≡ Some m → is_init m ≡ false

  of_numbers : (test : MethodInfo → Bool) → ((m : MethodInfo) → test m ≡ true → is_init m ≡ false) → NoInits (numbers_of test 0 p.methods)
  of_numbers test other k m h e =
      let x = numbered test p.methods 0 k h in
      let there : slice_get p.methods k ≡ Some x.method = ap (slice_get p.methods) (omega (arith, x.number)) ∙ x.there in
      let same : x.method ≡ m = same_some (sym there ∙ e) in
      other m (subst (λ (y : MethodInfo). test y ≡ true) same x.passes)

  -- another name
  named : (name : List ℕ) → bytes_eq name (codes "<init>") ≡ false → (m : MethodInfo) → bytes_eq m.name name ≡ true → is_init m ≡ false
  named name other m e = ap (λ (n : List ℕ). bytes_eq n (codes "<init>")) ((bytes_eq-Decides m.name name).0 e) ∙ other

  entries : (name descriptor : List ℕ) → bytes_eq name (codes "<init>") ≡ false → NoInits (entries_named p name descriptor)
  entries name descriptor other = of_numbers (is_entry_named name descriptor) (λ m e.
      (let parts = both_are_true ((m.class == file_class 0) && bytes_eq m.name name) (bytes_eq m.descriptor descriptor) e in
      named name other m (both_are_true (m.class == file_class 0) (bytes_eq m.name name) parts.0).1))

  inits : NoInits (init_roots p)
  inits k m h e = elim (by_append (numbers_of (λ m. is_class_init_name m.name) 0 p.methods) (entries_named p (codes "init") (codes "()V")) k h) [
    | inl i ↦ of_numbers (λ m. is_class_init_name m.name) (named (codes "<clinit>") refl) k m i e
    | inr i ↦ entries (codes "init") (codes "()V") refl k m i e
  ]

  pub no_init : (number part k : ℕ) (m : MethodInfo) → has_number (part_roots p number part) k ≡ true → slice_get p.methods k ≡ Some m → is_init m ≡ false
  no_init zero zero k m h e = inits k m h e
  no_init zero (suc zero) k m h e = inits k m h e
  no_init zero (suc (suc part)) k m h e = entries (codes "done") (codes "()V") refl k m h e
  no_init (suc number) part k m h e = entries (codes "run") (codes "(I)V") refl k m h e

-- ---- their frames

module _ (lawful : LawfulBuilding) where
  open lawful use {building, c, marked, frozen, owning, w, next, t}

  root_keeps : (thread part number : ℕ) (m : MethodInfo) → has_number (part_roots c.program thread part) number ≡ true → slice_get c.program.methods number ≡ Some m → OnwardKeeps building (rooted c.program thread number m)
  root_keeps thread part number m h e = by_room (has_room c.program [] m)
    where
      args_old : (Old : ℕ → Type 0) → IsSomeRoot m → ArgsOld Old m.args (root_arguments thread m)
      args_old Old (inl r) = subst (λ (args : List Kind). ArgsOld Old args (if nat_lt 0 (length args) then thread ∷ [] else [])) (sym r.args) tt
      args_old Old (inr r) = subst (λ (args : List Kind). ArgsOld Old args (if nat_lt 0 (length args) then thread ∷ [] else [])) (sym r.args) tt

      by_room : (b : Bool) → OnwardKeeps building (if b then Running (entry_frame number m (root_arguments thread m) ∷ []) else Uncaught StackOverflowError)
      by_room true =
          let root = part_root c.program marked.checked.program thread part number m h e in (
            static_enters building 0 (null lawful) number m e (root_arguments thread m) (elim root [ inl r ↦ r.static | inr r ↦ r.static ])
                (not_built frozen m (no_init c.program thread part number m h e)) (omega (arith, called_fit_all (checked_part c) number m marked.checked e)) (args_old (IsFinished w next) root) (args_old (IsStoredNowhere owning.stores) root),
            tt,
          )
      by_room false = tt

  root_if : (thread part number : ℕ) → has_number (part_roots c.program thread part) number ≡ true → IfKeeps building (option_map (rooted c.program thread number) (slice_get c.program.methods number))
  root_if thread part number h = (elim (slice_get c.program.methods number) as (λ (o : Option MethodInfo). slice_get c.program.methods number ≡ o → IfKeeps building (option_map (rooted c.program thread number) o))
      [ None ↦ λ e. tt | Some m ↦ λ e. stays w next t (λ z. OnwardKeeps (in_world building z) (rooted c.program thread number m)) (root_keeps thread part number m h e) ]) refl

-- ---- a part begins with them

module _ (moving : Moving) where
  open moving use {c, was, x}

  pub starts_as : (n : ℕ) (roots : List ℕ) (number : ℕ) → AllByRecursion (λ (number : ℕ). IsTrue (has_number (part_roots c.program x.number x.part) number)) (number ∷ roots) → was ≡ Start → StaysStructured c was (thread_started c.program (counting n x) (number ∷ roots))
      → Goal moving (thread_started c.program (counting n x) (number ∷ roots))
  starts_as n roots number all e stands =
      let o = option_map (rooted c.program x.number number) (slice_get c.program.methods number) in
      goes_if moving (record x { roots = roots; counts = record x.counts { instructions = n } }) o refl refl (from_same x.attempt) (held moving) stands
      (never moving o (none_in moving Start (λ m q. q) e))
      (root_if (sees moving) x.number x.part number all.0)
