-- The laws of sections on a small program: a synchronized method that calls, on `this`, a method with a block. Its mark, and
-- how its fields may be read, are those of the tries of marks.
use Rattle.std.{proofs.Common.{◌≡◌, ℕ, zero, suc, Bool, true, false, List, [], ◌∷◌, map, Option, Some, None, Result, Ok, Err, ◌⊎◌, refl, subst, slice_get, slice_index}, specs.List.AllByRecursion}
use Rattle.jvm_types.specs.{ProgramInvariant.IsProgram, declared.{program.{MethodInfo.MethodInfo, Program.Program}, refusal.SRule.SRule}}
use Rattle.checked_program.specs.{FrozenPlaces.{IsFrozenField, IsGuardedField}, LockTags.TagShape, Marks.HasMark, OwnedArrays.AreUses, SectionLaws.{Part, AreParts, AreTagged, HasThis, HaveOwnMethods}}
use Rattle.checked_program.specs.{Sections.Section, TaggedCode.Tagged, Tagging.{tag_plan, HasTagging}, Visits.{PlanNode, next_waiting, plan_visited, plan_nodes, PlanVisits}}
use Rattle.checked_program.specs.declared.{section.{FieldUse.TheVariants.{Frozen, Guarded, Open}, Mode.TheVariants.OnThis, Spot.TheVariants.Method, Uses.Uses}, tag.Tag.TheVariants.{Untagged, This}}
use Rattle.checked_program.proofs.{OwnedChecks.{no_elements, no_owners}, TriedPrograms.{many, tags_of, Answer, Accepted, run, after_visit, at_visit, tagged, frames_in}}
use Rattle.laws_sections.proofs.{MarkedReads.read_law, MonitorExits.exit_law, SectionCalls.{invoke_law, apart_law}}

-- ---- a method that the computed visits accept has a tagging

abbrev is_accepted : Answer → Bool
is_accepted (Accepted frames) = true
is_accepted answer = false

accepted : (n : ℕ) (p : Program) (m : MethodInfo) (nodes : List (PlanNode TagShape)) → is_accepted (run n p m nodes) ≡ true
    → (visits : List ℕ) × (last : List (PlanNode TagShape)) × (PlanVisits (tag_plan p m) nodes visits last) × (frames_in (run n p m nodes) ≡ map (λ node. node.frame) last)
accepted zero p m nodes e = absurd (let bad : false ≡ true = e in cc)
accepted (suc n) p m nodes e = by_next (next_waiting nodes) refl e (λ mid. accepted n p m mid)
  where
    Ends : List (PlanNode TagShape) → Answer → Type 0
    Ends nodes answer = (visits : List ℕ) × (last : List (PlanNode TagShape)) × (PlanVisits (tag_plan p m) nodes visits last) × (frames_in answer ≡ map (λ node. node.frame) last)

    by_visit : (i : ℕ) → next_waiting nodes ≡ Some i → (x : Result (List (PlanNode TagShape)) (SRule × ℕ)) → plan_visited (tag_plan p m) i nodes ≡ x → is_accepted (after_visit x (λ mid. run n p m mid)) ≡ true
        → ((mid : List (PlanNode TagShape)) → is_accepted (run n p m mid) ≡ true → Ends mid (run n p m mid)) → Ends nodes (after_visit x (λ mid. run n p m mid))
    by_visit i next (Err fault) v e more = absurd (let bad : false ≡ true = e in cc)
    by_visit i next (Ok mid) v e more = let rest = more mid e in (i ∷ rest.0, rest.1, (next, mid, v, rest.2), rest.3)

    by_next : (o : Option ℕ) → next_waiting nodes ≡ o → is_accepted (at_visit o nodes (λ i. plan_visited (tag_plan p m) i nodes) (λ mid. run n p m mid)) ≡ true
        → ((mid : List (PlanNode TagShape)) → is_accepted (run n p m mid) ≡ true → Ends mid (run n p m mid)) → Ends nodes (at_visit o nodes (λ i. plan_visited (tag_plan p m) i nodes) (λ mid. run n p m mid))
    by_next None next e more = ([], nodes, (next, refl), refl)
    by_next (Some i) next e more = by_visit i next (plan_visited (tag_plan p m) i nodes) refl e more

has_tagging : (p : Program) (m : MethodInfo) → is_accepted (tagged p m) ≡ true → HasTagging p m (frames_in (tagged p m))
has_tagging p m e = let ends = accepted 60 p m (plan_nodes (tag_plan p m)) e in record { visits = ends.0; last = ends.1; made = ends.2; are = ends.3 }

all_tagged : (p : Program) (ms : List MethodInfo) → AllByRecursion (λ m. is_accepted (tagged p m) ≡ true) ms → (mi : ℕ) (m : MethodInfo) → slice_get ms mi ≡ Some m
    → (frames : List (Option TagShape)) × (slice_get (map (λ m. frames_in (tagged p m)) ms) mi ≡ Some frames) × HasTagging p m frames
all_tagged p [] all mi m e = absurd (cc)
all_tagged p (n ∷ ms) all zero m e = let same : n ≡ m = cc in (frames_in (tagged p n), refl, subst (λ (x : MethodInfo). HasTagging p x (frames_in (tagged p n))) same (has_tagging p n all.0))
all_tagged p (n ∷ ms) all (suc mi) m e = all_tagged p ms all.1 mi m e

many_is_tagged : AreTagged many (tags_of many)
many_is_tagged mi m e = all_tagged many many.methods (refl, (refl, (refl, (refl, (refl, (refl, (refl, (refl, (refl, (refl, (refl, (refl, (refl, (refl, tt)))))))))))))) mi m e

-- ---- its frames

abbrev tags : Tagged
tags = tags_of many

abbrev uses : Uses
uses = record { fields = Guarded ∷ Guarded ∷ Open ∷ Frozen ∷ []; owners = no_owners many; elements = no_elements many }

abbrev section : Section
section = record { method = 12; spot = Method }

abbrev part : ℕ → ℕ → Part
part method at = record { method = method; at = at; receiver = 7 }

caller : AreParts many tags section 7 (part 12 1 ∷ []) OnThis
caller = record { method = refl; receiver = refl; own = record { m = _; insn = _; target = _; f = _; at = record { in_program = refl; in_code = refl; names = refl; frames = _; of_method = refl; frame = refl } }; mode_is = refl }

-- `this` alone on the stack
on_receiver : HasThis 7 (This ∷ []) (7 ∷ [])
on_receiver zero e = refl
on_receiver (suc k) e = absurd (let bad : Untagged ≡ This = e in cc)

-- the method that it calls, at its start and at the exit of its block
called_at_start : AreParts many tags section 7 (part 2 0 ∷ part 12 1 ∷ []) OnThis
called_at_start = invoke_law many tags section 7 (part 2 0) (part 12 1) [] OnThis _ _ _ _ (7 ∷ []) caller (record { in_program = refl; in_code = refl; names = refl; frames = _; of_method = refl; frame = refl }) on_receiver refl refl

called_at : (i : ℕ) → AreParts many tags section 7 (part 2 i ∷ part 12 1 ∷ []) OnThis
called_at i = (called_at_start.0, called_at_start.1, called_at_start.2, called_at_start.3)

module _ (program : IsProgram many) (u : AreUses many tags uses) (mark : HasMark many tags uses section 0) where
  -- it reads a guarded field of the object
  reads : IsFrozenField many tags 0 ⊎ (IsGuardedField many tags 0 × (OnThis ≡ OnThis) × (slice_index (7 ∷ []) 0 ≡ 7))
  reads = read_law many tags uses section 7 (part 2 5) (part 12 1 ∷ []) OnThis _ _ _ _ (7 ∷ []) program u mark (called_at 5) (record { in_program = refl; in_code = refl; names = refl; frames = _; of_method = refl; frame = refl }) on_receiver

  -- and its `monitorexit` is of `this`, which the computed tags say too
  leaves : (OnThis ≡ OnThis) × (This ≡ This)
  leaves = exit_law many tags uses section 7 (part 2 10) (part 12 1 ∷ []) OnThis _ _ _ _ u many_is_tagged mark (called_at 10) (record { in_program = refl; in_code = refl; names = refl; frames = _; of_method = refl; frame = refl }) refl

  apart : HaveOwnMethods (part 2 10 ∷ part 12 1 ∷ [])
  apart = apart_law many tags uses section 7 (part 2 10 ∷ part 12 1 ∷ []) OnThis mark (called_at 10)
