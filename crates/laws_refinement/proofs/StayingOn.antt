-- A place that stays for a thread stays so after an event of it, or of another thread.
use Rattle.std.proofs.Common.{ℕ, List, Option, sym, subst, Contains}
use Rattle.jvm_types.specs.declared.program.Program.{Program}
use Rattle.machine_types.specs.{Attempts.{IsFieldAt, Stays, header, frozen, guarded, element, frozen_static, guarded_static}, Core.event, NewObjects.size_by, OwnedPlaces.IsElementOf}
use Rattle.machine_types.specs.{PlainMemory.{Object, new_object}, Threads.Thread, Worlds.IsOwnOrFinished, declared.phase.Phase.{Phase, TheVariants.Made}}
use Rattle.laws_states.{specs.HeapFacts.{objects_after, objects_by, objects_of}, proofs.Lists.contains_more}
use Rattle.laws_refinement.{specs.ElidedSteps.next_free, proofs.Attempting.Event}

-- ---- objects stay

more_objects : (p : Program) (phase : Phase) (objects : List Object) (o : Object) → Contains objects o → Contains (objects_by p phase objects) o
more_objects p (Made a word) objects o k = contains_more (new_object a word (size_by p word)) objects o k
more_objects p phase objects o k = k

module _ (its : Event) where
  open its use {c, objects, owning as own, own_after, w, later, s, t, x, turns}

  pub still_object : (o : Object) → Contains objects o → Contains (objects_after c.program s t objects) o
  still_object o k = subst (λ (q : Option Thread). Contains (objects_of c.program q objects) o) (sym turns.thread) (more_objects c.program x.phase objects o k)

  -- ---- places of thread u stay, where what it may know stays so

  module _ (u : ℕ) (known : (v : ℕ) → IsOwnOrFinished w (next_free s) u v → IsOwnOrFinished later (next_free (event c s t)) u v) where
    still_field : (fi z : ℕ) (o : Object) → IsFieldAt c objects w (next_free s) u fi z o → IsFieldAt c (objects_after c.program s t objects) later (next_free (event c s t)) u fi z o
    still_field fi z o k = record { there = still_object o k.there; field = k.field; is = k.is; of_class = k.of_class; known = known o.reference k.known; place = k.place }

    still_element : (fi z : ℕ) (o : Object) → IsElementOf c own.stores objects fi o z → IsElementOf c own_after.stores (objects_after c.program s t objects) fi o z
    still_element fi z o k = record {
      field_word = k.field_word;
      is_field = k.is_field;
      of_class = k.of_class;
      array = k.array;
      there = still_object k.array k.there;
      stored = turns.kept k.array.reference k.field_word k.stored;
      index = k.index;
      inside = k.inside;
      place = k.place;
    }

    pub still_stays : (m z : ℕ) → Stays c own.stores objects w (next_free s) u m z → Stays c own_after.stores (objects_after c.program s t objects) later (next_free (event c s t)) u m z
    still_stays m z (header o there at) = header o (still_object o there) at
    still_stays m z (frozen fi o is k) = frozen fi o is (still_field fi z o k)
    still_stays m z (guarded fi o is at k) = guarded fi o is at (still_field fi z o k)
    still_stays m z (element fi o owned there at k) = element fi o owned (still_object o there) at (still_element fi z o k)
    still_stays m z (frozen_static fi is at) = frozen_static fi is at
    still_stays m z (guarded_static fi is on at) = guarded_static fi is on at
