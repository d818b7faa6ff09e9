-- Where a part of the run begins, the plain machine makes no step: its threads are as the new ones show.
use Rattle.std.proofs.Common.{◌≡◌, ◌⊎◌, inl, inr, ℕ, zero, suc, ◌≤◌, Bool, List, [], ◌∷◌, length, Some, refl, sym, ap, subst, ◌∙◌, slice_get}
use Rattle.lists.proofs.ListLaws.{same_some}
use Rattle.jvm_types.specs.declared.program.Program.{Program}
use Rattle.machine_types.specs.{Agreement.{IsPending, ThreadFits, depth_of, has_wait_bit}, HeldMonitors.depth_at, Owners.references_of, Parts.done_roots, PlainMemory.Object, PlainState.PlainThread}
use Rattle.machine_types.specs.{Threads.Thread, declared.lock.Held.Held}
use Rattle.laws_simulation.{specs.StandsBeside.{IsAmong, IsBeingMade, StandsBeside, ends_shown}, proofs.Turns.States}
use Rattle.jvm_types.specs.declared.outcome.End.TheVariants as ends
use Rattle.machine_types.specs.declared.phase.Phase.TheVariants as phases

-- ---- a thread that has become another, beside the same plain one

pub record Alike (p : Program) (z new : Thread) : Type 0 where
  pub made : (a word : ℕ) → new.phase ≡ phases.Made a word → z.phase ≡ phases.Made a word
  pub makes : (a word : ℕ) → z.phase ≡ phases.Made a word → new.phase ≡ phases.Made a word
  pub held : new.held ≡ z.held
  pub fits : (bit : ℕ → Bool) (w : PlainThread) → ThreadFits p bit z z.attempt w → w.ended ≡ ends_shown p z.part z.phase → ThreadFits p bit new new.attempt w × (w.ended ≡ ends_shown p new.part new.phase)

-- each of them in its place
abbrev pub Pairs : Program → List Thread → List Thread → Type 0
Pairs p [] [] = Unit {0}
Pairs p (x ∷ xs) (y ∷ ys) = Alike p x y × Pairs p xs ys
Pairs p xs ys = ⊥

pub same_pairs : (p : Program) (xs : List Thread) → Pairs p xs xs
same_pairs p [] = tt
same_pairs p (x ∷ xs) = ((record { made = λ a word e. e; makes = λ a word e. e; held = refl; fits = λ bit w f e. (f, e) }), same_pairs p xs)

many : (p : Program) (xs ys : List Thread) → Pairs p xs ys → length ys ≡ length xs
many p [] [] k = refl
many p (x ∷ xs) (y ∷ ys) k = ap suc (many p xs ys k.1)
many p [] (y ∷ ys) k = absurd k
many p (x ∷ xs) [] k = absurd k

back : (p : Program) (xs ys : List Thread) → Pairs p xs ys → (u : ℕ) (y : Thread) → slice_get ys u ≡ Some y → (x : Thread) × (slice_get xs u ≡ Some x) × Alike p x y
back p [] [] k u y e = absurd (cc)
back p (x ∷ xs) (z ∷ ys) k zero y e = (x, refl, subst (Alike p x) (same_some e) k.0)
back p (x ∷ xs) (z ∷ ys) k (suc u) y e = back p xs ys k.1 u y e
back p [] (z ∷ ys) k u y e = absurd k
back p (x ∷ xs) [] k u y e = absurd k

onto : (p : Program) (xs ys : List Thread) → Pairs p xs ys → (u : ℕ) (x : Thread) → slice_get xs u ≡ Some x → (y : Thread) × (slice_get ys u ≡ Some y) × Alike p x y
onto p [] [] k u x e = absurd (cc)
onto p (z ∷ xs) (y ∷ ys) k zero x e = (y, refl, subst (λ (w : Thread). Alike p w y) (same_some e) k.0)
onto p (z ∷ xs) (y ∷ ys) k (suc u) x e = onto p xs ys k.1 u x e
onto p [] (y ∷ ys) k u x e = absurd k
onto p (z ∷ xs) [] k u x e = absurd k

depths : (p : Program) (xs ys : List Thread) → Pairs p xs ys → (u m : ℕ) → depth_of (slice_get xs u) m ≡ depth_of (slice_get ys u) m
depths p [] [] k u m = refl
depths p (x ∷ xs) (y ∷ ys) k zero m =
    let held_is : Alike p x y → y.held ≡ x.held = λ a. a.held in
    let a = k.0 in ap (λ (hs : List Held). depth_at hs m) (sym (held_is a))
depths p (x ∷ xs) (y ∷ ys) k (suc u) m = depths p xs ys k.1 u m
depths p [] (y ∷ ys) k u m = absurd k
depths p (x ∷ xs) [] k u m = absurd k

-- ---- all of them

module _ (states : States) (threads : List Thread)
    (pairs : Pairs states.c.program states.s.threads threads)
    (done : (x : Thread) → slice_get threads 0 ≡ Some x → 2 ≤ x.part
    → done_roots states.c.program ≡ [] → x.phase ≡ phases.Ended ends.Returned) where
  open states use {c, objects, s, q, beside}

  makes_on : {z new : Thread} {a word : ℕ} → Alike c.program z new → z.phase ≡ phases.Made a word → new.phase ≡ phases.Made a word
  makes_on {z} {new} {a} {word} alike e = alike.makes a word e

  pending_on : (n : ℕ) → IsPending s.threads n → IsPending threads n
  pending_on n k = let y = onto c.program s.threads threads pairs k.0 k.1 k.4 in (k.0, y.0, k.2, k.3, y.1, makes_on y.2 k.5, k.6)

  making_on : (a : ℕ) → IsBeingMade s.threads a → IsBeingMade threads a
  making_on a k = let y = onto c.program s.threads threads pairs k.0 k.1 k.3 in (k.0, y.0, k.2, y.1, makes_on y.2 k.4)

  pub begins_beside : StandsBeside c.program objects (record s { threads = threads }) q
  begins_beside = record {
    agrees = record {
      places = λ n v e free. beside.agrees.places n v e (λ k. free (pending_on n k));
      next = beside.agrees.next;
      prints = beside.agrees.prints;
      monitors = λ u m. beside.agrees.monitors u m ∙ depths c.program s.threads threads pairs u m;
      many = beside.agrees.many ∙ sym (many c.program s.threads threads pairs);
      threads = λ u y w e f. let x = back c.program s.threads threads pairs u y e in (both u x.0 y w x.2 x.1 f).0;
    };
    known = beside.known;
    others = λ e k. by_side e (beside.others e k);
    new_objects = λ u y a word e m. let x = back c.program s.threads threads pairs u y e in beside.new_objects u x.0 a word x.1 (made_before x.2 m);
    apart = beside.apart;
    done = done;
    ends = λ u y w e f. let x = back c.program s.threads threads pairs u y e in (both u x.0 y w x.2 x.1 f).1;
  }
    where
      both : (u : ℕ) (x y : Thread) (w : PlainThread) → Alike c.program x y → slice_get s.threads u ≡ Some x → slice_get q.threads u ≡ Some w
          → ThreadFits c.program (has_wait_bit (references_of q.objects) s.words u) y y.attempt w × (w.ended ≡ ends_shown c.program y.part y.phase)
      both u x y w alike e f = alike.fits (has_wait_bit (references_of q.objects) s.words u) w (beside.agrees.threads u x w e f) (beside.ends u x w e f)

      by_side : (e : Object) → IsAmong objects e.reference ⊎ IsBeingMade s.threads e.reference → IsAmong objects e.reference ⊎ IsBeingMade threads e.reference
      by_side e (inl h) = inl h
      by_side e (inr h) = inr (making_on e.reference h)

      made_before : {x y : Thread} {a word : ℕ} → Alike c.program x y → y.phase ≡ phases.Made a word → x.phase ≡ phases.Made a word
      made_before {x} {y} {a} {word} alike e = alike.made a word e
