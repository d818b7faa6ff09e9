-- The facts of a state when one thread has moved.
use Rattle.std.proofs.Common.{⊎_elim, ◌≡◌, ◌≢◌, ◌⊎◌, inl, inr, ℕ, zero, suc, ◌+◌, ◌<◌, ◌≤◌, List, [], ◌∷◌, length, Option, Some, refl, ap, sym, subst, ◌∙◌, arith, Contains, slice_get, slice_index, slice_set}
use Rattle.jvm_types.specs.declared.fixed_words.TheConstants.{NEXT_FREE_WORD}
use Rattle.checked_program.specs.MarkedProgram.{MarkedProgram}
use Rattle.machine_types.specs.{Core.Core, FoundWords.IsHeader, NewObjects.{size_by, IsNewObject}, ObjectsApart.LieApart, PlainMemory.{Object, object_end, header_of, start_statics}, Threads.Thread}
use Rattle.machine_types.specs.Typed.{HasClass, HasElementIn, PlacesHold, ThreadHolds}
use Rattle.laws_states.{specs.HeapFacts.{HoldsObjects, HeapFacts}, proofs.{Leads.MadeNow, Lifted.{thread_up, monitors_up, element_up}, Lists.contained_got, Movers.HeapState, WordSteps.apart_on}}
use Rattle.machine_types.specs.declared.phase.Phase.TheVariants as phases

-- ---- one thread of a list is changed

pub got_set : {A : Type 0} (xs : List A) (i j : ℕ) (x y : A) → slice_get (slice_set xs i x) j ≡ Some y → ((j ≡ i) × (y ≡ x)) ⊎ ((j ≢ i) × (slice_get xs j ≡ Some y))
got_set [] i j x y e = absurd (cc)
got_set (z ∷ xs) zero zero x y e = inl (refl, cc)
got_set (z ∷ xs) zero (suc j) x y e = inr (λ h. omega (arith, h), e)
got_set (z ∷ xs) (suc i) zero x y e = inr (λ h. omega (arith, h), e)
got_set (z ∷ xs) (suc i) (suc j) x y e = ⊎_elim
    (λ (h : (j ≡ i) × (y ≡ x)). inl (ap suc h.0, h.1)) (λ (h : (j ≢ i) × (slice_get xs j ≡ Some y)). inr (λ e. h.0 (omega (arith, e)), h.1)) (got_set xs i j x y e)

-- ---- what is known of the words and the objects behind the event, for the threads that have not moved

pub record Behind (c : MarkedProgram) (objects later : List Object) (s : Core) (t : ℕ) (after : List ℕ) : Type 0 where
  pub up : (o : Object) → Contains objects o → Contains later o
  pub long : length after ≡ length s.words
  pub free : slice_index s.words NEXT_FREE_WORD ≤ slice_index after NEXT_FREE_WORD
  pub unused : (n : ℕ) → slice_index s.words NEXT_FREE_WORD ≤ n → slice_index after n ≡ slice_index s.words n
  pub apart : LieApart c.program later (start_statics c.program) (slice_index s.words NEXT_FREE_WORD)
  pub places : PlacesHold c.program later after
  pub headers : (o : Object) → Contains later o → IsHeader c.program (header_of o)
  pub new : (u : ℕ) (x : Thread) (a word n : ℕ) → u ≢ t → slice_get s.threads u ≡ Some x → x.phase ≡ phases.Made a word → a ≤ n → n < a + size_by c.program word → slice_index after n ≡ slice_index s.words n
  pub beside : (u : ℕ) (x : Thread) (a word : ℕ) → u ≢ t → slice_get s.threads u ≡ Some x → x.phase ≡ phases.Made a word → (o : Object) → Contains later o → (object_end o ≤ a) ⊎ (a + size_by c.program word ≤ o.reference)

-- and what of the one that has
pub record Became (c : MarkedProgram) (later : List Object) (s : Core) (after : List ℕ) (y : Thread) : Type 0 where
  pub values : ThreadHolds c (HasClass later) y
  pub monitors : HoldsObjects (HasClass later) y
  pub element : (word : ℕ) (stored : Option ℕ) → y.phase ≡ phases.Element word stored → HasElementIn later stored y.frames
  pub made : (a word : ℕ) → y.phase ≡ phases.Made a word → MadeNow c.program s after a word

-- an event, with both
pub record HeapEvent : Type 0 where
  pub before : HeapState
  pub later : List Object
  pub t : ℕ
  pub after : List ℕ
  pub y : Thread
  pub behind : Behind before.c before.objects later before.s t after
  pub became : Became before.c later before.s after y

module _ (event : HeapEvent) where
  open event use {later, t, after, y, behind, became, before.{c, objects, s, facts}}

  abbrev state : Core
  state = record { words = after; threads = slice_set s.threads t y }

  up : (class v : ℕ) → HasClass objects class v → HasClass later class v
  up class v k = (k.0, behind.up k.0 k.1, k.2, k.3)

  -- of the thread that has moved, or of another
  module _ (P : Thread → Type 0) where
    of_each : (u : ℕ) (x : Thread) → slice_get (slice_set s.threads t y) u ≡ Some x → P y → (slice_get s.threads u ≡ Some x → u ≢ t → P x) → P x
    of_each u x e own other = ⊎_elim (λ (k : (u ≡ t) × (x ≡ y)). subst P (sym k.1) own) (λ (k : (u ≢ t) × (slice_get s.threads u ≡ Some x)). other k.1 k.0) (got_set s.threads t u y x e)

  zero_there : (n : ℕ) → slice_index s.words NEXT_FREE_WORD ≤ n → n < c.program.heap → slice_index after n ≡ 0
  zero_there n le lt = behind.unused n le ∙ facts.unused.empty n le lt

  own_new : (a word : ℕ) → MadeNow c.program s after a word → IsNewObject c.program later state a (size_by c.program word)
  own_new a word k = record {
    begins = omega (arith, facts.begins, k.at);
    below = omega (arith, k.next);
    inside = k.room;
    beside = λ o there. inl (omega (arith, (behind.apart.below there.0 o (contained_got later o there)), k.at));
    empty = λ n from to. zero_there n (omega (arith, k.at, from)) (omega (arith, to, k.room));
  }

  other_new : (u : ℕ) (x : Thread) (a word : ℕ) → u ≢ t → slice_get s.threads u ≡ Some x → x.phase ≡ phases.Made a word → IsNewObject c.program later state a (size_by c.program word)
  other_new u x a word n e m =
      let k = facts.new_objects.each u x a word e m in
      record {
        begins = k.begins;
        below = omega (arith, k.below, behind.free);
        inside = k.inside;
        beside = behind.beside u x a word n e m;
        empty = λ i from to. behind.new u x a word i n e m from to ∙ k.empty i from to;
      }

  -- a new object of the thread that has moved lies behind that of another
  own_behind : (u : ℕ) (x : Thread) (a word b other : ℕ) → MadeNow c.program s after a word → slice_get s.threads u ≡ Some x → x.phase ≡ phases.Made b other → b + size_by c.program other ≤ a
  own_behind u x a word b other k e m = let l = facts.new_objects.each u x b other e m in omega (arith, l.below, k.at)

  abbrev Side : (a word b other : ℕ) → Type 0
  Side a word b other = (a + size_by c.program word ≤ b) ⊎ (b + size_by c.program other ≤ a)

  new_apart : (u v : ℕ) (x z : Thread) (a b word other : ℕ) → slice_get (slice_set s.threads t y) u ≡ Some x → slice_get (slice_set s.threads t y) v ≡ Some z → u ≢ v → x.phase ≡ phases.Made a word → z.phase ≡ phases.Made b other → Side a word b other
  new_apart u v x z a b word other e f n m l = by_sides (got_set s.threads t u y x e) (got_set s.threads t v y z f)
    where
      made_by : (w : Thread) (i j : ℕ) → w ≡ y → w.phase ≡ phases.Made i j → MadeNow c.program s after i j
      made_by w i j same m = became.made i j (sym (ap (λ (q : Thread). q.phase) same) ∙ m)

      by_sides : ((u ≡ t) × (x ≡ y)) ⊎ ((u ≢ t) × (slice_get s.threads u ≡ Some x)) → ((v ≡ t) × (z ≡ y)) ⊎ ((v ≢ t) × (slice_get s.threads v ≡ Some z)) → Side a word b other
      by_sides (inl k) (inl j) = absurd (n (k.0 ∙ sym j.0))
      by_sides (inl k) (inr j) = inr (own_behind v z a word b other (made_by x a word k.1 m) j.1 l)
      by_sides (inr k) (inl j) = inl (own_behind u x b other a word (made_by z b other j.1 l) k.1 m)
      by_sides (inr k) (inr j) = facts.new_objects.apart u v x z a b word other k.1 j.1 n m l

  pub assembled : HeapFacts c later state
  assembled = record {
    started = λ o k. up o.class o.reference (facts.started o k);
    apart = apart_on c.program later (start_statics c.program) (slice_index s.words NEXT_FREE_WORD) (slice_index after NEXT_FREE_WORD) behind.free behind.apart;
    unused = record { many = behind.long ∙ facts.unused.many; empty = λ n le lt. zero_there n (omega (arith, le, behind.free)) lt };
    begins = omega (arith, facts.begins, behind.free);
    typed = record {
      threads = λ u x e. of_each (λ z. ThreadHolds c (HasClass later) z) u x e became.values (λ g n. thread_up (HasClass objects) (HasClass later) up c x (facts.typed.threads u x g));
      elements = λ u x word stored e m. of_each (λ z. z.phase ≡ phases.Element word stored → HasElementIn later stored z.frames) u x e (became.element word stored) (λ g n m. element_up objects later behind.up stored x.frames (facts.typed.elements u x word stored g m)) m;
      places = behind.places;
    };
    new_objects = record {
      each = λ u x a word e m. of_each (λ z. z.phase ≡ phases.Made a word → IsNewObject c.program later state a (size_by c.program word)) u x e
          (λ m. own_new a word (became.made a word m)) (λ g n m. other_new u x a word n g m) m;
      apart = new_apart;
    };
    headers = behind.headers;
    new_headers = λ u x a word e m. of_each (λ z. z.phase ≡ phases.Made a word → IsHeader c.program word) u x e (λ m. let k = became.made a word m in k.header) (λ g n m. facts.new_headers u x a word g m) m;
    monitors = λ u x e. of_each (HoldsObjects (HasClass later)) u x e became.monitors (λ g n. monitors_up (HasClass objects) (HasClass later) up x (facts.monitors u x g));
  }
