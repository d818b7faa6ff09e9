-- What is due of an attempt runs on the plain state beside it: its places are there, and its monitor is free.
use Rattle.std.proofs.Common.{◌≡◌, ◌≢◌, ⊎_elim, ℕ, zero, suc, ◌+◌, ◌-◌, ◌*◌, ◌/◌, ◌%◌, ◌<◌, ◌≤◌, Bool, true, false, cond, List, [], ◌∷◌, length, Option, Some, None, refl, sym, ap, ◌∙◌, subst, arith, Contains, nat_le, nat_lt, option_map, option_and_then, slice_get, slice_index, ◌==◌, ◌&&◌}
use Rattle.std.{specs.Option.option_or, proofs.lemmas.Bool.Decides.nat_tests}
use Rattle.lists.proofs.ListLaws.{same_some}
use Rattle.jvm_types.specs.{Members.is_static, Numbers.has_number, ProgramInvariant.{IsProgram, instances_among, words_of}, declared.class_numbers.TheConstants.INT_ARRAY_CLASS}
use Rattle.jvm_types.specs.declared.{fixed_words.TheConstants.NEXT_FREE_WORD, outcome.End.End, program.{FieldInfo.FieldInfo, Program.Program}}
use Rattle.laws_programs.proofs.FieldOrder.{instances_inside, statics_inside}
use Rattle.checked_program.specs.MarkedProgram.{MarkedProgram}
use Rattle.machine_types.specs.{Agreement.{IsPending, AttemptFits, ThreadFits, has_wait_bit, depth_for, depth_of}, AttemptLaws.{ReachesPresent, AttemptsArePlain}}
use Rattle.machine_types.specs.{Attempts.{IsFieldAt, Stays, header, frozen, guarded, element, frozen_static, guarded_static, IsAsNoted, Owes}, Facts.{Facts, FactsBeside}, HeldMonitors.held_at}
use Rattle.machine_types.specs.{History.{Told, past_at, steps_of}, LockWords.{lock_of, lock_by}, NewObjects.{IsNewObject, size_by}}
use Rattle.machine_types.specs.Owners.{lock_at, NotHeld, hold_by_word, hold_by_list, hold_by_kept, owner_at, references_of}
use Rattle.machine_types.specs.PlainMemory.{Object, StaticValue, object_end, value_in, object_value, static_value, has_value, header_of, first_value}
use Rattle.machine_types.specs.{PlainState.{Plain, PlainThread, Holding, value_at, holding_at}, PlainSteps.{plain_run, plain_step, step_of, step_at, plain_entered}}
use Rattle.machine_types.specs.{Replay.{Alone, replayed, at_entry, at_present}, Threads.{Attempt, Thread, Config}, Typed.{AttemptHolds, HasClass}}
use Rattle.machine_types.specs.{Words.{header_word, value_word, header_class, header_length}, declared.lock.{Held.Held, Kept.Kept, LockWord.LockWord}}
use Rattle.machine_types.proofs.{AttemptReplay.{stands_as, Stands, stands_after, played}, Lists.{got_when_set, got_below, got_contained}, PlainStepLaws.is_same}
use Rattle.machine_types.specs.PlainState as plain
use Rattle.machine_types.specs.declared.lock.Kept.TheVariants as keeps
use Rattle.machine_types.specs.declared.lock.LockWord.TheVariants as locks
use Rattle.machine_types.specs.declared.plain.Act.TheVariants as acts

-- ---- items of lists

is_there : {X : Type 0} (xs : List X) (i : ℕ) → i < length xs → (x : X) × (slice_get xs i ≡ Some x)
is_there [] i lt = absurd (omega (arith, lt))
is_there (x ∷ xs) zero lt = (x, refl)
is_there (x ∷ xs) (suc i) lt = is_there xs i (omega (arith, lt))

-- ---- places of the plain state

abbrev HasValue : Option ℕ → Type 0
HasValue o = (v : ℕ) × (o ≡ Some v)

first_has : (o other : Option ℕ) → HasValue o → HasValue (option_or o other)
first_has o other h = (h.0, ap (λ (a : Option ℕ). option_or a other) h.1)

second_has : (o other : Option ℕ) → HasValue other → HasValue (option_or o other)
second_has None other h = h
second_has (Some v) other h = (v, refl)

objects_have : (os : List Object) (i : ℕ) (o : Object) (x : ℕ) → slice_get os i ≡ Some o → HasValue (value_in o x) → HasValue (object_value os x)
objects_have [] i o x e h = cc
objects_have (y ∷ os) zero o x e h = first_has (value_in y x) (object_value os x) (subst (λ (z : Object). HasValue (value_in z x)) (sym (same_some e)) h)
objects_have (y ∷ os) (suc i) o x e h = second_has (value_in y x) (object_value os x) (objects_have os i o x e h)

has_header : (o : Object) → HasValue (value_in o (header_word o.reference))
has_header o = (header_of o, ap (λ (b : Bool). cond b (Some (header_of o)) (cond (has_value o (header_word o.reference)) (slice_get o.values (header_word o.reference - first_value o)) None)) (is_same (header_word o.reference)))

has_field : (o : Object) (index : ℕ) → index < length o.values → HasValue (value_in o (value_word o.reference index))
has_field o index lt =
    let v : HasValue (slice_get o.values index) = is_there o.values index lt in
    let place : value_word o.reference index - first_value o ≡ index = omega arith in (
      v.0,
      ap (λ (b : Bool). cond b (Some (header_of o)) (inside (has_value o (value_word o.reference index)))) (not_header o.reference index)
          ∙ ap inside (within o.reference index (length o.values) lt) ∙ ap (slice_get o.values) place ∙ v.1,
    )
  where
    inside : Bool → Option ℕ
    inside b = cond b (slice_get o.values (value_word o.reference index - first_value o)) None

    not_header : (r i : ℕ) → (r + 2 + i == r + 1) ≡ false
    not_header r i = grind (arith, nat_tests)

    within : (r i n : ℕ) → i < n → (nat_le (r + 2 + 0) (r + 2 + i) && nat_lt (r + 2 + i) (r + 2 + 0 + n)) ≡ true
    within r i n h = grind (arith, nat_tests, h)

statics_have : (ss : List StaticValue) (i : ℕ) (s : StaticValue) → slice_get ss i ≡ Some s → HasValue (static_value ss s.word)
statics_have [] i s e = cc
statics_have (r ∷ ss) zero s e = subst (λ (z : StaticValue). HasValue (static_value (r ∷ ss) z.word)) (same_some e) (r.value, ap (λ (b : Bool). cond b (Some r.value) (static_value ss r.word)) (is_same r.word))
statics_have (r ∷ ss) (suc i) s e = by_test (r.word == s.word) (statics_have ss i s e)
  where
    by_test : (b : Bool) → HasValue (static_value ss s.word) → HasValue (cond b (Some r.value) (static_value ss s.word))
    by_test true h = (r.value, refl)
    by_test false h = h

-- ---- no new object has them

pub size_two : (p : Program) (word : ℕ) → 2 ≤ size_by p word
size_two p word = by_test (header_class word == INT_ARRAY_CLASS)
  where
    by_test : (b : Bool) → 2 ≤ cond b (2 + header_length word) (2 + instances_among (header_class word) p.fields)
    by_test true = omega arith
    by_test false = omega arith

-- the place is in an object, behind its lock word
not_pending : (c : MarkedProgram) (cfg : Config) (told : Told) (k : Facts c cfg told) (o : Object) (x : ℕ) → Contains k.objects o → o.reference < x → x < object_end o → IsPending told.core.threads x → ⊥
not_pending c cfg told k o x there behind before h =
    let new : IsNewObject c.program k.objects told.core h.2 (size_by c.program h.3) = k.new_objects.each h.0 h.1 h.2 h.3 h.4 h.5 in
    let place : x ≡ h.2 + 1 = h.6 in
    ⊎_elim (λ (a : object_end o ≤ h.2). absurd (omega (arith, a, place, before))) (λ (b : h.2 + size_by c.program h.3 ≤ o.reference). absurd (omega (arith, b, place, behind, size_two c.program h.3))) (new.beside o there)

-- ---- the places that stay

module _ (c : MarkedProgram) (cfg : Config) (told : Told) (q : Plain) (k : FactsBeside c cfg told q) (is : IsProgram c.program) where
  abbrev next_free : ℕ
  next_free = slice_index told.core.words NEXT_FREE_WORD

  -- an object of the facts is one of the plain state
  plain_has : (o : Object) (x : ℕ) → Contains k.facts.objects o → ((e : Object) → e.reference ≡ o.reference → length e.values ≡ length o.values → HasValue (value_in e x)) → o.reference < x → x < object_end o
      → value_at q x ≡ Some (slice_index told.core.words x)
  plain_has o x there has behind before =
      let e = k.objects o there in
      let get : slice_get q.objects e.1.0 ≡ Some e.0 = got_contained q.objects e.1.0 e.0 e.1.1 e.1.2 in
      let v : HasValue (value_at q x) = first_has (object_value q.objects x) (static_value q.statics x) (objects_have q.objects e.1.0 e.0 x get (has e.0 e.2 e.4)) in
      let same : slice_index told.core.words x ≡ v.0 = k.agrees.places x v.0 v.1 (not_pending c cfg told k.facts o x there behind before) in
      v.1 ∙ ap Some (sym same)

  field_there : (t fi x : ℕ) (o : Object) (f : FieldInfo) → slice_get c.program.fields fi ≡ Some f → is_static f.flags ≡ false → IsFieldAt c k.facts.objects k.facts.world next_free t fi x o
      → value_at q x ≡ Some (slice_index told.core.words x)
  field_there t fi x o f get instance at =
      let same : at.field ≡ f = same_some (sym at.is ∙ get) in
      let class : o.class ≡ f.class = at.of_class ∙ ap (λ (g : FieldInfo). g.class) same in
      let place : x ≡ value_word o.reference f.index = at.place ∙ ap (λ (g : FieldInfo). value_word o.reference g.index) same in
      let there : slice_get k.facts.objects at.there.0 ≡ Some o = got_contained k.facts.objects at.there.0 o at.there.1 at.there.2 in
      let sized : length o.values ≡ instances_among o.class c.program.fields = k.facts.apart.sized at.there.0 o there (λ a. absurd (omega (arith, a, class, (is.fields fi f get).class.0))) in
      let below : f.index < length o.values = subst (λ (n : ℕ). f.index < n) (ap (λ (n : ℕ). instances_among n c.program.fields) (sym class) ∙ sym sized) (instances_inside c.program fi f is get instance) in
      subst (λ (n : ℕ). value_at q n ≡ Some (slice_index told.core.words n)) (sym place)
      (plain_has o (value_word o.reference f.index) at.there
      (λ e r l. subst (λ (n : ℕ). HasValue (value_in e (value_word n f.index))) r (has_field e f.index (omega (arith, l, below))))
      (omega arith)
      (omega (arith, below)))

  -- a static field, which lies before all new objects
  static_not_pending : (fi : ℕ) (f : FieldInfo) → slice_get c.program.fields fi ≡ Some f → is_static f.flags ≡ true → IsPending told.core.threads f.index → ⊥
  static_not_pending fi f get static h =
      let new : IsNewObject c.program k.facts.objects told.core h.2 (size_by c.program h.3) = k.facts.new_objects.each h.0 h.1 h.2 h.3 h.4 h.5 in
      let place : f.index ≡ h.2 + 1 = h.6 in
      let low : f.index < words_of c.program = (statics_inside c.program fi f is get static).1 in
      omega (arith, place, low, new.begins)

  static_there : (fi x : ℕ) (f : FieldInfo) → slice_get c.program.fields fi ≡ Some f → is_static f.flags ≡ true → x ≡ f.index → value_at q x ≡ Some (slice_index told.core.words x)
  static_there fi x f get static place =
      let s = k.statics fi f get static in
      let there : slice_get q.statics s.1.0 ≡ Some s.0 = got_contained q.statics s.1.0 s.0 s.1.1 s.1.2 in
      let v : HasValue (value_at q f.index) = second_has (object_value q.objects f.index) (static_value q.statics f.index) (subst (λ (n : ℕ). HasValue (static_value q.statics n)) s.2 (statics_have q.statics s.1.0 s.0 there)) in
      let same : slice_index told.core.words f.index ≡ v.0 = k.agrees.places f.index v.0 v.1 (static_not_pending fi f get static) in
      subst (λ (n : ℕ). value_at q n ≡ Some (slice_index told.core.words n)) (sym place) (v.1 ∙ ap Some (sym same))

  stays : (t m x : ℕ) → Stays c k.facts.owning.stores k.facts.objects k.facts.world next_free t m x → value_at q x ≡ Some (slice_index told.core.words x)
  stays t m x (header o there place) =
      subst (λ (n : ℕ). value_at q n ≡ Some (slice_index told.core.words n)) (sym place)
      (plain_has o (header_word o.reference) there (λ e r l. subst (λ (n : ℕ). HasValue (value_in e (header_word n))) r (has_header e)) (omega arith) (omega arith))
  stays t m x (frozen fi o field at) = field_there t fi x o field.field field.is field.instance at
  stays t m x (guarded fi o field on at) = field_there t fi x o field.field field.is field.instance at
  stays t m x (element fi o owned there on e) =
      subst (λ (n : ℕ). value_at q n ≡ Some (slice_index told.core.words n)) (sym e.place)
      (plain_has e.array (value_word e.array.reference e.index) e.there
      (λ o r l. subst (λ (n : ℕ). HasValue (value_in o (value_word n e.index))) r (has_field o e.index (omega (arith, l, e.inside))))
      (omega arith)
      (omega (arith, e.inside)))
  stays t m x (frozen_static fi field place) = static_there fi x field.field field.is field.static place
  stays t m x (guarded_static fi field on place) = static_there fi x field.field field.is field.static place

  -- ---- the monitor

  abbrev lock : (m : ℕ) → LockWord
  lock m = lock_at (references_of k.facts.objects) told.core.words m

  free_word_is : (n : ℕ) → lock_of (4 * n) ≡ locks.Free n
  free_word_is n =
      let kind : (4 * n) % 4 ≡ 0 = omega arith in
      let upper : (4 * n) / 4 ≡ n = omega arith in
      ap (λ (a : ℕ). lock_by a ((4 * n) / 4)) kind ∙ ap locks.Free upper

  is_free : (m noted : ℕ) → slice_index told.core.words m ≡ 4 * noted → (count : ℕ) × (lock m ≡ locks.Free count)
  is_free m noted e = by_test (has_number (references_of k.facts.objects) m) refl
    where
      by_test : (b : Bool) → has_number (references_of k.facts.objects) m ≡ b → (count : ℕ) × (cond b (lock_of (slice_index told.core.words m)) (locks.Free 0) ≡ locks.Free count)
      by_test true h = (noted, ap lock_of e ∙ free_word_is noted)
      by_test false h = (0, refl)

  kept_is_held : (kept : Kept) → hold_by_kept kept ≡ NotHeld → ⊥
  kept_is_held (keeps.Flat count) e = cc
  kept_is_held (keeps.Fat r) e = cc

  not_held : (held : Option Held) → hold_by_list held ≡ NotHeld → held ≡ None
  not_held None e = refl
  not_held (Some h) e = absurd (kept_is_held h.kept e)

  no_depth : (m count : ℕ) → lock m ≡ locks.Free count → (t : ℕ) (o : Option Thread) → slice_get told.core.threads t ≡ o → depth_of o m ≡ None
  no_depth m count free t None e = refl
  no_depth m count free t (Some x) e =
      let none : hold_by_list (held_at x.held m) ≡ NotHeld = sym ((k.facts.owners.each t x e).holds m) ∙ ap (λ (l : LockWord). hold_by_word t l (owner_at told.core.words)) free in
      ap (option_map (λ (h : Held). h.depth)) (not_held (held_at x.held m) none)

  none_holds : (m count : ℕ) → lock m ≡ locks.Free count → (o : Option Holding) → holding_at q.holdings m ≡ o → holding_at q.holdings m ≡ None
  none_holds m count free None e = e
  none_holds m count free (Some h) e =
      let depth : depth_for h.holder (Some h) ≡ None = ap (depth_for h.holder) (sym e) ∙ k.agrees.monitors h.holder m ∙ no_depth m count free h.holder (slice_get told.core.threads h.holder) refl in
      let some : Some h.depth ≡ None = sym (ap (λ (b : Bool). cond b (Some h.depth) None) (is_same h.holder)) ∙ depth in
      absurd (cc)

  monitor_is_free : (m noted : ℕ) → slice_index told.core.words m ≡ 4 * noted → holding_at q.holdings m ≡ None
  monitor_is_free m noted e = let f = is_free m noted e in none_holds m f.0 f.1 (holding_at q.holdings m) refl

  monitor_is_there : (t : ℕ) (x : Thread) (a : Attempt) → slice_get told.core.threads t ≡ Some x → x.attempt ≡ Some a → a.monitor ≢ 0
  monitor_is_there t x a e tries none =
      let holds : AttemptHolds c (HasClass k.facts.objects) x.frames (Some a) = subst (λ (o : Option Attempt). AttemptHolds c (HasClass k.facts.objects) x.frames o) tries (k.facts.typed.threads t x e).attempt in
      let object = holds.0.1 in
      let get : slice_get k.facts.objects object.1.0 ≡ Some object.0 = got_contained k.facts.objects object.1.0 object.0 object.1.1 object.1.2 in
      let begins = k.facts.apart.begin object.1.0 object.0 get in
      omega (arith, begins, object.2, none)

  -- ---- the attempt

  leads : (t : ℕ) (x : Thread) (a : Attempt) → slice_get told.core.threads t ≡ Some x → x.attempt ≡ Some a → IsAsNoted told.core.words a → (ended : List End)
      → replayed c.program a.monitor (value_at q) (past_at told t).due (at_entry x a ended) ≡ Some (at_present x a (k.facts.was t) (past_at told t).pending ended)
  leads t x a e tries noted ended =
      let owes : Owes c k.facts.owning.stores k.facts.objects k.facts.world told.core t (k.facts.was t) x (Some a) (past_at told t)
      = subst (λ (o : Option Attempt). Owes c k.facts.owning.stores k.facts.objects k.facts.world told.core t (k.facts.was t) x o (past_at told t)) tries (k.facts.attempts.each t x e) in
      owes.1 noted (value_at q) (stays t a.monitor) ended

  enters : (t : ℕ) (x : Thread) (a : Attempt) (y : PlainThread) → slice_get q.threads t ≡ Some y → AttemptFits x a y → IsAsNoted told.core.words a
      → plain_step c.program q (record { thread = t; act = acts.Enter }) ≡ Some (stands_as q t a.monitor (at_entry x a y.ended))
  enters t x a y e fits noted =
      let now : PlainThread = record y { status = plain.Run } in
      let then : PlainThread = (at_entry x a y.ended).thread in
      let same : now ≡ then = λ i. record { frames = fits.frames i; status = plain.Run; roots = fits.roots i; ended = y.ended } in
      ap (step_of c.program q t acts.Enter) e
      ∙ ap (step_at c.program q t y acts.Enter) fits.status
      ∙ ap (plain_entered q t a.monitor y) (monitor_is_free a.monitor a.noted noted)
      ∙ ap (λ (z : PlainThread). Some (stands_as q t a.monitor (record { thread = z; depth = 1; begun = 0 }))) same

  reaches : (t : ℕ) (x : Thread) (a : Attempt) (y : PlainThread) → slice_get told.core.threads t ≡ Some x → x.attempt ≡ Some a → IsAsNoted told.core.words a → slice_get q.threads t ≡ Some y → AttemptFits x a y
      → ReachesPresent c.program q t (k.facts.was t) x (past_at told t).due
  reaches t x a y e tries noted g fits =
      let m : ℕ = a.monitor in
      let entry : Alone = at_entry x a y.ended in
      let present : Alone = at_present x a (k.facts.was t) (past_at told t).pending y.ended in
      let inside : Plain = stands_as q t m entry in
      let stands : Stands inside t m entry = stands_after q t m y entry g in
      let run : plain_run c.program inside (steps_of t (past_at told t).due) ≡ Some (stands_as inside t m present)
      = played c.program inside t m (past_at told t).due entry present stands (monitor_is_there t x a e tries) (leads t x a e tries noted y.ended) in
      record {
        after = stands_as inside t m present;
        run = ap (option_and_then (λ r. plain_run c.program r (steps_of t (past_at told t).due))) (enters t x a y g fits noted) ∙ run;
        thread = present.thread;
        is = got_when_set inside.threads t entry.thread present.thread stands.thread;
        frames = refl;
        status = refl;
        roots = refl;
      }

  pub attempt_runs : (t : ℕ) (x : Thread) (a : Attempt) → slice_get told.core.threads t ≡ Some x → x.attempt ≡ Some a → IsAsNoted told.core.words a → ReachesPresent c.program q t (k.facts.was t) x (past_at told t).due
  attempt_runs t x a e tries noted =
      let y : (z : PlainThread) × (slice_get q.threads t ≡ Some z) = is_there q.threads t (omega (arith, k.agrees.many, got_below told.core.threads t x e)) in
      let fits : ThreadFits c.program (has_wait_bit (references_of q.objects) told.core.words t) x (Some a) y.0
      = subst (λ (o : Option Attempt). ThreadFits c.program (has_wait_bit (references_of q.objects) told.core.words t) x o y.0) tries (k.agrees.threads t x y.0 e y.1) in
      reaches t x a y.0 e tries noted y.1 fits

pub attempts_are_plain : AttemptsArePlain
attempts_are_plain c cfg told q k is t x a e tries noted = attempt_runs c cfg told q k is t x a e tries noted
