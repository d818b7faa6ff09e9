-- All facts hold at the start of a run.
use Rattle.std.proofs.Common.{◌≡◌, inl, ℕ, zero, suc, pos, ◌<◌, ◌%◌, ◌^◌, true, false, List, Option, Some, None, refl, sym, ap, subst, ◌∙◌, arith, Bool, Contains, slice_get, slice_index, cond}
use Rattle.std.specs.Int.{w32, cast_unsigned}
use Rattle.jvm_types.specs.{Layout.kept_int, Members.is_static, ProgramInvariant.{IsProgram, words_of}, declared.program.{FieldInfo.FieldInfo, Kind.Kind, Program.Program}}
use Rattle.checked_program.specs.MarkedProgram.{MarkedProgram}
use Rattle.machine_types.specs.{Attempts.{Attempts, Owes}, Construction.{AreFrozen, AreOwned, Construction, KindKeeps, PlaceStores}, Core.{start, start_thread}, History.{told_start, past_at}, Ints.word_of}
use Rattle.machine_types.specs.{NewObjects.NewObjects, OwnedPlaces.nowhere, PlainMemory.{Object, start_objects}, StartLaws.{StartHasFacts, phase_at_start}, StartWords.start_words, Threads.{Attempt, Thread, Config}}
use Rattle.machine_types.specs.{Typed.{Typed, PlacesHold, HasClass, KindHolds}, Worlds.World, declared.phase.Phase.Phase}
use Rattle.machine_types.proofs.{AtStart.{IsFreshPhase, starts, idles, is_over, is_start_thread, phase_is_fresh, has_threads, is_structured, is_typed, keeps, owes_nothing, waits}, Lists.got_contained}
use Rattle.machine_types.proofs.{OwnersAtStart.start_owns_all, PlacesAtStart.{lies_apart, is_unused, IsPlaced, object_placed, stands, class_from}, WordsAtStart.{header_is, static_is}}
use Rattle.jvm_types.specs.declared.program.Kind.TheVariants as kinds
use Rattle.machine_types.specs.declared.phase.Phase.TheVariants as phases

-- ---- no phase of the start has an element or a new object, and no thread an attempt

fresh_phase : (c : MarkedProgram) (cfg : Config) (t : ℕ) (x : Thread) → slice_get (start c cfg).threads t ≡ Some x → IsFreshPhase x.phase
fresh_phase c cfg t x e = subst (λ (y : Thread). IsFreshPhase y.phase) (is_start_thread c cfg t x e) (phase_is_fresh c cfg t)

no_element : (phase : Phase) (word : ℕ) (stored : Option ℕ) → IsFreshPhase phase → phase ≡ phases.Element word stored → ⊥
no_element _ word stored starts e = cc
no_element _ word stored idles e = cc
no_element _ word stored is_over e = cc

none_made : (phase : Phase) (a word : ℕ) → IsFreshPhase phase → phase ≡ phases.Made a word → ⊥
none_made _ a word starts e = cc
none_made _ a word idles e = cc
none_made _ a word is_over e = cc

no_attempt : (c : MarkedProgram) (cfg : Config) (t : ℕ) → (start_thread c cfg t).attempt ≡ None
no_attempt c cfg zero = refl
no_attempt c cfg (suc t) = refl

-- ---- the objects

at_start : (p : Program) → IsProgram p → (o : Object) → Contains (start_objects p) o → IsPlaced o (words_of p)
at_start p is o k = let get : slice_get (start_objects p) k.0 ≡ Some o = got_contained (start_objects p) k.0 o k.1 k.2 in object_placed p k.0 o (stands p is k.0 o get)

-- none of them has a field of a file's class
not_of_file : (p : Program) → IsProgram p → (o : Object) (n : ℕ) (f : FieldInfo) → Contains (start_objects p) o → slice_get p.fields n ≡ Some f → o.class ≡ f.class → ⊥
not_of_file p is o n f k e same = absurd (omega (arith, (at_start p is o k).built_in, class_from p is n f e, same))

-- ---- static fields: an int of 32 bits, or null

start_kept : (p : Program) → IsProgram p → (n : ℕ) (f : FieldInfo) → slice_get p.fields n ≡ Some f → is_static f.flags ≡ true → f.start ≡ kept_int f.kind f.start
start_kept p is n f e s = (is.fields n f e).start_kept ∙ ap (λ b. cond b (kept_int f.kind f.start) (pos 0)) s

low_below : (n : ℕ) → n % 2 ^ 32 < 2 ^ 32
low_below n = omega arith

int_below : (p : Program) → IsProgram p → (n : ℕ) (f : FieldInfo) → slice_get p.fields n ≡ Some f → is_static f.flags ≡ true → slice_index (start_words p) f.index < 2 ^ 32
int_below p is n f e s = subst (λ (v : ℕ). v < 2 ^ 32) (sym (static_is p is n f e s)) (low_below (cast_unsigned w32 f.start))

null_at : (p : Program) → IsProgram p → (n class : ℕ) (f : FieldInfo) → slice_get p.fields n ≡ Some f → is_static f.flags ≡ true → f.kind ≡ kinds.Ref class → slice_index (start_words p) f.index ≡ 0
null_at p is n class f e s k = static_is p is n f e s ∙ ap word_of (start_kept p is n f e s ∙ ap (λ (kind : Kind). kept_int kind f.start) k)

static_holds : (p : Program) (objects : List Object) → IsProgram p → (n : ℕ) (f : FieldInfo) (kind : Kind) → slice_get p.fields n ≡ Some f → is_static f.flags ≡ true → f.kind ≡ kind → KindHolds (HasClass objects) kind (slice_index (start_words p) f.index)
static_holds p objects is n f kinds.Int e s k = int_below p is n f e s
static_holds p objects is n f kinds.Bool e s k = int_below p is n f e s
static_holds p objects is n f (kinds.Ref class) e s k = inl (null_at p is n class f e s k)

-- ---- the facts on places

abbrev no_world : World
no_world v = None

static_keeps : (p : Program) → IsProgram p → (n : ℕ) (f : FieldInfo) (kind : Kind) → slice_get p.fields n ≡ Some f → is_static f.flags ≡ true → f.kind ≡ kind → KindKeeps no_world (words_of p) kind (slice_index (start_words p) f.index)
static_keeps p is n f kinds.Int e s k = tt
static_keeps p is n f kinds.Bool e s k = tt
static_keeps p is n f (kinds.Ref class) e s k = (omega (arith, null_at p is n class f e s k), refl)

-- no array was stored in an owned field
none_stored : (kind : Kind) (word v : ℕ) → PlaceStores nowhere word false kind v
none_stored kinds.Int word v = tt
none_stored kinds.Bool word v = tt
none_stored (kinds.Ref class) word v = refl

places_hold : (p : Program) → IsProgram p → PlacesHold p (start_objects p) (start_words p)
places_hold p is = record {
  headers = λ o k. header_is p is k.0 o (got_contained (start_objects p) k.0 o k.1 k.2);
  fields = λ o n f k e s same. absurd (not_of_file p is o n f k e same);
  elements = λ o i k a lt. absurd (omega (arith, (at_start p is o k).empty, lt));
  statics = λ n f e s. static_holds p (start_objects p) is n f f.kind e s refl;
}

typed : (c : MarkedProgram) (cfg : Config) → IsProgram c.program → Typed c (start_objects c.program) (start c cfg)
typed c cfg is = record {
  threads = is_typed c cfg (start_objects c.program);
  elements = λ t x word stored e k. absurd (no_element x.phase word stored (fresh_phase c cfg t x e) k);
  places = places_hold c.program is;
}

new_objects : (c : MarkedProgram) (cfg : Config) → NewObjects c.program (start_objects c.program) (start c cfg)
new_objects c cfg = record {
  each = λ t x a word e k. absurd (none_made x.phase a word (fresh_phase c cfg t x e) k);
  apart = λ t u x y a b word other e h ne k l. absurd (none_made x.phase a word (fresh_phase c cfg t x e) k);
}

pub none_built : {X : Type 0} (x : X) → None ≡ Some x → ⊥
none_built x e = cc

pub construction : (c : MarkedProgram) (cfg : Config) (frozen owned : ℕ → Bool) → IsProgram c.program → AreFrozen c frozen → AreOwned c owned → Construction c frozen (record { owned = owned; stores = nowhere }) no_world (phase_at_start c cfg) (start_objects c.program) (start c cfg)
construction c cfg frozen owned is are owned_are = record {
  frozen_are = are;
  owned_are = owned_are;
  world = record { one = λ v u b lost e h. absurd (none_built b e); inside = λ v b e. absurd (none_built b e); room = omega arith };
  each = λ t x e. keeps c cfg frozen (record { owned = owned; stores = nowhere }) no_world (words_of c.program) t x e;
  places = record {
    fields = λ o n f k e s same. absurd (not_of_file c.program is o n f k e same);
    statics = λ n f e s. static_keeps c.program is n f f.kind e s refl;
    arrays = λ o n f k e s same. absurd (not_of_file c.program is o n f k e same);
    static_arrays = λ n f e s. none_stored f.kind f.index (slice_index (start_words c.program) f.index);
    stored = λ v word e. absurd (none_built word e);
  };
}

attempts : (c : MarkedProgram) (cfg : Config) → Attempts c nowhere (start_objects c.program) no_world (phase_at_start c cfg) (told_start c cfg)
attempts c cfg = record {
  each = λ t x e.
      let none : x.attempt ≡ None = sym (ap (λ (y : Thread). y.attempt) (is_start_thread c cfg t x e)) ∙ no_attempt c cfg t in
      subst (λ (o : Option Attempt). Owes c nowhere (start_objects c.program) no_world (start c cfg) t (phase_at_start c cfg t) x o (past_at (told_start c cfg) t)) (sym none) (owes_nothing c cfg t);
}

-- ---- all of them

pub facts : StartHasFacts
facts c cfg frozen owned is are owned_are = record {
  was = phase_at_start c cfg;
  objects = start_objects c.program;
  world = no_world;
  frozen = frozen;
  owning = record { owned = owned; stores = nowhere };
  own = has_threads c cfg;
  started = λ o k. (o, k, refl, refl);
  apart = lies_apart c.program is;
  unused = is_unused c cfg is;
  structure = is_structured c cfg;
  owners = start_owns_all c cfg is;
  waiting = waits c cfg;
  typed = typed c cfg is;
  new_objects = new_objects c cfg;
  construction = construction c cfg frozen owned is are owned_are;
  attempts = attempts c cfg;
}

pub objects_are : (c : MarkedProgram) (cfg : Config) (frozen owned : ℕ → Bool) (is : IsProgram c.program) (are : AreFrozen c frozen) (owned_are : AreOwned c owned) → (facts c cfg frozen owned is are owned_are).objects ≡ start_objects c.program
unfolding facts
objects_are c cfg frozen owned is are owned_are = refl
