-- Tests of a program that is written out, from which it follows that a class is frozen and a field guarded.
use Rattle.std.proofs.Common.{◌≡◌, ◌<◌, ℕ, zero, suc, Bool, true, false, List, [], ◌∷◌, length, Option, Some, refl, sym, subst, arith, ◌==◌, ◌+◌, ◌&&◌, ◌||◌, not, drop, slice_get, slice_index_or}
use Rattle.std.{specs.List.list_any, proofs.lemmas.Bool.{eqb-true, eq-eqb, and_parts, Decides.nat_tests}}
use Rattle.jvm_types.specs.{CodeTable.is_init, Numbers.has_number, Verifying.edges, declared.{code.{Insn.Insn, Op.Op}, program.{MethodInfo.MethodInfo, Program.Program, Target.Target}}}
use Rattle.checked_program.specs.FrozenPlaces.{may_take, KeepThis, KeepsThis, is_final_of, PutsOnThis, KeepsInside, IsFrozenClass, stands_guarded, PutsGuarded, writes_class, PutsStatic}
use Rattle.checked_program.specs.{LockTags.{TagShape, is_this, entry_tags}, TaggedCode.{Tagged, IsAt, Goes, onward, caught, row_of}, Tagging.{tags_after, catchers, tags_at_handler}}
use Rattle.checked_program.{specs.declared.tag.Tag.{Tag, TheVariants.{Untagged, This}}, proofs.EachReached.{Test, all_in, in_method}}
use Rattle.jvm_types.specs.declared.code.Op.TheVariants as ops
use Rattle.jvm_types.specs.declared.program.Target.TheVariants as targets

-- ---- tests of a tag

abbrev pub unless_this : Tag → Bool → Bool
unless_this t b = not (is_this t) || b

pub if_this : (t : Tag) (b : Bool) → unless_this t b ≡ true → t ≡ This → b ≡ true
if_this This b e h = e
if_this t b e h = cc

pub that_is_this : (t : Tag) → is_this t ≡ true → t ≡ This
that_is_this This e = refl
that_is_this t e = cc

pub implied : (a b : Bool) → not a || b ≡ true → a ≡ true → b ≡ true
implied true b e h = e
implied false b e h = cc

-- ---- what is taken

abbrev pub below : (ℕ → Bool) → ℕ → Bool
below q zero = true
below q (suc n) = q n && below q n

pub by_place : (q : ℕ → Bool) (n k : ℕ) → below q n ≡ true → k < n → q k ≡ true
by_place q zero k e lt = absurd (grind arith)
by_place q (suc n) k e lt = by_last (k == n) refl (λ l. by_place q n k (and_parts (q n) (below q n) e).1 l)
  where
    by_last : (b : Bool) → (k == n) ≡ b → (k < n → q k ≡ true) → q k ≡ true
    by_last true h more = subst (λ (j : ℕ). q j ≡ true) (sym (eqb-true k n h)) (and_parts (q n) (below q n) e).0
    by_last false h more = more (grind (arith, nat_tests))

abbrev pub takes_well : Program → Test
takes_well p m insn target f = below (λ k. unless_this (slice_index_or f.stack k Untagged) (may_take p m.class insn.op target k)) (length (row_of p m insn target).takes)

-- ---- what keeps `this`

abbrev pub keep_this : List Tag → List Tag → Bool
keep_this [] us = true
keep_this (t ∷ ts) us = unless_this t (is_this (slice_index_or us 0 Untagged)) && keep_this ts (drop 1 us)

pub keeps_each : (ts us : List Tag) → keep_this ts us ≡ true → KeepThis ts us
keeps_each [] us e k h = cc
keeps_each (t ∷ ts) us e zero h = that_is_this _ (if_this t _ (and_parts (unless_this t (is_this (slice_index_or us 0 Untagged))) (keep_this ts (drop 1 us)) e).0 h)
keeps_each (t ∷ ts) [] e (suc k) h = keeps_each ts [] (and_parts (unless_this t false) (keep_this ts []) e).1 k h
keeps_each (t ∷ ts) (u ∷ us) e (suc k) h = keeps_each ts us (and_parts (unless_this t (is_this u)) (keep_this ts us) e).1 k h

abbrev pub keeps_this : TagShape → TagShape → Bool
keeps_this f g = keep_this f.stack g.stack && keep_this f.locals g.locals

pub keeps_frame : (f g : TagShape) → keeps_this f g ≡ true → KeepsThis f g
keeps_frame f g e = let h : (keep_this f.stack g.stack ≡ true) × (keep_this f.locals g.locals ≡ true) = and_parts (keep_this f.stack g.stack) (keep_this f.locals g.locals) e in
    record { stack = keeps_each f.stack g.stack h.0; locals = keeps_each f.locals g.locals h.1 }

-- an edge to each other instruction
abbrev pub edge_keeps : Program → MethodInfo → Insn → Target → TagShape → Insn → TagShape → Bool
edge_keeps p m insn target f other g = (not (has_number (edges insn) other.pc) || keeps_this (tags_after insn (row_of p m insn target) f) g)
    && (not (list_any (λ handler. handler.handler == other.pc) (catchers m insn)) || keeps_this (tags_at_handler f) g)

abbrev pub joins_well : Program → Tagged → ℕ → Test
joins_well p tags mi m insn target f = all_in (λ n other next g. edge_keeps p m insn target f other g) p tags mi

pub edge_is_kept : (p : Program) (m : MethodInfo) (insn : Insn) (target : Target) (f : TagShape) (other : Insn) (g h : TagShape) → edge_keeps p m insn target f other g ≡ true → Goes p m insn target f other h → KeepsThis h g
edge_is_kept p m insn target f _ g _ e (onward other goes) = keeps_frame _ g (implied (has_number (edges insn) other.pc) _ (and_parts (not (has_number (edges insn) other.pc) || keeps_this (tags_after insn (row_of p m insn target) f) g)
    (not (list_any (λ handler. handler.handler == other.pc) (catchers m insn)) || keeps_this (tags_at_handler f) g) e).0 goes)
edge_is_kept p m insn target f _ g _ e (caught other goes) = keeps_frame _ g (implied (list_any (λ handler. handler.handler == other.pc) (catchers m insn)) _ (and_parts (not (has_number (edges insn) other.pc) || keeps_this (tags_after insn (row_of p m insn target) f) g)
    (not (list_any (λ handler. handler.handler == other.pc) (catchers m insn)) || keeps_this (tags_at_handler f) g) e).1 goes)

-- ---- what is put

abbrev pub puts_final : Program → MethodInfo → Op → Target → TagShape → Bool
puts_final p m (ops.Putfield i) (targets.Field fi) f = not (is_final_of m.class (slice_get p.fields fi)) || is_this (slice_index_or f.stack 1 Untagged)
puts_final p m op target f = true

pub final_is_put : (p : Program) (m : MethodInfo) (op : Op) (target : Target) (f : TagShape) → puts_final p m op target f ≡ true → PutsOnThis p m op target f
final_is_put p m (ops.Putfield i) (targets.Field fi) f e = λ h. that_is_this _ (implied (is_final_of m.class (slice_get p.fields fi)) _ e h)
final_is_put p m op target f e = tt

abbrev pub writes_guarded : MethodInfo → TagShape → Bool
writes_guarded m f = is_this (slice_index_or f.stack 1 Untagged) && stands_guarded m f

abbrev pub puts_guarded : ℕ → MethodInfo → Op → Target → TagShape → Bool
puts_guarded fi m (ops.Putfield i) (targets.Field other) f = not (other == fi) || writes_guarded m f
puts_guarded fi m op target f = true

pub guarded_is_put : (fi : ℕ) (m : MethodInfo) (op : Op) (target : Target) (f : TagShape) → puts_guarded fi m op target f ≡ true → PutsGuarded fi m op target f
guarded_is_put fi m (ops.Putfield i) (targets.Field other) f e = λ h.
    let w : (is_this (slice_index_or f.stack 1 Untagged) ≡ true) × (stands_guarded m f ≡ true) = and_parts _ _ (implied (other == fi) (writes_guarded m f) e (eq-eqb other fi h)) in
    (that_is_this _ w.0, w.1)
guarded_is_put fi m op target f e = tt

abbrev pub puts_static : (fi class : ℕ) → MethodInfo → Op → Target → Bool
puts_static fi class m (ops.Putstatic i) (targets.Field other) = not (other == fi) || writes_class class m
puts_static fi class m op target = true

pub static_is_put : (fi class : ℕ) (m : MethodInfo) (op : Op) (target : Target) → puts_static fi class m op target ≡ true → PutsStatic fi class m op target
static_is_put fi class m (ops.Putstatic i) (targets.Field other) e = λ h. implied (other == fi) (writes_class class m) e (eq-eqb other fi h)
static_is_put fi class m op target e = tt

-- ---- each method of a program

abbrev pub all_methods : (ℕ → MethodInfo → Bool) → ℕ → List MethodInfo → Bool
all_methods q mi [] = true
all_methods q mi (m ∷ ms) = q mi m && all_methods q (suc mi) ms

pub by_method : (q : ℕ → MethodInfo → Bool) (from : ℕ) (ms : List MethodInfo) (mi : ℕ) (m : MethodInfo) → all_methods q from ms ≡ true → slice_get ms mi ≡ Some m → q (from + mi) m ≡ true
by_method q from [] mi m e h = cc
by_method q from (n ∷ ms) zero m e h = let x : n ≡ m = cc in let y : from + 0 ≡ from = omega arith in
    subst (λ (a : MethodInfo). q (from + 0) a ≡ true) x (subst (λ (j : ℕ). q j n ≡ true) (sym y) (and_parts (q from n) (all_methods q (suc from) ms) e).0)
by_method q from (n ∷ ms) (suc mi) m e h = let y : suc from + mi ≡ from + suc mi = omega arith in
    subst (λ (j : ℕ). q j m ≡ true) y (by_method q (suc from) ms mi m (and_parts (q from n) (all_methods q (suc from) ms) e).1 h)

pub of_program : (q : ℕ → MethodInfo → Bool) (ms : List MethodInfo) (mi : ℕ) (m : MethodInfo) → all_methods q 0 ms ≡ true → slice_get ms mi ≡ Some m → q mi m ≡ true
of_program q ms mi m e h = let y : 0 + mi ≡ mi = omega arith in subst (λ (j : ℕ). q j m ≡ true) y (by_method q 0 ms mi m e h)

-- ---- the entry

abbrev pub first_keeps : Option MethodInfo → Option (List (Option TagShape)) → Bool
first_keeps (Some m) (Some (Some f ∷ frames)) = keeps_this (entry_tags m) f
first_keeps m frames = true

pub first_is_kept : (m : MethodInfo) (f : TagShape) (frames : List (Option TagShape)) → slice_get frames 0 ≡ Some (Some f) → first_keeps (Some m) (Some frames) ≡ true → KeepsThis (entry_tags m) f
first_is_kept m f (Some g ∷ frames) h e = let x : g ≡ f = cc in subst (λ (s : TagShape). KeepsThis (entry_tags m) s) x (keeps_frame (entry_tags m) g e)
first_is_kept m f frames h e = cc

pub entry_is_kept : (p : Program) (tags : Tagged) (mi : ℕ) → first_keeps (slice_get p.methods mi) (slice_get tags mi) ≡ true
    → (m : MethodInfo) (insn : Insn) (target : Target) (f : TagShape) → IsAt p tags mi 0 m insn target f → KeepsThis (entry_tags m) f
entry_is_kept p tags mi e m insn target f at = first_is_kept m f at.frames at.frame (subst (λ (o : Option MethodInfo). first_keeps o (Some at.frames) ≡ true) at.in_program
    (subst (λ (o : Option (List (Option TagShape))). first_keeps (slice_get p.methods mi) o ≡ true) at.of_method e))

-- ---- the whole

abbrev pub finals_well : Program → Test
finals_well p m insn target f = puts_final p m insn.op target f

abbrev pub keeps_inside : Program → Tagged → ℕ → Bool
keeps_inside p tags mi = all_in (takes_well p) p tags mi && (first_keeps (slice_get p.methods mi) (slice_get tags mi) && (all_in (joins_well p tags mi) p tags mi && all_in (finals_well p) p tags mi))

pub is_inside : (p : Program) (tags : Tagged) (mi : ℕ) (m : MethodInfo) → keeps_inside p tags mi ≡ true → KeepsInside p tags mi m
is_inside p tags mi m e =
    let a : (all_in (takes_well p) p tags mi ≡ true) × (first_keeps (slice_get p.methods mi) (slice_get tags mi) && (all_in (joins_well p tags mi) p tags mi && all_in (finals_well p) p tags mi) ≡ true) = and_parts _ _ e in
    let b : (first_keeps (slice_get p.methods mi) (slice_get tags mi) ≡ true) × (all_in (joins_well p tags mi) p tags mi && all_in (finals_well p) p tags mi ≡ true) = and_parts _ _ a.1 in
    let c : (all_in (joins_well p tags mi) p tags mi ≡ true) × (all_in (finals_well p) p tags mi ≡ true) = and_parts _ _ b.1 in
    record {
      taken = λ i insn target f at k lt h. if_this (slice_index_or f.stack k Untagged) _ (by_place (λ k. unless_this (slice_index_or f.stack k Untagged) (may_take p m.class insn.op target k)) _ k (in_method (takes_well p) p tags mi a.0 i m insn target f at) lt) h;
      entered = λ insn target f at. entry_is_kept p tags mi b.0 m insn target f at;
      joined = λ i j insn other target next f g h from to goes. edge_is_kept p m insn target f other g h
          (in_method (λ n o x s. edge_keeps p m insn target f o s) p tags mi (in_method (joins_well p tags mi) p tags mi c.0 i m insn target f from) j m other next g to) goes;
      finals = λ i insn target f at. final_is_put p m insn.op target f (in_method (finals_well p) p tags mi c.1 i m insn target f at);
    }

-- all classes of the program are frozen
abbrev pub all_frozen : Program → Tagged → Bool
all_frozen p tags = all_methods (λ mi m. not (is_init m) || keeps_inside p tags mi) 0 p.methods

pub is_frozen : (p : Program) (tags : Tagged) (c : ℕ) → all_frozen p tags ≡ true → IsFrozenClass p tags c
is_frozen p tags c e mi m h k init = is_inside p tags mi m (implied (is_init m) _ (of_program (λ mi m. not (is_init m) || keeps_inside p tags mi) p.methods mi m e h) init)

-- a field is written as a guarded one
abbrev pub all_guarded : ℕ → Program → Tagged → Bool
all_guarded fi p tags = all_methods (λ mi m. all_in (λ n insn target f. puts_guarded fi n insn.op target f) p tags mi) 0 p.methods

pub is_written_guarded : (fi : ℕ) (p : Program) (tags : Tagged) → all_guarded fi p tags ≡ true → (mi i : ℕ) (m : MethodInfo) (insn : Insn) (target : Target) (f : TagShape) → IsAt p tags mi i m insn target f → PutsGuarded fi m insn.op target f
is_written_guarded fi p tags e mi i m insn target f at = guarded_is_put fi m insn.op target f
    (in_method (λ n insn target f. puts_guarded fi n insn.op target f) p tags mi (of_program (λ mi m. all_in (λ n insn target f. puts_guarded fi n insn.op target f) p tags mi) p.methods mi m e at.in_program) i m insn target f at)

-- a static field is written as a guarded one of a class
abbrev pub all_static : (fi class : ℕ) → Program → Tagged → Bool
all_static fi class p tags = all_methods (λ mi m. all_in (λ n insn target f. puts_static fi class n insn.op target) p tags mi) 0 p.methods

pub is_written_static : (fi class : ℕ) (p : Program) (tags : Tagged) → all_static fi class p tags ≡ true → (mi i : ℕ) (m : MethodInfo) (insn : Insn) (target : Target) (f : TagShape) → IsAt p tags mi i m insn target f → PutsStatic fi class m insn.op target
is_written_static fi class p tags e mi i m insn target f at = static_is_put fi class m insn.op target
    (in_method (λ n insn target f. puts_static fi class n insn.op target) p tags mi (of_program (λ mi m. all_in (λ n insn target f. puts_static fi class n insn.op target) p tags mi) p.methods mi m e at.in_program) i m insn target f at)
