-- Tests of a program that is written out, from which it follows that an array field is owned, and which elements are read.
use Rattle.std.proofs.Common.{◌≡◌, ℕ, zero, suc, Bool, true, false, List, [], ◌∷◌, length, Option, Some, None, refl, ap, subst, ◌↔◌, ◌==◌, ◌&&◌, ◌||◌, not, map, replicate, slice_get, slice_index_or}
use Rattle.std.{specs.List.{list_any, AllZip}, proofs.lemmas.{Bool.{eq-eqb, and_parts, false≢true, not-true}, List.length-replicate}}
use Rattle.jvm_types.specs.{Numbers.has_number, Verifying.edges, declared.{class_numbers.TheConstants.INT_ARRAY_CLASS, code.{Insn.Insn, Op.Op}, program.{FieldInfo.FieldInfo, Kind.Kind}}}
use Rattle.jvm_types.specs.declared.program.{MethodInfo.MethodInfo, Program.Program, Target.Target}
use Rattle.checked_program.specs.{Colours.{ColourShape, entry_colours, colours_after, colours_at_handler, is_coloured, IsColouring}, FrozenPlaces.{stands_guarded, AreFieldUses}, Tagging.catchers}
use Rattle.checked_program.specs.{LockTags.{TagShape, is_this}, TaggedCode.{Tagged, IsAt, row_of}, declared.{section.{FieldUse.FieldUse, Uses.Uses}, tag.Tag.TheVariants.{Untagged}}}
use Rattle.checked_program.specs.OwnedArrays.{GetsOnThis, is_branched_to, StoresNew, PutsNew, may_take_array, StoresGuarded, UsesArrayWell, IsOwnedArrayField, ReadsOwned, reads_owned, AreUses}
use Rattle.checked_program.proofs.{EachReached.{NumberedTest, all_in, in_method, all_numbered, in_numbered}, FrozenChecks.{implied, that_is_this, below, by_place, all_methods, of_program}}
use Rattle.jvm_types.specs.declared.code.Op.TheVariants as ops
use Rattle.jvm_types.specs.declared.program.Kind.TheVariants as kinds
use Rattle.jvm_types.specs.declared.program.Target.TheVariants as targets

-- ---- no element is read

abbrev pub is_iaload : Op → Bool
is_iaload ops.Iaload = true
is_iaload op = false

pub no_iaload : (op : Op) → not (is_iaload op) ≡ true → op ≡ ops.Iaload → ⊥
no_iaload op e h = false≢true (subst (λ (o : Op). not (is_iaload o) ≡ true) h e)

abbrev pub reads_none : Program → Tagged → Bool
reads_none p tags = all_methods (λ mi m. all_in (λ n insn target f. not (is_iaload insn.op)) p tags mi) 0 p.methods

-- a flag for each instruction, and none is set
abbrev pub no_elements : Program → List (List Bool)
no_elements p = map (λ (m : MethodInfo). replicate (length m.code) false) p.methods

pub no_elements_long : (ms : List MethodInfo) → AllZip (λ (m : MethodInfo) (flags : List Bool). length flags ≡ length m.code) ms (map (λ (m : MethodInfo). replicate (length m.code) false) ms)
no_elements_long [] = tt
no_elements_long (m ∷ ms) = (length-replicate (length m.code) false, no_elements_long ms)

none_set : (n i : ℕ) → slice_index_or (replicate n false) i false ≡ true → ⊥
none_set (suc n) (suc i) e = none_set n i e
none_set n i e = false≢true e

pub none_is_set : (ms : List MethodInfo) (mi i : ℕ) → slice_index_or (slice_index_or (map (λ (m : MethodInfo). replicate (length m.code) false) ms) mi []) i false ≡ true → ⊥
none_is_set [] mi i e = none_set 0 i e
none_is_set (m ∷ ms) zero i e = none_set (length m.code) i e
none_is_set (m ∷ ms) (suc mi) i e = none_is_set ms mi i e

-- no field owns an array
abbrev pub no_owners : Program → List Bool
no_owners p = replicate (length p.fields) false

pub none_owns : (p : Program) (fi : ℕ) → slice_index_or (no_owners p) fi false ≡ true → ⊥
none_owns p fi e = none_set (length p.fields) fi e

-- no field has a type of arrays
abbrev pub is_array : FieldInfo → Bool
is_array field = by_kind field.kind
  where
    by_kind : Kind → Bool
    by_kind (kinds.Ref class) = class == INT_ARRAY_CLASS
    by_kind kind = false

no_array : (field : FieldInfo) → not (is_array field) ≡ true → field.kind ≡ kinds.Ref INT_ARRAY_CLASS → ⊥
no_array field e h = false≢true (subst (λ (k : Kind). not (is_array (record field { kind = k })) ≡ true) h e)

abbrev pub all_fields : (FieldInfo → Bool) → List FieldInfo → Bool
all_fields q [] = true
all_fields q (field ∷ fields) = q field && all_fields q fields

of_fields : (q : FieldInfo → Bool) (fields : List FieldInfo) (fi : ℕ) (field : FieldInfo) → all_fields q fields ≡ true → slice_get fields fi ≡ Some field → q field ≡ true
of_fields q [] fi field e h = cc
of_fields q (x ∷ fields) zero field e h = let same : x ≡ field = cc in subst (λ (y : FieldInfo). q y ≡ true) same (and_parts (q x) (all_fields q fields) e).0
of_fields q (x ∷ fields) (suc fi) field e h = of_fields q fields fi field (and_parts (q x) (all_fields q fields) e).1 h

pub none_are_read : (p : Program) (tags : Tagged) (fields : List FieldUse) → all_fields (λ field. not (is_array field)) p.fields ≡ true → reads_none p tags ≡ true → AreFieldUses p tags fields
    → AreUses p tags (record { fields = fields; owners = no_owners p; elements = no_elements p })
none_are_read p tags fields none e are = record {
  fields = are;
  few = length-replicate (length p.fields) false;
  owners = λ fi. (λ h. absurd (none_owns p fi h), λ o. absurd (no_array o.field (of_fields (λ field. not (is_array field)) p.fields fi o.field none o.is) o.array));
  long = no_elements_long p.methods;
  elements = λ mi i. (λ h. absurd (none_is_set p.methods mi i h), λ r. absurd (no_iaload r.insn.op (this mi i r) r.reads));
}
  where
    this : (mi i : ℕ) (r : ReadsOwned p tags mi i) → not (is_iaload r.insn.op) ≡ true
    this mi i r = in_method (λ n insn target f. not (is_iaload insn.op)) p tags mi (of_program (λ mi m. all_in (λ n insn target f. not (is_iaload insn.op)) p tags mi) p.methods mi r.m e r.at.in_program) i r.m r.insn r.target r.f r.at

-- ---- where the field is read and written

abbrev pub gets_on_this : (fi : ℕ) → Op → Target → TagShape → Bool
gets_on_this fi (ops.Getfield i) (targets.Field other) f = not (other == fi) || is_this (slice_index_or f.stack 0 Untagged)
gets_on_this fi op target f = true

get_is_on_this : (fi : ℕ) (op : Op) (target : Target) (f : TagShape) → gets_on_this fi op target f ≡ true → GetsOnThis fi op target f
get_is_on_this fi (ops.Getfield i) (targets.Field other) f e = λ h. that_is_this _ (implied (other == fi) _ e (eq-eqb other fi h))
get_is_on_this fi op target f e = tt

abbrev pub all_gets : (fi : ℕ) → Program → Tagged → Bool
all_gets fi p tags = all_methods (λ mi m. all_in (λ n insn target f. gets_on_this fi insn.op target f) p tags mi) 0 p.methods

pub gets_are_on_this : (fi : ℕ) (p : Program) (tags : Tagged) → all_gets fi p tags ≡ true → (mi i : ℕ) (m : MethodInfo) (insn : Insn) (target : Target) (f : TagShape) → IsAt p tags mi i m insn target f → GetsOnThis fi insn.op target f
gets_are_on_this fi p tags e mi i m insn target f at = get_is_on_this fi insn.op target f
    (in_method (λ n insn target f. gets_on_this fi insn.op target f) p tags mi (of_program (λ mi m. all_in (λ n insn target f. gets_on_this fi insn.op target f) p tags mi) p.methods mi m e at.in_program) i m insn target f at)

abbrev pub is_newarray : Option Insn → Bool
is_newarray None = false
is_newarray (Some insn) = makes_array insn.op
  where
    makes_array : Op → Bool
    makes_array ops.Newarray = true
    makes_array op = false

abbrev pub stores_new : MethodInfo → (i pc : ℕ) → Bool
stores_new m zero pc = false
stores_new m (suc i) pc = is_newarray (slice_get m.code i) && not (is_branched_to m pc)

new_is_stored : (m : MethodInfo) (i pc : ℕ) → stores_new m i pc ≡ true → StoresNew m i pc
new_is_stored m zero pc e = absurd (cc)
new_is_stored m (suc i) pc e = by_insn (slice_get m.code i) refl (and_parts (is_newarray (slice_get m.code i)) (not (is_branched_to m pc)) e)
  where
    by_insn : (o : Option Insn) → slice_get m.code i ≡ o → (is_newarray o ≡ true) × (not (is_branched_to m pc) ≡ true) → StoresNew m (suc i) pc
    by_insn None k h = absurd (let x : false ≡ true = h.0 in cc)
    by_insn (Some insn) k h = record { before = i; follows = refl; insn = insn; is = k; makes = made insn.op h.0; only = not-true (is_branched_to m pc) h.1 }
      where
        made : (op : Op) → is_newarray (Some (record insn { op = op })) ≡ true → op ≡ ops.Newarray
        made ops.Newarray h = refl
        made op h = absurd (cc)

abbrev pub puts_new : (fi : ℕ) → MethodInfo → (i pc : ℕ) → Op → Target → Bool
puts_new fi m i pc (ops.Putfield n) (targets.Field other) = not (other == fi) || stores_new m i pc
puts_new fi m i pc op target = true

new_is_put : (fi : ℕ) (m : MethodInfo) (i pc : ℕ) (op : Op) (target : Target) → puts_new fi m i pc op target ≡ true → PutsNew fi m i pc op target
new_is_put fi m i pc (ops.Putfield n) (targets.Field other) e = λ h. new_is_stored m i pc (implied (other == fi) _ e (eq-eqb other fi h))
new_is_put fi m i pc op target e = tt

abbrev pub puts_new_at : (fi : ℕ) → NumberedTest
puts_new_at fi i m insn target f = puts_new fi m i insn.pc insn.op target

abbrev pub all_puts : (fi : ℕ) → Program → Tagged → Bool
all_puts fi p tags = all_methods (λ mi m. all_numbered (puts_new_at fi) p tags mi) 0 p.methods

pub puts_are_new : (fi : ℕ) (p : Program) (tags : Tagged) → all_puts fi p tags ≡ true → (mi i : ℕ) (m : MethodInfo) (insn : Insn) (target : Target) (f : TagShape) → IsAt p tags mi i m insn target f → PutsNew fi m i insn.pc insn.op target
puts_are_new fi p tags e mi i m insn target f at = new_is_put fi m i insn.pc insn.op target
    (in_numbered (puts_new_at fi) p tags mi (of_program (λ mi m. all_numbered (puts_new_at fi) p tags mi) p.methods mi m e at.in_program) i m insn target f at)

-- ---- a colouring that is given

abbrev pub same_bits : List Bool → List Bool → Bool
same_bits [] [] = true
same_bits (true ∷ bs) (true ∷ cs) = same_bits bs cs
same_bits (false ∷ bs) (false ∷ cs) = same_bits bs cs
same_bits bs cs = false

bits_are_same : (bs cs : List Bool) → same_bits bs cs ≡ true → bs ≡ cs
bits_are_same [] [] e = refl
bits_are_same (true ∷ bs) (true ∷ cs) e = ap (λ l. true ∷ l) (bits_are_same bs cs e)
bits_are_same (false ∷ bs) (false ∷ cs) e = ap (λ l. false ∷ l) (bits_are_same bs cs e)
bits_are_same bs cs e = absurd (cc)

abbrev pub same_colours : ColourShape → ColourShape → Bool
same_colours f g = same_bits f.stack g.stack && same_bits f.locals g.locals

colours_are_same : (f g : ColourShape) → same_colours f g ≡ true → f ≡ g
colours_are_same f g e =
    let h : (same_bits f.stack g.stack ≡ true) × (same_bits f.locals g.locals ≡ true) = and_parts (same_bits f.stack g.stack) (same_bits f.locals g.locals) e in
    let s : f.stack ≡ g.stack = bits_are_same f.stack g.stack h.0 in
    let l : f.locals ≡ g.locals = bits_are_same f.locals g.locals h.1 in
    λ i. record { stack = s i; locals = l i }

-- an edge to each other instruction
abbrev pub edge_brings : (fi : ℕ) → Program → MethodInfo → Insn → Target → (from : ColourShape) → Insn → (to : ColourShape) → Bool
edge_brings fi p m insn target from other to = (not (has_number (edges insn) other.pc) || same_colours to (colours_after fi insn target (row_of p m insn target) from))
    && (not (list_any (λ handler. handler.handler == other.pc) (catchers m insn)) || same_colours to (colours_at_handler from))

edge_parts : (fi : ℕ) (p : Program) (m : MethodInfo) (insn : Insn) (target : Target) (from : ColourShape) (other : Insn) (to : ColourShape) → edge_brings fi p m insn target from other to ≡ true
    → ((not (has_number (edges insn) other.pc) || same_colours to (colours_after fi insn target (row_of p m insn target) from)) ≡ true)
    × ((not (list_any (λ handler. handler.handler == other.pc) (catchers m insn)) || same_colours to (colours_at_handler from)) ≡ true)
edge_parts fi p m insn target from other to e = and_parts (not (has_number (edges insn) other.pc) || same_colours to (colours_after fi insn target (row_of p m insn target) from))
    (not (list_any (λ handler. handler.handler == other.pc) (catchers m insn)) || same_colours to (colours_at_handler from)) e

abbrev pub brings_well : (fi : ℕ) → Program → Tagged → (mi : ℕ) → (ℕ → ColourShape) → NumberedTest
brings_well fi p tags mi colours i m insn target f = all_numbered (λ j n other next g. edge_brings fi p m insn target (colours i) other (colours j)) p tags mi

abbrev pub takes_arrays_well : Program → (ℕ → ColourShape) → NumberedTest
takes_arrays_well p colours i m insn target f = below (λ k. not (is_coloured (colours i).stack k) || may_take_array insn.op k) (length (row_of p m insn target).takes)

abbrev pub stores_well : (ℕ → ColourShape) → NumberedTest
stores_well colours i m insn target f = not (is_iastore insn.op) || (not (is_coloured (colours i).stack 2) || stands_guarded m f)
  where
    is_iastore : Op → Bool
    is_iastore ops.Iastore = true
    is_iastore op = false

store_is_guarded : (colours : ℕ → ColourShape) (i : ℕ) (m : MethodInfo) (insn : Insn) (target : Target) (f : TagShape) (op : Op) → insn.op ≡ op → stores_well colours i m insn target f ≡ true → StoresGuarded m op f (colours i)
store_is_guarded colours i m insn target f ops.Iastore h e = λ c. implied (is_coloured (colours i).stack 2) (stands_guarded m f) (subst (λ (o : Op). stores_well colours i m (record insn { op = o }) target f ≡ true) h e) c
store_is_guarded colours i m insn target f op h e = tt

abbrev pub starts_well : (ℕ → ColourShape) → Option MethodInfo → Bool
starts_well colours None = true
starts_well colours (Some m) = same_colours (colours 0) (entry_colours m)

abbrev pub uses_well : (fi : ℕ) → Program → Tagged → (mi : ℕ) → (ℕ → ColourShape) → Bool
uses_well fi p tags mi colours = starts_well colours (slice_get p.methods mi)
    && (all_numbered (brings_well fi p tags mi colours) p tags mi && (all_numbered (takes_arrays_well p colours) p tags mi && all_numbered (stores_well colours) p tags mi))

well_coloured : (fi : ℕ) (p : Program) (tags : Tagged) (mi : ℕ) (colours : ℕ → ColourShape) → uses_well fi p tags mi colours ≡ true → IsColouring p tags mi fi colours
well_coloured fi p tags mi colours e =
    let a : (starts_well colours (slice_get p.methods mi) ≡ true) × (all_numbered (brings_well fi p tags mi colours) p tags mi && (all_numbered (takes_arrays_well p colours) p tags mi && all_numbered (stores_well colours) p tags mi) ≡ true) = and_parts _ _ e in
    let b : (all_numbered (brings_well fi p tags mi colours) p tags mi ≡ true) × (all_numbered (takes_arrays_well p colours) p tags mi && all_numbered (stores_well colours) p tags mi ≡ true) = and_parts _ _ a.1 in
    let edge : (i j : ℕ) (m : MethodInfo) (insn other : Insn) (target next : Target) (f g : TagShape) → IsAt p tags mi i m insn target f → IsAt p tags mi j m other next g → edge_brings fi p m insn target (colours i) other (colours j) ≡ true =
    λ i j m insn other target next f g from to. in_numbered (λ j n o x g. edge_brings fi p m insn target (colours i) o (colours j)) p tags mi (in_numbered (brings_well fi p tags mi colours) p tags mi b.0 i m insn target f from) j m other next g to in
    record {
      entry = λ m insn target f at. colours_are_same _ _ (subst (λ (o : Option MethodInfo). starts_well colours o ≡ true) at.in_program a.0);
      onward = λ i j m insn other target next f g from to goes. colours_are_same _ _ (implied (has_number (edges insn) other.pc) _ (edge_parts fi p m insn target (colours i) other (colours j) (edge i j m insn other target next f g from to)).0 goes);
      caught = λ i j m insn other target next f g from to goes. colours_are_same _ _ (implied (list_any (λ handler. handler.handler == other.pc) (catchers m insn)) _ (edge_parts fi p m insn target (colours i) other (colours j) (edge i j m insn other target next f g from to)).1 goes);
    }

pub is_used_well : (fi : ℕ) (p : Program) (tags : Tagged) (mi : ℕ) (colours : ℕ → ColourShape) → uses_well fi p tags mi colours ≡ true → UsesArrayWell p tags mi fi
is_used_well fi p tags mi colours e =
    let a : (starts_well colours (slice_get p.methods mi) ≡ true) × (all_numbered (brings_well fi p tags mi colours) p tags mi && (all_numbered (takes_arrays_well p colours) p tags mi && all_numbered (stores_well colours) p tags mi) ≡ true) = and_parts _ _ e in
    let b : (all_numbered (brings_well fi p tags mi colours) p tags mi ≡ true) × (all_numbered (takes_arrays_well p colours) p tags mi && all_numbered (stores_well colours) p tags mi ≡ true) = and_parts _ _ a.1 in
    let c : (all_numbered (takes_arrays_well p colours) p tags mi ≡ true) × (all_numbered (stores_well colours) p tags mi ≡ true) = and_parts _ _ b.1 in
    record {
      colours = colours;
      colouring = well_coloured fi p tags mi colours e;
      taken = λ i m insn target f at k lt h. implied (is_coloured (colours i).stack k) (may_take_array insn.op k)
          (by_place (λ k. not (is_coloured (colours i).stack k) || may_take_array insn.op k) _ k (in_numbered (takes_arrays_well p colours) p tags mi c.0 i m insn target f at) lt) h;
      stored = λ i m insn target f at. store_is_guarded colours i m insn target f insn.op refl (in_numbered (stores_well colours) p tags mi c.1 i m insn target f at);
    }

-- the colours of code that goes on from each instruction to the next, from these on
abbrev pub colours_along : (fi : ℕ) → Program → MethodInfo → ColourShape → List Insn → List Target → ℕ → ColourShape
colours_along fi p m f insns targets zero = f
colours_along fi p m f (insn ∷ insns) (target ∷ targets) (suc i) = colours_along fi p m (colours_after fi insn target (row_of p m insn target) f) insns targets i
colours_along fi p m f insns targets (suc i) = f

abbrev pub straight_colours : (fi : ℕ) → Program → MethodInfo → ℕ → ColourShape
straight_colours fi p m i = colours_along fi p m (entry_colours m) m.code m.targets i

-- ---- a program of such code, with one owned array field

abbrev pub all_used : (fi : ℕ) → Program → Tagged → Bool
all_used fi p tags = all_methods (λ mi m. uses_well fi p tags mi (straight_colours fi p m)) 0 p.methods

pub are_used_well : (fi : ℕ) (p : Program) (tags : Tagged) → all_used fi p tags ≡ true → (mi : ℕ) (m : MethodInfo) → slice_get p.methods mi ≡ Some m → UsesArrayWell p tags mi fi
are_used_well fi p tags e mi m h = is_used_well fi p tags mi (straight_colours fi p m) (of_program (λ mi m. uses_well fi p tags mi (straight_colours fi p m)) p.methods mi m e h)

-- the flag of a reached instruction is set exactly where it reads an element of the array
abbrev pub reads_well : Op → (owned coloured : Bool) → Bool
reads_well ops.Iaload owned coloured = owned && coloured
reads_well op owned coloured = not owned

that_reads : (op : Op) (owned coloured : Bool) → reads_well op owned coloured ≡ true → owned ≡ true → (op ≡ ops.Iaload) × (coloured ≡ true)
that_reads ops.Iaload owned coloured e h = (refl, (and_parts owned coloured e).1)
that_reads op true coloured e h = absurd (let x : false ≡ true = e in cc)
that_reads op false coloured e h = absurd (cc)

that_is_set : (op : Op) (owned coloured : Bool) → reads_well op owned coloured ≡ true → op ≡ ops.Iaload → owned ≡ true
that_is_set op owned coloured e h = (and_parts owned coloured (subst (λ (o : Op). reads_well o owned coloured ≡ true) h e)).0

-- and no other flag is
abbrev pub only_reached : List (Option TagShape) → List Insn → List Target → List Bool → Bool
only_reached frames insns targets [] = true
only_reached (Some f ∷ frames) (insn ∷ insns) (target ∷ targets) (flag ∷ flags) = only_reached frames insns targets flags
only_reached (None ∷ frames) (insn ∷ insns) (target ∷ targets) (flag ∷ flags) = not flag && only_reached frames insns targets flags
only_reached frames insns targets (flag ∷ flags) = not flag && only_reached [] [] [] flags

pub record HasParts (frames : List (Option TagShape)) (insns : List Insn) (targets : List Target) (i : ℕ) : Type 0 where
  pub insn : Insn
  pub target : Target
  pub f : TagShape
  pub framed : slice_get frames i ≡ Some (Some f)
  pub coded : slice_get insns i ≡ Some insn
  pub named : slice_get targets i ≡ Some target

no_flag : (b : Bool) → not b ≡ true → b ≡ true → ⊥
no_flag true e h = cc
no_flag false e h = cc

none_beyond : (flags : List Bool) (i : ℕ) → only_reached [] [] [] flags ≡ true → slice_index_or flags i false ≡ true → ⊥
none_beyond [] i e h = none_set 0 i h
none_beyond (flag ∷ flags) zero e h = no_flag flag (and_parts (not flag) (only_reached [] [] [] flags) e).0 h
none_beyond (flag ∷ flags) (suc i) e h = none_beyond flags i (and_parts (not flag) (only_reached [] [] [] flags) e).1 h

flagged_parts : (frames : List (Option TagShape)) (insns : List Insn) (targets : List Target) (flags : List Bool) (i : ℕ) → only_reached frames insns targets flags ≡ true → slice_index_or flags i false ≡ true → HasParts frames insns targets i
flagged_parts frames insns targets [] i e h = absurd (none_set 0 i h)
flagged_parts (Some f ∷ frames) (insn ∷ insns) (target ∷ targets) (flag ∷ flags) zero e h = record { insn = insn; target = target; f = f; framed = refl; coded = refl; named = refl }
flagged_parts (Some f ∷ frames) (insn ∷ insns) (target ∷ targets) (flag ∷ flags) (suc i) e h =
    let r = flagged_parts frames insns targets flags i e h in record { insn = r.insn; target = r.target; f = r.f; framed = r.framed; coded = r.coded; named = r.named }
flagged_parts (None ∷ frames) (insn ∷ insns) (target ∷ targets) (flag ∷ flags) zero e h = absurd (no_flag flag (and_parts (not flag) (only_reached frames insns targets flags) e).0 h)
flagged_parts (None ∷ frames) (insn ∷ insns) (target ∷ targets) (flag ∷ flags) (suc i) e h =
    let r = flagged_parts frames insns targets flags i (and_parts (not flag) (only_reached frames insns targets flags) e).1 h in record { insn = r.insn; target = r.target; f = r.f; framed = r.framed; coded = r.coded; named = r.named }
flagged_parts frames insns targets (flag ∷ flags) i e h = absurd (none_beyond (flag ∷ flags) i e h)

abbrev pub flags_fit : List MethodInfo → Tagged → List (List Bool) → Bool
flags_fit ms tags [] = true
flags_fit (m ∷ ms) (frames ∷ tags) (flags ∷ rows) = only_reached frames m.code m.targets flags && flags_fit ms tags rows
flags_fit ms tags (flags ∷ rows) = false

that_is_at : (ms : List MethodInfo) (tags : Tagged) (rows : List (List Bool)) (mi i : ℕ) → flags_fit ms tags rows ≡ true → slice_index_or (slice_index_or rows mi []) i false ≡ true
    → (m : MethodInfo) × (frames : List (Option TagShape)) × (slice_get ms mi ≡ Some m) × (slice_get tags mi ≡ Some frames) × HasParts frames m.code m.targets i
that_is_at ms tags [] mi i e h = absurd (none_set 0 i h)
that_is_at (m ∷ ms) (frames ∷ tags) (flags ∷ rows) zero i e h = (m, frames, refl, refl, flagged_parts frames m.code m.targets flags i (and_parts (only_reached frames m.code m.targets flags) (flags_fit ms tags rows) e).0 h)
that_is_at (m ∷ ms) (frames ∷ tags) (flags ∷ rows) (suc mi) i e h = that_is_at ms tags rows mi i (and_parts (only_reached frames m.code m.targets flags) (flags_fit ms tags rows) e).1 h
that_is_at ms tags (flags ∷ rows) mi i e h = absurd (false≢true e)

abbrev pub reads_well_at : (fi : ℕ) → Program → Uses → (mi : ℕ) → MethodInfo → NumberedTest
reads_well_at fi p uses mi m i n insn target f = reads_well insn.op (reads_owned uses mi i) (is_coloured (straight_colours fi p m i).stack 1)

abbrev pub all_elements : (fi : ℕ) → Program → Tagged → Uses → Bool
all_elements fi p tags uses = all_methods (λ mi m. all_numbered (reads_well_at fi p uses mi m) p tags mi) 0 p.methods

pub elements_are : (fi : ℕ) (p : Program) (tags : Tagged) (uses : Uses) → IsOwnedArrayField p tags fi → all_used fi p tags ≡ true → all_elements fi p tags uses ≡ true → flags_fit p.methods tags uses.elements ≡ true
    → (mi i : ℕ) → (reads_owned uses mi i ≡ true) ↔ ReadsOwned p tags mi i
elements_are fi p tags uses owned used e fit mi i = (there, back)
  where
    test : (m : MethodInfo) (insn : Insn) (target : Target) (f : TagShape) → IsAt p tags mi i m insn target f → reads_well insn.op (reads_owned uses mi i) (is_coloured (straight_colours fi p m i).stack 1) ≡ true
    test m insn target f at = in_numbered (reads_well_at fi p uses mi m) p tags mi (of_program (λ mi m. all_numbered (reads_well_at fi p uses mi m) p tags mi) p.methods mi m e at.in_program) i m insn target f at

    there : reads_owned uses mi i ≡ true → ReadsOwned p tags mi i
    there h =
        let a = that_is_at p.methods tags uses.elements mi i fit h in
        let at : IsAt p tags mi i a.0 a.4.insn a.4.target a.4.f = record { in_program = a.2; in_code = a.4.coded; names = a.4.named; frames = a.1; of_method = a.3; frame = a.4.framed } in
        let r = that_reads a.4.insn.op (reads_owned uses mi i) (is_coloured (straight_colours fi p a.0 i).stack 1) (test a.0 a.4.insn a.4.target a.4.f at) h in
        record {
          m = a.0;
          insn = a.4.insn;
          target = a.4.target;
          f = a.4.f;
          at = at;
          reads = r.0;
          owned = record { fi = fi; owned = owned; colours = straight_colours fi p a.0; colouring = well_coloured fi p tags mi (straight_colours fi p a.0) (of_program (λ mi m. uses_well fi p tags mi (straight_colours fi p m)) p.methods mi a.0 used a.2); coloured = r.1 };
        }

    back : ReadsOwned p tags mi i → reads_owned uses mi i ≡ true
    back r = that_is_set r.insn.op (reads_owned uses mi i) (is_coloured (straight_colours fi p r.m i).stack 1) (test r.m r.insn r.target r.f r.at) r.reads
