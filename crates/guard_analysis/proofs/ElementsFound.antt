-- The elements that are read of owned arrays, by the colours of the arrays that each method reads; and all that is found.
use Rattle.std.proofs.Common.{◌≡◌, ◌<◌, ◌≤◌, ◌≢◌, ◌⊎◌, inl, inr, ℕ, zero, suc, Bool, true, false, List, [], ◌∷◌, length, Option, Some, None, refl, sym, ap, ◌∙◌, subst, arith, ◌==◌, slice_get, slice_index_or}
use Rattle.std.{specs.List.AllZip, proofs.lemmas.{Bool.{eqb-true, eq-eqb, true≢false, cases_lt}, Option.{get_or_from_slice_get, slice_get_within}}}
use Rattle.jvm_types.specs.{ProgramInvariant.{IsProgram, IsTargetOf, site_in}, declared.{code.{Insn.Insn, Op.Op}, program.{MethodInfo.MethodInfo, Program.Program, Target.Target}}}
use Rattle.laws_programs.proofs.CodeOrder.{have_targets}
use Rattle.checked_program.specs.{Colours.is_coloured, MarkedProgram.AreTaggings, SectionLaws.AreTagged, OwnedArrays.{IsOwnedArrayField, ReadsOwned}, TaggedCode.tagged_by, Visits.HasFrames, declared.tag.Tags.Tags}
use Rattle.laws_sections.proofs.ArrayColours.{other_class}
use Rattle.frozen_classes.specs.FrozenClasses.{AreFrozenClasses}
use Rattle.guard_analysis.specs.{ColourVisits.{colour_plan, is_array_field, is_colour_of, of_field, colour_at}, FieldUses.class_flag, declared.colouring.Colour.Colour}
use Rattle.guard_analysis.specs.OwnedFound.{colour_read, read_colour, read_colours_before, is_flagged, element_flags_before, code_length, element_rows_before, fields_left_before, owning_before, AreMethodsChecked, AreOwnedFound}
use Rattle.guard_analysis.{specs.declared.colouring.Colour.TheVariants.{Plain, Of}, proofs.{CheckedMethods.{IsKept, AreKept, methods_kept}, ColourFrames.read_is, ColourPaths.{ColouredMethod, has_colours}, FieldColours.{ColouredField, array_whole, none_of_field, are_there}}}
use Rattle.guard_analysis.proofs.{FlagsPut.is_set, ListsMade.{made_long, made_at, made_past}, OwnersFound.{left_long, all_tagged, tagging_at, coloured_method, checked_method, found_owned, is_array, owned_may, owned_found}}
use Rattle.jvm_types.specs.declared.code.Op.TheVariants as ops

-- ---- two lists

zip_by : {A B : Type 0} (R : A → B → Type 0) (xs : List A) (ys : List B) → length xs ≡ length ys → ((i : ℕ) (x : A) (y : B) → slice_get xs i ≡ Some x → slice_get ys i ≡ Some y → R x y) → AllZip R xs ys
zip_by R [] [] l each = tt
zip_by R (x ∷ xs) (y ∷ ys) l each = (each 0 x y refl refl, zip_by R xs ys (omega (arith, l)) (λ i a b e f. each (suc i) a b e f))
zip_by R xs ys l each = absurd (omega (arith, l))

-- ---- one instruction

-- it reads an element of an array that was read from a field
pub record IsElementOf (oi : Option Insn) (of : Option (Option (List Colour))) (fi : ℕ) : Type 0 where
  pub insn : Insn
  pub stack : List Colour
  pub is_insn : oi ≡ Some insn
  pub is_frame : of ≡ Some (Some stack)
  pub reads : insn.op ≡ ops.Iaload
  pub colour : colour_at stack 1 ≡ Of fi

record IsRead (oi : Option Insn) (of : Option (Option (List Colour))) (flags : List Bool) : Type 0 where
  pub fi : ℕ
  pub element : IsElementOf oi of fi
  pub flagged : is_set flags fi ≡ true

read_parts : (oi : Option Insn) (of : Option (Option (List Colour))) (flags : List Bool) → is_flagged flags (read_colour oi of) ≡ true → IsRead oi of flags
read_parts None of flags e = absurd (let bad : false ≡ true = e in cc)
read_parts (Some insn) None flags e = absurd (let bad : false ≡ true = e in cc)
read_parts (Some insn) (Some None) flags e = absurd (let bad : false ≡ true = e in cc)
read_parts (Some insn) (Some (Some stack)) flags e =
    let op = by_op insn.op e in
    let c = by_colour (colour_at stack 1) op.1 in
    record { fi = c.0; element = record { insn = insn; stack = stack; is_insn = refl; is_frame = refl; reads = op.0; colour = c.1 }; flagged = c.2 }
  where
    by_op : (op : Op) → is_flagged flags (colour_read op stack) ≡ true → (op ≡ ops.Iaload) × (is_flagged flags (colour_at stack 1) ≡ true)
    by_op ops.Iaload h = (refl, h)
    by_op op h = absurd (let bad : false ≡ true = h in cc)

    by_colour : (c : Colour) → is_flagged flags c ≡ true → (fi : ℕ) × (c ≡ Of fi) × (is_set flags fi ≡ true)
    by_colour Plain h = absurd (let bad : false ≡ true = h in cc)
    by_colour (Of fi) h = (fi, refl, h)

of_colour : (fi : ℕ) (c : Colour) → c ≡ Of fi → is_colour_of fi c ≡ true
of_colour fi c e = ap (is_colour_of fi) e ∙ own_test fi
  where
    own_test : (n : ℕ) → (n == n) ≡ true
    own_test n = eq-eqb n n refl

the_colour : (fi : ℕ) (c : Colour) → is_colour_of fi c ≡ true → c ≡ Of fi
the_colour fi Plain e = absurd (let bad : false ≡ true = e in cc)
the_colour fi (Of x) e = ap (λ (n : ℕ). Of n) (eqb-true x fi e)

-- ---- a reached read of an element of an array that was read from an owned field

module _ (method : ColouredMethod) (program : IsProgram method.p) (all : AreTagged method.p method.tags) (i fi : ℕ) (own : IsOwnedArrayField method.p method.tags fi) (element : IsElementOf (slice_get method.m.code i) (slice_get method.frames i) fi) where
  open method use {p, tags, mi, m, is}
  open element use {insn, stack, is_insn, is_frame}

  array : is_array_field p fi ≡ true
  array = array_whole p fi own.field own.is (record { array = own.array; private = own.private; instance = own.instance })

  abbrev place : ColouredField
  place = record { method = method; program = program; fi = fi; field = own.field; there = own.is; array = array }

  its_target : (target : Target) × (slice_get m.targets i ≡ Some target) × IsTargetOf p (site_in m) insn.op target
  its_target = have_targets p mi i m insn program is is_insn

  coloured : is_coloured (of_field fi stack) 1 ≡ true
  coloured = sym (read_is p fi array 1 stack) ∙ of_colour fi (colour_at stack 1) element.colour

  element_of_owned : ReadsOwned p tags mi i
  element_of_owned = by_class (m.class == own.field.class) refl
    where
      by_class : (b : Bool) → (m.class == own.field.class) ≡ b → ReadsOwned p tags mi i
      by_class true c =
          let u = own.used mi m is (eqb-true m.class own.field.class c) in
          let a = are_there place all own u.colours u.colouring i insn its_target.0 stack is_insn its_target.1 is_frame in
          record {
            m = m;
            insn = insn;
            target = its_target.0;
            f = a.f;
            at = a.at;
            reads = element.reads;
            owned = record { fi = fi; owned = own; colours = u.colours; colouring = u.colouring; coloured = ap (λ (bs : List Bool). is_coloured bs 1) a.so ∙ coloured };
          }
      by_class false c = absurd (true≢false (sym coloured ∙ none_of_field place c i insn its_target.0 stack is_insn its_target.1 is_frame 1))

pub reads_of_owned : (p : Program) (tags : List Tags) (program : IsProgram p) (are : AreTaggings p p.methods tags) (mi : ℕ) (m : MethodInfo) (e : slice_get p.methods mi ≡ Some m) (frames : List (Option (List Colour))) → HasFrames (colour_plan p m) frames → (i fi : ℕ)
    → IsOwnedArrayField p (tagged_by tags) fi → (insn : Insn) (stack : List Colour) → slice_get m.code i ≡ Some insn → slice_get frames i ≡ Some (Some stack) → insn.op ≡ ops.Iaload → colour_at stack 1 ≡ Of fi → ReadsOwned p (tagged_by tags) mi i
reads_of_owned p tags program are mi m e frames has i fi own insn stack is_insn is_frame reads colour =
    let t = tagging_at p tags program are mi m e in
    element_of_owned (coloured_method p tags program are mi m e t.0 t.1 frames has) program (all_tagged p tags program are) i fi own (record { insn = insn; stack = stack; is_insn = is_insn; is_frame = is_frame; reads = reads; colour = colour })

-- ---- all

module _ (p : Program) (tags : List Tags) (program : IsProgram p) (are : AreTaggings p p.methods tags) (frozen : List Bool) (frozen_are : AreFrozenClasses p (tagged_by tags) frozen) (outs : List Bool) (reads : List (List Colour))
    (all : AreKept p tags (owning_before p frozen (length p.fields)) (length p.methods) outs reads) where
  abbrev owning : List Bool
  owning = owning_before p frozen (length p.fields)

  abbrev owners : List Bool
  owners = fields_left_before p frozen outs (length p.fields)

  abbrev rows : List (List Bool)
  rows = element_rows_before p.methods owners reads (length p.methods)

  abbrev row_at : ℕ → List Bool
  row_at u = element_flags_before owners (slice_index_or reads u []) (code_length (slice_get p.methods u))

  rows_long : length rows ≡ length p.methods
  rows_long = made_long row_at (element_rows_before p.methods owners reads) refl (λ n. refl) (length p.methods)

  rows_at : (mi : ℕ) → mi < length p.methods → slice_index_or rows mi [] ≡ row_at mi
  rows_at mi l = made_at row_at (element_rows_before p.methods owners reads) refl (λ n. refl) [] (length p.methods) mi l

  flags_long : (colours : List Colour) (n : ℕ) → length (element_flags_before owners colours n) ≡ n
  flags_long colours n = made_long (λ i. is_flagged owners (colour_at colours i)) (element_flags_before owners colours) refl (λ n. refl) n

  flags_at : (colours : List Colour) (n i : ℕ) → i < n → slice_index_or (element_flags_before owners colours n) i false ≡ is_flagged owners (colour_at colours i)
  flags_at colours n i l = made_at (λ i. is_flagged owners (colour_at colours i)) (element_flags_before owners colours) refl (λ n. refl) false n i l

  flags_past : (colours : List Colour) (n i : ℕ) → n ≤ i → slice_index_or (element_flags_before owners colours n) i false ≡ false
  flags_past colours n i l = made_past (λ i. is_flagged owners (colour_at colours i)) (element_flags_before owners colours) refl (λ n. refl) false n i l

  colours_at : (m : MethodInfo) (frames : List (Option (List Colour))) (n i : ℕ) → i < n → colour_at (read_colours_before m frames n) i ≡ read_colour (slice_get m.code i) (slice_get frames i)
  colours_at m frames n i l = made_at (λ i. read_colour (slice_get m.code i) (slice_get frames i)) (read_colours_before m frames) refl (λ n. refl) Plain n i l

  -- a row has a flag for each instruction
  rows_fit : AllZip (λ (m : MethodInfo) (flags : List Bool). length flags ≡ length m.code) p.methods rows
  rows_fit = zip_by (λ (m : MethodInfo) (flags : List Bool). length flags ≡ length m.code) p.methods rows (sym rows_long)
      (λ mi m flags e f.
      let same : row_at mi ≡ flags = sym (rows_at mi (slice_get_within p.methods mi m e)) ∙ get_or_from_slice_get rows mi flags [] f in
      sym (ap (λ (l : List Bool). length l) same) ∙ flags_long (slice_index_or reads mi []) (code_length (slice_get p.methods mi)) ∙ ap code_length e)

  -- ---- of one method

  module _ (mi : ℕ) (m : MethodInfo) (e : slice_get p.methods mi ≡ Some m) where
    low : mi < length p.methods
    low = slice_get_within p.methods mi m e

    its_row : slice_index_or rows mi [] ≡ element_flags_before owners (slice_index_or reads mi []) (length m.code)
    its_row = rows_at mi low ∙ ap (λ (o : Option MethodInfo). element_flags_before owners (slice_index_or reads mi []) (code_length o)) e

    its_flag : (i : ℕ) → i < length m.code → slice_index_or (slice_index_or rows mi []) i false ≡ is_flagged owners (colour_at (slice_index_or reads mi []) i)
    its_flag i l = ap (λ (flags : List Bool). slice_index_or flags i false) its_row ∙ flags_at (slice_index_or reads mi []) (length m.code) i l

    -- by its frames, where its class is one that owns arrays
    kept_flag : (k : IsKept p tags owning outs reads mi m) (i : ℕ) → i < length m.code → slice_index_or (slice_index_or rows mi []) i false ≡ is_flagged owners (read_colour (slice_get m.code i) (slice_get k.frames i))
    kept_flag k i l = its_flag i l ∙ ap (λ (colours : List Colour). is_flagged owners (colour_at colours i)) k.reads_are ∙ ap (is_flagged owners) (colours_at m k.frames (length m.code) i l)

    in_row : (i : ℕ) → slice_index_or (slice_index_or rows mi []) i false ≡ true → i < length m.code
    in_row i h = by_order (cases_lt i (length m.code))
      where
        by_order : (i < length m.code) ⊎ (length m.code ≤ i) → i < length m.code
        by_order (inl x) = x
        by_order (inr x) = absurd (true≢false (sym h ∙ ap (λ (flags : List Bool). slice_index_or flags i false) its_row ∙ flags_past (slice_index_or reads mi []) (length m.code) i x))

    read_is_owned : (k : IsKept p tags owning outs reads mi m) (i : ℕ) → IsRead (slice_get m.code i) (slice_get k.frames i) owners → ReadsOwned p (tagged_by tags) mi i
    read_is_owned k i r = element_of_owned (coloured_method p tags program are mi m e k.t k.its_tags k.frames k.has) program (all_tagged p tags program are) i r.fi (found_owned p tags program are frozen frozen_are outs reads all r.fi r.flagged) r.element

    flag_is_read : (i : ℕ) → slice_index_or (slice_index_or rows mi []) i false ≡ true → ReadsOwned p (tagged_by tags) mi i
    flag_is_read i h = by_flag (class_flag owning m.class) refl
      where
        by_flag : (b : Bool) → class_flag owning m.class ≡ b → ReadsOwned p (tagged_by tags) mi i
        by_flag true c = let k = all.kept mi m low e c in read_is_owned k i (read_parts (slice_get m.code i) (slice_get k.frames i) owners (sym (kept_flag k i (in_row i h)) ∙ h))
        by_flag false c = absurd (true≢false (sym h ∙ its_flag i (in_row i h) ∙ ap (λ (colours : List Colour). is_flagged owners (colour_at colours i)) (all.others mi m low e c)))

  read_found : (mi i : ℕ) → ReadsOwned p (tagged_by tags) mi i → slice_index_or (slice_index_or rows mi []) i false ≡ true
  read_found mi i r = by_class (r.m.class == o.field.class) refl
    where
      o : IsOwnedArrayField p (tagged_by tags) r.owned.fi
      o = r.owned.owned

      e : slice_get p.methods mi ≡ Some r.m
      e = r.at.in_program

      array : is_array_field p r.owned.fi ≡ true
      array = is_array p tags program are frozen frozen_are outs reads all r.owned.fi o

      by_class : (b : Bool) → (r.m.class == o.field.class) ≡ b → slice_index_or (slice_index_or rows mi []) i false ≡ true
      by_class false c = absurd (true≢false (sym r.owned.coloured
          ∙ (other_class p (tagged_by tags) program (all_tagged p tags program are) r.owned.fi o mi r.owned.colours r.owned.colouring r.m e c i r.insn r.target r.f r.at).stack 1))
      by_class true c =
          let k = checked_method p tags program are frozen frozen_are outs reads all r.owned.fi mi o.field r.m o.is (owned_may p tags program are frozen frozen_are outs reads all r.owned.fi o) e (eqb-true r.m.class o.field.class c) in
          let method : ColouredMethod = coloured_method p tags program are mi r.m e k.t k.its_tags k.frames k.has in
          let cs = has_colours method i r.insn r.target r.f r.at in
          let a = are_there (record { method = method; program = program; fi = r.owned.fi; field = o.field; there = o.is; array = array }) (all_tagged p tags program are) o r.owned.colours r.owned.colouring i r.insn r.target cs.0 r.at.in_code r.at.names cs.1 in
          let colour : colour_at cs.0 1 ≡ Of r.owned.fi =
          the_colour r.owned.fi (colour_at cs.0 1) (read_is p r.owned.fi array 1 cs.0 ∙ ap (λ (bs : List Bool). is_coloured bs 1) (sym a.so) ∙ r.owned.coloured) in
          kept_flag mi r.m e k i (slice_get_within r.m.code i r.insn r.at.in_code)
          ∙ ap (is_flagged owners) (ap (λ (x : Option Insn). read_colour x (slice_get k.frames i)) r.at.in_code ∙ ap (read_colour (Some r.insn)) cs.1 ∙ ap (λ (op : Op). colour_read op cs.0) r.reads ∙ colour)
          ∙ owned_found p tags program are frozen frozen_are outs reads all r.owned.fi o

  flag_read : (mi i : ℕ) → slice_index_or (slice_index_or rows mi []) i false ≡ true → ReadsOwned p (tagged_by tags) mi i
  flag_read mi i h = by_method (slice_get p.methods mi) refl
    where
      by_order : slice_get p.methods mi ≡ None → (mi < length p.methods) ⊎ (length p.methods ≤ mi) → ReadsOwned p (tagged_by tags) mi i
      by_order n (inl x) = absurd (inside p.methods mi x n)
        where
          inside : (ms : List MethodInfo) (k : ℕ) → k < length ms → slice_get ms k ≡ None → ⊥
          inside [] k l none = omega (arith, l)
          inside (m ∷ ms) zero l none = cc
          inside (m ∷ ms) (suc k) l none = inside ms k (omega (arith, l)) none
      by_order n (inr x) = absurd (true≢false (sym h ∙ ap (λ (flags : List Bool). slice_index_or flags i false) (made_past row_at (element_rows_before p.methods owners reads) refl (λ n. refl) [] (length p.methods) mi x)))

      by_method : (o : Option MethodInfo) → slice_get p.methods mi ≡ o → ReadsOwned p (tagged_by tags) mi i
      by_method None n = by_order n (cases_lt mi (length p.methods))
      by_method (Some m) e = flag_is_read mi m e i h

  all_found : AreOwnedFound p (tagged_by tags) (record { owners = owners; elements = rows })
  all_found = record {
    few = left_long p frozen outs (length p.fields);
    owners = λ fi. (λ h. found_owned p tags program are frozen frozen_are outs reads all fi h, λ o. owned_found p tags program are frozen frozen_are outs reads all fi o);
    long = rows_fit;
    elements = λ mi i. (λ h. flag_read mi i h, λ r. read_found mi i r);
  }

-- what the checks of all methods leave is what is owned
pub owned_are_found : (p : Program) (tags : List Tags) (frozen outs : List Bool) (reads : List (List Colour)) → IsProgram p → AreTaggings p p.methods tags → AreFrozenClasses p (tagged_by tags) frozen
    → AreMethodsChecked p tags (owning_before p frozen (length p.fields)) (length p.methods) outs reads
    → AreOwnedFound p (tagged_by tags) (record { owners = fields_left_before p frozen outs (length p.fields); elements = element_rows_before p.methods (fields_left_before p frozen outs (length p.fields)) reads (length p.methods) })
owned_are_found p tags frozen outs reads program are frozen_are every =
    all_found p tags program are frozen frozen_are outs reads (methods_kept p tags (owning_before p frozen (length p.fields)) (length p.methods) outs reads every)

pub reads_long : (p : Program) (tags : List Tags) (flags outs : List Bool) (reads : List (List Colour)) → AreMethodsChecked p tags flags (length p.methods) outs reads → length p.methods ≤ length reads
reads_long p tags flags outs reads every = omega (arith, (methods_kept p tags flags (length p.methods) outs reads every).many)

-- the same of what was found
pub owned_shown : (p : Program) (tags : List Tags) (frozen flags outs owners : List Bool) (reads : List (List Colour)) (elements : List (List Bool)) → IsProgram p → AreTaggings p p.methods tags → AreFrozenClasses p (tagged_by tags) frozen
    → flags ≡ owning_before p frozen (length p.fields) → AreMethodsChecked p tags flags (length p.methods) outs reads → owners ≡ fields_left_before p frozen outs (length p.fields) → elements ≡ element_rows_before p.methods owners reads (length p.methods)
    → AreOwnedFound p (tagged_by tags) (record { owners = owners; elements = elements })
owned_shown p tags frozen flags outs owners reads elements program are frozen_are e every f g =
    let found = owned_are_found p tags frozen outs reads program are frozen_are (subst (λ (x : List Bool). AreMethodsChecked p tags x (length p.methods) outs reads) e every) in
    subst (λ (rows : List (List Bool)). AreOwnedFound p (tagged_by tags) (record { owners = owners; elements = rows })) (sym g)
    (subst (λ (flags : List Bool). AreOwnedFound p (tagged_by tags) (record { owners = flags; elements = element_rows_before p.methods flags reads (length p.methods) })) (sym f) found)
