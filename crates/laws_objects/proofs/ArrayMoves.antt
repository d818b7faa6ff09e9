-- Where an array of an owned field may be behind an instruction: where the colours go.
use Rattle.std.proofs.Common.{◌≡◌, ℕ, zero, suc, ◌+◌, ◌<◌, Bool, true, false, List, [], ◌∷◌, ◌++◌, length, map, drop, replicate, Option, Some, None, refl, sym, ap, ◌∙◌, subst, arith, slice_set, slice_index_or}
use Rattle.std.{specs.List.AllByRecursion, proofs.lemmas.List.get_or-drop}
use Rattle.lists.proofs.ListLaws.{all_weaker}
use Rattle.jvm_types.specs.{CodeTable.{value_of, stack_after, locals_after}, Numbers.has_number, Verifying.edges, declared.{code.Insn.Insn, op_row.Given.{Given, TheVariants.{Fresh, Taken, Local}}}}
use Rattle.jvm_types.specs.declared.{op_row.OpRow.OpRow, program.Target.Target, typing.VType.{VType, TheVariants.{Null, Ref, Top}}}
use Rattle.checked_program.specs.{Colours.{ColourShape, is_read_of, is_coloured, IsColouring}, LockTags.TagShape, MarkedProgram.{MarkedProgram, IsMarked}, OwnedArrays.{may_take_array, IsOwnedArrayField, IsOwnedAt}, SectionLaws.KeepsArray, TaggedCode.{IsAt, row_of}}
use Rattle.checked_program.proofs.NamedFields.{target_named}
use Rattle.laws_sections.proofs.ArrayColours.{array_law, locals_kept, none_replicate, reads_own}
use Rattle.machine_types.specs.{Construction.{IsNoStored, IsArraySlot, SlotsFrom}, OwnedPlaces.{Stores, IsFieldWord, IsStoredAt, IsStoredNowhere}, Standing.{Standing, tags_of}, Threads.Frame}
use Rattle.laws_threads.proofs.Standings.{are_tagged}
use Rattle.laws_objects.proofs.{ArraySlots.{from_each, local_set}, BuiltEffects.{TypeOld, GivenOld, WriteOld, RowOld}}

-- ---- where a place of the stack behind an instruction comes from

abbrev pub source : List Given → (count k : ℕ) → Given
source [] count k = Taken (count + k)
source (g ∷ gs) count zero = g
source (g ∷ gs) count (suc k) = source gs count k

source_is : {A : Type 0} (none : A) (fresh : VType → A) (stack locals rest : List A) (count : ℕ)
    → ((q : ℕ) → slice_index_or stack (count + q) none ≡ slice_index_or rest q none) → (gives : List Given) (k : ℕ)
    → slice_index_or (map (value_of none fresh stack locals) gives ++ rest) k none ≡ value_of none fresh stack locals (source gives count k)
source_is none fresh stack locals rest count same [] k = sym (same k)
source_is none fresh stack locals rest count same (g ∷ gives) zero = refl
source_is none fresh stack locals rest count same (g ∷ gives) (suc k) = source_is none fresh stack locals rest count same gives k

pub dropped_at : {A : Type 0} (none : A) (n : ℕ) (xs : List A) (q m : ℕ) → m ≡ n + q → slice_index_or xs m none ≡ slice_index_or (drop n xs) q none
dropped_at none n xs q m e = ap (λ (i : ℕ). slice_index_or xs i none) e ∙ sym (get_or-drop n xs q none)

stack_source : {A : Type 0} (none : A) (fresh : VType → A) (r : OpRow) (stack locals : List A) (k : ℕ)
    → slice_index_or (stack_after none fresh r stack locals) k none ≡ value_of none fresh stack locals (source r.gives (length r.takes) k)
stack_source none fresh r stack locals k = source_is none fresh stack locals (drop (length r.takes) stack) (length r.takes) (λ q. dropped_at none (length r.takes) stack q (length r.takes + q) refl) r.gives k

-- what holds of all that a row gives and of what it leaves
pub each_source : (P : Given → Type 0) (count : ℕ) → ((q : ℕ) → P (Taken (count + q))) → (gives : List Given) → AllByRecursion P gives → (k : ℕ) → P (source gives count k)
each_source P count rest [] all k = rest k
each_source P count rest (g ∷ gives) all zero = all.0
each_source P count rest (g ∷ gives) all (suc k) = each_source P count rest gives all.1 k

-- ---- what is made

-- of a type, null or stored nowhere
pub made_clean : (stores : Stores) (t : VType) (made : ℕ) → stores 0 ≡ None → TypeOld (IsStoredNowhere stores) t made → IsNoStored stores t made
made_clean stores Null made null h = ap stores h ∙ null
made_clean stores (Ref class) made null h = h
made_clean stores t made null h = first_of (assumption, search h)

abbrev pub GivenClean : Stores → (made : ℕ) → Given → Type 0
GivenClean stores made (Fresh t) = IsNoStored stores t made
GivenClean stores made given = Unit {0}

abbrev pub WriteClean : Stores → (made : ℕ) → Option (ℕ × Given) → Type 0
WriteClean stores made None = Unit {0}
WriteClean stores made (Some write) = GivenClean stores made write.1

abbrev pub RowClean : Stores → OpRow → (made : ℕ) → Type 0
RowClean stores r made = AllByRecursion (GivenClean stores made) r.gives × WriteClean stores made r.writes

pub row_clean : (stores : Stores) (r : OpRow) (made : ℕ) → stores 0 ≡ None → RowOld (IsStoredNowhere stores) r made → RowClean stores r made
row_clean stores r made null old = (all_weaker (GivenOld (IsStoredNowhere stores) made) (GivenClean stores made) one r.gives old.0, write r.writes old.1)
  where
    one : (x : Given) → GivenOld (IsStoredNowhere stores) made x → GivenClean stores made x
    one (Fresh t) h = made_clean stores t made null h
    one x h = tt

    write : (o : Option (ℕ × Given)) → WriteOld (IsStoredNowhere stores) made o → WriteClean stores made o
    write None h = tt
    write (Some x) h = one x.1 h

at_set : (n : ℕ) (b : Bool) → slice_index_or (slice_set (replicate (suc n) false) n b) n false ≡ b
at_set zero b = refl
at_set (suc n) b = at_set n b

-- ---- at one instruction

module _ (c : MarkedProgram) (marked : IsMarked c) (stores : Stores) (f : Frame) (k : Standing c f) where
  open k use {number as i, method as m, insn, target, tags as u, at}

  abbrev pub r : OpRow
  r = row_of c.program m insn target

  -- the instruction reads such a field
  abbrev pub ReadsField : ℕ → Type 0
  ReadsField fi = IsOwnedArrayField c.program (tags_of c) fi × (is_read_of fi insn.op target ≡ true)

  -- what is made is an array of that field of the receiver, or one that was stored nowhere
  pub record IsMadeWell (made : ℕ) : Type 0 where
    pub read : (fi : ℕ) → ReadsField fi → (word : ℕ) → IsFieldWord c fi f.receiver word → IsStoredAt stores word made
    pub other : ((fi : ℕ) → ReadsField fi → ⊥) → RowClean stores (row_of c.program m insn target) made
    pub written : WriteClean stores made (row_of c.program m insn target).writes

  pub keeps_array : (fi : ℕ) (colours : ℕ → ColourShape) → IsOwnedArrayField c.program (tags_of c) fi → IsColouring c.program (tags_of c) f.method fi colours → KeepsArray c.program m insn target (colours i)
  keeps_array fi colours owned colouring = array_law c.program (tags_of c) fi f.method i m insn target u colours marked.checked.program (are_tagged c marked) owned colouring at

  -- a coloured value is taken so alone
  pub not_owned : (q : ℕ) → q < length (row_of c.program m insn target).takes → may_take_array insn.op q ≡ false → IsOwnedAt c.program (tags_of c) f.method i q → ⊥
  not_owned q l e o = (let bad : true ≡ false = sym ((keeps_array o.fi o.colours o.owned o.colouring).taken q l o.coloured) ∙ e in cc)

  -- nothing coloured is written to a local
  not_written : (x q : ℕ) → (row_of c.program m insn target).writes ≡ Some (x, Taken q) → IsOwnedAt c.program (tags_of c) f.method i q → ⊥
  not_written x q e o =
      let shape : ColourShape = record { stack = (o.colours i).stack; locals = replicate (suc x) false } in
      let none = locals_kept c.program m insn.pc o.fi target insn.op shape (none_replicate (suc x)) (keeps_array o.fi o.colours o.owned o.colouring).taken x in
      let same : slice_index_or (locals_after false (λ type. is_read_of o.fi insn.op target) (row_of c.program m insn target).writes shape.stack shape.locals) x false ≡ slice_index_or (o.colours i).stack q false =
      ap (λ (w : Option (ℕ × Given)). slice_index_or (locals_after false (λ type. is_read_of o.fi insn.op target) w shape.stack shape.locals) x false) e ∙ at_set x (slice_index_or (o.colours i).stack q false) in
      (let bad : true ≡ false = sym o.coloured ∙ (sym same ∙ none) in cc)

  module _ (ts lt : List VType) (sv lv : List ℕ) (made : ℕ) where
    -- what a place behind the instruction comes from
    abbrev pub SourceFine : Given → Type 0
    SourceFine (Fresh t) = Unit {0}
    SourceFine (Taken q) = IsArraySlot c stores f i q (slice_index_or ts q Top) (slice_index_or sv q 0)
    SourceFine (Local x) = IsNoStored stores (slice_index_or lt x Top) (slice_index_or lv x 0)

    -- ---- the locals

    pub locals_clean : WriteClean stores made (row_of c.program m insn target).writes → ((q : ℕ) → SourceFine (Taken q)) → ((x : ℕ) → SourceFine (Local x)) → SlotsFrom (λ place. IsNoStored stores) 0 lt lv
        → SlotsFrom (λ place. IsNoStored stores) 0 (locals_after Top (λ t. t) (row_of c.program m insn target).writes ts lt) (locals_after 0 (λ t. made) (row_of c.program m insn target).writes sv lv)
    locals_clean written taken locals a = by_write (row_of c.program m insn target).writes refl written
      where
        given : (x : ℕ) (g : Given) → (row_of c.program m insn target).writes ≡ Some (x, g) → GivenClean stores made g → IsNoStored stores (value_of Top (λ t. t) ts lt g) (value_of 0 (λ t. made) sv lv g)
        given x (Fresh t) e h = h
        given x (Taken q) e h = (taken q).other (not_written x q e)
        given x (Local y) e h = locals y

        by_write : (o : Option (ℕ × Given)) → (row_of c.program m insn target).writes ≡ o → WriteClean stores made o → SlotsFrom (λ place. IsNoStored stores) 0 (locals_after Top (λ t. t) o ts lt) (locals_after 0 (λ t. made) o sv lv)
        by_write None e h = a
        by_write (Some x) e h = local_set stores 0 lt lv x.0 _ _ (given x.0 x.1 e h) a

    -- ---- the stack, at an instruction that an edge leads to

    module _ (pc : ℕ) (rest locals : List ℕ) (same : (q : ℕ) → slice_index_or sv (length (row_of c.program m insn target).takes + q) 0 ≡ slice_index_or rest q 0) (is_made : IsMadeWell made) where
      module _ (j : ℕ) (other : Insn) (next : Target) (v : TagShape) (to : IsAt c.program (tags_of c) f.method j m other next v) (edge : has_number (edges insn) other.pc ≡ true) where
        abbrev stack : List ℕ
        stack = map (value_of 0 (λ t. made) sv lv) (row_of c.program m insn target).gives ++ rest

        abbrev g : Frame
        g = record f { pc = pc; stack = map (value_of 0 (λ t. made) sv lv) (row_of c.program m insn target).gives ++ rest; locals = locals }

        coloured_by : (k fi : ℕ) (colours : ℕ → ColourShape) → IsColouring c.program (tags_of c) f.method fi colours
            → is_coloured (colours j).stack k ≡ value_of false (λ type. is_read_of fi insn.op target) (colours i).stack (colours i).locals (source (row_of c.program m insn target).gives (length (row_of c.program m insn target).takes) k)
        coloured_by k fi colours colouring =
            ap (λ (s : ColourShape). is_coloured s.stack k) (colouring.onward i j m insn other target next u v at to edge)
            ∙ stack_source false (λ type. is_read_of fi insn.op target) (row_of c.program m insn target) (colours i).stack (colours i).locals k

        abbrev from : ℕ → Given
        from k = source (row_of c.program m insn target).gives (length (row_of c.program m insn target).takes) k

        slot : (k : ℕ) (x : Given) → source (row_of c.program m insn target).gives (length (row_of c.program m insn target).takes) k ≡ x → SourceFine x
            → IsArraySlot c stores (record f { pc = pc; stack = map (value_of 0 (λ t. made) sv lv) (row_of c.program m insn target).gives ++ rest; locals = locals }) j k (value_of Top (λ t. t) ts lt x) (value_of 0 (λ t. made) sv lv x)
        slot k (Fresh t) e fine = record {
          owned = λ o word is. is_made.read o.fi (o.owned, sym (coloured_by k o.fi o.colours o.colouring ∙ ap (value_of false (λ type. is_read_of o.fi insn.op target) (o.colours i).stack (o.colours i).locals) e) ∙ o.coloured) word is;
          other = λ none. subst (GivenClean stores made) e (each_source (GivenClean stores made) (length (row_of c.program m insn target).takes) (λ q. tt) (row_of c.program m insn target).gives (is_made.other (λ fi reads. none (here fi reads))).0 k);
        }
          where
            here : (fi : ℕ) → ReadsField fi → IsOwnedAt c.program (tags_of c) f.method j k
            here fi reads =
                let class = reads_own c.program fi reads.0.field m insn.op target reads.0.is reads.0.private (target_named c.program (tags_of c) f.method i m insn target u marked.checked.program at) reads.1 in
                let used = reads.0.used f.method m at.in_program (sym class) in
                record {
                  fi = fi;
                  owned = reads.0;
                  colours = used.colours;
                  colouring = used.colouring;
                  coloured = coloured_by k fi used.colours used.colouring ∙ (ap (value_of false (λ type. is_read_of fi insn.op target) (used.colours i).stack (used.colours i).locals) e ∙ reads.1);
                }
        slot k (Taken q) e fine = record {
          owned = λ o word is. fine.owned (record { fi = o.fi; owned = o.owned; colours = o.colours; colouring = o.colouring; coloured = sym (as_before o.fi o.colours o.colouring) ∙ o.coloured }) word is;
          other = λ none. fine.other (λ o. none (record { fi = o.fi; owned = o.owned; colours = o.colours; colouring = o.colouring; coloured = as_before o.fi o.colours o.colouring ∙ o.coloured }));
        }
          where
            as_before : (fi : ℕ) (colours : ℕ → ColourShape) → IsColouring c.program (tags_of c) f.method fi colours → is_coloured (colours j).stack k ≡ is_coloured (colours i).stack q
            as_before fi colours colouring = coloured_by k fi colours colouring ∙ ap (value_of false (λ type. is_read_of fi insn.op target) (colours i).stack (colours i).locals) e
        slot k (Local y) e fine = record { owned = λ o word is. absurd (none o); other = λ none. fine }
          where
            none : IsOwnedAt c.program (tags_of c) f.method j k → ⊥
            none o =
                let as_before : is_coloured (o.colours j).stack k ≡ is_coloured (o.colours i).locals y = coloured_by k o.fi o.colours o.colouring ∙ ap (value_of false (λ type. is_read_of o.fi insn.op target) (o.colours i).stack (o.colours i).locals) e in
                let bad : true ≡ false = sym o.coloured ∙ (as_before ∙ (keeps_array o.fi o.colours o.owned o.colouring).locals y) in
                cc

        pub stack_clean : ((k : ℕ) → SourceFine (source (row_of c.program m insn target).gives (length (row_of c.program m insn target).takes) k))
            → SlotsFrom (IsArraySlot c stores (record f { pc = pc; stack = map (value_of 0 (λ t. made) sv lv) (row_of c.program m insn target).gives ++ rest; locals = locals }) j) 0
            (stack_after Top (λ t. t) (row_of c.program m insn target) ts lt) (map (value_of 0 (λ t. made) sv lv) (row_of c.program m insn target).gives ++ rest)
        stack_clean fine =
            from_each (IsArraySlot c stores g j) 0 (stack_after Top (λ t. t) (row_of c.program m insn target) ts lt) stack
            (λ k n e.
            let place : n ≡ k = omega (arith, e) in
            subst (λ (x : ℕ). IsArraySlot c stores g j x (slice_index_or (stack_after Top (λ t. t) (row_of c.program m insn target) ts lt) k Top) (slice_index_or stack k 0)) (sym place)
            (subst (λ (t : VType). IsArraySlot c stores g j k t (slice_index_or stack k 0)) (sym (stack_source Top (λ t. t) (row_of c.program m insn target) ts lt k))
            (subst (λ (x : ℕ). IsArraySlot c stores g j k (value_of Top (λ t. t) ts lt (from k)) x) (sym (source_is 0 (λ t. made) sv lv rest (length (row_of c.program m insn target).takes) same (row_of c.program m insn target).gives k))
            (slot k (from k) refl (fine k)))))
