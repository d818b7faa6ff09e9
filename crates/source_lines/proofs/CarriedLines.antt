-- The lines that are carried on from the pcs at which they begin are those of the starts that begin latest.
use Rattle.std.proofs.Common.{◌≡◌, ◌≢◌, ◌<◌, ◌⊎◌, inl, inr, ℕ, suc, ◌+◌, ◌==◌, nat_le, nat_lt, Bool, true, false, ◌&&◌, List, [], ◌∷◌, ◌++◌, length, map, Option, None, Some, replicate, slice_set, slice_index_or, if◌then◌else◌, refl, sym, ap, subst, ◌∙◌, arith}
use Rattle.std.{specs.{List.range_with_len, Option.option_or}, proofs.lemmas.{Bool.Decides.{eqb_tells, nat_tests}, List.{get_or-replicate, get_or-set_other, get_or-set_same, length-replicate, length-set}}}
use Rattle.jvm_types.specs.declared.class_file.{Attr.Attr, Code.Code, Constant.Constant}
use Rattle.source_lines.specs.{LineTables.{carried, line_number, lines_of, marked, marked_among}, SourceLines.{later, latest_among, latest_start, starts_of}, declared.line_starts.LineStart.LineStart}

-- ---- the starts of all attributes

abbrev starts_among : List Constant → List Attr → List LineStart
starts_among pool [] = []
starts_among pool (attr ∷ attrs) = starts_of pool attr ++ starts_among pool attrs

latest_behind : (pc : ℕ) (found : Option LineStart) (ss more : List LineStart) → latest_start pc found (ss ++ more) ≡ latest_start pc (latest_start pc found ss) more
latest_behind pc found [] more = refl
latest_behind pc found (s ∷ ss) more = latest_behind pc (later pc found s) ss more

latest_in_all : (pool : List Constant) (pc : ℕ) (found : Option LineStart) (attrs : List Attr) → latest_among pool pc found attrs ≡ latest_start pc found (starts_among pool attrs)
latest_in_all pool pc found [] = refl
latest_in_all pool pc found (attr ∷ attrs) = latest_in_all pool pc (latest_start pc found (starts_of pool attr)) attrs ∙ sym (latest_behind pc found (starts_of pool attr) (starts_among pool attrs))

marked_behind : (ss more : List LineStart) (lines : List (Option ℕ)) → marked (ss ++ more) lines ≡ marked more (marked ss lines)
marked_behind [] more lines = refl
marked_behind (s ∷ ss) more lines = marked_behind ss more (slice_set lines s.pc (Some s.line))

marked_in_all : (pool : List Constant) (attrs : List Attr) (lines : List (Option ℕ)) → marked_among pool attrs lines ≡ marked (starts_among pool attrs) lines
marked_in_all pool [] lines = refl
marked_in_all pool (attr ∷ attrs) lines = marked_in_all pool attrs (marked (starts_of pool attr) lines) ∙ sym (marked_behind (starts_of pool attr) (starts_among pool attrs) lines)

-- ---- the last start at just a pc is marked there

abbrev at_pc : ℕ → Option LineStart → LineStart → Option LineStart
at_pc pc found s = if s.pc == pc then Some s else found

abbrev last_at : ℕ → Option LineStart → List LineStart → Option LineStart
last_at pc found [] = found
last_at pc found (s ∷ ss) = last_at pc (at_pc pc found s) ss

put : (lines : List (Option ℕ)) (i pc : ℕ) (line : Option ℕ) → pc < length lines → (((i == pc) ≡ true) × (i ≡ pc)) ⊎ (((i == pc) ≡ false) × (i ≢ pc)) → slice_index_or (slice_set lines i line) pc None ≡ (if i == pc then line else slice_index_or lines pc None)
put lines i pc line h (inl e) = rw e.0 (rw e.1 (get_or-set_same lines pc line None h))
put lines i pc line h (inr e) = rw e.0 (get_or-set_other lines i pc line None (λ z. e.1 (sym z)))

either_number : (b : Bool) (s : LineStart) (line : Option ℕ) (found : Option LineStart) → line ≡ line_number found → (if b then Some s.line else line) ≡ line_number (if b then Some s else found)
either_number true s line found e = refl
either_number false s line found e = e

marked_length : (ss : List LineStart) (lines : List (Option ℕ)) → length (marked ss lines) ≡ length lines
marked_length [] lines = refl
marked_length (s ∷ ss) lines = marked_length ss (slice_set lines s.pc (Some s.line)) ∙ length-set lines s.pc (Some s.line)

marked_at : (ss : List LineStart) (lines : List (Option ℕ)) (pc : ℕ) (found : Option LineStart) → pc < length lines → slice_index_or lines pc None ≡ line_number found → slice_index_or (marked ss lines) pc None ≡ line_number (last_at pc found ss)
marked_at [] lines pc found h e = e
marked_at (s ∷ ss) lines pc found h e = marked_at ss (slice_set lines s.pc (Some s.line)) pc (at_pc pc found s) (subst (λ (n : ℕ). pc < n) (sym (length-set lines s.pc (Some s.line))) h)
    (put lines s.pc pc (Some s.line) h (eqb_tells s.pc pc) ∙ either_number (s.pc == pc) s (slice_index_or lines pc None) found e)

-- ---- the one that begins latest is the last at the pc, or else the latest before it

abbrev earlier : ℕ → Option LineStart → LineStart → Option LineStart
earlier pc None s = if nat_lt s.pc pc then Some s else None
earlier pc (Some found) s = if nat_lt s.pc pc && nat_le found.pc s.pc then Some s else Some found

abbrev latest_before : ℕ → Option LineStart → List LineStart → Option LineStart
latest_before pc found [] = found
latest_before pc found (s ∷ ss) = latest_before pc (earlier pc found s) ss

abbrev IsAt : ℕ → Option LineStart → Type 0
IsAt pc None = Unit {0}
IsAt pc (Some s) = s.pc ≡ pc

abbrev IsBefore : ℕ → Option LineStart → Type 0
IsBefore pc None = Unit {0}
IsBefore pc (Some s) = s.pc < pc

-- one step of both, by the pcs alone
none_yet : {X : Type 0} (p pc : ℕ) (s : X) → (if nat_le p pc then Some s else None) ≡ option_or (if p == pc then Some s else None) (if nat_lt p pc then Some s else None)
none_yet p pc s = grind (arith, nat_tests)

before_yet : {X : Type 0} (p q pc : ℕ) (s b : X) → q < pc → (if nat_le p pc && nat_le q p then Some s else Some b) ≡ option_or (if p == pc then Some s else None) (if nat_lt p pc && nat_le q p then Some s else Some b)
before_yet p q pc s b h = grind (arith, nat_tests)

there_yet : {X : Type 0} (p q pc : ℕ) (s a : X) (found : Option X) → q ≡ pc → (if nat_le p pc && nat_le q p then Some s else Some a) ≡ option_or (if p == pc then Some s else Some a) found
there_yet p q pc s a found h = grind (arith, nat_tests)

step : (pc : ℕ) (a b : Option LineStart) (s : LineStart) → IsAt pc a → IsBefore pc b → later pc (option_or a b) s ≡ option_or (at_pc pc a s) (earlier pc b s)
step pc None None s h k = none_yet s.pc pc s
step pc None (Some b) s h k = before_yet s.pc b.pc pc s b k
step pc (Some a) b s h k = there_yet s.pc a.pc pc s a (earlier pc b s) h

still_at : (pc : ℕ) (a : Option LineStart) (s : LineStart) → IsAt pc a → IsAt pc (at_pc pc a s)
still_at pc a s h = by_test (eqb_tells s.pc pc)
  where
    by_test : (((s.pc == pc) ≡ true) × (s.pc ≡ pc)) ⊎ (((s.pc == pc) ≡ false) × (s.pc ≢ pc)) → IsAt pc (at_pc pc a s)
    by_test (inl e) = rw e.0 e.1
    by_test (inr e) = rw e.0 h

IsBefore-if : (b : Bool) (pc : ℕ) (s : LineStart) (found : Option LineStart) → (b ≡ true → s.pc < pc) → IsBefore pc found → IsBefore pc (if b then Some s else found)
IsBefore-if true pc s found h k = h refl
IsBefore-if false pc s found h k = k

below : (p pc : ℕ) → nat_lt p pc ≡ true → p < pc
below p pc h = grind (arith, nat_tests)

below_and : (p q pc : ℕ) → (nat_lt p pc && nat_le q p) ≡ true → p < pc
below_and p q pc h = grind (arith, nat_tests)

still_before : (pc : ℕ) (b : Option LineStart) (s : LineStart) → IsBefore pc b → IsBefore pc (earlier pc b s)
still_before pc None s k = IsBefore-if (nat_lt s.pc pc) pc s None (below s.pc pc) tt
still_before pc (Some b) s k = IsBefore-if (nat_lt s.pc pc && nat_le b.pc s.pc) pc s (Some b) (below_and s.pc b.pc pc) k

joined : (pc : ℕ) (a b : Option LineStart) (ss : List LineStart) → IsAt pc a → IsBefore pc b → latest_start pc (option_or a b) ss ≡ option_or (last_at pc a ss) (latest_before pc b ss)
joined pc a b [] h k = refl
joined pc a b (s ∷ ss) h k = ap (λ (f : Option LineStart). latest_start pc f ss) (step pc a b s h k)
    ∙ joined pc (at_pc pc a s) (earlier pc b s) ss (still_at pc a s h) (still_before pc b s k)

-- what begins before the next pc does not begin behind this one
none_next : {X : Type 0} (p pc : ℕ) (s : X) → (if nat_lt p (pc + 1) then Some s else None) ≡ (if nat_le p pc then Some s else None)
none_next p pc s = grind (arith, nat_tests)

some_next : {X : Type 0} (p q pc : ℕ) (s b : X) → (if nat_lt p (pc + 1) && nat_le q p then Some s else Some b) ≡ (if nat_le p pc && nat_le q p then Some s else Some b)
some_next p q pc s b = grind (arith, nat_tests)

next_step : (pc : ℕ) (found : Option LineStart) (s : LineStart) → earlier (pc + 1) found s ≡ later pc found s
next_step pc None s = none_next s.pc pc s
next_step pc (Some b) s = some_next s.pc b.pc pc s b

before_next : (pc : ℕ) (found : Option LineStart) (ss : List LineStart) → latest_before (pc + 1) found ss ≡ latest_start pc found ss
before_next pc found [] = refl
before_next pc found (s ∷ ss) = ap (λ (f : Option LineStart). latest_before (pc + 1) f ss) (next_step pc found s) ∙ before_next pc (later pc found s) ss

none_first : {X : Type 0} (p : ℕ) (s : X) → (if nat_lt p 0 then Some s else None) ≡ None
none_first p s = grind (arith, nat_tests)

before_first : (ss : List LineStart) → latest_before 0 None ss ≡ None
before_first [] = refl
before_first (s ∷ ss) = ap (λ (f : Option LineStart). latest_before 0 f ss) (none_first s.pc s) ∙ before_first ss

-- ---- carried on from a pc

number_or : (a b : Option LineStart) → line_number (option_or a b) ≡ option_or (line_number a) (line_number b)
number_or None b = refl
number_or (Some s) b = refl

-- the lines of the starts at just the pcs from one on
abbrev AreMarked : (ss : List LineStart) → ℕ → List (Option ℕ) → Type 0
AreMarked ss pc [] = Unit {0}
AreMarked ss pc (line ∷ lines) = (line ≡ line_number (last_at pc None ss)) × AreMarked ss (pc + 1) lines

carried_on : (ss : List LineStart) (pc : ℕ) (before : Option ℕ) (lines : List (Option ℕ)) → AreMarked ss pc lines → before ≡ line_number (latest_before pc None ss) → carried before lines ≡ map (λ i. line_number (latest_start i None ss)) (range_with_len pc (length lines))
carried_on ss pc before [] h k = refl
carried_on ss pc before (line ∷ lines) h k = λ i. here i ∷ carried_on ss (pc + 1) (option_or line before) lines h.1 (here ∙ ap line_number (sym (before_next pc None ss))) i
  where
    here : option_or line before ≡ line_number (latest_start pc None ss)
    here = (λ i. option_or (h.0 i) (k i)) ∙ sym (number_or (last_at pc None ss) (latest_before pc None ss)) ∙ ap line_number (sym (joined pc None None ss tt tt))

by_places : (ss : List LineStart) (pc : ℕ) (lines : List (Option ℕ)) → ((i : ℕ) → i < length lines → slice_index_or lines i None ≡ line_number (last_at (pc + i) None ss)) → AreMarked ss pc lines
by_places ss pc [] h = tt
by_places ss pc (line ∷ lines) h = (
  h 0 (omega arith) ∙ ap (λ (n : ℕ). line_number (last_at n None ss)) (omega arith),
  by_places ss (pc + 1) lines (λ i l. h (suc i) (omega (arith, l)) ∙ ap (λ (n : ℕ). line_number (last_at n None ss)) (omega arith)),
)

marked_so : (ss : List LineStart) (n : ℕ) → AreMarked ss 0 (marked ss (replicate n None))
marked_so ss n = by_places ss 0 (marked ss (replicate n None)) (λ i l.
    let within : i < n = subst (λ (k : ℕ). i < k) (marked_length ss (replicate n None) ∙ length-replicate n None) l in
    let inside : i < length (replicate n None) = subst (λ (k : ℕ). i < k) (sym (length-replicate n None)) within in
    marked_at ss (replicate n None) i None inside (get_or-replicate n i None None within) ∙ ap (λ (k : ℕ). line_number (last_at k None ss)) (omega arith))

pub are_lines : (pool : List Constant) (code : Code) → carried None (marked_among pool code.attrs (replicate (length code.bytes) None)) ≡ lines_of pool code
are_lines pool code =
    let n : ℕ = length code.bytes in
    let ss : List LineStart = starts_among pool code.attrs in
    ap (carried None) (marked_in_all pool code.attrs (replicate n None))
    ∙ carried_on ss 0 None (marked ss (replicate n None)) (marked_so ss n) (sym (ap line_number (before_first ss)))
    ∙ (λ i. map (λ pc. line_number (sym (latest_in_all pool pc None code.attrs) i)) (range_with_len 0 ((marked_length ss (replicate n None) ∙ length-replicate n None) i)))
