-- The sweep goes on by one byte: what was found, and what is found behind it, are the whole.
use Rattle.std.proofs.Common.{◌≡◌, ℕ, zero, suc, ◌+◌, ◌-◌, ◌*◌, ◌<◌, ◌≤◌, ℤ, pos, Bool, true, false, List, [], ◌∷◌, ◌++◌, length, map, drop, Option, Some, None, Result, Ok, Err, refl, sym, ap, subst, ◌∙◌, arith, append_assoc, add-one, drop-cons, length-drop, length-append, slice_index_or, int_lt, nat_lt, not, nat_abs, ◌==◌, ◌||◌, if◌then◌else◌, ◌-ℤ◌, ◌+ℤ◌}
use Rattle.std.proofs.lemmas.Bool.{ltb-false, Decides.nat_tests}
use Rattle.lists.proofs.{ListLaws.one_more, TestLaws.{or_assoc, or_false}}
use Rattle.jvm_types.specs.CodeFault.{Extent, Outline, s4_of, landing, sized, case_offsets, ascend, array_extent, table_of, table_extent, lookup_of, lookup_extent, extent_of, known_extent, outline_followed, outlines}
use Rattle.jvm_types.specs.{CodeGrammar.padding_size, CodeTable.{Form, Plain, Byte, Short, SignedByte, SignedShort, Branch, WideBranch, LocalAndStep, IntArray, Table, Lookup, form_of}}
use Rattle.jvm_types.{specs.{Numbers.has_number, ReadCode.{with_insn, insns_of}, declared.{code.{Insn.Insn, Op.Op}, refusal.KRule.{KRule, TheVariants.{K1, K2, K6}}}}, proofs.SampleMethods.insn}
use Rattle.code_decode.specs.{Decoding.{OutlinesRead, extent, IsDecodeStep, with_front, outline, AreMarkedAt, branch_starts, Swept}, declared.{operands.Found.Found, sweep.Branching.Branching}}
use Rattle.code_decode.specs.declared.sweep.Sweep.{Sweep}

-- ---- operands lie inside the code

abbrev size_in : Result Extent KRule → ℕ
size_in (Ok e) = e.size
size_in (Err rule) = 0

fits_by : (n : ℕ) (ts : List ℤ) (room : ℕ) (rule : KRule) (e : Extent) (t : Bool) → (t ≡ false → n ≤ room) → (if t then Err rule else Ok (record { size = n; targets = ts })) ≡ Ok e → e.size ≤ room
fits_by n ts room rule e true k h = absurd (cc)
fits_by n ts room rule e false k h = let g : n ≡ e.size = ap size_in h in subst (λ (m : ℕ). m ≤ room) g (k refl)

sized_fits : (n : ℕ) (ts : List ℤ) (rest : List ℕ) (e : Extent) → sized n ts rest ≡ Ok e → e.size ≤ length rest
sized_fits n ts rest e h = fits_by n ts (length rest) K2 e (nat_lt (length rest) n) (ltb-false (length rest) n) h

behind_fits : (pad n : ℕ) (rest : List ℕ) → 0 < n → n ≤ length (drop pad rest) → pad + n ≤ length rest
behind_fits pad n rest some h = omega (arith, length-drop pad rest)

array_fits : (rest : List ℕ) (e : Extent) → array_extent rest ≡ Ok e → e.size ≤ length rest
array_fits [] e h = absurd (cc)
array_fits (type ∷ rest) e h = by_type (type == 10) h
  where
    by_type : (t : Bool) → (if t then Ok (record { size = 1; targets = [] }) else Err K1) ≡ Ok e → e.size ≤ length (type ∷ rest)
    by_type true h = let g : 1 ≡ e.size = ap size_in h in omega (arith, g)
    by_type false h = absurd (cc)

table_fits : (pc pad : ℕ) (rest : List ℕ) (e : Extent) → table_extent pc pad (drop pad rest) ≡ Ok e → e.size ≤ length rest
table_fits pc pad rest e h = by_length (nat_lt (length (drop pad rest)) 12) h
  where
    n : ℕ
    n = nat_abs (s4_of (drop 8 (drop pad rest)) -ℤ s4_of (drop 4 (drop pad rest)) +ℤ pos 1)

    last : table_of pc pad (nat_abs (s4_of (drop 8 (drop pad rest)) -ℤ s4_of (drop 4 (drop pad rest)) +ℤ pos 1)) (drop pad rest) ≡ Ok e → e.size ≤ length rest
    last h = fits_by _ _ (length rest) K2 e _ (λ f. behind_fits pad _ rest (omega arith) (ltb-false _ _ f)) h

    by_order : (t : Bool) → (if t then Err K6 else table_of pc pad (nat_abs (s4_of (drop 8 (drop pad rest)) -ℤ s4_of (drop 4 (drop pad rest)) +ℤ pos 1)) (drop pad rest)) ≡ Ok e → e.size ≤ length rest
    by_order true h = absurd (cc)
    by_order false h = last h

    by_length : (t : Bool) → (if t then Err K2 else (if int_lt (s4_of (drop 8 (drop pad rest))) (s4_of (drop 4 (drop pad rest))) then Err K6 else table_of pc pad (nat_abs (s4_of (drop 8 (drop pad rest)) -ℤ s4_of (drop 4 (drop pad rest)) +ℤ pos 1)) (drop pad rest))) ≡ Ok e → e.size ≤ length rest
    by_length true h = absurd (cc)
    by_length false h = by_order (int_lt (s4_of (drop 8 (drop pad rest))) (s4_of (drop 4 (drop pad rest)))) h

lookup_of_fits : (pc pad n : ℕ) (rest : List ℕ) (e : Extent) → lookup_of pc pad n (drop pad rest) ≡ Ok e → e.size ≤ length rest
lookup_of_fits pc pad n rest e h = by_length (nat_lt (length (drop pad rest)) (8 + 8 * n)) refl h
  where
    by_keys : (t : Bool) → 8 + 8 * n ≤ length (drop pad rest) → (if t then Err K6 else Ok (record { size = pad + (8 + 8 * n); targets = landing pc (s4_of (drop pad rest)) ∷ case_offsets pc n (drop 8 (drop pad rest)) })) ≡ Ok e → e.size ≤ length rest
    by_keys t k h = fits_by (pad + (8 + 8 * n)) _ (length rest) K6 e t (λ f. behind_fits pad (8 + 8 * n) rest (omega arith) k) h

    by_length : (t : Bool) → nat_lt (length (drop pad rest)) (8 + 8 * n) ≡ t
        → (if t then Err K2 else (if not (ascend n (drop 8 (drop pad rest))) then Err K6 else Ok (record { size = pad + (8 + 8 * n); targets = landing pc (s4_of (drop pad rest)) ∷ case_offsets pc n (drop 8 (drop pad rest)) }))) ≡ Ok e → e.size ≤ length rest
    by_length true f h = absurd (cc)
    by_length false f h = by_keys (not (ascend n (drop 8 (drop pad rest)))) (ltb-false _ _ f) h

lookup_fits : (pc pad : ℕ) (rest : List ℕ) (e : Extent) → lookup_extent pc pad (drop pad rest) ≡ Ok e → e.size ≤ length rest
lookup_fits pc pad rest e h = by_length (nat_lt (length (drop pad rest)) 8) h
  where
    by_sign : (t : Bool) → (if t then Err K6 else lookup_of pc pad (nat_abs (s4_of (drop 4 (drop pad rest)))) (drop pad rest)) ≡ Ok e → e.size ≤ length rest
    by_sign true h = absurd (cc)
    by_sign false h = lookup_of_fits pc pad (nat_abs (s4_of (drop 4 (drop pad rest)))) rest e h

    by_length : (t : Bool) → (if t then Err K2 else (if int_lt (s4_of (drop 4 (drop pad rest))) (pos 0) then Err K6 else lookup_of pc pad (nat_abs (s4_of (drop 4 (drop pad rest)))) (drop pad rest))) ≡ Ok e → e.size ≤ length rest
    by_length true h = absurd (cc)
    by_length false h = by_sign (int_lt (s4_of (drop 4 (drop pad rest))) (pos 0)) h

extent_fits : (pc : ℕ) (f : Form) (rest : List ℕ) (e : Extent) → extent_of pc f rest ≡ Ok e → e.size ≤ length rest
extent_fits pc (Plain op) rest e h = let g : 0 ≡ e.size = ap size_in h in omega (arith, g)
extent_fits pc (Byte make) rest e h = sized_fits 1 _ rest e h
extent_fits pc (Short make) rest e h = sized_fits 2 _ rest e h
extent_fits pc (SignedByte make) rest e h = sized_fits 1 _ rest e h
extent_fits pc (SignedShort make) rest e h = sized_fits 2 _ rest e h
extent_fits pc (Branch make) rest e h = sized_fits 2 _ rest e h
extent_fits pc (WideBranch make) rest e h = sized_fits 4 _ rest e h
extent_fits pc (LocalAndStep make) rest e h = sized_fits 2 _ rest e h
extent_fits pc (IntArray op) rest e h = array_fits rest e h
extent_fits pc Table rest e h = table_fits pc (padding_size pc) rest e h
extent_fits pc Lookup rest e h = lookup_fits pc (padding_size pc) rest e h

pub step_fits : (pc : ℕ) (o : Option Form) (rest : List ℕ) (found : Found) → IsDecodeStep pc o rest (Ok found) → found.size ≤ length rest
step_fits pc None rest found h = absurd h
step_fits pc (Some f) rest found h = extent_fits pc f rest (extent found) h.0

-- ---- marks

pub mark_false : (marks : List Bool) (i : ℕ) → slice_index_or (marks ++ false ∷ []) i false ≡ slice_index_or marks i false
mark_false [] zero = refl
mark_false [] (suc i) = refl
mark_false (m ∷ marks) zero = refl
mark_false (m ∷ marks) (suc i) = mark_false marks i

mark_true : (marks : List Bool) (i : ℕ) → slice_index_or (marks ++ true ∷ []) i false ≡ (slice_index_or marks i false || length marks == i)
mark_true [] zero = refl
mark_true [] (suc i) = none_at i
  where
    none_at : (i : ℕ) → false ≡ (0 == suc i)
    none_at i = grind (arith, nat_tests)
mark_true (m ∷ marks) zero = by_mark m
  where
    by_mark : (m : Bool) → m ≡ (m || suc (length marks) == 0)
    by_mark true = refl
    by_mark false = grind (arith, nat_tests)
mark_true (m ∷ marks) (suc i) = mark_true marks i ∙ ap (λ t. slice_index_or marks i false || t) (same_suc (length marks) i)
  where
    same_suc : (m n : ℕ) → (m == n) ≡ (suc m == suc n)
    same_suc m n = grind (arith, nat_tests)

has_more : (ns : List ℕ) (n i : ℕ) → has_number (ns ++ n ∷ []) i ≡ (has_number ns i || n == i)
has_more [] n i = or_false (n == i)
has_more (m ∷ ns) n i = ap (λ t. m == i || t) (has_more ns n i) ∙ or_assoc (m == i) (has_number ns i) (n == i)

map_more : {A B : Type 0} (f : A → B) (xs : List A) (x : A) → map f (xs ++ x ∷ []) ≡ map f xs ++ f x ∷ []
map_more f [] x = refl
map_more f (y ∷ xs) x = ap (λ ys. f y ∷ ys) (map_more f xs x)

-- ---- a step of the sweep

front_more : (front : List Outline) (x : Outline) (read : OutlinesRead) → with_front front (outline_followed x read) ≡ with_front (front ++ x ∷ []) read
front_more front x (Ok others) = ap (λ (rs : List Outline). Ok rs) (sym (append_assoc front (x ∷ []) others))
front_more front x (Err fault) = refl

pub here : (code : List ℕ) (pc : ℕ) → pc < length code → drop pc code ≡ slice_index_or code pc 0 ∷ drop (pc + 1) code
here code pc h = rw (add-one, drop-cons code pc 0) refl

length_more : {A : Type 0} (xs : List A) (x : A) (n : ℕ) → length xs ≡ n → length (xs ++ x ∷ []) ≡ n + 1
length_more xs x n e = simp length-append (omega (arith, e))

pub passed : (code : List ℕ) (pc skip : ℕ) (b : ℕ) (s : Sweep) → 0 < skip → drop pc code ≡ b ∷ drop (pc + 1) code → Swept code pc skip s
    → Swept code (pc + 1) (skip - 1) (record s { starts = s.starts ++ false ∷ [] })
passed code pc skip b s some here h =
    let k : skip ≡ suc (skip - 1) = omega arith in
    record {
      outlines_read = sym (ap (λ (x : OutlinesRead). with_front (map outline s.branchings) x) (outlines_skip skip (skip - 1) (drop pc code) k here)) ∙ h.outlines_read;
      insns_read = sym (ap (λ (x : List Insn). s.insns.items ++ x) (insns_skip skip (skip - 1) (drop pc code) k here)) ∙ h.insns_read;
      marked = λ i. mark_false s.starts i ∙ h.marked i;
      length_is = length_more s.starts false pc h.length_is;
    }
  where
    outlines_skip : (skip k : ℕ) (bytes : List ℕ) → skip ≡ suc k → bytes ≡ b ∷ drop (pc + 1) code → outlines skip pc bytes ≡ outlines k (pc + 1) (drop (pc + 1) code)
    outlines_skip skip k bytes e f = rw e (rw f refl)

    insns_skip : (skip k : ℕ) (bytes : List ℕ) → skip ≡ suc k → bytes ≡ b ∷ drop (pc + 1) code → insns_of skip pc bytes ≡ insns_of k (pc + 1) (drop (pc + 1) code)
    insns_skip skip k bytes e f = rw e (rw f refl)

known_is : (pc : ℕ) (o : Option Form) (rest : List ℕ) (found : Found) → IsDecodeStep pc o rest (Ok found) → known_extent pc o rest ≡ Ok (extent found)
known_is pc None rest found h = absurd h
known_is pc (Some f) rest found h = h.0

insn_is : (pc : ℕ) (o : Option Form) (rest : List ℕ) (found : Found) (more : ℕ → List Insn) → IsDecodeStep pc o rest (Ok found)
    → with_insn pc o (known_extent pc o rest) rest more ≡ insn pc (pc + 1 + found.size) found.op ∷ more found.size
insn_is pc None rest found more h = absurd h
insn_is pc (Some f) rest found more h = rw h.0 (ap (λ (op : Op). insn pc (pc + 1 + found.size) op ∷ more found.size) (sym h.1))

outlines_step : (pc b : ℕ) (bytes rest : List ℕ) (found : Found) → bytes ≡ b ∷ rest → known_extent pc (form_of b) rest ≡ Ok (extent found)
    → outlines 0 pc bytes ≡ outline_followed (record { pc = pc; targets = found.targets }) (outlines found.size (pc + 1) rest)
outlines_step pc b bytes rest found e f = rw e (rw f refl)

insns_step : (pc b : ℕ) (bytes rest : List ℕ) (found : Found) → bytes ≡ b ∷ rest → IsDecodeStep pc (form_of b) rest (Ok found)
    → insns_of 0 pc bytes ≡ insn pc (pc + 1 + found.size) found.op ∷ insns_of found.size (pc + 1) rest
insns_step pc b bytes rest found e h = rw e (insn_is pc (form_of b) rest found (λ size. insns_of size (pc + 1) rest) h)

marked_more : (marks : List Bool) (branchings : List Branching) (pc : ℕ) (targets : List ℤ) → length marks ≡ pc → AreMarkedAt marks (branch_starts branchings)
    → AreMarkedAt (marks ++ true ∷ []) (branch_starts (branchings ++ record { pc = pc; targets = targets } ∷ []))
marked_more marks branchings pc targets e h i =
    mark_true marks i ∙ (ap (λ t. t || length marks == i) (h i) ∙ (ap (λ n. has_number (branch_starts branchings) i || n == i) e
    ∙ sym (ap (λ ns. has_number ns i) (map_more (λ (b : Branching). b.pc) branchings (record { pc = pc; targets = targets })) ∙ has_more (branch_starts branchings) pc i)))

pub visited : (code : List ℕ) (pc b : ℕ) (found : Found) (s t : Sweep) → t.insns.items ≡ s.insns.items ++ insn pc (pc + 1 + found.size) found.op ∷ []
    → t.branchings ≡ s.branchings ++ record { pc = pc; targets = found.targets } ∷ [] → t.starts ≡ s.starts ++ true ∷ []
    → drop pc code ≡ b ∷ drop (pc + 1) code → IsDecodeStep pc (form_of b) (drop (pc + 1) code) (Ok found) → Swept code pc 0 s → Swept code (pc + 1) found.size t
visited code pc b found s t insns branchings starts at h so_far =
    let rest : List ℕ = drop (pc + 1) code in
    let one : outlines 0 pc (drop pc code) ≡ outline_followed (record { pc = pc; targets = found.targets }) (outlines found.size (pc + 1) (drop (pc + 1) code)) = outlines_step pc b (drop pc code) (drop (pc + 1) code) found at (known_is pc (form_of b) (drop (pc + 1) code) found h) in
    record {
      outlines_read = rw branchings (ap (λ (front : List Outline). with_front front (outlines found.size (pc + 1) (drop (pc + 1) code))) (map_more outline s.branchings (record { pc = pc; targets = found.targets }))
          ∙ (sym (front_more (map outline s.branchings) (record { pc = pc; targets = found.targets }) (outlines found.size (pc + 1) (drop (pc + 1) code)))
          ∙ (sym (ap (λ (x : OutlinesRead). with_front (map outline s.branchings) x) one) ∙ so_far.outlines_read)));
      insns_read = rw insns (one_more s.insns.items (insn pc (pc + 1 + found.size) found.op) (insns_of found.size (pc + 1) (drop (pc + 1) code)) (insns_of 0 0 code)
          (sym (ap (λ (x : List Insn). s.insns.items ++ x) (insns_step pc b (drop pc code) (drop (pc + 1) code) found at h)) ∙ so_far.insns_read));
      marked = rw (branchings, starts) (marked_more s.starts s.branchings pc found.targets so_far.length_is so_far.marked);
      length_is = rw starts (length_more s.starts true pc so_far.length_is);
    }

-- the operands end inside the code
pub inside : (code rest : List ℕ) (pc n size : ℕ) → n ≡ pc → rest ≡ drop (n + 1) code → pc < length code → size ≤ length rest → pc + 1 + size ≤ length code
inside code rest pc n size e f h k = omega (arith, ap length f, length-drop (n + 1) code)
