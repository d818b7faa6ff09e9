-- Bytes that break no rule are code: each form of operands is spelled by what was read of it.
use Rattle.std.proofs.Common.{◌≡◌, ℕ, zero, suc, ◌+◌, ◌*◌, ◌<◌, ◌≤◌, ℤ, pos, Bool, true, false, List, [], ◌∷◌, ◌++◌, length, map, Result, Ok, Err, refl, ap, sym, subst, ◌∙◌, arith, ◌^◌, ◌-ℤ◌, ◌+ℤ◌, ◌<ℤ◌, FitsSigned, take, drop, nat_abs, int_lt, nat_lt, ◌==◌, not, if◌then◌else◌, length-drop}
use Rattle.std.{specs.{Int.{w8, w16, w32, cast_signed}, List.{AllByRecursion, flat_map}}, proofs.{Math.{Facts.sfits_to_z, Seq.take-add}, lemmas.{Bool.Decides.nat_tests, Int.of_z-to_z}}}
use Rattle.std.proofs.lemmas.List.{length-take-le}
use Rattle.lists.proofs.TestLaws.{both_are_true}
use Rattle.jvm_types.specs.CodeFault.{Extent, s2_of, s4_of, landing, sized, offsets, case_offsets, ascend, array_extent, table_of, table_extent, lookup_of, lookup_extent, extent_of}
use Rattle.jvm_types.specs.CodeGrammar.{s1, s2, offset, padding_size, spelled_case, KeysAscend, SpellsTable, SpellsLookup, SpellsOperands}
use Rattle.jvm_types.specs.{CodeTable.{Form, Plain, Byte, Short, SignedByte, SignedShort, Branch, WideBranch, LocalAndStep, IntArray, Table, Lookup}, Numbers.{u1, u2, u4, s4}}
use Rattle.jvm_types.{specs.{ReadCode.{op_of, table_op, lookup_op, cases_of}, declared.{code.Op.Op, refusal.KRule.{KRule, TheVariants.{K1, K2, K6}}}}, proofs.{ByteOrder.u2_spelled, CodeReading.same_cons}}

-- ---- numbers

four_bytes : (a b c d : ℕ) → a < 256 → b < 256 → c < 256 → d < 256 → u4 (a * 16777216 + b * 65536 + c * 256 + d) ≡ a ∷ b ∷ c ∷ d ∷ []
four_bytes a b c d f g h i = same_cons _ _ _ _ (omega (arith, f, g, h, i)) (same_cons _ _ _ _ (omega (arith, f, g, h, i)) (same_cons _ _ _ _ (omega (arith, f, g, h, i)) (same_cons _ _ _ _ (omega (arith, f, g, h, i)) refl)))

s1_whole : (a : ℕ) → a < 256 → s1 (cast_signed w8 a) ≡ a ∷ []
s1_whole a f = ap u1 (of_z-to_z w8 a f)

s2_whole : (a b : ℕ) (rest : List ℕ) → a < 256 → b < 256 → s2 (s2_of (a ∷ b ∷ rest)) ≡ a ∷ b ∷ []
s2_whole a b rest f g = ap u2 (of_z-to_z w16 (a * 256 + b) (omega (arith, f, g))) ∙ u2_spelled a b f g

s4_whole : (a b c d : ℕ) (rest : List ℕ) → a < 256 → b < 256 → c < 256 → d < 256 → s4 (s4_of (a ∷ b ∷ c ∷ d ∷ rest)) ≡ a ∷ b ∷ c ∷ d ∷ []
s4_whole a b c d rest f g h i = ap u4 (of_z-to_z w32 (a * 16777216 + b * 65536 + c * 256 + d) (omega (arith, f, g, h, i))) ∙ four_bytes a b c d f g h i

s1_fits : (a : ℕ) → a < 256 → FitsSigned w8 (cast_signed w8 a)
s1_fits a f = sfits_to_z (record { fits = f })

s2_fits : (a b : ℕ) (rest : List ℕ) → a < 256 → b < 256 → FitsSigned w16 (s2_of (a ∷ b ∷ rest))
s2_fits a b rest f g = sfits_to_z (record { fits = omega (arith, f, g) })

s4_fits : (a b c d : ℕ) (rest : List ℕ) → a < 256 → b < 256 → c < 256 → d < 256 → FitsSigned w32 (s4_of (a ∷ b ∷ c ∷ d ∷ rest))
s4_fits a b c d rest f g h i = sfits_to_z (record { fits = omega (arith, f, g, h, i) })

-- a pc that is not below 0
abbrev pub Lands : ℤ → Type 0
Lands to = pos (nat_abs to) ≡ to

abbrev pub AreBytes : List ℕ → Type 0
AreBytes bytes = AllByRecursion (λ b. b < 2 ^ 8) bytes

way_back : (pc : ℕ) (way : ℤ) → pos (nat_abs (landing pc way)) ≡ landing pc way → offset pc (nat_abs (landing pc way)) ≡ way
way_back pc way h = grind (arith, h)

-- ---- tests

sized_is : (n : ℕ) (ts : List ℤ) (rest : List ℕ) (e : Extent) → sized n ts rest ≡ Ok e → (n ≤ length rest) × (e ≡ record { size = n; targets = ts })
sized_is n ts rest e h = by_test (nat_lt (length rest) n) refl h
  where
    by_test : (t : Bool) → nat_lt (length rest) n ≡ t → (if t then Err K2 else Ok (record { size = n; targets = ts })) ≡ Ok e → (n ≤ length rest) × (e ≡ record { size = n; targets = ts })
    by_test true t h = absurd (cc)
    by_test false t h = (grind (arith, nat_tests, t), cc)

-- what was read of an instruction is spelled by its bytes
pub record IsWhole (pc : ℕ) (f : Form) (rest : List ℕ) (e : Extent) : Type 0 where
  pub within : e.size ≤ length rest
  pub spelled : SpellsOperands pc f (op_of pc f rest) (take e.size rest)

as_whole : (pc : ℕ) (f : Form) (rest : List ℕ) (e : Extent) (size : ℕ) (ts : List ℤ) → e ≡ record { size = size; targets = ts } → size ≤ length rest
    → SpellsOperands pc f (op_of pc f rest) (take size rest) → IsWhole pc f rest e
as_whole pc f rest e size ts is within spelled = subst (λ (x : Extent). IsWhole pc f rest x) (sym is) (record { within = within; spelled = spelled })

lands_as : (e : Extent) (size : ℕ) (ts : List ℤ) → e ≡ record { size = size; targets = ts } → AllByRecursion Lands e.targets → AllByRecursion Lands ts
lands_as e size ts is l = subst (λ (x : Extent). AllByRecursion Lands x.targets) is l

near_whole : (pc x y : ℕ) (rest : List ℕ) (make : ℕ → Op) → x < 256 → y < 256 → Lands (landing pc (s2_of (x ∷ y ∷ rest)))
    → SpellsOperands pc (Branch make) (make (nat_abs (landing pc (s2_of (x ∷ y ∷ rest))))) (x ∷ y ∷ [])
near_whole pc x y rest make f g l = (nat_abs (landing pc (s2_of (x ∷ y ∷ rest))), refl, rw (way_back pc (s2_of (x ∷ y ∷ rest)) l) (sym (s2_whole x y rest f g)), rw (way_back pc (s2_of (x ∷ y ∷ rest)) l) (s2_fits x y rest f g))

wide_whole : (pc x y z w : ℕ) (rest : List ℕ) (make : ℕ → Op) → x < 256 → y < 256 → z < 256 → w < 256 → Lands (landing pc (s4_of (x ∷ y ∷ z ∷ w ∷ rest)))
    → SpellsOperands pc (WideBranch make) (make (nat_abs (landing pc (s4_of (x ∷ y ∷ z ∷ w ∷ rest))))) (x ∷ y ∷ z ∷ w ∷ [])
wide_whole pc x y z w rest make f g h i l = (
  nat_abs (landing pc (s4_of (x ∷ y ∷ z ∷ w ∷ rest))),
  refl,
  rw (way_back pc (s4_of (x ∷ y ∷ z ∷ w ∷ rest)) l) (sym (s4_whole x y z w rest f g h i)),
  rw (way_back pc (s4_of (x ∷ y ∷ z ∷ w ∷ rest)) l) (s4_fits x y z w rest f g h i),
)

array_is : (x : ℕ) (rest : List ℕ) (e : Extent) → array_extent (x ∷ rest) ≡ Ok e → (x ≡ 10) × (e ≡ record { size = 1; targets = [] })
array_is x rest e h = by_test (x == 10) refl h
  where
    by_test : (t : Bool) → (x == 10) ≡ t → (if t then Ok (record { size = 1; targets = [] }) else Err K1) ≡ Ok e → (x ≡ 10) × (e ≡ record { size = 1; targets = [] })
    by_test true t h = (grind (arith, nat_tests, t), cc)
    by_test false t h = absurd (cc)

-- ---- switches

bytes_drop : (n : ℕ) (bytes : List ℕ) → AreBytes bytes → AreBytes (drop n bytes)
bytes_drop zero bytes b = b
bytes_drop (suc n) [] b = tt
bytes_drop (suc n) (x ∷ bytes) b = bytes_drop n bytes b.1

four_whole : (bytes : List ℕ) → AreBytes bytes → 4 ≤ length bytes → take 4 bytes ≡ s4 (s4_of bytes)
four_whole [] b h = absurd (omega (arith, h))
four_whole (x ∷ []) b h = absurd (omega (arith, h))
four_whole (x ∷ y ∷ []) b h = absurd (omega (arith, h))
four_whole (x ∷ y ∷ z ∷ []) b h = absurd (omega (arith, h))
four_whole (x ∷ y ∷ z ∷ w ∷ rest) b h = sym (s4_whole x y z w rest b.0 b.1.0 b.1.1.0 b.1.1.1.0)

four_fit : (bytes : List ℕ) → AreBytes bytes → 4 ≤ length bytes → FitsSigned w32 (s4_of bytes)
four_fit [] b h = absurd (omega (arith, h))
four_fit (x ∷ []) b h = absurd (omega (arith, h))
four_fit (x ∷ y ∷ []) b h = absurd (omega (arith, h))
four_fit (x ∷ y ∷ z ∷ []) b h = absurd (omega (arith, h))
four_fit (x ∷ y ∷ z ∷ w ∷ rest) b h = s4_fits x y z w rest b.0 b.1.0 b.1.1.0 b.1.1.1.0

-- an offset from a pc, whose target is not below 0
way_whole : (pc : ℕ) (bytes : List ℕ) → AreBytes bytes → 4 ≤ length bytes → Lands (landing pc (s4_of bytes)) → take 4 bytes ≡ s4 (offset pc (nat_abs (landing pc (s4_of bytes))))
way_whole pc bytes b h l = four_whole bytes b h ∙ ap s4 (sym (way_back pc (s4_of bytes) l))

way_fits : (pc : ℕ) (bytes : List ℕ) → AreBytes bytes → 4 ≤ length bytes → Lands (landing pc (s4_of bytes)) → FitsSigned w32 (offset pc (nat_abs (landing pc (s4_of bytes))))
way_fits pc bytes b h l = rw (way_back pc (s4_of bytes) l) (four_fit bytes b h)

words_whole : (pc n : ℕ) (bytes : List ℕ) → AreBytes bytes → 4 * n ≤ length bytes → AllByRecursion Lands (offsets pc n bytes)
    → take (4 * n) bytes ≡ flat_map (λ to. s4 (offset pc to)) (map nat_abs (offsets pc n bytes))
words_whole pc zero bytes b h l = refl
words_whole pc (suc n) bytes b h l =
    let e : 4 * suc n ≡ 4 + 4 * n = omega arith in
    rw e (take-add 4 (4 * n) bytes ∙ both (way_whole pc bytes b (omega (arith, h)) l.0) (words_whole pc n (drop 4 bytes) (bytes_drop 4 bytes b) (omega (arith, h, length-drop 4 bytes)) l.1))
  where
    both : {xs ys us vs : List ℕ} → xs ≡ ys → us ≡ vs → xs ++ us ≡ ys ++ vs
    both e f = rw e (rw f refl)

words_fit : (pc n : ℕ) (bytes : List ℕ) → AreBytes bytes → 4 * n ≤ length bytes → AllByRecursion Lands (offsets pc n bytes) → AllByRecursion (λ to. FitsSigned w32 (offset pc to)) (map nat_abs (offsets pc n bytes))
words_fit pc zero bytes b h l = tt
words_fit pc (suc n) bytes b h l = (way_fits pc bytes b (omega (arith, h)) l.0, words_fit pc n (drop 4 bytes) (bytes_drop 4 bytes b) (omega (arith, h, length-drop 4 bytes)) l.1)

words_count : (pc n : ℕ) (bytes : List ℕ) → length (map nat_abs (offsets pc n bytes)) ≡ n
words_count pc zero bytes = refl
words_count pc (suc n) bytes = omega (arith, words_count pc n (drop 4 bytes))

-- how many numbers lie from low to high
abbrev numbers : ℤ → ℤ → ℕ
numbers low high = nat_abs (high -ℤ low +ℤ pos 1)

numbers_are : (low high : ℤ) → int_lt high low ≡ false → pos (numbers low high) ≡ high -ℤ low +ℤ pos 1
numbers_are low high h = first_of (grind (arith, h), search (arith, h))

numbers_some : (low high : ℤ) → int_lt high low ≡ false → 0 < numbers low high
numbers_some low high h = first_of (grind (arith, h), search (arith, h))

record TableIs (pc pad : ℕ) (body : List ℕ) (e : Extent) (n : ℕ) : Type 0 where
  fits : 12 + 4 * n ≤ length body
  ordered : int_lt (s4_of (drop 8 body)) (s4_of (drop 4 body)) ≡ false
  is : e ≡ record { size = pad + (12 + 4 * n); targets = landing pc (s4_of body) ∷ offsets pc n (drop 12 body) }

table_is : (pc pad : ℕ) (body : List ℕ) (e : Extent) → table_extent pc pad body ≡ Ok e → TableIs pc pad body e (numbers (s4_of (drop 4 body)) (s4_of (drop 8 body)))
table_is pc pad body e h = by_length (nat_lt (length body) 12) refl h
  where
    n : ℕ
    n = numbers (s4_of (drop 4 body)) (s4_of (drop 8 body))

    by_size : (t : Bool) → nat_lt (length body) (12 + 4 * n) ≡ t → int_lt (s4_of (drop 8 body)) (s4_of (drop 4 body)) ≡ false
        → (if t then Err K2 else Ok (record { size = pad + (12 + 4 * n); targets = landing pc (s4_of body) ∷ offsets pc n (drop 12 body) })) ≡ Ok e → TableIs pc pad body e n
    by_size true t u h = absurd (cc)
    by_size false t u h = record { fits = grind (arith, nat_tests, t); ordered = u; is = cc }

    by_order : (t : Bool) → int_lt (s4_of (drop 8 body)) (s4_of (drop 4 body)) ≡ t → (if t then Err K6 else table_of pc pad n body) ≡ Ok e → TableIs pc pad body e n
    by_order true t h = absurd (cc)
    by_order false t h = by_size (nat_lt (length body) (12 + 4 * n)) refl t h

    by_length : (t : Bool) → nat_lt (length body) 12 ≡ t → (if t then Err K2 else if int_lt (s4_of (drop 8 body)) (s4_of (drop 4 body)) then Err K6 else table_of pc pad n body) ≡ Ok e → TableIs pc pad body e n
    by_length true t h = absurd (cc)
    by_length false t h = by_order (int_lt (s4_of (drop 8 body)) (s4_of (drop 4 body))) refl h

drop_none : {A : Type 0} (n : ℕ) → drop {A = A} n [] ≡ []
drop_none zero = refl
drop_none (suc n) = refl

drop_twice : {A : Type 0} (m n : ℕ) (xs : List A) → drop n (drop m xs) ≡ drop (m + n) xs
drop_twice zero n xs = ap (λ k. drop k xs) (omega arith)
drop_twice (suc m) n [] = drop_none n ∙ sym (drop_none (suc m + n))
drop_twice (suc m) n (x ∷ xs) = let e : suc m + n ≡ suc (m + n) = omega arith in rw e (drop_twice m n xs)

both_lists : {A : Type 0} (xs ys us vs : List A) → xs ≡ ys → us ≡ vs → xs ++ us ≡ ys ++ vs
both_lists xs ys us vs e f = rw e (rw f refl)

-- three numbers, and what stands behind them
three_whole : (pc k : ℕ) (body xs : List ℕ) → AreBytes body → 12 + k ≤ length body → Lands (landing pc (s4_of body)) → take k (drop 12 body) ≡ xs
    → take (12 + k) body ≡ s4 (offset pc (nat_abs (landing pc (s4_of body)))) ++ s4 (s4_of (drop 4 body)) ++ s4 (s4_of (drop 8 body)) ++ xs
three_whole pc k body xs b h l e =
    let at4 : take 4 (drop 4 body) ≡ s4 (s4_of (drop 4 body)) = four_whole (drop 4 body) (bytes_drop 4 body b) (omega (arith, h, length-drop 4 body)) in
    let at8 : take 4 (drop 4 (drop 4 body)) ≡ s4 (s4_of (drop 8 body)) = ap (take 4) (drop_twice 4 4 body) ∙ four_whole (drop 8 body) (bytes_drop 8 body b) (omega (arith, h, length-drop 8 body)) in
    take-add 12 k body ∙ both_lists (take 12 body) (s4 (offset pc (nat_abs (landing pc (s4_of body)))) ++ (s4 (s4_of (drop 4 body)) ++ s4 (s4_of (drop 8 body)))) (take k (drop 12 body)) xs
    (take-add 4 8 body ∙ both_lists _ _ _ _ (way_whole pc body b (omega (arith, h)) l) (take-add 4 4 (drop 4 body) ∙ both_lists _ _ _ _ at4 at8)) e

table_spelled : (pc : ℕ) (rest body : List ℕ) → drop (padding_size pc) rest ≡ body → AreBytes body → 12 + 4 * numbers (s4_of (drop 4 body)) (s4_of (drop 8 body)) ≤ length body
    → int_lt (s4_of (drop 8 body)) (s4_of (drop 4 body)) ≡ false → Lands (landing pc (s4_of body)) → AllByRecursion Lands (offsets pc (numbers (s4_of (drop 4 body)) (s4_of (drop 8 body))) (drop 12 body))
    → SpellsTable pc (table_op pc body) (take (padding_size pc + (12 + 4 * numbers (s4_of (drop 4 body)) (s4_of (drop 8 body)))) rest)
table_spelled pc rest body is b fits up l ls =
    let n : ℕ = numbers (s4_of (drop 4 body)) (s4_of (drop 8 body)) in
    let behind : 4 * n ≤ length (drop 12 body) = omega (arith, fits, length-drop 12 body) in
    let long : padding_size pc ≤ length rest = omega (arith, fits, length-drop (padding_size pc) rest, ap length is) in
    record {
      padding = take (padding_size pc) rest;
      otherwise = nat_abs (landing pc (s4_of body));
      low = s4_of (drop 4 body);
      high = s4_of (drop 8 body);
      targets = map nat_abs (offsets pc n (drop 12 body));
      is = refl;
      spelled = take-add (padding_size pc) (12 + 4 * n) rest ∙ ap (λ x. take (padding_size pc) rest ++ x) (ap (take (12 + 4 * n)) is
          ∙ three_whole pc (4 * n) body (flat_map (λ to. s4 (offset pc to)) (map nat_abs (offsets pc n (drop 12 body)))) b fits l (words_whole pc n (drop 12 body) (bytes_drop 12 body b) behind ls));
      padded = length-take-le (padding_size pc) rest long;
      counted = ap pos (words_count pc n (drop 12 body)) ∙ numbers_are (s4_of (drop 4 body)) (s4_of (drop 8 body)) up;
      some = omega (arith, words_count pc n (drop 12 body), numbers_some (s4_of (drop 4 body)) (s4_of (drop 8 body)) up);
      low_fits = four_fit (drop 4 body) (bytes_drop 4 body b) (omega (arith, fits, length-drop 4 body));
      high_fits = four_fit (drop 8 body) (bytes_drop 8 body b) (omega (arith, fits, length-drop 8 body));
      default_fits = way_fits pc body b (omega (arith, fits)) l;
      offsets_fit = words_fit pc n (drop 12 body) (bytes_drop 12 body b) behind ls;
    }

table_whole : (pc : ℕ) (rest body : List ℕ) (e : Extent) → drop (padding_size pc) rest ≡ body → AreBytes body → TableIs pc (padding_size pc) body e (numbers (s4_of (drop 4 body)) (s4_of (drop 8 body)))
    → AllByRecursion Lands e.targets → IsWhole pc Table rest e
table_whole pc rest body e is b t l =
    let n : ℕ = numbers (s4_of (drop 4 body)) (s4_of (drop 8 body)) in
    let ts : List ℤ = landing pc (s4_of body) ∷ offsets pc n (drop 12 body) in
    let lands : AllByRecursion Lands ts = lands_as e (padding_size pc + (12 + 4 * n)) ts t.is l in
    as_whole pc Table rest e (padding_size pc + (12 + 4 * n)) ts t.is (omega (arith, t.fits, length-drop (padding_size pc) rest, ap length is))
    (subst (λ (x : List ℕ). SpellsTable pc (table_op pc x) (take (padding_size pc + (12 + 4 * n)) rest)) (sym is) (table_spelled pc rest body is b t.fits t.ordered lands.0 lands.1))

-- the pairs of a `lookupswitch`
pairs_whole : (pc n : ℕ) (bytes : List ℕ) → AreBytes bytes → 8 * n ≤ length bytes → AllByRecursion Lands (case_offsets pc n bytes)
    → take (8 * n) bytes ≡ flat_map (spelled_case pc) (cases_of pc n bytes)
pairs_whole pc zero bytes b h l = refl
pairs_whole pc (suc n) bytes b h l =
    let e : 8 * suc n ≡ 8 + 8 * n = omega arith in
    rw e (take-add 8 (8 * n) bytes ∙ both_lists _ _ _ _
    (take-add 4 4 bytes ∙ both_lists _ _ _ _ (four_whole bytes b (omega (arith, h))) (way_whole pc (drop 4 bytes) (bytes_drop 4 bytes b) (omega (arith, h, length-drop 4 bytes)) l.0))
    (pairs_whole pc n (drop 8 bytes) (bytes_drop 8 bytes b) (omega (arith, h, length-drop 8 bytes)) l.1))

pairs_fit : (pc n : ℕ) (bytes : List ℕ) → AreBytes bytes → 8 * n ≤ length bytes → AllByRecursion Lands (case_offsets pc n bytes)
    → AllByRecursion (λ c. FitsSigned w32 c.key × FitsSigned w32 (offset pc c.target)) (cases_of pc n bytes)
pairs_fit pc zero bytes b h l = tt
pairs_fit pc (suc n) bytes b h l = (
  (four_fit bytes b (omega (arith, h)), way_fits pc (drop 4 bytes) (bytes_drop 4 bytes b) (omega (arith, h, length-drop 4 bytes)) l.0),
  pairs_fit pc n (drop 8 bytes) (bytes_drop 8 bytes b) (omega (arith, h, length-drop 8 bytes)) l.1,
)

pairs_count : (pc n : ℕ) (bytes : List ℕ) → length (cases_of pc n bytes) ≡ n
pairs_count pc zero bytes = refl
pairs_count pc (suc n) bytes = omega (arith, pairs_count pc n (drop 8 bytes))

is_below : (m n : ℤ) → int_lt m n ≡ true → m <ℤ n
is_below m n e = first_of (grind (arith, e), search (arith, e))

pairs_ascend : (pc n : ℕ) (bytes : List ℕ) → ascend n bytes ≡ true → KeysAscend (cases_of pc n bytes)
pairs_ascend pc zero bytes e = tt
pairs_ascend pc (suc zero) bytes e = tt
pairs_ascend pc (suc (suc n)) bytes e = let both = both_are_true (int_lt (s4_of bytes) (s4_of (drop 8 bytes))) (ascend (suc n) (drop 8 bytes)) e in
    (is_below (s4_of bytes) (s4_of (drop 8 bytes)) both.0, pairs_ascend pc (suc n) (drop 8 bytes) both.1)

pub count_is_whole : (z : ℤ) → int_lt z (pos 0) ≡ false → pos (nat_abs z) ≡ z
count_is_whole z e = first_of (grind (arith, e), search (arith, e))

count_is_small : (z : ℤ) → int_lt z (pos 0) ≡ false → FitsSigned w32 z → nat_abs z < 2 ^ 31
count_is_small z e f = first_of (grind (arith, e, f), search (arith, e, f))

record LookupIs (pc pad : ℕ) (body : List ℕ) (e : Extent) (n : ℕ) : Type 0 where
  counted : int_lt (s4_of (drop 4 body)) (pos 0) ≡ false
  fits : 8 + 8 * n ≤ length body
  up : ascend n (drop 8 body) ≡ true
  is : e ≡ record { size = pad + (8 + 8 * n); targets = landing pc (s4_of body) ∷ case_offsets pc n (drop 8 body) }

lookup_is : (pc pad : ℕ) (body : List ℕ) (e : Extent) → lookup_extent pc pad body ≡ Ok e → LookupIs pc pad body e (nat_abs (s4_of (drop 4 body)))
lookup_is pc pad body e h = by_length (nat_lt (length body) 8) refl h
  where
    n : ℕ
    n = nat_abs (s4_of (drop 4 body))

    whole_extent : Result Extent KRule
    whole_extent = Ok (record { size = pad + (8 + 8 * n); targets = landing pc (s4_of body) ∷ case_offsets pc n (drop 8 body) })

    by_keys : (t : Bool) → ascend n (drop 8 body) ≡ t → int_lt (s4_of (drop 4 body)) (pos 0) ≡ false → 8 + 8 * n ≤ length body
        → (if not t then Err K6 else whole_extent) ≡ Ok e → LookupIs pc pad body e n
    by_keys true t u f h = record { counted = u; fits = f; up = t; is = cc }
    by_keys false t u f h = absurd (cc)

    by_size : (t : Bool) → nat_lt (length body) (8 + 8 * n) ≡ t → int_lt (s4_of (drop 4 body)) (pos 0) ≡ false
        → (if t then Err K2 else if not (ascend n (drop 8 body)) then Err K6 else whole_extent) ≡ Ok e → LookupIs pc pad body e n
    by_size true t u h = absurd (cc)
    by_size false t u h = by_keys (ascend n (drop 8 body)) refl u (grind (arith, nat_tests, t)) h

    by_count : (t : Bool) → int_lt (s4_of (drop 4 body)) (pos 0) ≡ t → (if t then Err K6 else lookup_of pc pad n body) ≡ Ok e → LookupIs pc pad body e n
    by_count true t h = absurd (cc)
    by_count false t h = by_size (nat_lt (length body) (8 + 8 * n)) refl t h

    by_length : (t : Bool) → nat_lt (length body) 8 ≡ t → (if t then Err K2 else if int_lt (s4_of (drop 4 body)) (pos 0) then Err K6 else lookup_of pc pad n body) ≡ Ok e → LookupIs pc pad body e n
    by_length true t h = absurd (cc)
    by_length false t h = by_count (int_lt (s4_of (drop 4 body)) (pos 0)) refl h

lookup_spelled : (pc : ℕ) (rest body : List ℕ) → drop (padding_size pc) rest ≡ body → AreBytes body → 8 + 8 * nat_abs (s4_of (drop 4 body)) ≤ length body
    → int_lt (s4_of (drop 4 body)) (pos 0) ≡ false → ascend (nat_abs (s4_of (drop 4 body))) (drop 8 body) ≡ true → Lands (landing pc (s4_of body))
    → AllByRecursion Lands (case_offsets pc (nat_abs (s4_of (drop 4 body))) (drop 8 body))
    → SpellsLookup pc (lookup_op pc body) (take (padding_size pc + (8 + 8 * nat_abs (s4_of (drop 4 body)))) rest)
lookup_spelled pc rest body is b fits counted up l ls =
    let n : ℕ = nat_abs (s4_of (drop 4 body)) in
    let behind : 8 * n ≤ length (drop 8 body) = omega (arith, fits, length-drop 8 body) in
    let long : padding_size pc ≤ length rest = omega (arith, fits, length-drop (padding_size pc) rest, ap length is) in
    let at4 : take 4 (drop 4 body) ≡ s4 (pos (length (cases_of pc n (drop 8 body)))) = four_whole (drop 4 body) (bytes_drop 4 body b) (omega (arith, fits, length-drop 4 body))
    ∙ ap s4 (sym (count_is_whole (s4_of (drop 4 body)) counted) ∙ ap pos (sym (pairs_count pc n (drop 8 body)))) in
    record {
      padding = take (padding_size pc) rest;
      otherwise = nat_abs (landing pc (s4_of body));
      cases = cases_of pc n (drop 8 body);
      is = refl;
      spelled = take-add (padding_size pc) (8 + 8 * n) rest ∙ ap (λ x. take (padding_size pc) rest ++ x) (ap (take (8 + 8 * n)) is ∙ (take-add 8 (8 * n) body ∙ both_lists _ _ _ _
          (take-add 4 4 body ∙ both_lists _ _ _ _ (way_whole pc body b (omega (arith, fits)) l) at4) (pairs_whole pc n (drop 8 body) (bytes_drop 8 body b) behind ls)));
      padded = length-take-le (padding_size pc) rest long;
      count_fits = omega (arith, pairs_count pc n (drop 8 body), count_is_small (s4_of (drop 4 body)) counted (four_fit (drop 4 body) (bytes_drop 4 body b) (omega (arith, fits, length-drop 4 body))));
      ascending = pairs_ascend pc n (drop 8 body) up;
      default_fits = way_fits pc body b (omega (arith, fits)) l;
      cases_fit = pairs_fit pc n (drop 8 body) (bytes_drop 8 body b) behind ls;
    }

lookup_whole : (pc : ℕ) (rest body : List ℕ) (e : Extent) → drop (padding_size pc) rest ≡ body → AreBytes body → LookupIs pc (padding_size pc) body e (nat_abs (s4_of (drop 4 body)))
    → AllByRecursion Lands e.targets → IsWhole pc Lookup rest e
lookup_whole pc rest body e is b t l =
    let n : ℕ = nat_abs (s4_of (drop 4 body)) in
    let ts : List ℤ = landing pc (s4_of body) ∷ case_offsets pc n (drop 8 body) in
    let lands : AllByRecursion Lands ts = lands_as e (padding_size pc + (8 + 8 * n)) ts t.is l in
    as_whole pc Lookup rest e (padding_size pc + (8 + 8 * n)) ts t.is (omega (arith, t.fits, length-drop (padding_size pc) rest, ap length is))
    (subst (λ (x : List ℕ). SpellsLookup pc (lookup_op pc x) (take (padding_size pc + (8 + 8 * n)) rest)) (sym is) (lookup_spelled pc rest body is b t.fits t.counted t.up lands.0 lands.1))

-- the same, with its extent named
pub whole : (pc : ℕ) (f : Form) (rest : List ℕ) (e : Extent) → AreBytes rest → extent_of pc f rest ≡ Ok e → AllByRecursion Lands e.targets → IsWhole pc f rest e
whole pc (Plain op) rest e b h l = as_whole pc (Plain op) rest e 0 [] (cc) (omega arith) (refl, refl)
whole pc (Byte make) [] e b h l = absurd (omega (arith, (sized_is 1 [] [] e h).0))
whole pc (Byte make) (x ∷ rest) e b h l = let is = sized_is 1 [] (x ∷ rest) e h in as_whole pc (Byte make) (x ∷ rest) e 1 [] is.1 is.0 (x, refl, refl, b.0)
whole pc (Short make) [] e b h l = absurd (omega (arith, (sized_is 2 [] [] e h).0))
whole pc (Short make) (x ∷ []) e b h l = absurd (omega (arith, (sized_is 2 [] (x ∷ []) e h).0))
whole pc (Short make) (x ∷ y ∷ rest) e b h l = let is = sized_is 2 [] (x ∷ y ∷ rest) e h in
    as_whole pc (Short make) (x ∷ y ∷ rest) e 2 [] is.1 is.0 (x * 256 + y, refl, sym (u2_spelled x y b.0 b.1.0), omega (arith, b.0, b.1.0))
whole pc (SignedByte make) [] e b h l = absurd (omega (arith, (sized_is 1 [] [] e h).0))
whole pc (SignedByte make) (x ∷ rest) e b h l = let is = sized_is 1 [] (x ∷ rest) e h in as_whole pc (SignedByte make) (x ∷ rest) e 1 [] is.1 is.0 (cast_signed w8 x, refl, sym (s1_whole x b.0), s1_fits x b.0)
whole pc (SignedShort make) [] e b h l = absurd (omega (arith, (sized_is 2 [] [] e h).0))
whole pc (SignedShort make) (x ∷ []) e b h l = absurd (omega (arith, (sized_is 2 [] (x ∷ []) e h).0))
whole pc (SignedShort make) (x ∷ y ∷ rest) e b h l = let is = sized_is 2 [] (x ∷ y ∷ rest) e h in
    as_whole pc (SignedShort make) (x ∷ y ∷ rest) e 2 [] is.1 is.0 (s2_of (x ∷ y ∷ rest), refl, sym (s2_whole x y rest b.0 b.1.0), s2_fits x y rest b.0 b.1.0)
whole pc (Branch make) [] e b h l = absurd (omega (arith, (sized_is 2 (landing pc (s2_of []) ∷ []) [] e h).0))
whole pc (Branch make) (x ∷ []) e b h l = absurd (omega (arith, (sized_is 2 (landing pc (s2_of (x ∷ [])) ∷ []) (x ∷ []) e h).0))
whole pc (Branch make) (x ∷ y ∷ rest) e b h l =
    let ts : List ℤ = landing pc (s2_of (x ∷ y ∷ rest)) ∷ [] in
    let is : (2 ≤ length (x ∷ y ∷ rest)) × (e ≡ record { size = 2; targets = ts }) = sized_is 2 ts (x ∷ y ∷ rest) e h in
    as_whole pc (Branch make) (x ∷ y ∷ rest) e 2 ts is.1 is.0 (near_whole pc x y rest make b.0 b.1.0 (lands_as e 2 ts is.1 l).0)
whole pc (WideBranch make) [] e b h l = absurd (omega (arith, (sized_is 4 (landing pc (s4_of []) ∷ []) [] e h).0))
whole pc (WideBranch make) (x ∷ []) e b h l = absurd (omega (arith, (sized_is 4 (landing pc (s4_of (x ∷ [])) ∷ []) (x ∷ []) e h).0))
whole pc (WideBranch make) (x ∷ y ∷ []) e b h l = absurd (omega (arith, (sized_is 4 (landing pc (s4_of (x ∷ y ∷ [])) ∷ []) (x ∷ y ∷ []) e h).0))
whole pc (WideBranch make) (x ∷ y ∷ z ∷ []) e b h l = absurd (omega (arith, (sized_is 4 (landing pc (s4_of (x ∷ y ∷ z ∷ [])) ∷ []) (x ∷ y ∷ z ∷ []) e h).0))
whole pc (WideBranch make) (x ∷ y ∷ z ∷ w ∷ rest) e b h l =
    let ts : List ℤ = landing pc (s4_of (x ∷ y ∷ z ∷ w ∷ rest)) ∷ [] in
    let is : (4 ≤ length (x ∷ y ∷ z ∷ w ∷ rest)) × (e ≡ record { size = 4; targets = ts }) = sized_is 4 ts (x ∷ y ∷ z ∷ w ∷ rest) e h in
    as_whole pc (WideBranch make) (x ∷ y ∷ z ∷ w ∷ rest) e 4 ts is.1 is.0 (wide_whole pc x y z w rest make b.0 b.1.0 b.1.1.0 b.1.1.1.0 (lands_as e 4 ts is.1 l).0)
whole pc (LocalAndStep make) [] e b h l = absurd (omega (arith, (sized_is 2 [] [] e h).0))
whole pc (LocalAndStep make) (x ∷ []) e b h l = absurd (omega (arith, (sized_is 2 [] (x ∷ []) e h).0))
whole pc (LocalAndStep make) (x ∷ y ∷ rest) e b h l = let is = sized_is 2 [] (x ∷ y ∷ rest) e h in
    as_whole pc (LocalAndStep make) (x ∷ y ∷ rest) e 2 [] is.1 is.0 (x, cast_signed w8 y, refl, same_cons x x _ _ refl (sym (s1_whole y b.1.0)), b.0, s1_fits y b.1.0)
whole pc (IntArray op) [] e b h l = absurd (cc)
whole pc (IntArray op) (x ∷ rest) e b h l = let is = array_is x rest e h in as_whole pc (IntArray op) (x ∷ rest) e 1 [] is.1 (omega arith) (refl, same_cons x 10 [] [] is.0 refl)
whole pc Table rest e b h l = table_whole pc rest (drop (padding_size pc) rest) e refl (bytes_drop (padding_size pc) rest b) (table_is pc (padding_size pc) (drop (padding_size pc) rest) e h) l
whole pc Lookup rest e b h l = lookup_whole pc rest (drop (padding_size pc) rest) e refl (bytes_drop (padding_size pc) rest b) (lookup_is pc (padding_size pc) (drop (padding_size pc) rest) e h) l
