-- Reading back what instructions spell: so code spells one list of them, and breaks no rule.
use Rattle.std.proofs.Common.{◌≡◌, ℕ, ◌+◌, ◌*◌, ◌<◌, ◌≤◌, ℤ, pos, true, false, List, [], ◌∷◌, ◌++◌, length, map, Result, Ok, refl, ap, ◌∙◌, arith, append_assoc, ◌^◌, ◌-ℤ◌, ◌+ℤ◌, ◌<ℤ◌, FitsSigned, take, drop, nat_abs, int_lt, nat_lt, length-append}
use Rattle.std.{specs.{Int.{w16, w32, cast_signed, cast_unsigned, from_be_bytes}, List.{AllByRecursion, flat_map}}, proofs.{Math.Seq.drop-append_seam, lemmas.{Bool.Decides.nat_tests, Int.to_z-of_z}}}
use Rattle.lists.proofs.TestLaws.{both_true}
use Rattle.jvm_types.specs.CodeFault.{Extent, s2_of, s4_of, landing, sized, offsets, case_offsets, ascend, table_extent, lookup_extent, extent_of}
use Rattle.jvm_types.specs.CodeGrammar.{s1, s2, offset, padding_size, spelled_case, KeysAscend, SpellsOperands}
use Rattle.jvm_types.specs.{CodeTable.{Form, Plain, Byte, Short, SignedByte, SignedShort, Branch, WideBranch, LocalAndStep, IntArray, Table, Lookup, branches_to}, Numbers.{u1, u2, u4, s4}}
use Rattle.jvm_types.specs.declared.{code.{Case.Case, Op.Op}, refusal.KRule.KRule}

-- ---- numbers

pub u2_back : (n : ℕ) (rest : List ℕ) → from_be_bytes w16 (take 2 (u2 n ++ rest)) ≡ n
u2_back n rest = omega arith

u4_back : (n : ℕ) (rest : List ℕ) → from_be_bytes w32 (take 4 (u4 n ++ rest)) ≡ n
u4_back n rest = omega arith

pub s2_back : (n : ℤ) (rest : List ℕ) → FitsSigned w16 n → s2_of (s2 n ++ rest) ≡ n
s2_back n rest h = ap (cast_signed w16) (u2_back (cast_unsigned w16 n) rest) ∙ to_z-of_z w16 n h

pub s4_back : (n : ℤ) (rest : List ℕ) → FitsSigned w32 n → s4_of (s4 n ++ rest) ≡ n
s4_back n rest h = ap (cast_signed w32) (u4_back (cast_unsigned w32 n) rest) ∙ to_z-of_z w32 n h

landed : (pc to : ℕ) → landing pc (offset pc to) ≡ pos to
landed pc to = grind arith

pub landed_at : (pc to : ℕ) (rest : List ℕ) → FitsSigned w32 (offset pc to) → landing pc (s4_of (s4 (offset pc to) ++ rest)) ≡ pos to
landed_at pc to rest h = ap (landing pc) (s4_back (offset pc to) rest h) ∙ landed pc to

pub landed_near : (pc to : ℕ) (rest : List ℕ) → FitsSigned w16 (offset pc to) → landing pc (s2_of (s2 (offset pc to) ++ rest)) ≡ pos to
landed_near pc to rest h = ap (landing pc) (s2_back (offset pc to) rest h) ∙ landed pc to

-- ---- operands of a known number of bytes

pub not_less : (m n : ℕ) → n ≤ m → nat_lt m n ≡ false
not_less m n h = grind (arith, nat_tests)

sized_back : (n size : ℕ) (ts us : List ℤ) (rest : List ℕ) → n ≤ length rest → n ≡ size → ts ≡ us → sized n ts rest ≡ Ok (record { size = size; targets = us })
sized_back n size ts us rest h e f = rw (not_less (length rest) n h) (rw e (rw f refl))

-- ---- switches

pub same_cons : {A : Type 0} (a b : A) (xs ys : List A) → a ≡ b → xs ≡ ys → a ∷ xs ≡ b ∷ ys
same_cons a b xs ys e f = rw e (rw f refl)

words_length : (pc : ℕ) (tos : List ℕ) → length (flat_map (λ to. s4 (offset pc to)) tos) ≡ 4 * length tos
words_length pc [] = refl
words_length pc (to ∷ tos) = omega (arith, words_length pc tos)

cases_length : (pc : ℕ) (cases : List Case) → length (flat_map (spelled_case pc) cases) ≡ 8 * length cases
cases_length pc [] = refl
cases_length pc (c ∷ cases) = omega (arith, cases_length pc cases)

pub offsets_back : (pc : ℕ) (tos rest : List ℕ) → AllByRecursion (λ to. FitsSigned w32 (offset pc to)) tos → offsets pc (length tos) (flat_map (λ to. s4 (offset pc to)) tos ++ rest) ≡ map pos tos
offsets_back pc [] rest h = refl
offsets_back pc (to ∷ tos) rest h = same_cons _ _ _ _ (landed_at pc to (flat_map (λ t. s4 (offset pc t)) tos ++ rest) h.0) (offsets_back pc tos rest h.1)

case_offsets_back : (pc : ℕ) (cases : List Case) (rest : List ℕ) → AllByRecursion (λ c. FitsSigned w32 c.key × FitsSigned w32 (offset pc c.target)) cases
    → case_offsets pc (length cases) (flat_map (spelled_case pc) cases ++ rest) ≡ map pos (map (λ c. c.target) cases)
case_offsets_back pc [] rest h = refl
case_offsets_back pc (c ∷ cases) rest h = same_cons _ _ _ _ (landed_at pc c.target (flat_map (spelled_case pc) cases ++ rest) h.0.1) (case_offsets_back pc cases rest h.1)

below_is : (m n : ℤ) → m <ℤ n → int_lt m n ≡ true
below_is m n h = first_of (grind arith, search arith)

not_below_is : (m n : ℤ) (k : ℕ) → pos k ≡ n -ℤ m +ℤ pos 1 → 0 < k → int_lt n m ≡ false
not_below_is m n k e h = first_of (grind arith, search arith)

pub count_is : (k : ℕ) (n : ℤ) → pos k ≡ n → nat_abs n ≡ k
count_is k n e = rw (← e) refl

below_by : (m n x y : ℤ) → x ≡ m → y ≡ n → m <ℤ n → int_lt x y ≡ true
below_by m n x y e f h = rw e (rw f (below_is m n h))

ascend_back : (pc : ℕ) (cases : List Case) (rest : List ℕ) → AllByRecursion (λ c. FitsSigned w32 c.key × FitsSigned w32 (offset pc c.target)) cases → KeysAscend cases
    → ascend (length cases) (flat_map (spelled_case pc) cases ++ rest) ≡ true
ascend_back pc [] rest h a = refl
ascend_back pc (c ∷ []) rest h a = refl
ascend_back pc (c ∷ d ∷ cases) rest h a =
    both_true _ _ (below_by c.key d.key _ _ (s4_back c.key (s4 (offset pc c.target) ++ (flat_map (spelled_case pc) (d ∷ cases) ++ rest)) h.0.0)
    (s4_back d.key (s4 (offset pc d.target) ++ (flat_map (spelled_case pc) cases ++ rest)) h.1.0.0) a.0)
    (ascend_back pc (d ∷ cases) rest h.1 a.1)

pub body_back : (pad xs rest : List ℕ) (k : ℕ) → length pad ≡ k → drop k ((pad ++ xs) ++ rest) ≡ xs ++ rest
body_back pad xs rest k e = rw (← e) (rw (append_assoc pad xs rest) (drop-append_seam pad (xs ++ rest)))

-- by what its numbers are
table_by : (pc pad n : ℕ) (low high first : ℤ) (ts : List ℤ) (body : List ℕ) → s4_of (drop 4 body) ≡ low → s4_of (drop 8 body) ≡ high → landing pc (s4_of body) ≡ first
    → offsets pc n (drop 12 body) ≡ ts → pos n ≡ high -ℤ low +ℤ pos 1 → 0 < n → 12 + 4 * n ≤ length body
    → table_extent pc pad body ≡ Ok (record { size = pad + (12 + 4 * n); targets = first ∷ ts })
table_by pc pad n low high first ts body at4 at8 at0 at12 counted some fits =
    rw (not_less (length body) 12 (omega (arith, fits))) (rw at4 (rw at8 (rw (not_below_is low high n counted some)
    (rw (count_is n (high -ℤ low +ℤ pos 1) counted) (rw (not_less (length body) (12 + 4 * n) fits) (rw at0 (rw at12 refl)))))))

table_back : (pc pad : ℕ) (otherwise : ℕ) (low high : ℤ) (tos rest : List ℕ) → FitsSigned w32 (offset pc otherwise) → FitsSigned w32 low → FitsSigned w32 high
    → pos (length tos) ≡ high -ℤ low +ℤ pos 1 → 0 < length tos → AllByRecursion (λ to. FitsSigned w32 (offset pc to)) tos
    → table_extent pc pad ((s4 (offset pc otherwise) ++ s4 low ++ s4 high ++ flat_map (λ to. s4 (offset pc to)) tos) ++ rest)
    ≡ Ok (record { size = pad + (12 + 4 * length tos); targets = pos otherwise ∷ map pos tos })
table_back pc pad otherwise low high tos rest f g h counted some all =
    let more : List ℕ = flat_map (λ to. s4 (offset pc to)) tos ++ rest in
    table_by pc pad (length tos) low high (pos otherwise) (map pos tos) (s4 (offset pc otherwise) ++ s4 low ++ s4 high ++ flat_map (λ to. s4 (offset pc to)) tos ++ rest)
    (s4_back low (s4 high ++ more) g) (s4_back high more h) (landed_at pc otherwise (s4 low ++ (s4 high ++ more)) f) (offsets_back pc tos rest all) counted some (omega (arith, words_length pc tos, length-append (flat_map (λ to. s4 (offset pc to)) tos) rest))

pub not_negative : (n : ℕ) → int_lt (pos n) (pos 0) ≡ false
not_negative n = not_less n 0 (omega arith)

lookup_by : (pc pad n : ℕ) (first : ℤ) (ts : List ℤ) (body : List ℕ) → s4_of (drop 4 body) ≡ pos n → landing pc (s4_of body) ≡ first
    → ascend n (drop 8 body) ≡ true → case_offsets pc n (drop 8 body) ≡ ts → 8 + 8 * n ≤ length body
    → lookup_extent pc pad body ≡ Ok (record { size = pad + (8 + 8 * n); targets = first ∷ ts })
lookup_by pc pad n first ts body at4 at0 up at8 fits =
    rw (not_less (length body) 8 (omega (arith, fits))) (rw at4 (rw (not_negative n) (rw (not_less (length body) (8 + 8 * n) fits) (rw up (rw at0 (rw at8 refl))))))

pub fits_signed : (n : ℕ) → n < 2 ^ 31 → FitsSigned w32 (pos n)
fits_signed n h = grind arith

lookup_back : (pc pad : ℕ) (otherwise : ℕ) (cases : List Case) (rest : List ℕ) → FitsSigned w32 (offset pc otherwise) → length cases < 2 ^ 31 → KeysAscend cases
    → AllByRecursion (λ c. FitsSigned w32 c.key × FitsSigned w32 (offset pc c.target)) cases
    → lookup_extent pc pad ((s4 (offset pc otherwise) ++ s4 (pos (length cases)) ++ flat_map (spelled_case pc) cases) ++ rest)
    ≡ Ok (record { size = pad + (8 + 8 * length cases); targets = pos otherwise ∷ map pos (map (λ c. c.target) cases) })
lookup_back pc pad otherwise cases rest f short up all =
    let more : List ℕ = flat_map (spelled_case pc) cases ++ rest in
    lookup_by pc pad (length cases) (pos otherwise) (map pos (map (λ c. c.target) cases)) (s4 (offset pc otherwise) ++ s4 (pos (length cases)) ++ flat_map (spelled_case pc) cases ++ rest)
    (s4_back (pos (length cases)) more (fits_signed (length cases) short)) (landed_at pc otherwise (s4 (pos (length cases)) ++ more) f)
    (ascend_back pc cases rest all up) (case_offsets_back pc cases rest all) (omega (arith, cases_length pc cases, length-append (flat_map (spelled_case pc) cases) rest))

-- ---- the operands of each form

-- where the instructions of a form may branch
abbrev pub FormLaw : Form → Type 0
FormLaw (Plain op) = branches_to op ≡ []
FormLaw (Byte make) = (n : ℕ) → branches_to (make n) ≡ []
FormLaw (Short make) = (n : ℕ) → branches_to (make n) ≡ []
FormLaw (SignedByte make) = (n : ℤ) → branches_to (make n) ≡ []
FormLaw (SignedShort make) = (n : ℤ) → branches_to (make n) ≡ []
FormLaw (Branch make) = (to : ℕ) → branches_to (make to) ≡ to ∷ []
FormLaw (WideBranch make) = (to : ℕ) → branches_to (make to) ≡ to ∷ []
FormLaw (LocalAndStep make) = (i : ℕ) (n : ℤ) → branches_to (make i n) ≡ []
FormLaw (IntArray op) = branches_to op ≡ []
FormLaw Table = Unit {0}
FormLaw Lookup = Unit {0}

abbrev sized_as : ℕ → List ℤ → Result Extent KRule
sized_as size ts = Ok (record { size = size; targets = ts })

abbrev pub extent_with : ℕ → List ℕ → Result Extent KRule
extent_with size tos = Ok (record { size = size; targets = map pos tos })

same_size : (m n : ℕ) (ts : List ℤ) → m ≡ n → sized_as m ts ≡ sized_as n ts
same_size m n ts e = rw e refl

near_back : (pc to : ℕ) (rest : List ℕ) → FitsSigned w16 (offset pc to) → sized 2 (landing pc (s2_of (s2 (offset pc to) ++ rest)) ∷ []) (s2 (offset pc to) ++ rest) ≡ extent_with 2 (to ∷ [])
near_back pc to rest h = sized_back 2 2 _ (pos to ∷ []) (s2 (offset pc to) ++ rest) (omega arith) refl (same_cons _ _ [] [] (landed_near pc to rest h) refl)

wide_back : (pc to : ℕ) (rest : List ℕ) → FitsSigned w32 (offset pc to) → sized 4 (landing pc (s4_of (s4 (offset pc to) ++ rest)) ∷ []) (s4 (offset pc to) ++ rest) ≡ extent_with 4 (to ∷ [])
wide_back pc to rest h = sized_back 4 4 _ (pos to ∷ []) (s4 (offset pc to) ++ rest) (omega arith) refl (same_cons _ _ [] [] (landed_at pc to rest h) refl)

pub extent_back : (pc : ℕ) (f : Form) (op : Op) (operands rest : List ℕ) → FormLaw f → SpellsOperands pc f op operands → extent_of pc f (operands ++ rest) ≡ extent_with (length operands) (branches_to op)
extent_back pc (Plain plain) op operands rest law h = rw h.0 (rw h.1 (rw law refl))
extent_back pc (Byte make) op operands rest law h = rw h.1 (rw h.2 (rw (law h.0) (sized_back 1 1 [] [] (u1 h.0 ++ rest) (omega arith) refl refl)))
extent_back pc (Short make) op operands rest law h = rw h.1 (rw h.2 (rw (law h.0) (sized_back 2 2 [] [] (u2 h.0 ++ rest) (omega arith) refl refl)))
extent_back pc (SignedByte make) op operands rest law h = rw h.1 (rw h.2 (rw (law h.0) (sized_back 1 1 [] [] (s1 h.0 ++ rest) (omega arith) refl refl)))
extent_back pc (SignedShort make) op operands rest law h = rw h.1 (rw h.2 (rw (law h.0) (sized_back 2 2 [] [] (s2 h.0 ++ rest) (omega arith) refl refl)))
extent_back pc (Branch make) op operands rest law h = rw h.1 (rw h.2 (rw (law h.0) (near_back pc h.0 rest h.3)))
extent_back pc (WideBranch make) op operands rest law h = rw h.1 (rw h.2 (rw (law h.0) (wide_back pc h.0 rest h.3)))
extent_back pc (LocalAndStep make) op operands rest law h = rw h.2 (rw h.3 (rw (law h.0 h.1) (sized_back 2 2 [] [] (u1 h.0 ++ s1 h.1 ++ rest) (omega arith) refl refl)))
extent_back pc (IntArray array) op operands rest law h = rw h.0 (rw h.1 (rw law refl))
extent_back pc Table op operands rest law h = rw h.is (rw h.spelled (ap (table_extent pc (padding_size pc)) (body_back h.padding (s4 (offset pc h.otherwise) ++ s4 h.low ++ s4 h.high ++ flat_map (λ to. s4 (offset pc to)) h.targets) rest (padding_size pc) h.padded)
    ∙ (table_back pc (padding_size pc) h.otherwise h.low h.high h.targets rest h.default_fits h.low_fits h.high_fits h.counted h.some h.offsets_fit
    ∙ same_size (padding_size pc + (12 + 4 * length h.targets)) (length (h.padding ++ (s4 (offset pc h.otherwise) ++ s4 h.low ++ s4 h.high ++ flat_map (λ to. s4 (offset pc to)) h.targets))) (pos h.otherwise ∷ map pos h.targets)
    (omega (arith, h.padded, words_length pc h.targets, length-append h.padding (s4 (offset pc h.otherwise) ++ s4 h.low ++ s4 h.high ++ flat_map (λ to. s4 (offset pc to)) h.targets))))))
extent_back pc Lookup op operands rest law h = rw h.is (rw h.spelled (ap (lookup_extent pc (padding_size pc)) (body_back h.padding (s4 (offset pc h.otherwise) ++ s4 (pos (length h.cases)) ++ flat_map (spelled_case pc) h.cases) rest (padding_size pc) h.padded)
    ∙ (lookup_back pc (padding_size pc) h.otherwise h.cases rest h.default_fits h.count_fits h.ascending h.cases_fit
    ∙ same_size (padding_size pc + (8 + 8 * length h.cases)) (length (h.padding ++ (s4 (offset pc h.otherwise) ++ s4 (pos (length h.cases)) ++ flat_map (spelled_case pc) h.cases))) (pos h.otherwise ∷ map pos (map (λ c. c.target) h.cases))
    (omega (arith, h.padded, cases_length pc h.cases, length-append h.padding (s4 (offset pc h.otherwise) ++ s4 (pos (length h.cases)) ++ flat_map (spelled_case pc) h.cases))))))
