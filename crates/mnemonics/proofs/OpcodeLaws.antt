-- The opcode of a mnemonic is the one that it is the mnemonic of.
use Rattle.std.proofs.Common.{◌≡◌, ◌≢◌, ℕ, ◌<◌, Bool, true, false, List, [], ◌∷◌, Option, Some, None, refl, sym, ap, subst, ◌∙◌, arith, ◌==◌, ◌&&◌, nat_lt, bytes_eq, if◌then◌else◌}
use Rattle.std.{specs.List.list_all, proofs.lemmas.{Bool.{eqb-true, ltb-true, and_parts, Decides.nat_tests}, Option.same_Some, Slice.Eq.bytes_eq-Decides}}
use Rattle.mnemonics.specs.Mnemonics.{MnemonicList, mnemonic_in, mnemonic, opcode_among, opcode_of, all_names, constant_names, load_names, store_names, stack_move_names, arithmetic_names, control_names, reference_names}

abbrev pub is_opcode : Option ℕ → ℕ → Bool
is_opcode None b = false
is_opcode (Some c) b = c == b

abbrev pub is_name : Option (List ℕ) → List ℕ → Bool
is_name None text = false
is_name (Some name) text = bytes_eq name text

-- the row is found by its name, and by its opcode, which is a byte
abbrev pub is_row : ℕ × List ℕ → Bool
is_row r = is_opcode (opcode_among all_names r.1) r.0 && (is_name (mnemonic r.0) r.1 && nat_lt r.0 256)

opcode_is : (o : Option ℕ) (b : ℕ) → is_opcode o b ≡ true → o ≡ Some b
opcode_is None b h = absurd (cc)
opcode_is (Some c) b h = ap Some (same c b h)
  where
    same : (c b : ℕ) → (c == b) ≡ true → c ≡ b
    same c b h = grind (arith, nat_tests)

name_is : (o : Option (List ℕ)) (text : List ℕ) → is_name o text ≡ true → o ≡ Some text
name_is None text h = absurd (cc)
name_is (Some name) text h = ap Some ((bytes_eq-Decides name text).0 h)

-- the rows of each group
constants_are : list_all is_row constant_names ≡ true
unfolding mnemonic
constants_are = refl

loads_are : list_all is_row load_names ≡ true
unfolding mnemonic
loads_are = refl

stores_are : list_all is_row store_names ≡ true
unfolding mnemonic
stores_are = refl

stack_moves_are : list_all is_row stack_move_names ≡ true
unfolding mnemonic
stack_moves_are = refl

arithmetic_are : list_all is_row arithmetic_names ≡ true
unfolding mnemonic
arithmetic_are = refl

control_are : list_all is_row control_names ≡ true
unfolding mnemonic
control_are = refl

references_are : list_all is_row reference_names ≡ true
unfolding mnemonic
references_are = refl

among : (rs : MnemonicList) (b : ℕ) (name : List ℕ) → list_all is_row rs ≡ true → mnemonic_in rs b ≡ Some name → (opcode_among all_names name ≡ Some b) × (b < 256)
among [] b name ok e = absurd (cc)
among (r ∷ rs) b name ok e = by_test (λ h. among rs b name (and_parts (is_row r) (list_all is_row rs) ok).1 h) (b == r.0) refl e
  where
    row : (is_row r ≡ true) × (list_all is_row rs ≡ true)
    row = and_parts (is_row r) (list_all is_row rs) ok

    parts : (is_opcode (opcode_among all_names r.1) r.0 ≡ true) × ((is_name (mnemonic r.0) r.1 && nat_lt r.0 256) ≡ true)
    parts = and_parts (is_opcode (opcode_among all_names r.1) r.0) (is_name (mnemonic r.0) r.1 && nat_lt r.0 256) row.0

    rest : (is_name (mnemonic r.0) r.1 ≡ true) × (nat_lt r.0 256 ≡ true)
    rest = and_parts (is_name (mnemonic r.0) r.1) (nat_lt r.0 256) parts.1

    by_test : (mnemonic_in rs b ≡ Some name → (opcode_among all_names name ≡ Some b) × (b < 256)) → (t : Bool) → (b == r.0) ≡ t → (if t then Some r.1 else mnemonic_in rs b) ≡ Some name → (opcode_among all_names name ≡ Some b) × (b < 256)
    by_test more true t h = subst (λ (x : List ℕ). (opcode_among all_names x ≡ Some b) × (b < 256)) (same_Some _ _ h) (subst (λ (x : ℕ). (opcode_among all_names r.1 ≡ Some x) × (x < 256)) (sym (eqb-true b r.0 t)) (opcode_is _ _ parts.0, ltb-true _ _ rest.1))
    by_test more false t h = more h

group : (t : Bool) (rs : MnemonicList) (b : ℕ) (name : List ℕ) (y : Option (List ℕ)) → list_all is_row rs ≡ true → (y ≡ Some name → (opcode_among all_names name ≡ Some b) × (b < 256)) → (if t then mnemonic_in rs b else y) ≡ Some name → (opcode_among all_names name ≡ Some b) × (b < 256)
group true rs b name y ok more e = among rs b name ok e
group false rs b name y ok more e = more e

found : (b : ℕ) (name : List ℕ) → mnemonic b ≡ Some name → (opcode_among all_names name ≡ Some b) × (b < 256)
unfolding mnemonic
found b name e =
    group (nat_lt b 0x15) constant_names b name _ constants_are (group (nat_lt b 0x36) load_names b name _ loads_are (group (nat_lt b 0x57) store_names b name _ stores_are
    (group (nat_lt b 0x60) stack_move_names b name _ stack_moves_are (group (nat_lt b 0x99) arithmetic_names b name _ arithmetic_are (group (nat_lt b 0xb2) control_names b name _ control_are (among reference_names b name references_are)))))) e

-- the opcode of a mnemonic is a byte
pub opcode_fits : (b : ℕ) (name : List ℕ) → mnemonic b ≡ Some name → b < 256
opcode_fits b name e = (found b name e).1

pub opcode_back : (b : ℕ) (name : List ℕ) → mnemonic b ≡ Some name → opcode_of name ≡ Some b
unfolding opcode_of
opcode_back b name e = (found b name e).0

all_are : list_all is_row all_names ≡ true
unfolding mnemonic
all_are = refl

named_by : (rs : MnemonicList) (b : ℕ) (name : List ℕ) → list_all is_row rs ≡ true → opcode_among rs name ≡ Some b → mnemonic b ≡ Some name
named_by [] b name ok e = absurd (cc)
named_by (r ∷ rs) b name ok e = by_test (λ h. named_by rs b name (and_parts (is_row r) (list_all is_row rs) ok).1 h) (bytes_eq r.1 name) refl e
  where
    row : (is_row r ≡ true) × (list_all is_row rs ≡ true)
    row = and_parts (is_row r) (list_all is_row rs) ok

    parts : (is_opcode (opcode_among all_names r.1) r.0 ≡ true) × ((is_name (mnemonic r.0) r.1 && nat_lt r.0 256) ≡ true)
    parts = and_parts (is_opcode (opcode_among all_names r.1) r.0) (is_name (mnemonic r.0) r.1 && nat_lt r.0 256) row.0

    rest : (is_name (mnemonic r.0) r.1 ≡ true) × (nat_lt r.0 256 ≡ true)
    rest = and_parts (is_name (mnemonic r.0) r.1) (nat_lt r.0 256) parts.1

    by_test : (opcode_among rs name ≡ Some b → mnemonic b ≡ Some name) → (t : Bool) → bytes_eq r.1 name ≡ t → (if t then Some r.0 else opcode_among rs name) ≡ Some b → mnemonic b ≡ Some name
    by_test more true t h = subst (λ (x : ℕ). mnemonic x ≡ Some name) (same_Some _ _ h) (name_is _ _ rest.0 ∙ ap Some ((bytes_eq-Decides r.1 name).0 t))
    by_test more false t h = more h

-- the mnemonic of the opcode that was found by it
pub mnemonic_back : (b : ℕ) (name : List ℕ) → opcode_of name ≡ Some b → mnemonic b ≡ Some name
unfolding opcode_of
mnemonic_back b name e = named_by all_names b name all_are e

-- where no byte has the mnemonic, there is no opcode
pub no_opcode : (name : List ℕ) → ((k : ℕ) → k < 256 → mnemonic k ≢ Some name) → opcode_of name ≡ None
no_opcode name none = at (opcode_of name) refl
  where
    at : (o : Option ℕ) → opcode_of name ≡ o → o ≡ None
    at None e = refl
    at (Some b) e = let m = mnemonic_back b name e in absurd (none b (opcode_fits b name m) m)
