-- The tests on an index of the constant pool say what they are called.
use Rattle.std.proofs.{Common.{◌≡◌, ℕ, Bool, true, false, cond, List, length, Option, Some, refl, ap, ◌∙◌, inl, inr, slice_get, ◌==◌}, lemmas.Bool.{eqb-true, eqb-false, cases_Bool}}
use Rattle.std.proofs.lemmas.Slice.Eq.{bytes_eq-Decides}
use Rattle.jvm_types.specs.{ClassGrammar.{IsValue, Names, IsIndex}, Numbers.u2, Pool.IsTextAt, ReadingPool.{is_of, names, is_text, index_at}, declared.class_file.Constant.Constant}
use Rattle.jvm_types.specs.declared.{class_file.Constant.TheVariants.{Utf8, Integer, Float, Long, Double, Class, Text, NameAndType}, index_kind.IndexKind.IndexKind, refusal.CRule.TheVariants.C5}
use Rattle.jvm_types.proofs.StepLaws.{on_wanted, Reads, on_step, u2_reads, u2_again}
use Rattle.jvm_types.specs.declared.index_kind.IndexKind.TheVariants as kinds

-- ---- entries of a kind

text_of : (o : Option Constant) → is_of kinds.Utf8 o ≡ true → (text : List ℕ) × (o ≡ Some (Utf8 text))
text_of (Some (Utf8 text)) e = (text, refl)
text_of o e = absurd cc

class_of : (o : Option Constant) → is_of kinds.Class o ≡ true → (name : ℕ) × (o ≡ Some (Class name))
class_of (Some (Class name)) e = (name, refl)
class_of o e = absurd cc

catch_of : (o : Option Constant) → is_of kinds.CatchType o ≡ true → (name : ℕ) × (o ≡ Some (Class name))
catch_of (Some (Class name)) e = (name, refl)
catch_of o e = absurd cc

member_of : (o : Option Constant) → is_of kinds.NameAndType o ≡ true → (name : ℕ) × (descriptor : ℕ) × (o ≡ Some (NameAndType name descriptor))
member_of (Some (NameAndType name descriptor)) e = (name, descriptor, refl)
member_of o e = absurd cc

value_of : (o : Option Constant) → is_of kinds.Value o ≡ true → (c : Constant) × (o ≡ Some c) × IsValue c
value_of (Some (Integer n)) e = (Integer n, refl, tt)
value_of (Some (Float n)) e = (Float n, refl, tt)
value_of (Some (Long n)) e = (Long n, refl, tt)
value_of (Some (Double n)) e = (Double n, refl, tt)
value_of (Some (Text string)) e = (Text string, refl, tt)
value_of o e = absurd cc

is_value : (c : Constant) → IsValue c → is_of kinds.Value (Some c) ≡ true
is_value (Integer n) h = refl
is_value (Float n) h = refl
is_value (Long n) h = refl
is_value (Double n) h = refl
is_value (Text string) h = refl
is_value c h = absurd h

-- ---- indices

caught : (pool : List Constant) (i : ℕ) (b : Bool) → (i == 0) ≡ b → cond b true (is_of kinds.CatchType (slice_get pool i)) ≡ true → Names kinds.CatchType pool i
caught pool i true e h = inl (eqb-true _ _ e)
caught pool i false e h = inr (catch_of (slice_get pool i) h)

pub Names-from_test : (kind : IndexKind) (pool : List Constant) (i : ℕ) → names kind pool i ≡ true → Names kind pool i
Names-from_test kinds.Utf8 pool i e = text_of (slice_get pool i) e
Names-from_test kinds.Class pool i e = class_of (slice_get pool i) e
Names-from_test kinds.NameAndType pool i e = member_of (slice_get pool i) e
Names-from_test kinds.Value pool i e = value_of (slice_get pool i) e
Names-from_test kinds.CatchType pool i e = caught pool i (i == 0) refl e

catches : (pool : List Constant) (i : ℕ) (b : Bool) → (i == 0) ≡ b → Names kinds.CatchType pool i → cond b true (is_of kinds.CatchType (slice_get pool i)) ≡ true
catches pool i true e h = refl
catches pool i false e (inl none) = absurd (eqb-false i 0 e none)
catches pool i false e (inr class) = ap (is_of kinds.CatchType) class.1

pub test_from_Names : (kind : IndexKind) (pool : List Constant) (i : ℕ) → Names kind pool i → names kind pool i ≡ true
test_from_Names kinds.Utf8 pool i h = ap (is_of kinds.Utf8) h.1
test_from_Names kinds.Class pool i h = ap (is_of kinds.Class) h.1
test_from_Names kinds.NameAndType pool i h = ap (is_of kinds.NameAndType) h.2
test_from_Names kinds.Value pool i h = ap (is_of kinds.Value) h.1 ∙ is_value h.0 h.2
test_from_Names kinds.CatchType pool i h = catches pool i (i == 0) refl h

pub index_reads : (kind : IndexKind) (pool : List Constant) → Reads u2 (IsIndex kind pool) (index_at kind pool)
unfolding index_at
index_reads kind pool = record {
  takes = λ bytes fits.
      on_step u2_reads bytes fits _ _ λ i a.
      on_wanted (names kind pool i.0) C5 (length bytes) _ _ λ ok.
      record { ok = record { parts = a.parts; fits = record { number = a.fits; names = Names-from_test kind pool i.0 ok }; rest = a.rest } };
  again = λ i rest fits. rw (u2_again i rest, test_from_Names kind pool i fits.names);
}

-- ---- texts

is_text_some : (text : List ℕ) (o : Option Constant) → is_text text o ≡ true → o ≡ Some (Utf8 text)
is_text_some text (Some (Utf8 bytes)) e = ap (λ (x : List ℕ). Some (Utf8 x)) ((bytes_eq-Decides bytes text).0 e)
is_text_some text o e = absurd cc

pub IsTextAt-from_test : (text : List ℕ) (pool : List Constant) (i : ℕ) → is_text text (slice_get pool i) ≡ true → IsTextAt pool i text
IsTextAt-from_test text pool i e = is_text_some text (slice_get pool i) e

pub test_from_IsTextAt : (text : List ℕ) (pool : List Constant) (i : ℕ) → IsTextAt pool i text → is_text text (slice_get pool i) ≡ true
test_from_IsTextAt text pool i h = ap (is_text text) h ∙ (bytes_eq-Decides text text).1 refl

pub no_IsTextAt : (text : List ℕ) (pool : List Constant) (i : ℕ) → is_text text (slice_get pool i) ≡ false → IsTextAt pool i text → ⊥
no_IsTextAt text pool i e h = let t = test_from_IsTextAt text pool i h in absurd cc

pub no_test : (text : List ℕ) (pool : List Constant) (i : ℕ) → (IsTextAt pool i text → ⊥) → is_text text (slice_get pool i) ≡ false
no_test text pool i h = elim (cases_Bool (is_text text (slice_get pool i))) [
  | inl same ↦ absurd (h (IsTextAt-from_test text pool i same))
  | inr other ↦ other
]
