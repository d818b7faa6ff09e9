-- An entry of the constant pool that is read is spelled so, and what is spelled so is read again.
use Rattle.std.proofs.Common.{◌≡◌, ℕ, ℤ, ◌+◌, ◌*◌, ◌/◌, ◌%◌, ◌^◌, ◌<◌, Bool, true, false, cond, eqb, ltb, List, [], ◌∷◌, ◌++◌, length, Result, Ok, refl, sym, ap, subst, ◌∙◌, arith, ◌&&◌}
use Rattle.std.{specs.{Int.{w32, cast_signed, cast_unsigned}, List.AllByRecursion}, proofs.{Math.Facts.sfits_to_z, lemmas.Bool.{eqb-true, and_parts, and_from, ltb-true, lt-ltb}}}
use Rattle.std.proofs.lemmas.Int.{of_z-to_z, to_z-of_z}
use Rattle.jvm_types.specs.{ClassGrammar.{IsUtf8Byte, FieldsFit, is_gap}, Numbers.{u2, u4, u8, s4}, ReadingPool.{text_wanted, utf8_at, one_at, two_at, word_entry_at, wide_at, tagged_at, constant_at}}
use Rattle.jvm_types.specs.{ReadingSteps.Fault, Spelling.constant, declared.class_file.Constant.Constant}
use Rattle.jvm_types.specs.declared.{class_file.Constant.TheVariants.{Gap, Utf8, Integer, Float, Long, Double, Class, Text, Field, Method, InterfaceMethod, NameAndType}, refusal.CRule.TheVariants.C6}
use Rattle.jvm_types.proofs.ByteOrder.{eight_back, u8_spelled}
use Rattle.jvm_types.proofs.StepLaws.{IsBytes, Finds, on_bind, weaker, on_wanted, Took, Reads, on_step, u1_reads, u1_again, u2_reads, u2_again, u4_reads, u4_again, run_reads, run_again}

-- an entry, and no gap
pub record IsEntry (c : Constant) : Type 0 where
  pub fields : FieldsFit c
  pub entry : is_gap c ≡ false

abbrev Entered : ℕ → List ℕ → Constant × List ℕ → Type 0
Entered tag bytes x = Took constant IsEntry (tag ∷ bytes) x

-- ---- texts

text_holds : (text : List ℕ) (behind : ℕ) → Finds (text_wanted text behind) (λ ok. AllByRecursion IsUtf8Byte text)
unfolding text_wanted
text_holds [] behind = record { ok = tt }
text_holds (b ∷ text) behind =
    on_wanted (ltb 0 b && ltb b 240) C6 (length (b ∷ text) + behind) _ _ λ ok.
    let p = and_parts _ _ ok in
    weaker (λ x. AllByRecursion IsUtf8Byte (b ∷ text)) (text_holds text behind) λ x rest. ((ltb-true _ _ p.0, ltb-true _ _ p.1), rest)

text_stands : (text : List ℕ) (behind : ℕ) → AllByRecursion IsUtf8Byte text → text_wanted text behind ≡ Ok tt
unfolding text_wanted
text_stands [] behind each = refl
text_stands (b ∷ text) behind each = rw (and_from _ _ (lt-ltb 0 b each.0.0) (lt-ltb b 240 each.0.1)) (text_stands text behind each.1)

text_takes : (bytes : List ℕ) → IsBytes bytes → Finds (utf8_at bytes) (Entered 1 bytes)
unfolding utf8_at
text_takes bytes fits =
    on_step u2_reads bytes fits _ _ λ n a.
    on_step (run_reads n.0) n.1 a.rest _ _ λ text b.
    on_bind _ _ _ _ (text_holds text.0 (length text.1)) λ ok each.
    record {
      ok = record {
        parts = ap (λ (x : List ℕ). 1 ∷ x) (a.parts ∙ ap (λ (x : List ℕ). u2 n.0 ++ x) b.parts ∙ ap (λ (k : ℕ). u2 k ++ (text.0 ++ text.1)) (sym b.fits.count));
        fits = record { fields = (rw b.fits.count a.fits, each); entry = refl };
        rest = b.rest;
      };
    }

-- ---- numbers

one_takes : (tag : ℕ) (entry : ℕ → Constant) → ((n : ℕ) → constant (entry n) ≡ tag ∷ u2 n) → ((n : ℕ) → n < 2 ^ 16 → IsEntry (entry n))
    → (bytes : List ℕ) → IsBytes bytes → Finds (one_at entry bytes) (Entered tag bytes)
unfolding one_at
one_takes tag entry spelled is bytes fits =
    on_step u2_reads bytes fits _ _ λ n a.
    record { ok = record { parts = ap (λ (x : List ℕ). tag ∷ x) a.parts ∙ ap (λ (x : List ℕ). x ++ n.1) (sym (spelled n.0)); fits = is n.0 a.fits; rest = a.rest } }

two_takes : (tag : ℕ) (entry : ℕ → ℕ → Constant) → ((m n : ℕ) → constant (entry m n) ≡ tag ∷ (u2 m ++ u2 n)) → ((m n : ℕ) → m < 2 ^ 16 → n < 2 ^ 16 → IsEntry (entry m n))
    → (bytes : List ℕ) → IsBytes bytes → Finds (two_at entry bytes) (Entered tag bytes)
unfolding two_at
two_takes tag entry spelled is bytes fits =
    on_step u2_reads bytes fits _ _ λ m a.
    on_step u2_reads m.1 a.rest _ _ λ n b.
    record {
      ok = record {
        parts = ap (λ (x : List ℕ). tag ∷ x) (a.parts ∙ ap (λ (x : List ℕ). u2 m.0 ++ x) b.parts) ∙ ap (λ (x : List ℕ). x ++ n.1) (sym (spelled m.0 n.0));
        fits = is m.0 n.0 a.fits b.fits;
        rest = b.rest;
      };
    }

word_takes : (tag : ℕ) (entry : ℕ → Constant) → ((n : ℕ) → n < 2 ^ 32 → constant (entry n) ≡ tag ∷ u4 n) → ((n : ℕ) → n < 2 ^ 32 → IsEntry (entry n))
    → (bytes : List ℕ) → IsBytes bytes → Finds (word_entry_at entry bytes) (Entered tag bytes)
unfolding word_entry_at
word_takes tag entry spelled is bytes fits =
    on_step u4_reads bytes fits _ _ λ n a.
    record { ok = record { parts = ap (λ (x : List ℕ). tag ∷ x) a.parts ∙ ap (λ (x : List ℕ). x ++ n.1) (sym (spelled n.0 a.fits)); fits = is n.0 a.fits; rest = a.rest } }

wide_takes : (tag : ℕ) (entry : ℕ → Constant) → ((n : ℕ) → constant (entry n) ≡ tag ∷ u8 n) → ((n : ℕ) → n < 2 ^ 64 → IsEntry (entry n))
    → (bytes : List ℕ) → IsBytes bytes → Finds (wide_at entry bytes) (Entered tag bytes)
unfolding wide_at
wide_takes tag entry spelled is bytes fits =
    on_step u4_reads bytes fits _ _ λ high a.
    on_step u4_reads high.1 a.rest _ _ λ low b.
    let n : ℕ = high.0 * 4294967296 + low.0 in
    record {
      ok = record {
        parts = ap (λ (x : List ℕ). tag ∷ x) (a.parts ∙ ap (λ (x : List ℕ). u4 high.0 ++ x) b.parts) ∙ ap (λ (x : List ℕ). tag ∷ (x ++ low.1)) (sym (u8_spelled high.0 low.0 b.fits)) ∙ ap (λ (x : List ℕ). x ++ low.1) (sym (spelled n));
        fits = is n (omega (arith, a.fits, b.fits));
        rest = b.rest;
      };
    }

-- ---- by the tag

on_tag : {A : Type 0} (tag k : ℕ) (x y : Result A Fault) (Q : ℕ → A → Type 0) → Finds x (Q k) → Finds y (Q tag) → Finds (cond (eqb tag k) x y) (Q tag)
on_tag tag k x y Q here other = at (eqb tag k) refl
  where
    at : (b : Bool) → eqb tag k ≡ b → Finds (cond b x y) (Q tag)
    at true e = subst (λ (n : ℕ). Finds x (Q n)) (sym (eqb-true _ _ e)) here
    at false e = other

entry_of : (c : Constant) → FieldsFit c → is_gap c ≡ false → IsEntry c
entry_of c fields entry = record { fields = fields; entry = entry }

tagged_takes : (tag at_tag : ℕ) (bytes : List ℕ) → IsBytes bytes → Finds (tagged_at tag at_tag bytes) (Entered tag bytes)
unfolding tagged_at
tagged_takes tag at_tag bytes fits =
    let Q : ℕ → Constant × List ℕ → Type 0 = λ n. Entered n bytes in
    on_tag tag 1 _ _ Q (text_takes bytes fits) (
    on_tag tag 3 _ _ Q (word_takes 3 (λ n. Integer (cast_signed w32 n)) (λ n lt. ap (λ (k : ℕ). 3 ∷ u4 k) (of_z-to_z w32 n lt)) (λ n lt. entry_of (Integer (cast_signed w32 n)) (sfits_to_z {w = w32} {n = n} (record { fits = lt })) refl) bytes fits) (
    on_tag tag 4 _ _ Q (word_takes 4 Float (λ n lt. refl) (λ n lt. entry_of (Float n) lt refl) bytes fits) (
    on_tag tag 5 _ _ Q (wide_takes 5 Long (λ n. refl) (λ n lt. entry_of (Long n) lt refl) bytes fits) (
    on_tag tag 6 _ _ Q (wide_takes 6 Double (λ n. refl) (λ n lt. entry_of (Double n) lt refl) bytes fits) (
    on_tag tag 7 _ _ Q (one_takes 7 Class (λ n. refl) (λ n lt. entry_of (Class n) lt refl) bytes fits) (
    on_tag tag 8 _ _ Q (one_takes 8 Text (λ n. refl) (λ n lt. entry_of (Text n) lt refl) bytes fits) (
    on_tag tag 9 _ _ Q (two_takes 9 Field (λ m n. refl) (λ m n p q. entry_of (Field m n) (p, q) refl) bytes fits) (
    on_tag tag 10 _ _ Q (two_takes 10 Method (λ m n. refl) (λ m n p q. entry_of (Method m n) (p, q) refl) bytes fits) (
    on_tag tag 11 _ _ Q (two_takes 11 InterfaceMethod (λ m n. refl) (λ m n p q. entry_of (InterfaceMethod m n) (p, q) refl) bytes fits) (
    on_tag tag 12 _ _ Q (two_takes 12 NameAndType (λ m n. refl) (λ m n p q. entry_of (NameAndType m n) (p, q) refl) bytes fits)
    (record { ok = tt })))))))))))

constant_takes : (bytes : List ℕ) → IsBytes bytes → Finds (constant_at bytes) (Took constant IsEntry bytes)
unfolding constant_at
constant_takes bytes fits =
    on_step u1_reads bytes fits _ _ λ tag a.
    subst (λ (x : List ℕ). Finds (tagged_at tag.0 (length bytes) tag.1) (Took constant IsEntry x)) (sym a.parts) (tagged_takes tag.0 (length bytes) tag.1 a.rest)

-- ---- and again

one_again : (entry : ℕ → Constant) (n : ℕ) (rest : List ℕ) → one_at entry (u2 n ++ rest) ≡ Ok (entry n, rest)
unfolding one_at
one_again entry n rest = rw (u2_again n rest)

two_again : (entry : ℕ → ℕ → Constant) (m n : ℕ) (rest : List ℕ) → two_at entry (u2 m ++ (u2 n ++ rest)) ≡ Ok (entry m n, rest)
unfolding two_at
two_again entry m n rest = rw (u2_again m (u2 n ++ rest), u2_again n rest)

word_again : (entry : ℕ → Constant) (n : ℕ) (rest : List ℕ) → word_entry_at entry (u4 n ++ rest) ≡ Ok (entry n, rest)
unfolding word_entry_at
word_again entry n rest = rw (u4_again n rest)

wide_again : (entry : ℕ → Constant) (n : ℕ) (rest : List ℕ) → wide_at entry (u8 n ++ rest) ≡ Ok (entry n, rest)
unfolding wide_at
wide_again entry n rest = rw (u4_again (n / 4294967296) (u4 (n % 4294967296) ++ rest), u4_again (n % 4294967296) rest, eight_back n)

text_again : (text rest : List ℕ) → AllByRecursion IsUtf8Byte text → utf8_at (u2 (length text) ++ (text ++ rest)) ≡ Ok (Utf8 text, rest)
unfolding utf8_at
text_again text rest each = rw (u2_again (length text) (text ++ rest), run_again text rest, text_stands text (length rest) each)

constant_again : (c : Constant) (rest : List ℕ) → IsEntry c → constant_at (constant c ++ rest) ≡ Ok (c, rest)
unfolding constant_at tagged_at
constant_again Gap rest is = absurd (let e = is.entry in cc)
constant_again (Utf8 text) rest is = rw (u1_again 1 (u2 (length text) ++ (text ++ rest))) (text_again text rest is.fields.1)
constant_again (Integer n) rest is = rw (u1_again 3 (s4 n ++ rest)) (word_again (λ k. Integer (cast_signed w32 k)) (cast_unsigned w32 n) rest ∙ ap (λ (z : ℤ). Ok (Integer z, rest)) (to_z-of_z w32 n is.fields))
constant_again (Float n) rest is = rw (u1_again 4 (u4 n ++ rest)) (word_again Float n rest)
constant_again (Long n) rest is = rw (u1_again 5 (u8 n ++ rest)) (wide_again Long n rest)
constant_again (Double n) rest is = rw (u1_again 6 (u8 n ++ rest)) (wide_again Double n rest)
constant_again (Class n) rest is = rw (u1_again 7 (u2 n ++ rest)) (one_again Class n rest)
constant_again (Text n) rest is = rw (u1_again 8 (u2 n ++ rest)) (one_again Text n rest)
constant_again (Field m n) rest is = rw (u1_again 9 (u2 m ++ (u2 n ++ rest))) (two_again Field m n rest)
constant_again (Method m n) rest is = rw (u1_again 10 (u2 m ++ (u2 n ++ rest))) (two_again Method m n rest)
constant_again (InterfaceMethod m n) rest is = rw (u1_again 11 (u2 m ++ (u2 n ++ rest))) (two_again InterfaceMethod m n rest)
constant_again (NameAndType m n) rest is = rw (u1_again 12 (u2 m ++ (u2 n ++ rest))) (two_again NameAndType m n rest)

pub constant_reads : Reads constant IsEntry constant_at
constant_reads = record { takes = constant_takes; again = constant_again }
