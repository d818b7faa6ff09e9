-- An attribute that is read is spelled so and keeps its rules, and what is spelled so is read again.
use Rattle.std.proofs.Common.{◌≡◌, ℕ, ◌+◌, ◌^◌, ◌<◌, Bool, true, false, cond, List, [], ◌∷◌, ◌++◌, length, Result, Ok, Err, refl, sym, ap, subst, ◌∙◌, append_assoc, slice_get, codes}
use Rattle.std.proofs.lemmas.List.{append-nil}
use Rattle.jvm_types.specs.{ClassGrammar.{IsCounted, IsIndex, IsAttr, IsNamed, IsHandler, IsCodeAttr, IsFieldAttr, IsMethodAttr}, Numbers.{u2, u4}, Pool.IsTextAt}
use Rattle.jvm_types.specs.{ReadingClass.{attr_at, table_row_at, code_at, code_attr, value_attr, field_attr_at, method_attr_at}, ReadingPool.{is_text, index_at}}
use Rattle.jvm_types.specs.{ReadingSteps.{◌>>=◌, Fault, ended, whole, in_body}, Spelling.{counted, attr, handler, code_body, member_attr}, declared.class_file.{Attr.Attr, Code.Code}}
use Rattle.jvm_types.specs.declared.class_file.{Constant.Constant, Handler.Handler, MemberAttr.MemberAttr}
use Rattle.jvm_types.proofs.IndexLaws.{index_reads, IsTextAt-from_test, test_from_IsTextAt, no_IsTextAt, no_test}
use Rattle.jvm_types.proofs.StepLaws.{IsBytes, Finds, on_bind, Took, Reads, on_step, u2_reads, u2_again, u4_reads, u4_again, run_reads, run_again, counted_reads}
use Rattle.jvm_types.specs.declared.index_kind.IndexKind.TheVariants as kinds
use Rattle.jvm_types.specs.declared.class_file.MemberAttr.TheVariants as member_attrs

-- ---- attributes that are kept unread

attr_takes : (pool : List Constant) (bytes : List ℕ) → IsBytes bytes → Finds (attr_at pool bytes) (Took attr (IsAttr pool) bytes)
unfolding attr_at
attr_takes pool bytes fits =
    on_step (index_reads kinds.Utf8 pool) bytes fits _ _ λ name a.
    on_step u4_reads name.1 a.rest _ _ λ n b.
    on_step (run_reads n.0) n.1 b.rest _ _ λ body c.
    record {
      ok = record {
        parts = a.parts ∙ ap (λ (x : List ℕ). u2 name.0 ++ x) (b.parts ∙ ap (λ (x : List ℕ). u4 n.0 ++ x) c.parts ∙ ap (λ (k : ℕ). u4 k ++ (body.0 ++ body.1)) (sym c.fits.count));
        fits = record { name = a.fits; count = rw c.fits.count b.fits; bytes = c.fits.bytes };
        rest = c.rest;
      };
    }

-- the bytes of an attribute are read again, whatever they are
attr_again : (pool : List Constant) (a : Attr) (rest : List ℕ) → IsIndex kinds.Utf8 pool a.name → attr_at pool (attr a ++ rest) ≡ Ok (a, rest)
unfolding attr_at
attr_again pool a rest is =
    rw ((index_reads kinds.Utf8 pool).again a.name (u4 (length a.body) ++ (a.body ++ rest)) is, u4_again (length a.body) (a.body ++ rest), run_again a.body rest)

pub attr_reads : (pool : List Constant) → Reads attr (IsAttr pool) (attr_at pool)
attr_reads pool = record { takes = attr_takes pool; again = λ a rest is. attr_again pool a rest is.name }

-- ---- exception tables

handler_takes : (pool : List Constant) (bytes : List ℕ) → IsBytes bytes → Finds (table_row_at pool bytes) (Took handler (IsHandler pool) bytes)
unfolding table_row_at
handler_takes pool bytes fits =
    on_step u2_reads bytes fits _ _ λ start a.
    on_step u2_reads start.1 a.rest _ _ λ end b.
    on_step u2_reads end.1 b.rest _ _ λ to c.
    on_step (index_reads kinds.CatchType pool) to.1 c.rest _ _ λ catch d.
    record {
      ok = record {
        parts = a.parts ∙ ap (λ (x : List ℕ). u2 start.0 ++ x) (b.parts ∙ ap (λ (x : List ℕ). u2 end.0 ++ x) (c.parts ∙ ap (λ (x : List ℕ). u2 to.0 ++ x) d.parts));
        fits = record { start = a.fits; «end» = b.fits; handler = c.fits; catch_type = d.fits };
        rest = d.rest;
      };
    }

handler_again : (pool : List Constant) (h : Handler) (rest : List ℕ) → IsHandler pool h → table_row_at pool (handler h ++ rest) ≡ Ok (h, rest)
unfolding table_row_at
handler_again pool h rest is =
    rw (
      u2_again h.start (u2 h.end ++ (u2 h.handler ++ (u2 h.catch_type ++ rest))),
      u2_again h.end (u2 h.handler ++ (u2 h.catch_type ++ rest)),
      u2_again h.handler (u2 h.catch_type ++ rest),
      (index_reads kinds.CatchType pool).again h.catch_type rest is.catch_type,
    )

pub handler_reads : (pool : List Constant) → Reads handler (IsHandler pool) (table_row_at pool)
handler_reads pool = record { takes = handler_takes pool; again = handler_again pool }

-- ---- Code

-- a Code but for its name and its length
pub record AreParts (pool : List Constant) (name : ℕ) (c : Code) : Type 0 where
  pub named : c.name ≡ name
  pub max_stack : c.max_stack < 2 ^ 16
  pub max_locals : c.max_locals < 2 ^ 16
  pub count : length c.bytes < 2 ^ 32
  pub bytes : IsBytes c.bytes
  pub rows : IsCounted (IsHandler pool) c.rows
  pub attrs : IsCounted (IsAttr pool) c.attrs

code_takes : (pool : List Constant) (name : ℕ) (bytes : List ℕ) → IsBytes bytes → Finds (code_at pool name bytes) (Took code_body (AreParts pool name) bytes)
unfolding code_at
code_takes pool name bytes fits =
    on_step u2_reads bytes fits _ _ λ stack a.
    on_step u2_reads stack.1 a.rest _ _ λ locals b.
    on_step u4_reads locals.1 b.rest _ _ λ n c.
    on_step (run_reads n.0) n.1 c.rest _ _ λ code d.
    on_step (counted_reads handler (IsHandler pool) (table_row_at pool) (handler_reads pool)) code.1 d.rest _ _ λ rows e.
    on_step (counted_reads attr (IsAttr pool) (attr_at pool) (attr_reads pool)) rows.1 e.rest _ _ λ attrs f.
    let R : List ℕ = counted handler rows.0 in
    let A : List ℕ = counted attr attrs.0 in
    let body : n.1 ≡ ((code.0 ++ R) ++ A) ++ attrs.1 = d.parts ∙ ap (λ (x : List ℕ). code.0 ++ x) (e.parts ∙ ap (λ (x : List ℕ). R ++ x) f.parts) ∙ sym (append_assoc code.0 R (A ++ attrs.1)) ∙ sym (append_assoc (code.0 ++ R) A attrs.1) in
    record {
      ok = record {
        parts = a.parts ∙ ap (λ (x : List ℕ). u2 stack.0 ++ x) (b.parts ∙ ap (λ (x : List ℕ). u2 locals.0 ++ x) (c.parts ∙ ap (λ (x : List ℕ). u4 n.0 ++ x) body
            ∙ ap (λ (k : ℕ). u4 k ++ (((code.0 ++ R) ++ A) ++ attrs.1)) (sym d.fits.count)));
        fits = record { named = refl; max_stack = a.fits; max_locals = b.fits; count = rw d.fits.count c.fits; bytes = d.fits.bytes; rows = e.fits; attrs = f.fits };
        rest = f.rest;
      };
    }

code_again : (pool : List Constant) (name : ℕ) (c : Code) (rest : List ℕ) → AreParts pool name c → code_at pool name (code_body c ++ rest) ≡ Ok (c, rest)
unfolding code_at
code_again pool name c rest is =
    let rows : List ℕ = counted handler c.rows in
    let attrs : List ℕ = counted attr c.attrs in
    let regrouped : ((c.bytes ++ rows) ++ attrs) ++ rest ≡ c.bytes ++ (rows ++ (attrs ++ rest)) = append_assoc (c.bytes ++ rows) attrs rest ∙ append_assoc c.bytes rows (attrs ++ rest) in
    ap (λ (x : List ℕ). code_at pool name (u2 c.max_stack ++ (u2 c.max_locals ++ (u4 (length c.bytes) ++ x)))) regrouped
    ∙ rw (
      u2_again c.max_stack (u2 c.max_locals ++ (u4 (length c.bytes) ++ (c.bytes ++ (rows ++ (attrs ++ rest))))),
      u2_again c.max_locals (u4 (length c.bytes) ++ (c.bytes ++ (rows ++ (attrs ++ rest)))),
      u4_again (length c.bytes) (c.bytes ++ (rows ++ (attrs ++ rest))),
      run_again c.bytes (rows ++ (attrs ++ rest)),
      (counted_reads handler (IsHandler pool) (table_row_at pool) (handler_reads pool)).again c.rows (attrs ++ rest) is.rows,
      (counted_reads attr (IsAttr pool) (attr_at pool) (attr_reads pool)).again c.attrs rest is.attrs,
      ← is.named,
    )

pub code_reads : (pool : List Constant) (name : ℕ) → Reads code_body (AreParts pool name) (code_at pool name)
code_reads pool name = record { takes = code_takes pool name; again = code_again pool name }

-- ---- a body that was cut out

-- all of the bytes are this item
pub record Filled {A : Type 0} (spell : A → List ℕ) (Fits : A → Type 0) (bytes : List ℕ) (x : A) : Type 0 where
  pub all : bytes ≡ spell x
  pub fits : Fits x

end_takes : {A : Type 0} (spell : A → List ℕ) (Fits : A → Type 0) (bytes : List ℕ) (x : A) (rest : List ℕ) → Took spell Fits bytes (x, rest) → Finds (ended x rest) (Filled spell Fits bytes)
end_takes spell Fits bytes x [] took = record { ok = record { all = took.parts ∙ append-nil (spell x); fits = took.fits } }
end_takes spell Fits bytes x (b ∷ rest) took = record { ok = tt }

pub whole_takes : {A : Type 0} (spell : A → List ℕ) (Fits : A → Type 0) (bytes : List ℕ) (r : Result (A × List ℕ) Fault) → Finds r (Took spell Fits bytes) → Finds (whole r) (Filled spell Fits bytes)
unfolding whole
whole_takes spell Fits bytes (Ok x) given = end_takes spell Fits bytes x.0 x.1 given.ok
whole_takes spell Fits bytes (Err f) given = record { ok = tt }

pub whole_again : {A : Type 0} (spell : A → List ℕ) (Fits : A → Type 0) (item_at : List ℕ → Result (A × List ℕ) Fault) → Reads spell Fits item_at
    → (x : A) → Fits x → whole (item_at (spell x)) ≡ Ok x
unfolding whole
whole_again spell Fits item_at reads x fits = rw (← append-nil (spell x), reads.again x [] fits)

body_takes : {A : Type 0} (at_length behind : ℕ) (r : Result A Fault) (P : A → Type 0) → Finds r P → Finds (in_body at_length behind r) P
unfolding in_body
body_takes at_length behind (Ok x) P given = given
body_takes at_length behind (Err f) P given = record { ok = tt }

-- what stands in the bytes of an attribute, read by its own step
inside_takes : {A : Type 0} (spell : A → List ℕ) (Fits : A → Type 0) (item_at : List ℕ → Result (A × List ℕ) Fault) (reads : Reads spell Fits item_at) (at_length behind : ℕ) (bytes : List ℕ) → IsBytes bytes
    → Finds (in_body at_length behind (whole (item_at bytes))) (Filled spell Fits bytes)
inside_takes spell Fits item_at reads at_length behind bytes fits =
    body_takes at_length behind (whole (item_at bytes)) (Filled spell Fits bytes) (whole_takes spell Fits bytes (item_at bytes) (reads.takes bytes fits))

inside_again : {A : Type 0} (spell : A → List ℕ) (Fits : A → Type 0) (item_at : List ℕ → Result (A × List ℕ) Fault) (reads : Reads spell Fits item_at) (at_length behind : ℕ) (x : A) → Fits x
    → in_body at_length behind (whole (item_at (spell x))) ≡ Ok x
unfolding in_body
inside_again spell Fits item_at reads at_length behind x fits = rw (whole_again spell Fits item_at reads x fits)

-- ---- attributes of fields and methods

-- what an attribute of this name and these bytes is
record Kept (Fits : MemberAttr → Type 0) (a : Attr) (m : MemberAttr) : Type 0 where
  same : attr a ≡ member_attr m
  fits : Fits m

code_kept : (pool : List Constant) (a : Attr) (behind : ℕ) → IsAttr pool a → IsTextAt pool a.name (codes "Code") → Finds (code_attr pool a behind) (Kept (IsMethodAttr pool) a)
unfolding code_attr
code_kept pool a behind is named =
    on_bind _ _ _ _ (inside_takes code_body (AreParts pool a.name) (code_at pool a.name) (code_reads pool a.name) (4 + length a.body + behind) behind a.body is.bytes) λ c f.
    record {
      ok = record {
        same = ap (λ (x : List ℕ). u2 a.name ++ (u4 (length x) ++ x)) f.all ∙ ap (λ (n : ℕ). u2 n ++ (u4 (length (code_body c)) ++ code_body c)) (sym f.fits.named);
        fits = record {
          name = record { number = rw f.fits.named is.name.number; named = rw f.fits.named named };
          size = subst (λ (x : List ℕ). length x < 2 ^ 32) f.all is.count;
          max_stack = f.fits.max_stack;
          max_locals = f.fits.max_locals;
          count = f.fits.count;
          bytes = f.fits.bytes;
          rows = f.fits.rows;
          attrs = f.fits.attrs;
        };
      };
    }

value_kept : (pool : List Constant) (a : Attr) (behind : ℕ) → IsAttr pool a → IsTextAt pool a.name (codes "ConstantValue") → Finds (value_attr pool a behind) (Kept (IsFieldAttr pool) a)
unfolding value_attr
value_kept pool a behind is named =
    on_bind _ _ _ _ (inside_takes u2 (IsIndex kinds.Value pool) (index_at kinds.Value pool) (index_reads kinds.Value pool) (4 + length a.body + behind) behind a.body is.bytes) λ value f.
    record {
      ok = record {
        same = ap (λ (x : List ℕ). u2 a.name ++ (u4 (length x) ++ x)) f.all;
        fits = (record { number = is.name.number; named = named }, f.fits);
      };
    }

chosen : (b : Bool) (x : Result MemberAttr Fault) (y : MemberAttr) (P : MemberAttr → Type 0) → (b ≡ true → Finds x P) → (b ≡ false → P y) → Finds (cond b x (Ok y)) P
chosen true x y P h k = h refl
chosen false x y P h k = record { ok = k refl }

-- an attribute of a member, by its name read as one that the member has, or kept unread
member_attr_takes : (pool : List Constant) (text : List ℕ) (Is : MemberAttr → Type 0) (read : Attr → ℕ → Result MemberAttr Fault)
    → ((a : Attr) (behind : ℕ) → IsAttr pool a → IsTextAt pool a.name text → Finds (read a behind) (Kept Is a))
    → ((a : Attr) → IsAttr pool a → (IsTextAt pool a.name text → ⊥) → Is (member_attrs.Other a))
    → (bytes : List ℕ) → IsBytes bytes
    → Finds (attr_at pool bytes >>= λ a. (cond (is_text text (slice_get pool a.0.name)) (read a.0 (length a.1)) (Ok (member_attrs.Other a.0)) >>= λ attr. Ok (attr, a.1))) (Took member_attr Is bytes)
member_attr_takes pool text Is read kept other bytes fits =
    on_step (attr_reads pool) bytes fits _ _ λ a p.
    on_bind _ _ _ _ (chosen (is_text text (slice_get pool a.0.name)) (read a.0 (length a.1)) (member_attrs.Other a.0) (Kept Is a.0)
    (λ e. kept a.0 (length a.1) p.fits (IsTextAt-from_test text pool a.0.name e))
    (λ e. record { same = refl; fits = other a.0 p.fits (no_IsTextAt text pool a.0.name e) })) λ m found.
    record { ok = record { parts = p.parts ∙ ap (λ (x : List ℕ). x ++ a.1) found.same; fits = found.fits; rest = p.rest } }

field_attr_takes : (pool : List Constant) (bytes : List ℕ) → IsBytes bytes → Finds (field_attr_at pool bytes) (Took member_attr (IsFieldAttr pool) bytes)
unfolding field_attr_at
field_attr_takes pool = member_attr_takes pool (codes "ConstantValue") (IsFieldAttr pool) (value_attr pool) (value_kept pool) (λ a is other. (is, other))

method_attr_takes : (pool : List Constant) (bytes : List ℕ) → IsBytes bytes → Finds (method_attr_at pool bytes) (Took member_attr (IsMethodAttr pool) bytes)
unfolding method_attr_at
method_attr_takes pool = member_attr_takes pool (codes "Code") (IsMethodAttr pool) (code_attr pool) (code_kept pool) (λ a is other. (is, other))

named_index : (pool : List Constant) (name : ℕ) (text : List ℕ) → IsNamed pool name text → IsIndex kinds.Utf8 pool name
named_index pool name text is = record { number = is.number; names = (text, is.named) }

code_stands : (pool : List Constant) (c : Code) (behind : ℕ) → IsCodeAttr pool c → code_attr pool (record { name = c.name; body = code_body c }) behind ≡ Ok (member_attrs.Code c)
unfolding code_attr
code_stands pool c behind is =
    rw (inside_again code_body (AreParts pool c.name) (code_at pool c.name) (code_reads pool c.name) (4 + length (code_body c) + behind) behind c
    (record { named = refl; max_stack = is.max_stack; max_locals = is.max_locals; count = is.count; bytes = is.bytes; rows = is.rows; attrs = is.attrs }))

value_stands : (pool : List Constant) (name value behind : ℕ) → IsIndex kinds.Value pool value → value_attr pool (record { name = name; body = u2 value }) behind ≡ Ok (member_attrs.ConstantValue name value)
unfolding value_attr
value_stands pool name value behind is =
    rw (inside_again u2 (IsIndex kinds.Value pool) (index_at kinds.Value pool) (index_reads kinds.Value pool) (4 + length (u2 value) + behind) behind value is)

field_attr_again : (pool : List Constant) (m : MemberAttr) (rest : List ℕ) → IsFieldAttr pool m → field_attr_at pool (member_attr m ++ rest) ≡ Ok (m, rest)
unfolding field_attr_at
field_attr_again pool (member_attrs.Code c) rest is = absurd is
field_attr_again pool (member_attrs.ConstantValue name value) rest is =
    rw (
      attr_again pool (record { name = name; body = u2 value }) rest (named_index pool name (codes "ConstantValue") is.0),
      test_from_IsTextAt (codes "ConstantValue") pool name is.0.named,
      value_stands pool name value (length rest) is.1,
    )
field_attr_again pool (member_attrs.Other a) rest is = rw (attr_again pool a rest is.0.name, no_test (codes "ConstantValue") pool a.name is.1)

method_attr_again : (pool : List Constant) (m : MemberAttr) (rest : List ℕ) → IsMethodAttr pool m → method_attr_at pool (member_attr m ++ rest) ≡ Ok (m, rest)
unfolding method_attr_at
method_attr_again pool (member_attrs.Code c) rest is =
    rw (
      attr_again pool (record { name = c.name; body = code_body c }) rest (named_index pool c.name (codes "Code") is.name),
      test_from_IsTextAt (codes "Code") pool c.name is.name.named,
      code_stands pool c (length rest) is,
    )
method_attr_again pool (member_attrs.ConstantValue name value) rest is = absurd is
method_attr_again pool (member_attrs.Other a) rest is = rw (attr_again pool a rest is.0.name, no_test (codes "Code") pool a.name is.1)

pub field_attr_reads : (pool : List Constant) → Reads member_attr (IsFieldAttr pool) (field_attr_at pool)
field_attr_reads pool = record { takes = field_attr_takes pool; again = field_attr_again pool }

pub method_attr_reads : (pool : List Constant) → Reads member_attr (IsMethodAttr pool) (method_attr_at pool)
method_attr_reads pool = record { takes = method_attr_takes pool; again = method_attr_again pool }
