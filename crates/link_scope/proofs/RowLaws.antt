-- Rows of numbers, as they grow.
use Rattle.std.proofs.{Common.{◌≡◌, ℕ, ◌+◌, ◌<◌, List, [], ◌∷◌, ◌++◌, length, take, get_or, Some, sym, ◌∙◌, ⊎_elim, arith}, lemmas.{Bool.cases_eq, List.length-take-le}}
use Rattle.jvm_types.specs.{ClassNames.entry_text, declared.class_file.{ClassFile.ClassFile, Constant.Constant}}
use Rattle.link_scope.{specs.{FileTexts.{IsRow, AreRows}, TextNumbers.{IsNumbered, Keeps}}, proofs.ListLaws.{got_at, got_other, take_next}}

long_to : {X Y : Type 0} (xs : List X) (ys : List Y) (i : ℕ) → i < length xs → length ys ≡ i → length ys ≡ length (take i xs)
long_to xs ys i l e = omega (arith, length-take-le i xs)

module _ (old new : List (List ℕ × ℕ)) (keeps : Keeps old new) where
  row_more : (pool : List Constant) (row : List ℕ) (entry : Constant) (n : ℕ) → length row ≡ length pool → IsRow old pool row → IsNumbered new (entry_text (Some entry)) n → IsRow new (pool ++ entry ∷ []) (row ++ n ∷ [])
  row_more pool row entry n long is_row is i = ⊎_elim
      (λ e. rw (got_at pool entry i e, got_at row n i (e ∙ sym long)) is)
      (λ ne. rw (got_other pool entry i ne, got_other row n i (λ e. ne (e ∙ long))) (keeps _ _ (is_row i)))
      (cases_eq i (length pool))

  pub row_next : (pool : List Constant) (i : ℕ) (row : List ℕ) (entry : Constant) (n : ℕ) → i < length pool → entry ≡ get_or pool i entry → length row ≡ i → IsRow old (take i pool) row → IsNumbered new (entry_text (Some entry)) n → IsRow new (take (i + 1) pool) (row ++ n ∷ [])
  row_next pool i row entry n l e long is_row is = rw (take_next pool i entry l e) (row_more (take i pool) row entry n (long_to pool row i l long) is_row is)

  rows_more : (files : List ClassFile) (rows : List (List ℕ)) (file : ClassFile) (row : List ℕ) → length rows ≡ length files → AreRows old files rows → IsRow new file.constants row → AreRows new (files ++ file ∷ []) (rows ++ row ∷ [])
  rows_more files rows file row long are is k i = ⊎_elim
      (λ e. rw (got_at files file k e, got_at rows row k (e ∙ sym long)) (is i))
      (λ ne. rw (got_other files file k ne, got_other rows row k (λ e. ne (e ∙ long))) (keeps _ _ (are k i)))
      (cases_eq k (length files))

  pub rows_next : (files : List ClassFile) (k : ℕ) (rows : List (List ℕ)) (file : ClassFile) (row : List ℕ) → k < length files → file ≡ get_or files k file → length rows ≡ k → AreRows old (take k files) rows → IsRow new file.constants row → AreRows new (take (k + 1) files) (rows ++ row ∷ [])
  rows_next files k rows file row l e long are is = rw (take_next files k file l e) (rows_more (take k files) rows file row (long_to files rows k l long) are is)
