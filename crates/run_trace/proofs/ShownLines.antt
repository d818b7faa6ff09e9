-- One line more, behind those that are shown.
use Rattle.std.{proofs.{Common.{◌≡◌, ℕ, zero, suc, ◌+◌, ◌==◌, nat_le, nat_lt, Bool, true, false, ◌&&◌, List, [], ◌∷◌, ◌++◌, length, take, Option, Some, None, refl, sym, ap, ◌∙◌, append_assoc, arith, if◌then◌else◌}, lemmas.List.{append-nil, length-append}}, specs.List.{filter, flat_map}}
use Rattle.std.proofs.lemmas.Bool.Decides.{nat_tests}
use Rattle.std.proofs.lemmas.Grind.{flat_map-append}
use Rattle.std.proofs.lemmas.List.Elements.{filter-append}
use Rattle.checked_program.proofs.FilledTags.{some_fewer}
use Rattle.run_trace.specs.{Lines.{TraceLine, is_shown, lines_shown, lines_text, put_text, shown_behind, shown_text, standings_due, with_line}, declared.events.Part.Part}

abbrev no_lines : List TraceLine
no_lines = []

is_not_first : (n : ℕ) → (suc n == 0) ≡ false
is_not_first n = grind (arith, nat_tests)

both_more : (m n : ℕ) → nat_lt m n ≡ nat_lt (suc m) (suc n)
both_more m n = by_test (nat_lt m n) (nat_lt (suc m) (suc n)) refl refl
  where
    by_test : (a b : Bool) → nat_lt m n ≡ a → nat_lt (suc m) (suc n) ≡ b → a ≡ b
    by_test true true e f = refl
    by_test false false e f = refl
    by_test true false e f = grind (arith, nat_tests)
    by_test false true e f = grind (arith, nat_tests)

take_none : (n : ℕ) → take n no_lines ≡ no_lines
take_none zero = refl
take_none (suc n) = refl

take_on : (n : ℕ) (xs : List TraceLine) (x : TraceLine) → take n (xs ++ x ∷ []) ≡ take n xs ++ (if nat_lt (length (take n xs)) n then x ∷ [] else [])
take_on zero xs x = refl
take_on (suc n) [] x = ap (λ (xs : List TraceLine). x ∷ xs) (take_none n) ∙ ap (λ (b : Bool). if b then x ∷ no_lines else no_lines) (sym (some_fewer n))
take_on (suc n) (y ∷ ys) x = ap (λ (xs : List TraceLine). y ∷ xs) (take_on n ys x) ∙ ap (λ (b : Bool). (y ∷ take n ys) ++ (if b then x ∷ no_lines else no_lines)) (both_more (length (take n ys)) n)

pub with_more : (o : Option TraceLine) (xs ys : List TraceLine) → with_line o (xs ++ ys) ≡ with_line o xs ++ ys
with_more None xs ys = refl
with_more (Some l) xs ys = refl

-- ---- which are shown, and their text

pub none_shown : (part : Part) → lines_shown part [] ≡ []
none_shown part = take_none part.count

shown_one : (part : Part) (ls : List TraceLine) (l : TraceLine) → lines_shown part (ls ++ l ∷ []) ≡ lines_shown part ls ++ (if is_shown part (length (lines_shown part ls)) l.number then l ∷ [] else [])
shown_one part ls l = ap (take part.count) (filter-append (λ (x : TraceLine). nat_le part.from x.number) ls (l ∷ [])) ∙ by_from (filter (λ (x : TraceLine). nat_le part.from x.number) ls) (nat_le part.from l.number)
  where
    by_from : (xs : List TraceLine) (b : Bool) → take part.count (xs ++ (if b then l ∷ [] else [])) ≡ take part.count xs ++ (if b && nat_lt (length (take part.count xs)) part.count then l ∷ [] else [])
    by_from xs true = take_on part.count xs l
    by_from xs false = ap (take part.count) (append-nil xs) ∙ sym (append-nil (take part.count xs))

text_on : (part : Part) (ls : List TraceLine) (l : TraceLine) → lines_text part.from (ls ++ l ∷ []) ≡ lines_text part.from ls ++ (standings_due part (length ls) l.standings ++ l.text)
text_on part [] l = ap (λ (text : List ℕ). (if nat_lt 1 part.from then l.standings else []) ++ text) (append-nil l.text)
text_on part (m ∷ ms) l =
    let first : List ℕ = if nat_lt 1 part.from then m.standings else [] in
    let texts : List ℕ = flat_map (λ (x : TraceLine). x.text) (m ∷ ms) in
    ap (λ (text : List ℕ). first ++ text) (flat_map-append (λ (x : TraceLine). x.text) (m ∷ ms) (l ∷ []) ∙ ap (λ (text : List ℕ). texts ++ text) (append-nil l.text)) ∙ sym (append_assoc first texts l.text)
    ∙ ap (λ (b : Bool). (first ++ texts) ++ ((if b && nat_lt 1 part.from then l.standings else []) ++ l.text)) (sym (is_not_first (length ms)))

shown_on : (part : Part) (ls : List TraceLine) (l : TraceLine) → shown_text part (ls ++ l ∷ []) ≡ shown_text part ls ++ put_text part (length (lines_shown part ls)) (Some l)
shown_on part ls l = ap (lines_text part.from) (shown_one part ls l) ∙ by_shown (lines_shown part ls) (is_shown part (length (lines_shown part ls)) l.number)
  where
    by_shown : (xs : List TraceLine) (b : Bool) → lines_text part.from (xs ++ (if b then l ∷ [] else [])) ≡ lines_text part.from xs ++ (if b then standings_due part (length xs) l.standings ++ l.text else [])
    by_shown xs true = text_on part xs l
    by_shown xs false = ap (lines_text part.from) (append-nil xs) ∙ sym (append-nil (lines_text part.from xs))

-- ---- behind an event, which has a line or none

pub text_with : (part : Part) (ls : List TraceLine) (o : Option TraceLine) → shown_text part (ls ++ with_line o []) ≡ shown_text part ls ++ put_text part (length (lines_shown part ls)) o
text_with part ls None = ap (shown_text part) (append-nil ls) ∙ sym (append-nil (shown_text part ls))
text_with part ls (Some l) = shown_on part ls l

pub count_with : (part : Part) (ls : List TraceLine) (o : Option TraceLine) → length (lines_shown part (ls ++ with_line o [])) ≡ shown_behind part (length (lines_shown part ls)) o
count_with part ls None = ap (λ (x : List TraceLine). length (lines_shown part x)) (append-nil ls)
count_with part ls (Some l) = ap length (shown_one part ls l) ∙ by_shown (lines_shown part ls) (is_shown part (length (lines_shown part ls)) l.number)
  where
    by_shown : (xs : List TraceLine) (b : Bool) → length (xs ++ (if b then l ∷ [] else [])) ≡ (if b then length xs + 1 else length xs)
    by_shown xs true = length-append xs (l ∷ [])
    by_shown xs false = ap length (append-nil xs)

-- ---- behind many

pub shown_more : (part : Part) (ls ms : List TraceLine) → (rest : List ℕ) × (shown_text part (ls ++ ms) ≡ shown_text part ls ++ rest)
shown_more part ls [] = ([], ap (shown_text part) (append-nil ls) ∙ sym (append-nil (shown_text part ls)))
shown_more part ls (m ∷ ms) =
    let on = shown_more part (ls ++ m ∷ []) ms in
    let put : List ℕ = put_text part (length (lines_shown part ls)) (Some m) in
    (put ++ on.0, ap (shown_text part) (sym (append_assoc ls (m ∷ []) ms)) ∙ on.1 ∙ ap (λ (text : List ℕ). text ++ on.0) (shown_on part ls m) ∙ append_assoc (shown_text part ls) put on.0)
