-- Files that are read from a shelf, name by name.
use Rattle.std.proofs.Common.{◌≡◌, ℕ, ◌+◌, ◌<◌, ◌≤◌, Bool, true, false, cond, List, [], ◌∷◌, ◌++◌, length, map, take, replicate, Option, Some, None, refl, sym, ap, ◌∙◌, arith, IfSome, Ok, Err, String, string_bytes}
use Rattle.std.{specs.{Global.Global, List.{AllByRecursion, position_from}}, proofs.lemmas.{Bool.{le-ltb, lt-ltb}, List.{length-map, length-append, length-replicate, take_at}}}
use Rattle.jvm_types.specs.declared.limits.TheConstants.{MOST_FILE_BYTES}
use Rattle.host_io.specs.{Reading.{FailsWhereTold, IsLong, IsUnread, contents_of, first_long}, Shelf.{FailsBy, IsRead, content_of}, declared.shelf.{NamedFile.NamedFile, ShelfError.ShelfError}}
use Rattle.host_io.specs.declared.shelf.ShelfError.TheVariants.{Memory, Failed, TooLong}

abbrev pub texts : List (String Global) → List (List ℕ)
texts names = map (λ name. string_bytes name) names

-- the first name that a shelf tells it can't read is among those that are left
abbrev AreReadable : Option (List ℕ → Bool) → (all left : List (List ℕ)) → (file : ℕ) → Type 0
AreReadable unreadable all left file = IfSome unreadable (λ test. position_from test 0 all ≡ position_from test file left)

-- so many files are read, and these are their contents; these names are left of all
pub record SoFar (files : Option (List NamedFile)) (unreadable : Option (List ℕ → Bool)) (all left : List (List ℕ)) (before after file : ℕ) (contents : List (List ℕ)) : Type 0 where
  pub calm : after ≡ before
  pub many : length contents ≡ file
  pub rest : file + length left ≡ length all
  pub short : AllByRecursion (λ content. length content ≤ MOST_FILE_BYTES) contents
  pub are : IfSome files (λ fs. contents ++ contents_of fs left ≡ contents_of fs all)
  pub readable : AreReadable unreadable all left file

-- ---- the first that is too long

-- contents that are not too long are passed over
pass_short : (file end : ℕ) (front back : List (List ℕ)) → file + length front ≡ end → AllByRecursion (λ content. length content ≤ MOST_FILE_BYTES) front → first_long file (front ++ back) ≡ first_long end back
pass_short file end [] back counted short = ap (λ n. first_long n back) (omega arith)
pass_short file end (content ∷ front) back counted short = rw (le-ltb MOST_FILE_BYTES (length content) short.0) (pass_short (file + 1) end front back (omega arith) short.1)

pub none_long : (file : ℕ) (contents : List (List ℕ)) → AllByRecursion (λ content. length content ≤ MOST_FILE_BYTES) contents → first_long file contents ≡ None
none_long file [] short = refl
none_long file (content ∷ contents) short = rw (le-ltb MOST_FILE_BYTES (length content) short.0) (none_long (file + 1) contents short.1)

-- the next of some contents is too long, and none before it
long_next : (file : ℕ) (front rest : List (List ℕ)) (content : List ℕ) → length front ≡ file → AllByRecursion (λ content. length content ≤ MOST_FILE_BYTES) front → MOST_FILE_BYTES < length content → first_long 0 (front ++ content ∷ rest) ≡ Some file
long_next file front rest content many short long = pass_short 0 file front (content ∷ rest) (omega (arith, many)) short ∙ rw (lt-ltb MOST_FILE_BYTES (length content) long) refl

-- a content that is longer than a number
longer : (n : ℕ) → (content : List ℕ) × (n < length content)
longer n = (replicate (n + 1) 0, rw (length-replicate {A = ℕ} (n + 1) 0) (omega arith))

-- ---- the first that can't be read

pass_readable : (test : List ℕ → Bool) (all left : List (List ℕ)) (name : List ℕ) (file : ℕ) → position_from test 0 all ≡ position_from test file (name ∷ left) → FailsBy {A = Unit {0}} (test name) (Ok tt) → position_from test 0 all ≡ position_from test (file + 1) left
pass_readable test all left name file so_far fails = by_test (test name) so_far fails
  where
    by_test : (b : Bool) → position_from test 0 all ≡ cond b (Some file) (position_from test (file + 1) left) → FailsBy {A = Unit {0}} b (Ok tt) → position_from test 0 all ≡ position_from test (file + 1) left
    by_test true so_far fails = absurd fails
    by_test false so_far fails = so_far

stop_unreadable : (test : List ℕ → Bool) (all left : List (List ℕ)) (name : List ℕ) (file : ℕ) → position_from test 0 all ≡ position_from test file (name ∷ left) → FailsBy {A = Unit {0}} (test name) (Err Failed) → position_from test 0 all ≡ Some file
stop_unreadable test all left name file so_far fails = by_test (test name) so_far fails
  where
    by_test : (b : Bool) → position_from test 0 all ≡ cond b (Some file) (position_from test (file + 1) left) → FailsBy {A = Unit {0}} b (Err Failed) → position_from test 0 all ≡ Some file
    by_test true so_far fails = so_far
    by_test false so_far fails = absurd fails

-- a name that is read is passed over
pub next_readable : (unreadable : Option (List ℕ → Bool)) (all left : List (List ℕ)) (name : List ℕ) (file : ℕ) → AreReadable unreadable all (name ∷ left) file → FailsWhereTold {A = Unit {0}} unreadable name (Ok tt) → AreReadable unreadable all left (file + 1)
next_readable None all left name file so_far fails = tt
next_readable (Some test) all left name file so_far fails = pass_readable test all left name file so_far fails

-- one at which the shelf fails is the first
first_unreadable : (unreadable : Option (List ℕ → Bool)) (all left : List (List ℕ)) (name : List ℕ) (file : ℕ) → AreReadable unreadable all (name ∷ left) file → FailsWhereTold {A = Unit {0}} unreadable name (Err Failed) → IfSome unreadable (λ test. position_from test 0 all ≡ Some file)
first_unreadable None all left name file so_far fails = tt
first_unreadable (Some test) all left name file so_far fails = stop_unreadable test all left name file so_far fails

-- ---- the next file

-- the next file is too long
next_long : (files : Option (List NamedFile)) (unreadable : Option (List ℕ → Bool)) (all left : List (List ℕ)) (name : List ℕ) (before mid file : ℕ) (contents : List (List ℕ)) → SoFar files unreadable all (name ∷ left) before mid file contents → IfSome files (λ fs. MOST_FILE_BYTES < length (content_of fs name)) → IsLong files all file
next_long None unreadable all left name before mid file contents read long =
    let content = longer MOST_FILE_BYTES in
    let empty : List ℕ = [] in
    let rest : List (List ℕ) = map (λ _. empty) left in
    record {
      contents = contents ++ content.0 ∷ rest;
      are = tt;
      many = rw (length-append contents (content.0 ∷ rest)) (omega (arith, read.many, read.rest, length-map left (λ (x : List ℕ). empty)));
      first = long_next file contents rest content.0 read.many read.short content.1;
    }
next_long (Some fs) unreadable all left name before mid file contents read long = record {
  contents = contents_of fs all;
  are = refl;
  many = length-map all _;
  first = ap (first_long 0) (sym read.are) ∙ long_next file contents (contents_of fs left) (content_of fs name) read.many read.short long;
}

-- none before the next file is too long
none_before : (files : Option (List NamedFile)) (unreadable : Option (List ℕ → Bool)) (all left : List (List ℕ)) (before mid file : ℕ) (contents : List (List ℕ)) → SoFar files unreadable all left before mid file contents → IfSome files (λ fs. first_long 0 (take file (contents_of fs all)) ≡ None)
none_before None unreadable all left before mid file contents read = tt
none_before (Some fs) unreadable all left before mid file contents read = ap (λ xs. first_long 0 (take file xs)) (sym read.are) ∙ ap (first_long 0) (take_at contents (contents_of fs left) file read.many) ∙ none_long 0 contents read.short

-- the next file is the first that is not read
pub next_unread : (files : Option (List NamedFile)) (unreadable : Option (List ℕ → Bool)) (all left : List (List ℕ)) (name : List ℕ) (before mid after file : ℕ) (contents : List (List ℕ)) (error : ShelfError) → SoFar files unreadable all (name ∷ left) before mid file contents → IsRead files name MOST_FILE_BYTES mid after (Err error) → FailsWhereTold {A = Unit {0}} unreadable name (Err error) → IsUnread files unreadable all before after file error
next_unread files unreadable all left name before mid after file contents TooLong read answer fails = (answer.0 ∙ read.calm, next_long files unreadable all left name before mid file contents read answer.1)
next_unread files unreadable all left name before mid after file contents Failed read answer fails = (
  rw (← read.calm) answer,
  record {
    among = omega (arith, read.rest);
    first = first_unreadable unreadable all left name file read.readable fails;
    before = none_before files unreadable all (name ∷ left) before mid file contents read;
  },
)
next_unread files unreadable all left name before mid after file contents Memory read answer fails = omega (arith, read.calm, answer)
