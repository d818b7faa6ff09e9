-- The members of files as entries, as they are passed one by one.
use Rattle.std.proofs.Common.{◌≡◌, ℕ, suc, ◌+◌, ◌<◌, ◌≤◌, ◌^◌, lit<, Bool, true, false, cond, List, [], ◌∷◌, ◌++◌, length, take, get_or, Option, Some, None, is_some, refl, sym, ap, ◌∙◌, append_assoc, append-nil, arith, ⊎_elim, bytes_eq, ◌==◌, ◌&&◌, ◌||◌, slice_get}
use Rattle.std.{specs.List.{list_any, AllByRecursion}, proofs.lemmas.{Bool.{cases_eq, eq-eqb, ne_eqb}, List.{length-append, length-take-le}}}
use Rattle.jvm_types.specs.{ClassGrammar.IsClass, ClassNames.{text_at, file_class}, LinkFaults.is_repeated}
use Rattle.jvm_types.specs.{Members.{Entry, member_in, Declared, class_of_declared, name_of, descriptor_of, declared_from, declared_by, entries_from}, declared.class_file.ClassFile.ClassFile}
use Rattle.jvm_types.{specs.declared.{class_file.{Constant.Constant, Member.{Member as ClassMember}}, program.Target.Target}, proofs.EachAfter.{all_append, all_weaker}}
use Rattle.link_scope.specs.{MemberTables.{members_of, target_of_sort, built_in, entries_of, class_entries, member_entry, AreBelow, in_flags, in_flag_rows, repeats_of, AreRepeats}, Scoping.repeats}
use Rattle.link_scope.{specs.declared.members.Sort.{Sort, TheVariants.{Fields, Methods}}, proofs.ListLaws.{got_at, got_other, take_next}}

-- ---- the members of one class

module _ (target : ℕ → Target) (file : ℕ) (pool : List Constant) where
  from : ℕ → ℕ → List ClassMember → List Entry
  from first place ms = entries_from target first (declared_from file pool place ms)

  entries_push : (first place : ℕ) (ms : List ClassMember) (m : ClassMember) → from first place (ms ++ m ∷ []) ≡ from first place ms ++ member_entry pool file m (target (first + length ms)) ∷ []
  unfolding from
  entries_push first place [] m = ap (λ (n : ℕ). member_entry pool file m (target n) ∷ []) (let e : first ≡ first + 0 = omega arith in e)
  entries_push first place (x ∷ ms) m = ap (λ (es : List Entry). member_entry pool file x (target first) ∷ es)
      (entries_push (first + 1) (place + 1) ms m ∙ ap (λ (n : ℕ). from (first + 1) (place + 1) ms ++ member_entry pool file m (target n) ∷ []) (let e : first + 1 + length ms ≡ first + length (x ∷ ms) = omega arith in e))

  -- the members so far and the next one
  pub entries_next : (first : ℕ) (ms : List ClassMember) (i : ℕ) (m : ClassMember) → i < length ms → m ≡ get_or ms i m
      → entries_from target first (declared_from file pool 0 (take (i + 1) ms)) ≡ entries_from target first (declared_from file pool 0 (take i ms)) ++ member_entry pool file m (target (first + i)) ∷ []
  unfolding from
  entries_next first ms i m l e =
      ap (from first 0) (take_next ms i m l e) ∙ entries_push first 0 (take i ms) m
      ∙ ap (λ (n : ℕ). from first 0 (take i ms) ++ member_entry pool file m (target (first + n)) ∷ []) (length-take-le i ms (omega arith))

-- ---- look-up in a class

-- no entry of another class is found
pub past_below : (class : ℕ) (name descriptor : List ℕ) (entries more : List Entry) → AreBelow class entries → member_in (entries ++ more) class name descriptor ≡ member_in more class name descriptor
past_below class name descriptor [] more h = refl
past_below class name descriptor (e ∷ entries) more h =
    let other : (e.class == class) ≡ false = ne_eqb e.class class (λ same. omega (arith, h.0, same)) in
    rw other (past_below class name descriptor entries more h.1)

module _ (target : ℕ → Target) (file : ℕ) (pool : List Constant) (name descriptor : List ℕ) where
  found_here : (b : Bool) (e : Entry) (o : Option Entry) (c : Bool) → is_some o ≡ c → is_some (cond b (Some e) o) ≡ (b || c)
  found_here true e o c h = refl
  found_here false e o c h = h

  -- a member of the class is found where one has the name and the descriptor
  pub some_member : (first place : ℕ) (ms : List ClassMember)
      → is_some (member_in (entries_from target first (declared_from file pool place ms)) (file_class file) name descriptor) ≡ list_any (λ m. bytes_eq (text_at pool m.name) name && bytes_eq (text_at pool m.descriptor) descriptor) ms
  some_member first place [] = refl
  some_member first place (m ∷ ms) =
      let own : (file_class file == file_class file) ≡ true = eq-eqb (file_class file) (file_class file) refl in
      rw own (found_here (bytes_eq (text_at pool m.name) name && bytes_eq (text_at pool m.descriptor) descriptor) _ _ _ (some_member (first + 1) (place + 1) ms))

-- ---- rows of answers

-- the answer at the next member
pub flags_next : (pool : List Constant) (members : List ClassMember) (j : ℕ) (m : ClassMember) (flags : List Bool) (b : Bool) → j < length members → m ≡ get_or members j m → length flags ≡ j → b ≡ is_repeated pool (take j members) m
    → ((i : ℕ) → in_flags flags i ≡ repeats pool members i (slice_get (take j members) i)) → (i : ℕ) → in_flags (flags ++ b ∷ []) i ≡ repeats pool members i (slice_get (take (j + 1) members) i)
flags_next pool members j m flags b l e long is so_far i =
    let count : length (take j members) ≡ j = length-take-le j members (omega arith) in
    ⊎_elim
    (λ same. rw (take_next members j m l e, got_at flags b i (same ∙ sym long), got_at (take j members) m i (same ∙ sym count)) (is ∙ ap (λ (k : ℕ). is_repeated pool (take k members) m) (sym same)))
    (λ ne. rw (take_next members j m l e, got_other flags b i (λ h. ne (h ∙ long)), got_other (take j members) m i (λ h. ne (h ∙ count))) (so_far i))
    (cases_eq i j)

-- ---- the members of all files

one : (ℕ → Target) → ℕ → Declared → Entry
one target n d = record { class = class_of_declared d; name = name_of d; descriptor = descriptor_of d; flags = d.member.flags; target = target n }

entries_append : (target : ℕ → Target) (n : ℕ) (xs ys : List Declared) → entries_from target n (xs ++ ys) ≡ entries_from target n xs ++ entries_from target (n + length xs) ys
unfolding one
entries_append target n [] ys = ap (λ (k : ℕ). entries_from target k ys) (let e : n ≡ n + 0 = omega arith in e)
entries_append target n (d ∷ xs) ys =
    let e : n + 1 + length xs ≡ n + length (d ∷ xs) = omega arith in
    ap (λ (es : List Entry). one target n d ∷ es) (entries_append target (n + 1) xs ys ∙ ap (λ (k : ℕ). entries_from target (n + 1) xs ++ entries_from target k ys) e)

pub length-declared_from : (file : ℕ) (pool : List Constant) (place : ℕ) (ms : List ClassMember) → length (declared_from file pool place ms) ≡ length ms
length-declared_from file pool place [] = refl
length-declared_from file pool place (m ∷ ms) = ap (λ (n : ℕ). suc n) (length-declared_from file pool (place + 1) ms)

module _ (members : ClassFile → List ClassMember) where
  declared_push : (k : ℕ) (fs : List ClassFile) (c : ClassFile) → declared_by members k (fs ++ c ∷ []) ≡ declared_by members k fs ++ declared_from (k + length fs) c.constants 0 (members c)
  declared_push k [] c = append-nil (declared_from k c.constants 0 (members c)) ∙ ap (λ (n : ℕ). declared_from n c.constants 0 (members c)) (let e : k ≡ k + 0 = omega arith in e)
  declared_push k (f ∷ fs) c =
      let own : List Declared = declared_from k f.constants 0 (members f) in
      let e : k + 1 + length fs ≡ k + length (f ∷ fs) = omega arith in
      ap (λ (ds : List Declared). own ++ ds) (declared_push (k + 1) fs c ∙ ap (λ (n : ℕ). declared_by members (k + 1) fs ++ declared_from n c.constants 0 (members c)) e)
      ∙ sym (append_assoc own (declared_by members (k + 1) fs) (declared_from (k + length (f ∷ fs)) c.constants 0 (members c)))

  pub length_next : (files : List ClassFile) (k : ℕ) (c : ClassFile) → k < length files → c ≡ get_or files k c → length (declared_by members 0 (take (k + 1) files)) ≡ length (declared_by members 0 (take k files)) + length (members c)
  length_next files k c l e =
      ap (λ (fs : List ClassFile). length (declared_by members 0 fs)) (take_next files k c l e)
      ∙ ap (λ (ds : List Declared). length ds) (declared_push 0 (take k files) c)
      ∙ length-append (declared_by members 0 (take k files)) (declared_from (0 + length (take k files)) c.constants 0 (members c))
      ∙ ap (λ (n : ℕ). length (declared_by members 0 (take k files)) + n) (length-declared_from (0 + length (take k files)) c.constants 0 (members c))

  -- ---- which classes they are of

  same_file : (file class : ℕ) (pool : List Constant) (place : ℕ) (ms : List ClassMember) → file_class file < class → AllByRecursion (λ d. class_of_declared d < class) (declared_from file pool place ms)
  same_file file class pool place [] l = tt
  same_file file class pool place (m ∷ ms) l = (l, same_file file class pool (place + 1) ms l)

  all_below : (k class : ℕ) (fs : List ClassFile) → file_class (k + length fs) ≤ class → AllByRecursion (λ d. class_of_declared d < class) (declared_by members k fs)
  all_below k class [] l = tt
  all_below k class (f ∷ fs) l = all_append (λ (d : Declared). class_of_declared d < class) (declared_from k f.constants 0 (members f)) (declared_by members (k + 1) fs)
      (same_file k class f.constants 0 (members f) (omega arith)) (all_below (k + 1) class fs (omega arith))

entries_below : (target : ℕ → Target) (class n : ℕ) (ds : List Declared) → AllByRecursion (λ d. class_of_declared d < class) ds → AreBelow class (entries_from target n ds)
entries_below target class n [] h = tt
entries_below target class n (d ∷ ds) h = (h.0, entries_below target class (n + 1) ds h.1)

built_in_below : (sort : Sort) → AreBelow 17 (built_in sort)
built_in_below Fields = (lit< tt, tt)
built_in_below Methods = (lit< tt, (lit< tt, (lit< tt, (lit< tt, (lit< tt, (lit< tt, (lit< tt, (lit< tt, (lit< tt, (lit< tt, (lit< tt, (lit< tt, (lit< tt, (lit< tt, (lit< tt, (lit< tt, (lit< tt, tt)))))))))))))))))

module _ (sort : Sort) (files : List ClassFile) (k : ℕ) where
  pub of_below : k ≤ length files → AreBelow (file_class k) (entries_of sort (take k files))
  of_below l =
      let n : file_class (0 + length (take k files)) ≤ file_class k = omega (arith, length-take-le k files) in
      all_append (λ (e : Entry). e.class < file_class k) (built_in sort) (entries_from (target_of_sort sort) 0 (declared_by (members_of sort) 0 (take k files)))
      (all_weaker (λ (e : Entry). e.class < 17) (λ (e : Entry). e.class < file_class k) (λ e h. omega (arith, h)) (built_in sort) (built_in_below sort))
      (entries_below (target_of_sort sort) (file_class k) 0 (declared_by (members_of sort) 0 (take k files)) (all_below (members_of sort) 0 (file_class k) (take k files) n))

  -- the entries of the files so far and of the next one
  pub of_next : (c : ClassFile) → k < length files → c ≡ get_or files k c
      → entries_of sort (take (k + 1) files) ≡ entries_of sort (take k files) ++ class_entries sort k c (length (declared_by (members_of sort) 0 (take k files)))
  of_next c l e =
      let front : List Declared = declared_by (members_of sort) 0 (take k files) in
      let count : 0 + length (take k files) ≡ k = omega (arith, length-take-le k files) in
      let own : List Declared = declared_from k c.constants 0 (members_of sort c) in
      let all : declared_by (members_of sort) 0 (take (k + 1) files) ≡ front ++ own
      = ap (declared_by (members_of sort) 0) (take_next files k c l e) ∙ declared_push (members_of sort) 0 (take k files) c ∙ ap (λ (n : ℕ). front ++ declared_from n c.constants 0 (members_of sort c)) count in
      ap (λ (ds : List Declared). built_in sort ++ entries_from (target_of_sort sort) 0 ds) all
      ∙ ap (λ (es : List Entry). built_in sort ++ es) (entries_append (target_of_sort sort) 0 front own ∙ ap (λ (n : ℕ). entries_from (target_of_sort sort) 0 front ++ entries_from (target_of_sort sort) n own) (let z : 0 + length front ≡ length front = omega arith in z))
      ∙ sym (append_assoc (built_in sort) (entries_from (target_of_sort sort) 0 front) (entries_from (target_of_sort sort) (length front) own))

-- ---- rows of answers for all files

pub repeats_none : (sort : Sort) (i : ℕ) → repeats_of sort None i ≡ false
repeats_none Fields i = refl
repeats_none Methods i = refl

repeats_some : (sort : Sort) (c : ClassFile) (i : ℕ) → repeats c.constants (members_of sort c) i (slice_get (members_of sort c) i) ≡ repeats_of sort (Some c) i
repeats_some Fields c i = refl
repeats_some Methods c i = refl

-- the row of the next file
pub flag_rows_next : (sort : Sort) (files : List ClassFile) (j : ℕ) (c : ClassFile) (rows : List (List Bool)) (flags : List Bool) → j < length files → c ≡ get_or files j c → length rows ≡ j
    → ((k i : ℕ) → in_flag_rows rows k i ≡ repeats_of sort (slice_get (take j files) k) i) → AreRepeats c.constants (members_of sort c) flags
    → (k i : ℕ) → in_flag_rows (rows ++ flags ∷ []) k i ≡ repeats_of sort (slice_get (take (j + 1) files) k) i
flag_rows_next sort files j c rows flags l e long so_far are k i =
    let count : length (take j files) ≡ j = length-take-le j files (omega arith) in
    ⊎_elim
    (λ same. rw (take_next files j c l e, got_at rows flags k (same ∙ sym long), got_at (take j files) c k (same ∙ sym count)) (are i ∙ repeats_some sort c i))
    (λ ne. rw (take_next files j c l e, got_other rows flags k (λ h. ne (h ∙ long)), got_other (take j files) c k (λ h. ne (h ∙ count))) (so_far k i))
    (cases_eq k j)

-- a class has few members
pub few_members : (sort : Sort) (c : ClassFile) → IsClass c → length (members_of sort c) < 2 ^ 16
few_members Fields c h = h.fields.count
few_members Methods c h = h.methods.count
