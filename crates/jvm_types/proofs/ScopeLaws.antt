-- Everything that may be named stands for something of the program.
use Rattle.std.proofs.Common.{◌≡◌, ℕ, suc, ◌+◌, Bool, true, false, cond, not, ◌&&◌, List, [], ◌∷◌, ◌++◌, Option, Some, None, IsSomeAnd, refl, ap, ◌∙◌, subst, arith, ◌==◌, slice_get, codes}
use Rattle.std.{specs.List.{AllByRecursion, AllZip, zip}, proofs.lemmas.Bool.ne_eqb}
use Rattle.jvm_types.specs.{ClassNames.{class_names, has_built_in_init}, Layout.{fields_of, fields_from, laid_out_fields, class_word_count}, Linkable.IsDecoded}
use Rattle.jvm_types.specs.Linked.{scope_of, coded_methods, linked_methods, program_of}
use Rattle.jvm_types.specs.Members.{MethodSite, is_class_init_name, field_rule, call_rule, built_in_methods, init_of, Declared, class_of_declared, name_of, descriptor_of, declared_from, declared_by, declared_fields, declared_methods, entries_from, is_static}
use Rattle.jvm_types.specs.{Targets.Scope, declared.{call.Call.TheVariants.{Virtual, Special, Static}, class_file.{ClassFile.ClassFile, Constant.Constant, Member.{Member as ClassMember}}}}
use Rattle.jvm_types.specs.declared.{code.Insn.Insn, fixed_words.TheConstants.FIRST_CLASS_WORD, program.{FieldInfo.FieldInfo, MethodInfo.MethodInfo, Program.Program}, refusal.LRule.TheVariants.L7}
use Rattle.jvm_types.proofs.{EachAfter.all_append, TargetLaws.{FieldFits, MethodFits, ScopeFits}}
use Rattle.jvm_types.specs.declared.program.Target.TheVariants as targets

-- ---- built-in members

module _ (p : Program) where
  unwritten : (site : MethodSite) (b : Bool) → b ≡ false → cond (not (b && is_class_init_name site.name)) (Some L7) None ≡ None → ⊥
  unwritten site true e f = absurd cc
  unwritten site false e f = absurd cc

  out_fits : FieldFits p (record { class = 0; name = codes "out"; descriptor = codes "Ljava/io/PrintStream;"; flags = 25; target = targets.Out })
  out_fits true false site l e = tt
  out_fits true true site l e = absurd (unwritten site (0 == site.class) (ne_eqb 0 site.class (λ z. omega (arith, l, z))) e)
  out_fits false writes site l e = absurd cc

  init_fits : (class : ℕ) → has_built_in_init class ≡ true → MethodFits p (init_of class)
  init_fits class h Virtual site e = absurd cc
  init_fits class h Special site e = h
  init_fits class h Static site e = absurd cc

  built_in_fit : AllByRecursion (MethodFits p) built_in_methods
  built_in_fit = (
    init_fits 1 refl,
    (
      wait,
      (
        notify,
        (
          notify_all,
          (
            println,
            (
              init_fits 4 refl,
              (
                init_fits 5 refl,
                (
                  init_fits 6 refl,
                  (
                    init_fits 7 refl,
                    (
                      init_fits 8 refl,
                      (
                        init_fits 9 refl,
                        (init_fits 10 refl, (init_fits 11 refl, (init_fits 12 refl, (init_fits 13 refl, (init_fits 14 refl, (init_fits 15 refl, tt)))))),
                      ),
                    ),
                  ),
                ),
              ),
            ),
          ),
        ),
      ),
    ),
  )
    where
      wait : MethodFits p (record { class = 1; name = codes "wait"; descriptor = codes "()V"; flags = 1; target = targets.Wait })
      wait Virtual site e = tt
      wait Special site e = absurd cc
      wait Static site e = absurd cc

      notify : MethodFits p (record { class = 1; name = codes "notify"; descriptor = codes "()V"; flags = 1; target = targets.Notify })
      notify Virtual site e = tt
      notify Special site e = absurd cc
      notify Static site e = absurd cc

      notify_all : MethodFits p (record { class = 1; name = codes "notifyAll"; descriptor = codes "()V"; flags = 1; target = targets.NotifyAll })
      notify_all Virtual site e = tt
      notify_all Special site e = absurd cc
      notify_all Static site e = absurd cc

      println : MethodFits p (record { class = 3; name = codes "println"; descriptor = codes "(I)V"; flags = 1; target = targets.Println })
      println Virtual site e = tt
      println Special site e = absurd cc
      println Static site e = absurd cc

-- ---- members of files, beside what the program has of them

pub record SameField (d : Declared) (f : FieldInfo) : Type 0 where
  pub class : class_of_declared d ≡ f.class
  pub flags : d.member.flags ≡ f.flags

pub record SameMethod (d : Declared) (m : MethodInfo) : Type 0 where
  pub class : class_of_declared d ≡ m.class
  pub flags : d.member.flags ≡ m.flags
  pub name : name_of d ≡ m.name

pub zip_append : {A B : Type 0} (R : A → B → Type 0) (xs us : List A) (ys vs : List B) → AllZip R xs ys → AllZip R us vs → AllZip R (xs ++ us) (ys ++ vs)
zip_append R [] us [] vs h k = k
zip_append R [] us (y ∷ ys) vs h k = absurd h
zip_append R (x ∷ xs) us [] vs h k = absurd h
zip_append R (x ∷ xs) us (y ∷ ys) vs h k = (h.0, zip_append R xs us ys vs h.1 k)

class_same : (names : List (List ℕ)) (file : ℕ) (pool : List Constant) (number place word : ℕ) (ms : List ClassMember) → AllZip SameField (declared_from file pool number ms) (fields_of names file pool place word ms)
class_same names file pool number place word [] = tt
class_same names file pool number place word (m ∷ ms) = (record { class = refl; flags = refl }, class_same names file pool (number + 1) (cond (is_static m.flags) place (place + 1)) (cond (is_static m.flags) (word + 1) word) ms)

files_same : (names : List (List ℕ)) (file word : ℕ) (cs : List ClassFile) → AllZip SameField (declared_by (λ c. c.fields) file cs) (fields_from names file word cs)
files_same names file word [] = tt
files_same names file word (c ∷ cs) = zip_append SameField (declared_from file c.constants 0 c.fields) (declared_by (λ c. c.fields) (file + 1) cs) _ _
    (class_same names file c.constants 0 0 (word + 2) c.fields) (files_same names (file + 1) (word + class_word_count c) cs)

methods_same : (s : Scope) (ds : List Declared) (code : List (List Insn)) → AllZip IsDecoded ds code → AllZip SameMethod ds (linked_methods s (zip ds code))
methods_same s [] [] h = tt
methods_same s [] (i ∷ code) h = absurd h
methods_same s (d ∷ ds) [] h = absurd h
methods_same s (d ∷ ds) (i ∷ code) h = (record { class = refl; flags = refl; name = refl }, methods_same s ds code h.1)

-- ---- entries

module _ (p : Program) where
  field_entry : (number : ℕ) (d : Declared) (f : FieldInfo) → SameField d f → Some f ≡ slice_get p.fields number
      → FieldFits p (record { class = class_of_declared d; name = name_of d; descriptor = descriptor_of d; flags = d.member.flags; target = targets.Field number })
  field_entry number d f same at static writes site l e = subst (λ (o : Option FieldInfo). IsSomeAnd o (λ f. field_rule static writes site f.class f.flags ≡ None)) at
      (subst (λ (n : ℕ). field_rule static writes site f.class n ≡ None) same.flags (subst (λ (n : ℕ). field_rule static writes site n d.member.flags ≡ None) same.class e))

  field_entries : (number : ℕ) (ds : List Declared) (fs : List FieldInfo) → AllZip SameField ds fs → ((j : ℕ) → slice_get fs j ≡ slice_get p.fields (number + j))
      → AllByRecursion (FieldFits p) (entries_from targets.Field number ds)
  field_entries number [] fs h at = tt
  field_entries number (d ∷ ds) [] h at = absurd h
  field_entries number (d ∷ ds) (f ∷ fs) h at = (
    field_entry number d f h.0 (at 0 ∙ ap (slice_get p.fields) (omega arith)),
    field_entries (number + 1) ds fs h.1 (λ j. at (suc j) ∙ ap (slice_get p.fields) (omega arith)),
  )

  method_entry : (number : ℕ) (d : Declared) (m : MethodInfo) → SameMethod d m → Some m ≡ slice_get p.methods number
      → MethodFits p (record { class = class_of_declared d; name = name_of d; descriptor = descriptor_of d; flags = d.member.flags; target = targets.Method number })
  method_entry number d m same at call site e = subst (λ (o : Option MethodInfo). IsSomeAnd o (λ m. call_rule call site m.class m.name m.flags ≡ None)) at
      (subst (λ (n : ℕ). call_rule call site m.class m.name n ≡ None) same.flags
      (subst (λ (n : List ℕ). call_rule call site m.class n d.member.flags ≡ None) same.name (subst (λ (n : ℕ). call_rule call site n (name_of d) d.member.flags ≡ None) same.class e)))

  method_entries : (number : ℕ) (ds : List Declared) (ms : List MethodInfo) → AllZip SameMethod ds ms → ((j : ℕ) → slice_get ms j ≡ slice_get p.methods (number + j))
      → AllByRecursion (MethodFits p) (entries_from targets.Method number ds)
  method_entries number [] ms h at = tt
  method_entries number (d ∷ ds) [] h at = absurd h
  method_entries number (d ∷ ds) (m ∷ ms) h at = (
    method_entry number d m h.0 (at 0 ∙ ap (slice_get p.methods) (omega arith)),
    method_entries (number + 1) ds ms h.1 (λ j. at (suc j) ∙ ap (slice_get p.methods) (omega arith)),
  )

-- ---- the whole

pub scope_fits : (files : List ClassFile) (code : List (List Insn)) (heap workers : ℕ) → AllZip IsDecoded (declared_methods files) code → ScopeFits (program_of files code heap workers) (scope_of files)
scope_fits files code heap workers h =
    let p : Program = program_of files code heap workers in
    record {
      names = refl;
      fields = (out_fits p, field_entries p 0 (declared_fields files) (laid_out_fields (class_names files) files) (files_same (class_names files) 0 FIRST_CLASS_WORD files) (λ j. ap (slice_get p.fields) (omega arith)));
      methods = all_append (MethodFits p) built_in_methods (entries_from targets.Method 0 (declared_methods files)) (built_in_fit p)
          (method_entries p 0 (declared_methods files) (linked_methods (scope_of files) (coded_methods files code)) (methods_same (scope_of files) (declared_methods files) code h) (λ j. ap (slice_get p.methods) (omega arith)));
    }
