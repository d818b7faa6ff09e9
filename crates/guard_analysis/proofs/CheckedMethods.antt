-- What the checks of all methods leave: of each method of a flagged class its frames of colours and what it reads, and which fields
-- are out.
use Rattle.std.proofs.Common.{◌≡◌, ◌<◌, ◌≢◌, ◌⊎◌, inl, inr, ⊎_elim, ℕ, zero, suc, ◌+◌, Bool, true, false, List, [], ◌∷◌, ◌++◌, length, replicate, Option, Some, None, refl, sym, ap, ◌∙◌, subst, arith, slice_get, slice_index_or}
use Rattle.std.proofs.lemmas.{Bool.{cases_eq, true≢false}, List.{length-append, length-replicate, get_or_append_left, get_or_push}, Option.same_Some}
use Rattle.jvm_types.specs.declared.program.{MethodInfo.MethodInfo, Program.Program}
use Rattle.checked_program.specs.{Visits.HasFrames, declared.tag.Tags.Tags}
use Rattle.guard_analysis.specs.{ColourVisits.colour_plan, FieldUses.class_flag, OwnedFound.{method_out, branched_flags, read_colours_before, IsMethodChecked, AreMethodsChecked, none, checked, passed}, declared.colouring.Colour.Colour}
use Rattle.guard_analysis.proofs.{FieldUseLaws.none_set, FlagsPut.{is_set, Puts}, MethodChecks.{OtherBefore, puts_method}}

module _ (p : Program) (tags : List Tags) (owning : List Bool) where
  -- what is kept of a method that was checked
  pub record IsKept (outs : List Bool) (reads : List (List Colour)) (u : ℕ) (m : MethodInfo) : Type 0 where
    pub t : Tags
    pub its_tags : slice_get tags u ≡ Some t
    pub frames : List (Option (List Colour))
    pub has : HasFrames (colour_plan p m) frames
    pub reads_are : slice_index_or reads u [] ≡ read_colours_before m frames (length m.code)
    pub puts : (fi : ℕ) → fi < length p.fields → OtherBefore p m t.frames (branched_flags m) frames fi (length m.code) → is_set outs fi ≡ true

  -- the method that put a field out
  pub record IsOutIn (fi : ℕ) : Type 0 where
    pub u : ℕ
    pub m : MethodInfo
    pub t : Tags
    pub in_program : slice_get p.methods u ≡ Some m
    pub its_tags : slice_get tags u ≡ Some t
    pub frames : List (Option (List Colour))
    pub has : HasFrames (colour_plan p m) frames
    pub other : OtherBefore p m t.frames (branched_flags m) frames fi (length m.code)

  -- of the first n methods
  pub record AreKept (n : ℕ) (outs : List Bool) (reads : List (List Colour)) : Type 0 where
    pub long : length outs ≡ length p.fields
    pub many : length reads ≡ n
    pub only : (fi : ℕ) → is_set outs fi ≡ true → IsOutIn fi
    pub kept : (u : ℕ) (m : MethodInfo) → u < n → slice_get p.methods u ≡ Some m → class_flag owning m.class ≡ true → IsKept outs reads u m
    pub others : (u : ℕ) (m : MethodInfo) → u < n → slice_get p.methods u ≡ Some m → class_flag owning m.class ≡ false → slice_index_or reads u [] ≡ []

  kept_on : (outs after : List Bool) (reads more : List (List Colour)) (u : ℕ) (m : MethodInfo) → ((fi : ℕ) → is_set outs fi ≡ true → is_set after fi ≡ true) → slice_index_or more u [] ≡ slice_index_or reads u [] → IsKept outs reads u m → IsKept after more u m
  kept_on outs after reads more u m stays e k =
      record { t = k.t; its_tags = k.its_tags; frames = k.frames; has = k.has; reads_are = e ∙ k.reads_are; puts = λ fi l x. stays fi (k.puts fi l x) }

  -- the reads of a method before, and of the last
  reads_before : (reads : List (List Colour)) (colours : List Colour) (n u : ℕ) → length reads ≡ n → u < n → slice_index_or (reads ++ colours ∷ []) u [] ≡ slice_index_or reads u []
  reads_before reads colours n u l h = get_or_append_left reads (colours ∷ []) [] u (subst (λ (k : ℕ). u < k) (sym l) h)

  reads_last : (reads : List (List Colour)) (colours : List Colour) (n : ℕ) → length reads ≡ n → slice_index_or (reads ++ colours ∷ []) n [] ≡ colours
  reads_last reads colours n l = get_or_push reads colours [] n l

  one_more : (reads : List (List Colour)) (colours : List Colour) (n : ℕ) → length reads ≡ n → length (reads ++ colours ∷ []) ≡ suc n
  one_more reads colours n l = length-append reads (colours ∷ []) ∙ ap (λ (k : ℕ). k + 1) l ∙ omega arith

  module _ (n : ℕ) (outs : List Bool) (reads : List (List Colour)) (before : AreKept n outs reads) (m : MethodInfo) (there : slice_get p.methods n ≡ Some m) where
    same_method : (other : MethodInfo) → slice_get p.methods n ≡ Some other → other ≡ m
    same_method other e = same_Some other m (sym e ∙ there)

    by_place : (P : ℕ → Type 0) (u : ℕ) → u < suc n → (u < n → P u) → P n → P u
    by_place P u l low here = ⊎_elim (λ (q : u ≡ n). subst P (sym q) here) (λ (q : u ≢ n). low (omega (arith, l, q))) (cases_eq u n)

    one_checked : (after : List Bool) (colours : List Colour) (t : Tags) → slice_get tags n ≡ Some t → class_flag owning m.class ≡ true → IsMethodChecked p m t.frames outs after colours → AreKept (suc n) after (reads ++ colours ∷ [])
    one_checked after colours t its flagged is = record {
      long = puts.long ∙ before.long;
      many = one_more reads colours n before.many;
      only = λ fi h. ⊎_elim (λ e. before.only fi e) (λ x. record { u = n; m = m; t = t; in_program = there; its_tags = its; frames = is.frames; has = is.visited; other = x }) (puts.only fi h);
      kept = λ u. λ x l. by_place (λ (k : ℕ). slice_get p.methods k ≡ Some x → class_flag owning x.class ≡ true → IsKept after (reads ++ colours ∷ []) k x) u l
          (λ low e f. kept_on outs after reads (reads ++ colours ∷ []) u x (λ fi h. puts.kept fi h) (reads_before reads colours n u before.many low) (before.kept u x low e f))
          (λ e f. subst (λ (k : MethodInfo). IsKept after (reads ++ colours ∷ []) n k) (sym (same_method x e)) here);
      others = λ u. λ x l. by_place (λ (k : ℕ). slice_get p.methods k ≡ Some x → class_flag owning x.class ≡ false → slice_index_or (reads ++ colours ∷ []) k [] ≡ []) u l
          (λ low e f. reads_before reads colours n u before.many low ∙ before.others u x low e f)
          (λ e f. absurd (true≢false (sym (ap (λ (k : MethodInfo). class_flag owning k.class) (same_method x e) ∙ flagged) ∙ f)));
    }
      where
        puts : Puts outs after (λ fi. OtherBefore p m t.frames (branched_flags m) is.frames fi (length m.code))
        puts = subst (λ (flags : List Bool). Puts outs flags (λ fi. OtherBefore p m t.frames (branched_flags m) is.frames fi (length m.code))) (sym is.outs_are) (puts_method p m t.frames (branched_flags m) is.frames outs (length m.code))

        here : IsKept after (reads ++ colours ∷ []) n m
        here = record { t = t; its_tags = its; frames = is.frames; has = is.visited; reads_are = reads_last reads colours n before.many ∙ is.colours_are; puts = λ fi l x. puts.all fi (subst (λ (k : ℕ). fi < k) (sym before.long) l) x }

    one_passed : class_flag owning m.class ≡ false → AreKept (suc n) outs (reads ++ [] ∷ [])
    one_passed unflagged = record {
      long = before.long;
      many = one_more reads [] n before.many;
      only = before.only;
      kept = λ u. λ x l. by_place (λ (k : ℕ). slice_get p.methods k ≡ Some x → class_flag owning x.class ≡ true → IsKept outs (reads ++ [] ∷ []) k x) u l
          (λ low e f. kept_on outs outs reads (reads ++ [] ∷ []) u x (λ fi h. h) (reads_before reads [] n u before.many low) (before.kept u x low e f))
          (λ e f. absurd (true≢false (sym f ∙ ap (λ (k : MethodInfo). class_flag owning k.class) (same_method x e) ∙ unflagged)));
      others = λ u. λ x l. by_place (λ (k : ℕ). slice_get p.methods k ≡ Some x → class_flag owning x.class ≡ false → slice_index_or (reads ++ [] ∷ []) k [] ≡ []) u l
          (λ low e f. reads_before reads [] n u before.many low ∙ before.others u x low e f)
          (λ e f. reads_last reads [] n before.many);
    }

  pub methods_kept : (n : ℕ) (outs : List Bool) (reads : List (List Colour)) → AreMethodsChecked p tags owning n outs reads → AreKept n outs reads
  methods_kept n outs reads none = record {
    long = length-replicate (length p.fields) false;
    many = refl;
    only = λ fi h. absurd (none_set (length p.fields) fi h);
    kept = λ u m l. absurd (omega (arith, l));
    others = λ u m l. absurd (omega (arith, l));
  }
  methods_kept n outs reads (checked u before after earlier colours m t all there its flagged is) = one_checked u before earlier (methods_kept u before earlier all) m there after colours t its flagged is
  methods_kept n outs reads (passed u before earlier m all there unflagged) = one_passed u before earlier (methods_kept u before earlier all) m there unflagged

-- ---- one method after the other

pub none_checked : (p : Program) (tags : List Tags) (owning outs : List Bool) (reads : List (List Colour)) → outs ≡ replicate (length p.fields) false → reads ≡ [] → AreMethodsChecked p tags owning 0 outs reads
none_checked p tags owning outs reads e f =
    subst (λ (x : List (List Colour)). AreMethodsChecked p tags owning 0 outs x) (sym f) (subst (λ (x : List Bool). AreMethodsChecked p tags owning 0 x []) (sym e) none)

next_of : (p : Program) (tags : List Tags) (owning after : List Bool) (u : ℕ) (all next : List (List Colour)) → AreMethodsChecked p tags owning (suc u) after all → next ≡ all → AreMethodsChecked p tags owning (u + 1) after next
next_of p tags owning after u all next h e =
    let one : u + 1 ≡ suc u = omega arith in
    subst (λ (n : ℕ). AreMethodsChecked p tags owning n after next) (sym one) (subst (λ (x : List (List Colour)). AreMethodsChecked p tags owning (suc u) after x) (sym e) h)

pub next_checked : (p : Program) (tags : List Tags) (owning outs after found : List Bool) (u : ℕ) (reads next : List (List Colour)) (colours its : List Colour) (m : MethodInfo) (t : Tags) → AreMethodsChecked p tags owning u outs reads → slice_get p.methods u ≡ Some m
    → slice_get tags u ≡ Some t → class_flag owning m.class ≡ true → IsMethodChecked p m t.frames outs found its → after ≡ found → colours ≡ its → next ≡ reads ++ colours ∷ [] → AreMethodsChecked p tags owning (u + 1) after next
next_checked p tags owning outs after found u reads next colours its m t all there shapes flagged is e f g =
    next_of p tags owning after u (reads ++ colours ∷ []) next
    (checked u outs after reads colours m t all there shapes flagged (subst (λ (x : List Bool). IsMethodChecked p m t.frames outs x colours) (sym e) (subst (λ (x : List Colour). IsMethodChecked p m t.frames outs found x) (sym f) is))) g

pub next_passed : (p : Program) (tags : List Tags) (owning outs after : List Bool) (u : ℕ) (reads next : List (List Colour)) (colours : List Colour) (m : MethodInfo) → AreMethodsChecked p tags owning u outs reads → slice_get p.methods u ≡ Some m
    → class_flag owning m.class ≡ false → after ≡ outs → colours ≡ [] → next ≡ reads ++ colours ∷ [] → AreMethodsChecked p tags owning (u + 1) after next
next_passed p tags owning outs after u reads next colours m all there unflagged e f g =
    next_of p tags owning after u (reads ++ [] ∷ []) next (subst (λ (x : List Bool). AreMethodsChecked p tags owning (suc u) x (reads ++ [] ∷ [])) (sym e) (passed u outs reads m all there unflagged))
    (g ∙ ap (λ (x : List Colour). reads ++ x ∷ []) f)
