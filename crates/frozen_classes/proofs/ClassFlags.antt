-- The flags of classes, from what the methods let out.
use Rattle.std.proofs.Common.{◌≡◌, ◌≢◌, ℕ, zero, suc, ◌-◌, ◌<◌, ◌≤◌, Bool, true, false, not, ◌&&◌, List, [], ◌∷◌, length, replicate, Option, Some, None, refl, sym, ap, subst, ◌∙◌, arith, ⊎_elim, inl, inr, ◌⊎◌, ◌==◌, nat_lt, nat_le, if◌then◌else◌, slice_get, slice_set, slice_index_or}
use Rattle.std.{specs.Option.{option_map, is_some}, proofs.lemmas.Bool.{cases_eq, ltb-true, ltb-false, leb-true, Decides.nat_tests}}
use Rattle.std.proofs.lemmas.List.{length-set, length-replicate, get_or-replicate, get_or-set_same, get_or-set_other, get_or_past}
use Rattle.std.proofs.lemmas.Option.{slice_get_within, slice_get-map, get_or_from_slice_get, same_Some}
use Rattle.jvm_types.specs.{ClassNames.file_class, CodeTable.is_init, ProgramInvariant.IsProgram, declared.program.{MethodInfo.MethodInfo, Program.Program}}
use Rattle.laws_programs.proofs.CodeOrder.{methods_laid_out}
use Rattle.checked_program.specs.{FrozenPlaces.{KeepsInside, IsFrozenClass}, MarkedProgram.AreTaggings, TaggedCode.{Tagged, tagged_by}, declared.tag.Tags.Tags}
use Rattle.frozen_classes.specs.{FrozenClasses.{TellsFrozen, AreFrozenClasses, LetsOut, KeepsIfInit, TellsOut}, KeptThis.{is_method_of, keeps_all, leak_of, class_noted, frozen_upto}}
use Rattle.frozen_classes.proofs.KeptInside.{is_inside, passes_all}

not_le : (a b : ℕ) → nat_le a b ≡ false → b < a
not_le a b = grind (arith, nat_tests)

-- ---- one note

pub noted_long : (flags : List Bool) (o : Option ℕ) → length (class_noted flags o) ≡ length flags
noted_long flags None = refl
noted_long flags (Some c) = by_test (nat_le (file_class 0) c && nat_lt (c - file_class 0) (length flags))
  where
    by_test : (b : Bool) → length (if b then slice_set flags (c - file_class 0) false else flags) ≡ length flags
    by_test true = length-set flags (c - file_class 0) false
    by_test false = refl

stays_noted : (flags : List Bool) (o : Option ℕ) (k : ℕ) → slice_index_or flags k false ≡ false → slice_index_or (class_noted flags o) k false ≡ false
stays_noted flags None k e = e
stays_noted flags (Some c) k e = by_test (nat_le (file_class 0) c) (nat_lt (c - file_class 0) (length flags)) refl
  where
    by_test : (b d : Bool) → nat_lt (c - file_class 0) (length flags) ≡ d → slice_index_or (if b && d then slice_set flags (c - file_class 0) false else flags) k false ≡ false
    by_test true true h = ⊎_elim
        (λ (q : k ≡ c - file_class 0). subst (λ (j : ℕ). slice_index_or (slice_set flags (c - file_class 0) false) j false ≡ false) (sym q) (get_or-set_same flags (c - file_class 0) false false (ltb-true (c - file_class 0) (length flags) h)))
        (λ (q : k ≢ c - file_class 0). get_or-set_other flags (c - file_class 0) k false false q ∙ e) (cases_eq k (c - file_class 0))
    by_test b d h = e

noted_here : (flags : List Bool) (k : ℕ) → slice_index_or (class_noted flags (Some (file_class k))) k false ≡ false
noted_here flags k = by_test (nat_le (file_class 0) (file_class k)) (nat_lt (file_class k - file_class 0) (length flags)) refl refl
  where
    place : file_class k - file_class 0 ≡ k
    place = omega arith

    by_test : (b d : Bool) → nat_le (file_class 0) (file_class k) ≡ b → nat_lt (file_class k - file_class 0) (length flags) ≡ d → slice_index_or (if b && d then slice_set flags (file_class k - file_class 0) false else flags) k false ≡ false
    by_test true true g h = subst (λ (j : ℕ). slice_index_or (slice_set flags j false) k false ≡ false) (sym place) (get_or-set_same flags k false false (subst (λ (j : ℕ). j < length flags) place (ltb-true (file_class k - file_class 0) (length flags) h)))
    by_test true false g h = get_or_past flags k false (subst (λ (j : ℕ). length flags ≤ j) place (ltb-false (file_class k - file_class 0) (length flags) h))
    by_test false d g h = absurd (omega (arith, not_le (file_class 0) (file_class k) g))

noted_by : (flags : List Bool) (o : Option ℕ) (k : ℕ) → slice_index_or (class_noted flags o) k false ≡ false → (slice_index_or flags k false ≡ false) ⊎ (o ≡ Some (file_class k))
noted_by flags None k e = inl e
noted_by flags (Some c) k e = by_test (nat_le (file_class 0) c) (nat_lt (c - file_class 0) (length flags)) refl e
  where
    by_test : (b d : Bool) → nat_le (file_class 0) c ≡ b → slice_index_or (if b && d then slice_set flags (c - file_class 0) false else flags) k false ≡ false → (slice_index_or flags k false ≡ false) ⊎ (Some c ≡ Some (file_class k))
    by_test true true g x = ⊎_elim
        (λ (q : k ≡ c - file_class 0). let low : file_class 0 ≤ c = leb-true (file_class 0) c g in let same : c ≡ file_class k = omega (arith, q, low) in inr (ap Some same))
        (λ (q : k ≢ c - file_class 0). inl (sym (get_or-set_other flags (c - file_class 0) k false false q) ∙ x)) (cases_eq k (c - file_class 0))
    by_test b d g x = inl x

-- ---- the notes of the first methods

module _ (p : Program) (tags : List Tags) where
  upto_long : (n : ℕ) → length (frozen_upto p tags n) ≡ length p.names
  upto_long zero = length-replicate (length p.names) true
  upto_long (suc n) = noted_long (frozen_upto p tags n) (leak_of p (slice_get p.methods n) (slice_get tags n)) ∙ upto_long n

  noted_in : (n u k : ℕ) → u < n → leak_of p (slice_get p.methods u) (slice_get tags u) ≡ Some (file_class k) → slice_index_or (frozen_upto p tags n) k false ≡ false
  noted_in zero u k l e = absurd (omega (arith, l))
  noted_in (suc n) u k l e = ⊎_elim
      (λ (q : u ≡ n). let last : leak_of p (slice_get p.methods n) (slice_get tags n) ≡ Some (file_class k) = subst (λ (j : ℕ). leak_of p (slice_get p.methods j) (slice_get tags j) ≡ Some (file_class k)) q e in
      subst (λ (o : Option ℕ). slice_index_or (class_noted (frozen_upto p tags n) o) k false ≡ false) (sym last) (noted_here (frozen_upto p tags n) k))
      (λ (q : u ≢ n). stays_noted (frozen_upto p tags n) (leak_of p (slice_get p.methods n) (slice_get tags n)) k (noted_in n u k (omega (arith, l, q)) e)) (cases_eq u n)

  some_noted : (n k : ℕ) → k < length p.names → slice_index_or (frozen_upto p tags n) k false ≡ false → (u : ℕ) × (leak_of p (slice_get p.methods u) (slice_get tags u) ≡ Some (file_class k))
  some_noted zero k l e = absurd (let all : slice_index_or (replicate (length p.names) true) k false ≡ true = get_or-replicate (length p.names) k true false l in let bad : true ≡ false = sym all ∙ e in cc)
  some_noted (suc n) k l e = ⊎_elim
      (λ (h : slice_index_or (frozen_upto p tags n) k false ≡ false). some_noted n k l h)
      (λ (h : leak_of p (slice_get p.methods n) (slice_get tags n) ≡ Some (file_class k)). (n, h)) (noted_by (frozen_upto p tags n) (leak_of p (slice_get p.methods n) (slice_get tags n)) k e)

-- ---- one method

pub record Leaks (p : Program) (om : Option MethodInfo) (ot : Option Tags) (c : ℕ) : Type 0 where
  pub m : MethodInfo
  pub t : Tags
  pub is_m : om ≡ Some m
  pub is_t : ot ≡ Some t
  pub class : m.class ≡ c
  pub init : is_init m ≡ true
  pub keeps : keeps_all p m t.frames ≡ false

leak_parts : (p : Program) (om : Option MethodInfo) (ot : Option Tags) (c : ℕ) → leak_of p om ot ≡ Some c → Leaks p om ot c
leak_parts p (Some m) (Some t) c e = by_test (is_init m) (keeps_all p m t.frames) refl refl e
  where
    by_test : (b d : Bool) → is_init m ≡ b → keeps_all p m t.frames ≡ d → (if b && not d then Some m.class else None) ≡ Some c → Leaks p (Some m) (Some t) c
    by_test true false g h x = record { m = m; t = t; is_m = refl; is_t = refl; class = same_Some m.class c x; init = g; keeps = h }
    by_test b d g h x = absurd (cc)
leak_parts p (Some m) None c e = absurd (cc)
leak_parts p None ot c e = absurd (cc)

tags_there : (p : Program) (ms : List MethodInfo) (ts : List Tags) (mi : ℕ) (m : MethodInfo) → AreTaggings p ms ts → slice_get ms mi ≡ Some m → (t : Tags) × (slice_get ts mi ≡ Some t)
tags_there p (n ∷ ms) (t ∷ ts) zero m a e = (t, refl)
tags_there p (n ∷ ms) (t ∷ ts) (suc mi) m a e = tags_there p ms ts mi m a.1 e
tags_there p [] [] mi m a e = absurd (cc)
tags_there p ms ts mi m a e = absurd a

frames_there : (tags : List Tags) (mi : ℕ) (t : Tags) → slice_get tags mi ≡ Some t → slice_get (tagged_by tags) mi ≡ Some t.frames
frames_there tags mi t e = slice_get-map (λ (t : Tags). t.frames) tags mi ∙ ap (option_map (λ (t : Tags). t.frames)) e

-- ---- all classes

module _ (p : Program) (tags : List Tags) (is : IsProgram p) (tagged : AreTaggings p p.methods tags) where
  -- a method keeps `this` inside if it is not told to let it out
  kept_unless : (u : ℕ) (m : MethodInfo) → slice_get p.methods u ≡ Some m → is_init m ≡ true → (leak_of p (slice_get p.methods u) (slice_get tags u) ≡ Some m.class → ⊥) → KeepsInside p (tagged_by tags) u m
  kept_unless u m at init none =
      let has = tags_there p p.methods tags u m tagged at in
      by_test has.0 has.1 (keeps_all p m has.0.frames) refl
    where
      by_test : (t : Tags) → slice_get tags u ≡ Some t → (b : Bool) → keeps_all p m t.frames ≡ b → KeepsInside p (tagged_by tags) u m
      by_test t there true h = is_inside p (tagged_by tags) u m t.frames at (methods_laid_out p u m is at) (frames_there tags u t there) h
      by_test t there false h = absurd (none (rw (at, there, init, h) refl))

  out_by : (u class : ℕ) → leak_of p (slice_get p.methods u) (slice_get tags u) ≡ Some class → LetsOut p (tagged_by tags) class u
  out_by u class e =
      let leak = leak_parts p (slice_get p.methods u) (slice_get tags u) class e in
      record {
        m = leak.m;
        there = leak.is_m;
        class = leak.class;
        init = leak.init;
        lets_out = λ inside.
            let all : keeps_all p leak.m leak.t.frames ≡ true = passes_all p (tagged_by tags) u leak.m leak.t.frames leak.is_m (methods_laid_out p u leak.m is leak.is_m) (frames_there tags u leak.t leak.is_t) inside in
            let bad : true ≡ false = sym all ∙ leak.keeps in
            cc;
      }

  told : (k : ℕ) (b : Bool) → k < length p.names → slice_index_or (frozen_upto p tags (length p.methods)) k false ≡ b → TellsFrozen p (tagged_by tags) (file_class k) b
  told k true low e = λ mi m at class init. kept_unless mi m at init (λ leaks.
      let bad : true ≡ false = sym e ∙ noted_in p tags (length p.methods) mi k (slice_get_within p.methods mi m at) (leaks ∙ ap Some class) in
      cc)
  told k false low e = λ frozen.
      let some = some_noted p tags (length p.methods) k low e in
      let out = out_by some.0 (file_class k) some.1 in
      out.lets_out (frozen some.0 out.m out.there out.class out.init)

  are_frozen : AreFrozenClasses p (tagged_by tags) (frozen_upto p tags (length p.methods))
  are_frozen = record {
    long = upto_long p tags (length p.methods);
    each = λ k b e. told k b (subst (λ (n : ℕ). k < n) (upto_long p tags (length p.methods)) (slice_get_within (frozen_upto p tags (length p.methods)) k b e)) (get_or_from_slice_get (frozen_upto p tags (length p.methods)) k b false e);
  }

  -- where the flags are told by an equation
  pub frozen_shown : (flags : List Bool) (n : ℕ) → n ≡ length p.methods → flags ≡ frozen_upto p tags n → AreFrozenClasses p (tagged_by tags) flags
  frozen_shown flags n e f = subst (λ (l : List Bool). AreFrozenClasses p (tagged_by tags) l) (sym (f ∙ ap (frozen_upto p tags) e)) are_frozen

  -- a method of the class is tested
  pub told_out : (c u : ℕ) (leak : Option ℕ) → is_method_of c (slice_get p.methods u) ≡ true → leak ≡ leak_of p (slice_get p.methods u) (slice_get tags u) → TellsOut p (tagged_by tags) c u (is_some leak)
  told_out c u None same e = λ m at class init. kept_unless u m at init (λ leaks. let bad : None ≡ Some m.class = e ∙ leaks in cc)
  told_out c u (Some class) same e =
      let out = out_by u class (sym e) in
      let test : (out.m.class == c) ≡ true = ap (is_method_of c) (sym out.there) ∙ same in
      let known : out.m.class ≡ c = grind (arith, nat_tests) in
      subst (λ (x : ℕ). LetsOut p (tagged_by tags) x u) (sym out.class ∙ known) out

-- none of all methods lets its object out
pub all_kept : (p : Program) (tags : Tagged) (c n : ℕ) → length p.methods ≤ n → ((u : ℕ) → u < n → KeepsIfInit p tags c u) → IsFrozenClass p tags c
all_kept p tags c n e h mi m at class init = h mi (let low : mi < length p.methods = slice_get_within p.methods mi m at in omega (arith, low, e)) m at class init
