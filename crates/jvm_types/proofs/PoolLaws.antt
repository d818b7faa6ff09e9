-- The constant pool that is read is spelled so and keeps its rules, and what is spelled so is read again.
use Rattle.std.proofs.Common.{◌≡◌, ℕ, zero, suc, ◌-◌, ◌^◌, ◌<◌, Bool, true, false, List, [], ◌∷◌, ◌++◌, length, Ok, refl, sym, ap, subst, ◌∙◌, append_assoc, arith, inl, inr, ◌&&◌, ◌==◌, ◌⊎◌, not}
use Rattle.std.{specs.List.{flat_map, AllByRecursion}, proofs.lemmas.Bool.{not-true, ne_eqb}}
use Rattle.jvm_types.specs.{ClassGrammar.{Names, is_wide, is_gap, GapsFit, FieldsFit, IndicesFit, IsPool}, Numbers.u2}
use Rattle.jvm_types.specs.{ReadingPool.{names, entries_at, both_wanted, entry_wanted, entries_wanted, pool_at}, ReadingSteps.fault_unless, Spelling.{counted, constant}}
use Rattle.jvm_types.specs.declared.{class_file.Constant.{Constant, TheVariants.{Gap, Class, Text, Field, Method, InterfaceMethod, NameAndType}}, index_kind.IndexKind.IndexKind}
use Rattle.jvm_types.{specs.declared.refusal.CRule.TheVariants.C5, proofs.{ConstantLaws.constant_reads, IndexLaws.{Names-from_test, test_from_Names}}}
use Rattle.jvm_types.proofs.StepLaws.{IsBytes, Finds, on_bind, weaker, on_wanted, Took, Reads, on_step, u2_reads, u2_again}
use Rattle.jvm_types.specs.declared.index_kind.IndexKind.TheVariants as kinds

-- ---- entries

-- gaps as they are due, whatever comes behind the last entry
abbrev GapsSoFar : Bool → List Constant → Type 0
GapsSoFar due [] = Unit {0}
GapsSoFar due (c ∷ cs) = (is_gap c ≡ due) × GapsSoFar (is_wide c) cs

record AreEntries (n : ℕ) (due : Bool) (cs : List Constant) : Type 0 where
  count : length cs ≡ n
  gaps : GapsSoFar due cs
  fields : AllByRecursion FieldsFit cs

entries_take : (n : ℕ) (due : Bool) (bytes : List ℕ) → IsBytes bytes → Finds (entries_at n due bytes) (Took (flat_map constant) (AreEntries n due) bytes)
unfolding entries_at
entries_take zero due bytes fits = record { ok = record { parts = refl; fits = record { count = refl; gaps = tt; fields = tt }; rest = fits } }
entries_take (suc n) true bytes fits =
    on_bind _ _ _ _ (entries_take n false bytes fits) λ others b.
    record { ok = record { parts = b.parts; fits = record { count = ap suc b.fits.count; gaps = (refl, b.fits.gaps); fields = (tt, b.fits.fields) }; rest = b.rest } }
entries_take (suc n) false bytes fits =
    on_step constant_reads bytes fits _ _ λ first a.
    on_bind _ _ _ _ (entries_take n (is_wide first.0) first.1 a.rest) λ others b.
    record {
      ok = record {
        parts = a.parts ∙ ap (λ (x : List ℕ). constant first.0 ++ x) b.parts ∙ sym (append_assoc (constant first.0) (flat_map constant others.0) others.1);
        fits = record { count = ap suc b.fits.count; gaps = (a.fits.entry, b.fits.gaps); fields = (a.fits.fields, b.fits.fields) };
        rest = b.rest;
      };
    }

pub gap_is : (c : Constant) → is_gap c ≡ true → c ≡ Gap
gap_is Gap e = refl
gap_is c e = absurd cc

entries_again : (cs : List Constant) (due : Bool) (rest : List ℕ) → GapsFit due cs → AllByRecursion FieldsFit cs → entries_at (length cs) due (flat_map constant cs ++ rest) ≡ Ok (cs, rest)
unfolding entries_at
entries_again [] due rest gaps fields = refl
entries_again (c ∷ cs) true rest gaps fields =
    let gap = gap_is c gaps.0 in
    let others = entries_again cs false rest (subst (λ (d : Constant). GapsFit (is_wide d) cs) gap gaps.1) fields.1 in
    subst (λ (d : Constant). entries_at (suc (length cs)) true ((constant d ++ flat_map constant cs) ++ rest) ≡ Ok (d ∷ cs, rest)) (sym gap) (rw others)
entries_again (c ∷ cs) false rest gaps fields =
    rw (append_assoc (constant c) (flat_map constant cs) rest, constant_reads.again c (flat_map constant cs ++ rest) (record { fields = fields.0; entry = gaps.0 }), entries_again cs (is_wide c) rest gaps.1 fields.1)

-- ---- their indices

last_wanted : {P : Type 0} (b : Bool) (left : ℕ) → (b ≡ true → P) → Finds (fault_unless b C5 left) (λ ok. P)
last_wanted true left h = record { ok = h refl }
last_wanted false left h = record { ok = tt }

both_hold : (kind other : IndexKind) (pool : List Constant) (i j left : ℕ) → Finds (both_wanted kind other pool i j left) (λ ok. Names kind pool i × Names other pool j)
unfolding both_wanted
both_hold kind other pool i j left =
    on_wanted (names kind pool i) C5 (left - 1) _ _ λ a.
    last_wanted (names other pool j) (left - 3) (λ b. (Names-from_test kind pool i a, Names-from_test other pool j b))

both_stand : (kind other : IndexKind) (pool : List Constant) (i j left : ℕ) → Names kind pool i → Names other pool j → both_wanted kind other pool i j left ≡ Ok tt
unfolding both_wanted
both_stand kind other pool i j left h k = rw (test_from_Names kind pool i h, test_from_Names other pool j k)

record StandsWell (pool : List Constant) (c : Constant) (last : Bool) : Type 0 where
  indices : IndicesFit pool c
  inside : (is_wide c && last) ≡ false

well : (pool : List Constant) (c : Constant) (last : Bool) → IndicesFit pool c → (is_wide c && last) ≡ false → StandsWell pool c last
well pool c last indices inside = record { indices = indices; inside = inside }

entry_holds : (pool : List Constant) (c : Constant) (last : Bool) (left : ℕ) → Finds (entry_wanted pool c last left) (λ ok. StandsWell pool c last)
unfolding entry_wanted
entry_holds pool (Class name) last left = last_wanted (names kinds.Utf8 pool name) (left - 1) λ e. well pool (Class name) last (Names-from_test kinds.Utf8 pool name e) refl
entry_holds pool (Text string) last left = last_wanted (names kinds.Utf8 pool string) (left - 1) λ e. well pool (Text string) last (Names-from_test kinds.Utf8 pool string e) refl
entry_holds pool (Field m n) last left = weaker (λ ok. StandsWell pool (Field m n) last) (both_hold kinds.Class kinds.NameAndType pool m n left) λ ok h. well pool (Field m n) last h refl
entry_holds pool (Method m n) last left = weaker (λ ok. StandsWell pool (Method m n) last) (both_hold kinds.Class kinds.NameAndType pool m n left) λ ok h. well pool (Method m n) last h refl
entry_holds pool (InterfaceMethod m n) last left = weaker (λ ok. StandsWell pool (InterfaceMethod m n) last) (both_hold kinds.Class kinds.NameAndType pool m n left) λ ok h. well pool (InterfaceMethod m n) last h refl
entry_holds pool (NameAndType m n) last left = weaker (λ ok. StandsWell pool (NameAndType m n) last) (both_hold kinds.Utf8 kinds.Utf8 pool m n left) λ ok h. well pool (NameAndType m n) last h refl
entry_holds pool c last left = last_wanted (not (is_wide c && last)) left λ e. well pool c last tt (not-true (is_wide c && last) e)

entry_stands : (pool : List Constant) (c : Constant) (last : Bool) (left : ℕ) → IndicesFit pool c → (is_wide c && last) ≡ false → entry_wanted pool c last left ≡ Ok tt
unfolding entry_wanted
entry_stands pool (Class name) last left h e = ap (λ (b : Bool). fault_unless b C5 (left - 1)) (test_from_Names kinds.Utf8 pool name h)
entry_stands pool (Text string) last left h e = ap (λ (b : Bool). fault_unless b C5 (left - 1)) (test_from_Names kinds.Utf8 pool string h)
entry_stands pool (Field m n) last left h e = both_stand kinds.Class kinds.NameAndType pool m n left h.0 h.1
entry_stands pool (Method m n) last left h e = both_stand kinds.Class kinds.NameAndType pool m n left h.0 h.1
entry_stands pool (InterfaceMethod m n) last left h e = both_stand kinds.Class kinds.NameAndType pool m n left h.0 h.1
entry_stands pool (NameAndType m n) last left h e = both_stand kinds.Utf8 kinds.Utf8 pool m n left h.0 h.1
entry_stands pool c last left h e = ap (λ (b : Bool). fault_unless (not b) C5 left) e

-- no Long or Double at the end
abbrev EndFits : List Constant → Type 0
EndFits [] = Unit {0}
EndFits (c ∷ []) = is_wide c ≡ false
EndFits (c ∷ d ∷ cs) = EndFits (d ∷ cs)

record StandAll (pool cs : List Constant) : Type 0 where
  indices : AllByRecursion (IndicesFit pool) cs
  ends : EndFits cs

at_end : (b : Bool) → (b && true) ≡ false → b ≡ false
at_end true e = e
at_end false e = e

entries_hold : (pool cs : List Constant) (left : ℕ) → Finds (entries_wanted pool cs left) (λ ok. StandAll pool cs)
unfolding entries_wanted
entries_hold pool [] left = record { ok = record { indices = tt; ends = tt } }
entries_hold pool (c ∷ []) left =
    on_bind _ _ _ _ (entry_holds pool c true left) λ ok h.
    record { ok = record { indices = (h.indices, tt); ends = at_end (is_wide c) h.inside } }
entries_hold pool (c ∷ d ∷ cs) left =
    on_bind _ _ _ _ (entry_holds pool c (length (d ∷ cs) == 0) left) λ ok h.
    weaker (λ ok. StandAll pool (c ∷ d ∷ cs)) (entries_hold pool (d ∷ cs) (left - length (constant c))) λ ok all.
    record { indices = (h.indices, all.indices); ends = all.ends }

not_last : (b : Bool) (n : ℕ) → (b && (suc n == 0)) ≡ false
not_last true n = ne_eqb (suc n) 0 λ e. omega arith
not_last false n = refl

entries_stand : (pool cs : List Constant) (due : Bool) (left : ℕ) → GapsFit due cs → AllByRecursion (IndicesFit pool) cs → entries_wanted pool cs left ≡ Ok tt
unfolding entries_wanted
entries_stand pool [] due left gaps indices = refl
entries_stand pool (c ∷ []) due left gaps indices = rw (entry_stands pool c true left indices.0 (ap (λ (b : Bool). b && true) gaps.1))
entries_stand pool (c ∷ d ∷ cs) due left gaps indices =
    rw (entry_stands pool c (length (d ∷ cs) == 0) left indices.0 (not_last (is_wide c) (length cs))) (entries_stand pool (d ∷ cs) (is_wide c) (left - length (constant c)) gaps.1 indices.1)

gaps_fit : (c : Constant) (cs : List Constant) (due : Bool) → GapsSoFar due (c ∷ cs) → EndFits (c ∷ cs) → GapsFit due (c ∷ cs)
gaps_fit c [] due gaps ends = (gaps.0, ends)
gaps_fit c (d ∷ cs) due gaps ends = (gaps.0, gaps_fit d cs (is_wide c) gaps.1 ends)

-- ---- the pool

-- what is read as a pool; a count of 0 gives no entry at all, not even index 0
abbrev pub IsPoolOrNone : List Constant → Type 0
IsPoolOrNone pool = (pool ≡ []) ⊎ IsPool pool

is_pool : (pool : List Constant) → length pool < 2 ^ 16 → GapsSoFar true pool → AllByRecursion FieldsFit pool → StandAll pool pool → IsPoolOrNone pool
is_pool [] count gaps fields stand = inl refl
is_pool (c ∷ cs) count gaps fields stand = inr (record { count = count; gaps = gaps_fit c cs true gaps stand.ends; fields = fields; indices = stand.indices })

pool_takes : (bytes : List ℕ) → IsBytes bytes → Finds (pool_at bytes) (Took (counted constant) IsPoolOrNone bytes)
unfolding pool_at
pool_takes bytes fits =
    on_step u2_reads bytes fits _ _ λ n a.
    on_bind _ _ _ _ (entries_take n.0 true n.1 a.rest) λ pool b.
    on_bind _ _ _ _ (entries_hold pool.0 pool.0 (length n.1)) λ ok stand.
    record {
      ok = record {
        parts = a.parts ∙ ap (λ (x : List ℕ). u2 n.0 ++ x) b.parts ∙ ap (λ (k : ℕ). u2 k ++ (flat_map constant pool.0 ++ pool.1)) (sym b.fits.count);
        fits = is_pool pool.0 (rw b.fits.count a.fits) b.fits.gaps b.fits.fields stand;
        rest = b.rest;
      };
    }

pool_again : (pool : List Constant) (rest : List ℕ) → IsPoolOrNone pool → pool_at (counted constant pool ++ rest) ≡ Ok (pool, rest)
unfolding pool_at entries_at entries_wanted
pool_again pool rest (inl none) = rw none (rw (u2_again 0 rest))
pool_again pool rest (inr is) =
    rw (u2_again (length pool) (flat_map constant pool ++ rest), entries_again pool true rest is.gaps is.fields, entries_stand pool pool true (length (flat_map constant pool ++ rest)) is.gaps is.indices)

pub pool_reads : Reads (counted constant) IsPoolOrNone pool_at
pool_reads = record { takes = pool_takes; again = pool_again }
