-- The flags of a section are those of its own instructions.
use Rattle.std.proofs.Common.{◌≡◌, ℕ, zero, suc, ◌+◌, ◌<◌, ◌≤◌, ◌≢◌, Bool, true, false, List, [], ◌∷◌, length, Option, Some, None, refl, sym, ap, subst, ◌∙◌, arith, ⊎_elim, get_or-set_same, get_or-set_other, nat_lt, if◌then◌else◌, replicate, slice_get, slice_set, slice_index, slice_index_or}
use Rattle.std.proofs.lemmas.{Bool.{cases_eq, Decides.nat_tests}, List.{length-append, length-set, length-replicate, get_or_append_left, get_or_push}, Option.{slice_get_within, same_Some}}
use Rattle.jvm_types.specs.{ProgramInvariant.IsProgram, declared.{code.{Insn.Insn, Op.Op}, program.{MethodInfo.MethodInfo, Program.Program, Target.Target}}}
use Rattle.laws_programs.proofs.CodeOrder.{methods_laid_out}
use Rattle.code_table.{specs.PcTables.number_at, proofs.NumbersExact.exact}
use Rattle.checked_program.specs.{LockTags.TagShape, Marks.IsOnOwn, TaggedCode.{tagged_by, IsInstructionReached, IsAt}, declared.{section.Spot.TheVariants.{Method, Block}, tag.Tags.Tags}}
use Rattle.guard_analysis.specs.{BlockWalks.{deep_at, is_deep, IsPathInBlock, IsInside, Has, IsExplored}, SectionGrades.entry_depth_at, declared.block_walk.Walk.Walk}
use Rattle.guard_analysis.proofs.{BlockMarks.{entry_parts, stands, inside_own, own_inside, off_this}, CallEdges.with_tags}
use Rattle.mark_reasons.specs.OwnFlags.{reached_at, is_reached, reached_before, flag_set, flagged, AreOwn, OwnOrElsewhere, IsFlagged, IsDepthAnswer, IsOpAnswer, IsBlockAnswer}
use Rattle.mark_reasons.proofs.SearchLaws.{all_same}
use Rattle.jvm_types.specs.declared.code.Op.TheVariants as ops

-- ---- reached instructions

reached_long : (m : MethodInfo) (frames : List (Option TagShape)) (n : ℕ) → length (reached_before m frames n) ≡ n
reached_long m frames zero = refl
reached_long m frames (suc n) = length-append (reached_before m frames n) _ ∙ ap (λ k. k + 1) (reached_long m frames n) ∙ omega arith

reached_is : (m : MethodInfo) (frames : List (Option TagShape)) (n i : ℕ) → i < n → slice_index_or (reached_before m frames n) i false ≡ is_reached m frames i
reached_is m frames zero i l = absurd (omega (arith, l))
reached_is m frames (suc n) i l = ⊎_elim
    (λ (q : i ≡ n). get_or_push (reached_before m frames n) (is_reached m frames n) false i (reached_long m frames n ∙ sym q) ∙ ap (is_reached m frames) (sym q))
    (λ (q : i ≢ n). let low : i < n = omega (arith, l, q) in
    get_or_append_left (reached_before m frames n) _ false i (subst (λ k. i < k) (sym (reached_long m frames n)) low) ∙ reached_is m frames n i low)
    (cases_eq i n)

past_end : (xs : List Bool) (i : ℕ) → length xs ≤ i → slice_index_or xs i false ≡ false
past_end [] i l = refl
past_end (x ∷ xs) zero l = absurd (omega (arith, l))
past_end (x ∷ xs) (suc i) l = past_end xs i (omega (arith, l))

reached_only : (m : MethodInfo) (frames : List (Option TagShape)) (n i : ℕ) → slice_index_or (reached_before m frames n) i false ≡ true → is_reached m frames i ≡ true
reached_only m frames n i e = by_test (nat_lt i n) refl
  where
    by_test : (b : Bool) → nat_lt i n ≡ b → is_reached m frames i ≡ true
    by_test true t = let low : i < n = grind (arith, nat_tests) in sym (reached_is m frames n i low) ∙ e
    by_test false t = absurd (let high : n ≤ i = grind (arith, nat_tests) in let bad : false ≡ true = sym (past_end (reached_before m frames n) i (omega (arith, high, reached_long m frames n))) ∙ e in cc)

pub reached_parts : (oi : Option Insn) (ot : Option Target) (of : Option (Option TagShape)) → reached_at oi ot of ≡ true → (insn : Insn) × (target : Target) × (f : TagShape) × (oi ≡ Some insn) × (ot ≡ Some target) × (of ≡ Some (Some f))
reached_parts (Some insn) (Some target) (Some (Some f)) e = (insn, target, f, refl, refl, refl)
reached_parts (Some insn) (Some target) (Some None) e = absurd (let bad : false ≡ true = e in cc)
reached_parts (Some insn) (Some target) None e = absurd (let bad : false ≡ true = e in cc)
reached_parts (Some insn) None of e = absurd (let bad : false ≡ true = e in cc)
reached_parts None ot of e = absurd (let bad : false ≡ true = e in cc)

-- ---- numbers as flags

set_long : (flags : List Bool) (i : ℕ) → length (flag_set flags i) ≡ length flags
set_long flags i = by_test (nat_lt i (length flags))
  where
    by_test : (b : Bool) → length (if b then slice_set flags i true else flags) ≡ length flags
    by_test true = length-set flags i true
    by_test false = refl

flagged_long : (own : List ℕ) (len k : ℕ) → length (flagged own len k) ≡ len
flagged_long own len zero = length-replicate len false
flagged_long own len (suc k) = set_long (flagged own len k) (slice_index own k) ∙ flagged_long own len k

set_only : (flags : List Bool) (x i : ℕ) → slice_index_or (flag_set flags x) i false ≡ true → i ≢ x → slice_index_or flags i false ≡ true
set_only flags x i e q = by_test (nat_lt x (length flags)) e
  where
    by_test : (b : Bool) → slice_index_or (if b then slice_set flags x true else flags) i false ≡ true → slice_index_or flags i false ≡ true
    by_test true k = rw get_or-set_other at k
    by_test false k = k

set_here : (flags : List Bool) (x : ℕ) → x < length flags → slice_index_or (flag_set flags x) x false ≡ true
set_here flags x l = let test : nat_lt x (length flags) ≡ true = grind (arith, nat_tests) in rw test (rw get_or-set_same refl)

set_kept : (flags : List Bool) (x i : ℕ) → slice_index_or flags i false ≡ true → i ≢ x → slice_index_or (flag_set flags x) i false ≡ true
set_kept flags x i e q = by_test (nat_lt x (length flags))
  where
    by_test : (b : Bool) → slice_index_or (if b then slice_set flags x true else flags) i false ≡ true
    by_test true = rw get_or-set_other e
    by_test false = e

flagged_only : (own : List ℕ) (len k i : ℕ) → k ≤ length own → slice_index_or (flagged own len k) i false ≡ true → Has own i
flagged_only own len zero i l e = absurd (let none : slice_index_or (replicate len false) i false ≡ false = all_same false len i in let bad : false ≡ true = sym none ∙ e in cc)
flagged_only own len (suc k) i l e = ⊎_elim (λ (q : i ≡ slice_index own k). (k, omega (arith, l), sym q))
    (λ (q : i ≢ slice_index own k). flagged_only own len k i (omega (arith, l)) (set_only (flagged own len k) (slice_index own k) i e q)) (cases_eq i (slice_index own k))

flagged_all : (own : List ℕ) (len k i t : ℕ) → t < k → slice_index own t ≡ i → i < len → slice_index_or (flagged own len k) i false ≡ true
flagged_all own len zero i t l e low = absurd (omega (arith, l))
flagged_all own len (suc k) i t l e low = ⊎_elim
    (λ (q : i ≡ slice_index own k). subst (λ x. slice_index_or (flag_set (flagged own len k) (slice_index own k)) x false ≡ true) (sym q) (set_here (flagged own len k) (slice_index own k) (omega (arith, low, q, flagged_long own len k))))
    (λ (q : i ≢ slice_index own k). set_kept (flagged own len k) (slice_index own k) i (flagged_all own len k i t (let other : t ≢ k = (λ (z : t ≡ k). q (sym e ∙ ap (λ x. slice_index own x) z)) in omega (arith, l, other)) e low) q) (cases_eq i (slice_index own k))

-- ---- a block

module _ (m : MethodInfo) (frames : List (Option TagShape)) (depth stamp enter : ℕ) where
  last_deep : (i : ℕ) (ks : List ℕ) (j : ℕ) → IsPathInBlock m frames depth i ks j → is_deep m frames depth j ≡ true
  last_deep i [] j s = subst (λ k. is_deep m frames depth k ≡ true) s.0 s.1
  last_deep i (k ∷ ks) j s = last_deep k ks j s.2

  deep_inside : (j : ℕ) (o : Option Insn) → slice_get m.code j ≡ o → deep_at depth o (slice_get m.targets j) (slice_get frames j) ≡ true → j < length m.code
  deep_inside j (Some insn) q k = slice_get_within m.code j insn q
  deep_inside j None q k = absurd (let bad : false ≡ true = k in cc)

  pub explored_flags : (w : Walk) (own : List ℕ) (len : ℕ) (flags : List Bool) → IsExplored m frames depth stamp enter w → own ≡ w.own → len ≡ length m.code → flags ≡ flagged own len (length own) → IsFlagged m frames depth enter flags
  explored_flags w own len flags h same long e = subst (IsFlagged m frames depth enter) (sym (e ∙ ap (λ xs. flagged xs len (length xs)) same ∙ ap (λ n. flagged w.own n (length w.own)) long))
      (record {
        only = λ i k. let r = flagged_only w.own (length m.code) (length w.own) i (omega arith) k in subst (IsInside m frames depth enter) r.2 (h.own r.0 r.1);
        all = λ i s. let r = h.all i s in flagged_all w.own (length m.code) (length w.own) i r.0 r.1 r.2 (deep_inside i (slice_get m.code i) refl (last_deep s.first s.over i s.stays));
      })

-- ---- a section

module _ (p : Program) (tags : List Tags) (is : IsProgram p) (mi : ℕ) (m : MethodInfo) (t : Tags) (at_m : slice_get p.methods mi ≡ Some m) (at_t : slice_get tags mi ≡ Some t) where
  -- what stands at an instruction, in the words of the method
  pub code_is : (i : ℕ) (n : MethodInfo) (insn : Insn) (target : Target) (f : TagShape) → IsAt p (tagged_by tags) mi i n insn target f → slice_get m.code i ≡ Some insn
  code_is i n insn target f a = subst (λ (x : MethodInfo). slice_get x.code i ≡ Some insn) (same_Some n m (sym a.in_program ∙ at_m)) a.in_code

  pub target_is : (i : ℕ) (n : MethodInfo) (insn : Insn) (target : Target) (f : TagShape) → IsAt p (tagged_by tags) mi i n insn target f → slice_get m.targets i ≡ Some target
  target_is i n insn target f a = subst (λ (x : MethodInfo). slice_get x.targets i ≡ Some target) (same_Some n m (sym a.in_program ∙ at_m)) a.names

  pub frame_is : (i : ℕ) (n : MethodInfo) (insn : Insn) (target : Target) (f : TagShape) → IsAt p (tagged_by tags) mi i n insn target f → slice_get t.frames i ≡ Some (Some f)
  frame_is i n insn target f a =
      let has = with_tags p tags is mi a.frames a.of_method in
      let same : t ≡ has.0 = same_Some t has.0 (sym at_t ∙ has.1) in
      subst (λ l. slice_get l i ≡ Some (Some f)) (sym (ap (λ (x : Tags). x.frames) same ∙ has.2)) a.frame

  pub method_own : (flags : List Bool) → flags ≡ reached_before m t.frames (length m.code) → AreOwn p (tagged_by tags) mi Method flags
  method_own flags e = subst (AreOwn p (tagged_by tags) mi Method) (sym e)
      (record {
        only = λ i k.
            let r = reached_parts (slice_get m.code i) (slice_get m.targets i) (slice_get t.frames i) (reached_only m t.frames (length m.code) i k) in
            record { m = m; insn = r.0; target = r.1; f = r.2; at = stands p tags is mi m t at_m at_t i r.0 r.1 r.2 r.3 r.4 r.5 };
        all = λ i r. whole i r;
      })
    where
      whole : (i : ℕ) → IsInstructionReached p (tagged_by tags) mi i → slice_index_or (reached_before m t.frames (length m.code)) i false ≡ true
      whole i r =
          let code : slice_get m.code i ≡ Some r.insn = code_is i r.m r.insn r.target r.f r.at in
          reached_is m t.frames (length m.code) i (slice_get_within m.code i r.insn code)
          ∙ (let target : slice_get m.targets i ≡ Some r.target = target_is i r.m r.insn r.target r.f r.at in let frame : slice_get t.frames i ≡ Some (Some r.f) = frame_is i r.m r.insn r.target r.f r.at in rw (code, target, frame) refl)

  -- a block on this begins at the instruction of its pc
  on_number : (pc : ℕ) → (on : IsOnOwn p (tagged_by tags) mi (Block pc)) → number_at m.code pc ≡ Some on.0
  on_number pc on = (exact m pc on.0 (methods_laid_out p mi m is at_m)).1 (rw (code_is on.0 on.2.m on.2.insn on.2.target on.1 on.2.at) on.2.pc_is)

  pub no_number : (pc : ℕ) → number_at m.code pc ≡ None → IsOnOwn p (tagged_by tags) mi (Block pc) → ⊥
  no_number pc e on = let bad : None ≡ Some on.0 = sym e ∙ on_number pc on in cc

  module _ (pc enter : ℕ) (at_pc : number_at m.code pc ≡ Some enter) where
    on_insn : (on : IsOnOwn p (tagged_by tags) mi (Block pc)) → slice_get m.code enter ≡ Some on.2.insn
    on_insn on = let same : enter ≡ on.0 = same_Some enter on.0 (sym at_pc ∙ on_number pc on) in ap (λ i. slice_get m.code i) same ∙ code_is on.0 on.2.m on.2.insn on.2.target on.1 on.2.at

    not_enter : (insn : Insn) → slice_get m.code enter ≡ Some insn → (insn.op ≡ ops.Monitorenter → ⊥) → IsOnOwn p (tagged_by tags) mi (Block pc) → ⊥
    not_enter insn e other on = other (ap (λ (x : Insn). x.op) (same_Some insn on.2.insn (sym e ∙ on_insn on)) ∙ on.2.enters)

    entered : (insn : Insn) → slice_get m.code enter ≡ Some insn → insn.pc ≡ pc → insn.op ≡ ops.Monitorenter → (o : Option ℕ) (found : Option (List Bool)) → entry_depth_at m t.frames enter ≡ o → IsDepthAnswer m t.frames enter o found → OwnOrElsewhere p (tagged_by tags) mi (Block pc) found
    entered insn e pc_is op None found d h = subst (OwnOrElsewhere p (tagged_by tags) mi (Block pc)) (sym h) (subst (λ x. IsOnOwn p (tagged_by tags) mi (Block x) → ⊥) pc_is (off_this p tags is mi m t at_m at_t enter insn e op d))
    entered insn e pc_is op (Some depth) None d h = absurd h
    entered insn e pc_is op (Some depth) (Some flags) d h = subst (λ x. AreOwn p (tagged_by tags) mi (Block x) flags) pc_is
        (let x = entry_parts (slice_get m.code enter) (slice_get m.targets enter) (slice_get t.frames enter) depth d in
        let same : x.0 ≡ insn = same_Some x.0 insn (sym x.3 ∙ e) in
        let at : IsAt p (tagged_by tags) mi enter m insn x.1 x.2 = stands p tags is mi m t at_m at_t enter insn x.1 x.2 e x.4 x.5 in
        record {
          only = λ i k. inside_own p tags is mi m t at_m at_t enter insn e op depth x.1 x.2 at x.6 x.7 i (h.only i k);
          all = λ i o. h.all i (own_inside p tags is mi m t at_m at_t enter insn e op depth x.1 x.2 at x.6 x.7 i o);
        })

    by_op : (insn : Insn) (op : Op) (found : Option (List Bool)) → slice_get m.code enter ≡ Some insn → insn.pc ≡ pc → insn.op ≡ op → IsOpAnswer m t.frames enter op found → OwnOrElsewhere p (tagged_by tags) mi (Block pc) found
    by_op insn ops.Monitorenter found e pc_is q h = entered insn e pc_is q (entry_depth_at m t.frames enter) found refl h
    by_op insn op found e pc_is q h = subst (OwnOrElsewhere p (tagged_by tags) mi (Block pc)) (sym h) (not_enter insn e (λ (k : insn.op ≡ ops.Monitorenter). let bad : op ≡ ops.Monitorenter = sym q ∙ k in cc))

    pub block_answer : (o : Option Insn) (found : Option (List Bool)) → slice_get m.code enter ≡ o → IsBlockAnswer m t.frames enter o found → OwnOrElsewhere p (tagged_by tags) mi (Block pc) found
    block_answer None found e h = subst (OwnOrElsewhere p (tagged_by tags) mi (Block pc)) (sym h) (λ on. let bad : None ≡ Some on.2.insn = sym e ∙ on_insn on in cc)
    block_answer (Some insn) found e h = by_op insn insn.op found e (at_it insn e) refl h
      where
        at_it : (insn : Insn) → slice_get m.code enter ≡ Some insn → insn.pc ≡ pc
        at_it insn e = let r = (exact m pc enter (methods_laid_out p mi m is at_m)).0 at_pc in rw e at r
