-- The grade of an instruction is the first rule by which it forbids a section of its method, which runs that so.
use Rattle.std.proofs.Common.{◌≡◌, ℕ, zero, suc, ◌+◌, ◌*◌, ◌<◌, ◌≤◌, Bool, true, false, List, length, Option, Some, None, refl, sym, ap, subst, ◌∙◌, arith, if◌then◌else◌, slice_get, slice_index_or}
use Rattle.std.proofs.lemmas.Option.{same_Some}
use Rattle.jvm_types.specs.{ProgramInvariant.IsProgram, declared.{code.Op.Op, program.{MethodInfo.MethodInfo, Program.Program, Target.Target}}}
use Rattle.checked_program.specs.{LockTags.TagShape, Marks.{element_fault, Callee, callee, Calls, BreaksAt, section_fault, enter_fault, call_fault, use_fault, receiver_tag, called_mode, called_method}}
use Rattle.checked_program.specs.{OwnedArrays.reads_owned, TaggedCode.{Tagged, tagged_by}, declared.section.{FieldUse.{FieldUse, TheVariants.{Frozen, Guarded, Open}}, Mode.{Mode, TheVariants.{OnThis, OffThis, OnClass}}, Uses.Uses}}
use Rattle.checked_program.specs.declared.tag.{Tag.Tag, Tags.Tags}
use Rattle.guard_analysis.specs.{CallGraph.{mode_number, node_of, call_at, call_node}, Faults.{fault_at, grade_of, grade_at, grades_before, IsModeFor, AreCallees, LeadsToBreak, LeadsToItself}}
use Rattle.guard_analysis.{specs.SectionGrades.{Forbids, breaks, calls, recurs, IsGrade, AreGrades}, proofs.CallEdges.{with_tags, frames_there, called_inside, call_parts, node_parts, node_there}}
use Rattle.guard_analysis.proofs.{CalleesFound.{breaks_one, same_callee, fits_called}, ListsMade.{made_long, made_at}}
use Rattle.jvm_types.specs.declared.code.Op.TheVariants as ops
use Rattle.jvm_types.specs.declared.program.Target.TheVariants as targets

-- ---- no instruction breaks a rule beyond M5

enter_low : (b : Bool) → enter_fault b ≤ 5
enter_low true = omega arith
enter_low false = omega arith

call_low : (b own : Bool) → call_fault b own ≤ 5
call_low true own = enter_low own
call_low false own = omega arith

read_low : (u : FieldUse) (own : Bool) → use_fault u own ≤ 5
read_low Frozen own = omega arith
read_low Guarded true = omega arith
read_low Guarded false = omega arith
read_low Open own = omega arith

element_low : (mode : Mode) (owned : Bool) → element_fault mode owned ≤ 5
element_low OnThis true = omega arith
element_low OnThis false = omega arith
element_low OffThis owned = omega arith
element_low (OnClass class) owned = omega arith

pub fault_low : (p : Program) (uses : List FieldUse) (mode : Mode) (op : Op) (target : Target) (stack : List Tag) (owned : Bool) → section_fault p uses mode op target stack owned ≤ 5
fault_low p uses mode ops.Monitorenter target stack owned = enter_low _
fault_low p uses mode (ops.Invokevirtual i) (targets.Method u) stack owned = call_low _ _
fault_low p uses mode (ops.Invokespecial i) (targets.Method u) stack owned = call_low _ _
fault_low p uses mode (ops.Invokestatic i) (targets.Method u) stack owned = call_low _ _
fault_low p uses mode (ops.Getfield i) (targets.Field fi) stack owned = read_low _ _
fault_low p uses mode (ops.Getstatic i) (targets.Field fi) stack owned = read_low _ _
fault_low p uses mode ops.Iaload target stack owned = element_low mode owned
fault_low p uses mode op target stack owned = omega arith

pub forbids_low : (p : Program) (tags : Tagged) (uses : Uses) (mode : Mode) (mi i k : ℕ) → Forbids p tags uses mode mi i k → (0 < k) × (k ≤ 7)
forbids_low p tags uses mode mi i k (breaks n b) = let low : n ≤ 5 = subst (λ x. x ≤ 5) b.fault_is (fault_low p uses.fields mode b.insn.op b.target b.f.stack (reads_owned uses mi i)) in (b.some, omega (arith, low))
forbids_low p tags uses mode mi i k e = (omega arith, omega arith)

-- ---- of a method with its frames

module _ (p : Program) (uses : Uses) (tags : List Tags) (is : IsProgram p) (mi : ℕ) (m : MethodInfo) (t : Tags) (at_m : slice_get p.methods mi ≡ Some m) (at_t : slice_get tags mi ≡ Some t) where
  -- what its instruction breaks and calls, where the method is called so
  abbrev pub fault_in : Mode → ℕ → ℕ
  fault_in mode i = fault_at p uses mi i mode (slice_get m.code i) (slice_get m.targets i) (slice_get t.frames i)

  abbrev pub call_in : Mode → ℕ → Option ℕ
  call_in mode i = call_at p mode (slice_get m.code i) (slice_get m.targets i) (slice_get t.frames i)

  frame_is : (i : ℕ) (frames : List (Option TagShape)) (f : TagShape) → slice_get (tagged_by tags) mi ≡ Some frames → slice_get frames i ≡ Some (Some f) → slice_get t.frames i ≡ Some (Some f)
  frame_is i frames f e g =
      let has = with_tags p tags is mi frames e in
      let same : t ≡ has.0 = same_Some t has.0 (sym at_t ∙ has.1) in
      subst (λ l. slice_get l i ≡ Some (Some f)) (sym (ap (λ (x : Tags). x.frames) same ∙ has.2)) g

  method_is : (n : MethodInfo) → slice_get p.methods mi ≡ Some n → n ≡ m
  method_is n e = same_Some n m (sym e ∙ at_m)

  pub fault_known : (mode : Mode) (i n : ℕ) → BreaksAt p (tagged_by tags) uses (callee mi mode) i n → fault_in mode i ≡ n
  fault_known mode i n k =
      let code : slice_get m.code i ≡ Some k.insn = subst (λ (x : MethodInfo). slice_get x.code i ≡ Some k.insn) (method_is k.m k.at.in_program) k.at.in_code in
      let target : slice_get m.targets i ≡ Some k.target = subst (λ (x : MethodInfo). slice_get x.targets i ≡ Some k.target) (method_is k.m k.at.in_program) k.at.names in
      let frame : slice_get t.frames i ≡ Some (Some k.f) = frame_is i k.at.frames k.f k.at.of_method k.at.frame in
      rw (code, target, frame) k.fault_is

  pub call_known : (mode : Mode) (i : ℕ) (b : Callee) → Calls p (tagged_by tags) (callee mi mode) i b → call_in mode i ≡ Some (node_of b)
  call_known mode i b k =
      let code : slice_get m.code i ≡ Some k.insn = subst (λ (x : MethodInfo). slice_get x.code i ≡ Some k.insn) (method_is k.m k.at.in_program) k.at.in_code in
      let target : slice_get m.targets i ≡ Some k.target = subst (λ (x : MethodInfo). slice_get x.targets i ≡ Some k.target) (method_is k.m k.at.in_program) k.at.names in
      let frame : slice_get t.frames i ≡ Some (Some k.f) = frame_is i k.at.frames k.f k.at.of_method k.at.frame in
      let node : call_node p mode k.insn.op k.target k.f.stack ≡ Some (node_of b) =
      node_there (length p.methods) b.method (called_method k.insn.op k.target) (called_mode mode (receiver_tag p k.insn.op k.target k.f.stack)) k.called (called_inside p (tagged_by tags) is (callee mi mode) b i k)
      ∙ ap (λ (x : Mode). Some (3 * b.method + mode_number x)) (sym k.mode_is) in
      rw (code, target, frame) node

  pub call_found : (mode : Mode) (i y : ℕ) → call_in mode i ≡ Some y → (b : Callee) × (node_of b ≡ y) × (b.method < length p.methods) × Calls p (tagged_by tags) (callee mi mode) i b
  call_found mode i y e =
      let parts = call_parts p mode (slice_get m.code i) (slice_get m.targets i) (slice_get t.frames i) y e in
      let to : Mode = called_mode mode (receiver_tag p parts.insn.op parts.target parts.f.stack) in
      let named = node_parts (length p.methods) (called_method parts.insn.op parts.target) to y parts.call in (
        callee named.0 to,
        named.3,
        named.2,
        record {
          m = m;
          insn = parts.insn;
          target = parts.target;
          f = parts.f;
          at = record { in_program = at_m; in_code = parts.is_insn; names = parts.is_target; frames = t.frames; of_method = frames_there p tags is mi t at_t; frame = parts.is_frame };
          called = named.1;
          mode_is = refl;
        },
      )

  -- of a section that runs it so, where sections on a class are on this one
  module _ (class : ℕ) (mode : Mode) (fits : IsModeFor class mode) (broken again : List Bool) (are : AreCallees p (tagged_by tags) uses class broken again) where
    abbrev run_so : Callee
    run_so = callee mi mode

    abbrev own_fault : ℕ → ℕ
    own_fault i = fault_in mode i

    abbrev own_call : ℕ → Option ℕ
    own_call i = call_in mode i

    abbrev Grade : ℕ → ℕ → Type 0
    Grade i n = IsGrade p (tagged_by tags) uses mode mi i n

    -- where the instruction breaks a rule by itself
    by_fault : (i n : ℕ) → own_fault i ≡ suc n → Grade i (suc n)
    by_fault i n e = record {
      forbids = λ h. breaks (suc n) (subst (λ x. BreaksAt p (tagged_by tags) uses run_so i x) e (breaks_one p uses tags is run_so m t i at_m at_t (omega (arith, e))));
      first = λ k f. (omega arith, least k f);
    }
      where
        low : suc n ≤ 5
        low = let b = breaks_one p uses tags is run_so m t i at_m at_t (omega (arith, e)) in let most : own_fault i ≤ 5 = subst (λ x. x ≤ 5) b.fault_is (fault_low p uses.fields mode b.insn.op b.target b.f.stack (reads_owned uses mi i)) in omega (arith, most, e)

        least : (k : ℕ) → Forbids p (tagged_by tags) uses mode mi i k → suc n ≤ k
        least k (breaks x b) = omega (arith, fault_known mode i x b, e)
        least k e = omega (arith, low)

    -- where it breaks none and calls none
    by_none : (i : ℕ) → own_fault i ≡ 0 → own_call i ≡ None → Grade i 0
    by_none i e c = record { forbids = λ h. absurd (omega (arith, h)); first = λ k f. absurd (none k f) }
      where
        none : (k : ℕ) → Forbids p (tagged_by tags) uses mode mi i k → ⊥
        none k (breaks x b) = omega (arith, fault_known mode i x b, e, b.some)
        none k (calls first d l) = let bad : None ≡ Some (node_of first) = sym c ∙ call_known mode i first d in cc
        none k (recurs first d l) = let bad : None ≡ Some (node_of first) = sym c ∙ call_known mode i first d in cc

    -- where it breaks none and calls a node
    by_call : (i y : ℕ) → own_fault i ≡ 0 → own_call i ≡ Some y → (s r : Bool) → slice_index_or broken y false ≡ s → slice_index_or again y false ≡ r → Grade i (if s then 6 else if r then 7 else 0)
    by_call i y e c s r f g = by_flags s r f g
      where
        found : (b : Callee) × (node_of b ≡ y) × (b.method < length p.methods) × Calls p (tagged_by tags) run_so i b
        found = call_found mode i y c

        called_fits : (b : Callee) → Calls p (tagged_by tags) run_so i b → IsModeFor class b.mode
        called_fits b k = subst (IsModeFor class) (sym k.mode_is) (fits_called class mode (receiver_tag p k.insn.op k.target k.f.stack) fits)

        same : (b : Callee) → Calls p (tagged_by tags) run_so i b → b ≡ found.0
        same b k = same_callee class b found.0 (called_fits b k) (called_fits found.0 found.3) (same_Some (node_of b) y (sym (call_known mode i b k) ∙ c) ∙ sym found.1)

        no_break : (x : ℕ) → BreaksAt p (tagged_by tags) uses run_so i x → ⊥
        no_break x b = omega (arith, fault_known mode i x b, e, b.some)

        flag_broken : (b : Callee) → Calls p (tagged_by tags) run_so i b → LeadsToBreak p (tagged_by tags) uses b → slice_index_or broken y false ≡ true
        flag_broken b k l = subst (λ x. slice_index_or broken x false ≡ true) found.1 ((are.broken found.0 (called_fits found.0 found.3) found.2).1 (subst (LeadsToBreak p (tagged_by tags) uses) (same b k) l))

        flag_again : (b : Callee) → Calls p (tagged_by tags) run_so i b → LeadsToItself p (tagged_by tags) b → slice_index_or again y false ≡ true
        flag_again b k l = subst (λ x. slice_index_or again x false ≡ true) found.1 ((are.again found.0 found.2).1 (subst (LeadsToItself p (tagged_by tags)) (same b k) l))

        at_least_six : (k : ℕ) → Forbids p (tagged_by tags) uses mode mi i k → 6 ≤ k
        at_least_six k (breaks x b) = absurd (no_break x b)
        at_least_six k e = omega arith

        at_least_seven : slice_index_or broken y false ≡ false → (k : ℕ) → Forbids p (tagged_by tags) uses mode mi i k → 7 ≤ k
        at_least_seven w k (breaks x b) = absurd (no_break x b)
        at_least_seven w k (calls first d l) = absurd (let bad : true ≡ false = sym (flag_broken first d l) ∙ w in cc)
        at_least_seven w k (recurs first d l) = omega arith

        none_at_all : slice_index_or broken y false ≡ false → slice_index_or again y false ≡ false → (k : ℕ) → Forbids p (tagged_by tags) uses mode mi i k → ⊥
        none_at_all w v k (breaks x b) = no_break x b
        none_at_all w v k (calls first d l) = let bad : true ≡ false = sym (flag_broken first d l) ∙ w in cc
        none_at_all w v k (recurs first d l) = let bad : true ≡ false = sym (flag_again first d l) ∙ v in cc

        by_flags : (s r : Bool) → slice_index_or broken y false ≡ s → slice_index_or again y false ≡ r → Grade i (if s then 6 else if r then 7 else 0)
        by_flags true r w v = record {
          forbids = λ h. calls found.0 found.3 ((are.broken found.0 (called_fits found.0 found.3) found.2).0 (subst (λ x. slice_index_or broken x false ≡ true) (sym found.1) w));
          first = λ k q. (omega arith, at_least_six k q);
        }
        by_flags false true w v = record {
          forbids = λ h. recurs found.0 found.3 ((are.again found.0 found.2).0 (subst (λ x. slice_index_or again x false ≡ true) (sym found.1) v));
          first = λ k q. (omega arith, at_least_seven w k q);
        }
        by_flags false false w v = record { forbids = λ h. absurd (omega (arith, h)); first = λ k q. absurd (none_at_all w v k q) }

    grade_is : (i : ℕ) → Grade i (grade_at p uses broken again mode mi m t.frames i)
    grade_is i = by_parts (own_fault i) (own_call i) refl refl
      where
        by_parts : (n : ℕ) (o : Option ℕ) → own_fault i ≡ n → own_call i ≡ o → Grade i (grade_of n o broken again)
        by_parts zero None e c = by_none i e c
        by_parts zero (Some y) e c = by_call i y e c (slice_index_or broken y false) (slice_index_or again y false) refl refl
        by_parts (suc n) o e c = by_fault i n e

    pub are_grades : (grades : List ℕ) → grades ≡ grades_before p uses broken again mode mi m t.frames (length m.code) → AreGrades p (tagged_by tags) uses mode mi m grades
    are_grades grades e = subst (AreGrades p (tagged_by tags) uses mode mi m) (sym e)
        (record {
          long = made_long (grade_at p uses broken again mode mi m t.frames) (grades_before p uses broken again mode mi m t.frames) refl (λ n. refl) (length m.code);
          each = λ i l. subst (Grade i) (sym (made_at (grade_at p uses broken again mode mi m t.frames) (grades_before p uses broken again mode mi m t.frames) refl (λ n. refl) 0 (length m.code) i l)) (grade_is i);
        })
