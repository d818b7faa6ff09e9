-- Nodes of the graph of calls, and what the instructions of their methods call and break.
use Rattle.std.proofs.Common.{◌≡◌, ℕ, ◌+◌, ◌*◌, ◌/◌, ◌%◌, ◌<◌, Bool, true, false, List, [], ◌∷◌, length, Option, Some, None, refl, sym, ap, subst, ◌∙◌, arith, ◌==◌, if◌then◌else◌, slice_get}
use Rattle.std.proofs.lemmas.{Bool.Decides.nat_tests, Option.{slice_get_within, same_Some}}
use Rattle.jvm_types.specs.{Members.is_static, ProgramInvariant.IsProgram, declared.program.{MethodInfo.MethodInfo, Program.Program}}
use Rattle.checked_program.specs.{Marks.{Callee, callee, Calls, CallsThrough, BreaksAt, receiver_tag, class_of_method}, Sections.{Section, mode_of_spot, section_mode}, TaggedCode.{Tagged, tagged_by}}
use Rattle.checked_program.specs.declared.{section.{Mode.{Mode, TheVariants.{OnThis, OffThis, OnClass}}, Spot.{Spot, TheVariants.{Method, Block}}, Uses.Uses}, tag.Tags.Tags}
use Rattle.guard_analysis.{specs.{CallGraph.{mode_number, node_of, mode_at, call_at}, Faults.IsModeFor}, proofs.CallEdges.{half_of, mode_back, node_low, with_tags}}
use Rattle.guard_analysis.proofs.{CalleesFound.{breaks_one, fits_called}, Grading.{fault_known, call_known, call_found}}
use Rattle.mark_reasons.specs.Searches.{callee_at, class_of_section, node_call, node_fault, node_size, calls_of, node_fault_of}

-- ---- nodes, where sections on a class are on one class

pub callee_back : (class : ℕ) (a : Callee) → IsModeFor class a.mode → callee_at class (node_of a) ≡ a
callee_back class a fits = λ i. record { method = half_of a.method a.mode i; mode = mode_back class a.method a.mode fits i }

mode_fits : (class a : ℕ) → IsModeFor class (mode_at class a)
mode_fits class a = by_rest (a % 3 == 0) (a % 3 == 1)
  where
    by_rest : (zero one : Bool) → IsModeFor class (if zero then OnThis else if one then OffThis else OnClass class)
    by_rest true one = tt
    by_rest false true = tt
    by_rest false false = refl

two_left : (n : ℕ) → n < 3 → (n == 0) ≡ false → (n == 1) ≡ false → n ≡ 2
two_left n low e f = grind (arith, nat_tests)

pub node_again : (class y : ℕ) → node_of (callee_at class y) ≡ y
node_again class y = by_rest (y % 3 == 0) (y % 3 == 1) refl refl
  where
    by_rest : (zero one : Bool) → (y % 3 == 0) ≡ zero → (y % 3 == 1) ≡ one → 3 * (y / 3) + mode_number (if zero then OnThis else if one then OffThis else OnClass class) ≡ y
    by_rest true one e f = let rest : y % 3 ≡ 0 = grind (arith, nat_tests) in omega (arith, rest)
    by_rest false true e f = let rest : y % 3 ≡ 1 = grind (arith, nat_tests) in omega (arith, rest)
    by_rest false false e f = let rest : y % 3 ≡ 2 = two_left (y % 3) (let low : y % 3 < 3 = omega arith in low) e f in omega (arith, rest)

pub fits_call : (p : Program) (tags : Tagged) (class : ℕ) (a : Callee) (i : ℕ) (b : Callee) → IsModeFor class a.mode → Calls p tags a i b → IsModeFor class b.mode
fits_call p tags class a i b fits c = subst (IsModeFor class) (sym c.mode_is) (fits_called class a.mode (receiver_tag p c.insn.op c.target c.f.stack) fits)

pub fits_through : (p : Program) (tags : Tagged) (class : ℕ) (a : Callee) (over : List Callee) (b : Callee) → IsModeFor class a.mode → CallsThrough p tags a over b → IsModeFor class b.mode
fits_through p tags class a [] b fits w = subst (λ (x : Callee). IsModeFor class x.mode) w fits
fits_through p tags class a (n ∷ ns) b fits w = fits_through p tags class n ns b (fits_call p tags class a w.0.0 n fits w.0.1) w.1

-- the class of a section's method is the one of its mode
pub section_fits : (p : Program) (s : Section) → IsModeFor (class_of_section p s) (section_mode p s)
section_fits p s = by_spot (slice_get p.methods s.method) s.spot
  where
    by_static : (m : MethodInfo) (b : Bool) → IsModeFor m.class (if b then OnClass m.class else OnThis)
    by_static m true = refl
    by_static m false = tt

    by_spot : (om : Option MethodInfo) (spot : Spot) → IsModeFor (class_of_method om) (mode_of_spot om spot)
    by_spot None Method = tt
    by_spot (Some m) Method = by_static m (is_static m.flags)
    by_spot None (Block pc) = tt
    by_spot (Some m) (Block pc) = tt

-- by the method itself
pub class_there : (p : Program) (s : Section) (m : MethodInfo) → slice_get p.methods s.method ≡ Some m → m.class ≡ class_of_section p s
class_there p s m e = ap class_of_method (sym e)

pub mode_there : (p : Program) (s : Section) (m : MethodInfo) → slice_get p.methods s.method ≡ Some m → mode_of_spot (Some m) s.spot ≡ section_mode p s
mode_there p s m e = ap (λ (o : Option MethodInfo). mode_of_spot o s.spot) (sym e)

-- what a method calls is the same whatever sections may read
abbrev pub no_uses : Uses
no_uses = record { fields = []; owners = []; elements = [] }

module _ (p : Program) (uses : Uses) (tags : List Tags) (is : IsProgram p) where
  -- ---- of a method with its frames

  module _ (mi : ℕ) (m : MethodInfo) (t : Tags) (at_m : slice_get p.methods mi ≡ Some m) (at_t : slice_get tags mi ≡ Some t) where
    pub called_by : (class : ℕ) (mode : Mode) (i y : ℕ) → IsModeFor class mode → call_at p mode (slice_get m.code i) (slice_get m.targets i) (slice_get t.frames i) ≡ Some y → (y < 3 * length p.methods) × Calls p (tagged_by tags) (callee mi mode) i (callee_at class y)
    called_by class mode i y fits e =
        let r = call_found p uses tags is mi m t at_m at_t mode i y e in (
          subst (λ x. x < 3 * length p.methods) r.1 (node_low (length p.methods) r.0.method r.0.mode r.2),
          subst (λ (b : Callee). Calls p (tagged_by tags) (callee mi mode) i b) (sym (callee_back class r.0 (fits_call p (tagged_by tags) class (callee mi mode) i r.0 fits r.3)) ∙ ap (callee_at class) r.1) r.3,
        )

    pub calls_known : (mode : Mode) (i : ℕ) (b : Callee) → Calls p (tagged_by tags) (callee mi mode) i b → call_at p mode (slice_get m.code i) (slice_get m.targets i) (slice_get t.frames i) ≡ Some (node_of b)
    calls_known mode i b c = call_known p uses tags is mi m t at_m at_t mode i b c

    pub inside_calls : (mode : Mode) (i : ℕ) (b : Callee) → Calls p (tagged_by tags) (callee mi mode) i b → i < length m.code
    inside_calls mode i b c = subst (λ (x : MethodInfo). i < length x.code) (same_Some c.m m (sym c.at.in_program ∙ at_m)) (slice_get_within c.m.code i c.insn c.at.in_code)

    pub inside_breaks : (mode : Mode) (i r : ℕ) → BreaksAt p (tagged_by tags) uses (callee mi mode) i r → i < length m.code
    inside_breaks mode i r b = subst (λ (x : MethodInfo). i < length x.code) (same_Some b.m m (sym b.at.in_program ∙ at_m)) (slice_get_within b.m.code i b.insn b.at.in_code)

  -- ---- of a node

  node_calls : (class a i y : ℕ) (om : Option MethodInfo) (ot : Option Tags) → slice_get p.methods (a / 3) ≡ om → slice_get tags (a / 3) ≡ ot → node_call p om ot (mode_at class a) i ≡ Some y → (y < 3 * length p.methods) × Calls p (tagged_by tags) (callee_at class a) i (callee_at class y)
  node_calls class a i y (Some m) (Some t) e f c = called_by (a / 3) m t e f class (mode_at class a) i y (mode_fits class a) c
  node_calls class a i y (Some m) None e f c = absurd (let bad : None ≡ Some y = c in cc)
  node_calls class a i y None ot e f c = absurd (let bad : None ≡ Some y = c in cc)

  pub calls_found : (class a i y : ℕ) → calls_of p tags class a i ≡ Some y → (y < 3 * length p.methods) × Calls p (tagged_by tags) (callee_at class a) i (callee_at class y)
  calls_found class a i y c = node_calls class a i y (slice_get p.methods (a / 3)) (slice_get tags (a / 3)) refl refl c

  pub calls_there : (class a i : ℕ) (b : Callee) → Calls p (tagged_by tags) (callee_at class a) i b → (i < node_size (slice_get p.methods (a / 3)) (slice_get tags (a / 3))) × (calls_of p tags class a i ≡ Some (node_of b))
  calls_there class a i b c =
      let has = with_tags p tags is (a / 3) c.at.frames c.at.of_method in
      (rw (c.at.in_program, has.1) (slice_get_within c.m.code i c.insn c.at.in_code), rw (c.at.in_program, has.1) (calls_known (a / 3) c.m has.0 c.at.in_program has.1 (mode_at class a) i b c))

  node_breaks : (class a i : ℕ) (om : Option MethodInfo) (ot : Option Tags) → slice_get p.methods (a / 3) ≡ om → slice_get tags (a / 3) ≡ ot → 0 < node_fault p uses (a / 3) om ot (mode_at class a) i → BreaksAt p (tagged_by tags) uses (callee_at class a) i (node_fault p uses (a / 3) om ot (mode_at class a) i)
  node_breaks class a i (Some m) (Some t) e f h = breaks_one p uses tags is (callee_at class a) m t i e f h
  node_breaks class a i (Some m) None e f h = absurd (omega (arith, h))
  node_breaks class a i None ot e f h = absurd (omega (arith, h))

  pub fault_breaks : (class a i : ℕ) → 0 < node_fault_of p uses tags class a i → BreaksAt p (tagged_by tags) uses (callee_at class a) i (node_fault_of p uses tags class a i)
  fault_breaks class a i h = node_breaks class a i (slice_get p.methods (a / 3)) (slice_get tags (a / 3)) refl refl h

  pub fault_there : (class a i r : ℕ) → BreaksAt p (tagged_by tags) uses (callee_at class a) i r → (i < node_size (slice_get p.methods (a / 3)) (slice_get tags (a / 3))) × (node_fault_of p uses tags class a i ≡ r)
  fault_there class a i r b =
      let has = with_tags p tags is (a / 3) b.at.frames b.at.of_method in
      (rw (b.at.in_program, has.1) (slice_get_within b.m.code i b.insn b.at.in_code), rw (b.at.in_program, has.1) (fault_known p uses tags is (a / 3) b.m has.0 b.at.in_program has.1 (mode_at class a) i r b))
