-- The edges of the graph are the calls of reached instructions.
use Rattle.std.proofs.Common.{◌≡◌, ℕ, ◌+◌, ◌*◌, ◌/◌, ◌%◌, ◌<◌, Bool, true, false, List, length, Option, Some, None, refl, sym, ap, subst, ◌∙◌, arith, nat_lt, if◌then◌else◌, slice_get}
use Rattle.std.{specs.Option.option_map, proofs.lemmas.{Bool.Decides.nat_tests, Option.{slice_get-map, slice_get_within, same_Some}}}
use Rattle.jvm_types.specs.{ProgramInvariant.{IsProgram, IsTargetOf, site_in}, declared.{code.{Insn.Insn, Op.Op}, program.{Program.Program, Target.Target}}}
use Rattle.laws_programs.proofs.CodeOrder.{have_targets}
use Rattle.checked_program.specs.{LockTags.TagShape, Marks.{Callee, callee, Calls, called_method, receiver_tag, called_mode}, TaggedCode.{Tagged, tagged_by}, declared.section.Mode.Mode}
use Rattle.checked_program.{specs.declared.{section.Mode.TheVariants.{OnThis, OffThis, OnClass}, tag.{Tag.Tag, Tags.Tags}}, proofs.CalledMethods.named}
use Rattle.guard_analysis.{specs.{CallGraph.{mode_number, node_of, mode_at, AreCalls, node_in, call_node, call_at, call_graph}, Faults.IsModeFor}, proofs.GraphEdges.{CallAt, graph_added, graph_old}}

-- ---- nodes

pub half_of : (u : ℕ) (mode : Mode) → (3 * u + mode_number mode) / 3 ≡ u
half_of u OnThis = omega arith
half_of u OffThis = omega arith
half_of u (OnClass class) = omega arith

pub mode_back : (class u : ℕ) (mode : Mode) → IsModeFor class mode → mode_at class (3 * u + mode_number mode) ≡ mode
mode_back class u OnThis fits = let rest : (3 * u + 0) % 3 ≡ 0 = omega arith in rw rest refl
mode_back class u OffThis fits = let rest : (3 * u + 1) % 3 ≡ 1 = omega arith in rw rest refl
mode_back class u (OnClass c) fits = let rest : (3 * u + 2) % 3 ≡ 2 = omega arith in rw rest (ap (λ (x : ℕ). OnClass x) (sym fits))

pub node_low : (n u : ℕ) (mode : Mode) → u < n → 3 * u + mode_number mode < 3 * n
node_low n u OnThis h = omega (arith, h)
node_low n u OffThis h = omega (arith, h)
node_low n u (OnClass class) h = omega (arith, h)

-- a call from a method that a section on a class runs is the same for each class
abbrev pub any_class : Mode → Mode
any_class (OnClass class) = OnClass 0
any_class mode = mode

any_class_fits : (mode : Mode) → IsModeFor 0 (any_class mode)
any_class_fits (OnClass class) = refl
any_class_fits mode = tt

any_class_number : (mode : Mode) → mode_number (any_class mode) ≡ mode_number mode
any_class_number OnThis = refl
any_class_number OffThis = refl
any_class_number (OnClass class) = refl

pub mode_of_node : (u : ℕ) (mode : Mode) → mode_at 0 (3 * u + mode_number mode) ≡ any_class mode
mode_of_node u mode = ap (λ (n : ℕ). mode_at 0 (3 * u + n)) (sym (any_class_number mode)) ∙ mode_back 0 u (any_class mode) (any_class_fits mode)

node_of_any : (n : ℕ) (o : Option ℕ) (mode other : Mode) → mode_number mode ≡ mode_number other → node_in n o mode ≡ node_in n o other
node_of_any n None mode other e = refl
node_of_any n (Some u) mode other e = ap (λ (k : ℕ). if nat_lt u n then Some (3 * u + k) else None) e

called_any : (mode : Mode) (t : Tag) → mode_number (called_mode (any_class mode) t) ≡ mode_number (called_mode mode t)
called_any OnThis t = refl
called_any OffThis t = refl
called_any (OnClass class) t = refl

pub call_of_any : (p : Program) (mode : Mode) (op : Op) (target : Target) (stack : List Tag) → call_node p (any_class mode) op target stack ≡ call_node p mode op target stack
call_of_any p mode op target stack = node_of_any (length p.methods) (called_method op target) (called_mode (any_class mode) (receiver_tag p op target stack)) (called_mode mode (receiver_tag p op target stack)) (called_any mode (receiver_tag p op target stack))

-- ---- one instruction

-- the three that stand at an instruction that is reached
pub record AtCall (oi : Option Insn) (ot : Option Target) (of : Option (Option TagShape)) (p : Program) (mode : Mode) (y : ℕ) : Type 0 where
  pub insn : Insn
  pub target : Target
  pub f : TagShape
  pub is_insn : oi ≡ Some insn
  pub is_target : ot ≡ Some target
  pub is_frame : of ≡ Some (Some f)
  pub call : call_node p mode insn.op target f.stack ≡ Some y

pub call_parts : (p : Program) (mode : Mode) (oi : Option Insn) (ot : Option Target) (of : Option (Option TagShape)) (y : ℕ) → call_at p mode oi ot of ≡ Some y → AtCall oi ot of p mode y
call_parts p mode (Some insn) (Some target) (Some (Some f)) y e = record { insn = insn; target = target; f = f; is_insn = refl; is_target = refl; is_frame = refl; call = e }
call_parts p mode oi ot of y e = absurd (cc)

pub node_parts : (n : ℕ) (o : Option ℕ) (mode : Mode) (y : ℕ) → node_in n o mode ≡ Some y → (u : ℕ) × (o ≡ Some u) × (u < n) × (3 * u + mode_number mode ≡ y)
node_parts n None mode y e = absurd (cc)
node_parts n (Some u) mode y e = by_test (nat_lt u n) refl e
  where
    by_test : (t : Bool) → nat_lt u n ≡ t → (if t then Some (3 * u + mode_number mode) else None) ≡ Some y → (v : ℕ) × (Some u ≡ Some v) × (v < n) × (3 * v + mode_number mode ≡ y)
    by_test true w k = (u, refl, grind (arith, nat_tests), same_Some (3 * u + mode_number mode) y k)
    by_test false w k = absurd (let bad : None ≡ Some y = k in cc)

pub node_there : (n u : ℕ) (o : Option ℕ) (mode : Mode) → o ≡ Some u → u < n → node_in n o mode ≡ Some (3 * u + mode_number mode)
node_there n u o mode e h = let test : nat_lt u n ≡ true = grind (arith, nat_tests) in rw (e, test) refl

-- ---- a call names a method of the program

pub called_inside : (p : Program) (tags : Tagged) → IsProgram p → (a b : Callee) (i : ℕ) → Calls p tags a i b → b.method < length p.methods
called_inside p tags is a b i c =
    let has = have_targets p a.method i c.m c.insn is c.at.in_program c.at.in_code in
    named p (site_in c.m) c.insn.op c.target b.method c.called
    (subst (λ (t : Target). IsTargetOf p (site_in c.m) c.insn.op t) (same_Some has.0 c.target (sym has.1 ∙ c.at.names)) has.2)

-- ---- calls and edges

module _ (p : Program) (tags : List Tags) (is : IsProgram p) where
  -- a method's frames
  pub with_tags : (mi : ℕ) (frames : List (Option TagShape)) → slice_get (tagged_by tags) mi ≡ Some frames → (t : Tags) × (slice_get tags mi ≡ Some t) × (t.frames ≡ frames)
  with_tags mi frames e = by_tags (slice_get tags mi) refl (sym (slice_get-map (λ (t : Tags). t.frames) tags mi) ∙ e)
    where
      by_tags : (o : Option Tags) → slice_get tags mi ≡ o → option_map (λ (t : Tags). t.frames) o ≡ Some frames → (t : Tags) × (slice_get tags mi ≡ Some t) × (t.frames ≡ frames)
      by_tags None q k = absurd (let bad : None ≡ Some frames = k in cc)
      by_tags (Some t) q k = (t, q, same_Some t.frames frames k)

  pub frames_there : (mi : ℕ) (t : Tags) → slice_get tags mi ≡ Some t → slice_get (tagged_by tags) mi ≡ Some t.frames
  frames_there mi t e = slice_get-map (λ (t : Tags). t.frames) tags mi ∙ ap (option_map (λ (t : Tags). t.frames)) e

  call_there : (a b : Callee) (i : ℕ) → Calls p (tagged_by tags) a i b → CallAt p (slice_get p.methods (node_of a / 3)) (slice_get tags (node_of a / 3)) (node_of a) (node_of b)
  call_there a b i c =
      let has = with_tags a.method c.at.frames c.at.of_method in
      let at_frame : slice_get has.0.frames i ≡ Some (Some c.f) = subst (λ l. slice_get l i ≡ Some (Some c.f)) (sym has.2) c.at.frame in
      let node : call_node p a.mode c.insn.op c.target c.f.stack ≡ Some (node_of b) =
      node_there (length p.methods) b.method (called_method c.insn.op c.target) (called_mode a.mode (receiver_tag p c.insn.op c.target c.f.stack)) c.called (called_inside p (tagged_by tags) is a b i c)
      ∙ ap (λ (mode : Mode). Some (3 * b.method + mode_number mode)) (sym c.mode_is) in
      record {
        m = c.m;
        is_m = ap (λ u. slice_get p.methods u) (half_of a.method a.mode) ∙ c.at.in_program;
        t = has.0;
        is_t = ap (λ u. slice_get tags u) (half_of a.method a.mode) ∙ has.1;
        i = i;
        inside = slice_get_within c.m.code i c.insn c.at.in_code;
        call = rw (mode_of_node a.method a.mode, c.at.in_code, c.at.names, at_frame) (call_of_any p a.mode c.insn.op c.target c.f.stack ∙ node);
      }

  call_back : (a : Callee) (y : ℕ) → CallAt p (slice_get p.methods (node_of a / 3)) (slice_get tags (node_of a / 3)) (node_of a) y → (b : Callee) × (node_of b ≡ y) × ((i : ℕ) × Calls p (tagged_by tags) a i b)
  call_back a y c =
      let parts = call_parts p (mode_at 0 (node_of a)) (slice_get c.m.code c.i) (slice_get c.m.targets c.i) (slice_get c.t.frames c.i) y c.call in
      let mode : Mode = called_mode a.mode (receiver_tag p parts.insn.op parts.target parts.f.stack) in
      let call : call_node p a.mode parts.insn.op parts.target parts.f.stack ≡ Some y =
      sym (call_of_any p a.mode parts.insn.op parts.target parts.f.stack) ∙ subst (λ (mode : Mode). call_node p mode parts.insn.op parts.target parts.f.stack ≡ Some y) (mode_of_node a.method a.mode) parts.call in
      let named = node_parts (length p.methods) (called_method parts.insn.op parts.target) mode y call in (
        callee named.0 mode,
        named.3,
        (
          c.i,
          record {
            m = c.m;
            insn = parts.insn;
            target = parts.target;
            f = parts.f;
            at = record {
              in_program = ap (λ u. slice_get p.methods u) (sym (half_of a.method a.mode)) ∙ c.is_m;
              in_code = parts.is_insn;
              names = parts.is_target;
              frames = c.t.frames;
              of_method = frames_there a.method c.t (ap (λ u. slice_get tags u) (sym (half_of a.method a.mode)) ∙ c.is_t);
              frame = parts.is_frame;
            };
            called = named.1;
            mode_is = refl;
          },
        ),
      )

  pub edges_are_calls : AreCalls p (tagged_by tags) (call_graph p tags).from (call_graph p tags).to
  edges_are_calls = record {
    there = λ a b i c. graph_added p tags (3 * length p.methods) (node_of a) (node_of b) (node_low (length p.methods) a.method a.mode (slice_get_within p.methods a.method c.m c.at.in_program)) (call_there a b i c);
    only = λ a y e. call_back a y (graph_old p tags (3 * length p.methods) (node_of a) y e).1;
  }
