-- What the graph of calls finds: which nodes lead to a method that breaks a rule, and which to one that calls itself.
use Rattle.std.proofs.Common.{◌≡◌, ℕ, zero, suc, ◌*◌, ◌/◌, ◌<◌, ◌≢◌, Bool, true, false, List, [], ◌∷◌, length, Option, Some, refl, sym, ap, subst, ◌∙◌, arith, ⊎_elim, ◌||◌, nat_lt, if◌then◌else◌, slice_get, slice_index_or}
use Rattle.std.proofs.lemmas.{Bool.{cases_eq, Decides.nat_tests}, Option.slice_get_within}
use Rattle.jvm_types.specs.{Members.{is_static, is_synchronized}, ProgramInvariant.IsProgram, declared.{code.Insn.Insn, program.{MethodInfo.MethodInfo, Program.Program, Target.Target}}}
use Rattle.graph_closure.specs.{LeastSet.IsGraph, Walks.{IsEdge, Walks, Leads, AreLeading, AreRecurring}}
use Rattle.checked_program.specs.{FrozenPlaces.locks_class, LockTags.TagShape}
use Rattle.checked_program.specs.Marks.{Callee, callee, Calls, Invokes, CallsThrough, CallsItself, BreaksAt, section_fault, receiver_tag, is_own_object, mode_if, called_mode}
use Rattle.checked_program.specs.{OwnedArrays.reads_owned, TaggedCode.{Tagged, tagged_by}, declared.{call_edges.Graph.Graph, section.{Mode.{Mode, TheVariants.{OnThis, OffThis, OnClass}}, Uses.Uses}}}
use Rattle.checked_program.specs.declared.tag.{Tag.Tag, Tags.Tags}
use Rattle.guard_analysis.specs.CallGraph.{node_of, mode_at, AreCalls, call_graph}
use Rattle.guard_analysis.specs.Faults.{fault_at, breaks_before, node_breaks, breaking_nodes, LeadsToBreak, LeadsToItself, IsModeFor, FitsMethod, AreCallees}
use Rattle.guard_analysis.proofs.{CallEdges.{half_of, mode_back, node_low, with_tags, frames_there, edges_are_calls}, ListsMade.{made_long, made_at}}

-- ---- the methods that break a rule

abbrev node_flag : Program → Uses → List Tags → (class : ℕ) → ℕ → Bool
node_flag p uses tags class a = node_breaks p uses (a / 3) (slice_get p.methods (a / 3)) (slice_get tags (a / 3)) (mode_at class a)

pub breaking_long : (p : Program) (uses : Uses) (tags : List Tags) (class n : ℕ) → length (breaking_nodes p uses tags class n) ≡ n
breaking_long p uses tags class n = made_long (node_flag p uses tags class) (breaking_nodes p uses tags class) refl (λ k. refl) n

breaking_at : (p : Program) (uses : Uses) (tags : List Tags) (class n a : ℕ) → a < n → slice_index_or (breaking_nodes p uses tags class n) a false ≡ node_flag p uses tags class a
breaking_at p uses tags class n a l = made_at (node_flag p uses tags class) (breaking_nodes p uses tags class) refl (λ k. refl) false n a l

abbrev the_fault : Program → Uses → (mi : ℕ) → Mode → MethodInfo → List (Option TagShape) → ℕ → ℕ
the_fault p uses mi mode m frames i = fault_at p uses mi i mode (slice_get m.code i) (slice_get m.targets i) (slice_get frames i)

some_broken : (p : Program) (uses : Uses) (mi : ℕ) (m : MethodInfo) (frames : List (Option TagShape)) (mode : Mode) (k : ℕ) → breaks_before p uses mi m frames mode k ≡ true → (i : ℕ) × (0 < the_fault p uses mi mode m frames i)
some_broken p uses mi m frames mode zero e = absurd (let bad : false ≡ true = e in cc)
some_broken p uses mi m frames mode (suc k) e = by_test (breaks_before p uses mi m frames mode k) (nat_lt 0 (the_fault p uses mi mode m frames k)) refl e (λ f. some_broken p uses mi m frames mode k f)
  where
    by_test : (b c : Bool) → nat_lt 0 (the_fault p uses mi mode m frames k) ≡ c → (b || c) ≡ true → (b ≡ true → (i : ℕ) × (0 < the_fault p uses mi mode m frames i)) → (i : ℕ) × (0 < the_fault p uses mi mode m frames i)
    by_test true c w f more = more refl
    by_test false true w f more = (k, grind (arith, nat_tests))
    by_test false false w f more = absurd (let bad : false ≡ true = f in cc)

broken_in : (p : Program) (uses : Uses) (mi : ℕ) (m : MethodInfo) (frames : List (Option TagShape)) (mode : Mode) (k i : ℕ) → i < k → 0 < the_fault p uses mi mode m frames i → breaks_before p uses mi m frames mode k ≡ true
broken_in p uses mi m frames mode zero i l h = absurd (omega (arith, l))
broken_in p uses mi m frames mode (suc k) i l h = ⊎_elim
    (λ (q : i ≡ k). let here : 0 < the_fault p uses mi mode m frames k = subst (λ j. 0 < the_fault p uses mi mode m frames j) q h in let test : nat_lt 0 (the_fault p uses mi mode m frames k) ≡ true = grind (arith, nat_tests) in rw test (or_true (breaks_before p uses mi m frames mode k)))
    (λ (q : i ≢ k). rw (broken_in p uses mi m frames mode k i (omega (arith, l, q)) h) refl) (cases_eq i k)
  where
    or_true : (b : Bool) → (b || true) ≡ true
    or_true true = refl
    or_true false = refl

-- the instruction that breaks one
pub record AtFault (oi : Option Insn) (ot : Option Target) (of : Option (Option TagShape)) (p : Program) (uses : Uses) (mi i : ℕ) (mode : Mode) : Type 0 where
  pub insn : Insn
  pub target : Target
  pub f : TagShape
  pub is_insn : oi ≡ Some insn
  pub is_target : ot ≡ Some target
  pub is_frame : of ≡ Some (Some f)
  pub same : fault_at p uses mi i mode oi ot of ≡ section_fault p uses.fields mode insn.op target f.stack (reads_owned uses mi i)

pub fault_parts : (p : Program) (uses : Uses) (mi i : ℕ) (mode : Mode) (oi : Option Insn) (ot : Option Target) (of : Option (Option TagShape)) → 0 < fault_at p uses mi i mode oi ot of → AtFault oi ot of p uses mi i mode
fault_parts p uses mi i mode (Some insn) (Some target) (Some (Some f)) h = record { insn = insn; target = target; f = f; is_insn = refl; is_target = refl; is_frame = refl; same = refl }
fault_parts p uses mi i mode oi ot of h = absurd (omega (arith, h))

module _ (p : Program) (uses : Uses) (tags : List Tags) (is : IsProgram p) where
  -- of a method with its frames
  pub breaks_one : (b : Callee) (m : MethodInfo) (t : Tags) (i : ℕ) → slice_get p.methods b.method ≡ Some m → slice_get tags b.method ≡ Some t → 0 < the_fault p uses b.method b.mode m t.frames i → BreaksAt p (tagged_by tags) uses b i (the_fault p uses b.method b.mode m t.frames i)
  breaks_one b m t i e f h =
      let parts = fault_parts p uses b.method i b.mode (slice_get m.code i) (slice_get m.targets i) (slice_get t.frames i) h in
      record {
        m = m;
        insn = parts.insn;
        target = parts.target;
        f = parts.f;
        at = record { in_program = e; in_code = parts.is_insn; names = parts.is_target; frames = t.frames; of_method = frames_there p tags is b.method t f; frame = parts.is_frame };
        fault_is = sym parts.same;
        some = h;
      }

  flag_broken : (b : Callee) (om : Option MethodInfo) (ot : Option Tags) → slice_get p.methods b.method ≡ om → slice_get tags b.method ≡ ot → node_breaks p uses b.method om ot b.mode ≡ true → (i : ℕ) × (n : ℕ) × BreaksAt p (tagged_by tags) uses b i n
  flag_broken b (Some m) (Some t) e f w = let some = some_broken p uses b.method m t.frames b.mode (length m.code) w in (some.0, the_fault p uses b.method b.mode m t.frames some.0, breaks_one b m t some.0 e f some.1)
  flag_broken b om ot e f w = absurd (let bad : false ≡ true = w in cc)

  broken_flag : (b : Callee) (i n : ℕ) → BreaksAt p (tagged_by tags) uses b i n → node_breaks p uses b.method (slice_get p.methods b.method) (slice_get tags b.method) b.mode ≡ true
  broken_flag b i n k =
      let has = with_tags p tags is b.method k.at.frames k.at.of_method in
      let at_frame : slice_get has.0.frames i ≡ Some (Some k.f) = subst (λ l. slice_get l i ≡ Some (Some k.f)) (sym has.2) k.at.frame in
      let is_fault : the_fault p uses b.method b.mode k.m has.0.frames i ≡ n = rw (k.at.in_code, k.at.names, at_frame) k.fault_is in
      rw (k.at.in_program, has.1) (broken_in p uses b.method k.m has.0.frames b.mode (length k.m.code) i (slice_get_within k.m.code i k.insn k.at.in_code) (omega (arith, is_fault, k.some)))

  flag_of : (class : ℕ) (b : Callee) → IsModeFor class b.mode → b.method < length p.methods → slice_index_or (breaking_nodes p uses tags class (3 * length p.methods)) (node_of b) false ≡ node_breaks p uses b.method (slice_get p.methods b.method) (slice_get tags b.method) b.mode
  flag_of class b fits l = breaking_at p uses tags class (3 * length p.methods) (node_of b) (node_low (length p.methods) b.method b.mode l)
      ∙ ap (λ u. node_breaks p uses u (slice_get p.methods u) (slice_get tags u) (mode_at class (node_of b))) (half_of b.method b.mode)
      ∙ ap (λ (mode : Mode). node_breaks p uses b.method (slice_get p.methods b.method) (slice_get tags b.method) mode) (mode_back class b.method b.mode fits)

-- ---- chains of calls and walks

module _ (p : Program) (tags : Tagged) (from to : List ℕ) (c : AreCalls p tags from to) where
  walked : (a : Callee) (ns : List Callee) (b : Callee) → CallsThrough p tags a ns b → Leads from to (node_of a) (node_of b)
  walked a [] b w = ([], ap node_of w)
  walked a (n ∷ ns) b w = let r = walked n ns b w.1 in (node_of n ∷ r.0, (c.there a n w.0.0 w.0.1, r.1))

  called : (a : Callee) (ys : List ℕ) (y : ℕ) → Walks from to (node_of a) ys y → (b : Callee) × (node_of b ≡ y) × ((ns : List Callee) × CallsThrough p tags a ns b)
  called a [] y w = (a, w, ([], refl))
  called a (x ∷ xs) y w =
      let one = c.only a x w.0 in
      let r = called one.0 xs y (subst (λ z. Walks from to z xs y) (sym one.1) w.1) in
      (r.0, r.1, (one.0 ∷ r.2.0, (one.2, r.2.1)))

same_method : (a b : Callee) → node_of a ≡ node_of b → a.method ≡ b.method
same_method a b e = sym (half_of a.method a.mode) ∙ ap (λ n. n / 3) e ∙ half_of b.method b.mode

pub same_callee : (class : ℕ) (a b : Callee) → IsModeFor class a.mode → IsModeFor class b.mode → node_of a ≡ node_of b → a ≡ b
same_callee class a b fits also e = let m : a.method ≡ b.method = same_method a b e in
    let q : a.mode ≡ b.mode = sym (mode_back class a.method a.mode fits) ∙ ap (mode_at class) e ∙ mode_back class b.method b.mode also in
    λ i. record { method = m i; mode = q i }

-- a section on a class runs all that it calls as that
pub fits_called : (class : ℕ) (mode : Mode) (t : Tag) → IsModeFor class mode → IsModeFor class (called_mode mode t)
fits_called class OnThis t fits = fits_if (is_own_object OnThis t)
  where
    fits_if : (own : Bool) → IsModeFor class (mode_if own)
    fits_if true = tt
    fits_if false = tt
fits_called class OffThis t fits = tt
fits_called class (OnClass c) t fits = fits

pub no_class_lock : (m : MethodInfo) (b : Bool) → b ≡ locks_class m → b ≡ false → is_synchronized m.flags ≡ true → is_static m.flags ≡ true → ⊥
no_class_lock m b is none locks static =
    let both : locks_class m ≡ true = rw (locks, static) refl in
    let bad : true ≡ false = sym both ∙ sym is ∙ none in
    cc

-- the nodes of a class stand for what the section of a method runs that locks that class, or none
pub fits_method : (class : ℕ) (m : MethodInfo) → (is_synchronized m.flags ≡ true → is_static m.flags ≡ true → m.class ≡ class) → FitsMethod class m
fits_method class m own locks = by_static (is_static m.flags) (own locks)
  where
    by_static : (b : Bool) → (b ≡ true → m.class ≡ class) → IsModeFor class (if b then OnClass m.class else OnThis)
    by_static true h = h refl
    by_static false h = tt

module _ (p : Program) (tags : Tagged) where
  -- a call in one mode is one in each
  in_mode : (a : Callee) (i : ℕ) (b : Callee) (mode : Mode) → Calls p tags a i b → (to : Mode) × Calls p tags (callee a.method mode) i (callee b.method to)
  in_mode a i b mode c = (called_mode mode (receiver_tag p c.insn.op c.target c.f.stack), record { m = c.m; insn = c.insn; target = c.target; f = c.f; at = c.at; called = c.called; mode_is = refl })

  through_in : (a : Callee) (ns : List Callee) (b : Callee) (mode : Mode) → CallsThrough p tags a ns b → (to : Mode) × ((over : List Callee) × CallsThrough p tags (callee a.method mode) over (callee b.method to))
  through_in a [] b mode w = (mode, ([], ap (λ (x : Callee). callee x.method mode) w))
  through_in a (n ∷ ns) b mode w =
      let step = in_mode a w.0.0 n mode w.0.1 in
      let r = through_in n ns b step.0 w.1 in
      (r.0, (callee n.method step.0 ∷ r.1.0, ((w.0.0, step.1), r.1.1)))

  -- off this, all are
  off_one : (a : Callee) (i : ℕ) (b : Callee) → a.mode ≡ OffThis → Calls p tags a i b → b.mode ≡ OffThis
  off_one a i b e c = c.mode_is ∙ ap (λ (mode : Mode). called_mode mode (receiver_tag p c.insn.op c.target c.f.stack)) e

  off_all : (a : Callee) (ns : List Callee) (b : Callee) → a.mode ≡ OffThis → CallsThrough p tags a ns b → b.mode ≡ OffThis
  off_all a [] b e w = sym (ap (λ (x : Callee). x.mode) w) ∙ e
  off_all a (n ∷ ns) b e w = off_all n ns b (off_one a w.0.0 n e w.0.1) w.1

  -- and on a class, all are
  pub class_one : (class : ℕ) (a : Callee) (i : ℕ) (b : Callee) → a.mode ≡ OnClass class → Calls p tags a i b → b.mode ≡ OnClass class
  class_one class a i b e c = c.mode_is ∙ ap (λ (mode : Mode). called_mode mode (receiver_tag p c.insn.op c.target c.f.stack)) e

  class_all : (class : ℕ) (a : Callee) (ns : List Callee) (b : Callee) → a.mode ≡ OnClass class → CallsThrough p tags a ns b → b.mode ≡ OnClass class
  class_all class a [] b e w = sym (ap (λ (x : Callee). x.mode) w) ∙ e
  class_all class a (n ∷ ns) b e w = class_all class n ns b (class_one class a w.0.0 n e w.0.1) w.1

  fits_all : (class : ℕ) (a : Callee) (ns : List Callee) (b : Callee) → IsModeFor class a.mode → CallsThrough p tags a ns b → IsModeFor class b.mode
  fits_all class a [] b fits w = subst (λ (x : Callee). IsModeFor class x.mode) w fits
  fits_all class a (n ∷ ns) b fits w =
      let c = w.0.1 in
      fits_all class n ns b (subst (IsModeFor class) (sym c.mode_is) (fits_called class a.mode (receiver_tag p c.insn.op c.target c.f.stack) fits)) w.1

  more_calls : (a : Callee) (ns : List Callee) (b : Callee) (ms : List Callee) (c : Callee) → CallsThrough p tags a ns b → CallsThrough p tags b ms c → (over : List Callee) × CallsThrough p tags a over c
  more_calls a [] b ms c w v = (ms, subst (λ (x : Callee). CallsThrough p tags x ms c) (sym w) v)
  more_calls a (n ∷ ns) b ms c w v = let r = more_calls n ns b ms c w.1 v in (n ∷ r.0, (w.0, r.1))

  -- a cycle off this at a method that calls itself
  cycle_off : (u : ℕ) → CallsItself p tags u → (first : Callee) × (Invokes p tags (callee u OffThis) first) × ((over : List Callee) × CallsThrough p tags first over (callee u OffThis))
  cycle_off u k = (k.first, k.calls, (k.over, subst (λ (mode : Mode). CallsThrough p tags k.first k.over (callee u mode)) (off_all k.first k.over (callee u k.mode) (off_one (callee u OffThis) k.calls.0 k.first refl k.calls.1) k.through) k.through))

  cycle_class : (class u : ℕ) → CallsItself p tags u → (first : Callee) × (Invokes p tags (callee u (OnClass class)) first) × ((over : List Callee) × CallsThrough p tags first over (callee u (OnClass class)))
  cycle_class class u k =
      let step = in_mode (callee u OffThis) k.calls.0 k.first (OnClass class) k.calls.1 in
      let r = through_in k.first k.over (callee u k.mode) step.0 k.through in
      let on : step.0 ≡ OnClass class = class_one class (callee u (OnClass class)) k.calls.0 (callee k.first.method step.0) refl step.1 in
      let back : r.0 ≡ OnClass class = class_all class (callee k.first.method step.0) r.1.0 (callee u r.0) on r.1.1 in
      (callee k.first.method step.0, (k.calls.0, step.1), (r.1.0, subst (λ (mode : Mode). CallsThrough p tags (callee k.first.method step.0) r.1.0 (callee u mode)) back r.1.1))

  -- a chain that ends at it leads to a cycle, in the one mode or the other
  pub record HasCycle (b : Callee) : Type 0 where
    pub at : Callee
    pub over : List Callee
    pub through : CallsThrough p tags b over at
    pub first : Callee
    pub calls : Invokes p tags at first
    pub round : List Callee
    pub back : CallsThrough p tags first round at

  cycle_from : (b : Callee) (over : List Callee) (u : ℕ) (mode : Mode) → CallsThrough p tags b over (callee u mode) → CallsItself p tags u → HasCycle b
  cycle_from b over u OffThis w k = let r = cycle_off u k in record { at = callee u OffThis; over = over; through = w; first = r.0; calls = r.1; round = r.2.0; back = r.2.1 }
  cycle_from b over u (OnClass class) w k = let r = cycle_class class u k in record { at = callee u (OnClass class); over = over; through = w; first = r.0; calls = r.1; round = r.2.0; back = r.2.1 }
  cycle_from b over u OnThis w k =
      let step = in_mode (callee u OffThis) k.calls.0 k.first OnThis k.calls.1 in
      let r = through_in k.first k.over (callee u k.mode) step.0 k.through in
      by_mode r.0 (callee k.first.method step.0) (k.calls.0, step.1) r.1.0 r.1.1
    where
      by_mode : (to : Mode) (first : Callee) → Invokes p tags (callee u OnThis) first → (round : List Callee) → CallsThrough p tags first round (callee u to) → HasCycle b
      by_mode OnThis first calls round back = record { at = callee u OnThis; over = over; through = w; first = first; calls = calls; round = round; back = back }
      by_mode (OnClass class) first calls round back =
          let way = more_calls b over (callee u OnThis) (first ∷ round) (callee u (OnClass class)) w (calls, back) in
          let r = cycle_class class u k in
          record { at = callee u (OnClass class); over = way.0; through = way.1; first = r.0; calls = r.1; round = r.2.0; back = r.2.1 }
      by_mode OffThis first calls round back =
          let way = more_calls b over (callee u OnThis) (first ∷ round) (callee u OffThis) w (calls, back) in
          let r = cycle_off u k in
          record { at = callee u OffThis; over = way.0; through = way.1; first = r.0; calls = r.1; round = r.2.0; back = r.2.1 }

module _ (p : Program) (tags : List Tags) (is : IsProgram p) (recurs : List Bool) (cycles : AreRecurring (call_graph p tags).from (call_graph p tags).to (3 * length p.methods) recurs) where
  -- a node that leads to a method which calls itself is flagged
  pub itself_flagged : (b : Callee) → b.method < length p.methods → LeadsToItself p (tagged_by tags) b → slice_index_or recurs (node_of b) false ≡ true
  itself_flagged b l k =
      let edges = edges_are_calls p tags is in
      let cycle = cycle_from p (tagged_by tags) b k.over k.called.method k.called.mode k.through k.recurs in
      (cycles.each (node_of b) (node_low (length p.methods) b.method b.mode l)).1 (
        node_of cycle.at,
        walked p (tagged_by tags) (call_graph p tags).from (call_graph p tags).to edges b cycle.over cycle.at cycle.through,
        (node_of cycle.first, edges.there cycle.at cycle.first cycle.calls.0 cycle.calls.1, walked p (tagged_by tags) (call_graph p tags).from (call_graph p tags).to edges cycle.first cycle.round cycle.at cycle.back),
      )

module _ (p : Program) (uses : Uses) (tags : List Tags) (class : ℕ) (is : IsProgram p) (breaks recurs : List Bool) (leads : AreLeading (call_graph p tags).from (call_graph p tags).to (breaking_nodes p uses tags class (3 * length p.methods)) breaks)
    (cycles : AreRecurring (call_graph p tags).from (call_graph p tags).to (3 * length p.methods) recurs) where
  edges : AreCalls p (tagged_by tags) (call_graph p tags).from (call_graph p tags).to
  edges = edges_are_calls p tags is

  low_node : (b : Callee) → b.method < length p.methods → node_of b < 3 * length p.methods
  low_node b l = node_low (length p.methods) b.method b.mode l

  inside : (b : Callee) → b.method < length p.methods → node_of b < length (breaking_nodes p uses tags class (3 * length p.methods))
  inside b l = subst (λ n. node_of b < n) (sym (breaking_long p uses tags class (3 * length p.methods))) (low_node b l)

  to_break : (b : Callee) → IsModeFor class b.mode → b.method < length p.methods → slice_index_or breaks (node_of b) false ≡ true → LeadsToBreak p (tagged_by tags) uses b
  to_break b fits l e =
      let found = (leads.each (node_of b) (inside b l)).0 e in
      let end = called p (tagged_by tags) (call_graph p tags).from (call_graph p tags).to edges b found.2.0 found.0 found.2.1 in
      let flag : slice_index_or (breaking_nodes p uses tags class (3 * length p.methods)) (node_of end.0) false ≡ true = subst (λ y. slice_index_or (breaking_nodes p uses tags class (3 * length p.methods)) y false ≡ true) (sym end.1) found.3 in
      let low : node_of end.0 < 3 * length p.methods = subst (λ y. y < 3 * length p.methods) (sym end.1) (subst (λ n. found.0 < n) (breaking_long p uses tags class (3 * length p.methods)) found.1) in
      let method_low : end.0.method < length p.methods = omega (arith, low) in
      let broken = flag_broken p uses tags is end.0 (slice_get p.methods end.0.method) (slice_get tags end.0.method) refl refl (sym (flag_of p uses tags is class end.0 (fits_all p (tagged_by tags) class b end.2.0 end.0 fits end.2.1) method_low) ∙ flag) in
      record { called = end.0; over = end.2.0; through = end.2.1; i = broken.0; n = broken.1; breaks = broken.2 }

  from_break : (b : Callee) → IsModeFor class b.mode → b.method < length p.methods → LeadsToBreak p (tagged_by tags) uses b → slice_index_or breaks (node_of b) false ≡ true
  from_break b fits l k =
      let low : k.called.method < length p.methods = slice_get_within p.methods k.called.method k.breaks.m k.breaks.at.in_program in
      (leads.each (node_of b) (inside b l)).1 (
        node_of k.called,
        inside k.called low,
        walked p (tagged_by tags) (call_graph p tags).from (call_graph p tags).to edges b k.over k.called k.through,
        flag_of p uses tags is class k.called (fits_all p (tagged_by tags) class b k.over k.called fits k.through) low ∙ broken_flag p uses tags is k.called k.i k.n k.breaks,
      )

  to_itself : (b : Callee) → b.method < length p.methods → slice_index_or recurs (node_of b) false ≡ true → LeadsToItself p (tagged_by tags) b
  to_itself b l e =
      let r = (cycles.each (node_of b) (low_node b l)).0 e in
      let at = called p (tagged_by tags) (call_graph p tags).from (call_graph p tags).to edges b r.1.0 r.0 r.1.1 in
      let step = edges.only at.0 r.2.0 (subst (λ y. IsEdge (call_graph p tags).from (call_graph p tags).to y r.2.0) (sym at.1) r.2.1) in
      let round = called p (tagged_by tags) (call_graph p tags).from (call_graph p tags).to edges step.0 r.2.2.0 r.0 (subst (λ y. Walks (call_graph p tags).from (call_graph p tags).to y r.2.2.0 r.0) (sym step.1) r.2.2.1) in
      let same : round.0.method ≡ at.0.method = same_method round.0 at.0 (round.1 ∙ sym at.1) in
      let first = in_mode p (tagged_by tags) at.0 step.2.0 step.0 OffThis step.2.1 in
      let back = through_in p (tagged_by tags) step.0 round.2.0 round.0 first.0 round.2.1 in
      record {
        called = at.0;
        over = at.2.0;
        through = at.2.1;
        recurs = record {
          first = callee step.0.method first.0;
          calls = (step.2.0, first.1);
          over = back.1.0;
          mode = back.0;
          through = subst (λ u. CallsThrough p (tagged_by tags) (callee step.0.method first.0) back.1.0 (callee u back.0)) same back.1.1;
        };
      }

  pub callees_are : AreCallees p (tagged_by tags) uses class breaks recurs
  callees_are = record {
    broken = λ b fits l. (to_break b fits l, from_break b fits l);
    again = λ b l. (to_itself b l, itself_flagged p tags is recurs cycles b l);
  }

-- ---- as Rust shows the graph

pub graph_shown : (n m : ℕ) (g h : Graph) (from to : List ℕ) → g ≡ h → from ≡ g.from → to ≡ g.to → m ≡ n → IsGraph n h.from h.to → IsGraph m from to
graph_shown n m g h from to q e f l is = subst (λ k. IsGraph k from to) (sym l)
    (subst (λ xs. IsGraph n xs to) (sym (e ∙ ap (λ (x : Graph). x.from) q)) (subst (λ xs. IsGraph n h.from xs) (sym (f ∙ ap (λ (x : Graph). x.to) q)) is))

pub callees_shown : (p : Program) (uses : Uses) (tags : List Tags) (class n : ℕ) (g : Graph) (from to from' to' : List ℕ) (items shown breaks recurs : List Bool) → IsProgram p → g ≡ call_graph p tags → from ≡ g.from → to ≡ g.to → from' ≡ g.from → to' ≡ g.to → n ≡ length p.methods
    → items ≡ breaking_nodes p uses tags class (3 * length p.methods) → shown ≡ items → AreLeading from to shown breaks → AreRecurring from' to' (3 * n) recurs → AreCallees p (tagged_by tags) uses class breaks recurs
callees_shown p uses tags class n g from to from' to' items shown breaks recurs is q e f e' f' l i s leads cycles = callees_are p uses tags class is breaks recurs
    (subst (λ xs. AreLeading xs (call_graph p tags).to (breaking_nodes p uses tags class (3 * length p.methods)) breaks) (e ∙ ap (λ (x : Graph). x.from) q)
    (subst (λ xs. AreLeading from xs (breaking_nodes p uses tags class (3 * length p.methods)) breaks) (f ∙ ap (λ (x : Graph). x.to) q) (subst (λ xs. AreLeading from to xs breaks) (s ∙ i) leads)))
    (subst (λ xs. AreRecurring xs (call_graph p tags).to (3 * length p.methods) recurs) (e' ∙ ap (λ (x : Graph). x.from) q)
    (subst (λ xs. AreRecurring from' xs (3 * length p.methods) recurs) (f' ∙ ap (λ (x : Graph). x.to) q) (subst (λ k. AreRecurring from' to' (3 * k) recurs) l cycles)))
