-- A method passes the tests exactly where it keeps `this` inside.
use Rattle.std.proofs.Common.{◌≡◌, ℕ, zero, suc, ◌-◌, Bool, true, false, not, ◌&&◌, ◌||◌, cond, List, [], ◌∷◌, length, map, replicate, Option, Some, None, refl, sym, ap, subst, ◌∙◌, ⊎_elim, ◌==◌, if◌then◌else◌, slice_get, slice_index_or, IsSomeAnd}
use Rattle.std.{specs.List.{list_any, filter}, proofs.lemmas.{Bool.{and_from, or_left, or_right, eq-eqb, eqb-true, and_parts, or_cases}, Option.{slice_get_within, same_Some}}}
use Rattle.jvm_types.specs.{CodeTable.can_throw, Members.is_static, Numbers.has_number, Verifying.{edges, covers, covering, IsLaidOut}, declared.{code.{Insn.Insn, Op.Op}}}
use Rattle.jvm_types.specs.declared.program.{MethodInfo.MethodInfo, Program.Program, Row.Row, Target.Target}
use Rattle.code_table.{specs.PcTables.number_at, proofs.NumbersExact.exact}
use Rattle.checked_program.specs.{FrozenPlaces.{may_take, KeepThis, KeepsThis, is_final_of, PutsOnThis, KeepsInside}, LockTags.{TagShape, is_this, entry_tags}}
use Rattle.checked_program.specs.{TaggedCode.{Tagged, IsAt, Goes, onward, caught, row_of}, Tagging.{catches_all, until_all, catchers, tags_after, tags_at_handler}, declared.tag.Tag.Tag}
use Rattle.checked_program.{specs.declared.tag.Tag.TheVariants.{Untagged, This}, proofs.FrozenChecks.{that_is_this, implied}}
use Rattle.frozen_classes.specs.KeptThis.{all_before, this_at, places_after, places_caught, keeps_places, reached_frame, reached_frame_at, passes_test, passes_at, joins_all, catches_well, caught_well, takes_well, puts_well, keeps_here, keeps_at, begins_well, keeps_all}
use Rattle.frozen_classes.specs.declared.places.Places.{Places}
use Rattle.frozen_classes.proofs.KeptPlaces.{implies, all_each, all_from, after_from, after_to, caught_from, caught_to}
use Rattle.jvm_types.specs.declared.code.Op.TheVariants as ops
use Rattle.jvm_types.specs.declared.program.Target.TheVariants as targets

-- ---- the pcs of a list

abbrev all_pass : (ℕ → Bool) → List ℕ → Bool
all_pass q [] = true
all_pass q (x ∷ xs) = q x && all_pass q xs

pass_each : (q : ℕ → Bool) (xs : List ℕ) (x : ℕ) → all_pass q xs ≡ true → has_number xs x ≡ true → q x ≡ true
pass_each q [] x e h = absurd (let bad : false ≡ true = h in cc)
pass_each q (y ∷ xs) x e h =
    let parts = and_parts (q y) (all_pass q xs) e in
    ⊎_elim (λ (k : (y == x) ≡ true). subst (λ (j : ℕ). q j ≡ true) (eqb-true y x k) parts.0) (λ (k : has_number xs x ≡ true). pass_each q xs x parts.1 k) (or_cases (y == x) (has_number xs x) h)

pass_from : (q : ℕ → Bool) (xs : List ℕ) → ((x : ℕ) → has_number xs x ≡ true → q x ≡ true) → all_pass q xs ≡ true
pass_from q [] h = refl
pass_from q (y ∷ xs) h = and_from (q y) (all_pass q xs) (h y (or_left (y == y) (has_number xs y) (eq-eqb y y refl))) (pass_from q xs (λ x e. h x (or_right (y == x) (has_number xs x) e)))

-- ---- handlers

abbrev pcs_of : List Row → List ℕ
pcs_of rows = map (λ (handler : Row). handler.handler) rows

leads_same : (rows : List Row) (pc : ℕ) → list_any (λ (handler : Row). handler.handler == pc) rows ≡ has_number (pcs_of rows) pc
leads_same [] pc = refl
leads_same (h ∷ rows) pc = ap (λ (b : Bool). (h.handler == pc) || b) (leads_same rows pc)

module _ (m : MethodInfo) (frames : List (Option TagShape)) where
  joins_same : (places : Places) (pcs : List ℕ) → joins_all m frames places pcs ≡ all_pass (λ pc. passes_at m frames (keeps_places places) (number_at m.code pc)) pcs
  joins_same places [] = refl
  joins_same places (pc ∷ pcs) = ap (λ (b : Bool). passes_at m frames (keeps_places places) (number_at m.code pc) && b) (joins_same places pcs)

  catches_same : (places : Places) (at : ℕ) (rows : List Row) → catches_well m frames places at rows ≡ all_pass (λ pc. passes_at m frames (keeps_places places) (number_at m.code pc)) (pcs_of (until_all (filter (covers at) rows)))
  catches_same places at [] = refl
  catches_same places at (h ∷ rows) = by_test (covers at h) (catches_all h) refl (catches_same places at rows)
    where
      by_test : (b c : Bool) → catches_all h ≡ c → catches_well m frames places at rows ≡ all_pass (λ pc. passes_at m frames (keeps_places places) (number_at m.code pc)) (pcs_of (until_all (filter (covers at) rows)))
          → (if b then passes_at m frames (keeps_places places) (number_at m.code h.handler) && (c || catches_well m frames places at rows) else catches_well m frames places at rows)
          ≡ all_pass (λ pc. passes_at m frames (keeps_places places) (number_at m.code pc)) (pcs_of (until_all (cond b (h ∷ filter (covers at) rows) (filter (covers at) rows))))
      by_test true true e r = rw e refl
      by_test true false e r = rw e (ap (λ (b : Bool). passes_at m frames (keeps_places places) (number_at m.code h.handler) && b) r)
      by_test false c e r = r

  caught_same : (f : TagShape) (insn : Insn) → caught_well m frames f insn ≡ all_pass (λ pc. passes_at m frames (keeps_places (places_caught f)) (number_at m.code pc)) (pcs_of (catchers m insn))
  caught_same f insn = by_test (can_throw insn.op)
    where
      by_test : (b : Bool) → (if b then catches_well m frames (places_caught f) insn.pc m.rows else true) ≡ all_pass (λ pc. passes_at m frames (keeps_places (places_caught f)) (number_at m.code pc)) (pcs_of (if b then until_all (covering m insn.pc) else []))
      by_test true = catches_same (places_caught f) insn.pc m.rows
      by_test false = refl

-- ---- what stands at a number

passes_each : (test : TagShape → Bool) (oi : Option Insn) (ot : Option Target) (of : Option (Option TagShape)) (insn : Insn) (target : Target) (g : TagShape) → oi ≡ Some insn → ot ≡ Some target → of ≡ Some (Some g) → passes_test test (reached_frame oi ot of) ≡ true → test g ≡ true
passes_each test oi ot of insn target g a b c e = let there : reached_frame oi ot of ≡ Some g = rw (a, b, c) refl in subst (λ (o : Option TagShape). passes_test test o ≡ true) there e

passes_from : (test : TagShape → Bool) (oi : Option Insn) (ot : Option Target) (of : Option (Option TagShape)) → ((insn : Insn) (target : Target) (g : TagShape) → oi ≡ Some insn → ot ≡ Some target → of ≡ Some (Some g) → test g ≡ true) → passes_test test (reached_frame oi ot of) ≡ true
passes_from test (Some insn) (Some target) (Some (Some g)) h = h insn target g refl refl refl
passes_from test oi ot of h = refl

keeps_at_from : (p : Program) (m : MethodInfo) (frames : List (Option TagShape)) (oi : Option Insn) (ot : Option Target) (of : Option (Option TagShape))
    → ((insn : Insn) (target : Target) (f : TagShape) → oi ≡ Some insn → ot ≡ Some target → of ≡ Some (Some f) → keeps_here p m frames insn target (row_of p m insn target) f ≡ true) → keeps_at p m frames oi ot of ≡ true
keeps_at_from p m frames (Some insn) (Some target) (Some (Some f)) h = h insn target f refl refl refl
keeps_at_from p m frames oi ot of h = refl

stands : (o : Option Insn) (pc : ℕ) (other : Insn) → IsSomeAnd o (λ insn. insn.pc ≡ pc) → o ≡ Some other → other.pc ≡ pc
stands (Some insn) pc other h e = subst (λ (i : Insn). i.pc ≡ pc) (same_Some insn other e) h
stands None pc other h e = absurd h

pub stands_to : (o : Option Insn) (insn : Insn) → o ≡ Some insn → IsSomeAnd o (λ x. x.pc ≡ insn.pc)
stands_to o insn e = rw e refl

-- ---- the start

none_this : (n k : ℕ) → slice_index_or (replicate n Untagged) k Untagged ≡ This → ⊥
none_this (suc n) (suc k) e = none_this n k e
none_this n k e = cc

entry_from : (b : Bool) (n : ℕ) (us : List Tag) → (b || this_at us 0) ≡ true → KeepThis (if b then replicate n Untagged else This ∷ replicate (n - 1) Untagged) us
entry_from true n us e k h = absurd (none_this n k h)
entry_from false n us e zero h = that_is_this (slice_index_or us 0 Untagged) e
entry_from false n us e (suc k) h = absurd (none_this (n - 1) k h)

entry_to : (b : Bool) (n : ℕ) (us : List Tag) → KeepThis (if b then replicate n Untagged else This ∷ replicate (n - 1) Untagged) us → (b || this_at us 0) ≡ true
entry_to true n us h = refl
entry_to false n us h = ap is_this (h 0 refl)

no_stack : (us : List Tag) → KeepThis [] us
no_stack us k h = cc

-- ---- final fields

puts_from : (p : Program) (m : MethodInfo) (op : Op) (target : Target) (f : TagShape) → puts_well p m.class op target f ≡ true → PutsOnThis p m op target f
puts_from p m (ops.Putfield i) (targets.Field fi) f e = λ h. that_is_this (slice_index_or f.stack 1 Untagged) (implied (is_final_of m.class (slice_get p.fields fi)) (this_at f.stack 1) e h)
puts_from p m op target f e = tt

puts_to : (p : Program) (m : MethodInfo) (op : Op) (target : Target) (f : TagShape) → PutsOnThis p m op target f → puts_well p m.class op target f ≡ true
puts_to p m (ops.Putfield i) (targets.Field fi) f h = implies (is_final_of m.class (slice_get p.fields fi)) (this_at f.stack 1) (λ e. ap is_this (h e))
puts_to p m op target f h = refl

-- ---- a method

module _ (p : Program) (tags : Tagged) (mi : ℕ) (m : MethodInfo) (frames : List (Option TagShape)) (at_m : slice_get p.methods mi ≡ Some m) (laid : IsLaidOut m) (at_frames : slice_get tags mi ≡ Some frames) where
  is_at : (i : ℕ) (insn : Insn) (target : Target) (f : TagShape) → slice_get m.code i ≡ Some insn → slice_get m.targets i ≡ Some target → slice_get frames i ≡ Some (Some f) → IsAt p tags mi i m insn target f
  is_at i insn target f a b c = record { in_program = at_m; in_code = a; names = b; frames = frames; of_method = at_frames; frame = c }

  frame_at : (i : ℕ) (insn : Insn) (target : Target) (f : TagShape) → IsAt p tags mi i m insn target f → slice_get frames i ≡ Some (Some f)
  frame_at i insn target f at = subst (λ (l : List (Option TagShape)). slice_get l i ≡ Some (Some f)) (same_Some at.frames frames (sym at.of_method ∙ at_frames)) at.frame

  -- a test of what stands at a pc
  pc_each : (test : TagShape → Bool) (j : ℕ) (other : Insn) (next : Target) (g : TagShape) → IsAt p tags mi j m other next g → passes_at m frames test (number_at m.code other.pc) ≡ true → test g ≡ true
  pc_each test j other next g at e =
      let number : number_at m.code other.pc ≡ Some j = (exact m other.pc j laid).1 (stands_to (slice_get m.code j) other at.in_code) in
      passes_each test (slice_get m.code j) (slice_get m.targets j) (slice_get frames j) other next g at.in_code at.names (frame_at j other next g at) (subst (λ (o : Option ℕ). passes_at m frames test o ≡ true) number e)

  pc_from : (test : TagShape → Bool) (pc : ℕ) → ((j : ℕ) (other : Insn) (next : Target) (g : TagShape) → other.pc ≡ pc → IsAt p tags mi j m other next g → test g ≡ true) → passes_at m frames test (number_at m.code pc) ≡ true
  pc_from test pc h = by_number (number_at m.code pc) refl
    where
      by_number : (o : Option ℕ) → number_at m.code pc ≡ o → passes_at m frames test o ≡ true
      by_number None e = refl
      by_number (Some j) e = passes_from test (slice_get m.code j) (slice_get m.targets j) (slice_get frames j)
          (λ other next g a b c. h j other next g (stands (slice_get m.code j) pc other ((exact m pc j laid).0 e) a) (is_at j other next g a b c))

  -- ---- from the tests

  module _ (e : keeps_all p m frames ≡ true) where
    parts : (begins_well m (reached_frame_at m frames 0) ≡ true) × (all_before (λ i. keeps_at p m frames (slice_get m.code i) (slice_get m.targets i) (slice_get frames i)) (length m.code) ≡ true)
    parts = and_parts (begins_well m (reached_frame_at m frames 0)) (all_before (λ i. keeps_at p m frames (slice_get m.code i) (slice_get m.targets i) (slice_get frames i)) (length m.code)) e

    here : (i : ℕ) (insn : Insn) (target : Target) (f : TagShape) → IsAt p tags mi i m insn target f → keeps_here p m frames insn target (row_of p m insn target) f ≡ true
    here i insn target f at =
        let well : keeps_at p m frames (slice_get m.code i) (slice_get m.targets i) (slice_get frames i) ≡ true = all_each (λ i. keeps_at p m frames (slice_get m.code i) (slice_get m.targets i) (slice_get frames i)) (length m.code) i parts.1 (slice_get_within m.code i insn at.in_code) in
        let same : keeps_at p m frames (slice_get m.code i) (slice_get m.targets i) (slice_get frames i) ≡ keeps_here p m frames insn target (row_of p m insn target) f = rw (at.in_code, at.names, frame_at i insn target f at) refl in
        sym same ∙ well

    record Here (insn : Insn) (target : Target) (f : TagShape) : Type 0 where
      pub takes : takes_well p m.class insn.op target f (length (row_of p m insn target).takes) ≡ true
      pub puts : puts_well p m.class insn.op target f ≡ true
      pub joins : joins_all m frames (places_after (row_of p m insn target) f) (edges insn) ≡ true
      pub catches : caught_well m frames f insn ≡ true

    split : (i : ℕ) (insn : Insn) (target : Target) (f : TagShape) → IsAt p tags mi i m insn target f → Here insn target f
    split i insn target f at =
        let a = and_parts (takes_well p m.class insn.op target f (length (row_of p m insn target).takes)) (puts_well p m.class insn.op target f && (joins_all m frames (places_after (row_of p m insn target) f) (edges insn) && caught_well m frames f insn)) (here i insn target f at) in
        let b = and_parts (puts_well p m.class insn.op target f) (joins_all m frames (places_after (row_of p m insn target) f) (edges insn) && caught_well m frames f insn) a.1 in
        let c = and_parts (joins_all m frames (places_after (row_of p m insn target) f) (edges insn)) (caught_well m frames f insn) b.1 in
        record { takes = a.0; puts = b.0; joins = c.0; catches = c.1 }

    joined : (i j : ℕ) (insn other : Insn) (target next : Target) (f g h : TagShape) → IsAt p tags mi i m insn target f → IsAt p tags mi j m other next g → Goes p m insn target f other h → KeepsThis h g
    joined i j insn _ target next f g _ from to (onward other goes) = after_from p m insn target f g (pc_each (keeps_places (places_after (row_of p m insn target) f)) j other next g to
        (pass_each (λ pc. passes_at m frames (keeps_places (places_after (row_of p m insn target) f)) (number_at m.code pc)) (edges insn) other.pc (sym (joins_same m frames (places_after (row_of p m insn target) f) (edges insn)) ∙ (split i insn target f from).joins) goes))
    joined i j insn _ target next f g _ from to (caught other goes) = caught_from f g (pc_each (keeps_places (places_caught f)) j other next g to
        (pass_each (λ pc. passes_at m frames (keeps_places (places_caught f)) (number_at m.code pc)) (pcs_of (catchers m insn)) other.pc (sym (caught_same m frames f insn) ∙ (split i insn target f from).catches) (sym (leads_same (catchers m insn) other.pc) ∙ goes)))

    entered : (insn : Insn) (target : Target) (f : TagShape) → IsAt p tags mi 0 m insn target f → KeepsThis (entry_tags m) f
    entered insn target f at = record {
      stack = no_stack f.stack;
      locals = entry_from (is_static m.flags) m.max_locals f.locals (passes_each (λ (f : TagShape). is_static m.flags || this_at f.locals 0) (slice_get m.code 0) (slice_get m.targets 0) (slice_get frames 0) insn target f at.in_code at.names (frame_at 0 insn target f at) parts.0);
    }

    pub is_inside : KeepsInside p tags mi m
    is_inside = record {
      taken = λ i insn target f at k low h. implied (this_at f.stack k) (may_take p m.class insn.op target k) (all_each (λ k. not (this_at f.stack k) || may_take p m.class insn.op target k) (length (row_of p m insn target).takes) k (split i insn target f at).takes low) (ap is_this h);
      entered = entered;
      joined = joined;
      finals = λ i insn target f at. puts_from p m insn.op target f (split i insn target f at).puts;
    }

  -- ---- to the tests

  module _ (inside : KeepsInside p tags mi m) where
    begins : begins_well m (reached_frame_at m frames 0) ≡ true
    begins = passes_from (λ (f : TagShape). is_static m.flags || this_at f.locals 0) (slice_get m.code 0) (slice_get m.targets 0) (slice_get frames 0)
        (λ insn target f a b c. entry_to (is_static m.flags) m.max_locals f.locals (inside.entered insn target f (is_at 0 insn target f a b c)).locals)

    module _ (i : ℕ) (insn : Insn) (target : Target) (f : TagShape) (at : IsAt p tags mi i m insn target f) where
      takes_to : takes_well p m.class insn.op target f (length (row_of p m insn target).takes) ≡ true
      takes_to = all_from (λ k. not (this_at f.stack k) || may_take p m.class insn.op target k) (length (row_of p m insn target).takes)
          (λ k low. implies (this_at f.stack k) (may_take p m.class insn.op target k) (λ e. inside.taken i insn target f at k low (that_is_this (slice_index_or f.stack k Untagged) e)))

      joins_to : joins_all m frames (places_after (row_of p m insn target) f) (edges insn) ≡ true
      joins_to = joins_same m frames (places_after (row_of p m insn target) f) (edges insn) ∙ pass_from (λ pc. passes_at m frames (keeps_places (places_after (row_of p m insn target) f)) (number_at m.code pc)) (edges insn)
          (λ pc e. pc_from (keeps_places (places_after (row_of p m insn target) f)) pc
          (λ j other next g q to. after_to p m insn target f g (inside.joined i j insn other target next f g (tags_after insn (row_of p m insn target) f) at to (onward other (subst (λ (x : ℕ). has_number (edges insn) x ≡ true) (sym q) e)))))

      catches_to : caught_well m frames f insn ≡ true
      catches_to = caught_same m frames f insn ∙ pass_from (λ pc. passes_at m frames (keeps_places (places_caught f)) (number_at m.code pc)) (pcs_of (catchers m insn))
          (λ pc e. pc_from (keeps_places (places_caught f)) pc
          (λ j other next g q to. caught_to f g (inside.joined i j insn other target next f g (tags_at_handler f) at to (caught other (subst (λ (x : ℕ). list_any (λ (handler : Row). handler.handler == x) (catchers m insn) ≡ true) (sym q) (leads_same (catchers m insn) pc ∙ e))))))

      here_to : keeps_here p m frames insn target (row_of p m insn target) f ≡ true
      here_to = and_from (takes_well p m.class insn.op target f (length (row_of p m insn target).takes)) (puts_well p m.class insn.op target f && (joins_all m frames (places_after (row_of p m insn target) f) (edges insn) && caught_well m frames f insn)) takes_to
          (and_from (puts_well p m.class insn.op target f) (joins_all m frames (places_after (row_of p m insn target) f) (edges insn) && caught_well m frames f insn) (puts_to p m insn.op target f (inside.finals i insn target f at))
          (and_from (joins_all m frames (places_after (row_of p m insn target) f) (edges insn)) (caught_well m frames f insn) joins_to catches_to))

    pub passes_all : keeps_all p m frames ≡ true
    passes_all = and_from (begins_well m (reached_frame_at m frames 0)) (all_before (λ i. keeps_at p m frames (slice_get m.code i) (slice_get m.targets i) (slice_get frames i)) (length m.code)) begins
        (all_from (λ i. keeps_at p m frames (slice_get m.code i) (slice_get m.targets i) (slice_get frames i)) (length m.code)
        (λ i low. keeps_at_from p m frames (slice_get m.code i) (slice_get m.targets i) (slice_get frames i) (λ insn target f a b c. here_to i insn target f (is_at i insn target f a b c))))
