-- The methods that a method reaches through calls, and how many instructions these have.
use Rattle.std.proofs.Common.{◌≡◌, ℕ, zero, suc, ◌+◌, ◌<◌, ◌≤◌, ◌≢◌, Bool, true, false, List, [], ◌∷◌, length, refl, sym, ap, subst, ◌∙◌, arith, ⊎_elim, get_or-set_same, get_or-set_other, ◌==◌, Contains, replicate, slice_get, slice_index_or}
use Rattle.std.specs.List.{AllByRecursion, IsDistinct, sum_by}
use Rattle.std.proofs.lemmas.{Bool.{cases_eq, false≢true, Decides.nat_tests}, List.{length-replicate, length-set, get_or-replicate, Sums.sum_by-cons}}
use Rattle.jvm_types.specs.{ProgramInvariant.IsProgram, declared.program.{MethodInfo.MethodInfo, Program.Program}}
use Rattle.graph_closure.{specs.{LeastSet.IsGraph, Walks.{Walks, Leads, AreLeading}}, proofs.WalkLaws.leads_more}
use Rattle.checked_program.specs.{MethodCalls.{method_calls, only_one, size_found, size_if, AreReached}, Reach.{HasCall, HasCalls, IsReach, size_of}, declared.call_edges.Graph.Graph}
use Rattle.checked_program.proofs.MethodEdges.{size_before, size_before-le, turned_is_graph, call_inside, edge_of, call_of}

-- ---- chains of calls and walks back along them

more_calls : (p : Program) (a : ℕ) (vs : List ℕ) (b c : ℕ) → HasCalls p a vs b → HasCall p b c → (us : List ℕ) × HasCalls p a us c
more_calls p a [] b c w e = (c ∷ [], (subst (λ x. HasCall p x c) (sym w) e, refl))
more_calls p a (v ∷ vs) b c w e = let r = more_calls p v vs b c w.1 e in (v ∷ r.0, (w.0, r.1))

module _ (p : Program) (is : IsProgram p) where
  abbrev calls : Graph
  calls = method_calls p.methods (length p.methods)

  leads_back : (a : ℕ) (vs : List ℕ) (u : ℕ) → HasCalls p a vs u → Leads calls.to calls.from u a
  leads_back a [] u w = ([], sym w)
  leads_back a (v ∷ vs) u w = leads_more calls.to calls.from u v a (leads_back v vs u w.1) (edge_of p is a v w.0)

  calls_along : (u : ℕ) (ns : List ℕ) (a : ℕ) → Walks calls.to calls.from u ns a → (vs : List ℕ) × HasCalls p a vs u
  calls_along u [] a w = ([], sym w)
  calls_along u (n ∷ ns) a w = let r = calls_along n ns a w.1 in more_calls p a r.0 n u r.1 (call_of p is n u w.0)

  chain_inside : (a : ℕ) (vs : List ℕ) (u : ℕ) → a < length p.methods → HasCalls p a vs u → u < length p.methods
  chain_inside a [] u l w = subst (λ x. x < length p.methods) w l
  chain_inside a (v ∷ vs) u l w = chain_inside v vs u (call_inside p is a v w.0) w.1

-- ---- one node of a set

one_long : (n mi : ℕ) → length (only_one n mi) ≡ n
one_long n mi = length-set (replicate n false) mi true ∙ length-replicate n false

one_there : (n mi : ℕ) → mi < n → slice_index_or (only_one n mi) mi false ≡ true
one_there n mi l = let low : mi < length (replicate n false) = rw length-replicate l in rw get_or-set_same refl

one_alone : (n mi b : ℕ) → b < n → slice_index_or (only_one n mi) b false ≡ true → b ≡ mi
one_alone n mi b l e = ⊎_elim (λ (q : b ≡ mi). q) (λ (q : b ≢ mi). absurd (let bad : true ≡ false = sym e ∙ (rw get_or-set_other (get_or-replicate n b false false l)) in cc)) (cases_eq b mi)

pub reached_found : (p : Program) (mi : ℕ) (found : List Bool) → IsProgram p → mi < length p.methods
    → AreLeading (method_calls p.methods (length p.methods)).to (method_calls p.methods (length p.methods)).from (only_one (length p.methods) mi) found → AreReached p mi found
reached_found p mi found is inside leads u l =
    let long : length (only_one (length p.methods) mi) ≡ length p.methods = one_long (length p.methods) mi in
    let low : u < length (only_one (length p.methods) mi) = rw long l in (
      λ e.
          let r = (leads.each u low).0 e in
          let is_one : r.0 ≡ mi = one_alone (length p.methods) mi r.0 (subst (λ n. r.0 < n) long r.1) r.3 in
          calls_along p is u r.2.0 mi (subst (λ x. Walks (calls p is).to (calls p is).from u r.2.0 x) is_one r.2.1),
      λ w. (leads.each u low).1 (mi, rw long inside, leads_back p is mi w.0 u w.1, one_there (length p.methods) mi inside),
    )

-- ---- the methods that are found, each once

abbrev put_if : Bool → ℕ → List ℕ → List ℕ
put_if false u us = us
put_if true u us = u ∷ us

abbrev found_before : List Bool → ℕ → List ℕ
found_before found zero = []
found_before found (suc u) = put_if (slice_index_or found u false) u (found_before found u)

-- a method below, which is found
abbrev IsFound : List Bool → ℕ → ℕ → Type 0
IsFound found k u = (u < k) × (slice_index_or found u false ≡ true)

behind : (u y : ℕ) (us : List ℕ) → Contains us y → Contains (u ∷ us) y
behind u y us c = (suc c.0, (let low : c.0 < length us = c.1 in omega (arith, low)), c.2)

found_only : (found : List Bool) (k u : ℕ) → Contains (found_before found k) u → IsFound found k u
found_only found zero u c = absurd (let low : c.0 < 0 = c.1 in omega (arith, low))
found_only found (suc k) u c = by_flag (slice_index_or found k false) refl c (found_only found k u)
  where
    later : IsFound found k u → IsFound found (suc k) u
    later r = let low : u < k = r.0 in (omega (arith, low), r.1)

    by_flag : (t : Bool) → slice_index_or found k false ≡ t → Contains (put_if t k (found_before found k)) u → (Contains (found_before found k) u → IsFound found k u) → IsFound found (suc k) u
    by_flag false w c more = later (more c)
    by_flag true w (zero, lt, e) more = (let same : k ≡ u = e in omega (arith, same), subst (λ x. slice_index_or found x false ≡ true) e w)
    by_flag true w (suc i, lt, e) more = later (more (i, omega (arith, lt), e))

found_all : (found : List Bool) (k u : ℕ) → u < k → slice_index_or found u false ≡ true → Contains (found_before found k) u
found_all found zero u l w = absurd (omega (arith, l))
found_all found (suc k) u l w = ⊎_elim (λ (q : u ≡ k). here (slice_index_or found k false) (subst (λ x. slice_index_or found x false ≡ true) q w) q) (λ (q : u ≢ k). there (slice_index_or found k false) (found_all found k u (omega (arith, l, q)) w)) (cases_eq u k)
  where
    here : (t : Bool) → t ≡ true → u ≡ k → Contains (put_if t k (found_before found k)) u
    here true e q = (0, omega arith, sym q)
    here false e q = absurd (false≢true e)

    there : (t : Bool) → Contains (found_before found k) u → Contains (put_if t k (found_before found k)) u
    there true c = behind k u (found_before found k) c
    there false c = c

differs : (u y : ℕ) → y < u → (u == y) ≡ false
differs u y = grind (arith, nat_tests)

all_differ : (found : List Bool) (k u : ℕ) → k ≤ u → AllByRecursion (λ y. (u == y) ≡ false) (found_before found k)
all_differ found zero u l = tt
all_differ found (suc k) u l =
    let rest : AllByRecursion (λ y. (u == y) ≡ false) (found_before found k) = all_differ found k u (omega (arith, l)) in
    elim (slice_index_or found k false) as (λ t. AllByRecursion (λ y. (u == y) ≡ false) (put_if t k (found_before found k))) [ true ↦ (differs u k (omega (arith, l)), rest) | false ↦ rest ]

found_distinct : (found : List Bool) (k : ℕ) → IsDistinct (λ u v. u == v) (found_before found k)
unfolding IsDistinct
found_distinct found zero = tt
found_distinct found (suc k) =
    let rest = found_distinct found k in
    elim (slice_index_or found k false) as (λ t. IsDistinct (λ u v. u == v) (put_if t k (found_before found k))) [ true ↦ (all_differ found k k (omega arith), rest) | false ↦ rest ]

-- ---- their instructions

found_size : (ms : List MethodInfo) (found : List Bool) (k : ℕ) → size_found ms found k ≡ sum_by (λ u. size_of (slice_get ms u)) (found_before found k)
found_size ms found zero = refl
found_size ms found (suc k) =
    elim (slice_index_or found k false) as (λ t. size_found ms found k + size_if t (slice_get ms k) ≡ sum_by (λ u. size_of (slice_get ms u)) (put_if t k (found_before found k))) [
      | true ↦ omega (arith, found_size ms found k, sum_by-cons (λ u. size_of (slice_get ms u)) k (found_before found k))
      | false ↦ omega (arith, found_size ms found k)
    ]

found_few : (ms : List MethodInfo) (found : List Bool) (k : ℕ) → size_found ms found k ≤ size_before ms k
found_few ms found zero = omega arith
found_few ms found (suc k) = elim (slice_index_or found k false) as (λ t. size_found ms found k + size_if t (slice_get ms k) ≤ size_before ms k + size_of (slice_get ms k)) [
  | true ↦ omega (arith, found_few ms found k)
  | false ↦ omega (arith, found_few ms found k)
]

pub found_fits : (ms : List MethodInfo) (found : List Bool) (k n : ℕ) → sum_by (λ m. length m.code) ms ≤ n → size_found ms found k ≤ n
found_fits ms found k n h = omega (arith, found_few ms found k, size_before-le ms k, h)

pub reach_found : (p : Program) (mi : ℕ) (found : List Bool) → IsProgram p → mi < length p.methods → AreReached p mi found → IsReach p mi (size_found p.methods found (length p.methods))
reach_found p mi found is inside are = record {
  methods = found_before found (length p.methods);
  distinct = found_distinct found (length p.methods);
  called = λ u c. let r = found_only found (length p.methods) u c in (are u r.0).0 r.1;
  all = λ u vs w. let low : u < length p.methods = chain_inside p is mi vs u inside w in found_all found (length p.methods) u low ((are u low).1 (vs, w));
  count = found_size p.methods found (length p.methods);
}

-- ---- as Rust shows the graph and the set

pub record Showing (p : Program) (mi : ℕ) : Type 0 where
  pub n : ℕ
  pub g : Graph
  pub to : List ℕ
  pub from : List ℕ
  pub into : List Bool
  pub shown : List Bool
  pub graph_is : g ≡ method_calls p.methods (length p.methods)
  pub to_is : to ≡ g.to
  pub from_is : from ≡ g.from
  pub count : n ≡ length p.methods
  pub into_is : into ≡ only_one n mi
  pub shown_is : shown ≡ into

module _ (p : Program) (mi : ℕ) (showing : Showing p mi) where
  open showing use {to, from, shown, graph_is as q, to_is as t, from_is as f, count as l, into_is as i, shown_is as s}

  abbrev all_calls : Graph
  all_calls = method_calls p.methods (length p.methods)

  abbrev one : List Bool
  one = only_one (length p.methods) mi

  to_is : to ≡ all_calls.to
  to_is = t ∙ ap (λ (x : Graph). x.to) q

  from_is : from ≡ all_calls.from
  from_is = f ∙ ap (λ (x : Graph). x.from) q

  one_is : shown ≡ one
  one_is = s ∙ i ∙ ap (λ k. only_one k mi) l

  pub shown_graph : IsProgram p → IsGraph (length shown) to from
  shown_graph is =
      let long : length p.methods ≡ length shown = sym (ap length one_is ∙ one_long (length p.methods) mi) in
      subst (λ x. IsGraph (length shown) x from) (sym to_is) (subst (λ x. IsGraph (length shown) all_calls.to x) (sym from_is) (subst (λ k. IsGraph k all_calls.to all_calls.from) long (turned_is_graph p is)))

  pub shown_reached : (found : List Bool) → IsProgram p → mi < length p.methods → AreLeading to from shown found → AreReached p mi found
  shown_reached found is inside leads = reached_found p mi found is inside
      (subst (λ x. AreLeading x all_calls.from one found) to_is (subst (λ x. AreLeading to x one found) from_is (subst (λ x. AreLeading to from x found) one_is leads)))
