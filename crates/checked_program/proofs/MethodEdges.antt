-- The edges of the graph of all calls are the calls, and they are few.
use Rattle.std.proofs.Common.{◌≡◌, ℕ, zero, suc, ◌+◌, ◌<◌, ◌≤◌, ◌≢◌, Bool, true, false, List, [], ◌∷◌, length, Option, Some, None, refl, sym, subst, ◌∙◌, arith, ⊎_elim, inl, inr, ◌⊎◌, nat_lt, if◌then◌else◌, slice_get, slice_index}
use Rattle.std.{specs.List.sum_by, proofs.lemmas.{Bool.{cases_eq, Decides.nat_tests}, List.Sums.sum_by-cons, Option.{slice_get_within, same_Some}}}
use Rattle.jvm_types.specs.{ProgramInvariant.{IsProgram, IsTargetOf, site_in}, declared.{code.Insn.Insn, program.{MethodInfo.MethodInfo, Program.Program, Target.Target}}}
use Rattle.laws_programs.proofs.CodeOrder.{have_targets}
use Rattle.graph_closure.specs.{LeastSet.IsGraph, Walks.IsEdge}
use Rattle.checked_program.specs.{Marks.called_method, MethodCalls.{called_by, among, method_call, calls_before, calls_from, method_calls}, Reach.{HasCall, size_of}, declared.call_edges.Graph.Graph}
use Rattle.checked_program.proofs.{CalledMethods.named, EdgesAdded.{IsAlike, with_alike, with_kept, with_added, with_old, with_few}}

-- ---- the calls of one method

module _ (n : ℕ) (m : MethodInfo) (a : ℕ) (g : Graph) (l : IsAlike g) where
  before_alike : (i : ℕ) → IsAlike (calls_before n m a g i)
  before_alike zero = l
  before_alike (suc i) = with_alike a (calls_before n m a g i) (method_call n m i) (before_alike i)

  before_kept : (i x y : ℕ) → IsEdge g.from g.to x y → IsEdge (calls_before n m a g i).from (calls_before n m a g i).to x y
  before_kept zero x y e = e
  before_kept (suc i) x y e = with_kept a (calls_before n m a g i) (method_call n m i) x y (before_alike i) (before_kept i x y e)

  before_added : (i j b : ℕ) → j < i → method_call n m j ≡ Some b → IsEdge (calls_before n m a g i).from (calls_before n m a g i).to a b
  before_added zero j b h c = absurd (omega (arith, h))
  before_added (suc i) j b h c = ⊎_elim
      (λ (q : j ≡ i). with_added a (calls_before n m a g i) (method_call n m i) b (before_alike i) (subst (λ k. method_call n m k ≡ Some b) q c))
      (λ (q : j ≢ i). with_kept a (calls_before n m a g i) (method_call n m i) a b (before_alike i) (before_added i j b (omega (arith, h, q)) c))
      (cases_eq j i)

  before_old : (i x y : ℕ) → IsEdge (calls_before n m a g i).from (calls_before n m a g i).to x y → IsEdge g.from g.to x y ⊎ ((x ≡ a) × ((j : ℕ) × (method_call n m j ≡ Some y)))
  before_old zero x y e = inl e
  before_old (suc i) x y e = ⊎_elim (λ k. before_old i x y k) (λ k. inr (k.0, (i, k.1))) (with_old a (calls_before n m a g i) (method_call n m i) x y (before_alike i) e)

-- ---- the calls of the first methods

-- a call of a method
record CallOf (n : ℕ) (om : Option MethodInfo) (y : ℕ) : Type 0 where
  pub m : MethodInfo
  pub is_m : om ≡ Some m
  pub i : ℕ
  pub call : method_call n m i ≡ Some y

-- an instruction that calls a method, with its target
record CallParts (n : ℕ) (oi : Option Insn) (ot : Option Target) (y : ℕ) : Type 0 where
  pub insn : Insn
  pub target : Target
  pub is_insn : oi ≡ Some insn
  pub is_target : ot ≡ Some target
  pub called : called_method insn.op target ≡ Some y
  pub inside : y < n

among_parts : (n : ℕ) (o : Option ℕ) (y : ℕ) → among n o ≡ Some y → (o ≡ Some y) × (y < n)
among_parts n None y e = absurd (let bad : None ≡ Some y = e in cc)
among_parts n (Some u) y e = by_test (nat_lt u n) refl e
  where
    by_test : (t : Bool) → nat_lt u n ≡ t → (if t then Some u else None) ≡ Some y → (Some u ≡ Some y) × (y < n)
    by_test true w k = (k, subst (λ z. z < n) (same_Some u y k) (grind (arith, nat_tests)))
    by_test false w k = absurd (let bad : None ≡ Some y = k in cc)

among_there : (n u : ℕ) → u < n → among n (Some u) ≡ Some u
among_there n u h = let test : nat_lt u n ≡ true = grind (arith, nat_tests) in rw test refl

parts_of : (n : ℕ) (oi : Option Insn) (ot : Option Target) (y : ℕ) → among n (called_by oi ot) ≡ Some y → CallParts n oi ot y
parts_of n (Some insn) (Some target) y e = let k = among_parts n (called_method insn.op target) y e in record { insn = insn; target = target; is_insn = refl; is_target = refl; called = k.0; inside = k.1 }
parts_of n (Some insn) None y e = absurd (let bad : None ≡ Some y = e in cc)
parts_of n None ot y e = absurd (let bad : None ≡ Some y = e in cc)

from_alike : (n : ℕ) (om : Option MethodInfo) (a : ℕ) (g : Graph) → IsAlike g → IsAlike (calls_from n om a g)
from_alike n (Some m) a g l = before_alike n m a g l (length m.code)
from_alike n None a g l = l

from_kept : (n : ℕ) (om : Option MethodInfo) (a : ℕ) (g : Graph) (x y : ℕ) → IsAlike g → IsEdge g.from g.to x y → IsEdge (calls_from n om a g).from (calls_from n om a g).to x y
from_kept n (Some m) a g x y l e = before_kept n m a g l (length m.code) x y e
from_kept n None a g x y l e = e

from_added : (n : ℕ) (om : Option MethodInfo) (a : ℕ) (g : Graph) (y : ℕ) → IsAlike g → CallOf n om y → IsEdge (calls_from n om a g).from (calls_from n om a g).to a y
from_added n om a g y l c =
    let parts = parts_of n (slice_get c.m.code c.i) (slice_get c.m.targets c.i) y c.call in
    rw c.is_m (before_added n c.m a g l (length c.m.code) c.i y (slice_get_within c.m.code c.i parts.insn parts.is_insn) c.call)

from_old : (n : ℕ) (om : Option MethodInfo) (a : ℕ) (g : Graph) (x y : ℕ) → IsAlike g → IsEdge (calls_from n om a g).from (calls_from n om a g).to x y → IsEdge g.from g.to x y ⊎ ((x ≡ a) × CallOf n om y)
from_old n (Some m) a g x y l e = ⊎_elim (λ k. inl k) (λ k. inr (k.0, record { m = m; is_m = refl; i = k.1.0; call = k.1.1 })) (before_old n m a g l (length m.code) x y e)
from_old n None a g x y l e = inl e

module _ (ms : List MethodInfo) where
  calls_alike : (k : ℕ) → IsAlike (method_calls ms k)
  calls_alike zero = refl
  calls_alike (suc a) = from_alike (length ms) (slice_get ms a) a (method_calls ms a) (calls_alike a)

  calls_added : (k a y : ℕ) → a < k → CallOf (length ms) (slice_get ms a) y → IsEdge (method_calls ms k).from (method_calls ms k).to a y
  calls_added zero a y h c = absurd (omega (arith, h))
  calls_added (suc k) a y h c = ⊎_elim
      (λ (q : a ≡ k). subst (λ j. IsEdge (method_calls ms (suc j)).from (method_calls ms (suc j)).to a y) q (from_added (length ms) (slice_get ms a) a (method_calls ms a) y (calls_alike a) c))
      (λ (q : a ≢ k). from_kept (length ms) (slice_get ms k) k (method_calls ms k) a y (calls_alike k) (calls_added k a y (omega (arith, h, q)) c))
      (cases_eq a k)

  calls_old : (k x y : ℕ) → IsEdge (method_calls ms k).from (method_calls ms k).to x y → (x < k) × CallOf (length ms) (slice_get ms x) y
  calls_old zero x y e = absurd (let low : e.0 < 0 = e.1 in omega (arith, low))
  calls_old (suc k) x y e = ⊎_elim
      (λ s. let r = calls_old k x y s in let low : x < k = r.0 in (omega (arith, low), r.1))
      (λ s. (let same : x ≡ k = s.0 in omega (arith, same), subst (λ z. CallOf (length ms) (slice_get ms z) y) (sym s.0) s.1))
      (from_old (length ms) (slice_get ms k) k (method_calls ms k) x y (calls_alike k) e)

-- ---- few edges

-- the instructions of the first methods
abbrev pub size_before : List MethodInfo → ℕ → ℕ
size_before ms zero = 0
size_before ms (suc k) = size_before ms k + size_of (slice_get ms k)

before_few : (n : ℕ) (m : MethodInfo) (a : ℕ) (g : Graph) (i : ℕ) → length (calls_before n m a g i).from ≤ length g.from + i
before_few n m a g zero = omega arith
before_few n m a g (suc i) = omega (arith, with_few a (calls_before n m a g i) (method_call n m i), before_few n m a g i)

from_few : (n : ℕ) (om : Option MethodInfo) (a : ℕ) (g : Graph) → length (calls_from n om a g).from ≤ length g.from + size_of om
from_few n (Some m) a g = before_few n m a g (length m.code)
from_few n None a g = omega arith

calls_few : (ms : List MethodInfo) (k : ℕ) → length (method_calls ms k).from ≤ size_before ms k
calls_few ms zero = omega arith
calls_few ms (suc a) = omega (arith, from_few (length ms) (slice_get ms a) a (method_calls ms a), calls_few ms a)

size_none : (k : ℕ) → size_before [] k ≡ 0
size_none zero = refl
size_none (suc k) = omega (arith, size_none k)

size_behind : (m : MethodInfo) (ms : List MethodInfo) (k : ℕ) → size_before (m ∷ ms) (suc k) ≡ length m.code + size_before ms k
size_behind m ms zero = omega arith
size_behind m ms (suc k) = let more : size_before (m ∷ ms) (suc k) ≡ length m.code + size_before ms k = size_behind m ms k in omega (arith, more)

pub size_before-le : (ms : List MethodInfo) (k : ℕ) → size_before ms k ≤ sum_by (λ m. length m.code) ms
size_before-le [] k = omega (arith, size_none k)
size_before-le (m ∷ ms) zero = omega arith
size_before-le (m ∷ ms) (suc k) = omega (arith, size_behind m ms k, size_before-le ms k, sum_by-cons (λ (m : MethodInfo). length m.code) m ms)

-- ---- calls and edges, these from the one that is called

turned : (from to : List ℕ) (a b : ℕ) → length from ≡ length to → IsEdge from to a b → IsEdge to from b a
turned from to a b l e = (e.0, subst (λ n. e.0 < n) l e.1, e.3, e.2)

module _ (p : Program) (is : IsProgram p) where
  abbrev calls : Graph
  calls = method_calls p.methods (length p.methods)

  pub turned_is_graph : IsGraph (length p.methods) calls.to calls.from
  turned_is_graph = record {
    alike = sym (calls_alike p.methods (length p.methods));
    few = let size : sum_by (λ m. length m.code) p.methods ≤ 67108864 = is.size in omega (arith, calls_alike p.methods (length p.methods), calls_few p.methods (length p.methods), size_before-le p.methods (length p.methods), size);
    starts = λ e l. let c = (old e l).1 in (parts_of (length p.methods) (slice_get c.m.code c.i) (slice_get c.m.targets c.i) _ c.call).inside;
    ends = λ e l. (old e l).0;
  }
    where
      old : (e : ℕ) → e < length calls.to → (slice_index calls.from e < length p.methods) × CallOf (length p.methods) (slice_get p.methods (slice_index calls.from e)) (slice_index calls.to e)
      old e l = calls_old p.methods (length p.methods) (slice_index calls.from e) (slice_index calls.to e) (e, subst (λ n. e < n) (sym (calls_alike p.methods (length p.methods))) l, refl, refl)

  pub call_inside : (a b : ℕ) → HasCall p a b → b < length p.methods
  call_inside a b c =
      let has = have_targets p a c.i c.m c.insn is c.in_program c.in_code in
      named p (site_in c.m) c.insn.op c.target b c.called
      (subst (λ (t : Target). IsTargetOf p (site_in c.m) c.insn.op t) (same_Some has.0 c.target (sym has.1 ∙ c.names)) has.2)

  pub edge_of : (a b : ℕ) → HasCall p a b → IsEdge calls.to calls.from b a
  edge_of a b c = turned calls.from calls.to a b (calls_alike p.methods (length p.methods))
      (calls_added p.methods (length p.methods) a b (slice_get_within p.methods a c.m c.in_program)
      (record { m = c.m; is_m = c.in_program; i = c.i; call = rw (c.in_code, c.names, c.called) (among_there (length p.methods) b (call_inside a b c)) }))

  pub call_of : (a b : ℕ) → IsEdge calls.to calls.from b a → HasCall p a b
  call_of a b e =
      let c = (calls_old p.methods (length p.methods) a b (turned calls.to calls.from b a (sym (calls_alike p.methods (length p.methods))) e)).1 in
      let parts = parts_of (length p.methods) (slice_get c.m.code c.i) (slice_get c.m.targets c.i) b c.call in
      record { m = c.m; in_program = c.is_m; i = c.i; insn = parts.insn; in_code = parts.is_insn; target = parts.target; names = parts.is_target; called = parts.called }
