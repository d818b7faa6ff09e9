-- The edges of the graph of calls are the calls.
use Rattle.std.proofs.{Common.{◌≡◌, ℕ, zero, suc, ◌/◌, ◌<◌, ◌≢◌, List, length, Option, Some, None, refl, sym, subst, arith, ⊎_elim, inl, inr, ◌⊎◌, slice_get}, lemmas.Bool.cases_eq}
use Rattle.std.proofs.lemmas.Option.{slice_get_within}
use Rattle.jvm_types.specs.declared.{code.Insn.Insn, program.{MethodInfo.MethodInfo, Program.Program}}
use Rattle.graph_closure.specs.Walks.{IsEdge}
use Rattle.checked_program.{specs.{LockTags.TagShape, declared.{call_edges.Graph.Graph, tag.Tags.Tags}}, proofs.EdgesAdded.{IsAlike, with_alike, with_kept, with_added, with_old}}
use Rattle.guard_analysis.specs.CallGraph.{mode_at, call_at, edges_before, node_edges, graph_before}

-- ---- the calls of one node

abbrev pub the_call : Program → MethodInfo → List (Option TagShape) → ℕ → ℕ → Option ℕ
the_call p m frames a i = call_at p (mode_at 0 a) (slice_get m.code i) (slice_get m.targets i) (slice_get frames i)

module _ (p : Program) (m : MethodInfo) (frames : List (Option TagShape)) (a : ℕ) (g : Graph) (l : IsAlike g) where
  before_alike : (i : ℕ) → IsAlike (edges_before p m frames a g i)
  before_alike zero = l
  before_alike (suc i) = with_alike a (edges_before p m frames a g i) (the_call p m frames a i) (before_alike i)

  before_kept : (i x y : ℕ) → IsEdge g.from g.to x y → IsEdge (edges_before p m frames a g i).from (edges_before p m frames a g i).to x y
  before_kept zero x y e = e
  before_kept (suc i) x y e = with_kept a (edges_before p m frames a g i) (the_call p m frames a i) x y (before_alike i) (before_kept i x y e)

  before_added : (i j b : ℕ) → j < i → the_call p m frames a j ≡ Some b → IsEdge (edges_before p m frames a g i).from (edges_before p m frames a g i).to a b
  before_added zero j b h c = absurd (omega (arith, h))
  before_added (suc i) j b h c = ⊎_elim
      (λ (q : j ≡ i). with_added a (edges_before p m frames a g i) (the_call p m frames a i) b (before_alike i) (subst (λ k. the_call p m frames a k ≡ Some b) q c))
      (λ (q : j ≢ i). with_kept a (edges_before p m frames a g i) (the_call p m frames a i) a b (before_alike i) (before_added i j b (omega (arith, h, q)) c))
      (cases_eq j i)

  before_old : (i x y : ℕ) → IsEdge (edges_before p m frames a g i).from (edges_before p m frames a g i).to x y → IsEdge g.from g.to x y ⊎ ((x ≡ a) × ((j : ℕ) × (the_call p m frames a j ≡ Some y)))
  before_old zero x y e = inl e
  before_old (suc i) x y e = ⊎_elim (λ k. before_old i x y k) (λ k. inr (k.0, (i, k.1))) (with_old a (edges_before p m frames a g i) (the_call p m frames a i) x y (before_alike i) e)

-- ---- the calls of the first nodes

-- a call of the method of a node
pub record CallAt (p : Program) (om : Option MethodInfo) (ot : Option Tags) (a y : ℕ) : Type 0 where
  pub m : MethodInfo
  pub is_m : om ≡ Some m
  pub t : Tags
  pub is_t : ot ≡ Some t
  pub i : ℕ
  pub inside : i < length m.code
  pub call : the_call p m t.frames a i ≡ Some y

pub the_call_past : (p : Program) (m : MethodInfo) (frames : List (Option TagShape)) (a i y : ℕ) → the_call p m frames a i ≡ Some y → i < length m.code
the_call_past p m frames a i y c = by_insn (slice_get m.code i) refl c
  where
    by_insn : (o : Option Insn) → slice_get m.code i ≡ o → call_at p (mode_at 0 a) o (slice_get m.targets i) (slice_get frames i) ≡ Some y → i < length m.code
    by_insn (Some insn) e k = slice_get_within m.code i insn e
    by_insn None e k = absurd (let bad : None ≡ Some y = k in cc)

node_alike : (p : Program) (om : Option MethodInfo) (ot : Option Tags) (a : ℕ) (g : Graph) → IsAlike g → IsAlike (node_edges p om ot a g)
node_alike p (Some m) (Some t) a g l = before_alike p m t.frames a g l (length m.code)
node_alike p om ot a g l = l

node_kept : (p : Program) (om : Option MethodInfo) (ot : Option Tags) (a : ℕ) (g : Graph) (x y : ℕ) → IsAlike g → IsEdge g.from g.to x y → IsEdge (node_edges p om ot a g).from (node_edges p om ot a g).to x y
node_kept p (Some m) (Some t) a g x y l e = before_kept p m t.frames a g l (length m.code) x y e
node_kept p om ot a g x y l e = e

node_added : (p : Program) (om : Option MethodInfo) (ot : Option Tags) (a : ℕ) (g : Graph) (y : ℕ) → IsAlike g → CallAt p om ot a y → IsEdge (node_edges p om ot a g).from (node_edges p om ot a g).to a y
node_added p om ot a g y l c = rw (c.is_m, c.is_t) (before_added p c.m c.t.frames a g l (length c.m.code) c.i y c.inside c.call)

node_old : (p : Program) (om : Option MethodInfo) (ot : Option Tags) (a : ℕ) (g : Graph) (x y : ℕ) → IsAlike g → IsEdge (node_edges p om ot a g).from (node_edges p om ot a g).to x y → IsEdge g.from g.to x y ⊎ ((x ≡ a) × CallAt p om ot a y)
node_old p (Some m) (Some t) a g x y l e =
    ⊎_elim (λ k. inl k) (λ k. inr (k.0, record { m = m; is_m = refl; t = t; is_t = refl; i = k.1.0; inside = the_call_past p m t.frames a k.1.0 y k.1.1; call = k.1.1 }))
    (before_old p m t.frames a g l (length m.code) x y e)
node_old p (Some m) None a g x y l e = inl e
node_old p None ot a g x y l e = inl e

module _ (p : Program) (tags : List Tags) where
  abbrev CallFrom : ℕ → ℕ → Type 0
  CallFrom a y = CallAt p (slice_get p.methods (a / 3)) (slice_get tags (a / 3)) a y

  pub graph_alike : (n : ℕ) → IsAlike (graph_before p tags n)
  graph_alike zero = refl
  graph_alike (suc a) = node_alike p (slice_get p.methods (a / 3)) (slice_get tags (a / 3)) a (graph_before p tags a) (graph_alike a)

  pub graph_added : (n a y : ℕ) → a < n → CallFrom a y → IsEdge (graph_before p tags n).from (graph_before p tags n).to a y
  graph_added zero a y h c = absurd (omega (arith, h))
  graph_added (suc n) a y h c = ⊎_elim
      (λ (q : a ≡ n). subst (λ k. IsEdge (graph_before p tags (suc k)).from (graph_before p tags (suc k)).to a y) q (node_added p (slice_get p.methods (a / 3)) (slice_get tags (a / 3)) a (graph_before p tags a) y (graph_alike a) c))
      (λ (q : a ≢ n). node_kept p (slice_get p.methods (n / 3)) (slice_get tags (n / 3)) n (graph_before p tags n) a y (graph_alike n) (graph_added n a y (omega (arith, h, q)) c))
      (cases_eq a n)

  pub graph_old : (n x y : ℕ) → IsEdge (graph_before p tags n).from (graph_before p tags n).to x y → (x < n) × CallFrom x y
  graph_old zero x y e = absurd (let low : e.0 < 0 = e.1 in omega (arith, low))
  graph_old (suc n) x y e = ⊎_elim
      (λ k. let r = graph_old n x y k in let low : x < n = r.0 in (omega (arith, low), r.1))
      (λ k. (let same : x ≡ n = k.0 in omega (arith, same), subst (λ z. CallFrom z y) (sym k.0) k.1))
      (node_old p (slice_get p.methods (n / 3)) (slice_get tags (n / 3)) n (graph_before p tags n) x y (graph_alike n) e)
