-- The edges of a graph as fans are added.
use Rattle.std.proofs.Common.{◌≡◌, ◌≢◌, ℕ, zero, suc, ◌<◌, List, [], ◌∷◌, ◌++◌, length, Some, None, refl, sym, ap, subst, ◌∙◌, ⊎_elim, inl, inr, ◌⊎◌, get_or-set_same, get_or-set_other, slice_get, slice_set, slice_index_or}
use Rattle.std.proofs.lemmas.{Bool.cases_eq, List.length-set}
use Rattle.widest_paths.specs.WidestPaths.{IsInFan, IsFanEdge, HasNoEdges, AddsEdges, AreEmpty, fans_to}
use Rattle.widest_paths.specs.declared.graph.Fan.{Fan}
use Rattle.widest_paths.specs.declared.graph.Graph.{Graph}

got_more : (xs : List Fan) (y f : Fan) (t : ℕ) → slice_get (xs ++ y ∷ []) t ≡ Some f → (slice_get xs t ≡ Some f) ⊎ (y ≡ f)
got_more [] y f zero e = inr (let is : Some y ≡ Some f = e in cc)
got_more [] y f (suc t) e = absurd (let bad : None ≡ Some f = e in cc)
got_more (x ∷ xs) y f zero e = inl e
got_more (x ∷ xs) y f (suc t) e = got_more xs y f t e

more_got : (xs : List Fan) (y f : Fan) (t : ℕ) → slice_get xs t ≡ Some f → slice_get (xs ++ y ∷ []) t ≡ Some f
more_got [] y f t e = absurd (let bad : None ≡ Some f = e in cc)
more_got (x ∷ xs) y f zero e = e
more_got (x ∷ xs) y f (suc t) e = more_got xs y f t e

last_got : (xs : List Fan) (y : Fan) → slice_get (xs ++ y ∷ []) (length xs) ≡ Some y
last_got [] y = refl
last_got (x ∷ xs) y = last_got xs y

pub no_edges : (g : Graph) (lists : List (List Fan)) → g.into.items ≡ lists → AreEmpty lists → HasNoEdges g
no_edges g lists e h i k edge =
    let none : fans_to g k ≡ [] = ap (λ l. slice_index_or l k []) e ∙ h k in
    let bad : None ≡ Some edge.fan = sym (ap (λ l. slice_get l edge.t) none) ∙ edge.at in
    cc

module _ (old new : Graph) (to : ℕ) (fan : Fan) (inside : to < length old.into.items) (turns : new.turns ≡ old.turns) (into : new.into.items ≡ slice_set old.into.items to (slice_index_or old.into.items to [] ++ fan ∷ [])) where
  here : fans_to new to ≡ fans_to old to ++ fan ∷ []
  here = ap (λ l. slice_index_or l to []) into ∙ (rw get_or-set_same refl)

  elsewhere : (k : ℕ) → k ≢ to → fans_to new k ≡ fans_to old k
  elsewhere k q = ap (λ l. slice_index_or l k []) into ∙ (rw get_or-set_other refl)

  from_old : (f : Fan) (i : ℕ) → IsInFan new f i → IsInFan old f i
  from_old f i h = subst (λ l. IsFromTurns l f i) turns h
    where
      IsFromTurns : List ℕ → Fan → ℕ → Type 0
      IsFromTurns l f i = IsInFan (record old { turns = l }) f i

  from_new : (f : Fan) (i : ℕ) → IsInFan old f i → IsInFan new f i
  from_new f i h = subst (λ l. IsFromTurns l f i) (sym turns) h
    where
      IsFromTurns : List ℕ → Fan → ℕ → Type 0
      IsFromTurns l f i = IsInFan (record old { turns = l }) f i

  old_edge : (i k t : ℕ) (f : Fan) → slice_get (fans_to old k) t ≡ Some f → IsInFan new f i → IsFanEdge old i k ⊎ ((to ≡ k) × IsInFan old fan i)
  old_edge i k t f e h = inl (record { t = t; fan = f; at = e; from = from_old f i h })

  only : (i k : ℕ) → IsFanEdge new i k → IsFanEdge old i k ⊎ ((to ≡ k) × IsInFan old fan i)
  only i k e = ⊎_elim
      (λ (q : k ≡ to).
      let at : slice_get (fans_to old to ++ fan ∷ []) e.t ≡ Some e.fan = ap (λ l. slice_get l e.t) (sym (ap (λ x. fans_to new x) q ∙ here)) ∙ e.at in
      ⊎_elim
      (λ (g : slice_get (fans_to old to) e.t ≡ Some e.fan). old_edge i k e.t e.fan (ap (λ x. slice_get (fans_to old x) e.t) q ∙ g) e.from)
      (λ (g : fan ≡ e.fan). inr (sym q, subst (λ f. IsInFan old f i) (sym g) (from_old e.fan i e.from)))
      (got_more (fans_to old to) fan e.fan e.t at))
      (λ (q : k ≢ to). old_edge i k e.t e.fan (ap (λ l. slice_get l e.t) (sym (elsewhere k q)) ∙ e.at) e.from)
      (cases_eq k to)

  kept : (i k : ℕ) → IsFanEdge old i k → IsFanEdge new i k
  kept i k e = ⊎_elim
      (λ (q : k ≡ to). record {
        t = e.t;
        fan = e.fan;
        at = ap (λ l. slice_get l e.t) (ap (λ x. fans_to new x) q ∙ here) ∙ more_got (fans_to old to) fan e.fan e.t (ap (λ x. slice_get (fans_to old x) e.t) (sym q) ∙ e.at);
        from = from_new e.fan i e.from;
      })
      (λ (q : k ≢ to). record { t = e.t; fan = e.fan; at = ap (λ l. slice_get l e.t) (elsewhere k q) ∙ e.at; from = from_new e.fan i e.from })
      (cases_eq k to)

  joined : (i k : ℕ) → (to ≡ k) × IsInFan old fan i → IsFanEdge new i k
  joined i k h = subst (λ x. IsFanEdge new i x) h.0 (record {
    t = length (fans_to old to);
    fan = fan;
    at = ap (λ l. slice_get l (length (fans_to old to))) here ∙ last_got (fans_to old to) fan;
    from = from_new fan i h.1;
  })

  pub adds_one : new.levels ≡ old.levels → AddsEdges old new (λ i k. (to ≡ k) × IsInFan old fan i)
  adds_one levels = record {
    levels = levels;
    turns = turns;
    nodes = ap length into ∙ length-set old.into.items to (slice_index_or old.into.items to [] ++ fan ∷ []);
    kept = kept;
    joined = joined;
    only = only;
  }

-- ---- some edges, then others

pub adds_none : (g : Graph) → AddsEdges g g (λ i k. ⊥)
adds_none g = record { levels = refl; turns = refl; nodes = refl; kept = λ i k e. e; joined = λ i k x. absurd x; only = λ i k e. inl e }

pub adds_as : (a b : Graph) (P Q : ℕ → ℕ → Type 0) → ((i k : ℕ) → P i k → Q i k) → ((i k : ℕ) → Q i k → P i k) → AddsEdges a b P → AddsEdges a b Q
adds_as a b P Q to from h = record {
  levels = h.levels;
  turns = h.turns;
  nodes = h.nodes;
  kept = h.kept;
  joined = λ i k q. h.joined i k (from i k q);
  only = λ i k e. ⊎_elim (λ x. inl x) (λ (x : P i k). inr (to i k x)) (h.only i k e);
}

pub adds_twice : (a b c : Graph) (P Q : ℕ → ℕ → Type 0) → AddsEdges a b P → AddsEdges b c Q → AddsEdges a c (λ i k. P i k ⊎ Q i k)
adds_twice a b c P Q h j = record {
  levels = j.levels ∙ h.levels;
  turns = j.turns ∙ h.turns;
  nodes = j.nodes ∙ h.nodes;
  kept = λ i k e. j.kept i k (h.kept i k e);
  joined = λ i k x. ⊎_elim (λ (p : P i k). j.kept i k (h.joined i k p)) (λ (q : Q i k). j.joined i k q) x;
  only = λ i k e. ⊎_elim
      (λ (d : IsFanEdge b i k). ⊎_elim (λ x. inl x) (λ (p : P i k). inr (inl p)) (h.only i k d))
      (λ (q : Q i k). inr (inr q))
      (j.only i k e);
}
