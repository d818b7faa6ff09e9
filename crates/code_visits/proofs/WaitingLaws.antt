-- The numbers of the nodes that wait, when one of them changes.
use Rattle.std.proofs.Common.{◌≡◌, ℕ, zero, suc, ◌+◌, ◌<◌, Bool, true, false, List, [], ◌∷◌, length, map, Some, None, refl, sym, ap, ◌∙◌, add-zero, arith, if◌then◌else◌, replicate, slice_get, slice_set, slice_index_or}
use Rattle.std.{specs.{BTreeSet.insert_key, Cmp.nat_cmp_is, Ordering.nat_cmp, declared.cmp.Ordering.TheVariants.{Less, Equal, Greater}}, proofs.lemmas.List.{length-map, map-set}}
use Rattle.checked_program.specs.Visits.{PlanNode, first_waiting, next_waiting, unreached}
use Rattle.code_visits.specs.{Waiting.{node_is, waiting_numbers, plan_node_at}, declared.nodes.StoredNode.StoredNode}

pub node_at_get : {A : Type 0} (nodes : List (PlanNode A)) (i : ℕ) (node : PlanNode A) → slice_get nodes i ≡ Some node → plan_node_at nodes i ≡ node
node_at_get nodes i node e = rw e refl

-- a node that waits as before
pub numbers_same : {A : Type 0} (k : ℕ) (nodes : List (PlanNode A)) (i : ℕ) (node other : PlanNode A) → slice_get nodes i ≡ Some node → other.waits ≡ node.waits → waiting_numbers k (slice_set nodes i other) ≡ waiting_numbers k nodes
numbers_same k [] i node other e w = refl
numbers_same k (x ∷ xs) zero node other e w = let same : x ≡ node = cc in rw (w, same) refl
numbers_same k (x ∷ xs) (suc i) node other e w = rw (numbers_same (suc k) xs i node other e w) refl

-- ---- one that begins to wait

greater : (k i : ℕ) → nat_cmp (k + suc i) k ≡ Greater
greater k i = sym (nat_cmp_is (k + suc i) k Greater (omega arith))

less : (k n : ℕ) → k < n → nat_cmp k n ≡ Less
less k n h = sym (nat_cmp_is k n Less h)

equal : (k : ℕ) → nat_cmp k k ≡ Equal
equal k = sym (nat_cmp_is k k Equal refl)

insert_first : {A : Type 0} (low k : ℕ) (nodes : List (PlanNode A)) → k < low → insert_key nat_cmp (waiting_numbers low nodes) k ≡ k ∷ waiting_numbers low nodes
insert_first low k [] h = refl
insert_first low k (x ∷ xs) h = by_wait x.waits (insert_first (suc low) k xs (omega (arith, h)))
  where
    by_wait : (w : Bool) → insert_key nat_cmp (waiting_numbers (suc low) xs) k ≡ k ∷ waiting_numbers (suc low) xs
        → insert_key nat_cmp (if w then low ∷ waiting_numbers (suc low) xs else waiting_numbers (suc low) xs) k ≡ k ∷ (if w then low ∷ waiting_numbers (suc low) xs else waiting_numbers (suc low) xs)
    by_wait true more = rw (less k low h) refl
    by_wait false more = more

pub numbers_more : {A : Type 0} (k : ℕ) (nodes : List (PlanNode A)) (i : ℕ) (node other : PlanNode A) → slice_get nodes i ≡ Some node → other.waits ≡ true
    → insert_key nat_cmp (waiting_numbers k nodes) (k + i) ≡ waiting_numbers k (slice_set nodes i other)
numbers_more k [] i node other e w = absurd (cc)
numbers_more k (x ∷ xs) zero node other e w = rw (w, add-zero) (by_wait x.waits)
  where
    by_wait : (w : Bool) → insert_key nat_cmp (if w then k ∷ waiting_numbers (suc k) xs else waiting_numbers (suc k) xs) k ≡ k ∷ waiting_numbers (suc k) xs
    by_wait true = rw (equal k) refl
    by_wait false = insert_first (suc k) k xs (omega arith)
numbers_more k (x ∷ xs) (suc i) node other e w = by_wait x.waits (ap (λ n. insert_key nat_cmp (waiting_numbers (suc k) xs) n) next ∙ numbers_more (suc k) xs i node other e w)
  where
    next : k + suc i ≡ suc k + i
    next = omega arith

    by_wait : (w : Bool) → insert_key nat_cmp (waiting_numbers (suc k) xs) (k + suc i) ≡ waiting_numbers (suc k) (slice_set xs i other)
        → insert_key nat_cmp (if w then k ∷ waiting_numbers (suc k) xs else waiting_numbers (suc k) xs) (k + suc i) ≡ (if w then k ∷ waiting_numbers (suc k) (slice_set xs i other) else waiting_numbers (suc k) (slice_set xs i other))
    by_wait true h = rw (greater k i) (ap (λ l. k ∷ l) h)
    by_wait false h = h

-- ---- the first that waits

pub none_waits : {A : Type 0} (k : ℕ) (nodes : List (PlanNode A)) → waiting_numbers k nodes ≡ [] → first_waiting k nodes ≡ None
none_waits k [] e = refl
none_waits k (x ∷ xs) e = by_wait x.waits e (none_waits (suc k) xs)
  where
    by_wait : (w : Bool) → (if w then k ∷ waiting_numbers (suc k) xs else waiting_numbers (suc k) xs) ≡ [] → (waiting_numbers (suc k) xs ≡ [] → first_waiting (suc k) xs ≡ None)
        → (if w then Some k else first_waiting (suc k) xs) ≡ None
    by_wait true e h = absurd (cc)
    by_wait false e h = h e

pub record FirstWaits {A : Type 0} (k : ℕ) (nodes : List (PlanNode A)) (j : ℕ) (rest : List ℕ) : Type 0 where
  pub at : ℕ
  pub is : j ≡ k + at
  pub inside : at < length nodes
  pub first : first_waiting k nodes ≡ Some j
  pub others : (other : PlanNode A) → other.waits ≡ false → rest ≡ waiting_numbers k (slice_set nodes at other)

pub first_waits : {A : Type 0} (k : ℕ) (nodes : List (PlanNode A)) (j : ℕ) (rest : List ℕ) → waiting_numbers k nodes ≡ j ∷ rest → FirstWaits k nodes j rest
first_waits k [] j rest e = absurd (cc)
first_waits k (x ∷ xs) j rest e = by_wait x.waits refl e (first_waits (suc k) xs j rest)
  where
    here : x.waits ≡ true → k ∷ waiting_numbers (suc k) xs ≡ j ∷ rest → FirstWaits k (x ∷ xs) j rest
    here w e =
        let same : k ≡ j = cc in
        let others : waiting_numbers (suc k) xs ≡ rest = cc in
        record {
          at = 0;
          is = omega (arith, same);
          inside = omega arith;
          first = rw (w, same) refl;
          others = λ other f. rw f (sym others);
        }

    there : x.waits ≡ false → FirstWaits (suc k) xs j rest → FirstWaits k (x ∷ xs) j rest
    there w more = record {
      at = suc more.at;
      is = omega (arith, more.is);
      inside = omega (arith, more.inside);
      first = rw w more.first;
      others = λ other f. rw w (more.others other f);
    }

    by_wait : (w : Bool) → x.waits ≡ w → (if w then k ∷ waiting_numbers (suc k) xs else waiting_numbers (suc k) xs) ≡ j ∷ rest
        → (waiting_numbers (suc k) xs ≡ j ∷ rest → FirstWaits (suc k) xs j rest) → FirstWaits k (x ∷ xs) j rest
    by_wait true w e more = here w e
    by_wait false w e more = there w (more e)

pub record NextWaits {A : Type 0} (nodes : List (PlanNode A)) (j : ℕ) (rest : List ℕ) : Type 0 where
  pub first : next_waiting nodes ≡ Some j
  pub inside : j < length nodes
  pub others : (other : PlanNode A) → other.waits ≡ false → rest ≡ waiting_numbers 0 (slice_set nodes j other)

pub next_waits : {A : Type 0} (nodes : List (PlanNode A)) (j : ℕ) (rest : List ℕ) → waiting_numbers 0 nodes ≡ j ∷ rest → NextWaits nodes j rest
next_waits nodes j rest e =
    let w = first_waits 0 nodes j rest e in
    let same : j ≡ w.at = omega (arith, w.is) in
    record {
      first = w.first;
      inside = rw same w.inside;
      others = λ other f. rw same (w.others other f);
    }

pub none_left : (keys : List ℕ) → (0 < length keys → false ≡ true) → keys ≡ []
none_left [] h = refl
none_left (key ∷ keys) h = let wrong : false ≡ true = h (omega arith) in absurd (cc)

pub set_here : {A : Type 0} (nodes : List (PlanNode A)) (i : ℕ) (node : PlanNode A) → i < length nodes → slice_get (slice_set nodes i node) i ≡ Some node
set_here [] i node h = absurd (omega (arith, h))
set_here (x ∷ xs) zero node h = refl
set_here (x ∷ xs) (suc i) node h = set_here xs i node (omega (arith, h))

pub none_reached : {A : Type 0} (k n : ℕ) (nodes : List (PlanNode A)) → nodes ≡ replicate n unreached → waiting_numbers k nodes ≡ []
none_reached k zero [] e = refl
none_reached k zero (x ∷ xs) e = absurd (cc)
none_reached k (suc n) [] e = refl
none_reached k (suc n) (x ∷ xs) e =
    let here : x ≡ unreached = cc in
    let rest : xs ≡ replicate n unreached = cc in
    rw here (none_reached (suc k) n xs rest)

-- ---- nodes as they are stored

pub at_stored : {A : Type 0} (items : List (StoredNode A)) (nodes : List (PlanNode A)) (i : ℕ) (x : StoredNode A) → map node_is items ≡ nodes → i < length nodes → x ≡ slice_index_or items i x → slice_get nodes i ≡ Some (node_is x)
at_stored {A = A} items nodes i x e h f = rw (← e) (stored items i x (rw (← e, length-map) at h) f)
  where
    stored : (items : List (StoredNode A)) (i : ℕ) (x : StoredNode A) → i < length items → x ≡ slice_index_or items i x → slice_get (map node_is items) i ≡ Some (node_is x)
    stored [] i x h f = absurd (omega (arith, h))
    stored (y ∷ ys) zero x h f = let same : y ≡ x = sym f in rw same refl
    stored (y ∷ ys) (suc i) x h f = stored ys i x (omega (arith, h)) f

pub set_stored : {A : Type 0} (items : List (StoredNode A)) (nodes : List (PlanNode A)) (i : ℕ) (y : StoredNode A) → map node_is items ≡ nodes → map node_is (slice_set items i y) ≡ slice_set nodes i (node_is y)
set_stored items nodes i y e = map-set node_is items i y ∙ ap (λ l. slice_set l i (node_is y)) e
