-- What the search finds: nodes that calls lead to from the section, each once; and at its end all of them.
use Rattle.std.proofs.Common.{◌≡◌, ℕ, zero, suc, ◌+◌, ◌*◌, ◌<◌, ◌≤◌, ◌≢◌, Bool, true, false, not, ◌&&◌, List, [], ◌∷◌, ◌++◌, length, Option, Some, None, refl, sym, ap, subst, ◌∙◌, arith, ⊎_elim, inl, inr, ◌⊎◌, get_or-set_other, cond, nat_lt, if◌then◌else◌, replicate, slice_get, slice_set, slice_index_or}
use Rattle.std.proofs.lemmas.{Bool.{cases_eq, Decides.nat_tests}, List.{length-append, length-set, Sums.sum_by-set}, Option.{same_Some, slice_get_within}}
use Rattle.jvm_types.specs.declared.program.Program.{Program}
use Rattle.checked_program.specs.{Marks.{Callee, Calls, CallsThrough, BreaksAt, CalleeBreaks}, Sections.{Section, IsOwn}, TaggedCode.Tagged, declared.section.Uses.Uses}
use Rattle.guard_analysis.specs.{CallGraph.node_of, Faults.IsModeFor}
use Rattle.mark_reasons.specs.{Reasons.own_callee, Searches.{callee_at, class_of_section, search_visited, visits, HasNode, HasNodeBy, IsCalled, IsOrdered, IsSearchSound, Searching, unseen, left_of}}
use Rattle.mark_reasons.{specs.declared.search.{Entry.Entry, Search.Search}, proofs.Nodes.{callee_back, fits_call, fits_through, section_fits}}

-- ---- lists with one more behind

pub last_got : {X : Type 0} (xs : List X) (y : X) (i : ℕ) (x : X) → slice_get (xs ++ y ∷ []) i ≡ Some x → (slice_get xs i ≡ Some x) ⊎ ((i ≡ length xs) × (x ≡ y))
last_got [] y zero x e = inr (refl, sym (same_Some y x e))
last_got [] y (suc i) x e = absurd (cc)
last_got (z ∷ xs) y zero x e = inl e
last_got (z ∷ xs) y (suc i) x e = one_on (last_got xs y i x e)
  where
    one_on : (slice_get xs i ≡ Some x) ⊎ ((i ≡ length xs) × (x ≡ y)) → (slice_get (z ∷ xs) (suc i) ≡ Some x) ⊎ ((suc i ≡ length (z ∷ xs)) × (x ≡ y))
    one_on (inl g) = inl g
    one_on (inr k) = inr (ap suc k.0, k.1)

pub got_before : {X : Type 0} (xs : List X) (y : X) (i : ℕ) (x : X) → slice_get xs i ≡ Some x → slice_get (xs ++ y ∷ []) i ≡ Some x
got_before [] y i x e = absurd (cc)
got_before (z ∷ xs) y zero x e = e
got_before (z ∷ xs) y (suc i) x e = got_before xs y i x e

pub got_last : {X : Type 0} (xs : List X) (y : X) → slice_get (xs ++ y ∷ []) (length xs) ≡ Some y
got_last [] y = refl
got_last (z ∷ xs) y = got_last xs y

pub got_there : {X : Type 0} (xs : List X) (i : ℕ) → i < length xs → (x : X) × (slice_get xs i ≡ Some x)
got_there [] i l = absurd (omega (arith, l))
got_there (x ∷ xs) zero l = (x, refl)
got_there (x ∷ xs) (suc i) l = got_there xs i (omega (arith, l))

pub all_same : {X : Type 0} (d : X) (n i : ℕ) → slice_index_or (replicate n d) i d ≡ d
all_same d zero i = refl
all_same d (suc n) zero = refl
all_same d (suc n) (suc i) = all_same d n i

-- ---- what a search leaves

pub record Grows (w v : Search) : Type 0 where
  pub long : length v.seen ≡ length w.seen
  pub more : length w.queue ≤ length v.queue
  pub same : (t : ℕ) (e : Entry) → slice_get w.queue t ≡ Some e → slice_get v.queue t ≡ Some e
  pub lighter : 2 * unseen v.seen + length v.queue ≤ 2 * unseen w.seen + length w.queue

grows_none : (w : Search) → Grows w w
grows_none w = record { long = refl; more = omega arith; same = λ t e g. g; lighter = omega arith }

grows_twice : (w v u : Search) → Grows w v → Grows v u → Grows w u
grows_twice w v u g h = record { long = h.long ∙ g.long; more = omega (arith, g.more, h.more); same = λ t e k. h.same t e (g.same t e k); lighter = omega (arith, g.lighter, h.lighter) }

has_grown : (w v : Search) (j : ℕ) → Grows w v → HasNode w.queue j → HasNode v.queue j
has_grown w v j g h = (h.0, h.1, g.same h.0 h.1 h.2, h.3)

grown_by : (w v : Search) (j count : ℕ) → Grows w v → HasNodeBy w.queue j count → HasNodeBy v.queue j count
grown_by w v j count g h = (h.0, h.1, g.same h.0 h.1 h.2, h.3, h.4)

has_node : (queue : List Entry) (j count : ℕ) → HasNodeBy queue j count → HasNode queue j
has_node queue j count h = (h.0, h.1, h.2, h.3)

ordered_more : (queue : List Entry) (k : ℕ) → IsOrdered queue k → IsOrdered queue (suc k)
ordered_more queue k h = record { before = λ t e g. let front : e.caller ≤ k = h.before t e g in omega (arith, front); order = h.order }

-- an entry among the first ones was there
was_there : (w v : Search) (t : ℕ) (e : Entry) → Grows w v → t < length w.queue → slice_get v.queue t ≡ Some e → slice_get w.queue t ≡ Some e
was_there w v t e g l k = let r = got_there w.queue t l in r.1 ∙ sym (g.same t r.0 r.1) ∙ k

module _ (p : Program) (tags : Tagged) (s : Section) where
  called_grown : (w v : Search) (count more caller at node : ℕ) → Grows w v → count ≤ more → IsCalled p tags s w.queue count caller at node → IsCalled p tags s v.queue more caller at node
  called_grown w v count more zero at node g l c = c
  called_grown w v count more (suc k) at node g l c = let low : k < count = c.0 in (omega (arith, low, l), c.1, g.same k c.1 c.2, c.3)

-- ---- one node that was not seen

module _ (w : Search) (j caller at : ℕ) (inside : j < length w.seen) (unlike : slice_index_or w.seen j false ≡ false) where
  abbrev entry : Entry
  entry = record { node = j; caller = caller; at = at }

  abbrev put : Search
  put = record { seen = slice_set w.seen j true; queue = w.queue ++ entry ∷ [] }

  one_unless : Bool → ℕ
  one_unless b = cond (not b) 1 0

  fewer : unseen (slice_set w.seen j true) + 1 ≡ unseen w.seen
  unfolding one_unless
  fewer =
      let sum : unseen (slice_set w.seen j true) + one_unless (slice_index_or w.seen j false) ≡ unseen w.seen + one_unless true = sum_by-set (λ b. cond (not b) 1 0) w.seen j true false inside in
      let was : one_unless (slice_index_or w.seen j false) ≡ 1 = ap one_unless unlike in
      let now : one_unless true ≡ 0 = refl in
      omega (arith, sum, was, now)

  put_grows : Grows w put
  put_grows = record {
    long = length-set w.seen j true;
    more = omega (arith, length-append w.queue (entry ∷ []));
    same = λ t e g. got_before w.queue entry t e g;
    lighter = omega (arith, fewer, length-append w.queue (entry ∷ []));
  }

  put_ordered : IsOrdered w.queue caller → IsOrdered put.queue caller
  put_ordered h = record { before = put_before; order = λ t u e b l g q. by_last t u e b l g (last_got w.queue entry u b q) }
    where
      put_before : (t : ℕ) (e : Entry) → slice_get put.queue t ≡ Some e → e.caller ≤ caller
      put_before t e g = ⊎_elim (λ (k : slice_get w.queue t ≡ Some e). h.before t e k)
          (λ k. subst (λ (x : Entry). x.caller ≤ caller) (sym k.1) (let same : caller ≤ caller = omega arith in same)) (last_got w.queue entry t e g)

      by_last : (t u : ℕ) (e b : Entry) → t ≤ u → slice_get put.queue t ≡ Some e → (slice_get w.queue u ≡ Some b) ⊎ ((u ≡ length w.queue) × (b ≡ entry)) → e.caller ≤ b.caller
      by_last t u e b l g (inl k) = ⊎_elim (λ (z : slice_get w.queue t ≡ Some e). h.order t u e b l z k)
          (λ z. absurd (let low : u < length w.queue = slice_get_within w.queue u b k in let here : t ≡ length w.queue = z.0 in omega (arith, l, low, here))) (last_got w.queue entry t e g)
      by_last t u e b l g (inr k) = subst (λ (x : Entry). e.caller ≤ x.caller) (sym k.1) (put_before t e g)

  module _ (p : Program) (tags : Tagged) (s : Section) (n : ℕ) where
    put_sound : IsSearchSound p tags s n w → IsCalled p tags s w.queue (length w.queue) caller at j → IsSearchSound p tags s n put
    put_sound h c = record {
      long = length-set w.seen j true ∙ h.long;
      marked = λ i e. ⊎_elim (λ (q : i ≡ j). (length w.queue, entry, got_last w.queue entry, sym q)) (λ (q : i ≢ j). has_grown w put i put_grows (h.marked i (sym (other i q) ∙ e))) (cases_eq i j);
      called = λ t e g. ⊎_elim
          (λ (k : slice_get w.queue t ≡ Some e). called_grown p tags s w put t t e.caller e.at e.node put_grows (omega arith) (h.called t e k))
          (λ k. subst (λ (x : Entry). IsCalled p tags s put.queue t x.caller x.at x.node) (sym k.1) (called_grown p tags s w put (length w.queue) t caller at j put_grows (let here : t ≡ length w.queue = k.0 in omega (arith, here)) c))
          (last_got w.queue entry t e g);
    }
      where
        other : (i : ℕ) → i ≢ j → slice_index_or (slice_set w.seen j true) i false ≡ slice_index_or w.seen i false
        other i q = rw get_or-set_other refl

-- ---- visits

module _ (p : Program) (tags : Tagged) (s : Section) (n : ℕ) where
  pub record After (caller : ℕ) (w : Search) (o : Option ℕ) (v : Search) : Type 0 where
    pub grows : Grows w v
    pub sound : IsSearchSound p tags s n v
    pub ordered : IsOrdered v.queue caller
    pub found : (j : ℕ) → o ≡ Some j → HasNodeBy v.queue j caller

  visited_after : (w : Search) (o : Option ℕ) (caller at : ℕ) → IsSearchSound p tags s n w → IsOrdered w.queue caller → ((j : ℕ) → o ≡ Some j → (j < n) × IsCalled p tags s w.queue (length w.queue) caller at j) → After caller w o (search_visited w o caller at)
  visited_after w None caller at h d c = record { grows = grows_none w; sound = h; ordered = d; found = λ j e. absurd (cc) }
  visited_after w (Some j) caller at h d c = by_test (nat_lt j (length w.seen)) (slice_index_or w.seen j false) refl refl
    where
      less_to : (x b : ℕ) → x < b → nat_lt x b ≡ true
      less_to x b = grind (arith, nat_tests)

      seen_by : (i : ℕ) → HasNode w.queue i → HasNodeBy w.queue i caller
      seen_by i r = (r.0, r.1, r.2, r.3, d.before r.0 r.1 r.2)

      by_test : (b seen : Bool) → nat_lt j (length w.seen) ≡ b → slice_index_or w.seen j false ≡ seen → After caller w (Some j) (if b && not seen then record { seen = slice_set w.seen j true; queue = w.queue ++ record { node = j; caller = caller; at = at } ∷ [] } else w)
      by_test true false e f =
          let inside : j < length w.seen = grind (arith, nat_tests) in
          record {
            grows = put_grows w j caller at inside f;
            sound = put_sound w j caller at inside f p tags s n h (c j refl).1;
            ordered = put_ordered w j caller at inside f d;
            found = λ i q. (length w.queue, record { node = j; caller = caller; at = at }, got_last w.queue (record { node = j; caller = caller; at = at }), same_Some j i q, (let same : caller ≤ caller = omega arith in same));
          }
      by_test true true e f = record { grows = grows_none w; sound = h; ordered = d; found = λ i q. subst (λ x. HasNodeBy w.queue x caller) (same_Some j i q) (seen_by j (h.marked j f)) }
      by_test false seen e f = absurd (let inside : j < n = (c j refl).0 in let test : nat_lt j (length w.seen) ≡ true = rw h.long (less_to j n inside) in let bad : true ≡ false = sym test ∙ e in cc)

  pub record AfterAll (calls : ℕ → Option ℕ) (caller count : ℕ) (w v : Search) : Type 0 where
    pub grows : Grows w v
    pub sound : IsSearchSound p tags s n v
    pub ordered : IsOrdered v.queue caller
    pub found : (i j : ℕ) → i < count → calls i ≡ Some j → HasNodeBy v.queue j caller

  pub visits_after : (calls : ℕ → Option ℕ) (w : Search) (caller count : ℕ) → IsSearchSound p tags s n w → IsOrdered w.queue caller → ((i j : ℕ) → calls i ≡ Some j → (j < n) × IsCalled p tags s w.queue (length w.queue) caller i j) → AfterAll calls caller count w (visits calls w caller count)
  visits_after calls w caller zero h d c = record { grows = grows_none w; sound = h; ordered = d; found = λ i j l. absurd (omega (arith, l)) }
  visits_after calls w caller (suc k) h d c =
      let before = visits_after calls w caller k h d c in
      let v : Search = visits calls w caller k in
      let one = visited_after v (calls k) caller k before.sound before.ordered (λ j e. ((c k j e).0, called_grown p tags s w v (length w.queue) (length v.queue) caller k j before.grows before.grows.more (c k j e).1)) in
      record {
        grows = grows_twice w v (search_visited v (calls k) caller k) before.grows one.grows;
        sound = one.sound;
        ordered = one.ordered;
        found = λ i j l e. ⊎_elim (λ (q : i ≡ k). one.found j (subst (λ x. calls x ≡ Some j) q e)) (λ (q : i ≢ k). grown_by v (search_visited v (calls k) caller k) j caller one.grows (before.found i j (omega (arith, l, q)) e)) (cases_eq i k);
      }

-- ---- the search

module _ (p : Program) (tags : Tagged) (uses : Uses) (s : Section) (n : ℕ) where
  pub nothing_yet : (w : Search) → length w.seen ≡ n → ((j : ℕ) → slice_index_or w.seen j false ≡ false) → w.queue ≡ [] → IsSearchSound p tags s n w
  nothing_yet w long none empty = record {
    long = long;
    marked = λ j e. absurd (let bad : true ≡ false = sym e ∙ none j in cc);
    called = λ t e g. absurd (let bad : None ≡ Some e = ap (λ q. slice_get q t) (sym empty) ∙ g in cc);
  }

  pub none_ordered : (w : Search) → w.queue ≡ [] → IsOrdered w.queue 0
  none_ordered w empty = record {
    before = λ t e g. absurd (let bad : None ≡ Some e = ap (λ q. slice_get q t) (sym empty) ∙ g in cc);
    order = λ t u e b l g q. absurd (let bad : None ≡ Some e = ap (λ x. slice_get x t) (sym empty) ∙ g in cc);
  }

  pub begins : (calls : ℕ → Option ℕ) (count : ℕ) (w : Search) → IsSearchSound p tags s n w → IsOrdered w.queue 0
      → ((i j : ℕ) → calls i ≡ Some j → (j < n) × IsCalled p tags s w.queue (length w.queue) 0 i j)
      → ((i : ℕ) (b : Callee) → IsOwn p tags s.method s.spot i → Calls p tags (own_callee p s) i b → (i < count) × (calls i ≡ Some (node_of b)))
      → Searching p tags uses s n 0 (visits calls w 0 count)
  begins calls count w h d c all =
      let r = visits_after p tags s n calls w 0 count h d c in
      record {
        sound = r.sound;
        ordered = r.ordered;
        begun = λ i b o k. let x = all i b o k in r.found i (node_of b) x.0 x.1;
        closed = λ t i e b l. absurd (omega (arith, l));
        sane = λ t i q e l. absurd (omega (arith, l));
      }

  module _ (k : ℕ) (w : Search) (e : Entry) (calls : ℕ → Option ℕ) (count : ℕ) (h : Searching p tags uses s n k w) (here : slice_get w.queue k ≡ Some e)
      (c : (i j : ℕ) → calls i ≡ Some j → (j < n) × Calls p tags (callee_at (class_of_section p s) e.node) i (callee_at (class_of_section p s) j)) where
    abbrev onward : Search
    onward = visits calls w (suc k) count

    after : AfterAll p tags s n calls (suc k) count w onward
    after = visits_after p tags s n calls w (suc k) count h.sound (ordered_more w.queue k h.ordered) (λ i j q. let r = c i j q in (r.0, (slice_get_within w.queue k e here, e, here, r.1)))

    pub goes_on : ((i : ℕ) (b : Callee) → Calls p tags (callee_at (class_of_section p s) e.node) i b → (i < count) × (calls i ≡ Some (node_of b))) → ((i r : ℕ) → BreaksAt p tags uses (callee_at (class_of_section p s) e.node) i r → ⊥) → Searching p tags uses s n (k + 1) onward
    goes_on all none = record {
      sound = after.sound;
      ordered = subst (λ x. IsOrdered onward.queue x) (let one : suc k ≡ k + 1 = omega arith in one) after.ordered;
      begun = λ i b o q. grown_by w onward (node_of b) 0 after.grows (h.begun i b o q);
      closed = λ t i x b l g q.
          let low : t < length w.queue = (let inside : k < length w.queue = slice_get_within w.queue k e here in omega (arith, l, inside)) in
          let was : slice_get w.queue t ≡ Some x = was_there w onward t x after.grows low g in
          ⊎_elim (λ (z : t ≡ k). let same : x ≡ e = same_Some x e (sym was ∙ ap (λ y. slice_get w.queue y) z ∙ here) in let r = all i b (subst (λ (y : Entry). Calls p tags (callee_at (class_of_section p s) y.node) i b) same q) in
          subst (λ y. HasNodeBy onward.queue (node_of b) (suc y)) (sym z) (after.found i (node_of b) r.0 r.1))
          (λ (z : t ≢ k). grown_by w onward (node_of b) (suc t) after.grows (h.closed t i x b (omega (arith, l, z)) was q)) (cases_eq t k);
      sane = λ t i r x l g q.
          let low : t < length w.queue = (let inside : k < length w.queue = slice_get_within w.queue k e here in omega (arith, l, inside)) in
          let was : slice_get w.queue t ≡ Some x = was_there w onward t x after.grows low g in
          ⊎_elim (λ (z : t ≡ k). let same : x ≡ e = same_Some x e (sym was ∙ ap (λ y. slice_get w.queue y) z ∙ here) in none i r (subst (λ (y : Entry). BreaksAt p tags uses (callee_at (class_of_section p s) y.node) i r) same q))
          (λ (z : t ≢ k). h.sane t i r x (omega (arith, l, z)) was q) (cases_eq t k);
    }

    pub gets_less : left_of onward (k + 1) < left_of w k
    gets_less = let inside : k < length w.queue = slice_get_within w.queue k e here in omega (arith, after.grows.lighter, inside)

  -- where nothing is left, nothing that the section calls breaks a rule
  pub found_none : (k : ℕ) (w : Search) → Searching p tags uses s n k w → length w.queue ≤ k → CalleeBreaks p tags uses s → ⊥
  found_none k w h l b =
      let first_fits : IsModeFor (class_of_section p s) b.is_called.first.mode = fits_call p tags (class_of_section p s) (own_callee p s) b.is_called.i b.is_called.first (section_fits p s) b.is_called.calls in
      let last_fits : IsModeFor (class_of_section p s) b.called.mode = fits_through p tags (class_of_section p s) b.is_called.first b.is_called.over b.called first_fits b.is_called.through in
      let r = come b.is_called.first b.is_called.over b.called (has_node w.queue (node_of b.is_called.first) 0 (h.begun b.is_called.i b.is_called.first b.is_called.own b.is_called.calls)) first_fits b.is_called.through in
      h.sane r.0 b.i b.n r.1 (let low : r.0 < length w.queue = slice_get_within w.queue r.0 r.1 r.2 in omega (arith, low, l)) r.2 (subst (λ (x : Callee). BreaksAt p tags uses x b.i b.n) (sym (ap (callee_at (class_of_section p s)) r.3 ∙ callee_back (class_of_section p s) b.called last_fits)) b.breaks)
    where
      come : (a : Callee) (over : List Callee) (b : Callee) → HasNode w.queue (node_of a) → IsModeFor (class_of_section p s) a.mode → CallsThrough p tags a over b → HasNode w.queue (node_of b)
      come a [] b i fits c = subst (λ (x : Callee). HasNode w.queue (node_of x)) c i
      come a (x ∷ xs) b i fits c =
          come x xs b (has_node w.queue (node_of x) (suc i.0) (h.closed i.0 c.0.0 i.1 x (let low : i.0 < length w.queue = slice_get_within w.queue i.0 i.1 i.2 in omega (arith, low, l)) i.2 (subst (λ (y : Callee). Calls p tags y c.0.0 x) (sym (ap (callee_at (class_of_section p s)) i.3 ∙ callee_back (class_of_section p s) a fits)) c.0.1))) (fits_call p tags (class_of_section p s) a c.0.0 x fits c.0.1) c.1
