-- A walk finds exactly the own instructions of a block.
use Rattle.std.proofs.Common.{◌≡◌, ℕ, ◌+◌, ◌*◌, ◌<◌, ◌≤◌, ◌≢◌, Bool, true, false, not, ◌&&◌, List, [], ◌∷◌, ◌++◌, length, Option, Some, None, refl, sym, ap, subst, ◌∙◌, arith, ⊎_elim, inl, inr, get_or-set_same, get_or-set_other, cond, ◌==◌, nat_lt, if◌then◌else◌, slice_get, slice_set, slice_index}
use Rattle.std.proofs.lemmas.{Bool.{cases_eq, eqb-true, ltb-true, Decides.nat_tests}, List.{length-append, length-set, get_or_append_left, get_or_push, Sums.sum_by-set}, Option.slice_get_within}
use Rattle.jvm_types.specs.declared.{code.Insn.Insn, program.MethodInfo.MethodInfo}
use Rattle.graph_closure.specs.Chains.{IsIn}
use Rattle.checked_program.specs.LockTags.{TagShape}
use Rattle.guard_analysis.specs.BlockWalks.{ways_from, deep_at, is_deep, walk_visited, all_visited, IsPathInBlock, IsInside, Has, Walked, unstamped, walk_left, IsExplored}
use Rattle.guard_analysis.specs.declared.block_walk.Walk.{Walk}

has_more : (xs : List ℕ) (x y : ℕ) → Has xs x → Has (xs ++ y ∷ []) x
has_more xs x y h = let low : h.0 < length xs = h.1 in (h.0, rw length-append (omega (arith, low)), get_or_append_left xs (y ∷ []) 0 h.0 low ∙ h.2)

has_last : (xs : List ℕ) (y : ℕ) → Has (xs ++ y ∷ []) y
has_last xs y = (length xs, rw length-append (omega arith), get_or_push xs y 0 (length xs) refl)

-- ---- what a visit leaves

pub record Grows (stamp : ℕ) (w v : Walk) : Type 0 where
  pub long : length v.seen ≡ length w.seen
  pub more : length w.own ≤ length v.own
  pub same : (t : ℕ) → t < length w.own → slice_index v.own t ≡ slice_index w.own t
  pub lighter : 2 * unstamped stamp v.seen + length v.own ≤ 2 * unstamped stamp w.seen + length w.own

grows_none : (stamp : ℕ) (w : Walk) → Grows stamp w w
grows_none stamp w = record { long = refl; more = omega arith; same = λ t l. refl; lighter = omega arith }

grows_twice : (stamp : ℕ) (w v u : Walk) → Grows stamp w v → Grows stamp v u → Grows stamp w u
grows_twice stamp w v u g h = record {
  long = h.long ∙ g.long;
  more = omega (arith, g.more, h.more);
  same = λ t l. h.same t (omega (arith, l, g.more)) ∙ g.same t l;
  lighter = omega (arith, g.lighter, h.lighter);
}

has_grown : (stamp : ℕ) (w v : Walk) (x : ℕ) → Grows stamp w v → Has w.own x → Has v.own x
has_grown stamp w v x g h = let low : h.0 < length w.own = h.1 in (h.0, omega (arith, low, g.more), g.same h.0 low ∙ h.2)

-- one instruction that was not seen
module _ (stamp : ℕ) (w : Walk) (j : ℕ) (inside : j < length w.seen) (unlike : slice_index w.seen j ≢ stamp) where
  abbrev put : Walk
  put = record { seen = slice_set w.seen j stamp; own = w.own ++ j ∷ [] }

  one_unless : Bool → ℕ
  one_unless b = cond (not b) 1 0

  fewer : unstamped stamp (slice_set w.seen j stamp) + 1 ≡ unstamped stamp w.seen
  unfolding one_unless
  fewer =
      let sum : unstamped stamp (slice_set w.seen j stamp) + one_unless (slice_index w.seen j == stamp) ≡ unstamped stamp w.seen + one_unless (stamp == stamp) = sum_by-set (λ s. cond (not (s == stamp)) 1 0) w.seen j stamp 0 inside in
      let old : (slice_index w.seen j == stamp) ≡ false = grind (arith, nat_tests) in
      let new : (stamp == stamp) ≡ true = grind (arith, nat_tests) in
      let was : one_unless (slice_index w.seen j == stamp) ≡ 1 = ap one_unless old in
      let now : one_unless (stamp == stamp) ≡ 0 = ap one_unless new in
      omega (arith, sum, was, now)

  put_grows : Grows stamp w put
  put_grows = record {
    long = length-set w.seen j stamp;
    more = omega (arith, length-append w.own (j ∷ []));
    same = λ t l. get_or_append_left w.own (j ∷ []) 0 t l;
    lighter = omega (arith, fewer, length-append w.own (j ∷ []));
  }

  put_low : ((i : ℕ) → slice_index w.seen i ≤ stamp) → (i : ℕ) → slice_index (slice_set w.seen j stamp) i ≤ stamp
  put_low low i = ⊎_elim (λ (q : i ≡ j). rw q (rw get_or-set_same (omega arith))) (λ (q : i ≢ j). rw get_or-set_other (low i)) (cases_eq i j)

  put_marked : ((i : ℕ) → slice_index w.seen i ≡ stamp → Has w.own i) → (i : ℕ) → slice_index (slice_set w.seen j stamp) i ≡ stamp → Has (w.own ++ j ∷ []) i
  put_marked marked i e = ⊎_elim (λ (q : i ≡ j). subst (λ x. Has (w.own ++ j ∷ []) x) (sym q) (has_last w.own j))
      (λ (q : i ≢ j). has_more w.own i j (marked i (sym (get_or-set_other_is i q) ∙ e))) (cases_eq i j)
    where
      get_or-set_other_is : (i : ℕ) → i ≢ j → slice_index (slice_set w.seen j stamp) i ≡ slice_index w.seen i
      get_or-set_other_is i q = rw get_or-set_other refl

-- what holds of a walk in its course
pub record IsGood (stamp n : ℕ) (P : ℕ → Type 0) (w : Walk) : Type 0 where
  pub long : length w.seen ≡ n
  pub low : (j : ℕ) → slice_index w.seen j ≤ stamp
  pub marked : (j : ℕ) → slice_index w.seen j ≡ stamp → Has w.own j
  pub own : (t : ℕ) → t < length w.own → P (slice_index w.own t)

module _ (stamp n : ℕ) (P : ℕ → Type 0) where
  own_more : (own : List ℕ) (j : ℕ) → ((t : ℕ) → t < length own → P (slice_index own t)) → P j → (t : ℕ) → t < length (own ++ j ∷ []) → P (slice_index (own ++ j ∷ []) t)
  own_more own j all here t l = ⊎_elim
      (λ (q : t ≡ length own). subst P (sym (get_or_push own j 0 t (sym q))) here)
      (λ (q : t ≢ length own). let total : length (own ++ j ∷ []) ≡ length own + 1 = length-append own (j ∷ []) in let low : t < length own = omega (arith, l, total, q) in subst P (sym (get_or_append_left own (j ∷ []) 0 t low)) (all t low))
      (cases_eq t (length own))

  -- a visit keeps it, and what is deep is then found
  pub record After (deep : Bool) (w : Walk) (j : ℕ) (v : Walk) : Type 0 where
    pub grows : Grows stamp w v
    pub good : IsGood stamp n P v
    pub found : deep ≡ true → Has v.own j

  visit_after : (deep : Bool) (w : Walk) (j : ℕ) → IsGood stamp n P w → (deep ≡ true → (j < n) × P j) → After deep w j (walk_visited deep stamp w j)
  visit_after false w j g h = record { grows = grows_none stamp w; good = g; found = λ e. absurd (let bad : false ≡ true = e in cc) }
  visit_after true w j g h = by_test (nat_lt j (length w.seen)) (slice_index w.seen j == stamp) refl refl
    where
      result : Bool → Walk
      result b = if b then record { seen = slice_set w.seen j stamp; own = w.own ++ j ∷ [] } else w

      by_test : (b c : Bool) → nat_lt j (length w.seen) ≡ b → (slice_index w.seen j == stamp) ≡ c → After true w j (if b && not c then record { seen = slice_set w.seen j stamp; own = w.own ++ j ∷ [] } else w)
      by_test true false e f =
          let inside : j < length w.seen = ltb-true j (length w.seen) e in
          let unlike : slice_index w.seen j ≢ stamp = grind (arith, nat_tests) in
          record {
            grows = put_grows stamp w j inside unlike;
            good = record { long = length-set w.seen j stamp ∙ g.long; low = put_low stamp w j inside unlike g.low; marked = put_marked stamp w j inside unlike g.marked; own = own_more w.own j g.own (h refl).1 };
            found = λ e. has_last w.own j;
          }
      by_test true true e f = record { grows = grows_none stamp w; good = g; found = λ e. g.marked j (eqb-true (slice_index w.seen j) stamp f) }
      by_test false c e f = absurd (let inside : j < n = (h refl).0 in let test : nat_lt j (length w.seen) ≡ true = rw g.long (less_to j n inside) in let bad : true ≡ false = sym test ∙ e in cc)
        where
          less_to : (x b : ℕ) → x < b → nat_lt x b ≡ true
          less_to x b = grind (arith, nat_tests)

module _ (m : MethodInfo) (frames : List (Option TagShape)) (depth stamp : ℕ) (P : ℕ → Type 0) where
  pub record AfterAll (js : List ℕ) (w v : Walk) : Type 0 where
    pub grows : Grows stamp w v
    pub good : IsGood stamp (length m.code) P v
    pub found : (j : ℕ) → IsIn j js → is_deep m frames depth j ≡ true → Has v.own j

  deep_inside : (j : ℕ) → is_deep m frames depth j ≡ true → j < length m.code
  deep_inside j e = by_insn (slice_get m.code j) refl e
    where
      by_insn : (o : Option Insn) → slice_get m.code j ≡ o → deep_at depth o (slice_get m.targets j) (slice_get frames j) ≡ true → j < length m.code
      by_insn (Some insn) q k = slice_get_within m.code j insn q
      by_insn None q k = absurd (let bad : false ≡ true = k in cc)

  all_after : (js : List ℕ) (w : Walk) → IsGood stamp (length m.code) P w → ((j : ℕ) → IsIn j js → is_deep m frames depth j ≡ true → P j) → AfterAll js w (all_visited m frames depth stamp js w)
  all_after [] w g h = record { grows = grows_none stamp w; good = g; found = λ j i e. absurd i }
  all_after (j ∷ js) w g h =
      let first = visit_after stamp (length m.code) P (is_deep m frames depth j) w j g (λ e. (deep_inside j e, h j (inl refl) e)) in
      let rest = all_after js (walk_visited (is_deep m frames depth j) stamp w j) first.good (λ i k e. h i (inr k) e) in
      record {
        grows = grows_twice stamp w (walk_visited (is_deep m frames depth j) stamp w j) (all_visited m frames depth stamp js (walk_visited (is_deep m frames depth j) stamp w j)) first.grows rest.grows;
        good = rest.good;
        found = λ i k e. ⊎_elim
            (λ (q : j ≡ i). has_grown stamp (walk_visited (is_deep m frames depth j) stamp w j) (all_visited m frames depth stamp js (walk_visited (is_deep m frames depth j) stamp w j)) i rest.grows
            (subst (λ x. Has (walk_visited (is_deep m frames depth j) stamp w j).own x) q (first.found (subst (λ x. is_deep m frames depth x ≡ true) (sym q) e))))
            (λ q. rest.found i q e) k;
      }

-- ---- the walk of a block

module _ (m : MethodInfo) (frames : List (Option TagShape)) (depth stamp enter : ℕ) where
  stays_more : (i : ℕ) (ks : List ℕ) (j k : ℕ) → IsPathInBlock m frames depth i ks j → IsIn k (ways_from m j) → is_deep m frames depth k ≡ true → (over : List ℕ) × IsPathInBlock m frames depth i over k
  stays_more i [] j k s w d = (k ∷ [], (s.1, subst (λ x. IsIn k (ways_from m x)) (sym s.0) w, (refl, d)))
  stays_more i (x ∷ xs) j k s w d = let r = stays_more x xs j k s.2 w d in (x ∷ r.0, (s.0, s.1, r.1))

  inside_more : (i k : ℕ) → IsInside m frames depth enter i → IsIn k (ways_from m i) → is_deep m frames depth k ≡ true → IsInside m frames depth enter k
  inside_more i k s w d = let r = stays_more s.first s.over i k s.stays w d in record { first = s.first; begins = s.begins; over = r.0; stays = r.1 }

  good_of : (k : ℕ) (w : Walk) → Walked m frames depth stamp enter k w → IsGood stamp (length m.code) (IsInside m frames depth enter) w
  good_of k w h = record { long = h.long; low = h.low; marked = h.marked; own = h.own }

  pub walk_begins : (w : Walk) → length w.seen ≡ length m.code → ((j : ℕ) → slice_index w.seen j < stamp) → w.own ≡ [] → Walked m frames depth stamp enter 0 (all_visited m frames depth stamp (ways_from m enter) w)
  walk_begins w long low none =
      let start : IsGood stamp (length m.code) (IsInside m frames depth enter) w = record {
        long = long;
        low = λ j. omega (arith, low j);
        marked = λ j e. absurd (omega (arith, low j, e));
        own = λ t l. absurd (let few : length w.own ≡ 0 = ap length none in omega (arith, l, few));
      } in
      let r = all_after m frames depth stamp (IsInside m frames depth enter) (ways_from m enter) w start (λ j i d. record { first = j; begins = i; over = []; stays = (refl, d) }) in
      record { long = r.good.long; low = r.good.low; marked = r.good.marked; own = r.good.own; begun = r.found; closed = λ t j l. absurd (omega (arith, l)) }

  step : (k : ℕ) (w : Walk) → Walked m frames depth stamp enter k w → k < length w.own → AfterAll m frames depth stamp (IsInside m frames depth enter) (ways_from m (slice_index w.own k)) w (all_visited m frames depth stamp (ways_from m (slice_index w.own k)) w)
  step k w h l = all_after m frames depth stamp (IsInside m frames depth enter) (ways_from m (slice_index w.own k)) w (good_of k w h) (λ j i d. inside_more (slice_index w.own k) j (h.own k l) i d)

  pub walk_goes_on : (k : ℕ) (w : Walk) → Walked m frames depth stamp enter k w → k < length w.own → Walked m frames depth stamp enter (k + 1) (all_visited m frames depth stamp (ways_from m (slice_index w.own k)) w)
  walk_goes_on k w h l =
      let r = step k w h l in
      record {
        long = r.good.long;
        low = r.good.low;
        marked = r.good.marked;
        own = r.good.own;
        begun = λ j i d. has_grown stamp w (all_visited m frames depth stamp (ways_from m (slice_index w.own k)) w) j r.grows (h.begun j i d);
        closed = λ t j g i d.
            let low : t < length w.own = omega (arith, g, l) in
            let was : IsIn j (ways_from m (slice_index w.own t)) = subst (λ x. IsIn j (ways_from m x)) (r.grows.same t low) i in
            ⊎_elim (λ (q : t ≡ k). r.found j (subst (λ x. IsIn j (ways_from m (slice_index w.own x))) q was) d)
            (λ (q : t ≢ k). has_grown stamp w (all_visited m frames depth stamp (ways_from m (slice_index w.own k)) w) j r.grows (h.closed t j (omega (arith, g, q)) was d)) (cases_eq t k);
      }

  pub walk_ends : (k : ℕ) (w : Walk) → Walked m frames depth stamp enter k w → k < length w.own → walk_left stamp (all_visited m frames depth stamp (ways_from m (slice_index w.own k)) w) (k + 1) < walk_left stamp w k
  walk_ends k w h l = let r = step k w h l in omega (arith, r.grows.lighter, l)

  -- where the number and what is left are told by equations
  pub goes_on_shown : (k i : ℕ) (w v : Walk) → Walked m frames depth stamp enter k w → k < length w.own → i ≡ slice_index w.own k → v ≡ all_visited m frames depth stamp (ways_from m i) w → Walked m frames depth stamp enter (k + 1) v
  goes_on_shown k i w v h l e f = subst (λ x. Walked m frames depth stamp enter (k + 1) x) (sym (f ∙ ap (λ x. all_visited m frames depth stamp (ways_from m x) w) e)) (walk_goes_on k w h l)

  pub ends_shown : (k i : ℕ) (w v : Walk) → Walked m frames depth stamp enter k w → k < length w.own → i ≡ slice_index w.own k → v ≡ all_visited m frames depth stamp (ways_from m i) w → walk_left stamp v (k + 1) < walk_left stamp w k
  ends_shown k i w v h l e f = subst (λ x. walk_left stamp x (k + 1) < walk_left stamp w k) (sym (f ∙ ap (λ x. all_visited m frames depth stamp (ways_from m x) w) e)) (walk_ends k w h l)

  pub explored : (k : ℕ) (w : Walk) → Walked m frames depth stamp enter k w → length w.own ≤ k → IsExplored m frames depth stamp enter w
  explored k w h l = record { long = h.long; low = h.low; own = h.own; all = λ i s. come s.first s.over i (h.begun s.first s.begins (deep_first s.first s.over i s.stays)) s.stays }
    where
      deep_first : (i : ℕ) (ks : List ℕ) (j : ℕ) → IsPathInBlock m frames depth i ks j → is_deep m frames depth i ≡ true
      deep_first i [] j s = s.1
      deep_first i (x ∷ xs) j s = s.0

      come : (i : ℕ) (ks : List ℕ) (j : ℕ) → Has w.own i → IsPathInBlock m frames depth i ks j → Has w.own j
      come i [] j a s = subst (λ x. Has w.own x) s.0 a
      come i (x ∷ xs) j a s =
          let low : a.0 < length w.own = a.1 in
          come x xs j (h.closed a.0 x (omega (arith, low, l)) (subst (λ y. IsIn x (ways_from m y)) (sym a.2) s.1) (deep_first x xs j s.2)) s.2
