-- The way that the search finds has as few calls as any.
use Rattle.std.proofs.Common.{◌≡◌, ℕ, zero, suc, ◌+◌, ◌-◌, ◌<◌, ◌≤◌, Bool, true, false, List, [], ◌∷◌, ◌++◌, length, Option, Some, None, refl, sym, ap, subst, ◌∙◌, arith, ⊎_elim, inl, inr, ◌⊎◌, nat_lt, slice_get}
use Rattle.std.proofs.lemmas.{Bool.Decides.nat_tests, List.length-append, Option.{same_Some, slice_get_within}}
use Rattle.jvm_types.specs.declared.program.Program.{Program}
use Rattle.checked_program.specs.{Marks.{Callee, Calls, BreaksAt}, Sections.Section, TaggedCode.Tagged, declared.section.{Mode.Mode, Uses.Uses}}
use Rattle.guard_analysis.specs.{CallGraph.node_of, Faults.IsModeFor}
use Rattle.mark_reasons.specs.{Reasons.{callee_of, own_callee, IsShortest, IsWay}, Searches.{callee_at, class_of_section, site_at, HasNodeBy, IsBack, from_section, from_entry, IsCalled, Searching}}
use Rattle.mark_reasons.{specs.declared.{reason.Site.Site, search.{Entry.Entry, Search.Search}}, proofs.Nodes.{callee_back, fits_call, section_fits}}

-- so many calls led to an entry
pub data HasCalls (queue : List Entry) : ℕ → ℕ → Type 0 where
  by_section : (t : ℕ) (e : Entry) → slice_get queue t ≡ Some e → e.caller ≡ 0 → HasCalls queue t 1
  by_entry : (t c n : ℕ) (e : Entry) → slice_get queue t ≡ Some e → e.caller ≡ suc c → HasCalls queue c n → HasCalls queue t (suc n)

some_calls : (queue : List Entry) (t n : ℕ) → HasCalls queue t n → 0 < n
some_calls queue _ _ (by_section t e g q) = omega arith
some_calls queue _ _ (by_entry t c n e g q b) = omega arith

pub back_calls : (class : ℕ) (own : Mode) (method : ℕ) (queue : List Entry) (t : ℕ) (way : List Site) → IsBack class own method queue t way → HasCalls queue t (length way)
back_calls class own method queue _ _ (from_section t e g q) = by_section t e g q
back_calls class own method queue _ _ (from_entry t c e b front g q got back) =
    subst (λ n. HasCalls queue t n) (let long : suc (length front) ≡ length (front ++ site_at class b.node e.at ∷ []) = omega (arith, length-append front (site_at class b.node e.at ∷ [])) in long)
    (by_entry t c (length front) e g q (back_calls class own method queue c front back))

module _ (p : Program) (tags : Tagged) (uses : Uses) (s : Section) (n k : ℕ) (w : Search) (h : Searching p tags uses s n k w) where
  abbrev class : ℕ
  class = class_of_section p s

  fits_way : (a : Callee) (xs : List Site) (b : Callee) → IsWay p tags a xs b → IsModeFor class a.mode → IsModeFor class b.mode
  fits_way a [] b way fits = subst (λ (x : Callee). IsModeFor class x.mode) way fits
  fits_way a (x ∷ xs) b way fits = fits_way way.1 xs b way.3 (fits_call p tags class a x.at way.1 fits way.2)

  -- an entry behind another one has no fewer
  no_fewer : (t u m l : ℕ) → t ≤ u → HasCalls w.queue t m → HasCalls w.queue u l → m ≤ l
  no_fewer _ u _ l q (by_section t e g z) b = let some : 0 < l = some_calls w.queue u l b in omega (arith, some)
  no_fewer _ _ _ _ q (by_entry t c m e g z a) (by_section u f k y) = absurd (let order : e.caller ≤ f.caller = h.ordered.order t u e f q g k in omega (arith, order, z, y))
  no_fewer _ _ _ _ q (by_entry t c m e g z a) (by_entry u d l f k y b) =
      let order : e.caller ≤ f.caller = h.ordered.order t u e f q g k in
      let less : c ≤ d = omega (arith, order, z, y) in
      let rest : m ≤ l = no_fewer c d m l less a b in
      omega (arith, rest)

  -- each entry has some
  calls_by : (t : ℕ) (e : Entry) → slice_get w.queue t ≡ Some e → ((d : ℕ) (b : Entry) → d < t → slice_get w.queue d ≡ Some b → (m : ℕ) × HasCalls w.queue d m) → (caller : ℕ) → e.caller ≡ caller → IsCalled p tags s w.queue t caller e.at e.node → (m : ℕ) × HasCalls w.queue t m
  calls_by t e g before zero q c = (1, by_section t e g q)
  calls_by t e g before (suc d) q c = let r = before d c.1 c.0 c.2 in (suc r.0, by_entry t d r.0 e g q r.1)

  calls_below : (most t : ℕ) (e : Entry) → t < most → slice_get w.queue t ≡ Some e → (m : ℕ) × HasCalls w.queue t m
  calls_below zero t e l g = absurd (omega (arith, l))
  calls_below (suc most) t e l g = calls_by t e g (λ d b front got. calls_below most d b (omega (arith, l, front)) got) e.caller refl (h.sound.called t e g)

  -- one more than the entry that called it, at most
  one_more : (u m : ℕ) → HasCalls w.queue u m → (t l : ℕ) (e : Entry) → slice_get w.queue t ≡ Some e → e.caller ≤ suc u → HasCalls w.queue t l → l ≤ suc m
  one_more u m a _ _ e g c (by_section t f k q) = omega arith
  one_more u m a _ _ e g c (by_entry t d l f k q b) =
      let same : e ≡ f = same_Some e f (sym g ∙ k) in
      let caller : e.caller ≡ f.caller = ap (λ (x : Entry). x.caller) same in
      let less : d ≤ u = omega (arith, c, caller, q) in
      let rest : l ≤ m = no_fewer d u l m less b a in
      omega (arith, rest)

  only_one : (t l : ℕ) (e : Entry) → slice_get w.queue t ≡ Some e → e.caller ≤ 0 → HasCalls w.queue t l → l ≡ 1
  only_one _ _ e g c (by_section t f k q) = refl
  only_one _ _ e g c (by_entry t d l f k q b) = absurd (
      let same : e ≡ f = same_Some e f (sym g ∙ k) in
      let caller : e.caller ≡ f.caller = ap (λ (x : Entry). x.caller) same in
      omega (arith, c, caller, q))

  -- the node of a method is among the first entries, with so many calls at most
  pub record IsNear (b : Callee) (most : ℕ) : Type 0 where
    pub t : ℕ
    pub e : Entry
    pub is : slice_get w.queue t ≡ Some e
    pub node : e.node ≡ node_of b
    pub done : t < k
    pub calls : ℕ
    pub has : HasCalls w.queue t calls
    pub few : calls ≤ most

  module _ (found : ℕ) (at_k : HasCalls w.queue k found) where
    less_or : (t : ℕ) → (t < k) ⊎ (k ≤ t)
    less_or t = by_test (nat_lt t k) refl
      where
        by_test : (b : Bool) → nat_lt t k ≡ b → (t < k) ⊎ (k ≤ t)
        by_test true q = inl (let low : t < k = grind (arith, nat_tests) in low)
        by_test false q = inr (let high : k ≤ t = grind (arith, nat_tests) in high)

    far : (t m most : ℕ) → k ≤ t → HasCalls w.queue t m → m ≤ most → found ≤ most
    far t m most l a q = let less : found ≤ m = no_fewer k t found m l at_k a in omega (arith, less, q)

    -- along a way from a method that has an entry
    along : (xs : List Site) (a b : Callee) (t m : ℕ) (e : Entry) → IsWay p tags a xs b → IsModeFor class a.mode → slice_get w.queue t ≡ Some e → e.node ≡ node_of a → HasCalls w.queue t m → (found ≤ m + length xs) ⊎ IsNear b (m + length xs)
    along [] a b t m e way fits g q calls = ⊎_elim
        (λ (l : t < k). inr (record { t = t; e = e; is = g; node = q ∙ ap node_of way; done = l; calls = m; has = calls; few = (let same : m ≤ m + 0 = omega arith in same) }))
        (λ (l : k ≤ t). inl (far t m (m + 0) l calls (let same : m ≤ m + 0 = omega arith in same))) (less_or t)
    along (x ∷ xs) a b t m e way fits g q calls = ⊎_elim
        (λ (l : t < k).
        let r = h.closed t x.at e way.1 l g (subst (λ (y : Callee). Calls p tags y x.at way.1) (sym (ap (callee_at class) q ∙ callee_back class a fits)) way.2) in
        let c = calls_below (suc r.0) r.0 r.1 (let self : r.0 < suc r.0 = omega arith in self) r.2 in
        let more : c.0 ≤ suc m = one_more t m calls r.0 c.0 r.1 r.2 r.4 c.1 in
        let total : c.0 + length xs ≤ m + suc (length xs) = omega (arith, more) in
        ⊎_elim (λ (z : found ≤ c.0 + length xs). inl (let less : found ≤ m + suc (length xs) = omega (arith, z, total) in less))
        (λ (z : IsNear b (c.0 + length xs)). inr (record { t = z.t; e = z.e; is = z.is; node = z.node; done = z.done; calls = z.calls; has = z.has; few = (let few : z.calls ≤ c.0 + length xs = z.few in let less : z.calls ≤ m + suc (length xs) = omega (arith, few, total) in less) }))
        (along xs way.1 b r.0 c.0 r.1 way.3 (fits_call p tags class a x.at way.1 fits way.2) r.2 r.3 c.1))
        (λ (l : k ≤ t). inl (far t m (m + suc (length xs)) l calls (let more : m ≤ m + suc (length xs) = omega arith in more))) (less_or t)

    -- any way to an instruction that breaks a rule has as many calls as the entry at hand
    pub no_shorter : (way : List Site) → found ≡ length way → IsShortest p tags uses s way
    no_shorter way long x xs site rule leads own breaks =
        let fits : IsModeFor class leads.1.mode = fits_call p tags class (own_callee p s) x.at leads.1 (section_fits p s) leads.2 in
        let last_fits : IsModeFor class site.mode = fits_way leads.1 xs (callee_of site) leads.3 fits in
        let r = h.begun x.at leads.1 own leads.2 in
        let c = calls_below (suc r.0) r.0 r.1 (let self : r.0 < suc r.0 = omega arith in self) r.2 in
        let one : c.0 ≡ 1 = only_one r.0 c.0 r.1 r.2 r.4 c.1 in
        ⊎_elim (λ (z : found ≤ c.0 + length xs). let less : length way ≤ suc (length xs) = omega (arith, z, one, long) in less)
        (λ (z : IsNear (callee_of site) (c.0 + length xs)). absurd (h.sane z.t site.at rule z.e z.done z.is
        (subst (λ (y : Callee). BreaksAt p tags uses y site.at rule) (sym (ap (callee_at class) z.node ∙ callee_back class (callee_of site) last_fits)) breaks)))
        (along xs leads.1 (callee_of site) r.0 c.0 r.1 leads.3 fits r.2 r.3 c.1)
