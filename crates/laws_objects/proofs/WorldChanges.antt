-- What the changes of a world leave.
use Rattle.std.proofs.Common.{◌≡◌, ◌≢◌, ℕ, ◌≤◌, ◌<◌, ◌⊎◌, inl, inr, Bool, true, false, ◌&&◌, Option, Some, None, refl, sym, ap, ◌∙◌, subst, arith, ◌==◌, if◌then◌else◌}
use Rattle.std.proofs.lemmas.Bool.{cases_Bool, eq-eqb, eqb-true, ne_eqb, eqb-false, false_from_ne_true}
use Rattle.machine_types.specs.Worlds.{Item, Header, Made, Lost, Builder, builder, World, IsFinished, IsOwnOrFinished, IsWorld, finished, same_item, same_builder, lost_if, with_builder, GoesOn}

item_same : (x y : Item) → same_item x y ≡ true → x ≡ y
item_same (Made q) (Made r) e = ap (λ (n : ℕ). Made n) (eqb-true q r e)
item_same x Header e = cc
item_same x y e = cc

item_self : (x : Item) → same_item x x ≡ true
item_self (Made q) = eq-eqb q q refl
item_self x = refl

pub builder_same : (j k : Builder) → same_builder j k ≡ true → j ≡ k
builder_same j k e = by_tests (j.thread == k.thread) (j.height == k.height) (same_item j.item k.item) refl refl refl e
  where
    by_tests : (a b c : Bool) → (j.thread == k.thread) ≡ a → (j.height == k.height) ≡ b → same_item j.item k.item ≡ c → (a && b && c) ≡ true → j ≡ k
    by_tests true true true x y z e = rw (← eqb-true j.thread k.thread x, ← eqb-true j.height k.height y, ← item_same j.item k.item z) refl
    by_tests a b c x y z e = absurd (cc)

pub builder_self : (k : Builder) → same_builder k k ≡ true
builder_self k = rw (eq-eqb k.thread k.thread refl, eq-eqb k.height k.height refl, item_self k.item) refl

builder_other : (j k : Builder) → j ≢ k → same_builder j k ≡ false
builder_other j k n = false_from_ne_true (same_builder j k) (λ e. n (builder_same j k e))

pub none_some : {A : Type 0} (o : Option A) (k : A) → o ≡ None → o ≡ Some k → ⊥
none_some o k e f = cc

pub none_from : {A : Type 0} (o : Option A) → ((x : A) → o ≡ Some x → ⊥) → o ≡ None
none_from None never = refl
none_from (Some x) never = absurd (never x refl)

pub item_is : (o : Option Builder) (t h t' h' : ℕ) (x y : Item) → o ≡ Some (builder t h x) → o ≡ Some (builder t' h' y) → (h ≡ h') × (x ≡ y)
item_is o t h t' h' x y e f = let same : builder t h x ≡ builder t' h' y = cc in (ap (λ (k : Builder). k.height) same, ap (λ (k : Builder). k.item) same)

pub finished_known : (w : World) (next t v : ℕ) → IsFinished w next v → IsOwnOrFinished w next t v
finished_known w next t v o = (o.0, λ b e. absurd (none_some (w v) b o.1 e))

abbrev pub lost : Builder → Builder
lost b = record b { item = Lost }

-- ---- one world behind another

-- each builder stood in the one before
pub world_less : (w z : World) (first next more : ℕ) → IsWorld w first next → next ≤ more → ((v : ℕ) (j : Builder) → z v ≡ Some j → w v ≡ Some j) → IsWorld z first more
world_less w z first next more is grows back = record {
  one = λ v u j n e f. is.one v u j n (back v j e) (back u j f);
  inside = λ v j e. let i = is.inside v j (back v j e) in (i.0, (let u = i.1 in omega (arith, u, grows)));
  room = (let r = is.room in omega (arith, r, grows));
}

pub world_same : (w : World) (first next more : ℕ) → IsWorld w first next → next ≤ more → IsWorld w first more
world_same w first next more is grows = world_less w w first next more is grows (λ v j e. e)

-- with nothing said of lower frames
pub goes_by : (w z : World) (next more t : ℕ) → next ≤ more → ((v : ℕ) → IsFinished w next v → z v ≡ None) → ((v : ℕ) (j : Builder) → j.thread ≢ t → w v ≡ Some j → z v ≡ Some j)
    → ((v : ℕ) (j : Builder) → j.thread ≢ t → z v ≡ Some j → w v ≡ Some j) → GoesOn w z next more t 0
goes_by w z next more t grows finished others no_more = record { grows = grows; finished = finished; others = others; no_more = no_more; lower = λ v j m l e. absurd (omega (arith, l)) }

pub goes_same : (w : World) (next more t : ℕ) → next ≤ more → GoesOn w w next more t 0
goes_same w next more t grows = goes_by w w next more t grows (λ v o. o.1) (λ v j n e. e) (λ v j n e. e)

-- ---- an object gets a builder

pub given_here : (w : World) (a : ℕ) (k : Builder) → with_builder w a k a ≡ Some k
given_here w a k = rw (eq-eqb a a refl) refl

pub given_there : (w : World) (a : ℕ) (k : Builder) (v : ℕ) → v ≢ a → with_builder w a k v ≡ lost_if k (w v)
given_there w a k v n = rw (ne_eqb v a n) refl

pub given_keeps : (w : World) (a : ℕ) (k : Builder) (v : ℕ) (j : Builder) → w v ≡ Some j → v ≢ a → j ≢ k → with_builder w a k v ≡ Some j
given_keeps w a k v j e n m = given_there w a k v n ∙ ap (lost_if k) e ∙ rw (builder_other k j (λ z. m (sym z))) refl

pub given_none : (w : World) (a : ℕ) (k : Builder) (v : ℕ) → w v ≡ None → v ≢ a → with_builder w a k v ≡ None
given_none w a k v e n = given_there w a k v n ∙ ap (lost_if k) e

pub given_gone : (w : World) (a : ℕ) (k : Builder) (v : ℕ) → w v ≡ Some k → v ≢ a → with_builder w a k v ≡ Some (lost k)
given_gone w a k v e n = given_there w a k v n ∙ ap (lost_if k) e ∙ rw (builder_self k) refl

lost_back : (k j : Builder) (o : Option Builder) → lost_if k o ≡ Some j → ((o ≡ Some j) × (j ≢ k)) ⊎ ((o ≡ Some k) × (j ≡ lost k))
lost_back k j None e = absurd (cc)
lost_back k j (Some i) e = by_test (same_builder k i) refl e
  where
    by_test : (b : Bool) → same_builder k i ≡ b → (if b then Some (lost i) else Some i) ≡ Some j → ((Some i ≡ Some j) × (j ≢ k)) ⊎ ((Some i ≡ Some k) × (j ≡ lost k))
    by_test true t e = let same : i ≡ k = sym (builder_same k i t) in let is : lost i ≡ j = cc in inr (ap (λ (x : Builder). Some x) same, sym is ∙ ap lost same)
    by_test false t e = inl (e, λ same. (let is : i ≡ j = cc in let bad : same_builder k i ≡ true = rw (is, same) (builder_self k) in cc))

-- the object itself; one that has its builder on; one that had this builder, and is lost
abbrev pub GivenBack : World → (a : ℕ) → Builder → (v : ℕ) → Builder → Type 0
GivenBack w a k v j = ((v ≡ a) × (j ≡ k)) ⊎ ((v ≢ a) × (w v ≡ Some j) × (j ≢ k)) ⊎ ((v ≢ a) × (w v ≡ Some k) × (j ≡ lost k))

pub given_back : (w : World) (a : ℕ) (k : Builder) (v : ℕ) (j : Builder) → with_builder w a k v ≡ Some j → GivenBack w a k v j
given_back w a k v j e = elim (cases_Bool (v == a)) [
  | inl t ↦ inl (eqb-true v a t, (let same : Some k ≡ Some j = rw t at e in cc))
  | inr t ↦ elim (lost_back k j (w v) (rw t at e)) [ inl x ↦ inr (inl (eqb-false v a t, x.0, x.1)) | inr x ↦ inr (inr (eqb-false v a t, x.0, x.1)) ]
]

lost_none : (k : Builder) (o : Option Builder) → lost_if k o ≡ None → o ≡ None
lost_none k None e = refl
lost_none k (Some i) e = (elim (same_builder k i) as (λ (b : Bool). (if b then Some (lost i) else Some i) ≡ None → Some i ≡ None) [ true ↦ λ e. absurd (cc) | false ↦ λ e. absurd (cc) ]) e

pub given_none_back : (w : World) (a : ℕ) (k : Builder) (v : ℕ) → with_builder w a k v ≡ None → (v ≢ a) × (w v ≡ None)
given_none_back w a k v e = elim (cases_Bool (v == a)) [ inl t ↦ absurd (let bad : Some k ≡ None = rw t at e in cc) | inr t ↦ (eqb-false v a t, lost_none k (w v) (rw t at e)) ]

-- each builder stands once, whatever stood before
one_given : (w : World) (a : ℕ) (k : Builder) → ((v u : ℕ) (b : Builder) → b.item ≢ Lost → w v ≡ Some b → w u ≡ Some b → v ≡ u)
    → (v u : ℕ) (b : Builder) → b.item ≢ Lost → with_builder w a k v ≡ Some b → with_builder w a k u ≡ Some b → v ≡ u
one_given w a k one v u j n e f = both (given_back w a k v j e) (given_back w a k u j f)
  where
    not_lost : j ≡ lost k → ⊥
    not_lost z = n (ap (λ (i : Builder). i.item) z)

    both : GivenBack w a k v j → GivenBack w a k u j → v ≡ u
    both (inl x) (inl y) = x.0 ∙ sym y.0
    both (inl x) (inr (inl y)) = absurd (y.2 x.1)
    both (inr (inl x)) (inl y) = absurd (x.2 y.1)
    both (inr (inl x)) (inr (inl y)) = one v u j n x.1 y.1
    both (inr (inr x)) y = absurd (not_lost x.2)
    both x (inr (inr y)) = absurd (not_lost y.2)

pub world_given : (w : World) (first next more a : ℕ) (k : Builder) → IsWorld w first next → next ≤ more → first ≤ a → a < more → IsWorld (with_builder w a k) first more
world_given w first next more a k is grows above below =
    let later = world_same w first next more is grows in
    record {
      one = one_given w a k is.one;
      inside = λ v b e. elim (given_back w a k v b e) [ inl x ↦ let s = x.0 in (omega (arith, s, above), omega (arith, s, below)) | inr (inl x) ↦ later.inside v b x.1 | inr (inr x) ↦ later.inside v k x.1 ];
      room = later.room;
    }

-- t gives a builder of its own to an object that it builds, or that is new
pub goes_given : (w : World) (next more t a : ℕ) (k : Builder) → next ≤ more → k.thread ≡ t → (IsFinished w next a → ⊥) → ((j : Builder) → w a ≡ Some j → j.thread ≡ t) → GoesOn w (with_builder w a k) next more t 0
goes_given w next more t a k grows mine new was = goes_by w (with_builder w a k) next more t grows
    (λ v o. given_none w a k v o.1 (λ e. new (subst (IsFinished w next) e o)))
    (λ v j n e. given_keeps w a k v j e (λ s. n (was j (subst (λ (x : ℕ). w x ≡ Some j) s e))) (λ s. n (ap (λ (i : Builder). i.thread) s ∙ mine)))
    (λ v j n e. elim (given_back w a k v j e) [ inl x ↦ absurd (n (ap (λ (i : Builder). i.thread) x.1 ∙ mine)) | inr (inl x) ↦ x.1 | inr (inr x) ↦ absurd (n (ap (λ (i : Builder). i.thread) x.2 ∙ mine)) ])

-- ---- an object is finished

pub finished_there : (w : World) (a v : ℕ) → v ≢ a → finished w a v ≡ w v
finished_there w a v n = rw (ne_eqb v a n) refl

pub finished_back : (w : World) (a v : ℕ) (j : Builder) → finished w a v ≡ Some j → w v ≡ Some j
finished_back w a v j = elim (v == a) as (λ (b : Bool). (if b then None else w v) ≡ Some j → w v ≡ Some j) [ true ↦ λ e. absurd (cc) | false ↦ λ e. e ]

pub world_finished : (w : World) (first next more a : ℕ) → IsWorld w first next → next ≤ more → IsWorld (finished w a) first more
world_finished w first next more a is grows = world_less w (finished w a) first next more is grows (finished_back w a)

-- t finishes an object that it builds
pub goes_finished : (w : World) (next more t a : ℕ) → next ≤ more → ((j : Builder) → w a ≡ Some j → j.thread ≡ t) → GoesOn w (finished w a) next more t 0
goes_finished w next more t a grows was = goes_by w (finished w a) next more t grows
    (λ v o. elim (v == a) as (λ (b : Bool). (if b then None else w v) ≡ None) [ true ↦ refl | false ↦ o.1 ])
    (λ v j n e. finished_there w a v (λ s. n (was j (subst (λ (x : ℕ). w x ≡ Some j) s e))) ∙ e) (λ v j n e. finished_back w a v j e)

-- ---- one change behind another

pub goes_both : (w v u : World) (next more most t : ℕ) → GoesOn w v next more t 0 → GoesOn v u more most t 0 → GoesOn w u next most t 0
goes_both w v u next more most t a b = goes_by w u next most t (let x = a.grows in let y = b.grows in omega (arith, x, y))
    (λ o f. b.finished o ((let l = f.0 in let x = a.grows in omega (arith, l, x)), a.finished o f)) (λ o j n e. b.others o j n (a.others o j n e)) (λ o j n e. a.no_more o j n (b.no_more o j n e))

-- ---- what has a builder is finished

abbrev pub drop_if : Builder → Option Builder → Option Builder
drop_if b None = None
drop_if b (Some d) = if same_builder b d then None else Some d

abbrev pub without : World → Builder → World
without w b v = drop_if b (w v)

pub without_gone : (w : World) (b : Builder) (v : ℕ) → w v ≡ Some b → without w b v ≡ None
without_gone w b v e = ap (drop_if b) e ∙ rw (builder_self b) refl

pub without_keeps : (w : World) (b : Builder) (v : ℕ) (j : Builder) → w v ≡ Some j → j ≢ b → without w b v ≡ Some j
without_keeps w b v j e n = ap (drop_if b) e ∙ rw (builder_other b j (λ z. n (sym z))) refl

pub without_none : (w : World) (b : Builder) (v : ℕ) → w v ≡ None → without w b v ≡ None
without_none w b v e = ap (drop_if b) e

pub finished_without : (w : World) (next : ℕ) (b : Builder) (v : ℕ) → IsFinished w next v → IsFinished (without w b) next v
finished_without w next b v o = (o.0, without_none w b v o.1)

pub without_back : (w : World) (b : Builder) (v : ℕ) (j : Builder) → without w b v ≡ Some j → w v ≡ Some j
without_back w b v j = elim (w v) as (λ (o : Option Builder). drop_if b o ≡ Some j → o ≡ Some j)
    [ None ↦ λ e. e | Some d ↦ elim (same_builder b d) as (λ (x : Bool). (if x then None else Some d) ≡ Some j → Some d ≡ Some j) [ true ↦ λ e. absurd (cc) | false ↦ λ e. e ] ]

pub goes_without : (w : World) (next t : ℕ) (b : Builder) → b.thread ≡ t → GoesOn w (without w b) next next t 0
goes_without w next t b mine = goes_by w (without w b) next next t (omega arith) (λ v o. without_none w b v o.1)
    (λ v j n e. without_keeps w b v j e (λ s. n (ap (λ (i : Builder). i.thread) s ∙ mine))) (λ v j n e. without_back w b v j e)

-- ---- an object that is lost stays lost

abbrev pub KeepsLost : World → World → Type 0
KeepsLost w z = (v : ℕ) (b : Builder) → b.item ≡ Lost → w v ≡ Some b → z v ≡ Some b

pub lost_same : (w : World) → KeepsLost w w
lost_same w v b item e = e

pub lost_given : (w : World) (a : ℕ) (k : Builder) → ((b : Builder) → w a ≡ Some b → b.item ≢ Lost) → KeepsLost w (with_builder w a k)
lost_given w a k was v b item e = elim (cases_Bool (same_builder k b)) [
  | inl t ↦ let same : k ≡ b = builder_same k b t in
      given_gone w a k v (e ∙ ap (λ (i : Builder). Some i) (sym same)) other ∙ (ap (λ (i : Builder). Some (lost i)) same ∙ (λ i. Some (record b { item = sym item i })))
  | inr t ↦ given_keeps w a k v b e other (λ s. (let bad : true ≡ false = sym (builder_self b) ∙ (ap (λ (i : Builder). same_builder i b) s ∙ t) in cc))
]
  where
    other : v ≢ a
    other s = was b (subst (λ (x : ℕ). w x ≡ Some b) s e) item

pub lost_finished : (w : World) (a : ℕ) → ((b : Builder) → w a ≡ Some b → b.item ≢ Lost) → KeepsLost w (finished w a)
lost_finished w a was v b item e = finished_there w a v (λ s. was b (subst (λ (x : ℕ). w x ≡ Some b) s e) item) ∙ e

pub lost_without : (w : World) (k : Builder) → k.item ≢ Lost → KeepsLost w (without w k)
lost_without w k other v b item e = without_keeps w k v b e (λ s. other (sym (ap (λ (i : Builder). i.item) s) ∙ item))

-- what has one builder has no lost one
pub not_lost : (o : Option Builder) (k b : Builder) → k.item ≢ Lost → o ≡ Some k → o ≡ Some b → b.item ≢ Lost
not_lost o k b other e f item = let same : k ≡ b = cc in other (ap (λ (i : Builder). i.item) same ∙ item)
