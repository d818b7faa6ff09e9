-- What slots are along moves, starts and edges.
use Rattle.std.proofs.Common.{◌≡◌, ◌≢◌, ℕ, zero, suc, ◌⊎◌, inl, inr, Bool, true, false, List, [], ◌∷◌, ◌++◌, length, map, drop, Option, Some, None, refl, sym, ap, ◌∙◌, subst, arith, ◌==◌, if◌then◌else◌, slice_set, slice_index_or}
use Rattle.std.{specs.List.AllByRecursion, proofs.lemmas.Bool.{cases_Bool, Decides.nat_tests}}
use Rattle.lists.proofs.TestLaws.{both_are_true}
use Rattle.jvm_types.specs.{CodeTable.{value_of, stack_after, locals_after}, Types.{is_below, same_type, all_pairs}, Verifying.initialised, declared.op_row.Given.Given}
use Rattle.jvm_types.specs.declared.{op_row.{Given.TheVariants.{Fresh as Anew, Taken, Local}, OpRow.OpRow}, typing.VType.VType}
use Rattle.laws_programs.proofs.LocalRisen.{same_types}
use Rattle.checked_program.specs.{FrozenPlaces.KeepThis, LockTags.{same_tag, without, IsTagBelow, AreTagsBelow}, declared.tag.Tag.{Tag, TheVariants.{Untagged, This, At}}}
use Rattle.machine_types.specs.Construction.{if_so, SlotByType, OwnSlot, SlotIs, SlotsAre, StackWith}
use Rattle.laws_objects.proofs.NoThis.{other_above}
use Rattle.jvm_types.specs.declared.typing.VType.TheVariants as types

-- ---- lists of slots

pub slots_map : (R S : VType → Tag → ℕ → Type 0) → ((t : VType) (g : Tag) (v : ℕ) → R t g v → S t g v) → (ts : List VType) (gs : List Tag) (vs : List ℕ) → SlotsAre R ts gs vs → SlotsAre S ts gs vs
slots_map R S f [] [] [] a = tt
slots_map R S f (t ∷ ts) (g ∷ gs) (v ∷ vs) a = (f t g v a.0, slots_map R S f ts gs vs a.1)
slots_map R S f ts gs vs a = absurd a

pub slots_long : (R : VType → Tag → ℕ → Type 0) (us : List VType) (gs : List Tag) (vs : List ℕ) → SlotsAre R us gs vs → length us ≡ length vs
slots_long R [] [] [] a = refl
slots_long R (u ∷ us) (g ∷ gs) (v ∷ vs) a = ap suc (slots_long R us gs vs a.1)
slots_long R us gs vs a = absurd a

pub with_long : (R : VType → Tag → ℕ → Type 0) (New : ℕ → Type 0) (puts : Bool) (us : List VType) (gs : List Tag) (vs : List ℕ) → StackWith R New puts us gs vs → length us ≡ length vs
with_long R New true (u ∷ us) (g ∷ gs) (v ∷ vs) a = ap suc (slots_long R us gs vs a.1)
with_long R New puts us gs vs a = slots_long R us gs vs a

-- those of types that pass a test
pub slots_map_if : (P : VType → Type 0) (R S : VType → Tag → ℕ → Type 0) → ((u : VType) (g : Tag) (v : ℕ) → P u → R u g v → S u g v) → (us : List VType) (gs : List Tag) (vs : List ℕ) → AllByRecursion P us → SlotsAre R us gs vs → SlotsAre S us gs vs
slots_map_if P R S f [] [] [] all a = tt
slots_map_if P R S f (u ∷ us) (g ∷ gs) (v ∷ vs) all a = (f u g v all.0 a.0, slots_map_if P R S f us gs vs all.1 a.1)
slots_map_if P R S f us gs vs all a = absurd a

pub slots_drop : (R : VType → Tag → ℕ → Type 0) (k : ℕ) (ts : List VType) (gs : List Tag) (vs : List ℕ) → SlotsAre R ts gs vs → SlotsAre R (drop k ts) (drop k gs) (drop k vs)
slots_drop R zero ts gs vs a = a
slots_drop R (suc k) [] [] [] a = tt
slots_drop R (suc k) (t ∷ ts) (g ∷ gs) (v ∷ vs) a = slots_drop R k ts gs vs a.1
slots_drop R (suc k) ts gs vs a = absurd a

-- what a row makes anew
abbrev pub IsMade : (VType → Tag → ℕ → Type 0) → (made : ℕ) → Given → Type 0
IsMade R made (Anew t) = R t Untagged made
IsMade R made g = Unit {0}

abbrev pub IsWriteMade : (VType → Tag → ℕ → Type 0) → (made : ℕ) → Option (ℕ × Given) → Type 0
IsWriteMade R made None = Unit {0}
IsWriteMade R made (Some w) = IsMade R made w.1

module _ (R : VType → Tag → ℕ → Type 0) (top : R types.Top Untagged 0) where
  slot_at : (ts : List VType) (gs : List Tag) (vs : List ℕ) (k : ℕ) → SlotsAre R ts gs vs → R (slice_index_or ts k types.Top) (slice_index_or gs k Untagged) (slice_index_or vs k 0)
  slot_at [] [] [] k a = top
  slot_at (t ∷ ts) (g ∷ gs) (v ∷ vs) zero a = a.0
  slot_at (t ∷ ts) (g ∷ gs) (v ∷ vs) (suc k) a = slot_at ts gs vs k a.1
  slot_at ts gs vs k a = absurd a

  pub slots_append : (ts us : List VType) (gs hs : List Tag) (vs ws : List ℕ) → SlotsAre R ts gs vs → SlotsAre R us hs ws → SlotsAre R (ts ++ us) (gs ++ hs) (vs ++ ws)
  slots_append [] us [] hs [] ws a b = b
  slots_append (t ∷ ts) us (g ∷ gs) hs (v ∷ vs) ws a b = (a.0, slots_append ts us gs hs vs ws a.1 b)
  slots_append ts us gs hs vs ws a b = absurd a

  slots_set : (ts : List VType) (gs : List Tag) (vs : List ℕ) (k : ℕ) (t : VType) (g : Tag) (v : ℕ) → R t g v → SlotsAre R ts gs vs → SlotsAre R (slice_set ts k t) (slice_set gs k g) (slice_set vs k v)
  slots_set [] [] [] k t g v h a = tt
  slots_set (x ∷ ts) (y ∷ gs) (z ∷ vs) zero t g v h a = (h, a.1)
  slots_set (x ∷ ts) (y ∷ gs) (z ∷ vs) (suc k) t g v h a = (a.0, slots_set ts gs vs k t g v h a.1)
  slots_set ts gs vs k t g v h a = absurd a

  module _ (made : ℕ) (st lt : List VType) (sg lg : List Tag) (sv lv : List ℕ) (s : SlotsAre R st sg sv) (l : SlotsAre R lt lg lv) where
    given : (x : Given) → IsMade R made x → R (value_of types.Top (λ t. t) st lt x) (value_of Untagged (λ t. Untagged) sg lg x) (value_of 0 (λ t. made) sv lv x)
    given (Anew t) h = h
    given (Taken k) h = slot_at st sg sv k s
    given (Local k) h = slot_at lt lg lv k l

    givens : (xs : List Given) → AllByRecursion (IsMade R made) xs → SlotsAre R (map (value_of types.Top (λ t. t) st lt) xs) (map (value_of Untagged (λ t. Untagged) sg lg) xs) (map (value_of 0 (λ t. made) sv lv) xs)
    givens [] h = tt
    givens (x ∷ xs) h = (given x h.0, givens xs h.1)

    pub stack_moves : (r : OpRow) → AllByRecursion (IsMade R made) r.gives → SlotsAre R (stack_after types.Top (λ t. t) r st lt) (stack_after Untagged (λ t. Untagged) r sg lg) (stack_after 0 (λ t. made) r sv lv)
    stack_moves r h = slots_append (map (value_of types.Top (λ t. t) st lt) r.gives) (drop (length r.takes) st) (map (value_of Untagged (λ t. Untagged) sg lg) r.gives) (drop (length r.takes) sg) (map (value_of 0 (λ t. made) sv lv) r.gives) (drop (length r.takes) sv)
        (givens r.gives h) (slots_drop R (length r.takes) st sg sv s)

    pub local_moves : (w : Option (ℕ × Given)) → IsWriteMade R made w → SlotsAre R (locals_after types.Top (λ t. t) w st lt) (locals_after Untagged (λ t. Untagged) w sg lg) (locals_after 0 (λ t. made) w sv lv)
    local_moves None h = l
    local_moves (Some x) h = slots_set lt lg lv x.0 (value_of types.Top (λ t. t) st lt x.1) (value_of Untagged (λ t. Untagged) sg lg x.1) (value_of 0 (λ t. made) sv lv x.1) (given x.1 h) l

-- ---- slots with no `this` go by their type, which is not `this`

pub not_this : (k : Tag) → (k ≡ This) ⊎ (k ≢ This)
not_this This = inl refl
not_this k = inr (λ e. cc)

module _ (Old : ℕ → Type 0) (Fresh : ℕ → ℕ → Type 0) (young : ℕ → Bool) (receiver : ℕ) where
  pub plainly : (t : VType) (g : Tag) (v : ℕ) → g ≢ This → OwnSlot Old Fresh young receiver t g v → (t ≢ types.This) × SlotByType Old Fresh young t v
  plainly t This v n h = absurd (n refl)
  plainly types.This g v n h = absurd h
  plainly t g v n h = (λ e. cc, h)

  pub plain_slot : (t : VType) (g : Tag) (v : ℕ) → g ≢ This → t ≢ types.This → SlotByType Old Fresh young t v → OwnSlot Old Fresh young receiver t g v
  plain_slot t This v n m h = absurd (n refl)
  plain_slot types.This g v n m h = absurd (m refl)
  plain_slot t g v n m h = h

-- ---- one slot in another world

module _ (Old More : ℕ → Type 0) (Fresh Later : ℕ → ℕ → Type 0) (young : ℕ → Bool) (receiver : ℕ) where
  -- a slot that goes by its type is what that becomes
  pub slot_by : (own : Bool) (t u : VType) (g : Tag) (v : ℕ) → (t ≢ types.This → u ≢ types.This) → (SlotByType Old Fresh young t v → SlotByType More Later young u v)
      → SlotIs Old Fresh own young receiver t g v → SlotIs More Later own young receiver u g v
  slot_by false t u g v n f h = f h
  slot_by true t u g v n f h = elim (not_this g) [
    | inl e ↦ rw e (subst (λ (x : Tag). OwnSlot Old Fresh young receiver t x v) e h)
    | inr m ↦ let p = plainly Old Fresh young receiver t g v m h in plain_slot More Later young receiver u g v m (n p.0) (f p.1)
  ]

-- of a type that passes a test
module _ (Old More : ℕ → Type 0) (Fresh Later : ℕ → ℕ → Type 0) (P : VType → Type 0) (old : (v : ℕ) → Old v → More v) (young : ℕ → Bool) (fresh : (q v : ℕ) → P (types.New q) → young q ≡ true → Fresh q v → Later q v) where
  new_slot : (b : Bool) (q v : ℕ) → P (types.New q) → young q ≡ b → if_so b (Fresh q v) (Old v) → if_so b (Later q v) (More v)
  new_slot true q v p e h = fresh q v p e h
  new_slot false q v p e h = old v h

  by_type : (t : VType) (v : ℕ) → P t → SlotByType Old Fresh young t v → SlotByType More Later young t v
  by_type (types.New q) v p h = new_slot (young q) q v p refl h
  by_type t v p h = first_of (assumption, search old)

  pub slot_if : (receiver : ℕ) (own : Bool) (t : VType) (g : Tag) (v : ℕ) → P t → SlotIs Old Fresh own young receiver t g v → SlotIs More Later own young receiver t g v
  slot_if receiver own t g v p h = slot_by Old More Fresh Later young receiver own t t g v (λ n. n) (by_type t v p) h

module _ (Old More : ℕ → Type 0) (Fresh Later : ℕ → ℕ → Type 0) (old : (v : ℕ) → Old v → More v) (young : ℕ → Bool) (fresh : (q v : ℕ) → young q ≡ true → Fresh q v → Later q v) where
  pub slot_later : (own : Bool) (receiver : ℕ) (t : VType) (g : Tag) (v : ℕ) → SlotIs Old Fresh own young receiver t g v → SlotIs More Later own young receiver t g v
  slot_later own receiver t g v h = slot_if Old More Fresh Later (λ u. Unit {0}) old young (λ q v p. fresh q v) receiver own t g v tt h

-- ---- edges

module _ (Old : ℕ → Type 0) (null : Old 0) (Fresh : ℕ → ℕ → Type 0) (own : Bool) (young : ℕ → Bool) (receiver : ℕ) where
  abbrev pub R : VType → Tag → ℕ → Type 0
  R = SlotIs Old Fresh own young receiver

  pub top_slot : (o : Bool) → SlotIs Old Fresh o young receiver types.Top Untagged 0
  top_slot true = tt
  top_slot false = tt

  type_edge : (t u : VType) (v : ℕ) → is_below t u ≡ true → SlotByType Old Fresh young t v → SlotByType Old Fresh young u v
  type_edge types.Null (types.Ref c) v b h = subst Old (sym h) null
  type_edge (types.New p) (types.New q) v b h = subst (λ (r : ℕ). if_so (young r) (Fresh r v) (Old v)) (grind (arith, nat_tests, b)) h
  type_edge t types.Top v b h = tt
  type_edge t u v b h = first_of (assumption, cc)

  slot_edge : (o : Bool) (t u : VType) (g k : Tag) (v : ℕ) → is_below t u ≡ true → IsTagBelow g k → (o ≡ true → g ≡ This → k ≡ This) → SlotIs Old Fresh o young receiver t g v → SlotIs Old Fresh o young receiver u k v
  slot_edge true t u g k v b kept keeps h = elim (not_this g) [
    | inl e ↦ rw (keeps refl e) (subst (λ (x : Tag). OwnSlot Old Fresh young receiver t x v) e h)
    | inr n ↦ let p = plainly Old Fresh young receiver t g v n h in
        plain_slot Old Fresh young receiver u k v (λ e. n ((subst (λ (x : Tag). IsTagBelow g x) e kept))) (other_above t u b p.0) (type_edge t u v b p.1)
  ]
  slot_edge false t u g k v b kept keeps h = type_edge t u v b h

  pub slots_edge : (ts us : List VType) (gs ks : List Tag) (vs : List ℕ) → all_pairs is_below ts us ≡ true → AreTagsBelow gs ks → length ks ≡ length us → (own ≡ true → KeepThis gs ks) → SlotsAre R ts gs vs → SlotsAre R us ks vs
  slots_edge [] [] [] [] [] b kept long keeps h = tt
  slots_edge (t ∷ ts) (u ∷ us) (g ∷ gs) (k ∷ ks) (v ∷ vs) b kept long keeps h =
      let parts = both_are_true (is_below t u) (all_pairs is_below ts us) b in
      (slot_edge own t u g k v parts.0 kept.0 (λ o e. keeps o 0 e) h.0, slots_edge ts us gs ks vs parts.1 kept.1 (omega (arith, long)) (λ o n e. keeps o (suc n) e) h.1)
  slots_edge ts us gs ks vs b kept long keeps h = absurd (first_of (assumption, cc, omega (arith, long)))

  -- with what is still to be stored on the top
  pub with_edge : (New : ℕ → Type 0) (puts : Bool) (ts us : List VType) (gs ks : List Tag) (vs : List ℕ) → all_pairs is_below ts us ≡ true → AreTagsBelow gs ks → length ks ≡ length us → (own ≡ true → KeepThis gs ks) → StackWith R New puts ts gs vs → StackWith R New puts us ks vs
  with_edge New false ts us gs ks vs b kept long keeps h = slots_edge ts us gs ks vs b kept long keeps h
  with_edge New true [] [] gs ks vs b kept long keeps h = slots_edge [] [] gs ks vs b kept long keeps h
  with_edge New true (t ∷ ts) (u ∷ us) (g ∷ gs) (k ∷ ks) (v ∷ vs) b kept long keeps h =
      (h.0, slots_edge ts us gs ks vs (both_are_true (is_below t u) (all_pairs is_below ts us) b).1 kept.1 (omega (arith, long)) (λ o n e. keeps o (suc n) e) h.1)
  with_edge New true ts us gs ks vs b kept long keeps h = absurd (first_of (assumption, cc, omega (arith, long)))

  -- ---- an `<init>` that is started: its object is finished, or `this` of an `<init>` of a frozen class

  -- a start of a type: where slots of that type go to a class, they are what a finished reference is, or have the tag of `this`
  abbrev pub StartFine : VType → Type 0
  StartFine o = (v : ℕ) → SlotByType Old Fresh young o v → Old v

  abbrev pub StartOk : Bool → VType → Type 0
  StartOk true o = (o ≡ types.This) ⊎ StartFine o
  StartOk false o = StartFine o

  slot_started : (b : Bool) (o : VType) (class : ℕ) (t : VType) (g : Tag) (v : ℕ) → StartOk b o → SlotIs Old Fresh b young receiver t g v → SlotIs Old Fresh b young receiver (if same_type o t then types.Ref class else t) g v
  slot_started true o class t g v fine h = elim (not_this g) [
    | inl e ↦ rw e (subst (λ (x : Tag). OwnSlot Old Fresh young receiver t x v) e h)
    | inr n ↦ start (same_type o t) refl n (plainly Old Fresh young receiver t g v n h) fine
  ]
    where
      start : (b : Bool) → same_type o t ≡ b → g ≢ This → (t ≢ types.This) × SlotByType Old Fresh young t v → (o ≡ types.This) ⊎ StartFine o → OwnSlot Old Fresh young receiver (if b then types.Ref class else t) g v
      start true e n p (inl is) = absurd (p.0 (sym (same_types o t e) ∙ is))
      start true e n p (inr f) = plain_slot Old Fresh young receiver (types.Ref class) g v n (λ x. cc) (f v (subst (λ (x : VType). SlotByType Old Fresh young x v) (sym (same_types o t e)) p.1))
      start false e n p f = plain_slot Old Fresh young receiver t g v n p.0 p.1
  slot_started false o class t g v fine h =
      elim (cases_Bool (same_type o t)) [ inl e ↦ rw e (fine v (subst (λ (x : VType). SlotByType Old Fresh young x v) (sym (same_types o t e)) h)) | inr e ↦ rw e h ]

  pub slots_started : (o : VType) (class : ℕ) (ts : List VType) (gs : List Tag) (vs : List ℕ) → StartOk own o → SlotsAre R ts gs vs → SlotsAre R (initialised o class ts) gs vs
  slots_started o class [] [] [] fine h = tt
  slots_started o class (t ∷ ts) (g ∷ gs) (v ∷ vs) fine h = (slot_started own o class t g v fine h.0, slots_started o class ts gs vs fine h.1)
  slots_started o class ts gs vs fine h = absurd h

  -- ---- tags that a `dup` makes and takes away

  pub slot_retag : (b : Bool) (t : VType) (g k : Tag) (v : ℕ) → g ≢ This → k ≢ This → SlotIs Old Fresh b young receiver t g v → SlotIs Old Fresh b young receiver t k v
  slot_retag true t g k v n m h = let p = plainly Old Fresh young receiver t g v n h in plain_slot Old Fresh young receiver t k v m p.0 p.1
  slot_retag false t g k v n m h = h

  without_slot : (pc : ℕ) (b : Bool) (t : VType) (g : Tag) (v : ℕ) → SlotIs Old Fresh b young receiver t g v → SlotIs Old Fresh b young receiver t (if same_tag g (At pc) then Untagged else g) v
  without_slot pc b t (At q) v h = elim (q == pc) as (λ (x : Bool). SlotIs Old Fresh b young receiver t (if x then Untagged else At q) v) [ true ↦ slot_retag b t (At q) Untagged v (λ e. cc) (λ e. cc) h | false ↦ h ]
  without_slot pc b t g v h = h

  pub slots_without : (pc : ℕ) (ts : List VType) (gs : List Tag) (vs : List ℕ) → SlotsAre R ts gs vs → SlotsAre R ts (without pc gs) vs
  slots_without pc [] [] [] h = tt
  slots_without pc (t ∷ ts) (g ∷ gs) (v ∷ vs) h = (without_slot pc own t g v h.0, slots_without pc ts gs vs h.1)
  slots_without pc ts gs vs h = absurd h

  -- ---- a value that is made

  pub made_slot : (o : Bool) (t : VType) (v : ℕ) → t ≢ types.This → SlotByType Old Fresh young t v → SlotIs Old Fresh o young receiver t Untagged v
  made_slot true t v n h = plain_slot Old Fresh young receiver t Untagged v (λ e. cc) n h
  made_slot false t v n h = h

  pub ref_slot : (o : Bool) (c v : ℕ) → Old v → SlotIs Old Fresh o young receiver (types.Ref c) Untagged v
  ref_slot o c v h = made_slot o (types.Ref c) v (λ e. cc) h
