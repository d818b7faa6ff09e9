-- A member that is added under its key.
use Rattle.std.{proofs.Common.{◌≡◌, Bool, true, false, cond, Option, Some, None, is_some, refl, sym, ap, ◌∙◌, ◌==◌, ◌&&◌}, specs.{BTreeMap.{BTreeMap, get_by, UpdatesBy}, Cmp.unsigned_ties}}
use Rattle.std.specs.{Map.lookup, Option.option_or, Ordering.{is_eq, nat_cmp, ordering_then}, declared.cmp.Ordering.{Ordering, TheVariants.{Less, Equal, Greater}}}
use Rattle.std.proofs.lemmas.Bool.{and_parts, eqb-true}
use Rattle.link_scope.specs.{Keys.{is_key, found_at}, declared.{scope.Found.Found, table.Key.Key}}
use Rattle.link_scope.specs.contracts.table.KeyOrd.TheImpl as key_ord

-- ---- keys are compared part by part

abbrev pub key_cmp : Key → Key → Ordering
key_cmp = (key_ord.ghosts).cmp

three : (a b c : Ordering) → is_eq (ordering_then a (ordering_then b c)) ≡ ((is_eq a && is_eq b) && is_eq c)
three Less b c = refl
three Equal Less c = refl
three Equal Equal c = refl
three Equal Greater c = refl
three Greater b c = refl

pub is_key_by : (key other : Key) → is_eq (key_cmp key other) ≡ is_key key other
is_key_by key other = three (nat_cmp key.class other.class) (nat_cmp key.name other.name) (nat_cmp key.descriptor other.descriptor)
    ∙ sym (λ i. (unsigned_ties key.class other.class i && unsigned_ties key.name other.name i) && unsigned_ties key.descriptor other.descriptor i)

-- a member is looked up by its key
pub found_by : (key : Key) (members : BTreeMap Key Found) → get_by (key_cmp key) members ≡ found_at members.entries key
found_by key members = λ i. lookup (λ other. is_key_by key other i) members.entries

pub same_key : (key other : Key) → is_key key other ≡ true → key ≡ other
same_key key other e =
    let all : (((key.class == other.class) && (key.name == other.name)) ≡ true) × ((key.descriptor == other.descriptor) ≡ true) = and_parts _ _ e in
    let two : ((key.class == other.class) ≡ true) × ((key.name == other.name) ≡ true) = and_parts _ _ all.0 in
    let class : key.class ≡ other.class = eqb-true _ _ two.0 in
    let name : key.name ≡ other.name = eqb-true _ _ two.1 in
    let descriptor : key.descriptor ≡ other.descriptor = eqb-true _ _ all.1 in
    λ i. record { class = class i; name = name i; descriptor = descriptor i }

-- what a look-up finds that had found nothing
none_of : {A : Type 0} (o : Option A) → is_some o ≡ false → o ≡ None
none_of None e = refl
none_of (Some x) e = absurd cc

-- an answer stands where there is no other
pub or_none : {A : Type 0} (o : Option A) → o ≡ option_or o None
or_none None = refl
or_none (Some x) = refl

module _ (old new : BTreeMap Key Found) (key : Key) (found : Found) (absent : is_some (get_by (key_cmp key) old) ≡ false) (updates : UpdatesBy key_cmp (key_cmp key) old new (Some found)) where
  none : found_at old.entries key ≡ None
  none = sym (found_by key old) ∙ none_of (get_by (key_cmp key) old) absent

  after : (q : Key) → found_at new.entries q ≡ cond (is_key key q) (Some found) (found_at old.entries q)
  after q = sym (found_by q new) ∙ updates.0 q ∙ (λ i. cond (is_key_by key q i) (Some found) (found_by q old i))

  added_by : (q : Key) (b : Bool) → is_key key q ≡ b → cond b (Some found) (found_at old.entries q) ≡ option_or (found_at old.entries q) (cond b (Some found) None)
  added_by q true e = let gone : found_at old.entries q ≡ None = ap (found_at old.entries) (sym (same_key key q e)) ∙ none in rw gone refl
  added_by q false e = or_none (found_at old.entries q)

  pub added : (q : Key) → found_at new.entries q ≡ option_or (found_at old.entries q) (cond (is_key key q) (Some found) None)
  added q = after q ∙ added_by q (is_key key q) refl
