-- Tables of numbers by names.
use Rattle.std.{proofs.Common.{◌≡◌, ℕ, Bool, cond, List, Option, ap, ◌∙◌, bytes_eq}, specs.{BTreeMap.{BTreeMap, UpdatesBy}, Cmp.Lexicographic.{slice_cmp, nat_list_eq_equiv}, Ordering.nat_cmp}}
use Rattle.std.proofs.lemmas.Map.Text.{btree_map_updates_str}
use Rattle.descriptors.specs.NameTables.{find}
use denote.Ref.{Bor}

-- one name more
pub put_name : (name : List ℕ) (m n : BTreeMap (Bor (List ℕ)) ℕ) (w : Option ℕ) → UpdatesBy (λ x y. slice_cmp nat_cmp x.now y.now) (λ k. slice_cmp nat_cmp name k.now) m n w
    → (q : List ℕ) → find n q ≡ cond (bytes_eq q name) w (find m q)
put_name name m n w h q = btree_map_updates_str name m n w h q ∙ ap (λ (b : Bool). cond b w (find m q)) (nat_list_eq_equiv.symm name q)
