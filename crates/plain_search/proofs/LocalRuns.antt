-- Local steps, one more at the end.
use Rattle.std.proofs.Common.{◌≡◌, ◌≤◌, ℕ, ◌+◌, Bool, true, List, [], ◌∷◌, ◌++◌, Option, Some, refl, sym, ap, ◌∙◌, subst, arith}
use Rattle.checked_program.specs.MarkedProgram.{MarkedProgram}
use Rattle.machine_types.specs.PlainSteps.{plain_step}
use Rattle.machine_types.specs.declared.plain.PlainStep.{PlainStep}
use Rattle.history_rule.specs.Steps.{Played}
use Rattle.plain_orders.specs.LocalSteps.{is_local}
use Rattle.plain_orders.specs.Orders.{IsLocalRun, LeadsLocally}
use Rattle.plain_search.specs.Alone.{IsSettled}

module _ {S A : Type 0} (step : S → A → Option S) (local : S → A → Bool) where
  joined : (s r z : S) (xs bs : List A) → IsLocalRun step local s xs r → IsLocalRun step local r bs z → IsLocalRun step local s (xs ++ bs) z
  joined s r z [] bs v w = subst (λ (q : S). IsLocalRun step local q bs z) (sym v) w
  joined s r z (a ∷ xs) bs v w = (v.0, v.1, v.2, joined v.1 r z xs bs v.3 w)

  pub one_later : (s r z : S) (a : A) → LeadsLocally step local s r → local r a ≡ true → step r a ≡ Some z → LeadsLocally step local s z
  one_later s r z a v l e = (v.0 ++ a ∷ [], joined s r z v.0 (a ∷ []) v.1 (l, z, e, refl))

  pub both_lead : (s r z : S) → LeadsLocally step local s r → LeadsLocally step local r z → LeadsLocally step local s z
  both_lead s r z v w = (v.0 ++ w.0, joined s r z v.0 w.0 v.1 w.1)

  pub leads_nowhere : (s : S) → LeadsLocally step local s s
  leads_nowhere s = ([], refl)

pub none_settled : (q : Played) → IsSettled 0 q q
none_settled q = record { leads = ([], refl); same = refl; few = omega arith }

pub settled_later : (n m : ℕ) (old new : Played) → n ≤ m → IsSettled n old new → IsSettled m old new
settled_later n m old new l v = record { leads = v.leads; same = v.same; few = let f = v.few in omega (arith, l, f) }

pub one_settled : (n : ℕ) (c : MarkedProgram) (old now new : Played) (a : PlainStep) → c ≡ old.program → IsSettled n old now → is_local c.program now.state a ≡ true → plain_step c.program now.state a ≡ Some new.state
    → new ≡ record now { state = new.state; steps = now.steps + 1 } → IsSettled (n + 1) old new
one_settled n c old now new a e v l step is = record {
  leads = one_later (plain_step old.program.program) (is_local old.program.program) old.state now.state new.state a v.leads
      (subst (λ (d : MarkedProgram). is_local d.program now.state a ≡ true) e l) (subst (λ (d : MarkedProgram). plain_step d.program now.state a ≡ Some new.state) e step);
  same = ap (λ (q : Played). q.program) is ∙ v.same;
  few = let f = v.few in let g = ap (λ (q : Played). q.steps) is in omega (arith, f, g);
}
