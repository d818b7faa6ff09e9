-- An instruction that reads or writes an element is an `iaload` or an `iastore`.
use Rattle.std.proofs.Common.{◌≡◌, ℕ, true, List, Option, refl, subst}
use Rattle.jvm_types.specs.declared.{code.Op.Op, program.{Program.Program, Target.Target}}
use Rattle.machine_types.{specs.{Effects.effect, Structure.is_element_op, declared.effect.Effect.{Effect, TheVariants.Indexes}}, proofs.EffectCases.{Comes, loads_element, stores_element, comes}}

abbrev IsElementFor : Op → Effect → Type 0
IsElementFor op (Indexes array index stored) = is_element_op stored op ≡ true
IsElementFor op e = Unit {0}

element_for : (p : Program) (next : ℕ) (target : Target) (op : Op) (s : List ℕ) (e : Effect) → Comes p 0 next target op s e → IsElementFor op e
element_for p next _ _ _ _ (loads_element target i a s z) = refl
element_for p next _ _ _ _ (stores_element target v i a s z) = refl
element_for p next target op s e k = tt

pub element_at : (p : Program) (next : ℕ) (target : Target) (op : Op) (l s : List ℕ) (array index : ℕ) (stored : Option ℕ) → effect p next target op l s ≡ Indexes array index stored → is_element_op stored op ≡ true
element_at p next target op l s array index stored e = subst (λ (x : Effect). IsElementFor op x) e (element_for p next target op s _ (comes p 0 next target op l s))
