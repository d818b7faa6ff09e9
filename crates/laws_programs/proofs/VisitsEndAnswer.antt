-- From any nodes whose frames keep to the bounds the visits end, or one of them breaks a rule: by the work that is left.
use Rattle.std.proofs.Common.{◌≡◌, ℕ, zero, suc, ◌<◌, List, [], ◌∷◌, map, Option, Some, None, Result, Ok, Err, refl, inl, inr, arith, ◌⊎◌}
use Rattle.jvm_types.specs.{Types.TypeFrame, Verifying.{Node, first_nodes, visited, next_visit, Visits, Breaks, HasTyping, IsRefused, IsLaidOut}, declared.program.MethodInfo.MethodInfo}
use Rattle.jvm_types.specs.declared.{program.Program.Program, refusal.VRule.VRule}
use Rattle.laws_programs.proofs.VisitsEnd.{IsKept, first_kept, visit_keeps, work, visit_works}

-- how the visits from some nodes on end
data Ends (p : Program) (m : MethodInfo) (nodes : List Node) : Type 0 where
  Last : (visits : List ℕ) (last : List Node) (made : Visits p m nodes visits last) → Ends p m nodes
  Broken : (i : ℕ) (visits : List ℕ) (fault : VRule × ℕ) (broken : Breaks p m nodes (i ∷ visits) fault) → Ends p m nodes

then_ends : (p : Program) (m : MethodInfo) (nodes mid : List Node) (i : ℕ) → next_visit nodes ≡ Some i → visited p m i nodes ≡ Ok mid → Ends p m mid → Ends p m nodes
then_ends p m nodes mid i next e (Last visits last made) = Last (i ∷ visits) last (next, mid, e, made)
then_ends p m nodes mid i next e (Broken j visits fault broken) = Broken i (j ∷ visits) fault (next, mid, e, broken)

ends_within : (n : ℕ) (p : Program) (m : MethodInfo) (nodes : List Node) → IsLaidOut m → IsKept m nodes → work m nodes < n → Ends p m nodes
ends_within zero p m nodes laid k h = absurd (omega (arith, h))
ends_within (suc n) p m nodes laid k h = by_next (next_visit nodes) refl (λ mid l g. ends_within n p m mid laid l g)
  where
    by_visit : (i : ℕ) (r : Result (List Node) (VRule × ℕ)) → next_visit nodes ≡ Some i → visited p m i nodes ≡ r → ((mid : List Node) → IsKept m mid → work m mid < n → Ends p m mid) → Ends p m nodes
    by_visit i (Err fault) next e more = Broken i [] fault (next, e)
    by_visit i (Ok mid) next e more = then_ends p m nodes mid i next e (more mid (visit_keeps p m nodes mid i laid k e) (omega (arith, h, visit_works p m nodes mid i laid k next e)))

    by_next : (o : Option ℕ) → next_visit nodes ≡ o → ((mid : List Node) → IsKept m mid → work m mid < n → Ends p m mid) → Ends p m nodes
    by_next None e more = Last [] nodes (e, refl)
    by_next (Some i) e more = by_visit i (visited p m i nodes) e refl more

pub typed_or_refused : (p : Program) (m : MethodInfo) → IsLaidOut m → ((frames : List (Option TypeFrame)) × HasTyping p m frames) ⊎ ((rule : VRule) × (pc : ℕ) × IsRefused p m rule pc)
typed_or_refused p m laid = by_end (ends_within (suc (work m (first_nodes m m.code))) p m (first_nodes m m.code) laid (first_kept m laid) (omega arith))
  where
    by_end : Ends p m (first_nodes m m.code) → ((frames : List (Option TypeFrame)) × HasTyping p m frames) ⊎ ((rule : VRule) × (pc : ℕ) × IsRefused p m rule pc)
    by_end (Last visits last made) = inl (map (λ (node : Node). node.frame) last, record { visits = visits; last = last; made = made; are = refl })
    by_end (Broken i visits fault broken) = inr (fault.0, fault.1, record { visits = i ∷ visits; broken = broken })
