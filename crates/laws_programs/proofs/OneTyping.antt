-- Visits are determined: from some nodes on they end in one list of nodes, or at one refusal.
use Rattle.std.proofs.Common.{◌≡◌, ℕ, List, [], ◌∷◌, map, Option, Some, None, Result, Ok, Err, sym, ap, ◌∙◌, subst}
use Rattle.jvm_types.specs.{Types.TypeFrame, Verifying.{Node, visited, next_visit, Visits, Breaks, HasTyping, IsRefused}, declared.program.{MethodInfo.MethodInfo, Program.Program}}
use Rattle.jvm_types.specs.declared.refusal.VRule.{VRule}

-- ---- what is equal to one thing

pub some_waits : (x : Option ℕ) (i : ℕ) → x ≡ None → x ≡ Some i → ⊥
some_waits x i e f = cc

pub one_waits : (x : Option ℕ) (i j : ℕ) → x ≡ Some i → x ≡ Some j → i ≡ j
one_waits x i j e f = cc

one_mid : (x : Result (List Node) (VRule × ℕ)) (mid other : List Node) → x ≡ Ok mid → x ≡ Ok other → mid ≡ other
one_mid x mid other e f = cc

one_fault : (x : Result (List Node) (VRule × ℕ)) (fault other : VRule × ℕ) → x ≡ Err fault → x ≡ Err other → fault ≡ other
one_fault x fault other e f = cc

goes_on : (x : Result (List Node) (VRule × ℕ)) (mid : List Node) (fault : VRule × ℕ) → x ≡ Ok mid → x ≡ Err fault → ⊥
goes_on x mid fault e f = cc

-- ---- visits

one_last : (p : Program) (m : MethodInfo) (nodes last other : List Node) (is js : List ℕ) → Visits p m nodes is last → Visits p m nodes js other → last ≡ other
one_last p m nodes last other [] [] v w = v.1 ∙ sym w.1
one_last p m nodes last other [] (j ∷ js) v w = absurd (some_waits (next_visit nodes) j v.0 w.0)
one_last p m nodes last other (i ∷ is) [] v w = absurd (some_waits (next_visit nodes) i w.0 v.0)
one_last p m nodes last other (i ∷ is) (j ∷ js) v w =
    let mid : w.1 ≡ v.1 = one_mid (visited p m i nodes) w.1 v.1 (subst (λ (k : ℕ). visited p m k nodes ≡ Ok w.1) (one_waits (next_visit nodes) j i w.0 v.0) w.2) v.2 in
    one_last p m v.1 last other is js v.3 (subst (λ (n : List Node). Visits p m n js other) mid w.3)

-- visits that end break no rule
none_breaks : (p : Program) (m : MethodInfo) (nodes last : List Node) (is js : List ℕ) (fault : VRule × ℕ) → Visits p m nodes is last → Breaks p m nodes js fault → ⊥
none_breaks p m nodes last is [] fault v b = b
none_breaks p m nodes last [] (j ∷ []) fault v b = some_waits (next_visit nodes) j v.0 b.0
none_breaks p m nodes last [] (j ∷ k ∷ js) fault v b = some_waits (next_visit nodes) j v.0 b.0
none_breaks p m nodes last (i ∷ is) (j ∷ []) fault v b =
    goes_on (visited p m i nodes) v.1 fault v.2 (subst (λ (k : ℕ). visited p m k nodes ≡ Err fault) (one_waits (next_visit nodes) j i b.0 v.0) b.1)
none_breaks p m nodes last (i ∷ is) (j ∷ k ∷ js) fault v b =
    let mid : b.1 ≡ v.1 = one_mid (visited p m i nodes) b.1 v.1 (subst (λ (n : ℕ). visited p m n nodes ≡ Ok b.1) (one_waits (next_visit nodes) j i b.0 v.0) b.2) v.2 in
    none_breaks p m v.1 last is (k ∷ js) fault v.3 (subst (λ (n : List Node). Breaks p m n (k ∷ js) fault) mid b.3)

one_break : (p : Program) (m : MethodInfo) (nodes : List Node) (is js : List ℕ) (fault other : VRule × ℕ) → Breaks p m nodes is fault → Breaks p m nodes js other → fault ≡ other
one_break p m nodes (i ∷ []) (j ∷ []) fault other a b =
    one_fault (visited p m i nodes) fault other a.1 (subst (λ (n : ℕ). visited p m n nodes ≡ Err other) (one_waits (next_visit nodes) j i b.0 a.0) b.1)
one_break p m nodes (i ∷ []) (j ∷ k ∷ js) fault other a b =
    absurd (goes_on (visited p m i nodes) b.1 fault (subst (λ (n : ℕ). visited p m n nodes ≡ Ok b.1) (one_waits (next_visit nodes) j i b.0 a.0) b.2) a.1)
one_break p m nodes (i ∷ h ∷ is) (j ∷ []) fault other a b =
    absurd (goes_on (visited p m i nodes) a.1 other a.2 (subst (λ (n : ℕ). visited p m n nodes ≡ Err other) (one_waits (next_visit nodes) j i b.0 a.0) b.1))
one_break p m nodes (i ∷ h ∷ is) (j ∷ k ∷ js) fault other a b =
    let mid : b.1 ≡ a.1 = one_mid (visited p m i nodes) b.1 a.1 (subst (λ (n : ℕ). visited p m n nodes ≡ Ok b.1) (one_waits (next_visit nodes) j i b.0 a.0) b.2) a.2 in
    one_break p m a.1 (h ∷ is) (k ∷ js) fault other a.3 (subst (λ (n : List Node). Breaks p m n (k ∷ js) other) mid b.3)
one_break p m nodes is js fault other a b = absurd (assumption)

-- ---- the answers

pub one_typing : (p : Program) (m : MethodInfo) (f g : List (Option TypeFrame)) → HasTyping p m f → HasTyping p m g → f ≡ g
one_typing p m f g v w = v.are ∙ ap (map (λ (node : Node). node.frame)) (one_last p m _ v.last w.last v.visits w.visits v.made w.made) ∙ sym w.are

pub no_refusal : (p : Program) (m : MethodInfo) (f : List (Option TypeFrame)) (rule : VRule) (pc : ℕ) → HasTyping p m f → IsRefused p m rule pc → ⊥
no_refusal p m f rule pc v b = none_breaks p m _ v.last v.visits b.visits (rule, pc) v.made b.broken

pub one_refusal : (p : Program) (m : MethodInfo) (rule other : VRule) (pc at : ℕ) → IsRefused p m rule pc → IsRefused p m other at → (rule ≡ other) × (pc ≡ at)
one_refusal p m rule other pc at a b =
    let same = one_break p m _ a.visits b.visits (rule, pc) (other, at) a.broken b.broken in
    (ap (λ x. x.0) same, ap (λ x. x.1) same)
