-- Where a line ends.
use Rattle.std.proofs.Common.{◌≡◌, ℕ, ◌+◌, ◌<◌, ◌≤◌, Bool, true, false, List, [], ◌∷◌, ◌++◌, length, get_or, take, drop, Some, None, refl, sym, ap, ◌∙◌, arith, add-one, ◌==◌, nat_lt, cond}
use Rattle.std.{specs.List.{position, position_or_len}, proofs.{Math.Seq.{drop-cons, take-suc}, lemmas.{Bool.{ltb-false, Decides.nat_tests}, List.{take-append-drop, length-take-le, get_or-take}}}}
use Rattle.std.proofs.lemmas.List.{Elements.recursion_from_All, Quantifiers.position-Some, Sums.fails_before_first}
use Rattle.asm_text.proofs.WordLaws.{HasNoNewline}
use Rattle.assembler.proofs.TextLaws.{IsCut}

is_ten : (b : ℕ) → (b == 10) ≡ true → b ≡ 10
is_ten b h = grind (arith, nat_tests)

-- a line ends at the first newline
pub cut_some : (rest : List ℕ) (end : ℕ) → position (λ b. b == 10) rest ≡ Some end → IsCut rest (take end rest) (drop (end + 1) rest)
cut_some rest end e =
    let h = position-Some (λ b. b == 10) rest end 0 e in
    let more : drop end rest ≡ get_or rest end 0 ∷ drop (end + 1) rest = rw add-one (drop-cons rest end 0 h.0) in
    record {
      parts = sym (take-append-drop end rest) ∙ ap (λ (t : List ℕ). take end rest ++ t) (more ∙ ap (λ (b : ℕ). b ∷ drop (end + 1) rest) (is_ten _ h.1));
      none = recursion_from_All (λ b. (b == 10) ≡ false) (take end rest) (λ k d l.
          let before : k < end = inside k l h.0 in
          ap (λ (b : ℕ). b == 10) (get_or-take end rest k d before) ∙ (position-Some (λ b. b == 10) rest end d e).2 k before);
    }
  where
    inside : (k : ℕ) → k < length (take end rest) → end < length rest → k < end
    inside k l h = omega (arith, length-take-le end rest)

past : (t : Bool) (n : ℕ) → cond t (Some n) None ≡ None → t ≡ false
past true n e = absurd (cc)
past false n e = refl

-- where there is no newline
pub cut_none : (rest : List ℕ) → position (λ b. b == 10) rest ≡ None → HasNoNewline rest
cut_none rest e = recursion_from_All (λ b. (b == 10) ≡ false) rest (λ k d l. fails_before_first (λ b. b == 10) rest k d (before k l (ltb-false _ _ (past _ _ e))))
  where
    before : (k : ℕ) → k < length rest → length rest ≤ position_or_len (λ b. b == 10) rest → k < position_or_len (λ b. b == 10) rest
    before k l h = omega arith

-- the line with its newline
pub whole_cut : (rest : List ℕ) (end : ℕ) → position (λ b. b == 10) rest ≡ Some end → take (end + 1) rest ≡ take end rest ++ 10 ∷ []
whole_cut rest end e =
    let h = position-Some (λ b. b == 10) rest end 0 e in
    rw add-one (take-suc rest end 0 h.0) ∙ ap (λ (b : ℕ). take end rest ++ b ∷ []) (is_ten _ h.1)
