-- A text that is written piece by piece.
use Rattle.std.{proofs.Common.{◌≡◌, ℕ, ◌+◌, ◌≤◌, List, ◌++◌, length, take, drop, Option, Some, None, refl, sym, ap, ◌∙◌, append_assoc, length-drop, arith}, specs.Option.option_map}
use Rattle.std.proofs.Math.Seq.{take-add}

-- behind the front that was written stands the piece that comes next
written_more : (told : Option (List ℕ)) (text : List ℕ) (written n : ℕ) → option_map (λ t. t ++ take n (drop written text)) (option_map (λ t. t ++ take written text) told) ≡ option_map (λ t. t ++ take (written + n) text) told
written_more None text written n = refl
written_more (Some t) text written n = ap Some (append_assoc t (take written text) (take n (drop written text)) ∙ ap (λ x. t ++ x) (sym (take-add written n text)))

-- a sink that has the front, and took so much of the piece behind it
pub front_more : (told mid now : Option (List ℕ)) (text piece : List ℕ) (written n : ℕ) → piece ≡ drop written text → mid ≡ option_map (λ t. t ++ take written text) told → now ≡ option_map (λ t. t ++ take n piece) mid → now ≡ option_map (λ t. t ++ take (written + n) text) told
front_more told mid now text piece written n behind front taken =
    taken ∙ ap (option_map (λ t. t ++ take n piece)) front
    ∙ ap (λ (p : List ℕ). option_map (λ t. t ++ take n p) (option_map (λ t. t ++ take written text) told)) behind
    ∙ written_more told text written n

pub within_more : (text piece : List ℕ) (written n : ℕ) → piece ≡ drop written text → written ≤ length text → n ≤ length piece → written + n ≤ length text
within_more text piece written n behind within most = omega (arith, ap length behind, length-drop written text)
