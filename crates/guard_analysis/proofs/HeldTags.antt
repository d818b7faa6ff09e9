-- Whether the monitor of `this` is among the held ones, one after the other.
use Rattle.std.{proofs.Common.{◌≡◌, ℕ, zero, suc, ◌+◌, ◌<◌, true, false, List, [], ◌∷◌, length, drop, refl, sym, ◌∙◌, arith, ◌||◌, slice_index_or}, specs.List.list_any}
use Rattle.checked_program.specs.{LockTags.is_this, declared.tag.Tag.{Tag, TheVariants.Untagged}}

any_next : (held : List Tag) (i : ℕ) → i < length held → list_any is_this (drop i held) ≡ (is_this (slice_index_or held i Untagged) || list_any is_this (drop (suc i) held))
any_next [] i l = absurd (omega (arith, l))
any_next (t ∷ ts) zero l = refl
any_next (t ∷ ts) (suc i) l = any_next ts i (omega (arith, l))

pub found_this : (held : List Tag) (i : ℕ) → i < length held → list_any is_this (drop i held) ≡ list_any is_this held → is_this (slice_index_or held i Untagged) ≡ true → true ≡ list_any is_this held
found_this held i l e h = sym (sym e ∙ any_next held i l ∙ rw h refl)

pub no_this : (held : List Tag) (i : ℕ) → i < length held → list_any is_this (drop i held) ≡ list_any is_this held → is_this (slice_index_or held i Untagged) ≡ false → list_any is_this (drop (i + 1) held) ≡ list_any is_this held
no_this held i l e h = let step : i + 1 ≡ suc i = omega arith in rw step (sym (any_next held i l ∙ rw h refl) ∙ e)
