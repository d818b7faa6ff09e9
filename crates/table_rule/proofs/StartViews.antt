-- The view of all threads at the start of a run.
use Rattle.std.proofs.Common.{◌≡◌, ℕ, zero, suc, [], ◌∷◌, map, Some, refl, sym, ap, ◌∙◌}
use Rattle.checked_program.specs.MarkedProgram.{MarkedProgram}
use Rattle.machine_types.specs.{Core.{core, start}, declared.config.Config.Config}
use Rattle.table_rule.{specs.Views.{View, held_in, ShowsRun}, proofs.Entries.some_held}
use lib.ListN.{get_elem?}
use mathlib.Core.Option.{some, some-injective, some-ne-none}

one_view : (v w : View) (i : ℕ) → get_elem? (v ∷ []) i ≡ some w → (i ≡ 0) × (v ≡ w)
one_view v w zero e = (refl, some-injective v w e)
one_view v w (suc i) e = absurd (some-ne-none w (sym e))

pub start_shows : (c : MarkedProgram) (cfg : Config)
    → ShowsRun c cfg (start c cfg).words (map Some (start c cfg).threads ∷ [])
unfolding core
start_shows c cfg = record {
  happenings = [];
  words_are = refl;
  threads_are = record {
    own = λ i t w x a h. sym (some_held (start c cfg).threads t)
        ∙ ap (λ (q : View). held_in q t) (one_view (map Some (start c cfg).threads) w i a).1 ∙ h;
    once = λ i j t w r x y a b h k. (one_view (map Some (start c cfg).threads) w i a).0
        ∙ sym (one_view (map Some (start c cfg).threads) r j b).0;
    each = λ t x e. (0, map Some (start c cfg).threads, refl, some_held (start c cfg).threads t ∙ e);
  };
}
