use Rattle.std.proofs.{Common.{◌≡◌, ◌≢◌, ◌+◌, ◌++◌, ◌∷◌, [], length, ◌∙◌, ap, sym, subst, arith, ⊎_elim, slice_get}, lemmas.{Bool.cases_eq, List.length-append}}
use Rattle.widest_paths.specs.WidestPaths.{AreWidest}
use Rattle.guard_analysis.proofs.BlockGraphs.{kept_got, last_got}
use Rattle.guard_analysis.proofs.block_reach.Reaches.of.Goals as goal

pub loop-r-preserved : goal.loop-r-preserved
loop-r-preserved c = record {
  long = let whole : length (c.loop-r.rules ++ c.in_ok-widths.widths ∷ []) ≡ length c.loop-r.rules + 1 = length-append c.loop-r.rules (c.in_ok-widths.widths ∷ []) in ap length c.in_ok-push.ensures.ok ∙ (omega (arith, whole, c.loop-r.invariant.long));
  each = λ r l. ⊎_elim
      (λ (q : r ≡ c.loop-r.r). (
        c.in_ok-widths.widths,
        ap (λ x. slice_get x r) c.in_ok-push.ensures.ok ∙ ap (λ t. slice_get (c.loop-r.rules ++ c.in_ok-widths.widths ∷ []) t) (q ∙ sym c.loop-r.invariant.long) ∙ last_got c.loop-r.rules c.in_ok-widths.widths,
        subst (λ t. AreWidest c.in_ok-g.g c.args.grades.now (t + 1) c.in_ok-widths.widths) (sym q) c.in_ok-widths.ensures,
      ))
      (λ (n : r ≢ c.loop-r.r). let old = c.loop-r.invariant.each r (omega (arith, l, n)) in (old.0, ap (λ x. slice_get x r) c.in_ok-push.ensures.ok ∙ kept_got c.loop-r.rules (c.in_ok-widths.widths ∷ []) r old.0 old.1, old.2))
      (cases_eq r c.loop-r.r);
}

pub returns : goal.returns
returns c = record { graph = c.in_ok-g.g; is_graph = c.in_ok-g.ensures; widest = λ r l. c.loop-r.invariant.each r (omega (arith, l, c.loop-r-test.false)) }
