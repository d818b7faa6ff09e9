use Rattle.std.proofs.Common.{◌≡◌, ◌∙◌, ◌-◌, ◌≤◌, ◌++◌, ◌∷◌, [], List, refl, sym, subst, arith}
use Rattle.mark_reasons.{specs.{Searches.{IsBack, from_section, own_site, site_at}, declared.reason.Site.Site}, proofs.BackLaws.{back_step, way_prepends, way_reverses}}
use Rattle.mark_reasons.proofs.search.way_to.Goals as goal

pub loop-e-preserved : goal.loop-e-preserved
loop-e-preserved c = (
  c.entry_at-caller.ensures,
  λ front back.
      subst (λ (xs : List Site). IsBack c.args.class c.args.own c.args.method c.args.queue.now c.args.entry xs)
      (way_prepends c.loop-e.way.items c.push.new.self.items c.site_at.result (site_at c.args.class c.entry_at-caller.result.node c.loop-e.e.at) front c.in_ok-push.ensures.items c.site_at.ensures)
      (c.loop-e.invariant.1 (front ++ site_at c.args.class c.entry_at-caller.result.node c.loop-e.e.at ∷ [])
      (back_step c.args.class c.args.own c.args.method c.args.queue.now c.loop-e.k (c.loop-e.e.caller - 1) c.loop-e.e c.entry_at-caller.result front c.loop-e.invariant.0 c.loop-e-test.true refl c.entry_at-caller.ensures back)),
)

pub returns : goal.returns
returns c =
    let none : c.loop-e.e.caller ≡ 0 = (let low : c.loop-e.e.caller ≤ 0 = c.loop-e-test.false in omega (arith, low)) in
    subst (λ (xs : List Site). IsBack c.args.class c.args.own c.args.method c.args.queue.now c.args.entry xs)
    (way_reverses c.loop-e.way.items c.push-2.new.self.items c.reverse.new.self.items (own_site c.args.own c.args.method c.loop-e.e.at) c.in_ok-push-2.ensures.items c.reverse.ensures.items ∙ sym c.from_vec.ensures)
    (c.loop-e.invariant.1 (own_site c.args.own c.args.method c.loop-e.e.at ∷ []) (from_section c.loop-e.k c.loop-e.e c.loop-e.invariant.0 none))
