use Rattle.std.proofs.Common.{◌∙◌, ◌<◌, sym, ap, subst, length, drop, slice_get}
use Rattle.jvm_types.specs.declared.program.MethodInfo.{MethodInfo}
use Rattle.handler_rows.{specs.Hulls.IsHull, proofs.HullLaws.{hulls_length, hull_there}}
use Rattle.handler_rows.proofs.handled_method.HandledMethod.hull.Goals as goal

pub hull_of_number-requires : goal.hull_of_number-requires
hull_of_number-requires c = rw (c.deref.ensures.value, hulls_length c.self.inside.indexed.rows c.self.inside.hulls.items c.self.invariant)
    (subst (λ (m : MethodInfo). c.args.k < length m.rows) (sym c.self.view_is) c.requires)

pub returns : goal.returns
returns c = subst (λ (m : MethodInfo). IsHull (drop c.args.k m.rows) c.hull_of_number.result) c.self.view_is
    (hull_there c.self.inside.indexed.rows c.self.inside.hulls.items c.args.k c.hull_of_number.result c.self.invariant (ap (λ hulls. slice_get hulls c.args.k) (sym c.deref.ensures.value) ∙ c.hull_of_number.ensures))
