-- What the laws of covering lists of states say of whole lists of outcomes.
use Rattle.std.proofs.Common.{List, length, ap, ◌∙◌, sym, slice_get, subst}
use Rattle.jvm_types.specs.declared.outcome.Outcome.{Outcome}
use Rattle.jvm_types.specs.declared.program.Program.{Program}
use Rattle.machine_types.specs.Core.{core, outcome}
use Rattle.machine_types.specs.Faithful.{EndFits, EndsFit, PrintsFit}
use Rattle.machine_types.specs.PlainState.{Plain, Printed}
use Rattle.plain_orders.specs.CoveredRuns.{PrintsAreCovered, RunsAreCovered}
use Rattle.plain_orders.specs.EndedRuns.{EndsAreCovered}
use Rattle.plain_orders.specs.UncaughtRuns.{UncaughtIsCovered}
use Rattle.outcomes.specs.Comes.{ComesTo}
use Rattle.outcomes.specs.Lists.{ShowTheSame}
use Rattle.outcomes.specs.WholeLists.{EndsAreListed, PrintsAreListed, RestsAreListed, UncaughtIsListed}

-- a run comes to what a state shows, where it comes to another one that shows the same
comes_to_same : (p : Program) (q z : Plain) (o : Outcome) → ShowTheSame p q z → PrintsFit o q → EndsFit p o q → ComesTo p z o
comes_to_same p q z o same prints ends = record {
  prints = record {
    each = λ i x e. prints.each i x (ap (λ (ys : List Printed). slice_get ys i) same.prints ∙ e);
    no_more = prints.no_more ∙ ap (λ (ys : List Printed). length ys) same.prints;
  };
  ends = record {
    threads = λ t r e. subst (EndFits r.end) (same.ends t) (ends.threads t r e);
    done = subst (EndFits o.done) same.done ends.done;
  };
}

pub ends_are_listed : EndsAreCovered → EndsAreListed
ends_are_listed covered c cfg hs o marked width settings all over limit =
    let v = covered c cfg hs all.seen marked width settings all.states over limit in
    let w = all.rests v.0 v.1 v.2 in
    (w.0, w.1, w.2, comes_to_same c.program v.0 w.1.at.plain.state (outcome (core c cfg hs)) w.3 v.3 v.4)

pub rests_are_listed : RunsAreCovered → RestsAreListed
rests_are_listed covered c cfg hs o marked width settings all =
    let v = covered c cfg hs all.seen marked width settings all.states in
    (v.0, λ rest. all.rests v.0.state (v.1.rests rest) rest)

pub prints_are_listed : PrintsAreCovered → PrintsAreListed
prints_are_listed covered c cfg hs o marked width settings all =
    let v = covered c cfg hs all.seen marked width settings all.states in
    (v.0, v.2, λ value h. all.prints v.1 value v.3 (h.0, h.1, ap (λ (ys : List Printed). slice_get ys h.0) (sym v.4) ∙ h.2, h.3))

pub uncaught_is_listed : UncaughtIsCovered → UncaughtIsListed
uncaught_is_listed covered c cfg hs o marked width settings all tells =
    let v = covered c cfg hs all.seen marked width settings all.states tells in
    all.uncaught v.0 v.1 v.2
