use Rattle.std.proofs.{Common.{◌≡◌, Some, None, sym, ap, ◌∙◌, arith}, lemmas.Result.on_ok_weaker}
use Rattle.code_table.specs.PcTables.{number_at}
use Rattle.code_visits.proofs.{BroughtLaws.{at_place, brought_at, place_inside}, ClashLaws.fits_at}
use Rattle.code_visits.proofs.edges.bring_last.Goals as goal

pub bring_last_to-requires-clause-inside : goal.bring_last_to-requires-clause-inside
bring_last_to-requires-clause-inside g c =
    let place : number_at c.args.m.now.code c.args.to ≡ Some c.in-Some.i = sym c.in-Some.ensures in
    omega (arith, place_inside c.args.m.now.code c.args.to c.in-Some.i place, c.requires.level.long)

pub bring_last_to-requires-clause-fits : goal.bring_last_to-requires-clause-fits
bring_last_to-requires-clause-fits g c = fits_at g.D.Frames.meeting g.D.Frames.width c.args.m.now.code c.args.nodes.now c.args.to c.in-Some.i c.args.f c.laid_out.ensures.ascend c.requires.level c.requires.apart (sym c.in-Some.ensures)

pub returns-in-Some : goal.returns-in-Some
returns-in-Some g c =
    let place : number_at c.args.m.now.code c.args.to ≡ Some c.in-Some.i = sym c.in-Some.ensures in
    on_ok_weaker c.bring_last_to.result (λ e. e ∙ sym (brought_at g.D.Frames.meeting c.args.m.now.code c.args.to c.args.f c.args.nodes.now c.requires.level.long
    ∙ ap (λ o. at_place g.D.Frames.meeting o c.args.f c.args.nodes.now) place)) c.bring_last_to.ensures

pub returns-in-None : goal.returns-in-None
returns-in-None g c =
    let place : number_at c.args.m.now.code c.args.to ≡ None = sym c.in-None.ensures in
    sym (brought_at g.D.Frames.meeting c.args.m.now.code c.args.to c.args.f c.args.nodes.now c.requires.level.long ∙ ap (λ o. at_place g.D.Frames.meeting o c.args.f c.args.nodes.now) place)
