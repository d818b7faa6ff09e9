use Rattle.command_words.specs.Requests.{asked_by}
use Rattle.solero.proofs.Owed.{made_run, refused_run}
use Rattle.solero.proofs.program.run_files.Goals as goal

pub returns-in-Ok : goal.returns-in-Ok
returns-in-Ok g c = made_run (asked_by c.args.request.now) _ _ c.in-Ok.ensures.made

pub returns-in-Err-Refused : goal.returns-in-Err-Refused
returns-in-Err-Refused g c =
    let e = c.in-Err-Refused in
    refused_run (asked_by c.args.request.now) c.args.contents.now e.rule e.place c.refused.result c.requires.short (rw e.field-0-is at e.ensures.refused) c.refused.ensures
