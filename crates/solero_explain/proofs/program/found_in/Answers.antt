use Rattle.solero_explain.{specs.Requests.question_by, proofs.Owed.refused_files}
use Rattle.solero_explain.proofs.program.found_in.Goals as goal

pub returns-in-Err-Refused : goal.returns-in-Err-Refused
returns-in-Err-Refused c =
    let e = c.in-Err-Refused in
    refused_files (question_by c.args.request.now) c.args.contents.now e.rule e.place c.explained.result c.requires.short (rw e.field-0-is at e.ensures.refused) (rw c.as_slice.ensures at c.explained.ensures)
