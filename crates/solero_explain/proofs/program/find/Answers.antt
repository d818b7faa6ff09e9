use Rattle.std.proofs.Common.{◌≡◌, rules}
use Rattle.host_io.proofs.SoFar.{none_long}
use Rattle.command_words.specs.Words.{texts}
use Rattle.solero_explain.{specs.Requests.question_by, proofs.Owed.unread_due}
use Rattle.solero_explain.proofs.program.find.Goals as goal

pub found_in-requires-clause-short : goal.found_in-requires-clause-short
found_in-requires-clause-short g c = none_long 0 _ c.in-Ok.ensures.ok.short

pub returns-in-Err-clause-found : goal.returns-in-Err-clause-found
returns-in-Err-clause-found g c =
    let names : texts c.as_slice.result.now ≡ texts c.args.request.now.files.items = search rules in
    unread_due _ _ (question_by c.args.request.now) _ _ _ _ _ (rw names at c.in-Err.ensures.err) c.not_read.ensures
