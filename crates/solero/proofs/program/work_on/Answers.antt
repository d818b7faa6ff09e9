use Rattle.std.proofs.Common.{◌≡◌, rules}
use Rattle.host_io.proofs.SoFar.{none_long}
use Rattle.command_words.specs.{Requests.asked_by, Words.texts}
use Rattle.solero.proofs.Owed.{unread_due}
use Rattle.solero.proofs.program.work_on.Goals as goal

pub run_files-requires-clause-short : goal.run_files-requires-clause-short
run_files-requires-clause-short g c = λ _ _. none_long 0 _ c.in-Ok.ensures.ok.short

pub returns-in-Err-clause-due : goal.returns-in-Err-clause-due
returns-in-Err-clause-due g c =
    let names : texts c.as_slice.result.now ≡ texts c.args.request.now.files.items = search rules in
    unread_due _ _ (asked_by c.args.request.now) _ _ _ _ _ (rw names at c.in-Err.ensures.err) c.not_read.ensures
