use Rattle.std.proofs.{Common.{◌≡◌, ◌+◌, ◌∷◌, drop, Err, sym, ap, subst, ◌∙◌, string_bytes}, lemmas.List.drop_more}
use Rattle.jvm_types.specs.declared.limits.TheConstants.{MOST_FILE_BYTES}
use Rattle.host_io.{specs.{Reading.FailsWhereTold, Shelf.IsRead}, proofs.SoFar.{next_unread, texts}}
use Rattle.host_io.proofs.files.read_files.Goals as goal

pub returns-in-Err-clause-err : goal.returns-in-Err-clause-err
returns-in-Err-clause-err g c =
    let names = c.args.names.now in
    let file = c.loop-file.file in
    let left = texts (drop (file + 1) names) in
    let named = ap string_bytes (sym c.index-names-file.is) ∙ sym c.as_str.ensures.value in
    let next : texts (drop file names) ≡ c.as_str.result.now ∷ left = ap texts (drop_more names file c.index-names-file.result c.loop-file-test.true) ∙ ap (λ n. n ∷ left) named in
    let read = c.loop-file.invariant.read in
    let answer = subst (λ files. IsRead files c.as_str.result.now MOST_FILE_BYTES (g.S.Shelf.faults c.loop-file.shelf) (g.S.Shelf.faults c.read_next.new.shelf) (Err c.in-Err.error)) c.loop-file.invariant.files c.in-Err.ensures.answer in
    let fails = subst (λ unreadable. FailsWhereTold {A = Unit {0}} unreadable c.as_str.result.now (Err c.in-Err.error)) c.loop-file.invariant.unreadable c.in-Err.ensures.fails in
    next_unread _ _ (texts names) left c.as_str.result.now _ _ _ file _ _ (rw next at read) answer fails
