use Rattle.std.proofs.Common.{◌<◌, ◌≡◌, ℕ, List, length, sym, ap, ◌∙◌, arith, slice_index_or}
use Rattle.field_names.proofs.NamesSoFar.{one_more}
use Rattle.field_names.proofs.names.field_names.Goals as goal

pub loop-file-preserved : goal.loop-file-preserved
loop-file-preserved c =
    let files = c.args.files.now in
    let i = c.loop-file.file-index in
    let file = c.file-item.result in
    let there : i < length files = omega (arith, c.loop-file-test.true, ap length c.as_slice-file-items.ensures) in
    let is : slice_index_or files i file ≡ file = ap (λ (xs : List (List ℕ)). slice_index_or xs i file) (sym c.as_slice-file-items.ensures) ∙ sym c.file-item.is in
    one_more files c.loop-file.names c.add_file.new.names i file there is c.in_ok-add_file.ensures c.loop-file.invariant
