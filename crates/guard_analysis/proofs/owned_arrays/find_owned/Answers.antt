use Rattle.std.proofs.Common.{◌∙◌, length, ap}
use Rattle.guard_analysis.specs.OwnedFound.{element_rows_before, fields_left_before, owning_before}
use Rattle.guard_analysis.proofs.{ElementsFound.{reads_long, owned_shown}, MarkLists.taggings_long}
use Rattle.guard_analysis.proofs.owned_arrays.find_owned.Goals as goal

pub check_methods-requires-clause-tags : goal.check_methods-requires-clause-tags
check_methods-requires-clause-tags c = taggings_long c.args.p.now c.args.p.now.methods c.args.tags.now c.requires.tagged

pub element_rows-requires : goal.element_rows-requires
element_rows-requires c = reads_long c.args.p.now c.args.tags.now _ _ c.in_ok-reads.reads c.in_ok-reads.ensures

pub returns : goal.returns
returns c =
    let n = length c.args.p.now.fields in
    let e = c.as_slice-2.ensures ∙ c.in_ok-owning.ensures ∙ ap (λ flags. owning_before c.args.p.now flags n) c.as_slice.ensures in
    let f = c.in_ok-owners.ensures ∙ ap (λ flags. fields_left_before c.args.p.now flags c.as_slice-4.result.now n) c.as_slice-3.ensures ∙ ap (λ flags. fields_left_before c.args.p.now c.args.frozen.now flags n) c.as_slice-4.ensures in
    let g = c.in_ok-elements.ensures ∙ ap (λ flags. element_rows_before c.args.p.now.methods flags c.in_ok-reads.reads (length c.args.p.now.methods)) c.as_slice-5.ensures in
    owned_shown c.args.p.now c.args.tags.now c.args.frozen.now _ _ c.in_ok-owners.owners c.in_ok-reads.reads c.in_ok-elements.elements c.requires.program c.requires.tagged c.requires.frozen e c.in_ok-reads.ensures f g
