use Rattle.std.proofs.Common.{◌≡◌, true, sym, ap, ◌∙◌, slice_get}
use Rattle.checked_program.specs.{Marks.{class_of_field, is_own_class}, TaggedCode.tagged_by}
use Rattle.mark_reasons.proofs.CauseLaws.{open_is, own_is_open}
use Rattle.mark_reasons.proofs.cause.static_cause.Goals as goal

pub open_once-requires-clause-changes : goal.open_once-requires-clause-changes
open_once-requires-clause-changes c =
    let own : is_own_class c.args.mode (class_of_field (slice_get c.args.p.now.fields c.args.field)) ≡ true = ap (is_own_class c.args.mode) (sym c.class_of_field.ensures) ∙ sym c.is_own_class.ensures ∙ c.if-is_own_class.true in
    (open_is c.args.p.now (tagged_by c.args.tags.now) c.args.uses.now c.requires.uses c.args.field c.requires.there
    (own_is_open c.args.p.now (tagged_by c.args.tags.now) c.args.uses.now c.requires.uses c.args.field c.requires.there (is_own_class c.args.mode (class_of_field (slice_get c.args.p.now.fields c.args.field))) own c.requires.breaks)).0

pub open_once-requires-clause-loose : goal.open_once-requires-clause-loose
open_once-requires-clause-loose c =
    let own : is_own_class c.args.mode (class_of_field (slice_get c.args.p.now.fields c.args.field)) ≡ true = ap (is_own_class c.args.mode) (sym c.class_of_field.ensures) ∙ sym c.is_own_class.ensures ∙ c.if-is_own_class.true in
    (open_is c.args.p.now (tagged_by c.args.tags.now) c.args.uses.now c.requires.uses c.args.field c.requires.there
    (own_is_open c.args.p.now (tagged_by c.args.tags.now) c.args.uses.now c.requires.uses c.args.field c.requires.there (is_own_class c.args.mode (class_of_field (slice_get c.args.p.now.fields c.args.field))) own c.requires.breaks)).1
