use Rattle.std.proofs.Common.{ℕ, ◌≤◌, length, below_more, arith}
use Rattle.checked_program.specs.TaggedCode.{tagged_by}
use Rattle.mark_reasons.{specs.Causes.WritesUnguarded, proofs.{BackLaws.none_left, CauseLaws.{first_found, no_write_in, none_written}, SearchLaws.got_there}}
use Rattle.mark_reasons.proofs.cause.first_write.Goals as goal

pub returns-in-Some : goal.returns-in-Some
returns-in-Some c = (let field = got_there c.args.p.now.fields c.args.field c.requires.there in first_found c.args.p.now c.args.tags.now c.requires.program c.args.field c.loop-method.method field.0 field.1 c.in-Some.at c.loop-method.invariant c.in-Some.ensures)

pub loop-method-preserved : goal.loop-method-preserved
loop-method-preserved c = below_more (λ (mi : ℕ). (i : ℕ) → WritesUnguarded c.args.p.now (tagged_by c.args.tags.now) c.args.field mi i → ⊥) c.loop-method.method c.loop-method.invariant
    (let field = got_there c.args.p.now.fields c.args.field c.requires.there in no_write_in c.args.p.now c.args.tags.now c.requires.program c.args.field c.loop-method.method field.0 field.1 c.first_write_in.result (none_left c.first_write_in.result c.in_default.not-Some) c.first_write_in.ensures)

pub returns : goal.returns
returns c = none_written c.args.p.now (tagged_by c.args.tags.now) c.args.field c.loop-method.method
    (let all : length c.args.p.now.methods ≤ c.loop-method.method = omega (arith, c.loop-method-test.false, c.len-method-end.ensures, c.loop-method.auto.method-end) in all) c.loop-method.invariant
