use Rattle.std.{proofs.Common.{◌<◌, ◌≡◌, ℕ, List, length, replicate, Option, Some, None, refl, ap, ◌∙◌, add-one, arith, slice_get, slice_index_or}, specs.List.AllByRecursion}
use Rattle.std.proofs.lemmas.{List.{length-set, length-replicate, take_all}, Option.slice_get_read}
use Rattle.jvm_types.specs.declared.code.Insn.{Insn}
use Rattle.code_table.{specs.PcTables.number_at, proofs.PcLaws.{all_at, places_more, none_known, number_low}}
use Rattle.code_table.proofs.pc_table.PcTable.of.Goals as goal

inside_of : (code : List Insn) (numbers : List (Option ℕ)) (n : ℕ) → numbers ≡ replicate n None → AllByRecursion (λ insn. insn.pc < n) code → AllByRecursion (λ insn. insn.pc < length numbers) code
inside_of code numbers n e all = let long : length numbers ≡ n = ap length e ∙ length-replicate n None in rw long all

pub loop-i-init : goal.loop-i-init
loop-i-init c = record {
  places = λ pc. none_known c.end_of.result pc c.in_ok-numbers.numbers.items c.in_ok-numbers.ensures;
  inside = inside_of c.args.code.now c.in_ok-numbers.numbers.items c.end_of.result c.in_ok-numbers.ensures c.end_of.ensures;
}

inside_at : (code : List Insn) (n i : ℕ) (insn : Insn) → AllByRecursion (λ insn. insn.pc < n) code → i < length code → insn ≡ slice_index_or code i insn → insn.pc < n
inside_at code n i insn all h e = all_at (λ insn. insn.pc < n) code i insn all (slice_get_read code (length code) i insn refl h e)

pub loop-i-preserved : goal.loop-i-preserved
loop-i-preserved c =
    let insn : slice_get c.args.code.now c.loop-i.i ≡ Some c.index-code-i.result = slice_get_read c.args.code.now (length c.args.code.now) c.loop-i.i c.index-code-i.result refl c.loop-i-test.true c.index-code-i.is in
    record {
      places = rw (c.number.ensures, add-one) (places_more c.args.code.now c.loop-i.numbers.items c.loop-i.i c.index-code-i.result c.requires insn
          (inside_at c.args.code.now (length c.loop-i.numbers.items) c.loop-i.i c.index-code-i.result c.loop-i.invariant.inside c.loop-i-test.true c.index-code-i.is) c.loop-i.invariant.places);
      inside = rw (length-set c.loop-i.numbers.items c.index-code-i.result.pc (Some c.number.result)) c.loop-i.invariant.inside;
    }

pub index_mut-requires : goal.index_mut-requires
index_mut-requires c = omega (arith, c.loop-i.numbers.ok, inside_at c.args.code.now (length c.loop-i.numbers.items) c.loop-i.i c.index-code-i.result c.loop-i.invariant.inside c.loop-i-test.true c.index-code-i.is)

pub returns : goal.returns
returns c = λ pc. c.loop-i.invariant.places pc ∙ ap (λ code. number_at code pc) (take_all c.loop-i.i c.args.code.now c.loop-i-test.false)

pub number-requires : goal.number-requires
number-requires c = omega (arith, number_low 0 c.args.code.now c.loop-i.i c.index-code-i.result c.requires (slice_get_read c.args.code.now (length c.args.code.now) c.loop-i.i c.index-code-i.result refl c.loop-i-test.true c.index-code-i.is))
