use Rattle.std.{proofs.{Common.{◌≡◌, ◌+◌, ◌<◌, ◌≤◌, ◌^◌, drop, length, refl, sym, ap, ◌∙◌, arith}, lemmas.{List.Sums.sum_by-drop_more, Option.slice_get_read}}, specs.List.sum_by}
use Rattle.jvm_types.specs.{Layout.{static_count, class_word_count}, declared.class_file.ClassFile.ClassFile}
use Rattle.link_scope.proofs.Files.{class_at}
use Rattle.link_rules.proofs.words.fixed_words.Goals as goal

pub loop-class-preserved : goal.loop-class-preserved
loop-class-preserved c =
    let files = c.args.files.now in
    let file = c.loop-class.class-index in
    let class = c.class-item.result in
    let counted : length class.fields < 2 ^ 16 = (class_at files file class c.requires.classes (slice_get_read files (length files) file class refl c.loop-class-test.true c.class-item.is)).fields.count in
    let count : c.static_count.result ≡ static_count class.fields = rw (← c.as_slice.ensures) c.static_count.ensures.count in
    let few : c.static_count.result ≤ length class.fields = rw (← c.as_slice.ensures) c.static_count.ensures.few in
    let rest : sum_by class_word_count (drop file files) ≡ 2 + static_count class.fields + sum_by class_word_count (drop (file + 1) files) =
    sum_by-drop_more class_word_count files file class c.loop-class-test.true
    ∙ ap (λ (x : ClassFile). class_word_count x + sum_by class_word_count (drop (file + 1) files)) (sym c.class-item.is) in
    record {
      rest = omega (arith, c.loop-class.invariant.rest, rest, count);
      few = omega (arith, c.loop-class.invariant.few, counted, few);
    }
