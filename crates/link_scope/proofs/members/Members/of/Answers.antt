use Rattle.std.proofs.{Common.{◌≡◌, Bool, ◌<◌, ◌^◌, ◌+◌, List, [], length, take, get_or, sym, ap, ◌∙◌, subst, append-nil, refl, arith}, lemmas.Option.slice_get_read}
use Rattle.jvm_types.specs.{ClassGrammar.IsClass, Members.{Entry, declared_by}, declared.class_file.{ClassFile.ClassFile, Member.{Member as ClassMember}}}
use Rattle.link_scope.specs.{MemberTables.{members_of, built_in, entries_of, HasEntries, in_flag_rows}, declared.{scope.Found.Found, table.Key.Key}}
use Rattle.link_scope.proofs.{EntryLaws.{length_next, of_below, of_next, repeats_none, flag_rows_next, few_members}, ListLaws.{length_push, all_at}}
use Rattle.link_scope.proofs.members.Members.of.Goals as goal

pub loop-file-init : goal.loop-file-init
loop-file-init c = record {
  number = refl;
  few = omega arith;
  long = ap (λ (rows : List (List Bool)). length rows) c.new-repeated.ensures;
  shown = subst (λ (es : List Entry). HasEntries c.args.texts.now.numbers es c.add_built_in.new.table) (sym (append-nil (built_in c.args.sort)))
      (c.in_ok-add_built_in.ensures [] (subst (λ (t : List (Key × Found)). HasEntries c.args.texts.now.numbers [] t) (sym c.new-table.ensures) (λ class name descriptor n d h k. tt)));
  repeated = λ k i. ap (λ (rows : List (List Bool)). in_flag_rows rows k i) c.new-repeated.ensures ∙ sym (repeats_none c.args.sort i);
}

pub add_members-requires-clause-file : goal.add_members-requires-clause-file
add_members-requires-clause-file c =
    let files : List ClassFile = c.args.texts.now.files in
    let l : c.loop-file.file < length files = rw (← c.files.ensures, ← c.as_slice-class-items.ensures) c.loop-file-test.true in
    let is : c.class-item.result ≡ get_or files c.loop-file.file c.class-item.result = rw (← c.files.ensures, ← c.as_slice-class-items.ensures) c.class-item.is in
    slice_get_read files (length files) c.loop-file.file c.class-item.result refl l is

pub loop-file-preserved : goal.loop-file-preserved
loop-file-preserved c =
    let files : List ClassFile = c.args.texts.now.files in
    let class : ClassFile = c.class-item.result in
    let l : c.loop-file.file < length files = rw (← c.files.ensures, ← c.as_slice-class-items.ensures) c.loop-file-test.true in
    let is : class ≡ get_or files c.loop-file.file class = rw (← c.files.ensures, ← c.as_slice-class-items.ensures) c.class-item.is in
    let count : c.len.result ≡ length (members_of c.args.sort class) = c.len.ensures ∙ ap (λ (ms : List ClassMember). length ms) c.members.ensures in
    let few : length (members_of c.args.sort class) < 2 ^ 16 = few_members c.args.sort class (all_at IsClass files c.loop-file.file class c.requires.classes l is) in
    record {
      number = let next : length (declared_by (members_of c.args.sort) 0 (take (c.loop-file.file + 1) files)) ≡ length (declared_by (members_of c.args.sort) 0 (take c.loop-file.file files)) + length (members_of c.args.sort class)
          = length_next (members_of c.args.sort) files c.loop-file.file class l is in omega (arith, next, count);
      few = omega (arith, few, count);
      long = rw c.in_ok-push.ensures.ok (length_push _ _ _ c.loop-file.invariant.long);
      shown = subst (λ (es : List Entry). HasEntries c.args.texts.now.numbers es c.add_members.new.table) (sym (of_next c.args.sort files c.loop-file.file class l is))
          (rw (← c.loop-file.invariant.number) (c.in_ok-flags.ensures.added (entries_of c.args.sort (take c.loop-file.file files)) c.loop-file.invariant.shown));
      repeated = rw c.in_ok-push.ensures.ok (flag_rows_next c.args.sort files c.loop-file.file class c.loop-file.repeated c.in_ok-flags.flags l is c.loop-file.invariant.long c.loop-file.invariant.repeated
          (c.in_ok-flags.ensures.repeats (entries_of c.args.sort (take c.loop-file.file files)) c.loop-file.invariant.shown (of_below c.args.sort files c.loop-file.file (omega (arith, l)))));
    }
