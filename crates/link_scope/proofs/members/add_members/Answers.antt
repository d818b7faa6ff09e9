use Rattle.std.proofs.{Common.{◌≡◌, ℕ, ◌+◌, List, ◌++◌, Option, take, is_some, sym, ◌∙◌, ap, subst, refl, arith}, lemmas.List.take_all}
use Rattle.jvm_types.specs.{ClassNames.{text_at, file_class}, LinkFaults.is_repeated, Members.{Entry, declared_from, entries_from, member_in}, declared.class_file.Constant.Constant}
use Rattle.jvm_types.specs.declared.class_file.Member.{Member as ClassMember}
use Rattle.link_scope.specs.{MemberTables.{target_of_sort, HasEntries, Adds, member_entry, AreBelow}, Scoping.{pool_of, pool_of_file}}
use Rattle.link_scope.proofs.{EntryLaws.{entries_next, past_below, some_member, flags_next}, ListLaws.length_push, TableLaws.adds_next, members.add_members.Goals.In_ok-push}
use Rattle.link_scope.proofs.members.add_members.Goals as goal

-- the pool of the file is that of its class
pool : (c : In_ok-push) → pool_of_file c.args.texts.now.files c.args.file ≡ c.args.class.now.constants
pool c = ap pool_of c.requires.file

so_far : (c : In_ok-push) → List Entry
so_far c = entries_from (target_of_sort c.args.sort) c.args.first (declared_from c.args.file c.args.class.now.constants 0 (take c.loop-member.member-index c.as_slice-member-items.result.now))

next : (c : In_ok-push) → Entry
next c = member_entry c.args.class.now.constants c.args.file c.member-item.result (target_of_sort c.args.sort (c.args.first + c.loop-member.member-index))

next_is : (c : In_ok-push) → member_entry (pool_of_file c.args.texts.now.files c.args.file) c.args.file c.member-item.result c.target.result ≡ next c
unfolding next
next_is c = rw (pool c, c.target.ensures, c.loop-member.invariant.number) refl

-- what the table had at the next member is what stands in its class so far
had : (c : In_ok-push) (entries : List Entry) → HasEntries c.args.texts.now.numbers entries c.args.table.now → AreBelow (file_class c.args.file) entries
    → c.in_ok-repeats.repeats ≡ is_repeated c.args.class.now.constants (take c.loop-member.member-index c.as_slice-member-items.result.now) c.member-item.result
unfolding so_far
had c entries shows below =
    let constants : List Constant = c.args.class.now.constants in
    let name : List ℕ = text_at constants c.member-item.result.name in
    let descriptor : List ℕ = text_at constants c.member-item.result.descriptor in
    let here : c.in_ok-repeats.repeats ≡ is_some (member_in (entries ++ so_far c) (file_class c.args.file) name descriptor)
    = rw (pool c) at c.in_ok-repeats.ensures.had (entries ++ so_far c) (c.loop-member.invariant.added entries shows) in
    here ∙ ap (λ (o : Option Entry). is_some o) (past_below (file_class c.args.file) name descriptor entries (so_far c) below)
    ∙ some_member (target_of_sort c.args.sort) c.args.file constants name descriptor c.args.first 0 (take c.loop-member.member-index c.as_slice-member-items.result.now)

pub loop-member-preserved : goal.loop-member-preserved
unfolding so_far next
loop-member-preserved c = record {
  number = omega arith;
  long = rw c.in_ok-push.ensures.ok (length_push _ _ _ c.loop-member.invariant.long);
  added = subst (λ (es : List Entry). Adds c.args.texts.now.numbers c.args.table.now c.add_member.new.table es)
      (sym (entries_next (target_of_sort c.args.sort) c.args.file c.args.class.now.constants c.args.first _ _ _ c.loop-member-test.true c.member-item.is))
      (adds_next c.args.texts.now.numbers _ _ _ (so_far c) _ (next c) c.loop-member.invariant.added c.in_ok-repeats.ensures.added (next_is c));
  repeats = λ entries shows below i. rw c.in_ok-push.ensures.ok
      (flags_next c.args.class.now.constants _ _ _ _ _ c.loop-member-test.true c.member-item.is c.loop-member.invariant.long (had c entries shows below) (c.loop-member.invariant.repeats entries shows below) i);
}

pub returns-clause-added : goal.returns-clause-added
returns-clause-added c = subst (λ (ms : List ClassMember). Adds c.args.texts.now.numbers c.args.table.now c.loop-member.table (entries_from (target_of_sort c.args.sort) c.args.first (declared_from c.args.file c.args.class.now.constants 0 ms)))
    (take_all c.loop-member.member-index c.as_slice-member-items.result.now c.loop-member-test.false ∙ c.as_slice-member-items.ensures ∙ c.members.ensures) c.loop-member.invariant.added
