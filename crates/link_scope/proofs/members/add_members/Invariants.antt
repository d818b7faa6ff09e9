use Rattle.std.proofs.Common.{◌≡◌, ℕ, ◌+◌, List, length, take, slice_get}
use Rattle.jvm_types.specs.{ClassNames.file_class, Members.{Entry, declared_from, entries_from}}
use Rattle.link_scope.specs.{MemberTables.{target_of_sort, HasEntries, Adds, AreBelow, in_flags}, Scoping.repeats}
use Rattle.link_scope.proofs.members.add_members.Given as goal

abbrev pub invariant-loop-member : goal.invariant-loop-member
invariant-loop-member l = record {
  number : l.number ≡ l.first + l.member-index;
  long : length l.flags ≡ l.member-index;
  added : Adds l.texts.numbers l.fn.table l.table (entries_from (target_of_sort l.sort) l.first (declared_from l.file l.class.constants 0 (take l.member-index l.member-items)));
  repeats : (entries : List Entry) → HasEntries l.texts.numbers entries l.fn.table → AreBelow (file_class l.file) entries
      → (i : ℕ) → in_flags l.flags i ≡ repeats l.class.constants l.member-items i (slice_get (take l.member-index l.member-items) i);
}
