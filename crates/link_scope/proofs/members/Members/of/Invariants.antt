use Rattle.std.proofs.Common.{◌≡◌, ℕ, ◌*◌, ◌≤◌, length, take, slice_get}
use Rattle.jvm_types.specs.Members.{declared_by}
use Rattle.link_scope.specs.MemberTables.{members_of, entries_of, repeats_of, HasEntries, in_flag_rows}
use Rattle.link_scope.proofs.members.Members.of.Given as goal

abbrev pub invariant-loop-file : goal.invariant-loop-file
invariant-loop-file l = record {
  number : l.number ≡ length (declared_by (members_of l.sort) 0 (take l.file l.texts.files));
  few : l.number ≤ 65535 * l.file;
  long : length l.repeated ≡ l.file;
  shown : HasEntries l.texts.numbers (entries_of l.sort (take l.file l.texts.files)) l.table;
  repeated : (k i : ℕ) → in_flag_rows l.repeated k i ≡ repeats_of l.sort (slice_get (take l.file l.texts.files) k) i;
}
