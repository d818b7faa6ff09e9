use Rattle.std.{proofs.Common.{◌≡◌, ◌++◌, drop}, specs.List.flat_map}
use Rattle.run_texts.specs.MarksText.{mark_line, marks_text}
use Rattle.run_texts.proofs.marks.lines.Given as goal

abbrev pub invariant-loop-mark : goal.invariant-loop-mark
invariant-loop-mark l = l.text.items ++ flat_map (mark_line l.p) (drop l.mark-index l.marks) ≡ marks_text l.p l.marks
