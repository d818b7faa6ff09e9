use Rattle.std.proofs.Common.{◌≡◌, drop}
use Rattle.host_io.proofs.SoFar.{SoFar, texts}
use Rattle.host_io.proofs.files.read_files.Given as goal

-- what was read so far are the contents of the names so far; no file is too long, and the shelf has not failed
abbrev pub invariant-loop-file : goal.invariant-loop-file
invariant-loop-file g l = record {
  files : g.S.Shelf.files l.shelf ≡ g.S.Shelf.files l.fn.shelf;
  unreadable : g.S.Shelf.unreadable l.shelf ≡ g.S.Shelf.unreadable l.fn.shelf;
  read : SoFar (g.S.Shelf.files l.fn.shelf) (g.S.Shelf.unreadable l.fn.shelf) (texts l.names) (texts (drop l.file l.names)) (g.S.Shelf.faults l.fn.shelf) (g.S.Shelf.faults l.shelf) l.file l.contents;
}
