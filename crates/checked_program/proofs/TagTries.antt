-- What the definitions of lock tagging say of small methods, by computing.
use Rattle.std.proofs.Common.{◌≡◌, pos, List, [], ◌∷◌, Option, Some, None, refl, codes}
use Rattle.jvm_types.specs.declared.{program.Row.Row, refusal.SRule.TheVariants.{S1, S2, S3, S4}}
use Rattle.checked_program.specs.{LockTags.TagShape, declared.tag.Tag.{Tag, TheVariants.{Untagged, This, At}}}
use Rattle.checked_program.proofs.TriedPrograms.{Answer, Accepted, Refused, tagged, method, op, names, to_handler, pair, sum}
use Rattle.jvm_types.specs.declared.code.Op.TheVariants as ops
use Rattle.jvm_types.specs.declared.stack_move.StackMove.TheVariants as moves
use Rattle.jvm_types.specs.declared.code.Cmp.TheVariants as cmps
use Rattle.jvm_types.specs.declared.program.Kind.TheVariants as kinds
use Rattle.jvm_types.specs.declared.program.Target.TheVariants as targets

abbrev shape : List Tag → List Tag → List Tag → Option TagShape
shape stack locals held = Some (record { stack = stack; locals = locals; held = held })

-- ---- a block in the compiler's shape

abbrev before : List Tag
before = This ∷ Untagged ∷ Untagged ∷ []

abbrev inside : List Tag
inside = This ∷ This ∷ Untagged ∷ []

block_is_tagged : tagged pair sum ≡ Accepted (
    shape [] before [] ∷ shape (This ∷ []) before [] ∷ shape (This ∷ This ∷ []) before [] ∷ shape (This ∷ []) inside []
    ∷ shape [] inside (This ∷ []) ∷ shape (This ∷ []) inside (This ∷ []) ∷ shape (Untagged ∷ []) inside (This ∷ []) ∷ shape (This ∷ Untagged ∷ []) inside (This ∷ [])
    ∷ shape (Untagged ∷ Untagged ∷ []) inside (This ∷ []) ∷ shape (Untagged ∷ []) inside (This ∷ []) ∷ shape (This ∷ Untagged ∷ []) inside (This ∷ []) ∷ shape (Untagged ∷ []) inside []
    ∷ shape (Untagged ∷ []) inside (This ∷ []) ∷ shape [] inside (This ∷ []) ∷ shape (This ∷ []) inside (This ∷ []) ∷ shape [] inside [] ∷ shape (Untagged ∷ []) inside [] ∷ [])
block_is_tagged = refl

-- ---- one refusal by each rule

-- a static method of one argument, whose monitor has no tag
enters_untagged : tagged pair (method 8 (codes "m") (kinds.Ref 1 ∷ []) None 1 1 (op 0 1 (ops.Aload 0) ∷ op 1 2 ops.Monitorenter ∷ op 2 3 ops.Return ∷ []) []) ≡ Refused S1 1
enters_untagged = refl

leaves_not_entered : tagged pair (method 0 (codes "m") [] None 1 1 (op 0 1 (ops.Aload 0) ∷ op 1 2 ops.Monitorexit ∷ op 2 3 ops.Return ∷ []) []) ≡ Refused S2 1
leaves_not_entered = refl

returns_inside : tagged pair (method 0 (codes "m") [] None 1 1 (op 0 1 (ops.Aload 0) ∷ op 1 2 ops.Monitorenter ∷ op 2 3 ops.Return ∷ []) []) ≡ Refused S4 2
returns_inside = refl

-- a block that is entered on one of two ways
entered_on_one_way : tagged pair (method 0 (codes "m") [] None 2 2
    (op 0 1 (ops.Aload 0) ∷ op 1 2 (ops.Stack moves.Dup) ∷ op 2 3 (ops.Astore 1) ∷ op 3 4 (ops.Iconst (pos 0)) ∷ op 4 7 (ops.If cmps.Eq 9) ∷ op 7 8 (ops.Aload 1) ∷ op 8 9 ops.Monitorenter ∷ op 9 10 ops.Return ∷ []) []) ≡ Refused S3 9
entered_on_one_way = refl

-- ---- more refusals

-- the outer of two monitors is left first
crossed : tagged pair (method 0 (codes "m") (kinds.Ref 1 ∷ []) None 2 3
    (op 0 1 (ops.Aload 1) ∷ op 1 2 (ops.Stack moves.Dup) ∷ op 2 3 (ops.Astore 2) ∷ op 3 4 ops.Monitorenter ∷ op 4 5 (ops.Aload 0) ∷ op 5 6 ops.Monitorenter
    ∷ op 6 7 (ops.Aload 2) ∷ op 7 8 ops.Monitorexit ∷ op 8 9 ops.Return ∷ []) []) ≡ Refused S4 5
crossed = refl

-- the inner `monitorenter` is covered, and the outer is left first
crossed_and_covered : tagged pair (method 0 (codes "m") (kinds.Ref 1 ∷ []) None 2 3
    (op 0 1 (ops.Aload 1) ∷ op 1 2 (ops.Stack moves.Dup) ∷ op 2 3 (ops.Astore 2) ∷ op 3 4 ops.Monitorenter ∷ op 4 5 (ops.Aload 0) ∷ op 5 6 ops.Monitorenter
    ∷ op 6 7 (ops.Aload 2) ∷ op 7 8 ops.Monitorexit ∷ op 8 9 ops.Return ∷ op 9 10 (ops.Stack moves.Pop) ∷ op 10 11 (ops.Aload 2) ∷ op 11 12 ops.Monitorexit ∷ op 12 13 ops.Return ∷ [])
    (to_handler 5 6 9 ∷ [])) ≡ Refused S2 7
crossed_and_covered = refl

-- an instruction in a block that can throw, and no row that catches all
abbrev reads_inside : List Row → Answer
reads_inside rows = tagged pair (method 0 (codes "m") [] None 2 2
    (op 0 1 (ops.Aload 0) ∷ op 1 2 ops.Monitorenter ∷ op 2 3 (ops.Aload 0) ∷ names 3 6 (ops.Getfield 22) (targets.Field 0) ∷ op 6 7 (ops.Stack moves.Pop)
    ∷ op 7 8 (ops.Aload 0) ∷ op 8 9 ops.Monitorexit ∷ op 9 10 ops.Return ∷ op 10 11 (ops.Stack moves.Pop) ∷ op 11 14 (ops.Goto 7) ∷ []) rows)

uncovered : reads_inside [] ≡ Refused S4 3
uncovered = refl

caught_by_class : reads_inside (record { start = 3; «end» = 6; handler = 10; catch_class = 9 } ∷ []) ≡ Refused S4 3
caught_by_class = refl

-- a row that catches all, behind one that does not: both are gone to
abbrev at_ten : List Row → List Tag
at_ten rows = held_at (reads_inside rows)
  where
    held_in : List (Option TagShape) → List Tag
    held_in (a ∷ b ∷ c ∷ d ∷ e ∷ f ∷ g ∷ h ∷ Some i ∷ rest) = i.held
    held_in frames = []

    held_at : Answer → List Tag
    held_at (Accepted frames) = held_in frames
    held_at answer = []

caught_by_both : at_ten (record { start = 3; «end» = 6; handler = 10; catch_class = 9 } ∷ to_handler 3 6 6 ∷ []) ≡ This ∷ []
caught_by_both = refl

-- behind a row that catches all none is gone to
caught_by_the_first : at_ten (to_handler 3 6 6 ∷ to_handler 3 6 10 ∷ []) ≡ []
caught_by_the_first = refl

-- `monitorenter` is covered by a row to the next instruction: with the monitor and without it
enters_or_throws : tagged pair (method 0 (codes "m") [] None 1 1 (op 0 1 (ops.Aload 0) ∷ op 1 2 ops.Monitorenter ∷ op 2 3 ops.Return ∷ []) (to_handler 1 2 2 ∷ [])) ≡ Refused S3 2
enters_or_throws = refl

-- ---- tags that are made, moved and lost

-- a monitor in a static field, as a compiler writes it
tag_of_dup : tagged pair (method 8 (codes "m") [] None 2 1
    (names 0 3 (ops.Getstatic 26) (targets.Field 2) ∷ op 3 4 (ops.Stack moves.Dup) ∷ op 4 5 (ops.Astore 0) ∷ op 5 6 ops.Monitorenter ∷ op 6 7 (ops.Aload 0) ∷ op 7 8 ops.Monitorexit ∷ op 8 9 ops.Return ∷ []) [])
    ≡ Accepted (shape [] (Untagged ∷ []) [] ∷ shape (Untagged ∷ []) (Untagged ∷ []) [] ∷ shape (At 3 ∷ At 3 ∷ []) (Untagged ∷ []) [] ∷ shape (At 3 ∷ []) (At 3 ∷ []) []
    ∷ shape [] (At 3 ∷ []) (At 3 ∷ []) ∷ shape (At 3 ∷ []) (At 3 ∷ []) (At 3 ∷ []) ∷ shape [] (At 3 ∷ []) [] ∷ [])
tag_of_dup = refl

-- a loop over that `dup`: the tag is taken from the local first
tag_made_again : tagged pair (method 8 (codes "m") [] None 2 1
    (names 0 3 (ops.Getstatic 26) (targets.Field 2) ∷ op 3 4 (ops.Stack moves.Dup) ∷ op 4 5 (ops.Astore 0) ∷ op 5 6 ops.Monitorenter ∷ op 6 9 (ops.Goto 0) ∷ []) []) ≡ Refused S3 0
tag_made_again = refl

-- a local with a tag that is stored over
stored_over : tagged pair (method 0 (codes "m") (kinds.Ref 1 ∷ []) None 1 2
    (op 0 1 (ops.Aload 1) ∷ op 1 2 (ops.Astore 0) ∷ op 2 3 (ops.Aload 0) ∷ op 3 4 ops.Monitorenter ∷ op 4 5 ops.Return ∷ []) []) ≡ Refused S1 3
stored_over = refl

-- a local that is `this` on one of two ways
joined_to_none : tagged pair (method 0 (codes "m") (kinds.Ref 1 ∷ kinds.Int ∷ []) None 1 3
    (op 0 1 (ops.Iload 2) ∷ op 1 4 (ops.If cmps.Eq 6) ∷ op 4 5 (ops.Aload 1) ∷ op 5 6 (ops.Astore 0) ∷ op 6 7 (ops.Aload 0) ∷ op 7 8 ops.Monitorenter ∷ op 8 9 ops.Return ∷ []) []) ≡ Refused S1 7
joined_to_none = refl

-- stack instructions move tags
moved_on_the_stack : tagged pair (method 0 (codes "m") [] None 3 1
    (op 0 1 (ops.Aload 0) ∷ op 1 2 (ops.Iconst (pos 1)) ∷ op 2 3 (ops.Stack moves.DupX1) ∷ op 3 4 (ops.Stack moves.Pop) ∷ op 4 5 (ops.Stack moves.Dup) ∷ op 5 6 ops.Return ∷ []) [])
    ≡ Accepted (shape [] (This ∷ []) [] ∷ shape (This ∷ []) (This ∷ []) [] ∷ shape (Untagged ∷ This ∷ []) (This ∷ []) [] ∷ shape (Untagged ∷ This ∷ Untagged ∷ []) (This ∷ []) []
    ∷ shape (This ∷ Untagged ∷ []) (This ∷ []) [] ∷ shape (This ∷ This ∷ Untagged ∷ []) (This ∷ []) [] ∷ [])
moved_on_the_stack = refl

-- two monitors, the inner one in the outer
nested : tagged pair (method 0 (codes "m") [] None 2 2
    (op 0 1 (ops.Aload 0) ∷ op 1 2 ops.Monitorenter ∷ names 2 5 (ops.Getstatic 26) (targets.Field 2) ∷ op 5 6 (ops.Stack moves.Dup) ∷ op 6 7 (ops.Astore 1) ∷ op 7 8 ops.Monitorenter
    ∷ op 8 9 (ops.Aload 1) ∷ op 9 10 ops.Monitorexit ∷ op 10 11 (ops.Aload 0) ∷ op 11 12 ops.Monitorexit ∷ op 12 13 ops.Return ∷ op 13 14 (ops.Stack moves.Pop) ∷ op 14 17 (ops.Goto 10) ∷ [])
    (to_handler 7 8 13 ∷ []))
    ≡ Accepted (shape [] (This ∷ Untagged ∷ []) [] ∷ shape (This ∷ []) (This ∷ Untagged ∷ []) [] ∷ shape [] (This ∷ Untagged ∷ []) (This ∷ []) ∷ shape (Untagged ∷ []) (This ∷ Untagged ∷ []) (This ∷ [])
    ∷ shape (At 5 ∷ At 5 ∷ []) (This ∷ Untagged ∷ []) (This ∷ []) ∷ shape (At 5 ∷ []) (This ∷ At 5 ∷ []) (This ∷ []) ∷ shape [] (This ∷ At 5 ∷ []) (At 5 ∷ This ∷ [])
    ∷ shape (At 5 ∷ []) (This ∷ At 5 ∷ []) (At 5 ∷ This ∷ []) ∷ shape [] (This ∷ At 5 ∷ []) (This ∷ []) ∷ shape (This ∷ []) (This ∷ At 5 ∷ []) (This ∷ []) ∷ shape [] (This ∷ At 5 ∷ []) []
    ∷ shape (Untagged ∷ []) (This ∷ At 5 ∷ []) (This ∷ []) ∷ shape [] (This ∷ At 5 ∷ []) (This ∷ []) ∷ [])
nested = refl
