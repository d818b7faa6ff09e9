-- What a method holds behind a `monitorenter`: the tag on the top of the stack too, where there is
-- one.
use Rattle.std.specs.Prelude.{List, [], ◌∷◌}
use Rattle.checked_program.specs.declared.tag.Tag.{Tag}

abbrev pub entered_tags : List Tag → List Tag → List Tag
entered_tags [] held = held
entered_tags (t ∷ ts) held = t ∷ held
