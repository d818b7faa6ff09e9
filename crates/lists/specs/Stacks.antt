-- A stack as a list with its top first, where it is kept with its top last.
use Rattle.std.specs.Prelude.{List, reverse}

unfoldable pub top_first : {A : Type 0} → List A → List A
top_first items = reverse items
