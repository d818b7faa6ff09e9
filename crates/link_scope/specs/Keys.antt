-- Members by keys of numbers.
use Rattle.std.specs.Prelude.{◌==◌, Bool, ◌&&◌, List, Option}
use Rattle.std.specs.Map.{lookup}
use Rattle.link_scope.specs.declared.table.Key.{Key}
use Rattle.link_scope.specs.declared.scope.Found.{Found}

abbrev pub is_key : Key → Key → Bool
is_key key other =
    (key.class == other.class) && (key.name == other.name) && (key.descriptor == other.descriptor)

-- the member with a key
abbrev pub found_at : List (Key × Found) → Key → Option Found
found_at members key = lookup (is_key key) members
