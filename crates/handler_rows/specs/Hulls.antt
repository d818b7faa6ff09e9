-- Bounds on rows.
use Rattle.std.specs.Prelude.{◌≡◌, ◌≤◌, ◌<◌, ℕ, Bool, ◌&&◌, nat_le, nat_lt, List, [], ◌∷◌, take}
use Rattle.std.specs.Prelude.{length}
use Rattle.std.specs.List.{AllByRecursion}
use Rattle.jvm_types.specs.declared.program.Row.{Row}
use Rattle.handler_rows.specs.declared.hull.Hull.{Hull}

-- a row begins and ends within the bounds
pub record IsWithin (h : Hull) (handler : Row) : Type 0 where
  pub first : h.first ≤ handler.start
  pub last : handler.start ≤ h.last
  pub end : handler.end ≤ h.end

pub record IsWider (h wider : Hull) : Type 0 where
  pub count : wider.count ≡ h.count
  pub first : wider.first ≤ h.first
  pub last : h.last ≤ wider.last
  pub end : h.end ≤ wider.end

-- bounds on all these rows
pub record Bounds (rows : List Row) (h : Hull) : Type 0 where
  pub count : h.count ≡ length rows
  pub all : AllByRecursion (IsWithin h) rows

-- bounds on some first rows, one at least
pub record IsHull (rows : List Row) (h : Hull) : Type 0 where
  pub some : 0 < h.count
  pub few : h.count ≤ length rows
  pub all : AllByRecursion (IsWithin h) (take h.count rows)

-- for each row bounds on some from it on
abbrev pub AreHulls : List Row → List Hull → Type 0
AreHulls [] [] = Unit {0}
AreHulls (handler ∷ rows) (h ∷ hulls) = IsHull (handler ∷ rows) h × AreHulls rows hulls
AreHulls rows hulls = ⊥

-- whether a row within the bounds can cover a pc, and begin at another or behind it
abbrev pub may_have : Hull → ℕ → ℕ → Bool
may_have h pc from = nat_le h.first pc && (nat_le from h.last && nat_lt pc h.end)
