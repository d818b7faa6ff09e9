-- The steps on the words of a run: each of them counts.
use Rattle.std.specs.Prelude.{◌≡◌, ℕ, suc, ◌<◌, []}
use Rattle.atomic_table.specs.Seated.{TableId}
use Rattle.atomic_table.specs.Table.{State, Allows, Splits, Joins}
use Rattle.checked_program.specs.MarkedProgram.{MarkedProgram}
use Rattle.machine_types.specs.declared.config.Config.{Config}
use Rattle.table_rule.specs.Views.{View, ShowsRun}

-- what a seat knows: how many steps were made from it, and its threads
abbrev pub CountedView : Type 0
CountedView = ℕ × View

abbrev pub threads_seen : CountedView → View
threads_seen v = v.1

-- the words of a run, and which table has them
pub record RunTable : Type 0 where
  pub table_id : TableId
  pub program : MarkedProgram
  pub cfg : Config

-- a seat at a table
pub record RunSeat : Type 0 where
  pub table_id : TableId
  pub id : ℕ
  -- how many steps were made from it
  pub steps : ℕ
  -- what it knows of the threads of its holder
  pub view : View

-- the words, and the threads of these views, are those of a state that the run reaches
abbrev pub ShowsState : {S : Type 0} → RunTable → State S View → Type 0
ShowsState table s = ShowsRun table.program table.cfg s.words s.views

-- A step that makes word i what f says of it keeps the rule, and what it tells of the view before,
-- of the word found and of the view after is so.
pub record MayStep (table : RunTable) (seat : RunSeat) (i : ℕ) (f : ℕ → ℕ)
    (tells : View → ℕ → View → Type 0) : Type 0 where
  pub at : seat.table_id ≡ table.table_id
  pub inside : i < table.table_id.words
  pub allowed : Allows {S = Unit {0}} (ShowsState table) table.table_id.slots seat.id
      (seat.view, []) i f (λ n me. tells seat.view n me.0 × (me.1 ≡ []))

-- the same seat, from which one step more was made, that found this word
pub record HasStepped (was : RunSeat) (tells : View → ℕ → View → Type 0) (got : ℕ)
    (now : RunSeat) : Type 0 where
  pub table : now.table_id ≡ was.table_id
  pub seat : now.id ≡ was.id
  pub told : tells was.view got now.view
  pub counted : now.steps ≡ suc was.steps

-- A view may be cut in two, and the rule is kept.
pub record MayCut (table : RunTable) (seat : RunSeat) (left right : View → View) : Type 0 where
  pub at : seat.table_id ≡ table.table_id
  pub some : 0 < table.table_id.words
  pub splits : Splits {S = Unit {0}} (ShowsState table) seat.id seat.view (left seat.view)
      (right seat.view)

-- Two views may become one, and the rule is kept.
pub record MayJoin (table : RunTable) (seat other : RunSeat) (both : View → View → View)
    (spent : View) : Type 0 where
  pub at : seat.table_id ≡ table.table_id
  pub other_at : other.table_id ≡ table.table_id
  pub some : 0 < table.table_id.words
  pub joins : Joins {S = Unit {0}} (ShowsState table) seat.id seat.view other.id other.view
      (both seat.view other.view) spent

-- the same seat at the same table
abbrev pub KeepsSeat : RunSeat → RunSeat → Type 0
KeepsSeat was now = (now.table_id ≡ was.table_id) × (now.id ≡ was.id)
