-- How one thread more stands.
use Rattle.std.proofs.Common.{◌≡◌, ◌+◌, ℕ, suc, List, ◌++◌, ap, arith}
use Rattle.checked_program.specs.MarkedProgram.{MarkedProgram}
use Rattle.json_lines.specs.declared.form.Form.{Form}
use Rattle.machine_types.specs.Core.{Core}
use Rattle.place_names.specs.declared.names.Names.{Names}
use Rattle.run_trace.specs.{EventLines.{standing_of, standings, before_at}, Stands.Stand}

pub standings_more : (c : MarkedProgram) (form : Form) (names : Names) (n : ℕ) (s : Core) (stands : List Stand) (t : ℕ) → standings c form names n s stands (t + 1) ≡ standings c form names n s stands t ++ standing_of c form names n (before_at c s stands t)
standings_more c form names n s stands t =
    let one : t + 1 ≡ suc t = omega arith in
    ap (standings c form names n s stands) one
