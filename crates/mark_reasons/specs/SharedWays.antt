-- The calls that a way has in common with the one that was told last: these are told once.
use Rattle.std.specs.Prelude.{◌==◌, ◌&&◌, ◌+◌, ◌-◌, ℕ, Bool, false, if◌then◌else◌, List, [], ◌∷◌}
use Rattle.std.specs.Prelude.{drop, nat_lt, length, Option, Some, None}
use Rattle.checked_program.specs.declared.section.SectionMark.{SectionMark}
use Rattle.mark_reasons.specs.declared.reason.Site.{Site}
use Rattle.mark_reasons.specs.declared.reason.Reason.{Reason}
use Rattle.mark_reasons.specs.declared.reason.Reason.TheVariants.{Breaks, Recurs}
use Rattle.mark_reasons.specs.declared.shared.LastWay.{LastWay}

-- one instruction, however its method is called
abbrev pub is_same_site : Site → Site → Bool
is_same_site x y = (x.method == y.method) && (x.at == y.at)

-- the last ones, so many at most
abbrev pub end_of : (count : ℕ) → List Site → List Site
end_of count sites = drop (length sites - count) sites

abbrev pub begins_with : List Site → Site → Bool
begins_with [] y = false
begins_with (x ∷ xs) y = is_same_site x y

-- how many of the last are the same in two lists of one length: counted anew behind each that
-- differs
abbrev pub same_run : (run : ℕ) → List Site → List Site → ℕ
same_run run xs [] = run
same_run run xs (y ∷ ys) = same_run (if begins_with xs y then run + 1 else 0) (drop 1 xs) ys

-- and in both ways
abbrev pub same_end : List Site → List Site → ℕ
same_end xs ys = same_run 0 (end_of (length ys) xs) (end_of (length xs) ys)

-- a single call is told as it is
abbrev pub shared_calls : Option LastWay → List Site → ℕ
shared_calls None way = 0
shared_calls (Some last) way =
    if nat_lt 1 (same_end last.way way) then same_end last.way way else 0

-- ---- the way that was told last

-- the calls that a reason names
abbrev pub calls_named : Option Reason → List Site
calls_named (Some (Breaks way site rule cause)) = way
calls_named (Some (Recurs way again)) = way
calls_named reason = []

-- a section whose calls all stand below another one leaves that one to be named
abbrev pub last_with : Option LastWay → SectionMark → (way : List Site) → Option LastWay
last_with before mark [] = before
last_with before mark (x ∷ xs) =
    if shared_calls before (x ∷ xs) == length (x ∷ xs) then before
    else Some (record { method = mark.method; spot = mark.spot; way = x ∷ xs })

abbrev pub last_after : Option LastWay → SectionMark → Option Reason → Option LastWay
last_after before mark reason = last_with before mark (calls_named reason)
