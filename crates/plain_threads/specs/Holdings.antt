-- What is held when a monitor is left once.
use Rattle.std.specs.Prelude.{ℕ, suc, List}
use Rattle.machine_types.specs.PlainState.{Holding, with_holding, without_holding}

-- m was held by t at this depth
abbrev pub left_once : (t m depth : ℕ) → List Holding → List Holding
left_once t m (suc (suc depth)) hs =
    with_holding (record { monitor = m; holder = t; depth = suc depth }) hs
left_once t m depth hs = without_holding m hs
