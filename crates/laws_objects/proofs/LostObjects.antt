-- An object that was never finished, and whose frame is gone: each thread sees it so.
use Rattle.std.proofs.Common.{◌≡◌, ℕ, Some, slice_get}
use Rattle.machine_types.specs.{Threads.Thread, Worlds.{Lost, Builder}}
use Rattle.laws_objects.proofs.Buildings.{Constructed}

module _ (constructed : Constructed) where
  open constructed use {w, s, con}

  -- as each thread sees the world
  abbrev pub SeenByAll : (v : ℕ) (b : Builder) → Type 0
  SeenByAll v b = (u : ℕ) (y : Thread) (there : slice_get s.threads u ≡ Some y) → (con.each u y there).now v ≡ Some b

  pub record LostIn (v : ℕ) (b : Builder) : Type 0 where
    pub item : b.item ≡ Lost
    pub is : w v ≡ Some b
    pub seen : SeenByAll v b
