-- What a walk finds has places inside the limits, on every table: its spots come from nodes that keep the rules (Sources).
-- Assumes nothing.
use mathlib.Core.Path.{◌≡◌, ap, ◌∙◌}
use mathlib.Core.Logic.{⊎_elim}
use mathlib.Core.Bool.{true}
use mathlib.Core.List.{List}
use Prim.Native.Nat.{ℕ}
use Rattle.octets.specs.Lists.{every}
use Rattle.octets.proofs.Tests.{every-mem, every-make}
use Rattle.spot.specs.Keys.{limited}
use Rattle.spot.specs.Spots.{keys, put_all}
use Rattle.spot.specs.Query.{everything}
use Rattle.spot.specs.declared.Spot.{Spot}
use Rattle.spot.specs.declared.Query.{Query}
use Rattle.spot.proofs.Buffers.{keys-mem, keys_from_lem, put_all-from}
use Rattle.tree.specs.Walk.{spots, walk_table, live_spots}
use Rattle.tree.proofs.Sources.{table-source, sources-limited}

pub put_all-limited : (own found : List Spot) → every limited (keys own) ≡ true → every limited (keys found) ≡ true → every limited (keys (put_all own found)) ≡ true
put_all-limited own found g h =
    every-make limited (keys (put_all own found))
    (λ k i.
    let r = keys_from_lem (put_all own found) i in
    ap limited r.2
    ∙ ⊎_elim (λ j. every-mem limited (keys own) g (keys-mem own j)) (λ j. every-mem limited (keys found) h (keys-mem found j)) (put_all-from own found r.1))

pub walk-limited : (t : List ℕ) (q : Query) → every limited (keys (spots (walk_table t q))) ≡ true
walk-limited t q = sources-limited (spots (walk_table t q)) (table-source t q)

pub live-limited : (t : List ℕ) → every limited (keys (live_spots t)) ≡ true
unfolding live_spots
live-limited t = walk-limited t everything
