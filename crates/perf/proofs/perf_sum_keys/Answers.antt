-- `perf::perf_sum_keys` meets its contract: every key read lies inside the slice, with its place inside the limits.
use Rattle.std.proofs.Common.{◌≡◌, ℕ, ◌+◌, ◌*◌, ◌/◌, length, ap, ◌∙◌, arith}
use Rattle.spot.specs.Keys.{limited}
use Rattle.spot.specs.Spots.{key_at}
use Rattle.spot.proofs.Limits.{limited-each}
use Rattle.perf.proofs.perf_sum_keys.Goals as goal

pub read_key-sum-requires : goal.read_key-sum-requires
read_key-sum-requires c =
    let t = c.args.s.now in
    let i = c.loop-i.i in
    let e : 8 * i ≡ 0 + 8 * i = omega arith in
    (omega arith, ap (λ (k : ℕ). limited (key_at t k)) e ∙ limited-each t 8 (length t / 8) 0 c.requires i (omega arith))
