use Rattle.std.proofs.Common.{rules, ◌^◌, ◌*◌, ◌∙◌, ap, ℕ, ◌+◌, ◌-◌, ◌<◌, ◌≡◌, ◌/◌, ◌%◌}
use Rattle.place_core.proofs.Blocks.{put_fits}
use Rattle.place_core.proofs.lanes.put_lane.Goals as goal

pub overflow_add-result : goal.overflow_add-result
overflow_add-result c =
    let n : ℕ = c.args.word in
    let first : c.raised.result ≡ (n / 2 ^ c.args.shift % 2 ^ c.args.width) * 2 ^ c.args.shift = c.raised.ensures ∙ ap (λ (z : ℕ). z * 2 ^ c.args.shift) c.lane_bits.ensures.value in
    let below : n - (n / 2 ^ c.args.shift % 2 ^ c.args.width) * 2 ^ c.args.shift + c.args.value * 2 ^ c.args.shift < 2 ^ 64 = put_fits c.args.shift c.args.width n c.args.value c.requires.lane.1 (search rules) c.requires.fits in
    rw (first, c.raised-2.ensures) (search (rules, below))
