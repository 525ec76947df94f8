-- `series::sin_cos_at` meets its contract after three quarter turns. Assumes nothing.
use Rattle.std.proofs.Common.{sym, rules}
use Rattle.elementary.proofs.Quarters.{after_3}
use Rattle.sine.proofs.series.sin_cos_at.Goals as goal

pub returns-in_default : goal.returns-in_default
returns-in_default c =
    let pair = after_3 c.args.k c.args.r (search rules) (search rules) (search rules) in
    rw (c.cosine_series-c.ensures, c.sine_series-s.ensures) (sym pair)
