-- `replay_strike::read_part` meets its contract: a longer part is refused. Assumes nothing.
use Rattle.std.proofs.Common.{◌≤◌, arith}
use Rattle.std.proofs.lemmas.List.{length-take}
use Rattle.replay_strike.proofs.read_part.Goals as goal

pub returns : goal.returns
returns c given =
    let fits : given.from-count.result ≤ 4096 = given.if-count-gt-ROOM.false in
    rw (length-take given.in_ok-part.part.len _) (omega (arith, fits, given.in_ok-part.ensures.len, given.in_ok-part.part.ok))
