-- `root_digits::rounded` meets its contract. Assumes nothing.
use Rattle.std.proofs.Common.{◌*◌, ◌^◌, ◌<◌, arith}
use Rattle.square_root.proofs.Round.{root_up, root_down}
use Rattle.square_root.proofs.root_digits.rounded.Goals as goal

pub returns-then-d : goal.returns-then-d
returns-then-d c =
    let d = c.args.d in
    let ended = c.requires.1 in
    let n = c.args.m * 2 ^ 52 in
    let small : n < 2 ^ 106 = omega (arith, c.requires.0) in
    root_up n d.t d.y d.r d.rounds ended.0 small ended.1 c.if-d.true

pub returns-else-d : goal.returns-else-d
returns-else-d c =
    let d = c.args.d in
    let ended = c.requires.1 in
    let n = c.args.m * 2 ^ 52 in
    let small : n < 2 ^ 106 = omega (arith, c.requires.0) in
    root_down n d.t d.y d.r d.rounds ended.0 small ended.1 c.if-d.false
