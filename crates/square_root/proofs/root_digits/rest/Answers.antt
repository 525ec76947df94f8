-- `root_digits::rest` meets its contract. Assumes nothing.
use Rattle.std.proofs.Common.{arith}
use Rattle.square_root.proofs.Mask.{added_back}
use Rattle.square_root.proofs.root_digits.rest.Goals as goal

pub returns : goal.returns
returns c =
    let d = c.wrapping_sub_u64-d in
    let s = c.wrapping_sub_u64 in
    added_back c.args.y c.args.t d.result c.requires.0 c.requires.1 (omega arith) d.ensures.value
    s.result c.wrapping_add_u64-left.result c.wrapping_add_u64.result (omega arith) s.ensures.value
    c.wrapping_add_u64-left.ensures.value c.wrapping_add_u64.ensures.value
