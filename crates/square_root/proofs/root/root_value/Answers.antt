-- `root::root_value` meets its contract: the nearest root's digits and half the exponent are the root's pattern. Assumes nothing.
use lib.Ieee.{binary64, of_bits}
use lib.Ieee.Bits.{of_bits-fits}
use Rattle.square_root.proofs.RootBits.{radicand_hi, made_lt, made_number, made_root}
use Rattle.square_root.proofs.root.root_value.Goals as goal

pub rounded-requires : goal.rounded-requires
rounded-requires c =
    let n = c.args.n in
    (radicand_hi (of_bits binary64 c.args.b) n.m n.e c.requires.0, c.requires.1)

pub overflow_add-result-2 : goal.overflow_add-result-2
overflow_add-result-2 c =
    let n = c.args.n in
    record { fits = made_lt (of_bits binary64 c.args.b) n.m n.e c.requires.0 c.rounded.result c.rounded.ensures }

pub float_from_bits-result : goal.float_from_bits-result
float_from_bits-result c =
    let n = c.args.n in
    made_number (of_bits binary64 c.args.b) n.m n.e c.requires.0 c.rounded.result c.rounded.ensures

pub returns : goal.returns
returns c =
    let n = c.args.n in
    made_root (of_bits binary64 c.args.b) n.m n.e c.requires.0 c.rounded.result c.rounded.ensures (of_bits-fits binary64 c.args.b)
