-- `big_endian::is_nan` meets its contract: the library has it that a NaN's bits lie above infinity's. Assumes nothing.
use mathlib.Core.Path.{sym}
use lib.Ieee.{binary64}
use lib.Ieee.Bits.{nan_bits_above}
use Rattle.answer.proofs.big_endian.is_nan.Goals as goal

pub returns : goal.returns
returns c = sym (nan_bits_above binary64 c.args.bits)
