-- `big_endian::write_double` meets its contract. Assumes nothing.
use mathlib.Core.Path.{ap, ◌∙◌}
use Rattle.answer.specs.BigEndian.{bytes_of, double_bytes}
use Rattle.answer.proofs.Bytes.{eight_written, put_part}
use Rattle.answer.proofs.big_endian.write_double.Goals as goal

pub returns : goal.returns
unfolding double_bytes
returns c =
    let written = c.copy_from_slice.ensures.after ∙ c.to_be_bytes-eight.ensures ∙ eight_written c.bits.result ∙ ap (bytes_of 8) c.bits.ensures in
    rw written (put_part c.args.bytes.now (double_bytes c.args.x) c.args.at 8)
