-- `files::a5_table_load` meets its contract: load's, told as C is told of an answer. Assumes nothing.
use mathlib.Core.Path.{◌≡◌, refl, ap, ◌∙◌}
use mathlib.Core.List.{List}
use lib.Ieee.{Float}
use Rattle.answer.specs.Given.{Given, answered, refused, status}
use Rattle.arithmetic.specs.Arith.{ieee}
use Rattle.table_file.specs.TableFile.{table_given, told, leaves}
use Rattle.border.specs.Returns.{written}
use Rattle.exports.specs.Files.{whole}
use Rattle.exports.proofs.files.a5_table_load.Goals as goal

status_told : (g : Given (List Float)) → status (told g) ≡ status g
status_told (answered xs) = refl
status_told (refused n) = refl

left_written : (g : Given (List Float)) (old : List Float) → leaves g old ≡ written whole g old
left_written (answered xs) old = refl
left_written (refused n) old = refl

pub returns : goal.returns
returns c =
    let file = table_given ieee c.args.bytes.now in
    let loaded = c.load-loaded.ensures in
    record {
      status_is = c.status.ensures ∙ ap status loaded.answer ∙ status_told file;
      to_is = loaded.left ∙ left_written file c.args.table.now;
    }
