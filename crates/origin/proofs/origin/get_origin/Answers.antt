-- `origin::get_origin` meets its contract. Assumes nothing.
use Rattle.origin.specs.Origins.{ORIGINS}
use Rattle.origin.proofs.NoOrigin.{no_origin}
use Rattle.origin.proofs.BuiltIn.{built_in_rows}
use Rattle.origin.proofs.origin.get_origin.Goals as goal

pub returns-then-id-gt11 : goal.returns-then-id-gt11
returns-then-id-gt11 c = no_origin ORIGINS built_in_rows c.args.id c.if-id-gt11.true
