-- `reader::model::centre_missing`: a 0 among the first entries is a centre missing.
use mathlib.Core.Path.{◌∙◌}
use native.Mathlib.Omega.{arith}
use Rattle.reader.proofs.SomeLaws.{missing_is}
use Rattle.reader.proofs.model.centre_missing.Goals as goal

pub returns : goal.returns
returns c = c.contains.ensures.value ∙ missing_is _ (omega arith)
