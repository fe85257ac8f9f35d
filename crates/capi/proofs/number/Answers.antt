use Rattle.std.proofs.Common.{ap}
use Rattle.capi.specs.Exports.{verdict_number}
use Rattle.capi.proofs.number.Goals as goal

pub returns : goal.returns
unfolding verdict_number
returns c = ap verdict_number c.from-v.ensures
