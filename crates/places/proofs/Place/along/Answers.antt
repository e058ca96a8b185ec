use Rattle.std.proofs.Common.{arith}
use Rattle.places.proofs.Countings.{along_is}
use Rattle.places.proofs.Place.along.Goals as goal

pub returns : goal.returns
returns c xs e o = along_is xs c.args.self _ o (omega arith) (omega (arith, c.add_u16.ensures)) (omega (arith, c.add_u32.ensures))
