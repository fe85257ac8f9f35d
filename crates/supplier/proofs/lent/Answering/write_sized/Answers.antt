-- `write_sized` meets its contract: either workspace has room for the rows. Assumes nothing.
use Rattle.std.proofs.Common.{arith}
use Rattle.supplier.proofs.Ready.{ready_shape}
use Rattle.supplier.proofs.lent.Answering.write_sized.Goals as goal

pub write_in-requires-else-self-le-FEW_ROWS-clause-room : goal.write_in-requires-else-self-le-FEW_ROWS-clause-room
write_in-requires-else-self-le-FEW_ROWS-clause-room c =
    omega (arith, (ready_shape _ _ _ _ _ _ _ _ _ _ _ c.requires).rows_few)
