use Rattle.std.proofs.Common.{refl}
use Rattle.samples.proofs.Table.{table_holds}
use Rattle.samples.proofs.samples_hold.Goals as goal

pub returns : goal.returns
returns c = record { count = refl; hold = table_holds }
