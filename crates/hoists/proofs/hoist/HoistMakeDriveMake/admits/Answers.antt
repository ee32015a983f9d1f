use Rattle.std.proofs.Common.{rules}
use Rattle.hoists.proofs.hoist.HoistMakeDriveMake.admits.Goals as goal

pub returns-in-8 : goal.returns-in-8
returns-in-8 c = search rules
