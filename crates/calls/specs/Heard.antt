-- What the code took from a line, as what the line says.
use Rattle.std.specs.Prelude.{vec_items}
use Rattle.calls.specs.declared.call.Call.{Call}
use Rattle.calls.specs.declared.call.Cycle.{Cycle}
use Rattle.calls.specs.declared.directive.CabinetDirective.{CabinetDirective}
use Rattle.calls.specs.Calls.{AskedCycle, Asked, Requests, Cycles, CabinetSaid, Builds, Asks}

abbrev pub cycle_asks : Cycle → AskedCycle
cycle_asks cycle = record { frame = vec_items cycle.frame; records = vec_items cycle.records; image = cycle.image }

abbrev pub call_asks : Call → Asked
call_asks (Call.Request request) = Requests request
call_asks (Call.Cycle cycle) = Cycles (cycle_asks cycle)

abbrev pub cabinet_says : CabinetDirective → CabinetSaid
cabinet_says (CabinetDirective.Build build) = Builds build
cabinet_says (CabinetDirective.Call call) = Asks (call_asks call)
