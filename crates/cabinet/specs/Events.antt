-- What a call brings an axis, as the event of an axis that it is.
use Rattle.axes.specs.Steps.{Event, Cycles, StayBegins, LineLost}
use Rattle.cabinet.specs.declared.step.AxisEvent.{AxisEvent}
use Rattle.cabinet.specs.declared.step.AxisEvent.TheVariants as call

abbrev pub brought : AxisEvent → Event
brought (call.Cycles line bytes) = Cycles line bytes.now
brought call.StayBegins = StayBegins
brought call.LineLost = LineLost
