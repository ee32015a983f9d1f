-- What the code took from a line, as what the line says.
use Rattle.std.specs.Option.{option_map}
use Rattle.std.specs.Prelude.{Ok, Err, Option, Result}
use Rattle.scenario.specs.declared.directive.Directive.{Directive}
use Rattle.scenario.specs.declared.directive.Directive.TheVariants.{Drive, Operate}
use Rattle.grammar.specs.declared.wrong.Wrong.{Wrong}
use Rattle.scenario.specs.Described.{stack_is}
use Rattle.scenario.specs.Directives.{Said, Declares, Operates}

abbrev pub says : Directive → Said
says (Drive drive) = Declares (stack_is drive)
says (Operate number operation) = Operates number operation

abbrev pub heard : Result Directive Wrong → Result Said Wrong
heard (Ok directive) = Ok (says directive)
heard (Err wrong) = Err wrong

abbrev pub heard_line : Result (Option Directive) Wrong → Result (Option Said) Wrong
heard_line (Ok directive) = Ok (option_map says directive)
heard_line (Err wrong) = Err wrong
