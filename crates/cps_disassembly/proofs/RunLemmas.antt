-- What a request selects, whatever the text.
use Rattle.std.proofs.Common.{◌≡◌, refl, None, Some}
use Rattle.std.specs.Prelude.{Option, IfSome}
use Rattle.cps_expr.specs.declared.machine.Machine.{Machine}
use Rattle.cps_expr.specs.declared.machine.Machine.TheVariants.{Cp}
use Rattle.cps_disassembly.specs.declared.request.Request.{Request}
use Rattle.cps_disassembly.specs.declared.selection.Selection.{Selection}
use Rattle.cps_disassembly.specs.Running.{Selects}

abbrev machine_for : Option Machine → Machine
machine_for None = Cp
machine_for (Some machine) = machine

asked-for : (asked : Option Machine) → IfSome asked (λ machine. machine ≡ machine_for asked)
asked-for None = tt
asked-for (Some machine) = refl

-- some words are selected
pub selects-some : (request : Request) → (selection : Selection) × Selects request selection
selects-some request = (
  record {
    machine = machine_for request.machine;
    format = request.format;
    columns = request.columns;
    from = request.from;
    to = request.to;
  },
  record { machine = asked-for request.machine; format = refl; columns = refl; from = refl; to = refl },
)
