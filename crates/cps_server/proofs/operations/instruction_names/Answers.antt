use Rattle.std.proofs.Common.{sym, ap}
use Rattle.cps_code.specs.Table.{cp_operations}
use Rattle.cps_code.specs.PeripheralTable.{pp_table}
use Rattle.cps_server.specs.Completions.{table_names}
use Rattle.cps_server.proofs.operations.instruction_names.Goals as goal

pub returns-in-Cp : goal.returns-in-Cp
unfolding cp_operations
returns-in-Cp c = sym (ap table_names c.in-Cp.is)

pub returns-in-Pp : goal.returns-in-Pp
unfolding pp_table
returns-in-Pp c = sym (ap table_names c.in-Pp.is)
