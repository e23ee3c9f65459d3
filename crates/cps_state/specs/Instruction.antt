-- The form of an instruction, whichever machine's it is. Our own.
use Rattle.cps_code.specs.Form.{Form}
use Rattle.cps_state.specs.declared.instruction.MachineForm.{MachineForm}
use Rattle.cps_state.specs.declared.instruction.MachineForm.TheVariants.{Central, Peripheral}

abbrev pub form_in : MachineForm → Form
form_in (Central form) = form
form_in (Peripheral form) = form
