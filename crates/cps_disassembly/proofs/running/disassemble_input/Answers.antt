use Rattle.std.proofs.Common.{Err, refl, subst}
use Rattle.cps_input.specs.declared.input_fault.InputFault.{InputFault}
use Rattle.std.specs.contracts.alloc.Global.{the_row}
use Rattle.cps_input.specs.Reads.{ReadsBytes}
use Rattle.cps_disassembly.proofs.RunLemmas.{selects-some}
use Rattle.cps_disassembly.proofs.running.disassemble_input.Goals as goal

pub returns-in-Err-Memory-clause-run : goal.returns-in-Err-Memory-clause-run
returns-in-Err-Memory-clause-run g c =
    let some = selects-some c.args.setup.now.request in
    let read = subst (λ (fault : InputFault). ReadsBytes {Z = the_row.Denot} g.O.Read.remaining (Err fault) c.args.octal.now c.read_bytes.new.reader)
    c.in-Err-Memory.field-0-is c.in-Err-Memory.ensures.read in
    (read.0, read.1, (some.0, some.1, (tt, refl)))
