use Rattle.std.proofs.Common.{◌≡◌, false, ap, ◌∙◌, subst}
use Rattle.cps_expr.specs.declared.machine.Machine.{Machine}
use Rattle.cps_list.specs.Binary.{pieces_of}
use Rattle.cps_edit.specs.Assembly.{assembly_of}
use Rattle.cps_compare.specs.Differences.{digits_in}
use Rattle.cps_disassembly.specs.Makes.{claims_of, is_wrong}
use Rattle.cps_disassembly.proofs.WordLaws.{stands-whole}
use Rattle.cps_disassembly.proofs.a_whole_word_stands_exactly.Goals as goal

pub returns : goal.returns
returns c = λ selection octal text made address digits within whole.
    let pieces = pieces_of (assembly_of made.lines) in
    let right = subst (λ (machine : Machine). is_wrong selection (claims_of selection octal) (digits_in machine pieces) address ≡ false) made.machine (made.right address) in
    ap (λ machine. digits_in machine pieces address) made.machine
    ∙ stands-whole selection (claims_of selection octal) pieces address digits within whole right
