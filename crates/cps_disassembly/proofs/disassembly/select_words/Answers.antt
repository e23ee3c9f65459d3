use Rattle.std.proofs.Common.{subst, sym}
use Rattle.cps_disassembly.specs.declared.selection.Selection.{Selection}
use Rattle.cps_disassembly.specs.Makes.{claims_of}
use Rattle.cps_disassembly.specs.Disassembly.{Disassembles}
use Rattle.cps_disassembly.specs.Code.Kept.{IsWanted}
use Rattle.cps_disassembly.proofs.disassembly.select_words.Goals as goal

pub returns-in-Ok : goal.returns-in-Ok
returns-in-Ok c = λ octal holds.
    let kept = c.in-Ok.ensures (claims_of c.args.selection octal) holds in
    let wanted = c.in-Ok.wanted in
    subst (λ (s : Selection). Disassembles s octal c.make_source.result) kept.same
    (c.make_source.ensures octal (subst (λ (s : Selection). IsWanted s (claims_of s octal) wanted) (sym kept.same) kept))
