use Rattle.std.proofs.Common.{subst, sym}
use Rattle.cps_input.specs.Sources.{IsSource}
use Rattle.cps_disassembly.proofs.CertificateLemmas.{text-cut}
use Rattle.cps_disassembly.proofs.certificate.certify.Goals as goal

pub certify_lines-requires : goal.certify_lines-requires
certify_lines-requires c = let is = c.in-Ok.ensures in subst IsSource (sym is.2.0) is.2.1

pub returns-in-Ok : goal.returns-in-Ok
returns-in-Ok c = λ octal holds.
    let is = c.in-Ok.ensures in
    c.certify_lines.ensures octal c.args.text.now holds (text-cut c.args.text.now is.0 c.in-Ok.lines is.1 is.2.0)
