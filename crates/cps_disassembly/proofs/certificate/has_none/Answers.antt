use Rattle.std.proofs.Common.{sym, ◌∙◌}
use Rattle.cps_disassembly.proofs.CertificateLemmas.{empty-none}
use Rattle.cps_disassembly.proofs.certificate.has_none.Goals as goal

pub returns : goal.returns
returns c = λ is. empty-none c.args.words.now (sym c.is_empty.ensures ∙ is)
