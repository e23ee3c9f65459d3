use Rattle.std.proofs.Common.{length, ap, arith}
use Rattle.cps_rpc.specs.Lines.{source_lines}
use Rattle.cps_server.proofs.SourceLemmas.{length-cards}
use Rattle.cps_server.proofs.document.Document.of.Goals as goal

pub enter-requires : goal.enter-requires
enter-requires c = omega (arith, ap length c.in_ok-cards.ensures, length-cards (source_lines c.args.buffer))
