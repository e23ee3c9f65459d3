use Rattle.cps_markup.proofs.EscapingLemmas.{text-is-read-back}
use Rattle.cps_markup.proofs.escaping_laws.a_text_is_read_back.Goals as goal

pub returns : goal.returns
returns c = text-is-read-back
