use Rattle.cps_markup.proofs.EscapingLemmas.{no-text-is-markup}
use Rattle.cps_markup.proofs.escaping_laws.no_text_is_markup.Goals as goal

pub returns : goal.returns
returns c = no-text-is-markup
