use Rattle.cps_markup.proofs.IdentifierLemmas.{identifiers-differ}
use Rattle.cps_markup.proofs.place_laws.identifiers_differ.Goals as goal

pub returns : goal.returns
returns c = identifiers-differ
