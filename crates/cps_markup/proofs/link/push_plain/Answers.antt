use Rattle.cps_markup.specs.Links.{Leads}
use Rattle.cps_markup.proofs.AddsLemmas.{adds-text}
use Rattle.cps_markup.proofs.link.push_plain.Goals as goal

pub returns : goal.returns
returns c = adds-text (Leads c.args.targets.now) c.args.words.now c.args.page.now.items c.push_text.new.page.items c.in_ok-push_text.ensures
