use Rattle.cps_markup.specs.Links.{Leads}
use Rattle.cps_markup.proofs.AddsLemmas.{adds-front}
use Rattle.cps_markup.proofs.stretch.push_full_front.Goals as goal

pub returns : goal.returns
returns c =
    adds-front (Leads c.args.targets.now) c.has_stripe.result c.args.front.now c.args.page.now.items c.push_front_opening.new.page.items c.push_words.new.page.items c.push_closing.new.page.items
    c.in_ok-push_front_opening.ensures c.in_ok-push_words.ensures c.in_ok-push_closing.ensures
