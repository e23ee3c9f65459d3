use Rattle.cps_markup.specs.Links.{Leads}
use Rattle.cps_page.specs.Code.Making.{words_among}
use Rattle.cps_page.proofs.PageLemmas.{adds-front}
use Rattle.cps_page.proofs.sections.push_words.Goals as goal

pub returns : goal.returns
returns g c =
    adds-front (Leads c.args.targets.now) c.row_length.result c.args.words.now.text.now _ _ (words_among c.args.targets.now.words.items) c.args.page.now.items c.push_rows.new.page.items
    c.push_word_rows.new.page.items c.split_at.ensures.front c.split_at.ensures.back c.in_ok-push_rows.ensures c.in_ok-push_word_rows.ensures
