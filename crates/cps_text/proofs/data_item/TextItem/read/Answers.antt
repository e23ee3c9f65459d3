use Rattle.std.proofs.Common.{◌≤◌, ◌<◌, length, ◌∙◌}
use Rattle.cps_text.specs.DataItem.{BeginsWithItem}
use Rattle.cps_text.specs.ItemValue.{item_value}
use Rattle.cps_text.proofs.ItemReading.{along, found, shorter, few}
use Rattle.cps_text.proofs.data_item.TextItem.read.Goals as goal

pub returns-clause-item : goal.returns-clause-item
returns-clause-item c =
    along item_value c.args.most c.args.text.now c.item_in_front.result (λ item. BeginsWithItem c.args.most c.args.text.now item) c.item_in_front.ensures (λ item is. is)

pub returns-clause-only : goal.returns-clause-only
returns-clause-only c = λ item is. c.item_in_front.ensures ∙ found c.args.most c.args.text.now item is

pub returns-clause-within : goal.returns-clause-within
returns-clause-within c =
    along item_value c.args.most c.args.text.now c.item_in_front.result (λ item. length item.rest < length c.args.text.now) c.item_in_front.ensures
    (λ item is. (shorter c.args.most c.args.text.now item is).0)

pub returns-clause-few : goal.returns-clause-few
returns-clause-few c =
    along item_value c.args.most c.args.text.now c.item_in_front.result (λ item. (length item.characters ≤ item.count) × (item.count ≤ c.args.most)) c.item_in_front.ensures
    (few c.args.most c.args.text.now)
