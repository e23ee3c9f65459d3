-- A data item of characters in the code, as an item of a text.
use Rattle.cps_text.specs.declared.data_item.TextItem.{TextItem}
use Rattle.cps_text.specs.DataItem.{ItemParts}

abbrev pub item_value : TextItem → ItemParts
item_value item = record { side = item.side; count = item.count; characters = item.characters.now; rest = item.rest.now }
