use Rattle.std.proofs.Common.{◌≡◌, ◌++◌, take, flat_map, map}
use Rattle.cps_markup.specs.Markup.{attribute_of, attribute_text}
use Rattle.cps_markup.proofs.attribute.push_attributes.Given as goal

abbrev pub invariant-loop-attribute : goal.invariant-loop-attribute
invariant-loop-attribute l = l.page.items ≡ l.fn.page.items ++ flat_map attribute_text (map attribute_of (take l.attribute-index l.attributes))
