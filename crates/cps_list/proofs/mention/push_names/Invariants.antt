use Rattle.std.proofs.Common.{◌≡◌, ◌++◌, drop}
use Rattle.std.specs.Prelude.{map}
use Rattle.cps_text.specs.declared.name.Name.{Name}
use Rattle.cps_list.specs.Symbols.{shown_names}
use Rattle.cps_list.proofs.mention.push_names.Given as goal

abbrev pub invariant-loop-name : goal.invariant-loop-name
invariant-loop-name l =
    l.mentions.items ++ map (λ (name : Name). record { name = name; line = l.line; is_definition = l.is_definition }) (shown_names (drop l.name-index l.names))
    ≡ l.fn.mentions.items ++ map (λ (name : Name). record { name = name; line = l.line; is_definition = l.is_definition }) (shown_names l.names)
