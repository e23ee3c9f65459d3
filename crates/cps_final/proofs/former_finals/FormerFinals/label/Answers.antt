use Rattle.std.proofs.Common.{ap, ◌∙◌}
use Rattle.std.specs.Prelude.{option_and_then}
use Rattle.cps_final.specs.Addresses.{final_of}
use Rattle.cps_final.specs.Code.FormerFinals.{finals_before}
use Rattle.cps_final.specs.Finals.{Finals, final_value, first_word, at_base}
use Rattle.cps_final.proofs.former_finals.FormerFinals.label.Goals as goal

pub returns : goal.returns
returns c =
    c.final_of.ensures ∙ ap (λ (f : Finals). final_of (final_value f) c.in_ok-value.value) c.storage.ensures
    ∙ ap (option_and_then (at_base (first_word (finals_before c.args.self)))) c.in_ok-value.ensures
