use Prim.Native.Char.{code}
use Rattle.std.proofs.Common.{rules, ap, ◌∙◌, ℕ}
use Rattle.std.specs.Prelude.{◌==◌, not}
use Rattle.std.proofs.lemmas.Fn.{filter_same}
use Rattle.cps_mention.specs.Spacing as spacing
use Rattle.cps_mention.proofs.spacing.unblanked.Goals as goal

pub returns : goal.returns
returns c =
    filter_same _ (λ (character : ℕ). not (character == code " ")) _ (λ x b f' k. search rules) _ _ c.retain.ensures.filtered
    ∙ ap spacing.unblanked (c.in_ok-text.ensures.items_if_clones_equal (λ x y same. same))
