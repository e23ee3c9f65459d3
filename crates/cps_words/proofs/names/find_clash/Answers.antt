use Rattle.std.proofs.Common.{List, ℕ, All, subst}
use Rattle.std.specs.Prelude.{Option}
use Rattle.cps_words.specs.Export.{wanted_of}
use Rattle.cps_words.specs.Same.{AreApart, IsApart, replaces, text_names}
use Rattle.cps_words.proofs.NameLemmas.{source-is}
use Rattle.cps_words.proofs.names.find_clash.Goals as goal

pub returns-in-None-clause-apart : goal.returns-in-None-clause-apart
returns-in-None-clause-apart g c =
    let same = g.T.Targets.same c.args.targets.now in
    let texts = text_names (wanted_of c.args.export) in (
      subst (λ (name : List ℕ). All (IsApart same name) texts) (source-is c.args.export.source _ c.unwrap_or-source.result c.unwrap_or-source.ensures)
          (subst (λ (names : List (Option (List ℕ))). All (IsApart same c.unwrap_or-source.result.now) names) c.text_names-texts.ensures c.in_default.ensures.apart),
      subst (λ (names : List (Option (List ℕ))). AreApart (replaces same) names) c.text_names-texts.ensures c.in-None.ensures.apart,
    )
