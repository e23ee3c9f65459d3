use Rattle.std.proofs.Common.{◌∙◌, List, ℕ, ap, refl, subst, sym}
use Rattle.std.specs.Prelude.{Option}
use Rattle.cps_edit.specs.Flagged.{flagged_lines}
use Rattle.cps_words.specs.Export.{IsPageFor, PlacesAll, PlacesSome, WritesAll, WritesFront, part_text}
use Rattle.cps_words.specs.Outputs.{names_of}
use Rattle.cps_words.proofs.exporting.export_lines.Goals as goal

pub returns-in-Err-clause-made : goal.returns-in-Err-clause-made
returns-in-Err-clause-made g c =
    let names = names_of c.args.export.outputs in
    let page = subst (λ (page : List ℕ). IsPageFor names c.in-Ok.traced.0 page) (sym c.deref.ensures.value) c.in-Ok-wanted_page.ensures in (
      c.requires,
      subst (λ (lines : List (List ℕ)). PlacesSome c.in-Err.fault names lines (g.T.Targets.placed c.args.targets.now)
          (g.T.Targets.placed c.write_outputs.new.targets)) c.in-Ok.ensures (c.deref.result.now, page, c.in-Err.ensures.placed),
      refl,
    )

pub returns-in-Ok-write_wanted-clause-made : goal.returns-in-Ok-write_wanted-clause-made
returns-in-Ok-write_wanted-clause-made g c =
    let names = names_of c.args.export.outputs in
    let part = c.args.export.part in
    let text = c.in-Ok-wanted_text.ensures ∙ ap (λ (lines : List (List ℕ)). part_text part lines) c.in-Ok.ensures in
    let page = subst (λ (page : List ℕ). IsPageFor names c.in-Ok.traced.0 page) (sym c.deref.ensures.value) c.in-Ok-wanted_page.ensures in (
      c.requires,
      c.flagged_lines.ensures ∙ ap (λ (lines : List (List ℕ)). flagged_lines lines) c.in-Ok.ensures,
      subst (λ (lines : List (List ℕ)). PlacesAll names lines (g.T.Targets.placed c.args.targets.now)
          (g.T.Targets.placed c.write_outputs.new.targets)) c.in-Ok.ensures (c.deref.result.now, page, c.in_default-write_outputs.ensures.placed),
      subst (λ (text : Option (List ℕ)). WritesAll g.W.Write.contents text c.args.writer.now c.write_wanted.new.writer) text c.in-Ok-write_wanted.ensures.ok,
    )

pub returns-clause-made : goal.returns-clause-made
returns-clause-made g c =
    let names = names_of c.args.export.outputs in
    let part = c.args.export.part in
    let text = c.in-Ok-wanted_text.ensures ∙ ap (λ (lines : List (List ℕ)). part_text part lines) c.in-Ok.ensures in
    let page = subst (λ (page : List ℕ). IsPageFor names c.in-Ok.traced.0 page) (sym c.deref.ensures.value) c.in-Ok-wanted_page.ensures in (
      c.requires,
      subst (λ (lines : List (List ℕ)). PlacesAll names lines (g.T.Targets.placed c.args.targets.now)
          (g.T.Targets.placed c.write_outputs.new.targets)) c.in-Ok.ensures (c.deref.result.now, page, c.in_default-write_outputs.ensures.placed),
      subst (λ (text : Option (List ℕ)). WritesFront g.W.Write.contents text c.args.writer.now c.write_wanted.new.writer) text c.in-Err-write_wanted.ensures.err,
    )
