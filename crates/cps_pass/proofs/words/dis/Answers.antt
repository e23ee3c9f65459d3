use Rattle.std.proofs.Common.{sym, subst}
use Rattle.std.specs.Prelude.{OnOk}
use Rattle.cps_expr.specs.declared.pseudo.DisText.{DisText}
use Rattle.cps_state.specs.Code.Line.{Does}
use Rattle.cps_pass.specs.Placing.{asking_site}
use Rattle.cps_pass.specs.Words.{displaying}
use Rattle.cps_pass.proofs.PartLemmas.{handed-then}
use Rattle.cps_pass.proofs.words.dis.Goals as goal

pub returns-in-Counted : goal.returns-in-Counted
returns-in-Counted g c =
    handed-then (asking_site c.args.context.control c.args.context.location) c.in_ok-site.site (displaying c.args.text.now) g.L.Lookup.answer c.args.recorder.now _ c.display_counted.new.recorder
    c.display_counted.result c.in_ok-site.ensures.site
    (subst (λ (text : DisText). OnOk c.display_counted.result (Does (displaying text c.in_ok-site.site) g.L.Lookup.answer c.ask_site.new.recorder c.display_counted.new.recorder))
    (sym c.in-Counted.is) c.display_counted.ensures)
