use Rattle.std.proofs.Common.{◌≡◌, ◌++◌, rules}
use Rattle.cps_markup.specs.Markup.{escaped}
use Rattle.cps_page.specs.Page.{title_text}
use Rattle.cps_page.proofs.PageLemmas.{page-of}
use Rattle.cps_page.proofs.page.make_page.Goals as goal

pub returns : goal.returns
returns g c =
    let assembly = g.V.View.assembly c.args.view.now in
    let frame = c.args.frame.now in
    let begun : c.extend_from_slice-2.new.self.items ≡ frame.front.now ++ escaped (title_text assembly.finals.program) ++ frame.middle.now = search rules in
    let ended : c.extend_from_slice-3.new.self.items ≡ c.push_sections.new.page.items ++ frame.back.now = search rules in
    page-of assembly c.in_ok-targets.targets frame.front.now frame.middle.now frame.back.now c.extend_from_slice-2.new.self.items c.push_sections.new.page.items
    c.extend_from_slice-3.new.self.items c.in_ok-targets.ensures begun c.in_ok-push_sections.ensures ended
