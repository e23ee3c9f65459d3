use Rattle.std.proofs.Common.{rules, ◌≡◌, ◌∙◌, Bool, Option, true}
use Rattle.std.specs.List.{list_all}
use Rattle.cps_text.specs.declared.name.Name.{Name}
use Rattle.cps_state.specs.declared.made.SetValue.{SetValue}
use Rattle.cps_final.specs.Finals.{block}
use Rattle.cps_final.specs.Outcome.{blocks_shown, blocks_stood}
use Rattle.cps_final.proofs.NamingLemmas.{blocks-join}
use Rattle.cps_final.proofs.naming.blocks_pass.Goals as goal

pub returns-then-shown_passes : goal.returns-then-shown_passes
returns-then-shown_passes g c =
    let p : Option Name → Bool = λ name. g.N.Naming.passes c.args.naming.now (block name) in
    let item = c.args.item.now in
    let stood : list_all p (blocks_stood item.stand) ≡ true = search rules in
    let shown : list_all p (blocks_shown item.made.shown) ≡ true = search rules in
    let held : c.held_pass.result ≡ list_all (λ (set : SetValue). p set.value.block) item.made.held = search rules in
    held ∙ blocks-join p (λ (set : SetValue). set.value.block) (blocks_stood item.stand) (blocks_shown item.made.shown) item.made.held stood shown
