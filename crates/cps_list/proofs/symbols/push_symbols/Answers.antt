use Rattle.std.proofs.Common.{◌++◌, rules, sym, ap, subst, ◌∙◌}
use Rattle.std.specs.List.Sorted.{IsSortedByKey}
use Rattle.std.proofs.lemmas.List.Sorted.{answers_always}
use Rattle.cps_final.specs.contracts.finals.FinalsGathered.TheImpl.{gathered-value}
use Rattle.cps_text.specs.declared.name.Name.{Name}
use Rattle.cps_list.specs.declared.mention.Mention.{Mention}
use Rattle.cps_list.specs.Symbols.{name_order, symbol_rows}
use Rattle.cps_list.proofs.OrderLemmas.{rows-sorted}
use Rattle.cps_list.proofs.symbols.push_symbols.Goals as goal

abbrev name_of : Mention → Name
name_of mention = mention.name

pub push_rows-requires : goal.push_rows-requires
push_rows-requires c = subst (IsSortedByKey name_of name_order) (sym c.deref.ensures.value) (c.in_ok-sort_by_key.ensures.sorted name_of (answers_always _ _ _ (λ f a r q called. search rules)))

pub returns : goal.returns
returns c =
    let text = c.args.text.now.items in
    let finals = gathered-value.it c.args.finals.now in
    let sorted = c.sort_by_key.new.self.items in
    let stable = c.in_ok-sort_by_key.ensures.stable name_of (answers_always _ _ _ (λ f a r q called. search rules)) in
    c.in_ok-push_rows.ensures
    ∙ ap (λ mentions. text ++ symbol_rows finals mentions) c.deref.ensures.value
    ∙ ap (λ rows. text ++ rows) (rows-sorted finals c.args.mentions.items sorted c.sort_by_key.ensures.permutation stable)
