use Rattle.std.proofs.Common.{Option, sym, ap, ◌∙◌}
use Rattle.cps_text.specs.declared.name.Name.{Name}
use Rattle.cps_final.specs.Code.Gathering.{layout_kept, grown_to}
use Rattle.cps_final.proofs.BlockLemmas.{layout-written}
use Rattle.cps_final.proofs.blocks.Blocks.put_words.Goals as goal

pub returns-in-Some-get_index_mut-clause-layout : goal.returns-in-Some-get_index_mut-clause-layout
returns-in-Some-get_index_mut-clause-layout c =
    layout-written c.args.self.now.named c.in-Some-index_of.index c.in-Some.name c.in-Some-get_index_mut.size.now c.args.words c.max.result c.args.self.now.nominal
    c.in-Some-get_index_mut.ensures.unique (sym c.in-Some-index_of.is ∙ c.index_of.ensures.index) c.in-Some-get_index_mut.ensures.value c.max.ensures
    ∙ ap (λ (b : Option Name). grown_to (layout_kept c.args.self.now.nominal c.args.self.now.named) b c.args.words) (sym c.in-Some.is)

pub returns-in-None-index_of-clause-layout : goal.returns-in-None-index_of-clause-layout
returns-in-None-index_of-clause-layout c =
    c.insert.ensures.layout ∙ ap (λ (b : Option Name). grown_to (layout_kept c.args.self.now.nominal c.args.self.now.named) b c.args.words) (sym c.in-Some.is)
