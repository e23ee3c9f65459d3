use Rattle.cps_text.specs.Arguments.{argument_len}
use Rattle.cps_text.proofs.PartLemmas.{parts-next}
use Rattle.cps_text.proofs.argument_list.cut_argument.Goals as goal

pub returns : goal.returns
returns c =
    parts-next argument_len c.args.text.now c.split_at.result.0.now c.split_at.result.1.now c.argument_len.result
    c.behind_comma.result c.argument_len.ensures.place c.split_at.ensures.front c.split_at.ensures.back c.behind_comma.ensures
