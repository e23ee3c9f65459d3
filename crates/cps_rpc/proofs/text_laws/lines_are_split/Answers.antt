use Rattle.cps_rpc.proofs.SourceLemmas.{lines-split, split-from_lines}
use Rattle.cps_rpc.proofs.text_laws.lines_are_split.Goals as goal

pub returns : goal.returns
returns c = λ text lines rest. (lines-split text lines rest, split-from_lines text lines rest)
