use Rattle.std.proofs.Common.{◌++◌, refl}
use Rattle.cps_input.proofs.InputLemmas.{come-piece}
use Rattle.cps_input.proofs.input.Input.take_line.Goals as goal

pub take_whole_line-requires-clause-none_begun : goal.take_whole_line-requires-clause-none_begun
take_whole_line-requires-clause-none_begun c = λ begun is. (c.if-is_empty.ensures begun is).0 refl

pub end_line-requires : goal.end_line-requires
end_line-requires c =
    let come = c.requires.come in
    (come.0 ++ c.args.left.now, come-piece c.args.self.now _ come.0 c.args.left.now come.1 c.requires.one refl c.push_all.ensures)

pub returns-else-is_empty : goal.returns-else-is_empty
returns-else-is_empty c = λ taken so_far.
    let left = c.args.left.now in
    c.end_line.ensures (taken ++ left) (come-piece c.args.self.now _ taken left so_far c.requires.one refl c.push_all.ensures)
