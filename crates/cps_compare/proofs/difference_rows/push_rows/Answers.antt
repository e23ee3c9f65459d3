use Rattle.cps_compare.proofs.difference_rows.push_rows.Goals as goal

pub returns : goal.returns
returns c = c.push_row_numbers.ensures c.args.given.now.again_row
