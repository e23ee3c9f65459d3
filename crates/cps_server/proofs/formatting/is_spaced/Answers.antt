use Rattle.cps_server.proofs.formatting.is_spaced.Goals as goal

pub returns-in-None : goal.returns-in-None
returns-in-None c = λ so. record { lines = c.in_ok-has_same_lines.ensures c.if-not-branch.false; assembly = c.in_ok-changed_line.ensures c.in-None.is }
