use Rattle.cps_compare.proofs.word_sides.WordSides.first.Goals as goal

pub returns-in-Some : goal.returns-in-Some
returns-in-Some c = λ assembly sides kept. c.first_of.ensures assembly sides kept (c.in-Some.ensures.first sides.claims kept.claims)
