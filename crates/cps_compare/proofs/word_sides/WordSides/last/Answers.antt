use Rattle.cps_compare.proofs.word_sides.WordSides.last.Goals as goal

pub returns-in-Some-clause-last : goal.returns-in-Some-clause-last
returns-in-Some-clause-last c = λ assembly sides kept. c.last_of.ensures.last assembly sides kept (c.in-Some.ensures.last sides.claims kept.claims)
