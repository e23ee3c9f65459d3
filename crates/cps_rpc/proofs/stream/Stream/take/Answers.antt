use Rattle.std.proofs.Common.{◌≡◌, ◌≤◌, ◌-◌, ℕ, List, ◌∙◌, ap, arith, drop, take, length, length-drop}
use Rattle.std.proofs.lemmas.List.{take_all}
use Rattle.cps_rpc.proofs.stream.Stream.take.Goals as goal

pub returns-in-Malformed-clause-header : goal.returns-in-Malformed-clause-header
returns-in-Malformed-clause-header c is =
    let kept : List ℕ = c.deref.result.now in
    let taken = c.self.inside.taken in
    let all : length (drop taken kept) ≤ length kept - taken = omega (arith, length-drop taken kept) in
    let come : take (length kept - taken) (drop taken kept) ≡ drop taken kept = take_all _ _ all in
    rw (come ∙ ap (drop taken) c.deref.ensures.value ∙ c.self.view_is) at (c.front_of.ensures.malformed c.in-Malformed.is)
