use Rattle.std.proofs.Common.{rules, arith, ◌≡◌, ◌≤◌, [], ◌∷◌, ◌++◌, ◌+◌, All, Contains, get_or, length, take, sym, ap, subst, take_all, ◌∙◌}
use Rattle.std.proofs.lemmas.List.Elements.{All-more, Contains-get_or}
use Rattle.cps_mention.specs.declared.spot.Spot.{Spot}
use Rattle.cps_mention.specs.declared.spot.SpotKind.TheVariants.{Defined}
use Rattle.cps_mention.specs.Code.Finding.{IsFound}
use Rattle.cps_mention.proofs.CheckingLemmas.{all-grown}
use Rattle.cps_mention.proofs.SpotLemmas.{found-more}
use Rattle.cps_mention.proofs.spots.each_once.Goals as goal
use Rattle.cps_mention.proofs.spots.each_once.Goals.{then-not-stands_at+in_ok-insert+in_ok-push, else-not-stands_at}

abbrev any_spot : Spot
any_spot = record { stretch = record { line = 0; first = 0; end = 0 }; kind = Defined }

pub loop-spot-preserved : goal.loop-spot-preserved
loop-spot-preserved c =
    let said = c.args.said.now in
    let i = c.loop-spot.spot-index in
    let found = c.loop-spot.found.items in
    let within = c.loop-spot-test.true in
    let before = c.loop-spot.invariant in
    elim c.if-not-stands_at.branch [
      | then-not-stands_at+in_ok-insert+in_ok-push w ↦
          let grown = ap (λ v. v.items) w.found-is ∙ w.in_ok-push.ensures.items in
          (all-grown (Contains said) found _ _ before.0 (Contains-get_or said i _ within) grown, found-more said found _ i _ within before.1 grown)
      | else-not-stands_at w ↦
          let same : c.if-not-stands_at.found.items ≡ found = ap (λ v. v.items) w.found-is in (
            subst (All (Contains said)) (sym same) before.0,
            subst (λ f. All (IsFound f) (take (i + 1) said)) (sym same) (All-more (IsFound found) said i any_spot within before.1 (subst (λ f. IsFound f (get_or said i any_spot)) c.deref.ensures.value (c.stands_at.ensures (search rules)))),
          )
    ]

pub returns : goal.returns
returns c =
    let said = c.args.said.now in
    let i = c.loop-spot.spot-index in
    let all : length said ≤ i = omega (arith, c.loop-spot-test.false) in
    record { sound = c.loop-spot.invariant.0; all = subst (All (IsFound c.loop-spot.found.items)) (take_all i said all) c.loop-spot.invariant.1 }
