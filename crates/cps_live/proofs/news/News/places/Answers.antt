use Rattle.std.proofs.Common.{rules, arith, ◌<◌, ◌^◌, ◌≡◌, get_or, length}
use Rattle.cps_live.proofs.RenewedLemmas.{place-within}
use Rattle.cps_live.proofs.news.News.places.Goals as goal

pub place_behind-requires : goal.place_behind-requires
place_behind-requires g c =
    let news = c.args.self.now.renewed.items in
    let i = c.loop-new.new-index in
    let new = c.new-item.result in
    let is : new ≡ get_or news i new = search rules in
    let lt : i < length news = omega (arith, c.loop-new-test.true) in
    let within : new.at < 2 ^ 63 = place-within 0 (2 ^ 63) i news new lt is c.requires.places in
    omega (arith, within, c.requires.few)
