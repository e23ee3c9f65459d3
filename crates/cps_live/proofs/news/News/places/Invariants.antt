use Rattle.std.proofs.Common.{◌≡◌, take, vec_len}
use Rattle.cps_live.specs.Code.Redone.{places_behind}
use Rattle.cps_live.proofs.news.News.places.Given as goal

abbrev pub invariant-loop-new : goal.invariant-loop-new
invariant-loop-new g l = l.places.items ≡ places_behind l.keep l.from (vec_len l.self.entered) (take l.new-index l.self.renewed.items)
