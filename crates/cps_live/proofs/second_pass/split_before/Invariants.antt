use Rattle.std.proofs.Common.{◌≡◌, ◌++◌, take, drop}
use Rattle.cps_chunk.specs.Code.Looks.{items_before, items_from}
use Rattle.cps_live.proofs.second_pass.split_before.Given as goal

-- all so far stand in front of the place
abbrev pub invariant-loop-new : goal.invariant-loop-new
invariant-loop-new l = record {
  count : l.count ≡ l.new-index;
  before : items_before l.place l.news ≡ take l.count l.news ++ items_before l.place (drop l.count l.news);
  from : items_from l.place l.news ≡ items_from l.place (drop l.count l.news);
}
