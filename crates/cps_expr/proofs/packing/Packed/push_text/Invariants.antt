use Rattle.std.proofs.Common.{◌≡◌, ◌+◌, drop}
use Rattle.std.specs.Prelude.{fold}
use Rattle.cps_expr.specs.Item.{codes_of, with_code}
use Rattle.cps_expr.proofs.packing.Packed.push_text.Given as goal

abbrev pub invariant-loop-character : goal.invariant-loop-character
invariant-loop-character l = record {
  word : fold with_code l.self.word (codes_of (drop l.character-index l.text))
      ≡ fold with_code l.fn.self.word (codes_of l.text);
  count : l.self.count ≡ l.fn.self.count + l.character-index;
}
