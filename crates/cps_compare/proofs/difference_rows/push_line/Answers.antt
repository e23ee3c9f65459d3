use Rattle.std.proofs.Common.{◌++◌, ap, ◌∙◌, codes, decimal}
use Rattle.cps_compare.specs.Told.{trimmed}
use Rattle.cps_compare.proofs.TextLemmas.{five-pieces}
use Rattle.cps_compare.proofs.difference_rows.push_line.Goals as goal

pub returns : goal.returns
returns c =
    five-pieces c.args.text.now.items (codes "       line ") (decimal c.args.number) (codes ": ") (trimmed c.args.line.now) (codes "\n")
    c.extend_from_slice.new.self.items c.push_decimal.new.text.items c.extend_from_slice-2.new.self.items c.extend_from_slice-3.new.self.items c.push.new.self.items
    c.in_ok-extend_from_slice.ensures.items (c.in_ok-push_decimal.ensures ∙ ap (λ n. c.extend_from_slice.new.self.items ++ decimal n) c.from.ensures) c.in_ok-extend_from_slice-2.ensures.items
    (c.in_ok-extend_from_slice-3.ensures.items ∙ ap (λ l. c.extend_from_slice-2.new.self.items ++ l) c.trimmed.ensures)
    c.in_ok-push.ensures.items
