use Rattle.std.proofs.Common.{List, ℕ, Global, Vec}
use Rattle.cps_input.proofs.InputLemmas.{fault-read, lines-parted}
use Rattle.cps_input.proofs.reading.read_lines.Goals as goal

pub returns-in-Ok-clause-read : goal.returns-in-Ok-clause-read
returns-in-Ok-clause-read g c =
    lines-parted (λ lines. lines.items) g.R.Read.remaining c.lines_of.result c.args.reader.now c.read_text.new.reader c.in-Ok.text c.in-Ok.ensures.read c.lines_of.ensures

pub returns-in-Err-clause-read : goal.returns-in-Err-clause-read
returns-in-Err-clause-read g c =
    fault-read (λ (lines : List (List ℕ)). lines) (λ (lines : Vec (List ℕ) Global). lines.items) g.R.Read.remaining c.in-Err.fault c.args.reader.now c.read_text.new.reader c.in-Err.ensures.read
