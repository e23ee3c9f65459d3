use Rattle.cps_input.proofs.InputLemmas.{lines-read}
use Rattle.cps_input.proofs.reading.read_text.Goals as goal

pub returns-clause-read : goal.returns-clause-read
returns-clause-read g c =
    let read = c.in_ok-read_all.ensures.ok in
    let lines = c.finish.ensures read.0 read.2 in
    lines-read (λ lines. lines) g.R.Read.remaining c.finish.result c.args.reader.now c.read_all.new.reader read.0 lines.0 read.1 lines.1 lines.2
