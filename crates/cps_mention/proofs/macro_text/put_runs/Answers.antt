use Rattle.std.proofs.Common.{rules, ◌≡◌, ◌≤◌, ◌<◌, ◌+◌, ◌-◌, length, sym, arith}
use Rattle.cps_text.specs.Insertion.{is_of_run}
use Rattle.cps_text.specs.Line.{longest_line}
use Rattle.cps_text.specs.Runs.{runs}
use Rattle.cps_text.proofs.RunLemmas.{runs-next}
use Rattle.cps_mention.specs.Code.MacroNames.{lists_of, origins_from}
use Rattle.cps_mention.proofs.CallLineLemmas.{runs-more}
use Rattle.cps_mention.proofs.macro_text.put_runs.Goals as goal

pub loop-rest-preserved : goal.loop-rest-preserved
loop-rest-preserved c =
    let names = c.args.names.now in
    let arguments = lists_of c.args.arguments.now in
    let body = c.args.body.now in
    let rest = c.loop-rest.rest.now in
    let run = c.split_at.result.0.now in
    let behind = c.split_at.result.1.now in
    let before = length body - length rest in
    let some : 0 < length rest = search rules in
    let next = runs-next is_of_run rest run behind c.first_run_len.result some (c.first_run_len.ensures.len some) c.split_at.ensures.front c.split_at.ensures.back in
    let within : c.first_run_len.result ≤ length rest = c.first_run_len.ensures.within some in
    let inside : length rest ≤ length body = c.loop-rest.invariant.0 in
    let run_len : length run ≡ c.first_run_len.result = c.split_at.ensures.front_len in
    let behind_len : length behind + c.first_run_len.result ≡ length rest = c.split_at.ensures.back_len in
    let less : length behind ≤ length body = omega arith in
    let place : length body - length behind ≡ before + length run = omega arith in
    let fits_in : before + length run ≤ length body = omega arith in (
      less,
      λ short.
          let fits : before + length run ≤ longest_line = omega arith in
          runs-more names arguments c.args.line before (length body - length behind) run (runs is_of_run rest) (runs is_of_run behind)
          c.loop-rest.origins.items c.put_run.new.origins.items (origins_from names arguments c.args.line 0 (runs is_of_run body))
          next place (c.in_ok-put_run.ensures fits) (c.loop-rest.invariant.1 short),
    )
