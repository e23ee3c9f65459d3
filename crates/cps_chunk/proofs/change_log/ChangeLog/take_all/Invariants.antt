use Rattle.std.proofs.Common.{◌≡◌, drop, take}
use Rattle.cps_state.specs.Keys.{overwritten}
use Rattle.cps_final.specs.Changes.{changed}
use Rattle.cps_final.specs.Code.Kept.{changes_in}
use Rattle.cps_final.specs.Layout.{puts_of}
use Rattle.cps_chunk.specs.Code.Compared.{with_all_kept}
use Rattle.cps_chunk.specs.Noted.{AreHeld, last_puts}
use Rattle.cps_chunk.proofs.change_log.ChangeLog.take_all.Given as goal

-- the lines so far are taken, and those that are left had the answers behind them
abbrev pub invariant-loop-trace : goal.invariant-loop-trace
invariant-loop-trace g l =
    let before = g.L.Lookup.answer l.before in
    let olds = puts_of (take l.trace-index l.gone) in
    record {
      present : changes_in l.self.present ≡ with_all_kept (changes_in l.fn.self.present) olds (changed (changes_in l.fn.self.changes) before);
      former : changes_in l.self.former ≡ last_puts olds;
      changes : l.self.changes ≡ l.fn.self.changes;
      held : AreHeld (overwritten before olds) (drop l.trace-index l.gone);
    }
