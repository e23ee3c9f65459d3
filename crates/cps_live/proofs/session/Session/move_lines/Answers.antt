use Rattle.std.proofs.Common.{arith, ◌≡◌, ◌*◌, true, false, length, List, ℕ, sym, ap, subst, ◌∙◌}
use Rattle.std.specs.Prelude.{if◌then◌else◌}
use Rattle.cps_state.specs.Work.{counted_on}
use Rattle.cps_edit.specs.Exchange.{IsWithin, is_idle, move}
use Rattle.cps_edit.proofs.ListLemmas.{idle-same}
use Rattle.cps_chunk.specs.Exchange.{exchanged_at, moved_at}
use Rattle.cps_edit.specs.Compares.{ComparesUpTo}
use Rattle.cps_edit.proofs.PassOneLemmas.{none-more}
use Rattle.cps_chunk.specs.Touched.{touched_of_exchange}
use Rattle.cps_live.specs.Edits.{LooksOfExchange}
use Rattle.cps_live.proofs.IdleLemmas.{idle-ones, idle-twos}
use Rattle.cps_live.proofs.SessionLemmas.{move-within}
use Rattle.cps_live.proofs.session.Session.move_lines.Goals as goal

pub returns-then-is_idle-clause-ok : goal.returns-then-is_idle-clause-ok
returns-then-is_idle-clause-ok c =
    let lines = c.args.self.now.lines in
    let count = c.count-count.ensures.count in
    let e = move c.args.first c.args.last c.args.after in
    let within : IsWithin (length lines) e =
    move-within c.args.first c.args.last c.args.after (length lines) (omega (arith, c.if-first-eq0.false)) (omega (arith, c.if-last-first.false)) (omega (arith, c.if-last-count.false, count))
    (omega (arith, c.if-after-count.false, count)) c.else-first-after.either in
    let idle : is_idle e ≡ true = ap is_idle (sym c.of_move-exchange.ensures) ∙ sym c.is_idle.ensures ∙ c.if-is_idle.true in
    sym (idle-same lines e idle within)

pub returns-then-is_idle-clause-work : goal.returns-then-is_idle-clause-work
returns-then-is_idle-clause-work c =
    let lines = c.args.self.now.lines in
    let count = c.count-count.ensures.count in
    let e = move c.args.first c.args.last c.args.after in
    let within : IsWithin (length lines) e =
    move-within c.args.first c.args.last c.args.after (length lines) (omega (arith, c.if-first-eq0.false)) (omega (arith, c.if-last-first.false)) (omega (arith, c.if-last-count.false, count))
    (omega (arith, c.if-after-count.false, count)) c.else-first-after.either in
    let idle : is_idle e ≡ true = ap is_idle (sym c.of_move-exchange.ensures) ∙ sym c.is_idle.ensures ∙ c.if-is_idle.true in
    let w = c.args.work.now in
    record {
      first = none-more w.ones ∙ ap (counted_on w.ones) (sym (idle-ones lines e idle within));
      second = none-more w.twos ∙ ap (counted_on w.twos) (sym (idle-twos lines e idle within));
    }

pub returns-clause-looked : goal.returns-clause-looked
returns-clause-looked c =
    let source = c.args.self.now in
    let e = move c.args.first c.args.last c.args.after in
    let idle : is_idle e ≡ false = ap is_idle (sym c.of_move-exchange.ensures) ∙ sym c.is_idle.ensures ∙ c.if-is_idle.false in
    let moved : moved_at e source.lengths ≡ exchanged_at e source.lengths = ap (λ b. if b then source.lengths else exchanged_at e source.lengths) idle in
    subst (λ (ns : List ℕ). ComparesUpTo c.args.work.now c.exchange.new.work (128 * touched_of_exchange source.lines e source.lengths ns)) (sym moved)
    (subst (λ x. LooksOfExchange source x c.args.work.now c.exchange.new.work) c.of_move-exchange.ensures c.exchange.ensures.looked)
