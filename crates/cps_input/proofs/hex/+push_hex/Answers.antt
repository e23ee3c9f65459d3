use Rattle.std.proofs.Common.{arith}
use Rattle.cps_input.proofs.HexLemmas.{hex-none, hex-push}
use Rattle.cps_input.proofs.hex.+push_hex.Goals as goal

pub returns-then-digits-eq0 : goal.returns-then-digits-eq0
returns-then-digits-eq0 t c = hex-none c.args.text.now.items c.args.digits c.args.number c.if-digits-eq0.true

pub returns : goal.returns
returns t c =
    hex-push c.args.text.now.items _ _ c.args.digits c.args.number _ (let other = c.if-digits-eq0.false in omega arith)
    c.in_ok-push_hex.ensures c.hex_digit.ensures c.in_ok-push.ensures.items
