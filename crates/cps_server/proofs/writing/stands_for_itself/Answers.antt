use Rattle.std.proofs.Common.{arith}
use Rattle.json.proofs.Printed.Strings.{escape_byte_plain}
use Rattle.cps_server.proofs.writing.stands_for_itself.Goals as goal

pub returns-then-byte-ne34 : goal.returns-then-byte-ne34
returns-then-byte-ne34 c plain = escape_byte_plain c.args.byte (grind arith) (grind arith) (grind arith)
