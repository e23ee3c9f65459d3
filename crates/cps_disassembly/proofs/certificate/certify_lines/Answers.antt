use Rattle.std.proofs.Common.{◌≡◌, sym, ◌∙◌, rules}
use Rattle.cps_list.specs.Binary.{pieces_of}
use Rattle.cps_edit.specs.Assembly.{assembly_of}
use Rattle.cps_disassembly.specs.Makes.{claims_of}
use Rattle.cps_disassembly.proofs.CertificateLemmas.{made, wrong-words}
use Rattle.cps_disassembly.proofs.certificate.certify_lines.Goals as goal

pub returns-then-flagged-eq0 : goal.returns-then-flagged-eq0
returns-then-flagged-eq0 c = λ octal text holds cut.
    let lines = c.args.lines.now in
    let given = claims_of c.args.selection octal in
    let so = c.in_ok-made.ensures in
    let same : c.in_ok-made.made.machine ≡ c.args.selection.machine = search rules in
    let machine = sym so.machine ∙ same in
    made c.args.selection octal text lines c.args.claims.now c.in_ok-words.words.items cut c.requires machine
    (sym so.flagged ∙ c.if-flagged-eq0.true) holds
    (wrong-words c.args.selection given lines c.in_ok-words.words.items machine
    (c.in_ok-words.ensures given (pieces_of (assembly_of lines)) holds so.words))
    (sym c.deref.ensures.value ∙ c.has_none-all_right.ensures c.if-all_right.true)

pub returns : goal.returns
returns c = λ octal text holds cut.
    let lines = c.args.lines.now in
    let given = claims_of c.args.selection octal in
    let so = c.in_ok-made.ensures in
    let same : c.in_ok-made.made.machine ≡ c.args.selection.machine = search rules in (
      lines,
      cut,
      wrong-words c.args.selection given lines c.in_ok-words.words.items (sym so.machine ∙ same)
          (c.in_ok-words.ensures given (pieces_of (assembly_of lines)) holds so.words),
    )
