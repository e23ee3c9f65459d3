use Rattle.std.proofs.Common.{length, ◌∙◌, arith}
use Rattle.cps_text.specs.Octal.{octal}
use Rattle.cps_text.proofs.OctalLemmas.{octal-pair, octal-one, octal-whole}
use Rattle.cps_text.proofs.octal.write_octal.Goals as goal

pub loop-place-preserved : goal.loop-place-preserved
loop-place-preserved c =
    let now = c.loop-place.invariant in
    let same = c.write_pair.ensures.long in
    let inside = now.within in
    record {
      long = same ∙ now.long;
      within = rw same (omega arith);
      digits = octal-pair c.loop-place.text c.write_pair.new.text c.loop-place.place c.loop-place.rest c.loop-place-test.true c.write_pair.ensures.digits ∙ now.digits;
    }

pub returns-then-place-eq1 : goal.returns-then-place-eq1
returns-then-place-eq1 c =
    octal-one c.loop-place.text (octal (length c.args.text.now) c.args.number) c.loop-place.place c.loop-place.rest c.if-place-eq1.true c.loop-place.invariant.within c.loop-place.invariant.digits

pub returns-else-place-eq1 : goal.returns-else-place-eq1
returns-else-place-eq1 c =
    let few = c.loop-place-test.false in
    let other = c.if-place-eq1.false in
    octal-whole c.loop-place.text (octal (length c.args.text.now) c.args.number) c.loop-place.place c.loop-place.rest (omega arith) c.loop-place.invariant.digits
