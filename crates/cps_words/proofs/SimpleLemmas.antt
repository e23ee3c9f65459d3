-- The command line is one of which `clap` says what it makes of words.
use Rattle.std.proofs.Common.{◌≡◌, true, refl}
use Rattle.clap.specs.Words.{is_simple, is_simple_and_free}
use Rattle.clap.proofs.OnLiterals.{clap_on_literals}
use Rattle.cps_words.specs.Commands.{compass}

pub compass_simple : is_simple compass ≡ true
unfolding clap_on_literals
compass_simple = refl

pub compass_free : is_simple_and_free compass ≡ true
unfolding clap_on_literals
compass_free = refl
