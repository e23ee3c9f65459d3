-- Why a row isn't read, in words. Our own.
use Rattle.std.specs.Prelude.{ℕ, List, [], ◌++◌, codes, decimal}
use Rattle.std.specs.Option.{option_map_or}
use Rattle.cps_claims.specs.declared.reason.ReasonWords.{ReasonWords}
use Rattle.cps_claims.specs.declared.reason.UnreadReason.{UnreadReason}
use Rattle.cps_claims.specs.declared.reason.UnreadReason.TheVariants.{DamagedDigits, GroupOf, NoAddress, BehindUnread, NoSuchAddress, NoWholeWords, EndlessRepetition, UnevenRepetition, TooManyRepetitions}

abbrev pub reason_text : UnreadReason → List ℕ
reason_text DamagedDigits = codes "damaged digits"
reason_text (GroupOf count) = codes "a group of " ++ decimal count ++ codes " digits"
reason_text NoAddress = codes "no address"
reason_text BehindUnread = codes "behind a row that isn't read"
reason_text NoSuchAddress = codes "no such address"
reason_text NoWholeWords = codes "no whole words"
reason_text EndlessRepetition = codes "a repetition without an end"
reason_text UnevenRepetition = codes "a repetition that doesn't come out even"
reason_text TooManyRepetitions = codes "too many repetitions"

-- the same by its words: what stands before a number of digits, and that number, if there is one
abbrev pub words_text : ReasonWords → List ℕ
words_text words = words.before.now ++ option_map_or (λ count. decimal count ++ codes " digits") words.digits []
