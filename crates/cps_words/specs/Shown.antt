-- A text as a message shows it, without what a terminal would obey. Our own.
use Prim.Native.Char.{code}
use Rattle.std.specs.Prelude.{ℕ, ◌==◌, ◌&&◌, not, List, map, chars, encode_utf8_all, if◌then◌else◌}
use Rattle.std.specs.Char.{is_control}

-- each control character but a newline is shown as `?`
abbrev pub shown_letter : ℕ → ℕ
shown_letter letter = if is_control letter && not (letter == code "\n") then code "?" else letter

abbrev pub shown : List ℕ → List ℕ
shown text = encode_utf8_all (map shown_letter (chars text))
