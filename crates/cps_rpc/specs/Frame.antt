-- The frame of a message that is written. From the base protocol of the Language Server Protocol 3.17.
use Rattle.std.specs.Prelude.{ℕ, List, ◌++◌, length, codes, decimal}

-- the header of a message of so many bytes
abbrev pub header_of : ℕ → List ℕ
header_of count = codes "Content-Length: " ++ decimal count ++ codes "\r\n\r\n"

-- a message behind its header
abbrev pub frame_of : List ℕ → List ℕ
frame_of message = header_of (length message) ++ message
